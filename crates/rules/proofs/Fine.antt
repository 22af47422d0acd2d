-- States in order, and reports that take no more than is there, in whole lots.
use Rattle.std.proofs.Common.{◌≡◌, ℕ, ◌+◌, ◌%◌, ◌<◌, ◌≤◌, eqb, List, [], ◌∷◌, ◌++◌, refl, arith}
use Rattle.std.specs.List.{AllByRecursion}
use Rattle.std.proofs.ByRecursion.{All-append, all_kept_by, all_shuffled}
use Rattle.units.specs.declared.side.Side.{Side}
use Rattle.units.specs.declared.side.Side.TheVariants.{Buy, Sell}
use Rattle.ranked.proofs.Placing.{ranked_shuffled}
use Rattle.ranked.specs.Orders.{lower}
use Rattle.book.specs.Meaning.{side_of}
use Rattle.rules.specs.declared.records.Answer.{Answer}
use Rattle.rules.specs.declared.records.Request.{Request}
use Rattle.rules.specs.declared.reports.Report.{Report}
use Rattle.rules.specs.declared.reports.KillReason.{KillReason}
use Rattle.rules.specs.State.{Kept, an_offer, an_answer, a_request, State}
use Rattle.rules.specs.Reports.{filled, killed, kills}
use Rattle.rules.specs.Offers.{offered_to, under, by_number}
use Rattle.rules.specs.Step.{less, ends, one_by_one}
use Rattle.rules.specs.History.{came_as}
use Rattle.rules.specs.Law.{open_now}
use Rattle.rules.proofs.Left.{touched, touched_append, KeptLaws, count, came_none, count_remain, came_remain, whole_remain}
use Rattle.rules.proofs.Pours.{Whole, came_kept, came_shuffled, touched_kills, whole_kills, touched_whole}

abbrev pub Lots : {X : Type 0} → Kept X → ℕ → List X → Type 0
Lots k lot xs = AllByRecursion (λ x. (0 < k.left x) × (k.left x % lot ≡ 0)) xs

pub offer_laws : KeptLaws an_offer
offer_laws = record { number_with = λ x n. refl; left_with = λ x n. refl; twice = λ x a b. refl; same = λ x. refl }

pub answer_laws : KeptLaws an_answer
answer_laws = record { number_with = λ x n. refl; left_with = λ x n. refl; twice = λ x a b. refl; same = λ x. refl }

pub request_laws : KeptLaws a_request
request_laws = record { number_with = λ x n. refl; left_with = λ x n. refl; twice = λ x a b. refl; same = λ x. refl }

-- how many offers, answers and requests of a state have the number n
abbrev pub counted : State → ℕ → ℕ
counted s n = count an_offer s.book.buys n + count an_offer s.book.sells n + count an_answer s.answers n + count a_request s.requests n

-- no number names two, none is at or above the next, and what is left is some whole lots
pub record Sound (s : State) : Type 0 where
  pub lot : 0 < s.book.lot
  pub apart : (n : ℕ) → counted s n ≤ 1
  pub below : (n : ℕ) → s.next ≤ n → counted s n ≡ 0
  pub buys : Lots an_offer s.book.lot s.book.buys
  pub sells : Lots an_offer s.book.lot s.book.sells
  pub answers : Lots an_answer s.book.lot s.answers
  pub requests : Lots a_request s.book.lot s.requests

-- the offers of a side
pub side_lots : (s : State) → Sound s → (d : Side) → Lots an_offer s.book.lot (side_of s.book d)
side_lots s g Buy = g.buys
side_lots s g Sell = g.sells

-- of every number the reports take at most what is open, and whole lots
pub record Fine (s : State) (rs : List Report) : Type 0 where
  pub within : (n : ℕ) → touched rs n ≤ open_now s n
  pub whole : Whole s.book.lot rs

pub fine_none : (s : State) → Fine s []
unfolding filled killed
fine_none s = record { within = λ n. omega arith; whole = tt }

module _ (s : State) (rs : List Report) where
  pub counted_less : (n : ℕ) → counted (less rs s) n ≤ counted s n
  counted_less n =
      omega (arith, count_remain an_offer offer_laws rs s.book.buys n, count_remain an_offer offer_laws rs s.book.sells n, count_remain an_answer answer_laws rs s.answers n, count_remain a_request request_laws rs s.requests n)

  pub less_sound : Sound s → Whole s.book.lot rs → Sound (less rs s)
  less_sound g w =
      let t = touched_whole s.book.lot rs w in
      record {
        lot = g.lot;
        apart = λ n. (let a = g.apart n in let b = counted_less n in omega arith);
        below = λ n l. (let a = g.below n l in let b = counted_less n in omega arith);
        buys = whole_remain an_offer offer_laws _ rs s.book.buys t g.buys;
        sells = whole_remain an_offer offer_laws _ rs s.book.sells t g.sells;
        answers = whole_remain an_answer answer_laws _ rs s.answers t g.answers;
        requests = whole_remain a_request request_laws _ rs s.requests t g.requests;
      }

  pub less_open : Sound s → ((n : ℕ) → touched rs n ≤ open_now s n) → (n : ℕ) → open_now (less rs s) n + touched rs n ≡ open_now s n
  less_open g w n =
      let one = g.apart n in
      let few = w n in
      let a = came_remain an_offer offer_laws rs s.book.buys n in
      let b = came_remain an_offer offer_laws rs s.book.sells n in
      let c = came_remain an_answer answer_laws rs s.answers n in
      let d = came_remain a_request request_laws rs s.requests n in
      grind (arith, came_none)

pub fine_append : (s : State) (a b : List Report) → Sound s → Fine s a → Fine (less a s) b → Fine s (a ++ b)
fine_append s a b g f h =
    record {
      within = λ n. (let t = touched_append a b n in let i = h.within n in let o = less_open s a g f.within n in omega arith);
      whole = All-append _ a b f.whole h.whole;
    }

-- what requests report one after another, as far as each keeps its own: P is what holds of those to come
pub one_by_one_fine : (f : State → Request → List Report) (P : List Request → State → Type 0) →
    ((r : Request) (rs : List Request) (s : State) → Sound s → P (r ∷ rs) s → Fine s (f s r) × P rs (less (f s r) s)) →
    (rs : List Request) (s : State) → Sound s → P rs s → Fine s (one_by_one f rs s)
unfolding one_by_one
one_by_one_fine f P each [] s g p = fine_none s
one_by_one_fine f P each (r ∷ rs) s g p =
    let h = each r rs s g p in
    fine_append s (f s r) _ g h.0 (one_by_one_fine f P each rs (less (f s r) s) (less_sound s (f s r) g h.0.whole) h.1)

-- the end of a request
module _ (s : State) (n : ℕ) (a b : KillReason) where
  its : List Answer
  its = by_number an_answer (offered_to n s.answers)

  pub ends_touch : (k : ℕ) → touched (ends s n a b) k ≡ came_as a_request (under a_request n s.requests) k + came_as an_answer (offered_to n s.answers) k
  unfolding its
  ends_touch k =
      let t = touched_append (kills a_request a (under a_request n s.requests)) (kills an_answer b its) k in
      let r = touched_kills a_request a (under a_request n s.requests) k in
      let q = touched_kills an_answer b its k in
      let h = came_shuffled an_answer _ its (ranked_shuffled (lower (λ (x : Answer). x.number.0)) (offered_to n s.answers)) k in
      omega arith

  pub ends_fine : Sound s → Fine s (ends s n a b)
  unfolding its
  ends_fine g =
      record {
        within = λ k. (
            let t = ends_touch k in
            let r = came_kept a_request (λ (r : Request). eqb r.number.0 n) s.requests k in
            let q = came_kept an_answer (λ (x : Answer). eqb x.request.0 n) s.answers k in
            omega arith);
        whole = All-append _ (kills a_request a (under a_request n s.requests)) (kills an_answer b its)
            (whole_kills a_request _ a _ (all_kept_by _ _ s.requests g.requests))
            (whole_kills an_answer _ b its (all_shuffled _ _ its (ranked_shuffled (lower (λ (x : Answer). x.number.0)) (offered_to n s.answers)) (all_kept_by _ _ s.answers g.answers)));
      }
