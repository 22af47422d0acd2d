-- Each message's reports take no more than is there, and each message leaves a state in order.
use Rattle.std.proofs.Common.{◌≡◌, ℕ, ◌+◌, ◌%◌, ◌<◌, ◌≤◌, true, cond, eqb, List, [], ◌∷◌, ◌++◌, Some, None, filter, Option, refl, subst, arith}
use Rattle.std.specs.List.{AllByRecursion}
use Rattle.std.proofs.ByRecursion.{kept_by_passes, All-weaker, All-append, all_kept_by, all_shuffled}
use Rattle.std.proofs.lemmas.Bool.Decides.{nat_tests}
use Rattle.std.proofs.lemmas.Bool.{cond_both, eqb-true}
use Rattle.units.specs.declared.Quantity.{Quantity}
use Rattle.units.specs.declared.Money.{Money}
use Rattle.units.specs.declared.side.Side.{Side}
use Rattle.units.specs.declared.side.Side.TheVariants.{Buy, Sell}
use Rattle.units.specs.Sides.{other}
use Rattle.ranked.specs.Orders.{lower}
use Rattle.ranked.proofs.Placing.{ranked_shuffled}
use Rattle.book.specs.declared.Offer.{Offer}
use Rattle.book.specs.Meaning.{side_of}
use Rattle.draw.specs.Fills.{fills}
use Rattle.rules.specs.declared.records.Answer.{Answer}
use Rattle.rules.specs.declared.records.Request.{Request}
use Rattle.rules.specs.declared.records.Terms.{Terms}
use Rattle.rules.specs.declared.records.Terms.TheVariants.{Manual, Automatic}
use Rattle.rules.specs.declared.reports.KillReason.TheVariants as reasons
use Rattle.rules.specs.declared.reports.Report.{Report}
use Rattle.rules.specs.State.{State, an_offer, an_answer, a_request}
use Rattle.rules.specs.Reports.{remain, pour, kills, filled, killed}
use Rattle.rules.specs.Offers.{under, first, none, in_turn, is_automatic, expiring, crossing, trading_ranking, met}
use Rattle.rules.specs.Calls.{Call, taken_back}
use Rattle.rules.specs.Calls.Call.{order, withdrawal, answer, confirmation, clock}
use Rattle.rules.specs.Step.{less, ends, ranked_for, trade, decision_at, decision_in_turn, with_end, with_end_if, turn, turn_by, turn_of, confirmed, confirmed_by, matched, one_by_one, expiry, expiries, turns_after, reported, received}
use Rattle.rules.specs.History.{came_as}
use Rattle.rules.proofs.Left.{touched, touched_append, count, came_append, came_none, count_remain, came_remain}
use Rattle.rules.proofs.Pours.{sum_crossing, each_crossing, came_sum, came_kept, count_kept, came_shuffled, count_shuffled, touched_kills, whole_kills, touched_fills, taken_below, fills_units, fills_whole_lots, Whole}
use Rattle.rules.proofs.Fine.{Sound, Fine, Lots, side_lots, fine_none, fine_append, one_by_one_fine, ends_fine, ends_touch, less_sound, request_laws, answer_laws}
use Rattle.rules.proofs.Arrivals.{Passes}
use Rattle.rules.proofs.Fairs.{units_of, trade_is, fits_at, fits_in_turn, traded_touch, traded_whole}

-- ── requests of a state ──

pub came_some : (lot : ℕ) (xs : List Request) (k : ℕ) → Lots a_request lot xs → 0 < count a_request xs k → 0 < came_as a_request xs k
unfolding came_as count
came_some lot [] k a h = absurd (omega arith)
came_some lot (x ∷ xs) k a h = let i = came_some lot xs k a.1 in let l = a.0.0 in grind (arith, nat_tests)

-- other numbers are not among those of one number
came_other : (n : ℕ) (xs : List Request) (k : ℕ) → (n ≡ k → ⊥) → came_as a_request (under a_request n xs) k ≡ 0
unfolding came_as
came_other n [] k ne = refl
came_other n (x ∷ xs) k ne = let h = came_other n xs k ne in grind (arith, nat_tests)

-- a request that is found is open
pub record Open (lot : ℕ) (xs : List Request) (n : ℕ) (r : Request) : Type 0 where
  pub is : r.number.0 ≡ n
  pub amount : r.left.0 ≤ came_as a_request xs r.number.0
  pub some : 0 < r.left.0
  pub whole : r.left.0 % lot ≡ 0

-- what holds of each of a list holds of the first
pub first_of : {X : Type 0} (P : X → Type 0) (xs : List X) (x : X) → AllByRecursion P xs → first xs ≡ Some x → P x
first_of P [] x a e = absurd (grind arith)
first_of P (y ∷ xs) x a e = let q : y ≡ x = cc in subst P q a.0

came_each : (xs : List Request) → AllByRecursion (λ (x : Request). x.left.0 ≤ came_as a_request xs x.number.0) xs
unfolding came_as
came_each [] = tt
came_each (x ∷ xs) = (grind (arith, nat_tests), All-weaker _ _ (λ y h. omega arith) xs (came_each xs))

pub found_open : (lot n : ℕ) (xs : List Request) → Lots a_request lot xs → (r : Request) → first (under a_request n xs) ≡ Some r → Open lot xs n r
found_open lot n xs a r e =
    let l = first_of (λ (x : Request). (0 < x.left.0) × (x.left.0 % lot ≡ 0)) _ r (all_kept_by _ _ xs a) e in
    record {
      is = eqb-true _ n (first_of (λ (x : Request). eqb x.number.0 n ≡ true) _ r (kept_by_passes _ xs) e);
      amount = first_of (λ (x : Request). x.left.0 ≤ came_as a_request xs x.number.0) _ r (all_kept_by _ _ xs (came_each xs)) e;
      some = l.0;
      whole = l.1;
    }

-- and what holds where none is found, and of an open request, holds of what is found
pub at_request : (P : Option Request → Type 0) (lot n : ℕ) (xs : List Request) → Lots a_request lot xs → (first (under a_request n xs) ≡ None → P None) →
    ((r : Request) → first (under a_request n xs) ≡ Some r → Open lot xs n r → P (Some r)) → P (first (under a_request n xs))
at_request P lot n xs a none some = go (first (under a_request n xs)) refl
  where
    go : (r : Option Request) → first (under a_request n xs) ≡ r → P r
    go None e = none e
    go (Some r) e = some r e (found_open lot n xs a r e)

-- ── fills and the end ──

module _ (s : State) (g : Sound s) (r : Request) (amount : r.left.0 ≤ came_as a_request s.requests r.number.0) (w : r.left.0 % s.book.lot ≡ 0) where
  -- fills of no more than it wants
  pub traded_fine : (d : Side) (n : ℕ) → n ≤ r.left.0 → n % s.book.lot ≡ 0 → Fine s (pour r.number.0 (ranked_for s r d) n)
  traded_fine d n few v =
      record {
        within = λ k. (let t = traded_touch s r d g n v k in grind (arith, nat_tests));
        whole = traded_whole s r d g n v;
      }

  trade_fine : (d : Side) (x : Option (Quantity × Money)) → (units_of x ≤ r.left.0) × (units_of x % s.book.lot ≡ 0) → Fine s (trade s r d x)
  trade_fine d x f = rw (trade_is s r d x) (traded_fine d _ f.0 f.1)

  end_fine : (n : ℕ) (fs : List Report) → Fine s fs → Fine s (with_end s n fs)
  end_fine n fs f = fine_append s fs _ g f (ends_fine (less fs s) n reasons.RequestDone reasons.AnswerDone (less_sound s fs g f.whole))

  end_if_fine : (n : ℕ) (fs : List Report) → Fine s fs → Fine s (with_end_if s n fs)
  end_if_fine n [] f = f
  end_if_fine n (x ∷ fs) f = end_fine n (x ∷ fs) f

  pub confirmed_fine : (d : Side) (p : ℕ) → Fine s (confirmed_by s d p r r.terms)
  confirmed_fine d p = go r.terms
    where
      go : (t : Terms) → Fine s (confirmed_by s d p r t)
      go (Manual e m) = end_fine r.number.0 (trade s r d (decision_at s r d p m.0)) (trade_fine d _ (fits_at s r d g w p m.0))
      go (Automatic e l m) = fine_none s

  pub turn_fine : Fine s (turn s r)
  turn_fine = go r.terms
    where
      go : (t : Terms) → Fine s (turn_by s r t)
      go (Manual e m) = fine_none s
      go (Automatic d limit m) = end_if_fine r.number.0 (trade s r d (decision_in_turn s r d limit.0 m.0)) (trade_fine d _ (fits_in_turn s r d g w limit.0 m.0))

  -- a turn takes nothing of another request
  module _ (k : ℕ) (ne : r.number.0 ≡ k → ⊥) (other_one : 0 < count a_request s.requests k) where
    traded_spares : (d : Side) (n : ℕ) → n % s.book.lot ≡ 0 → touched (pour r.number.0 (ranked_for s r d) n) k ≡ 0
    traded_spares d n v = let a = g.apart k in let t = traded_touch s r d g n v k in grind (arith, nat_tests, came_none)

    ends_spare : (fs : List Report) → touched (ends (less fs s) r.number.0 reasons.RequestDone reasons.AnswerDone) k ≡ 0
    ends_spare fs =
        let g' = g.apart k in
        let t = ends_touch (less fs s) r.number.0 reasons.RequestDone reasons.AnswerDone k in
        let a = came_other r.number.0 (remain a_request fs s.requests) k ne in
        let c = count_remain an_answer answer_laws fs s.answers k in
        let z = came_none an_answer (remain an_answer fs s.answers) k in
        let b = came_kept an_answer (λ (x : Answer). eqb x.request.0 r.number.0) (remain an_answer fs s.answers) k in
        grind arith

    end_if_spares : (fs : List Report) → touched fs k ≡ 0 → touched (with_end_if s r.number.0 fs) k ≡ 0
    end_if_spares [] h = h
    end_if_spares (x ∷ fs) h = let t = touched_append (x ∷ fs) (ends (less (x ∷ fs) s) r.number.0 reasons.RequestDone reasons.AnswerDone) k in let e = ends_spare (x ∷ fs) in omega arith

    nothing : touched [] k ≡ 0
    unfolding filled killed
    nothing = omega arith

    pub turn_spares : touched (turn s r) k ≡ 0
    turn_spares = go r.terms
      where
        go : (t : Terms) → touched (turn_by s r t) k ≡ 0
        go (Manual e m) = nothing
        go (Automatic d limit m) =
            end_if_spares (trade s r d (decision_in_turn s r d limit.0 m.0))
            (rw (trade_is s r d (decision_in_turn s r d limit.0 m.0)) (traded_spares d _ (fits_in_turn s r d g w limit.0 m.0).1))

-- ── requests that wait for their turn ──

pub record Due (rs : List Request) (s : State) : Type 0 where
  pub amount : (k : ℕ) → came_as a_request rs k ≤ came_as a_request s.requests k
  pub apart : (k : ℕ) → count a_request rs k ≤ 1
  pub lots : Lots a_request s.book.lot rs

pub due_step : (r : Request) (rs : List Request) (s : State) → Sound s → Due (r ∷ rs) s →
    (0 < r.left.0) × (r.left.0 % s.book.lot ≡ 0) × Fine s (turn s r) × Due rs (less (turn s r) s)
unfolding came_as count
due_step r rs s g d = (d.lots.0.0, w, turn_fine s g r amount w, record { amount = later; apart = λ k. (let a = d.apart k in omega arith); lots = d.lots.1 })
  where
    w : r.left.0 % s.book.lot ≡ 0
    w = d.lots.0.1

    amount : r.left.0 ≤ came_as a_request s.requests r.number.0
    amount = let a = d.amount r.number.0 in grind (arith, nat_tests)

    later : (k : ℕ) → came_as a_request rs k ≤ came_as a_request (remain a_request (turn s r) s.requests) k
    later k =
        let a = d.amount k in
        let b = d.apart k in
        let q = g.apart k in
        let p = came_some s.book.lot rs k d.lots.1 in
        let y = came_none a_request rs k in
        let z = came_none a_request s.requests k in
        let t = turn_spares s g r amount w k in
        let c = came_remain a_request request_laws (turn s r) s.requests k in
        grind (arith, nat_tests)

pub in_turn_due : (s : State) → Sound s → Due (in_turn s.requests) s
in_turn_due s g =
    let sh = ranked_shuffled (lower (λ (r : Request). r.number.0)) (filter is_automatic s.requests) in
    record {
      amount = λ k. (let a = came_shuffled a_request _ _ sh k in let b = came_kept a_request is_automatic s.requests k in omega arith);
      apart = λ k. (let a = count_shuffled a_request _ _ sh k in let b = count_kept a_request is_automatic s.requests k in let c = g.apart k in omega arith);
      lots = all_shuffled _ _ _ sh (all_kept_by _ _ s.requests g.requests);
    }

-- ── each message ──

expiry_fine : (rs : List Request) (s : State) → Sound s → Fine s (one_by_one expiry rs s)
expiry_fine rs s g = one_by_one_fine expiry (λ _ _. Unit {0}) (λ r rs s g _. (ends_fine s r.number.0 reasons.RequestExpired reasons.AnswerExpired g, tt)) rs s g tt

pub expiries_fine : (t : ℕ) (s : State) → Sound s → Fine s (expiries t s)
expiries_fine t s g = expiry_fine (expiring t s.requests) s g

turns_fine : (s : State) → Sound s → Fine s (one_by_one turn (in_turn s.requests) s)
turns_fine s g = one_by_one_fine turn Due (λ r rs s g d. (let h = due_step r rs s g d in (h.2, h.3))) (in_turn s.requests) s g (in_turn_due s g)

pub clock_fine : (t : ℕ) (s : State) → Sound s → Fine s (turns_after s (expiries t s))
clock_fine t s g =
    let e = expiries_fine t s g in
    fine_append s (expiries t s) _ g e (turns_fine (less (expiries t s) s) (less_sound s (expiries t s) g e.whole))

taken_back_fine : (s : State) (k : ℕ) → Sound s → Fine s (taken_back s.book.buys s.book.sells s.answers k)
taken_back_fine s k g =
    let A = kills an_answer reasons.Withdrawn (under an_answer k s.answers) in
    let B = kills an_offer reasons.Withdrawn (under an_offer k s.book.buys) in
    let C = kills an_offer reasons.Withdrawn (under an_offer k s.book.sells) in
    record {
      within = λ n. grind (arith, touched_append, touched_kills, came_kept);
      whole = All-append _ A (B ++ C) (whole_kills an_answer _ reasons.Withdrawn _ (all_kept_by _ _ s.answers g.answers))
          (All-append _ B C (whole_kills an_offer _ reasons.Withdrawn _ (all_kept_by _ _ s.book.buys g.buys)) (whole_kills an_offer _ reasons.Withdrawn _ (all_kept_by _ _ s.book.sells g.sells)));
    }

-- an order's fills, where its own side has it
module _ (s : State) (g : Sound s) (n : ℕ) (d : Side) (p q : ℕ) (w : q % s.book.lot ≡ 0) where
  abbrev theirs : List Offer
  theirs = side_of s.book (other d)

  matched_touch : (k : ℕ) → touched (matched s n (Some d) p q) k ≤ cond (eqb n k) q 0 + came_as an_offer theirs k
  matched_touch k =
      let R = trading_ranking d (crossing d p (met (other d) theirs)) in
      let t = touched_fills n (fills R q) k in
      let b = taken_below R q k in
      let u = fills_units R q in
      let c = sum_crossing d (other d) p theirs (λ m l. cond (eqb m k) l 0) in
      grind (arith, nat_tests, came_sum)

  matched_whole : Whole s.book.lot (matched s n (Some d) p q)
  matched_whole = fills_whole_lots s.book.lot n _ q w (each_crossing d (other d) p theirs (λ o. o.left.0 % s.book.lot ≡ 0) (All-weaker _ _ (λ x h. h.1) theirs (side_lots s g (other d))))

  pub matched_fine : ((k : ℕ) → cond (eqb n k) q 0 + came_as an_offer (side_of s.book (other d)) k ≤ came_as an_offer s.book.buys k + came_as an_offer s.book.sells k) →
      Fine s (matched s n (Some d) p q)
  matched_fine own = record { within = λ k. (let t = matched_touch k in let o = own k in omega arith); whole = matched_whole }

-- what came with an order stands on its own side
own_side : (s : State) (d : Side) (f : _) (p : _) (q : _) (k : ℕ) → let z = received s (order f (Some d) p q) in
    cond (eqb s.next k) q.0 0 + came_as an_offer (side_of z.book (other d)) k ≤ came_as an_offer z.book.buys k + came_as an_offer z.book.sells k
unfolding came_as
own_side s Buy f p q k = grind (arith, came_append)
own_side s Sell f p q k = grind (arith, came_append)

-- what an accepted message reports
pub reported_fine : (s : State) (c : Call) → Passes s c → Sound (received s c) → Fine (received s c) (reported (received s c) s.next c)
reported_fine s (order f (Some d) p q) a g = matched_fine (received s (order f (Some d) p q)) g s.next d p.0 q.0 a.0.1 (own_side s d f p q)
reported_fine s (withdrawal f k) a g =
    let z = received s (withdrawal f k) in
    cond_both (none (under a_request k.0 z.requests)) _ _ (λ rs. Fine z rs) (λ _. taken_back_fine z k.0 g) (λ _. ends_fine z k.0 reasons.RequestWithdrawn reasons.AnswerDropped g)
reported_fine s (answer f d k p q) a g =
    let z = received s (answer f d k p q) in
    at_request (λ r. Fine z (turn_of z r)) z.book.lot k.0 z.requests g.requests (λ _. fine_none z) (λ r _ o. turn_fine z g r o.amount o.whole)
reported_fine s (confirmation f (Some d) k p) a g =
    let z = received s (confirmation f (Some d) k p) in
    at_request (λ r. Fine z (confirmed z (Some d) p.0 r)) z.book.lot k.0 z.requests g.requests (λ _. fine_none z) (λ r _ o. confirmed_fine z g r o.amount o.whole d p.0)
reported_fine s (clock t) a g = clock_fine t.0 (received s (clock t)) g
reported_fine s _ a g = fine_none _
