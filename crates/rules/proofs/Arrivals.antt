-- What the checks say of a message that passes them, and the state with what came.
use Rattle.std.proofs.Common.{◌≡◌, ℕ, ◌+◌, ◌%◌, ◌<◌, ◌≤◌, max, Bool, true, false, cond, ◌&&◌, eqb, List, [], ◌∷◌, ◌++◌, Some, None, Option, sym, refl, arith}
use Rattle.std.specs.List.{AllByRecursion}
use Rattle.std.proofs.ByRecursion.{All-append, All-weaker}
use Rattle.std.proofs.lemmas.Bool.Decides.{nat_tests}
use Rattle.units.specs.declared.side.Side.TheVariants.{Buy, Sell}
use Rattle.units.specs.declared.refusal.Refusal.{Refusal}
use Rattle.rules.specs.State.{Kept, State, an_offer, an_answer, a_request, greatest}
use Rattle.rules.specs.Offers.{under, any, none, is_automatic}
use Rattle.rules.specs.Calls.{Call, Sent, News, brings, is_numbered, next_of, given}
use Rattle.rules.specs.Calls.Call.{order, manual, automatic, answer, confirmation, clock}
use Rattle.rules.specs.Checks.{Check, checks, all_checks, refusal, first_failed, is_none}
use Rattle.rules.specs.Step.{Out, step, answered, received}
use Rattle.rules.specs.History.{Ledger, with_call, next_number, came_as}
use Rattle.rules.specs.Law.{open_now}
use Rattle.rules.proofs.Left.{count, count_append, came_append}
use Rattle.rules.proofs.Fine.{Sound, counted}

-- no check of these calls for a refusal
abbrev pub Free : List Check → Type 0
Free cs = AllByRecursion (λ (c : Check). c.1 ≡ false) cs

-- where no refusal is called for, each check is passed
passed : (cs : List Check) → first_failed cs ≡ None → Free cs
passed [] e = tt
passed (c ∷ cs) e = let f : c.1 ≡ false = grind (arith, nat_tests) in (f, passed cs (simp f at e))

pub free : (s : State) (m : Sent) → refusal s m ≡ None → Free (checks s m.call)
free s m e = (passed (all_checks s m) e).1.1.1

-- a step by its checks: a message is refused by the first that calls for it, or accepted
pub step_cases : (P : Out → Type 0) (s : State) (m : Sent) → ((r : Refusal) → refusal s m ≡ Some r → P (answered s m.call (Some r))) → (refusal s m ≡ None → P (answered s m.call None)) → P (step s m)
unfolding step
step_cases P s m refused accepted = go (refusal s m) refl
  where
    go : (x : Option Refusal) → refusal s m ≡ x → P (answered s m.call x)
    go (Some r) e = refused r e
    go None e = accepted e

-- what a message that passes the checks has
abbrev pub Passes : State → Call → Type 0
Passes s (order f d p q) = ((0 < q.0) × (q.0 % s.book.lot ≡ 0)) × (is_none d ≡ false)
Passes s (manual f d q m w) = (0 < q.0) × (q.0 % s.book.lot ≡ 0)
Passes s (automatic f d p q m w) = ((0 < q.0) × (q.0 % s.book.lot ≡ 0)) × (is_none d ≡ false)
Passes s (answer f d k p q) = ((0 < q.0) × (q.0 % s.book.lot ≡ 0)) × (none (under a_request k.0 s.requests) ≡ false) × (is_none d ≡ false)
Passes s (confirmation f d k p) = (is_none d ≡ false) × (none (under a_request k.0 s.requests) ≡ false) × (any is_automatic (under a_request k.0 s.requests) ≡ false)
Passes s _ = Unit {0}

any_some : {X : Type 0} (p : X → Bool) (xs : List X) → any p xs ≡ true → none xs ≡ false
any_some p [] e = sym e
any_some p (x ∷ xs) e = refl

pub passes : (s : State) (c : Call) → Free (checks s c) → Passes s c
passes s (confirmation f d k p) h = let a = any_some is_automatic (under a_request k.0 s.requests) in grind (arith, nat_tests)
passes s _ h = grind (arith, nat_tests)

-- what a message brings has the number given, and something left, in whole lots
abbrev pub New : {X : Type 0} → Kept X → ℕ → ℕ → List X → Type 0
New k lot n xs = AllByRecursion (λ x. (k.number x ≡ n) × ((0 < k.left x) × (k.left x % lot ≡ 0))) xs

pub record NewsFit (lot n : ℕ) (w : News) : Type 0 where
  pub buys : New an_offer lot n w.buys
  pub sells : New an_offer lot n w.sells
  pub answers : New an_answer lot n w.answers
  pub requests : New a_request lot n w.requests

pub brings_fit : (s : State) (c : Call) (n t : ℕ) → Passes s c → NewsFit s.book.lot n (brings c n t)
brings_fit s (order f (Some Buy) p q) n t h = record { buys = ((refl, h.0), tt); sells = tt; answers = tt; requests = tt }
brings_fit s (order f (Some Sell) p q) n t h = record { buys = tt; sells = ((refl, h.0), tt); answers = tt; requests = tt }
brings_fit s (manual f d q m w) n t h = record { buys = tt; sells = tt; answers = tt; requests = ((refl, h), tt) }
brings_fit s (automatic f (Some d) p q m w) n t h = record { buys = tt; sells = tt; answers = tt; requests = ((refl, h.0), tt) }
brings_fit s (answer f (Some d) k p q) n t h = record { buys = tt; sells = tt; answers = ((refl, h.0), tt); requests = tt }
brings_fit s _ n t h = record { buys = tt; sells = tt; answers = tt; requests = tt }

pub brings_given : (c : Call) (n t : ℕ) → brings c (given c n) t ≡ brings c n t
brings_given (clock w) n t = refl
brings_given _ n t = refl

-- how many it brings under the number k, and how much
abbrev news_count : News → ℕ → ℕ
news_count w k = count an_offer w.buys k + count an_offer w.sells k + count an_answer w.answers k + count a_request w.requests k

abbrev pub news_came : News → ℕ → ℕ
news_came w k = came_as an_offer w.buys k + came_as an_offer w.sells k + came_as an_answer w.answers k + came_as a_request w.requests k

-- at most one, under the number given
brings_few : (c : Call) (n t k : ℕ) → news_count (brings c n t) k ≤ cond (is_numbered c && eqb n k) 1 0
unfolding count
brings_few (order f (Some Buy) p q) n t k = omega arith
brings_few (order f (Some Sell) p q) n t k = omega arith
brings_few (automatic f (Some d) p q m w) n t k = omega arith
brings_few (answer f (Some d) j p q) n t k = omega arith
brings_few _ n t k = omega arith

pub next_grows : (c : Call) (n : ℕ) → n ≤ next_of c n
next_grows c n = grind arith

pub received_open : (s : State) (c : Call) (k : ℕ) → open_now (received s c) k ≡ open_now s k + news_came (brings c s.next s.time) k
received_open s c k = grind (arith, came_append)

pub received_sound : (s : State) (c : Call) → Passes s c → Sound s → Sound (received s c)
received_sound s c h g = record {
  lot = g.lot;
  apart = λ k. (let e = total k in let o = brings_few c s.next s.time k in let a = g.apart k in let z = g.below k in grind (arith, nat_tests));
  below = λ k l. (let e = total k in let o = brings_few c s.next s.time k in let m = next_grows c s.next in let z = g.below k in grind (arith, nat_tests));
  buys = All-append _ s.book.buys _ g.buys (All-weaker _ _ (λ x h. h.1) new.buys fit.buys);
  sells = All-append _ s.book.sells _ g.sells (All-weaker _ _ (λ x h. h.1) new.sells fit.sells);
  answers = All-append _ s.answers _ g.answers (All-weaker _ _ (λ x h. h.1) new.answers fit.answers);
  requests = All-append _ s.requests _ g.requests (All-weaker _ _ (λ x h. h.1) new.requests fit.requests);
}
  where
    new : News
    new = brings c s.next s.time

    fit : NewsFit s.book.lot s.next new
    fit = brings_fit s c s.next s.time h

    total : (k : ℕ) → counted (received s c) k ≡ counted s k + news_count new k
    total k = grind (arith, count_append)

-- ── the next number ──

greatest_append : {X : Type 0} (k : Kept X) (xs ys : List X) → greatest k (xs ++ ys) ≡ max (greatest k xs) (greatest k ys)
unfolding greatest
greatest_append k [] ys = omega arith
greatest_append k (x ∷ xs) ys = let h = greatest_append k xs ys in omega arith

abbrev news_greatest : News → ℕ
news_greatest w = max (max (greatest an_offer w.buys) (greatest an_offer w.sells)) (max (greatest an_answer w.answers) (greatest a_request w.requests))

-- what a message that passes the checks brings has the number given
brings_greatest : (s : State) (c : Call) (n t : ℕ) → Passes s c → news_greatest (brings c (given c n) t) ≡ given c n
unfolding greatest
brings_greatest s (order f (Some Buy) p q) n t h = grind arith
brings_greatest s (automatic f (Some d) p q m w) n t h = grind arith
brings_greatest s (answer f (Some d) k p q) n t h = grind arith
brings_greatest s _ n t h = grind arith

pub next_with : (s : State) (c : Call) (l : Ledger) (t : ℕ) → Passes s c → next_number (with_call l c (given c (next_number l)) t) ≡ next_of c (next_number l)
next_with s c l t h =
    let w = brings c (given c (next_number l)) t in
    let a = greatest_append an_offer l.buys w.buys in
    let b = greatest_append an_offer l.sells w.sells in
    let x = greatest_append an_answer l.answers w.answers in
    let y = greatest_append a_request l.requests w.requests in
    let z = brings_greatest s c (next_number l) t h in
    grind arith
