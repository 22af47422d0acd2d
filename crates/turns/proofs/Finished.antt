-- What is written behind a front, and what two lists of reports leave one after another they leave together.
use Rattle.std.proofs.Common.{◌≡◌, ℕ, List, [], ◌++◌, ◌+◌, take, drop, Some, sym, ◌∙◌, subst, ap₂, arith, length-append, length-drop}
use Rattle.std.proofs.lemmas.List.{length-take, take-append-le}
use Rattle.ranked.proofs.Fronts.{front_then}
use Rattle.units.specs.Sides.{other}
use Rattle.ranked.specs.Writes.{WritesFront}
use Rattle.book.specs.Meaning.{Meaning}
use Rattle.rules.specs.declared.records.Answer.{Answer}
use Rattle.rules.specs.declared.records.Request.{Request}
use Rattle.rules.specs.declared.reports.KillReason.TheVariants as reasons
use Rattle.rules.specs.declared.reports.Report.{Report}
use Rattle.rules.specs.State.{Kept, an_answer, a_request}
use Rattle.rules.specs.Reports.{remain}
use Rattle.rules.specs.Offers.{under, first}
use Rattle.rules.specs.Calls.{ending}
use Rattle.rules.proofs.Left.{KeptLaws, remain_remain}
use Rattle.turns.specs.Settled.{book_less, Settles}
use Rattle.turns.specs.Tables.{Lessens}
use Rattle.turns.specs.Follows.{TradesSettle}
use Rattle.turns.specs.declared.seat.Wanted.{Wanted}
use Rattle.turns.specs.Turn.{ending_after, holding, fills_at, confirmation, BookAfter}

-- what is written behind a front, in the list that was split there
pub end_behind : {X : Type 0} {old mid front back rest : List X} {n m : ℕ} {xs ys : List X} → front ≡ take n mid → back ≡ drop n mid → WritesFront old mid n xs → WritesFront back rest m ys → WritesFront old (front ++ rest) (n + m) (xs ++ ys)
end_behind {X} {old} {mid} {front} {back} {rest} {n} {m} {xs} {ys} p q v w =
    subst (λ (z : List X). WritesFront old (z ++ rest) (n + m) (xs ++ ys)) (sym p) (front_then v (subst (λ (z : List X). WritesFront z rest m ys) q w))

-- the end is of what the fills left
pub ending_is : (fs : List Report) (rs ps : List Request) (xs ys : List Answer) (n : ℕ) → ps ≡ remain a_request fs rs → ys ≡ remain an_answer fs xs → ending ps ys n reasons.RequestDone reasons.AnswerDone ≡ ending_after fs rs xs n
ending_is fs rs ps xs ys n e f = ap₂ (λ (v : List Request) (w : List Answer). ending v w n reasons.RequestDone reasons.AnswerDone) e f

-- first the reports fs, and then, of what these left in the first n places, the reports gs
pub lessens_twice : {X : Type 0} (k : Kept X) → KeptLaws k → (fs ks gs : List Report) {xs new : List X} {m : ℕ} (mid : List X) (n : ℕ) → gs ≡ ks → Lessens k fs xs mid n → Lessens k gs (take n mid) new m →
    Lessens k (fs ++ ks) xs (new ++ drop n mid) m
lessens_twice {X} k w fs ks gs {xs} {new} {m} mid n same s t =
    let a = s.few in
    let b = s.long in
    let p = t.few in
    let q = t.long in
    let e = length-take n mid in
    record {
      items = take-append-le m new (drop n mid) (omega arith) ∙ (t.items ∙ (ap₂ (λ (v : List Report) (u : List X). remain k v u) same s.items ∙ remain_remain k w fs ks xs));
      few = omega arith;
      long = (let f = length-drop n mid in let g = length-append new (drop n mid) in omega arith);
    }

-- ── a confirmation ──

module _ (settle : TradesSettle) (m : Meaning) (rs : List Request) (xs : List Answer) (w : Wanted) (least : ℕ) where
  abbrev Trade : Meaning → List Answer → List Report
  Trade b ys = fills_at (holding b [] ys) w least

  pub book_after : (fs : List Report) (after : Meaning) → fs ≡ Trade m xs → (Settles m (other w.side) fs → after ≡ book_less fs m) → BookAfter (holding m rs xs) w.request (λ s. confirmation s w least) after
  unfolding confirmation
  book_after fs after f h s g b p q e =
      let r = w.request in
      let n = r.number.0 in
      let d = w.side in
      let price = w.limit.0 in
      let o = subst (λ (v : List Request). first (under a_request n v) ≡ Some r) (sym p) e in
      let same : Trade s.book s.answers ≡ fs = ap₂ Trade b q ∙ sym f in
      let t = subst (λ (z : Meaning). Settles z (other d) fs) b (subst (Settles s.book (other d)) same (settle.confirmed s g n r o d price least)) in
      h t ∙ (ap₂ book_less (sym same) (sym b) ∙ settle.after_confirmed s g n r o d price least)
