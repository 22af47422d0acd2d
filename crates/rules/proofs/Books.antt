-- A take is one fill, a removal one kill.
use Rattle.std.proofs.Common.{◌≡◌, ℕ, ◌<◌, ◌≤◌, cond, eqb, List, [], ◌∷◌, sym, refl, ◌∙◌, arith}
use Rattle.std.specs.List.{AllByRecursion}
use Rattle.std.proofs.ByRecursion.{All-weaker}
use Rattle.std.proofs.lemmas.Bool.Decides.{nat_tests}
use Rattle.book.specs.declared.Offer.{Offer}
use Rattle.book.specs.Meaning.{left_of, taken, without}
use Rattle.draw.specs.declared.fills.Fill.{Fill}
use Rattle.rules.specs.declared.reports.KillReason.{KillReason}
use Rattle.rules.specs.declared.reports.Report.{Report}
use Rattle.rules.specs.State.{an_offer}
use Rattle.rules.specs.Reports.{remain, filled_by, kill, filled, killed}
use Rattle.rules.specs.Takes.{Listed, Without, BookDoes}
use Rattle.rules.proofs.Left.{touched, remain_remain, remain_same}
use Rattle.rules.proofs.Fine.{offer_laws}

-- what one fill, or one kill, takes
one_fill : (t : ℕ) (f : Fill) (k : ℕ) → (t ≡ k → ⊥) → touched (filled_by t f ∷ []) k ≡ cond (eqb f.maker.0 k) f.quantity.0 0
unfolding filled killed
one_fill t f k ne = grind (arith, nat_tests)

one_kill : (reason : KillReason) (n a k : ℕ) → touched (kill reason n a ∷ []) k ≡ cond (eqb n k) a 0
unfolding filled killed
one_kill reason n a k = omega arith

-- a list that a report does not touch
untouched : (rs : List Report) (os : List Offer) → Listed os → AllByRecursion (λ (x : Offer). touched rs x.number.0 ≡ 0) os → remain an_offer rs os ≡ os
untouched rs os w a = remain_same an_offer offer_laws rs os (both os w a)
  where
    both : (os : List Offer) → Listed os → AllByRecursion (λ (x : Offer). touched rs x.number.0 ≡ 0) os → AllByRecursion (λ (x : Offer). (0 < x.left.0) × (touched rs x.number.0 ≡ 0)) os
    both [] w a = tt
    both (o ∷ os) w a = ((w.1, a.0), both os w.2 a.1)

-- a report that takes a of the number n, and nothing of others in the list
module _ (rs : List Report) (n a : ℕ) where
  abbrev Takes : List Offer → Type 0
  Takes os = AllByRecursion (λ (x : Offer). touched rs x.number.0 ≡ cond (eqb n x.number.0) a 0) os

  others : (os : List Offer) → AllByRecursion (λ (x : Offer). x.number.0 ≡ n → ⊥) os → Takes os → AllByRecursion (λ (x : Offer). touched rs x.number.0 ≡ 0) os
  others [] ne t = tt
  others (o ∷ os) ne t = ((let z = t.0 in let d = ne.0 in grind (arith, nat_tests)), others os ne.1 t.1)

  remain_taken : (os : List Offer) → Listed os → Takes os → a ≤ left_of os n → taken os n a ≡ remain an_offer rs os
  unfolding remain
  remain_taken [] w t h = refl
  remain_taken (o ∷ os) w t h =
      let i = remain_taken os w.2 t.1 in
      let l = w.1 in
      let z = t.0 in
      let tail : o.number.0 ≡ n → remain an_offer rs os ≡ os = λ e. untouched rs os w.2 (others os (All-weaker _ _ (λ x d f. d (f ∙ sym e)) os w.0) t.1) in
      let whole : an_offer.with_left o o.left.0 ≡ o = refl in
      grind (arith, nat_tests)

without_taken : (os : List Offer) (n : ℕ) → without os n ≡ taken os n (left_of os n)
without_taken [] n = refl
without_taken (o ∷ os) n = let h = without_taken os n in grind (arith, nat_tests)

fill_takes : (os : List Offer) (t : ℕ) (f : Fill) → Without os t → Takes (filled_by t f ∷ []) f.maker.0 f.quantity.0 os
fill_takes os t f ne = All-weaker _ _ (λ x h. one_fill t f x.number.0 (λ e. h (sym e))) os ne

kill_takes : (os : List Offer) (reason : KillReason) (n a : ℕ) → Takes (kill reason n a ∷ []) n a os
kill_takes [] reason n a = tt
kill_takes (o ∷ os) reason n a = (one_kill reason n a o.number.0, kill_takes os reason n a)

pub book_does : BookDoes
book_does = record {
  take = λ os t f w ne h. remain_taken (filled_by t f ∷ []) f.maker.0 f.quantity.0 os w (fill_takes os t f ne) h;
  remove = λ os reason n w. without_taken os n ∙ remain_taken (kill reason n (left_of os n) ∷ []) n (left_of os n) os w (kill_takes os reason n (left_of os n)) (omega arith);
  one_more = λ r rs os. sym (remain_remain an_offer offer_laws (r ∷ []) rs os);
  elsewhere = λ os t f w ne no. untouched (filled_by t f ∷ []) os w (others (filled_by t f ∷ []) f.maker.0 f.quantity.0 os no (fill_takes os t f ne));
}
