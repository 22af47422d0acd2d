-- One step through the offers of a list: what is read at a place, and what is left from that place on.
use Rattle.std.proofs.Common.{◌<◌, length, ◌≡◌, ℕ, zero, suc, ◌+◌, List, [], ◌∷◌, slice_get, drop, Some, None, sym, refl, ap, ◌∙◌, arith}
use Rattle.std.proofs.lemmas.List.{drop_more}
use Rattle.std.proofs.lemmas.Option.{slice_get_within, get_or_from_slice_get}
use Rattle.book.specs.declared.Offer.{Offer}

pub left_more : (os : List Offer) (k : ℕ) (o : Offer) → Some o ≡ slice_get os k → drop k os ≡ o ∷ drop (k + 1) os
left_more os k o e =
    drop_more os k o (slice_get_within os k o (sym e)) ∙ ap (λ (x : Offer). x ∷ drop (k + 1) os) (get_or_from_slice_get os k o o (sym e))

pub left_none : (os : List Offer) (k : ℕ) → None ≡ slice_get os k → drop k os ≡ []
left_none [] zero e = refl
left_none [] (suc k) e = refl
left_none (o ∷ os) zero e = let z : ◌≡◌ {A = ℕ} 0 1 = cc in absurd (omega arith)
left_none (o ∷ os) (suc k) e = left_none os k e

pub left_fewer : (os : List Offer) (k : ℕ) (o : Offer) → Some o ≡ slice_get os k → length (drop (k + 1) os) < length (drop k os)
left_fewer os k o e = let one = ap (λ (xs : List Offer). length xs) (left_more os k o e) in omega (arith, one)
