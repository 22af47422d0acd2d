-- What is left of each number, and that a take of all that is left is a removal.
use Rattle.std.proofs.Common.{◌≡◌, ℕ, Bool, true, false, cond, List, [], ◌∷◌, refl, ap, ◌∙◌, arith}
use Rattle.std.proofs.lemmas.Bool.Decides.{nat_tests}
use Rattle.units.specs.declared.side.Side.{Side}
use Rattle.book.specs.declared.Offer.{Offer}
use Rattle.book.specs.Meaning.{Meaning, has, left_of, taken, without, lots, list_takes, side_of, with_side, can_take, after_take, after_remove}
use Rattle.book.specs.Laws.{all_in_range, sound}
use Rattle.book.proofs.Sound.{sound_parts}

pub left_none : (os : List Offer) (n : ℕ) → has os n ≡ false → left_of os n ≡ 0
left_none [] n h = refl
left_none (o ∷ os) n h = let l = left_none os n in grind (arith, nat_tests)

taken_whole : (os : List Offer) (n a : ℕ) → left_of os n ≡ a → taken os n a ≡ without os n
taken_whole [] n a e = refl
taken_whole (o ∷ os) n a e = let h = taken_whole os n a in grind (arith, nat_tests)

left_lots : (lot : ℕ) (os : List Offer) (n : ℕ) → all_in_range lot os ≡ true → has os n ≡ true → lots lot (left_of os n) ≡ true
left_lots lot [] n r h = absurd (grind arith)
left_lots lot (o ∷ os) n r h = let l = left_lots lot os n in grind (arith, nat_tests)

takes_whole : (lot : ℕ) (os : List Offer) (n : ℕ) → all_in_range lot os ≡ true → list_takes lot os n (left_of os n) ≡ has os n
takes_whole lot os n r = let l = left_lots lot os n r in grind (arith, nat_tests)

pub take_whole : (most : ℕ) (m : Meaning) (s : Side) (n : ℕ) → sound most m ≡ true
    → (can_take m s n (left_of (side_of m s) n) ≡ has (side_of m s) n) × (after_take m s n (left_of (side_of m s) n) ≡ after_remove m s n)
take_whole most m s n h =
    let os = side_of m s in
    let l = left_of os n in
    let c = takes_whole m.lot os n ((sound_parts most m h).ranged s) in
    (c, ap (λ (b : Bool). cond b (with_side m s (taken os n l)) m) c ∙ ap (λ (xs : List Offer). cond (has os n) (with_side m s xs) m) (taken_whole os n l refl))
