-- Offers stay in range: what is left after whole lots are taken is whole lots.
use Rattle.std.proofs.Common.{◌≡◌, ℕ, ◌-◌, ◌%◌, ◌<◌, ◌≤◌, true, leb, List, [], ◌∷◌, ◌++◌, refl, arith}
use native.Mathlib.Nat.{dvd_of_mod-eq-zero, mod-eq-zero_of_dvd, dvd-sub}
use Rattle.std.proofs.lemmas.Bool.Decides.{nat_tests}
use Rattle.units.specs.Ranges.{is_number, is_price, is_quantity, within}
use Rattle.book.specs.declared.Offer.{Offer}
use Rattle.book.specs.Meaning.{left_of, less, taken, without, lots, in_range}
use Rattle.book.specs.Laws.{all_in_range}

-- what is left after whole lots are taken is whole lots
rest_mod : (lot l a : ℕ) → l % lot ≡ 0 → a % lot ≡ 0 → (l - a) % lot ≡ 0
rest_mod lot l a p q = mod-eq-zero_of_dvd lot (dvd-sub lot (dvd_of_mod-eq-zero lot p) (dvd_of_mod-eq-zero lot q))

-- what the range test tells of an offer
pub record InRange (lot : ℕ) (o : Offer) : Type 0 where
  pub number : is_number o.number.0 ≡ true
  pub firm : leb o.firm.0 255 ≡ true
  pub price : is_price o.price.0 ≡ true
  pub left : is_quantity lot o.left.0 ≡ true

pub range_parts : (lot : ℕ) (o : Offer) → in_range lot o ≡ true → InRange lot o
range_parts lot o h = grind (arith, nat_tests)

pub range_from : (lot : ℕ) (o : Offer) → InRange lot o → in_range lot o ≡ true
range_from lot o p = grind (arith, nat_tests)

-- what the test of a number between two tells
pub within_parts : (least most n : ℕ) → within least most n ≡ true → (least ≤ n) × (n ≤ most)
within_parts least most n h = grind (arith, nat_tests)

pub within_from : (least most n : ℕ) → least ≤ n → n ≤ most → within least most n ≡ true
within_from least most n p q = grind (arith, nat_tests)

pub range_less : (lot : ℕ) (o : Offer) (a : ℕ) → lots lot a ≡ true → a < o.left.0 → in_range lot o ≡ true → in_range lot (less o a) ≡ true
range_less lot o a l lt h = let r = rest_mod lot o.left.0 a in grind (arith, nat_tests)

pub range_taken : (lot : ℕ) (os : List Offer) (n a : ℕ) → lots lot a ≡ true → a ≤ left_of os n → all_in_range lot os ≡ true → all_in_range lot (taken os n a) ≡ true
range_taken lot [] n a l le h = refl
range_taken lot (o ∷ os) n a l le h =
    let t = range_taken lot os n a l in
    let r = range_less lot o a l in
    grind (arith, nat_tests)

pub range_without : (lot : ℕ) (os : List Offer) (n : ℕ) → all_in_range lot os ≡ true → all_in_range lot (without os n) ≡ true
range_without lot [] n h = refl
range_without lot (o ∷ os) n h = let t = range_without lot os n in grind (arith, nat_tests)

pub range_push : (lot : ℕ) (os : List Offer) (o : Offer) → all_in_range lot os ≡ true → in_range lot o ≡ true → all_in_range lot (os ++ o ∷ []) ≡ true
range_push lot [] o h k = grind (arith, nat_tests)
range_push lot (x ∷ os) o h k = let t = range_push lot os o in grind (arith, nat_tests)
