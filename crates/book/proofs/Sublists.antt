-- Lists of offers with some left out: their numbers stay apart.
use Rattle.std.proofs.Common.{◌≡◌, ℕ, ◌≤◌, true, false, eqb, List, [], ◌∷◌, ◌++◌, length, refl, arith}
use Rattle.std.proofs.lemmas.Bool.Decides.{nat_tests}
use Rattle.std.proofs.lemmas.Bool.{cond_both}
use Rattle.book.specs.declared.Offer.{Offer}
use Rattle.book.specs.Meaning.{numbered, has, taken, without}
use Rattle.book.specs.Laws.{distinct}

-- the numbers of xs stand in ys in the same order
pub data Sub : List Offer → List Offer → Type 0 where
  none : Sub [] []
  keep : {x y : Offer} {xs ys : List Offer} → x.number.0 ≡ y.number.0 → Sub xs ys → Sub (x ∷ xs) (y ∷ ys)
  skip : {y : Offer} {xs ys : List Offer} → Sub xs ys → Sub xs (y ∷ ys)

pub sub_refl : (xs : List Offer) → Sub xs xs
sub_refl [] = none
sub_refl (x ∷ xs) = keep refl (sub_refl xs)

pub sub_taken : (os : List Offer) (n a : ℕ) → Sub (taken os n a) os
sub_taken [] n a = none
sub_taken (o ∷ os) n a =
    cond_both (numbered n o) _ _ (λ z. Sub z (o ∷ os)) (λ _. cond_both (eqb o.left.0 a) _ _ (λ z. Sub z (o ∷ os)) (λ _. skip (sub_refl os)) (λ _. keep refl (sub_refl os))) (λ _. keep refl (sub_taken os n a))

pub sub_without : (os : List Offer) (n : ℕ) → Sub (without os n) os
sub_without [] n = none
sub_without (o ∷ os) n = cond_both (numbered n o) _ _ (λ z. Sub z (o ∷ os)) (λ _. skip (sub_refl os)) (λ _. keep refl (sub_without os n))

pub sub_front : {xs ys : List Offer} → Sub xs ys → (zs : List Offer) → Sub (xs ++ zs) (ys ++ zs)
sub_front none zs = sub_refl zs
sub_front (keep e s) zs = keep e (sub_front s zs)
sub_front (skip s) zs = skip (sub_front s zs)

pub sub_back : (zs : List Offer) {xs ys : List Offer} → Sub xs ys → Sub (zs ++ xs) (zs ++ ys)
sub_back [] s = s
sub_back (z ∷ zs) s = keep refl (sub_back zs s)

pub sub_length : {xs ys : List Offer} → Sub xs ys → length xs ≤ length ys
sub_length none = omega arith
sub_length (keep e s) = let h = sub_length s in omega arith
sub_length (skip s) = let h = sub_length s in omega arith

pub sub_has : {xs ys : List Offer} → Sub xs ys → (n : ℕ) → has ys n ≡ false → has xs n ≡ false
sub_has none n h = refl
sub_has (keep e s) n h = let r = sub_has s n in grind (arith, nat_tests)
sub_has (skip s) n h = let r = sub_has s n in grind (arith, nat_tests)

pub sub_distinct : {xs ys : List Offer} → Sub xs ys → distinct ys ≡ true → distinct xs ≡ true
sub_distinct none h = refl
sub_distinct (keep {x} {y} {xs} {ys} e s) h =
    let d = sub_distinct s in
    let n = sub_has s x.number.0 in
    grind (arith, nat_tests)
sub_distinct (skip s) h = let d = sub_distinct s in grind (arith, nat_tests)

pub sub_none : (ys : List Offer) → Sub [] ys
sub_none [] = none
sub_none (y ∷ ys) = skip (sub_none ys)

pub sub_left : (xs ys : List Offer) → Sub xs (xs ++ ys)
sub_left [] ys = sub_none ys
sub_left (x ∷ xs) ys = keep refl (sub_left xs ys)

pub sub_right : (xs ys : List Offer) → Sub ys (xs ++ ys)
sub_right [] ys = sub_refl ys
sub_right (x ∷ xs) ys = skip (sub_right xs ys)

-- one more offer, of a new number

pub has_append : (xs ys : List Offer) (n : ℕ) → has xs n ≡ false → has ys n ≡ false → has (xs ++ ys) n ≡ false
has_append [] ys n h k = k
has_append (x ∷ xs) ys n h k = let r = has_append xs ys n in grind (arith, nat_tests)

has_insert : (xs ys : List Offer) (o : Offer) (n : ℕ) → has (xs ++ ys) n ≡ false → numbered n o ≡ false → has ((xs ++ o ∷ []) ++ ys) n ≡ false
has_insert [] ys o n h k = grind (arith, nat_tests)
has_insert (x ∷ xs) ys o n h k = let r = has_insert xs ys o n in grind (arith, nat_tests)

pub distinct_insert : (xs ys : List Offer) (o : Offer) → distinct (xs ++ ys) ≡ true → has xs o.number.0 ≡ false → has ys o.number.0 ≡ false → distinct ((xs ++ o ∷ []) ++ ys) ≡ true
distinct_insert [] ys o d h k = grind (arith, nat_tests)
distinct_insert (x ∷ xs) ys o d h k =
    let r = distinct_insert xs ys o in
    let n = has_insert xs ys o x.number.0 in
    grind (arith, nat_tests)
