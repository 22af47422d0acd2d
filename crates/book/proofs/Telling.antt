-- Takes and removals, told by what stands before and behind the offer.
use Rattle.std.proofs.Common.{◌≡◌, ℕ, Bool, true, false, cond, eqb, List, [], ◌∷◌, ◌++◌, refl, ap, ◌∙◌, arith}
use Rattle.std.proofs.lemmas.Bool.Decides.{nat_tests}
use Rattle.std.proofs.lemmas.Bool.{eqb-true, cond-true}
use Rattle.units.specs.Sides.{other}
use Rattle.units.specs.declared.side.Side.{Side}
use Rattle.units.specs.declared.side.Side.TheVariants.{Buy, Sell}
use Rattle.book.specs.declared.Offer.{Offer}
use Rattle.book.specs.Meaning.{Meaning, side_of, with_side, numbered, has, left_of, less, taken, without, can_take}
use Rattle.book.specs.Words.{Found, rest, Kept, TakesInWords, RemovalsInWords}

-- a number that a list has, found in it
record Told (os : List Offer) (n : ℕ) : Type 0 where
  found : Found os n
  left : left_of os n ≡ found.offer.left.0
  taken : (a : ℕ) → taken os n a ≡ found.before ++ (rest found.offer a ++ found.behind)
  without : without os n ≡ found.before ++ found.behind

told : (os : List Offer) (n : ℕ) → has os n ≡ true → Told os n
told [] n h = absurd (grind arith)
told (o ∷ os) n h = go (numbered n o) refl (told os n)
  where
    here : (a : ℕ) → cond (eqb o.left.0 a) os (less o a ∷ os) ≡ rest o a ++ os
    here a = elim (eqb o.left.0 a) as (λ b. cond b os (less o a ∷ os) ≡ cond b [] (less o a ∷ []) ++ os) [ true ↦ refl | false ↦ refl ]

    go : (b : Bool) → numbered n o ≡ b → (has os n ≡ true → Told os n) → Told (o ∷ os) n
    go true t r =
        record {
          found = record { before = []; offer = o; behind = os; list = refl; number = eqb-true o.number.0 n t };
          left = simp t;
          taken = λ a. simp t (here a);
          without = simp t;
        }
    go false t r =
        let p = r (simp t at h) in
        let f = p.found in
        record {
          found = record { before = o ∷ f.before; offer = f.offer; behind = f.behind; list = ap (λ (xs : List Offer). o ∷ xs) f.list; number = f.number };
          left = simp t p.left;
          taken = λ a. simp t (ap (λ (xs : List Offer). o ∷ xs) (p.taken a));
          without = simp t (ap (λ (xs : List Offer). o ∷ xs) p.without);
        }

side_with : (m : Meaning) (s : Side) (os : List Offer) → side_of (with_side m s os) s ≡ os
side_with m Buy os = refl
side_with m Sell os = refl

kept_with : (m : Meaning) (s : Side) (os : List Offer) → Kept s m (with_side m s os)
kept_with m Buy os = record { opposite = refl; lot = refl }
kept_with m Sell os = record { opposite = refl; lot = refl }

kept_as : (s : Side) (m x y : Meaning) → x ≡ y → Kept s m y → Kept s m x
kept_as s m x y e k = record { opposite = ap (λ (z : Meaning). side_of z (other s)) e ∙ k.opposite; lot = ap (λ (z : Meaning). z.lot) e ∙ k.lot }

pub takes_in_words : TakesInWords
takes_in_words m s n a t =
    let os = side_of m s in
    let w = told os n (grind (arith, nat_tests)) in
    let e = cond-true (can_take m s n a) (with_side m s (taken os n a)) m t in
    record {
      found = w.found;
      enough = (let l = w.left in grind (arith, nat_tests));
      list = ap (λ (z : Meaning). side_of z s) e ∙ side_with m s (taken os n a) ∙ w.taken a;
      kept = kept_as s m _ _ e (kept_with m s (taken os n a));
    }

pub removals_in_words : RemovalsInWords
removals_in_words m s n t =
    let os = side_of m s in
    let w = told os n t in
    let e = cond-true (has os n) (with_side m s (without os n)) m t in
    record { found = w.found; list = ap (λ (z : Meaning). side_of z s) e ∙ side_with m s (without os n) ∙ w.without; kept = kept_as s m _ _ e (kept_with m s (without os n)) }
