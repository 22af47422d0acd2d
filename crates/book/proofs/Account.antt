-- What takes, entries and removals do to what is open under each number: it changes under that number alone, and by exactly the amount.
use Rattle.std.proofs.Common.{◌≡◌, ℕ, ◌+◌, ◌≤◌, Bool, true, false, cond, eqb, List, [], ◌∷◌, ◌++◌, ap, ◌∙◌, arith}
use Rattle.std.proofs.lemmas.Bool.Decides.{nat_tests}
use Rattle.units.specs.declared.side.Side.{Side}
use Rattle.units.specs.declared.side.Side.TheVariants.{Buy, Sell}
use Rattle.book.specs.declared.Offer.{Offer}
use Rattle.book.specs.Meaning.{Meaning, has, left_of, taken, without, list_takes, side_of, with_side, can_take, after_take, can_enter, after_enter, after_remove}
use Rattle.book.specs.Laws.{distinct, sound}
use Rattle.book.proofs.Lefts.{left_none}
use Rattle.book.proofs.Sound.{side_distinct}

pub left_taken : (os : List Offer) (n a x : ℕ) → distinct os ≡ true → has os n ≡ true → a ≤ left_of os n → left_of (taken os n a) x + cond (eqb n x) a 0 ≡ left_of os x
left_taken [] n a x d h le = absurd (grind arith)
left_taken (o ∷ os) n a x d h le = let r = left_taken os n a x in let z = left_none os o.number.0 in grind (arith, nat_tests)

pub left_push : (os : List Offer) (o : Offer) (x : ℕ) → has os o.number.0 ≡ false → left_of (os ++ o ∷ []) x ≡ left_of os x + cond (eqb o.number.0 x) o.left.0 0
left_push [] o x h = grind (arith, nat_tests)
left_push (q ∷ os) o x h = let r = left_push os o x in grind (arith, nat_tests)

pub left_without : (os : List Offer) (n x : ℕ) → distinct os ≡ true → left_of (without os n) x + cond (eqb n x) (left_of os n) 0 ≡ left_of os x
left_without [] n x d = grind (arith, nat_tests)
left_without (o ∷ os) n x d = let r = left_without os n x in let z = left_none os o.number.0 in grind (arith, nat_tests)

-- what is open under a number, of both sides
abbrev pub open_of : Meaning → ℕ → ℕ
open_of m x = left_of m.buys x + left_of m.sells x

open_taken : (m : Meaning) (s : Side) (n a x : ℕ) → distinct (side_of m s) ≡ true → list_takes m.lot (side_of m s) n a ≡ true → open_of (with_side m s (taken (side_of m s) n a)) x + cond (eqb n x) a 0 ≡ open_of m x
open_taken m Buy n a x d t = let l = left_taken m.buys n a x d in grind (arith, nat_tests)
open_taken m Sell n a x d t = let l = left_taken m.sells n a x d in grind (arith, nat_tests)

pub open_after_take : (most : ℕ) (m : Meaning) (s : Side) (n a x : ℕ) → sound most m ≡ true → can_take m s n a ≡ true → open_of (after_take m s n a) x + cond (eqb n x) a 0 ≡ open_of m x
open_after_take most m s n a x h t =
    ap (λ (b : Bool). open_of (cond b (with_side m s (taken (side_of m s) n a)) m) x + cond (eqb n x) a 0) t
    ∙ open_taken m s n a x (side_distinct most m s h) t

open_pushed : (m : Meaning) (s : Side) (o : Offer) (x : ℕ) → has (side_of m s) o.number.0 ≡ false → open_of (with_side m s (side_of m s ++ o ∷ [])) x ≡ open_of m x + cond (eqb o.number.0 x) o.left.0 0
open_pushed m Buy o x h = omega (arith, left_push m.buys o x h)
open_pushed m Sell o x h = omega (arith, left_push m.sells o x h)

-- an offer that can enter has a number that its side does not have
new_there : (most : ℕ) (m : Meaning) (s : Side) (o : Offer) → can_enter most m s o ≡ true → has (side_of m s) o.number.0 ≡ false
new_there most m Buy o t = grind (arith, nat_tests)
new_there most m Sell o t = grind (arith, nat_tests)

pub open_after_enter : (most : ℕ) (m : Meaning) (s : Side) (o : Offer) (x : ℕ) → can_enter most m s o ≡ true → open_of (after_enter most m s o) x ≡ open_of m x + cond (eqb o.number.0 x) o.left.0 0
open_after_enter most m s o x t =
    ap (λ (b : Bool). open_of (cond b (with_side m s (side_of m s ++ o ∷ [])) m) x) t ∙ open_pushed m s o x (new_there most m s o t)

open_without : (m : Meaning) (s : Side) (n x : ℕ) → distinct (side_of m s) ≡ true → open_of (with_side m s (without (side_of m s) n)) x + cond (eqb n x) (left_of (side_of m s) n) 0 ≡ open_of m x
open_without m Buy n x d = omega (arith, left_without m.buys n x d)
open_without m Sell n x d = omega (arith, left_without m.sells n x d)

pub open_after_remove : (most : ℕ) (m : Meaning) (s : Side) (n x : ℕ) → sound most m ≡ true → has (side_of m s) n ≡ true → open_of (after_remove m s n) x + cond (eqb n x) (left_of (side_of m s) n) 0 ≡ open_of m x
open_after_remove most m s n x h t =
    ap (λ (b : Bool). open_of (cond b (with_side m s (without (side_of m s) n)) m) x + cond (eqb n x) (left_of (side_of m s) n) 0) t
    ∙ open_without m s n x (side_distinct most m s h)
