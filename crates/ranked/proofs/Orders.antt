-- The laws of orders made of simpler ones.
use Rattle.std.proofs.Common.{◌≡◌, ℕ, Bool, true, false, arith}
use Rattle.std.specs.Cmp.{IsStrictWeakOrder}
use Rattle.std.proofs.lemmas.List.MinMax.{IsStrictWeakOrder-by_number}
use Rattle.ranked.specs.Lists.{Order}
use Rattle.ranked.specs.Orders.{lower, higher, those, then_by}

pub lower_ranks : {X : Type 0} (f : X → ℕ) → IsStrictWeakOrder (lower f)
lower_ranks f = IsStrictWeakOrder-by_number f

pub higher_ranks : {X : Type 0} (f : X → ℕ) → IsStrictWeakOrder (higher f)
higher_ranks f = record { one_way = λ x y h. grind arith; chain = λ x y z h k. grind arith }

pub those_ranks : {X : Type 0} (p : X → Bool) → IsStrictWeakOrder (those p)
those_ranks p = record { one_way = λ x y h. grind arith; chain = λ x y z h k. grind arith }

-- ---- one order after another

module _ {X : Type 0} (a b : X → X → Bool) (r : IsStrictWeakOrder a) where
  then_one_way : ((x y : X) → b x y ≡ true → b y x ≡ false) → (x y : X) → then_by a b x y ≡ true → then_by a b y x ≡ false
  then_one_way s x y h = grind (arith, r.one_way x y, r.one_way y x, s x y, s y x)

  then_chain : ((x y z : X) → b x y ≡ false → b y z ≡ false → b x z ≡ false) → (x y z : X) → then_by a b x y ≡ false → then_by a b y z ≡ false → then_by a b x z ≡ false
  then_chain s x y z h k = grind (arith, r.chain x y z, r.chain y z x, r.chain z x y, s x y z)

  pub then_order : (number : X → ℕ) → Order b number → Order (then_by a b) number
  then_order number o = record { one_way = then_one_way o.one_way; chain = then_chain o.chain; apart = λ x y h k. grind (arith, o.apart x y) }

pub lower_order : {X : Type 0} (number : X → ℕ) → Order (lower number) number
lower_order number = let r = lower_ranks number in record { one_way = r.one_way; chain = r.chain; apart = λ x y h k. grind arith }
