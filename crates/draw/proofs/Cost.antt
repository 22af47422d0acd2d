-- The money of the first units in a ranked order is the best that any draw of as many units has.
use Rattle.std.proofs.Common.{◌≡◌, ℕ, ◌+◌, ◌-◌, ◌*◌, ◌%◌, ◌≤◌, min, false, List, [], ◌∷◌, sum_by, sym, refl, ap, ◌∙◌, subst, mul-zero, mul-add, arith}
use Rattle.std.specs.List.{AllByRecursion}
use Rattle.std.proofs.ByRecursion.{All-weaker}
use Rattle.std.proofs.lemmas.List.Sums.{sum_by-cons}
use Rattle.std.proofs.lemmas.Bool.{ltb-false}
use Rattle.ranked.specs.Lists.{InOrder}
use Rattle.ranked.proofs.Sorting.{Distinct}
use Rattle.draw.specs.Sides.{better, NoWorse}
use Rattle.draw.specs.Offers.{named}
use Rattle.draw.specs.Rankings.{better_price}
use Rattle.draw.specs.Draws.{Draw, size, money, poured}
use Rattle.draw.specs.declared.offers.Eligible.{Eligible}
use Rattle.units.specs.declared.side.Side.{Side}
use Rattle.units.specs.declared.side.Side.TheVariants.{Buy, Sell}
use Rattle.draw.proofs.Sides.{times, whole_min, whole_sub}

-- the better price first
abbrev pub PriceFirst : Side → List Eligible → Type 0
PriceFirst s [] = Unit {0}
PriceFirst s (o ∷ os) = AllByRecursion (λ later. NoWorse s o.price.0 later.price.0) os × PriceFirst s os

not_better : (s : Side) (a b : ℕ) → better s b a ≡ false → NoWorse s a b
not_better Buy a b e = ltb-false b a e
not_better Sell a b e = ltb-false a b e

pub price_first : (s : Side) (os : List Eligible) → InOrder (better_price s) os → PriceFirst s os
price_first s [] h = tt
price_first s (o ∷ os) h = (All-weaker _ _ (λ later e. not_better s o.price.0 later.price.0 e) os h.0, price_first s os h.1)

-- the money of the first n units, and the units of all offers
unfoldable pub cost : List Eligible → ℕ → ℕ
cost [] n = 0
cost (o ∷ os) n = o.price.0 * min n o.left.0 + cost os (n - o.left.0)

unfoldable pub held : List Eligible → ℕ
held [] = 0
held (o ∷ os) = o.left.0 + held os

pub cost_zero : (os : List Eligible) → cost os 0 ≡ 0
unfolding cost
cost_zero [] = refl
cost_zero (o ∷ os) = let ih = cost_zero os in grind arith

-- past all units there is no more to pay
pub cost_min : (os : List Eligible) (n : ℕ) → cost os (min n (held os)) ≡ cost os n
unfolding cost held
cost_min [] n = refl
cost_min (o ∷ os) n = let ih = cost_min os (n - o.left.0) in grind arith

-- e units more cost at least e times a price that is no worse than any
pub cost_step : (s : Side) (p : ℕ) (os : List Eligible) (m e : ℕ) → AllByRecursion (λ o. NoWorse s p o.price.0) os → m + e ≤ held os →
    NoWorse s (cost os m + p * e) (cost os (m + e))
unfolding cost held
cost_step s p [] m e a h = none s e (omega arith)
  where
    none : (s : Side) (e : ℕ) → e ≡ 0 → NoWorse s (0 + p * e) 0
    none Buy e z = omega (arith, ap (λ x. p * x) z ∙ mul-zero p)
    none Sell e z = omega (arith, ap (λ x. p * x) z ∙ mul-zero p)
cost_step s p (o ∷ os) m e a h =
    glue s (q * min m l) (cost os (m - l)) (p * e₁) (p * e₂) (q * e₁) (cost os ((m - l) + e₂)) _ _ _
    (ap (λ x. p * x) (let z : e ≡ e₁ + e₂ = omega arith in z) ∙ mul-add p e₁ e₂)
    (ap (λ x. q * x) (let z : min (m + e) l ≡ min m l + e₁ = omega arith in z) ∙ mul-add q (min m l) e₁)
    (ap (cost os) (let z : (m + e) - l ≡ (m - l) + e₂ = omega arith in z))
    (cost_step s p os (m - l) e₂ a.1 (omega arith))
    (times s p q e₁ a.0)
  where
    l : ℕ
    l = o.left.0

    q : ℕ
    q = o.price.0

    e₁ : ℕ
    e₁ = min (m + e) l - min m l

    e₂ : ℕ
    e₂ = ((m + e) - l) - (m - l)

    glue : (s : Side) (x c u v w d x' d' pe : ℕ) → pe ≡ u + v → x' ≡ x + w → d' ≡ d → NoWorse s (c + v) d → NoWorse s u w → NoWorse s ((x + c) + pe) (x' + d')
    glue Buy x c u v w d x' d' pe i j k h g = omega arith
    glue Sell x c u v w d x' d' pe i j k h g = omega arith

-- the offers' first units have the best terms of all draws of as many
pub least_cost : (s : Side) (os : List Eligible) (x : Draw) → PriceFirst s os → AllByRecursion (λ o. x (named o) ≤ o.left.0) os →
    (size os x ≤ held os) × NoWorse s (cost os (size os x)) (money os x)
unfolding cost held
least_cost Buy [] x f a = (omega arith, omega arith)
least_cost Sell [] x f a = (omega arith, omega arith)
least_cost s (o ∷ os) x f a = rw (sum_by-cons, sum_by-cons) (within (least_cost s os x f.1 a.1))
  where
    l : ℕ
    l = o.left.0

    q : ℕ
    q = o.price.0

    y : ℕ
    y = x (named o)

    n : ℕ
    n = y + size os x

    e : ℕ
    e = min n l - y

    glue : (s : Side) (c c' d u w qy qe : ℕ) → u ≡ qy + qe → c' ≡ d → NoWorse s (c + qe) c' → NoWorse s d w → NoWorse s (u + c) (qy + w)
    glue Buy c c' d u w qy qe i j h k = omega arith
    glue Sell c c' d u w qy qe i j h k = omega arith

    within : (size os x ≤ held os) × NoWorse s (cost os (size os x)) (money os x) →
        (n ≤ l + held os) × NoWorse s (q * min n l + cost os (n - l)) (q * y + money os x)
    within ih =
        let below : y ≤ l = a.0 in (
          omega (arith, ih.0),
          glue s (cost os (n - l)) (cost os ((n - l) + e)) (cost os (size os x)) (q * min n l) (money os x) (q * y) (q * e)
              (ap (λ v. q * v) (let z : min n l ≡ y + e = omega arith in z) ∙ mul-add q y e)
              (ap (cost os) (let z : (n - l) + e ≡ size os x = omega arith in z))
              (cost_step s q os (n - l) e f.0 (omega (arith, ih.0)))
              ih.1,
        )

-- ── what the draw that empties the offers in their order takes ──

pub all_both : {X : Type 0} (P Q R : X → Type 0) → ((x : X) → P x → Q x → R x) → (xs : List X) → AllByRecursion P xs → AllByRecursion Q xs → AllByRecursion R xs
all_both P Q R f [] p q = tt
all_both P Q R f (x ∷ xs) p q = (f x p.0 q.0, all_both P Q R f xs p.1 q.1)

pub sum_by_same : {X : Type 0} (f g : X → ℕ) (xs : List X) → AllByRecursion (λ x. f x ≡ g x) xs → sum_by f xs ≡ sum_by g xs
sum_by_same f g [] a = refl
sum_by_same f g (x ∷ xs) a = let ih = sum_by_same f g xs a.1 in let e = a.0 in rw (sum_by-cons f x xs, sum_by-cons g x xs) (grind arith)

-- what it takes of the first offer, and of the others
poured_first : (o : Eligible) (os : List Eligible) (n : ℕ) → poured (o ∷ os) n (named o) ≡ min n o.left.0
poured_first o os n = grind arith

poured_later : (o : Eligible) (os : List Eligible) (n : ℕ) → Distinct named (o ∷ os) →
    AllByRecursion (λ later. poured (o ∷ os) n (named later) ≡ poured os (n - o.left.0) (named later)) os
poured_later o os n a = All-weaker _ _ (λ later ne. grind arith) os a.0

pub poured_totals : (os : List Eligible) (n : ℕ) → Distinct named os → (size os (poured os n) ≡ min n (held os)) × (money os (poured os n) ≡ cost os n)
unfolding cost held
poured_totals [] n a = (omega arith, refl)
poured_totals (o ∷ os) n a =
    let ih = poured_totals os (n - o.left.0) a.1 in
    let first = poured_first o os n in
    let later = poured_later o os n a in (
      rw (sum_by-cons, sum_by_same _ _ os later) (omega (arith, first, ih.0)),
      rw (sum_by-cons, sum_by_same _ _ os (All-weaker _ _ (λ x e. ap (λ v. x.price.0 * v) e) os later)) (rw (first, ih.1)),
    )

pub poured_draw : (lot : ℕ) (os : List Eligible) (n : ℕ) → Distinct named os → AllByRecursion (λ o. o.left.0 % lot ≡ 0) os → n % lot ≡ 0 → AllByRecursion (λ o. (poured os n (named o) ≤ o.left.0) × (poured os n (named o) % lot ≡ 0)) os
poured_draw lot [] n a w h = tt
poured_draw lot (o ∷ os) n a w h = (
  subst (λ v. (v ≤ o.left.0) × (v % lot ≡ 0)) (sym (poured_first o os n)) (omega arith, whole_min lot n o.left.0 h w.0),
  all_both _ _ _ (λ x e k. subst (λ v. (v ≤ x.left.0) × (v % lot ≡ 0)) (sym e) k) os
      (poured_later o os n a)
      (poured_draw lot os (n - o.left.0) a.1 w.1 (whole_sub lot n o.left.0 h w.0)),
)

pub poured_only : (os : List Eligible) (n k : ℕ) → AllByRecursion (λ o. named o ≡ k → ⊥) os → poured os n k ≡ 0
poured_only [] n k a = refl
poured_only (o ∷ os) n k a = let ih = poured_only os (n - o.left.0) k a.1 in let ne = a.0 in grind arith
