-- What is no worse to a side, and whole lots. Each lemma is one text for a buyer and a seller.
use Rattle.std.proofs.Common.{◌≡◌, ℕ, ◌+◌, ◌-◌, ◌*◌, ◌/◌, ◌%◌, ◌<◌, ◌≤◌, min, true, false, ◌⊎◌, ap, ◌∙◌, inl, inr, mul-le-mul_right, mul_assoc, mul_comm, add-mul, mul-pos, div-add-mod', le-div_iff_mul-le, mul-add, div-mul-le_self, arith}
use native.Mathlib.Nat.{dvd_of_mod-eq-zero, mod-eq-zero_of_dvd, dvd-add, dvd-sub, lt_of_mul-lt-mul_left}
use Rattle.std.proofs.lemmas.Bool.{leb-true, leb-false, cases_lt}
use Rattle.draw.specs.Sides.{NoWorse, no_worse}
use Rattle.draw.specs.Walk.{gap, part}
use Rattle.units.specs.declared.side.Side.{Side}
use Rattle.units.specs.declared.side.Side.TheVariants.{Buy, Sell}

abbrev pub Worse : Side → ℕ → ℕ → Type 0
Worse Buy a b = b < a
Worse Sell a b = a < b

pub test_true : (s : Side) (a b : ℕ) → no_worse s a b ≡ true → NoWorse s a b
test_true Buy a b e = leb-true a b e
test_true Sell a b e = leb-true b a e

pub test_false : (s : Side) (a b : ℕ) → no_worse s a b ≡ false → Worse s a b
test_false Buy a b e = leb-false a b e
test_false Sell a b e = leb-false b a e

pub either_side : (s : Side) (a b : ℕ) → NoWorse s a b ⊎ Worse s a b
either_side Buy a b = elim (cases_lt b a) [ inl h ↦ inr h | inr h ↦ inl h ]
either_side Sell a b = elim (cases_lt a b) [ inl h ↦ inr h | inr h ↦ inl h ]

pub clash : (s : Side) (a b : ℕ) → NoWorse s a b → Worse s a b → ⊥
clash Buy a b h k = omega arith
clash Sell a b h k = omega arith

pub same_no_worse : (s : Side) (a b : ℕ) → a ≡ b → NoWorse s a b
same_no_worse Buy a b e = omega arith
same_no_worse Sell a b e = omega arith

pub times : (s : Side) (a b k : ℕ) → NoWorse s a b → NoWorse s (a * k) (b * k)
times Buy a b k h = mul-le-mul_right k h
times Sell a b k h = mul-le-mul_right k h

-- at a price that is worse than the limit, k units more are within it exactly where the money saved so far pays for them
pub pays : (s : Side) (q price m n k : ℕ) → NoWorse s m (price * n) → Worse s q price →
    NoWorse s (m + q * k) (price * (n + k)) → gap q price * k ≤ gap m (price * n)
pays Buy q price m n k i w h =
    let e : q ≡ gap q price + price = omega arith in
    omega (arith, ap (λ x. x * k) e ∙ add-mul (gap q price) price k, mul-add price n k)
pays Sell q price m n k i w h =
    let e : price ≡ gap q price + q = omega arith in
    omega (arith, ap (λ x. x * k) e ∙ add-mul (gap q price) q k, mul-add price n k)

pub paid : (s : Side) (q price m n k : ℕ) → NoWorse s m (price * n) → Worse s q price →
    gap q price * k ≤ gap m (price * n) → NoWorse s (m + q * k) (price * (n + k))
paid Buy q price m n k i w h =
    let e : q ≡ gap q price + price = omega arith in
    omega (arith, ap (λ x. x * k) e ∙ add-mul (gap q price) price k, mul-add price n k)
paid Sell q price m n k i w h =
    let e : price ≡ gap q price + q = omega arith in
    omega (arith, ap (λ x. x * k) e ∙ add-mul (gap q price) q k, mul-add price n k)

-- an offer that takes a draw out of the limit has a price worse than it
pub worse_price : (s : Side) (q price m n t : ℕ) → NoWorse s m (price * n) → Worse s (m + q * t) (price * (n + t)) → Worse s q price
worse_price s q price m n t i w = elim (either_side s q price) [ inr h ↦ h | inl h ↦ absurd (no s (times s q price t h) i w) ]
  where
    no : (s : Side) → NoWorse s (q * t) (price * t) → NoWorse s m (price * n) → Worse s (m + q * t) (price * (n + t)) → ⊥
    no Buy a b c = omega (arith, mul-add price n t)
    no Sell a b c = omega (arith, mul-add price n t)

-- whole lots
pub whole_add : (lot a b : ℕ) → a % lot ≡ 0 → b % lot ≡ 0 → (a + b) % lot ≡ 0
whole_add lot a b h k = mod-eq-zero_of_dvd lot (dvd-add lot (dvd_of_mod-eq-zero lot h) (dvd_of_mod-eq-zero lot k))

pub whole_sub : (lot a b : ℕ) → a % lot ≡ 0 → b % lot ≡ 0 → (a - b) % lot ≡ 0
whole_sub lot a b h k = mod-eq-zero_of_dvd lot (dvd-sub lot (dvd_of_mod-eq-zero lot h) (dvd_of_mod-eq-zero lot k))

pub whole_min : (lot a b : ℕ) → a % lot ≡ 0 → b % lot ≡ 0 → min a b % lot ≡ 0
whole_min lot a b h k = grind arith

-- what is paid for of an offer that would take a walk out of the limit: some lots, and not all that is wanted
module _ (s : Side) (lot price n m q t : ℕ) (lots : 0 < lot) (i : NoWorse s m (price * n)) (w : Worse s (m + q * t) (price * (n + t))) where
  abbrev pub d : ℕ
  d = gap q price

  abbrev pub saved : ℕ
  saved = gap m (price * n)

  abbrev pub k₀ : ℕ
  k₀ = part lot price n m q

  pub worse : Worse s q price
  worse = worse_price s q price m n t i w

  pub apart : 0 < d
  apart = some s q price worse
    where
      some : (s : Side) (a b : ℕ) → Worse s a b → 0 < gap a b
      some Buy a b h = grind arith
      some Sell a b h = omega arith

  -- a multiple k of the lot is paid for exactly where k is at most the part
  pub part_paid : d * k₀ ≤ saved
  part_paid =
      let j = gap m (price * n) / (lot * d) in
      let e : d * (j * lot) ≡ j * (lot * d) = mul_comm d (j * lot) ∙ mul_assoc j lot d in
      let le = div-mul-le_self (gap m (price * n)) (lot * d) in
      omega arith

  pub part_most : (k : ℕ) → k % lot ≡ 0 → d * k ≤ saved → k ≤ k₀
  part_most k kw h =
      let whole : k ≡ k / lot * lot = (let z = div-add-mod' k lot in omega arith) in
      let e : d * k ≡ k / lot * (lot * d) = ap (λ v. d * v) whole ∙ (mul_comm d (k / lot * lot) ∙ mul_assoc (k / lot) lot d) in
      let le : k / lot * (lot * d) ≤ saved = omega arith in
      let many : k / lot ≤ saved / (lot * d) = (le-div_iff_mul-le (mul-pos lots apart)).1 le in
      let more = mul-le-mul_right lot many in
      omega arith

  pub part_room : k₀ < t
  part_room = lt_of_mul-lt-mul_left d (elim (cases_lt (d * k₀) (d * t)) [ inl h ↦ h | inr h ↦ absurd (no h) ])
    where
      no : d * t ≤ d * k₀ → ⊥
      no h = let z = part_paid in clash s (m + q * t) (price * (n + t)) (paid s q price m n t i worse (grind arith)) w
