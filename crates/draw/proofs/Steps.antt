-- The walk, the first units and the draw by places: one offer more, the offer at which they stop, and the end; and what keeps totals in range.
use Rattle.std.proofs.Common.{◌≡◌, ℕ, ◌+◌, ◌-◌, ◌*◌, ◌<◌, ◌≤◌, min, Bool, true, false, cond, List, length, get_or, drop, sym, refl, ap, ◌∙◌, ap₂, mul-le-mul_right, mul-pos, arith}
use Rattle.std.proofs.lemmas.List.{drop_more, drop_all}
use Rattle.std.proofs.lemmas.Bool.{cond-true, cond-false}
use Rattle.draw.specs.Sides.{NoWorse, no_worse}
use Rattle.draw.specs.Offers.{named}
use Rattle.draw.specs.Draws.{poured}
use Rattle.draw.specs.Walk.{gap, room, part, fitting, walk}
use Rattle.draw.proofs.Sides.{test_false, apart, part_room}
use Rattle.draw.proofs.Cost.{cost, held}
use Rattle.draw.specs.declared.offers.Eligible.{Eligible}
use Rattle.units.specs.declared.side.Side.{Side}

-- what is read past the end of a list
abbrev pub nothing : Eligible
nothing = record { number = record { 0 = 0 }; firm = record { 0 = 0 }; price = record { 0 = 0 }; left = record { 0 = 0 }; is_answer = false }

module _ (s : Side) (lot price most : ℕ) (os : List Eligible) (i : ℕ) (d : Eligible) (n m : ℕ) where
  abbrev o : Eligible
  o = get_or os i d

  module _ (q t : ℕ) (l : i < length os) (eq : q ≡ o.price.0) (et : t ≡ room most n o) where
    -- with the totals as the code has them
    opened : walk s lot price most (drop i os) n m ≡
        cond (fitting s price n m q t) (walk s lot price most (drop (i + 1) os) (n + t) (m + q * t)) (n + part lot price n m q, m + q * part lot price n m q)
    unfolding walk
    opened = rw (drop_more os i d l, eq, et)

    pub walk_more : fitting s price n m q t ≡ true → walk s lot price most (drop i os) n m ≡ walk s lot price most (drop (i + 1) os) (n + t) (m + q * t)
    walk_more e = opened ∙ cond-true _ _ _ e

    pub walk_stop : fitting s price n m q t ≡ false → walk s lot price most (drop i os) n m ≡ (n + part lot price n m q, m + q * part lot price n m q)
    walk_stop e = opened ∙ cond-false _ _ _ e

  pub walk_end : length os ≤ i → walk s lot price most (drop i os) n m ≡ (n, m)
  unfolding walk
  walk_end l = rw (drop_all i os l)

-- at a price in range, money in range stays so
pub grown : (q t n m most : ℕ) → q ≤ 1000000000 → n + t ≤ most → most ≤ 1000000 → m ≤ 1000000000 * n →
    (m + q * t ≤ 1000000000 * (n + t)) × (m + q * t ≤ 1000000000000000)
grown q t n m most hq hn hm h = let k = mul-le-mul_right t hq in (omega arith, omega arith)

-- one turn of the loop, with the totals as it has them: size and money with all that is wanted of the next offer, N and M
module _ (s : Side) (lot price most : ℕ) (os : List Eligible) (i : ℕ) (d : Eligible) (n m t N M : ℕ)
    (l : i < length os) (et : t ≡ room most n (get_or os i d)) (eN : N ≡ n + t) (eM : M ≡ m + (get_or os i d).price.0 * t) where
  fits_is : (b : Bool) → b ≡ no_worse s M (price * N) → fitting s price n m (get_or os i d).price.0 t ≡ b
  fits_is b h = grind arith

  pub turn_more : true ≡ no_worse s M (price * N) → walk s lot price most (drop (i + 1) os) N M ≡ walk s lot price most (drop i os) n m
  turn_more h = ap₂ (λ x y. walk s lot price most (drop (i + 1) os) x y) eN eM ∙ sym (walk_more s lot price most os i d n m _ t l refl et (fits_is true h))

  pub turn_stop : false ≡ no_worse s M (price * N) → (k N' M' : ℕ) → k ≡ part lot price n m (get_or os i d).price.0 → N' ≡ n + k → M' ≡ m + (get_or os i d).price.0 * k →
      (N' ≡ (walk s lot price most (drop i os) n m).0) × (M' ≡ (walk s lot price most (drop i os) n m).1)
  turn_stop h k N' M' ek e f =
      let w = walk_stop s lot price most os i d n m _ t l refl et (fits_is false h) in (
        e ∙ (ap (λ v. n + v) ek ∙ sym (ap (λ v. v.0) w)),
        f ∙ (ap (λ v. m + (get_or os i d).price.0 * v) ek ∙ sym (ap (λ v. v.1) w)),
      )

  -- what is paid for of an offer that would take the walk out of the price: some lots of it, in range
  pub turn_part : 0 < lot → (get_or os i d).price.0 ≤ 1000000000 → n ≤ most → most ≤ 1000000 → m ≤ 1000000000 * n → NoWorse s m (price * n) → false ≡ no_worse s M (price * N) →
      (0 < lot * gap (get_or os i d).price.0 price) × (part lot price n m (get_or os i d).price.0 < 1000000)
      × ((k : ℕ) → k ≡ part lot price n m (get_or os i d).price.0 → (n + k ≤ 1000000) × (m + (get_or os i d).price.0 * k ≤ 1000000000000000))
  turn_part lots hq small hm h w f =
      let q = (get_or os i d).price.0 in
      let out = test_false s (m + q * t) (price * (n + t)) (fits_is false f) in
      let less = part_room s lot price n m q t lots w out in (
        mul-pos lots (apart s lot price n m q t lots w out),
        omega arith,
        λ k e. (omega arith, (grown q k n m most hq (omega arith) hm h).1),
      )

-- the first units by places: all that is wanted of one offer more, and the end
pub first_more : (most : ℕ) (os : List Eligible) (i : ℕ) (d : Eligible) (n m t N M : ℕ) → i < length os → n ≤ most → t ≡ room most n (get_or os i d) → N ≡ n + t → M ≡ m + (get_or os i d).price.0 * t →
    (N + min (most - N) (held (drop (i + 1) os)) ≡ n + min (most - n) (held (drop i os))) × (M + cost (drop (i + 1) os) (most - N) ≡ m + cost (drop i os) (most - n))
unfolding cost held
first_more most os i d n m t N M l small et eN eM =
    let o = get_or os i d in
    let rest : (most - n) - o.left.0 ≡ most - N = omega arith in
    let here : min (most - n) o.left.0 ≡ t = omega arith in (
      rw (drop_more os i d l) (omega arith),
      rw (drop_more os i d l, rest, here) (omega arith),
    )

pub first_end : (most : ℕ) (os : List Eligible) (i n m : ℕ) → length os ≤ i → (n ≡ n + min (most - n) (held (drop i os))) × (m ≡ m + cost (drop i os) (most - n))
unfolding cost held
first_end most os i n m l = rw (drop_all i os l) (omega arith, omega arith)

-- the draw that empties offers by places: the offer of the number, an offer before it, and the end
pub poured_here : (os : List Eligible) (i n k : ℕ) → i < length os → named (get_or os i nothing) ≡ k → poured (drop i os) n k ≡ min n (get_or os i nothing).left.0
poured_here os i n k l e = let v = drop_more os i nothing l in grind arith

pub poured_more : (os : List Eligible) (i n k : ℕ) → i < length os → (named (get_or os i nothing) ≡ k → ⊥) → poured (drop i os) n k ≡ poured (drop (i + 1) os) (n - (get_or os i nothing).left.0) k
poured_more os i n k l ne = let v = drop_more os i nothing l in grind arith

pub poured_end : (os : List Eligible) (i n k : ℕ) → length os ≤ i → poured (drop i os) n k ≡ 0
poured_end os i n k l = rw (drop_all i os l)

pub ruleset pouring = (poured_here, poured_more, poured_end)
