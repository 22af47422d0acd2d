-- The walk over ranked offers reaches the greatest size, in whole lots, at which the offers' first units are within the price.
use Rattle.std.proofs.Common.{◌≡◌, ℕ, ◌+◌, ◌-◌, ◌*◌, ◌%◌, ◌<◌, ◌≤◌, min, Bool, true, false, cond, List, [], ◌∷◌, sym, refl, ap, ◌∙◌, inl, inr, add_assoc, zero-add, mul-add, arith}
use native.Mathlib.Nat.{mul-mod_left, zero-mod}
use Rattle.std.specs.List.{AllByRecursion}
use Rattle.std.proofs.lemmas.Bool.{cases_lt}
use Rattle.draw.specs.Sides.{NoWorse, no_worse}
use Rattle.draw.specs.Walk.{room, part, walk}
use Rattle.draw.specs.declared.offers.Eligible.{Eligible}
use Rattle.units.specs.declared.side.Side.{Side}
use Rattle.units.specs.declared.side.Side.TheVariants.{Buy, Sell}
use Rattle.draw.proofs.Sides.{Worse, test_true, test_false, times, pays, paid, worse_price, whole_add, whole_sub, whole_min, part_paid, part_most, part_room}
use Rattle.draw.proofs.Cost.{PriceFirst, cost, held, cost_zero, cost_step}

-- w units more from size n and money m: as many as may be
pub record Reach (s : Side) (lot price most : ℕ) (os : List Eligible) (n m w : ℕ) : Type 0 where
  pub below : w ≤ held os
  pub fits : n + w ≤ most
  pub whole : w % lot ≡ 0
  pub within : NoWorse s (m + cost os w) (price * (n + w))
  pub greatest : (k : ℕ) → k ≤ held os → n + k ≤ most → k % lot ≡ 0 → NoWorse s (m + cost os k) (price * (n + k)) → k ≤ w

pub record Walked (s : Side) (lot price most : ℕ) (os : List Eligible) (n m : ℕ) (r : ℕ × ℕ) : Type 0 where
  pub more : ℕ
  pub size_is : r.0 ≡ n + more
  pub money_is : r.1 ≡ m + cost os more
  pub reach : Reach s lot price most os n m more

-- money and limit at terms that are equal
moved : (s : Side) (a b c d : ℕ) → a ≡ b → c ≡ d → NoWorse s a c → NoWorse s b d
moved Buy a b c d e f h = omega arith
moved Sell a b c d e f h = omega arith

-- the units of the first offer, and then those of the others
cost_front : (o : Eligible) (os : List Eligible) (t k : ℕ) → min (t + k) o.left.0 ≡ t → (t + k) - o.left.0 ≡ k →
    cost (o ∷ os) (t + k) ≡ o.price.0 * t + cost os k
unfolding cost
cost_front o os t k e f = rw (e, f)

module _ (s : Side) (lot price most : ℕ) (lots : 0 < lot) (o : Eligible) (os : List Eligible) (n m : ℕ)
    (i : NoWorse s m (price * n)) (small : n ≤ most) where
  abbrev t : ℕ
  t = room most n o

  abbrev q : ℕ
  q = o.price.0

  abbrev l : ℕ
  l = o.left.0

  -- the first offer whole, or all that is still wanted
  reach_yes : (w : ℕ) → l % lot ≡ 0 → t % lot ≡ 0 → Reach s lot price most os (n + t) (m + q * t) w → Reach s lot price most (o ∷ os) n m (t + w)
  unfolding held
  reach_yes w wl wt r =
      let b = r.below in
      let g = r.fits in
      record {
        below = omega arith;
        fits = omega arith;
        whole = whole_add lot t w wt r.whole;
        within = moved s ((m + q * t) + cost os w) (m + cost (o ∷ os) (t + w)) (price * ((n + t) + w)) (price * (n + (t + w)))
            (let e = cost_front o os t w (omega arith) (omega arith) in omega arith)
            (ap (λ v. price * v) (add_assoc n t w))
            r.within;
        greatest = λ k kb kf kw h. elim (cases_lt t k) [
          | inr le ↦ omega arith
          | inl lt ↦
              let split : k ≡ t + (k - l) = omega arith in
              let step = r.greatest (k - l) (omega arith) (omega arith) (whole_sub lot k l kw wl)
              (moved s (m + cost (o ∷ os) k) ((m + q * t) + cost os (k - l)) (price * (n + k)) (price * ((n + t) + (k - l)))
              (let e = cost_front o os t (k - l) (omega arith) (omega arith) in let e₂ = ap (cost (o ∷ os)) split in omega arith)
              (ap (λ v. price * v) (let z : n + k ≡ (n + t) + (k - l) = omega arith in z))
              h) in
              omega arith
        ];
      }

  -- what the money saved pays for of the first offer, and no more
  module _ (w : Worse s (m + q * t) (price * (n + t))) where
    abbrev k₀ : ℕ
    k₀ = part lot price n m q

    cost_part : (k : ℕ) → k ≤ l → cost (o ∷ os) k ≡ q * k
    unfolding cost
    cost_part k h =
        let z : k - o.left.0 ≡ 0 = omega arith in
        let y : min k o.left.0 ≡ k = omega arith in
        let c = cost_zero os in
        rw (z, y) (omega arith)

    abbrev worse : Worse s q price
    worse = worse_price s q price m n t i w

    reach_no : AllByRecursion (λ later. NoWorse s q later.price.0) os → Reach s lot price most (o ∷ os) n m k₀
    unfolding held
    reach_no first =
        let r = part_room s lot price n m q t lots i w in
        record {
          below = omega arith;
          fits = omega arith;
          whole = mul-mod_left _ lot;
          within = moved s (m + q * k₀) (m + cost (o ∷ os) k₀) _ _ (ap (λ v. m + v) (sym (cost_part k₀ (omega arith)))) refl
              (paid s q price m n k₀ i worse (part_paid s lot price n m q t lots i w));
          greatest = λ k kb kf kw h. elim (cases_lt l k) [
            | inr le ↦ part_most s lot price n m q t lots i w k kw (pays s q price m n k i worse
                (moved s (m + cost (o ∷ os) k) (m + q * k) _ _ (ap (λ v. m + v) (cost_part k le)) refl h))
            | inl lt ↦ absurd (past k lt kb kf h)
          ];
        }
      where
        glue : (s : Side) (mq u pu qu pnt pnk : ℕ) → pnk ≡ pnt + pu → NoWorse s qu u → NoWorse s pu qu → NoWorse s (mq + u) pnk → Worse s mq pnt → ⊥
        glue Buy mq u pu qu pnt pnk f a b g h = omega arith
        glue Sell mq u pu qu pnt pnk f a b g h = omega arith

        flip : (s : Side) (a b : ℕ) → Worse s a b → NoWorse s b a
        flip Buy a b h = omega arith
        flip Sell a b h = omega arith

        past : (k : ℕ) → l < k → k ≤ held (o ∷ os) → n + k ≤ most → NoWorse s (m + cost (o ∷ os) k) (price * (n + k)) → ⊥
        past k lt kb kf h =
            let at : k ≡ t + (k - l) = omega arith in
            let e = cost_front o os t (k - l) (omega arith) (omega arith) in
            let e₂ = ap (cost (o ∷ os)) at in
            glue s (m + q * t) (cost os (k - l)) (price * (k - l)) (q * (k - l)) (price * (n + t)) (price * (n + k))
            (ap (λ v. price * v) (let z : n + k ≡ (n + t) + (k - l) = omega arith in z) ∙ mul-add price (n + t) (k - l))
            (moved s (cost os 0 + q * (k - l)) (q * (k - l)) (cost os (0 + (k - l))) (cost os (k - l))
            (ap (λ v. v + q * (k - l)) (cost_zero os) ∙ zero-add _) (ap (cost os) (zero-add (k - l)))
            (cost_step s q os 0 (k - l) first (omega arith)))
            (times s price q (k - l) (flip s q price worse))
            (moved s (m + cost (o ∷ os) k) ((m + q * t) + cost os (k - l)) _ _ (omega arith) refl h)
            w

-- the walk from size n and money m
pub walked : (s : Side) (lot price most : ℕ) → 0 < lot → (os : List Eligible) (n m : ℕ) →
    most % lot ≡ 0 → AllByRecursion (λ o. o.left.0 % lot ≡ 0) os → PriceFirst s os → n ≤ most → n % lot ≡ 0 → NoWorse s m (price * n) →
    Walked s lot price most os n m (walk s lot price most os n m)
unfolding walk cost held
walked s lot price most lots [] n m wq wl f small wn i =
    record {
      more = 0;
      size_is = omega arith;
      money_is = omega arith;
      reach = record {
        below = omega arith;
        fits = omega arith;
        whole = zero-mod lot;
        within = moved s m (m + 0) (price * n) (price * (n + 0)) (omega arith) (ap (λ v. price * v) (let z : n ≡ n + 0 = omega arith in z)) i;
        greatest = λ k kb kf kw h. kb;
      };
    }
walked s lot price most lots (o ∷ os) n m wq wl f small wn i =
    go (no_worse s (m + o.price.0 * r) (price * (n + r))) refl
    (walked s lot price most lots os (n + r) (m + o.price.0 * r) wq wl.1 f.1 (omega arith) (whole_add lot n r wn wr))
  where
    r : ℕ
    r = room most n o

    wr : r % lot ≡ 0
    wr = whole_min lot o.left.0 (most - n) wl.0 (whole_sub lot most n wq wn)

    go : (b : Bool) → no_worse s (m + o.price.0 * r) (price * (n + r)) ≡ b →
        (NoWorse s (m + o.price.0 * r) (price * (n + r)) →
        Walked s lot price most os (n + r) (m + o.price.0 * r) (walk s lot price most os (n + r) (m + o.price.0 * r))) →
        Walked s lot price most (o ∷ os) n m
        (cond b (walk s lot price most os (n + r) (m + o.price.0 * r)) (n + part lot price n m o.price.0, m + o.price.0 * part lot price n m o.price.0))
    go true e ih =
        let v = ih (test_true s _ _ e) in
        let b = v.reach.below in
        let g = v.reach.fits in
        let c = cost_front o os r v.more (omega arith) (omega arith) in
        record {
          more = r + v.more;
          size_is = omega (arith, v.size_is);
          money_is = omega (arith, v.money_is);
          reach = reach_yes s lot price most lots o os n m i small v.more wl.0 wr v.reach;
        }
    go false e ih =
        let w = test_false s _ _ e in
        let p = part_room s lot price n m o.price.0 r lots i w in
        let c = cost_part s lot price most lots o os n m i small w (part lot price n m o.price.0) (omega arith) in
        record {
          more = part lot price n m o.price.0;
          size_is = refl;
          money_is = omega arith;
          reach = reach_no s lot price most lots o os n m i small w f.0;
        }
