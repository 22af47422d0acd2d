-- The walk over the ranked offers finds the draw that trades, or that there is no good draw.
use Rattle.std.proofs.Common.{◌≡◌, ℕ, ◌+◌, ◌*◌, ◌%◌, ◌<◌, ◌≤◌, min, Bool, true, false, cond, ◌&&◌, ltb, leb, List, [], ◌∷◌, Some, None, sum_by, Option, sym, refl, ap, ◌∙◌, subst, ap₂, inl, inr, mul-zero, zero-add, arith}
use native.Mathlib.Nat.{zero-mod}
use Rattle.std.specs.List.{AllByRecursion}
use Rattle.std.specs.List.Sorted.{IsPermutation}
use Rattle.std.proofs.ByRecursion.{All-weaker, all_shuffled}
use Rattle.std.proofs.lemmas.List.Sorted.{sum_by-IsPermutation, IsPermutation-sym}
use Rattle.std.proofs.lemmas.List.Sums.{sum_by-cons}
use Rattle.std.proofs.lemmas.Bool.{and_parts, and_cases, leb-true, leb-false, ltb-true, ltb-false}
use Rattle.units.specs.declared.side.Side.{Side}
use Rattle.units.specs.declared.side.Side.TheVariants.{Buy, Sell}
use Rattle.units.specs.declared.Quantity.{Quantity}
use Rattle.units.specs.declared.Money.{Money}
use Rattle.ranked.specs.Lists.{Order, Apart, ranked}
use Rattle.ranked.proofs.Placing.{ranked_shuffled}
use Rattle.ranked.proofs.Sorting.{Distinct, distinct_from_apart, apart_shuffled, ranked_in_order, in_order_coarser}
use Rattle.draw.specs.declared.offers.Eligible.{Eligible}
use Rattle.draw.specs.Sides.{NoWorse}
use Rattle.draw.specs.Offers.{named}
use Rattle.draw.specs.Rankings.{better_price}
use Rattle.draw.specs.Draws.{Draw, size, money, IsDraw, Good, GoodAutomatic, poured, Trades, BestTerms, Decides}
use Rattle.draw.specs.Walk.{walk, answered}
use Rattle.draw.proofs.Sides.{same_no_worse, whole_add}
use Rattle.draw.proofs.Cost.{PriceFirst, price_first, cost, held, cost_min, least_cost, poured_totals, poured_draw, poured_only}
use Rattle.draw.proofs.Reaching.{Reach, walked}

-- what best terms rest on: numbers apart, a ranking, and the better price first
pub record Priced (s : Side) (before : Eligible → Eligible → Bool) (os : List Eligible) : Type 0 where
  pub apart : Apart named os
  pub order : Order before named
  pub better_is_first : (x y : Eligible) → better_price s x y ≡ true → before x y ≡ true

-- what the walk works on besides: whole lots
pub record Lots (lot most : ℕ) (os : List Eligible) : Type 0 where
  pub some : 0 < lot
  pub whole_most : most % lot ≡ 0
  pub whole : AllByRecursion (λ o. o.left.0 % lot ≡ 0) os

whole_sum : (lot : ℕ) (f : Eligible → ℕ) (os : List Eligible) → AllByRecursion (λ o. f o % lot ≡ 0) os → sum_by f os % lot ≡ 0
whole_sum lot f [] a = zero-mod lot
whole_sum lot f (o ∷ os) a = rw sum_by-cons (whole_add lot (f o) (sum_by f os) a.0 (whole_sum lot f os a.1))

held_sum : (os : List Eligible) → held os ≡ sum_by (λ o. o.left.0) os
unfolding held
held_sum [] = refl
held_sum (o ∷ os) = let ih = held_sum os in rw sum_by-cons (grind arith)

-- two draws that trade are one
pub only_one : (before : Eligible → Eligible → Bool) (os : List Eligible) (IsGood : Draw → Type 0) (x y : Draw) → Trades before os IsGood x → Trades before os IsGood y → y ≡ x
only_one before os IsGood x y t u =
    let e : size os y ≡ size os x = (let a = t.greatest y u.good in let b = u.greatest x t.good in omega arith) in
    u.emptied ∙ (ap (poured (ranked before os)) e ∙ sym t.emptied)

module _ (s : Side) (before : Eligible → Eligible → Bool) (os : List Eligible) (k : Priced s before os) where
  abbrev rs : List Eligible
  rs = ranked before os

  same : IsPermutation os rs
  same = ranked_shuffled before os

  -- the totals of a draw are those over the ranked offers
  pub same_size : (x : Draw) → size rs x ≡ size os x
  same_size x = sum_by-IsPermutation (λ o. x (named o)) os rs same

  pub same_money : (x : Draw) → money rs x ≡ money os x
  same_money x = sum_by-IsPermutation (λ o. o.price.0 * x (named o)) os rs same

  pub ranked_apart : Distinct named rs
  ranked_apart = distinct_from_apart named rs (apart_shuffled named os rs same k.apart)

  ranked_priced : PriceFirst s rs
  ranked_priced = price_first s rs (in_order_coarser before (better_price s) k.better_is_first rs (ranked_in_order before named k.order os))

  -- no draw of as many units has better terms than the first units of the ranked offers
  cheapest : (lot : ℕ) (x : Draw) → IsDraw lot os x → (size os x ≤ held rs) × NoWorse s (cost rs (size os x)) (money os x)
  cheapest lot x d =
      let on = all_shuffled _ os rs same d.each in
      let h = least_cost s rs x ranked_priced (All-weaker _ _ (λ o b. b.0) rs on) in
      rw (← same_size x, ← same_money x) h

  -- the first n units, or all there are
  pub poured_size : (n : ℕ) → size os (poured rs n) ≡ min n (sum_by (λ o. o.left.0) os)
  poured_size n =
      let h = held_sum rs ∙ sum_by-IsPermutation (λ o. o.left.0) os rs same in
      sym (same_size (poured rs n)) ∙ ((poured_totals rs n ranked_apart).0 ∙ ap (min n) h)

  pub poured_money : (n : ℕ) → money os (poured rs n) ≡ cost rs n
  poured_money n = sym (same_money (poured rs n)) ∙ (poured_totals rs n ranked_apart).1

  -- no draw of as many units as the status has better terms
  pub poured_best : (lot n : ℕ) (x : Draw) → IsDraw lot os x → size os x ≡ size os (poured rs n) → NoWorse s (money os (poured rs n)) (money os x)
  poured_best lot n x d e =
      let h = cheapest lot x d in
      let t = poured_totals rs n ranked_apart in
      let c : cost rs (size os x) ≡ money os (poured rs n) = ap (cost rs) (e ∙ (sym (same_size (poured rs n)) ∙ t.0)) ∙ (cost_min rs n ∙ sym (poured_money n)) in
      subst (λ v. NoWorse s v (money os x)) c h.1

  module _ (lot price least most : ℕ) (l : Lots lot most os) where
    ranked_whole : AllByRecursion (λ o. o.left.0 % lot ≡ 0) rs
    ranked_whole = all_shuffled _ os rs same l.whole

    module _ (w : ℕ) (r : Reach s lot price most rs 0 0 w) where
      below : (x : Draw) → Good s lot price least most os x → size os x ≤ w
      below x g = let h = cheapest lot x g.draw in let n = size os x in r.greatest n h.0 (omega (arith, g.fits)) (whole_sum lot _ os (All-weaker _ _ (λ o b. b.1) os g.draw.each)) (chain s (cost rs n) (money os x) (price * n) _ (ap (λ v. price * v) (sym (zero-add n))) h.1 g.within)
        where
          chain : (s : Side) (a b c d : ℕ) → c ≡ d → NoWorse s a b → NoWorse s b c → NoWorse s (0 + a) d
          chain Buy a b c d e h i = omega arith
          chain Sell a b c d e h i = omega arith

      reached : size os (poured rs w) ≡ w
      reached = sym (same_size (poured rs w)) ∙ (let t = (poured_totals rs w ranked_apart).0 in let b = r.below in omega arith)

      good : 0 < w → least ≤ w → Good s lot price least most os (poured rs w)
      good some enough =
          record {
            draw = record {
              each = all_shuffled _ rs os (IsPermutation-sym _ _ same) (poured_draw lot rs w ranked_apart ranked_whole r.whole);
              only = λ n a. poured_only rs w n (all_shuffled _ os rs same a);
            };
            some = omega (arith, reached);
            enough = omega (arith, reached);
            fits = omega (arith, reached, r.fits);
            within = rw (poured_money w, reached) (plain s (cost rs w) _ _ (ap (λ v. price * v) (zero-add w)) r.within);
          }
        where
          plain : (s : Side) (a b c : ℕ) → b ≡ c → NoWorse s (0 + a) b → NoWorse s a c
          plain Buy a b c e h = omega arith
          plain Sell a b c e h = omega arith

      trades : 0 < w → least ≤ w → Trades before os (Good s lot price least most os) (poured rs w)
      trades some enough = record { good = good some enough; greatest = λ y g. rw reached (below y g); emptied = ap (poured rs) (sym reached) }

      terms : BestTerms s os (Good s lot price least most os) (poured rs w)
      terms y g e = rw (poured_money w, ← reached, ← e) (cheapest lot y g.draw).1

    reach : Reach s lot price most rs 0 0 (walk s lot price most rs 0 0).0 × ((walk s lot price most rs 0 0).1 ≡ cost rs (walk s lot price most rs 0 0).0)
    reach =
        let v = walked s lot price most l.some rs 0 0 l.whole_most ranked_whole ranked_priced (omega arith) (zero-mod lot) (same_no_worse s 0 (price * 0) (sym (mul-zero price))) in
        let e : v.more ≡ (walk s lot price most rs 0 0).0 = omega (arith, v.size_is) in
        (subst (Reach s lot price most rs 0 0) e v.reach, v.money_is ∙ (zero-add _ ∙ ap (cost rs) e))

    -- what the walk finds
    pub walk_decides : Decides s before os (Good s lot price least most os) (answered least (walk s lot price most rs 0 0))
    walk_decides = go (ltb 0 n && leb least n) refl
      where
        w : ℕ × ℕ
        w = walk s lot price most rs 0 0

        n : ℕ
        n = w.0

        go : (b : Bool) → (ltb 0 n && leb least n) ≡ b → Decides s before os (Good s lot price least most os) (cond b (Some (record { 0 = w.0 }, record { 0 = w.1 })) None)
        go true e =
            let p = and_parts (ltb 0 n) (leb least n) e in
            let some = ltb-true 0 n p.0 in
            let enough = leb-true least n p.1 in
            let t = trades n reach.0 some enough in
            (poured rs n, t, ap₂ (λ (a b : ℕ). (record { 0 = a }, record { 0 = b })) (sym (reached n reach.0)) (reach.1 ∙ sym (poured_money n)), terms n reach.0, λ y u. only_one before os _ (poured rs n) y t u)
        go false e = λ x g.
            let b = below n reach.0 x g in
            let some = g.some in
            let enough = g.enough in
            elim (and_cases (ltb 0 n) (leb least n) e) [ inl f ↦ (let h = ltb-false 0 n f in omega arith) | inr f ↦ (let h = leb-false least n f in omega arith) ]

-- draws that are good in one sense exactly where they are in another are decided alike
pub decides_alike : (s : Side) (before : Eligible → Eligible → Bool) (os : List Eligible) (P Q : Draw → Type 0) → ((x : Draw) → P x → Q x) → ((x : Draw) → Q x → P x) → (r : Option (Quantity × Money)) → Decides s before os P r → Decides s before os Q r
decides_alike s before os P Q f g None d = λ x q. d x (g x q)
decides_alike s before os P Q f g (Some r) d = (
  d.0,
  record { good = f d.0 d.1.good; greatest = λ y q. d.1.greatest y (g y q); emptied = d.1.emptied },
  d.2,
  (λ y q e. d.3 y (g y q) e),
  λ y t. d.4 y (record { good = g y t.good; greatest = λ z p. t.greatest z (f z p); emptied = t.emptied }),
)

-- a good draw for an automatic request has its quantity as least and as most
pub automatic_good : (s : Side) (lot limit quantity least_firms firms : ℕ) (os : List Eligible) (x : Draw) → GoodAutomatic s lot limit quantity least_firms firms os x → 0 < quantity → Good s lot limit quantity quantity os x
automatic_good s lot limit quantity least_firms firms os x g some =
    record { draw = g.draw; some = omega (arith, g.exact); enough = omega (arith, g.exact); fits = omega (arith, g.exact); within = g.within }

pub good_automatic : (s : Side) (lot limit quantity least_firms firms : ℕ) (os : List Eligible) (x : Draw) → least_firms ≤ firms → Good s lot limit quantity quantity os x → GoodAutomatic s lot limit quantity least_firms firms os x
good_automatic s lot limit quantity least_firms firms os x h g = record { draw = g.draw; exact = omega (arith, g.enough, g.fits); within = g.within; enough = h }
