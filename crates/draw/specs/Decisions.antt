-- What the public calls on draws promise.
use Rattle.std.specs.Prelude.{◌≡◌, ℕ, ◌*◌, ◌≤◌, min, Bool, cond, List, None, sum_by, Option, nat_le}
use Rattle.std.specs.List.Sorted.{IsPermutation}
use Rattle.units.specs.declared.side.Side.{Side}
use Rattle.units.specs.declared.Quantity.{Quantity}
use Rattle.units.specs.declared.Money.{Money}
use Rattle.ranked.specs.Lists.{ranked}
use Rattle.draw.specs.declared.offers.Eligible.{Eligible}
use Rattle.draw.specs.Sides.{NoWorse}
use Rattle.draw.specs.Draws.{Draw, size, money, totals, IsDraw, Good, GoodAutomatic, Decides, status_draw}
use Rattle.draw.specs.Walk.{decided}

-- a confirmation at a price is decided: it is the draw that trades or none is good, and the order of the eligible offers does not matter
pub record Confirms (s : Side) (before : Eligible → Eligible → Bool) (lot price least most : ℕ) (os : List Eligible) (r : Option (Quantity × Money)) : Type 0 where
  pub value : r ≡ decided s lot price least most (ranked before os)
  pub decides : Decides s before os (Good s lot price least most os) r
  pub any_order : (ys : List Eligible) → IsPermutation os ys → r ≡ decided s lot price least most (ranked before ys)

-- an automatic request is decided: without enough firms no draw is good
abbrev pub automatic : Side → ℕ → ℕ → ℕ → ℕ → ℕ → List Eligible → Option (Quantity × Money)
automatic s lot limit quantity least_firms firms os = cond (nat_le least_firms firms) (decided s lot limit quantity quantity os) None

pub record Serves (s : Side) (before : Eligible → Eligible → Bool) (lot limit quantity least_firms firms : ℕ) (os : List Eligible) (r : Option (Quantity × Money)) : Type 0 where
  pub value : r ≡ automatic s lot limit quantity least_firms firms (ranked before os)
  pub decides : Decides s before os (GoodAutomatic s lot limit quantity least_firms firms os) r
  pub any_order : (ys : List Eligible) → IsPermutation os ys → r ≡ automatic s lot limit quantity least_firms firms (ranked before ys)

-- a status is answered: the totals of its draw, which has the quantity or all there is, and no draw of as many units has better terms
pub record Shows (s : Side) (before : Eligible → Eligible → Bool) (quantity : ℕ) (os : List Eligible) (r : Quantity × Money) : Type 0 where
  pub value : r ≡ totals os (status_draw before os quantity)
  pub all : r.0.0 ≡ min quantity (sum_by (λ o. o.left.0) os)
  pub terms : (lot : ℕ) (x : Draw) → IsDraw lot os x → size os x ≡ r.0.0 → NoWorse s r.1.0 (money os x)
  pub any_order : (ys : List Eligible) → IsPermutation os ys → r ≡ totals ys (status_draw before ys quantity)
  pub in_range : r.1.0 ≤ 1000000000 * r.0.0
