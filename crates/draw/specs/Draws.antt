-- Draws on a list of offers: what one takes, which are good, and the one that trades.
use Rattle.std.specs.Prelude.{◌≡◌, ℕ, ◌-◌, ◌*◌, ◌%◌, ◌<◌, ◌≤◌, min, Bool, cond, List, [], ◌∷◌, Some, None, sum_by, Option, ◌==◌, ◌≢◌}
use Rattle.std.specs.List.{AllByRecursion}
use Rattle.units.specs.declared.side.Side.{Side}
use Rattle.units.specs.declared.Quantity.{Quantity}
use Rattle.units.specs.declared.Money.{Money}
use Rattle.ranked.specs.Lists.{ranked}
use Rattle.draw.specs.declared.offers.Eligible.{Eligible}
use Rattle.draw.specs.Sides.{NoWorse}
use Rattle.draw.specs.Offers.{named}

-- a draw says how many units it takes from each number
abbrev pub Draw : Type 0
Draw = ℕ → ℕ

-- it is totalled as its size and its money together
abbrev pub size : List Eligible → Draw → ℕ
size os x = sum_by (λ o. x (named o)) os

abbrev pub money : List Eligible → Draw → ℕ
money os x = sum_by (λ o. o.price.0 * x (named o)) os

abbrev pub totals : List Eligible → Draw → Quantity × Money
totals os x = (record { 0 = size os x }, record { 0 = money os x })

-- from each offer 0 up to what is left, in whole lots, and nothing from anything else
pub record IsDraw (lot : ℕ) (os : List Eligible) (x : Draw) : Type 0 where
  pub each : AllByRecursion (λ o. (x (named o) ≤ o.left.0) × (x (named o) % lot ≡ 0)) os
  pub only : (k : ℕ) → AllByRecursion (λ o. named o ≢ k) os → x k ≡ 0

-- within a price: the money is no worse than that price for every unit, to the last unit of money
abbrev pub Within : Side → ℕ → List Eligible → Draw → Type 0
Within s price os x = NoWorse s (money os x) (price * size os x)

-- a good draw for a confirmation at a price, of a request for `most` units that wants at least `least`
pub record Good (s : Side) (lot price least most : ℕ) (os : List Eligible) (x : Draw) : Type 0 where
  pub draw : IsDraw lot os x
  pub some : 0 < size os x
  pub enough : least ≤ size os x
  pub fits : size os x ≤ most
  pub within : Within s price os x

-- a good draw for an automatic request: exactly its quantity, within its limit, and of the different firms that the living answers to it
-- come from there are at least so many
pub record GoodAutomatic (s : Side) (lot limit quantity least_firms firms : ℕ) (os : List Eligible) (x : Draw) : Type 0 where
  pub draw : IsDraw lot os x
  pub exact : size os x ≡ quantity
  pub within : Within s limit os x
  pub enough : least_firms ≤ firms

-- the draw that empties the offers in their order until n units are reached
abbrev pub poured : List Eligible → ℕ → Draw
poured [] n k = 0
poured (o ∷ os) n k = cond (k == named o) (min n o.left.0) (poured os (n - o.left.0) k)

-- the draw that trades, of those that are good: it has the greatest size, and empties the offers in their ranking until that size is reached
pub record Trades (before : Eligible → Eligible → Bool) (os : List Eligible) (IsGood : Draw → Type 0) (x : Draw) : Type 0 where
  pub good : IsGood x
  pub greatest : (y : Draw) → IsGood y → size os y ≤ size os x
  pub emptied : x ≡ poured (ranked before os) (size os x)

-- best terms: no good draw of as many units costs a buyer less or brings a seller more
abbrev pub BestTerms : Side → List Eligible → (Draw → Type 0) → Draw → Type 0
BestTerms s os IsGood x = (y : Draw) → IsGood y → size os y ≡ size os x → NoWorse s (money os x) (money os y)

-- what is answered: size and money of the draw that trades, which has best terms and is the only one; or none, where no draw is good
abbrev pub Decides : Side → (Eligible → Eligible → Bool) → List Eligible → (Draw → Type 0) → Option (Quantity × Money) → Type 0
Decides s before os IsGood None = (x : Draw) → IsGood x → ⊥
Decides s before os IsGood (Some r) =
    (x : Draw) × Trades before os IsGood x × (r ≡ totals os x) × BestTerms s os IsGood x
    × ((y : Draw) → Trades before os IsGood y → y ≡ x)

-- the draw of a status: the offers emptied in their ranking up to the request's quantity, or all there is, without a limit
abbrev pub status_draw : (Eligible → Eligible → Bool) → List Eligible → ℕ → Draw
status_draw before os quantity = poured (ranked before os) quantity
