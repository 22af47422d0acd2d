-- Fills, and the draw that they make up.
use Rattle.std.specs.Prelude.{◌≡◌, ℕ, ◌-◌, ◌*◌, ◌<◌, min, Bool, true, cond, List, [], ◌∷◌, map, length, take, is_some, Some, None, sum_by, Option, ◌==◌, ◌≢◌}
use Rattle.std.specs.List.{AllByRecursion}
use Rattle.units.specs.declared.side.Side.{Side}
use Rattle.units.specs.declared.Quantity.{Quantity}
use Rattle.units.specs.declared.Money.{Money}
use Rattle.units.specs.declared.Number.{Number}
use Rattle.units.specs.declared.Price.{Price}
use Rattle.ranked.specs.Lists.{Apart, ranked}
use Rattle.draw.specs.declared.offers.Eligible.{Eligible}
use Rattle.draw.specs.declared.fills.Fill.{Fill}
use Rattle.draw.specs.Draws.{Draw, size, money, poured, Good, GoodAutomatic, Trades, BestTerms}
use Rattle.draw.specs.Decisions.{Confirms, Serves}

-- the units that fills take from each number
abbrev pub taken : List Fill → Draw
taken fs k = sum_by (λ f. cond (k == f.maker.0) f.quantity.0 0) fs

-- the offers emptied in their order until n units are reached
unfoldable pub fills : List Eligible → ℕ → List Fill
fills [] n = []
fills (o ∷ os) n =
    cond (n == 0) []
    (record { maker = o.number; price = o.price; quantity = record { 0 = min n o.left.0 } } ∷ fills os (n - o.left.0))

abbrev pub maker_of : Fill → Number × Price
maker_of f = (f.maker, f.price)

abbrev pub offer_of : Eligible → Number × Price
offer_of o = (o.number, o.price)

-- the fills are that draw on the offers, in their order from the first on and at their prices, each maker once, none of 0 units;
-- quantities and money add up to its totals
pub record FillsUp (os : List Eligible) (n : ℕ) (fs : List Fill) : Type 0 where
  pub drawn : taken fs ≡ poured os n
  pub in_order : map maker_of fs ≡ map offer_of (take (length fs) os)
  pub once : Apart (λ f. f.maker.0) fs
  pub some : AllByRecursion (λ f. 0 < f.quantity.0) fs
  pub units : sum_by (λ f. f.quantity.0) fs ≡ size os (poured os n)
  pub cash : sum_by (λ f. f.price.0 * f.quantity.0) fs ≡ money os (poured os n)

-- what a decision on ranked offers fills
abbrev pub traded : List Eligible → Option (Quantity × Money) → List Fill
traded rs None = []
traded rs (Some r) = fills rs r.0.0

-- the fills are what the rules name: none exactly when no draw is good; else they are the draw that trades, on best terms
pub record Fair (s : Side) (before : Eligible → Eligible → Bool) (os : List Eligible) (IsGood : Draw → Type 0) (fs : List Fill) : Type 0 where
  pub unfilled : fs ≡ [] → (x : Draw) → IsGood x → ⊥
  pub only_so : ((x : Draw) → IsGood x → ⊥) → fs ≡ []
  pub trades : (fs ≢ []) → Trades before os IsGood (taken fs)
  pub terms : (fs ≢ []) → BestTerms s os IsGood (taken fs)

-- so they are where offers came ranked and a confirmation was decided on them
abbrev pub FairConfirmation : List Eligible → Option (Quantity × Money) → Type 0
FairConfirmation rs found =
    (s : Side) (before : Eligible → Eligible → Bool) (lot price least most : ℕ) (os : List Eligible) → rs ≡ ranked before os →
    Confirms s before lot price least most os found → Fair s before os (Good s lot price least most os) (traded rs found)

-- or a turn of an automatic request, which ranks them only where there are enough firms
abbrev pub FairTurn : List Eligible → Option (Quantity × Money) → Type 0
FairTurn rs found =
    (s : Side) (before : Eligible → Eligible → Bool) (lot limit quantity least_firms firms : ℕ) (os : List Eligible) → 0 < quantity → (is_some found ≡ true → rs ≡ ranked before os) →
    Serves s before lot limit quantity least_firms firms os found → Fair s before os (GoodAutomatic s lot limit quantity least_firms firms os) (traded rs found)
