-- The walk that finds the draw that trades in one pass over ranked offers, as it is computed.
use Rattle.std.specs.Prelude.{ℕ, ◌+◌, ◌-◌, ◌*◌, ◌/◌, min, Bool, cond, ◌&&◌, List, [], ◌∷◌, Some, None, Option, nat_le, nat_lt}
use Rattle.units.specs.declared.side.Side.{Side}
use Rattle.units.specs.declared.Quantity.{Quantity}
use Rattle.units.specs.declared.Money.{Money}
use Rattle.draw.specs.declared.offers.Eligible.{Eligible}
use Rattle.draw.specs.Sides.{no_worse}

-- how far apart two numbers are
abbrev pub gap : ℕ → ℕ → ℕ
gap a b = (a - b) + (b - a)

-- the units of an offer that a walk of size n may still want
abbrev pub room : ℕ → ℕ → Eligible → ℕ
room most n o = min o.left.0 (most - n)

-- the units in whole lots, at a price q worse than the limit, that the money m saved on n units pays for
abbrev pub part : ℕ → ℕ → ℕ → ℕ → ℕ → ℕ
part lot price n m q = gap m (price * n) / (lot * gap q price) * lot

-- whether t units more at the price q leave the whole within the price
abbrev pub fitting : Side → ℕ → ℕ → ℕ → ℕ → ℕ → Bool
fitting s price n m q t = no_worse s (m + q * t) (price * (n + t))

-- size and money from n and m on: whole offers while the whole stays within the price, then what still fits of the next
unfoldable pub walk : Side → ℕ → ℕ → ℕ → List Eligible → ℕ → ℕ → ℕ × ℕ
walk s lot price most [] n m = (n, m)
walk s lot price most (o ∷ os) n m =
    cond (fitting s price n m o.price.0 (room most n o))
    (walk s lot price most os (n + room most n o) (m + o.price.0 * room most n o))
    (n + part lot price n m o.price.0, m + o.price.0 * part lot price n m o.price.0)

-- what is answered: none where the walk found no units, or less than the least
abbrev pub answered : ℕ → ℕ × ℕ → Option (Quantity × Money)
answered least w = cond (nat_lt 0 w.0 && nat_le least w.0) (Some (record { 0 = w.0 }, record { 0 = w.1 })) None

-- of offers in their ranking
abbrev pub decided : Side → ℕ → ℕ → ℕ → ℕ → List Eligible → Option (Quantity × Money)
decided s lot price least most os = answered least (walk s lot price most os 0 0)
