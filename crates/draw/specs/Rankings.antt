-- The rankings of offers. A better price is the lower to a buyer and the higher to a seller.
use Rattle.std.specs.Prelude.{Bool}
use Rattle.ranked.specs.Orders.{lower, higher, those, then_by}
use Rattle.units.specs.declared.side.Side.{Side}
use Rattle.draw.specs.declared.offers.Eligible.{Eligible}
use Rattle.draw.specs.Sides.{better}
use Rattle.draw.specs.Offers.{named}

abbrev pub better_price : Side → Eligible → Eligible → Bool
better_price s x y = better s x.price.0 y.price.0

abbrev pub answers_first : Eligible → Eligible → Bool
answers_first = those (λ x. x.is_answer)

abbrev pub more_left : Eligible → Eligible → Bool
more_left = higher (λ x. x.left.0)

-- the request ranking: the better price first, then answers before book offers, then more left, then the lower number
abbrev pub request_before : Side → Eligible → Eligible → Bool
request_before s = then_by (better_price s) (then_by answers_first (then_by more_left (lower named)))

-- the trading ranking: the better price first, then the lower number
abbrev pub trading_before : Side → Eligible → Eligible → Bool
trading_before s = then_by (better_price s) (lower named)
