-- Each ranking of offers is an order without ties, and puts the better price first.
use Rattle.std.specs.Prelude.{◌≡◌, true, not, ◌&&◌, ◌||◌}
use Rattle.std.proofs.Common.{ap}
use Rattle.std.specs.Cmp.{IsStrictWeakOrder}
use Rattle.ranked.specs.Orders.{lower, then_by}
use Rattle.draw.specs.declared.offers.Eligible.{Eligible}
use Rattle.ranked.specs.Lists.{Order}
use Rattle.ranked.proofs.Orders.{lower_ranks, higher_ranks, those_ranks, then_order, lower_order}
use Rattle.units.specs.declared.side.Side.{Side}
use Rattle.units.specs.declared.side.Side.TheVariants as sides
use Rattle.draw.specs.Offers.{named}
use Rattle.draw.specs.Rankings.{better_price, answers_first, more_left, request_before, trading_before}

pub better_ranks : (s : Side) → IsStrictWeakOrder (better_price s)
better_ranks sides.Buy = lower_ranks (λ x. x.price.0)
better_ranks sides.Sell = higher_ranks (λ x. x.price.0)

pub request_order : (s : Side) → Order (request_before s) named
request_order s = then_order (better_price s) _ (better_ranks s) named (then_order answers_first _ (those_ranks (λ x. x.is_answer)) named (then_order more_left _ (higher_ranks (λ x. x.left.0)) named (lower_order named)))

pub trading_order : (s : Side) → Order (trading_before s) named
trading_order s = then_order (better_price s) _ (better_ranks s) named (lower_order named)

pub request_better : (s : Side) (x y : Eligible) → better_price s x y ≡ true → request_before s x y ≡ true
request_better s x y e = ap (λ b. b || (not (better_price s y x) && then_by answers_first (then_by more_left (lower named)) x y)) e

pub trading_better : (s : Side) (x y : Eligible) → better_price s x y ≡ true → trading_before s x y ≡ true
trading_better s x y e = ap (λ b. b || (not (better_price s y x) && lower named x y)) e
