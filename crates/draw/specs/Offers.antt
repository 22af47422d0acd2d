-- Which offers a request may draw on.
use Rattle.std.specs.Prelude.{◌≡◌, ℕ, ◌<◌, Bool, true, false, cond, ◌&&◌, List, map, Some, None, filter, Option, is_some, ◌==◌}
use Rattle.std.specs.List.{AllByRecursion}
use Rattle.units.specs.declared.side.Side.{Side}
use Rattle.units.specs.declared.side.Side.TheVariants as sides
use Rattle.units.specs.declared.Number.{Number}
use Rattle.units.specs.Sides.{other}
use Rattle.units.specs.Ranges.{is_price, is_quantity, is_lot}
use Rattle.ranked.specs.Lists.{Apart}
use Rattle.draw.specs.declared.offers.Offered.{Offered}
use Rattle.draw.specs.declared.offers.Taker.{Taker}
use Rattle.draw.specs.declared.offers.Eligible.{Eligible}

abbrev pub same_side : Side → Side → Bool
same_side sides.Buy sides.Buy = true
same_side sides.Buy sides.Sell = false
same_side sides.Sell sides.Buy = false
same_side sides.Sell sides.Sell = true

-- whether the request of that number may draw on what answers so: on an offer of the book, or on an answer to this very request
abbrev pub open_to : ℕ → Option Number → Bool
open_to request None = true
open_to request (Some n) = n.0 == request

-- eligible to a request's buyer are the book's offers to sell and the answers that sell to this request; to a seller, the mirror
abbrev pub is_eligible : Taker → Offered → Bool
is_eligible t o = same_side o.side (other t.side) && open_to t.number.0 o.answers_to

abbrev pub as_eligible : Offered → Eligible
as_eligible o = record { number = o.number; firm = o.firm; price = o.price; left = o.left; is_answer = is_some o.answers_to }

-- what the request may draw on of one offer
abbrev pub admitted : Taker → Offered → Option Eligible
admitted t o = cond (is_eligible t o) (Some (as_eligible o)) None

-- what it may draw on of all offers and answers
abbrev pub eligible : Taker → List Offered → List Eligible
eligible t os = map as_eligible (filter (is_eligible t) os)

-- the number that names an offer
abbrev pub named : Eligible → ℕ
named o = o.number.0

-- a price in range, and something left in whole lots
pub record Sound (lot : ℕ) (o : Eligible) : Type 0 where
  pub price : is_price o.price.0 ≡ true
  pub left : is_quantity lot o.left.0 ≡ true

-- what a decision may take for granted: a lot and a quantity in range, sound offers, no number that names two
pub record Ready (lot quantity : ℕ) (os : List Eligible) : Type 0 where
  pub lot_fits : is_lot lot ≡ true
  pub fits : is_quantity lot quantity ≡ true
  pub sound : AllByRecursion (Sound lot) os
  pub apart : Apart named os

-- offers that can be emptied one after another: no number names two, and something is left of each
pub record Pourable (os : List Eligible) : Type 0 where
  pub apart : Apart named os
  pub some : AllByRecursion (λ o. 0 < o.left.0) os
