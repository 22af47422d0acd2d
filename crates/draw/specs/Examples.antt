-- The worked examples: one statement over their table, of what draws, rankings and statuses are, and not of how they are computed.
use Rattle.std.specs.Prelude.{◌≡◌, ℕ, List, [], ◌∷◌, map, Some, None, Option}
use Rattle.std.specs.List.{AllByRecursion}
use Rattle.units.specs.declared.side.Side.{Side}
use Rattle.units.specs.declared.side.Side.TheVariants.{Buy, Sell}
use Rattle.units.specs.declared.Number.{Number}
use Rattle.units.specs.declared.Quantity.{Quantity}
use Rattle.units.specs.declared.Money.{Money}
use Rattle.ranked.specs.Lists.{ranked}
use Rattle.draw.specs.declared.offers.Offered.{Offered}
use Rattle.draw.specs.declared.offers.Eligible.{Eligible}
use Rattle.draw.specs.Offers.{eligible, named}
use Rattle.draw.specs.Rankings.{request_before}
use Rattle.draw.specs.Draws.{Good, Decides, totals, status_draw}
use Rattle.draw.specs.Prices.{shown}

-- ── who offers ──

abbrev offered : Option Number → Side → ℕ → ℕ → ℕ → ℕ → Offered
offered answers_to side number firm price left =
    record { number = record { 0 = number }; firm = record { 0 = firm }; side = side; price = record { 0 = price }; left = record { 0 = left }; answers_to = answers_to }

abbrev in_book : Side → ℕ → ℕ → ℕ → ℕ → Offered
in_book = offered None

-- the request has the number 2 and is firm 1's
abbrev answers : Side → ℕ → ℕ → ℕ → ℕ → Offered
answers = offered (Some (record { 0 = 2 }))

abbrev offered_to : Side → List Offered → List Eligible
offered_to side os = eligible (record { number = record { 0 = 2 }; firm = record { 0 = 1 }; side = side }) os

-- firm 4 sells 1,000 at 980 in the book; firm 2 answers 2,000 at 990; firm 3 then 5,000 at 1,000
abbrev pub two_sellers : List Eligible
two_sellers = offered_to Buy (in_book Sell 1 4 980 1000 ∷ answers Sell 3 2 990 2000 ∷ [])

abbrev pub sellers : List Eligible
sellers = offered_to Buy (in_book Sell 1 4 980 1000 ∷ answers Sell 3 2 990 2000 ∷ answers Sell 4 3 1000 5000 ∷ [])

-- bids of 1,000 at 1,000 and 2,000 at 990, the worse first
abbrev pub bidders : List Eligible
bidders = offered_to Sell (in_book Buy 1 4 990 2000 ∷ answers Buy 3 2 1000 1000 ∷ [])

-- 2 at 1 and 1 at 2
abbrev pub few : List Eligible
few = offered_to Buy (in_book Sell 1 4 1 2 ∷ in_book Sell 3 4 2 1 ∷ [])

-- at one price, answers of 500 and 700 and a book offer of 1,000
abbrev pub level : List Eligible
level = offered_to Buy (in_book Sell 1 4 980 1000 ∷ answers Sell 3 2 980 500 ∷ answers Sell 4 3 980 700 ∷ [])

-- ── the table ──

pub data Row : Type 0 where
  -- the status of a request for so many units: size, money, price shown
  status : Side → List Eligible → ℕ → ℕ → ℕ → ℕ → Row
  -- a request for so many units, at least so many, in that lot, confirmed at a price: size and money, or unfilled
  confirmed : Side → List Eligible → ℕ → ℕ → ℕ → ℕ → Option (Quantity × Money) → Row
  -- what may be drawn on, as numbers in request ranking
  ranks : Side → List Eligible → List ℕ → Row

abbrev pub Holds : Row → Type 0
Holds (Row.status side os quantity size money price) =
    (totals os (status_draw (request_before side) os quantity) ≡ (record { 0 = size }, record { 0 = money })) × (shown size money ≡ Some (record { 0 = price }))
Holds (Row.confirmed side os quantity least lot price outcome) = Decides side (request_before side) os (Good side lot price least quantity os) outcome
Holds (Row.ranks side os numbers) = map named (ranked (request_before side) os) ≡ numbers

abbrev trades : ℕ → ℕ → Option (Quantity × Money)
trades size money = Some (record { 0 = size }, record { 0 = money })

abbrev pub table : List Row
table =
    Row.status Buy sellers 5000 5000 4960000 992
    ∷ Row.status Buy two_sellers 5000 3000 2960000 987
    ∷ Row.confirmed Buy sellers 5000 0 10 992 (trades 5000 4960000)
    ∷ Row.confirmed Buy sellers 5000 0 10 991 (trades 4440 4400000)
    ∷ Row.confirmed Buy sellers 5000 0 10 980 (trades 1000 980000)
    ∷ Row.confirmed Buy sellers 5000 0 10 979 None
    ∷ Row.confirmed Buy sellers 5000 4440 10 991 (trades 4440 4400000)
    ∷ Row.confirmed Buy sellers 5000 4450 10 991 None
    ∷ Row.confirmed Sell bidders 3000 0 10 995 (trades 2000 1990000)
    ∷ Row.ranks Buy level (4 ∷ 3 ∷ 1 ∷ [])
    -- the rounded price decides nothing: 3 units for 4 show 1, and are not within 1
    ∷ Row.status Buy few 3 3 4 1
    ∷ Row.confirmed Buy few 3 0 1 1 (trades 2 2)
    ∷ Row.confirmed Buy few 3 3 1 1 None
    -- neither a bid of the book nor an answer to another request is drawn on by a buyer
    ∷ Row.ranks Buy (offered_to Buy (in_book Buy 5 4 980 100 ∷ offered (Some (record { 0 = 7 })) Sell 8 3 970 100 ∷ answers Sell 3 2 990 100 ∷ in_book Sell 1 4 980 100 ∷ [])) (1 ∷ 3 ∷ [])
    ∷ []

abbrev pub Worked : Type 0
Worked = AllByRecursion Holds table
