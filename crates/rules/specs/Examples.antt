-- The worked examples, as one statement over their table: of good draws and the one that trades, of statuses, and of what calls do; and that checks run in the order of their numbers.
use Rattle.std.specs.Prelude.{◌≡◌, ℕ, ◌<◌, true, List, [], ◌∷◌, ◌++◌, map, length, Some, None, Ok, Err, Option, Result}
use Rattle.std.specs.List.{AllByRecursion}
use Rattle.units.specs.declared.Price.{Price}
use Rattle.units.specs.declared.Firm.{Firm}
use Rattle.units.specs.declared.Quantity.{Quantity}
use Rattle.units.specs.declared.Money.{Money}
use Rattle.units.specs.declared.side.Side.{Side}
use Rattle.units.specs.declared.side.Side.TheVariants.{Buy, Sell}
use Rattle.units.specs.declared.refusal.Refusal.{Refusal}
use Rattle.units.specs.Refusals.{number_of}
use Rattle.draw.specs.declared.offers.Eligible.{Eligible}
use Rattle.draw.specs.Rankings.{request_before}
use Rattle.draw.specs.Draws.{Good, GoodAutomatic, Decides}
use Rattle.rules.specs.declared.records.Request.{Request}
use Rattle.rules.specs.declared.records.Terms.{Terms}
use Rattle.rules.specs.declared.records.Terms.TheVariants.{Manual, Automatic}
use Rattle.rules.specs.declared.reports.Report.{Report}
use Rattle.rules.specs.declared.reports.Status.{Status}
use Rattle.rules.specs.State.{State, Opening, opened, a_request}
use Rattle.rules.specs.Reports.{killed}
use Rattle.rules.specs.Offers.{under, first, firms}
use Rattle.rules.specs.Calls.{Call, Sent, Reply}
use Rattle.rules.specs.Calls.Call.{order, withdrawal, manual, automatic, answer, confirmation, clock}
use Rattle.rules.specs.Checks.{Check, all_checks}
use Rattle.rules.specs.Step.{step, on_offer, ranked_for}
use Rattle.rules.specs.Status.{status, provider_status}
use Rattle.rules.specs.History.{History, newly}
use Rattle.rules.specs.Run.{Opens, run, recorded}

-- ── a seat, and calls on it ──

abbrev firm : ℕ → Firm
firm n = record { 0 = n }

-- a kept book of lot 10, and firms 2, 3 and 5 granted
abbrev pub seat : Opening
seat = record { book = record { buys = []; sells = []; lot = 10 }; most = 128; is_open = true; granted = firm 2 ∷ firm 3 ∷ firm 5 ∷ [] }

abbrev pub sent : Call → Sent
sent c = record { call = c; places = 2048; working = 192 }

-- the seat after calls, and their history
abbrev pub played : List Call → State
played cs = run (opened seat) (map sent cs)

abbrev pub history : List Call → History
history cs = recorded (newly seat) (opened seat) (map sent cs)

-- firm, side, price, quantity
abbrev pub orders : ℕ → Side → ℕ → ℕ → Call
orders f d p q = order (firm f) (Some d) (record { 0 = p }) (record { 0 = q })

-- side, quantity, minimum units; by firm 1, for 180 seconds
abbrev pub requests : Side → ℕ → ℕ → Call
requests d q m = manual (firm 1) (Some d) (record { 0 = q }) (record { 0 = m }) (record { 0 = 180 })

-- 100 to buy, by firm 1, for so many seconds
abbrev pub requests_for : ℕ → Call
requests_for w = manual (firm 1) (Some Buy) (record { 0 = 100 }) (record { 0 = 0 }) (record { 0 = w })

-- limit, quantity, minimum firms; to buy, by firm 1, for 180 seconds
abbrev pub buys_by_itself : ℕ → ℕ → ℕ → Call
buys_by_itself p q m = automatic (firm 1) (Some Buy) (record { 0 = p }) (record { 0 = q }) (record { 0 = m }) (record { 0 = 180 })

-- firm, side, request, price, quantity
abbrev pub answers : ℕ → Side → ℕ → ℕ → ℕ → Call
answers f d n p q = answer (firm f) (Some d) (record { 0 = n }) (record { 0 = p }) (record { 0 = q })

-- side and price; of the request 2, by firm 1
abbrev pub confirms : Side → ℕ → Call
confirms d p = confirmation (firm 1) (Some d) (record { 0 = 2 }) (record { 0 = p })

-- firm, number
abbrev pub withdraws : ℕ → ℕ → Call
withdraws f n = withdrawal (firm f) (record { 0 = n })

abbrev pub clock_to : ℕ → Call
clock_to t = clock (record { 0 = t })

-- ── what is asked after the calls ──

pub data Ask : Type 0 where
  -- the status of a request on a side: size, money, different firms and the price shown
  status_of : ℕ → Side → Ask
  -- what a provider's answer would get
  share_of : ℕ → Ask
  -- size and money of a last call, and what it kills of a number; or the number of its refusal
  going : Call → ℕ → Ask
  -- what a request may draw on, by what is left and in request ranking
  ranks : ℕ → Side → Ask
  -- how many requests of a number are open
  still_open : ℕ → Ask

abbrev price_told : Option Price → ℕ
price_told None = 0
price_told (Some p) = p.0

abbrev status_told : Result Status Refusal → List ℕ
status_told (Ok t) = t.size.0 ∷ t.money.0 ∷ t.firms.0 ∷ price_told t.price ∷ []
status_told (Err r) = number_of r ∷ []

abbrev share_told : Result Quantity Refusal → List ℕ
share_told (Ok q) = q.0 ∷ []
share_told (Err r) = number_of r ∷ []

abbrev reply_told : Reply → List Report → ℕ → List ℕ
reply_told (Ok a) rs n = a.size.0 ∷ a.money.0 ∷ killed rs n ∷ []
reply_told (Err r) rs n = number_of r ∷ []

abbrev ranks_told : State → Side → Option Request → List ℕ
ranks_told s d None = []
ranks_told s d (Some r) = map (λ (o : Eligible). o.left.0) (ranked_for s r d)

abbrev pub told : State → Ask → List ℕ
told s (status_of n d) = status_told (status s n (Some d) 192)
told s (share_of n) = share_told (provider_status s n 192)
told s (going c n) = reply_told (step s (sent c)).reply (step s (sent c)).reports n
told s (ranks n d) = ranks_told s d (first (under a_request n s.requests))
told s (still_open n) = length (under a_request n s.requests) ∷ []

-- of all good draws at a confirmation on that side at that price, or in a turn: the one that trades, by size and money, or none is good
abbrev pub DecidedBy : State → Side → ℕ → Option (Quantity × Money) → Request → Terms → Type 0
DecidedBy s d p outcome r (Manual e m) =
    Decides d (request_before d) (on_offer s r d) (Good d s.book.lot p m.0 r.left.0 (on_offer s r d)) outcome
DecidedBy s d p outcome r (Automatic e limit m) =
    Decides e (request_before e) (on_offer s r e)
    (GoodAutomatic e s.book.lot limit.0 r.left.0 m.0 (firms r.number.0 s.answers) (on_offer s r e)) outcome

abbrev pub Decided : State → Side → ℕ → Option (Quantity × Money) → Option Request → Type 0
Decided s d p outcome None = ⊥
Decided s d p outcome (Some r) = DecidedBy s d p outcome r r.terms

pub data Row : Type 0 where
  -- after the calls this is told
  tells : List Call → Ask → List ℕ → Row
  -- after the calls the request 2 is decided so
  decides : List Call → Side → ℕ → Option (Quantity × Money) → Row

abbrev pub Holds : Row → Type 0
Holds (Row.tells cs a ns) = told (played cs) a ≡ ns
Holds (Row.decides cs d p outcome) = Decided (played cs) d p outcome (first (under a_request 2 (played cs).requests))

abbrev pub trades : ℕ → ℕ → Option (Quantity × Money)
trades size money = Some (record { 0 = size }, record { 0 = money })

-- ── the table ──

-- firm 4 sells 1,000 at 980 in the book; firm 1's manual request buys 5,000; firm 2 answers 2,000 at 990; firm 3 then 5,000 at 1,000
abbrev pub two : List Call
two = orders 4 Sell 980 1000 ∷ requests Buy 5000 0 ∷ answers 2 Sell 2 990 2000 ∷ []

abbrev pub three : ℕ → List Call
three minimum = orders 4 Sell 980 1000 ∷ requests Buy 5000 minimum ∷ answers 2 Sell 2 990 2000 ∷ answers 3 Sell 2 1000 5000 ∷ []

-- the same with an automatic request, before firm 3 answers
abbrev pub by_itself : ℕ → ℕ → List Call
by_itself limit least = orders 4 Sell 980 1000 ∷ buys_by_itself limit 5000 least ∷ answers 2 Sell 2 990 2000 ∷ []

abbrev pub one_price : List Call
one_price = orders 4 Sell 1000 1000 ∷ requests Buy 5000 0 ∷ answers 2 Sell 2 1000 500 ∷ answers 3 Sell 2 1000 700 ∷ []

abbrev pub selling : List Call
selling = orders 4 Buy 1000 1000 ∷ requests Sell 3000 0 ∷ answers 2 Buy 2 990 2000 ∷ []

abbrev pub timed : List Call
timed = orders 4 Sell 980 1000 ∷ clock_to 5000 ∷ requests Buy 5000 0 ∷ []

-- 20 at 1 and 10 at 2: the price shown is 1, and yet the whole is not within 1
abbrev pub rounded : List Call
rounded = orders 4 Sell 1 20 ∷ requests Buy 30 0 ∷ answers 2 Sell 2 2 10 ∷ []

abbrev pub table : List Row
table =
    Row.tells (three 0) (status_of 2 Buy) (5000 ∷ 4960000 ∷ 2 ∷ 992 ∷ [])
    ∷ Row.tells two (status_of 2 Buy) (3000 ∷ 2960000 ∷ 1 ∷ 987 ∷ [])
    ∷ Row.decides (three 0) Buy 992 (trades 5000 4960000)
    ∷ Row.tells (three 0) (going (confirms Buy 992) 2) (5000 ∷ 4960000 ∷ 0 ∷ [])
    ∷ Row.decides (three 0) Buy 991 (trades 4440 4400000)
    ∷ Row.tells (three 0) (going (confirms Buy 991) 2) (4440 ∷ 4400000 ∷ 560 ∷ [])
    ∷ Row.decides (three 0) Buy 980 (trades 1000 980000)
    ∷ Row.tells (three 0) (going (confirms Buy 980) 2) (1000 ∷ 980000 ∷ 4000 ∷ [])
    ∷ Row.decides (three 0) Buy 979 None
    ∷ Row.tells (three 0) (going (confirms Buy 979) 2) (0 ∷ 0 ∷ 5000 ∷ [])
    ∷ Row.decides (three 4440) Buy 991 (trades 4440 4400000)
    ∷ Row.tells (three 4440) (going (confirms Buy 991) 2) (4440 ∷ 4400000 ∷ 560 ∷ [])
    ∷ Row.decides (three 4450) Buy 991 None
    ∷ Row.tells (three 4450) (going (confirms Buy 991) 2) (0 ∷ 0 ∷ 5000 ∷ [])
    ∷ Row.decides selling Sell 995 (trades 2000 1990000)
    ∷ Row.tells selling (going (confirms Sell 995) 2) (2000 ∷ 1990000 ∷ 1000 ∷ [])
    ∷ Row.tells (by_itself 992 2) (going (answers 3 Sell 2 1000 5000) 4) (5000 ∷ 4960000 ∷ 3000 ∷ [])
    ∷ Row.tells (by_itself 991 2) (going (answers 3 Sell 2 1000 5000) 4) (0 ∷ 0 ∷ 0 ∷ [])
    ∷ Row.decides (by_itself 991 2 ++ answers 3 Sell 2 1000 5000 ∷ []) Buy 0 None
    ∷ Row.tells (by_itself 992 3) (going (answers 3 Sell 2 1000 5000) 4) (0 ∷ 0 ∷ 0 ∷ [])
    ∷ Row.decides (by_itself 992 3 ++ answers 3 Sell 2 1000 5000 ∷ []) Buy 0 None
    ∷ Row.tells one_price (ranks 2 Buy) (700 ∷ 500 ∷ 1000 ∷ [])
    ∷ Row.tells (timed ++ clock_to 184999 ∷ []) (still_open 2) (1 ∷ [])
    ∷ Row.tells (timed ++ clock_to 184999 ∷ []) (going (clock_to 185000) 2) (0 ∷ 0 ∷ 5000 ∷ [])
    ∷ Row.tells (timed ++ clock_to 185000 ∷ []) (still_open 2) (0 ∷ [])
    -- the rounded price decides nothing
    ∷ Row.tells rounded (status_of 2 Buy) (30 ∷ 40 ∷ 1 ∷ 1 ∷ [])
    ∷ Row.decides rounded Buy 1 (trades 20 20)
    -- two answers of one firm are one firm
    ∷ Row.tells (by_itself 1000 2) (going (answers 2 Sell 2 1000 5000) 4) (0 ∷ 0 ∷ 0 ∷ [])
    -- what the status takes from firm 3's answer
    ∷ Row.tells (three 0) (share_of 4) (2000 ∷ [])
    -- refusals: the wrong side, the issuer as provider, no quantity, another firm's answer, a time that is past, an automatic request confirmed
    ∷ Row.tells (three 0) (going (confirms Sell 992) 2) (14 ∷ [])
    ∷ Row.tells (three 0) (going (answers 5 Buy 2 990 10) 2) (14 ∷ [])
    ∷ Row.tells (three 0) (going (answers 1 Sell 2 990 10) 2) (15 ∷ [])
    ∷ Row.tells (three 0) (going (answers 5 Sell 2 990 15) 2) (11 ∷ [])
    ∷ Row.tells (three 0) (going (withdraws 2 4) 2) (9 ∷ [])
    ∷ Row.tells timed (going (clock_to 4999) 2) (8 ∷ [])
    ∷ Row.tells (by_itself 992 3) (going (confirms Buy 992) 2) (16 ∷ [])
    ∷ []

abbrev pub Marked : Type 0
Marked = AllByRecursion Holds table

-- the seat can be opened, so that the law of runs is of something
abbrev pub SeatOpens : Type 0
SeatOpens = Opens seat

-- ── the order of the checks ──

abbrev pub Rising : ℕ → List Check → Type 0
Rising n [] = Unit {0}
Rising n (c ∷ cs) = (n < number_of c.0) × Rising (number_of c.0) cs

abbrev pub InTableOrder : Type 0
InTableOrder = (s : State) (m : Sent) → Rising 1 (all_checks s m)
