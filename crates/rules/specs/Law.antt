-- The law of runs. It speaks of a history alone: of what came, what was replied and what was reported. Only its last part looks at what is held now.
use Rattle.std.specs.Prelude.{◌≡◌, ℕ, ◌+◌, min, List, [], ◌∷◌, ◌++◌, map, length, Some, None, Ok, Err, sum_by, Option}
use Rattle.std.specs.List.{AllByRecursion}
use Rattle.units.specs.declared.side.Side.{Side}
use Rattle.units.specs.declared.side.Side.TheVariants as sides
use Rattle.units.specs.Sides.{other}
use Rattle.draw.specs.declared.offers.Eligible.{Eligible}
use Rattle.draw.specs.declared.fills.Fill.{Fill}
use Rattle.draw.specs.Sides.{NoWorse}
use Rattle.draw.specs.Rankings.{request_before}
use Rattle.draw.specs.Draws.{Draw, size, Good, GoodAutomatic}
use Rattle.draw.specs.Fills.{taken, fills, Fair}
use Rattle.rules.specs.declared.records.Request.{Request}
use Rattle.rules.specs.declared.records.Terms.{Terms}
use Rattle.rules.specs.declared.records.Terms.TheVariants.{Manual, Automatic}
use Rattle.rules.specs.declared.reports.KillReason.TheVariants as reasons
use Rattle.rules.specs.declared.reports.Report.{Report}
use Rattle.rules.specs.declared.reports.Accepted.{Accepted}
use Rattle.rules.specs.State.{State, Opening, an_offer, an_answer, a_request}
use Rattle.rules.specs.Reports.{filled_by, filled, killed, fills_by, size_of, money_of}
use Rattle.rules.specs.Offers.{under, first, firms, expiring, in_turn, request_ranking, met, crossing, trading_ranking}
use Rattle.rules.specs.Calls.{Call, Sent, Reply, given, ending, withdrawn}
use Rattle.rules.specs.Calls.Call.{order, withdrawal, manual, automatic, answer, confirmation, clock}
use Rattle.rules.specs.Checks.{refusal}
use Rattle.rules.specs.History.{Event, History, Ledger, ledger, time, with_call, with_reports, standing, living, open_requests, drawn_on, next_number, came_as, quantity, stands}

-- ── a turn ──

-- the law of a turn, of the fills of a request on the side d that may draw on the offers os: they are fair, that is, there are none exactly
-- where no draw is good, and else they are the draw that trades, on best terms; and they come in request ranking, each maker once and at its own price
pub record TradesFairly (d : Side) (os : List Eligible) (IsGood : Draw → Type 0) (fs : List Fill) : Type 0 where
  pub fair : Fair d (request_before d) os IsGood fs
  pub in_order : fs ≡ fills (request_ranking d os) (size os (taken fs))

-- fills of the request n, then its end: its kill, and its living answers' kills by number
abbrev pub ended : Ledger → ℕ → List Fill → List Report
ended l n fs =
    let reported = map (filled_by n) fs in
    reported ++ ending (open_requests (with_reports l reported)) (living (with_reports l reported)) n reasons.RequestDone reasons.AnswerDone

-- an end only where there are fills
abbrev pub ended_if : Ledger → ℕ → List Fill → List Report
ended_if l n [] = []
ended_if l n (f ∷ fs) = ended l n (f ∷ fs)

module _ (lot : ℕ) where
  -- a turn of the open request r reported rs: no fills leave it open; a manual request has no turn
  abbrev pub TurnBy : Ledger → Request → Terms → List Report → Type 0
  TurnBy l r (Manual e m) rs = rs ≡ []
  TurnBy l r (Automatic d limit m) rs =
      TradesFairly d (drawn_on l r d)
      (GoodAutomatic d lot limit.0 r.left.0 m.0 (firms r.number.0 (living l)) (drawn_on l r d))
      (fills_by r.number.0 rs)
      × (rs ≡ ended_if l r.number.0 (fills_by r.number.0 rs))

  abbrev pub Turn : Ledger → Request → List Report → Type 0
  Turn l r rs = TurnBy l r r.terms rs

  -- a confirmation of the open request r on the side d at the price p reported rs: it ends, filled or not; an automatic request has none
  abbrev pub ConfirmedBy : Ledger → Side → ℕ → Request → Terms → List Report → Type 0
  ConfirmedBy l d p r (Manual e m) rs =
      TradesFairly d (drawn_on l r d)
      (Good d lot p m.0 r.left.0 (drawn_on l r d))
      (fills_by r.number.0 rs)
      × (rs ≡ ended l r.number.0 (fills_by r.number.0 rs))
  ConfirmedBy l d p r (Automatic e limit m) rs = ⊥

  abbrev pub Confirmed : Ledger → Option Side → ℕ → Option Request → List Report → Type 0
  Confirmed l None p r rs = ⊥
  Confirmed l (Some d) p None rs = ⊥
  Confirmed l (Some d) p (Some r) rs = ConfirmedBy l d p r r.terms rs

  -- an answer to the request r reported rs: its turn
  abbrev pub Answered : Ledger → Option Request → List Report → Type 0
  Answered l None rs = ⊥
  Answered l (Some r) rs = Turn l r rs

  -- turns of requests, one after another, reported rs: each sees what was reported before it,
  -- and the message that reported `all` has no other fills with that request as taker
  abbrev pub Turns : List Report → Ledger → List Request → List Report → Type 0
  Turns all l [] rs = rs ≡ []
  Turns all l (r ∷ more) rs =
      (mine : List Report) × (others : List Report) × (rs ≡ mine ++ others) × Turn l r mine × Turns all (with_reports l mine) more others
      × (fills_by r.number.0 all ≡ fills_by r.number.0 mine)

-- ── a clock step ──

abbrev pub expiry_of : Ledger → Request → List Report
expiry_of l r = ending (open_requests l) (living l) r.number.0 reasons.RequestExpired reasons.AnswerExpired

-- the ends of requests that expire, one after another
unfoldable pub expired : Ledger → List Request → List Report
expired l [] = []
expired l (r ∷ more) = expiry_of l r ++ expired (with_reports l (expiry_of l r)) more

abbrev pub expired_at : ℕ → Ledger → List Report
expired_at t l = expired l (expiring t (open_requests l))

-- a clock step to the time t reported rs: the ends of the requests that expire, in expiry ranking;
-- then the turns of the automatic requests that are open after that, lowest number first
abbrev pub ClockStep : ℕ → Ledger → ℕ → List Report → Type 0
ClockStep lot l t rs =
    (others : List Report) × (rs ≡ expired_at t l ++ others)
    × Turns lot rs (with_reports l (expired_at t l)) (in_turn (open_requests (with_reports l (expired_at t l)))) others

-- ── an order ──

-- the fills of an order on the side d at the price p for q units, where os stands on the other side of the book:
-- the offers at its price or better are emptied in trading ranking; it stops only when it is filled or none of them is left
pub record PriceTime (d : Side) (p q : ℕ) (os : List Eligible) (fs : List Fill) : Type 0 where
  pub in_order : fs ≡ fills (trading_ranking d (crossing d p os)) q
  pub no_worse : AllByRecursion (λ (f : Fill). NoWorse d f.price.0 p) fs
  pub units : sum_by (λ (f : Fill). f.quantity.0) fs ≡ min q (sum_by (λ (o : Eligible). o.left.0) (crossing d p os))

-- the order n reported rs: these fills, and nothing else
abbrev pub Ordered : Ledger → ℕ → Option Side → ℕ → ℕ → List Report → Type 0
Ordered l n None p q rs = ⊥
Ordered l n (Some d) p q rs =
    PriceTime d p q (met (other d) (standing l (other d))) (fills_by n rs)
    × (rs ≡ map (filled_by n) (fills_by n rs))

-- ── every message ──

-- an accepted message that was given the number n reported rs, where the ledger has what came with it
abbrev pub Accepts : ℕ → Ledger → ℕ → Call → List Report → Type 0
Accepts lot l n (order f d p q) rs = Ordered l n d p.0 q.0 rs
Accepts lot l n (withdrawal f k) rs = rs ≡ withdrawn (standing l sides.Buy) (standing l sides.Sell) (open_requests l) (living l) k.0
Accepts lot l n (manual f d q m w) rs = rs ≡ []
Accepts lot l n (automatic f d p q m w) rs = rs ≡ []
Accepts lot l n (answer f d k p q) rs = Answered lot l (first (under a_request k.0 (open_requests l))) rs
Accepts lot l n (confirmation f d k p) rs = Confirmed lot l d p.0 (first (under a_request k.0 (open_requests l))) rs
Accepts lot l n (clock t) rs = ClockStep lot l t.0 rs

-- an acceptance after the events es: no check calls for a refusal; the number given is one above the greatest that came, 0 where the message gets none;
-- it counts its reports, and tells the size and the money of what they trade
pub record Accepting (o : Opening) (es : List Event) (m : Sent) (a : Accepted) (rs : List Report) : Type 0 where
  pub passed : refusal (stands o es) m ≡ None
  pub number : a.number.0 ≡ given m.call (next_number (ledger o es))
  pub count : a.count ≡ length rs
  pub size : a.size.0 ≡ size_of rs
  pub money : a.money.0 ≡ money_of rs
  pub reports : Accepts o.book.lot (with_call (ledger o es) m.call a.number.0 (time es)) a.number.0 m.call rs

-- a refusal is the first that a check calls for, by what the history tells, and reports nothing
abbrev pub Replies : Opening → List Event → Sent → Reply → List Report → Type 0
Replies o es m (Ok a) rs = Accepting o es m a rs
Replies o es m (Err r) rs = (refusal (stands o es) m ≡ Some r) × (rs ≡ [])

-- every event of the history was as the rules say, by what the history told before it
abbrev pub Each : Opening → List Event → Type 0
Each o [] = Unit {0}
Each o (e ∷ es) = Replies o es e.sent e.reply e.reports × Each o es

-- ── what is held ──

-- what the book or the market holds under the number n
abbrev pub open_now : State → ℕ → ℕ
open_now s n = came_as an_offer s.book.buys n + came_as an_offer s.book.sells n + came_as an_answer s.answers n + came_as a_request s.requests n

-- of every number: its quantity at opening or acceptance is what the reports fill of it, what they kill of it, and what is open now
abbrev pub Account : Ledger → State → Type 0
Account l s = (n : ℕ) → quantity l n ≡ filled l.reports n + killed l.reports n + open_now s n

-- the law: each event was as the rules say; what is held is what the history tells; and quantities add up
pub record Lawful (h : History) (s : State) : Type 0 where
  pub each : Each h.opening h.events
  pub holds : s ≡ stands h.opening h.events
  pub account : Account (ledger h.opening h.events) s
