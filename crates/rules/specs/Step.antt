-- What each message does to a market as values: the checks, the reports, and the state after them.
use Rattle.std.specs.Prelude.{ℕ, List, [], ◌∷◌, ◌++◌, map, length, Some, None, Ok, Err, Option}
use Rattle.units.specs.declared.Quantity.{Quantity}
use Rattle.units.specs.declared.Money.{Money}
use Rattle.units.specs.declared.side.Side.{Side}
use Rattle.units.specs.declared.refusal.Refusal.{Refusal}
use Rattle.units.specs.Sides.{other}
use Rattle.book.specs.Meaning.{side_of}
use Rattle.draw.specs.declared.offers.Eligible.{Eligible}
use Rattle.draw.specs.Offers.{eligible}
use Rattle.draw.specs.Walk.{decided}
use Rattle.draw.specs.Decisions as decisions
use Rattle.draw.specs.Fills.{traded}
use Rattle.rules.specs.declared.records.Request.{Request}
use Rattle.rules.specs.declared.records.Terms.{Terms}
use Rattle.rules.specs.declared.records.Terms.TheVariants.{Manual, Automatic}
use Rattle.rules.specs.declared.reports.KillReason.{KillReason}
use Rattle.rules.specs.declared.reports.KillReason.TheVariants as reasons
use Rattle.rules.specs.declared.reports.Report.{Report}
use Rattle.rules.specs.State.{State, an_offer, an_answer, a_request}
use Rattle.rules.specs.Reports.{filled_by, remain, pour, size_of, money_of}
use Rattle.rules.specs.Offers.{under, first, firms, expiring, in_turn, offered, taker_of, request_ranking, met, crossing, trading_ranking}
use Rattle.rules.specs.Calls.{Call, Sent, Reply, brings, given, next_of, time_of, ending, withdrawn}
use Rattle.rules.specs.Calls.Call.{order, withdrawal, manual, automatic, answer, confirmation, clock}
use Rattle.rules.specs.Checks.{refusal}

-- ── what comes, and what the reports leave ──

-- the state with what the reports leave of everything
abbrev pub less : List Report → State → State
less rs s = record {
  book = record { buys = remain an_offer rs s.book.buys; sells = remain an_offer rs s.book.sells; lot = s.book.lot };
  most = s.most;
  is_open = s.is_open;
  granted = s.granted;
  requests = remain a_request rs s.requests;
  answers = remain an_answer rs s.answers;
  time = s.time;
  next = s.next;
}

-- the state with what came, whole
abbrev pub received : State → Call → State
received s c =
    let new = brings c s.next s.time in
    record {
      book = record { buys = s.book.buys ++ new.buys; sells = s.book.sells ++ new.sells; lot = s.book.lot };
      most = s.most;
      is_open = s.is_open;
      granted = s.granted;
      requests = s.requests ++ new.requests;
      answers = s.answers ++ new.answers;
      time = time_of c s.time;
      next = next_of c s.next;
    }

-- ── turns and confirmations ──

-- what the request r may draw on, on the side d; and in request ranking
abbrev pub on_offer : State → Request → Side → List Eligible
on_offer s r d = eligible (taker_of r d) (offered s.book.buys s.book.sells s.answers)

abbrev pub ranked_for : State → Request → Side → List Eligible
ranked_for s r d = request_ranking d (on_offer s r d)

-- the fills of what was decided
abbrev pub trade : State → Request → Side → Option (Quantity × Money) → List Report
trade s r d found = map (filled_by r.number.0) (traded (ranked_for s r d) found)

-- the end of the request n
abbrev pub ends : State → ℕ → KillReason → KillReason → List Report
ends s n its_own its_answers = ending s.requests s.answers n its_own its_answers

-- fills, and then the end of the request
abbrev pub with_end : State → ℕ → List Report → List Report
with_end s n fs = fs ++ ends (less fs s) n reasons.RequestDone reasons.AnswerDone

-- the same, where there are fills
abbrev pub with_end_if : State → ℕ → List Report → List Report
with_end_if s n [] = []
with_end_if s n (f ∷ fs) = with_end s n (f ∷ fs)

-- what a confirmation of a manual request at the price p comes to
abbrev pub decision_at : State → Request → Side → ℕ → ℕ → Option (Quantity × Money)
decision_at s r d p least = decided d s.book.lot p least r.left.0 (ranked_for s r d)

-- and what the turn of an automatic one does
abbrev pub decision_in_turn : State → Request → Side → ℕ → ℕ → Option (Quantity × Money)
decision_in_turn s r d limit least_firms = decisions.automatic d s.book.lot limit r.left.0 least_firms (firms r.number.0 s.answers) (ranked_for s r d)

-- a confirmation; one of an automatic request is refused
abbrev pub confirmed_by : State → Side → ℕ → Request → Terms → List Report
confirmed_by s d p r (Manual e m) = with_end s r.number.0 (trade s r d (decision_at s r d p m.0))
confirmed_by s d p r (Automatic e limit m) = []

abbrev pub confirmed : State → Option Side → ℕ → Option Request → List Report
confirmed s None p r = []
confirmed s (Some d) p None = []
confirmed s (Some d) p (Some r) = confirmed_by s d p r r.terms

-- a turn; a manual request has none
abbrev pub turn_by : State → Request → Terms → List Report
turn_by s r (Manual e m) = []
turn_by s r (Automatic d limit m) = with_end_if s r.number.0 (trade s r d (decision_in_turn s r d limit.0 m.0))

abbrev pub turn : State → Request → List Report
turn s r = turn_by s r r.terms

abbrev pub turn_of : State → Option Request → List Report
turn_of s None = []
turn_of s (Some r) = turn s r

-- ── clock steps ──

-- what requests report one after another, each seeing what was reported before it
unfoldable pub one_by_one : (State → Request → List Report) → List Request → State → List Report
one_by_one f [] s = []
one_by_one f (r ∷ rs) s = f s r ++ one_by_one f rs (less (f s r) s)

abbrev pub expiry : State → Request → List Report
expiry s r = ends s r.number.0 reasons.RequestExpired reasons.AnswerExpired

abbrev pub expiries : ℕ → State → List Report
expiries t s = one_by_one expiry (expiring t s.requests) s

-- what has been reported, and then all turns
abbrev pub turns_after : State → List Report → List Report
turns_after s rs = rs ++ one_by_one turn (in_turn (less rs s).requests) (less rs s)

-- ── the reports of an accepted message ──

-- an order of the number n on the side d at the price p, for q units
abbrev pub matched : State → ℕ → Option Side → ℕ → ℕ → List Report
matched s n None p q = []
matched s n (Some d) p q = pour n (trading_ranking d (crossing d p (met (other d) (side_of s.book (other d))))) q

-- where s has what came with it, under the number n
abbrev pub reported : State → ℕ → Call → List Report
reported s n (order f d p q) = matched s n d p.0 q.0
reported s n (withdrawal f k) = withdrawn s.book.buys s.book.sells s.requests s.answers k.0
reported s n (manual f d q m w) = []
reported s n (automatic f d p q m w) = []
reported s n (answer f d k p q) = turn_of s (first (under a_request k.0 s.requests))
reported s n (confirmation f d k p) = confirmed s d p.0 (first (under a_request k.0 s.requests))
reported s n (clock t) = turns_after s (expiries t.0 s)

-- ── the step ──

pub record Out : Type 0 where
  pub reply : Reply
  pub reports : List Report
  pub state : State

abbrev pub acceptance : ℕ → List Report → Reply
acceptance n rs = Ok (record { number = record { 0 = n }; count = length rs; size = record { 0 = size_of rs }; money = record { 0 = money_of rs } })

abbrev pub accept : State → Call → List Report → Out
accept s c rs = record { reply = acceptance (given c s.next) rs; reports = rs; state = less rs (received s c) }

abbrev pub answered : State → Call → Option Refusal → Out
answered s c (Some r) = record { reply = Err r; reports = []; state = s }
answered s c None = accept s c (reported (received s c) s.next c)

unfoldable pub step : State → Sent → Out
step s m = answered s m.call (refusal s m)
