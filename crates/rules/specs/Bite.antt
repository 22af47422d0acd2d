-- That the law bites: it leaves no choice, and the histories of wrong engines are not lawful.
use Rattle.std.specs.Prelude.{◌≡◌, ℕ, List, [], ◌∷◌, ◌++◌, map, Ok, Err}
use Rattle.std.specs.List.{AllByRecursion}
use Rattle.units.specs.declared.side.Side.TheVariants.{Buy, Sell}
use Rattle.units.specs.declared.refusal.Refusal.TheVariants as refusals
use Rattle.rules.specs.declared.reports.KillReason.TheVariants.{RequestDone, AnswerDone, RequestWithdrawn, RequestExpired, Withdrawn}
use Rattle.rules.specs.declared.reports.Report.{Report}
use Rattle.rules.specs.State.{State, Opening, opened}
use Rattle.rules.specs.Reports.{filled_by, kill}
use Rattle.rules.specs.Calls.{Call, Sent, Reply}
use Rattle.rules.specs.Step.{acceptance, received}
use Rattle.rules.specs.History.{History, Event, after}
use Rattle.rules.specs.Law.{Replies, Lawful}
use Rattle.rules.specs.Examples.{seat, sent, requests_for, played, history, orders, requests, buys_by_itself, answers, confirms, withdraws, clock_to, three, by_itself, timed, rounded}

-- ── no choice ──

-- the opening and the events so far decide what a message is replied and what it reports
abbrev pub NoChoice : Type 0
NoChoice =
    (o : Opening) (es : List Event) (m : Sent) (a b : Reply) (rs qs : List Report) →
    Replies o es m a rs → Replies o es m b qs → (a ≡ b) × (rs ≡ qs)

-- so two lawful histories of the same messages are one, and so is what is held after them
abbrev pub OneHistory : Type 0
OneHistory =
    (o : Opening) (es fs : List Event) (s t : State) → map (λ (e : Event). e.sent) es ≡ map (λ (e : Event). e.sent) fs →
    Lawful (record { opening = o; events = es }) s → Lawful (record { opening = o; events = fs }) t → (es ≡ fs) × (s ≡ t)

-- ── wrong replies and reports ──

-- calls that went right, and one more that a wrong engine replies to and reports so
pub record Bad : Type 0 where
  pub calls : List Call
  pub last : Call
  pub reply : Reply
  pub reports : List Report

-- taker, maker, units, price
abbrev fill : ℕ → ℕ → ℕ → ℕ → Report
fill t m q p = filled_by t (record { maker = record { 0 = m }; price = record { 0 = p }; quantity = record { 0 = q } })

-- a wrong engine that tells truly what it reports
abbrev reporting : List Call → Call → ℕ → List Report → Bad
reporting cs c n rs = record { calls = cs; last = c; reply = acceptance n rs; reports = rs }

-- calls a confirmation unfilled without looking
abbrev pub unlooked : Bad
unlooked = reporting (three 0) (confirms Buy 992) 0 (kill RequestDone 2 5000 ∷ kill AnswerDone 3 2000 ∷ kill AnswerDone 4 5000 ∷ [])

-- trades the best offer only
abbrev pub best_only : Bad
best_only = reporting (three 0) (confirms Buy 992) 0 (fill 2 1 1000 980 ∷ kill RequestDone 2 4000 ∷ kill AnswerDone 3 2000 ∷ kill AnswerDone 4 5000 ∷ [])

-- never takes from the book
abbrev pub bookless : Bad
bookless = reporting (three 0) (confirms Buy 992) 0 (fill 2 3 2000 990 ∷ kill RequestDone 2 3000 ∷ kill AnswerDone 4 5000 ∷ [])

-- trades the right size on worse terms
abbrev pub dear : Bad
dear = reporting (three 0) (confirms Buy 1000) 0 (fill 2 4 5000 1000 ∷ kill AnswerDone 3 2000 ∷ [])

-- decides by the rounded price
abbrev pub by_rounding : Bad
by_rounding = reporting rounded (confirms Buy 1) 0 (fill 2 1 20 1 ∷ fill 2 3 10 2 ∷ [])

-- reports a size that it did not trade
abbrev right_fills : List Report
right_fills = fill 2 1 1000 980 ∷ fill 2 3 2000 990 ∷ fill 2 4 2000 1000 ∷ kill AnswerDone 4 3000 ∷ []

abbrev pub overstated : Bad
overstated = record {
  calls = three 0;
  last = confirms Buy 992;
  reply = Ok (record { number = record { 0 = 0 }; count = 4; size = record { 0 = 6000 }; money = record { 0 = 4960000 } });
  reports = right_fills;
}

-- kills the answers before their request, or by another order than their numbers'
abbrev pub answers_first : Bad
answers_first = reporting (three 0) (confirms Buy 979) 0 (kill AnswerDone 3 2000 ∷ kill AnswerDone 4 5000 ∷ kill RequestDone 2 5000 ∷ [])

abbrev pub later_first : Bad
later_first = reporting (three 0) (confirms Buy 979) 0 (kill RequestDone 2 5000 ∷ kill AnswerDone 4 5000 ∷ kill AnswerDone 3 2000 ∷ [])

-- takes an answer to another request
abbrev two_requests : List Call
two_requests = requests Buy 100 0 ∷ requests Buy 100 0 ∷ answers 2 Sell 1 990 100 ∷ []

abbrev pub stolen : Bad
stolen = reporting two_requests (confirms Buy 990) 0 (fill 2 3 100 990 ∷ [])

-- counts answers as firms
abbrev pub answers_as_firms : Bad
answers_as_firms =
    reporting (by_itself 1000 2) (answers 2 Sell 2 1000 5000) 4 (fill 2 1 1000 980 ∷ fill 2 3 2000 990 ∷ fill 2 4 2000 1000 ∷ kill AnswerDone 4 3000 ∷ [])

-- two automatic requests that the book alone can serve
abbrev pub two_due : List Call
two_due = orders 4 Sell 980 1000 ∷ buys_by_itself 990 300 0 ∷ buys_by_itself 990 400 0 ∷ []

-- serves only the first of them, none, or both in the wrong order
abbrev pub first_only : Bad
first_only = reporting two_due (clock_to 1) 0 (fill 2 1 300 980 ∷ [])

abbrev pub none_served : Bad
none_served = reporting two_due (clock_to 1) 0 []

abbrev pub turned_round : Bad
turned_round = reporting two_due (clock_to 1) 0 (fill 3 1 400 980 ∷ fill 2 1 300 980 ∷ [])

-- expires a millisecond late, or early
abbrev pub late : Bad
late = reporting timed (clock_to 185000) 0 []

abbrev pub early : Bad
early = reporting timed (clock_to 184999) 0 (kill RequestExpired 2 5000 ∷ [])

-- expires by number, though the second deadline is the earlier
abbrev two_deadlines : List Call
two_deadlines = requests_for 180 ∷ requests_for 100 ∷ []

abbrev pub by_number : Bad
by_number = reporting two_deadlines (clock_to 180000) 0 (kill RequestExpired 1 100 ∷ kill RequestExpired 2 100 ∷ [])

-- gives turns before it expires
abbrev pub turns_first : Bad
turns_first = reporting two_due (clock_to 180000) 0 (fill 2 1 300 980 ∷ fill 3 1 400 980 ∷ [])

-- an order meets the worse price first, the later offer first, a price worse than its own, or nobody
abbrev two_prices : List Call
two_prices = orders 4 Sell 1000 100 ∷ orders 4 Sell 990 100 ∷ orders 4 Sell 990 100 ∷ []

abbrev pub worse_price : Bad
worse_price = reporting two_prices (orders 5 Buy 1000 100) 4 (fill 4 1 100 1000 ∷ [])

abbrev pub later_offer : Bad
later_offer = reporting two_prices (orders 5 Buy 1000 100) 4 (fill 4 3 100 990 ∷ [])

abbrev pub past_price : Bad
past_price = reporting two_prices (orders 5 Buy 990 300) 4 (fill 4 2 100 990 ∷ fill 4 3 100 990 ∷ fill 4 1 100 1000 ∷ [])

abbrev pub passive : Bad
passive = reporting two_prices (orders 5 Buy 1000 100) 4 []

-- uses a number twice
abbrev pub number_twice : Bad
number_twice = reporting (three 0) (orders 4 Sell 1100 100) 4 []

-- accepts a withdrawal and does nothing, or forgets the answers
abbrev pub inert : Bad
inert = reporting (three 0) (withdraws 1 2) 0 []

abbrev pub orphans : Bad
orphans = reporting (three 0) (withdraws 1 2) 0 (kill RequestWithdrawn 2 5000 ∷ [])

-- refuses what is to be accepted, accepts what is to be refused, refuses for another reason, or reports at a refusal
abbrev pub refuses_all : Bad
refuses_all = record { calls = three 0; last = confirms Buy 992; reply = Err refusals.Unknown; reports = [] }

abbrev pub accepts_all : Bad
accepts_all = reporting (three 0) (withdraws 2 4) 0 (kill Withdrawn 4 5000 ∷ [])

abbrev pub other_reason : Bad
other_reason = record { calls = three 0; last = confirms Sell 992; reply = Err refusals.Unknown; reports = [] }

abbrev pub trace : Bad
trace = record { calls = three 0; last = confirms Sell 992; reply = Err refusals.WrongSide; reports = kill RequestDone 2 5000 ∷ [] }

abbrev pub bad : List Bad
bad =
    unlooked ∷ best_only ∷ bookless ∷ dear ∷ by_rounding ∷ overstated ∷ answers_first ∷ later_first ∷ stolen ∷ answers_as_firms
    ∷ first_only ∷ none_served ∷ turned_round ∷ late ∷ early ∷ by_number ∷ turns_first ∷ worse_price ∷ later_offer ∷ past_price ∷ passive
    ∷ number_twice ∷ inert ∷ orphans ∷ refuses_all ∷ accepts_all ∷ other_reason ∷ trace ∷ []

-- the history of the calls, with the wrong engine's last event
abbrev pub ends_badly : Bad → History
ends_badly b = after (history b.calls) (record { sent = sent b.last; reply = b.reply; reports = b.reports })

-- none of these histories is lawful, whatever is held
abbrev pub BadBreaks : Type 0
BadBreaks = AllByRecursion (λ (b : Bad). (s : State) → Lawful (ends_badly b) s → ⊥) bad

-- ── right replies and reports, and something else held ──

pub record Held : Type 0 where
  pub calls : List Call
  pub state : State

-- a book that was not taken from
abbrev pub untaken : Held
untaken = record { calls = three 0 ++ confirms Buy 992 ∷ []; state = played (three 0) }

-- an order that was refused, for its price is 0, and stands in the book nevertheless
abbrev pub left_trace : Held
left_trace = record { calls = three 0 ++ orders 4 Sell 0 100 ∷ []; state = received (played (three 0)) (orders 4 Sell 0 100) }

-- an answer that was withdrawn, and lives on
abbrev pub undead : Held
undead = record { calls = three 0 ++ withdraws 3 4 ∷ []; state = played (three 0) }

-- a clock that stands still
abbrev pub still : Held
still = record { calls = clock_to 5000 ∷ []; state = opened seat }

abbrev pub held : List Held
held = untaken ∷ left_trace ∷ undead ∷ still ∷ []

-- none of this is lawful after these calls
abbrev pub HeldBreaks : Type 0
HeldBreaks = AllByRecursion (λ (w : Held). Lawful (history w.calls) w.state → ⊥) held
