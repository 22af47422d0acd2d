-- Which histories lead to a state, and the clause of every call.
use Rattle.std.specs.Prelude.{◌≡◌, ◌≤◌, List, [], ◌∷◌}
use Rattle.book.specs.Laws.{Sound}
use Rattle.rules.specs.declared.reports.Report.{Report}
use Rattle.rules.specs.State.{State, Opening, opened}
use Rattle.rules.specs.Calls.{Sent, Reply}
use Rattle.rules.specs.Step.{step}
use Rattle.rules.specs.History.{Event, History, newly, after, messages}
use Rattle.rules.specs.Law.{Lawful}

-- an opening is over a book that keeps the laws of every book
pub record Opens (o : Opening) : Type 0 where
  pub few : o.most ≤ 128
  pub book : Sound o.most o.book

-- the messages, in their order, on a market newly opened had these replies and reports and led to the state
pub data Leads (o : Opening) : List Event → State → Type 0 where
  opens : {s : State} → Opens o → s ≡ opened o → Leads o [] s
  goes : {e : Event} {es : List Event} {t s : State} → Leads o es t → step t e.sent ≡ record { reply = e.reply; reports = e.reports; state = s } → Leads o (e ∷ es) s

abbrev pub Reached : History → State → Type 0
Reached h s = Leads h.opening h.events s

-- the clause of every call: it goes on every history that led to the state before it, and the history with it is lawful
abbrev pub GoesOn : State → Sent → Reply → List Report → State → Type 0
GoesOn s m a rs t =
    (h : History) → Reached h s →
    Reached (after h (record { sent = m; reply = a; reports = rs })) t × Lawful (after h (record { sent = m; reply = a; reports = rs })) t

-- the law about the step itself
abbrev pub StepIsLawful : Type 0
StepIsLawful = (s : State) (m : Sent) → GoesOn s m (step s m).reply (step s m).reports (step s m).state

-- ── whole runs ──

-- the state after messages
unfoldable pub run : State → List Sent → State
run s [] = s
run s (m ∷ ms) = run (step s m).state ms

abbrev pub event_of : State → Sent → Event
event_of s m = record { sent = m; reply = (step s m).reply; reports = (step s m).reports }

-- the history with them
unfoldable pub recorded : History → State → List Sent → History
recorded h s [] = h
recorded h s (m ∷ ms) = recorded (after h (event_of s m)) (step s m).state ms

-- a history of these very messages, on a market opened so, that led to the state and is lawful
pub record Recorded (o : Opening) (ms : List Sent) (h : History) (s : State) : Type 0 where
  pub opening : h.opening ≡ o
  pub messages : messages h.events ≡ ms
  pub reached : Reached h s
  pub lawful : Lawful h s

-- the law of runs: over any book that keeps the laws, with any firms granted, and for any messages
abbrev pub RunsAreLawful : Type 0
RunsAreLawful = (o : Opening) → Opens o → (ms : List Sent) → Recorded o ms (recorded (newly o) (opened o) ms) (run (opened o) ms)
