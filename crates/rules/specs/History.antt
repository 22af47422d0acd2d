-- Histories of a market, and what a history alone tells: what came, what the reports filled and killed of it, what is left, and so what stands.
use Rattle.std.specs.Prelude.{ℕ, ◌+◌, max, cond, List, [], ◌∷◌, ◌++◌, Ok, Err, ◌==◌}
use Rattle.units.specs.declared.side.Side.{Side}
use Rattle.units.specs.declared.side.Side.TheVariants as sides
use Rattle.book.specs.declared.Offer.{Offer}
use Rattle.draw.specs.declared.offers.Eligible.{Eligible}
use Rattle.draw.specs.Offers.{eligible}
use Rattle.rules.specs.declared.records.Answer.{Answer}
use Rattle.rules.specs.declared.records.Request.{Request}
use Rattle.rules.specs.declared.reports.Report.{Report}
use Rattle.rules.specs.State.{Kept, an_offer, an_answer, a_request, greatest, Opening, State}
use Rattle.rules.specs.Reports.{remain}
use Rattle.rules.specs.Offers.{offered, taker_of}
use Rattle.rules.specs.Calls.{Call, Sent, Reply, brings, time_of}

-- a message, its reply and its reports
pub record Event : Type 0 where
  pub sent : Sent
  pub reply : Reply
  pub reports : List Report

-- the events, the newest first
pub record History : Type 0 where
  pub opening : Opening
  pub events : List Event

abbrev pub newly : Opening → History
newly o = record { opening = o; events = [] }

abbrev pub after : History → Event → History
after h e = record { opening = h.opening; events = e ∷ h.events }

-- the messages of the events, from the first to the last
unfoldable pub messages : List Event → List Sent
messages [] = []
messages (e ∷ es) = messages es ++ e.sent ∷ []

-- ── what came ──

-- all that came, in order of arrival and as it came: offers at opening and orders, answers, requests; and all that was reported
pub record Ledger : Type 0 where
  pub buys : List Offer
  pub sells : List Offer
  pub answers : List Answer
  pub requests : List Request
  pub reports : List Report

-- with what came with a message that was given the number n at the time t
abbrev pub with_call : Ledger → Call → ℕ → ℕ → Ledger
with_call l c n t =
    let new = brings c n t in
    record { buys = l.buys ++ new.buys; sells = l.sells ++ new.sells; answers = l.answers ++ new.answers; requests = l.requests ++ new.requests; reports = l.reports }

abbrev pub with_reports : Ledger → List Report → Ledger
with_reports l rs = record { buys = l.buys; sells = l.sells; answers = l.answers; requests = l.requests; reports = l.reports ++ rs }

-- a refused message brings nothing
abbrev pub with_reply : Ledger → Call → ℕ → Reply → Ledger
with_reply l c t (Ok a) = with_call l c a.number.0 t
with_reply l c t (Err r) = l

-- the time that the accepted clock steps tell
abbrev pub time_after : Call → Reply → ℕ → ℕ
time_after c (Ok a) t = time_of c t
time_after c (Err r) t = t

unfoldable pub time : List Event → ℕ
time [] = 0
time (e ∷ es) = time_after e.sent.call e.reply (time es)

unfoldable pub ledger : Opening → List Event → Ledger
ledger o [] = record { buys = o.book.buys; sells = o.book.sells; answers = []; requests = []; reports = [] }
ledger o (e ∷ es) = with_reports (with_reply (ledger o es) e.sent.call (time es) e.reply) e.reports

-- ── what a ledger tells ──

abbrev pub side_came : Ledger → Side → List Offer
side_came l sides.Buy = l.buys
side_came l sides.Sell = l.sells

-- of what came, that of which something is left, with what is left and all else as it came
abbrev pub standing : Ledger → Side → List Offer
standing l d = remain an_offer l.reports (side_came l d)

abbrev pub living : Ledger → List Answer
living l = remain an_answer l.reports l.answers

abbrev pub open_requests : Ledger → List Request
open_requests l = remain a_request l.reports l.requests

-- what the request r may draw on, on the side d
abbrev pub drawn_on : Ledger → Request → Side → List Eligible
drawn_on l r d = eligible (taker_of r d) (offered (standing l sides.Buy) (standing l sides.Sell) (living l))

-- one above the greatest number that came, or 1
abbrev pub next_number : Ledger → ℕ
next_number l = max (max (greatest an_offer l.buys) (greatest an_offer l.sells)) (max (greatest an_answer l.answers) (greatest a_request l.requests)) + 1

-- what came under the number n
unfoldable pub came_as : {X : Type 0} → Kept X → List X → ℕ → ℕ
came_as k [] n = 0
came_as k (x ∷ xs) n = cond (k.number x == n) (k.left x) 0 + came_as k xs n

abbrev pub quantity : Ledger → ℕ → ℕ
quantity l n = came_as an_offer l.buys n + came_as an_offer l.sells n + came_as an_answer l.answers n + came_as a_request l.requests n

-- the market that stands, by a ledger and the time
abbrev pub standing_market : Opening → Ledger → ℕ → State
standing_market o l t = record {
  book = record { buys = standing l sides.Buy; sells = standing l sides.Sell; lot = o.book.lot };
  most = o.most;
  is_open = o.is_open;
  granted = o.granted;
  requests = open_requests l;
  answers = living l;
  time = t;
  next = next_number l;
}

-- by a history
abbrev pub stands : Opening → List Event → State
stands o es = standing_market o (ledger o es) (time es)
