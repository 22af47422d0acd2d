-- Statuses: what a request could draw now. They change nothing.
use Rattle.std.specs.Prelude.{ℕ, ◌||◌, [], ◌∷◌, Some, None, Ok, Err, Option, Result}
use Rattle.units.specs.declared.Quantity.{Quantity}
use Rattle.units.specs.declared.Money.{Money}
use Rattle.units.specs.declared.side.Side.{Side}
use Rattle.units.specs.declared.refusal.Refusal.{Refusal}
use Rattle.units.specs.declared.refusal.Refusal.TheVariants as refusals
use Rattle.units.specs.Sides.{other}
use Rattle.draw.specs.Rankings.{request_before}
use Rattle.draw.specs.Draws.{Draw, totals, status_draw}
use Rattle.draw.specs.Prices.{shown}
use Rattle.rules.specs.declared.records.Answer.{Answer}
use Rattle.rules.specs.declared.records.Request.{Request}
use Rattle.rules.specs.declared.reports.Status.{Status}
use Rattle.rules.specs.State.{State, an_answer, a_request}
use Rattle.rules.specs.Offers.{under, any, none, first, firms}
use Rattle.rules.specs.Checks.{first_failed, is_none, on_other_side, short_working}
use Rattle.rules.specs.Step.{on_offer}

-- the draw of its quantity, or of all there is, in request ranking and without a limit
abbrev pub status_drawn : State → Request → Side → Draw
status_drawn s r d = status_draw (request_before d) (on_offer s r d) r.left.0

-- the totals of that draw, the firms and the price shown
abbrev pub status_with : ℕ → Quantity × Money → Status
status_with count t = record { size = t.0; money = t.1; firms = record { 0 = count }; price = shown t.0.0 t.1.0 }

abbrev pub status_of : State → Request → Side → Status
status_of s r d = status_with (firms r.number.0 s.answers) (totals (on_offer s r d) (status_drawn s r d))

abbrev pub tell_status : State → Option Side → Option Request → Option Refusal → Result Status Refusal
tell_status s d r (Some f) = Err f
tell_status s None r None = Err refusals.WrongSide
tell_status s (Some d) None None = Err refusals.Unknown
tell_status s (Some d) (Some r) None = Ok (status_of s r d)

-- the status of the request n on a side
abbrev pub status : State → ℕ → Option Side → ℕ → Result Status Refusal
status s n d working =
    tell_status s d (first (under a_request n s.requests))
    (first_failed (
    (refusals.WorkingList, short_working s working)
    ∷ (refusals.Unknown, none (under a_request n s.requests))
    ∷ (refusals.WrongSide, is_none d || any (on_other_side d) (under a_request n s.requests)) ∷ []))

-- what the draw of its request, on the side that the answer serves, takes from an answer
abbrev pub taken_from : State → Answer → Option Request → ℕ
taken_from s a None = 0
taken_from s a (Some r) = status_drawn s r (other a.side) a.number.0

abbrev pub tell_provider : State → Option Answer → Option Refusal → Result Quantity Refusal
tell_provider s a (Some f) = Err f
tell_provider s None None = Err refusals.Unknown
tell_provider s (Some a) None = Ok (record { 0 = taken_from s a (first (under a_request a.request.0 s.requests)) })

-- the status of the provider of the answer n
abbrev pub provider_status : State → ℕ → ℕ → Result Quantity Refusal
provider_status s n working =
    tell_provider s (first (under an_answer n s.answers))
    (first_failed ((refusals.WorkingList, short_working s working) ∷ (refusals.Unknown, none (under an_answer n s.answers)) ∷ []))
