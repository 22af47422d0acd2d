-- A turn: what it sees of a market, and the reports that follow its fills.
use Rattle.std.specs.Prelude.{◌≡◌, ℕ, true, false, List, [], ◌++◌, is_some, Some, Option}
use Rattle.units.specs.declared.Quantity.{Quantity}
use Rattle.units.specs.declared.Money.{Money}
use Rattle.units.specs.Ranges.{is_price}
use Rattle.book.specs.Meaning.{Meaning}
use Rattle.draw.specs.declared.offers.Eligible.{Eligible}
use Rattle.draw.specs.Offers.{Ready, Pourable}
use Rattle.rules.specs.declared.records.Answer.{Answer}
use Rattle.rules.specs.declared.records.Request.{Request}
use Rattle.rules.specs.declared.reports.KillReason.TheVariants as reasons
use Rattle.rules.specs.declared.reports.Report.{Report}
use Rattle.rules.specs.State.{State, an_answer, a_request}
use Rattle.rules.specs.Reports.{remain}
use Rattle.rules.specs.Offers.{under, first}
use Rattle.rules.specs.Calls.{ending}
use Rattle.rules.specs.Step.{less, on_offer, ranked_for, trade, with_end, with_end_if, decision_at, decision_in_turn}
use Rattle.rules.specs.Sound.{Sound}
use Rattle.turns.specs.declared.seat.Wanted.{Wanted}

-- what a turn reads and changes; no other part of a market matters to it
abbrev pub holding : Meaning → List Request → List Answer → State
holding m rs xs = record { book = m; most = 0; is_open = false; granted = []; requests = rs; answers = xs; time = 0; next = 0 }

-- the end of the request n after its fills
abbrev pub ending_after : List Report → List Request → List Answer → ℕ → List Report
ending_after fs rs xs n = ending (remain a_request fs rs) (remain an_answer fs xs) n reasons.RequestDone reasons.AnswerDone

-- its fills and its end
abbrev pub ended : List Report → List Request → List Answer → ℕ → List Report
ended fs rs xs n = fs ++ ending_after fs rs xs n

-- what a trade may take for granted: the request and what it may draw on are in order, and its limit is a price
abbrev pub Tradable : State → Wanted → Type 0
Tradable s w = Ready s.book.lot w.request.left.0 (on_offer s w.request w.side) × (is_price w.limit.0 ≡ true)

-- what a decision leaves of the offers: they can be poured, and where something is found they stand in request ranking
abbrev pub LeavesRanked : State → Wanted → Option (Quantity × Money) → List Eligible → Type 0
LeavesRanked s w found left = Pourable left × (is_some found ≡ true → left ≡ ranked_for s w.request w.side)

-- what a confirmation comes to of what is wanted, and its fills
abbrev pub found_at : State → Wanted → ℕ → Option (Quantity × Money)
found_at s w least = decision_at s w.request w.side w.limit.0 least

abbrev pub fills_at : State → Wanted → ℕ → List Report
fills_at s w least = trade s w.request w.side (found_at s w least)

-- what the turn of an automatic request does, and its fills
abbrev pub found_in_turn : State → Wanted → ℕ → Option (Quantity × Money)
found_in_turn s w least_firms = decision_in_turn s w.request w.side w.limit.0 least_firms

abbrev pub fills_in_turn : State → Wanted → ℕ → List Report
fills_in_turn s w least_firms = trade s w.request w.side (found_in_turn s w least_firms)

-- the reports of a confirmation
unfoldable pub confirmation : State → Wanted → ℕ → List Report
confirmation s w least = with_end s w.request.number.0 (fills_at s w least)

-- the reports of a turn: none where nothing trades
unfoldable pub service : State → Wanted → ℕ → List Report
service s w least_firms = with_end_if s w.request.number.0 (fills_in_turn s w least_firms)

-- the book after it is what its reports leave, in every sound market with the book and the tables of h in which the request is open
abbrev pub BookAfter : State → Request → (State → List Report) → Meaning → Type 0
BookAfter h r told after =
    (s : State) → Sound s → s.book ≡ h.book → s.requests ≡ h.requests → s.answers ≡ h.answers → first (under a_request r.number.0 h.requests) ≡ Some r → after ≡ (less (told s) s).book

-- book, requests and answers after it are what its reports leave, in every such market
abbrev pub AllAfter : State → Request → (State → List Report) → Meaning → List Request → List Answer → Type 0
AllAfter h r told after_m after_rs after_xs =
    (s : State) → Sound s → s.book ≡ h.book → s.requests ≡ h.requests → s.answers ≡ h.answers → first (under a_request r.number.0 h.requests) ≡ Some r →
    (after_m ≡ (less (told s) s).book) × (after_rs ≡ (less (told s) s).requests) × (after_xs ≡ (less (told s) s).answers)
