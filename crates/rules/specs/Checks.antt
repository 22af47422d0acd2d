-- When a message is refused, and with what: the checks of each message, in the order of their numbers.
use Rattle.std.specs.Prelude.{ℕ, ◌+◌, Bool, true, false, cond, not, ◌&&◌, ◌||◌, List, [], ◌∷◌, ◌++◌, length, Some, None, Option, ◌==◌, nat_eq, nat_le, nat_lt}
use Rattle.units.specs.declared.Firm.{Firm}
use Rattle.units.specs.declared.side.Side.{Side}
use Rattle.units.specs.declared.refusal.Refusal.{Refusal}
use Rattle.units.specs.declared.refusal.Refusal.TheVariants as refusals
use Rattle.units.specs.Ranges.{is_price, is_quantity, is_whole, is_member, is_number, is_time, is_delay, is_min_firms}
use Rattle.book.specs.declared.Offer.{Offer}
use Rattle.book.specs.Meaning.{side_of}
use Rattle.draw.specs.Offers.{same_side}
use Rattle.rules.specs.declared.records.Answer.{Answer}
use Rattle.rules.specs.declared.records.Request.{Request}
use Rattle.rules.specs.State.{State, an_offer, an_answer, a_request}
use Rattle.rules.specs.Offers.{under, any, none, is_automatic, side_in}
use Rattle.rules.specs.Calls.{Call, Sent}
use Rattle.rules.specs.Calls.Call.{order, withdrawal, manual, automatic, answer, confirmation, clock}

-- ── what the checks ask ──

abbrev pub is_none : {X : Type 0} → Option X → Bool
is_none None = true
is_none (Some x) = false

-- both are sides, and the same one
abbrev pub agree : Option Side → Option Side → Bool
agree None e = false
agree (Some d) None = false
agree (Some d) (Some e) = same_side d e

-- the firm f issued the request
abbrev pub issued_by : ℕ → Request → Bool
issued_by f r = r.firm.0 == f

-- an answer on that side is on the request's own
abbrev pub on_its_side : Option Side → Request → Bool
on_its_side d r = agree d (side_in r.terms)

-- a confirmation or a status on that side is not on the request's own; a request that left its side open has none
abbrev pub on_other_side : Option Side → Request → Bool
on_other_side d r = not (is_none (side_in r.terms)) && not (agree d (side_in r.terms))

abbrev pub is_granted : State → ℕ → Bool
is_granted s f = any (λ (g : Firm). nat_eq g.0 f) s.granted

-- more than the quantity, or not in whole lots
abbrev pub bad_minimum : ℕ → ℕ → ℕ → Bool
bad_minimum lot q m = nat_lt q m || not (is_whole lot m)

-- something of the firm f is open under the number n; book offers count over an open book only
abbrev pub open_of : State → ℕ → ℕ → Bool
open_of s f n =
    any (issued_by f) (under a_request n s.requests)
    || (any (λ (a : Answer). nat_eq a.firm.0 f) (under an_answer n s.answers)
    || (s.is_open && any (λ (o : Offer). nat_eq o.firm.0 f) (under an_offer n (s.book.buys ++ s.book.sells))))

abbrev pub full_side : State → Option Side → Bool
full_side s None = false
full_side s (Some d) = nat_le s.most (length (side_of s.book d))

abbrev pub full_requests : State → Bool
full_requests s = nat_le 8 (length s.requests)

abbrev pub full_answers : State → Bool
full_answers s = nat_le 64 (length s.answers)

abbrev pub no_number : State → Bool
no_number s = not (is_number s.next)

abbrev pub bad_time : State → ℕ → Bool
bad_time s t = nat_lt t s.time || not (is_time t)

-- ── the checks ──

-- a refusal, and whether it is called for
abbrev pub Check : Type 0
Check = Refusal × Bool

abbrev pub checks : State → Call → List Check
checks s (order f d p q) =
    (refusals.House, not (is_member f.0))
    ∷ (refusals.Price, not (is_price p.0))
    ∷ (refusals.Quantity, not (is_quantity s.book.lot q.0))
    ∷ (refusals.WrongSide, is_none d)
    ∷ (refusals.Full, full_side s d)
    ∷ (refusals.NoNumber, no_number s) ∷ []
checks s (withdrawal f n) =
    (refusals.House, not (is_member f.0))
    ∷ (refusals.Unknown, not (open_of s f.0 n.0)) ∷ []
checks s (manual f d q m w) =
    (refusals.House, not (is_member f.0))
    ∷ (refusals.Quantity, not (is_quantity s.book.lot q.0))
    ∷ (refusals.Minimum, bad_minimum s.book.lot q.0 m.0)
    ∷ (refusals.Delay, not (is_delay w.0))
    ∷ (refusals.Full, full_requests s)
    ∷ (refusals.NoNumber, no_number s) ∷ []
checks s (automatic f d p q m w) =
    (refusals.House, not (is_member f.0))
    ∷ (refusals.Price, not (is_price p.0))
    ∷ (refusals.Quantity, not (is_quantity s.book.lot q.0))
    ∷ (refusals.Minimum, not (is_min_firms m.0))
    ∷ (refusals.Delay, not (is_delay w.0))
    ∷ (refusals.WrongSide, is_none d)
    ∷ (refusals.Full, full_requests s)
    ∷ (refusals.NoNumber, no_number s) ∷ []
checks s (answer f d n p q) =
    (refusals.House, not (is_member f.0))
    ∷ (refusals.Unknown, none (under a_request n.0 s.requests))
    ∷ (refusals.Price, not (is_price p.0))
    ∷ (refusals.Quantity, not (is_quantity s.book.lot q.0))
    ∷ (refusals.WrongSide, is_none d || any (on_its_side d) (under a_request n.0 s.requests))
    ∷ (refusals.NotProvider, not (is_granted s f.0) || any (issued_by f.0) (under a_request n.0 s.requests))
    ∷ (refusals.Full, full_answers s)
    ∷ (refusals.NoNumber, no_number s) ∷ []
checks s (confirmation f d n p) =
    (refusals.House, not (is_member f.0))
    ∷ (refusals.Unknown, not (any (issued_by f.0) (under a_request n.0 s.requests)))
    ∷ (refusals.Price, not (is_price p.0))
    ∷ (refusals.WrongSide, is_none d || any (on_other_side d) (under a_request n.0 s.requests))
    ∷ (refusals.Automatic, any is_automatic (under a_request n.0 s.requests)) ∷ []
checks s (clock t) = (refusals.Time, bad_time s t.0) ∷ []

-- there are no book orders over a book that is not open
abbrev pub no_orders : State → Call → Bool
no_orders s (order f d p q) = not s.is_open
no_orders s (withdrawal f n) = false
no_orders s (manual f d q m w) = false
no_orders s (automatic f d p q m w) = false
no_orders s (answer f d n p q) = false
no_orders s (confirmation f d n p) = false
no_orders s (clock t) = false

abbrev pub short_working : State → ℕ → Bool
short_working s working = nat_lt working (s.most + 64)

abbrev pub all_checks : State → Sent → List Check
all_checks s m =
    (refusals.Kind, no_orders s m.call)
    ∷ (refusals.ReportList, nat_lt m.places 2048)
    ∷ (refusals.WorkingList, short_working s m.working)
    ∷ checks s m.call

-- the first refusal that is called for
abbrev pub first_failed : List Check → Option Refusal
first_failed [] = None
first_failed (c ∷ cs) = cond c.1 (Some c.0) (first_failed cs)

abbrev pub refusal : State → Sent → Option Refusal
refusal s m = first_failed (all_checks s m)
