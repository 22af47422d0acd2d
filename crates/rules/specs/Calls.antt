-- Messages and replies, what a message brings, and the reports of an end.
use Rattle.std.specs.Prelude.{ℕ, ◌+◌, ◌*◌, Bool, true, false, cond, List, [], ◌∷◌, ◌++◌, Some, None, Option, Result}
use Rattle.units.specs.declared.Price.{Price}
use Rattle.units.specs.declared.Quantity.{Quantity}
use Rattle.units.specs.declared.Number.{Number}
use Rattle.units.specs.declared.Firm.{Firm}
use Rattle.units.specs.declared.FirmCount.{FirmCount}
use Rattle.units.specs.declared.Delay.{Delay}
use Rattle.units.specs.declared.Time.{Time}
use Rattle.units.specs.declared.side.Side.{Side}
use Rattle.units.specs.declared.side.Side.TheVariants as sides
use Rattle.units.specs.declared.refusal.Refusal.{Refusal}
use Rattle.book.specs.declared.Offer.{Offer}
use Rattle.rules.specs.declared.records.Answer.{Answer}
use Rattle.rules.specs.declared.records.Request.{Request}
use Rattle.rules.specs.declared.records.Terms.{Terms}
use Rattle.rules.specs.declared.records.Terms.TheVariants.{Manual, Automatic}
use Rattle.rules.specs.declared.reports.KillReason.{KillReason}
use Rattle.rules.specs.declared.reports.KillReason.TheVariants as reasons
use Rattle.rules.specs.declared.reports.Report.{Report}
use Rattle.rules.specs.declared.reports.Accepted.{Accepted}
use Rattle.rules.specs.State.{an_offer, an_answer, a_request}
use Rattle.rules.specs.Reports.{kills}
use Rattle.rules.specs.Offers.{under, by_number, offered_to, none}

-- a message; its side is the one that it names, if it names one
pub data Call : Type 0 where
  -- firm, side, price, quantity
  order : Firm → Option Side → Price → Quantity → Call
  -- firm, number
  withdrawal : Firm → Number → Call
  -- firm, side, quantity, minimum units, delay
  manual : Firm → Option Side → Quantity → Quantity → Delay → Call
  -- firm, side, limit, quantity, minimum firms, delay
  automatic : Firm → Option Side → Price → Quantity → FirmCount → Delay → Call
  -- firm, side, request, price, quantity
  answer : Firm → Option Side → Number → Price → Quantity → Call
  -- firm, side, request, price
  confirmation : Firm → Option Side → Number → Price → Call
  clock : Time → Call

-- a message, with how many places the report list and the working list have
pub record Sent : Type 0 where
  pub call : Call
  pub places : ℕ
  pub working : ℕ

abbrev pub Reply : Type 0
Reply = Result Accepted Refusal

-- ── what a message brings ──

abbrev pub new_offer : ℕ → Firm → Price → Quantity → Offer
new_offer n f p q = record { number = record { 0 = n }; firm = f; price = p; left = q }

-- a request that arrives at the time t
abbrev pub new_request : ℕ → ℕ → Firm → Quantity → Delay → Terms → Request
new_request n t f q w terms = record { number = record { 0 = n }; firm = f; left = q; deadline = record { 0 = t + 1000 * w.0 }; terms = terms }

abbrev pub new_answer : ℕ → Number → Firm → Side → Price → Quantity → Answer
new_answer n r f d p q = record { number = record { 0 = n }; request = r; firm = f; side = d; price = p; left = q }

-- offers for the two sides of the book, answers and requests
pub record News : Type 0 where
  pub buys : List Offer
  pub sells : List Offer
  pub answers : List Answer
  pub requests : List Request

abbrev pub nothing : News
nothing = record { buys = []; sells = []; answers = []; requests = [] }

abbrev pub news_offer : Side → Offer → News
news_offer sides.Buy o = record { buys = o ∷ []; sells = []; answers = []; requests = [] }
news_offer sides.Sell o = record { buys = []; sells = o ∷ []; answers = []; requests = [] }

abbrev pub news_answer : Answer → News
news_answer a = record { buys = []; sells = []; answers = a ∷ []; requests = [] }

abbrev pub news_request : Request → News
news_request r = record { buys = []; sells = []; answers = []; requests = r ∷ [] }

-- under the number n, at the time t
abbrev pub brings : Call → ℕ → ℕ → News
brings (order f None p q) n t = nothing
brings (order f (Some d) p q) n t = news_offer d (new_offer n f p q)
brings (withdrawal f k) n t = nothing
brings (manual f d q m w) n t = news_request (new_request n t f q w (Manual d m))
brings (automatic f None p q m w) n t = nothing
brings (automatic f (Some d) p q m w) n t = news_request (new_request n t f q w (Automatic d p m))
brings (answer f None k p q) n t = nothing
brings (answer f (Some d) k p q) n t = news_answer (new_answer n k f d p q)
brings (confirmation f d k p) n t = nothing
brings (clock w) n t = nothing

-- whether a message gets a number
abbrev pub is_numbered : Call → Bool
is_numbered (order f d p q) = true
is_numbered (withdrawal f k) = false
is_numbered (manual f d q m w) = true
is_numbered (automatic f d p q m w) = true
is_numbered (answer f d k p q) = true
is_numbered (confirmation f d k p) = false
is_numbered (clock w) = false

-- the number that it gets where n is the next, 0 where it gets none; and the next number after it
abbrev pub given : Call → ℕ → ℕ
given c n = cond (is_numbered c) n 0

abbrev pub next_of : Call → ℕ → ℕ
next_of c n = cond (is_numbered c) (n + 1) n

-- the time after it, where it comes at the time t
abbrev pub time_of : Call → ℕ → ℕ
time_of (order f d p q) t = t
time_of (withdrawal f k) t = t
time_of (manual f d q m w) t = t
time_of (automatic f d p q m w) t = t
time_of (answer f d k p q) t = t
time_of (confirmation f d k p) t = t
time_of (clock w) t = w.0

-- ── the reports of an end ──

-- the end of the request n: its kill, then the kills of its answers by number
abbrev pub ending : List Request → List Answer → ℕ → KillReason → KillReason → List Report
ending rs xs n its_own its_answers = kills a_request its_own (under a_request n rs) ++ kills an_answer its_answers (by_number an_answer (offered_to n xs))

-- an answer or a book offer of the number n, withdrawn by its firm
abbrev pub taken_back : List Offer → List Offer → List Answer → ℕ → List Report
taken_back buys sells xs n =
    kills an_answer reasons.Withdrawn (under an_answer n xs)
    ++ (kills an_offer reasons.Withdrawn (under an_offer n buys) ++ kills an_offer reasons.Withdrawn (under an_offer n sells))

-- what a withdrawal reports, by what is open under the number
abbrev pub withdrawn : List Offer → List Offer → List Request → List Answer → ℕ → List Report
withdrawn buys sells rs xs n =
    cond (none (under a_request n rs)) (taken_back buys sells xs n) (ending rs xs n reasons.RequestWithdrawn reasons.AnswerDropped)
