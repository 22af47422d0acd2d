-- The worked examples: what is told by computation, what is decided by the theorem on draws.
use Rattle.std.proofs.Common.{◌≡◌, ℕ, ◌%◌, ◌<◌, List, map, rules, Some, None, Option, refl, subst, arith}
use Rattle.std.proofs.ByRecursion.{All-weaker}
use Rattle.units.specs.declared.Quantity.{Quantity}
use Rattle.units.specs.declared.Money.{Money}
use Rattle.units.specs.declared.side.Side.{Side}
use Rattle.units.specs.declared.side.Side.TheVariants.{Buy, Sell}
use Rattle.draw.specs.Walk.{walk}
use Rattle.draw.specs.Fills.{fills}
use Rattle.rules.specs.declared.records.Request.{Request}
use Rattle.rules.specs.declared.records.Terms.{Terms}
use Rattle.rules.specs.declared.records.Terms.TheVariants.{Manual, Automatic}
use Rattle.rules.specs.State.{State, a_request, greatest}
use Rattle.rules.specs.Reports.{filled, killed, size_of, money_of, remain}
use Rattle.rules.specs.Offers.{under, first}
use Rattle.rules.specs.Calls.{Call}
use Rattle.rules.specs.Calls.Call.{clock}
use Rattle.rules.specs.Checks.{all_checks}
use Rattle.rules.specs.Step.{step, one_by_one, decision_at, decision_in_turn}
use Rattle.rules.specs.Run.{Reached, run}
use Rattle.rules.specs.Examples.{Row, Holds, table, Rising, InTableOrder, Decided, DecidedBy, Marked, SeatOpens, played, history, seat, sent}
use Rattle.rules.proofs.Fine.{Sound}
use Rattle.rules.proofs.Fairs.{decides, decides_in_turn}
use Rattle.rules.proofs.Keeps.{found_open}
use Rattle.rules.proofs.Lawful.{inv, runs_are_lawful}

pub seat_opens : SeatOpens
seat_opens = record { few = omega arith; book = record { lot = refl; few = elim [ Buy ↦ omega arith | Sell ↦ omega arith ]; ranged = elim [ Buy ↦ refl | Sell ↦ refl ]; apart = refl } }

pub reached : (cs : List Call) → Reached (history cs) (played cs)
reached cs = (runs_are_lawful seat seat_opens (map sent cs)).reached

-- ── decisions ──

abbrev decision_by : State → Side → ℕ → Request → Terms → Option (Quantity × Money)
decision_by s d p r (Manual e m) = decision_at s r d p m.0
decision_by s d p r (Automatic e limit m) = decision_in_turn s r e limit.0 m.0

abbrev decision_of : State → Side → ℕ → Option Request → Option (Option (Quantity × Money))
decision_of s d p None = None
decision_of s d p (Some r) = Some (decision_by s d p r r.terms)

decided : (s : State) → Sound s → (d : Side) (p n : ℕ) (outcome : Option (Quantity × Money)) (x : Option Request) → first (under a_request n s.requests) ≡ x →
    decision_of s d p x ≡ Some outcome → Decided s d p outcome x
decided s g d p n outcome None e is = absurd (grind arith)
decided s g d p n outcome (Some r) e is = subst (λ (y : Option (Quantity × Money)). DecidedBy s d p y r r.terms) same (go r.terms)
  where
    same : decision_by s d p r r.terms ≡ outcome
    same = cc

    w : r.left.0 % s.book.lot ≡ 0
    w = (found_open s.book.lot n s.requests g.requests r e).whole

    some : 0 < r.left.0
    some = (found_open s.book.lot n s.requests g.requests r e).some

    go : (t : Terms) → DecidedBy s d p (decision_by s d p r t) r t
    go (Manual e m) = decides s r d g w p m.0
    go (Automatic e limit m) = decides_in_turn s r e g w some limit.0 m.0

-- what is to be computed of a row: what it tells, or what the step decides
abbrev Computes : Row → Type 0
Computes (Row.tells cs a ns) = Holds (Row.tells cs a ns)
Computes (Row.decides cs d p outcome) = decision_of (played cs) d p (first (under a_request 2 (played cs).requests)) ≡ Some outcome

row_holds : (r : Row) → Computes r → Holds r
row_holds (Row.tells cs a ns) e = e
row_holds (Row.decides cs d p outcome) e = decided (played cs) (inv (reached cs)).sound d p 2 outcome (first (under a_request 2 (played cs).requests)) refl e

pub marked : Marked
unfolding run step one_by_one filled killed size_of money_of remain fills walk greatest
marked = All-weaker Computes Holds row_holds table (search rules)

pub in_table_order : InTableOrder
in_table_order s m = go m.call
  where
    go : (c : Call) → Rising 1 (all_checks s (record { call = c; places = m.places; working = m.working }))
    go (clock w) = omega arith
    go _ = omega arith
