-- That a sound market's trades can be settled, and that the end of a request takes nothing from the book.
use Rattle.std.specs.Prelude.{◌≡◌, ℕ, Some}
use Rattle.units.specs.declared.side.Side.{Side}
use Rattle.units.specs.Sides.{other}
use Rattle.rules.specs.declared.records.Request.{Request}
use Rattle.rules.specs.State.{State, a_request}
use Rattle.rules.specs.Offers.{under, first}
use Rattle.rules.specs.Step.{less, trade, with_end, decision_at, decision_in_turn}
use Rattle.rules.specs.Sound.{Sound}
use Rattle.turns.specs.Settled.{book_less, Settles}

-- of the open request r of a sound market, on the side d: the fills of a confirmation and of a turn can be settled,
-- and what they leave of the book is what they and the end of the request leave of it
pub record TradesSettle : Type 0 where
  pub confirmed : (s : State) → Sound s → (n : ℕ) (r : Request) → first (under a_request n s.requests) ≡ Some r → (d : Side) (price least : ℕ) →
      Settles s.book (other d) (trade s r d (decision_at s r d price least))
  pub served : (s : State) → Sound s → (n : ℕ) (r : Request) → first (under a_request n s.requests) ≡ Some r → (d : Side) (limit least : ℕ) →
      Settles s.book (other d) (trade s r d (decision_in_turn s r d limit least))
  pub after_confirmed : (s : State) → Sound s → (n : ℕ) (r : Request) → first (under a_request n s.requests) ≡ Some r → (d : Side) (price least : ℕ) →
      book_less (trade s r d (decision_at s r d price least)) s.book ≡ (less (with_end s n (trade s r d (decision_at s r d price least))) s).book
  pub after_served : (s : State) → Sound s → (n : ℕ) (r : Request) → first (under a_request n s.requests) ≡ Some r → (d : Side) (limit least : ℕ) →
      book_less (trade s r d (decision_in_turn s r d limit least)) s.book ≡ (less (with_end s n (trade s r d (decision_in_turn s r d limit least))) s).book
