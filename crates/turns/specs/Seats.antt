-- What a turn is lent, as a market.
use Rattle.std.specs.Prelude.{◌≡◌, []}
use Rattle.book.specs.declared.Book.{Ghosts}
use Rattle.rules.specs.State.{State}
use Rattle.turns.specs.declared.seat.Seat.{Seat}
use Rattle.turns.specs.declared.seat.Supply.{Supply}
use Rattle.turns.specs.Turn.{holding}

-- the book and the tables
abbrev pub held : {B O : Type 0} → Ghosts B O → Seat B → State
held b s = holding (b.means s.book.now) s.requests.now s.answers.now

-- what requests draw on, as a market of nothing else
abbrev pub supplied : {B O : Type 0} → Ghosts B O → Supply B → State
supplied b s = holding (b.means s.book.now) [] s.answers.now

-- the same places are lent, whatever stands in them
pub record SameLoans {B : Type 0} (old new : Seat B) : Type 0 where
  pub book : new.book.ghost_name ≡ old.book.ghost_name
  pub requests : new.requests.ghost_name ≡ old.requests.ghost_name
  pub answers : new.answers.ghost_name ≡ old.answers.ghost_name
