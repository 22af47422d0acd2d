use Rattle.rules.proofs.theorems.the_law_bites.Goals as goal
use Rattle.rules.proofs.Only.{no_choice, one_history}
use Rattle.rules.proofs.Bad.{bad_breaks, held_breaks}

pub returns : goal.returns
returns c = record { choice = no_choice; history = one_history; wrong = bad_breaks; held = held_breaks }
