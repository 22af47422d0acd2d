use Rattle.draw.proofs.Marks.{worked}
use Rattle.draw.proofs.examples.worked_examples.Goals as goal

pub returns-clause-hold : goal.returns-clause-hold
returns-clause-hold c = worked
