use Rattle.rules.proofs.theorems.runs_are_lawful.Goals as goal
use Rattle.rules.proofs.Lawful.{runs_are_lawful, step_is_lawful}

pub returns : goal.returns
returns c = record { runs = runs_are_lawful; step = step_is_lawful }
