use Rattle.units.proofs.Lots.{whole_means_multiple}
use Rattle.units.proofs.Lot.divides.Goals as goal

pub returns-clause-meaning : goal.returns-clause-meaning
returns-clause-meaning c = whole_means_multiple
