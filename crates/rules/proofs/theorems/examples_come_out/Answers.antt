use Rattle.rules.proofs.theorems.examples_come_out.Goals as goal
use Rattle.rules.proofs.Marks.{marked, in_table_order, seat_opens}

pub returns : goal.returns
returns c = record { examples = marked; seat = seat_opens; order = in_table_order }
