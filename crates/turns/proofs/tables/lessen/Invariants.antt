use Rattle.turns.proofs.Lessening.{Lessening}
use Rattle.turns.proofs.tables.lessen.Given as goal

abbrev pub invariant-loop-i : goal.invariant-loop-i
invariant-loop-i g l = Lessening g.T.Standing.kind l.reports l.initial.table l.table l.kept l.i
