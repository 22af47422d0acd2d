use Rattle.ranked.specs.Writes.{WritesFront}
use Rattle.turns.proofs.writing.write_all.Given as goal

abbrev pub invariant-loop-item : goal.invariant-loop-item
invariant-loop-item g l = WritesFront l.initial.out l.out l.n l.yielded
