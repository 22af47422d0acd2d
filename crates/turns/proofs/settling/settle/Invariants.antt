use Rattle.std.proofs.Common.{◌≡◌, drop}
use Rattle.turns.specs.Settled.{settled}
use Rattle.turns.proofs.settling.settle.Given as goal

abbrev pub invariant-loop-r : goal.invariant-loop-r
invariant-loop-r g l = settled (g.B.Book.means l.book) l.side (drop l.r-index l.fills) ≡ settled (g.B.Book.means l.initial.book) l.side l.fills
