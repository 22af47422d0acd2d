use Rattle.std.proofs.Common.{sym, ◌∙◌}
use Rattle.turns.proofs.Gathered.{settled_end}
use Rattle.turns.proofs.Takings.{settles_as}
use Rattle.turns.proofs.settling.settle.Goals as goal

pub returns-clause-left : goal.returns-clause-left
returns-clause-left g c =
    settles_as g.B.Book.MOST _ _ c.args.side c.args.fills.now (g.met.B.Book.lawful c.args.book.now)
    (sym (settled_end (g.B.Book.means c.loop-r.book) c.args.side c.args.fills.now c.loop-r.r-index c.loop-r-test.false) ∙ c.loop-r.invariant)
