use Rattle.std.proofs.Common.{◌<◌, length, set, ap, ◌∙◌, arith, rules}
use Rattle.turns.proofs.Lessening.{lessening_start, lessening_none, lessening_some, lessening_at}
use Rattle.turns.proofs.tables.lessen.Goals as goal
use Rattle.turns.proofs.tables.lessen.Goals.{then-lt, else-lt}

pub loop-i-init : goal.loop-i-init
loop-i-init g c = lessening_start g.T.Standing.kind c.args.reports.now c.args.table.now

pub loop-i-preserved : goal.loop-i-preserved
loop-i-preserved g c =
    let k = g.T.Standing.kind in
    let rs = c.args.reports.now in
    let xs = c.args.table.now in
    let ys = c.loop-i.table in
    let l : c.loop-i.i < length ys = omega (arith, c.loop-i-test.true, c.loop-i.invariant.long) in
    elim c.if-lt.branch [
      | then-lt w ↦
          lessening_at (w.table-is ∙ ap (set ys c.loop-i.kept) w.with_left.ensures) w.kept-is
          (lessening_some k rs xs ys c.loop-i.kept c.loop-i.i c.index-table-i.result c.rest_of-rest.result.0 c.loop-i.invariant l c.index-table-i.is c.rest_of-rest.ensures (search rules))
      | else-lt w ↦
          lessening_at w.table-is w.kept-is
          (lessening_none k rs xs ys c.loop-i.kept c.loop-i.i c.index-table-i.result c.rest_of-rest.result.0 c.loop-i.invariant l c.index-table-i.is c.rest_of-rest.ensures (search rules))
    ]
