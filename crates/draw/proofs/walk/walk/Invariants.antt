use Rattle.std.proofs.Common.{◌≡◌, ◌*◌, ◌≤◌, drop}
use Rattle.draw.specs.Sides.{NoWorse}
use Rattle.draw.specs.Walk.{walk}
use Rattle.draw.proofs.walk.walk.Given as goal

abbrev pub invariant-loop-o : goal.invariant-loop-o
invariant-loop-o l =
    (walk l.side l.lot.0 l.price.0 l.most.0 (drop l.o-index l.offers) l.totals.0.0 l.totals.1.0
    ≡ walk l.side l.lot.0 l.price.0 l.most.0 l.offers 0 0)
    × (l.totals.0.0 ≤ l.most.0) × (l.totals.1.0 ≤ 1000000000 * l.totals.0.0)
    × NoWorse l.side l.totals.1.0 (l.price.0 * l.totals.0.0)
