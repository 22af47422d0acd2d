use Rattle.std.proofs.Common.{◌≡◌, ◌+◌, ◌-◌, ◌*◌, ◌≤◌, min, drop}
use Rattle.draw.proofs.Cost.{cost, held}
use Rattle.draw.proofs.walk.first_units.Given as goal

abbrev pub invariant-loop-o : goal.invariant-loop-o
invariant-loop-o l =
    (l.totals.0.0 + min (l.most.0 - l.totals.0.0) (held (drop l.o-index l.offers)) ≡ min l.most.0 (held l.offers))
    × (l.totals.1.0 + cost (drop l.o-index l.offers) (l.most.0 - l.totals.0.0) ≡ cost l.offers l.most.0)
    × (l.totals.0.0 ≤ l.most.0) × (l.totals.1.0 ≤ 1000000000 * l.totals.0.0)
