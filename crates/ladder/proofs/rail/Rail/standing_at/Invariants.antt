use Rattle.std.proofs.Common.{◌≡◌}
use Rattle.ladder.proofs.Standing.{standing_from}
use Rattle.ladder.proofs.rail.Rail.standing_at.Given as goal

abbrev pub invariant-loop-k : goal.invariant-loop-k
invariant-loop-k l = standing_from l.self.left l.k l.skip ≡ standing_from l.self.left 0 l.place
