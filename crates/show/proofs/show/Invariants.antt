use Rattle.std.proofs.Common.{◌<◌}
use Rattle.show.proofs.show.Given as goal

-- a turn begins with less than a frame held, so that there is room to read into
abbrev pub invariant-loop : goal.invariant-loop
invariant-loop g l = l.held < 32
