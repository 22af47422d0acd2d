use Rattle.std.proofs.Common.{◌≡◌, drop}
use Rattle.draw.specs.Draws.{poured}
use Rattle.draw.proofs.shares.share.Given as goal

abbrev pub invariant-loop-o : goal.invariant-loop-o
invariant-loop-o l = poured (drop l.o-index l.offers) l.rest.0 l.number.0 ≡ poured l.offers l.initial.rest.0 l.number.0
