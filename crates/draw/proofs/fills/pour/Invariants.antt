use Rattle.std.proofs.Common.{◌≡◌, List, ◌++◌, map, drop}
use Rattle.ranked.specs.Writes.{WritesFront}
use Rattle.draw.specs.Fills.{fills}
use Rattle.draw.proofs.fills.pour.Given as goal

abbrev pub invariant-loop-count : goal.invariant-loop-count
invariant-loop-count g l =
    (ws : List g.row.W.Denot) × WritesFront l.initial.out l.out l.count ws
    × (ws ++ map (g.W.TellsFill.tells l.taker.0) (fills (drop l.count l.offers) l.rest.0) ≡ map (g.W.TellsFill.tells l.taker.0) (fills l.offers l.initial.rest.0))
