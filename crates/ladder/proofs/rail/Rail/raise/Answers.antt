use Rattle.std.proofs.Common.{◌≡◌, true, ap, ◌∙◌}
use Rattle.book.specs.Laws.{all_in_range}
use Rattle.ladder.specs.Rungs.{standing}
use Rattle.ladder.proofs.Raising.{raised_side, raised_places, side_ranged}
use Rattle.ladder.proofs.Standing.{prices_fit}
use Rattle.ladder.proofs.rail.Rail.raise.Goals as goal

pub invariant_of-result : goal.invariant_of-result
invariant_of-result c =
    let r = c.args.rungs in
    let ls = c.filled-left.result in
    let lot = c.args.lot.0 in
    let e = raised_side c.args.side lot r c.requires.few c.requires.quantity ls c.filled-left.ensures in
    let g : all_in_range lot (standing c.args.side r.first.0 r.step.0 0 ls) ≡ true =
    ap (all_in_range lot) e ∙ side_ranged c.args.side lot r c.requires.few c.requires.quantity c.requires.prices in
    record { places = raised_places c.args.side lot r c.requires.few c.requires.quantity ls c.filled-left.ensures; fits = prices_fit c.args.side r.first.0 r.step.0 lot ls g }

pub returns : goal.returns
returns c = raised_side c.args.side c.args.lot.0 c.args.rungs c.requires.few c.requires.quantity c.filled-left.result c.filled-left.ensures
