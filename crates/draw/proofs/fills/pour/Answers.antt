use Rattle.std.proofs.Common.{refl, ap, ◌∙◌, arith}
use Rattle.ranked.proofs.Fronts.{front_more}
use Rattle.draw.specs.Fills.{fills}
use Rattle.draw.proofs.Pouring.{fills_none, fills_more, fills_end, all_written, one_written, fills_up}
use Rattle.draw.proofs.Steps.{nothing}
use Rattle.draw.proofs.fills.pour.Goals as goal

pub returns-then-rest-eq0-clause-written : goal.returns-then-rest-eq0-clause-written
returns-then-rest-eq0-clause-written g c = all_written (g.W.TellsFill.tells c.args.taker.0) _ _ c.loop-count.invariant.1 (omega arith) (ap (fills _) c.if-rest-eq0.true ∙ fills_none _) c.loop-count.invariant.2

pub loop-count-preserved : goal.loop-count-preserved
loop-count-preserved g c =
    let f = fills_more c.args.offers.now c.loop-count.count nothing c.loop-count.rest.0 c.fill_of-fill.result _ c.loop-count-test.true (omega arith) c.fill_of-fill.ensures refl in (
      _,
      front_more _ c.loop-count.invariant.1 (omega arith),
      one_written (g.W.TellsFill.tells c.args.taker.0) c.loop-count.invariant.0 _ _ _ _ _ f c.of_fill.ensures c.loop-count.invariant.2,
    )

pub returns-clause-written : goal.returns-clause-written
returns-clause-written g c =
    all_written (g.W.TellsFill.tells c.args.taker.0) _ _ c.loop-count.invariant.1 (omega arith) (fills_end c.args.offers.now c.loop-count.count c.loop-count.rest.0 c.loop-count-test.false) c.loop-count.invariant.2

pub returns-then-rest-eq0-clause-draw : goal.returns-then-rest-eq0-clause-draw
returns-then-rest-eq0-clause-draw g c = fills_up c.args.offers.now c.args.n.0 c.requires.offers

pub returns-clause-draw : goal.returns-clause-draw
returns-clause-draw g c = fills_up c.args.offers.now c.args.n.0 c.requires.offers
