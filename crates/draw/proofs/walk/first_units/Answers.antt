use Rattle.std.proofs.Common.{ℕ, get_or, sym, ◌∙◌, ap₂, arith}
use Rattle.std.proofs.ByRecursion.{All-get_or}
use Rattle.ranked.proofs.Sorting.{distinct_from_apart}
use Rattle.draw.specs.Offers.{named}
use Rattle.draw.proofs.Bounds.{price_bounds}
use Rattle.draw.proofs.Cost.{poured_totals}
use Rattle.draw.proofs.Steps.{nothing, first_more, first_end, grown}
use Rattle.draw.proofs.walk.first_units.Goals as goal

pub loop-o-preserved : goal.loop-o-preserved
loop-o-preserved c =
    let o = get_or c.args.offers.now c.loop-o.o-index nothing in
    let h = (price_bounds o.price.0 (All-get_or _ c.args.offers.now c.loop-o.o-index nothing c.loop-o-test.true c.requires.prices)).1 in
    let g = grown o.price.0 c.room.result.0 c.loop-o.totals.0.0 c.loop-o.totals.1.0 c.args.most.0 h (omega arith) c.requires.most c.loop-o.invariant.3 in
    let f = first_more c.args.most.0 c.args.offers.now c.loop-o.o-index nothing c.loop-o.totals.0.0 c.loop-o.totals.1.0 c.room.result.0 c.with-totals.result.0.0 c.with-totals.result.1.0
    c.loop-o-test.true c.loop-o.invariant.2 c.room.ensures c.with-totals.ensures.size c.with-totals.ensures.money in
    (f.0 ∙ c.loop-o.invariant.0, f.1 ∙ c.loop-o.invariant.1, omega arith, omega arith)

pub returns-clause-value : goal.returns-clause-value
returns-clause-value c =
    let e = first_end c.args.most.0 c.args.offers.now c.loop-o.o-index c.loop-o.totals.0.0 c.loop-o.totals.1.0 c.loop-o-test.false in
    let t = poured_totals c.args.offers.now c.args.most.0 (distinct_from_apart named c.args.offers.now c.requires.apart) in
    ap₂ (λ (a b : ℕ). (record { 0 = a }, record { 0 = b })) (e.0 ∙ (c.loop-o.invariant.0 ∙ sym t.0)) (e.1 ∙ (c.loop-o.invariant.1 ∙ sym t.1))
