use Rattle.std.proofs.Common.{◌*◌, get_or, sym, ap, ◌∙◌, arith}
use Rattle.draw.proofs.Bounds.{price_at, quantity_bounds, lot_bounds}
use Rattle.draw.proofs.Sides.{test_true}
use Rattle.draw.proofs.Steps.{nothing, walk_end, turn_more, turn_stop, turn_part, grown}
use Rattle.draw.proofs.walk.walk.Goals as goal

pub part-requires : goal.part-requires
part-requires c =
    let b = quantity_bounds c.args.lot.0 c.args.most.0 c.requires.most in
    let p = turn_part c.args.side c.args.lot.0 c.args.price.0 c.args.most.0 c.args.offers.now c.loop-o.o-index nothing c.loop-o.totals.0.0 c.loop-o.totals.1.0 _ _ _ c.loop-o-test.true
    c.room.ensures c.with-all.ensures.size c.with-all.ensures.money
    (omega (arith, lot_bounds c.args.lot.0 c.requires.lot)) (price_at _ c.args.offers.now c.loop-o.o-index nothing c.loop-o-test.true c.requires.offers)
    c.loop-o.invariant.1 b.1 c.loop-o.invariant.2 c.loop-o.invariant.3 c.if-not-is_within.ensures in
    record { worse = p.0; fits = omega (arith, p.1) }

pub with-requires : goal.with-requires
with-requires c =
    let b = quantity_bounds c.args.lot.0 c.args.most.0 c.requires.most in
    let p = (turn_part c.args.side c.args.lot.0 c.args.price.0 c.args.most.0 c.args.offers.now c.loop-o.o-index nothing c.loop-o.totals.0.0 c.loop-o.totals.1.0 _ _ _ c.loop-o-test.true
    c.room.ensures c.with-all.ensures.size c.with-all.ensures.money
    (omega (arith, lot_bounds c.args.lot.0 c.requires.lot)) (price_at _ c.args.offers.now c.loop-o.o-index nothing c.loop-o-test.true c.requires.offers)
    c.loop-o.invariant.1 b.1 c.loop-o.invariant.2 c.loop-o.invariant.3 c.if-not-is_within.ensures).2 c.part.result.0 c.part.ensures in
    record { size = omega (arith, p.0); money = omega (arith, p.1) }

pub returns-then-not-is_within : goal.returns-then-not-is_within
returns-then-not-is_within c =
    let e = turn_stop c.args.side c.args.lot.0 c.args.price.0 c.args.most.0 c.args.offers.now c.loop-o.o-index nothing c.loop-o.totals.0.0 c.loop-o.totals.1.0 _ _ _ c.loop-o-test.true
    c.room.ensures c.with-all.ensures.size c.with-all.ensures.money c.if-not-is_within.ensures
    c.part.result.0 c.with.result.0.0 c.with.result.1.0 c.part.ensures c.with.ensures.size c.with.ensures.money in
    let i = c.loop-o.invariant.0 in
    record { size = e.0 ∙ ap (λ w. w.0) i; money = e.1 ∙ ap (λ w. w.1) i }

pub loop-o-preserved : goal.loop-o-preserved
loop-o-preserved c =
    let o = get_or c.args.offers.now c.loop-o.o-index nothing in
    let h = price_at _ c.args.offers.now c.loop-o.o-index nothing c.loop-o-test.true c.requires.offers in
    let b = quantity_bounds c.args.lot.0 c.args.most.0 c.requires.most in
    let g = grown o.price.0 c.room.result.0 c.loop-o.totals.0.0 c.loop-o.totals.1.0 c.args.most.0 h (omega arith) (omega arith) c.loop-o.invariant.2 in (
      turn_more c.args.side c.args.lot.0 c.args.price.0 c.args.most.0 c.args.offers.now c.loop-o.o-index nothing c.loop-o.totals.0.0 c.loop-o.totals.1.0 _ _ _ c.loop-o-test.true
          c.room.ensures c.with-all.ensures.size c.with-all.ensures.money c.if-not-is_within.ensures ∙ c.loop-o.invariant.0,
      omega arith,
      omega arith,
      test_true c.args.side c.with-all.result.1.0 (c.args.price.0 * c.with-all.result.0.0) (sym c.if-not-is_within.ensures),
    )

pub returns : goal.returns
returns c =
    let e = walk_end c.args.side c.args.lot.0 c.args.price.0 c.args.most.0 c.args.offers.now c.loop-o.o-index nothing
    c.loop-o.totals.0.0 c.loop-o.totals.1.0 c.loop-o-test.false in
    let i = c.loop-o.invariant.0 in
    record { size = ap (λ w. w.0) (sym e ∙ i); money = ap (λ w. w.1) (sym e ∙ i) }
