use Rattle.std.proofs.Common.{◌+◌, ◌<◌, length, ap, ◌∙◌, refl, arith}
use Rattle.ladder.proofs.Standing.{standing_from, look_found, look_past, look_over, look_end}
use Rattle.ladder.proofs.rail.Rail.standing_at.Goals as goal
use Rattle.ladder.proofs.rail.Rail.standing_at.Goals.{then-left-ne0+else-skip-eq0, else-left-ne0}

pub loop-k-init : goal.loop-k-init
loop-k-init c = refl

pub returns-then-skip-eq0 : goal.returns-then-skip-eq0
returns-then-skip-eq0 c =
    let left = c.args.self.now.left in
    let w : c.loop-k.k < length left = omega (arith, c.args.self.now.places, c.loop-k-test.true) in
    look_found left c.loop-k.k c.loop-k.skip w c.if-left-ne0.true c.if-skip-eq0.true ∙ c.loop-k.invariant

pub loop-k-preserved : goal.loop-k-preserved
loop-k-preserved c =
    let left = c.args.self.now.left in
    let k = c.loop-k.k in
    let w : k < length left = omega (arith, c.args.self.now.places, c.loop-k-test.true) in
    elim c.if-left-ne0.branch [
      | then-left-ne0+else-skip-eq0 v ↦ ap (standing_from left (k + 1)) v.skip-is ∙ look_past left k c.loop-k.skip w v.if-left-ne0.true v.if-skip-eq0.false ∙ c.loop-k.invariant
      | else-left-ne0 v ↦ ap (standing_from left (k + 1)) v.skip-is ∙ look_over left k c.loop-k.skip w v.if-left-ne0.false ∙ c.loop-k.invariant
    ]

pub returns : goal.returns
returns c =
    look_end c.args.self.now.left c.loop-k.k c.loop-k.skip (omega (arith, c.args.self.now.places, c.loop-k-test.false)) ∙ c.loop-k.invariant
