use Rattle.std.proofs.Common.{arith}
use Rattle.ranked.proofs.Fronts.{front_more, front_long}
use Rattle.turns.proofs.Gathered.{room_left}
use Rattle.turns.proofs.writing.write_all.Goals as goal

pub bounds-out-n : goal.bounds-out-n
bounds-out-n g c =
    let l = room_left g.I.Iterator.next_gives c.loop-item.yielded c.in-Some.item c.requires.room c.into_iter-item-iterator.ensures.into_iter_gives c.loop-item.yielded_by c.in-Some.ensures.steps in
    let k = front_long c.loop-item.invariant in
    omega (arith, c.loop-item.invariant.count)

pub loop-item-preserved : goal.loop-item-preserved
loop-item-preserved g c =
    let l = room_left g.I.Iterator.next_gives c.loop-item.yielded c.in-Some.item c.requires.room c.into_iter-item-iterator.ensures.into_iter_gives c.loop-item.yielded_by c.in-Some.ensures.steps in
    front_more c.in-Some.item c.loop-item.invariant (omega (arith, c.loop-item.invariant.count))

pub overflow_add-n : goal.overflow_add-n
overflow_add-n g c =
    let l = room_left g.I.Iterator.next_gives c.loop-item.yielded c.in-Some.item c.requires.room c.into_iter-item-iterator.ensures.into_iter_gives c.loop-item.yielded_by c.in-Some.ensures.steps in
    let k = front_long c.loop-item.invariant in
    let n = c.loop-item.invariant.count in
    let o = c.loop-item.auto.out in
    omega (arith, c.loop-item.auto.out)
