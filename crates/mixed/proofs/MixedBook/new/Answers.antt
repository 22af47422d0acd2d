use Rattle.mixed.proofs.Parts.{made_lots, made_sound}
use Rattle.mixed.proofs.MixedBook.new.Goals as goal

pub invariant_of-result : goal.invariant_of-result
invariant_of-result c =
    let e = c.in_ok-rungs.ensures.value in
    let g = c.in_ok-orders.ensures in
    record { lots = search (made_lots, e, g); ok = search (made_sound, e, g) }
