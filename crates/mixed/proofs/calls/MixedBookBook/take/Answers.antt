use Rattle.mixed.proofs.Parts.{rungs_lots, rungs_sound, taken_lots, taken_sound}
use Rattle.mixed.proofs.calls.MixedBookBook.take.Goals as goal

-- Whichever side, number and amount the calls are given: the promise, and not the law, tells whether they are the right ones.
pub invariant_of-self : goal.invariant_of-self
invariant_of-self c =
    let b = c.args.self.now in
    record { lots = rungs_lots b c.take.new.self _ _ _ c.take.ensures.after; ok = rungs_sound b c.take.new.self _ _ _ c.take.ensures.after }

pub invariant_of-self-2 : goal.invariant_of-self-2
invariant_of-self-2 c =
    let b = c.args.self.now in
    record {
      lots = taken_lots b c.take.new.self _ _ _ c.take.ensures.after c.take-2.new.self _ _ _ c.take-2.ensures.after;
      ok = taken_sound b c.take.new.self _ _ _ c.take.ensures.after c.take-2.new.self _ _ _ c.take-2.ensures.after;
    }
