use Rattle.std.proofs.Common.{ap, ◌∙◌}
use Rattle.book.specs.Laws.{sound}
use Rattle.book.proofs.Sound.{sound_after_take}
use Rattle.ladder.proofs.calls.LadderBook.take.Goals as goal

pub invariant_of-self : goal.invariant_of-self
invariant_of-self c = let ok = c.args.self.now.ok in record { ok = ap (sound 64) c.take.ensures.after ∙ search (sound_after_take, ok) }
