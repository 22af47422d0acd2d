use Rattle.std.proofs.Common.{ap, ◌∙◌}
use Rattle.book.specs.Laws.{sound}
use Rattle.book.proofs.Sound.{sound_after_take}
use Rattle.kept.proofs.calls.KeptBookBook.take.Goals as goal

pub invariant_of-self : goal.invariant_of-self
invariant_of-self c = let ok = c.args.self.now.ok in record { ok = ap (sound 128) c.take.ensures.after ∙ search (sound_after_take, ok) }
