use Rattle.std.proofs.Common.{◌∷◌, ◌++◌, [], List, sym, ap, ◌∙◌}
use Rattle.book.specs.declared.Offer.{Offer}
use Rattle.book.specs.Meaning.{with_side}
use Rattle.book.specs.Laws.{sound}
use Rattle.kept.specs.Kept.{kept_means}
use Rattle.kept.specs.Tables.{stored}
use Rattle.book.proofs.Parts.{part_means, with_means}
use Rattle.book.proofs.Sound.{sound_entered}
use Rattle.kept.proofs.calls.KeptBookOpenBook.enter.Goals as goal

pub invariant_of-self : goal.invariant_of-self
invariant_of-self c =
    let b = c.args.self.now in
    let m = kept_means b in
    let s = c.args.side in
    let o = c.args.offer in
    let e = c.push.ensures ∙ ap (λ (os : List Offer). os ++ o ∷ []) (ap stored c.side_mut.ensures.value ∙ part_means stored b.sides s) in
    record { ok = ap (sound 128) (with_means stored b.sides s c.push.new.self ∙ ap (with_side m s) e) ∙ sound_entered 128 m s o b.ok (sym c.if-not-admits.ensures) }
