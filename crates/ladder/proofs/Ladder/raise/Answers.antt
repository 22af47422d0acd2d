use Rattle.std.proofs.Common.{List, ap, ◌∙◌}
use Rattle.units.specs.declared.side.Side.TheVariants.{Buy}
use Rattle.book.specs.declared.Offer.{Offer}
use Rattle.book.specs.Meaning.{meaning_of}
use Rattle.book.specs.Laws.{sound}
use Rattle.ladder.specs.Rungs.{rungs_of}
use Rattle.ladder.specs.Rails.{rail_offers}
use Rattle.ladder.proofs.Raising.{sound_raised}
use Rattle.ladder.proofs.Ladder.raise.Goals as goal

pub invariant_of-result : goal.invariant_of-result
invariant_of-result c =
    let lot = c.args.plan.lot.0 in
    let buys = ap (λ (os : List Offer). sound 64 (meaning_of os (rail_offers c.raise-2.result) lot)) c.raise.ensures in
    let sells = ap (λ (os : List Offer). sound 64 (meaning_of (rungs_of Buy c.args.plan.buys) os lot)) c.raise-2.ensures in
    record { ok = buys ∙ sells ∙ sound_raised c.args.plan c.requires }
