-- What keeps the laws of a book of two tables, whichever side and number it is done to.
use Rattle.std.proofs.Common.{◌≡◌, ℕ, true, cond, List, ap, ◌∙◌}
use Rattle.units.specs.declared.side.Side.{Side}
use Rattle.book.specs.declared.Offer.{Offer}
use Rattle.book.specs.declared.sides.Sides.{Sides}
use Rattle.book.specs.Meaning.{has, without}
use Rattle.book.specs.Laws.{sound}
use Rattle.book.specs.Sides.{part, with_part, sides_mean}
use Rattle.kept.specs.declared.table.Table.{Table}
use Rattle.kept.specs.Tables.{stored}
use Rattle.book.proofs.Parts.{part_means, with_means}
use Rattle.book.proofs.Sound.{sound_removed}

-- one side after a removal, whether refused or not
pub kept_removed : (b : Sides Table) (s : Side) (n : ℕ) (t u : Table) → sound 128 (sides_mean stored b) ≡ true → t ≡ part b s → stored u ≡ cond (has (stored t) n) (without (stored t) n) (stored t)
    → sound 128 (sides_mean stored (with_part b s u)) ≡ true
kept_removed b s n t u h p e =
    ap (sound 128) (with_means stored b s u)
    ∙ sound_removed 128 (sides_mean stored b) s n _ h (e ∙ ap (λ (os : List Offer). cond (has os n) (without os n) os) (ap stored p ∙ part_means stored b s))
