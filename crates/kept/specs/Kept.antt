-- What a kept book means, the offers that its two tables store; and which one can be made.
use Rattle.std.specs.Prelude.{ℕ, cond, [], Some, None, Option}
use Rattle.units.specs.Ranges.{is_lot}
use Rattle.book.specs.declared.MakeError.{MakeError}
use Rattle.book.specs.declared.MakeError.TheVariants.{Quantity}
use Rattle.book.specs.Meaning.{Meaning, meaning_of}
use Rattle.book.specs.Sides.{sides_mean}
use Rattle.kept.specs.declared.KeptBook.{KeptBook}
use Rattle.kept.specs.Tables.{stored}

abbrev pub kept_means : KeptBook → Meaning
kept_means b = sides_mean stored b.sides

-- a kept book starts empty, of any lot in range
abbrev pub kept_refused : ℕ → Option MakeError
kept_refused lot = cond (is_lot lot) None (Some Quantity)

abbrev pub empty_book : ℕ → Meaning
empty_book lot = meaning_of [] [] lot
