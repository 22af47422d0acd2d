-- What a mixed book means: on each side the standing rungs of a ladder, and the stored orders behind them.
use Rattle.mixed.specs.declared.MixedBook.{MixedBook}
use Rattle.book.specs.Meaning.{Meaning}
use Rattle.mixed.specs.Joined.{joined}
use Rattle.kept.specs.Kept.{kept_means}
use Rattle.ladder.specs.Ladders.{ladder_means}

abbrev pub mixed_means : MixedBook → Meaning
mixed_means b = joined (ladder_means b.rungs) (kept_means b.orders)
