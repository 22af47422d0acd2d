-- What a ladder means: the standing rungs of its two sides.
use Rattle.ladder.specs.declared.Ladder.{Ladder}
use Rattle.book.specs.Meaning.{Meaning}
use Rattle.book.specs.Sides.{sides_mean}
use Rattle.ladder.specs.Rails.{rail_offers}

abbrev pub ladder_means : Ladder → Meaning
ladder_means b = sides_mean rail_offers b.sides
