-- Two books of one lot as one: on each side the offers of the first, then those of the second.
use Rattle.std.specs.Prelude.{◌++◌}
use Rattle.book.specs.Meaning.{Meaning, meaning_of}

abbrev pub joined : Meaning → Meaning → Meaning
joined m n = meaning_of (m.buys ++ n.buys) (m.sells ++ n.sells) m.lot
