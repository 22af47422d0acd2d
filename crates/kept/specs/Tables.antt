-- The offers that a table stores.
use Rattle.std.specs.Prelude.{List}
use Rattle.book.specs.declared.Offer.{Offer}
use Rattle.kept.specs.declared.table.Table.{Table}

abbrev pub stored : Table → List Offer
stored t = t.offers.items
