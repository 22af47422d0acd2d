-- The offers of one side of a standing ladder.
use Rattle.std.specs.Prelude.{List}
use Rattle.book.specs.declared.Offer.{Offer}
use Rattle.ladder.specs.declared.rail.Rail.{Rail}
use Rattle.ladder.specs.Rungs.{standing}

abbrev pub rail_offers : Rail → List Offer
rail_offers r = standing r.side r.first.0 r.step.0 0 r.left
