-- What an iterator over the offers of a side has still to give.
use Rattle.std.specs.Prelude.{List, drop}
use Rattle.book.specs.declared.Offer.{Offer}
use Rattle.book.specs.declared.iter.SideOffers.{SideOffers}
use Rattle.book.specs.Meaning.{Meaning, side_of}

-- where a book means what `means` says
abbrev pub still_offered : {B : Type 0} → (B → Meaning) → SideOffers B → List Offer
still_offered means it = drop it.place (side_of (means it.book.now) it.side)
