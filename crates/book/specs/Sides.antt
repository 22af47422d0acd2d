-- The two sides of a book, and what a book of them means.
use Rattle.std.specs.Prelude.{List}
use Rattle.std.specs.Borrow.{Lends, Fml, RattleType, MutBor}
use Rattle.units.specs.declared.side.Side.{Side}
use Rattle.units.specs.declared.side.Side.TheVariants.{Buy, Sell}
use Rattle.book.specs.declared.Offer.{Offer}
use Rattle.book.specs.declared.sides.Sides.{Sides}
use Rattle.book.specs.contracts.sides.Sides.{the_row}
use Rattle.book.specs.Meaning.{Meaning, meaning_of}

abbrev pub part : {S : Type 0} → Sides S → Side → S
part b Buy = b.buys
part b Sell = b.sells

-- the same book with another such side
abbrev pub with_part : {S : Type 0} → Sides S → Side → S → Sides S
with_part b Buy s = record b { buys = s }
with_part b Sell s = record b { sells = s }

-- where a side means the offers f of it
abbrev pub sides_mean : {S : Type 0} → (S → List Offer) → Sides S → Meaning
sides_mean f b = meaning_of (f b.buys) (f b.sells) b.lot.0

-- b ends with the last value behind r as its side
abbrev pub LendsPart : (S : RattleType) → MutBor (Sides S.Denot) → Side → MutBor S.Denot → Fml
LendsPart S b s r = Lends (the_row S) S b r (with_part b.now s)
