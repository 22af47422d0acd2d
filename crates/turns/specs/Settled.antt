-- What the takes of fills make of a book, one after another; and when that is what the fills leave of it.
use Rattle.std.specs.Prelude.{◌≡◌, ◌≤◌, true, List, [], ◌∷◌}
use Rattle.std.specs.List.{AllByRecursion}
use Rattle.units.specs.declared.side.Side.{Side}
use Rattle.units.specs.Sides.{other}
use Rattle.book.specs.declared.Offer.{Offer}
use Rattle.book.specs.Meaning.{Meaning, side_of, lots, after_take}
use Rattle.rules.specs.declared.reports.Report.{Report}
use Rattle.rules.specs.declared.reports.Report.TheVariants as report
use Rattle.rules.specs.State.{an_offer}
use Rattle.rules.specs.Reports.{remain, filled}
use Rattle.rules.specs.Takes.{Without}

-- the take of one report: a fill's maker gives its quantity, or the book refuses it; a kill takes nothing
abbrev pub after_report : Meaning → Side → Report → Meaning
after_report m d (report.Fill t f) = after_take m d f.maker.0 f.quantity.0
after_report m d (report.Kill reason n q) = m

unfoldable pub settled : Meaning → Side → List Report → Meaning
settled m d [] = m
settled m d (r ∷ rs) = settled (after_report m d r) d rs

-- what reports leave of a book
abbrev pub book_less : List Report → Meaning → Meaning
book_less rs m = record { buys = remain an_offer rs m.buys; sells = remain an_offer rs m.sells; lot = m.lot }

-- a fill of whole lots by a taker that is not in the book, from a maker that is on the side d of it or not in it
abbrev pub Drawn : Meaning → Side → Report → Type 0
Drawn m d (report.Fill t f) = (lots m.lot f.quantity.0 ≡ true) × Without m.buys t.0 × Without m.sells t.0 × Without (side_of m (other d)) f.maker.0
Drawn m d (report.Kill reason n q) = ⊥

-- such fills that take of no offer on that side more than is left of it
pub record Settles (m : Meaning) (d : Side) (rs : List Report) : Type 0 where
  pub fills : AllByRecursion (Drawn m d) rs
  pub within : AllByRecursion (λ (o : Offer). filled rs o.number.0 ≤ o.left.0) (side_of m d)
