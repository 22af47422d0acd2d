-- What a book of two sides means, in terms of one of its sides.
use Rattle.std.proofs.Common.{◌≡◌, List, refl}
use Rattle.units.specs.declared.side.Side.{Side}
use Rattle.units.specs.declared.side.Side.TheVariants.{Buy, Sell}
use Rattle.book.specs.declared.Offer.{Offer}
use Rattle.book.specs.declared.sides.Sides.{Sides}
use Rattle.book.specs.Meaning.{side_of, with_side}
use Rattle.book.specs.Sides.{part, with_part, sides_mean}

module _ {S : Type 0} (f : S → List Offer) (b : Sides S) where
  pub part_means : (s : Side) → f (part b s) ≡ side_of (sides_mean f b) s
  part_means Buy = refl
  part_means Sell = refl

  pub with_means : (s : Side) (x : S) → sides_mean f (with_part b s x) ≡ with_side (sides_mean f b) s (f x)
  with_means Buy x = refl
  with_means Sell x = refl
