-- The laws that every book keeps.
use Rattle.std.specs.Prelude.{◌≡◌, ℕ, ◌≤◌, Bool, true, not, ◌&&◌, List, [], ◌∷◌, ◌++◌, length, nat_le}
use Rattle.units.specs.Ranges.{is_lot}
use Rattle.units.specs.declared.side.Side.{Side}
use Rattle.book.specs.declared.Offer.{Offer}
use Rattle.book.specs.Meaning.{Meaning, side_of, has, in_range}

-- no two offers share a number
abbrev pub distinct : List Offer → Bool
distinct [] = true
distinct (o ∷ os) = not (has os o.number.0) && distinct os

abbrev pub all_in_range : ℕ → List Offer → Bool
all_in_range lot [] = true
all_in_range lot (o ∷ os) = in_range lot o && all_in_range lot os

-- the laws of a kind of book that has at most `most` offers a side
pub record Sound (most : ℕ) (m : Meaning) : Type 0 where
  -- the lot is in range
  pub lot : is_lot m.lot ≡ true
  -- a side has at most that many offers
  pub few : (s : Side) → length (side_of m s) ≤ most
  -- every offer is in range, and what is left of it is a quantity
  pub ranged : (s : Side) → all_in_range m.lot (side_of m s) ≡ true
  -- no two offers of the two sides share a number
  pub apart : distinct (m.buys ++ m.sells) ≡ true

-- the same laws as one test, for a ghost field, which holds no record
abbrev pub sound : ℕ → Meaning → Bool
sound most m =
    is_lot m.lot
    && ((nat_le (length m.buys) most && nat_le (length m.sells) most)
    && ((all_in_range m.lot m.buys && all_in_range m.lot m.sells) && distinct (m.buys ++ m.sells)))
