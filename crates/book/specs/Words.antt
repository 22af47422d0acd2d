-- Takes and removals told by what stands before and behind the offer: that offer alone changes, all else of both lists stays.
use Rattle.std.specs.Prelude.{◌≡◌, ℕ, ◌≤◌, true, cond, List, [], ◌∷◌, ◌++◌, ◌==◌}
use Rattle.units.specs.Sides.{other}
use Rattle.units.specs.declared.side.Side.{Side}
use Rattle.book.specs.declared.Offer.{Offer}
use Rattle.book.specs.Meaning.{Meaning, side_of, has, less, can_take, after_take, after_remove}

-- the offer of the number n in a list, with what stands before and behind it
pub record Found (os : List Offer) (n : ℕ) : Type 0 where
  pub before : List Offer
  pub offer : Offer
  pub behind : List Offer
  pub list : os ≡ before ++ offer ∷ behind
  pub number : offer.number.0 ≡ n

-- what a take of a leaves of an offer: nothing where that was all
abbrev pub rest : Offer → ℕ → List Offer
rest o a = cond (o.left.0 == a) [] (less o a ∷ [])

-- the other side and the lot are as they were
pub record Kept (s : Side) (m after : Meaning) : Type 0 where
  pub opposite : side_of after (other s) ≡ side_of m (other s)
  pub lot : after.lot ≡ m.lot

pub record Took (m : Meaning) (s : Side) (n a : ℕ) : Type 0 where
  pub found : Found (side_of m s) n
  pub enough : a ≤ found.offer.left.0
  pub list : side_of (after_take m s n a) s ≡ found.before ++ (rest found.offer a ++ found.behind)
  pub kept : Kept s m (after_take m s n a)

pub record Removed (m : Meaning) (s : Side) (n : ℕ) : Type 0 where
  pub found : Found (side_of m s) n
  pub list : side_of (after_remove m s n) s ≡ found.before ++ found.behind
  pub kept : Kept s m (after_remove m s n)

-- what is left of the offer falls by the amount, an emptied offer is gone, and the rest stays in its order
abbrev pub TakesInWords : Type 0
TakesInWords = (m : Meaning) (s : Side) (n a : ℕ) → can_take m s n a ≡ true → Took m s n a

-- the offer of that number alone is gone
abbrev pub RemovalsInWords : Type 0
RemovalsInWords = (m : Meaning) (s : Side) (n : ℕ) → has (side_of m s) n ≡ true → Removed m s n
