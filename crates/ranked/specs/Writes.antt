-- Writing to a list that the caller lends.
use Rattle.std.specs.Prelude.{◌≡◌, ℕ, ◌≤◌, List, ◌++◌, length, drop}

-- new is old with xs over its first n places; from n on it is untouched
pub record WritesFront {X : Type 0} (old new : List X) (n : ℕ) (xs : List X) : Type 0 where
  pub items : new ≡ xs ++ drop n old
  pub count : n ≡ length xs
  pub within : n ≤ length old
