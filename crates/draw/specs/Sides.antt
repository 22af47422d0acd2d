-- What is better to a side: to a buyer the lower of two prices, or of two sums of money for the same units; to a seller the higher.
use Rattle.std.specs.Prelude.{ℕ, ◌≤◌, Bool, nat_le, nat_lt}
use Rattle.units.specs.declared.side.Side.{Side}
use Rattle.units.specs.declared.side.Side.TheVariants as sides

abbrev pub better : Side → ℕ → ℕ → Bool
better sides.Buy a b = nat_lt a b
better sides.Sell a b = nat_lt b a

abbrev pub NoWorse : Side → ℕ → ℕ → Type 0
NoWorse sides.Buy a b = a ≤ b
NoWorse sides.Sell a b = b ≤ a

-- the same as a test
abbrev pub no_worse : Side → ℕ → ℕ → Bool
no_worse sides.Buy a b = nat_le a b
no_worse sides.Sell a b = nat_le b a
