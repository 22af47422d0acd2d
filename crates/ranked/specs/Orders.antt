-- Orders made of simpler ones, and the order of expiry.
use Rattle.std.specs.Prelude.{ℕ, Bool, not, ◌&&◌, ◌||◌, nat_lt}

-- the record with the lower number first
abbrev pub lower : {X : Type 0} → (X → ℕ) → X → X → Bool
lower f x y = nat_lt (f x) (f y)

-- the record with the higher number first
abbrev pub higher : {X : Type 0} → (X → ℕ) → X → X → Bool
higher f x y = nat_lt (f y) (f x)

-- the records that pass first
abbrev pub those : {X : Type 0} → (X → Bool) → X → X → Bool
those p x y = p x && not (p y)

-- first by a, and by b where a tells neither before the other
abbrev pub then_by : {X : Type 0} → (X → X → Bool) → (X → X → Bool) → X → X → Bool
then_by a b x y = a x y || (not (a y x) && b x y)

-- the earlier deadline first, then the lower number
abbrev pub expiry_before : {X : Type 0} → (X → ℕ) → (X → ℕ) → X → X → Bool
expiry_before deadline number = then_by (lower deadline) (lower number)
