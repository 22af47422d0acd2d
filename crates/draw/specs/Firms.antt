-- How many different firms answers to a request come from.
use Rattle.std.specs.Prelude.{◌≡◌, ℕ, Bool, false, cond, ◌||◌, List, [], ◌∷◌, map, length, count_by, filter, ◌==◌, nat_eq}

-- the firms of the answers to the request of that number, one for each answer
abbrev pub firms_of : {X : Type 0} → (X → ℕ) → (X → ℕ) → ℕ → List X → List ℕ
firms_of firm request n xs = map firm (filter (λ x. nat_eq (request x) n) xs)

abbrev pub among : ℕ → List ℕ → Bool
among f [] = false
among f (g ∷ gs) = g == f || among f gs

-- each firm once
abbrev pub once : List ℕ → List ℕ
once [] = []
once (f ∷ fs) = cond (among f fs) (once fs) (f ∷ once fs)

-- how many different firms there are: firms count, and not answers
abbrev pub different : List ℕ → ℕ
different fs = length (once fs)

-- every firm that is among them counts for one, and no other does
abbrev pub EachOnce : List ℕ → Type 0
EachOnce fs = (f : ℕ) → count_by (λ g. nat_eq g f) (once fs) ≡ cond (among f fs) 1 0
