-- Tables of requests and answers: their order, and what reports leave of them.
use Rattle.std.specs.Prelude.{◌≡◌, ℕ, ◌<◌, ◌≤◌, List, [], ◌∷◌, length, take}
use Rattle.std.specs.List.{AllByRecursion}
use Rattle.rules.specs.declared.reports.Report.{Report}
use Rattle.rules.specs.State.{Kept}
use Rattle.rules.specs.Reports.{remain}

-- each record's number is above those of the records before it
abbrev pub Rising : {X : Type 0} → Kept X → List X → Type 0
Rising k [] = Unit {0}
Rising k (x ∷ xs) = AllByRecursion (λ y. k.number x < k.number y) xs × Rising k xs

-- the first n places of new are what the reports leave of the table old
pub record Lessens {X : Type 0} (k : Kept X) (rs : List Report) (old new : List X) (n : ℕ) : Type 0 where
  pub items : take n new ≡ remain k rs old
  pub few : n ≤ length old
  pub long : length new ≡ length old
