-- That the book's own takes and removals are what fills and kills leave: the way from an engine over a book to the step.
use Rattle.std.specs.Prelude.{◌≡◌, ℕ, ◌<◌, ◌≤◌, List, [], ◌∷◌, ◌≢◌}
use Rattle.std.specs.List.{AllByRecursion}
use Rattle.draw.specs.declared.fills.Fill.{Fill}
use Rattle.book.specs.declared.Offer.{Offer}
use Rattle.book.specs.Meaning.{left_of, taken, without}
use Rattle.rules.specs.declared.reports.KillReason.{KillReason}
use Rattle.rules.specs.declared.reports.Report.{Report}
use Rattle.rules.specs.State.{an_offer}
use Rattle.rules.specs.Reports.{remain, filled_by, kill}

-- no two share a number, and each has something left
abbrev pub Listed : List Offer → Type 0
Listed [] = Unit {0}
Listed (o ∷ os) = AllByRecursion (λ (x : Offer). x.number.0 ≢ o.number.0) os × (0 < o.left.0) × Listed os

-- the offers of a list have other numbers
abbrev pub Without : List Offer → ℕ → Type 0
Without os n = AllByRecursion (λ (x : Offer). x.number.0 ≢ n) os

-- a take is one fill, by a taker that is not in the list; a removal is one kill; reports leave one after another what they leave together
pub record BookDoes : Type 0 where
  pub take : (os : List Offer) (t : ℕ) (f : Fill) → Listed os → Without os t → f.quantity.0 ≤ left_of os f.maker.0 →
      taken os f.maker.0 f.quantity.0 ≡ remain an_offer (filled_by t f ∷ []) os
  pub remove : (os : List Offer) (reason : KillReason) (n : ℕ) → Listed os → without os n ≡ remain an_offer (kill reason n (left_of os n) ∷ []) os
  pub one_more : (r : Report) (rs : List Report) (os : List Offer) → remain an_offer (r ∷ rs) os ≡ remain an_offer rs (remain an_offer (r ∷ []) os)
  pub elsewhere : (os : List Offer) (t : ℕ) (f : Fill) → Listed os → Without os t → Without os f.maker.0 → remain an_offer (filled_by t f ∷ []) os ≡ os
