-- The rungs of one side of a ladder, by formula, and which ladders can be made.
use Rattle.std.specs.Prelude.{◌≡◌, ℕ, zero, suc, ◌+◌, ◌-◌, ◌*◌, ◌<◌, Bool, true, cond, not, ◌&&◌, ◌||◌, List, [], ◌∷◌, map, Some, None, Option, ◌==◌, nat_le}
use Rattle.std.specs.List.{range_with_len}
use Rattle.units.specs.Ranges.{is_price, is_quantity, is_lot}
use Rattle.units.specs.declared.side.Side.{Side}
use Rattle.units.specs.declared.side.Side.TheVariants.{Buy, Sell}
use Rattle.book.specs.declared.Offer.{Offer}
use Rattle.book.specs.declared.MakeError.{MakeError}
use Rattle.book.specs.declared.MakeError.TheVariants.{Price, Quantity, Full}
use Rattle.book.specs.declared.sides.Sides.{Sides}
use Rattle.ladder.specs.declared.rungs.Rungs.{Rungs}
use Rattle.book.specs.Meaning.{Meaning, meaning_of}

-- the number of rung 0
abbrev pub first_number : Side → ℕ
first_number Buy = 1
first_number Sell = 65

-- the price of rung k, 0 where it would be below
abbrev pub rung_price : Side → ℕ → ℕ → ℕ → ℕ
rung_price Buy first step k = first - k * step
rung_price Sell first step k = first + k * step

-- rung k, with so much left
abbrev pub rung : Side → ℕ → ℕ → ℕ → ℕ → Offer
rung s first step k left =
    record { number = record { 0 = first_number s + k }; firm = record { 0 = 0 }; price = record { 0 = rung_price s first step k }; left = record { 0 = left } }

-- something is left of a rung, told by its place and what is left of it
abbrev pub stands : ℕ × ℕ → Bool
stands r = not (r.1 == 0)

-- what each rung from k on has left, in order, as offers: an emptied rung is none
abbrev pub standing : Side → ℕ → ℕ → ℕ → List ℕ → List Offer
standing s first step k [] = []
standing s first step k (l ∷ ls) = cond (l == 0) (standing s first step (k + 1) ls) (rung s first step k l ∷ standing s first step (k + 1) ls)

-- Making

-- the offers of a side as it is made
abbrev pub rungs_of : Side → Rungs → List Offer
rungs_of s r = map (λ k. rung s r.first.0 r.step.0 k r.quantity.0) (range_with_len 0 r.count)

-- a test holds of each number below n
abbrev pub each_below : (ℕ → Bool) → ℕ → Bool
each_below P zero = true
each_below P (suc n) = P n && each_below P n

-- the price of every rung is in range, past the sixty-fourth too
abbrev pub prices_in_range : Side → Rungs → Bool
prices_in_range s r = each_below (λ k. is_price (rung_price s r.first.0 r.step.0 k)) r.count

-- a side of no rungs has nothing to check
abbrev pub quantity_in_range : ℕ → Rungs → Bool
quantity_in_range lot r = r.count == 0 || is_quantity lot r.quantity.0

-- why no ladder is made, the first that holds: prices, then lot and quantities, then how many rungs
abbrev pub ladder_refused : Sides Rungs → Option MakeError
ladder_refused plan =
    cond (prices_in_range Buy plan.buys && prices_in_range Sell plan.sells)
    (cond (is_lot plan.lot.0 && (quantity_in_range plan.lot.0 plan.buys && quantity_in_range plan.lot.0 plan.sells))
    (cond (nat_le plan.buys.count 64 && nat_le plan.sells.count 64) None (Some Full))
    (Some Quantity))
    (Some Price)

-- the ladder of a plan that is not refused
abbrev pub ladder_of : Sides Rungs → Meaning
ladder_of plan = meaning_of (rungs_of Buy plan.buys) (rungs_of Sell plan.sells) plan.lot.0

-- every rung has its price in range exactly when the first and the last have
abbrev pub EndsDecide : Type 0
EndsDecide =
    (s : Side) (r : Rungs) → 0 < r.count →
    prices_in_range s r ≡ (is_price r.first.0 && is_price (rung_price s r.first.0 r.step.0 (r.count - 1)))
