-- What the ranges say in numbers.
use Rattle.std.proofs.Common.{◌≡◌, ℕ, ◌%◌, ◌<◌, ◌≤◌, true, List, length, get_or, arith}
use Rattle.std.specs.List.{AllByRecursion}
use Rattle.std.proofs.ByRecursion.{All-get_or, All-weaker}
use Rattle.units.specs.Ranges.{is_price, is_quantity, is_lot}
use Rattle.draw.specs.declared.offers.Eligible.{Eligible}
use Rattle.draw.specs.Offers.{Sound}

pub price_bounds : (p : ℕ) → is_price p ≡ true → (1 ≤ p) × (p ≤ 1000000000)
price_bounds p h = grind arith

pub lot_bounds : (lot : ℕ) → is_lot lot ≡ true → (1 ≤ lot) × (lot ≤ 1000)
lot_bounds lot h = grind arith

pub quantity_bounds : (lot q : ℕ) → is_quantity lot q ≡ true → (1 ≤ q) × (q ≤ 1000000) × (q % lot ≡ 0)
quantity_bounds lot q h = grind arith

pub price_at : (lot : ℕ) (os : List Eligible) (i : ℕ) (d : Eligible) → i < length os → AllByRecursion (Sound lot) os → (get_or os i d).price.0 ≤ 1000000000
price_at lot os i d l a = let h = All-get_or (Sound lot) os i d l a in grind arith

pub sound_whole : (lot : ℕ) (os : List Eligible) → AllByRecursion (Sound lot) os → AllByRecursion (λ o. o.left.0 % lot ≡ 0) os
sound_whole lot os a = All-weaker (Sound lot) (λ o. o.left.0 % lot ≡ 0) (λ o h. (quantity_bounds lot o.left.0 h.left).2) os a

pub sound_some : (lot : ℕ) (os : List Eligible) → AllByRecursion (Sound lot) os → AllByRecursion (λ o. 0 < o.left.0) os
sound_some lot os a = All-weaker (Sound lot) (λ o. 0 < o.left.0) (λ o h. grind arith) os a
