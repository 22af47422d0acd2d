-- The ranges of the units, and whole lots.
use Rattle.std.specs.Prelude.{◌≡◌, ℕ, ◌*◌, ◌%◌, Bool, true, ◌&&◌, ◌==◌, nat_le}

-- from least to most, both included
abbrev pub within : ℕ → ℕ → ℕ → Bool
within least most n = nat_le least n && nat_le n most

abbrev pub is_price : ℕ → Bool
is_price p = within 1 1000000000 p

abbrev pub is_lot : ℕ → Bool
is_lot lot = within 1 1000 lot

-- a whole number of lots, 0 among them
abbrev pub is_whole : ℕ → ℕ → Bool
is_whole lot q = q % lot == 0

abbrev pub is_quantity : ℕ → ℕ → Bool
is_quantity lot q = within 1 1000000 q && is_whole lot q

-- a firm that is not the house
abbrev pub is_member : ℕ → Bool
is_member f = nat_le 1 f

abbrev pub is_number : ℕ → Bool
is_number n = within 1 2000000 n

abbrev pub is_time : ℕ → Bool
is_time t = nat_le t 86400000

abbrev pub is_delay : ℕ → Bool
is_delay d = within 1 180 d

-- how many firms a request may ask for at least
abbrev pub is_min_firms : ℕ → Bool
is_min_firms n = nat_le n 64

-- the lot check says yes exactly to the multiples of the lot
abbrev pub WholeMeansMultiple : Type 0
WholeMeansMultiple =
    (lot q : ℕ) → ((k : ℕ) → q ≡ k * lot → is_whole lot q ≡ true) × (is_whole lot q ≡ true → (k : ℕ) × (q ≡ k * lot))
