-- What a book means: its offers to buy, its offers to sell and its lot; and what a take, an entry and a removal make of them.
use Rattle.std.specs.Prelude.{ℕ, ◌-◌, Bool, true, false, cond, not, ◌&&◌, ◌||◌, List, [], ◌∷◌, ◌++◌, length, Ok, Err, Result, ◌==◌, nat_le, nat_lt}
use Rattle.units.specs.Ranges.{is_number, is_price, is_quantity, is_whole}
use Rattle.units.specs.declared.side.Side.{Side}
use Rattle.units.specs.declared.side.Side.TheVariants.{Buy, Sell}
use Rattle.book.specs.declared.Offer.{Offer}
use Rattle.book.specs.declared.Refused.{Refused}

pub record Meaning : Type 0 where
  pub buys : List Offer
  pub sells : List Offer
  pub lot : ℕ

abbrev pub meaning_of : List Offer → List Offer → ℕ → Meaning
meaning_of bs ss l = record { buys = bs; sells = ss; lot = l }

abbrev pub side_of : Meaning → Side → List Offer
side_of m Buy = m.buys
side_of m Sell = m.sells

-- the same book with another list on one side
abbrev pub with_side : Meaning → Side → List Offer → Meaning
with_side m Buy os = record { buys = os; sells = m.sells; lot = m.lot }
with_side m Sell os = record { buys = m.buys; sells = os; lot = m.lot }

-- the offer has the number n
abbrev pub numbered : ℕ → Offer → Bool
numbered n o = o.number.0 == n

-- some offer has the number n
abbrev pub has : List Offer → ℕ → Bool
has [] n = false
has (o ∷ os) n = numbered n o || has os n

-- what is left of the number n, 0 where no offer has it
abbrev pub left_of : List Offer → ℕ → ℕ
left_of [] n = 0
left_of (o ∷ os) n = cond (numbered n o) o.left.0 (left_of os n)

-- an amount of whole lots, at least one
abbrev pub lots : ℕ → ℕ → Bool
lots lot a = nat_lt 0 a && is_whole lot a

-- Takes

-- the offer with a less left
abbrev pub less : Offer → ℕ → Offer
less o a = record { number = o.number; firm = o.firm; price = o.price; left = record { 0 = o.left.0 - a } }

-- a less left of the number n: the offer is gone where that was all, and the others are as they were
abbrev pub taken : List Offer → ℕ → ℕ → List Offer
taken [] n a = []
taken (o ∷ os) n a = cond (numbered n o) (cond (o.left.0 == a) os (less o a ∷ os)) (o ∷ taken os n a)

-- the list has the number n, and a is whole lots of it, no more than is left
abbrev pub list_takes : ℕ → List Offer → ℕ → ℕ → Bool
list_takes lot os n a = has os n && (lots lot a && nat_le a (left_of os n))

abbrev pub can_take : Meaning → Side → ℕ → ℕ → Bool
can_take m s n a = list_takes m.lot (side_of m s) n a

-- what a call answers that is refused exactly where its test fails
abbrev pub when : Bool → Result (Unit {0}) Refused
when true = Ok tt
when false = Err (record {})

abbrev pub take_result : Meaning → Side → ℕ → ℕ → Result (Unit {0}) Refused
take_result m s n a = when (can_take m s n a)

abbrev pub after_take : Meaning → Side → ℕ → ℕ → Meaning
after_take m s n a = cond (can_take m s n a) (with_side m s (taken (side_of m s) n a)) m

-- Entries

-- number, firm (the house included), price and what is left are in range, and what is left is of whole lots
abbrev pub in_range : ℕ → Offer → Bool
in_range lot o = is_number o.number.0 && (nat_le o.firm.0 255 && (is_price o.price.0 && is_quantity lot o.left.0))

-- the side is not at its most, neither side has the number, and the offer is in range
abbrev pub can_enter : ℕ → Meaning → Side → Offer → Bool
can_enter most m s o =
    nat_lt (length (side_of m s)) most && (not (has m.buys o.number.0) && (not (has m.sells o.number.0) && in_range m.lot o))

abbrev pub enter_result : ℕ → Meaning → Side → Offer → Result (Unit {0}) Refused
enter_result most m s o = when (can_enter most m s o)

abbrev pub after_enter : ℕ → Meaning → Side → Offer → Meaning
after_enter most m s o = cond (can_enter most m s o) (with_side m s (side_of m s ++ o ∷ [])) m

-- Removals

-- the list without the offer of the number n, the others as they were
abbrev pub without : List Offer → ℕ → List Offer
without [] n = []
without (o ∷ os) n = cond (numbered n o) os (o ∷ without os n)

abbrev pub remove_result : Meaning → Side → ℕ → Result (Unit {0}) Refused
remove_result m s n = when (has (side_of m s) n)

abbrev pub after_remove : Meaning → Side → ℕ → Meaning
after_remove m s n = cond (has (side_of m s) n) (with_side m s (without (side_of m s) n)) m
