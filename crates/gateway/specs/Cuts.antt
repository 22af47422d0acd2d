-- A file of any length, cut into frames of 32 bytes and a short rest.
use Rattle.std.specs.Prelude.{ℕ, zero, suc, ◌+◌, ◌-◌, ◌*◌, ◌/◌, ◌%◌, min, cond, List, [], ◌++◌, length, take, drop, Some, None, Ok, Err, Option, Result, ◌==◌, nat_lt}
use Rattle.std.specs.Borrow.{Bor}
use Rattle.units.specs.declared.refusal.Refusal.TheVariants as refusals
use Rattle.gateway.specs.declared.faults.Fault.{Fault}
use Rattle.gateway.specs.Faults.{fault}

-- how many whole frames and how many short rests a file has, and how many pieces in all
abbrev pub whole_in : List ℕ → ℕ
whole_in b = length b / 32

abbrev pub short_in : List ℕ → ℕ
short_in b = cond (length b % 32 == 0) 0 1

abbrev pub count_of : List ℕ → ℕ
count_of b = whole_in b + short_in b

-- the bytes of the piece at an index: 32 of them, or what is left
abbrev pub cut_at : List ℕ → ℕ → List ℕ
cut_at b index = take 32 (drop (32 * index) b)

-- a frame, or the fault of a short rest that stands at a place of its file, or none from the count on
abbrev pub piece_at : List ℕ → ℕ → ℕ → Option (Result (List ℕ) Fault)
piece_at b index place =
    cond (nat_lt index (whole_in b)) (Some (Ok (cut_at b index)))
    (cond (nat_lt index (count_of b)) (Some (Err (fault refusals.Length place 0))) None)

abbrev pub piece_of : Option (Result (Bor (List ℕ)) Fault) → Option (Result (List ℕ) Fault)
piece_of None = None
piece_of (Some (Ok f)) = Some (Ok f.now)
piece_of (Some (Err e)) = Some (Err e)

-- the pieces at the first n indices, put together
abbrev pub pieces : ℕ → List ℕ → List ℕ
pieces zero b = []
pieces (suc n) b = pieces n b ++ cut_at b n

-- how many of the first n bytes a buffer has, and where the rest of them after the last whole frame begins
abbrev pub filled_in : ℕ → List ℕ → ℕ
filled_in n b = min n (length b)

abbrev pub rest_start : ℕ → List ℕ → ℕ
rest_start n b = filled_in n b - filled_in n b % 32
