-- The price that a status shows. It is shown, and decides nothing.
use Rattle.std.specs.Prelude.{ℕ, ◌+◌, ◌*◌, ◌/◌, cond, Some, None, Option, ◌==◌}
use Rattle.units.specs.declared.Price.{Price}

-- money over size, halves up; absent at size 0
abbrev pub shown : ℕ → ℕ → Option Price
shown size money = cond (size == 0) None (Some (record { 0 = (2 * money + size) / (2 * size) }))
