-- The fault of a refusal: the part that refuses is the refusal's own.
use Rattle.std.specs.Prelude.{ℕ}
use Rattle.units.specs.declared.refusal.Refusal.{Refusal}
use Rattle.units.specs.Refusals.{layer_of}
use Rattle.gateway.specs.declared.faults.Fault.{Fault}

abbrev pub fault : Refusal → ℕ → ℕ → Fault
fault refusal place byte = record { layer = layer_of refusal; refusal = refusal; place = place; byte = byte }
