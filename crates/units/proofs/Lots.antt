-- The lot check says yes exactly to the multiples of the lot.
use Rattle.std.proofs.Common.{◌≡◌, ℕ, ◌*◌, ◌/◌, ◌%◌, true, ap, ◌∙◌, arith}
use native.Mathlib.Nat.{mul-mod_left, mod-add-div'}
use Rattle.std.proofs.lemmas.Bool.{eq-eqb, eqb-true}
use Rattle.units.specs.Ranges.{is_whole, WholeMeansMultiple}

multiple_passes : (lot q k : ℕ) → q ≡ k * lot → is_whole lot q ≡ true
multiple_passes lot q k e = eq-eqb _ _ (ap (λ x. x % lot) e ∙ mul-mod_left k lot)

passing_is_multiple : (lot q : ℕ) → is_whole lot q ≡ true → (k : ℕ) × (q ≡ k * lot)
passing_is_multiple lot q h =
    let none : q % lot ≡ 0 = eqb-true _ _ h in
    (q / lot, omega (arith, mod-add-div' q lot))

pub whole_means_multiple : WholeMeansMultiple
whole_means_multiple lot q = (multiple_passes lot q, passing_is_multiple lot q)
