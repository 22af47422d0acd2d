-- Four bytes and the number that they write.
use Rattle.std.proofs.Common.{◌≡◌, ℕ, zero, suc, ◌+◌, ◌*◌, ◌/◌, ◌%◌, ◌^◌, ◌<◌, ◌≤◌, Bool, true, false, ◌||◌, eqb, List, [], ◌∷◌, ◌++◌, length, get_or, drop, sym, refl, ap, ◌∙◌, add-zero, add_assoc, arith}
use Rattle.std.proofs.lemmas.List.{drop_more}
use Rattle.std.proofs.lemmas.Nat.{le_bytes_4, from_le_bytes-to_le_bytes_4}
use Rattle.std.proofs.lemmas.Bool.Decides.{nat_tests}
use Rattle.gateway.specs.Frames.{field_at, le, kept}
use Rattle.gateway.specs.Laws.{Bytes}

-- a number of 32 bits, written and read again
pub reread : (n : ℕ) → n < 2 ^ 32 → n % 256 + n / 256 % 256 * 256 + n / 65536 % 256 * 65536 + n / 16777216 % 256 * 16777216 ≡ n
reread n h = from_le_bytes-to_le_bytes_4 n h

-- four bytes, read and written again
pub rewrite : (n a b c d : ℕ) → n ≡ a + b * 256 + c * 65536 + d * 16777216 → a < 256 → b < 256 → c < 256 → d < 256
    → le n ≡ a ∷ b ∷ c ∷ d ∷ []
rewrite n a b c d e ha hb hc hd = le_bytes_4 (a ∷ b ∷ c ∷ d ∷ []) n refl small e
  where
    small : (i : ℕ) → get_or (a ∷ b ∷ c ∷ d ∷ []) i 0 < 256
    small zero = ha
    small (suc zero) = hb
    small (suc (suc zero)) = hc
    small (suc (suc (suc zero))) = hd
    small (suc (suc (suc (suc i)))) = omega arith

-- a byte that may stand where it is: it is used, or 0
pub kept_is : (u : Bool) (x : ℕ) → (u || eqb x 0) ≡ true → kept u x ≡ x
kept_is true x e = refl
kept_is false x e = grind (arith, nat_tests)

-- the same of a field of four such bytes
pub field_is : (u : Bool) (b : List ℕ) (at : ℕ) → ((i : ℕ) → i < 4 → (u || eqb (get_or b (at + i) 0) 0) ≡ true)
    → kept u (field_at b at) ≡ field_at b at
field_is true b at all = refl
field_is false b at all =
    let z0 : kept false (get_or b at 0) ≡ get_or b at 0 = kept_is false _ (rw add-zero at (all 0 (omega arith))) in
    let z1 : kept false (get_or b (at + 1) 0) ≡ get_or b (at + 1) 0 = kept_is false _ (all 1 (omega arith)) in
    let z2 : kept false (get_or b (at + 2) 0) ≡ get_or b (at + 2) 0 = kept_is false _ (all 2 (omega arith)) in
    let z3 : kept false (get_or b (at + 3) 0) ≡ get_or b (at + 3) 0 = kept_is false _ (all 3 (omega arith)) in
    omega arith

abbrev quad : List ℕ → ℕ → List ℕ
quad b at = get_or b at 0 ∷ get_or b (at + 1) 0 ∷ get_or b (at + 2) 0 ∷ get_or b (at + 3) 0 ∷ []

pub drop_quad : (b : List ℕ) (at : ℕ) → at + 4 ≤ length b → drop at b ≡ quad b at ++ drop (at + 4) b
drop_quad b at h =
    let d0 : drop at b ≡ get_or b at 0 ∷ drop (at + 1) b = drop_more b at 0 (omega arith) in
    let d1 : drop (at + 1) b ≡ get_or b (at + 1) 0 ∷ drop (at + 2) b = rw add_assoc at (drop_more b (at + 1) 0 (omega arith)) in
    let d2 : drop (at + 2) b ≡ get_or b (at + 2) 0 ∷ drop (at + 3) b = rw add_assoc at (drop_more b (at + 2) 0 (omega arith)) in
    let d3 : drop (at + 3) b ≡ get_or b (at + 3) 0 ∷ drop (at + 4) b = rw add_assoc at (drop_more b (at + 3) 0 (omega arith)) in
    cc

-- a field of a frame in which nothing is stray, written before what follows it
pub word_is : (u : Bool) (b : List ℕ) (at : ℕ) → Bytes b → at + 4 ≤ length b
    → ((i : ℕ) → i < 4 → (u || eqb (get_or b (at + i) 0) 0) ≡ true)
    → (z : List ℕ) → z ≡ drop (at + 4) b → le (kept u (field_at b at)) ++ z ≡ drop at b
word_is u b at small h all z e =
    let w : le (kept u (field_at b at)) ≡ quad b at =
    rewrite (kept u (field_at b at)) _ _ _ _ (field_is u b at all) (small at) (small (at + 1)) (small (at + 2)) (small (at + 3)) in
    ap (λ (l : List ℕ). l ++ z) w ∙ (ap (λ (l : List ℕ). quad b at ++ l) e ∙ sym (drop_quad b at h))
