-- Cutting a file into frames.
use Rattle.std.proofs.Common.{◌≡◌, ℕ, zero, suc, ◌+◌, ◌-◌, ◌*◌, ◌/◌, ◌%◌, ◌<◌, ◌≤◌, cond, eqb, ltb, List, [], ◌++◌, length, take, drop, Some, Err, sym, refl, ap, ◌∙◌, add_assoc, zero-add, mul-suc, mul-add, arith, length-append}
use native.Mathlib.Nat.{mul-add-mod_self_left}
use Rattle.std.proofs.lemmas.List.{length-take, length-drop, take_all, drop-take, drop_all, drop-drop, drop-append-le}
use Rattle.std.proofs.lemmas.Bool.{cond-true, cond-false, lt-ltb, le-ltb}
use Rattle.std.proofs.lemmas.List.Edits.{take-paste}
use Rattle.std.proofs.Math.Seq.{take-add}
use lib.Seq.{paste}
use Rattle.std.proofs.lemmas.Bool.Decides.{nat_tests}
use Rattle.units.specs.declared.refusal.Refusal.TheVariants as refusals
use Rattle.gateway.specs.Faults.{fault}
use Rattle.gateway.specs.Cuts.{whole_in, short_in, count_of, cut_at, piece_at, pieces}
use Rattle.gateway.specs.Laws.{Covers, Resumes}

pieces_take : (n : ℕ) (b : List ℕ) → pieces n b ≡ take (32 * n) b
pieces_take zero b = refl
pieces_take (suc n) b = ap (λ l. l ++ cut_at b n) (pieces_take n b) ∙ (sym (take-add (32 * n) 32 b) ∙ rw mul-suc refl)

joined : (b : List ℕ) → pieces (count_of b) b ≡ b
joined b = pieces_take (count_of b) b ∙ take_all (32 * count_of b) b (grind (arith, nat_tests))

whole : (b : List ℕ) (i : ℕ) → i < whole_in b → length (cut_at b i) ≡ 32
whole b i h = rw (length-take, length-drop) (omega arith)

odd : (n : ℕ) → n / 32 < n / 32 + cond (eqb (n % 32) 0) 0 1 → 0 < n % 32
odd n h = grind (arith, nat_tests)

short : (b : List ℕ) → whole_in b < count_of b → (0 < length (cut_at b (whole_in b))) × (length (cut_at b (whole_in b)) < 32)
short b h =
    let o : 0 < length b % 32 = odd (length b) h in
    (rw (length-take, length-drop) (omega arith), rw (length-take, length-drop) (omega arith))

pub covers : Covers
covers b = record { joined = joined b; frames = whole b; rest = short b }

-- the n frames before are passed over
drop_after : (a b : List ℕ) (n i : ℕ) → length a ≡ 32 * n → drop (32 * (n + i)) (a ++ b) ≡ drop (32 * i) b
drop_after a b n i h =
    let z : drop (32 * n) a ≡ [] = drop_all (32 * n) a (omega arith) in
    ap (λ k. drop k (a ++ b)) (mul-add 32 n i)
    ∙ (sym (drop-drop (32 * i) (32 * n) (a ++ b))
    ∙ ap (drop (32 * i)) (drop-append-le (32 * n) a b (omega arith) ∙ ap (λ l. l ++ b) z))

whole_after : (la lb n : ℕ) → la ≡ 32 * n → (la + lb) / 32 ≡ n + lb / 32
whole_after la lb n h = omega arith

odd_after : (la lb n : ℕ) → la ≡ 32 * n → (la + lb) % 32 ≡ lb % 32
odd_after la lb n h = ap (λ x. x % 32) (ap (λ x. x + lb) h) ∙ mul-add-mod_self_left 32 n lb

sooner : (n i w : ℕ) → ltb (n + i) (n + w) ≡ ltb i w
sooner n i w = grind (arith, nat_tests)

pub resumes : Resumes
resumes a b n i place h =
    let w : whole_in (a ++ b) ≡ n + whole_in b = ap (λ x. x / 32) (length-append a b) ∙ whole_after (length a) (length b) n h in
    let o : length (a ++ b) % 32 ≡ length b % 32 = ap (λ x. x % 32) (length-append a b) ∙ odd_after (length a) (length b) n h in
    let k : count_of (a ++ b) ≡ n + count_of b =
    ap (λ x. x + short_in (a ++ b)) w ∙ (ap (λ x. n + whole_in b + cond (eqb x 0) 0 1) o ∙ add_assoc n (whole_in b) (short_in b)) in
    let one : ltb (n + i) (whole_in (a ++ b)) ≡ ltb i (whole_in b) = ap (ltb (n + i)) w ∙ sooner n i (whole_in b) in
    let two : ltb (n + i) (count_of (a ++ b)) ≡ ltb i (count_of b) = ap (ltb (n + i)) k ∙ sooner n i (count_of b) in
    cc (drop_after a b n i h)

-- the piece after the last whole frame
pub a_short_rest : (b : List ℕ) (index place : ℕ) → (index < whole_in b → ⊥) → index < count_of b
    → Some (Err (fault refusals.Length place 0)) ≡ piece_at b index place
a_short_rest b index place past h =
    let p : whole_in b ≤ index = omega arith in
    sym (cond-false _ _ _ (le-ltb _ _ p) ∙ cond-true _ _ _ (lt-ltb _ _ h))

-- a part of a list, pasted over its front
pub front_pasted : (xs x : List ℕ) (start end : ℕ) → start ≤ end → end ≤ length xs → x ≡ paste xs 0 (drop start xs) (end - start)
    → take (end - start) x ≡ drop start (take end xs)
front_pasted xs x start end h within e =
    let n : ℕ = end - start in
    let split_end : end ≡ start + n = omega arith in
    let fits : n ≤ length (drop start xs) = rw length-drop (omega arith) in
    ap (take n) e
    ∙ (ap (λ k. take k (paste xs 0 (drop start xs) n)) (sym (zero-add n))
    ∙ (take-paste xs 0 (drop start xs) n (omega arith) fits ∙ sym (ap (λ k. drop start (take k xs)) split_end ∙ drop-take start n xs)))
