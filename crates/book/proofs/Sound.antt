-- The laws of a book, as a record and as one test; takes, entries and removals keep them.
use Rattle.std.proofs.Common.{◌≡◌, ℕ, ◌≤◌, true, cond, List, [], ◌∷◌, ◌++◌, arith}
use Rattle.std.proofs.lemmas.Bool.Decides.{nat_tests}
use Rattle.std.proofs.lemmas.Bool.{cond_both}
use Rattle.std.proofs.lemmas.List.{length_push, append-nil, append_assoc}
use Rattle.units.specs.declared.side.Side.{Side}
use Rattle.units.specs.declared.side.Side.TheVariants.{Buy, Sell}
use Rattle.book.specs.declared.Offer.{Offer}
use Rattle.book.specs.Meaning.{Meaning, has, taken, without, list_takes, side_of, with_side, can_take, after_take, can_enter, after_enter, after_remove}
use Rattle.book.specs.Laws.{all_in_range, distinct, sound, Sound}
use Rattle.book.proofs.Sublists.{Sub, sub_length, sub_front, sub_back, sub_distinct, sub_taken, sub_without, sub_left, sub_right, has_append, distinct_insert}
use Rattle.book.proofs.Ranges.{range_taken, range_without, range_push}

pub sound_parts : (most : ℕ) (m : Meaning) → sound most m ≡ true → Sound most m
sound_parts most m h = record {
  lot = grind (arith, nat_tests);
  few = elim [ Buy ↦ grind (arith, nat_tests) | Sell ↦ grind (arith, nat_tests) ];
  ranged = elim [ Buy ↦ grind (arith, nat_tests) | Sell ↦ grind (arith, nat_tests) ];
  apart = grind (arith, nat_tests);
}

pub sound_from : (most : ℕ) (m : Meaning) → Sound most m → sound most m ≡ true
sound_from most m p =
    let b = p.few Buy in
    let s = p.few Sell in
    let c = p.ranged Buy in
    let t = p.ranged Sell in
    grind (arith, nat_tests)

-- a side of fewer of the same numbers, all in range, keeps a book sound
pub sound_sub : (most : ℕ) (m : Meaning) (s : Side) (os : List Offer) → Sub os (side_of m s) → all_in_range m.lot os ≡ true → sound most m ≡ true → sound most (with_side m s os) ≡ true
sound_sub most m Buy os u r h = let l = sub_length u in let d = sub_distinct (sub_front u m.sells) in grind (arith, nat_tests)
sound_sub most m Sell os u r h = let l = sub_length u in let d = sub_distinct (sub_back m.buys u) in grind (arith, nat_tests)

pub sound_taken : (most : ℕ) (m : Meaning) (s : Side) (n a : ℕ) → sound most m ≡ true → list_takes m.lot (side_of m s) n a ≡ true → sound most (with_side m s (taken (side_of m s) n a)) ≡ true
sound_taken most m s n a h t = sound_sub most m s _ (sub_taken (side_of m s) n a) (range_taken m.lot (side_of m s) n a (grind (arith, nat_tests)) (grind (arith, nat_tests)) ((sound_parts most m h).ranged s)) h

pub side_distinct : (most : ℕ) (m : Meaning) (s : Side) → sound most m ≡ true → distinct (side_of m s) ≡ true
side_distinct most m Buy h = sub_distinct (sub_left m.buys m.sells) (sound_parts most m h).apart
side_distinct most m Sell h = sub_distinct (sub_right m.buys m.sells) (sound_parts most m h).apart

pub sound_after_take : (most : ℕ) (m : Meaning) (s : Side) (n a : ℕ) → sound most m ≡ true → sound most (after_take m s n a) ≡ true
sound_after_take most m s n a h = cond_both (can_take m s n a) _ _ (λ z. sound most z ≡ true) (sound_taken most m s n a h) (λ _. h)

pub sound_entered : (most : ℕ) (m : Meaning) (s : Side) (o : Offer) → sound most m ≡ true → can_enter most m s o ≡ true → sound most (with_side m s (side_of m s ++ o ∷ [])) ≡ true
sound_entered most m Buy o h t =
    let l = length_push m.buys o in
    let r = range_push m.lot m.buys o in
    let d = distinct_insert m.buys m.sells o in
    grind (arith, nat_tests)
sound_entered most m Sell o h t =
    let l = length_push m.sells o in
    let r = range_push m.lot m.sells o in
    let n = has_append m.buys m.sells o.number.0 in
    let d = distinct_insert (m.buys ++ m.sells) [] o in
    grind (arith, nat_tests, append-nil, append_assoc)

pub sound_after_enter : (most : ℕ) (m : Meaning) (s : Side) (o : Offer) → sound most m ≡ true → sound most (after_enter most m s o) ≡ true
sound_after_enter most m s o h = cond_both (can_enter most m s o) _ _ (λ z. sound most z ≡ true) (sound_entered most m s o h) (λ _. h)

pub sound_without : (most : ℕ) (m : Meaning) (s : Side) (n : ℕ) → sound most m ≡ true → sound most (with_side m s (without (side_of m s) n)) ≡ true
sound_without most m s n h = sound_sub most m s _ (sub_without (side_of m s) n) (range_without m.lot (side_of m s) n ((sound_parts most m h).ranged s)) h

same : (most : ℕ) (m : Meaning) (s : Side) → sound most m ≡ true → sound most (with_side m s (side_of m s)) ≡ true
same most m Buy h = h
same most m Sell h = h

-- one side after a removal, whether refused or not
pub sound_removed : (most : ℕ) (m : Meaning) (s : Side) (n : ℕ) (os : List Offer) → sound most m ≡ true → os ≡ cond (has (side_of m s) n) (without (side_of m s) n) (side_of m s) → sound most (with_side m s os) ≡ true
sound_removed most m s n os h e = rw e (cond_both (has (side_of m s) n) _ _ (λ xs. sound most (with_side m s xs) ≡ true) (λ _. sound_without most m s n h) (λ _. same most m s h))

pub sound_after_remove : (most : ℕ) (m : Meaning) (s : Side) (n : ℕ) → sound most m ≡ true → sound most (after_remove m s n) ≡ true
sound_after_remove most m s n h = cond_both (has (side_of m s) n) _ _ (λ z. sound most z ≡ true) (λ _. sound_without most m s n h) (λ _. h)

-- a kind that allows more offers a side
pub sound_wider : (few more : ℕ) (m : Meaning) → few ≤ more → sound few m ≡ true → sound more m ≡ true
sound_wider few more m w h = grind (arith, nat_tests)
