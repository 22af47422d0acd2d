-- What reports leave of lists of records.
use Rattle.std.proofs.Common.{◌≡◌, ℕ, ◌+◌, ◌-◌, ◌%◌, ◌<◌, ◌≤◌, cond, eqb, ltb, List, [], ◌∷◌, ◌++◌, sym, subst, arith}
use Rattle.std.specs.List.{AllByRecursion}
use Rattle.std.proofs.lemmas.Bool.{cond_both, ltb-true}
use Rattle.std.proofs.lemmas.Bool.Decides.{nat_tests}
use Rattle.draw.proofs.Sides.{whole_sub}
use Rattle.rules.specs.declared.reports.Report.{Report}
use Rattle.rules.specs.State.{Kept}
use Rattle.rules.specs.Reports.{filled, killed, rest, remain}
use Rattle.rules.specs.History.{came_as}

-- what reports take of the number n
abbrev pub touched : List Report → ℕ → ℕ
touched rs n = filled rs n + killed rs n

pub filled_append : (a b : List Report) (n : ℕ) → filled (a ++ b) n ≡ filled a n + filled b n
unfolding filled
filled_append [] b n = omega arith
filled_append (r ∷ a) b n = let h = filled_append a b n in omega arith

pub killed_append : (a b : List Report) (n : ℕ) → killed (a ++ b) n ≡ killed a n + killed b n
unfolding killed
killed_append [] b n = omega arith
killed_append (r ∷ a) b n = let h = killed_append a b n in omega arith

pub touched_append : (a b : List Report) (n : ℕ) → touched (a ++ b) n ≡ touched a n + touched b n
touched_append a b n = omega (arith, filled_append a b n, killed_append a b n)

-- the laws of a kind of record
pub record KeptLaws {X : Type 0} (k : Kept X) : Type 0 where
  pub number_with : (x : X) (n : ℕ) → k.number (k.with_left x n) ≡ k.number x
  pub left_with : (x : X) (n : ℕ) → k.left (k.with_left x n) ≡ n
  pub twice : (x : X) (a b : ℕ) → k.with_left (k.with_left x a) b ≡ k.with_left x b
  pub same : (x : X) → k.with_left x (k.left x) ≡ x

-- how many have the number n
unfoldable pub count : {X : Type 0} → Kept X → List X → ℕ → ℕ
count k [] n = 0
count k (x ∷ xs) n = cond (eqb (k.number x) n) 1 0 + count k xs n

pub count_append : {X : Type 0} (k : Kept X) (xs ys : List X) (n : ℕ) → count k (xs ++ ys) n ≡ count k xs n + count k ys n
unfolding count
count_append k [] ys n = omega arith
count_append k (x ∷ xs) ys n = let h = count_append k xs ys n in omega arith

pub came_append : {X : Type 0} (k : Kept X) (xs ys : List X) (n : ℕ) → came_as k (xs ++ ys) n ≡ came_as k xs n + came_as k ys n
unfolding came_as
came_append k [] ys n = omega arith
came_append k (x ∷ xs) ys n = let h = came_append k xs ys n in omega arith

pub came_none : {X : Type 0} (k : Kept X) (xs : List X) (n : ℕ) → count k xs n ≡ 0 → came_as k xs n ≡ 0
unfolding came_as count
came_none k [] n e = omega arith
came_none k (x ∷ xs) n e = let h = came_none k xs n in grind (arith, nat_tests)

module _ {X : Type 0} (k : Kept X) where
  -- where none has the number n, each has another
  pub none_counted : (xs : List X) (n : ℕ) → count k xs n ≡ 0 → AllByRecursion (λ x. k.number x ≡ n → ⊥) xs
  unfolding count
  none_counted [] n e = tt
  none_counted (x ∷ xs) n e = ((λ q. grind (arith, nat_tests)), none_counted xs n (grind (arith, nat_tests)))

  -- where no number names two, the others have other numbers than the first
  pub first_apart : (x : X) (xs : List X) → ((n : ℕ) → count k (x ∷ xs) n ≤ 1) → AllByRecursion (λ y. k.number y ≡ k.number x → ⊥) xs × ((n : ℕ) → count k xs n ≤ 1)
  unfolding count
  first_apart x xs one = (none_counted xs (k.number x) (let o = one (k.number x) in grind (arith, nat_tests)), (λ n. (let o = one n in omega arith)))

  pub remain_append : (rs : List Report) (xs ys : List X) → remain k rs (xs ++ ys) ≡ remain k rs xs ++ remain k rs ys
  unfolding remain
  remain_append rs [] ys = cc
  remain_append rs (x ∷ xs) ys = let h = remain_append rs xs ys in grind (arith, nat_tests)

  -- what holds of all records, and of those with whole lots less left, holds of what reports in whole lots leave
  pub remain_all : (P : X → Type 0) (lot : ℕ) → ((x : X) → P x → k.left x % lot ≡ 0) →
      ((x : X) (n : ℕ) → P x → 0 < n → n ≤ k.left x → n % lot ≡ 0 → P (k.with_left x n)) →
      (rs : List Report) → ((n : ℕ) → touched rs n % lot ≡ 0) → (xs : List X) → AllByRecursion P xs → AllByRecursion P (remain k rs xs)
  unfolding remain
  remain_all P lot whole closed rs t [] a = tt
  remain_all P lot whole closed rs t (x ∷ xs) a =
      let h = remain_all P lot whole closed rs t xs a.1 in
      cond_both (ltb 0 (rest k rs x)) (k.with_left x (rest k rs x) ∷ remain k rs xs) (remain k rs xs) (λ ys. AllByRecursion P ys)
      (λ e. (closed x (rest k rs x) a.0 (ltb-true _ _ e) (omega arith) (whole_sub lot (k.left x) (touched rs (k.number x)) (whole x a.0) (t (k.number x))), h)) (λ e. h)

  module _ (w : KeptLaws k) where
    -- reports after reports
    pub remain_remain : (a b : List Report) (xs : List X) → remain k b (remain k a xs) ≡ remain k (a ++ b) xs
    unfolding remain
    remain_remain a b [] = cc
    remain_remain a b (x ∷ xs) =
        let h = remain_remain a b xs in
        let y = k.with_left x (rest k a x) in
        let t = touched_append a b (k.number x) in
        let n = w.number_with x (rest k a x) in
        let l = w.left_with x (rest k a x) in
        let z = w.twice x (rest k a x) (rest k b y) in
        grind (arith, nat_tests)

    -- untouched records stay
    pub remain_same : (rs : List Report) (xs : List X) → AllByRecursion (λ x. (0 < k.left x) × (touched rs (k.number x) ≡ 0)) xs → remain k rs xs ≡ xs
    unfolding remain
    remain_same rs [] a = cc
    remain_same rs (x ∷ xs) a =
        let h = remain_same rs xs a.1 in
        let l = a.0.0 in
        let z = a.0.1 in
        let e : rest k rs x ≡ k.left x = omega arith in
        let q = w.same x in
        grind (arith, nat_tests)

    pub count_remain : (rs : List Report) (xs : List X) (n : ℕ) → count k (remain k rs xs) n ≤ count k xs n
    unfolding remain count
    count_remain rs [] n = omega arith
    count_remain rs (x ∷ xs) n =
        let h = count_remain rs xs n in
        let e = w.number_with x (rest k rs x) in
        grind (arith, nat_tests)

    -- what is left under a number that at most one record has
    pub came_remain : (rs : List Report) (xs : List X) (n : ℕ) → count k xs n ≤ 1 → came_as k (remain k rs xs) n ≡ came_as k xs n - touched rs n
    unfolding remain came_as count
    came_remain rs [] n c = omega arith
    came_remain rs (x ∷ xs) n c =
        let h = came_remain rs xs n in
        let z = came_none k xs n in
        let e = w.number_with x (rest k rs x) in
        let l = w.left_with x (rest k rs x) in
        grind (arith, nat_tests)

    -- positive and whole lots
    pub whole_remain : (lot : ℕ) (rs : List Report) (xs : List X) → ((n : ℕ) → touched rs n % lot ≡ 0) →
        AllByRecursion (λ x. (0 < k.left x) × (k.left x % lot ≡ 0)) xs → AllByRecursion (λ x. (0 < k.left x) × (k.left x % lot ≡ 0)) (remain k rs xs)
    whole_remain lot rs xs t a =
        remain_all (λ x. (0 < k.left x) × (k.left x % lot ≡ 0)) lot (λ x h. h.1) (λ x n h p l v. subst (λ (m : ℕ). (0 < m) × (m % lot ≡ 0)) (sym (w.left_with x n)) (p, v)) rs t xs a
