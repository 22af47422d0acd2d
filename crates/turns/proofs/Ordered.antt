-- A table in the order of its numbers is its own ranking, and stays in that order.
use Rattle.std.proofs.Common.{◌≡◌, ℕ, ◌<◌, Bool, true, false, cond, ltb, List, [], ◌∷◌, filter, sym, subst, arith}
use Rattle.std.specs.List.{AllByRecursion}
use Rattle.std.proofs.ByRecursion.{All-weaker, all_kept_by}
use Rattle.std.proofs.lemmas.List.Sorted.{IsPermutation-refl}
use Rattle.std.proofs.lemmas.Bool.{le-ltb}
use Rattle.ranked.specs.Lists.{ranked, InOrder}
use Rattle.ranked.specs.Orders.{lower}
use Rattle.ranked.proofs.Orders.{lower_order}
use Rattle.ranked.proofs.Sorting.{ranking_of, Distinct, apart_from_distinct}
use Rattle.rules.specs.declared.reports.Report.{Report}
use Rattle.rules.specs.State.{Kept}
use Rattle.rules.specs.Reports.{remain, rest}
use Rattle.turns.specs.Tables.{Rising}
use Rattle.rules.proofs.Left.{KeptLaws}

module _ {X : Type 0} (k : Kept X) where
  in_order : (xs : List X) → Rising k xs → InOrder (lower k.number) xs
  in_order [] h = tt
  in_order (x ∷ xs) h = (All-weaker _ _ (λ y l. le-ltb (k.number y) (k.number x) (omega arith)) xs h.0, in_order xs h.1)

  distinct : (xs : List X) → Rising k xs → Distinct k.number xs
  distinct [] h = tt
  distinct (x ∷ xs) h = (All-weaker _ _ (λ y l e. omega arith) xs h.0, distinct xs h.1)

  pub already : (xs : List X) → Rising k xs → ranked (lower k.number) xs ≡ xs
  already xs h = sym ((ranking_of (lower k.number) k.number (lower_order k.number) xs).only (apart_from_distinct k.number xs (distinct xs h)) xs (IsPermutation-refl xs) (in_order xs h))

  pub kept_rising : (p : X → Bool) (xs : List X) → Rising k xs → Rising k (filter p xs)
  kept_rising p [] h = tt
  kept_rising p (x ∷ xs) h = go (p x) (kept_rising p xs h.1)
    where
      go : (b : Bool) → Rising k (filter p xs) → Rising k (cond b (x ∷ filter p xs) (filter p xs))
      go true t = (all_kept_by p _ xs h.0, t)
      go false t = t

  all_above : KeptLaws k → (rs : List Report) (n : ℕ) (xs : List X) → AllByRecursion (λ y. n < k.number y) xs → AllByRecursion (λ y. n < k.number y) (remain k rs xs)
  unfolding remain
  all_above w rs n [] h = tt
  all_above w rs n (x ∷ xs) h = go (ltb 0 (rest k rs x)) (all_above w rs n xs h.1)
    where
      go : (b : Bool) → AllByRecursion (λ y. n < k.number y) (remain k rs xs) → AllByRecursion (λ y. n < k.number y) (cond b (k.with_left x (rest k rs x) ∷ remain k rs xs) (remain k rs xs))
      go true t = (subst (λ (m : ℕ). n < m) (sym (w.number_with x (rest k rs x))) h.0, t)
      go false t = t

  pub remain_rising : KeptLaws k → (rs : List Report) (xs : List X) → Rising k xs → Rising k (remain k rs xs)
  unfolding remain
  remain_rising w rs [] h = tt
  remain_rising w rs (x ∷ xs) h = go (ltb 0 (rest k rs x)) (remain_rising w rs xs h.1)
    where
      go : (b : Bool) → Rising k (remain k rs xs) → Rising k (cond b (k.with_left x (rest k rs x) ∷ remain k rs xs) (remain k rs xs))
      go true t = (subst (λ (m : ℕ). AllByRecursion (λ y. m < k.number y) (remain k rs xs)) (sym (w.number_with x (rest k rs x))) (all_above w rs (k.number x) xs h.0), t)
      go false t = t
