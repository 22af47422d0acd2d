-- What fills and kills take, under each number.
use Rattle.std.proofs.Common.{◌≡◌, ℕ, ◌+◌, ◌-◌, ◌%◌, ◌<◌, ◌≤◌, min, Bool, cond, not, eqb, List, [], ◌∷◌, ◌++◌, map, length, sum_by, filter, sym, ap, subst, refl, ◌∙◌, arith}
use native.Mathlib.Nat.{zero-mod}
use Rattle.std.specs.List.{AllByRecursion}
use Rattle.std.specs.List.Sorted.{IsPermutation}
use Rattle.std.proofs.ByRecursion.{all_kept_by, All-map, all_shuffled}
use Rattle.std.proofs.lemmas.List.Sums.{sum_by-cons}
use Rattle.std.proofs.lemmas.List.Folds.{fold-map}
use Rattle.std.proofs.lemmas.List.Filters.{sum_by-filter_both}
use Rattle.units.specs.declared.side.Side.{Side}
use Rattle.ranked.proofs.Placing.{ranked_shuffled}
use Rattle.book.specs.declared.Offer.{Offer}
use Rattle.draw.specs.Sides.{no_worse}
use Rattle.draw.specs.Offers.{as_eligible}
use Rattle.draw.specs.Rankings.{trading_before}
use Rattle.rules.specs.Offers.{from_book, met, crossing, trading_ranking}
use Rattle.std.proofs.lemmas.List.Recursion.{is_sum_by}
use Rattle.std.proofs.lemmas.List.Sorted.{sum_by-IsPermutation}
use Rattle.std.proofs.lemmas.Bool.{cond_both}
use Rattle.std.proofs.lemmas.Bool.Decides.{nat_tests}
use Rattle.draw.specs.declared.offers.Eligible.{Eligible}
use Rattle.draw.specs.declared.fills.Fill.{Fill}
use Rattle.draw.specs.Fills.{taken, fills}
use Rattle.draw.proofs.Sides.{whole_add, whole_sub, whole_min}
use Rattle.rules.specs.declared.reports.KillReason.{KillReason}
use Rattle.rules.specs.declared.reports.Report.{Report}
use Rattle.rules.specs.declared.reports.Report.TheVariants as report
use Rattle.rules.specs.State.{Kept}
use Rattle.rules.specs.Reports.{filled, killed, fills_of, kills_of, filled_by, kills, pour, fills_by}
use Rattle.rules.specs.History.{came_as}
use Rattle.rules.proofs.Left.{touched, count}

abbrev pub an_eligible : Kept Eligible
an_eligible = record { number = λ o. o.number.0; left = λ o. o.left.0; with_left = λ o n. record { number = o.number; firm = o.firm; price = o.price; left = record { 0 = n }; is_answer = o.is_answer } }

-- the units that a report moves
abbrev pub amount_in : Report → ℕ
amount_in (report.Fill t f) = f.quantity.0
amount_in (report.Kill reason k q) = q.0

abbrev pub Whole : ℕ → List Report → Type 0
Whole lot rs = AllByRecursion (λ (r : Report). amount_in r % lot ≡ 0) rs

module _ {X : Type 0} (k : Kept X) where
  pub came_sum : (xs : List X) (n : ℕ) → came_as k xs n ≡ sum_by (λ x. cond (eqb (k.number x) n) (k.left x) 0) xs
  unfolding came_as
  came_sum xs n = is_sum_by (λ ys. came_as k ys n) _ refl (λ _ _. refl) xs

  pub count_sum : (xs : List X) (n : ℕ) → count k xs n ≡ sum_by (λ x. cond (eqb (k.number x) n) 1 0) xs
  unfolding count
  count_sum xs n = is_sum_by (λ ys. count k ys n) _ refl (λ _ _. refl) xs

  pub came_shuffled : (xs ys : List X) → IsPermutation xs ys → (n : ℕ) → came_as k ys n ≡ came_as k xs n
  came_shuffled xs ys s n = came_sum ys n ∙ (sum_by-IsPermutation _ xs ys s ∙ sym (came_sum xs n))

  pub count_shuffled : (xs ys : List X) → IsPermutation xs ys → (n : ℕ) → count k ys n ≡ count k xs n
  count_shuffled xs ys s n = count_sum ys n ∙ (sum_by-IsPermutation _ xs ys s ∙ sym (count_sum xs n))

  pub came_kept : (p : X → Bool) (xs : List X) (n : ℕ) → came_as k (filter p xs) n ≤ came_as k xs n
  unfolding came_as
  came_kept p [] n = omega arith
  came_kept p (x ∷ xs) n = let h = came_kept p xs n in grind (arith, nat_tests)

  pub count_kept : (p : X → Bool) (xs : List X) (n : ℕ) → count k (filter p xs) n ≤ count k xs n
  unfolding count
  count_kept p [] n = omega arith
  count_kept p (x ∷ xs) n = let h = count_kept p xs n in grind (arith, nat_tests)

  -- kills take what was left
  pub touched_kills : (reason : KillReason) (xs : List X) (n : ℕ) → touched (kills k reason xs) n ≡ came_as k xs n
  unfolding filled killed came_as
  touched_kills reason [] n = omega arith
  touched_kills reason (x ∷ xs) n = let h = touched_kills reason xs n in omega arith

  pub fills_by_kills : (t : ℕ) (reason : KillReason) (xs : List X) → fills_by t (kills k reason xs) ≡ []
  unfolding fills_by
  fills_by_kills t reason [] = refl
  fills_by_kills t reason (x ∷ xs) = fills_by_kills t reason xs

  pub whole_kills : (lot : ℕ) (reason : KillReason) (xs : List X) → AllByRecursion (λ x. (0 < k.left x) × (k.left x % lot ≡ 0)) xs → Whole lot (kills k reason xs)
  whole_kills lot reason [] a = tt
  whole_kills lot reason (x ∷ xs) a = (a.0.1, whole_kills lot reason xs a.1)

-- what is told of a side of the book by number and what is left, of those of it that an order crosses: a sum of it, and what holds of each
module _ (d e : Side) (p : ℕ) (os : List Offer) where
  pub sum_crossing : (h : ℕ → ℕ → ℕ) → sum_by (λ (o : Eligible). h o.number.0 o.left.0) (trading_ranking d (crossing d p (met e os))) ≤ sum_by (λ (o : Offer). h o.number.0 o.left.0) os
  sum_crossing h =
      let H : Eligible → ℕ = λ o. h o.number.0 o.left.0 in
      let s = sum_by-IsPermutation H (crossing d p (met e os)) _ (ranked_shuffled (trading_before d) (crossing d p (met e os))) in
      let c = sum_by-filter_both (λ (o : Eligible). no_worse d o.price.0 p) (λ o. not (no_worse d o.price.0 p)) (λ o. refl) H (met e os) in
      let m = fold-map (λ n o. n + H o) (λ o. as_eligible (from_book e o)) 0 os in
      omega arith

  pub each_crossing : (P : Eligible → Type 0) → AllByRecursion (λ o. P (as_eligible (from_book e o))) os → AllByRecursion P (trading_ranking d (crossing d p (met e os)))
  each_crossing P a = all_shuffled P _ _ (ranked_shuffled (trading_before d) (crossing d p (met e os))) (all_kept_by _ P (met e os) (All-map P (λ o. as_eligible (from_book e o)) os a))

-- ── whole lots ──

part_whole : (lot q : ℕ) → q % lot ≡ 0 → (b : Bool) → cond b q 0 % lot ≡ 0
part_whole lot q h b = cond_both b q 0 (λ z. z % lot ≡ 0) (λ _. h) (λ _. zero-mod lot)

amount_whole : (lot n : ℕ) (r : Report) → amount_in r % lot ≡ 0 → (fills_of n r % lot ≡ 0) × (kills_of n r % lot ≡ 0)
amount_whole lot n (report.Fill t f) h = (whole_add lot _ _ (part_whole lot _ h (eqb t.0 n)) (part_whole lot _ h (eqb f.maker.0 n)), zero-mod lot)
amount_whole lot n (report.Kill reason k q) h = (zero-mod lot, part_whole lot _ h (eqb k.0 n))

pub touched_whole : (lot : ℕ) (rs : List Report) → Whole lot rs → (n : ℕ) → touched rs n % lot ≡ 0
unfolding filled killed
touched_whole lot rs a n = let p = each rs a in whole_add lot _ _ p.0 p.1
  where
    each : (rs : List Report) → Whole lot rs → (filled rs n % lot ≡ 0) × (killed rs n % lot ≡ 0)
    each [] a = (zero-mod lot, zero-mod lot)
    each (r ∷ rs) a = let h = each rs a.1 in let p = amount_whole lot n r a.0 in (whole_add lot _ _ p.0 h.0, whole_add lot _ _ p.1 h.1)

-- ── fills ──

abbrev pub units : List Fill → ℕ
units fs = sum_by (λ (f : Fill). f.quantity.0) fs

-- what the fills of a taker take, of it and of the makers
pub touched_fills : (t : ℕ) (fs : List Fill) (k : ℕ) → touched (map (filled_by t) fs) k ≡ cond (eqb t k) (units fs) 0 + taken fs k
unfolding filled killed
touched_fills t [] k = grind (arith, nat_tests)
touched_fills t (f ∷ fs) k =
    let h = touched_fills t fs k in
    let u = sum_by-cons (λ (g : Fill). g.quantity.0) f fs in
    let v = sum_by-cons (λ (g : Fill). cond (eqb k g.maker.0) g.quantity.0 0) f fs in
    grind (arith, nat_tests)

-- the fills of a taker are its own, and no other's
pub own_fills : (t : ℕ) (fs : List Fill) → fills_by t (map (filled_by t) fs) ≡ fs
unfolding fills_by
own_fills t [] = refl
own_fills t (f ∷ fs) = let h = own_fills t fs in grind (arith, nat_tests)

-- reports that are made of a taker's fills tell these fills
pub by_fills : (T : List Fill → Type 0) (n : ℕ) (made_of : List Fill → List Report) (fs : List Fill) {rs : List Report} → rs ≡ made_of fs → fills_by n (made_of fs) ≡ fs → T fs →
    T (fills_by n rs) × (rs ≡ made_of (fills_by n rs))
by_fills T n made_of fs is own t = let q = ap (fills_by n) is ∙ own in (subst T (sym q) t, is ∙ ap made_of (sym q))

pub other_fills : (n t : ℕ) → (t ≡ n → ⊥) → (fs : List Fill) → fills_by n (map (filled_by t) fs) ≡ []
unfolding fills_by
other_fills n t ne [] = refl
other_fills n t ne (f ∷ fs) = let h = other_fills n t ne fs in grind (arith, nat_tests)

pub fills_by_append : (n : ℕ) (a b : List Report) → fills_by n (a ++ b) ≡ fills_by n a ++ fills_by n b
unfolding fills_by
fills_by_append n [] b = refl
fills_by_append n (report.Fill t f ∷ a) b = let h = fills_by_append n a b in grind (arith, nat_tests)
fills_by_append n (report.Kill reason k q ∷ a) b = fills_by_append n a b

-- ── the fills that empty offers in their order ──

-- the fill of the first of them
abbrev next : Eligible → ℕ → Fill
next o n = record { maker = o.number; price = o.price; quantity = record { 0 = min n o.left.0 } }

pub taken_below : (os : List Eligible) (n k : ℕ) → taken (fills os n) k ≤ came_as an_eligible os k
unfolding fills came_as
taken_below [] n k = omega arith
taken_below (o ∷ os) n k =
    let h = taken_below os (n - o.left.0) k in
    let v = sum_by-cons (λ (g : Fill). cond (eqb k g.maker.0) g.quantity.0 0) (next o n) (fills os (n - o.left.0)) in
    grind (arith, nat_tests)

-- they reach n units, or all there are
pub fills_units : (os : List Eligible) (n : ℕ) → units (fills os n) ≡ min n (sum_by (λ (o : Eligible). o.left.0) os)
unfolding fills
fills_units [] n = omega arith
fills_units (o ∷ os) n =
    let h = fills_units os (n - o.left.0) in
    let u = sum_by-cons (λ (g : Fill). g.quantity.0) (next o n) (fills os (n - o.left.0)) in
    let v = sum_by-cons (λ (x : Eligible). x.left.0) o os in
    grind (arith, nat_tests)

pub fills_whole_lots : (lot : ℕ) (t : ℕ) (os : List Eligible) (n : ℕ) → n % lot ≡ 0 → AllByRecursion (λ o. o.left.0 % lot ≡ 0) os → Whole lot (pour t os n)
unfolding fills
fills_whole_lots lot t [] n w a = tt
fills_whole_lots lot t (o ∷ os) n w a =
    cond_both (eqb n 0) [] (next o n ∷ fills os (n - o.left.0)) (λ fs. Whole lot (map (filled_by t) fs)) (λ _. tt)
    (λ _. (whole_min lot n o.left.0 w a.0, fills_whole_lots lot t os (n - o.left.0) (whole_sub lot n o.left.0 w a.0) a.1))

-- each at the price of its offer
pub fills_prices : (P : ℕ → Type 0) (os : List Eligible) (n : ℕ) → AllByRecursion (λ o. P o.price.0) os → AllByRecursion (λ (f : Fill). P f.price.0) (fills os n)
unfolding fills
fills_prices P [] n a = tt
fills_prices P (o ∷ os) n a =
    cond_both (eqb n 0) [] (next o n ∷ fills os (n - o.left.0)) (λ fs. AllByRecursion (λ (f : Fill). P f.price.0) fs) (λ _. tt) (λ _. (a.0, fills_prices P os (n - o.left.0) a.1))

pub length_fills : (os : List Eligible) (n : ℕ) → length (fills os n) ≤ length os
unfolding fills
length_fills [] n = omega arith
length_fills (o ∷ os) n = let h = length_fills os (n - o.left.0) in grind (arith, nat_tests)
