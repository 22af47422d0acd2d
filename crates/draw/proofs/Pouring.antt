-- The fills that empty offers in their order: by places, as they are written, and the draw that they make up.
use Rattle.std.proofs.Common.{◌≡◌, ℕ, ◌+◌, ◌-◌, ◌*◌, ◌<◌, ◌≤◌, min, cond, eqb, List, [], ◌∷◌, ◌++◌, map, length, get_or, take, drop, sum_by, count_by, sym, refl, ap, ◌∙◌, subst, inl, inr, append_assoc, append-nil, arith}
use mathlib.Core.Path.{fun_ext}
use Rattle.std.specs.List.{AllByRecursion}
use Rattle.std.proofs.ByRecursion.{All-weaker}
use Rattle.std.proofs.lemmas.List.{drop_more, drop_all}
use Rattle.std.proofs.lemmas.List.Sums.{sum_by-cons}
use Rattle.std.proofs.lemmas.Bool.{cases_eq}
use Rattle.ranked.specs.Writes.{WritesFront}
use Rattle.ranked.proofs.Fronts.{front_as}
use Rattle.ranked.proofs.Sorting.{Distinct, distinct_from_apart}
use Rattle.draw.specs.declared.offers.Eligible.{Eligible}
use Rattle.draw.specs.declared.fills.Fill.{Fill}
use Rattle.draw.specs.Offers.{Pourable, named}
use Rattle.draw.specs.Draws.{poured}
use Rattle.draw.specs.Fills.{taken, fills, maker_of, offer_of, FillsUp}
use Rattle.draw.proofs.Cost.{cost, held, cost_zero, poured_totals}

abbrev pub fill : Eligible → ℕ → Fill
fill o n = record { maker = o.number; price = o.price; quantity = record { 0 = n } }

-- ── by places ──

pub fills_none : (os : List Eligible) → fills os 0 ≡ []
unfolding fills
fills_none [] = refl
fills_none (o ∷ os) = refl

pub fills_cons : (o : Eligible) (os : List Eligible) (n : ℕ) → 0 < n → fills (o ∷ os) n ≡ fill o (min n o.left.0) ∷ fills os (n - o.left.0)
unfolding fills
fills_cons o os n h = grind arith

-- one offer more, where q of n units are taken of it
pub fills_more : (os : List Eligible) (i : ℕ) (d : Eligible) (n : ℕ) (f : Fill) (rest : ℕ) → i < length os → 0 < n → f ≡ fill (get_or os i d) (min n (get_or os i d).left.0) → rest ≡ n - f.quantity.0 →
    fills (drop i os) n ≡ f ∷ fills (drop (i + 1) os) rest
fills_more os i d n f rest l h e r = let v = drop_more os i d l in let c = fills_cons (get_or os i d) (drop (i + 1) os) n h in grind arith

pub fills_end : (os : List Eligible) (i n : ℕ) → length os ≤ i → fills (drop i os) n ≡ []
unfolding fills
fills_end os i n l = rw (drop_all i os l)

-- nothing is left to write
pub all_written : {X : Type 0} (tells : Fill → X) {old new : List X} {m n : ℕ} {ws : List X} (fs gs : List Fill) → WritesFront old new m ws → m ≡ n → gs ≡ [] → ws ++ map tells gs ≡ map tells fs → WritesFront old new n (map tells fs)
all_written tells {old} {new} {m} {n} {ws} fs gs w e f h =
    subst (λ k. WritesFront old new k (map tells fs)) e (front_as (sym (append-nil ws) ∙ (ap (λ (v : List Fill). ws ++ map tells v) (sym f) ∙ h)) w)

-- one fill more is written
pub one_written : {X : Type 0} (tells : Fill → X) (ws : List X) (f : Fill) (x : X) (fs gs hs : List Fill) → gs ≡ f ∷ hs → x ≡ tells f → ws ++ map tells gs ≡ map tells fs → (ws ++ x ∷ []) ++ map tells hs ≡ map tells fs
one_written tells ws f x fs gs hs e ex h = let p = append_assoc ws (x ∷ []) (map tells hs) in grind arith

-- ── the draw ──

-- of the first offer's number, and of the others
taken_cons : (o : Eligible) (os : List Eligible) (n k : ℕ) →
    taken (fills (o ∷ os) n) k ≡ cond (eqb k (named o)) (min n o.left.0) 0 + taken (fills os (n - o.left.0)) k
unfolding fills
taken_cons o os n k = let c = sum_by-cons (λ (f : Fill). cond (eqb k f.maker.0) f.quantity.0 0) (fill o (min n o.left.0)) (fills os (n - o.left.0)) in let z = fills_none os in elim (cases_eq n 0) [ inl e ↦ grind arith | inr h ↦ grind arith ]

not_taken : (k : ℕ) (os : List Eligible) (n : ℕ) → AllByRecursion (λ o. named o ≡ k → ⊥) os → taken (fills os n) k ≡ 0
unfolding fills
not_taken k [] n a = refl
not_taken k (o ∷ os) n a = let r = not_taken k os (n - o.left.0) a.1 in let ne = a.0 in let t = taken_cons o os n k in grind arith

taken_at : (k : ℕ) (os : List Eligible) (n : ℕ) → Distinct named os → taken (fills os n) k ≡ poured os n k
unfolding fills
taken_at k [] n a = refl
taken_at k (o ∷ os) n a = let ih = taken_at k os (n - o.left.0) a.1 in let t = taken_cons o os n k in elim (cases_eq k (named o)) [ inl e ↦ (let r = not_taken k os (n - o.left.0) (All-weaker _ _ (λ x ne i. ne (i ∙ e)) os a.0) in grind arith) | inr h ↦ grind arith ]

-- the fills make up the draw that empties the offers in their order
pub taken_is : (os : List Eligible) (n : ℕ) → Distinct named os → taken (fills os n) ≡ poured os n
taken_is os n a = fun_ext (λ k. taken_at k os n a)

-- a fact of fills, by the offers
by_offers : (P : List Eligible → ℕ → List Fill → Type 0) → ((n : ℕ) → P [] n []) → ((o : Eligible) (os : List Eligible) → P (o ∷ os) 0 []) →
    ((o : Eligible) (os : List Eligible) (n : ℕ) → 0 < n → P os (n - o.left.0) (fills os (n - o.left.0)) → P (o ∷ os) n (fill o (min n o.left.0) ∷ fills os (n - o.left.0))) →
    (os : List Eligible) (n : ℕ) → P os n (fills os n)
unfolding fills
by_offers P a b f [] n = a n
by_offers P a b f (o ∷ os) n =
    elim (cases_eq n 0) [
      | inl e ↦ subst (λ m. P (o ∷ os) m (fills (o ∷ os) m)) (sym e) (b o os)
      | inr h ↦ subst (P (o ∷ os) n) (sym (fills_cons o os n (omega arith))) (f o os n (omega arith) (by_offers P a b f os (n - o.left.0)))
    ]

in_order : (os : List Eligible) (n : ℕ) → map maker_of (fills os n) ≡ map offer_of (take (length (fills os n)) os)
in_order = by_offers (λ os n fs. map maker_of fs ≡ map offer_of (take (length fs) os)) (λ n. refl) (λ o os. refl) (λ o os n h e. ap (λ l. offer_of o ∷ l) e)

fewer : (k : ℕ) (os : List Eligible) (n : ℕ) → count_by (λ (f : Fill). eqb f.maker.0 k) (fills os n) ≤ count_by (λ o. eqb (named o) k) os
fewer k = by_offers (λ os n fs. count_by (λ (f : Fill). eqb f.maker.0 k) fs ≤ count_by (λ o. eqb (named o) k) os) (λ n. omega arith) (λ o os. omega arith)
    (λ o os n h e.
    let f = fill o (min n o.left.0) in
    let l = sum_by-cons (λ (g : Fill). cond (eqb g.maker.0 k) 1 0) f (fills os (n - o.left.0)) in
    let r = sum_by-cons (λ (x : Eligible). cond (eqb (named x) k) 1 0) o os in
    omega arith)

all_some : (os : List Eligible) (n : ℕ) → AllByRecursion (λ o. 0 < o.left.0) os → AllByRecursion (λ (f : Fill). 0 < f.quantity.0) (fills os n)
all_some = by_offers (λ os n fs. AllByRecursion (λ o. 0 < o.left.0) os → AllByRecursion (λ (f : Fill). 0 < f.quantity.0) fs) (λ n a. tt) (λ o os a. tt) (λ o os n h e a. (let z = a.0 in omega arith, e a.1))

sum_units : (os : List Eligible) (n : ℕ) → sum_by (λ (f : Fill). f.quantity.0) (fills os n) ≡ min n (held os)
unfolding held
sum_units = by_offers (λ os n fs. sum_by (λ (f : Fill). f.quantity.0) fs ≡ min n (held os)) (λ n. omega arith) (λ o os. omega arith)
    (λ o os n h e. let l = sum_by-cons (λ (f : Fill). f.quantity.0) (fill o (min n o.left.0)) (fills os (n - o.left.0)) in omega arith)

sum_cash : (os : List Eligible) (n : ℕ) → sum_by (λ (f : Fill). f.price.0 * f.quantity.0) (fills os n) ≡ cost os n
unfolding cost
sum_cash = by_offers (λ os n fs. sum_by (λ (f : Fill). f.price.0 * f.quantity.0) fs ≡ cost os n) (λ n. refl) (λ o os. sym (cost_zero (o ∷ os)))
    (λ o os n h e. let l = sum_by-cons (λ (f : Fill). f.price.0 * f.quantity.0) (fill o (min n o.left.0)) (fills os (n - o.left.0)) in omega arith)

pub fills_up : (os : List Eligible) (n : ℕ) → Pourable os → FillsUp os n (fills os n)
fills_up os n p =
    let d = distinct_from_apart named os p.apart in
    let t = poured_totals os n d in
    record {
      drawn = taken_is os n d;
      in_order = in_order os n;
      once = λ k. (let f = fewer k os n in let h = p.apart k in omega arith);
      some = all_some os n p.some;
      units = sum_units os n ∙ sym t.0;
      cash = sum_cash os n ∙ sym t.1;
    }
