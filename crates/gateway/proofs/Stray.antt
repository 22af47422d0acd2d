-- The search for a stray byte, a step at a time.
use Rattle.std.proofs.Common.{◌≡◌, ℕ, zero, suc, ◌+◌, ◌<◌, ◌≤◌, Bool, true, false, cond, not, ◌&&◌, ◌||◌, eqb, List, [], ◌∷◌, length, get_or, take, drop, Option, sym, refl, ◌∙◌, subst, ⊎_elim, suc-le-suc, le_of_suc-le-suc, not-suc-le-zero, add-zero, zero-add, arith, below_more}
use Rattle.std.specs.declared.option.Option.TheVariants as opt
use Rattle.std.specs.Prelude.{position}
use Rattle.std.specs.List.{position_from, enumerate_from}
use Rattle.std.proofs.lemmas.Iterator.Adapters.{position_from-zero}
use Rattle.std.proofs.lemmas.List.{at_drop_more, at_drop_all, get_or-take, length-take-le}
use Rattle.std.proofs.lemmas.Bool.{cond-true, cond-false, cases_Bool, and_parts}
use Rattle.std.proofs.lemmas.Bool.Decides.{nat_tests}
use Rattle.gateway.specs.declared.messages.Uses.{Uses}
use Rattle.gateway.specs.Frames.{allowed_at, first_stray, field_at, clean_fields}
use Rattle.gateway.specs.Laws.{First, Firsts}

pub stray_more : (u : Uses) (xs : List ℕ) (p : ℕ) → p < length xs → allowed_at u p (get_or xs p 0) ≡ true
    → first_stray u (drop p xs) p ≡ first_stray u (drop (p + 1) xs) (p + 1)
stray_more u xs p h e = at_drop_more (λ l. first_stray u l p) xs p 0 h ∙ cond-true _ _ _ e

pub stray_here : (u : Uses) (xs : List ℕ) (p : ℕ) → p < length xs → allowed_at u p (get_or xs p 0) ≡ false
    → first_stray u (drop p xs) p ≡ opt.Some p
stray_here u xs p h e = at_drop_more (λ l. first_stray u l p) xs p 0 h ∙ cond-false _ _ _ e

-- the first numbered byte that may not stand at its number
flipped : (t : Bool) (a b c : Option ℕ) → a ≡ b → cond (not t) c a ≡ cond t b c
flipped true a b c e = e
flipped false a b c e = refl

by_number : (u : Uses) (xs : List ℕ) (p : ℕ)
    → position_from {K = ℕ × ℕ} (λ x. not (allowed_at u x.0 x.1)) p (enumerate_from p xs) ≡ first_stray u xs p
by_number u [] p = refl
by_number u (x ∷ xs) p = flipped (allowed_at u p x) _ _ _ (by_number u xs (p + 1))

pub by_position : (u : Uses) (xs : List ℕ) → position {X = ℕ × ℕ} (λ x. not (allowed_at u x.0 x.1)) (enumerate_from 0 xs) ≡ first_stray u xs 0
by_position u xs = position_from-zero {B = ℕ × ℕ} (λ x. not (allowed_at u x.0 x.1)) (enumerate_from 0 xs) ∙ by_number u xs 0

kept_on : (t : Bool) (o : Option ℕ) (p : ℕ) → cond t o (opt.Some p) ≡ opt.None → (t ≡ true) × (o ≡ opt.None)
kept_on true o p e = (refl, e)
kept_on false o p e = absurd cc

suc_add_one : (p i : ℕ) → (p + 1) + i ≡ p + suc i
suc_add_one p i = omega arith

-- where nothing is stray, each byte may stand where it is
pub none_stray : (u : Uses) (xs : List ℕ) (p : ℕ) → first_stray u xs p ≡ opt.None → (i : ℕ) → i < length xs
    → allowed_at u (p + i) (get_or xs i 0) ≡ true
none_stray u [] p e i h = absurd (not-suc-le-zero h)
none_stray u (x ∷ xs) p e zero h = rw add-zero (kept_on (allowed_at u p x) _ _ e).0
none_stray u (x ∷ xs) p e (suc i) h =
    rw (← suc_add_one p i)
    (none_stray u xs (p + 1) (kept_on (allowed_at u p x) _ _ e).1 i (le_of_suc-le-suc h))

-- the search from a place on, with the places before it passed
first_from : (u : Uses) (b : List ℕ) (n i p : ℕ) → i + n ≡ length b → first_stray u (drop i b) i ≡ opt.Some p
    → ((j : ℕ) → j < i → allowed_at u j (get_or b j 0) ≡ true) → First u b p
first_from u b zero i p full e before =
    let z = at_drop_all (λ l. first_stray u l i) b i (omega arith) in
    absurd cc
first_from u b (suc n) i p full e before =
    let lt : i < length b = omega arith in
    ⊎_elim
    (λ t. first_from u b n (i + 1) p (omega arith) (sym (stray_more u b i lt t) ∙ e) (below_more _ _ before t))
    (λ f. let q : i ≡ p = cc (stray_here u b i lt f) in
    subst (First u b) q record { within = lt; here = f; before = before })
    (cases_Bool (allowed_at u i (get_or b i 0)))

pub firsts : Firsts
firsts u b p e = first_from u b (length b) 0 p (omega arith) e (λ j h. absurd (omega arith))

-- where each byte may stand where it is, nothing is stray
all_allowed : (u : Uses) (xs : List ℕ) (p : ℕ) → ((i : ℕ) → i < length xs → allowed_at u (p + i) (get_or xs i 0) ≡ true) → first_stray u xs p ≡ opt.None
all_allowed u [] p all = refl
all_allowed u (x ∷ xs) p all =
    cond-true _ _ _ (rw add-zero at (all 0 (omega arith)))
    ∙ all_allowed u xs (p + 1) (λ i h. rw (suc_add_one p i) (all (suc i) (suc-le-suc h)))

-- a field that is used or zero has bytes that may stand where they are
word_allowed : (u : Bool) (b : List ℕ) (at j : ℕ) → (u || eqb (field_at b at) 0) ≡ true → at ≤ j → j < at + 4 → (u || eqb (get_or b j 0) 0) ≡ true
word_allowed true b at j e low high = refl
word_allowed false b at j e low high = grind (arith, nat_tests)

-- the eight fields of a clean frame, one by one
pub record Clean (u : Uses) (b : List ℕ) : Type 0 where
  pub firm : (u.firm || eqb (get_or b 1 0) 0) ≡ true
  pub side : (u.side || eqb (get_or b 2 0) 0) ≡ true
  pub zero : eqb (get_or b 3 0) 0 ≡ true
  pub number : (u.number || eqb (field_at b 4) 0) ≡ true
  pub price : (u.price || eqb (field_at b 8) 0) ≡ true
  pub quantity : (u.quantity || eqb (field_at b 12) 0) ≡ true
  pub minimum : (u.minimum || eqb (field_at b 16) 0) ≡ true
  pub time : (u.time || eqb (field_at b 20) 0) ≡ true

clean_parts : (u : Uses) (b : List ℕ) → clean_fields u b ≡ true → Clean u b
clean_parts u b e =
    let firm : Bool = u.firm || eqb (get_or b 1 0) 0 in
    let side : Bool = u.side || eqb (get_or b 2 0) 0 in
    let both : (firm && side) ≡ true = grind (arith, nat_tests) in
    record {
      firm = (and_parts firm side both).0;
      side = (and_parts firm side both).1;
      zero = grind (arith, nat_tests);
      number = grind (arith, nat_tests);
      price = grind (arith, nat_tests);
      quantity = grind (arith, nat_tests);
      minimum = grind (arith, nat_tests);
      time = grind (arith, nat_tests);
    }

-- one place after another, each by the field that it is in
allowed_in_clean : (u : Uses) (b : List ℕ) → Clean u b → (j : ℕ) → j < 24 → allowed_at u j (get_or b j 0) ≡ true
allowed_in_clean u b c j h =
    let number = word_allowed u.number b 4 j c.number in
    let price = word_allowed u.price b 8 j c.price in
    let quantity = word_allowed u.quantity b 12 j c.quantity in
    let minimum = word_allowed u.minimum b 16 j c.minimum in
    let time = word_allowed u.time b 20 j c.time in
    grind (arith, nat_tests, c.firm, c.side, c.zero)

pub clean_none : (u : Uses) (b : List ℕ) → 24 ≤ length b → clean_fields u b ≡ true → first_stray u (take 24 b) 0 ≡ opt.None
clean_none u b long e =
    all_allowed u (take 24 b) 0
    (λ i h. let small : i < 24 = omega (arith, length-take-le 24 b long) in
    rw (zero-add, get_or-take) (allowed_in_clean u b (clean_parts u b e) i small))
