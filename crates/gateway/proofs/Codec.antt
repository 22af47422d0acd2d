-- Reading and writing agree.
use Rattle.std.proofs.Common.{◌≡◌, ℕ, ◌+◌, ◌*◌, ◌/◌, ◌%◌, ◌<◌, ◌≤◌, Bool, true, false, cond, ◌||◌, eqb, ltb, List, ◌∷◌, length, get_or, take, drop, Ok, Err, Option, Result, sym, refl, ap, ◌∙◌, subst, zero-add, arith}
use Rattle.std.specs.declared.option.Option.TheVariants as opt
use Rattle.std.proofs.lemmas.List.{get_or-take, length-take-le, take_all, length-drop}
use Rattle.std.proofs.lemmas.Bool.{cond-true, cond-false, eq-eqb, le-ltb, eqb-true}
use Rattle.std.proofs.lemmas.Bool.Decides.{nat_tests}
use Rattle.gateway.specs.declared.faults.Fault.{Fault}
use Rattle.gateway.specs.declared.messages.Kind.{Kind}
use Rattle.gateway.specs.declared.messages.Kind.TheVariants as kinds
use Rattle.units.specs.declared.side.Side.{Side}
use Rattle.units.specs.declared.side.Side.TheVariants as sides
use Rattle.gateway.specs.declared.messages.Message.{Message}
use Rattle.gateway.specs.declared.messages.Message.TheVariants.{Order, Withdrawal, ManualRequest, AutoRequest, Answer, Confirmation, Clock}
use Rattle.gateway.specs.Frames.{Fields, kind_code, kind_of, side_code, uses_of, used_at, first_stray, fields_in, clean, kinded, decoded, encoded, meaning}
use Rattle.gateway.specs.Laws.{Bytes, Fit, Rereads, Rewrites}
use Rattle.gateway.proofs.Stray.{none_stray}
use Rattle.gateway.proofs.Words.{reread, kept_is, word_is, drop_quad}

-- a frame that passes the four checks
decoded_ok : (orders : Bool) (place : ℕ) (b : List ℕ) (k : Kind) → length b ≡ 32 → kind_of orders (get_or b 0 0) ≡ opt.Some k
    → first_stray (uses_of k) (take 24 b) 0 ≡ opt.None → get_or b 2 0 ≤ 2 → decoded orders place b ≡ Ok (fields_in k b)
decoded_ok orders place b k len kk none small =
    cond-true _ _ _ (eq-eqb _ _ len)
    ∙ (ap (kinded place b) kk ∙ (ap (clean place b k) none ∙ cond-false _ _ _ (le-ltb _ _ small)))

side_small : (s : Option Side) → side_code s ≤ 2
side_small opt.None = omega arith
side_small (opt.Some sides.Buy) = omega arith
side_small (opt.Some sides.Sell) = omega arith

-- what a frame that reads has passed
ok_of : {A : Type 0} (t : Bool) (x : Result A Fault) (e : Fault) (m : A) → cond t x (Err e) ≡ Ok m → (t ≡ true) × (x ≡ Ok m)
ok_of true x e m h = (refl, h)
ok_of false x e m h = absurd cc

side_ok : (t : Bool) (x m : Fields) (e : Fault) → cond t (Err e) (Ok x) ≡ Ok m → x ≡ m
side_ok true x m e h = absurd cc
side_ok false x m e h = cc

kind_ok : (place : ℕ) (b : List ℕ) (o : Option Kind) (m : Fields) → kinded place b o ≡ Ok m
    → (k : Kind) × (o ≡ opt.Some k) × (clean place b k (first_stray (uses_of k) (take 24 b) 0) ≡ Ok m)
kind_ok place b opt.None m h = absurd cc
kind_ok place b (opt.Some k) m h = (k, refl, h)

clean_ok : (place : ℕ) (b : List ℕ) (k : Kind) (o : Option ℕ) (m : Fields) → clean place b k o ≡ Ok m
    → (o ≡ opt.None) × (fields_in k b ≡ m)
clean_ok place b k (opt.Some at) m h = absurd cc
clean_ok place b k opt.None m h = (refl, side_ok (ltb 2 (get_or b 2 0)) (fields_in k b) m _ h)

-- the code of the kind that a byte stands for is that byte
code_kind : (orders : Bool) (n : ℕ) (k : Kind) → kind_of orders n ≡ opt.Some k → kind_code k ≡ n
code_kind orders n k h = grind (arith, nat_tests)

header_is : (b : List ℕ) (x0 x1 x2 x3 : ℕ) (z : List ℕ) → 4 ≤ length b → x0 ≡ get_or b 0 0 → x1 ≡ get_or b 1 0 → x2 ≡ get_or b 2 0
    → x3 ≡ get_or b 3 0 → z ≡ drop 4 b → x0 ∷ x1 ∷ x2 ∷ x3 ∷ z ≡ b
header_is b x0 x1 x2 x3 z h e0 e1 e2 e3 ez = let d = drop_quad b 0 h in cc

module _ (b : List ℕ) (k : Kind) (len : length b ≡ 32) (small : Bytes b) (none : first_stray (uses_of k) (take 24 b) 0 ≡ opt.None) where
  allowed : (p : ℕ) → p < 24 → (used_at (uses_of k) p || eqb (get_or b p 0) 0) ≡ true
  allowed p h =
      let l : p < length (take 24 b) = omega (arith, length-take-le 24 b (omega arith)) in
      rw (zero-add, get_or-take) at (none_stray (uses_of k) (take 24 b) 0 none p l)

  written : (orders : Bool) → kind_of orders (get_or b 0 0) ≡ opt.Some k → encoded (fields_in k b) ≡ b
  written orders kk =
      header_is b _ _ _ _ _ (omega arith) (code_kind orders (get_or b 0 0) k kk) (kept_is _ _ (allowed 1 (omega arith)))
      (kept_is _ _ (allowed 2 (omega arith))) (kept_is false _ (allowed 3 (omega arith)))
      (word_is (uses_of k).number b 4 small (omega arith) (λ i h. grind (arith, nat_tests, allowed (4 + i) (omega arith))) _
      (word_is (uses_of k).price b 8 small (omega arith) (λ i h. grind (arith, nat_tests, allowed (8 + i) (omega arith))) _
      (word_is (uses_of k).quantity b 12 small (omega arith) (λ i h. grind (arith, nat_tests, allowed (12 + i) (omega arith))) _
      (word_is (uses_of k).minimum b 16 small (omega arith) (λ i h. grind (arith, nat_tests, allowed (16 + i) (omega arith))) _
      (word_is (uses_of k).time b 20 small (omega arith) (λ i h. grind (arith, nat_tests, allowed (20 + i) (omega arith))) _
      (take_all 8 (drop 24 b) (rw length-drop (omega arith))))))))

pub rewrites : Rewrites
rewrites orders place b m small h =
    let p = ok_of (eqb (length b) 32) _ _ m h in
    let q = kind_ok place b (kind_of orders (get_or b 0 0)) m p.1 in
    let r = clean_ok place b q.0 _ m q.2 in
    ap encoded (sym r.1) ∙ written b q.0 (eqb-true _ _ p.0) small r.0 orders q.1

-- the fields of a message, each number written and read again
abbrev again : ℕ → ℕ
again n = n % 256 + n / 256 % 256 * 256 + n / 65536 % 256 * 65536 + n / 16777216 % 256 * 16777216

abbrev whole : Fields → Fields
whole m =
    record {
      kind = m.kind;
      firm = m.firm;
      side = m.side;
      number = again m.number;
      price = again m.price;
      quantity = again m.quantity;
      minimum = again m.minimum;
      time = again m.time;
      reference = take 8 m.reference;
    }

whole_is : (m : Fields) → Fit m → whole m ≡ m
whole_is m fit =
    simp (
      reread m.number fit.number,
      reread m.price fit.price,
      reread m.quantity fit.quantity,
      reread m.minimum fit.minimum,
      reread m.time fit.time,
      take_all 8 m.reference (omega (arith, fit.reference)),
    )

reread_kind : (orders : Bool) (place : ℕ) (m : Fields) (k : Kind) → Fit m → kind_of orders m.kind ≡ opt.Some k → m.side ≤ 2
    → first_stray (uses_of k) (take 24 (encoded m)) 0 ≡ opt.None → fields_in k (encoded m) ≡ whole m → decoded orders place (encoded m) ≡ Ok m
reread_kind orders place m k fit kk small none sh =
    decoded_ok orders place (encoded m) k (omega (arith, fit.reference)) kk none small ∙ ap Ok (sh ∙ whole_is m fit)

-- at each kind the frame computes, but for the values of its numbers
pub rereads : (O : Type 0) (orders : Bool) → Rereads O orders
rereads O orders permitted place (Order o f s p q r) fit = reread_kind orders place _ kinds.Order fit (cond-true _ _ _ (permitted o)) (side_small s) refl refl
rereads O orders permitted place (Withdrawal f n r) fit = reread_kind orders place _ kinds.Withdrawal fit refl (omega arith) refl refl
rereads O orders permitted place (ManualRequest f s q m t r) fit = reread_kind orders place _ kinds.ManualRequest fit refl (side_small s) refl refl
rereads O orders permitted place (AutoRequest f s p q m t r) fit = reread_kind orders place _ kinds.AutoRequest fit refl (side_small s) refl refl
rereads O orders permitted place (Answer f s n p q r) fit = reread_kind orders place _ kinds.Answer fit refl (side_small s) refl refl
rereads O orders permitted place (Confirmation f s n p r) fit = reread_kind orders place _ kinds.Confirmation fit refl (side_small s) refl refl
rereads O orders permitted place (Clock t r) fit = reread_kind orders place _ kinds.Clock fit refl (omega arith) refl refl

-- a frame written of the fields of a message says it again
pub reread_written : (O : Type 0) (orders : Bool) → (O → orders ≡ true) → (place : ℕ) (m : Message O) (w : Fields) (x : List ℕ)
    → x ≡ encoded w → w ≡ meaning m → Fit w → decoded orders place x ≡ Ok (meaning m)
reread_written O orders permitted place m w x e em fit =
    let f : Fit (meaning m) = subst Fit em fit in
    ap (decoded orders place) (e ∙ ap encoded em) ∙ rereads O orders permitted place m f
