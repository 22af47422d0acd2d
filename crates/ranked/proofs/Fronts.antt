-- Writing over the front of a list: nothing, one more, and one writing behind another.
use Rattle.std.proofs.Common.{◌≡◌, ℕ, ◌+◌, ◌-◌, ◌<◌, List, [], ◌∷◌, ◌++◌, length, take, drop, set, sym, refl, ap, ◌∙◌, subst, append_assoc, arith, length-append, length-drop}
use Rattle.std.proofs.lemmas.List.{set-append_right, drop-set, drop-set-add, drop-drop}
use Rattle.std.proofs.Math.Seq.{drop-append_seam, take-append_seam}
use Rattle.ranked.specs.Writes.{WritesFront}

pub front_none : {X : Type 0} (old : List X) → WritesFront old old 0 []
front_none old = record { items = refl; count = refl; within = omega arith }

-- what lies in front of the rest, and the rest
pub front_items : {X : Type 0} {old new : List X} {n : ℕ} {xs : List X} → WritesFront old new n xs → take n new ≡ xs
front_items {X} {old} {new} {n} {xs} w = ap (λ (v : List X). take n v) w.items ∙ (ap (λ (k : ℕ). take k (xs ++ drop n old)) w.count ∙ take-append_seam xs (drop n old))

pub front_rest : {X : Type 0} {old new : List X} {n : ℕ} {xs : List X} → WritesFront old new n xs → drop n new ≡ drop n old
front_rest {X} {old} {new} {n} {xs} w = ap (λ (v : List X). drop n v) w.items ∙ (ap (λ (k : ℕ). drop k (xs ++ drop n old)) w.count ∙ drop-append_seam xs (drop n old))

pub front_long : {X : Type 0} {old new : List X} {n : ℕ} {xs : List X} → WritesFront old new n xs → length new ≡ length old
front_long {X} {old} {new} {n} {xs} w =
    let c = w.count in
    let l = w.within in
    let e = ap (λ (v : List X). length v) w.items in
    let f = length-append xs (drop n old) in
    let g = length-drop n old in
    omega arith

-- one more
pub front_more : {X : Type 0} {old new : List X} {n : ℕ} {xs : List X} (x : X) → WritesFront old new n xs → n < length old → WritesFront old (set new n x) (n + 1) (xs ++ x ∷ [])
front_more {X} {old} {new} {n} {xs} x w l =
    let c = w.count in
    record {
      items = ap (λ (v : List X). set v n x) w.items ∙ (set-append_right xs (drop n old) n n x (sym c) (omega arith) ∙ (ap (λ (v : List X). xs ++ v) first ∙ sym (append_assoc xs (x ∷ []) (drop (n + 1) old))));
      count = (let e = length-append xs (x ∷ []) in omega arith);
      within = omega arith;
    }
  where
    first : set (drop n old) (n - n) x ≡ x ∷ drop (n + 1) old
    first =
        let z : n - n ≡ 0 = omega arith in
        let i : n + 0 ≡ n = omega arith in
        ap (λ (k : ℕ). set (drop n old) k x) z ∙ (sym (drop-set-add n old 0 x) ∙ (ap (λ (k : ℕ). drop n (set old k x)) i ∙ drop-set old n x l))

-- first the ones, then the others behind them
pub front_then : {X : Type 0} {old mid rest : List X} {m n : ℕ} {xs ys : List X} → WritesFront old mid n xs → WritesFront (drop n mid) rest m ys → WritesFront old (take n mid ++ rest) (n + m) (xs ++ ys)
front_then {X} {old} {mid} {rest} {m} {n} {xs} {ys} v w =
    let p = v.count in
    let q = w.count in
    let i = v.within in
    let j = w.within in
    let k = ap (λ (z : List X). length z) (front_rest v) in
    let g = length-drop n old in
    record {
      items = ap (λ (z : List X). z ++ rest) (front_items v) ∙ (ap (λ (z : List X). xs ++ z) (w.items ∙ ap (λ (z : List X). ys ++ z) later) ∙ sym (append_assoc xs ys (drop (n + m) old)));
      count = (let e = length-append xs ys in omega arith);
      within = omega arith;
    }
  where
    later : drop m (drop n mid) ≡ drop (n + m) old
    later = ap (λ (z : List X). drop m z) (front_rest v) ∙ drop-drop m n old

pub front_as : {X : Type 0} {old new : List X} {n : ℕ} {xs ys : List X} → xs ≡ ys → WritesFront old new n xs → WritesFront old new n ys
front_as {X} {old} {new} {n} e w = subst (WritesFront old new n) e w
