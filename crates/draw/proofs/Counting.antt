-- Counting different firms by the last answer of each.
use Rattle.std.proofs.Common.{◌≡◌, ℕ, ◌+◌, Bool, cond, not, ◌&&◌, ◌||◌, eqb, List, [], ◌∷◌, length, drop, count_by, filter, sym, refl, ap, ap₂, ◌∙◌, arith}
use Rattle.std.specs.List.{between, enumerate_from, list_any}
use Rattle.std.proofs.lemmas.List.{drop-drop}
use Rattle.std.proofs.lemmas.Slice.{between_to_end}
use Rattle.std.proofs.lemmas.List.Sums.{sum_by-cons, length-filter}
use Rattle.draw.specs.Firms.{firms_of, among, once, different, EachOnce}

module _ {X : Type 0} (firm : X → ℕ) (request : X → ℕ) (n : ℕ) where
  abbrev fs : List X → List ℕ
  fs xs = firms_of firm request n xs

  among_cons : (f : ℕ) (x : X) (xs : List X) → among f (fs (x ∷ xs)) ≡ ((eqb (request x) n && eqb (firm x) f) || among f (fs xs))
  among_cons f x xs = grind arith

  pub among_any : (f : ℕ) (xs : List X) → among f (fs xs) ≡ list_any (λ x. eqb (request x) n && eqb (firm x) f) xs
  among_any f [] = refl
  among_any f (x ∷ xs) = let ih = among_any f xs in let c = among_cons f x xs in grind arith

  different_cons : (x : X) (xs : List X) → different (fs (x ∷ xs)) ≡ cond (eqb (request x) n && not (among (firm x) (fs xs))) 1 0 + different (fs xs)
  different_cons x xs = grind arith

  -- whether the answer at a place is the last that its firm gives to the request
  abbrev pub is_last : List X → ℕ × X → Bool
  is_last xs p = eqb (request p.1) n && not (among (firm p.1) (fs (between (p.0 + 1) (length xs) xs)))

  last_from : (xs ys : List X) (i : ℕ) → drop i xs ≡ ys → length (filter (is_last xs) (enumerate_from i ys)) ≡ different (fs ys)
  last_from xs [] i e = refl
  last_from xs (y ∷ ys) i e =
      let later : drop (i + 1) xs ≡ ys = sym (drop-drop 1 i xs) ∙ ap (drop 1) e in
      let more = last_from xs ys (i + 1) later in
      let here : is_last xs (i, y) ≡ (eqb (request y) n && not (among (firm y) (fs ys))) = ap (λ v. eqb (request y) n && not (among (firm y) (fs v))) (between_to_end xs (i + 1) (length xs) (omega arith) ∙ later) in
      length-filter (is_last xs) (enumerate_from i (y ∷ ys)) ∙ (sum_by-cons (λ p. cond (is_last xs p) 1 0) (i, y) (enumerate_from (i + 1) ys)
      ∙ (ap₂ (λ (b : Bool) (k : ℕ). cond b 1 0 + k) here (sym (length-filter (is_last xs) (enumerate_from (i + 1) ys)) ∙ more) ∙ sym (different_cons y ys)))

  pub different_last : (xs : List X) → length (filter (is_last xs) (enumerate_from 0 xs)) ≡ different (fs xs)
  different_last xs = last_from xs xs 0 refl

pub each_once : (fs : List ℕ) → EachOnce fs
each_once [] f = refl
each_once (g ∷ gs) f = go (among g gs) (eqb g f) refl refl (each_once gs f)
  where
    go : (b e : Bool) → among g gs ≡ b → eqb g f ≡ e → count_by (λ h. eqb h f) (once gs) ≡ cond (among f gs) 1 0 → count_by (λ h. eqb h f) (cond b (once gs) (g ∷ once gs)) ≡ cond (e || among f gs) 1 0
    go b e p q ih = let c = sum_by-cons (λ h. cond (eqb h f) 1 0) g (once gs) in grind arith
