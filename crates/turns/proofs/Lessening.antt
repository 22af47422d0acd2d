-- A loop that lessens a table in place.
use Rattle.std.proofs.Common.{◌≡◌, ℕ, ◌+◌, ◌<◌, ◌≤◌, cond, ltb, List, [], ◌∷◌, ◌++◌, length, get_or, take, drop, set, sym, refl, ap, ◌∙◌, subst, append-nil, arith, length-set}
use Rattle.std.proofs.lemmas.List.{take_all, take_more, take_more_set, drop-set-lt, drop-drop, drop_more}
use Rattle.std.proofs.lemmas.Bool.{cond-true, cond-false, lt-ltb, le-ltb}
use Rattle.rules.specs.declared.reports.Report.{Report}
use Rattle.rules.specs.State.{Kept}
use Rattle.rules.specs.Reports.{remain, rest}
use Rattle.rules.proofs.Left.{remain_append}

-- what the reports leave of the first i of xs stands in the first k places of ys, and from i on ys is as it was
pub record Lessening {X : Type 0} (w : Kept X) (rs : List Report) (xs ys : List X) (k i : ℕ) : Type 0 where
  pub front : take k ys ≡ remain w rs (take i xs)
  pub behind : drop i ys ≡ drop i xs
  pub few : k ≤ i
  pub long : length ys ≡ length xs

module _ {X : Type 0} (w : Kept X) (rs : List Report) (xs ys : List X) (k i : ℕ) (x : X) (m : ℕ) where
  remain_one : remain w rs (x ∷ []) ≡ cond (ltb 0 (rest w rs x)) (w.with_left x (rest w rs x) ∷ []) []
  unfolding remain
  remain_one = refl

  module _ (t : Lessening w rs xs ys k i) (l : i < length ys) (is : x ≡ get_or ys i x) (q : m ≡ rest w rs x) where
    same : get_or xs i x ≡ x
    same =
        let a = drop_more ys i x l in
        let b = drop_more xs i x (let e = t.long in omega arith) in
        let e : get_or ys i x ∷ drop (i + 1) ys ≡ get_or xs i x ∷ drop (i + 1) xs = sym a ∙ (t.behind ∙ b) in
        let f : get_or ys i x ≡ get_or xs i x = cc in
        sym f ∙ sym is

    later : drop (i + 1) ys ≡ drop (i + 1) xs
    later = sym (drop-drop 1 i ys) ∙ (ap (λ (v : List X). drop 1 v) t.behind ∙ drop-drop 1 i xs)

    one : remain w rs (take (i + 1) xs) ≡ take k ys ++ remain w rs (x ∷ [])
    one =
        ap (remain w rs) (take_more xs i x (let e = t.long in omega arith) ∙ ap (λ (y : X). take i xs ++ y ∷ []) same)
        ∙ (remain_append w rs (take i xs) (x ∷ []) ∙ ap (λ (v : List X). v ++ remain w rs (x ∷ [])) (sym t.front))

    pub lessening_none : m ≤ 0 → Lessening w rs xs ys k (i + 1)
    lessening_none z =
        let f = t.few in
        record {
          front = sym (one ∙ (ap (λ (v : List X). take k ys ++ v) (remain_one ∙ cond-false _ _ _ (le-ltb 0 (rest w rs x) (omega arith))) ∙ append-nil (take k ys)));
          behind = later;
          few = omega arith;
          long = t.long;
        }

    pub lessening_some : 0 < m → Lessening w rs xs (set ys k (w.with_left x m)) (k + 1) (i + 1)
    lessening_some z =
        let f = t.few in
        record {
          front =
              take_more_set ys k (w.with_left x m) (omega arith)
              ∙ (ap (λ (n : ℕ). take k ys ++ w.with_left x n ∷ []) q
              ∙ sym (one ∙ ap (λ (v : List X). take k ys ++ v) (remain_one ∙ cond-true _ _ _ (lt-ltb 0 (rest w rs x) (omega arith)))));
          behind = drop-set-lt (i + 1) ys k (w.with_left x m) (omega arith) ∙ later;
          few = omega arith;
          long = length-set ys k (w.with_left x m) ∙ t.long;
        }

pub lessening_start : {X : Type 0} (w : Kept X) (rs : List Report) (xs : List X) → Lessening w rs xs xs 0 0
unfolding remain
lessening_start w rs xs = record { front = refl; behind = refl; few = omega arith; long = refl }

pub lessening_at : {X : Type 0} {w : Kept X} {rs : List Report} {xs ys zs : List X} {k j i : ℕ} → zs ≡ ys → j ≡ k → Lessening w rs xs ys k i → Lessening w rs xs zs j i
lessening_at {X} {w} {rs} {xs} {ys} {zs} {k} {j} {i} e f t = subst (λ (v : List X). Lessening w rs xs v j i) (sym e) (subst (λ (n : ℕ). Lessening w rs xs ys n i) (sym f) t)

-- what the reports leave of all places
pub lessening_all : {X : Type 0} {w : Kept X} {rs : List Report} {xs ys : List X} {k i : ℕ} → Lessening w rs xs ys k i → length xs ≤ i → take k ys ≡ remain w rs xs
lessening_all {X} {w} {rs} {xs} {ys} {k} {i} t l = t.front ∙ ap (remain w rs) (take_all i xs l)
