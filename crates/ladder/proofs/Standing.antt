-- The offers of a ladder's side: which numbers it has, what is left of each, and what a lowered rung does.
use Rattle.std.proofs.Common.{◌≡◌, ℕ, zero, suc, ◌+◌, ◌-◌, ◌<◌, ◌≤◌, Bool, true, false, cond, not, eqb, List, [], ◌∷◌, length, drop, map, filter, count_by, slice_get, Option, get_or, set, Some, None, sym, refl, ap, ◌∙◌, subst, arith}
use Rattle.std.specs.List.{enumerate_from}
use Rattle.std.specs.Option.{option_map}
use Rattle.std.proofs.lemmas.List.{at_drop_more, at_drop_all}
use Rattle.std.proofs.lemmas.Option.{slice_get-map}
use Rattle.std.proofs.lemmas.List.Sums.{length-filter}
use Rattle.std.proofs.lemmas.Bool.{eq-eqb, ne_eqb, eqb-true, eqb-false, cond_both, cond-true, cond-false, or_from, or_left, or_right, and_parts}
use Rattle.units.specs.declared.side.Side.{Side}
use Rattle.book.specs.declared.Offer.{Offer}
use Rattle.book.specs.Meaning.{has, left_of, taken, numbered, less, in_range}
use Rattle.book.specs.Laws.{all_in_range}
use Rattle.ladder.specs.Rungs.{first_number, rung_price, rung, stands, standing}
use Rattle.book.proofs.Ranges.{range_parts, within_parts}

module _ (s : Side) (f st : ℕ) where
  pub none_below : (k : ℕ) (ls : List ℕ) (n : ℕ) → n < first_number s + k → has (standing s f st k ls) n ≡ false
  none_below k [] n h = refl
  none_below k (l ∷ ls) n h =
      let ih = none_below (k + 1) ls n (omega arith) in
      cond_both (eqb l 0) _ _ (λ z. has z n ≡ false) (λ _. ih) (λ _. or_from _ _ (ne_eqb (first_number s + k) n (λ e. omega arith)) ih)

  pub none_above : (k : ℕ) (ls : List ℕ) (n : ℕ) → first_number s + k + length ls ≤ n → has (standing s f st k ls) n ≡ false
  none_above k [] n h = refl
  none_above k (l ∷ ls) n h =
      let ih = none_above (k + 1) ls n (omega arith) in
      cond_both (eqb l 0) _ _ (λ z. has z n ≡ false) (λ _. ih) (λ _. or_from _ _ (ne_eqb (first_number s + k) n (λ e. omega arith)) ih)

  none_left : (k : ℕ) (ls : List ℕ) (n : ℕ) → n < first_number s + k → left_of (standing s f st k ls) n ≡ 0
  none_left k [] n h = refl
  none_left k (l ∷ ls) n h =
      let ih = none_left (k + 1) ls n (omega arith) in
      cond_both (eqb l 0) _ _ (λ z. left_of z n ≡ 0) (λ _. ih) (λ _. cond-false _ _ _ (ne_eqb (first_number s + k) n (λ e. omega arith)) ∙ ih)

  -- the rung at place i
  pub rung_gone : (k : ℕ) (ls : List ℕ) (i : ℕ) → get_or ls i 0 ≡ 0 → has (standing s f st k ls) (first_number s + (k + i)) ≡ false
  rung_gone k [] i p = refl
  rung_gone k (l ∷ ls) zero p =
      cond_both (eqb l 0) _ _ (λ z. has z (first_number s + (k + 0)) ≡ false) (λ _. none_below (k + 1) ls _ (omega arith)) (λ e. absurd (eqb-false l 0 e p))
  rung_gone k (l ∷ ls) (suc i) p =
      let e : first_number s + (k + 1 + i) ≡ first_number s + (k + suc i) = omega arith in
      let ih : has (standing s f st (k + 1) ls) (first_number s + (k + suc i)) ≡ false = ap (has (standing s f st (k + 1) ls)) (sym e) ∙ rung_gone (k + 1) ls i p in
      cond_both (eqb l 0) _ _ (λ z. has z (first_number s + (k + suc i)) ≡ false) (λ _. ih) (λ _. or_from _ _ (ne_eqb (first_number s + k) (first_number s + (k + suc i)) (λ q. omega arith)) ih)

  pub rung_left : (k : ℕ) (ls : List ℕ) (i : ℕ) → left_of (standing s f st k ls) (first_number s + (k + i)) ≡ get_or ls i 0
  rung_left k [] i = refl
  rung_left k (l ∷ ls) zero =
      cond_both (eqb l 0) _ _ (λ z. left_of z (first_number s + (k + 0)) ≡ l) (λ e. none_left (k + 1) ls _ (omega arith) ∙ sym (eqb-true l 0 e)) (λ _. cond-true _ _ _ (eq-eqb (first_number s + k) (first_number s + (k + 0)) (omega arith)))
  rung_left k (l ∷ ls) (suc i) =
      let e : first_number s + (k + suc i) ≡ first_number s + (k + 1 + i) = omega arith in
      let ih : left_of (standing s f st (k + 1) ls) (first_number s + (k + suc i)) ≡ get_or ls i 0 = ap (left_of (standing s f st (k + 1) ls)) e ∙ rung_left (k + 1) ls i in
      cond_both (eqb l 0) _ _ (λ z. left_of z (first_number s + (k + suc i)) ≡ get_or ls i 0) (λ _. ih) (λ _. cond-false _ _ _ (ne_eqb (first_number s + k) (first_number s + (k + suc i)) (λ q. omega arith)) ∙ ih)

  -- a take of a part, or of all, of the rung at place i
  pub rung_taken : (k : ℕ) (ls : List ℕ) (i a : ℕ) → 0 < get_or ls i 0 → a ≤ get_or ls i 0 → standing s f st k (set ls i (get_or ls i 0 - a)) ≡ taken (standing s f st k ls) (first_number s + (k + i)) a
  rung_taken k [] i a p q = refl
  rung_taken k (l ∷ ls) zero a p q =
      let n : eqb l 0 ≡ false = ne_eqb l 0 (λ e. omega arith) in
      let t : eqb (first_number s + k) (first_number s + (k + 0)) ≡ true = eq-eqb _ _ (omega arith) in
      let right : taken (standing s f st k (l ∷ ls)) (first_number s + (k + 0)) a ≡ cond (eqb l a) (standing s f st (k + 1) ls) (less (rung s f st k l) a ∷ standing s f st (k + 1) ls) =
      ap (λ (z : List Offer). taken z (first_number s + (k + 0)) a) (cond-false (eqb l 0) (standing s f st (k + 1) ls) (rung s f st k l ∷ standing s f st (k + 1) ls) n) ∙ cond-true _ _ _ t in
      let same : eqb (l - a) 0 ≡ eqb l a = tests l a q in
      ap (λ (b : Bool). cond b (standing s f st (k + 1) ls) (rung s f st k (l - a) ∷ standing s f st (k + 1) ls)) same ∙ sym right
    where
      tests : (x y : ℕ) → y ≤ x → eqb (x - y) 0 ≡ eqb x y
      tests x y h = go (eqb x y) refl
        where
          go : (b : Bool) → eqb x y ≡ b → eqb (x - y) 0 ≡ eqb x y
          go true e = let z = eqb-true x y e in eq-eqb (x - y) 0 (omega arith) ∙ sym e
          go false e = let z = eqb-false x y e in ne_eqb (x - y) 0 (λ w. z (omega arith)) ∙ sym e
  rung_taken k (l ∷ ls) (suc i) a p q =
      let xs = standing s f st (k + 1) ls in
      let ys = standing s f st (k + 1) (set ls i (get_or ls i 0 - a)) in
      let r = rung s f st k l in
      let e : first_number s + (k + 1 + i) ≡ first_number s + (k + suc i) = omega arith in
      let ih : ys ≡ taken xs (first_number s + (k + suc i)) a = rung_taken (k + 1) ls i a p q ∙ ap (λ (n : ℕ). taken xs n a) e in
      let ne : numbered (first_number s + (k + suc i)) r ≡ false = ne_eqb (first_number s + k) (first_number s + (k + suc i)) (λ w. omega arith) in
      let here : (b : Bool) → cond b ys (r ∷ ys) ≡ taken (cond b xs (r ∷ xs)) (first_number s + (k + suc i)) a =
      elim [ true ↦ ih | false ↦ ap (λ (z : List Offer). r ∷ z) ih ∙ sym (cond-false _ _ _ ne) ] in
      here (eqb l 0)

  pub rung_has : (k : ℕ) (ls : List ℕ) (i : ℕ) → 0 < get_or ls i 0 → has (standing s f st k ls) (first_number s + (k + i)) ≡ true
  rung_has k [] i p = absurd (omega arith)
  rung_has k (l ∷ ls) zero p =
      cond_both (eqb l 0) _ _ (λ z. has z (first_number s + (k + 0)) ≡ true) (λ e. absurd (let z = eqb-true l 0 e in omega arith)) (λ _. or_left _ _ (eq-eqb (first_number s + k) (first_number s + (k + 0)) (omega arith)))
  rung_has k (l ∷ ls) (suc i) p =
      let e : first_number s + (k + 1 + i) ≡ first_number s + (k + suc i) = omega arith in
      let ih : has (standing s f st (k + 1) ls) (first_number s + (k + suc i)) ≡ true = ap (has (standing s f st (k + 1) ls)) (sym e) ∙ rung_has (k + 1) ls i p in
      cond_both (eqb l 0) _ _ (λ z. has z (first_number s + (k + suc i)) ≡ true) (λ _. ih) (λ _. or_right _ _ ih)

  -- the standing rungs, as the others are left out
  pub standing_is : (k : ℕ) (ls : List ℕ) → standing s f st k ls ≡ map (λ r. rung s f st r.0 r.1) (filter stands (enumerate_from k ls))
  standing_is k [] = refl
  standing_is k (l ∷ ls) = go (eqb l 0) refl (standing_is (k + 1) ls)
    where
      go : (b : Bool) → eqb l 0 ≡ b → standing s f st (k + 1) ls ≡ map (λ r. rung s f st r.0 r.1) (filter stands (enumerate_from (k + 1) ls)) → standing s f st k (l ∷ ls) ≡ map (λ r. rung s f st r.0 r.1) (filter stands (enumerate_from k (l ∷ ls)))
      go true t e = simp t e
      go false t e = simp t (ap (λ (os : List Offer). rung s f st k l ∷ os) e)

  standing_length : (k : ℕ) (ls : List ℕ) → length (standing s f st k ls) ≡ length (filter (λ l. not (eqb l 0)) ls)
  standing_length k [] = refl
  standing_length k (l ∷ ls) = go (eqb l 0) refl (standing_length (k + 1) ls)
    where
      go : (b : Bool) → eqb l 0 ≡ b → length (standing s f st (k + 1) ls) ≡ length (filter (λ l. not (eqb l 0)) ls) → length (standing s f st k (l ∷ ls)) ≡ length (filter (λ l. not (eqb l 0)) (l ∷ ls))
      go true t e = simp t e
      go false t e = simp t (ap suc e)

  pub standing_count : (ls : List ℕ) → count_by (λ l. not (eqb l 0)) ls ≡ length (standing s f st 0 ls)
  standing_count ls = sym (standing_length 0 ls ∙ length-filter (λ l. not (eqb l 0)) ls)

  standing_get : (ls : List ℕ) (place : ℕ) → option_map (λ r. rung s f st r.0 r.1) (slice_get (filter stands (enumerate_from 0 ls)) place) ≡ slice_get (standing s f st 0 ls) place
  standing_get ls place =
      sym (slice_get-map (λ r. rung s f st r.0 r.1) (filter stands (enumerate_from 0 ls)) place) ∙ ap (λ (os : List Offer). slice_get os place) (sym (standing_is 0 ls))

  pub standing_none : (ls : List ℕ) (place : ℕ) → None ≡ slice_get (filter stands (enumerate_from 0 ls)) place → None ≡ slice_get (standing s f st 0 ls) place
  standing_none ls place e = ap (option_map (λ (r : ℕ × ℕ). rung s f st r.0 r.1)) e ∙ standing_get ls place

  pub standing_some : (ls : List ℕ) (place k l : ℕ) → Some (k, l) ≡ slice_get (filter stands (enumerate_from 0 ls)) place → Some (rung s f st k l) ≡ slice_get (standing s f st 0 ls) place
  standing_some ls place k l e = ap (option_map (λ (r : ℕ × ℕ). rung s f st r.0 r.1)) e ∙ standing_get ls place

  -- a price that fits, of a rung in range
  price_small : (lot k l : ℕ) → in_range lot (rung s f st k l) ≡ true → rung_price s f st k ≤ 1000000000
  price_small lot k l h = (within_parts 1 1000000000 (rung_price s f st k) (range_parts lot (rung s f st k l) h).price).1

pub prices : (s : Side) (f st lot k : ℕ) (ls : List ℕ) → all_in_range lot (standing s f st k ls) ≡ true → (i : ℕ) → 0 < get_or ls i 0 → rung_price s f st (k + i) ≤ 1000000000
prices s f st lot k [] h i p = absurd (omega arith)
prices s f st lot k (l ∷ ls) h zero p =
    let n : eqb l 0 ≡ false = ne_eqb l 0 (λ e. omega arith) in
    let g : all_in_range lot (rung s f st k l ∷ standing s f st (k + 1) ls) ≡ true = ap (all_in_range lot) (sym (cond-false (eqb l 0) (standing s f st (k + 1) ls) (rung s f st k l ∷ standing s f st (k + 1) ls) n)) ∙ h in
    let e : k ≡ k + 0 = omega arith in
    subst (λ (j : ℕ). rung_price s f st j ≤ 1000000000) e (price_small s f st lot k l (and_parts (in_range lot (rung s f st k l)) (all_in_range lot (standing s f st (k + 1) ls)) g).0)
prices s f st lot k (l ∷ ls) h (suc i) p =
    let e : k + 1 + i ≡ k + suc i = omega arith in
    subst (λ (j : ℕ). rung_price s f st j ≤ 1000000000) e (prices s f st lot (k + 1) ls (rest (eqb l 0) h) i p)
  where
    rest : (b : Bool) → all_in_range lot (cond b (standing s f st (k + 1) ls) (rung s f st k l ∷ standing s f st (k + 1) ls)) ≡ true → all_in_range lot (standing s f st (k + 1) ls) ≡ true
    rest true q = q
    rest false q = (and_parts (in_range lot (rung s f st k l)) (all_in_range lot (standing s f st (k + 1) ls)) q).1

pub prices_fit : (s : Side) (f st lot : ℕ) (ls : List ℕ) → all_in_range lot (standing s f st 0 ls) ≡ true → (i : ℕ) → 0 < get_or ls i 0 → rung_price s f st i ≤ 1000000000
prices_fit s f st lot ls h i p = let e : 0 + i ≡ i = omega arith in subst (λ (j : ℕ). rung_price s f st j ≤ 1000000000) e (prices s f st lot 0 ls h i p)

-- where a standing rung stands
record Stands (a : ℕ) (ls : List ℕ) (k l : ℕ) : Type 0 where
  at : ℕ
  is : k ≡ a + at
  few : at < length ls
  left : get_or ls at 0 ≡ l
  some : 0 < l

later : (a x : ℕ) (ls : List ℕ) (k l : ℕ) → Stands (a + 1) ls k l → Stands a (x ∷ ls) k l
later a x ls k l p = record { at = suc p.at; is = omega (arith, p.is); few = omega (arith, p.few); left = p.left; some = p.some }

abbrev place_in : Option (ℕ × ℕ) → ℕ
place_in None = 0
place_in (Some r) = r.0

abbrev left_in : Option (ℕ × ℕ) → ℕ
left_in None = 0
left_in (Some r) = r.1

stands_where : (a : ℕ) (ls : List ℕ) (place k l : ℕ) → Some (k, l) ≡ slice_get (filter stands (enumerate_from a ls)) place → Stands a ls k l
stands_where a [] place k l e = let z : ◌≡◌ {A = ℕ} 0 1 = cc in absurd (omega arith)
stands_where a (x ∷ ls) place k l e = go (eqb x 0) refl place e (λ p. stands_where (a + 1) ls p k l)
  where
    go : (b : Bool) → eqb x 0 ≡ b → (place : ℕ) → Some (k, l) ≡ slice_get (filter stands (enumerate_from a (x ∷ ls))) place → ((p : ℕ) → Some (k, l) ≡ slice_get (filter stands (enumerate_from (a + 1) ls)) p → Stands (a + 1) ls k l) → Stands a (x ∷ ls) k l
    go true t place e r = later a x ls k l (r place (simp t at e))
    go false t zero e r =
        let q = simp t at e in
        let p : k ≡ a = ap place_in q in
        let w : x ≡ l = ap left_in (sym q) in
        let z = eqb-false x 0 t in
        record { at = 0; is = omega (arith, p); few = omega arith; left = w; some = omega (arith, w, z) }
    go false t (suc place) e r = later a x ls k l (r place (simp t at e))

pub stands_few : (ls : List ℕ) (place k l : ℕ) → Some (k, l) ≡ slice_get (filter stands (enumerate_from 0 ls)) place → k < length ls
stands_few ls place k l e = let p = stands_where 0 ls place k l e in omega (arith, p.is, p.few)

pub stands_some : (ls : List ℕ) (place k l : ℕ) → Some (k, l) ≡ slice_get (filter stands (enumerate_from 0 ls)) place → 0 < get_or ls k 0
stands_some ls place k l e =
    let p = stands_where 0 ls place k l e in
    let q : p.at ≡ k = omega (arith, p.is) in
    let w : get_or ls k 0 ≡ l = ap (λ (i : ℕ). get_or ls i 0) (sym q) ∙ p.left in
    omega (arith, w, p.some)

-- the loop that looks for the rung at a place: what stands from rung i on, and how many rungs to pass over
abbrev pub standing_from : List ℕ → ℕ → ℕ → Option (ℕ × ℕ)
standing_from ls i skip = slice_get (filter stands (enumerate_from i (drop i ls))) skip

live_first : (i x : ℕ) (xs : List ℕ) → (x ≡ 0 → ⊥) → filter stands (enumerate_from i (x ∷ xs)) ≡ (i, x) ∷ filter stands (enumerate_from (i + 1) xs)
live_first i x xs h = cond-true (not (eqb x 0)) _ _ (ap not (ne_eqb x 0 h))

gone_first : (i x : ℕ) (xs : List ℕ) → x ≡ 0 → filter stands (enumerate_from i (x ∷ xs)) ≡ filter stands (enumerate_from (i + 1) xs)
gone_first i x xs h = cond-false (not (eqb x 0)) _ _ (ap not (eq-eqb x 0 h))

past_first : (r : ℕ × ℕ) (rs : List (ℕ × ℕ)) (skip : ℕ) → (skip ≡ 0 → ⊥) → slice_get rs (skip - 1) ≡ slice_get (r ∷ rs) skip
past_first r rs zero h = absurd (h refl)
past_first r rs (suc skip) h = ap (slice_get rs) (omega arith)

module _ (ls : List ℕ) (i skip : ℕ) (w : i < length ls) where
  turned : filter stands (enumerate_from i (drop i ls)) ≡ filter stands (enumerate_from i (get_or ls i 0 ∷ drop (i + 1) ls))
  turned = at_drop_more (λ xs. filter stands (enumerate_from i xs)) ls i 0 w

  pub look_found : (get_or ls i 0 ≡ 0 → ⊥) → skip ≡ 0 → Some (i, get_or ls i 0) ≡ standing_from ls i skip
  look_found h e = sym (ap (standing_from ls i) e ∙ ap (λ rs. slice_get rs 0) (turned ∙ live_first i (get_or ls i 0) (drop (i + 1) ls) h))

  pub look_past : (get_or ls i 0 ≡ 0 → ⊥) → (skip ≡ 0 → ⊥) → standing_from ls (i + 1) (skip - 1) ≡ standing_from ls i skip
  look_past h e =
      past_first (i, get_or ls i 0) _ skip e ∙ ap (λ rs. slice_get rs skip) (sym (turned ∙ live_first i (get_or ls i 0) (drop (i + 1) ls) h))

  pub look_over : get_or ls i 0 ≡ 0 → standing_from ls (i + 1) skip ≡ standing_from ls i skip
  look_over h = ap (λ rs. slice_get rs skip) (sym (turned ∙ gone_first i (get_or ls i 0) (drop (i + 1) ls) h))

pub look_end : (ls : List ℕ) (i skip : ℕ) → length ls ≤ i → None ≡ standing_from ls i skip
look_end ls i skip l = sym (at_drop_all (λ xs. slice_get (filter stands (enumerate_from i xs)) skip) ls i l)

-- the rung of a number that stands
module _ (s : Side) (f st : ℕ) (ls : List ℕ) (k n : ℕ) (is : first_number s + k ≡ n) where
  at_n : first_number s + (0 + k) ≡ n
  at_n = omega arith

  pub left_is : left_of (standing s f st 0 ls) n ≡ get_or ls k 0
  left_is = ap (left_of (standing s f st 0 ls)) (sym at_n) ∙ rung_left s f st 0 ls k

  pub has_is : 0 < get_or ls k 0 → has (standing s f st 0 ls) n ≡ true
  has_is p = ap (has (standing s f st 0 ls)) (sym at_n) ∙ rung_has s f st 0 ls k p

  pub gone_is : get_or ls k 0 ≡ 0 → has (standing s f st 0 ls) n ≡ false
  gone_is p = ap (has (standing s f st 0 ls)) (sym at_n) ∙ rung_gone s f st 0 ls k p

  pub lowered : (a : ℕ) → 0 < get_or ls k 0 → a ≤ get_or ls k 0 → standing s f st 0 (set ls k (get_or ls k 0 - a)) ≡ taken (standing s f st 0 ls) n a
  lowered a p q = rung_taken s f st 0 ls k a p q ∙ ap (λ (m : ℕ). taken (standing s f st 0 ls) m a) at_n
