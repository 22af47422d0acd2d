-- A book of two parts, one behind the other: what each answer on the parts is on the whole.
use Rattle.std.proofs.Common.{◌≡◌, ℕ, zero, suc, ◌+◌, ◌-◌, ◌<◌, ◌≤◌, Bool, true, false, cond, Result, not, ◌&&◌, ◌||◌, eqb, ltb, leb, List, [], ◌∷◌, ◌++◌, length, slice_get, sym, refl, ap, ◌∙◌, ⊎_elim, arith}
use Rattle.std.proofs.lemmas.List.{append_assoc, append-nil, length-append}
use Rattle.std.proofs.lemmas.Bool.{eqb-true, le-ltb, lt-ltb, and_left, and_right, and_parts, or_left, or_right, or_parts, or_cases, cond-true, cond-false, cond_both, not-true, not_from_true, both_ways, cases_Bool}
use Rattle.units.specs.declared.side.Side.{Side}
use Rattle.units.specs.declared.side.Side.TheVariants.{Buy, Sell}
use Rattle.book.specs.declared.Offer.{Offer}
use Rattle.book.specs.Meaning.{Meaning, meaning_of, when, enter_result, side_of, with_side, numbered, has, left_of, taken, without, lots, list_takes, in_range, can_take, after_take, can_enter, after_enter, after_remove}
use Rattle.book.specs.declared.Refused.{Refused}
use Rattle.book.specs.Laws.{distinct, sound}
use Rattle.kept.specs.Kept.{empty_book}
use Rattle.mixed.specs.Joined.{joined}
use Rattle.book.proofs.Sound.{side_distinct, sound_after_take, sound_after_enter, sound_after_remove}

-- Lists

pub has_front : (xs ys : List Offer) (n : ℕ) → has xs n ≡ true → has (xs ++ ys) n ≡ true
has_front [] ys n h = absurd (both_ways false refl h)
has_front (x ∷ xs) ys n h = go (numbered n x) refl (has_front xs ys n)
  where
    go : (b : Bool) → numbered n x ≡ b → (has xs n ≡ true → has (xs ++ ys) n ≡ true) → has (x ∷ xs ++ ys) n ≡ true
    go true t r = or_left _ _ t
    go false t r = or_right _ _ (r (simp t at h))

pub has_back : (xs ys : List Offer) (n : ℕ) → has xs n ≡ false → has (xs ++ ys) n ≡ has ys n
has_back [] ys n h = refl
has_back (x ∷ xs) ys n h = let p = or_parts (numbered n x) (has xs n) h in simp p.0 (has_back xs ys n p.1)

left_front : (xs ys : List Offer) (n : ℕ) → has xs n ≡ true → left_of (xs ++ ys) n ≡ left_of xs n
left_front [] ys n h = absurd (both_ways false refl h)
left_front (x ∷ xs) ys n h = go (numbered n x) refl (left_front xs ys n)
  where
    go : (b : Bool) → numbered n x ≡ b → (has xs n ≡ true → left_of (xs ++ ys) n ≡ left_of xs n) → left_of (x ∷ xs ++ ys) n ≡ left_of (x ∷ xs) n
    go true t r = simp t
    go false t r = simp t (r (simp t at h))

left_back : (xs ys : List Offer) (n : ℕ) → has xs n ≡ false → left_of (xs ++ ys) n ≡ left_of ys n
left_back [] ys n h = refl
left_back (x ∷ xs) ys n h = let p = or_parts (numbered n x) (has xs n) h in simp p.0 (left_back xs ys n p.1)

taken_front : (xs ys : List Offer) (n a : ℕ) → has xs n ≡ true → taken (xs ++ ys) n a ≡ taken xs n a ++ ys
taken_front [] ys n a h = absurd (both_ways false refl h)
taken_front (x ∷ xs) ys n a h = go (numbered n x) refl (eqb x.left.0 a) refl (taken_front xs ys n a)
  where
    go : (b : Bool) → numbered n x ≡ b → (e : Bool) → eqb x.left.0 a ≡ e → (has xs n ≡ true → taken (xs ++ ys) n a ≡ taken xs n a ++ ys) → taken (x ∷ xs ++ ys) n a ≡ taken (x ∷ xs) n a ++ ys
    go true t true u r = simp (t, u)
    go true t false u r = simp (t, u)
    go false t e u r = simp (t, r (simp t at h))

taken_back : (xs ys : List Offer) (n a : ℕ) → has xs n ≡ false → taken (xs ++ ys) n a ≡ xs ++ taken ys n a
taken_back [] ys n a h = refl
taken_back (x ∷ xs) ys n a h = let p = or_parts (numbered n x) (has xs n) h in simp (p.0, taken_back xs ys n a p.1)

without_front : (xs ys : List Offer) (n : ℕ) → has xs n ≡ true → without (xs ++ ys) n ≡ without xs n ++ ys
without_front [] ys n h = absurd (both_ways false refl h)
without_front (x ∷ xs) ys n h = go (numbered n x) refl (without_front xs ys n)
  where
    go : (b : Bool) → numbered n x ≡ b → (has xs n ≡ true → without (xs ++ ys) n ≡ without xs n ++ ys) → without (x ∷ xs ++ ys) n ≡ without (x ∷ xs) n ++ ys
    go true t r = simp t
    go false t r = simp (t, r (simp t at h))

without_back : (xs ys : List Offer) (n : ℕ) → has xs n ≡ false → without (xs ++ ys) n ≡ xs ++ without ys n
without_back [] ys n h = refl
without_back (x ∷ xs) ys n h = let p = or_parts (numbered n x) (has xs n) h in simp (p.0, without_back xs ys n p.1)

-- a number of the first part is none of the second
only_front : (xs ys : List Offer) (n : ℕ) → distinct (xs ++ ys) ≡ true → has xs n ≡ true → has ys n ≡ false
only_front [] ys n d h = absurd (both_ways false refl h)
only_front (x ∷ xs) ys n d h = go (numbered n x) refl (only_front xs ys n)
  where
    p : (not (has (xs ++ ys) x.number.0) ≡ true) × (distinct (xs ++ ys) ≡ true)
    p = and_parts (not (has (xs ++ ys) x.number.0)) (distinct (xs ++ ys)) d

    here : numbered n x ≡ true → has (xs ++ ys) n ≡ false
    here t = ap (has (xs ++ ys)) (sym (eqb-true x.number.0 n t)) ∙ not-true _ p.0

    go : (b : Bool) → numbered n x ≡ b → (distinct (xs ++ ys) ≡ true → has xs n ≡ true → has ys n ≡ false) → has ys n ≡ false
    go true t r = ⊎_elim (λ e. absurd (both_ways _ (here t) (has_front xs ys n e))) (λ e. sym (has_back xs ys n e) ∙ here t) (cases_Bool (has xs n))
    go false t r = r p.1 (simp t at h)

pub place_front : (xs ys : List Offer) (k : ℕ) → k < length xs → slice_get xs k ≡ slice_get (xs ++ ys) k
place_front [] ys k w = absurd (omega arith)
place_front (x ∷ xs) ys zero w = refl
place_front (x ∷ xs) ys (suc k) w = place_front xs ys k (omega arith)

pub place_back : (xs ys : List Offer) (k : ℕ) → length xs ≤ k → slice_get ys (k - length xs) ≡ slice_get (xs ++ ys) k
place_back [] ys k w = ap (slice_get ys) (omega arith)
place_back (x ∷ xs) ys zero w = absurd (omega arith)
place_back (x ∷ xs) ys (suc k) w = let e : suc k - length (x ∷ xs) ≡ k - length xs = omega arith in ap (slice_get ys) e ∙ place_back xs ys k (omega arith)

takes_front : (lot : ℕ) (xs ys : List Offer) (n a : ℕ) → has xs n ≡ true → list_takes lot (xs ++ ys) n a ≡ list_takes lot xs n a
takes_front lot xs ys n a h = simp (h, has_front xs ys n h, left_front xs ys n h)

takes_back : (lot : ℕ) (xs ys : List Offer) (n a : ℕ) → has xs n ≡ false → list_takes lot (xs ++ ys) n a ≡ list_takes lot ys n a
takes_back lot xs ys n a h = simp (has_back xs ys n h, left_back xs ys n h)

-- Books

module _ (m n : Meaning) where
  pub joined_count : (s : Side) → length (side_of (joined m n) s) ≡ length (side_of m s) + length (side_of n s)
  joined_count Buy = length-append m.buys n.buys
  joined_count Sell = length-append m.sells n.sells

  pub joined_front : (s : Side) (k : ℕ) → k < length (side_of m s) → slice_get (side_of m s) k ≡ slice_get (side_of (joined m n) s) k
  joined_front Buy k w = place_front m.buys n.buys k w
  joined_front Sell k w = place_front m.sells n.sells k w

  pub joined_back : (s : Side) (k : ℕ) → length (side_of m s) ≤ k → slice_get (side_of n s) (k - length (side_of m s)) ≡ slice_get (side_of (joined m n) s) k
  joined_back Buy k w = place_back m.buys n.buys k w
  joined_back Sell k w = place_back m.sells n.sells k w

  -- the whole with another front, or another back, of one side
  front : (s : Side) (os : List Offer) → joined (with_side m s os) n ≡ with_side (joined m n) s (os ++ side_of n s)
  front Buy os = refl
  front Sell os = refl

  back : (s : Side) (os : List Offer) → joined m (with_side n s os) ≡ with_side (joined m n) s (side_of m s ++ os)
  back Buy os = refl
  back Sell os = refl

lot_with : (m : Meaning) (s : Side) (os : List Offer) → (with_side m s os).lot ≡ m.lot
lot_with m Buy os = refl
lot_with m Sell os = refl

pub lot_after_take : (m : Meaning) (s : Side) (k a : ℕ) → (after_take m s k a).lot ≡ m.lot
lot_after_take m s k a = cond_both (can_take m s k a) _ _ (λ (z : Meaning). z.lot ≡ m.lot) (λ _. lot_with m s _) (λ _. refl)

pub lot_after_enter : (most : ℕ) (m : Meaning) (s : Side) (o : Offer) → (after_enter most m s o).lot ≡ m.lot
lot_after_enter most m s o = cond_both (can_enter most m s o) _ _ (λ (z : Meaning). z.lot ≡ m.lot) (λ _. lot_with m s _) (λ _. refl)

pub lot_after_remove : (m : Meaning) (s : Side) (k : ℕ) → (after_remove m s k).lot ≡ m.lot
lot_after_remove m s k = cond_both (has (side_of m s) k) _ _ (λ (z : Meaning). z.lot ≡ m.lot) (λ _. lot_with m s _) (λ _. refl)

-- the whole where the second part is empty
pub joined_empty : (m n : Meaning) → n ≡ empty_book m.lot → joined m n ≡ m
joined_empty m n e =
    ap (joined m) e
    ∙ ap (λ (os : List Offer). meaning_of os (m.sells ++ []) m.lot) (append-nil m.buys)
    ∙ ap (λ (os : List Offer). meaning_of m.buys os m.lot) (append-nil m.sells)

-- Takes, entries and removals: on the first part if it has the number, else on the second
module _ (m n : Meaning) (same : m.lot ≡ n.lot) (h : sound 128 (joined m n) ≡ true) where
  sides_apart : (s : Side) → distinct (side_of m s ++ side_of n s) ≡ true
  sides_apart Buy = side_distinct 128 (joined m n) Buy h
  sides_apart Sell = side_distinct 128 (joined m n) Sell h

  -- the whole's answers, in terms of its parts
  whole_can_take : (s : Side) (k a : ℕ) → can_take (joined m n) s k a ≡ list_takes m.lot (side_of m s ++ side_of n s) k a
  whole_can_take Buy k a = refl
  whole_can_take Sell k a = refl

  whole_take : (s : Side) (k a : ℕ) → after_take (joined m n) s k a ≡ cond (list_takes m.lot (side_of m s ++ side_of n s) k a) (with_side (joined m n) s (taken (side_of m s ++ side_of n s) k a)) (joined m n)
  whole_take Buy k a = refl
  whole_take Sell k a = refl

  whole_has : (s : Side) (k : ℕ) → has (side_of (joined m n) s) k ≡ has (side_of m s ++ side_of n s) k
  whole_has Buy k = refl
  whole_has Sell k = refl

  whole_remove : (s : Side) (k : ℕ) → after_remove (joined m n) s k ≡ cond (has (side_of m s ++ side_of n s) k) (with_side (joined m n) s (without (side_of m s ++ side_of n s) k)) (joined m n)
  whole_remove Buy k = refl
  whole_remove Sell k = refl

  whole_enter : (s : Side) (o : Offer) → after_enter 128 (joined m n) s o ≡ cond (can_enter 128 (joined m n) s o) (with_side (joined m n) s ((side_of m s ++ side_of n s) ++ o ∷ [])) (joined m n)
  whole_enter Buy o = refl
  whole_enter Sell o = refl

  -- a number of the second part is none of the first
  only_back : (s : Side) (k : ℕ) → has (side_of n s) k ≡ true → has (side_of m s) k ≡ false
  only_back s k t = ⊎_elim (λ e. absurd (both_ways _ (only_front (side_of m s) (side_of n s) k (sides_apart s) e) t)) (λ e. e) (cases_Bool (has (side_of m s) k))

  pub take_front : (s : Side) (k a : ℕ) (m' : Meaning) → can_take m s k a ≡ true → m' ≡ after_take m s k a → (can_take (joined m n) s k a ≡ true) × (joined m' n ≡ after_take (joined m n) s k a)
  take_front s k a m' t e =
      let xs = side_of m s in
      let ys = side_of n s in
      let p : has xs k ≡ true = (and_parts (has xs k) (lots m.lot a && leb a (left_of xs k)) t).0 in
      let c : list_takes m.lot (xs ++ ys) k a ≡ true = takes_front m.lot xs ys k a p ∙ t in (
        whole_can_take s k a ∙ c,
        ap (λ (z : Meaning). joined z n) (e ∙ cond-true (can_take m s k a) (with_side m s (taken xs k a)) m t)
            ∙ front m n s (taken xs k a)
            ∙ ap (with_side (joined m n) s) (sym (taken_front xs ys k a p))
            ∙ sym (cond-true (list_takes m.lot (xs ++ ys) k a) (with_side (joined m n) s (taken (xs ++ ys) k a)) (joined m n) c)
            ∙ sym (whole_take s k a),
      )

  back_takes : (s : Side) (k a : ℕ) → can_take m s k a ≡ false → list_takes m.lot (side_of m s ++ side_of n s) k a ≡ can_take n s k a
  back_takes s k a f =
      let xs = side_of m s in
      let ys = side_of n s in
      ⊎_elim
      (λ p. takes_front m.lot xs ys k a p ∙ f ∙ sym (and_left (has ys k) (lots n.lot a && leb a (left_of ys k)) (only_front xs ys k (sides_apart s) p)))
      (λ p. takes_back m.lot xs ys k a p ∙ ap (λ (l : ℕ). list_takes l ys k a) same)
      (cases_Bool (has xs k))

  back_taken : (s : Side) (k a : ℕ) → can_take m s k a ≡ false → joined m (after_take n s k a) ≡ after_take (joined m n) s k a
  back_taken s k a f =
      let xs = side_of m s in
      let ys = side_of n s in
      let whole = list_takes m.lot (xs ++ ys) k a in
      let new = with_side (joined m n) s (taken (xs ++ ys) k a) in
      ⊎_elim
      (λ t. let p : has ys k ≡ true = (and_parts (has ys k) (lots n.lot a && leb a (left_of ys k)) t).0 in
      ap (joined m) (cond-true (can_take n s k a) (with_side n s (taken ys k a)) n t)
      ∙ back m n s (taken ys k a)
      ∙ ap (with_side (joined m n) s) (sym (taken_back xs ys k a (only_back s k p)))
      ∙ sym (cond-true whole new (joined m n) (back_takes s k a f ∙ t))
      ∙ sym (whole_take s k a))
      (λ t. ap (joined m) (cond-false (can_take n s k a) (with_side n s (taken ys k a)) n t)
      ∙ sym (cond-false whole new (joined m n) (back_takes s k a f ∙ t))
      ∙ sym (whole_take s k a))
      (cases_Bool (can_take n s k a))

  pub take_back : (s : Side) (k a : ℕ) (m' n' : Meaning) → can_take m s k a ≡ false → m' ≡ after_take m s k a → n' ≡ after_take n s k a → (can_take (joined m n) s k a ≡ can_take n s k a) × (joined m' n' ≡ after_take (joined m n) s k a)
  take_back s k a m' n' f e g = (
    whole_can_take s k a ∙ back_takes s k a f,
    ap (λ (z : Meaning). joined z n') (e ∙ cond-false (can_take m s k a) (with_side m s (taken (side_of m s) k a)) m f) ∙ ap (joined m) g ∙ back_taken s k a f,
  )

  -- a take of either part keeps the laws of the whole, whatever is taken
  pub front_taken_sound : (s : Side) (k a : ℕ) → sound 128 (joined (after_take m s k a) n) ≡ true
  front_taken_sound s k a =
      ⊎_elim
      (λ t. ap (sound 128) (take_front s k a (after_take m s k a) t refl).1 ∙ sound_after_take 128 (joined m n) s k a h)
      (λ f. ap (λ (z : Meaning). sound 128 (joined z n)) (cond-false (can_take m s k a) (with_side m s (taken (side_of m s) k a)) m f) ∙ h)
      (cases_Bool (can_take m s k a))

  pub back_taken_sound : (s : Side) (k a : ℕ) → sound 128 (joined m (after_take n s k a)) ≡ true
  back_taken_sound s k a =
      ⊎_elim
      (λ t. let p : has (side_of n s) k ≡ true = (and_parts (has (side_of n s) k) (lots n.lot a && leb a (left_of (side_of n s) k)) t).0 in
      ap (sound 128) (back_taken s k a (and_left (has (side_of m s) k) (lots m.lot a && leb a (left_of (side_of m s) k)) (only_back s k p))) ∙ sound_after_take 128 (joined m n) s k a h)
      (λ f. ap (λ (z : Meaning). sound 128 (joined m z)) (cond-false (can_take n s k a) (with_side n s (taken (side_of n s) k a)) n f) ∙ h)
      (cases_Bool (can_take n s k a))

  pub remove_front : (s : Side) (k : ℕ) (m' : Meaning) → has (side_of m s) k ≡ true → m' ≡ after_remove m s k → (has (side_of (joined m n) s) k ≡ true) × (joined m' n ≡ after_remove (joined m n) s k)
  remove_front s k m' t e =
      let xs = side_of m s in
      let ys = side_of n s in
      let c : has (xs ++ ys) k ≡ true = has_front xs ys k t in (
        whole_has s k ∙ c,
        ap (λ (z : Meaning). joined z n) (e ∙ cond-true (has xs k) (with_side m s (without xs k)) m t)
            ∙ front m n s (without xs k)
            ∙ ap (with_side (joined m n) s) (sym (without_front xs ys k t))
            ∙ sym (cond-true (has (xs ++ ys) k) (with_side (joined m n) s (without (xs ++ ys) k)) (joined m n) c)
            ∙ sym (whole_remove s k),
      )

  back_removed : (s : Side) (k : ℕ) → has (side_of m s) k ≡ false → joined m (after_remove n s k) ≡ after_remove (joined m n) s k
  back_removed s k f =
      let xs = side_of m s in
      let ys = side_of n s in
      let new = with_side (joined m n) s (without (xs ++ ys) k) in
      ⊎_elim
      (λ t. ap (joined m) (cond-true (has ys k) (with_side n s (without ys k)) n t)
      ∙ back m n s (without ys k)
      ∙ ap (with_side (joined m n) s) (sym (without_back xs ys k f))
      ∙ sym (cond-true (has (xs ++ ys) k) new (joined m n) (has_back xs ys k f ∙ t))
      ∙ sym (whole_remove s k))
      (λ t. ap (joined m) (cond-false (has ys k) (with_side n s (without ys k)) n t)
      ∙ sym (cond-false (has (xs ++ ys) k) new (joined m n) (has_back xs ys k f ∙ t))
      ∙ sym (whole_remove s k))
      (cases_Bool (has ys k))

  pub remove_back : (s : Side) (k : ℕ) (m' n' : Meaning) → has (side_of m s) k ≡ false → m' ≡ after_remove m s k → n' ≡ after_remove n s k → (has (side_of (joined m n) s) k ≡ has (side_of n s) k) × (joined m' n' ≡ after_remove (joined m n) s k)
  remove_back s k m' n' f e g = (
    whole_has s k ∙ has_back (side_of m s) (side_of n s) k f,
    ap (λ (z : Meaning). joined z n') (e ∙ cond-false (has (side_of m s) k) (with_side m s (without (side_of m s) k)) m f) ∙ ap (joined m) g ∙ back_removed s k f,
  )

  pub back_removed_sound : (s : Side) (k : ℕ) → sound 128 (joined m (after_remove n s k)) ≡ true
  back_removed_sound s k =
      ⊎_elim
      (λ t. ap (sound 128) (back_removed s k (only_back s k t)) ∙ sound_after_remove 128 (joined m n) s k h)
      (λ f. ap (λ (z : Meaning). sound 128 (joined m z)) (cond-false (has (side_of n s) k) (with_side n s (without (side_of n s) k)) n f) ∙ h)
      (cases_Bool (has (side_of n s) k))

  -- an entry goes behind the first part, which must not have its number
  pub enter_full : (s : Side) (o : Offer) → 128 ≤ length (side_of (joined m n) s) → can_enter 128 (joined m n) s o ≡ false
  enter_full s o w = and_left (ltb (length (side_of (joined m n) s)) 128) _ (le-ltb (length (side_of (joined m n) s)) 128 w)

  pub enter_known : (s : Side) (o : Offer) → (has m.buys o.number.0 || has m.sells o.number.0) ≡ true → can_enter 128 (joined m n) s o ≡ false
  enter_known s o t =
      ⊎_elim
      (λ e. and_right (ltb (length (side_of (joined m n) s)) 128) _ (and_left (not (has (m.buys ++ n.buys) o.number.0)) _ (not_from_true _ (has_front m.buys n.buys o.number.0 e))))
      (λ e. and_right (ltb (length (side_of (joined m n) s)) 128) _ (and_right (not (has (m.buys ++ n.buys) o.number.0)) _ (and_left (not (has (m.sells ++ n.sells) o.number.0)) _ (not_from_true _ (has_front m.sells n.sells o.number.0 e)))))
      (or_cases (has m.buys o.number.0) (has m.sells o.number.0) t)

  back_enters : (s : Side) (o : Offer) → length (side_of (joined m n) s) < 128 → (has m.buys o.number.0 || has m.sells o.number.0) ≡ false → can_enter 128 (joined m n) s o ≡ can_enter 128 n s o
  back_enters s o w f =
      let p = or_parts (has m.buys o.number.0) (has m.sells o.number.0) f in
      let a = lt-ltb (length (side_of (joined m n) s)) 128 w in
      let b : ltb (length (side_of n s)) 128 ≡ true = lt-ltb (length (side_of n s)) 128 (omega (arith, joined_count m n s)) in
      let u = has_back m.buys n.buys o.number.0 p.0 in
      let v = has_back m.sells n.sells o.number.0 p.1 in
      ap (λ (x : Bool). x && (not (has (m.buys ++ n.buys) o.number.0) && (not (has (m.sells ++ n.sells) o.number.0) && in_range m.lot o))) (a ∙ sym b)
      ∙ ap (λ (x : Bool). ltb (length (side_of n s)) 128 && (not x && (not (has (m.sells ++ n.sells) o.number.0) && in_range m.lot o))) u
      ∙ ap (λ (x : Bool). ltb (length (side_of n s)) 128 && (not (has n.buys o.number.0) && (not x && in_range m.lot o))) v
      ∙ ap (λ (x : ℕ). ltb (length (side_of n s)) 128 && (not (has n.buys o.number.0) && (not (has n.sells o.number.0) && in_range x o))) same

  pub enter_back : (s : Side) (o : Offer) (n' : Meaning) → length (side_of (joined m n) s) < 128 → (has m.buys o.number.0 || has m.sells o.number.0) ≡ false → n' ≡ after_enter 128 n s o → (can_enter 128 (joined m n) s o ≡ can_enter 128 n s o) × (joined m n' ≡ after_enter 128 (joined m n) s o)
  enter_back s o n' w f g =
      let xs = side_of m s in
      let ys = side_of n s in
      let c = back_enters s o w f in
      let new = with_side (joined m n) s ((xs ++ ys) ++ o ∷ []) in (
        c,
        ap (joined m) g
            ∙ ⊎_elim
            (λ t. ap (joined m) (cond-true (can_enter 128 n s o) (with_side n s (ys ++ o ∷ [])) n t)
            ∙ back m n s (ys ++ o ∷ [])
            ∙ ap (with_side (joined m n) s) (sym (append_assoc xs ys (o ∷ [])))
            ∙ sym (cond-true (can_enter 128 (joined m n) s o) new (joined m n) (c ∙ t))
            ∙ sym (whole_enter s o))
            (λ t. ap (joined m) (cond-false (can_enter 128 n s o) (with_side n s (ys ++ o ∷ [])) n t)
            ∙ sym (cond-false (can_enter 128 (joined m n) s o) new (joined m n) (c ∙ t))
            ∙ sym (whole_enter s o))
            (cases_Bool (can_enter 128 n s o)),
      )

-- a book of parts m and n that is the whole w: what the type of a mixed book asks, and what a call promises of it
pub record Is (w m n : Meaning) : Type 0 where
  pub lots : m.lot ≡ n.lot
  pub ok : sound 128 (joined m n) ≡ true
  pub whole : joined m n ≡ w

-- an order that goes behind the first part
pub entered : (m n : Meaning) → m.lot ≡ n.lot → sound 128 (joined m n) ≡ true → (s : Side) (o : Offer) (q : Result (Unit {0}) Refused) (n' : Meaning) → length (side_of (joined m n) s) < 128 → (has m.buys o.number.0 || has m.sells o.number.0) ≡ false
    → q ≡ enter_result 128 n s o → n' ≡ after_enter 128 n s o → Is (after_enter 128 (joined m n) s o) m n' × (q ≡ enter_result 128 (joined m n) s o)
entered m n same h s o q n' few new e g =
    let w = enter_back m n same h s o n' few new g in (
      record { lots = same ∙ sym (ap (λ (z : Meaning). z.lot) g ∙ lot_after_enter 128 n s o); ok = ap (sound 128) w.1 ∙ sound_after_enter 128 (joined m n) s o h; whole = w.1 },
      e ∙ ap when (sym w.0),
    )
