-- What the place of a number in a list of offers tells of the list.
use Rattle.std.proofs.Common.{◌≡◌, ℕ, suc, ◌+◌, ◌<◌, ◌≤◌, Bool, true, false, List, [], ◌∷◌, length, position, get_or, set, ltb, cond, is_some, Some, None, sym, refl, ap, subst, ◌∙◌, ⊎_elim, arith}
use Rattle.std.specs.List.{remove, refill, position_or_len}
use Rattle.std.proofs.lemmas.Bool.{eq-eqb, ne_eqb, ltb-true, ltb-false, cases_Bool}
use Rattle.book.specs.declared.Offer.{Offer}
use Rattle.book.specs.Meaning.{numbered, has, left_of, less, taken, without}
use Rattle.std.proofs.lemmas.List.{take_at, length-set}

pub data Placed (n : ℕ) : List Offer → ℕ → Type 0 where
  here : {o : Offer} {os : List Offer} → numbered n o ≡ true → Placed n (o ∷ os) 0
  there : {o : Offer} {os : List Offer} {i : ℕ} → numbered n o ≡ false → Placed n os i → Placed n (o ∷ os) (suc i)

pub within : {n : ℕ} {os : List Offer} {i : ℕ} → Placed n os i → i < length os
within (here e) = omega arith
within (there e p) = let h = within p in omega arith

pub has_it : {n : ℕ} {os : List Offer} {i : ℕ} → Placed n os i → has os n ≡ true
has_it (here e) = simp e
has_it (there e p) = simp (e, has_it p)

pub left_there : {n : ℕ} {os : List Offer} {i : ℕ} → Placed n os i → (d : Offer) → left_of os n ≡ (get_or os i d).left.0
left_there (here e) d = simp e
left_there (there e p) d = simp (e, left_there p d)

pub without_it : {n : ℕ} {os : List Offer} {i : ℕ} → Placed n os i → without os n ≡ remove os i
without_it (here e) = simp e
without_it (there e p) = simp (e, without_it p)

pub taken_all : {n : ℕ} {os : List Offer} {i : ℕ} → Placed n os i → (a : ℕ) → left_of os n ≡ a → taken os n a ≡ remove os i
taken_all (here {o} {os} e) a q =
    let l : o.left.0 ≡ a = simp e at q in
    simp (e, eq-eqb _ _ l)
taken_all (there e p) a q = simp (e, taken_all p a (simp e at q))

pub taken_part : {n : ℕ} {os : List Offer} {i : ℕ} → Placed n os i → (a : ℕ) (d : Offer) → (left_of os n ≡ a → ⊥) → taken os n a ≡ set os i (less (get_or os i d) a)
taken_part (here {o} {os} e) a d q =
    let l : o.left.0 ≡ a → ⊥ = simp e at q in
    simp (e, ne_eqb _ _ l)
taken_part (there e p) a d q = simp (e, taken_part p a d (simp e at q))

-- what the answer of a search tells of the test that it stands on
is_some_of : (b : Bool) (k : ℕ) → is_some (cond b (Some k) None) ≡ b
is_some_of true k = refl
is_some_of false k = refl

some_of : (b : Bool) (i k : ℕ) → Some i ≡ cond b (Some k) None → (b ≡ true) × (k ≡ i)
some_of true i k e = (refl, cc)
some_of false i k e = let z : ◌≡◌ {A = ℕ} 0 1 = cc in absurd (omega arith)

module _ (n : ℕ) where
  first : (os : List Offer) → position_or_len (numbered n) os < length os → Placed n os (position_or_len (numbered n) os)
  first [] h = absurd (omega arith)
  first (o ∷ os) h = go (numbered n o) refl (first os)
    where
      go : (b : Bool) → numbered n o ≡ b → (position_or_len (numbered n) os < length os → Placed n os (position_or_len (numbered n) os)) → Placed n (o ∷ os) (position_or_len (numbered n) (o ∷ os))
      go true t r = simp t (here t)
      go false t r =
          let z = simp t at h in
          let one : suc (position_or_len (numbered n) os) ≡ 1 + position_or_len (numbered n) os = omega arith in
          simp t (subst (Placed n (o ∷ os)) one (there t (r (omega (arith, z)))))

  none : (os : List Offer) → length os ≤ position_or_len (numbered n) os → has os n ≡ false
  none [] h = refl
  none (o ∷ os) h = go (numbered n o) refl (none os)
    where
      go : (b : Bool) → numbered n o ≡ b → (length os ≤ position_or_len (numbered n) os → has os n ≡ false) → has (o ∷ os) n ≡ false
      go true t r = let z = simp t at h in absurd (omega (arith, z))
      go false t r = let z = simp t at h in simp t (r (omega (arith, z)))

  pub placed : (os : List Offer) (i : ℕ) → Some i ≡ position (numbered n) os → Placed n os i
  placed os i e = let p = some_of _ i _ e in subst (Placed n os) p.1 (first os (ltb-true _ _ p.0))

  -- the test of the search is whether the list has the number
  found : (os : List Offer) → ltb (position_or_len (numbered n) os) (length os) ≡ has os n
  found os =
      ⊎_elim
      (λ t. t ∙ sym (has_it (first os (ltb-true _ _ t))))
      (λ t. t ∙ sym (none os (ltb-false _ _ t)))
      (cases_Bool (ltb (position_or_len (numbered n) os) (length os)))

  pub some_has : (os : List Offer) → is_some (position (numbered n) os) ≡ has os n
  some_has os = is_some_of _ (position_or_len (numbered n) os) ∙ found os

  pub unplaced : (os : List Offer) → None ≡ position (numbered n) os → has os n ≡ false
  unplaced os e = sym (some_has os) ∙ ap is_some (sym e)

-- a list, written over with the same list where one place is set
pub refill_set : (os : List Offer) (i : ℕ) (o : Offer) → refill (length os) os (set os i o) ≡ set os i o
refill_set os i o = take_at (set os i o) _ (length os) (length-set os i o)

-- what a read past the end would give
abbrev pub nothing : Offer
nothing = record { number = record { 0 = 0 }; firm = record { 0 = 0 }; price = record { 0 = 0 }; left = record { 0 = 0 } }

-- the offer of a number, found at a place of a list
module _ (os : List Offer) (n i : ℕ) (f : Some i ≡ position (numbered n) os) where
  p : Placed n os i
  p = placed n os i f

  pub has_at : has os n ≡ true
  has_at = has_it p

  pub without_at : remove os i ≡ without os n
  without_at = sym (without_it p)

  pub left_at : left_of os n ≡ (get_or os i nothing).left.0
  left_at = left_there p nothing

  pub taken_at : (a : ℕ) → (get_or os i nothing).left.0 ≡ a → remove os i ≡ taken os n a
  taken_at a e = sym (taken_all p a (left_at ∙ e))

  pub lowered_at : (a : ℕ) → a < (get_or os i nothing).left.0 → taken os n a ≡ set os i (less (get_or os i nothing) a)
  lowered_at a w = taken_part p a nothing (λ e. omega (arith, left_at, e, w))
