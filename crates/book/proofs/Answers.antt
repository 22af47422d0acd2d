-- What a call answers that is refused exactly where its test fails, and where a take is refused.
use Rattle.std.proofs.Common.{◌≡◌, ℕ, ◌<◌, ◌≤◌, Bool, true, false, cond, ◌⊎◌, List, is_ok, Some, None, Ok, Err, Option, Result, sym, refl, ap, ◌∙◌, inl, inr, arith}
use Rattle.std.proofs.lemmas.Bool.{lt-leb, le-leb}
use Rattle.book.specs.declared.Offer.{Offer}
use Rattle.book.specs.declared.Refused.{Refused}
use Rattle.book.specs.declared.MakeError.{MakeError}
use Rattle.book.specs.Making.{made_as}
use Rattle.book.specs.Meaning.{Meaning, has, left_of, when, lots, list_takes}

-- the two answers of a call that is refused where its test fails
pub refuses : (b : Bool) → b ≡ false → Err (record {}) ≡ when b
refuses b e = simp e

pub stays : {X : Type 0} (b : Bool) (x y : X) → b ≡ false → y ≡ cond b x y
stays b x y e = simp e

pub accepts : (b : Bool) → b ≡ true → Ok tt ≡ when b
accepts b e = simp e

pub goes : {X : Type 0} (b : Bool) (x y z : X) → b ≡ true → z ≡ x → z ≡ cond b x y
goes b x y z e f = simp e f

-- whether a take from a list that has the number is refused
module _ (lot : ℕ) (os : List Offer) (n a : ℕ) (p : has os n ≡ true) where
  pub takes_not : (lots lot a ≡ false) ⊎ ((lots lot a ≡ true) × (left_of os n < a)) → list_takes lot os n a ≡ false
  takes_not (inl e) = simp (p, e)
  takes_not (inr e) = simp (p, e.0, lt-leb _ _ e.1)

  pub takes : lots lot a ≡ true → a ≤ left_of os n → list_takes lot os n a ≡ true
  takes e f = simp (p, e, le-leb _ _ f)

is_ok_when : (b : Bool) → is_ok (when b) ≡ b
is_ok_when true = refl
is_ok_when false = refl

-- what an answer tells of its test
pub ok_tells : (b t : Bool) (r : Result (Unit {0}) Refused) → r ≡ when b → t ≡ is_ok r → b ≡ t
ok_tells b t r e q = sym (is_ok_when b) ∙ ap is_ok (sym e) ∙ sym q

-- what the result of a making tells
pub made_ok : (why : Option MakeError) (new m : Meaning) → Ok m ≡ made_as why new → (why ≡ None) × (m ≡ new)
made_ok None new m e = (refl, cc)
made_ok (Some x) new m e = absurd (grind arith)
