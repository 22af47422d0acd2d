-- What the calls on its parts make of a mixed book.
use Rattle.std.proofs.Common.{◌≡◌, ℕ, Bool, true, false, is_ok, Result, Ok, sym, refl, ap, ◌∙◌, arith}
use Rattle.units.specs.declared.side.Side.{Side}
use Rattle.book.specs.declared.Refused.{Refused}
use Rattle.book.specs.Meaning.{Meaning, side_of, has, left_of, when, take_result, remove_result, can_take, after_take, after_remove}
use Rattle.book.specs.Laws.{sound}
use Rattle.book.specs.declared.sides.Sides.{Sides}
use Rattle.book.specs.Making.{made_as}
use Rattle.book.proofs.Answers.{accepts, ok_tells, made_ok}
use Rattle.book.proofs.Lefts.{take_whole}
use Rattle.book.proofs.Sound.{sound_wider}
use Rattle.kept.specs.declared.KeptBook.{KeptBook}
use Rattle.kept.specs.Kept.{kept_means, kept_refused, empty_book}
use Rattle.ladder.specs.declared.Ladder.{Ladder}
use Rattle.ladder.specs.declared.rungs.Rungs.{Rungs}
use Rattle.ladder.specs.Ladders.{ladder_means}
use Rattle.ladder.specs.Rungs.{ladder_refused, ladder_of}
use Rattle.mixed.specs.declared.MixedBook.{MixedBook}
use Rattle.mixed.specs.Joined.{joined}
use Rattle.mixed.specs.Mixed.{mixed_means}
use Rattle.mixed.proofs.Joining.{joined_empty, lot_after_take, lot_after_remove, front_taken_sound, back_taken_sound, back_removed_sound, take_front, take_back, remove_front, remove_back}

module _ (b : MixedBook) where
  abbrev m : Meaning
  m = ladder_means b.rungs

  abbrev n : Meaning
  n = kept_means b.orders

  -- The laws: a call on a part keeps them, whichever side, number and amount it is given.
  module _ (r : Ladder) (s : Side) (k a : ℕ) (g : ladder_means r ≡ after_take m s k a) where
    pub rungs_lots : (ladder_means r).lot ≡ n.lot
    rungs_lots = ap (λ (z : Meaning). z.lot) g ∙ lot_after_take m s k a ∙ b.lots

    pub rungs_sound : sound 128 (joined (ladder_means r) n) ≡ true
    rungs_sound = ap (λ (z : Meaning). sound 128 (joined z n)) g ∙ front_taken_sound m n b.lots b.ok s k a

    module _ (o : KeptBook) (t : Side) (l : ℕ) where
      pub taken_lots : (j : ℕ) → kept_means o ≡ after_take n t l j → (ladder_means r).lot ≡ (kept_means o).lot
      taken_lots j u = rungs_lots ∙ sym (ap (λ (z : Meaning). z.lot) u ∙ lot_after_take n t l j)

      pub taken_sound : (j : ℕ) → kept_means o ≡ after_take n t l j → sound 128 (joined (ladder_means r) (kept_means o)) ≡ true
      taken_sound j u = ap (λ (z : Meaning). sound 128 (joined (ladder_means r) z)) u ∙ back_taken_sound (ladder_means r) n rungs_lots rungs_sound t l j

      pub removed_lots : kept_means o ≡ after_remove n t l → (ladder_means r).lot ≡ (kept_means o).lot
      removed_lots u = rungs_lots ∙ sym (ap (λ (z : Meaning). z.lot) u ∙ lot_after_remove n t l)

      pub removed_sound : kept_means o ≡ after_remove n t l → sound 128 (joined (ladder_means r) (kept_means o)) ≡ true
      removed_sound u = ap (λ (z : Meaning). sound 128 (joined (ladder_means r) z)) u ∙ back_removed_sound (ladder_means r) n rungs_lots rungs_sound t l

  -- The answers: what the rungs answer, q, decides.
  module _ (s : Side) (k a : ℕ) (q : Result (Unit {0}) Refused) (e : q ≡ take_result m s k a) where
    pub take_front_answers : true ≡ is_ok q → Ok tt ≡ take_result (mixed_means b) s k a
    take_front_answers t = accepts _ (take_front m n b.lots b.ok s k a _ (ok_tells (can_take m s k a) true q e t) refl).0

    pub take_back_answers : (p : Result (Unit {0}) Refused) → false ≡ is_ok q → p ≡ take_result n s k a → p ≡ take_result (mixed_means b) s k a
    take_back_answers p f v = v ∙ ap when (sym (take_back m n b.lots b.ok s k a _ _ (ok_tells (can_take m s k a) false q e f) refl refl).0)

    module _ (r : Ladder) (g : ladder_means r ≡ after_take m s k a) where
      pub take_front_leaves : true ≡ is_ok q → after_take (mixed_means b) s k a ≡ joined (ladder_means r) n
      take_front_leaves t = sym (take_front m n b.lots b.ok s k a (ladder_means r) (ok_tells (can_take m s k a) true q e t) g).1

      pub take_back_leaves : (o : KeptBook) → false ≡ is_ok q → kept_means o ≡ after_take n s k a → after_take (mixed_means b) s k a ≡ joined (ladder_means r) (kept_means o)
      take_back_leaves o f u = sym (take_back m n b.lots b.ok s k a (ladder_means r) (kept_means o) (ok_tells (can_take m s k a) false q e f) g u).1

  -- A take of all that is left is a removal.
  module _ (s : Side) (k l : ℕ) (q : Result (Unit {0}) Refused) (is : l ≡ left_of (side_of m s) k) (e : q ≡ take_result m s k l) where
    had : (w : Bool) → w ≡ is_ok q → has (side_of m s) k ≡ w
    had w t = sym (ap (can_take m s k) is ∙ (take_whole 64 m s k b.rungs.ok).0) ∙ ok_tells (can_take m s k l) w q e t

    pub remove_front_answers : true ≡ is_ok q → Ok tt ≡ remove_result (mixed_means b) s k
    remove_front_answers t = accepts _ (remove_front m n b.lots b.ok s k _ (had true t) refl).0

    pub remove_back_answers : (p : Result (Unit {0}) Refused) → false ≡ is_ok q → p ≡ remove_result n s k → p ≡ remove_result (mixed_means b) s k
    remove_back_answers p f v = v ∙ ap when (sym (remove_back m n b.lots b.ok s k _ _ (had false f) refl refl).0)

    module _ (r : Ladder) (g : ladder_means r ≡ after_take m s k l) where
      gone : ladder_means r ≡ after_remove m s k
      gone = g ∙ ap (after_take m s k) is ∙ (take_whole 64 m s k b.rungs.ok).1

      pub remove_front_leaves : true ≡ is_ok q → after_remove (mixed_means b) s k ≡ joined (ladder_means r) n
      remove_front_leaves t = sym (remove_front m n b.lots b.ok s k (ladder_means r) (had true t) gone).1

      pub remove_back_leaves : (o : KeptBook) → false ≡ is_ok q → kept_means o ≡ after_remove n s k → after_remove (mixed_means b) s k ≡ joined (ladder_means r) (kept_means o)
      remove_back_leaves o f u = sym (remove_back m n b.lots b.ok s k (ladder_means r) (kept_means o) (had false f) gone u).1

-- A book that is made: a ladder of a plan, and an empty book of its lot behind it.
module _ (p : Sides Rungs) (r : Ladder) (o : KeptBook) (e : Ok (ladder_means r) ≡ made_as (ladder_refused p) (ladder_of p)) (g : Ok (kept_means o) ≡ made_as (kept_refused p.lot.0) (empty_book p.lot.0)) where
  raised : (ladder_means r).lot ≡ p.lot.0
  raised = ap (λ (z : Meaning). z.lot) (made_ok _ _ _ e).1

  empty : kept_means o ≡ empty_book p.lot.0
  empty = (made_ok _ _ _ g).1

  alone : joined (ladder_means r) (kept_means o) ≡ ladder_means r
  alone = joined_empty (ladder_means r) (kept_means o) (empty ∙ ap empty_book (sym raised))

  pub made_lots : (ladder_means r).lot ≡ (kept_means o).lot
  made_lots = raised ∙ sym (ap (λ (z : Meaning). z.lot) empty)

  pub made_sound : sound 128 (joined (ladder_means r) (kept_means o)) ≡ true
  made_sound = ap (sound 128) alone ∙ sound_wider 64 128 (ladder_means r) (omega arith) r.ok

  pub made_whole : Ok (joined (ladder_means r) (kept_means o)) ≡ made_as (ladder_refused p) (ladder_of p)
  made_whole = ap (λ (z : Meaning). Ok z) alone ∙ e
