-- From what the walk finds to what the public calls on draws promise.
use Rattle.std.proofs.Common.{◌≡◌, ℕ, ◌*◌, ◌≤◌, Bool, true, List, Option, sym, ap, ◌∙◌, subst, ap₂, arith}
use Rattle.std.specs.List.{AllByRecursion}
use Rattle.std.specs.List.Sorted.{IsPermutation}
use Rattle.std.proofs.lemmas.List.Sorted.{sum_by-IsPermutation}
use Rattle.std.proofs.ByRecursion.{all_shuffled}
use Rattle.units.specs.Ranges.{is_lot, is_quantity}
use Rattle.units.specs.declared.side.Side.{Side}
use Rattle.units.specs.declared.Quantity.{Quantity}
use Rattle.units.specs.declared.Money.{Money}
use Rattle.ranked.specs.Lists.{Apart, ranked}
use Rattle.ranked.proofs.Placing.{ranked_shuffled}
use Rattle.ranked.proofs.Sorting.{any_order, apart_shuffled}
use Rattle.draw.specs.declared.offers.Eligible.{Eligible}
use Rattle.draw.specs.Offers.{Ready, Pourable, Sound, named}
use Rattle.draw.specs.Rankings.{request_before}
use Rattle.draw.specs.Draws.{money, totals, Good, Decides, poured}
use Rattle.draw.specs.Walk.{walk, answered, decided}
use Rattle.draw.specs.Decisions.{Confirms, Shows}
use Rattle.draw.specs.Orders.{request_order, request_better}
use Rattle.draw.proofs.Bounds.{lot_bounds, quantity_bounds, sound_whole, sound_some}
use Rattle.draw.specs.Sides.{NoWorse}
use Rattle.draw.proofs.Finds.{Priced, Lots, same_size, same_money, poured_size, poured_best, walk_decides}

-- the request ranking meets what best terms rest on
pub request_priced : (s : Side) (os : List Eligible) → Apart named os → Priced s (request_before s) os
request_priced s os a = record { apart = a; order = request_order s; better_is_first = request_better s }

pub lots : (lot most : ℕ) (os : List Eligible) → is_lot lot ≡ true → is_quantity lot most ≡ true → AllByRecursion (Sound lot) os → Lots lot most os
lots lot most os l q a = record { some = (let b = (lot_bounds lot l).0 in omega arith); whole_most = (quantity_bounds lot most q).2; whole = sound_whole lot os a }

pub ready_pourable : (lot most : ℕ) (os : List Eligible) → Ready lot most os → Pourable os
ready_pourable lot most os r = record { apart = r.apart; some = sound_some lot os r.sound }

pub ranked_pourable : (before : Eligible → Eligible → Bool) (lot most : ℕ) (os rs : List Eligible) → rs ≡ ranked before os → Ready lot most os → Pourable rs
ranked_pourable before lot most os rs e r =
    subst Pourable (sym e)
    record { apart = apart_shuffled named os (ranked before os) (ranked_shuffled before os) r.apart; some = all_shuffled _ os (ranked before os) (ranked_shuffled before os) (sound_some lot os r.sound) }

-- the answer to what the code's walk came to
pub answer_is : (s s' : Side) (lot price least most : ℕ) (rs rs' : List Eligible) (n m : ℕ) (r : Option (Quantity × Money)) → r ≡ answered least (n, m) →
    n ≡ (walk s' lot price most rs' 0 0).0 → m ≡ (walk s' lot price most rs' 0 0).1 → s' ≡ s → rs' ≡ rs → r ≡ decided s lot price least most rs
answer_is s s' lot price least most rs rs' n m r e en em es er = grind arith

module _ (s : Side) (before : Eligible → Eligible → Bool) (os : List Eligible) (k : Priced s before os) where
  same_ranking : (ys : List Eligible) → IsPermutation os ys → ranked before os ≡ ranked before ys
  same_ranking ys h = sym (any_order before named k.order os ys k.apart h)

  pub confirms : (lot price least most : ℕ) → Lots lot most os → (r : Option (Quantity × Money)) → r ≡ decided s lot price least most (ranked before os) → Confirms s before lot price least most os r
  confirms lot price least most l r e =
      record {
        value = e;
        decides = subst (Decides s before os (Good s lot price least most os)) (sym e) (walk_decides s before os k lot price least most l);
        any_order = λ ys h. e ∙ ap (decided s lot price least most) (same_ranking ys h);
      }

  -- the totals over the ranked offers as the code has them
  pub shows : (quantity : ℕ) (rs : List Eligible) (r : Quantity × Money) → rs ≡ ranked before os → r ≡ totals rs (poured rs quantity) → r.1.0 ≤ 1000000000 * r.0.0 → Shows s before quantity os r
  shows quantity rs r er e b =
      let x = poured (ranked before os) quantity in
      let value : r ≡ totals os x =
      e ∙ (ap (λ (l : List Eligible). totals l (poured l quantity)) er
      ∙ ap₂ (λ (a b : ℕ). (record { 0 = a }, record { 0 = b })) (same_size s before os k x) (same_money s before os k x)) in
      record {
        value = value;
        all = ap (λ (t : Quantity × Money). t.0.0) value ∙ poured_size s before os k quantity;
        terms = λ lot y d h. subst (λ (v : ℕ). NoWorse s v (money os y)) (sym (ap (λ (t : Quantity × Money). t.1.0) value)) (poured_best s before os k lot quantity y d (h ∙ ap (λ (t : Quantity × Money). t.0.0) value));
        any_order = λ ys h.
            value
            ∙ (ap₂ (λ (a b : ℕ). (record { 0 = a }, record { 0 = b })) (sym (sum_by-IsPermutation (λ o. x (named o)) os ys h)) (sym (sum_by-IsPermutation (λ o. o.price.0 * x (named o)) os ys h))
            ∙ ap (λ (l : List Eligible). totals ys (poured l quantity)) (same_ranking ys h));
        in_range = b;
      }
