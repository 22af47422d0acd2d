-- What a request may draw on, gathered offer by offer; and that it is as sound and as much apart as what is offered.
use Rattle.std.proofs.Common.{◌≡◌, ℕ, ◌≤◌, true, cond, eqb, List, [], ◌∷◌, ◌++◌, map, Some, None, count_by, filter, Option, ap, ◌∙◌, arith}
use Rattle.std.specs.List.{AllByRecursion}
use Rattle.std.proofs.lemmas.List.Elements.{filter-append}
use Rattle.std.proofs.ByRecursion.{All-weaker, All-map, all_kept_by}
use Rattle.std.proofs.lemmas.List.{map-append}
use Rattle.std.proofs.lemmas.List.Sums.{sum_by-cons}
use Rattle.units.specs.Ranges.{is_price, is_quantity}
use Rattle.ranked.specs.Lists.{Apart}
use Rattle.draw.specs.declared.offers.Offered.{Offered}
use Rattle.draw.specs.declared.offers.Taker.{Taker}
use Rattle.draw.specs.declared.offers.Eligible.{Eligible}
use Rattle.draw.specs.Offers.{is_eligible, as_eligible, admitted, eligible, named, Sound}

-- an offer or nothing, as a list
abbrev pub listed : Option Eligible → List Eligible
listed None = []
listed (Some e) = e ∷ []

module _ (t : Taker) where
  pub eligible_append : (xs ys : List Offered) → eligible t (xs ++ ys) ≡ eligible t xs ++ eligible t ys
  eligible_append xs ys = ap (map as_eligible) (filter-append (is_eligible t) xs ys) ∙ map-append as_eligible (filter (is_eligible t) xs) (filter (is_eligible t) ys)

  one : (o : Offered) (r : Option Eligible) → admitted t o ≡ r → eligible t (o ∷ []) ≡ listed r
  one o r e = grind arith

  -- one offer more
  pub eligible_more : (xs : List Offered) (o : Offered) (r : Option Eligible) → admitted t o ≡ r → eligible t (xs ++ o ∷ []) ≡ eligible t xs ++ listed r
  eligible_more xs o r e = eligible_append xs (o ∷ []) ∙ ap (λ (l : List Eligible). eligible t xs ++ l) (one o r e)

  fewer : (k : ℕ) (os : List Offered) → count_by (λ (o : Eligible). eqb (named o) k) (eligible t os) ≤ count_by (λ (o : Offered). eqb o.number.0 k) os
  fewer k [] = omega arith
  fewer k (o ∷ os) = let ih = fewer k os in let l = sum_by-cons (λ (x : Eligible). cond (eqb (named x) k) 1 0) (as_eligible o) (eligible t os) in let r = sum_by-cons (λ (x : Offered). cond (eqb x.number.0 k) 1 0) o os in grind arith

  pub eligible_apart : (os : List Offered) → Apart (λ o. o.number.0) os → Apart named (eligible t os)
  eligible_apart os a k = let f = fewer k os in let h = a k in omega arith

  pub eligible_sound : (lot : ℕ) (os : List Offered) → AllByRecursion (λ o. (is_price o.price.0 ≡ true) × (is_quantity lot o.left.0 ≡ true)) os → AllByRecursion (Sound lot) (eligible t os)
  eligible_sound lot os a =
      All-map (Sound lot) as_eligible (filter (is_eligible t) os) (all_kept_by (is_eligible t) (λ o. Sound lot (as_eligible o)) os (All-weaker _ _ (λ o h. record { price = h.0; left = h.1 }) os a))
