-- The fills of a decision are what the rules name.
use Rattle.std.proofs.Common.{◌≡◌, ℕ, ◌<◌, Bool, true, List, [], is_some, Some, None, sum_by, Option, sym, refl, ap, ◌∙◌, subst, arith}
use Rattle.std.proofs.lemmas.List.Sorted.{sum_by-IsPermutation}
use Rattle.units.specs.declared.side.Side.{Side}
use Rattle.units.specs.declared.Quantity.{Quantity}
use Rattle.units.specs.declared.Money.{Money}
use Rattle.ranked.specs.Lists.{ranked}
use Rattle.ranked.proofs.Placing.{ranked_shuffled}
use Rattle.draw.specs.declared.offers.Eligible.{Eligible}
use Rattle.draw.specs.declared.fills.Fill.{Fill}
use Rattle.draw.specs.Offers.{Pourable, named}
use Rattle.draw.specs.Draws.{Draw, size, poured, Trades, BestTerms, Decides}
use Rattle.draw.specs.Fills.{taken, fills, traded, Fair, FairConfirmation, FairTurn}
use Rattle.draw.proofs.Pouring.{fills_up}

pub fair : (s : Side) (before : Eligible → Eligible → Bool) (os rs : List Eligible) (IsGood : Draw → Type 0) (found : Option (Quantity × Money)) → (is_some found ≡ true → rs ≡ ranked before os) →
    Pourable rs → ((x : Draw) → IsGood x → 0 < size os x) → Decides s before os IsGood found → Fair s before os IsGood (traded rs found)
fair s before os rs IsGood None er p some d = record { unfilled = λ e. d; only_so = λ none. refl; trades = λ ne. absurd (ne refl); terms = λ ne. absurd (ne refl) }
fair s before os rs IsGood (Some r) er p some d =
    record {
      unfilled = λ e. absurd (filled e);
      only_so = λ none. absurd (none x t.good);
      trades = λ ne. subst (Trades before os IsGood) (sym is) t;
      terms = λ ne. subst (BestTerms s os IsGood) (sym is) d.3;
    }
  where
    x : Draw
    x = d.0

    t : Trades before os IsGood x
    t = d.1

    n : ℕ
    n = r.0.0

    size_is : n ≡ size os x
    size_is = ap (λ (v : Quantity × Money). v.0.0) d.2

    poured_is : poured rs n ≡ x
    poured_is = ap (poured rs) size_is ∙ (ap (λ (v : List Eligible). poured v (size os x)) (er refl) ∙ sym t.emptied)

    is : taken (fills rs n) ≡ x
    is = (fills_up rs n p).drawn ∙ poured_is

    filled : fills rs n ≡ [] → ⊥
    filled e =
        let u = (fills_up rs n p).units in
        let none : sum_by (λ (f : Fill). f.quantity.0) (fills rs n) ≡ 0 = ap (sum_by (λ (f : Fill). f.quantity.0)) e in
        let all : size rs (poured rs n) ≡ size os x = ap (size rs) poured_is ∙ (ap (λ (v : List Eligible). size v x) (er refl) ∙ sum_by-IsPermutation (λ o. x (named o)) os (ranked before os) (ranked_shuffled before os)) in
        let h = some x t.good in
        omega arith

pub fair_confirmation : (rs : List Eligible) (found : Option (Quantity × Money)) → Pourable rs → FairConfirmation rs found
fair_confirmation rs found p s before lot price least most os er c = fair s before os rs _ found (λ e. er) p (λ x g. g.some) c.decides

pub fair_turn : (rs : List Eligible) (found : Option (Quantity × Money)) → Pourable rs → FairTurn rs found
fair_turn rs found p s before lot limit quantity least_firms firms os some er c = fair s before os rs _ found er p (λ x g. (let e = g.exact in omega arith)) c.decides
