-- The fills of a request are what the rules name.
use Rattle.std.proofs.Common.{◌≡◌, ℕ, ◌+◌, ◌%◌, ◌<◌, ◌≤◌, Bool, cond, not, eqb, leb, List, [], ◌∷◌, ◌++◌, map, sum_by, Some, None, filter, Option, sym, refl, ap, ◌∙◌, subst, arith}
use native.Mathlib.Nat.{zero-mod}
use Rattle.std.specs.List.{AllByRecursion}
use Rattle.std.proofs.lemmas.List.Sums.{sum_by-cons, sum_by-append}
use Rattle.std.proofs.lemmas.List.Folds.{fold-map}
use Rattle.std.proofs.lemmas.List.Filters.{sum_by-filter_both}
use Rattle.std.proofs.ByRecursion.{All-weaker, All-append, all_kept_by, All-map, all_shuffled}
use Rattle.std.proofs.lemmas.Bool.Decides.{nat_tests}
use Rattle.std.proofs.lemmas.Bool.{leb-true, leb-false, cond_both}
use Rattle.units.specs.declared.Quantity.{Quantity}
use Rattle.units.specs.declared.Money.{Money}
use Rattle.units.specs.declared.side.Side.{Side}
use Rattle.units.specs.declared.side.Side.TheVariants.{Buy, Sell}
use Rattle.ranked.proofs.Placing.{ranked_shuffled}
use Rattle.ranked.proofs.Sorting.{Distinct}
use Rattle.draw.specs.declared.offers.Eligible.{Eligible}
use Rattle.draw.specs.declared.offers.Offered.{Offered}
use Rattle.draw.specs.Offers.{is_eligible, as_eligible, named}
use Rattle.draw.specs.Rankings.{request_before}
use Rattle.draw.specs.Draws.{Draw, size, Good, GoodAutomatic, Trades, BestTerms, Decides, poured}
use Rattle.draw.specs.Fills.{fills, taken, traded}
use Rattle.draw.proofs.Sides.{whole_add}
use Rattle.draw.specs.Orders.{request_order, request_better}
use Rattle.draw.proofs.Finds as finds
use Rattle.draw.proofs.Pouring.{taken_is, fills_none}
use Rattle.book.specs.declared.Offer.{Offer}
use Rattle.rules.specs.declared.records.Answer.{Answer}
use Rattle.rules.specs.declared.records.Request.{Request}
use Rattle.rules.specs.State.{an_offer, an_answer, State}
use Rattle.rules.specs.Reports.{pour, filled_by}
use Rattle.rules.specs.Offers.{offered, taker_of, from_book, from_answer, request_ranking, firms}
use Rattle.rules.specs.Step.{on_offer, ranked_for, trade, decision_at, decision_in_turn}
use Rattle.rules.specs.History.{came_as}
use Rattle.rules.specs.Law.{TradesFairly}
use Rattle.rules.proofs.Left.{touched}
use Rattle.rules.proofs.Pours.{an_eligible, came_sum, count_sum, came_shuffled, taken_below, touched_fills, fills_units, fills_whole_lots, Whole}
use Rattle.rules.proofs.Fine.{Sound}

-- ── from a decision to fair fills ──

nothing_taken : (os : List Eligible) → size os (taken []) ≡ 0
nothing_taken [] = refl
nothing_taken (o ∷ os) = let h = nothing_taken os in let c = sum_by-cons (λ (x : Eligible). taken [] (named x)) o os in omega arith

-- the units that were decided on
abbrev pub units_of : Option (Quantity × Money) → ℕ
units_of None = 0
units_of (Some t) = t.0.0

traded_units : (rs : List Eligible) (x : Option (Quantity × Money)) → traded rs x ≡ fills rs (units_of x)
traded_units rs None = sym (fills_none rs)
traded_units rs (Some t) = refl

-- the fills of what was decided, where every good draw has something
fair_decided : (d : Side) (os : List Eligible) (IsGood : Draw → Type 0) (x : Option (Quantity × Money)) → Distinct named (request_ranking d os) →
    ((y : Draw) → IsGood y → 0 < size os y) → Decides d (request_before d) os IsGood x → TradesFairly d os IsGood (traded (request_ranking d os) x)
fair_decided d os IsGood None apart some h = record {
  fair = record { unfilled = λ _. h; only_so = λ _. refl; trades = λ z. absurd (z refl); terms = λ z. absurd (z refl) };
  in_order = sym (ap (fills (request_ranking d os)) (nothing_taken os) ∙ fills_none (request_ranking d os));
}
fair_decided d os IsGood (Some r) apart some h = record {
  fair = record {
    unfilled = λ z. absurd (never z);
    only_so = λ none. absurd (none h.0 h.1.good);
    trades = λ _. subst (Trades (request_before d) os IsGood) (sym tells) h.1;
    terms = λ _. subst (BestTerms d os IsGood) (sym tells) h.3;
  };
  in_order = ap (fills (request_ranking d os)) (is ∙ ap (size os) (sym tells));
}
  where
    is : r.0.0 ≡ size os h.0
    is = ap (λ (t : Quantity × Money). t.0.0) h.2

    tells : taken (fills (request_ranking d os) r.0.0) ≡ h.0
    tells = taken_is (request_ranking d os) r.0.0 apart ∙ (ap (poured (request_ranking d os)) is ∙ sym h.1.emptied)

    never : fills (request_ranking d os) r.0.0 ≡ [] → ⊥
    never e =
        let a : taken [] ≡ h.0 = ap taken (sym e) ∙ tells in
        let z = nothing_taken os in
        let b = ap (size os) a in
        let p = some h.0 h.1.good in
        omega arith

whole_size : (lot : ℕ) (os : List Eligible) (x : Draw) → AllByRecursion (λ o. (x (named o) ≤ o.left.0) × (x (named o) % lot ≡ 0)) os → size os x % lot ≡ 0
whole_size lot [] x a = zero-mod lot
whole_size lot (o ∷ os) x a =
    subst (λ (m : ℕ). m % lot ≡ 0) (sym (sum_by-cons (λ (y : Eligible). x (named y)) o os)) (whole_add lot (x (named o)) (size os x) a.0.1 (whole_size lot os x a.1))

-- what was decided on is within the most, in whole lots
decided_fits : (d : Side) (lot price least most : ℕ) (os : List Eligible) (r : Option (Quantity × Money)) → Decides d (request_before d) os (Good d lot price least most os) r →
    (units_of r ≤ most) × (units_of r % lot ≡ 0)
decided_fits d lot price least most os None h = (omega arith, zero-mod lot)
decided_fits d lot price least most os (Some r) h =
    let is : r.0.0 ≡ size os h.0 = ap (λ (t : Quantity × Money). t.0.0) h.2 in
    let f = h.1.good.fits in
    (omega arith, subst (λ (m : ℕ). m % lot ≡ 0) (sym is) (whole_size lot os h.0 h.1.good.draw.each))

-- ── what a request may draw on ──

pub trade_is : (s : State) (r : Request) (d : Side) (x : Option (Quantity × Money)) → trade s r d x ≡ pour r.number.0 (ranked_for s r d) (units_of x)
trade_is s r d x = ap (map (filled_by r.number.0)) (traded_units (ranked_for s r d) x)

module _ (s : State) (r : Request) (d : Side) where
  abbrev on : List Eligible
  on = on_offer s r d

  abbrev all : List Offered
  all = offered s.book.buys s.book.sells s.answers

  abbrev taken_up : Offered → Bool
  taken_up = is_eligible (taker_of r d)

  -- what is told of all that is offered by number and what is left: a sum of it, and what holds of each
  sum_on : (h : ℕ → ℕ → ℕ) → sum_by (λ (o : Eligible). h o.number.0 o.left.0) on
      ≤ sum_by (λ (o : Offer). h o.number.0 o.left.0) s.book.buys + sum_by (λ (o : Offer). h o.number.0 o.left.0) s.book.sells + sum_by (λ (a : Answer). h a.number.0 a.left.0) s.answers
  sum_on h =
      let F : Offered → ℕ = λ o. h o.number.0 o.left.0 in
      let e = fold-map (λ (n : ℕ) (o : Eligible). n + h o.number.0 o.left.0) as_eligible 0 (filter taken_up all) in
      let c = sum_by-filter_both taken_up (λ o. not (taken_up o)) (λ o. refl) F all in
      let a = sum_by-append F (map (from_book Buy) s.book.buys) (map (from_book Sell) s.book.sells ++ map from_answer s.answers) in
      let b = sum_by-append F (map (from_book Sell) s.book.sells) (map from_answer s.answers) in
      let x = fold-map (λ n o. n + F o) (from_book Buy) 0 s.book.buys in
      let y = fold-map (λ n o. n + F o) (from_book Sell) 0 s.book.sells in
      let z = fold-map (λ n o. n + F o) from_answer 0 s.answers in
      omega arith

  pub each_on : (P : Eligible → Type 0) → AllByRecursion (λ o. P (as_eligible (from_book Buy o))) s.book.buys → AllByRecursion (λ o. P (as_eligible (from_book Sell o))) s.book.sells →
      AllByRecursion (λ a. P (as_eligible (from_answer a))) s.answers → AllByRecursion P on
  each_on P b c a =
      All-map P as_eligible (filter taken_up all) (all_kept_by taken_up _ all
      (All-append _ (map (from_book Buy) s.book.buys) _ (All-map _ (from_book Buy) s.book.buys b)
      (All-append _ (map (from_book Sell) s.book.sells) _ (All-map _ (from_book Sell) s.book.sells c) (All-map _ from_answer s.answers a))))

  module _ (g : Sound s) where
    on_whole : AllByRecursion (λ o. o.left.0 % s.book.lot ≡ 0) on
    on_whole = each_on (λ o. o.left.0 % s.book.lot ≡ 0) (All-weaker _ _ (λ x h. h.1) s.book.buys g.buys) (All-weaker _ _ (λ x h. h.1) s.book.sells g.sells) (All-weaker _ _ (λ x h. h.1) s.answers g.answers)

    pub priced : finds.Priced d (request_before d) on
    priced = record {
      apart = λ k. (let o = sum_on (λ n l. cond (eqb n k) 1 0) in let c = g.apart k in grind (arith, count_sum));
      order = request_order d;
      better_is_first = request_better d;
    }

    apart : Distinct named (ranked_for s r d)
    apart = finds.ranked_apart d (request_before d) on priced

    module _ (w : r.left.0 % s.book.lot ≡ 0) (price least : ℕ) where
      pub decides : Decides d (request_before d) on (Good d s.book.lot price least r.left.0 on) (decision_at s r d price least)
      decides = finds.walk_decides d (request_before d) on priced s.book.lot price least r.left.0 (record { some = g.lot; whole_most = w; whole = on_whole })

      pub fair_at : TradesFairly d on (Good d s.book.lot price least r.left.0 on) (traded (ranked_for s r d) (decision_at s r d price least))
      fair_at = fair_decided d on _ (decision_at s r d price least) apart (λ x h. h.some) decides

    -- an automatic request: its quantity is its least and its most, and without enough firms no draw is good
    module _ (w : r.left.0 % s.book.lot ≡ 0) (some : 0 < r.left.0) (limit least : ℕ) where
      abbrev GoodHere : Draw → Type 0
      GoodHere = GoodAutomatic d s.book.lot limit r.left.0 least (firms r.number.0 s.answers) on

      pub decides_in_turn : Decides d (request_before d) on GoodHere (decision_in_turn s r d limit least)
      decides_in_turn =
          cond_both (leb least (firms r.number.0 s.answers)) (decision_at s r d limit r.left.0) None (λ x. Decides d (request_before d) on GoodHere x)
          (λ e.
          finds.decides_alike d (request_before d) on _ GoodHere
          (λ x h. finds.good_automatic d s.book.lot limit r.left.0 least _ on x (leb-true _ _ e) h)
          (λ x h. finds.automatic_good d s.book.lot limit r.left.0 least _ on x h some)
          (decision_at s r d limit r.left.0) (decides w limit r.left.0))
          (λ e x h. (let k = leb-false least _ e in let f = h.enough in omega arith))

      pub fair_in_turn : TradesFairly d on GoodHere (traded (ranked_for s r d) (decision_in_turn s r d limit least))
      fair_in_turn = fair_decided d on GoodHere (decision_in_turn s r d limit least) apart (λ x h. (let q = h.exact in omega arith)) decides_in_turn

    -- what fits: at a confirmation and in a turn
    pub fits_at : r.left.0 % s.book.lot ≡ 0 → (price least : ℕ) → (units_of (decision_at s r d price least) ≤ r.left.0) × (units_of (decision_at s r d price least) % s.book.lot ≡ 0)
    fits_at w price least = decided_fits d s.book.lot price least r.left.0 on (decision_at s r d price least) (decides w price least)

    pub fits_in_turn : r.left.0 % s.book.lot ≡ 0 → (limit least : ℕ) → (units_of (decision_in_turn s r d limit least) ≤ r.left.0) × (units_of (decision_in_turn s r d limit least) % s.book.lot ≡ 0)
    fits_in_turn w limit least =
        cond_both (leb least (firms r.number.0 s.answers)) (decision_at s r d limit r.left.0) None (λ x. (units_of x ≤ r.left.0) × (units_of x % s.book.lot ≡ 0))
        (λ _. fits_at w limit r.left.0) (λ _. (omega arith, zero-mod s.book.lot))

    -- fills of no more than n units take no more than is there, given that the taker has n
    module _ (n : ℕ) (w : n % s.book.lot ≡ 0) where
      pub traded_touch : (k : ℕ) → touched (pour r.number.0 (ranked_for s r d) n) k ≤ cond (eqb r.number.0 k) n 0 + (came_as an_offer s.book.buys k + came_as an_offer s.book.sells k + came_as an_answer s.answers k)
      traded_touch k =
          let t = touched_fills r.number.0 (fills (ranked_for s r d) n) k in
          let b = taken_below (ranked_for s r d) n k in
          let u = fills_units (ranked_for s r d) n in
          let c = came_shuffled an_eligible on (ranked_for s r d) (ranked_shuffled (request_before d) on) k in
          let o = sum_on (λ m l. cond (eqb m k) l 0) in
          grind (arith, nat_tests, came_sum)

      pub traded_whole : Whole s.book.lot (pour r.number.0 (ranked_for s r d) n)
      traded_whole = fills_whole_lots s.book.lot r.number.0 (ranked_for s r d) n w (all_shuffled _ on (ranked_for s r d) (ranked_shuffled (request_before d) on) on_whole)
