-- A ladder as it is made: the ends of a side decide its prices, and its rungs are offers in range with numbers apart.
use Rattle.std.proofs.Common.{◌≡◌, ℕ, zero, suc, ◌+◌, ◌-◌, ◌*◌, ◌<◌, ◌≤◌, Bool, true, false, cond, ◌&&◌, eqb, leb, List, [], ◌∷◌, ◌++◌, map, length, drop, replicate, Some, None, sym, refl, ap, ◌∙◌, subst, ⊎_elim, mul-le-mul_right, arith}
use Rattle.std.specs.List.{range_with_len}
use Rattle.std.proofs.lemmas.List.FromFn.{length-map-range_with_len}
use Rattle.std.proofs.lemmas.List.{append-nil, drop-replicate, length-append, length-replicate}
use Rattle.std.proofs.lemmas.Bool.{ne_eqb, eqb-true, leb-true, and_parts, and_from, and_left, or_cases, or_from, not_from_false, both_ways, cases_Bool, cases_lt, cond-false}
use Rattle.units.specs.Ranges.{is_price, is_quantity, is_lot, within}
use Rattle.units.specs.declared.side.Side.{Side}
use Rattle.units.specs.declared.side.Side.TheVariants.{Buy, Sell}
use Rattle.book.specs.declared.Offer.{Offer}
use Rattle.book.specs.declared.MakeError.TheVariants.{Price, Quantity, Full}
use Rattle.book.specs.declared.sides.Sides.{Sides}
use Rattle.ladder.specs.declared.rungs.Rungs.{Rungs}
use Rattle.book.specs.Meaning.{has}
use Rattle.book.specs.Laws.{all_in_range, distinct, sound}
use Rattle.ladder.specs.Rungs.{first_number, rung_price, rung, standing, rungs_of, each_below, prices_in_range, quantity_in_range, ladder_refused, ladder_of, EndsDecide}
use Rattle.book.proofs.Ranges.{within_parts, within_from, range_from}
use Rattle.book.proofs.Sublists.{has_append}
use Rattle.book.proofs.Sound.{sound_from}

-- Prices

module _ (P : ℕ → Bool) where
  each_all : (n : ℕ) → ((k : ℕ) → k < n → P k ≡ true) → each_below P n ≡ true
  each_all zero h = refl
  each_all (suc n) h = and_from _ _ (h n (omega arith)) (each_all n (λ k w. h k (omega arith)))

  pub each_at : (n k : ℕ) → each_below P n ≡ true → k < n → P k ≡ true
  each_at zero k h w = absurd (omega arith)
  each_at (suc n) k h w =
      let p = and_parts (P n) (each_below P n) h in
      ⊎_elim (λ l. each_at n k p.1 l) (λ g. let e : n ≡ k = omega arith in subst (λ (j : ℕ). P j ≡ true) e p.0) (cases_lt k n)

  each_not : (n k : ℕ) → k < n → P k ≡ false → each_below P n ≡ false
  each_not n k w f = ⊎_elim (λ e. absurd (both_ways (P k) f (each_at n k e w))) (λ e. e) (cases_Bool (each_below P n))

-- a rung between two in range is in range
between : (s : Side) (f st n k : ℕ) → k ≤ n → is_price f ≡ true → is_price (rung_price s f st n) ≡ true → is_price (rung_price s f st k) ≡ true
between Buy f st n k w a b =
    let m : k * st ≤ n * st = mul-le-mul_right st w in
    let p = within_parts 1 1000000000 f a in
    let q = within_parts 1 1000000000 (f - n * st) b in
    within_from 1 1000000000 (f - k * st) (omega arith) (omega arith)
between Sell f st n k w a b =
    let m : k * st ≤ n * st = mul-le-mul_right st w in
    let p = within_parts 1 1000000000 f a in
    let q = within_parts 1 1000000000 (f + n * st) b in
    within_from 1 1000000000 (f + k * st) (omega arith) (omega arith)

price_first : (s : Side) (f st : ℕ) → rung_price s f st 0 ≡ f
price_first Buy f st = omega arith
price_first Sell f st = omega arith

module _ (s : Side) (r : Rungs) (some : 0 < r.count) where
  pub ends_first : is_price r.first.0 ≡ false → prices_in_range s r ≡ false
  ends_first e = each_not (λ k. is_price (rung_price s r.first.0 r.step.0 k)) r.count 0 some (ap is_price (price_first s r.first.0 r.step.0) ∙ e)

  pub ends_last : is_price r.first.0 ≡ true → prices_in_range s r ≡ is_price (rung_price s r.first.0 r.step.0 (r.count - 1))
  ends_last e =
      ⊎_elim
      (λ t. each_all (λ k. is_price (rung_price s r.first.0 r.step.0 k)) r.count (λ k w. between s r.first.0 r.step.0 (r.count - 1) k (omega arith) e t) ∙ sym t)
      (λ t. each_not (λ k. is_price (rung_price s r.first.0 r.step.0 k)) r.count (r.count - 1) (omega arith) t ∙ sym t)
      (cases_Bool (is_price (rung_price s r.first.0 r.step.0 (r.count - 1))))

pub ends_decide : EndsDecide
ends_decide s r some =
    ⊎_elim
    (λ e. ends_last s r some e ∙ sym (ap (λ (b : Bool). b && is_price (rung_price s r.first.0 r.step.0 (r.count - 1))) e))
    (λ e. ends_first s r some e ∙ sym (and_left _ _ e))
    (cases_Bool (is_price r.first.0))

-- Offers

module _ (s : Side) (f st q : ℕ) where
  none_standing : (k m : ℕ) → standing s f st k (replicate m 0) ≡ []
  none_standing k zero = refl
  none_standing k (suc m) = none_standing (k + 1) m

  filled_standing : (k n m : ℕ) → (0 < n → 0 < q) → standing s f st k (replicate n q ++ replicate m 0) ≡ map (λ j. rung s f st j q) (range_with_len k n)
  filled_standing k zero m p = none_standing k m
  filled_standing k (suc n) m p =
      let z : 0 < q = p (omega arith) in
      cond-false (eqb q 0) _ _ (ne_eqb q 0 (λ e. omega arith)) ∙ ap (λ (os : List Offer). rung s f st k q ∷ os) (filled_standing (k + 1) n m (λ _. z))

  raised_below : (a n m : ℕ) → m < first_number s + a → has (map (λ j. rung s f st j q) (range_with_len a n)) m ≡ false
  raised_below a zero m w = refl
  raised_below a (suc n) m w = or_from _ _ (ne_eqb (first_number s + a) m (λ e. omega arith)) (raised_below (a + 1) n m (omega arith))

  raised_apart : (a n : ℕ) (os : List Offer) → ((m : ℕ) → m < first_number s + a + n → has os m ≡ false) → distinct os ≡ true → distinct (map (λ j. rung s f st j q) (range_with_len a n) ++ os) ≡ true
  raised_apart a zero os h d = d
  raised_apart a (suc n) os h d =
      and_from _ _
      (not_from_false _ (has_append (map (λ j. rung s f st j q) (range_with_len (a + 1) n)) os (first_number s + a) (raised_below (a + 1) n (first_number s + a) (omega arith)) (h (first_number s + a) (omega arith))))
      (raised_apart (a + 1) n os (λ m w. h m (omega arith)) d)

  raised_ranged : (lot a n : ℕ) → first_number s ≤ 65 → 1 ≤ first_number s → a + n ≤ 64 → ((k : ℕ) → k < a + n → is_price (rung_price s f st k) ≡ true) → is_quantity lot q ≡ true → all_in_range lot (map (λ j. rung s f st j q) (range_with_len a n)) ≡ true
  raised_ranged lot a zero u v w h p = refl
  raised_ranged lot a (suc n) u v w h p =
      and_from _ _
      (range_from lot (rung s f st a q) (record { number = within_from 1 2000000 (first_number s + a) (omega arith) (omega arith); firm = refl; price = h a (omega arith); left = p }))
      (raised_ranged lot (a + 1) n u v (omega arith) (λ k l. h k (omega arith)) p)

first_most : (s : Side) → first_number s ≤ 65
first_most Buy = omega arith
first_most Sell = omega arith

first_least : (s : Side) → 1 ≤ first_number s
first_least Buy = omega arith
first_least Sell = omega arith

-- one side, where its checks pass
module _ (s : Side) (lot : ℕ) (r : Rungs) (few : r.count ≤ 64) (quantity : quantity_in_range lot r ≡ true) where
  some_quantity : 0 < r.count → 0 < r.quantity.0
  some_quantity w =
      ⊎_elim (λ e. absurd (let z = eqb-true r.count 0 e in omega arith))
      (λ e. let p = and_parts (within 1 1000000 r.quantity.0) _ e in let b = within_parts 1 1000000 r.quantity.0 p.0 in omega arith)
      (or_cases (eqb r.count 0) (is_quantity lot r.quantity.0) quantity)

  pub raised_side : (ls : List ℕ) → ls ≡ replicate r.count r.quantity.0 ++ drop r.count (replicate 64 0) → standing s r.first.0 r.step.0 0 ls ≡ rungs_of s r
  raised_side ls e =
      ap (standing s r.first.0 r.step.0 0) (e ∙ ap (λ (xs : List ℕ). replicate r.count r.quantity.0 ++ xs) (drop-replicate r.count 64 0))
      ∙ filled_standing s r.first.0 r.step.0 r.quantity.0 0 r.count (64 - r.count) some_quantity

  pub raised_places : (ls : List ℕ) → ls ≡ replicate r.count r.quantity.0 ++ drop r.count (replicate 64 0) → length ls ≡ 64
  raised_places ls e =
      let z : List ℕ = replicate (64 - r.count) 0 in
      let g : ls ≡ replicate r.count r.quantity.0 ++ z = e ∙ ap (λ (xs : List ℕ). replicate r.count r.quantity.0 ++ xs) (drop-replicate r.count 64 0) in
      ap (λ (xs : List ℕ). length xs) g ∙ length-append (replicate r.count r.quantity.0) z ∙ omega (arith, length-replicate r.count r.quantity.0, length-replicate {A = ℕ} (64 - r.count) 0)

  pub side_ranged : prices_in_range s r ≡ true → all_in_range lot (rungs_of s r) ≡ true
  side_ranged h =
      ⊎_elim
      (λ e. ap (λ (n : ℕ). all_in_range lot (map (λ j. rung s r.first.0 r.step.0 j r.quantity.0) (range_with_len 0 n))) (eqb-true r.count 0 e))
      (λ e. raised_ranged s r.first.0 r.step.0 r.quantity.0 lot 0 r.count (first_most s) (first_least s) (omega arith) (λ k w. each_at (λ j. is_price (rung_price s r.first.0 r.step.0 j)) r.count k h (omega arith)) e)
      (or_cases (eqb r.count 0) (is_quantity lot r.quantity.0) quantity)

-- what a ladder that is not refused tells
pub record Fit (plan : Sides Rungs) : Type 0 where
  pub lot_fits : is_lot plan.lot.0 ≡ true
  pub buy_few : plan.buys.count ≤ 64
  pub sell_few : plan.sells.count ≤ 64
  pub buy_prices : prices_in_range Buy plan.buys ≡ true
  pub sell_prices : prices_in_range Sell plan.sells ≡ true
  pub buy_quantity : quantity_in_range plan.lot.0 plan.buys ≡ true
  pub sell_quantity : quantity_in_range plan.lot.0 plan.sells ≡ true

passed : (a b c : Bool) → cond a (cond b (cond c None (Some Full)) (Some Quantity)) (Some Price) ≡ None → (a ≡ true) × (b ≡ true) × (c ≡ true)
passed true true true e = (refl, refl, refl)
passed true true false e = let z : ◌≡◌ {A = ℕ} 0 1 = cc in absurd (omega arith)
passed true false c e = let z : ◌≡◌ {A = ℕ} 0 1 = cc in absurd (omega arith)
passed false b c e = let z : ◌≡◌ {A = ℕ} 0 1 = cc in absurd (omega arith)

pub fit : (plan : Sides Rungs) → ladder_refused plan ≡ None → Fit plan
fit plan e =
    let lot = plan.lot.0 in
    let buys = plan.buys in
    let sells = plan.sells in
    let a = prices_in_range Buy buys in
    let b = prices_in_range Sell sells in
    let c = quantity_in_range lot buys in
    let d = quantity_in_range lot sells in
    let g = leb buys.count 64 in
    let h = leb sells.count 64 in
    let t = passed (a && b) (is_lot lot && (c && d)) (g && h) e in
    let p = and_parts a b t.0 in
    let q = and_parts (is_lot lot) (c && d) t.1 in
    let r = and_parts c d q.1 in
    let f = and_parts g h t.2 in
    record { lot_fits = q.0; buy_few = leb-true buys.count 64 f.0; sell_few = leb-true sells.count 64 f.1; buy_prices = p.0; sell_prices = p.1; buy_quantity = r.0; sell_quantity = r.1 }

few_rungs : (s : Side) (r : Rungs) → r.count ≤ 64 → length (rungs_of s r) ≤ 64
few_rungs s r w = let l = length-map-range_with_len (λ k. rung s r.first.0 r.step.0 k r.quantity.0) 0 r.count in omega arith

pub sound_raised : (plan : Sides Rungs) → ladder_refused plan ≡ None → sound 64 (ladder_of plan) ≡ true
sound_raised plan e =
    let lot = plan.lot.0 in
    let buys = plan.buys in
    let sells = plan.sells in
    let p = fit plan e in
    let w = p.buy_few in
    let own : distinct (rungs_of Sell sells) ≡ true =
    ap distinct (sym (append-nil (rungs_of Sell sells))) ∙ raised_apart Sell sells.first.0 sells.step.0 sells.quantity.0 0 sells.count [] (λ m v. refl) refl in
    sound_from 64 (ladder_of plan) (record {
      lot = p.lot_fits;
      few = elim [ Buy ↦ few_rungs Buy buys p.buy_few | Sell ↦ few_rungs Sell sells p.sell_few ];
      ranged = elim [ Buy ↦ side_ranged Buy lot buys p.buy_few p.buy_quantity p.buy_prices | Sell ↦ side_ranged Sell lot sells p.sell_few p.sell_quantity p.sell_prices ];
      apart = raised_apart Buy buys.first.0 buys.step.0 buys.quantity.0 0 buys.count (rungs_of Sell sells) (λ m v. raised_below Sell sells.first.0 sells.step.0 sells.quantity.0 0 sells.count m (omega arith)) own;
    })
