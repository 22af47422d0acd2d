-- A sound market's trades can be settled, and the end of a request takes nothing from the book.
use Rattle.std.proofs.Common.{◌≡◌, ℕ, ◌+◌, ◌-◌, ◌%◌, ◌<◌, ◌≤◌, min, Bool, true, false, cond, eqb, List, [], ◌∷◌, map, Some, Option, sym, refl, ◌∙◌, subst, ap₂, inl, inr, arith}
use Rattle.std.specs.List.{AllByRecursion}
use Rattle.std.proofs.ByRecursion.{All-weaker, All-append, All-map, all_kept_by, all_shuffled}
use Rattle.std.proofs.lemmas.Bool.{cond-true, eq-eqb, eqb-false, cases_eq, lt-ltb, and_from}
use Rattle.units.specs.declared.side.Side.{Side}
use Rattle.units.specs.declared.side.Side.TheVariants.{Buy, Sell}
use Rattle.units.specs.declared.Quantity.{Quantity}
use Rattle.units.specs.declared.Money.{Money}
use Rattle.units.specs.Sides.{other}
use Rattle.ranked.proofs.Placing.{ranked_shuffled}
use Rattle.book.specs.declared.Offer.{Offer}
use Rattle.book.specs.Meaning.{side_of}
use Rattle.draw.specs.declared.offers.Eligible.{Eligible}
use Rattle.draw.specs.Offers.{as_eligible}
use Rattle.draw.specs.Rankings.{request_before}
use Rattle.draw.specs.Fills.{fills}
use Rattle.rules.specs.declared.records.Answer.{Answer}
use Rattle.rules.specs.declared.records.Request.{Request}
use Rattle.rules.specs.declared.reports.KillReason.TheVariants as reasons
use Rattle.rules.specs.declared.reports.Report.{Report}
use Rattle.rules.specs.State.{Kept, State, an_offer, an_answer, a_request}
use Rattle.rules.specs.Reports.{remain, pour, filled_by, filled}
use Rattle.rules.specs.Offers.{under, first, offered_to, from_book, from_answer, taker_of}
use Rattle.rules.specs.Step.{less, ends, with_end, on_offer, ranked_for, trade, decision_at, decision_in_turn}
use Rattle.rules.specs.Sound as rules
use Rattle.rules.specs.Takes.{Without}
use Rattle.rules.specs.History.{came_as}
use Rattle.rules.proofs.Left.{touched, count, none_counted, came_none, remain_remain, remain_same}
use Rattle.rules.proofs.Pours.{Whole, count_kept}
use Rattle.rules.proofs.Fine.{Sound, Fine, Lots, less_sound, ends_touch, offer_laws}
use Rattle.rules.proofs.Fairs.{units_of, trade_is, fits_at, fits_in_turn}
use Rattle.rules.proofs.Sounds.{sound_counts}
use Rattle.rules.proofs.Keeps.{found_open, traded_fine}
use Rattle.turns.specs.Settled.{book_less, Drawn, Settles}
use Rattle.turns.specs.Follows.{TradesSettle}
use Rattle.turns.proofs.Gathered.{sides_drawn}

-- ── counts ──

named_in : {X : Type 0} (k : Kept X) (xs : List X) → AllByRecursion (λ x. 0 < count k xs (k.number x)) xs
unfolding count
named_in k [] = tt
named_in k (x ∷ xs) = (
  (let z = cond-true {A = ℕ} (eqb (k.number x) (k.number x)) 1 0 (eq-eqb (k.number x) (k.number x) refl) in omega arith),
  All-weaker _ _ (λ y h. omega arith) xs (named_in k xs),
)

both : {X : Type 0} (P Q : X → Type 0) (xs : List X) → AllByRecursion P xs → AllByRecursion Q xs → AllByRecursion (λ x. P x × Q x) xs
both P Q [] a b = tt
both P Q (x ∷ xs) a b = ((a.0, b.0), both P Q xs a.1 b.1)

-- where no number names two, what is left under an offer's number is what is left of it
own_left : (os : List Offer) → ((n : ℕ) → count an_offer os n ≤ 1) → AllByRecursion (λ (o : Offer). came_as an_offer os o.number.0 ≡ o.left.0) os
unfolding count came_as
own_left [] c = tt
own_left (o ∷ os) c = (head, All-weaker _ _ tail os (both _ _ os (own_left os (λ n. (let z = c n in omega arith))) (named_in an_offer os)))
  where
    head : cond (eqb o.number.0 o.number.0) o.left.0 0 + came_as an_offer os o.number.0 ≡ o.left.0
    head =
        let z = cond-true (eqb o.number.0 o.number.0) o.left.0 0 (eq-eqb o.number.0 o.number.0 refl) in
        let y = cond-true {A = ℕ} (eqb o.number.0 o.number.0) 1 0 (eq-eqb o.number.0 o.number.0 refl) in
        let k = c o.number.0 in
        let w = came_none an_offer os o.number.0 (omega arith) in
        omega arith

    tail : (x : Offer) → (came_as an_offer os x.number.0 ≡ x.left.0) × (0 < count an_offer os x.number.0) → cond (eqb o.number.0 x.number.0) o.left.0 0 + came_as an_offer os x.number.0 ≡ x.left.0
    tail x h = go (eqb o.number.0 x.number.0) (c x.number.0)
      where
        go : (b : Bool) → cond b 1 0 + count an_offer os x.number.0 ≤ 1 → cond b o.left.0 0 + came_as an_offer os x.number.0 ≡ x.left.0
        go true k = absurd (let p = h.1 in omega arith)
        go false k = let p = h.0 in omega arith

-- no number stands on both sides, or on a side and among the answers or the requests
sides : (s : State) → Sound s → (d : Side) (k : ℕ) → count an_offer (side_of s.book d) k + count an_offer (side_of s.book (other d)) k + count an_answer s.answers k + count a_request s.requests k ≤ 1
sides s g Buy k = g.apart k
sides s g Sell k = let z = g.apart k in omega arith

lots_of : (s : State) → Sound s → (d : Side) → Lots an_offer s.book.lot (side_of s.book d)
lots_of s g Buy = g.buys
lots_of s g Sell = g.sells

twice : (d : Side) → other (other d) ≡ d
twice Buy = refl
twice Sell = refl

-- ── the fills of a trade ──

-- something is left of it, and its number is not on the side d of the book
abbrev Free : State → Side → Eligible → Type 0
Free s d o = (0 < o.left.0) × (count an_offer (side_of s.book d) o.number.0 ≡ 0)

on_free : (s : State) → Sound s → (r : Request) (d : Side) → AllByRecursion (Free s d) (on_offer s r d)
on_free s g r d =
    subst (AllByRecursion (Free s d)) (sides_drawn (taker_of r d) s.book (other d) refl s.answers)
    (All-append (Free s d) _ _
    (All-map (Free s d) as_eligible _ (all_kept_by _ _ _ (All-map (λ o. Free s d (as_eligible o)) (from_book (other d)) os
    (All-weaker _ _ (λ o h. (h.0.0, (let z = sides s g d o.number.0 in let y = h.1 in omega arith))) os (both _ _ os (lots_of s g (other d)) (named_in an_offer os))))))
    (All-map (Free s d) as_eligible _ (all_kept_by _ _ _ (All-map (λ o. Free s d (as_eligible o)) from_answer xs
    (All-weaker _ _ (λ a h. (h.0.0, (let z = sides s g d a.number.0 in let y = h.1 in omega arith))) xs (both _ _ xs g.answers (named_in an_answer xs)))))))
  where
    os : List Offer
    os = side_of s.book (other d)

    xs : List Answer
    xs = s.answers

pour_drawn : (s : State) (d : Side) (t : ℕ) → count an_offer s.book.buys t ≡ 0 → count an_offer s.book.sells t ≡ 0 → (os : List Eligible) (q : ℕ) → AllByRecursion (Free s d) os → Whole s.book.lot (pour t os q) → AllByRecursion (Drawn s.book (other d)) (pour t os q)
unfolding fills
pour_drawn s d t b c [] q a w = tt
pour_drawn s d t b c (o ∷ os) q a w = go (eqb q 0) refl w (pour_drawn s d t b c os (q - o.left.0) a.1)
  where
    go : (e : Bool) → eqb q 0 ≡ e →
        Whole s.book.lot (map (filled_by t) (cond e [] (record { maker = o.number; price = o.price; quantity = record { 0 = min q o.left.0 } } ∷ fills os (q - o.left.0)))) →
        (Whole s.book.lot (pour t os (q - o.left.0)) → AllByRecursion (Drawn s.book (other d)) (pour t os (q - o.left.0))) →
        AllByRecursion (Drawn s.book (other d)) (map (filled_by t) (cond e [] (record { maker = o.number; price = o.price; quantity = record { 0 = min q o.left.0 } } ∷ fills os (q - o.left.0))))
    go true e w h = tt
    go false e w h = (
      (
        and_from _ _ (lt-ltb 0 (min q o.left.0) (let z = eqb-false q 0 e in let y = a.0.0 in omega arith)) (eq-eqb _ 0 w.0),
        none_counted an_offer s.book.buys t b,
        none_counted an_offer s.book.sells t c,
        subst (λ (x : Side). Without (side_of s.book x) o.number.0) (sym (twice d)) (none_counted an_offer (side_of s.book d) o.number.0 a.0.1),
      ),
      h w.1,
    )

within_side : (s : State) → Sound s → (fs : List Report) → Fine s fs → (d : Side) → AllByRecursion (λ (o : Offer). filled fs o.number.0 ≤ o.left.0) (side_of s.book d)
within_side s g fs f Buy = All-weaker _ _ (λ o h. (
    let n = o.number.0 in
    let z = g.apart n in
    let y = h.1 in
    let a = came_none an_offer s.book.sells n (omega arith) in
    let b = came_none an_answer s.answers n (omega arith) in
    let c = came_none a_request s.requests n (omega arith) in
    let k = f.within n in
    let l = h.0 in
    omega arith)) s.book.buys (both _ _ s.book.buys (own_left s.book.buys (λ n. (let z = g.apart n in omega arith))) (named_in an_offer s.book.buys))
within_side s g fs f Sell = All-weaker _ _ (λ o h. (
    let n = o.number.0 in
    let z = g.apart n in
    let y = h.1 in
    let a = came_none an_offer s.book.buys n (omega arith) in
    let b = came_none an_answer s.answers n (omega arith) in
    let c = came_none a_request s.requests n (omega arith) in
    let k = f.within n in
    let l = h.0 in
    omega arith)) s.book.sells (both _ _ s.book.sells (own_left s.book.sells (λ n. (let z = g.apart n in omega arith))) (named_in an_offer s.book.sells))

trade_settles : (s : State) → Sound s → (r : Request) → 0 < count a_request s.requests r.number.0 → (d : Side) (q : ℕ) → Fine s (pour r.number.0 (ranked_for s r d) q) →
    Settles s.book (other d) (pour r.number.0 (ranked_for s r d) q)
trade_settles s g r named d q f =
    let z = g.apart r.number.0 in
    record {
      fills = pour_drawn s d r.number.0 (omega arith) (omega arith) (ranked_for s r d) q (all_shuffled (Free s d) _ _ (ranked_shuffled (request_before d) (on_offer s r d)) (on_free s g r d)) f.whole;
      within = within_side s g _ f (other d);
    }

-- ── the end of a request ──

module _ (s : State) (g : Sound s) (n : ℕ) where
  abbrev ks : List Report
  ks = ends s n reasons.RequestDone reasons.AnswerDone

  untouched : (k : ℕ) → count an_answer s.answers k ≡ 0 → count a_request s.requests k ≡ 0 → touched ks k ≡ 0
  untouched k p q =
      let t = ends_touch s n reasons.RequestDone reasons.AnswerDone k in
      let a = count_kept a_request (λ (r : Request). eqb r.number.0 n) s.requests k in
      let b = count_kept an_answer (λ (z : Answer). eqb z.request.0 n) s.answers k in
      let x = came_none a_request (under a_request n s.requests) k (omega arith) in
      let y = came_none an_answer (offered_to n s.answers) k (omega arith) in
      omega arith

  kept_side : (d : Side) → remain an_offer ks (side_of s.book d) ≡ side_of s.book d
  kept_side d =
      remain_same an_offer offer_laws ks (side_of s.book d)
      (All-weaker _ _ (λ o h. (h.0.0, (let z = sides s g d o.number.0 in let y = h.1 in untouched o.number.0 (omega arith) (omega arith)))) _
      (both _ _ _ (lots_of s g d) (named_in an_offer (side_of s.book d))))

end_spares : (s : State) → Sound s → (n : ℕ) (fs : List Report) → Fine s fs → book_less fs s.book ≡ (less (with_end s n fs) s).book
end_spares s g n fs f =
    let g' = less_sound s fs g f.whole in
    let es = ends (less fs s) n reasons.RequestDone reasons.AnswerDone in
    ap₂ (λ (x y : List Offer). record { buys = x; sells = y; lot = s.book.lot })
    (sym (kept_side (less fs s) g' n Buy) ∙ remain_remain an_offer offer_laws fs es s.book.buys)
    (sym (kept_side (less fs s) g' n Sell) ∙ remain_remain an_offer offer_laws fs es s.book.sells)

-- ── from the soundness of the rules ──

-- what is decided of an open request is fine
record Open (s : State) (r : Request) : Type 0 where
  amount : r.left.0 ≤ came_as a_request s.requests r.number.0
  whole : r.left.0 % s.book.lot ≡ 0
  named : 0 < count a_request s.requests r.number.0

open_found : (s : State) → Sound s → (n : ℕ) (r : Request) → first (under a_request n s.requests) ≡ Some r → Open s r
open_found s g n r e =
    let o = found_open s.book.lot n s.requests g.requests r e in
    record {
      amount = o.amount;
      whole = o.whole;
      named = elim (cases_eq (count a_request s.requests r.number.0) 0) [
        | inl z ↦ absurd (let y = came_none a_request s.requests r.number.0 z in let a = o.amount in let b = o.some in omega arith)
        | inr z ↦ omega arith
      ];
    }

module _ (s : State) (h : rules.Sound s) (n : ℕ) (r : Request) (e : first (under a_request n s.requests) ≡ Some r) (d : Side) (x : Option (Quantity × Money))
    (fit : Sound s → r.left.0 % s.book.lot ≡ 0 → (units_of x ≤ r.left.0) × (units_of x % s.book.lot ≡ 0)) where
  fine : Fine s (pour r.number.0 (ranked_for s r d) (units_of x))
  fine =
      let g = sound_counts s h in
      let o = open_found s g n r e in
      let f = fit g o.whole in
      traded_fine s g r o.amount o.whole d (units_of x) f.0 f.1

  traded_settles : Settles s.book (other d) (trade s r d x)
  traded_settles =
      let g = sound_counts s h in
      subst (Settles s.book (other d)) (sym (trade_is s r d x)) (trade_settles s g r (open_found s g n r e).named d (units_of x) fine)

  traded_spares : book_less (trade s r d x) s.book ≡ (less (with_end s n (trade s r d x)) s).book
  traded_spares = end_spares s (sound_counts s h) n (trade s r d x) (subst (Fine s) (sym (trade_is s r d x)) fine)

pub trades_settle : TradesSettle
trades_settle = record {
  confirmed = λ s h n r e d price least. traded_settles s h n r e d (decision_at s r d price least) (λ g w. fits_at s r d g w price least);
  served = λ s h n r e d limit least. traded_settles s h n r e d (decision_in_turn s r d limit least) (λ g w. fits_in_turn s r d g w limit least);
  after_confirmed = λ s h n r e d price least. traded_spares s h n r e d (decision_at s r d price least) (λ g w. fits_at s r d g w price least);
  after_served = λ s h n r e d limit least. traded_spares s h n r e d (decision_in_turn s r d limit least) (λ g w. fits_in_turn s r d g w limit least);
}
