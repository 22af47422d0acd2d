-- Soundness is kept, and suffices.
use Rattle.std.proofs.Common.{◌≡◌, ℕ, ◌<◌, ◌*◌, ◌≤◌, true, cond, eqb, false, List, [], ◌∷◌, ◌++◌, Some, None, sym, refl, ap₂, arith}
use Rattle.std.specs.List.{AllByRecursion}
use Rattle.std.proofs.ByRecursion.{All-append, all_kept_by, All-weaker}
use Rattle.std.proofs.lemmas.Bool.Decides.{nat_tests}
use Rattle.units.specs.declared.side.Side.{Side}
use Rattle.units.specs.declared.side.Side.TheVariants.{Buy, Sell}
use Rattle.units.specs.Ranges.{is_lot, is_quantity}
use Rattle.book.specs.declared.Offer.{Offer}
use Rattle.book.specs.Meaning.{has, in_range, side_of}
use Rattle.book.specs.Laws as book
use Rattle.units.specs.Sides.{other}
use Rattle.ranked.specs.Lists.{ranked}
use Rattle.std.proofs.lemmas.List.Sums.{sum_by-cons}
use Rattle.draw.specs.Rankings.{request_before}
use Rattle.draw.specs.Draws.{Draw, size, money, totals, status_draw}
use Rattle.draw.specs.Decisions.{Shows}
use Rattle.draw.proofs.Finds.{same_size, same_money}
use Rattle.draw.proofs.Decided.{shows}
use Rattle.rules.specs.Status.{status_of}
use Rattle.draw.specs.declared.offers.Eligible.{Eligible}
use Rattle.draw.specs.Offers as draws
use Rattle.draw.specs.Offers.{as_eligible, named}
use Rattle.draw.proofs.Bounds.{lot_bounds, price_bounds}
use Rattle.draw.proofs.Sides.{times}
use Rattle.rules.specs.declared.records.Answer.{Answer}
use Rattle.rules.specs.declared.records.Request.{Request}
use Rattle.rules.specs.declared.reports.Report.{Report}
use Rattle.rules.specs.State.{State, Opening, opened, an_offer, an_answer, a_request}
use Rattle.rules.specs.Calls.{Call, Sent, News, brings}
use Rattle.rules.specs.Calls.Call.{order, manual, automatic, answer}
use Rattle.rules.specs.Checks.{checks, refusal}
use Rattle.rules.specs.Offers.{under, first, met, crossing, trading_ranking}
use Rattle.rules.specs.Takes.{Listed}
use Rattle.rules.specs.Step.{Out, on_offer, step, answered, less, received, reported}
use Rattle.rules.specs.Run.{Opens}
use Rattle.rules.specs.Sound.{Sound, SoundIsKept, SoundSuffices, fits, answer_in_range, request_in_range, all_times}
use Rattle.rules.proofs.Left.{count, count_append, remain_all, first_apart}
use Rattle.rules.proofs.Pours.{Whole, sum_crossing, each_crossing, touched_whole, count_sum}
use Rattle.rules.proofs.Fine as fine
use Rattle.rules.proofs.Fairs.{each_on, priced}
use Rattle.rules.proofs.Keeps.{first_of, reported_fine}
use Rattle.rules.proofs.Arrivals.{Free, free, step_cases, passes, received_sound}
use Rattle.rules.proofs.Lawful.{opened_sound, all_in_range_tells, in_range_lots}
use Rattle.rules.proofs.Rooms.{Few, few_accepted, few_opened, length_step}

-- ── ranges ──

record Ranged (lot : ℕ) (bs ss : List Offer) (xs : List Answer) (rs : List Request) : Type 0 where
  buys : AllByRecursion (λ (o : Offer). in_range lot o ≡ true) bs
  sells : AllByRecursion (λ (o : Offer). in_range lot o ≡ true) ss
  answers : AllByRecursion (λ (a : Answer). answer_in_range lot a ≡ true) xs
  requests : AllByRecursion (λ (r : Request). request_in_range lot r ≡ true) rs

abbrev RangedIn : State → Type 0
RangedIn s = Ranged s.book.lot s.book.buys s.book.sells s.answers s.requests

ranged_less : (s : State) (rs : List Report) → Whole s.book.lot rs → RangedIn s → RangedIn (less rs s)
ranged_less s rs w r =
    let lot = s.book.lot in
    let t = touched_whole lot rs w in
    record {
      buys = remain_all an_offer _ lot (λ x e. grind (arith, nat_tests)) (λ x n e p m v. grind (arith, nat_tests)) rs t s.book.buys r.buys;
      sells = remain_all an_offer _ lot (λ x e. grind (arith, nat_tests)) (λ x n e p m v. grind (arith, nat_tests)) rs t s.book.sells r.sells;
      answers = remain_all an_answer _ lot (λ x e. grind (arith, nat_tests)) (λ x n e p m v. grind (arith, nat_tests)) rs t s.answers r.answers;
      requests = remain_all a_request _ lot (λ x e. grind (arith, nat_tests)) (λ x n e p m v. grind (arith, nat_tests)) rs t s.requests r.requests;
    }

-- what a message brings that passed the checks
abbrev NewsRanged : ℕ → News → Type 0
NewsRanged lot w = Ranged lot w.buys w.sells w.answers w.requests

brings_ranged : (s : State) (c : Call) → fits c ≡ true → Free (checks s c) → NewsRanged s.book.lot (brings c s.next s.time)
brings_ranged s (order f (Some Buy) p q) e h = record { buys = (grind (arith, nat_tests), tt); sells = tt; answers = tt; requests = tt }
brings_ranged s (order f (Some Sell) p q) e h = record { buys = tt; sells = (grind (arith, nat_tests), tt); answers = tt; requests = tt }
brings_ranged s (manual f d q m w) e h = record { buys = tt; sells = tt; answers = tt; requests = (grind (arith, nat_tests), tt) }
brings_ranged s (automatic f (Some d) p q m w) e h = record { buys = tt; sells = tt; answers = tt; requests = (grind (arith, nat_tests), tt) }
brings_ranged s (answer f (Some d) n p q) e h = record { buys = tt; sells = tt; answers = (grind (arith, nat_tests), tt); requests = tt }
brings_ranged s _ e h = record { buys = tt; sells = tt; answers = tt; requests = tt }

ranged_received : (s : State) (c : Call) → fits c ≡ true → Free (checks s c) → RangedIn s → RangedIn (received s c)
ranged_received s c e h r =
    let n = brings_ranged s c e h in
    record {
      buys = All-append _ s.book.buys _ r.buys n.buys;
      sells = All-append _ s.book.sells _ r.sells n.sells;
      answers = All-append _ s.answers _ r.answers n.answers;
      requests = All-append _ s.requests _ r.requests n.requests;
    }

-- ── tests over lists ──

none_has : (xs : List Offer) (n : ℕ) → count an_offer xs n ≡ 0 → has xs n ≡ false
unfolding count
none_has [] n e = refl
none_has (x ∷ xs) n e = let h = none_has xs n in grind (arith, nat_tests)

count_distinct : (xs : List Offer) → ((n : ℕ) → count an_offer xs n ≤ 1) → book.distinct xs ≡ true
unfolding count
count_distinct [] h = refl
count_distinct (x ∷ xs) h =
    let r = count_distinct xs (λ n. (let o = h n in omega arith)) in
    let z = none_has xs x.number.0 in
    let o = h x.number.0 in
    grind (arith, nat_tests)

-- ── soundness in parts ──

counted_times : (s : State) (n : ℕ) → fine.counted s n ≡ all_times s n
counted_times s n = grind (arith, count_sum)

-- what holds of the counts, and that each record has whole lots left
pub sound_counts : (s : State) → Sound s → fine.Sound s
sound_counts s g = record {
  lot = (let b = (lot_bounds s.book.lot g.book.lot).0 in omega arith);
  apart = λ n. (let e = counted_times s n in let a = g.apart n in omega arith);
  below = λ n l. (let e = counted_times s n in let a = g.below n l in omega arith);
  buys = in_range_lots _ s.book.buys (g.book.ranged Buy);
  sells = in_range_lots _ s.book.sells (g.book.ranged Sell);
  answers = All-weaker _ _ (λ x e. grind (arith, nat_tests)) s.answers g.answers;
  requests = All-weaker _ _ (λ x e. grind (arith, nat_tests)) s.requests g.requests;
}

in_parts : (s : State) → Sound s → fine.Sound s × Few s × RangedIn s
in_parts s g = (
  sound_counts s g,
  record { requests = g.few_requests; answers = g.few_answers; buys = g.book.few Buy; sells = g.book.few Sell; most = g.few },
  record { buys = (all_in_range_tells _ _).0 (g.book.ranged Buy); sells = (all_in_range_tells _ _).0 (g.book.ranged Sell); answers = g.answers; requests = g.requests },
)

from_parts : (s : State) → is_lot s.book.lot ≡ true → fine.Sound s → Few s → RangedIn s → Sound s
from_parts s l g f r = record {
  few = f.most;
  book = record { lot = l; few = elim [ Buy ↦ f.buys | Sell ↦ f.sells ]; ranged = elim [ Buy ↦ (all_in_range_tells _ _).1 r.buys | Sell ↦ (all_in_range_tells _ _).1 r.sells ]; apart = count_distinct (s.book.buys ++ s.book.sells) (λ n. (let a = g.apart n in grind (arith, count_append))) };
  few_requests = f.requests;
  few_answers = f.answers;
  requests = r.requests;
  answers = r.answers;
  apart = λ n. (let e = counted_times s n in let a = g.apart n in omega arith);
  below = λ n l. (let e = counted_times s n in let a = g.below n l in omega arith);
}

-- ── it is kept ──

pub opened_is_sound : (o : Opening) → Opens o → Sound (opened o)
opened_is_sound o e =
    from_parts (opened o) e.book.lot (opened_sound o e) (few_opened o e)
    (record { buys = (all_in_range_tells _ _).0 (e.book.ranged Buy); sells = (all_in_range_tells _ _).0 (e.book.ranged Sell); answers = tt; requests = tt })

pub step_keeps_sound : (s : State) (m : Sent) → fits m.call ≡ true → Sound s → Sound (step s m).state
step_keeps_sound s m fit g = step_cases (λ (z : Out). Sound z.state) s m (λ _ _. g) accepted
  where
    p : fine.Sound s × Few s × RangedIn s
    p = in_parts s g

    accepted : refusal s m ≡ None → Sound (answered s m.call None).state
    accepted e =
        let c = m.call in
        let k = free s m e in
        let h = passes s c k in
        let s⁺ = received s c in
        let g⁺ : fine.Sound s⁺ = received_sound s c h p.0 in
        let rs = reported s⁺ s.next c in
        let w = reported_fine s c h g⁺ in
        from_parts (less rs s⁺) g.book.lot (fine.less_sound s⁺ rs g⁺ w.whole)
        (few_accepted s m e p.1)
        (ranged_less s⁺ rs w.whole (ranged_received s c fit k p.2))

pub sound_is_kept : SoundIsKept
sound_is_kept = record { at_opening = opened_is_sound; by_messages = step_keeps_sound }

-- ── it suffices ──

ready : (s : State) → Sound s → (n : ℕ) (r : Request) (d : Side) → first (under a_request n s.requests) ≡ Some r → draws.Ready s.book.lot r.left.0 (on_offer s r d)
ready s g n r d e =
    let lot = s.book.lot in
    let p = in_parts s g in
    record {
      lot_fits = g.book.lot;
      fits = first_of (λ (x : Request). is_quantity lot x.left.0 ≡ true) _ r (all_kept_by _ _ s.requests (All-weaker _ _ (λ (x : Request) h. grind (arith, nat_tests)) s.requests g.requests)) e;
      sound = each_on s r d (draws.Sound lot) (All-weaker _ _ (λ x h. record { price = grind (arith, nat_tests); left = grind (arith, nat_tests) }) s.book.buys p.2.buys) (All-weaker _ _ (λ x h. record { price = grind (arith, nat_tests); left = grind (arith, nat_tests) }) s.book.sells p.2.sells) (All-weaker _ _ (λ x h. record { price = grind (arith, nat_tests); left = grind (arith, nat_tests) }) s.answers g.answers);
      apart = (priced s r d p.0).apart;
    }

-- the offers of a side
side_parts : (s : State) → Sound s → (d : Side) → ((n : ℕ) → count an_offer (side_of s.book d) n ≤ 1) × fine.Lots an_offer s.book.lot (side_of s.book d)
side_parts s g d = let p = (in_parts s g).0 in (few d, fine.side_lots s p d)
  where
    few : (d : Side) (n : ℕ) → count an_offer (side_of s.book d) n ≤ 1
    few Buy n = let a = (in_parts s g).0.apart n in omega arith
    few Sell n = let a = (in_parts s g).0.apart n in omega arith

-- and those that an order crosses
pourable : (s : State) → Sound s → (d : Side) (p : ℕ) → draws.Pourable (trading_ranking d (crossing d p (met (other d) (side_of s.book (other d)))))
pourable s g d p =
    let theirs = side_of s.book (other d) in
    let h = side_parts s g (other d) in
    record {
      apart = λ n. (let c = sum_crossing d (other d) p theirs (λ m l. cond (eqb m n) 1 0) in let f = h.0 n in grind (arith, count_sum));
      some = each_crossing d (other d) p theirs (λ o. 0 < o.left.0) (All-weaker _ _ (λ x v. v.0) theirs h.1);
    }

listed : (lot : ℕ) (os : List Offer) → ((n : ℕ) → count an_offer os n ≤ 1) → fine.Lots an_offer lot os → Listed os
listed lot [] c a = tt
listed lot (o ∷ os) c a = let d = first_apart an_offer o os c in (d.0, a.0.0, listed lot os d.1 a.1)

-- ── statuses ──

money_bound : (lot : ℕ) (os : List Eligible) (x : Draw) → AllByRecursion (draws.Sound lot) os → money os x ≤ 1000000000 * size os x
money_bound lot [] x a = omega arith
money_bound lot (o ∷ os) x a =
    let h = money_bound lot os x a.1 in
    let b = (price_bounds o.price.0 a.0.price).1 in
    let t = times Buy o.price.0 1000000000 (x (named o)) b in
    let m = sum_by-cons (λ (y : Eligible). y.price.0 * x (named y)) o os in
    let n = sum_by-cons (λ (y : Eligible). x (named y)) o os in
    omega arith

shown : (s : State) → Sound s → (n : ℕ) (r : Request) (d : Side) → first (under a_request n s.requests) ≡ Some r →
    Shows d (request_before d) r.left.0 (on_offer s r d) ((status_of s r d).size, (status_of s r d).money)
shown s g n r d e =
    let on = on_offer s r d in
    let k = priced s r d (in_parts s g).0 in
    let x = status_draw (request_before d) on r.left.0 in
    shows d (request_before d) on k r.left.0 (ranked (request_before d) on) (totals on x) refl
    (ap₂ (λ (a b : ℕ). (record { 0 = a }, record { 0 = b })) (sym (same_size d (request_before d) on k x)) (sym (same_money d (request_before d) on k x)))
    (money_bound s.book.lot on x (ready s g n r d e).sound)

pub sound_suffices : SoundSuffices
sound_suffices = record {
  draws = ready;
  orders = pourable;
  takes = λ s g d. (let p = side_parts s g d in listed s.book.lot (side_of s.book d) p.0 p.1);
  room = λ s m g. (let p = in_parts s g in length_step s m p.0 p.1);
  statuses = shown;
}
