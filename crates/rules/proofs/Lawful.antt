-- The law of runs, about the step.
use Rattle.std.proofs.Common.{◌≡◌, ℕ, ◌+◌, ◌%◌, ◌<◌, ◌≤◌, min, max, Bool, true, false, List, [], ◌∷◌, ◌++◌, map, Some, None, Err, sym, refl, ap, ◌∙◌, subst, append_assoc, append-nil, arith}
use Rattle.std.specs.List.{AllByRecursion}
use Rattle.std.specs.Bool.{Decides}
use Rattle.std.proofs.lemmas.Bool.Decides.{nat_tests}
use Rattle.std.proofs.ByRecursion.{Decides-by_and, All-weaker, kept_by_passes, all_shuffled}
use Rattle.std.proofs.lemmas.List.Sorted.{sum_by-IsPermutation}
use Rattle.std.proofs.lemmas.Bool.{or_parts, both_ways}
use Rattle.units.specs.declared.side.Side.{Side}
use Rattle.units.specs.declared.side.Side.TheVariants.{Buy, Sell}
use Rattle.units.specs.declared.refusal.Refusal.{Refusal}
use Rattle.ranked.proofs.Placing.{ranked_shuffled}
use Rattle.book.specs.declared.Offer.{Offer}
use Rattle.book.specs.Meaning.{has, in_range}
use Rattle.book.specs.Laws.{distinct, all_in_range}
use Rattle.draw.specs.declared.offers.Eligible.{Eligible}
use Rattle.draw.specs.Sides.{NoWorse, no_worse}
use Rattle.draw.specs.Rankings.{trading_before}
use Rattle.draw.specs.Fills.{fills}
use Rattle.draw.proofs.Sides.{test_true}
use Rattle.draw.proofs.Bounds.{lot_bounds}
use Rattle.rules.specs.declared.records.Request.{Request}
use Rattle.rules.specs.declared.records.Terms.{Terms}
use Rattle.rules.specs.declared.records.Terms.TheVariants.{Manual, Automatic}
use Rattle.rules.specs.declared.reports.Report.{Report}
use Rattle.rules.specs.State.{Kept, State, Opening, opened, an_offer, an_answer, a_request, greatest}
use Rattle.rules.specs.Reports.{remain, filled, killed, fills_by, filled_by}
use Rattle.rules.specs.Offers.{under, first, any, none, is_automatic, automatic_terms, expiring, in_turn, met, crossing, trading_ranking}
use Rattle.rules.specs.Calls.{Call, Sent, News, brings, given, next_of, time_of}
use Rattle.rules.specs.Calls.Call.{order, answer, confirmation, clock}
use Rattle.rules.specs.Checks.{refusal}
use Rattle.rules.specs.Step.{Out, step, acceptance, reported, received, less, matched, turn, turn_of, confirmed, confirmed_by, one_by_one, expiries, turns_after}
use Rattle.rules.specs.History.{Event, History, Ledger, newly, after, messages, ledger, time, with_call, with_reports, open_requests, standing, next_number, came_as, quantity, stands, standing_market}
use Rattle.rules.specs.Law.{Each, Accepts, Ordered, PriceTime, Answered, Confirmed, ConfirmedBy, expired_at, Account, Lawful}
use Rattle.rules.specs.Run.{Opens, Leads, Reached, StepIsLawful, run, event_of, recorded, RunsAreLawful}
use Rattle.rules.specs.Run.Leads.{opens, goes}
use Rattle.rules.proofs.Left.{touched, touched_append, filled_append, killed_append, count, count_append, came_none, came_append, remain_append, remain_same, KeptLaws}
use Rattle.rules.proofs.Pours.{own_fills, by_fills, fills_prices, fills_units}
use Rattle.rules.proofs.Fine.{Sound, Fine, Lots, less_sound, less_open, offer_laws, answer_laws, request_laws}
use Rattle.rules.proofs.Turns.{told, made_same, told_less, confirmed_law, turn_law, turns_law, expired_law, expired_others}
use Rattle.rules.proofs.Keeps.{at_request, in_turn_due, expiries_fine, reported_fine}
use Rattle.rules.proofs.Arrivals.{Passes, free, step_cases, passes, received_sound, received_open, next_grows, next_with, news_came, New, NewsFit, brings_fit, brings_given}

-- ── an order ──

-- emptying the offers that cross in trading ranking is price by time
price_time : (d : Side) (p q : ℕ) (os : List Eligible) → PriceTime d p q os (fills (trading_ranking d (crossing d p os)) q)
price_time d p q os =
    let same = ranked_shuffled (trading_before d) (crossing d p os) in
    record {
      in_order = refl;
      no_worse = fills_prices (λ (x : ℕ). NoWorse d x p) (trading_ranking d (crossing d p os)) q
          (all_shuffled _ (crossing d p os) _ same (All-weaker _ _ (λ (o : Eligible) e. test_true d o.price.0 p e) (crossing d p os) (kept_by_passes (λ (o : Eligible). no_worse d o.price.0 p) os)));
      units = fills_units (trading_ranking d (crossing d p os)) q ∙ ap (min q) (sum_by-IsPermutation (λ (o : Eligible). o.left.0) (crossing d p os) _ same);
    }

ordered : (l : Ledger) (b : State) (n : ℕ) (d : Side) (p q : ℕ) → Ordered l n (Some d) p q (matched (told l b) n (Some d) p q)
ordered l b n d p q = go d
  where
    law : (d : Side) (os : List Eligible) → let fs = fills (trading_ranking d (crossing d p os)) q in
        PriceTime d p q os (fills_by n (map (filled_by n) fs)) × (map (filled_by n) fs ≡ map (filled_by n) (fills_by n (map (filled_by n) fs)))
    law d os = let fs = fills (trading_ranking d (crossing d p os)) q in by_fills (PriceTime d p q os) n (map (filled_by n)) fs refl (own_fills n fs) (price_time d p q os)

    go : (d : Side) → Ordered l n (Some d) p q (matched (told l b) n (Some d) p q)
    go Buy = law Buy (met Sell (standing l Sell))
    go Sell = law Sell (met Buy (standing l Buy))

-- ── an accepted message, by the ledger that has what came with it ──

none_first : (xs : List Request) → none xs ≡ false → first xs ≡ None → ⊥
none_first [] e f = grind arith
none_first (x ∷ xs) e f = grind arith

first_not : (p : Request → Bool) (xs : List Request) (r : Request) → first xs ≡ Some r → any p xs ≡ false → p r ≡ false
first_not p [] r e h = absurd (grind arith)
first_not p (x ∷ xs) r e h = let q : x ≡ r = cc in ap p (sym q) ∙ (or_parts (p x) (any p xs) h).0

accepts : (c : Call) (l : Ledger) (b : State) (n : ℕ) → Sound (told l b) → Passes (told l b) c → Accepts b.book.lot l (given c n) c (reported (told l b) n c)
accepts (order f None p q) l b n g h = absurd (both_ways true h.1 refl)
accepts (order f (Some d) p q) l b n g h = ordered l b n d p.0 q.0
accepts (answer f d k p q) l b n g h =
    at_request (λ r. Answered b.book.lot l r (turn_of (told l b) r)) b.book.lot k.0 (open_requests l) g.requests (λ e. absurd (none_first _ h.1 e)) (λ r e o. turn_law l b g r o.some o.whole)
accepts (confirmation f None k p) l b n g h = absurd (grind arith)
accepts (confirmation f (Some d) k p) l b n g h =
    at_request (λ r. Confirmed b.book.lot l (Some d) p.0 r (confirmed (told l b) (Some d) p.0 r)) b.book.lot k.0 (open_requests l) g.requests (λ e. absurd (none_first _ h.1 e))
    (λ r e o. by r o.whole (first_not is_automatic (under a_request k.0 (open_requests l)) r e h.2) r.terms refl)
  where
    by : (r : Request) → r.left.0 % b.book.lot ≡ 0 → is_automatic r ≡ false → (t : Terms) → r.terms ≡ t → ConfirmedBy b.book.lot l d p.0 r t (confirmed_by (told l b) d p.0 r t)
    by r w hand (Manual x m) i = confirmed_law l b g d p.0 r x m w
    by r w hand (Automatic x y m) i = absurd (both_ways (is_automatic r) hand (ap automatic_terms i))
accepts (clock w) l b n g h = (
  one_by_one turn due after_them,
  is,
  turns_law (turns_after s (expiries t s)) due X (with_reports l X) b there (in_turn_due after_them there) (clean due) is,
)
  where
    t : ℕ
    t = w.0

    s : State
    s = told l b

    X : List Report
    X = expired_at t l

    eE : expiries t s ≡ X
    eE = expired_law (expiring t (open_requests l)) l b

    after_them : State
    after_them = told (with_reports l X) b

    due : List Request
    due = in_turn (open_requests (with_reports l X))

    is : turns_after s (expiries t s) ≡ X ++ one_by_one turn due after_them
    is = ap (turns_after s) eE ∙ ap (λ (z : State). X ++ one_by_one turn (in_turn z.requests) z) (told_less l b X)

    there : Sound after_them
    there = subst Sound (ap (λ (z : List Report). less z s) eE ∙ told_less l b X) (less_sound s (expiries t s) g (expiries_fine t s g).whole)

    clean : (rs : List Request) → AllByRecursion (λ (r : Request). fills_by r.number.0 X ≡ []) rs
    clean [] = tt
    clean (r ∷ rs) = (expired_others (expiring t (open_requests l)) l r.number.0, clean rs)
accepts _ l b n g h = refl

-- ── what stands in every run ──

pub record Inv (o : Opening) (es : List Event) (s : State) : Type 0 where
  pub sound : Sound s
  pub holds : s ≡ stands o es
  pub fresh : (n : ℕ) → s.next ≤ n → touched (ledger o es).reports n ≡ 0
  pub account : Account (ledger o es) s
  pub each : Each o es

-- what comes under a fresh number stays whole
untouched : {X : Type 0} (k : Kept X) (w : KeptLaws k) (R : List Report) (lot n : ℕ) → touched R n ≡ 0 → (xs : List X) → New k lot n xs → remain k R xs ≡ xs
untouched k w R lot n z xs a = remain_same k w R xs (All-weaker _ _ (λ x h. (h.1.0, ap (touched R) h.0 ∙ z)) xs a)

-- a state with another next number
abbrev with_next : State → ℕ → State
with_next s n = record { book = s.book; most = s.most; is_open = s.is_open; granted = s.granted; requests = s.requests; answers = s.answers; time = s.time; next = n }

module _ (o : Opening) (es : List Event) (t : State) (v : Inv o es t) where
  abbrev l : Ledger
  l = ledger o es

  refused_kept : (m : Sent) (r : Refusal) → refusal t m ≡ Some r → Inv o (record { sent = m; reply = Err r; reports = [] } ∷ es) t
  unfolding ledger time
  refused_kept m r e = record {
    sound = v.sound;
    holds = rw (append-nil l.reports) v.holds;
    fresh = rw (append-nil l.reports) v.fresh;
    account = rw (append-nil l.reports) v.account;
    each = ((ap (λ (z : State). refusal z m) (sym v.holds) ∙ e, refl), v.each);
  }

  module _ (c : Call) (h : Passes t c) where
    abbrev n : ℕ
    n = t.next

    next_is : n ≡ next_number l
    next_is = ap (λ (z : State). z.next) v.holds

    time_is : t.time ≡ time es
    time_is = ap (λ (z : State). z.time) v.holds

    tells : t ≡ told l t
    tells = subst (λ (z : State). z ≡ told l z) (sym v.holds) refl

    -- the ledger with what came
    abbrev l⁺ : Ledger
    l⁺ = with_call l c (given c n) (time es)

    abbrev s⁺ : State
    s⁺ = received t c

    abbrev rs : List Report
    rs = reported s⁺ n c

    new_stay : touched l.reports n ≡ 0
    new_stay = v.fresh n (omega arith)

    abbrev new : News
    new = brings c n t.time

    new_is : new ≡ brings c (given c n) (time es)
    new_is = ap (brings c n) time_is ∙ sym (brings_given c n (time es))

    fit : NewsFit t.book.lot n new
    fit = brings_fit t c n t.time h

    -- received by the state is received by the ledger
    join : {X : Type 0} (k : Kept X) (w : KeptLaws k) (f : News → List X) (xs : List X) → New k t.book.lot n (f new) →
        remain k l.reports xs ++ f new ≡ remain k l.reports (xs ++ f (brings c (given c n) (time es)))
    join {X} k w f xs a =
        ap (λ (z : List X). remain k l.reports xs ++ z) (sym (untouched k w l.reports t.book.lot n new_stay (f new) a))
        ∙ (sym (remain_append k l.reports xs (f new)) ∙ ap (λ (z : News). remain k l.reports (xs ++ f z)) new_is)

    tells⁺ : s⁺ ≡ told l⁺ s⁺
    tells⁺ =
        ap (λ (z : State). received z c) tells
        ∙ made_same s⁺ (join an_offer offer_laws (λ w. w.buys) l.buys fit.buys) (join an_offer offer_laws (λ w. w.sells) l.sells fit.sells)
        (join a_request request_laws (λ w. w.requests) l.requests fit.requests) (join an_answer answer_laws (λ w. w.answers) l.answers fit.answers)

    sound⁺ : Sound s⁺
    sound⁺ = received_sound t c h v.sound

    fine⁺ : Fine s⁺ rs
    fine⁺ = reported_fine t c h sound⁺

    next⁺ : next_of c n ≡ next_number l⁺
    next⁺ = subst (λ (z : ℕ). next_of c z ≡ next_number (with_call l c (given c z) (time es))) (sym next_is) (sym (next_with t c l (time es) h))

    holds⁺ : less rs s⁺ ≡ standing_market o (with_reports l⁺ rs) (time_of c (time es))
    holds⁺ =
        ap (less rs) tells⁺
        ∙ (told_less l⁺ s⁺ rs
        ∙ (ap (λ (z : State). told (with_reports l⁺ rs) (with_next (received z c) (next_of c n))) v.holds
        ∙ ap (with_next (standing_market o (with_reports l⁺ rs) (time_of c (time es)))) next⁺))

    -- the checks passed hold of the state with what came, too
    passes⁺ : Passes s⁺ c
    passes⁺ = go c h
      where
        go : (c : Call) → Passes t c → Passes (received t c) c
        go (answer f None k p q) h = rw (append-nil t.requests) h
        go (answer f (Some d) k p q) h = rw (append-nil t.requests) h
        go (confirmation f d k p) h = rw (append-nil t.requests) h
        go _ h = h

    accepts⁺ : Accepts o.book.lot l⁺ (given c n) c rs
    accepts⁺ =
        subst (λ (z : ℕ). Accepts z l⁺ (given c n) c rs) (ap (λ (z : State). z.book.lot) v.holds)
        (subst (λ (z : State). Accepts t.book.lot l⁺ (given c n) c (reported z n c)) (sym tells⁺)
        (accepts c l⁺ s⁺ n (subst Sound tells⁺ sound⁺) (subst (λ (z : State). Passes z c) tells⁺ passes⁺)))

    quantity⁺ : (k : ℕ) → quantity l⁺ k ≡ quantity l k + news_came new k
    quantity⁺ k = let e = ap (λ (z : News). news_came z k) new_is in grind (arith, came_append)

    account⁺ : Account (with_reports l⁺ rs) (less rs s⁺)
    account⁺ k =
        let q = quantity⁺ k in
        let a = v.account k in
        let r = received_open t c k in
        let m = less_open s⁺ rs sound⁺ fine⁺.within k in
        grind (arith, filled_append, killed_append)

    fresh⁺ : (k : ℕ) → next_of c n ≤ k → touched (l.reports ++ rs) k ≡ 0
    fresh⁺ k le =
        let g = next_grows c n in
        let a = v.fresh k in
        let b = touched_append l.reports rs k in
        let w = fine⁺.within k in
        let z = sound⁺.below k le in
        grind (arith, came_none)

    accepted_kept : (m : Sent) → m.call ≡ c → refusal t (record { call = c; places = m.places; working = m.working }) ≡ None →
        Inv o (record { sent = record { call = c; places = m.places; working = m.working }; reply = acceptance (given c n) rs; reports = rs } ∷ es) (less rs s⁺)
    unfolding ledger time
    accepted_kept m e free = record {
      sound = less_sound s⁺ rs sound⁺ fine⁺.whole;
      holds = holds⁺;
      fresh = fresh⁺;
      account = account⁺;
      each = (
        record {
          passed = ap (λ (z : State). refusal z (record { call = c; places = m.places; working = m.working })) (sym v.holds) ∙ free;
          number = ap (given c) next_is;
          count = refl;
          size = refl;
          money = refl;
          reports = accepts⁺;
        },
        v.each,
      );
    }

  kept : (m : Sent) → Inv o (record { sent = m; reply = (step t m).reply; reports = (step t m).reports } ∷ es) (step t m).state
  kept m =
      step_cases (λ (z : Out). Inv o (record { sent = m; reply = z.reply; reports = z.reports } ∷ es) z.state) t m (λ r e. refused_kept m r e)
      (λ e. accepted_kept m.call (passes t m.call (free t m e)) m refl e)

-- ── a market newly opened ──

pub all_in_range_tells : (lot : ℕ) (xs : List Offer) → Decides (all_in_range lot xs) (AllByRecursion (λ (o : Offer). in_range lot o ≡ true) xs)
all_in_range_tells lot xs = Decides-by_and (in_range lot) _ (all_in_range lot) (λ x. (λ e. e, λ e. e)) refl (λ _ _. refl) xs

pub in_range_lots : (lot : ℕ) (xs : List Offer) → all_in_range lot xs ≡ true → Lots an_offer lot xs
in_range_lots lot xs e = All-weaker _ _ (λ x h. grind (arith, nat_tests)) xs ((all_in_range_tells lot xs).0 e)

has_none : (xs : List Offer) (n : ℕ) → has xs n ≡ false → count an_offer xs n ≡ 0
unfolding count
has_none [] n e = refl
has_none (x ∷ xs) n e = let h = has_none xs n in grind (arith, nat_tests)

pub distinct_count : (xs : List Offer) → distinct xs ≡ true → (n : ℕ) → count an_offer xs n ≤ 1
unfolding count
distinct_count [] e n = omega arith
distinct_count (x ∷ xs) e n =
    let h = distinct_count xs in
    let z = has_none xs x.number.0 in
    grind (arith, nat_tests)

above_greatest : (xs : List Offer) (n : ℕ) → greatest an_offer xs < n → count an_offer xs n ≡ 0
unfolding count greatest
above_greatest [] n h = refl
above_greatest (x ∷ xs) n h = let r = above_greatest xs n in grind (arith, nat_tests)

module _ (o : Opening) (e : Opens o) where
  pub opened_sound : Sound (opened o)
  unfolding count
  opened_sound = record {
    lot = (let b = (lot_bounds o.book.lot e.book.lot).0 in omega arith);
    apart = λ n. (let d = distinct_count (o.book.buys ++ o.book.sells) e.book.apart n in grind (arith, count_append));
    below = λ n h. (let b = above_greatest o.book.buys n (omega arith) in let s = above_greatest o.book.sells n (omega arith) in omega arith);
    buys = in_range_lots o.book.lot o.book.buys (e.book.ranged Buy);
    sells = in_range_lots o.book.lot o.book.sells (e.book.ranged Sell);
    answers = tt;
    requests = tt;
  }

  opened_inv : Inv o [] (opened o)
  unfolding ledger time remain filled killed came_as greatest
  opened_inv = record {
    sound = opened_sound;
    holds =
        made_same (opened o) (sym (stay o.book.buys opened_sound.buys)) (sym (stay o.book.sells opened_sound.sells)) refl refl
        ∙ ap (with_next (stands o [])) (let z : max (greatest an_offer o.book.buys) (greatest an_offer o.book.sells) + 1 ≡ next_number (ledger o []) = omega arith in z);
    fresh = λ n h. refl;
    account = λ n. omega arith;
    each = tt;
  }
    where
      stay : (xs : List Offer) → Lots an_offer o.book.lot xs → remain an_offer [] xs ≡ xs
      stay xs a = remain_same an_offer offer_laws [] xs (All-weaker _ _ (λ x h. (h.0, refl)) xs a)

-- ── every run ──

pub inv : {o : Opening} {es : List Event} {s : State} → Leads o es s → Inv o es s
inv {o} (opens h e) = subst (Inv o []) (sym e) (opened_inv o h)
inv {o} (goes {e} {es} {t} {s} l q) =
    subst (λ (z : Out). Inv o (record { sent = e.sent; reply = z.reply; reports = z.reports } ∷ es) z.state) q (kept o es t (inv l) e.sent)

pub lawful : (h : History) (s : State) → Reached h s → Lawful h s
lawful h s r = let v = inv r in record { each = v.each; holds = v.holds; account = v.account }

pub step_is_lawful : StepIsLawful
step_is_lawful s m h r =
    let e : Event = record { sent = m; reply = (step s m).reply; reports = (step s m).reports } in
    let q : Reached (after h e) (step s m).state = goes r refl in
    (q, lawful (after h e) (step s m).state q)

-- ── whole runs ──

recorded_reached : (ms : List Sent) (h : History) (s : State) → Reached h s → Reached (recorded h s ms) (run s ms)
unfolding recorded run
recorded_reached [] h s r = r
recorded_reached (m ∷ ms) h s r = recorded_reached ms (after h (event_of s m)) (step s m).state (goes r refl)

recorded_opening : (ms : List Sent) (h : History) (s : State) → (recorded h s ms).opening ≡ h.opening
unfolding recorded
recorded_opening [] h s = refl
recorded_opening (m ∷ ms) h s = recorded_opening ms (after h (event_of s m)) (step s m).state

recorded_messages : (ms : List Sent) (h : History) (s : State) → messages (recorded h s ms).events ≡ messages h.events ++ ms
unfolding recorded messages
recorded_messages [] h s = sym (append-nil (messages h.events))
recorded_messages (m ∷ ms) h s = recorded_messages ms (after h (event_of s m)) (step s m).state ∙ append_assoc (messages h.events) (m ∷ []) ms

pub runs_are_lawful : RunsAreLawful
unfolding messages
runs_are_lawful o e ms =
    let r : Reached (recorded (newly o) (opened o) ms) (run (opened o) ms) = recorded_reached ms (newly o) (opened o) (opens e refl) in
    record { opening = recorded_opening ms (newly o) (opened o); messages = recorded_messages ms (newly o) (opened o); reached = r; lawful = lawful _ _ r }
