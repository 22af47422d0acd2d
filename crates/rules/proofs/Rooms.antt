-- How many reports a message has.
use Rattle.std.proofs.Common.{◌≡◌, ℕ, ◌+◌, ◌*◌, ◌%◌, ◌≤◌, cond, leb, List, [], ◌∷◌, ◌++◌, map, length, Some, None, filter, Option, sym, refl, subst, arith}
use Rattle.std.proofs.lemmas.List.Elements.{filter-append}
use Rattle.std.proofs.lemmas.List.{length-append, length-map}
use Rattle.std.proofs.lemmas.List.Sums.{length-filter, count_by-le-length}
use Rattle.std.proofs.lemmas.Bool.Decides.{nat_tests}
use Rattle.units.specs.declared.Quantity.{Quantity}
use Rattle.units.specs.declared.Money.{Money}
use Rattle.units.specs.declared.side.Side.{Side}
use Rattle.units.specs.declared.side.Side.TheVariants.{Buy, Sell}
use Rattle.units.specs.Sides.{other}
use Rattle.ranked.specs.Orders.{expiry_before}
use Rattle.ranked.proofs.Placing.{length_ranked, ranked_shuffled}
use Rattle.book.specs.declared.Offer.{Offer}
use Rattle.book.specs.Meaning.{side_of}
use Rattle.draw.specs.Offers.{is_eligible, same_side}
use Rattle.rules.specs.declared.records.Answer.{Answer}
use Rattle.rules.specs.declared.records.Request.{Request}
use Rattle.rules.specs.declared.records.Terms.{Terms}
use Rattle.rules.specs.declared.records.Terms.TheVariants.{Manual, Automatic}
use Rattle.rules.specs.declared.reports.KillReason.{KillReason}
use Rattle.rules.specs.declared.reports.KillReason.TheVariants as reasons
use Rattle.rules.specs.declared.reports.Report.{Report}
use Rattle.rules.specs.State.{Kept, State, Opening, opened, an_offer, an_answer, a_request}
use Rattle.rules.specs.Reports.{remain, pour}
use Rattle.rules.specs.Offers.{offered_to, under, in_turn, expiring, taker_of, from_book, from_answer}
use Rattle.rules.specs.Calls.{Call, Sent, taken_back}
use Rattle.rules.specs.Calls.Call.{order, withdrawal, automatic, answer, confirmation, clock}
use Rattle.rules.specs.Checks.{checks, refusal}
use Rattle.rules.specs.Step.{Out, step, less, ends, ranked_for, trade, decision_at, decision_in_turn, with_end, with_end_if, turn, turn_by, turn_of, confirmed, confirmed_by, matched, one_by_one, expiry, expiries, turns_after, reported, received}
use Rattle.rules.specs.History.{Event}
use Rattle.rules.specs.Run.{Opens, Leads}
use Rattle.rules.specs.Run.Leads.{opens, goes}
use Rattle.rules.specs.Room.{RoomForReports}
use Rattle.rules.proofs.Left.{count}
use Rattle.rules.proofs.Pours.{count_sum, count_kept, count_shuffled, length_fills}
use Rattle.rules.proofs.Fine.{Sound, less_sound, ends_fine}
use Rattle.rules.proofs.Fairs.{units_of, trade_is, fits_at, fits_in_turn, traded_whole}
use Rattle.rules.proofs.Keeps.{at_request, Due, due_step, in_turn_due, expiries_fine}
use Rattle.rules.proofs.Arrivals.{Free, free, step_cases, passes, received_sound}
use Rattle.rules.proofs.Lawful.{inv}

-- ── lengths ──

ruleset lengths = (nat_tests, length-append, length-map, length-filter, count_by-le-length, length_ranked, length_fills)

length_remain : {X : Type 0} (k : Kept X) (rs : List Report) (xs : List X) → length (remain k rs xs) ≤ length xs
unfolding remain
length_remain k rs [] = omega arith
length_remain k rs (x ∷ xs) = let h = length_remain k rs xs in grind (arith, nat_tests)

length_named : (n : ℕ) (xs : List Request) → length (under a_request n xs) ≡ count a_request xs n
length_named n xs = grind (arith, length-filter, count_sum)

-- how many answers a request has
abbrev its : ℕ → List Answer → ℕ
its n xs = length (offered_to n xs)

its_remain : (n : ℕ) (rs : List Report) (xs : List Answer) → its n (remain an_answer rs xs) ≤ its n xs
unfolding remain
its_remain n rs [] = omega arith
its_remain n rs (x ∷ xs) = let h = its_remain n rs xs in grind (arith, nat_tests)

-- the answers of different requests are different answers
all_its : List Request → List Answer → ℕ
all_its [] xs = 0
all_its (r ∷ rs) xs = its r.number.0 xs + all_its rs xs

all_its_none : (rs : List Request) → all_its rs [] ≡ 0
unfolding all_its
all_its_none [] = refl
all_its_none (r ∷ rs) = let h = all_its_none rs in omega arith

all_its_cons : (rs : List Request) (x : Answer) (xs : List Answer) → all_its rs (x ∷ xs) ≡ count a_request rs x.request.0 + all_its rs xs
unfolding all_its count
all_its_cons [] x xs = omega arith
all_its_cons (r ∷ rs) x xs = let h = all_its_cons rs x xs in grind (arith, nat_tests)

all_its_few : (rs : List Request) → ((k : ℕ) → count a_request rs k ≤ 1) → (xs : List Answer) → all_its rs xs ≤ length xs
all_its_few rs one [] = let h = all_its_none rs in omega arith
all_its_few rs one (x ∷ xs) = let h = all_its_few rs one xs in let c = all_its_cons rs x xs in let o = one x.request.0 in omega arith

all_its_remain : (rs : List Request) (ks : List Report) (xs : List Answer) → all_its rs (remain an_answer ks xs) ≤ all_its rs xs
unfolding all_its
all_its_remain [] ks xs = omega arith
all_its_remain (r ∷ rs) ks xs = let h = all_its_remain rs ks xs in let i = its_remain r.number.0 ks xs in omega arith

-- ── small tables ──

pub record Few (s : State) : Type 0 where
  pub requests : length s.requests ≤ 8
  pub answers : length s.answers ≤ 64
  pub buys : length s.book.buys ≤ s.most
  pub sells : length s.book.sells ≤ s.most
  pub most : s.most ≤ 128

few_less : (s : State) (rs : List Report) → Few s → Few (less rs s)
few_less s rs f =
    let a = length_remain a_request rs s.requests in
    let b = length_remain an_answer rs s.answers in
    let c = length_remain an_offer rs s.book.buys in
    let d = length_remain an_offer rs s.book.sells in
    grind arith

-- what comes finds room
few_received : (s : State) (c : Call) → Free (checks s c) → Few s → Few (received s c)
few_received s (order f (Some Buy) p q) h g = grind (arith, lengths)
few_received s (order f (Some Sell) p q) h g = grind (arith, lengths)
few_received s (automatic f (Some d) p q m w) h g = grind (arith, lengths)
few_received s (answer f (Some d) k p q) h g = grind (arith, lengths)
few_received s _ h g = grind (arith, lengths)

-- ── how many reports ──

-- of the book only the other side is eligible, and of the answers those to the request
book_kept : (r : Request) (d e : Side) (os : List Offer) → length (filter (is_eligible (taker_of r d)) (map (from_book e) os)) ≤ cond (same_side e (other d)) (length os) 0
book_kept r d e [] = omega arith
book_kept r d e (o ∷ os) = let h = book_kept r d e os in grind (arith, nat_tests)

answers_kept : (r : Request) (d : Side) (xs : List Answer) → length (filter (is_eligible (taker_of r d)) (map from_answer xs)) ≤ its r.number.0 xs
answers_kept r d [] = omega arith
answers_kept r d (x ∷ xs) = let h = answers_kept r d xs in grind (arith, nat_tests)

module _ (s : State) (f : Few s) where
  one_side : (d : Side) → cond (same_side Buy (other d)) (length s.book.buys) 0 + cond (same_side Sell (other d)) (length s.book.sells) 0 ≤ 128
  one_side Buy = let a = f.sells in let b = f.most in omega arith
  one_side Sell = let a = f.buys in let b = f.most in omega arith

  length_poured : (r : Request) (d : Side) (n : ℕ) → length (pour r.number.0 (ranked_for s r d) n) ≤ 128 + its r.number.0 s.answers
  length_poured r d n =
      let P = is_eligible (taker_of r d) in
      let e = filter-append P (map (from_book Buy) s.book.buys) (map (from_book Sell) s.book.sells ++ map from_answer s.answers) in
      let k = filter-append P (map (from_book Sell) s.book.sells) (map from_answer s.answers) in
      let a = book_kept r d Buy s.book.buys in
      let b = book_kept r d Sell s.book.sells in
      let c = answers_kept r d s.answers in
      let z = one_side d in
      grind (arith, lengths)

length_ends : (s : State) → Sound s → (n : ℕ) (a b : KillReason) → length (ends s n a b) ≤ 1 + its n s.answers
length_ends s g n a b = let c = length_named n s.requests in let one = g.apart n in grind (arith, lengths)

module _ (s : State) (f : Few s) (g : Sound s) (r : Request) where
  abbrev n : ℕ
  n = r.number.0

  length_with_end : (fs : List Report) → Sound (less fs s) → length fs ≤ 128 + its n s.answers → length (with_end s n fs) ≤ 129 + 2 * its n s.answers
  length_with_end fs g' h =
      let e = length_ends (less fs s) g' n reasons.RequestDone reasons.AnswerDone in
      let i = its_remain n fs s.answers in
      grind (arith, lengths)

  length_with_end_if : (fs : List Report) → Sound (less fs s) → length fs ≤ 128 + its n s.answers → length (with_end_if s n fs) ≤ 129 + 2 * its n s.answers
  length_with_end_if [] g' h = omega arith
  length_with_end_if (x ∷ fs) g' h = length_with_end (x ∷ fs) g' h

  module _ (w : r.left.0 % s.book.lot ≡ 0) where
    -- fills of what was decided
    length_trade : (d : Side) (x : Option (Quantity × Money)) → length (trade s r d x) ≤ 128 + its n s.answers
    length_trade d x = rw (trade_is s r d x) (length_poured s f r d (units_of x))

    after_trade : (d : Side) (x : Option (Quantity × Money)) → units_of x % s.book.lot ≡ 0 → Sound (less (trade s r d x) s)
    after_trade d x v = rw (trade_is s r d x) (less_sound s (pour n (ranked_for s r d) (units_of x)) g (traded_whole s r d g (units_of x) v))

    length_turn : length (turn s r) ≤ 129 + 2 * its n s.answers
    length_turn = go r.terms
      where
        go : (t : Terms) → length (turn_by s r t) ≤ 129 + 2 * its n s.answers
        go (Manual e m) = omega arith
        go (Automatic d limit m) =
            let x = decision_in_turn s r d limit.0 m.0 in
            length_with_end_if (trade s r d x) (after_trade d x (fits_in_turn s r d g w limit.0 m.0).1) (length_trade d x)

    length_confirmed : (d : Side) (p : ℕ) → length (confirmed_by s d p r r.terms) ≤ 129 + 2 * its n s.answers
    length_confirmed d p = go r.terms
      where
        go : (t : Terms) → length (confirmed_by s d p r t) ≤ 129 + 2 * its n s.answers
        go (Manual e m) =
            let x = decision_at s r d p m.0 in
            length_with_end (trade s r d x) (after_trade d x (fits_at s r d g w p m.0).1) (length_trade d x)
        go (Automatic e l m) = omega arith

length_turns : (rs : List Request) (s : State) → Few s → Sound s → Due rs s → length (one_by_one turn rs s) ≤ 129 * length rs + 2 * all_its rs s.answers
unfolding one_by_one all_its
length_turns [] s f g d = omega arith
length_turns (r ∷ rs) s f g d =
    let h = due_step r rs s g d in
    let mine = turn s r in
    let a = length-append mine (one_by_one turn rs (less mine s)) in
    let t = length_turn s f g r h.1 in
    let i = length_turns rs (less mine s) (few_less s mine f) (less_sound s mine g h.2.whole) h.3 in
    let m = all_its_remain rs mine s.answers in
    omega arith

length_expiries : (rs : List Request) (s : State) → Sound s → length (one_by_one expiry rs s) ≤ length rs + all_its rs s.answers
unfolding one_by_one all_its
length_expiries [] s g = omega arith
length_expiries (r ∷ rs) s g =
    let mine = expiry s r in
    let a = length-append mine (one_by_one expiry rs (less mine s)) in
    let t = length_ends s g r.number.0 reasons.RequestExpired reasons.AnswerExpired in
    let i = length_expiries rs (less mine s) (less_sound s mine g (ends_fine s r.number.0 reasons.RequestExpired reasons.AnswerExpired g).whole) in
    let m = all_its_remain rs mine s.answers in
    omega arith

length_clock : (s : State) (t : ℕ) → Few s → Sound s → length (turns_after s (expiries t s)) ≤ 2048
length_clock s t f g =
    let E = expiries t s in
    let z = less E s in
    let gz = less_sound s E g (expiries_fine t s g).whole in
    let fz = few_less s E f in
    let late = filter (λ (r : Request). leb r.deadline.0 t) s.requests in
    let e = length_expiries (expiring t s.requests) s g in
    let ea = all_its_few (expiring t s.requests) (λ k. (
    let a = count_shuffled a_request late (expiring t s.requests) (ranked_shuffled (expiry_before (λ (r : Request). r.deadline.0) (λ (r : Request). r.number.0)) late) k in
    let b = count_kept a_request (λ (r : Request). leb r.deadline.0 t) s.requests k in
    let c = g.apart k in omega arith)) s.answers in
    let d = in_turn_due z gz in
    let u = length_turns (in_turn z.requests) z fz gz d in
    let ua = all_its_few (in_turn z.requests) d.apart z.answers in
    grind (arith, lengths)

its_few : (n : ℕ) (s : State) → Few s → its n s.answers ≤ 64
its_few n s f = grind (arith, lengths)

length_taken_back : (s : State) (k : ℕ) → Few s → length (taken_back s.book.buys s.book.sells s.answers k) ≤ 2048
length_taken_back s k f = grind (arith, lengths)

side_few : (s : State) → Few s → (e : Side) → length (side_of s.book e) ≤ 128
side_few s f Buy = let a = f.buys in let b = f.most in omega arith
side_few s f Sell = let a = f.sells in let b = f.most in omega arith

length_matched : (s : State) (n : ℕ) (d : Side) (p q : ℕ) → Few s → length (matched s n (Some d) p q) ≤ 2048
length_matched s n d p q f = let z = side_few s f (other d) in grind (arith, lengths)

length_reported : (s : State) (n : ℕ) (c : Call) → Few s → Sound s → length (reported s n c) ≤ 2048
length_reported s n (order x (Some d) p q) f g = length_matched s n d p.0 q.0 f
length_reported s n (withdrawal x k) f g =
    let t = length_taken_back s k.0 f in
    let e = length_ends s g k.0 reasons.RequestWithdrawn reasons.AnswerDropped in
    let i = its_few k.0 s f in
    grind (arith, nat_tests)
length_reported s n (answer x d k p q) f g =
    at_request (λ r. length (turn_of s r) ≤ 2048) s.book.lot k.0 s.requests g.requests (λ _. omega arith)
    (λ r _ o. (let t = length_turn s f g r o.whole in let i = its_few r.number.0 s f in omega arith))
length_reported s n (confirmation x (Some d) k p) f g =
    at_request (λ r. length (confirmed s (Some d) p.0 r) ≤ 2048) s.book.lot k.0 s.requests g.requests (λ _. omega arith)
    (λ r _ o. (let t = length_confirmed s f g r o.whole d p.0 in let i = its_few r.number.0 s f in omega arith))
length_reported s n (clock t) f g = length_clock s t.0 f g
length_reported s n _ f g = omega arith

-- ── every run ──

pub few_accepted : (s : State) (m : Sent) → refusal s m ≡ None → Few s → Few (less (reported (received s m.call) s.next m.call) (received s m.call))
few_accepted s m e f = few_less (received s m.call) (reported (received s m.call) s.next m.call) (few_received s m.call (free s m e) f)

few_step : (s : State) (m : Sent) → Few s → Few (step s m).state
few_step s m f = step_cases (λ (z : Out). Few z.state) s m (λ _ _. f) (λ e. few_accepted s m e f)

pub few_opened : (o : Opening) → Opens o → Few (opened o)
few_opened o e = record { requests = omega arith; answers = omega arith; buys = e.book.few Buy; sells = e.book.few Sell; most = e.few }

reached_few : {o : Opening} {es : List Event} {s : State} → Leads o es s → Few s
reached_few {o} (opens h e) = subst Few (sym e) (few_opened o h)
reached_few {o} (goes {e} {es} {t} {s} l q) = subst (λ (z : Out). Few z.state) q (few_step t e.sent (reached_few l))

pub length_step : (s : State) (m : Sent) → Sound s → Few s → length (step s m).reports ≤ 2048
length_step s m g f =
    step_cases (λ (z : Out). length z.reports ≤ 2048) s m (λ _ _. omega arith)
    (λ e. (let k = free s m e in length_reported (received s m.call) s.next m.call (few_received s m.call k f) (received_sound s m.call (passes s m.call k) g)))

pub room_for_reports : RoomForReports
room_for_reports h s m r = length_step s m (inv r).sound (reached_few r)
