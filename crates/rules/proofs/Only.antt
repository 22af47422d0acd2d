-- The law leaves no choice.
use Rattle.std.proofs.Common.{◌≡◌, ℕ, List, [], ◌∷◌, ◌++◌, map, length, Some, None, Ok, Err, Option, sym, refl, ap, ◌∙◌, subst, ap₂, arith}
use Rattle.units.specs.declared.side.Side.{Side}
use Rattle.units.specs.declared.refusal.Refusal.{Refusal}
use Rattle.draw.specs.declared.offers.Eligible.{Eligible}
use Rattle.draw.specs.declared.fills.Fill.{Fill}
use Rattle.draw.specs.Draws.{Draw, size}
use Rattle.draw.specs.Fills.{fills, taken}
use Rattle.rules.specs.declared.records.Request.{Request}
use Rattle.rules.specs.declared.records.Terms.{Terms}
use Rattle.rules.specs.declared.records.Terms.TheVariants.{Manual, Automatic}
use Rattle.rules.specs.declared.reports.Report.{Report}
use Rattle.rules.specs.declared.reports.Accepted.{Accepted}
use Rattle.rules.specs.State.{Opening, a_request}
use Rattle.rules.specs.Reports.{filled_by, size_of, money_of}
use Rattle.rules.specs.Offers.{request_ranking, under, first}
use Rattle.rules.specs.Calls.{Call, Sent, Reply}
use Rattle.rules.specs.Calls.Call.{order, answer, confirmation, clock}
use Rattle.rules.specs.Checks.{refusal}
use Rattle.rules.specs.History.{Ledger, Event, ledger, time, with_call, with_reports, open_requests, stands}
use Rattle.rules.specs.Law.{TradesFairly, TurnBy, Turns, ConfirmedBy, Confirmed, Answered, ClockStep, Ordered, Accepts, Replies, Each, ended, ended_if, expired_at}
use Rattle.rules.specs.Bite.{NoChoice, OneHistory}

fair_only : (d : Side) (os : List Eligible) (G : Draw → Type 0) (fs gs : List Fill) → TradesFairly d os G fs → TradesFairly d os G gs → fs ≡ gs
fair_only d os G [] gs h k = sym (k.fair.only_so (h.fair.unfilled refl))
fair_only d os G (f ∷ fs) [] h k = h.fair.only_so (k.fair.unfilled refl)
fair_only d os G (f ∷ fs) (g ∷ gs) h k =
    let x = h.fair.trades (λ e. grind arith) in
    let y = k.fair.trades (λ e. grind arith) in
    let a = y.greatest _ x.good in
    let b = x.greatest _ y.good in
    let e : size os (taken (f ∷ fs)) ≡ size os (taken (g ∷ gs)) = omega arith in
    h.in_order ∙ (ap (fills (request_ranking d os)) e ∙ sym k.in_order)

module _ (lot : ℕ) where
  turn_only : (l : Ledger) (r : Request) (t : Terms) (a b : List Report) → TurnBy lot l r t a → TurnBy lot l r t b → a ≡ b
  turn_only l r (Manual e m) a b h k = h ∙ sym k
  turn_only l r (Automatic d limit m) a b h k = h.1 ∙ (ap (ended_if l r.number.0) (fair_only d _ _ _ _ h.0 k.0) ∙ sym k.1)

  turns_only : (rs : List Request) (l : Ledger) (x y a b : List Report) → Turns lot x l rs a → Turns lot y l rs b → a ≡ b
  turns_only [] l x y a b h k = h ∙ sym k
  turns_only (r ∷ rs) l x y a b h k =
      let e : h.0 ≡ k.0 = turn_only l r r.terms h.0 k.0 h.3 k.3 in
      let q : Turns lot x (with_reports l k.0) rs h.1 = subst (λ (z : List Report). Turns lot x (with_reports l z) rs h.1) e h.4 in
      h.2 ∙ (ap₂ (λ (x y : List Report). x ++ y) e (turns_only rs (with_reports l k.0) x y h.1 k.1 q k.4) ∙ sym k.2)

  clock_only : (l : Ledger) (t : ℕ) (a b : List Report) → ClockStep lot l t a → ClockStep lot l t b → a ≡ b
  clock_only l t a b h k = h.1 ∙ (ap (λ (z : List Report). expired_at t l ++ z) (turns_only _ _ a b h.0 k.0 h.2 k.2) ∙ sym k.1)

  answer_only : (l : Ledger) (r : Option Request) (a b : List Report) → Answered lot l r a → Answered lot l r b → a ≡ b
  answer_only l None a b h k = absurd h
  answer_only l (Some r) a b h k = turn_only l r r.terms a b h k

  confirmed_only : (l : Ledger) (d : Option Side) (p : ℕ) (r : Option Request) (a b : List Report) → Confirmed lot l d p r a → Confirmed lot l d p r b → a ≡ b
  confirmed_only l None p r a b h k = absurd h
  confirmed_only l (Some d) p None a b h k = absurd h
  confirmed_only l (Some d) p (Some r) a b h k = go r.terms h k
    where
      go : (t : Terms) → ConfirmedBy lot l d p r t a → ConfirmedBy lot l d p r t b → a ≡ b
      go (Manual e m) h k = h.1 ∙ (ap (ended l r.number.0) (fair_only d _ _ _ _ h.0 k.0) ∙ sym k.1)
      go (Automatic e x m) h k = absurd h

  ordered_only : (l : Ledger) (n : ℕ) (d : Option Side) (p q : ℕ) (a b : List Report) → Ordered l n d p q a → Ordered l n d p q b → a ≡ b
  ordered_only l n None p q a b h k = absurd h
  ordered_only l n (Some d) p q a b h k = h.1 ∙ (ap (map (filled_by n)) (h.0.in_order ∙ sym k.0.in_order) ∙ sym k.1)

  reports_only : (l : Ledger) (n : ℕ) (c : Call) (a b : List Report) → Accepts lot l n c a → Accepts lot l n c b → a ≡ b
  reports_only l n (order f d p q) a b h k = ordered_only l n d p.0 q.0 a b h k
  reports_only l n (answer f d x p q) a b h k = answer_only l (first (under a_request x.0 (open_requests l))) a b h k
  reports_only l n (confirmation f d x p) a b h k = confirmed_only l d p.0 (first (under a_request x.0 (open_requests l))) a b h k
  reports_only l n (clock t) a b h k = clock_only l t.0 a b h k
  reports_only l n _ a b h k = h ∙ sym k

-- ── replies ──

abbrev told : ℕ → ℕ → ℕ → ℕ → Accepted
told n c q m = record { number = record { 0 = n }; count = c; size = record { 0 = q }; money = record { 0 = m } }

pub no_choice : NoChoice
no_choice o es m (Ok a) (Ok b) rs qs h k = (same, reports)
  where
    number : a.number.0 ≡ b.number.0
    number = h.number ∙ sym k.number

    reports : rs ≡ qs
    reports =
        reports_only o.book.lot (with_call (ledger o es) m.call b.number.0 (time es)) b.number.0 m.call rs qs
        (subst (λ (z : ℕ). Accepts o.book.lot (with_call (ledger o es) m.call z (time es)) z m.call rs) number h.reports) k.reports

    count : a.count ≡ b.count
    count = h.count ∙ (ap (λ (l : List Report). length l) reports ∙ sym k.count)

    size_same : a.size.0 ≡ b.size.0
    size_same = h.size ∙ (ap size_of reports ∙ sym k.size)

    money_same : a.money.0 ≡ b.money.0
    money_same = h.money ∙ (ap money_of reports ∙ sym k.money)

    same : ◌≡◌ {A = Reply} (Ok a) (Ok b)
    same = λ i. Ok (told (number i) (count i) (size_same i) (money_same i))
no_choice o es m (Ok a) (Err r) rs qs h k = absurd (let e = h.passed in let f = k.0 in grind arith)
no_choice o es m (Err r) (Ok b) rs qs h k = absurd (let e = k.passed in let f = h.0 in grind arith)
no_choice o es m (Err r) (Err q) rs qs h k = (ap Err (same (refusal (stands o es) m) h.0 k.0), h.1 ∙ sym k.1)
  where
    same : (x : Option Refusal) → x ≡ Some r → x ≡ Some q → r ≡ q
    same x e f = cc

-- ── histories ──

abbrev sents : List Event → List Sent
sents es = map (λ (e : Event). e.sent) es

one_each : (o : Opening) (es fs : List Event) → sents es ≡ sents fs → Each o es → Each o fs → es ≡ fs
one_each o [] [] q h k = refl
one_each o [] (f ∷ fs) q h k = absurd (grind arith)
one_each o (e ∷ es) [] q h k = absurd (grind arith)
one_each o (e ∷ es) (f ∷ fs) q h k =
    let head : e.sent ≡ f.sent = cc in
    let tail : sents es ≡ sents fs = cc in
    let before : es ≡ fs = one_each o es fs tail h.1 k.1 in
    let there : Replies o fs f.sent e.reply e.reports =
    subst (λ (z : List Event). Replies o z f.sent e.reply e.reports) before (subst (λ (z : Sent). Replies o es z e.reply e.reports) head h.0) in
    let same = no_choice o fs f.sent e.reply f.reply e.reports f.reports there k.0 in
    λ i. record { sent = head i; reply = same.0 i; reports = same.1 i } ∷ before i

pub one_history : OneHistory
one_history o es fs s t q h k =
    let e = one_each o es fs q h.each k.each in
    (e, h.holds ∙ (ap (stands o) e ∙ sym k.holds))
