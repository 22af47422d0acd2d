-- Turns and confirmations by the ledger: a state that a ledger tells does what the law says.
use Rattle.std.proofs.Common.{◌≡◌, ℕ, ◌%◌, ◌<◌, List, [], ◌∷◌, ◌++◌, map, Option, sym, refl, ap, ◌∙◌, arith, subst, append_assoc, append-nil}
use Rattle.std.specs.List.{AllByRecursion}
use Rattle.units.specs.declared.Quantity.{Quantity}
use Rattle.units.specs.declared.side.Side.{Side}
use Rattle.units.specs.declared.side.Side.TheVariants.{Buy, Sell}
use Rattle.book.specs.declared.Offer.{Offer}
use Rattle.draw.specs.declared.fills.Fill.{Fill}
use Rattle.draw.specs.Draws.{Good, GoodAutomatic}
use Rattle.draw.specs.Fills.{traded}
use Rattle.rules.specs.declared.records.Answer.{Answer}
use Rattle.rules.specs.declared.records.Request.{Request}
use Rattle.rules.specs.declared.records.Terms.{Terms}
use Rattle.rules.specs.declared.records.Terms.TheVariants.{Manual, Automatic}
use Rattle.rules.specs.declared.reports.KillReason.{KillReason}
use Rattle.rules.specs.declared.reports.KillReason.TheVariants as reasons
use Rattle.rules.specs.declared.reports.Report.{Report}
use Rattle.rules.specs.State.{State, an_offer, an_answer, a_request}
use Rattle.rules.specs.Reports.{fills_by, filled_by}
use Rattle.rules.specs.Offers.{offered_to, firms, under, by_number}
use Rattle.rules.specs.Calls.{ending}
use Rattle.rules.specs.Step.{less, ends, trade, ranked_for, decision_at, decision_in_turn, with_end, with_end_if, turn, turn_by, confirmed_by, one_by_one, expiry}
use Rattle.rules.specs.History.{Ledger, with_reports, living, open_requests, standing, drawn_on}
use Rattle.rules.specs.Law.{TradesFairly, TurnBy, Turn, Turns, ConfirmedBy, ended, ended_if, expired, expiry_of}
use Rattle.rules.proofs.Left.{remain_remain, first_apart}
use Rattle.rules.proofs.Pours.{own_fills, by_fills, other_fills, fills_by_append, fills_by_kills}
use Rattle.rules.proofs.Fine.{Sound, less_sound, offer_laws, answer_laws, request_laws}
use Rattle.rules.proofs.Keeps.{Due, due_step}
use Rattle.rules.proofs.Fairs.{fair_at, fair_in_turn}

-- ── the state that a ledger tells ──

-- with what the ledger tells, and else as b
abbrev pub told : Ledger → State → State
told l b = record {
  book = record { buys = standing l Buy; sells = standing l Sell; lot = b.book.lot };
  most = b.most;
  is_open = b.is_open;
  granted = b.granted;
  requests = open_requests l;
  answers = living l;
  time = b.time;
  next = b.next;
}

-- four lists of a state, and the rest of it
abbrev pub made : State → List Offer → List Offer → List Request → List Answer → State
made b bs ss rs xs = record {
  book = record { buys = bs; sells = ss; lot = b.book.lot };
  most = b.most;
  is_open = b.is_open;
  granted = b.granted;
  requests = rs;
  answers = xs;
  time = b.time;
  next = b.next;
}

pub made_same : (b : State) {p p' q q' : List Offer} {r r' : List Request} {x x' : List Answer} → p ≡ p' → q ≡ q' → r ≡ r' → x ≡ x' → made b p q r x ≡ made b p' q' r' x'
made_same b e f g h = λ i. made b (e i) (f i) (g i) (h i)

pub told_less : (l : Ledger) (b : State) (rs : List Report) → less rs (told l b) ≡ told (with_reports l rs) b
told_less l b rs =
    made_same b (remain_remain an_offer offer_laws l.reports rs l.buys) (remain_remain an_offer offer_laws l.reports rs l.sells)
    (remain_remain a_request request_laws l.reports rs l.requests) (remain_remain an_answer answer_laws l.reports rs l.answers)

-- ── one turn ──

-- an end has no fills
fills_by_ends : (n : ℕ) (rs : List Request) (xs : List Answer) (k : ℕ) (a b : KillReason) → fills_by n (ending rs xs k a b) ≡ []
fills_by_ends n rs xs k a b =
    let r = fills_by_kills a_request n a (under a_request k rs) in
    let x = fills_by_kills an_answer n b (by_number an_answer (offered_to k xs)) in
    grind (arith, fills_by_append)

module _ (l : Ledger) (b : State) (g : Sound (told l b)) where
  abbrev s : State
  s = told l b

  module _ (n : ℕ) where
    ended_same : (fs : List Fill) → with_end s n (map (filled_by n) fs) ≡ ended l n fs
    ended_same fs = ap (λ (z : State). map (filled_by n) fs ++ ends z n reasons.RequestDone reasons.AnswerDone) (told_less l b (map (filled_by n) fs))

    ended_if_same : (fs : List Fill) → with_end_if s n (map (filled_by n) fs) ≡ ended_if l n fs
    ended_if_same [] = refl
    ended_if_same (f ∷ fs) = ended_same (f ∷ fs)

    -- of fills and an end, the fills are those of the taker
    fills_end : (fs : List Fill) → fills_by n (ended l n fs) ≡ fs
    fills_end fs =
        let ks = map (filled_by n) fs in
        let o = own_fills n fs in
        let e = fills_by_ends n (open_requests (with_reports l ks)) (living (with_reports l ks)) n reasons.RequestDone reasons.AnswerDone in
        grind (arith, fills_by_append, append-nil)

    fills_if : (fs : List Fill) → fills_by n (ended_if l n fs) ≡ fs
    unfolding fills_by
    fills_if [] = refl
    fills_if (f ∷ fs) = fills_end (f ∷ fs)

  pub confirmed_law : (d : Side) (p : ℕ) (r : Request) (e : Option Side) (m : Quantity) → r.left.0 % b.book.lot ≡ 0 → ConfirmedBy b.book.lot l d p r (Manual e m) (confirmed_by s d p r (Manual e m))
  confirmed_law d p r e m w =
      let n = r.number.0 in
      let fs = traded (ranked_for s r d) (decision_at s r d p m.0) in
      by_fills (TradesFairly d (drawn_on l r d) (Good d b.book.lot p m.0 r.left.0 (drawn_on l r d))) n (ended l n) fs (ended_same n fs) (fills_end n fs) (fair_at s r d g w p m.0)

  pub turn_law : (r : Request) → 0 < r.left.0 → r.left.0 % b.book.lot ≡ 0 → Turn b.book.lot l r (turn s r)
  turn_law r some w = go r.terms
    where
      go : (t : Terms) → TurnBy b.book.lot l r t (turn_by s r t)
      go (Manual e m) = refl
      go (Automatic d limit m) =
          let n = r.number.0 in
          let fs = traded (ranked_for s r d) (decision_in_turn s r d limit.0 m.0) in
          by_fills (TradesFairly d (drawn_on l r d) (GoodAutomatic d b.book.lot limit.0 r.left.0 m.0 (firms n (living l)) (drawn_on l r d))) n (ended_if l n) fs (ended_if_same n fs) (fills_if n fs) (fair_in_turn s r d g w some limit.0 m.0)

-- the ends of requests that expire
pub expired_law : (rs : List Request) (l : Ledger) (b : State) → one_by_one expiry rs (told l b) ≡ expired l rs
unfolding one_by_one expired
expired_law [] l b = refl
expired_law (r ∷ rs) l b =
    ap (λ (z : List Report). expiry_of l r ++ z)
    (ap (one_by_one expiry rs) (told_less l b (expiry_of l r)) ∙ expired_law rs (with_reports l (expiry_of l r)) b)

-- ── fills of other takers ──

-- a turn fills for no other taker
turn_others : (s : State) (r : Request) (n : ℕ) → (r.number.0 ≡ n → ⊥) → fills_by n (turn s r) ≡ []
unfolding fills_by
turn_others s r n ne = go r.terms
  where
    k : ℕ
    k = r.number.0

    with_if : (fs : List Report) → fills_by n fs ≡ [] → fills_by n (with_end_if s k fs) ≡ []
    with_if [] h = refl
    with_if (f ∷ fs) h = let e = fills_by_ends n (less (f ∷ fs) s).requests (less (f ∷ fs) s).answers k reasons.RequestDone reasons.AnswerDone in grind (arith, fills_by_append)

    go : (t : Terms) → fills_by n (turn_by s r t) ≡ []
    go (Manual e m) = refl
    go (Automatic d limit m) = with_if (trade s r d (decision_in_turn s r d limit.0 m.0)) (other_fills n k ne (traded (ranked_for s r d) (decision_in_turn s r d limit.0 m.0)))

turns_others : (rs : List Request) (s : State) (n : ℕ) → AllByRecursion (λ (r : Request). r.number.0 ≡ n → ⊥) rs → fills_by n (one_by_one turn rs s) ≡ []
unfolding one_by_one fills_by
turns_others [] s n a = refl
turns_others (r ∷ rs) s n a =
    let t = turn_others s r n a.0 in
    let h = turns_others rs (less (turn s r) s) n a.1 in
    grind (arith, fills_by_append)

pub expired_others : (rs : List Request) (l : Ledger) (n : ℕ) → fills_by n (expired l rs) ≡ []
unfolding expired fills_by
expired_others [] l n = refl
expired_others (r ∷ rs) l n =
    let e = fills_by_ends n (open_requests l) (living l) r.number.0 reasons.RequestExpired reasons.AnswerExpired in
    let h = expired_others rs (with_reports l (expiry_of l r)) n in
    grind (arith, fills_by_append)

-- ── turns one after another ──

-- in a message that reported `all`, `before` before them
pub turns_law : (all : List Report) (rs : List Request) (before : List Report) (l : Ledger) (b : State) → Sound (told l b) → Due rs (told l b) →
    AllByRecursion (λ (r : Request). fills_by r.number.0 before ≡ []) rs → all ≡ before ++ one_by_one turn rs (told l b) → Turns b.book.lot all l rs (one_by_one turn rs (told l b))
unfolding one_by_one
turns_law all [] before l b g p clean is = refl
turns_law all (r ∷ rs) before l b g p clean is =
    let h = due_step r rs (told l b) g p in
    let n = r.number.0 in
    let mine = turn (told l b) r in
    let others = one_by_one turn rs (less mine (told l b)) in
    let e = told_less l b mine in
    let d = (first_apart a_request r rs p.apart).0 in
    let is' : all ≡ (before ++ mine) ++ one_by_one turn rs (told (with_reports l mine) b) = is ∙ (sym (append_assoc before mine others) ∙ ap (λ (z : State). (before ++ mine) ++ one_by_one turn rs z) e) in (
      mine,
      others,
      refl,
      turn_law l b g r h.0 h.1,
      subst (λ (z : State). Turns b.book.lot all (with_reports l mine) rs (one_by_one turn rs z)) (sym e)
          (turns_law all rs (before ++ mine) (with_reports l mine) b (subst Sound e (less_sound (told l b) mine g h.2.whole)) (subst (Due rs) e h.3) (cleaner rs d clean.1) is'),
      (let o = turns_others rs (less mine (told l b)) n d in let c = clean.0 in grind (arith, fills_by_append, append-nil)),
    )
  where
    cleaner : (qs : List Request) → AllByRecursion (λ (q : Request). q.number.0 ≡ r.number.0 → ⊥) qs → AllByRecursion (λ (q : Request). fills_by q.number.0 before ≡ []) qs →
        AllByRecursion (λ (q : Request). fills_by q.number.0 (before ++ turn (told l b) r) ≡ []) qs
    cleaner [] ne c = tt
    cleaner (q ∷ qs) ne c = ((let t = turn_others (told l b) r q.number.0 (λ z. ne.0 (sym z)) in let d = c.0 in grind (arith, fills_by_append)), cleaner qs ne.1 c.1)
