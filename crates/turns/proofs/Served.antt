-- A turn: where nothing trades, nothing changes; else it is as a confirmation.
use Rattle.std.proofs.Common.{◌≡◌, ℕ, List, [], ◌∷◌, length, take, Some, sym, refl, ap, ◌∙◌, subst, ap₂, arith}
use Rattle.std.proofs.ByRecursion.{All-weaker}
use Rattle.std.proofs.lemmas.List.{take_all}
use Rattle.units.specs.Sides.{other}
use Rattle.book.specs.declared.Offer.{Offer}
use Rattle.book.specs.Meaning.{Meaning}
use Rattle.rules.specs.declared.records.Answer.{Answer}
use Rattle.rules.specs.declared.records.Request.{Request}
use Rattle.rules.specs.declared.reports.Report.{Report}
use Rattle.rules.specs.State.{Kept, State, an_offer, an_answer, a_request}
use Rattle.rules.specs.Reports.{remain, filled, killed}
use Rattle.rules.specs.Offers.{under, first}
use Rattle.rules.specs.Step.{less, with_end, with_end_if}
use Rattle.rules.proofs.Left.{KeptLaws, remain_same}
use Rattle.rules.proofs.Fine.{Lots, offer_laws, answer_laws, request_laws}
use Rattle.turns.specs.Settled.{book_less, Settles}
use Rattle.turns.specs.Follows.{TradesSettle}
use Rattle.turns.specs.declared.seat.Wanted.{Wanted}
use Rattle.turns.specs.Turn.{holding, ended, fills_in_turn, service, AllAfter}
use Rattle.rules.proofs.Sounds.{sound_counts}

-- the end follows where there are fills
pub some_ended : (s : State) (n : ℕ) (fs : List Report) → (length fs ≡ 0 → ⊥) → with_end_if s n fs ≡ with_end s n fs
some_ended s n [] h = absurd (h refl)
some_ended s n (f ∷ fs) h = refl

whole : {X : Type 0} (k : Kept X) → KeptLaws k → (lot : ℕ) (xs : List X) → Lots k lot xs → remain k [] xs ≡ xs
unfolding filled killed
whole k w lot xs a = remain_same k w [] xs (All-weaker _ _ (λ x h. (h.0, refl)) xs a)

module _ (m : Meaning) (rs : List Request) (xs : List Answer) (w : Wanted) (least : ℕ) where
  abbrev Trade : Meaning → List Answer → List Report
  Trade b ys = fills_in_turn (holding b [] ys) w least

  pub nothing_after : Trade m xs ≡ [] → AllAfter (holding m rs xs) w.request (λ s. service s w least) m (take (length rs) rs) (take (length xs) xs)
  unfolding service
  nothing_after f s g b p q e =
      let c = sound_counts s g in
      let none : service s w least ≡ [] = ap (with_end_if s w.request.number.0) (ap₂ Trade b q ∙ f) in (
        sym b ∙ (ap₂ (λ (u v : List Offer). record { buys = u; sells = v; lot = s.book.lot }) (sym (whole an_offer offer_laws _ s.book.buys c.buys)) (sym (whole an_offer offer_laws _ s.book.sells c.sells))
            ∙ ap (λ (v : List Report). (less v s).book) (sym none)),
        take_all (length rs) rs (omega arith) ∙ (sym p ∙ (sym (whole a_request request_laws _ s.requests c.requests) ∙ ap (λ (v : List Report). remain a_request v s.requests) (sym none))),
        take_all (length xs) xs (omega arith) ∙ (sym q ∙ (sym (whole an_answer answer_laws _ s.answers c.answers) ∙ ap (λ (v : List Report). remain an_answer v s.answers) (sym none))),
      )

  pub turn_after : TradesSettle → (fs : List Report) (after_m : Meaning) (after_rs : List Request) (after_xs : List Answer) → fs ≡ Trade m xs → (length fs ≡ 0 → ⊥) →
      (Settles m (other w.side) fs → after_m ≡ book_less fs m) → after_rs ≡ remain a_request (ended fs rs xs w.request.number.0) rs → after_xs ≡ remain an_answer (ended fs rs xs w.request.number.0) xs →
      AllAfter (holding m rs xs) w.request (λ s. service s w least) after_m after_rs after_xs
  unfolding service
  turn_after settle fs after_m after_rs after_xs f some h i j s g b p q e =
      let r = w.request in
      let n = r.number.0 in
      let d = w.side in
      let limit = w.limit.0 in
      let o = subst (λ (v : List Request). first (under a_request n v) ≡ Some r) (sym p) e in
      let same : Trade s.book s.answers ≡ fs = ap₂ Trade b q ∙ sym f in
      let told : service s w least ≡ ended (Trade s.book s.answers) s.requests s.answers n = some_ended s n _ (λ z. some (ap length (sym same) ∙ z)) in
      let t = subst (λ (z : Meaning). Settles z (other d) fs) b (subst (Settles s.book (other d)) same (settle.served s g n r o d limit least)) in (
        h t ∙ (ap₂ book_less (sym same) (sym b) ∙ (settle.after_served s g n r o d limit least ∙ ap (λ (v : List Report). (less v s).book) (sym told))),
        i ∙ (ap (λ (v : List Report). remain a_request (ended v rs xs n) rs) (sym same)
            ∙ (ap₂ (λ (u : List Request) (v : List Answer). remain a_request (ended (Trade s.book s.answers) u v n) u) (sym p) (sym q)
            ∙ ap (λ (v : List Report). remain a_request v s.requests) (sym told))),
        j ∙ (ap (λ (v : List Report). remain an_answer (ended v rs xs n) xs) (sym same)
            ∙ (ap₂ (λ (u : List Request) (v : List Answer). remain an_answer (ended (Trade s.book s.answers) u v n) v) (sym p) (sym q)
            ∙ ap (λ (v : List Report). remain an_answer v s.answers) (sym told))),
      )
