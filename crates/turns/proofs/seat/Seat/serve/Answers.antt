use Rattle.std.proofs.Common.{◌≡◌, List, [], length, sym, refl, ap, ap₂, ◌∙◌, subst, arith}
use Rattle.std.proofs.lemmas.List.{nil_from_length}
use Rattle.ranked.specs.Writes.{WritesFront}
use Rattle.ranked.proofs.Fronts.{front_as, front_items}
use Rattle.rules.specs.State.{State}
use Rattle.rules.specs.Step.{with_end_if}
use Rattle.rules.specs.declared.reports.Report.{Report}
use Rattle.turns.specs.Turn.{holding, ending_after, found_in_turn, fills_in_turn, service}
use Rattle.turns.proofs.Gathered.{front_same}
use Rattle.turns.proofs.Finished.{end_behind}
use Rattle.turns.proofs.Served.{some_ended, nothing_after, turn_after}
use Rattle.turns.proofs.seat.Seat.serve.Goals as goal

pub returns-then-traded-eq0 : goal.returns-then-traded-eq0
unfolding service
returns-then-traded-eq0 g c =
    let rs = c.args.self.now.requests.now in
    let xs = c.args.self.now.answers.now in
    let s = holding (g.B.Book.means c.args.self.now.book.now) rs xs in
    let w = c.args.wanted in
    let l = c.args.least_firms.0 in
    let t = c.trade_in_turn-traded in
    let seen = ap₂ (λ b ys. holding (g.B.Book.means b) [] ys) c.supply.ensures.book c.supply.ensures.answers in
    let written = subst (λ (v : State). WritesFront c.args.reports.now t.new.out t.result.0 (fills_in_turn v w l)) seen t.ensures.written in
    let e : fills_in_turn s w l ≡ [] = nil_from_length _ (omega (arith, written.count, c.if-traded-eq0.true)) in
    record {
      same = record { book = refl; requests = refl; answers = refl };
      written = front_same refl (sym c.if-traded-eq0.true) (e ∙ sym (ap (with_end_if s w.request.number.0) e)) written;
      found = t.ensures.found ∙ ap (λ (v : State). found_in_turn v w l) seen;
      after = nothing_after (g.B.Book.means c.args.self.now.book.now) rs xs w l e;
      few_requests = omega arith;
      few_answers = omega arith;
      long_requests = refl;
      long_answers = refl;
    }

pub returns : goal.returns
unfolding service
returns g c =
    let rs = c.args.self.now.requests.now in
    let xs = c.args.self.now.answers.now in
    let s = holding (g.B.Book.means c.args.self.now.book.now) rs xs in
    let w = c.args.wanted in
    let n = w.request.number.0 in
    let l = c.args.least_firms.0 in
    let t = c.trade_in_turn-traded in
    let parts = c.split_at_mut-fills.ensures in
    let f = c.finish-ended.ensures in
    let fs = fills_in_turn s w l in
    let seen = ap₂ (λ b ys. holding (g.B.Book.means b) [] ys) c.supply.ensures.book c.supply.ensures.answers in
    let written = subst (λ (v : State). WritesFront c.args.reports.now t.new.out t.result.0 (fills_in_turn v w l)) seen t.ensures.written in
    let e = parts.front ∙ front_items written in
    let some = λ (z : length fs ≡ 0). c.if-traded-eq0.false (omega (arith, written.count, z)) in
    record {
      same = f.same;
      written = front_as (sym (some_ended s n fs some)) (end_behind parts.front parts.back written (front_as (ap (λ (v : List Report). ending_after v rs xs n) e) f.written));
      found = t.ensures.found ∙ ap (λ (v : State). found_in_turn v w l) seen;
      after = turn_after (g.B.Book.means c.args.self.now.book.now) rs xs w l f.sound _ _ _ _ e (λ z. some (ap length (sym e) ∙ z)) f.book f.requests.items f.answers.items;
      few_requests = f.requests.few;
      few_answers = f.answers.few;
      long_requests = f.requests.long;
      long_answers = f.answers.long;
    }
