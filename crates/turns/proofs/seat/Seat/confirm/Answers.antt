use Rattle.std.proofs.Common.{List, [], ap, ap₂, ◌∙◌, subst}
use Rattle.ranked.specs.Writes.{WritesFront}
use Rattle.ranked.proofs.Fronts.{front_as, front_items}
use Rattle.rules.specs.declared.reports.Report.{Report}
use Rattle.rules.specs.State.{State, an_answer, a_request}
use Rattle.turns.specs.Tables.{Lessens}
use Rattle.turns.specs.Turn.{holding, ending_after, ended, found_at, fills_at, confirmation}
use Rattle.turns.proofs.Finished.{end_behind, book_after}
use Rattle.turns.proofs.seat.Seat.confirm.Goals as goal

pub returns : goal.returns
unfolding confirmation
returns g c =
    let rs = c.args.self.now.requests.now in
    let xs = c.args.self.now.answers.now in
    let w = c.args.wanted in
    let l = c.args.least.0 in
    let t = c.trade_at-traded in
    let parts = c.split_at_mut-fills.ensures in
    let f = c.finish-ended in
    let seen = ap₂ (λ b ys. holding (g.B.Book.means b) [] ys) c.supply.ensures.book c.supply.ensures.answers in
    let written = subst (λ (v : State). WritesFront c.args.reports.now t.new.out t.result.0 (fills_at v w l)) seen t.ensures.written in
    let e = parts.front ∙ front_items written in
    record {
      same = f.ensures.same;
      written = end_behind parts.front parts.back written (front_as (ap (λ (v : List Report). ending_after v rs xs w.request.number.0) e) f.ensures.written);
      found = t.ensures.found ∙ ap (λ (v : State). found_at v w l) seen;
      requests = subst (λ (v : List Report). Lessens a_request (ended v rs xs w.request.number.0) rs f.new.self.requests.now f.result.1.requests) e f.ensures.requests;
      answers = subst (λ (v : List Report). Lessens an_answer (ended v rs xs w.request.number.0) xs f.new.self.answers.now f.result.1.answers) e f.ensures.answers;
      book = book_after f.ensures.sound (g.B.Book.means c.args.self.now.book.now) rs xs w l _ _ e f.ensures.book;
    }
