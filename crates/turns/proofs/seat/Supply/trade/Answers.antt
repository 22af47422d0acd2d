use Rattle.std.proofs.Common.{List, map, refl, ap, subst, arith}
use Rattle.std.proofs.lemmas.List.{length-take}
use Rattle.std.specs.Fn.{FnOnceReturnsAtMut}
use Rattle.ranked.proofs.Fronts.{front_as, front_items}
use Rattle.draw.specs.declared.offers.Eligible.{Eligible}
use Rattle.rules.specs.Reports.{filled_by}
use Rattle.turns.proofs.Trades.{drawn_on, traded_same}
use Rattle.turns.proofs.seat.Supply.trade.Goals as goal

pub execute-requires-clause-offers : goal.execute-requires-clause-offers
execute-requires-clause-offers g c =
    let os = drawn_on (g.B.Book.means c.args.self.now.book.now) c.args.self.now.answers.now c.args.wanted c.taker.result _ c.taker.ensures (front_items c.gather-n.ensures.written) in
    (c.requires.ranks _ _ (subst (λ (v : List Eligible). FnOnceReturnsAtMut g.F.FnOnce c.args.decision v c.decision-found.result c.decision-found.new.arg2) os
    (record { shown = _; shows = refl; left = _; met = c.decision-found.ensures; leaves = refl }))).0

pub returns : goal.returns
returns g c =
    let os = drawn_on (g.B.Book.means c.args.self.now.book.now) c.args.self.now.answers.now c.args.wanted c.taker.result _ c.taker.ensures (front_items c.gather-n.ensures.written) in
    let gave : FnOnceReturnsAtMut g.F.FnOnce c.args.decision _ c.decision-found.result c.decision-found.new.arg2 =
    subst (λ (v : List Eligible). FnOnceReturnsAtMut g.F.FnOnce c.args.decision v c.decision-found.result c.decision-found.new.arg2) os
    (record { shown = _; shows = refl; left = _; met = c.decision-found.ensures; leaves = refl }) in
    record {
      written = front_as (ap (map (filled_by c.args.wanted.request.number.0)) (traded_same c.decision-found.result c.decision-found.new.arg2 _ (c.requires.ranks _ _ gave).1)) c.execute.ensures.written;
      found = (_, gave);
      few = (let l = length-take c.gather-n.result c.gather-n.new.work in omega (arith, l, c.decision-found.auto.arg2, c.gather-n.ensures.few, c.execute.ensures.few));
    }
