use Rattle.std.proofs.Common.{filter, arith, rules}
use borrow.Author.Tests.{tests}
use Rattle.std.proofs.lemmas.List.{length-map}
use Rattle.std.proofs.lemmas.List.Sums.{length-filter, count_by-le-length}
use Rattle.std.proofs.lemmas.Iterator.{YieldsList-from_slice, YieldsList-from_map}
use Rattle.std.proofs.lemmas.Iterator.Consumers.{YieldsList-at, YieldsList-from_filter}
use Rattle.ranked.proofs.Fronts.{front_as}
use Rattle.rules.specs.Reports.{kill, kills}
use Rattle.turns.proofs.Gathered.{room_for, all_given}
use Rattle.turns.proofs.ending.kill_each.Goals as goal

pub write_all-requires-clause-room : goal.write_all-requires-clause-room
write_all-requires-clause-room g c =
    let k = g.T.Standing.kind in
    let p = g.T.Standing.belongs c.args.request.0 in
    let xs = c.args.table.now in
    let f = λ (x : g.row.T.Denot). kill c.args.reason (k.number x) (k.left x) in
    let a = length-map (filter p xs) f in
    let b = length-filter p xs in
    let d = count_by-le-length p xs in
    room_for (kills k c.args.reason (filter p xs)) (omega (arith, c.requires))
    (YieldsList-from_map _ f (YieldsList-at c.map-kills.ensures.source (YieldsList-from_filter _ p (YieldsList-at c.filter.ensures.source (YieldsList-from_slice xs c.iter.ensures.rest)) c.filter.ensures.closure (λ x r q e. search (rules, tests))))
    c.map-kills.ensures.closure (λ x r q e. search (rules, tests)))

pub returns : goal.returns
returns g c =
    let k = g.T.Standing.kind in
    let p = g.T.Standing.belongs c.args.request.0 in
    let xs = c.args.table.now in
    let f = λ (x : g.row.T.Denot). kill c.args.reason (k.number x) (k.left x) in
    let a = length-map (filter p xs) f in
    let b = length-filter p xs in
    let d = count_by-le-length p xs in
    let given = c.write_all.ensures.written in
    let w = front_as (all_given given.0 (kills k c.args.reason (filter p xs)) given.1
    (YieldsList-from_map _ f (YieldsList-at c.map-kills.ensures.source (YieldsList-from_filter _ p (YieldsList-at c.filter.ensures.source (YieldsList-from_slice xs c.iter.ensures.rest)) c.filter.ensures.closure (λ x r q e. search (rules, tests))))
    c.map-kills.ensures.closure (λ x r q e. search (rules, tests)))) given.2 in
    record { written = w; few = omega (arith, w.count) }
