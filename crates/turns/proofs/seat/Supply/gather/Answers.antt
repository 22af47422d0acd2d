use Rattle.std.proofs.Common.{List, length, refl, ap, ◌∙◌, arith, rules}
use borrow.Author.Tests.{tests}
use Rattle.std.specs.List.{filter_map}
use Rattle.std.proofs.lemmas.Iterator.{YieldsList-from_slice, YieldsList-from_map}
use Rattle.std.proofs.lemmas.Iterator.Consumers.{YieldsList-at, YieldsList-from_first, YieldsList-from_chain, YieldsList-from_filter_map}
use Rattle.ranked.proofs.Fronts.{front_as}
use Rattle.book.specs.Meaning.{side_of}
use Rattle.book.specs.Offered.{still_offered}
use Rattle.draw.specs.Offers.{admitted, eligible}
use Rattle.rules.specs.declared.records.Answer.{Answer}
use Rattle.rules.specs.Offers.{from_book, from_answer, offered}
use Rattle.turns.proofs.Gathered.{seen, room_for, all_given, drawn_few, drawn_is}
use Rattle.turns.proofs.seat.Supply.gather.Goals as goal

-- Of the answers that are gone through, whichever they are: only the promise asks that they be all of them.
pub write_all-requires-clause-room : goal.write_all-requires-clause-room
write_all-requires-clause-room g c =
    let m = g.B.Book.means c.args.self.now.book.now in
    let d = c.opposite-side.result in
    let xs = c.iter.result.rest.now in
    let e = c.iter.ensures.rest in
    let all = filter_map (admitted c.args.taker) (seen m d xs) in
    let l = drawn_few c.args.taker m d xs g.B.Book.MOST ((g.met.B.Book.lawful c.args.self.now.book.now).few d) in
    room_for all (omega (arith, c.requires, ap length e)) (YieldsList-from_filter_map _ (admitted c.args.taker) (YieldsList-at c.filter_map-drawn.ensures.source (YieldsList-from_chain
    (YieldsList-at c.chain.ensures.first (YieldsList-from_map _ (from_book d) (YieldsList-at c.map-in_book.ensures.source (YieldsList-from_first (λ x. x) (still_offered g.B.Book.means) (side_of m d) c.offers.ensures)) c.map-in_book.ensures.closure (λ x r q k. search (rules, tests))))
    (YieldsList-at c.chain.ensures.second (YieldsList-from_map _ from_answer (YieldsList-at c.map-answers.ensures.source (YieldsList-from_slice xs refl)) c.map-answers.ensures.closure (λ x r q k. search (rules, tests))))
    c.chain.ensures.first_done c.chain.ensures.second_done)) c.filter_map-drawn.ensures.closure (λ x r q k. search (rules, tests)))

pub returns-clause-written : goal.returns-clause-written
returns-clause-written g c =
    let m = g.B.Book.means c.args.self.now.book.now in
    let d = c.opposite-side.result in
    let xs = c.iter.result.rest.now in
    let e = c.iter.ensures.rest in
    let all = filter_map (admitted c.args.taker) (seen m d xs) in
    let given = c.write_all.ensures.written in
    let w = front_as (all_given given.0 all given.1 (YieldsList-from_filter_map _ (admitted c.args.taker) (YieldsList-at c.filter_map-drawn.ensures.source (YieldsList-from_chain
    (YieldsList-at c.chain.ensures.first (YieldsList-from_map _ (from_book d) (YieldsList-at c.map-in_book.ensures.source (YieldsList-from_first (λ x. x) (still_offered g.B.Book.means) (side_of m d) c.offers.ensures)) c.map-in_book.ensures.closure (λ x r q k. search (rules, tests))))
    (YieldsList-at c.chain.ensures.second (YieldsList-from_map _ from_answer (YieldsList-at c.map-answers.ensures.source (YieldsList-from_slice xs refl)) c.map-answers.ensures.closure (λ x r q k. search (rules, tests))))
    c.chain.ensures.first_done c.chain.ensures.second_done)) c.filter_map-drawn.ensures.closure (λ x r q k. search (rules, tests)))) given.2 in
    front_as (drawn_is c.args.taker m d c.opposite-side.ensures xs ∙ ap (λ (ys : List Answer). eligible c.args.taker (offered m.buys m.sells ys)) e) w

pub returns-clause-few : goal.returns-clause-few
returns-clause-few g c =
    let m = g.B.Book.means c.args.self.now.book.now in
    let d = c.opposite-side.result in
    let xs = c.args.self.now.answers.now in
    let w = returns-clause-written g c in
    let e = ap length (drawn_is c.args.taker m d c.opposite-side.ensures xs) in
    omega (arith, w.count, e, drawn_few c.args.taker m d xs g.B.Book.MOST ((g.met.B.Book.lawful c.args.self.now.book.now).few d))
