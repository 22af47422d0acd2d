use Rattle.std.proofs.Common.{sym, subst}
use Rattle.ranked.proofs.Fronts.{front_as, front_items}
use Rattle.rules.specs.State.{an_answer, a_request}
use Rattle.rules.proofs.Fine.{answer_laws, request_laws}
use Rattle.turns.specs.Tables.{Rising}
use Rattle.turns.specs.Turn.{ending_after}
use Rattle.turns.proofs.Ordered.{remain_rising}
use Rattle.turns.proofs.Finished.{ending_is, lessens_twice}
use Rattle.turns.proofs.finishing.end_and_lessen.Goals as goal

pub end_request-ended-requires-clause-rising : goal.end_request-ended-requires-clause-rising
end_request-ended-requires-clause-rising c = subst (Rising an_answer) (sym c.lessen_both-left.ensures.answers.items) (remain_rising an_answer answer_laws c.args.fills.now c.args.answers.now c.requires.rising)

pub returns : goal.returns
returns c =
    let fs = c.args.fills.now in
    let rs = c.args.requests.now in
    let xs = c.args.answers.now in
    let n = c.args.number.0 in
    let left = c.lessen_both-left.ensures in
    let w = front_as (ending_is fs rs _ xs _ n left.requests.items left.answers.items) c.end_request-ended.ensures.written in
    let same = front_items w in
    record {
      written = w;
      requests = lessens_twice a_request request_laws fs (ending_after fs rs xs n) _ _ _ same left.requests c.lessen_both.ensures.requests;
      answers = lessens_twice an_answer answer_laws fs (ending_after fs rs xs n) _ _ _ same left.answers c.lessen_both.ensures.answers;
    }
