use Rattle.std.proofs.Common.{eqb, List, ◌++◌, sym, ap, arith}
use Rattle.ranked.proofs.Fronts.{front_as}
use Rattle.rules.specs.declared.records.Answer.{Answer}
use Rattle.rules.specs.State.{an_answer, a_request}
use Rattle.rules.specs.Reports.{kills}
use Rattle.rules.specs.Offers.{under, offered_to}
use Rattle.turns.proofs.Gathered.{front_behind}
use Rattle.turns.proofs.Ordered.{already, kept_rising}
use Rattle.turns.proofs.ending.end_request.Goals as goal

pub returns : goal.returns
returns c =
    let xs = c.args.answers.now in
    let n = c.args.number.0 in
    let o = already an_answer (offered_to n xs) (kept_rising an_answer (λ (a : Answer). eqb a.request.0 n) xs c.requires.rising) in
    record {
      written = front_as (ap (λ (v : List Answer). kills a_request c.args.reason (under a_request n c.args.requests.now) ++ kills an_answer c.args.its_answers v) (sym o)) (front_behind c.kill_each-n.ensures.written c.kill_each.ensures.written);
      few = omega (arith, c.kill_each-n.ensures.few, c.kill_each.ensures.few);
    }
