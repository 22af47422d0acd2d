use Rattle.std.proofs.Common.{◌∙◌, rules, tests}
use Rattle.std.proofs.lemmas.Iterator.{YieldsList-from_slice}
use Rattle.std.proofs.lemmas.Iterator.Consumers.{YieldsList-from_enumerate, YieldsList-from_filter, count_from_yields_List}
use Rattle.draw.specs.Firms.{firms_of}
use Rattle.draw.proofs.Counting.{is_last, different_last, each_once}
use Rattle.draw.proofs.firms.count_firms.Goals as goal

pub returns-clause-value : goal.returns-clause-value
returns-clause-value g c =
    let answers = c.args.answers.now in
    count_from_yields_List _ _ c.count.ensures.ran
    (YieldsList-from_filter _ (is_last g.T.Answering.of_firm g.T.Answering.to_request c.args.request.0 answers)
    (YieldsList-from_enumerate (YieldsList-from_slice answers cc) cc) c.filter-last.ensures.closure (λ x b q k. search (rules, tests)))
    ∙ different_last g.T.Answering.of_firm g.T.Answering.to_request c.args.request.0 answers

pub returns-clause-once : goal.returns-clause-once
returns-clause-once g c = each_once (firms_of g.T.Answering.of_firm g.T.Answering.to_request c.args.request.0 c.args.answers.now)
