use Rattle.std.proofs.Common.{◌&&◌, eqb, sym, ◌∙◌, rules, tests}
use Rattle.std.proofs.lemmas.Iterator.{YieldsList-from_slice}
use Rattle.std.proofs.lemmas.Iterator.Search.{any_from_yields_List}
use Rattle.draw.proofs.Counting.{among_any}
use Rattle.draw.proofs.firms.has_firm.Goals as goal

pub returns : goal.returns
returns g c =
    any_from_yields_List (λ x. eqb (g.T.Answering.to_request x) c.args.request.0 && eqb (g.T.Answering.of_firm x) c.args.firm.0) _ _ _ c.any.ensures.ran
    (YieldsList-from_slice c.args.answers.now c.iter.ensures.rest) (λ x b q k. search (rules, tests))
    ∙ sym (among_any g.T.Answering.of_firm g.T.Answering.to_request c.args.request.0 c.args.firm.0 c.args.answers.now)
