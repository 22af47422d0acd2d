use Rattle.ranked.specs.Lists.{ranked}
use Rattle.draw.proofs.Decided.{ranked_pourable, lots, answer_is, confirms}
use Rattle.draw.proofs.decisions.decide.Goals as goal

pub returns-clause-result : goal.returns-clause-result
returns-clause-result g c =
    let os = c.args.offers.now in
    confirms (g.R.OfferRanking.favours c.args.rule.now) (g.R.Ranking.before c.args.rule.now) os
    record { apart = c.requires.ready.apart; order = g.met.R.Ranking.order c.args.rule.now; better_is_first = g.met.R.OfferRanking.better_first c.args.rule.now }
    c.args.lot.0 c.args.price.0 c.args.least.0 c.args.most.0 (lots c.args.lot.0 c.args.most.0 os c.requires.ready.lot_fits c.requires.ready.fits c.requires.ready.sound) c.answer.result
    (answer_is (g.R.OfferRanking.favours c.args.rule.now) c.side.result c.args.lot.0 c.args.price.0 c.args.least.0 c.args.most.0 (ranked (g.R.Ranking.before c.args.rule.now) os) c.rank.new.records c.walk.result.0.0 c.walk.result.1.0 c.answer.result c.answer.ensures c.walk.ensures.size c.walk.ensures.money c.side.ensures c.rank.ensures.order)

pub returns-clause-pourable : goal.returns-clause-pourable
returns-clause-pourable g c = ranked_pourable (g.R.Ranking.before c.args.rule.now) c.args.lot.0 c.args.most.0 c.args.offers.now c.rank.new.records c.rank.ensures.order c.requires.ready
