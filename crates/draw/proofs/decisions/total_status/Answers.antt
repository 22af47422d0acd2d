use Rattle.ranked.proofs.Sorting.{apart_shuffled}
use Rattle.draw.specs.Offers.{named}
use Rattle.draw.proofs.Decided.{shows}
use Rattle.draw.proofs.decisions.total_status.Goals as goal

pub first_units-requires-clause-apart : goal.first_units-requires-clause-apart
first_units-requires-clause-apart g c = apart_shuffled named c.args.offers.now c.rank.new.records c.rank.ensures.ranks.same c.requires.apart

pub returns-clause-result : goal.returns-clause-result
returns-clause-result g c =
    shows (g.R.OfferRanking.favours c.args.rule.now) (g.R.Ranking.before c.args.rule.now) c.args.offers.now
    record { apart = c.requires.apart; order = g.met.R.Ranking.order c.args.rule.now; better_is_first = g.met.R.OfferRanking.better_first c.args.rule.now }
    c.args.quantity.0 c.rank.new.records c.first_units.result c.rank.ensures.order c.first_units.ensures.value c.first_units.ensures.bound
