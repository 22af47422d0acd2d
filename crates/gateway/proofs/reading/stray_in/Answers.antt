use Rattle.std.proofs.Common.{take, ◌∙◌}
use Rattle.gateway.proofs.Stray.{by_position}
use Rattle.gateway.proofs.reading.stray_in.Goals as goal

pub returns : goal.returns
returns c = c.first_stray.ensures ∙ by_position c.args.uses (take 24 c.args.frame.now)
