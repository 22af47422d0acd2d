use Rattle.std.proofs.Common.{◌≡◌, ℕ, ◌+◌, ◌-◌, fold, ◌∙◌, rules}
use Rattle.rules.specs.declared.reports.Report.{Report}
use Rattle.rules.specs.Reports.{fills_of, kills_of}
use Rattle.turns.proofs.Gathered.{left_after}
use Rattle.turns.proofs.tables.rest_of.Goals as goal

pub returns : goal.returns
returns g c =
    let n = g.T.Standing.kind.number c.args.x.now in
    let l = g.T.Standing.kind.left c.args.x.now in
    let e : c.fold.result ≡ fold (λ (a : ℕ) (r : Report). a - (fills_of n r + kills_of n r)) l c.args.reports.now = search rules in
    e ∙ left_after c.args.reports.now n l
