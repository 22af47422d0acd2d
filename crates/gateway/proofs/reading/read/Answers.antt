use Rattle.std.proofs.Common.{◌≡◌, Ok, sym, rules}
use Rattle.gateway.specs.Frames.{meaning, decoded}
use Rattle.gateway.proofs.Codec.{rewrites}
use Rattle.gateway.proofs.Stray.{firsts}
use Rattle.gateway.proofs.reading.read.Goals as goal

pub returns-in_err-frame-clause-firsts : goal.returns-in_err-frame-clause-firsts
returns-in_err-frame-clause-firsts g c = firsts

pub returns-in_err-kind-clause-firsts : goal.returns-in_err-kind-clause-firsts
returns-in_err-kind-clause-firsts g c = firsts

pub returns-in-Some-clause-firsts : goal.returns-in-Some-clause-firsts
returns-in-Some-clause-firsts g c = firsts

pub returns-in_err-side-clause-firsts : goal.returns-in_err-side-clause-firsts
returns-in_err-side-clause-firsts g c = firsts

pub returns : goal.returns
returns g c =
    let same : c.in_ok-frame.frame.now ≡ c.args.frame.now = search rules in
    let e : Ok (meaning c.build.result) ≡ decoded g.O.Orders.taken c.args.place c.args.frame.now = search rules in
    record { result = e; rewrites = rewrites g.O.Orders.taken c.args.place c.args.frame.now _ (λ i. (c.type_inv.frame i).fits) (sym e); firsts = firsts }
