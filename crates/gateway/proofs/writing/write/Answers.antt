use Rattle.std.proofs.Common.{rules}
use Rattle.gateway.specs.Frames.{plain}
use Rattle.gateway.proofs.Codec.{reread_written}
use Rattle.gateway.proofs.writing.write.Goals as goal

pub returns-clause-rereads : goal.returns-clause-rereads
returns-clause-rereads g c place h =
    reread_written _ g.O.Orders.taken g.met.O.Orders.permitted place c.args.message.now (plain c.lay_out-layout.result) _ c.put.ensures c.lay_out-layout.ensures
    (search rules)
