use Rattle.std.proofs.Common.{arith}
use Rattle.datanode_log.proofs.Loads.{whole_count}
use Rattle.datanode_log.proofs.log.Loaded.count.Goals as goal

pub returns : goal.returns
returns g c =
    let loaded = c.args.self.now in
    omega (arith, whole_count loaded.bytes.items loaded.log.gate loaded.log.spans.items loaded.whole)
