use Rattle.std.proofs.Common.{arith}
use Rattle.datanode_log.proofs.Loads.{whole_count}
use Rattle.datanode_log.proofs.log.Loaded.into_log.Goals as goal

pub returns-clause-count : goal.returns-clause-count
returns-clause-count g c =
    let loaded = c.args.self in
    omega (arith, whole_count loaded.bytes.items loaded.log.gate loaded.log.spans.items loaded.whole)
