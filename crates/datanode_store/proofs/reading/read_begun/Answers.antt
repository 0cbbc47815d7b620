use Rattle.std.proofs.Common.{◌<◌, length, arith, rules}
use Rattle.salus_codec.specs.Spelling.{IsBytes}
use Rattle.client_tag.proofs.RecordLaws.{is_base}
use Rattle.datanode_store.proofs.reading.read_begun.Goals as goal

pub returns-clause-ranges : goal.returns-clause-ranges
returns-clause-ranges c =
    let fits : IsBytes c.new-fields.result = search rules in
    let taken = is_base.takes c.new-fields.result c.in-Ok.base c.read_base.new.fields fits c.in-Ok.ensures in
    let some : 0 < length c.in-Ok.base.blocks = omega arith in
    record { ranges = taken.1.counts; typed = taken.1.widths; blocks = some }
