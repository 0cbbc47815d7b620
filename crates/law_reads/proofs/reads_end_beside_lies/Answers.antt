use Rattle.run_rules.specs.Running.{formatted}
use Rattle.run_rules.specs.Rooms.{rooms_of}
use Rattle.law_reads.proofs.Run.{reads_end_beside}
use Rattle.law_reads.proofs.reads_end_beside_lies.Goals as goal

pub returns : goal.returns
returns c volume events posts trace limits follows none unforged calm by serving =
    reads_end_beside volume events posts trace limits follows none unforged calm by (rooms_of volume.geometry posts (formatted volume)) serving
