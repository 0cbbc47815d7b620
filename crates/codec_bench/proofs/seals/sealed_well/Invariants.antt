use Rattle.client_tag.specs.Ranges.{IsRecord}
use Rattle.codec_bench.proofs.seals.sealed_well.Given as goal

-- the record stays in the format
abbrev pub invariant-each : goal.invariant-each
invariant-each l = IsRecord l.rec
