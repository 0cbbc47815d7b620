use Rattle.client_tag.specs.Ranges.{IsRecord}
use Rattle.codec_bench.proofs.seals.seal_each.Given as goal

-- the record stays in the format
abbrev pub invariant-each : goal.invariant-each
invariant-each l = IsRecord l.rec
