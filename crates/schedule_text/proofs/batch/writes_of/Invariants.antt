use Rattle.std.proofs.Common.{◌≡◌, length, map}
use Rattle.schedule_text.specs.Reading.{with_writes, writes_of}
use Rattle.schedule_text.proofs.batch.writes_of.Given as goal

abbrev pub invariant-loop-rest : goal.invariant-loop-rest
invariant-loop-rest l = with_writes l.writes (writes_of l.size (map (λ word. word.now) l.rest)) ≡ writes_of l.size (map (λ word. word.now) l.fn.words)

abbrev pub decreases-loop-rest : goal.decreases-loop-rest
decreases-loop-rest l = length l.rest
