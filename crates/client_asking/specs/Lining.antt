-- What waits in line, and that there is room for all of it to leave.
use Rattle.std.specs.Prelude.{◌≡◌, ℕ, ◌+◌, ◌<◌, ◌≤◌, List, [], ◌∷◌, ◌++◌, map, length, All}
use Rattle.std.specs.List.{AllByRecursion}
use Rattle.salus_types.specs.Volume.{Shape, blocks}
use Rattle.salus_model.specs.declared.trace.Request.{Request}
use Rattle.salus_model.specs.declared.trace.Request.TheVariants as request
use Rattle.salus_model.specs.Waiting.{Taken, writes_among, reads_among, barriers_among}
use Rattle.volume_model.specs.Contents.{Batch}
use Rattle.client_window.specs.Window.{in_flight, IsWriteOf}
use Rattle.client_rules.specs.State.{Open}
use Rattle.client_pipeline.specs.Pipeline.{KeptPipeline}

-- a batch that was accepted: at most 64 writes, each of a block of the volume and of its length
abbrev pub IsBatchOf : Shape → Batch → Type 0
IsBatchOf shape batch = (length batch ≤ 64) × All (IsWriteOf shape) batch

-- a request that may wait in line
abbrev pub IsAccepted : Shape → Request → Type 0
IsAccepted shape (request.Write batch) = IsBatchOf shape batch
IsAccepted shape (request.Read b) = b < blocks shape
IsAccepted shape request.Barrier = Unit {0}
IsAccepted shape (request.Restart session) = ⊥
IsAccepted shape (request.Reassign session region) = ⊥

-- these numbers rise, and the first is `low` at least
abbrev pub Rise : ℕ → List ℕ → Type 0
Rise low [] = Unit {0}
Rise low (n ∷ ns) = (low ≤ n) × Rise (n + 1) ns

-- the numbers of the open reads, and then the events of what waits
abbrev pub numbers_taken : List Open → List Taken → List ℕ
numbers_taken reads line = map (λ (o : Open). o.question.number) reads ++ map (λ (t : Taken). t.event) line

-- all these questions are for blocks of the volume
abbrev pub AreWithin : Shape → List Open → Type 0
AreWithin shape asked = AllByRecursion (λ (o : Open). o.question.block < blocks shape) asked

-- what waits in line was accepted, and there is room for all of it to leave
pub record HasRoom (p : KeptPipeline) (reads : List Open) (line : List Taken) : Type 0 where
  pub accepted : AllByRecursion (λ (t : Taken). IsAccepted p.window.shape t.request) line
  pub within : AreWithin p.window.shape reads
  pub rises : Rise 0 (numbers_taken reads line)
  pub few_reads : length reads + reads_among line ≤ 64
  pub few_barriers : 0 < barriers_among line → length p.window.barriers + barriers_among line ≤ 64
  pub few_batches : 0 < writes_among line → in_flight p.window + writes_among line ≤ 16

-- all of these numbers are at most that one
abbrev pub AreUpTo : ℕ → List ℕ → Type 0
AreUpTo high ns = AllByRecursion (λ n. n ≤ high) ns
