-- What is known of, or asked for, for the write at the head of the waiting line.
use Rattle.std.specs.Prelude.{◌≡◌, ℕ, ◌<◌, Bool, true, ◌==◌, ◌||◌, List, [], ◌∷◌, length, All}
use Rattle.std.specs.List.{AllByRecursion, list_any}
use Rattle.salus_types.specs.Volume.{blocks}
use Rattle.salus_types.specs.declared.records.Write.{Write}
use Rattle.volume_model.specs.Contents.{Batch}
use Rattle.salus_model.specs.Waiting.{Taken}
use Rattle.client_rules.specs.State.{Open}
use Rattle.client_rules.specs.Tables.{line_of}
use Rattle.client_rules.specs.Submitting.{batch_asked}
use Rattle.client_asking.specs.Lining.{AreWithin}
use Rattle.pruned_volume.specs.Trees.{KeptTrees, is_known, IsKnownWrite}
use Rattle.head_blocks.specs.declared.headway.Headway.{Headway}
use Rattle.head_blocks.specs.declared.headway.Headway.TheVariants as headway

-- what the request at the head writes
abbrev pub head_batch : List Taken → Batch
head_batch [] = []
head_batch (t ∷ line) = batch_asked t.request

-- one of the questions is for the block
abbrev pub is_asked_for : List Open → ℕ → Bool
is_asked_for asked b = list_any (λ (o : Open). o.question.block == b) asked

-- the block of a write is one of the volume, and known or asked for
pub record IsCovered (trees : KeptTrees) (asked : List Open) (w : Write) : Type 0 where
  pub within : w.block < blocks trees.shape
  pub covered : (is_known trees w.block || is_asked_for asked w.block) ≡ true

-- A write stands at the head of the line, and each block that it writes is known or asked for. Where nothing waits, nothing is
-- asked for.
pub record IsHeaded (trees : KeptTrees) (asked : List Open) (line : List Taken) : Type 0 where
  pub heads : line_of line ≡ line
  pub within : AreWithin trees.shape asked
  pub covered : AllByRecursion (IsCovered trees asked) (head_batch line)
  pub none : line ≡ [] → asked ≡ []

-- ---- what an answer leaves of that

-- there is a head, and nothing is asked for any more
pub record IsSettled (asked : List Open) (line : List Taken) : Type 0 where
  pub none : asked ≡ []
  pub head : 0 < length line

-- and each block that the head writes is known
pub record IsAllKnown (trees : KeptTrees) (asked : List Open) (line : List Taken) : Type 0 where
  pub settled : IsSettled asked line
  pub known : All (IsKnownWrite trees) (head_batch line)

abbrev pub IsLeft : Headway → KeptTrees → List Open → List Taken → Type 0
IsLeft headway.Waits trees asked line = IsHeaded trees asked line
IsLeft headway.Known trees asked line = IsAllKnown trees asked line
IsLeft headway.Faulted trees asked line = IsSettled asked line
