-- What the disks of the nodes that count have, at every step: nothing that was acknowledged or claimed is missing on them.
use Rattle.std.specs.Prelude.{◌≡◌, ◌⊎◌, ℕ, ◌<◌, ◌≤◌, true, List, [], ◌∷◌}
use Rattle.salus_types.specs.declared.names.NodeName.{NodeName}
use Rattle.salus_types.specs.declared.names.Sender.TheVariants as sender
use Rattle.salus_types.specs.declared.records.Base.{Base}
use Rattle.salus_types.specs.declared.records.Held.{Held}
use Rattle.salus_message.specs.declared.small.Committed.{Committed}
use Rattle.salus_message.specs.declared.small.Switch.{Switch}
use Rattle.salus_message.specs.declared.wire.Message.TheVariants as message
use Rattle.merkle_region.specs.Tree.{IsAmong}
use Rattle.schedule_text.specs.Limits.{IsOfVolume}
use Rattle.schedule_text.specs.declared.schedule.Event.{Event}
use Rattle.schedule_text.specs.declared.schedule.Volume.{Volume}
use Rattle.salus_model.specs.declared.trace.TraceStep.{TraceStep}
use Rattle.salus_model.specs.Covering.{Covers}
use Rattle.salus_model.specs.Due.{past_of}
use Rattle.salus_model.specs.Following.{Posted}
use Rattle.salus_model.specs.Guarding.{counts}
use Rattle.salus_model.specs.Hearing.{Past, judge_of}
use Rattle.salus_model.specs.Judge.{Judge}
use Rattle.salus_model.specs.Licences.{HoldsBase}
use Rattle.run_rules.specs.Knowing.{KnownNode, fresh}
use Rattle.run_rules.specs.Running.{after, formatted}
use Rattle.law_covered.specs.Claiming.{sent_in, IsSaid, CountsOrCounted}

module _ (volume : Volume) (events : List Event) (posts : List Posted) where
  -- After these steps, where the disk of a node may mean that:
  module _ (history : List Past) (May : NodeName → Held → Type 0) where
    abbrev judge : Judge
    judge = judge_of volume.geometry events history

    -- P holds of all that the disk of a node that counts may mean
    abbrev pub OfCounting : (NodeName → Held → Type 0) → Type 0
    OfCounting P = (name : NodeName) → IsOfVolume volume.geometry name → counts events history name ≡ true → (held : Held) → May name held → P name held

    -- each covers the first s batches of session e
    abbrev pub AllCover : ℕ → ℕ → Type 0
    AllCover e s = OfCounting (λ name held. Covers volume.geometry volume.key judge name.region e s held)

    pub record AreCovered : Type 0 where
      -- each is of the session that was opened last, or of a later one
      pub present : OfCounting (λ name held. judge.now.session ≤ held.session)
      -- each covers every acknowledged batch
      pub acknowledged : (s : ℕ) → s ≤ judge.acked → AllCover judge.now.session s
      -- and every batch that a node claimed which counts, or which counted when it claimed it
      pub claimed : (k : ℕ) (name : NodeName) (claim : Committed) → IsOfVolume volume.geometry name → k ≤ sent_in history
          → IsSaid posts k (sender.Node name) (message.Committed claim) → CountsOrCounted events name k history → AllCover claim.session claim.front
      -- and what is behind the base of the open session of each
      pub placed : OfCounting (λ name held. (base : Base) → IsAmong base held.bases → base.rec.header.session ≡ held.session → AllCover held.session base.rec.header.seq)
      -- where the client told nodes to switch to a session, each has a base of it, or is of a later one
      pub switched : (k : ℕ) (switch : Switch) → k ≤ sent_in history → IsSaid posts k sender.Client (message.Switch switch)
          → OfCounting (λ name held. (switch.session < held.session) ⊎ HoldsBase switch.session held)

  -- ---- at every step

  -- the disk of a node may mean what is known of it
  abbrev pub MayMean : (NodeName → KnownNode) → NodeName → Held → Type 0
  MayMean known name held = IsAmong held (known name).contents

  -- so after these steps, and after each of those that follow
  unfoldable pub CoveredFrom : List Past → (NodeName → KnownNode) → List TraceStep → Type 0
  CoveredFrom history known [] = AreCovered history (MayMean known)
  CoveredFrom history known (step ∷ steps) =
      AreCovered history (MayMean known) × CoveredFrom (past_of volume events posts history step ∷ history) (λ name. after volume.geometry posts name (known name) step) steps

  -- before the first step of a formatted volume, and after each
  abbrev pub CoveredThroughout : List TraceStep → Type 0
  CoveredThroughout trace = CoveredFrom [] (λ name. fresh volume.geometry name.region (formatted volume name)) trace
