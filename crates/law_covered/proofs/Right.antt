-- That bases have the right blocks: those of their region after the batches of a known session.
use Rattle.std.proofs.Common.{◌≡◌, ◌⊎◌, ◌∙◌, ℕ, ◌<◌, ◌≤◌, List, [], length, Some, Ok, inl, inr, ap, sym, arith, length-append}
use Rattle.std.proofs.lemmas.List.{take-append-le}
use Rattle.salus_types.specs.Volume.{Shape}
use Rattle.salus_types.specs.declared.names.Sender.TheVariants as sender
use Rattle.salus_types.specs.declared.records.Base.{Base}
use Rattle.salus_types.specs.declared.records.Held.{Held}
use Rattle.salus_message.specs.declared.carried.Stage.{Stage}
use Rattle.salus_message.specs.declared.wire.Message.TheVariants as message
use Rattle.salus_message.specs.Reading.{message_at}
use Rattle.merkle_region.specs.Tree.{IsAmong}
use Rattle.volume_model.specs.Contents.{Batch, blocks_in, fold_batches}
use Rattle.volume_model.specs.Parts.{Session, contents_after}
use Rattle.salus_model.specs.Judge.{Judge, known_at}
use Rattle.salus_model.specs.Following.{Posted, posted_at}
use Rattle.run_rules.specs.Knowing.{KnownNode}
use Rattle.law_lemmas.proofs.Growing.{Grows, extended}

pub record IsRightBase (shape : Shape) (judge : Judge) (g : ℕ) (base : Base) : Type 0 where
  pub known : Session
  pub at : known_at judge base.rec.header.session ≡ Some known
  pub within : base.rec.header.seq ≤ length known.list
  pub blocks : base.blocks ≡ blocks_in shape (contents_after known base.rec.header.seq) g

abbrev pub HasRight : Shape → Judge → ℕ → Held → Type 0
HasRight shape judge g held = (base : Base) → IsAmong base held.bases → IsRightBase shape judge g base

-- so of what a node holds, and of each of the contents that its disk may mean
pub record HoldsRight (shape : Shape) (judge : Judge) (g : ℕ) (known : KnownNode) : Type 0 where
  pub held : HasRight shape judge g known.state.held
  pub each : (held : Held) → IsAmong held known.contents → HasRight shape judge g held

-- each base that the client staged, in the first messages that were sent, has no blocks or the right ones
abbrev pub StagesRight : Shape → List Posted → Judge → ℕ → Type 0
StagesRight shape posts judge sent =
    (k : ℕ) → 0 < k → k ≤ sent → (post : Posted) → posted_at posts k ≡ Some post → post.from ≡ sender.Client → (m : Stage) → message_at post.bytes ≡ Ok (message.Stage m)
    → (m.base.blocks ≡ []) ⊎ IsRightBase shape judge m.base.rec.header.region m.base

-- ---- more is known

module _ (shape : Shape) (before after : Judge) (grows : Grows before after) where
  pub right_more : (g : ℕ) (base : Base) → IsRightBase shape before g base → IsRightBase shape after g base
  right_more g base right =
      let found = grows right.known base.rec.header.session right.at in
      let within = right.within in
      record {
        known = extended right.known found.0;
        at = found.1;
        within = rw (length-append right.known.list found.0) (omega arith);
        blocks = right.blocks ∙ ap (λ (l : List Batch). blocks_in shape (fold_batches right.known.origin l) g) (sym (take-append-le base.rec.header.seq right.known.list found.0 right.within));
      }

  pub has_more : (g : ℕ) (held : Held) → HasRight shape before g held → HasRight shape after g held
  has_more g held right base among = right_more g base (right base among)

  pub holds_more : (g : ℕ) (known : KnownNode) → HoldsRight shape before g known → HoldsRight shape after g known
  holds_more g known right = record { held = has_more g known.state.held right.held; each = λ held among. has_more g held (right.each held among) }

  pub stages_more : (posts : List Posted) (sent : ℕ) → StagesRight shape posts before sent → StagesRight shape posts after sent
  stages_more posts sent right k counted low post at from m reads = elim (right k counted low post at from m reads) [
    | inl none ↦ inl none
    | inr same ↦ inr (right_more m.base.rec.header.region m.base same)
  ]
