-- What was sent so far, and which nodes counted when they sent it.
use Rattle.std.specs.Prelude.{◌≡◌, ◌⊎◌, ℕ, ◌<◌, ◌≤◌, true, List, [], ◌∷◌, map, Some, Ok}
use Rattle.salus_types.specs.declared.names.NodeName.{NodeName}
use Rattle.salus_types.specs.declared.names.Sender.{Sender}
use Rattle.salus_message.specs.declared.wire.Message.{Message}
use Rattle.salus_message.specs.Reading.{message_at}
use Rattle.schedule_text.specs.declared.schedule.Event.{Event}
use Rattle.salus_model.specs.Following.{Posted, posted_at, sent_by}
use Rattle.salus_model.specs.Guarding.{counts}
use Rattle.salus_model.specs.Hearing.{Past}

-- how many messages were sent in these steps
abbrev pub sent_in : List Past → ℕ
sent_in history = sent_by (map (λ p. p.step) history)

-- message k is of that party, and it says that
pub record IsSaid (posts : List Posted) (k : ℕ) (from : Sender) (said : Message) : Type 0 where
  pub counted : 0 < k
  pub post : Posted
  pub at : posted_at posts k ≡ Some post
  pub from_is : post.from ≡ from
  pub reads : message_at post.bytes ≡ Ok said

-- The node counted at the end of the step in which message k was sent.
unfoldable pub CountedThen : List Event → NodeName → ℕ → List Past → Type 0
CountedThen events name k [] = ⊥
CountedThen events name k (p ∷ history) =
    ((sent_in history < k) × (k ≤ p.step.sent) × (counts events (p ∷ history) name ≡ true)) ⊎ CountedThen events name k history

-- it counts now, or it counted then
abbrev pub CountsOrCounted : List Event → NodeName → ℕ → List Past → Type 0
CountsOrCounted events name k history = (counts events history name ≡ true) ⊎ CountedThen events name k history
