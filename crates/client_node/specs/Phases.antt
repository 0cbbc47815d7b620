-- What a client keeps in each phase, and which client of the rules that is.
use Rattle.std.specs.Prelude.{◌≡◌, ℕ, Bool, true, false, List}
use Rattle.salus_types.specs.Volume.{Shape}
use Rattle.schedule_text.specs.declared.schedule.Volume.{Volume}
use Rattle.client_rules.specs.State.{Client, Closed, Told}
use Rattle.client_asking.specs.declared.step.Step.{Step}
use Rattle.open_reads.specs.Telling.{Adds}
use Rattle.serving_client.specs.Kept.{shape_of as serving_shape}
use Rattle.serving_client.specs.Standing.{Becomes}
use Rattle.session_opening.specs.Standing.{shape_of as opening_shape, StandsFor}
use Rattle.client_node.specs.declared.phase.ClosedClient.{ClosedClient}
use Rattle.client_node.specs.declared.phase.Phase.{Phase}
use Rattle.client_node.specs.declared.phase.Phase.TheVariants as phase

-- the volume's shape
abbrev pub shape_in : Phase → Shape
shape_in (phase.Closed kept) = kept.geometry
shape_in (phase.Serving kept) = serving_shape kept
shape_in (phase.Opening kept) = opening_shape kept.opening

-- its key
abbrev pub key_in : Phase → List ℕ
key_in (phase.Closed kept) = kept.key
key_in (phase.Serving kept) = kept.pipeline.key
key_in (phase.Opening kept) = kept.opening.key

-- no request of a greater event was taken
abbrev pub newest_in : Phase → ℕ
newest_in (phase.Closed kept) = kept.newest
newest_in (phase.Serving kept) = kept.newest
newest_in (phase.Opening kept) = kept.newest

-- it serves a session
abbrev pub serves_in : Phase → Bool
serves_in (phase.Serving kept) = true
serves_in other = false

-- that client is closed, and the volume's geometry and key are kept
pub record IsClosed (volume : Volume) (kept : ClosedClient) (c : Client) : Type 0 where
  pub geometry : volume.geometry ≡ kept.geometry
  pub key : volume.key ≡ kept.key
  pub closed : c ≡ Closed

-- it opens a session as that client does
abbrev pub Opens : Volume → Phase → Client → Type 0
Opens volume (phase.Opening kept) c = StandsFor volume kept.opening c
Opens volume other c = ⊥

-- it stands for that client of that volume
abbrev pub Plays : Volume → Phase → Client → Type 0
Plays volume (phase.Closed kept) c = IsClosed volume kept c
Plays volume (phase.Serving kept) c = Becomes volume kept c
Plays volume (phase.Opening kept) c = StandsFor volume kept.opening c

-- it stands for what the rules make of the client, and their messages and lines are added
pub record Follows (volume : Volume) (before after : Step) (kept : Phase) (told : Told) : Type 0 where
  pub client : Plays volume kept told.client
  pub adds : Adds before after told
