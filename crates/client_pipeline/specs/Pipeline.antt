-- What a pipeline keeps: a client's window, and the sealed parts of each batch that isn't acknowledged.
use Rattle.std.specs.Prelude.{◌≡◌, ℕ, ◌+◌, ◌≤◌, List, All, flat_map}
use Rattle.salus_types.specs.Volume.{Shape}
use Rattle.salus_types.specs.declared.records.Record.{Record}
use Rattle.salus_message.specs.declared.wire.Message.TheVariants as message
use Rattle.volume_model.specs.Groups.{group_of}
use Rattle.client_rules.specs.State.{Letter, to_all}
use Rattle.client_tag.specs.Ranges.{IsRecord}
use Rattle.client_window.specs.Window.{KeptWindow}

pub record KeptPipeline : Type 0 where
  pub window : KeptWindow
  -- of each batch, the oldest first
  pub parts : List (List Record)
  pub key : List ℕ

-- each part has a spelling
abbrev pub IsPipeline : KeptPipeline → Type 0
IsPipeline p = All (All IsRecord) p.parts

-- all parts, those of the oldest batch first
abbrev pub all_parts : List (List Record) → List Record
all_parts parts = flat_map (λ batch. batch) parts

-- a part goes to every replica of its region
abbrev pub letters_of : Shape → Record → List Letter
letters_of shape part = to_all (group_of shape part.header.region) (message.Part (record { rec = part }))

-- It is of the same volume and session, no batch was submitted, and none that was acknowledged isn't any more.
pub record Stays (before after : KeptPipeline) : Type 0 where
  pub shape : after.window.shape ≡ before.window.shape
  pub session : after.window.session ≡ before.window.session
  pub last : after.window.last ≡ before.window.last
  pub acked : before.window.acked ≤ after.window.acked
  pub key : after.key ≡ before.key

-- the same, but that one batch was submitted at most
pub record StaysOrSubmits (before after : KeptPipeline) : Type 0 where
  pub shape : after.window.shape ≡ before.window.shape
  pub session : after.window.session ≡ before.window.session
  pub last : after.window.last ≤ before.window.last + 1
  pub acked : before.window.acked ≤ after.window.acked
  pub key : after.key ≡ before.key
