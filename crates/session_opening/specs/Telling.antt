-- What comes of a message, and that it is what the rules say.
use Rattle.std.specs.Prelude.{◌≡◌, ℕ, ◌≤◌, List, length}
use Rattle.salus_types.specs.Volume.{Shape, regions, blocks}
use Rattle.schedule_text.specs.declared.schedule.Volume.{Volume}
use Rattle.volume_model.specs.Contents.{roots_of}
use Rattle.client_rules.specs.State.{Client, Closed, Serves, Told}
use Rattle.client_rules.specs.Opening.{new_serving}
use Rattle.client_asking.specs.declared.step.Step.{Step}
use Rattle.open_reads.specs.Telling.{Adds}
use Rattle.session_opening.specs.Kept.{KeptOpening}
use Rattle.session_opening.specs.Standing.{shape_of, IsUpTo, StandsFor}
use Rattle.session_opening.specs.declared.fetching.Served.{Served}
use Rattle.session_opening.specs.declared.opening.Outcome.{Outcome}
use Rattle.session_opening.specs.declared.opening.Outcome.TheVariants as outcome

-- a client that serves from the first moment of this session, whose blocks have these roots
pub record ServesAs (volume : Volume) (served : Served) (c : Client) : Type 0 where
  pub contents : List (List ℕ)
  pub roots : served.roots ≡ roots_of volume.geometry contents
  pub long : length contents ≡ blocks volume.geometry
  pub is : c ≡ Serves (new_serving volume.geometry served.session served.number contents)

abbrev pub Becomes : Volume → Outcome → Client → Type 0
Becomes volume (outcome.Opens kept) c = StandsFor volume kept c
Becomes volume (outcome.Closes key) c = (c ≡ Closed) × (volume.key ≡ key)
Becomes volume (outcome.Serves served key) c = ServesAs volume served c × (volume.key ≡ key)

-- it has become what the rules say, and their messages and lines are added
pub record IsTold (volume : Volume) (before after : Step) (result : Outcome) (told : Told) : Type 0 where
  pub becomes : Becomes volume result told.client
  pub adds : Adds before after told

-- the same where the session is still to be opened
pub record OpensBy (volume : Volume) (before after : Step) (kept : KeptOpening) (told : Told) : Type 0 where
  pub stands : StandsFor volume kept told.client
  pub adds : Adds before after told

-- The session is staged or switched to, in a volume of this shape and key, and starts with so many batches.
abbrev pub BeginsWith : Shape → List ℕ → ℕ → Outcome → Type 0
BeginsWith shape key seq (outcome.Opens kept) = (shape_of kept ≡ shape) × (kept.key ≡ key) × ((most : ℕ) → seq ≤ most → IsUpTo most kept)
BeginsWith shape key seq other = ⊥

-- it is of the same volume, and the session starts with no more batches than was known
pub record GoesOn (before after : KeptOpening) : Type 0 where
  pub shape : shape_of after ≡ shape_of before
  pub key : after.key ≡ before.key
  pub up_to : (most : ℕ) → IsUpTo most before → IsUpTo most after

-- the session that is served has a root for each region
pub record GoesOver (before : KeptOpening) (served : Served) (key : List ℕ) : Type 0 where
  pub roots : length served.roots ≡ regions (shape_of before)
  pub key_is : key ≡ before.key
  pub up_to : (most : ℕ) → IsUpTo most before → served.number ≤ most

abbrev pub Follows : KeptOpening → Outcome → Type 0
Follows before (outcome.Opens after) = GoesOn before after
Follows before (outcome.Closes key) = key ≡ before.key
Follows before (outcome.Serves served key) = GoesOver before served key
