-- Which client of the rules a client stands for that opens a session.
use Rattle.std.specs.Prelude.{◌≡◌, ℕ, ◌≤◌, ◌^◌}
use Rattle.salus_types.specs.Volume.{Shape}
use Rattle.schedule_text.specs.declared.schedule.Volume.{Volume}
use Rattle.client_rules.specs.State.{Client, Gathers, Fetches}
use Rattle.session_opening.specs.Gathered.{GathersAs}
use Rattle.session_opening.specs.Fetched.{FetchesAs}
use Rattle.session_opening.specs.Begun.{BeginsAt}
use Rattle.session_opening.specs.Kept.{KeptOpening, shape_in}
use Rattle.session_opening.specs.declared.phase.Phase.{Phase}
use Rattle.session_opening.specs.declared.phase.Phase.TheVariants as phase

-- the volume's shape
abbrev pub shape_of : KeptOpening → Shape
shape_of kept = shape_in kept.phase

abbrev pub IsAt : Phase → Client → Type 0
IsAt (phase.Gathers kept) (Gathers g) = GathersAs kept g
IsAt (phase.Fetches kept) (Fetches f) = FetchesAs kept f
IsAt (phase.Begins kept) c = BeginsAt kept c
IsAt other c = ⊥

-- it stands for that client of that volume
pub record StandsFor (volume : Volume) (kept : KeptOpening) (c : Client) : Type 0 where
  pub geometry : volume.geometry ≡ shape_of kept
  pub key : volume.key ≡ kept.key
  pub at : IsAt kept.phase c

-- the session will start with at most so many batches
abbrev pub UpTo : ℕ → Phase → Type 0
UpTo most (phase.Gathers now) = 2 ^ 63 ≤ most
UpTo most (phase.Fetches now) = now.served.number ≤ most
UpTo most (phase.Begins now) = now.seq ≤ most

abbrev pub IsUpTo : ℕ → KeptOpening → Type 0
IsUpTo most kept = UpTo most kept.phase
