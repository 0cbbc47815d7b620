-- What a client keeps while it opens a session.
use Rattle.std.specs.Prelude.{ℕ, List}
use Rattle.salus_types.specs.Volume.{Shape}
use Rattle.volume_restart.specs.Restarting.{shape_of}
use Rattle.session_opening.specs.Gathered.{IsGathering}
use Rattle.session_opening.specs.Fetched.{IsFetching}
use Rattle.session_opening.specs.Begun.{IsBegun}
use Rattle.session_opening.specs.declared.gathering.Gathering.{Gathering}
use Rattle.session_opening.specs.declared.beginning.Beginning.{Beginning}
use Rattle.session_opening.specs.declared.phase.Phase.{Phase}
use Rattle.session_opening.specs.declared.phase.Phase.TheVariants as phase

-- the volume's key, and what is waited for
pub record KeptOpening : Type 0 where
  pub key : List ℕ
  pub phase : Phase

abbrev pub gathers_in : Gathering → Shape
gathers_in kept = shape_of kept.restart

abbrev pub begins_in : Beginning → Shape
begins_in kept = shape_of kept.progress

-- the volume's shape
abbrev pub shape_in : Phase → Shape
shape_in (phase.Gathers kept) = shape_of kept.restart
shape_in (phase.Fetches kept) = kept.geometry
shape_in (phase.Begins kept) = shape_of kept.progress

-- what is true in each phase
abbrev pub IsKept : Phase → Type 0
IsKept (phase.Gathers kept) = IsGathering (shape_of kept.restart) kept
IsKept (phase.Fetches kept) = IsFetching kept.geometry kept
IsKept (phase.Begins kept) = IsBegun (shape_of kept.progress) kept
