-- A session that begins: which client of the rules it stands for while it is staged and while nodes switch to it, what is
-- true of what is kept, and what comes of an answer.
use Rattle.std.specs.Prelude.{◌≡◌, Bool, true, false, List, [], ◌∷◌, ◌++◌, map, length}
use Rattle.salus_types.specs.Volume.{Shape, regions, blocks}
use Rattle.salus_types.specs.declared.records.Out.{Out}
use Rattle.printed_lines.specs.declared.line.Line.TheVariants as line
use Rattle.volume_model.specs.Contents.{roots_of}
use Rattle.volume_restart.specs.declared.restart.Phase.TheVariants as phase
use Rattle.volume_restart.specs.Restarting.{shape_of}
use Rattle.posting.specs.Letters.{out_of_letter}
use Rattle.client_rules.specs.State.{Beginning as AnyBeginning, Client, Stages, Switches, Serves, Told, ignored}
use Rattle.client_rules.specs.Opening.{new_serving}
use Rattle.client_asking.specs.declared.step.Step.{Step}
use Rattle.open_reads.specs.Telling.{Adds}
use Rattle.session_opening.specs.Answered.{IsSaid}
use Rattle.session_opening.specs.Basing.{all_letters, AreBases, IsLoaded}
use Rattle.session_opening.specs.declared.beginning.Beginning.{Beginning}

-- what is true of each session that begins
pub record IsBegun (shape : Shape) (kept : Beginning) : Type 0 where
  pub shape_is : shape_of kept.progress ≡ shape
  pub roots : length kept.roots ≡ regions shape
  pub records : AreBases shape kept.records
  pub loaded : IsLoaded shape kept.carried

-- ---- for whom it stands

-- the roots are those of the client's blocks
pub record BeginsAs (kept : Beginning) (s : AnyBeginning) : Type 0 where
  pub session : kept.session ≡ s.session
  pub seq : kept.seq ≡ s.seq
  pub roots : kept.roots ≡ roots_of (shape_of kept.progress) s.contents
  pub long : length s.contents ≡ blocks (shape_of kept.progress)

-- the bases are to be staged by the nodes that haven't answered
pub record StagesAs (kept : Beginning) (s : AnyBeginning) : Type 0 where
  pub begins : BeginsAs kept s
  pub phase : kept.progress.phase ≡ phase.Staging
  pub bases : s.bases ≡ all_letters (shape_of kept.progress) kept.carried kept.records
  pub answered : IsSaid kept.progress.answers s.answered

-- those that haven't answered are to switch
pub record SwitchesAs (kept : Beginning) (s : AnyBeginning) : Type 0 where
  pub begins : BeginsAs kept s
  pub phase : kept.progress.phase ≡ phase.Switching
  pub answered : IsSaid kept.progress.answers s.answered

abbrev pub BeginsAt : Beginning → Client → Type 0
BeginsAt kept (Stages s) = StagesAs kept s
BeginsAt kept (Switches s) = SwitchesAs kept s
BeginsAt kept other = ⊥

-- ---- what comes of it

-- it stands for what the rules make of the client, and their messages and lines are added
pub record IsStaged (before after : Step) (kept : Beginning) (told : Told) : Type 0 where
  pub stands : BeginsAt kept told.client
  pub adds : Adds before after told

-- the same where no line is added
pub record IsStagedOn (before after : List Out) (kept : Beginning) (told : Told) : Type 0 where
  pub stands : BeginsAt kept told.client
  pub outs : after ≡ before ++ map out_of_letter told.outs
  pub lines : told.lines ≡ []

-- the session is open
pub record IsOpened (kept : Beginning) (told : Told) : Type 0 where
  pub now : AnyBeginning
  pub begins : BeginsAs kept now
  pub is : told ≡ record { client = Serves (new_serving (shape_of kept.progress) now.session now.seq now.contents); outs = []; lines = line.Open now.session ∷ [] }

-- others are waited for
pub record AwaitsMore (kept : Beginning) (told : Told) : Type 0 where
  pub now : AnyBeginning
  pub stands : SwitchesAs kept now
  pub is : told ≡ ignored (Switches now)

abbrev pub IsSwitched : Bool → Beginning → Told → Type 0
IsSwitched true kept told = IsOpened kept told
IsSwitched false kept told = AwaitsMore kept told

-- it is of the same volume, and starts with as much
pub record Stays (before after : Beginning) : Type 0 where
  pub shape : shape_of after.progress ≡ shape_of before.progress
  pub session : after.session ≡ before.session
  pub seq : after.seq ≡ before.seq
  pub roots : after.roots ≡ before.roots
  pub records : after.records ≡ before.records
  pub carried : after.carried ≡ before.carried
