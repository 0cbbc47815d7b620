-- A restart that gathers: which client of the rules it stands for, what is true of what it keeps, and what comes of a reply.
use Rattle.std.specs.Prelude.{◌≡◌, true, ℕ, ◌≤◌, ◌^◌, List, [], ◌∷◌, length, None}
use Rattle.std.specs.List.{AllByRecursion}
use Rattle.salus_types.specs.Volume.{Shape, region_blocks, blocks}
use Rattle.salus_types.specs.declared.records.Header.{Header}
use Rattle.salus_types.specs.declared.records.Record.{Record}
use Rattle.salus_types.specs.declared.records.Base.{Base}
use Rattle.schedule_text.specs.declared.schedule.Volume.{Volume}
use Rattle.printed_lines.specs.declared.line.Line.TheVariants as line
use Rattle.holding_model.specs.Fitting.{record_fits}
use Rattle.volume_model.specs.Contents.{blocks_in, roots_of}
use Rattle.volume_model.specs.Recovering.{Pool}
use Rattle.volume_restart.specs.declared.restart.Phase.TheVariants as phase
use Rattle.volume_restart.specs.Restarting.{shape_of}
use Rattle.client_rules.specs.State.{Gathering as AnyGathering, Gathers, Closed, Told, ignored}
use Rattle.client_rules.specs.Opening.{no_pool, staged_from}
use Rattle.session_opening.specs.Answered.{IsSaid}
use Rattle.session_opening.specs.declared.gathering.Gathering.{Gathering}
use Rattle.session_opening.specs.declared.gathering.Turn.{Turn}
use Rattle.session_opening.specs.declared.gathering.Turn.TheVariants as turn

-- ---- what is kept

-- a block for each place of a region, each of the volume's length
abbrev pub IsShaped : Shape → List (List ℕ) → Type 0
IsShaped shape contents = (length contents ≡ region_blocks shape) × AllByRecursion (λ x. length x ≡ shape.block) contents

abbrev pub BaseShaped : Shape → Base → Type 0
BaseShaped shape base = IsShaped shape base.blocks

-- its writes fit, and it has no run
abbrev pub PartFits : Shape → Record → Type 0
PartFits shape rec = (record_fits shape rec ≡ true) × (rec.run ≡ None)

abbrev pub HeaderLow : Header → Type 0
HeaderLow h = h.seq ≤ 2 ^ 63

-- so is all that counts of the replies
pub record IsCounted (shape : Shape) (pool : Pool) : Type 0 where
  pub bases : AllByRecursion (BaseShaped shape) pool.bases
  pub parts : AllByRecursion (PartFits shape) pool.parts
  pub headers : AllByRecursion HeaderLow pool.headers

-- what is true of each restart that gathers
pub record IsGathering (shape : Shape) (kept : Gathering) : Type 0 where
  pub shape_is : shape_of kept.restart ≡ shape
  pub session : kept.restart.session ≡ kept.session
  pub phase : kept.restart.phase ≡ phase.Gathering
  pub counted : IsCounted shape kept.restart.pool

-- ---- for whom it stands

pub record GathersAs (kept : Gathering) (g : AnyGathering) : Type 0 where
  pub session : kept.session ≡ g.session
  pub answered : IsSaid kept.restart.answers g.answered
  pub pool : kept.restart.pool ≡ g.pool

-- no reply is in
abbrev pub starts_gathering : ℕ → AnyGathering
starts_gathering e = record { session = e; answered = []; pool = no_pool }

-- ---- what comes of a reply

-- what was chosen are all blocks of the volume, each of its length, after at most 2^63 batches, with the roots of its regions
abbrev pub IsWhole : Shape → Turn → Type 0
IsWhole shape (turn.Chose choice) = (length choice.contents ≡ blocks shape) × AllByRecursion (λ x. length x ≡ shape.block) choice.contents × (choice.number ≤ 2 ^ 63) × (choice.roots ≡ roots_of shape choice.contents)
IsWhole shape other = Unit {0}

-- others are waited for
pub record Waits (kept : Gathering) (told : Told) : Type 0 where
  pub next : AnyGathering
  pub stands : GathersAs kept next
  pub is : told ≡ ignored (Gathers next)

abbrev pub IsTurn : Volume → Gathering → Turn → Told → Type 0
IsTurn volume kept turn.Waits told = Waits kept told
IsTurn volume kept turn.Lost told = told ≡ record { client = Closed; outs = []; lines = line.Lost kept.session ∷ [] }
IsTurn volume kept (turn.Chose choice) told =
    told ≡ staged_from volume kept.session choice.session choice.number choice.contents (λ r. blocks_in volume.geometry choice.contents r)
