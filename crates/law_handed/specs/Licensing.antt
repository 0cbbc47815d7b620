-- What a node holds along a run, what a formatted node holds at first, and the licences that hold whatever bases it began with.
use Rattle.std.specs.Prelude.{◌≡◌, ℕ, List, [], ◌∷◌, ◌++◌, length}
use Rattle.std.specs.List.{AllByRecursion}
use Rattle.salus_types.specs.Volume.{Shape, region_blocks}
use Rattle.salus_types.specs.declared.names.NodeName.{NodeName}
use Rattle.salus_types.specs.declared.records.Record.{Record}
use Rattle.salus_types.specs.declared.records.Base.{Base}
use Rattle.salus_types.specs.declared.records.Held.{Held}
use Rattle.salus_message.specs.declared.wire.Message.{Message}
use Rattle.salus_message.specs.declared.wire.Message.TheVariants as message
use Rattle.merkle_region.specs.Tree.{root_of}
use Rattle.salus_model.specs.declared.trace.TraceStep.{TraceStep}
use Rattle.salus_model.specs.Following.{Posted}
use Rattle.salus_model.specs.Licences.{Letter, IsLicensed}
use Rattle.run_rules.specs.Knowing.{KnownNode}
use Rattle.run_rules.specs.Running.{after}

-- what is held in memory and what the disk may mean, at first and after each step
unfoldable pub moments_of : Shape → List Posted → NodeName → KnownNode → List TraceStep → List Held
moments_of shape posts name known [] = known.state.held ∷ known.contents
moments_of shape posts name known (step ∷ steps) = known.state.held ∷ known.contents ++ moments_of shape posts name (after shape posts name known step) steps

-- the formatted base: a block for each place, with the root that its record names
pub record IsFormattedBase (shape : Shape) (formatted : Record) (base : Base) : Type 0 where
  pub is : base.rec ≡ formatted
  pub count : length base.blocks ≡ region_blocks shape
  pub root : root_of shape.height base.blocks ≡ formatted.header.root

-- a node holds at first the formatted base, or nothing
pub record BeginsFormatted (shape : Shape) (formatted : Record) (first : Held) : Type 0 where
  pub bases : AllByRecursion (IsFormattedBase shape formatted) first.bases
  pub parts : first.parts ≡ []

-- the licence of a message that carries no blocks of the region
abbrev pub IsBacked : Shape → List Letter → Record → List Held → ((Held → Type 0) → Type 0) → ℕ → Message → Type 0
IsBacked shape letters formatted held everywhere g (message.Answer m) = Unit {0}
IsBacked shape letters formatted held everywhere g (message.Dumped m) = Unit {0}
IsBacked shape letters formatted held everywhere g other = IsLicensed shape letters formatted held everywhere g other
