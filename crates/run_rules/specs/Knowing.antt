-- What is known of a node from its own steps alone.
use Rattle.std.specs.Prelude.{◌≡◌, ℕ, ◌||◌, Bool, true, false, if◌then◌else◌, List, [], ◌∷◌, option_map, Option, None, Some}
use Rattle.std.specs.Option.{option_map_or}
use Rattle.salus_types.specs.Volume.{Shape}
use Rattle.salus_types.specs.declared.records.Held.{Held}
use Rattle.merkle_region.specs.Tree.{IsAmong}
use Rattle.salus_model.specs.declared.trace.Handed.{Handed}
use Rattle.salus_model.specs.declared.trace.Handed.TheVariants as handed
use Rattle.salus_model.specs.Following.{Posted, posted_at}
use Rattle.holding_model.specs.Holding.{nothing_held}
use Rattle.holding_model.specs.Changing.{Change, contents_through}
use Rattle.replica_rules.specs.Nodes.{NodeState, loaded_as}
use Rattle.replica_rules.specs.Rules.{Sending, Input, Receives, Ticks, Handled, handled}

-- A node as its rules leave it, unless a call of its disk has failed since its load; then it is silent. Each image of
-- its disk means one of these contents.
pub record KnownNode : Type 0 where
  pub state : NodeState
  pub silent : Bool
  pub contents : List Held

abbrev pub speaking : NodeState → KnownNode
speaking state = record { state = state; silent = false; contents = state.held ∷ [] }

-- a node in whose handling a call failed: some of the handling's changes, in their order, may stand
abbrev pub silenced : Shape → NodeState → List Change → KnownNode
silenced shape state changes = record { state = state; silent = true; contents = contents_through shape state.held changes }

-- a node of region g that was just loaded with that
abbrev pub fresh : Shape → ℕ → Held → KnownNode
fresh shape g held = speaking (loaded_as shape g held)

-- a node that speaks, after an input; a call of its disk has failed, or none
abbrev pub after_handling : Shape → NodeState → Handled → Bool → KnownNode
after_handling shape state h failed = if failed then silenced shape state h.changes else speaking h.node

abbrev pub after_input : Shape → ℕ → KnownNode → Input → Bool → KnownNode
after_input shape g known input failed = if known.silent then known else after_handling shape known.state (handled shape g known.state input) failed

-- what its disk may mean while it handles the input
abbrev pub during : Shape → ℕ → KnownNode → Input → List Held
during shape g known input =
    if known.silent then known.contents else contents_through shape known.state.held (handled shape g known.state input).changes

-- what it sends then
abbrev pub outs_of : Shape → ℕ → KnownNode → Input → Bool → List Sending
outs_of shape g known input failed = if known.silent || failed then [] else (handled shape g known.state input).outs

-- ---- by what is handed to it

abbrev pub input_of_post : Posted → Input
input_of_post m = Receives m.from m.bytes

-- a message or a tick is an input; else there is none
abbrev pub input_of : List Posted → Handed → Option Input
input_of posts (handed.Deliver k) = option_map (λ m. input_of_post m) (posted_at posts k)
input_of posts (handed.Stop k) = option_map (λ m. input_of_post m) (posted_at posts k)
input_of posts (handed.Lie from bytes) = Some (Receives from bytes)
input_of posts handed.Tick = Some Ticks
input_of posts other = None

-- before a load that may follow in the same step
abbrev pub after_handed : Shape → ℕ → List Posted → KnownNode → Handed → Bool → KnownNode
after_handed shape g posts known what failed = option_map_or (λ input. after_input shape g known input failed) (input_of posts what) known

-- the messages that the step adds
abbrev pub outs_to : Shape → ℕ → List Posted → KnownNode → Handed → Bool → List Sending
outs_to shape g posts known what failed = option_map_or (λ input. outs_of shape g known input failed) (input_of posts what) []

abbrev pub reloaded : Shape → ℕ → KnownNode → Option Held → KnownNode
reloaded shape g known None = known
reloaded shape g known (Some held) = fresh shape g held

-- the node after a step
abbrev pub known_to : Shape → ℕ → List Posted → KnownNode → Handed → Bool → Option Held → KnownNode
known_to shape g posts known what failed loaded = reloaded shape g (after_handed shape g posts known what failed) loaded

-- ---- what is loaded

-- it is one of these contents
abbrev pub IsLoadOf : List Held → Option Held → Type 0
IsLoadOf contents None = ⊥
IsLoadOf contents (Some held) = IsAmong held contents

-- No call fails but in a handling. A crash and a stop load one of the contents that the disk may mean then, and a
-- replaced node has nothing.
abbrev pub LoadsRight : Shape → ℕ → List Posted → KnownNode → Handed → Bool → Option Held → Type 0
LoadsRight shape g posts known (handed.Deliver k) failed loaded = loaded ≡ None
LoadsRight shape g posts known (handed.Lie from bytes) failed loaded = loaded ≡ None
LoadsRight shape g posts known handed.Tick failed loaded = loaded ≡ None
LoadsRight shape g posts known (handed.Stop k) failed loaded = IsLoadOf (after_handed shape g posts known (handed.Stop k) failed).contents loaded
LoadsRight shape g posts known handed.Crash failed loaded = (failed ≡ false) × IsLoadOf known.contents loaded
LoadsRight shape g posts known handed.Replace failed loaded = (failed ≡ false) × (loaded ≡ Some nothing_held)
LoadsRight shape g posts known (handed.Asked r) failed loaded = (failed ≡ false) × (loaded ≡ None)
LoadsRight shape g posts known handed.ClientCrash failed loaded = (failed ≡ false) × (loaded ≡ None)
