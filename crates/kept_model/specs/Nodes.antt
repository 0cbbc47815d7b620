-- The nodes of a volume by number, and the volume as the abstract model has it.
use Rattle.std.specs.Prelude.{ℕ, ◌+◌, ◌*◌, ◌/◌, ◌%◌, Bool, ◌&&◌, not, nat_lt, List}
use Rattle.salus_types.specs.Volume.{Shape, regions}
use Rattle.salus_types.specs.declared.names.NodeName.{NodeName}
use Rattle.salus_types.specs.declared.names.Sender.TheVariants as sender
use Rattle.schedule_text.specs.declared.schedule.Event.{Event}
use Rattle.salus_model.specs.Guarding.{is_lied_for}
use Rattle.law_prefix.specs.World as abstract

-- a node's number: those of each region's group follow one another
abbrev pub node_number : Shape → NodeName → ℕ
node_number shape name = name.region * shape.replicas + name.replica

abbrev pub region_of_node : Shape → ℕ → ℕ
region_of_node shape r = r / shape.replicas

-- the node of that number
abbrev pub node_of : Shape → ℕ → NodeName
node_of shape r = record { region = r / shape.replicas; replica = r % shape.replicas }

-- a node of the volume in whose name no lie is told
abbrev pub is_honest : Shape → List Event → ℕ → Bool
is_honest shape events r = nat_lt (region_of_node shape r) (regions shape) && not (is_lied_for events (sender.Node (node_of shape r)))

abbrev pub volume_as : Shape → List Event → abstract.Volume
volume_as shape events = record { regions = regions shape; region = region_of_node shape; honest = is_honest shape events }
