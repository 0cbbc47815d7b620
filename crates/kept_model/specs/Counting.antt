-- Which nodes count, and which will count once the session asked for last is open.
use Rattle.std.specs.Prelude.{ℕ, Bool, ◌&&◌, not, nat_lt, List}
use Rattle.std.specs.List.{list_any}
use Rattle.salus_types.specs.Volume.{Shape, regions}
use Rattle.salus_types.specs.declared.names.NodeName.{NodeName}
use Rattle.salus_types.specs.declared.names.Sender.TheVariants as sender
use Rattle.schedule_text.specs.declared.schedule.Event.{Event}
use Rattle.salus_model.specs.Hearing.{Past, since, begins}
use Rattle.salus_model.specs.Guarding.{is_lied_for, replaces, counts}
use Rattle.kept_model.specs.Nodes.{region_of_node, node_of}

-- no lie carries its name, and it wasn't replaced since a session was asked for last
abbrev pub is_fresh : List Event → List Past → NodeName → Bool
is_fresh events history name =
    not (is_lied_for events (sender.Node name)) && not (list_any (λ p. replaces name p) (since begins history))

-- of nodes by number; none counts that isn't of the volume
abbrev pub counts_as : Shape → List Event → List Past → ℕ → Bool
counts_as shape events history r = nat_lt (region_of_node shape r) (regions shape) && counts events history (node_of shape r)

abbrev pub fresh_as : Shape → List Event → List Past → ℕ → Bool
fresh_as shape events history r = nat_lt (region_of_node shape r) (regions shape) && is_fresh events history (node_of shape r)
