-- The parties of a volume: the client, and the nodes of each region's group.
use Rattle.std.specs.Prelude.{ℕ, Bool, true, false, ◌==◌, ◌&&◌, List, map, flat_map}
use Rattle.std.specs.List.{range_with_len}
use Rattle.salus_types.specs.Volume.{Shape}
use Rattle.salus_types.specs.declared.names.NodeName.{NodeName}
use Rattle.salus_types.specs.declared.names.Sender.{Sender}
use Rattle.salus_types.specs.declared.names.Sender.TheVariants as sender
use Rattle.volume_model.specs.Contents.{all_regions}

abbrev pub is_client : Sender → Bool
is_client sender.Client = true
is_client (sender.Node name) = false

abbrev pub same_node : NodeName → NodeName → Bool
same_node a b = (a.region == b.region) && (a.replica == b.replica)

abbrev pub same_party : Sender → Sender → Bool
same_party sender.Client sender.Client = true
same_party (sender.Node a) (sender.Node b) = same_node a b
same_party a b = false

-- the replicas of a region's group
abbrev pub group_of : Shape → ℕ → List NodeName
group_of shape g = map (λ r. record { region = g; replica = r }) (range_with_len 0 shape.replicas)

abbrev pub all_nodes : Shape → List NodeName
all_nodes shape = flat_map (λ g. group_of shape g) (all_regions shape)
