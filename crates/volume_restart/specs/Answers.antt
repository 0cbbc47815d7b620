-- Which nodes have answered in a phase.
use Rattle.std.specs.Prelude.{◌≡◌, ℕ, ◌+◌, ◌*◌, Bool, true, false, List, length, replicate, slice_index_or, slice_set}
use Rattle.std.specs.List.{list_all}
use Rattle.salus_types.specs.Volume.{Shape, nodes}
use Rattle.salus_types.specs.declared.names.NodeName.{NodeName}
use Rattle.volume_model.specs.Groups.{all_nodes}

-- an entry for each node: region by region, and in each by replica
pub record Table : Type 0 where
  pub shape : Shape
  pub said : List Bool

abbrev pub IsTable : Shape → List Bool → Type 0
IsTable shape said = length said ≡ nodes shape

abbrev pub place_of : Shape → NodeName → ℕ
place_of shape name = name.region * shape.replicas + name.replica

abbrev pub nobody : Shape → Table
nobody shape = record { shape = shape; said = replicate (nodes shape) false }

abbrev pub has_said : Table → NodeName → Bool
has_said t name = slice_index_or t.said (place_of t.shape name) false

abbrev pub with_said : Table → NodeName → Table
with_said t name = record { shape = t.shape; said = slice_set t.said (place_of t.shape name) true }

-- every node of the volume has answered
abbrev pub all_said : Table → Bool
all_said t = list_all (λ name. has_said t name) (all_nodes t.shape)
