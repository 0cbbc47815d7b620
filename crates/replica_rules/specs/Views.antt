-- A region's blocks with their number, and which records go on from there.
use Rattle.std.specs.Prelude.{ℕ, Bool, ◌==◌, ◌&&◌, nat_lt, List, length, slice_index_or, bytes_eq}
use Rattle.std.specs.List.{list_all, list_any}
use Rattle.salus_types.specs.Volume.{Shape, regions}
use Rattle.salus_types.specs.declared.records.Header.{Header}
use Rattle.salus_types.specs.declared.records.Record.{Record}
use Rattle.salus_types.specs.declared.records.Base.{Base}
use Rattle.merkle_region.specs.Tree.{root_of}
use Rattle.holding_model.specs.Fitting.{ascends_from, record_fits, has_content, blocks_after}

-- the blocks of a region, after the record of that number
pub record View : Type 0 where
  pub number : ℕ
  pub blocks : List (List ℕ)

abbrev pub view_of_base : Base → View
view_of_base base = record { number = base.rec.header.seq; blocks = base.blocks }

abbrev pub view_after : Shape → View → Record → View
view_after shape view rec = record { number = rec.header.seq; blocks = blocks_after shape view.blocks rec }

abbrev pub view_root : Shape → View → List ℕ
view_root shape view = root_of shape.height view.blocks

-- the blocks after the record have the root that it names
abbrev pub is_accepted : Shape → View → Record → Bool
is_accepted shape view rec = bytes_eq (view_root shape (view_after shape view rec)) rec.header.root

-- ---- the shape of a part

-- regions of the volume, each once and ascending, and this one is among them
abbrev pub touches_here : Shape → ℕ → List ℕ → Bool
touches_here shape g touched = ascends_from 0 touched && list_all (λ r. nat_lt r (regions shape)) touched && list_any (λ r. r == g) touched

-- a front for each region, the regions touched, a leader before that is one of the volume's, and a number above the previous
abbrev pub header_is_right : Shape → ℕ → Header → Bool
header_is_right shape g h =
    (length h.fronts == regions shape) && touches_here shape g h.touched && nat_lt h.leader_before (regions shape) && nat_lt h.previous h.seq

-- a part for region g is of the right shape
unfoldable pub has_right_shape : Shape → ℕ → Record → Bool
has_right_shape shape g rec = header_is_right shape g rec.header && has_content rec.writes rec.run && record_fits shape rec

-- the region that leads a record's batch: the first that it touches
abbrev pub led_by : Header → ℕ
led_by h = slice_index_or h.touched 0 0
