-- What a pool keeps.
use Rattle.std.specs.Prelude.{◌≡◌, ℕ, true, if◌then◌else◌, List, [], ◌∷◌, ◌++◌, map, None}
use Rattle.salus_types.specs.Volume.{Shape}
use Rattle.salus_types.specs.declared.records.Record.{Record}
use Rattle.salus_types.specs.declared.records.Base.{Base}
use Rattle.merkle_region.specs.Tree.{root_of, IsAmong}
use Rattle.holding_model.specs.Fitting.{has_shape}
use Rattle.volume_model.specs.Recovering.{Pool, record_counts, base_counts}

-- of a volume of this shape, what counts
pub record Kept : Type 0 where
  pub shape : Shape
  pub held : Pool

abbrev pub nothing_kept : Shape → Kept
nothing_kept shape = record { shape = shape; held = record { bases = []; parts = []; headers = [] } }

-- a record that counts is kept, with its header
abbrev pub with_part : List ℕ → Kept → Record → Kept
with_part key kept rec =
    if record_counts kept.shape key rec
    then record { shape = kept.shape; held = record { bases = kept.held.bases; parts = kept.held.parts ++ rec ∷ []; headers = kept.held.headers ++ rec.header ∷ [] } }
    else kept

-- a base that counts is kept, with its record's header
abbrev pub with_base : List ℕ → Kept → Base → Kept
with_base key kept base =
    if base_counts kept.shape key base
    then record { shape = kept.shape; held = record { bases = kept.held.bases ++ base ∷ []; parts = kept.held.parts; headers = kept.held.headers ++ base.rec.header ∷ [] } }
    else kept

-- the base has a block for each place, and its record's root
abbrev pub HasRoot : Shape → Base → Type 0
HasRoot shape base = (has_shape shape base.blocks ≡ true) × (root_of shape.height base.blocks ≡ base.rec.header.root)

-- the numbers of the parts are indexed, the bases have the shape of a region and their records' roots, and no part has a run
pub record IsKept (shape : Shape) (bases : List Base) (parts : List Record) (numbers : List ℕ) : Type 0 where
  pub indexed : numbers ≡ map (λ rec. rec.header.seq) parts
  pub shaped : (base : Base) → IsAmong base bases → has_shape shape base.blocks ≡ true
  pub rooted : (base : Base) → IsAmong base bases → root_of shape.height base.blocks ≡ base.rec.header.root
  pub plain : (rec : Record) → IsAmong rec parts → rec.run ≡ None

-- the bases have the shape of a region and their records' roots, and no part has a run
pub record IsSound (kept : Kept) : Type 0 where
  pub shaped : (base : Base) → IsAmong base kept.held.bases → has_shape kept.shape base.blocks ≡ true
  pub rooted : (base : Base) → IsAmong base kept.held.bases → root_of kept.shape.height base.blocks ≡ base.rec.header.root
  pub plain : (rec : Record) → IsAmong rec kept.held.parts → rec.run ≡ None
