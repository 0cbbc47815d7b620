-- The chains of a session in a region, and how one goes on with given parts.
use Rattle.std.specs.Prelude.{◌≡◌, ℕ, ◌+◌, ◌<◌, ◌≤◌, IfSome, Bool, true, ◌==◌, ◌&&◌, if◌then◌else◌, List, [], ◌∷◌, ◌++◌, length, map, filter, filter_map, slice_get, Option, None, Some}
use Rattle.salus_types.specs.Volume.{Shape}
use Rattle.salus_types.specs.declared.records.Record.{Record}
use Rattle.salus_types.specs.declared.records.Base.{Base}
use Rattle.merkle_region.specs.Tree.{root_of, IsAmong}
use Rattle.holding_model.specs.Fitting.{blocks_after}
use Rattle.volume_model.specs.Recovering.{End, base_end, is_link, is_of, chain_ends}
use Rattle.restart_pool.specs.Kept.{HasRoot}
use Rattle.restart_pool.specs.declared.replay.Whole.{Whole}
use Rattle.restart_pool.specs.declared.chain.Way.{Way}
use Rattle.restart_pool.specs.declared.chain.Lane.{Lane}

-- the end of a chain after one part more
abbrev pub end_after : Shape → End → Record → End
end_after shape end rec = record { at = rec.header.seq; blocks = blocks_after shape end.blocks rec }

-- where a chain ends after these parts, if each links to the one before
unfoldable pub follow : Shape → End → List Record → Option End
follow shape end [] = Some end
follow shape end (rec ∷ later) = if is_link shape end rec then follow shape (end_after shape end rec) later else None

-- the same after the part that is found at a place, if one is
abbrev pub after_found : Shape → End → Option Record → Option End
after_found shape end None = Some end
after_found shape end (Some rec) = if is_link shape end rec then Some (end_after shape end rec) else None

-- the parts at these places
abbrev pub along : List Record → List ℕ → List Record
along parts places = filter_map (λ i. slice_get parts i) places

-- the blocks at an end, with their root
abbrev pub whole_at : Shape → End → Whole
whole_at shape end = record { root = root_of shape.height end.blocks; blocks = end.blocks }

-- ---- the chains of a session in a region

pub record Chains : Type 0 where
  pub shape : Shape
  pub session : ℕ
  pub region : ℕ
  pub bases : List Base
  pub parts : List Record

abbrev pub seen : Lane → Chains
seen lane = record { shape = lane.geometry; session = lane.session; region = lane.region; bases = lane.bases.now; parts = lane.parts.now }

-- the index has the numbers of the parts, the bases have the shape of a region and their records' roots, and no part has a run
pub record IsLane (lane : Lane) : Type 0 where
  pub indexed : lane.index.now ≡ map (λ rec. rec.header.seq) lane.parts.now
  pub rooted : (base : Base) → IsAmong base lane.bases.now → HasRoot lane.geometry base
  pub plain : (rec : Record) → IsAmong rec lane.parts.now → rec.run ≡ None

-- the ends of the chains
unfoldable pub ends : Chains → List End
ends c =
    chain_ends c.shape (filter (λ base. is_of c.session c.region base.rec.header) c.bases)
    (filter (λ rec. is_of c.session c.region rec.header) c.parts) (length c.parts)

-- a base with which a chain begins at this number
abbrev pub starts_at : Chains → ℕ → Base → Bool
starts_at c at base = is_of c.session c.region base.rec.header && (base.rec.header.seq == at)

-- no base at this number goes on with these parts
abbrev pub NoneStarts : Chains → ℕ → List Record → Type 0
NoneStarts c at later = (base : Base) → IsAmong base c.bases → starts_at c at base ≡ true → follow c.shape (base_end base) later ≡ None

-- no chain that ends at this number goes on with these parts
abbrev pub NoneFollows : Chains → ℕ → List Record → Type 0
NoneFollows c at later = (end : End) → IsAmong end (ends c) → end.at ≡ at → follow c.shape end later ≡ None

-- a chain that ends at this number and goes on with these parts is one that ends at x
abbrev pub LeadsTo : Chains → ℕ → ℕ → List Record → Type 0
LeadsTo c x at later =
    (end last : End) → IsAmong end (ends c) → end.at ≡ at → follow c.shape end later ≡ Some last → IsAmong last (ends c) × (last.at ≡ x)

-- a chain ends at x with these blocks
pub record IsEndAt (c : Chains) (x : ℕ) (whole : Whole) : Type 0 where
  pub end : End
  pub among : IsAmong end (ends c)
  pub at : end.at ≡ x
  pub is : whole ≡ whole_at c.shape end

-- ---- ways

-- the parts that lead on from a way
abbrev pub later_of : Chains → Way → List Record
later_of c way = along c.parts way.later.items

-- a base begins a chain that goes on as the way does
pub record Begins (c : Chains) (way : Way) (whole : Whole) : Type 0 where
  pub base : Base
  pub end : End
  pub among : IsAmong base c.bases
  pub starts : starts_at c way.at base ≡ true
  pub follows : follow c.shape (base_end base) (later_of c way) ≡ Some end
  pub is : whole ≡ whole_at c.shape end

-- the base doesn't
abbrev pub NotBegun : Chains → Way → Base → Type 0
NotBegun c way base = starts_at c way.at base ≡ true → follow c.shape (base_end base) (later_of c way) ≡ None

pub record SomeBegins (c : Chains) (ways : List Way) (whole : Whole) : Type 0 where
  pub way : Way
  pub among : IsAmong way ways
  pub begins : Begins c way whole

-- none of the ways is begun by a base
abbrev pub NoneBegins : Chains → List Way → Type 0
NoneBegins c ways = (way : Way) → IsAmong way ways → NoneStarts c way.at (later_of c way)

-- none of the ways is that of a chain
abbrev pub NoneIsWay : Chains → List Way → Type 0
NoneIsWay c ways = (way : Way) → IsAmong way ways → NoneFollows c way.at (later_of c way)

-- each of the ways leads to x
abbrev pub EachLeads : Chains → ℕ → List Way → Type 0
EachLeads c x ways = (way : Way) → IsAmong way ways → LeadsTo c x way.at (later_of c way)

abbrev pub EachBelow : ℕ → List Way → Type 0
EachBelow n ways = (way : Way) → IsAmong way ways → way.at < n

-- the part is a link of no chain that goes on as the way does, if none of these ways is that of a chain
abbrev pub IsCovered : Chains → Way → List Way → Record → Type 0
IsCovered c way ways rec = is_of c.session c.region rec.header ≡ true → NoneIsWay c ways → NoneFollows c rec.header.previous (rec ∷ later_of c way)

-- The new ways are the old ones and some that are one part longer than the way.
pub record AreLengthened (c : Chains) (way : Way) (old new : List Way) : Type 0 where
  pub keeps : (w : Way) → IsAmong w old → IsAmong w new
  pub lower : (n : ℕ) → EachBelow n old → way.at ≤ n → EachBelow n new
  pub leads : (x : ℕ) → EachLeads c x old → LeadsTo c x way.at (later_of c way) → EachLeads c x new

abbrev pub IsTried : Chains → Way → List Way → Option Record → Type 0
IsTried c way ways tried = IfSome tried (IsCovered c way ways)

-- This part was tried.
pub record AddsOne (c : Chains) (way : Way) (rec : Record) (old new : List Way) (tried : Option Record) : Type 0 where
  pub lengthened : AreLengthened c way old new
  pub covers : IsCovered c way new rec
  pub tried_so_far : IsTried c way new tried

-- All parts were tried.
pub record AddsLonger (c : Chains) (way : Way) (old new : List Way) : Type 0 where
  pub lengthened : AreLengthened c way old new
  pub covers : NoneIsWay c new → NoneStarts c way.at (later_of c way) → NoneFollows c way.at (later_of c way)

-- These are all ways one part longer.
pub record AreLonger (c : Chains) (ways longer : List Way) : Type 0 where
  pub lower : (n : ℕ) → EachBelow (n + 1) ways → EachBelow n longer
  pub leads : (x : ℕ) → EachLeads c x ways → EachLeads c x longer
  pub covers : NoneIsWay c longer → NoneBegins c ways → NoneIsWay c ways
