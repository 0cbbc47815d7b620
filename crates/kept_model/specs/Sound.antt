-- What makes what a node holds sound: its records are those of sessions that the lines make known, its blocks have the roots
-- that their records say, and its parts link from the base of the open session.
use Rattle.std.specs.Prelude.{◌≡◌, ◌⊎◌, ℕ, true, false, List, Some, is_some, find}
use Rattle.salus_types.specs.Volume.{Shape}
use Rattle.salus_types.specs.declared.records.Record.{Record}
use Rattle.salus_types.specs.declared.records.Base.{Base}
use Rattle.salus_types.specs.declared.records.Held.{Held}
use Rattle.merkle_region.specs.Tree.{root_of, IsAmong}
use Rattle.holding_model.specs.Fitting.{record_fits, has_content, has_shape}
use Rattle.holding_model.specs.Changing.{is_open_base}
use Rattle.volume_model.specs.Parts.{Session}
use Rattle.salus_model.specs.Judge.{Judge, known_at}
use Rattle.salus_model.specs.Forgery.{IsPartOf, IsBaseOf}
use Rattle.salus_model.specs.Covering.{Links}
use Rattle.kept_model.specs.Images.{open_place, later_bases}

-- A base of region g: the record of a known session's base, or that of the last part that was folded into it; a block for each
-- place, with the root that the record says.
pub record IsSoundBase (shape : Shape) (key : List ℕ) (judge : Judge) (g : ℕ) (base : Base) : Type 0 where
  pub known : Session
  pub at : known_at judge base.rec.header.session ≡ Some known
  pub own : IsPartOf shape key known g base.rec ⊎ IsBaseOf shape key known g base.rec
  pub fits : record_fits shape base.rec ≡ true
  pub whole : has_shape shape base.blocks ≡ true
  pub root : root_of shape.height base.blocks ≡ base.rec.header.root

-- A part of session e for region g.
pub record IsSoundPart (shape : Shape) (key : List ℕ) (judge : Judge) (g e : ℕ) (rec : Record) : Type 0 where
  pub known : Session
  pub at : known_at judge e ≡ Some known
  pub part : IsPartOf shape key known g rec
  pub fits : record_fits shape rec ≡ true

pub record IsSoundHeld (shape : Shape) (key : List ℕ) (judge : Judge) (g : ℕ) (held : Held) : Type 0 where
  pub bases : (base : Base) → IsAmong base held.bases → IsSoundBase shape key judge g base
  -- nothing is folded into a base of a session above the open one
  pub unfolded : (base : Base) → IsAmong base (later_bases held) → has_content base.rec.writes base.rec.run ≡ false
  pub parts : (rec : Record) → IsAmong rec held.parts → IsSoundPart shape key judge g held.session rec
  pub top : ℕ
  pub links : Links (open_place held) held.parts top
  -- a node that isn't blank holds a base of its open session
  pub begun : (held.session ≡ 0) ⊎ (is_some (find (λ base. is_open_base held base) held.bases) ≡ true)
