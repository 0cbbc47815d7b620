-- A session that is opened from what is held.
use Rattle.std.specs.Prelude.{◌≡◌, ℕ, Bool, ◌==◌, ◌&&◌, if◌then◌else◌, List, [], ◌∷◌, ◌++◌, length, filter, find, Option, None}
use Rattle.salus_types.specs.Volume.{Shape}
use Rattle.salus_types.specs.declared.records.Record.{Record}
use Rattle.salus_types.specs.declared.records.Base.{Base}
use Rattle.salus_types.specs.declared.records.Held.{Held}
use Rattle.replica_rules.specs.Views.{view_after}
use Rattle.replica_rules.specs.Nodes.{stands_for, goes_on, all_tried}
use Rattle.region_view.specs.Kept.{KeptView}

-- the first base that counts; session 0 has none
abbrev pub open_base_of : Shape → ℕ → ℕ → List Base → Option Base
open_base_of shape g e bases = if e == 0 then None else find (λ base. stands_for shape g e base) bases

abbrev pub parts_of : ℕ → List Record → List Record
parts_of e parts = filter (λ rec. rec.header.session == e) parts

-- so many parts count, and there is one base
abbrev pub is_whole_of : ℕ → ℕ → List Base → List Record → Bool
is_whole_of e count bases parts = (count == length (parts_of e parts)) && (length (filter (λ base. base.rec.header.session == e) bases) == 1)

-- what is held, as if that session were open
abbrev pub opened_at : Held → ℕ → Held
opened_at held e = record held { session = e }

-- a part is of the session, and goes on from the view
abbrev pub follows : ℕ → ℕ → KeptView → Record → Bool
follows g e seen rec = (rec.header.session == e) && goes_on seen.shape g seen.view rec

-- where it does, it is applied
pub record IsTried (g e : ℕ) (before : KeptView) (rec : Record) (after : KeptView) (applied : Bool) : Type 0 where
  pub told : applied ≡ follows g e before rec
  pub view : after.view ≡ (if applied then view_after before.shape before.view rec else before.view)

-- the parts of the session are tried in their order
pub record IsTriedAll (g e : ℕ) (before : KeptView) (parts : List Record) (after : KeptView) (applied : List Record) : Type 0 where
  pub all : all_tried before.shape g before.view (parts_of e parts) ≡ record { view = after.view; parts = applied }

-- a part that is applied is added
pub record IsTriedNext (g e : ℕ) (before : KeptView) (rec : Record) (after : KeptView) (old new : List Record) : Type 0 where
  pub applied : Bool
  pub tried : IsTried g e before rec after applied
  pub parts : new ≡ (if applied then old ++ rec ∷ [] else old)
