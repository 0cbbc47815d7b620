-- What can be folded, and how what is held then is spelled.
use Rattle.std.specs.Prelude.{◌≡◌, ℕ, ◌≤◌, ◌==◌, ◌||◌, not, Bool, List, ◌∷◌, length, filter}
use Rattle.std.specs.List.{AllByRecursion, list_all}
use Rattle.salus_types.specs.declared.records.Record.{Record}
use Rattle.salus_types.specs.declared.records.Base.{Base}
use Rattle.salus_types.specs.declared.records.Held.{Held}
use Rattle.client_tag.specs.Spelling.{size_of}
use Rattle.holding_model.specs.Changing.{is_open_base}

-- each block of the part is as long as those of the base
abbrev pub HasSize : Base → Record → Type 0
HasSize base rec = AllByRecursion (λ w. length w.bytes ≡ size_of base.blocks) rec.writes

-- the part is of another session, or its blocks have this length
abbrev pub part_fits : ℕ → ℕ → Record → Bool
part_fits session size rec = not (rec.header.session == session) || list_all (λ w. length w.bytes == size) rec.writes

-- the base is of another session, or the parts of the open one have blocks as long as its own
abbrev pub base_fits : Held → Base → Bool
base_fits held base = not (is_open_base held base) || list_all (λ rec. part_fits held.session (size_of base.blocks) rec) held.parts

-- the open session's bases
abbrev pub open_bases : Held → List Base
open_bases held = filter (λ base. is_open_base held base) held.bases

-- the open session has one base, and its parts have blocks of that base's length
pub record CanBeFolded (held : Held) : Type 0 where
  pub one : length (open_bases held) ≡ 1
  pub sizes : AllByRecursion (λ base. AllByRecursion (λ rec. rec.header.session ≡ held.session → HasSize base rec) held.parts) (open_bases held)

-- the first base is of the open session or of a later one, so that the switch behind it keeps it
pub record IsLed (held : Held) : Type 0 where
  pub first : Base
  pub more : List Base
  pub bases_are : held.bases ≡ first ∷ more
  pub session : held.session ≤ first.rec.header.session
