-- The changes of what a node holds.
use Rattle.std.specs.Prelude.{ℕ, Bool, not, ◌==◌, ◌&&◌, nat_lt, nat_le, List, [], ◌∷◌, ◌++◌, map, filter}
use Rattle.salus_types.specs.Volume.{Shape}
use Rattle.salus_types.specs.declared.records.Record.{Record}
use Rattle.salus_types.specs.declared.records.Base.{Base}
use Rattle.salus_types.specs.declared.records.Held.{Held}
use Rattle.holding_model.specs.Fitting.{blocks_after}
use Rattle.holding_model.specs.Holding.{OfPart, OfBase, ToSession, held_after}

-- a part, a base, the switch to a session, or the parts up to a number folded into the base
pub data Change : Type 0 where
  AddsPart : Record → Change
  AddsBase : Base → Change
  SwitchesTo : ℕ → Change
  FoldsTo : ℕ → Change

-- ---- folding

-- of the open session, and at most that number
abbrev pub is_folded : Held → ℕ → Record → Bool
is_folded held n rec = (rec.header.session == held.session) && nat_le rec.header.seq n

-- a base of the open session
abbrev pub is_open_base : Held → Base → Bool
is_open_base held base = base.rec.header.session == held.session

-- the base after a part: its blocks after the part, and the part's record
abbrev pub base_after : Shape → Base → Record → Base
base_after shape base rec = record { rec = rec; blocks = blocks_after shape base.blocks rec }

unfoldable pub base_after_all : Shape → Base → List Record → Base
base_after_all shape base [] = base
base_after_all shape base (rec ∷ parts) = base_after_all shape (base_after shape base rec) parts

-- the bases of the open session, folded, and then those of later sessions
abbrev pub bases_folded : Shape → Held → ℕ → List Base
bases_folded shape held n =
    map (λ base. base_after_all shape base (filter (λ rec. is_folded held n rec) held.parts)) (filter (λ base. is_open_base held base) held.bases)
    ++ filter (λ base. nat_lt held.session base.rec.header.session) held.bases

-- where no part is to be folded, nothing changes
abbrev pub folded : Shape → Held → ℕ → List Record → Held
folded shape held n [] = held
folded shape held n (rec ∷ parts) = record {
  session = held.session;
  bases = bases_folded shape held n;
  parts = filter (λ rec. not (is_folded held n rec)) held.parts;
}

-- ---- changes

unfoldable pub changed : Shape → Held → Change → Held
changed shape held (AddsPart rec) = held_after held (OfPart rec)
changed shape held (AddsBase base) = held_after held (OfBase base)
changed shape held (SwitchesTo e) = held_after held (ToSession e)
changed shape held (FoldsTo n) = folded shape held n (filter (λ rec. is_folded held n rec) held.parts)

-- what is held after these changes
unfoldable pub after_changes : Shape → Held → List Change → Held
after_changes shape held [] = held
after_changes shape held (change ∷ changes) = after_changes shape (changed shape held change) changes

-- what is held after none of them, after the first, and so on up to all
unfoldable pub contents_through : Shape → Held → List Change → List Held
contents_through shape held [] = held ∷ []
contents_through shape held (change ∷ changes) = held ∷ contents_through shape (changed shape held change) changes
