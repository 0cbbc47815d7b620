-- What is held, as an image of the abstract model: the number of the open session's base, the parts in the order held, and
-- the sessions above of which a base is held, the newest first.
use Rattle.std.specs.Prelude.{ℕ, ◌-◌, nat_lt, List, map, filter, find, reverse}
use Rattle.std.specs.Option.{option_map_or}
use Rattle.salus_types.specs.declared.records.Record.{Record}
use Rattle.salus_types.specs.declared.records.Base.{Base}
use Rattle.salus_types.specs.declared.records.Held.{Held}
use Rattle.holding_model.specs.Changing.{is_open_base}
use Rattle.law_prefix.specs.Images.{Part, Image}

-- the part of batch number `before + 1`
abbrev pub part_as : Record → Part
part_as rec = record { before = rec.header.seq - 1; previous = rec.header.previous }

abbrev pub parts_as : List Record → List Part
parts_as parts = map (λ rec. part_as rec) parts

-- the number of the first base of the open session that is held, 0 where there is none
abbrev pub open_place : Held → ℕ
open_place held = option_map_or (λ (base : Base). base.rec.header.seq) (find (λ base. is_open_base held base) held.bases) 0

-- the bases of sessions above the open one
abbrev pub later_bases : Held → List Base
later_bases held = filter (λ base. nat_lt held.session base.rec.header.session) held.bases

abbrev pub later_sessions : Held → List ℕ
later_sessions held = reverse (map (λ (base : Base). base.rec.header.session) (later_bases held))

abbrev pub image_of : Held → Image
image_of held = record { session = held.session; base = open_place held; parts = parts_as held.parts; later = later_sessions held }
