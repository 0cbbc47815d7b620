-- What a new disk holds.
use Rattle.salus_types.specs.declared.records.Base.{Base}
use Rattle.salus_types.specs.declared.records.Held.{Held}
use Rattle.holding_model.specs.Holding.{OfBase, ToSession, held_after, nothing_held}

-- that base, and session 1 opened with it
abbrev pub opened_with : Base → Held
opened_with base = held_after (held_after nothing_held (OfBase base)) (ToSession 1)
