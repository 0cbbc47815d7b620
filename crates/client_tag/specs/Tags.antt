-- The client's tag of a record, and which records are the client's: those with the tag that only its key gives.
use Rattle.std.specs.Prelude.{◌≡◌, ℕ, Bool, List, bytes_eq}
use Rattle.salus_types.specs.declared.records.Record.{Record}
use Rattle.salus_hash.specs.Hmac.{hmac}
use Rattle.client_tag.specs.Spelling.{payload_bytes}
use Rattle.client_tag.specs.Ranges.{IsRecord}

-- the HMAC of the record's bytes without its tag
abbrev pub tag_of : List ℕ → Record → List ℕ
tag_of key rec = hmac key (payload_bytes rec)

-- whether the record's tag is that
unfoldable pub is_genuine : List ℕ → Record → Bool
is_genuine key rec = bytes_eq rec.tag (tag_of key rec)

-- The record has a spelling, and its tag is that of its spelling. A record without a spelling isn't genuine.
pub record Genuine (key : List ℕ) (rec : Record) : Type 0 where
  pub in_format : IsRecord rec
  pub its_tag : rec.tag ≡ tag_of key rec

-- the record with that tag
abbrev pub sealed : List ℕ → Record → Record
sealed key rec = record rec { tag = tag_of key rec }
