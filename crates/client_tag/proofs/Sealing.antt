-- What sealing makes of a record.
use Rattle.std.proofs.Common.{ℕ, List, refl}
use Rattle.salus_types.specs.declared.records.Record.{Record}
use Rattle.client_tag.specs.Spelling.{payload_bytes}
use Rattle.client_tag.specs.Ranges.{IsRecord}
use Rattle.client_tag.specs.Tags.{Genuine, sealed}

-- a sealed record is in the format as before, and genuine
pub genuine_sealed : (key : List ℕ) (rec : Record) → IsRecord rec → Genuine key (sealed key rec)
unfolding payload_bytes
genuine_sealed key rec r = record {
  in_format = record { its_header = r.its_header; few_writes = r.few_writes; small_writes = r.small_writes; no_run = r.no_run };
  its_tag = refl;
}
