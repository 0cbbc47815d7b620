-- A write at the head becomes the next batch.
use Rattle.std.specs.Prelude.{ℕ, ◌+◌, if◌then◌else◌, List, [], ◌∷◌, ◌++◌, map, replicate, flat_map, None}
use Rattle.salus_types.specs.Volume.{Shape}
use Rattle.salus_types.specs.declared.records.Header.{Header}
use Rattle.salus_types.specs.declared.records.Record.{Record}
use Rattle.salus_message.specs.declared.wire.Message.TheVariants as message
use Rattle.schedule_text.specs.declared.schedule.Volume.{Volume}
use Rattle.salus_model.specs.declared.trace.Request.{Request}
use Rattle.salus_model.specs.declared.trace.Request.TheVariants as request
use Rattle.volume_model.specs.Contents.{Batch, all_regions, apply, region_root, volume_top}
use Rattle.client_tag.specs.Tags.{sealed}
use Rattle.volume_model.specs.Parts.{touches, touched_by, leader_of, writes_in}
use Rattle.volume_model.specs.Groups.{group_of}
use Rattle.client_rules.specs.State.{Serving, Letter, to_all}
use Rattle.client_rules.specs.Tables.{number_at}

-- what a write asks to write
abbrev pub batch_asked : Request → Batch
batch_asked (request.Write batch) = batch
batch_asked other = []

-- the regions' numbers after the next batch
abbrev pub numbers_after : Shape → Serving → Batch → List ℕ
numbers_after shape c batch = map (λ g. if touches shape batch g then c.last + 1 else number_at c g) (all_regions shape)

-- the header of the next batch's part for a region
abbrev pub next_header : Shape → Serving → Batch → ℕ → Header
next_header shape c batch g = record {
  version = 1;
  session = c.session;
  seq = c.last + 1;
  region = g;
  previous = number_at c g;
  leader_before = c.leader;
  fronts = numbers_after shape c batch;
  touched = touched_by shape batch;
  root = region_root shape (apply c.contents batch) g;
  top = volume_top shape (apply c.contents batch);
}

-- the next batch's part for a region
unfoldable pub next_part : Volume → Serving → Batch → ℕ → Record
next_part volume c batch g =
    sealed volume.key (record { header = next_header volume.geometry c batch g; writes = writes_in volume.geometry batch g; run = None; tag = replicate 32 0 })

-- the parts of the next batch, by region
abbrev pub next_parts : Volume → Serving → Batch → List Record
next_parts volume c batch = map (λ g. next_part volume c batch g) (touched_by volume.geometry batch)

-- each part goes to every replica of its region
abbrev pub part_letters : Shape → List Record → List Letter
part_letters shape parts = flat_map (λ rec. to_all (group_of shape rec.header.region) (message.Part (record { rec = rec }))) parts

-- the client with one batch more; its tables are as before
abbrev pub with_batch : Volume → Serving → Batch → Serving
with_batch volume c batch = record c {
  last = c.last + 1;
  numbers = numbers_after volume.geometry c batch;
  contents = apply c.contents batch;
  leader = leader_of volume.geometry batch;
  unacked = c.unacked ++ record { leader = leader_of volume.geometry batch; parts = next_parts volume c batch } ∷ [];
}
