-- The parts of a batch from the header that they share.
use Rattle.std.specs.Prelude.{ℕ, ◌+◌, List, [], ◌∷◌, replicate, slice_index, None}
use Rattle.salus_types.specs.Volume.{Shape}
use Rattle.salus_types.specs.declared.records.Header.{Header}
use Rattle.salus_types.specs.declared.records.Record.{Record}
use Rattle.volume_model.specs.Contents.{Batch}
use Rattle.volume_model.specs.Parts.{touched_by, writes_in}
use Rattle.merkle_volume.specs.Top.{top_of}
use Rattle.client_window.specs.Window.{KeptWindow}
use Rattle.client_window.specs.Untagged.{numbers_with}

-- what the headers of the next batch's parts share; the top is the one before the batch
abbrev pub shared_header : KeptWindow → Batch → Header
shared_header w batch = record {
  version = 1;
  session = w.session;
  seq = w.last + 1;
  region = 0;
  previous = 0;
  leader_before = w.leader;
  fronts = numbers_with w batch;
  touched = touched_by w.shape batch;
  root = top_of w.shape.regions_log w.roots;
  top = top_of w.shape.regions_log w.roots;
}

-- the header for a region, with its number before the batch and its root after it
abbrev pub header_for : Header → ℕ → ℕ → List ℕ → Header
header_for shared g previous root = record shared { region = g; previous = previous; root = root }

abbrev pub part_for : Shape → Batch → Header → Record
part_for shape batch header = record { header = header; writes = writes_in shape batch header.region; run = None; tag = replicate 32 0 }

-- the parts for these regions, with their roots after the batch; `numbers` are those before it
unfoldable pub parts_for : Shape → Batch → Header → List ℕ → List ℕ → List (List ℕ) → List Record
parts_for shape batch shared numbers [] news = []
parts_for shape batch shared numbers (g ∷ touched) [] = []
parts_for shape batch shared numbers (g ∷ touched) (new ∷ news) =
    part_for shape batch (header_for shared g (slice_index numbers g) new) ∷ parts_for shape batch shared numbers touched news

-- the part with that top
abbrev pub topped : List ℕ → Record → Record
topped top part = record part { header = record part.header { top = top } }
