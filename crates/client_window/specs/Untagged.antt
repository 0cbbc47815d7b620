-- The next batch of a window: its parts, without their tags, and what the window keeps after it.
use Rattle.std.specs.Prelude.{ℕ, ◌+◌, if◌then◌else◌, List, [], ◌∷◌, ◌++◌, map, replicate, slice_index, slice_index_or, slice_set, None}
use Rattle.salus_types.specs.Volume.{Shape}
use Rattle.salus_types.specs.declared.records.Header.{Header}
use Rattle.salus_types.specs.declared.records.Record.{Record}
use Rattle.merkle_volume.specs.Top.{top_of}
use Rattle.volume_model.specs.Contents.{Batch, all_regions}
use Rattle.volume_model.specs.Parts.{touches, touched_by, leader_of, writes_in}
use Rattle.client_window.specs.Window.{KeptWindow}

-- the numbers of all regions after the batch
abbrev pub numbers_with : KeptWindow → Batch → List ℕ
numbers_with w batch = map (λ g. if touches w.shape batch g then w.last + 1 else slice_index w.numbers g) (all_regions w.shape)

-- the roots, of which each of these regions has its new one
unfoldable pub with_roots : List ℕ → List (List ℕ) → List (List ℕ) → List (List ℕ)
with_roots [] news roots = roots
with_roots (g ∷ touched) [] roots = roots
with_roots (g ∷ touched) (new ∷ news) roots = with_roots touched news (slice_set roots g new)

-- the roots of all regions after the batch, from those of the regions that it touches
abbrev pub roots_with : KeptWindow → Batch → List (List ℕ) → List (List ℕ)
roots_with w batch news = with_roots (touched_by w.shape batch) news w.roots

-- the header of the batch's part for a region, over the roots of all regions after it
abbrev pub header_with : KeptWindow → Batch → List (List ℕ) → ℕ → Header
header_with w batch roots g = record {
  version = 1;
  session = w.session;
  seq = w.last + 1;
  region = g;
  previous = slice_index w.numbers g;
  leader_before = w.leader;
  fronts = numbers_with w batch;
  touched = touched_by w.shape batch;
  root = slice_index_or roots g [];
  top = top_of w.shape.regions_log roots;
}

-- the batch's part for a region, without a tag
unfoldable pub untagged_part : KeptWindow → Batch → List (List ℕ) → ℕ → Record
untagged_part w batch news g =
    record { header = header_with w batch (roots_with w batch news) g; writes = writes_in w.shape batch g; run = None; tag = replicate 32 0 }

-- its parts, by region
abbrev pub untagged_parts : KeptWindow → Batch → List (List ℕ) → List Record
untagged_parts w batch news = map (λ g. untagged_part w batch news g) (touched_by w.shape batch)

-- the window after it
abbrev pub window_with : KeptWindow → Batch → List (List ℕ) → KeptWindow
window_with w batch news = record w {
  last = w.last + 1;
  numbers = numbers_with w batch;
  roots = roots_with w batch news;
  leader = leader_of w.shape batch;
  leaders = w.leaders ++ leader_of w.shape batch ∷ [];
}
