-- What a formatted node of the volume holds fits.
use Rattle.std.proofs.Common.{◌≡◌, ℕ, zero, suc, ◌*◌, ◌^◌, ◌<◌, ◌≤◌, ◌==◌, true, List, length, drop, replicate, refl, arith}
use Rattle.std.specs.List.{list_all}
use Rattle.std.proofs.lemmas.Bool.{eq-eqb}
use Rattle.std.proofs.lemmas.List.{length-replicate}
use Rattle.std.proofs.lemmas.List.FromFn.{length-range_with_len}
use Rattle.std.proofs.lemmas.List.Elements.{All-nil}
use Rattle.std.proofs.lemmas.Nat.{pow_pos}
use Rattle.std.proofs.Math.Pow.{pow_mono}
use Rattle.sha2.proofs.Facts256.{length-sha256}
use Rattle.salus_hash.specs.Hmac.{hmac}
use Rattle.salus_types.specs.Volume.{Shape, regions, region_blocks, blocks, IsVolume}
use Rattle.salus_types.specs.declared.names.NodeName.{NodeName}
use Rattle.salus_types.specs.declared.records.Record.{Record}
use Rattle.merkle_region.proofs.Carried.{length-root_of}
use Rattle.merkle_volume.specs.Top.{top_of}
use Rattle.schedule_text.specs.declared.schedule.Volume.{Volume}
use Rattle.client_tag.specs.Ranges.{IsWrite, IsHeader, HasWidths}
use Rattle.client_tag.specs.Tags.{tag_of}
use Rattle.holding_model.specs.Fitting.{has_shape}
use Rattle.volume_model.specs.Contents.{zero_contents, fold_batches, blocks_in, volume_top}
use Rattle.volume_model.specs.Parts.{Session, contents_after, base_header, base_of}
use Rattle.run_rules.specs.Running.{new_session, formatted}
use Rattle.list_lemmas.proofs.Each.{each_replicate, each_below}
use Rattle.list_lemmas.proofs.Lists.{all_take, all_drop, all_replicate}
use Rattle.law_lemmas.proofs.Regional.{length-blocks_in}
use Rattle.law_handed.specs.Fitting.{IsSpelled, HeldFits, IsShaped}

-- ---- digests

pub long_tag : (key : List ℕ) (rec : Record) → length (tag_of key rec) ≡ 32
unfolding hmac
long_tag key rec = length-sha256 _

pub long_top : (shape : Shape) (contents : List (List ℕ)) (k : ℕ) → shape.regions_log ≡ k → length (volume_top shape contents) ≡ 32
unfolding top_of
long_top shape contents zero same =
    rw same (length-root_of shape.height (blocks_in shape contents 0))
long_top shape contents (suc k) same = rw same (length-sha256 _)

-- ---- the base

module _ (volume : Volume) (limits : IsVolume volume.geometry) (g : ℕ) (inside : g < regions volume.geometry) where
  abbrev first : Session
  first = new_session volume.geometry

  few_regions : regions volume.geometry ≤ 16
  few_regions = pow_mono limits.few_regions

  some_regions : 1 ≤ regions volume.geometry
  some_regions = pow_pos volume.geometry.regions_log

  header_counts : IsHeader (base_header volume.geometry first g)
  header_counts =
      let few : regions volume.geometry ≤ 16 = few_regions in
      let some : 1 ≤ regions volume.geometry = some_regions in
      let fronts : length (base_header volume.geometry first g).fronts ≡ regions volume.geometry = length-replicate (regions volume.geometry) first.base in
      let touched : length (base_header volume.geometry first g).touched ≡ regions volume.geometry = length-range_with_len 0 (regions volume.geometry) in
      record { first_version = (omega arith, omega arith); few_fronts = (omega arith, omega arith); few_touched = (omega arith, omega arith) }

  header_widths : HasWidths (base_header volume.geometry first g)
  header_widths =
      let few : regions volume.geometry ≤ 16 = few_regions in record {
        version_width = omega arith;
        session_width = omega arith;
        seq_width = omega arith;
        region_width = omega arith;
        previous_width = omega arith;
        leader_width = omega arith;
        fronts_width = each_replicate (λ n. n < 2 ^ 64) (regions volume.geometry) 0 (omega arith);
        touched_width = each_below (2 ^ 16) 0 (regions volume.geometry) (omega arith);
        root_width = length-root_of volume.geometry.height (blocks_in volume.geometry (contents_after first first.base) g);
        top_width = long_top volume.geometry (contents_after first first.base) volume.geometry.regions_log refl;
      }

  base_spelled : IsSpelled (base_of volume.geometry volume.key first g)
  unfolding base_of
  base_spelled = record {
    counts = record { its_header = header_counts; few_writes = (omega arith, omega arith); small_writes = All-nil IsWrite; no_run = refl };
    widths = record { header_typed = header_widths; places_width = tt; tag_width = long_tag volume.key _ };
  }

  blocks_shaped : has_shape volume.geometry (blocks_in volume.geometry (contents_after first first.base) g) ≡ true
  unfolding has_shape fold_batches
  blocks_shaped =
      let shape : Shape = volume.geometry in
      let long : length (blocks_in shape (zero_contents shape) g) ≡ region_blocks shape = length-blocks_in shape (zero_contents shape) g (length-replicate (blocks shape) (replicate shape.block 0)) inside in
      let one : (length (replicate shape.block 0) == shape.block) ≡ true = eq-eqb (length (replicate shape.block 0)) shape.block (length-replicate shape.block 0) in
      let all : list_all (λ x. length x == shape.block) (blocks_in shape (zero_contents shape) g) ≡ true =
      all_take (λ x. length x == shape.block) (region_blocks shape) (drop (g * region_blocks shape) (zero_contents shape))
      (all_drop (λ x. length x == shape.block) (g * region_blocks shape) (zero_contents shape) (all_replicate (λ x. length x == shape.block) (blocks shape) (replicate shape.block 0) one)) in
      rw (eq-eqb (length (blocks_in shape (zero_contents shape) g)) (region_blocks shape) long) all

pub formatted_fits : (volume : Volume) (name : NodeName) → IsVolume volume.geometry → name.region < regions volume.geometry → HeldFits volume.geometry IsSpelled IsSpelled (IsShaped volume.geometry) (formatted volume name)
formatted_fits volume name limits inside = record {
  bases = (record { given = base_spelled volume limits name.region inside; whole = blocks_shaped volume limits name.region inside }, tt);
  parts = tt;
}
