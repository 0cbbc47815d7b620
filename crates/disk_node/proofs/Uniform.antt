-- The digests and the base of a volume that was never written: all blocks are equal, and so are all roots.
use Rattle.std.proofs.Common.{◌≡◌, ◌∙◌, ℕ, zero, suc, ◌+◌, ◌-◌, ◌*◌, ◌^◌, ◌<◌, ◌≤◌, List, [], ◌∷◌, ◌++◌, None, length, map, take, drop, replicate, refl, ap, sym, arith}
use Rattle.std.specs.List.{range_with_len}
use Rattle.std.proofs.Math.Nat.{suc-mul, mul-le-mul_right}
use Rattle.std.proofs.lemmas.List.FromFn.{map-range_with_len_more}
use Rattle.std.proofs.lemmas.List.{take-replicate, drop-replicate, length-replicate}
use Rattle.std.proofs.lemmas.List.Elements.{All-replicate}
use Rattle.std.proofs.lemmas.Nat.{pow_pos}
use Rattle.salus_hash.specs.Hash.{leaf, inner}
use Rattle.salus_types.specs.Volume.{Shape, regions, region_blocks, blocks}
use Rattle.salus_types.specs.declared.names.NodeName.{NodeName}
use Rattle.salus_types.specs.declared.records.Header.{Header}
use Rattle.salus_types.specs.declared.records.Record.{Record}
use Rattle.salus_types.specs.declared.records.Base.{Base}
use Rattle.merkle_region.specs.Tree.{root_of}
use Rattle.merkle_region.proofs.Halves.{root_of-halves, power_halved}
use Rattle.merkle_volume.specs.Top.{top_of}
use Rattle.client_tag.specs.Spelling.{size_of}
use Rattle.client_tag.specs.Ranges.{IsBetween, AreBlocks}
use Rattle.client_tag.specs.Tags.{sealed}
use Rattle.schedule_text.specs.declared.schedule.Volume.{Volume}
use Rattle.disk_lane.specs.Lanes.{place, count, lane_bytes}
use Rattle.disk_lane.specs.Heads.{live_bytes}
use Rattle.datanode_store.specs.Live.{MeansLive}
use Rattle.datanode_checkpoint.specs.Files.{formatted as empty_file}
use Rattle.holding_model.specs.Holding.{held_from, nothing_held}
use Rattle.volume_model.specs.Contents.{all_regions, zero_contents, fold_batches, blocks_in, region_root, roots_of}
use Rattle.volume_model.specs.Parts.{contents_after, base_header, base_of, whole_base}
use Rattle.run_rules.specs.Running.{new_session, formatted}
use Rattle.disk_node.specs.Opened.{opened_with}

-- ---- a region

pub equal_leaf : (h : ℕ) (block : List ℕ) → h ≡ 0 → root_of h (replicate (2 ^ h) block) ≡ leaf block
unfolding root_of
equal_leaf zero block low = refl
equal_leaf (suc h) block low = absurd (omega arith)

pub equal_halves : (h : ℕ) (block : List ℕ) → 0 < h → root_of h (replicate (2 ^ h) block) ≡ inner (root_of (h - 1) (replicate (2 ^ (h - 1)) block)) (root_of (h - 1) (replicate (2 ^ (h - 1)) block))
equal_halves h block above =
    let twice : 2 ^ h ≡ 2 ^ (h - 1) * 2 = power_halved h above in
    let left : 2 ^ h - 2 ^ (h - 1) ≡ 2 ^ (h - 1) = omega arith in
    let front : take (2 ^ (h - 1)) (replicate (2 ^ h) block) ≡ replicate (2 ^ (h - 1)) block = take-replicate (2 ^ (h - 1)) (2 ^ h) block (omega arith) in
    let back : drop (2 ^ (h - 1)) (replicate (2 ^ h) block) ≡ replicate (2 ^ (h - 1)) block = drop-replicate (2 ^ (h - 1)) (2 ^ h) block ∙ ap (λ (n : ℕ). replicate n block) left in
    root_of-halves h (replicate (2 ^ h) block) above ∙ (λ i. inner (root_of (h - 1) (front i)) (root_of (h - 1) (back i)))

module _ (shape : Shape) where
  abbrev pub zero_block : List ℕ
  zero_block = replicate shape.block 0

  abbrev pub zero_region : List (List ℕ)
  zero_region = replicate (region_blocks shape) zero_block

  abbrev pub zero_root : List ℕ
  zero_root = root_of shape.height zero_region

  zero_in : (g : ℕ) → g < regions shape → blocks_in shape (zero_contents shape) g ≡ zero_region
  zero_in g inside =
      let fits : suc g * region_blocks shape ≤ regions shape * region_blocks shape = mul-le-mul_right (region_blocks shape) inside in
      let same : suc g * region_blocks shape ≡ g * region_blocks shape + region_blocks shape = suc-mul g (region_blocks shape) in
      ap (λ (l : List (List ℕ)). take (region_blocks shape) l) (drop-replicate (g * region_blocks shape) (blocks shape) zero_block)
      ∙ take-replicate (region_blocks shape) (blocks shape - g * region_blocks shape) zero_block (omega arith)

  map_below : (f : ℕ → List ℕ) (x : List ℕ) (top a n : ℕ) → a + n ≤ top → ((i : ℕ) → i < top → f i ≡ x) → map f (range_with_len a n) ≡ replicate n x
  map_below f x top a zero le same = refl
  map_below f x top a (suc n) le same = λ i. same a (omega arith) i ∷ map_below f x top (a + 1) n (omega arith) same i

  zero_roots : roots_of shape (zero_contents shape) ≡ replicate (regions shape) zero_root
  zero_roots = map_below (λ g. region_root shape (zero_contents shape) g) zero_root (regions shape) 0 (regions shape) (omega arith) (λ g inside. ap (λ (l : List (List ℕ)). root_of shape.height l) (zero_in g inside))

  -- ---- the base

  contents_first : contents_after (new_session shape) 0 ≡ zero_contents shape
  unfolding fold_batches
  contents_first = refl

  pub first_root : (g : ℕ) → g < regions shape → region_root shape (contents_after (new_session shape) 0) g ≡ zero_root
  first_root g inside = ap (λ (c : List (List ℕ)). region_root shape c g) contents_first ∙ ap (λ (l : List (List ℕ)). root_of shape.height l) (zero_in g inside)

  pub first_top : top_of shape.regions_log (roots_of shape (contents_after (new_session shape) 0)) ≡ top_of shape.regions_log (replicate (regions shape) zero_root)
  first_top = ap (λ (c : List (List ℕ)). top_of shape.regions_log (roots_of shape c)) contents_first ∙ ap (λ (l : List (List ℕ)). top_of shape.regions_log l) zero_roots

  pub first_blocks : (g : ℕ) → g < regions shape → blocks_in shape (contents_after (new_session shape) 0) g ≡ zero_region
  first_blocks g inside = ap (λ (c : List (List ℕ)). blocks_in shape c g) contents_first ∙ zero_in g inside

  size_of-equal : (n : ℕ) (block : List ℕ) → 0 < n → size_of (replicate n block) ≡ length block
  size_of-equal zero block some = absurd (omega arith)
  size_of-equal (suc n) block some = refl

  pub blocks_range : region_blocks shape ≤ 1024 → 1 ≤ shape.block → shape.block ≤ 4096 → AreBlocks zero_region
  blocks_range few some small =
      let n : ℕ = region_blocks shape in
      let long : length zero_block ≡ shape.block = length-replicate shape.block 0 in
      let size : size_of zero_region ≡ length zero_block = size_of-equal n zero_block (pow_pos shape.height) in
      let count : length zero_region ≡ n = length-replicate n zero_block in
      record {
        few_blocks = omega arith;
        one_size = All-replicate (λ (block : List ℕ). length block ≡ size_of zero_region) n zero_block (sym size);
        small_blocks = All-replicate (λ (block : List ℕ). IsBetween 1 4096 (length block)) n zero_block (omega arith, omega arith);
      }

  -- the header, field by field
  pub header_first : (g : ℕ) (root top fronts touched : List ℕ) → g < regions shape → root ≡ zero_root → top ≡ top_of shape.regions_log (replicate (regions shape) root)
      → fronts ≡ replicate (regions shape) 0 → touched ≡ all_regions shape
      → ◌≡◌ {A = Header} (record { version = 1; session = 1; seq = 0; region = g; previous = 0; leader_before = 0; fronts = fronts; touched = touched; root = root; top = top }) (base_header shape (new_session shape) g)
  header_first g root top fronts touched inside root_is top_is fronts_are touched_are =
      let same_root : root ≡ region_root shape (contents_after (new_session shape) 0) g = root_is ∙ sym (first_root g inside) in
      let same_top : top ≡ top_of shape.regions_log (roots_of shape (contents_after (new_session shape) 0)) =
      top_is ∙ ap (λ (r : List ℕ). top_of shape.regions_log (replicate (regions shape) r)) root_is ∙ sym first_top in
      λ i. record { version = 1; session = 1; seq = 0; region = g; previous = 0; leader_before = 0; fronts = fronts_are i; touched = touched_are i; root = same_root i; top = same_top i }

  pub base_first : (key : List ℕ) (g : ℕ) (header : Header) (rec : Record) → g < regions shape → header ≡ base_header shape (new_session shape) g
      → rec ≡ sealed key (record { header = header; writes = []; run = None; tag = replicate 32 0 })
      → ◌≡◌ {A = Base} (record { rec = rec; blocks = zero_region }) (whole_base shape key (new_session shape) g)
  unfolding base_of
  base_first key g header rec inside header_is rec_is =
      let same : rec ≡ base_of shape key (new_session shape) g = rec_is ∙ ap (λ (h : Header). sealed key (record { header = h; writes = []; run = None; tag = replicate 32 0 })) header_is in
      λ i. record { rec = same i; blocks = sym (first_blocks g inside) i }

-- ---- numbers of regions

map_id : (xs : List ℕ) → map (λ x. x) xs ≡ xs
map_id [] = refl
map_id (x ∷ xs) = ap (λ (l : List ℕ). x ∷ l) (map_id xs)

pub range_more : (n : ℕ) → range_with_len 0 (n + 1) ≡ range_with_len 0 n ++ n ∷ []
range_more n =
    sym (map_id (range_with_len 0 (n + 1))) ∙ map-range_with_len_more (λ x. x) 0 n n (omega arith) ∙ ap (λ (l : List ℕ). l ++ n ∷ []) (map_id (range_with_len 0 n))

-- ---- what a new disk holds

pub opened_first : (volume : Volume) (name : NodeName) → opened_with (whole_base volume.geometry volume.key (new_session volume.geometry) name.region) ≡ formatted volume name
unfolding base_of
opened_first volume name = refl

pub empty_means : MeansLive nothing_held empty_file
unfolding lane_bytes count place held_from
empty_means =
    let file : length empty_file ≡ 25 = refl in
    let lane : length (live_bytes empty_file) ≡ 9 = refl in
    record {
      long = omega arith;
      marked = refl;
      live = record { log = record { long = omega arith; marked = refl; whole = refl; entries_are = refl }; holds = refl };
    }
