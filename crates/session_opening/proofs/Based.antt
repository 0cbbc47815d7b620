-- The bases of a session are those of the rules, where the roots are those of the contents.
use Rattle.std.proofs.Common.{◌≡◌, ◌∙◌, ℕ, zero, suc, ◌+◌, ◌*◌, ◌<◌, ◌≤◌, ◌^◌, Bool, List, [], ◌∷◌, map, take, drop, length, replicate, get_or, None, refl, sym, ap, ap₂, subst, arith}
use Rattle.std.specs.Prelude.{filter, slice_index_or}
use Rattle.std.specs.List.{AllByRecursion}
use Rattle.std.proofs.lemmas.List.{get_or_default, length-replicate}
use Rattle.std.proofs.lemmas.List.Elements.{All-nil, All-from_recursion}
use Rattle.std.proofs.lemmas.List.FromFn.{length-range_with_len, get_or-map-range_with_len}
use Rattle.std.proofs.lemmas.List.Folds.{flat_map-map}
use Rattle.salus_types.specs.Volume.{Shape, regions, region_blocks, IsBlock}
use Rattle.salus_types.specs.declared.records.Header.{Header}
use Rattle.salus_types.specs.declared.records.Record.{Record}
use Rattle.salus_types.specs.declared.names.NodeName.{NodeName}
use Rattle.salus_types.specs.declared.names.Sender.TheVariants as sender
use Rattle.salus_message.specs.declared.wire.Message.{Message}
use Rattle.salus_message.specs.declared.wire.Message.TheVariants as message
use Rattle.salus_message.specs.Spelling.{message_bytes}
use Rattle.merkle_volume.specs.Top.{top_of}
use Rattle.client_tag.specs.Ranges.{AreBlocks, IsBetween, IsHeader, IsRecord, IsWrite}
use Rattle.client_tag.specs.Spelling.{size_of}
use Rattle.client_tag.specs.Tags.{sealed}
use Rattle.schedule_text.specs.declared.schedule.Volume.{Volume}
use Rattle.posting.specs.Posting.{bytes_to, out_to}
use Rattle.posting.specs.Letters.{out_of_letter}
use Rattle.volume_model.specs.Contents.{all_regions, blocks_in, region_root, roots_of, volume_top}
use Rattle.volume_model.specs.Groups.{group_of}
use Rattle.client_rules.specs.State.{Letter, to_all}
use Rattle.client_rules.specs.Opening.{base_record, stage_letters}
use Rattle.list_lemmas.proofs.Each.{all_map, all_then}
use Rattle.session_opening.specs.declared.carried.Carried.{Carried}
use Rattle.session_opening.specs.Basing.{header_by, base_by, carried_by, letters_of, all_letters, AreBases, IsBaseOf}
use Rattle.session_opening.proofs.Nodes.{each_region, filter_mapped, flat_same_on, map_map}

-- ---- spellings

pub header_spelled : (shape : Shape) (e seq g : ℕ) (root top : List ℕ) → 1 ≤ regions shape → regions shape ≤ 16 → IsHeader (header_by shape e seq g root top)
header_spelled shape e seq g root top some few =
    let fronts : length (replicate (regions shape) seq) ≡ regions shape = length-replicate (regions shape) seq in
    let touched : length (all_regions shape) ≡ regions shape = length-range_with_len 0 (regions shape) in
    record {
      first_version = (omega arith, omega arith);
      few_fronts = (omega (arith, fronts, some), omega (arith, fronts, few));
      few_touched = (omega (arith, touched, some), omega (arith, touched, few));
    }

pub base_spelled : (shape : Shape) (key : List ℕ) (e seq g : ℕ) (roots : List (List ℕ)) → 1 ≤ regions shape → regions shape ≤ 16 → IsRecord (base_by shape key e seq roots g)
base_spelled shape key e seq g roots some few = record {
  its_header = header_spelled shape e seq g (slice_index_or roots g []) (top_of shape.regions_log roots) some few;
  few_writes = (omega arith, omega arith);
  small_writes = All-nil IsWrite;
  no_run = refl;
}

pub bases_spelled : (shape : Shape) (key : List ℕ) (e seq : ℕ) (roots : List (List ℕ)) → 1 ≤ regions shape → regions shape ≤ 16 → AreBases shape (map (base_by shape key e seq roots) (all_regions shape))
bases_spelled shape key e seq roots some few =
    All-from_recursion (IsBaseOf shape) (map (base_by shape key e seq roots) (all_regions shape))
    (all_map (IsBaseOf shape) (base_by shape key e seq roots) (all_regions shape)
    (all_then (λ g. g < regions shape) (λ g. IsBaseOf shape (base_by shape key e seq roots g)) (λ g inside. record { spelled = base_spelled shape key e seq g roots some few; within = inside }) (all_regions shape) (each_region shape)))

-- the record of one region, from its header
pub record_is : (shape : Shape) (key : List ℕ) (e seq g : ℕ) (roots : List (List ℕ)) (root top : List ℕ) (header : Header) (rec : Record) → length roots ≡ regions shape → g < regions shape
    → root ≡ get_or roots g root → ((k : ℕ) → length roots ≡ 2 ^ k → top ≡ top_of k roots) → header ≡ header_by shape e seq g root top
    → rec ≡ sealed key (record { header = header; writes = []; run = None; tag = replicate 32 0 }) → rec ≡ base_by shape key e seq roots g
record_is shape key e seq g roots root top header rec long inside at tops header_is is =
    let here : root ≡ get_or roots g [] = at ∙ get_or_default roots g root [] (subst (λ n. g < n) (sym long) inside) in
    is ∙ ap (λ h. sealed key (record { header = h; writes = []; run = None; tag = replicate 32 0 })) (header_is ∙ ap₂ (λ r t. header_by shape e seq g r t) here (tops shape.regions_log long))

one_size : (n : ℕ) (contents : List (List ℕ)) → AllByRecursion (λ x. length x ≡ n) contents → AllByRecursion (λ x. length x ≡ size_of contents) contents
one_size n [] all = tt
one_size n (x ∷ contents) all = all_then (λ y. length y ≡ n) (λ y. length y ≡ length x) (λ y same. same ∙ sym all.0) (x ∷ contents) all

each_take : {A : Type 0} (P : A → Type 0) (n : ℕ) (xs : List A) → AllByRecursion P xs → AllByRecursion P (take n xs)
each_take P zero xs all = tt
each_take P (suc n) [] all = tt
each_take P (suc n) (x ∷ xs) all = (all.0, each_take P n xs all.1)

each_drop : {A : Type 0} (P : A → Type 0) (n : ℕ) (xs : List A) → AllByRecursion P xs → AllByRecursion P (drop n xs)
each_drop P zero xs all = all
each_drop P (suc n) [] all = tt
each_drop P (suc n) (x ∷ xs) all = each_drop P n xs all.1

-- few blocks of the volume's length have a spelling
pub sized_spelled : (shape : Shape) (contents : List (List ℕ)) → length contents ≤ 4096 → AllByRecursion (λ x. length x ≡ shape.block) contents → IsBlock shape.block → AreBlocks contents
sized_spelled shape contents few sized small = record {
  few_blocks = few;
  one_size = All-from_recursion (λ x. length x ≡ size_of contents) contents (one_size shape.block contents sized);
  small_blocks = All-from_recursion (λ x. IsBetween 1 4096 (length x)) contents (all_then (λ x. length x ≡ shape.block) (λ x. IsBetween 1 4096 (length x)) (λ x same. subst (IsBetween 1 4096) (sym same) small) contents sized);
}

pub region_sized : (shape : Shape) (contents : List (List ℕ)) (g : ℕ) → AllByRecursion (λ x. length x ≡ shape.block) contents → AllByRecursion (λ x. length x ≡ shape.block) (blocks_in shape contents g)
region_sized shape contents g sized =
    each_take (λ x. length x ≡ shape.block) (region_blocks shape) (drop (g * region_blocks shape) contents) (each_drop (λ x. length x ≡ shape.block) (g * region_blocks shape) contents sized)

-- ---- letters

-- the bytes of a message to some nodes, as letters
pub letters_are : (bytes : List ℕ) (m : Message) (names : List NodeName) → bytes ≡ message_bytes m → map (λ name. bytes_to bytes (sender.Node name)) names ≡ map out_of_letter (to_all names m)
letters_are bytes m names are =
    ap (λ b. map (λ name. bytes_to b (sender.Node name)) names) are
    ∙ sym (map_map out_of_letter (λ name. record { to = name; message = m }) names)

-- a message to some nodes, as letters
pub posted_are : (m : Message) (names : List NodeName) → map (λ name. out_to (sender.Node name) m) names ≡ map out_of_letter (to_all names m)
posted_are m names = sym (map_map out_of_letter (λ name. record { to = name; message = m }) names)

pub letters_to : (test : NodeName → Bool) (names : List NodeName) (m : Message) → filter (λ (l : Letter). test l.to) (to_all names m) ≡ to_all (filter test names) m
letters_to test names m = filter_mapped (λ (l : Letter). test l.to) (λ name. record { to = name; message = m }) names

-- ---- the bases of the rules

module _ (volume : Volume) (e seq : ℕ) (contents : List (List ℕ)) where
  pub same_base : (g : ℕ) → g < regions volume.geometry → base_by volume.geometry volume.key e seq (roots_of volume.geometry contents) g ≡ base_record volume e seq contents g
  unfolding base_record
  same_base g inside =
      ap (λ root. sealed volume.key (record { header = header_by volume.geometry e seq g root (volume_top volume.geometry contents); writes = []; run = None; tag = replicate 32 0 }))
      (get_or-map-range_with_len (λ r. region_root volume.geometry contents r) 0 (regions volume.geometry) g g [] inside (let here : 0 + g ≡ g = omega arith in here))

  pub same_letters : (load : Carried)
      → all_letters volume.geometry load (map (base_by volume.geometry volume.key e seq (roots_of volume.geometry contents)) (all_regions volume.geometry))
      ≡ stage_letters volume e seq contents (carried_by volume.geometry load)
  same_letters load =
      flat_map-map (λ rec. letters_of volume.geometry load rec) (base_by volume.geometry volume.key e seq (roots_of volume.geometry contents)) (all_regions volume.geometry)
      ∙ flat_same_on (λ g. g < regions volume.geometry) (λ g. letters_of volume.geometry load (base_by volume.geometry volume.key e seq (roots_of volume.geometry contents) g))
      (λ g. to_all (group_of volume.geometry g) (message.Stage (record { base = record { rec = base_record volume e seq contents g; blocks = carried_by volume.geometry load g } })))
      (all_regions volume.geometry) (each_region volume.geometry)
      (λ g inside. ap (λ rec. to_all (group_of volume.geometry g) (message.Stage (record { base = record { rec = rec; blocks = carried_by volume.geometry load g } }))) (same_base g inside))
