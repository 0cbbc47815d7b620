-- The parts and base records that the client's rules give have a spelling.
use Rattle.std.proofs.Common.{◌≡◌, ◌∙◌, ℕ, zero, suc, ◌+◌, ◌*◌, ◌^◌, ◌<◌, ◌≤◌, Bool, true, false, ◌==◌, if◌then◌else◌, List, [], ◌∷◌, map, length, Option, None, Some, inl, inr, refl, sym, ap, subst, arith, eqb-true}
use Rattle.std.specs.Prelude.{filter, filter_map}
use Rattle.std.specs.List.{AllByRecursion, range_with_len, cons_option}
use Rattle.std.specs.Option.{option_or}
use Rattle.std.proofs.lemmas.List.{length-replicate, length-map}
use Rattle.std.proofs.lemmas.List.FromFn.{length-range_with_len}
use Rattle.std.proofs.lemmas.List.Elements.{All-nil, All-from_recursion}
use Rattle.salus_types.specs.Volume.{Shape, regions, region_blocks, IsVolume}
use Rattle.salus_types.specs.declared.records.PlaceWrite.{PlaceWrite}
use Rattle.salus_types.specs.declared.records.Record.{Record}
use Rattle.salus_types.specs.declared.records.Write.{Write}
use Rattle.merkle_region.specs.Tree.{IsAmong}
use Rattle.merkle_region.proofs.Carried.{length-root_of}
use Rattle.client_tag.specs.Ranges.{IsWrite, IsBetween, IsHeader, HasWidths}
use Rattle.schedule_text.specs.declared.schedule.Volume.{Volume}
use Rattle.volume_model.specs.Contents.{Batch, apply, blocks_in, all_regions}
use Rattle.volume_model.specs.Parts.{touches, touched_by, bytes_left, placed, writes_in}
use Rattle.client_rules.specs.State.{Serving}
use Rattle.client_rules.specs.Tables.{number_at}
use Rattle.client_rules.specs.Submitting.{numbers_after, next_header, next_part}
use Rattle.client_rules.specs.Opening.{base_header, base_record}
use Rattle.list_lemmas.proofs.Each.{OfSome, all_map, all_filter, all_then, either_way, each_below, each_replicate}
use Rattle.list_lemmas.proofs.Tests.{by_test, or_none}
use Rattle.law_handed.specs.Fitting.{IsSpelled}
use Rattle.law_shown.proofs.Formatting.{long_tag, long_top}
use Rattle.law_ranged.proofs.Sized.{at_index, each_mapped, few_pass, Sized, BatchSized, few_regions, some_regions, few_places, each_region}

-- ---- the writes of a part

module _ (shape : Shape) (base : ℕ) where
  abbrev Left : Batch → ℕ → ℕ → List PlaceWrite
  Left batch a n = filter_map (λ i. placed i (bytes_left batch (base + i))) (range_with_len a n)

  -- a write more gives at most a place more
  longer : (i : ℕ) (o : Option (List ℕ)) (l : List PlaceWrite) → length l ≤ length (cons_option (placed i o) l)
  longer i None l = omega arith
  longer i (Some x) l = omega arith

  one_more : (i : ℕ) (o : Option (List ℕ)) (l : List PlaceWrite) → length (cons_option (placed i o) l) ≤ suc (length l)
  one_more i None l = omega arith
  one_more i (Some x) l = omega arith

  same_head : (i : ℕ) (o : Option (List ℕ)) (xs ys : List PlaceWrite) (k : ℕ) → length xs ≤ length ys + k → length (cons_option (placed i o) xs) ≤ length (cons_option (placed i o) ys) + k
  same_head i None xs ys k low = low
  same_head i (Some x) xs ys k low = omega (arith, low)

  behind : (w : Write) (batch : Batch) (a n : ℕ) → w.block < base + a → length (Left (w ∷ batch) a n) ≤ length (Left batch a n) + 0
  unfolding bytes_left
  behind w batch a zero past = omega arith
  behind w batch a (suc n) past =
      by_test (λ t. (w.block == base + a) ≡ t → length (cons_option (placed a (option_or (bytes_left batch (base + a)) (if t then Some w.bytes else None))) (Left (w ∷ batch) (a + 1) n)) ≤ length (Left batch a (suc n)) + 0)
      (w.block == base + a)
      (λ hit _. let same : w.block ≡ base + a = eqb-true w.block (base + a) hit in absurd (omega (arith, same, past)))
      (λ _ miss.
      subst (λ (o : Option (List ℕ)). length (cons_option (placed a o) (Left (w ∷ batch) (a + 1) n)) ≤ length (Left batch a (suc n)) + 0) (sym (or_none (bytes_left batch (base + a))))
      (same_head a (bytes_left batch (base + a)) (Left (w ∷ batch) (a + 1) n) (Left batch (a + 1) n) 0 (behind w batch (a + 1) n (omega (arith, past))))) refl

  with_write : (w : Write) (batch : Batch) (a n : ℕ) → length (Left (w ∷ batch) a n) ≤ length (Left batch a n) + 1
  unfolding bytes_left
  with_write w batch a zero = omega arith
  with_write w batch a (suc n) =
      by_test (λ t. (w.block == base + a) ≡ t → length (cons_option (placed a (option_or (bytes_left batch (base + a)) (if t then Some w.bytes else None))) (Left (w ∷ batch) (a + 1) n)) ≤ length (Left batch a (suc n)) + 1)
      (w.block == base + a)
      (λ hit _.
      let same : w.block ≡ base + a = eqb-true w.block (base + a) hit in
      let first = one_more a (option_or (bytes_left batch (base + a)) (Some w.bytes)) (Left (w ∷ batch) (a + 1) n) in
      let rest = behind w batch (a + 1) n (omega (arith, same)) in
      let other = longer a (bytes_left batch (base + a)) (Left batch (a + 1) n) in
      omega (arith, first, rest, other))
      (λ _ miss.
      subst (λ (o : Option (List ℕ)). length (cons_option (placed a o) (Left (w ∷ batch) (a + 1) n)) ≤ length (Left batch a (suc n)) + 1) (sym (or_none (bytes_left batch (base + a))))
      (same_head a (bytes_left batch (base + a)) (Left (w ∷ batch) (a + 1) n) (Left batch (a + 1) n) 1 (with_write w batch (a + 1) n))) refl

  none_left : (a n : ℕ) → length (Left [] a n) ≤ 0
  unfolding bytes_left
  none_left a zero = omega arith
  none_left a (suc n) = none_left (a + 1) n

  few_left : (batch : Batch) (a n : ℕ) → length (Left batch a n) ≤ length batch
  few_left [] a n = none_left a n
  few_left (w ∷ batch) a n =
      let one = with_write w batch a n in
      let rest = few_left batch a n in
      omega (arith, one, rest)

module _ (shape : Shape) where
  left_sized : (batch : Batch) (b : ℕ) → BatchSized shape batch → OfSome (λ x. length x ≡ shape.block) (bytes_left batch b)
  unfolding bytes_left
  left_sized [] b all = tt
  left_sized (w ∷ batch) b all = either (bytes_left batch b) (w.block == b) (left_sized batch b all.1) where
    either : (o : Option (List ℕ)) (t : Bool) → OfSome (λ x. length x ≡ shape.block) o → OfSome (λ x. length x ≡ shape.block) (option_or o (if t then Some w.bytes else None))
    either (Some x) t one = one
    either None true none = all.0
    either None false none = tt

  abbrev Placed : PlaceWrite → Type 0
  Placed w = (length w.bytes ≡ shape.block) × (w.place < region_blocks shape)

  writes_placed : (batch : Batch) (g : ℕ) → BatchSized shape batch → AllByRecursion Placed (writes_in shape batch g)
  writes_placed batch g all =
      each_mapped Placed (λ i. i < region_blocks shape) (λ i. placed i (bytes_left batch (g * region_blocks shape + i))) (range_with_len 0 (region_blocks shape))
      (each_below (region_blocks shape) 0 (region_blocks shape) (omega arith)) (λ i low. one i low (bytes_left batch (g * region_blocks shape + i)) (left_sized batch (g * region_blocks shape + i) all)) where
        one : (i : ℕ) → i < region_blocks shape → (o : Option (List ℕ)) → OfSome (λ x. length x ≡ shape.block) o → OfSome Placed (placed i o)
        one i low None none = tt
        one i low (Some x) long = (long, low)

-- ---- records

module _ (volume : Volume) (limits : IsVolume volume.geometry) where
  abbrev shape : Shape
  shape = volume.geometry

  among_some : {A : Type 0} (x : A) (xs : List A) → IsAmong x xs → 1 ≤ length xs
  among_some x [] among = absurd among
  among_some x (y ∷ xs) among = omega arith

  module _ (c : Serving) (batch : Batch) (session : c.session < 2 ^ 64) (last : c.last + 1 < 2 ^ 64) (leader : c.leader < 2 ^ 16) (numbers : AllByRecursion (λ n. n < 2 ^ 64) c.numbers)
      (few : length batch ≤ 64) (sized : BatchSized shape batch) where
    pub number_low : (g : ℕ) → number_at c g < 2 ^ 64
    number_low g = at_index (λ n. n < 2 ^ 64) c.numbers g (omega arith) numbers

    pub after_low : AllByRecursion (λ n. n < 2 ^ 64) (numbers_after shape c batch)
    after_low =
        all_map (λ n. n < 2 ^ 64) (λ g. if touches shape batch g then c.last + 1 else number_at c g) (all_regions shape)
        (all_then (λ g. g < regions shape) (λ g. (if touches shape batch g then c.last + 1 else number_at c g) < 2 ^ 64)
        (λ g inside. either_way (touches shape batch g) (c.last + 1) (number_at c g) (λ n. n < 2 ^ 64) last (number_low g)) (all_regions shape) (each_region shape limits))

    pub part_spelled : (g : ℕ) → g < regions shape → IsAmong g (touched_by shape batch) → IsSpelled (next_part volume c batch g)
    unfolding next_part
    part_spelled g inside among =
        let many : regions shape ≤ 16 = few_regions shape limits in
        let some : 1 ≤ regions shape = some_regions shape limits in
        let fronts : length (numbers_after shape c batch) ≡ regions shape =
        length-map (all_regions shape) (λ r. if touches shape batch r then c.last + 1 else number_at c r) ∙ length-range_with_len 0 (regions shape) in
        let all : length (all_regions shape) ≡ regions shape = length-range_with_len 0 (regions shape) in
        let touched = few_pass (λ r. touches shape batch r) (all_regions shape) in
        let one = among_some g (touched_by shape batch) among in
        let placed_all : AllByRecursion (Placed shape) (writes_in shape batch g) = writes_placed shape batch g sized in
        let wide : region_blocks shape ≤ 1024 = few_places shape limits in
        let left = few_left shape (g * region_blocks shape) batch 0 (region_blocks shape) in
        record {
          counts = record {
            its_header = record { first_version = (omega arith, omega arith); few_fronts = (omega (arith, fronts, some), omega (arith, fronts, many)); few_touched = (one, omega (arith, touched, all, many)) };
            few_writes = (omega arith, omega (arith, left, few));
            small_writes = All-from_recursion IsWrite (writes_in shape batch g) (all_then (Placed shape) IsWrite (λ w p. subst (IsBetween 1 4096) (sym p.0) limits.small_blocks) (writes_in shape batch g) placed_all);
            no_run = refl;
          };
          widths = record {
            header_typed = record {
              version_width = omega arith;
              session_width = session;
              seq_width = last;
              region_width = omega (arith, inside, many);
              previous_width = number_low g;
              leader_width = leader;
              fronts_width = after_low;
              touched_width = all_filter (λ n. n < 2 ^ 16) (λ r. touches shape batch r) (all_regions shape) (all_then (λ r. r < regions shape) (λ r. r < 2 ^ 16) (λ r low. omega (arith, low, many)) (all_regions shape) (each_region shape limits));
              root_width = length-root_of shape.height (blocks_in shape (apply c.contents batch) g);
              top_width = long_top shape (apply c.contents batch) shape.regions_log refl;
            };
            places_width = all_then (Placed shape) (λ w. w.place < 2 ^ 16) (λ w p. (let low = p.1 in omega (arith, low, wide))) (writes_in shape batch g) placed_all;
            tag_width = long_tag volume.key _;
          };
        }

  pub base_spelled : (e seq : ℕ) (contents : List (List ℕ)) (g : ℕ) → e < 2 ^ 64 → seq < 2 ^ 64 → g < regions shape → IsSpelled (base_record volume e seq contents g)
  unfolding base_record
  base_spelled e seq contents g session number inside =
      let many : regions shape ≤ 16 = few_regions shape limits in
      let some : 1 ≤ regions shape = some_regions shape limits in
      let fronts : length (base_header shape e seq contents g).fronts ≡ regions shape = length-replicate (regions shape) seq in
      let touched : length (all_regions shape) ≡ regions shape = length-range_with_len 0 (regions shape) in
      record {
        counts = record {
          its_header = record { first_version = (omega arith, omega arith); few_fronts = (omega (arith, fronts, some), omega (arith, fronts, many)); few_touched = (omega (arith, touched, some), omega (arith, touched, many)) };
          few_writes = (omega arith, omega arith);
          small_writes = All-nil IsWrite;
          no_run = refl;
        };
        widths = record {
          header_typed = record {
            version_width = omega arith;
            session_width = session;
            seq_width = number;
            region_width = omega (arith, inside, many);
            previous_width = omega arith;
            leader_width = omega arith;
            fronts_width = each_replicate (λ n. n < 2 ^ 64) (regions shape) seq number;
            touched_width = all_then (λ r. r < regions shape) (λ r. r < 2 ^ 16) (λ r low. omega (arith, low, many)) (all_regions shape) (each_region shape limits);
            root_width = length-root_of shape.height (blocks_in shape contents g);
            top_width = long_top shape contents shape.regions_log refl;
          };
          places_width = tt;
          tag_width = long_tag volume.key _;
        };
      }
