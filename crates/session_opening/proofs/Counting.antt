-- What counts of the replies has the shape of the volume, and so has what is chosen from them.
use Rattle.std.proofs.Common.{◌≡◌, ◌∙◌, ℕ, zero, suc, ◌+◌, ◌*◌, ◌^◌, ◌≤◌, true, ◌==◌, ◌&&◌, nat_lt, nat_le, List, [], ◌∷◌, map, length, bytes_eq, refl, sym, ap, subst, arith, eqb-true}
use Rattle.std.specs.Prelude.{filter, flat_map, slice_set, slice_index}
use Rattle.std.specs.List.{AllByRecursion, list_all}
use Rattle.std.proofs.lemmas.Bool.{leb-true}
use Rattle.std.proofs.lemmas.List.{length-append}
use Rattle.std.proofs.lemmas.List.Elements.{recursion_from_All}
use Rattle.std.proofs.lemmas.List.FromFn.{length-map-range_with_len}
use Rattle.salus_types.specs.Volume.{Shape, regions, region_blocks, blocks}
use Rattle.salus_types.specs.declared.records.PlaceWrite.{PlaceWrite}
use Rattle.salus_types.specs.declared.records.Header.{Header}
use Rattle.salus_types.specs.declared.records.Record.{Record}
use Rattle.salus_types.specs.declared.records.Base.{Base}
use Rattle.salus_types.specs.declared.records.Held.{Held}
use Rattle.salus_message.specs.Ranges.{IsHeld}
use Rattle.merkle_region.specs.Tree.{root_of, IsAmong}
use Rattle.client_tag.specs.Ranges.{IsRecord}
use Rattle.client_tag.specs.Tags.{is_genuine}
use Rattle.holding_model.specs.Fitting.{ascends_from, writes_fit, run_fits, record_fits, blocks_written, blocks_zeroed, blocks_after, has_shape}
use Rattle.volume_model.specs.Contents.{all_regions, roots_of}
use Rattle.volume_model.specs.Recovering.{header_fits, record_counts, base_counts, Pool, End, is_of, base_end, is_link, linked, chain_ends, ends_of, blocks_up_to, picks, choices_of}
use Rattle.salus_model.specs.Opening.{headers_in}
use Rattle.restart_pool.specs.Kept.{Kept}
use Rattle.restart_pool.specs.Assembled.{joined}
use Rattle.restart_pool.specs.declared.assemble.Contents.{Contents}
use Rattle.restart_pool.proofs.Single.{length-blocks_written}
use Rattle.volume_restart.specs.declared.choice.Choice.{Choice}
use Rattle.volume_restart.specs.Choosing.{IsChoice}
use Rattle.client_rules.specs.Opening.{with_held}
use Rattle.list_lemmas.proofs.Each.{all_both, all_filter, all_map, all_each, all_then, all_pass, all_zip, flat_of_all}
use Rattle.list_lemmas.proofs.Members.{among_all}
use Rattle.list_lemmas.proofs.Tests.{and_left, and_right}
use Rattle.session_opening.specs.Gathered.{IsShaped, BaseShaped, PartFits, HeaderLow, IsCounted}
use Rattle.session_opening.proofs.Rooted.{roots_joined}

each_set : {A : Type 0} (P : A → Type 0) (xs : List A) (i : ℕ) (y : A) → AllByRecursion P xs → P y → AllByRecursion P (slice_set xs i y)
each_set P [] i y all one = tt
each_set P (x ∷ xs) zero y all one = (one, all.1)
each_set P (x ∷ xs) (suc i) y all one = (all.0, each_set P xs i y all.1 one)

all_long : (n : ℕ) (xs : List (List ℕ)) → list_all (λ x. length x == n) xs ≡ true → AllByRecursion (λ x. length x ≡ n) xs
all_long n [] pass = tt
all_long n (x ∷ xs) pass = (eqb-true (length x) n (and_left (length x == n) (list_all (λ y. length y == n) xs) pass), all_long n xs (and_right (length x == n) (list_all (λ y. length y == n) xs) pass))

module _ (shape : Shape) where
  -- ---- what counts of a reply

  low_header : (h : Header) → header_fits shape h ≡ true → HeaderLow h
  unfolding header_fits
  low_header h fits = leb-true h.seq (2 ^ 63) (and_right _ (nat_le h.seq (2 ^ 63)) fits)

  pub shaped_from : (contents : List (List ℕ)) → has_shape shape contents ≡ true → IsShaped shape contents
  unfolding has_shape
  shaped_from contents shaped = (
    eqb-true (length contents) (region_blocks shape) (and_left (length contents == region_blocks shape) (list_all (λ x. length x == shape.block) contents) shaped),
    all_long shape.block contents (and_right (length contents == region_blocks shape) (list_all (λ x. length x == shape.block) contents) shaped),
  )

  module _ (key : List ℕ) where
    counted_header : (rec : Record) → record_counts shape key rec ≡ true → HeaderLow rec.header
    counted_header rec counts =
        low_header rec.header (and_right (is_genuine key rec) (header_fits shape rec.header) (and_left (is_genuine key rec && header_fits shape rec.header) (record_fits shape rec) counts))

    counted_part : (rec : Record) → (record_counts shape key rec ≡ true) × IsRecord rec → PartFits shape rec
    counted_part rec both = (and_right (is_genuine key rec && header_fits shape rec.header) (record_fits shape rec) both.0, both.1.no_run)

    counted_base : (base : Base) → base_counts shape key base ≡ true → (record_counts shape key base.rec ≡ true) × BaseShaped shape base
    counted_base base counts =
        let front = and_left (record_counts shape key base.rec && has_shape shape base.blocks) (bytes_eq (root_of shape.height base.blocks) base.rec.header.root) counts in
        (and_left (record_counts shape key base.rec) (has_shape shape base.blocks) front, shaped_from base.blocks (and_right (record_counts shape key base.rec) (has_shape shape base.blocks) front))

    pub held_counted : (held : Held) (pool : Pool) → IsHeld held → IsCounted shape pool → IsCounted shape (with_held shape key held pool)
    held_counted held pool is f =
        let bases : List Base = filter (λ base. base_counts shape key base) held.bases in
        let parts : List Record = filter (λ rec. record_counts shape key rec) held.parts in
        let base_pass : AllByRecursion (λ base. base_counts shape key base ≡ true) bases = all_pass (λ base. base_counts shape key base) held.bases in
        let part_pass : AllByRecursion (λ rec. record_counts shape key rec ≡ true) parts = all_pass (λ rec. record_counts shape key rec) held.parts in
        let spelled : AllByRecursion IsRecord parts = all_filter IsRecord (λ rec. record_counts shape key rec) held.parts (recursion_from_All IsRecord held.parts is.its_parts) in
        record {
          bases = all_both (BaseShaped shape) pool.bases bases f.bases (all_then (λ base. base_counts shape key base ≡ true) (BaseShaped shape) (λ base counts. (counted_base base counts).1) bases base_pass);
          parts = all_both (PartFits shape) pool.parts parts f.parts
              (all_then (λ rec. (record_counts shape key rec ≡ true) × IsRecord rec) (PartFits shape) counted_part parts (all_zip (λ rec. record_counts shape key rec ≡ true) IsRecord parts part_pass spelled));
          headers = all_both HeaderLow pool.headers (headers_in shape key held) f.headers
              (all_both HeaderLow (map (λ base. base.rec.header) bases) (map (λ rec. rec.header) parts)
              (all_map HeaderLow (λ base. base.rec.header) bases
              (all_then (λ base. base_counts shape key base ≡ true) (λ base. HeaderLow base.rec.header) (λ base counts. counted_header base.rec (counted_base base counts).0) bases base_pass))
              (all_map HeaderLow (λ rec. rec.header) parts (all_then (λ rec. record_counts shape key rec ≡ true) (λ rec. HeaderLow rec.header) counted_header parts part_pass)));
        }

  -- ---- what the chains give

  written_sized : (writes : List PlaceWrite) (contents : List (List ℕ)) → list_all (λ w. nat_lt w.place (region_blocks shape) && (length w.bytes == shape.block)) writes ≡ true
      → AllByRecursion (λ x. length x ≡ shape.block) contents → AllByRecursion (λ x. length x ≡ shape.block) (blocks_written contents writes)
  unfolding blocks_written
  written_sized [] contents fit all = all
  written_sized (w ∷ writes) contents fit all =
      let first : (nat_lt w.place (region_blocks shape) && (length w.bytes == shape.block)) ≡ true = and_left _ (list_all (λ v. nat_lt v.place (region_blocks shape) && (length v.bytes == shape.block)) writes) fit in
      let long : length w.bytes ≡ shape.block = eqb-true (length w.bytes) shape.block (and_right (nat_lt w.place (region_blocks shape)) (length w.bytes == shape.block) first) in
      written_sized writes _ (and_right (nat_lt w.place (region_blocks shape) && (length w.bytes == shape.block)) _ fit) (each_set (λ x. length x ≡ shape.block) contents w.place w.bytes all long)

  after_shaped : (contents : List (List ℕ)) (rec : Record) → IsShaped shape contents → PartFits shape rec → IsShaped shape (blocks_after shape contents rec)
  unfolding record_fits
  after_shaped contents rec all fits =
      let writes : writes_fit shape rec.writes ≡ true = and_left (writes_fit shape rec.writes) (run_fits shape rec.run) fits.0 in
      subst (λ o. IsShaped shape (blocks_zeroed shape (blocks_written contents rec.writes) o)) (sym fits.1)
      (length-blocks_written contents rec.writes ∙ all.0, written_sized rec.writes contents (and_right (ascends_from 0 (map (λ w. w.place) rec.writes)) _ writes) all.1)

  abbrev EndShaped : End → Type 0
  EndShaped end = IsShaped shape end.blocks

  linked_shaped : (parts : List Record) (end : End) → AllByRecursion (PartFits shape) parts → EndShaped end → AllByRecursion EndShaped (linked shape parts end)
  linked_shaped parts end all shaped =
      let some : List Record = filter (λ rec. is_link shape end rec) parts in
      let next : Record → End = λ rec. record { at = rec.header.seq; blocks = blocks_after shape end.blocks rec } in
      all_map EndShaped next some (all_then (PartFits shape) (λ rec. EndShaped (next rec)) (λ rec fits. after_shaped end.blocks rec shaped fits) some (all_filter (PartFits shape) (λ rec. is_link shape end rec) parts all))

  chains_shaped : (bases : List Base) (parts : List Record) (n : ℕ) → AllByRecursion (BaseShaped shape) bases → AllByRecursion (PartFits shape) parts → AllByRecursion EndShaped (chain_ends shape bases parts n)
  unfolding chain_ends
  chains_shaped bases parts zero each all = all_map EndShaped base_end bases each
  chains_shaped bases parts (suc n) each all =
      let before : List End = chain_ends shape bases parts n in
      all_both EndShaped (map base_end bases) (flat_map (λ end. linked shape parts end) before) (all_map EndShaped base_end bases each)
      (flat_of_all EndShaped (λ end. linked shape parts end) before
      (all_then EndShaped (λ end. AllByRecursion EndShaped (linked shape parts end)) (λ end shaped. linked_shaped parts end all shaped) before (chains_shaped bases parts n each all)))

  -- the blocks of each of so many regions
  abbrev EachShaped : ℕ → List (List (List ℕ)) → Type 0
  EachShaped n pick = (length pick ≡ n) × AllByRecursion (IsShaped shape) pick

  picks_shaped : (choices : List (List (List (List ℕ)))) → AllByRecursion (λ xs. AllByRecursion (IsShaped shape) xs) choices → AllByRecursion (EachShaped (length choices)) (picks choices)
  unfolding picks
  picks_shaped [] all = ((refl, tt), tt)
  picks_shaped (xs ∷ others) all =
      let rest : AllByRecursion (EachShaped (length others)) (picks others) = picks_shaped others all.1 in
      flat_of_all (EachShaped (suc (length others))) (λ x. map (λ more. x ∷ more) (picks others)) xs
      (all_then (IsShaped shape) (λ x. AllByRecursion (EachShaped (suc (length others))) (map (λ more. x ∷ more) (picks others)))
      (λ x shaped. all_map (EachShaped (suc (length others))) (λ more. x ∷ more) (picks others)
      (all_then (EachShaped (length others)) (λ more. EachShaped (suc (length others)) (x ∷ more)) (λ more each. (ap suc each.0, (shaped, each.1))) (picks others) rest)) xs all.0)

  joined_long : (pick : List (List (List ℕ))) → AllByRecursion (IsShaped shape) pick → length (flat_map (λ b. b) pick) ≡ length pick * region_blocks shape
  joined_long [] each = let none : 0 ≡ 0 * region_blocks shape = omega arith in none
  joined_long (x ∷ pick) each =
      let rest = joined_long pick each.1 in
      let here = each.0.0 in
      let whole = length-append x (flat_map (λ b. b) pick) in
      whole ∙ (let sum : length x + length (flat_map (λ b. b) pick) ≡ suc (length pick) * region_blocks shape = omega (arith, rest, here) in sum)

  module _ (pool : Pool) (f : IsCounted shape pool) where
    up_to_shaped : (e g x : ℕ) → AllByRecursion (IsShaped shape) (blocks_up_to shape pool e g x)
    unfolding ends_of
    up_to_shaped e g x =
        let bases : List Base = filter (λ base. is_of e g base.rec.header) pool.bases in
        let parts : List Record = filter (λ rec. is_of e g rec.header) pool.parts in
        let ends : AllByRecursion EndShaped (ends_of shape pool e g) =
        chains_shaped bases parts (length pool.parts) (all_filter (BaseShaped shape) (λ base. is_of e g base.rec.header) pool.bases f.bases) (all_filter (PartFits shape) (λ rec. is_of e g rec.header) pool.parts f.parts) in
        let some : List End = filter (λ end. end.at == x) (ends_of shape pool e g) in
        all_map (IsShaped shape) (λ end. end.blocks) some (all_filter EndShaped (λ end. end.at == x) (ends_of shape pool e g) ends)

    pick_shaped : (h : Header) (pick : List (List (List ℕ))) → IsAmong pick (picks (choices_of shape pool h)) → EachShaped (regions shape) pick
    pick_shaped h pick among =
        let each = among_all (EachShaped (length (choices_of shape pool h))) (picks (choices_of shape pool h)) pick among
        (picks_shaped (choices_of shape pool h)
        (all_map (λ xs. AllByRecursion (IsShaped shape) xs) (λ g. blocks_up_to shape pool h.session g (slice_index h.fronts g)) (all_regions shape) (all_each _ (all_regions shape) (λ g. up_to_shaped h.session g _)))) in
        (each.0 ∙ length-map-range_with_len (λ g. blocks_up_to shape pool h.session g (slice_index h.fronts g)) 0 (regions shape), each.1)

module _ (kept : Kept) (f : IsCounted kept.shape kept.held) (choice : Choice) (is : IsChoice kept choice) where
  abbrev pick : List (List (List ℕ))
  pick = is.contents.pick

  each : EachShaped kept.shape (regions kept.shape) pick
  each = pick_shaped kept.shape kept.held f is.header pick is.contents.among

  blocks_is : choice.contents ≡ joined pick
  blocks_is = ap (λ (c : Contents). c.blocks) is.contents.is

  pub choice_rooted : choice.roots ≡ roots_of kept.shape choice.contents
  choice_rooted =
      ap (λ (c : Contents). c.roots) is.contents.is ∙ (sym (roots_joined kept.shape pick each.0 each.1) ∙ ap (roots_of kept.shape) (sym blocks_is))

  pub choice_long : length choice.contents ≡ blocks kept.shape
  choice_long = ap length blocks_is ∙ joined_long kept.shape pick each.1 ∙ ap (λ n. n * region_blocks kept.shape) each.0

  pub choice_sized : AllByRecursion (λ x. length x ≡ kept.shape.block) choice.contents
  choice_sized =
      subst (AllByRecursion (λ x. length x ≡ kept.shape.block)) (sym blocks_is)
      (flat_of_all (λ x. length x ≡ kept.shape.block) (λ b. b) pick (all_then (IsShaped kept.shape) (λ b. AllByRecursion (λ x. length x ≡ kept.shape.block) b) (λ b shaped. shaped.1) pick each.1))

  pub choice_low : choice.number ≤ 2 ^ 63
  choice_low = subst (λ n. n ≤ 2 ^ 63) (sym is.number) (among_all HeaderLow kept.held.headers is.header is.among f.headers)
