-- Each entry carries what it was made of, and none is long.
use Rattle.std.proofs.Common.{◌≡◌, ◌≢◌, ℕ, ◌+◌, ◌*◌, ◌^◌, ◌<◌, ◌≤◌, ◌==◌, List, [], ◌∷◌, ◌++◌, length, Some, None, refl, sym, ◌∙◌, ap, arith, length-append}
use Rattle.std.specs.Prelude.{option_map, option_and_then}
use Rattle.std.specs.List.{AllByRecursion, flat_map}
use Rattle.std.proofs.lemmas.List.{append-nil}
use Rattle.std.proofs.lemmas.List.Elements.{recursion_from_All}
use Rattle.std.proofs.lemmas.Bool.{cond-false, ne_eqb}
use Rattle.byteorder.specs.Numbers.{length-bytes_high_first}
use Rattle.salus_types.specs.declared.records.Header.{Header}
use Rattle.salus_types.specs.declared.records.PlaceWrite.{PlaceWrite}
use Rattle.salus_types.specs.declared.records.Record.{Record}
use Rattle.salus_types.specs.declared.records.Base.{Base}
use Rattle.salus_codec.specs.Spelling.{be1, be2, be4, be8}
use Rattle.salus_codec.specs.Reading.{u64_at}
use Rattle.salus_codec.proofs.Formats.{is_u64}
use Rattle.client_tag.specs.Spelling.{batch_bytes, before_bytes, numbers_bytes, regions_bytes, after_bytes, header_bytes, write_bytes, writes_bytes, payload_bytes, record_bytes, size_of, joined, blocks_bytes, base_bytes}
use Rattle.client_tag.specs.Ranges.{IsHeader, IsWrite, IsRecord, AreBlocks, IsBase, IsBetween, HasWidths, IsTyped}
use Rattle.client_tag.specs.Reading.{record_at, base_at}
use Rattle.client_tag.proofs.RecordLaws.{record_again, is_base}
use Rattle.holding_model.specs.Holding.{OfPart, OfBase, ToSession, entry_of, whole_field, with_blocks}

-- ---- read again

pub entry_of-part : (rec : Record) → IsRecord rec → IsTyped rec → entry_of (1 ∷ record_bytes rec) ≡ Some (OfPart rec)
unfolding entry_of
entry_of-part rec counts widths =
    ap (λ (l : List ℕ). option_map (λ r. OfPart r) (whole_field (record_at l))) (sym (append-nil (record_bytes rec)))
    ∙ ap (λ f. option_map (λ r. OfPart r) (whole_field f)) (record_again rec [] counts widths)

pub entry_of-base : (base : Base) → IsBase base → IsTyped base.rec → 0 < length base.blocks → entry_of (2 ∷ base_bytes base) ≡ Some (OfBase base)
unfolding entry_of
entry_of-base base counts widths some =
    ap (λ (l : List ℕ). option_and_then (λ b. with_blocks b) (whole_field (base_at l))) (sym (append-nil (base_bytes base)))
    ∙ ap (λ f. option_and_then (λ b. with_blocks b) (whole_field f)) (is_base.again base [] (record { counts = counts; widths = widths }))
    ∙ (let many : length base.blocks ≢ 0 = omega arith in cond-false (length base.blocks == 0) None (Some (OfBase base)) (ne_eqb (length base.blocks) 0 many))

pub entry_of-switch : (session : ℕ) → session < 2 ^ 64 → entry_of (3 ∷ be8 session) ≡ Some (ToSession session)
unfolding entry_of
entry_of-switch session fits =
    ap (λ (l : List ℕ). option_map (λ e. ToSession e) (whole_field (u64_at l))) (sym (append-nil (be8 session)))
    ∙ ap (λ f. option_map (λ e. ToSession e) (whole_field f)) (is_u64.again session [] fits)

-- ---- lengths

len1 : (n : ℕ) → length (be1 n) ≡ 1
unfolding be1
len1 n = length-bytes_high_first 1 n

len2 : (n : ℕ) → length (be2 n) ≡ 2
unfolding be2
len2 n = length-bytes_high_first 2 n

len4 : (n : ℕ) → length (be4 n) ≡ 4
unfolding be4
len4 n = length-bytes_high_first 4 n

pub len8 : (n : ℕ) → length (be8 n) ≡ 8
unfolding be8
len8 n = length-bytes_high_first 8 n

numbers_len : (xs : List ℕ) → length (flat_map be8 xs) ≡ 8 * length xs
numbers_len [] = refl
numbers_len (x ∷ xs) = omega (arith, length-append (be8 x) (flat_map be8 xs), len8 x, numbers_len xs)

regions_len : (xs : List ℕ) → length (flat_map be2 xs) ≡ 2 * length xs
regions_len [] = refl
regions_len (x ∷ xs) = omega (arith, length-append (be2 x) (flat_map be2 xs), len2 x, regions_len xs)

write_len : (w : PlaceWrite) → IsWrite w → length (write_bytes w) ≤ 4100
unfolding write_bytes
write_len w is = omega (arith, length-append (be2 w.place) (be2 (length w.bytes) ++ w.bytes), length-append (be2 (length w.bytes)) w.bytes, len2 w.place, len2 (length w.bytes), is.1)

each_len : (ws : List PlaceWrite) → AllByRecursion IsWrite ws → length (flat_map write_bytes ws) ≤ 4100 * length ws
each_len [] all = omega arith
each_len (w ∷ ws) all = omega (arith, length-append (write_bytes w) (flat_map write_bytes ws), write_len w all.0, each_len ws all.1)

writes_len : (ws : List PlaceWrite) → AllByRecursion IsWrite ws → length (writes_bytes ws) ≤ 1 + 4100 * length ws
unfolding writes_bytes
writes_len ws all = omega (arith, length-append (be1 (length ws)) (flat_map write_bytes ws), len1 (length ws), each_len ws all)

batch_len : (h : Header) → length (batch_bytes h) ≡ 19
unfolding batch_bytes
batch_len h = omega (arith, length-append (be1 h.version) (be8 h.session ++ (be8 h.seq ++ be2 h.region)), length-append (be8 h.session) (be8 h.seq ++ be2 h.region), length-append (be8 h.seq) (be2 h.region), len1 h.version, len8 h.session, len8 h.seq, len2 h.region)

before_len : (h : Header) → length (before_bytes h) ≡ 10
unfolding before_bytes
before_len h = omega (arith, length-append (be8 h.previous) (be2 h.leader_before), len8 h.previous, len2 h.leader_before)

fronts_len : (xs : List ℕ) → length (numbers_bytes xs) ≡ 1 + 8 * length xs
unfolding numbers_bytes
fronts_len xs = omega (arith, length-append (be1 (length xs)) (flat_map be8 xs), len1 (length xs), numbers_len xs)

touched_len : (xs : List ℕ) → length (regions_bytes xs) ≡ 1 + 2 * length xs
unfolding regions_bytes
touched_len xs = omega (arith, length-append (be1 (length xs)) (flat_map be2 xs), len1 (length xs), regions_len xs)

after_len : (h : Header) → IsHeader h → HasWidths h → length (after_bytes h) ≤ 300
unfolding after_bytes
after_len h counts widths =
    omega (arith, length-append (numbers_bytes h.fronts) (regions_bytes h.touched ++ (h.root ++ h.top)), length-append (regions_bytes h.touched) (h.root ++ h.top), length-append h.root h.top, fronts_len h.fronts, touched_len h.touched, counts.few_fronts.1, counts.few_touched.1, widths.root_width, widths.top_width)

header_len : (h : Header) → IsHeader h → HasWidths h → length (header_bytes h) ≤ 400
unfolding header_bytes
header_len h counts widths = omega (arith, length-append (batch_bytes h) (before_bytes h ++ after_bytes h), length-append (before_bytes h) (after_bytes h), batch_len h, before_len h, after_len h counts widths)

pub record_len : (rec : Record) → IsRecord rec → IsTyped rec → length (record_bytes rec) ≤ 300000
unfolding record_bytes payload_bytes
record_len rec counts widths =
    omega (arith, length-append (header_bytes rec.header ++ writes_bytes rec.writes) rec.tag, length-append (header_bytes rec.header) (writes_bytes rec.writes), header_len rec.header counts.its_header widths.header_typed, writes_len rec.writes (recursion_from_All IsWrite rec.writes counts.small_writes), counts.few_writes.1, widths.tag_width)

joined_len : (blocks : List (List ℕ)) → AllByRecursion (λ block. IsBetween 1 4096 (length block)) blocks → length (joined blocks) ≤ 4096 * length blocks
joined_len [] all = omega arith
joined_len (block ∷ blocks) all = omega (arith, length-append block (joined blocks), all.0.1, joined_len blocks all.1)

blocks_len : (blocks : List (List ℕ)) → AreBlocks blocks → length (blocks_bytes blocks) ≤ 6 + 4096 * length blocks
unfolding blocks_bytes
blocks_len blocks are =
    omega (arith, length-append (be4 (length blocks)) (be2 (size_of blocks) ++ joined blocks), length-append (be2 (size_of blocks)) (joined blocks), len4 (length blocks), len2 (size_of blocks), joined_len blocks (recursion_from_All (λ block. IsBetween 1 4096 (length block)) blocks are.small_blocks))

pub base_len : (base : Base) → IsBase base → IsTyped base.rec → length (base_bytes base) ≤ 20000000
unfolding base_bytes
base_len base counts widths =
    omega (arith, length-append (record_bytes base.rec) (blocks_bytes base.blocks), record_len base.rec counts.its_record widths, blocks_len base.blocks counts.its_blocks, counts.its_blocks.few_blocks)
