-- Each format of a record is one: what is read is spelled so, and what is spelled so is read.
use Rattle.std.proofs.Common.{◌≡◌, ℕ, ◌^◌, ◌<◌, ◌≤◌, List, [], ◌∷◌, ◌++◌, length, Option, None, Result, Ok, Err, refl, sym, ap, subst, ◌∙◌, append_assoc, arith}
use Rattle.std.specs.List.{AllByRecursion}
use Rattle.std.proofs.lemmas.List.Elements.{All-from_recursion, recursion_from_All, All-head}
use Rattle.salus_types.specs.declared.records.Header.{Header}
use Rattle.salus_types.specs.declared.records.PlaceWrite.{PlaceWrite}
use Rattle.salus_types.specs.declared.records.Record.{Record}
use Rattle.salus_types.specs.declared.records.Base.{Base}
use Rattle.salus_codec.specs.Spelling.{IsBytes, be2, be4}
use Rattle.std.specs.Prelude.{IfOk}
use Rattle.salus_codec.specs.declared.errors.FieldError.{FieldError}
use Rattle.salus_types.specs.Outcome.{Gives}
use Rattle.salus_codec.specs.Reading.{◌>>=◌, field_fault, bytes_at, u16_at, u32_at}
use Rattle.salus_codec.specs.Formats.{within, times}
use Rattle.salus_codec.proofs.Formats.{IsFormat, is_bytes, is_u8, is_u16, is_u32, is_u64, is_both, is_made, is_within, is_sized, is_counted, times_takes, times_again, no_prefix, bind_ok, rest_fits}
use Rattle.client_tag.specs.Spelling.{batch_bytes, before_bytes, numbers_bytes, regions_bytes, after_bytes, header_bytes, write_bytes, writes_bytes, payload_bytes, record_bytes, size_of, joined, blocks_bytes, base_bytes}
use Rattle.client_tag.specs.Ranges.{IsBetween, IsHeader, IsWrite, IsRecord, AreBlocks, IsBase, HasWidths, IsTyped}
use Rattle.client_tag.specs.Reading.{batch_at, before_at, numbers_at, regions_at, after_at, header_at, write_at, writes_at, record_at, least_size, most_size, blocks_at, base_at}

is_digest : IsFormat (λ (x : List ℕ). x) (λ x. length x ≡ 32) (bytes_at 32)
is_digest = is_bytes 32

is_numbers : IsFormat numbers_bytes (λ x. ((length x < 2 ^ 8) × (1 ≤ length x) × (length x ≤ 16)) × AllByRecursion (λ n. n < 2 ^ 64) x) numbers_at
unfolding numbers_bytes numbers_at
is_numbers = is_counted (is_within 1 16 is_u8) is_u64

is_regions : IsFormat regions_bytes (λ x. ((length x < 2 ^ 8) × (1 ≤ length x) × (length x ≤ 16)) × AllByRecursion (λ n. n < 2 ^ 16) x) regions_at
unfolding regions_bytes regions_at
is_regions = is_counted (is_within 1 16 is_u8) is_u16

record FitsHeader (h : Header) : Type 0 where
  pub counts : IsHeader h
  pub widths : HasWidths h

is_header : IsFormat header_bytes FitsHeader header_at
unfolding header_bytes header_at batch_bytes batch_at before_bytes before_at after_bytes after_at
is_header =
    is_made (is_both (is_both (is_within 1 1 is_u8) (is_both is_u64 (is_both is_u64 is_u16))) (is_both (is_both is_u64 is_u16) (is_both is_numbers (is_both is_regions (is_both is_digest is_digest)))))
    _ (λ h. ((h.version, (h.session, (h.seq, h.region))), ((h.previous, h.leader_before), (h.fronts, (h.touched, (h.root, h.top)))))) header_bytes FitsHeader
    (λ a f. (
      refl,
      record {
        counts = record { first_version = (f.0.0.1, f.0.0.2); few_fronts = (f.1.1.0.0.1, f.1.1.0.0.2); few_touched = (f.1.1.1.0.0.1, f.1.1.1.0.0.2) };
        widths = record {
          version_width = f.0.0.0;
          session_width = f.0.1.0;
          seq_width = f.0.1.1.0;
          region_width = f.0.1.1.1;
          previous_width = f.1.0.0;
          leader_width = f.1.0.1;
          fronts_width = f.1.1.0.1;
          touched_width = f.1.1.1.0.1;
          root_width = f.1.1.1.1.0;
          top_width = f.1.1.1.1.1;
        };
      },
    ))
    (λ h f. (
      refl,
      (
        ((f.widths.version_width, f.counts.first_version.0, f.counts.first_version.1), (f.widths.session_width, (f.widths.seq_width, f.widths.region_width))),
        (
          (f.widths.previous_width, f.widths.leader_width),
          (
            ((omega (arith, f.counts.few_fronts.1), f.counts.few_fronts.0, f.counts.few_fronts.1), f.widths.fronts_width),
            (
              ((omega (arith, f.counts.few_touched.1), f.counts.few_touched.0, f.counts.few_touched.1), f.widths.touched_width),
              (f.widths.root_width, f.widths.top_width),
            ),
          ),
        ),
      ),
      refl,
    ))

abbrev FitsWrite : PlaceWrite → Type 0
FitsWrite w = (w.place < 2 ^ 16) × IsWrite w

is_write : IsFormat write_bytes FitsWrite write_at
unfolding write_bytes write_at
is_write =
    is_made (is_both is_u16 (is_sized (is_within 1 4096 is_u16))) _ (λ w. (w.place, w.bytes)) write_bytes FitsWrite
    (λ a f. (refl, (f.0, (f.1.1, f.1.2))))
    (λ w f. (refl, (f.0, (omega (arith, f.1.1), f.1.0, f.1.1)), refl))

is_writes : IsFormat writes_bytes (λ x. ((length x < 2 ^ 8) × (0 ≤ length x) × (length x ≤ 64)) × AllByRecursion FitsWrite x) writes_at
unfolding writes_bytes writes_at
is_writes = is_counted (is_within 0 64 is_u8) is_write

places : (ws : List PlaceWrite) → AllByRecursion FitsWrite ws → AllByRecursion (λ w. w.place < 2 ^ 16) ws
places [] f = tt
places (w ∷ ws) f = (f.0.0, places ws f.1)

lengths : (ws : List PlaceWrite) → AllByRecursion FitsWrite ws → AllByRecursion IsWrite ws
lengths [] f = tt
lengths (w ∷ ws) f = (f.0.1, lengths ws f.1)

both_fit : (ws : List PlaceWrite) → AllByRecursion (λ w. w.place < 2 ^ 16) ws → AllByRecursion IsWrite ws → AllByRecursion FitsWrite ws
both_fit [] p l = tt
both_fit (w ∷ ws) p l = ((p.0, l.0), both_fit ws p.1 l.1)

-- a record with no run is what its other fields say
run_is : (r : Record) → r.run ≡ None → record { header = r.header; writes = r.writes; run = None; tag = r.tag } ≡ r
run_is r e = ap (λ (o : Option _). record r { run = o }) (sym e)

pub record FitsRecord (r : Record) : Type 0 where
  pub counts : IsRecord r
  pub widths : IsTyped r

pub is_record : IsFormat record_bytes FitsRecord record_at
unfolding record_bytes payload_bytes record_at
is_record =
    is_made (is_both is_header (is_both is_writes is_digest)) _ (λ r. (r.header, (r.writes, r.tag))) record_bytes FitsRecord
    (λ a f. (
      sym (append_assoc (header_bytes a.0) (writes_bytes a.1.0) a.1.1),
      record {
        counts = record { its_header = f.0.counts; few_writes = (f.1.0.0.1, f.1.0.0.2); small_writes = All-from_recursion IsWrite a.1.0 (lengths a.1.0 f.1.0.1); no_run = refl };
        widths = record { header_typed = f.0.widths; places_width = places a.1.0 f.1.0.1; tag_width = f.1.1 };
      },
    ))
    (λ r f. (
      append_assoc (header_bytes r.header) (writes_bytes r.writes) r.tag,
      (
        record { counts = f.counts.its_header; widths = f.widths.header_typed },
        (((omega (arith, f.counts.few_writes.1), f.counts.few_writes.0, f.counts.few_writes.1), both_fit r.writes f.widths.places_width (recursion_from_All IsWrite r.writes f.counts.small_writes)), f.widths.tag_width),
      ),
      run_is r f.counts.no_run,
    ))

-- ---- blocks

one_size : (xs : List (List ℕ)) (count size : ℕ) → length xs ≡ count → AllByRecursion (λ x. length x ≡ size) xs → size ≤ most_size count → size ≡ size_of xs
one_size [] count size len all high = let h : size ≤ 0 = subst (λ (n : ℕ). size ≤ most_size n) (sym len) high in omega arith
one_size (x ∷ xs) count size len all high = sym all.0

each_small : (xs : List (List ℕ)) (size : ℕ) → 1 ≤ size → size ≤ 4096 → AllByRecursion (λ x. length x ≡ size) xs → AllByRecursion (λ x. IsBetween 1 4096 (length x)) xs
each_small [] size low high all = tt
each_small (x ∷ xs) size low high all = let e = all.0 in ((omega arith, omega arith), each_small xs size low high all.1)

all_small : (xs : List (List ℕ)) (count size : ℕ) → length xs ≡ count → AllByRecursion (λ x. length x ≡ size) xs → least_size count ≤ size → size ≤ most_size count → AllByRecursion (λ x. IsBetween 1 4096 (length x)) xs
all_small [] count size len all low high = tt
all_small (x ∷ xs) count size len all low high =
    each_small (x ∷ xs) size (subst (λ (n : ℕ). least_size n ≤ size) (sym len) low) (subst (λ (n : ℕ). size ≤ most_size n) (sym len) high) all

size_fits : (xs : List (List ℕ)) → AreBlocks xs → (size_of xs < 2 ^ 16) × (least_size (length xs) ≤ size_of xs) × (size_of xs ≤ most_size (length xs))
size_fits [] are = (omega arith, omega arith, omega arith)
size_fits (x ∷ xs) are = let h = All-head (λ (y : List ℕ). IsBetween 1 4096 (length y)) x xs are.small_blocks in (omega (arith, h.1), h.0, h.1)

pub is_blocks : IsFormat blocks_bytes AreBlocks blocks_at
unfolding blocks_bytes blocks_at
is_blocks = record {
  takes = λ bytes x rest fits e.
      let a = bind_ok (within 0 4096 u32_at bytes) (λ count. within (least_size count.0) (most_size count.0) u16_at count.1 >>= λ size. times (bytes_at size.0) count.0 size.1) (x, rest) e in
      let b = bind_ok (within (least_size a.0.0) (most_size a.0.0) u16_at a.0.1) (λ size. times (bytes_at size.0) a.0.0 size.1) (x, rest) a.2 in
      let ta = (is_within 0 4096 is_u32).takes bytes a.0.0 a.0.1 fits a.1 in
      let fa = rest_fits bytes (be4 a.0.0) a.0.1 ta.0 fits in
      let tb = (is_within (least_size a.0.0) (most_size a.0.0) is_u16).takes a.0.1 b.0.0 b.0.1 fa b.1 in
      let tc = times_takes (is_bytes b.0.0) a.0.0 b.0.1 (x, rest) (rest_fits a.0.1 (be2 b.0.0) b.0.1 tb.0 fa) b.2 in
      let size : b.0.0 ≡ size_of x = one_size x a.0.0 b.0.0 tc.1 tc.2 tb.1.2 in
      let whole : bytes ≡ (be4 a.0.0 ++ (be2 b.0.0 ++ joined x)) ++ rest =
      ta.0 ∙ ap (λ (l : List ℕ). be4 a.0.0 ++ l) (tb.0 ∙ ap (λ (l : List ℕ). be2 b.0.0 ++ l) tc.0 ∙ sym (append_assoc (be2 b.0.0) (joined x) rest)) ∙ sym (append_assoc (be4 a.0.0) (be2 b.0.0 ++ joined x) rest) in (
        subst (λ (n : ℕ). bytes ≡ (be4 n ++ (be2 (size_of x) ++ joined x)) ++ rest) (sym tc.1) (subst (λ (n : ℕ). bytes ≡ (be4 a.0.0 ++ (be2 n ++ joined x)) ++ rest) size whole),
        record {
          few_blocks = omega (arith, tc.1, ta.1.2);
          one_size = All-from_recursion (λ y. length y ≡ size_of x) x (subst (λ (n : ℕ). AllByRecursion (λ y. length y ≡ n) x) size tc.2);
          small_blocks = All-from_recursion (λ y. IsBetween 1 4096 (length y)) x (all_small x a.0.0 b.0.0 tc.1 tc.2 tb.1.1 tb.1.2);
        },
      );
  again = λ x rest are.
      let s = size_fits x are in
      let regrouped : (be4 (length x) ++ (be2 (size_of x) ++ joined x)) ++ rest ≡ be4 (length x) ++ (be2 (size_of x) ++ (joined x ++ rest)) =
      append_assoc (be4 (length x)) (be2 (size_of x) ++ joined x) rest ∙ ap (λ (l : List ℕ). be4 (length x) ++ l) (append_assoc (be2 (size_of x)) (joined x) rest) in
      ap blocks_at regrouped
      ∙ rw (
        (is_within 0 4096 is_u32).again (length x) (be2 (size_of x) ++ (joined x ++ rest)) (omega (arith, are.few_blocks), omega arith, are.few_blocks),
        (is_within (least_size (length x)) (most_size (length x)) is_u16).again (size_of x) (joined x ++ rest) (s.0, s.1, s.2),
        times_again (is_bytes (size_of x)) x rest (recursion_from_All (λ y. length y ≡ size_of x) x are.one_size),
      ) refl;
}

pub record FitsBase (b : Base) : Type 0 where
  pub counts : IsBase b
  pub widths : IsTyped b.rec

pub is_base : IsFormat base_bytes FitsBase base_at
unfolding base_bytes base_at
is_base =
    is_made (is_both is_record is_blocks) _ (λ b. (b.rec, b.blocks)) base_bytes FitsBase
    (λ a f. (refl, record { counts = record { its_record = f.0.counts; its_blocks = f.1 }; widths = f.0.widths }))
    (λ b f. (refl, (record { counts = f.counts.its_record; widths = f.widths }, f.counts.its_blocks), refl))

-- ---- what a reader of records answers

pub record_found : (old new : List ℕ) (r : Result Record FieldError) → IsBytes old → Gives (λ x. Ok (x, new)) field_fault r (record_at old) → IfOk r (λ x. (old ≡ record_bytes x ++ new) × IsRecord x × IsTyped x)
record_found old new (Ok x) fits given = let t = is_record.takes old x new fits given in (t.0, t.1.counts, t.1.widths)
record_found old new (Err e) fits given = tt

pub record_alone : (old new : List ℕ) (r : Result Record FieldError) → IsBytes old → Gives (λ x. Ok (x, new)) field_fault r (record_at old)
    → IfOk r (λ x. (y : Record) (after : List ℕ) → IsRecord y → IsTyped y → record_bytes y ++ after ≡ record_bytes x → (y ≡ x) × (after ≡ []))
record_alone old new (Ok x) fits given =
    let t = is_record.takes old x new fits given in
    λ y after counts widths e. no_prefix is_record y x after (record { counts = counts; widths = widths }) t.1 e
record_alone old new (Err e) fits given = tt

pub record_again : (y : Record) (after : List ℕ) → IsRecord y → IsTyped y → record_at (record_bytes y ++ after) ≡ Ok (y, after)
record_again y after counts widths = is_record.again y after (record { counts = counts; widths = widths })
