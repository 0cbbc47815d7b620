-- What is held can be folded, through each change.
use Rattle.std.proofs.Common.{◌≡◌, ◌∙◌, ℕ, zero, suc, ◌<◌, ◌^◌, ◌==◌, ◌&&◌, nat_lt, not, Bool, true, false, if◌then◌else◌, List, [], ◌∷◌, ◌++◌, length, map, set, Option, None, refl, sym, ap, subst, arith}
use Rattle.std.specs.Prelude.{filter}
use Rattle.std.specs.List.{AllByRecursion, list_all}
use Rattle.std.proofs.lemmas.Bool.{eqb-true, eq-eqb, ltb-true, false≢true}
use Rattle.std.proofs.lemmas.List.{append-nil, length-map}
use Rattle.std.proofs.lemmas.Nat.{pow_pos}
use Rattle.salus_types.specs.Volume.{Shape, region_blocks}
use Rattle.salus_types.specs.declared.records.PlaceWrite.{PlaceWrite}
use Rattle.salus_types.specs.declared.records.Trim.{Trim}
use Rattle.salus_types.specs.declared.records.Record.{Record}
use Rattle.salus_types.specs.declared.records.Base.{Base}
use Rattle.salus_types.specs.declared.records.Held.{Held}
use Rattle.client_tag.specs.Spelling.{size_of}
use Rattle.holding_model.specs.Fitting.{ascends_from, writes_fit, run_fits, record_fits, has_content, has_shape, blocks_written, blocks_zeroed}
use Rattle.holding_model.specs.Changing.{AddsPart, AddsBase, FoldsTo, is_folded, is_open_base, base_after, base_after_all, folded, changed}
use Rattle.datanode_store.specs.Meaning.{IsPart, CanBeKept}
use Rattle.datanode_checkpoint.specs.Folds.{HasSize, open_bases, CanBeFolded}
use Rattle.datanode_checkpoint.proofs.Lists.{all_passed, all_test, both_all}
use Rattle.datanode_checkpoint.proofs.Folded.{open_session}
use Rattle.replica_rules.specs.Views.{header_is_right, has_right_shape}
use Rattle.list_lemmas.proofs.Each.{all_then, all_both, all_filter, all_map}
use Rattle.list_lemmas.proofs.Tests.{by_bool, and_left, and_right}
use Rattle.replica_node.specs.Serving.{AreSized, WritesSized, FoldsWell}

-- ---- lists

filter_append : {A : Type 0} (t : A → Bool) (xs ys : List A) → filter t (xs ++ ys) ≡ filter t xs ++ filter t ys
filter_append t [] ys = refl
filter_append t (x ∷ xs) ys = elim (t x) as (λ b. (if b then x ∷ filter t (xs ++ ys) else filter t (xs ++ ys)) ≡ (if b then x ∷ filter t xs else filter t xs) ++ filter t ys) [
  | true ↦ ap (λ l. x ∷ l) (filter_append t xs ys)
  | false ↦ filter_append t xs ys
]

filter_all : {A : Type 0} (t : A → Bool) (xs : List A) → AllByRecursion (λ x. t x ≡ true) xs → filter t xs ≡ xs
filter_all t [] all = refl
filter_all t (x ∷ xs) all = ap (λ b. if b then x ∷ filter t xs else filter t xs) all.0 ∙ ap (λ l. x ∷ l) (filter_all t xs all.1)

filter_none : {A : Type 0} (t : A → Bool) (xs : List A) → AllByRecursion (λ x. t x ≡ false) xs → filter t xs ≡ []
filter_none t [] all = refl
filter_none t (x ∷ xs) all = ap (λ b. if b then x ∷ filter t xs else filter t xs) all.0 ∙ filter_none t xs all.1

split_filter : {A : Type 0} (P : A → Type 0) (x : A) (passed : List A) (t b : Bool) → t ≡ b → AllByRecursion P (if b then x ∷ passed else passed) → (t ≡ true → P x) × AllByRecursion P passed
split_filter P x passed t true is all = (λ yes. all.0, all.1)
split_filter P x passed t false is all = (λ yes. absurd (false≢true (sym is ∙ yes)), all)

-- what holds of those that pass a test
pub all_of_filter : {A : Type 0} (P : A → Type 0) (test : A → Bool) (xs : List A) → AllByRecursion P (filter test xs) → AllByRecursion (λ x. test x ≡ true → P x) xs
all_of_filter P test [] all = tt
all_of_filter P test (x ∷ xs) all =
    let both : (test x ≡ true → P x) × AllByRecursion P (filter test xs) = split_filter P x (filter test xs) (test x) (test x) refl all in
    (both.0, all_of_filter P test xs both.1)

each_of_test : {A : Type 0} (test : A → Bool) (P : A → Type 0) → ((x : A) → test x ≡ true → P x) → (xs : List A) → list_all test xs ≡ true → AllByRecursion P xs
each_of_test test P f [] all = tt
each_of_test test P f (x ∷ xs) all = (f x (and_left (test x) (list_all test xs) all), each_of_test test P f xs (and_right (test x) (list_all test xs) all))

-- ---- sizes

size_is : (n : ℕ) (blocks : List (List ℕ)) → AreSized n blocks → size_of blocks ≡ n
size_is n [] sized = absurd (omega (arith, sized.some))
size_is n (block ∷ blocks) sized = sized.each.0

pub shape_sized : (shape : Shape) (blocks : List (List ℕ)) → has_shape shape blocks ≡ true → AreSized shape.block blocks
unfolding has_shape
shape_sized shape blocks is =
    let sizes : Bool = list_all (λ x. length x == shape.block) blocks in
    let count : length blocks ≡ region_blocks shape = eqb-true (length blocks) (region_blocks shape) (and_left (length blocks == region_blocks shape) sizes is) in
    let some : 0 < 2 ^ shape.height = pow_pos shape.height in
    record { some = omega arith; each = each_of_test (λ x. length x == shape.block) (λ x. length x ≡ shape.block) (λ x same. eqb-true (length x) shape.block same) blocks (and_right (length blocks == region_blocks shape) sizes is) }

pub fits_sized : (shape : Shape) (rec : Record) → record_fits shape rec ≡ true → WritesSized shape.block rec
unfolding record_fits
fits_sized shape rec fits =
    let writes : writes_fit shape rec.writes ≡ true = and_left (writes_fit shape rec.writes) (run_fits shape rec.run) fits in
    let each : list_all (λ w. nat_lt w.place (region_blocks shape) && (length w.bytes == shape.block)) rec.writes ≡ true = and_right (ascends_from 0 (map (λ w. w.place) rec.writes)) _ writes in
    each_of_test (λ w. nat_lt w.place (region_blocks shape) && (length w.bytes == shape.block)) (λ w. length w.bytes ≡ shape.block)
    (λ w fit. eqb-true (length w.bytes) shape.block (and_right (nat_lt w.place (region_blocks shape)) (length w.bytes == shape.block) fit)) rec.writes each

pub right_sized : (shape : Shape) (g : ℕ) (rec : Record) → has_right_shape shape g rec ≡ true → WritesSized shape.block rec
unfolding has_right_shape
right_sized shape g rec right = fits_sized shape rec (and_right (header_is_right shape g rec.header && has_content rec.writes rec.run) (record_fits shape rec) right)

all_set : {X : Type 0} (P : X → Type 0) (xs : List X) (i : ℕ) (v : X) → AllByRecursion P xs → P v → AllByRecursion P (set xs i v)
all_set P [] i v all is = tt
all_set P (x ∷ xs) zero v all is = (is, all.1)
all_set P (x ∷ xs) (suc i) v all is = (all.0, all_set P xs i v all.1 is)

length_set : {X : Type 0} (xs : List X) (i : ℕ) (v : X) → length (set xs i v) ≡ length xs
length_set [] i v = refl
length_set (x ∷ xs) zero v = refl
length_set (x ∷ xs) (suc i) v = ap suc (length_set xs i v)

written_sized : (n : ℕ) (blocks : List (List ℕ)) (writes : List PlaceWrite) → AreSized n blocks → AllByRecursion (λ w. length w.bytes ≡ n) writes → AreSized n (blocks_written blocks writes)
unfolding blocks_written
written_sized n blocks [] sized all = sized
written_sized n blocks (w ∷ writes) sized all =
    let long : length (set blocks w.place w.bytes) ≡ length blocks = length_set blocks w.place w.bytes in
    written_sized n (set blocks w.place w.bytes) writes (record { some = omega (arith, long, sized.some); each = all_set (λ block. length block ≡ n) blocks w.place w.bytes sized.each all.0 }) all.1

-- no run, and blocks of that length
abbrev Writes : ℕ → Record → Type 0
Writes n rec = (rec.run ≡ None) × WritesSized n rec

after_sized : (shape : Shape) (n : ℕ) (base : Base) (parts : List Record) → AreSized n base.blocks → AllByRecursion (Writes n) parts → AreSized n (base_after_all shape base parts).blocks
unfolding base_after_all
after_sized shape n base [] sized all = sized
after_sized shape n base (rec ∷ parts) sized all =
    after_sized shape n (base_after shape base rec) parts
    (subst (λ (run : Option Trim). AreSized n (blocks_zeroed shape (blocks_written base.blocks rec.writes) run)) (sym all.0.0) (written_sized n base.blocks rec.writes sized all.0.1)) all.1

after_session : (shape : Shape) (session : ℕ) (base : Base) (parts : List Record) → base.rec.header.session ≡ session → AllByRecursion (λ rec. rec.header.session ≡ session) parts → (base_after_all shape base parts).rec.header.session ≡ session
unfolding base_after_all
after_session shape session base [] is all = is
after_session shape session base (rec ∷ parts) is all = after_session shape session (base_after shape base rec) parts all.0 all.1

-- ---- what can be folded

pub can_fold : (n : ℕ) (held : Held) → FoldsWell n held → CanBeFolded held
can_fold n held well = record {
  one = well.one;
  sizes = all_then (λ base. AreSized n base.blocks) (λ base. AllByRecursion (λ rec. rec.header.session ≡ held.session → HasSize base rec) held.parts)
      (λ base sized. all_then (λ rec. rec.header.session ≡ held.session → WritesSized n rec) (λ rec. rec.header.session ≡ held.session → HasSize base rec)
      (λ rec f same. subst (λ (m : ℕ). AllByRecursion (λ w. length w.bytes ≡ m) rec.writes) (sym (size_is n base.blocks sized)) (f same)) held.parts well.parts)
      (open_bases held) well.bases;
}

pub part_well : (shape : Shape) (n : ℕ) (held : Held) (rec : Record) → FoldsWell n held → WritesSized n rec → FoldsWell n (changed shape held (AddsPart rec))
unfolding changed
part_well shape n held rec well sized = record {
  one = well.one;
  bases = well.bases;
  parts = all_both (λ r. r.header.session ≡ held.session → WritesSized n r) held.parts (rec ∷ []) well.parts (λ same. sized, tt);
}

-- a base of a later session isn't one of the open session
base_apart : (held : Held) (base : Base) → held.session < base.rec.header.session → open_bases (record { session = held.session; bases = held.bases ++ base ∷ []; parts = held.parts }) ≡ open_bases held
base_apart held base less =
    let t : Base → Bool = λ b. is_open_base held b in
    let off : t base ≡ false = by_bool (t base) (t base ≡ false) (λ yes. let same : base.rec.header.session ≡ held.session = eqb-true base.rec.header.session held.session yes in absurd (omega arith)) (λ e. e) in
    filter_append t held.bases (base ∷ []) ∙ ap (λ v. filter t held.bases ++ (if v then base ∷ [] else [])) off ∙ append-nil (filter t held.bases)

pub base_well : (shape : Shape) (n : ℕ) (held : Held) (base : Base) → held.session < base.rec.header.session → FoldsWell n held → FoldsWell n (changed shape held (AddsBase base))
unfolding changed
base_well shape n held base less well =
    let same : open_bases (record { session = held.session; bases = held.bases ++ base ∷ []; parts = held.parts }) ≡ open_bases held = base_apart held base less in
    record {
      one = ap length same ∙ well.one;
      bases = subst (λ (l : List Base). AllByRecursion (λ b. AreSized n b.blocks) l) (sym same) well.bases;
      parts = well.parts;
    }

-- no part that is held has a run
abbrev pub NoRuns : Held → Type 0
NoRuns held = AllByRecursion (λ rec. rec.run ≡ None) held.parts

-- the parts that are folded
gone_write : (n at : ℕ) (held : Held) → NoRuns held → FoldsWell n held → AllByRecursion (Writes n) (filter (λ rec. is_folded held at rec) held.parts)
gone_write n at held kept well =
    all_passed (Writes n) (λ rec. is_folded held at rec) held.parts
    (all_then (λ rec. (rec.run ≡ None) × (rec.header.session ≡ held.session → WritesSized n rec)) (λ rec. is_folded held at rec ≡ true → Writes n rec)
    (λ rec both is. (both.0, both.1 (open_session held at rec is))) held.parts
    (both_all (λ rec. rec.run ≡ None) (λ rec. rec.header.session ≡ held.session → WritesSized n rec) held.parts kept well.parts))

gone_open : (at : ℕ) (held : Held) → AllByRecursion (λ rec. rec.header.session ≡ held.session) (filter (λ rec. is_folded held at rec) held.parts)
gone_open at held = all_then (λ rec. is_folded held at rec ≡ true) (λ rec. rec.header.session ≡ held.session) (λ rec is. open_session held at rec is) (filter (λ rec. is_folded held at rec) held.parts) (all_test (λ rec. is_folded held at rec) held.parts)

fold_of_some : (shape : Shape) (n at : ℕ) (held : Held) (first : Record) (rest : List Record) → NoRuns held → FoldsWell n held → FoldsWell n (folded shape held at (first ∷ rest))
fold_of_some shape n at held first rest kept well =
    let t : Base → Bool = λ b. is_open_base held b in
    let gone : List Record = filter (λ rec. is_folded held at rec) held.parts in
    let after : Base → Base = λ b. base_after_all shape b gone in
    let bases : List Base = open_bases held in
    let later : List Base = filter (λ b. nat_lt held.session b.rec.header.session) held.bases in
    let each_open : AllByRecursion (λ b. t (after b) ≡ true) bases =
    all_then (λ b. t b ≡ true) (λ b. t (after b) ≡ true)
    (λ b is. eq-eqb (after b).rec.header.session held.session (after_session shape held.session b gone (eqb-true b.rec.header.session held.session is) (gone_open at held))) bases (all_test t held.bases) in
    let none_later : filter t later ≡ [] = filter_none t later (all_then (λ b. nat_lt held.session b.rec.header.session ≡ true) (λ b. t b ≡ false)
    (λ b up. let over : held.session < b.rec.header.session = ltb-true held.session b.rec.header.session up in
    by_bool (t b) (t b ≡ false) (λ yes. let same : b.rec.header.session ≡ held.session = eqb-true b.rec.header.session held.session yes in absurd (omega arith)) (λ e. e))
    later (all_test (λ b. nat_lt held.session b.rec.header.session) held.bases)) in
    let same : open_bases (folded shape held at (first ∷ rest)) ≡ map after bases =
    filter_append t (map after bases) later ∙ ap (λ l. filter t (map after bases) ++ l) none_later ∙ append-nil (filter t (map after bases)) ∙ filter_all t (map after bases) (all_map (λ b. t b ≡ true) after bases each_open) in
    record {
      one = ap length same ∙ length-map bases after ∙ well.one;
      bases = subst (λ (l : List Base). AllByRecursion (λ b. AreSized n b.blocks) l) (sym same)
          (all_map (λ b. AreSized n b.blocks) after bases (all_then (λ b. AreSized n b.blocks) (λ b. AreSized n (after b).blocks) (λ b sized. after_sized shape n b gone sized (gone_write n at held kept well)) bases well.bases));
      parts = all_filter (λ rec. rec.header.session ≡ held.session → WritesSized n rec) (λ rec. not (is_folded held at rec)) held.parts well.parts;
    }

folds_on : (shape : Shape) (n at : ℕ) (held : Held) (parts : List Record) → NoRuns held → FoldsWell n held → FoldsWell n (folded shape held at parts)
folds_on shape n at held [] kept well = well
folds_on shape n at held (first ∷ rest) kept well = fold_of_some shape n at held first rest kept well

pub kept_no_runs : (held : Held) → CanBeKept held → NoRuns held
kept_no_runs held kept = all_then IsPart (λ rec. rec.run ≡ None) (λ rec part. part.ranges.no_run) held.parts kept.parts

pub fold_well : (shape : Shape) (n at : ℕ) (held : Held) → NoRuns held → FoldsWell n held → FoldsWell n (changed shape held (FoldsTo at))
unfolding changed
fold_well shape n at held kept well = folds_on shape n at held (filter (λ rec. is_folded held at rec) held.parts) kept well
