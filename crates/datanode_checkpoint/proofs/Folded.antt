-- What is held after a fold: entries can carry it, and it begins with a base of the open session.
use Rattle.std.proofs.Common.{◌≡◌, ℕ, zero, suc, ◌+◌, ◌<◌, ◌≤◌, ◌==◌, ◌&&◌, not, Bool, true, false, nat_le, nat_lt, List, [], ◌∷◌, ◌++◌, length, map, filter, set, drop, get_or, if◌then◌else◌, Option, refl, sym, ◌∙◌, ap, subst, arith}
use Rattle.std.specs.List.{AllByRecursion, list_any}
use Rattle.std.proofs.lemmas.List.Elements.{All-from_recursion, recursion_from_All}
use Rattle.std.proofs.lemmas.Bool.{eqb-true}
use Rattle.std.proofs.lemmas.List.{drop_all}
use Rattle.salus_types.specs.Volume.{Shape}
use Rattle.salus_types.specs.declared.records.PlaceWrite.{PlaceWrite}
use Rattle.salus_types.specs.declared.records.Trim.{Trim}
use Rattle.salus_types.specs.declared.records.Record.{Record}
use Rattle.salus_types.specs.declared.records.Base.{Base}
use Rattle.salus_types.specs.declared.records.Held.{Held}
use Rattle.client_tag.specs.Spelling.{size_of}
use Rattle.client_tag.specs.Ranges.{IsBetween, AreBlocks}
use Rattle.holding_model.specs.Fitting.{blocks_written, blocks_zeroed}
use Rattle.holding_model.specs.Changing.{FoldsTo, changed, folded, is_folded, is_open_base, base_after, base_after_all, bases_folded}
use Rattle.datanode_store.specs.Meaning.{IsPart, IsBegun, CanBeKept}
use Rattle.datanode_store.proofs.Kept.{all_filter}
use Rattle.datanode_checkpoint.specs.Folds.{HasSize, open_bases, CanBeFolded, IsLed}
use Rattle.datanode_checkpoint.proofs.Lists.{drop_next, map_all, all_append, all_mapped, all_passed, all_test, none_passes, one_passes}

-- ---- the change

folded_some : (shape : Shape) (held : Held) (n : ℕ) (parts : List Record) → 0 < length parts
    → folded shape held n parts ≡ record { session = held.session; bases = bases_folded shape held n; parts = filter (λ rec. not (is_folded held n rec)) held.parts }
folded_some shape held n [] some = absurd (omega arith)
folded_some shape held n (rec ∷ parts) some = refl

pub folded_is : (shape : Shape) (held new : Held) (n : ℕ) → list_any (λ rec. is_folded held n rec) held.parts ≡ true → new.session ≡ held.session → new.bases ≡ bases_folded shape held n → new.parts ≡ filter (λ rec. not (is_folded held n rec)) held.parts
    → new ≡ changed shape held (FoldsTo n)
unfolding changed
folded_is shape held new n some session bases parts =
    (λ i. record { session = session i; bases = bases i; parts = parts i }) ∙ sym (folded_some shape held n (filter (λ rec. is_folded held n rec) held.parts) (one_passes (λ rec. is_folded held n rec) held.parts some))

pub folded_none : (shape : Shape) (held : Held) (n : ℕ) → list_any (λ rec. is_folded held n rec) held.parts ≡ false → changed shape held (FoldsTo n) ≡ held
unfolding changed
folded_none shape held n none = ap (λ (l : List Record). folded shape held n l) (none_passes (λ rec. is_folded held n rec) held.parts none)

-- ---- blocks of one size

record Sized (n : ℕ) (blocks : List (List ℕ)) : Type 0 where
  pub few : length blocks ≤ 4096
  pub some : 0 < length blocks
  pub size : IsBetween 1 4096 n
  pub each : AllByRecursion (λ block. length block ≡ n) blocks

all_set : {X : Type 0} (P : X → Type 0) (xs : List X) (i : ℕ) (v : X) → AllByRecursion P xs → P v → AllByRecursion P (set xs i v)
all_set P [] i v all is = tt
all_set P (x ∷ xs) zero v all is = (is, all.1)
all_set P (x ∷ xs) (suc i) v all is = (all.0, all_set P xs i v all.1 is)

length_set : {X : Type 0} (xs : List X) (i : ℕ) (v : X) → length (set xs i v) ≡ length xs
length_set [] i v = refl
length_set (x ∷ xs) zero v = refl
length_set (x ∷ xs) (suc i) v = ap suc (length_set xs i v)

sized_written : (n : ℕ) (blocks : List (List ℕ)) (writes : List PlaceWrite) → Sized n blocks → AllByRecursion (λ w. length w.bytes ≡ n) writes → Sized n (blocks_written blocks writes)
unfolding blocks_written
sized_written n blocks [] sized all = sized
sized_written n blocks (w ∷ writes) sized all =
    let long = length_set blocks w.place w.bytes in
    sized_written n (set blocks w.place w.bytes) writes (record {
      few = omega (arith, long, sized.few);
      some = omega (arith, long, sized.some);
      size = sized.size;
      each = all_set (λ block. length block ≡ n) blocks w.place w.bytes sized.each all.0;
    }) all.1

size_is : (n : ℕ) (blocks : List (List ℕ)) → Sized n blocks → size_of blocks ≡ n
size_is n [] sized = absurd (omega (arith, sized.some))
size_is n (block ∷ blocks) sized = sized.each.0

small_each : (n : ℕ) (blocks : List (List ℕ)) → IsBetween 1 4096 n → AllByRecursion (λ block. length block ≡ n) blocks → AllByRecursion (λ block. IsBetween 1 4096 (length block)) blocks
small_each n blocks size all = map_all (λ block. length block ≡ n) (λ block. IsBetween 1 4096 (length block)) (λ block is. (omega (arith, size.0, is), omega (arith, size.1, is))) blocks all

sized_blocks : (n : ℕ) (blocks : List (List ℕ)) → Sized n blocks → AreBlocks blocks
sized_blocks n blocks sized = record {
  few_blocks = sized.few;
  one_size = All-from_recursion (λ block. length block ≡ size_of blocks) blocks (subst (λ (m : ℕ). AllByRecursion (λ block. length block ≡ m) blocks) (sym (size_is n blocks sized)) sized.each);
  small_blocks = All-from_recursion (λ block. IsBetween 1 4096 (length block)) blocks (small_each n blocks sized.size sized.each);
}

first_size : (blocks : List (List ℕ)) → 0 < length blocks → AllByRecursion (λ block. IsBetween 1 4096 (length block)) blocks → IsBetween 1 4096 (size_of blocks)
first_size [] some all = absurd (omega arith)
first_size (block ∷ blocks) some all = all.0

blocks_sized : (blocks : List (List ℕ)) → 0 < length blocks → AreBlocks blocks → Sized (size_of blocks) blocks
blocks_sized blocks some are = record {
  few = are.few_blocks;
  some = some;
  size = first_size blocks some (recursion_from_All (λ block. IsBetween 1 4096 (length block)) blocks are.small_blocks);
  each = recursion_from_All (λ block. length block ≡ size_of blocks) blocks are.one_size;
}

-- ---- the base

-- a base that can be kept, with blocks of this size
record IsGrown (n : ℕ) (base : Base) : Type 0 where
  pub part : IsPart base.rec
  pub sized : Sized n base.blocks

grown_begun : (n : ℕ) (base : Base) → IsGrown n base → IsBegun base
grown_begun n base grown = record {
  ranges = record { its_record = grown.part.ranges; its_blocks = sized_blocks n base.blocks grown.sized };
  typed = grown.part.typed;
  blocks = grown.sized.some;
}

abbrev Grows : ℕ → Record → Type 0
Grows n rec = IsPart rec × AllByRecursion (λ w. length w.bytes ≡ n) rec.writes

grown_after : (shape : Shape) (n : ℕ) (base : Base) (rec : Record) → IsGrown n base → Grows n rec → IsGrown n (base_after shape base rec)
grown_after shape n base rec grown grows = record {
  part = grows.0;
  sized = subst (λ (run : Option Trim). Sized n (blocks_zeroed shape (blocks_written base.blocks rec.writes) run)) (sym grows.0.ranges.no_run) (sized_written n base.blocks rec.writes grown.sized grows.1);
}

grown_all : (shape : Shape) (n : ℕ) (base : Base) (parts : List Record) → IsGrown n base → AllByRecursion (Grows n) parts → IsGrown n (base_after_all shape base parts)
unfolding base_after_all
grown_all shape n base [] grown all = grown
grown_all shape n base (rec ∷ parts) grown all = grown_all shape n (base_after shape base rec) parts (grown_after shape n base rec grown all.0) all.1

session_all : (shape : Shape) (session : ℕ) (base : Base) (parts : List Record) → base.rec.header.session ≡ session → AllByRecursion (λ rec. rec.header.session ≡ session) parts → (base_after_all shape base parts).rec.header.session ≡ session
unfolding base_after_all
session_all shape session base [] is all = is
session_all shape session base (rec ∷ parts) is all = session_all shape session (base_after shape base rec) parts all.0 all.1

-- ---- the whole

both_true : (a b : Bool) → (a && b) ≡ true → a ≡ true
both_true true b is = refl
both_true false b is = is

pub open_session : (held : Held) (n : ℕ) (rec : Record) → is_folded held n rec ≡ true → rec.header.session ≡ held.session
open_session held n rec is = eqb-true rec.header.session held.session (both_true (rec.header.session == held.session) (nat_le rec.header.seq n) is)

grows_each : (held : Held) (n : ℕ) (base : Base) (parts : List Record) → AllByRecursion IsPart parts → AllByRecursion (λ rec. rec.header.session ≡ held.session → HasSize base rec) parts → AllByRecursion (λ rec. is_folded held n rec ≡ true → Grows (size_of base.blocks) rec) parts
grows_each held n base [] can sizes = tt
grows_each held n base (rec ∷ parts) can sizes = (λ is. (can.0, sizes.0 (open_session held n rec is)), grows_each held n base parts can.1 sizes.1)

begun_each : (shape : Shape) (held : Held) (n : ℕ) → AllByRecursion IsPart held.parts → (bases : List Base) → AllByRecursion IsBegun bases → AllByRecursion (λ base. AllByRecursion (λ rec. rec.header.session ≡ held.session → HasSize base rec) held.parts) bases
    → AllByRecursion (λ base. IsBegun (base_after_all shape base (filter (λ rec. is_folded held n rec) held.parts))) bases
begun_each shape held n can [] begun sizes = tt
begun_each shape held n can (base ∷ bases) begun sizes = (
  let size = size_of base.blocks in
      let b = begun.0 in
      let grown : IsGrown size base = record { part = record { ranges = b.ranges.its_record; typed = b.typed }; sized = blocks_sized base.blocks b.blocks b.ranges.its_blocks } in
      let parts = filter (λ rec. is_folded held n rec) held.parts in
      grown_begun size (base_after_all shape base parts) (grown_all shape size base parts grown (all_passed (Grows size) (λ rec. is_folded held n rec) held.parts (grows_each held n base held.parts can sizes.0))),
  begun_each shape held n can bases begun.1 sizes.1,
)

pub bases_begun : (shape : Shape) (held : Held) (n : ℕ) → CanBeKept held → CanBeFolded held → AllByRecursion IsBegun (bases_folded shape held n)
bases_begun shape held n can foldable =
    let f = λ (base : Base). base_after_all shape base (filter (λ rec. is_folded held n rec) held.parts) in
    all_append IsBegun (map f (open_bases held)) (filter (λ base. nat_lt held.session base.rec.header.session) held.bases)
    (all_mapped f IsBegun (open_bases held) (begun_each shape held n can.parts (open_bases held) (all_filter IsBegun (λ base. is_open_base held base) held.bases can.bases) foldable.sizes))
    (all_filter IsBegun (λ base. nat_lt held.session base.rec.header.session) held.bases can.bases)

pub folded_kept : (shape : Shape) (held new : Held) (n : ℕ) → CanBeKept held → CanBeFolded held → new.bases ≡ bases_folded shape held n → new.parts ≡ filter (λ rec. not (is_folded held n rec)) held.parts → CanBeKept new
folded_kept shape held new n can foldable bases parts = record {
  bases = subst (λ (l : List Base). AllByRecursion IsBegun l) (sym bases) (bases_begun shape held n can foldable);
  parts = subst (λ (l : List Record). AllByRecursion IsPart l) (sym parts) (all_filter IsPart (λ rec. not (is_folded held n rec)) held.parts can.parts);
}

-- a list of one
led_by : (shape : Shape) (new : Held) (session : ℕ) (parts : List Record) (bases later : List Base) → length bases ≡ 1 → AllByRecursion (λ base. base.rec.header.session ≡ session) bases → AllByRecursion (λ rec. rec.header.session ≡ session) parts → new.session ≡ session
    → new.bases ≡ map (λ base. base_after_all shape base parts) bases ++ later → IsLed new
led_by shape new session parts [] later one opens folds is bases_are = absurd (omega (arith, one))
led_by shape new session parts (base ∷ bases) later one opens folds is bases_are =
    let first = base_after_all shape base parts in
    let there : first.rec.header.session ≡ session = session_all shape session base parts opens.0 folds in
    record { first = first; more = map (λ b. base_after_all shape b parts) bases ++ later; bases_are = bases_are; session = omega (arith, there, is) }

opens_each : (held : Held) (bases : List Base) → AllByRecursion (λ base. is_open_base held base ≡ true) bases → AllByRecursion (λ base. base.rec.header.session ≡ held.session) bases
opens_each held bases all = map_all (λ base. is_open_base held base ≡ true) (λ base. base.rec.header.session ≡ held.session) (λ base is. eqb-true base.rec.header.session held.session is) bases all

folds_each : (held : Held) (n : ℕ) (parts : List Record) → AllByRecursion (λ rec. is_folded held n rec ≡ true) parts → AllByRecursion (λ rec. rec.header.session ≡ held.session) parts
folds_each held n parts all = map_all (λ rec. is_folded held n rec ≡ true) (λ rec. rec.header.session ≡ held.session) (λ rec is. open_session held n rec is) parts all

pub folded_led : (shape : Shape) (held new : Held) (n : ℕ) → CanBeFolded held → new.session ≡ held.session → new.bases ≡ bases_folded shape held n → IsLed new
folded_led shape held new n foldable session bases =
    led_by shape new held.session (filter (λ rec. is_folded held n rec) held.parts) (open_bases held) (filter (λ base. nat_lt held.session base.rec.header.session) held.bases) foldable.one
    (opens_each held (open_bases held) (all_test (λ base. is_open_base held base) held.bases))
    (folds_each held n (filter (λ rec. is_folded held n rec) held.parts) (all_test (λ rec. is_folded held n rec) held.parts))
    session bases

-- any shape does
pub some_shape : Shape
some_shape = record { regions_log = 0; height = 0; block = 0; replicas = 0 }

-- ---- one after the other

pub written_next : (blocks next whole : List (List ℕ)) (writes : List PlaceWrite) (i : ℕ) (w : PlaceWrite) → i < length writes → w ≡ get_or writes i w
    → next ≡ set blocks w.place w.bytes → blocks_written blocks (drop i writes) ≡ whole → blocks_written next (drop (i + 1) writes) ≡ whole
unfolding blocks_written
written_next blocks next whole writes i w inside is step so_far =
    ap (λ (b : List (List ℕ)). blocks_written b (drop (i + 1) writes)) step ∙ sym (ap (λ (l : List PlaceWrite). blocks_written blocks l) (drop_next writes i w inside is)) ∙ so_far

pub written_end : (blocks whole : List (List ℕ)) (writes : List PlaceWrite) (i : ℕ) → length writes ≤ i → blocks_written blocks (drop i writes) ≡ whole → blocks ≡ whole
unfolding blocks_written
written_end blocks whole writes i end so_far = sym (ap (λ (l : List PlaceWrite). blocks_written blocks l) (drop_all i writes end)) ∙ so_far

after_cond : (shape : Shape) (base : Base) (rec : Record) (parts : List Record) (b : Bool)
    → base_after_all shape (if b then base_after shape base rec else base) parts ≡ base_after_all shape base (if b then rec ∷ parts else parts)
unfolding base_after_all
after_cond shape base rec parts true = refl
after_cond shape base rec parts false = refl

pub base_next : (shape : Shape) (test : Record → Bool) (base next whole : Base) (parts : List Record) (i : ℕ) (rec : Record) → i < length parts → rec ≡ get_or parts i rec
    → next ≡ (if test rec then base_after shape base rec else base) → base_after_all shape base (filter test (drop i parts)) ≡ whole → base_after_all shape next (filter test (drop (i + 1) parts)) ≡ whole
base_next shape test base next whole parts i rec inside is step so_far =
    ap (λ (b : Base). base_after_all shape b (filter test (drop (i + 1) parts))) step
    ∙ after_cond shape base rec (filter test (drop (i + 1) parts)) (test rec)
    ∙ sym (ap (λ (l : List Record). base_after_all shape base (filter test l)) (drop_next parts i rec inside is))
    ∙ so_far

pub base_end : (shape : Shape) (test : Record → Bool) (base whole : Base) (parts : List Record) (i : ℕ) → length parts ≤ i → base_after_all shape base (filter test (drop i parts)) ≡ whole → base ≡ whole
unfolding base_after_all
base_end shape test base whole parts i end so_far = sym (ap (λ (l : List Record). base_after_all shape base (filter test l)) (drop_all i parts end)) ∙ so_far

-- ---- the test

pub sizes_open : (held : Held) (Q : Base → Type 0) (bases : List Base) → AllByRecursion (λ base. base.rec.header.session ≡ held.session → Q base) bases → AllByRecursion Q (filter (λ base. is_open_base held base) bases)
sizes_open held Q bases all =
    all_passed Q (λ base. is_open_base held base) bases (map_all (λ base. base.rec.header.session ≡ held.session → Q base) (λ base. is_open_base held base ≡ true → Q base) (λ base has is. has (eqb-true base.rec.header.session held.session is)) bases all)
