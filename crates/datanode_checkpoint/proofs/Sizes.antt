-- What can be folded, by tests that compute.
use Rattle.std.proofs.Common.{◌≡◌, ◌==◌, ◌||◌, ◌&&◌, not, Bool, true, false, ℕ, List, [], ◌∷◌, length, filter, refl, sym, subst, eq-eqb}
use Rattle.std.specs.List.{AllByRecursion, list_all}
use Rattle.std.proofs.lemmas.Bool.{cond-true, cond-false, eqb-true}
use Rattle.salus_types.specs.declared.records.PlaceWrite.{PlaceWrite}
use Rattle.salus_types.specs.declared.records.Record.{Record}
use Rattle.salus_types.specs.declared.records.Base.{Base}
use Rattle.salus_types.specs.declared.records.Held.{Held}
use Rattle.client_tag.specs.Spelling.{size_of}
use Rattle.holding_model.specs.Changing.{is_open_base}
use Rattle.datanode_checkpoint.specs.Folds.{HasSize, part_fits, base_fits, open_bases, CanBeFolded}
use Rattle.datanode_checkpoint.proofs.Lists.{by_bool}
use Rattle.datanode_checkpoint.proofs.Folded.{sizes_open}

-- ---- tests

both : (a b : Bool) → a ≡ true → b ≡ true → (a && b) ≡ true
both true b first rest = rest
both false b first rest = cc

first_of_both : (a b : Bool) → (a && b) ≡ true → a ≡ true
first_of_both true b is = refl
first_of_both false b is = cc

rest_of_both : (a b : Bool) → (a && b) ≡ true → b ≡ true
rest_of_both true b is = is
rest_of_both false b is = cc

where_so : (a b : Bool) → a ≡ true → (not a || b) ≡ true → b ≡ true
where_so true b so is = is
where_so false b so is = cc

unless : (a b : Bool) → (a ≡ true → b ≡ true) → (not a || b) ≡ true
unless true b then = then refl
unless false b then = refl

all_from : {X : Type 0} (p : X → Bool) (P : X → Type 0) → ((x : X) → p x ≡ true → P x) → (xs : List X) → list_all p xs ≡ true → AllByRecursion P xs
all_from p P f [] is = tt
all_from p P f (x ∷ xs) is = (f x (first_of_both (p x) (list_all p xs) is), all_from p P f xs (rest_of_both (p x) (list_all p xs) is))

all_to : {X : Type 0} (p : X → Bool) (P : X → Type 0) → ((x : X) → P x → p x ≡ true) → (xs : List X) → AllByRecursion P xs → list_all p xs ≡ true
all_to p P f [] all = refl
all_to p P f (x ∷ xs) all = both (p x) (list_all p xs) (f x all.0) (all_to p P f xs all.1)

-- what holds of those that pass
kept_to : {X : Type 0} (test p : X → Bool) (P : X → Type 0) → ((x : X) → P x → p x ≡ true) → (xs : List X) → AllByRecursion P (filter test xs) → list_all (λ x. not (test x) || p x) xs ≡ true
kept_to test p P f [] all = refl
kept_to {X = X} test p P f (x ∷ xs) all =
    let rest = list_all (λ y. not (test y) || p y) xs in
    by_bool (test x) (((not (test x) || p x) && rest) ≡ true)
    (λ is.
    let these = subst (λ (l : List X). AllByRecursion P l) (cond-true (test x) (x ∷ filter test xs) (filter test xs) is) all in
    both (not (test x) || p x) rest (unless (test x) (p x) (λ so. f x these.0)) (kept_to test p P f xs these.1))
    (λ other.
    let these = subst (λ (l : List X). AllByRecursion P l) (cond-false (test x) (x ∷ filter test xs) (filter test xs) other) all in
    both (not (test x) || p x) rest (unless (test x) (p x) (λ so. cc)) (kept_to test p P f xs these))

-- ---- sizes

part_from : (session size : ℕ) (rec : Record) → part_fits session size rec ≡ true → rec.header.session ≡ session → AllByRecursion (λ w. length w.bytes ≡ size) rec.writes
part_from session size rec is same =
    all_from (λ (w : PlaceWrite). length w.bytes == size) (λ w. length w.bytes ≡ size) (λ w so. eqb-true (length w.bytes) size so) rec.writes
    (where_so (rec.header.session == session) (list_all (λ w. length w.bytes == size) rec.writes) (eq-eqb rec.header.session session same) is)

part_to : (session size : ℕ) (rec : Record) → (rec.header.session ≡ session → AllByRecursion (λ w. length w.bytes ≡ size) rec.writes) → part_fits session size rec ≡ true
part_to session size rec f =
    unless (rec.header.session == session) (list_all (λ w. length w.bytes == size) rec.writes)
    (λ so. all_to (λ (w : PlaceWrite). length w.bytes == size) (λ w. length w.bytes ≡ size) (λ w is. eq-eqb (length w.bytes) size is) rec.writes (f (eqb-true rec.header.session session so)))

-- the parts of the open session have blocks as long as those of the base
abbrev Fits : Held → Base → Type 0
Fits held base = AllByRecursion (λ rec. rec.header.session ≡ held.session → HasSize base rec) held.parts

base_from : (held : Held) (base : Base) → base_fits held base ≡ true → base.rec.header.session ≡ held.session → Fits held base
base_from held base is same =
    let fits = λ (rec : Record). part_fits held.session (size_of base.blocks) rec in
    all_from fits (λ rec. rec.header.session ≡ held.session → HasSize base rec) (λ rec so. part_from held.session (size_of base.blocks) rec so) held.parts
    (where_so (is_open_base held base) (list_all fits held.parts) (eq-eqb base.rec.header.session held.session same) is)

parts_to : (held : Held) (base : Base) → Fits held base → list_all (λ rec. part_fits held.session (size_of base.blocks) rec) held.parts ≡ true
parts_to held base fits =
    all_to (λ (rec : Record). part_fits held.session (size_of base.blocks) rec) (λ rec. rec.header.session ≡ held.session → HasSize base rec) (λ rec f. part_to held.session (size_of base.blocks) rec f) held.parts fits

pub foldable_from : (held : Held) → length (open_bases held) ≡ 1 → list_all (λ base. base_fits held base) held.bases ≡ true → CanBeFolded held
foldable_from held one is = record {
  one = one;
  sizes = sizes_open held (Fits held) held.bases (all_from (λ (base : Base). base_fits held base) (λ base. base.rec.header.session ≡ held.session → Fits held base) (λ base so. base_from held base so) held.bases is);
}

pub foldable_to : (held : Held) → CanBeFolded held → list_all (λ base. base_fits held base) held.bases ≡ true
foldable_to held foldable =
    kept_to (λ (base : Base). is_open_base held base) (λ base. list_all (λ rec. part_fits held.session (size_of base.blocks) rec) held.parts) (Fits held) (λ base fits. parts_to held base fits) held.bases foldable.sizes
