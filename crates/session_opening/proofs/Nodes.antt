-- The nodes of a volume, and lists that are filtered.
use Rattle.std.proofs.Common.{◌≡◌, ◌∙◌, ℕ, ◌+◌, ◌<◌, Bool, true, false, ◌&&◌, cond, List, [], ◌∷◌, ◌++◌, map, refl, sym, ap, ap₂, arith, append_assoc, append-nil}
use Rattle.std.specs.Prelude.{flat_map, filter}
use Rattle.std.specs.List.{AllByRecursion, list_all, range_with_len}
use Rattle.std.proofs.lemmas.List.{map-append}
use Rattle.std.proofs.lemmas.List.Elements.{filter-append}
use Rattle.std.proofs.lemmas.Grind.{flat_map-append}
use Rattle.std.proofs.lemmas.List.FromFn.{map-range_with_len_more}
use Rattle.salus_types.specs.Volume.{Shape, regions}
use Rattle.schedule_text.specs.Limits.{IsOfVolume}
use Rattle.volume_model.specs.Contents.{all_regions}
use Rattle.volume_model.specs.Groups.{group_of, all_nodes}
use Rattle.list_lemmas.proofs.Each.{all_map, all_then, flat_of_all, each_below}

-- ---- lists

pub all_same_on : {A : Type 0} (P : A → Type 0) (f g : A → Bool) (xs : List A) → AllByRecursion P xs → ((x : A) → P x → f x ≡ g x) → list_all f xs ≡ list_all g xs
all_same_on P f g [] each same = refl
all_same_on P f g (x ∷ xs) each same = ap₂ (λ a b. a && b) (same x each.0) (all_same_on P f g xs each.1 same)

pub filter_same_on : {A : Type 0} (P : A → Type 0) (f g : A → Bool) (xs : List A) → AllByRecursion P xs → ((x : A) → P x → f x ≡ g x) → filter f xs ≡ filter g xs
filter_same_on P f g [] each same = refl
filter_same_on P f g (x ∷ xs) each same = ap₂ (λ t l. cond t (x ∷ l) l) (same x each.0) (filter_same_on P f g xs each.1 same)

pub filter_flat : {A B : Type 0} (p : B → Bool) (f : A → List B) (xs : List A) → filter p (flat_map f xs) ≡ flat_map (λ x. filter p (f x)) xs
filter_flat p f [] = refl
filter_flat p f (x ∷ xs) = filter-append p (f x) (flat_map f xs) ∙ ap (λ l. filter p (f x) ++ l) (filter_flat p f xs)

pub filter_mapped : {A B : Type 0} (p : B → Bool) (f : A → B) (xs : List A) → filter p (map f xs) ≡ map f (filter (λ x. p (f x)) xs)
filter_mapped p f [] = refl
filter_mapped p f (x ∷ xs) = by_one (p (f x)) (filter_mapped p f xs) where
  by_one : (t : Bool) → filter p (map f xs) ≡ map f (filter (λ y. p (f y)) xs)
      → cond t (f x ∷ filter p (map f xs)) (filter p (map f xs)) ≡ map f (cond t (x ∷ filter (λ y. p (f y)) xs) (filter (λ y. p (f y)) xs))
  by_one true rest = ap (λ l. f x ∷ l) rest
  by_one false rest = rest

pub filter_whole : {A : Type 0} (p : A → Bool) (xs : List A) → ((x : A) → p x ≡ true) → filter p xs ≡ xs
filter_whole p [] each = refl
filter_whole p (x ∷ xs) each = ap₂ (λ t l. cond t (x ∷ l) l) (each x) (filter_whole p xs each)

pub map_map : {X Y Z : Type 0} (f : Y → Z) (g : X → Y) (xs : List X) → map f (map g xs) ≡ map (λ x. f (g x)) xs
map_map f g [] = refl
map_map f g (x ∷ xs) = ap (λ l. f (g x) ∷ l) (map_map f g xs)

pub flat_same_on : {A B : Type 0} (P : A → Type 0) (f g : A → List B) (xs : List A) → AllByRecursion P xs → ((x : A) → P x → f x ≡ g x) → flat_map f xs ≡ flat_map g xs
flat_same_on P f g [] each same = refl
flat_same_on P f g (x ∷ xs) each same = ap₂ (λ a b. a ++ b) (same x each.0) (flat_same_on P f g xs each.1 same)

map_id : (xs : List ℕ) → map (λ x. x) xs ≡ xs
map_id [] = refl
map_id (x ∷ xs) = ap (λ l. x ∷ l) (map_id xs)

pub range_more : (n : ℕ) → range_with_len 0 (n + 1) ≡ range_with_len 0 n ++ n ∷ []
range_more n = sym (map_id (range_with_len 0 (n + 1))) ∙ map-range_with_len_more (λ x. x) 0 n n (omega arith) ∙ ap (λ l. l ++ n ∷ []) (map_id (range_with_len 0 n))

-- one more, where it passes
module _ {A B : Type 0} (test : A → Bool) (f : A → B) (name : ℕ → A) (before now new : List B) where
  pub passed_more : (n : ℕ) → now ≡ before ++ map f (filter test (map name (range_with_len 0 n))) → new ≡ now ++ map f (filter test (name n ∷ []))
      → new ≡ before ++ map f (filter test (map name (range_with_len 0 (n + 1))))
  passed_more n is more =
      let grown : filter test (map name (range_with_len 0 (n + 1))) ≡ filter test (map name (range_with_len 0 n)) ++ filter test (name n ∷ []) =
      ap (filter test) (map-range_with_len_more name 0 n n (omega arith)) ∙ filter-append test (map name (range_with_len 0 n)) (name n ∷ []) in
      more ∙ ap (λ l. l ++ map f (filter test (name n ∷ []))) is ∙ append_assoc before (map f (filter test (map name (range_with_len 0 n)))) (map f (filter test (name n ∷ [])))
      ∙ ap (λ l. before ++ l) (sym (ap (map f) grown ∙ map-append f (filter test (map name (range_with_len 0 n))) (filter test (name n ∷ []))))

-- one more group
pub groups_more : {A B : Type 0} (group : ℕ → List A) (f : A → B) (before now new : List B) (n : ℕ) → now ≡ before ++ map f (flat_map group (range_with_len 0 n)) → new ≡ now ++ map f (group n)
    → new ≡ before ++ map f (flat_map group (range_with_len 0 (n + 1)))
groups_more group f before now new n is more =
    let grown : flat_map group (range_with_len 0 (n + 1)) ≡ flat_map group (range_with_len 0 n) ++ group n =
    ap (λ l. flat_map group l) (range_more n) ∙ flat_map-append group (range_with_len 0 n) (n ∷ []) ∙ ap (λ l. flat_map group (range_with_len 0 n) ++ l) (append-nil (group n)) in
    more ∙ ap (λ l. l ++ map f (group n)) is ∙ append_assoc before (map f (flat_map group (range_with_len 0 n))) (map f (group n))
    ∙ ap (λ l. before ++ l) (sym (ap (λ l. map f l) grown ∙ map-append f (flat_map group (range_with_len 0 n)) (group n)))

-- ---- nodes

module _ (shape : Shape) where
  pub each_region : AllByRecursion (λ g. g < regions shape) (all_regions shape)
  each_region = each_below (regions shape) 0 (regions shape) (omega arith)

  pub group_within : (g : ℕ) → g < regions shape → AllByRecursion (IsOfVolume shape) (group_of shape g)
  group_within g inside =
      all_map (IsOfVolume shape) (λ r. record { region = g; replica = r }) (range_with_len 0 shape.replicas)
      (all_then (λ r. r < shape.replicas) (λ r. IsOfVolume shape (record { region = g; replica = r })) (λ r low. (inside, low)) (range_with_len 0 shape.replicas) (each_below shape.replicas 0 shape.replicas (omega arith)))

  pub nodes_within : AllByRecursion (IsOfVolume shape) (all_nodes shape)
  nodes_within =
      flat_of_all (IsOfVolume shape) (λ g. group_of shape g) (all_regions shape)
      (all_then (λ g. g < regions shape) (λ g. AllByRecursion (IsOfVolume shape) (group_of shape g)) (λ g inside. group_within g inside) (all_regions shape) each_region)
