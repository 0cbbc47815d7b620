-- Blocks of the volume's length, and the numbers and nodes of a volume.
use Rattle.std.proofs.Common.{◌≡◌, ◌∙◌, ⊎_elim, ℕ, zero, suc, ◌+◌, ◌*◌, ◌^◌, ◌<◌, ◌≤◌, List, [], ◌∷◌, ◌++◌, map, take, drop, length, replicate, get_or, Option, None, Some, refl, sym, ap, subst, arith}
use Rattle.std.specs.Prelude.{slice_index, slice_set, flat_map, filter, filter_map, Bool, true, false, cond}
use Rattle.std.specs.List.{AllByRecursion, range_with_len, cons_option}
use Rattle.std.proofs.lemmas.List.{length-replicate}
use Rattle.std.proofs.lemmas.Nat.{pow_pos}
use Rattle.std.proofs.Math.Pow.{pow_mono}
use Rattle.salus_types.specs.Volume.{Shape, regions, region_blocks, blocks, IsVolume}
use Rattle.salus_types.specs.declared.records.Write.{Write}
use Rattle.salus_types.specs.declared.names.NodeName.{NodeName}
use Rattle.client_tag.specs.Ranges.{AreBlocks}
use Rattle.schedule_text.specs.Limits.{IsOfVolume}
use Rattle.volume_model.specs.Contents.{Batch, all_regions, zero_contents, apply, blocks_in}
use Rattle.volume_model.specs.Groups.{group_of, all_nodes}
use Rattle.list_lemmas.proofs.Each.{all_map, all_then, OfSome, flat_of_all, each_below, each_replicate}
use Rattle.law_shown.proofs.Rereading.{sized_blocks}

-- ---- lists

pub each_take : {A : Type 0} (P : A → Type 0) (n : ℕ) (xs : List A) → AllByRecursion P xs → AllByRecursion P (take n xs)
each_take P zero xs all = tt
each_take P (suc n) [] all = tt
each_take P (suc n) (x ∷ xs) all = (all.0, each_take P n xs all.1)

pub each_drop : {A : Type 0} (P : A → Type 0) (n : ℕ) (xs : List A) → AllByRecursion P xs → AllByRecursion P (drop n xs)
each_drop P zero xs all = all
each_drop P (suc n) [] all = tt
each_drop P (suc n) (x ∷ xs) all = each_drop P n xs all.1

pub each_set : {A : Type 0} (P : A → Type 0) (xs : List A) (i : ℕ) (y : A) → AllByRecursion P xs → P y → AllByRecursion P (slice_set xs i y)
each_set P [] i y all one = tt
each_set P (x ∷ xs) zero y all one = (one, all.1)
each_set P (x ∷ xs) (suc i) y all one = (all.0, each_set P xs i y all.1 one)

-- an element, or 0 where there is none
pub at_index : (P : ℕ → Type 0) (xs : List ℕ) (i : ℕ) → P 0 → AllByRecursion P xs → P (slice_index xs i)
at_index P [] i none all = none
at_index P (x ∷ xs) zero none all = all.0
at_index P (x ∷ xs) (suc i) none all = at_index P xs i none all.1

pub each_mapped : {A B : Type 0} (P : B → Type 0) (Q : A → Type 0) (f : A → Option B) (xs : List A) → AllByRecursion Q xs → ((x : A) → Q x → OfSome P (f x)) → AllByRecursion P (filter_map f xs)
each_mapped P Q f [] all each = tt
each_mapped P Q f (x ∷ xs) all each = with_one (f x) (filter_map f xs) (each x all.0) (each_mapped P Q f xs all.1 each) where
  with_one : (o : Option _) (ys : List _) → OfSome P o → AllByRecursion P ys → AllByRecursion P (cons_option o ys)
  with_one None ys none rest = rest
  with_one (Some y) ys one rest = (one, rest)

pub few_pass : {A : Type 0} (test : A → Bool) (xs : List A) → length (filter test xs) ≤ length xs
few_pass test [] = omega arith
few_pass test (x ∷ xs) = picked (test x) (filter test xs) (few_pass test xs) where
  picked : (b : Bool) (ys : List _) → length ys ≤ length xs → length (cond b (x ∷ ys) ys) ≤ suc (length xs)
  picked true ys low = omega (arith, low)
  picked false ys low = omega (arith, low)

-- ---- the volume

module _ (shape : Shape) where
  -- blocks of the volume's length
  abbrev pub Sized : List (List ℕ) → Type 0
  Sized contents = AllByRecursion (λ x. length x ≡ shape.block) contents

  -- a write of the volume's blocks
  abbrev pub BatchSized : Batch → Type 0
  BatchSized batch = AllByRecursion (λ w. length w.bytes ≡ shape.block) batch

  pub apply_sized : (batch : Batch) (contents : List (List ℕ)) → BatchSized batch → Sized contents → Sized (apply contents batch)
  unfolding apply
  apply_sized [] contents batch all = all
  apply_sized (w ∷ batch) contents each all = apply_sized batch (slice_set contents w.block w.bytes) each.1 (each_set (λ x. length x ≡ shape.block) contents w.block w.bytes all each.0)

module _ (shape : Shape) (limits : IsVolume shape) where
  pub few_regions : regions shape ≤ 16
  few_regions = pow_mono limits.few_regions

  pub some_regions : 1 ≤ regions shape
  some_regions = pow_pos shape.regions_log

  pub few_places : region_blocks shape ≤ 1024
  few_places = pow_mono limits.low

  pub few_blocks : blocks shape ≤ 16384
  few_blocks = product (regions shape) (region_blocks shape) few_regions few_places where
    times : (a b : ℕ) → b ≤ 1024 → a * b ≤ a * 1024
    times zero b low = omega arith
    times (suc a) b low = let rest = times a b low in omega (arith, low, rest)

    product : (a b : ℕ) → a ≤ 16 → b ≤ 1024 → a * b ≤ 16384
    product a b few low = let rest = times a b low in omega (arith, few, rest)

  pub each_region : AllByRecursion (λ g. g < regions shape) (all_regions shape)
  each_region = each_below (regions shape) 0 (regions shape) (omega arith)

  pub zero_sized : Sized shape (zero_contents shape)
  zero_sized = each_replicate (λ x. length x ≡ shape.block) (blocks shape) (replicate shape.block 0) (length-replicate shape.block 0)

  -- the blocks of a region have a spelling
  pub region_spelled : (contents : List (List ℕ)) (g : ℕ) → Sized shape contents → AreBlocks (blocks_in shape contents g)
  region_spelled contents g all =
      let low : region_blocks shape ≤ 1024 = few_places in
      let n : ℕ = g * region_blocks shape in
      sized_blocks shape limits (blocks_in shape contents g) (omega (arith, low, short (region_blocks shape) (drop n contents)))
      (each_take (λ x. length x ≡ shape.block) (region_blocks shape) (drop n contents) (each_drop (λ x. length x ≡ shape.block) n contents all))
    where
      short : {A : Type 0} (n : ℕ) (xs : List A) → length (take n xs) ≤ n
      short zero xs = omega arith
      short (suc n) [] = omega arith
      short (suc n) (x ∷ xs) = let rest = short n xs in omega (arith, rest)

  -- ---- nodes

  pub group_within : (g : ℕ) → g < regions shape → AllByRecursion (IsOfVolume shape) (group_of shape g)
  group_within g inside =
      all_map (IsOfVolume shape) (λ r. record { region = g; replica = r }) (range_with_len 0 shape.replicas)
      (all_then (λ r. r < shape.replicas) (λ r. IsOfVolume shape (record { region = g; replica = r })) (λ r low. (inside, low)) (range_with_len 0 shape.replicas) (each_below shape.replicas 0 shape.replicas (omega arith)))

  pub nodes_within : AllByRecursion (IsOfVolume shape) (all_nodes shape)
  nodes_within =
      flat_of_all (IsOfVolume shape) (λ g. group_of shape g) (all_regions shape)
      (all_then (λ g. g < regions shape) (λ g. AllByRecursion (IsOfVolume shape) (group_of shape g)) (λ g inside. group_within g inside) (all_regions shape) each_region)
