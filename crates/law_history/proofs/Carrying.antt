-- A good answer carries the block of the array.
use Rattle.std.proofs.Common.{◌≡◌, ℕ, ◌+◌, ◌*◌, ◌<◌, ◌∙◌, true, nat_lt, List, length, get_or, take, slice_get, Some, inl, inr, ap, sym, subst, arith}
use Rattle.std.proofs.lemmas.Bool.{cond_both}
use Rattle.std.proofs.lemmas.List.{take_all}
use Rattle.std.proofs.lemmas.Nat.{pow_pos}
use Rattle.std.proofs.lemmas.Option.{slice_get-get_or, get_or_from_slice_get}
use native.Mathlib.Nat.{mod-lt, div-add-mod'}
use Rattle.salus_types.specs.Volume.{Shape, regions, region_blocks, blocks}
use Rattle.merkle_region.specs.Tree.{tree_strings, path_strings, verified, IsAmong, NoTwoCollide}
use Rattle.merkle_region.proofs.Membership.{among_either, none-within}
use Rattle.merkle_region.proofs.Carried.{carried}
use Rattle.merkle_region.proofs.Tested.{verified-Decides}
use Rattle.salus_message.specs.declared.replies.Answer.{Answer}
use Rattle.volume_model.specs.Contents.{region_of, place_of, blocks_in, fold_batches}
use Rattle.volume_model.specs.Parts.{contents_after}
use Rattle.salus_model.specs.Judge.{Judge, array, last_number}
use Rattle.salus_model.specs.Answering.{Verdict, Stale, Good, present_number, present_root, verdict_present, verdict_at, verdict_of}
use Rattle.law_lemmas.proofs.Regional.{length-blocks_in, blocks_in-at, in_region}
use Rattle.law_lemmas.proofs.Numbered.{IsSized, length-fold_batches}
use Rattle.law_history.proofs.Chosen.{HasContents}

-- ---- a good verdict

good_present : (shape : Shape) (root : List ℕ) (a : Answer) → verdict_present shape root a ≡ Good → verified root shape.height (place_of shape a.block) a.bytes a.path ≡ true
good_present shape root a e =
    cond_both {A = Verdict} (verified root shape.height (place_of shape a.block) a.bytes a.path) Good _
    (λ v. v ≡ Good → verified root shape.height (place_of shape a.block) a.bytes a.path ≡ true)
    (λ t same. t) (λ t same. absurd (cc)) e

good_at : (shape : Shape) (root : List ℕ) (number : ℕ) (a : Answer) → verdict_at shape root number a ≡ Good
    → verified root shape.height (place_of shape a.block) a.bytes a.path ≡ true
good_at shape root number a e =
    cond_both {A = Verdict} (nat_lt a.at number) Stale _
    (λ v. v ≡ Good → verified root shape.height (place_of shape a.block) a.bytes a.path ≡ true)
    (λ t same. absurd (cc))
    (λ t. cond_both {A = Verdict} (nat_lt number a.at) _ (verdict_present shape root a)
    (λ v. v ≡ Good → verified root shape.height (place_of shape a.block) a.bytes a.path ≡ true)
    (λ u same. absurd (cc)) (λ u same. good_present shape root a same)) e

-- ---- the block

module _ (shape : Shape) (judge : Judge) (sized : IsSized shape judge.now) where
  length-array : length (array judge) ≡ blocks shape
  length-array = length-fold_batches judge.now.list judge.now.origin ∙ sized.long

  array-all : contents_after judge.now (last_number judge) ≡ array judge
  array-all = let all : take (length judge.now.list) judge.now.list ≡ judge.now.list = take_all (length judge.now.list) judge.now.list (omega arith) in
      ap (λ l. fold_batches judge.now.origin l) all

  block_there : (b : ℕ) (bytes : List ℕ) → b < blocks shape → slice_get (blocks_in shape (array judge) (region_of shape b)) (place_of shape b) ≡ Some bytes
      → slice_get (array judge) b ≡ Some bytes
  block_there b bytes inside found =
      let low : place_of shape b < region_blocks shape = mod-lt b (pow_pos shape.height) in
      let whole : region_of shape b * region_blocks shape + place_of shape b ≡ b = div-add-mod' b (region_blocks shape) in
      let long = length-array in
      let same : get_or (array judge) b bytes ≡ bytes =
      ap (λ i. get_or (array judge) i bytes) (sym whole)
      ∙ (sym (blocks_in-at shape (array judge) (region_of shape b) (place_of shape b) bytes low)
      ∙ get_or_from_slice_get (blocks_in shape (array judge) (region_of shape b)) (place_of shape b) bytes bytes found) in
      slice_get-get_or (array judge) b bytes (omega arith) ∙ ap Some same

  pub good_block : (strings : List (List ℕ)) → NoTwoCollide strings → HasContents shape strings judge.now → (a : Answer) → a.block < blocks shape
      → ((x : List ℕ) → IsAmong x (path_strings (place_of shape a.block) a.bytes a.path) → IsAmong x strings)
      → verdict_of shape judge a ≡ Good → slice_get (array judge) a.block ≡ Some a.bytes
  unfolding present_root
  good_block strings none contents a inside seen good =
      let g : ℕ = region_of shape a.block in
      let region : g < regions shape = in_region shape a.block inside in
      let tree = blocks_in shape (array judge) g in
      let verifies = (verified-Decides (present_root shape judge g) shape.height (place_of shape a.block) a.bytes a.path).0
      (good_at shape (present_root shape judge g) (present_number shape judge g) a good) in
      block_there a.block a.bytes inside
      (carried shape.height (blocks_in shape (array judge) g) (place_of shape a.block) a.bytes a.path
      (length-blocks_in shape (array judge) g length-array region) (mod-lt a.block (pow_pos shape.height))
      (none-within _ strings
      (λ x m. elim (among_either x (tree_strings shape.height (blocks_in shape (array judge) g)) (path_strings (place_of shape a.block) a.bytes a.path) m) [
        | inl in_tree ↦ contents (last_number judge) g x (omega arith) region
            (subst (λ c. IsAmong x (tree_strings shape.height (blocks_in shape c g))) (sym array-all) in_tree)
        | inr on_path ↦ seen x on_path
      ]) none)
      verifies)
