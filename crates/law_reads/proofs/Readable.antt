-- What a node answers can be read back, and is as long as the volume's, where its view is whole.
use Rattle.std.proofs.Common.{◌≡◌, ℕ, zero, suc, ◌-◌, ◌^◌, ◌<◌, ◌≤◌, ◌==◌, ◌&&◌, nat_lt, Bool, true, if◌then◌else◌, List, [], ◌∷◌, ◌++◌, length, take, drop, sym, subst, arith, eqb-true, eq-eqb}
use Rattle.std.specs.Prelude.{Ok}
use Rattle.std.specs.List.{AllByRecursion, list_all}
use Rattle.std.proofs.Math.Nat.{mod-lt}
use Rattle.std.proofs.lemmas.Nat.{pow_pos}
use Rattle.salus_types.specs.Volume.{Shape, IsVolume, region_blocks}
use Rattle.salus_types.specs.declared.names.NodeName.{NodeName}
use Rattle.salus_message.specs.declared.small.Ask.{Ask}
use Rattle.salus_message.specs.declared.replies.Answer.{Answer}
use Rattle.salus_message.specs.declared.wire.Message.TheVariants as message
use Rattle.salus_message.specs.Reading.{message_at}
use Rattle.salus_message.specs.Spelling.{message_bytes}
use Rattle.salus_message.proofs.MessageLaws.{message_again}
use Rattle.merkle_region.specs.Tree.{block_at, root_of, path_from}
use Rattle.merkle_region.proofs.Carried.{length-root_of}
use Rattle.merkle_region.proofs.Reached.{length-path_from}
use Rattle.holding_model.specs.Fitting.{has_shape}
use Rattle.volume_model.specs.Contents.{region_of, place_of}
use Rattle.salus_model.specs.Answering.{is_fitting}
use Rattle.replica_rules.specs.Views.{View}
use Rattle.replica_rules.specs.Replicas.{answer_to}
use Rattle.list_lemmas.proofs.Each.{all_both}
use Rattle.list_lemmas.proofs.Tests.{by_test, and_left, and_right}
use Rattle.law_answers.proofs.Asks.{both_true}
use Rattle.law_reads.specs.Serving.{AreSmall}

-- a view of one block for each place, each of the volume's length, whose number is in its width
pub record IsReadable (shape : Shape) (view : View) : Type 0 where
  pub whole : has_shape shape view.blocks ≡ true
  pub low : view.number < 2 ^ 64

-- what holds of all blocks holds of the one at a place
at_place : (test : List ℕ → Bool) (blocks : List (List ℕ)) (i : ℕ) → list_all test blocks ≡ true → i < length blocks → test (block_at blocks i) ≡ true
at_place test [] i all within = absurd (omega (arith, within))
at_place test (x ∷ blocks) zero all within = and_left (test x) (list_all test blocks) all
at_place test (x ∷ blocks) (suc i) all within = at_place test blocks i (and_right (test x) (list_all test blocks) all) (omega (arith, within))

-- a path has digests
path_digests : (h : ℕ) (blocks : List (List ℕ)) (i : ℕ) → AllByRecursion (λ digest. length digest ≡ 32) (path_from h blocks i)
unfolding path_from
path_digests zero blocks i = tt
path_digests (suc h) blocks i =
    by_test (λ t. AllByRecursion (λ digest. length digest ≡ 32) (if t then path_from h (take (2 ^ h) blocks) i ++ root_of h (drop (2 ^ h) blocks) ∷ [] else path_from h (drop (2 ^ h) blocks) (i - 2 ^ h) ++ root_of h (take (2 ^ h) blocks) ∷ []))
    (nat_lt i (2 ^ h))
    (λ _. all_both (λ digest. length digest ≡ 32) (path_from h (take (2 ^ h) blocks) i) (root_of h (drop (2 ^ h) blocks) ∷ []) (path_digests h (take (2 ^ h) blocks) i) (length-root_of h (drop (2 ^ h) blocks), tt))
    (λ _. all_both (λ digest. length digest ≡ 32) (path_from h (drop (2 ^ h) blocks) (i - 2 ^ h)) (root_of h (take (2 ^ h) blocks) ∷ []) (path_digests h (drop (2 ^ h) blocks) (i - 2 ^ h))
    (length-root_of h (take (2 ^ h) blocks), tt))

module _ (shape : Shape) (volume : IsVolume shape) (view : View) (readable : IsReadable shape view) (ask : Ask) (small : AreSmall ask.session ask.read ask.block) where
  abbrev answer : Answer
  answer = answer_to shape view ask

  count : length view.blocks ≡ region_blocks shape
  unfolding has_shape
  count = eqb-true (length view.blocks) (region_blocks shape) (and_left (length view.blocks == region_blocks shape) (list_all (λ x. length x == shape.block) view.blocks) readable.whole)

  sized : (length answer.bytes == shape.block) ≡ true
  unfolding has_shape
  sized =
      let low : place_of shape ask.block < 2 ^ shape.height = mod-lt ask.block (pow_pos shape.height) in
      at_place (λ x. length x == shape.block) view.blocks (place_of shape ask.block) (and_right (length view.blocks == region_blocks shape) (list_all (λ x. length x == shape.block) view.blocks) readable.whole)
      (subst (λ (n : ℕ). place_of shape ask.block < n) (sym count) low)

  pub answer_again : message_at (message_bytes (message.Answer answer)) ≡ Ok (message.Answer answer)
  answer_again =
      let long : length answer.bytes ≡ shape.block = eqb-true (length answer.bytes) shape.block sized in
      let block = volume.small_blocks in
      let first : 1 ≤ shape.block = block.0 in
      let last : shape.block ≤ 4096 = block.1 in
      let levels : length answer.path ≡ shape.height = length-path_from shape.height view.blocks (place_of shape ask.block) in
      let height : shape.height ≤ 10 = volume.low in
      message_again (message.Answer answer)
      (record { small_block = (omega (arith, long, first), omega (arith, long, last)); short_path = omega (arith, levels, height) })
      ((small.session, (small.read, (small.block, readable.low))), path_digests shape.height view.blocks (place_of shape ask.block))

  pub answer_fits : (name : NodeName) → region_of shape ask.block ≡ name.region → is_fitting shape name answer ≡ true
  answer_fits name region =
      both_true ((name.region == region_of shape answer.block) && (length answer.bytes == shape.block)) (length answer.path == shape.height)
      (both_true (name.region == region_of shape answer.block) (length answer.bytes == shape.block) (eq-eqb name.region (region_of shape answer.block) (sym region)) sized)
      (eq-eqb (length answer.path) shape.height (length-path_from shape.height view.blocks (place_of shape ask.block)))
