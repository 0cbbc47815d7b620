-- Among the strings seen are those of the contents of each known session.
use Rattle.std.proofs.Common.{ℕ, zero, suc, ◌<◌, ◌≤◌, List, [], ◌∷◌, length, take, arith}
use Rattle.std.specs.Prelude.{flat_map}
use Rattle.salus_types.specs.Volume.{Shape, regions}
use Rattle.merkle_region.specs.Tree.{tree_strings, IsAmong}
use Rattle.merkle_region.proofs.Membership.{among_left, among_right}
use Rattle.volume_model.specs.Contents.{Batch, all_regions, apply, fold_batches, blocks_in, contents_strings, roots_of}
use Rattle.merkle_volume.specs.Top.{top_strings}
use Rattle.volume_model.specs.Parts.{Session}
use Rattle.salus_model.specs.Judge.{Judge, all_known}
use Rattle.salus_model.specs.Seen.{strings_along, known_strings}
use Rattle.list_lemmas.proofs.Members.{among_range-in, among_flat_map-in}
use Rattle.law_history.proofs.Chosen.{HasContents}

module _ (shape : Shape) where
  in_contents : (contents : List (List ℕ)) (g : ℕ) (x : List ℕ) → g < regions shape → IsAmong x (tree_strings shape.height (blocks_in shape contents g))
      → IsAmong x (contents_strings shape contents)
  in_contents contents g x inside m =
      among_left x (flat_map (λ i. tree_strings shape.height (blocks_in shape contents i)) (all_regions shape)) (top_strings shape.regions_log (roots_of shape contents))
      (among_flat_map-in (λ i. tree_strings shape.height (blocks_in shape contents i)) g x (all_regions shape) (among_range-in (regions shape) 0 g (omega arith) (omega arith)) m)

  along : (list : List Batch) (contents : List (List ℕ)) (s : ℕ) (x : List ℕ) → s ≤ length list
      → IsAmong x (contents_strings shape (fold_batches contents (take s list))) → IsAmong x (strings_along shape contents list)
  unfolding strings_along fold_batches
  along [] contents zero x within m = m
  along [] contents (suc s) x within m = absurd (omega arith)
  along (b ∷ list) contents zero x within m = among_left x (contents_strings shape contents) (strings_along shape (apply contents b) list) m
  along (b ∷ list) contents (suc s) x within m =
      among_right x (contents_strings shape contents) (strings_along shape (apply contents b) list) (along list (apply contents b) s x (omega arith) m)

  pub has_contents : (judge : Judge) (known : Session) → IsAmong known (all_known judge) → HasContents shape (known_strings shape judge) known
  unfolding known_strings
  has_contents judge known among = λ s g x within inside m.
      among_flat_map-in (λ k. strings_along shape k.origin k.list) known x (all_known judge) among
      (along known.list known.origin s x within (in_contents (fold_batches known.origin (take s known.list)) g x inside m))
