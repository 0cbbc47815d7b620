-- What a trial of a record comes to.
use Rattle.std.proofs.Common.{◌≡◌, ◌∙◌, ℕ, ◌^◌, true, false, not, List, length, refl, sym, ap, subst}
use Rattle.std.specs.Prelude.{bytes_eq}
use Rattle.std.proofs.lemmas.Bool.{not-true, not-false}
use Rattle.salus_types.specs.Volume.{Shape}
use Rattle.salus_types.specs.declared.records.Record.{Record}
use Rattle.salus_types.specs.declared.records.PlaceWrite.{PlaceWrite}
use Rattle.merkle_region.specs.Tree.{root_of}
use Rattle.merkle_region.specs.Kept.{Region}
use Rattle.holding_model.specs.Fitting.{record_fits, blocks_written, blocks_after}
use Rattle.replica_rules.specs.Views.{view_after, view_root, is_accepted}
use Rattle.region_view.specs.Kept.{KeptView, IsKept}
use Rattle.region_view.specs.Refusing.{HasOtherRoot}
use Rattle.region_view.proofs.Shaping.{IsShaped, shape-parts, shape-from, shaped-after}

-- a tree has the blocks after the record, at the height of the shape
pub record IsTried (shape : Shape) (blocks : List (List ℕ)) (rec : Record) (tree : Region) : Type 0 where
  pub height : tree.height ≡ shape.height
  pub blocks_are : tree.blocks ≡ blocks_after shape blocks rec

-- changes that lead to them were put into the tree
pub put-tried : (shape : Shape) (before : Region) (rec : Record) (changes : List PlaceWrite) (after : Region) → IsKept shape before
    → ((blocks : List (List ℕ)) → length blocks ≡ 2 ^ shape.height → blocks_written blocks changes ≡ blocks_after shape blocks rec)
    → after.height ≡ before.height → after.blocks ≡ blocks_written before.blocks changes → IsTried shape before.blocks rec after
put-tried shape before rec changes after kept leads height put =
    record { height = height ∙ kept.height; blocks_are = put ∙ leads before.blocks (shape-parts shape before.blocks kept.blocks).count }

-- what a view of that number with that tree is seen as
abbrev pub seen_as : Shape → ℕ → Region → KeptView
seen_as shape number tree = record { shape = shape; view = record { number = number; blocks = tree.blocks } }

-- the tree keeps the shape
pub tried-kept : (shape : Shape) (before : Region) (rec : Record) (after : Region) → IsKept shape before → record_fits shape rec ≡ true → IsTried shape before.blocks rec after → IsKept shape after
tried-kept shape before rec after kept fits tried =
    record {
      height = tried.height;
      blocks =
          shape-from shape after.blocks
          (subst (λ blocks. IsShaped shape blocks) (sym tried.blocks_are) (shaped-after shape before.blocks rec (shape-parts shape before.blocks kept.blocks) fits));
    }

module _ (kept : KeptView) (rec : Record) (tree : Region) (tried : IsTried kept.shape kept.view.blocks rec tree) (got : List ℕ) (is : got ≡ root_of tree.height tree.blocks) where
  reached : got ≡ view_root kept.shape (view_after kept.shape kept.view rec)
  reached = is ∙ (ap (λ h. root_of h tree.blocks) tried.height ∙ ap (root_of kept.shape.height) tried.blocks_are)

  -- another root than the record's
  pub tried-refused : not (bytes_eq got rec.header.root) ≡ true → HasOtherRoot kept rec rec.header.root got
  tried-refused differs =
      record {
        refused = ap (λ root. bytes_eq root rec.header.root) (sym reached) ∙ not-true (bytes_eq got rec.header.root) differs;
        named = refl;
        reached = reached;
      }

  -- the record's
  pub tried-accepted : not (bytes_eq got rec.header.root) ≡ false → is_accepted kept.shape kept.view rec ≡ true
  tried-accepted same = ap (λ root. bytes_eq root rec.header.root) (sym reached) ∙ not-false (bytes_eq got rec.header.root) same
