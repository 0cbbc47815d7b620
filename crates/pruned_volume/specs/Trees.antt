-- The pruned trees of a volume, one for each region, and what they know of its contents.
use Rattle.std.specs.Prelude.{◌≡◌, ℕ, ◌<◌, Bool, true, ◌==◌, List, [], map, length, slice_index_or, refl}
use Rattle.std.specs.Coded.{Coded, code_by, coded×, coded_ℕ, coded_list}
use Rattle.salus_types.specs.Volume.{Shape, regions, blocks}
use Rattle.salus_types.specs.declared.records.Write.{Write}
use Rattle.merkle_pruned.specs.Subtree.{Closed}
use Rattle.merkle_pruned.specs.Tree.{PrunedTree, tree_code, root_digest, Agrees, over}
use Rattle.volume_model.specs.Contents.{region_of, place_of, blocks_in}

-- the shape of the volume, and its regions' trees
pub record KeptTrees : Type 0 where
  pub shape : Shape
  pub trees : List PrunedTree

-- different trees have different codes
abbrev pub trees_code : Coded KeptTrees
trees_code =
    code_by (ℕ × (ℕ × (ℕ × (ℕ × List PrunedTree)))) (coded× coded_ℕ (coded× coded_ℕ (coded× coded_ℕ (coded× coded_ℕ (coded_list tree_code)))))
    (λ k. (k.shape.regions_log, (k.shape.height, (k.shape.block, (k.shape.replicas, k.trees)))))
    (λ p. record { shape = record { regions_log = p.0; height = p.1.0; block = p.1.1.0; replicas = p.1.1.1.0 }; trees = p.1.1.1.1 }) (λ _. refl)

-- what stands for a region that the volume hasn't
abbrev pub no_tree : PrunedTree
no_tree = record { height = 0; tree = Closed [] }

abbrev pub tree_at : KeptTrees → ℕ → PrunedTree
tree_at kept g = slice_index_or kept.trees g no_tree

-- the root of a region
abbrev pub root_at : KeptTrees → ℕ → List ℕ
root_at kept g = root_digest (tree_at kept g)

-- a tree for each region, of a region's height
pub record AreTrees (shape : Shape) (trees : List PrunedTree) : Type 0 where
  pub count : length trees ≡ regions shape
  pub heights : (g : ℕ) → g < regions shape → (slice_index_or trees g no_tree).height ≡ shape.height

-- ---- what is known

-- a tree of which the root alone is known
abbrev pub closed_tree : Shape → List ℕ → PrunedTree
closed_tree shape root = record { height = shape.height; tree = Closed root }

-- the trees of which these roots are known
abbrev pub closed_trees : Shape → List (List ℕ) → KeptTrees
closed_trees shape roots = record { shape = shape; trees = map (closed_tree shape) roots }

-- what is left of a tree where all is closed
abbrev pub pruned : PrunedTree → PrunedTree
pruned t = record { height = t.height; tree = Closed (root_digest t) }

abbrev pub all_pruned : KeptTrees → KeptTrees
all_pruned kept = record { shape = kept.shape; trees = map pruned kept.trees }

-- the leaf of a block is open
abbrev pub is_known : KeptTrees → ℕ → Bool
is_known kept b = (over (tree_at kept (region_of kept.shape b)) (place_of kept.shape b)).0 == 0

-- the block of a write is one of the volume, and known
pub record IsKnownWrite (kept : KeptTrees) (w : Write) : Type 0 where
  pub within : w.block < blocks kept.shape
  pub known : is_known kept w.block ≡ true

-- ---- agreement

-- these are all blocks of the volume, and each region's tree agrees with the region's
pub record AgreesAll (kept : KeptTrees) (contents : List (List ℕ)) : Type 0 where
  pub full : length contents ≡ blocks kept.shape
  pub each : (g : ℕ) → g < regions kept.shape → Agrees (tree_at kept g) (blocks_in kept.shape contents g)
