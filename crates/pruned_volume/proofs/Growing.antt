-- What the trees of a volume know and agree with, where one of them is another one.
use Rattle.std.proofs.Common.{◌≡◌, ◌≢◌, ℕ, ◌+◌, ◌*◌, ◌<◌, ◌∙◌, true, ◌==◌, List, [], ◌∷◌, ◌++◌, set, take, drop, inl, inr, refl, ap, sym, subst, eqb-true, arith}
use Rattle.std.specs.Prelude.{◌^◌, flat_map}
use Rattle.std.proofs.lemmas.Bool.{cases_eq, ne_eqb}
use Rattle.std.proofs.lemmas.List.{get_or-set_same, get_or-set_other, length-set, drop-set-add}
use Rattle.std.proofs.lemmas.Nat.{pow_pos, div-add-mod'}
use Rattle.std.proofs.Math.Nat.{mod-lt}
use Rattle.std.proofs.Math.Seq.{take-set-lt}
use Rattle.salus_hash.specs.Hash.{leaf}
use Rattle.salus_types.specs.Volume.{Shape, regions, region_blocks, blocks}
use Rattle.salus_types.specs.declared.records.Write.{Write}
use Rattle.merkle_region.specs.Tree.{root_of, tree_strings, climb_strings, path_strings, IsAmong, NoTwoCollide}
use Rattle.merkle_region.proofs.Membership.{among_left, among_right, among_either}
use Rattle.merkle_volume.specs.Top.{top_strings}
use Rattle.merkle_pruned.specs.Tree.{PrunedTree, over, Agrees, Climbs, Grafted, LeafSet}
use Rattle.merkle_pruned.proofs.Lawful.{root_digest-agrees}
use Rattle.volume_model.specs.Contents.{region_of, place_of, all_regions, apply, blocks_in, region_root, roots_of, contents_strings}
use Rattle.list_lemmas.proofs.Members.{among_flat_map-in, among_range-in}
use Rattle.list_lemmas.proofs.Tests.{or_false}
use Rattle.law_lemmas.proofs.Regional.{in_region, untouched}
use Rattle.pruned_volume.specs.Trees.{KeptTrees, no_tree, tree_at, root_at, AreTrees, is_known, AgreesAll}

-- a block that is written stands in its region
set_there : (shape : Shape) (contents : List (List ℕ)) (b : ℕ) (x : List ℕ)
    → blocks_in shape (set contents b x) (region_of shape b) ≡ set (blocks_in shape contents (region_of shape b)) (place_of shape b) x
set_there shape contents b x =
    let n : ℕ = region_blocks shape in
    let from : ℕ = region_of shape b * n in
    let is : from + place_of shape b ≡ b = div-add-mod' b n in
    ap (λ k. take n (drop from (set contents k x))) (sym is)
    ∙ (ap (take n) (drop-set-add from contents (place_of shape b) x)
    ∙ take-set-lt n (drop from contents) (place_of shape b) x (mod-lt b (pow_pos shape.height)))

module _ (shape : Shape) (trees : List PrunedTree) (are : AreTrees shape trees) where
  abbrev kept : KeptTrees
  kept = record { shape = shape; trees = trees }

  -- the trees, of which this one is another
  abbrev with_tree : ℕ → PrunedTree → KeptTrees
  with_tree g t = record { shape = shape; trees = set trees g t }

  tree_there : (g : ℕ) (t : PrunedTree) → g < regions shape → tree_at (with_tree g t) g ≡ t
  tree_there g t inside = get_or-set_same trees g t no_tree (rw are.count inside)

  tree_other : (g h : ℕ) (t : PrunedTree) → h ≢ g → tree_at (with_tree g t) h ≡ tree_at kept h
  tree_other g h t apart = get_or-set_other trees g h t no_tree apart

  -- what holds of that one and of the others holds of each
  each_tree : (P : ℕ → PrunedTree → Type 0) (g : ℕ) (t : PrunedTree) → g < regions shape → P g t
      → ((h : ℕ) → h < regions shape → h ≢ g → P h (tree_at kept h)) → (h : ℕ) → h < regions shape → P h (tree_at (with_tree g t) h)
  each_tree P g t inside here others h within = elim (cases_eq h g) [
    | inl e ↦ subst (λ x. P x (tree_at (with_tree g t) x)) (sym e) (subst (P g) (sym (tree_there g t inside)) here)
    | inr apart ↦ subst (P h) (sym (tree_other g h t apart)) (others h within apart)
  ]

  pub one_high : (g : ℕ) (t : PrunedTree) → g < regions shape → t.height ≡ (tree_at kept g).height → AreTrees shape (set trees g t)
  one_high g t inside high = record {
    count = length-set trees g t ∙ are.count;
    heights = each_tree (λ h x. x.height ≡ shape.height) g t inside (high ∙ are.heights g inside) (λ h within apart. are.heights h within);
  }

  -- each root is the region's
  pub root_is : (contents : List (List ℕ)) (g : ℕ) → g < regions shape → AgreesAll kept contents → root_at kept g ≡ region_root shape contents g
  root_is contents g inside a =
      root_digest-agrees (tree_at kept g) (blocks_in shape contents g) (a.each g inside)
      ∙ ap (λ h. root_of h (blocks_in shape contents g)) (are.heights g inside)

  -- a tree that knows what it knew at each place but one, where a leaf is known, leaves all known that was
  stays_known : (g i : ℕ) (t : PrunedTree) → g < regions shape → (over t i).0 ≡ 0
      → ((j : ℕ) → j < 2 ^ (tree_at kept g).height → j ≢ i → (over (tree_at kept g) j).0 ≡ 0 → (over t j).0 ≡ 0)
      → (b : ℕ) → b < blocks shape → is_known kept b ≡ true → is_known (with_tree g t) b ≡ true
  stays_known g i t inside here stays b within known =
      let j : ℕ = place_of shape b in
      let low : j < 2 ^ shape.height = mod-lt b (pow_pos shape.height) in
      let at : g ≡ region_of shape b → ((over t j).0 == 0) ≡ true = λ e.
      let was : (over (tree_at kept g) j).0 ≡ 0 = eqb-true _ _ (subst (λ x. ((over (tree_at kept x) j).0 == 0) ≡ true) (sym e) known) in
      elim (cases_eq j i) [
        | inl same ↦ ap (λ n. n == 0) (subst (λ k. (over t k).0 ≡ 0) (sym same) here)
        | inr apart ↦ ap (λ n. n == 0) (stays j (subst (λ h. j < 2 ^ h) (sym (are.heights g inside)) low) apart was)
      ] in
      each_tree (λ h x. h ≡ region_of shape b → ((over x j).0 == 0) ≡ true) g t inside at
      (λ h inner apart e. subst (λ x. ((over (tree_at kept x) j).0 == 0) ≡ true) (sym e) known) (region_of shape b) (in_region shape b within) refl

  module _ (g i : ℕ) (t : PrunedTree) (inside : g < regions shape) where
    pub graft_stays : (digest : List ℕ) (path : List (List ℕ)) → Grafted (tree_at kept g) i digest path t
        → (b : ℕ) → b < blocks shape → is_known kept b ≡ true → is_known (with_tree g t) b ≡ true
    graft_stays digest path grafted =
        stays_known g i t inside (ap (λ o. o.0) grafted.there) (λ j low apart none. ap (λ o. o.0) (grafted.stays j low apart none) ∙ none)

    pub graft_known : (b : ℕ) → region_of shape b ≡ g → place_of shape b ≡ i → (over t i).0 ≡ 0 → is_known (with_tree g t) b ≡ true
    graft_known b region place none =
        rw (region, place, tree_there g t inside, none) refl

    -- the strings of the region's tree and of the path are among those of the contents and of the answer
    wide : (contents : List (List ℕ)) (bytes : List ℕ) (path : List (List ℕ)) (x : List ℕ)
        → IsAmong x (tree_strings (tree_at kept g).height (blocks_in shape contents g) ++ climb_strings i (leaf bytes) path)
        → IsAmong x (contents_strings shape contents ++ path_strings i bytes path)
    wide contents bytes path x among = elim (among_either x (tree_strings (tree_at kept g).height (blocks_in shape contents g)) (climb_strings i (leaf bytes) path) among) [
      | inl left ↦
          among_left x (contents_strings shape contents) (path_strings i bytes path)
          (among_left x (flat_map (λ r. tree_strings shape.height (blocks_in shape contents r)) (all_regions shape)) (top_strings shape.regions_log (roots_of shape contents))
          (among_flat_map-in (λ r. tree_strings shape.height (blocks_in shape contents r)) g x (all_regions shape) (among_range-in (regions shape) 0 g (omega arith) (omega (arith, inside)))
          (subst (λ h. IsAmong x (tree_strings h (blocks_in shape contents g))) (are.heights g inside) left)))
      | inr right ↦ among_right x (contents_strings shape contents) (path_strings i bytes path) (inr right)
    ]

    pub graft_agrees : (contents : List (List ℕ)) (bytes : List ℕ) (path : List (List ℕ)) → Grafted (tree_at kept g) i (leaf bytes) path t → Climbs (tree_at kept g) i (leaf bytes) path
        → AgreesAll kept contents → NoTwoCollide (contents_strings shape contents ++ path_strings i bytes path) → AgreesAll (with_tree g t) contents
    graft_agrees contents bytes path grafted climbs a apart = record {
      full = a.full;
      each = each_tree (λ h x. Agrees x (blocks_in shape contents h)) g t inside
          (grafted.agrees climbs (blocks_in shape contents g) (λ x y mx my same. apart x y (wide contents bytes path x mx) (wide contents bytes path y my) same) (a.each g inside))
          (λ h within other. a.each h within);
    }

    pub leaf_stays : (digest : List ℕ) → i < 2 ^ (tree_at kept g).height → LeafSet (tree_at kept g) i digest t
        → (b : ℕ) → b < blocks shape → is_known kept b ≡ true → is_known (with_tree g t) b ≡ true
    leaf_stays digest low put = stays_known g i t inside (ap (λ o. o.0) put.there) (λ j within apart none. ap (λ o. o.0) (put.elsewhere j within apart) ∙ none)

  -- a write's leaf is set
  pub leaf_agrees : (w : Write) (t : PrunedTree) → region_of shape w.block < regions shape → LeafSet (tree_at kept (region_of shape w.block)) (place_of shape w.block) (leaf w.bytes) t
      → (contents : List (List ℕ)) → AgreesAll kept contents → AgreesAll (with_tree (region_of shape w.block) t) (apply contents (w ∷ []))
  unfolding apply
  leaf_agrees w t inside put contents a = record {
    full = length-set contents w.block w.bytes ∙ a.full;
    each = each_tree (λ h x. Agrees x (blocks_in shape (set contents w.block w.bytes) h)) (region_of shape w.block) t inside
        (subst (Agrees t) (sym (set_there shape contents w.block w.bytes)) (put.agrees (blocks_in shape contents (region_of shape w.block)) w.bytes (a.each (region_of shape w.block) inside) refl))
        (λ h within apart. subst (Agrees (tree_at kept h)) (sym (untouched shape contents a.full (w ∷ []) h within (or_false _ ∙ ne_eqb (region_of shape w.block) h (λ e. apart (sym e))))) (a.each h within));
  }

-- ---- a batch, write by write

pub apply_append : (batch more : List Write) (contents : List (List ℕ)) → apply contents (batch ++ more) ≡ apply (apply contents batch) more
unfolding apply
apply_append [] more contents = refl
apply_append (w ∷ batch) more contents = apply_append batch more (set contents w.block w.bytes)
