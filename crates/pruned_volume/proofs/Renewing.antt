-- What the calls of a volume's trees leave, from what they leave of one tree.
use Rattle.std.proofs.Common.{◌≡◌, ℕ, ◌+◌, ◌<◌, ◌≤◌, ◌∙◌, Bool, true, false, cond, List, [], ◌∷◌, ◌++◌, length, get_or, set, take, drop, map, Result, Ok, Err, refl, ap, ap₂, sym, subst, append-nil, arith}
use Rattle.std.specs.Prelude.{OnOk, OnErr, filter}
use Rattle.std.proofs.lemmas.List.{get_or_default, get_or-map, length-map, set-get_or, take_all, drop_all, take_more}
use Rattle.std.specs.List.{range_with_len, AllByRecursion}
use Rattle.std.proofs.lemmas.List.FromFn.{get_or-map-range_with_len, filter_of_map_range_with_len_more}
use Rattle.salus_hash.specs.Hash.{leaf}
use Rattle.salus_types.specs.Volume.{Shape, regions, blocks}
use Rattle.salus_types.specs.declared.records.Write.{Write}
use Rattle.merkle_region.specs.Tree.{path_strings, NoTwoCollide}
use Rattle.merkle_pruned.specs.Tree.{PrunedTree, Agrees, Climbs, Grafted, LeafSet}
use Rattle.merkle_pruned.proofs.Lawful.{closed-agrees}
use Rattle.volume_model.specs.Contents.{region_of, place_of, apply, blocks_in, region_root, roots_of, contents_strings}
use Rattle.volume_model.specs.Parts.{touches, touched_by}
use Rattle.client_window.proofs.Stepped.{put_back}
use Rattle.law_lemmas.proofs.Regional.{length-blocks_in}
use Rattle.list_lemmas.proofs.Each.{all_filter, each_below}
use Rattle.pruned_volume.specs.Trees.{KeptTrees, no_tree, root_at, AreTrees, closed_tree, pruned, is_known, AgreesAll}
use Rattle.pruned_volume.proofs.Growing.{root_is, graft_stays, graft_agrees, leaf_agrees, apply_append}

pub ok_both : {T E P Q R : Type 0} (r : Result T E) → (P → Q → R) → OnOk r P → OnOk r Q → OnOk r R
ok_both (Ok x) f p q = f p q
ok_both (Err e) f p q = tt

pub err_weaker : {T E P Q : Type 0} (r : Result T E) → (P → Q) → OnErr r P → OnErr r Q
err_weaker (Ok x) f p = tt
err_weaker (Err e) f p = f p

-- trees of this shape, as they are seen
module _ (shape : Shape) (trees : List PrunedTree) (are : AreTrees shape trees) (now : KeptTrees) (is : record { shape = shape; trees = trees } ≡ now) where
  abbrev after : ℕ → PrunedTree → KeptTrees
  after g t = record { shape = shape; trees = set trees g t }

  -- the tree that stands at a place
  found : (g : ℕ) (x : PrunedTree) → g < regions shape → x ≡ get_or trees g x → x ≡ get_or trees g no_tree
  found g x inside at = at ∙ get_or_default trees g x no_tree (rw are.count inside)

  pub region_inside : (b : ℕ) → region_of now.shape b < regions now.shape → region_of shape b < regions shape
  region_inside b inside = subst (λ k. region_of k.shape b < regions k.shape) (sym is) inside

  pub root_seen : (b : ℕ) → region_of now.shape b < regions now.shape → (contents : List (List ℕ)) → AgreesAll now contents
      → root_at now (region_of now.shape b) ≡ region_root now.shape contents (region_of now.shape b)
  root_seen b inside contents a =
      subst (λ k. root_at k (region_of k.shape b) ≡ region_root k.shape contents (region_of k.shape b)) is
      (root_is shape trees are contents (region_of shape b) (region_inside b inside) (subst (λ k. AgreesAll k contents) (sym is) a))

  module _ (g i : ℕ) (x t : PrunedTree) (inside : g < regions shape) (at : x ≡ get_or trees g x) where
    pub stays_seen : (digest : List ℕ) (path : List (List ℕ)) → Grafted x i digest path t → (b : ℕ) → b < blocks now.shape → is_known now b ≡ true → is_known (after g t) b ≡ true
    stays_seen digest path grafted b within known =
        graft_stays shape trees are g i t inside digest path (subst (λ y. Grafted y i digest path t) (found g x inside at) grafted) b
        (subst (λ k. b < blocks k.shape) (sym is) within) (subst (λ k. is_known k b ≡ true) (sym is) known)

    pub agrees_seen : (b : ℕ) (bytes digest : List ℕ) (path : List (List ℕ)) → i ≡ place_of shape b → digest ≡ leaf bytes → Climbs x i digest path → Grafted x i digest path t
        → (contents : List (List ℕ)) → AgreesAll now contents → NoTwoCollide (contents_strings now.shape contents ++ path_strings (place_of now.shape b) bytes path) → AgreesAll (after g t) contents
    agrees_seen b bytes digest path place hashed climbs grafted contents a apart =
        graft_agrees shape trees are g i t inside contents bytes path
        (subst (λ y. Grafted y i (leaf bytes) path t) (found g x inside at) (subst (λ d. Grafted x i d path t) hashed grafted))
        (subst (λ y. Climbs y i (leaf bytes) path) (found g x inside at) (subst (λ d. Climbs x i d path) hashed climbs))
        (subst (λ k. AgreesAll k contents) (sym is) a)
        (subst (λ j. NoTwoCollide (contents_strings shape contents ++ path_strings j bytes path)) (sym place)
        (subst (λ k. NoTwoCollide (contents_strings k.shape contents ++ path_strings (place_of k.shape b) bytes path)) (sym is) apart))

    pub same_seen : t ≡ x → after g t ≡ now
    same_seen same = ap (λ ts. record { shape = shape; trees = ts }) (ap (set trees g) (same ∙ at) ∙ set-get_or trees g x) ∙ is

    pub put_seen : (w : Write) → g ≡ region_of shape w.block → i ≡ place_of shape w.block → (digest : List ℕ) → digest ≡ leaf w.bytes → LeafSet x i digest t
        → (contents : List (List ℕ)) → AgreesAll now contents → AgreesAll (after g t) (apply contents (w ∷ []))
    put_seen w region place digest hashed put contents a =
        subst (λ h. AgreesAll (after h t) (apply contents (w ∷ []))) (sym region)
        (leaf_agrees shape trees are w t (subst (λ h. h < regions shape) region inside)
        (subst (λ h. LeafSet (get_or trees h no_tree) (place_of shape w.block) (leaf w.bytes) t) region
        (subst (λ y. LeafSet y (place_of shape w.block) (leaf w.bytes) t) (found g x inside at)
        (subst (λ j. LeafSet x j (leaf w.bytes) t) place (subst (λ d. LeafSet x i d t) hashed put))))
        contents (subst (λ k. AgreesAll k contents) (sym is) a))

-- ---- trees of which the roots alone are known

pub closed_are : (shape : Shape) (roots : List (List ℕ)) → length roots ≡ regions shape → AreTrees shape (map (closed_tree shape) roots)
closed_are shape roots long = record {
  count = length-map roots (closed_tree shape) ∙ long;
  heights = λ g inside. ap (λ t. t.height) (get_or-map (closed_tree shape) roots g [] no_tree (rw long inside));
}

pub closed_agree : (shape : Shape) (roots : List (List ℕ)) → length roots ≡ regions shape → (contents : List (List ℕ)) → length contents ≡ blocks shape → roots_of shape contents ≡ roots
    → AgreesAll (record { shape = shape; trees = map (closed_tree shape) roots }) contents
closed_agree shape roots long contents full same = record {
  full = full;
  each = λ g inside. subst (λ t. Agrees t (blocks_in shape contents g)) (sym (get_or-map (closed_tree shape) roots g [] no_tree (rw long inside))) (record {
    full = length-blocks_in shape contents g full inside;
    known = ap (λ rs. get_or rs g []) (sym same) ∙ get_or-map-range_with_len (λ r. region_root shape contents r) 0 (regions shape) g g [] inside (omega arith);
  });
}

-- ---- trees that are pruned

pub pruned_at : (shape : Shape) (trees : List PrunedTree) → AreTrees shape trees → (g : ℕ) → g < regions shape → get_or (map pruned trees) g no_tree ≡ pruned (get_or trees g no_tree)
pruned_at shape trees are g inside = get_or-map pruned trees g no_tree no_tree (rw are.count inside)

pub pruned_are : (shape : Shape) (trees : List PrunedTree) → AreTrees shape trees → AreTrees shape (map pruned trees)
pruned_are shape trees are = record {
  count = length-map trees pruned ∙ are.count;
  heights = λ g inside. ap (λ t. t.height) (pruned_at shape trees are g inside) ∙ are.heights g inside;
}

pub pruned_agree : (shape : Shape) (trees : List PrunedTree) → AreTrees shape trees → (now : KeptTrees) → record { shape = shape; trees = trees } ≡ now
    → (contents : List (List ℕ)) → AgreesAll now contents → AgreesAll (record { shape = shape; trees = map pruned trees }) contents
pruned_agree shape trees are now is contents seen =
    let a : AgreesAll (record { shape = shape; trees = trees }) contents = subst (λ k. AgreesAll k contents) (sym is) seen in
    record {
      full = a.full;
      each = λ g inside. subst (λ t. Agrees t (blocks_in shape contents g)) (sym (pruned_at shape trees are g inside))
          (closed-agrees (get_or trees g no_tree) (pruned (get_or trees g no_tree)) (blocks_in shape contents g) refl refl (a.each g inside));
    }

pub pruned_twice : (trees : List PrunedTree) → map pruned (map pruned trees) ≡ map pruned trees
pruned_twice [] = refl
pruned_twice (t ∷ trees) = ap (λ ts. pruned t ∷ ts) (pruned_twice trees)

-- what a loop that changes each element leaves in the vector
pub all_changed : {X : Type 0} (f : X → X) (xs now items : List X) (i n : ℕ) → now ≡ map f (take i xs) ++ drop i xs → length xs ≤ i → xs ≡ items → length items ≡ n
    → take n (now ++ drop (length now) items) ≡ map f items
all_changed f xs now items i n so_far done same long =
    let all : now ≡ map f xs = so_far ∙ (ap₂ (λ ys zs. map f ys ++ zs) (take_all i xs done) (drop_all i xs done) ∙ append-nil (map f xs)) in
    put_back f xs now items n all (ap length same ∙ long) ∙ ap (map f) same

-- ---- the roots of the regions that are touched

roots_along : (shape : Shape) (trees : List PrunedTree) → AreTrees shape trees → (contents : List (List ℕ)) → AgreesAll (record { shape = shape; trees = trees }) contents
    → (touched : List ℕ) → AllByRecursion (λ g. g < regions shape) touched
    → map (λ g. root_at (record { shape = shape; trees = trees }) g) touched ≡ map (λ g. region_root shape contents g) touched
roots_along shape trees are contents a [] within = refl
roots_along shape trees are contents a (g ∷ touched) within =
    ap₂ (λ x xs. x ∷ xs) (root_is shape trees are contents g within.0 a) (roots_along shape trees are contents a touched within.1)

pub roots_seen : (shape : Shape) (trees : List PrunedTree) → AreTrees shape trees → (now : KeptTrees) → record { shape = shape; trees = trees } ≡ now → (batch : List Write) (contents : List (List ℕ))
    → AgreesAll now contents → map (λ g. root_at now g) (touched_by now.shape batch) ≡ map (λ g. region_root now.shape contents g) (touched_by now.shape batch)
roots_seen shape trees are now is batch contents a =
    subst (λ k. map (λ g. root_at k g) (touched_by k.shape batch) ≡ map (λ g. region_root k.shape contents g) (touched_by k.shape batch)) is
    (roots_along shape trees are contents (subst (λ k. AgreesAll k contents) (sym is) a) (touched_by shape batch)
    (all_filter (λ g. g < regions shape) (λ g. touches shape batch g) (range_with_len 0 (regions shape)) (each_below (regions shape) 0 (regions shape) (omega arith))))

map_both : (f : ℕ → List ℕ) (xs ys : List ℕ) → map f (xs ++ ys) ≡ map f xs ++ map f ys
map_both f [] ys = refl
map_both f (x ∷ xs) ys = ap (λ zs. f x ∷ zs) (map_both f xs ys)

abbrev pub roots_below : (ℕ → List ℕ) → (ℕ → Bool) → ℕ → List (List ℕ)
roots_below f test r = map f (filter test (map (λ g. g) (range_with_len 0 r)))

one_root : (f : ℕ → List ℕ) (test : ℕ → Bool) (r : ℕ) → roots_below f test (r + 1) ≡ roots_below f test r ++ map f (cond (test r) (r ∷ []) [])
one_root f test r =
    ap (map f) (filter_of_map_range_with_len_more test (λ g. g) 0 r r (omega arith))
    ∙ map_both f (filter test (map (λ g. g) (range_with_len 0 r))) (cond (test r) (r ∷ []) [])

pub root_more : (f : ℕ → List ℕ) (test : ℕ → Bool) (r : ℕ) (old new : List (List ℕ)) → test r ≡ true → old ≡ roots_below f test r → new ≡ old ++ f r ∷ [] → new ≡ roots_below f test (r + 1)
root_more f test r old new hit was is = is ∙ (ap (λ l. l ++ f r ∷ []) was ∙ sym (one_root f test r ∙ ap (λ t. roots_below f test r ++ map f (cond t (r ∷ []) [])) hit))

pub root_none : (f : ℕ → List ℕ) (test : ℕ → Bool) (r : ℕ) (old : List (List ℕ)) → test r ≡ false → old ≡ roots_below f test r → old ≡ roots_below f test (r + 1)
root_none f test r old miss was = was ∙ (sym (append-nil (roots_below f test r)) ∙ sym (one_root f test r ∙ ap (λ t. roots_below f test r ++ map f (cond t (r ∷ []) [])) miss))

map_id : (xs : List ℕ) → map (λ x. x) xs ≡ xs
map_id [] = refl
map_id (x ∷ xs) = ap (λ ys. x ∷ ys) (map_id xs)

pub roots_all : (f : ℕ → List ℕ) (test : ℕ → Bool) (r n : ℕ) (items : List (List ℕ)) → r ≡ n → items ≡ roots_below f test r → items ≡ map f (filter test (range_with_len 0 n))
roots_all f test r n items same is = is ∙ (ap (λ k. roots_below f test k) same ∙ ap (λ l. map f (filter test l)) (map_id (range_with_len 0 n)))

-- ---- a batch, write by write

pub one_write : (batch : List Write) (k : ℕ) (w : Write) (contents : List (List ℕ)) → k < length batch → w ≡ get_or batch k w
    → apply (apply contents (take k batch)) (w ∷ []) ≡ apply contents (take (k + 1) batch)
one_write batch k w contents within at =
    sym (apply_append (take k batch) (w ∷ []) contents)
    ∙ ap (apply contents) (ap (λ x. take k batch ++ x ∷ []) at ∙ sym (take_more batch k w within))

pub no_write : (contents : List (List ℕ)) → contents ≡ apply contents []
unfolding apply
no_write contents = refl
