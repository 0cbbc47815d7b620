-- The changes of a pruned tree, from those of its parts.
use Rattle.std.proofs.Common.{◌≡◌, ℕ, ◌^◌, ◌<◌, ◌∙◌, List, length, take, ◌-◌, ap, sym, subst, refl, inl, inr, arith, length-set}
use Rattle.std.proofs.lemmas.List.{take_all}
use Rattle.std.proofs.lemmas.Bool.{cases_lt}
use Rattle.merkle_region.specs.Tree.{root_of, climb, climb_strings, IsAmong}
use Rattle.merkle_region.proofs.Membership.{among_left, among_right}
use Rattle.merkle_pruned.specs.Subtree.{Subtree, Closed, Opened, digest_of, closed_over, AgreesOn, IsSound, with_leaf}
use Rattle.merkle_pruned.specs.Path.{grafted, Meets}
use Rattle.merkle_pruned.specs.Tree.{PrunedTree, root_digest, Agrees, LeafSet, IsOpen, IsApart, Climbs, Grafted}
use Rattle.merkle_pruned.proofs.Halves.{digest_of-agrees, closed_over-left, closed_over-right}
use Rattle.merkle_pruned.proofs.Leaf.{with_leaf-there, with_leaf-elsewhere, with_leaf-agrees}
use Rattle.merkle_pruned.proofs.Opening.{grafted-there, grafted-stays}
use Rattle.merkle_pruned.proofs.Meeting.{meets, grafted-digest, grafted-agreed}
use Rattle.merkle_pruned.proofs.Keeping.{grafted-agrees}

-- the root of a tree is that of each list that it agrees with
pub root_digest-agrees : (t : PrunedTree) (blocks : List (List ℕ)) → Agrees t blocks → root_digest t ≡ root_of t.height blocks
root_digest-agrees t blocks agrees = digest_of-agrees t.tree t.height blocks agrees.known

-- a closed tree of the same root agrees with the same lists
pub closed-agrees : (t closed : PrunedTree) (blocks : List (List ℕ)) → closed.height ≡ t.height → closed.tree ≡ Closed (root_digest t) → Agrees t blocks
    → Agrees closed blocks
closed-agrees t closed blocks h p agrees = record {
  full = agrees.full ∙ ap (λ k. 2 ^ k) (sym h);
  known = subst (λ (q : Subtree). AgreesOn q closed.height blocks) (sym p) (root_digest-agrees t blocks agrees ∙ ap (λ k. root_of k blocks) (sym h));
}

set_in : (h : ℕ) (p : Subtree) (i : ℕ) (x : List ℕ) → IsSound p h → i < 2 ^ h → (closed_over p h i).0 ≡ 0
    → LeafSet (record { height = h; tree = p }) i x (record { height = h; tree = with_leaf p h i x })
set_in h p i x sound within opens = record {
  height = refl;
  there = with_leaf-there p h i x opens;
  elsewhere = λ j other ne. with_leaf-elsewhere p h i j x sound within other ne opens;
  agrees = λ blocks block agrees e. record {
    full = length-set blocks i block ∙ agrees.full;
    known = with_leaf-agrees p h i x blocks block opens agrees.full within agrees.known e;
  };
}

-- a subtree with another leaf is a tree with another leaf
pub LeafSet-from : (t : PrunedTree) (h : ℕ) (p q : Subtree) (i : ℕ) (x : List ℕ) → record { height = h; tree = p } ≡ t → IsSound p h
    → q ≡ with_leaf p h i x → i < 2 ^ t.height → IsOpen t i → LeafSet t i x (record { height = h; tree = q })
LeafSet-from t h p q i x e sound s =
    subst (λ (u : PrunedTree). i < 2 ^ u.height → IsOpen u i → LeafSet u i x (record { height = h; tree = q })) e
    (λ within opens. subst (λ (r : Subtree). LeafSet (record { height = h; tree = p }) i x (record { height = h; tree = r })) (sym s) (set_in h p i x sound within opens))

-- every closed digest of a sound subtree has 32 bytes
length-closed_over : (p : Subtree) (h i : ℕ) → IsSound p h → length (closed_over p h i).1 ≡ 32
length-closed_over (Closed d) h i sound = sound
length-closed_over (Opened l r) h i sound = elim (cases_lt i (2 ^ (h - 1))) [
  | inl below ↦ rw (closed_over-left l r h i below) (length-closed_over l (h - 1) i sound.1)
  | inr above ↦ rw (closed_over-right l r h i above) (length-closed_over r (h - 1) (i - 2 ^ (h - 1)) sound.2)
]

module _ (h : ℕ) (p : Subtree) (i : ℕ) (x : List ℕ) (path : List (List ℕ)) (sound : IsSound p h) (sound2 : IsSound (grafted p h i x path) h)
    (within : i < 2 ^ h) (levels : length path ≡ h) where
  bytes : length x ≡ 32
  bytes =
      ap (λ (q : ℕ × List ℕ). length q.1) (sym (grafted-there p h i x path sound within))
      ∙ length-closed_over (grafted p h i x path) h i sound2

  whole : take h path ≡ path
  whole = take_all h path (omega arith)

  met : Climbs (record { height = h; tree = p }) i x path → IsApart (record { height = h; tree = p }) i x path → Meets p h i x path
  met reached apart =
      meets _ apart p h i x path sound within (omega arith) bytes (λ s m. among_left s _ _ m)
      (λ s m. among_right s _ _ (subst (λ (w : List (List ℕ)). IsAmong s (climb_strings i x w)) whole m)) (ap (climb i x) whole ∙ reached)

  grafted_in : Grafted (record { height = h; tree = p }) i x path (record { height = h; tree = grafted p h i x path })
  unfolding climb
  grafted_in = record {
    height = refl;
    there = grafted-there p h i x path sound within;
    stays = λ j other ne opens. grafted-stays p h i j x path sound within other ne opens;
    root = λ reached apart. grafted-digest p h i x path sound within (omega arith) (met reached apart);
    leaf = λ reached apart opens. met reached apart ∙ ap (λ k. climb i x (take k path)) opens;
    agreed = λ reached apart blocks agrees. record {
      full = agrees.full;
      known = grafted-agreed p h i x path blocks sound within (omega arith) (met reached apart) agrees.known;
    };
    agrees = λ reached blocks none agrees. record {
      full = agrees.full;
      known = grafted-agrees _ none x path bytes p h i blocks within (omega arith) (λ s m. among_left s _ _ m)
          (λ s m. among_right s _ _ (subst (λ (w : List (List ℕ)). IsAmong s (climb_strings i x w)) whole m))
          (ap (climb i x) whole ∙ (reached ∙ digest_of-agrees p h blocks agrees.known)) agrees.known;
    };
  }

-- a subtree that is opened along a path is a tree that is
pub Grafted-from : (t : PrunedTree) (h : ℕ) (p q : Subtree) (i : ℕ) (x : List ℕ) (path : List (List ℕ)) → record { height = h; tree = p } ≡ t
    → IsSound p h → IsSound q h → q ≡ grafted p h i x path → i < 2 ^ t.height → length path ≡ t.height
    → Grafted t i x path (record { height = h; tree = q })
Grafted-from t h p q i x path e sound sound2 s =
    subst (λ (u : PrunedTree). i < 2 ^ u.height → length path ≡ u.height → Grafted u i x path (record { height = h; tree = q })) e
    (λ within levels. subst (λ (r : Subtree). Grafted (record { height = h; tree = p }) i x path (record { height = h; tree = r })) (sym s)
    (grafted_in h p i x path sound (subst (λ (r : Subtree). IsSound r h) s sound2) within levels))

-- and where the path meets the subtree, its root is the root that was held
pub root_digest-kept : (t : PrunedTree) (h : ℕ) (p q : Subtree) (i : ℕ) (x : List ℕ) (path : List (List ℕ)) (held : List ℕ) → record { height = h; tree = p } ≡ t
    → IsSound p h → q ≡ grafted p h i x path → i < 2 ^ t.height → length path ≡ t.height → Meets p h i x path → held ≡ root_digest t → held ≡ digest_of q
root_digest-kept t h p q i x path held e sound s =
    subst (λ (u : PrunedTree). i < 2 ^ u.height → length path ≡ u.height → Meets p h i x path → held ≡ root_digest u → held ≡ digest_of q) e
    (λ within levels meets same. same ∙ (sym (grafted-digest p h i x path sound within (omega arith) meets) ∙ ap digest_of (sym s)))
