-- A path that verifies carries the block at its place, where no two strings collide.
use Rattle.std.proofs.Common.{◌≡◌, ℕ, zero, suc, ◌+◌, ◌-◌, ◌/◌, ◌^◌, ◌<◌, ◌∙◌, List, [], ◌∷◌, ◌++◌, length, get_or, take, drop, slice_get, Some, inl, inr, refl, ap, sym, subst, arith, length-append}
use Rattle.std.proofs.lemmas.Bool.{cases_lt}
use Rattle.std.proofs.lemmas.List.{take_at, drop_at, take_more, take_all, length-take-le, get_or-take}
use Rattle.std.proofs.lemmas.Option.{slice_get-get_or}
use Rattle.sha2.specs.Sha256.{sha256}
use Rattle.sha2.proofs.Facts256.{length-sha256}
use Rattle.salus_hash.specs.Hash.{leaf, leaf_string, inner_string}
use Rattle.merkle_region.specs.Tree.{root_of, tree_strings, climb, climb_strings, path_strings, parent, parent_string, block_at, IsAmong, NoTwoCollide, Verifies, Carries}
use Rattle.merkle_region.proofs.Membership.{among_left, among_right}
use Rattle.merkle_region.proofs.Climbing.{climb-append, climb_strings-append, climb-shifted, climb_strings-shifted, place_left, place_right}
use Rattle.merkle_region.proofs.Reached.{length-left_half, length-right_half, below_half, block_at-right}

-- two strings of two parts, of which the first ones have one length
same_fronts : (a b c d : List ℕ) → length a ≡ length c → a ++ b ≡ c ++ d → a ≡ c
same_fronts a b c d n e = sym (take_at a b (length c) n) ∙ (ap (take (length c)) e ∙ take_at c d (length c) refl)

-- or the last ones
same_backs : (a b c d : List ℕ) → length b ≡ length d → a ++ b ≡ c ++ d → b ≡ d
same_backs a b c d n e =
    let m : length a ≡ length c = omega (arith, length-append a b, length-append c d, ap length e) in
    sym (drop_at a b (length c) m) ∙ (ap (drop (length c)) e ∙ drop_at c d (length c) refl)

-- every computed digest has 32 bytes
pub length-root_of : (h : ℕ) (blocks : List (List ℕ)) → length (root_of h blocks) ≡ 32
unfolding root_of
length-root_of zero blocks = length-sha256 _
length-root_of (suc h) blocks = length-sha256 _

pub length-climb : (i : ℕ) (string : List ℕ) (path : List (List ℕ)) → length (climb i (sha256 string) path) ≡ 32
unfolding climb
length-climb i string [] = length-sha256 string
length-climb i string (sibling ∷ path) = length-climb (i / 2) (parent_string i (sha256 string) sibling) path

-- the strings of the tree and of the path are among these
record SeenIn (strings : List (List ℕ)) (h : ℕ) (blocks : List (List ℕ)) (i : ℕ) (block : List ℕ) (path : List (List ℕ)) : Type 0 where
  of_tree : (x : List ℕ) → IsAmong x (tree_strings h blocks) → IsAmong x strings
  of_path : (x : List ℕ) → IsAmong x (path_strings i block path) → IsAmong x strings

-- the string of the last step is among those of the path
last_among : (i : ℕ) (block : List ℕ) (front : List (List ℕ)) (last : List ℕ)
    → IsAmong (parent_string (i / 2 ^ length front) (climb i (leaf block) front) last) (path_strings i block (front ++ last ∷ []))
last_among i block front last =
    inr (rw (climb_strings-append i (leaf block) front last) (among_right _ (climb_strings i (leaf block) front) _ (inl refl)))

-- those of a shorter path are
front_among : (i : ℕ) (block : List ℕ) (front : List (List ℕ)) (last x : List ℕ)
    → IsAmong x (path_strings i block front) → IsAmong x (path_strings i block (front ++ last ∷ []))
front_among i block front last x (inl e) = inl e
front_among i block front last x (inr m) =
    inr (rw (climb_strings-append i (leaf block) front last) (among_left x (climb_strings i (leaf block) front) _ m))

shifted_among : (i j h : ℕ) (block : List ℕ) (front : List (List ℕ)) (x : List ℕ) → length front ≡ h → i ≡ j + 2 ^ h
    → IsAmong x (path_strings j block front) → IsAmong x (path_strings i block front)
shifted_among i j h block front x n s m =
    let same : climb_strings i (leaf block) front ≡ climb_strings j (leaf block) front = rw (s, ← n) (climb_strings-shifted j (leaf block) front) in
    subst (λ strings. IsAmong x (leaf_string block ∷ strings)) (sym same) m

-- in the left half
left_seen : (strings : List (List ℕ)) (h : ℕ) (blocks : List (List ℕ)) (i : ℕ) (block : List ℕ) (front : List (List ℕ)) (last : List ℕ)
    → SeenIn strings (suc h) blocks i block (front ++ last ∷ []) → SeenIn strings h (take (2 ^ h) blocks) i block front
unfolding tree_strings
left_seen strings h blocks i block front last seen = record {
  of_tree = λ x m. seen.of_tree x (inr (among_left x (tree_strings h (take (2 ^ h) blocks)) (tree_strings h (drop (2 ^ h) blocks)) m));
  of_path = λ x m. seen.of_path x (front_among i block front last x m);
}

left_reached : (strings : List (List ℕ)) (none : NoTwoCollide strings) (h : ℕ) (blocks : List (List ℕ)) (i : ℕ) (block : List ℕ) (front : List (List ℕ)) (last : List ℕ)
    → SeenIn strings (suc h) blocks i block (front ++ last ∷ []) → length front ≡ h → i < 2 ^ h
    → climb i (leaf block) (front ++ last ∷ []) ≡ root_of (suc h) blocks → climb i (leaf block) front ≡ root_of h (take (2 ^ h) blocks)
unfolding root_of tree_strings
left_reached strings none h blocks i block front last seen n below e =
    let place : i / 2 ^ length front ≡ 0 = rw n (place_left i h below) in
    let top = ap (λ k. parent k (climb i (leaf block) front) last) (sym place) ∙ (sym (climb-append i (leaf block) front last) ∙ e) in
    let here = subst (λ k. IsAmong (parent_string k (climb i (leaf block) front) last) (path_strings i block (front ++ last ∷ []))) place (last_among i block front last) in
    let whole : inner_string (climb i (leaf block) front) last ≡ inner_string (root_of h (take (2 ^ h) blocks)) (root_of h (drop (2 ^ h) blocks))
    = none _ _ (seen.of_path _ here) (seen.of_tree _ (inl refl)) top in
    same_fronts _ last _ (root_of h (drop (2 ^ h) blocks)) (length-climb i (leaf_string block) front ∙ sym (length-root_of h (take (2 ^ h) blocks))) (ap (drop 1) whole)

-- in the right half
right_seen : (strings : List (List ℕ)) (h : ℕ) (blocks : List (List ℕ)) (i j : ℕ) (block : List ℕ) (front : List (List ℕ)) (last : List ℕ)
    → length front ≡ h → i ≡ j + 2 ^ h
    → SeenIn strings (suc h) blocks i block (front ++ last ∷ []) → SeenIn strings h (drop (2 ^ h) blocks) j block front
unfolding tree_strings
right_seen strings h blocks i j block front last n s seen = record {
  of_tree = λ x m. seen.of_tree x (inr (among_right x (tree_strings h (take (2 ^ h) blocks)) (tree_strings h (drop (2 ^ h) blocks)) m));
  of_path = λ x m. seen.of_path x (front_among i block front last x (shifted_among i j h block front x n s m));
}

right_reached : (strings : List (List ℕ)) (none : NoTwoCollide strings) (h : ℕ) (blocks : List (List ℕ)) (i j : ℕ) (block : List ℕ) (front : List (List ℕ)) (last : List ℕ)
    → SeenIn strings (suc h) blocks i block (front ++ last ∷ []) → length front ≡ h → j < 2 ^ h → i ≡ j + 2 ^ h
    → climb i (leaf block) (front ++ last ∷ []) ≡ root_of (suc h) blocks → climb j (leaf block) front ≡ root_of h (drop (2 ^ h) blocks)
unfolding root_of tree_strings
right_reached strings none h blocks i j block front last seen n below s e =
    let place : i / 2 ^ length front ≡ 1 = rw (n, s) (place_right j h below) in
    let low : climb i (leaf block) front ≡ climb j (leaf block) front = rw (s, ← n) (climb-shifted j (leaf block) front) in
    let top = ap (λ k. parent k (climb i (leaf block) front) last) (sym place) ∙ (sym (climb-append i (leaf block) front last) ∙ e) in
    let here = subst (λ k. IsAmong (parent_string k (climb i (leaf block) front) last) (path_strings i block (front ++ last ∷ []))) place (last_among i block front last) in
    let whole : inner_string last (climb i (leaf block) front) ≡ inner_string (root_of h (take (2 ^ h) blocks)) (root_of h (drop (2 ^ h) blocks))
    = none _ _ (seen.of_path _ here) (seen.of_tree _ (inl refl)) top in
    sym low ∙ same_backs last _ (root_of h (take (2 ^ h) blocks)) _ (length-climb i (leaf_string block) front ∙ sym (length-root_of h (drop (2 ^ h) blocks))) (ap (drop 1) whole)

-- a path of h + 1 digests has a last one
last_of : (h : ℕ) (path : List (List ℕ)) → length path ≡ suc h → path ≡ take h path ++ get_or path h [] ∷ []
last_of h path n =
    let whole : take (h + 1) path ≡ path = take_all (h + 1) path (omega arith) in
    sym whole ∙ take_more path h [] (omega arith)

-- what the induction goes over
abbrev CarriesAt : List (List ℕ) → ℕ → Type 0
CarriesAt strings h = (blocks : List (List ℕ)) (i : ℕ) (block : List ℕ) (path : List (List ℕ)) → length blocks ≡ 2 ^ h → i < 2 ^ h
    → SeenIn strings h blocks i block path → length path ≡ h → climb i (leaf block) path ≡ root_of h blocks → block ≡ block_at blocks i

carried_leaf : (strings : List (List ℕ)) → NoTwoCollide strings → (blocks : List (List ℕ)) (i : ℕ) (block : List ℕ) → i ≡ 0
    → SeenIn strings 0 blocks i block [] → climb i (leaf block) [] ≡ root_of 0 blocks → block ≡ block_at blocks i
unfolding climb tree_strings root_of
carried_leaf strings none blocks i block first seen e =
    let whole : leaf_string block ≡ leaf_string (block_at blocks 0) = none _ _ (seen.of_path _ (inl refl)) (seen.of_tree _ (inl refl)) e in
    rw first (ap (drop 1) whole)

carried_more : (strings : List (List ℕ)) → NoTwoCollide strings → (h : ℕ) → CarriesAt strings h
    → (blocks : List (List ℕ)) (i : ℕ) (block : List ℕ) (front : List (List ℕ)) (last : List ℕ) → length blocks ≡ 2 ^ suc h → i < 2 ^ suc h
    → SeenIn strings (suc h) blocks i block (front ++ last ∷ []) → length front ≡ h
    → climb i (leaf block) (front ++ last ∷ []) ≡ root_of (suc h) blocks → block ≡ block_at blocks i
carried_more strings none h lower blocks i block front last n within seen m e = elim (cases_lt i (2 ^ h)) [
  | inl below ↦
      lower (take (2 ^ h) blocks) i block front (length-left_half h blocks n) below (left_seen strings h blocks i block front last seen) m
      (left_reached strings none h blocks i block front last seen m below e)
      ∙ get_or-take (2 ^ h) blocks i [] below
  | inr above ↦
      let s : i ≡ i - 2 ^ h + 2 ^ h = omega arith in
      let below = below_half h i within above in
      lower (drop (2 ^ h) blocks) (i - 2 ^ h) block front (length-right_half h blocks n) below (right_seen strings h blocks i (i - 2 ^ h) block front last m s seen) m
      (right_reached strings none h blocks i (i - 2 ^ h) block front last seen m below s e)
      ∙ block_at-right h i blocks above
]

carried_in : (strings : List (List ℕ)) → NoTwoCollide strings → (h : ℕ) → CarriesAt strings h
carried_in strings none zero blocks i block [] n within seen m e = carried_leaf strings none blocks i block (omega arith) seen e
carried_in strings none zero blocks i block (sibling ∷ path) n within seen m e = absurd (omega arith)
carried_in strings none (suc h) blocks i block path n within seen m e =
    let parts = last_of h path m in
    carried_more strings none h (carried_in strings none h) blocks i block (take h path) (get_or path h []) n within
    (subst (λ p. SeenIn strings (suc h) blocks i block p) parts seen) (length-take-le h path (omega arith))
    (subst (λ p. climb i (leaf block) p ≡ root_of (suc h) blocks) parts e)

-- a path that verifies against the root of these blocks carries the block at its place
pub carried : (height : ℕ) (blocks : List (List ℕ)) (i : ℕ) (block : List ℕ) (path : List (List ℕ)) → length blocks ≡ 2 ^ height → i < 2 ^ height
    → NoTwoCollide (tree_strings height blocks ++ path_strings i block path) → Verifies (root_of height blocks) height i block path
    → slice_get blocks i ≡ Some block
carried height blocks i block path n within none good =
    let seen : SeenIn (tree_strings height blocks ++ path_strings i block path) height blocks i block path = record {
      of_tree = λ x m. among_left x (tree_strings height blocks) (path_strings i block path) m;
      of_path = λ x m. among_right x (tree_strings height blocks) (path_strings i block path) m;
    } in
    let same : block ≡ block_at blocks i = carried_in (tree_strings height blocks ++ path_strings i block path) none height blocks i block path n within seen good.levels good.climbs in
    slice_get-get_or blocks i [] (omega arith) ∙ ap Some (sym same)

pub Verifies-Carries : (root : List ℕ) (height i : ℕ) (block : List ℕ) (path : List (List ℕ)) → Verifies root height i block path → Carries root height i block path
unfolding Carries
Verifies-Carries root height i block path good = λ blocks n within e none.
    carried height blocks i block path n within none (record { levels = good.levels; climbs = good.climbs ∙ e })
