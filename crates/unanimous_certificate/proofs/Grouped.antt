-- Tests and least numbers over a region's replicas, one replica at a time.
use Rattle.std.proofs.Common.{◌≡◌, ◌∙◌, ℕ, zero, suc, ◌+◌, ◌<◌, ◌≤◌, Bool, true, false, ◌&&◌, List, [], ◌∷◌, ◌++◌, map, length, Option, None, Some, refl, sym, ap, arith}
use Rattle.std.specs.List.{list_all, range_with_len}
use Rattle.std.proofs.lemmas.Slice.Eq.{bytes_eq-Decides}
use Rattle.std.proofs.lemmas.List.FromFn.{length-map-range_with_len, get_or-map-range_with_len, map-range_with_len_more}
use Rattle.std.proofs.lemmas.List.Folds.{list_all_at, list_all-map}
use Rattle.std.proofs.lemmas.Simd.{map-map}
use Rattle.salus_types.specs.Volume.{Shape, regions}
use Rattle.salus_types.specs.declared.names.NodeName.{NodeName}
use Rattle.volume_model.specs.Contents.{all_regions}
use Rattle.volume_model.specs.Groups.{group_of}
use Rattle.replica_rules.specs.Voting.{all_one, is_root, lesser, greater, least_of, greatest_of}

abbrev pub replica_of : ℕ → ℕ → NodeName
replica_of g r = record { region = g; replica = r }

-- a test passes at all of a range, where it does at each
all_in_range : {X : Type 0} (p : X → Bool) (f : ℕ → X) (from n : ℕ) → ((k : ℕ) → k < n → p (f (from + k)) ≡ true) → list_all p (map f (range_with_len from n)) ≡ true
all_in_range p f from zero each = refl
all_in_range p f from (suc n) each =
    let first : p (f from) ≡ true = ap (λ k. p (f k)) (omega arith) ∙ each 0 (omega arith) in
    let rest : list_all p (map f (range_with_len (from + 1) n)) ≡ true =
    all_in_range p f (from + 1) n (λ k short. ap (λ j. p (f j)) (omega arith) ∙ each (k + 1) (omega arith)) in
    ap (λ b. b && list_all p (map f (range_with_len (from + 1) n))) first ∙ rest

-- every replica of the region passes
pub group_passes : (p : NodeName → Bool) (shape : Shape) (g : ℕ) → ((r : ℕ) → r < shape.replicas → p (replica_of g r) ≡ true) → list_all p (group_of shape g) ≡ true
group_passes p shape g each = all_in_range p (λ r. replica_of g r) 0 shape.replicas (λ r short. ap (λ j. p (replica_of g j)) (omega arith) ∙ each r short)

-- one replica of the region fails
pub group_fails : (p : NodeName → Bool) (shape : Shape) (g r : ℕ) → r < shape.replicas → p (replica_of g r) ≡ false → list_all p (group_of shape g) ≡ false
group_fails p shape g r there fails =
    list_all_at p (group_of shape g) r (replica_of g r)
    (let long : length (group_of shape g) ≡ shape.replicas = length-map-range_with_len (λ r. replica_of g r) 0 shape.replicas in omega arith)
    (ap p (get_or-map-range_with_len (λ r. replica_of g r) 0 shape.replicas r r (replica_of g r) there (omega arith)) ∙ fails)

-- the first replica's root decides
root_is_itself : (root : List ℕ) → is_root root (Some root) ≡ true
root_is_itself root = (bytes_eq-Decides root root).1 refl

one_root : {X : Type 0} (f : X → Option (List ℕ)) (x : X) (xs : List X) (root : List ℕ) → f x ≡ Some root → all_one (map f (x ∷ xs)) ≡ list_all (λ y. is_root root (f y)) (x ∷ xs)
one_root f x xs root is =
    ap (λ o. all_one (o ∷ map f xs)) is ∙ list_all-map (λ o. is_root root o) f xs
    ∙ sym (ap (λ b. b && list_all (λ y. is_root root (f y)) xs) (ap (λ o. is_root root o) is ∙ root_is_itself root))

no_root : {X : Type 0} (f : X → Option (List ℕ)) (x : X) (xs : List X) → f x ≡ None → all_one (map f (x ∷ xs)) ≡ false
no_root f x xs is = ap (λ o. all_one (o ∷ map f xs)) is

-- a group has a first replica
group_first : (shape : Shape) (g : ℕ) → 1 ≤ shape.replicas → (rest : List NodeName) × (group_of shape g ≡ replica_of g 0 ∷ rest)
group_first shape g some = first shape.replicas some where
  first : (n : ℕ) → 1 ≤ n → (rest : List NodeName) × (map (λ r. replica_of g r) (range_with_len 0 n) ≡ replica_of g 0 ∷ rest)
  first zero some = absurd (omega arith)
  first (suc n) some = (map (λ r. replica_of g r) (range_with_len (0 + 1) n), refl)

pub group_has_root : (f : NodeName → Option (List ℕ)) (shape : Shape) (g : ℕ) (root : List ℕ) → 1 ≤ shape.replicas → f (replica_of g 0) ≡ Some root
    → all_one (map f (group_of shape g)) ≡ list_all (λ name. is_root root (f name)) (group_of shape g)
group_has_root f shape g root some is =
    let first : (rest : List NodeName) × (group_of shape g ≡ replica_of g 0 ∷ rest) = group_first shape g some in
    ap (λ l. all_one (map f l)) first.1 ∙ one_root f (replica_of g 0) first.0 root is ∙ sym (ap (λ l. list_all (λ name. is_root root (f name)) l) first.1)

pub group_has_none : (f : NodeName → Option (List ℕ)) (shape : Shape) (g : ℕ) → 1 ≤ shape.replicas → f (replica_of g 0) ≡ None → all_one (map f (group_of shape g)) ≡ false
group_has_none f shape g some is =
    let first : (rest : List NodeName) × (group_of shape g ≡ replica_of g 0 ∷ rest) = group_first shape g some in
    ap (λ l. all_one (map f l)) first.1 ∙ no_root f (replica_of g 0) first.0 is

-- ---- the least and the greatest

lesser_assoc : (a b c : ℕ) → lesser a (lesser b c) ≡ lesser (lesser a b) c
lesser_assoc a b c = grind arith

least_more : (x : ℕ) (xs : List ℕ) (y : ℕ) → least_of (x ∷ xs ++ y ∷ []) ≡ lesser (least_of (x ∷ xs)) y
unfolding least_of
least_more x [] y = refl
least_more x (z ∷ xs) y = ap (λ n. lesser x n) (least_more z xs y) ∙ lesser_assoc x (least_of (z ∷ xs)) y

greater_assoc : (a b c : ℕ) → greater a (greater b c) ≡ greater (greater a b) c
greater_assoc a b c = grind arith

greatest_more : (xs : List ℕ) (y : ℕ) → greatest_of (xs ++ y ∷ []) ≡ greater (greatest_of xs) y
unfolding greatest_of
greatest_more [] y = grind arith
greatest_more (x ∷ xs) y = ap (λ n. greater x n) (greatest_more xs y) ∙ greater_assoc x (greatest_of xs) y

-- the least of the claims of the first so many replicas
pub least_of_first : (NodeName → ℕ) → ℕ → ℕ → ℕ
least_of_first claims g n = least_of (map (λ r. claims (replica_of g r)) (range_with_len 0 n))

pub least_of_first-one : (claims : NodeName → ℕ) (g : ℕ) → least_of_first claims g 1 ≡ claims (replica_of g 0)
unfolding least_of_first least_of
least_of_first-one claims g = refl

pub least_of_first-more : (claims : NodeName → ℕ) (g n : ℕ) → 1 ≤ n → least_of_first claims g (n + 1) ≡ lesser (least_of_first claims g n) (claims (replica_of g n))
unfolding least_of_first
least_of_first-more claims g n some = with_first n some where
  f : ℕ → ℕ
  f r = claims (replica_of g r)

  with_first : (n : ℕ) → 1 ≤ n → least_of (map f (range_with_len 0 (n + 1))) ≡ lesser (least_of (map f (range_with_len 0 n))) (f n)
  with_first zero some = absurd (omega arith)
  with_first (suc n) some =
      ap least_of (map-range_with_len_more f 0 (suc n) (suc n) (omega arith))
      ∙ least_more (f 0) (map f (range_with_len (0 + 1) n)) (f (suc n))

pub least_of_first-all : (claims : NodeName → ℕ) (shape : Shape) (g : ℕ) → least_of_first claims g shape.replicas ≡ least_of (map claims (group_of shape g))
unfolding least_of_first
least_of_first-all claims shape g = ap least_of (sym (map-map claims (λ r. replica_of g r) (range_with_len 0 shape.replicas)))

-- the greatest of what the first so many regions give
pub greatest_of_first : (ℕ → ℕ) → ℕ → ℕ
greatest_of_first f n = greatest_of (map f (range_with_len 0 n))

pub greatest_of_first-none : (f : ℕ → ℕ) → greatest_of_first f 0 ≡ 0
unfolding greatest_of_first greatest_of
greatest_of_first-none f = refl

pub greatest_of_first-more : (f : ℕ → ℕ) (n : ℕ) → greatest_of_first f (n + 1) ≡ greater (greatest_of_first f n) (f n)
unfolding greatest_of_first
greatest_of_first-more f n = ap greatest_of (map-range_with_len_more f 0 n n (omega arith)) ∙ greatest_more (map f (range_with_len 0 n)) (f n)

pub greatest_of_first-all : (f : ℕ → ℕ) (shape : Shape) → greatest_of_first f (regions shape) ≡ greatest_of (map f (all_regions shape))
unfolding greatest_of_first
greatest_of_first-all f shape = refl
