-- A climb along the first siblings of a path: the last step, from either half, and the strings of it.
use Rattle.std.proofs.Common.{◌≡◌, ℕ, zero, suc, ◌+◌, ◌-◌, ◌*◌, ◌/◌, ◌%◌, ◌^◌, ◌<◌, ◌≤◌, ◌∙◌, List, [], ◌∷◌, ◌++◌, length, get_or, take, drop, refl, ap, sym, subst, inl, arith, length-append}
use Rattle.std.proofs.Math.Nat.{pow-suc}
use Rattle.std.proofs.Math.Numerals.{add-one, one-add}
use Rattle.std.proofs.lemmas.Nat.{shr-shr}
use Rattle.std.proofs.lemmas.List.{take_at, drop_at, take_more, length-take-le}
use Rattle.sha2.proofs.Facts256.{length-sha256}
use Rattle.salus_hash.specs.Hash.{inner, inner_string}
use Rattle.merkle_region.specs.Tree.{climb, climb_strings, parent, parent_string, IsAmong, NoTwoCollide}
use Rattle.merkle_region.proofs.Membership.{among_left, among_right}
use Rattle.merkle_region.proofs.Climbing.{climb-append, climb_strings-append, climb_strings-shifted, place_left, place_right}

-- a climb of digests gives a digest
pub length-climb : (i : ℕ) (digest : List ℕ) (path : List (List ℕ)) → length digest ≡ 32 → length (climb i digest path) ≡ 32
unfolding climb
length-climb i digest [] n = n
length-climb i digest (sibling ∷ path) n = length-climb (i / 2) (parent i digest sibling) path (length-sha256 _)

-- a climb in two parts
pub climb-parts : (i : ℕ) (digest : List ℕ) (front back : List (List ℕ))
    → climb i digest (front ++ back) ≡ climb (i / 2 ^ length front) (climb i digest front) back
unfolding climb
climb-parts i digest [] back = let same : i ≡ i / 1 = omega arith in ap (λ n. climb n digest back) same
climb-parts i digest (sibling ∷ front) back =
    let up : i / 2 / 2 ^ length front ≡ i / 2 ^ suc (length front) = rw one-add at (shr-shr i 1 (length front)) in
    climb-parts (i / 2) (parent i digest sibling) front back
    ∙ ap (λ n. climb n (climb (i / 2) (parent i digest sibling) front) back) up

half_higher : (i m : ℕ) → (i + 2 ^ suc m) / 2 ≡ i / 2 + 2 ^ m
half_higher i m = let q : 2 ^ suc m ≡ 2 ^ m * 2 = pow-suc 2 m in omega arith

parity_higher : (i m : ℕ) → (i + 2 ^ suc m) % 2 ≡ i % 2
parity_higher i m = let q : 2 ^ suc m ≡ 2 ^ m * 2 = pow-suc 2 m in omega arith

-- a path doesn't see the bits of the place above its siblings
pub climb-high : (i m : ℕ) (digest : List ℕ) (path : List (List ℕ)) → length path ≤ m → climb (i + 2 ^ m) digest path ≡ climb i digest path
unfolding climb
climb-high i m digest [] short = refl
climb-high i zero digest (sibling ∷ path) short = absurd (omega arith)
climb-high i (suc m) digest (sibling ∷ path) short =
    rw (half_higher i m, parity_higher i m) (climb-high (i / 2) m (parent i digest sibling) path (omega arith))

module _ (h i : ℕ) (digest : List ℕ) (path : List (List ℕ)) (levels : h < length path) where
  one_more : take (suc h) path ≡ take h path ++ get_or path h [] ∷ []
  one_more = rw (← add-one) (take_more path h [] levels)

  levels_of : length (take h path) ≡ h
  levels_of = length-take-le h path (omega arith)

  -- the last string of a climb
  last_string : climb_strings i digest (take (suc h) path)
      ≡ climb_strings i digest (take h path) ++ parent_string (i / 2 ^ h) (climb i digest (take h path)) (get_or path h []) ∷ []
  last_string =
      ap (climb_strings i digest) one_more
      ∙ (climb_strings-append i digest (take h path) (get_or path h [])
      ∙ ap (λ n. climb_strings i digest (take h path) ++ parent_string (i / 2 ^ n) (climb i digest (take h path)) (get_or path h []) ∷ []) levels_of)

  last_step : climb i digest (take (suc h) path) ≡ parent (i / 2 ^ h) (climb i digest (take h path)) (get_or path h [])
  last_step =
      ap (climb i digest) one_more
      ∙ (climb-append i digest (take h path) (get_or path h [])
      ∙ ap (λ n. parent (i / 2 ^ n) (climb i digest (take h path)) (get_or path h [])) levels_of)

  -- from the left half
  pub climb-left : i < 2 ^ h → climb i digest (take (suc h) path) ≡ inner (climb i digest (take h path)) (get_or path h [])
  climb-left below = last_step ∙ ap (λ n. parent n (climb i digest (take h path)) (get_or path h [])) (place_left i h below)

  pub climb_strings-left : i < 2 ^ h → climb_strings i digest (take (suc h) path)
      ≡ climb_strings i digest (take h path) ++ inner_string (climb i digest (take h path)) (get_or path h []) ∷ []
  climb_strings-left below =
      last_string
      ∙ ap (λ n. climb_strings i digest (take h path) ++ parent_string n (climb i digest (take h path)) (get_or path h []) ∷ []) (place_left i h below)

  -- from the right one
  lower : 2 ^ h ≤ i → climb i digest (take h path) ≡ climb (i - 2 ^ h) digest (take h path)
  lower above =
      let e : i - 2 ^ h + 2 ^ h ≡ i = omega arith in
      ap (λ k. climb k digest (take h path)) (sym e) ∙ climb-high (i - 2 ^ h) h digest (take h path) (omega (arith, levels_of))

  lower_strings : 2 ^ h ≤ i → climb_strings i digest (take h path) ≡ climb_strings (i - 2 ^ h) digest (take h path)
  lower_strings above =
      let e : i - 2 ^ h + 2 ^ h ≡ i = omega arith in
      ap (λ k. climb_strings k digest (take h path)) (sym e)
      ∙ (ap (λ n. climb_strings (i - 2 ^ h + 2 ^ n) digest (take h path)) (sym levels_of) ∙ climb_strings-shifted (i - 2 ^ h) digest (take h path))

  upper_place : 2 ^ h ≤ i → i < 2 ^ suc h → i / 2 ^ h ≡ 1
  upper_place above within =
      let q : 2 ^ suc h ≡ 2 ^ h * 2 = pow-suc 2 h in
      let e : i ≡ i - 2 ^ h + 2 ^ h = omega arith in
      ap (λ k. k / 2 ^ h) e ∙ place_right (i - 2 ^ h) h (omega arith)

  pub climb-right : 2 ^ h ≤ i → i < 2 ^ suc h
      → climb i digest (take (suc h) path) ≡ inner (get_or path h []) (climb (i - 2 ^ h) digest (take h path))
  climb-right above within =
      last_step
      ∙ (ap (λ n. parent n (climb i digest (take h path)) (get_or path h [])) (upper_place above within)
      ∙ ap (λ d. inner (get_or path h []) d) (lower above))

  pub climb_strings-right : 2 ^ h ≤ i → i < 2 ^ suc h → climb_strings i digest (take (suc h) path)
      ≡ climb_strings (i - 2 ^ h) digest (take h path) ++ inner_string (get_or path h []) (climb (i - 2 ^ h) digest (take h path)) ∷ []
  climb_strings-right above within =
      last_string
      ∙ (ap (λ n. climb_strings i digest (take h path) ++ parent_string n (climb i digest (take h path)) (get_or path h []) ∷ []) (upper_place above within)
      ∙ (ap (λ strings. strings ++ inner_string (get_or path h []) (climb i digest (take h path)) ∷ []) (lower_strings above)
      ∙ ap (λ d. climb_strings (i - 2 ^ h) digest (take h path) ++ inner_string (get_or path h []) d ∷ []) (lower above)))

-- every string of the first list is one of the second
abbrev pub AllAmong : List (List ℕ) → List (List ℕ) → Type 0
AllAmong xs strings = (x : List ℕ) → IsAmong x xs → IsAmong x strings

-- two strings of two digests each
same_fronts : (a b c d : List ℕ) → length a ≡ length c → a ++ b ≡ c ++ d → a ≡ c
same_fronts a b c d n e = sym (take_at a b (length c) n) ∙ (ap (take (length c)) e ∙ take_at c d (length c) refl)

rest_same : (a b c d : List ℕ) → length a ≡ length c → a ++ b ≡ c ++ d → b ≡ d
rest_same a b c d n e = sym (drop_at a b (length c) n) ∙ (ap (drop (length c)) e ∙ drop_at c d (length c) refl)

same_backs : (a b c d : List ℕ) → length b ≡ length d → a ++ b ≡ c ++ d → (a ≡ c) × (b ≡ d)
same_backs a b c d n e =
    let m : length a ≡ length c = omega (arith, length-append a b, length-append c d, ap length e) in
    (same_fronts a b c d m e, rest_same a b c d m e)

-- where no strings collide, a climb that ends at the digest of two halves came through the half that it started in, with the other beside it
module _ (strings : List (List ℕ)) (none : NoTwoCollide strings) (h i : ℕ) (digest : List ℕ) (path : List (List ℕ)) (levels : h < length path)
    (bytes : length digest ≡ 32) (left right : List ℕ) (known : IsAmong (inner_string left right) strings)
    (seen : AllAmong (climb_strings i digest (take (suc h) path)) strings) (reached : climb i digest (take (suc h) path) ≡ inner left right) where
  pub through_left : i < 2 ^ h → length left ≡ 32
      → (climb i digest (take h path) ≡ left) × (get_or path h [] ≡ right) × AllAmong (climb_strings i digest (take h path)) strings
  through_left below n =
      let parts = climb_strings-left h i digest path levels below in
      let mine = seen _ (subst (IsAmong (inner_string (climb i digest (take h path)) (get_or path h []))) (sym parts)
      (among_right _ (climb_strings i digest (take h path)) _ (inl refl))) in
      let whole : inner_string (climb i digest (take h path)) (get_or path h []) ≡ inner_string left right
      = none _ _ mine known (sym (climb-left h i digest path levels below) ∙ reached) in
      let size : length (climb i digest (take h path)) ≡ length left = length-climb i digest (take h path) bytes ∙ sym n in (
        same_fronts _ (get_or path h []) _ right size (ap (drop 1) whole),
        rest_same _ (get_or path h []) _ right size (ap (drop 1) whole),
        λ x m. seen x (subst (IsAmong x) (sym parts) (among_left x (climb_strings i digest (take h path)) _ m)),
      )

  pub through_right : 2 ^ h ≤ i → i < 2 ^ suc h → length right ≡ 32
      → (climb (i - 2 ^ h) digest (take h path) ≡ right) × (get_or path h [] ≡ left) × AllAmong (climb_strings (i - 2 ^ h) digest (take h path)) strings
  through_right above within n =
      let parts = climb_strings-right h i digest path levels above within in
      let mine = seen _ (subst (IsAmong (inner_string (get_or path h []) (climb (i - 2 ^ h) digest (take h path)))) (sym parts)
      (among_right _ (climb_strings (i - 2 ^ h) digest (take h path)) _ (inl refl))) in
      let whole : inner_string (get_or path h []) (climb (i - 2 ^ h) digest (take h path)) ≡ inner_string left right
      = none _ _ mine known (sym (climb-right h i digest path levels above within) ∙ reached) in
      let size : length (climb (i - 2 ^ h) digest (take h path)) ≡ length right = length-climb (i - 2 ^ h) digest (take h path) bytes ∙ sym n in
      let both = same_backs (get_or path h []) (climb (i - 2 ^ h) digest (take h path)) left right size (ap (drop 1) whole) in (
        both.1,
        both.0,
        λ x m. seen x (subst (IsAmong x) (sym parts) (among_left x (climb_strings (i - 2 ^ h) digest (take h path)) _ m)),
      )
