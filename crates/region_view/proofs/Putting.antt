-- Changes that are put into a tree one after another, and the way back.
use Rattle.std.proofs.Common.{◌≡◌, ◌∙◌, ℕ, ◌+◌, ◌<◌, ◌≤◌, List, [], ◌∷◌, ◌++◌, length, map, take, drop, reverse, get_or, set, refl, sym, ap, subst, arith, Some}
use Rattle.std.proofs.lemmas.List.{drop_more, drop-set-lt, drop_all, take_more_set, take_all, reverse-append, map-set, set-get_or, get_or-map}
use Rattle.std.proofs.lemmas.List.Elements.{All-pop}
use Rattle.salus_types.specs.declared.records.PlaceWrite.{PlaceWrite}
use Rattle.merkle_region.specs.Tree.{block_at}
use Rattle.holding_model.specs.Fitting.{blocks_written}
use Rattle.region_view.specs.Changes.{AreWithin}
use Rattle.region_view.proofs.Written.{blocks_written-none, blocks_written-cons, set_back}

abbrev pub place_of : PlaceWrite → ℕ
place_of w = w.place

-- The first n changes are put, and each has in its block's stead the one that stood there: those left lead to the same
-- blocks as all of them did, those that are put lead back, and all are at their places.
pub record ArePut (before : List (List ℕ)) (old : List PlaceWrite) (after : List (List ℕ)) (new : List PlaceWrite) (n : ℕ) : Type 0 where
  pub left : blocks_written after (drop n new) ≡ blocks_written before old
  pub back : blocks_written after (reverse (take n new)) ≡ before
  pub places : map place_of new ≡ map place_of old

pub put-none : (blocks : List (List ℕ)) (changes : List PlaceWrite) → ArePut blocks changes blocks changes 0
put-none blocks changes = record { left = refl; back = blocks_written-none blocks; places = refl }

module _ (before : List (List ℕ)) (old : List PlaceWrite) (after : List (List ℕ)) (new : List PlaceWrite) (n : ℕ) where
  pub put-more : ArePut before old after new n → (x y : PlaceWrite) → n < length new → x ≡ get_or new n x → y ≡ record x { bytes = block_at after x.place }
      → ArePut before old (set after x.place x.bytes) (set new n y) (n + 1)
  put-more put x y within is kept =
      let place : y.place ≡ x.place = ap place_of kept in
      let bytes : y.bytes ≡ block_at after x.place = ap (λ (w : PlaceWrite). w.bytes) kept in
      let next : drop n new ≡ x ∷ drop (n + 1) new = drop_more new n x within ∙ ap (λ (w : PlaceWrite). w ∷ drop (n + 1) new) (sym is) in
      let rest : drop (n + 1) (set new n y) ≡ drop (n + 1) new = drop-set-lt (n + 1) new n y (omega arith) in
      let turned : reverse (take (n + 1) (set new n y)) ≡ y ∷ reverse (take n new) = ap reverse (take_more_set new n y within) ∙ reverse-append (take n new) (y ∷ []) in
      let again : set (set after x.place x.bytes) y.place y.bytes ≡ after = rw (place, bytes) (set_back after x.place x.bytes) in
      let was : get_or (map place_of new) n x.place ≡ x.place = get_or-map place_of new n x x.place within ∙ ap place_of (sym is) in
      record {
        left = ap (blocks_written (set after x.place x.bytes)) rest ∙ (sym (blocks_written-cons after x (drop (n + 1) new)) ∙ (ap (blocks_written after) (sym next) ∙ put.left));
        back =
            ap (blocks_written (set after x.place x.bytes)) turned
            ∙ (blocks_written-cons (set after x.place x.bytes) y (reverse (take n new)) ∙ (ap (λ blocks. blocks_written blocks (reverse (take n new))) again ∙ put.back));
        places =
            map-set place_of new n y
            ∙ (ap (set (map place_of new) n) (place ∙ sym was) ∙ (set-get_or (map place_of new) n x.place ∙ put.places));
      }

  pub put-left : ArePut before old after new n → length new ≤ n → after ≡ blocks_written before old
  put-left put all = sym (blocks_written-none after) ∙ (ap (blocks_written after) (sym (drop_all n new all)) ∙ put.left)

  pub put-back : ArePut before old after new n → length new ≤ n → blocks_written after (reverse new) ≡ before
  put-back put all = ap (λ (changes : List PlaceWrite). blocks_written after (reverse changes)) (sym (take_all n new all)) ∙ put.back

-- changes at the same places are within the same bounds
pub same_within : (old new : List PlaceWrite) (m : ℕ) → map place_of new ≡ map place_of old → length new ≡ length old → AreWithin m old → AreWithin m new
same_within old new m same long within = λ k d inside.
    let read : place_of (get_or new k d) ≡ place_of (get_or old k d)
    = sym (get_or-map place_of new k d (place_of d) inside) ∙ (ap (λ (places : List ℕ). get_or places k (place_of d)) same ∙ get_or-map place_of old k d (place_of d) (omega arith)) in
    subst (λ p. p < m) (sym read) (within k d (omega arith))

-- ---- back

-- the last of some changes is put
pub back-more : (blocks : List (List ℕ)) (changes left : List PlaceWrite) (w : PlaceWrite) → changes ≡ left ++ w ∷ []
    → blocks_written blocks (reverse changes) ≡ blocks_written (set blocks w.place w.bytes) (reverse left)
back-more blocks changes left w is =
    let turned : reverse changes ≡ w ∷ reverse left = ap reverse is ∙ reverse-append left (w ∷ []) in
    ap (blocks_written blocks) turned ∙ blocks_written-cons blocks w (reverse left)

-- none is left
pub back-none : (blocks : List (List ℕ)) (changes : List PlaceWrite) → changes ≡ [] → blocks ≡ blocks_written blocks (reverse changes)
back-none blocks changes none = sym (ap (λ (left : List PlaceWrite). blocks_written blocks (reverse left)) none ∙ blocks_written-none blocks)

pub front_within : (changes left : List PlaceWrite) (w : PlaceWrite) (m : ℕ) → changes ≡ left ++ w ∷ [] → AreWithin m changes → AreWithin m left
front_within changes left w m is within = (All-pop (λ (v : PlaceWrite). v.place < m) changes left (Some w) is within).0
