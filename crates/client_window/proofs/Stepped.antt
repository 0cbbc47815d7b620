-- Steps of the loops over parts and roots.
use Rattle.std.proofs.Common.{◌≡◌, ℕ, zero, suc, ◌+◌, ◌<◌, ◌∙◌, Bool, true, false, ◌&&◌, List, [], ◌∷◌, ◌++◌, map, length, take, drop, set, get_or, ◌⊎◌, inl, inr, refl, ap, ap₂, sym, subst, arith, append-nil, append_assoc}
use Rattle.std.specs.Prelude.{slice_index}
use Rattle.std.specs.List.{list_all}
use Rattle.std.proofs.lemmas.List.{length-map}
use Rattle.std.proofs.Math.Seq.{take-append_seam}
use Rattle.salus_types.specs.Volume.{Shape}
use Rattle.salus_types.specs.declared.records.Header.{Header}
use Rattle.salus_types.specs.declared.records.Record.{Record}
use Rattle.volume_model.specs.Contents.{Batch}
use Rattle.client_window.specs.Untagged.{with_roots}
use Rattle.client_window.specs.Parting.{header_for, part_for, parts_for}

both_true : (a b : Bool) → (a && b) ≡ true → (a ≡ true) × (b ≡ true)
both_true true b h = (refl, h)
both_true false b h = absurd (cc)

pub rest_within : (test : ℕ → Bool) (gs left : List ℕ) (g : ℕ) → gs ≡ g ∷ left → list_all test gs ≡ true → list_all test left ≡ true
rest_within test gs left g is all = (both_true (test g) (list_all test left) (subst (λ l. list_all test l ≡ true) is all)).1

-- ---- roots

pub roots_step : (gs gs_left : List ℕ) (news news_left roots : List (List ℕ)) (g : ℕ) (new : List ℕ) → gs ≡ g ∷ gs_left → news ≡ new ∷ news_left
    → with_roots gs news roots ≡ with_roots gs_left news_left (set roots g new)
unfolding with_roots
roots_step gs gs_left news news_left roots g new first second = ap₂ (λ a b. with_roots a b roots) first second

pub roots_end : (gs : List ℕ) (news roots : List (List ℕ)) → (gs ≡ []) ⊎ (news ≡ []) → with_roots gs news roots ≡ roots
unfolding with_roots
roots_end gs news roots (inl none) = ap (λ l. with_roots l news roots) none
roots_end [] news roots (inr none) = refl
roots_end (g ∷ gs) news roots (inr none) = ap (λ l. with_roots (g ∷ gs) l roots) none

-- ---- parts

module _ (shape : Shape) (batch : Batch) (shared : Header) (numbers : List ℕ) where
  pub parts_step : (items after all : List Record) (part : Record) (gs gs_left : List ℕ) (news news_left : List (List ℕ)) (g : ℕ) (new : List ℕ) → gs ≡ g ∷ gs_left → news ≡ new ∷ news_left
      → after ≡ items ++ part ∷ [] → part ≡ part_for shape batch (header_for shared g (slice_index numbers g) new)
      → items ++ parts_for shape batch shared numbers gs news ≡ all → after ++ parts_for shape batch shared numbers gs_left news_left ≡ all
  unfolding parts_for
  parts_step items after all part gs gs_left news news_left g new first second pushed is so_far =
      ap (λ l. l ++ parts_for shape batch shared numbers gs_left news_left) pushed
      ∙ append_assoc items (part ∷ []) (parts_for shape batch shared numbers gs_left news_left)
      ∙ ap (λ p. items ++ p ∷ parts_for shape batch shared numbers gs_left news_left) is
      ∙ sym (ap₂ (λ a b. items ++ parts_for shape batch shared numbers a b) first second) ∙ so_far

  pub parts_end : (items all : List Record) (gs : List ℕ) (news : List (List ℕ)) → (gs ≡ []) ⊎ (news ≡ []) → items ++ parts_for shape batch shared numbers gs news ≡ all → items ≡ all
  unfolding parts_for
  parts_end items all gs news (inl none) so_far = sym (append-nil items) ∙ sym (ap (λ l. items ++ parts_for shape batch shared numbers l news) none) ∙ so_far
  parts_end items all [] news (inr none) so_far = sym (append-nil items) ∙ so_far
  parts_end items all (g ∷ gs) news (inr none) so_far = sym (append-nil items) ∙ sym (ap (λ l. items ++ parts_for shape batch shared numbers (g ∷ gs) l) none) ∙ so_far

-- ---- each element in turn

changed_next : {X : Type 0} (f : X → X) (xs : List X) (i : ℕ) (d : X) → i < length xs
    → set (map f (take i xs) ++ drop i xs) i (f (get_or (map f (take i xs) ++ drop i xs) i d)) ≡ map f (take (suc i) xs) ++ drop (suc i) xs
changed_next f [] i d there = absurd (omega arith)
changed_next f (x ∷ xs) zero d there = refl
changed_next f (x ∷ xs) (suc i) d there = ap (λ l. f x ∷ l) (changed_next f xs i d (omega arith))

pub changed_more : {X : Type 0} (f : X → X) (xs now : List X) (i : ℕ) (d : X) → now ≡ map f (take i xs) ++ drop i xs → i < length xs
    → set now i (f (get_or now i d)) ≡ map f (take (i + 1) xs) ++ drop (i + 1) xs
changed_more f xs now i d so_far there =
    ap (λ l. set l i (f (get_or l i d))) so_far ∙ changed_next f xs i d there
    ∙ ap (λ k. map f (take k xs) ++ drop k xs) (let same : suc i ≡ i + 1 = omega arith in same)

-- what stands in a vector after a change of its slice, which keeps its length
pub put_back : {X : Type 0} (f : X → X) (old new items : List X) (n : ℕ) → new ≡ map f old → length old ≡ n → take n (new ++ drop (length new) items) ≡ map f old
put_back f old new items n is long =
    subst (λ k. take k (new ++ drop (length new) items) ≡ map f old) (ap length is ∙ length-map old f ∙ long) (take-append_seam new (drop (length new) items) ∙ is)
