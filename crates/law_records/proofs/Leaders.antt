-- The leader of a batch in both models: the lowest region that it touches.
use Rattle.std.proofs.Common.{◌≡◌, ℕ, zero, suc, ◌<◌, ◌∙◌, true, List, [], ◌∷◌, length, get_or, inl, refl, ap, sym, subst, arith}
use Rattle.std.specs.Prelude.{slice_index}
use Rattle.std.specs.List.{AllByRecursion}
use Rattle.salus_types.specs.Volume.{Shape, regions}
use Rattle.merkle_region.specs.Tree.{IsAmong}
use Rattle.volume_model.specs.Contents.{Batch, all_regions}
use Rattle.volume_model.specs.Parts.{touches, touched_by, leader_of}
use Rattle.list_lemmas.proofs.Members.{among_filter, among_filter-in, among_range, among_range-in}
use Rattle.law_prefix.specs.Numbers as abstract
use Rattle.law_prefix.specs.World.{leader}
use Rattle.kept_model.specs.Batches.{touching}
use Rattle.law_records.specs.Sessions.{TouchesSome}
use Rattle.law_records.proofs.Numbers.{touches_as}

first_of : (gs : List ℕ) (g : ℕ) → IsAmong g gs → IsAmong (slice_index gs 0) gs
first_of [] g m = absurd m
first_of (x ∷ gs) g m = inl refl

module _ (shape : Shape) where
  touched-inside : (batch : Batch) (g : ℕ) → IsAmong g (touched_by shape batch) → (g < regions shape)
  touched-inside batch g m =
      let range = among_range (regions shape) 0 g (among_filter (λ r. touches shape batch r) g (all_regions shape) m).0 in
      omega arith

  -- batch number i + 1 is led by the same region
  pub leader_as : (batches : List Batch) (i : ℕ) → i < length batches → leader (touching shape batches) i ≡ leader_of shape (get_or batches i [])
  unfolding leader
  leader_as [] i within = absurd (omega arith)
  leader_as (batch ∷ batches) zero within = first (touched_by shape batch) where
    first : (gs : List ℕ) → leader (gs ∷ touching shape batches) zero ≡ slice_index gs 0
    first [] = refl
    first (g ∷ gs) = refl
  leader_as (batch ∷ batches) (suc i) within = later (touched_by shape batch) ∙ leader_as batches i (omega arith) where
    later : (gs : List ℕ) → leader (gs ∷ touching shape batches) (suc i) ≡ leader (touching shape batches) i
    later [] = refl
    later (g ∷ gs) = refl

  leader_of-touched : (batch : Batch) → TouchesSome shape batch → IsAmong (leader_of shape batch) (touched_by shape batch)
  leader_of-touched batch some =
      let inside = some.inside in
      first_of (touched_by shape batch) some.region
      (among_filter-in (λ r. touches shape batch r) (all_regions shape) some.region (among_range-in (regions shape) 0 some.region (omega arith) (omega (arith, inside))) some.touched)

  pub leader_of-inside : (batch : Batch) → TouchesSome shape batch → leader_of shape batch < regions shape
  leader_of-inside batch some = touched-inside batch (leader_of shape batch) (leader_of-touched batch some)

  pub leader_of-led : (batch : Batch) → TouchesSome shape batch → touches shape batch (leader_of shape batch) ≡ true
  leader_of-led batch some = (among_filter (λ r. touches shape batch r) (leader_of shape batch) (all_regions shape) (leader_of-touched batch some)).1

  pub some_at : (batches : List Batch) (i : ℕ) → i < length batches → AllByRecursion (TouchesSome shape) batches → TouchesSome shape (get_or batches i [])
  some_at [] i within all = absurd (omega arith)
  some_at (batch ∷ batches) zero within all = all.0
  some_at (batch ∷ batches) (suc i) within all = some_at batches i (omega arith) all.1

  -- each leader is a region of the volume, also of a batch that there isn't
  pub leader_inside : (batches : List Batch) (i : ℕ) → 0 < regions shape → AllByRecursion (TouchesSome shape) batches → leader (touching shape batches) i < regions shape
  unfolding leader
  leader_inside [] i many all = many
  leader_inside (batch ∷ batches) zero many all =
      subst (λ r. r < regions shape) (sym (leader_as (batch ∷ batches) zero (omega arith))) (leader_of-inside batch all.0)
  leader_inside (batch ∷ batches) (suc i) many all = subst (λ r. r < regions shape) (sym (later (touched_by shape batch))) (leader_inside batches i many all.1) where
    later : (gs : List ℕ) → leader (gs ∷ touching shape batches) (suc i) ≡ leader (touching shape batches) i
    later [] = refl
    later (g ∷ gs) = refl

  -- a batch touches its leader
  pub leader_led : (batches : List Batch) (i : ℕ) → i < length batches → AllByRecursion (TouchesSome shape) batches
      → abstract.touches (touching shape batches) i (leader (touching shape batches) i) ≡ true
  leader_led batches i within all =
      let some : TouchesSome shape (get_or batches i []) = some_at batches i within all in
      ap (abstract.touches (touching shape batches) i) (leader_as batches i within)
      ∙ (touches_as shape batches i (leader_of shape (get_or batches i [])) within (leader_of-inside (get_or batches i []) some)
      ∙ leader_of-led (get_or batches i []) some)
