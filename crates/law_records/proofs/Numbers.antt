-- A region's number after so many batches of a session, and which regions a batch touches, in both models.
use Rattle.std.proofs.Common.{◌≡◌, ℕ, zero, suc, ◌+◌, ◌-◌, ◌<◌, ◌≤◌, ◌∙◌, Bool, true, false, ◌==◌, if◌then◌else◌, List, [], ◌∷◌, length, get_or, inl, inr, refl, ap, sym, subst, arith}
use Rattle.std.proofs.lemmas.Bool.{eqb-true, eq-eqb, or_left, or_right, or_cases, false≢true}
use Rattle.std.proofs.lemmas.List.{length-map}
use Rattle.salus_types.specs.Volume.{Shape, regions}
use Rattle.merkle_region.specs.Tree.{IsAmong}
use Rattle.volume_model.specs.Contents.{Batch, all_regions}
use Rattle.volume_model.specs.Parts.{Session, touches, touched_by, number_of, batch_at}
use Rattle.list_lemmas.proofs.Members.{among_filter, among_filter-in, among_range-in}
use Rattle.list_lemmas.proofs.Tests.{same_test}
use Rattle.law_lemmas.proofs.Numbered.{IsSized, number_of-base, number_of-more}
use Rattle.law_prefix.specs.Numbers as abstract
use Rattle.law_prefix.proofs.Counting.{number_start, number_touched, number_untouched}
use Rattle.kept_model.specs.Batches.{touching}

among_number : (v : ℕ) (us : List ℕ) → abstract.is_among v us ≡ true → IsAmong v us
among_number v [] is = absurd (false≢true is)
among_number v (u ∷ us) is = elim (or_cases (v == u) (abstract.is_among v us) is) [
  | inl here ↦ inl (eqb-true v u here)
  | inr later ↦ inr (among_number v us later)
]

number_among : (v : ℕ) (us : List ℕ) → IsAmong v us → abstract.is_among v us ≡ true
number_among v [] m = absurd m
number_among v (u ∷ us) (inl here) = or_left (v == u) (abstract.is_among v us) (eq-eqb v u here)
number_among v (u ∷ us) (inr later) = or_right (v == u) (abstract.is_among v us) (number_among v us later)

module _ (shape : Shape) where
  pub length-touching : (batches : List Batch) → length (touching shape batches) ≡ length batches
  length-touching batches = length-map batches (λ batch. touched_by shape batch)

  touched_as : (batch : Batch) (g : ℕ) → g < regions shape → abstract.is_among g (touched_by shape batch) ≡ touches shape batch g
  touched_as batch g inside =
      same_test (abstract.is_among g (touched_by shape batch)) (touches shape batch g)
      (λ is. (among_filter (λ r. touches shape batch r) g (all_regions shape) (among_number g (touched_by shape batch) is)).1)
      (λ is. number_among g (touched_by shape batch)
      (among_filter-in (λ r. touches shape batch r) (all_regions shape) g (among_range-in (regions shape) 0 g (omega arith) (omega (arith, inside))) is))

  -- batch number i + 1 touches the region
  pub touches_as : (batches : List Batch) (i g : ℕ) → i < length batches → g < regions shape
      → abstract.touches (touching shape batches) i g ≡ touches shape (get_or batches i []) g
  unfolding abstract.touches
  touches_as [] i g within inside = absurd (omega arith)
  touches_as (batch ∷ batches) zero g within inside = touched_as batch g inside
  touches_as (batch ∷ batches) (suc i) g within inside = touches_as batches i g (omega arith) inside

  module _ (known : Session) (sized : IsSized shape known) (g : ℕ) (inside : g < regions shape) where
    abbrev pub IsSame : ℕ → Type 0
    IsSame s = abstract.number (touching shape known.list) known.base s g ≡ number_of shape known s g

    same_more : (s : ℕ) → known.base ≤ s → s < length known.list → IsSame s → (t : Bool) → touches shape (get_or known.list s []) g ≡ t → IsSame (s + 1)
    same_more s above within before true is =
        let place : s + 1 - 1 ≡ s = omega arith in
        let next : s + 1 ≡ suc s = omega arith in
        let here : touches shape (batch_at known (s + 1)) g ≡ true = ap (λ i. touches shape (get_or known.list i []) g) place ∙ is in
        ap (λ n. abstract.number (touching shape known.list) known.base n g) next
        ∙ (number_touched (touching shape known.list) known.base s g above (touches_as known.list s g within inside ∙ is)
        ∙ (sym next
        ∙ sym (number_of-more shape known sized s g above within ∙ ap (λ t. if t then s + 1 else number_of shape known s g) here)))
    same_more s above within before false is =
        let place : s + 1 - 1 ≡ s = omega arith in
        let next : s + 1 ≡ suc s = omega arith in
        let here : touches shape (batch_at known (s + 1)) g ≡ false = ap (λ i. touches shape (get_or known.list i []) g) place ∙ is in
        ap (λ n. abstract.number (touching shape known.list) known.base n g) next
        ∙ (number_untouched (touching shape known.list) known.base s g (touches_as known.list s g within inside ∙ is)
        ∙ (before
        ∙ sym (number_of-more shape known sized s g above within ∙ ap (λ t. if t then s + 1 else number_of shape known s g) here)))

    same_from : (k : ℕ) → known.base + k ≤ length known.list → IsSame (known.base + k)
    same_from zero within =
        let same : known.base + 0 ≡ known.base = omega arith in
        ap (λ s. abstract.number (touching shape known.list) known.base s g) same
        ∙ (number_start (touching shape known.list) known.base g
        ∙ sym (ap (λ s. number_of shape known s g) same ∙ number_of-base shape known sized g))
    same_from (suc k) within =
        let same : known.base + k + 1 ≡ known.base + suc k = omega arith in
        subst IsSame same
        (same_more (known.base + k) (omega arith) (omega arith) (same_from k (omega arith)) (touches shape (get_or known.list (known.base + k) []) g) refl)

    -- the number after the first s batches
    pub number_as : (s : ℕ) → known.base ≤ s → s ≤ length known.list → IsSame s
    number_as s above within =
        let same : known.base + (s - known.base) ≡ s = omega arith in
        subst IsSame same (same_from (s - known.base) (omega arith))

-- what a batch touches is named
pub touched_among : (shape : Shape) (batches : List Batch) (i r : ℕ) → i < length batches → abstract.touches (touching shape batches) i r ≡ true → IsAmong r (touched_by shape (get_or batches i []))
unfolding abstract.touches
touched_among shape [] i r within touched = absurd (omega arith)
touched_among shape (batch ∷ batches) zero r within touched = among_number r (touched_by shape batch) touched
touched_among shape (batch ∷ batches) (suc i) r within touched = touched_among shape batches i r (omega arith) touched
