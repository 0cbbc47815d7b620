-- How a run's steps and a session's numbers grow.
use Rattle.std.proofs.Common.{◌≡◌, ℕ, ◌+◌, ◌∙◌, if◌then◌else◌, List, [], ◌∷◌, ◌++◌, length, refl, ap, arith}
use Rattle.salus_types.specs.Volume.{Shape}
use Rattle.schedule_text.specs.declared.schedule.Volume.{Volume}
use Rattle.schedule_text.specs.declared.schedule.Event.{Event}
use Rattle.salus_model.specs.declared.trace.TraceStep.{TraceStep}
use Rattle.volume_model.specs.Contents.{Batch}
use Rattle.volume_model.specs.Parts.{touches, last_touch}
use Rattle.salus_model.specs.Following.{Posted}
use Rattle.salus_model.specs.Hearing.{Past}
use Rattle.salus_model.specs.Due.{past_of, pasts_from, history_from}

module _ (volume : Volume) (events : List Event) (posts : List Posted) where
  abbrev pasts : List Past → List TraceStep → List Past
  pasts = pasts_from volume events posts

  abbrev after : List Past → List TraceStep → List Past
  after = history_from volume events posts

  -- the steps of two traces, one after the other
  pub pasts_from-append : (a b : List TraceStep) (history : List Past) → pasts history (a ++ b) ≡ pasts history a ++ pasts (after history a) b
  unfolding pasts_from history_from
  pasts_from-append [] b history = refl
  pasts_from-append (t ∷ a) b history =
      ap (λ rest. past_of volume events posts history t ∷ rest) (pasts_from-append a b (past_of volume events posts history t ∷ history))

-- one batch more is the last that touches the region, or changes nothing
pub last_touch-append : (shape : Shape) (g : ℕ) (batches : List Batch) (batch : Batch) (last j : ℕ)
    → last_touch shape g last j (batches ++ batch ∷ []) ≡ (if touches shape batch g then j + length batches else last_touch shape g last j batches)
unfolding last_touch
last_touch-append shape g [] batch last j = let same : j ≡ j + 0 = omega arith in ap (λ n. if touches shape batch g then n else last) same
last_touch-append shape g (b ∷ batches) batch last j =
    let same : j + 1 + length batches ≡ j + length (b ∷ batches) = omega arith in
    let now : ℕ = if touches shape b g then j else last in
    last_touch-append shape g batches batch now (j + 1)
    ∙ ap (λ n. if touches shape batch g then n else last_touch shape g now (j + 1) batches) same
