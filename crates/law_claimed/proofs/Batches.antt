-- What lines make of the batches of a session, and of the barriers that were answered.
use Rattle.std.proofs.Common.{◌≡◌, ◌∙◌, ℕ, Bool, true, false, ◌==◌, ◌||◌, List, [], ◌∷◌, Option, None, Some, refl, sym, ap}
use Rattle.std.specs.List.{list_any, AllByRecursion}
use Rattle.std.proofs.lemmas.Bool.{true≢false}
use Rattle.schedule_text.specs.declared.schedule.Event.{Event}
use Rattle.printed_lines.specs.declared.line.Line.{Line}
use Rattle.printed_lines.specs.declared.line.Line.TheVariants as line
use Rattle.volume_model.specs.Parts.{Session}
use Rattle.salus_model.specs.Judge.{Judge, is_among, known_at, opened_as, judged, judged_all}
use Rattle.list_lemmas.proofs.Tests.{by_either, or_true}
use Rattle.law_claimed.specs.Accounting.{answers_barrier}

-- neither a batch nor a session begins with it
abbrev pub is_still : Line → Bool
is_still (line.Submit v s) = false
is_still (line.Open e) = false
is_still other = true

abbrev pub IsStill : Line → Type 0
IsStill l = is_still l ≡ true

module _ (events : List Event) where
  one_same : (judge : Judge) (l : Line) → IsStill l → (judged events judge l).submits ≡ judge.submits
  one_same judge (line.Submit v s) still = absurd (true≢false (sym still))
  one_same judge (line.Open e) still = absurd (true≢false (sym still))
  one_same judge (line.Ack s) still = refl
  one_same judge (line.Read v b x) still = refl
  one_same judge (line.Fault v b strikes) still = refl
  one_same judge (line.Barrier v s) still = refl
  one_same judge (line.Refused v cause) still = refl
  one_same judge (line.Skip v k) still = refl
  one_same judge (line.Stage e f s) still = refl
  one_same judge (line.Lost e) still = refl

  pub batches_same : (lines : List Line) (judge : Judge) → AllByRecursion IsStill lines → (judged_all events judge lines).submits ≡ judge.submits
  unfolding judged_all
  batches_same [] judge still = refl
  batches_same (l ∷ ls) judge still = batches_same ls (judged events judge l) still.1 ∙ one_same judge l still.0

  opened_same : (judge : Judge) (e : ℕ) (o : Option Session) → (opened_as judge e o).answered ≡ judge.answered
  opened_same judge e None = refl
  opened_same judge e (Some known) = refl

  one_stays : (v : ℕ) (judge : Judge) (l : Line) → is_among v judge.answered ≡ true → is_among v (judged events judge l).answered ≡ true
  one_stays v judge (line.Submit u s) there = there
  one_stays v judge (line.Open e) there = ap (λ us. is_among v us) (opened_same judge e (known_at judge e)) ∙ there
  one_stays v judge (line.Ack s) there = there
  one_stays v judge (line.Read u b x) there = there
  one_stays v judge (line.Fault u b strikes) there = there
  one_stays v judge (line.Barrier u s) there = ap (λ (w : Bool). (u == v) || w) there ∙ or_true (u == v)
  one_stays v judge (line.Refused u cause) there = there
  one_stays v judge (line.Skip u k) there = there
  one_stays v judge (line.Stage e f s) there = there
  one_stays v judge (line.Lost e) there = there

  -- a barrier that was answered stays answered
  pub answered_stays : (v : ℕ) (lines : List Line) (judge : Judge) → is_among v judge.answered ≡ true → is_among v (judged_all events judge lines).answered ≡ true
  unfolding judged_all
  answered_stays v [] judge there = there
  answered_stays v (l ∷ ls) judge there = answered_stays v ls (judged events judge l) (one_stays v judge l there)

  one_answers : (v : ℕ) (judge : Judge) (l : Line) → answers_barrier v l ≡ true → is_among v (judged events judge l).answered ≡ true
  one_answers v judge (line.Barrier u s) is = ap (λ (w : Bool). w || is_among v judge.answered) is
  one_answers v judge (line.Submit u s) is = absurd (true≢false (sym is))
  one_answers v judge (line.Open e) is = absurd (true≢false (sym is))
  one_answers v judge (line.Ack s) is = absurd (true≢false (sym is))
  one_answers v judge (line.Read u b x) is = absurd (true≢false (sym is))
  one_answers v judge (line.Fault u b strikes) is = absurd (true≢false (sym is))
  one_answers v judge (line.Refused u cause) is = absurd (true≢false (sym is))
  one_answers v judge (line.Skip u k) is = absurd (true≢false (sym is))
  one_answers v judge (line.Stage e f s) is = absurd (true≢false (sym is))
  one_answers v judge (line.Lost e) is = absurd (true≢false (sym is))

  -- its line has it answered
  pub answered_then : (v : ℕ) (lines : List Line) (judge : Judge) → list_any (answers_barrier v) lines ≡ true → is_among v (judged_all events judge lines).answered ≡ true
  unfolding judged_all
  answered_then v [] judge is = absurd (true≢false (sym is))
  answered_then v (l ∷ ls) judge is =
      by_either (answers_barrier v l) (list_any (answers_barrier v) ls) (is_among v (judged_all events (judged events judge l) ls).answered ≡ true) is
      (λ now. answered_stays v ls (judged events judge l) (one_answers v judge l now))
      (λ later. answered_then v ls (judged events judge l) later)
