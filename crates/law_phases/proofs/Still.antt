-- Lines that change neither the sessions nor what is acknowledged, and the phase neither.
use Rattle.std.proofs.Common.{◌≡◌, ℕ, ◌∙◌, Bool, true, false, ◌||◌, nat_le, List, [], ◌∷◌, refl, ap}
use Rattle.std.specs.Prelude.{fold}
use Rattle.std.specs.List.{AllByRecursion, list_any}
use Rattle.schedule_text.specs.declared.schedule.Event.{Event}
use Rattle.printed_lines.specs.declared.line.Line.{Line}
use Rattle.printed_lines.specs.declared.line.Line.TheVariants as line
use Rattle.salus_model.specs.declared.trace.Request.{Request}
use Rattle.salus_model.specs.declared.trace.Request.TheVariants as request
use Rattle.salus_model.specs.Judge.{Judge, front_of, judged, judged_all}
use Rattle.salus_model.specs.Hearing.{Phase, phase_by_line, is_open_line, is_stage_line}
use Rattle.salus_model.specs.Waiting.{Taken, left_of}
use Rattle.salus_model.specs.Due.{barrier_due, barriers_due}
use Rattle.list_lemmas.proofs.Each.{all_flat, either_way}

abbrev pub IsStill : Line → Type 0
IsStill (line.Submit v s) = ⊥
IsStill (line.Ack s) = ⊥
IsStill (line.Read v b x) = Unit {0}
IsStill (line.Fault v b strikes) = Unit {0}
IsStill (line.Barrier v s) = Unit {0}
IsStill (line.Refused v cause) = Unit {0}
IsStill (line.Skip v k) = Unit {0}
IsStill (line.Stage e f s) = ⊥
IsStill (line.Open e) = ⊥
IsStill (line.Lost e) = ⊥

abbrev pub AreStill : List Line → Type 0
AreStill lines = AllByRecursion IsStill lines

-- the same sessions with the same batches, and the same front
pub record SameSessions (a b : Judge) : Type 0 where
  pub now : b.now ≡ a.now
  pub others : b.others ≡ a.others
  pub acked : b.acked ≡ a.acked

module _ (events : List Event) where
  one_still : (judge : Judge) (l : Line) → IsStill l → SameSessions judge (judged events judge l)
  one_still judge (line.Submit v s) still = absurd still
  one_still judge (line.Ack s) still = absurd still
  one_still judge (line.Read v b x) still = record { now = refl; others = refl; acked = refl }
  one_still judge (line.Fault v b strikes) still = record { now = refl; others = refl; acked = refl }
  one_still judge (line.Barrier v s) still = record { now = refl; others = refl; acked = refl }
  one_still judge (line.Refused v cause) still = record { now = refl; others = refl; acked = refl }
  one_still judge (line.Skip v k) still = record { now = refl; others = refl; acked = refl }
  one_still judge (line.Stage e f s) still = absurd still
  one_still judge (line.Open e) still = absurd still
  one_still judge (line.Lost e) still = absurd still

  pub still_same : (lines : List Line) (judge : Judge) → AreStill lines → SameSessions judge (judged_all events judge lines)
  unfolding judged_all
  still_same [] judge still = record { now = refl; others = refl; acked = refl }
  still_same (l ∷ lines) judge still =
      let one : SameSessions judge (judged events judge l) = one_still judge l still.0 in
      let more : SameSessions (judged events judge l) (judged_all events (judged events judge l) lines) = still_same lines (judged events judge l) still.1 in
      record { now = more.now ∙ one.now; others = more.others ∙ one.others; acked = more.acked ∙ one.acked }

-- it changes no phase
pub record IsCalm (l : Line) : Type 0 where
  pub phase : (phase : Phase) → phase_by_line phase l ≡ phase
  pub opens : is_open_line l ≡ false
  pub stages : is_stage_line l ≡ false

pub calm_still : (l : Line) → IsStill l → IsCalm l
calm_still (line.Submit v s) still = absurd still
calm_still (line.Ack s) still = absurd still
calm_still (line.Read v b x) still = record { phase = λ p. refl; opens = refl; stages = refl }
calm_still (line.Fault v b strikes) still = record { phase = λ p. refl; opens = refl; stages = refl }
calm_still (line.Barrier v s) still = record { phase = λ p. refl; opens = refl; stages = refl }
calm_still (line.Refused v cause) still = record { phase = λ p. refl; opens = refl; stages = refl }
calm_still (line.Skip v k) still = record { phase = λ p. refl; opens = refl; stages = refl }
calm_still (line.Stage e f s) still = absurd still
calm_still (line.Open e) still = absurd still
calm_still (line.Lost e) still = absurd still

pub calm_submit : (v s : ℕ) → IsCalm (line.Submit v s)
calm_submit v s = record { phase = λ p. refl; opens = refl; stages = refl }

pub calm_ack : (s : ℕ) → IsCalm (line.Ack s)
calm_ack s = record { phase = λ p. refl; opens = refl; stages = refl }

abbrev pub AreCalm : List Line → Type 0
AreCalm lines = AllByRecursion IsCalm lines

pub still_calm : (lines : List Line) → AreStill lines → AreCalm lines
still_calm [] still = tt
still_calm (l ∷ lines) still = (calm_still l still.0, still_calm lines still.1)

pub calm_phase : (lines : List Line) (phase : Phase) → AreCalm lines → fold phase_by_line phase lines ≡ phase
calm_phase [] phase calm = refl
calm_phase (l ∷ lines) phase calm = ap (λ p. fold phase_by_line p lines) (calm.0.phase phase) ∙ calm_phase lines phase calm.1

none_of : (a b : Bool) → a ≡ false → b ≡ false → (a || b) ≡ false
none_of true b left right = left
none_of false b left right = right

pub calm_opens : (lines : List Line) → AreCalm lines → list_any is_open_line lines ≡ false
calm_opens [] calm = refl
calm_opens (l ∷ lines) calm = none_of (is_open_line l) (list_any is_open_line lines) calm.0.opens (calm_opens lines calm.1)

pub calm_stages : (lines : List Line) → AreCalm lines → list_any is_stage_line lines ≡ false
calm_stages [] calm = refl
calm_stages (l ∷ lines) calm = none_of (is_stage_line l) (list_any is_stage_line lines) calm.0.stages (calm_stages lines calm.1)

barrier_still : (judge : Judge) (v : ℕ) (r : Request) → AreStill (barrier_due judge v r)
barrier_still judge v (request.Write batch) = tt
barrier_still judge v (request.Read b) = tt
barrier_still judge v request.Barrier = either_way (nat_le (front_of judge v) judge.acked) (line.Barrier v (front_of judge v) ∷ []) [] AreStill (tt, tt) tt
barrier_still judge v (request.Restart e) = tt
barrier_still judge v (request.Reassign e g) = tt

pub barriers_still : (judge : Judge) (requests : List Taken) → AreStill (barriers_due judge requests)
barriers_still judge requests = all_flat IsStill (λ (r : Taken). barrier_due judge r.event r.request) (left_of requests) (λ r. barrier_still judge r.event r.request)
