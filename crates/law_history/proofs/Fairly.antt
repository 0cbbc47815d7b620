-- Lines that open, stage and lose nothing: what makes each of them legal, and what they keep.
use Rattle.std.proofs.Common.{◌≤◌, arith, ◌≡◌, ◌⊎◌, ℕ, ◌<◌, ◌∙◌, Bool, true, false, ◌||◌, ◌==◌, List, [], ◌∷◌, ◌++◌, Some, inl, inr, refl, ap, sym, subst, length, length-append, ◌≤◌, arith}
use Rattle.std.specs.Prelude.{fold}
use Rattle.std.specs.List.{list_any, AllByRecursion}
use Rattle.std.proofs.lemmas.Bool.{or_parts, or_cases, or_from, eqb-true, false≢true, eq-eqb}
use Rattle.salus_types.specs.Volume.{Shape, blocks}
use Rattle.merkle_region.specs.Tree.{IsAmong}
use Rattle.schedule_text.specs.declared.schedule.Event.{Event}
use Rattle.schedule_text.specs.declared.schedule.Event.TheVariants as event
use Rattle.printed_lines.specs.declared.line.Line.{Line}
use Rattle.printed_lines.specs.declared.line.Line.TheVariants as line
use Rattle.salus_model.specs.declared.trace.Request.{Request}
use Rattle.salus_model.specs.declared.trace.Request.TheVariants as request
use Rattle.salus_model.specs.Judge.{Judge, event_at, batch_of, is_among, judged, judged_all, IsNextBatch, IsNextAck, IsTheBlock, IsAnswered, IsLegalLine, IsKeptLine, AlongLines}
use Rattle.salus_model.specs.Hearing.{Phase, phase_by_line, is_open_line, is_stage_line}
use Rattle.salus_model.specs.Waiting.{Taken, is_write, has_ended}
use Rattle.law_lemmas.proofs.Growing.{IsGoing, going_still, going_on}

-- ---- requests

-- event v is that request, and its blocks are of the volume
abbrev pub IsRequested : Shape → List Event → ℕ → Request → Type 0
IsRequested shape events v (request.Write batch) = (event_at events v ≡ Some (event.Write batch)) × AllByRecursion (λ w. w.block < blocks shape) batch
IsRequested shape events v (request.Read b) = (event_at events v ≡ Some (event.Read b)) × (b < blocks shape)
IsRequested shape events v request.Barrier = event_at events v ≡ Some event.Barrier
IsRequested shape events v (request.Restart e) = Unit {0}
IsRequested shape events v (request.Reassign e g) = Unit {0}

-- each other write that waits was asked later
abbrev pub IsFirst : List Taken → Judge → ℕ → Type 0
IsFirst requests judge v = (r : Taken) → IsAmong r requests → is_write r.request ≡ true → has_ended judge r.event ≡ false → (r.event ≡ v) ⊎ (v < r.event)

-- each write that waits was asked after the last one submitted
abbrev pub IsLate : List Taken → Judge → Type 0
IsLate requests judge = (r : Taken) → IsAmong r requests → is_write r.request ≡ true → has_ended judge r.event ≡ false → judge.latest < r.event

-- ---- lines

-- a line of a client that goes on as it is, for requests of events below m
abbrev pub IsFair : Shape → List Event → List Taken → ℕ → Judge → Line → Type 0
IsFair shape events requests m judge (line.Submit v s) = IsNextBatch shape events judge v s × IsFirst requests judge v × (v < m)
IsFair shape events requests m judge (line.Ack s) = IsNextAck judge s
IsFair shape events requests m judge (line.Read v b x) = IsTheBlock shape events judge v b x
IsFair shape events requests m judge (line.Fault v b strikes) = Unit {0}
IsFair shape events requests m judge (line.Barrier v s) = IsAnswered events judge v s × (v < m)
IsFair shape events requests m judge (line.Refused v cause) = Unit {0}
IsFair shape events requests m judge (line.Skip v k) = ⊥
IsFair shape events requests m judge (line.Stage e f s) = ⊥
IsFair shape events requests m judge (line.Open e) = ⊥
IsFair shape events requests m judge (line.Lost e) = ⊥

abbrev pub AreFair : Shape → List Event → List Taken → ℕ → Judge → List Line → Type 0
AreFair shape events requests m judge lines = AlongLines (IsFair shape events requests m) events judge lines

pub along_joined : (P : Judge → Line → Type 0) (events : List Event) (judge : Judge) (lines rest : List Line)
    → AlongLines P events judge lines → AlongLines P events (judged_all events judge lines) rest → AlongLines P events judge (lines ++ rest)
unfolding AlongLines judged_all
along_joined P events judge [] rest front back = back
along_joined P events judge (l ∷ lines) rest front back = (front.0, along_joined P events (judged events judge l) lines rest front.1 back)

-- ---- what stays so

pub record IsKept (requests : List Taken) (m : ℕ) (judge : Judge) : Type 0 where
  pub late : IsLate requests judge
  pub low : judge.latest < m
  pub answered : (v : ℕ) → is_among v judge.answered ≡ true → v < m
  pub acked : judge.acked ≤ length judge.now.list

or_three : (a b c : Bool) → (a || b || c) ≡ false → (a ≡ false) × (b ≡ false) × (c ≡ false)
or_three true b c e = absurd (false≢true (sym e))
or_three false true c e = absurd (false≢true (sym e))
or_three false false true e = absurd (false≢true (sym e))
or_three false false false e = (refl, refl, refl)

or_none : (a b c : Bool) → a ≡ false → b ≡ false → c ≡ false → (a || b || c) ≡ false
or_none true b c p q r = absurd (false≢true (sym p))
or_none false true c p q r = absurd (false≢true (sym q))
or_none false false true p q r = absurd (false≢true (sym r))
or_none false false false p q r = refl

pub unended_parts : (judge : Judge) (v : ℕ) → has_ended judge v ≡ false
    → (is_among v judge.ended ≡ false) × (is_among v judge.answered ≡ false) × (list_any (λ s. s.event == v) judge.submits ≡ false)
unended_parts judge v e = or_three (is_among v judge.ended) (is_among v judge.answered) (list_any (λ s. s.event == v) judge.submits) e

module _ (shape : Shape) (events : List Event) (requests : List Taken) (m : ℕ) where
  kept_submit : (judge : Judge) (v s : ℕ) → IsFirst requests judge v → v < m → IsKept requests m judge → IsKept requests m (judged events judge (line.Submit v s))
  kept_submit judge v s first low kept = record {
    late = λ r among write unended.
        let parts = unended_parts (judged events judge (line.Submit v s)) r.event unended in
        let tail = or_parts (v == r.event) (list_any (λ t. t.event == r.event) judge.submits) parts.2 in
        elim (first r among write (or_none _ _ _ parts.0 parts.1 tail.1)) [
          | inl same ↦ absurd (false≢true (sym tail.0 ∙ eq-eqb v r.event (sym same)))
          | inr later ↦ later
        ];
    low = low;
    answered = kept.answered;
    acked = (let before = kept.acked in rw (length-append judge.now.list (batch_of (event_at events v))) (omega arith));
  }

  kept_line : (judge : Judge) (l : Line) → IsFair shape events requests m judge l → IsKept requests m judge → IsKept requests m (judged events judge l)
  kept_line judge (line.Submit v s) fair kept = kept_submit judge v s fair.1 fair.2 kept
  kept_line judge (line.Ack s) fair kept = record { late = kept.late; low = kept.low; answered = kept.answered; acked = fair.submitted }
  kept_line judge (line.Read v b x) fair kept = record {
    late = λ r among write unended.
        let parts = unended_parts (judged events judge (line.Read v b x)) r.event unended in
        kept.late r among write (or_none _ _ _ (or_parts (v == r.event) (is_among r.event judge.ended) parts.0).1 parts.1 parts.2);
    low = kept.low;
    answered = kept.answered;
    acked = kept.acked;
  }
  kept_line judge (line.Fault v b strikes) fair kept = record {
    late = λ r among write unended.
        let parts = unended_parts (judged events judge (line.Fault v b strikes)) r.event unended in
        kept.late r among write (or_none _ _ _ (or_parts (v == r.event) (is_among r.event judge.ended) parts.0).1 parts.1 parts.2);
    low = kept.low;
    answered = kept.answered;
    acked = kept.acked;
  }
  kept_line judge (line.Barrier v s) fair kept = record {
    late = λ r among write unended.
        let parts = unended_parts (judged events judge (line.Barrier v s)) r.event unended in
        kept.late r among write (or_none _ _ _ parts.0 (or_parts (v == r.event) (is_among r.event judge.answered) parts.1).1 parts.2);
    low = kept.low;
    answered = λ u e. elim (or_cases (v == u) (is_among u judge.answered) e) [
      | inl here ↦ subst (λ w. w < m) (eqb-true v u here) fair.1
      | inr later ↦ kept.answered u later
    ];
    acked = kept.acked;
  }
  kept_line judge (line.Refused v cause) fair kept = kept
  kept_line judge (line.Skip v k) fair kept = kept
  kept_line judge (line.Stage e f s) fair kept = absurd fair
  kept_line judge (line.Open e) fair kept = absurd fair
  kept_line judge (line.Lost e) fair kept = kept

  going_line : (judge : Judge) (l : Line) → IsFair shape events requests m judge l → IsGoing judge (judged events judge l)
  going_line judge (line.Submit v s) fair = record { more = batch_of (event_at events v); now = refl; others = refl; staged = refl; opened = refl }
  going_line judge (line.Ack s) fair = going_still judge _ refl refl refl refl
  going_line judge (line.Read v b x) fair = going_still judge _ refl refl refl refl
  going_line judge (line.Fault v b strikes) fair = going_still judge _ refl refl refl refl
  going_line judge (line.Barrier v s) fair = going_still judge _ refl refl refl refl
  going_line judge (line.Refused v cause) fair = going_still judge _ refl refl refl refl
  going_line judge (line.Skip v k) fair = absurd fair
  going_line judge (line.Stage e f s) fair = absurd fair
  going_line judge (line.Open e) fair = absurd fair
  going_line judge (line.Lost e) fair = absurd fair

  legal_line : (judge : Judge) (l : Line) → IsFair shape events requests m judge l → IsLegalLine shape events judge l
  legal_line judge (line.Submit v s) fair = fair.0
  legal_line judge (line.Ack s) fair = fair
  legal_line judge (line.Read v b x) fair = fair
  legal_line judge (line.Fault v b strikes) fair = tt
  legal_line judge (line.Barrier v s) fair = fair.0
  legal_line judge (line.Refused v cause) fair = tt
  legal_line judge (line.Skip v k) fair = tt
  legal_line judge (line.Stage e f s) fair = absurd fair
  legal_line judge (line.Open e) fair = absurd fair
  legal_line judge (line.Lost e) fair = tt

  keeps_line : (judge : Judge) (l : Line) → IsFair shape events requests m judge l → IsKeptLine judge l
  keeps_line judge (line.Submit v s) fair = tt
  keeps_line judge (line.Ack s) fair = tt
  keeps_line judge (line.Read v b x) fair = tt
  keeps_line judge (line.Fault v b strikes) fair = tt
  keeps_line judge (line.Barrier v s) fair = tt
  keeps_line judge (line.Refused v cause) fair = tt
  keeps_line judge (line.Skip v k) fair = tt
  keeps_line judge (line.Stage e f s) fair = absurd fair
  keeps_line judge (line.Open e) fair = tt
  keeps_line judge (line.Lost e) fair = tt

  -- it changes no phase
  pub record IsCalm (l : Line) : Type 0 where
    pub phase : (phase : Phase) → phase_by_line phase l ≡ phase
    pub opens : is_open_line l ≡ false
    pub stages : is_stage_line l ≡ false

  calm_line : (judge : Judge) (l : Line) → IsFair shape events requests m judge l → IsCalm l
  calm_line judge (line.Submit v s) fair = record { phase = λ p. refl; opens = refl; stages = refl }
  calm_line judge (line.Ack s) fair = record { phase = λ p. refl; opens = refl; stages = refl }
  calm_line judge (line.Read v b x) fair = record { phase = λ p. refl; opens = refl; stages = refl }
  calm_line judge (line.Fault v b strikes) fair = record { phase = λ p. refl; opens = refl; stages = refl }
  calm_line judge (line.Barrier v s) fair = record { phase = λ p. refl; opens = refl; stages = refl }
  calm_line judge (line.Refused v cause) fair = record { phase = λ p. refl; opens = refl; stages = refl }
  calm_line judge (line.Skip v k) fair = absurd fair
  calm_line judge (line.Stage e f s) fair = absurd fair
  calm_line judge (line.Open e) fair = absurd fair
  calm_line judge (line.Lost e) fair = absurd fair

  -- ---- several lines

  pub fair-kept : (lines : List Line) (judge : Judge) → AreFair shape events requests m judge lines → IsKept requests m judge → IsKept requests m (judged_all events judge lines)
  unfolding AlongLines judged_all
  fair-kept [] judge fair kept = kept
  fair-kept (l ∷ lines) judge fair kept = fair-kept lines (judged events judge l) fair.1 (kept_line judge l fair.0 kept)

  pub fair-going : (lines : List Line) (judge : Judge) → AreFair shape events requests m judge lines → IsGoing judge (judged_all events judge lines)
  unfolding AlongLines judged_all
  fair-going [] judge fair = going_still judge judge refl refl refl refl
  fair-going (l ∷ lines) judge fair = going_on judge (judged events judge l) _ (going_line judge l fair.0) (fair-going lines (judged events judge l) fair.1)

  pub fair-legal : (lines : List Line) (judge : Judge) → AreFair shape events requests m judge lines → AlongLines (IsLegalLine shape events) events judge lines
  unfolding AlongLines
  fair-legal [] judge fair = tt
  fair-legal (l ∷ lines) judge fair = (legal_line judge l fair.0, fair-legal lines (judged events judge l) fair.1)

  pub fair-keeps : (lines : List Line) (judge : Judge) → AreFair shape events requests m judge lines → AlongLines IsKeptLine events judge lines
  unfolding AlongLines
  fair-keeps [] judge fair = tt
  fair-keeps (l ∷ lines) judge fair = (keeps_line judge l fair.0, fair-keeps lines (judged events judge l) fair.1)

  pub fair-phase : (lines : List Line) (judge : Judge) (phase : Phase) → AreFair shape events requests m judge lines → fold phase_by_line phase lines ≡ phase
  unfolding AlongLines
  fair-phase [] judge phase fair = refl
  fair-phase (l ∷ lines) judge phase fair =
      ap (λ p. fold phase_by_line p lines) ((calm_line judge l fair.0).phase phase) ∙ fair-phase lines (judged events judge l) phase fair.1

  pub fair-opens : (lines : List Line) (judge : Judge) → AreFair shape events requests m judge lines → list_any is_open_line lines ≡ false
  unfolding AlongLines
  fair-opens [] judge fair = refl
  fair-opens (l ∷ lines) judge fair =
      or_from (is_open_line l) (list_any is_open_line lines) (calm_line judge l fair.0).opens (fair-opens lines (judged events judge l) fair.1)
