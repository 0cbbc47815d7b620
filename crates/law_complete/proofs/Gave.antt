-- A read whose block was given has ended; and a question that is asked was asked.
use Rattle.std.proofs.Common.{◌≡◌, ◌∙◌, ◌⊎◌, inl, inr, ℕ, ◌==◌, ◌&&◌, ◌||◌, not, Bool, true, false, List, [], ◌∷◌, Option, None, Some, refl, sym, ap, subst}
use Rattle.std.specs.List.{list_any}
use Rattle.std.proofs.lemmas.Bool.{true≢false, false≢true}
use Rattle.schedule_text.specs.declared.schedule.Volume.{Volume}
use Rattle.schedule_text.specs.declared.schedule.Event.{Event}
use Rattle.printed_lines.specs.declared.line.Line.{Line}
use Rattle.printed_lines.specs.declared.line.Line.TheVariants as line
use Rattle.volume_model.specs.Parts.{Session}
use Rattle.salus_model.specs.declared.trace.TraceStep.{TraceStep}
use Rattle.salus_model.specs.Judge.{Judge, is_among, known_at, opened_as, judged, judged_all}
use Rattle.salus_model.specs.Following.{Posted}
use Rattle.salus_model.specs.Hearing.{News, Asks, Says, Crashes, Silence, Past, news_of, judge_of, is_serving, phase_of}
use Rattle.salus_model.specs.Waiting.{Question, is_asked}
use Rattle.salus_model.specs.Due.{past_of}
use Rattle.salus_model.specs.Complete.{is_crash, gives_block, has_block, was_asked}
use Rattle.client_rules.specs.State as state
use Rattle.client_rules.specs.Rules.{told}
use Rattle.list_lemmas.proofs.Tests.{by_either, and_left, or_true}
use Rattle.law_lines.specs.Mirrors.{Mirrors}

-- ---- lines

opened_ended : (judge : Judge) (e : ℕ) (o : Option Session) → (opened_as judge e o).ended ≡ judge.ended
opened_ended judge e None = refl
opened_ended judge e (Some known) = refl

module _ (events : List Event) (v : ℕ) where
  stays_ended : (judge : Judge) (u : ℕ) → is_among v judge.ended ≡ true → is_among v (u ∷ judge.ended) ≡ true
  stays_ended judge u was = ap (λ (w : Bool). (u == v) || w) was ∙ or_true (u == v)

  line_keeps : (judge : Judge) (l : Line) → is_among v judge.ended ≡ true → is_among v (judged events judge l).ended ≡ true
  line_keeps judge (line.Read u b bytes) was = stays_ended judge u was
  line_keeps judge (line.Fault u b strikes) was = stays_ended judge u was
  line_keeps judge (line.Open e) was = ap (is_among v) (opened_ended judge e (known_at judge e)) ∙ was
  line_keeps judge (line.Submit u s) was = was
  line_keeps judge (line.Ack s) was = was
  line_keeps judge (line.Barrier u s) was = was
  line_keeps judge (line.Refused u cause) was = was
  line_keeps judge (line.Skip u k) was = was
  line_keeps judge (line.Stage e f s) was = was
  line_keeps judge (line.Lost e) was = was

  line_ends : (judge : Judge) (l : Line) → gives_block v l ≡ true → is_among v (judged events judge l).ended ≡ true
  line_ends judge (line.Read u b bytes) gives = ap (λ (w : Bool). w || is_among v judge.ended) gives
  line_ends judge (line.Fault u b strikes) gives = absurd (false≢true gives)
  line_ends judge (line.Open e) gives = absurd (false≢true gives)
  line_ends judge (line.Submit u s) gives = absurd (false≢true gives)
  line_ends judge (line.Ack s) gives = absurd (false≢true gives)
  line_ends judge (line.Barrier u s) gives = absurd (false≢true gives)
  line_ends judge (line.Refused u cause) gives = absurd (false≢true gives)
  line_ends judge (line.Skip u k) gives = absurd (false≢true gives)
  line_ends judge (line.Stage e f s) gives = absurd (false≢true gives)
  line_ends judge (line.Lost e) gives = absurd (false≢true gives)

  lines_end : (ls : List Line) (judge : Judge) → (is_among v judge.ended ≡ true) ⊎ (list_any (gives_block v) ls ≡ true) → is_among v (judged_all events judge ls).ended ≡ true
  unfolding judged_all
  lines_end [] judge (inl was) = was
  lines_end [] judge (inr none) = absurd (false≢true none)
  lines_end (l ∷ ls) judge (inl was) = lines_end ls (judged events judge l) (inl (line_keeps judge l was))
  lines_end (l ∷ ls) judge (inr gives) =
      by_either (gives_block v l) (list_any (gives_block v) ls) (is_among v (judged_all events (judged events judge l) ls).ended ≡ true) gives
      (λ now. lines_end ls (judged events judge l) (inl (line_ends judge l now))) (λ later. lines_end ls (judged events judge l) (inr later))

-- ---- a history

-- each read whose block a line gave has ended
abbrev pub HaveEnded : Volume → List Event → List Past → Type 0
HaveEnded volume events history = (v : ℕ) → has_block v history ≡ true → is_among v (judge_of volume.geometry events history).ended ≡ true

-- each question that is asked at its end was asked
abbrev pub WereAsked : Volume → List Event → List Past → Type 0
WereAsked volume events history = (q : Question) → is_asked volume.geometry history (judge_of volume.geometry events history) q ≡ true → was_asked volume.geometry events q history ≡ true

module _ (volume : Volume) (events : List Event) (posts : List Posted) (history : List Past) (t : TraceStep) where
  abbrev p : Past
  p = past_of volume events posts history t

  abbrev judge : Judge
  judge = judge_of volume.geometry events history

  pub ended_then : HaveEnded volume events history → HaveEnded volume events (p ∷ history)
  ended_then was v gives =
      by_either (list_any (gives_block v) p.lines) (has_block v history) (is_among v (judged_all events judge p.lines).ended ≡ true) gives
      (λ now. lines_end events v p.lines judge (inr now)) (λ before. lines_end events v p.lines judge (inl (was v before)))

  -- a client that crashes asks nothing
  calm_by : (c : state.Client) (n : ℕ) → Mirrors volume (p ∷ history) (judge_of volume.geometry events (p ∷ history)) n (told volume c t.event (news_of posts t)).client
      → (q : Question) → is_asked volume.geometry (p ∷ history) (judge_of volume.geometry events (p ∷ history)) q ≡ true → (x : News) → news_of posts t ≡ x → is_crash x ≡ false
  unfolding told
  calm_by c n mirrors q asked Crashes is =
      let closed : phase_of (p ∷ history) ≡ _ =
      subst (λ (d : state.Client). Mirrors volume (p ∷ history) (judge_of volume.geometry events (p ∷ history)) n d) (ap (λ (y : News). (told volume c t.event y).client) is) mirrors in
      absurd (true≢false (sym (and_left (is_serving (phase_of (p ∷ history))) _ asked) ∙ ap is_serving closed))
  calm_by c n mirrors q asked (Asks r) is = refl
  calm_by c n mirrors q asked (Says name m) is = refl
  calm_by c n mirrors q asked Silence is = refl

  pub asked_then : (c : state.Client) (n : ℕ) → Mirrors volume (p ∷ history) (judge_of volume.geometry events (p ∷ history)) n (told volume c t.event (news_of posts t)).client → WereAsked volume events (p ∷ history)
  unfolding was_asked
  asked_then c n mirrors q asked =
      ap (λ (w : Bool). not w && (is_asked volume.geometry (p ∷ history) (judge_of volume.geometry events (p ∷ history)) q || was_asked volume.geometry events q history))
      (calm_by c n mirrors q asked (news_of posts t) refl)
      ∙ ap (λ (w : Bool). w || was_asked volume.geometry events q history) asked
