-- The lines of a run, split into those of its first event and the others.
use Rattle.std.proofs.Common.{◌≡◌, ℕ, ◌+◌, ◌<◌, ◌∙◌, false, ◌==◌, if◌then◌else◌, List, [], ◌∷◌, ◌++◌, reverse, inl, inr, refl, ap, sym, arith}
use Rattle.std.specs.Prelude.{flat_map}
use Rattle.std.proofs.lemmas.Bool.{eq-eqb, ne_eqb, cond-true, cond-false}
use Rattle.merkle_region.specs.Tree.{IsAmong}
use Rattle.schedule_text.specs.declared.schedule.Volume.{Volume}
use Rattle.schedule_text.specs.declared.schedule.Event.{Event}
use Rattle.schedule_text.specs.declared.schedule.Event.TheVariants as event
use Rattle.printed_lines.specs.declared.line.Line.{Line}
use Rattle.printed_lines.specs.declared.line.Line.TheVariants as line
use Rattle.salus_model.specs.declared.trace.TraceStep.{TraceStep}
use Rattle.salus_model.specs.Judge.{Judge, AlongLines}
use Rattle.salus_model.specs.Following.{Posted, sent_by, is_skipped}
use Rattle.salus_model.specs.Hearing.{Past}
use Rattle.salus_model.specs.Due.{skip_line, of_event, past_event, sent_after, past_of, pasts_from, history_from, lines_from}
use Rattle.law_history.proofs.Events.{sent-reverse}

-- the line of a skipped event is free
pub skip_legal : (P : Judge → Line → Type 0) (events : List Event) → ((judge : Judge) (n k : ℕ) → P judge (line.Skip n k)) → (judge : Judge) (n : ℕ) (e : Event) (rest : List Line)
    → AlongLines P events judge rest → AlongLines P events judge (skip_line n e ++ rest)
unfolding AlongLines
skip_legal P events free judge n (event.Deliver k) rest legal = (free judge n k, legal)
skip_legal P events free judge n (event.Drop k) rest legal = (free judge n k, legal)
skip_legal P events free judge n (event.Stop k calls keep fill) rest legal = (free judge n k, legal)
skip_legal P events free judge n other rest legal = legal

module _ (volume : Volume) (events : List Event) (posts : List Posted) where
  abbrev pub ps : List Past → List TraceStep → List Past
  ps = pasts_from volume events posts

  abbrev pub hs : List Past → List TraceStep → List Past
  hs = history_from volume events posts

  abbrev pub AreLater : ℕ → List TraceStep → Type 0
  AreLater n steps = (t : TraceStep) → IsAmong t steps → n < t.event

  abbrev pub AreAt : ℕ → List TraceStep → Type 0
  AreAt n steps = (t : TraceStep) → IsAmong t steps → t.event ≡ n

  later_apart : (n : ℕ) (t : TraceStep) (steps : List TraceStep) → AreLater n (t ∷ steps) → (t.event == n) ≡ false
  later_apart n t steps later = let above = later t (inl refl) in ne_eqb t.event n (λ e. absurd (omega arith))

  of_none : (n : ℕ) (rest : List TraceStep) (history : List Past) → AreLater n rest → of_event n (ps history rest) ≡ []
  unfolding of_event pasts_from
  of_none n [] history later = refl
  of_none n (t ∷ rest) history later = cond-false (t.event == n) _ [] (later_apart n t rest later)

  of_here : (n : ℕ) (here rest : List TraceStep) (history : List Past) → AreAt n here → AreLater n rest → of_event n (ps history (here ++ rest)) ≡ ps history here
  unfolding of_event pasts_from
  of_here n [] rest history at later = of_none n rest history later
  of_here n (t ∷ here) rest history at later =
      let p : Past = past_of volume events posts history t in
      cond-true (t.event == n) (p ∷ of_event n (ps (p ∷ history) (here ++ rest))) [] (eq-eqb t.event n (at t (inl refl)))
      ∙ ap (λ l. p ∷ l) (of_here n here rest (p ∷ history) (λ u m. at u (inr m)) later)

  past_none : (n : ℕ) (rest : List TraceStep) (history : List Past) → AreLater n rest → past_event n (ps history rest) ≡ ps history rest
  unfolding past_event pasts_from
  past_none n [] history later = refl
  past_none n (t ∷ rest) history later = cond-false (t.event == n) _ _ (later_apart n t rest later)

  past_here : (n : ℕ) (here rest : List TraceStep) (history : List Past) → AreAt n here → AreLater n rest → past_event n (ps history (here ++ rest)) ≡ ps (hs history here) rest
  unfolding past_event pasts_from history_from
  past_here n [] rest history at later = past_none n rest history later
  past_here n (t ∷ here) rest history at later =
      let p : Past = past_of volume events posts history t in
      cond-true (t.event == n) (past_event n (ps (p ∷ history) (here ++ rest))) (p ∷ ps (p ∷ history) (here ++ rest)) (eq-eqb t.event n (at t (inl refl)))
      ∙ past_here n here rest (p ∷ history) (λ u m. at u (inr m)) later

  sent_here : (here earlier : List TraceStep) (history : List Past) → sent_after (sent_by earlier) (ps history here) ≡ sent_by (reverse here ++ earlier)
  unfolding sent_after pasts_from
  sent_here [] earlier history = refl
  sent_here (t ∷ here) earlier history =
      sent_here here (t ∷ earlier) (past_of volume events posts history t ∷ history) ∙ sym (sent-reverse posts here earlier t)

  pub after_append : (here rest : List TraceStep) (history : List Past) → hs history (here ++ rest) ≡ hs (hs history here) rest
  unfolding history_from
  after_append [] rest history = refl
  after_append (t ∷ here) rest history = after_append here rest (past_of volume events posts history t ∷ history)

  -- the lines of an event, and of those after it
  pub lines_split : (n : ℕ) (e : Event) (es : List Event) (here rest earlier : List TraceStep) (history : List Past) → AreAt n here → AreLater n rest
      → lines_from volume events posts (sent_by earlier) n (e ∷ es) (ps history (here ++ rest))
      ≡ (if is_skipped posts (sent_by earlier) e then skip_line n e else flat_map (λ p. p.lines) (ps history here))
      ++ lines_from volume events posts (sent_by (reverse here ++ earlier)) (n + 1) es (ps (hs history here) rest)
  unfolding lines_from
  lines_split n e es here rest earlier history at later =
      ap (λ l. (if is_skipped posts (sent_by earlier) e then skip_line n e else flat_map (λ p. p.lines) l)
      ++ lines_from volume events posts (sent_after (sent_by earlier) l) (n + 1) es (past_event n (ps history (here ++ rest)))) (of_here n here rest history at later)
      ∙ (ap (λ l. (if is_skipped posts (sent_by earlier) e then skip_line n e else flat_map (λ p. p.lines) (ps history here))
      ++ lines_from volume events posts (sent_after (sent_by earlier) (ps history here)) (n + 1) es l) (past_here n here rest history at later)
      ∙ ap (λ s. (if is_skipped posts (sent_by earlier) e then skip_line n e else flat_map (λ p. p.lines) (ps history here))
      ++ lines_from volume events posts s (n + 1) es (ps (hs history here) rest)) (sent_here here earlier history))
