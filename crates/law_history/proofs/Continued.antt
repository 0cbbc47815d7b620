-- The lines due in a run are a legal history of one array.
use Rattle.std.proofs.Common.{◌≡◌, ℕ, ◌+◌, ◌<◌, Bool, true, false, if◌then◌else◌, List, [], ◌∷◌, ◌++◌, reverse, Some, refl, ap, sym, subst, arith}
use Rattle.std.specs.Prelude.{flat_map}
use Rattle.std.proofs.lemmas.Bool.{false≢true}
use Rattle.merkle_region.specs.Tree.{NoTwoCollide}
use Rattle.schedule_text.specs.declared.schedule.Volume.{Volume}
use Rattle.schedule_text.specs.declared.schedule.Event.{Event}
use Rattle.schedule_text.specs.Grammar.{RisesFrom, sessions_of}
use Rattle.printed_lines.specs.declared.line.Line.{Line}
use Rattle.salus_model.specs.declared.trace.TraceStep.{TraceStep}
use Rattle.salus_model.specs.Judge.{Judge, start_judge, event_at, IsLegalLine, IsKeptLine, KeepsAcknowledged, AlongLines, LegalHistory}
use Rattle.salus_model.specs.Following.{Posted, sent_by, is_skipped, IsEventDone, dropped_after, FollowsFrom, Follows}
use Rattle.salus_model.specs.Hearing.{Past, since, phase_of}
use Rattle.salus_model.specs.Waiting.{all_taken}
use Rattle.salus_model.specs.Due.{skip_line, lines_from, lines_due, history_from}
use Rattle.salus_model.specs.Seen.{strings_of}
use Rattle.law_lemmas.proofs.Settled.{start_settled}
use Rattle.law_history.proofs.Steps.{NoStepCollides}
use Rattle.law_history.specs.Showing.{HeldWasTagged}
use Rattle.law_history.specs.Keeping.{KeepsChoiceFrom}
use Rattle.law_history.specs.Choosing.{ChoosesRightFrom, ChoseRight}
use Rattle.law_history.proofs.Fairly.{along_joined}
use Rattle.law_history.proofs.Joined.{good_none}
use Rattle.law_history.proofs.Standing.{IsStanding, grows_still}
use Rattle.law_history.proofs.Events.{done_steps, at_event, from_event}
use Rattle.law_history.proofs.Placed.{StandsFrom, stands_first, stands_here, stands_rest}
use Rattle.law_history.proofs.Runs.{pasts, after, judge_at, Legal, AllTagged, IsShown, IsRun, event_run, chooses_append, keeps_front, keeps_back, tagged_always, tagged_here, tagged_rest}
use Rattle.law_history.proofs.Shown.{seen_later}
use Rattle.law_history.proofs.Split.{skip_legal, after_append, lines_split}

module _ (volume : Volume) (events : List Event) (strings : List (List ℕ)) (none : NoTwoCollide strings) (posts : List Posted) where
  abbrev here_pasts : List Past → List TraceStep → List Past
  here_pasts = pasts volume events strings none posts

  abbrev here_after : List Past → List TraceStep → List Past
  here_after = after volume events strings none posts

  abbrev judge_then : List Past → Judge
  judge_then = judge_at volume events strings none posts

  abbrev AreTagged : List Past → List TraceStep → Type 0
  AreTagged = AllTagged volume events strings none posts

  abbrev AreShown : List Past → Type 0
  AreShown = IsShown volume events strings none posts

  abbrev AreLegal : Judge → List Line → Type 0
  AreLegal = Legal volume events strings none posts

  -- the lines are legal, and at each step what is recovered are the contents
  pub record IsRight (history : List Past) (steps : List TraceStep) (lines : List Line) : Type 0 where
    pub legal : AreLegal (judge_then history) lines
    pub chooses : ChoosesRightFrom volume events posts history steps
    pub keeps : KeepsChoiceFrom volume events posts history steps → AlongLines IsKeptLine events (judge_then history) lines

  -- what the induction goes over: from event number n on, the lines that are due are legal
  abbrev LegalRest : ℕ → List Event → Type 0
  LegalRest n es = (top : ℕ) (history : List Past) (earlier : List TraceStep) (dropped : List ℕ) (steps : List TraceStep)
      → FollowsFrom posts earlier dropped n es steps → RisesFrom top (sessions_of es) → IsStanding volume events strings n top history (judge_then history)
      → AreTagged history steps → AreShown (here_after history steps)
      → IsRight history steps (lines_from volume events posts (sent_by earlier) n es (here_pasts history steps))

  -- a skipped event, or one with its steps; then the others
  legal_one : (skips : Bool) (n : ℕ) (e : Event) (earlier : List TraceStep) (dropped : List ℕ) (history : List Past) (here : List TraceStep) (tail : List Line) (top : ℕ)
      → IsEventDone skips posts earlier dropped n e here → IsRun volume events strings none posts (n + 1) top history here
      → AreLegal (judge_then (here_after history here)) tail
      → AreLegal (judge_then history) ((if skips then skip_line n e else flat_map (λ p. p.lines) (here_pasts history here)) ++ tail)
  unfolding history_from
  legal_one true n e earlier dropped history here tail top done run legal =
      let same : here_after history here ≡ history = ap (here_after history) done in
      skip_legal (IsLegalLine volume.geometry events) events (λ judge i k. tt) (judge_then history) n e tail
      (subst (λ h. AreLegal (judge_then h) tail) same legal)
  legal_one false n e earlier dropped history here tail top done run legal =
      along_joined (IsLegalLine volume.geometry events) events (judge_then history) (flat_map (λ p. p.lines) (here_pasts history here)) tail run.legal
      (subst (λ j. AreLegal j tail) (sym run.judged) legal)

  keeps_one : (skips : Bool) (n : ℕ) (e : Event) (earlier : List TraceStep) (dropped : List ℕ) (history : List Past) (here : List TraceStep) (tail : List Line) (top : ℕ)
      → IsEventDone skips posts earlier dropped n e here → (run : IsRun volume events strings none posts (n + 1) top history here) → KeepsChoiceFrom volume events posts history here
      → AlongLines IsKeptLine events (judge_then (here_after history here)) tail
      → AlongLines IsKeptLine events (judge_then history) ((if skips then skip_line n e else flat_map (λ p. p.lines) (here_pasts history here)) ++ tail)
  unfolding history_from
  keeps_one true n e earlier dropped history here tail top done run keeps kept =
      let same : here_after history here ≡ history = ap (here_after history) done in
      skip_legal IsKeptLine events (λ judge i k. tt) (judge_then history) n e tail
      (subst (λ h. AlongLines IsKeptLine events (judge_then h) tail) same kept)
  keeps_one false n e earlier dropped history here tail top done run keeps kept =
      along_joined IsKeptLine events (judge_then history) (flat_map (λ p. p.lines) (here_pasts history here)) tail (run.keeps keeps)
      (subst (λ j. AlongLines IsKeptLine events j tail) (sym run.judged) kept)

  legal_event : (n : ℕ) (e : Event) (es : List Event) → 0 < n → event_at events n ≡ Some e → LegalRest (n + 1) es
      → (top : ℕ) (history : List Past) (earlier : List TraceStep) (dropped : List ℕ) (here rest : List TraceStep)
      → IsEventDone (is_skipped posts (sent_by earlier) e) posts earlier dropped n e here
      → FollowsFrom posts (reverse here ++ earlier) (dropped_after (sent_by earlier) dropped e) (n + 1) es rest
      → RisesFrom top (sessions_of (e ∷ es)) → IsStanding volume events strings n top history (judge_then history)
      → AreTagged history (here ++ rest) → AreShown (here_after history (here ++ rest))
      → IsRight history (here ++ rest) (lines_from volume events posts (sent_by earlier) n (e ∷ es) (here_pasts history (here ++ rest)))
  legal_event n e es positive place lower top history earlier dropped here rest done follows rises standing tagged shown =
      let either = done_steps posts (is_skipped posts (sent_by earlier) e) earlier dropped n e here done in
      let shown_rest : AreShown (here_after (here_after history here) rest) = subst AreShown (after_append volume events posts here rest history) shown in
      let shown_here : AreShown (here_after history here) = λ x m. shown_rest x (seen_later volume events posts rest (here_after history here) x m) in
      let run = event_run volume events strings none posts n top history e es here positive standing place rises either
      (tagged_here volume events strings none posts here rest history tagged) shown_here in
      let tail = lower run.0 (here_after history here) (reverse here ++ earlier) (dropped_after (sent_by earlier) dropped e) rest follows run.2 run.1.standing
      (tagged_rest volume events strings none posts here rest history tagged) shown_rest in
      let split = lines_split volume events posts n e es here rest earlier history (at_event posts n e here either)
      (λ t m. (let above = from_event posts es (reverse here ++ earlier) (dropped_after (sent_by earlier) dropped e) (n + 1) rest follows t m in omega arith)) in
      record {
        legal = subst (AreLegal (judge_then history)) (sym split) (legal_one (is_skipped posts (sent_by earlier) e) n e earlier dropped history here _ run.0 done run.1 tail.legal);
        chooses = chooses_append volume events strings none posts here rest history run.1.chooses tail.chooses;
        keeps = λ k. subst (AlongLines IsKeptLine events (judge_then history)) (sym split)
            (keeps_one (is_skipped posts (sent_by earlier) e) n e earlier dropped history here _ run.0 done run.1 (keeps_front volume events strings none posts here rest history k)
            (tail.keeps (keeps_back volume events strings none posts here rest history k)));
      }

  chooses_none : (history : List Past) → ChoosesRightFrom volume events posts history []
  unfolding ChoosesRightFrom
  chooses_none history = tt

  legal_from : (es : List Event) (n : ℕ) → 0 < n → StandsFrom events n es → LegalRest n es
  unfolding FollowsFrom lines_from AlongLines
  legal_from [] n positive stands top history earlier dropped steps follows rises standing tagged shown =
      record { legal = tt; chooses = subst (ChoosesRightFrom volume events posts history) (sym follows.0) (chooses_none history); keeps = λ k. tt }
  legal_from (e ∷ es) n positive stands top history earlier dropped steps follows rises standing tagged shown =
      subst (λ s. AreTagged history s → AreShown (here_after history s)
      → IsRight history s (lines_from volume events posts (sent_by earlier) n (e ∷ es) (here_pasts history s)))
      (sym follows.2)
      (legal_event n e es positive (stands_here events n e es stands) (legal_from es (n + 1) (omega arith) (stands_rest events n e es stands))
      top history earlier dropped follows.0 follows.1 follows.3 follows.4 rises standing)
      tagged shown

-- ---- at first

chose_none : (volume : Volume) → ChoseRight volume []
unfolding ChoseRight
chose_none volume = tt

start_standing : (volume : Volume) (events : List Event) (strings : List (List ℕ)) → IsStanding volume events strings 1 1 [] (start_judge volume.geometry)
unfolding all_taken since phase_of
start_standing volume events strings = record {
  is = refl;
  settled = start_settled volume.geometry;
  phase = tt;
  good = good_none volume.geometry events 1;
  kept = record { late = λ r among. absurd among; low = omega arith; answered = λ v among. absurd (false≢true among); acked = omega arith };
  heard = λ p among. absurd among;
  reached = record { first = grows_still volume events strings (start_judge volume.geometry) (start_judge volume.geometry) refl; each = λ q among. absurd among; chose = chose_none volume };
}

-- what has to be supplied at each step
abbrev pub Supplies : (volume : Volume) (events : List Event) (posts : List Posted) (trace : List TraceStep) → NoStepCollides volume events posts trace → Type 0
Supplies volume events posts trace none = AllTagged volume events (strings_of volume.geometry (history_from volume events posts [] trace)) none posts [] trace

pub supplied : (volume : Volume) (events : List Event) (posts : List Posted) (trace : List TraceStep) → RisesFrom 1 (sessions_of events)
    → Follows events posts trace → (none : NoStepCollides volume events posts trace) → Supplies volume events posts trace none
    → LegalHistory volume.geometry events (lines_due volume events posts trace) × ChoosesRightFrom volume events posts [] trace
    × (KeepsChoiceFrom volume events posts [] trace → KeepsAcknowledged volume.geometry events (lines_due volume events posts trace))
supplied volume events posts trace rises follows none tagged =
    let right = legal_from volume events (strings_of volume.geometry (history_from volume events posts [] trace)) none posts events 1 (omega arith) (stands_first events)
    1 [] [] [] trace follows rises (start_standing volume events (strings_of volume.geometry (history_from volume events posts [] trace))) tagged (λ x m. m) in
    (right.legal, right.chooses, right.keeps)

pub legal : (volume : Volume) (events : List Event) (posts : List Posted) (trace : List TraceStep) → RisesFrom 1 (sessions_of events)
    → Follows events posts trace → NoStepCollides volume events posts trace → HeldWasTagged volume events posts trace
    → LegalHistory volume.geometry events (lines_due volume events posts trace) × ChoosesRightFrom volume events posts [] trace
    × (KeepsChoiceFrom volume events posts [] trace → KeepsAcknowledged volume.geometry events (lines_due volume events posts trace))
legal volume events posts trace rises follows none tagged =
    supplied volume events posts trace rises follows none
    (tagged_always volume events (strings_of volume.geometry (history_from volume events posts [] trace)) none posts trace [] tagged)
