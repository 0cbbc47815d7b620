-- What the lines of a step are beside: only the session that was begun last is opened, nothing is lost, and what is known of
-- staged sessions stays so.
use Rattle.std.proofs.Common.{◌≡◌, ◌⊎◌, ℕ, ◌<◌, ◌≤◌, ◌∙◌, true, ◌==◌, ◌&&◌, if◌then◌else◌, List, [], ◌∷◌, drop, Option, None, Some, is_some, inl, inr, refl, ap, sym, subst, arith, le_refl}
use Rattle.std.specs.Prelude.{find, unwrap_or}
use Rattle.std.proofs.lemmas.Bool.{cond_both, false≢true}
use Rattle.salus_types.specs.Volume.{Shape}
use Rattle.salus_types.specs.declared.names.NodeName.{NodeName}
use Rattle.salus_types.specs.declared.records.Header.{Header}
use Rattle.salus_message.specs.declared.wire.Message.{Message}
use Rattle.salus_message.specs.declared.wire.Message.TheVariants as message
use Rattle.schedule_text.specs.declared.schedule.Volume.{Volume}
use Rattle.schedule_text.specs.declared.schedule.Event.{Event}
use Rattle.schedule_text.specs.Limits.{IsWithinLimits}
use Rattle.printed_lines.specs.declared.line.Line.{Line}
use Rattle.printed_lines.specs.declared.line.Line.TheVariants as line
use Rattle.printed_lines.specs.declared.line.RequestRefusal.{RequestRefusal}
use Rattle.salus_model.specs.declared.trace.Request.{Request}
use Rattle.salus_model.specs.declared.trace.Request.TheVariants as request
use Rattle.salus_model.specs.declared.trace.TraceStep.{TraceStep}
use Rattle.merkle_region.specs.Tree.{IsAmong}
use Rattle.volume_model.specs.Recovering.{choice_of}
use Rattle.salus_model.specs.Judge.{Judge, last_number, judged_all, IsPrefixOf, IsLegalLine, AlongLines}
use Rattle.salus_model.specs.Hearing.{News, Asks, Says, Crashes, Silence, Past, judge_of, news_since, opens, begins, stages, Phase, Serving, Closed, Gathering, Fetching, Staged, phase_of}
use Rattle.salus_model.specs.Waiting.{live, questions, refusal_of}
use Rattle.salus_model.specs.Answering.{is_answer, present_root}
use Rattle.salus_model.specs.Opening.{replies_to, all_replied, pool_of, all_staged, all_switched, is_fetched}
use Rattle.salus_model.specs.Complete.{last_begun}
use Rattle.salus_model.specs.Due.{due_request, due_answer, due_choice, due_replies, acks_due, due_serving, due_gathering, due_fetching, due_staged, due_message, due_news}
use Rattle.list_lemmas.proofs.Members.{among_all}
use Rattle.list_lemmas.proofs.Tests.{and_right}
use Rattle.law_prefix.specs.World as abstract
use Rattle.law_prefix.specs.World.{World}
use Rattle.kept_model.specs.Phases.{asked_of}
use Rattle.law_phases.specs.Fronts.{AreFronts}
use Rattle.law_phases.specs.Moving.{OpensAsked, IsMoved}
use Rattle.law_phases.specs.Opening.{IsBefore}
use Rattle.law_phases.specs.Ordered.{OpensLast}
use Rattle.law_phases.proofs.Told.{heard_since, claims_heard}
use Rattle.law_phases.proofs.Still.{IsStill, AreStill, IsCalm, AreCalm, still_same, still_calm, calm_submit, calm_opens, barriers_still}
use Rattle.law_phases.proofs.Acking.{acks_calm}
use Rattle.law_phases.proofs.Moving.{phase_then, phase_now}
use Rattle.law_phases.proofs.Keeping.{opened_as, never_lost, not_below, fronts_staged}
use Rattle.law_phases.proofs.Whole.{AnswerRow, row_found, staged_by_all, step_moved}
use Rattle.law_phases.proofs.Lasting.{run_good, fronts_same, fronts_serving}

calm_unlost : (e : ℕ) → IsCalm (line.Lost e) → ⊥
calm_unlost e calm = absurd (apart (calm.phase Serving)) where
  apart : Closed ≡ Serving → ⊥
  apart same = cc

module _ (volume : Volume) (events : List Event) (limits : IsWithinLimits (record { volume = volume; events = events })) (many : 0 < volume.geometry.replicas)
    (history : List Past) (t : TraceStep) (w : World) where
  abbrev shape : Shape
  shape = volume.geometry

  abbrev judge : Judge
  judge = judge_of shape events history

  abbrev past : News → List Line → Past
  past x lines = record { step = t; news = x; before = judge; lines = lines }

  abbrev Before : News → Type 0
  Before x = IsBefore volume events history t.event x w

  -- the client serves after it, or what is known of staged sessions stays so
  record Fits (x : News) (lines : List Line) : Type 0 where
    last : opens (past x lines) ≡ true → OpensLast history (past x lines)
    unlost : (e : ℕ) → IsAmong (line.Lost e) lines → ⊥
    fronts : (phase_of (past x lines ∷ history) ≡ Serving) ⊎ (AreFronts judge → AreFronts (judged_all events judge lines))

  still_fits : (x : News) (lines : List Line) → AreStill lines → Fits x lines
  still_fits x lines still = record {
    last = λ opened. absurd (false≢true (sym (calm_opens lines (still_calm lines still)) ∙ opened));
    unlost = λ e m. among_all IsStill lines (line.Lost e) m still;
    fronts = inr (λ fronts. fronts_same judge (judged_all events judge lines) (still_same events lines judge still) fronts);
  }

  -- lines of a client that goes on serving
  calm_fits : (name : NodeName) (m : Message) (lines : List Line) → phase_of history ≡ Serving → AreCalm lines → Fits (Says name m) lines
  calm_fits name m lines serving calm = record {
    last = λ opened. absurd (false≢true (sym (calm_opens lines calm) ∙ opened));
    unlost = λ e among. calm_unlost e (among_all IsCalm lines (line.Lost e) among calm);
    fronts = inl (phase_then (past (Says name m) lines) history Serving serving calm);
  }

  stage_fits : (x : News) (e f s : ℕ) → IsPrefixOf events judge e f s → judge.now.session ≤ f → Fits x (line.Stage e f s ∷ [])
  unfolding judged_all
  stage_fits x e f s legal up = record {
    last = λ opened. absurd (false≢true opened);
    unlost = λ k m. not_here k m;
    fronts = inr (λ fronts. fronts_staged judge fronts shape events e f s legal up);
  }
    where
      not_here : (k : ℕ) → (line.Lost k ≡ line.Stage e f s) ⊎ ⊥ → ⊥
      not_here k (inl same) = absurd (cc)
      not_here k (inr none) = none

  -- ---- serving

  answer_fits : (name : NodeName) (m : Message) (lines : List Line) → phase_of history ≡ Serving → AnswerRow lines → Fits (Says name m) lines
  answer_fits name m lines serving (inl still) = still_fits (Says name m) lines still
  answer_fits name m lines serving (inr (u, s, rest, is, still)) = calm_fits name m lines serving (subst AreCalm (sym is) (calm_submit u s, still_calm rest still))

  serving_fits : (name : NodeName) (m : Message) → Before (Says name m) → phase_of history ≡ Serving → Fits (Says name m) (due_serving shape events history judge name m)
  serving_fits name (message.Committed c) b serving =
      let news : List News = Says name (message.Committed c) ∷ news_since opens history in
      cond_both {A = List Line} (c.session == judge.now.session) (acks_due shape events (live history judge) news judge (drop judge.acked judge.now.list)) [] (Fits (Says name (message.Committed c)))
      (λ u. calm_fits name (message.Committed c) (acks_due shape events (live history judge) news judge (drop judge.acked judge.now.list)) serving
      (acks_calm shape events (live history judge) news w.claims
      (λ session s batch all. claims_heard shape many events w news (heard_since shape many events w history (Says name (message.Committed c)) opens b.heard_before b.heard_now) session s batch all)
      (drop judge.acked judge.now.list) judge))
      (λ u. still_fits (Says name (message.Committed c)) [] tt)
  serving_fits name (message.Answer a) b serving =
      answer_fits name (message.Answer a) (due_answer shape events history judge name a) serving
      (row_found shape events history judge name a (find (λ q. is_answer shape judge q name a) (questions shape (live history judge))))
  serving_fits name other b serving = still_fits (Says name other) [] tt

  -- ---- a gathering

  choice_fits : (name : NodeName) (m : Message) (b : Before (Says name m)) (e : ℕ) → phase_of history ≡ Gathering e
      → all_replied shape (replies_to e (Says name m ∷ news_since begins history)) ≡ true
      → (o : Option Header) → choice_of shape (pool_of shape volume.key (replies_to e (Says name m ∷ news_since begins history))) ≡ o
      → AlongLines (IsLegalLine shape events) events judge (due_choice e o) → Fits (Says name m) (due_choice e o)
  unfolding AlongLines
  choice_fits name m b e at all None is legal =
      absurd (false≢true (sym (ap is_some is) ∙ never_lost volume events many history t.event (Says name m) w b e at (opened_as volume events history t.event (Says name m) w b e at) all))
  choice_fits name m b e at all (Some h) is legal =
      stage_fits (Says name m) e h.session h.seq legal.0 (not_below volume events many history t.event (Says name m) w b e at (opened_as volume events history t.event (Says name m) w b e at) all h is)

  gathering_fits : (name : NodeName) (m : Message) → Before (Says name m) → (e : ℕ) → phase_of history ≡ Gathering e
      → AlongLines (IsLegalLine shape events) events judge (due_gathering volume history e name m) → Fits (Says name m) (due_gathering volume history e name m)
  gathering_fits name (message.Gathered g) b e at legal =
      let news : List News = Says name (message.Gathered g) ∷ news_since begins history in
      let P : List Line → Type 0 = λ lines. AlongLines (IsLegalLine shape events) events judge lines → Fits (Says name (message.Gathered g)) lines in
      cond_both {A = List Line} (g.session == e) (due_replies volume e (replies_to e news)) [] P
      (λ u. cond_both {A = List Line} (all_replied shape (replies_to e news)) (due_choice e (choice_of shape (pool_of shape volume.key (replies_to e news)))) [] P
      (λ all rules. choice_fits name (message.Gathered g) b e at all (choice_of shape (pool_of shape volume.key (replies_to e news))) refl rules)
      (λ all rules. still_fits (Says name (message.Gathered g)) [] tt))
      (λ u rules. still_fits (Says name (message.Gathered g)) [] tt) legal
  gathering_fits name other b e at legal = still_fits (Says name other) [] tt

  -- ---- a fetch

  fetching_fits : (name : NodeName) (m : Message) → (e g : ℕ) → AlongLines (IsLegalLine shape events) events judge (due_fetching shape judge e g name m) → Fits (Says name m) (due_fetching shape judge e g name m)
  unfolding AlongLines
  fetching_fits name (message.Dumped d) e g legal =
      cond_both {A = List Line} (is_fetched shape judge.now.session g (present_root shape judge g) name d) (line.Stage e judge.now.session (last_number judge) ∷ []) []
      (λ lines. AlongLines (IsLegalLine shape events) events judge lines → Fits (Says name (message.Dumped d)) lines)
      (λ u rules. stage_fits (Says name (message.Dumped d)) e judge.now.session (last_number judge) rules.0 (le_refl judge.now.session))
      (λ u rules. still_fits (Says name (message.Dumped d)) [] tt) legal
  fetching_fits name other e g legal = still_fits (Says name other) [] tt

  -- ---- a session is opened

  open_fits : (name : NodeName) (m : Message) (b : Before (Says name m)) (e : ℕ) → phase_of history ≡ Staged e → asked_of history ≡ e
      → all_switched shape e (Says name m ∷ news_since stages history) ≡ true → Fits (Says name m) (line.Open e ∷ [])
  unfolding phase_of
  open_fits name m b e at opening all = record {
    last = λ opened. record { e = e; only = refl; last = begun_last (last_begun history) refl; unbegun = refl };
    unlost = λ k among. not_here k among;
    fronts = inl refl;
  }
    where
      not_here : (k : ℕ) → (line.Lost k ≡ line.Open e) ⊎ ⊥ → ⊥
      not_here k (inl same) = absurd (cc)
      not_here k (inr none) = none

      above_first : 1 < e
      above_first =
          let staged : all_staged shape e (news_since stages history) ≡ true = staged_by_all shape many e (Says name m) (news_since stages history) all in
          let switching : w.client.phase ≡ abstract.Switching =
          b.client.phase ∙ (phase_now shape history (Staged e) at ∙ ap (λ u. if u then abstract.Switching else abstract.Staging) staged) in
          let late = (b.good.client.late (inr switching)).1 in
          let up = b.good.client.served_up in
          let asked : w.client.asked ≡ e = b.client.asked ∙ opening in
          omega (arith, late, up, asked)

      begun_last : (o : Option ℕ) → last_begun history ≡ o → last_begun history ≡ Some e
      begun_last None none =
          let first : 1 ≡ e = sym (ap (λ o. unwrap_or o 1) none) ∙ opening in
          let above = above_first in
          absurd (omega (arith, first, above))
      begun_last (Some k) some = some ∙ ap Some (sym (ap (λ o. unwrap_or o 1) some) ∙ opening)

  staged_fits : (name : NodeName) (m : Message) → Before (Says name m) → (e : ℕ) → phase_of history ≡ Staged e → asked_of history ≡ e → Fits (Says name m) (due_staged shape history e name m)
  staged_fits name (message.Switched s) b e at opening =
      cond_both {A = List Line} ((s.session == e) && all_switched shape e (Says name (message.Switched s) ∷ news_since stages history)) (line.Open e ∷ []) [] (Fits (Says name (message.Switched s)))
      (λ u. open_fits name (message.Switched s) b e at opening (and_right (s.session == e) (all_switched shape e (Says name (message.Switched s) ∷ news_since stages history)) u))
      (λ u. still_fits (Says name (message.Switched s)) [] tt)
  staged_fits name other b e at opening = still_fits (Says name other) [] tt

  -- ---- any step

  message_fits : (name : NodeName) (m : Message) → Before (Says name m) → (phase : Phase) → phase_of history ≡ phase → OpensAsked phase (asked_of history)
      → AlongLines (IsLegalLine shape events) events judge (due_message volume events history judge name m phase) → Fits (Says name m) (due_message volume events history judge name m phase)
  message_fits name m b Serving at opening legal = serving_fits name m b at
  message_fits name m b Closed at opening legal = still_fits (Says name m) [] tt
  message_fits name m b (Gathering e) at opening legal = gathering_fits name m b e at legal
  message_fits name m b (Fetching e g) at opening legal = fetching_fits name m e g legal
  message_fits name m b (Staged e) at opening legal = staged_fits name m b e at opening

  asked_fits : (r : Request) (o : Option RequestRefusal) → Fits (Asks r) (due_request events judge (live history judge) t.event r o)
  asked_fits r (Some cause) = still_fits (Asks r) (line.Refused t.event cause ∷ []) (tt, tt)
  asked_fits (request.Write batch) None = still_fits (Asks (request.Write batch)) _ (barriers_still judge _)
  asked_fits (request.Read k) None = still_fits (Asks (request.Read k)) _ (barriers_still judge _)
  asked_fits request.Barrier None = still_fits (Asks request.Barrier) _ (barriers_still judge _)
  asked_fits (request.Restart e) None = still_fits (Asks (request.Restart e)) [] tt
  asked_fits (request.Reassign e g) None = still_fits (Asks (request.Reassign e g)) [] tt

  step_fits : (x : News) → Before x → Fits x (due_news volume events history judge t.event x)
  unfolding due_news
  step_fits (Asks r) b = asked_fits r (refusal_of shape (phase_of history) judge (live history judge) r)
  step_fits (Says name m) b = message_fits name m b (phase_of history) refl b.opening b.legal
  step_fits Crashes b = still_fits Crashes [] tt
  step_fits Silence b = still_fits Silence [] tt

  module _ (x : News) (b : Before x) where
    abbrev p : Past
    p = past x (due_news volume events history judge t.event x)

    -- a session that is opened is the one that was begun last
    pub opens_last : opens p ≡ true → OpensLast history p
    opens_last = (step_fits x b).last

    -- nothing is lost
    pub none_lost : (e : ℕ) → IsAmong (line.Lost e) p.lines → ⊥
    none_lost = (step_fits x b).unlost

    -- what is known of staged sessions stays so
    pub fronts_on : AreFronts judge → AreFronts (judge_of shape events (p ∷ history))
    fronts_on fronts = by (step_fits x b).fronts where
      moved : IsMoved shape events history p w
      moved = step_moved volume events limits many history t w b.countable x b

      by : (phase_of (p ∷ history) ≡ Serving) ⊎ (AreFronts judge → AreFronts (judged_all events judge (due_news volume events history judge t.event x))) → AreFronts (judge_of shape events (p ∷ history))
      by (inl serving) = fronts_serving shape events (p ∷ history) moved.after moved.client (run_good _ w moved.after moved.run b.good).0 serving
      by (inr keeps) = keeps fronts
