-- Any step of a client, whatever it is at, gives the lines due.
use Rattle.std.proofs.Common.{◌≡◌, ℕ, ◌^◌, ◌≤◌, false, ◌∙◌, List, [], ◌∷◌, refl, ap, sym, subst, arith}
use Rattle.salus_types.specs.declared.names.NodeName.{NodeName}
use Rattle.salus_message.specs.declared.wire.Message.{Message}
use Rattle.salus_message.specs.declared.wire.Message.TheVariants as message
use Rattle.schedule_text.specs.declared.schedule.Volume.{Volume}
use Rattle.schedule_text.specs.declared.schedule.Event.{Event}
use Rattle.printed_lines.specs.declared.line.Line.{Line}
use Rattle.salus_model.specs.declared.trace.TraceStep.{TraceStep}
use Rattle.salus_model.specs.Judge.{Judge, judged_all}
use Rattle.salus_model.specs.Hearing.{News, Asks, Says, Crashes, Silence, Past, news_since, begins, is_serving, phase_of}
use Rattle.salus_model.specs.Waiting.{Taken, live, refusal_of}
use Rattle.salus_model.specs.Opening.{reply_in, replies_to, says_staged, says_switched}
use Rattle.salus_model.specs.Due.{due_request, due_gathering, due_fetching, due_staged, due_message, due_news}
use Rattle.client_rules.specs.State as state
use Rattle.client_rules.specs.State.{ignored}
use Rattle.client_rules.specs.Tables.{line_of}
use Rattle.client_rules.specs.Rules.{requested, requested_away, told_gathering, told_fetching, told_staging, told_switching, received, told}
use Rattle.law_lines.specs.Mirrors.{ChoiceHolds, Mirrors, Holds, AsDue}
use Rattle.law_lines.specs.Ready.{IsReady, event_after, session_after}
use Rattle.law_lines.proofs.Histories.{past}
use Rattle.law_lines.proofs.Answered.{IsWritten}
use Rattle.law_lines.proofs.AwayRows.{AwayClient, IsNothing, quiet_as_due, away_as_due, crash_as_due}
use Rattle.law_lines.proofs.Openings.{HasNodes}
use Rattle.law_lines.proofs.OpeningRows.{gathered_as_due}
use Rattle.law_lines.proofs.SwitchRows.{dumped_as_due, early_as_due, staged_as_told, switched_as_due}
use Rattle.law_lines.proofs.Stepwise.{opens_in, serving_step}
use Rattle.law_lines.proofs.Away.{before-away, gathering-kept, fetching-kept, staging-kept, switching-kept}

module _ (volume : Volume) (events : List Event) (history : List Past) (judge : Judge) (n m : ℕ) (step : TraceStep) (nodes : HasNodes volume.geometry) where
  abbrev Row : News → List Line → state.Told → Type 0
  Row x due answer = AsDue volume (past step x judge due ∷ history) (judged_all events judge due) (event_after n step.event x) (session_after m x) due answer

  said_phase : (name : NodeName) (msg : Message) → phase_of (past step (Says name msg) judge [] ∷ history) ≡ phase_of history
  unfolding phase_of
  said_phase name msg = refl

  silent_phase : phase_of (past step Silence judge [] ∷ history) ≡ phase_of history
  unfolding phase_of
  silent_phase = refl

  -- the client stays what it is
  kept_row : (name : NodeName) (msg : Message) (c : state.Client) → is_serving (phase_of history) ≡ false → Holds volume history judge n m c
      → Mirrors volume (past step (Says name msg) judge [] ∷ history) judge n c → Row (Says name msg) [] (ignored c)
  unfolding judged_all
  kept_row name msg c away h mirrors = record {
    same = refl;
    holds = record { before = before-away volume.geometry history _ judge judge n n away (omega arith) (λ v is. is) refl h.before; young = h.young; mirrors = mirrors };
  }

  module _ (h : Holds volume history judge n m state.Closed) where
    closed_message : (name : NodeName) (msg : Message) → Row (Says name msg) [] (ignored state.Closed)
    closed_message name msg = kept_row name msg state.Closed (ap is_serving h.mirrors) h (said_phase name msg ∙ h.mirrors)

  module _ (g : state.Gathering) (h : Holds volume history judge n m (state.Gathers g)) where
    gather_plain : (name : NodeName) (msg : Message) → reply_in g.session (Says name msg) ≡ [] → Row (Says name msg) [] (ignored (state.Gathers g))
    gather_plain name msg none =
        kept_row name msg (state.Gathers g) (ap is_serving h.mirrors.phase) h (gathering-kept volume history (past step (Says name msg) judge []) g (said_phase name msg) refl none h.mirrors)

    gather_message : (name : NodeName) (msg : Message) → ChoiceHolds volume judge (replies_to g.session (Says name msg ∷ news_since begins history)) → Row (Says name msg) (due_gathering volume history g.session name msg) (told_gathering volume g name msg)
    gather_message name (message.Part d) = λ choice. gather_plain name (message.Part d) refl
    gather_message name (message.Prepared d) = λ choice. gather_plain name (message.Prepared d) refl
    gather_message name (message.Committed d) = λ choice. gather_plain name (message.Committed d) refl
    gather_message name (message.Ask d) = λ choice. gather_plain name (message.Ask d) refl
    gather_message name (message.Answer d) = λ choice. gather_plain name (message.Answer d) refl
    gather_message name (message.Gather d) = λ choice. gather_plain name (message.Gather d) refl
    gather_message name (message.Gathered d) = λ choice. gathered_as_due volume events history judge n m step name nodes g h d choice
    gather_message name (message.Stage d) = λ choice. gather_plain name (message.Stage d) refl
    gather_message name (message.Staged d) = λ choice. gather_plain name (message.Staged d) refl
    gather_message name (message.Switch d) = λ choice. gather_plain name (message.Switch d) refl
    gather_message name (message.Switched d) = λ choice. gather_plain name (message.Switched d) refl
    gather_message name (message.Dump d) = λ choice. gather_plain name (message.Dump d) refl
    gather_message name (message.Dumped d) = λ choice. gather_plain name (message.Dumped d) refl

  module _ (f : state.Fetching) (h : Holds volume history judge n m (state.Fetches f)) where
    fetch_plain : (name : NodeName) (msg : Message) → Row (Says name msg) [] (ignored (state.Fetches f))
    fetch_plain name msg =
        kept_row name msg (state.Fetches f) (ap is_serving h.mirrors.phase) h (fetching-kept history (past step (Says name msg) judge []) judge f (said_phase name msg) h.mirrors)

    fetch_message : (name : NodeName) (msg : Message) → Row (Says name msg) (due_fetching volume.geometry judge f.session f.region name msg) (told_fetching volume f name msg)
    fetch_message name (message.Part d) = fetch_plain name (message.Part d)
    fetch_message name (message.Prepared d) = fetch_plain name (message.Prepared d)
    fetch_message name (message.Committed d) = fetch_plain name (message.Committed d)
    fetch_message name (message.Ask d) = fetch_plain name (message.Ask d)
    fetch_message name (message.Answer d) = fetch_plain name (message.Answer d)
    fetch_message name (message.Gather d) = fetch_plain name (message.Gather d)
    fetch_message name (message.Gathered d) = fetch_plain name (message.Gathered d)
    fetch_message name (message.Stage d) = fetch_plain name (message.Stage d)
    fetch_message name (message.Staged d) = fetch_plain name (message.Staged d)
    fetch_message name (message.Switch d) = fetch_plain name (message.Switch d)
    fetch_message name (message.Switched d) = fetch_plain name (message.Switched d)
    fetch_message name (message.Dump d) = fetch_plain name (message.Dump d)
    fetch_message name (message.Dumped d) = dumped_as_due volume events history judge n m step name nodes f h d

  module _ (b : state.Beginning) (h : Holds volume history judge n m (state.Stages b)) where
    stage_plain : (name : NodeName) (msg : Message) → ((who : NodeName) → says_staged b.session who (Says name msg) ≡ false) → ((who : NodeName) → says_switched b.session who (Says name msg) ≡ false)
        → Row (Says name msg) [] (ignored (state.Stages b))
    stage_plain name msg one two =
        kept_row name msg (state.Stages b) (ap is_serving h.mirrors.phase) h (staging-kept volume.geometry history (past step (Says name msg) judge []) judge b (said_phase name msg) refl one two h.mirrors)

    stage_message : (name : NodeName) (msg : Message) → Row (Says name msg) (due_staged volume.geometry history b.session name msg) (told_staging volume.geometry b name msg)
    stage_message name (message.Part d) = stage_plain name (message.Part d) (λ who. refl) (λ who. refl)
    stage_message name (message.Prepared d) = stage_plain name (message.Prepared d) (λ who. refl) (λ who. refl)
    stage_message name (message.Committed d) = stage_plain name (message.Committed d) (λ who. refl) (λ who. refl)
    stage_message name (message.Ask d) = stage_plain name (message.Ask d) (λ who. refl) (λ who. refl)
    stage_message name (message.Answer d) = stage_plain name (message.Answer d) (λ who. refl) (λ who. refl)
    stage_message name (message.Gather d) = stage_plain name (message.Gather d) (λ who. refl) (λ who. refl)
    stage_message name (message.Gathered d) = stage_plain name (message.Gathered d) (λ who. refl) (λ who. refl)
    stage_message name (message.Stage d) = stage_plain name (message.Stage d) (λ who. refl) (λ who. refl)
    stage_message name (message.Staged d) = staged_as_told volume events history judge n m step name nodes b h d
    stage_message name (message.Switch d) = stage_plain name (message.Switch d) (λ who. refl) (λ who. refl)
    stage_message name (message.Switched d) = early_as_due volume events history judge n m step name nodes b h d
    stage_message name (message.Dump d) = stage_plain name (message.Dump d) (λ who. refl) (λ who. refl)
    stage_message name (message.Dumped d) = stage_plain name (message.Dumped d) (λ who. refl) (λ who. refl)

  module _ (b : state.Beginning) (h : Holds volume history judge n m (state.Switches b)) where
    switch_plain : (name : NodeName) (msg : Message) → ((who : NodeName) → says_switched b.session who (Says name msg) ≡ false)
        → Row (Says name msg) [] (ignored (state.Switches b))
    switch_plain name msg two =
        kept_row name msg (state.Switches b) (ap is_serving h.mirrors.phase) h (switching-kept volume.geometry history (past step (Says name msg) judge []) judge b (said_phase name msg) refl two h.mirrors)

    switch_message : (name : NodeName) (msg : Message) → Row (Says name msg) (due_staged volume.geometry history b.session name msg) (told_switching volume.geometry b name msg)
    switch_message name (message.Part d) = switch_plain name (message.Part d) (λ who. refl)
    switch_message name (message.Prepared d) = switch_plain name (message.Prepared d) (λ who. refl)
    switch_message name (message.Committed d) = switch_plain name (message.Committed d) (λ who. refl)
    switch_message name (message.Ask d) = switch_plain name (message.Ask d) (λ who. refl)
    switch_message name (message.Answer d) = switch_plain name (message.Answer d) (λ who. refl)
    switch_message name (message.Gather d) = switch_plain name (message.Gather d) (λ who. refl)
    switch_message name (message.Gathered d) = switch_plain name (message.Gathered d) (λ who. refl)
    switch_message name (message.Stage d) = switch_plain name (message.Stage d) (λ who. refl)
    switch_message name (message.Staged d) = switch_plain name (message.Staged d) (λ who. refl)
    switch_message name (message.Switch d) = switch_plain name (message.Switch d) (λ who. refl)
    switch_message name (message.Switched d) = switched_as_due volume events history judge n m step name nodes b h d
    switch_message name (message.Dump d) = switch_plain name (message.Dump d) (λ who. refl)
    switch_message name (message.Dumped d) = switch_plain name (message.Dumped d) (λ who. refl)

  -- ---- any news

  nothing : IsNothing Silence
  nothing = record { reply = λ e. refl; staged = λ e name. refl; switched = λ e name. refl }

  away_step : (c : state.Client) → AwayClient c → (h : Holds volume history judge n m c) → (x : News) → IsReady volume events history judge n m step.event x
      → Row x (due_news volume events history judge step.event x) (told volume c step.event x)
  unfolding due_news told requested received
  away_step (state.Serves c) away h x ready = absurd away
  away_step state.Closed away h (Asks r) ready =
      subst (λ p. Row (Asks r) (due_request events judge (live history judge) step.event r (refusal_of volume.geometry p judge (live history judge) r)) (requested_away volume.geometry state.Closed step.event r)) (sym h.mirrors)
      (away_as_due volume events history judge n m (session_after m (Asks r)) step state.Closed tt h r (live history judge) ready.fits.0 (opens_in events n m step.event r ready.fits))
  away_step state.Closed away h (Says name msg) ready =
      subst (λ p. Row (Says name msg) (due_message volume events history judge name msg p) (received volume state.Closed name msg)) (sym h.mirrors) (closed_message h name msg)
  away_step state.Closed away h Crashes ready = crash_as_due volume events history judge n m m step state.Closed tt h
  away_step state.Closed away h Silence ready = quiet_as_due volume events history judge n m m step state.Closed tt h Silence silent_phase refl nothing
  away_step (state.Gathers g) away h (Asks r) ready =
      subst (λ p. Row (Asks r) (due_request events judge (live history judge) step.event r (refusal_of volume.geometry p judge (live history judge) r)) (requested_away volume.geometry (state.Gathers g) step.event r)) (sym h.mirrors.phase)
      (away_as_due volume events history judge n m (session_after m (Asks r)) step (state.Gathers g) tt h r (live history judge) ready.fits.0 (opens_in events n m step.event r ready.fits))
  away_step (state.Gathers g) away h (Says name msg) ready =
      subst (λ p. Row (Says name msg) (due_message volume events history judge name msg p) (received volume (state.Gathers g) name msg)) (sym h.mirrors.phase) (gather_message g h name msg (ready.choice g.session h.mirrors.phase))
  away_step (state.Gathers g) away h Crashes ready = crash_as_due volume events history judge n m m step (state.Gathers g) tt h
  away_step (state.Gathers g) away h Silence ready = quiet_as_due volume events history judge n m m step (state.Gathers g) tt h Silence silent_phase refl nothing
  away_step (state.Fetches f) away h (Asks r) ready =
      subst (λ p. Row (Asks r) (due_request events judge (live history judge) step.event r (refusal_of volume.geometry p judge (live history judge) r)) (requested_away volume.geometry (state.Fetches f) step.event r)) (sym h.mirrors.phase)
      (away_as_due volume events history judge n m (session_after m (Asks r)) step (state.Fetches f) tt h r (live history judge) ready.fits.0 (opens_in events n m step.event r ready.fits))
  away_step (state.Fetches f) away h (Says name msg) ready =
      subst (λ p. Row (Says name msg) (due_message volume events history judge name msg p) (received volume (state.Fetches f) name msg)) (sym h.mirrors.phase) (fetch_message f h name msg)
  away_step (state.Fetches f) away h Crashes ready = crash_as_due volume events history judge n m m step (state.Fetches f) tt h
  away_step (state.Fetches f) away h Silence ready = quiet_as_due volume events history judge n m m step (state.Fetches f) tt h Silence silent_phase refl nothing
  away_step (state.Stages b) away h (Asks r) ready =
      subst (λ p. Row (Asks r) (due_request events judge (live history judge) step.event r (refusal_of volume.geometry p judge (live history judge) r)) (requested_away volume.geometry (state.Stages b) step.event r)) (sym h.mirrors.phase)
      (away_as_due volume events history judge n m (session_after m (Asks r)) step (state.Stages b) tt h r (live history judge) ready.fits.0 (opens_in events n m step.event r ready.fits))
  away_step (state.Stages b) away h (Says name msg) ready =
      subst (λ p. Row (Says name msg) (due_message volume events history judge name msg p) (received volume (state.Stages b) name msg)) (sym h.mirrors.phase) (stage_message b h name msg)
  away_step (state.Stages b) away h Crashes ready = crash_as_due volume events history judge n m m step (state.Stages b) tt h
  away_step (state.Stages b) away h Silence ready = quiet_as_due volume events history judge n m m step (state.Stages b) tt h Silence silent_phase refl nothing
  away_step (state.Switches b) away h (Asks r) ready =
      subst (λ p. Row (Asks r) (due_request events judge (live history judge) step.event r (refusal_of volume.geometry p judge (live history judge) r)) (requested_away volume.geometry (state.Switches b) step.event r)) (sym h.mirrors.phase)
      (away_as_due volume events history judge n m (session_after m (Asks r)) step (state.Switches b) tt h r (live history judge) ready.fits.0 (opens_in events n m step.event r ready.fits))
  away_step (state.Switches b) away h (Says name msg) ready =
      subst (λ p. Row (Says name msg) (due_message volume events history judge name msg p) (received volume (state.Switches b) name msg)) (sym h.mirrors.phase) (switch_message b h name msg)
  away_step (state.Switches b) away h Crashes ready = crash_as_due volume events history judge n m m step (state.Switches b) tt h
  away_step (state.Switches b) away h Silence ready = quiet_as_due volume events history judge n m m step (state.Switches b) tt h Silence silent_phase refl nothing

  -- any step of any client
  pub step_as_due : (c : state.Client) → (h : Holds volume history judge n m c) → n ≤ 2 ^ 32
      → ((w : Taken) (behind : List Taken) → line_of (live history judge) ≡ w ∷ behind → IsWritten events w)
      → (x : News) → IsReady volume events history judge n m step.event x
      → Row x (due_news volume events history judge step.event x) (told volume c step.event x)
  step_as_due (state.Serves c) h small script x ready = serving_step volume events history judge n m step nodes c h small script x ready.fits
  step_as_due state.Closed h small script x ready = away_step state.Closed tt h x ready
  step_as_due (state.Gathers g) h small script x ready = away_step (state.Gathers g) tt h x ready
  step_as_due (state.Fetches f) h small script x ready = away_step (state.Fetches f) tt h x ready
  step_as_due (state.Stages b) h small script x ready = away_step (state.Stages b) tt h x ready
  step_as_due (state.Switches b) h small script x ready = away_step (state.Switches b) tt h x ready
