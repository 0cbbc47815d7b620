-- Any step of the client gives the lines due.
use Rattle.std.proofs.Common.{◌≡◌, ℕ, ◌^◌, ◌≤◌, false, List, [], ◌∷◌, None, refl, sym, subst, arith}
use Rattle.salus_types.specs.declared.names.NodeName.{NodeName}
use Rattle.salus_message.specs.declared.wire.Message.{Message}
use Rattle.salus_message.specs.declared.wire.Message.TheVariants as message
use Rattle.schedule_text.specs.declared.schedule.Volume.{Volume}
use Rattle.schedule_text.specs.declared.schedule.Event.{Event}
use Rattle.printed_lines.specs.declared.line.Line.{Line}
use Rattle.salus_model.specs.declared.trace.Request.{Request}
use Rattle.salus_model.specs.declared.trace.Request.TheVariants as request
use Rattle.salus_model.specs.declared.trace.TraceStep.{TraceStep}
use Rattle.salus_model.specs.Judge.{Judge, judged_all}
use Rattle.salus_model.specs.Hearing.{News, Asks, Says, Crashes, Silence, Past, Closed, phase_of}
use Rattle.salus_model.specs.Waiting.{Taken, Question, live}
use Rattle.salus_model.specs.Answering.{verdict_in}
use Rattle.salus_model.specs.Due.{is_claim, due_serving, due_message, due_news}
use Rattle.client_rules.specs.State as state
use Rattle.client_rules.specs.State.{ignored}
use Rattle.client_rules.specs.Tables.{line_of}
use Rattle.client_rules.specs.Rules.{requested, told_serving, received, crashed, told}
use Rattle.law_lines.specs.Mirrors.{Holds, AsDue}
use Rattle.law_lines.specs.Ready.{AsksFit, event_after, session_after}
use Rattle.law_lines.proofs.Histories.{past, live-plain, agree-quiet, untouched-agree}
use Rattle.law_lines.proofs.Keeping.{before-serving, serving-same}
use Rattle.law_lines.proofs.Asked.{OpensIn, asked_as_due}
use Rattle.law_lines.proofs.Committed.{ignored_as_due, committed_as_due}
use Rattle.law_lines.proofs.Answered.{IsWritten, answered_as_due}
use Rattle.law_lines.proofs.Openings.{HasNodes}

-- the sessions that a request asks for lie between the bounds
pub opens_in : (events : List Event) (n m v : ℕ) (r : Request) → AsksFit events n m v (Asks r) → OpensIn m (session_after m (Asks r)) r
opens_in events n m v (request.Write batch) f = omega arith
opens_in events n m v (request.Read b) f = omega arith
opens_in events n m v request.Barrier f = omega arith
opens_in events n m v (request.Restart e) f = (f.2, omega arith)
opens_in events n m v (request.Reassign e g) f = (f.2, omega arith)

module _ (volume : Volume) (events : List Event) (history : List Past) (judge : Judge) (n m : ℕ) (step : TraceStep) (nodes : HasNodes volume.geometry) where
  abbrev Row : News → List Line → state.Told → Type 0
  Row x due answer = AsDue volume (past step x judge due ∷ history) (judged_all events judge due) (event_after n step.event x) (session_after m x) due answer

  -- ---- serving

  module _ (c : state.Serving) (h : Holds volume history judge n m (state.Serves c)) (small : n ≤ 2 ^ 32)
      (script : (w : Taken) (behind : List Taken) → line_of (live history judge) ≡ w ∷ behind → IsWritten events w) where
    plain : (name : NodeName) (msg : Message) → ((q : Question) → verdict_in volume.geometry judge q (Says name msg) ≡ None) → ((s : ℕ) (who : NodeName) → is_claim judge.now.session s who (Says name msg) ≡ false)
        → Row (Says name msg) [] (ignored (state.Serves c))
    plain name msg quiet unclaimed =
        ignored_as_due volume events history judge n m c step name h msg (agree-quiet volume.geometry history (past step (Says name msg) judge []) quiet) unclaimed

    serving_message : (name : NodeName) (msg : Message) → Row (Says name msg) (due_serving volume.geometry events history judge name msg) (told_serving volume c name msg)
    serving_message name (message.Committed d) = committed_as_due volume events history judge n m c step name h d
    serving_message name (message.Answer d) = answered_as_due volume events history judge n m c step name d h script small
    serving_message name (message.Part d) = plain name (message.Part d) (λ q. refl) (λ s who. refl)
    serving_message name (message.Prepared d) = plain name (message.Prepared d) (λ q. refl) (λ s who. refl)
    serving_message name (message.Ask d) = plain name (message.Ask d) (λ q. refl) (λ s who. refl)
    serving_message name (message.Gather d) = plain name (message.Gather d) (λ q. refl) (λ s who. refl)
    serving_message name (message.Gathered d) = plain name (message.Gathered d) (λ q. refl) (λ s who. refl)
    serving_message name (message.Stage d) = plain name (message.Stage d) (λ q. refl) (λ s who. refl)
    serving_message name (message.Staged d) = plain name (message.Staged d) (λ q. refl) (λ s who. refl)
    serving_message name (message.Switch d) = plain name (message.Switch d) (λ q. refl) (λ s who. refl)
    serving_message name (message.Switched d) = plain name (message.Switched d) (λ q. refl) (λ s who. refl)
    serving_message name (message.Dump d) = plain name (message.Dump d) (λ q. refl) (λ s who. refl)
    serving_message name (message.Dumped d) = plain name (message.Dumped d) (λ q. refl) (λ s who. refl)

    closed_phase : phase_of (past step Crashes judge [] ∷ history) ≡ Closed
    unfolding phase_of
    closed_phase = refl

    serving_crash : Row Crashes [] crashed
    unfolding judged_all
    serving_crash = record {
      same = refl;
      holds = record {
        before = record {
          ended = h.before.ended;
          untouched = λ q late. untouched-agree volume.geometry q (past step Crashes judge [] ∷ history) history (agree-quiet volume.geometry history (past step Crashes judge []) (λ o. refl) q) (h.before.untouched q late);
          latest = h.before.latest;
        };
        young = h.young;
        mirrors = closed_phase;
      };
    }

    silent_phase : phase_of (past step Silence judge [] ∷ history) ≡ phase_of history
    unfolding phase_of
    silent_phase = refl

    serving_silence : Row Silence [] (ignored (state.Serves c))
    unfolding judged_all
    serving_silence =
        let s = serving-same volume.geometry history (past step Silence judge []) judge n n c (omega arith) (agree-quiet volume.geometry history (past step Silence judge []) (λ q. refl))
        silent_phase (live-plain history (past step Silence judge []) judge refl refl) refl (λ k who. refl) h.mirrors in
        record { same = refl; holds = record { before = before-serving volume.geometry _ judge _ n s.order h.before.ended; young = h.young; mirrors = s } }

    pub serving_step : (x : News) → AsksFit events n m step.event x → Row x (due_news volume events history judge step.event x) (told volume (state.Serves c) step.event x)
    unfolding due_news told requested received
    serving_step (Asks r) fits = asked_as_due volume events history judge n m (session_after m (Asks r)) c step h fits.0 r (opens_in events n m step.event r fits)
    serving_step (Says name msg) fits =
        subst (λ p. Row (Says name msg) (due_message volume events history judge name msg p) (told_serving volume c name msg)) (sym h.mirrors.serves) (serving_message name msg)
    serving_step Crashes fits = serving_crash
    serving_step Silence fits = serving_silence
