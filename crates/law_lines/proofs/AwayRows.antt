-- A request to a client that doesn't serve, and a step that tells it nothing.
use Rattle.std.proofs.Common.{◌≡◌, ℕ, ◌+◌, ◌≤◌, false, ◌∙◌, List, [], ◌∷◌, refl, ap, arith}
use Rattle.salus_types.specs.declared.names.NodeName.{NodeName}
use Rattle.schedule_text.specs.declared.schedule.Volume.{Volume}
use Rattle.schedule_text.specs.declared.schedule.Event.{Event}
use Rattle.printed_lines.specs.declared.line.Line.TheVariants as line
use Rattle.printed_lines.specs.declared.line.RequestRefusal.TheVariants as refusal
use Rattle.salus_model.specs.declared.trace.Request.{Request}
use Rattle.salus_model.specs.declared.trace.Request.TheVariants as request
use Rattle.salus_model.specs.declared.trace.TraceStep.{TraceStep}
use Rattle.salus_model.specs.Judge.{Judge, judged_all}
use Rattle.salus_model.specs.Hearing.{News, Asks, Crashes, Past, begins, stages, asks_to_open, is_serving, phase_of, Closed}
use Rattle.salus_model.specs.Waiting.{Taken, refusal_away}
use Rattle.salus_model.specs.Opening.{reply_in, says_staged, says_switched}
use Rattle.salus_model.specs.Due.{due_request}
use Rattle.client_rules.specs.State as state
use Rattle.client_rules.specs.State.{ignored, only_lines}
use Rattle.client_rules.specs.Opening.{restarted}
use Rattle.client_rules.specs.Rules.{requested_away, crashed}
use Rattle.list_lemmas.proofs.Tests.{and_false}
use Rattle.law_lines.specs.Mirrors.{Mirrors, Holds, AsDue}
use Rattle.law_lines.proofs.Histories.{past}
use Rattle.law_lines.proofs.Asked.{OpensIn, opens-up, due-up}
use Rattle.law_lines.proofs.Away.{IsAway, gathering-kept, fetching-kept, staging-kept, switching-kept, before-away, young-now, restarted-mirrors}

-- the client isn't one that serves
abbrev pub AwayClient : state.Client → Type 0
AwayClient (state.Serves c) = ⊥
AwayClient other = Unit {0}

-- news that no phase counts
pub record IsNothing (x : News) : Type 0 where
  pub reply : (e : ℕ) → reply_in e x ≡ []
  pub staged : (e : ℕ) (name : NodeName) → says_staged e name x ≡ false
  pub switched : (e : ℕ) (name : NodeName) → says_switched e name x ≡ false

module _ (volume : Volume) (events : List Event) (history : List Past) (judge : Judge) (n m later : ℕ) (step : TraceStep) where
  -- the phase of a client that doesn't serve
  pub away-history : (c : state.Client) → AwayClient c → Mirrors volume history judge n c → IsAway history
  away-history state.Closed away holds = ap is_serving holds
  away-history (state.Serves c) away holds = absurd away
  away-history (state.Gathers g) away holds = ap is_serving holds.phase
  away-history (state.Fetches f) away holds = ap is_serving holds.phase
  away-history (state.Stages b) away holds = ap is_serving holds.phase
  away-history (state.Switches b) away holds = ap is_serving holds.phase

  -- nothing counts: the phase is kept
  pub phase-kept : (k : ℕ) (c : state.Client) (p : Past) → AwayClient c → phase_of (p ∷ history) ≡ phase_of history → begins p ≡ false → stages p ≡ false → IsNothing p.news
      → Mirrors volume history judge n c → Mirrors volume (p ∷ history) judge k c
  phase-kept k state.Closed p away phase begins_not stages_not none holds = phase ∙ holds
  phase-kept k (state.Serves c) p away phase begins_not stages_not none holds = absurd away
  phase-kept k (state.Gathers g) p away phase begins_not stages_not none holds = gathering-kept volume history p g phase begins_not (none.reply g.session) holds
  phase-kept k (state.Fetches f) p away phase begins_not stages_not none holds = fetching-kept history p judge f phase holds
  phase-kept k (state.Stages b) p away phase begins_not stages_not none holds =
      staging-kept volume.geometry history p judge b phase stages_not (none.staged b.session) (none.switched b.session) holds
  phase-kept k (state.Switches b) p away phase begins_not stages_not none holds =
      switching-kept volume.geometry history p judge b phase stages_not (none.switched b.session) holds

  module _ (c : state.Client) (away : AwayClient c) (h : Holds volume history judge n m c) where
    away_here : IsAway history
    away_here = away-history c away h.mirrors

    -- a step without lines that counts for nothing
    pub quiet_as_due : (x : News) → phase_of (past step x judge [] ∷ history) ≡ phase_of history → begins (past step x judge []) ≡ false → IsNothing x
        → AsDue volume (past step x judge [] ∷ history) (judged_all events judge []) n m [] (ignored c)
    unfolding judged_all
    quiet_as_due x phase begins_not none = record {
      same = refl;
      holds = record {
        before = before-away volume.geometry history (past step x judge []) judge judge n n away_here (omega arith) (λ v is. is) refl h.before;
        young = h.young;
        mirrors = phase-kept n c (past step x judge []) away phase begins_not refl none h.mirrors;
      };
    }

    refused_phase : (r : Request) → phase_of (past step (Asks r) judge (line.Refused step.event refusal.Closed ∷ []) ∷ history) ≡ phase_of history
    unfolding phase_of
    refused_phase r = refl

    refused_as_due : (r : Request) → n ≤ step.event
        → AsDue volume (past step (Asks r) judge (line.Refused step.event refusal.Closed ∷ []) ∷ history) (judged_all events judge (line.Refused step.event refusal.Closed ∷ []))
        (step.event + 1) m (line.Refused step.event refusal.Closed ∷ []) (only_lines c (line.Refused step.event refusal.Closed ∷ []))
    unfolding judged_all
    refused_as_due r up = record {
      same = refl;
      holds = record {
        before = before-away volume.geometry history _ judge judge n (step.event + 1) away_here (omega (arith, up)) (λ v is. is) refl h.before;
        young = h.young;
        mirrors = phase-kept (step.event + 1) c (past step (Asks r) judge (line.Refused step.event refusal.Closed ∷ [])) away (refused_phase r) (and_false (asks_to_open (Asks r))) refl
            (record { reply = λ e. refl; staged = λ e name. refl; switched = λ e name. refl }) h.mirrors;
      };
    }

    restart_as_due : (e : ℕ) → n ≤ step.event → OpensIn m later (request.Restart e)
        → AsDue volume (past step (Asks (request.Restart e)) judge [] ∷ history) (judged_all events judge []) (step.event + 1) later [] (restarted volume.geometry e)
    unfolding judged_all restarted
    restart_as_due e up o =
        let young = young-now judge m c h.young in
        let from = o.0 in
        record {
          same = refl;
          holds = record {
            before = before-away volume.geometry history _ judge judge n (step.event + 1) away_here (omega (arith, up)) (λ v is. is) refl h.before;
            young = (omega (arith, young, from), o.1);
            mirrors = restarted-mirrors volume history step judge e;
          };
        }

    -- a request
    pub away_as_due : (r : Request) (requests : List Taken) → n ≤ step.event → OpensIn m later r
        → AsDue volume (past step (Asks r) judge (due_request events judge requests step.event r (refusal_away r)) ∷ history)
        (judged_all events judge (due_request events judge requests step.event r (refusal_away r)))
        (step.event + 1) later (due_request events judge requests step.event r (refusal_away r)) (requested_away volume.geometry c step.event r)
    away_as_due (request.Restart e) requests up o = restart_as_due e up o
    away_as_due (request.Write batch) requests up o = due-up volume _ _ _ m later _ _ o (refused_as_due (request.Write batch) up)
    away_as_due (request.Read b) requests up o = due-up volume _ _ _ m later _ _ o (refused_as_due (request.Read b) up)
    away_as_due request.Barrier requests up o = due-up volume _ _ _ m later _ _ o (refused_as_due request.Barrier up)
    away_as_due (request.Reassign e g) requests up o = due-up volume _ _ _ m later _ _ (opens-up m later (request.Reassign e g) o) (refused_as_due (request.Reassign e g) up)

    crash_phase : phase_of (past step Crashes judge [] ∷ history) ≡ Closed
    unfolding phase_of
    crash_phase = refl

    -- the client crashes
    pub crash_as_due : AsDue volume (past step Crashes judge [] ∷ history) (judged_all events judge []) n m [] crashed
    unfolding judged_all
    crash_as_due = record {
      same = refl;
      holds = record {
        before = before-away volume.geometry history _ judge judge n n away_here (omega arith) (λ v is. is) refl h.before;
        young = young-now judge m c h.young;
        mirrors = crash_phase;
      };
    }
