-- What holds of a run's steps, with one step more.
use Rattle.std.proofs.Common.{◌≡◌, ◌∙◌, ℕ, ◌+◌, ◌≤◌, Bool, true, false, ◌==◌, if◌then◌else◌, List, [], ◌∷◌, ◌++◌, reverse, refl, sym, ap, ap₂, subst, append_assoc, append-nil}
use Rattle.std.proofs.lemmas.Bool.{eqb-true, eq-eqb}
use Rattle.std.proofs.lemmas.List.{reverse-append}
use Rattle.salus_types.specs.Volume.{Shape}
use Rattle.salus_types.specs.declared.names.NodeName.{NodeName}
use Rattle.salus_types.specs.declared.names.Sender.{Sender}
use Rattle.salus_types.specs.declared.names.Sender.TheVariants as sender
use Rattle.schedule_text.specs.declared.schedule.Volume.{Volume}
use Rattle.printed_lines.specs.declared.line.Line.{Line}
use Rattle.volume_model.specs.Groups.{is_client, same_node, same_party}
use Rattle.salus_model.specs.declared.trace.TraceStep.{TraceStep}
use Rattle.salus_model.specs.Following.{Posted, sent_by}
use Rattle.salus_model.specs.Hearing.{News, Silence, news_in, news_of}
use Rattle.client_rules.specs.State.{Client}
use Rattle.client_rules.specs.Rules.{told, client_step}
use Rattle.run_rules.specs.Knowing.{KnownNode, fresh}
use Rattle.run_rules.specs.Running.{known_of, after, addresses, AllSteps, IsNodeStep}
use Rattle.run_rules.specs.Run.{First}
use Rattle.run_rules.specs.Running as nodes
use Rattle.run_rules.specs.Serving.{IsClientStep}
use Rattle.run_rules.specs.Serving as serving
use Rattle.client_premises.specs.Premises.{IsApart}
use Rattle.client_premises.specs.Behind.{Behind}
use Rattle.client_premises.proofs.Along.{next, sent_after, one_behind, one_step, one_line, behind_map}
use Rattle.list_lemmas.proofs.Tests.{by_test, and_left, and_right}
use Rattle.run_steps.specs.Steps.{known_at, OfClient, AreMade}

-- ---- names

pub one_node : (a b : NodeName) → same_node a b ≡ true → a ≡ b
one_node a b same =
    ap₂ (λ (g r : ℕ). record { region = g; replica = r }) (eqb-true a.region b.region (and_left (a.region == b.region) (a.replica == b.replica) same))
    (eqb-true a.replica b.replica (and_right (a.region == b.region) (a.replica == b.replica) same))

pub same_name : (name : NodeName) → same_node name name ≡ true
same_name name = rw (eq-eqb name.region name.region refl, eq-eqb name.replica name.replica refl) refl

pub turned : (step : TraceStep) (steps earlier : List TraceStep) → reverse steps ++ step ∷ earlier ≡ reverse (step ∷ steps) ++ earlier
turned step steps earlier = sym (append_assoc (reverse steps) (step ∷ []) earlier) ∙ ap (λ (r : List TraceStep). r ++ earlier) (sym (reverse-append (step ∷ []) steps))

-- the newest step is the first of those that are given backwards
pub newest_first : (trace : List TraceStep) (step : TraceStep) → reverse (trace ++ step ∷ []) ≡ step ∷ reverse trace
newest_first trace step = reverse-append trace (step ∷ [])

module _ (volume : Volume) (posts : List Posted) where
  abbrev shape : Shape
  shape = volume.geometry

  -- ---- the count of messages

  sent_along : (earlier steps : List TraceStep) → sent_after volume posts (sent_by earlier) steps ≡ sent_by (reverse steps ++ earlier)
  unfolding sent_after
  sent_along earlier [] = refl
  sent_along earlier (step ∷ steps) = sent_along (step ∷ earlier) steps ∙ ap sent_by (turned step steps earlier)

  sent_before : (trace : List TraceStep) → sent_after volume posts 0 trace ≡ sent_by (reverse trace)
  sent_before trace = sent_along [] trace ∙ ap sent_by (append-nil (reverse trace))

  -- ---- the folds

  known_push : (name : NodeName) (known : KnownNode) (steps : List TraceStep) (step : TraceStep)
      → known_of shape posts name known (steps ++ step ∷ []) ≡ after shape posts name (known_of shape posts name known steps) step
  unfolding known_of
  known_push name known [] step = refl
  known_push name known (first ∷ steps) step = known_push name (after shape posts name known first) steps step

  steps_push : (name : NodeName) (known : KnownNode) (before : ℕ) (steps : List TraceStep) (step : TraceStep) → AllSteps shape posts name known before steps
      → nodes.IsStepOf (addresses name step) shape posts name (known_of shape posts name known steps) (sent_after volume posts before steps) step
      → AllSteps shape posts name known before (steps ++ step ∷ [])
  unfolding known_of AllSteps sent_after
  steps_push name known before [] step all new = (new, tt)
  steps_push name known before (first ∷ steps) step all new = (all.0, steps_push name (after shape posts name known first) first.sent steps step all.1 new)

  pub behind_all : (c : Client) (steps : List TraceStep) (P : Client → Type 0) → ((d : Client) → P d) → Behind volume posts c steps P
  unfolding Behind
  behind_all c [] P f = f c
  behind_all c (step ∷ steps) P f = λ here. behind_all (next volume posts c step) steps P f

  -- a node's step tells the client nothing
  silent_news : (step : TraceStep) (name : NodeName) → step.party ≡ sender.Node name → news_of posts step ≡ Silence
  silent_news step name party = ap (λ (p : Sender). if is_client p then news_in posts step.handed else Silence) party

  silent_next : (d : Client) (step : TraceStep) (name : NodeName) → step.party ≡ sender.Node name → next volume posts d step ≡ d
  unfolding told
  silent_next d step name party = ap (λ (x : News). (told volume d step.event x).client) (silent_news step name party)

  silent_lines : (d : Client) (step : TraceStep) (name : NodeName) → step.party ≡ sender.Node name → [] ≡ (client_step volume posts d step).lines
  unfolding told
  silent_lines d step name party = sym (ap (λ (x : News). (told volume d step.event x).lines) (silent_news step name party))

  -- ---- one step more

  module _ (first : First) (trace : List TraceStep) (step : TraceStep) where
    pub known_next : (name : NodeName) → known_at first volume posts (trace ++ step ∷ []) name ≡ after shape posts name (known_at first volume posts trace name) step
    known_next name = known_push name (fresh shape name.region (first.held name)) trace step

    -- the client behind the premise of the step
    pub client_next : (P : Client → Type 0) → OfClient first volume posts trace (λ d. IsApart volume d (news_of posts step) → P (next volume posts d step)) → OfClient first volume posts (trace ++ step ∷ []) P
    client_next P holds = one_behind volume posts first.client trace step P holds

    pub client_stays : (P : Client → Type 0) (name : NodeName) → step.party ≡ sender.Node name → OfClient first volume posts trace P → OfClient first volume posts (trace ++ step ∷ []) P
    client_stays P name party holds =
        client_next P (behind_map volume posts first.client trace P (λ d. IsApart volume d (news_of posts step) → P (next volume posts d step))
        (λ d is apart. subst P (sym (silent_next d step name party)) is) holds)

    -- the node that the step addresses goes by its rules; the others make no step
    every_node : (name other : NodeName) → step.party ≡ sender.Node name → IsNodeStep shape posts name (known_at first volume posts trace name) (sent_by (reverse trace)) step
        → nodes.IsStepOf (addresses other step) shape posts other (known_at first volume posts trace other) (sent_after volume posts 0 trace) step
    every_node name other party right =
        by_test (λ (t : Bool). nodes.IsStepOf t shape posts other (known_at first volume posts trace other) (sent_after volume posts 0 trace) step) (addresses other step)
        (λ here.
        let same : name ≡ other = one_node name other (sym (ap (λ (p : Sender). same_party p (sender.Node other)) party) ∙ here) in
        subst (λ (k : ℕ). IsNodeStep shape posts other (known_at first volume posts trace other) k step) (sym (sent_before trace))
        (subst (λ (n : NodeName). IsNodeStep shape posts n (known_at first volume posts trace n) (sent_by (reverse trace)) step) same right))
        (λ other. tt)

    no_node : (other : NodeName) → step.party ≡ sender.Client → nodes.IsStepOf (addresses other step) shape posts other (known_at first volume posts trace other) (sent_after volume posts 0 trace) step
    no_node other party =
        subst (λ (p : Sender). nodes.IsStepOf (same_party p (sender.Node other)) shape posts other (known_at first volume posts trace other) (sent_after volume posts 0 trace) step) (sym party) tt

    module _ (said : List (List Line)) (made : AreMade first volume posts trace said) where
      pub node_made : (name : NodeName) → step.party ≡ sender.Node name → IsNodeStep shape posts name (known_at first volume posts trace name) (sent_by (reverse trace)) step
          → AreMade first volume posts (trace ++ step ∷ []) (said ++ [] ∷ [])
      node_made name party right = record {
        nodes = λ other. steps_push other (fresh shape other.region (first.held other)) 0 trace step (made.nodes other) (every_node name other party right);
        client = one_step volume posts first.client 0 trace step made.client
            (behind_all first.client trace _ (λ d apart. subst (λ (p : Sender). serving.IsStepOf (is_client p) volume posts d (sent_after volume posts 0 trace) step) (sym party) tt));
        lines = one_line volume posts first.client trace step said [] made.lines (behind_all first.client trace _ (λ d apart. silent_lines d step name party));
      }

      pub client_made : (l : List Line) → step.party ≡ sender.Client
          → OfClient first volume posts trace (λ d. IsApart volume d (news_of posts step) → IsClientStep volume posts d (sent_by (reverse trace)) step × (l ≡ (client_step volume posts d step).lines))
          → AreMade first volume posts (trace ++ step ∷ []) (said ++ l ∷ [])
      client_made l party right = record {
        nodes = λ other. steps_push other (fresh shape other.region (first.held other)) 0 trace step (made.nodes other) (no_node other party);
        client = one_step volume posts first.client 0 trace step made.client
            (behind_map volume posts first.client trace _ (λ d. IsApart volume d (news_of posts step) → serving.IsStepOf (is_client step.party) volume posts d (sent_after volume posts 0 trace) step)
            (λ d holds apart.
            subst (λ (p : Sender). serving.IsStepOf (is_client p) volume posts d (sent_after volume posts 0 trace) step) (sym party)
            (subst (λ (k : ℕ). IsClientStep volume posts d k step) (sym (sent_before trace)) (holds apart).0)) right);
        lines = one_line volume posts first.client trace step said l made.lines
            (behind_map volume posts first.client trace _ (λ d. IsApart volume d (news_of posts step) → l ≡ (client_step volume posts d step).lines) (λ d holds apart. (holds apart).1) right);
      }
