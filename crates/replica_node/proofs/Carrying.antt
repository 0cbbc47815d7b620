-- A plan that is carried out is a handling of the rules.
use Rattle.std.proofs.Common.{◌≡◌, ◌∙◌, ℕ, List, Option, refl, sym, ap, subst}
use Rattle.std.specs.Prelude.{IfOk, OnOk, Result, Ok, Err}
use Rattle.salus_types.specs.Volume.{Shape}
use Rattle.salus_types.specs.declared.records.Held.{Held}
use Rattle.salus_types.specs.declared.records.Out.{Out}
use Rattle.disk_model.specs.Disk.{History, Now, EachImage, Through}
use Rattle.holding_model.specs.Changing.{Change, after_changes, contents_through}
use Rattle.node_storage.specs.Storing.{CanBeStored}
use Rattle.datanode_store.specs.Live.{MeansLive, MeansOneLive}
use Rattle.replica_rules.specs.Nodes.{NodeState, loaded_as}
use Rattle.replica_rules.specs.Rules.{Plan, Input, planned, handled}
use Rattle.open_session.specs.Kept.{KeptSession}
use Rattle.replica_node.specs.declared.planned.Planned.{Planned}
use Rattle.replica_node.specs.Standing.{StandsIn, IsNode, IsHandled}
use Rattle.replica_node.specs.Serving.{Serves}
use Rattle.replica_node.specs.Planning.{IsPlan, node_with, IsPlanned, outs_by, changes_by}

module _ (shape : Shape) (g : ℕ) (held : Held) (old new : Option KeptSession) (made : Planned) where
  pub plan_at : (rule : NodeState → Plan) (state : NodeState) → IsPlanned shape g held old new rule made → IsNode held old state → IsPlan new made (rule state)
  plan_at rule state is node =
      let same : node_with held state.memory ≡ state = ap (λ (h : Held). node_with h state.memory) node.held in
      subst (λ (s : NodeState). IsPlan new made (rule s)) same (is.plan state.memory node.memory)

  pub can_store : (rule : NodeState → Plan) → IsPlanned shape g held old new rule made → CanBeStored held (changes_by new made)
  can_store rule is = record { shape = shape; each = is.ready.each }

  pub serves_after : (rule : NodeState → Plan) (now : Held) → IsPlanned shape g held old new rule made → now ≡ after_changes shape held (changes_by new made) → Serves shape g now new
  serves_after rule now is stored = subst (λ (h : Held). Serves shape g h new) (sym stored) is.ready.after

  module _ (input : Input) (is : IsPlanned shape g held old new (λ node. planned shape g node input) made) (state : NodeState) (node : IsNode held old state) where
    pub handled_by : (now : Held) (outs : List Out) → now ≡ after_changes shape held (changes_by new made) → outs ≡ outs_by made → IsHandled now new outs (handled shape g state input)
    handled_by now outs stored told =
        let plan : IsPlan new made (planned shape g state input) = plan_at (λ s. planned shape g s input) state is node in
        record {
          node = record {
            held = stored ∙ ap (λ (h : Held). after_changes shape h (changes_by new made)) node.held ∙ ap (λ (l : List Change). after_changes shape state.held l) plan.changes;
            memory = plan.memory;
          };
          outs = told ∙ plan.outs;
        }

    pub moments_by : (before after : History) → Through before after (MeansOneLive (contents_through shape held (changes_by new made))) → Through before after (MeansOneLive (contents_through shape state.held (handled shape g state input).changes))
    moments_by before after through =
        let plan : IsPlan new made (planned shape g state input) = plan_at (λ s. planned shape g s input) state is node in
        subst (λ (l : List Change). Through before after (MeansOneLive (contents_through shape state.held l))) plan.changes
        (subst (λ (h : Held). Through before after (MeansOneLive (contents_through shape h (changes_by new made)))) node.held through)

-- ---- results

module _ {E : Type 0} (result : Result (List Out) E) (shape : Shape) (g : ℕ) (held now : Held) (old new : Option KeptSession) (made : Planned) where
  pub rules_way : (input : Input) → IsPlanned shape g held old new (λ node. planned shape g node input) made → IfOk result (λ given. given ≡ outs_by made) → OnOk result ((s : Shape) → now ≡ after_changes s held (changes_by new made))
      → IfOk result (λ outs. (state : NodeState) → IsNode held old state → IsHandled now new outs (handled shape g state input))
  rules_way input is told stored = elim result as (λ r. IfOk r (λ given. given ≡ outs_by made) → OnOk r ((s : Shape) → now ≡ after_changes s held (changes_by new made)) → IfOk r (λ outs. (state : NodeState) → IsNode held old state → IsHandled now new outs (handled shape g state input))) [
    | Ok outs ↦ λ t s. λ state node. handled_by shape g held old new made input is state node now outs (s shape) t
    | Err e ↦ λ t s. tt
  ] told stored

  pub serves_way : (rule : NodeState → Plan) → IsPlanned shape g held old new rule made → OnOk result ((s : Shape) → now ≡ after_changes s held (changes_by new made)) → OnOk result (Serves shape g now new)
  serves_way rule is stored = elim result as (λ r. OnOk r ((s : Shape) → now ≡ after_changes s held (changes_by new made)) → OnOk r (Serves shape g now new)) [
    | Ok outs ↦ λ s. serves_after shape g held old new made rule now is (s shape)
    | Err e ↦ λ s. tt
  ] stored

  pub durable_way : (h : History) → OnOk result ((s : Shape) → now ≡ after_changes s held (changes_by new made)) → OnOk result ((s : Shape) → Now h (λ m. EachImage m (MeansLive (after_changes s held (changes_by new made))))) → OnOk result (Now h (λ m. EachImage m (MeansLive now)))
  durable_way h stored durable = elim result as (λ r. OnOk r ((s : Shape) → now ≡ after_changes s held (changes_by new made)) → OnOk r ((s : Shape) → Now h (λ m. EachImage m (MeansLive (after_changes s held (changes_by new made))))) → OnOk r (Now h (λ m. EachImage m (MeansLive now)))) [
    | Ok outs ↦ λ s d. subst (λ (l : Held). Now h (λ m. EachImage m (MeansLive l))) (sym (s shape)) (d shape)
    | Err e ↦ λ s d. tt
  ] stored durable

pub at_held : (shape : Shape) (g : ℕ) (seen here : Held) (old new : Option KeptSession) (rule : NodeState → Plan) (made : Planned) → seen ≡ here → IsPlanned shape g seen old new rule made → IsPlanned shape g here old new rule made
at_held shape g seen here old new rule made same is = subst (λ (h : Held). IsPlanned shape g h old new rule made) same is

pub loaded_node : (shape : Shape) (g : ℕ) (held : Held) (session : Option KeptSession) → StandsIn session (loaded_as shape g held).memory → IsNode held session (loaded_as shape g held)
unfolding loaded_as
loaded_node shape g held session stands = record { held = refl; memory = stands }

pub loaded_at : (shape : Shape) (g : ℕ) (seen here : Held) (session : Option KeptSession) → seen ≡ here → StandsIn session (loaded_as shape g seen).memory → IsNode here session (loaded_as shape g here)
loaded_at shape g seen here session same stands = subst (λ (h : Held). IsNode h session (loaded_as shape g h)) same (loaded_node shape g seen session stands)
