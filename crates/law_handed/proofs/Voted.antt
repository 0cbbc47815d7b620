-- A vote is sent only where its part is in each of the contents that the node's disk may mean at the end of the step.
use Rattle.std.proofs.Common.{ℕ, Bool, true, false, if◌then◌else◌, List, [], ◌∷◌, Option, None, Some}
use Rattle.std.specs.Option.{option_map_or}
use Rattle.std.specs.List.{AllByRecursion}
use Rattle.salus_types.specs.Volume.{Shape}
use Rattle.salus_types.specs.declared.names.NodeName.{NodeName}
use Rattle.salus_types.specs.declared.records.Held.{Held}
use Rattle.salus_model.specs.declared.trace.Handed.{Handed}
use Rattle.salus_model.specs.declared.trace.TraceStep.{TraceStep}
use Rattle.salus_model.specs.Following.{Posted}
use Rattle.replica_rules.specs.Nodes.{NodeState, loaded_as}
use Rattle.replica_rules.specs.Rules.{Sending, Input, planned}
use Rattle.replica_rules.proofs.Agreeing.{AllHeld, IsHeldVote, AllVotes, PlansRight, fresh_agrees, planned_right}
use Rattle.run_rules.specs.Knowing.{KnownNode, fresh, after_input, outs_of, input_of, after_handed, outs_to, reloaded, known_to}
use Rattle.run_rules.specs.Running.{addresses, after, known_of}
use Rattle.list_lemmas.proofs.Each.{OfSome}

-- the parts that a node has in memory are among those that it holds
abbrev pub Agrees : KnownNode → Type 0
Agrees known = OfSome (λ m. AllHeld known.state.held m.parts) known.state.memory

-- of a node after an input, and of what it sends
pub record Voted (known : KnownNode) (outs : List Sending) : Type 0 where
  pub agrees : Agrees known
  pub each : AllByRecursion (λ held. AllVotes held outs) known.contents

no_votes_sent : (contents : List Held) → AllByRecursion (λ held. AllVotes held []) contents
no_votes_sent [] = tt
no_votes_sent (held ∷ contents) = (tt, no_votes_sent contents)

module _ (shape : Shape) (g : ℕ) where
  pub fresh_agreed : (held : Held) → Agrees (fresh shape g held)
  unfolding loaded_as
  fresh_agreed held = fresh_agrees shape g held

  input_voted : (state : NodeState) (silent : Bool) (contents : List Held) (input : Input) (failed : Bool)
      → let known : KnownNode = record { state = state; silent = silent; contents = contents } in Agrees known → Voted (after_input shape g known input failed) (outs_of shape g known input failed)
  input_voted state true contents input failed agrees = record { agrees = agrees; each = no_votes_sent contents }
  input_voted state false contents input true agrees = record { agrees = agrees; each = no_votes_sent (after_input shape g (record { state = state; silent = false; contents = contents }) input true).contents }
  input_voted state false contents input false agrees =
      let right : PlansRight shape state.held (planned shape g state input) = planned_right shape g state agrees input in
      record { agrees = right.agrees; each = (right.stand, tt) }

  handed_voted : (posts : List Posted) (known : KnownNode) (what : Handed) (failed : Bool) → Agrees known → Voted (after_handed shape g posts known what failed) (outs_to shape g posts known what failed)
  handed_voted posts known what failed agrees = of_input (input_of posts what) where
    of_input : (o : Option Input) → Voted (option_map_or (λ input. after_input shape g known input failed) o known) (option_map_or (λ input. outs_of shape g known input failed) o [])
    of_input None = record { agrees = agrees; each = no_votes_sent known.contents }
    of_input (Some input) = input_voted known.state known.silent known.contents input failed agrees

  reload_agrees : (known : KnownNode) (loaded : Option Held) → Agrees known → Agrees (reloaded shape g known loaded)
  reload_agrees known None agrees = agrees
  reload_agrees known (Some held) agrees = fresh_agreed held

  step_agrees : (posts : List Posted) (known : KnownNode) (what : Handed) (failed : Bool) (loaded : Option Held) → Agrees known → Agrees (known_to shape g posts known what failed loaded)
  step_agrees posts known what failed loaded agrees = reload_agrees (after_handed shape g posts known what failed) loaded (handed_voted posts known what failed agrees).agrees

module _ (shape : Shape) (posts : List Posted) (name : NodeName) where
  own_agrees : (own : Bool) (known : KnownNode) (step : TraceStep) → Agrees known → Agrees (if own then known_to shape name.region posts known step.handed step.failed step.loaded else known)
  own_agrees true known step agrees = step_agrees shape name.region posts known step.handed step.failed step.loaded agrees
  own_agrees false known step agrees = agrees

  pub agrees_along : (known : KnownNode) (steps : List TraceStep) → Agrees known → Agrees (known_of shape posts name known steps)
  unfolding known_of
  agrees_along known [] agrees = agrees
  agrees_along known (step ∷ steps) agrees = agrees_along (after shape posts name known step) steps (own_agrees (addresses name step) known step agrees)

  -- The law, after any steps: each vote that the node sends for what it is handed next is for a part in each of the
  -- contents that its disk may mean then.
  pub votes_stand : (first : Held) (steps : List TraceStep) (what : Handed) (failed : Bool)
      → let known : KnownNode = known_of shape posts name (fresh shape name.region first) steps in
      AllByRecursion (λ held. AllByRecursion (λ out. IsHeldVote held out.message) (outs_to shape name.region posts known what failed)) (after_handed shape name.region posts known what failed).contents
  votes_stand first steps what failed =
      let known : KnownNode = known_of shape posts name (fresh shape name.region first) steps in
      (handed_voted shape name.region posts known what failed (agrees_along (fresh shape name.region first) steps (fresh_agreed shape name.region first))).each
