-- A server that has a session in memory has one after each input: a switch to a session needs a base that counts.
use Rattle.std.proofs.Common.{◌≡◌, ◌∙◌, ℕ, ◌<◌, ◌==◌, nat_le, nat_lt, Bool, true, false, if◌then◌else◌, List, [], ◌∷◌, Option, None, Some, Result, Ok, Err, refl, ap, sym, subst, arith, eqb-true}
use Rattle.std.specs.Prelude.{filter, option_map}
use Rattle.std.specs.Option.{option_map_or}
use Rattle.std.proofs.lemmas.Bool.{ltb-true, le-leb, ne_eqb}
use Rattle.salus_types.specs.Volume.{Shape}
use Rattle.salus_types.specs.declared.names.NodeName.{NodeName}
use Rattle.salus_types.specs.declared.names.Sender.{Sender}
use Rattle.salus_types.specs.declared.names.Sender.TheVariants as sender
use Rattle.salus_types.specs.declared.records.Base.{Base}
use Rattle.salus_types.specs.declared.records.Held.{Held}
use Rattle.salus_message.specs.declared.wire.Message.{Message}
use Rattle.salus_message.specs.declared.wire.Message.TheVariants as message
use Rattle.salus_message.specs.declared.wire.MessageError.{MessageError}
use Rattle.salus_message.specs.Reading.{message_at}
use Rattle.merkle_region.specs.Tree.{IsAmong}
use Rattle.holding_model.specs.Changing.{SwitchesTo, changed}
use Rattle.holding_model.specs.Fitting.{has_shape}
use Rattle.volume_model.specs.Recovering.{is_of}
use Rattle.salus_model.specs.declared.trace.TraceStep.{TraceStep}
use Rattle.salus_model.specs.Following.{Posted}
use Rattle.replica_rules.specs.Nodes.{Memory, NodeState, stands_for, base_held, memory_of, open_base, loaded_as}
use Rattle.replica_rules.specs.Rules.{Turn, Plan, plan_of, ignored, in_session, told_client, is_carried, by_part, by_ask, by_gather, says_switched, switched, by_switch, by_dump, by_vote, by_claim, by_tick, from_client, from_node, is_node, from_result, Input, Receives, Ticks, planned, handled}
use Rattle.run_rules.specs.Knowing.{KnownNode, after_input, input_of, after_handed, reloaded, known_to}
use Rattle.list_lemmas.proofs.Each.{either_way}
use Rattle.list_lemmas.proofs.Members.{find_among, among_filter-in}
use Rattle.list_lemmas.proofs.Tests.{way_with, and_left}
use Rattle.law_answers.proofs.Asks.{stage_memory}
use Rattle.law_reads.proofs.Served.{IsSoundStep}
use Rattle.law_complete.proofs.Standing.{found_some}

-- it has a session in memory
abbrev pub IsThere : Option Memory → Type 0
IsThere memory = (m : Memory) × (memory ≡ Some m)

pub some_there : (o : Option Base) (f : Base → Memory) (base : Base) → o ≡ Some base → IsThere (option_map f o)
some_there o f base is = (f base, ap (λ (k : Option Base). option_map f k) is)

module _ (shape : Shape) (g : ℕ) (node : NodeState) (there : IsThere node.memory) where
  abbrev PlanThere : Plan → Type 0
  PlanThere plan = IsThere plan.memory

  session_there : (rule : Memory → Turn) → PlanThere (in_session node rule)
  session_there rule = subst (λ (o : Option Memory). PlanThere (option_map_or (λ m. plan_of (rule m)) o (ignored node))) (sym there.1) ((rule there.0).memory, refl)

  gather_there : (e : ℕ) → PlanThere (by_gather node e)
  unfolding by_gather
  gather_there e = either_way (is_carried node.held) (told_client node (message.Gathered (record { session = e; held = node.held }))) (ignored node) PlanThere there there

  -- a base that stands for a session still does once the server switches to it
  switched_there : (e : ℕ) (base : Base) → node.held.session < e → base_held shape g e node.held ≡ Some base → PlanThere (switched shape g node e)
  unfolding loaded_as changed
  switched_there e base up is =
      let held : Held = node.held in
      let was = find_among (λ b. stands_for shape g e b) base held.bases is in
      let session : base.rec.header.session ≡ e = eqb-true base.rec.header.session e (and_left (base.rec.header.session == e) (base.rec.header.region == g) (and_left (is_of e g base.rec.header) (has_shape shape base.blocks) was.1)) in
      let kept : IsAmong base (filter (λ b. nat_le e b.rec.header.session) held.bases) =
      among_filter-in (λ b. nat_le e b.rec.header.session) held.bases base was.0 (le-leb e base.rec.header.session (omega (arith, session))) in
      let found = found_some (λ b. stands_for shape g e b) (filter (λ b. nat_le e b.rec.header.session) held.bases) base kept was.1 in
      let some : (e == 0) ≡ false = ne_eqb e 0 (λ (zero : e ≡ 0). omega (arith, up, zero)) in
      some_there (open_base shape g (changed shape held (SwitchesTo e))) (λ b. memory_of shape g (changed shape held (SwitchesTo e)) b) found.0
      (ap (λ (t : Bool). if t then None else base_held shape g e (changed shape held (SwitchesTo e))) some ∙ found.1)

  switch_there : (e : ℕ) → PlanThere (by_switch shape g node e)
  unfolding by_switch
  switch_there e =
      way_with (e == node.held.session) (says_switched node e) (if nat_lt node.held.session e then option_map_or (λ base. switched shape g node e) (base_held shape g e node.held) (ignored node) else ignored node) PlanThere (λ same. there)
      (λ other. way_with (nat_lt node.held.session e) (option_map_or (λ base. switched shape g node e) (base_held shape g e node.held) (ignored node)) (ignored node) PlanThere
      (λ low. by low (base_held shape g e node.held) refl) (λ high. there))
    where
      by : nat_lt node.held.session e ≡ true → (o : Option Base) → base_held shape g e node.held ≡ o → PlanThere (option_map_or (λ base. switched shape g node e) o (ignored node))
      by low None is = there
      by low (Some base) is = switched_there e base (ltb-true node.held.session e low) is

  client_there : (m : Message) → PlanThere (from_client shape g node m)
  client_there (message.Part m) = session_there (by_part shape g m.rec)
  client_there (message.Ask m) = session_there (by_ask shape g m)
  client_there (message.Gather m) = gather_there m.session
  client_there (message.Stage m) = (there.0, stage_memory shape g node m.base ∙ there.1)
  client_there (message.Switch m) = switch_there m.session
  client_there (message.Dump m) = session_there (by_dump g m)
  client_there other = there

  node_there : (name : NodeName) (m : Message) → PlanThere (from_node shape node name m)
  node_there name (message.Prepared m) = session_there (by_vote shape name m)
  node_there name (message.Committed m) = session_there (by_claim shape name m)
  node_there name other = there

  result_there : (from : Sender) (r : Result Message MessageError) → PlanThere (from_result shape g node from r)
  result_there sender.Client (Ok m) = client_there m
  result_there (sender.Node name) (Ok m) = either_way (is_node shape name) (from_node shape node name m) (ignored node) PlanThere (node_there name m) there
  result_there from (Err e) = there

  planned_there : (input : Input) → PlanThere (planned shape g node input)
  unfolding planned
  planned_there (Receives from bytes) = result_there from (message_at bytes)
  planned_there Ticks = session_there (by_tick shape)

-- a step of a sound server
pub step_there : (shape : Shape) (posts : List Posted) (name : NodeName) (known : KnownNode) (earlier : List TraceStep) (t : TraceStep) → IsSoundStep shape posts name known earlier t → IsThere known.state.memory
    → IsThere (known_to shape name.region posts known t.handed t.failed t.loaded).state.memory
step_there shape posts name known earlier t sound there =
    subst (λ (k : KnownNode). IsThere k.state.memory) (sym (ap (λ (o : Option Held). reloaded shape name.region (after_handed shape name.region posts known t.handed t.failed) o) sound.unloaded))
    (by (input_of posts t.handed))
  where
    by : (o : Option Input) → IsThere (option_map_or (λ input. after_input shape name.region known input t.failed) o known).state.memory
    by None = there
    by (Some input) =
        subst (λ (b : Bool). IsThere (after_input shape name.region known input b).state.memory) (sym sound.calm)
        (subst (λ (b : Bool). IsThere (if b then known else record { state = (handled shape name.region known.state input).node; silent = false; contents = (handled shape name.region known.state input).node.held ∷ [] }).state.memory) (sym sound.speaks)
        (planned_there shape name.region known.state there input))
