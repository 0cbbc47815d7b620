-- Each vote that a leader keeps was kept before, or is one that an input has brought since.
use Rattle.std.proofs.Common.{◌≡◌, ◌∙◌, inl, inr, ℕ, ◌<◌, ◌==◌, ◌&&◌, nat_lt, if◌then◌else◌, List, [], ◌∷◌, ◌++◌, Option, Some, refl, sym, ap, subst, arith, eqb-true}
use Rattle.std.specs.Prelude.{Result, Ok, Err}
use Rattle.std.specs.Option.{option_map_or}
use Rattle.std.proofs.lemmas.Bool.{ltb-true}
use Rattle.std.proofs.lemmas.Option.{same_Some}
use Rattle.salus_types.specs.Volume.{Shape}
use Rattle.salus_types.specs.declared.names.NodeName.{NodeName}
use Rattle.salus_types.specs.declared.names.Sender.{Sender}
use Rattle.salus_types.specs.declared.names.Sender.TheVariants as sender
use Rattle.salus_types.specs.declared.records.Record.{Record}
use Rattle.salus_message.specs.declared.small.Ask.{Ask}
use Rattle.salus_message.specs.declared.small.Committed.{Committed}
use Rattle.salus_message.specs.declared.small.Dump.{Dump}
use Rattle.salus_message.specs.declared.small.Prepared.{Prepared}
use Rattle.salus_message.specs.declared.wire.Message.{Message}
use Rattle.salus_message.specs.declared.wire.Message.TheVariants as message
use Rattle.salus_message.specs.declared.wire.MessageError.{MessageError}
use Rattle.salus_message.specs.Reading.{message_at}
use Rattle.merkle_region.specs.Tree.{IsAmong}
use Rattle.volume_model.specs.Groups.{same_node}
use Rattle.holding_model.specs.Changing.{FoldsTo, changed, after_changes}
use Rattle.replica_rules.specs.Voting.{Vote, Votes, share_place, is_above_vote, with_vote, with_claim}
use Rattle.replica_rules.specs.Replicas.{Replica, PartAnswer, Foreign, Known, Early, Full, Differs, Next, take_part}
use Rattle.replica_rules.specs.Nodes.{Memory, NodeState, base_held}
use Rattle.replica_rules.specs.Rules.{Turn, Plan, quiet, plan_of, ignored, in_session, then_claims, with_leader, part_answered, by_part, by_ask, dumped, by_dump, by_vote, fold_number, folds, after_fold, then_fold, by_claim, by_tick, by_gather, by_stage, says_switched, switched, by_switch, from_client, is_node, from_node, from_result, Input, Receives, Ticks, planned, handled}
use Rattle.list_lemmas.proofs.Each.{either_way, any_way, OfSome}
use Rattle.list_lemmas.proofs.Tests.{way_with, and_left, and_right}
use Rattle.law_lemmas.proofs.Named.{one-node}
use Rattle.law_answers.proofs.Asks.{gather_memory, stage_memory}
use Rattle.law_claimed.specs.Handling.{after_all, StaysAlong}
use Rattle.law_claimed.proofs.Leads.{handled_leads}

module _ (shape : Shape) (g : ℕ) (IsGood : NodeName → Vote → Type 0) where
  -- each vote of the memory is one of these
  abbrev pub AreGood : Memory → Type 0
  AreGood m = (other : NodeName) (x : ℕ) → OfSome (IsGood other) (m.leader.votes other x)

  same_good : (m k : Memory) → k.leader.votes ≡ m.leader.votes → AreGood m → AreGood k
  same_good m k same good other x = subst (λ (v : Votes). OfSome (IsGood other) (v other x)) (sym same) (good other x)

  -- ---- the rules of an open session

  answered_same : (m : Memory) (rec : Record) (r : Replica) (answer : PartAnswer) → (part_answered shape g m rec r answer).memory.leader.votes ≡ m.leader.votes
  answered_same m rec r Next = refl
  answered_same m rec r Known = refl
  answered_same m rec r Early = refl
  answered_same m rec r Foreign = refl
  answered_same m rec r Full = refl
  answered_same m rec r (Differs root got) = refl

  part_same : (rec : Record) (m : Memory) → (by_part shape g rec m).memory.leader.votes ≡ m.leader.votes
  unfolding by_part
  part_same rec m = answered_same m rec (take_part shape g m.replica rec).replica (take_part shape g m.replica rec).answer

  ask_same : (a : Ask) (m : Memory) → (by_ask shape g a m).memory.leader.votes ≡ m.leader.votes
  unfolding by_ask
  ask_same a m = refl

  dump_same : (d : Dump) (m : Memory) → (by_dump g d m).memory.leader.votes ≡ m.leader.votes
  unfolding by_dump
  dump_same d m = either_way ((d.session == m.replica.session) && (d.region == g)) (dumped g m) (quiet m) (λ (t : Turn). t.memory.leader.votes ≡ m.leader.votes) refl refl

  claim_same : (name : NodeName) (c : Committed) (m : Memory) → (by_claim shape name c m).memory.leader.votes ≡ m.leader.votes
  unfolding by_claim
  claim_same name c m =
      let P : Turn → Type 0 = λ t. t.memory.leader.votes ≡ m.leader.votes in
      let turn : Turn = then_claims shape (quiet (with_leader m (record m.leader { claims = with_claim m.leader.claims name c.front }))) in
      either_way (c.session == m.replica.session) (then_fold shape turn) (quiet m) P
      (either_way (folds shape turn.memory)
      (record { memory = after_fold turn.memory (fold_number shape turn.memory); outs = turn.outs; changes = turn.changes ++ FoldsTo (fold_number shape turn.memory) ∷ [] }) turn P refl refl) refl

  tick_same : (m : Memory) → (by_tick shape m).memory.leader.votes ≡ m.leader.votes
  unfolding by_tick
  tick_same m = refl

  -- a vote that is heard is new, and stands in its sender's place alone
  vote_good : (name : NodeName) (v : Prepared) (m : Memory) → AreGood m → (v.session ≡ m.replica.session → v.region ≡ name.region → IsGood name (record { seq = v.seq; root = v.root })) → AreGood (by_vote shape name v m).memory
  unfolding by_vote
  vote_good name v m good new =
      let votes : Votes = m.leader.votes in
      way_with ((v.session == m.replica.session) && (v.region == name.region)) (then_claims shape (quiet (with_leader m (record m.leader { votes = with_vote m.leader.votes name v.seq v.root })))) (quiet m) (λ (t : Turn). AreGood t.memory)
      (λ pass.
      let mine : IsGood name (record { seq = v.seq; root = v.root }) =
      new (eqb-true v.session m.replica.session (and_left (v.session == m.replica.session) (v.region == name.region) pass)) (eqb-true v.region name.region (and_right (v.session == m.replica.session) (v.region == name.region) pass)) in
      λ other x.
      way_with {A = Option Vote} (same_node other name && share_place x v.seq && is_above_vote v.seq (votes other x)) (Some (record { seq = v.seq; root = v.root })) (votes other x) (OfSome (IsGood other))
      (λ put.
      subst (λ (n : NodeName). IsGood n (record { seq = v.seq; root = v.root }))
      (sym (one-node other name (and_left (same_node other name) (share_place x v.seq) (and_left (same_node other name && share_place x v.seq) (is_above_vote v.seq (votes other x)) put)))) mine)
      (λ _. good other x))
      (λ _. good)

  -- ---- a handling

  module _ (node : NodeState) (m : Memory) (there : node.memory ≡ Some m) (good : AreGood m) where
    -- where the node stays in its session
    abbrev StaysGood : Plan → Type 0
    StaysGood plan = (after_changes shape node.held plan.changes).session ≡ node.held.session → OfSome AreGood plan.memory

    as_before : (plan : Plan) → plan.memory ≡ node.memory → StaysGood plan
    as_before plan same stays = subst (λ (o : Option Memory). OfSome AreGood o) (sym (same ∙ there)) good

    by_rule : (rule : Memory → Turn) → AreGood (rule m).memory → StaysGood (in_session node rule)
    by_rule rule is = subst (λ (o : Option Memory). StaysGood (option_map_or (λ k. plan_of (rule k)) o (ignored node))) (sym there) (λ stays. is)

    by_same : (rule : Memory → Turn) → (rule m).memory.leader.votes ≡ m.leader.votes → StaysGood (in_session node rule)
    by_same rule same = by_rule rule (same_good m (rule m).memory same good)

    switch_good : (e : ℕ) → StaysGood (by_switch shape g node e)
    unfolding by_switch after_changes changed
    switch_good e =
        either_way (e == node.held.session) (says_switched node e) (if nat_lt node.held.session e then option_map_or (λ base. switched shape g node e) (base_held shape g e node.held) (ignored node) else ignored node) StaysGood
        (as_before (says_switched node e) refl)
        (way_with (nat_lt node.held.session e) (option_map_or (λ base. switched shape g node e) (base_held shape g e node.held) (ignored node)) (ignored node) StaysGood
        (λ rises. any_way StaysGood (λ base. switched shape g node e) (ignored node) (base_held shape g e node.held)
        (λ base stays. let up : node.held.session < e = ltb-true node.held.session e rises in let same : e ≡ node.held.session = stays in absurd (omega (arith, up, same))) (as_before (ignored node) refl))
        (λ _. as_before (ignored node) refl))

    client_good : (x : Message) → StaysGood (from_client shape g node x)
    client_good (message.Part p) = by_same (by_part shape g p.rec) (part_same p.rec m)
    client_good (message.Ask a) = by_same (by_ask shape g a) (ask_same a m)
    client_good (message.Dump d) = by_same (by_dump g d) (dump_same d m)
    client_good (message.Gather x) = as_before (by_gather node x.session) (gather_memory shape g node x.session)
    client_good (message.Stage x) = as_before (by_stage shape g node x.base) (stage_memory shape g node x.base)
    client_good (message.Switch x) = switch_good x.session
    client_good (message.Prepared x) = as_before (ignored node) refl
    client_good (message.Committed x) = as_before (ignored node) refl
    client_good (message.Answer x) = as_before (ignored node) refl
    client_good (message.Gathered x) = as_before (ignored node) refl
    client_good (message.Staged x) = as_before (ignored node) refl
    client_good (message.Switched x) = as_before (ignored node) refl
    client_good (message.Dumped x) = as_before (ignored node) refl

    -- what is given of a vote that is brought
    abbrev VoteGiven : NodeName → Message → Type 0
    VoteGiven name x = (v : Prepared) → x ≡ message.Prepared v → v.session ≡ m.replica.session → v.region ≡ name.region → IsGood name (record { seq = v.seq; root = v.root })

    node_good : (name : NodeName) (x : Message) → VoteGiven name x → StaysGood (from_node shape node name x)
    node_good name (message.Prepared v) new = by_rule (by_vote shape name v) (vote_good name v m good (new v refl))
    node_good name (message.Committed c) new = by_same (by_claim shape name c) (claim_same name c m)
    node_good name (message.Part x) new = as_before (ignored node) refl
    node_good name (message.Ask x) new = as_before (ignored node) refl
    node_good name (message.Answer x) new = as_before (ignored node) refl
    node_good name (message.Gather x) new = as_before (ignored node) refl
    node_good name (message.Gathered x) new = as_before (ignored node) refl
    node_good name (message.Stage x) new = as_before (ignored node) refl
    node_good name (message.Staged x) new = as_before (ignored node) refl
    node_good name (message.Switch x) new = as_before (ignored node) refl
    node_good name (message.Switched x) new = as_before (ignored node) refl
    node_good name (message.Dump x) new = as_before (ignored node) refl
    node_good name (message.Dumped x) new = as_before (ignored node) refl

    -- each vote that the input brings is one of these
    abbrev pub BringsGood : Input → Type 0
    BringsGood (Receives sender.Client bytes) = Unit {0}
    BringsGood (Receives (sender.Node name) bytes) =
        (v : Prepared) → message_at bytes ≡ Ok (message.Prepared v) → v.session ≡ m.replica.session → v.region ≡ name.region → IsGood name (record { seq = v.seq; root = v.root })
    BringsGood Ticks = Unit {0}

    result_good : (from : Sender) (bytes : List ℕ) (r : Result Message MessageError) → message_at bytes ≡ r → BringsGood (Receives from bytes) → StaysGood (from_result shape g node from r)
    result_good sender.Client bytes (Ok x) read new = client_good x
    result_good (sender.Node name) bytes (Ok x) read new =
        either_way (is_node shape name) (from_node shape node name x) (ignored node) StaysGood (node_good name x (λ v is. new v (read ∙ ap (λ (y : Message). Ok y) is))) (as_before (ignored node) refl)
    result_good sender.Client bytes (Err e) read new = as_before (ignored node) refl
    result_good (sender.Node name) bytes (Err e) read new = as_before (ignored node) refl

    planned_good : (input : Input) → BringsGood input → StaysGood (planned shape g node input)
    unfolding planned
    planned_good (Receives from bytes) new = result_good from bytes (message_at bytes) refl new
    planned_good Ticks new = by_same (by_tick shape) (tick_same m)

  -- ---- one after the other

  -- so each vote that one of them brings, of that session
  abbrev pub BringOnlyGood : ℕ → List Input → Type 0
  BringOnlyGood e inputs =
      (name : NodeName) (bytes : List ℕ) → IsAmong (Receives (sender.Node name) bytes) inputs → (v : Prepared) → message_at bytes ≡ Ok (message.Prepared v) → v.session ≡ e → v.region ≡ name.region
      → IsGood name (record { seq = v.seq; root = v.root })

  first_good : (e : ℕ) (inputs : List Input) (node : NodeState) (m : Memory) (there : node.memory ≡ Some m) (good : AreGood m) → m.replica.session ≡ e → (input : Input) → BringOnlyGood e (input ∷ inputs) → BringsGood node m there good input
  first_good e inputs node m there good same (Receives sender.Client bytes) new = tt
  first_good e inputs node m there good same (Receives (sender.Node name) bytes) new = λ v read of region. new name bytes (inl refl) v read (of ∙ same) region
  first_good e inputs node m there good same Ticks new = tt

  -- The law.
  pub kept_good : (e : ℕ) (inputs : List Input) (node : NodeState) (m : Memory) → node.memory ≡ Some m → m.replica.session ≡ e → StaysAlong shape g node inputs → BringOnlyGood e inputs → AreGood m
      → (k : Memory) → (after_all shape g node inputs).memory ≡ Some k → AreGood k
  unfolding after_all StaysAlong
  kept_good e [] node m there same stays new good k is = subst AreGood (same_Some m k (sym there ∙ is)) good
  kept_good e (input ∷ inputs) node m there same stays new good k is =
      let leads = handled_leads shape g node input m there stays.0 in
      let here : OfSome AreGood (handled shape g node input).node.memory = planned_good node m there good input (first_good e inputs node m there good same input new) stays.0 in
      kept_good e inputs (handled shape g node input).node leads.m leads.is (leads.session ∙ same) stays.1 (λ name bytes among. new name bytes (inr among)) (subst (λ (o : Option Memory). OfSome AreGood o) leads.is here) k is
