-- What a node sends to a node is a vote or a claim.
use Rattle.std.proofs.Common.{◌≡◌, ◌⊎◌, inl, inr, ℕ, ◌==◌, ◌&&◌, ◌||◌, nat_lt, Bool, if◌then◌else◌, List, [], ◌∷◌, ◌++◌, length, map, bytes_eq, Option, None, Some, refl}
use Rattle.std.specs.Prelude.{filter, flat_map, Result, Ok, Err}
use Rattle.std.specs.Option.{option_map_or}
use Rattle.std.specs.List.{AllByRecursion, list_any}
use Rattle.salus_types.specs.Volume.{Shape}
use Rattle.salus_types.specs.declared.names.NodeName.{NodeName}
use Rattle.salus_types.specs.declared.names.Sender.{Sender}
use Rattle.salus_types.specs.declared.names.Sender.TheVariants as sender
use Rattle.salus_types.specs.declared.records.Record.{Record}
use Rattle.salus_types.specs.declared.records.Base.{Base}
use Rattle.salus_message.specs.declared.small.Prepared.{Prepared}
use Rattle.salus_message.specs.declared.small.Committed.{Committed}
use Rattle.salus_message.specs.declared.small.Ask.{Ask}
use Rattle.salus_message.specs.declared.small.Dump.{Dump}
use Rattle.salus_message.specs.declared.replies.Answer.{Answer}
use Rattle.salus_message.specs.declared.wire.Message.{Message}
use Rattle.salus_message.specs.declared.wire.Message.TheVariants as message
use Rattle.salus_message.specs.declared.wire.MessageError.{MessageError}
use Rattle.salus_message.specs.Reading.{message_at}
use Rattle.merkle_region.specs.Tree.{root_of}
use Rattle.volume_model.specs.Groups.{group_of, all_nodes}
use Rattle.holding_model.specs.Fitting.{has_shape}
use Rattle.holding_model.specs.Changing.{FoldsTo}
use Rattle.replica_rules.specs.Views.{led_by, view_root}
use Rattle.replica_rules.specs.Voting.{with_vote, with_claim, committed}
use Rattle.replica_rules.specs.Leading.{all_certified}
use Rattle.replica_rules.specs.Replicas.{Replica, PartAnswer, Foreign, Known, Early, Full, Differs, Next, PartTaken, take_part, after_part, all_kept_in_turn, take_ask, due_answers}
use Rattle.replica_rules.specs.Nodes.{Memory, NodeState, base_held}
use Rattle.salus_model.specs.declared.trace.Handed.{Handed}
use Rattle.salus_model.specs.Following.{Posted}
use Rattle.run_rules.specs.Knowing.{KnownNode, outs_of, input_of, outs_to}
use Rattle.replica_rules.specs.Rules.{Sending, Turn, Plan, quiet, ignored, told_client, votes_for, vote_for, claims_of, claim_of, then_claims, same_record, part_answered, then_answers, by_part, answer_out, by_ask, dumped, by_dump, with_leader, by_vote, fold_number, folds, after_fold, then_fold, by_claim, is_at_start, by_tick, is_carried, by_gather, says_staged, staged, staged_again, staged_whole, staged_from, staged_anew, is_staged_here, by_stage, says_switched, switched, by_switch, Input, Receives, Ticks, planned, handled}
use Rattle.list_lemmas.proofs.Each.{either_way, any_way, OfSome, all_both, all_map, all_each, all_flat}
use Rattle.law_answers.proofs.Rules.{OfLetter, OfResult, OfInput, planned_with}

-- the message is a vote or a claim
abbrev pub IsWord : Message → Type 0
IsWord (message.Prepared v) = Unit {0}
IsWord (message.Committed c) = Unit {0}
IsWord other = ⊥

-- it is a message to the client, or a vote or a claim
abbrev pub IsWordOrTo : Sending → Type 0
IsWordOrTo out = (out.to ≡ sender.Client) ⊎ IsWord out.message

abbrev pub AreWords : List Sending → Type 0
AreWords outs = AllByRecursion IsWordOrTo outs

module _ (shape : Shape) (g : ℕ) where
  abbrev TurnWords : Turn → Type 0
  TurnWords t = AreWords t.outs

  abbrev PlanWords : Plan → Type 0
  PlanWords plan = AreWords plan.outs

  votes_words : (rec : Record) → AreWords (votes_for shape rec)
  votes_words rec =
      all_map IsWordOrTo (λ name. record { to = sender.Node name; message = vote_for rec }) (group_of shape (led_by rec.header))
      (all_each (λ name. IsWordOrTo (record { to = sender.Node name; message = vote_for rec })) (group_of shape (led_by rec.header)) (λ name. inr tt))

  claims_words : (e front : ℕ) → AreWords (claims_of shape e front)
  claims_words e front = (
    inl refl,
    all_map IsWordOrTo (λ name. record { to = sender.Node name; message = claim_of e front }) (all_nodes shape)
        (all_each (λ name. IsWordOrTo (record { to = sender.Node name; message = claim_of e front })) (all_nodes shape) (λ name. inr tt)),
  )

  then_words : (t : Turn) → TurnWords t → TurnWords (then_claims shape t)
  then_words t words =
      all_both IsWordOrTo t.outs (flat_map (λ h. claims_of shape t.memory.replica.session h.seq) (all_certified shape t.memory.leader)) words
      (all_flat IsWordOrTo (λ h. claims_of shape t.memory.replica.session h.seq) (all_certified shape t.memory.leader) (λ h. claims_words t.memory.replica.session h.seq))

  -- ---- every rule of an open session

  answered_words : (rec : Record) (m : Memory) (r : Replica) (answer : PartAnswer) → TurnWords (part_answered shape g m rec r answer)
  answered_words rec m r Next = all_flat IsWordOrTo (λ part. votes_for shape part) (after_part rec (all_kept_in_turn shape r)).parts votes_words
  answered_words rec m r Known = either_way (list_any (λ held. same_record held rec) m.parts) (votes_for shape rec) [] AreWords (votes_words rec) tt
  answered_words rec m r Early = tt
  answered_words rec m r Foreign = tt
  answered_words rec m r Full = tt
  answered_words rec m r (Differs root got) = tt

  part_words : (rec : Record) (m : Memory) → TurnWords (by_part shape g rec m)
  unfolding by_part
  part_words rec m =
      let taken : PartTaken = take_part shape g m.replica rec in
      let t : Turn = part_answered shape g m rec taken.replica taken.answer in
      then_words (then_answers shape t)
      (all_both IsWordOrTo t.outs (map (λ answer. record { to = sender.Client; message = message.Answer answer }) (due_answers shape t.memory.replica)) (answered_words rec m taken.replica taken.answer)
      (all_map IsWordOrTo (λ answer. record { to = sender.Client; message = message.Answer answer }) (due_answers shape t.memory.replica)
      (all_each (λ answer. IsWordOrTo (record { to = sender.Client; message = message.Answer answer })) (due_answers shape t.memory.replica) (λ answer. inl refl))))

  answer_words : (o : Option Answer) → AreWords (answer_out o)
  answer_words None = tt
  answer_words (Some answer) = (inl refl, tt)

  ask_words : (a : Ask) (m : Memory) → TurnWords (by_ask shape g a m)
  unfolding by_ask
  ask_words a m = answer_words (take_ask shape g m.replica a).answer

  dump_words : (d : Dump) (m : Memory) → TurnWords (by_dump g d m)
  unfolding by_dump
  dump_words d m = either_way ((d.session == m.replica.session) && (d.region == g)) (dumped g m) (quiet m) TurnWords (inl refl, tt) tt

  vote_words : (name : NodeName) (v : Prepared) (m : Memory) → TurnWords (by_vote shape name v m)
  unfolding by_vote
  vote_words name v m =
      let voted : Turn = quiet (with_leader m (record m.leader { votes = with_vote m.leader.votes name v.seq v.root })) in
      either_way ((v.session == m.replica.session) && (v.region == name.region)) (then_claims shape voted) (quiet m) TurnWords (then_words voted tt) tt

  claim_words : (name : NodeName) (c : Committed) (m : Memory) → TurnWords (by_claim shape name c m)
  unfolding by_claim
  claim_words name c m =
      let told : Turn = quiet (with_leader m (record m.leader { claims = with_claim m.leader.claims name c.front })) in
      let turn : Turn = then_claims shape told in
      let goes : TurnWords turn = then_words told tt in
      either_way (c.session == m.replica.session) (then_fold shape turn) (quiet m) TurnWords
      (either_way (folds shape turn.memory)
      (record { memory = after_fold turn.memory (fold_number shape turn.memory); outs = turn.outs; changes = turn.changes ++ FoldsTo (fold_number shape turn.memory) ∷ [] }) turn TurnWords goes goes)
      tt

  tick_words : (m : Memory) → TurnWords (by_tick shape m)
  unfolding by_tick
  tick_words m =
      let left : List Record = filter (λ rec. nat_lt (committed shape m.leader.claims) rec.header.seq) m.parts in
      all_both IsWordOrTo (flat_map (λ rec. votes_for shape rec) left) (if is_at_start m.leader.front m.begun then [] else claims_of shape m.replica.session m.leader.front)
      (all_flat IsWordOrTo (λ rec. votes_for shape rec) left votes_words)
      (either_way (is_at_start m.leader.front m.begun) [] (claims_of shape m.replica.session m.leader.front) AreWords tt (claims_words m.replica.session m.leader.front))

  -- ---- every rule

  module _ (node : NodeState) where
    gather_words : (e : ℕ) → PlanWords (by_gather node e)
    unfolding by_gather
    gather_words e = either_way (is_carried node.held) (told_client node (message.Gathered (record { session = e; held = node.held }))) (ignored node) PlanWords (inl refl, tt) tt

    anew_words : (base : Base) → PlanWords (staged_anew shape node base)
    anew_words base =
        either_way (length base.blocks == 0) (option_map_or (λ m. staged_from shape node base.rec m) node.memory (ignored node)) (staged_whole shape node base) PlanWords
        (any_way PlanWords (λ m. staged_from shape node base.rec m) (ignored node) node.memory
        (λ m. either_way (bytes_eq (view_root shape m.replica.view) base.rec.header.root) (staged node base.rec m.replica.view.blocks) (ignored node) PlanWords (inl refl, tt) tt) tt)
        (either_way (has_shape shape base.blocks && bytes_eq (root_of shape.height base.blocks) base.rec.header.root) (staged node base.rec base.blocks) (ignored node) PlanWords (inl refl, tt) tt)

    stage_words : (base : Base) → PlanWords (by_stage shape g node base)
    unfolding by_stage
    stage_words base =
        either_way (is_staged_here g node base.rec.header)
        (option_map_or (λ old. staged_again node base.rec old) (base_held shape g base.rec.header.session node.held) (staged_anew shape node base)) (ignored node) PlanWords
        (any_way PlanWords (λ old. staged_again node base.rec old) (staged_anew shape node base) (base_held shape g base.rec.header.session node.held)
        (λ old. either_way (same_record old.rec base.rec) (says_staged node base.rec.header.session) (ignored node) PlanWords (inl refl, tt) tt) (anew_words base)) tt

    switch_words : (e : ℕ) → PlanWords (by_switch shape g node e)
    unfolding by_switch
    switch_words e =
        either_way (e == node.held.session) (says_switched node e) (if nat_lt node.held.session e then option_map_or (λ base. switched shape g node e) (base_held shape g e node.held) (ignored node) else ignored node) PlanWords (inl refl, tt)
        (either_way (nat_lt node.held.session e) (option_map_or (λ base. switched shape g node e) (base_held shape g e node.held) (ignored node)) (ignored node) PlanWords
        (any_way PlanWords (λ (base : Base). switched shape g node e) (ignored node) (base_held shape g e node.held) (λ base. (inl refl, tt)) tt) tt)

any_memory : (o : Option Memory) → OfSome (λ (m : Memory). Unit {0}) o
any_memory None = tt
any_memory (Some m) = tt

-- nothing is asked of what an input brings
none_given : (input : Input) → OfInput (λ rec. Unit {0}) (λ a. Unit {0}) input
none_given (Receives from bytes) = of_result from (message_at bytes) where
  of_message : (m : Message) → OfLetter (λ rec. Unit {0}) (λ a. Unit {0}) sender.Client m
  of_message (message.Part m) = tt
  of_message (message.Ask m) = tt
  of_message (message.Dump m) = tt
  of_message (message.Gather m) = tt
  of_message (message.Stage m) = tt
  of_message (message.Switch m) = tt
  of_message (message.Prepared m) = tt
  of_message (message.Committed m) = tt
  of_message (message.Answer m) = tt
  of_message (message.Gathered m) = tt
  of_message (message.Staged m) = tt
  of_message (message.Switched m) = tt
  of_message (message.Dumped m) = tt

  of_result : (from : Sender) (r : Result Message MessageError) → OfResult (λ rec. Unit {0}) (λ a. Unit {0}) from r
  of_result sender.Client (Ok m) = of_message m
  of_result (sender.Node name) (Ok m) = tt
  of_result from (Err e) = tt
none_given Ticks = tt

handled_words : (shape : Shape) (g : ℕ) (node : NodeState) (input : Input) → AreWords (planned shape g node input).outs
handled_words shape g node input =
    planned_with shape g node (λ (m : Memory). Unit {0}) (any_memory node.memory) (λ rec. Unit {0}) (λ a. Unit {0}) (PlanWords shape g) tt
    (λ rec m fits of. part_words shape g rec m)
    (λ a m fits of. ask_words shape g a m)
    (λ d m of. dump_words shape g d m)
    (λ name v m of. vote_words shape g name v m)
    (λ name c m of. claim_words shape g name c m)
    (λ m of. tick_words shape g m)
    (λ e. gather_words shape g node e)
    (λ base. stage_words shape g node base)
    (λ e. switch_words shape g node e)
    input (none_given input)

-- So it is of each step.
pub outs_words : (shape : Shape) (g : ℕ) (posts : List Posted) (known : KnownNode) (what : Handed) (failed : Bool) → AreWords (outs_to shape g posts known what failed)
outs_words shape g posts known what failed =
    any_way AreWords (λ input. outs_of shape g known input failed) [] (input_of posts what)
    (λ input. either_way (known.silent || failed) [] (handled shape g known.state input).outs AreWords tt (handled_words shape g known.state input)) tt
