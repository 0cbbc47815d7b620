-- A vote and a claim that are handed over are heard.
use Rattle.std.proofs.Common.{◌≡◌, ◌∙◌, ℕ, ◌≤◌, ◌==◌, ◌&&◌, nat_lt, Bool, true, if◌then◌else◌, List, [], Option, None, Some, refl, sym, ap, subst, arith}
use Rattle.std.specs.Prelude.{Result, Ok}
use Rattle.std.specs.Option.{option_map_or}
use Rattle.std.proofs.lemmas.Bool.{true≢false, eq-eqb, ltb-false}
use Rattle.salus_types.specs.Volume.{Shape}
use Rattle.salus_types.specs.declared.names.NodeName.{NodeName}
use Rattle.salus_types.specs.declared.names.Sender.TheVariants as sender
use Rattle.salus_message.specs.declared.small.Prepared.{Prepared}
use Rattle.salus_message.specs.declared.small.Committed.{Committed}
use Rattle.salus_message.specs.declared.wire.Message.{Message}
use Rattle.salus_message.specs.declared.wire.Message.TheVariants as message
use Rattle.salus_message.specs.declared.wire.MessageError.{MessageError}
use Rattle.salus_message.specs.Reading.{message_at}
use Rattle.volume_model.specs.Groups.{same_node}
use Rattle.replica_rules.specs.Voting.{Vote, Votes, share_place, is_above_vote, with_vote, with_claim, greater}
use Rattle.replica_rules.specs.Leading.{Leader}
use Rattle.replica_rules.specs.Nodes.{Memory, NodeState}
use Rattle.replica_rules.specs.Rules.{Turn, Plan, quiet, plan_of, ignored, then_claims, with_leader, by_vote, fold_number, folds, after_fold, then_fold, by_claim, in_session, is_node, from_node, from_result, Receives, planned, handled}
use Rattle.holding_model.specs.Changing.{FoldsTo}
use Rattle.std.specs.Prelude.{◌++◌, ◌∷◌}
use Rattle.list_lemmas.proofs.Each.{either_way}
use Rattle.list_lemmas.proofs.Tests.{way_with}
use Rattle.law_lemmas.proofs.Named.{node-itself}
use Rattle.law_answers.proofs.Asks.{both_true}
use Rattle.law_claimed.specs.Leading.{IsVoteFrom, HearsVote, HearsClaim}
use Rattle.law_claimed.proofs.Leads.{greater_new}
use Rattle.law_claimed.proofs.Noted.{share_from}

-- ---- a vote

placed_vote : (seq : ℕ) (root : List ℕ) (o : Option Vote) (here : Bool) → here ≡ true → IsVoteFrom seq (if here && is_above_vote seq o then Some (record { seq = seq; root = root }) else o)
placed_vote seq root None here is = subst (λ (b : Bool). IsVoteFrom seq (if b && true then Some (record { seq = seq; root = root }) else None)) (sym is) (omega arith)
placed_vote seq root (Some vote) here is =
    way_with (here && nat_lt vote.seq seq) (Some (record { seq = seq; root = root })) (Some vote) (IsVoteFrom seq) (λ _. omega arith)
    (λ low. ltb-false vote.seq seq (sym (ap (λ (b : Bool). b && nat_lt vote.seq seq) is) ∙ low))

new_vote : (votes : Votes) (name : NodeName) (seq : ℕ) (root : List ℕ) → IsVoteFrom seq (with_vote votes name seq root name seq)
new_vote votes name seq root =
    placed_vote seq root (votes name seq) (same_node name name && share_place seq seq) (both_true (same_node name name) (share_place seq seq) (node-itself name) (share_from seq seq refl))

module _ (shape : Shape) (name : NodeName) where
  vote_taken : (v : Prepared) (m : Memory) → v.session ≡ m.replica.session → v.region ≡ name.region → IsVoteFrom v.seq ((by_vote shape name v m).memory.leader.votes name v.seq)
  unfolding by_vote
  vote_taken v m session region =
      let voted : Leader = record m.leader { votes = with_vote m.leader.votes name v.seq v.root } in
      way_with ((v.session == m.replica.session) && (v.region == name.region)) (then_claims shape (quiet (with_leader m voted))) (quiet m) (λ (t : Turn). IsVoteFrom v.seq (t.memory.leader.votes name v.seq))
      (λ _. new_vote m.leader.votes name v.seq v.root)
      (λ off. absurd (true≢false (sym (both_true (v.session == m.replica.session) (v.region == name.region) (eq-eqb v.session m.replica.session session) (eq-eqb v.region name.region region)) ∙ off)))

  -- ---- a claim

  claim_taken : (c : Committed) (m : Memory) → c.session ≡ m.replica.session → c.front ≤ (by_claim shape name c m).memory.leader.claims name
  unfolding by_claim
  claim_taken c m session =
      let told : Leader = record m.leader { claims = with_claim m.leader.claims name c.front } in
      let turn : Turn = then_claims shape (quiet (with_leader m told)) in
      let P : Turn → Type 0 = λ t. c.front ≤ t.memory.leader.claims name in
      let new : c.front ≤ with_claim m.leader.claims name c.front name =
      way_with (same_node name name) (greater (m.leader.claims name) c.front) (m.leader.claims name) (λ (n : ℕ). c.front ≤ n) (λ _. greater_new (m.leader.claims name) c.front)
      (λ off. absurd (true≢false (sym (node-itself name) ∙ off))) in
      way_with (c.session == m.replica.session) (then_fold shape turn) (quiet m) P
      (λ _. either_way (folds shape turn.memory)
      (record { memory = after_fold turn.memory (fold_number shape turn.memory); outs = turn.outs; changes = turn.changes ++ FoldsTo (fold_number shape turn.memory) ∷ [] }) turn P new new)
      (λ off. absurd (true≢false (sym (eq-eqb c.session m.replica.session session) ∙ off)))

-- ---- they are handed over

module _ (shape : Shape) (g : ℕ) (node : NodeState) (m : Memory) (there : node.memory ≡ Some m) (name : NodeName) (listed : is_node shape name ≡ true) (bytes : List ℕ) where
  -- a node's message by a rule that needs a session
  heard_by : (P : Option Memory → Type 0) (rule : Memory → Turn) (told : Message) → message_at bytes ≡ Ok told → from_node shape node name told ≡ in_session node rule → P (Some (rule m).memory)
      → P (handled shape g node (Receives (sender.Node name) bytes)).node.memory
  unfolding planned
  heard_by P rule told decoded is holds =
      subst (λ (r : Result Message MessageError). P (from_result shape g node (sender.Node name) r).memory) (sym decoded)
      (subst (λ (b : Bool). P (if b then from_node shape node name told else ignored node).memory) (sym listed)
      (subst (λ (plan : Plan). P plan.memory) (sym is)
      (subst (λ (o : Option Memory). P (option_map_or (λ k. plan_of (rule k)) o (ignored node)).memory) (sym there) holds)))

  -- The law: a vote is heard.
  pub vote_heard : (v : Prepared) → message_at bytes ≡ Ok (message.Prepared v) → v.session ≡ m.replica.session → v.region ≡ name.region
      → HearsVote name v.seq (handled shape g node (Receives (sender.Node name) bytes)).node.memory
  vote_heard v decoded session region = heard_by (HearsVote name v.seq) (by_vote shape name v) (message.Prepared v) decoded refl (vote_taken shape name v m session region)

  -- The law: a claim is heard.
  pub claim_heard : (c : Committed) → message_at bytes ≡ Ok (message.Committed c) → c.session ≡ m.replica.session
      → HearsClaim name c.front (handled shape g node (Receives (sender.Node name) bytes)).node.memory
  claim_heard c decoded session = heard_by (HearsClaim name c.front) (by_claim shape name c) (message.Committed c) decoded refl (claim_taken shape name c m session)
