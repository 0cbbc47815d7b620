-- A node through many inputs in one session: the laws of one handling, one after the other.
use Rattle.std.proofs.Common.{◌≡◌, ◌∙◌, inl, inr, ⊎_elim, ℕ, ◌<◌, ◌≤◌, ◌==◌, ◌&&◌, nat_le, true, List, [], ◌∷◌, ◌++◌, Option, Some, refl, sym, ap, subst, arith}
use Rattle.std.specs.List.{AllByRecursion}
use Rattle.std.proofs.lemmas.Bool.{leb-true, leb-false}
use Rattle.std.proofs.lemmas.Option.{same_Some}
use Rattle.salus_types.specs.Volume.{Shape}
use Rattle.salus_types.specs.declared.names.NodeName.{NodeName}
use Rattle.salus_types.specs.declared.names.Sender.TheVariants as sender
use Rattle.salus_types.specs.declared.records.Header.{Header}
use Rattle.salus_types.specs.declared.records.Record.{Record}
use Rattle.salus_message.specs.declared.small.Prepared.{Prepared}
use Rattle.salus_message.specs.declared.small.Committed.{Committed}
use Rattle.merkle_region.specs.Tree.{IsAmong}
use Rattle.merkle_region.proofs.Membership.{among_left, among_right}
use Rattle.replica_rules.specs.Views.{View, has_right_shape}
use Rattle.replica_rules.specs.Leading.{Leader}
use Rattle.replica_rules.specs.Replicas.{is_for}
use Rattle.replica_rules.specs.Nodes.{Memory, NodeState}
use Rattle.replica_rules.specs.Rules.{Sending, votes_for, claims_of, Input, Receives, handled}
use Rattle.list_lemmas.proofs.Each.{all_then}
use Rattle.list_lemmas.proofs.Tests.{by_bool}
use Rattle.law_answers.specs.Turning.{IsChain, IsInTurn, BringsPart}
use Rattle.law_answers.proofs.Parts.{handled_turns}
use Rattle.law_claimed.specs.Handling.{after_all, outs_of_all, StaysAlong, BringOnly, BringsVote, BringsClaim, GoesThrough}
use Rattle.law_claimed.specs.Leading.{IsVoteFrom, LeadsOn, HearsVote, HearsClaim, IsVotedFor, IsNotedOf}
use Rattle.law_claimed.proofs.Heard.{vote_heard, claim_heard}
use Rattle.law_claimed.proofs.Leads.{same_leader, handled_leads}
use Rattle.law_claimed.proofs.Voted.{handled_votes}

-- ---- one after the other

-- what is claimed with the first messages, or with those behind them
leads_then : (shape : Shape) (e : ℕ) (a b c : Leader) (first more : List Sending) → LeadsOn shape e a b first → LeadsOn shape e b c more → LeadsOn shape e a c (first ++ more)
leads_then shape e a b c first more x y =
    let up : a.front ≤ b.front = x.rises in
    let on : b.front ≤ c.front = y.rises in
    record {
      base = y.base ∙ x.base;
      rises = omega (arith, up, on);
      claimed = elim y.claimed [
        | inr late ↦ inr (all_then (λ out. IsAmong out more) (λ out. IsAmong out (first ++ more)) (λ out inside. among_right out first more inside) (claims_of shape e c.front) late)
        | inl same ↦ elim x.claimed [
          | inl was ↦ inl (same ∙ was)
          | inr early ↦ inr (subst (λ (n : ℕ). AllByRecursion (λ out. IsAmong out (first ++ more)) (claims_of shape e n)) (sym same)
              (all_then (λ out. IsAmong out first) (λ out. IsAmong out (first ++ more)) (λ out inside. among_left out first more inside) (claims_of shape e b.front) early))
        ]
      ];
      noted = λ s has. y.noted s (x.noted s has);
      votes = λ name s has. y.votes name s (x.votes name s has);
      claims = λ name. let one : a.claims name ≤ b.claims name = x.claims name in let two : b.claims name ≤ c.claims name = y.claims name in omega (arith, one, two);
      placed = λ placed. y.placed (x.placed placed);
      settled = λ settled. y.settled (x.settled settled);
    }

module _ (shape : Shape) (IsPart : Record → Type 0) (IsView : View → Type 0) (chain : IsChain shape IsPart IsView) (g : ℕ) where
  abbrev Through : Memory → List Input → List Sending → Option Memory → Type 0
  Through m inputs outs memory = GoesThrough shape g IsPart IsView m inputs outs memory

  -- votes with the first messages
  voted_early : (rec : Record) (e : ℕ) (a b : Leader) (first more : List Sending) → LeadsOn shape e a b more → IsVotedFor shape g IsPart rec first a → IsVotedFor shape g IsPart rec (first ++ more) b
  voted_early rec e a b first more on v = record {
    same = v.same;
    part = v.part;
    number = v.number;
    votes = all_then (λ out. IsAmong out first) (λ out. IsAmong out (first ++ more)) (λ out inside. among_left out first more inside) (votes_for shape v.same) v.votes;
    noted = λ led. on.noted v.same.header.seq (v.noted led);
  }

  -- or with those behind them
  voted_late : (rec : Record) (b : Leader) (first more : List Sending) → IsVotedFor shape g IsPart rec more b → IsVotedFor shape g IsPart rec (first ++ more) b
  voted_late rec b first more v = record {
    same = v.same;
    part = v.part;
    number = v.number;
    votes = all_then (λ out. IsAmong out more) (λ out. IsAmong out (first ++ more)) (λ out inside. among_right out first more inside) (votes_for shape v.same) v.votes;
    noted = v.noted;
  }

  -- ---- one input, and those behind it

  module _ (node : NodeState) (m : Memory) (there : node.memory ≡ Some m) (turn : IsInTurn IsPart IsView m.replica) (input : Input)
      (given : (rec : Record) → BringsPart input rec → is_for shape g m.replica rec ≡ true → IsPart rec) (stays : (handled shape g node input).node.held.session ≡ node.held.session) where
    abbrev next : NodeState
    next = (handled shape g node input).node

    abbrev outs : List Sending
    outs = (handled shape g node input).outs

    -- the memory after it, with what the laws of one handling say
    record One : Type 0 where
      k : Memory
      is : (handled shape g node input).node.memory ≡ Some k
      session : k.replica.session ≡ m.replica.session
      still : IsInTurn IsPart IsView k.replica
      rises : m.replica.view.number ≤ k.replica.view.number
      leads : LeadsOn shape m.replica.session m.leader k.leader (handled shape g node input).outs
      voted : (rec : Record) → IsPart rec → m.replica.view.number < rec.header.seq → rec.header.seq ≤ k.replica.view.number → IsVotedFor shape g IsPart rec (handled shape g node input).outs k.leader
      headers : (h : Header) → IsAmong h k.leader.noted → IsNotedOf IsPart m.leader.noted h

    one : One
    one =
        let turns = handled_turns shape IsPart IsView chain g node input m there turn given stays in
        let leads = handled_leads shape g node input m there stays in
        let votes = handled_votes shape IsPart IsView chain g node input m there turn given stays in
        let same_lead : leads.m ≡ turns.m = same_Some leads.m turns.m (sym leads.is ∙ turns.is) in
        let same_vote : votes.m ≡ turns.m = same_Some votes.m turns.m (sym votes.is ∙ turns.is) in
        record {
          k = turns.m;
          is = turns.is;
          session = turns.on.session;
          still = turns.turn;
          rises = turns.on.rises;
          leads = subst (λ (x : Memory). LeadsOn shape m.replica.session m.leader x.leader outs) same_lead leads.leads;
          voted = subst (λ (x : Memory). (rec : Record) → IsPart rec → m.replica.view.number < rec.header.seq → rec.header.seq ≤ x.replica.view.number → IsVotedFor shape g IsPart rec outs x.leader) same_vote votes.voted;
          headers = subst (λ (x : Memory). (h : Header) → IsAmong h x.leader.noted → IsNotedOf IsPart m.leader.noted h) same_vote votes.headers;
        }

    module _ (inputs : List Input) (more : List Sending) (memory : Option Memory) (rest : Through one.k inputs more memory) where
      abbrev k : Memory
      k = one.k

      later_leads : LeadsOn shape m.replica.session k.leader rest.m.leader more
      later_leads = subst (λ (e : ℕ). LeadsOn shape e k.leader rest.m.leader more) one.session rest.leads

      votes_heard : (name : NodeName) (v : Prepared) → BringsVote shape m.replica.session name v (input ∷ inputs) → IsVoteFrom v.seq (rest.m.leader.votes name v.seq)
      votes_heard name v brings = by brings.among where
        by : IsAmong (Receives (sender.Node name) brings.bytes) (input ∷ inputs) → IsVoteFrom v.seq (rest.m.leader.votes name v.seq)
        by (inl is) =
            let heard : HearsVote name v.seq (handled shape g node (Receives (sender.Node name) brings.bytes)).node.memory = vote_heard shape g node m there name brings.listed brings.bytes v brings.decoded brings.session brings.region in
            rest.leads.votes name v.seq
            (subst (λ (o : Option Memory). HearsVote name v.seq o) one.is (subst (λ (i : Input). HearsVote name v.seq (handled shape g node i).node.memory) is heard))
        by (inr later) =
            rest.votes name v
            (record { bytes = brings.bytes; among = later; decoded = brings.decoded; listed = brings.listed; session = brings.session ∙ sym one.session; region = brings.region })

      claims_heard : (name : NodeName) (c : Committed) → BringsClaim shape m.replica.session name c (input ∷ inputs) → c.front ≤ rest.m.leader.claims name
      claims_heard name c brings = by brings.among where
        by : IsAmong (Receives (sender.Node name) brings.bytes) (input ∷ inputs) → c.front ≤ rest.m.leader.claims name
        by (inl is) =
            let heard : HearsClaim name c.front (handled shape g node (Receives (sender.Node name) brings.bytes)).node.memory = claim_heard shape g node m there name brings.listed brings.bytes c brings.decoded brings.session in
            let now : c.front ≤ k.leader.claims name =
            subst (λ (o : Option Memory). HearsClaim name c.front o) one.is (subst (λ (i : Input). HearsClaim name c.front (handled shape g node i).node.memory) is heard) in
            let on : k.leader.claims name ≤ rest.m.leader.claims name = rest.leads.claims name in
            omega (arith, now, on)
        by (inr later) =
            rest.claims name c (record { bytes = brings.bytes; among = later; decoded = brings.decoded; listed = brings.listed; session = brings.session ∙ sym one.session })

      both : Through m (input ∷ inputs) (outs ++ more) memory
      both = record {
        m = rest.m;
        is = rest.is;
        session = rest.session ∙ one.session;
        turn = rest.turn;
        rises = let up : m.replica.view.number ≤ k.replica.view.number = one.rises in let on : k.replica.view.number ≤ rest.m.replica.view.number = rest.rises in omega (arith, up, on);
        leads = leads_then shape m.replica.session m.leader k.leader rest.m.leader outs more one.leads later_leads;
        voted = λ rec part over under.
            by_bool (nat_le rec.header.seq k.replica.view.number) (IsVotedFor shape g IsPart rec (outs ++ more) rest.m.leader)
            (λ early. voted_early rec m.replica.session k.leader rest.m.leader outs more later_leads (one.voted rec part over (leb-true rec.header.seq k.replica.view.number early)))
            (λ late. voted_late rec rest.m.leader outs more (rest.voted rec part (leb-false rec.header.seq k.replica.view.number late) under));
        headers = λ h among.
            ⊎_elim (λ (was : IsAmong h k.leader.noted). one.headers h was) (λ (new : (rec : Record) × IsPart rec × (h ≡ rec.header)). inr new) (rest.headers h among);
        votes = votes_heard;
        claims = claims_heard;
      }

  -- ---- all inputs

  -- whose a part is depends on the session alone
  same_for : (a b : Memory) (rec : Record) → b.replica.session ≡ a.replica.session → is_for shape g b.replica rec ≡ true → is_for shape g a.replica rec ≡ true
  same_for a b rec same is = ap (λ (e : ℕ). (rec.header.session == e) && (rec.header.region == g) && has_right_shape shape g rec) (sym same) ∙ is

  -- The law.
  pub goes_through : (inputs : List Input) (node : NodeState) (m : Memory) → node.memory ≡ Some m → IsInTurn IsPart IsView m.replica → BringOnly shape g IsPart m inputs → StaysAlong shape g node inputs
      → GoesThrough shape g IsPart IsView m inputs (outs_of_all shape g node inputs) (after_all shape g node inputs).memory
  unfolding after_all outs_of_all StaysAlong
  goes_through [] node m there turn given stays = record {
    m = m;
    is = there;
    session = refl;
    turn = turn;
    rises = omega arith;
    leads = same_leader shape m.replica.session m.leader [];
    voted = λ rec part over under. absurd (omega (arith, over, under));
    headers = λ h among. inl among;
    votes = λ name v brings. absurd (brings.among);
    claims = λ name c brings. absurd (brings.among);
  }
  goes_through (input ∷ inputs) node m there turn given stays =
      let first = one node m there turn input (λ rec brings mine. given input (inl refl) rec brings mine) stays.0 in
      both node m there turn input (λ rec brings mine. given input (inl refl) rec brings mine) stays.0 inputs (outs_of_all shape g (handled shape g node input).node inputs) (after_all shape g (handled shape g node input).node inputs).memory
      (goes_through inputs (handled shape g node input).node first.k first.is first.still (λ i among rec brings mine. given i (inr among) rec brings (same_for m first.k rec first.session mine)) stays.1)
