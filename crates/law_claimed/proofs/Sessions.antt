-- In a session that is served, with every message of its nodes handed over, every batch is claimed by each replica of its leader.
use Rattle.std.proofs.Common.{◌≡◌, ◌∙◌, ◌⊎◌, inl, inr, ⊎_elim, ℕ, ◌+◌, ◌<◌, ◌≤◌, nat_lt, true, List, [], ◌∷◌, Option, None, Some, refl, sym, ap, subst, arith}
use Rattle.std.specs.Prelude.{slice_index, slice_index_or}
use Rattle.std.specs.List.{range_with_len}
use Rattle.std.proofs.lemmas.Bool.{lt-ltb, ltb-true}
use Rattle.salus_types.specs.Volume.{Shape, regions}
use Rattle.salus_types.specs.declared.names.NodeName.{NodeName}
use Rattle.salus_types.specs.declared.names.Sender.TheVariants as sender
use Rattle.salus_types.specs.declared.records.Header.{Header}
use Rattle.salus_types.specs.declared.records.Record.{Record}
use Rattle.salus_message.specs.declared.small.Prepared.{Prepared}
use Rattle.salus_message.specs.declared.wire.Message.TheVariants as message
use Rattle.merkle_region.specs.Tree.{IsAmong}
use Rattle.volume_model.specs.Contents.{all_regions}
use Rattle.volume_model.specs.Groups.{group_of, all_nodes}
use Rattle.volume_model.specs.Parts.{Session, batch_at, leader_of, touches, touched_by, part_header, part_of}
use Rattle.salus_model.specs.Forgery.{IsPartOf}
use Rattle.replica_rules.specs.Views.{led_by}
use Rattle.replica_rules.specs.Voting.{Vote}
use Rattle.replica_rules.specs.Leading.{Leader, new_leader}
use Rattle.replica_rules.specs.Nodes.{Memory}
use Rattle.replica_rules.specs.Rules.{Sending, vote_for, votes_for, claim_of, claims_of, is_node}
use Rattle.list_lemmas.proofs.Members.{among_all, among_map, among_map-in, among_flat_map-in, among_filter, among_range, among_range-in}
use Rattle.list_lemmas.proofs.Tests.{and_left, and_right}
use Rattle.law_lemmas.proofs.Numbered.{IsSized}
use Rattle.law_answers.proofs.Asks.{both_true}
use Rattle.law_reads.specs.Chained.{IsViewOf}
use Rattle.law_reads.proofs.Sessions.{session_chain}
use Rattle.law_claimed.specs.Handling.{after_all, GoesThrough}
use Rattle.law_claimed.specs.Knowing.{IsOwnBatch, Leads, IsRightVote, IsHeaderOf, KnowsAll, IsClaimedBy}
use Rattle.law_claimed.specs.Leading.{Rises, IsSettled, HasNoted, IsVoteFrom, IsPlaced, ArePlaced, IsVotedFor}
use Rattle.law_claimed.specs.Session.{IsRooted, Serves, sent, IsServed}
use Rattle.law_claimed.proofs.Certified.{all_claim_all}
use Rattle.law_claimed.proofs.Through.{goes_through}

-- ---- names and regions

-- a replica of a group of the volume
pub group_node : (shape : Shape) (g : ℕ) (name : NodeName) → g < regions shape → IsAmong name (group_of shape g) → (name.region ≡ g) × (is_node shape name ≡ true)
group_node shape g name inside among =
    let r = among_map (λ (r : ℕ). record { region = g; replica = r }) name (range_with_len 0 shape.replicas) among in
    let high : r.0 < 0 + shape.replicas = (among_range shape.replicas 0 r.0 r.1).1 in
    let region : name.region ≡ g = ap (λ (n : NodeName). n.region) r.2 in
    let replica : name.replica ≡ r.0 = ap (λ (n : NodeName). n.replica) r.2 in
    (region, both_true (nat_lt name.region (regions shape)) (nat_lt name.replica shape.replicas) (lt-ltb name.region (regions shape) (omega (arith, inside, region))) (lt-ltb name.replica shape.replicas (omega (arith, high, replica))))

group_in_all : (shape : Shape) (g : ℕ) (name : NodeName) → g < regions shape → IsAmong name (group_of shape g) → IsAmong name (all_nodes shape)
group_in_all shape g name inside among = among_flat_map-in (λ (r : ℕ). group_of shape r) g name (all_regions shape) (among_range-in (regions shape) 0 g (omega arith) (omega (arith, inside))) among

listed_in_all : (shape : Shape) (name : NodeName) → is_node shape name ≡ true → IsAmong name (all_nodes shape)
listed_in_all shape name listed =
    let region : name.region < regions shape = ltb-true name.region (regions shape) (and_left (nat_lt name.region (regions shape)) (nat_lt name.replica shape.replicas) listed) in
    let replica : name.replica < shape.replicas = ltb-true name.replica shape.replicas (and_right (nat_lt name.region (regions shape)) (nat_lt name.replica shape.replicas) listed) in
    group_in_all shape name.region name region
    (among_map-in (λ (r : ℕ). record { region = name.region; replica = r }) (range_with_len 0 shape.replicas) name.replica (among_range-in shape.replicas 0 name.replica (omega arith) (omega (arith, replica))))

-- the first of a list that isn't empty
one_first : (xs : List ℕ) (g : ℕ) → IsAmong g xs → slice_index_or xs 0 0 ≡ slice_index xs 0
one_first [] g among = absurd among
one_first (x ∷ xs) g among = refl

module _ (shape : Shape) (key : List ℕ) (known : Session) (front : NodeName → ℕ) (is : IsServed shape key known front) where
  abbrev IsPart : ℕ → Record → Type 0
  IsPart g rec = IsPartOf shape key known g rec

  sized : IsSized shape known
  sized = record { long = is.long; begun = is.begun }

  -- the regions that a batch touches are of the volume
  touched_in : (s g : ℕ) → IsAmong g (touched_by shape (batch_at known s)) → (g < regions shape) × (touches shape (batch_at known s) g ≡ true)
  touched_in s g among =
      let at = among_filter (λ r. touches shape (batch_at known s) r) g (all_regions shape) among in
      let low : g < 0 + regions shape = (among_range (regions shape) 0 g at.0).1 in
      (omega (arith, low), at.1)

  leader_in : (s : ℕ) → IsOwnBatch known s → leader_of shape (batch_at known s) < regions shape
  leader_in s own = (touched_in s (leader_of shape (batch_at known s)) (is.led s own)).0

  -- ---- parts

  part_at : (s g : ℕ) → IsOwnBatch known s → IsAmong g (touched_by shape (batch_at known s)) → IsPart g (part_of shape key known s g)
  part_at s g own among = let t = touched_in s g among in record { s = s; own = own.above; within = own.within; inside = t.0; touched = t.1; is = refl }

  part_seq : (s g : ℕ) → (part_of shape key known s g).header.seq ≡ s
  unfolding part_of
  part_seq s g = refl

  -- what its header says
  record Says (g : ℕ) (rec : Record) : Type 0 where
    own : IsOwnBatch known rec.header.seq
    header : rec.header ≡ part_header shape known rec.header.seq g

  says : (g : ℕ) (rec : Record) → IsPart g rec → Says g rec
  unfolding part_of
  says g rec part = subst (λ (r : Record). Says g r) (sym part.is) (record { own = record { above = part.own; within = part.within }; header = refl })

  led_is : (g : ℕ) (rec : Record) (s : ℕ) → IsPart g rec → rec.header.seq ≡ s → led_by rec.header ≡ leader_of shape (batch_at known s)
  led_is g rec s part number =
      let of = says g rec part in
      let own : IsOwnBatch known s = subst (λ (x : ℕ). IsOwnBatch known x) number of.own in
      ap (λ (h : Header). led_by h) (of.header ∙ ap (λ (x : ℕ). part_header shape known x g) number) ∙ one_first (touched_by shape (batch_at known s)) (leader_of shape (batch_at known s)) (is.led s own)

  -- ---- one node

  module _ (name : NodeName) (listed : is_node shape name ≡ true) where
    abbrev s_at : Serves shape key known front name
    s_at = is.serves name listed

    abbrev outs : List Sending
    outs = sent shape key known front name (is.serves name listed)

    pub through : name.region < regions shape
        → GoesThrough shape name.region (IsPartOf shape key known name.region) (IsViewOf shape known name.region) (is.serves name listed).before (is.serves name listed).inputs (sent shape key known front name (is.serves name listed))
        (after_all shape name.region (is.serves name listed).start (is.serves name listed).inputs).memory
    through inside =
        goes_through shape (IsPartOf shape key known name.region) (IsViewOf shape known name.region) (session_chain shape key known sized name.region inside) name.region s_at.inputs s_at.start s_at.before s_at.there s_at.turn s_at.only s_at.stays

    -- each part of its region is voted for
    voted_for : (inside : name.region < regions shape) (s : ℕ) → IsOwnBatch known s → IsAmong name.region (touched_by shape (batch_at known s))
        → IsVotedFor shape name.region (IsPart name.region) (part_of shape key known s name.region) outs (through inside).m.leader
    voted_for inside s own among =
        let t = through inside in
        let rec : Record = part_of shape key known s name.region in
        let part : IsPart name.region rec = part_at s name.region own among in
        let number : rec.header.seq ≡ s = part_seq s name.region in
        let low : known.base < s = own.above in
        let begun : s_at.before.replica.view.number ≡ known.base = s_at.number in
        t.voted rec part (omega (arith, number, low, begun)) (s_at.reached t.m t.is rec part)

    -- so its votes go to each replica of the batch's leader
    vote_sent : (inside : name.region < regions shape) (s : ℕ) → IsOwnBatch known s → IsAmong name.region (touched_by shape (batch_at known s)) → (other : NodeName) → Leads shape known s other
        → (v : Prepared) × (v.session ≡ known.session) × (v.region ≡ name.region) × (v.seq ≡ s) × IsAmong (record { to = sender.Node other; message = message.Prepared v }) outs
    vote_sent inside s own among other leads =
        let v = voted_for inside s own among in
        let number : v.same.header.seq ≡ s = v.number ∙ part_seq s name.region in
        let of = says name.region v.same v.part in
        let leader : led_by v.same.header ≡ leader_of shape (batch_at known s) = led_is name.region v.same s v.part number in
        let sending : NodeName → Sending = λ n. record { to = sender.Node n; message = vote_for v.same } in (
          record { session = v.same.header.session; seq = v.same.header.seq; region = v.same.header.region; root = v.same.header.root },
          ap (λ (h : Header). h.session) of.header,
          ap (λ (h : Header). h.region) of.header,
          number,
          among_all (λ out. IsAmong out outs) (votes_for shape v.same) (sending other)
              (among_map-in sending (group_of shape (led_by v.same.header)) other (subst (λ (g : ℕ). IsAmong other (group_of shape g)) (sym leader) leads)) v.votes,
        )

    -- it claims its front, if that is past the base
    claim_sent : (inside : name.region < regions shape) (other : NodeName) → IsAmong other (all_nodes shape)
        → (IsAmong (record { to = sender.Node other; message = message.Committed (record { session = known.session; front = front name }) }) outs) ⊎ (front name ≤ known.base)
    claim_sent inside other among =
        let t = through inside in
        let now : t.m.leader.front ≡ front name = s_at.front_is t.m t.is in
        elim t.leads.claimed [
          | inl same ↦ let was : s_at.before.leader.front ≡ known.base = ap (λ (l : Leader). l.front) s_at.leader in let is_same : t.m.leader.front ≡ s_at.before.leader.front = same in inr (omega (arith, was, is_same, now))
          | inr claims ↦
              let sending : ℕ → ℕ → Sending = λ e x. record { to = sender.Node other; message = claim_of e x } in
              let there : IsAmong (sending s_at.before.replica.session t.m.leader.front) outs =
              among_all (λ out. IsAmong out outs) (claims_of shape s_at.before.replica.session t.m.leader.front) (sending s_at.before.replica.session t.m.leader.front)
              (inr (among_map-in (λ (n : NodeName). record { to = sender.Node n; message = claim_of s_at.before.replica.session t.m.leader.front }) (all_nodes shape) other among)) claims in
              inl (subst (λ (e : ℕ). IsAmong (sending e (front name)) outs) s_at.session (subst (λ (x : ℕ). IsAmong (sending s_at.before.replica.session x) outs) now there))
        ]

  -- ---- a leader

  module _ (name : NodeName) (listed : is_node shape name ≡ true) (inside : name.region < regions shape) where
    abbrev s : Serves shape key known front name
    s = is.serves name listed

    abbrev now : Memory
    now = (through name listed inside).m

    first_settled : IsSettled shape (new_leader known.base [])
    unfolding Rises
    first_settled = record { rises = tt; none = tt }

    settled : IsSettled shape now.leader
    settled = (through name listed inside).leads.settled (subst (λ (l : Leader). IsSettled shape l) (sym s.leader) first_settled)

    headers : (h : Header) → IsAmong h now.leader.noted → IsHeaderOf shape known h
    headers h among =
        ⊎_elim (λ (was : IsAmong h s.before.leader.noted). absurd (subst (λ (l : Leader). IsAmong h l.noted) s.leader was))
        (λ (new : (rec : Record) × IsPart name.region rec × (h ≡ rec.header)).
        let of = says name.region new.0 new.1 in
        subst (λ (x : Header). IsHeaderOf shape known x) (sym new.2) (record { own = of.own; g = name.region; is = of.header }))
        ((through name listed inside).headers h among)

    right_vote : (other : NodeName) (x : ℕ) (o : Option Vote) → IsPlaced x o → IsRooted shape known other o → IsRightVote shape known other x o
    right_vote other x None placed rooted = tt
    right_vote other x (Some vote) placed rooted = record { own = rooted.own; place = placed; root = rooted.root }

    votes : (other : NodeName) (x : ℕ) → IsRightVote shape known other x (now.leader.votes other x)
    votes other x =
        right_vote other x (now.leader.votes other x) ((through name listed inside).leads.placed (subst (λ (l : Leader). ArePlaced l.votes) (sym s.leader) (λ n y. tt)) other x) (s.rooted now (through name listed inside).is other x)

    noted : (b : ℕ) → IsOwnBatch known b → Leads shape known b name → HasNoted b now.leader.noted
    noted b own leads =
        let region : name.region ≡ leader_of shape (batch_at known b) = (group_node shape (leader_of shape (batch_at known b)) name (leader_in b own) leads).0 in
        let v = voted_for name listed inside b own (subst (λ (g : ℕ). IsAmong g (touched_by shape (batch_at known b))) (sym region) (is.led b own)) in
        let number : v.same.header.seq ≡ b = v.number ∙ part_seq b name.region in
        subst (λ (x : ℕ). HasNoted x now.leader.noted) number (v.noted (led_is name.region v.same b v.part number ∙ sym region))

    voted : (b : ℕ) → IsOwnBatch known b → Leads shape known b name → (g : ℕ) → IsAmong g (touched_by shape (batch_at known b)) → (other : NodeName) → IsAmong other (group_of shape g)
        → IsVoteFrom b (now.leader.votes other b)
    voted b own leads g touched other among =
        let in_volume : g < regions shape = (touched_in b g touched).0 in
        let of = group_node shape g other in_volume among in
        let region : other.region ≡ g = of.0 in
        let there : other.region < regions shape = omega (arith, region, in_volume) in
        let vote = vote_sent other of.1 there b own (subst (λ (r : ℕ). IsAmong r (touched_by shape (batch_at known b))) (sym of.0) touched) name leads in
        let brings = is.brought other name of.1 listed (message.Prepared vote.0) vote.4 in
        subst (λ (x : ℕ). IsVoteFrom x (now.leader.votes other x)) vote.3
        ((through name listed inside).votes other vote.0 (record { bytes = brings.bytes; among = brings.among; decoded = brings.decoded; listed = of.1; session = vote.1 ∙ sym s.session; region = vote.2 }))

    heard : (b : ℕ) → IsOwnBatch known b → (other : NodeName) → Leads shape known b other → (front other ≤ now.leader.claims other) ⊎ (front other ≤ known.base)
    heard b own other leads =
        let of = group_node shape (leader_of shape (batch_at known b)) other (leader_in b own) leads in
        let region : other.region ≡ leader_of shape (batch_at known b) = of.0 in
        let low : leader_of shape (batch_at known b) < regions shape = leader_in b own in
        elim (claim_sent other of.1 (omega (arith, region, low)) name (listed_in_all shape name listed)) [
          | inl claims ↦
              let brings = is.brought other name of.1 listed (message.Committed (record { session = known.session; front = front other })) claims in
              inl ((through name listed inside).claims other (record { session = known.session; front = front other }) (record { bytes = brings.bytes; among = brings.among; decoded = brings.decoded; listed = of.1; session = sym s.session }))
          | inr none ↦ inr none
        ]

    pub knows : KnowsAll shape known front name
    knows = record {
      leader = now.leader;
      front_is = s.front_is now (through name listed inside).is;
      base = (through name listed inside).leads.base ∙ ap (λ (l : Leader). l.base) s.leader;
      settled = settled;
      headers = headers;
      votes = votes;
      noted = noted;
      voted = voted;
      heard = heard;
      window = λ b own leads far. is.window b own name leads far;
    }

  -- The law: every own batch is claimed by each replica of its leader.
  pub all_batches_claimed : (b : ℕ) → IsOwnBatch known b → IsClaimedBy shape known front b
  all_batches_claimed b own =
      all_claim_all shape known front
      (λ x mine name leads.
      let low : leader_of shape (batch_at known x) < regions shape = leader_in x mine in
      let of = group_node shape (leader_of shape (batch_at known x)) name low leads in
      let region : name.region ≡ leader_of shape (batch_at known x) = of.0 in
      knows name of.1 (omega (arith, region, low))) b own
