-- Votes and claims that are handed to a session.
use Rattle.std.proofs.Common.{◌≡◌, ◌∙◌, ℕ, ◌==◌, ◌&&◌, ◌-◌, Bool, true, false, if◌then◌else◌, List, [], ◌++◌, map, length, Option, None, Some, refl, sym, ap, subst, append-nil, arith}
use Rattle.std.proofs.lemmas.List.{drop_all}
use Rattle.std.specs.Prelude.{flat_map}
use Rattle.salus_types.specs.Volume.{Shape}
use Rattle.salus_types.specs.declared.names.NodeName.{NodeName}
use Rattle.salus_types.specs.declared.records.Header.{Header}
use Rattle.salus_types.specs.declared.records.Record.{Record}
use Rattle.salus_types.specs.declared.records.Out.{Out}
use Rattle.salus_message.specs.declared.small.Prepared.{Prepared}
use Rattle.salus_message.specs.declared.small.Committed.{Committed}
use Rattle.holding_model.specs.Changing.{AddsPart}
use Rattle.replica_rules.specs.Voting.{with_vote, with_claim}
use Rattle.replica_rules.specs.Leading.{Leader, all_certified, front_after}
use Rattle.replica_rules.specs.Nodes.{Memory}
use Rattle.replica_rules.specs.Rules.{Turn as RuleTurn, quiet, claims_of, then_claims, with_leader, by_vote, by_claim, folds, fold_number, then_fold}
use Rattle.pipelined_commit.specs.Standing.{KeptLeader, StandsFor as LeaderStands, Follows}
use Rattle.posting.specs.Sendings.{out_of_sending}
use Rattle.open_session.specs.declared.turn.Turn.{Turn}
use Rattle.open_session.specs.Kept.{KeptSession}
use Rattle.open_session.specs.Standing.{StandsFor}
use Rattle.open_session.specs.Turning.{fold_of, changes_in, HasTurned, IsTurn}
use Rattle.open_session.specs.Claiming.{claims_out}
use Rattle.open_session.specs.Folding.{fold_at, left_after}
use Rattle.open_session.proofs.Sent.{all-claims-sent}
use Rattle.list_lemmas.proofs.Tests.{by_test}

-- a turn that adds nothing
abbrev pub told_turn : List Out → Option ℕ → Turn
told_turn outs fold = record { outs = outs; added = 0; fold = fold }

pub none_added : (kept : KeptSession) (outs : List Out) (fold : Option ℕ) → changes_in kept (told_turn outs fold) ≡ fold_of fold
none_added kept outs fold = ap (λ (l : List Record). map (λ rec. AddsPart rec) l ++ fold_of fold) (drop_all (length kept.parts - 0) kept.parts (omega arith))

-- nothing is done
pub quiet-turned : (kept : KeptSession) (m : Memory) → StandsFor kept m → HasTurned kept (told_turn [] None) (quiet m)
quiet-turned kept m stands = record { memory = stands; outs = refl; changes = none_added kept [] None }

-- ---- a vote

vote_ways : Shape → NodeName → Prepared → Memory → Bool → RuleTurn
vote_ways shape from vote m b =
    if b then then_claims shape (quiet (with_leader m (record m.leader { votes = with_vote m.leader.votes from vote.seq vote.root }))) else quiet m

vote_is : (shape : Shape) (from : NodeName) (vote : Prepared) (m : Memory) → by_vote shape from vote m ≡ vote_ways shape from vote m ((vote.session == m.replica.session) && (vote.region == from.region))
unfolding by_vote vote_ways
vote_is shape from vote m = refl

vote_way : (shape : Shape) (from : NodeName) (vote : Prepared) (m : Memory) (session : ℕ) (b : Bool) → m.replica.session ≡ session → ((vote.session == session) && (vote.region == from.region)) ≡ b
    → by_vote shape from vote m ≡ vote_ways shape from vote m b
vote_way shape from vote m session b same is =
    vote_is shape from vote m ∙ ap (λ b. vote_ways shape from vote m b) (ap (λ e. (vote.session == e) && (vote.region == from.region)) same ∙ is)

-- what can be claimed then
pub claims-turned : (shape : Shape) (session : ℕ) (kept : KeptSession) (m : Memory) (leader : KeptLeader) (outs : List Out) → StandsFor kept m → m.replica.session ≡ session
    → LeaderStands leader (record m.leader { front = front_after m.leader.front (all_certified shape m.leader) })
    → outs ≡ flat_map (λ (h : Header). claims_out shape session h.seq) (all_certified shape m.leader)
    → HasTurned (record kept { leader = leader }) (told_turn outs None) (then_claims shape (quiet m))
claims-turned shape session kept m leader outs stands same led sent = record {
  memory = record { replica = stands.replica; leader = led; parts = stands.parts; begun = stands.begun; whole = stands.whole };
  outs = sent ∙ all-claims-sent shape session (all_certified shape m.leader)
      ∙ ap (λ e. map out_of_sending (flat_map (λ h. claims_of shape e h.seq) (all_certified shape m.leader))) (sym same);
  changes = none_added (record kept { leader = leader }) outs None;
}

pub vote-not : (shape : Shape) (from : NodeName) (vote : Prepared) (session : ℕ) (kept : KeptSession) → kept.replica.session ≡ session → ((vote.session == session) && (vote.region == from.region)) ≡ false
    → IsTurn (by_vote shape from vote) kept kept (told_turn [] None)
unfolding vote_ways
vote-not shape from vote session kept same is m stands =
    let at : m.replica.session ≡ session = sym (ap (λ r. r.session) stands.replica) ∙ same in
    subst (λ (t : RuleTurn). HasTurned kept (told_turn [] None) t) (sym (vote_way shape from vote m session false at is)) (quiet-turned kept m stands)

pub vote-taken : (shape : Shape) (from : NodeName) (vote : Prepared) (session : ℕ) (kept : KeptSession) → kept.replica.session ≡ session → ((vote.session == session) && (vote.region == from.region)) ≡ true
    → (mid leader : KeptLeader) (outs : List Out) → Follows (λ l. record l { votes = with_vote l.votes from vote.seq vote.root }) kept.leader mid
    → Follows (λ l. record l { front = front_after l.front (all_certified shape l) }) mid leader
    → ((l : Leader) → LeaderStands mid l → outs ≡ flat_map (λ (h : Header). claims_out shape session h.seq) (all_certified shape l))
    → IsTurn (by_vote shape from vote) kept (record kept { leader = leader }) (told_turn outs None)
unfolding vote_ways
vote-taken shape from vote session kept same is mid leader outs votes front sent m stands =
    let at : m.replica.session ≡ session = sym (ap (λ r. r.session) stands.replica) ∙ same in
    let l : Leader = record m.leader { votes = with_vote m.leader.votes from vote.seq vote.root } in
    let led : LeaderStands mid l = votes m.leader stands.leader in
    let stood : StandsFor (record kept { leader = mid }) (with_leader m l) = record { replica = stands.replica; leader = led; parts = stands.parts; begun = stands.begun; whole = stands.whole } in
    subst (λ (t : RuleTurn). HasTurned (record kept { leader = leader }) (told_turn outs None) t) (sym (vote_way shape from vote m session true at is))
    (claims-turned shape session (record kept { leader = mid }) (with_leader m l) leader outs stood at (front l led) (sent l led))

-- ---- a claim

claim_ways : Shape → NodeName → Committed → Memory → Bool → RuleTurn
claim_ways shape from claim m b =
    if b then then_fold shape (then_claims shape (quiet (with_leader m (record m.leader { claims = with_claim m.leader.claims from claim.front })))) else quiet m

claim_is : (shape : Shape) (from : NodeName) (claim : Committed) (m : Memory) → by_claim shape from claim m ≡ claim_ways shape from claim m (claim.session == m.replica.session)
unfolding by_claim claim_ways
claim_is shape from claim m = refl

claim_way : (shape : Shape) (from : NodeName) (claim : Committed) (m : Memory) (session : ℕ) (b : Bool) → m.replica.session ≡ session → (claim.session == session) ≡ b
    → by_claim shape from claim m ≡ claim_ways shape from claim m b
claim_way shape from claim m session b same is =
    claim_is shape from claim m ∙ ap (λ b. claim_ways shape from claim m b) (ap (λ e. claim.session == e) same ∙ is)

abbrev folded_at : Shape → RuleTurn → Option ℕ
folded_at shape turn = fold_at shape turn.memory.whole turn.memory.leader.claims turn.memory.parts

-- the fold of the rules
record HasFolded (shape : Shape) (turn : RuleTurn) (fold : Option ℕ) (after : RuleTurn) : Type 0 where
  memory : after.memory ≡ record turn.memory { parts = left_after fold turn.memory.parts }
  outs : after.outs ≡ turn.outs
  changes : after.changes ≡ turn.changes ++ fold_of fold

has_folded : (shape : Shape) (turn : RuleTurn) → HasFolded shape turn (folded_at shape turn) (then_fold shape turn)
has_folded shape turn =
    by_test (λ b. HasFolded shape turn (if b then Some (fold_number shape turn.memory) else None)
    (if b then record {
      memory = record turn.memory { parts = left_after (Some (fold_number shape turn.memory)) turn.memory.parts };
      outs = turn.outs;
      changes = turn.changes ++ fold_of (Some (fold_number shape turn.memory));
    } else turn)) (folds shape turn.memory)
    (λ pass. record { memory = refl; outs = refl; changes = refl })
    (λ fail. record { memory = refl; outs = refl; changes = sym (append-nil turn.changes) })

-- a session that has turned folds its parts
pub fold-turned : (shape : Shape) (kept : KeptSession) (outs : List Out) (turn : RuleTurn) (parts : List Record) (fold : Option ℕ) → HasTurned kept (told_turn outs None) turn
    → fold ≡ fold_at shape kept.whole turn.memory.leader.claims kept.parts → parts ≡ left_after fold kept.parts
    → HasTurned (record kept { parts = parts }) (told_turn outs fold) (then_fold shape turn)
fold-turned shape kept outs turn parts fold turned at left =
    let stands = turned.memory in
    let folded = has_folded shape turn in
    let same : fold ≡ folded_at shape turn =
    at ∙ ap (λ b. fold_at shape b turn.memory.leader.claims kept.parts) stands.whole ∙ ap (λ l. fold_at shape turn.memory.whole turn.memory.leader.claims l) stands.parts in
    let parts_are : parts ≡ left_after (folded_at shape turn) turn.memory.parts = left ∙ ap (λ f. left_after f kept.parts) same ∙ ap (λ l. left_after (folded_at shape turn) l) stands.parts in
    let none : [] ≡ turn.changes = sym (none_added kept outs None) ∙ turned.changes in
    record {
      memory = subst (λ m. StandsFor (record kept { parts = parts }) m) (sym folded.memory)
          (record { replica = stands.replica; leader = stands.leader; parts = parts_are; begun = stands.begun; whole = stands.whole });
      outs = turned.outs ∙ ap (λ l. map out_of_sending l) (sym folded.outs);
      changes = none_added (record kept { parts = parts }) outs fold ∙ ap (λ f. fold_of f) same ∙ ap (λ l. l ++ fold_of (folded_at shape turn)) none ∙ sym folded.changes;
    }

pub claim-not : (shape : Shape) (from : NodeName) (claim : Committed) (session : ℕ) (kept : KeptSession) → kept.replica.session ≡ session → (claim.session == session) ≡ false
    → IsTurn (by_claim shape from claim) kept kept (told_turn [] None)
unfolding claim_ways
claim-not shape from claim session kept same is m stands =
    let at : m.replica.session ≡ session = sym (ap (λ r. r.session) stands.replica) ∙ same in
    subst (λ (t : RuleTurn). HasTurned kept (told_turn [] None) t) (sym (claim_way shape from claim m session false at is)) (quiet-turned kept m stands)

pub claim-taken : (shape : Shape) (from : NodeName) (claim : Committed) (session : ℕ) (kept : KeptSession) → kept.replica.session ≡ session → (claim.session == session) ≡ true
    → (mid leader : KeptLeader) (outs : List Out) (parts : List Record) (fold : Option ℕ) → Follows (λ l. record l { claims = with_claim l.claims from claim.front }) kept.leader mid
    → Follows (λ l. record l { front = front_after l.front (all_certified shape l) }) mid leader
    → ((l : Leader) → LeaderStands mid l → outs ≡ flat_map (λ (h : Header). claims_out shape session h.seq) (all_certified shape l))
    → ((l : Leader) → LeaderStands leader l → fold ≡ fold_at shape kept.whole l.claims kept.parts) → parts ≡ left_after fold kept.parts
    → IsTurn (by_claim shape from claim) kept (record kept { leader = leader; parts = parts }) (told_turn outs fold)
unfolding claim_ways
claim-taken shape from claim session kept same is mid leader outs parts fold claims front sent at left m stands =
    let here : m.replica.session ≡ session = sym (ap (λ r. r.session) stands.replica) ∙ same in
    let l : Leader = record m.leader { claims = with_claim m.leader.claims from claim.front } in
    let led : LeaderStands mid l = claims m.leader stands.leader in
    let stood : StandsFor (record kept { leader = mid }) (with_leader m l) = record { replica = stands.replica; leader = led; parts = stands.parts; begun = stands.begun; whole = stands.whole } in
    let turned = claims-turned shape session (record kept { leader = mid }) (with_leader m l) leader outs stood here (front l led) (sent l led) in
    subst (λ (t : RuleTurn). HasTurned (record kept { leader = leader; parts = parts }) (told_turn outs fold) t) (sym (claim_way shape from claim m session true here is))
    (fold-turned shape (record kept { leader = leader }) outs (then_claims shape (quiet (with_leader m l))) parts fold turned (at _ (front l led)) left)
