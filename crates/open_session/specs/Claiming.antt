-- The claims of a leader, as they are posted.
use Rattle.std.specs.Prelude.{◌≡◌, ℕ, List, ◌∷◌, ◌++◌, flat_map, map}
use Rattle.salus_types.specs.Volume.{Shape}
use Rattle.salus_types.specs.declared.names.Sender.TheVariants as sender
use Rattle.salus_types.specs.declared.records.Header.{Header}
use Rattle.salus_types.specs.declared.records.Out.{Out}
use Rattle.volume_model.specs.Groups.{all_nodes}
use Rattle.replica_rules.specs.Leading.{Leader, all_certified, front_after}
use Rattle.replica_rules.specs.Rules.{claim_of}
use Rattle.pipelined_commit.specs.Standing.{KeptLeader, StandsFor}
use Rattle.posting.specs.Posting.{out_to}

-- the claim of a front, to the client and to every node
abbrev pub claims_out : Shape → ℕ → ℕ → List Out
claims_out shape e front = out_to sender.Client (claim_of e front) ∷ map (λ name. out_to (sender.Node name) (claim_of e front)) (all_nodes shape)

abbrev pub with_front : ℕ → Leader → Leader
with_front front leader = record leader { front = front }

abbrev pub all_claims : Shape → ℕ → Leader → List Out
all_claims shape e leader = flat_map (λ (h : Header). claims_out shape e h.seq) (all_certified shape leader)

-- On the way to claiming all that this leader can: what is claimed has been sent, and what is left is what its leader can claim
-- from the front that is reached.
pub record IsOnTheWay (shape : Shape) (e : ℕ) (leader : Leader) (before outs : List Out) (now : KeptLeader) : Type 0 where
  pub stands : StandsFor now (with_front now.front leader)
  pub front : front_after now.front (all_certified shape (with_front now.front leader)) ≡ front_after leader.front (all_certified shape leader)
  pub sent : outs ++ all_claims shape e (with_front now.front leader) ≡ before ++ all_claims shape e leader
