-- The rules of a node: what it sends, and what it becomes, by what is handed to it.
use Rattle.std.specs.Prelude.{ℕ, ◌-◌, Bool, true, false, ◌==◌, ◌&&◌, nat_lt, nat_le, if◌then◌else◌, List, [], ◌∷◌, ◌++◌, length, map, filter, flat_map, bytes_eq, Option, None, Some, Result, Ok, Err}
use Rattle.std.specs.Option.{option_map_or}
use Rattle.std.specs.List.{list_any}
use Rattle.std.specs.Cmp.Lexicographic.{pointwise}
use Rattle.salus_types.specs.Volume.{Shape, regions}
use Rattle.salus_types.specs.declared.names.NodeName.{NodeName}
use Rattle.salus_types.specs.declared.names.Sender.{Sender}
use Rattle.salus_types.specs.declared.names.Sender.TheVariants as sender
use Rattle.salus_types.specs.declared.records.Trim.{Trim}
use Rattle.salus_types.specs.declared.records.Header.{Header}
use Rattle.salus_types.specs.declared.records.Record.{Record}
use Rattle.salus_types.specs.declared.records.Base.{Base}
use Rattle.salus_types.specs.declared.records.Held.{Held}
use Rattle.salus_message.specs.declared.small.Prepared.{Prepared}
use Rattle.salus_message.specs.declared.small.Committed.{Committed}
use Rattle.salus_message.specs.declared.small.Ask.{Ask}
use Rattle.salus_message.specs.declared.small.Dump.{Dump}
use Rattle.salus_message.specs.declared.replies.Answer.{Answer}
use Rattle.salus_message.specs.declared.wire.Message.{Message}
use Rattle.salus_message.specs.declared.wire.Message.TheVariants as message
use Rattle.salus_message.specs.declared.wire.MessageError.{MessageError}
use Rattle.salus_message.specs.Reading.{message_at}
use Rattle.merkle_region.specs.Tree.{root_of}
use Rattle.volume_model.specs.Groups.{group_of, all_nodes}
use Rattle.holding_model.specs.Fitting.{has_shape}
use Rattle.replica_rules.specs.Views.{led_by, view_root}
use Rattle.replica_rules.specs.Voting.{with_vote, lesser, greatest_of, with_claim, committed}
use Rattle.replica_rules.specs.Replicas.{Replica, PartAnswer, Foreign, Known, Early, Full, Differs, Next, PartTaken, take_part, Applied, after_part, all_kept_in_turn, take_ask, AskTaken, due_answers, without_due}
use Rattle.replica_rules.specs.Leading.{Leader, noted_with, all_certified, front_after}
use Rattle.holding_model.specs.Changing.{Change, AddsPart, AddsBase, SwitchesTo, FoldsTo, changed, after_changes}
use Rattle.replica_rules.specs.Nodes.{Memory, NodeState, base_held, loaded_as}

-- a message, and to whom it goes
pub record Sending : Type 0 where
  pub to : Sender
  pub message : Message

-- What a rule makes of the memory of an open session: the memory after it, the messages, and the changes of what is held.
pub record Turn : Type 0 where
  pub memory : Memory
  pub outs : List Sending
  pub changes : List Change

-- the same of a node that may have no open session
pub record Plan : Type 0 where
  pub memory : Option Memory
  pub outs : List Sending
  pub changes : List Change

-- nothing is sent, and nothing of what is held changes
abbrev pub quiet : Memory → Turn
quiet m = record { memory = m; outs = []; changes = [] }

abbrev pub plan_of : Turn → Plan
plan_of turn = record { memory = Some turn.memory; outs = turn.outs; changes = turn.changes }

-- nothing is sent, and nothing changes
abbrev pub ignored : NodeState → Plan
ignored node = record { memory = node.memory; outs = []; changes = [] }

-- the one message to the client, and no change
abbrev pub told_client : NodeState → Message → Plan
told_client node m = record { memory = node.memory; outs = record { to = sender.Client; message = m } ∷ []; changes = [] }

-- by a rule that needs an open session
abbrev pub in_session : NodeState → (Memory → Turn) → Plan
in_session node rule = option_map_or (λ m. plan_of (rule m)) node.memory (ignored node)

-- ---- equal records

abbrev pub same_run : Option Trim → Option Trim → Bool
same_run None None = true
same_run (Some a) (Some b) = (a.place == b.place) && (a.log == b.log)
same_run a b = false

abbrev pub same_numbers : List ℕ → List ℕ → Bool
same_numbers a b = bytes_eq a b

abbrev pub same_header : Header → Header → Bool
same_header a b =
    (a.version == b.version) && (a.session == b.session) && (a.seq == b.seq) && (a.region == b.region) && (a.previous == b.previous)
    && (a.leader_before == b.leader_before) && same_numbers a.fronts b.fronts && same_numbers a.touched b.touched
    && bytes_eq a.root b.root && bytes_eq a.top b.top

unfoldable pub same_record : Record → Record → Bool
same_record a b =
    same_header a.header b.header && pointwise (λ v w. (v.place == w.place) && bytes_eq v.bytes w.bytes) a.writes b.writes
    && same_run a.run b.run && bytes_eq a.tag b.tag

-- ---- votes and claims to send

abbrev pub vote_for : Record → Message
vote_for rec = message.Prepared (record { session = rec.header.session; seq = rec.header.seq; region = rec.header.region; root = rec.header.root })

-- the vote for a part, to every replica of the region that leads it
abbrev pub votes_for : Shape → Record → List Sending
votes_for shape rec = map (λ name. record { to = sender.Node name; message = vote_for rec }) (group_of shape (led_by rec.header))

abbrev pub claim_of : ℕ → ℕ → Message
claim_of e front = message.Committed (record { session = e; front = front })

-- the claim of a front, to the client and to every node
abbrev pub claims_of : Shape → ℕ → ℕ → List Sending
claims_of shape e front =
    record { to = sender.Client; message = claim_of e front } ∷ map (λ name. record { to = sender.Node name; message = claim_of e front }) (all_nodes shape)

-- ---- the claims that are due

-- then the leader claims all that it can, by rising numbers
abbrev pub then_claims : Shape → Turn → Turn
then_claims shape turn = record {
  memory = record turn.memory { leader = record turn.memory.leader { front = front_after turn.memory.leader.front (all_certified shape turn.memory.leader) } };
  outs = turn.outs ++ flat_map (λ h. claims_of shape turn.memory.replica.session h.seq) (all_certified shape turn.memory.leader);
  changes = turn.changes;
}

-- ---- a part

-- the parts that were applied are stored and noted, and each is voted for
abbrev pub stored : Shape → ℕ → Memory → Applied → Turn
stored shape g m applied = record {
  memory = record m {
    replica = applied.replica;
    leader = record m.leader { noted = noted_with g m.leader.noted applied.parts };
    parts = m.parts ++ applied.parts;
  };
  outs = flat_map (λ rec. votes_for shape rec) applied.parts;
  changes = map (λ rec. AddsPart rec) applied.parts;
}

-- the vote for a part is sent again where the part is held
abbrev pub voted_again : Shape → Memory → Record → Turn
voted_again shape m rec = record {
  memory = m;
  outs = if list_any (λ held. same_record held rec) m.parts then votes_for shape rec else [];
  changes = [];
}

-- by what `take_part` answers; a part that is applied may be followed by kept ones
abbrev pub part_answered : Shape → ℕ → Memory → Record → Replica → PartAnswer → Turn
part_answered shape g m rec r Next = stored shape g m (after_part rec (all_kept_in_turn shape r))
part_answered shape g m rec r Known = voted_again shape m rec
part_answered shape g m rec r Early = quiet (record m { replica = r })
part_answered shape g m rec r Foreign = quiet m
part_answered shape g m rec r Full = quiet m
part_answered shape g m rec r (Differs root got) = quiet m

-- then the kept asks that are due are answered
abbrev pub then_answers : Shape → Turn → Turn
then_answers shape turn = record {
  memory = record turn.memory { replica = without_due turn.memory.replica };
  outs = turn.outs ++ map (λ answer. record { to = sender.Client; message = message.Answer answer }) (due_answers shape turn.memory.replica);
  changes = turn.changes;
}

abbrev pub part_taken : Shape → ℕ → Memory → Record → PartTaken → Turn
part_taken shape g m rec taken = then_claims shape (then_answers shape (part_answered shape g m rec taken.replica taken.answer))

unfoldable pub by_part : Shape → ℕ → Record → Memory → Turn
by_part shape g rec m = part_taken shape g m rec (take_part shape g m.replica rec)

-- ---- an ask

abbrev pub answer_out : Option Answer → List Sending
answer_out None = []
answer_out (Some answer) = record { to = sender.Client; message = message.Answer answer } ∷ []

abbrev pub ask_taken : Memory → AskTaken → Turn
ask_taken m taken = record { memory = record m { replica = taken.replica }; outs = answer_out taken.answer; changes = [] }

unfoldable pub by_ask : Shape → ℕ → Ask → Memory → Turn
by_ask shape g ask m = ask_taken m (take_ask shape g m.replica ask)

-- ---- a gathering

-- as many bases and parts as one message carries
abbrev pub is_carried : Held → Bool
is_carried held = nat_le (length held.bases) 1048576 && nat_le (length held.parts) 1048576

unfoldable pub by_gather : NodeState → ℕ → Plan
by_gather node e = if is_carried node.held then told_client node (message.Gathered (record { session = e; held = node.held })) else ignored node

-- ---- a base is staged

abbrev pub says_staged : NodeState → ℕ → Plan
says_staged node e = told_client node (message.Staged (record { session = e }))

-- the base is stored with these blocks
abbrev pub staged : NodeState → Record → List (List ℕ) → Plan
staged node rec blocks = record {
  memory = node.memory;
  outs = record { to = sender.Client; message = message.Staged (record { session = rec.header.session }) } ∷ [];
  changes = AddsBase (record { rec = rec; blocks = blocks }) ∷ [];
}

-- a base of that session is held already
abbrev pub staged_again : NodeState → Record → Base → Plan
staged_again node rec base = if same_record base.rec rec then says_staged node rec.header.session else ignored node

-- with blocks of its own: one for each place, with the record's root
abbrev pub staged_whole : Shape → NodeState → Base → Plan
staged_whole shape node base =
    if has_shape shape base.blocks && bytes_eq (root_of shape.height base.blocks) base.rec.header.root then staged node base.rec base.blocks else ignored node

-- with no blocks: the view's, where they have the record's root
abbrev pub staged_from : Shape → NodeState → Record → Memory → Plan
staged_from shape node rec m = if bytes_eq (view_root shape m.replica.view) rec.header.root then staged node rec m.replica.view.blocks else ignored node

abbrev pub staged_anew : Shape → NodeState → Base → Plan
staged_anew shape node base =
    if length base.blocks == 0
    then option_map_or (λ m. staged_from shape node base.rec m) node.memory (ignored node)
    else staged_whole shape node base

-- of a session above the open one, and of the node's region
abbrev pub is_staged_here : ℕ → NodeState → Header → Bool
is_staged_here g node h = nat_lt node.held.session h.session && (h.region == g)

unfoldable pub by_stage : Shape → ℕ → NodeState → Base → Plan
by_stage shape g node base =
    if is_staged_here g node base.rec.header
    then option_map_or (λ held. staged_again node base.rec held) (base_held shape g base.rec.header.session node.held) (staged_anew shape node base)
    else ignored node

-- ---- the switch to a session

abbrev pub says_switched : NodeState → ℕ → Plan
says_switched node e = told_client node (message.Switched (record { session = e }))

-- view and memory start anew from what is held then
abbrev pub switched : Shape → ℕ → NodeState → ℕ → Plan
switched shape g node e = record {
  memory = (loaded_as shape g (changed shape node.held (SwitchesTo e))).memory;
  outs = record { to = sender.Client; message = message.Switched (record { session = e }) } ∷ [];
  changes = SwitchesTo e ∷ [];
}

unfoldable pub by_switch : Shape → ℕ → NodeState → ℕ → Plan
by_switch shape g node e =
    if e == node.held.session then says_switched node e
    else if nat_lt node.held.session e then option_map_or (λ base. switched shape g node e) (base_held shape g e node.held) (ignored node)
    else ignored node

-- ---- the blocks of the region

abbrev pub dumped : ℕ → Memory → Turn
dumped g m = record {
  memory = m;
  outs = record { to = sender.Client; message = message.Dumped (record { session = m.replica.session; region = g; at = m.replica.view.number; blocks = m.replica.view.blocks }) } ∷ [];
  changes = [];
}

unfoldable pub by_dump : ℕ → Dump → Memory → Turn
by_dump g dump m = if (dump.session == m.replica.session) && (dump.region == g) then dumped g m else quiet m

-- ---- votes and claims

abbrev pub with_leader : Memory → Leader → Memory
with_leader m leader = record m { leader = leader }

-- a vote counts where it is of the open session, and of the sender's region
unfoldable pub by_vote : Shape → NodeName → Prepared → Memory → Turn
by_vote shape name vote m =
    if (vote.session == m.replica.session) && (vote.region == name.region)
    then then_claims shape (quiet (with_leader m (record m.leader { votes = with_vote m.leader.votes name vote.seq vote.root })))
    else quiet m

-- the parts are folded up to 16 below the greatest number, and not past what is committed
abbrev pub fold_number : Shape → Memory → ℕ
fold_number shape m = lesser (committed shape m.leader.claims) (greatest_of (map (λ rec. rec.header.seq) m.parts) - 16)

-- where all that is held of the session counts, and eight parts would go
abbrev pub folds : Shape → Memory → Bool
folds shape m = m.whole && nat_le 8 (length (filter (λ rec. nat_le rec.header.seq (fold_number shape m)) m.parts))

abbrev pub after_fold : Memory → ℕ → Memory
after_fold m n = record m { parts = filter (λ rec. nat_lt n rec.header.seq) m.parts }

abbrev pub then_fold : Shape → Turn → Turn
then_fold shape turn =
    if folds shape turn.memory
    then record {
      memory = after_fold turn.memory (fold_number shape turn.memory);
      outs = turn.outs;
      changes = turn.changes ++ FoldsTo (fold_number shape turn.memory) ∷ [];
    }
    else turn

-- a claim counts where it is of the open session
unfoldable pub by_claim : Shape → NodeName → Committed → Memory → Turn
by_claim shape name claim m =
    if claim.session == m.replica.session
    then then_fold shape (then_claims shape (quiet (with_leader m (record m.leader { claims = with_claim m.leader.claims name claim.front }))))
    else quiet m

-- ---- a tick

-- the leader has claimed nothing yet
abbrev pub is_at_start : ℕ → Option ℕ → Bool
is_at_start front None = false
is_at_start front (Some begun) = front == begun

-- the votes for what isn't committed, and the claim of the front
unfoldable pub by_tick : Shape → Memory → Turn
by_tick shape m = record {
  memory = m;
  outs = flat_map (λ rec. votes_for shape rec) (filter (λ rec. nat_lt (committed shape m.leader.claims) rec.header.seq) m.parts)
      ++ (if is_at_start m.leader.front m.begun then [] else claims_of shape m.replica.session m.leader.front);
  changes = [];
}

-- ---- who is listened to

-- a message of the client
abbrev pub from_client : Shape → ℕ → NodeState → Message → Plan
from_client shape g node (message.Part m) = in_session node (by_part shape g m.rec)
from_client shape g node (message.Ask m) = in_session node (by_ask shape g m)
from_client shape g node (message.Gather m) = by_gather node m.session
from_client shape g node (message.Stage m) = by_stage shape g node m.base
from_client shape g node (message.Switch m) = by_switch shape g node m.session
from_client shape g node (message.Dump m) = in_session node (by_dump g m)
from_client shape g node other = ignored node

-- a message of a node
abbrev pub from_node : Shape → NodeState → NodeName → Message → Plan
from_node shape node name (message.Prepared m) = in_session node (by_vote shape name m)
from_node shape node name (message.Committed m) = in_session node (by_claim shape name m)
from_node shape node name other = ignored node

-- a node of the volume
abbrev pub is_node : Shape → NodeName → Bool
is_node shape name = nat_lt name.region (regions shape) && nat_lt name.replica shape.replicas

abbrev pub from_sender : Shape → ℕ → NodeState → Sender → Message → Plan
from_sender shape g node sender.Client m = from_client shape g node m
from_sender shape g node (sender.Node name) m = if is_node shape name then from_node shape node name m else ignored node

-- bytes that don't decode are ignored
abbrev pub from_result : Shape → ℕ → NodeState → Sender → Result Message MessageError → Plan
from_result shape g node from (Ok m) = from_sender shape g node from m
from_result shape g node from (Err e) = ignored node

-- ---- a handling

-- bytes as a message of that sender, or a tick
pub data Input : Type 0 where
  Receives : Sender → List ℕ → Input
  Ticks : Input

unfoldable pub planned : Shape → ℕ → NodeState → Input → Plan
planned shape g node (Receives from bytes) = from_result shape g node from (message_at bytes)
planned shape g node Ticks = in_session node (by_tick shape)

-- the node after it, its messages, and the changes of what is held, in their order
pub record Handled : Type 0 where
  pub node : NodeState
  pub outs : List Sending
  pub changes : List Change

abbrev pub carried_out : Shape → NodeState → Plan → Handled
carried_out shape node plan = record {
  node = record { held = after_changes shape node.held plan.changes; memory = plan.memory };
  outs = plan.outs;
  changes = plan.changes;
}

-- A node of region g handles its input.
abbrev pub handled : Shape → ℕ → NodeState → Input → Handled
handled shape g node input = carried_out shape node (planned shape g node input)
