-- A worked run, computed by the checker: an early part, its predecessor, a vote and a claim, and a load from a file that no node wrote.
use Rattle.std.proofs.Common.{◌≡◌, ℕ, ◌-◌, List, [], ◌∷◌, ◌++◌, Bool, false, refl}
use Rattle.std.specs.Prelude.{Option, None, Some, replicate, option_map}
use Rattle.sha2.specs.Sha256.{sha256, first_words, schedule, rounds, compress, hash_after, digest_bytes}
use Rattle.salus_types.specs.Volume.{Shape}
use Rattle.salus_types.specs.declared.names.NodeName.{NodeName}
use Rattle.salus_types.specs.declared.names.Sender.{Sender}
use Rattle.salus_types.specs.declared.names.Sender.TheVariants as sender
use Rattle.salus_types.specs.declared.records.Record.{Record}
use Rattle.salus_types.specs.declared.records.Base.{Base}
use Rattle.salus_types.specs.declared.records.Held.{Held}
use Rattle.salus_message.specs.declared.small.Ask.{Ask}
use Rattle.salus_message.specs.declared.wire.Message.{Message}
use Rattle.salus_message.specs.declared.wire.Message.TheVariants as message
use Rattle.merkle_region.specs.Tree.{root_of, path_from}
use Rattle.holding_model.specs.Fitting.{ascends_from, record_fits, blocks_written, has_shape}
use Rattle.replica_rules.specs.Views.{has_right_shape}
use Rattle.replica_rules.specs.Replicas.{take_part, take_kept, kept_in_turn, with_ask, take_ask}
use Rattle.replica_rules.specs.Leading.{put_header, is_certified, front_after}
use Rattle.holding_model.specs.Changing.{AddsPart, changed, after_changes}
use Rattle.replica_rules.specs.Nodes.{Memory, NodeState, all_tried, loaded_as}
use Rattle.replica_rules.specs.Rules.{Sending, Handled, from_sender, carried_out, votes_for, claims_of, by_part, by_ask, by_vote}

-- one region of one block of one byte, with one replica
abbrev pub small : Shape
small = record { regions_log = 0; height = 0; block = 1; replicas = 1 }

abbrev pub the_node : NodeName
the_node = record { region = 0; replica = 0 }

abbrev pub of_byte : ℕ → List (List ℕ)
of_byte x = (x ∷ []) ∷ []

-- part n of session 1, which writes the byte n
abbrev pub part : ℕ → Record
part n = record {
  header = record {
    version = 1;
    session = 1;
    seq = n;
    region = 0;
    previous = n - 1;
    leader_before = 0;
    fronts = n ∷ [];
    touched = 0 ∷ [];
    root = root_of 0 (of_byte n);
    top = root_of 0 (of_byte n);
  };
  writes = record { place = 0; bytes = n ∷ [] } ∷ [];
  run = None;
  tag = replicate 32 0;
}

-- the base of session e with that byte
abbrev pub base : ℕ → ℕ → ℕ → Base
base e n x = record {
  rec = record {
    header = record {
      version = 1;
      session = e;
      seq = n;
      region = 0;
      previous = 0;
      leader_before = 0;
      fronts = n ∷ [];
      touched = 0 ∷ [];
      root = root_of 0 (of_byte x);
      top = root_of 0 (of_byte x);
    };
    writes = [];
    run = None;
    tag = replicate 32 0;
  };
  blocks = of_byte x;
}

abbrev pub formatted : Held
formatted = record { session = 1; bases = base 1 0 0 ∷ []; parts = [] }

abbrev pub hears : NodeState → Sender → Message → Handled
hears node from m = carried_out small node (from_sender small 0 node from m)

abbrev pub tells_part : ℕ → Message
tells_part n = message.Part (record { rec = part n })

abbrev ask_of : ℕ → Ask
ask_of x = record { session = 1; read = 7; block = 0; at = x }

abbrev answer_of : ℕ → Sending
answer_of x = record { to = sender.Client; message = message.Answer (record { session = 1; read = 7; block = 0; at = x; bytes = x ∷ []; path = [] }) }

-- part 2, an ask as of 2, part 1, and the vote for part 1
abbrev first : Handled
first = hears (loaded_as small 0 formatted) sender.Client (tells_part 2)

abbrev second : Handled
second = hears first.node sender.Client (message.Ask (ask_of 2))

abbrev third : Handled
third = hears second.node sender.Client (tells_part 1)

abbrev fourth : Handled
fourth = hears third.node (sender.Node the_node) (message.Prepared (record { session = 1; seq = 1; region = 0; root = root_of 0 (of_byte 1) }))

pub first-kept : option_map (λ m. m.replica.early) first.node.memory ≡ Some (part 2 ∷ [])
unfolding take_part has_right_shape record_fits ascends_from blocks_written kept_in_turn take_kept by_part loaded_as all_tried has_shape after_changes changed put_header is_certified front_after root_of sha256 first_words schedule rounds compress hash_after digest_bytes
first-kept = refl

pub second-quiet : second.outs ≡ []
unfolding take_part take_ask has_right_shape record_fits ascends_from blocks_written kept_in_turn take_kept by_part by_ask loaded_as all_tried has_shape after_changes changed put_header is_certified front_after root_of sha256 first_words schedule rounds compress hash_after digest_bytes
second-quiet = refl

-- both parts are stored and voted for, and then the ask is answered
pub third-both : third.changes ≡ AddsPart (part 1) ∷ AddsPart (part 2) ∷ []
unfolding take_part take_ask with_ask has_right_shape record_fits ascends_from blocks_written kept_in_turn take_kept by_part by_ask loaded_as all_tried has_shape after_changes changed put_header is_certified front_after path_from root_of sha256 first_words schedule rounds compress hash_after digest_bytes
third-both = refl

pub third-votes : third.outs ≡ votes_for small (part 1) ++ votes_for small (part 2) ++ answer_of 2 ∷ []
unfolding take_part take_ask with_ask has_right_shape record_fits ascends_from blocks_written kept_in_turn take_kept by_part by_ask loaded_as all_tried has_shape after_changes changed put_header is_certified front_after path_from root_of sha256 first_words schedule rounds compress hash_after digest_bytes
third-votes = refl

-- batch 1 is claimed
pub fourth-claims : fourth.outs ≡ claims_of small 1 1
unfolding take_part take_ask with_ask has_right_shape record_fits ascends_from blocks_written kept_in_turn take_kept by_part by_ask by_vote loaded_as all_tried has_shape after_changes changed put_header is_certified front_after path_from root_of sha256 first_words schedule rounds compress hash_after digest_bytes
fourth-claims = refl

-- ---- a file that no node wrote

-- two bases of session 1, of which the first is too short, and two parts in the wrong order
abbrev odd : Held
odd = record { session = 1; bases = record { rec = (base 1 5 5).rec; blocks = [] } ∷ base 1 0 0 ∷ []; parts = part 2 ∷ part 1 ∷ [] }

pub record Loaded : Type 0 where
  pub number : ℕ
  pub front : ℕ
  pub parts : List Record
  pub whole : Bool
  pub begun : Option ℕ

abbrev pub loaded : Memory → Loaded
loaded m = record { number = m.replica.view.number; front = m.leader.front; parts = m.parts; whole = m.whole; begun = m.begun }

pub odd-loaded : option_map loaded (loaded_as small 0 odd).memory ≡ Some (record { number = 1; front = 0; parts = part 1 ∷ []; whole = false; begun = Some 0 })
unfolding has_right_shape record_fits ascends_from blocks_written loaded_as all_tried has_shape put_header root_of sha256 first_words schedule rounds compress hash_after digest_bytes
odd-loaded = refl
