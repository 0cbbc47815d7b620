-- The vote for a part, before it is sent.
use Rattle.std.specs.Prelude.{List, map}
use Rattle.salus_types.specs.Volume.{Shape}
use Rattle.salus_types.specs.declared.names.Sender.TheVariants as sender
use Rattle.salus_types.specs.declared.records.Record.{Record}
use Rattle.salus_types.specs.declared.records.Out.{Out}
use Rattle.salus_message.specs.declared.wire.Message.TheVariants as message
use Rattle.volume_model.specs.Groups.{group_of}
use Rattle.replica_rules.specs.Views.{led_by}
use Rattle.posting.specs.Posting.{out_to}
use Rattle.open_session.specs.declared.ballot.Ballot.{Ballot}

-- to the region that leads the part's batch
abbrev pub ballot_of : Record → Ballot
ballot_of rec = record {
  leader = led_by rec.header;
  vote = record { session = rec.header.session; seq = rec.header.seq; region = rec.header.region; root = rec.header.root };
}

-- the vote to each replica of the leader
abbrev pub ballots : Shape → Ballot → List Out
ballots shape ballot = map (λ name. out_to (sender.Node name) (message.Prepared ballot.vote)) (group_of shape ballot.leader)

abbrev pub ballots_of : Shape → Record → List Out
ballots_of shape rec = ballots shape (ballot_of rec)
