use Rattle.std.proofs.Common.{◌≡◌, ◌++◌, map, length}
use Rattle.salus_types.specs.declared.names.Sender.TheVariants as sender
use Rattle.salus_message.specs.declared.wire.Message.TheVariants as message
use Rattle.replica_rules.specs.Replicas.{due_answers, without_due}
use Rattle.posting.specs.Posting.{out_to}
use Rattle.open_session.specs.Kept.{StaysOwn}
use Rattle.open_session.proofs.answers.answer_due.Given as goal

abbrev pub invariant-asks : goal.invariant-asks
invariant-asks l = record {
  stays : StaysOwn l.initial.replica l.replica;
  waiting : without_due l.replica.replica ≡ without_due l.initial.replica.replica;
  sent : l.outs.items ++ map (λ answer. out_to sender.Client (message.Answer answer)) (due_answers l.replica.shape l.replica.replica)
      ≡ l.initial.outs.items ++ map (λ answer. out_to sender.Client (message.Answer answer)) (due_answers l.initial.replica.shape l.initial.replica.replica);
}

abbrev pub decreases-asks : goal.decreases-asks
decreases-asks l = length l.replica.replica.asks
