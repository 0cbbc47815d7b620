use Rattle.client_node.proofs.asking.served_by.Goals as goal

pub returns-clause-stands : goal.returns-clause-stands
returns-clause-stands c = λ volume client stands. record {
  session = c.session.ensures.stands volume client stands;
  last = c.submitted.ensures.stands volume client stands;
  roots = c.in_ok-roots.ensures.stands volume client stands;
  long = c.in_ok-roots.ensures.full volume client stands;
}
