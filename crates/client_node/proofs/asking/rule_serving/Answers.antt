use Rattle.std.proofs.Common.{refl, sym, subst}
use Rattle.salus_types.specs.Volume.{Shape}
use Rattle.session_opening.specs.Fetched.{IsServed}
use Rattle.client_node.proofs.Away.{is_left, not_left}
use Rattle.client_node.proofs.asking.rule_serving.Goals as goal

pub returns-in-Some-clause-rule : goal.returns-in-Some-clause-rule
returns-in-Some-clause-rule c = λ volume s event stands. not_left volume s event c.args.session c.args.region c.in-Some.cause (sym (c.in-Some.ensures.told volume s stands))

pub returns-clause-rule : goal.returns-clause-rule
returns-clause-rule c = λ volume s event stands. record {
  serving = s;
  client = refl;
  served_is = subst (λ (shape : Shape). IsServed shape c.in_ok-served_by-in-None.field-0 s) (sym stands.volume_is.geometry) (c.in_ok-served_by-in-None.ensures.stands volume s stands);
  told = is_left volume s event c.args.session c.args.region (sym (c.in-None.ensures.told volume s stands));
}
