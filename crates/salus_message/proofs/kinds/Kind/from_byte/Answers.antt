use Rattle.std.proofs.Common.{◌∙◌}
use Rattle.salus_message.proofs.MessageLaws.{kind_at_is}
use Rattle.salus_message.proofs.kinds.Kind.from_byte.Goals as goal

pub returns : goal.returns
returns c = c.nth_kind.ensures ∙ kind_at_is c.args.byte c.if-byte-eq0.false
