use Rattle.std.proofs.Common.{◌∙◌, sym, rules}
use Rattle.schedule_text.proofs.Batched.{writes-odd, writes-step}
use Rattle.schedule_text.proofs.batch.writes_of.Goals as goal

pub loop-rest-preserved : goal.loop-rest-preserved
loop-rest-preserved c = writes-step _ _ _ _ _ _ c.in-len2-up.len_at_least c.in_ok-pair_of.ensures c.in_ok-push.ensures.ok ∙ c.loop-rest.invariant

pub returns-else-is_empty : goal.returns-else-is_empty
returns-else-is_empty c = sym c.loop-rest.invariant ∙ writes-odd _ _ _ c.in_default.len_below (search rules)
