use Rattle.std.proofs.lemmas.Result.{err_from_is_err_and}
use Rattle.salus_codec.specs.Formats.{times}
use Rattle.salus_codec.proofs.Stepwise.{goes_on, ends, is_done, hands_on}
use Rattle.client_tag.specs.Reading.{base_at}
use Rattle.salus_message.proofs.carried.read_each_base.Goals as goal

pub returns-in_err-base : goal.returns-in_err-base
returns-in_err-base c =
    let p = err_from_is_err_and c.from_residual.result c.from_residual.ensures.1 in
    hands_on _ _ _ _ _ p.1 p.2 (ends base_at c.in_err-base.field-0.0 c.each.bases c.args.count c.each.counter c.each.fields (times base_at c.args.count c.args.fields.now) c.each-test.true c.in_err-base.ensures c.each.invariant)

pub each-preserved : goal.each-preserved
each-preserved c =
    rw c.in_ok-push.ensures.ok (goes_on base_at c.each.bases c.args.count c.each.counter c.each.fields c.in_ok-base.base c.read_base.new.fields (times base_at c.args.count c.args.fields.now) c.each-test.true c.in_ok-base.ensures c.each.invariant)

pub returns : goal.returns
returns c = is_done base_at c.each.bases c.args.count c.each.counter c.each.fields (times base_at c.args.count c.args.fields.now) c.each-test.false c.each.invariant
