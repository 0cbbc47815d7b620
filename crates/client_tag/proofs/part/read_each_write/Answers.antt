use Rattle.std.proofs.lemmas.Result.{err_from_is_err_and}
use Rattle.salus_codec.specs.Formats.{times}
use Rattle.salus_codec.proofs.Stepwise.{goes_on, ends, is_done, hands_on}
use Rattle.client_tag.specs.Reading.{write_at}
use Rattle.client_tag.proofs.part.read_each_write.Goals as goal

pub returns-in_err-write : goal.returns-in_err-write
returns-in_err-write c =
    let p = err_from_is_err_and c.from_residual.result c.from_residual.ensures.1 in
    hands_on _ _ _ _ _ p.1 p.2 (ends write_at c.in_err-write.field-0.0 c.each.writes c.args.count c.each.counter c.each.fields (times write_at c.args.count c.args.fields.now) c.each-test.true c.in_err-write.ensures c.each.invariant)

pub each-preserved : goal.each-preserved
each-preserved c =
    rw c.in_ok-push.ensures.ok (goes_on write_at c.each.writes c.args.count c.each.counter c.each.fields c.in_ok-write.write c.read_write.new.fields (times write_at c.args.count c.args.fields.now) c.each-test.true c.in_ok-write.ensures c.each.invariant)

pub returns : goal.returns
returns c = is_done write_at c.each.writes c.args.count c.each.counter c.each.fields (times write_at c.args.count c.args.fields.now) c.each-test.false c.each.invariant
