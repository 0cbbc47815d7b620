use Rattle.std.proofs.lemmas.Result.{err_from_is_err_and}
use Rattle.salus_codec.specs.Reading.{bytes_at}
use Rattle.salus_codec.specs.Formats.{times}
use Rattle.salus_codec.proofs.Stepwise.{goes_on, ends, is_done, hands_on}
use Rattle.client_tag.proofs.base.read_each_block.Goals as goal

pub returns-in_err-block : goal.returns-in_err-block
returns-in_err-block c =
    let p = err_from_is_err_and c.from_residual.result c.from_residual.ensures.1 in
    hands_on _ _ _ _ _ p.1 p.2 (ends (bytes_at c.args.size) c.in_err-block.field-0.0 c.each.blocks c.args.count c.each.counter c.each.fields (times (bytes_at c.args.size) c.args.count c.args.fields.now) c.each-test.true c.in_err-block.ensures c.each.invariant)

pub each-preserved : goal.each-preserved
each-preserved c =
    rw c.in_ok-push.ensures.ok (goes_on (bytes_at c.args.size) c.each.blocks c.args.count c.each.counter c.each.fields c.in_ok-block.block c.read_bytes.new.fields (times (bytes_at c.args.size) c.args.count c.args.fields.now) c.each-test.true c.in_ok-block.ensures c.each.invariant)

pub returns : goal.returns
returns c = is_done (bytes_at c.args.size) c.each.blocks c.args.count c.each.counter c.each.fields (times (bytes_at c.args.size) c.args.count c.args.fields.now) c.each-test.false c.each.invariant
