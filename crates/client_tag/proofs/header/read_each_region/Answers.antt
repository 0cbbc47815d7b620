use Rattle.std.proofs.lemmas.Result.{err_from_is_err_and}
use Rattle.salus_codec.specs.declared.errors.FieldError.TheVariants as error
use Rattle.salus_codec.specs.Reading.{u16_at}
use Rattle.salus_codec.specs.Formats.{times}
use Rattle.salus_codec.proofs.Stepwise.{goes_on, ends, is_done, hands_on}
use Rattle.client_tag.proofs.header.read_each_region.Goals as goal

pub returns-in_err-region : goal.returns-in_err-region
returns-in_err-region c =
    let p = err_from_is_err_and c.from_residual.result c.from_residual.ensures.1 in
    hands_on _ _ _ _ _ p.1 p.2 (ends u16_at error.Short c.each.regions c.args.count c.each.counter c.each.fields (times u16_at c.args.count c.args.fields.now) c.each-test.true c.in_err-region.ensures.reading c.each.invariant)

pub each-preserved : goal.each-preserved
each-preserved c =
    rw c.in_ok-push.ensures.ok (goes_on u16_at c.each.regions c.args.count c.each.counter c.each.fields c.in_ok-region.region c.u16.new.self (times u16_at c.args.count c.args.fields.now) c.each-test.true c.in_ok-region.ensures.reading c.each.invariant)

pub returns : goal.returns
returns c = is_done u16_at c.each.regions c.args.count c.each.counter c.each.fields (times u16_at c.args.count c.args.fields.now) c.each-test.false c.each.invariant
