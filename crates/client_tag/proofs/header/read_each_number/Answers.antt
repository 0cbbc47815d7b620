use Rattle.std.proofs.lemmas.Result.{err_from_is_err_and}
use Rattle.salus_codec.specs.declared.errors.FieldError.TheVariants as error
use Rattle.salus_codec.specs.Reading.{u64_at}
use Rattle.salus_codec.specs.Formats.{times}
use Rattle.salus_codec.proofs.Stepwise.{goes_on, ends, is_done, hands_on}
use Rattle.client_tag.proofs.header.read_each_number.Goals as goal

pub returns-in_err-number : goal.returns-in_err-number
returns-in_err-number c =
    let p = err_from_is_err_and c.from_residual.result c.from_residual.ensures.1 in
    hands_on _ _ _ _ _ p.1 p.2 (ends u64_at error.Short c.each.numbers c.args.count c.each.counter c.each.fields (times u64_at c.args.count c.args.fields.now) c.each-test.true c.in_err-number.ensures.reading c.each.invariant)

pub each-preserved : goal.each-preserved
each-preserved c =
    rw c.in_ok-push.ensures.ok (goes_on u64_at c.each.numbers c.args.count c.each.counter c.each.fields c.in_ok-number.number c.u64.new.self (times u64_at c.args.count c.args.fields.now) c.each-test.true c.in_ok-number.ensures.reading c.each.invariant)

pub returns : goal.returns
returns c = is_done u64_at c.each.numbers c.args.count c.each.counter c.each.fields (times u64_at c.args.count c.args.fields.now) c.each-test.false c.each.invariant
