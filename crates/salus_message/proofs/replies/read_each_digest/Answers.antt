use Rattle.std.proofs.Common.{◌≡◌, ℕ, List, Ok, sym, subst}
use Rattle.std.proofs.lemmas.Result.{err_from_is_err_and}
use Rattle.salus_codec.specs.declared.errors.FieldError.TheVariants as error
use Rattle.salus_codec.specs.Formats.{times}
use Rattle.salus_codec.proofs.Stepwise.{goes_on, ends, is_done, hands_on}
use Rattle.salus_codec.specs.Reading.{bytes_at}
use Rattle.salus_message.proofs.replies.read_each_digest.Goals as goal

pub returns-in_err-digest : goal.returns-in_err-digest
returns-in_err-digest c =
    let p = err_from_is_err_and c.from_residual.result c.from_residual.ensures.1 in
    hands_on _ _ _ _ _ p.1 p.2 (ends (bytes_at 32) error.Short c.each.path c.args.count c.each.counter c.each.fields (times (bytes_at 32) c.args.count c.args.fields.now) c.each-test.true c.in_err-digest.ensures.reading c.each.invariant)

pub each-preserved : goal.each-preserved
each-preserved c =
    let h = subst (λ (d : List ℕ). bytes_at 32 c.each.fields ≡ Ok (d, c.array32.new.self)) (sym c.from_bytes.ensures) c.in_ok-digest.ensures.reading in
    rw c.in_ok-push.ensures.ok (goes_on (bytes_at 32) c.each.path c.args.count c.each.counter c.each.fields c.from_bytes.result c.array32.new.self (times (bytes_at 32) c.args.count c.args.fields.now) c.each-test.true h c.each.invariant)

pub returns : goal.returns
returns c = is_done (bytes_at 32) c.each.path c.args.count c.each.counter c.each.fields (times (bytes_at 32) c.args.count c.args.fields.now) c.each-test.false c.each.invariant
