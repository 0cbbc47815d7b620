use Rattle.std.proofs.Common.{◌≡◌, ◌∙◌, length, take, sym, subst, arith}
use Rattle.std.specs.Prelude.{All}
use Rattle.std.proofs.lemmas.List.{take_all}
use Rattle.std.proofs.lemmas.List.Elements.{All-more}
use Rattle.client_window.specs.Window.{IsWriteOf}
use Rattle.client_tests.proofs.windows.are_in.Goals as goal

pub writes-preserved : goal.writes-preserved
writes-preserved c =
    All-more (IsWriteOf c.args.geometry.now) c.args.writes.now c.writes.write-index c.write-item.result c.writes-test.true c.writes.invariant
    (subst (IsWriteOf c.args.geometry.now) c.write-item.is
    (record { within = c.is_in.ensures.within c.if-not-is_in.false; long = c.is_in.ensures.long c.if-not-is_in.false }))

pub returns : goal.returns
returns c = λ yes. subst (All (IsWriteOf c.args.geometry.now)) (take_all c.writes.write-index c.args.writes.now c.writes-test.false) c.writes.invariant
