use Rattle.std.proofs.Common.{◌≡◌, length, sym, subst, ap, ◌∙◌, arith}
use Rattle.client_window.specs.Parting.{topped}
use Rattle.client_window.proofs.Stepped.{changed_more}
use Rattle.client_window.proofs.parts.put_top.Goals as goal

pub parts-preserved : goal.parts-preserved
parts-preserved c = changed_more (topped c.args.top) c.args.parts.now c.parts.parts c.parts.part-index c.part-item.result c.parts.invariant (omega (arith, c.parts.auto.parts, c.parts-test.true))
