use Rattle.std.proofs.Common.{◌≡◌, ◌∙◌, ◌+◌, ◌*◌, ap, ap₂}
use Rattle.std.proofs.lemmas.Result.{IfOk-weaker}
use Rattle.salus_types.specs.Volume.{region_blocks}
use Rattle.client_window.specs.Written.{writes_between}
use Rattle.client_window.proofs.Left.{writes_are}
use Rattle.client_window.proofs.written.writes_in.Goals as goal

pub returns : goal.returns
returns c =
    let size : c.from-blocks.result ≡ region_blocks c.args.geometry.now = c.from-blocks.ensures ∙ c.region_blocks.ensures.value in
    IfOk-weaker c.writes_between.result (λ writes. writes ≡ writes_between (c.from.result * c.from-blocks.result) (c.from.result * c.from-blocks.result + c.from-blocks.result) c.args.last.now.entries) _
    (λ writes are batch leaves.
    are
    ∙ writes_are c.args.geometry.now batch c.args.last.now.entries c.args.region (c.from.result * c.from-blocks.result) (c.from.result * c.from-blocks.result + c.from-blocks.result)
    (ap₂ (λ a b. a * b) c.from.ensures size) (ap (λ n. c.from.result * c.from-blocks.result + n) size) c.writes_between.ensures.ordered leaves)
    c.writes_between.ensures.writes
