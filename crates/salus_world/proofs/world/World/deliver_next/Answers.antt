use Rattle.std.proofs.Common.{◌≤◌, ◌<◌, ◌+◌, length, refl, rules}
use Rattle.salus_world.specs.declared.world.World.{World}
use Rattle.salus_world.proofs.Finishing.{lowered_kept, next_delivered, none_left}
use Rattle.salus_world.proofs.Acting.{index_posted, from_lower}
use Rattle.run_rules.specs.Knowing.{input_of_post}
use Rattle.salus_world.proofs.world.World.deliver_next.Goals as goal

pub deliver_at-requires-clause-kept : goal.deliver_at-requires-clause-kept
deliver_at-requires-clause-kept g c =
    let k = c.requires.kept in
    (k.0, k.1, k.2, k.3, k.4, k.5, lowered_kept k.0 k.1 k.2 k.3 k.4 c.args.self.now _ k.5 k.6 refl refl refl refl refl c.pass_marked-index.ensures.passed)

pub returns-then-index-len-clause-delivers : goal.returns-then-index-len-clause-delivers
returns-then-index-len-clause-delivers g c = λ origin volume all b n course kept.
    let now = c.args.self.now in
    let mid : World _ _ _ = record { geometry = now.geometry; client = now.client; nodes = now.nodes; sent = now.sent; lowest = c.pass_marked-index.result; lines = now.lines } in
    let far : length now.sent.items ≤ c.pass_marked-index.result = search rules in
    none_left origin volume all b n now mid course kept refl refl refl refl refl c.pass_marked-index.ensures.passed far

pub returns-clause-delivers : goal.returns-clause-delivers
returns-clause-delivers g c = λ origin volume all b n course kept.
    let now = c.args.self.now in
    let mid : World _ _ _ = record { geometry = now.geometry; client = now.client; nodes = now.nodes; sent = now.sent; lowest = c.pass_marked-index.result; lines = now.lines } in
    let inside : c.pass_marked-index.result < length now.sent.items = search rules in
    next_delivered origin volume all b n now mid course kept refl refl refl refl refl c.pass_marked-index.ensures.passed c.deliver_at.new.self _ refl inside (c.pass_marked-index.ensures.waits inside) c.in_ok-deliver_at.ensures.steps

pub returns-clause-moments : goal.returns-clause-moments
returns-clause-moments g c = λ m at.
    let now = c.args.self.now in
    let mid : World _ _ _ = record { geometry = now.geometry; client = now.client; nodes = now.nodes; sent = now.sent; lowest = c.pass_marked-index.result; lines = now.lines } in
    from_lower m.to (input_of_post m) now mid c.deliver_at.new.self refl refl (c.in_ok-deliver_at.ensures.moments m (index_posted now.sent.items c.pass_marked-index.result m (search rules) at))
