use Rattle.std.proofs.Common.{arith}
use Rattle.std.proofs.lemmas.Nat.{pow_pos}
use Rattle.std.proofs.lemmas.Option.{MatchOption-at_some, MatchOption-at_none}
use Rattle.restart_pool.proofs.Gathered.{roots-count, found-sound, found-exact, none-exact}
use Rattle.restart_pool.proofs.pool.Pool.recovered.Goals as goal

pub with_top-requires : goal.with_top-requires
with_top-requires c =
    let whole = MatchOption-at_some _ _ c.in-Some.contents c.in-Some.is c.in_ok-contents.ensures in
    let count = roots-count c.args.self.now c.args.header.now.session c.as_slice.result.now c.in-Some.contents whole in
    let some = pow_pos c.args.self.now.shape.regions_log in
    omega (arith, count, some)

pub returns-in-Some-clause-sound : goal.returns-in-Some-clause-sound
returns-in-Some-clause-sound c =
    let whole = MatchOption-at_some _ _ c.in-Some.contents c.in-Some.is c.in_ok-contents.ensures in
    let count = roots-count c.args.self.now c.args.header.now.session c.as_slice.result.now c.in-Some.contents whole in
    found-sound c.args.self.now c.args.header.now c.in-Some.contents c.as_slice.result.now c.as_slice.ensures whole c.with_top.result
    (c.with_top.ensures c.args.self.now.shape.regions_log count)

pub returns-in-Some-clause-exact : goal.returns-in-Some-clause-exact
returns-in-Some-clause-exact c = λ single none.
    let whole = MatchOption-at_some _ _ c.in-Some.contents c.in-Some.is c.in_ok-contents.ensures in
    let count = roots-count c.args.self.now c.args.header.now.session c.as_slice.result.now c.in-Some.contents whole in
    found-exact c.args.self.now c.args.header.now c.in-Some.contents c.as_slice.result.now c.as_slice.ensures whole c.with_top.result c.is_sound.ensures single none
    (c.with_top.ensures c.args.self.now.shape.regions_log count)

pub returns-in-None-clause-exact : goal.returns-in-None-clause-exact
returns-in-None-clause-exact c = λ single none.
    none-exact c.args.self.now c.args.header.now c.as_slice.result.now c.as_slice.ensures (MatchOption-at_none _ _ c.in-None.is c.in_ok-contents.ensures)
