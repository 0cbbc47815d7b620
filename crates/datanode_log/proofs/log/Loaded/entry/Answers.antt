use Rattle.std.proofs.Common.{◌∙◌, ap, Some, sym, List, ℕ, take, drop, length, arith}
use Rattle.datanode_log.proofs.Loads.{whole_count, whole_span}
use Rattle.datanode_log.proofs.log.Loaded.entry.Goals as goal

pub index-requires : goal.index-requires
index-requires g c =
    let loaded = c.args.self.now in
    omega (arith, c.requires, whole_count loaded.bytes.items loaded.log.gate loaded.log.spans.items loaded.whole)

pub piece-requires : goal.piece-requires
piece-requires g c =
    let loaded = c.args.self.now in
    let span = whole_span loaded.bytes.items loaded.log.gate loaded.log.spans.items c.args.i c.index.result.now loaded.whole c.requires c.index.ensures in
    omega (arith, span.inside, ap length c.as_slice.ensures.value)

pub returns : goal.returns
returns g c =
    let loaded = c.args.self.now in
    let span = whole_span loaded.bytes.items loaded.log.gate loaded.log.spans.items c.args.i c.index.result.now loaded.whole c.requires c.index.ensures in
    span.is ∙ ap (λ (l : List ℕ). Some (take c.index.result.now.1 (drop c.index.result.now.0 l))) (sym c.as_slice.ensures.value) ∙ ap Some (sym c.piece.ensures)
