use Rattle.std.proofs.Common.{◌∙◌, ◌∷◌, ◌++◌, [], List, Some, take, sym, ap, append_assoc}
use Rattle.salus_types.specs.declared.records.Record.{Record}
use Rattle.datanode_checkpoint.proofs.Lists.{take_next}
use Rattle.datanode_checkpoint.proofs.spelling.push_parts.Goals as goal

pub parts-preserved : goal.parts-preserved
parts-preserved c = λ held known.
    let all = c.args.parts.now in
    let i = c.parts.rec-index in
    let item = c.rec-item.result in
    let so_far = record held { parts = held.parts ++ take i all } in
    c.in-Ok.ensures so_far (c.parts.invariant held known)
    ∙ ap (λ (l : List Record). Some (record held { parts = l })) (append_assoc held.parts (take i all) (item ∷ []) ∙ ap (λ (l : List Record). held.parts ++ l) (sym (take_next all i item c.parts-test.true c.rec-item.is)))
