use Rattle.std.proofs.Common.{◌∙◌, ◌∷◌, ◌++◌, [], List, Some, take, sym, ap, append_assoc}
use Rattle.salus_types.specs.declared.records.Base.{Base}
use Rattle.datanode_checkpoint.proofs.Lists.{take_next}
use Rattle.datanode_checkpoint.proofs.spelling.push_bases.Goals as goal

pub bases-preserved : goal.bases-preserved
bases-preserved c = λ held known.
    let all = c.args.bases.now in
    let i = c.bases.base-index in
    let item = c.base-item.result in
    let so_far = record held { bases = held.bases ++ take i all } in
    c.in-Ok.ensures so_far (c.bases.invariant held known)
    ∙ ap (λ (l : List Base). Some (record held { bases = l })) (append_assoc held.bases (take i all) (item ∷ []) ∙ ap (λ (l : List Base). held.bases ++ l) (sym (take_next all i item c.bases-test.true c.base-item.is)))
