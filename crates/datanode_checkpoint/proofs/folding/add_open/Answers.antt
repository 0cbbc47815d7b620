use Rattle.std.proofs.Common.{◌≡◌, ◌∙◌, ◌∷◌, ◌++◌, if◌then◌else◌, [], List, filter, sym, ap, arith, eq-eqb}
use Rattle.std.proofs.lemmas.Bool.{cond-true}
use Rattle.salus_types.specs.Volume.{Shape}
use Rattle.salus_types.specs.declared.records.Base.{Base}
use Rattle.holding_model.specs.Changing.{is_folded, is_open_base, base_after_all}
use Rattle.datanode_checkpoint.proofs.Living.{on_ok}
use Rattle.datanode_checkpoint.proofs.folding.add_open.Goals as goal

pub returns-in-Ok : goal.returns-in-Ok
returns-in-Ok c =
    let held = c.args.held.now in
    let base = c.args.base.now in
    let before = c.args.bases.now in
    let after = c.push.new.self in
    let same : base.rec.header.session ≡ held.session = omega (arith, c.if-base-held.false) in
    let folded = λ (shape : Shape). base_after_all shape base (filter (λ rec. is_folded held c.args.seq rec) held.parts) in
    on_ok c.push.result (after ≡ before ++ c.in-Ok.folded ∷ []) ((shape : Shape) → after ≡ before ++ (if is_open_base held base then folded shape ∷ [] else []))
    (λ pushed. λ shape. pushed ∙ ap (λ (b : Base). before ++ b ∷ []) (c.in-Ok.ensures shape) ∙ ap (λ (l : List Base). before ++ l) (sym (cond-true (is_open_base held base) (folded shape ∷ []) [] (eq-eqb base.rec.header.session held.session same))))
    c.push.ensures.ok
