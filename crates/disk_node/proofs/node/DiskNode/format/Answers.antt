use Rattle.std.proofs.Common.{◌≡◌, ◌∙◌, [], ◌∷◌, ap}
use Rattle.salus_types.specs.declared.records.Base.{Base}
use Rattle.disk_model.specs.Disk.{History}
use Rattle.disk_model.proofs.Passing.{now_map}
use Rattle.schedule_text.specs.declared.schedule.Volume.{Volume}
use Rattle.datanode_store.specs.Causes.{IsOutside}
use Rattle.run_rules.specs.Running.{formatted}
use Rattle.disk_node.specs.Opened.{opened_with}
use Rattle.disk_node.specs.Fitting.{moments_in, held_in}
use Rattle.disk_node.proofs.Formatted.{told_back, one_of, one_refused, read_one}
use Rattle.disk_node.proofs.Uniform.{opened_first}
use Rattle.disk_node.proofs.node.DiskNode.format.Goals as goal

pub returns-in-Ok-load-clause-formatted : goal.returns-in-Ok-load-clause-formatted
returns-in-Ok-load-clause-formatted g c =
    let e = c.in-Ok-load.ensures in
    let node = c.in-Ok-load.node in
    let one = opened_with c.in-Ok.base in
    let volume : Volume = record { geometry = c.args.geometry; key = c.args.key.now } in
    let before : History = g.D.Disk.history c.in-Ok-prepare.disk in
    let means = c.in-Ok-prepare.ensures.means in
    let is : one ≡ formatted volume c.args.name = ap (λ (b : Base). opened_with b) c.in-Ok.ensures.base ∙ opened_first volume c.args.name in
    now_map (λ m. held_in node ≡ one) (λ m. held_in node ≡ formatted volume c.args.name) (λ m same. same ∙ is) (moments_in node)
    (told_back before (moments_in node) (held_in node ≡ one) (e.any_moment (one ∷ []) (one_of before one means)).untold
    (read_one before (held_in node) one (g.met.D.Disk.reads_image c.in-Ok-prepare.disk) means e.holds))

pub returns-in-Ok-prepare-clause-only : goal.returns-in-Ok-prepare-clause-only
returns-in-Ok-prepare-clause-only g c =
    let e = c.in-Err-load.ensures in
    let one = opened_with c.in-Ok.base in
    let before : History = g.D.Disk.history c.in-Ok-prepare.disk in
    let means = c.in-Ok-prepare.ensures.means in
    told_back before (g.D.Disk.history c.in-Err-load.refused.disk) (IsOutside c.in-Err-load.refused.error) (e.any_moment (one ∷ []) (one_of before one means)).untold
    (one_refused before c.in-Err-load.refused.error one (g.met.D.Disk.reads_image c.in-Ok-prepare.disk) means e.written)
