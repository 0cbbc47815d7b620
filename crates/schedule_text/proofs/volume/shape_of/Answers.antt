use Rattle.schedule_text.proofs.Shaped.{shape-given, shape-refused}
use Rattle.schedule_text.proofs.volume.shape_of.Goals as goal

pub returns-in-Ok : goal.returns-in-Ok
returns-in-Ok c = shape-given _ _ _ _ _ c.in-Ok.ensures.ok c.in-Ok.ensures.volume

pub returns-in-Err : goal.returns-in-Err
returns-in-Err c =
    let e = c.in-Err.ensures in
    shape-refused _ _ _ _ _ (λ h. e.regions_range.0 h) (λ h. (e.height_range.0 h).1) (λ h. (e.block_range.0 h).2) (λ h. (e.replicas_range.0 h).3) (λ h. (e.volume_large.0 h).4)
