use Rattle.std.proofs.Common.{◌≤◌, ◌<◌, ◌*◌, ◌^◌, subst}
use Rattle.schedule_text.proofs.Joined.{same_log}
use Rattle.schedule_text.proofs.printing.regions_log.Goals as goal

pub returns : goal.returns
returns c =
    same_log c.ilog2.result c.args.geometry.now.regions_log
    (subst (λ n. 2 ^ c.ilog2.result ≤ n) c.regions.ensures.value c.ilog2.ensures.power_le)
    (subst (λ n. n < 2 * 2 ^ c.ilog2.result) c.regions.ensures.value c.ilog2.ensures.next_power_gt)
