use Rattle.disk_lane.proofs.Knowing.{len_lane}
use Rattle.disk_lane.proofs.lane.LaneDisk.known_len.Goals as goal

pub returns-in-Some : goal.returns-in-Some
returns-in-Some g c = len_lane c.args.self.now.lane c.count_of.result c.in-Some.end (g.D.Disk.history c.args.self.now.disk) c.count_of.ensures c.in-Some.ensures
