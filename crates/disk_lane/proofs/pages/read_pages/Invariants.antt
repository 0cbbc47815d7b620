use Rattle.std.proofs.Common.{◌≡◌, ◌+◌, ◌-◌, ◌≤◌, ◌<◌, ◌^◌, [], length, take, drop, ℕ, List, get_or, IsTrue}
use Rattle.disk_model.specs.Disk.{Now, Goes, IsWriting}
use Rattle.disk_lane.specs.Lanes.{place, count, page_rest, lane_history, lane_bytes}
use Rattle.disk_lane.specs.Wrote.{Wrote}
use Rattle.disk_lane.proofs.pages.read_pages.Given as goal

abbrev pub invariant-pages : goal.invariant-pages
invariant-pages g l = record {
  inside : l.done ≤ length l.out;
  long : length l.out ≡ length l.initial.out;
  bytes : Now (g.D.Disk.history l.fn.disk) (λ m. take l.done l.out ≡ take l.done (drop l.at (lane_bytes l.lane m.seen)));
  same : g.D.Disk.history l.disk ≡ g.D.Disk.history l.fn.disk;
  kept : g.D.Disk.faults l.disk ≡ g.D.Disk.faults l.fn.disk;
  sure : IsTrue (g.D.Disk.is_sure l.fn.disk) → IsTrue (g.D.Disk.is_sure l.disk);
}

abbrev pub decreases-pages : goal.decreases-pages
decreases-pages g l = length l.initial.out - l.done
