use Rattle.std.proofs.Common.{◌≡◌, ◌+◌, ◌-◌, ◌≤◌, ◌<◌, ◌^◌, [], length, take, drop, ℕ, List, get_or, IsTrue}
use Rattle.disk_model.specs.Disk.{Now, Goes, IsWriting}
use Rattle.disk_lane.specs.Lanes.{place, count, page_rest, lane_history, lane_bytes}
use Rattle.disk_lane.specs.Wrote.{Wrote}
use Rattle.disk_lane.specs.Beside.{IsBeside}
use Rattle.disk_lane.proofs.pages.write_pages.Given as goal

abbrev pub invariant-pages : goal.invariant-pages
invariant-pages g l =
    let old = lane_history l.lane (g.D.Disk.history l.fn.disk) in
    let now = lane_history l.lane (g.D.Disk.history l.disk) in
    record {
      inside : l.done ≤ length l.bytes;
      end : Now (g.D.Disk.history l.disk) (λ m. l.reached ≡ length m.seen);
      wrote : Wrote l.at (take l.done l.bytes) old now;
      beside : Goes (IsBeside l.lane) (g.D.Disk.history l.fn.disk) (g.D.Disk.history l.disk);
      kept : g.D.Disk.faults l.disk ≡ g.D.Disk.faults l.fn.disk;
      sure : IsTrue (g.D.Disk.is_sure l.fn.disk) → IsTrue (g.D.Disk.is_sure l.disk);
    }

abbrev pub decreases-pages : goal.decreases-pages
decreases-pages g l = length l.bytes - l.done
