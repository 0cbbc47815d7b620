use Rattle.std.proofs.Common.{rules, ◌≡◌, ◌+◌, ◌-◌, ◌≤◌, ◌<◌, ◌^◌, [], length, take, drop, ℕ, List, refl, sym, ◌∙◌, ap, subst, arith, Err}
use Rattle.disk_model.specs.Disk.{Now, Goes, IsWriting, History, Moment, written}
use Rattle.disk_lane.specs.Lanes.{place, count, page_rest, lane_history}
use Rattle.disk_lane.specs.Wrote.{Wrote}
use Rattle.disk_lane.specs.Places.{place_fits, page_rest_short}
use Rattle.disk_lane.proofs.Keeping.{fill_beside}
use Rattle.disk_lane.proofs.Filling.{now_after, end_written, lane_there, reach_nothing, fill_moments, fill_wrote, page_moments, page_wrote, wrote_after, goes_after, goes_only}
use Rattle.disk_model.proofs.Passing.{goes_none}
use Rattle.disk_lane.proofs.pages.reach.Goals as goal

pub place_of-begin-requires-clause-fits : goal.place_of-begin-requires-clause-fits
place_of-begin-requires-clause-fits g c = omega (arith, place_fits c.args.lane c.args.at c.requires.lane c.requires.low)

pub returns-then-begin-end-clause-wrote : goal.returns-then-begin-end-clause-wrote
returns-then-begin-end-clause-wrote g c = reach_nothing c.args.lane c.args.at (g.D.Disk.history c.args.disk.now) c.requires.there

pub returns-in-Ok-write_at-clause-wrote : goal.returns-in-Ok-write_at-clause-wrote
returns-in-Ok-write_at-clause-wrote g c =
    let zeros = c.as_slice.result.now in
    let short : c.args.end < place c.args.lane c.args.at = omega arith in
    let up : c.args.end + length zeros ≡ place c.args.lane c.args.at = omega (arith, c.in-Ok.ensures.len, c.as_slice.ensures.len) in
    fill_wrote c.args.lane c.args.at c.args.end zeros (g.D.Disk.history c.args.disk.now) (g.D.Disk.history c.write_at.new.self) c.requires.end c.requires.there short up c.in-Ok-write_at.ensures.moments c.in-Ok-write_at.ensures.written

pub returns-in-Ok-write_at-clause-moments : goal.returns-in-Ok-write_at-clause-moments
returns-in-Ok-write_at-clause-moments g c =
    let zeros = c.as_slice.result.now in
    let short : c.args.end < place c.args.lane c.args.at = omega arith in
    let up : c.args.end + length zeros ≡ place c.args.lane c.args.at = omega (arith, c.in-Ok.ensures.len, c.as_slice.ensures.len) in
    fill_moments c.args.lane c.args.at c.args.end (length zeros) (g.D.Disk.history c.args.disk.now) (g.D.Disk.history c.write_at.new.self) c.requires.end c.requires.there short up c.in-Ok-write_at.ensures.moments

pub returns-clause-moments : goal.returns-clause-moments
returns-clause-moments g c =
    let zeros = c.as_slice.result.now in
    let short : c.args.end < place c.args.lane c.args.at = omega arith in
    let up : c.args.end + length zeros ≡ place c.args.lane c.args.at = omega (arith, c.in-Ok.ensures.len, c.as_slice.ensures.len) in
    fill_moments c.args.lane c.args.at c.args.end (length zeros) (g.D.Disk.history c.args.disk.now) (g.D.Disk.history c.write_at.new.self) c.requires.end c.requires.there short up c.write_at.ensures.moments

pub returns-in-Ok-write_at-clause-beside : goal.returns-in-Ok-write_at-clause-beside
returns-in-Ok-write_at-clause-beside g c = fill_beside c.args.lane c.args.end _ (g.D.Disk.history c.args.disk.now) (g.D.Disk.history c.write_at.new.self) c.requires.end c.in-Ok-write_at.ensures.moments

pub returns-clause-beside : goal.returns-clause-beside
returns-clause-beside g c = fill_beside c.args.lane c.args.end _ (g.D.Disk.history c.args.disk.now) (g.D.Disk.history c.write_at.new.self) c.requires.end c.write_at.ensures.moments
