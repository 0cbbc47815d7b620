use Rattle.std.proofs.Common.{◌≡◌, ◌+◌, ◌-◌, ◌≤◌, ◌<◌, ◌^◌, [], length, take, drop, ℕ, List, refl, sym, ◌∙◌, ap, subst, arith, Err}
use Rattle.disk_model.specs.Disk.{Now, Goes, IsWriting, History, Moment, written}
use Rattle.disk_model.specs.declared.disk.DiskFault.TheVariants.{NoMemory}
use Rattle.disk_lane.specs.Lanes.{place, count, page_rest, lane_history}
use Rattle.disk_lane.specs.Wrote.{Wrote}
use Rattle.disk_lane.specs.Places.{place_fits, place_below, page_rest_short, page_rest_some}
use Rattle.disk_lane.proofs.Filling.{reach_nothing}
use Rattle.disk_lane.specs.Beside.{IsBeside}
use Rattle.disk_lane.proofs.Keeping.{beside_none, beside_more}
use Rattle.disk_lane.proofs.Rounds.{piece_long, next_there, wrote_next, goes_next, part_long, read_next, read_there, read_whole}
use Rattle.disk_lane.proofs.pages.write_pages.Goals as goal

pub pages-init : goal.pages-init
pages-init g c = record {
  inside = omega arith;
  end = c.requires.end;
  wrote = reach_nothing c.args.lane c.args.at (g.D.Disk.history c.args.disk.now) c.requires.there;
  beside = beside_none c.args.lane (g.D.Disk.history c.args.disk.now);
  kept = refl;
  sure = λ sure. sure;
}

pub write_page-requires-clause-there : goal.write_page-requires-clause-there
write_page-requires-clause-there g c = next_there c.args.lane c.args.at c.pages.done c.args.bytes.now (lane_history c.args.lane (g.D.Disk.history c.args.disk.now)) (g.D.Disk.history c.pages.disk) c.pages.invariant.inside c.pages.invariant.wrote

pub write_page-requires-clause-some : goal.write_page-requires-clause-some
write_page-requires-clause-some g c = omega (arith, piece_long c.pages.done c.min-size.result c.args.bytes.now (omega arith), page_rest_some (c.args.at + c.pages.done))

pub returns-in-Err-clause-moments : goal.returns-in-Err-clause-moments
returns-in-Err-clause-moments g c =
    let long = piece_long c.pages.done c.min-size.result c.args.bytes.now (omega arith) in
    goes_next c.args.at c.pages.done _ (length c.args.bytes.now) c.args.bytes.now (lane_history c.args.lane (g.D.Disk.history c.args.disk.now)) (lane_history c.args.lane (g.D.Disk.history c.pages.disk)) (lane_history c.args.lane (g.D.Disk.history c.write_page.new.disk)) (omega (arith, long)) c.pages.invariant.inside c.pages.invariant.wrote.went c.write_page.ensures.moments

pub returns-in-Err-clause-memory : goal.returns-in-Err-clause-memory
returns-in-Err-clause-memory g c = λ none.
    let long = piece_long c.pages.done c.min-size.result c.args.bytes.now (omega arith) in
    goes_next c.args.at c.pages.done _ (length c.args.bytes.now - 1) c.args.bytes.now (lane_history c.args.lane (g.D.Disk.history c.args.disk.now)) (lane_history c.args.lane (g.D.Disk.history c.pages.disk)) (lane_history c.args.lane (g.D.Disk.history c.write_page.new.disk)) (omega (arith, long, page_rest_some (c.args.at + c.pages.done))) c.pages.invariant.inside c.pages.invariant.wrote.went (c.in-Err.ensures.memory none)

pub pages-smaller : goal.pages-smaller
pages-smaller g c = omega (arith, page_rest_some (c.args.at + c.pages.done))

pub pages-preserved : goal.pages-preserved
pages-preserved g c = record {
  inside = omega arith;
  end = c.in-Ok.ensures.end;
  wrote = wrote_next c.args.at c.pages.done c.min-size.result c.args.bytes.now (lane_history c.args.lane (g.D.Disk.history c.args.disk.now)) (lane_history c.args.lane (g.D.Disk.history c.pages.disk)) (lane_history c.args.lane (g.D.Disk.history c.write_page.new.disk)) (omega arith) c.pages.invariant.wrote c.in-Ok.ensures.wrote;
  beside = beside_more c.args.lane (g.D.Disk.history c.args.disk.now) (g.D.Disk.history c.pages.disk) (g.D.Disk.history c.write_page.new.disk) c.pages.invariant.beside c.in-Ok.ensures.beside;
  kept = c.in-Ok.ensures.cause.kept ∙ c.pages.invariant.kept;
  sure = λ sure. (c.in-Ok.ensures.sure (c.pages.invariant.sure sure)).0;
}

pub returns-in-Err-clause-beside : goal.returns-in-Err-clause-beside
returns-in-Err-clause-beside g c = beside_more c.args.lane (g.D.Disk.history c.args.disk.now) (g.D.Disk.history c.pages.disk) (g.D.Disk.history c.write_page.new.disk) c.pages.invariant.beside c.write_page.ensures.beside
