use Rattle.std.proofs.Common.{◌≡◌, ◌≢◌, ◌≤◌, ℕ, List, length, take, drop, sym, ◌∙◌, ap, subst, arith, rules}
use Rattle.disk_model.specs.Disk.{Moment, History, Now, clean}
use Rattle.disk_lane.specs.Heads.{file_mark}
use Rattle.disk_lane.proofs.Reading.{rested, head_read, other_read}
use Rattle.disk_lane.proofs.marking.read_live.Goals as goal

pub returns-then-ne-clause-unmarked : goal.returns-then-ne-clause-unmarked
returns-then-ne-clause-unmarked g c = λ none.
    let h1 = g.D.Disk.history c.sync.new.self in
    let h = g.D.Disk.history c.read.new.self in
    let same = c.read.ensures.same ∙ c.len.ensures.same in
    let long = subst (λ (x : History). Now x (λ m. c.in-Ok-len.len ≡ length m.seen)) (sym same) c.in-Ok-len.ensures.len in
    let reads = subst (λ (x : History). Now x (λ m. c.read.new.out ≡ take 16 (drop 0 m.seen))) (sym c.read.ensures.same) c.in-Ok-read.ensures.bytes in
    let differs : take 8 c.read.new.out ≢ file_mark = search rules in
    other_read h c.read.new.out c.in-Ok-len.len long (omega arith) reads differs

pub returns-clause-live : goal.returns-clause-live
returns-clause-live g c =
    let h1 = g.D.Disk.history c.sync.new.self in
    let h = g.D.Disk.history c.read.new.self in
    let same = c.read.ensures.same ∙ c.len.ensures.same in
    let rests = subst (λ (x : History). Now x (λ m. m ≡ clean m.seen)) (sym same) (rested (g.D.Disk.history c.args.disk.now) h1 c.sync.ensures.moments.untold c.in-Ok.ensures.synced) in
    let long = subst (λ (x : History). Now x (λ m. c.in-Ok-len.len ≡ length m.seen)) (sym same) c.in-Ok-len.ensures.len in
    let reads = subst (λ (x : History). Now x (λ m. c.read.new.out ≡ take 16 (drop 0 m.seen))) (sym c.read.ensures.same) c.in-Ok-read.ensures.bytes in
    let marked : take 8 c.read.new.out ≡ file_mark = search rules in
    head_read h c.read.new.out c.in-Ok-len.len c.lane_named.result rests long (omega arith) reads marked c.lane_named.ensures
