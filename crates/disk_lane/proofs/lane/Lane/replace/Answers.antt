use Rattle.std.proofs.Common.{◌≡◌, ◌-◌, ℕ, List, [], ◌∷◌, refl, sym, ◌∙◌, ap, subst}
use Rattle.disk_model.specs.Disk.{History, Now, clean, written}
use Rattle.disk_lane.proofs.Replacing.{other_holding, sync_holding, head_holding, turning_replacing, none_holding, holding_replacing, holding_more, replacing_more, ready, ready_long, turned_now, turning_untold}
use Rattle.disk_lane.proofs.lane.Lane.replace.Goals as goal

pub returns-in-Err-clause-memory : goal.returns-in-Err-clause-memory
returns-in-Err-clause-memory g c = λ none.
    let was = c.args.self.now in
    other_holding was.lane (g.D.Disk.history was.disk) (g.D.Disk.history c.write_other.new.self.disk) was.is_lane c.requires.head c.write_other.ensures.beside

pub returns-in-Err-clause-moments : goal.returns-in-Err-clause-moments
returns-in-Err-clause-moments g c =
    let was = c.args.self.now in
    let h0 = g.D.Disk.history was.disk in
    let h1 = g.D.Disk.history c.write_other.new.self.disk in
    holding_replacing was.lane c.args.bytes.now h0 h1 (other_holding was.lane h0 h1 was.is_lane c.requires.head c.write_other.ensures.beside)

pub returns-in-Err-sync_file-clause-moments : goal.returns-in-Err-sync_file-clause-moments
returns-in-Err-sync_file-clause-moments g c =
    let was = c.args.self.now in
    let h0 = g.D.Disk.history was.disk in
    let h1 = g.D.Disk.history c.write_other.new.self.disk in
    let h2 = g.D.Disk.history c.sync_file.new.self.disk in
    let first = other_holding was.lane h0 h1 was.is_lane c.requires.head c.write_other.ensures.beside in
    let head = head_holding was.lane h0 h1 c.requires.head first in
    let second = sync_holding was.lane h1 h2 head (g.met.D.Disk.reads_image c.write_other.new.self.disk) c.sync_file.ensures.moments in
    holding_replacing was.lane c.args.bytes.now h0 h2 (holding_more was.lane h0 h1 h2 first second)

pub turn-requires : goal.turn-requires
turn-requires g c =
    let was = c.args.self.now in
    let h0 = g.D.Disk.history was.disk in
    let h1 = g.D.Disk.history c.write_other.new.self.disk in
    let h2 = g.D.Disk.history c.sync_file.new.self.disk in
    let first = other_holding was.lane h0 h1 was.is_lane c.requires.head c.write_other.ensures.beside in
    let head = head_holding was.lane h0 h1 c.requires.head first in
    ready_long was.lane c.args.bytes.now h2 (ready was.lane c.args.bytes.now h0 h1 h2 c.in-Ok.ensures.wrote head (g.met.D.Disk.reads_image c.write_other.new.self.disk) c.sync_file.ensures.moments.untold c.in-Ok-sync_file.ensures.synced)

pub returns-in-Ok-turn-clause-moments : goal.returns-in-Ok-turn-clause-moments
returns-in-Ok-turn-clause-moments g c =
    let was = c.args.self.now in
    let bytes = c.args.bytes.now in
    let h0 = g.D.Disk.history was.disk in
    let h1 = g.D.Disk.history c.write_other.new.self.disk in
    let h2 = g.D.Disk.history c.sync_file.new.self.disk in
    let h3 = g.D.Disk.history c.turn.new.self.disk in
    let reads = g.met.D.Disk.reads_image c.write_other.new.self.disk in
    let first = other_holding was.lane h0 h1 was.is_lane c.requires.head c.write_other.ensures.beside in
    let head = head_holding was.lane h0 h1 c.requires.head first in
    let second = sync_holding was.lane h1 h2 head reads c.sync_file.ensures.moments in
    let is = ready was.lane bytes h0 h1 h2 c.in-Ok.ensures.wrote head reads c.sync_file.ensures.moments.untold c.in-Ok-sync_file.ensures.synced in
    replacing_more was.lane bytes h0 h2 h3 (holding_more was.lane h0 h1 h2 first second) (turning_replacing was.lane bytes h2 h3 was.is_lane is c.turn.ensures.moments)

pub returns-in-Ok-turn-clause-replaced : goal.returns-in-Ok-turn-clause-replaced
returns-in-Ok-turn-clause-replaced g c =
    let was = c.args.self.now in
    let bytes = c.args.bytes.now in
    let h0 = g.D.Disk.history was.disk in
    let h1 = g.D.Disk.history c.write_other.new.self.disk in
    let h2 = g.D.Disk.history c.sync_file.new.self.disk in
    let h3 = g.D.Disk.history c.turn.new.self.disk in
    let reads = g.met.D.Disk.reads_image c.write_other.new.self.disk in
    let first = other_holding was.lane h0 h1 was.is_lane c.requires.head c.write_other.ensures.beside in
    let head = head_holding was.lane h0 h1 c.requires.head first in
    let is = ready was.lane bytes h0 h1 h2 c.in-Ok.ensures.wrote head reads c.sync_file.ensures.moments.untold c.in-Ok-sync_file.ensures.synced in
    let lane_is = c.sync_file.ensures.lane ∙ c.write_other.ensures.lane in
    let turned = subst (λ (l : ℕ). Now h2 (λ m. Now h3 (λ now. now ≡ clean (written 8 ((1 - l) ∷ []) m.seen)))) lane_is c.in-Ok-turn.ensures.turned in
    turned_now was.lane bytes h2 h3 was.is_lane (turning_untold h2 h3 c.turn.ensures.moments) is turned

pub returns-in-Err-turn-clause-moments : goal.returns-in-Err-turn-clause-moments
returns-in-Err-turn-clause-moments g c =
    let was = c.args.self.now in
    let bytes = c.args.bytes.now in
    let h0 = g.D.Disk.history was.disk in
    let h1 = g.D.Disk.history c.write_other.new.self.disk in
    let h2 = g.D.Disk.history c.sync_file.new.self.disk in
    let h3 = g.D.Disk.history c.turn.new.self.disk in
    let reads = g.met.D.Disk.reads_image c.write_other.new.self.disk in
    let first = other_holding was.lane h0 h1 was.is_lane c.requires.head c.write_other.ensures.beside in
    let head = head_holding was.lane h0 h1 c.requires.head first in
    let second = sync_holding was.lane h1 h2 head reads c.sync_file.ensures.moments in
    let is = ready was.lane bytes h0 h1 h2 c.in-Ok.ensures.wrote head reads c.sync_file.ensures.moments.untold c.in-Ok-sync_file.ensures.synced in
    replacing_more was.lane bytes h0 h2 h3 (holding_more was.lane h0 h1 h2 first second) (turning_replacing was.lane bytes h2 h3 was.is_lane is c.turn.ensures.moments)

pub returns-in-Err-turn-clause-memory : goal.returns-in-Err-turn-clause-memory
returns-in-Err-turn-clause-memory g c = λ none.
    let was = c.args.self.now in
    let bytes = c.args.bytes.now in
    let h0 = g.D.Disk.history was.disk in
    let h1 = g.D.Disk.history c.write_other.new.self.disk in
    let h2 = g.D.Disk.history c.sync_file.new.self.disk in
    let h3 = g.D.Disk.history c.turn.new.self.disk in
    let reads = g.met.D.Disk.reads_image c.write_other.new.self.disk in
    let first = other_holding was.lane h0 h1 was.is_lane c.requires.head c.write_other.ensures.beside in
    let head = head_holding was.lane h0 h1 c.requires.head first in
    let second = sync_holding was.lane h1 h2 head reads c.sync_file.ensures.moments in
    let is = ready was.lane bytes h0 h1 h2 c.in-Ok.ensures.wrote head reads c.sync_file.ensures.moments.untold c.in-Ok-sync_file.ensures.synced in
    holding_more was.lane h0 h2 h3 (holding_more was.lane h0 h1 h2 first second) (none_holding was.lane bytes h2 h3 is (c.in-Err-turn.ensures.memory none))
