use Rattle.std.proofs.Common.{◌≡◌, ◌-◌, ℕ, List, [], ◌∷◌, length, vec_len, true, false, Err, refl, sym, ◌∙◌, ap, subst, arith}
use Rattle.disk_model.specs.Disk.{Moment, History, Now, Goes, EachImage, clean}
use Rattle.disk_lane.specs.Lanes.{lane_history}
use Rattle.disk_lane.specs.Heads.{IsHead, IsReplaced, IsReplacing, IsHolding}
use Rattle.disk_lane.proofs.Replacing.{head_holding}
use Rattle.datanode_log.specs.Logs.{entries_now}
use Rattle.datanode_log.specs.Known.{SoundAt}
use Rattle.datanode_log.proofs.Lanes.{sound_replaced, sound_held, sound_lost, entries_held, passes_rewrite, live_replaced, head_replaced}
use Rattle.datanode_log.proofs.log.Log+Lane+D.rewrite.Goals as goal

pub invariant_of-self : goal.invariant_of-self
invariant_of-self g c =
    let was = c.args.self.now in
    let lane = was.disk.lane in
    let gate = was.gate in
    let spans = was.spans.items in
    let bytes = c.args.log.bytes.items in
    let h0 = g.D.Disk.history was.disk.disk in
    let h1 = g.D.Disk.history c.replace.new.self.disk in
    let sound = subst (λ f. SoundAt (lane_history lane h0) gate spans f) c.requires.working was.sound in
    let there = subst (λ (l : List ℕ). Now h1 (λ now. (now ≡ clean now.seen) × IsReplaced lane l now.seen)) c.as_slice.ensures.value c.in-Ok.ensures.replaced in
    let rests = sound_replaced lane bytes c.args.log.spans.items (c.len.result - 1) h1 c.args.log.whole (omega arith) there in
    let here = subst (λ (l : ℕ). SoundAt (lane_history l h1) (c.len.result - 1) c.args.log.spans.items false) (sym c.in-Ok.ensures.other) rests in
    record { sound = subst (λ f. SoundAt (lane_history c.replace.new.self.lane h1) (c.len.result - 1) c.args.log.spans.items f) (sym c.requires.working) here }

pub returns-in-Ok-clause-durable : goal.returns-in-Ok-clause-durable
returns-in-Ok-clause-durable g c =
    let was = c.args.self.now in
    let lane = was.disk.lane in
    let gate = was.gate in
    let spans = was.spans.items in
    let bytes = c.args.log.bytes.items in
    let h0 = g.D.Disk.history was.disk.disk in
    let h1 = g.D.Disk.history c.replace.new.self.disk in
    let sound = subst (λ f. SoundAt (lane_history lane h0) gate spans f) c.requires.working was.sound in
    let there = subst (λ (l : List ℕ). Now h1 (λ now. (now ≡ clean now.seen) × IsReplaced lane l now.seen)) c.as_slice.ensures.value c.in-Ok.ensures.replaced in
    live_replaced lane bytes c.args.log.spans.items h1 c.args.log.whole there

pub returns-in-Ok-clause-any_moment : goal.returns-in-Ok-clause-any_moment
returns-in-Ok-clause-any_moment g c =
    let was = c.args.self.now in
    let lane = was.disk.lane in
    let gate = was.gate in
    let spans = was.spans.items in
    let bytes = c.args.log.bytes.items in
    let h0 = g.D.Disk.history was.disk.disk in
    let h1 = g.D.Disk.history c.replace.new.self.disk in
    let sound = subst (λ f. SoundAt (lane_history lane h0) gate spans f) c.requires.working was.sound in
    let went = subst (λ (l : List ℕ). Goes (IsReplacing lane l) h0 h1) c.as_slice.ensures.value c.replace.ensures.moments in
    passes_rewrite lane bytes c.args.log.spans.items gate spans h0 h1 c.args.log.whole sound c.requires.head went

pub returns-in-Err-Device-clause-any_moment : goal.returns-in-Err-Device-clause-any_moment
returns-in-Err-Device-clause-any_moment g c =
    let was = c.args.self.now in
    let lane = was.disk.lane in
    let gate = was.gate in
    let spans = was.spans.items in
    let bytes = c.args.log.bytes.items in
    let h0 = g.D.Disk.history was.disk.disk in
    let h1 = g.D.Disk.history c.replace.new.self.disk in
    let sound = subst (λ f. SoundAt (lane_history lane h0) gate spans f) c.requires.working was.sound in
    let went = subst (λ (l : List ℕ). Goes (IsReplacing lane l) h0 h1) c.as_slice.ensures.value c.replace.ensures.moments in
    passes_rewrite lane bytes c.args.log.spans.items gate spans h0 h1 c.args.log.whole sound c.requires.head went

pub returns-clause-any_moment : goal.returns-clause-any_moment
returns-clause-any_moment g c =
    let was = c.args.self.now in
    let lane = was.disk.lane in
    let gate = was.gate in
    let spans = was.spans.items in
    let bytes = c.args.log.bytes.items in
    let h0 = g.D.Disk.history was.disk.disk in
    let h1 = g.D.Disk.history c.replace.new.self.disk in
    let sound = subst (λ f. SoundAt (lane_history lane h0) gate spans f) c.requires.working was.sound in
    let went = subst (λ (l : List ℕ). Goes (IsReplacing lane l) h0 h1) c.as_slice.ensures.value c.replace.ensures.moments in
    passes_rewrite lane bytes c.args.log.spans.items gate spans h0 h1 c.args.log.whole sound c.requires.head went

pub returns-in-Ok-clause-head : goal.returns-in-Ok-clause-head
returns-in-Ok-clause-head g c =
    let was = c.args.self.now in
    let lane = was.disk.lane in
    let gate = was.gate in
    let spans = was.spans.items in
    let bytes = c.args.log.bytes.items in
    let h0 = g.D.Disk.history was.disk.disk in
    let h1 = g.D.Disk.history c.replace.new.self.disk in
    let sound = subst (λ f. SoundAt (lane_history lane h0) gate spans f) c.requires.working was.sound in
    let there = subst (λ (l : List ℕ). Now h1 (λ now. (now ≡ clean now.seen) × IsReplaced lane l now.seen)) c.as_slice.ensures.value c.in-Ok.ensures.replaced in
    λ works. subst (λ (l : ℕ). Now h1 (λ now. EachImage now (IsHead l))) (sym c.in-Ok.ensures.other) (head_replaced lane bytes h1 there)

pub invariant_of-self-in-Err-Device : goal.invariant_of-self-in-Err-Device
invariant_of-self-in-Err-Device g c =
    let was = c.args.self.now in
    let lane = was.disk.lane in
    let gate = was.gate in
    let spans = was.spans.items in
    let bytes = c.args.log.bytes.items in
    let h0 = g.D.Disk.history was.disk.disk in
    let h1 = g.D.Disk.history c.replace.new.self.disk in
    let sound = subst (λ f. SoundAt (lane_history lane h0) gate spans f) c.requires.working was.sound in
    let went = subst (λ (l : List ℕ). Goes (IsReplacing lane l) h0 h1) c.as_slice.ensures.value c.replace.ensures.moments in
    let reads = g.met.D.Disk.reads_image c.replace.new.self.disk in
    let lost = sound_lost lane bytes gate spans h0 h1 sound went reads in
    record { sound = subst (λ (l : ℕ). SoundAt (lane_history l h1) gate spans true) (sym c.in-Err-Device.ensures.lane) lost }

pub invariant_of-self-in-Err-NoMemory : goal.invariant_of-self-in-Err-NoMemory
invariant_of-self-in-Err-NoMemory g c =
    let was = c.args.self.now in
    let lane = was.disk.lane in
    let gate = was.gate in
    let spans = was.spans.items in
    let bytes = c.args.log.bytes.items in
    let h0 = g.D.Disk.history was.disk.disk in
    let h1 = g.D.Disk.history c.replace.new.self.disk in
    let sound = subst (λ f. SoundAt (lane_history lane h0) gate spans f) c.requires.working was.sound in
    let reads = g.met.D.Disk.reads_image c.replace.new.self.disk in
    let held = c.in-Err-NoMemory.ensures.memory (ap Err c.in-Err-NoMemory.field-0-is) in
    let rests = sound_held lane gate spans h0 h1 sound held reads in
    let here = subst (λ (l : ℕ). SoundAt (lane_history l h1) gate spans false) (sym c.in-Err-NoMemory.ensures.lane) rests in
    record { sound = subst (λ f. SoundAt (lane_history c.replace.new.self.lane h1) gate spans f) (sym c.requires.working) here }

pub returns-clause-head : goal.returns-clause-head
returns-clause-head g c =
    let was = c.args.self.now in
    let lane = was.disk.lane in
    let gate = was.gate in
    let spans = was.spans.items in
    let bytes = c.args.log.bytes.items in
    let h0 = g.D.Disk.history was.disk.disk in
    let h1 = g.D.Disk.history c.replace.new.self.disk in
    let sound = subst (λ f. SoundAt (lane_history lane h0) gate spans f) c.requires.working was.sound in
    let held = c.in-Err-NoMemory.ensures.memory (ap Err c.in-Err-NoMemory.field-0-is) in
    λ works. subst (λ (l : ℕ). Now h1 (λ now. EachImage now (IsHead l))) (sym c.in-Err-NoMemory.ensures.lane) (head_holding lane h0 h1 c.requires.head held)

pub returns-clause-unless_failed : goal.returns-clause-unless_failed
returns-clause-unless_failed g c =
    let was = c.args.self.now in
    let lane = was.disk.lane in
    let gate = was.gate in
    let spans = was.spans.items in
    let bytes = c.args.log.bytes.items in
    let h0 = g.D.Disk.history was.disk.disk in
    let h1 = g.D.Disk.history c.replace.new.self.disk in
    let sound = subst (λ f. SoundAt (lane_history lane h0) gate spans f) c.requires.working was.sound in
    let reads = g.met.D.Disk.reads_image c.replace.new.self.disk in
    let held = c.in-Err-NoMemory.ensures.memory (ap Err c.in-Err-NoMemory.field-0-is) in
    λ works. ap (λ (l : ℕ). entries_now (lane_history l h1)) c.in-Err-NoMemory.ensures.lane ∙ entries_held lane gate spans h0 h1 sound held reads
