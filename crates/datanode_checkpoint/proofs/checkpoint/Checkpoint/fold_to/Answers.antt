use Rattle.std.proofs.Common.{◌≡◌, ◌∙◌, false, sym, subst}
use Rattle.std.specs.List.{list_any}
use Rattle.salus_types.specs.declared.records.Held.{Held}
use Rattle.disk_model.specs.Disk.{Now, EachImage}
use Rattle.holding_model.specs.Changing.{FoldsTo, changed, is_folded}
use Rattle.datanode_store.specs.Live.{MeansLive}
use Rattle.datanode_store.proofs.Lanes.{live_now, same_live}
use Rattle.datanode_checkpoint.proofs.Living.{head_now}
use Rattle.datanode_checkpoint.proofs.Folded.{folded_none}
use Rattle.datanode_checkpoint.proofs.checkpoint.Checkpoint.fold_to.Goals as goal

pub returns-else-any_folded-clause-folded : goal.returns-else-any_folded-clause-folded
returns-else-any_folded-clause-folded g c = λ shape.
    let store = c.args.self.now.store in
    let none = subst (λ (h : Held). list_any (λ rec. is_folded h c.args.seq rec) h.parts ≡ false) c.held.ensures.held (sym c.any_folded.ensures ∙ c.if-any_folded.false) in
    sym (folded_none shape store.held c.args.seq none)

pub returns-else-any_folded-clause-durable : goal.returns-else-any_folded-clause-durable
returns-else-any_folded-clause-durable g c = λ shape.
    let store = c.args.self.now.store in
    let none = subst (λ (h : Held). list_any (λ rec. is_folded h c.args.seq rec) h.parts ≡ false) c.held.ensures.held (sym c.any_folded.ensures ∙ c.if-any_folded.false) in
    let h = g.D.Disk.history store.log.disk.disk in
    let head = head_now h store.log.failed store.log.disk.lane c.requires.working c.args.self.now.head in
    subst (λ (held : Held). Now h (λ now. EachImage now (MeansLive held))) (sym (folded_none shape store.held c.args.seq none)) (live_now store.log.disk.lane h store.log.failed store.held c.requires.working store.means head)

pub returns-else-any_folded-clause-any_moment : goal.returns-else-any_folded-clause-any_moment
returns-else-any_folded-clause-any_moment g c = λ shape.
    let store = c.args.self.now.store in
    let h = g.D.Disk.history store.log.disk.disk in
    same_live store.log.disk.lane h store.log.failed store.held (changed shape store.held (FoldsTo c.args.seq)) c.requires.working store.means (head_now h store.log.failed store.log.disk.lane c.requires.working c.args.self.now.head)
