use Rattle.std.proofs.Common.{◌∙◌, List, ℕ, ap, sym, subst}
use Rattle.salus_types.specs.declared.records.Held.{Held}
use Rattle.holding_model.specs.Holding.{ToSession, entry_of, held_after}
use Rattle.datanode_store.proofs.Kept.{HoldsAt, images_now, added_through, same_through, added_holds, resting_holds, kept_means}
use Rattle.datanode_store.proofs.store.Store.switch.Goals as goal

pub returns-in-Err-clause-any_moment : goal.returns-in-Err-clause-any_moment
returns-in-Err-clause-any_moment g c =
    let was = c.args.self.now in
    same_through (g.D.Disk.history was.log.disk) was.log.failed was.held (held_after was.held (ToSession c.args.session)) c.requires was.means

pub invariant_of-self : goal.invariant_of-self
invariant_of-self g c =
    let was = c.args.self.now in
    let old = g.D.Disk.history was.log.disk in
    let new = g.D.Disk.history c.append.new.self.disk in
    let is = ap (λ (l : List ℕ). entry_of l) c.as_slice.ensures.value ∙ c.in-Ok.ensures.entry in
    let holds = added_holds old new was.log.failed c.append.new.self.failed was.held c.as_slice.result.now (ToSession c.args.session) c.requires was.means (g.met.D.Disk.reads_image was.log.disk) is c.append.ensures.any_moment.untold c.in-Ok-append.ensures.durable in
    record { means = subst (λ (h : Held). HoldsAt new c.append.new.self.failed h) (sym c.open_session.ensures.opened) holds; ranges = c.open_session.ensures.ranges was.ranges }

pub returns-in-Ok-append-clause-durable : goal.returns-in-Ok-append-clause-durable
returns-in-Ok-append-clause-durable g c =
    let was = c.args.self.now in
    let old = g.D.Disk.history was.log.disk in
    let new = g.D.Disk.history c.append.new.self.disk in
    let is = ap (λ (l : List ℕ). entry_of l) c.as_slice.ensures.value ∙ c.in-Ok.ensures.entry in
    images_now new c.append.new.self.failed (held_after was.held (ToSession c.args.session)) c.in-Ok-append.ensures.failed
    (added_holds old new was.log.failed c.append.new.self.failed was.held c.as_slice.result.now (ToSession c.args.session) c.requires was.means (g.met.D.Disk.reads_image was.log.disk) is c.append.ensures.any_moment.untold c.in-Ok-append.ensures.durable)

pub returns-in-Ok-append-clause-any_moment : goal.returns-in-Ok-append-clause-any_moment
returns-in-Ok-append-clause-any_moment g c =
    let was = c.args.self.now in
    let is = ap (λ (l : List ℕ). entry_of l) c.as_slice.ensures.value ∙ c.in-Ok.ensures.entry in
    added_through (g.D.Disk.history was.log.disk) (g.D.Disk.history c.append.new.self.disk) was.log.failed was.held c.as_slice.result.now (ToSession c.args.session) c.requires was.means (g.met.D.Disk.reads_image was.log.disk) is c.append.ensures.any_moment

pub invariant_of-self-in-Err-append : goal.invariant_of-self-in-Err-append
invariant_of-self-in-Err-append g c =
    let was = c.args.self.now in
    let old = g.D.Disk.history was.log.disk in
    let log = c.append.new.self in
    let new = g.D.Disk.history log.disk in
    record {
      means = resting_holds new log.gate log.spans.items log.failed was.held log.sound (λ works. kept_means old new was.log.failed was.held c.requires was.means (g.met.D.Disk.reads_image was.log.disk) c.append.ensures.any_moment.untold (c.in-Err-append.ensures.unless_failed works));
      ranges = was.ranges;
    }

pub returns-clause-any_moment : goal.returns-clause-any_moment
returns-clause-any_moment g c =
    let was = c.args.self.now in
    let is = ap (λ (l : List ℕ). entry_of l) c.as_slice.ensures.value ∙ c.in-Ok.ensures.entry in
    added_through (g.D.Disk.history was.log.disk) (g.D.Disk.history c.append.new.self.disk) was.log.failed was.held c.as_slice.result.now (ToSession c.args.session) c.requires was.means (g.met.D.Disk.reads_image was.log.disk) is c.append.ensures.any_moment
