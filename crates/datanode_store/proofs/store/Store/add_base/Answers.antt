use Rattle.std.proofs.Common.{◌≡◌, ◌∙◌, ◌∷◌, ◌++◌, [], List, ℕ, ap, sym, subst}
use Rattle.std.specs.List.{AllByRecursion}
use Rattle.salus_types.specs.declared.records.Base.{Base}
use Rattle.holding_model.specs.Holding.{OfBase, entry_of, held_after}
use Rattle.datanode_store.specs.Meaning.{IsBegun}
use Rattle.datanode_store.proofs.Kept.{HoldsAt, all_push, images_now, added_through, same_through, added_holds, resting_holds, kept_means}
use Rattle.datanode_store.proofs.store.Store.add_base.Goals as goal

pub returns-in-Err-clause-any_moment : goal.returns-in-Err-clause-any_moment
returns-in-Err-clause-any_moment g c =
    let was = c.args.self.now in
    same_through (g.D.Disk.history was.log.disk) was.log.failed was.held (held_after was.held (OfBase c.args.base.now)) c.requires.working was.means

pub returns-in-Err-with_room-clause-any_moment : goal.returns-in-Err-with_room-clause-any_moment
returns-in-Err-with_room-clause-any_moment g c =
    let was = c.args.self.now in
    same_through (g.D.Disk.history was.log.disk) was.log.failed was.held (held_after was.held (OfBase c.args.base.now)) c.requires.working was.means

pub invariant_of-self-in-Ok-append : goal.invariant_of-self-in-Ok-append
invariant_of-self-in-Ok-append g c =
    let was = c.args.self.now in
    let old = g.D.Disk.history was.log.disk in
    let new = g.D.Disk.history c.append.new.self.disk in
    let failed = c.append.new.self.failed in
    let is = ap (λ (l : List ℕ). entry_of l) c.as_slice.ensures.value ∙ c.in-Ok.ensures.entry in
    let holds = added_holds old new was.log.failed failed was.held c.as_slice.result.now (OfBase c.args.base.now) c.requires.working was.means (g.met.D.Disk.reads_image was.log.disk) is c.append.ensures.any_moment.untold c.in-Ok-append.ensures.durable in
    let grown : c.from_vec.result ≡ was.held.bases ++ c.args.base.now ∷ [] = c.from_vec.ensures ∙ c.push_reserved.ensures.items ∙ (λ i. c.in-Ok-with_room.ensures.taken i ++ c.in-Ok.ensures.copy i ∷ []) in
    record {
      means = subst (λ (l : List Base). HoldsAt new failed (record was.held { bases = l })) (sym grown) holds;
      ranges = record {
        parts = was.ranges.parts;
        bases = subst (λ (l : List Base). AllByRecursion IsBegun l) (sym grown) (all_push IsBegun was.held.bases c.args.base.now was.ranges.bases c.in-Ok.ensures.ranges);
      };
    }

pub invariant_of-self-in-Err-append : goal.invariant_of-self-in-Err-append
invariant_of-self-in-Err-append g c =
    let was = c.args.self.now in
    let old = g.D.Disk.history was.log.disk in
    let log = c.append.new.self in
    let new = g.D.Disk.history log.disk in
    let back : c.from_vec-in-Err-append.result ≡ was.held.bases = c.from_vec-in-Err-append.ensures ∙ c.in-Ok-with_room.ensures.taken in
    let holds = resting_holds new log.gate log.spans.items log.failed was.held log.sound (λ works. kept_means old new was.log.failed was.held c.requires.working was.means (g.met.D.Disk.reads_image was.log.disk) c.append.ensures.any_moment.untold (c.in-Err-append.ensures.unless_failed works)) in
    record {
      means = subst (λ (l : List Base). HoldsAt new log.failed (record was.held { bases = l })) (sym back) holds;
      ranges = record {
        parts = was.ranges.parts;
        bases = subst (λ (l : List Base). AllByRecursion IsBegun l) (sym back) was.ranges.bases;
      };
    }

pub returns-in-Ok-append-clause-durable : goal.returns-in-Ok-append-clause-durable
returns-in-Ok-append-clause-durable g c =
    let was = c.args.self.now in
    let old = g.D.Disk.history was.log.disk in
    let new = g.D.Disk.history c.append.new.self.disk in
    let is = ap (λ (l : List ℕ). entry_of l) c.as_slice.ensures.value ∙ c.in-Ok.ensures.entry in
    images_now new c.append.new.self.failed (held_after was.held (OfBase c.args.base.now)) c.in-Ok-append.ensures.failed
    (added_holds old new was.log.failed c.append.new.self.failed was.held c.as_slice.result.now (OfBase c.args.base.now) c.requires.working was.means (g.met.D.Disk.reads_image was.log.disk) is c.append.ensures.any_moment.untold c.in-Ok-append.ensures.durable)

pub returns-in-Ok-append-clause-any_moment : goal.returns-in-Ok-append-clause-any_moment
returns-in-Ok-append-clause-any_moment g c =
    let was = c.args.self.now in
    let is = ap (λ (l : List ℕ). entry_of l) c.as_slice.ensures.value ∙ c.in-Ok.ensures.entry in
    added_through (g.D.Disk.history was.log.disk) (g.D.Disk.history c.append.new.self.disk) was.log.failed was.held c.as_slice.result.now (OfBase c.args.base.now) c.requires.working was.means (g.met.D.Disk.reads_image was.log.disk) is c.append.ensures.any_moment

pub returns-in-Err-append-clause-any_moment : goal.returns-in-Err-append-clause-any_moment
returns-in-Err-append-clause-any_moment g c =
    let was = c.args.self.now in
    let is = ap (λ (l : List ℕ). entry_of l) c.as_slice.ensures.value ∙ c.in-Ok.ensures.entry in
    added_through (g.D.Disk.history was.log.disk) (g.D.Disk.history c.append.new.self.disk) was.log.failed was.held c.as_slice.result.now (OfBase c.args.base.now) c.requires.working was.means (g.met.D.Disk.reads_image was.log.disk) is c.append.ensures.any_moment
