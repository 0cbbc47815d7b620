use Rattle.holding_model.specs.Holding.{OfPart, OfBase, ToSession, held_after}
use Rattle.node_storage.specs.Storing.{change_of}
use Rattle.node_storage.proofs.Single.{part_gives, base_gives, switch_gives, ok_given, either_given}
use Rattle.node_storage.proofs.storing.store_one.Goals as goal

pub returns-in-Part-clause-stored : goal.returns-in-Part-clause-stored
returns-in-Part-clause-stored g c =
    let held = c.args.checkpoint.now.store.held in
    ok_given c.add_part.result held c.add_part.new.self.store.held (held_after held (OfPart c.in-Part.rec.now)) (change_of c.args.change.now) (part_gives c.args.change.now c.in-Part.rec held c.in-Part.is) c.add_part.ensures.added

pub returns-in-Part-clause-any_moment : goal.returns-in-Part-clause-any_moment
returns-in-Part-clause-any_moment g c =
    let was = c.args.checkpoint.now.store in
    either_given (g.D.Disk.history was.log.disk.disk) (g.D.Disk.history c.add_part.new.self.store.log.disk.disk) was.held (held_after was.held (OfPart c.in-Part.rec.now)) (change_of c.args.change.now) (part_gives c.args.change.now c.in-Part.rec was.held c.in-Part.is) c.add_part.ensures.any_moment

pub returns-in-Base-clause-stored : goal.returns-in-Base-clause-stored
returns-in-Base-clause-stored g c =
    let held = c.args.checkpoint.now.store.held in
    ok_given c.add_base.result held c.add_base.new.self.store.held (held_after held (OfBase c.in-Base.base.now)) (change_of c.args.change.now) (base_gives c.args.change.now c.in-Base.base held c.in-Base.is) c.add_base.ensures.added

pub returns-in-Base-clause-any_moment : goal.returns-in-Base-clause-any_moment
returns-in-Base-clause-any_moment g c =
    let was = c.args.checkpoint.now.store in
    either_given (g.D.Disk.history was.log.disk.disk) (g.D.Disk.history c.add_base.new.self.store.log.disk.disk) was.held (held_after was.held (OfBase c.in-Base.base.now)) (change_of c.args.change.now) (base_gives c.args.change.now c.in-Base.base was.held c.in-Base.is) c.add_base.ensures.any_moment

pub returns-in-Switch-clause-stored : goal.returns-in-Switch-clause-stored
returns-in-Switch-clause-stored g c =
    let held = c.args.checkpoint.now.store.held in
    ok_given c.switch.result held c.switch.new.self.store.held (held_after held (ToSession c.in-Switch.session)) (change_of c.args.change.now) (switch_gives c.args.change.now c.in-Switch.session held c.in-Switch.is) c.switch.ensures.switched

pub returns-in-Switch-clause-any_moment : goal.returns-in-Switch-clause-any_moment
returns-in-Switch-clause-any_moment g c =
    let was = c.args.checkpoint.now.store in
    either_given (g.D.Disk.history was.log.disk.disk) (g.D.Disk.history c.switch.new.self.store.log.disk.disk) was.held (held_after was.held (ToSession c.in-Switch.session)) (change_of c.args.change.now) (switch_gives c.args.change.now c.in-Switch.session was.held c.in-Switch.is) c.switch.ensures.any_moment
