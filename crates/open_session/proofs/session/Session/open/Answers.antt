use Rattle.open_session.proofs.Trying.{opens-switched}
use Rattle.open_session.proofs.session.Session.open.Goals as goal

pub returns-clause-switches : goal.returns-clause-switches
returns-clause-switches c = λ less. opens-switched c.args.geometry.now c.args.name.region c.args.session c.args.held.now c.opened.result c.opened.ensures
