use Rattle.std.proofs.Common.{refl}
use Rattle.salus_world.proofs.Acting.{client_crash_done}
use Rattle.salus_world.proofs.world.World.crash_client.Goals as goal

pub returns-clause-does : goal.returns-clause-does
returns-clause-does g c = λ number origin volume all course low at kept.
    client_crash_done origin volume all number c.args.self.now _ course low kept refl refl refl refl refl (λ d is. c.crash.ensures.rules volume d is) c.crash.ensures.shape c.crash.ensures.newest
