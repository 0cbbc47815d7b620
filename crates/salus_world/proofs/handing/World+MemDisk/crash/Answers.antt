use Rattle.std.proofs.Common.{refl}
use Rattle.salus_world.proofs.Acting.{crash_done, exactly}
use Rattle.salus_world.proofs.handing.World+MemDisk.crash.Goals as goal

pub returns-clause-does : goal.returns-clause-does
returns-clause-does c = λ number origin volume all course low at kept.
    crash_done origin volume all number c.args.self.now _ course low kept c.args.name c.requires.of c.place_of-place.result c.place_of-place.ensures.value refl refl refl refl refl c.args.keep c.args.fill c.in_ok-crash_at.ensures

pub returns-clause-exact : goal.returns-clause-exact
returns-clause-exact c = exactly c.args.self.now.nodes.items c.crash_at.new.nodes.items c.place_of-place.result _ _ _ c.place_of-place.ensures.value (λ was is how. how.exact) c.in_ok-crash_at.ensures
