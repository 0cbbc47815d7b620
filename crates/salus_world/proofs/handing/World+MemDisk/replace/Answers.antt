use Rattle.std.proofs.Common.{refl}
use Rattle.salus_world.proofs.Acting.{replace_done}
use Rattle.salus_world.proofs.handing.World+MemDisk.replace.Goals as goal

pub returns : goal.returns
returns c = λ number origin volume all course low at kept.
    replace_done origin volume all number c.args.self.now _ course low kept c.args.name c.requires.of c.place_of-place.result c.place_of-place.ensures.value refl refl refl refl refl c.in_ok-replace_at.ensures
