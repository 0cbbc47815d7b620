use Rattle.std.proofs.Common.{refl, arith}
use Rattle.std.proofs.lemmas.Option.{slice_get_read}
use Rattle.salus_world.proofs.places.fail_at.Goals as goal

pub returns : goal.returns
returns c = record {
  was = c.index_mut.result.now;
  is = c.fail.new.self;
  there = slice_get_read c.args.nodes.now.items _ c.args.place c.index_mut.result.now refl (omega (arith, c.requires.inside)) c.index_mut.ensures.value;
  set = refl;
  how = record { same = c.fail.ensures.fits; exact = c.in_ok-fail.ensures.named };
}
