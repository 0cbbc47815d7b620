use Rattle.std.proofs.Common.{refl, arith}
use Rattle.std.proofs.lemmas.Option.{slice_get_read}
use Rattle.salus_world.proofs.places.tick_at.Goals as goal

pub returns : goal.returns
returns g c = record {
  was = c.index_mut.result.now;
  is = c.tick.new.self;
  there = slice_get_read c.args.nodes.now.items _ c.args.place c.index_mut.result.now refl (omega (arith, c.requires)) c.index_mut.ensures.value;
  set = refl;
  how = record { answered = c.in_ok-outcome.ensures.answered; sure = c.in_ok-outcome.ensures.sure; passes = c.tick.ensures.any_moment; cause = c.in_ok-outcome.ensures.cause };
}
