use Rattle.std.proofs.Common.{refl}
use Rattle.salus_model.specs.declared.trace.Request.TheVariants as request
use Rattle.serving_client.proofs.Rooms.{lined_behind}
use Rattle.serving_client.proofs.heading.commit_batch.Goals as goal

pub returns-clause-headless : goal.returns-clause-headless
returns-clause-headless c = record {
  lined = lined_behind c.args.core.now (record { event = c.args.event; request = request.Write c.args.batch.now }) c.submit.new.self c.write.new.self c.requires.headless.lined c.submit.ensures.stays.shape c.write.ensures.shape
      c.submit.ensures.stays.last c.submit.ensures.stays.acked c.submit.ensures.waiting;
  none = c.requires.headless.none;
}
