use Rattle.std.proofs.Common.{refl, arith}
use Rattle.std.proofs.lemmas.Option.{slice_get_read}
use Rattle.salus_world.proofs.Mailing.{marked_posts, marked_marks, or_yes}
use Rattle.salus_world.proofs.mail.mark_dropped.Goals as goal

pub returns-clause-posts : goal.returns-clause-posts
returns-clause-posts c = marked_posts c.args.sent.now.items _ c.args.index c.index_mut.result.now _ (slice_get_read c.args.sent.now.items _ c.args.index c.index_mut.result.now refl (omega (arith, c.requires)) c.index_mut.ensures.value) refl refl

pub returns-clause-marks : goal.returns-clause-marks
returns-clause-marks c = marked_marks c.args.sent.now.items _ c.args.index _ refl (or_yes c.index_mut.result.now.delivered)
