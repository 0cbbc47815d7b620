use Rattle.std.proofs.Common.{◌≡◌, ◌∙◌, ap, sym, drop}
use Rattle.salus_model.specs.Waiting.{is_write}
use Rattle.client_asking.proofs.Heads.{no_write_heads}
use Rattle.client_asking.proofs.head.ask_head.Goals as goal

pub returns-in-Read : goal.returns-in-Read
returns-in-Read c = no_write_heads c.in-Some.taken.now (drop 1 c.args.line.now) c.args.line.now _ c.in-Some.ensures c.requires.head (ap is_write (sym c.request.ensures ∙ c.in-Read.is))

pub returns-in-Barrier : goal.returns-in-Barrier
returns-in-Barrier c = no_write_heads c.in-Some.taken.now (drop 1 c.args.line.now) c.args.line.now _ c.in-Some.ensures c.requires.head (ap is_write (sym c.request.ensures ∙ c.in-Barrier.is))

pub returns-in-Restart : goal.returns-in-Restart
returns-in-Restart c = no_write_heads c.in-Some.taken.now (drop 1 c.args.line.now) c.args.line.now _ c.in-Some.ensures c.requires.head (ap is_write (sym c.request.ensures ∙ c.in-Restart.is))

pub returns-in-Reassign : goal.returns-in-Reassign
returns-in-Reassign c = no_write_heads c.in-Some.taken.now (drop 1 c.args.line.now) c.args.line.now _ c.in-Some.ensures c.requires.head (ap is_write (sym c.request.ensures ∙ c.in-Reassign.is))
