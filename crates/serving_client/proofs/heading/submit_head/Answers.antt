use Rattle.std.proofs.Common.{◌≡◌, ◌∷◌, subst}
use Rattle.client_rules.specs.Tables.{line_of}
use Rattle.client_asking.proofs.Heads.{first_writes}
use Rattle.serving_client.proofs.heading.submit_head.Goals as goal

pub submit-requires-clause-write : goal.submit-requires-clause-write
submit-requires-clause-write c = first_writes c.in-Some.taken c.take_head.new.self (subst (λ l. line_of l ≡ l) c.in-Some.ensures c.requires.heads)
