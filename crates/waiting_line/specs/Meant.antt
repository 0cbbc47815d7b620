-- Which client of the rules the numbers and the line stand for that refusals look at.
use Rattle.std.specs.Prelude.{◌≡◌, List, length}
use Rattle.salus_model.specs.Waiting.{Taken}
use Rattle.client_rules.specs.State.{Serving}
use Rattle.waiting_line.specs.declared.refusals.Standing.{Standing}

pub record StandsFor (s : Standing) (line : List Taken) (c : Serving) : Type 0 where
  pub last : s.last ≡ c.last
  pub acked : s.acked ≡ c.acked
  pub reads : s.reads ≡ length c.reads
  pub barriers : s.barriers ≡ length c.barriers
  pub waiting : line ≡ c.line
