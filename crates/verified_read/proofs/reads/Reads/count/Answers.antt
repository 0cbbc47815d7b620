use Rattle.std.proofs.Common.{nat_eq, sym, subst}
use Rattle.std.specs.List.{IsDistinct}
use Rattle.verified_read.specs.Table.{Table, HaveOwnNumbers}
use Rattle.verified_read.proofs.Opened.{numbers-open}
use Rattle.verified_read.proofs.reads.Reads.count.Goals as goal

pub returns-clause-numbers : goal.returns-clause-numbers
returns-clause-numbers c =
    subst (λ (t : Table). HaveOwnNumbers t.asked) c.self.view_is (subst (IsDistinct nat_eq) (sym (numbers-open c.self.inside.asked.entries)) c.self.invariant.1)
