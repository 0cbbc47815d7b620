use Rattle.std.proofs.Common.{◌∙◌, sym, ap, subst, arith}
use Rattle.client_rules.specs.Tables.{closed_at}
use Rattle.verified_read.specs.Entries.{open_in}
use Rattle.verified_read.specs.Table.{Table, HavePlaces}
use Rattle.verified_read.proofs.Opened.{open-removed}
use Rattle.verified_read.proofs.Places.{all_filter}
use Rattle.verified_read.proofs.reads.Reads.close.Goals as goal

pub invariant_of-self : goal.invariant_of-self
invariant_of-self c =
    let left = ap open_in c.shift_remove.ensures.entries ∙ open-removed c.args.read c.self.inside.asked.entries c.self.invariant.1 in
    (omega (arith, c.shift_remove.ensures.len, c.self.invariant.0), c.shift_remove.ensures.unique, subst (HavePlaces c.self.inside.geometry) (sym left) (all_filter _ _ _ c.self.invariant.2))

pub returns-clause-asked : goal.returns-clause-asked
returns-clause-asked c =
    ap open_in c.shift_remove.ensures.entries ∙ open-removed c.args.read c.self.inside.asked.entries c.self.invariant.1
    ∙ ap (λ (t : Table). closed_at c.args.read t.asked) c.self.view_is
