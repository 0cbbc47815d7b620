use Rattle.std.proofs.Common.{List, sym, subst}
use Rattle.std.specs.List.{AllByRecursion}
use Rattle.salus_types.specs.declared.records.Record.{Record}
use Rattle.salus_types.specs.declared.records.Base.{Base}
use Rattle.datanode_store.specs.Meaning.{IsPart, IsBegun}
use Rattle.datanode_store.proofs.Kept.{kept_open}
use Rattle.datanode_store.proofs.holding.open_session.Goals as goal

pub returns-clause-ranges : goal.returns-clause-ranges
returns-clause-ranges c = λ can.
    let kept = kept_open c.args.held.now c.args.session can in
    record {
      bases = subst (λ (l : List Base). AllByRecursion IsBegun l) (sym c.keep_bases.ensures) kept.bases;
      parts = subst (λ (l : List Record). AllByRecursion IsPart l) (sym c.keep_parts.ensures) kept.parts;
    }
