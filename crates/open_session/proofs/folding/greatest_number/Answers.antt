use Rattle.std.proofs.Common.{◌∙◌, ap, sym}
use Rattle.salus_types.specs.declared.records.Record.{Record}
use Rattle.replica_rules.specs.Voting.{greater}
use Rattle.open_session.proofs.Greatest.{greatest-start, greatest-more}
use Rattle.open_session.proofs.folding.greatest_number.Goals as goal

pub parts-init : goal.parts-init
parts-init c = greatest-start

pub parts-preserved : goal.parts-preserved
parts-preserved c =
    let seq = c.rec-item.result.header.seq in
    c.greater-greatest.ensures ∙ ap (λ n. greater n seq) c.parts.invariant
    ∙ sym (greatest-more (λ (rec : Record). rec.header.seq) c.args.parts.now c.parts.rec-index c.rec-item.result c.parts-test.true c.rec-item.is)
