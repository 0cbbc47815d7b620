use Rattle.std.proofs.Common.{◌++◌, ap, ◌∙◌, List, ℕ, length, arith}
use Rattle.client_tag.specs.Spelling.{record_bytes}
use Rattle.holding_model.specs.Holding.{entry_of}
use Rattle.datanode_store.proofs.Spelled.{entry_of-part, record_len}
use Rattle.datanode_store.proofs.entry.part_entry.Goals as goal

pub returns-clause-entry : goal.returns-clause-entry
returns-clause-entry c =
    let whole = c.in_ok-write_record.ensures.bytes ∙ ap (λ (l : List ℕ). l ++ record_bytes c.args.rec.now) c.in_ok-bytes.ensures.items in
    ap (λ (l : List ℕ). entry_of l) whole ∙ entry_of-part c.args.rec.now c.requires c.in_ok-write_record.ensures.typed

pub returns-clause-short : goal.returns-clause-short
returns-clause-short c =
    let whole = c.in_ok-write_record.ensures.bytes ∙ ap (λ (l : List ℕ). l ++ record_bytes c.args.rec.now) c.in_ok-bytes.ensures.items in
    omega (arith, ap length whole, record_len c.args.rec.now c.requires c.in_ok-write_record.ensures.typed)
