use Rattle.std.proofs.Common.{◌++◌, ap, ◌∙◌, List, ℕ, length, arith}
use Rattle.client_tag.specs.Spelling.{base_bytes}
use Rattle.holding_model.specs.Holding.{entry_of}
use Rattle.datanode_store.proofs.Spelled.{entry_of-base, base_len}
use Rattle.datanode_store.proofs.entry.base_entry.Goals as goal

pub returns-clause-entry : goal.returns-clause-entry
returns-clause-entry c =
    let whole = c.in_ok-write_base.ensures.bytes ∙ ap (λ (l : List ℕ). l ++ base_bytes c.args.base.now) c.in_ok-bytes.ensures.items in
    ap (λ (l : List ℕ). entry_of l) whole ∙ entry_of-base c.args.base.now c.requires.ranges c.in_ok-write_base.ensures.typed c.requires.blocks

pub returns-clause-short : goal.returns-clause-short
returns-clause-short c =
    let whole = c.in_ok-write_base.ensures.bytes ∙ ap (λ (l : List ℕ). l ++ base_bytes c.args.base.now) c.in_ok-bytes.ensures.items in
    omega (arith, ap length whole, base_len c.args.base.now c.requires.ranges c.in_ok-write_base.ensures.typed)
