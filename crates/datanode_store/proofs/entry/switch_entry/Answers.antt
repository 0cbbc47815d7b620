use Rattle.std.proofs.Common.{◌++◌, ap, ◌∙◌, List, ℕ, length, arith}
use Rattle.salus_codec.specs.Spelling.{be8}
use Rattle.holding_model.specs.Holding.{entry_of}
use Rattle.datanode_store.proofs.Spelled.{entry_of-switch, len8}
use Rattle.datanode_store.proofs.entry.switch_entry.Goals as goal

pub returns-clause-entry : goal.returns-clause-entry
returns-clause-entry c =
    let whole = c.in_ok-put_u64.ensures.ok ∙ ap (λ (l : List ℕ). l ++ be8 c.args.session) c.in_ok-bytes.ensures.items in
    ap (λ (l : List ℕ). entry_of l) whole ∙ entry_of-switch c.args.session c.ranges.session.fits

pub returns-clause-short : goal.returns-clause-short
returns-clause-short c =
    let whole = c.in_ok-put_u64.ensures.ok ∙ ap (λ (l : List ℕ). l ++ be8 c.args.session) c.in_ok-bytes.ensures.items in
    omega (arith, ap length whole, len8 c.args.session)
