use Rattle.std.proofs.Common.{◌≡◌, ◌∙◌, ◌∷◌, ◌++◌, [], List, ℕ, Some, ap}
use Rattle.salus_types.specs.declared.records.Held.{Held}
use Rattle.datanode_log.specs.Entries.{entries_of}
use Rattle.holding_model.specs.Holding.{ToSession, entry_of, held_of, held_after}
use Rattle.datanode_store.proofs.Kept.{held_push}
use Rattle.datanode_checkpoint.proofs.Living.{on_ok}
use Rattle.datanode_checkpoint.proofs.spelling.push_switch.Goals as goal

pub returns : goal.returns
returns c =
    let before = entries_of c.args.log.now.bytes.items in
    let after = entries_of c.push.new.self.bytes.items in
    let bytes = c.as_slice.result.now in
    let is = ap (λ (l : List ℕ). entry_of l) c.as_slice.ensures.value ∙ c.in_ok-entry.ensures.entry in
    on_ok c.push.result (after ≡ before ++ bytes ∷ []) ((held : Held) → held_of before ≡ Some held → held_of after ≡ Some (held_after held (ToSession c.args.session))) (λ added. λ held known. ap held_of added ∙ held_push before bytes held (ToSession c.args.session) known is) c.push.ensures.added
