use Rattle.std.proofs.Common.{◌≡◌, ◌≢◌, suc, ◌-◌, length, sym, ◌∙◌, arith}
use Rattle.datanode_log.specs.Entries.{entries_of}
use Rattle.disk_witness.specs.Numbers.{number_in}
use Rattle.disk_witness.proofs.Latest.{last_at}
use Rattle.disk_witness.proofs.register.last_number.Goals as goal

pub returns-then-entry-ne8-clause-none : goal.returns-then-entry-ne8-clause-none
returns-then-entry-ne8-clause-none g c = λ none same.
    let entries = entries_of c.args.loaded.now.bytes.items in
    let entry = c.entry-entry.result.now in
    let end : suc (c.count-count.result - 1) ≡ length entries = omega (arith, c.count-count.ensures, c.if-count-eq0.false) in
    let last = last_at entries (c.count-count.result - 1) entry end c.entry-entry.ensures in
    let bad : length entry ≢ 8 = omega arith in
    bad (sym (last.long 8) ∙ same)

pub returns-clause-found : goal.returns-clause-found
unfolding number_in
returns-clause-found g c =
    let entries = entries_of c.args.loaded.now.bytes.items in
    let entry = c.entry-entry.result.now in
    let end : suc (c.count-count.result - 1) ≡ length entries = omega (arith, c.count-count.ensures, c.if-count-eq0.false) in
    let last = last_at entries (c.count-count.result - 1) entry end c.entry-entry.ensures in
    last.number 0 ∙ sym c.read_u64.ensures
