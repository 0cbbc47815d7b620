use Rattle.std.proofs.Common.{sym, subst}
use Rattle.salus_commands.specs.Doing.{IsReplay}
use Rattle.salus_commands.proofs.Complete.{done_or_memory, refused_or_memory}
use Rattle.salus_commands.proofs.Spelled.{same_command}
use Rattle.salus_commands.proofs.Commanded.{never_refuses, never_done}
use Rattle.salus_commands.proofs.commanding.salus.Goals as goal

pub returns-in-Some-clause-complete : goal.returns-in-Some-clause-complete
returns-in-Some-clause-complete g c told is has source sink =
    let e = c.do_command.ensures in
    let same = same_command c.in-Some.command told (c.in-Some.ensures.only told is) in
    done_or_memory c.do_command.result e.others (λ three. never_refuses told _ _ _ _ has (subst IsReplay same (e.replay three)) (e.refused three))
    (λ four. source (e.read_fault four).0) (λ five. sink (e.write_fault five))

pub returns-in-Some-clause-refuses : goal.returns-in-Some-clause-refuses
returns-in-Some-clause-refuses g c told is replay has source sink =
    let e = c.do_command.ensures in
    let same = same_command c.in-Some.command told (c.in-Some.ensures.only told is) in
    refused_or_memory c.do_command.result e.others (λ done. never_done c.in-Some.command _ _ _ _ _ (subst IsReplay (sym same) replay) has (e.done done))
    (λ four. source (e.read_fault four).0) (λ five. sink (e.write_fault five))
