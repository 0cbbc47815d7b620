use Rattle.std.proofs.Common.{◌∙◌, length, sym, ap}
use Rattle.std.specs.Option.{option_and_then}
use Rattle.verified_read.specs.declared.asked.Asked.{Asked}
use Rattle.verified_read.specs.Table.{Table, fault_of, fault_at}
use Rattle.verified_read.proofs.Opened.{fault-lookup, places-at}
use Rattle.verified_read.proofs.reads.Reads.faulted.Goals as goal

pub returns-in-Some-clause-strikes : goal.returns-in-Some-clause-strikes
returns-in-Some-clause-strikes c =
    c.fault.ensures.strikes ∙ ap (λ o. option_and_then (λ (v : Asked). fault_of v.strikes) o) c.in-Some.ensures.value
    ∙ sym (fault-lookup c.args.read c.self.inside.asked.entries)
    ∙ ap (λ (t : Table). fault_at c.args.read t.asked) c.self.view_is

pub returns-in-Some-clause-each : goal.returns-in-Some-clause-each
returns-in-Some-clause-each c =
    c.fault.ensures.each c.args.self.now.shape.replicas
    (places-at c.self.inside.geometry c.args.read c.in-Some.entry.now c.self.inside.asked.entries c.self.invariant.2 (sym c.in-Some.ensures.value) ∙ ap (λ (t : Table). t.shape.replicas) c.self.view_is)

pub returns-in-None-clause-strikes : goal.returns-in-None-clause-strikes
returns-in-None-clause-strikes c =
    ap (λ o. option_and_then (λ (v : Asked). fault_of v.strikes) o) c.in-None.ensures.value
    ∙ sym (fault-lookup c.args.read c.self.inside.asked.entries)
    ∙ ap (λ (t : Table). fault_at c.args.read t.asked) c.self.view_is
