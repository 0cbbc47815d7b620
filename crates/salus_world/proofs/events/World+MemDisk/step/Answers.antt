use Rattle.std.proofs.Common.{List, ℕ, sym, subst}
use Rattle.schedule_text.specs.declared.schedule.Event.{Event}
use Rattle.schedule_text.specs.declared.schedule.Event.TheVariants as event
use Rattle.salus_world.specs.Kept.{Does, IsExact, PassesAt}
use Rattle.replica_rules.specs.Rules.{Receives}
use Rattle.salus_world.proofs.Acting.{within_at}
use Rattle.salus_world.proofs.events.World+MemDisk.step.Goals as goal

pub returns-in_ok-request-in-Write-clause-does : goal.returns-in_ok-request-in-Write-clause-does
returns-in_ok-request-in-Write-clause-does c = subst (λ (e : Event). Does c.args.number e c.args.self.now c.request.new.self) (sym c.in-Write.is) c.in_ok-request-in-Write.ensures.does

pub returns-in_ok-request-in-Read-clause-does : goal.returns-in_ok-request-in-Read-clause-does
returns-in_ok-request-in-Read-clause-does c = subst (λ (e : Event). Does c.args.number e c.args.self.now c.request-in-Read.new.self) (sym c.in-Read.is) c.in_ok-request-in-Read.ensures.does

pub returns-in_ok-request-in-Barrier-clause-does : goal.returns-in_ok-request-in-Barrier-clause-does
returns-in_ok-request-in-Barrier-clause-does c = subst (λ (e : Event). Does c.args.number e c.args.self.now c.request-in-Barrier.new.self) (sym c.in-Barrier.is) c.in_ok-request-in-Barrier.ensures.does

pub returns-in_ok-deliver-in-Deliver-clause-does : goal.returns-in_ok-deliver-in-Deliver-clause-does
returns-in_ok-deliver-in-Deliver-clause-does c = subst (λ (e : Event). Does c.args.number e c.args.self.now c.deliver.new.self) (sym c.in-Deliver.is) c.in_ok-deliver-in-Deliver.ensures.does

pub returns-in_ok-settle-in-Settle-clause-does : goal.returns-in_ok-settle-in-Settle-clause-does
returns-in_ok-settle-in-Settle-clause-does c = subst (λ (e : Event). Does c.args.number e c.args.self.now c.settle.new.self) (sym c.in-Settle.is) (c.in_ok-settle-in-Settle.ensures c.args.number)

pub returns-in_ok-drop_message-in-Drop-clause-does : goal.returns-in_ok-drop_message-in-Drop-clause-does
returns-in_ok-drop_message-in-Drop-clause-does c = subst (λ (e : Event). Does c.args.number e c.args.self.now c.drop_message.new.self) (sym c.in-Drop.is) c.in_ok-drop_message-in-Drop.ensures

pub returns-in_ok-lie-in-Lie-clause-does : goal.returns-in_ok-lie-in-Lie-clause-does
returns-in_ok-lie-in-Lie-clause-does c = subst (λ (e : Event). Does c.args.number e c.args.self.now c.lie.new.self) (sym c.in-Lie.is) (subst (λ (l : List ℕ). Does c.args.number (event.Lie c.in-Lie.from c.in-Lie.to l) c.args.self.now c.lie.new.self) c.as_slice.ensures (c.in_ok-lie-in-Lie.ensures.does c.args.number))

pub returns-in_ok-stop-in-Stop-clause-does : goal.returns-in_ok-stop-in-Stop-clause-does
returns-in_ok-stop-in-Stop-clause-does c = subst (λ (e : Event). Does c.args.number e c.args.self.now c.stop.new.self) (sym c.in-Stop.is) c.in_ok-stop-in-Stop.ensures.does

pub returns-in_ok-crash-in-Crash-clause-does : goal.returns-in_ok-crash-in-Crash-clause-does
returns-in_ok-crash-in-Crash-clause-does c = subst (λ (e : Event). Does c.args.number e c.args.self.now c.crash.new.self) (sym c.in-Crash.is) (c.in_ok-crash-in-Crash.ensures.does c.args.number)

pub returns-in_ok-fail-in-Fail-clause-does : goal.returns-in_ok-fail-in-Fail-clause-does
returns-in_ok-fail-in-Fail-clause-does c = subst (λ (e : Event). Does c.args.number e c.args.self.now c.fail.new.self) (sym c.in-Fail.is) (c.in_ok-fail-in-Fail.ensures.does c.args.number)

pub returns-in_ok-replace-in-Replace-clause-does : goal.returns-in_ok-replace-in-Replace-clause-does
returns-in_ok-replace-in-Replace-clause-does c = subst (λ (e : Event). Does c.args.number e c.args.self.now c.replace.new.self) (sym c.in-Replace.is) (c.in_ok-replace-in-Replace.ensures c.args.number)

pub returns-in_ok-tick-in-Tick-clause-does : goal.returns-in_ok-tick-in-Tick-clause-does
returns-in_ok-tick-in-Tick-clause-does c = subst (λ (e : Event). Does c.args.number e c.args.self.now c.tick.new.self) (sym c.in-Tick.is) (c.in_ok-tick-in-Tick.ensures.does c.args.number)

pub returns-in-ClientCrash-clause-does : goal.returns-in-ClientCrash-clause-does
returns-in-ClientCrash-clause-does c = subst (λ (e : Event). Does c.args.number e c.args.self.now c.crash_client.new.self) (sym c.in-ClientCrash.is) (c.crash_client.ensures.does c.args.number)

pub returns-in_ok-request-in-Restart-clause-does : goal.returns-in_ok-request-in-Restart-clause-does
returns-in_ok-request-in-Restart-clause-does c = subst (λ (e : Event). Does c.args.number e c.args.self.now c.request-in-Restart.new.self) (sym c.in-Restart.is) c.in_ok-request-in-Restart.ensures.does

pub returns-in_ok-request-in-Reassign-clause-does : goal.returns-in_ok-request-in-Reassign-clause-does
returns-in_ok-request-in-Reassign-clause-does c = subst (λ (e : Event). Does c.args.number e c.args.self.now c.request-in-Reassign.new.self) (sym c.in-Reassign.is) c.in_ok-request-in-Reassign.ensures.does

pub request-requires-clause-within : goal.request-requires-clause-within
request-requires-clause-within c = within_at c.args.self.now.geometry c.args.event (event.Write c.in-Write.batch) c.in-Write.is c.requires.within

pub request-requires-in-Read-clause-within : goal.request-requires-in-Read-clause-within
request-requires-in-Read-clause-within c = within_at c.args.self.now.geometry c.args.event (event.Read c.in-Read.block) c.in-Read.is c.requires.within

pub request-requires-in-Barrier-clause-within : goal.request-requires-in-Barrier-clause-within
request-requires-in-Barrier-clause-within c = within_at c.args.self.now.geometry c.args.event event.Barrier c.in-Barrier.is c.requires.within

pub request-requires-in-Restart-clause-within : goal.request-requires-in-Restart-clause-within
request-requires-in-Restart-clause-within c = within_at c.args.self.now.geometry c.args.event (event.Restart c.in-Restart.session) c.in-Restart.is c.requires.within

pub request-requires-in-Reassign-clause-within : goal.request-requires-in-Reassign-clause-within
request-requires-in-Reassign-clause-within c = within_at c.args.self.now.geometry c.args.event (event.Reassign c.in-Reassign.session c.in-Reassign.region) c.in-Reassign.is c.requires.within

pub returns-in_ok-request-in-Write-clause-exact : goal.returns-in_ok-request-in-Write-clause-exact
returns-in_ok-request-in-Write-clause-exact c = subst (λ (e : Event). IsExact e c.args.self.now c.request.new.self) (sym c.in-Write.is) tt

pub returns-in_ok-request-in-Read-clause-exact : goal.returns-in_ok-request-in-Read-clause-exact
returns-in_ok-request-in-Read-clause-exact c = subst (λ (e : Event). IsExact e c.args.self.now c.request-in-Read.new.self) (sym c.in-Read.is) tt

pub returns-in_ok-request-in-Barrier-clause-exact : goal.returns-in_ok-request-in-Barrier-clause-exact
returns-in_ok-request-in-Barrier-clause-exact c = subst (λ (e : Event). IsExact e c.args.self.now c.request-in-Barrier.new.self) (sym c.in-Barrier.is) tt

pub returns-in_ok-request-in-Restart-clause-exact : goal.returns-in_ok-request-in-Restart-clause-exact
returns-in_ok-request-in-Restart-clause-exact c = subst (λ (e : Event). IsExact e c.args.self.now c.request-in-Restart.new.self) (sym c.in-Restart.is) tt

pub returns-in_ok-request-in-Reassign-clause-exact : goal.returns-in_ok-request-in-Reassign-clause-exact
returns-in_ok-request-in-Reassign-clause-exact c = subst (λ (e : Event). IsExact e c.args.self.now c.request-in-Reassign.new.self) (sym c.in-Reassign.is) tt

pub returns-in_ok-deliver-in-Deliver-clause-exact : goal.returns-in_ok-deliver-in-Deliver-clause-exact
returns-in_ok-deliver-in-Deliver-clause-exact c = subst (λ (e : Event). IsExact e c.args.self.now c.deliver.new.self) (sym c.in-Deliver.is) c.in_ok-deliver-in-Deliver.ensures.moments

pub returns-in_ok-settle-in-Settle-clause-exact : goal.returns-in_ok-settle-in-Settle-clause-exact
returns-in_ok-settle-in-Settle-clause-exact c = subst (λ (e : Event). IsExact e c.args.self.now c.settle.new.self) (sym c.in-Settle.is) tt

pub returns-in_ok-drop_message-in-Drop-clause-exact : goal.returns-in_ok-drop_message-in-Drop-clause-exact
returns-in_ok-drop_message-in-Drop-clause-exact c = subst (λ (e : Event). IsExact e c.args.self.now c.drop_message.new.self) (sym c.in-Drop.is) tt

pub returns-in_ok-lie-in-Lie-clause-exact : goal.returns-in_ok-lie-in-Lie-clause-exact
returns-in_ok-lie-in-Lie-clause-exact c = subst (λ (e : Event). IsExact e c.args.self.now c.lie.new.self) (sym c.in-Lie.is) (subst (λ (l : List ℕ). PassesAt c.in-Lie.to (Receives c.in-Lie.from l) c.args.self.now c.lie.new.self) c.as_slice.ensures c.in_ok-lie-in-Lie.ensures.moments)

pub returns-in_ok-stop-in-Stop-clause-exact : goal.returns-in_ok-stop-in-Stop-clause-exact
returns-in_ok-stop-in-Stop-clause-exact c = subst (λ (e : Event). IsExact e c.args.self.now c.stop.new.self) (sym c.in-Stop.is) c.in_ok-stop-in-Stop.ensures.exact

pub returns-in_ok-crash-in-Crash-clause-exact : goal.returns-in_ok-crash-in-Crash-clause-exact
returns-in_ok-crash-in-Crash-clause-exact c = subst (λ (e : Event). IsExact e c.args.self.now c.crash.new.self) (sym c.in-Crash.is) c.in_ok-crash-in-Crash.ensures.exact

pub returns-in_ok-fail-in-Fail-clause-exact : goal.returns-in_ok-fail-in-Fail-clause-exact
returns-in_ok-fail-in-Fail-clause-exact c = subst (λ (e : Event). IsExact e c.args.self.now c.fail.new.self) (sym c.in-Fail.is) c.in_ok-fail-in-Fail.ensures.exact

pub returns-in_ok-replace-in-Replace-clause-exact : goal.returns-in_ok-replace-in-Replace-clause-exact
returns-in_ok-replace-in-Replace-clause-exact c = subst (λ (e : Event). IsExact e c.args.self.now c.replace.new.self) (sym c.in-Replace.is) tt

pub returns-in_ok-tick-in-Tick-clause-exact : goal.returns-in_ok-tick-in-Tick-clause-exact
returns-in_ok-tick-in-Tick-clause-exact c = subst (λ (e : Event). IsExact e c.args.self.now c.tick.new.self) (sym c.in-Tick.is) c.in_ok-tick-in-Tick.ensures.moments

pub returns-in-ClientCrash-clause-exact : goal.returns-in-ClientCrash-clause-exact
returns-in-ClientCrash-clause-exact c = subst (λ (e : Event). IsExact e c.args.self.now c.crash_client.new.self) (sym c.in-ClientCrash.is) tt
