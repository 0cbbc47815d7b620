-- Sessions that rise by the schedule's text rise as the law of lines asks.
use Rattle.std.proofs.Common.{ℕ, ◌+◌, ◌≤◌, List, [], ◌∷◌, arith}
use Rattle.schedule_text.specs.declared.schedule.Event.{Event}
use Rattle.schedule_text.specs.declared.schedule.Event.TheVariants as event
use Rattle.schedule_text.specs.Grammar.{RisesFrom, sessions_of}
use Rattle.law_lines.specs.Scheduled.{SessionsRise}

pub sessions_rise : (events : List Event) (latest m : ℕ) → m ≤ latest + 1 → RisesFrom latest (sessions_of events) → SessionsRise m events
unfolding SessionsRise
sessions_rise [] latest m low rises = tt
sessions_rise (event.Restart e ∷ events) latest m low rises =
    let above = rises.0 in (omega (arith, low, above), sessions_rise events e (e + 1) (omega arith) rises.1)
sessions_rise (event.Reassign e g ∷ events) latest m low rises =
    let above = rises.0 in (omega (arith, low, above), sessions_rise events e (e + 1) (omega arith) rises.1)
sessions_rise (event.Write batch ∷ events) latest m low rises = sessions_rise events latest m low rises
sessions_rise (event.Read block ∷ events) latest m low rises = sessions_rise events latest m low rises
sessions_rise (event.Barrier ∷ events) latest m low rises = sessions_rise events latest m low rises
sessions_rise (event.Deliver k ∷ events) latest m low rises = sessions_rise events latest m low rises
sessions_rise (event.Settle count ∷ events) latest m low rises = sessions_rise events latest m low rises
sessions_rise (event.Drop k ∷ events) latest m low rises = sessions_rise events latest m low rises
sessions_rise (event.Lie from to bytes ∷ events) latest m low rises = sessions_rise events latest m low rises
sessions_rise (event.Stop k calls keep fill ∷ events) latest m low rises = sessions_rise events latest m low rises
sessions_rise (event.Crash node keep fill ∷ events) latest m low rises = sessions_rise events latest m low rises
sessions_rise (event.Fail node call ∷ events) latest m low rises = sessions_rise events latest m low rises
sessions_rise (event.Replace node ∷ events) latest m low rises = sessions_rise events latest m low rises
sessions_rise (event.ClientCrash ∷ events) latest m low rises = sessions_rise events latest m low rises
sessions_rise (event.Tick party ∷ events) latest m low rises = sessions_rise events latest m low rises
