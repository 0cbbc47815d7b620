-- Of a whole run by the rules: no fault beside a sound server, and none at all in a quiet run.
use Rattle.std.proofs.Common.{◌≡◌, ℕ, ◌<◌, ◌≤◌, false, List, [], ◌∷◌, None, refl, arith}
use Rattle.std.specs.List.{list_any, AllByRecursion}
use Rattle.salus_types.specs.Volume.{Shape}
use Rattle.salus_types.specs.declared.names.NodeName.{NodeName}
use Rattle.salus_types.specs.declared.names.Sender.TheVariants as sender
use Rattle.schedule_text.specs.Limits.{IsWithinLimits}
use Rattle.schedule_text.specs.declared.schedule.Volume.{Volume}
use Rattle.schedule_text.specs.declared.schedule.Event.{Event}
use Rattle.printed_lines.specs.declared.line.Line.{Line}
use Rattle.printed_lines.specs.declared.line.Line.TheVariants as line
use Rattle.volume_model.specs.Contents.{region_of}
use Rattle.salus_model.specs.declared.trace.TraceStep.{TraceStep}
use Rattle.salus_model.specs.Following.{Posted, Follows}
use Rattle.salus_model.specs.Forgery.{NoForgery}
use Rattle.salus_model.specs.Guarding.{is_lied_for}
use Rattle.salus_model.specs.Hearing.{Past}
use Rattle.salus_model.specs.Waiting.{Question}
use Rattle.salus_model.specs.Answering.{first_strike}
use Rattle.salus_model.specs.Due.{history_from}
use Rattle.salus_model.specs.Seen.{strings_of, NoCollision}
use Rattle.salus_model.specs.Complete.{IsSound}
use Rattle.salus_model.specs.Quiet.{Quiet}
use Rattle.client_rules.specs.Rules.{new_client}
use Rattle.run_rules.specs.Knowing.{fresh}
use Rattle.run_rules.specs.Run.{IsByRules, formatted_first}
use Rattle.run_rules.specs.Running.{formatted}
use Rattle.law_history.proofs.Steps.{steps_of_all}
use Rattle.law_reads.proofs.Relay.{both_false}
use Rattle.law_claimed.specs.Accounting.{is_fault, has_fault, history_of}
use Rattle.law_asked.proofs.Run.{first_along, run_given}
use Rattle.law_complete.specs.Faulting.{IsFaultAt, HasNoFaultAt}
use Rattle.law_complete.proofs.FaultsQuietly.{none_lied, quiet_sound}
use Rattle.law_complete.proofs.Unstruck.{faultless_from}

-- at first nobody has a strike
first_unstruck : (shape : Shape) (name : NodeName) (q : Question) → region_of shape q.block ≡ name.region → first_strike shape q name.replica [] ≡ None
unfolding first_strike
first_unstruck shape name q region = refl

-- THE LAW.
pub no_faults : (volume : Volume) (events : List Event) (posts : List Posted) (trace : List TraceStep) → IsWithinLimits (record { volume = volume; events = events })
    → Follows events posts trace → NoCollision volume events posts trace → NoForgery volume events posts trace → IsByRules volume (formatted_first volume) posts trace
    → is_lied_for events sender.Client ≡ false → (name : NodeName) → name.replica < volume.geometry.replicas → IsSound events trace name
    → HasNoFaultAt volume.geometry name (history_from volume events posts [] trace)
no_faults volume events posts trace limits follows apart unforged by unlied name many sound =
    let strings : List (List ℕ) = strings_of volume.geometry (history_from volume events posts [] trace) in
    let none = steps_of_all volume events posts trace apart in
    faultless_from volume events posts trace limits strings none unlied name sound (by.nodes name) many trace [] [] 1 1 (new_client volume.geometry) (fresh volume.geometry name.region (formatted volume name))
    (first_along volume events posts trace limits strings none unlied name sound (by.nodes name)) (run_given volume events posts trace limits follows apart unforged by unlied name sound) (first_unstruck volume.geometry name) tt

-- ---- quiet runs

module _ (shape : Shape) where
  line_quiet : (l : Line) → ((b : ℕ) → IsFaultAt shape (record { region = region_of shape b; replica = 0 }) l → ⊥) → is_fault l ≡ false
  line_quiet (line.Fault v b strikes) none = absurd (none b refl)
  line_quiet other none = refl

  lines_quiet : (lines : List Line) → ((b : ℕ) → AllByRecursion (λ l. IsFaultAt shape (record { region = region_of shape b; replica = 0 }) l → ⊥) lines) → has_fault lines ≡ false
  lines_quiet [] none = refl
  lines_quiet (l ∷ lines) none = both_false (is_fault l) (has_fault lines) (line_quiet l (λ b. (none b).0)) (lines_quiet lines (λ b. (none b).1))

  history_quiet : (history : List Past) → ((b : ℕ) → HasNoFaultAt shape (record { region = region_of shape b; replica = 0 }) history) → list_any (λ p. has_fault p.lines) history ≡ false
  history_quiet [] none = refl
  history_quiet (p ∷ history) none = both_false (has_fault p.lines) (list_any (λ q. has_fault q.lines) history) (lines_quiet p.lines (λ b. (none b).0)) (history_quiet history (λ b. (none b).1))

pub quiet_faultless : (volume : Volume) (events : List Event) (posts : List Posted) (trace : List TraceStep) → IsWithinLimits (record { volume = volume; events = events })
    → Follows events posts trace → NoCollision volume events posts trace → NoForgery volume events posts trace → IsByRules volume (formatted_first volume) posts trace
    → Quiet events posts trace → list_any (λ p. has_fault p.lines) (history_of volume events posts trace) ≡ false
quiet_faultless volume events posts trace limits follows apart unforged by quiet =
    let some : 1 ≤ volume.geometry.replicas = limits.volume.small_groups.0 in
    history_quiet volume.geometry (history_from volume events posts [] trace)
    (λ b. no_faults volume events posts trace limits follows apart unforged by (none_lied events quiet.events_quiet sender.Client) (record { region = region_of volume.geometry b; replica = 0 }) (omega (arith, some))
    (quiet_sound events quiet.events_quiet posts trace follows (record { region = region_of volume.geometry b; replica = 0 })))
