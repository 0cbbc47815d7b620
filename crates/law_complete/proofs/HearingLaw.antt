-- The law, of a whole run.
use Rattle.std.proofs.Common.{◌≡◌, ℕ, ◌≤◌, false, List, [], refl, arith}
use Rattle.std.specs.List.{AllByRecursion}
use Rattle.salus_types.specs.declared.names.NodeName.{NodeName}
use Rattle.salus_types.specs.declared.names.Sender.TheVariants as sender
use Rattle.salus_message.specs.declared.small.Committed.{Committed}
use Rattle.salus_message.specs.declared.wire.Message.TheVariants as message
use Rattle.schedule_text.specs.Limits.{IsWithinLimits}
use Rattle.schedule_text.specs.declared.schedule.Volume.{Volume}
use Rattle.schedule_text.specs.declared.schedule.Event.{Event}
use Rattle.merkle_region.specs.Tree.{NoTwoCollide}
use Rattle.salus_model.specs.declared.trace.TraceStep.{TraceStep}
use Rattle.salus_model.specs.Judge.{last_number}
use Rattle.salus_model.specs.Following.{Posted, Follows}
use Rattle.salus_model.specs.Forgery.{NoForgery}
use Rattle.salus_model.specs.Guarding.{is_lied_for}
use Rattle.salus_model.specs.Hearing.{News, Asks, Says, Crashes, Silence, Past}
use Rattle.salus_model.specs.Due.{history_from}
use Rattle.salus_model.specs.Complete.{IsSound}
use Rattle.salus_model.specs.Seen.{strings_of, NoCollision}
use Rattle.client_rules.specs.Rules.{new_client}
use Rattle.run_rules.specs.Knowing.{fresh}
use Rattle.run_rules.specs.Run.{IsByRules, formatted_first}
use Rattle.run_rules.specs.Running.{formatted}
use Rattle.list_lemmas.proofs.Members.{among_all, all_among}
use Rattle.law_history.proofs.Steps.{steps_of_all}
use Rattle.law_asked.proofs.Run.{first_along, run_given}
use Rattle.law_claimed.specs.Accounting.{history_of}
use Rattle.law_claimed.specs.Acknowledging.{HearsWithin, ClaimsWithin}
use Rattle.law_complete.proofs.HearingHeard.{heard_from}

hears : (session last : ℕ) (x : News) → ((name : NodeName) (q : Committed) → x ≡ Says name (message.Committed q) → q.session ≡ session → q.front ≤ last) → HearsWithin session last x
hears session last (Says name (message.Committed m)) each = each name m refl
hears session last (Says name (message.Prepared m)) each = tt
hears session last (Says name (message.Gathered m)) each = tt
hears session last (Says name (message.Staged m)) each = tt
hears session last (Says name (message.Switched m)) each = tt
hears session last (Says name (message.Answer m)) each = tt
hears session last (Says name (message.Part m)) each = tt
hears session last (Says name (message.Ask m)) each = tt
hears session last (Says name (message.Gather m)) each = tt
hears session last (Says name (message.Stage m)) each = tt
hears session last (Says name (message.Switch m)) each = tt
hears session last (Says name (message.Dump m)) each = tt
hears session last (Says name (message.Dumped m)) each = tt
hears session last (Asks r) each = tt
hears session last Crashes each = tt
hears session last Silence each = tt

-- THE LAW.
pub claims_within : (volume : Volume) (events : List Event) (posts : List Posted) (trace : List TraceStep) → IsWithinLimits (record { volume = volume; events = events }) → Follows events posts trace
    → NoCollision volume events posts trace → NoForgery volume events posts trace → IsByRules volume (formatted_first volume) posts trace → is_lied_for events sender.Client ≡ false
    → ((name : NodeName) → IsSound events trace name) → ClaimsWithin (history_of volume events posts trace)
claims_within volume events posts trace limits follows apart unforged by unlied sound =
    let history : List Past = history_from volume events posts [] trace in
    let strings : List (List ℕ) = strings_of volume.geometry history in
    let none : NoTwoCollide strings = steps_of_all volume events posts trace apart in
    let of : (name : NodeName) → AllByRecursion (λ p. (q : Committed) → p.news ≡ Says name (message.Committed q) → q.session ≡ p.before.now.session → q.front ≤ last_number p.before) history =
    λ name. (let given = run_given volume events posts trace limits follows apart unforged by unlied name (sound name) in
    heard_from volume events posts trace limits strings none unlied name (sound name) (by.nodes name) given.given trace [] [] 1 1 (new_client volume.geometry)
    (fresh volume.geometry name.region (formatted volume name)) (first_along volume events posts trace limits strings none unlied name (sound name) (by.nodes name)) given
    (λ k counted low post at from q reads. absurd (omega (arith, counted, low))) tt) in
    all_among (λ p. HearsWithin p.before.now.session (last_number p.before) p.news) history
    (λ p among. hears p.before.now.session (last_number p.before) p.news
    (λ name q is same. among_all (λ (r : Past). (x : Committed) → r.news ≡ Says name (message.Committed x) → x.session ≡ r.before.now.session → x.front ≤ last_number r.before) history p among (of name) q is same))
