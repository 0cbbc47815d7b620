-- Along a whole run: what the disks of the nodes that count have, after each step.
use Rattle.std.proofs.Common.{◌≡◌, ℕ, false, List, [], ◌∷◌}
use Rattle.salus_types.specs.declared.names.NodeName.{NodeName}
use Rattle.salus_types.specs.declared.names.Sender.TheVariants as sender
use Rattle.merkle_region.specs.Tree.{NoTwoCollide}
use Rattle.schedule_text.specs.Limits.{IsWithinLimits}
use Rattle.schedule_text.specs.declared.schedule.Event.{Event}
use Rattle.schedule_text.specs.declared.schedule.Volume.{Volume}
use Rattle.salus_model.specs.declared.trace.TraceStep.{TraceStep}
use Rattle.salus_model.specs.Due.{past_of, history_from}
use Rattle.salus_model.specs.Following.{Follows, Posted}
use Rattle.salus_model.specs.Forgery.{NoForgery}
use Rattle.salus_model.specs.Guarding.{is_lied_for, Guarded}
use Rattle.salus_model.specs.Hearing.{Past, news_of}
use Rattle.salus_model.specs.Seen.{NoCollision}
use Rattle.client_rules.specs.State as state
use Rattle.client_rules.specs.Rules.{client_step, new_client}
use Rattle.run_rules.specs.Knowing.{KnownNode}
use Rattle.run_rules.specs.Run.{IsByRules, formatted_first}
use Rattle.run_rules.specs.Running.{after}
use Rattle.law_lines.specs.Ready.{event_after}
use Rattle.law_posts.proofs.Along.{top_after}
use Rattle.law_kept.proofs.Along.{IsAlong, IsGiven}
use Rattle.law_kept.proofs.Next.{along_then}
use Rattle.law_kept.proofs.Starting.{known_first, first_along}
use Rattle.law_kept.proofs.Whole.{AreGiven, given_here, given_rest, strings, none, guarded_first, all_given}
use Rattle.law_covered.specs.Claiming.{CountedThen}
use Rattle.law_covered.specs.Coverage.{CoveredFrom, CoveredThroughout}
use Rattle.law_covered.proofs.Along.{AreRight, first_right, right_then}
use Rattle.law_covered.proofs.Claimed.{AreSettled, settled_then}
use Rattle.law_covered.proofs.Covering.{covered_here}

module _ (volume : Volume) (events : List Event) (posts : List Posted) (limits : IsWithinLimits (record { volume = volume; events = events })) (strings_now : List (List ℕ)) (apart : NoTwoCollide strings_now)
    (unlied : is_lied_for events sender.Client ≡ false) where
  covered_from : (steps : List TraceStep) (history : List Past) (n top : ℕ) (c : state.Client) (known : NodeName → KnownNode) (sent : ℕ) → (a : IsAlong volume events posts limits strings_now apart history n top c known sent)
      → AreRight volume events posts limits strings_now apart unlied history c known sent → AreSettled volume events posts limits strings_now apart unlied history a.reached.now
      → AreGiven volume events posts limits strings_now apart unlied history n top c known sent steps → CoveredFrom volume events posts history known steps
  unfolding CoveredFrom
  covered_from [] history n top c known sent a right settled given = covered_here volume events posts limits strings_now apart unlied history n top c known sent a right settled
  covered_from (t ∷ steps) history n top c known sent a right settled given =
      let here : IsGiven volume events posts limits strings_now apart history n top c known sent t = given_here volume events posts limits strings_now apart unlied history n top c known sent t steps a given in (
        covered_here volume events posts limits strings_now apart unlied history n top c known sent a right settled,
        covered_from steps (past_of volume events posts history t ∷ history) (event_after n t.event (news_of posts t)) (top_after top (news_of posts t)) (client_step volume posts c t).client
            (λ name. after volume.geometry posts name (known name) t) t.sent (along_then volume events posts limits strings_now apart unlied history n top c known sent a t here)
            (right_then volume events posts limits strings_now apart unlied history n top c known sent a t here right)
            (settled_then volume events posts limits strings_now apart unlied history n top c known sent a t here settled)
            (given_rest volume events posts limits strings_now apart unlied history n top c known sent t steps given),
      )

pub nodes_cover : (volume : Volume) (events : List Event) (posts : List Posted) (trace : List TraceStep) → IsWithinLimits (record { volume = volume; events = events }) → Follows events posts trace
    → NoCollision volume events posts trace → NoForgery volume events posts trace → IsByRules volume (formatted_first volume) posts trace → Guarded volume events posts trace
    → CoveredThroughout volume events posts trace
unfolding CountedThen
nodes_cover volume events posts trace limits follows apart unforged rules guarded =
    let all = strings volume events posts trace limits follows apart unforged rules guarded in
    let no_two = none volume events posts trace limits follows apart unforged rules guarded in
    covered_from volume events posts limits all no_two guarded.client trace [] 1 1 (new_client volume.geometry) (known_first volume events posts limits) 0
    (first_along volume events posts limits all no_two
    (guarded_first volume events posts trace limits follows apart unforged rules guarded (history_from volume events posts [] trace) guarded.groups))
    (first_right volume events posts limits all no_two guarded.client) (λ k name claim inside said nothing. absurd nothing) (all_given volume events posts trace limits follows apart unforged rules guarded)
