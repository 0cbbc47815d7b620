-- The steps of an event are legal one after the other.
use Rattle.std.proofs.Common.{◌≡◌, ◌⊎◌, ℕ, ◌+◌, ◌<◌, ◌≤◌, ◌∙◌, List, [], ◌∷◌, ◌++◌, Some, inl, inr, refl, ap, sym, subst, arith, append-nil}
use Rattle.std.specs.Prelude.{flat_map}
use Rattle.std.specs.List.{AllByRecursion}
use Rattle.merkle_region.specs.Tree.{IsAmong, NoTwoCollide}
use Rattle.schedule_text.specs.declared.schedule.Volume.{Volume}
use Rattle.schedule_text.specs.declared.schedule.Event.{Event}
use Rattle.schedule_text.specs.Grammar.{RisesFrom, sessions_of}
use Rattle.printed_lines.specs.declared.line.Line.{Line}
use Rattle.salus_model.specs.declared.trace.TraceStep.{TraceStep}
use Rattle.salus_model.specs.Judge.{Judge, event_at, judged_all, IsLegalLine, IsKeptLine, AlongLines}
use Rattle.salus_model.specs.Following.{Posted}
use Rattle.salus_model.specs.Hearing.{Past, news_of, judge_of, phase_of}
use Rattle.salus_model.specs.Due.{past_of, pasts_from, history_from}
use Rattle.salus_model.specs.Seen.{strings_of}
use Rattle.list_lemmas.proofs.Members.{among_all}
use Rattle.law_lemmas.proofs.Settled.{settled-wider}
use Rattle.law_lemmas.proofs.Quiet.{IsQuiet}
use Rattle.law_lemmas.proofs.Judged.{judged_all-append}
use Rattle.law_history.specs.Keeping.{KeepsChoiceFrom}
use Rattle.law_history.specs.Choosing.{ChoosesRightFrom}
use Rattle.salus_model.specs.Forgery.{IsUnforged}
use Rattle.law_history.specs.Showing.{records_shown}
use Rattle.law_history.proofs.Fairly.{along_joined}
use Rattle.law_history.proofs.Joined.{good_wider}
use Rattle.law_history.proofs.Standing.{IsReached, IsStanding}
use Rattle.law_history.proofs.Stepped.{IsRising}
use Rattle.law_history.proofs.Shown.{ShowsTagged, seen_later, quiet_step, asked_step, choice_now}
use Rattle.law_history.proofs.Events.{ArePlain, IsAskedStep}
use Rattle.law_history.proofs.Placed.{rises_any, rises_asked}
use Rattle.law_history.proofs.Phases.{phase-wider}

module _ (volume : Volume) (events : List Event) (strings : List (List ℕ)) (none : NoTwoCollide strings) (posts : List Posted) where
  abbrev pub pasts : List Past → List TraceStep → List Past
  pasts = pasts_from volume events posts

  abbrev pub after : List Past → List TraceStep → List Past
  after = history_from volume events posts

  abbrev pub judge_at : List Past → Judge
  judge_at history = judge_of volume.geometry events history

  abbrev pub lines_of : List Past → List Line
  lines_of ps = flat_map (λ p. p.lines) ps

  abbrev pub Legal : Judge → List Line → Type 0
  Legal judge lines = AlongLines (IsLegalLine volume.geometry events) events judge lines

  -- at each step what its news shows is tagged, if what was known before is known still
  abbrev pub AllTagged : List Past → List TraceStep → Type 0
  AllTagged history [] = Unit {0}
  AllTagged history (t ∷ steps) =
      (IsReached volume events strings history (judge_at history) → ShowsTagged volume events strings none posts (past_of volume events posts history t))
      × AllTagged (past_of volume events posts history t ∷ history) steps

  pub tagged_always : (steps : List TraceStep) (history : List Past)
      → AllByRecursion (λ p. AllByRecursion (λ rec. IsUnforged volume p.before rec) (records_shown p.news)) (pasts history steps) → AllTagged history steps
  unfolding pasts_from
  tagged_always [] history each = tt
  tagged_always (t ∷ steps) history each =
      let p : Past = past_of volume events posts history t in
      ((λ reached rec among. among_all (λ r. IsUnforged volume p.before r) (records_shown p.news) rec among each.0), tagged_always steps (p ∷ history) each.1)

  pub tagged_here : (here rest : List TraceStep) (history : List Past) → AllTagged history (here ++ rest) → AllTagged history here
  tagged_here [] rest history each = tt
  tagged_here (t ∷ here) rest history each = (each.0, tagged_here here rest (past_of volume events posts history t ∷ history) each.1)

  pub tagged_rest : (here rest : List TraceStep) (history : List Past) → AllTagged history (here ++ rest) → AllTagged (after history here) rest
  unfolding history_from
  tagged_rest [] rest history each = each
  tagged_rest (t ∷ here) rest history each = tagged_rest here rest (past_of volume events posts history t ∷ history) each.1

  abbrev pub IsShown : List Past → Type 0
  IsShown history = (x : List ℕ) → IsAmong x (strings_of volume.geometry history) → IsAmong x strings

  standing_wider : (n top more : ℕ) (history : List Past) (judge : Judge) → top ≤ more → IsStanding volume events strings n top history judge
      → IsStanding volume events strings (n + 1) more history judge
  standing_wider n top more history judge h standing =
      let low = standing.kept.low in
      record {
        is = standing.is;
        settled = settled-wider volume.geometry judge top more h standing.settled;
        phase = phase-wider events judge top more (phase_of history) h standing.phase;
        good = good_wider volume.geometry events n (n + 1) _ (omega arith) standing.good;
        kept = record { late = standing.kept.late; low = omega arith; answered = λ v among. (let below = standing.kept.answered v among in omega arith); acked = standing.kept.acked };
        heard = standing.heard;
        reached = standing.reached;
      }

  pub chooses_append : (here rest : List TraceStep) (history : List Past) → ChoosesRightFrom volume events posts history here
      → ChoosesRightFrom volume events posts (after history here) rest → ChoosesRightFrom volume events posts history (here ++ rest)
  unfolding ChoosesRightFrom history_from
  chooses_append [] rest history front back = back
  chooses_append (t ∷ here) rest history front back = (front.0, chooses_append here rest (past_of volume events posts history t ∷ history) front.1 back)

  pub keeps_front : (here rest : List TraceStep) (history : List Past) → KeepsChoiceFrom volume events posts history (here ++ rest) → KeepsChoiceFrom volume events posts history here
  unfolding KeepsChoiceFrom
  keeps_front [] rest history all = tt
  keeps_front (t ∷ here) rest history all = (all.0, keeps_front here rest (past_of volume events posts history t ∷ history) all.1)

  pub keeps_back : (here rest : List TraceStep) (history : List Past) → KeepsChoiceFrom volume events posts history (here ++ rest) → KeepsChoiceFrom volume events posts (after history here) rest
  unfolding KeepsChoiceFrom history_from
  keeps_back [] rest history all = all
  keeps_back (t ∷ here) rest history all = keeps_back here rest (past_of volume events posts history t ∷ history) all.1

  -- steps that are legal, and after which the history stands
  pub record IsRun (n top : ℕ) (history : List Past) (steps : List TraceStep) : Type 0 where
    pub legal : Legal (judge_at history) (lines_of (pasts history steps))
    pub judged : judged_all events (judge_at history) (lines_of (pasts history steps)) ≡ judge_at (after history steps)
    pub standing : IsStanding volume events strings n top (after history steps) (judge_at (after history steps))
    pub chooses : ChoosesRightFrom volume events posts history steps
    pub keeps : KeepsChoiceFrom volume events posts history steps → AlongLines IsKeptLine events (judge_at history) (lines_of (pasts history steps))

  pub quiet_run : (n top : ℕ) (steps : List TraceStep) (history : List Past) → IsStanding volume events strings n top history (judge_at history)
      → ((t : TraceStep) → IsAmong t steps → IsQuiet (news_of posts t)) → AllTagged history steps → IsShown (after history steps) → IsRun n top history steps
  unfolding AlongLines judged_all pasts_from history_from ChoosesRightFrom KeepsChoiceFrom
  quiet_run n top [] history standing quiet tagged shown = record { legal = tt; judged = refl; standing = standing; chooses = tt; keeps = λ k. tt }
  quiet_run n top (t ∷ steps) history standing quiet tagged shown =
      let p : Past = past_of volume events posts history t in
      let step = quiet_step volume events strings none posts n top history t standing (quiet t (inl refl))
      (tagged.0 standing.reached)
      (λ x m. shown x (seen_later volume events posts steps (p ∷ history) x m)) in
      let rest = quiet_run n top steps (p ∷ history) step.standing (λ u among. quiet u (inr among)) tagged.1 shown in
      record {
        legal = along_joined (IsLegalLine volume.geometry events) events (judge_at history) p.lines (lines_of (pasts (p ∷ history) steps)) step.legal rest.legal;
        judged = judged_all-append events (judge_at history) p.lines (lines_of (pasts (p ∷ history) steps)) ∙ rest.judged;
        standing = rest.standing;
        chooses = (
          choice_now volume events strings none posts n top history t standing (tagged.0 standing.reached)
              (λ x m. shown x (seen_later volume events posts steps (p ∷ history) x m)),
          rest.chooses,
        );
        keeps = λ k. along_joined IsKeptLine events (judge_at history) p.lines (lines_of (pasts (p ∷ history) steps)) (step.keeps k.0) (rest.keeps k.1);
      }

  asked_run : (n top more : ℕ) (history : List Past) (e : Event) (steps : List TraceStep) → 0 < n → IsStanding volume events strings n top history (judge_at history)
      → event_at events n ≡ Some e → (asked : IsAskedStep posts n e steps) → IsRising volume events strings top more asked.r
      → AllTagged history (asked.step ∷ []) → IsShown (after history (asked.step ∷ [])) → IsRun (n + 1) more history (asked.step ∷ [])
  unfolding AlongLines judged_all pasts_from history_from ChoosesRightFrom KeepsChoiceFrom
  asked_run n top more history e steps positive standing here asked rises tagged shown =
      let p : Past = past_of volume events posts history asked.step in
      let step = asked_step volume events strings none posts n top more history asked.step positive standing asked.r asked.news asked.number (here ∙ ap Some asked.of) rises
      (tagged.0 standing.reached) shown in
      record {
        legal = subst (Legal (judge_at history)) (sym (append-nil p.lines)) step.legal;
        judged = ap (judged_all events (judge_at history)) (append-nil p.lines);
        standing = step.standing;
        chooses = (choice_now volume events strings none posts n top history asked.step standing (tagged.0 standing.reached) shown, tt);
        keeps = λ k. subst (AlongLines IsKeptLine events (judge_at history)) (sym (append-nil p.lines)) (step.keeps k.0);
      }

  -- the steps of an event
  pub event_run : (n top : ℕ) (history : List Past) (e : Event) (es : List Event) (steps : List TraceStep) → 0 < n → IsStanding volume events strings n top history (judge_at history)
      → event_at events n ≡ Some e → RisesFrom top (sessions_of (e ∷ es)) → IsAskedStep posts n e steps ⊎ ArePlain posts n steps
      → AllTagged history steps → IsShown (after history steps) → (more : ℕ) × IsRun (n + 1) more history steps × RisesFrom more (sessions_of es)
  event_run n top history e es steps positive standing here rises (inl asked) tagged shown =
      let up = rises_asked volume events strings top asked.r es (subst (λ x. RisesFrom top (sessions_of (x ∷ es))) asked.of rises) in (
        up.0,
        subst (IsRun (n + 1) up.0 history) (sym asked.only)
            (asked_run n top up.0 history e steps positive standing here asked up.1
            (subst (AllTagged history) asked.only tagged) (subst (λ s. IsShown (after history s)) asked.only shown)),
        up.2,
      )
  event_run n top history e es steps positive standing here rises (inr plain) tagged shown =
      let up = rises_any top e es rises in
      let run = quiet_run n top steps history standing (λ t among. (plain t among).1) tagged shown in
      (up.0, record { legal = run.legal; judged = run.judged; standing = standing_wider n top up.0 (after history steps) (judge_at (after history steps)) up.1 run.standing; chooses = run.chooses; keeps = run.keeps }, up.2)
