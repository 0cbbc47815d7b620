-- What holds of the history stands with each step of a trace that follows its schedule.
use Rattle.std.proofs.Common.{◌≡◌, ◌∙◌, ℕ, ◌+◌, ◌<◌, ◌≤◌, List, [], ◌∷◌, ◌++◌, reverse, Some, inl, inr, refl, ap, sym, subst, arith}
use Rattle.merkle_region.specs.Tree.{IsAmong, NoTwoCollide}
use Rattle.merkle_region.proofs.Membership.{among_either}
use Rattle.schedule_text.specs.declared.schedule.Volume.{Volume}
use Rattle.schedule_text.specs.declared.schedule.Event.{Event}
use Rattle.salus_model.specs.declared.trace.Request.{Request}
use Rattle.salus_model.specs.declared.trace.Request.TheVariants as request
use Rattle.salus_model.specs.declared.trace.TraceStep.{TraceStep}
use Rattle.salus_model.specs.Judge.{Judge, event_at}
use Rattle.salus_model.specs.Following.{Posted, sent_by, is_skipped, dropped_after, FollowsFrom}
use Rattle.salus_model.specs.Hearing.{News, Asks, Says, Crashes, Silence, Past, news_of}
use Rattle.salus_model.specs.Due.{past_of}
use Rattle.salus_model.specs.Seen.{strings_of}
use Rattle.law_lemmas.proofs.Quiet.{IsQuiet}
use Rattle.law_lines.specs.Ready.{AsksFit, event_after}
use Rattle.law_history.proofs.Asked.{asked_event}
use Rattle.law_history.proofs.Events.{ArePlain, IsAskedStep, done_steps}
use Rattle.law_history.proofs.Joined.{good_wider}
use Rattle.law_history.proofs.Placed.{StandsFrom, stands_here, stands_rest}
use Rattle.law_history.proofs.Runs.{judge_at}
use Rattle.law_history.proofs.Shown.{ShowsTagged, quiet_step, asked_step}
use Rattle.law_history.proofs.Standing.{IsStanding}
use Rattle.law_history.proofs.Stepped.{IsRising}
use Rattle.law_posts.proofs.Along.{top_after}

-- all of these strings are among those
abbrev pub Within : List (List ℕ) → List (List ℕ) → Type 0
Within xs ys = (x : List ℕ) → IsAmong x xs → IsAmong x ys

-- ---- each request stands in the schedule

module _ (events : List Event) (posts : List Posted) where
  -- a request of the step is that of its event
  abbrev pub IsScheduled : TraceStep → Type 0
  IsScheduled t = (r : Request) → news_of posts t ≡ Asks r → event_at events t.event ≡ Some (asked_event r)

  same_request : (r s : Request) → Asks r ≡ Asks s → r ≡ s
  same_request r s same = ap (λ (x : News). asked x) same
    where
      asked : News → Request
      asked (Asks q) = q
      asked other = r

  event_scheduled : (n : ℕ) (e : Event) (here : List TraceStep) → event_at events n ≡ Some e → IsAskedStep posts n e here → (t : TraceStep) → IsAmong t here → IsScheduled t
  event_scheduled n e here at asked t among r news = elim (subst (IsAmong t) asked.only among) [
    | inl same ↦
        let request : asked.r ≡ r = same_request asked.r r (sym asked.news ∙ (ap (news_of posts) (sym same) ∙ news)) in
        ap (λ (x : TraceStep). event_at events x.event) same ∙ (ap (event_at events) asked.number ∙ (at ∙ ap (λ (x : Event). Some x) asked.of ∙ ap (λ (q : Request). Some (asked_event q)) request))
    | inr nothing ↦ absurd nothing
  ]

  plain_scheduled : (n : ℕ) (here : List TraceStep) → ArePlain posts n here → (t : TraceStep) → IsAmong t here → IsScheduled t
  plain_scheduled n here plain t among r news = absurd (subst IsQuiet news (plain t among).1)

  pub all_scheduled : (es : List Event) (earlier : List TraceStep) (dropped : List ℕ) (n : ℕ) (steps : List TraceStep) → StandsFrom events n es → FollowsFrom posts earlier dropped n es steps
      → (t : TraceStep) → IsAmong t steps → IsScheduled t
  unfolding FollowsFrom
  all_scheduled [] earlier dropped n steps stands follows t among = absurd (subst (IsAmong t) follows.0 among)
  all_scheduled (e ∷ es) earlier dropped n steps stands follows t among =
      elim (among_either t follows.0 follows.1 (subst (IsAmong t) follows.2 among)) [
        | inl here ↦
            elim (done_steps posts (is_skipped posts (sent_by earlier) e) earlier dropped n e follows.0 follows.3) [
              | inl asked ↦ event_scheduled n e follows.0 (stands_here events n e es stands) asked t here
              | inr plain ↦ plain_scheduled n follows.0 plain t here
            ]
        | inr later ↦
            all_scheduled es (reverse follows.0 ++ earlier) (dropped_after (sent_by earlier) dropped e) (n + 1) follows.1 (stands_rest events n e es stands) follows.4 t later
      ]

-- ---- one step

module _ (volume : Volume) (events : List Event) (strings : List (List ℕ)) (none : NoTwoCollide strings) (posts : List Posted) where
  abbrev judge_here : List Past → Judge
  judge_here history = judge_at volume events strings none posts history

  abbrev past_here : List Past → TraceStep → Past
  past_here history t = past_of volume events posts history t

  pub standing_later : (n later top : ℕ) (history : List Past) (judge : Judge) → n ≤ later → IsStanding volume events strings n top history judge
      → IsStanding volume events strings later top history judge
  standing_later n later top history judge up standing =
      let low = standing.kept.low in
      record {
        is = standing.is;
        settled = standing.settled;
        phase = standing.phase;
        good = good_wider volume.geometry events n later _ up standing.good;
        kept = record {
          late = standing.kept.late;
          low = omega (arith, low, up);
          answered = λ v among. (let below = standing.kept.answered v among in omega (arith, below, up));
          acked = standing.kept.acked;
        };
        heard = standing.heard;
        reached = standing.reached;
      }

  pub rising_of : (n top v : ℕ) (r : Request) → AsksFit events n (top + 1) v (Asks r) → IsRising volume events strings top (top_after top (Asks r)) r
  rising_of n top v (request.Write batch) fits = refl
  rising_of n top v (request.Read b) fits = refl
  rising_of n top v request.Barrier fits = refl
  rising_of n top v (request.Restart e) fits = let low = fits.2 in (omega (arith, low), refl)
  rising_of n top v (request.Reassign e g) fits = let low = fits.2 in (omega (arith, low), refl)

  abbrev Stands : ℕ → ℕ → List Past → TraceStep → News → Type 0
  Stands n top history t x =
      IsStanding volume events strings (event_after n t.event x) (top_after top x) (past_here history t ∷ history) (judge_here (past_here history t ∷ history))

  stands_by : (n top : ℕ) (history : List Past) (t : TraceStep) (x : News) → news_of posts t ≡ x → 0 < n → AsksFit events n (top + 1) t.event x
      → IsScheduled events posts t → IsStanding volume events strings n top history (judge_here history)
      → ShowsTagged volume events strings none posts (past_here history t) → Within (strings_of volume.geometry (past_here history t ∷ history)) strings
      → Stands n top history t x
  stands_by n top history t (Asks r) is some fits scheduled standing shows within =
      let up = fits.0 in
      (asked_step volume events strings none posts t.event top (top_after top (Asks r)) history t (omega (arith, some, up)) (standing_later n t.event top history (judge_here history) up standing)
      r is refl (scheduled r is) (rising_of n top t.event r fits) shows within).standing
  stands_by n top history t (Says name m) is some fits scheduled standing shows within =
      (quiet_step volume events strings none posts n top history t standing (subst IsQuiet (sym is) tt) shows within).standing
  stands_by n top history t Crashes is some fits scheduled standing shows within =
      (quiet_step volume events strings none posts n top history t standing (subst IsQuiet (sym is) tt) shows within).standing
  stands_by n top history t Silence is some fits scheduled standing shows within =
      (quiet_step volume events strings none posts n top history t standing (subst IsQuiet (sym is) tt) shows within).standing

  pub stands_next : (n top : ℕ) (history : List Past) (t : TraceStep) → 0 < n → AsksFit events n (top + 1) t.event (news_of posts t)
      → IsScheduled events posts t → IsStanding volume events strings n top history (judge_here history)
      → ShowsTagged volume events strings none posts (past_here history t) → Within (strings_of volume.geometry (past_here history t ∷ history)) strings
      → Stands n top history t (news_of posts t)
  stands_next n top history t some fits scheduled standing shows within = stands_by n top history t (news_of posts t) refl some fits scheduled standing shows within
