-- The lines of a step of a trace that follows its schedule are legal.
use Rattle.std.proofs.Common.{◌≡◌, ℕ, ◌+◌, ◌<◌, List, ◌∷◌, refl, sym, subst, arith}
use Rattle.merkle_region.specs.Tree.{NoTwoCollide}
use Rattle.schedule_text.specs.declared.schedule.Volume.{Volume}
use Rattle.schedule_text.specs.declared.schedule.Event.{Event}
use Rattle.salus_model.specs.declared.trace.TraceStep.{TraceStep}
use Rattle.salus_model.specs.Judge.{Judge, AlongLines, IsLegalLine}
use Rattle.salus_model.specs.Following.{Posted}
use Rattle.salus_model.specs.Hearing.{News, Asks, Says, Crashes, Silence, Past, news_of, judge_of}
use Rattle.salus_model.specs.Due.{past_of}
use Rattle.salus_model.specs.Seen.{strings_of}
use Rattle.law_lemmas.proofs.Quiet.{IsQuiet}
use Rattle.law_lines.specs.Ready.{AsksFit}
use Rattle.law_history.proofs.Shown.{ShowsTagged, quiet_step, asked_step}
use Rattle.law_history.proofs.Standing.{IsStanding}
use Rattle.law_posts.proofs.Along.{top_after}
use Rattle.law_gathered.proofs.Stands.{Within, IsScheduled, standing_later, rising_of}

module _ (volume : Volume) (events : List Event) (strings : List (List ℕ)) (none : NoTwoCollide strings) (posts : List Posted) where
  abbrev judge_here : List Past → Judge
  judge_here history = judge_of volume.geometry events history

  abbrev past_here : List Past → TraceStep → Past
  past_here history t = past_of volume events posts history t

  abbrev AreLegal : List Past → TraceStep → Type 0
  AreLegal history t = AlongLines (IsLegalLine volume.geometry events) events (judge_here history) (past_here history t).lines

  legal_by : (n top : ℕ) (history : List Past) (t : TraceStep) (x : News) → news_of posts t ≡ x → 0 < n → AsksFit events n (top + 1) t.event x
      → IsScheduled events posts t → IsStanding volume events strings n top history (judge_here history)
      → ShowsTagged volume events strings none posts (past_here history t) → Within (strings_of volume.geometry (past_here history t ∷ history)) strings → AreLegal history t
  legal_by n top history t (Asks r) is some fits scheduled standing shows within =
      let up = fits.0 in
      (asked_step volume events strings none posts t.event top (top_after top (Asks r)) history t (omega (arith, some, up)) (standing_later volume events strings none posts n t.event top history (judge_here history) up standing)
      r is refl (scheduled r is) (rising_of volume events strings none posts n top t.event r fits) shows within).legal
  legal_by n top history t (Says name m) is some fits scheduled standing shows within = (quiet_step volume events strings none posts n top history t standing (subst IsQuiet (sym is) tt) shows within).legal
  legal_by n top history t Crashes is some fits scheduled standing shows within = (quiet_step volume events strings none posts n top history t standing (subst IsQuiet (sym is) tt) shows within).legal
  legal_by n top history t Silence is some fits scheduled standing shows within = (quiet_step volume events strings none posts n top history t standing (subst IsQuiet (sym is) tt) shows within).legal

  pub legal_now : (n top : ℕ) (history : List Past) (t : TraceStep) → 0 < n → AsksFit events n (top + 1) t.event (news_of posts t)
      → IsScheduled events posts t → IsStanding volume events strings n top history (judge_here history)
      → ShowsTagged volume events strings none posts (past_here history t) → Within (strings_of volume.geometry (past_here history t ∷ history)) strings → AreLegal history t
  legal_now n top history t some fits scheduled standing shows within = legal_by n top history t (news_of posts t) refl some fits scheduled standing shows within
