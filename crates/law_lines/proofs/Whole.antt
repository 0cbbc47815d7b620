-- The lines of a whole run.
use Rattle.std.proofs.Common.{◌≡◌, ℕ, ◌^◌, ◌≤◌, Bool, cond, if◌then◌else◌, List, [], ◌∷◌, ◌++◌, map, refl, ap₂, sym, subst, arith}
use Rattle.std.specs.Prelude.{filter}
use Rattle.schedule_text.specs.declared.schedule.Volume.{Volume}
use Rattle.schedule_text.specs.declared.schedule.Event.{Event}
use Rattle.salus_model.specs.declared.trace.Request.TheVariants as request
use Rattle.salus_model.specs.declared.trace.TraceStep.{TraceStep}
use Rattle.salus_model.specs.Judge.{Judge}
use Rattle.salus_model.specs.Following.{Posted}
use Rattle.salus_model.specs.Hearing.{News, Asks, Says, Crashes, Silence, Past, news_of, since, opens, refuses, judge_of}
use Rattle.salus_model.specs.Waiting.{Taken, joining, taken_in, all_taken, live, left_of}
use Rattle.salus_model.specs.Due.{past_of, pasts_from}
use Rattle.client_rules.specs.State as state
use Rattle.client_rules.specs.Tables.{line_of}
use Rattle.client_rules.specs.Rules.{told, client_lines}
use Rattle.list_lemmas.proofs.Tests.{by_test}
use Rattle.law_lines.specs.Mirrors.{Holds}
use Rattle.law_lines.specs.Ready.{IsScripted, AsksFit, event_after, session_after, AreReady}
use Rattle.law_lines.proofs.Ordered.{left-line}
use Rattle.law_lines.proofs.Answered.{IsWritten}
use Rattle.law_lines.proofs.Openings.{HasNodes}
use Rattle.law_lines.proofs.Anywhere.{step_as_due}

-- ---- the writes that were taken are those of their events

unfoldable pub AllScripted : List Event → List Taken → Type 0
AllScripted events [] = Unit {0}
AllScripted events (r ∷ rs) = IsScripted events r.event r.request × AllScripted events rs

scripted-append : (events : List Event) (xs ys : List Taken) → AllScripted events xs → AllScripted events ys → AllScripted events (xs ++ ys)
unfolding AllScripted
scripted-append events [] ys a b = b
scripted-append events (x ∷ xs) ys a b = (a.0, scripted-append events xs ys a.1 b)

scripted-filter : (events : List Event) (p : Taken → Bool) (xs : List Taken) → AllScripted events xs → AllScripted events (filter p xs)
unfolding AllScripted
scripted-filter events p [] a = tt
scripted-filter events p (x ∷ xs) a =
    by_test (λ t. AllScripted events (cond t (x ∷ filter p xs) (filter p xs))) (p x) (λ _. (a.0, scripted-filter events p xs a.1)) (λ _. scripted-filter events p xs a.1)

scripted-back : (events : List Event) (xs ys : List Taken) → AllScripted events (xs ++ ys) → AllScripted events ys
unfolding AllScripted
scripted-back events [] ys a = a
scripted-back events (x ∷ xs) ys a = scripted-back events xs ys a.1

scripted-head : (events : List Event) (w : Taken) (rest : List Taken) → AllScripted events (w ∷ rest) → IsWritten events w
unfolding AllScripted
scripted-head events w rest a batch is = subst (λ r. IsScripted events w.event r) is a.0

-- so is the write at the head
pub head_written : (events : List Event) (history : List Past) (judge : Judge) → AllScripted events (all_taken (since opens history))
    → (w : Taken) (behind : List Taken) → line_of (live history judge) ≡ w ∷ behind → IsWritten events w
unfolding live
head_written events history judge a w behind is =
    scripted-head events w behind
    (subst (AllScripted events) is
    (scripted-back events (left_of (live history judge)) (line_of (live history judge))
    (subst (AllScripted events) (sym (left-line (live history judge))) (scripted-filter events _ (all_taken (since opens history)) a))))

joined_scripted : (events : List Event) (n m v : ℕ) (x : News) → AsksFit events n m v x → AllScripted events (joining v x)
unfolding AllScripted
joined_scripted events n m v (Asks (request.Write batch)) f = (f.3, tt)
joined_scripted events n m v (Asks (request.Read b)) f = (tt, tt)
joined_scripted events n m v (Asks request.Barrier) f = (tt, tt)
joined_scripted events n m v (Asks (request.Restart e)) f = tt
joined_scripted events n m v (Asks (request.Reassign e g)) f = tt
joined_scripted events n m v (Says name msg) f = tt
joined_scripted events n m v Crashes f = tt
joined_scripted events n m v Silence f = tt

pub next_scripted : (events : List Event) (history : List Past) (p : Past) (n m : ℕ) → AsksFit events n m p.step.event p.news → AllScripted events (all_taken (since opens history))
    → AllScripted events (all_taken (since opens (p ∷ history)))
unfolding since all_taken AllScripted
next_scripted events history p n m f a =
    by_test (λ t. AllScripted events (all_taken (if t then [] else p ∷ since opens history))) (opens p) (λ _. tt)
    (λ _. scripted-append events (all_taken (since opens history)) (taken_in p) a
    (by_test (λ t. AllScripted events (if t then [] else joining p.step.event p.news)) (refuses p) (λ _. tt) (λ _. joined_scripted events n m p.step.event p.news f)))

pub small_after : (events : List Event) (n m v : ℕ) (x : News) → n ≤ 2 ^ 32 → AsksFit events n m v x → event_after n v x ≤ 2 ^ 32
small_after events n m v (Asks r) small f = let b = f.1 in omega (arith, b)
small_after events n m v (Says name msg) small f = small
small_after events n m v Crashes small f = small
small_after events n m v Silence small f = small

module _ (volume : Volume) (events : List Event) (posts : List Posted) (nodes : HasNodes volume.geometry) where
  -- from any history on
  pub lines_from_here : (steps : List TraceStep) (history : List Past) (n m : ℕ) (c : state.Client) → Holds volume history (judge_of volume.geometry events history) n m c → n ≤ 2 ^ 32
      → AllScripted events (all_taken (since opens history)) → AreReady volume events posts history n m steps
      → client_lines volume posts c steps ≡ map (λ p. p.lines) (pasts_from volume events posts history steps)
  unfolding client_lines pasts_from AreReady
  lines_from_here [] history n m c h small script ready = refl
  lines_from_here (step ∷ steps) history n m c h small script ready =
      let judge : Judge = judge_of volume.geometry events history in
      let x : News = news_of posts step in
      let row = step_as_due volume events history judge n m step nodes c h small (head_written events history judge script) x ready.0 in
      ap₂ (λ l ls. l ∷ ls) row.same
      (lines_from_here steps (past_of volume events posts history step ∷ history) (event_after n step.event x) (session_after m x) (told volume c step.event x).client row.holds
      (small_after events n m step.event x small ready.0.fits)
      (next_scripted events history (past_of volume events posts history step) n m ready.0.fits script)
      ready.1)
