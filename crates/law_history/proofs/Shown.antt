-- Of the strings seen, those of a step and of what is known then; and what a step's lines are.
use Rattle.std.proofs.Common.{◌≡◌, ℕ, ◌+◌, ◌<◌, ◌∙◌, List, [], ◌∷◌, Some, inl, refl, ap, subst}
use Rattle.salus_types.specs.declared.records.Record.{Record}
use Rattle.merkle_region.specs.Tree.{IsAmong, NoTwoCollide}
use Rattle.merkle_region.proofs.Membership.{among_left, among_right}
use Rattle.schedule_text.specs.declared.schedule.Volume.{Volume}
use Rattle.schedule_text.specs.declared.schedule.Event.{Event}
use Rattle.salus_model.specs.declared.trace.Request.{Request}
use Rattle.salus_model.specs.declared.trace.TraceStep.{TraceStep}
use Rattle.salus_model.specs.Judge.{Judge, event_at, AlongLines}
use Rattle.salus_model.specs.Following.{Posted}
use Rattle.salus_model.specs.Hearing.{News, Asks, Says, Crashes, Silence, Past, news_of, judge_of, since, opens, begins, news_since, phase_of}
use Rattle.salus_model.specs.Waiting.{all_taken, live, refusal_of}
use Rattle.salus_model.specs.Due.{due_request, due_news, past_of, history_from}
use Rattle.salus_model.specs.Seen.{known_strings}
use Rattle.salus_model.specs.Seen.{news_strings, strings_at, strings_of}
use Rattle.salus_model.specs.Forgery.{IsUnforged}
use Rattle.law_lemmas.proofs.Settled.{EachKnown}
use Rattle.law_lemmas.proofs.Owned.{known_among}
use Rattle.law_lemmas.proofs.Quiet.{IsQuiet}
use Rattle.law_lemmas.proofs.Numbered.{length-contents_after}
use Rattle.law_history.specs.Showing.{records_shown}
use Rattle.law_history.proofs.Chosen.{HasContents}
use Rattle.law_history.proofs.Seeing.{has_contents}
use Rattle.law_history.proofs.Heard.{IsHeard}
use Rattle.law_history.specs.Keeping.{IsChoiceKept, KeepsChoice}
use Rattle.law_history.specs.Choosing.{ChoosesRight}
use Rattle.law_history.proofs.Rows.{IsRow, row_message, gathered-choice, all_heard}
use Rattle.law_history.proofs.Standing.{IsNoticed, IsStanding, IsStepped}
use Rattle.law_history.proofs.Stepped.{IsRising, stepped_row, stepped_asked}
use Rattle.law_history.proofs.Asked.{asked_event}

module _ (volume : Volume) (events : List Event) where
  abbrev Within : List (List ℕ) → List (List ℕ) → Type 0
  Within xs ys = (x : List ℕ) → IsAmong x xs → IsAmong x ys

  seen_known : (history : List Past) (p : Past) → Within (known_strings volume.geometry p.before) (strings_of volume.geometry (p ∷ history))
  unfolding strings_of
  seen_known history p = λ x m.
      among_left x (strings_at volume.geometry p) (strings_of volume.geometry history) (among_left x (known_strings volume.geometry p.before) (news_strings volume.geometry p.news) m)

  seen_news : (history : List Past) (p : Past) → Within (news_strings volume.geometry p.news) (strings_of volume.geometry (p ∷ history))
  unfolding strings_of
  seen_news history p = λ x m.
      among_left x (strings_at volume.geometry p) (strings_of volume.geometry history) (among_right x (known_strings volume.geometry p.before) (news_strings volume.geometry p.news) m)

  seen_before : (history : List Past) (p : Past) → Within (strings_of volume.geometry history) (strings_of volume.geometry (p ∷ history))
  unfolding strings_of
  seen_before history p = λ x m. among_right x (strings_at volume.geometry p) (strings_of volume.geometry history) m

  pub seen_later : (posts : List Posted) (steps : List TraceStep) (history : List Past)
      → Within (strings_of volume.geometry history) (strings_of volume.geometry (history_from volume events posts history steps))
  unfolding history_from
  seen_later posts [] history = λ x m. m
  seen_later posts (t ∷ steps) history = λ x m.
      seen_later posts steps (past_of volume events posts history t ∷ history) x (seen_before history (past_of volume events posts history t) x m)

  -- ---- a step, with no premise but those of the run

  module _ (strings : List (List ℕ)) (none : NoTwoCollide strings) (posts : List Posted) where
    -- the genuine records that the step's news shows were tagged before
    abbrev pub ShowsTagged : Past → Type 0
    ShowsTagged p = (rec : Record) → IsAmong rec (records_shown p.news) → IsUnforged volume p.before rec

    heard_now : (history : List Past) (p : Past) → ShowsTagged p → Within (strings_of volume.geometry (p ∷ history)) strings → IsHeard volume p.before strings p.news
    heard_now history p shows within = record { tagged = shows; seen = λ x m. within x (seen_news history p x m) }

    contents_now : (history : List Past) (p : Past) → Within (strings_of volume.geometry (p ∷ history)) strings → EachKnown p.before (HasContents volume.geometry strings)
    contents_now history p within = λ known e at s g x low inside m.
        within x (seen_known history p x (has_contents volume.geometry p.before known (known_among p.before e known at) s g x low inside m))

    row_now : (n top : ℕ) (history : List Past) (p : Past) → IsStanding volume events strings n top history p.before → IsHeard volume p.before strings p.news
        → EachKnown p.before (HasContents volume.geometry strings) → (v : ℕ) (news : News) → p.news ≡ news → IsQuiet news
        → IsRow (IsChoiceKept volume history p.before news (phase_of history)) volume.geometry events (all_taken (since opens history)) n top p.before (due_news volume events history p.before v news)
    unfolding due_news AlongLines
    row_now n top history p standing heard contents v (Asks r) is quiet = absurd quiet
    row_now n top history p standing heard contents v (Says name x) is quiet =
        row_message volume events history n top p.before standing.settled standing.good standing.kept strings none contents standing.heard name x
        (subst (IsHeard volume p.before strings) is heard) (phase_of history) standing.phase
    row_now n top history p standing heard contents v Crashes is quiet = inl tt
    row_now n top history p standing heard contents v Silence is quiet = inl tt

    abbrev pub past_here : List Past → TraceStep → Past
    past_here history t = past_of volume events posts history t

    abbrev pub judge_here : List Past → Judge
    judge_here history = judge_of volume.geometry events history

    -- what is recovered, once the news of the step is heard
    pub choice_now : (n top : ℕ) (history : List Past) (t : TraceStep) → IsStanding volume events strings n top history (judge_here history)
        → ShowsTagged (past_here history t) → Within (strings_of volume.geometry (past_here history t ∷ history)) strings → ChoosesRight volume events posts history t
    choice_now n top history t standing shows within = λ e.
        let p : Past = past_here history t in
        let all : List News = news_of posts t ∷ news_since begins history in
        let heard = all_heard volume (judge_here history) strings history standing.heard (news_of posts t) (heard_now history p shows within) in
        record {
          choice = λ h is.
              let right = gathered-choice volume events history n top (judge_here history) standing.settled standing.good standing.kept strings none (contents_now history p within) e all heard h is in
              record { known = right.known; at = right.of.at; above = right.of.above; within = right.of.within; sized = length-contents_after volume.geometry right.known (standing.settled.sized right.known h.session right.of.at) h.seq; blocks = right.blocks };
        }

    noticed : (n top : ℕ) (history : List Past) (t : TraceStep) → IsStanding volume events strings n top history (judge_here history)
        → ShowsTagged (past_here history t) → Within (strings_of volume.geometry (past_here history t ∷ history)) strings → IsNoticed volume events strings history (past_here history t)
    noticed n top history t standing shows within =
        record { heard = heard_now history (past_here history t) shows within; right = choice_now n top history t standing shows within }

    pub quiet_step : (n top : ℕ) (history : List Past) (t : TraceStep) → IsStanding volume events strings n top history (judge_here history) → IsQuiet (news_of posts t)
        → ShowsTagged (past_here history t) → Within (strings_of volume.geometry (past_here history t ∷ history)) strings
        → IsStepped volume events strings (KeepsChoice volume events posts history t) n top (past_here history t) history
    quiet_step n top history t standing quiet shows within =
        let p : Past = past_here history t in
        let heard = heard_now history p shows within in
        stepped_row volume events strings (KeepsChoice volume events posts history t) n top p history standing (noticed n top history t standing shows within) quiet
        (row_now n top history p standing heard (contents_now history p within) t.event (news_of posts t) refl quiet)

    request_lines : (history : List Past) (judge : Judge) (v n : ℕ) (news : News) (r : Request) → news ≡ Asks r → v ≡ n
        → due_news volume events history judge v news
        ≡ due_request events judge (live history judge) n r (refusal_of volume.geometry (phase_of history) judge (live history judge) r)
    unfolding due_news
    request_lines history judge v n news r is number =
        ap (due_news volume events history judge v) is
        ∙ ap (λ i. due_request events judge (live history judge) i r (refusal_of volume.geometry (phase_of history) judge (live history judge) r)) number

    pub asked_step : (n top more : ℕ) (history : List Past) (t : TraceStep) → 0 < n → IsStanding volume events strings n top history (judge_here history)
        → (r : Request) → news_of posts t ≡ Asks r → t.event ≡ n → event_at events n ≡ Some (asked_event r) → IsRising volume events strings top more r
        → ShowsTagged (past_here history t) → Within (strings_of volume.geometry (past_here history t ∷ history)) strings
        → IsStepped volume events strings (KeepsChoice volume events posts history t) (n + 1) more (past_here history t) history
    asked_step n top more history t positive standing r news number asked rises shows within =
        let p : Past = past_here history t in
        stepped_asked volume events strings (KeepsChoice volume events posts history t) n top more p history positive standing (noticed n top history t standing shows within) r news number asked rises
        (request_lines history (judge_here history) t.event n (news_of posts t) r news number)
