-- Along the trace: at each step what the client posts is tagged, where each choice up to it was right.
use Rattle.std.proofs.Common.{◌≡◌, ◌∙◌, ℕ, ◌+◌, ◌^◌, ◌<◌, ◌≤◌, Bool, true, if◌then◌else◌, List, [], ◌∷◌, Option, None, Some, refl, sym, ap, subst, arith}
use Rattle.std.specs.Prelude.{IfSome, Result}
use Rattle.std.specs.List.{AllByRecursion}
use Rattle.salus_types.specs.Volume.{Shape}
use Rattle.salus_types.specs.declared.records.Record.{Record}
use Rattle.salus_message.specs.declared.wire.Message.{Message}
use Rattle.salus_message.specs.declared.wire.MessageError.{MessageError}
use Rattle.salus_message.specs.Spelling.{message_bytes}
use Rattle.salus_message.specs.Reading.{message_at}
use Rattle.salus_message.proofs.MessageLaws.{message_again}
use Rattle.merkle_region.specs.Tree.{IsAmong}
use Rattle.schedule_text.specs.declared.schedule.Volume.{Volume}
use Rattle.schedule_text.specs.declared.schedule.Event.{Event}
use Rattle.schedule_text.specs.declared.schedule.Event.TheVariants as event
use Rattle.printed_lines.specs.declared.line.Line.{Line}
use Rattle.salus_model.specs.declared.trace.Request.TheVariants as request
use Rattle.salus_model.specs.declared.trace.Handed.{Handed}
use Rattle.salus_model.specs.declared.trace.Handed.TheVariants as handed
use Rattle.salus_model.specs.declared.trace.TraceStep.{TraceStep}
use Rattle.volume_model.specs.Contents.{Batch}
use Rattle.volume_model.specs.Groups.{is_client}
use Rattle.salus_model.specs.Judge.{Judge, judged_all}
use Rattle.salus_model.specs.Following.{Posted, posted_at, sent_by}
use Rattle.salus_model.specs.Hearing.{News, Asks, Says, Crashes, Silence, Past, news_of, news_in, since, opens, judge_of}
use Rattle.salus_model.specs.Waiting.{Taken, all_taken, live}
use Rattle.salus_model.specs.Due.{past_of, due_news}
use Rattle.salus_model.specs.Forgery.{IsTagged, records_in, records_of}
use Rattle.client_rules.specs.State as state
use Rattle.client_rules.specs.State.{Letter, Told}
use Rattle.client_rules.specs.Tables.{line_of}
use Rattle.client_rules.specs.Submitting.{batch_asked}
use Rattle.client_rules.specs.Rules.{ticked, told, is_tick, client_step, client_letters, posted_letter}
use Rattle.run_rules.specs.Running.{posts_between}
use Rattle.run_rules.specs.Serving.{IsClientStep, IsStepOf, ClientSteps}
use Rattle.list_lemmas.proofs.Members.{among_map, among_flat_map-in, among_all}
use Rattle.list_lemmas.proofs.Tests.{by_test}
use Rattle.list_lemmas.proofs.Lists.{among_between}
use Rattle.list_lemmas.proofs.Each.{all_split}
use Rattle.law_lemmas.proofs.Settled.{IsSettled, below-wider}
use Rattle.law_lemmas.proofs.WellSent.{IsWellSent, AreWellSent}
use Rattle.law_lines.specs.Mirrors.{Holds, AsDue}
use Rattle.law_lines.specs.Ready.{AsksFit, IsReady, event_after, session_after}
use Rattle.law_lines.specs.Scheduled.{ChoicesHold}
use Rattle.law_lines.proofs.Answered.{IsWritten, write_is}
use Rattle.law_lines.proofs.Openings.{HasNodes}
use Rattle.law_lines.proofs.Anywhere.{step_as_due}
use Rattle.law_lines.proofs.Whole.{AllScripted, head_written, next_scripted, small_after}
use Rattle.law_lines.proofs.Followed.{AreFit}
use Rattle.law_lines.proofs.Ordered.{head-writes}
use Rattle.law_history.specs.Choosing.{ChoosesRight, ChoosesRightFrom, ChoseRight}
use Rattle.law_history.specs.Handing.{records_posted, steps_in, PostsTagged, ClientPostsTagged}
use Rattle.law_runs.proofs.Choices.{choices_hold}
use Rattle.law_posts.specs.Spelling.{IsSpellable}
use Rattle.law_posts.proofs.Kept.{records_sent, kept, EachTagged, IsTidy, TellsTagged, BegunFits, begun_of}
use Rattle.law_posts.proofs.Sending.{HeadFits}
use Rattle.law_posts.proofs.Beginning.{ClientFits, NewsFits, step_tells, tick_tells}

-- ---- lists

-- ---- the head of the waiting line

head_fits : (events : List Event) (requests line : List Taken) → line ≡ line_of requests → ((w : Taken) (behind : List Taken) → line_of requests ≡ w ∷ behind → IsWritten events w) → HeadFits events line
head_fits events requests [] is script = tt
head_fits events requests (w ∷ behind) is script =
    let write = write_is w.request (head-writes requests w behind (sym is)) in
    script w behind (sym is) write.0 write.1 ∙ ap (λ (b : Batch). Some (event.Write b)) (sym (ap batch_asked write.1))

-- ---- sessions that are asked for

abbrev pub top_after : ℕ → News → ℕ
top_after top (Asks (request.Restart e)) = e
top_after top (Asks (request.Reassign e g)) = e
top_after top other = top

session_is : (top : ℕ) (x : News) → session_after (top + 1) x ≡ top_after top x + 1
session_is top (Asks (request.Write batch)) = refl
session_is top (Asks (request.Read b)) = refl
session_is top (Asks request.Barrier) = refl
session_is top (Asks (request.Restart e)) = refl
session_is top (Asks (request.Reassign e g)) = refl
session_is top (Says name m) = refl
session_is top Crashes = refl
session_is top Silence = refl

rises : (events : List Event) (n top v : ℕ) (x : News) → AsksFit events n (top + 1) v x → top ≤ top_after top x
rises events n top v (Asks (request.Write batch)) fits = omega arith
rises events n top v (Asks (request.Read b)) fits = omega arith
rises events n top v (Asks request.Barrier) fits = omega arith
rises events n top v (Asks (request.Restart e)) fits = let low = fits.2 in omega (arith, low)
rises events n top v (Asks (request.Reassign e g)) fits = let low = fits.2 in omega (arith, low)
rises events n top v (Says name m) fits = omega arith
rises events n top v Crashes fits = omega arith
rises events n top v Silence fits = omega arith

news_fits : (volume : Volume) (events : List Event) (judge : Judge) (n top v : ℕ) (x : News) → IsSettled volume.geometry judge top → (fits : AsksFit events n (top + 1) v x)
    → NewsFits volume events judge top (top_after top x) (rises events n top v x fits) x
news_fits volume events judge n top v (Asks (request.Write batch)) settled fits = tt
news_fits volume events judge n top v (Asks (request.Read b)) settled fits = tt
news_fits volume events judge n top v (Asks request.Barrier) settled fits = tt
news_fits volume events judge n top v (Asks (request.Restart e)) settled fits = (below-wider judge (top + 1) e fits.2 settled.below, omega arith)
news_fits volume events judge n top v (Asks (request.Reassign e g)) settled fits = (below-wider judge (top + 1) e fits.2 settled.below, omega arith)
news_fits volume events judge n top v (Says name m) settled fits = tt
news_fits volume events judge n top v Crashes settled fits = tt
news_fits volume events judge n top v Silence settled fits = tt

client_fits : (volume : Volume) (events : List Event) (history : List Past) (judge : Judge) (n top more : ℕ) (up : top ≤ more) (c : state.Client) → Holds volume history judge n (top + 1) c
    → ((w : Taken) (behind : List Taken) → line_of (live history judge) ≡ w ∷ behind → IsWritten events w) → ClientFits volume events judge top more up c
client_fits volume events history judge n top more up state.Closed h script = tt
client_fits volume events history judge n top more up (state.Serves c) h script = (h.mirrors.counts, head_fits events (live history judge) c.line h.mirrors.table.line script)
client_fits volume events history judge n top more up (state.Gathers g) h script = tt
client_fits volume events history judge n top more up (state.Fetches f) h script = tt
client_fits volume events history judge n top more up (state.Stages b) h script = tt
client_fits volume events history judge n top more up (state.Switches b) h script = let low = h.young.1 in omega (arith, low)

-- ---- reading back

read_back : (m : Message) → IsSpellable m → (rec : Record) → IsAmong rec (records_of (message_at (message_bytes m))) → IsAmong rec (records_in m)
read_back m spelled rec among = subst (λ (r : Result Message MessageError). IsAmong rec (records_of r)) (message_again m spelled.0 spelled.1) among

tick_news : (posts : List Posted) (what : Handed) → is_tick what ≡ true → news_in posts what ≡ Silence
tick_news posts handed.Tick is = refl
tick_news posts (handed.Asked r) is = absurd (cc)
tick_news posts (handed.Deliver k) is = absurd (cc)
tick_news posts (handed.Stop k) is = absurd (cc)
tick_news posts (handed.Lie from bytes) is = absurd (cc)
tick_news posts handed.Crash is = absurd (cc)
tick_news posts handed.Replace is = absurd (cc)
tick_news posts handed.ClientCrash is = absurd (cc)

told_silence : (volume : Volume) (c : state.Client) (v : ℕ) (x : News) → x ≡ Silence → (told volume c v x).client ≡ c
unfolding told
told_silence volume c v x silent = ap (λ (y : News). (told volume c v y).client) silent

module _ (volume : Volume) (events : List Event) (posts : List Posted) (nodes : HasNodes volume.geometry) where
  abbrev shape : Shape
  shape = volume.geometry

  abbrev judge_now : List Past → Judge
  judge_now history = judge_of shape events history

  -- what holds between two steps, where each choice so far was right
  pub record IsAlong (history : List Past) (n top : ℕ) (c : state.Client) : Type 0 where
    pub holds : Holds volume history (judge_now history) n (top + 1) c
    pub small : n ≤ 2 ^ 32
    pub script : AllScripted events (all_taken (since opens history))
    pub tidy : IsTidy volume (judge_now history) top c

  -- what a step gives
  pub record IsStepped (history : List Past) (n top : ℕ) (c : state.Client) (t : TraceStep) : Type 0 where
    pub tells : TellsTagged volume (judge_now (past_of volume events posts history t ∷ history)) (top_after top (news_of posts t)) (told volume c t.event (news_of posts t))
    pub along : IsAlong (past_of volume events posts history t ∷ history) (event_after n t.event (news_of posts t)) (top_after top (news_of posts t)) (told volume c t.event (news_of posts t)).client

  step_along : (history : List Past) (n top : ℕ) (c : state.Client) (t : TraceStep) → IsAlong history n top c → AsksFit events n (top + 1) t.event (news_of posts t)
      → ChoosesRight volume events posts history t → IsStepped history n top c t
  unfolding ChoosesRightFrom ChoicesHold
  step_along history n top c t a fits right =
      let judge : Judge = judge_now history in
      let x : News = news_of posts t in
      let p : Past = past_of volume events posts history t in
      let answer : Told = told volume c t.event x in
      let more : ℕ = top_after top x in
      let up : top ≤ more = rises events n top t.event x fits in
      let due : List Line = due_news volume events history judge t.event x in
      let script = head_written events history judge a.script in
      let ready : IsReady volume events history judge n (top + 1) t.event x = record { fits = fits; choice = (choices_hold volume events posts (t ∷ []) history (right, tt)).0 } in
      let row : AsDue volume (p ∷ history) (judged_all events judge due) (event_after n t.event x) (session_after (top + 1) x) due answer =
      step_as_due volume events history judge n (top + 1) t nodes c a.holds a.small script x ready in
      let begun : BegunFits (judged_all events judge answer.lines) answer.client =
      subst (λ (ls : List Line). BegunFits (judged_all events judge ls) answer.client) (sym row.same)
      (begun_of volume (p ∷ history) (judged_all events judge due) (event_after n t.event x) (session_after (top + 1) x) answer.client row.holds) in
      let first : TellsTagged volume (judged_all events judge answer.lines) more answer =
      step_tells volume events judge top more up c a.tidy (client_fits volume events history judge n top more up c a.holds script) t.event x
      (news_fits volume events judge n top t.event x a.tidy.settled fits) begun in
      let tells : TellsTagged volume (judged_all events judge due) more answer = subst (λ (ls : List Line). TellsTagged volume (judged_all events judge ls) more answer) row.same first in
      record {
        tells = tells;
        along = record {
          holds = subst (λ (k : ℕ). Holds volume (p ∷ history) (judged_all events judge due) (event_after n t.event x) k answer.client) (session_is top x) row.holds;
          small = small_after events n (top + 1) t.event x a.small fits;
          script = next_scripted events history p n (top + 1) fits a.script;
          tidy = tells.tidy;
        };
      }

  -- ---- what the client posts in a step

  module _ (history : List Past) (n top : ℕ) (c : state.Client) (t : TraceStep) (s : IsStepped history n top c t) where
    abbrev after : Judge
    after = judge_now (past_of volume events posts history t ∷ history)

    abbrev outs : List Letter
    outs = (client_step volume posts c t).outs

    silent : is_tick t.handed ≡ true → news_of posts t ≡ Silence
    silent tick = by_test (λ b. (if b then news_in posts t.handed else Silence) ≡ Silence) (is_client t.party) (λ _. tick_news posts t.handed tick) (λ _. refl)

    outs_tagged : EachTagged volume after (records_sent outs)
    outs_tagged =
        by_test (λ b. EachTagged volume after (records_sent (if b then (if is_tick t.handed then ticked shape c else (told volume c t.event (news_of posts t)).outs) else []))) (is_client t.party)
        (λ _. by_test (λ b. is_tick t.handed ≡ b → EachTagged volume after (records_sent (if b then ticked shape c else (told volume c t.event (news_of posts t)).outs))) (is_tick t.handed)
        (λ _ tick. tick_tells volume after c (subst (λ (d : state.Client). EachTagged volume after (kept d)) (told_silence volume c t.event (news_of posts t) (silent tick)) s.tells.tidy.keeps))
        (λ _ other. s.tells.sends) refl)
        (λ _ rec among. absurd among)

    posted_tagged : AllByRecursion (λ (l : Letter). IsSpellable l.message) outs → IsWellSent posts (steps_in history) t → IsStepOf (is_client t.party) volume posts c (sent_by (steps_in history)) t
        → (k : ℕ) (rec : Record) (m : Posted) → posted_at posts k ≡ Some m → sent_by (steps_in history) < k → k ≤ t.sent → is_client m.from ≡ true → IsAmong rec (records_of (message_at m.bytes))
        → IsTagged shape volume.key after rec
    posted_tagged spelled well by k rec m at low high from among =
        let own : m.from ≡ t.party = subst (λ (o : Option Posted). IfSome o (λ p. p.from ≡ t.party)) at (well.own k low high) in
        let party : is_client t.party ≡ true = ap is_client (sym own) ∙ from in
        let step : IsClientStep volume posts c (sent_by (steps_in history)) t = subst (λ (b : Bool). IsStepOf b volume posts c (sent_by (steps_in history)) t) party by in
        let between : IsAmong m (posts_between posts (sent_by (steps_in history)) t.sent) = among_between posts (sent_by (steps_in history)) t.sent k m at low high in
        let l = among_map posted_letter m outs (subst (λ (ls : List Posted). IsAmong m ls) step.messages between) in
        let read : IsAmong rec (records_of (message_at (message_bytes l.0.message))) = subst (λ (q : Posted). IsAmong rec (records_of (message_at q.bytes))) l.2 among in
        let inside : IsAmong rec (records_in l.0.message) = read_back l.0.message (among_all (λ (x : Letter). IsSpellable x.message) outs l.0 l.1 spelled) rec read in
        outs_tagged rec (among_flat_map-in (λ (x : Letter). records_in x.message) l.0 rec outs l.1 inside)

    posts_tagged : AllByRecursion (λ (l : Letter). IsSpellable l.message) outs → IsWellSent posts (steps_in history) t → IsStepOf (is_client t.party) volume posts c (sent_by (steps_in history)) t
        → PostsTagged volume events posts history (past_of volume events posts history t)
    posts_tagged spelled well by = λ k rec low high among. at_post k rec low high (posted_at posts k) refl among
      where
        at_post : (k : ℕ) (rec : Record) → sent_by (steps_in history) < k → k ≤ t.sent → (o : Option Posted) → posted_at posts k ≡ o → IsAmong rec (records_posted o) → IsTagged shape volume.key after rec
        at_post k rec low high None at among = absurd among
        at_post k rec low high (Some m) at among =
            by_test (λ b. is_client m.from ≡ b → IsAmong rec (if b then records_of (message_at m.bytes) else []) → IsTagged shape volume.key after rec) (is_client m.from)
            (λ _ from there. posted_tagged spelled well by k rec m at low high from there)
            (λ _ other nothing. absurd nothing) refl among

  -- ---- along the trace

  pub along_tagged : (steps : List TraceStep) (history : List Past) (n top : ℕ) (c : state.Client) → AreFit events posts n (top + 1) steps
      → ClientSteps volume posts c (sent_by (steps_in history)) steps → AreWellSent posts (steps_in history) steps
      → AllByRecursion (λ (l : Letter). IsSpellable l.message) (client_letters volume posts c steps) → (ChoseRight volume history → IsAlong history n top c)
      → ClientPostsTagged volume events posts history steps
  unfolding AreFit ClientSteps AreWellSent client_letters ClientPostsTagged ChoseRight
  along_tagged [] history n top c fit by well spelled reach = tt
  along_tagged (t ∷ steps) history n top c fit by well spelled reach =
      let x : News = news_of posts t in
      let next : state.Client = (client_step volume posts c t).client in
      let split = all_split (λ (l : Letter). IsSpellable l.message) (client_step volume posts c t).outs (client_letters volume posts next steps) spelled in (
        λ chose. posts_tagged history n top c t (step_along history n top c t (reach chose.1) fit.0 chose.0) split.0 well.0 by.0,
        along_tagged steps (past_of volume events posts history t ∷ history) (event_after n t.event x) (top_after top x) next
            (subst (λ (k : ℕ). AreFit events posts (event_after n t.event x) k steps) (session_is top x) fit.1) by.1 well.1 split.1
            (λ chose. (step_along history n top c t (reach chose.1) fit.0 chose.0).along),
      )
