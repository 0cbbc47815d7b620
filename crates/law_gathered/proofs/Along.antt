-- Along a run: the premises of the steps before give what holds of the history, this gives the premise of the step, and so on.
use Rattle.std.proofs.Common.{◌≡◌, ◌∙◌, ℕ, ◌+◌, ◌^◌, ◌<◌, ◌≤◌, if◌then◌else◌, List, [], ◌∷◌, ◌++◌, inl, inr, refl, ap, sym, subst, arith, append_assoc}
use Rattle.std.proofs.lemmas.Bool.{false≢true, eq-eqb}
use Rattle.salus_types.specs.declared.names.NodeName.{NodeName}
use Rattle.salus_message.specs.declared.carried.Gathered.{Gathered}
use Rattle.salus_message.specs.declared.wire.Message.{Message}
use Rattle.salus_message.specs.declared.wire.Message.TheVariants as message
use Rattle.merkle_region.specs.Tree.{IsAmong, NoTwoCollide}
use Rattle.merkle_region.proofs.Membership.{among_left, among_right, none-within}
use Rattle.schedule_text.specs.Limits.{IsWithinLimits}
use Rattle.schedule_text.specs.declared.schedule.Volume.{Volume}
use Rattle.schedule_text.specs.declared.schedule.Event.{Event}
use Rattle.salus_model.specs.declared.trace.Request.TheVariants as request
use Rattle.salus_model.specs.declared.trace.TraceStep.{TraceStep}
use Rattle.salus_model.specs.Judge.{Judge, start_judge}
use Rattle.salus_model.specs.Following.{Posted, Follows}
use Rattle.salus_model.specs.Hearing.{News, Asks, Says, Crashes, Silence, Past, news_of, news_since, begins, since, opens, phase_of}
use Rattle.salus_model.specs.Waiting.{all_taken}
use Rattle.salus_model.specs.Opening.{Reply, with_reply, replies_to, pool_of}
use Rattle.salus_model.specs.Due.{past_of, history_from, lines_due}
use Rattle.salus_model.specs.Forgery.{NoForgery}
use Rattle.salus_model.specs.Seen.{known_strings, news_strings, strings_at, strings_of, NoCollision}
use Rattle.client_rules.specs.State as state
use Rattle.client_rules.specs.Opening.{with_reply_of}
use Rattle.client_rules.specs.Rules.{new_client, told}
use Rattle.run_rules.specs.Running.{NodesByRules, formatted}
use Rattle.run_rules.specs.Serving.{ClientByRules, client_of}
use Rattle.client_premises.specs.Premises.{PoolIsApart, IsApart}
use Rattle.client_premises.specs.Behind.{AreApart, ClientStepsBehind}
use Rattle.client_premises.proofs.Along.{steps_apart}
use Rattle.list_lemmas.proofs.Each.{all_then}
use Rattle.law_lemmas.proofs.Owned.{known_among}
use Rattle.law_lemmas.proofs.Settled.{EachKnown, start_settled}
use Rattle.law_lemmas.proofs.WellSent.{well_sent}
use Rattle.law_lines.specs.Mirrors.{Holds}
use Rattle.law_lines.specs.Ready.{AsksFit, IsReady, event_after, session_after}
use Rattle.law_lines.specs.Running.{run_lines}
use Rattle.law_lines.specs.Scheduled.{ChoicesHold}
use Rattle.law_lines.proofs.Openings.{HasNodes}
use Rattle.law_lines.proofs.OpeningRows.{MirrorsReplies, reply-more}
use Rattle.law_lines.proofs.Anywhere.{step_as_due}
use Rattle.law_lines.proofs.Followed.{AreFit}
use Rattle.law_lines.proofs.Scripted.{fits_schedule}
use Rattle.law_lines.proofs.Starting.{start_holds, has_nodes}
use Rattle.law_lines.proofs.Whole.{AllScripted, head_written, next_scripted, small_after}
use Rattle.law_history.specs.Choosing.{ChoosesRight, ChoosesRightFrom, ChoseRight}
use Rattle.law_history.proofs.Chosen.{HasContents}
use Rattle.law_history.proofs.Heard.{IsHeard, pool_tagged}
use Rattle.law_history.proofs.Joined.{good_none}
use Rattle.law_history.proofs.Placed.{stands_first}
use Rattle.law_history.proofs.Rows.{all_heard}
use Rattle.law_history.proofs.Runs.{judge_at}
use Rattle.law_history.proofs.Seeing.{has_contents}
use Rattle.law_history.proofs.Shown.{ShowsTagged, seen_later, choice_now}
use Rattle.law_history.proofs.Split.{after_append}
use Rattle.law_history.proofs.Standing.{IsStanding, grows_still}
use Rattle.law_history.proofs.Steps.{steps_of_all}
use Rattle.law_shown.proofs.Along.{nodes_show}
use Rattle.law_runs.proofs.Choices.{choices_hold}
use Rattle.law_runs.proofs.Rising.{sessions_rise}
use Rattle.law_runs.proofs.Seams.{lines_are_legal}
use Rattle.law_posts.specs.Spelling.{IsSpellable}
use Rattle.law_posts.proofs.Along.{top_after}
use Rattle.law_posts.proofs.Running.{client_tags}
use Rattle.law_ranged.specs.Ranging.{IsSentWithin}
use Rattle.law_ranged.proofs.Along.{runs_within}
use Rattle.law_ranged.proofs.Scheduled.{schedule_within}
use Rattle.law_apart.proofs.Along.{serving_apart}
use Rattle.law_gathered.proofs.Fronts.{apart_more, client_more}
use Rattle.law_gathered.proofs.Pooled.{pool_apart}
use Rattle.law_gathered.proofs.Tagged.{AreGiven, next_shows}
use Rattle.law_gathered.proofs.Stands.{Within, IsScheduled, all_scheduled, stands_next}

-- sessions that were asked for, as the laws count them
pub session_is : (top : ℕ) (x : News) → session_after (top + 1) x ≡ top_after top x + 1
session_is top (Asks (request.Write batch)) = refl
session_is top (Asks (request.Read b)) = refl
session_is top (Asks request.Barrier) = refl
session_is top (Asks (request.Restart e)) = refl
session_is top (Asks (request.Reassign e g)) = refl
session_is top (Says name m) = refl
session_is top Crashes = refl
session_is top Silence = refl

pub some_after : (n v : ℕ) (x : News) → 0 < n → 0 < event_after n v x
some_after n v (Asks r) some = omega arith
some_after n v (Says name m) some = some
some_after n v Crashes some = some
some_after n v Silence some = some

module _ (volume : Volume) (events : List Event) (strings : List (List ℕ)) (none : NoTwoCollide strings) (posts : List Posted) where
  abbrev judge_here : List Past → Judge
  judge_here history = judge_at volume events strings none posts history

  -- ---- the strings of a step

  seen_step : (history : List Past) (p : Past) → Within (strings_of volume.geometry (p ∷ history)) strings → Within (strings_at volume.geometry p) strings
  unfolding strings_of
  seen_step history p within = λ x m. within x (among_left x (strings_at volume.geometry p) (strings_of volume.geometry history) m)

  contents_seen : (history : List Past) (p : Past) → Within (strings_of volume.geometry (p ∷ history)) strings → EachKnown p.before (HasContents volume.geometry strings)
  contents_seen history p within = λ known e at s g x low inside m.
      seen_step history p within x
      (among_left x (known_strings volume.geometry p.before) (news_strings volume.geometry p.news) (has_contents volume.geometry p.before known (known_among p.before e known at) s g x low inside m))

  heard_here : (history : List Past) (p : Past) → ShowsTagged volume events strings none posts p → Within (strings_of volume.geometry (p ∷ history)) strings → IsHeard volume p.before strings p.news
  heard_here history p shows within = record {
    tagged = shows;
    seen = λ x m. seen_step history p within x (among_right x (known_strings volume.geometry p.before) (news_strings volume.geometry p.news) m);
  }

  -- ---- a reply to a client that gathers

  module _ (history : List Past) (g : state.Gathering) (msg : Gathered) (name : NodeName) (here : msg.session ≡ g.session) where
    abbrev replies : List Reply
    replies = replies_to g.session (news_since begins history)

    replies_more : replies_to g.session (Says name (message.Gathered msg) ∷ news_since begins history) ≡ with_reply replies (record { name = name; held = msg.held } ∷ [])
    unfolding replies_to
    replies_more = ap (λ t. with_reply replies (if t then record { name = name; held = msg.held } ∷ [] else [])) (eq-eqb msg.session g.session here)

    pool_is : MirrorsReplies volume g replies → (with_reply_of volume name msg.held g).pool ≡ pool_of volume.geometry volume.key (replies_to g.session (Says name (message.Gathered msg) ∷ news_since begins history))
    pool_is mirrors = (reply-more volume g replies name msg.held mirrors).pool ∙ ap (pool_of volume.geometry volume.key) (sym replies_more)

  -- ---- one step

  module _ (history : List Past) (n top : ℕ) (t : TraceStep) (standing : IsStanding volume events strings n top history (judge_here history))
      (shows : ShowsTagged volume events strings none posts (past_of volume events posts history t)) (within : Within (strings_of volume.geometry (past_of volume events posts history t ∷ history)) strings) where
    abbrev p : Past
    p = past_of volume events posts history t

    none_here : NoTwoCollide (known_strings volume.geometry (judge_here history) ++ news_strings volume.geometry (news_of posts t))
    none_here = none-within (strings_at volume.geometry p) strings (seen_step history p within) none

    -- what counts of the replies is apart
    pool_here : (e : ℕ) → PoolIsApart volume.geometry (pool_of volume.geometry volume.key (replies_to e (news_of posts t ∷ news_since begins history)))
    pool_here e =
        let all : List News = news_of posts t ∷ news_since begins history in
        let heard = all_heard volume (judge_here history) strings history standing.heard (news_of posts t) (heard_here history p shows within) in
        pool_apart volume.geometry volume.key (judge_here history) strings none standing.settled.sized (contents_seen history p within)
        (pool_of volume.geometry volume.key (replies_to e all)) (pool_tagged volume (judge_here history) strings e all heard)

    gathering_apart : (g : state.Gathering) → Holds volume history (judge_here history) n (top + 1) (state.Gathers g) → (name : NodeName) (msg : Message) → news_of posts t ≡ Says name msg
        → IsApart volume (state.Gathers g) (Says name msg)
    unfolding IsApart
    gathering_apart g h name (message.Gathered m) is = λ same all.
        subst (PoolIsApart volume.geometry)
        (ap (λ (x : News). pool_of volume.geometry volume.key (replies_to g.session (x ∷ news_since begins history))) is
        ∙ sym (pool_is history g m name same (record { answered = h.mirrors.answered; pool = h.mirrors.pool })))
        (pool_here g.session)
    gathering_apart g h name (message.Part m) is = tt
    gathering_apart g h name (message.Prepared m) is = tt
    gathering_apart g h name (message.Committed m) is = tt
    gathering_apart g h name (message.Ask m) is = tt
    gathering_apart g h name (message.Answer m) is = tt
    gathering_apart g h name (message.Gather m) is = tt
    gathering_apart g h name (message.Stage m) is = tt
    gathering_apart g h name (message.Staged m) is = tt
    gathering_apart g h name (message.Switch m) is = tt
    gathering_apart g h name (message.Switched m) is = tt
    gathering_apart g h name (message.Dump m) is = tt
    gathering_apart g h name (message.Dumped m) is = tt

    message_apart : (c : state.Client) → Holds volume history (judge_here history) n (top + 1) c → (name : NodeName) (msg : Message) → news_of posts t ≡ Says name msg → IsApart volume c (Says name msg)
    unfolding IsApart
    message_apart (state.Serves c) h name msg is =
        serving_apart volume history (judge_here history) n (top + 1) c h name msg
        (subst (λ (x : News). NoTwoCollide (known_strings volume.geometry (judge_here history) ++ news_strings volume.geometry x)) is none_here)
    message_apart (state.Gathers g) h name msg is = gathering_apart g h name msg is
    message_apart state.Closed h name msg is = tt
    message_apart (state.Fetches f) h name msg is = tt
    message_apart (state.Stages b) h name msg is = tt
    message_apart (state.Switches b) h name msg is = tt

    news_apart : (c : state.Client) → Holds volume history (judge_here history) n (top + 1) c → (x : News) → news_of posts t ≡ x → IsApart volume c x
    unfolding IsApart
    news_apart c h (Says name msg) is = message_apart c h name msg is
    news_apart c h (Asks r) is = tt
    news_apart c h Crashes is = tt
    news_apart c h Silence is = tt

    -- what the step owes to the law of lines
    ready_here : AsksFit events n (top + 1) t.event (news_of posts t) → IsReady volume events history (judge_here history) n (top + 1) t.event (news_of posts t)
    unfolding ChoosesRightFrom ChoicesHold
    ready_here fits =
        let right : ChoosesRight volume events posts history t = choice_now volume events strings none posts n top history t standing shows within in
        record { fits = fits; choice = (choices_hold volume events posts (t ∷ []) history (right, tt)).0 }

  -- ---- all steps

  module _ (limits : IsWithinLimits (record { volume = volume; events = events })) (trace : List TraceStep) (given : AreGiven volume events posts limits trace) where
    abbrev nodes : HasNodes volume.geometry
    nodes = has_nodes volume.geometry limits.volume.small_groups.0

    abbrev first : state.Client
    first = new_client volume.geometry

    -- what holds after the steps of a front part
    record IsAlong (front : List TraceStep) (history : List Past) (n top : ℕ) (c : state.Client) : Type 0 where
      pub apart : AreApart volume posts first front
      pub history_is : history_from volume events posts [] front ≡ history
      pub client_is : client_of volume posts first front ≡ c
      pub standing : IsStanding volume events strings n top history (judge_here history)
      pub holds : Holds volume history (judge_here history) n (top + 1) c
      pub some : 0 < n
      pub small : n ≤ 2 ^ 32
      pub script : AllScripted events (all_taken (since opens history))

    abbrev more : List Past → TraceStep → List Past
    more history t = past_of volume events posts history t ∷ history

    shows_next : (front rest : List TraceStep) (t : TraceStep) (history : List Past) (n top : ℕ) (c : state.Client) → trace ≡ front ++ t ∷ rest → IsAlong front history n top c
        → ShowsTagged volume events strings none posts (past_of volume events posts history t)
    shows_next front rest t history n top c whole a =
        next_shows volume events posts limits strings none front rest t (subst (AreGiven volume events posts limits) whole given) a.apart history a.history_is a.standing.reached

    history_more : (front : List TraceStep) (t : TraceStep) (history : List Past) → history_from volume events posts [] front ≡ history → history_from volume events posts [] (front ++ t ∷ []) ≡ more history t
    unfolding history_from
    history_more front t history is = after_append volume events posts front (t ∷ []) [] ∙ ap (λ (h : List Past). past_of volume events posts h t ∷ h) is

    along_next : (front : List TraceStep) (t : TraceStep) (history : List Past) (n top : ℕ) (c : state.Client) → (a : IsAlong front history n top c) → AsksFit events n (top + 1) t.event (news_of posts t)
        → IsScheduled events posts t → (shows : ShowsTagged volume events strings none posts (past_of volume events posts history t)) → Within (strings_of volume.geometry (more history t)) strings
        → IsApart volume c (news_of posts t)
        → IsAlong (front ++ t ∷ []) (more history t) (event_after n t.event (news_of posts t)) (top_after top (news_of posts t)) (told volume c t.event (news_of posts t)).client
    along_next front t history n top c a fits scheduled shows within apart =
        let x : News = news_of posts t in
        let judge : Judge = judge_here history in
        let script = head_written events history judge a.script in
        let row = step_as_due volume events history judge n (top + 1) t nodes c a.holds a.small script x (ready_here history n top t a.standing shows within fits) in
        record {
          apart = apart_more volume events posts first front t a.apart (subst (λ (d : state.Client). IsApart volume d x) (sym a.client_is) apart);
          history_is = history_more front t history a.history_is;
          client_is = client_more volume events posts first front t ∙ ap (λ (d : state.Client). (told volume d t.event x).client) a.client_is;
          standing = stands_next volume events strings none posts n top history t a.some fits scheduled a.standing shows within;
          holds = subst (λ (k : ℕ). Holds volume (more history t) (judge_here (more history t)) (event_after n t.event x) k (told volume c t.event x).client) (session_is top x) row.holds;
          some = some_after n t.event x a.some;
          small = small_after events n (top + 1) t.event x a.small fits;
          script = next_scripted events history (past_of volume events posts history t) n (top + 1) fits a.script;
        }

    apart_from : (rest front : List TraceStep) (history : List Past) (n top : ℕ) (c : state.Client) → trace ≡ front ++ rest → IsAlong front history n top c
        → AreFit events posts n (top + 1) rest → ((t : TraceStep) → IsAmong t rest → IsScheduled events posts t)
        → Within (strings_of volume.geometry (history_from volume events posts history rest)) strings → AreApart volume posts c rest
    unfolding AreFit AreApart history_from
    apart_from [] front history n top c whole a fit scheduled within = tt
    apart_from (t ∷ rest) front history n top c whole a fit scheduled within =
        let x : News = news_of posts t in
        let shows = shows_next front rest t history n top c whole a in
        let here : Within (strings_of volume.geometry (more history t)) strings = λ s m. within s (seen_later volume events posts rest (more history t) s m) in
        let apart : IsApart volume c x = news_apart history n top t a.standing shows here c a.holds x refl in (
          apart,
          apart_from rest (front ++ t ∷ []) (more history t) (event_after n t.event x) (top_after top x) (told volume c t.event x).client (whole ∙ sym (append_assoc front (t ∷ []) rest))
              (along_next front t history n top c a fit.0 (scheduled t (inl refl)) shows here apart)
              (subst (λ (k : ℕ). AreFit events posts (event_after n t.event x) k rest) (session_is top x) fit.1) (λ s m. scheduled s (inr m)) within,
        )

    first_along : IsAlong [] [] 1 1 first
    unfolding history_from client_of AreApart all_taken since phase_of ChoseRight AllScripted
    first_along = record {
      apart = tt;
      history_is = refl;
      client_is = refl;
      standing = record {
        is = refl;
        settled = start_settled volume.geometry;
        phase = tt;
        good = good_none volume.geometry events 1;
        kept = record { late = λ r among. absurd among; low = omega arith; answered = λ v among. absurd (false≢true among); acked = omega arith };
        heard = λ q among. absurd among;
        reached = record { first = grows_still volume events strings (start_judge volume.geometry) (start_judge volume.geometry) refl; each = λ q among. absurd among; chose = tt };
      };
      holds = start_holds volume;
      some = omega arith;
      small = omega arith;
      script = tt;
    }

    pub given_apart : ((t : TraceStep) → IsAmong t trace → IsScheduled events posts t) → Within (strings_of volume.geometry (history_from volume events posts [] trace)) strings → AreApart volume posts first trace
    given_apart scheduled within = apart_from trace [] [] 1 1 first refl first_along given.fit scheduled within

-- THE LAW: the premises of all steps hold.
pub all_apart : (volume : Volume) (events : List Event) (posts : List Posted) (trace : List TraceStep) → IsWithinLimits (record { volume = volume; events = events })
    → Follows events posts trace → NoCollision volume events posts trace → NoForgery volume events posts trace → NodesByRules volume.geometry (formatted volume) posts trace
    → ClientStepsBehind volume posts (new_client volume.geometry) 0 trace → AreApart volume posts (new_client volume.geometry) trace
all_apart volume events posts trace limits follows none unforged nodes behind =
    let few = limits.few in
    given_apart volume events (strings_of volume.geometry (history_from volume events posts [] trace)) (steps_of_all volume events posts trace none) posts limits trace
    (record {
      fit = fits_schedule events posts trace (omega (arith, few)) (sessions_rise events 1 2 (omega arith) limits.rising) follows;
      well = well_sent posts events [] [] 1 trace follows;
      within = schedule_within volume.geometry posts events trace limits.few limits.events follows;
      nodes = nodes;
      behind = behind;
      lies = unforged;
    })
    (all_scheduled events posts events [] [] 1 trace (stands_first events) follows) (λ x m. m)

-- And the lines are those due.
pub all_due : (volume : Volume) (events : List Event) (posts : List Posted) (trace : List TraceStep) → IsWithinLimits (record { volume = volume; events = events })
    → Follows events posts trace → NoCollision volume events posts trace → NoForgery volume events posts trace → NodesByRules volume.geometry (formatted volume) posts trace
    → ClientStepsBehind volume posts (new_client volume.geometry) 0 trace → run_lines volume events posts trace ≡ lines_due volume events posts trace
all_due volume events posts trace limits follows none unforged nodes behind =
    let client : ClientByRules volume (new_client volume.geometry) posts trace = steps_apart volume posts (new_client volume.geometry) 0 trace behind (all_apart volume events posts trace limits follows none unforged nodes behind) in
    let kept = runs_within volume events posts trace limits follows (record { nodes = nodes; client = client }) in
    (lines_are_legal volume events posts trace limits follows none unforged (nodes_show volume events posts trace limits.volume follows kept.1 kept.0 nodes)
    (client_tags volume events posts trace limits follows (all_then (IsSentWithin volume.geometry) (λ l. IsSpellable l.message) (λ l sent. (sent.counts, sent.widths)) _ kept.2) client)).0
