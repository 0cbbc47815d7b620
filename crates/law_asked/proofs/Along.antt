-- Along a run by the rules: what holds of the asks that the client has sent, of those that a sound node keeps, and of what it
-- answered, holds after each step.
use Rattle.std.proofs.Common.{◌≡◌, ◌∙◌, inl, inr, ℕ, ◌+◌, ◌^◌, ◌<◌, ◌≤◌, Bool, true, false, if◌then◌else◌, List, [], ◌∷◌, ◌++◌, map, Option, None, Some, refl, sym, ap, subst, append-nil, append_assoc}
use Rattle.std.specs.Prelude.{IfSome, Ok}
use Rattle.std.specs.List.{AllByRecursion}
use Rattle.std.proofs.lemmas.Bool.{cases_lt}
use Rattle.std.proofs.lemmas.Grind.{flat_map-append}
use Rattle.salus_types.specs.Volume.{Shape, regions}
use Rattle.salus_types.specs.declared.names.NodeName.{NodeName}
use Rattle.salus_types.specs.declared.names.Sender.{Sender}
use Rattle.salus_types.specs.declared.names.Sender.TheVariants as sender
use Rattle.salus_types.specs.declared.records.Record.{Record}
use Rattle.salus_types.specs.declared.records.Held.{Held}
use Rattle.salus_message.specs.declared.small.Ask.{Ask}
use Rattle.salus_message.specs.declared.replies.Answer.{Answer}
use Rattle.salus_message.specs.declared.wire.Message.{Message}
use Rattle.salus_message.specs.declared.wire.Message.TheVariants as message
use Rattle.salus_message.specs.Reading.{message_at}
use Rattle.salus_message.specs.Ranges.{HasWidths}
use Rattle.salus_message.specs.Spelling.{message_bytes}
use Rattle.salus_message.proofs.MessageLaws.{message_again}
use Rattle.schedule_text.proofs.Decided.{same_ok}
use Rattle.schedule_text.specs.Limits.{IsPartyOfVolume, IsWithinLimits}
use Rattle.schedule_text.specs.declared.schedule.Volume.{Volume}
use Rattle.schedule_text.specs.declared.schedule.Event.{Event}
use Rattle.merkle_region.specs.Tree.{IsAmong, NoTwoCollide}
use Rattle.volume_model.specs.Parts.{base_of}
use Rattle.volume_model.specs.Groups.{is_client, same_party}
use Rattle.salus_model.specs.declared.trace.Handed.{Handed}
use Rattle.salus_model.specs.declared.trace.Handed.TheVariants as handed
use Rattle.salus_model.specs.declared.trace.TraceStep.{TraceStep}
use Rattle.salus_model.specs.Judge.{Judge, start_judge, first_session}
use Rattle.salus_model.specs.Following.{Posted, posted_at, sent_by}
use Rattle.salus_model.specs.Forgery.{IsTagged}
use Rattle.salus_model.specs.Guarding.{is_lied_for}
use Rattle.salus_model.specs.Hearing.{News, Silence, Past, news_in, news_of, judge_of, since, opens}
use Rattle.salus_model.specs.Waiting.{all_taken}
use Rattle.salus_model.specs.Due.{past_of, history_from}
use Rattle.salus_model.specs.Complete.{IsSound}
use Rattle.salus_model.specs.Licences.{Letter, letters_in, letters_to, IsRooted}
use Rattle.salus_model.specs.Seen.{strings_of}
use Rattle.client_rules.specs.State as state
use Rattle.client_rules.specs.State.{Told}
use Rattle.client_rules.specs.Rules.{new_client, told, ticked, is_tick, client_step, client_letters, posted_letter}
use Rattle.replica_rules.specs.Nodes.{Memory}
use Rattle.replica_rules.specs.Rules.{Sending}
use Rattle.run_rules.specs.Knowing.{KnownNode, fresh, after_handed, outs_to, known_to}
use Rattle.run_rules.specs.Running as running
use Rattle.run_rules.specs.Running.{addresses, after, known_of, IsNodeStep, AllSteps, formatted, new_session}
use Rattle.run_rules.specs.Serving as serving
use Rattle.run_rules.specs.Serving.{IsClientStep, ClientSteps, client_of}
use Rattle.list_lemmas.proofs.Each.{either_way, all_both, all_split}
use Rattle.list_lemmas.proofs.Lists.{among_between}
use Rattle.list_lemmas.proofs.Members.{among_all, among_map}
use Rattle.list_lemmas.proofs.Tests.{way_with}
use Rattle.law_lemmas.proofs.Growing.{Grows, tagged-grows}
use Rattle.law_lemmas.proofs.Named.{node-itself, one-node}
use Rattle.law_lemmas.proofs.Numbered.{IsSized}
use Rattle.law_lemmas.proofs.Settled.{EachKnown, now-known, start_settled}
use Rattle.law_lemmas.proofs.WellSent.{IsWellSent, AreWellSent}
use Rattle.law_lines.specs.Mirrors.{Mirrors, Holds, AsDue}
use Rattle.law_lines.specs.Ready.{AsksFit, IsReady, event_after, session_after}
use Rattle.law_lines.specs.Scheduled.{ChoicesHold}
use Rattle.law_lines.proofs.Anywhere.{step_as_due}
use Rattle.law_lines.proofs.Followed.{AreFit}
use Rattle.law_lines.proofs.Starting.{has_nodes}
use Rattle.law_lines.proofs.Whole.{AllScripted, head_written, next_scripted, small_after}
use Rattle.law_history.specs.Choosing.{ChoosesRight, ChoosesRightFrom}
use Rattle.law_history.specs.Handing.{steps_in, ClientPostsTagged}
use Rattle.law_history.proofs.Runs.{AllTagged}
use Rattle.law_history.proofs.Shown.{ShowsTagged, seen_later, choice_now}
use Rattle.law_history.proofs.Standing.{IsStanding}
use Rattle.law_handed.specs.Fitting as fitting
use Rattle.law_handed.specs.Fitting.{LetterGiven}
use Rattle.law_handed.specs.Licensing.{BeginsFormatted, moments_of}
use Rattle.law_handed.proofs.Blocks.{spelled_closed}
use Rattle.law_handed.proofs.FirstHeld.{formatted_begins}
use Rattle.law_handed.proofs.Granted.{messages_licensed}
use Rattle.law_handed.proofs.Ranged.{own_fits}
use Rattle.law_runs.proofs.Choices.{choices_hold}
use Rattle.law_posts.proofs.Along.{top_after}
use Rattle.law_gathered.proofs.Along.{session_is, some_after}
use Rattle.law_gathered.proofs.Fronts.{steps_front, client_more}
use Rattle.law_gathered.proofs.Stands.{Within, IsScheduled, stands_next}
use Rattle.law_reads.proofs.Events.{Of}
use Rattle.law_reads.proofs.Given.{IsSpelled}
use Rattle.law_reads.proofs.Readable.{IsReadable}
use Rattle.law_reads.proofs.Sound.{unloaded_step}
use Rattle.law_reads.proofs.Views.{Fits, IsGood, low_step, readable_of}
use Rattle.law_asked.proofs.Handled.{AsksOf, AnswersFor}
use Rattle.law_asked.proofs.Kept.{WasAsked, IsHandedOver, handed_over, keeps_later, step_keeps, step_answers}
use Rattle.law_asked.proofs.Present.{IsRootedIn}
use Rattle.law_asked.proofs.Serves.{IsOwnAsk, IsSentBy, AllSentBy}
use Rattle.law_asked.proofs.Opens.{KeepsOwn, ticked_on}
use Rattle.law_asked.proofs.Fits.{AskFits, old_fits, new_fits, sends_then, keeps_then}
use Rattle.law_asked.proofs.Rooted.{PostedOwn, AreOwn, AnswersRooted, sent_answer, posted_more, own_more, rooted_more, handed_own, answer_licence, licensed_rooted}

-- ---- small facts

tick_silent : (posts : List Posted) (what : Handed) → is_tick what ≡ true → news_in posts what ≡ Silence
tick_silent posts handed.Tick is = refl
tick_silent posts (handed.Asked r) is = absurd (cc)
tick_silent posts (handed.Deliver k) is = absurd (cc)
tick_silent posts (handed.Stop k) is = absurd (cc)
tick_silent posts (handed.Lie from bytes) is = absurd (cc)
tick_silent posts handed.Crash is = absurd (cc)
tick_silent posts handed.Replace is = absurd (cc)
tick_silent posts handed.ClientCrash is = absurd (cc)

same_when_silent : (volume : Volume) (c : state.Client) (v : ℕ) (x : News) → x ≡ Silence → (told volume c v x).client ≡ c
unfolding told
same_when_silent volume c v x silent = ap (λ (y : News). (told volume c v y).client) silent

-- a node after one step more
known_more : (shape : Shape) (posts : List Posted) (name : NodeName) (known : KnownNode) (xs : List TraceStep) (t : TraceStep)
    → known_of shape posts name known (xs ++ t ∷ []) ≡ after shape posts name (known_of shape posts name known xs) t
unfolding known_of
known_more shape posts name known [] t = refl
known_more shape posts name known (x ∷ xs) t = known_more shape posts name (after shape posts name known x) xs t

module _ (volume : Volume) (events : List Event) (posts : List Posted) (trace : List TraceStep) (limits : IsWithinLimits (record { volume = volume; events = events })) (strings : List (List ℕ)) (none : NoTwoCollide strings)
    (unlied : is_lied_for events sender.Client ≡ false) (name : NodeName) (sound : IsSound events trace name)
    (right : AllSteps volume.geometry posts name (fresh volume.geometry name.region (formatted volume name)) 0 trace) where
  abbrev shape : Shape
  shape = volume.geometry

  abbrev start : KnownNode
  start = fresh volume.geometry name.region (formatted volume name)

  abbrev first : state.Client
  first = new_client volume.geometry

  abbrev judge_here : List Past → Judge
  judge_here history = judge_of volume.geometry events history

  abbrev more : List Past → TraceStep → List Past
  more history t = past_of volume events posts history t ∷ history

  abbrev sent_of : List Past → ℕ
  sent_of history = sent_by (steps_in history)

  -- each ask that the client has sent fits
  abbrev pub AsksAreFit : ℕ → ℕ → state.Client → ℕ → Type 0
  AsksAreFit n m c sent = (a : Ask) → WasAsked posts sent a → AskFits volume.geometry n m c a

  -- what holds after the steps of a front part
  pub record IsAlong (done : List TraceStep) (history : List Past) (n top : ℕ) (c : state.Client) (known : KnownNode) : Type 0 where
    pub client_is : client_of volume posts first done ≡ c
    pub known_is : known_of shape posts name start done ≡ known
    pub standing : IsStanding volume events strings n top history (judge_here history)
    pub holds : Holds volume history (judge_here history) n (top + 1) c
    pub some : 0 < n
    pub small : n ≤ 2 ^ 32
    pub script : AllScripted events (all_taken (since opens history))
    pub keeps : KeepsOwn shape c
    pub asks : AsksAreFit n (top + 1) c (sent_of history)
    pub posted : PostedOwn volume posts (judge_here history) (sent_of history)
    pub kept : AsksOf shape (WasAsked posts (sent_of history)) known.state.memory
    pub letters : AreOwn volume posts (judge_here history) (letters_to posts name done)
    pub rooted : AnswersRooted volume posts name (judge_here history) (sent_of history)
    pub fit : name.region < regions shape → Fits shape known
    pub low : name.region < regions shape → IsGood shape known.state.memory

  -- what is given of the steps that are left
  pub record AreGiven (history : List Past) (n m : ℕ) (c : state.Client) (known : KnownNode) (done rest : List TraceStep) : Type 0 where
    pub whole : trace ≡ done ++ rest
    pub fit : AreFit events posts n m rest
    pub node : AllSteps shape posts name known (sent_of history) rest
    pub client : ClientSteps volume posts c (sent_of history) rest
    pub well : AreWellSent posts (steps_in history) rest
    pub of : AllByRecursion (Of events posts) rest
    pub scheduled : (t : TraceStep) → IsAmong t rest → IsScheduled events posts t
    pub shows : AllTagged volume events strings none posts history rest
    pub tags : ClientPostsTagged volume events posts history rest
    pub within : Within (strings_of volume.geometry (history_from volume events posts history rest)) strings
    pub spelled : AllByRecursion IsSpelled (client_letters volume posts c rest)
    pub inside : (t : TraceStep) → IsAmong t rest → IsAmong t trace
    pub addressed : AllByRecursion (λ t. IsPartyOfVolume shape t.party) rest
    pub given : AllByRecursion (LetterGiven fitting.IsSpelled fitting.IsSpelled) (letters_to posts name rest)

  module _ (done : List TraceStep) (history : List Past) (n top : ℕ) (c : state.Client) (known : KnownNode) (a : IsAlong done history n top c known) (t : TraceStep) (rest : List TraceStep)
      (given : AreGiven history n (top + 1) c known done (t ∷ rest)) where
    abbrev pub x : News
    x = news_of posts t

    abbrev pub p : Past
    p = past_of volume events posts history t

    abbrev pub judge : Judge
    judge = judge_here history

    abbrev pub judge_then : Judge
    judge_then = judge_here (p ∷ history)

    abbrev pub sent : ℕ
    sent = sent_of history

    abbrev pub answer : Told
    answer = told volume c t.event x

    abbrev pub next_n : ℕ
    next_n = event_after n t.event x

    abbrev pub next_top : ℕ
    next_top = top_after top x

    -- ---- what is given of the step

    pub fits : AsksFit events n (top + 1) t.event x × AreFit events posts next_n (session_after (top + 1) x) rest
    unfolding AreFit
    fits = given.fit

    pub node_here : running.IsStepOf (addresses name t) shape posts name known sent t × AllSteps shape posts name (after shape posts name known t) t.sent rest
    unfolding AllSteps
    node_here = given.node

    pub client_here : serving.IsStepOf (is_client t.party) volume posts c sent t × ClientSteps volume posts (client_step volume posts c t).client t.sent rest
    unfolding ClientSteps
    client_here = given.client

    pub well_here : IsWellSent posts (steps_in history) t × AreWellSent posts (t ∷ steps_in history) rest
    unfolding AreWellSent
    well_here = given.well

    pub spelled_here : AllByRecursion IsSpelled (client_step volume posts c t).outs × AllByRecursion IsSpelled (client_letters volume posts (client_step volume posts c t).client rest)
    unfolding client_letters
    spelled_here = all_split IsSpelled (client_step volume posts c t).outs (client_letters volume posts (client_step volume posts c t).client rest) given.spelled

    within_rest : Within (strings_of volume.geometry (history_from volume events posts (p ∷ history) rest)) strings
    unfolding history_from
    within_rest = given.within

    pub within_now : Within (strings_of volume.geometry (p ∷ history)) strings
    within_now = λ s m. within_rest s (seen_later volume events posts rest (p ∷ history) s m)

    pub shows_now : ShowsTagged volume events strings none posts p
    shows_now = given.shows.0 a.standing.reached

    pub over : IsHandedOver events sent t.handed
    over = handed_over events posts (steps_in history) t well_here.0 given.of.0

    letters_here : AllByRecursion (LetterGiven fitting.IsSpelled fitting.IsSpelled) (if addresses name t then letters_in posts t.handed else []) × AllByRecursion (LetterGiven fitting.IsSpelled fitting.IsSpelled) (letters_to posts name rest)
    letters_here = all_split (LetterGiven fitting.IsSpelled fitting.IsSpelled) (if addresses name t then letters_in posts t.handed else []) (letters_to posts name rest) given.given

    -- a message of the step is its party's
    pub posted_own : (k : ℕ) → sent < k → k ≤ t.sent → (post : Posted) → posted_at posts k ≡ Some post → post.from ≡ t.party
    posted_own k above low post at = subst (λ (o : Option Posted). IfSome o (λ m. m.from ≡ t.party)) at (well_here.0.own k above low)

    -- ---- the history

    pub stands : IsStanding volume events strings next_n next_top (p ∷ history) judge_then
    stands = stands_next volume events strings none posts n top history t a.some fits.0 (given.scheduled t (inl refl)) a.standing shows_now within_now

    pub grows : Grows judge judge_then
    grows = (stands.reached.each p (inl refl)).before

    pub sized : EachKnown judge (IsSized volume.geometry)
    sized = a.standing.settled.sized

    ready : IsReady volume events history judge n (top + 1) t.event x
    unfolding ChoosesRightFrom ChoicesHold
    ready =
        let chosen : ChoosesRight volume events posts history t = choice_now volume events strings none posts n top history t a.standing shows_now within_now in
        record { fits = fits.0; choice = (choices_hold volume events posts (t ∷ []) history (chosen, tt)).0 }

    pub row : AsDue volume (p ∷ history) judge_then next_n (session_after (top + 1) x) p.lines answer
    row = step_as_due volume events history judge n (top + 1) t (has_nodes volume.geometry limits.volume.small_groups.0) c a.holds a.small (head_written events history judge a.script) x ready

    -- ---- the client's asks

    pub outs_by : AllSentBy shape answer.client (client_step volume posts c t).outs
    outs_by =
        way_with (is_client t.party) (if is_tick t.handed then ticked volume.geometry c else answer.outs) [] (λ l. AllSentBy shape answer.client l)
        (λ mine. way_with (is_tick t.handed) (ticked volume.geometry c) answer.outs (λ l. AllSentBy shape answer.client l)
        (λ tick.
        let silent : x ≡ Silence = ap (λ (w : Bool). if w then news_in posts t.handed else Silence) mine ∙ tick_silent posts t.handed tick in
        subst (λ (d : state.Client). AllSentBy shape d (ticked volume.geometry c)) (sym (same_when_silent volume c t.event x silent)) (ticked_on volume c a.keeps))
        (λ _. sends_then volume events history judge n (top + 1) t.event x fits.0 c a.holds a.keeps))
        (λ _. tt)

    fits_by : (d : state.Client) → Mirrors volume (p ∷ history) judge_then next_n d → (q : Ask) → IsOwnAsk shape d q → HasWidths (message.Ask q) → AskFits shape next_n (session_after (top + 1) x) d q
    fits_by (state.Serves d) mirrors q own wide = new_fits shape (p ∷ history) judge_then next_n (session_after (top + 1) x) d mirrors q own wide
    fits_by state.Closed mirrors q own wide = absurd own
    fits_by (state.Gathers g) mirrors q own wide = absurd own
    fits_by (state.Fetches f) mirrors q own wide = absurd own
    fits_by (state.Stages b) mirrors q own wide = absurd own
    fits_by (state.Switches b) mirrors q own wide = absurd own

    pub client_now : t.party ≡ sender.Client → IsClientStep volume posts c sent t
    client_now party = subst (λ (w : Bool). serving.IsStepOf w volume posts c sent t) (ap is_client party) client_here.0

    -- a message of the client that the step sends
    pub record IsLetter (k : ℕ) (post : Posted) : Type 0 where
      pub l : state.Letter
      pub among : IsAmong l (client_step volume posts c t).outs
      pub is : post ≡ posted_letter l
      pub reads : message_at post.bytes ≡ Ok l.message
      pub wide : HasWidths l.message
      pub by : IsSentBy shape answer.client l.message

    pub letter_of : (k : ℕ) → sent < k → k ≤ t.sent → (post : Posted) → posted_at posts k ≡ Some post → post.from ≡ sender.Client → IsLetter k post
    letter_of k above low post at from =
        let party : t.party ≡ sender.Client = sym (posted_own k above low post at) ∙ from in
        let step : IsClientStep volume posts c sent t = client_now party in
        let among : IsAmong post (map posted_letter (client_step volume posts c t).outs) = subst (λ (l : List Posted). IsAmong post l) step.messages (among_between posts sent t.sent k post at above low) in
        let l = among_map posted_letter post (client_step volume posts c t).outs among in
        let spelled : IsSpelled l.0 = among_all IsSpelled (client_step volume posts c t).outs l.0 l.1 spelled_here.0 in
        record {
          l = l.0;
          among = l.1;
          is = l.2;
          reads = ap (λ (m : Posted). message_at m.bytes) l.2 ∙ message_again l.0.message spelled.0 spelled.1;
          wide = spelled.1;
          by = among_all (λ (y : state.Letter). IsSentBy shape answer.client y.message) (client_step volume posts c t).outs l.0 l.1 outs_by;
        }

    -- an ask that is sent now
    new_ask : (q : Ask) → (was : WasAsked posts t.sent q) → sent < was.k → AskFits shape next_n (session_after (top + 1) x) answer.client q
    new_ask q was above =
        let l : IsLetter was.k was.post = letter_of was.k above was.low was.post was.at was.from in
        let same : l.l.message ≡ message.Ask q = same_ok l.l.message (message.Ask q) (sym l.reads ∙ was.reads) in
        fits_by answer.client row.holds.mirrors q (subst (λ (m : Message). IsSentBy shape answer.client m) same l.by) (subst (λ (m : Message). HasWidths m) same l.wide)

    asks_now : AsksAreFit next_n (session_after (top + 1) x) answer.client t.sent
    asks_now q was = elim (cases_lt sent was.k) [
      | inl above ↦ new_ask q was above
      | inr within ↦
          old_fits volume events history judge n (top + 1) t.event x fits.0 sized c a.holds a.keeps q
          (a.asks q (record { k = was.k; counted = was.counted; low = within; post = was.post; at = was.at; from = was.from; reads = was.reads }))
    ]

    posted_now : PostedOwn volume posts judge_then t.sent
    unfolding ClientPostsTagged
    posted_now k counted low rec among = elim (cases_lt sent k) [
      | inl above ↦ given.tags.0 stands.reached.chose k rec above low among
      | inr within ↦ posted_more volume posts judge judge_then sized grows sent a.posted k counted within rec among
    ]

    -- ---- the node

    kept_now : AsksOf shape (WasAsked posts t.sent) (after shape posts name known t).state.memory
    kept_now =
        keeps_later posts sent t.sent well_here.0.more shape (after shape posts name known t).state.memory
        (either_way (addresses name t) (known_to shape name.region posts known t.handed t.failed t.loaded) known (λ (k : KnownNode). AsksOf shape (WasAsked posts sent) k.state.memory)
        (step_keeps events posts sent unlied shape name.region known t.handed t.failed t.loaded over a.kept) a.kept)

    own_here : AreOwn volume posts judge (letters_in posts t.handed)
    own_here = handed_own volume posts judge events sent unlied a.posted t.handed over

    letters_now : AreOwn volume posts judge_then (letters_to posts name (done ++ t ∷ []))
    letters_now =
        own_more volume posts judge judge_then sized grows (letters_to posts name (done ++ t ∷ []))
        (subst (λ (l : List Letter). AreOwn volume posts judge l) (sym (flat_map-append (λ (s : TraceStep). if same_party s.party (sender.Node name) then letters_in posts s.handed else []) done (t ∷ [])))
        (all_both _ (letters_to posts name done) ((if same_party t.party (sender.Node name) then letters_in posts t.handed else []) ++ []) a.letters
        (subst (λ (l : List Letter). AreOwn volume posts judge l) (sym (append-nil (if same_party t.party (sender.Node name) then letters_in posts t.handed else [])))
        (either_way (same_party t.party (sender.Node name)) (letters_in posts t.handed) [] (λ (l : List Letter). AreOwn volume posts judge l) own_here tt))))

    fit_now : name.region < regions shape → Fits shape (after shape posts name known t)
    fit_now within = own_fits shape fitting.IsSpelled fitting.IsSpelled (fitting.IsShaped shape) (spelled_closed shape) posts name (addresses name t) known sent t node_here.0 (a.fit within) letters_here.0

    module _ (party : t.party ≡ sender.Node name) where
      pub mine : addresses name t ≡ true
      mine = ap (λ (w : Sender). same_party w (sender.Node name)) party ∙ node-itself name

      pub node_now : IsNodeStep shape posts name known sent t
      node_now = subst (λ (w : Bool). running.IsStepOf w shape posts name known sent t) mine node_here.0

      pub unloaded : t.loaded ≡ None
      unloaded = unloaded_step events posts trace name sound shape known sent t (given.inside t (inl refl)) party given.of.0 node_now

      pub within_here : name.region < regions shape
      within_here = (subst (λ (w : Sender). IsPartyOfVolume shape w) party given.addressed.0).0

      letters_mine : AllByRecursion (LetterGiven fitting.IsSpelled fitting.IsSpelled) (letters_in posts t.handed)
      letters_mine = subst (λ (w : Bool). AllByRecursion (LetterGiven fitting.IsSpelled fitting.IsSpelled) (if w then letters_in posts t.handed else [])) mine letters_here.0

      low_here : IsGood shape (known_to shape name.region posts known t.handed t.failed t.loaded).state.memory
      low_here = low_step shape name.region posts known t.handed t.failed t.loaded (a.fit within_here) (a.low within_here) letters_mine unloaded

      readable_here : (m : Memory) → (known_to shape name.region posts known t.handed t.failed t.loaded).state.memory ≡ Some m → IsReadable shape m.replica.view
      readable_here m is =
          readable_of shape (known_to shape name.region posts known t.handed t.failed t.loaded)
          (subst (λ (w : Bool). Fits shape (if w then known_to shape name.region posts known t.handed t.failed t.loaded else known)) mine (fit_now within_here)) low_here m is

      -- ---- what it answers now

      abbrev outs : List Sending
      outs = outs_to shape name.region posts known t.handed t.failed

      abbrev base : Record
      base = base_of shape volume.key (new_session shape) name.region

      -- in each of the contents that the disk may mean then
      abbrev everywhere : (Held → Type 0) → Type 0
      everywhere P = AllByRecursion P (after_handed shape name.region posts (known_of shape posts name start done) t.handed t.failed).contents

      base_tagged : IsTagged shape volume.key judge base
      base_tagged =
          tagged-grows shape volume.key (start_judge shape) judge base (start_settled shape).sized a.standing.reached.first
          (record { e = 1; session = first_session shape; known = now-known (start_judge shape); g = name.region; either = inr (record { inside = within_here; is = refl }) })

      -- so what it answers leads to a record that the client has tagged
      out_rooted : (out : Sending) → IsAmong out outs → (q : Answer) → out.message ≡ message.Answer q → IsRootedIn shape volume.key judge name.region q
      out_rooted out among q is =
          let front : AllSteps shape posts name start 0 done = steps_front volume events posts name start 0 done (t ∷ rest) (subst (λ (l : List TraceStep). AllSteps shape posts name start 0 l) given.whole right) in
          let begun : BeginsFormatted shape base (formatted volume name) = formatted_begins volume name within_here in
          let there : IsAmong out (outs_to shape name.region posts (known_of shape posts name start done) t.handed t.failed) =
          subst (λ (k : KnownNode). IsAmong out (outs_to shape name.region posts k t.handed t.failed)) (sym a.known_is) among in
          let licence = among_all _ (outs_to shape name.region posts (known_of shape posts name start done) t.handed t.failed) out there
          (messages_licensed shape posts name (formatted volume name) done front begun.parts base t.handed t.failed begun.bases) in
          let rooted : IsRooted shape (letters_to posts name done ++ letters_in posts t.handed) base name.region q =
          answer_licence volume posts (letters_to posts name done ++ letters_in posts t.handed) base (moments_of shape posts name start done) everywhere name.region out.message q is licence in
          licensed_rooted volume posts judge (letters_to posts name done ++ letters_in posts t.handed) base name.region q
          (all_both _ (letters_to posts name done) (letters_in posts t.handed) a.letters own_here) base_tagged rooted

      new_answer : (k : ℕ) → sent < k → k ≤ t.sent → (post : Posted) → posted_at posts k ≡ Some post → (q : Answer) → message_at post.bytes ≡ Ok (message.Answer q) → IsRootedIn shape volume.key judge name.region q
      new_answer k above low post at q reads =
          let send : Sending → Posted = λ out. record { from = sender.Node name; to = out.to; bytes = message_bytes out.message } in
          let found = among_map send post outs (subst (λ (l : List Posted). IsAmong post l) node_now.messages (among_between posts sent t.sent k post at above low)) in
          let answers = among_all (λ (out : Sending). AnswersFor shape (WasAsked posts sent) (known_to shape name.region posts known t.handed t.failed t.loaded).state.memory out.message) outs found.0 found.1
          (step_answers events posts sent unlied shape name.region known t.handed t.failed t.loaded unloaded over a.kept) in
          out_rooted found.0 found.1 q
          (sent_answer shape limits.volume (WasAsked posts sent) (λ ask was. (a.asks ask was).small) (known_to shape name.region posts known t.handed t.failed t.loaded).state.memory readable_here found.0.message answers q
          (ap (λ (m : Posted). message_at m.bytes) (sym found.2) ∙ reads))

    rooted_now : AnswersRooted volume posts name judge_then t.sent
    rooted_now k counted low post at from q reads = elim (cases_lt sent k) [
      | inl above ↦ rooted_more volume posts judge judge_then sized grows name.region q (new_answer (sym (posted_own k above low post at) ∙ from) k above low post at q reads)
      | inr within ↦ rooted_more volume posts judge judge_then sized grows name.region q (a.rooted k counted within post at from q reads)
    ]

    low_now : name.region < regions shape → IsGood shape (after shape posts name known t).state.memory
    low_now within =
        way_with (addresses name t) (known_to shape name.region posts known t.handed t.failed t.loaded) known (λ (k : KnownNode). IsGood shape k.state.memory)
        (λ hit. low_step shape name.region posts known t.handed t.failed t.loaded (a.fit within) (a.low within)
        (subst (λ (w : Bool). AllByRecursion (LetterGiven fitting.IsSpelled fitting.IsSpelled) (if w then letters_in posts t.handed else [])) hit letters_here.0) (unloaded (party_is t.party refl hit)))
        (λ _. a.low within)
      where
        party_is : (w : Sender) → t.party ≡ w → same_party t.party (sender.Node name) ≡ true → t.party ≡ sender.Node name
        party_is sender.Client is hit = absurd (off (sym hit ∙ ap (λ (y : Sender). same_party y (sender.Node name)) is)) where
          off : true ≡ false → ⊥
          off e = cc
        party_is (sender.Node other) is hit = is ∙ ap (λ (k : NodeName). sender.Node k) (one-node other name (sym (ap (λ (y : Sender). same_party y (sender.Node name)) is) ∙ hit))

    -- ---- all of it

    -- So it holds after the step.
    pub along_then : IsAlong (done ++ t ∷ []) (p ∷ history) next_n next_top answer.client (after shape posts name known t)
    along_then = record {
      client_is = client_more volume events posts first done t ∙ ap (λ (d : state.Client). (told volume d t.event x).client) a.client_is;
      known_is = known_more shape posts name start done t ∙ ap (λ (k : KnownNode). after shape posts name k t) a.known_is;
      standing = stands;
      holds = subst (λ (m : ℕ). Holds volume (p ∷ history) judge_then next_n m answer.client) (session_is top x) row.holds;
      some = some_after n t.event x a.some;
      small = small_after events n (top + 1) t.event x a.small fits.0;
      script = next_scripted events history p n (top + 1) fits.0 a.script;
      keeps = keeps_then volume events history judge n (top + 1) t.event x fits.0 c a.holds a.keeps;
      asks = subst (λ (m : ℕ). AsksAreFit next_n m answer.client t.sent) (session_is top x) asks_now;
      posted = posted_now;
      kept = kept_now;
      letters = letters_now;
      rooted = rooted_now;
      fit = fit_now;
      low = low_now;
    }

    pub given_then : AreGiven (p ∷ history) next_n (next_top + 1) answer.client (after shape posts name known t) (done ++ t ∷ []) rest
    unfolding ClientPostsTagged
    given_then = record {
      whole = given.whole ∙ sym (append_assoc done (t ∷ []) rest);
      fit = subst (λ (m : ℕ). AreFit events posts next_n m rest) (session_is top x) fits.1;
      node = node_here.1;
      client = client_here.1;
      well = well_here.1;
      of = given.of.1;
      scheduled = λ s among. given.scheduled s (inr among);
      shows = given.shows.1;
      tags = given.tags.1;
      within = within_rest;
      spelled = spelled_here.1;
      inside = λ s among. given.inside s (inr among);
      addressed = given.addressed.1;
      given = letters_here.1;
    }
