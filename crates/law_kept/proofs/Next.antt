-- One step more keeps what holds along the run, and its choice keeps every acknowledged batch.
use Rattle.std.proofs.Common.{◌≡◌, ◌∙◌, ℕ, ◌+◌, ◌<◌, ◌≤◌, Bool, true, false, ◌==◌, not, if◌then◌else◌, List, ◌∷◌, map, Some, inl, inr, refl, ap, sym, subst, arith, le_refl, le_trans, le_of_eq}
use Rattle.std.specs.Prelude.{unwrap_or}
use Rattle.std.proofs.lemmas.Bool.{false≢true, cases_Bool, cases_lt, eq-eqb}
use Rattle.std.proofs.lemmas.Option.{same_Some}
use Rattle.salus_types.specs.Volume.{Shape}
use Rattle.salus_types.specs.declared.names.NodeName.{NodeName}
use Rattle.salus_types.specs.declared.names.Sender.{Sender}
use Rattle.salus_types.specs.declared.names.Sender.TheVariants as sender
use Rattle.salus_types.specs.declared.records.Held.{Held}
use Rattle.merkle_region.specs.Tree.{IsAmong, NoTwoCollide}
use Rattle.schedule_text.specs.Limits.{IsPartyOfVolume, IsWithinLimits}
use Rattle.schedule_text.specs.declared.schedule.Volume.{Volume}
use Rattle.schedule_text.specs.declared.schedule.Event.{Event}
use Rattle.printed_lines.specs.declared.line.Line.{Line}
use Rattle.printed_lines.specs.declared.line.Line.TheVariants as line
use Rattle.salus_model.specs.declared.trace.Request.TheVariants as request
use Rattle.salus_model.specs.declared.trace.Handed.{Handed}
use Rattle.salus_model.specs.declared.trace.Handed.TheVariants as handed
use Rattle.salus_model.specs.declared.trace.TraceStep.{TraceStep}
use Rattle.volume_model.specs.Groups.{is_client, same_node, same_party}
use Rattle.salus_model.specs.Judge.{Judge}
use Rattle.salus_model.specs.Following.{Posted}
use Rattle.salus_model.specs.Guarding.{is_lied_for, is_replacement}
use Rattle.salus_model.specs.Hearing.{News, Asks, Says, Crashes, Silence, Past, news_in, news_of, is_open_line, begins, asks_to_open, refuses}
use Rattle.salus_model.specs.Complete.{session_asked}
use Rattle.salus_model.specs.Due.{past_of}
use Rattle.client_rules.specs.State as state
use Rattle.client_rules.specs.Rules.{told, client_step, posted_letter}
use Rattle.run_rules.specs.Knowing.{KnownNode, known_to}
use Rattle.run_rules.specs.Running.{addresses, after, IsNodeStep, IsStepOf}
use Rattle.run_rules.specs.Serving as serving
use Rattle.list_lemmas.proofs.Lists.{among_between}
use Rattle.list_lemmas.proofs.Members.{among_map, any_from}
use Rattle.list_lemmas.proofs.Tests.{and_left}
use Rattle.law_lemmas.proofs.Growing.{Grows}
use Rattle.law_lines.specs.Mirrors.{Holds}
use Rattle.law_lines.specs.Ready.{AsksFit, event_after, session_after}
use Rattle.law_lines.proofs.Whole.{next_scripted, small_after}
use Rattle.law_history.specs.Keeping.{KeepsChoice}
use Rattle.law_posts.proofs.Along.{top_after}
use Rattle.law_gathered.proofs.Along.{session_is, some_after}
use Rattle.law_prefix.specs.World.{World}
use Rattle.kept_model.specs.Images.{image_of}
use Rattle.kept_model.specs.Nodes.{node_of, volume_as}
use Rattle.kept_model.specs.Phases.{asked_of}
use Rattle.law_records.proofs.Counted.{both_true}
use Rattle.law_refined.specs.Standing.{NodeStands}
use Rattle.law_matched.specs.Silent.{IsReached}
use Rattle.law_matched.proofs.Reaching.{node_reached}
use Rattle.law_phases.specs.Moving.{IsMoved}
use Rattle.law_phases.specs.Opening.{AsksLater, IsBefore}
use Rattle.law_phases.specs.Ordered.{OpensLast, IsOrdered}
use Rattle.law_phases.proofs.Countable.{lines_countable}
use Rattle.law_phases.proofs.Going.{lines_grow}
use Rattle.law_phases.proofs.Keeping.{opened_as, choice_kept}
use Rattle.law_phases.proofs.Letters.{told_tell}
use Rattle.law_phases.proofs.Lines.{opens_last, none_lost, fronts_on}
use Rattle.law_phases.proofs.Moving.{asked_same, asked_new}
use Rattle.law_phases.proofs.Rooms.{told_roomy}
use Rattle.law_phases.proofs.Whole.{step_moved}
use Rattle.law_kept.proofs.Hears.{IsHeardOf, heard_later, step_heard}
use Rattle.law_kept.proofs.Saying.{SaidSound, PostedOwn, owns_more, posted_more, said_later, owns_next}
use Rattle.law_kept.proofs.Along.{IsAlong, IsGiven, judge_now, stepped, row, before}
use Rattle.law_kept.proofs.SaidSound.{said_more}
use Rattle.law_kept.proofs.ClientReached.{client_reached}

-- ---- numbers

top_up : (events : List Event) (n top v : ℕ) (x : News) → AsksFit events n (top + 1) v x → top ≤ top_after top x
top_up events n top v (Asks (request.Write batch)) fits = le_refl top
top_up events n top v (Asks (request.Read b)) fits = le_refl top
top_up events n top v (Asks request.Barrier) fits = le_refl top
top_up events n top v (Asks (request.Restart e)) fits = let low = fits.2 in omega (arith, low)
top_up events n top v (Asks (request.Reassign e g)) fits = let low = fits.2 in omega (arith, low)
top_up events n top v (Says name m) fits = le_refl top
top_up events n top v Crashes fits = le_refl top
top_up events n top v Silence fits = le_refl top

-- a step that begins to open a session asks for it
begun_asks : (x : News) → asks_to_open x ≡ true → (e : ℕ) × (session_asked x ≡ Some e) × ((top : ℕ) → top_after top x ≡ e) × ((asked : ℕ) → AsksLater asked x → asked < e)
begun_asks (Asks (request.Restart e)) is = (e, refl, λ top. refl, λ asked later. later)
begun_asks (Asks (request.Reassign e g)) is = (e, refl, λ top. refl, λ asked later. later)
begun_asks (Asks (request.Write batch)) is = absurd (false≢true is)
begun_asks (Asks (request.Read b)) is = absurd (false≢true is)
begun_asks (Asks request.Barrier) is = absurd (false≢true is)
begun_asks (Says name m) is = absurd (false≢true is)
begun_asks Crashes is = absurd (false≢true is)
begun_asks Silence is = absurd (false≢true is)

asked_news : (p : Past) → begins p ≡ true → asks_to_open p.news ≡ true
asked_news p is = and_left (asks_to_open p.news) (not (refuses p)) is

-- the last session that was asked for only rises, and stays at most the top
asked_rises : (history : List Past) (p : Past) → AsksLater (asked_of history) p.news → asked_of history ≤ asked_of (p ∷ history)
asked_rises history p later = elim (cases_Bool (begins p)) [
  | inl is ↦
      let asks = begun_asks p.news (asked_news p is) in
      let now : asked_of (p ∷ history) ≡ asks.0 = asked_new p history asks.0 is asks.1 in
      let low = asks.3 (asked_of history) later in
      omega (arith, now, low)
  | inr isnt ↦ le_of_eq (sym (asked_same p history isnt))
]

asked_within : (history : List Past) (p : Past) (top : ℕ) → asked_of history ≤ top → top ≤ top_after top p.news → asked_of (p ∷ history) ≤ top_after top p.news
asked_within history p top low up = elim (cases_Bool (begins p)) [
  | inl is ↦
      let asks = begun_asks p.news (asked_news p is) in
      le_of_eq (asked_new p history asks.0 is asks.1 ∙ sym (asks.2 top))
  | inr isnt ↦ let same : asked_of (p ∷ history) ≡ asked_of history = asked_same p history isnt in omega (arith, same, low, up)
]

-- a step that begins to open a session replaces no node
asked_apart : (posts : List Posted) (client : Bool) (what : Handed) → asks_to_open (if client then news_in posts what else Silence) ≡ true → is_replacement what ≡ false
asked_apart posts client (handed.Asked r) is = refl
asked_apart posts client (handed.Deliver k) is = refl
asked_apart posts client (handed.Stop k) is = refl
asked_apart posts client (handed.Lie from bytes) is = refl
asked_apart posts client handed.Tick is = refl
asked_apart posts client handed.Crash is = refl
asked_apart posts client handed.ClientCrash is = refl
asked_apart posts true handed.Replace is = absurd (false≢true is)
asked_apart posts false handed.Replace is = absurd (false≢true is)

open_same : (e k : ℕ) → line.Open e ≡ line.Open k → e ≡ k
open_same e k same = ap (λ (l : Line). opened l) same
  where
    opened : Line → ℕ
    opened (line.Open x) = x
    opened other = e

-- what is reached speaks of each node alone
reached_as : (shape : Shape) (events : List Event) (posts : List Posted) (history : List Past) (known other : NodeName → KnownNode) (sent : ℕ) → ((name : NodeName) → other name ≡ known name)
    → IsReached shape events posts history known sent → IsReached shape events posts history other sent
reached_as shape events posts history known other sent same reached = record {
  start = reached.start;
  now = reached.now;
  begun = reached.begun;
  run = reached.run;
  matches = record {
    client = reached.matches.client;
    images = λ r. reached.matches.images r ∙ ap (λ (k : KnownNode). map (λ (held : Held). image_of held) k.contents) (sym (same (node_of shape r)));
    counts = reached.matches.counts;
    fresh = reached.matches.fresh;
    messages = reached.matches.messages;
  };
  stand = λ name inside. subst (λ (k : KnownNode). NodeStands shape (volume_as shape events) name.region reached.now.client reached.now.votes reached.now.claims k) (sym (same name)) (reached.stand name inside);
  clients = reached.clients;
}

module _ (volume : Volume) (events : List Event) (posts : List Posted) (limits : IsWithinLimits (record { volume = volume; events = events })) (strings : List (List ℕ)) (none : NoTwoCollide strings)
    (unlied : is_lied_for events sender.Client ≡ false) (history : List Past) (n top : ℕ) (c : state.Client) (known : NodeName → KnownNode) (sent : ℕ)
    (a : IsAlong volume events posts limits strings none history n top c known sent) (t : TraceStep) (given : IsGiven volume events posts limits strings none history n top c known sent t) where
  abbrev shape : Shape
  shape = volume.geometry

  abbrev x : News
  x = news_of posts t

  abbrev judge : Judge
  judge = judge_now volume events posts limits strings none history

  abbrev p : Past
  p = past_of volume events posts history t

  abbrev judge_then : Judge
  judge_then = judge_now volume events posts limits strings none (p ∷ history)

  abbrev w : World
  w = a.reached.now

  abbrev known_then : NodeName → KnownNode
  known_then name = after shape posts name (known name) t

  many : 0 < volume.geometry.replicas
  many = limits.volume.small_groups.0

  b : IsBefore volume events history t.event x w
  b = before volume events posts limits strings none history n top c known sent a t given

  -- the step's choice keeps every acknowledged batch
  pub keeps_choice : KeepsChoice volume events posts history t
  keeps_choice e h at all is = choice_kept volume events many history t.event x w b e at (opened_as volume events history t.event x w b e at) all a.fronts h is

  -- none of its lines tells of a session that is lost
  pub unlost : (e : ℕ) → IsAmong (line.Lost e) p.lines → ⊥
  unlost = none_lost volume events limits many history t w x b

  grows : Grows judge judge_then
  grows = lines_grow shape events p.lines judge b.legal

  ordered : IsOrdered history p
  ordered = record {
    apart = λ q among. apart_then q among;
    low = a.low;
    later = λ e is asked. (let asks = begun_asks p.news (asked_news p is) in
        subst (λ k. asked_of history < k) (same_Some asks.0 e (sym asks.1 ∙ asked)) (asks.3 (asked_of history) b.later));
    last = opens_last volume events limits many history t w x b;
  }
    where
      apart_then : (q : Past) → IsAmong q (p ∷ history) → begins q ≡ true → is_replacement q.step.handed ≡ false
      apart_then q (inl same) is =
          subst (λ (y : Past). is_replacement y.step.handed ≡ false) (sym same) (asked_apart posts (is_client t.party) t.handed (asked_news p (subst (λ (y : Past). begins y ≡ true) same is)))
      apart_then q (inr earlier) is = a.apart q earlier is

  low_then : (q : Past) (e : ℕ) → IsAmong q (p ∷ history) → IsAmong (line.Open e) q.lines → e ≤ asked_of (p ∷ history)
  low_then q e (inr earlier) among = le_trans (a.low q e earlier among) (asked_rises history p b.later)
  low_then q e (inl same) among =
      let here : IsAmong (line.Open e) p.lines = subst (λ (y : Past). IsAmong (line.Open e) y.lines) same among in
      let last : OpensLast history p = opens_last volume events limits many history t w x b (any_from is_open_line (line.Open e) p.lines here refl) in
      let is : asked_of history ≡ last.e = ap (λ o. unwrap_or o 1) last.last in
      elim (subst (IsAmong (line.Open e)) last.only here) [
        | inl one ↦
            let number : e ≡ last.e = open_same e last.e one in
            let still : asked_of (p ∷ history) ≡ asked_of history = asked_same p history last.unbegun in
            omega (arith, is, number, still)
        | inr nothing ↦ absurd nothing
      ]

  -- ---- messages

  node_step : (name : NodeName) → t.party ≡ sender.Node name → IsNodeStep shape posts name (known name) sent t
  node_step name is =
      let own : same_node name name ≡ true = both_true (name.region == name.region) (name.replica == name.replica) (eq-eqb name.region name.region refl) (eq-eqb name.replica name.replica refl) in
      let mine : addresses name t ≡ true = ap (λ (s : Sender). same_party s (sender.Node name)) is ∙ own in
      subst (λ (yes : Bool). IsStepOf yes shape posts name (known name) sent t) mine (given.nodes name)

  up : sent ≤ t.sent
  up = by_party t.party refl given.addressed where
    by_party : (who : Sender) → t.party ≡ who → IsPartyOfVolume shape who → sent ≤ t.sent
    by_party sender.Client is inside = (subst (λ (mine : Bool). serving.IsStepOf mine volume posts c sent t) (ap (λ (s : Sender). is_client s) is) given.client).more
    by_party (sender.Node name) is inside = (node_step name is).more

  posted_then : PostedOwn volume events posts judge_then t.sent
  posted_then k counted low rec among = elim (cases_lt sent k) [
    | inl above ↦ given.tagged (stepped volume events posts limits strings none history n top c known sent a t given).standing.reached.chose k rec (subst (λ i. i < k) (sym a.count) above) low among
    | inr within ↦ posted_more volume events posts judge judge_then a.standing.settled.sized grows sent a.posted k counted within rec among
  ]

  said_then : SaidSound volume events posts judge_then t.sent
  said_then = said_later volume events posts judge judge_then a.standing.settled.sized grows t.sent (by_party t.party refl given.addressed) where
    by_party : (who : Sender) → t.party ≡ who → IsPartyOfVolume shape who → SaidSound volume events posts judge t.sent
    by_party sender.Client is inside = λ k counted low post at name of from honest m reads. elim (cases_lt sent k) [
      | inl above ↦
          let step = subst (λ (mine : Bool). serving.IsStepOf mine volume posts c sent t) (ap (λ (s : Sender). is_client s) is) given.client in
          let among : IsAmong post (map posted_letter (client_step volume posts c t).outs) = subst (λ (l : List Posted). IsAmong post l) step.messages (among_between posts sent t.sent k post at above low) in
          let letter = among_map posted_letter post (client_step volume posts c t).outs among in
          let wrong : sender.Client ≡ sender.Node name = sym (ap (λ (y : Posted). y.from) letter.2) ∙ from in
          absurd (false≢true (sym (ap (λ (s : Sender). is_client s) wrong)))
      | inr within ↦ a.said k counted within post at name of from honest m reads
    ]
    by_party (sender.Node name) is inside =
        said_more volume events posts limits unlied history known sent a.reached name inside t is (node_step name is) given.handed (a.owns name inside) a.said

  -- ---- the abstract world

  reached_then : IsReached shape events posts (p ∷ history) known_then t.sent
  reached_then = by_party t.party refl given.addressed where
    client_same : (name : NodeName) → t.party ≡ sender.Client → known_then name ≡ known name
    client_same name is =
        ap (λ (s : Sender). if same_party s (sender.Node name) then known_to shape name.region posts (known name) t.handed t.failed t.loaded else known name) is

    by_party : (who : Sender) → t.party ≡ who → IsPartyOfVolume shape who → IsReached shape events posts (p ∷ history) known_then t.sent
    by_party sender.Client is inside =
        let step = subst (λ (mine : Bool). serving.IsStepOf mine volume posts c sent t) (ap (λ (s : Sender). is_client s) is) given.client in
        reached_as shape events posts (p ∷ history) known known_then t.sent (λ name. client_same name is)
        (client_reached volume events limits posts history known sent c t is a.reached b step a.letters ordered a.count
        (given.tagged (stepped volume events posts limits strings none history n top c known sent a t given).standing.reached.chose) given.letters
        (event_after n t.event x) (session_after (top + 1) x) (row volume events posts limits strings none history n top c known sent a t given).holds)
    by_party (sender.Node name) is inside =
        node_reached volume limits.volume events unlied posts history known sent a.reached name inside t is (node_step name is) given.handed given.guarded

  -- ---- all of it

  moved : IsMoved shape events history p w
  moved = step_moved volume events limits many history t w a.countable x b

  pub along_then : IsAlong volume events posts limits strings none (p ∷ history) (event_after n t.event x) (top_after top x) (client_step volume posts c t).client known_then t.sent
  along_then = record {
    standing = (stepped volume events posts limits strings none history n top c known sent a t given).standing;
    holds = subst (λ (m : ℕ). Holds volume (p ∷ history) judge_then (event_after n t.event x) m (told volume c t.event x).client) (session_is top x)
        (row volume events posts limits strings none history n top c known sent a t given).holds;
    some = some_after n t.event x a.some;
    small = small_after events n (top + 1) t.event x a.small given.fits;
    script = next_scripted events history p n (top + 1) given.fits a.script;
    countable = lines_countable volume events limits p.lines judge b.legal a.countable;
    opening = moved.opening;
    asked = asked_within history p top a.asked (top_up events n top t.event x given.fits);
    roomy = (told_roomy volume c t.event x a.roomy).client;
    letters = (told_tell volume c t.event x a.letters).keeps;
    fronts = fronts_on volume events limits many history t w x b a.fronts;
    heard = λ q among. elim among [
      | inl same ↦ subst (λ (y : Past). IsHeardOf events posts t.sent y.news) (sym same) (heard_later events posts sent t.sent up x (step_heard events posts sent t given.handed))
      | inr earlier ↦ heard_later events posts sent t.sent up q.news (a.heard q earlier)
    ];
    apart = ordered.apart;
    low = low_then;
    posted = posted_then;
    owns = λ name inside. owns_more volume events posts judge judge_then a.standing.settled.sized grows (known_then name)
        (owns_next volume events posts judge sent unlied a.posted name (known name) t (given.nodes name) given.handed (a.owns name inside));
    said = said_then;
    count = refl;
    reached = reached_then;
  }
