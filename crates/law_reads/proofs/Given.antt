-- What a run by the rules gives of each step; of the sound server is left: that it has the session served in memory while the
-- read is open, and that its answers aren't struck.
use Rattle.std.proofs.Common.{◌≡◌, ◌∙◌, ℕ, ◌<◌, Bool, true, false, if◌then◌else◌, List, [], ◌∷◌, None, refl, sym, ap, subst}
use Rattle.std.specs.Prelude.{Ok}
use Rattle.std.specs.List.{AllByRecursion}
use Rattle.salus_types.specs.Volume.{Shape, IsVolume, regions}
use Rattle.salus_types.specs.declared.names.NodeName.{NodeName}
use Rattle.salus_types.specs.declared.names.Sender.{Sender}
use Rattle.salus_types.specs.declared.names.Sender.TheVariants as sender
use Rattle.schedule_text.specs.Limits.{IsPartyOfVolume}
use Rattle.schedule_text.specs.declared.schedule.Volume.{Volume}
use Rattle.schedule_text.specs.declared.schedule.Event.{Event}
use Rattle.merkle_region.specs.Tree.{IsAmong}
use Rattle.volume_model.specs.Contents.{region_of}
use Rattle.volume_model.specs.Groups.{is_client, same_node, same_party, group_of}
use Rattle.salus_message.specs.Reading.{message_at}
use Rattle.salus_message.specs.Spelling.{message_bytes}
use Rattle.salus_message.specs.Ranges.{IsMessage, HasWidths}
use Rattle.salus_message.proofs.MessageLaws.{message_again}
use Rattle.salus_model.specs.declared.trace.TraceStep.{TraceStep}
use Rattle.salus_model.specs.Following.{Posted, sent_by}
use Rattle.salus_model.specs.Hearing.{Past, news_of}
use Rattle.salus_model.specs.Due.{past_of}
use Rattle.salus_model.specs.Complete.{IsSound}
use Rattle.client_rules.specs.State as state
use Rattle.client_rules.specs.State.{Letter, Told}
use Rattle.client_rules.specs.Rules.{client_step, client_letters}
use Rattle.run_rules.specs.Calm.{CalmFrom}
use Rattle.run_rules.specs.Knowing.{KnownNode, known_to}
use Rattle.run_rules.specs.Running as running
use Rattle.run_rules.specs.Running.{addresses, after, IsNodeStep, AllSteps}
use Rattle.run_rules.specs.Serving as serving
use Rattle.run_rules.specs.Serving.{IsClientStep, ClientSteps}
use Rattle.list_lemmas.proofs.Each.{all_split}
use Rattle.list_lemmas.proofs.Members.{among_all}
use Rattle.list_lemmas.proofs.Tests.{by_bool}
use Rattle.law_lemmas.proofs.Named.{one-node, node-itself}
use Rattle.law_lemmas.proofs.WellSent.{AreWellSent}
use Rattle.law_handed.specs.Fitting as fitting
use Rattle.law_handed.specs.Fitting.{LetterGiven}
use Rattle.law_handed.proofs.Blocks.{spelled_closed}
use Rattle.law_handed.proofs.Ranged.{own_fits}
use Rattle.salus_model.specs.Licences.{letters_in, letters_to}
use Rattle.law_lines.specs.Ready.{AreReady, event_after, session_after}
use Rattle.law_lines.proofs.Openings.{HasNodes}
use Rattle.law_reads.specs.Serving.{FairAt, ServesAt, ServesRead}
use Rattle.law_reads.proofs.Along.{told_now, known_then, ReadableThen, Given, ByClient, ByServer, ByOther, IsGiven}
use Rattle.law_reads.proofs.Views.{Fits, IsGood, low_step, readable_of}
use Rattle.law_reads.proofs.Ended.{AreGiven}
use Rattle.law_reads.proofs.Events.{Of, hands_own, runs_for}
use Rattle.law_reads.proofs.Sound.{calm_step, unloaded_step, speaks_then}

-- a letter that can be read back
abbrev pub IsSpelled : Letter → Type 0
IsSpelled l = IsMessage l.message × HasWidths l.message

module _ (volume : Volume) (events : List Event) (posts : List Posted) (trace : List TraceStep) (nodes : HasNodes volume.geometry) (fits : IsVolume volume.geometry) (name : NodeName) (v b : ℕ)
    (region : region_of volume.geometry b ≡ name.region) (group : IsAmong name (group_of volume.geometry (region_of volume.geometry b))) (replica : name.replica < volume.geometry.replicas)
    (sound : IsSound events trace name) where
  abbrev shape : Shape
  shape = volume.geometry

  abbrev told_on : state.Client → TraceStep → Told
  told_on c t = told_now volume events posts nodes fits name v b region group replica c t

  abbrev known_on : KnownNode → TraceStep → KnownNode
  known_on known t = known_then volume events posts nodes fits name v b region group replica known t

  -- what a run by the rules gives of these steps
  pub record AreByRules (history : List Past) (n m : ℕ) (c : state.Client) (known : KnownNode) (earlier steps : List TraceStep) : Type 0 where
    pub ready : AreReady volume events posts history n m steps
    pub node : AllSteps shape posts name known (sent_by earlier) steps
    pub client : ClientSteps volume posts c (sent_by earlier) steps
    pub well : AreWellSent posts earlier steps
    pub of : AllByRecursion (Of events posts) steps
    pub calm : CalmFrom events earlier steps
    pub spelled : AllByRecursion IsSpelled (client_letters volume posts c steps)
    pub inside : AllByRecursion (λ t. IsAmong t trace) steps
    pub speaks : known.silent ≡ false
    pub addressed : AllByRecursion (λ t. IsPartyOfVolume shape t.party) steps
    pub fit : name.region < regions shape → Fits shape known
    pub low : name.region < regions shape → IsGood shape known.state.memory
    pub letters : AllByRecursion (LetterGiven fitting.IsSpelled fitting.IsSpelled) (letters_to posts name steps)

  -- ---- one step

  letters_back : (c : state.Client) (t : TraceStep) → AllByRecursion IsSpelled (client_step volume posts c t).outs → (l : Letter) → IsAmong l (client_step volume posts c t).outs
      → (message_at (message_bytes l.message) ≡ Ok l.message) × HasWidths l.message
  letters_back c t all l among = let one = among_all IsSpelled (client_step volume posts c t).outs l among all in (message_again l.message one.0 one.1, one.1)

  client_given : (c : state.Client) (known : KnownNode) (earlier : List TraceStep) (t : TraceStep) → t.party ≡ sender.Client → serving.IsStepOf (is_client t.party) volume posts c (sent_by earlier) t
      → Of events posts t → AllByRecursion IsSpelled (client_step volume posts c t).outs → FairAt shape posts name v b c t
      → Given volume events posts nodes fits name v b region group replica c known earlier t
  client_given c known earlier t party by of spelled fair =
      ByClient (record {
        by = subst (λ (w : Bool). serving.IsStepOf w volume posts c (sent_by earlier) t) (ap is_client party) by;
        party = party;
        own = hands_own events posts t of;
        runs = runs_for events posts t.party t.handed of (ap is_client party);
        spelled = letters_back c t spelled;
      }) fair

  node_step : (known : KnownNode) (before : ℕ) (t : TraceStep) → t.party ≡ sender.Node name → running.IsStepOf (addresses name t) shape posts name known before t → IsNodeStep shape posts name known before t
  node_step known before t party by =
      subst (λ (w : Bool). running.IsStepOf w shape posts name known before t) (ap (λ (p : Sender). same_party p (sender.Node name)) party ∙ node-itself name) by

  server_given : (c : state.Client) (known : KnownNode) (earlier : List TraceStep) (t : TraceStep) → t.party ≡ sender.Node name → IsNodeStep shape posts name known (sent_by earlier) t → Of events posts t
      → known.silent ≡ false → t.failed ≡ false → t.loaded ≡ None
      → ReadableThen volume events posts nodes fits name v b region group replica known t → ServesAt shape posts name v b c known t
      → Given volume events posts nodes fits name v b region group replica c known earlier t
  server_given c known earlier t party by of speaks calm unloaded readable serves =
      ByServer (record { by = by; party = party; own = hands_own events posts t of; speaks = speaks; calm = calm; unloaded = unloaded }) readable serves

  -- by its party
  data PartyOf (t : TraceStep) : Type 0 where
    IsClients : t.party ≡ sender.Client → PartyOf t
    IsServers : t.party ≡ sender.Node name → PartyOf t
    IsOthers : is_client t.party ≡ false → addresses name t ≡ false → PartyOf t

  party_by : (t : TraceStep) (p : Sender) → t.party ≡ p → PartyOf t
  party_by t sender.Client is = IsClients is
  party_by t (sender.Node other) is =
      by_bool (same_node other name) (PartyOf t)
      (λ same. IsServers (is ∙ ap (λ (n : NodeName). sender.Node n) (one-node other name same)))
      (λ differs. IsOthers (ap is_client is) (ap (λ (p : Sender). same_party p (sender.Node name)) is ∙ differs))

  module _ (history : List Past) (n m : ℕ) (c : state.Client) (known : KnownNode) (earlier : List TraceStep) (t : TraceStep) (steps : List TraceStep)
      (by : AreByRules history n m c known earlier (t ∷ steps)) (served : ServesRead volume posts name v b c known (t ∷ steps)) where
    node_here : running.IsStepOf (addresses name t) shape posts name known (sent_by earlier) t × AllSteps shape posts name (after shape posts name known t) t.sent steps
    unfolding AllSteps
    node_here = by.node

    client_here : serving.IsStepOf (is_client t.party) volume posts c (sent_by earlier) t × ClientSteps volume posts (client_step volume posts c t).client t.sent steps
    unfolding ClientSteps
    client_here = by.client

    letters_here : AllByRecursion IsSpelled (client_step volume posts c t).outs × AllByRecursion IsSpelled (client_letters volume posts (client_step volume posts c t).client steps)
    unfolding client_letters
    letters_here = all_split IsSpelled (client_step volume posts c t).outs (client_letters volume posts (client_step volume posts c t).client steps) by.spelled

    calm_here : t.party ≡ sender.Node name → t.failed ≡ false
    unfolding CalmFrom
    calm_here party = calm_step events posts trace name sound earlier t by.inside.0 party by.calm.0

    unloaded_here : t.party ≡ sender.Node name → t.loaded ≡ None
    unloaded_here party = unloaded_step events posts trace name sound shape known (sent_by earlier) t by.inside.0 party by.of.0 (node_step known (sent_by earlier) t party node_here.0)

    fit_then : name.region < regions shape → Fits shape (known_on known t)
    fit_then within = own_fits shape fitting.IsSpelled fitting.IsSpelled (fitting.IsShaped shape) (spelled_closed shape) posts name (addresses name t) known (sent_by earlier) t node_here.0 (by.fit within)
        (all_split (LetterGiven fitting.IsSpelled fitting.IsSpelled) (if addresses name t then letters_in posts t.handed else []) (letters_to posts name steps) by.letters).0

    server_here : t.party ≡ sender.Node name → addresses name t ≡ true
    server_here party = ap (λ (p : Sender). same_party p (sender.Node name)) party ∙ node-itself name

    letters_step : t.party ≡ sender.Node name → AllByRecursion (LetterGiven fitting.IsSpelled fitting.IsSpelled) (letters_in posts t.handed)
    letters_step party =
        subst (λ (w : Bool). AllByRecursion (LetterGiven fitting.IsSpelled fitting.IsSpelled) (if w then letters_in posts t.handed else [])) (server_here party)
        (all_split (LetterGiven fitting.IsSpelled fitting.IsSpelled) (if addresses name t then letters_in posts t.handed else []) (letters_to posts name steps) by.letters).0

    -- a node that a step addresses is one of the volume's
    within_here : t.party ≡ sender.Node name → name.region < regions shape
    within_here party = (subst (λ (p : Sender). IsPartyOfVolume shape p) party by.addressed.0).0

    low_here : t.party ≡ sender.Node name → IsGood shape (known_to shape name.region posts known t.handed t.failed t.loaded).state.memory
    low_here party = low_step shape name.region posts known t.handed t.failed t.loaded (by.fit (within_here party)) (by.low (within_here party)) (letters_step party) (unloaded_here party)

    readable_here : t.party ≡ sender.Node name → ReadableThen volume events posts nodes fits name v b region group replica known t
    readable_here party m is =
        readable_of shape (known_to shape name.region posts known t.handed t.failed t.loaded)
        (subst (λ (w : Bool). Fits shape (if w then known_to shape name.region posts known t.handed t.failed t.loaded else known)) (server_here party) (fit_then (within_here party))) (low_here party) m is

    low_then : PartyOf t → name.region < regions shape → IsGood shape (known_on known t).state.memory
    low_then (IsClients party) within =
        subst (λ (w : Bool). IsGood shape (if w then known_to shape name.region posts known t.handed t.failed t.loaded else known).state.memory) (sym (ap (λ (p : Sender). same_party p (sender.Node name)) party)) (by.low within)
    low_then (IsOthers other away) within =
        subst (λ (w : Bool). IsGood shape (if w then known_to shape name.region posts known t.handed t.failed t.loaded else known).state.memory) (sym away) (by.low within)
    low_then (IsServers party) within =
        subst (λ (w : Bool). IsGood shape (if w then known_to shape name.region posts known t.handed t.failed t.loaded else known).state.memory) (sym (server_here party)) (low_here party)

    given_by : PartyOf t → Given volume events posts nodes fits name v b region group replica c known earlier t
    unfolding ServesRead AreWellSent
    given_by (IsClients party) = client_given c known earlier t party client_here.0 by.of.0 letters_here.0 served.0
    given_by (IsServers party) =
        server_given c known earlier t party (node_step known (sent_by earlier) t party node_here.0) by.of.0 by.speaks (calm_here party) (unloaded_here party) (readable_here party) (served.1 party)
    given_by (IsOthers other away) = ByOther other away (hands_own events posts t by.of.0) by.well.0.more

    is_given : IsGiven volume events posts nodes fits name v b region group replica history n m c known earlier t
    unfolding AreReady AreWellSent
    is_given = record {
      ready = by.ready.0;
      hands_sent = λ k hit. (by.well.0.before k hit).1;
      more = by.well.0.more;
      given = given_by (party_by t t.party refl);
    }

    still_speaks : PartyOf t → (known_on known t).silent ≡ false
    still_speaks (IsClients party) = ap (λ (w : Bool). (if w then known_to shape name.region posts known t.handed t.failed t.loaded else known).silent) (ap (λ (p : Sender). same_party p (sender.Node name)) party) ∙ by.speaks
    still_speaks (IsOthers other away) = ap (λ (w : Bool). (if w then known_to shape name.region posts known t.handed t.failed t.loaded else known).silent) away ∙ by.speaks
    still_speaks (IsServers party) =
        ap (λ (w : Bool). (if w then known_to shape name.region posts known t.handed t.failed t.loaded else known).silent) (ap (λ (p : Sender). same_party p (sender.Node name)) party ∙ node-itself name)
        ∙ speaks_then shape posts name.region known t.handed t.failed t.loaded by.speaks (calm_here party) (unloaded_here party)

    rest_by : AreByRules (past_of volume events posts history t ∷ history) (event_after n t.event (news_of posts t)) (session_after m (news_of posts t)) (told_on c t).client (known_on known t) (t ∷ earlier) steps
    unfolding AreReady AreWellSent CalmFrom
    rest_by = record {
      ready = by.ready.1;
      node = node_here.1;
      client = client_here.1;
      well = by.well.1;
      of = by.of.1;
      calm = by.calm.1;
      spelled = letters_here.1;
      inside = by.inside.1;
      speaks = still_speaks (party_by t t.party refl);
      addressed = by.addressed.1;
      fit = fit_then;
      low = low_then (party_by t t.party refl);
      letters = (all_split (LetterGiven fitting.IsSpelled fitting.IsSpelled) (if addresses name t then letters_in posts t.handed else []) (letters_to posts name steps) by.letters).1;
    }

  -- So each step is given.
  pub are_given : (steps : List TraceStep) (history : List Past) (n m : ℕ) (c : state.Client) (known : KnownNode) (earlier : List TraceStep) → AreByRules history n m c known earlier steps
      → ServesRead volume posts name v b c known steps → AreGiven volume events posts nodes fits name v b region group replica history n m c known earlier steps
  unfolding AreGiven ServesRead
  are_given [] history n m c known earlier by served = tt
  are_given (t ∷ steps) history n m c known earlier by served = (
    is_given history n m c known earlier t steps by served,
    are_given steps (past_of volume events posts history t ∷ history) (event_after n t.event (news_of posts t)) (session_after m (news_of posts t)) (told_on c t).client (known_on known t) (t ∷ earlier)
        (rest_by history n m c known earlier t steps by served) served.2,
  )
