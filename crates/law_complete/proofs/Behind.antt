-- Along a run: each claim that a sound node has posted, and each that the client has heard of it, is of a session before the node's
-- own, or is at most its leader's front.
use Rattle.std.proofs.Common.{◌≡◌, ◌∙◌, inl, inr, ℕ, ◌+◌, ◌<◌, ◌≤◌, not, Bool, true, false, if◌then◌else◌, List, [], ◌∷◌, Option, None, Some, refl, sym, ap, subst, arith}
use Rattle.std.specs.Prelude.{Ok}
use Rattle.std.specs.Option.{option_map_or}
use Rattle.std.specs.List.{AllByRecursion}
use Rattle.std.proofs.lemmas.Bool.{true≢false, cases_lt}
use Rattle.salus_types.specs.Volume.{Shape}
use Rattle.salus_types.specs.declared.names.NodeName.{NodeName}
use Rattle.salus_types.specs.declared.names.Sender.{Sender}
use Rattle.salus_types.specs.declared.names.Sender.TheVariants as sender
use Rattle.salus_message.specs.declared.small.Committed.{Committed}
use Rattle.salus_message.specs.declared.wire.Message.{Message}
use Rattle.salus_message.specs.declared.wire.Message.TheVariants as message
use Rattle.salus_message.specs.Reading.{message_at}
use Rattle.salus_message.specs.Spelling.{message_bytes}
use Rattle.schedule_text.specs.Limits.{IsOfVolume, IsWithinLimits}
use Rattle.schedule_text.specs.declared.schedule.Volume.{Volume}
use Rattle.schedule_text.specs.declared.schedule.Event.{Event}
use Rattle.merkle_region.specs.Tree.{IsAmong, NoTwoCollide}
use Rattle.volume_model.specs.Groups.{same_party}
use Rattle.salus_model.specs.declared.trace.TraceStep.{TraceStep}
use Rattle.salus_model.specs.declared.trace.Handed.{Handed}
use Rattle.salus_model.specs.Judge.{Judge}
use Rattle.salus_model.specs.Following.{Posted, posted_at, sent_by}
use Rattle.salus_model.specs.Guarding.{is_lied_for}
use Rattle.salus_model.specs.Hearing.{News, Says, Past, news_of, judge_of}
use Rattle.salus_model.specs.Due.{past_of}
use Rattle.salus_model.specs.Complete.{IsSound}
use Rattle.salus_model.specs.Licences.{letters_to}
use Rattle.client_rules.specs.State as state
use Rattle.client_rules.specs.Rules.{told}
use Rattle.replica_rules.specs.Leading.{Leader, new_leader}
use Rattle.replica_rules.specs.Nodes.{Memory, NodeState}
use Rattle.replica_rules.specs.Rules.{Sending, Input, planned, handled}
use Rattle.run_rules.specs.Calm.{CalmFrom, MayFail}
use Rattle.run_rules.specs.Knowing.{KnownNode, fresh, outs_of, outs_to, input_of, known_to}
use Rattle.run_rules.specs.Running as running
use Rattle.run_rules.specs.Running.{addresses, after, formatted, IsNodeStep, AllSteps}
use Rattle.list_lemmas.proofs.Each.{OfSome, all_then}
use Rattle.list_lemmas.proofs.Lists.{among_between}
use Rattle.list_lemmas.proofs.Members.{among_all, among_map}
use Rattle.list_lemmas.proofs.Tests.{by_bool, and_left}
use Rattle.law_lemmas.proofs.Named.{one-node}
use Rattle.law_lemmas.proofs.Numbered.{IsSized}
use Rattle.law_lemmas.proofs.Settled.{EachKnown}
use Rattle.law_history.specs.Handing.{steps_in}
use Rattle.law_history.proofs.Chosen.{HasContents}
use Rattle.law_handed.specs.Fitting.{IsSpelled, LetterGiven}
use Rattle.law_posts.proofs.Along.{top_after}
use Rattle.law_reads.proofs.Sound.{calm_step, unloaded_step}
use Rattle.law_claimed.specs.Leading.{Rises, IsSettled}
use Rattle.law_claimed.proofs.Leads.{handled_leads}
use Rattle.law_asked.proofs.Along as asked
use Rattle.law_asked.proofs.Said.{IsSaid, step_said}
use Rattle.law_served.proofs.Node.{InputFits, Steps, steps}
use Rattle.law_served.proofs.Along as served
use Rattle.law_served.proofs.Fronts.{node_listed}
use Rattle.law_complete.specs.Beginning.{input_at}
use Rattle.law_complete.proofs.Since.{handles}
use Rattle.law_complete.proofs.Switching.{none_some, new_memory, IsSwitching, switch_brought, new_leader_then, switched_session}
use Rattle.law_complete.proofs.ClaimsSent.{ClaimsBy, handled_claims}
use Rattle.law_complete.proofs.ClaimsWide.{claim_again}

-- ---- of one node

-- the front of the leader in memory
abbrev pub front_in : Option Memory → ℕ
front_in o = option_map_or (λ m. m.leader.front) o 0

-- the claim is of a session before the node's own, or of no batch above its front
pub record IsBehind (node : NodeState) (q : Committed) : Type 0 where
  pub session : q.session ≤ node.held.session
  pub front : q.session ≡ node.held.session → q.front ≤ front_in node.memory

abbrev pub AreSettled : Shape → Option Memory → Type 0
AreSettled shape memory = OfSome (λ m. IsSettled shape m.leader) memory

-- what a handling leaves so
record Goes (shape : Shape) (before after : NodeState) : Type 0 where
  settled : AreSettled shape after.memory
  behind : (q : Committed) → IsBehind before q → IsBehind after q

still_goes : (shape : Shape) (node : NodeState) → AreSettled shape node.memory → Goes shape node node
still_goes shape node settled = record { settled = settled; behind = λ q behind. behind }

new_settled : (shape : Shape) (m : Memory) → m.leader ≡ new_leader m.replica.view.number [] → IsSettled shape m.leader
unfolding Rises
new_settled shape m new = subst (λ (l : Leader). IsSettled shape l) (sym new) (record { rises = tt; none = tt })

some_settled : (shape : Shape) (o : Option Memory) → ((m : Memory) → o ≡ Some m → IsSettled shape m.leader) → AreSettled shape o
some_settled shape None each = tt
some_settled shape (Some m) each = each m refl

-- it stays in its session
stays_goes : (shape : Shape) (g : ℕ) (node : NodeState) (input : Input) (m : Memory) → node.memory ≡ Some m → AreSettled shape node.memory → (handled shape g node input).node.held.session ≡ node.held.session
    → Goes shape node (handled shape g node input).node
stays_goes shape g node input m there settled same =
    let leads = handled_leads shape g node input m there same in
    let was : IsSettled shape m.leader = subst (AreSettled shape) there settled in
    let up : m.leader.front ≤ leads.m.leader.front = leads.leads.rises in
    let before : front_in node.memory ≡ m.leader.front = ap front_in there in
    let after : front_in (handled shape g node input).node.memory ≡ leads.m.leader.front = ap front_in leads.is in
    record {
      settled = subst (AreSettled shape) (sym leads.is) (leads.leads.settled was);
      behind = λ q behind. record {
        session = (let low = behind.session in omega (arith, low, same));
        front = λ at. (let low : q.front ≤ front_in node.memory = behind.front (at ∙ same) in omega (arith, low, up, before, after));
      };
    }

-- it switches
switches_goes : (shape : Shape) (g : ℕ) (node : NodeState) (input : Input) → (w : IsSwitching shape g node (planned shape g node input)) → AllByRecursion (λ rec. rec.header.session ≤ node.held.session) node.held.parts
    → Goes shape node (handled shape g node input).node
switches_goes shape g node input w low =
    let up : node.held.session < w.e = w.up in
    let now : (handled shape g node input).node.held.session ≡ w.e = switched_session shape g node input w in
    record {
      settled = some_settled shape (handled shape g node input).node.memory (λ m is. new_settled shape m (new_leader_then shape g node input w low m is));
      behind = λ q behind. record {
        session = (let below = behind.session in omega (arith, below, up, now));
        front = λ at. (let below = behind.session in absurd (omega (arith, below, up, now, at)));
      };
    }

-- what it sends then
sent_behind : (memory : Option Memory) (m : Memory) → memory ≡ Some m → (node : NodeState) → node.memory ≡ memory → m.replica.session ≡ node.held.session → (x : Message) → ClaimsBy memory x → (q : Committed) → x ≡ message.Committed q → IsBehind node q
sent_behind memory m is node same session x claims q what =
    let here : ClaimsBy (Some m) (message.Committed q) = subst (λ (o : Option Memory). ClaimsBy o (message.Committed q)) is (subst (ClaimsBy memory) what claims) in
    let at : q.session ≡ m.replica.session = here.0 in
    let low : q.front ≤ m.leader.front = here.1 in
    let front : front_in node.memory ≡ m.leader.front = ap front_in (same ∙ is) in
    record { session = omega (arith, at, session); front = λ _. omega (arith, low, front) }

-- a node that speaks sends what its rules say
outs_are : (shape : Shape) (g : ℕ) (posts : List Posted) (known : KnownNode) (what : Handed) (failed : Bool) → known.silent ≡ false → failed ≡ false
    → outs_to shape g posts known what failed ≡ option_map_or (λ input. (handled shape g known.state input).outs) (input_of posts what) []
outs_are shape g posts known what failed speaks calm = by (input_of posts what)
  where
    by : (o : Option Input) → option_map_or (λ input. outs_of shape g known input failed) o [] ≡ option_map_or (λ input. (handled shape g known.state input).outs) o []
    by None = refl
    by (Some input) =
        ap (λ (f : Bool). outs_of shape g known input f) calm
        ∙ ap (λ (b : Bool). outs_of shape g (record { state = known.state; silent = b; contents = known.contents }) input false) speaks

-- ---- along a run

module _ (volume : Volume) (events : List Event) (posts : List Posted) (trace : List TraceStep) (limits : IsWithinLimits (record { volume = volume; events = events })) (strings : List (List ℕ)) (none : NoTwoCollide strings)
    (unlied : is_lied_for events sender.Client ≡ false) (name : NodeName) (sound : IsSound events trace name)
    (right : AllSteps volume.geometry posts name (fresh volume.geometry name.region (formatted volume name)) 0 trace) (inside : IsOfVolume volume.geometry name)
    (spelled : AllByRecursion (LetterGiven IsSpelled IsSpelled) (letters_to posts name trace)) where
  abbrev shape : Shape
  shape = volume.geometry

  abbrev start : KnownNode
  start = fresh volume.geometry name.region (formatted volume name)

  abbrev judge_here : List Past → Judge
  judge_here history = judge_of volume.geometry events history

  abbrev pub Before : List TraceStep → List Past → ℕ → ℕ → state.Client → KnownNode → Type 0
  Before done history n top c known = asked.IsAlong volume events posts trace limits strings none unlied name sound right done history n top c known

  abbrev pub Given : List Past → ℕ → ℕ → state.Client → KnownNode → List TraceStep → List TraceStep → Type 0
  Given history n m c known done rest = asked.AreGiven volume events posts trace limits strings none unlied name sound right history n m c known done rest

  abbrev pub On : List Past → ℕ → state.Client → KnownNode → Type 0
  On history top c known = served.IsOn volume events posts trace limits strings none unlied name sound right inside (node_listed volume.geometry name inside) history top c known

  -- each claim in the first messages that were sent
  abbrev PostedBehind : ℕ → NodeState → Type 0
  PostedBehind sent node =
      (k : ℕ) → 0 < k → k ≤ sent → (post : Posted) → posted_at posts k ≡ Some post → post.from ≡ sender.Node name → (q : Committed) → message_at post.bytes ≡ Ok (message.Committed q) → IsBehind node q

  -- each that the client has heard of the node
  abbrev pub HeardBehind : NodeState → Past → Type 0
  HeardBehind node p = (q : Committed) → p.news ≡ Says name (message.Committed q) → IsBehind node q

  pub record AllBehind (history : List Past) (node : NodeState) : Type 0 where
    pub settled : AreSettled shape node.memory
    pub posted : PostedBehind (sent_by (steps_in history)) node
    pub heard : AllByRecursion (HeardBehind node) history

  module _ (done : List TraceStep) (history : List Past) (n top : ℕ) (c : state.Client) (known : KnownNode) (a : Before done history n top c known) (on : On history top c known) (t : TraceStep) (rest : List TraceStep)
      (given : Given history n (top + 1) c known done (t ∷ rest)) (calm : CalmFrom events (steps_in history) (t ∷ rest)) (b : AllBehind history known.state) where
    abbrev judge : Judge
    judge = judge_here history

    abbrev sent : ℕ
    sent = sent_by (steps_in history)

    abbrev p : Past
    p = past_of volume events posts history t

    abbrev next : KnownNode
    next = after shape posts name known t

    sized : EachKnown judge (IsSized shape)
    sized = a.standing.settled.sized

    node_here : running.IsStepOf (addresses name t) shape posts name known (sent_by (steps_in history)) t × AllSteps shape posts name (after shape posts name known t) t.sent rest
    node_here = asked.node_here volume events posts trace limits strings none unlied name sound right done history n top c known a t rest given

    calm_here : (t.failed ≡ true → MayFail events (steps_in history) t) × CalmFrom events (t ∷ steps_in history) rest
    unfolding CalmFrom
    calm_here = calm

    then_on : On (p ∷ history) (top_after top (news_of posts t)) (told volume c t.event (news_of posts t)).client next
    then_on = served.on_then volume events posts trace limits strings none unlied name sound right inside (node_listed volume.geometry name inside) done history n top c known a on t rest given calm

    -- ---- the node after the step

    is_mine : (w : Sender) → same_party w (sender.Node name) ≡ true → w ≡ sender.Node name
    is_mine sender.Client hit = absurd (true≢false (sym hit))
    is_mine (sender.Node other) hit = ap (λ (k : NodeName). sender.Node k) (one-node other name hit)

    unfailed : t.party ≡ sender.Node name → t.failed ≡ false
    unfailed party = calm_step events posts trace name sound (steps_in history) t (given.inside t (inl refl)) party calm_here.0

    mine_then : addresses name t ≡ true → next.state ≡ option_map_or (λ input. (handled shape name.region known.state input).node) (input_of posts t.handed) known.state
    mine_then mine =
        let party : t.party ≡ sender.Node name = is_mine t.party mine in
        let step : IsNodeStep shape posts name known (sent_by (steps_in history)) t = subst (λ (w : Bool). running.IsStepOf w shape posts name known (sent_by (steps_in history)) t) mine node_here.0 in
        ap (λ (w : Bool). (if w then known_to shape name.region posts known t.handed t.failed t.loaded else known).state) mine
        ∙ handles shape name.region posts known t.handed t.failed t.loaded on.speaks (unfailed party)
        (unloaded_step events posts trace name sound shape known (sent_by (steps_in history)) t (given.inside t (inl refl)) party given.of.0 step)

    next_state : next.state ≡ option_map_or (λ input. (handled shape name.region known.state input).node) (input_at posts name t) known.state
    next_state =
        by_bool (addresses name t) (next.state ≡ option_map_or (λ input. (handled shape name.region known.state input).node) (input_at posts name t) known.state)
        (λ mine. mine_then mine ∙ ap (λ (w : Bool). option_map_or (λ input. (handled shape name.region known.state input).node) (if w then input_of posts t.handed else None) known.state) (sym mine))
        (λ away. ap (λ (w : Bool). (if w then known_to shape name.region posts known t.handed t.failed t.loaded else known).state) away
        ∙ ap (λ (w : Bool). option_map_or (λ input. (handled shape name.region known.state input).node) (if w then input_of posts t.handed else None) known.state) (sym away))

    handed_here : (input : Input) → input_at posts name t ≡ Some input → input_of posts t.handed ≡ Some input
    handed_here input is =
        by_bool (addresses name t) (input_of posts t.handed ≡ Some input)
        (λ mine. ap (λ (w : Bool). if w then input_of posts t.handed else None) (sym mine) ∙ is)
        (λ away. absurd (none_some input (ap (λ (w : Bool). if w then input_of posts t.handed else None) (sym away) ∙ is)))

    abbrev InputOk : Input → Type 0
    InputOk i = served.InputOk volume events posts trace limits strings none unlied name sound right inside (node_listed volume.geometry name inside) done history n top c known a on t rest given calm i

    module _ (input : Input) (is : input_at posts name t ≡ Some input) where
      fits : InputFits shape volume.key judge input
      fits =
          let ok : InputOk input = subst (λ (o : Option Input). OfSome InputOk o) (handed_here input is)
          (served.input_ok volume events posts trace limits strings none unlied name sound right inside (node_listed volume.geometry name inside) done history n top c known a on t rest given calm t.handed
          (asked.over volume events posts trace limits strings none unlied name sound right done history n top c known a t rest given)) in
          ok.0

      contents : EachKnown judge (HasContents shape strings)
      contents = served.contents_seen volume events posts trace limits strings none unlied name sound right inside (node_listed volume.geometry name inside) done history n top c known a on t rest given calm

      stepped : Steps shape volume.key judge sized strings none contents name.region inside.0 known.state on.stands input
      stepped = steps shape volume.key judge sized strings none contents name.region inside.0 known.state on.stands input fits

      goes_by : Goes shape known.state (handled shape name.region known.state input).node
      goes_by = elim stepped.session [
        | inl same ↦ stays_goes shape name.region known.state input on.stands.m on.stands.there b.settled same
        | inr it ↦ elim (switch_brought shape name.region known.state input it.0 it.1) [
          | inl same ↦ stays_goes shape name.region known.state input on.stands.m on.stands.there b.settled same
          | inr w ↦ switches_goes shape name.region known.state input w on.stands.later.parts
        ]
      ]

    goes : Goes shape known.state next.state
    goes = by (input_at posts name t) refl
      where
        by : (o : Option Input) → input_at posts name t ≡ o → Goes shape known.state next.state
        by None is = subst (Goes shape known.state) (sym (next_state ∙ ap (λ (o : Option Input). option_map_or (λ input. (handled shape name.region known.state input).node) o known.state) is)) (still_goes shape known.state b.settled)
        by (Some input) is =
            subst (Goes shape known.state) (sym (next_state ∙ ap (λ (o : Option Input). option_map_or (λ input. (handled shape name.region known.state input).node) o known.state) is)) (goes_by input is)

    -- ---- what it sends then

    rises_here : OfSome (λ (m : Memory). Rises 0 m.leader.noted) known.state.memory
    rises_here = by known.state.memory b.settled
      where
        by : (o : Option Memory) → AreSettled shape o → OfSome (λ (m : Memory). Rises 0 m.leader.noted) o
        by None none = tt
        by (Some m) settled = settled.rises

    module _ (party : t.party ≡ sender.Node name) where
      mine : addresses name t ≡ true
      mine = asked.mine volume events posts trace limits strings none unlied name sound right done history n top c known a t rest given party

      out_behind : (o : Option Input) → input_of posts t.handed ≡ o → (out : Sending) → IsAmong out (option_map_or (λ input. (handled shape name.region known.state input).outs) o []) → (q : Committed) → out.message ≡ message.Committed q
          → IsBehind next.state q
      out_behind None is out among q what = absurd among
      out_behind (Some input) is out among q what =
          let now : next.state ≡ (handled shape name.region known.state input).node =
          mine_then mine ∙ ap (λ (o : Option Input). option_map_or (λ input. (handled shape name.region known.state input).node) o known.state) is in
          let memory : next.state.memory ≡ (planned shape name.region known.state input).memory = ap (λ (k : NodeState). k.memory) now in
          sent_behind (planned shape name.region known.state input).memory then_on.stands.m (sym memory ∙ then_on.stands.there) next.state memory then_on.stands.session out.message
          (among_all (λ (s : Sending). ClaimsBy (planned shape name.region known.state input).memory s.message) (planned shape name.region known.state input).outs out among
          (handled_claims shape name.region known.state input rises_here)) q what

      new_claim : (k : ℕ) → sent < k → k ≤ t.sent → (post : Posted) → posted_at posts k ≡ Some post → (q : Committed) → message_at post.bytes ≡ Ok (message.Committed q) → IsBehind next.state q
      new_claim k above low post at q reads =
          let outs : List Sending = outs_to shape name.region posts known t.handed t.failed in
          let send : Sending → Posted = λ out. record { from = sender.Node name; to = out.to; bytes = message_bytes out.message } in
          let node = asked.node_now volume events posts trace limits strings none unlied name sound right done history n top c known a t rest given party in
          let found = among_map send post outs (subst (λ (l : List Posted). IsAmong post l) node.messages (among_between posts sent t.sent k post at above low)) in
          let same : found.0.message ≡ message.Committed q =
          claim_again volume events posts trace limits strings none unlied name sound right spelled done history n top c known a t rest given party found.0 found.1 q (ap (λ (m : Posted). message_at m.bytes) (sym found.2) ∙ reads) in
          out_behind (input_of posts t.handed) refl found.0 (subst (λ (l : List Sending). IsAmong found.0 l) (outs_are shape name.region posts known t.handed t.failed on.speaks (unfailed party)) found.1) q same

    -- ---- what is heard of it

    heard_now : HeardBehind next.state p
    heard_now q is =
        let over = asked.over volume events posts trace limits strings none unlied name sound right done history n top c known a t rest given in
        let said : IsSaid events posts sent (Says name (message.Committed q)) = subst (λ (x : News). IsSaid events posts sent x) is (step_said events posts sent t over) in
        elim said [
          | inl lied ↦ absurd (true≢false (sym (and_left (not (is_lied_for events (sender.Node name))) _ sound.right) ∙ ap not lied))
          | inr was ↦ goes.behind q (b.posted was.k was.counted was.low was.post was.at was.from q was.reads)
        ]

    -- So it holds after the step.
    pub behind_then : AllBehind (p ∷ history) next.state
    behind_then = record {
      settled = goes.settled;
      posted = λ k counted low post at from q reads. elim (cases_lt sent k) [
        | inl above ↦
            new_claim (sym (asked.posted_own volume events posts trace limits strings none unlied name sound right done history n top c known a t rest given k above low post at) ∙ from) k above low post at q reads
        | inr within ↦ goes.behind q (b.posted k counted within post at from q reads)
      ];
      heard = (heard_now, all_then (HeardBehind known.state) (HeardBehind next.state) (λ r old q is. goes.behind q (old q is)) history b.heard);
    }

  -- ---- at first

  pub first_behind : AllBehind [] start.state
  first_behind = record {
    settled = some_settled shape start.state.memory (λ m is. new_settled shape m (new_memory shape name.region (formatted volume name) refl m is));
    posted = λ k counted low post at from q reads. absurd (omega (arith, counted, low));
    heard = tt;
  }
