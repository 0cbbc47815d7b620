-- The law, of a whole run.
use Rattle.std.proofs.Common.{◌≡◌, ◌∙◌, inl, inr, ℕ, ◌+◌, ◌<◌, ◌≤◌, ◌==◌, ◌&&◌, nat_le, Bool, true, false, if◌then◌else◌, List, [], ◌∷◌, ◌++◌, length, sym, ap, subst, arith, eqb-true, append_assoc, append-nil}
use Rattle.std.specs.Prelude.{slice_index}
use Rattle.std.specs.List.{AllByRecursion}
use Rattle.std.proofs.lemmas.Bool.{true≢false, leb-true}
use Rattle.std.proofs.lemmas.Nat.{pow_pos}
use Rattle.salus_types.specs.Volume.{Shape, regions}
use Rattle.salus_types.specs.declared.names.NodeName.{NodeName}
use Rattle.salus_types.specs.declared.names.Sender.TheVariants as sender
use Rattle.salus_message.specs.declared.small.Committed.{Committed}
use Rattle.salus_message.specs.declared.wire.Message.TheVariants as message
use Rattle.schedule_text.specs.Limits.{IsOfVolume, IsWithinLimits}
use Rattle.schedule_text.specs.declared.schedule.Volume.{Volume}
use Rattle.schedule_text.specs.declared.schedule.Event.{Event}
use Rattle.merkle_region.specs.Tree.{IsAmong, NoTwoCollide}
use Rattle.volume_model.specs.Contents.{Batch, all_regions}
use Rattle.volume_model.specs.Groups.{same_node, group_of}
use Rattle.volume_model.specs.Parts.{batch_at, leader_of, touches, touched_by}
use Rattle.salus_model.specs.declared.trace.TraceStep.{TraceStep}
use Rattle.salus_model.specs.Judge.{Judge}
use Rattle.salus_model.specs.Following.{Posted, Follows}
use Rattle.salus_model.specs.Forgery.{NoForgery}
use Rattle.salus_model.specs.Guarding.{is_lied_for}
use Rattle.salus_model.specs.Hearing.{News, Asks, Says, Crashes, Silence, Past, judge_of, since, news_since, opens, news_of}
use Rattle.salus_model.specs.Due.{is_claim, past_of, history_from}
use Rattle.salus_model.specs.Complete.{IsSound}
use Rattle.salus_model.specs.Quiet.{Quiet}
use Rattle.salus_model.specs.Seen.{strings_of, NoCollision}
use Rattle.salus_model.specs.Licences.{letters_to}
use Rattle.client_rules.specs.State as state
use Rattle.client_rules.specs.Rules.{new_client}
use Rattle.replica_rules.specs.Nodes.{NodeState}
use Rattle.run_rules.specs.Calm.{Calm, CalmFrom}
use Rattle.run_rules.specs.Knowing.{KnownNode, fresh}
use Rattle.run_rules.specs.Run.{IsByRules, formatted_first}
use Rattle.run_rules.specs.Running.{AllSteps, formatted}
use Rattle.run_rules.specs.Serving.{client_of}
use Rattle.list_lemmas.proofs.Members.{among_all, among_map, among_range, all_among, among_filter, any_among}
use Rattle.list_lemmas.proofs.Tests.{by_bool, and_left, and_right}
use Rattle.law_lemmas.proofs.Named.{one-node}
use Rattle.law_lines.specs.Mirror.{MirrorsServing}
use Rattle.law_lines.specs.Mirrors.{Mirrors}
use Rattle.law_history.specs.Handing.{steps_in}
use Rattle.law_history.proofs.Steps.{steps_of_all}
use Rattle.law_handed.specs.Fitting.{IsSpelled, LetterGiven}
use Rattle.law_phases.specs.Room.{HasRoom, Roomy}
use Rattle.law_phases.proofs.Rooms.{told_roomy, new_roomy}
use Rattle.law_claimed.specs.Accounting.{history_of}
use Rattle.law_claimed.specs.Knowing.{IsOwnBatch, Leads}
use Rattle.law_asked.proofs.Along as asked
use Rattle.law_asked.proofs.Run.{first_along, run_given}
use Rattle.law_complete.proofs.FaultsQuietly.{none_lied, quiet_sound}
use Rattle.law_served.proofs.Client.{MaySwitch, HasReached}
use Rattle.law_served.proofs.Along as served
use Rattle.law_served.proofs.Fronts.{node_listed, first_on}
use Rattle.law_complete.specs.Beginning.{front_at}
use Rattle.law_complete.proofs.Acked.{AllClaimed, claimed_then}
use Rattle.law_complete.proofs.Behind.{front_in, IsBehind, HeardBehind, AllBehind, behind_then, first_behind}

-- ---- the nodes that lead

-- the first of these numbers is below that one, and so is 0
first_below : (top : ℕ) → 0 < top → (xs : List ℕ) → AllByRecursion (λ x. x < top) xs → slice_index xs 0 < top
first_below top some [] all = some
first_below top some (x ∷ xs) all = all.0

leader_inside : (shape : Shape) (batch : Batch) → leader_of shape batch < regions shape
leader_inside shape batch =
    first_below (regions shape) (pow_pos shape.regions_log) (touched_by shape batch)
    (all_among (λ g. g < regions shape) (touched_by shape batch) (λ g among.
    let low : g < 0 + regions shape = (among_range (regions shape) 0 g (among_filter (λ r. touches shape batch r) g (all_regions shape) among).0).1 in
    omega (arith, low)))

leads_inside : (shape : Shape) (batch : Batch) (name : NodeName) → IsAmong name (group_of shape (leader_of shape batch)) → IsOfVolume shape name
leads_inside shape batch name among =
    let r = among_map (λ (r : ℕ). record { region = leader_of shape batch; replica = r }) name _ among in
    let low : r.0 < 0 + shape.replicas = (among_range shape.replicas 0 r.0 r.1).1 in
    let region : name.region ≡ leader_of shape batch = ap (λ (k : NodeName). k.region) r.2 in
    let replica : name.replica ≡ r.0 = ap (λ (k : NodeName). k.replica) r.2 in
    let inside : leader_of shape batch < regions shape = leader_inside shape batch in
    (omega (arith, region, inside), omega (arith, replica, low))

-- ---- a claim that was heard

-- which claim it is
record IsClaimOf (e s : ℕ) (name : NodeName) (x : News) : Type 0 where
  q : Committed
  is : x ≡ Says name (message.Committed q)
  session : q.session ≡ e
  front : s ≤ q.front

claim_is : (session s : ℕ) (name : NodeName) (x : News) → is_claim session s name x ≡ true → IsClaimOf session s name x
claim_is e s name (Says by (message.Committed m)) hit =
    let front = and_left (same_node by name && (m.session == e)) (nat_le s m.front) hit in
    record {
      q = m;
      is = ap (λ (k : NodeName). Says k (message.Committed m)) (one-node by name (and_left (same_node by name) (m.session == e) front));
      session = eqb-true m.session e (and_right (same_node by name) (m.session == e) front);
      front = leb-true s m.front (and_right (same_node by name && (m.session == e)) (nat_le s m.front) hit);
    }
claim_is e s name (Says by other) hit = absurd (true≢false (sym hit))
claim_is e s name (Asks r) hit = absurd (true≢false (sym hit))
claim_is e s name Crashes hit = absurd (true≢false (sym hit))
claim_is e s name Silence hit = absurd (true≢false (sym hit))

-- a step since some step is a step
since_among : (test : Past → Bool) (history : List Past) (p : Past) → IsAmong p (since test history) → IsAmong p history
unfolding since
since_among test [] p among = among
since_among test (q ∷ history) p among =
    by_bool (test q) (IsAmong p (q ∷ history))
    (λ hit. absurd (subst (λ (w : Bool). IsAmong p (if w then [] else q ∷ since test history)) hit among))
    (λ miss. elim (subst (λ (w : Bool). IsAmong p (if w then [] else q ∷ since test history)) miss among) [
      | inl same ↦ inl same
      | inr later ↦ inr (since_among test history p later)
    ])

-- ---- along a run

module _ (volume : Volume) (events : List Event) (posts : List Posted) (trace : List TraceStep) (limits : IsWithinLimits (record { volume = volume; events = events })) (strings : List (List ℕ)) (none : NoTwoCollide strings)
    (unlied : is_lied_for events sender.Client ≡ false) (name : NodeName) (sound : IsSound events trace name)
    (right : AllSteps volume.geometry posts name (fresh volume.geometry name.region (formatted volume name)) 0 trace) (inside : IsOfVolume volume.geometry name)
    (spelled : AllByRecursion (LetterGiven IsSpelled IsSpelled) (letters_to posts name trace)) where
  abbrev shape : Shape
  shape = volume.geometry

  abbrev start : KnownNode
  start = fresh volume.geometry name.region (formatted volume name)

  abbrev judge_here : List Past → Judge
  judge_here history = judge_of volume.geometry events history

  abbrev BeforeIt : List TraceStep → List Past → ℕ → ℕ → state.Client → KnownNode → Type 0
  BeforeIt done history n top c known = asked.IsAlong volume events posts trace limits strings none unlied name sound right done history n top c known

  abbrev GivenIt : List Past → ℕ → ℕ → state.Client → KnownNode → List TraceStep → List TraceStep → Type 0
  GivenIt history n m c known done rest = asked.AreGiven volume events posts trace limits strings none unlied name sound right history n m c known done rest

  abbrev OnIt : List Past → ℕ → state.Client → KnownNode → Type 0
  OnIt history top c known = served.IsOn volume events posts trace limits strings none unlied name sound right inside (node_listed volume.geometry name inside) history top c known

  abbrev BehindIt : List Past → NodeState → Type 0
  BehindIt history node = AllBehind volume events posts trace limits strings none unlied name sound right inside spelled history node

  -- at the end of these steps
  record IsEnd (done : List TraceStep) (history : List Past) : Type 0 where
    n : ℕ
    top : ℕ
    c : state.Client
    known : KnownNode
    before : BeforeIt done history n top c known
    on : OnIt history top c known
    behind : BehindIt history known.state
    claimed : AllClaimed shape (judge_here history) history
    roomy : Roomy c

  calm_rest : (t : TraceStep) (earlier rest : List TraceStep) → CalmFrom events earlier (t ∷ rest) → CalmFrom events (t ∷ earlier) rest
  unfolding CalmFrom
  calm_rest t earlier rest calm = calm.1

  end_of : (more done : List TraceStep) (history : List Past) (n top : ℕ) (c : state.Client) (known : KnownNode) → BeforeIt done history n top c known → OnIt history top c known → BehindIt history known.state
      → AllClaimed shape (judge_here history) history → Roomy c → GivenIt history n (top + 1) c known done more → CalmFrom events (steps_in history) more → IsEnd (done ++ more) (history_from volume events posts history more)
  unfolding history_from
  end_of [] done history n top c known before on behind claimed roomy given calm =
      subst (λ (l : List TraceStep). IsEnd l history) (sym (append-nil done)) (record { n = n; top = top; c = c; known = known; before = before; on = on; behind = behind; claimed = claimed; roomy = roomy })
  end_of (t ∷ more) done history n top c known before on behind claimed roomy given calm =
      subst (λ (l : List TraceStep). IsEnd l (history_from volume events posts (past_of volume events posts history t ∷ history) more)) (append_assoc done (t ∷ []) more)
      (end_of more (done ++ t ∷ []) (past_of volume events posts history t ∷ history) _ _ _ _
      (asked.along_then volume events posts trace limits strings none unlied name sound right done history n top c known before t more given)
      (served.on_then volume events posts trace limits strings none unlied name sound right inside (node_listed volume.geometry name inside) done history n top c known before on t more given calm)
      (behind_then volume events posts trace limits strings none unlied name sound right inside spelled done history n top c known before on t more given calm behind)
      (claimed_then volume events history (judge_here history) t t.event n c before.holds.mirrors before.standing.kept.acked claimed (news_of posts t))
      ((told_roomy volume c t.event (news_of posts t) roomy).client)
      (asked.given_then volume events posts trace limits strings none unlied name sound right done history n top c known before t more given)
      (calm_rest t (steps_in history) more calm))

  -- ---- at its end

  module _ (end : IsEnd trace (history_from volume events posts [] trace)) (s : state.Serving) (is : client_of volume posts (new_client volume.geometry) trace ≡ state.Serves s) where
    abbrev history : List Past
    history = history_from volume events posts [] trace

    abbrev judge : Judge
    judge = judge_of volume.geometry events (history_from volume events posts [] trace)

    serves : end.c ≡ state.Serves s
    serves = sym end.before.client_is ∙ is

    mirrors : MirrorsServing shape history judge end.n s
    mirrors = subst (λ (d : state.Client). Mirrors volume history judge end.n d) serves end.before.holds.mirrors

    room : HasRoom s
    room = subst Roomy serves end.roomy

    -- the node has the session served
    session_is : end.known.state.held.session ≡ judge.now.session
    session_is =
        let reached : HasReached name end.known.state.held.session (state.Serves s) = subst (λ (d : state.Client). HasReached name end.known.state.held.session d) serves end.on.reached in
        let low : MaySwitch end.top (state.Serves s) end.known.state.held.session = subst (λ (d : state.Client). MaySwitch end.top d end.known.state.held.session) serves end.on.low in
        let same : s.session ≡ judge.now.session = mirrors.counts.session in
        omega (arith, reached, low, same)

    front_is : front_in end.known.state.memory ≡ front_at volume posts trace name
    front_is = ap (λ (k : KnownNode). front_in k.state.memory) (sym end.before.known_is)

    heard_behind : (b : ℕ) (x : News) → IsAmong x (news_since opens history) → is_claim judge.now.session b name x ≡ true → b ≤ front_at volume posts trace name
    heard_behind b x among hit =
        let claim : IsClaimOf judge.now.session b name x = claim_is judge.now.session b name x hit in
        let from = among_map (λ (p : Past). p.news) x (since opens history) among in
        let behind : IsBehind end.known.state claim.q =
        among_all (HeardBehind volume events posts trace limits strings none unlied name sound right inside spelled end.known.state) history from.0 (since_among opens history from.0 from.1) end.behind.heard claim.q (sym from.2 ∙ claim.is) in
        let low : b ≤ claim.q.front = claim.front in
        let high : claim.q.front ≤ front_in end.known.state.memory = behind.front (claim.session ∙ sym session_is) in
        let same : front_in end.known.state.memory ≡ front_at volume posts trace name = front_is in
        omega (arith, low, high, same)

    claimed_behind : (b : ℕ) → IsOwnBatch judge.now b → Leads shape judge.now b name → b + 16 ≤ length judge.now.list → b ≤ front_at volume posts trace name
    claimed_behind b own leads low =
        let last : s.last ≡ length judge.now.list = mirrors.counts.last in
        let acked : s.acked ≡ judge.acked = mirrors.counts.acked in
        let fits = room.room in
        let was = any_among (λ x. is_claim judge.now.session b name x) (news_since opens history) (end.claimed b own.above (omega (arith, low, last, acked, fits)) name leads) in
        heard_behind b was.0 was.1 was.2

-- THE LAW.
pub window_claimed : (volume : Volume) (events : List Event) (posts : List Posted) (trace : List TraceStep) → IsWithinLimits (record { volume = volume; events = events })
    → Follows events posts trace → NoCollision volume events posts trace → NoForgery volume events posts trace → Calm events trace → IsByRules volume (formatted_first volume) posts trace → Quiet events posts trace
    → (s : state.Serving) → client_of volume posts (new_client volume.geometry) trace ≡ state.Serves s
    → (b : ℕ) → IsOwnBatch (judge_of volume.geometry events (history_of volume events posts trace)).now b → (name : NodeName) → Leads volume.geometry (judge_of volume.geometry events (history_of volume events posts trace)).now b name
    → b + 16 ≤ length (judge_of volume.geometry events (history_of volume events posts trace)).now.list → b ≤ front_at volume posts trace name
window_claimed volume events posts trace limits follows apart unforged calm by quiet s is b own name leads low =
    let history : List Past = history_from volume events posts [] trace in
    let strings : List (List ℕ) = strings_of volume.geometry history in
    let none : NoTwoCollide strings = steps_of_all volume events posts trace apart in
    let unlied = none_lied events quiet.events_quiet sender.Client in
    let sound = quiet_sound events quiet.events_quiet posts trace follows name in
    let right = by.nodes name in
    let inside : IsOfVolume volume.geometry name = leads_inside volume.geometry (batch_at (judge_of volume.geometry events history).now b) name leads in
    let given = run_given volume events posts trace limits follows apart unforged by unlied name sound in
    claimed_behind volume events posts trace limits strings none unlied name sound right inside given.given
    (end_of volume events posts trace limits strings none unlied name sound right inside given.given trace [] [] 1 1 (new_client volume.geometry) (fresh volume.geometry name.region (formatted volume name))
    (first_along volume events posts trace limits strings none unlied name sound right)
    (first_on volume events posts trace limits strings none unlied name sound right inside)
    (first_behind volume events posts trace limits strings none unlied name sound right inside given.given)
    (λ x above within k among. absurd (omega (arith, above, within))) (new_roomy volume.geometry) given calm) s is b own leads low
