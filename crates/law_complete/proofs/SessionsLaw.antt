-- At the end of each front part of a run in which the client serves: a sound node has begun the session that is served.
use Rattle.std.proofs.Common.{◌≡◌, ◌∙◌, inl, inr, ℕ, ◌<◌, ◌+◌, ◌==◌, ◌&&◌, true, false, List, [], ◌∷◌, ◌++◌, Some, refl, sym, ap, subst, arith, append_assoc, append-nil}
use Rattle.std.proofs.lemmas.Option.{same_Some}
use Rattle.salus_types.specs.Volume.{Shape}
use Rattle.salus_types.specs.declared.names.NodeName.{NodeName}
use Rattle.salus_types.specs.declared.names.Sender.TheVariants as sender
use Rattle.salus_types.specs.declared.records.Base.{Base}
use Rattle.schedule_text.specs.Limits.{IsOfVolume, IsWithinLimits}
use Rattle.schedule_text.specs.declared.schedule.Volume.{Volume}
use Rattle.schedule_text.specs.declared.schedule.Event.{Event}
use Rattle.merkle_region.specs.Tree.{IsAmong, NoTwoCollide}
use Rattle.volume_model.specs.Parts.{Session, base_of}
use Rattle.salus_model.specs.declared.trace.TraceStep.{TraceStep}
use Rattle.salus_model.specs.Judge.{Judge, first_session, known_at}
use Rattle.salus_model.specs.Following.{Posted, sent_by, Follows}
use Rattle.salus_model.specs.Forgery.{IsPartOf, NoForgery}
use Rattle.salus_model.specs.Guarding.{is_lied_for}
use Rattle.salus_model.specs.Hearing.{Past, judge_of}
use Rattle.salus_model.specs.Due.{past_of, history_from}
use Rattle.salus_model.specs.Seen.{strings_of, NoCollision}
use Rattle.salus_model.specs.Complete.{IsSound}
use Rattle.holding_model.specs.Fitting.{has_content, record_fits}
use Rattle.client_rules.specs.State as state
use Rattle.client_rules.specs.Rules.{new_client}
use Rattle.replica_rules.specs.Views.{header_is_right, has_right_shape}
use Rattle.replica_rules.specs.Leading.{new_leader}
use Rattle.replica_rules.specs.Nodes.{NodeState, loaded_as}
use Rattle.replica_rules.specs.Rules.{Input}
use Rattle.run_rules.specs.Calm.{Calm, CalmFrom}
use Rattle.run_rules.specs.Knowing.{KnownNode, fresh}
use Rattle.run_rules.specs.Run.{IsByRules, formatted_first}
use Rattle.run_rules.specs.Running.{known_of, AllSteps, formatted}
use Rattle.run_rules.specs.Serving.{client_of}
use Rattle.volume_model.specs.Recovering.{is_of}
use Rattle.list_lemmas.proofs.Tests.{and_left, and_right}
use Rattle.law_lemmas.proofs.Numbered.{IsSized}
use Rattle.law_lemmas.proofs.Owned.{own_part, own_of}
use Rattle.law_lemmas.proofs.Settled.{EachKnown, now-known}
use Rattle.law_history.specs.Handing.{steps_in}
use Rattle.law_history.proofs.Steps.{steps_of_all}
use Rattle.law_answers.specs.Turning.{IsInTurn}
use Rattle.law_reads.specs.Chained.{IsViewOf}
use Rattle.law_claimed.specs.Handling.{after_all, StaysAlong, BringOnly}
use Rattle.law_asked.proofs.Along as asked
use Rattle.law_asked.proofs.Run.{first_along, run_given}
use Rattle.law_served.proofs.Along.{on_then}
use Rattle.law_served.proofs.Fronts.{AtFront, node_listed, first_on, fronts}
use Rattle.law_complete.specs.Beginning.{inputs_in, node_after, HasBegun}
use Rattle.law_complete.proofs.Switching.{new_memory, IsLoadedFrom, loaded_from}
use Rattle.law_complete.proofs.Plain.{IsPlain}
use Rattle.law_complete.proofs.Since.{none_before}
use Rattle.law_complete.proofs.SessionsAlong.{Before, Given, On, Begun, tells_begun, begun_then}

module _ (volume : Volume) (events : List Event) (posts : List Posted) (trace : List TraceStep) (limits : IsWithinLimits (record { volume = volume; events = events })) (strings : List (List ℕ)) (none : NoTwoCollide strings)
    (unlied : is_lied_for events sender.Client ≡ false) (name : NodeName) (sound : IsSound events trace name)
    (right : AllSteps volume.geometry posts name (fresh volume.geometry name.region (formatted volume name)) 0 trace) (inside : IsOfVolume volume.geometry name) where
  abbrev shape : Shape
  shape = volume.geometry

  abbrev start : KnownNode
  start = fresh volume.geometry name.region (formatted volume name)

  abbrev BeforeIt : List TraceStep → List Past → ℕ → ℕ → state.Client → KnownNode → Type 0
  BeforeIt done history n top c known = Before volume events posts trace limits strings none unlied name sound right inside done history n top c known

  abbrev GivenIt : List Past → ℕ → ℕ → state.Client → KnownNode → List TraceStep → List TraceStep → Type 0
  GivenIt history n m c known done rest = Given volume events posts trace limits strings none unlied name sound right inside history n m c known done rest

  abbrev OnIt : List Past → ℕ → state.Client → KnownNode → Type 0
  OnIt history top c known = On volume events posts trace limits strings none unlied name sound right inside history top c known

  abbrev BegunIt : Judge → ℕ → List TraceStep → NodeState → Type 0
  BegunIt judge sent done node = Begun volume events posts trace limits strings none unlied name sound right inside judge sent done node

  -- at the end of these steps
  record IsEnd (done : List TraceStep) (history : List Past) : Type 0 where
    n : ℕ
    top : ℕ
    c : state.Client
    known : KnownNode
    before : BeforeIt done history n top c known
    on : OnIt history top c known
    begun : BegunIt (judge_of volume.geometry events history) (sent_by (steps_in history)) done known.state

  calm_rest : (t : TraceStep) (earlier rest : List TraceStep) → CalmFrom events earlier (t ∷ rest) → CalmFrom events (t ∷ earlier) rest
  unfolding CalmFrom
  calm_rest t earlier rest calm = calm.1

  end_of : (more rest done : List TraceStep) (history : List Past) (n top : ℕ) (c : state.Client) (known : KnownNode) → BeforeIt done history n top c known → OnIt history top c known
      → BegunIt (judge_of volume.geometry events history) (sent_by (steps_in history)) done known.state → GivenIt history n (top + 1) c known done (more ++ rest) → CalmFrom events (steps_in history) (more ++ rest)
      → IsEnd (done ++ more) (history_from volume events posts history more)
  unfolding history_from
  end_of [] rest done history n top c known before on begun given calm =
      subst (λ (l : List TraceStep). IsEnd l history) (sym (append-nil done)) (record { n = n; top = top; c = c; known = known; before = before; on = on; begun = begun })
  end_of (t ∷ more) rest done history n top c known before on begun given calm =
      subst (λ (l : List TraceStep). IsEnd l (history_from volume events posts (past_of volume events posts history t ∷ history) more)) (append_assoc done (t ∷ []) more)
      (end_of more rest (done ++ t ∷ []) (past_of volume events posts history t ∷ history) _ _ _ _
      (asked.along_then volume events posts trace limits strings none unlied name sound right done history n top c known before t (more ++ rest) given)
      (on_then volume events posts trace limits strings none unlied name sound right inside (node_listed volume.geometry name inside) done history n top c known before on t (more ++ rest) given calm)
      (begun_then volume events posts trace limits strings none unlied name sound right inside done history n top c known before on t (more ++ rest) given calm begun)
      (asked.given_then volume events posts trace limits strings none unlied name sound right done history n top c known before t (more ++ rest) given)
      (calm_rest t (steps_in history) (more ++ rest) calm))

  first_begun : (s : OnIt [] 1 (new_client volume.geometry) start) → BegunIt (judge_of volume.geometry events []) 0 [] start.state
  unfolding known_of after_all StaysAlong inputs_in loaded_as base_of
  first_begun s = record {
    first = [];
    since = [];
    whole = refl;
    start = record {
      before = s.stands.m;
      there = s.stands.there;
      session = s.stands.session;
      known = s.stands.known;
      at = s.stands.at;
      turn = s.stands.turn;
      leader = new_memory shape name.region (formatted volume name) refl s.stands.m s.stands.there;
      number = from.number ∙ (zero_base from.base from.among ∙ first_base);
      parts = from.parts;
      begun = from.begun ∙ (tells_begun from.base (first_plain from.base from.among) ∙ ap (λ (n : ℕ). Some n) (zero_base from.base from.among ∙ first_base));
    };
    same = refl;
    below = λ xs ys u none. absurd (none_before u xs ys none);
    low = λ xs ys u none. absurd (none_before u xs ys none);
    inputs = [];
    are = refl;
    tagged = λ input among rec brings. absurd among;
    stays = tt;
    now = refl;
    plain = λ base among over. first_plain base among;
    stages = λ k counted low post at is m reads. absurd (omega (arith, counted, low));
  }
    where
      from : IsLoadedFrom shape name.region (formatted volume name) s.stands.m
      from = loaded_from shape name.region (formatted volume name) refl s.stands.m s.stands.there

      first_base : 0 ≡ s.stands.known.base
      first_base = ap (λ (k : Session). k.base) (same_Some (first_session shape) s.stands.known s.stands.at)

      first_plain : (base : Base) → IsAmong base (formatted volume name).bases → IsPlain base.rec
      first_plain base (inl same) = ap (λ (b : Base). has_content b.rec.writes b.rec.run) same
      first_plain base (inr nothing) = absurd nothing

      zero_base : (base : Base) → IsAmong base (formatted volume name).bases → base.rec.header.seq ≡ 0
      zero_base base (inl same) = ap (λ (b : Base). b.rec.header.seq) same
      zero_base base (inr nothing) = absurd nothing

  module _ (done : List TraceStep) (end : IsEnd done (history_from volume events posts [] done)) (s : state.Serving) (front : AtFront volume events posts name done)
      (is : client_of volume posts (new_client volume.geometry) done ≡ state.Serves s) where
    abbrev judge : Judge
    judge = judge_of volume.geometry events (history_from volume events posts [] done)

    abbrev b : BegunIt judge (sent_by (steps_in (history_from volume events posts [] done))) done end.known.state
    b = end.begun

    abbrev first_node : NodeState
    first_node = node_after volume posts name b.first

    here : end.known.state ≡ node_after volume posts name done
    here = ap (λ (k : KnownNode). k.state) (sym end.before.known_is)

    session : first_node.held.session ≡ judge.now.session
    session = b.same ∙ (ap (λ (k : NodeState). k.held.session) here ∙ (front.served s is ∙ (front.now s is).session))

    known_is : b.start.known ≡ judge.now
    known_is = same_Some b.start.known judge.now (sym b.start.at ∙ (ap (known_at judge) session ∙ now-known judge))

    sized : EachKnown judge (IsSized shape)
    sized = end.before.standing.settled.sized

    only_own : BringOnly shape name.region (IsPartOf shape volume.key judge.now name.region) b.start.before b.inputs
    unfolding has_right_shape
    only_own input among rec brings mine =
        let e : ℕ = judge.now.session in
        let at : known_at judge e ≡ Some judge.now = now-known judge in
        let r = b.start.before.replica in
        let front = and_left ((rec.header.session == r.session) && (rec.header.region == name.region)) (has_right_shape shape name.region rec) mine in
        let shaped : has_right_shape shape name.region rec ≡ true = and_right ((rec.header.session == r.session) && (rec.header.region == name.region)) (has_right_shape shape name.region rec) mine in
        let full : has_content rec.writes rec.run ≡ true = and_right (header_is_right shape name.region rec.header) (has_content rec.writes rec.run) (and_left (header_is_right shape name.region rec.header && has_content rec.writes rec.run) (record_fits shape rec) shaped) in
        let of : is_of e name.region rec.header ≡ true = ap (λ (n : ℕ). (rec.header.session == n) && (rec.header.region == name.region)) (sym (b.start.session ∙ session)) ∙ front in
        own_part shape volume.key judge.now (sized judge.now e at) name.region rec
        (own_of shape volume.key judge judge.now e name.region rec at (sized judge.now e at) sized of (b.tagged input among rec brings)) full

    number : b.start.before.replica.view.number ≡ judge.now.base
    number = b.start.number ∙ ap (λ (k : Session). k.base) known_is

    begun_at : HasBegun volume posts judge.now name done
    begun_at = record {
      first = b.first;
      since = b.since;
      whole = b.whole;
      low = λ xs ys u is. subst (λ (e : ℕ). (node_after volume posts name xs).held.session < e) (sym b.same ∙ session) (b.low xs ys u is);
      before = b.start.before;
      there = b.start.there;
      session = b.start.session ∙ session;
      turn = subst (λ (k : Session). IsInTurn (IsPartOf shape volume.key k name.region) (IsViewOf shape k name.region) b.start.before.replica) known_is b.start.turn;
      leader = b.start.leader ∙ ap (λ (n : ℕ). new_leader n []) number;
      number = number;
      parts = b.start.parts;
      begun = b.start.begun ∙ ap (λ (k : Session). Some k.base) known_is;
      only = subst (λ (l : List Input). BringOnly shape name.region (IsPartOf shape volume.key judge.now name.region) b.start.before l) b.are only_own;
      stays = subst (λ (l : List Input). StaysAlong shape name.region first_node l) b.are b.stays;
      now = subst (λ (l : List Input). after_all shape name.region first_node l ≡ node_after volume posts name done) b.are (b.now ∙ here);
    }

-- THE LAW.
pub nodes_begin : (volume : Volume) (events : List Event) (posts : List Posted) (trace : List TraceStep) → IsWithinLimits (record { volume = volume; events = events })
    → Follows events posts trace → NoCollision volume events posts trace → NoForgery volume events posts trace → Calm events trace → IsByRules volume (formatted_first volume) posts trace
    → is_lied_for events sender.Client ≡ false → (name : NodeName) → IsOfVolume volume.geometry name → IsSound events trace name → (done rest : List TraceStep) → trace ≡ done ++ rest
    → (s : state.Serving) → client_of volume posts (new_client volume.geometry) done ≡ state.Serves s → HasBegun volume posts (judge_of volume.geometry events (history_from volume events posts [] done)).now name done
nodes_begin volume events posts trace limits follows apart unforged calm by unlied name inside sound done rest whole s is =
    let strings : List (List ℕ) = strings_of volume.geometry (history_from volume events posts [] trace) in
    let none = steps_of_all volume events posts trace apart in
    let right = by.nodes name in
    let start : KnownNode = fresh volume.geometry name.region (formatted volume name) in
    let before = first_along volume events posts trace limits strings none unlied name sound right in
    let given = run_given volume events posts trace limits follows apart unforged by unlied name sound in
    let on = first_on volume events posts trace limits strings none unlied name sound right inside in
    begun_at volume events posts trace limits strings none unlied name sound right inside done
    (end_of volume events posts trace limits strings none unlied name sound right inside done rest [] [] 1 1 (new_client volume.geometry) start before on
    (first_begun volume events posts trace limits strings none unlied name sound right inside on)
    (subst (λ (l : List TraceStep). asked.AreGiven volume events posts trace limits strings none unlied name sound right [] 1 2 (new_client volume.geometry) start [] l) whole given)
    (subst (λ (l : List TraceStep). CalmFrom events [] l) whole calm)) s
    (fronts volume events posts trace limits strings none unlied name sound right inside before given calm done rest whole) is
