-- At the end of each front part of a run: a sound node stands in its session, which is the one that the client serves.
use Rattle.std.proofs.Common.{◌≡◌, ◌∙◌, inl, inr, ℕ, ◌+◌, ◌<◌, ◌&&◌, Bool, true, false, if◌then◌else◌, List, [], ◌∷◌, ◌++◌, Some, refl, sym, ap, ap₂, subst, arith, append_assoc, append-nil}
use Rattle.std.specs.Prelude.{find}
use Rattle.std.specs.List.{range_with_len}
use Rattle.std.proofs.lemmas.Bool.{eq-eqb}
use Rattle.salus_types.specs.Volume.{Shape, regions}
use Rattle.salus_types.specs.declared.names.NodeName.{NodeName}
use Rattle.salus_types.specs.declared.names.Sender.TheVariants as sender
use Rattle.salus_types.specs.declared.records.Base.{Base}
use Rattle.schedule_text.specs.Limits.{IsOfVolume, IsWithinLimits}
use Rattle.schedule_text.specs.declared.schedule.Volume.{Volume}
use Rattle.schedule_text.specs.declared.schedule.Event.{Event}
use Rattle.merkle_region.specs.Tree.{IsAmong, NoTwoCollide}
use Rattle.holding_model.specs.Fitting.{has_shape}
use Rattle.volume_model.specs.Contents.{blocks_in, all_regions}
use Rattle.volume_model.specs.Groups.{group_of, all_nodes}
use Rattle.volume_model.specs.Parts.{contents_after, base_of, whole_base}
use Rattle.volume_model.specs.Recovering.{is_of}
use Rattle.salus_model.specs.declared.trace.TraceStep.{TraceStep}
use Rattle.salus_model.specs.Judge.{Judge, start_judge, first_session}
use Rattle.salus_model.specs.Answering.{present_number}
use Rattle.salus_model.specs.Following.{Posted}
use Rattle.salus_model.specs.Guarding.{is_lied_for}
use Rattle.salus_model.specs.Hearing.{Past, judge_of}
use Rattle.salus_model.specs.Due.{past_of, history_from}
use Rattle.salus_model.specs.Complete.{IsSound}
use Rattle.client_rules.specs.State as state
use Rattle.client_rules.specs.Rules.{new_client}
use Rattle.client_rules.specs.Tables.{number_at}
use Rattle.replica_rules.specs.Nodes.{stands_for, base_held, loaded_as}
use Rattle.run_rules.specs.Calm.{CalmFrom}
use Rattle.run_rules.specs.Knowing.{KnownNode, fresh}
use Rattle.run_rules.specs.Running.{known_of, new_session, AllSteps, formatted}
use Rattle.run_rules.specs.Serving.{client_of}
use Rattle.list_lemmas.proofs.Members.{among_map-in, among_flat_map-in, among_range-in}
use Rattle.law_lemmas.proofs.Numbered.{IsSized}
use Rattle.law_lemmas.proofs.Settled.{IsSettled, now-known, start_settled}
use Rattle.law_lines.specs.Mirrors.{Holds}
use Rattle.law_history.specs.Handing.{steps_in}
use Rattle.law_shown.proofs.Formatting.{formatted_fits}
use Rattle.law_asked.proofs.Along as asked
use Rattle.law_served.proofs.Bases.{IsRightBase}
use Rattle.law_served.proofs.Client.{MaySwitch, HasReached}
use Rattle.law_served.proofs.Node.{HoldsLater, Stands, loaded_stands}
use Rattle.law_served.proofs.Along.{IsOn, on_then}

-- what the client serves is what the lines say
pub record IsServed (volume : Volume) (judge : Judge) (s : state.Serving) : Type 0 where
  pub session : s.session ≡ judge.now.session
  pub numbers : (g : ℕ) → g < regions volume.geometry → number_at s g ≡ present_number volume.geometry judge g
  pub sized : IsSized volume.geometry judge.now

pub record AtFront (volume : Volume) (events : List Event) (posts : List Posted) (name : NodeName) (done : List TraceStep) : Type 0 where
  pub stands : Stands volume.geometry volume.key (judge_of volume.geometry events (history_from volume events posts [] done)) name.region
      (known_of volume.geometry posts name (fresh volume.geometry name.region (formatted volume name)) done).state.held
      (known_of volume.geometry posts name (fresh volume.geometry name.region (formatted volume name)) done).state.memory
  pub served : (s : state.Serving) → client_of volume posts (new_client volume.geometry) done ≡ state.Serves s
      → (known_of volume.geometry posts name (fresh volume.geometry name.region (formatted volume name)) done).state.held.session ≡ s.session
  -- of the session that the client serves
  pub now : (s : state.Serving) → client_of volume posts (new_client volume.geometry) done ≡ state.Serves s → IsServed volume (judge_of volume.geometry events (history_from volume events posts [] done)) s

-- a node of the volume is listed
pub node_listed : (shape : Shape) (name : NodeName) → IsOfVolume shape name → IsAmong name (all_nodes shape)
node_listed shape name inside =
    let region : name.region < regions shape = inside.0 in
    let replica : name.replica < shape.replicas = inside.1 in
    among_flat_map-in (λ g. group_of shape g) name.region name (all_regions shape) (among_range-in (regions shape) 0 name.region (omega arith) (omega (arith, region)))
    (among_map-in (λ (r : ℕ). record { region = name.region; replica = r }) (range_with_len 0 shape.replicas) name.replica (among_range-in shape.replicas 0 name.replica (omega arith) (omega (arith, replica))))

-- ---- a formatted node

module _ (volume : Volume) (name : NodeName) (within : name.region < regions volume.geometry) (shaped : has_shape volume.geometry (blocks_in volume.geometry (contents_after (new_session volume.geometry) 0) name.region) ≡ true) where
  abbrev base : Base
  base = whole_base volume.geometry volume.key (new_session volume.geometry) name.region

  base_is_of : is_of 1 name.region base.rec.header ≡ true
  unfolding base_of
  base_is_of = ap₂ (λ (a b : Bool). a && b) (eq-eqb 1 1 refl) (eq-eqb name.region name.region refl)

  base_session : base.rec.header.session ≡ 1
  unfolding base_of
  base_session = refl

  base_number : base.rec.header.seq ≡ 0
  unfolding base_of
  base_number = refl

  found : base_held volume.geometry name.region 1 (formatted volume name) ≡ Some base
  found = ap (λ (t : Bool). if t then Some base else find (λ b. stands_for volume.geometry name.region 1 b) []) (ap₂ (λ (a b : Bool). a && b) base_is_of shaped)

  first_later : HoldsLater volume.geometry volume.key (start_judge volume.geometry) name.region (formatted volume name)
  first_later = record { bases = λ b among up. by b among up; parts = tt } where
    by : (b : Base) → IsAmong b (base ∷ []) → 1 < b.rec.header.session → IsRightBase volume.geometry volume.key (start_judge volume.geometry) name.region b
    by b (inl same) up = let one : b.rec.header.session ≡ 1 = ap (λ (x : Base). x.rec.header.session) same ∙ base_session in absurd (omega (arith, one, up))
    by b (inr nothing) up = absurd nothing

  pub first_stands : Stands volume.geometry volume.key (start_judge volume.geometry) name.region (formatted volume name) (loaded_as volume.geometry name.region (formatted volume name)).memory
  unfolding loaded_as
  first_stands =
      loaded_stands volume.geometry volume.key (start_judge volume.geometry) (start_settled volume.geometry).sized name.region (formatted volume name) base (omega arith) found refl
      (first_session volume.geometry) refl (inr (record { inside = within; is = refl })) (ap (λ (n : ℕ). blocks_in volume.geometry (contents_after (new_session volume.geometry) n) name.region) (sym base_number)) first_later

-- ---- along the run

module _ (volume : Volume) (events : List Event) (posts : List Posted) (trace : List TraceStep) (limits : IsWithinLimits (record { volume = volume; events = events })) (strings : List (List ℕ)) (none : NoTwoCollide strings)
    (unlied : is_lied_for events sender.Client ≡ false) (name : NodeName) (sound : IsSound events trace name)
    (right : AllSteps volume.geometry posts name (fresh volume.geometry name.region (formatted volume name)) 0 trace) (inside : IsOfVolume volume.geometry name) where
  abbrev shape : Shape
  shape = volume.geometry

  abbrev start : KnownNode
  start = fresh volume.geometry name.region (formatted volume name)

  abbrev Before : List TraceStep → List Past → ℕ → ℕ → state.Client → KnownNode → Type 0
  Before done history n top c known = asked.IsAlong volume events posts trace limits strings none unlied name sound right done history n top c known

  abbrev Given : List Past → ℕ → ℕ → state.Client → KnownNode → List TraceStep → List TraceStep → Type 0
  Given history n m c known done rest = asked.AreGiven volume events posts trace limits strings none unlied name sound right history n m c known done rest

  abbrev On : List Past → ℕ → state.Client → KnownNode → Type 0
  On history top c known = IsOn volume events posts trace limits strings none unlied name sound right inside (node_listed volume.geometry name inside) history top c known

  -- at the end of these steps
  pub record IsEnd (done : List TraceStep) (history : List Past) : Type 0 where
    pub n : ℕ
    pub top : ℕ
    pub c : state.Client
    pub known : KnownNode
    pub before : Before done history n top c known
    pub on : On history top c known

  calm_rest : (t : TraceStep) (earlier rest : List TraceStep) → CalmFrom events earlier (t ∷ rest) → CalmFrom events (t ∷ earlier) rest
  unfolding CalmFrom
  calm_rest t earlier rest calm = calm.1

  end_of : (more rest done : List TraceStep) (history : List Past) (n top : ℕ) (c : state.Client) (known : KnownNode) → Before done history n top c known → On history top c known
      → Given history n (top + 1) c known done (more ++ rest) → CalmFrom events (steps_in history) (more ++ rest) → IsEnd (done ++ more) (history_from volume events posts history more)
  unfolding history_from
  end_of [] rest done history n top c known before on given calm =
      subst (λ (l : List TraceStep). IsEnd l history) (sym (append-nil done)) (record { n = n; top = top; c = c; known = known; before = before; on = on })
  end_of (t ∷ more) rest done history n top c known before on given calm =
      subst (λ (l : List TraceStep). IsEnd l (history_from volume events posts (past_of volume events posts history t ∷ history) more)) (append_assoc done (t ∷ []) more)
      (end_of more rest (done ++ t ∷ []) (past_of volume events posts history t ∷ history) _ _ _ _
      (asked.along_then volume events posts trace limits strings none unlied name sound right done history n top c known before t (more ++ rest) given)
      (on_then volume events posts trace limits strings none unlied name sound right inside (node_listed volume.geometry name inside) done history n top c known before on t (more ++ rest) given calm)
      (asked.given_then volume events posts trace limits strings none unlied name sound right done history n top c known before t (more ++ rest) given)
      (calm_rest t (steps_in history) (more ++ rest) calm))

  -- the node has the session served
  served_by : (history : List Past) (top : ℕ) (c : state.Client) (known : KnownNode) → On history top c known → (s : state.Serving) → c ≡ state.Serves s → known.state.held.session ≡ s.session
  served_by history top c known on s is =
      let reached : HasReached name known.state.held.session (state.Serves s) = subst (λ (d : state.Client). HasReached name known.state.held.session d) is on.reached in
      let low : MaySwitch top (state.Serves s) known.state.held.session = subst (λ (d : state.Client). MaySwitch top d known.state.held.session) is on.low in
      omega (arith, reached, low)

  now_of : (history : List Past) (n top : ℕ) (c : state.Client) → IsSettled volume.geometry (judge_of volume.geometry events history) top → Holds volume history (judge_of volume.geometry events history) n (top + 1) c
      → (s : state.Serving) → c ≡ state.Serves s → IsServed volume (judge_of volume.geometry events history) s
  now_of history n top c settled holds s is =
      let judge : Judge = judge_of volume.geometry events history in
      let h : Holds volume history judge n (top + 1) (state.Serves s) = subst (λ (d : state.Client). Holds volume history judge n (top + 1) d) is holds in
      record { session = h.mirrors.counts.session; numbers = h.mirrors.counts.numbers; sized = settled.sized judge.now judge.now.session (now-known judge) }

  pub front_of : (done : List TraceStep) → IsEnd done (history_from volume events posts [] done) → AtFront volume events posts name done
  front_of done end = record {
    stands = subst (λ (k : KnownNode). Stands volume.geometry volume.key (judge_of volume.geometry events (history_from volume events posts [] done)) name.region k.state.held k.state.memory) (sym end.before.known_is) end.on.stands;
    served = λ s is. subst (λ (k : KnownNode). k.state.held.session ≡ s.session) (sym end.before.known_is)
        (served_by (history_from volume events posts [] done) end.top end.c end.known end.on s (sym end.before.client_is ∙ is));
    now = λ s is. now_of (history_from volume events posts [] done) end.n end.top end.c end.before.standing.settled end.before.holds s (sym end.before.client_is ∙ is);
  }

  pub first_on : On [] 1 (new_client volume.geometry) start
  unfolding loaded_as
  first_on = record {
    bases = tt;
    posted = λ k counted low post at from y reads. absurd (omega (arith, counted, low));
    words = λ k counted low post at from e reads. absurd (omega (arith, counted, low));
    reached = omega arith;
    low = omega arith;
    small = omega arith;
    speaks = refl;
    stands = first_stands volume name inside.0 (formatted_fits volume name limits.volume inside.0).bases.0.whole;
  }

  -- So at the end of each front part.
  pub fronts : Before [] [] 1 1 (new_client volume.geometry) start → Given [] 1 2 (new_client volume.geometry) start [] trace → CalmFrom events [] trace → (done rest : List TraceStep) → trace ≡ done ++ rest
      → AtFront volume events posts name done
  fronts before given calm done rest whole =
      front_of done
      (end_of done rest [] [] 1 1 (new_client volume.geometry) start before first_on (subst (λ (l : List TraceStep). Given [] 1 2 (new_client volume.geometry) start [] l) whole given)
      (subst (λ (l : List TraceStep). CalmFrom events [] l) whole calm))
