-- Each sound server serves; so reads end beside lies.
use Rattle.std.proofs.Common.{◌≡◌, ◌∙◌, ℕ, ◌<◌, ◌≤◌, ◌&&◌, ◌||◌, nat_lt, Bool, true, false, if◌then◌else◌, List, [], ◌∷◌, ◌++◌, reverse, length, Option, None, Some, refl, sym, ap, ap₂, subst, arith, append_assoc}
use Rattle.std.specs.Prelude.{IfSome}
use Rattle.std.specs.List.{AllByRecursion}
use Rattle.std.proofs.lemmas.Bool.{ltb-true, ltb-false, true≢false}
use Rattle.std.proofs.lemmas.Option.{same_Some}
use Rattle.salus_types.specs.Volume.{Shape, regions}
use Rattle.salus_types.specs.declared.names.NodeName.{NodeName}
use Rattle.salus_types.specs.declared.names.Sender.{Sender}
use Rattle.salus_types.specs.declared.names.Sender.TheVariants as sender
use Rattle.salus_types.specs.declared.records.Record.{Record}
use Rattle.salus_message.specs.declared.small.Ask.{Ask}
use Rattle.schedule_text.specs.Limits.{IsOfVolume, IsPartyOfVolume, IsWithinLimits}
use Rattle.schedule_text.specs.declared.schedule.Volume.{Volume}
use Rattle.schedule_text.specs.declared.schedule.Event.{Event}
use Rattle.merkle_region.specs.Tree.{NoTwoCollide}
use Rattle.volume_model.specs.Contents.{region_of}
use Rattle.volume_model.specs.Groups.{is_client, same_party}
use Rattle.volume_model.specs.Parts.{Session, number_of}
use Rattle.salus_model.specs.declared.trace.TraceStep.{TraceStep}
use Rattle.salus_model.specs.Judge.{Judge, known_at}
use Rattle.salus_model.specs.Following.{Posted, Follows}
use Rattle.salus_model.specs.Forgery.{IsPartOf, NoForgery}
use Rattle.salus_model.specs.Guarding.{is_lied_for}
use Rattle.salus_model.specs.Hearing.{Silence, news_in, news_of, judge_of}
use Rattle.salus_model.specs.Due.{history_from}
use Rattle.salus_model.specs.Seen.{strings_of, NoCollision}
use Rattle.salus_model.specs.Complete.{Rooms, AllTaken, is_between, was_taken, ReadsBesideLies}
use Rattle.client_rules.specs.State as state
use Rattle.client_rules.specs.Tables.{number_at}
use Rattle.client_rules.specs.Rules.{new_client, told}
use Rattle.replica_rules.specs.Nodes.{Memory}
use Rattle.run_rules.specs.Calm.{Calm}
use Rattle.run_rules.specs.Knowing.{KnownNode, fresh, known_to}
use Rattle.run_rules.specs.Rooms.{rooms_of}
use Rattle.run_rules.specs.Run.{IsByRules, formatted_first}
use Rattle.run_rules.specs.Running.{addresses, after, known_of, formatted}
use Rattle.run_rules.specs.Serving.{client_of}
use Rattle.list_lemmas.proofs.Members.{among_all}
use Rattle.list_lemmas.proofs.Tests.{by_bool}
use Rattle.law_lemmas.proofs.Named.{node-itself, one-node}
use Rattle.law_lemmas.proofs.Settled.{now-known}
use Rattle.law_history.proofs.Steps.{steps_of_all}
use Rattle.law_gathered.proofs.Fronts.{client_more}
use Rattle.law_ranged.proofs.Along.{runs_within}
use Rattle.law_answers.specs.Owing.{KeepsIn}
use Rattle.law_answers.specs.Turning.{IsInTurn, HasCome, ComesIn}
use Rattle.law_reads.specs.Chained.{IsViewOf, IsLastView}
use Rattle.law_reads.specs.Serving.{ServesAt, ServesRead, NoneKept, IsServing, SoundServe}
use Rattle.law_reads.proofs.Run.{reads_end_beside}
use Rattle.law_reads.proofs.Sessions.{last_reached}
use Rattle.law_asked.specs.Asking.{AsksAt, AskedAlong, KeptBelow, IsAskedRight}
use Rattle.law_asked.proofs.Handled.{AsksOf, loaded_none}
use Rattle.law_asked.proofs.Run.{first_along, run_given, all_asked_right}
use Rattle.law_served.proofs.Node.{Stands}
use Rattle.law_served.proofs.Fronts.{IsServed, AtFront, fronts}
use Rattle.law_served.proofs.Come.{PartCame, AllCome, all_come}

same_when_silent : (volume : Volume) (c : state.Client) (v : ℕ) (t : TraceStep) (posts : List Posted) (name : NodeName) → t.party ≡ sender.Node name → (told volume c v (news_of posts t)).client ≡ c
unfolding told
same_when_silent volume c v t posts name party = ap (λ (w : Sender). (told volume c v (if is_client w then news_in posts t.handed else Silence)).client) party

known_more : (shape : Shape) (posts : List Posted) (name : NodeName) (known : KnownNode) (xs : List TraceStep) (t : TraceStep)
    → known_of shape posts name known (xs ++ t ∷ []) ≡ after shape posts name (known_of shape posts name known xs) t
unfolding known_of
known_more shape posts name known [] t = refl
known_more shape posts name known (x ∷ xs) t = known_more shape posts name (after shape posts name known x) xs t

-- a node that no step addresses stays as it was
unaddressed : (shape : Shape) (posts : List Posted) (name : NodeName) (known : KnownNode) (steps : List TraceStep) → (IsOfVolume shape name → ⊥) → AllByRecursion (λ t. IsPartyOfVolume shape t.party) steps
    → known_of shape posts name known steps ≡ known
unfolding known_of
unaddressed shape posts name known [] away all = refl
unaddressed shape posts name known (t ∷ steps) away all =
    let other : addresses name t ≡ false = by_bool (addresses name t) (addresses name t ≡ false) (λ hit. absurd (by t.party all.0 hit)) (λ miss. miss) in
    ap (λ (b : Bool). known_of shape posts name (if b then known_to shape name.region posts known t.handed t.failed t.loaded else known) steps) other ∙ unaddressed shape posts name known steps away all.1
  where
    by : (w : Sender) → IsPartyOfVolume shape w → same_party w (sender.Node name) ≡ true → ⊥
    by sender.Client inside hit = absurd (true≢false (sym hit))
    by (sender.Node other) inside hit = away (subst (λ (n : NodeName). IsOfVolume shape n) (one-node other name hit) inside)

front_within : (shape : Shape) (done rest : List TraceStep) → AllByRecursion (λ t. IsPartyOfVolume shape t.party) (done ++ rest) → AllByRecursion (λ t. IsPartyOfVolume shape t.party) done
front_within shape [] rest all = tt
front_within shape (t ∷ done) rest all = (all.0, front_within shape done rest all.1)

module _ (volume : Volume) (events : List Event) (posts : List Posted) (trace : List TraceStep) (name : NodeName) (is_full : Rooms) (addressed : AllByRecursion (λ t. IsPartyOfVolume volume.geometry t.party) trace)
    (at : IsOfVolume volume.geometry name → (done rest : List TraceStep) → trace ≡ done ++ rest → AtFront volume events posts name done) where
  abbrev shape : Shape
  shape = volume.geometry

  abbrev first : state.Client
  first = new_client volume.geometry

  abbrev start : KnownNode
  start = fresh volume.geometry name.region (formatted volume name)

  abbrev judge : List TraceStep → Judge
  judge done = judge_of volume.geometry events (history_from volume events posts [] done)

  -- ---- a step of the server

  session_at : (v b : ℕ) (done : List TraceStep) (t : TraceStep) → AtFront volume events posts name done → AtFront volume events posts name (done ++ t ∷ []) → (c : state.Client) (known : KnownNode)
      → client_of volume posts first done ≡ c → known_of shape posts name start done ≡ known → t.party ≡ sender.Node name → AsksAt posts v b c t → ServesAt shape posts name v b c known t
  session_at v b done t here then_here (state.Serves s) known client_is known_is party asks = λ is_open.
      let stands : Stands shape volume.key (judge done) name.region known.state.held known.state.memory =
      subst (λ (k : KnownNode). Stands shape volume.key (judge done) name.region k.state.held k.state.memory) known_is here.stands in
      let served : known.state.held.session ≡ s.session = subst (λ (k : KnownNode). k.state.held.session ≡ s.session) known_is (here.served s client_is) in
      let client_next : client_of volume posts first (done ++ t ∷ []) ≡ state.Serves s =
      client_more volume events posts first done t ∙ (ap (λ (d : state.Client). (told volume d t.event (news_of posts t)).client) client_is ∙ same_when_silent volume (state.Serves s) t.event t posts name party) in
      let mine : addresses name t ≡ true = ap (λ (w : Sender). same_party w (sender.Node name)) party ∙ node-itself name in
      let known_next : known_of shape posts name start (done ++ t ∷ []) ≡ known_to shape name.region posts known t.handed t.failed t.loaded =
      known_more shape posts name start done t ∙ (ap (λ (k : KnownNode). after shape posts name k t) known_is ∙ ap (λ (w : Bool). if w then known_to shape name.region posts known t.handed t.failed t.loaded else known) mine) in
      let served_next : (known_to shape name.region posts known t.handed t.failed t.loaded).state.held.session ≡ s.session =
      subst (λ (k : KnownNode). k.state.held.session ≡ s.session) known_next (then_here.served s client_next) in
      record {
        m = stands.m;
        there = stands.there;
        session = stands.session ∙ served;
        clear = record { stays = served_next ∙ sym served; asks = asks is_open };
      }
  session_at v b done t here then_here state.Closed known client_is known_is party asks = tt
  session_at v b done t here then_here (state.Gathers g) known client_is known_is party asks = tt
  session_at v b done t here then_here (state.Fetches f) known client_is known_is party asks = tt
  session_at v b done t here then_here (state.Stages d) known client_is known_is party asks = tt
  session_at v b done t here then_here (state.Switches d) known client_is known_is party asks = tt

  serves_from : (v b : ℕ) (rest done : List TraceStep) (c : state.Client) (known : KnownNode) → client_of volume posts first done ≡ c → known_of shape posts name start done ≡ known → trace ≡ done ++ rest
      → AllByRecursion (λ t. IsPartyOfVolume shape t.party) rest → AskedAlong volume posts name v b c rest → ServesRead volume posts name v b c known rest
  unfolding AskedAlong ServesRead
  serves_from v b [] done c known client_is known_is whole parties along = tt
  serves_from v b (t ∷ rest) done c known client_is known_is whole parties along =
      let whole_next : trace ≡ (done ++ t ∷ []) ++ rest = whole ∙ sym (append_assoc done (t ∷ []) rest) in (
        along.0,
        λ party. (let inside : IsOfVolume shape name = subst (λ (w : Sender). IsPartyOfVolume shape w) party parties.0 in
            session_at v b done t (at inside done (t ∷ rest) whole) (at inside (done ++ t ∷ []) rest whole_next) c known client_is known_is party along.1),
        serves_from v b rest (done ++ t ∷ []) (told volume c t.event (news_of posts t)).client (after shape posts name known t)
            (client_more volume events posts first done t ∙ ap (λ (d : state.Client). (told volume d t.event (news_of posts t)).client) client_is)
            (known_more shape posts name start done t ∙ ap (λ (k : KnownNode). after shape posts name k t) known_is) whole_next parties.1 along.2,
      )

  -- ---- once all was taken

  -- the view is the last one
  last_view : (done : List TraceStep) (s : state.Serving) → client_of volume posts first done ≡ state.Serves s → IsOfVolume shape name → (here : AtFront volume events posts name done) → AllTaken posts is_full done name
      → AllCome volume events posts is_full name done → IsLastView shape (judge done).now name.region here.stands.m.replica.view
  last_view done s client_is inside here taken come =
      let j : Judge = judge done in
      let now : IsServed volume j s = here.now s client_is in
      let same : here.stands.known ≡ j.now =
      same_Some here.stands.known j.now (sym here.stands.at ∙ (ap (known_at j) (here.served s client_is ∙ now.session) ∙ now-known j)) in
      let turn : IsInTurn (IsPartOf shape volume.key j.now name.region) (IsViewOf shape j.now name.region) here.stands.m.replica =
      subst (λ (k : Session). IsInTurn (IsPartOf shape volume.key k name.region) (IsViewOf shape k name.region) here.stands.m.replica) same here.stands.turn in
      last_reached shape volume.key j.now now.sized name.region inside.0 here.stands.m.replica turn
      (λ rec part. has_come rec (come rec part))
    where
      has_come : (rec : Record) → PartCame posts is_full name done (known_of shape posts name start done).state.memory rec → HasCome rec here.stands.m.replica
      has_come rec came =
          let between : is_between name came.post ≡ true =
          ap₂ (λ (a b : Sender). (is_client a && same_party b (sender.Node name)) || (same_party a (sender.Node name) && is_client b)) came.from came.to ∙ ap (λ (w : Bool). w || false) (node-itself name) in
          let was : was_taken is_full (reverse done) came.k ≡ true = (subst (λ (o : Option Posted). IfSome o (λ m. is_between name m ≡ true → was_taken is_full (reverse done) came.k ≡ true)) came.at (taken came.k)) between in
          subst (λ (o : Option Memory). ComesIn rec o) here.stands.there (came.came was)

  none_kept : (v b : ℕ) (done : List TraceStep) → region_of shape b ≡ name.region → IsOfVolume shape name → (here : AtFront volume events posts name done) → AllTaken posts is_full done name
      → ((s : state.Serving) → client_of volume posts first done ≡ state.Serves s → AllCome volume events posts is_full name done)
      → KeptBelow shape b (client_of volume posts first done) (known_of shape posts name start done) → (c : state.Client) → client_of volume posts first done ≡ c → NoneKept v b c (known_of shape posts name start done)
  none_kept v b done region inside here taken come below (state.Serves s) is = λ is_open one.
      let j : Judge = judge done in
      let here_below : KeptBelow shape b (state.Serves s) (known_of shape posts name start done) = subst (λ (d : state.Client). KeptBelow shape b d (known_of shape posts name start done)) is below in
      let within : region_of shape b < regions shape = subst (λ (g : ℕ). g < regions shape) (sym region) inside.0 in
      let low : one.ask.at ≤ number_at s (region_of shape b) = here_below one.ask one.keeps one.session one.block within in
      let last : IsLastView shape j.now name.region here.stands.m.replica.view = last_view done s is inside here taken (come s is) in
      let number : here.stands.m.replica.view.number ≡ number_of shape j.now (length j.now.list) name.region = last.number in
      let present : number_at s (region_of shape b) ≡ number_of shape j.now (length j.now.list) name.region =
      (here.now s is).numbers (region_of shape b) within ∙ ap (λ (g : ℕ). number_of shape j.now (length j.now.list) g) region in
      let keeps : KeepsIn one.ask (Some here.stands.m) = subst (λ (o : Option Memory). KeepsIn one.ask o) here.stands.there one.keeps in
      let early : here.stands.m.replica.view.number < one.ask.at = keeps.early in
      absurd (omega (arith, low, number, present, early))
  none_kept v b done region inside here taken come below state.Closed is = tt
  none_kept v b done region inside here taken come below (state.Gathers g) is = tt
  none_kept v b done region inside here taken come below (state.Fetches f) is = tt
  none_kept v b done region inside here taken come below (state.Stages d) is = tt
  none_kept v b done region inside here taken come below (state.Switches d) is = tt

  -- one that isn't of the volume keeps nothing
  none_away : (v b : ℕ) (done rest : List TraceStep) → trace ≡ done ++ rest → (IsOfVolume shape name → ⊥) → (c : state.Client) → NoneKept v b c (known_of shape posts name start done)
  none_away v b done rest whole away (state.Serves s) = λ is_open one.
      let still : known_of shape posts name start done ≡ start =
      unaddressed shape posts name start done away (front_within shape done rest (subst (λ (l : List TraceStep). AllByRecursion (λ t. IsPartyOfVolume shape t.party) l) whole addressed)) in
      by start.state.memory (loaded_none shape (λ a. ⊥) name.region (formatted volume name)) one.ask (subst (λ (k : KnownNode). KeepsIn one.ask k.state.memory) still one.keeps)
    where
      by : (o : Option Memory) → AsksOf shape (λ a. ⊥) o → (ask : Ask) → KeepsIn ask o → ⊥
      by None none ask keeps = keeps
      by (Some m) none ask keeps = among_all (λ a. ⊥) m.replica.asks ask keeps.kept none
  none_away v b done rest whole away state.Closed = tt
  none_away v b done rest whole away (state.Gathers g) = tt
  none_away v b done rest whole away (state.Fetches f) = tt
  none_away v b done rest whole away (state.Stages d) = tt
  none_away v b done rest whole away (state.Switches d) = tt

  -- of the volume, or not
  of_volume : (P : Type 0) → (IsOfVolume shape name → P) → ((IsOfVolume shape name → ⊥) → P) → P
  of_volume P mine away =
      by_bool (nat_lt name.region (regions shape)) P
      (λ region. by_bool (nat_lt name.replica shape.replicas) P
      (λ replica. mine (ltb-true name.region (regions shape) region, ltb-true name.replica shape.replicas replica))
      (λ off. away (λ inside. (let over : shape.replicas ≤ name.replica = ltb-false name.replica shape.replicas off in let low : name.replica < shape.replicas = inside.1 in absurd (omega (arith, over, low))))))
      (λ off. away (λ inside. (let over : regions shape ≤ name.region = ltb-false name.region (regions shape) off in let low : name.region < regions shape = inside.0 in absurd (omega (arith, over, low)))))

  -- So it serves.
  pub is_serving : IsAskedRight volume posts trace (formatted volume) name
      → (IsOfVolume shape name → (done rest : List TraceStep) → trace ≡ done ++ rest → (s : state.Serving) → client_of volume posts first done ≡ state.Serves s → AllCome volume events posts is_full name done)
      → IsServing volume posts is_full trace (formatted volume) name
  unfolding client_of known_of
  is_serving asked come = record {
    serves = λ v b region. serves_from v b trace [] first start refl refl refl addressed (asked.along v b region);
    drained = λ done rest whole taken v b region.
        of_volume (NoneKept v b (client_of volume posts first done) (known_of shape posts name start done))
        (λ inside. none_kept v b done region inside (at inside done rest whole) taken (come inside done rest whole) (asked.kept done rest whole b) (client_of volume posts first done) refl)
        (λ away. none_away v b done rest whole away (client_of volume posts first done));
  }

-- THE LAW.
pub reads_end : (volume : Volume) (events : List Event) (posts : List Posted) (trace : List TraceStep) → IsWithinLimits (record { volume = volume; events = events })
    → Follows events posts trace → NoCollision volume events posts trace → NoForgery volume events posts trace → Calm events trace → IsByRules volume (formatted_first volume) posts trace
    → ReadsBesideLies volume events posts (rooms_of volume.geometry posts (formatted volume)) trace
reads_end volume events posts trace limits follows apart unforged calm by =
    let is_full : Rooms = rooms_of volume.geometry posts (formatted volume) in
    let within = runs_within volume events posts trace limits follows by in
    let strings : List (List ℕ) = strings_of volume.geometry (history_from volume events posts [] trace) in
    let none : NoTwoCollide strings = steps_of_all volume events posts trace apart in
    let serve : is_lied_for events sender.Client ≡ false → SoundServe volume events posts is_full trace (formatted volume) =
    λ unlied name sound.
    is_serving volume events posts trace name is_full within.0
    (λ inside. fronts volume events posts trace limits strings none unlied name sound (by.nodes name) inside (first_along volume events posts trace limits strings none unlied name sound (by.nodes name))
    (run_given volume events posts trace limits follows apart unforged by unlied name sound) calm)
    (all_asked_right volume events posts trace limits follows apart unforged by unlied name sound)
    (λ inside. all_come volume events posts trace limits follows apart unforged calm by unlied name inside sound) in
    reads_end_beside volume events posts trace limits follows apart unforged calm by is_full serve
