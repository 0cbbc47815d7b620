-- THE LAW: at the end of a quiet run no question is asked.
use Rattle.std.proofs.Common.{◌≡◌, ◌∙◌, inl, ⊎_elim, ℕ, ◌<◌, ◌≤◌, ◌==◌, ◌&&◌, ◌||◌, not, Bool, true, false, List, [], ◌∷◌, ◌++◌, length, reverse, Option, Some, refl, sym, ap, ap₂, subst, arith, eqb-true, append-nil}
use Rattle.std.specs.Prelude.{IfSome}
use Rattle.std.specs.List.{list_any}
use Rattle.std.proofs.lemmas.Bool.{true≢false, false≢true}
use Rattle.std.proofs.lemmas.Nat.{pow_pos}
use Rattle.std.proofs.lemmas.Option.{same_Some}
use Rattle.salus_types.specs.Volume.{Shape, regions, blocks}
use Rattle.salus_types.specs.declared.names.NodeName.{NodeName}
use Rattle.salus_types.specs.declared.names.Sender.{Sender}
use Rattle.salus_types.specs.declared.names.Sender.TheVariants as sender
use Rattle.salus_types.specs.declared.records.Record.{Record}
use Rattle.schedule_text.specs.Limits.{IsOfVolume, IsWithinLimits}
use Rattle.schedule_text.specs.declared.schedule.Volume.{Volume}
use Rattle.schedule_text.specs.declared.schedule.Event.{Event}
use Rattle.merkle_region.specs.Tree.{IsAmong, NoTwoCollide}
use Rattle.volume_model.specs.Contents.{region_of}
use Rattle.volume_model.specs.Groups.{is_client, same_node, same_party, group_of}
use Rattle.volume_model.specs.Parts.{Session, number_of}
use Rattle.salus_model.specs.declared.trace.TraceStep.{TraceStep}
use Rattle.salus_model.specs.Judge.{Judge, is_among, known_at}
use Rattle.salus_model.specs.Following.{Posted, posted_at, hands, was_handed, Follows}
use Rattle.salus_model.specs.Forgery.{IsPartOf, NoForgery}
use Rattle.salus_model.specs.Guarding.{is_lied_for}
use Rattle.salus_model.specs.Hearing.{Past, is_serving, phase_of, judge_of, since, opens}
use Rattle.salus_model.specs.Waiting.{Taken, has_ended, Question, same_question, questions, live, is_asked, all_taken}
use Rattle.salus_model.specs.Due.{history_from}
use Rattle.salus_model.specs.Complete.{Rooms, IsSound, AllTaken, is_between, was_taken, read_question, was_asked, has_block}
use Rattle.salus_model.specs.Quiet.{Quiet}
use Rattle.salus_model.specs.Seen.{strings_of, NoCollision}
use Rattle.client_rules.specs.State as state
use Rattle.client_rules.specs.State.{Open}
use Rattle.client_rules.specs.Tables.{number_at, line_of, head_questions}
use Rattle.client_rules.specs.Rules.{new_client}
use Rattle.replica_rules.specs.Nodes.{Memory}
use Rattle.run_rules.specs.Calm.{Calm}
use Rattle.run_rules.specs.Knowing.{KnownNode, fresh}
use Rattle.run_rules.specs.Rooms.{rooms_of}
use Rattle.run_rules.specs.Run.{IsByRules, formatted_first}
use Rattle.run_rules.specs.Running.{known_of, formatted}
use Rattle.run_rules.specs.Serving.{client_of}
use Rattle.list_lemmas.proofs.Members.{any_among, any_from, among_filter}
use Rattle.list_lemmas.proofs.Tests.{by_bool, by_either, and_left, and_right, or_true}
use Rattle.law_lemmas.proofs.Named.{node-itself}
use Rattle.law_lemmas.proofs.Regional.{in_region}
use Rattle.law_lemmas.proofs.Settled.{now-known}
use Rattle.law_lines.specs.Mirror.{MirrorsServing}
use Rattle.law_lines.specs.Mirrors.{Mirrors}
use Rattle.law_history.specs.Handing.{steps_in}
use Rattle.law_history.proofs.Steps.{steps_of_all}
use Rattle.law_answers.specs.Owing.{KeepsIn}
use Rattle.law_answers.specs.Turning.{IsInTurn, HasCome, ComesIn}
use Rattle.law_reads.specs.Chained.{IsViewOf, IsLastView}
use Rattle.law_reads.specs.Serving.{KeepsOne}
use Rattle.law_reads.proofs.Relay.{owed_end}
use Rattle.law_reads.proofs.Served.{IsAskOf, IsReplyOf}
use Rattle.law_reads.proofs.Sessions.{last_reached}
use Rattle.law_claimed.specs.Accounting.{history_of}
use Rattle.law_asked.specs.Asking.{KeptBelow}
use Rattle.law_asked.proofs.Run.{first_along, run_given, all_asked_right}
use Rattle.law_served.proofs.Come.{PartCame, AllCome, all_come}
use Rattle.law_served.proofs.Fronts.{AtFront, IsServed, fronts}
use Rattle.law_served.proofs.Law.{reads_end}
use Rattle.law_complete.proofs.FaultsQuietly.{none_lied, quiet_sound}
use Rattle.law_complete.proofs.QuestionsEnded.{IsOfRead, of_read_or_head, head_inside, read_inside}
use Rattle.law_complete.proofs.Waits.{IsWaited}
use Rattle.law_complete.proofs.QuestionsAlong.{IsEnd, HeadsOwed, in_group, end_owing}

-- ---- small facts

taken_handed : (is_full : Rooms) (k : ℕ) (steps : List TraceStep) → was_taken is_full steps k ≡ true → was_handed steps k ≡ true
unfolding was_taken
taken_handed is_full k [] taken = taken
taken_handed is_full k (t ∷ earlier) taken =
    by_either (hands k t.handed && not (is_full earlier t)) (was_taken is_full earlier k) (was_handed (t ∷ earlier) k ≡ true) taken
    (λ here. ap (λ (b : Bool). b || was_handed earlier k) (and_left (hands k t.handed) (not (is_full earlier t)) here))
    (λ before. ap (λ (b : Bool). hands k t.handed || b) (taken_handed is_full k earlier before) ∙ or_true (hands k t.handed))

none_asked : (asked : List Open) → ((o : Open) → IsAmong o asked → ⊥) → asked ≡ []
none_asked [] none = refl
none_asked (o ∷ asked) none = absurd (none o (inl refl))

module _ (volume : Volume) (events : List Event) (posts : List Posted) (trace : List TraceStep) (limits : IsWithinLimits (record { volume = volume; events = events })) (follows : Follows events posts trace)
    (apart : NoCollision volume events posts trace) (unforged : NoForgery volume events posts trace) (calm : Calm events trace) (by : IsByRules volume (formatted_first volume) posts trace) (quiet : Quiet events posts trace)
    (taken : (name : NodeName) → IsOfVolume volume.geometry name → AllTaken posts (rooms_of volume.geometry posts (formatted volume)) trace name) where
  abbrev shape : Shape
  shape = volume.geometry

  abbrev history : List Past
  history = history_from volume events posts [] trace

  abbrev judge : Judge
  judge = judge_of volume.geometry events history

  abbrev strings : List (List ℕ)
  strings = strings_of volume.geometry history

  abbrev none : NoTwoCollide strings
  none = steps_of_all volume events posts trace apart

  abbrev unlied : is_lied_for events sender.Client ≡ false
  unlied = none_lied events quiet.events_quiet sender.Client

  abbrev rooms : Rooms
  rooms = rooms_of shape posts (formatted volume)

  abbrev first : state.Client
  first = new_client shape

  -- ---- of one node

  module _ (name : NodeName) (inside : IsOfVolume shape name) where
    abbrev sound : IsSound events trace name
    sound = quiet_sound events quiet.events_quiet posts trace follows name

    abbrev start : KnownNode
    start = fresh shape name.region (formatted volume name)

    at : (done rest : List TraceStep) → trace ≡ done ++ rest → AtFront volume events posts name done
    at =
        fronts volume events posts trace limits strings none unlied name sound (by.nodes name) inside (first_along volume events posts trace limits strings none unlied name sound (by.nodes name))
        (run_given volume events posts trace limits follows apart unforged by unlied name sound) calm

    end : IsEnd volume events posts trace limits strings none unlied name sound (by.nodes name) inside at trace history
    end =
        end_owing volume events posts trace limits strings none unlied name sound (by.nodes name) inside at (first_along volume events posts trace limits strings none unlied name sound (by.nodes name))
        (run_given volume events posts trace limits follows apart unforged by unlied name sound) calm

    here : AtFront volume events posts name trace
    here = at trace [] (sym (append-nil trace))

    -- a message between the client and the node was handed over
    handed_back : (k : ℕ) (m : Posted) → posted_at posts k ≡ Some m → is_between name m ≡ true → was_handed (steps_in history) k ≡ true
    handed_back k m posted between =
        subst (λ (l : List TraceStep). was_handed l k ≡ true) end.owing.order
        (taken_handed rooms k (reverse trace) ((subst (λ (o : Option Posted). IfSome o (λ p. is_between name p ≡ true → was_taken rooms (reverse trace) k ≡ true)) posted (taken name inside k)) between))

    module _ (s : state.Serving) (is : client_of volume posts first trace ≡ state.Serves s) where
      now : IsServed volume judge s
      now = here.now s is

      -- its view is the last one
      last : IsLastView shape judge.now name.region here.stands.m.replica.view
      last =
          let same : here.stands.known ≡ judge.now =
          same_Some here.stands.known judge.now (sym here.stands.at ∙ (ap (known_at judge) (here.served s is ∙ now.session) ∙ now-known judge)) in
          let turn : IsInTurn (IsPartOf shape volume.key judge.now name.region) (IsViewOf shape judge.now name.region) here.stands.m.replica =
          subst (λ (k : Session). IsInTurn (IsPartOf shape volume.key k name.region) (IsViewOf shape k name.region) here.stands.m.replica) same here.stands.turn in
          last_reached shape volume.key judge.now now.sized name.region inside.0 here.stands.m.replica turn (λ rec part. has_come rec (come rec part))
        where
          come : AllCome volume events posts rooms name trace
          come = all_come volume events posts trace limits follows apart unforged calm by unlied name inside sound trace [] (sym (append-nil trace)) s is

          has_come : (rec : Record) → PartCame posts rooms name trace (known_of shape posts name start trace).state.memory rec → HasCome rec here.stands.m.replica
          has_come rec came =
              let between : is_between name came.post ≡ true =
              ap₂ (λ (a b : Sender). (is_client a && same_party b (sender.Node name)) || (same_party a (sender.Node name) && is_client b)) came.from came.to ∙ ap (λ (w : Bool). w || false) (node-itself name) in
              let was : was_taken rooms (reverse trace) came.k ≡ true =
              (subst (λ (o : Option Posted). IfSome o (λ m. is_between name m ≡ true → was_taken rooms (reverse trace) came.k ≡ true)) came.at (taken name inside came.k)) between in
              subst (λ (o : Option Memory). ComesIn rec o) here.stands.there (came.came was)

      -- it keeps no ask of a block
      none_kept : (v b : ℕ) → region_of shape b ≡ name.region → KeepsOne s.session v b (known_of shape posts name start trace).state.memory → ⊥
      none_kept v b region one =
          let below : KeptBelow shape b (state.Serves s) (known_of shape posts name start trace) =
          subst (λ (d : state.Client). KeptBelow shape b d (known_of shape posts name start trace)) is
          ((all_asked_right volume events posts trace limits follows apart unforged by unlied name sound).kept trace [] (sym (append-nil trace)) b) in
          let within : region_of shape b < regions shape = subst (λ (g : ℕ). g < regions shape) (sym region) inside.0 in
          let low : one.ask.at ≤ number_at s (region_of shape b) = below one.ask one.keeps one.session one.block within in
          let number : here.stands.m.replica.view.number ≡ number_of shape judge.now (length judge.now.list) name.region = last.number in
          let present : number_at s (region_of shape b) ≡ number_of shape judge.now (length judge.now.list) name.region =
          now.numbers (region_of shape b) within ∙ ap (λ (g : ℕ). number_of shape judge.now (length judge.now.list) g) region in
          let keeps : KeepsIn one.ask (Some here.stands.m) = subst (λ (o : Option Memory). KeepsIn one.ask o) here.stands.there one.keeps in
          let early : here.stands.m.replica.view.number < one.ask.at = keeps.early in
          absurd (omega (arith, low, number, present, early))

      -- so no question of the head, of its region, is asked
      none_owed : (o : Open) → IsAmong o s.asked → region_of shape o.question.block ≡ name.region → ⊥
      none_owed o o_in region =
          let q : Question = o.question in
          let serves : end.c ≡ state.Serves s = sym end.before.client_is ∙ is in
          let owes = (subst (λ (d : state.Client). HeadsOwed volume events posts trace limits strings none unlied name sound (by.nodes name) inside at d end.known (steps_in history)) serves end.owing.owed) o o_in region in
          ⊎_elim (λ (done : ⊥). done)
          (λ (kept : KeepsOne s.session q.number q.block end.known.state.memory).
          none_kept q.number q.block region (subst (λ (k : KnownNode). KeepsOne s.session q.number q.block k.state.memory) (sym end.before.known_is) kept))
          (owed_end (IsAskOf posts name s.session q.number q.block) (IsReplyOf shape posts name s.session q.number q.block) ⊥ (KeepsOne s.session q.number q.block end.known.state.memory) (steps_in history)
          (λ k ask low. handed_back k (record { from = sender.Client; to = sender.Node name; bytes = ask.bytes }) ask.at (ap (λ (w : Bool). w || false) (node-itself name)))
          (λ k reply low. handed_back k (record { from = sender.Node name; to = sender.Client; bytes = reply.bytes }) reply.at (ap (λ (w : Bool). w && true) (node-itself name)))
          owes)

  -- ---- of all nodes

  many : 0 < shape.replicas
  many = let some = limits.volume.small_groups.0 in omega (arith, some)

  -- the first server of a block's group
  abbrev server : ℕ → NodeName
  server b = record { region = region_of shape b; replica = 0 }

  server_inside : (b : ℕ) → b < blocks shape → IsOfVolume shape (server b)
  server_inside b low = (in_region shape b low, many)

  abbrev origin : NodeName
  origin = record { region = 0; replica = 0 }

  -- the end as the first node of the volume sees it
  origin_inside : IsOfVolume shape origin
  origin_inside = (pow_pos shape.regions_log, many)

  -- a request that is live hasn't ended
  alive : (r : Taken) → IsAmong r (live history judge) → is_among r.event judge.ended ≡ false
  unfolding live
  alive r among =
      let open_still : not (has_ended judge r.event) ≡ true = (among_filter (λ y. not (has_ended judge y.event)) r (all_taken (since opens history)) among).1 in
      by_bool (is_among r.event judge.ended) (is_among r.event judge.ended ≡ false)
      (λ hit. absurd (false≢true (sym (ap (λ (b : Bool). not (b || is_among r.event judge.answered || list_any (λ y. y.event == r.event) judge.submits)) hit) ∙ open_still))) (λ miss. miss)

  serving_none : (s : state.Serving) → client_of volume posts first trace ≡ state.Serves s → MirrorsServing shape history judge (end origin origin_inside).n s → (q : Question) → is_asked shape history judge q ≡ true → ⊥
  serving_none s is m q asked =
      let found = any_among (same_question q) (questions shape (live history judge)) (and_right (is_serving (phase_of history)) _ asked) in
      let x : Question = found.0 in
      let front : ((q.event == x.event) && (q.number == x.number)) ≡ true = and_left ((q.event == x.event) && (q.number == x.number)) (q.block == x.block) found.2 in
      let same : q ≡ x = same_parts q x (eqb-true q.event x.event (and_left (q.event == x.event) (q.number == x.number) front)) (eqb-true q.number x.number (and_right (q.event == x.event) (q.number == x.number) front))
      (eqb-true q.block x.block (and_right ((q.event == x.event) && (q.number == x.number)) (q.block == x.block) found.2)) in
      ⊎_elim (λ (read : IsOfRead (live history judge) x). by_read x read (subst (λ (y : Question). is_asked shape history judge y ≡ true) same asked))
      (λ (head : IsAmong x (head_questions shape (line_of (live history judge)))).
      subst (λ (l : List Question). IsAmong x l) (ap (λ (l : List Taken). head_questions shape l) (sym m.table.line) ∙ waited (none_asked s.asked all_none)) head)
      (of_read_or_head shape (live history judge) x found.1)
    where
      same_parts : (a b : Question) → a.event ≡ b.event → a.number ≡ b.number → a.block ≡ b.block → a ≡ b
      same_parts a b event number block = λ i. record { event = event i; number = number i; block = block i }

      all_none : (o : Open) → IsAmong o s.asked → ⊥
      all_none o o_in = none_owed (server o.question.block) (server_inside o.question.block (head_inside shape history judge (end origin origin_inside).n s m o o_in)) s is o o_in refl

      waited : s.asked ≡ [] → head_questions shape s.line ≡ []
      waited = subst (λ (d : state.Client). IsWaited shape d) (sym (end origin origin_inside).before.client_is ∙ is) (end origin origin_inside).owing.waited

      by_read : (x : Question) → IsOfRead (live history judge) x → is_asked shape history judge x ≡ true → ⊥
      by_read x read asks =
          let v : ℕ = read.r.event in
          let low : read.b < blocks shape = read_inside shape history judge (end origin origin_inside).n s m x read in
          let was : was_asked shape events (read_question v read.b) history ≡ true =
          (end origin origin_inside).owing.asked (read_question v read.b) (subst (λ (y : Question). is_asked shape history judge y ≡ true) read.is asks) in
          let name : NodeName = server read.b in
          let member : list_any (same_node name) (group_of shape (region_of shape read.b)) ≡ true =
          any_from (same_node name) name (group_of shape (region_of shape read.b)) (in_group shape name (server_inside read.b low)) (node-itself name) in
          let gives : has_block v history ≡ true =
          reads_end volume events posts trace limits follows apart unforged calm by unlied trace [] (sym (append-nil trace)) v read.b name member (quiet_sound events quiet.events_quiet posts trace follows name)
          (taken name (server_inside read.b low)) was in
          let ended : is_among v judge.ended ≡ true = (end origin origin_inside).owing.ended v gives in
          absurd (true≢false (sym ended ∙ alive read.r read.among))

  -- a client that is at something else asks nothing
  none_by : (d : state.Client) (n : ℕ) → Mirrors volume history judge n d → (q : Question) → is_asked shape history judge q ≡ true → (s : state.Serving) × (d ≡ state.Serves s)
  none_by (state.Serves s) n m q asked = (s, refl)
  none_by state.Closed n m q asked = absurd (true≢false (sym (and_left (is_serving (phase_of history)) _ asked) ∙ ap is_serving m))
  none_by (state.Gathers g) n m q asked = absurd (true≢false (sym (and_left (is_serving (phase_of history)) _ asked) ∙ ap is_serving m.phase))
  none_by (state.Fetches f) n m q asked = absurd (true≢false (sym (and_left (is_serving (phase_of history)) _ asked) ∙ ap is_serving m.phase))
  none_by (state.Stages b) n m q asked = absurd (true≢false (sym (and_left (is_serving (phase_of history)) _ asked) ∙ ap is_serving m.phase))
  none_by (state.Switches b) n m q asked = absurd (true≢false (sym (and_left (is_serving (phase_of history)) _ asked) ∙ ap is_serving m.phase))

  left_none : (q : Question) → is_asked shape history judge q ≡ true → ⊥
  left_none q asked =
      let e = end origin origin_inside in
      let serves = none_by e.c e.n e.before.holds.mirrors q asked in
      serving_none serves.0 (e.before.client_is ∙ serves.1) (subst (λ (d : state.Client). Mirrors volume history judge e.n d) serves.1 e.before.holds.mirrors) q asked

-- THE LAW.
pub none_left : (volume : Volume) (events : List Event) (posts : List Posted) (trace : List TraceStep) → IsWithinLimits (record { volume = volume; events = events })
    → Follows events posts trace → NoCollision volume events posts trace → NoForgery volume events posts trace → Calm events trace → IsByRules volume (formatted_first volume) posts trace → Quiet events posts trace
    → ((name : NodeName) → IsOfVolume volume.geometry name → AllTaken posts (rooms_of volume.geometry posts (formatted volume)) trace name)
    → (q : Question) → is_asked volume.geometry (history_of volume events posts trace) (judge_of volume.geometry events (history_of volume events posts trace)) q ≡ false
none_left volume events posts trace limits follows apart unforged calm by quiet taken q =
    by_bool (is_asked volume.geometry (history_of volume events posts trace) (judge_of volume.geometry events (history_of volume events posts trace)) q)
    (is_asked volume.geometry (history_of volume events posts trace) (judge_of volume.geometry events (history_of volume events posts trace)) q ≡ false)
    (λ asked. absurd (left_none volume events posts trace limits follows apart unforged calm by quiet taken q asked)) (λ is. is)
