-- In a quiet run each claim that a leader of the session served has made is heard by the client, since it opened that session.
use Rattle.std.proofs.Common.{◌≡◌, ◌∙◌, ⊎_elim, ℕ, ◌-◌, ◌<◌, ◌≤◌, ◌==◌, ◌&&◌, nat_lt, nat_le, Bool, true, false, List, [], ◌∷◌, ◌++◌, Option, refl, sym, ap, subst, arith, eq-eqb, append_assoc, append-nil}
use Rattle.std.specs.Prelude.{Result}
use Rattle.std.specs.Option.{option_map_or}
use Rattle.std.specs.List.{AllByRecursion, list_any}
use Rattle.std.proofs.lemmas.Bool.{true≢false, le-leb, ltb-true}
use Rattle.salus_types.specs.Volume.{Shape, regions}
use Rattle.salus_types.specs.declared.names.NodeName.{NodeName}
use Rattle.salus_types.specs.declared.names.Sender.TheVariants as sender
use Rattle.salus_message.specs.declared.small.Committed.{Committed}
use Rattle.salus_message.specs.declared.wire.Message.{Message}
use Rattle.salus_message.specs.declared.wire.MessageError.{MessageError}
use Rattle.salus_message.specs.declared.wire.Message.TheVariants as message
use Rattle.salus_message.proofs.MessageLaws.{message_again}
use Rattle.schedule_text.specs.Limits.{IsWithinLimits, IsOfVolume}
use Rattle.schedule_text.specs.declared.schedule.Volume.{Volume}
use Rattle.schedule_text.specs.declared.schedule.Event.{Event}
use Rattle.merkle_region.specs.Tree.{IsAmong, NoTwoCollide}
use Rattle.volume_model.specs.Parts.{Session, batch_at, leader_of}
use Rattle.salus_model.specs.declared.trace.TraceStep.{TraceStep}
use Rattle.salus_model.specs.Judge.{Judge}
use Rattle.salus_model.specs.Following.{Posted, Follows}
use Rattle.salus_model.specs.Forgery.{NoForgery, IsPartOf}
use Rattle.salus_model.specs.Guarding.{is_lied_for}
use Rattle.salus_model.specs.Hearing.{News, Says, Past, judge_of, since, news_since, news_of_message, opens, is_serving, phase_of}
use Rattle.salus_model.specs.Due.{is_claim, history_from}
use Rattle.salus_model.specs.Complete.{IsSound}
use Rattle.salus_model.specs.Quiet.{Quiet}
use Rattle.salus_model.specs.Seen.{strings_of, NoCollision}
use Rattle.client_rules.specs.State as state
use Rattle.client_rules.specs.Rules.{new_client}
use Rattle.replica_rules.specs.Leading.{Leader}
use Rattle.replica_rules.specs.Nodes.{Memory, NodeState}
use Rattle.replica_rules.specs.Rules.{Sending, claim_of}
use Rattle.run_rules.specs.Calm.{Calm}
use Rattle.run_rules.specs.Knowing.{KnownNode, fresh, outs_to}
use Rattle.run_rules.specs.Run.{IsByRules, formatted_first}
use Rattle.run_rules.specs.Running.{known_of, AllSteps, formatted}
use Rattle.list_lemmas.proofs.Each.{all_split}
use Rattle.list_lemmas.proofs.Members.{among_map-in, any_from}
use Rattle.list_lemmas.proofs.Tests.{and_left, and_right}
use Rattle.law_lemmas.proofs.Named.{node-itself}
use Rattle.law_lemmas.proofs.Numbered.{IsSized}
use Rattle.law_lemmas.proofs.Settled.{now-known}
use Rattle.law_lines.specs.Mirror.{MirrorsServing}
use Rattle.law_lines.specs.Mirrors.{Mirrors}
use Rattle.law_history.proofs.Steps.{steps_of_all}
use Rattle.law_records.specs.Sessions.{IsCountable, TouchesSome}
use Rattle.law_records.proofs.Leaders.{leader_of-inside, some_at}
use Rattle.law_phases.proofs.Countable.{start_countable}
use Rattle.law_reads.specs.Chained.{IsViewOf}
use Rattle.law_reads.proofs.Sessions.{session_chain}
use Rattle.law_reads.proofs.Underway as underway
use Rattle.law_reads.proofs.Underway.{between_from}
use Rattle.law_asked.proofs.Run.{first_along, run_given}
use Rattle.law_asked.proofs.Along.{AreGiven}
use Rattle.law_claimed.specs.Accounting.{history_of}
use Rattle.law_claimed.specs.Acknowledging.{EachClaimed}
use Rattle.law_claimed.specs.Handling.{after_all, outs_of_all, GoesThrough}
use Rattle.law_claimed.specs.Knowing.{IsOwnBatch, Leads}
use Rattle.law_claimed.specs.Leading.{Claims}
use Rattle.law_claimed.proofs.Sessions.{group_node}
use Rattle.law_claimed.proofs.Through.{goes_through}
use Rattle.law_complete.proofs.HearingKnown.{IsKnownUpTo}
use Rattle.law_complete.proofs.FaultsQuietly.{none_lied, quiet_sound}
use Rattle.law_complete.specs.Beginning.{inputs_in, node_after, front_at, HasBegun}
use Rattle.law_complete.proofs.SessionsLaw.{nodes_begin}
use Rattle.law_complete.proofs.Opened.{start_orderly}
use Rattle.law_complete.proofs.Sent.{IsCalmFor, posting, sent_past, WasSent, outs_sent, speaks_along, steps_behind, known_behind, calm_all}
use Rattle.law_complete.proofs.Lasting.{known_since}
use Rattle.law_complete.proofs.SessionsHeard.{IsBetween, IsEnd, end_from}
use Rattle.law_complete.proofs.Licensed.{claim_known}
use Rattle.law_complete.proofs.Handing.{IsNews, posted_within, handed_news}

-- a client that serves is seen to
served_by : (volume : Volume) (history : List Past) (judge : Judge) (n : ℕ) (c : state.Client) → Mirrors volume history judge n c → is_serving (phase_of history) ≡ true → (s : state.Serving) × (c ≡ state.Serves s)
served_by volume history judge n (state.Serves s) mirrors serving = (s, refl)
served_by volume history judge n state.Closed mirrors serving = absurd (true≢false (sym serving ∙ ap is_serving mirrors))
served_by volume history judge n (state.Gathers g) mirrors serving = absurd (true≢false (sym serving ∙ ap is_serving mirrors.phase))
served_by volume history judge n (state.Fetches f) mirrors serving = absurd (true≢false (sym serving ∙ ap is_serving mirrors.phase))
served_by volume history judge n (state.Stages b) mirrors serving = absurd (true≢false (sym serving ∙ ap is_serving mirrors.phase))
served_by volume history judge n (state.Switches b) mirrors serving = absurd (true≢false (sym serving ∙ ap is_serving mirrors.phase))

module _ (volume : Volume) (events : List Event) (posts : List Posted) (trace : List TraceStep) (limits : IsWithinLimits (record { volume = volume; events = events })) (follows : Follows events posts trace)
    (apart : NoCollision volume events posts trace) (unforged : NoForgery volume events posts trace) (calm : Calm events trace) (by : IsByRules volume (formatted_first volume) posts trace) (quiet : Quiet events posts trace) where
  abbrev shape : Shape
  shape = volume.geometry

  abbrev history : List Past
  history = history_of volume events posts trace

  abbrev judge : Judge
  judge = judge_of volume.geometry events history

  abbrev known : Session
  known = judge.now

  abbrev strings : List (List ℕ)
  strings = strings_of volume.geometry (history_from volume events posts [] trace)

  abbrev none : NoTwoCollide strings
  none = steps_of_all volume events posts trace apart

  abbrev unlied : is_lied_for events sender.Client ≡ false
  unlied = none_lied events quiet.events_quiet sender.Client

  abbrev sound : (name : NodeName) → IsSound events trace name
  sound name = quiet_sound events quiet.events_quiet posts trace follows name

  -- ---- of one node

  module _ (name : NodeName) where
    abbrev start : KnownNode
    start = fresh shape name.region (formatted volume name)

    abbrev right : AllSteps shape posts name start 0 trace
    right = by.nodes name

    given : AreGiven volume events posts trace limits strings none unlied name (sound name) right [] 1 2 (new_client shape) start [] trace
    given = run_given volume events posts trace limits follows apart unforged by unlied name (sound name)

    abbrev EndIs : Type 0
    EndIs = IsEnd volume events posts trace limits strings none unlied name (sound name) right given.given trace history

    first_between : IsBetween volume events posts trace limits strings none unlied name (sound name) right given.given []
    first_between = record {
      claims = λ k counted low post at from q reads. absurd (omega (arith, counted, low));
      countable = start_countable volume events limits;
      orderly = start_orderly shape;
      lasting = λ q among. absurd among;
      heard = λ q among. absurd among;
    }

    end : EndIs
    end =
        end_from volume events posts trace limits strings none unlied name (sound name) right given.given trace [] [] 1 1 (new_client shape) start
        (first_along volume events posts trace limits strings none unlied name (sound name) right) given first_between

    calm_here : AllByRecursion (IsCalmFor shape posts name) trace
    calm_here = calm_all shape events posts trace name (sound name) start right calm given.of

    sized : IsSized shape known
    sized = end.along.standing.settled.sized known known.session (now-known judge)

    countable : IsCountable shape known
    countable = end.between.countable.each known known.session (now-known judge)

    served : is_serving (phase_of history) ≡ true → (s : state.Serving) × (end.c ≡ state.Serves s)
    served serving = served_by volume history judge end.n end.c end.along.holds.mirrors serving

    acked_above : is_serving (phase_of history) ≡ true → known.base ≤ judge.acked
    acked_above serving =
        let m : MirrorsServing shape history judge end.n (served serving).0 = subst (λ (d : state.Client). Mirrors volume history judge end.n d) (served serving).1 end.along.holds.mirrors in
        m.counts.based

    module _ (inside : IsOfVolume shape name) (serving : is_serving (phase_of history) ≡ true) where
      begun : HasBegun volume posts known name trace
      begun = nodes_begin volume events posts trace limits follows apart unforged calm by unlied name inside (sound name) trace [] (sym (append-nil trace)) (served serving).0 (end.along.client_is ∙ (served serving).1)

      abbrev started : NodeState
      started = node_after volume posts name begun.first

      abbrev outs : List Sending
      outs = outs_of_all shape name.region started (inputs_in posts name begun.since)

      goes : GoesThrough shape name.region (IsPartOf shape volume.key known name.region) (IsViewOf shape known name.region) begun.before (inputs_in posts name begun.since) outs
          (after_all shape name.region started (inputs_in posts name begun.since)).memory
      goes =
          goes_through shape (IsPartOf shape volume.key known name.region) (IsViewOf shape known name.region) (session_chain shape volume.key known sized name.region inside.0) name.region (inputs_in posts name begun.since) started
          begun.before begun.there begun.turn begun.only begun.stays

      abbrev front : ℕ
      front = goes.m.leader.front

      front_is : front_at volume posts trace name ≡ front
      front_is = ap (λ (o : Option Memory). option_map_or (λ m. m.leader.front) o 0) (ap (λ (k : NodeState). k.memory) (sym begun.now) ∙ goes.is)

      -- ---- a front above the base is claimed

      abbrev claim : Sending
      claim = record { to = sender.Client; message = claim_of begun.before.replica.session front }

      claimed : known.base < front → IsAmong claim outs
      claimed over =
          let base : begun.before.leader.front ≡ known.base = ap (λ (l : Leader). l.front) begun.leader in
          ⊎_elim (λ (same : front ≡ begun.before.leader.front). absurd (omega (arith, base, same, over))) (λ (each : Claims shape begun.before.replica.session front outs). each.0) goes.leads.claimed

      module _ (over : known.base < front) where
        whole : trace ≡ begun.first ++ begun.since
        whole = begun.whole

        calm_both : AllByRecursion (IsCalmFor shape posts name) begun.first × AllByRecursion (IsCalmFor shape posts name) begun.since
        calm_both = all_split (IsCalmFor shape posts name) begun.first begun.since (subst (λ (l : List TraceStep). AllByRecursion (IsCalmFor shape posts name) l) whole calm_here)

        went : WasSent shape posts name (known_of shape posts name start begun.first) (sent_past shape posts name 0 begun.first) begun.since claim
        went =
            outs_sent shape posts name begun.since (known_of shape posts name start begun.first) (sent_past shape posts name 0 begun.first) (speaks_along shape posts name begun.first start refl calm_both.0)
            (steps_behind shape posts name begun.first begun.since start 0 (subst (λ (l : List TraceStep). AllSteps shape posts name start 0 l) whole right)) calm_both.1 claim (claimed over)

        place : trace ≡ (begun.first ++ went.done) ++ went.t ∷ went.rest
        place = whole ∙ (ap (λ (l : List TraceStep). begun.first ++ l) went.whole ∙ sym (append_assoc begun.first went.done (went.t ∷ went.rest)))

        abbrev words : Committed
        words = record { session = begun.before.replica.session; front = front }

        known_at_end : IsKnownUpTo judge words.session words.front
        known_at_end =
            claim_known volume events posts trace limits name inside.0 right given.given judge end.along.standing.settled.sized end.along.standing.reached.first end.along.letters (begun.first ++ went.done) went.t went.rest place went.mine claim
            (subst (λ (k : KnownNode). IsAmong claim (outs_to shape name.region posts k went.t.handed went.t.failed)) (sym (known_behind shape posts name begun.first went.done start)) went.sent) words refl

        post : underway.IsBetween posts (sent_past shape posts name (sent_past shape posts name 0 begun.first) went.done) went.t.sent (posting shape posts name claim)
        post = between_from posts (sent_past shape posts name (sent_past shape posts name 0 begun.first) went.done) went.t.sent (posting shape posts name claim) went.posted

        news : IsNews volume events posts (posting shape posts name claim) history
        news =
            let low = post.low in
            let counted : 0 < post.k = omega (arith, low) in
            handed_news volume events posts trace given.of post.k (posting shape posts name claim) post.at refl (quiet.all_handed post.k counted (posted_within posts post.k (posting shape posts name claim) counted post.at))

        says : news.q.news ≡ Says name (message.Committed words)
        says = news.news ∙ ap (λ (r : Result Message MessageError). news_of_message name r) (message_again (message.Committed words) tt known_at_end.small)

        -- it was heard since the session was opened
        heard_since : IsAmong news.q (since opens history)
        heard_since =
            known_since history judge news.q (end.between.lasting news.q news.among) (end.along.standing.reached.each news.q news.among).before front
            (subst (λ (e : ℕ). IsKnownUpTo news.q.before e front) begun.session (end.between.heard news.q news.among words says)) over

        claims_it : (s : ℕ) → s ≤ front → list_any (λ x. is_claim known.session s name x) (news_since opens history) ≡ true
        claims_it s low =
            any_from (λ (x : News). is_claim known.session s name x) news.q.news (news_since opens history) (among_map-in (λ (p : Past). p.news) (since opens history) news.q heard_since)
            (ap (λ (x : News). is_claim known.session s name x) says
            ∙ (ap (λ (b : Bool). b && (words.session == known.session) && nat_le s front) (node-itself name)
            ∙ (ap (λ (b : Bool). b && nat_le s front) (eq-eqb words.session known.session begun.session) ∙ le-leb s front low)))

  -- a replica of a leader is a node of the volume
  leader_inside : (s : ℕ) → IsOwnBatch known s → (name : NodeName) → Leads shape known s name → IsOfVolume shape name
  leader_inside s own name leads =
      let above = own.above in
      let within = own.within in
      let here : IsCountable shape known = countable name in
      let some : TouchesSome shape (batch_at known s) = some_at shape known.list (s - 1) (omega (arith, above, within)) here.some in
      let listed = (group_node shape (leader_of shape (batch_at known s)) name (leader_of-inside shape (batch_at known s) some) leads).1 in (
        ltb-true name.region (regions shape) (and_left (nat_lt name.region (regions shape)) (nat_lt name.replica shape.replicas) listed),
        ltb-true name.replica shape.replicas (and_right (nat_lt name.region (regions shape)) (nat_lt name.replica shape.replicas) listed),
      )

  -- THE LAW.
  pub claims_heard : (is_serving (phase_of (history_of volume events posts trace)) ≡ true → (s : ℕ) → IsOwnBatch (judge_of volume.geometry events (history_of volume events posts trace)).now s
      → (name : NodeName) → Leads volume.geometry (judge_of volume.geometry events (history_of volume events posts trace)).now s name → s ≤ front_at volume posts trace name)
      → EachClaimed volume.geometry events (history_of volume events posts trace)
  claims_heard fronts serving s above within name leads =
      let base = acked_above name serving in
      let own : IsOwnBatch known s = record { above = omega (arith, base, above); within = within } in
      let inside : IsOfVolume shape name = leader_inside s own name leads in
      let low : s ≤ front name inside serving = subst (λ (n : ℕ). s ≤ n) (front_is name inside serving) (fronts serving s own name leads) in
      claims_it name inside serving (omega (arith, base, above, low)) s low
