-- At the end of a quiet run the client opens no session: every server has done what it waits for.
use Rattle.std.proofs.Common.{◌≡◌, ◌∙◌, ⊎_elim, ℕ, ◌-◌, ◌<◌, ◌≤◌, ◌==◌, Bool, true, if◌then◌else◌, List, [], ◌∷◌, ◌++◌, length, reverse, None, Some, refl, ap, sym, subst, arith, append_assoc, append-nil, eq-eqb}
use Rattle.std.specs.Prelude.{nat_lt, slice_get}
use Rattle.std.specs.List.{AllByRecursion}
use Rattle.std.proofs.lemmas.Bool.{true≢false, ltb-true, cond-true, cond-false}
use Rattle.std.proofs.lemmas.List.{reverse-append}
use Rattle.std.proofs.lemmas.Option.{none-some, slice_get_within}
use Rattle.salus_types.specs.Volume.{Shape}
use Rattle.salus_types.specs.declared.names.NodeName.{NodeName}
use Rattle.merkle_region.specs.Tree.{NoTwoCollide, IsAmong}
use Rattle.schedule_text.specs.Limits.{IsOfVolume, IsWithinLimits}
use Rattle.schedule_text.specs.declared.schedule.Volume.{Volume}
use Rattle.schedule_text.specs.declared.schedule.Event.{Event}
use Rattle.volume_model.specs.Groups.{all_nodes}
use Rattle.salus_model.specs.declared.trace.TraceStep.{TraceStep}
use Rattle.salus_model.specs.Due.{past_of, history_from}
use Rattle.salus_model.specs.Following.{Posted, Follows, posted_at, hands, was_handed}
use Rattle.salus_model.specs.Forgery.{NoForgery}
use Rattle.salus_model.specs.Guarding.{Guarded}
use Rattle.salus_model.specs.Hearing.{Past, news_of, judge_of, Phase, phase_of}
use Rattle.salus_model.specs.Quiet.{Quiet}
use Rattle.salus_model.specs.Seen.{NoCollision}
use Rattle.client_rules.specs.State as state
use Rattle.client_rules.specs.Opening.{has_answered}
use Rattle.client_rules.specs.Rules.{client_step, new_client}
use Rattle.salus_types.specs.declared.records.Base.{Base}
use Rattle.salus_types.specs.declared.records.Held.{Held}
use Rattle.holding_model.specs.Fitting.{has_shape}
use Rattle.volume_model.specs.Parts.{base_of, whole_base}
use Rattle.volume_model.specs.Recovering.{is_of}
use Rattle.replica_rules.specs.Nodes.{stands_for, memory_of, open_base, loaded_as}
use Rattle.law_shown.proofs.Formatting.{formatted_fits}
use Rattle.law_complete.proofs.Memory.{IsThere, some_there}
use Rattle.run_rules.specs.Calm.{Calm, CalmFrom}
use Rattle.run_rules.specs.Knowing.{KnownNode}
use Rattle.run_rules.specs.Running.{new_session, formatted, after}
use Rattle.run_rules.specs.Run.{IsByRules, formatted_first}
use Rattle.list_lemmas.proofs.Members.{among_all, all_among, any_among, any_from}
use Rattle.list_lemmas.proofs.Tests.{by_bool}
use Rattle.law_lines.specs.Mirrors.{Mirrors}
use Rattle.law_lines.specs.Ready.{event_after}
use Rattle.law_posts.proofs.Along.{top_after}
use Rattle.law_ranged.proofs.Sized.{nodes_within}
use Rattle.law_records.proofs.Counted.{both_true, all_members}
use Rattle.law_records.proofs.Recovered.{mem_among, among_mem}
use Rattle.law_refined.proofs.Listed.{mem_reverse}
use Rattle.law_reads.proofs.Events.{Of, of_events}
use Rattle.law_reads.proofs.Relay.{IsDone, owed_end}
use Rattle.law_reads.proofs.Underway.{HandsSent}
use Rattle.law_kept.proofs.Starting.{known_first, first_along}
use Rattle.law_kept.proofs.Whole.{AreGiven, given_here, given_rest, strings, none, guarded_first, all_given}
use Rattle.law_covered.proofs.Along.{first_right}
use Rattle.law_complete.specs.Opening.{LastOpens}
use Rattle.law_complete.proofs.Awaiting as awaiting
use Rattle.law_complete.proofs.Awaiting.{Replies, Done, IsOpen, IsLetterOf, IsReplyOf}
use Rattle.law_complete.proofs.OpeningAlong.{IsOpening, IsStep, opening_then}
use Rattle.law_complete.proofs.Answering.{Ranged}
use Rattle.law_complete.proofs.Began as began
use Rattle.law_complete.proofs.Began.{begun_first, begun_ended}
use Rattle.law_complete.proofs.OpeningKnown.{start_plain}
use Rattle.law_complete.proofs.OpeningQuietly.{IsUnstopped, unstopped_from, quiet_guarded}

-- ---- messages

-- a message that was posted has a number
posted_counted : (posts : List Posted) (k : ℕ) (m : Posted) → posted_at posts k ≡ Some m → (0 < k) × (k ≤ length posts)
posted_counted posts k m at =
    by_bool (nat_lt 0 k) ((0 < k) × (k ≤ length posts))
    (λ some.
    let up : 0 < k = ltb-true 0 k some in
    let there : slice_get posts (k - 1) ≡ Some m = sym (cond-true (nat_lt 0 k) (slice_get posts (k - 1)) None some) ∙ at in
    let within : k - 1 < length posts = slice_get_within posts (k - 1) m there in
    (up, omega (arith, up, within)))
    (λ zero. absurd (none-some m (sym (cond-false (nat_lt 0 k) (slice_get posts (k - 1)) None zero) ∙ at)))

handed_reversed : (steps : List TraceStep) (k : ℕ) → was_handed steps k ≡ true → was_handed (reverse steps) k ≡ true
handed_reversed steps k is =
    let one = any_among (λ (step : TraceStep). hands k step.handed) steps is in
    any_from (λ (step : TraceStep). hands k step.handed) one.0 (reverse steps) (mem_among one.0 (reverse steps) (mem_reverse one.0 steps (among_mem one.0 steps one.1))) one.2

-- ---- the end

-- a client by which every server has done its part opens no session
none_opening : (volume : Volume) (limits_nodes : AllByRecursion (IsOfVolume volume.geometry) (all_nodes volume.geometry)) (many : 0 < volume.geometry.replicas) (events : List Event) (history : List Past) (n : ℕ) (c : state.Client)
    → IsOpen volume.geometry c → Ranged volume.geometry c → ((name : NodeName) → IsOfVolume volume.geometry name → Done c name) → Mirrors volume history (judge_of volume.geometry events history) n c
    → (e : ℕ) → began.IsOpening (phase_of history) e → ⊥
none_opening volume nodes many events history n (state.Gathers g) waits ranged done mirrors e opening =
    true≢false (sym (all_members (λ name. has_answered name g.answered) (all_nodes volume.geometry) (λ name among. done name (among_all (IsOfVolume volume.geometry) (all_nodes volume.geometry) name among nodes))) ∙ waits)
none_opening volume nodes many events history n (state.Stages b) waits ranged done mirrors e opening =
    true≢false (sym (all_members (λ name. has_answered name b.answered) (all_nodes volume.geometry) (λ name among. done name (among_all (IsOfVolume volume.geometry) (all_nodes volume.geometry) name among nodes))) ∙ waits)
none_opening volume nodes many events history n (state.Switches b) waits ranged done mirrors e opening =
    true≢false (sym (all_members (λ name. has_answered name b.answered) (all_nodes volume.geometry) (λ name among. done name (among_all (IsOfVolume volume.geometry) (all_nodes volume.geometry) name among nodes))) ∙ waits)
none_opening volume nodes many events history n (state.Fetches f) waits ranged done mirrors e opening = done (record { region = f.region; replica = 0 }) (ranged, many) refl
none_opening volume nodes many events history n state.Closed waits ranged done mirrors e opening = subst (λ (phase : Phase). began.IsOpening phase e) mirrors opening
none_opening volume nodes many events history n (state.Serves c) waits ranged done mirrors e opening = subst (λ (phase : Phase). began.IsOpening phase e) mirrors.serves opening

turned : (t : TraceStep) (steps earlier : List TraceStep) → reverse steps ++ (t ∷ earlier) ≡ reverse (t ∷ steps) ++ earlier
turned t steps earlier = sym (ap (λ l. l ++ earlier) (reverse-append (t ∷ []) steps) ∙ append_assoc (reverse steps) (t ∷ []) earlier)

module _ (volume : Volume) (events : List Event) (posts : List Posted) (trace : List TraceStep) (limits : IsWithinLimits (record { volume = volume; events = events })) (follows : Follows events posts trace)
    (apart : NoCollision volume events posts trace) (unforged : NoForgery volume events posts trace) (calm : Calm events trace) (rules : IsByRules volume (formatted_first volume) posts trace) (quiet : Quiet events posts trace) where
  abbrev shape : Shape
  shape = volume.geometry

  guarded : Guarded volume events posts trace
  guarded = quiet_guarded events quiet.events_quiet volume limits.volume.small_groups.0 posts trace follows

  all_strings : List (List ℕ)
  all_strings = strings volume events posts trace limits follows apart unforged rules guarded

  no_two : NoTwoCollide all_strings
  unfolding all_strings
  no_two = none volume events posts trace limits follows apart unforged rules guarded

  -- what holds after some steps, whatever was before
  abbrev Opening : List Past → ℕ → ℕ → state.Client → (NodeName → KnownNode) → ℕ → List TraceStep → Type 0
  Opening history n top c known sent earlier = IsOpening volume events posts limits all_strings no_two guarded.client quiet.events_quiet trace follows history n top c known sent earlier

  record IsEnd (history : List Past) (earlier : List TraceStep) : Type 0 where
    n : ℕ
    top : ℕ
    c : state.Client
    known : NodeName → KnownNode
    sent : ℕ
    opening : Opening history n top c known sent earlier

  -- what is given of the steps that are left
  record AreLeft (history : List Past) (n top : ℕ) (c : state.Client) (known : NodeName → KnownNode) (sent : ℕ) (earlier steps : List TraceStep) : Type 0 where
    given : AreGiven volume events posts limits all_strings no_two guarded.client history n top c known sent steps
    of : AllByRecursion (Of events posts) steps
    runs : AllByRecursion IsUnstopped steps
    may : CalmFrom events earlier steps
    among : AllByRecursion (λ t. IsAmong t trace) steps

  end_from : (steps : List TraceStep) (history : List Past) (n top : ℕ) (c : state.Client) (known : NodeName → KnownNode) (sent : ℕ) (earlier : List TraceStep) → Opening history n top c known sent earlier
      → AreLeft history n top c known sent earlier steps → IsEnd (history_from volume events posts history steps) (reverse steps ++ earlier)
  unfolding history_from CalmFrom
  end_from [] history n top c known sent earlier o left = record { n = n; top = top; c = c; known = known; sent = sent; opening = o }
  end_from (t ∷ steps) history n top c known sent earlier o left =
      let given = given_here volume events posts limits all_strings no_two guarded.client history n top c known sent t steps o.along left.given in
      let step : IsStep volume events posts limits all_strings no_two guarded.client quiet.events_quiet trace follows history n top c known sent earlier t = record { given = given; of = left.of.0; runs = left.runs.0; may = left.may.0; among = left.among.0 } in
      let next = opening_then volume events posts limits all_strings no_two guarded.client quiet.events_quiet trace follows history n top c known sent earlier o t step in
      subst (λ (l : List TraceStep). IsEnd (history_from volume events posts history (t ∷ steps)) l) (turned t steps earlier)
      (end_from steps (past_of volume events posts history t ∷ history) (event_after n t.event (news_of posts t)) (top_after top (news_of posts t)) (client_step volume posts c t).client
      (λ name. after shape posts name (known name) t) t.sent (t ∷ earlier) next
      (record {
        given = given_rest volume events posts limits all_strings no_two guarded.client history n top c known sent t steps left.given;
        of = left.of.1;
        runs = left.runs.1;
        may = left.may.1;
        among = left.among.1;
      }))

  -- a formatted server has session 1 in memory
  first_there : (name : NodeName) → IsOfVolume shape name → IsThere (known_first volume events posts limits name).state.memory
  unfolding loaded_as base_of
  first_there name inside =
      let held : Held = formatted volume name in
      let base : Base = whole_base shape volume.key (new_session shape) name.region in
      let fits = formatted_fits volume name limits.volume inside.0 in
      let stand : stands_for shape name.region 1 base ≡ true =
      both_true (is_of 1 name.region base.rec.header) (has_shape shape base.blocks) (both_true (1 == 1) (name.region == name.region) refl (eq-eqb name.region name.region refl)) fits.bases.0.whole in
      some_there (open_base shape name.region held) (λ b. memory_of shape name.region held b) base (ap (λ (t : Bool). if t then Some base else None) stand)

  first_opening : Opening [] 1 1 (new_client shape) (known_first volume events posts limits) 0 []
  unfolding HandsSent loaded_as
  first_opening = record {
    along = first_along volume events posts limits all_strings no_two (guarded_first volume events posts trace limits follows apart unforged rules guarded (history_from volume events posts [] trace) guarded.groups);
    right = first_right volume events posts limits all_strings no_two guarded.client;
    plain = start_plain volume events limits;
    unreplaced = tt;
    speaks = λ name inside. refl;
    count = refl;
    hands_sent = tt;
    waits = tt;
    laid = tt;
    ranged = tt;
    unswitched = tt;
    there = λ name inside. first_there name inside;
    idle = tt;
    owed = λ name inside. IsDone tt;
    begun = begun_first shape events;
  }

  -- The law: the last session asked for since the client's last crash is open, or was.
  pub opened : LastOpens shape events (history_from volume events posts [] trace)
  unfolding all_strings no_two
  opened =
      let end : IsEnd (history_from volume events posts [] trace) (reverse trace) =
      subst (λ (l : List TraceStep). IsEnd (history_from volume events posts [] trace) l) (append-nil (reverse trace))
      (end_from trace [] 1 1 (new_client shape) (known_first volume events posts limits) 0 [] first_opening
      (record {
        given = all_given volume events posts trace limits follows apart unforged rules guarded;
        of = of_events events posts events (λ e among. among) [] [] 1 trace follows;
        runs = unstopped_from posts events [] [] 1 trace quiet.events_quiet follows;
        may = calm;
        among = all_among (λ (t : TraceStep). IsAmong t trace) trace (λ t among. among);
      })) in
      let o = end.opening in
      let done : (name : NodeName) → IsOfVolume shape name → Done end.c name = λ name inside.
      ⊎_elim (λ (is : Done end.c name). is) (λ (none_kept : ⊥). absurd none_kept)
      (owed_end (IsLetterOf posts name (awaiting.Asks end.c name)) (IsReplyOf posts name (Replies shape end.c name)) (Done end.c name) ⊥ (reverse trace)
      (λ k is sent. let counted = posted_counted posts k _ is.at in handed_reversed trace k (quiet.all_handed k counted.0 counted.1))
      (λ k is sent. let counted = posted_counted posts k _ is.at in handed_reversed trace k (quiet.all_handed k counted.0 counted.1)) (o.owed name inside)) in
      begun_ended shape events (history_from volume events posts [] trace)
      (none_opening volume (nodes_within shape limits.volume) limits.volume.small_groups.0 events (history_from volume events posts [] trace) end.n end.c o.waits o.ranged done o.along.holds.mirrors) o.begun
