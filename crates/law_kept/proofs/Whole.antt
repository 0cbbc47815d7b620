-- Along the whole run: each choice keeps every acknowledged batch, and nothing is lost.
use Rattle.std.proofs.Common.{◌≡◌, ℕ, ◌+◌, true, false, ◌==◌, if◌then◌else◌, List, [], ◌∷◌, inl, inr, refl, subst, arith}
use Rattle.std.specs.Prelude.{flat_map}
use Rattle.std.specs.List.{AllByRecursion}
use Rattle.std.proofs.lemmas.Bool.{cond_both}
use Rattle.salus_types.specs.Volume.{Shape}
use Rattle.salus_types.specs.declared.names.NodeName.{NodeName}
use Rattle.salus_types.specs.declared.names.Sender.TheVariants as sender
use Rattle.merkle_region.specs.Tree.{IsAmong, NoTwoCollide}
use Rattle.merkle_region.proofs.Membership.{among_either}
use Rattle.schedule_text.specs.Limits.{IsWithinLimits}
use Rattle.schedule_text.specs.declared.schedule.Volume.{Volume}
use Rattle.schedule_text.specs.declared.schedule.Event.{Event}
use Rattle.schedule_text.specs.declared.schedule.Event.TheVariants as event
use Rattle.printed_lines.specs.declared.line.Line.{Line}
use Rattle.printed_lines.specs.declared.line.Line.TheVariants as line
use Rattle.salus_model.specs.declared.trace.TraceStep.{TraceStep}
use Rattle.salus_model.specs.Judge.{KeepsAcknowledged}
use Rattle.salus_model.specs.Following.{Posted, Follows, sent_by, is_skipped}
use Rattle.salus_model.specs.Forgery.{NoForgery}
use Rattle.salus_model.specs.Guarding.{is_lied_for, all_guarded, GuardedThroughout, Guarded}
use Rattle.salus_model.specs.Hearing.{Past, news_of}
use Rattle.salus_model.specs.Due.{skip_line, of_event, past_event, sent_after, past_of, pasts_from, history_from, lines_from, lines_due}
use Rattle.salus_model.specs.Seen.{strings_of, NoCollision}
use Rattle.client_rules.specs.State as state
use Rattle.client_rules.specs.Rules.{client_step, client_letters, new_client}
use Rattle.run_rules.specs.Knowing.{KnownNode}
use Rattle.run_rules.specs.Run.{IsByRules, formatted_first}
use Rattle.run_rules.specs.Running.{after, AllSteps}
use Rattle.run_rules.specs.Serving.{ClientSteps}
use Rattle.list_lemmas.proofs.Each.{all_split, all_then}
use Rattle.list_lemmas.proofs.Members.{among_all, among_flat_map}
use Rattle.law_lemmas.proofs.WellSent.{well_sent}
use Rattle.law_lines.specs.Ready.{event_after}
use Rattle.law_lines.proofs.Followed.{AreFit}
use Rattle.law_lines.proofs.Scripted.{fits_schedule}
use Rattle.law_history.specs.Handing.{ClientPostsTagged, NodesShowHanded}
use Rattle.law_history.specs.Keeping.{KeepsChoiceFrom}
use Rattle.law_history.proofs.Concluded.{concluded}
use Rattle.law_history.proofs.Placed.{stands_first}
use Rattle.law_history.proofs.Runs.{AllTagged}
use Rattle.law_history.proofs.Shown.{seen_later}
use Rattle.law_history.proofs.Steps.{steps_of_all}
use Rattle.law_history.proofs.Supplied.{supplied_from, told_nothing}
use Rattle.law_shown.specs.Reading.{AllAddressed, AllHandSpelled}
use Rattle.law_shown.proofs.Along.{nodes_show}
use Rattle.law_runs.proofs.Rising.{sessions_rise}
use Rattle.law_posts.specs.Spelling.{IsSpellable}
use Rattle.law_posts.proofs.Along.{top_after}
use Rattle.law_posts.proofs.Running.{client_tags}
use Rattle.law_ranged.specs.Ranging.{IsSentWithin, AllSentWithin}
use Rattle.law_ranged.proofs.Along.{runs_within}
use Rattle.law_gathered.proofs.Along.{session_is}
use Rattle.law_gathered.proofs.Stands.{Within, IsScheduled, all_scheduled}
use Rattle.law_matched.specs.Silent.{IsHandedRight, AreHandedRight}
use Rattle.law_matched.proofs.Handing.{handed_right}
use Rattle.law_kept.specs.Losing.{NoneIsLost}
use Rattle.law_kept.proofs.Along.{IsAlong, IsGiven}
use Rattle.law_kept.proofs.Starting.{known_first, first_along}
use Rattle.law_kept.proofs.Next.{keeps_choice, unlost, along_then}

-- no line of these steps tells of a session that is lost
abbrev NoneLostIn : List Past → Type 0
NoneLostIn pasts = AllByRecursion (λ (p : Past). NoneIsLost p.lines) pasts

module _ (volume : Volume) (events : List Event) (posts : List Posted) (limits : IsWithinLimits (record { volume = volume; events = events })) (strings : List (List ℕ)) (none : NoTwoCollide strings)
    (unlied : is_lied_for events sender.Client ≡ false) where
  abbrev shape : Shape
  shape = volume.geometry

  abbrev more : List Past → TraceStep → List Past
  more history t = past_of volume events posts history t ∷ history

  -- what is given of the steps that are left
  pub record AreGiven (history : List Past) (n top : ℕ) (c : state.Client) (known : NodeName → KnownNode) (sent : ℕ) (steps : List TraceStep) : Type 0 where
    pub fit : AreFit events posts n (top + 1) steps
    pub scheduled : (t : TraceStep) → IsAmong t steps → IsScheduled events posts t
    pub within : Within (strings_of volume.geometry (history_from volume events posts history steps)) strings
    pub shown : AllTagged volume events strings none posts history steps
    pub addressed : AllAddressed shape steps
    pub handed : (earlier : List TraceStep) × (sent_by earlier ≡ sent) × AreHandedRight events earlier steps
    pub nodes : (name : NodeName) → AllSteps shape posts name (known name) sent steps
    pub client : ClientSteps volume posts c sent steps
    pub guarded : GuardedThroughout shape events (history_from volume events posts history steps)
    pub tagged : ClientPostsTagged volume events posts history steps
    pub letters : AllByRecursion (IsSentWithin shape) (client_letters volume posts c steps)

  -- what holds throughout holds of the steps before
  guarded_at : (steps : List TraceStep) (history : List Past) → GuardedThroughout shape events (history_from volume events posts history steps) → GuardedThroughout shape events history
  unfolding history_from GuardedThroughout
  guarded_at [] history all = all
  guarded_at (t ∷ steps) history all = (guarded_at steps (more history t) all).1

  guarded_then : (p : Past) (history : List Past) → GuardedThroughout shape events (p ∷ history) → all_guarded shape events (p ∷ history) ≡ true
  unfolding GuardedThroughout
  guarded_then p history all = all.0

  pub given_here : (history : List Past) (n top : ℕ) (c : state.Client) (known : NodeName → KnownNode) (sent : ℕ) (t : TraceStep) (steps : List TraceStep)
      → IsAlong volume events posts limits strings none history n top c known sent → AreGiven history n top c known sent (t ∷ steps)
      → IsGiven volume events posts limits strings none history n top c known sent t
  unfolding AreFit AllSteps ClientSteps ClientPostsTagged AreHandedRight history_from client_letters
  given_here history n top c known sent t steps a given = record {
    fits = given.fit.0;
    scheduled = given.scheduled t (inl refl);
    shows = given.shown.0 a.standing.reached;
    within = λ s m. given.within s (seen_later volume events posts steps (more history t) s m);
    addressed = given.addressed.0;
    handed = subst (λ k. IsHandedRight events k t.handed) given.handed.1 given.handed.2.0;
    nodes = λ name. (given.nodes name).0;
    client = given.client.0;
    guarded = guarded_then (past_of volume events posts history t) history (guarded_at steps (more history t) given.guarded);
    tagged = given.tagged.0;
    letters = (all_split (IsSentWithin shape) (client_step volume posts c t).outs (client_letters volume posts (client_step volume posts c t).client steps) given.letters).0;
  }

  pub given_rest : (history : List Past) (n top : ℕ) (c : state.Client) (known : NodeName → KnownNode) (sent : ℕ) (t : TraceStep) (steps : List TraceStep) → AreGiven history n top c known sent (t ∷ steps)
      → AreGiven (more history t) (event_after n t.event (news_of posts t)) (top_after top (news_of posts t)) (client_step volume posts c t).client (λ name. after shape posts name (known name) t) t.sent steps
  unfolding AreFit AllSteps ClientSteps ClientPostsTagged AreHandedRight history_from client_letters
  given_rest history n top c known sent t steps given = record {
    fit = subst (λ (m : ℕ). AreFit events posts (event_after n t.event (news_of posts t)) m steps) (session_is top (news_of posts t)) given.fit.1;
    scheduled = λ u among. given.scheduled u (inr among);
    within = given.within;
    shown = given.shown.1;
    addressed = given.addressed.1;
    handed = (t ∷ given.handed.0, refl, given.handed.2.1);
    nodes = λ name. (given.nodes name).1;
    client = given.client.1;
    guarded = given.guarded;
    tagged = given.tagged.1;
    letters = (all_split (IsSentWithin shape) (client_step volume posts c t).outs (client_letters volume posts (client_step volume posts c t).client steps) given.letters).1;
  }

  kept_from : (steps : List TraceStep) (history : List Past) (n top : ℕ) (c : state.Client) (known : NodeName → KnownNode) (sent : ℕ)
      → IsAlong volume events posts limits strings none history n top c known sent → AreGiven history n top c known sent steps
      → KeepsChoiceFrom volume events posts history steps × NoneLostIn (pasts_from volume events posts history steps)
  unfolding KeepsChoiceFrom pasts_from
  kept_from [] history n top c known sent a given = (tt, tt)
  kept_from (t ∷ steps) history n top c known sent a given =
      let here : IsGiven volume events posts limits strings none history n top c known sent t = given_here history n top c known sent t steps a given in
      let rest = kept_from steps (more history t) (event_after n t.event (news_of posts t)) (top_after top (news_of posts t)) (client_step volume posts c t).client (λ name. after shape posts name (known name) t) t.sent
      (along_then volume events posts limits strings none unlied history n top c known sent a t here) (given_rest history n top c known sent t steps given) in (
        (keeps_choice volume events posts limits strings none unlied history n top c known sent a t here, rest.0),
        (unlost volume events posts limits strings none unlied history n top c known sent a t here, rest.1),
      )

-- ---- the lines of a run are those of its steps

module _ (posts : List Posted) where
  first_inside : (n : ℕ) (pasts : List Past) (p : Past) → IsAmong p (of_event n pasts) → IsAmong p pasts
  unfolding of_event
  first_inside n [] p among = absurd among
  first_inside n (q ∷ pasts) p among =
      cond_both {A = List Past} (q.step.event == n) (q ∷ of_event n pasts) [] (λ l. IsAmong p l → IsAmong p (q ∷ pasts))
      (λ is some. elim some [ inl same ↦ inl same | inr later ↦ inr (first_inside n pasts p later) ]) (λ isnt nothing. absurd nothing) among

  rest_inside : (n : ℕ) (pasts : List Past) (p : Past) → IsAmong p (past_event n pasts) → IsAmong p pasts
  unfolding past_event
  rest_inside n [] p among = absurd among
  rest_inside n (q ∷ pasts) p among =
      cond_both {A = List Past} (q.step.event == n) (past_event n pasts) (q ∷ pasts) (λ l. IsAmong p l → IsAmong p (q ∷ pasts))
      (λ is some. inr (rest_inside n pasts p some)) (λ isnt some. some) among

  skip_unlost : (n : ℕ) (e : Event) → NoneIsLost (skip_line n e)
  skip_unlost n (event.Deliver k) x (inl same) = absurd (cc)
  skip_unlost n (event.Deliver k) x (inr nothing) = nothing
  skip_unlost n (event.Drop k) x (inl same) = absurd (cc)
  skip_unlost n (event.Drop k) x (inr nothing) = nothing
  skip_unlost n (event.Stop k calls keep fill) x (inl same) = absurd (cc)
  skip_unlost n (event.Stop k calls keep fill) x (inr nothing) = nothing
  skip_unlost n other x among = absurd among

module _ (volume : Volume) (events : List Event) (posts : List Posted) where
  lines_unlost : (es : List Event) (sent n : ℕ) (pasts : List Past) → ((p : Past) → IsAmong p pasts → NoneIsLost p.lines) → NoneIsLost (lines_from volume events posts sent n es pasts)
  unfolding lines_from
  lines_unlost [] sent n pasts each x among = absurd among
  lines_unlost (e ∷ es) sent n pasts each x among =
      elim (among_either (line.Lost x) (if is_skipped posts sent e then skip_line n e else flat_map (λ (p : Past). p.lines) (of_event n pasts)) (lines_from volume events posts (sent_after sent (of_event n pasts)) (n + 1) es (past_event n pasts)) among) [
        | inl here ↦
            cond_both {A = List Line} (is_skipped posts sent e) (skip_line n e) (flat_map (λ (p : Past). p.lines) (of_event n pasts)) (λ l. IsAmong (line.Lost x) l → ⊥)
            (λ is skipped. skip_unlost posts n e x skipped)
            (λ isnt told. (let from = among_flat_map (λ (p : Past). p.lines) (line.Lost x) (of_event n pasts) told in each from.0 (first_inside posts n pasts from.0 from.1) x from.2)) here
        | inr later ↦ lines_unlost es (sent_after sent (of_event n pasts)) (n + 1) (past_event n pasts) (λ p m. each p (rest_inside posts n pasts p m)) x later
      ]

-- ---- the law

module _ (volume : Volume) (events : List Event) (posts : List Posted) (trace : List TraceStep) (limits : IsWithinLimits (record { volume = volume; events = events })) (follows : Follows events posts trace)
    (apart : NoCollision volume events posts trace) (unforged : NoForgery volume events posts trace) (rules : IsByRules volume (formatted_first volume) posts trace) (guarded : Guarded volume events posts trace) where
  abbrev pub strings : List (List ℕ)
  strings = strings_of volume.geometry (history_from volume events posts [] trace)

  pub none : NoTwoCollide strings
  none = steps_of_all volume events posts trace apart

  kept_within : AllAddressed volume.geometry trace × AllHandSpelled posts trace × AllSentWithin volume posts trace
  kept_within = runs_within volume events posts trace limits follows rules

  shows : NodesShowHanded volume posts [] trace
  shows = nodes_show volume events posts trace limits.volume follows kept_within.1 kept_within.0 rules.nodes

  tags : ClientPostsTagged volume events posts [] trace
  tags = client_tags volume events posts trace limits follows (all_then (IsSentWithin volume.geometry) (λ l. IsSpellable l.message) (λ l sent. (sent.counts, sent.widths)) _ kept_within.2) rules.client

  pub guarded_first : (history : List Past) → GuardedThroughout volume.geometry events history → all_guarded volume.geometry events [] ≡ true
  unfolding GuardedThroughout
  guarded_first [] all = all
  guarded_first (p ∷ history) all = guarded_first history all.1

  pub all_given : AreGiven volume events posts limits strings none guarded.client [] 1 1 (new_client volume.geometry) (known_first volume events posts limits) 0 trace
  all_given =
      let few = limits.few in
      record {
        fit = fits_schedule events posts trace (omega (arith, few)) (sessions_rise events 1 2 (omega arith) limits.rising) follows;
        scheduled = all_scheduled events posts events [] [] 1 trace (stands_first events) follows;
        within = λ s m. m;
        shown = supplied_from volume events strings none posts trace [] (told_nothing volume events strings none posts) (well_sent posts events [] [] 1 trace follows) shows tags unforged;
        addressed = kept_within.0;
        handed = ([], refl, handed_right events posts trace follows);
        nodes = rules.nodes;
        client = rules.client;
        guarded = guarded.groups;
        tagged = tags;
        letters = kept_within.2;
      }

  both : KeepsChoiceFrom volume events posts [] trace × NoneLostIn (pasts_from volume events posts [] trace)
  both =
      kept_from volume events posts limits strings none guarded.client trace [] 1 1 (new_client volume.geometry) (known_first volume events posts limits) 0
      (first_along volume events posts limits strings none (guarded_first (history_from volume events posts [] trace) guarded.groups)) all_given

  pub run_kept : KeepsAcknowledged volume.geometry events (lines_due volume events posts trace)
  run_kept = (concluded volume events posts trace limits.rising follows none unforged shows tags).2 both.0

  pub run_unlost : NoneIsLost (lines_due volume events posts trace)
  run_unlost = lines_unlost volume events posts events 0 1 (pasts_from volume events posts [] trace) (λ p among. among_all (λ (q : Past). NoneIsLost q.lines) (pasts_from volume events posts [] trace) p among both.1)
