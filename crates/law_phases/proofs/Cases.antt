-- The other cases of a step: acknowledgements, a batch, a session that is asked for, staged, opened or lost, and a crash.
use Rattle.std.proofs.Common.{◌≡◌, ℕ, ◌+◌, ◌<◌, ◌∙◌, true, false, if◌then◌else◌, List, [], ◌∷◌, ◌++◌, Some, refl, ap, sym, subst}
use Rattle.std.specs.Prelude.{fold}
use Rattle.std.specs.List.{list_any, list_all}
use Rattle.std.proofs.lemmas.Bool.{cond-true, cond-false, false≢true}
use Rattle.std.proofs.lemmas.Nat.{pow_pos}
use Rattle.salus_types.specs.Volume.{Shape}
use Rattle.salus_types.specs.declared.names.NodeName.{NodeName}
use Rattle.schedule_text.specs.declared.schedule.Event.{Event}
use Rattle.printed_lines.specs.declared.line.Line.{Line}
use Rattle.printed_lines.specs.declared.line.Line.TheVariants as line
use Rattle.volume_model.specs.Contents.{Batch}
use Rattle.volume_model.specs.Parts.{Session}
use Rattle.volume_model.specs.Groups.{all_nodes}
use Rattle.salus_model.specs.Judge.{Judge, known_at, event_at, batch_of, last_number, judged, judged_all, IsPrefixOf}
use Rattle.salus_model.specs.Hearing.{Past, judge_of, news_since, opens, begins, stages, refuses, Phase, Serving, Closed, Staged, phase_of, phase_by_news, phase_by_line, is_open_line, is_stage_line}
use Rattle.salus_model.specs.Opening.{all_staged, says_staged}
use Rattle.salus_model.specs.Complete.{session_asked}
use Rattle.list_lemmas.proofs.Tests.{by_test}
use Rattle.law_prefix.specs.Numbers.{Mem}
use Rattle.law_prefix.specs.World as abstract
use Rattle.law_prefix.specs.World.{World, Guarded}
use Rattle.law_prefix.specs.Steps.{Asks, HasTold}
use Rattle.law_prefix.specs.Run as steps
use Rattle.law_prefix.specs.Run.{Run, Step, begun, with_client, is_opened}
use Rattle.kept_model.specs.Nodes.{volume_as, node_of}
use Rattle.kept_model.specs.Phases.{asked_of, phase_from, switches_of, IsClientOf}
use Rattle.law_phases.specs.Moving.{OpensAsked, IsMoved}
use Rattle.law_phases.proofs.Told.{all_at, nodes-among, first-region}
use Rattle.law_phases.proofs.Sees.{Sees, AllSome, sees_same, submit_client, submit-sees, submit-submits, stage_client, stage-sees, open-sees}
use Rattle.law_phases.proofs.Still.{SameSessions, AreStill, AreCalm, still_same, still_calm, calm_submit, calm_opens}
use Rattle.law_phases.proofs.Acking.{IsAcked, one_step}
use Rattle.law_phases.proofs.Moving.{IsPlain, opens_same, asked_same, asked_new, stages_some, phase_then, sees_now, plain_client, moved_only, switches_more, phase_now}

-- nobody has staged a session before anything was told
pub none_staged : (shape : Shape) → 0 < shape.replicas → (e : ℕ) → all_staged shape e [] ≡ false
unfolding all_staged
none_staged shape many e =
    by_test (λ t. list_all (λ (name : NodeName). list_any (λ x. says_staged e name x) []) (all_nodes shape) ≡ t → t ≡ false) (list_all (λ (name : NodeName). list_any (λ x. says_staged e name x) []) (all_nodes shape))
    (λ hit all. absurd (false≢true (all_at (λ (name : NodeName). list_any (λ x. says_staged e name x) []) (all_nodes shape) (node_of shape 0) all (nodes-among shape many 0 (first-region shape many)))))
    (λ miss none. refl) refl

module _ (shape : Shape) (events : List Event) (history : List Past) (w : World) (client : IsClientOf shape events history w.client) (guarded : Guarded (volume_as shape events) w.counts)
    (p : Past) (before : p.before ≡ judge_of shape events history) where
  abbrev v : abstract.Volume
  v = volume_as shape events

  abbrev judge : Judge
  judge = judge_of shape events history

  abbrev after : Judge
  after = judge_of shape events (p ∷ history)

  pub seen : Sees shape judge w.client
  seen = sees_now shape events history w client guarded

  after_lines : (lines : List Line) → p.lines ≡ lines → judged_all events judge lines ≡ after
  after_lines lines is = sym (ap (λ j. judged_all events j p.lines) before ∙ ap (judged_all events judge) is)

  -- ---- acknowledgements

  pub acks_moved : (lines : List Line) → p.lines ≡ lines → AreCalm lines → begins p ≡ false → phase_by_news (refuses p) p.news (phase_of history) ≡ Serving → w.client.phase ≡ abstract.Serving
      → IsAcked shape events w (judged_all events judge lines) → IsMoved shape events history p w
  acks_moved lines is calm unbegun at serving acked =
      let calm_here : AreCalm p.lines = subst AreCalm (sym is) calm in
      moved_only shape events history w client guarded p before (calm_opens p.lines calm_here) unbegun acked.after acked.run
      (record {
        images = acked.stays.images;
        counts = acked.stays.counts;
        fresh = acked.stays.fresh;
        votes = acked.stays.votes;
        claims = acked.stays.claims;
        staged = acked.stays.staged;
        switched = acked.stays.switched;
        replies = acked.stays.replies;
      })
      (plain_client shape events history w client guarded p before Serving tt (phase_then p history Serving at calm_here) acked.after.client
      (subst (λ j. Sees shape j acked.after.client) (after_lines lines is) acked.sees)
      (acked.stays.asked ∙ (client.asked ∙ sym (asked_same p history unbegun)))
      (acked.stays.phase ∙ serving) acked.stays.switches)
      (opens_same p history Serving (asked_of (p ∷ history)) (phase_then p history Serving at calm_here) refl tt)

  -- ---- a batch

  pub submit_moved : (u s : ℕ) (batch : Batch) (rest : List Line) → p.lines ≡ line.Submit u s ∷ rest → AreStill rest → begins p ≡ false
      → phase_by_news (refuses p) p.news (phase_of history) ≡ Serving → w.client.phase ≡ abstract.Serving → batch_of (event_at events u) ≡ batch ∷ []
      → AllSome shape (judged events judge (line.Submit u s)) → last_number judge < judge.acked + 16 → IsMoved shape events history p w
  unfolding judged_all
  submit_moved u s batch rest is still unbegun at serving asked some room =
      let calm : AreCalm p.lines = subst AreCalm (sym is) (calm_submit u s, still_calm rest still) in
      let x : World = with_client w (submit_client shape events judge u s batch asked w.client seen) in
      let same : SameSessions (judged events judge (line.Submit u s)) (judged_all events (judged events judge (line.Submit u s)) rest) = still_same events rest (judged events judge (line.Submit u s)) still in
      let now : Sees shape (judged events judge (line.Submit u s)) x.client = submit-sees shape events judge u s batch asked w.client seen in
      let later : Sees shape (judged_all events judge (line.Submit u s ∷ rest)) x.client =
      sees_same shape (judged events judge (line.Submit u s)) (judged_all events (judged events judge (line.Submit u s)) rest) x.client same.now same.others same.acked now in
      moved_only shape events history w client guarded p before (calm_opens p.lines calm) unbegun x
      (one_step v w x guarded guarded (steps.submitted w x.client.lists (submit-submits shape events judge u s batch asked w.client seen events (pow_pos shape.regions_log) some serving room)))
      (record { images = refl; counts = refl; fresh = refl; votes = refl; claims = refl; staged = refl; switched = refl; replies = refl })
      (plain_client shape events history w client guarded p before Serving tt (phase_then p history Serving at calm) x.client
      (subst (λ j. Sees shape j x.client) (after_lines (line.Submit u s ∷ rest) is) later)
      (client.asked ∙ sym (asked_same p history unbegun)) serving refl)
      (opens_same p history Serving (asked_of (p ∷ history)) (phase_then p history Serving at calm) refl tt)

  -- ---- a session is asked for

  same_none : p.lines ≡ [] → SameSessions judge after
  unfolding judged_all
  same_none is = subst (SameSessions judge) (after_lines [] is) (record { now = refl; others = refl; acked = refl })

  pub begun_moved : (e : ℕ) (to : abstract.Phase) (phase : Phase) → IsPlain phase → OpensAsked phase e → to ≡ phase_from true phase → begins p ≡ true → session_asked p.news ≡ Some e → p.lines ≡ []
      → phase_by_news (refuses p) p.news (phase_of history) ≡ phase → Asks w.client e to → IsMoved shape events history p w
  begun_moved e to phase plain fits same begins_here asked is at asks =
      let calm : AreCalm p.lines = subst AreCalm (sym is) tt in
      let x : World = record w { client = record w.client { asked = e; phase = to }; fresh = v.honest } in
      let sessions : SameSessions judge after = same_none is in
      let now : Sees shape after w.client = sees_same shape judge after w.client sessions.now sessions.others sessions.acked seen in
      record {
        after = x;
        run = one_step v w x guarded guarded (steps.asked w e to asks);
        client = plain_client shape events history w client guarded p before phase plain (phase_then p history phase at calm) x.client
            (record { knows = record { lists = now.knows.lists; starts = now.knows.starts; there = now.knows.there; back = now.knows.back }; served = now.served; acked = now.acked })
            (sym (asked_new p history e begins_here asked)) same refl;
        opening = opens_same p history phase e (phase_then p history phase at calm) (asked_new p history e begins_here asked) fits;
        images = refl;
        counts = sym (cond-false (opens p) w.fresh w.counts (calm_opens p.lines calm));
        fresh = sym (cond-true (begins p) v.honest w.fresh begins_here);
        votes = refl;
        claims = refl;
        staged = refl;
        switched = refl;
        replies = refl;
      }

  -- ---- a crash, or a session that is lost

  pub closed_moved : opens p ≡ false → begins p ≡ false → phase_of (p ∷ history) ≡ Closed → SameSessions judge after → IsMoved shape events history p w
  closed_moved closed unbegun at sessions =
      let x : World = with_client w (record w.client { phase = abstract.Closed }) in
      let now : Sees shape after w.client = sees_same shape judge after w.client sessions.now sessions.others sessions.acked seen in
      moved_only shape events history w client guarded p before closed unbegun x (one_step v w x guarded guarded (steps.crashed w))
      (record { images = refl; counts = refl; fresh = refl; votes = refl; claims = refl; staged = refl; switched = refl; replies = refl })
      (plain_client shape events history w client guarded p before Closed tt at x.client
      (record { knows = record { lists = now.knows.lists; starts = now.knows.starts; there = now.knows.there; back = now.knows.back }; served = now.served; acked = now.acked })
      (client.asked ∙ sym (asked_same p history unbegun)) refl refl)
      (opens_same p history Closed (asked_of (p ∷ history)) at refl tt)

  pub crash_moved : begins p ≡ false → p.lines ≡ [] → phase_by_news (refuses p) p.news (phase_of history) ≡ Closed → IsMoved shape events history p w
  crash_moved unbegun is at =
      let calm : AreCalm p.lines = subst AreCalm (sym is) tt in
      closed_moved (calm_opens p.lines calm) unbegun (phase_then p history Closed at calm) (same_none is)

  pub lost_moved : (e : ℕ) → p.lines ≡ line.Lost e ∷ [] → begins p ≡ false → IsMoved shape events history p w
  unfolding phase_of judged_all
  lost_moved e is unbegun =
      closed_moved (ap (list_any is_open_line) is) unbegun (ap (fold phase_by_line (phase_by_news (refuses p) p.news (phase_of history))) is)
      (subst (SameSessions judge) (after_lines (line.Lost e ∷ []) is) (record { now = refl; others = refl; acked = refl }))

  -- ---- a session is staged

  pub stage_moved : (e f s : ℕ) (legal : IsPrefixOf events judge e f s) (asked : w.client.asked ≡ e) → 0 < shape.replicas → p.lines ≡ line.Stage e f s ∷ [] → begins p ≡ false
      → Step v w (with_client w (stage_client shape events judge e f s legal w.client seen asked)) → IsMoved shape events history p w
  unfolding phase_of judged_all
  stage_moved e f s legal asked many is unbegun step =
      let x : World = with_client w (stage_client shape events judge e f s legal w.client seen asked) in
      let now : Sees shape (judged events judge (line.Stage e f s)) x.client = stage-sees shape events judge e f s legal w.client seen asked in
      let sees : Sees shape after x.client = subst (λ j. Sees shape j x.client) (after_lines (line.Stage e f s ∷ []) is) now in
      let at : phase_of (p ∷ history) ≡ Staged e = ap (fold phase_by_line (phase_by_news (refuses p) p.news (phase_of history))) is in
      let news : news_since stages (p ∷ history) ≡ [] = stages_some p history (ap (list_any is_stage_line) is) in
      let untold : all_staged shape e (news_since stages (p ∷ history)) ≡ false = ap (all_staged shape e) news ∙ none_staged shape many e in
      let listed : switches_of shape (p ∷ history) ≡ switches_of shape history =
      switches_more shape p history (Staged e) at ∙ ap (λ t. (if t then e ∷ [] else []) ++ switches_of shape history) untold in
      moved_only shape events history w client guarded p before (ap (list_any is_open_line) is) unbegun x (one_step v w x guarded guarded step)
      (record { images = refl; counts = refl; fresh = refl; votes = refl; claims = refl; staged = refl; switched = refl; replies = refl })
      (record {
        lists = sees.knows.lists;
        starts = sees.knows.starts;
        known_there = sees.knows.there;
        known_back = sees.knows.back;
        served = sees.served;
        acked = sees.acked;
        asked = client.asked ∙ sym (asked_same p history unbegun);
        phase = sym (phase_now shape (p ∷ history) (Staged e) at ∙ ap (λ t. if t then abstract.Switching else abstract.Staging) untold);
        switched_there = λ k m. subst (λ l. Mem k l) (sym listed) (client.switched_there k m);
        switched_back = λ k m. client.switched_back k (subst (λ l. Mem k l) listed m);
      })
      (opens_same p history (Staged e) e at (asked_same p history unbegun ∙ (sym client.asked ∙ asked)) refl)

  -- ---- a session is opened

  pub open_moved : (e : ℕ) (known : Session) → known_at judge e ≡ Some known → w.client.asked ≡ e → p.lines ≡ line.Open e ∷ [] → begins p ≡ false
      → phase_of history ≡ Staged e → all_staged shape e (news_since stages history) ≡ true → ((r : ℕ) → v.honest r ≡ true → HasTold w.switched r e) → Guarded v w.fresh
      → IsMoved shape events history p w
  unfolding phase_of judged_all
  open_moved e known known_here asked is unbegun at staged told fresh =
      let x : World = is_opened w in
      let switching : w.client.phase ≡ abstract.Switching =
      client.phase ∙ (phase_now shape history (Staged e) at ∙ ap (λ t. if t then abstract.Switching else abstract.Staging) staged) in
      let now : Sees shape (judged events judge (line.Open e)) x.client = open-sees shape events judge e known known_here w.client seen asked in
      let sees : Sees shape after x.client = subst (λ j. Sees shape j x.client) (after_lines (line.Open e ∷ []) is) now in
      let serving : phase_of (p ∷ history) ≡ Serving = ap (fold phase_by_line (phase_by_news (refuses p) p.news (phase_of history))) is in
      let opened : opens p ≡ true = ap (list_any is_open_line) is in
      record {
        after = x;
        run = one_step v w x guarded fresh (steps.opened w switching (λ r honest. subst (HasTold w.switched r) (sym asked) (told r honest)));
        client = plain_client shape events history w client guarded p before Serving tt serving x.client sees
            (client.asked ∙ sym (asked_same p history unbegun)) refl refl;
        opening = opens_same p history Serving (asked_of (p ∷ history)) serving refl tt;
        images = refl;
        counts = sym (cond-true (opens p) w.fresh w.counts opened);
        fresh = sym (cond-false (begins p) v.honest w.fresh unbegun);
        votes = refl;
        claims = refl;
        staged = refl;
        switched = refl;
        replies = refl;
      }
