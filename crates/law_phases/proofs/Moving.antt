-- A step of the client by the lines that are due, case by case, as steps of the abstract client.
use Rattle.std.proofs.Common.{◌≡◌, ℕ, ◌∙◌, Bool, true, false, if◌then◌else◌, List, [], ◌∷◌, ◌++◌, map, Some, inl, inr, refl, ap, sym, subst}
use Rattle.std.specs.Prelude.{unwrap_or}
use Rattle.std.proofs.lemmas.Bool.{cond-true, cond-false}
use Rattle.salus_types.specs.Volume.{Shape}
use Rattle.schedule_text.specs.declared.schedule.Event.{Event}
use Rattle.merkle_region.specs.Tree.{IsAmong}
use Rattle.merkle_region.proofs.Membership.{among_left, among_right, among_either}
use Rattle.salus_model.specs.Judge.{Judge}
use Rattle.salus_model.specs.Hearing.{Past, judge_of, since, news_since, opens, begins, stages, refuses, Phase, Serving, Closed, Gathering, Fetching, Staged, phase_of, phase_by_news}
use Rattle.salus_model.specs.Opening.{all_staged}
use Rattle.salus_model.specs.Complete.{session_asked, last_begun}
use Rattle.law_prefix.specs.Numbers.{Mem}
use Rattle.law_prefix.specs.World as abstract
use Rattle.law_prefix.specs.World.{World, Guarded}
use Rattle.law_prefix.specs.Steps.{HasTold}
use Rattle.law_prefix.specs.Run as steps
use Rattle.law_prefix.specs.Run.{Run, Step, begun, with_client}
use Rattle.kept_model.specs.Nodes.{volume_as}
use Rattle.kept_model.specs.Phases.{asked_of, phase_from, switched_in, is_told, phase_as, switches_of, IsClientOf}
use Rattle.law_records.proofs.Recovered.{mem_among, among_mem}
use Rattle.law_phases.specs.Moving.{OpensAsked, IsMoved}
use Rattle.law_phases.proofs.Sees.{Sees, sees_same}
use Rattle.law_phases.proofs.Still.{SameSessions, AreStill, AreCalm, still_same, still_calm, calm_phase, calm_opens, calm_stages}
use Rattle.law_phases.proofs.Acking.{one_step}

-- all but the client, and who counts, is as before
pub record Only (w x : World) : Type 0 where
  pub images : x.images ≡ w.images
  pub counts : x.counts ≡ w.counts
  pub fresh : x.fresh ≡ w.fresh
  pub votes : x.votes ≡ w.votes
  pub claims : x.claims ≡ w.claims
  pub staged : x.staged ≡ w.staged
  pub switched : x.switched ≡ w.switched
  pub replies : x.replies ≡ w.replies

-- a phase in which nothing is staged
abbrev pub IsPlain : Phase → Type 0
IsPlain Serving = Unit {0}
IsPlain Closed = Unit {0}
IsPlain (Gathering e) = Unit {0}
IsPlain (Fetching e g) = Unit {0}
IsPlain (Staged e) = ⊥

plain_from : (told : Bool) (phase : Phase) → IsPlain phase → phase_from told phase ≡ phase_from true phase
plain_from told Serving plain = refl
plain_from told Closed plain = refl
plain_from told (Gathering e) plain = refl
plain_from told (Fetching e g) plain = refl
plain_from told (Staged e) plain = absurd plain

module _ (shape : Shape) where
  plain_none : (history : List Past) (phase : Phase) → IsPlain phase → switched_in shape history phase ≡ []
  plain_none history Serving plain = refl
  plain_none history Closed plain = refl
  plain_none history (Gathering e) plain = refl
  plain_none history (Fetching e g) plain = refl
  plain_none history (Staged e) plain = absurd plain

  pub switches_more : (p : Past) (history : List Past) (phase : Phase) → phase_of (p ∷ history) ≡ phase
      → switches_of shape (p ∷ history) ≡ switched_in shape (p ∷ history) phase ++ switches_of shape history
  unfolding switches_of
  switches_more p history phase is = ap (λ ph. switched_in shape (p ∷ history) ph ++ switches_of shape history) is

  pub phase_now : (history : List Past) (phase : Phase) → phase_of history ≡ phase → phase_as shape history ≡ phase_from (is_told shape history phase) phase
  phase_now history phase is = ap (λ ph. phase_from (is_told shape history ph) ph) is

  -- a session that every node has staged is among those that are switched to
  pub told_listed : (history : List Past) (e : ℕ) → phase_of history ≡ Staged e → all_staged shape e (news_since stages history) ≡ true → Mem e (switches_of shape history)
  unfolding phase_of
  told_listed [] e is told = absurd (cc)
  told_listed (p ∷ history) e is told =
      let here : switched_in shape (p ∷ history) (Staged e) ≡ e ∷ [] = cond-true (all_staged shape e (news_since stages (p ∷ history))) (e ∷ []) [] told in
      among_mem e (switches_of shape (p ∷ history))
      (subst (IsAmong e) (sym (switches_more p history (Staged e) is))
      (among_left e (switched_in shape (p ∷ history) (Staged e)) (switches_of shape history) (subst (IsAmong e) (sym here) (inl refl))))

-- ---- steps of a history

pub asked_same : (p : Past) (history : List Past) → begins p ≡ false → asked_of (p ∷ history) ≡ asked_of history
unfolding last_begun
asked_same p history none = ap (λ o. unwrap_or o 1) (cond-false (begins p) (session_asked p.news) (last_begun history) none)

pub asked_new : (p : Past) (history : List Past) (e : ℕ) → begins p ≡ true → session_asked p.news ≡ Some e → asked_of (p ∷ history) ≡ e
unfolding last_begun
asked_new p history e some is = ap (λ o. unwrap_or o 1) (cond-true (begins p) (session_asked p.news) (last_begun history) some ∙ is)

pub stages_none : (p : Past) (history : List Past) → stages p ≡ false → news_since stages (p ∷ history) ≡ p.news ∷ news_since stages history
unfolding since
stages_none p history none = ap (λ l. map (λ (q : Past). q.news) l) (cond-false (stages p) [] (p ∷ since stages history) none)

pub stages_some : (p : Past) (history : List Past) → stages p ≡ true → news_since stages (p ∷ history) ≡ []
unfolding since
stages_some p history some = ap (λ l. map (λ (q : Past). q.news) l) (cond-true (stages p) [] (p ∷ since stages history) some)

pub phase_then : (p : Past) (history : List Past) (phase : Phase) → phase_by_news (refuses p) p.news (phase_of history) ≡ phase → AreCalm p.lines → phase_of (p ∷ history) ≡ phase
unfolding phase_of
phase_then p history phase is calm = calm_phase p.lines (phase_by_news (refuses p) p.news (phase_of history)) calm ∙ is

pub opens_same : (p : Past) (history : List Past) (phase : Phase) (asked : ℕ) → phase_of (p ∷ history) ≡ phase → asked_of (p ∷ history) ≡ asked → OpensAsked phase asked
    → OpensAsked (phase_of (p ∷ history)) (asked_of (p ∷ history))
opens_same p history phase asked at is fits = subst (λ a. OpensAsked (phase_of (p ∷ history)) a) (sym is) (subst (λ ph. OpensAsked ph asked) (sym at) fits)

module _ (shape : Shape) (events : List Event) (history : List Past) (w : World) (client : IsClientOf shape events history w.client) (guarded : Guarded (volume_as shape events) w.counts) where
  abbrev pub v : abstract.Volume
  v = volume_as shape events

  abbrev pub judge : Judge
  judge = judge_of shape events history

  pub sees_now : Sees shape judge w.client
  sees_now = record {
    knows = record { lists = client.lists; starts = client.starts; there = client.known_there; back = client.known_back };
    served = client.served;
    acked = client.acked;
  }

  module _ (p : Past) (before : p.before ≡ judge) where
    abbrev pub after : Judge
    after = judge_of shape events (p ∷ history)

    -- the client, in a phase in which nothing is staged
    pub plain_client : (phase : Phase) → IsPlain phase → phase_of (p ∷ history) ≡ phase → (c : abstract.Client) → Sees shape after c → c.asked ≡ asked_of (p ∷ history)
        → c.phase ≡ phase_from true phase → c.switches ≡ w.client.switches → IsClientOf shape events (p ∷ history) c
    plain_client phase plain is c sees asked at switches =
        let same : switches_of shape (p ∷ history) ≡ switches_of shape history =
        switches_more shape p history phase is ∙ ap (λ l. l ++ switches_of shape history) (plain_none shape (p ∷ history) phase plain) in
        record {
          lists = sees.knows.lists;
          starts = sees.knows.starts;
          known_there = sees.knows.there;
          known_back = sees.knows.back;
          served = sees.served;
          acked = sees.acked;
          asked = asked;
          phase = at ∙ (sym (plain_from (is_told shape (p ∷ history) phase) phase plain) ∙ sym (phase_now shape (p ∷ history) phase is));
          switched_there = λ e m. subst (λ l. Mem e l) (sym same) (client.switched_there e (subst (λ l. Mem e l) switches m));
          switched_back = λ e m. subst (λ l. Mem e l) (sym switches) (client.switched_back e (subst (λ l. Mem e l) same m));
        }

    -- a world in which nothing else moves
    pub moved_only : opens p ≡ false → begins p ≡ false → (x : World) → Run v w x → Only w x → IsClientOf shape events (p ∷ history) x.client
        → OpensAsked (phase_of (p ∷ history)) (asked_of (p ∷ history)) → IsMoved shape events history p w
    moved_only closed unbegun x run only now opening = record {
      after = x;
      run = run;
      client = now;
      opening = opening;
      images = only.images;
      counts = only.counts ∙ sym (cond-false (opens p) w.fresh w.counts closed);
      fresh = only.fresh ∙ sym (cond-false (begins p) v.honest w.fresh unbegun);
      votes = only.votes;
      claims = only.claims;
      staged = only.staged;
      switched = only.switched;
      replies = only.replies;
    }

    pub only_here : Only w w
    only_here = record { images = refl; counts = refl; fresh = refl; votes = refl; claims = refl; staged = refl; switched = refl; replies = refl }

    -- ---- lines that are still, in a phase that stays

    pub sees_still : AreStill p.lines → Sees shape after w.client
    sees_still still =
        let same : SameSessions p.before after = still_same events p.lines p.before still in
        sees_same shape p.before after w.client same.now same.others same.acked (subst (λ j. Sees shape j w.client) (sym before) sees_now)

    module _ (still : AreStill p.lines) (unbegun : begins p ≡ false) (stays : phase_by_news (refuses p) p.news (phase_of history) ≡ phase_of history)
        (opens_now : OpensAsked (phase_of history) (asked_of history)) where
      still_phase : phase_of (p ∷ history) ≡ phase_of history
      still_phase = phase_then p history (phase_of history) stays (still_calm p.lines still)

      still_opens : OpensAsked (phase_of (p ∷ history)) (asked_of (p ∷ history))
      still_opens = opens_same p history (phase_of history) (asked_of history) still_phase (asked_same p history unbegun) opens_now

      pub still_plain : (phase : Phase) → phase_of history ≡ phase → IsPlain phase → IsMoved shape events history p w
      still_plain phase is plain =
          moved_only (calm_opens p.lines (still_calm p.lines still)) unbegun w (begun w guarded) only_here
          (plain_client phase plain (still_phase ∙ is) w.client (sees_still still) (client.asked ∙ sym (asked_same p history unbegun))
          (client.phase ∙ (phase_now shape history phase is ∙ plain_from (is_told shape history phase) phase plain)) refl)
          still_opens

      -- a session is staged, and with this step every node may have told so
      pub still_staged : (e : ℕ) → phase_of history ≡ Staged e → w.client.asked ≡ e
          → (all_staged shape e (p.news ∷ news_since stages history) ≡ true → (r : ℕ) → v.honest r ≡ true → HasTold w.staged r e)
          → (all_staged shape e (news_since stages history) ≡ true → all_staged shape e (p.news ∷ news_since stages history) ≡ true) → IsMoved shape events history p w
      still_staged e is opening heard more =
          by (all_staged shape e (news_since stages history)) refl (all_staged shape e (p.news ∷ news_since stages history)) refl
        where
          staged_now : phase_of (p ∷ history) ≡ Staged e
          staged_now = still_phase ∙ is

          news : news_since stages (p ∷ history) ≡ p.news ∷ news_since stages history
          news = stages_none p history (calm_stages p.lines (still_calm p.lines still))

          was : w.client.phase ≡ (if all_staged shape e (news_since stages history) then abstract.Switching else abstract.Staging)
          was = client.phase ∙ phase_now shape history (Staged e) is

          now : phase_as shape (p ∷ history) ≡ (if all_staged shape e (p.news ∷ news_since stages history) then abstract.Switching else abstract.Staging)
          now = phase_now shape (p ∷ history) (Staged e) staged_now ∙ ap (λ l. if all_staged shape e l then abstract.Switching else abstract.Staging) news

          listed : switches_of shape (p ∷ history) ≡ (if all_staged shape e (p.news ∷ news_since stages history) then e ∷ [] else []) ++ switches_of shape history
          listed = switches_more shape p history (Staged e) staged_now ∙ ap (λ l. (if all_staged shape e l then e ∷ [] else []) ++ switches_of shape history) news

          client_with : (c : abstract.Client) → Sees shape after c → c.asked ≡ w.client.asked → c.phase ≡ phase_as shape (p ∷ history)
              → ((k : ℕ) → Mem k c.switches → Mem k (switches_of shape (p ∷ history))) → ((k : ℕ) → Mem k (switches_of shape (p ∷ history)) → Mem k c.switches)
              → IsClientOf shape events (p ∷ history) c
          client_with c sees asked at there back = record {
            lists = sees.knows.lists;
            starts = sees.knows.starts;
            known_there = sees.knows.there;
            known_back = sees.knows.back;
            served = sees.served;
            acked = sees.acked;
            asked = asked ∙ (client.asked ∙ sym (asked_same p history unbegun));
            phase = at;
            switched_there = there;
            switched_back = back;
          }

          -- the same sessions are switched to
          stays_there : (k : ℕ) → Mem k w.client.switches → Mem k (switches_of shape (p ∷ history))
          stays_there k m =
              among_mem k (switches_of shape (p ∷ history)) (subst (IsAmong k) (sym listed)
              (among_right k (if all_staged shape e (p.news ∷ news_since stages history) then e ∷ [] else []) (switches_of shape history) (mem_among k (switches_of shape history) (client.switched_there k m))))

          by : (t : Bool) → all_staged shape e (news_since stages history) ≡ t → (u : Bool) → all_staged shape e (p.news ∷ news_since stages history) ≡ u → IsMoved shape events history p w
          by true old u new =
              let sure : all_staged shape e (p.news ∷ news_since stages history) ≡ true = more old in
              moved_only (calm_opens p.lines (still_calm p.lines still)) unbegun w (begun w guarded) only_here
              (client_with w.client (sees_still still) refl
              (was ∙ (ap (λ t. if t then abstract.Switching else abstract.Staging) (old ∙ sym sure) ∙ sym now)) stays_there
              (λ k m. elim (among_either k (e ∷ []) (switches_of shape history)
              (subst (IsAmong k) (listed ∙ ap (λ t. (if t then e ∷ [] else []) ++ switches_of shape history) sure) (mem_among k (switches_of shape (p ∷ history)) m))) [
                | inl (inl here) ↦ client.switched_back k (subst (λ i. Mem i (switches_of shape history)) (sym here) (told_listed shape history e is old))
                | inl (inr none) ↦ absurd none
                | inr before ↦ client.switched_back k (among_mem k (switches_of shape history) before)
              ]))
              still_opens
          by false old false new =
              moved_only (calm_opens p.lines (still_calm p.lines still)) unbegun w (begun w guarded) only_here
              (client_with w.client (sees_still still) refl
              (was ∙ (ap (λ t. if t then abstract.Switching else abstract.Staging) (old ∙ sym new) ∙ sym now)) stays_there
              (λ k m. client.switched_back k (subst (λ l. Mem k l) (listed ∙ ap (λ t. (if t then e ∷ [] else []) ++ switches_of shape history) new) m)))
              still_opens
          by false old true new =
              let staging : w.client.phase ≡ abstract.Staging = was ∙ ap (λ t. if t then abstract.Switching else abstract.Staging) old in
              let told : (r : ℕ) → v.honest r ≡ true → HasTold w.staged r w.client.asked = λ r honest. subst (HasTold w.staged r) (sym opening) (heard new r honest) in
              let x : World = with_client w (record w.client { phase = abstract.Switching; switches = w.client.asked ∷ w.client.switches }) in
              let same : Sees shape after w.client = sees_still still in
              let seen : Sees shape after x.client = record {
                knows = record { lists = same.knows.lists; starts = same.knows.starts; there = same.knows.there; back = same.knows.back };
                served = same.served;
                acked = same.acked;
              } in
              moved_only (calm_opens p.lines (still_calm p.lines still)) unbegun x (one_step v w x guarded guarded (steps.switching w staging told))
              (record { images = refl; counts = refl; fresh = refl; votes = refl; claims = refl; staged = refl; switched = refl; replies = refl })
              (client_with x.client seen refl
              (sym (now ∙ ap (λ t. if t then abstract.Switching else abstract.Staging) new))
              (λ k m. elim m [
                | inl here ↦ among_mem k (switches_of shape (p ∷ history)) (subst (IsAmong k) (sym (listed ∙ ap (λ t. (if t then e ∷ [] else []) ++ switches_of shape history) new)) (inl (here ∙ opening)))
                | inr before ↦ stays_there k before
              ])
              (λ k m. elim (among_either k (e ∷ []) (switches_of shape history)
              (subst (IsAmong k) (listed ∙ ap (λ t. (if t then e ∷ [] else []) ++ switches_of shape history) new) (mem_among k (switches_of shape (p ∷ history)) m))) [
                | inl (inl here) ↦ inl (here ∙ sym opening)
                | inl (inr none) ↦ absurd none
                | inr before ↦ inr (client.switched_back k (among_mem k (switches_of shape history) before))
              ]))
              still_opens
