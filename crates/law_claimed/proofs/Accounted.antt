-- Along a run without faults: each request accepted since the client's last crash is done, or the client has it.
use Rattle.std.proofs.Common.{◌≡◌, ◌∙◌, ◌⊎◌, inl, inr, ⊎_elim, ℕ, ◌≤◌, ◌==◌, ◌&&◌, ◌||◌, nat_le, Bool, true, false, if◌then◌else◌, List, [], ◌∷◌, Option, None, Some, refl, sym, ap, subst, arith, le-leb}
use Rattle.std.specs.List.{list_any, AllByRecursion}
use Rattle.std.proofs.lemmas.Bool.{true≢false, eq-eqb}
use Rattle.salus_types.specs.Volume.{Shape}
use Rattle.schedule_text.specs.declared.schedule.Volume.{Volume}
use Rattle.schedule_text.specs.declared.schedule.Event.{Event}
use Rattle.printed_lines.specs.declared.line.Line.{Line}
use Rattle.printed_lines.specs.declared.line.RequestRefusal.{RequestRefusal}
use Rattle.salus_model.specs.declared.trace.Request.{Request}
use Rattle.salus_model.specs.declared.trace.Request.TheVariants as request
use Rattle.salus_model.specs.declared.trace.TraceStep.{TraceStep}
use Rattle.merkle_region.specs.Tree.{IsAmong}
use Rattle.merkle_region.proofs.Membership.{among_either}
use Rattle.salus_model.specs.Judge.{Judge, Submitted, judged_all}
use Rattle.salus_model.specs.Following.{Posted}
use Rattle.salus_model.specs.Hearing.{News, Asks, Says, Crashes, Silence, Past, news_of, judge_of, since, is_refused_line, refuses}
use Rattle.salus_model.specs.Waiting.{Taken, joins, joining, taken_in, all_taken, is_write}
use Rattle.salus_model.specs.Due.{past_of}
use Rattle.salus_model.specs.Complete.{is_crash, crashes, accepted, gives_block, has_block, is_acknowledged, was_acknowledged, is_done}
use Rattle.client_rules.specs.State.{Serving, Client, Closed, Serves, Gathers, Fetches, Stages, Switches, Told}
use Rattle.client_rules.specs.Serving.{refusal_here, decided, requested_here}
use Rattle.client_rules.specs.Rules.{requested_away, requested, told}
use Rattle.list_lemmas.proofs.Members.{among_all, any_from}
use Rattle.list_lemmas.proofs.Tests.{by_test, or_true}
use Rattle.law_answers.proofs.Asks.{both_true}
use Rattle.law_reads.specs.Reading.{HaveOwnNumbers}
use Rattle.law_reads.proofs.Away.{IsAway}
use Rattle.law_claimed.specs.Accounting.{has_fault, IsEndedBy, HasBatch, IsKept}
use Rattle.law_claimed.proofs.Batches.{answered_stays, answered_then}
use Rattle.law_claimed.proofs.Tables.{IsWithin, IsHeld, Goes, told_moves, asked_goes}
use Rattle.law_claimed.proofs.Begun.{KnowsNext, away_moves}

-- the client has it, if it serves
abbrev pub IsHeldBy : Client → List Submitted → Taken → Type 0
IsHeldBy (Serves c) batches r = IsKept c batches r
IsHeldBy Closed batches r = ⊥
IsHeldBy (Gathers g) batches r = ⊥
IsHeldBy (Fetches f) batches r = ⊥
IsHeldBy (Stages b) batches r = ⊥
IsHeldBy (Switches b) batches r = ⊥

-- ---- who asked

-- the news is that request, and it is one that joins
pub record IsAsked (v : ℕ) (x : News) (r : Taken) : Type 0 where
  pub q : Request
  pub news : x ≡ Asks q
  pub joins_it : joins q ≡ true
  pub is : r ≡ record { event = v; request = q }

joining_was : (v : ℕ) (x : News) (r : Taken) → IsAmong r (joining v x) → IsAsked v x r
joining_was v (Asks q) r among =
    by_test (λ (w : Bool). IsAmong r (if w then record { event = v; request = q } ∷ [] else []) → IsAsked v (Asks q) r) (joins q)
    (λ it some. ⊎_elim (λ (is : r ≡ record { event = v; request = q }). record { q = q; news = refl; joins_it = it; is = is }) (λ none. absurd none) some)
    (λ _ none. absurd none) among
joining_was v (Says name m) r among = absurd among
joining_was v Crashes r among = absurd among
joining_was v Silence r among = absurd among

pub taken_was : (p : Past) (r : Taken) → IsAmong r (taken_in p) → (refuses p ≡ false) × IsAsked p.step.event p.news r
taken_was p r among =
    by_test (λ (w : Bool). IsAmong r (if w then [] else joining p.step.event p.news) → (w ≡ false) × IsAsked p.step.event p.news r) (refuses p)
    (λ _ none. absurd none) (λ _ some. (refl, joining_was p.step.event p.news r some)) among

-- accepted in the step or before it, if the client doesn't crash in it
pub accepted_was : (p : Past) (history : List Past) (r : Taken) → IsAmong r (accepted (p ∷ history))
    → (is_crash p.news ≡ false) × (IsAmong r (accepted history) ⊎ IsAmong r (taken_in p))
unfolding since all_taken
accepted_was p history r among =
    by_test (λ (w : Bool). IsAmong r (all_taken (if w then [] else p ∷ since crashes history)) → (w ≡ false) × (IsAmong r (all_taken (since crashes history)) ⊎ IsAmong r (taken_in p))) (crashes p)
    (λ _ none. absurd none) (λ _ some. (refl, among_either r (all_taken (since crashes history)) (taken_in p) some)) among

-- a client that serves refuses by a line, and so does any other
refused_line : (volume : Volume) (c : Serving) (v : ℕ) (q : Request) (x : Option RequestRefusal) → joins q ≡ true → list_any is_refused_line (decided volume.geometry c v q x).lines ≡ false → x ≡ None
refused_line volume c v q None it none = refl
refused_line volume c v q (Some cause) it none = absurd (true≢false none)

pub serving_takes : (volume : Volume) (c : Serving) (v : ℕ) (q : Request) → joins q ≡ true → list_any is_refused_line (told volume (Serves c) v (Asks q)).lines ≡ false → refusal_here volume.geometry c q ≡ None
unfolding told requested requested_here
serving_takes volume c v q it none = refused_line volume c v q (refusal_here volume.geometry c q) it none

requested_refuses : (volume : Volume) (c : Client) (v : ℕ) (q : Request) → joins q ≡ true → list_any is_refused_line (requested_away volume.geometry c v q).lines ≡ true
requested_refuses volume c v (request.Write batch) it = refl
requested_refuses volume c v (request.Read b) it = refl
requested_refuses volume c v request.Barrier it = refl
requested_refuses volume c v (request.Reassign e g) it = refl
requested_refuses volume c v (request.Restart e) it = absurd (true≢false (sym it))

pub away_refuses : (volume : Volume) (c : Client) → IsAway c → (v : ℕ) (q : Request) → joins q ≡ true → list_any is_refused_line (told volume c v (Asks q)).lines ≡ true
unfolding told requested
away_refuses volume (Serves c) away v q it = absurd away
away_refuses volume Closed away v q it = requested_refuses volume Closed v q it
away_refuses volume (Gathers g) away v q it = requested_refuses volume (Gathers g) v q it
away_refuses volume (Fetches f) away v q it = requested_refuses volume (Fetches f) v q it
away_refuses volume (Stages b) away v q it = requested_refuses volume (Stages b) v q it
away_refuses volume (Switches b) away v q it = requested_refuses volume (Switches b) v q it

-- ---- a batch that is acknowledged

acknowledged_was : (shape : Shape) (events : List Event) (v : ℕ) (history : List Past) → is_acknowledged v (judge_of shape events history) ≡ true → was_acknowledged shape events v history ≡ true
unfolding was_acknowledged
acknowledged_was shape events v [] is = is
acknowledged_was shape events v (p ∷ history) is = ap (λ (w : Bool). w || was_acknowledged shape events v history) is

-- where no batch is above the acknowledged front
pub batch_done : (shape : Shape) (events : List Event) (history : List Past) (c : Serving) (v : ℕ) (q : Request) → c.last ≤ (judge_of shape events history).acked
    → AllByRecursion (λ s. s.seq ≤ c.last) (judge_of shape events history).submits → HasBatch (judge_of shape events history).submits v q → is_done shape events history v q ≡ true
batch_done shape events history c v (request.Write batch) all within has =
    let judge : Judge = judge_of shape events history in
    let low : has.0.seq ≤ c.last = among_all (λ (s : Submitted). s.seq ≤ c.last) judge.submits has.0 has.1 within in
    acknowledged_was shape events v history
    (any_from (λ (s : Submitted). (s.event == v) && nat_le s.seq judge.acked) has.0 judge.submits has.1
    (both_true (has.0.event == v) (nat_le has.0.seq judge.acked) (eq-eqb has.0.event v has.2) (le-leb has.0.seq judge.acked (omega (arith, low, all)))))
batch_done shape events history c v (request.Read b) all within has = absurd has
batch_done shape events history c v request.Barrier all within has = absurd has
batch_done shape events history c v (request.Restart e) all within has = absurd has
batch_done shape events history c v (request.Reassign e g) all within has = absurd has

module _ (volume : Volume) (events : List Event) (posts : List Posted) where
  abbrev shape : Shape
  shape = volume.geometry

  abbrev pub judge_now : List Past → Judge
  judge_now history = judge_of volume.geometry events history

  abbrev Done : List Past → Taken → Type 0
  Done history r = is_done volume.geometry events history r.event r.request ≡ true

  pub record IsAccounted (history : List Past) (c : Client) : Type 0 where
    pub requests : (r : Taken) → IsAmong r (accepted history) → (joins r.request ≡ true) × ((is_done volume.geometry events history r.event r.request ≡ true) ⊎ IsHeldBy c (judge_of volume.geometry events history).submits r)
    pub within : IsWithin c (judge_of volume.geometry events history).submits

  module _ (history : List Past) (t : TraceStep) where
    abbrev p : Past
    p = past_of volume events posts history t

    abbrev judge : Judge
    judge = judge_of volume.geometry events history

    abbrev x : News
    x = news_of posts t

    done_stays : (v : ℕ) (q : Request) → is_done shape events history v q ≡ true → is_done shape events (p ∷ history) v q ≡ true
    unfolding was_acknowledged
    done_stays v (request.Write batch) is = ap (λ (w : Bool). is_acknowledged v (judge_of shape events (p ∷ history)) || w) is ∙ or_true (is_acknowledged v (judge_of shape events (p ∷ history)))
    done_stays v (request.Read b) is = ap (λ (w : Bool). list_any (gives_block v) p.lines || w) is ∙ or_true (list_any (gives_block v) p.lines)
    done_stays v request.Barrier is = answered_stays events v p.lines judge is
    done_stays v (request.Restart e) is = refl
    done_stays v (request.Reassign e g) is = refl

    ended_done : (v : ℕ) (q : Request) → IsEndedBy p.lines v q → is_done shape events (p ∷ history) v q ≡ true
    ended_done v (request.Read b) is = ap (λ (w : Bool). w || has_block v history) is
    ended_done v request.Barrier is = answered_then events v p.lines judge is
    ended_done v (request.Write batch) is = absurd is
    ended_done v (request.Restart e) is = absurd is
    ended_done v (request.Reassign e g) is = absurd is

    -- ---- a client that serves

    module _ (c : Serving) (a : IsAccounted history (Serves c)) (acked : c.acked ≡ judge.acked) (one : HaveOwnNumbers c.reads)
        (heads : (w : Taken) (behind : List Taken) → c.line ≡ w ∷ behind → is_write w.request ≡ true)
        (same : (told volume (Serves c) t.event x).lines ≡ p.lines) (faultless : has_fault p.lines ≡ false) where
      abbrev now : Told
      now = told volume (Serves c) t.event x

      no_fault : has_fault now.lines ≡ false
      no_fault = subst (λ (ls : List Line). has_fault ls ≡ false) (sym same) faultless

      abbrev Next : Taken → Type 0
      Next r = Done (p ∷ history) r ⊎ IsHeldBy now.client (judge_of shape events (p ∷ history)).submits r

      held_next : (d : Client) (batches : List Submitted) (r : Taken) → IsHeld volume events judge c d batches r → Done (p ∷ history) r ⊎ IsHeldBy d batches r
      held_next (Serves d) batches r held = inr held
      held_next (Fetches f) batches r held =
          let all : c.last ≤ c.acked = held.1 in
          inl (done_stays r.event r.request (batch_done shape events history c r.event r.request (omega (arith, all, acked)) a.within held.0))
      held_next Closed batches r held = absurd held
      held_next (Gathers g) batches r held = absurd held
      held_next (Stages b) batches r held = absurd held
      held_next (Switches b) batches r held = absurd held

      gone : (r : Taken) → Goes volume events judge c now (judged_all events judge now.lines).submits r → Next r
      gone r (inl ended) = inl (ended_done r.event r.request (subst (λ (ls : List Line). IsEndedBy ls r.event r.request) same ended))
      gone r (inr held) =
          subst (λ (ls : List Line). Done (p ∷ history) r ⊎ IsHeldBy now.client (judged_all events judge ls).submits r) same (held_next now.client (judged_all events judge now.lines).submits r held)

      gone_new : (q : Request) → x ≡ Asks q → joins q ≡ true → refuses p ≡ false → Goes volume events judge c now (judged_all events judge now.lines).submits (record { event = t.event; request = q })
      gone_new q is it taken =
          let none : refusal_here shape c q ≡ None =
          serving_takes volume c t.event q it (subst (λ (y : News). list_any is_refused_line (told volume (Serves c) t.event y).lines ≡ false) is (ap (λ (ls : List Line). list_any is_refused_line ls) same ∙ taken)) in
          subst (λ (y : News). Goes volume events judge c (told volume (Serves c) t.event y) (judged_all events judge (told volume (Serves c) t.event y).lines).submits (record { event = t.event; request = q }))
          (sym is) (asked_goes volume events judge c one heads t.event q it none)

      -- below the last number
      within_by : (y : News) → has_fault (told volume (Serves c) t.event y).lines ≡ false → IsWithin (told volume (Serves c) t.event y).client (judged_all events judge (told volume (Serves c) t.event y).lines).submits
      unfolding told
      within_by (Asks q) fine = (told_moves volume events judge c one heads t.event (Asks q) refl fine).within a.within
      within_by (Says name m) fine = (told_moves volume events judge c one heads t.event (Says name m) refl fine).within a.within
      within_by Silence fine = (told_moves volume events judge c one heads t.event Silence refl fine).within a.within
      within_by Crashes fine = tt

      request_next : (r : Taken) → (is_crash x ≡ false) × (IsAmong r (accepted history) ⊎ IsAmong r (taken_in p)) → (joins r.request ≡ true) × Next r
      request_next r was = elim was.1 [
        | inl before ↦
            let had = a.requests r before in (
              had.0,
              ⊎_elim (λ (done : Done history r). inl (done_stays r.event r.request done))
                  (λ (kept : IsKept c judge.submits r). gone r ((told_moves volume events judge c one heads t.event x was.0 no_fault).goes r had.0 kept)) had.1,
            )
        | inr new ↦
            let taken = taken_was p r new in
            let asked = taken.1 in
            (ap (λ (y : Taken). joins y.request) asked.is ∙ asked.joins_it, subst (λ (y : Taken). Next y) (sym asked.is) (gone (record { event = t.event; request = asked.q }) (gone_new asked.q asked.news asked.joins_it taken.0)))
      ]

      pub serving_accounted : IsAccounted (p ∷ history) now.client
      serving_accounted = record {
        requests = λ r among. request_next r (accepted_was p history r among);
        within = subst (λ (ls : List Line). IsWithin now.client (judged_all events judge ls).submits) same (within_by x no_fault);
      }

    -- ---- any other client

    module _ (c : Client) (away : IsAway c) (a : IsAccounted history c) (knows : KnowsNext judge c) (same : (told volume c t.event x).lines ≡ p.lines) where
      abbrev then : Told
      then = told volume c t.event x

      none_held : (c : Client) → IsAway c → (batches : List Submitted) (r : Taken) → IsHeldBy c batches r → ⊥
      none_held (Serves c) away batches r held = away
      none_held Closed away batches r held = held
      none_held (Gathers g) away batches r held = held
      none_held (Fetches f) away batches r held = held
      none_held (Stages b) away batches r held = held
      none_held (Switches b) away batches r held = held

      pub none_taken : (r : Taken) → IsAmong r (taken_in p) → ⊥
      none_taken r new =
          let taken = taken_was p r new in
          let asked = taken.1 in
          true≢false (sym (subst (λ (y : News). list_any is_refused_line (told volume c t.event y).lines ≡ true) (sym asked.news) (away_refuses volume c away t.event asked.q asked.joins_it))
          ∙ (ap (λ (ls : List Line). list_any is_refused_line ls) same ∙ taken.0))

      pub away_accounted : IsAccounted (p ∷ history) then.client
      away_accounted = record {
        requests = λ r among. elim (accepted_was p history r among).1 [
          | inl before ↦
              let had = a.requests r before in (
                had.0,
                ⊎_elim (λ (done : Done history r). inl (done_stays r.event r.request done)) (λ (held : IsHeldBy c judge.submits r). absurd (none_held c away judge.submits r held)) had.1,
              )
          | inr new ↦ absurd (none_taken r new)
        ];
        within = subst (λ (ls : List Line). IsWithin then.client (judged_all events judge ls).submits) same (away_moves volume events judge c away knows t.event x);
      }
