-- The abstract client's sessions, list and front, and what each line that changes them makes of them.
use Rattle.std.proofs.Common.{◌≡◌, ◌⊎◌, ℕ, ◌+◌, ◌<◌, ◌≤◌, ◌∙◌, Bool, true, false, ◌==◌, cond, if◌then◌else◌, List, [], ◌∷◌, ◌++◌, length, take, Option, None, Some, inl, inr, refl, ap, sym, subst, arith}
use Rattle.std.specs.Prelude.{find, ◌≢◌}
use Rattle.std.specs.List.{AllByRecursion}
use Rattle.std.proofs.lemmas.Bool.{eqb-true, eq-eqb, ne_eqb, cases_eq}
use Rattle.std.proofs.lemmas.Option.{none-some, same_Some}
use Rattle.std.proofs.lemmas.List.{map-append, take-map}
use Rattle.salus_types.specs.Volume.{Shape, regions}
use Rattle.schedule_text.specs.declared.schedule.Event.{Event}
use Rattle.printed_lines.specs.declared.line.Line.TheVariants as line
use Rattle.volume_model.specs.Contents.{Batch}
use Rattle.volume_model.specs.Parts.{Session, touched_by}
use Rattle.salus_model.specs.Judge.{Judge, known_at, begun_from, opened_as, event_at, batch_of, judged, IsPrefixOf}
use Rattle.law_lemmas.proofs.Growing.{extended}
use Rattle.law_lemmas.proofs.Owned.{known-session}
use Rattle.law_lemmas.proofs.Settled.{now-known, stage-grows, open-at}
use Rattle.law_prefix.specs.Numbers.{Mem, touches}
use Rattle.law_prefix.specs.World.{Volume, leader}
use Rattle.law_prefix.specs.World as abstract
use Rattle.law_prefix.specs.Steps.{Submits, Stages}
use Rattle.law_prefix.specs.Run.{staged_client}
use Rattle.kept_model.specs.Batches.{touching, list_of, start_of, list_at, start_at}
use Rattle.kept_model.specs.Nodes.{volume_as}
use Rattle.kept_model.specs.Phases.{IsKnown}
use Rattle.law_records.specs.Sessions.{TouchesSome}
use Rattle.law_records.proofs.Numbers.{length-touching}
use Rattle.law_records.proofs.Leaders.{leader_inside, leader_led}

-- it knows the judge's sessions
pub record Knows (shape : Shape) (judge : Judge) (c : abstract.Client) : Type 0 where
  pub lists : (e : ℕ) → c.lists e ≡ list_at shape judge e
  pub starts : (e : ℕ) → c.starts e ≡ start_at judge e
  pub there : (e : ℕ) → Mem e c.known → IsKnown judge e
  pub back : (e : ℕ) → IsKnown judge e → Mem e c.known

-- and serves the same one, with the same front
pub record Sees (shape : Shape) (judge : Judge) (c : abstract.Client) : Type 0 where
  pub knows : Knows shape judge c
  pub served : c.served ≡ judge.now.session
  pub acked : c.acked ≡ judge.acked

pub known_same : (a b : Judge) → b.now ≡ a.now → b.others ≡ a.others → (e : ℕ) → known_at b e ≡ known_at a e
known_same a b now others e =
    ap (λ n. cond (n.session == e) (Some n) (find (λ (k : Session). k.session == e) b.others)) now
    ∙ ap (λ os. cond (a.now.session == e) (Some a.now) (find (λ (k : Session). k.session == e) os)) others

is_known-same : (a b : Judge) → ((e : ℕ) → known_at b e ≡ known_at a e) → (e : ℕ) → IsKnown a e → IsKnown b e
is_known-same a b same e (inl blank) = inl blank
is_known-same a b same e (inr known) = inr (known.0, same e ∙ known.1)

pub knows_same : (shape : Shape) (a b : Judge) (c : abstract.Client) → ((e : ℕ) → known_at b e ≡ known_at a e) → Knows shape a c → Knows shape b c
knows_same shape a b c same knows = record {
  lists = λ e. knows.lists e ∙ sym (ap (list_of shape) (same e));
  starts = λ e. knows.starts e ∙ sym (ap start_of (same e));
  there = λ e m. is_known-same a b same e (knows.there e m);
  back = λ e known. knows.back e (is_known-same b a (λ k. sym (same k)) e known);
}

pub sees_same : (shape : Shape) (a b : Judge) (c : abstract.Client) → b.now ≡ a.now → b.others ≡ a.others → b.acked ≡ a.acked → Sees shape a c → Sees shape b c
sees_same shape a b c now others acked sees = record {
  knows = knows_same shape a b c (known_same a b now others) sees.knows;
  served = sees.served ∙ sym (ap (λ (k : Session). k.session) now);
  acked = sees.acked ∙ sym acked;
}

-- of each session that is known some batches are known, and each touches a region
abbrev pub AllSome : Shape → Judge → Type 0
AllSome shape judge = (known : Session) (e : ℕ) → known_at judge e ≡ Some known → AllByRecursion (TouchesSome shape) known.list

module _ (shape : Shape) (many : 0 < regions shape) (judge : Judge) (some : AllSome shape judge) where
  pub inside_all : (e i : ℕ) → leader (list_at shape judge e) i < regions shape
  unfolding leader
  inside_all e i = by (known_at judge e) refl where
    by : (o : Option Session) → known_at judge e ≡ o → leader (list_of shape o) i < regions shape
    by None at = many
    by (Some known) at = leader_inside shape known.list i many (some known e at)

  pub led_all : (e i : ℕ) → i < length (list_at shape judge e) → touches (list_at shape judge e) i (leader (list_at shape judge e) i) ≡ true
  led_all e i within = by (known_at judge e) refl within where
    by : (o : Option Session) → known_at judge e ≡ o → i < length (list_of shape o) → touches (list_of shape o) i (leader (list_of shape o) i) ≡ true
    by None at low = absurd (omega arith)
    by (Some known) at low =
        let same : length (touching shape known.list) ≡ length known.list = length-touching shape known.list in
        leader_led shape known.list i (omega arith) (some known e at)

-- ---- a batch is submitted

module _ (shape : Shape) (events : List Event) (judge : Judge) (v s : ℕ) (batch : Batch) (asked : batch_of (event_at events v) ≡ batch ∷ []) where
  abbrev pub submit_after : Judge
  submit_after = judged events judge (line.Submit v s)

  pub submit-at : (e : ℕ) → known_at submit_after e ≡ cond (judge.now.session == e) (Some (extended judge.now (batch ∷ []))) (find (λ (k : Session). k.session == e) judge.others)
  submit-at e = ap (λ more. cond (judge.now.session == e) (Some (extended judge.now more)) (find (λ (k : Session). k.session == e) judge.others)) asked

  abbrev pub found_in : ℕ → Option Session
  found_in e = find (λ (k : Session). k.session == e) judge.others

  submit-list : (e : ℕ) (t : Bool) → list_of shape (cond t (Some (extended judge.now (batch ∷ []))) (found_in e))
      ≡ (if t then touching shape judge.now.list ++ touched_by shape batch ∷ [] else list_of shape (cond t (Some judge.now) (found_in e)))
  submit-list e true = map-append (λ (b : Batch). touched_by shape b) judge.now.list (batch ∷ [])
  submit-list e false = refl

  submit-start : (e : ℕ) (t : Bool) → start_of (cond t (Some (extended judge.now (batch ∷ []))) (found_in e)) ≡ start_of (cond t (Some judge.now) (found_in e))
  submit-start e true = refl
  submit-start e false = refl

  submit-there : (e : ℕ) (t : Bool) (known : Session) → cond t (Some judge.now) (found_in e) ≡ Some known
      → (more : Session) × (cond t (Some (extended judge.now (batch ∷ []))) (found_in e) ≡ Some more)
  submit-there e true known at = (extended judge.now (batch ∷ []), refl)
  submit-there e false known at = (known, at)

  submit-back : (e : ℕ) (t : Bool) (known : Session) → cond t (Some (extended judge.now (batch ∷ []))) (found_in e) ≡ Some known
      → (less : Session) × (cond t (Some judge.now) (found_in e) ≡ Some less)
  submit-back e true known at = (judge.now, refl)
  submit-back e false known at = (known, at)

  module _ (c : abstract.Client) (sees : Sees shape judge c) where
    abbrev pub submit_client : abstract.Client
    submit_client = record c { lists = list_at shape submit_after }

    pub submit-sees : Sees shape submit_after submit_client
    submit-sees = record {
      knows = record {
        lists = λ e. refl;
        starts = λ e. sees.knows.starts e ∙ sym (ap start_of (submit-at e) ∙ submit-start e (judge.now.session == e));
        there = λ e m. known_there e (sees.knows.there e m);
        back = λ e known. sees.knows.back e (known_back e known);
      };
      served = sees.served;
      acked = sees.acked;
    }
      where
        known_there : (e : ℕ) → IsKnown judge e → IsKnown submit_after e
        known_there e (inl blank) = inl blank
        known_there e (inr known) = let more = submit-there e (judge.now.session == e) known.0 known.1 in inr (more.0, submit-at e ∙ more.1)

        known_back : (e : ℕ) → IsKnown submit_after e → IsKnown judge e
        known_back e (inl blank) = inl blank
        known_back e (inr known) = inr (submit-back e (judge.now.session == e) known.0 (sym (submit-at e) ∙ known.1))

    pub submit-submits : (events' : List Event) → 0 < regions shape → AllSome shape submit_after → c.phase ≡ abstract.Serving → length judge.now.list < judge.acked + 16
        → Submits (volume_as shape events') c submit_client
    submit-submits events' many some serving room =
        let here : c.lists c.served ≡ touching shape judge.now.list = sees.knows.lists c.served ∙ (ap (list_at shape judge) sees.served ∙ ap (list_of shape) (now-known judge)) in
        let there : list_at shape submit_after c.served ≡ touching shape judge.now.list ++ touched_by shape batch ∷ [] =
        ap (list_of shape) (submit-at c.served)
        ∙ (submit-list c.served (judge.now.session == c.served)
        ∙ ap (λ t. if t then touching shape judge.now.list ++ touched_by shape batch ∷ [] else list_of shape (cond t (Some judge.now) (found_in c.served)))
        (eq-eqb judge.now.session c.served (sym sees.served))) in
        let many_here : length (touching shape judge.now.list) ≡ length judge.now.list = length-touching shape judge.now.list in
        let length_here : length (c.lists c.served) ≡ length judge.now.list = ap length here ∙ many_here in
        let front : c.acked ≡ judge.acked = sees.acked in
        record {
          batch = touched_by shape batch;
          serving = serving;
          room = omega arith;
          others = λ e. other e (cases_eq judge.now.session e);
          here = there ∙ ap (λ l. l ++ touched_by shape batch ∷ []) (sym here);
          inside = λ e i. inside_all shape many submit_after some e i;
          led = λ e i within. led_all shape many submit_after some e i within;
        }
      where
        other : (e : ℕ) → (judge.now.session ≡ e) ⊎ (judge.now.session ≢ e) → (list_at shape submit_after e ≡ c.lists e) ⊎ (e ≡ c.served) × (list_at shape submit_after e ≡ c.lists e ++ touched_by shape batch ∷ [])
        other e (inl now) =
            let t : (judge.now.session == e) ≡ true = eq-eqb judge.now.session e now in
            inr (
              sym now ∙ sym sees.served,
              ap (list_of shape) (submit-at e)
                  ∙ (submit-list e (judge.now.session == e)
                  ∙ (ap (λ t. if t then touching shape judge.now.list ++ touched_by shape batch ∷ [] else list_of shape (cond t (Some judge.now) (found_in e))) t
                  ∙ ap (λ l. l ++ touched_by shape batch ∷ []) (sym (sees.knows.lists e ∙ (ap (list_at shape judge) (sym now) ∙ ap (list_of shape) (now-known judge)))))),
            )
        other e (inr apart) =
            let t : (judge.now.session == e) ≡ false = ne_eqb judge.now.session e apart in
            inl (ap (list_of shape) (submit-at e)
            ∙ (submit-list e (judge.now.session == e)
            ∙ (ap (λ t. if t then touching shape judge.now.list ++ touched_by shape batch ∷ [] else list_of shape (cond t (Some judge.now) (found_in e))) t
            ∙ (sym (ap (λ t. list_of shape (cond t (Some judge.now) (found_in e))) t) ∙ sym (sees.knows.lists e)))))

-- ---- a session is staged

module _ (shape : Shape) (events : List Event) (judge : Judge) (e f s : ℕ) (legal : IsPrefixOf events judge e f s) where
  abbrev pub stage_after : Judge
  stage_after = judged events judge (line.Stage e f s)

  abbrev pub new_session : Session
  new_session = record { session = e; base = s; origin = legal.from.origin; list = take s legal.from.list }

  abbrev found_then : ℕ → Option Session
  found_then k = find (λ (x : Session). x.session == k) judge.others

  stage_at : (k : ℕ) → known_at stage_after k ≡ cond (judge.now.session == k) (Some judge.now) (cond (e == k) (Some new_session) (found_then k))
  stage_at k = ap (λ o. cond (judge.now.session == k) (Some judge.now) (find (λ (x : Session). x.session == k) (begun_from judge e s o))) legal.known

  stage_new : (t : Bool) → (judge.now.session == e) ≡ t → cond t (Some judge.now) (cond (e == e) (Some new_session) (found_then e)) ≡ Some new_session
  stage_new true is =
      let now : known_at judge e ≡ Some judge.now = ap (λ t. cond t (Some judge.now) (found_then e)) is in
      absurd (none-some judge.now (sym legal.fresh ∙ now))
  stage_new false is = ap (λ t. cond t (Some new_session) (found_then e)) (eq-eqb e e refl)

  stage_either : (k : ℕ) (known : Session) (t u : Bool) → (judge.now.session == k) ≡ t → (e == k) ≡ u → cond t (Some judge.now) (cond u (Some new_session) (found_then k)) ≡ Some known
      → (known_at judge k ≡ Some known) ⊎ ((e ≡ k) × (known ≡ new_session))
  stage_either k known true u is same at = inl (ap (λ t. cond t (Some judge.now) (found_then k)) is ∙ at)
  stage_either k known false true is same at = inr (eqb-true e k same, sym (same_Some new_session known at))
  stage_either k known false false is same at = inl (ap (λ t. cond t (Some judge.now) (found_then k)) is ∙ at)

  -- each session that is known then was known before, or it is that one
  pub stage_comes : (known : Session) (k : ℕ) → known_at stage_after k ≡ Some known → (known_at judge k ≡ Some known) ⊎ ((e ≡ k) × (known ≡ new_session))
  stage_comes known k at = stage_either k known (judge.now.session == k) (e == k) refl refl (sym (stage_at k) ∙ at)

  pub stage-new : known_at stage_after e ≡ Some new_session
  stage-new = stage_at e ∙ stage_new (judge.now.session == e) refl

  stage-old : (k : ℕ) (known : Session) → known_at judge k ≡ Some known → known_at stage_after k ≡ Some known
  stage-old k known at = old_or_new (stage-grows events judge e f s legal known k at) where
    old_or_new : (more : List Batch) × (known_at stage_after k ≡ Some (extended known more)) → known_at stage_after k ≡ Some known
    old_or_new grown = elim (stage_comes (extended known grown.0) k grown.1) [
      | inl old ↦ grown.1 ∙ (sym old ∙ at)
      | inr new ↦ absurd (none-some known (sym (subst (λ i. known_at judge i ≡ None) new.0 legal.fresh) ∙ at))
    ]

  module _ (c : abstract.Client) (sees : Sees shape judge c) (asked : c.asked ≡ e) where
    abbrev pub stage_client : abstract.Client
    stage_client = staged_client c (list_at shape stage_after) (start_at stage_after)

    pub stage-sees : Sees shape stage_after stage_client
    stage-sees = record {
      knows = record {
        lists = λ k. refl;
        starts = λ k. refl;
        there = λ k m. known_there k m;
        back = λ k known. known_back k known;
      };
      served = sees.served;
      acked = sees.acked;
    }
      where
        of_old : (k : ℕ) → IsKnown judge k → IsKnown stage_after k
        of_old k (inl blank) = inl blank
        of_old k (inr known) = inr (known.0, stage-old k known.0 known.1)

        known_there : (k : ℕ) → (k ≡ c.asked) ⊎ Mem k c.known → IsKnown stage_after k
        known_there k (inl new) = inr (new_session, ap (known_at stage_after) (new ∙ asked) ∙ stage-new)
        known_there k (inr old) = of_old k (sees.knows.there k old)

        known_back : (k : ℕ) → IsKnown stage_after k → (k ≡ c.asked) ⊎ Mem k c.known
        known_back k (inl blank) = inr (sees.knows.back k (inl blank))
        known_back k (inr known) = elim (stage_comes known.0 k known.1) [
          | inl old ↦ inr (sees.knows.back k (inr (known.0, old)))
          | inr new ↦ inl (sym new.0 ∙ sym asked)
        ]

    pub stage-stages : (events' : List Event) → 0 < regions shape → AllSome shape stage_after → (c.phase ≡ abstract.Gathering) ⊎ (c.phase ≡ abstract.Fetching)
        → known_at judge 0 ≡ None → e ≢ 0 → Stages (volume_as shape events') c stage_client f s
    stage-stages events' many some early blank positive =
        let from : c.lists f ≡ touching shape legal.from.list = sees.knows.lists f ∙ ap (list_of shape) legal.known in
        let long : length (touching shape legal.from.list) ≡ length legal.from.list = length-touching shape legal.from.list in
        let within : s ≤ length legal.from.list = legal.within in
        let same : length (c.lists f) ≡ length legal.from.list = ap length from ∙ long in
        record {
          early = early;
          known = sees.knows.back f (inr (legal.from, legal.known));
          within = omega arith;
          others = λ k m. other k (sees.knows.there k m);
          list = ap (list_at shape stage_after) asked
              ∙ (ap (list_of shape) stage-new ∙ (sym (take-map (λ (b : Batch). touched_by shape b) s legal.from.list) ∙ ap (take s) (sym from)));
          start = ap (start_at stage_after) asked ∙ ap start_of stage-new;
          inside = λ k i. inside_all shape many stage_after some k i;
          led = λ k i low. led_all shape many stage_after some k i low;
        }
      where
        none_new : (k : ℕ) → k ≡ 0 → known_at stage_after k ≡ None
        none_new k zero_is = by (known_at stage_after k) refl where
          by : (o : Option Session) → known_at stage_after k ≡ o → known_at stage_after k ≡ None
          by None at = at
          by (Some known) at = elim (stage_comes known k at) [
            | inl old ↦ absurd (none-some known (sym (ap (known_at judge) zero_is ∙ blank) ∙ old))
            | inr new ↦ absurd (positive (new.0 ∙ zero_is))
          ]

        other : (k : ℕ) → IsKnown judge k → (list_at shape stage_after k ≡ c.lists k) × (start_at stage_after k ≡ c.starts k)
        other k (inl zero_is) = (
          ap (list_of shape) (none_new k zero_is) ∙ sym (sees.knows.lists k ∙ ap (list_of shape) (ap (known_at judge) zero_is ∙ blank)),
          ap start_of (none_new k zero_is) ∙ sym (sees.knows.starts k ∙ ap start_of (ap (known_at judge) zero_is ∙ blank)),
        )
        other k (inr known) = (
          ap (list_of shape) (stage-old k known.0 known.1) ∙ sym (sees.knows.lists k ∙ ap (list_of shape) known.1),
          ap start_of (stage-old k known.0 known.1) ∙ sym (sees.knows.starts k ∙ ap start_of known.1),
        )

-- ---- a session is opened

module _ (shape : Shape) (events : List Event) (judge : Judge) (e : ℕ) (known : Session) (at : known_at judge e ≡ Some known) where
  abbrev pub open_after : Judge
  open_after = judged events judge (line.Open e)

  opened_now : open_after.now ≡ known
  opened_now = ap (λ o. (opened_as judge e o).now) at

  opened_acked : open_after.acked ≡ known.base
  opened_acked = ap (λ o. (opened_as judge e o).acked) at

  pub open-sees : (c : abstract.Client) → Sees shape judge c → c.asked ≡ e → Sees shape open_after (record c { served = c.asked; acked = c.starts c.asked; phase = abstract.Serving })
  open-sees c sees asked =
      let knows : Knows shape open_after c = knows_same shape judge open_after c (open-at judge e) sees.knows in
      record {
        knows = record { lists = knows.lists; starts = knows.starts; there = knows.there; back = knows.back };
        served = asked ∙ (sym (known-session judge e known at) ∙ sym (ap (λ (k : Session). k.session) opened_now));
        acked = sees.knows.starts c.asked ∙ (ap (start_at judge) asked ∙ (ap start_of at ∙ sym opened_acked));
      }
