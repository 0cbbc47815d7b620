-- The messages by which a client opens a session give the lines due.
use Rattle.std.proofs.Common.{◌≡◌, ℕ, ◌+◌, ◌<◌, ◌≤◌, Bool, true, false, cond, ◌||◌, ◌==◌, ◌∙◌, nat_le, if◌then◌else◌, List, [], ◌∷◌, ◌++◌, map, length, take, drop, Option, Some, refl, ap, sym, subst, arith, eq-eqb, leb-true, length-take, length-drop}
use Rattle.std.specs.Prelude.{find}
use Rattle.std.specs.List.{list_any}
use Rattle.std.proofs.lemmas.List.{take_all}
use Rattle.std.proofs.lemmas.List.FromFn.{get_or-map-range_with_len}
use Rattle.std.proofs.lemmas.List.Folds.{list_any-append}
use Rattle.salus_types.specs.Volume.{Shape, regions}
use Rattle.salus_types.specs.declared.names.NodeName.{NodeName}
use Rattle.schedule_text.specs.declared.schedule.Volume.{Volume}
use Rattle.schedule_text.specs.declared.schedule.Event.{Event}
use Rattle.printed_lines.specs.declared.line.Line.TheVariants as line
use Rattle.salus_model.specs.declared.trace.TraceStep.{TraceStep}
use Rattle.volume_model.specs.Contents.{Batch, fold_batches}
use Rattle.volume_model.specs.Parts.{Session, leader_of, batch_at, last_touch}
use Rattle.salus_model.specs.Judge.{Judge, known_at, begun_from, opened_as, front_from, judged_all, is_among}
use Rattle.salus_model.specs.Hearing.{News, Past, since, news_since, opens, stages, phase_of, Staged, Serving}
use Rattle.volume_model.specs.Groups.{same_node}
use Rattle.salus_model.specs.Waiting.{live, all_taken, left_of}
use Rattle.salus_model.specs.Opening.{says_staged, has_switched}
use Rattle.salus_model.specs.Due.{is_claim}
use Rattle.client_rules.specs.State as state
use Rattle.client_rules.specs.Tables.{claim_of, line_of}
use Rattle.client_rules.specs.Opening.{has_answered, all_answered, with_name, new_serving, staged_from}
use Rattle.list_lemmas.proofs.Tests.{by_test, unequal_up}
use Rattle.law_lemmas.proofs.Named.{one-node}
use Rattle.law_lines.specs.Mirror.{Between, IsBefore, IsInOrder, MirrorsLine}
use Rattle.law_lines.specs.Mirrors.{MirrorsKnown, Holds, AsDue, OpensBelow}
use Rattle.law_lines.proofs.Histories.{past}
use Rattle.law_lines.proofs.Away.{IsAway, before-away}

-- the volume has nodes
abbrev pub HasNodes : Shape → Type 0
HasNodes shape = all_answered shape [] ≡ false

-- a name more
pub with-name : (name other : NodeName) (names : List NodeName) → has_answered other (with_name name names) ≡ (same_node name other || has_answered other names)
with-name name other names =
    by_test (λ t. has_answered name names ≡ t → has_answered other (if t then names else names ++ name ∷ []) ≡ (same_node name other || has_answered other names)) (has_answered name names)
    (λ _ there. by_test (λ t. same_node name other ≡ t → has_answered other names ≡ (t || has_answered other names)) (same_node name other)
    (λ _ same. ap (λ x. has_answered x names) (sym (one-node name other same)) ∙ there) (λ _ _. refl) refl)
    (λ _ _. list_any-append (λ x. same_node x other) names (name ∷ []) ∙ turn (has_answered other names) (same_node name other)) refl
  where
    turn : (a b : Bool) → (a || (b || false)) ≡ (b || a)
    turn true true = refl
    turn true false = refl
    turn false true = refl
    turn false false = refl

-- ---- a session is staged

module _ (volume : Volume) (events : List Event) (history : List Past) (judge : Judge) (n m : ℕ) (step : TraceStep) (x : News) (nodes : HasNodes volume.geometry)
    (before : IsBefore volume.geometry history judge n) (away : IsAway history) where
  -- the judge after the line of a stage
  abbrev pub staged_judge : ℕ → ℕ → ℕ → Judge
  staged_judge e f s = record judge { others = begun_from judge e s (known_at judge f); staged = Some e }

  staged_phase : (e f s : ℕ) → phase_of (past step x judge (line.Stage e f s ∷ []) ∷ history) ≡ Staged e
  unfolding phase_of
  staged_phase e f s = refl

  staged_news : (e f s : ℕ) → news_since stages (past step x judge (line.Stage e f s ∷ []) ∷ history) ≡ []
  unfolding since
  staged_news e f s = refl

  -- the session is known then
  begun_at : (e s : ℕ) (from : Session) (o : Option Session) → judge.now.session < e → o ≡ Some from
      → known_at (record judge { others = begun_from judge e s o; staged = Some e }) e ≡ Some (record { session = e; base = s; origin = from.origin; list = take s from.list })
  begun_at e s from o young is =
      ap (λ k. known_at (record judge { others = begun_from judge e s k; staged = Some e }) e) is
      ∙ ap (λ t. if t then Some judge.now else find (λ known. known.session == e) (record { session = e; base = s; origin = from.origin; list = take s from.list } ∷ judge.others)) (unequal_up judge.now.session e young)
      ∙ ap (λ t. cond t (Some (record { session = e; base = s; origin = from.origin; list = take s from.list })) (find (λ known. known.session == e) judge.others)) (eq-eqb e e refl)

  none_switched : (e : ℕ) (news : List News) (name : NodeName) → news ≡ [] → has_switched volume.geometry e news name ≡ false
  unfolding has_switched
  none_switched e [] name is = refl
  none_switched e (y ∷ news) name is = absurd (cc)

  pub staged_as_due : (e f s : ℕ) (from : Session) (contents : List (List ℕ)) (carried : ℕ → List (List ℕ)) → OpensBelow judge.now.session e m
      → known_at judge f ≡ Some from → s ≤ length from.list → contents ≡ fold_batches from.origin (take s from.list)
      → AsDue volume (past step x judge (line.Stage e f s ∷ []) ∷ history) (judged_all events judge (line.Stage e f s ∷ [])) n m (line.Stage e f s ∷ []) (staged_from volume e f s contents carried)
  unfolding judged_all
  staged_as_due e f s from contents carried young at within same = record {
    same = refl;
    holds = record {
      before = before-away volume.geometry history _ judge (staged_judge e f s) n n away (omega arith) (λ v is. is) refl before;
      young = young;
      mirrors = record {
        phase = staged_phase e f s;
        begun = record {
          known = record { session = e; base = s; origin = from.origin; list = take s from.list };
          at = begun_at e s from (known_at judge f) young.0 at;
          session = refl;
          base = refl;
          count = length-take s from.list ∙ (omega (arith, within));
          contents = same;
        };
        answered = λ name. ap (list_any (λ y. says_staged e name y)) (sym (staged_news e f s));
        waits = nodes;
        switched = λ name. none_switched e _ name (staged_news e f s);
      };
    };
  }

-- ---- a session is opened

module _ (volume : Volume) (events : List Event) (history : List Past) (judge : Judge) (n m : ℕ) (step : TraceStep) (x : News)
    (before : IsBefore volume.geometry history judge n) (away : IsAway history) (b : state.Beginning) (young : OpensBelow judge.now.session b.session m) (k : MirrorsKnown judge b) where
  abbrev opened_judge : Judge
  opened_judge = record judge { now = k.known; acked = k.known.base; others = judge.now ∷ judge.others; submits = []; opened = b.session ∷ judge.opened }

  abbrev newer : List Past
  newer = past step x judge (line.Open b.session ∷ []) ∷ history

  opened_phase : phase_of newer ≡ Serving
  unfolding phase_of
  opened_phase = refl

  opened_news : news_since opens newer ≡ []
  unfolding since
  opened_news = refl

  opened_live : (j : Judge) → live newer j ≡ []
  unfolding live since all_taken
  opened_live j = refl

  or_more : (p q r : Bool) → (p || q || false) ≡ true → (p || q || r) ≡ true
  or_more true q r is = refl
  or_more false true r is = refl
  or_more false false r is = absurd (cc)

  opened_before : IsBefore volume.geometry newer opened_judge n
  opened_before =
      before-away volume.geometry history _ judge opened_judge n n away (omega arith)
      (λ v is. or_more (is_among v judge.ended) (is_among v judge.answered) (list_any (λ s. s.event == v) judge.submits) is) refl before

  drop_none : (base : ℕ) (list : List Batch) → length list ≤ base → drop base list ≡ []
  drop_none base list less = nil (drop base list) (length-drop base list ∙ (omega (arith, less)))
    where
      nil : (xs : List Batch) → length xs ≡ 0 → xs ≡ []
      nil [] none = refl
      nil (y ∷ xs) none = absurd (cc)

  opened_table : MirrorsLine volume.geometry newer opened_judge [] (new_serving volume.geometry b.session b.seq b.contents)
  unfolding left_of line_of
  opened_table = record { line = refl; reads = refl; asked = refl; barriers = refl }

  opened_order : IsInOrder volume.geometry newer opened_judge [] n
  unfolding left_of line_of Between front_from
  opened_order = record {
    rises = let latest = before.latest in omega (arith, latest);
    later = before.latest;
    inside = refl;
    waiting = refl;
    unknown = refl;
    untouched = λ q late. opened_before.untouched q late;
    front = λ v up. k.base ∙ sym k.count;
  }

  opened_number : (g : ℕ) → last_touch volume.geometry g k.known.base (k.known.base + 1) (drop k.known.base (take (length k.known.list) k.known.list)) ≡ b.seq
  unfolding last_touch
  opened_number g =
      ap (λ l. last_touch volume.geometry g k.known.base (k.known.base + 1) (drop k.known.base l)) (take_all (length k.known.list) k.known.list (omega arith))
      ∙ ap (last_touch volume.geometry g k.known.base (k.known.base + 1)) (drop_none k.known.base k.known.list (let c = k.count in let d = k.base in omega (arith, c, d)))
      ∙ k.base

  opened_is : judged_all events judge (line.Open b.session ∷ []) ≡ opened_judge
  unfolding judged_all
  opened_is = ap (opened_as judge b.session) k.at

  no_claim : (name : NodeName) (s : ℕ) → 0 < s → nat_le s (claim_of name []) ≡ false
  unfolding claim_of
  no_claim name s up =
      by_test (λ t. nat_le s 0 ≡ t → t ≡ false) (nat_le s 0) (λ _ hit. let low = leb-true s 0 hit in absurd (omega (arith, low, up))) (λ _ _. refl) refl

  pub opened_as_due : (told : state.Told) → told.client ≡ state.Serves (new_serving volume.geometry b.session b.seq b.contents) → told.lines ≡ line.Open b.session ∷ []
      → AsDue volume newer (judged_all events judge (line.Open b.session ∷ [])) n m (line.Open b.session ∷ []) told
  opened_as_due told client lines = record {
    same = lines;
    holds = subst (λ j. Holds volume newer j n m told.client) (sym opened_is) (subst (λ c. Holds volume newer opened_judge n m c) (sym client)
        (record {
          before = opened_before;
          young = subst (λ e. e < m) (sym k.session) young.1;
          mirrors = record {
            serves = opened_phase;
            counts = record {
              session = sym k.session;
              last = sym k.count;
              acked = sym k.base;
              contents = k.contents;
              numbers = λ g inside. get_or-map-range_with_len (λ r. b.seq) 0 (regions volume.geometry) g g 0 inside (omega arith) ∙ sym (opened_number g);
              leaders = sym (ap (map (λ batch. leader_of volume.geometry batch)) (drop_none k.known.base k.known.list (let c = k.count in let d = k.base in omega (arith, c, d))));
              within = let c = k.count in let d = k.base in omega (arith, c, d);
              based = omega arith;
              leads = sym (ap (λ t. if t then 0 else leader_of volume.geometry (batch_at k.known (length k.known.list))) (eq-eqb (length k.known.list) k.known.base (k.count ∙ sym k.base)));
            };
            table = subst (λ rs. MirrorsLine volume.geometry newer opened_judge rs (new_serving volume.geometry b.session b.seq b.contents)) (sym (opened_live opened_judge)) opened_table;
            order = subst (λ rs. IsInOrder volume.geometry newer opened_judge rs n) (sym (opened_live opened_judge)) opened_order;
            claims = λ name s up. no_claim name s up ∙ ap (list_any (λ y. is_claim k.known.session s name y)) (sym opened_news);
          };
        }));
  }
