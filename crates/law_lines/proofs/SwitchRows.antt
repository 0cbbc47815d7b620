-- Fetched blocks, and the nodes' answers to staging and switching, give the lines due.
use Rattle.std.proofs.Common.{◌≡◌, ℕ, Bool, true, false, ◌&&◌, ◌||◌, ◌==◌, ◌∙◌, if◌then◌else◌, List, [], ◌∷◌, take, Some, refl, ap, ap₂, sym, subst, arith, eq-eqb}
use Rattle.std.specs.List.{list_any}
use Rattle.std.specs.Prelude.{find}
use Rattle.std.proofs.lemmas.List.{take_all}
use Rattle.salus_types.specs.declared.names.NodeName.{NodeName}
use Rattle.salus_message.specs.declared.carried.Dumped.{Dumped}
use Rattle.salus_message.specs.declared.small.Staged.{Staged}
use Rattle.salus_message.specs.declared.small.Switched.{Switched}
use Rattle.salus_message.specs.declared.wire.Message.{Message}
use Rattle.salus_message.specs.declared.wire.Message.TheVariants as message
use Rattle.schedule_text.specs.declared.schedule.Volume.{Volume}
use Rattle.schedule_text.specs.declared.schedule.Event.{Event}
use Rattle.printed_lines.specs.declared.line.Line.{Line}
use Rattle.printed_lines.specs.declared.line.Line.TheVariants as line
use Rattle.salus_model.specs.declared.trace.TraceStep.{TraceStep}
use Rattle.volume_model.specs.Contents.{fold_batches, region_root}
use Rattle.salus_model.specs.Judge.{Judge, last_number, judged_all}
use Rattle.salus_model.specs.Hearing.{Says, Past, news_since, stages, is_serving, phase_of}
use Rattle.volume_model.specs.Groups.{same_node, all_nodes}
use Rattle.salus_model.specs.Answering.{present_root}
use Rattle.salus_model.specs.Opening.{says_staged, says_switched, all_staged, has_switched, all_switched, is_fetched}
use Rattle.salus_model.specs.Due.{due_fetching, due_staged}
use Rattle.client_rules.specs.State as state
use Rattle.client_rules.specs.State.{ignored, to_all}
use Rattle.client_rules.specs.Opening.{has_answered, all_answered, with_name, fetched_blocks, staged_from, new_serving, dumped_here, staged_by, staged_here, switched_by, switched_here}
use Rattle.list_lemmas.proofs.Tests.{by_test, and_false, and_true}
use Rattle.list_lemmas.proofs.Lists.{list_all_same}
use Rattle.law_lines.specs.Mirror.{IsBefore}
use Rattle.law_lines.specs.Mirrors.{Holds, AsDue}
use Rattle.law_lines.proofs.Histories.{past}
use Rattle.law_lines.proofs.Away.{before-away, news-stages, all-staged-more, fetching-kept, staging-kept, switching-kept}
use Rattle.law_lines.proofs.Openings.{HasNodes, with-name, staged_as_due, opened_as_due}

module _ (volume : Volume) (events : List Event) (history : List Past) (judge : Judge) (n m : ℕ) (step : TraceStep) (name : NodeName) (nodes : HasNodes volume.geometry) where
  abbrev Row : Message → List Line → state.Told → Type 0
  Row msg due told = AsDue volume (past step (Says name msg) judge due ∷ history) (judged_all events judge due) n m due told

  same_phase : (msg : Message) → phase_of (past step (Says name msg) judge [] ∷ history) ≡ phase_of history
  unfolding phase_of
  same_phase msg = refl

  -- ---- fetching

  pub dumped_as_due : (f : state.Fetching) → Holds volume history judge n m (state.Fetches f) → (d : Dumped)
      → Row (message.Dumped d) (due_fetching volume.geometry judge f.session f.region name (message.Dumped d)) (dumped_here volume f name d)
  unfolding dumped_here judged_all present_root
  dumped_as_due f h d =
      let root : region_root volume.geometry f.contents f.region ≡ present_root volume.geometry judge f.region = ap (λ blocks. region_root volume.geometry blocks f.region) h.mirrors.contents in
      let test : is_fetched volume.geometry f.served f.region (region_root volume.geometry f.contents f.region) name d ≡ is_fetched volume.geometry judge.now.session f.region (present_root volume.geometry judge f.region) name d =
      ap₂ (λ e r. is_fetched volume.geometry e f.region r name d) h.mirrors.served root in
      let whole : take (last_number judge) judge.now.list ≡ judge.now.list = take_all (last_number judge) judge.now.list (omega arith) in
      let staged : Row (message.Dumped d) (line.Stage f.session judge.now.session (last_number judge) ∷ []) (staged_from volume f.session judge.now.session (last_number judge) f.contents (fetched_blocks f.region d.blocks)) =
      staged_as_due volume events history judge n m step (Says name (message.Dumped d)) nodes h.before (ap is_serving h.mirrors.phase) f.session judge.now.session (last_number judge) judge.now f.contents
      (fetched_blocks f.region d.blocks) h.young (ap (λ t. if t then Some judge.now else find (λ known. known.session == judge.now.session) judge.others) (eq-eqb judge.now.session judge.now.session refl)) (omega arith)
      (h.mirrors.contents ∙ ap (fold_batches judge.now.origin) (sym whole)) in
      subst (λ t. Row (message.Dumped d) (due_fetching volume.geometry judge f.session f.region name (message.Dumped d))
      (if t then staged_from volume f.session f.served f.last f.contents (fetched_blocks f.region d.blocks) else ignored (state.Fetches f))) (sym test)
      (by_test (λ t. Row (message.Dumped d) (if t then line.Stage f.session judge.now.session (last_number judge) ∷ [] else [])
      (if t then staged_from volume f.session f.served f.last f.contents (fetched_blocks f.region d.blocks) else ignored (state.Fetches f)))
      (is_fetched volume.geometry judge.now.session f.region (present_root volume.geometry judge f.region) name d)
      (λ _. subst (λ e. Row (message.Dumped d) (line.Stage f.session judge.now.session (last_number judge) ∷ []) (staged_from volume f.session e f.last f.contents (fetched_blocks f.region d.blocks)))
      (sym h.mirrors.served)
      (subst (λ k. Row (message.Dumped d) (line.Stage f.session judge.now.session (last_number judge) ∷ []) (staged_from volume f.session judge.now.session k f.contents (fetched_blocks f.region d.blocks)))
      (sym h.mirrors.last) staged))
      (λ _. record {
        same = refl;
        holds = record {
          before = before-away volume.geometry history _ judge judge n n (ap is_serving h.mirrors.phase) (omega arith) (λ v is. is) refl h.before;
          young = h.young;
          mirrors = fetching-kept history (past step (Says name (message.Dumped d)) judge []) judge f (same_phase (message.Dumped d)) h.mirrors;
        };
      }))

  -- ---- staging

  module _ (b : state.Beginning) (h : Holds volume history judge n m (state.Stages b)) where
    quiet_before : (msg : Message) → IsBefore volume.geometry (past step (Says name msg) judge [] ∷ history) judge n
    quiet_before msg = before-away volume.geometry history _ judge judge n n (ap is_serving h.mirrors.phase) (omega arith) (λ v is. is) refl h.before

    none-switches : (s : Switched) (who : NodeName) → has_switched volume.geometry b.session (Says name (message.Switched s) ∷ news_since stages history) who ≡ false
    unfolding has_switched all_staged
    none-switches s who =
        ap₂ (λ t u. (says_switched b.session who (Says name (message.Switched s)) && t) || u)
        (sym (list_all_same _ _ (λ o. h.mirrors.answered o) (all_nodes volume.geometry)) ∙ h.mirrors.waits) (h.mirrors.switched who)
        ∙ ap (λ t. t || false) (and_false (says_switched b.session who (Says name (message.Switched s))))

    not-switched : (s : Switched) → all_switched volume.geometry b.session (Says name (message.Switched s) ∷ news_since stages history) ≡ false
    not-switched s = list_all_same _ (λ o. false) (none-switches s) (all_nodes volume.geometry) ∙ nodes

    -- a switch that comes too early doesn't count
    pub early_as_due : (s : Switched) → Row (message.Switched s) (due_staged volume.geometry history b.session name (message.Switched s)) (ignored (state.Stages b))
    unfolding judged_all has_switched all_staged
    early_as_due s =
        subst (λ t. Row (message.Switched s) (if (s.session == b.session) && t then line.Open b.session ∷ [] else []) (ignored (state.Stages b))) (sym (not-switched s))
        (subst (λ t. Row (message.Switched s) (if t then line.Open b.session ∷ [] else []) (ignored (state.Stages b))) (sym (and_false (s.session == b.session)))
        (record {
          same = refl;
          holds = record {
            before = quiet_before (message.Switched s);
            young = h.young;
            mirrors = record {
              phase = same_phase (message.Switched s) ∙ h.mirrors.phase;
              begun = h.mirrors.begun;
              answered = λ who. h.mirrors.answered who ∙ ap (list_any (λ y. says_staged b.session who y)) (sym (news-stages history (past step (Says name (message.Switched s)) judge []) refl));
              waits = h.mirrors.waits;
              switched = λ who. ap (λ news. has_switched volume.geometry b.session news who) (news-stages history (past step (Says name (message.Switched s)) judge []) refl) ∙ none-switches s who;
            };
          };
        }))

    abbrev with_one : state.Beginning
    with_one = record b { answered = with_name name b.answered }

    one_more : (s : Staged) → (s.session == b.session) ≡ true → (who : NodeName)
        → has_answered who (with_name name b.answered) ≡ list_any (λ y. says_staged b.session who y) (news_since stages (past step (Says name (message.Staged s)) judge [] ∷ history))
    one_more s this who =
        with-name name who b.answered
        ∙ ap₂ (λ t u. t || u) (sym (ap (λ t. same_node name who && t) this ∙ and_true (same_node name who))) (h.mirrors.answered who)
        ∙ ap (list_any (λ y. says_staged b.session who y)) (sym (news-stages history (past step (Says name (message.Staged s)) judge []) refl))

    staged_none : (s : Staged) (who : NodeName) → has_switched volume.geometry b.session (news_since stages (past step (Says name (message.Staged s)) judge [] ∷ history)) who ≡ false
    unfolding has_switched
    staged_none s who = ap (λ news. has_switched volume.geometry b.session news who) (news-stages history (past step (Says name (message.Staged s)) judge []) refl) ∙ h.mirrors.switched who

    counted_as_due : (s : Staged) → (s.session == b.session) ≡ true → (t : Bool) → all_answered volume.geometry (with_name name b.answered) ≡ t
        → Row (message.Staged s) [] (if t then record { client = state.Switches (record with_one { answered = [] }); outs = to_all (all_nodes volume.geometry) (message.Switch (record { session = b.session })); lines = [] }
        else ignored (state.Stages with_one))
    unfolding judged_all all_staged
    counted_as_due s this true all = record {
      same = refl;
      holds = record {
        before = quiet_before (message.Staged s);
        young = h.young;
        mirrors = record {
          phase = same_phase (message.Staged s) ∙ h.mirrors.phase;
          begun = record { known = h.mirrors.begun.known; at = h.mirrors.begun.at; session = h.mirrors.begun.session; base = h.mirrors.begun.base; count = h.mirrors.begun.count; contents = h.mirrors.begun.contents };
          staged = sym (list_all_same _ _ (one_more s this) (all_nodes volume.geometry)) ∙ all;
          answered = λ who. sym (staged_none s who);
        };
      };
    }
    counted_as_due s this false all = record {
      same = refl;
      holds = record {
        before = quiet_before (message.Staged s);
        young = h.young;
        mirrors = record {
          phase = same_phase (message.Staged s) ∙ h.mirrors.phase;
          begun = record { known = h.mirrors.begun.known; at = h.mirrors.begun.at; session = h.mirrors.begun.session; base = h.mirrors.begun.base; count = h.mirrors.begun.count; contents = h.mirrors.begun.contents };
          answered = one_more s this;
          waits = all;
          switched = staged_none s;
        };
      };
    }

    pub staged_as_told : (s : Staged) → Row (message.Staged s) (due_staged volume.geometry history b.session name (message.Staged s)) (staged_here volume.geometry b name s.session)
    unfolding staged_here judged_all
    staged_as_told s =
        by_test (λ t. (s.session == b.session) ≡ t → Row (message.Staged s) [] (if t then staged_by volume.geometry with_one else ignored (state.Stages b))) (s.session == b.session)
        (λ _ this. counted_as_due s this (all_answered volume.geometry (with_name name b.answered)) refl)
        (λ _ other. record {
          same = refl;
          holds = record {
            before = quiet_before (message.Staged s);
            young = h.young;
            mirrors = staging-kept volume.geometry history (past step (Says name (message.Staged s)) judge []) judge b (same_phase (message.Staged s)) refl
                (λ who. ap (λ t. same_node name who && t) other ∙ and_false (same_node name who)) (λ who. refl) h.mirrors;
          };
        }) refl

  -- ---- switching

  module _ (b : state.Beginning) (h : Holds volume history judge n m (state.Switches b)) where
    abbrev with_two : state.Beginning
    with_two = record b { answered = with_name name b.answered }

    two_more : (s : Switched) → (s.session == b.session) ≡ true → (who : NodeName)
        → has_answered who (with_name name b.answered) ≡ has_switched volume.geometry b.session (Says name (message.Switched s) ∷ news_since stages history) who
    unfolding has_switched
    two_more s this who =
        with-name name who b.answered
        ∙ ap₂ (λ t u. t || u) (sym (ap₂ (λ t u. (same_node name who && t) && u) this h.mirrors.staged ∙ and_true (same_node name who && true) ∙ and_true (same_node name who))) (h.mirrors.answered who)

    switching_same : (s : Switched) → (who : NodeName) → has_answered who b.answered ≡ has_switched volume.geometry b.session (news_since stages history) who
    switching_same s who = h.mirrors.answered who

    switched_so : (s : Switched) → (s.session == b.session) ≡ true → (t : Bool) → all_answered volume.geometry (with_name name b.answered) ≡ t
        → Row (message.Switched s) (if t then line.Open b.session ∷ [] else [])
        (if t then record { client = state.Serves (new_serving volume.geometry b.session b.seq b.contents); outs = []; lines = line.Open b.session ∷ [] } else ignored (state.Switches with_two))
    unfolding judged_all
    switched_so s this true all =
        opened_as_due volume events history judge n m step (Says name (message.Switched s)) h.before (ap is_serving h.mirrors.phase) b h.young h.mirrors.begun _ refl refl
    switched_so s this false all = record {
      same = refl;
      holds = record {
        before = before-away volume.geometry history _ judge judge n n (ap is_serving h.mirrors.phase) (omega arith) (λ v is. is) refl h.before;
        young = h.young;
        mirrors = record {
          phase = same_phase (message.Switched s) ∙ h.mirrors.phase;
          begun = record { known = h.mirrors.begun.known; at = h.mirrors.begun.at; session = h.mirrors.begun.session; base = h.mirrors.begun.base; count = h.mirrors.begun.count; contents = h.mirrors.begun.contents };
          staged = ap (all_staged volume.geometry b.session) (news-stages history (past step (Says name (message.Switched s)) judge []) refl)
              ∙ all-staged-more volume.geometry b.session (Says name (message.Switched s)) (news_since stages history) h.mirrors.staged;
          answered = λ who. two_more s this who ∙ ap (λ news. has_switched volume.geometry b.session news who) (sym (news-stages history (past step (Says name (message.Switched s)) judge []) refl));
        };
      };
    }

    pub switched_as_due : (s : Switched) → Row (message.Switched s) (due_staged volume.geometry history b.session name (message.Switched s)) (switched_here volume.geometry b name s.session)
    unfolding switched_here judged_all
    switched_as_due s =
        by_test (λ t. (s.session == b.session) ≡ t
        → Row (message.Switched s) (if t && all_switched volume.geometry b.session (Says name (message.Switched s) ∷ news_since stages history) then line.Open b.session ∷ [] else [])
        (if t then switched_by volume.geometry with_two else ignored (state.Switches b))) (s.session == b.session)
        (λ _ this. subst (λ t. Row (message.Switched s) (if t then line.Open b.session ∷ [] else []) (switched_by volume.geometry with_two))
        (list_all_same _ _ (two_more s this) (all_nodes volume.geometry))
        (switched_so s this (all_answered volume.geometry (with_name name b.answered)) refl))
        (λ _ other. record {
          same = refl;
          holds = record {
            before = before-away volume.geometry history _ judge judge n n (ap is_serving h.mirrors.phase) (omega arith) (λ v is. is) refl h.before;
            young = h.young;
            mirrors = switching-kept volume.geometry history (past step (Says name (message.Switched s)) judge []) judge b (same_phase (message.Switched s)) refl
                (λ who. ap (λ t. same_node name who && t) other ∙ and_false (same_node name who)) h.mirrors;
          };
        }) refl
