-- The law of lines, from the formatted volume on.
use Rattle.std.proofs.Common.{◌≡◌, ℕ, zero, suc, ◌+◌, ◌<◌, ◌≤◌, false, ◌∙◌, nat_le, if◌then◌else◌, List, [], ◌∷◌, ◌++◌, map, refl, ap, ap₂, subst, arith, leb-true}
use Rattle.std.specs.Prelude.{flat_map, ◌==◌}
use Rattle.std.specs.List.{list_all, range_with_len}
use Rattle.std.proofs.lemmas.List.FromFn.{get_or-map-range_with_len}
use Rattle.std.proofs.lemmas.Nat.{pow_pos}
use Rattle.salus_types.specs.Volume.{Shape, regions}
use Rattle.salus_types.specs.declared.names.NodeName.{NodeName}
use Rattle.schedule_text.specs.declared.schedule.Volume.{Volume}
use Rattle.schedule_text.specs.declared.schedule.Event.{Event}
use Rattle.printed_lines.specs.declared.line.Line.{Line}
use Rattle.salus_model.specs.declared.trace.TraceStep.{TraceStep}
use Rattle.volume_model.specs.Contents.{fold_batches}
use Rattle.volume_model.specs.Parts.{last_touch}
use Rattle.salus_model.specs.Judge.{start_judge, front_from}
use Rattle.salus_model.specs.Following.{Posted, is_skipped}
use Rattle.salus_model.specs.Hearing.{Past, since, phase_of}
use Rattle.volume_model.specs.Groups.{group_of}
use Rattle.salus_model.specs.Waiting.{all_taken, live, left_of}
use Rattle.salus_model.specs.Answering.{is_known, first_strike}
use Rattle.salus_model.specs.Due.{past_of, pasts_from, of_event, past_event, sent_after, skip_line, lines_from, lines_due}
use Rattle.client_rules.specs.Tables.{line_of, claim_of}
use Rattle.client_rules.specs.Rules.{new_client, client_lines}
use Rattle.list_lemmas.proofs.Tests.{by_test}
use Rattle.law_lines.specs.Mirror.{Between}
use Rattle.law_lines.specs.Mirrors.{Holds}
use Rattle.law_lines.specs.Ready.{AreReady}
use Rattle.law_lines.specs.Running.{told_pasts, run_lines}
use Rattle.law_lines.proofs.Openings.{HasNodes}
use Rattle.law_lines.proofs.Whole.{AllScripted, lines_from_here}

-- ---- the start

start_none : (s : ℕ) → 0 < s → nat_le s 0 ≡ false
start_none s up = by_test (λ t. nat_le s 0 ≡ t → t ≡ false) (nat_le s 0) (λ _ hit. let low = leb-true s 0 hit in absurd (omega (arith, low, up))) (λ _ _. refl) refl

pub start_holds : (volume : Volume) → Holds volume [] (start_judge volume.geometry) 1 2 (new_client volume.geometry)
unfolding phase_of live since all_taken left_of line_of Between front_from is_known first_strike last_touch fold_batches claim_of
start_holds volume = record {
  before = record {
    ended = λ v is. absurd (cc);
    untouched = λ q late. record { unknown = refl; unstruck = λ r. refl };
    latest = omega arith;
  };
  young = omega arith;
  mirrors = record {
    serves = refl;
    counts = record {
      session = refl;
      last = refl;
      acked = refl;
      contents = refl;
      numbers = λ g inside. get_or-map-range_with_len (λ r. 0) 0 (regions volume.geometry) g g 0 inside (omega arith);
      leaders = refl;
      within = omega arith;
      based = omega arith;
      leads = refl;
    };
    table = record { line = refl; reads = refl; asked = refl; barriers = refl };
    order = record {
      rises = omega arith;
      later = omega arith;
      inside = refl;
      waiting = refl;
      unknown = refl;
      untouched = λ q late. record { unknown = refl; unstruck = λ r. refl };
      front = λ v up. refl;
    };
    claims = λ name s up. start_none s up;
  };
}

-- a group has a node, and so the volume
has_one : (n : ℕ) → 1 ≤ n → (f : ℕ → NodeName) → (rest : List NodeName) → list_all (λ name. false) (map f (range_with_len 0 n) ++ rest) ≡ false
has_one zero one f rest = absurd (omega (arith, one))
has_one (suc n) one f rest = refl

some_group : (shape : Shape) (n : ℕ) → 1 ≤ n → 1 ≤ shape.replicas → list_all (λ name. false) (flat_map (λ g. group_of shape g) (range_with_len 0 n)) ≡ false
some_group shape zero one many = absurd (omega (arith, one))
some_group shape (suc n) one many = has_one shape.replicas many (λ r. record { region = 0; replica = r }) (flat_map (λ g. group_of shape g) (range_with_len 1 n))

pub has_nodes : (shape : Shape) → 1 ≤ shape.replicas → HasNodes shape
has_nodes shape many = some_group shape (regions shape) (let up = pow_pos shape.regions_log in omega (arith, up)) many

-- Each step of the client gives the lines due.
pub each_step_due : (volume : Volume) (events : List Event) (posts : List Posted) (trace : List TraceStep) → 1 ≤ volume.geometry.replicas → AreReady volume events posts [] 1 2 trace
    → client_lines volume posts (new_client volume.geometry) trace ≡ map (λ p. p.lines) (pasts_from volume events posts [] trace)
unfolding AllScripted since all_taken
each_step_due volume events posts trace many ready =
    lines_from_here volume events posts (has_nodes volume.geometry many) trace [] 1 2 (new_client volume.geometry) (start_holds volume) (omega arith) tt ready

-- ---- with the lines of the events that are skipped

-- the same steps with the same lines
unfoldable pub SamePasts : List Past → List Past → Type 0
SamePasts [] [] = Unit {0}
SamePasts [] (q ∷ qs) = ⊥
SamePasts (p ∷ ps) [] = ⊥
SamePasts (p ∷ ps) (q ∷ qs) = (p.step ≡ q.step) × (p.lines ≡ q.lines) × SamePasts ps qs

same_here : (n : ℕ) (ps qs : List Past) → SamePasts ps qs → SamePasts (of_event n ps) (of_event n qs)
unfolding SamePasts of_event
same_here n [] [] s = tt
same_here n [] (q ∷ qs) s = absurd s
same_here n (p ∷ ps) [] s = absurd s
same_here n (p ∷ ps) (q ∷ qs) s =
    subst (λ t. SamePasts (if p.step.event == n then p ∷ of_event n ps else []) (if t then q ∷ of_event n qs else [])) (ap (λ x. x.event == n) s.0)
    (by_test (λ t. SamePasts (if t then p ∷ of_event n ps else []) (if t then q ∷ of_event n qs else [])) (p.step.event == n) (λ _. (s.0, s.1, same_here n ps qs s.2)) (λ _. tt))

same_past : (n : ℕ) (ps qs : List Past) → SamePasts ps qs → SamePasts (past_event n ps) (past_event n qs)
unfolding SamePasts past_event
same_past n [] [] s = tt
same_past n [] (q ∷ qs) s = absurd s
same_past n (p ∷ ps) [] s = absurd s
same_past n (p ∷ ps) (q ∷ qs) s =
    subst (λ t. SamePasts (if p.step.event == n then past_event n ps else p ∷ ps) (if t then past_event n qs else q ∷ qs)) (ap (λ x. x.event == n) s.0)
    (by_test (λ t. SamePasts (if t then past_event n ps else p ∷ ps) (if t then past_event n qs else q ∷ qs)) (p.step.event == n) (λ _. same_past n ps qs s.2) (λ _. s))

same_sent : (sent : ℕ) (ps qs : List Past) → SamePasts ps qs → sent_after sent ps ≡ sent_after sent qs
unfolding SamePasts sent_after
same_sent sent [] [] s = refl
same_sent sent [] (q ∷ qs) s = absurd s
same_sent sent (p ∷ ps) [] s = absurd s
same_sent sent (p ∷ ps) (q ∷ qs) s = ap (λ x. sent_after x.sent ps) s.0 ∙ same_sent q.step.sent ps qs s.2

same_flat : (ps qs : List Past) → SamePasts ps qs → flat_map (λ p. p.lines) ps ≡ flat_map (λ p. p.lines) qs
unfolding SamePasts
same_flat [] [] s = refl
same_flat [] (q ∷ qs) s = absurd s
same_flat (p ∷ ps) [] s = absurd s
same_flat (p ∷ ps) (q ∷ qs) s = ap₂ (λ x y. x ++ y) s.1 (same_flat ps qs s.2)

same_lines : (volume : Volume) (events : List Event) (posts : List Posted) (es : List Event) (sent n : ℕ) (ps qs : List Past) → SamePasts ps qs
    → lines_from volume events posts sent n es ps ≡ lines_from volume events posts sent n es qs
unfolding lines_from
same_lines volume events posts [] sent n ps qs s = refl
same_lines volume events posts (e ∷ es) sent n ps qs s =
    ap₂ (λ x y. x ++ y) (ap (λ l. if is_skipped posts sent e then skip_line n e else l) (same_flat (of_event n ps) (of_event n qs) (same_here n ps qs s)))
    (ap (λ k. lines_from volume events posts k (n + 1) es (past_event n ps)) (same_sent sent (of_event n ps) (of_event n qs) (same_here n ps qs s))
    ∙ same_lines volume events posts es (sent_after sent (of_event n qs)) (n + 1) (past_event n ps) (past_event n qs) (same_past n ps qs s))

told_same : (volume : Volume) (events : List Event) (posts : List Posted) (steps : List TraceStep) (history : List Past) (ls : List (List Line))
    → ls ≡ map (λ p. p.lines) (pasts_from volume events posts history steps) → SamePasts (told_pasts volume steps ls) (pasts_from volume events posts history steps)
unfolding SamePasts told_pasts pasts_from
told_same volume events posts [] history ls is = tt
told_same volume events posts (step ∷ steps) history [] is = absurd (cc)
told_same volume events posts (step ∷ steps) history (l ∷ ls) is = (refl, cc, told_same volume events posts steps (past_of volume events posts history step ∷ history) ls (cc))

-- THE LAW OF LINES: the lines that the client's rules give are exactly the lines due.
pub lines_are_due : (volume : Volume) (events : List Event) (posts : List Posted) (trace : List TraceStep) → 1 ≤ volume.geometry.replicas → AreReady volume events posts [] 1 2 trace
    → run_lines volume events posts trace ≡ lines_due volume events posts trace
lines_are_due volume events posts trace many ready =
    same_lines volume events posts events 0 1 _ _
    (told_same volume events posts trace [] (client_lines volume posts (new_client volume.geometry) trace) (each_step_due volume events posts trace many ready))
