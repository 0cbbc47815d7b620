-- A step that tells the client nothing, gives no line and replaces no node leaves the abstract client as it was, and those
-- that count and are fresh.
use Rattle.std.proofs.Common.{◌≡◌, ◌∙◌, ⊎_elim, ℕ, ◌==◌, ◌&&◌, ◌||◌, not, Bool, true, false, if◌then◌else◌, List, [], ◌∷◌, refl, sym, ap, subst}
use Rattle.std.specs.List.{list_any}
use Rattle.std.proofs.lemmas.Bool.{eq-eqb}
use Rattle.salus_types.specs.Volume.{Shape}
use Rattle.salus_types.specs.declared.names.NodeName.{NodeName}
use Rattle.salus_types.specs.declared.names.Sender.{Sender}
use Rattle.salus_types.specs.declared.names.Sender.TheVariants as sender
use Rattle.schedule_text.specs.declared.schedule.Event.{Event}
use Rattle.printed_lines.specs.declared.line.Line.{Line}
use Rattle.printed_lines.specs.declared.line.Line.TheVariants as line
use Rattle.salus_model.specs.declared.trace.TraceStep.{TraceStep}
use Rattle.salus_model.specs.Judge.{judged_all}
use Rattle.salus_model.specs.Hearing.{Past, judge_of, since, begins, Phase, Serving, Closed, Gathering, Fetching, Staged, phase_of}
use Rattle.salus_model.specs.Guarding.{is_replacement, replaces, is_lied_for, opens_begun, has_opened, counts}
use Rattle.salus_model.specs.Opening.{all_staged}
use Rattle.salus_model.specs.Complete.{last_begun}
use Rattle.volume_model.specs.Groups.{same_node, same_party}
use Rattle.list_lemmas.proofs.Lists.{list_any_same}
use Rattle.law_prefix.specs.Numbers.{Mem}
use Rattle.law_prefix.specs.World as abstract
use Rattle.kept_model.specs.Phases.{asked_of, phase_from, switched_in, is_told, phase_as, switches_of, IsClientOf}
use Rattle.kept_model.specs.Counting.{is_fresh}
use Rattle.law_matched.specs.Silent.{silent_past}
use Rattle.law_refined.proofs.Listed.{and_both, mem_left, mem_right, mem_split}

module _ (shape : Shape) (events : List Event) (history : List Past) (step : TraceStep) where
  abbrev p : Past
  p = silent_past shape events history step

  judge_same : judge_of shape events (p ∷ history) ≡ judge_of shape events history
  unfolding judged_all
  judge_same = refl

  phase_same : phase_of (p ∷ history) ≡ phase_of history
  unfolding phase_of
  phase_same = refl

  asked_same : asked_of (p ∷ history) ≡ asked_of history
  unfolding last_begun
  asked_same = refl

  told_same : (phase : Phase) → is_told shape (p ∷ history) phase ≡ is_told shape history phase
  unfolding since all_staged
  told_same (Staged e) = refl
  told_same Serving = refl
  told_same Closed = refl
  told_same (Gathering e) = refl
  told_same (Fetching e g) = refl

  switched_same : (phase : Phase) → switched_in shape (p ∷ history) phase ≡ switched_in shape history phase
  unfolding since all_staged
  switched_same (Staged e) = refl
  switched_same Serving = refl
  switched_same Closed = refl
  switched_same (Gathering e) = refl
  switched_same (Fetching e g) = refl

  phase_as_same : phase_as shape (p ∷ history) ≡ phase_as shape history
  phase_as_same = ap (λ (phase : Phase). phase_from (is_told shape (p ∷ history) phase) phase) phase_same ∙ ap (λ b. phase_from b (phase_of history)) (told_same (phase_of history))

  now_switched : (e : ℕ) (h : List Past) → Mem e (switched_in shape h (phase_of h)) → Mem e (switches_of shape h)
  unfolding switches_of phase_of
  now_switched e [] at = absurd at
  now_switched e (q ∷ h) at = mem_left e (switched_in shape (q ∷ h) (phase_of (q ∷ h))) (switches_of shape h) at

  switches_back : (e : ℕ) → Mem e (switches_of shape (p ∷ history)) → Mem e (switches_of shape history)
  unfolding switches_of
  switches_back e at =
      ⊎_elim
      (λ (now : Mem e (switched_in shape (p ∷ history) (phase_of (p ∷ history)))).
      now_switched e history (subst (λ l. Mem e l) (ap (λ (phase : Phase). switched_in shape (p ∷ history) phase) phase_same ∙ switched_same (phase_of history)) now))
      (λ (before : Mem e (switches_of shape history)). before)
      (mem_split e (switched_in shape (p ∷ history) (phase_of (p ∷ history))) (switches_of shape history) at)

  switches_on : (e : ℕ) → Mem e (switches_of shape history) → Mem e (switches_of shape (p ∷ history))
  unfolding switches_of
  switches_on e at = mem_right e (switched_in shape (p ∷ history) (phase_of (p ∷ history))) (switches_of shape history) at

  pub client_same : (c : abstract.Client) → IsClientOf shape events history c → IsClientOf shape events (p ∷ history) c
  unfolding judged_all
  client_same c of = record {
    lists = of.lists;
    starts = of.starts;
    known_there = of.known_there;
    known_back = of.known_back;
    served = of.served;
    acked = of.acked;
    asked = of.asked ∙ sym asked_same;
    phase = of.phase ∙ sym phase_as_same;
    switched_there = λ e at. switches_on e (of.switched_there e at);
    switched_back = λ e at. of.switched_back e (switches_back e at);
  }

  -- ---- who counts

  begun_same : (steps : List Past) (l : Line) → opens_begun (p ∷ steps) l ≡ opens_begun steps l
  begun_same steps (line.Open e) = refl
  begun_same steps (line.Submit v s) = refl
  begun_same steps (line.Ack s) = refl
  begun_same steps (line.Read v b bytes) = refl
  begun_same steps (line.Fault v b strikes) = refl
  begun_same steps (line.Barrier v s) = refl
  begun_same steps (line.Refused v cause) = refl
  begun_same steps (line.Skip v m) = refl
  begun_same steps (line.Stage e f s) = refl
  begun_same steps (line.Lost e) = refl

  opened_same : (steps : List Past) → has_opened (p ∷ steps) ≡ has_opened steps
  opened_same steps = list_any_same (λ q. list_any (λ l. opens_begun (p ∷ steps) l) q.lines) (λ q. list_any (λ l. opens_begun steps l) q.lines)
      (λ q. list_any_same (λ l. opens_begun (p ∷ steps) l) (λ l. opens_begun steps l) (begun_same steps) q.lines) steps

  module _ (stays : is_replacement step.handed ≡ false) where
    none_replaced : (name : NodeName) → replaces name p ≡ false
    none_replaced name = ap (λ b. b && same_party step.party (sender.Node name)) stays

    pub counts_same : (name : NodeName) → counts events (p ∷ history) name ≡ counts events history name
    unfolding counts since
    counts_same name =
        let lied : Bool = not (is_lied_for events (sender.Node name)) in
        ap (λ b. lied && (not (b || list_any (λ q. replaces name q) history) || has_opened (if b then [] else p ∷ since (λ q. replaces name q) history))) (none_replaced name)
        ∙ ap (λ b. lied && (not (list_any (λ q. replaces name q) history) || b)) (opened_same (since (λ q. replaces name q) history))

    pub fresh_same : (name : NodeName) → is_fresh events (p ∷ history) name ≡ is_fresh events history name
    unfolding since
    fresh_same name = ap (λ b. not (is_lied_for events (sender.Node name)) && not (b || list_any (λ q. replaces name q) (since begins history))) (none_replaced name)

  -- ---- a replacement

  module _ (replaced : is_replacement step.handed ≡ true) where
    is_replaced : (name : NodeName) → step.party ≡ sender.Node name → replaces name p ≡ true
    is_replaced name same =
        ap (λ b. b && same_party step.party (sender.Node name)) replaced ∙ ap (λ (who : Sender). same_party who (sender.Node name)) same ∙ self name
      where
        self : (name : NodeName) → same_node name name ≡ true
        self name = and_both (name.region == name.region) (name.replica == name.replica) (eq-eqb name.region name.region refl) (eq-eqb name.replica name.replica refl)

    pub counts_none : (name : NodeName) → step.party ≡ sender.Node name → counts events (p ∷ history) name ≡ false
    unfolding counts since
    counts_none name same =
        let lied : Bool = not (is_lied_for events (sender.Node name)) in
        ap (λ b. lied && (not (b || list_any (λ q. replaces name q) history) || has_opened (if b then [] else p ∷ since (λ q. replaces name q) history))) (is_replaced name same) ∙ none lied
      where
        none : (b : Bool) → (b && false) ≡ false
        none true = refl
        none false = refl

    pub fresh_none : (name : NodeName) → step.party ≡ sender.Node name → is_fresh events (p ∷ history) name ≡ false
    unfolding since
    fresh_none name same =
        ap (λ b. not (is_lied_for events (sender.Node name)) && not (b || list_any (λ q. replaces name q) (since begins history))) (is_replaced name same) ∙ none (not (is_lied_for events (sender.Node name)))
      where
        none : (b : Bool) → (b && false) ≡ false
        none true = refl
        none false = refl

    -- of another node
    other_kept : (name : NodeName) → same_party step.party (sender.Node name) ≡ false → replaces name p ≡ false
    other_kept name differ = ap (λ b. b && same_party step.party (sender.Node name)) replaced ∙ differ

    pub counts_other : (name : NodeName) → same_party step.party (sender.Node name) ≡ false → counts events (p ∷ history) name ≡ counts events history name
    unfolding counts since
    counts_other name differ =
        let lied : Bool = not (is_lied_for events (sender.Node name)) in
        ap (λ b. lied && (not (b || list_any (λ q. replaces name q) history) || has_opened (if b then [] else p ∷ since (λ q. replaces name q) history))) (other_kept name differ)
        ∙ ap (λ b. lied && (not (list_any (λ q. replaces name q) history) || b)) (opened_same (since (λ q. replaces name q) history))

    pub fresh_other : (name : NodeName) → same_party step.party (sender.Node name) ≡ false → is_fresh events (p ∷ history) name ≡ is_fresh events history name
    unfolding since
    fresh_other name differ = ap (λ b. not (is_lied_for events (sender.Node name)) && not (b || list_any (λ q. replaces name q) (since begins history))) (other_kept name differ)
