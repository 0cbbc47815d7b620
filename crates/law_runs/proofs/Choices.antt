-- What a restart chooses is right for the law of lines where it recovers contents.
use Rattle.std.proofs.Common.{flat_map, ◌≡◌, ℕ, ◌∙◌, List, [], ◌∷◌, ◌++◌, map, Option, None, Some, refl, ap}
use Rattle.std.specs.Prelude.{IfSome}
use Rattle.schedule_text.specs.declared.schedule.Volume.{Volume}
use Rattle.schedule_text.specs.declared.schedule.Event.{Event}
use Rattle.salus_types.specs.declared.records.Header.{Header}
use Rattle.salus_model.specs.declared.trace.TraceStep.{TraceStep}
use Rattle.volume_model.specs.Contents.{blocks_in, all_regions}
use Rattle.volume_model.specs.Parts.{contents_after}
use Rattle.volume_model.specs.Recovering.{Pool, choice_of}
use Rattle.salus_model.specs.Judge.{Judge}
use Rattle.salus_model.specs.Following.{Posted}
use Rattle.salus_model.specs.Hearing.{Past}
use Rattle.salus_model.specs.Due.{past_of}
use Rattle.client_rules.specs.Opening.{joined_blocks}
use Rattle.law_lines.specs.Mirrors.{IsFrontOf}
use Rattle.law_lines.specs.Scheduled.{ChoicesHold}
use Rattle.law_history.specs.Choosing.{RecoversContents, ChoosesRightFrom}
use Rattle.law_history.proofs.Rejoined.{rejoined}

if_some : {A : Type 0} (P : A → Type 0) (o : Option A) → ((x : A) → o ≡ Some x → P x) → IfSome o P
if_some P None each = tt
if_some P (Some x) each = each x refl

joined-map : (F : ℕ → List (List ℕ)) (gs : List ℕ) → flat_map (λ blocks. blocks) (map F gs) ≡ flat_map F gs
joined-map F [] = refl
joined-map F (g ∷ gs) = ap (λ rest. F g ++ rest) (joined-map F gs)

front_of : (volume : Volume) (judge : Judge) (pool : Pool) (h : Header) → RecoversContents volume.geometry judge pool h → IsFrontOf volume judge pool h
front_of volume judge pool h right = record {
  from = right.known;
  at = right.at;
  within = right.within;
  contents =
      ap joined_blocks right.blocks
      ∙ (joined-map (λ g. blocks_in volume.geometry (contents_after right.known h.seq) g) (all_regions volume.geometry)
      ∙ rejoined volume.geometry (contents_after right.known h.seq) right.sized);
}

pub choices_hold : (volume : Volume) (events : List Event) (posts : List Posted) (steps : List TraceStep) (history : List Past)
    → ChoosesRightFrom volume events posts history steps → ChoicesHold volume events posts history steps
unfolding ChoosesRightFrom ChoicesHold
choices_hold volume events posts [] history right = tt
choices_hold volume events posts (t ∷ steps) history right = (
  λ e phase all. if_some (IsFrontOf volume _ _) (choice_of volume.geometry _) (λ h is. front_of volume _ _ h ((right.0 e).choice h is)),
  choices_hold volume events posts steps (past_of volume events posts history t ∷ history) right.1,
)
