-- A batch that is submitted: its sealed parts are the rules' next parts.
use Rattle.std.proofs.Common.{◌≡◌, ◌∙◌, ℕ, List, [], ◌∷◌, ◌++◌, map, refl, sym, ap, ap₂, subst}
use Rattle.salus_types.specs.Volume.{Shape}
use Rattle.salus_types.specs.declared.records.Record.{Record}
use Rattle.salus_types.specs.declared.records.Out.{Out}
use Rattle.schedule_text.specs.declared.schedule.Volume.{Volume}
use Rattle.client_tag.specs.Tags.{sealed}
use Rattle.volume_model.specs.Contents.{Batch}
use Rattle.volume_model.specs.Parts.{leader_of}
use Rattle.client_rules.specs.State.{Serving, Unacked}
use Rattle.client_rules.specs.Submitting.{next_parts, part_letters, with_batch}
use Rattle.client_window.specs.Window.{KeptWindow}
use Rattle.client_window.specs.Standing.{HasRoots, StandsFor as WindowStandsFor}
use Rattle.posting.specs.Letters.{out_of_letter}
use Rattle.client_pipeline.specs.Pipeline.{KeptPipeline}
use Rattle.client_pipeline.specs.Standing.{IsVolumeOf, StandsFor}

parts_with : (us : List Unacked) (u : Unacked) → map (λ (x : Unacked). x.parts) (us ++ u ∷ []) ≡ map (λ (x : Unacked). x.parts) us ++ u.parts ∷ []
parts_with [] u = refl
parts_with (x ∷ us) u = ap (λ l. x.parts ∷ l) (parts_with us u)

module _ (before now : KeptPipeline) (same : before ≡ now) (volume : Volume) (s : Serving) (of : IsVolumeOf now volume) (stands : StandsFor now s) (batch : Batch) (news : List (List ℕ))
    (are : HasRoots now.window.shape s.contents batch news) (untagged made : List Record) (is_made : made ≡ map (sealed before.key) untagged)
    (sealed_are : volume.geometry ≡ before.window.shape → WindowStandsFor before.window s → HasRoots before.window.shape s.contents batch news → map (sealed volume.key) untagged ≡ next_parts volume s batch) where
  here : StandsFor before s
  here = subst (λ k. StandsFor k s) (sym same) stands

  of_here : IsVolumeOf before volume
  of_here = subst (λ k. IsVolumeOf k volume) (sym same) of

  are_here : HasRoots before.window.shape s.contents batch news
  are_here = subst (λ (k : KeptPipeline). HasRoots k.window.shape s.contents batch news) (sym same) are

  made_are : made ≡ next_parts volume s batch
  made_are = is_made ∙ ap (λ key. map (sealed key) untagged) (sym of_here.key) ∙ sealed_are of_here.geometry here.window are_here

  pub submitted_stands : (w : KeptWindow) (parts : List (List Record))
      → (volume.geometry ≡ before.window.shape → WindowStandsFor before.window s → HasRoots before.window.shape s.contents batch news → WindowStandsFor w (with_batch volume s batch))
      → parts ≡ before.parts ++ made ∷ [] → StandsFor (record { window = w; parts = parts; key = before.key }) (with_batch volume s batch)
  submitted_stands w parts window pushed = record {
    window = window of_here.geometry here.window are_here;
    parts =
        pushed ∙ ap₂ (λ l p. l ++ p ∷ []) here.parts made_are
        ∙ sym (parts_with s.unacked (record { leader = leader_of volume.geometry batch; parts = next_parts volume s batch }));
  }

  pub submitted_letters : (shape : Shape) (outs new : List Out) → shape ≡ before.window.shape → new ≡ outs ++ map out_of_letter (part_letters shape made)
      → new ≡ outs ++ map out_of_letter (part_letters now.window.shape (next_parts volume s batch))
  submitted_letters shape outs new is sent =
      sent ∙ ap₂ (λ sh parts. outs ++ map out_of_letter (part_letters sh parts)) (is ∙ ap (λ (k : KeptPipeline). k.window.shape) same) made_are
