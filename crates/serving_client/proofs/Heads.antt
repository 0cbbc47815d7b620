-- What is told where the head ends.
use Rattle.std.proofs.Common.{◌≡◌, ◌∙◌, ℕ, ◌+◌, ◌<◌, Bool, true, false, List, [], ◌∷◌, ◌++◌, map, length, drop, refl, sym, ap, subst, arith}
use Rattle.std.proofs.lemmas.Bool.{true≢false}
use Rattle.salus_types.specs.Volume.{Shape}
use Rattle.salus_types.specs.declared.records.Out.{Out}
use Rattle.schedule_text.specs.declared.schedule.Volume.{Volume}
use Rattle.printed_lines.specs.declared.line.Line.{Line}
use Rattle.printed_lines.specs.declared.line.Line.TheVariants as line
use Rattle.volume_model.specs.Contents.{Batch, apply}
use Rattle.volume_model.specs.Parts.{touched_by}
use Rattle.salus_model.specs.Waiting.{Taken}
use Rattle.posting.specs.Letters.{out_of_letter}
use Rattle.client_rules.specs.State.{Serving}
use Rattle.client_rules.specs.Serving.{before, head_faulted, leaves, submits}
use Rattle.client_rules.specs.Submitting.{next_parts, part_letters, with_batch}
use Rattle.client_window.specs.Standing.{HasRoots}
use Rattle.client_pipeline.specs.Pipeline.{KeptPipeline, StaysOrSubmits}
use Rattle.client_pipeline.specs.Standing.{IsVolumeOf, StandsFor as PipelineStandsFor}
use Rattle.pruned_volume.specs.Trees.{AgreesAll, KeptTrees}
use Rattle.client_asking.specs.declared.step.Step.{Step}
use Rattle.serving_client.specs.declared.inside.Core.{Core}
use Rattle.serving_client.specs.Keeping.{IsBorne, IsSubmitted}

-- the head ends with this line
pub faulted_is : (shape : Shape) (c : Serving) (l : Line) (rs : List Taken) → 0 < length rs → head_faulted shape c l rs ≡ before [] (l ∷ []) (leaves shape c (drop 1 rs))
faulted_is shape c l [] some = absurd (omega (arith, some))
faulted_is shape c l (w ∷ behind) some = refl

-- the batch is written and submitted
pub submitted_whole : (volume : Volume) (c : Serving) (k : Core) (v : ℕ) (batch : Batch) (p : KeptPipeline) (trees : KeptTrees) (roots : List (List ℕ)) (first after : Step) (seq : ℕ)
    → k.trees.shape ≡ k.pipeline.window.shape → IsBorne volume k c
    → ((contents : List (List ℕ)) → AgreesAll k.trees contents → AgreesAll trees (apply contents batch))
    → ((contents : List (List ℕ)) → AgreesAll k.trees contents → HasRoots k.trees.shape contents batch roots)
    → StaysOrSubmits k.pipeline p
    → ((volume : Volume) (d : Serving) → IsVolumeOf k.pipeline volume → PipelineStandsFor k.pipeline d → HasRoots k.pipeline.window.shape d.contents batch roots
    → after.outs.items ≡ first.outs.items ++ map out_of_letter (part_letters k.pipeline.window.shape (next_parts volume d batch)))
    → ((volume : Volume) (d : Serving) → IsVolumeOf k.pipeline volume → PipelineStandsFor k.pipeline d → HasRoots k.pipeline.window.shape d.contents batch roots → PipelineStandsFor p (with_batch volume d batch))
    → seq ≡ k.pipeline.window.last + 1
    → after.lines.items ≡ first.lines.items ++ line.Submit v seq ∷ []
    → IsSubmitted volume c v batch first (record k { pipeline = p; trees = trees }) after
submitted_whole volume c k v batch p trees roots first after seq same borne agrees rooted stays sent stands number printed =
    let has : HasRoots k.pipeline.window.shape c.contents batch roots = subst (λ s. HasRoots s c.contents batch roots) same (rooted c.contents borne.agrees) in
    record {
      borne = record {
        volume_is = record { geometry = borne.volume_is.geometry ∙ sym stays.shape; key = borne.volume_is.key ∙ sym stays.key };
        pipeline = stands volume c borne.volume_is borne.pipeline has;
        agrees = agrees c.contents borne.agrees;
        reads = borne.reads;
      };
      outs = subst (λ s. after.outs.items ≡ first.outs.items ++ map out_of_letter (part_letters s (next_parts volume c batch))) (sym borne.volume_is.geometry) (sent volume c borne.volume_is borne.pipeline has);
      lines = printed ∙ ap (λ n. first.lines.items ++ line.Submit v n ∷ []) (number ∙ ap (λ n. n + 1) borne.pipeline.window.last);
    }
