-- What is told of a claim.
use Rattle.std.proofs.Common.{◌≡◌, ◌∙◌, ℕ, ◌+◌, Bool, List, [], ◌∷◌, ◌++◌, refl, sym, ap, subst, append-nil}
use Rattle.list_lemmas.proofs.Tests.{way_with}
use Rattle.salus_types.specs.Volume.{Shape}
use Rattle.salus_types.specs.declared.names.NodeName.{NodeName}
use Rattle.schedule_text.specs.declared.schedule.Volume.{Volume}
use Rattle.salus_model.specs.Waiting.{Taken}
use Rattle.client_rules.specs.State.{Open, Serving, Unacked}
use Rattle.client_rules.specs.Tables.{all_claimed}
use Rattle.client_rules.specs.Serving.{Acked, acked_one, acked_lines, acked_told, acks, claimed}
use Rattle.client_pipeline.specs.Pipeline.{KeptPipeline, Stays}
use Rattle.client_pipeline.specs.Standing.{StandsFor as PipelineStandsFor}
use Rattle.pruned_volume.specs.Trees.{AgreesAll}
use Rattle.client_asking.specs.declared.step.Step.{Step}
use Rattle.serving_client.specs.declared.inside.Core.{Core}
use Rattle.serving_client.specs.Keeping.{kept_of}
use Rattle.serving_client.specs.Standing.{IsTold, StandsFor}

-- blocks, waiting line, open reads and questions are the same
record HasSame (c d : Serving) : Type 0 where
  contents : d.contents ≡ c.contents
  line : d.line ≡ c.line
  reads : d.reads ≡ c.reads
  asked : d.asked ≡ c.asked

same_acked : (shape : Shape) (c : Serving) (us : List Unacked) → HasSame c (acks shape c us).client
unfolding acks
same_acked shape c [] = record { contents = refl; line = refl; reads = refl; asked = refl }
same_acked shape c (u ∷ left) =
    let rest : HasSame (acked_one c left) (acks shape (acked_one c left) left).client = same_acked shape (acked_one c left) left in
    way_with (all_claimed shape c.claims u.leader (c.acked + 1))
    (record { client = (acks shape (acked_one c left) left).client; lines = acked_lines c ++ (acks shape (acked_one c left) left).lines }) (record { client = c; lines = [] })
    (λ (a : Acked). HasSame c a.client)
    (λ t. record { contents = rest.contents; line = rest.line; reads = rest.reads; asked = rest.asked })
    (λ t. record { contents = refl; line = refl; reads = refl; asked = refl })

pub told_claim : (volume : Volume) (k : Core) (p : KeptPipeline) (c : Serving) (name : NodeName) (front : ℕ) (first after : Step) → StandsFor volume (kept_of k) c → Stays k.pipeline p
    → ((d : Serving) → PipelineStandsFor k.pipeline d → PipelineStandsFor p (acks k.pipeline.window.shape (claimed d name front) d.unacked).client)
    → ((d : Serving) → PipelineStandsFor k.pipeline d → after.lines.items ≡ first.lines.items ++ (acks k.pipeline.window.shape (claimed d name front) d.unacked).lines)
    → after.outs.items ≡ first.outs.items
    → IsTold volume first after (kept_of (record k { pipeline = p })) (acked_told (acks volume.geometry (claimed c name front) c.unacked))
told_claim volume k p c name front first after stands stays become printed sent =
    let same : HasSame (claimed c name front) (acks volume.geometry (claimed c name front) c.unacked).client = same_acked volume.geometry (claimed c name front) c.unacked in
    record {
      becomes = record {
        volume_is = record { geometry = stands.volume_is.geometry ∙ sym stays.shape; key = stands.volume_is.key ∙ sym stays.key };
        pipeline = subst (λ s. PipelineStandsFor p (acks s (claimed c name front) c.unacked).client) (sym stands.volume_is.geometry) (become c stands.pipeline);
        agrees = subst (λ contents. AgreesAll k.trees contents) (sym same.contents) stands.agrees;
        line = stands.line ∙ sym same.line;
        reads = stands.reads ∙ sym same.reads;
        asked = stands.asked ∙ sym same.asked;
      };
      adds = record {
        outs = sent ∙ sym (append-nil first.outs.items);
        lines = subst (λ s. after.lines.items ≡ first.lines.items ++ (acks s (claimed c name front) c.unacked).lines) (sym stands.volume_is.geometry) (printed c stands.pipeline);
      };
    }
