-- What is told where requests leave the waiting line.
use Rattle.std.proofs.Common.{◌≡◌, ◌∙◌, ℕ, ◌<◌, List, [], ◌∷◌, ◌++◌, map, length, refl, sym, ap, subst, arith, append_assoc}
use Rattle.std.specs.Prelude.{flat_map}
use Rattle.std.proofs.lemmas.List.{map-append}
use Rattle.std.proofs.lemmas.Grind.{flat_map-append}
use Rattle.salus_types.specs.Volume.{Shape}
use Rattle.schedule_text.specs.declared.schedule.Volume.{Volume}
use Rattle.salus_model.specs.Waiting.{Taken, left_of, questions}
use Rattle.posting.specs.Letters.{out_of_letter}
use Rattle.client_rules.specs.State.{Serving, Serves, ignored}
use Rattle.client_rules.specs.Tables.{asks, fresh, line_of, read_questions, head_questions}
use Rattle.client_rules.specs.Serving.{joined, leaves}
use Rattle.client_pipeline.specs.Pipeline.{KeptPipeline, Stays}
use Rattle.client_pipeline.specs.Standing.{StandsFor as PipelineStandsFor}
use Rattle.verified_read.specs.Table.{Table}
use Rattle.client_asking.specs.declared.step.Step.{Step}
use Rattle.client_asking.specs.Leaving.{Bears, HaveLeft, left_with}
use Rattle.client_asking.proofs.Heads.{questions_parted}
use Rattle.serving_client.specs.declared.inside.Core.{Core}
use Rattle.serving_client.specs.Keeping.{IsBorne, kept_of}
use Rattle.serving_client.specs.Standing.{IsTold, StandsFor}
use Rattle.serving_client.proofs.Standings.{stands_too}

pub leaves_told : (volume : Volume) (c : Serving) (k : Core) (p : KeptPipeline) (line : List Taken) (reads asked : Table) (first middle after : Step) → IsBorne volume k c
    → ((d : Serving) → Bears k.pipeline k.reads.asked d → HaveLeft k.pipeline.window.shape (left_of k.line) d first p reads.asked middle)
    → Stays k.pipeline p → line ≡ line_of k.line
    → asked.asked ≡ map (fresh p.window.shape) (head_questions p.window.shape line)
    → ((d : Serving) → PipelineStandsFor p d → after.outs.items ≡ middle.outs.items ++ map out_of_letter (flat_map (λ q. asks p.window.shape d q) (head_questions p.window.shape line)))
    → after.lines.items ≡ middle.lines.items
    → IsTold volume first after (kept_of (record k { pipeline = p; line = line; reads = reads; asked = asked })) (leaves volume.geometry c k.line)
unfolding leaves
leaves_told volume c k p line reads asked first middle after borne left stays is asks_it sent printed =
    let there : p.window.shape ≡ volume.geometry = stays.shape ∙ sym borne.volume_is.geometry in
    let gone : HaveLeft volume.geometry (left_of k.line) c first p reads.asked middle =
    subst (λ s. HaveLeft s (left_of k.line) c first p reads.asked middle) (sym borne.volume_is.geometry) (left c (record { stands = borne.pipeline; same = borne.reads })) in
    let head : asked.asked ≡ map (fresh volume.geometry) (head_questions volume.geometry (line_of k.line)) =
    subst (λ s. asked.asked ≡ map (fresh s) (head_questions s line)) there asks_it ∙ ap (λ l. map (fresh volume.geometry) (head_questions volume.geometry l)) is in
    let more : after.outs.items ≡ middle.outs.items ++ map out_of_letter (flat_map (λ q. asks volume.geometry c q) (head_questions volume.geometry (line_of k.line))) =
    subst (λ s. after.outs.items ≡ middle.outs.items ++ map out_of_letter (flat_map (λ q. asks s c q) (head_questions s line))) there (sent (left_with volume.geometry c (left_of k.line)) gone.bears.stands)
    ∙ ap (λ l. middle.outs.items ++ map out_of_letter (flat_map (λ q. asks volume.geometry c q) (head_questions volume.geometry l))) is in
    record {
      becomes = record {
        volume_is = record { geometry = sym there; key = borne.volume_is.key ∙ sym stays.key };
        pipeline = stands_too p (left_with volume.geometry c (left_of k.line)) (line_of k.line) (left_with volume.geometry c (left_of k.line)).reads
            (map (fresh volume.geometry) (head_questions volume.geometry (line_of k.line))) [] gone.bears.stands;
        agrees = borne.agrees;
        line = is;
        reads = gone.bears.same;
        asked = head;
      };
      adds = record {
        outs = more
            ∙ ap (λ l. l ++ map out_of_letter (flat_map (λ q. asks volume.geometry c q) (head_questions volume.geometry (line_of k.line)))) gone.outs
            ∙ append_assoc first.outs.items (map out_of_letter (flat_map (λ q. asks volume.geometry c q) (read_questions (left_of k.line))))
            (map out_of_letter (flat_map (λ q. asks volume.geometry c q) (head_questions volume.geometry (line_of k.line))))
            ∙ ap (λ l. first.outs.items ++ l)
            (sym
            (ap (λ qs. map out_of_letter (flat_map (λ q. asks volume.geometry c q) qs)) (questions_parted volume.geometry k.line)
            ∙ ap (map out_of_letter) (flat_map-append (λ q. asks volume.geometry c q) (read_questions (left_of k.line)) (head_questions volume.geometry (line_of k.line)))
            ∙ map-append out_of_letter (flat_map (λ q. asks volume.geometry c q) (read_questions (left_of k.line))) (flat_map (λ q. asks volume.geometry c q) (head_questions volume.geometry (line_of k.line)))));
        lines = printed ∙ gone.lines;
      };
    }

-- a request that joins a line where another waits
pub joined_behind : (shape : Shape) (c : Serving) (t : Taken) (line : List Taken) → 0 < length line → joined shape c t line ≡ ignored (Serves (record c { line = line ++ t ∷ [] }))
joined_behind shape c t [] some = absurd (omega (arith, some))
joined_behind shape c t (h ∷ line) some = refl

-- and one that joins where none does
pub joined_alone : (shape : Shape) (c : Serving) (t : Taken) (line : List Taken) → line ≡ [] → joined shape c t line ≡ leaves shape c (t ∷ [])
joined_alone shape c t line is = ap (joined shape c t) is

-- one more stands behind the others, and that is all
pub joined_stands : (volume : Volume) (k : Core) (c : Serving) (t : Taken) (line : List Taken) → line ≡ k.line ++ t ∷ [] → StandsFor volume (kept_of k) c
    → StandsFor volume (kept_of (record k { line = line; newest = t.event })) (record c { line = c.line ++ t ∷ [] })
joined_stands volume k c t line is stands = record {
  volume_is = stands.volume_is;
  pipeline = stands_too k.pipeline c (c.line ++ t ∷ []) c.reads c.asked c.known stands.pipeline;
  agrees = stands.agrees;
  line = is ∙ ap (λ l. l ++ t ∷ []) stands.line;
  reads = stands.reads;
  asked = stands.asked;
}
