-- Which clients a serving client stands for, and what is told of them.
use Rattle.std.proofs.Common.{◌≡◌, ◌∙◌, ℕ, List, [], ◌++◌, map, refl, sym, ap, subst, append_assoc, append-nil}
use Rattle.std.proofs.lemmas.List.{map-append}
use Rattle.salus_message.specs.declared.replies.Answer.{Answer}
use Rattle.schedule_text.specs.declared.schedule.Volume.{Volume}
use Rattle.printed_lines.specs.declared.line.Line.{Line}
use Rattle.salus_model.specs.Waiting.{Taken}
use Rattle.posting.specs.Letters.{out_of_letter}
use Rattle.client_rules.specs.State.{Open, Serving, Serves, Letter, Told, ignored, only_lines}
use Rattle.client_rules.specs.Serving.{before}
use Rattle.client_pipeline.specs.Pipeline.{KeptPipeline}
use Rattle.client_pipeline.specs.Standing.{StandsFor as PipelineStandsFor}
use Rattle.client_asking.specs.declared.step.Step.{Step}
use Rattle.serving_client.specs.declared.inside.Core.{Core}
use Rattle.serving_client.specs.Kept.{KeptServing}
use Rattle.serving_client.specs.Keeping.{IsBorne, kept_of}
use Rattle.serving_client.specs.Standing.{Becomes, IsTold, StandsFor}

-- the pipeline stands for a client whatever waits, is open, is asked or is known
pub stands_too : (p : KeptPipeline) (c : Serving) (line : List Taken) (reads asked : List Open) (known : List Answer) → PipelineStandsFor p c
    → PipelineStandsFor p (record c { line = line; reads = reads; asked = asked; known = known })
stands_too p c line reads asked known stands = record {
  window = record {
    session = stands.window.session;
    base = stands.window.base;
    last = stands.window.last;
    acked = stands.window.acked;
    numbers = stands.window.numbers;
    roots = stands.window.roots;
    leader = stands.window.leader;
    leaders = stands.window.leaders;
    claims = stands.window.claims;
    barriers = stands.window.barriers;
  };
  parts = stands.parts;
}

-- it is borne too
pub borne_of : (volume : Volume) (k : Core) (c : Serving) → StandsFor volume (kept_of k) c → IsBorne volume k c
borne_of volume k c stands = record { volume_is = stands.volume_is; pipeline = stands.pipeline; agrees = stands.agrees; reads = stands.reads }

module _ (volume : Volume) (kept : KeptServing) where
  -- nothing is told
  pub told_nothing : (step : Step) (c : Serving) → StandsFor volume kept c → IsTold volume step step kept (ignored (Serves c))
  told_nothing step c stands = record { becomes = stands; adds = record { outs = sym (append-nil step.outs.items); lines = sym (append-nil step.lines.items) } }

  -- the same is told
  pub told_same : (first after : Step) (told other : Told) → other ≡ told → IsTold volume first after kept told → IsTold volume first after kept other
  told_same first after told other is done = subst (λ t. IsTold volume first after kept t) (sym is) done

  -- something is told before
  pub told_before : (first middle after : Step) (outs : List Letter) (lines : List Line) (told : Told) → middle.outs.items ≡ first.outs.items ++ map out_of_letter outs → middle.lines.items ≡ first.lines.items ++ lines
      → IsTold volume middle after kept told → IsTold volume first after kept (before outs lines told)
  told_before first middle after outs lines told sent printed done = record {
    becomes = done.becomes;
    adds = record {
      outs = done.adds.outs ∙ ap (λ l. l ++ map out_of_letter told.outs) sent ∙ append_assoc first.outs.items (map out_of_letter outs) (map out_of_letter told.outs)
          ∙ ap (λ l. first.outs.items ++ l) (sym (map-append out_of_letter outs told.outs));
      lines = done.adds.lines ∙ ap (λ l. l ++ told.lines) printed ∙ append_assoc first.lines.items lines told.lines;
    };
  }

  -- only lines are told
  pub told_lines : (first after : Step) (c : Serving) (lines : List Line) → StandsFor volume kept c → after.outs.items ≡ first.outs.items → after.lines.items ≡ first.lines.items ++ lines
      → IsTold volume first after kept (only_lines (Serves c) lines)
  told_lines first after c lines stands sent printed = record { becomes = stands; adds = record { outs = sent ∙ sym (append-nil first.outs.items); lines = printed } }

-- whatever the newest request is
pub stands_newer : (volume : Volume) (k : Core) (v : ℕ) (c : Serving) → StandsFor volume (kept_of k) c → StandsFor volume (kept_of (record k { newest = v })) c
stands_newer volume k v c stands = record { volume_is = stands.volume_is; pipeline = stands.pipeline; agrees = stands.agrees; line = stands.line; reads = stands.reads; asked = stands.asked }
