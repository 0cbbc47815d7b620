use Rattle.std.proofs.Common.{◌≡◌, ◌≤◌, ◌∙◌, ◌+◌, ◌++◌, ◌∷◌, [], length, ap, sym, subst, length-append}
use Rattle.salus_types.specs.Volume.{regions}
use Rattle.volume_model.specs.Contents.{roots_of}
use Rattle.client_pipeline.specs.Standing.{StandsFor}
use Rattle.client_pipeline.specs.Pipeline.{KeptPipeline}
use Rattle.client_pipeline.proofs.Posted.{all_roots, take_more}
use Rattle.client_pipeline.proofs.pipeline.Pipeline.roots.Goals as goal

pub regions-preserved : goal.regions-preserved
regions-preserved c = (
  c.in_ok-push.ensures.ok ∙ ap (λ l. l ++ c.root_of.result ∷ []) c.regions.invariant.0 ∙ sym (take_more c.self.inside.window.roots c.regions.region c.root_of.result c.root_of.ensures.root),
  ap length c.in_ok-push.ensures.ok ∙ length-append c.regions.roots (c.root_of.result ∷ []) ∙ ap (λ n. n + 1) c.regions.invariant.1,
)

pub returns-clause-stands : goal.returns-clause-stands
returns-clause-stands c = λ s stands.
    let here : StandsFor (record { window = c.self.inside.window; parts = c.self.inside.parts.items; key = c.self.inside.key }) s = subst (λ k. StandsFor k s) (sym c.self.view_is) stands in
    let shape : c.geometry.result ≡ c.args.self.now.window.shape = c.geometry.ensures ∙ ap (λ (k : KeptPipeline). k.window.shape) c.self.view_is in
    let count : regions c.args.self.now.window.shape ≤ c.regions.region = subst (λ n. n ≤ c.regions.region) (c.regions-count.ensures.value ∙ ap regions shape) c.regions-test.false in
    all_roots c.args.self.now.window.shape s.contents c.self.inside.window.roots c.regions.roots c.regions.region count c.regions.invariant.0
    (here.window.roots ∙ ap (λ (k : KeptPipeline). roots_of k.window.shape s.contents) c.self.view_is)
