use Rattle.std.proofs.Common.{◌≡◌, ◌∙◌, map, sym, ap, subst}
use Rattle.std.specs.Prelude.{All}
use Rattle.std.proofs.lemmas.List.Elements.{All-push}
use Rattle.client_tag.specs.Ranges.{IsRecord}
use Rattle.client_tag.specs.Tags.{sealed}
use Rattle.client_window.specs.Window.{KeptWindow}
use Rattle.client_window.proofs.Stepped.{put_back}
use Rattle.client_pipeline.proofs.Posted.{sealed_all}
use Rattle.client_pipeline.proofs.Submitted.{submitted_stands, submitted_letters}
use Rattle.client_pipeline.proofs.pipeline.Pipeline.submit.Goals as goal

pub invariant_of-self-2 : goal.invariant_of-self-2
invariant_of-self-2 c =
    let made : c.from_vec.result ≡ map (sealed c.self.inside.key) c.in_ok-submit.field-0 =
    c.from_vec.ensures
    ∙ put_back (sealed c.self.inside.key) c.as_mut_slice.result.now c.seal_each.new.parts c.into_vec-parts.result.items c.into_vec-parts.result.len c.in_ok-seal_each.ensures.sealed c.as_mut_slice.ensures.len
    ∙ ap (map (sealed c.self.inside.key)) (c.as_mut_slice.ensures.value ∙ c.into_vec-parts.ensures) in
    subst (All (All IsRecord)) (sym c.in_ok-push_back.ensures.items)
    (All-push (All IsRecord) c.self.inside.parts.items c.from_vec.result c.self.invariant (sealed_all c.self.inside.key c.in_ok-submit.field-0 c.from_vec.result made c.in_ok-submit.ensures.records))

pub returns-clause-stands : goal.returns-clause-stands
returns-clause-stands c = λ volume s of stands are.
    let made : c.from_vec.result ≡ map (sealed c.self.inside.key) c.in_ok-submit.field-0 =
    c.from_vec.ensures
    ∙ put_back (sealed c.self.inside.key) c.as_mut_slice.result.now c.seal_each.new.parts c.into_vec-parts.result.items c.into_vec-parts.result.len c.in_ok-seal_each.ensures.sealed c.as_mut_slice.ensures.len
    ∙ ap (map (sealed c.self.inside.key)) (c.as_mut_slice.ensures.value ∙ c.into_vec-parts.ensures) in
    submitted_stands _ _ c.self.view_is volume s of stands c.args.batch.now c.args.roots.now are c.in_ok-submit.field-0 c.from_vec.result made (c.in_ok-submit.ensures.sealed volume s)
    c.submit.new.self c.push_back.new.self.items (c.in_ok-submit.ensures.stands volume s) c.in_ok-push_back.ensures.items

pub returns-clause-sent : goal.returns-clause-sent
returns-clause-sent c = λ volume s of stands are.
    let made : c.as_slice.result.now ≡ map (sealed c.self.inside.key) c.in_ok-submit.field-0 =
    c.as_slice.ensures.value
    ∙ put_back (sealed c.self.inside.key) c.as_mut_slice.result.now c.seal_each.new.parts c.into_vec-parts.result.items c.into_vec-parts.result.len c.in_ok-seal_each.ensures.sealed c.as_mut_slice.ensures.len
    ∙ ap (map (sealed c.self.inside.key)) (c.as_mut_slice.ensures.value ∙ c.into_vec-parts.ensures) in
    submitted_letters _ _ c.self.view_is volume s of stands c.args.batch.now c.args.roots.now are c.in_ok-submit.field-0 c.as_slice.result.now made (c.in_ok-submit.ensures.sealed volume s)
    c.geometry.result c.args.outs.now.items c.post_parts.new.outs.items (c.geometry.ensures ∙ ap (λ (w : KeptWindow). w.shape) c.in_ok-submit.ensures.window) c.in_ok-post_parts.ensures
