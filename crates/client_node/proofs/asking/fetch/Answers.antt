use Rattle.std.proofs.Common.{◌≡◌, ◌∙◌, sym, ap, subst}
use Rattle.salus_types.specs.Volume.{Shape}
use Rattle.client_rules.specs.State.{Serves}
use Rattle.client_rules.specs.Serving.{fetches}
use Rattle.session_opening.specs.Fetched.{IsServed}
use Rattle.client_node.specs.Phases.{key_in}
use Rattle.client_node.proofs.Opened.{its_volume, opens_by}
use Rattle.client_node.proofs.asking.fetch.Goals as goal

pub returns-clause-rules : goal.returns-clause-rules
returns-clause-rules c = λ volume client plays served.
    let its = its_volume volume c.args.phase.now (Serves client) plays in
    let geometry : volume.geometry ≡ c.geometry-geometry.result = its.0 ∙ sym c.geometry-geometry.ensures in
    let key : volume.key ≡ c.into_key-key.result = its.1 ∙ sym (c.into_key-key.ensures ∙ ap key_in c.take.ensures.taken) in
    opens_by volume c.geometry-geometry.result c.args.step.now c.reassign.new.step c.in_ok-opening.opening (λ s. fetches s client c.args.session c.args.region) geometry
    (c.in_ok-opening.ensures.told volume client geometry key (subst (λ (s : Shape). IsServed s c.args.served client) geometry served))
