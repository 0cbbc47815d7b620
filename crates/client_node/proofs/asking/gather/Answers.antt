use Rattle.std.proofs.Common.{◌≡◌, ◌∙◌, sym, ap}
use Rattle.client_rules.specs.Opening.{restarted}
use Rattle.client_node.specs.Phases.{key_in}
use Rattle.client_node.proofs.Opened.{its_volume, opens_by}
use Rattle.client_node.proofs.asking.gather.Goals as goal

pub returns-clause-rules : goal.returns-clause-rules
returns-clause-rules c = λ volume client plays.
    let its = its_volume volume c.args.phase.now client plays in
    let geometry : volume.geometry ≡ c.geometry-geometry.result = its.0 ∙ sym c.geometry-geometry.ensures in
    let key : volume.key ≡ c.into_key-key.result = its.1 ∙ sym (c.into_key-key.ensures ∙ ap key_in c.take.ensures.taken) in
    opens_by volume c.geometry-geometry.result c.args.step.now c.restart.new.step c.in_ok-opening.opening (λ s. restarted s c.args.session) geometry (c.in_ok-opening.ensures.told volume geometry key)
