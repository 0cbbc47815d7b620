use Rattle.std.proofs.Common.{◌≡◌, ◌∙◌, ap, refl}
use Rattle.client_rules.specs.Serving.{refusal_here}
use Rattle.serving_client.proofs.Refusing.{looked_at, none_fits, none_is_within}
use Rattle.serving_client.proofs.requests.refusal_of.Goals as goal

pub returns-clause-room : goal.returns-clause-room
returns-clause-room c =
    none_fits c.args.core.now c.args.request.now c.refusal.result
    (c.refusal.ensures (looked_at c.args.core.now)
    (record { last = c.submitted.ensures.number; acked = c.acked.ensures.number; reads = c.count.ensures.count; barriers = c.waiting.ensures.count; waiting = refl })
    ∙ ap (λ s. refusal_here s (looked_at c.args.core.now) c.args.request.now) c.geometry-geometry.ensures)

pub returns-clause-region : goal.returns-clause-region
returns-clause-region c =
    none_is_within c.args.core.now c.args.request.now c.refusal.result
    (c.refusal.ensures (looked_at c.args.core.now)
    (record { last = c.submitted.ensures.number; acked = c.acked.ensures.number; reads = c.count.ensures.count; barriers = c.waiting.ensures.count; waiting = refl })
    ∙ ap (λ s. refusal_here s (looked_at c.args.core.now) c.args.request.now) c.geometry-geometry.ensures)
