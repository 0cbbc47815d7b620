use Rattle.std.proofs.Common.{◌≡◌, ◌∙◌, sym, ap, ap₂, refl, subst}
use Rattle.client_rules.specs.Serving.{joined}
use Rattle.client_asking.specs.Lining.{IsAccepted}
use Rattle.serving_client.specs.Keeping.{kept_of}
use Rattle.serving_client.proofs.Rooms.{kept_later}
use Rattle.serving_client.proofs.Standings.{stands_newer, told_lines, told_same}
use Rattle.serving_client.proofs.Ruling.{request_refused, request_taken}
use Rattle.serving_client.proofs.requests.take_request.Goals as goal

pub returns-in_ok-push-in-Some-clause-kept : goal.returns-in_ok-push-in-Some-clause-kept
returns-in_ok-push-in-Some-clause-kept c = kept_later c.args.core.now c.args.event c.requires.kept c.requires.later c.requires.low

pub returns-in_ok-push-in-Some-clause-told : goal.returns-in_ok-push-in-Some-clause-told
returns-in_ok-push-in-Some-clause-told c = λ volume client stands.
    told_same volume (kept_of (record c.args.core.now { newest = c.args.event })) c.args.step.now (record { outs = c.args.step.now.outs; lines = c.push.new.self }) _ _
    (request_refused volume.geometry client c.args.event c.args.request c.in-Some.cause (sym (c.in-Some.ensures.told volume client stands)))
    (told_lines volume (kept_of (record c.args.core.now { newest = c.args.event })) c.args.step.now (record { outs = c.args.step.now.outs; lines = c.push.new.self }) client _
    (stands_newer volume c.args.core.now c.args.event client stands) refl c.in_ok-push-in-Some.ensures.items)

pub returns-in_ok-enter-in-None-clause-told : goal.returns-in_ok-enter-in-None-clause-told
returns-in_ok-enter-in-None-clause-told c = λ volume client stands.
    told_same volume (kept_of c.enter.new.core) c.args.step.now c.enter.new.step _ _
    (request_taken volume.geometry client c.args.event c.args.request (sym (c.in-None.ensures.told volume client stands))
    (subst (λ s. IsAccepted s c.args.request) (sym stands.volume_is.geometry) (c.in-None.ensures.room c.requires.sized).accepted)
    ∙ sym (ap₂ (λ v r. joined volume.geometry client (record { event = v; request = r }) client.line) c.new.ensures.event c.new.ensures.request))
    (c.in_ok-enter-in-None.ensures.told volume client stands)
