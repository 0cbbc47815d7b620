use Rattle.std.proofs.Common.{◌≤◌, ◌∙◌, refl, sym, ap, subst}
use Rattle.salus_types.specs.Volume.{Shape}
use Rattle.salus_model.specs.Hearing.{Asks}
use Rattle.client_rules.specs.Rules.{told}
use Rattle.client_node.specs.declared.node.ClientNode.{ClientNode}
use Rattle.client_node.specs.Standing.{IsAsked, IsTold, shape_of, newest_of}
use Rattle.salus_world.proofs.Acting.{asked_of, asked_done}
use Rattle.salus_world.proofs.world.World.request.Goals as goal

pub request-requires-clause-asked : goal.request-requires-clause-asked
request-requires-clause-asked g c =
    let kept = c.requires.kept.6 in
    subst (λ (s : Shape). IsAsked s c.args.request) (kept.geometry ∙ sym kept.shape) (asked_of c.args.self.now.geometry c.args.request c.requires.within)

pub returns-clause-does : goal.returns-clause-does
returns-clause-does g c = λ origin volume all course low at kept.
    let step = c.in_ok-step.step in
    let client = c.tell.ensures.client in
    asked_done origin volume all c.args.event c.args.self.now c.tell.new.self course c.args.request step low kept c.requires.within
    (record { sent = c.in_ok-tell.ensures.sent; posts = refl; lowest = c.tell.ensures.same.1; geometry = c.tell.ensures.same.0 })
    (ap (λ v. v.items) c.tell.ensures.nodes) c.in_ok-tell.ensures.lines
    (λ d is. subst (λ (cl : ClientNode). IsTold volume (told volume d c.args.event (Asks c.args.request)) cl step) (sym client) (c.in_ok-step.ensures.rules volume d is))
    (ap shape_of client ∙ c.request.ensures.shape) (subst (λ (cl : ClientNode). newest_of cl ≤ c.args.event) (sym client) c.request.ensures.newest)
