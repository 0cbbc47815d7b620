use Rattle.std.proofs.Common.{◌≡◌, IfSome, Option, subst}
use Rattle.salus_types.specs.Volume.{Shape}
use Rattle.salus_model.specs.declared.trace.Request.{Request}
use Rattle.client_node.specs.Standing.{IsAsked, shape_of}
use Rattle.party_tests.proofs.clients.hand.Goals as goal

pub request-requires-clause-asked : goal.request-requires-clause-asked
request-requires-clause-asked c =
    subst (λ (found : Option Request). IfSome found (λ (request : Request). (shape : Shape) → shape.block ≡ 1 → IsAsked shape request)) c.in-Some.is c.in_ok-request.ensures
    (shape_of c.args.client.now) c.requires.block
