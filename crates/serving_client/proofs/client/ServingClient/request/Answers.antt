use Rattle.std.proofs.Common.{◌≡◌, ◌^◌, ◌<◌, ◌≤◌, ap, arith}
use Rattle.serving_client.specs.Kept.{KeptServing}
use Rattle.serving_client.proofs.Rooms.{kept_after_error}
use Rattle.serving_client.proofs.client.ServingClient.request.Goals as goal

pub invariant_of-self-in-Err : goal.invariant_of-self-in-Err
invariant_of-self-in-Err c =
    kept_after_error c.self.inside.core c.take_request.new.core c.give_up.new.core c.self.invariant c.take_request.ensures.survives
    (omega (arith, ap (λ (k : KeptServing). k.newest) c.self.view_is, c.take_request.ensures.newest, c.requires.later)) (omega (arith, c.take_request.ensures.newest, c.requires.event)) c.give_up.ensures
