use Rattle.std.proofs.Common.{◌≡◌, ◌^◌, ◌<◌, ◌≤◌, arith}
use Rattle.serving_client.proofs.Rooms.{kept_after_error}
use Rattle.serving_client.proofs.client.ServingClient.answer.Goals as goal

pub invariant_of-self-in-Err : goal.invariant_of-self-in-Err
invariant_of-self-in-Err c =
    kept_after_error c.self.inside.core c.take_answer.new.core c.give_up.new.core c.self.invariant c.take_answer.ensures.survives (omega (arith, c.take_answer.ensures.newest))
    (omega (arith, c.take_answer.ensures.newest, c.self.invariant.lined.low)) c.give_up.ensures
