use Rattle.std.proofs.Common.{◌≡◌, ◌++◌, map, take}
use Rattle.std.specs.Prelude.{flat_map}
use Rattle.posting.specs.Letters.{out_of_letter}
use Rattle.client_rules.specs.State.{Serving}
use Rattle.client_rules.specs.Tables.{asks}
use Rattle.client_pipeline.specs.Standing.{StandsFor}
use Rattle.verified_read.specs.Table.{questions_in}
use Rattle.serving_client.proofs.ticking.ask_again.Given as goal

abbrev pub invariant-each : goal.invariant-each
invariant-each l =
    (c : Serving) → StandsFor l.pipeline c → l.outs.items ≡ l.fn.outs.items ++ map out_of_letter (flat_map (λ q. asks l.pipeline.window.shape c q) (take l.i (questions_in l.questions.asked)))
