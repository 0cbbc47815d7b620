use Rattle.std.proofs.Common.{◌≡◌, ◌++◌, map, take}
use Rattle.std.specs.Prelude.{flat_map}
use Rattle.salus_model.specs.Waiting.{questions_from}
use Rattle.posting.specs.Letters.{out_of_letter}
use Rattle.client_rules.specs.State.{Serving}
use Rattle.client_rules.specs.Tables.{asks, fresh}
use Rattle.client_pipeline.specs.Standing.{StandsFor}
use Rattle.client_asking.proofs.head.ask_each.Given as goal

abbrev pub invariant-questions : goal.invariant-questions
invariant-questions l =
    (l.asked.asked ≡ map (fresh l.pipeline.window.shape) (questions_from l.event 1 (take l.i l.written)))
    × (l.asked.shape ≡ l.pipeline.window.shape)
    × ((c : Serving) → StandsFor l.pipeline c
    → l.outs.items ≡ l.fn.outs.items ++ map out_of_letter (flat_map (λ q. asks l.pipeline.window.shape c q) (questions_from l.event 1 (take l.i l.written))))
