-- The law rests on the strings that are seen at the run's steps.
use Rattle.std.proofs.Common.{List, []}
use Rattle.merkle_region.specs.Tree.{NoTwoCollide}
use Rattle.merkle_region.proofs.Membership.{among_right, none-within}
use Rattle.schedule_text.specs.declared.schedule.Volume.{Volume}
use Rattle.schedule_text.specs.declared.schedule.Event.{Event}
use Rattle.salus_model.specs.declared.trace.TraceStep.{TraceStep}
use Rattle.salus_model.specs.Following.{Posted}
use Rattle.salus_model.specs.Hearing.{judge_of}
use Rattle.salus_model.specs.Due.{history_from}
use Rattle.salus_model.specs.Seen.{known_strings, strings_of, seen_strings, NoCollision}

-- no two different ones of them share a SHA-256 digest
abbrev pub NoStepCollides : Volume → List Event → List Posted → List TraceStep → Type 0
NoStepCollides volume events posts trace = NoTwoCollide (strings_of volume.geometry (history_from volume events posts [] trace))

pub steps_of_all : (volume : Volume) (events : List Event) (posts : List Posted) (trace : List TraceStep) → NoCollision volume events posts trace → NoStepCollides volume events posts trace
steps_of_all volume events posts trace none =
    let history = history_from volume events posts [] trace in
    none-within (strings_of volume.geometry history) (seen_strings volume.geometry events history)
    (λ x i. among_right x (known_strings volume.geometry (judge_of volume.geometry events history)) (strings_of volume.geometry history) i) none
