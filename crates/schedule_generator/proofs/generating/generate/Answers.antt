use Rattle.std.proofs.Common.{◌≡◌, ◌∙◌, ap₂, sym, subst, ap, List}
use Rattle.schedule_text.specs.declared.schedule.Volume.{Volume}
use Rattle.schedule_text.specs.declared.schedule.Event.{Event}
use Rattle.schedule_text.specs.declared.schedule.Schedule.{Schedule}
use Rattle.schedule_text.specs.Grammar.{sessions_of}
use Rattle.schedule_text.specs.Limits.{IsWithinLimits}
use Rattle.schedule_text.specs.Printing.{HasBytes}
use Rattle.schedule_generator.proofs.Limited.{closed, limited, has_bytes}
use Rattle.schedule_generator.proofs.generating.generate.Goals as goal

made : (volume whole : Volume) (events all : List Event) → volume ≡ whole → events ≡ all
    → ◌≡◌ {A = Schedule} (record { volume = whole; events = all }) (record { volume = volume; events = events })
made volume whole events all v e = ap₂ (λ (x : Volume) (y : List Event). record { volume = x; events = y }) (sym v) (sym e)

pub returns-clause-limits : goal.returns-clause-limits
returns-clause-limits c =
    subst IsWithinLimits (made _ _ _ _ c.in_ok-volume.ensures c.in_ok-events.ensures) (limited c.args.seed c.args.rounds c.requires)

pub returns-clause-bytes : goal.returns-clause-bytes
returns-clause-bytes c = subst HasBytes (made _ _ _ _ c.in_ok-volume.ensures c.in_ok-events.ensures) (has_bytes c.args.seed c.args.rounds)

pub returns-clause-closed : goal.returns-clause-closed
returns-clause-closed c = ap sessions_of c.in_ok-events.ensures ∙ closed c.args.seed c.args.rounds
