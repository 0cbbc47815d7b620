use Rattle.std.proofs.Common.{◌≡◌, ◌∙◌, ◌≤◌, ℕ, List, length, Result, Ok, Err, IfOk, ap, sym, subst}
use Rattle.std.specs.declared.vec.Vec.{Vec}
use Rattle.schedule_text.specs.declared.schedule.Schedule.{Schedule}
use Rattle.schedule_text.specs.Grammar.{IsSchedule}
use Rattle.schedule_text.specs.Printing.{printed}
use Rattle.schedule_text.proofs.Wholly.{one_schedule}
use Rattle.schedule_generator.specs.Generator.{generated}
use Rattle.schedule_generator.proofs.Limited.{limited, has_bytes, text_short}
use Rattle.schedule_text.proofs.Printed.{text-means}
use Rattle.schedule_generator.proofs.generating.generated_text.Goals as goal

means : (seed rounds : ℕ) (text : List ℕ) → rounds ≤ 10000 → text ≡ printed (generated seed rounds) → IsSchedule text (generated seed rounds)
means seed rounds text few is =
    text-means (generated seed rounds) text is (limited seed rounds few) (has_bytes seed rounds)
    (subst (λ (t : List ℕ). length t ≤ 67108864) (sym is) (text_short seed rounds few))

if_ok : {X E : Type 0} (P Q : X → Type 0) (r : Result X E) → ((x : X) → P x → Q x) → IfOk r P → IfOk r Q
if_ok P Q (Ok x) gives holds = gives x holds
if_ok P Q (Err e) gives holds = tt

pub returns-clause-means : goal.returns-clause-means
returns-clause-means c =
    let same = c.in_ok-schedule.ensures.value in
    if_ok _ _ c.print.result (λ text is. means c.args.seed c.args.rounds text.items c.requires (is ∙ ap printed same)) c.print.ensures.text

pub returns-clause-one : goal.returns-clause-one
returns-clause-one c =
    let same = c.in_ok-schedule.ensures.value in
    if_ok _ _ c.print.result (λ text is other says. one_schedule text.items (generated c.args.seed c.args.rounds) other (means c.args.seed c.args.rounds text.items c.requires (is ∙ ap printed same)) says) c.print.ensures.text
