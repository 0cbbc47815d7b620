use Rattle.list_lemmas.proofs.Each.{all_then}
use Rattle.law_shown.proofs.Along.{nodes_show}
use Rattle.law_runs.proofs.Seams.{lines_are_legal}
use Rattle.law_posts.specs.Spelling.{IsSpellable}
use Rattle.law_posts.proofs.Running.{client_tags}
use Rattle.law_ranged.specs.Ranging.{IsSentWithin}
use Rattle.law_ranged.proofs.Along.{runs_within}
use Rattle.law_whole.proofs.runs_by_rules_are_legal.Goals as goal

pub returns : goal.returns
returns c volume events posts trace limits follows none unforged by =
    let kept = runs_within volume events posts trace limits follows by in
    lines_are_legal volume events posts trace limits follows none unforged
    (nodes_show volume events posts trace limits.volume follows kept.1 kept.0 by.nodes)
    (client_tags volume events posts trace limits follows (all_then (IsSentWithin volume.geometry) (λ l. IsSpellable l.message) (λ l sent. (sent.counts, sent.widths)) _ kept.2) by.client)
