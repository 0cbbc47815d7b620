use Rattle.std.proofs.Common.{refl}
use Rattle.salus_commands.proofs.Runs.{of_run}
use Rattle.salus_commands.proofs.replay.replay.Goals as goal

pub returns : goal.returns
returns c =
    let r = c.in_ok-ran.ensures.ends.runs in
    let trace = r.course.trace in
    record {
      trace = trace;
      told = r.course.told;
      run = of_run _ _ _ _ r (λ follows. record {
        steps = λ none unforged. c.every_run_is_apart.ensures.steps _ _ _ trace c.requires follows none unforged r.nodes r.client;
        lines = λ none unforged. c.every_run_is_apart.ensures.lines _ _ _ trace r.course.told c.requires follows none unforged r.nodes r.client r.told;
        due = λ none unforged. c.every_run_is_apart.ensures.due _ _ _ trace c.requires follows none unforged r.nodes r.client;
        legal = λ none unforged by. (c.runs_by_rules_are_legal.ensures _ _ _ trace c.requires follows none unforged by).1;
        kept = λ none unforged by guarded. (
          c.nothing_acknowledged_is_lost.ensures.kept _ _ _ trace c.requires follows none unforged by guarded,
          c.nothing_acknowledged_is_lost.ensures.found _ _ _ trace c.requires follows none unforged by guarded,
        );
        covered = λ none unforged by guarded. c.counting_nodes_cover.ensures _ _ _ trace c.requires follows none unforged by guarded;
        reads = λ none unforged calm by. c.reads_end_beside_every_lie.ensures _ _ _ trace c.requires follows none unforged calm by;
        reads_handed = λ none unforged calm by guarded. c.reads_end_with_room.ensures _ _ _ trace c.requires follows none unforged calm by guarded;
        answers = λ none unforged calm by. c.quiet_runs_are_complete.ensures _ _ _ trace c.requires follows none unforged calm by;
        closed_steps = λ closed none. c.runs_are_apart.ensures.steps _ _ _ trace c.requires closed follows none r.client;
        closed_lines = λ closed none. c.runs_are_apart.ensures.lines _ _ _ trace r.course.told c.requires closed follows none r.told;
        closed_due = λ closed. c.runs_are_apart.ensures.due _ _ _ trace c.requires closed follows;
      });
      left = c.in_ok-ran.ran;
      reported = refl;
      ends = c.in_ok-ran.ensures.ends;
      same_trace = refl;
      disks = c.in_ok-ran.ensures.disks;
    }
