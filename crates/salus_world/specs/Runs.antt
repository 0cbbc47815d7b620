-- What a run of a schedule gives.
use Rattle.std.specs.Prelude.{◌≡◌, true, List, length}
use Rattle.schedule_text.specs.declared.schedule.Volume.{Volume}
use Rattle.schedule_text.specs.declared.schedule.Event.{Event}
use Rattle.printed_lines.specs.declared.line.Line.{Line}
use Rattle.salus_model.specs.Following.{Posted, posts_of}
use Rattle.client_rules.specs.Rules.{new_client}
use Rattle.disk_model.specs.declared.memory.MemDisk.{MemDisk}
use Rattle.run_rules.specs.Run.{formatted_first}
use Rattle.run_rules.specs.Running.{NodesByRules, formatted}
use Rattle.run_rules.specs.Calm.{Calm}
use Rattle.client_premises.specs.Behind.{ClientStepsBehind, LinesBehind}
use Rattle.run_course.specs.Course.{Course, Goes, no_course, sent_so_far}
use Rattle.client_node.specs.Standing.{IsClient}
use Rattle.run_steps.specs.Steps.{known_at, OfClient}
use Rattle.salus_world.specs.declared.ran.Ran.{Ran}
use Rattle.salus_world.specs.declared.world.World.{World}
use Rattle.salus_world.specs.Places.{FitAll}
use Rattle.salus_world.specs.Kept.{Origin, IsKept, Went}

-- a formatted volume, whose disks fail only where an event lets them
abbrev pub formatted_origin : Volume → Origin
formatted_origin volume = record { first = formatted_first volume; sure = true }

-- The lines and the messages of a run whose trace follows the schedule. A call of a node's disk fails only where one may;
-- each node goes by its rules, and so does the client behind its premises; the lines are those of the course.
pub record Runs (volume : Volume) (events : List Event) (lines : List Line) (posts : List Posted) : Type 0 where
  pub course : Course
  pub goes : Goes posts 1 events no_course course
  pub all : sent_so_far course ≡ length posts
  pub calm : Calm events course.trace
  pub nodes : NodesByRules volume.geometry (formatted volume) posts course.trace
  pub client : ClientStepsBehind volume posts (new_client volume.geometry) 0 course.trace
  pub told : LinesBehind volume posts (new_client volume.geometry) course.trace course.told
  pub lines_told : lines ≡ course.lines

-- What is left of a run: its lines and messages, with its nodes and its client where the rules leave them after its trace. World
-- by world each event was done; a stop, a crash and a fail as they name the calls, the places that stay, and the fill.
pub record Ends (volume : Volume) (events : List Event) (ran : Ran) : Type 0 where
  pub runs : Runs volume events ran.lines (posts_of ran.messages)
  -- each node is silent exactly where it is known to be, and else as its rules leave it
  pub nodes : FitAll volume.geometry (known_at (formatted_first volume) volume (posts_of ran.messages) runs.course.trace) ran.nodes.items
  -- the client stands for that of the rules, behind the premises of all steps
  pub client : OfClient (formatted_first volume) volume (posts_of ran.messages) runs.course.trace (λ d. IsClient ran.client volume d)
  pub first : World MemDisk _ _
  pub last : World MemDisk _ _
  pub begun : IsKept (formatted_origin volume) volume events 1 1 first no_course
  pub went : Went (formatted_origin volume) volume events 1 events first last no_course runs.course
  pub same_nodes : ran.nodes.items ≡ last.nodes.items
  pub same_client : ran.client ≡ last.client
  pub same_messages : ran.messages ≡ last.sent.items
