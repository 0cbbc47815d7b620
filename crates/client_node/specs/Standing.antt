-- Which clients of the rules one stands for, and that a step is one of the rules.
use Rattle.std.specs.Prelude.{◌≡◌, ◌≤◌, ℕ, map, length}
use Rattle.std.specs.List.{AllByRecursion}
use Rattle.salus_types.specs.Volume.{Shape}
use Rattle.salus_types.specs.declared.records.Write.{Write}
use Rattle.schedule_text.specs.declared.schedule.Volume.{Volume}
use Rattle.salus_model.specs.declared.trace.Request.{Request}
use Rattle.salus_model.specs.declared.trace.Request.TheVariants as request
use Rattle.client_rules.specs.State.{Client, Told}
use Rattle.posting.specs.Letters.{out_of_letter}
use Rattle.client_asking.specs.declared.step.Step.{Step}
use Rattle.client_node.specs.declared.node.ClientNode.{ClientNode}
use Rattle.client_node.specs.Phases.{shape_in, newest_in, Plays}

-- the volume's shape
abbrev pub shape_of : ClientNode → Shape
shape_of node = shape_in node.phase

-- no request of a greater event was taken
abbrev pub newest_of : ClientNode → ℕ
newest_of node = newest_in node.phase

-- It stands for that client of that volume: it is closed as that one is, or serves or opens a session as it does.
abbrev pub IsClient : ClientNode → Volume → Client → Type 0
IsClient node volume c = Plays volume node.phase c

-- It stands for what the rules make of the client, and the step has their messages and lines.
pub record IsTold (volume : Volume) (told : Told) (node : ClientNode) (step : Step) : Type 0 where
  pub client : IsClient node volume told.client
  pub outs : step.outs.items ≡ map out_of_letter told.outs
  pub lines : step.lines.items ≡ told.lines

-- A request as a schedule gives it: a write has at most 64 blocks, each of the volume's length.
abbrev pub IsAsked : Shape → Request → Type 0
IsAsked shape (request.Write batch) = (length batch ≤ 64) × AllByRecursion (λ (w : Write). length w.bytes ≡ shape.block) batch
IsAsked shape (request.Read b) = Unit {0}
IsAsked shape request.Barrier = Unit {0}
IsAsked shape (request.Restart session) = Unit {0}
IsAsked shape (request.Reassign session region) = Unit {0}
