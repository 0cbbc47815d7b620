use Rattle.std.proofs.Common.{◌≡◌, ◌++◌, map, take, drop}
use Rattle.client_window.specs.Parting.{topped}
use Rattle.client_window.proofs.parts.put_top.Given as goal

abbrev pub invariant-parts : goal.invariant-parts
invariant-parts l = l.parts ≡ map (topped l.top) (take l.part-index l.fn.parts) ++ drop l.part-index l.fn.parts
