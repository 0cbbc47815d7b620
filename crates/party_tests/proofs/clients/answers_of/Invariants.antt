use Rattle.std.proofs.Common.{◌≡◌, ◌≤◌}
use Rattle.client_node.specs.Standing.{newest_of, shape_of}
use Rattle.party_tests.proofs.clients.answers_of.Given as goal

abbrev pub invariant-rows : goal.invariant-rows
invariant-rows l =
    (goal.iterator-rows).can_next l.row-iterator × (goal.iterator-rows).is_finite l.row-iterator × ((shape_of l.client).block ≡ 1) × (newest_of l.client ≤ l.event)
