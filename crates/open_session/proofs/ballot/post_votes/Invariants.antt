use Rattle.std.proofs.Common.{◌≡◌, ◌++◌, take}
use Rattle.std.specs.List.{flat_map}
use Rattle.open_session.specs.Voting.{ballots_of}
use Rattle.open_session.proofs.ballot.post_votes.Given as goal

abbrev pub invariant-parts : goal.invariant-parts
invariant-parts l = l.outs.items ≡ l.initial.outs.items ++ flat_map (λ rec. ballots_of l.geometry rec) (take l.rec-index l.parts)
