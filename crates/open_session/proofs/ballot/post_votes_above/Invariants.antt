use Rattle.std.proofs.Common.{◌≡◌, ◌++◌, take, [], if◌then◌else◌, nat_lt}
use Rattle.std.specs.List.{flat_map}
use Rattle.open_session.specs.Voting.{ballots_of}
use Rattle.open_session.proofs.ballot.post_votes_above.Given as goal

abbrev pub invariant-parts : goal.invariant-parts
invariant-parts l =
    l.outs.items ≡ l.initial.outs.items ++ flat_map (λ rec. if nat_lt l.number rec.header.seq then ballots_of l.geometry rec else []) (take l.rec-index l.parts)
