-- Each session stands for some memory of the rules.
use Rattle.std.proofs.Common.{◌≡◌, List, [], ◌∷◌, map, refl, ap}
use Rattle.salus_types.specs.declared.records.Header.{Header}
use Rattle.replica_rules.specs.Leading.{Leader}
use Rattle.replica_rules.specs.Nodes.{Memory}
use Rattle.unanimous_certificate.specs.Kept.{votes_in, claims_in}
use Rattle.pipelined_commit.specs.Noting.{Noted, noted_of}
use Rattle.pipelined_commit.specs.Standing.{KeptLeader, StandsFor as LeaderStands}
use Rattle.open_session.specs.Kept.{KeptSession}
use Rattle.open_session.specs.Standing.{StandsFor}

-- a header with that number, those regions and that leader before
header_of : Noted → Header
header_of n = record { version = 1; session = 0; seq = n.seq; region = 0; previous = 0; leader_before = n.leader_before; fronts = []; touched = n.touched; root = []; top = [] }

headers_noted : (notes : List Noted) → notes ≡ map noted_of (map header_of notes)
unfolding header_of
headers_noted [] = refl
headers_noted (n ∷ notes) = ap (λ (l : List Noted). n ∷ l) (headers_noted notes)

leader_of : KeptLeader → Leader
leader_of kept = record { base = kept.base; front = kept.front; noted = map header_of kept.noted; votes = votes_in kept.votes; claims = claims_in kept.claims }

leader_stands : (kept : KeptLeader) → LeaderStands kept (leader_of kept)
unfolding leader_of
leader_stands kept = record { base = refl; front = refl; noted = headers_noted kept.noted; votes = refl; claims = refl }

pub memory_for : KeptSession → Memory
memory_for kept = record { replica = kept.replica; leader = leader_of kept.leader; parts = kept.parts; begun = kept.begun; whole = kept.whole }

pub memory_stands : (kept : KeptSession) → StandsFor kept (memory_for kept)
unfolding memory_for
memory_stands kept = record { replica = refl; leader = leader_stands kept.leader; parts = refl; begun = refl; whole = refl }
