-- The messages of a node, as the abstract model has them.
use Rattle.std.specs.Prelude.{ℕ, ◌-◌, Bool}
use Rattle.salus_types.specs.Volume.{Shape}
use Rattle.salus_types.specs.declared.names.NodeName.{NodeName}
use Rattle.salus_types.specs.declared.records.Held.{Held}
use Rattle.salus_message.specs.declared.small.Prepared.{Prepared}
use Rattle.salus_message.specs.declared.small.Committed.{Committed}
use Rattle.kept_model.specs.Nodes.{node_number}
use Rattle.kept_model.specs.Images.{image_of}
use Rattle.law_prefix.specs.World.{Vote, Claim, Told, Reply}

-- a vote for batch number `before + 1`
abbrev pub vote_as : Shape → NodeName → Prepared → Vote
vote_as shape name m = record { node = node_number shape name; session = m.session; before = m.seq - 1 }

-- a claim of a node that counted when it sent it, or didn't
abbrev pub claim_as : Shape → NodeName → Bool → Committed → Claim
claim_as shape name counted m = record { node = node_number shape name; session = m.session; front = m.front; counted = counted }

-- that it staged that session, or switched to it
abbrev pub told_as : Shape → NodeName → ℕ → Told
told_as shape name e = record { node = node_number shape name; session = e }

-- what it holds, to the gathering of that session
abbrev pub reply_as : Shape → NodeName → ℕ → Held → Reply
reply_as shape name e held = record { node = node_number shape name; session = e; held = image_of held }
