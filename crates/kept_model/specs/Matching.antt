-- What it means that an abstract world matches a run after some steps.
use Rattle.std.specs.Prelude.{◌≡◌, ℕ, ◌<◌, ◌≤◌, Bool, true, List, map, Some, Ok}
use Rattle.salus_types.specs.Volume.{Shape}
use Rattle.salus_types.specs.declared.names.NodeName.{NodeName}
use Rattle.salus_types.specs.declared.names.Sender.TheVariants as sender
use Rattle.salus_types.specs.declared.records.Held.{Held}
use Rattle.salus_message.specs.declared.wire.Message.{Message}
use Rattle.salus_message.specs.declared.wire.Message.TheVariants as message
use Rattle.salus_message.specs.Reading.{message_at}
use Rattle.schedule_text.specs.declared.schedule.Event.{Event}
use Rattle.salus_model.specs.Following.{Posted, posted_at}
use Rattle.salus_model.specs.Hearing.{Past}
use Rattle.run_rules.specs.Knowing.{KnownNode}
use Rattle.law_prefix.specs.Numbers.{Mem}
use Rattle.law_prefix.specs.Images.{Image}
use Rattle.law_prefix.specs.World as abstract
use Rattle.kept_model.specs.Nodes.{node_number, node_of, is_honest}
use Rattle.kept_model.specs.Images.{image_of}
use Rattle.kept_model.specs.Messages.{vote_as, claim_as, told_as, reply_as}
use Rattle.kept_model.specs.Phases.{IsClientOf}
use Rattle.kept_model.specs.Counting.{counts_as, fresh_as}

-- the images of a node's disk are the contents that it may mean
abbrev pub images_as : Shape → (NodeName → KnownNode) → ℕ → List Image
images_as shape known r = map (λ (held : Held). image_of held) (known (node_of shape r)).contents

-- a message of that node, as the abstract world has it
abbrev pub IsAmongSent : Shape → abstract.World → NodeName → Message → Type 0
IsAmongSent shape w name (message.Prepared m) = Mem (vote_as shape name m) w.votes
IsAmongSent shape w name (message.Committed m) = (counted : Bool) × Mem (claim_as shape name counted m) w.claims
IsAmongSent shape w name (message.Staged m) = Mem (told_as shape name m.session) w.staged
IsAmongSent shape w name (message.Switched m) = Mem (told_as shape name m.session) w.switched
IsAmongSent shape w name (message.Gathered m) = Mem (reply_as shape name m.session m.held) w.replies
IsAmongSent shape w name other = Unit {0}

-- each message that an honest node posted, among the first that were sent, is one of the abstract world
abbrev pub AllAmongSent : Shape → List Event → List Posted → ℕ → abstract.World → Type 0
AllAmongSent shape events posts sent w =
    (k : ℕ) → 0 < k → k ≤ sent → (m : Posted) → posted_at posts k ≡ Some m → (name : NodeName) → m.from ≡ sender.Node name
    → is_honest shape events (node_number shape name) ≡ true → (x : Message) → message_at m.bytes ≡ Ok x → IsAmongSent shape w name x

-- After some steps, and so many messages: the client is as the history says, each disk has the images of the contents that it
-- may mean, the nodes that count and those that are fresh are those of the history, and no message of an honest node is missing.
pub record Matches (shape : Shape) (events : List Event) (posts : List Posted) (history : List Past) (known : NodeName → KnownNode) (sent : ℕ) (w : abstract.World) : Type 0 where
  pub client : IsClientOf shape events history w.client
  pub images : (r : ℕ) → w.images r ≡ images_as shape known r
  pub counts : (r : ℕ) → w.counts r ≡ counts_as shape events history r
  pub fresh : (r : ℕ) → w.fresh r ≡ fresh_as shape events history r
  pub messages : AllAmongSent shape events posts sent w
