-- The steps of the abstract world that a step of one node is.
use Rattle.std.specs.Prelude.{◌≡◌, ℕ, ◌==◌, true, if◌then◌else◌, List, Ok}
use Rattle.std.specs.List.{AllByRecursion}
use Rattle.salus_types.specs.Volume.{Shape}
use Rattle.salus_types.specs.declared.names.NodeName.{NodeName}
use Rattle.salus_message.specs.declared.wire.Message.{Message}
use Rattle.salus_message.specs.Spelling.{message_bytes}
use Rattle.salus_message.specs.Reading.{message_at}
use Rattle.salus_model.specs.declared.trace.Handed.{Handed}
use Rattle.salus_model.specs.declared.trace.Handed.TheVariants as handed
use Rattle.merkle_region.specs.Tree.{IsAmong}
use Rattle.volume_model.specs.Groups.{group_of}
use Rattle.replica_rules.specs.Rules.{Sending}
use Rattle.law_prefix.specs.Numbers.{Mem}
use Rattle.law_prefix.specs.Images.{Image}
use Rattle.law_prefix.specs.World.{Vote, Claim, Told, Reply, World, Volume}
use Rattle.law_prefix.specs.Run.{Run}
use Rattle.kept_model.specs.Nodes.{node_of}
use Rattle.kept_model.specs.Matching.{IsAmongSent}

-- the images of node r are these now, and those of the others as they were
abbrev pub with_images : (ℕ → List Image) → ℕ → List Image → ℕ → List Image
with_images images r now q = if q == r then now else images q

-- A run in which the client, and who counts and is fresh, stay as they are, and no message is taken back.
pub record Moves (v : Volume) (w x : World) : Type 0 where
  pub run : Run v w x
  pub client : x.client ≡ w.client
  pub counts : x.counts ≡ w.counts
  pub fresh : x.fresh ≡ w.fresh
  pub votes : (t : Vote) → Mem t w.votes → Mem t x.votes
  pub claims : (t : Claim) → Mem t w.claims → Mem t x.claims
  pub staged : (t : Told) → Mem t w.staged → Mem t x.staged
  pub switched : (t : Told) → Mem t w.switched → Mem t x.switched
  pub replies : (t : Reply) → Mem t w.replies → Mem t x.replies

-- what is read of a message of the node is among those sent
abbrev pub IsReadAmongSent : Shape → World → NodeName → Message → Type 0
IsReadAmongSent shape w name m = (read : Message) → message_at (message_bytes m) ≡ Ok read → IsAmongSent shape w name read

-- Such a run after which node r has these images, the others have theirs, and these messages of the node are among those sent.
pub record StepsTo (shape : Shape) (v : Volume) (name : NodeName) (r : ℕ) (now : List Image) (outs : List Sending) (w x : World) : Type 0 where
  pub moves : Moves v w x
  pub images : (q : ℕ) → x.images q ≡ with_images w.images r now q
  pub sent : AllByRecursion (λ out. IsReadAmongSent shape x name out.message) outs

-- there is one
pub record Refines (shape : Shape) (v : Volume) (name : NodeName) (r : ℕ) (now : List Image) (outs : List Sending) (w : World) : Type 0 where
  pub after : World
  pub to : StepsTo shape v name r now outs w after

-- it isn't replaced
abbrev pub StaysIn : Handed → Type 0
StaysIn handed.Replace = ⊥
StaysIn other = Unit {0}

-- each honest node stands in the group of its region, by its number
abbrev pub IsNumbered : Shape → Volume → Type 0
IsNumbered shape v = (r : ℕ) → v.honest r ≡ true → IsAmong (node_of shape r) (group_of shape (v.region r))
