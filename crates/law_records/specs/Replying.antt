-- Replies to a gathering, as the client has them and as the abstract model does.
use Rattle.std.specs.Prelude.{◌≡◌, ℕ, ◌<◌, List, Some, ◌++◌, flat_map}
use Rattle.salus_types.specs.Volume.{Shape, regions}
use Rattle.salus_types.specs.declared.records.Record.{Record}
use Rattle.schedule_text.specs.declared.schedule.Volume.{Volume}
use Rattle.merkle_region.specs.Tree.{IsAmong, NoTwoCollide}
use Rattle.volume_model.specs.Parts.{Session}
use Rattle.salus_model.specs.Judge.{Judge, known_at}
use Rattle.salus_model.specs.Hearing.{News}
use Rattle.salus_model.specs.Forgery.{IsUnforged}
use Rattle.salus_model.specs.Seen.{known_strings, news_strings}
use Rattle.salus_model.specs.Opening.{Reply}
use Rattle.law_history.specs.Showing.{records_shown}
use Rattle.law_prefix.specs.Numbers.{Mem}
use Rattle.law_prefix.specs.World as abstract
use Rattle.kept_model.specs.Batches.{list_at, start_at}
use Rattle.kept_model.specs.Messages.{reply_as}
use Rattle.kept_model.specs.Phases.{IsKnown}
use Rattle.kept_model.specs.Sound.{IsSoundHeld}
use Rattle.law_records.specs.Sessions.{IsCountable}

-- a reply of a node of the volume that holds what is sound
pub record IsSoundReply (shape : Shape) (key : List ℕ) (judge : Judge) (replies : List Reply) (reply : Reply) : Type 0 where
  pub among : IsAmong reply replies
  pub inside : reply.name.region < regions shape
  pub replica : reply.name.replica < shape.replicas
  pub held : IsSoundHeld shape key judge reply.name.region reply.held

-- the abstract reply is such a one
pub record IsOfSound (shape : Shape) (key : List ℕ) (judge : Judge) (replies : List Reply) (asked : ℕ) (t : abstract.Reply) : Type 0 where
  pub reply : Reply
  pub is : t ≡ reply_as shape reply.name asked reply.held
  pub sound : IsSoundReply shape key judge replies reply

-- what is known, and what nodes tell: no two different strings of it share a digest, and each genuine record was tagged
pub record IsTold (volume : Volume) (judge : Judge) (news : List News) : Type 0 where
  pub sessions : (known : Session) (e : ℕ) → known_at judge e ≡ Some known → IsCountable volume.geometry known
  pub apart : NoTwoCollide (known_strings volume.geometry judge ++ flat_map (news_strings volume.geometry) news)
  pub tagged : (x : News) → IsAmong x news → (rec : Record) → IsAmong rec (records_shown x) → IsUnforged volume judge rec

-- the abstract client knows the same sessions
pub record KnowsSame (shape : Shape) (judge : Judge) (c : abstract.Client) : Type 0 where
  pub lists : (e : ℕ) → c.lists e ≡ list_at shape judge e
  pub starts : (e : ℕ) → c.starts e ≡ start_at judge e
  pub known : (e : ℕ) → IsKnown judge e → Mem e c.known
