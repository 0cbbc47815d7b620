-- The premise on digests of one step of a client that keeps roots and pruned trees in place of blocks.
use Rattle.std.specs.Prelude.{◌≡◌, true, ◌++◌}
use Rattle.salus_types.specs.Volume.{Shape}
use Rattle.salus_types.specs.declared.names.NodeName.{NodeName}
use Rattle.salus_message.specs.declared.replies.Answer.{Answer}
use Rattle.salus_message.specs.declared.carried.Gathered.{Gathered}
use Rattle.salus_message.specs.declared.wire.Message.{Message}
use Rattle.salus_message.specs.declared.wire.Message.TheVariants as message
use Rattle.merkle_region.specs.Tree.{path_strings, NoTwoCollide}
use Rattle.schedule_text.specs.declared.schedule.Volume.{Volume}
use Rattle.volume_model.specs.Contents.{place_of, contents_strings}
use Rattle.volume_model.specs.Recovering.{Pool}
use Rattle.restart_pool.specs.Assembled.{NoTwoShare, pool_strings}
use Rattle.salus_model.specs.Hearing.{News, Says}
use Rattle.client_rules.specs.State.{Serving, Gathering, Client, Serves, Gathers}
use Rattle.client_rules.specs.Opening.{all_answered, with_reply_of}

-- no two different strings of the contents' digests, and of the answer's block and path, share a digest
abbrev pub AnswerIsApart : Shape → Serving → Answer → Type 0
AnswerIsApart shape c a = NoTwoCollide (contents_strings shape c.contents ++ path_strings (place_of shape a.block) a.bytes a.path)

-- no two different records of the pool share session, number and region, and no two different strings of its chains a digest
pub record PoolIsApart (shape : Shape) (pool : Pool) : Type 0 where
  pub named : NoTwoShare pool
  pub hashed : NoTwoCollide (pool_strings shape pool)

-- once all replies are in, so it is of what they bring
abbrev pub AllIsApart : Shape → Gathering → Type 0
AllIsApart shape g = all_answered shape g.answered ≡ true → PoolIsApart shape g.pool

abbrev pub ReplyIsApart : Volume → Gathering → NodeName → Gathered → Type 0
ReplyIsApart volume g name m = m.session ≡ g.session → AllIsApart volume.geometry (with_reply_of volume name m.held g)

abbrev pub ServingIsApart : Volume → Serving → Message → Type 0
ServingIsApart volume c (message.Answer a) = AnswerIsApart volume.geometry c a
ServingIsApart volume c other = Unit {0}

abbrev pub GatheringIsApart : Volume → Gathering → NodeName → Message → Type 0
GatheringIsApart volume g name (message.Gathered m) = ReplyIsApart volume g name m
GatheringIsApart volume g name other = Unit {0}

abbrev pub MessageIsApart : Volume → Client → NodeName → Message → Type 0
MessageIsApart volume (Serves c) name m = ServingIsApart volume c m
MessageIsApart volume (Gathers g) name m = GatheringIsApart volume g name m
MessageIsApart volume other name m = Unit {0}

-- An answer to a client that serves, or a reply to one that gathers, has its premise. Anything else has none.
unfoldable pub IsApart : Volume → Client → News → Type 0
IsApart volume c (Says name m) = MessageIsApart volume c name m
IsApart volume c other = Unit {0}
