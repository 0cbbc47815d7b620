-- What becomes of an open read of a client that serves.
use Rattle.std.specs.Prelude.{◌≡◌, ◌⊎◌, ℕ, zero, suc, Bool, true, ◌==◌, ◌&&◌, List, [], ◌∷◌, replicate, Option, None}
use Rattle.std.specs.List.{AllByRecursion}
use Rattle.salus_types.specs.Volume.{Shape}
use Rattle.salus_types.specs.declared.names.NodeName.{NodeName}
use Rattle.salus_types.specs.declared.strike.Strike.{Strike}
use Rattle.salus_message.specs.declared.replies.Answer.{Answer}
use Rattle.salus_message.specs.declared.wire.Message.TheVariants as message
use Rattle.printed_lines.specs.declared.line.Line.{Line}
use Rattle.printed_lines.specs.declared.line.Line.TheVariants as line
use Rattle.merkle_region.specs.Tree.{IsAmong}
use Rattle.volume_model.specs.Contents.{region_of}
use Rattle.volume_model.specs.Groups.{group_of}
use Rattle.salus_model.specs.Hearing.{News, Says}
use Rattle.salus_model.specs.Answering.{Struck, is_fitting}
use Rattle.client_rules.specs.State.{Open, Serving, Letter, Client, Serves}
use Rattle.client_rules.specs.Tables.{answers, worth, ask_of}

-- replica i has no strike there
unfoldable pub UnstruckAt : ℕ → List (Option Strike) → Type 0
UnstruckAt i [] = ⊥
UnstruckAt zero (s ∷ strikes) = s ≡ None
UnstruckAt (suc i) (s ∷ strikes) = UnstruckAt i strikes

-- the open reads of a client have different numbers
abbrev pub HaveOwnNumbers : List Open → Type 0
HaveOwnNumbers reads = (o p : Open) → IsAmong o reads → IsAmong p reads → p.question.number ≡ o.question.number → p ≡ o

-- the client goes on serving its session, and the read is open, still without a strike of replica i
pub record StaysOpen (i : ℕ) (o : Open) (served : ℕ) (c : Client) : Type 0 where
  pub serving : Serving
  pub is : c ≡ Serves serving
  pub session : serving.session ≡ served
  pub read : Open
  pub among : IsAmong read serving.reads
  pub question : read.question ≡ o.question
  pub unstruck : UnstruckAt i read.strikes

-- a line gives its block
pub record GivesBlock (o : Open) (lines : List Line) : Type 0 where
  pub bytes : List ℕ
  pub among : IsAmong (line.Read o.question.event o.question.block bytes) lines

-- the answer counts: it is of the session, of the sender's region, and as long as the volume's blocks and paths are
abbrev pub counts : Shape → Serving → NodeName → Answer → Bool
counts shape c name a = (a.session == c.session) && is_fitting shape name a

-- an answer of replica i to the read, if that is the news, isn't struck
abbrev pub IsFair : Shape → Serving → ℕ → Open → News → Type 0
IsFair shape c i o (Says name (message.Answer a)) =
    name.replica ≡ i → counts shape c name a ≡ true → answers a o ≡ true → (s : Strike) → worth shape c a ≡ Struck s → ⊥
IsFair shape c i o other = Unit {0}

-- the read's question goes to that node
abbrev pub IsAskedOf : Shape → Serving → Open → NodeName → List Letter → Type 0
IsAskedOf shape c o name outs = IsAmong (record { to = name; message = ask_of shape c o.question }) outs

-- no replica has a strike, and its question goes to each replica of the block's group
pub record IsNew (shape : Shape) (c : Serving) (o : Open) (outs : List Letter) : Type 0 where
  pub strikes : o.strikes ≡ replicate shape.replicas None
  pub asked : AllByRecursion (λ name. IsAskedOf shape c o name outs) (group_of shape (region_of shape o.question.block))

-- its question was open before
pub record IsOpenIn (c : Serving) (o : Open) : Type 0 where
  pub read : Open
  pub among : IsAmong read c.reads
  pub question : read.question ≡ o.question

-- each read that is open then was open before, or it is new and was asked
abbrev pub OpensAsked : Shape → Serving → List Letter → Client → Type 0
OpensAsked shape c outs (Serves next) = (o : Open) → IsAmong o next.reads → IsOpenIn c o ⊎ IsNew shape next o outs
OpensAsked shape c outs other = Unit {0}
