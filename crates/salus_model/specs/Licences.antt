-- What stands behind a node's message: what was handed to the node before, and what each image of its disk holds then.
use Rattle.std.specs.Prelude.{◌≡◌, ◌⊎◌, ℕ, ◌-◌, ◌<◌, ◌≤◌, true, if◌then◌else◌, List, [], ◌∷◌, flat_map, Option, None, Some, Result, Ok, Err}
use Rattle.std.specs.List.{AllByRecursion}
use Rattle.salus_types.specs.Volume.{Shape}
use Rattle.salus_types.specs.declared.names.NodeName.{NodeName}
use Rattle.salus_types.specs.declared.names.Sender.{Sender}
use Rattle.salus_types.specs.declared.names.Sender.TheVariants as sender
use Rattle.salus_types.specs.declared.records.Header.{Header}
use Rattle.salus_types.specs.declared.records.Record.{Record}
use Rattle.salus_types.specs.declared.records.Base.{Base}
use Rattle.salus_types.specs.declared.records.Held.{Held}
use Rattle.salus_message.specs.declared.small.Prepared.{Prepared}
use Rattle.salus_message.specs.declared.replies.Answer.{Answer}
use Rattle.salus_message.specs.declared.wire.Message.{Message}
use Rattle.salus_message.specs.declared.wire.Message.TheVariants as message
use Rattle.salus_message.specs.declared.wire.MessageError.{MessageError}
use Rattle.salus_message.specs.Reading.{message_at}
use Rattle.merkle_region.specs.Tree.{root_of, Verifies, IsAmong}
use Rattle.salus_model.specs.declared.trace.Handed.{Handed}
use Rattle.salus_model.specs.declared.trace.Handed.TheVariants as handed
use Rattle.salus_model.specs.declared.trace.TraceStep.{TraceStep}
use Rattle.volume_model.specs.Contents.{place_of}
use Rattle.salus_model.specs.Following.{Posted, posted_at}
use Rattle.volume_model.specs.Groups.{group_of, same_party}
use Rattle.holding_model.specs.Fitting.{has_content}

-- ---- what was handed to a node

pub record Letter : Type 0 where
  pub from : Sender
  pub message : Message

abbrev pub letter_of : Sender → Result Message MessageError → List Letter
letter_of from (Ok m) = record { from = from; message = m } ∷ []
letter_of from (Err e) = []

abbrev pub letter_in_post : Option Posted → List Letter
letter_in_post None = []
letter_in_post (Some m) = letter_of m.from (message_at m.bytes)

abbrev pub letters_in : List Posted → Handed → List Letter
letters_in posts (handed.Deliver k) = letter_in_post (posted_at posts k)
letters_in posts (handed.Stop k) = letter_in_post (posted_at posts k)
letters_in posts (handed.Lie from bytes) = letter_of from (message_at bytes)
letters_in posts other = []

-- the letters handed to the node in these steps
abbrev pub letters_to : List Posted → NodeName → List TraceStep → List Letter
letters_to posts name steps = flat_map (λ step. if same_party step.party (sender.Node name) then letters_in posts step.handed else []) steps

-- a letter with that message, of that sender
abbrev pub WasHanded : List Letter → Sender → Message → Type 0
WasHanded letters from m = IsAmong (record { from = from; message = m }) letters

-- ---- votes and claims

-- the record is a part with the vote's session, number, region and root that the client handed over
pub record IsVotedFor (letters : List Letter) (vote : Prepared) (rec : Record) : Type 0 where
  pub came : WasHanded letters sender.Client (message.Part (record { rec = rec }))
  pub session : rec.header.session ≡ vote.session
  pub seq : rec.header.seq ≡ vote.seq
  pub region : rec.header.region ≡ vote.region
  pub root : rec.header.root ≡ vote.root

-- what is held has that part, or a base of the session into which parts up to it were folded
pub record HoldsPart (held : Held) (vote : Prepared) (rec : Record) : Type 0 where
  pub either : IsAmong rec held.parts
      ⊎ ((base : Base) × IsAmong base held.bases × (base.rec.header.session ≡ vote.session) × (vote.seq ≤ base.rec.header.seq)
      × (has_content base.rec.writes base.rec.run ≡ true))

-- the replica voted for that number of the session in its region, with that root
abbrev pub HasVoted : List Letter → ℕ → ℕ → List ℕ → NodeName → Type 0
HasVoted letters e x root name = WasHanded letters (sender.Node name) (message.Prepared (record { session = e; seq = x; region = name.region; root = root }))

-- every replica of the region voted, with one root
abbrev pub IsUnanimous : Shape → List Letter → ℕ → ℕ → ℕ → Type 0
IsUnanimous shape letters e x g = (root : List ℕ) × AllByRecursion (λ name. HasVoted letters e x root name) (group_of shape g)

-- the replica claimed all batches of the session up to that number
abbrev pub HasClaimed : List Letter → ℕ → ℕ → NodeName → Type 0
HasClaimed letters e x name = (front : ℕ) × (x ≤ front) × WasHanded letters (sender.Node name) (message.Committed (record { session = e; front = front }))

-- every replica of the leader before has claimed the batch before, or that is the number of a base that the node held
abbrev pub IsAfter : Shape → List Letter → List Held → Header → Type 0
IsAfter shape letters held h =
    AllByRecursion (λ name. HasClaimed letters h.session (h.seq - 1) name) (group_of shape h.leader_before)
    ⊎ ((now : Held) × IsAmong now held × (base : Base) × IsAmong base now.bases × (base.rec.header.session ≡ h.session) × (base.rec.header.seq ≡ h.seq - 1))

-- A part of that batch was handed over, every region that it touches is unanimous, and the batch before is claimed.
pub record IsCertified (shape : Shape) (letters : List Letter) (held : List Held) (e x : ℕ) : Type 0 where
  pub rec : Record
  pub came : WasHanded letters sender.Client (message.Part (record { rec = rec }))
  pub session : rec.header.session ≡ e
  pub seq : rec.header.seq ≡ x
  pub votes : AllByRecursion (λ g. IsUnanimous shape letters e x g) rec.header.touched
  pub after : IsAfter shape letters held rec.header

-- a folded base of that number that the node held
abbrev pub IsFolded : List Held → ℕ → ℕ → Type 0
IsFolded held e x =
    (now : Held) × IsAmong now held × (base : Base) × IsAmong base now.bases × (base.rec.header.session ≡ e) × (base.rec.header.seq ≡ x)
    × (has_content base.rec.writes base.rec.run ≡ true)

-- ---- blocks

-- a record of that session, region and number with that root: the formatted base, or one that the client handed over
abbrev pub IsNamedRoot : List Letter → Record → ℕ → ℕ → ℕ → List ℕ → Type 0
IsNamedRoot letters formatted e g x root =
    (rec : Record) × (rec.header.session ≡ e) × (rec.header.region ≡ g) × (rec.header.seq ≡ x) × (rec.header.root ≡ root)
    × ((rec ≡ formatted) ⊎ WasHanded letters sender.Client (message.Part (record { rec = rec }))
    ⊎ ((blocks : List (List ℕ)) × WasHanded letters sender.Client (message.Stage (record { base = record { rec = rec; blocks = blocks } }))))

-- an answer's path verifies against such a root
abbrev pub IsRooted : Shape → List Letter → Record → ℕ → Answer → Type 0
IsRooted shape letters formatted g a =
    (root : List ℕ) × IsNamedRoot letters formatted a.session g a.at root × Verifies root shape.height (place_of shape a.block) a.bytes a.path

-- ---- the licence of each message

-- a base of the session is held
abbrev pub HoldsBase : ℕ → Held → Type 0
HoldsBase e now = (base : Base) × IsAmong base now.bases × (base.rec.header.session ≡ e)

-- What stands behind a message of a node of region g: the letters handed to it up to the step, the formatted base's
-- record, what it held at each moment up to then, and what every image of its disk holds at the step's end.
abbrev pub IsLicensed : Shape → List Letter → Record → List Held → ((Held → Type 0) → Type 0) → ℕ → Message → Type 0
IsLicensed shape letters formatted held everywhere g (message.Prepared m) =
    (rec : Record) × IsVotedFor letters m rec × everywhere (λ now. HoldsPart now m rec)
IsLicensed shape letters formatted held everywhere g (message.Committed m) =
    IsCertified shape letters held m.session m.front ⊎ IsFolded held m.session m.front
IsLicensed shape letters formatted held everywhere g (message.Answer m) = IsRooted shape letters formatted g m
IsLicensed shape letters formatted held everywhere g (message.Dumped m) =
    IsNamedRoot letters formatted m.session m.region m.at (root_of shape.height m.blocks)
IsLicensed shape letters formatted held everywhere g (message.Gathered m) = IsAmong m.held held
IsLicensed shape letters formatted held everywhere g (message.Staged m) = everywhere (λ now. HoldsBase m.session now)
IsLicensed shape letters formatted held everywhere g (message.Switched m) = everywhere (λ now. now.session ≡ m.session)
IsLicensed shape letters formatted held everywhere g other = ⊥

-- what every image of its disk holds from then on, until the node is replaced
abbrev pub HoldsStill : Message → Held → Type 0
HoldsStill (message.Prepared m) now =
    (m.session < now.session)
    ⊎ ((rec : Record) × (rec.header.session ≡ m.session) × (rec.header.seq ≡ m.seq) × (rec.header.root ≡ m.root) × HoldsPart now m rec)
HoldsStill (message.Staged m) now = (m.session < now.session) ⊎ HoldsBase m.session now
HoldsStill (message.Switched m) now = m.session ≤ now.session
HoldsStill other now = Unit {0}
