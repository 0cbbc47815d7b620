-- Which text means which schedule, rule by rule, and where a text first goes wrong, with its cause.
use Rattle.std.specs.Prelude.{◌≡◌, ℕ, ◌+◌, ◌<◌, ◌≤◌, ◌⊎◌, List, [], ◌∷◌, ◌++◌, length, Option, None, Some, option_to_list, codes, zero, suc}
use Rattle.std.specs.List.{AllZip, flat_map}
use Rattle.salus_types.specs.Volume.{Shape, IsVolume, regions}
use Rattle.salus_types.specs.declared.names.NodeName.{NodeName}
use Rattle.salus_types.specs.declared.names.Sender.{Sender}
use Rattle.salus_types.specs.declared.names.Sender.TheVariants as sender
use Rattle.salus_types.specs.declared.records.Write.{Write}
use Rattle.text_words.specs.Grammar.{IsLines, IsWords, IsNumber, IsByte, IsHex, IsBlock, IsLieBytes}
use Rattle.schedule_text.specs.declared.error.Cause.{Cause}
use Rattle.schedule_text.specs.declared.error.Cause.TheVariants as cause
use Rattle.schedule_text.specs.declared.error.ScheduleError.{ScheduleError}
use Rattle.schedule_text.specs.declared.keyword.Keyword.{Keyword}
use Rattle.schedule_text.specs.declared.keyword.Keyword.TheVariants as keyword
use Rattle.schedule_text.specs.declared.schedule.Volume.{Volume}
use Rattle.schedule_text.specs.declared.schedule.Event.{Event}
use Rattle.schedule_text.specs.declared.schedule.Event.TheVariants as event
use Rattle.schedule_text.specs.declared.schedule.Schedule.{Schedule}

-- ---- words of a volume

-- `REGION.REPLICA`, a node of the volume
pub record IsNode (shape : Shape) (word : List ℕ) (name : NodeName) : Type 0 where
  pub region : List ℕ
  pub replica : List ℕ
  pub spelled : word ≡ region ++ 46 ∷ replica
  pub is_region : IsNumber region name.region
  pub is_replica : IsNumber replica name.replica
  pub in_volume : name.region < regions shape
  pub in_group : name.replica < shape.replicas

-- `client`, or a node
abbrev pub IsParty : Shape → List ℕ → Sender → Type 0
IsParty shape word sender.Client = word ≡ codes "client"
IsParty shape word (sender.Node name) = IsNode shape word name

-- a number from 1 on
pub record IsCount (word : List ℕ) (n : ℕ) : Type 0 where
  pub number : IsNumber word n
  pub some : 1 ≤ n

-- ---- the words of an event

-- what a word of an event's line stands for
pub data Value : Type 0 where
  Number : ℕ → Value
  Count : ℕ → Value
  Node : NodeName → Value
  Party : Sender → Value
  Block : List ℕ → Value
  Bytes : List ℕ → Value
  Fill : ℕ → Value

-- the word stands for the value, in a volume of that shape
abbrev pub Spells : Shape → Value → List ℕ → Type 0
Spells shape (Number n) word = IsNumber word n
Spells shape (Count n) word = IsCount word n
Spells shape (Node name) word = IsNode shape word name
Spells shape (Party who) word = IsParty shape word who
Spells shape (Block bytes) word = IsBlock shape.block word bytes
Spells shape (Bytes bytes) word = IsLieBytes word bytes
Spells shape (Fill b) word = IsByte word b

-- how a first word is written
abbrev pub spelling : Keyword → List ℕ
spelling keyword.Write = codes "write"
spelling keyword.Read = codes "read"
spelling keyword.Barrier = codes "barrier"
spelling keyword.Deliver = codes "deliver"
spelling keyword.Settle = codes "settle"
spelling keyword.Drop = codes "drop"
spelling keyword.Lie = codes "lie"
spelling keyword.Stop = codes "stop"
spelling keyword.Crash = codes "crash"
spelling keyword.Fail = codes "fail"
spelling keyword.Replace = codes "replace"
spelling keyword.ClientCrash = codes "clientcrash"
spelling keyword.Restart = codes "restart"
spelling keyword.Reassign = codes "reassign"
spelling keyword.Tick = codes "tick"

-- the first word of an event's line
abbrev pub first_word : Event → Keyword
first_word (event.Write batch) = keyword.Write
first_word (event.Read block) = keyword.Read
first_word event.Barrier = keyword.Barrier
first_word (event.Deliver message) = keyword.Deliver
first_word (event.Settle count) = keyword.Settle
first_word (event.Drop message) = keyword.Drop
first_word (event.Lie sent_by sent_to bytes) = keyword.Lie
first_word (event.Stop message calls keep fill) = keyword.Stop
first_word (event.Crash node keep fill) = keyword.Crash
first_word (event.Fail node call) = keyword.Fail
first_word (event.Replace node) = keyword.Replace
first_word event.ClientCrash = keyword.ClientCrash
first_word (event.Restart session) = keyword.Restart
first_word (event.Reassign session region) = keyword.Reassign
first_word (event.Tick party) = keyword.Tick

-- a block's number and its bytes
abbrev pub pair_values : Write → List Value
pair_values w = Number w.block ∷ Block w.bytes ∷ []

-- what the other words stand for, in order
abbrev pub values : Event → List Value
values (event.Write batch) = flat_map pair_values batch
values (event.Read block) = Number block ∷ []
values event.Barrier = []
values (event.Deliver message) = Number message ∷ []
values (event.Settle count) = Number count ∷ []
values (event.Drop message) = Number message ∷ []
values (event.Lie sent_by sent_to bytes) = Party sent_by ∷ Party sent_to ∷ Bytes bytes ∷ []
values (event.Stop message calls keep fill) = Number message ∷ Number calls ∷ Number keep ∷ Fill fill ∷ []
values (event.Crash node keep fill) = Node node ∷ Number keep ∷ Fill fill ∷ []
values (event.Fail node call) = Node node ∷ Count call ∷ []
values (event.Replace node) = Node node ∷ []
values event.ClientCrash = []
values (event.Restart session) = Number session ∷ []
values (event.Reassign session region) = Number session ∷ Number region ∷ []
values (event.Tick party) = Party party ∷ []

-- a write has 1 to 64 blocks
abbrev pub HasFewBlocks : Event → Type 0
HasFewBlocks (event.Write batch) = (1 ≤ length batch) × (length batch ≤ 64)
HasFewBlocks (event.Read block) = Unit {0}
HasFewBlocks event.Barrier = Unit {0}
HasFewBlocks (event.Deliver message) = Unit {0}
HasFewBlocks (event.Settle count) = Unit {0}
HasFewBlocks (event.Drop message) = Unit {0}
HasFewBlocks (event.Lie sent_by sent_to bytes) = Unit {0}
HasFewBlocks (event.Stop message calls keep fill) = Unit {0}
HasFewBlocks (event.Crash node keep fill) = Unit {0}
HasFewBlocks (event.Fail node call) = Unit {0}
HasFewBlocks (event.Replace node) = Unit {0}
HasFewBlocks event.ClientCrash = Unit {0}
HasFewBlocks (event.Restart session) = Unit {0}
HasFewBlocks (event.Reassign session region) = Unit {0}
HasFewBlocks (event.Tick party) = Unit {0}

-- the line is that event in a volume of that shape
pub record IsEventLine (shape : Shape) (line : List ℕ) (e : Event) : Type 0 where
  pub rest : List (List ℕ)
  pub words : IsWords line (spelling (first_word e) ∷ rest)
  pub spelled : AllZip (Spells shape) (values e) rest
  pub few_blocks : HasFewBlocks e

-- ---- the order of sessions

-- the session that an event asks to open
abbrev pub session_of : Event → Option ℕ
session_of (event.Restart session) = Some session
session_of (event.Reassign session region) = Some session
session_of (event.Write batch) = None
session_of (event.Read block) = None
session_of event.Barrier = None
session_of (event.Deliver message) = None
session_of (event.Settle count) = None
session_of (event.Drop message) = None
session_of (event.Lie sent_by sent_to bytes) = None
session_of (event.Stop message calls keep fill) = None
session_of (event.Crash node keep fill) = None
session_of (event.Fail node call) = None
session_of (event.Replace node) = None
session_of event.ClientCrash = None
session_of (event.Tick party) = None

-- the sessions rise, from above that one on
abbrev pub RisesFrom : ℕ → List ℕ → Type 0
RisesFrom latest [] = Unit {0}
RisesFrom latest (session ∷ sessions) = (latest < session) × RisesFrom session sessions

-- the sessions that events ask to open, in order
abbrev pub sessions_of : List Event → List ℕ
sessions_of events = flat_map (λ e. option_to_list (session_of e)) events

-- ---- the whole text

-- `volume REGIONS_LOG HEIGHT BLOCK REPLICAS KEY`, within the limits
pub record IsVolumeLine (line : List ℕ) (volume : Volume) : Type 0 where
  pub regions_log : List ℕ
  pub height : List ℕ
  pub block : List ℕ
  pub replicas : List ℕ
  pub key : List ℕ
  pub words : IsWords line (codes "volume" ∷ regions_log ∷ height ∷ block ∷ replicas ∷ key ∷ [])
  pub is_regions_log : IsNumber regions_log volume.geometry.regions_log
  pub is_height : IsNumber height volume.geometry.height
  pub is_block : IsNumber block volume.geometry.block
  pub is_replicas : IsNumber replicas volume.geometry.replicas
  pub within : IsVolume volume.geometry
  pub is_key : IsHex key volume.key
  pub short_key : length volume.key ≤ 64

-- at most 67,108,864 bytes: a line for the volume, then one for each of at most 65,536 events, in which the session
-- numbers rise from above 1 on
pub record IsSchedule (text : List ℕ) (schedule : Schedule) : Type 0 where
  pub first : List ℕ
  pub others : List (List ℕ)
  pub short : length text ≤ 67108864
  pub lines : IsLines text (first ∷ others)
  pub volume : IsVolumeLine first schedule.volume
  pub events : AllZip (IsEventLine schedule.volume.geometry) others schedule.events
  pub few : length schedule.events ≤ 65536
  pub rising : RisesFrom 1 (sessions_of schedule.events)

-- ---- a wrong word

-- what a word of an event's line should be
pub data Kind : Type 0 where
  ANumber : Kind
  ACount : Kind
  ANode : Kind
  AParty : Kind
  ABlock : Kind
  SomeBytes : Kind
  AFill : Kind

-- the word stands for no such value
abbrev pub IsNone : {X : Type 0} → (X → Type 0) → Type 0
IsNone {X} Is = (x : X) → ¬ Is x

-- a block that isn't hexadecimal, or not of that many bytes
abbrev pub IsWrongBlock : ℕ → List ℕ → Cause → Type 0
IsWrongBlock size word why =
    ((why ≡ cause.Hex) × IsNone (IsBlock size word) × IsNone (IsHex word))
    ⊎ ((why ≡ cause.Size) × IsNone (IsBlock size word) × ((bytes : List ℕ) × IsHex word bytes))

-- the word isn't what it should be, with that cause
abbrev pub IsWrongWord : Shape → Kind → List ℕ → Cause → Type 0
IsWrongWord shape ANumber word why = (why ≡ cause.Number) × IsNone (IsNumber word)
IsWrongWord shape ACount word why = (why ≡ cause.Number) × IsNone (IsCount word)
IsWrongWord shape ANode word why = (why ≡ cause.Node) × IsNone (IsNode shape word)
IsWrongWord shape AParty word why = (why ≡ cause.Node) × IsNone (IsParty shape word)
IsWrongWord shape ABlock word why = IsWrongBlock shape.block word why
IsWrongWord shape SomeBytes word why = (why ≡ cause.Hex) × IsNone (IsLieBytes word)
IsWrongWord shape AFill word why = (why ≡ cause.Hex) × IsNone (IsByte word)

-- the word is what it should be
abbrev pub IsRightWord : Shape → Kind → List ℕ → Type 0
IsRightWord shape ANumber word = (n : ℕ) × IsNumber word n
IsRightWord shape ACount word = (n : ℕ) × IsCount word n
IsRightWord shape ANode word = (name : NodeName) × IsNode shape word name
IsRightWord shape AParty word = (who : Sender) × IsParty shape word who
IsRightWord shape ABlock word = (bytes : List ℕ) × IsBlock shape.block word bytes
IsRightWord shape SomeBytes word = (bytes : List ℕ) × IsLieBytes word bytes
IsRightWord shape AFill word = (b : ℕ) × IsByte word b

-- the first of the words that isn't what it should be has that cause
abbrev pub IsFirstWrongWord : Shape → List Kind → List (List ℕ) → Cause → Type 0
IsFirstWrongWord shape [] words why = ⊥
IsFirstWrongWord shape (kind ∷ kinds) [] why = ⊥
IsFirstWrongWord shape (kind ∷ kinds) (word ∷ words) why =
    IsWrongWord shape kind word why ⊎ (IsRightWord shape kind word × IsFirstWrongWord shape kinds words why)

-- ---- a wrong line

-- so many pairs of a number and a block
abbrev pub pair_kinds : ℕ → List Kind
pair_kinds zero = []
pair_kinds (suc n) = ANumber ∷ ABlock ∷ pair_kinds n

-- what the words behind a first word should be
abbrev pub AreKinds : Keyword → List Kind → Type 0
AreKinds keyword.Write kinds = (n : ℕ) × (kinds ≡ pair_kinds n)
AreKinds keyword.Read kinds = kinds ≡ ANumber ∷ []
AreKinds keyword.Barrier kinds = kinds ≡ []
AreKinds keyword.Deliver kinds = kinds ≡ ANumber ∷ []
AreKinds keyword.Settle kinds = kinds ≡ ANumber ∷ []
AreKinds keyword.Drop kinds = kinds ≡ ANumber ∷ []
AreKinds keyword.Lie kinds = kinds ≡ AParty ∷ AParty ∷ SomeBytes ∷ []
AreKinds keyword.Stop kinds = kinds ≡ ANumber ∷ ANumber ∷ ANumber ∷ AFill ∷ []
AreKinds keyword.Crash kinds = kinds ≡ ANode ∷ ANumber ∷ AFill ∷ []
AreKinds keyword.Fail kinds = kinds ≡ ANode ∷ ACount ∷ []
AreKinds keyword.Replace kinds = kinds ≡ ANode ∷ []
AreKinds keyword.ClientCrash kinds = kinds ≡ []
AreKinds keyword.Restart kinds = kinds ≡ ANumber ∷ []
AreKinds keyword.Reassign kinds = kinds ≡ ANumber ∷ ANumber ∷ []
AreKinds keyword.Tick kinds = kinds ≡ AParty ∷ []

-- the first word is an event's, and the number of words behind it is right
pub record IsForm (name : List ℕ) (words : List (List ℕ)) : Type 0 where
  pub first : Keyword
  pub kinds : List Kind
  pub named : name ≡ spelling first
  pub are_kinds : AreKinds first kinds
  pub as_many : length kinds ≡ length words

-- a write of more than 64 blocks
abbrev pub IsLongWrite : List ℕ → List (List ℕ) → Type 0
IsLongWrite name words = (name ≡ codes "write") × (128 < length words)

-- a write of no block
abbrev pub IsEmptyWrite : List ℕ → List (List ℕ) → Type 0
IsEmptyWrite name words = (name ≡ codes "write") × (words ≡ [])

-- in a form that is right a word is wrong
pub record HasWrongWord (shape : Shape) (name : List ℕ) (words : List (List ℕ)) (why : Cause) : Type 0 where
  pub form : IsForm name words
  pub wrong : IsFirstWrongWord shape form.kinds words why

-- the line is an event whose session isn't above the latest one
pub record IsOutOfOrder (shape : Shape) (latest : ℕ) (line : List ℕ) : Type 0 where
  pub e : Event
  pub is_event : IsEventLine shape line e
  pub session : ℕ
  pub asks : session_of e ≡ Some session
  pub late : session ≤ latest

-- why a line of these words is wrong, each cause where none before it applies
abbrev pub IsWrongLine : Shape → ℕ → List ℕ → List ℕ → List (List ℕ) → Cause → Type 0
IsWrongLine shape latest line name words why =
    ((why ≡ cause.Long) × IsLongWrite name words)
    ⊎ ((why ≡ cause.Empty) × IsEmptyWrite name words)
    ⊎ ((why ≡ cause.Word) × ¬ IsLongWrite name words × ¬ IsEmptyWrite name words × ¬ IsForm name words)
    ⊎ (¬ IsLongWrite name words × ¬ IsEmptyWrite name words × HasWrongWord shape name words why)
    ⊎ ((why ≡ cause.Order) × IsOutOfOrder shape latest line)

-- a line that is no event behind so many events and that session, with its cause
pub record IsWrongEvent (shape : Shape) (before latest : ℕ) (line : List ℕ) (why : Cause) : Type 0 where
  pub name : List ℕ
  pub words : List (List ℕ)
  pub are_words : IsWords line (name ∷ words)
  pub wrong : ((before ≡ 65536) × (why ≡ cause.Long)) ⊎ ((before < 65536) × IsWrongLine shape latest line name words why)

-- ---- the first wrong line

-- line 1 is the line of no volume
pub record IsWrongVolume (text : List ℕ) : Type 0 where
  pub first : List ℕ
  pub others : List (List ℕ)
  pub lines : IsLines text (first ∷ others)
  pub wrong : IsNone (IsVolumeLine first)

-- the latest session after events, from that one on
abbrev pub latest_session : ℕ → List ℕ → ℕ
latest_session latest [] = latest
latest_session latest (session ∷ sessions) = latest_session session sessions

-- line 1 and those before the wrong one are right, and the wrong one follows on the events of those
pub record IsWrongLater (text : List ℕ) (number : ℕ) (why : Cause) : Type 0 where
  pub first : List ℕ
  pub right : List (List ℕ)
  pub wrong : List ℕ
  pub others : List (List ℕ)
  pub volume : Volume
  pub before : List Event
  pub lines : IsLines text (first ∷ (right ++ wrong ∷ others))
  pub is_volume : IsVolumeLine first volume
  pub are_events : AllZip (IsEventLine volume.geometry) right before
  pub few : length before ≤ 65536
  pub rising : RisesFrom 1 (sessions_of before)
  pub is_wrong : IsWrongEvent volume.geometry (length before) (latest_session 1 (sessions_of before)) wrong why
  pub is_number : number ≡ length before + 2

-- the first wrong line of a text, and why; line 0 is a text that is too long
abbrev pub IsFirstWrong : List ℕ → ScheduleError → Type 0
IsFirstWrong text wrong =
    ((wrong.line ≡ 0) × (wrong.cause ≡ cause.Long) × (67108864 < length text))
    ⊎ ((length text ≤ 67108864) × (wrong.line ≡ 1) × (wrong.cause ≡ cause.Volume) × IsWrongVolume text)
    ⊎ ((length text ≤ 67108864) × IsWrongLater text wrong.line wrong.cause)
