-- A world goes on as its course tells.
use Rattle.std.specs.Prelude.{◌≡◌, ℕ, Bool, true, ◌+◌, ◌^◌, ◌<◌, ◌≤◌, List, [], ◌∷◌, ◌++◌, length, slice_get, reverse, Option, Some, None}
use Rattle.std.specs.List.{AllByRecursion}
use Rattle.salus_types.specs.Volume.{Shape, IsVolume, nodes}
use Rattle.salus_types.specs.declared.names.Sender.{Sender}
use Rattle.schedule_text.specs.declared.schedule.Volume.{Volume}
use Rattle.schedule_text.specs.declared.schedule.Event.{Event}
use Rattle.schedule_text.specs.declared.schedule.Event.TheVariants as event
use Rattle.schedule_text.specs.Limits.{IsOfVolume, IsPartyOfVolume}
use Rattle.printed_lines.specs.declared.line.Line.{Line}
use Rattle.salus_model.specs.declared.sending.Sent.{Sent}
use Rattle.salus_model.specs.declared.trace.Request.{Request}
use Rattle.salus_model.specs.declared.trace.Request.TheVariants as request
use Rattle.salus_model.specs.declared.trace.Handed.{Handed}
use Rattle.salus_model.specs.declared.trace.Handed.TheVariants as handed
use Rattle.salus_model.specs.declared.trace.TraceStep.{TraceStep}
use Rattle.salus_model.specs.Judge.{event_at}
use Rattle.salus_model.specs.Following.{Posted, posts_of, posted_at, next_waiting, IsStep}
use Rattle.run_rules.specs.Calm.{Calm, is_harmed}
use Rattle.run_course.specs.Course.{Course, IsEvent, Goes, no_course, sent_so_far}
use Rattle.disk_model.specs.declared.memory.MemDisk.{MemDisk}
use Rattle.law_ranged.proofs.Bounded.{ClientFits}
use Rattle.client_node.specs.declared.node.ClientNode.{ClientNode}
use Rattle.client_node.specs.Standing.{IsClient, shape_of, newest_of}
use Rattle.disk_node.specs.declared.node.DiskNode.{DiskNode}
use Rattle.disk_node.specs.declared.outcome.Outcome.{Outcome}
use Rattle.client_rules.specs.Rules.{new_client}
use Rattle.disk_node.specs.Fitting.{PassesOn, held_in, IsCrashed, IsStopping, FailsAt}
use Rattle.unanimous_certificate.specs.Kept.{node_place}
use Rattle.replica_rules.specs.Rules.{Input, Receives, Ticks}
use Rattle.run_rules.specs.Run.{First}
use Rattle.run_rules.specs.Knowing.{input_of_post}
use Rattle.salus_types.specs.declared.names.NodeName.{NodeName}
use Rattle.salus_types.specs.declared.names.Sender.TheVariants as sender
use Rattle.run_steps.specs.Steps.{IsFront, known_at, OfClient, AreMade, with_step}
use Rattle.run_steps.specs.Waiting.{AreMarked}
use Rattle.run_steps.specs.Settling.{Settled}
use Rattle.salus_world.specs.declared.world.World.{World}
use Rattle.salus_world.specs.Places.{FitAll, SureAll, AllUnharmed, ChangesAt}
use Rattle.salus_world.specs.Growing.{marks_of}

-- By all messages of a run from its first moment: the steps are made by the rules, and each party is as they tell. The client may
-- be asked at event b.
pub record IsRun {D : _} {g : _} {lane : _} (first : First) (volume : Volume) (b : ℕ) (trace : List TraceStep) (told : List (List Line)) (nodes_now : List (DiskNode D g lane)) (client : ClientNode) (posts : List Posted) : Type 0 where
  pub made : AreMade first volume posts trace told
  pub nodes_fit : FitAll volume.geometry (known_at first volume posts trace) nodes_now
  pub client_is : OfClient first volume posts trace (λ d. IsClient client volume d × ClientFits volume.geometry b d)

-- How a world came about: what each node held at its first load, and the client; and whether no call of a disk fails but where an
-- event lets it.
pub record Origin : Type 0 where
  pub first : First
  pub sure : Bool

-- The world is as its course tells, while event n goes on.
pub record IsKept {D : _} {g : _} {lane : _} (origin : Origin) (volume : Volume) (all : List Event) (b n : ℕ) (world : World D g lane) (c : Course) : Type 0 where
  pub limits : IsVolume volume.geometry
  pub some : 1 ≤ b
  pub few : b ≤ 2 ^ 32
  -- whatever messages follow
  pub runs : (posts : List Posted) → IsFront (posts_of world.sent.items) posts → IsRun origin.first volume b c.trace c.told world.nodes.items world.client posts
  pub count : sent_so_far c ≡ length world.sent.items
  pub within : AllByRecursion (λ m. IsPartyOfVolume volume.geometry m.from × IsPartyOfVolume volume.geometry m.to) (posts_of world.sent.items)
  pub marked : AreMarked (reverse c.trace) c.dropped world.lowest (marks_of world.sent.items)
  pub calm : origin.sure ≡ true → Calm all c.trace
  pub sure : origin.sure ≡ true → SureAll volume.geometry (is_harmed all (reverse c.trace) n) world.nodes.items
  pub numbered : AllByRecursion (λ s. s.event ≤ n) (reverse c.trace)
  pub lines : world.lines.items ≡ c.lines
  pub geometry : world.geometry ≡ volume.geometry
  pub shape : shape_of world.client ≡ volume.geometry
  pub newest : newest_of world.client < b
  pub count_nodes : length world.nodes.items ≡ nodes volume.geometry

-- The world begins so: with the client of a formatted volume, and each node with what it holds.
pub record BeginsAt {D : _} {g : _} {lane : _} (origin : Origin) (volume : Volume) (world : World D g lane) : Type 0 where
  pub client : origin.first.client ≡ new_client volume.geometry
  pub held : (name : NodeName) → IsOfVolume volume.geometry name → (node : DiskNode D g lane) → slice_get world.nodes.items (node_place volume.geometry name) ≡ Some node → held_in node ≡ origin.first.held name
  pub sure : origin.sure ≡ true → AllUnharmed world.nodes.items

-- some course tells it
abbrev pub IsOngoing : {D : _} {g : _} {lane : _} → World D g lane → Type 0
IsOngoing world = (origin : Origin) × (volume : Volume) × (all : List Event) × (b : ℕ) × (n : ℕ) × (c : Course) × IsKept origin volume all b n world c

-- One more step of event n, in which the party is handed that. The client may be asked at event b then.
pub record HasStepped {D : _} {g : _} {lane : _} (origin : Origin) (volume : Volume) (all : List Event) (b n : ℕ) (party : Sender) (what : Handed) (was now : World D g lane) (c : Course) : Type 0 where
  pub step : TraceStep
  pub said : List Line
  pub more : IsFront (posts_of was.sent.items) (posts_of now.sent.items)
  pub number : step.event ≡ n
  pub is_step : (posts : List Posted) → IsFront (posts_of now.sent.items) posts → IsStep posts (reverse c.trace) n party what step
  pub kept : IsKept origin volume all b n now (with_step c step said)

-- the node of that name is another one, and how it became so
abbrev pub AtNode : {D : _} {g : _} {lane : _} → NodeName → (DiskNode D g lane → DiskNode D g lane → Type 0) → World D g lane → World D g lane → Type 0
AtNode name How was now = ChangesAt (node_place was.geometry name) was.nodes.items now.nodes.items How

-- The party is handed the input, and no other changes. Where it is a node, at each moment each image of its disk means one of the
-- contents that the disk may mean then.
abbrev pub PassesAt : {D : _} {g : _} {lane : _} → Sender → Input → World D g lane → World D g lane → Type 0
PassesAt sender.Client input was now = now.nodes.items ≡ was.nodes.items
PassesAt (sender.Node name) input was now = AtNode name (PassesOn input) was now

-- so for the message of that number
abbrev pub PassesBy : {D : _} {g : _} {lane : _} → ℕ → World D g lane → World D g lane → Type 0
PassesBy k was now = (m : Posted) → posted_at (posts_of was.sent.items) k ≡ Some m → PassesAt m.to (input_of_post m) was now

-- it has handled the message while its disk stopped
abbrev pub StopsOn : {g : _} {lane : _} → ℕ → ℕ → ℕ → Posted → DiskNode MemDisk g lane → DiskNode MemDisk g lane → Type 0
StopsOn calls keep fill m was is = (outcome : Outcome) × IsStopping calls keep fill (input_of_post m) outcome was is

-- What the event asks of a disk is done to the disk of its node, with its numbers; and where a node is handed something, its disk
-- passes on as it may.
abbrev pub IsExact : {g : _} {lane : _} → Event → World MemDisk g lane → World MemDisk g lane → Type 0
IsExact (event.Crash name keep fill) was now = AtNode name (IsCrashed keep fill) was now
IsExact (event.Fail name call) was now = AtNode name (FailsAt call) was now
IsExact (event.Stop k calls keep fill) was now =
    (m : Posted) (name : NodeName) → posted_at (posts_of was.sent.items) k ≡ Some m → m.to ≡ sender.Node name → AtNode name (StopsOn calls keep fill m) was now
IsExact (event.Deliver k) was now = PassesBy k was now
IsExact (event.Lie from to bytes) was now = PassesAt to (Receives from bytes) was now
IsExact (event.Tick party) was now = PassesAt party Ticks was now
IsExact (event.Write batch) was now = Unit {0}
IsExact (event.Read block) was now = Unit {0}
IsExact event.Barrier was now = Unit {0}
IsExact (event.Settle count) was now = Unit {0}
IsExact (event.Drop k) was now = Unit {0}
IsExact (event.Replace name) was now = Unit {0}
IsExact event.ClientCrash was now = Unit {0}
IsExact (event.Restart session) was now = Unit {0}
IsExact (event.Reassign session region) was now = Unit {0}

-- Event n is done, and the next one may be.
pub record HasDone {D : _} {g : _} {lane : _} (origin : Origin) (volume : Volume) (all : List Event) (n : ℕ) (e : Event) (was now : World D g lane) (c : Course) : Type 0 where
  pub course : Course
  pub more : IsFront (posts_of was.sent.items) (posts_of now.sent.items)
  pub event : (posts : List Posted) → IsFront (posts_of now.sent.items) posts → IsEvent posts n e c course
  pub kept : IsKept origin volume all (n + 1) (n + 1) now course

-- So many deliveries of event n are done.
pub record HasSettled {D : _} {g : _} {lane : _} (origin : Origin) (volume : Volume) (all : List Event) (n done : ℕ) (was now : World D g lane) (c : Course) : Type 0 where
  pub course : Course
  pub more : IsFront (posts_of was.sent.items) (posts_of now.sent.items)
  pub settled : (posts : List Posted) → IsFront (posts_of now.sent.items) posts → Settled posts n done c course
  pub kept : IsKept origin volume all n n now course

-- In a step of event n the message of that number is handed over, the lowest one that waits.
pub record HasDelivered {D : _} {g : _} {lane : _} (origin : Origin) (volume : Volume) (all : List Event) (b n k : ℕ) (was now : World D g lane) (c : Course) : Type 0 where
  pub lowest : next_waiting (reverse c.trace) c.dropped ≡ Some k
  pub message : Posted
  pub known : (posts : List Posted) → IsFront (posts_of was.sent.items) posts → posted_at posts k ≡ Some message
  pub stepped : HasStepped origin volume all b n message.to (handed.Deliver k) was now c

-- No message waits, and nothing is handed over.
pub record HasNoneLeft {D : _} {g : _} {lane : _} (origin : Origin) (volume : Volume) (all : List Event) (b n : ℕ) (was now : World D g lane) (c : Course) : Type 0 where
  pub none : next_waiting (reverse c.trace) c.dropped ≡ None
  pub more : IsFront (posts_of was.sent.items) (posts_of now.sent.items)
  pub kept : IsKept origin volume all b n now c

-- From one world to another by these events, world by world; the first of them has number n.
unfoldable pub Went : {g : _} {lane : _} → Origin → Volume → List Event → ℕ → List Event → World MemDisk g lane → World MemDisk g lane → Course → Course → Type 0
Went origin volume all n [] was now from to = (was ≡ now) × (from ≡ to)
Went {g = g} {lane = lane} origin volume all n (e ∷ events) was now from to =
    (mid : World MemDisk g lane) × (done : HasDone origin volume all n e was mid from) × IsExact e was mid × Went origin volume all (n + 1) events mid now done.course to

-- These events are done, of which the first has number 1.
pub record HasRun {g : _} {lane : _} (origin : Origin) (volume : Volume) (all events : List Event) (was world : World MemDisk g lane) : Type 0 where
  pub course : Course
  pub goes : (posts : List Posted) → IsFront (posts_of world.sent.items) posts → Goes posts 1 events no_course course
  pub went : Went origin volume all 1 events was world no_course course
  pub kept : IsKept origin volume all (length events + 1) (length events + 1) world course

-- whatever course tells how the world came about, it goes on by a step
abbrev pub Steps : {D : _} {g : _} {lane : _} → Sender → Handed → World D g lane → World D g lane → Type 0
Steps party what was now =
    (origin : Origin) (volume : Volume) (all : List Event) (b n : ℕ) (c : Course) → IsKept origin volume all b n was c → HasStepped origin volume all b n party what was now c

-- by the delivery of the message of that index
abbrev pub StepsAt : {D : _} {g : _} {lane : _} → ℕ → World D g lane → World D g lane → Type 0
StepsAt index was now =
    (origin : Origin) (volume : Volume) (all : List Event) (b n : ℕ) (c : Course) (m : Posted) → IsKept origin volume all b n was c → slice_get (posts_of was.sent.items) index ≡ Some m
    → HasStepped origin volume all b n m.to (handed.Deliver (index + 1)) was now c

-- or by the delivery of the lowest message that waits, if one does
abbrev pub DeliversNext : {D : _} {g : _} {lane : _} → Option ℕ → World D g lane → World D g lane → Type 0
DeliversNext (Some k) was now = (origin : Origin) (volume : Volume) (all : List Event) (b n : ℕ) (c : Course) → IsKept origin volume all b n was c → HasDelivered origin volume all b n k was now c
DeliversNext None was now = (origin : Origin) (volume : Volume) (all : List Event) (b n : ℕ) (c : Course) → IsKept origin volume all b n was c → HasNoneLeft origin volume all b n was now c

-- or by an event
abbrev pub Does : {D : _} {g : _} {lane : _} → ℕ → Event → World D g lane → World D g lane → Type 0
Does n e was now =
    (origin : Origin) (volume : Volume) (all : List Event) (c : Course) → n < 2 ^ 32 → event_at all n ≡ Some e → IsKept origin volume all n n was c → HasDone origin volume all n e was now c

-- the event that asks for it
abbrev pub event_of : Request → Event
event_of (request.Write batch) = event.Write batch
event_of (request.Read b) = event.Read b
event_of request.Barrier = event.Barrier
event_of (request.Restart e) = event.Restart e
event_of (request.Reassign e g) = event.Reassign e g
