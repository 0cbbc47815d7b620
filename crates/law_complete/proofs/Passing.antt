-- A step of a client passes on what it waits for from a node: it asks anew, the node's reply has come, or it waits as before.
use Rattle.std.proofs.Common.{◌≡◌, ◌∙◌, ℕ, ◌^◌, ◌<◌, ◌==◌, ◌&&◌, ◌||◌, not, nat_lt, Bool, true, false, if◌then◌else◌, List, [], ◌∷◌, Option, None, Some, refl, sym, ap, subst, arith, eq-eqb, eqb-true}
use Rattle.std.specs.Prelude.{nat_le, cond, option_map, bytes_eq}
use Rattle.std.specs.Option.{option_or}
use Rattle.std.proofs.lemmas.Bool.{leb-false}
use Rattle.std.proofs.lemmas.Slice.Eq.{bytes_eq-Decides}
use Rattle.std.proofs.lemmas.Bool.{true≢false}
use Rattle.std.proofs.lemmas.List.Folds.{list_any-append}
use Rattle.salus_types.specs.Volume.{Shape, regions}
use Rattle.salus_types.specs.declared.names.NodeName.{NodeName}
use Rattle.salus_types.specs.declared.records.Header.{Header}
use Rattle.salus_types.specs.declared.records.Held.{Held}
use Rattle.salus_message.specs.declared.carried.Dumped.{Dumped}
use Rattle.salus_message.specs.declared.carried.Gathered.{Gathered}
use Rattle.salus_message.specs.declared.replies.Answer.{Answer}
use Rattle.salus_message.specs.declared.wire.Message.{Message}
use Rattle.salus_message.specs.declared.wire.Message.TheVariants as message
use Rattle.schedule_text.specs.Limits.{IsOfVolume}
use Rattle.schedule_text.specs.declared.schedule.Volume.{Volume}
use Rattle.printed_lines.specs.declared.line.Line.{Line}
use Rattle.printed_lines.specs.declared.line.Line.TheVariants as line
use Rattle.printed_lines.specs.declared.line.RequestRefusal.{RequestRefusal}
use Rattle.printed_lines.specs.declared.line.RequestRefusal.TheVariants as refusal
use Rattle.merkle_region.specs.Tree.{root_of, IsAmong}
use Rattle.holding_model.specs.Fitting.{has_shape}
use Rattle.salus_model.specs.declared.trace.Request.{Request}
use Rattle.salus_model.specs.declared.trace.Request.TheVariants as request
use Rattle.volume_model.specs.Contents.{all_regions, region_root, blocks_in}
use Rattle.volume_model.specs.Groups.{same_node, group_of, all_nodes}
use Rattle.volume_model.specs.Recovering.{choice_of, recovered}
use Rattle.salus_model.specs.Answering.{Verdict, Stale, Good, Struck, is_fitting, all_struck}
use Rattle.salus_model.specs.Hearing.{News, Asks, Says, Crashes, Silence}
use Rattle.salus_model.specs.Opening.{is_fetched}
use Rattle.salus_model.specs.Waiting.{Taken, range_refusal}
use Rattle.client_rules.specs.State.{Open, Serving, Gathering, Fetching, Beginning, Letter, Client, Closed, Serves, Gathers, Fetches, Stages, Switches, Told, ignored, only_lines, to_all}
use Rattle.client_rules.specs.Tables.{closed_at, struck, struck_at, worth, open_at}
use Rattle.client_rules.specs.Submitting.{batch_asked, with_batch}
use Rattle.client_rules.specs.Serving.{refusal_here, leaves, fetches, joined, decided, requested_here, read_ended, read_judged, read_answered, submits, head_known, head_faulted, head_judged, head_answered, answered_here, acks, claimed, acked_told, committed_here}
use Rattle.client_rules.specs.Opening.{has_answered, all_answered, with_name, new_serving, base_record, stage_letters, staged_from, restarted, with_reply_of, joined_blocks, chosen, gathered_all, gathered_here, fetched_blocks, dumped_here, staged_by, staged_here, switched_by, switched_here}
use Rattle.client_rules.specs.Rules.{requested_away, requested, received, told, told_serving, told_gathering, told_fetching, told_staging, told_switching}
use Rattle.list_lemmas.proofs.Each.{either_way}
use Rattle.list_lemmas.proofs.Members.{among_map-in, among_flat_map-in, among_range-in}
use Rattle.list_lemmas.proofs.Tests.{by_test, way_with, or_true, and_left, and_right}
use Rattle.law_lemmas.proofs.Named.{node-itself}
use Rattle.law_lines.proofs.Openings.{HasNodes, with-name}
use Rattle.law_complete.proofs.Awaiting as awaiting
use Rattle.law_complete.proofs.Awaiting.{Replies, Done, IsOpen, AreQuiet, StagedBy, ComesFrom}

-- ---- names

pub in_group : (shape : Shape) (name : NodeName) → IsOfVolume shape name → IsAmong name (group_of shape name.region)
in_group shape name inside =
    let low = inside.1 in
    among_map-in (λ (r : ℕ). record { region = name.region; replica = r }) _ name.replica (among_range-in shape.replicas 0 name.replica (omega arith) (omega (arith, low)))

region_in : (shape : Shape) (name : NodeName) → IsOfVolume shape name → IsAmong name.region (all_regions shape)
region_in shape name inside = let low = inside.0 in among_range-in (regions shape) 0 name.region (omega arith) (omega (arith, low))

pub in_nodes : (shape : Shape) (name : NodeName) → IsOfVolume shape name → IsAmong name (all_nodes shape)
in_nodes shape name inside = among_flat_map-in (λ g. group_of shape g) name.region name (all_regions shape) (region_in shape name inside) (in_group shape name inside)

-- who has answered stays so
still_answered : (name other : NodeName) (names : List NodeName) → has_answered other names ≡ true → has_answered other (with_name name names) ≡ true
still_answered name other names is = with-name name other names ∙ (ap (λ (b : Bool). same_node name other || b) is ∙ or_true (same_node name other))

now_answered : (name : NodeName) (names : List NodeName) → has_answered name (with_name name names) ≡ true
now_answered name names = with-name name name names ∙ ap (λ (b : Bool). b || has_answered name names) (node-itself name)

-- so among those whose replies count
record CountsOf (volume : Volume) (name : NodeName) (held : Held) (g : Gathering) : Type 0 where
  still : (other : NodeName) → has_answered other g.answered ≡ true → has_answered other (with_reply_of volume name held g).answered ≡ true
  now : has_answered name (with_reply_of volume name held g).answered ≡ true
  session : (with_reply_of volume name held g).session ≡ g.session

counts_of : (volume : Volume) (name : NodeName) (held : Held) (g : Gathering) → CountsOf volume name held g
counts_of volume name held g = record {
  still = λ other is. way_with (has_answered name g.answered) g _ (λ (d : Gathering). has_answered other d.answered ≡ true) (λ old. is)
      (λ new. list_any-append (λ x. same_node x other) g.answered (name ∷ []) ∙ ap (λ (b : Bool). b || (same_node name other || false)) is);
  now = way_with (has_answered name g.answered) g _ (λ (d : Gathering). has_answered name d.answered ≡ true) (λ old. old)
      (λ new. list_any-append (λ x. same_node x name) g.answered (name ∷ []) ∙ (ap (λ (b : Bool). has_answered name g.answered || (b || false)) (node-itself name) ∙ or_true (has_answered name g.answered)));
  session = either_way (has_answered name g.answered) g _ (λ (d : Gathering). d.session ≡ g.session) refl refl;
}

-- ---- news

not_asked : (r : Request) (name : NodeName) (m : Message) → Asks r ≡ Says name m → ⊥
not_asked r name m is = cc

not_silent : (name : NodeName) (m : Message) → Silence ≡ Says name m → ⊥
not_silent name m is = cc

said_name : (a b : NodeName) (x y : Message) → Says a x ≡ Says b y → a ≡ b
said_name a b x y is = ap (λ (n : News). of n) is where
  of : News → NodeName
  of (Says c z) = c
  of other = a

said_message : (a b : NodeName) (x y : Message) → Says a x ≡ Says b y → x ≡ y
said_message a b x y is = ap (λ (n : News). of n) is where
  of : News → Message
  of (Says c z) = z
  of other = x

session_gathered : (x : Gathered) (e : ℕ) (held : Held) → message.Gathered x ≡ message.Gathered (record { session = e; held = held }) → x.session ≡ e
session_gathered x e held is = ap (λ (m : Message). of m) is where
  of : Message → ℕ
  of (message.Gathered y) = y.session
  of other = 0

session_staged : (s e : ℕ) → message.Staged (record { session = s }) ≡ message.Staged (record { session = e }) → s ≡ e
session_staged s e is = ap (λ (m : Message). of m) is where
  of : Message → ℕ
  of (message.Staged y) = y.session
  of other = 0

session_switched : (s e : ℕ) → message.Switched (record { session = s }) ≡ message.Switched (record { session = e }) → s ≡ e
session_switched s e is = ap (λ (m : Message). of m) is where
  of : Message → ℕ
  of (message.Switched y) = y.session
  of other = 0

dumped_same : (x d : Dumped) → message.Dumped x ≡ message.Dumped d → x ≡ d
dumped_same x d is = ap (λ (m : Message). of m) is where
  of : Message → Dumped
  of (message.Dumped y) = y
  of other = x

abbrev is_gathered : Message → Bool
is_gathered (message.Gathered x) = true
is_gathered other = false

abbrev is_dumped : Message → Bool
is_dumped (message.Dumped x) = true
is_dumped other = false

abbrev is_staged : Message → Bool
is_staged (message.Staged x) = true
is_staged other = false

abbrev is_switched : Message → Bool
is_switched (message.Switched x) = true
is_switched other = false

-- ---- a client that goes on serving

abbrev IsServing : Client → Type 0
IsServing (Serves c) = Unit {0}
IsServing Closed = ⊥
IsServing (Gathers g) = ⊥
IsServing (Fetches f) = ⊥
IsServing (Stages b) = ⊥
IsServing (Switches b) = ⊥

abbrev GoesOnServing : Told → Type 0
GoesOnServing answer = IsServing answer.client

module _ (volume : Volume) where
  abbrev shape : Shape
  shape = volume.geometry

  leaves_serve : (c : Serving) (requests : List Taken) → GoesOnServing (leaves shape c requests)
  unfolding leaves
  leaves_serve c requests = tt

  joined_serve : (c : Serving) (r : Taken) (rs : List Taken) → GoesOnServing (joined shape c r rs)
  joined_serve c r [] = leaves_serve c (r ∷ [])
  joined_serve c r (head ∷ rs) = tt

  committed_serve : (c : Serving) (name : NodeName) (session front : ℕ) → GoesOnServing (committed_here shape c name session front)
  unfolding committed_here
  committed_serve c name session front = either_way (session == c.session) (acked_told (acks shape (claimed c name front) c.unacked)) (ignored (Serves c)) GoesOnServing tt tt

  read_serve : (c : Serving) (name : NodeName) (a : Answer) (o : Open) (verdict : Verdict) → GoesOnServing (read_judged shape c name a o verdict)
  read_serve c name a o Stale = tt
  read_serve c name a o Good = tt
  read_serve c name a o (Struck s) =
      either_way (all_struck (struck name.replica s o).strikes) (read_ended c o (line.Fault o.question.event o.question.block (struck name.replica s o).strikes))
      (ignored (Serves (record c { reads = struck_at a name.replica s c.reads }))) GoesOnServing tt tt

  read_answered_serve : (c : Serving) (name : NodeName) (a : Answer) (o : Option Open) → GoesOnServing (read_answered shape c name a o)
  read_answered_serve c name a None = tt
  read_answered_serve c name a (Some o) = read_serve c name a o (worth shape c a)

  faulted_serve : (c : Serving) (l : Line) (rs : List Taken) → GoesOnServing (head_faulted shape c l rs)
  faulted_serve c l [] = tt
  faulted_serve c l (w ∷ behind) = leaves_serve c behind

  submits_serve : (c : Serving) (rs : List Taken) → GoesOnServing (submits volume c rs)
  submits_serve c [] = tt
  submits_serve c (w ∷ behind) = leaves_serve (with_batch volume c (batch_asked w.request)) behind

  known_serve : (c : Serving) (a : Answer) (left : List Open) → GoesOnServing (head_known volume c a left)
  known_serve c a [] = submits_serve c c.line
  known_serve c a (o ∷ left) = tt

  head_serve : (c : Serving) (name : NodeName) (a : Answer) (o : Open) (verdict : Verdict) → GoesOnServing (head_judged volume c name a o verdict)
  head_serve c name a o Stale = tt
  head_serve c name a o Good = known_serve c a (closed_at o.question.number c.asked)
  head_serve c name a o (Struck s) =
      either_way (all_struck (struck name.replica s o).strikes) (head_faulted shape c (line.Fault o.question.event o.question.block (struck name.replica s o).strikes) c.line)
      (ignored (Serves (record c { asked = struck_at a name.replica s c.asked }))) GoesOnServing
      (faulted_serve c (line.Fault o.question.event o.question.block (struck name.replica s o).strikes) c.line) tt

  head_answered_serve : (c : Serving) (name : NodeName) (a : Answer) (o : Option Open) → GoesOnServing (head_answered volume c name a o)
  head_answered_serve c name a None = tt
  head_answered_serve c name a (Some o) = head_serve c name a o (worth shape c a)

  answered_serve : (c : Serving) (name : NodeName) (a : Answer) → GoesOnServing (answered_here volume c name a)
  unfolding answered_here
  answered_serve c name a =
      either_way (not ((a.session == c.session) && is_fitting shape name a)) (ignored (Serves c))
      (if nat_lt a.read (2 ^ 32) then read_answered shape c name a (open_at a c.reads) else head_answered volume c name a (open_at a c.asked)) GoesOnServing tt
      (either_way (nat_lt a.read (2 ^ 32)) (read_answered shape c name a (open_at a c.reads)) (head_answered volume c name a (open_at a c.asked)) GoesOnServing
      (read_answered_serve c name a (open_at a c.reads)) (head_answered_serve c name a (open_at a c.asked)))

  pub serving_serve : (c : Serving) (name : NodeName) (m : Message) → GoesOnServing (told_serving volume c name m)
  serving_serve c name (message.Committed m) = committed_serve c name m.session m.front
  serving_serve c name (message.Answer m) = answered_serve c name m
  serving_serve c name other = tt

-- a number that isn't refused is below the bound
in_bound : (bound n : ℕ) (x : Option RequestRefusal) → option_or (range_refusal bound (n ∷ [])) x ≡ None → n < bound
in_bound bound n x none =
    by_test (λ t. nat_le bound n ≡ t → option_or (option_map (λ m. refusal.Range m) (cond t (Some n) None)) x ≡ None → n < bound) (nat_le bound n)
    (λ _ high is. absurd (cc)) (λ _ low is. leb-false bound n low) refl none

-- ---- a step

-- the client waits as before, or for less
pub record StaysSo (shape : Shape) (c d : Client) (name : NodeName) (x : News) : Type 0 where
  pub asks : (m : Message) → awaiting.Asks c name m → awaiting.Asks d name m
  pub replies : (m : Message) → Replies shape c name m → Replies shape d name m
  pub done : Done c name → Done d name
  pub replied : (m : Message) → x ≡ Says name m → Replies shape c name m → Done d name

pub data Passes (shape : Shape) (c : Client) (name : NodeName) (x : News) (answer : Told) : Type 0 where
  Begins : (l : Letter) → IsAmong l answer.outs → l.to ≡ name → awaiting.Asks answer.client name l.message → Passes shape c name x answer
  Ends : Done answer.client name → Passes shape c name x answer
  Stays : StaysSo shape c answer.client name x → Passes shape c name x answer

-- Some node hasn't answered after it, and a session that is staged or fetched for then comes from what the client was at.
pub record Moves (volume : Volume) (c : Client) (name : NodeName) (x : News) (answer : Told) : Type 0 where
  pub passes : Passes volume.geometry c name x answer
  pub waits : IsOpen volume.geometry answer.client
  pub comes : ComesFrom volume c answer.client answer.lines

same_comes : (volume : Volume) (c : Client) (lines : List Line) → AreQuiet lines → ComesFrom volume c c lines
same_comes volume (Stages b) lines quiet = record { session = refl; seq = refl; contents = refl; bases = refl; quiet = quiet }
same_comes volume (Gathers g) lines quiet = tt
same_comes volume (Fetches f) lines quiet = (refl, quiet)
same_comes volume (Switches b) lines quiet = tt
same_comes volume Closed lines quiet = tt
same_comes volume (Serves s) lines quiet = tt

module _ (volume : Volume) (nodes : HasNodes volume.geometry) (name : NodeName) (inside : IsOfVolume volume.geometry name) where
  abbrev geometry : Shape
  geometry = volume.geometry

  abbrev Goes : Client → News → Told → Type 0
  Goes c x answer = Moves volume c name x answer

  as_before : (c : Client) (x : News) (lines : List Line) → ((m : Message) → x ≡ Says name m → Replies geometry c name m → ⊥) → AreQuiet lines → IsOpen geometry c → Goes c x (only_lines c lines)
  as_before c x lines none quiet ready = record {
    passes = Stays (record { asks = λ m is. is; replies = λ m is. is; done = λ is. is; replied = λ m is of. absurd (none m is of) });
    waits = ready;
    comes = same_comes volume c lines quiet;
  }

  still_serving : (c : Client) (x : News) (answer : Told) → GoesOnServing answer → Goes c x answer
  still_serving c x answer serving = by answer.client refl serving where
    by : (d : Client) → answer.client ≡ d → IsServing d → Goes c x answer
    by (Serves s) is on =
        record {
          passes = Ends (subst (λ (k : Client). Done k name) (sym is) tt);
          waits = subst (λ (k : Client). IsOpen geometry k) (sym is) tt;
          comes = subst (λ (k : Client). ComesFrom volume c k answer.lines) (sym is) tt;
        }
    by Closed is on = absurd on
    by (Gathers g) is on = absurd on
    by (Fetches f) is on = absurd on
    by (Stages b) is on = absurd on
    by (Switches b) is on = absurd on

  -- ---- a request

  restarted_goes : (c : Client) (x : News) (e : ℕ) → Goes c x (restarted geometry e)
  unfolding restarted
  restarted_goes c x e = record {
    passes = Begins (record { to = name; message = message.Gather (record { session = e }) })
        (among_map-in (λ (n : NodeName). record { to = n; message = message.Gather (record { session = e }) }) (all_nodes geometry) name (in_nodes geometry name inside)) refl refl;
    waits = nodes;
    comes = tt;
  }

  away_goes : (c : Client) (v : ℕ) (r : Request) → IsOpen geometry c → Goes c (Asks r) (requested_away geometry c v r)
  away_goes c v (request.Restart e) ready = restarted_goes c (Asks (request.Restart e)) e
  away_goes c v (request.Write batch) ready = as_before c (Asks (request.Write batch)) _ (λ m is of. not_asked (request.Write batch) name m is) tt ready
  away_goes c v (request.Read b) ready = as_before c (Asks (request.Read b)) _ (λ m is of. not_asked (request.Read b) name m is) tt ready
  away_goes c v request.Barrier ready = as_before c (Asks request.Barrier) _ (λ m is of. not_asked request.Barrier name m is) tt ready
  away_goes c v (request.Reassign e g) ready = as_before c (Asks (request.Reassign e g)) _ (λ m is of. not_asked (request.Reassign e g) name m is) tt ready

  -- a node of the region is asked for its blocks
  fetches_goes : (s : Serving) (x : News) (e g : ℕ) → g < regions geometry → Goes (Serves s) x (fetches geometry s e g)
  fetches_goes s x e g low = by (name.region == g) refl where
    by : (b : Bool) → (name.region == g) ≡ b → Goes (Serves s) x (fetches geometry s e g)
    by true is = record {
      passes = Begins (record { to = name; message = message.Dump (record { session = s.session; region = g }) })
          (subst (λ (r : ℕ). IsAmong (record { to = name; message = message.Dump (record { session = s.session; region = g }) }) (to_all (group_of geometry r) (message.Dump (record { session = s.session; region = g })))) (eqb-true name.region g is)
          (among_map-in (λ (n : NodeName). record { to = n; message = message.Dump (record { session = s.session; region = g }) }) (group_of geometry name.region) name (in_group geometry name inside))) refl (eqb-true name.region g is, refl);
      waits = tt;
      comes = (refl, low);
    }
    by false is = record { passes = Ends (λ same. true≢false (sym (eq-eqb name.region g same) ∙ is)); waits = tt; comes = (refl, low) }

  serving_goes : (s : Serving) (v : ℕ) (r : Request) → Goes (Serves s) (Asks r) (requested_here geometry s v r)
  unfolding requested_here
  serving_goes s v r = by (refusal_here geometry s r) r refl where
    by : (o : Option RequestRefusal) (q : Request) → refusal_here geometry s q ≡ o → Goes (Serves s) (Asks r) (decided geometry s v q o)
    by (Some cause) q free = still_serving (Serves s) (Asks r) _ tt
    by None (request.Write batch) free = still_serving (Serves s) (Asks r) _ (joined_serve volume s (record { event = v; request = request.Write batch }) s.line)
    by None (request.Read b) free = still_serving (Serves s) (Asks r) _ (joined_serve volume s (record { event = v; request = request.Read b }) s.line)
    by None request.Barrier free = still_serving (Serves s) (Asks r) _ (joined_serve volume s (record { event = v; request = request.Barrier }) s.line)
    by None (request.Restart e) free = still_serving (Serves s) (Asks r) _ tt
    by None (request.Reassign e g) free = fetches_goes s (Asks r) e g (in_bound (regions geometry) g _ free)

  -- ---- a message

  not_kind : (c : Client) (by : NodeName) (m : Message) → ((k : Message) → m ≡ k → Replies geometry c name k → ⊥) → (k : Message) → Says by m ≡ Says name k → Replies geometry c name k → ⊥
  not_kind c by m none k is of = none k (said_message by name m k is) of

  abbrev letter_to : (e seq : ℕ) (contents : List (List ℕ)) (carried : ℕ → List (List ℕ)) → Letter
  letter_to e seq contents carried = record { to = name; message = message.Stage (record { base = record { rec = base_record volume e seq contents name.region; blocks = carried name.region } }) }

  letter_there : (e seq : ℕ) (contents : List (List ℕ)) (carried : ℕ → List (List ℕ)) → IsAmong (letter_to e seq contents carried) (stage_letters volume e seq contents carried)
  letter_there e seq contents carried =
      among_flat_map-in (λ g. to_all (group_of geometry g) (message.Stage (record { base = record { rec = base_record volume e seq contents g; blocks = carried g } }))) name.region
      (letter_to e seq contents carried) (all_regions geometry) (region_in geometry name inside)
      (among_map-in (λ (n : NodeName). record { to = n; message = message.Stage (record { base = record { rec = base_record volume e seq contents name.region; blocks = carried name.region } }) })
      (group_of geometry name.region) name (in_group geometry name inside))

  staged_goes : (c : Client) (x : News) (e from seq : ℕ) (contents : List (List ℕ)) (carried : ℕ → List (List ℕ)) → StagedBy volume c (record { session = e; seq = seq; contents = contents; bases = stage_letters volume e seq contents carried; answered = [] }) (line.Stage e from seq ∷ [])
      → Goes c x (staged_from volume e from seq contents carried)
  staged_goes c x e from seq contents carried was = record {
    passes = Begins (letter_to e seq contents carried) (letter_there e seq contents carried) refl (letter_there e seq contents carried);
    waits = nodes;
    comes = was;
  }

  chosen_goes : (old : Gathering) (x : News) (g : Gathering) (o : Option Header) → old.session ≡ g.session → Goes (Gathers old) x (chosen volume g o)
  chosen_goes old x g None was = record { passes = Ends tt; waits = tt; comes = tt }
  chosen_goes old x g (Some h) was =
      staged_goes (Gathers old) x g.session h.session h.seq (joined_blocks (recovered geometry g.pool h)) (λ r. blocks_in geometry (joined_blocks (recovered geometry g.pool h)) r) (record { session = was; bases = refl })

  gathered_goes : (g : Gathering) (by : NodeName) (m : Message) → IsOpen geometry (Gathers g) → Goes (Gathers g) (Says by m) (told_gathering volume g by m)
  unfolding gathered_here
  gathered_goes g by (message.Gathered m) ready =
      let next : Gathering = with_reply_of volume by m.held g in
      let of : CountsOf volume by m.held g = counts_of volume by m.held g in
      let x : News = Says by (message.Gathered m) in
      way_with (m.session == g.session) (gathered_all volume next) (ignored (Gathers g)) (Goes (Gathers g) x)
      (λ same. way_with (all_answered geometry next.answered) (chosen volume next (choice_of geometry next.pool)) (ignored (Gathers next)) (Goes (Gathers g) x)
      (λ all. chosen_goes g x next (choice_of geometry next.pool) (sym of.session))
      (λ waits. record {
        passes = Stays (record {
          asks = λ k is. is ∙ ap (λ (e : ℕ). message.Gather (record { session = e })) (sym of.session);
          replies = λ k is. (is.0, is.1 ∙ ap (λ (e : ℕ). message.Gathered (record { session = e; held = is.0 })) (sym of.session));
          done = λ is. of.still name is;
          replied = λ k is reply. subst (λ (n : NodeName). has_answered n next.answered ≡ true) (said_name by name (message.Gathered m) k is) of.now;
        });
        waits = waits;
        comes = tt;
      }))
      (λ other. as_before (Gathers g) x []
      (not_kind (Gathers g) by (message.Gathered m) (λ k is reply. true≢false (sym (eq-eqb m.session g.session (session_gathered m g.session reply.0 (is ∙ reply.1))) ∙ other))) tt ready)
  gathered_goes g by other ready = as_before (Gathers g) (Says by other) [] (not_kind (Gathers g) by other (λ k is reply. true≢false (sym (ap is_gathered (is ∙ reply.1))))) tt ready

  fetched_goes : (f : Fetching) (by : NodeName) (m : Message) → Goes (Fetches f) (Says by m) (told_fetching volume f by m)
  unfolding dumped_here
  fetched_goes f by (message.Dumped m) =
      let root : List ℕ = region_root geometry f.contents f.region in
      let x : News = Says by (message.Dumped m) in
      way_with (is_fetched geometry f.served f.region root by m) (staged_from volume f.session f.served f.last f.contents (fetched_blocks f.region m.blocks)) (ignored (Fetches f)) (Goes (Fetches f) x)
      (λ fetched. staged_goes (Fetches f) x f.session f.served f.last f.contents (fetched_blocks f.region m.blocks)
      (record {
        session = refl;
        seq = refl;
        contents = refl;
        line_is = refl;
        blocks = m.blocks;
        bases = refl;
        shaped = and_right _ (has_shape geometry m.blocks) (and_left _ (bytes_eq (root_of geometry.height m.blocks) root) fetched);
        root = (bytes_eq-Decides (root_of geometry.height m.blocks) root).0 (and_right _ (bytes_eq (root_of geometry.height m.blocks) root) fetched);
      }))
      (λ other. as_before (Fetches f) x []
      (λ k is reply. true≢false (sym (subst (λ (n : NodeName). is_fetched geometry f.served f.region root n m ≡ true) (sym (said_name by name (message.Dumped m) k is))
      (subst (λ (d : Dumped). is_fetched geometry f.served f.region root name d ≡ true) (sym (dumped_same m reply.0 (said_message by name (message.Dumped m) k is ∙ reply.1))) reply.2)) ∙ other)) tt tt)
  fetched_goes f by other = as_before (Fetches f) (Says by other) [] (not_kind (Fetches f) by other (λ k is reply. true≢false (sym (ap is_dumped (is ∙ reply.1))))) tt tt

  staging_goes : (b : Beginning) (by : NodeName) (m : Message) → IsOpen geometry (Stages b) → Goes (Stages b) (Says by m) (told_staging geometry b by m)
  unfolding staged_here
  staging_goes b by (message.Staged m) ready =
      let next : Beginning = record b { answered = with_name by b.answered } in
      let x : News = Says by (message.Staged m) in
      way_with (m.session == b.session) (staged_by geometry next) (ignored (Stages b)) (Goes (Stages b) x)
      (λ same. way_with (all_answered geometry next.answered)
      (record { client = Switches (record next { answered = [] }); outs = to_all (all_nodes geometry) (message.Switch (record { session = next.session })); lines = [] }) (ignored (Stages next)) (Goes (Stages b) x)
      (λ all. record {
        passes = Begins (record { to = name; message = message.Switch (record { session = b.session }) })
            (among_map-in (λ (n : NodeName). record { to = n; message = message.Switch (record { session = b.session }) }) (all_nodes geometry) name (in_nodes geometry name inside)) refl refl;
        waits = nodes;
        comes = tt;
      })
      (λ waits. record {
        passes = Stays (record {
          asks = λ k is. is;
          replies = λ k is. is;
          done = λ is. still_answered by name b.answered is;
          replied = λ k is reply. subst (λ (n : NodeName). has_answered n next.answered ≡ true) (said_name by name (message.Staged m) k is) (now_answered by b.answered);
        });
        waits = waits;
        comes = record { session = refl; seq = refl; contents = refl; bases = refl; quiet = tt };
      }))
      (λ other. as_before (Stages b) x []
      (not_kind (Stages b) by (message.Staged m) (λ k is reply. true≢false (sym (eq-eqb m.session b.session (session_staged m.session b.session (is ∙ reply))) ∙ other))) tt ready)
  staging_goes b by other ready = as_before (Stages b) (Says by other) [] (not_kind (Stages b) by other (λ k is reply. true≢false (sym (ap is_staged (is ∙ reply))))) tt ready

  switching_goes : (b : Beginning) (by : NodeName) (m : Message) → IsOpen geometry (Switches b) → Goes (Switches b) (Says by m) (told_switching geometry b by m)
  unfolding switched_here
  switching_goes b by (message.Switched m) ready =
      let next : Beginning = record b { answered = with_name by b.answered } in
      let x : News = Says by (message.Switched m) in
      way_with (m.session == b.session) (switched_by geometry next) (ignored (Switches b)) (Goes (Switches b) x)
      (λ same. way_with (all_answered geometry next.answered)
      (record { client = Serves (new_serving geometry next.session next.seq next.contents); outs = []; lines = line.Open next.session ∷ [] }) (ignored (Switches next)) (Goes (Switches b) x)
      (λ all. record { passes = Ends tt; waits = tt; comes = tt })
      (λ waits. record {
        passes = Stays (record {
          asks = λ k is. is;
          replies = λ k is. is;
          done = λ is. still_answered by name b.answered is;
          replied = λ k is reply. subst (λ (n : NodeName). has_answered n next.answered ≡ true) (said_name by name (message.Switched m) k is) (now_answered by b.answered);
        });
        waits = waits;
        comes = tt;
      }))
      (λ other. as_before (Switches b) x []
      (not_kind (Switches b) by (message.Switched m) (λ k is reply. true≢false (sym (eq-eqb m.session b.session (session_switched m.session b.session (is ∙ reply))) ∙ other))) tt ready)
  switching_goes b by other ready = as_before (Switches b) (Says by other) [] (not_kind (Switches b) by other (λ k is reply. true≢false (sym (ap is_switched (is ∙ reply))))) tt ready

  -- ---- any step

  asked_goes : (c : Client) (v : ℕ) (r : Request) → IsOpen geometry c → Goes c (Asks r) (requested volume c v r)
  unfolding requested
  asked_goes (Serves s) v r ready = serving_goes s v r
  asked_goes Closed v r ready = away_goes Closed v r ready
  asked_goes (Gathers g) v r ready = away_goes (Gathers g) v r ready
  asked_goes (Fetches f) v r ready = away_goes (Fetches f) v r ready
  asked_goes (Stages b) v r ready = away_goes (Stages b) v r ready
  asked_goes (Switches b) v r ready = away_goes (Switches b) v r ready

  received_goes : (c : Client) (by : NodeName) (m : Message) → IsOpen geometry c → Goes c (Says by m) (received volume c by m)
  unfolding received
  received_goes (Serves s) by m ready = still_serving (Serves s) (Says by m) _ (serving_serve volume s by m)
  received_goes Closed by m ready = as_before Closed (Says by m) [] (λ k is reply. reply) tt ready
  received_goes (Gathers g) by m ready = gathered_goes g by m ready
  received_goes (Fetches f) by m ready = fetched_goes f by m
  received_goes (Stages b) by m ready = staging_goes b by m ready
  received_goes (Switches b) by m ready = switching_goes b by m ready

  -- A step of the client, whatever it is told.
  pub moves : (c : Client) (v : ℕ) (x : News) → IsOpen geometry c → Goes c x (told volume c v x)
  unfolding told
  moves c v (Asks r) ready = asked_goes c v r ready
  moves c v (Says by m) ready = received_goes c by m ready
  moves c v Crashes ready = record { passes = Ends tt; waits = tt; comes = tt }
  moves c v Silence ready = as_before c Silence [] (λ m is of. not_silent name m is) tt ready
