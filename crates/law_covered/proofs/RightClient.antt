-- What the client stages has the right blocks, or none.
use Rattle.std.proofs.Common.{◌≡◌, ◌⊎◌, ℕ, ◌^◌, ◌<◌, ◌≤◌, ◌∙◌, true, ◌==◌, ◌&&◌, not, nat_lt, if◌then◌else◌, List, [], ◌∷◌, ◌++◌, length, bytes_eq, Option, None, Some, Result, Ok, Err, inl, inr, refl, ap, sym, subst, arith, eqb-true}
use Rattle.std.specs.Prelude.{flat_map}
use Rattle.std.specs.List.{AllByRecursion}
use Rattle.std.proofs.lemmas.Bool.{and_parts, cond-true}
use Rattle.std.proofs.lemmas.List.{take_all}
use Rattle.std.proofs.lemmas.Slice.Eq.{bytes_eq-Decides}
use Rattle.salus_types.specs.Volume.{Shape, regions, region_blocks}
use Rattle.salus_types.specs.declared.names.NodeName.{NodeName}
use Rattle.salus_types.specs.declared.names.Sender.TheVariants as sender
use Rattle.salus_types.specs.declared.records.Header.{Header}
use Rattle.salus_types.specs.declared.records.Record.{Record}
use Rattle.salus_message.specs.declared.replies.Answer.{Answer}
use Rattle.salus_message.specs.declared.carried.Stage.{Stage}
use Rattle.salus_message.specs.declared.carried.Dumped.{Dumped}
use Rattle.salus_message.specs.declared.wire.Message.{Message}
use Rattle.salus_message.specs.declared.wire.Message.TheVariants as message
use Rattle.salus_message.specs.declared.wire.MessageError.{MessageError}
use Rattle.salus_message.specs.Reading.{message_at}
use Rattle.salus_message.specs.Spelling.{message_bytes}
use Rattle.salus_message.proofs.MessageLaws.{message_again}
use Rattle.schedule_text.specs.declared.schedule.Volume.{Volume}
use Rattle.schedule_text.specs.declared.schedule.Event.{Event}
use Rattle.printed_lines.specs.declared.line.Line.{Line}
use Rattle.printed_lines.specs.declared.line.Line.TheVariants as line
use Rattle.printed_lines.specs.declared.line.RequestRefusal.{RequestRefusal}
use Rattle.salus_model.specs.declared.trace.Request.{Request}
use Rattle.salus_model.specs.declared.trace.Request.TheVariants as request
use Rattle.salus_model.specs.declared.trace.TraceStep.{TraceStep}
use Rattle.merkle_region.specs.Tree.{root_of, tree_strings, IsAmong}
use Rattle.merkle_region.proofs.Membership.{among_left, among_right}
use Rattle.holding_model.specs.Fitting.{has_shape}
use Rattle.volume_model.specs.Contents.{all_regions, region_of, region_root, blocks_in, fold_batches}
use Rattle.volume_model.specs.Parts.{contents_after}
use Rattle.volume_model.specs.Groups.{is_client, group_of, all_nodes}
use Rattle.volume_model.specs.Recovering.{choice_of, recovered}
use Rattle.salus_model.specs.Judge.{Judge, known_at, last_number}
use Rattle.salus_model.specs.Following.{Posted, posted_at}
use Rattle.salus_model.specs.Due.{past_of}
use Rattle.run_rules.specs.Serving.{IsClientStep}
use Rattle.salus_model.specs.Hearing.{News, Asks, Says, Crashes, Silence, Past, news_of, judge_of, news_since, begins}
use Rattle.salus_model.specs.Waiting.{Taken, Question, questions}
use Rattle.salus_model.specs.Answering.{Verdict, Stale, Good, Struck, is_fitting, all_struck}
use Rattle.salus_model.specs.Opening.{is_fetched}
use Rattle.salus_model.specs.Seen.{known_strings, news_strings}
use Rattle.client_rules.specs.State.{Open, Unacked, Serving, Gathering, Fetching, Beginning, Letter, Client, Closed, Serves, Gathers, Fetches, Stages, Switches, Told, ignored, to_all}
use Rattle.client_rules.specs.Tables.{closed_at, struck, struck_at, worth, open_at, ask_of, asks}
use Rattle.client_rules.specs.Submitting.{batch_asked, next_parts, part_letters, with_batch}
use Rattle.client_rules.specs.Serving.{refusal_here, leaves, joined, accepted, decided, requested_here, read_ended, read_judged, read_answered, submits, head_known, head_faulted, head_judged, head_answered, answered_here, acks, claimed, acked_told, committed_here, ticked_here}
use Rattle.client_rules.specs.Opening.{has_answered, not_answered, with_name, all_answered, new_serving, base_record, stage_letters, staged_from, restarted, with_reply_of, joined_blocks, chosen, gathered_all, gathered_here, fetched_blocks, dumped_here, staged_by, staged_here, switched_by, switched_here}
use Rattle.client_rules.specs.Rules.{requested_away, requested, received, told, told_serving, told_gathering, told_fetching, told_staging, told_switching, ticked, is_tick, client_step, posted_letter}
use Rattle.list_lemmas.proofs.Each.{either_way, all_both, all_filter, all_flat, all_map, all_each, all_then, flat_of_all}
use Rattle.list_lemmas.proofs.Members.{all_among, among_all, among_map, among_range, among_flat_map-in}
use Rattle.list_lemmas.proofs.Lists.{among_between}
use Rattle.list_lemmas.proofs.SameRoots.{same_roots}
use Rattle.list_lemmas.proofs.Tests.{by_test, and_right}
use Rattle.law_lemmas.proofs.Regional.{length-blocks_in}
use Rattle.law_lemmas.proofs.Numbered.{IsSized, length-contents_after}
use Rattle.law_lemmas.proofs.Owned.{known_among}
use Rattle.law_lemmas.proofs.Settled.{now-known}
use Rattle.law_lemmas.proofs.Growing.{Grows}
use Rattle.law_ranged.specs.Ranging.{IsSentWithin}
use Rattle.law_prefix.proofs.Growing.{split}
use Rattle.law_phases.proofs.Going.{lines_grow}
use Rattle.law_lines.specs.Mirrors.{Holds, MirrorsKnown, MirrorsFetching}
use Rattle.law_history.proofs.Seeing.{has_contents}
use Rattle.law_prefix.specs.World as abstract
use Rattle.law_records.proofs.Recovered.{sized_of}
use Rattle.law_phases.specs.Opening.{IsBefore}
use Rattle.law_covered.proofs.Right.{IsRightBase, StagesRight, right_more}

-- ---- small facts

abbrev held_ok : Message → Result Message MessageError → Message
held_ok d (Ok x) = x
held_ok d (Err e) = d

same_ok : (res : Result Message MessageError) (a d : Message) → res ≡ Ok a → res ≡ Ok d → a ≡ d
same_ok res a d first second = ap (held_ok a) (sym first ∙ second)

-- ---- messages that stage nothing

abbrev NotStage : Message → Type 0
NotStage (message.Stage m) = ⊥
NotStage other = Unit {0}

abbrev NoStage : List Letter → Type 0
NoStage letters = AllByRecursion (λ l. NotStage l.message) letters

none_to : (names : List NodeName) (m : Message) → NotStage m → NoStage (to_all names m)
none_to names m is = all_map (λ (l : Letter). NotStage l.message) (λ name. record { to = name; message = m }) names (all_each (λ name. NotStage m) names (λ name. is))

-- a client that keeps no bases
abbrev KeepsNone : Client → Type 0
KeepsNone (Stages b) = ⊥
KeepsNone Closed = Unit {0}
KeepsNone (Serves c) = Unit {0}
KeepsNone (Gathers g) = Unit {0}
KeepsNone (Fetches f) = Unit {0}
KeepsNone (Switches b) = Unit {0}

module _ (shape : Shape) where
  none_asks : (c : Serving) (qs : List Question) → NoStage (flat_map (λ q. asks shape c q) qs)
  none_asks c qs = all_flat (λ (l : Letter). NotStage l.message) (λ q. asks shape c q) qs (λ q. none_to (group_of shape (region_of shape q.block)) (ask_of shape c q) tt)

  none_open : (c : Serving) (os : List Open) → NoStage (flat_map (λ (o : Open). asks shape c o.question) os)
  none_open c os = all_flat (λ (l : Letter). NotStage l.message) (λ (o : Open). asks shape c o.question) os (λ o. none_to (group_of shape (region_of shape o.question.block)) (ask_of shape c o.question) tt)

  none_parts : (parts : List Record) → NoStage (part_letters shape parts)
  none_parts parts =
      all_flat (λ (l : Letter). NotStage l.message) (λ (rec : Record). to_all (group_of shape rec.header.region) (message.Part (record { rec = rec }))) parts
      (λ rec. none_to (group_of shape rec.header.region) (message.Part (record { rec = rec })) tt)

  abbrev Quiet : Told → Type 0
  Quiet answer = NoStage answer.outs × KeepsNone answer.client

  none_leaves : (c : Serving) (requests : List Taken) → Quiet (leaves shape c requests)
  unfolding leaves
  none_leaves c requests = (none_asks c (questions shape requests), tt)

  none_joined : (c : Serving) (r : Taken) (rs : List Taken) → Quiet (joined shape c r rs)
  none_joined c r [] = none_leaves c (r ∷ [])
  none_joined c r (head ∷ rs) = (tt, tt)

  none_accepted : (c : Serving) (v : ℕ) (r : Request) → Quiet (accepted shape c v r)
  none_accepted c v (request.Write batch) = none_joined c (record { event = v; request = request.Write batch }) c.line
  none_accepted c v (request.Read b) = none_joined c (record { event = v; request = request.Read b }) c.line
  none_accepted c v request.Barrier = none_joined c (record { event = v; request = request.Barrier }) c.line
  none_accepted c v (request.Restart e) = (tt, tt)
  none_accepted c v (request.Reassign e g) = (none_to (group_of shape g) (message.Dump (record { session = c.session; region = g })) tt, tt)

  none_requested : (c : Serving) (v : ℕ) (r : Request) → Quiet (requested_here shape c v r)
  unfolding requested_here
  none_requested c v r = by (refusal_here shape c r) where
    by : (o : Option RequestRefusal) → Quiet (decided shape c v r o)
    by (Some cause) = (tt, tt)
    by None = none_accepted c v r

  none_committed : (c : Serving) (name : NodeName) (session front : ℕ) → Quiet (committed_here shape c name session front)
  unfolding committed_here
  none_committed c name session front = either_way (session == c.session) (acked_told (acks shape (claimed c name front) c.unacked)) (ignored (Serves c)) Quiet (tt, tt) (tt, tt)

  none_read : (c : Serving) (name : NodeName) (a : Answer) (o : Open) (verdict : Verdict) → Quiet (read_judged shape c name a o verdict)
  none_read c name a o Stale = (none_to (name ∷ []) (ask_of shape c o.question) tt, tt)
  none_read c name a o Good = (tt, tt)
  none_read c name a o (Struck s) =
      either_way (all_struck (struck name.replica s o).strikes) (read_ended c o (line.Fault o.question.event o.question.block (struck name.replica s o).strikes))
      (ignored (Serves (record c { reads = struck_at a name.replica s c.reads }))) Quiet (tt, tt) (tt, tt)

  none_read_answered : (c : Serving) (name : NodeName) (a : Answer) (o : Option Open) → Quiet (read_answered shape c name a o)
  none_read_answered c name a None = (tt, tt)
  none_read_answered c name a (Some o) = none_read c name a o (worth shape c a)

  none_faulted : (c : Serving) (l : Line) (rs : List Taken) → Quiet (head_faulted shape c l rs)
  none_faulted c l [] = (tt, tt)
  none_faulted c l (w ∷ behind) = none_leaves c behind

  none_away : (c : Client) (v : ℕ) (r : Request) → NoStage (requested_away shape c v r).outs
  unfolding restarted
  none_away c v (request.Restart e) = none_to (all_nodes shape) (message.Gather (record { session = e })) tt
  none_away c v (request.Write batch) = tt
  none_away c v (request.Read b) = tt
  none_away c v request.Barrier = tt
  none_away c v (request.Reassign e g) = tt

module _ (volume : Volume) where
  none_submits : (c : Serving) (rs : List Taken) → Quiet volume.geometry (submits volume c rs)
  none_submits c [] = (tt, tt)
  none_submits c (w ∷ behind) =
      let rest : Quiet volume.geometry (leaves volume.geometry (with_batch volume c (batch_asked w.request)) behind) = none_leaves volume.geometry (with_batch volume c (batch_asked w.request)) behind in (
        all_both (λ (l : Letter). NotStage l.message) (part_letters volume.geometry (next_parts volume c (batch_asked w.request))) (leaves volume.geometry (with_batch volume c (batch_asked w.request)) behind).outs
            (none_parts volume.geometry (next_parts volume c (batch_asked w.request))) rest.0,
        rest.1,
      )

  none_known : (c : Serving) (a : Answer) (left : List Open) → Quiet volume.geometry (head_known volume c a left)
  none_known c a [] = none_submits c c.line
  none_known c a (o ∷ left) = (tt, tt)

  none_head : (c : Serving) (name : NodeName) (a : Answer) (o : Open) (verdict : Verdict) → Quiet volume.geometry (head_judged volume c name a o verdict)
  none_head c name a o Stale = (none_to (name ∷ []) (ask_of volume.geometry c o.question) tt, tt)
  none_head c name a o Good = none_known c a (closed_at o.question.number c.asked)
  none_head c name a o (Struck s) =
      either_way (all_struck (struck name.replica s o).strikes) (head_faulted volume.geometry c (line.Fault o.question.event o.question.block (struck name.replica s o).strikes) c.line)
      (ignored (Serves (record c { asked = struck_at a name.replica s c.asked }))) (Quiet volume.geometry)
      (none_faulted volume.geometry c (line.Fault o.question.event o.question.block (struck name.replica s o).strikes) c.line) (tt, tt)

  none_head_answered : (c : Serving) (name : NodeName) (a : Answer) (o : Option Open) → Quiet volume.geometry (head_answered volume c name a o)
  none_head_answered c name a None = (tt, tt)
  none_head_answered c name a (Some o) = none_head c name a o (worth volume.geometry c a)

  none_answered : (c : Serving) (name : NodeName) (a : Answer) → Quiet volume.geometry (answered_here volume c name a)
  unfolding answered_here
  none_answered c name a =
      either_way (not ((a.session == c.session) && is_fitting volume.geometry name a)) (ignored (Serves c))
      (if nat_lt a.read (2 ^ 32) then read_answered volume.geometry c name a (open_at a c.reads) else head_answered volume c name a (open_at a c.asked)) (Quiet volume.geometry) (tt, tt)
      (either_way (nat_lt a.read (2 ^ 32)) (read_answered volume.geometry c name a (open_at a c.reads)) (head_answered volume c name a (open_at a c.asked)) (Quiet volume.geometry)
      (none_read_answered volume.geometry c name a (open_at a c.reads)) (none_head_answered c name a (open_at a c.asked)))

  none_serving : (c : Serving) (name : NodeName) (m : Message) → Quiet volume.geometry (told_serving volume c name m)
  none_serving c name (message.Committed m) = none_committed volume.geometry c name m.session m.front
  none_serving c name (message.Answer m) = none_answered c name m
  none_serving c name other = (tt, tt)

  none_staging : (b : Beginning) (name : NodeName) (m : Message) → NoStage (told_staging volume.geometry b name m).outs
  unfolding staged_here
  none_staging b name (message.Staged m) =
      let next : Beginning = record b { answered = with_name name b.answered } in
      either_way (m.session == b.session) (staged_by volume.geometry next) (ignored (Stages b)) (λ (answer : Told). NoStage answer.outs)
      (either_way (all_answered volume.geometry next.answered)
      (record { client = Switches (record next { answered = [] }); outs = to_all (all_nodes volume.geometry) (message.Switch (record { session = next.session })); lines = [] }) (ignored (Stages next)) (λ (answer : Told). NoStage answer.outs)
      (none_to (all_nodes volume.geometry) (message.Switch (record { session = next.session })) tt) tt) tt
  none_staging b name other = tt

  none_switching : (b : Beginning) (name : NodeName) (m : Message) → Quiet volume.geometry (told_switching volume.geometry b name m)
  unfolding switched_here
  none_switching b name (message.Switched m) =
      let next : Beginning = record b { answered = with_name name b.answered } in
      either_way (m.session == b.session) (switched_by volume.geometry next) (ignored (Switches b)) (Quiet volume.geometry)
      (either_way (all_answered volume.geometry next.answered)
      (record { client = Serves (new_serving volume.geometry next.session next.seq next.contents); outs = []; lines = line.Open next.session ∷ [] }) (ignored (Switches next)) (Quiet volume.geometry) (tt, tt) (tt, tt)) (tt, tt)
  none_switching b name other = (tt, tt)

-- ---- bases that are staged

-- a base that a message stages has no blocks, or the right ones
abbrev pub IsRightIn : Shape → Judge → Message → Type 0
IsRightIn shape judge (message.Stage m) = (m.base.blocks ≡ []) ⊎ IsRightBase shape judge m.base.rec.header.region m.base
IsRightIn shape judge other = Unit {0}

abbrev pub AreRight : Shape → Judge → List Letter → Type 0
AreRight shape judge letters = AllByRecursion (λ l. IsRightIn shape judge l.message) letters

-- so of what a client keeps to send it again
abbrev pub KeepsRight : Shape → Judge → Client → Type 0
KeepsRight shape judge (Stages b) = AreRight shape judge b.bases
KeepsRight shape judge Closed = Unit {0}
KeepsRight shape judge (Serves c) = Unit {0}
KeepsRight shape judge (Gathers g) = Unit {0}
KeepsRight shape judge (Fetches f) = Unit {0}
KeepsRight shape judge (Switches b) = Unit {0}

none_right : (shape : Shape) (judge : Judge) (m : Message) → NotStage m → IsRightIn shape judge m
none_right shape judge (message.Stage m) is = absurd is
none_right shape judge (message.Part m) is = tt
none_right shape judge (message.Prepared m) is = tt
none_right shape judge (message.Committed m) is = tt
none_right shape judge (message.Ask m) is = tt
none_right shape judge (message.Answer m) is = tt
none_right shape judge (message.Gather m) is = tt
none_right shape judge (message.Gathered m) is = tt
none_right shape judge (message.Staged m) is = tt
none_right shape judge (message.Switch m) is = tt
none_right shape judge (message.Switched m) is = tt
none_right shape judge (message.Dump m) is = tt
none_right shape judge (message.Dumped m) is = tt

quiet_right : (shape : Shape) (judge : Judge) (letters : List Letter) → NoStage letters → AreRight shape judge letters
quiet_right shape judge letters none = all_then (λ (l : Letter). NotStage l.message) (λ l. IsRightIn shape judge l.message) (λ l is. none_right shape judge l.message is) letters none

none_kept : (shape : Shape) (judge : Judge) (c : Client) → KeepsNone c → KeepsRight shape judge c
none_kept shape judge (Stages b) none = absurd none
none_kept shape judge Closed none = tt
none_kept shape judge (Serves c) none = tt
none_kept shape judge (Gathers g) none = tt
none_kept shape judge (Fetches f) none = tt
none_kept shape judge (Switches b) none = tt

-- ---- more is known

module _ (shape : Shape) (before after : Judge) (grows : Grows before after) where
  in_more : (x : Message) → IsRightIn shape before x → IsRightIn shape after x
  in_more (message.Stage m) (inl none) = inl none
  in_more (message.Stage m) (inr right) = inr (right_more shape before after grows m.base.rec.header.region m.base right)
  in_more (message.Part m) right = tt
  in_more (message.Prepared m) right = tt
  in_more (message.Committed m) right = tt
  in_more (message.Ask m) right = tt
  in_more (message.Answer m) right = tt
  in_more (message.Gather m) right = tt
  in_more (message.Gathered m) right = tt
  in_more (message.Staged m) right = tt
  in_more (message.Switch m) right = tt
  in_more (message.Switched m) right = tt
  in_more (message.Dump m) right = tt
  in_more (message.Dumped m) right = tt

  letters_more : (letters : List Letter) → AreRight shape before letters → AreRight shape after letters
  letters_more letters right = all_then (λ (l : Letter). IsRightIn shape before l.message) (λ (l : Letter). IsRightIn shape after l.message) (λ l is. in_more l.message is) letters right

  pub kept_more : (c : Client) → KeepsRight shape before c → KeepsRight shape after c
  kept_more (Stages b) right = letters_more b.bases right
  kept_more Closed right = tt
  kept_more (Serves c) right = tt
  kept_more (Gathers g) right = tt
  kept_more (Fetches f) right = tt
  kept_more (Switches b) right = tt

-- what the header of a staged record says
record SaysBase (rec : Record) (e seq g : ℕ) : Type 0 where
  session : rec.header.session ≡ e
  number : rec.header.seq ≡ seq
  region : rec.header.region ≡ g

base_says : (volume : Volume) (e seq : ℕ) (contents : List (List ℕ)) (g : ℕ) → SaysBase (base_record volume e seq contents g) e seq g
unfolding base_record
base_says volume e seq contents g = record { session = refl; number = refl; region = refl }

module _ (volume : Volume) (events : List Event) (history : List Past) (p : Past) (n m : ℕ) where
  abbrev geometry : Shape
  geometry = volume.geometry

  abbrev before : Judge
  before = judge_of geometry events history

  abbrev after : Judge
  after = judge_of geometry events (p ∷ history)

  -- what is told is right, where the client mirrors the history after it
  abbrev Right : Told → Type 0
  Right answer = Holds volume (p ∷ history) after n m answer.client → AreRight geometry after answer.outs × KeepsRight geometry after answer.client

  quiet_told : (answer : Told) → NoStage answer.outs → (Holds volume (p ∷ history) after n m answer.client → KeepsRight geometry after answer.client) → Right answer
  quiet_told answer none keeps holds = (quiet_right geometry after answer.outs none, keeps holds)

  -- ---- a session is staged

  staged_right : (e from seq : ℕ) (contents : List (List ℕ)) (carried : ℕ → List (List ℕ))
      → ((g : ℕ) → g < regions geometry → (carried g ≡ []) ⊎ (carried g ≡ blocks_in geometry contents g)) → Right (staged_from volume e from seq contents carried)
  staged_right e from seq contents carried each holds = (letters, letters) where
    begun : MirrorsKnown after (record { session = e; seq = seq; contents = contents; bases = stage_letters volume e seq contents carried; answered = [] })
    begun = holds.mirrors.begun

    one : (g : ℕ) → g < regions geometry → IsRightIn geometry after (message.Stage (record { base = record { rec = base_record volume e seq contents g; blocks = carried g } }))
    one g inside = elim (each g inside) [
      | inl none ↦ inl none
      | inr same ↦
          let says : SaysBase (base_record volume e seq contents g) e seq g = base_says volume e seq contents g in
          let count : length begun.known.list ≡ seq = begun.count in
          let number : (base_record volume e seq contents g).header.seq ≡ seq = says.number in
          let whole : contents_after begun.known (base_record volume e seq contents g).header.seq ≡ contents =
          ap (contents_after begun.known) number ∙ (ap (fold_batches begun.known.origin) (take_all seq begun.known.list (omega (arith, count))) ∙ sym begun.contents) in
          inr (subst (λ r. IsRightBase geometry after r (record { rec = base_record volume e seq contents g; blocks = carried g })) (sym says.region) (record {
            known = begun.known;
            at = ap (known_at after) says.session ∙ begun.at;
            within = omega (arith, number, count);
            blocks = same ∙ ap (λ c. blocks_in geometry c g) (sym whole);
          }))
    ]

    letters : AreRight geometry after (stage_letters volume e seq contents carried)
    letters =
        flat_of_all (λ (l : Letter). IsRightIn geometry after l.message)
        (λ g. to_all (group_of geometry g) (message.Stage (record { base = record { rec = base_record volume e seq contents g; blocks = carried g } }))) (all_regions geometry)
        (all_among (λ g. AreRight geometry after (to_all (group_of geometry g) (message.Stage (record { base = record { rec = base_record volume e seq contents g; blocks = carried g } })))) (all_regions geometry)
        (λ g among.
        let range = among_range (regions geometry) 0 g among in
        all_map (λ (l : Letter). IsRightIn geometry after l.message)
        (λ name. record { to = name; message = message.Stage (record { base = record { rec = base_record volume e seq contents g; blocks = carried g } }) }) (group_of geometry g)
        (all_each (λ name. IsRightIn geometry after (message.Stage (record { base = record { rec = base_record volume e seq contents g; blocks = carried g } }))) (group_of geometry g)
        (λ name. one g (omega arith)))))

  chosen_right : (g : Gathering) (o : Option Header) → Right (chosen volume g o)
  chosen_right g None = quiet_told (chosen volume g None) tt (λ holds. tt)
  chosen_right g (Some h) =
      staged_right g.session h.session h.seq (joined_blocks (recovered geometry g.pool h)) (λ r. blocks_in geometry (joined_blocks (recovered geometry g.pool h)) r) (λ r inside. inr refl)

  gathered_right : (g : Gathering) (name : NodeName) (x : Message) → Right (told_gathering volume g name x)
  unfolding gathered_here
  gathered_right g name (message.Gathered x) =
      let next : Gathering = with_reply_of volume name x.held g in
      either_way (x.session == g.session) (gathered_all volume next) (ignored (Gathers g)) Right
      (either_way (all_answered geometry next.answered) (chosen volume next (choice_of geometry next.pool)) (ignored (Gathers next)) Right
      (chosen_right next (choice_of geometry next.pool)) (quiet_told (ignored (Gathers next)) tt (λ holds. tt)))
      (quiet_told (ignored (Gathers g)) tt (λ holds. tt))
  gathered_right g name other = quiet_told (ignored (Gathers g)) tt (λ holds. tt)

  -- ---- blocks that are fetched

  module _ (u : ℕ) (w : abstract.World) where
    -- they are those of the array, since their root is
    fetched_same : (f : Fetching) (name : NodeName) (d : Dumped) → IsBefore volume events history u (Says name (message.Dumped d)) w → MirrorsFetching history before f
        → is_fetched geometry f.served f.region (region_root geometry f.contents f.region) name d ≡ true → f.region < regions geometry → d.blocks ≡ blocks_in geometry f.contents f.region
    unfolding has_shape
    fetched_same f name d b mirrors is inside =
        let front = and_parts _ (bytes_eq (root_of geometry.height d.blocks) (region_root geometry f.contents f.region)) is in
        let shaped : has_shape geometry d.blocks ≡ true = and_right _ (has_shape geometry d.blocks) front.0 in
        let long : length d.blocks ≡ region_blocks geometry = eqb-true (length d.blocks) (region_blocks geometry) (and_parts (length d.blocks == region_blocks geometry) _ shaped).0 in
        let root : root_of geometry.height d.blocks ≡ region_root geometry f.contents f.region = (bytes_eq-Decides (root_of geometry.height d.blocks) (region_root geometry f.contents f.region)).0 front.1 in
        let whole : contents_after before.now (last_number before) ≡ f.contents =
        ap (fold_batches before.now.origin) (take_all (last_number before) before.now.list (omega arith)) ∙ sym mirrors.contents in
        let sized : IsSized geometry before.now = sized_of geometry before.now (b.told.sessions before.now before.now.session (now-known before)) in
        let here : blocks_in geometry (contents_after before.now (last_number before)) f.region ≡ blocks_in geometry f.contents f.region = ap (λ c. blocks_in geometry c f.region) whole in
        same_roots (known_strings geometry before ++ flat_map (news_strings geometry) (Says name (message.Dumped d) ∷ news_since begins history)) b.told.apart geometry.height d.blocks
        (blocks_in geometry (contents_after before.now (last_number before)) f.region) long
        (length-blocks_in geometry (contents_after before.now (last_number before)) f.region (length-contents_after geometry before.now sized (last_number before)) inside)
        (λ x among. among_right x (known_strings geometry before) (flat_map (news_strings geometry) (Says name (message.Dumped d) ∷ news_since begins history))
        (among_flat_map-in (news_strings geometry) (Says name (message.Dumped d)) x (Says name (message.Dumped d) ∷ news_since begins history) (inl refl)
        (subst (IsAmong x) (sym (cond-true (has_shape geometry d.blocks) (tree_strings geometry.height d.blocks) [] shaped)) among)))
        (λ x among. among_left x (known_strings geometry before) (flat_map (news_strings geometry) (Says name (message.Dumped d) ∷ news_since begins history))
        (has_contents geometry before before.now (known_among before before.now.session before.now (now-known before)) (last_number before) f.region x (omega arith) inside among))
        (root ∙ ap (root_of geometry.height) (sym here)) ∙ here

    fetched_right : (f : Fetching) (name : NodeName) (x : Message) → IsBefore volume events history u (Says name x) w → MirrorsFetching history before f → Right (told_fetching volume f name x)
    unfolding dumped_here
    fetched_right f name (message.Dumped d) b mirrors =
        by_test (λ t. is_fetched geometry f.served f.region (region_root geometry f.contents f.region) name d ≡ t
        → Right (if t then staged_from volume f.session f.served f.last f.contents (fetched_blocks f.region d.blocks) else ignored (Fetches f)))
        (is_fetched geometry f.served f.region (region_root geometry f.contents f.region) name d)
        (λ hit is. staged_right f.session f.served f.last f.contents (fetched_blocks f.region d.blocks)
        (λ g inside. by_test (λ t. (g == f.region) ≡ t → ((if t then d.blocks else []) ≡ []) ⊎ ((if t then d.blocks else []) ≡ blocks_in geometry f.contents g)) (g == f.region)
        (λ here same.
        let region : g ≡ f.region = eqb-true g f.region same in
        inr (fetched_same f name d b mirrors is (subst (λ r. r < regions geometry) region inside) ∙ ap (λ r. blocks_in geometry f.contents r) (sym region)))
        (λ other same. inl refl) refl))
        (λ miss is. quiet_told (ignored (Fetches f)) tt (λ holds. tt)) refl
    fetched_right f name other b mirrors = quiet_told (ignored (Fetches f)) tt (λ holds. tt)

  -- ---- any news

  -- a client that stages goes on with what it keeps, or switches
  staging_right : (s : Beginning) → KeepsRight geometry after (Stages s) → (name : NodeName) (x : Message) → KeepsRight geometry after (told_staging geometry s name x).client
  unfolding staged_here
  staging_right s keeps name (message.Staged x) =
      let next : Beginning = record s { answered = with_name name s.answered } in
      either_way (x.session == s.session) (staged_by geometry next) (ignored (Stages s)) (λ (answer : Told). KeepsRight geometry after answer.client)
      (either_way (all_answered geometry next.answered)
      (record { client = Switches (record next { answered = [] }); outs = to_all (all_nodes geometry) (message.Switch (record { session = next.session })); lines = [] }) (ignored (Stages next))
      (λ (answer : Told). KeepsRight geometry after answer.client) tt keeps) keeps
  staging_right s keeps name other = keeps

  still_right : (answer : Told) → Quiet geometry answer → Right answer
  still_right answer quiet = quiet_told answer quiet.0 (λ holds. none_kept geometry after answer.client quiet.1)

  away_right : (c : Client) → KeepsRight geometry after c → (v : ℕ) (r : Request) → Right (requested_away geometry c v r)
  unfolding restarted
  away_right c keeps v (request.Restart e) = quiet_told (restarted geometry e) (none_away geometry c v (request.Restart e)) (λ holds. tt)
  away_right c keeps v (request.Write batch) = quiet_told (requested_away geometry c v (request.Write batch)) tt (λ holds. keeps)
  away_right c keeps v (request.Read b) = quiet_told (requested_away geometry c v (request.Read b)) tt (λ holds. keeps)
  away_right c keeps v request.Barrier = quiet_told (requested_away geometry c v request.Barrier) tt (λ holds. keeps)
  away_right c keeps v (request.Reassign e g) = quiet_told (requested_away geometry c v (request.Reassign e g)) tt (λ holds. keeps)

  requested_right : (c : Client) → KeepsRight geometry after c → (v : ℕ) (r : Request) → Right (requested volume c v r)
  unfolding requested
  requested_right (Serves c) keeps v r = still_right (requested_here geometry c v r) (none_requested geometry c v r)
  requested_right Closed keeps v r = away_right Closed keeps v r
  requested_right (Gathers g) keeps v r = away_right (Gathers g) keeps v r
  requested_right (Fetches f) keeps v r = away_right (Fetches f) keeps v r
  requested_right (Stages b) keeps v r = away_right (Stages b) keeps v r
  requested_right (Switches b) keeps v r = away_right (Switches b) keeps v r

  received_right : (j k : ℕ) (c : Client) → Holds volume history before j k c → KeepsRight geometry after c → (u : ℕ) (name : NodeName) (x : Message) (w : abstract.World) → IsBefore volume events history u (Says name x) w
      → Right (received volume c name x)
  unfolding received
  received_right j k (Serves c) held keeps u name x w b = still_right (told_serving volume c name x) (none_serving volume c name x)
  received_right j k Closed held keeps u name x w b = still_right (ignored Closed) (tt, tt)
  received_right j k (Gathers g) held keeps u name x w b = gathered_right g name x
  received_right j k (Fetches f) held keeps u name x w b = fetched_right u w f name x b held.mirrors
  received_right j k (Stages s) held keeps u name x w b = quiet_told (told_staging geometry s name x) (none_staging volume s name x) (λ holds. staging_right s keeps name x)
  received_right j k (Switches s) held keeps u name x w b = still_right (told_switching geometry s name x) (none_switching volume s name x)

  told_right : (j k : ℕ) (c : Client) → Holds volume history before j k c → KeepsRight geometry after c → (u : ℕ) (x : News) (w : abstract.World) → IsBefore volume events history u x w → Right (told volume c u x)
  unfolding told
  told_right j k c held keeps u (Asks r) w b = requested_right c keeps u r
  told_right j k c held keeps u (Says name x) w b = received_right j k c held keeps u name x w b
  told_right j k c held keeps u Crashes w b = still_right (ignored Closed) (tt, tt)
  told_right j k c held keeps u Silence w b = quiet_told (ignored c) tt (λ holds. keeps)

-- ---- a tick

ticked_right : (volume : Volume) (judge : Judge) (c : Client) → KeepsRight volume.geometry judge c → AreRight volume.geometry judge (ticked volume.geometry c)
unfolding ticked ticked_here
ticked_right volume judge (Serves c) keeps = quiet_right volume.geometry judge (ticked volume.geometry (Serves c))
    (all_both (λ (l : Letter). NotStage l.message) _ (flat_map (λ (o : Open). asks volume.geometry c o.question) c.reads)
    (all_both (λ (l : Letter). NotStage l.message) (part_letters volume.geometry (flat_map (λ (u : Unacked). u.parts) c.unacked)) (flat_map (λ (o : Open). asks volume.geometry c o.question) c.asked)
    (none_parts volume.geometry (flat_map (λ (u : Unacked). u.parts) c.unacked)) (none_open volume.geometry c c.asked))
    (none_open volume.geometry c c.reads))
ticked_right volume judge Closed keeps = tt
ticked_right volume judge (Gathers g) keeps =
    quiet_right volume.geometry judge (ticked volume.geometry (Gathers g)) (none_to (not_answered volume.geometry g.answered) (message.Gather (record { session = g.session })) tt)
ticked_right volume judge (Fetches f) keeps =
    quiet_right volume.geometry judge (ticked volume.geometry (Fetches f)) (none_to (group_of volume.geometry f.region) (message.Dump (record { session = f.served; region = f.region })) tt)
ticked_right volume judge (Stages b) keeps = all_filter (λ (l : Letter). IsRightIn volume.geometry judge l.message) (λ (l : Letter). not (has_answered l.to b.answered)) b.bases keeps
ticked_right volume judge (Switches b) keeps =
    quiet_right volume.geometry judge (ticked volume.geometry (Switches b)) (none_to (not_answered volume.geometry b.answered) (message.Switch (record { session = b.session })) tt)

-- ---- a step

module _ (volume : Volume) (events : List Event) (posts : List Posted) (history : List Past) (sent : ℕ) (c : Client) (t : TraceStep) (party : t.party ≡ sender.Client) (w : abstract.World)
    (b : IsBefore volume events history t.event (news_of posts t) w) (by : IsClientStep volume posts c sent t) (within : AllByRecursion (IsSentWithin volume.geometry) (client_step volume posts c t).outs)
    (i j : ℕ) (was : Holds volume history (judge_of volume.geometry events history) i j c) (n m : ℕ)
    (holds : Holds volume (past_of volume events posts history t ∷ history) (judge_of volume.geometry events (past_of volume events posts history t ∷ history)) n m (client_step volume posts c t).client) where
  abbrev p : Past
  p = past_of volume events posts history t

  abbrev judge : Judge
  judge = judge_of volume.geometry events (p ∷ history)

  abbrev answer : Told
  answer = told volume c t.event (news_of posts t)

  grows : Grows (judge_of volume.geometry events history) judge
  grows = lines_grow volume.geometry events p.lines (judge_of volume.geometry events history) b.legal

  step_right : KeepsRight volume.geometry (judge_of volume.geometry events history) c → AreRight volume.geometry judge (client_step volume posts c t).outs × KeepsRight volume.geometry judge answer.client
  step_right keeps =
      let more : KeepsRight volume.geometry judge c = kept_more volume.geometry (judge_of volume.geometry events history) judge grows c keeps in
      let right : AreRight volume.geometry judge answer.outs × KeepsRight volume.geometry judge answer.client = told_right volume events history p n m i j c was more t.event (news_of posts t) w b holds in (
        either_way (is_client t.party) (if is_tick t.handed then ticked volume.geometry c else answer.outs) [] (AreRight volume.geometry judge)
            (either_way (is_tick t.handed) (ticked volume.geometry c) answer.outs (AreRight volume.geometry judge) (ticked_right volume judge c more) right.0) tt,
        right.1,
      )

  letter_at : (k : ℕ) (post : Posted) → posted_at posts k ≡ Some post → sent < k → k ≤ t.sent → (l : Letter) × IsAmong l (client_step volume posts c t).outs × (post ≡ posted_letter l)
  letter_at k post at low high =
      among_map posted_letter post (client_step volume posts c t).outs (subst (λ (ls : List Posted). IsAmong post ls) by.messages (among_between posts sent t.sent k post at low high))

  new_right : (l : Letter) → AreRight volume.geometry judge (client_step volume posts c t).outs → IsAmong l (client_step volume posts c t).outs → (a : Stage) → message_at (message_bytes l.message) ≡ Ok (message.Stage a)
      → IsRightIn volume.geometry judge (message.Stage a)
  new_right l right among a read =
      let inside : IsSentWithin volume.geometry l = among_all (IsSentWithin volume.geometry) (client_step volume posts c t).outs l among within in
      let same : l.message ≡ message.Stage a = same_ok (message_at (message_bytes l.message)) l.message (message.Stage a) (message_again l.message inside.counts inside.widths) read in
      subst (IsRightIn volume.geometry judge) same (among_all (λ (q : Letter). IsRightIn volume.geometry judge q.message) (client_step volume posts c t).outs l among right)

  pub stages_right : KeepsRight volume.geometry (judge_of volume.geometry events history) c → StagesRight volume.geometry posts (judge_of volume.geometry events history) sent
      → StagesRight volume.geometry posts judge t.sent × KeepsRight volume.geometry judge (client_step volume posts c t).client
  stages_right keeps stages = (all, right.1) where
    right : AreRight volume.geometry judge (client_step volume posts c t).outs × KeepsRight volume.geometry judge answer.client
    right = step_right keeps

    all : StagesRight volume.geometry posts judge t.sent
    all k up high post at from a read = elim (split k sent) [
      | inl old ↦ in_more volume.geometry (judge_of volume.geometry events history) judge grows (message.Stage a) (stages k up old post at from a read)
      | inr new ↦
          let l = letter_at k post at new high in
          new_right l.0 right.0 l.1 a (sym (ap (λ (q : Posted). message_at q.bytes) l.2) ∙ read)
    ]
