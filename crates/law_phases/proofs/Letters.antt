-- What the letters of a client's step are.
use Rattle.std.proofs.Common.{◌≡◌, ℕ, ◌+◌, ◌^◌, true, ◌==◌, ◌&&◌, not, nat_lt, if◌then◌else◌, List, [], ◌∷◌, ◌++◌, Option, None, Some, refl, sym, subst}
use Rattle.std.specs.Prelude.{filter, flat_map}
use Rattle.std.specs.List.{AllByRecursion}
use Rattle.std.proofs.lemmas.Grind.{flat_map-append}
use Rattle.salus_types.specs.Volume.{Shape}
use Rattle.salus_types.specs.declared.names.NodeName.{NodeName}
use Rattle.salus_types.specs.declared.records.Header.{Header}
use Rattle.salus_types.specs.declared.records.Record.{Record}
use Rattle.salus_message.specs.declared.replies.Answer.{Answer}
use Rattle.salus_message.specs.declared.wire.Message.{Message}
use Rattle.salus_message.specs.declared.wire.Message.TheVariants as message
use Rattle.schedule_text.specs.declared.schedule.Volume.{Volume}
use Rattle.printed_lines.specs.declared.line.Line.{Line}
use Rattle.printed_lines.specs.declared.line.Line.TheVariants as line
use Rattle.printed_lines.specs.declared.line.RequestRefusal.{RequestRefusal}
use Rattle.salus_model.specs.declared.trace.Request.{Request}
use Rattle.salus_model.specs.declared.trace.Request.TheVariants as request
use Rattle.volume_model.specs.Contents.{Batch, all_regions, region_of, region_root, blocks_in}
use Rattle.volume_model.specs.Parts.{touches, touched_by}
use Rattle.volume_model.specs.Groups.{group_of, all_nodes}
use Rattle.volume_model.specs.Recovering.{choice_of, recovered}
use Rattle.salus_model.specs.Hearing.{News, Asks, Says, Crashes, Silence}
use Rattle.salus_model.specs.Waiting.{Taken, Question, questions}
use Rattle.salus_model.specs.Answering.{Verdict, Stale, Good, Struck, is_fitting, all_struck}
use Rattle.salus_model.specs.Opening.{is_fetched}
use Rattle.client_rules.specs.State.{Open, Unacked, Serving, Gathering, Fetching, Beginning, Letter, Client, Closed, Serves, Gathers, Fetches, Stages, Switches, ignored, to_all}
use Rattle.client_rules.specs.Tables.{closed_at, struck, struck_at, worth, all_claimed, open_at, ask_of, asks}
use Rattle.client_rules.specs.Submitting.{batch_asked, next_part, next_parts, part_letters, with_batch}
use Rattle.client_rules.specs.Serving.{Acked, refusal_here, fetches, leaves, joined, accepted, decided, requested_here, read_ended, read_judged, read_answered, submits, head_known, head_faulted, head_judged, head_answered, answered_here, acks, acked_one, acked_lines, claimed, acked_told, committed_here, ticked_here}
use Rattle.client_rules.specs.Opening.{has_answered, not_answered, with_name, all_answered, new_serving, base_record, stage_letters, staged_from, restarted, with_reply_of, joined_blocks, chosen, gathered_all, gathered_here, fetched_blocks, dumped_here, staged_by, staged_here, switched_by, switched_here}
use Rattle.client_rules.specs.Rules.{requested_away, requested, received, told, told_serving, told_gathering, told_fetching, told_staging, told_switching, ticked}
use Rattle.list_lemmas.proofs.Each.{either_way, all_both, all_split, all_filter, all_flat, all_map, all_each, all_then}
use Rattle.list_lemmas.proofs.Members.{all_among, among_filter}
use Rattle.law_records.proofs.Content.{written-content}
use Rattle.law_phases.specs.Letters.{HasWrites, HasNone, IsOfClient, IsStageLetter, KeepsLetters, TellsLetters}

abbrev AllOf : Client → List Letter → Type 0
AllOf c letters = AllByRecursion (λ l. IsOfClient c l.message) letters

all_to : (c : Client) (names : List NodeName) (m : Message) → IsOfClient c m → AllOf c (to_all names m)
all_to c names m is = all_map (λ (l : Letter). IsOfClient c l.message) (λ name. record { to = name; message = m }) names (all_each (λ name. IsOfClient c m) names (λ name. is))

-- ---- asks and parts

module _ (shape : Shape) (d : Client) where
  asks_of : (c : Serving) (q : Question) → AllOf d (asks shape c q)
  asks_of c q = all_to d (group_of shape (region_of shape q.block)) (ask_of shape c q) tt

  all_asks : (c : Serving) (qs : List Question) → AllOf d (flat_map (λ q. asks shape c q) qs)
  all_asks c qs = all_flat (λ (l : Letter). IsOfClient d l.message) (λ q. asks shape c q) qs (λ q. asks_of c q)

  open_asks : (c : Serving) (os : List Open) → AllOf d (flat_map (λ (o : Open). asks shape c o.question) os)
  open_asks c os = all_flat (λ (l : Letter). IsOfClient d l.message) (λ (o : Open). asks shape c o.question) os (λ o. asks_of c o.question)

  parts_of : (parts : List Record) → AllByRecursion HasWrites parts → AllOf d (part_letters shape parts)
  parts_of [] all = tt
  parts_of (rec ∷ parts) all =
      all_both (λ (l : Letter). IsOfClient d l.message) (to_all (group_of shape rec.header.region) (message.Part (record { rec = rec }))) (part_letters shape parts)
      (all_to d (group_of shape rec.header.region) (message.Part (record { rec = rec })) all.0) (parts_of parts all.1)

module _ (volume : Volume) where
  abbrev shape : Shape
  shape = volume.geometry

  -- the next batch's part for a region that it touches has writes
  next_has : (c : Serving) (batch : Batch) (g : ℕ) → touches shape batch g ≡ true → HasWrites (next_part volume c batch g)
  unfolding next_part
  next_has c batch g touched = written-content shape batch g touched

  nexts_have : (c : Serving) (batch : Batch) → AllByRecursion HasWrites (next_parts volume c batch)
  nexts_have c batch =
      all_map HasWrites (λ g. next_part volume c batch g) (touched_by shape batch)
      (all_among (λ g. HasWrites (next_part volume c batch g)) (touched_by shape batch) (λ g m. next_has c batch g (among_filter (λ r. touches shape batch r) g (all_regions shape) m).1))

  base_none : (e seq : ℕ) (contents : List (List ℕ)) (g : ℕ) → HasNone (base_record volume e seq contents g)
  unfolding base_record
  base_none e seq contents g = (refl, refl)

  stages_none : (e seq : ℕ) (contents : List (List ℕ)) (carried : ℕ → List (List ℕ)) → AllByRecursion (λ l. IsStageLetter l.message) (stage_letters volume e seq contents carried)
  stages_none e seq contents carried =
      all_flat (λ (l : Letter). IsStageLetter l.message)
      (λ g. to_all (group_of shape g) (message.Stage (record { base = record { rec = base_record volume e seq contents g; blocks = carried g } }))) (all_regions shape)
      (λ g. all_map (λ (l : Letter). IsStageLetter l.message) (λ name. record { to = name; message = message.Stage (record { base = record { rec = base_record volume e seq contents g; blocks = carried g } }) }) (group_of shape g)
      (all_each (λ name. HasNone (base_record volume e seq contents g)) (group_of shape g) (λ name. base_none e seq contents g)))

  stage_of : (c : Client) (m : Message) → IsStageLetter m → IsOfClient c m
  stage_of c (message.Stage m) is = is
  stage_of c (message.Part m) is = absurd is
  stage_of c (message.Prepared m) is = absurd is
  stage_of c (message.Committed m) is = absurd is
  stage_of c (message.Ask m) is = absurd is
  stage_of c (message.Answer m) is = absurd is
  stage_of c (message.Gather m) is = absurd is
  stage_of c (message.Gathered m) is = absurd is
  stage_of c (message.Staged m) is = absurd is
  stage_of c (message.Switch m) is = absurd is
  stage_of c (message.Switched m) is = absurd is
  stage_of c (message.Dump m) is = absurd is
  stage_of c (message.Dumped m) is = absurd is

  stages_of : (c : Client) (letters : List Letter) → AllByRecursion (λ l. IsStageLetter l.message) letters → AllOf c letters
  stages_of c letters all = all_then (λ (l : Letter). IsStageLetter l.message) (λ l. IsOfClient c l.message) (λ l is. stage_of c l.message is) letters all

  quiet : (c : Client) (lines : List Line) → KeepsLetters c → TellsLetters (record { client = c; outs = []; lines = lines })
  quiet c lines keeps = record { keeps = keeps; sends = tt }

  -- ---- serving

  abbrev Kept : Serving → Type 0
  Kept c = AllByRecursion HasWrites (flat_map (λ (u : Unacked). u.parts) c.unacked)

  leaves_tell : (c : Serving) (requests : List Taken) → Kept c → TellsLetters (leaves shape c requests)
  unfolding leaves
  leaves_tell c requests kept = record { keeps = kept; sends = all_asks shape (leaves shape c requests).client c (questions shape requests) }

  joined_tell : (c : Serving) → Kept c → (r : Taken) (rs : List Taken) → TellsLetters (joined shape c r rs)
  joined_tell c kept r [] = leaves_tell c (r ∷ []) kept
  joined_tell c kept r (head ∷ rs) = quiet _ [] kept

  accepted_tell : (c : Serving) → Kept c → (v : ℕ) (r : Request) → TellsLetters (accepted shape c v r)
  accepted_tell c kept v (request.Write batch) = joined_tell c kept (record { event = v; request = request.Write batch }) c.line
  accepted_tell c kept v (request.Read b) = joined_tell c kept (record { event = v; request = request.Read b }) c.line
  accepted_tell c kept v request.Barrier = joined_tell c kept (record { event = v; request = request.Barrier }) c.line
  accepted_tell c kept v (request.Restart e) = quiet _ [] kept
  accepted_tell c kept v (request.Reassign e g) = record { keeps = tt; sends = all_to (fetches shape c e g).client (group_of shape g) (message.Dump (record { session = c.session; region = g })) tt }

  requested_tell : (c : Serving) → Kept c → (v : ℕ) (r : Request) → TellsLetters (requested_here shape c v r)
  unfolding requested_here
  requested_tell c kept v r = by (refusal_here shape c r) where
    by : (o : Option RequestRefusal) → TellsLetters (decided shape c v r o)
    by (Some cause) = quiet _ _ kept
    by None = accepted_tell c kept v r

  acks_keep : (us : List Unacked) (d : Serving) → d.unacked ≡ us → Kept d → Kept (acks shape d us).client
  unfolding acks
  acks_keep [] d same kept = kept
  acks_keep (u ∷ us) d same kept =
      let next : Serving = acked_one d us in
      let split = all_split HasWrites u.parts (flat_map (λ (x : Unacked). x.parts) us) (subst (λ l. AllByRecursion HasWrites (flat_map (λ (x : Unacked). x.parts) l)) same kept) in
      either_way (all_claimed shape d.claims u.leader (d.acked + 1))
      (record { client = (acks shape next us).client; lines = acked_lines d ++ (acks shape next us).lines }) (record { client = d; lines = [] })
      (λ (a : Acked). Kept a.client) (acks_keep us next refl split.1) kept

  committed_tell : (c : Serving) → Kept c → (name : NodeName) (session front : ℕ) → TellsLetters (committed_here shape c name session front)
  unfolding committed_here
  committed_tell c kept name session front =
      either_way (session == c.session) (acked_told (acks shape (claimed c name front) c.unacked)) (ignored (Serves c)) TellsLetters
      (quiet _ _ (acks_keep c.unacked (claimed c name front) refl kept)) (quiet _ [] kept)

  read_tell : (c : Serving) → Kept c → (name : NodeName) (a : Answer) (o : Open) (verdict : Verdict) → TellsLetters (read_judged shape c name a o verdict)
  read_tell c kept name a o Stale = record { keeps = kept; sends = all_to (Serves c) (name ∷ []) (ask_of shape c o.question) tt }
  read_tell c kept name a o Good = quiet _ _ kept
  read_tell c kept name a o (Struck s) =
      either_way (all_struck (struck name.replica s o).strikes) (read_ended c o (line.Fault o.question.event o.question.block (struck name.replica s o).strikes))
      (ignored (Serves (record c { reads = struck_at a name.replica s c.reads }))) TellsLetters (quiet _ _ kept) (quiet _ [] kept)

  read_answered_tell : (c : Serving) → Kept c → (name : NodeName) (a : Answer) (o : Option Open) → TellsLetters (read_answered shape c name a o)
  read_answered_tell c kept name a None = quiet _ [] kept
  read_answered_tell c kept name a (Some o) = read_tell c kept name a o (worth shape c a)

  faulted_tell : (c : Serving) → Kept c → (l : Line) (rs : List Taken) → TellsLetters (head_faulted shape c l rs)
  faulted_tell c kept l [] = quiet _ [] kept
  faulted_tell c kept l (w ∷ behind) = let rest = leaves_tell c behind kept in record { keeps = rest.keeps; sends = rest.sends }

  submits_tell : (c : Serving) → Kept c → (rs : List Taken) → TellsLetters (submits volume c rs)
  submits_tell c kept [] = quiet _ [] kept
  submits_tell c kept (w ∷ behind) =
      let batch : Batch = batch_asked w.request in
      let next : Serving = with_batch volume c batch in
      let more : Kept next =
      subst (AllByRecursion HasWrites) (sym (flat_map-append (λ (u : Unacked). u.parts) c.unacked _))
      (all_both HasWrites (flat_map (λ (u : Unacked). u.parts) c.unacked) (next_parts volume c batch ++ []) kept (all_both HasWrites (next_parts volume c batch) [] (nexts_have c batch) tt)) in
      let rest : TellsLetters (leaves shape next behind) = leaves_tell next behind more in
      record {
        keeps = rest.keeps;
        sends = all_both (λ (l : Letter). IsOfClient (leaves shape next behind).client l.message) (part_letters shape (next_parts volume c batch)) (leaves shape next behind).outs
            (parts_of shape (leaves shape next behind).client (next_parts volume c batch) (nexts_have c batch)) rest.sends;
      }

  known_tell : (c : Serving) → Kept c → (a : Answer) (left : List Open) → TellsLetters (head_known volume c a left)
  known_tell c kept a [] = submits_tell c kept c.line
  known_tell c kept a (o ∷ left) = quiet _ [] kept

  head_tell : (c : Serving) → Kept c → (name : NodeName) (a : Answer) (o : Open) (verdict : Verdict) → TellsLetters (head_judged volume c name a o verdict)
  head_tell c kept name a o Stale = record { keeps = kept; sends = all_to (Serves c) (name ∷ []) (ask_of shape c o.question) tt }
  head_tell c kept name a o Good = known_tell c kept a (closed_at o.question.number c.asked)
  head_tell c kept name a o (Struck s) =
      either_way (all_struck (struck name.replica s o).strikes) (head_faulted shape c (line.Fault o.question.event o.question.block (struck name.replica s o).strikes) c.line)
      (ignored (Serves (record c { asked = struck_at a name.replica s c.asked }))) TellsLetters
      (faulted_tell c kept (line.Fault o.question.event o.question.block (struck name.replica s o).strikes) c.line) (quiet _ [] kept)

  head_answered_tell : (c : Serving) → Kept c → (name : NodeName) (a : Answer) (o : Option Open) → TellsLetters (head_answered volume c name a o)
  head_answered_tell c kept name a None = quiet _ [] kept
  head_answered_tell c kept name a (Some o) = head_tell c kept name a o (worth shape c a)

  answered_tell : (c : Serving) → Kept c → (name : NodeName) (a : Answer) → TellsLetters (answered_here volume c name a)
  unfolding answered_here
  answered_tell c kept name a =
      either_way (not ((a.session == c.session) && is_fitting shape name a)) (ignored (Serves c))
      (if nat_lt a.read (2 ^ 32) then read_answered shape c name a (open_at a c.reads) else head_answered volume c name a (open_at a c.asked)) TellsLetters
      (quiet _ [] kept)
      (either_way (nat_lt a.read (2 ^ 32)) (read_answered shape c name a (open_at a c.reads)) (head_answered volume c name a (open_at a c.asked)) TellsLetters
      (read_answered_tell c kept name a (open_at a c.reads)) (head_answered_tell c kept name a (open_at a c.asked)))

  serving_tell : (c : Serving) → Kept c → (name : NodeName) (m : Message) → TellsLetters (told_serving volume c name m)
  serving_tell c kept name (message.Committed m) = committed_tell c kept name m.session m.front
  serving_tell c kept name (message.Answer m) = answered_tell c kept name m
  serving_tell c kept name other = quiet _ [] kept

  -- ---- away

  staged_from_tell : (e from seq : ℕ) (contents : List (List ℕ)) (carried : ℕ → List (List ℕ)) → TellsLetters (staged_from volume e from seq contents carried)
  staged_from_tell e from seq contents carried =
      record { keeps = stages_none e seq contents carried; sends = stages_of (staged_from volume e from seq contents carried).client (stage_letters volume e seq contents carried) (stages_none e seq contents carried) }

  chosen_tell : (g : Gathering) (o : Option Header) → TellsLetters (chosen volume g o)
  chosen_tell g None = quiet Closed _ tt
  chosen_tell g (Some h) = staged_from_tell g.session h.session h.seq (joined_blocks (recovered shape g.pool h)) (λ r. blocks_in shape (joined_blocks (recovered shape g.pool h)) r)

  gathered_tell : (g : Gathering) (name : NodeName) (m : Message) → TellsLetters (told_gathering volume g name m)
  unfolding gathered_here
  gathered_tell g name (message.Gathered m) =
      let next : Gathering = with_reply_of volume name m.held g in
      either_way (m.session == g.session) (gathered_all volume next) (ignored (Gathers g)) TellsLetters
      (either_way (all_answered shape next.answered) (chosen volume next (choice_of shape next.pool)) (ignored (Gathers next)) TellsLetters
      (chosen_tell next (choice_of shape next.pool)) (quiet (Gathers next) [] tt))
      (quiet (Gathers g) [] tt)
  gathered_tell g name other = quiet (Gathers g) [] tt

  fetched_tell : (f : Fetching) (name : NodeName) (m : Message) → TellsLetters (told_fetching volume f name m)
  unfolding dumped_here
  fetched_tell f name (message.Dumped m) =
      either_way (is_fetched shape f.served f.region (region_root shape f.contents f.region) name m) (staged_from volume f.session f.served f.last f.contents (fetched_blocks f.region m.blocks)) (ignored (Fetches f))
      TellsLetters (staged_from_tell f.session f.served f.last f.contents (fetched_blocks f.region m.blocks)) (quiet (Fetches f) [] tt)
  fetched_tell f name other = quiet (Fetches f) [] tt

  staged_tell : (b : Beginning) → KeepsLetters (Stages b) → (name : NodeName) (m : Message) → TellsLetters (told_staging shape b name m)
  unfolding staged_here
  staged_tell b kept name (message.Staged m) =
      let next : Beginning = record b { answered = with_name name b.answered } in
      either_way (m.session == b.session) (staged_by shape next) (ignored (Stages b)) TellsLetters
      (either_way (all_answered shape next.answered)
      (record { client = Switches (record next { answered = [] }); outs = to_all (all_nodes shape) (message.Switch (record { session = next.session })); lines = [] }) (ignored (Stages next)) TellsLetters
      (record { keeps = tt; sends = all_to (Switches (record next { answered = [] })) (all_nodes shape) (message.Switch (record { session = next.session })) refl }) (quiet (Stages next) [] kept))
      (quiet (Stages b) [] kept)
  staged_tell b kept name other = quiet (Stages b) [] kept

  switched_tell : (b : Beginning) (name : NodeName) (m : Message) → TellsLetters (told_switching shape b name m)
  unfolding switched_here
  switched_tell b name (message.Switched m) =
      let next : Beginning = record b { answered = with_name name b.answered } in
      either_way (m.session == b.session) (switched_by shape next) (ignored (Switches b)) TellsLetters
      (either_way (all_answered shape next.answered)
      (record { client = Serves (new_serving shape next.session next.seq next.contents); outs = []; lines = line.Open next.session ∷ [] }) (ignored (Switches next)) TellsLetters
      (quiet (Serves (new_serving shape next.session next.seq next.contents)) _ tt) (quiet (Switches next) [] tt))
      (quiet (Switches b) [] tt)
  switched_tell b name other = quiet (Switches b) [] tt

  away_tell : (c : Client) (v : ℕ) (r : Request) → KeepsLetters c → TellsLetters (requested_away shape c v r)
  unfolding restarted
  away_tell c v (request.Restart e) keeps = record { keeps = tt; sends = all_to (restarted shape e).client (all_nodes shape) (message.Gather (record { session = e })) refl }
  away_tell c v (request.Write batch) keeps = quiet c _ keeps
  away_tell c v (request.Read b) keeps = quiet c _ keeps
  away_tell c v request.Barrier keeps = quiet c _ keeps
  away_tell c v (request.Reassign e g) keeps = quiet c _ keeps

  asked_tell : (c : Client) (v : ℕ) (r : Request) → KeepsLetters c → TellsLetters (requested volume c v r)
  unfolding requested
  asked_tell (Serves c) v r keeps = requested_tell c keeps v r
  asked_tell Closed v r keeps = away_tell Closed v r keeps
  asked_tell (Gathers g) v r keeps = away_tell (Gathers g) v r keeps
  asked_tell (Fetches f) v r keeps = away_tell (Fetches f) v r keeps
  asked_tell (Stages b) v r keeps = away_tell (Stages b) v r keeps
  asked_tell (Switches b) v r keeps = away_tell (Switches b) v r keeps

  received_tell : (c : Client) (name : NodeName) (m : Message) → KeepsLetters c → TellsLetters (received volume c name m)
  unfolding received
  received_tell (Serves c) name m keeps = serving_tell c keeps name m
  received_tell Closed name m keeps = quiet Closed [] tt
  received_tell (Gathers g) name m keeps = gathered_tell g name m
  received_tell (Fetches f) name m keeps = fetched_tell f name m
  received_tell (Stages b) name m keeps = staged_tell b keeps name m
  received_tell (Switches b) name m keeps = switched_tell b name m

  pub told_tell : (c : Client) (v : ℕ) (x : News) → KeepsLetters c → TellsLetters (told volume c v x)
  unfolding told
  told_tell c v (Asks r) keeps = asked_tell c v r keeps
  told_tell c v (Says name m) keeps = received_tell c name m keeps
  told_tell c v Crashes keeps = quiet Closed [] tt
  told_tell c v Silence keeps = quiet c [] keeps

  -- a tick sends again what the client keeps, and leaves it as it is
  pub ticked_tell : (c : Client) → KeepsLetters c → AllByRecursion (λ l. IsOfClient c l.message) (ticked shape c)
  unfolding ticked ticked_here
  ticked_tell (Serves c) keeps =
      all_both (λ (l : Letter). IsOfClient (Serves c) l.message) _ (flat_map (λ (o : Open). asks shape c o.question) c.reads)
      (all_both (λ (l : Letter). IsOfClient (Serves c) l.message) (part_letters shape (flat_map (λ (u : Unacked). u.parts) c.unacked)) (flat_map (λ (o : Open). asks shape c o.question) c.asked)
      (parts_of shape (Serves c) (flat_map (λ (u : Unacked). u.parts) c.unacked) keeps) (open_asks shape (Serves c) c c.asked))
      (open_asks shape (Serves c) c c.reads)
  ticked_tell Closed keeps = tt
  ticked_tell (Gathers g) keeps = all_to (Gathers g) (not_answered shape g.answered) (message.Gather (record { session = g.session })) refl
  ticked_tell (Fetches f) keeps = all_to (Fetches f) (group_of shape f.region) (message.Dump (record { session = f.served; region = f.region })) tt
  ticked_tell (Stages b) keeps =
      stages_of (Stages b) (filter (λ (l : Letter). not (has_answered l.to b.answered)) b.bases) (all_filter (λ (l : Letter). IsStageLetter l.message) (λ l. not (has_answered l.to b.answered)) b.bases keeps)
  ticked_tell (Switches b) keeps = all_to (Switches b) (not_answered shape b.answered) (message.Switch (record { session = b.session })) refl
