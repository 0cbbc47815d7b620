-- At most 16 batches wait to be acknowledged, with the writes that wait in line.
use Rattle.std.proofs.Common.{◌≡◌, ℕ, ◌+◌, ◌^◌, ◌<◌, ◌≤◌, ◌∙◌, Bool, true, false, ◌==◌, ◌&&◌, not, nat_le, nat_lt, if◌then◌else◌, List, [], ◌∷◌, ◌++◌, map, cond, Option, None, Some, inl, inr, refl, ap, sym, subst, arith, leb-false}
use Rattle.std.specs.Prelude.{filter, flat_map}
use Rattle.std.specs.Option.{option_or}
use Rattle.std.specs.List.{AllByRecursion}
use Rattle.std.proofs.lemmas.Option.{none-some}
use Rattle.salus_types.specs.Volume.{Shape, blocks}
use Rattle.salus_types.specs.declared.names.NodeName.{NodeName}
use Rattle.salus_types.specs.declared.records.Header.{Header}
use Rattle.salus_types.specs.declared.strike.Strike.{Strike}
use Rattle.salus_message.specs.declared.replies.Answer.{Answer}
use Rattle.salus_message.specs.declared.wire.Message.{Message}
use Rattle.salus_message.specs.declared.wire.Message.TheVariants as message
use Rattle.schedule_text.specs.declared.schedule.Volume.{Volume}
use Rattle.printed_lines.specs.declared.line.Line.{Line}
use Rattle.printed_lines.specs.declared.line.Line.TheVariants as line
use Rattle.printed_lines.specs.declared.line.RequestRefusal.{RequestRefusal}
use Rattle.printed_lines.specs.declared.line.RequestRefusal.TheVariants as refusal
use Rattle.salus_model.specs.declared.trace.Request.{Request}
use Rattle.salus_model.specs.declared.trace.Request.TheVariants as request
use Rattle.merkle_region.specs.Tree.{IsAmong}
use Rattle.volume_model.specs.Contents.{Batch, region_root}
use Rattle.volume_model.specs.Groups.{all_nodes}
use Rattle.volume_model.specs.Recovering.{choice_of}
use Rattle.salus_model.specs.Hearing.{News, Asks, Says, Crashes, Silence}
use Rattle.salus_model.specs.Waiting.{Taken, is_write, is_barrier, left_of, writes_among, range_refusal, full_refusal}
use Rattle.salus_model.specs.Answering.{Verdict, Stale, Good, Struck, is_fitting, all_struck}
use Rattle.salus_model.specs.Opening.{is_fetched}
use Rattle.client_rules.specs.State.{Open, Unacked, Serving, Gathering, Fetching, Beginning, Client, Closed, Serves, Gathers, Fetches, Stages, Switches, Told, ignored, to_all}
use Rattle.client_rules.specs.Tables.{closed_at, struck, struck_at, line_of, worth, all_claimed, open_at, answered_of, is_reached, waiter_line}
use Rattle.client_rules.specs.Submitting.{batch_asked, with_batch}
use Rattle.client_rules.specs.Serving.{Acked, in_flight, refusal_here, leaves, joined, accepted, decided, requested_here, read_ended, read_judged, read_answered, submits, head_known, head_faulted, head_judged, head_answered, answered_here, acks, acked_one, acked_lines, claimed, acked_told, committed_here, after_leaving}
use Rattle.client_rules.specs.Opening.{with_name, all_answered, new_serving, staged_from, restarted, with_reply_of, chosen, gathered_all, gathered_here, fetched_blocks, dumped_here, staged_by, staged_here, switched_by, switched_here}
use Rattle.client_rules.specs.Rules.{new_client, requested_away, requested, received, told, told_serving, told_gathering, told_fetching, told_staging, told_switching}
use Rattle.law_lines.proofs.Counting.{count-cons, count-append}
use Rattle.law_phases.specs.Room.{IsHeaded, HasRoom, Roomy, TellsRoomy}
use Rattle.list_lemmas.proofs.Each.{either_way, all_both, all_flat, all_map, all_each}
use Rattle.list_lemmas.proofs.Members.{among_all}
use Rattle.list_lemmas.proofs.Tests.{by_test}

-- ---- the waiting line

headed_line : (rs : List Taken) → IsHeaded (line_of rs)
unfolding line_of
headed_line [] = tt
headed_line (r ∷ rs) = by_test (λ t. is_write r.request ≡ t → IsHeaded (if t then r ∷ rs else line_of rs)) (is_write r.request) (λ _ hit. hit) (λ _ miss. headed_line rs) refl

low_bit : (t : Bool) → cond {A = ℕ} t 1 0 ≤ 1
low_bit true = omega arith
low_bit false = omega arith

fewer_writes : (rs : List Taken) → writes_among (line_of rs) ≤ writes_among rs
unfolding line_of
fewer_writes [] = omega arith
fewer_writes (r ∷ rs) =
    by_test (λ t. writes_among (if t then r ∷ rs else line_of rs) ≤ writes_among (r ∷ rs)) (is_write r.request) (λ _. omega arith)
    (λ _. let rest = fewer_writes rs in let count = count-cons (λ x. is_write x.request) r rs in omega (arith, rest, count))

one_more : (rs : List Taken) (r : Taken) → writes_among (rs ++ r ∷ []) ≤ writes_among rs + 1
one_more rs r =
    let both = count-append (λ x. is_write x.request) rs (r ∷ []) in
    let one = count-cons (λ x. is_write x.request) r [] in
    let low = low_bit (is_write r.request) in
    omega (arith, both, one, low)

no_more : (rs : List Taken) (r : Taken) → is_write r.request ≡ false → writes_among (rs ++ r ∷ []) ≡ writes_among rs
no_more rs r isnt =
    let both = count-append (λ x. is_write x.request) rs (r ∷ []) in
    let one : writes_among (r ∷ []) ≡ 0 = count-cons (λ x. is_write x.request) r [] ∙ ap (λ (t : Bool). cond {A = ℕ} t 1 0 + 0) isnt in
    omega (arith, both, one)

one_less : (w : Taken) (behind : List Taken) → is_write w.request ≡ true → writes_among (w ∷ behind) ≡ 1 + writes_among behind
one_less w behind writes = count-cons (λ x. is_write x.request) w behind ∙ ap (λ (t : Bool). cond {A = ℕ} t 1 0 + writes_among behind) writes

-- ---- lines that submit nothing

abbrev IsOther : Line → Type 0
IsOther (line.Submit v s) = ⊥
IsOther (line.Ack s) = Unit {0}
IsOther (line.Read v b x) = Unit {0}
IsOther (line.Fault v b strikes) = Unit {0}
IsOther (line.Barrier v s) = Unit {0}
IsOther (line.Refused v cause) = Unit {0}
IsOther (line.Skip v k) = Unit {0}
IsOther (line.Stage e f s) = Unit {0}
IsOther (line.Open e) = Unit {0}
IsOther (line.Lost e) = Unit {0}

none_submitted : (lines : List Line) (u s : ℕ) → AllByRecursion IsOther lines → IsAmong (line.Submit u s) lines → ⊥
none_submitted lines u s others m = among_all IsOther lines (line.Submit u s) m others

module _ (c : Client) where
  other_lines : (told : Told) → Roomy told.client → AllByRecursion IsOther told.lines → TellsRoomy c told
  other_lines told client others = record { client = client; lines = λ u s m. absurd (none_submitted told.lines u s others m) }

left_others : (c : Serving) (rs : List Taken) → AllByRecursion IsOther (flat_map (λ r. answered_of c r) rs)
left_others c rs =
    all_flat IsOther (λ r. answered_of c r) rs
    (λ r. either_way (is_barrier r.request && nat_le c.last c.acked) (line.Barrier r.event c.last ∷ []) [] (AllByRecursion IsOther) (tt, tt) tt)

module _ (shape : Shape) where
  -- what leaves: the rest of the line begins with a write
  left_roomy : (c : Serving) (requests : List Taken) → c.last + writes_among requests ≤ c.acked + 16 → HasRoom (after_leaving shape c requests)
  left_roomy c requests room = let fewer = fewer_writes requests in record { room = omega (arith, room, fewer); headed = headed_line requests }

  leaves_roomy : (before : Client) (c : Serving) (requests : List Taken) → c.last + writes_among requests ≤ c.acked + 16 → TellsRoomy before (leaves shape c requests)
  unfolding leaves
  leaves_roomy before c requests room = other_lines before (leaves shape c requests) (left_roomy c requests room) (left_others c (left_of requests))

  module _ (c : Serving) (f : HasRoom c) where
    -- a client whose numbers and line are the same
    stays : (told : Told) → Roomy told.client → AllByRecursion IsOther told.lines → TellsRoomy (Serves c) told
    stays told client others = other_lines (Serves c) told client others

    -- ---- requests

    joined_roomy : (r : Taken) (rs : List Taken) → c.line ≡ rs → c.last + writes_among (rs ++ r ∷ []) ≤ c.acked + 16 → TellsRoomy (Serves c) (joined shape c r rs)
    joined_roomy r [] same room = leaves_roomy (Serves c) c (r ∷ []) room
    joined_roomy r (head ∷ rs) same room = stays _ (record { room = room; headed = subst IsHeaded same f.headed }) tt

    no_write : (r : Taken) → is_write r.request ≡ false → c.last + writes_among (c.line ++ r ∷ []) ≤ c.acked + 16
    no_write r isnt = let same = no_more c.line r isnt in let room = f.room in omega (arith, same, room)

    free_write : (batch : Batch) (r : Taken) → refusal_here shape c (request.Write batch) ≡ None → c.last + writes_among (c.line ++ r ∷ []) ≤ c.acked + 16
    free_write batch r free = by (range_refusal (blocks shape) (map (λ w. w.block) batch)) free where
      low : (t : Bool) → nat_le 16 (in_flight c + writes_among c.line) ≡ t → (if t then Some (refusal.Full 16) else None) ≡ None → c.last + writes_among (c.line ++ r ∷ []) ≤ c.acked + 16
      low true is none = absurd (none-some (refusal.Full 16) (sym none))
      low false is none =
          let small : in_flight c + writes_among c.line < 16 = leb-false 16 (in_flight c + writes_among c.line) is in
          let more = one_more c.line r in
          omega (arith, small, more)

      by : (o : Option RequestRefusal) → option_or o (full_refusal 16 (in_flight c + writes_among c.line)) ≡ None → c.last + writes_among (c.line ++ r ∷ []) ≤ c.acked + 16
      by None none = low (nat_le 16 (in_flight c + writes_among c.line)) refl none
      by (Some cause) none = absurd (none-some cause (sym none))

    accepted_roomy : (v : ℕ) (r : Request) → refusal_here shape c r ≡ None → TellsRoomy (Serves c) (accepted shape c v r)
    accepted_roomy v (request.Write batch) free = joined_roomy (record { event = v; request = request.Write batch }) c.line refl (free_write batch (record { event = v; request = request.Write batch }) free)
    accepted_roomy v (request.Read b) free = joined_roomy (record { event = v; request = request.Read b }) c.line refl (no_write (record { event = v; request = request.Read b }) refl)
    accepted_roomy v request.Barrier free = joined_roomy (record { event = v; request = request.Barrier }) c.line refl (no_write (record { event = v; request = request.Barrier }) refl)
    accepted_roomy v (request.Restart e) free = stays _ f tt
    accepted_roomy v (request.Reassign e g) free = stays _ tt tt

    decided_roomy : (v : ℕ) (r : Request) (o : Option RequestRefusal) → refusal_here shape c r ≡ o → TellsRoomy (Serves c) (decided shape c v r o)
    decided_roomy v r (Some cause) is = stays _ f (tt, tt)
    decided_roomy v r None is = accepted_roomy v r is

    requested_roomy : (v : ℕ) (r : Request) → TellsRoomy (Serves c) (requested_here shape c v r)
    unfolding requested_here
    requested_roomy v r = decided_roomy v r (refusal_here shape c r) refl

    -- ---- claims

    acks_roomy : (us : List Unacked) (d : Serving) → HasRoom d → HasRoom (acks shape d us).client × AllByRecursion IsOther (acks shape d us).lines
    unfolding acks
    acks_roomy [] d of = (of, tt)
    acks_roomy (u ∷ us) d of =
        let next : Serving = acked_one d us in
        let room = of.room in
        let rest = acks_roomy us next (record { room = omega (arith, room); headed = of.headed }) in
        either_way (all_claimed shape d.claims u.leader (d.acked + 1))
        (record { client = (acks shape next us).client; lines = acked_lines d ++ (acks shape next us).lines }) (record { client = d; lines = [] })
        (λ (a : Acked). HasRoom a.client × AllByRecursion IsOther a.lines) (
          rest.0,
          all_both IsOther (acked_lines d) (acks shape next us).lines
              (tt, all_map IsOther waiter_line (filter (λ w. is_reached (d.acked + 1) w) d.barriers) (all_each (λ w. IsOther (waiter_line w)) (filter (λ w. is_reached (d.acked + 1) w) d.barriers) (λ w. tt))) rest.1,
        )
        (of, tt)

    committed_roomy : (name : NodeName) (session front : ℕ) → TellsRoomy (Serves c) (committed_here shape c name session front)
    unfolding committed_here
    committed_roomy name session front =
        let claims : Serving = claimed c name front in
        let after = acks_roomy c.unacked claims (record { room = f.room; headed = f.headed }) in
        either_way (session == c.session) (acked_told (acks shape claims c.unacked)) (ignored (Serves c)) (TellsRoomy (Serves c))
        (stays _ after.0 after.1) (stays _ f tt)

    -- ---- answers

    same_line : (d : Serving) → d.last ≡ c.last → d.acked ≡ c.acked → d.line ≡ c.line → HasRoom d
    same_line d last acked line_is = let room = f.room in let count : writes_among d.line ≡ writes_among c.line = ap writes_among line_is in record { room = omega (arith, room, last, acked, count); headed = subst IsHeaded (sym line_is) f.headed }

    read_roomy : (name : NodeName) (a : Answer) (o : Open) (verdict : Verdict) → TellsRoomy (Serves c) (read_judged shape c name a o verdict)
    read_roomy name a o Stale = stays _ f tt
    read_roomy name a o Good = stays _ (same_line (record c { reads = closed_at o.question.number c.reads }) refl refl refl) (tt, tt)
    read_roomy name a o (Struck s) =
        either_way (all_struck (struck name.replica s o).strikes) (read_ended c o (line.Fault o.question.event o.question.block (struck name.replica s o).strikes))
        (ignored (Serves (record c { reads = struck_at a name.replica s c.reads }))) (TellsRoomy (Serves c))
        (stays _ (same_line (record c { reads = closed_at o.question.number c.reads }) refl refl refl) (tt, tt))
        (stays _ (same_line (record c { reads = struck_at a name.replica s c.reads }) refl refl refl) tt)

    read_answered_roomy : (name : NodeName) (a : Answer) (o : Option Open) → TellsRoomy (Serves c) (read_answered shape c name a o)
    read_answered_roomy name a None = stays _ f tt
    read_answered_roomy name a (Some o) = read_roomy name a o (worth shape c a)

    behind_roomy : (w : Taken) (behind : List Taken) → c.line ≡ w ∷ behind → c.last + 1 + writes_among behind ≤ c.acked + 16
    behind_roomy w behind same =
        let room = f.room in
        let count : writes_among c.line ≡ writes_among (w ∷ behind) = ap writes_among same in
        let less = one_less w behind (subst IsHeaded same f.headed) in
        omega (arith, room, count, less)

    faulted_roomy : (event block : ℕ) (strikes : List (Option Strike)) (rs : List Taken) → c.line ≡ rs → TellsRoomy (Serves c) (head_faulted shape c (line.Fault event block strikes) rs)
    faulted_roomy event block strikes [] same = stays _ f tt
    faulted_roomy event block strikes (w ∷ behind) same =
        let low = behind_roomy w behind same in
        let rest : TellsRoomy (Serves c) (leaves shape c behind) = leaves_roomy (Serves c) c behind (omega (arith, low)) in
        record { client = rest.client; lines = λ u s m. elim m [ inl e ↦ absurd (subst IsOther (sym e) tt) | inr more ↦ rest.lines u s more ] }

  -- the head becomes the next batch
  submits_roomy : (volume : Volume) (c : Serving) → HasRoom c → (rs : List Taken) → c.line ≡ rs → TellsRoomy (Serves c) (submits volume c rs)
  unfolding leaves
  submits_roomy volume c f [] same = other_lines (Serves c) (submits volume c []) f tt
  submits_roomy volume c f (w ∷ behind) same =
      let low = behind_roomy c f w behind same in
      let next : Serving = with_batch volume c (batch_asked w.request) in
      record {
        client = leaves_left volume c (batch_asked w.request) behind (omega (arith, low));
        lines = λ u s m. omega (arith, low);
      }
    where
      leaves_left : (volume : Volume) (c : Serving) (batch : Batch) (behind : List Taken) → c.last + 1 + writes_among behind ≤ c.acked + 16 → Roomy (leaves volume.geometry (with_batch volume c batch) behind).client
      leaves_left volume c batch behind low = let fewer = fewer_writes behind in record { room = omega (arith, low, fewer); headed = headed_line behind }

module _ (volume : Volume) where
  abbrev shape : Shape
  shape = volume.geometry

  module _ (c : Serving) (f : HasRoom c) where
    known_roomy : (a : Answer) (left : List Open) → TellsRoomy (Serves c) (head_known volume c a left)
    known_roomy a [] = submits_roomy shape volume c f c.line refl
    known_roomy a (o ∷ left) = other_lines (Serves c) _ (record { room = f.room; headed = f.headed }) tt

    head_judged_roomy : (name : NodeName) (a : Answer) (o : Open) (verdict : Verdict) → TellsRoomy (Serves c) (head_judged volume c name a o verdict)
    head_judged_roomy name a o Stale = other_lines (Serves c) _ f tt
    head_judged_roomy name a o Good = known_roomy a (closed_at o.question.number c.asked)
    head_judged_roomy name a o (Struck s) =
        either_way (all_struck (struck name.replica s o).strikes) (head_faulted shape c (line.Fault o.question.event o.question.block (struck name.replica s o).strikes) c.line)
        (ignored (Serves (record c { asked = struck_at a name.replica s c.asked }))) (TellsRoomy (Serves c))
        (faulted_roomy shape c f o.question.event o.question.block (struck name.replica s o).strikes c.line refl)
        (other_lines (Serves c) _ (record { room = f.room; headed = f.headed }) tt)

    head_answered_roomy : (name : NodeName) (a : Answer) (o : Option Open) → TellsRoomy (Serves c) (head_answered volume c name a o)
    head_answered_roomy name a None = other_lines (Serves c) _ f tt
    head_answered_roomy name a (Some o) = head_judged_roomy name a o (worth shape c a)

    answered_roomy : (name : NodeName) (a : Answer) → TellsRoomy (Serves c) (answered_here volume c name a)
    unfolding answered_here
    answered_roomy name a =
        either_way (not ((a.session == c.session) && is_fitting shape name a)) (ignored (Serves c))
        (if nat_lt a.read (2 ^ 32) then read_answered shape c name a (open_at a c.reads) else head_answered volume c name a (open_at a c.asked)) (TellsRoomy (Serves c))
        (other_lines (Serves c) _ f tt)
        (either_way (nat_lt a.read (2 ^ 32)) (read_answered shape c name a (open_at a c.reads)) (head_answered volume c name a (open_at a c.asked)) (TellsRoomy (Serves c))
        (read_answered_roomy shape c f name a (open_at a c.reads)) (head_answered_roomy name a (open_at a c.asked)))

    serving_roomy : (name : NodeName) (m : Message) → TellsRoomy (Serves c) (told_serving volume c name m)
    serving_roomy name (message.Committed m) = committed_roomy shape c f name m.session m.front
    serving_roomy name (message.Answer m) = answered_roomy name m
    serving_roomy name other = other_lines (Serves c) _ f tt

  -- ---- away

  staged_from_roomy : (c : Client) (e from seq : ℕ) (contents : List (List ℕ)) (carried : ℕ → List (List ℕ)) → TellsRoomy c (staged_from volume e from seq contents carried)
  staged_from_roomy c e from seq contents carried = other_lines c _ tt (tt, tt)

  chosen_roomy : (c : Client) (g : Gathering) (o : Option Header) → TellsRoomy c (chosen volume g o)
  chosen_roomy c g None = other_lines c _ tt (tt, tt)
  chosen_roomy c g (Some h) = other_lines c _ tt (tt, tt)

  gathered_roomy : (g : Gathering) (name : NodeName) (m : Message) → TellsRoomy (Gathers g) (told_gathering volume g name m)
  unfolding gathered_here
  gathered_roomy g name (message.Gathered m) =
      let next : Gathering = with_reply_of volume name m.held g in
      either_way (m.session == g.session) (gathered_all volume next) (ignored (Gathers g)) (TellsRoomy (Gathers g))
      (either_way (all_answered shape next.answered) (chosen volume next (choice_of shape next.pool)) (ignored (Gathers next)) (TellsRoomy (Gathers g))
      (chosen_roomy (Gathers g) next (choice_of shape next.pool)) (other_lines (Gathers g) _ tt tt))
      (other_lines (Gathers g) _ tt tt)
  gathered_roomy g name other = other_lines (Gathers g) _ tt tt

  fetched_roomy : (f : Fetching) (name : NodeName) (m : Message) → TellsRoomy (Fetches f) (told_fetching volume f name m)
  unfolding dumped_here
  fetched_roomy f name (message.Dumped m) =
      either_way (is_fetched shape f.served f.region (region_root shape f.contents f.region) name m) (staged_from volume f.session f.served f.last f.contents (fetched_blocks f.region m.blocks)) (ignored (Fetches f))
      (TellsRoomy (Fetches f)) (other_lines (Fetches f) _ tt (tt, tt)) (other_lines (Fetches f) _ tt tt)
  fetched_roomy f name other = other_lines (Fetches f) _ tt tt

  staged_roomy : (b : Beginning) (name : NodeName) (m : Message) → TellsRoomy (Stages b) (told_staging shape b name m)
  unfolding staged_here
  staged_roomy b name (message.Staged m) =
      let next : Beginning = record b { answered = with_name name b.answered } in
      either_way (m.session == b.session) (staged_by shape next) (ignored (Stages b)) (TellsRoomy (Stages b))
      (either_way (all_answered shape next.answered)
      (record { client = Switches (record next { answered = [] }); outs = to_all (all_nodes shape) (message.Switch (record { session = next.session })); lines = [] }) (ignored (Stages next)) (TellsRoomy (Stages b))
      (other_lines (Stages b) _ tt tt) (other_lines (Stages b) _ tt tt))
      (other_lines (Stages b) _ tt tt)
  staged_roomy b name other = other_lines (Stages b) _ tt tt

  switched_roomy : (b : Beginning) (name : NodeName) (m : Message) → TellsRoomy (Switches b) (told_switching shape b name m)
  unfolding switched_here
  switched_roomy b name (message.Switched m) =
      let next : Beginning = record b { answered = with_name name b.answered } in
      either_way (m.session == b.session) (switched_by shape next) (ignored (Switches b)) (TellsRoomy (Switches b))
      (either_way (all_answered shape next.answered)
      (record { client = Serves (new_serving shape next.session next.seq next.contents); outs = []; lines = line.Open next.session ∷ [] }) (ignored (Switches next)) (TellsRoomy (Switches b))
      (other_lines (Switches b) _ (record { room = omega arith; headed = tt }) (tt, tt)) (other_lines (Switches b) _ tt tt))
      (other_lines (Switches b) _ tt tt)
  switched_roomy b name other = other_lines (Switches b) _ tt tt

  away_roomy : (c : Client) (v : ℕ) (r : Request) → Roomy c → TellsRoomy c (requested_away shape c v r)
  unfolding restarted
  away_roomy c v (request.Restart e) roomy = other_lines c _ tt tt
  away_roomy c v (request.Write batch) roomy = other_lines c _ roomy (tt, tt)
  away_roomy c v (request.Read b) roomy = other_lines c _ roomy (tt, tt)
  away_roomy c v request.Barrier roomy = other_lines c _ roomy (tt, tt)
  away_roomy c v (request.Reassign e g) roomy = other_lines c _ roomy (tt, tt)

  asked_roomy : (c : Client) (v : ℕ) (r : Request) → Roomy c → TellsRoomy c (requested volume c v r)
  unfolding requested
  asked_roomy (Serves c) v r roomy = requested_roomy shape c roomy v r
  asked_roomy Closed v r roomy = away_roomy Closed v r roomy
  asked_roomy (Gathers g) v r roomy = away_roomy (Gathers g) v r roomy
  asked_roomy (Fetches f) v r roomy = away_roomy (Fetches f) v r roomy
  asked_roomy (Stages b) v r roomy = away_roomy (Stages b) v r roomy
  asked_roomy (Switches b) v r roomy = away_roomy (Switches b) v r roomy

  received_roomy : (c : Client) (name : NodeName) (m : Message) → Roomy c → TellsRoomy c (received volume c name m)
  unfolding received
  received_roomy (Serves c) name m roomy = serving_roomy c roomy name m
  received_roomy Closed name m roomy = other_lines Closed _ tt tt
  received_roomy (Gathers g) name m roomy = gathered_roomy g name m
  received_roomy (Fetches f) name m roomy = fetched_roomy f name m
  received_roomy (Stages b) name m roomy = staged_roomy b name m
  received_roomy (Switches b) name m roomy = switched_roomy b name m

  -- each step leaves room, and submits a batch only where there is room
  pub told_roomy : (c : Client) (v : ℕ) (x : News) → Roomy c → TellsRoomy c (told volume c v x)
  unfolding told
  told_roomy c v (Asks r) roomy = asked_roomy c v r roomy
  told_roomy c v (Says name m) roomy = received_roomy c name m roomy
  told_roomy c v Crashes roomy = other_lines c _ tt tt
  told_roomy c v Silence roomy = other_lines c _ roomy tt

pub new_roomy : (shape : Shape) → Roomy (new_client shape)
new_roomy shape = record { room = omega arith; headed = tt }
