-- A serving client's last number rises only where the write at the head is submitted, and then its parts are sent.
use Rattle.std.proofs.Common.{◌≡◌, ◌⊎◌, inl, inr, ℕ, ◌+◌, ◌^◌, ◌==◌, ◌&&◌, not, nat_le, nat_lt, if◌then◌else◌, List, [], ◌∷◌, ◌++◌, Option, None, Some, refl}
use Rattle.std.specs.List.{AllByRecursion}
use Rattle.salus_types.specs.Volume.{Shape}
use Rattle.salus_types.specs.declared.names.NodeName.{NodeName}
use Rattle.salus_message.specs.declared.replies.Answer.{Answer}
use Rattle.salus_message.specs.declared.wire.Message.{Message}
use Rattle.salus_message.specs.declared.wire.Message.TheVariants as message
use Rattle.schedule_text.specs.declared.schedule.Volume.{Volume}
use Rattle.printed_lines.specs.declared.line.Line.{Line}
use Rattle.printed_lines.specs.declared.line.Line.TheVariants as line
use Rattle.printed_lines.specs.declared.line.RequestRefusal.{RequestRefusal}
use Rattle.merkle_region.specs.Tree.{IsAmong}
use Rattle.merkle_region.proofs.Membership.{among_left}
use Rattle.salus_model.specs.declared.trace.Request.{Request}
use Rattle.salus_model.specs.declared.trace.Request.TheVariants as request
use Rattle.salus_model.specs.Hearing.{News, Asks, Says, Crashes, Silence}
use Rattle.salus_model.specs.Waiting.{Taken}
use Rattle.salus_model.specs.Answering.{Verdict, Stale, Good, Struck, is_fitting, all_struck}
use Rattle.client_rules.specs.State.{Open, Unacked, Serving, Letter, Client, Closed, Serves, Gathers, Fetches, Stages, Switches, Told, ignored}
use Rattle.client_rules.specs.Tables.{closed_at, struck, struck_at, worth, all_claimed, open_at}
use Rattle.client_rules.specs.Submitting.{batch_asked, next_parts, part_letters, with_batch}
use Rattle.client_rules.specs.Serving.{Acked, refusal_here, leaves, joined, accepted, decided, requested_here, read_ended, read_judged, read_answered, submits, head_known, head_faulted, head_judged, head_answered, answered_here, acks, acked_one, acked_lines, claimed, acked_told, committed_here}
use Rattle.client_rules.specs.Rules.{requested, received, told, told_serving}
use Rattle.salus_model.specs.Waiting.{is_barrier, left_of}
use Rattle.client_rules.specs.Tables.{answered_of}
use Rattle.list_lemmas.proofs.Each.{either_way, all_flat}

-- if it serves, it is that session, and its last number is that
abbrev pub HasLast : ℕ → ℕ → Client → Type 0
HasLast e n (Serves d) = (d.session ≡ e) × (d.last ≡ n)
HasLast e n Closed = Unit {0}
HasLast e n (Gathers g) = Unit {0}
HasLast e n (Fetches f) = Unit {0}
HasLast e n (Stages b) = Unit {0}
HasLast e n (Switches b) = Unit {0}

-- a line that only answers
abbrev pub IsAnswer : Line → Type 0
IsAnswer (line.Barrier v s) = Unit {0}
IsAnswer other = ⊥

-- the write at the head becomes the next batch
pub record Adds (volume : Volume) (c : Serving) (t : Told) : Type 0 where
  pub w : Taken
  pub behind : List Taken
  pub head : c.line ≡ w ∷ behind
  pub after : List Line
  pub lines : t.lines ≡ line.Submit w.event (c.last + 1) ∷ after
  pub plain : AllByRecursion IsAnswer after
  pub last : HasLast c.session (c.last + 1) t.client
  pub outs : (l : Letter) → IsAmong l (part_letters volume.geometry (next_parts volume c (batch_asked w.request))) → IsAmong l t.outs

abbrev pub MayAdd : Volume → Serving → Told → Type 0
MayAdd volume c t = HasLast c.session c.last t.client ⊎ Adds volume c t

module _ (volume : Volume) (c : Serving) where
  abbrev shape : Shape
  shape = volume.geometry

  abbrev M : Told → Type 0
  M t = MayAdd volume c t

  leaves_plain : (d : Serving) (requests : List Taken) → AllByRecursion IsAnswer (leaves shape d requests).lines
  unfolding leaves
  leaves_plain d requests =
      all_flat IsAnswer (λ r. answered_of d r) (left_of requests)
      (λ r. either_way (is_barrier r.request && nat_le d.last d.acked) (line.Barrier r.event d.last ∷ []) [] (AllByRecursion IsAnswer) (tt, tt) tt)

  leaves_adds : (requests : List Taken) → M (leaves shape c requests)
  unfolding leaves
  leaves_adds requests = inl (refl, refl)

  joined_adds : (r : Taken) (rs : List Taken) → M (joined shape c r rs)
  joined_adds r [] = leaves_adds (r ∷ [])
  joined_adds r (head ∷ rs) = inl (refl, refl)

  accepted_adds : (v : ℕ) (r : Request) → M (accepted shape c v r)
  accepted_adds v (request.Write batch) = joined_adds (record { event = v; request = request.Write batch }) c.line
  accepted_adds v (request.Read b) = joined_adds (record { event = v; request = request.Read b }) c.line
  accepted_adds v request.Barrier = joined_adds (record { event = v; request = request.Barrier }) c.line
  accepted_adds v (request.Restart e) = inl (refl, refl)
  accepted_adds v (request.Reassign e g) = inl tt

  requested_adds : (v : ℕ) (r : Request) → M (requested_here shape c v r)
  unfolding requested_here
  requested_adds v r = by (refusal_here shape c r) where
    by : (o : Option RequestRefusal) → M (decided shape c v r o)
    by (Some cause) = inl (refl, refl)
    by None = accepted_adds v r

  acks_last : (us : List Unacked) (d : Serving) → ((acks shape d us).client.session ≡ d.session) × ((acks shape d us).client.last ≡ d.last)
  unfolding acks
  acks_last [] d = (refl, refl)
  acks_last (u ∷ us) d =
      let next : Serving = acked_one d us in
      either_way (all_claimed shape d.claims u.leader (d.acked + 1))
      (record { client = (acks shape next us).client; lines = acked_lines d ++ (acks shape next us).lines }) (record { client = d; lines = [] })
      (λ (a : Acked). (a.client.session ≡ d.session) × (a.client.last ≡ d.last)) (acks_last us next) (refl, refl)

  committed_adds : (from : NodeName) (session front : ℕ) → M (committed_here shape c from session front)
  unfolding committed_here
  committed_adds from session front =
      either_way (session == c.session) (acked_told (acks shape (claimed c from front) c.unacked)) (ignored (Serves c)) M (inl (acks_last c.unacked (claimed c from front))) (inl (refl, refl))

  read_adds : (from : NodeName) (a : Answer) (o : Open) (verdict : Verdict) → M (read_judged shape c from a o verdict)
  read_adds from a o Stale = inl (refl, refl)
  read_adds from a o Good = inl (refl, refl)
  read_adds from a o (Struck s) =
      either_way (all_struck (struck from.replica s o).strikes) (read_ended c o (line.Fault o.question.event o.question.block (struck from.replica s o).strikes))
      (ignored (Serves (record c { reads = struck_at a from.replica s c.reads }))) M (inl (refl, refl)) (inl (refl, refl))

  read_answered_adds : (from : NodeName) (a : Answer) (o : Option Open) → M (read_answered shape c from a o)
  read_answered_adds from a None = inl (refl, refl)
  read_answered_adds from a (Some o) = read_adds from a o (worth shape c a)

  faulted_adds : (l : Line) (rs : List Taken) → M (head_faulted shape c l rs)
  unfolding leaves
  faulted_adds l [] = inl (refl, refl)
  faulted_adds l (w ∷ behind) = inl (refl, refl)

  submits_adds : (rs : List Taken) → c.line ≡ rs → M (submits volume c rs)
  unfolding leaves
  submits_adds [] is = inl (refl, refl)
  submits_adds (w ∷ behind) is = inr (record {
    w = w;
    behind = behind;
    head = is;
    after = (leaves shape (with_batch volume c (batch_asked w.request)) behind).lines;
    lines = refl;
    plain = leaves_plain (with_batch volume c (batch_asked w.request)) behind;
    last = (refl, refl);
    outs = λ l among. among_left l (part_letters shape (next_parts volume c (batch_asked w.request))) (leaves shape (with_batch volume c (batch_asked w.request)) behind).outs among;
  })

  known_adds : (a : Answer) (left : List Open) → M (head_known volume c a left)
  known_adds a [] = submits_adds c.line refl
  known_adds a (o ∷ left) = inl (refl, refl)

  head_adds : (from : NodeName) (a : Answer) (o : Open) (verdict : Verdict) → M (head_judged volume c from a o verdict)
  head_adds from a o Stale = inl (refl, refl)
  head_adds from a o Good = known_adds a (closed_at o.question.number c.asked)
  head_adds from a o (Struck s) =
      either_way (all_struck (struck from.replica s o).strikes) (head_faulted shape c (line.Fault o.question.event o.question.block (struck from.replica s o).strikes) c.line)
      (ignored (Serves (record c { asked = struck_at a from.replica s c.asked }))) M
      (faulted_adds (line.Fault o.question.event o.question.block (struck from.replica s o).strikes) c.line) (inl (refl, refl))

  head_answered_adds : (from : NodeName) (a : Answer) (o : Option Open) → M (head_answered volume c from a o)
  head_answered_adds from a None = inl (refl, refl)
  head_answered_adds from a (Some o) = head_adds from a o (worth shape c a)

  answered_adds : (from : NodeName) (a : Answer) → M (answered_here volume c from a)
  unfolding answered_here
  answered_adds from a =
      either_way (not ((a.session == c.session) && is_fitting shape from a)) (ignored (Serves c))
      (if nat_lt a.read (2 ^ 32) then read_answered shape c from a (open_at a c.reads) else head_answered volume c from a (open_at a c.asked)) M
      (inl (refl, refl))
      (either_way (nat_lt a.read (2 ^ 32)) (read_answered shape c from a (open_at a c.reads)) (head_answered volume c from a (open_at a c.asked)) M
      (read_answered_adds from a (open_at a c.reads)) (head_answered_adds from a (open_at a c.asked)))

  serving_adds : (from : NodeName) (m : Message) → M (told_serving volume c from m)
  serving_adds from (message.Committed m) = committed_adds from m.session m.front
  serving_adds from (message.Answer m) = answered_adds from m
  serving_adds from other = inl (refl, refl)

  -- So a step does.
  pub told_adds : (v : ℕ) (x : News) → M (told volume (Serves c) v x)
  unfolding told requested received
  told_adds v (Asks r) = requested_adds v r
  told_adds v (Says from m) = serving_adds from m
  told_adds v Crashes = inl tt
  told_adds v Silence = inl (refl, refl)
