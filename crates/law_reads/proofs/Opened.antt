-- A read that a step opens goes to each replica of its group in that step.
use Rattle.std.proofs.Common.{◌≡◌, ◌∙◌, inl, inr, ⊎_elim, ℕ, ◌+◌, ◌^◌, ◌==◌, not, nat_lt, if◌then◌else◌, List, [], ◌∷◌, ◌++◌, map, Option, None, Some, refl, sym, ap, subst}
use Rattle.std.specs.Prelude.{flat_map}
use Rattle.std.specs.List.{AllByRecursion}
use Rattle.salus_types.specs.Volume.{Shape}
use Rattle.salus_types.specs.declared.names.NodeName.{NodeName}
use Rattle.salus_types.specs.declared.strike.Strike.{Strike}
use Rattle.salus_message.specs.declared.replies.Answer.{Answer}
use Rattle.salus_message.specs.declared.wire.Message.{Message}
use Rattle.salus_message.specs.declared.wire.Message.TheVariants as message
use Rattle.schedule_text.specs.declared.schedule.Volume.{Volume}
use Rattle.printed_lines.specs.declared.line.Line.{Line}
use Rattle.printed_lines.specs.declared.line.Line.TheVariants as line
use Rattle.printed_lines.specs.declared.line.RequestRefusal.{RequestRefusal}
use Rattle.salus_model.specs.declared.trace.Request.{Request}
use Rattle.salus_model.specs.declared.trace.Request.TheVariants as request
use Rattle.merkle_region.specs.Tree.{IsAmong}
use Rattle.merkle_region.proofs.Membership.{among_left, among_right, among_either}
use Rattle.volume_model.specs.Contents.{region_of}
use Rattle.volume_model.specs.Groups.{group_of}
use Rattle.salus_model.specs.Hearing.{News, Asks, Says, Crashes, Silence}
use Rattle.salus_model.specs.Waiting.{Taken, is_write, left_of, Question, questions_of, questions}
use Rattle.salus_model.specs.Answering.{Verdict, Stale, Good, Struck, all_struck}
use Rattle.client_rules.specs.State.{Open, Unacked, Serving, Letter, Serves, Told, ignored}
use Rattle.client_rules.specs.Tables.{fresh, answers, open_at, closed_at, struck, struck_at, worth, ask_of, asks, read_question, read_questions, all_claimed}
use Rattle.client_rules.specs.Submitting.{batch_asked, with_batch}
use Rattle.client_rules.specs.Serving.{leaves, refusal_here, joined, decided, requested_here, read_ended, read_judged, read_answered, head_faulted, submits, head_known, head_judged, head_answered, answered_here, Acked, acked_one, acked_lines, acks, claimed, acked_told, committed_here}
use Rattle.client_rules.specs.Rules.{requested, told_serving, received, told}
use Rattle.list_lemmas.proofs.Each.{either_way}
use Rattle.list_lemmas.proofs.Members.{all_among, among_map, among_map-in, among_filter, among_flat_map-in}
use Rattle.list_lemmas.proofs.Tests.{by_test}
use Rattle.law_reads.specs.Reading.{counts, IsAskedOf, IsOpenIn, OpensAsked}

-- ---- the questions of the reads that leave

one_asked : (shape : Shape) (v : ℕ) (r : Request) (q : Question) → IsAmong q (read_question v r) → IsAmong q (questions_of shape v r)
one_asked shape v (request.Read b) q among = among
one_asked shape v (request.Write batch) q among = absurd among
one_asked shape v request.Barrier q among = absurd among
one_asked shape v (request.Restart e) q among = absurd among
one_asked shape v (request.Reassign e g) q among = absurd among

left_asked : (shape : Shape) (requests : List Taken) (q : Question) → IsAmong q (read_questions (left_of requests)) → IsAmong q (questions shape requests)
unfolding left_of questions
left_asked shape [] q among = absurd among
left_asked shape (r ∷ requests) q among =
    by_test (λ t. IsAmong q (read_questions (if t then [] else r ∷ left_of requests)) → IsAmong q (if t then questions_of shape r.event r.request else questions_of shape r.event r.request ++ questions shape requests)) (is_write r.request)
    (λ _ none. absurd none)
    (λ _ some. ⊎_elim (λ (here : IsAmong q (read_question r.event r.request)). among_left q (questions_of shape r.event r.request) (questions shape requests) (one_asked shape r.event r.request q here))
    (λ (behind : IsAmong q (read_questions (left_of requests))). among_right q (questions_of shape r.event r.request) (questions shape requests) (left_asked shape requests q behind))
    (among_either q (read_question r.event r.request) (read_questions (left_of requests)) some)) among

module _ (volume : Volume) (c : Serving) where
  abbrev shape : Shape
  shape = volume.geometry

  abbrev On : Told → Type 0
  On t = OpensAsked shape c t.outs t.client

  -- no read is opened
  none_opened : (next : Serving) (outs : List Letter) → ((o : Open) → IsAmong o next.reads → IsOpenIn c o) → OpensAsked shape c outs (Serves next)
  none_opened next outs old = λ o among. inl (old o among)

  old : (o : Open) → IsAmong o c.reads → IsOpenIn c o
  old o among = record { read = o; among = among; question = refl }

  same_client : (outs : List Letter) → OpensAsked shape c outs (Serves c)
  same_client outs = none_opened c outs old

  -- what leaves is asked
  leaving_asked : (next : Serving) (requests : List Taken) (outs : List Letter) (q : Question) → IsAmong q (read_questions (left_of requests))
      → (name : NodeName) → IsAmong name (group_of shape (region_of shape q.block)) → IsAskedOf shape next (fresh shape q) name (outs ++ flat_map (λ q. asks shape next q) (questions shape requests))
  leaving_asked next requests outs q among name inside =
      let letter : Letter = record { to = name; message = ask_of shape next q } in
      among_right letter outs _ (among_flat_map-in (λ (x : Question). asks shape next x) q letter (questions shape requests) (left_asked shape requests q among)
      (among_map-in (λ (n : NodeName). record { to = n; message = ask_of shape next q }) (group_of shape (region_of shape q.block)) name inside))

  leaves_on : (next : Serving) (requests : List Taken) (outs : List Letter) → next.reads ≡ c.reads
      → OpensAsked shape c (outs ++ (leaves shape next requests).outs) (leaves shape next requests).client
  unfolding leaves
  leaves_on next requests outs same o among =
      ⊎_elim (λ (there : IsAmong o next.reads). inl (old o (subst (λ (l : List Open). IsAmong o l) same there)))
      (λ (new : IsAmong o (map (fresh shape) (read_questions (left_of requests)))).
      let q = among_map (fresh shape) o (read_questions (left_of requests)) new in
      inr record {
        strikes = ap (λ (x : Open). x.strikes) q.2;
        asked = subst (λ (x : Open). AllByRecursion (λ name. IsAskedOf shape next x name (outs ++ flat_map (λ q. asks shape next q) (questions shape requests))) (group_of shape (region_of shape x.question.block))) (sym q.2)
            (all_among (λ name. IsAskedOf shape next (fresh shape q.0) name (outs ++ flat_map (λ q. asks shape next q) (questions shape requests))) (group_of shape (region_of shape q.0.block)) (leaving_asked next requests outs q.0 q.1));
      }) (among_either o next.reads (map (fresh shape) (read_questions (left_of requests))) among)

  -- ---- a request

  joined_on : (r : Taken) (l : List Taken) → On (joined shape c r l)
  joined_on r [] = leaves_on c (r ∷ []) [] refl
  joined_on r (head ∷ l) = none_opened _ _ old

  decided_on : (v : ℕ) (r : Request) (x : Option RequestRefusal) → On (decided shape c v r x)
  decided_on v r (Some cause) = same_client _
  decided_on v (request.Write batch) None = joined_on _ c.line
  decided_on v (request.Read b) None = joined_on _ c.line
  decided_on v request.Barrier None = joined_on _ c.line
  decided_on v (request.Restart e) None = same_client _
  decided_on v (request.Reassign e g) None = tt

  requested_on : (v : ℕ) (r : Request) → On (requested_here shape c v r)
  unfolding requested_here
  requested_on v r = decided_on v r (refusal_here shape c r)

  -- ---- a claim

  acks_reads : (d : Serving) (us : List Unacked) → (acks shape d us).client.reads ≡ d.reads
  unfolding acks
  acks_reads d [] = refl
  acks_reads d (u ∷ us) =
      either_way (all_claimed shape d.claims u.leader (d.acked + 1))
      (record { client = (acks shape (acked_one d us) us).client; lines = acked_lines d ++ (acks shape (acked_one d us) us).lines }) (record { client = d; lines = [] })
      (λ (t : Acked). t.client.reads ≡ d.reads) (acks_reads (acked_one d us) us) refl

  committed_on : (name : NodeName) (session front : ℕ) → On (committed_here shape c name session front)
  unfolding committed_here
  committed_on name session front =
      either_way (session == c.session) (acked_told (acks shape (claimed c name front) c.unacked)) (ignored (Serves c)) On
      (none_opened _ _ (λ o among. old o (subst (λ (l : List Open). IsAmong o l) (acks_reads (claimed c name front) c.unacked) among))) (same_client _)

  -- ---- an answer

  module _ (name : NodeName) (a : Answer) where
    ended_on : (p : Open) (l : Line) → On (read_ended c p l)
    ended_on p l = none_opened _ _ (λ o among. old o (among_filter (λ (x : Open). not (x.question.number == p.question.number)) o c.reads among).0)

    struck_old : (s : Strike) (o : Open) → IsAmong o (struck_at a name.replica s c.reads) → IsOpenIn c o
    struck_old s o among =
        let p = among_map (λ (x : Open). if answers a x then struck name.replica s x else x) o c.reads among in
        record {
          read = p.0;
          among = p.1;
          question = either_way (answers a p.0) (struck name.replica s p.0) p.0 (λ (x : Open). p.0.question ≡ x.question) refl refl ∙ ap (λ (x : Open). x.question) (sym p.2);
        }

    judged_on : (p : Open) (v : Verdict) → On (read_judged shape c name a p v)
    judged_on p Stale = same_client _
    judged_on p Good = ended_on p (line.Read p.question.event p.question.block a.bytes)
    judged_on p (Struck s) =
        let l : Line = line.Fault p.question.event p.question.block (struck name.replica s p).strikes in
        either_way (all_struck (struck name.replica s p).strikes) (read_ended c p l) (ignored (Serves (record c { reads = struck_at a name.replica s c.reads }))) On (ended_on p l) (none_opened _ _ (struck_old s))

    read_on : (x : Option Open) → On (read_answered shape c name a x)
    read_on None = same_client _
    read_on (Some p) = judged_on p (worth shape c a)

    submits_on : (l : List Taken) → On (submits volume c l)
    submits_on [] = same_client _
    submits_on (w ∷ behind) = leaves_on (with_batch volume c (batch_asked w.request)) behind _ refl

    faulted_on : (l : Line) (requests : List Taken) → On (head_faulted shape c l requests)
    faulted_on l [] = same_client _
    faulted_on l (w ∷ behind) = leaves_on c behind [] refl

    known_on : (l : List Open) → On (head_known volume c a l)
    known_on [] = submits_on c.line
    known_on (p ∷ left) = none_opened _ _ old

    head_on : (p : Open) (v : Verdict) → On (head_judged volume c name a p v)
    head_on p Stale = same_client _
    head_on p Good = known_on (closed_at p.question.number c.asked)
    head_on p (Struck s) =
        let l : Line = line.Fault p.question.event p.question.block (struck name.replica s p).strikes in
        either_way (all_struck (struck name.replica s p).strikes) (head_faulted shape c l c.line) (ignored (Serves (record c { asked = struck_at a name.replica s c.asked }))) On
        (faulted_on l c.line) (none_opened _ _ old)

    head_answered_on : (x : Option Open) → On (head_answered volume c name a x)
    head_answered_on None = same_client _
    head_answered_on (Some p) = head_on p (worth volume.geometry c a)

    answered_on : On (answered_here volume c name a)
    unfolding answered_here
    answered_on =
        either_way (not (counts shape c name a)) (ignored (Serves c))
        (if nat_lt a.read (2 ^ 32) then read_answered shape c name a (open_at a c.reads) else head_answered volume c name a (open_at a c.asked)) On (same_client _)
        (either_way (nat_lt a.read (2 ^ 32)) (read_answered shape c name a (open_at a c.reads)) (head_answered volume c name a (open_at a c.asked)) On
        (read_on (open_at a c.reads)) (head_answered_on (open_at a c.asked)))

  message_on : (name : NodeName) (m : Message) → On (told_serving volume c name m)
  message_on name (message.Committed m) = committed_on name m.session m.front
  message_on name (message.Answer m) = answered_on name m
  message_on name (message.Part m) = same_client _
  message_on name (message.Prepared m) = same_client _
  message_on name (message.Ask m) = same_client _
  message_on name (message.Gather m) = same_client _
  message_on name (message.Gathered m) = same_client _
  message_on name (message.Stage m) = same_client _
  message_on name (message.Staged m) = same_client _
  message_on name (message.Switch m) = same_client _
  message_on name (message.Switched m) = same_client _
  message_on name (message.Dump m) = same_client _
  message_on name (message.Dumped m) = same_client _

  told_on : (v : ℕ) (x : News) → On (told volume (Serves c) v x)
  unfolding told requested received
  told_on v (Asks r) = requested_on v r
  told_on v (Says name m) = message_on name m
  told_on v Crashes = tt
  told_on v Silence = same_client _

-- The law: what a step opens it asks.
pub opens_asked : (volume : Volume) (c : Serving) (v : ℕ) (x : News) → OpensAsked volume.geometry c (told volume (Serves c) v x).outs (told volume (Serves c) v x).client
opens_asked volume c v x = told_on volume c v x
