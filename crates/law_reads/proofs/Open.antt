-- An open read stays open until its line, and only an answer of each replica can end it with a fault.
use Rattle.std.proofs.Common.{◌≡◌, ◌∙◌, inl, inr, ◌⊎◌, ℕ, zero, suc, ◌+◌, ◌-◌, ◌^◌, ◌<◌, ◌≤◌, ◌==◌, ◌&&◌, not, nat_lt, Bool, true, false, if◌then◌else◌, List, [], ◌∷◌, ◌++◌, length, Option, None, Some, refl, sym, ap, subst, arith, eqb-true}
use Rattle.std.specs.Prelude.{is_some}
use Rattle.std.specs.Option.{option_or}
use Rattle.std.proofs.lemmas.Bool.{true≢false, eq-eqb, ltb-false, not-false, not_from_false, not_from_true}
use Rattle.salus_types.specs.Volume.{Shape, regions}
use Rattle.salus_types.specs.declared.names.NodeName.{NodeName}
use Rattle.salus_types.specs.declared.strike.Strike.{Strike}
use Rattle.salus_message.specs.declared.replies.Answer.{Answer}
use Rattle.salus_message.specs.declared.wire.Message.{Message}
use Rattle.salus_message.specs.declared.wire.Message.TheVariants as message
use Rattle.schedule_text.specs.declared.schedule.Volume.{Volume}
use Rattle.printed_lines.specs.declared.line.Line.{Line}
use Rattle.printed_lines.specs.declared.line.Line.TheVariants as line
use Rattle.printed_lines.specs.declared.line.RequestRefusal.{RequestRefusal}
use Rattle.salus_model.specs.declared.trace.Request.{Request}
use Rattle.salus_model.specs.declared.trace.Request.TheVariants as request
use Rattle.merkle_region.specs.Tree.{IsAmong}
use Rattle.merkle_region.proofs.Membership.{among_left}
use Rattle.salus_model.specs.Hearing.{News, Asks, Says, Crashes, Silence}
use Rattle.salus_model.specs.Waiting.{Taken, range_refusal}
use Rattle.salus_model.specs.Answering.{Verdict, Stale, Good, Struck, all_struck}
use Rattle.salus_model.specs.Complete.{is_crash}
use Rattle.client_rules.specs.State.{Open, Unacked, Serving, Serves, Told, ignored}
use Rattle.client_rules.specs.Tables.{answers, open_at, closed_at, struck_from, struck, struck_at, worth, all_claimed}
use Rattle.client_rules.specs.Submitting.{batch_asked, with_batch}
use Rattle.client_rules.specs.Serving.{leaves, is_idle, busy_refusal, refusal_here, joined, decided, requested_here, read_ended, read_judged, read_answered, head_faulted, submits, head_known, head_judged, head_answered, answered_here, Acked, acked_one, acked_lines, acks, claimed, acked_told, committed_here}
use Rattle.client_rules.specs.Rules.{requested, told_serving, received, told}
use Rattle.list_lemmas.proofs.Each.{either_way}
use Rattle.list_lemmas.proofs.Members.{among_all, among_map-in, among_filter-in, find_among}
use Rattle.list_lemmas.proofs.Tests.{by_bool, way_with, and_left, and_right, and_false}
use Rattle.law_answers.proofs.Turns.{none_found}
use Rattle.law_answers.proofs.Asks.{both_true}
use Rattle.law_reads.specs.Reading.{UnstruckAt, HaveOwnNumbers, StaysOpen, GivesBlock, counts, IsFair, IsAskedOf}

-- ---- strikes

not_all : (i : ℕ) (strikes : List (Option Strike)) → UnstruckAt i strikes → all_struck strikes ≡ false
unfolding UnstruckAt
not_all i [] un = absurd un
not_all zero (s ∷ strikes) un = ap (λ (x : Option Strike). is_some x && all_struck strikes) un
not_all (suc i) (s ∷ strikes) un = ap (λ b. is_some s && b) (not_all i strikes un) ∙ and_false (is_some s)

still_unstruck : (i from by : ℕ) (s : Strike) (strikes : List (Option Strike)) → (by == from + i) ≡ false → UnstruckAt i strikes → UnstruckAt i (struck_from from by s strikes)
unfolding UnstruckAt struck_from
still_unstruck i from by s [] other un = absurd un
still_unstruck zero from by s (o ∷ strikes) other un =
    let at : (by == from) ≡ false = subst (λ (n : ℕ). (by == n) ≡ false) (omega arith) other in
    subst (λ (x : Option Strike). option_or x (if by == from then Some s else None) ≡ None) (sym un) (ap (λ b. if b then Some s else None) at)
still_unstruck (suc i) from by s (o ∷ strikes) other un = still_unstruck i (from + 1) by s strikes (subst (λ (n : ℕ). (by == n) ≡ false) (omega arith) other) un

still_zero : (i by : ℕ) (s : Strike) (strikes : List (Option Strike)) → (by == i) ≡ false → UnstruckAt i strikes → UnstruckAt i (struck_from zero by s strikes)
still_zero i by s strikes other un = still_unstruck i zero by s strikes (subst (λ (n : ℕ). (by == n) ≡ false) (same i) other) un where
  same : (i : ℕ) → i ≡ zero + i
  same i = omega arith

idle_of : (b : Bool) (x : RequestRefusal) → (if b then None else Some x) ≡ None → b ≡ true
idle_of true x is = refl
idle_of false x is = absurd (cc)

-- ---- what becomes of an open read

abbrev GoesOnOpen : ℕ → Open → ℕ → Told → Type 0
GoesOnOpen i o session told = StaysOpen i o session told.client ⊎ GivesBlock o told.lines

module _ (volume : Volume) (c : Serving) (i : ℕ) (o : Open) (there : IsAmong o c.reads) (un : UnstruckAt i o.strikes)
    (one : HaveOwnNumbers c.reads) where
  abbrev shape : Shape
  shape = volume.geometry

  abbrev On : Told → Type 0
  On t = GoesOnOpen i o c.session t

  -- it is where it was
  stays_in : (next : Serving) (lines : List Line) → next.session ≡ c.session → IsAmong o next.reads → StaysOpen i o c.session (Serves next) ⊎ GivesBlock o lines
  stays_in next lines session among = inl record { serving = next; is = refl; session = session; read = o; among = among; question = refl; unstruck = un }

  same_client : (lines : List Line) → StaysOpen i o c.session (Serves c) ⊎ GivesBlock o lines
  same_client lines = stays_in c lines refl there

  leaves_on : (next : Serving) (requests : List Taken) (lines : List Line) → next.session ≡ c.session → next.reads ≡ c.reads
      → StaysOpen i o c.session (leaves shape next requests).client ⊎ GivesBlock o (lines ++ (leaves shape next requests).lines)
  unfolding leaves
  leaves_on next requests lines session same =
      stays_in _ _ session (among_left o next.reads _ (subst (λ (l : List Open). IsAmong o l) (sym same) there))

  -- ---- a request

  joined_on : (r : Taken) (l : List Taken) → On (joined shape c r l)
  unfolding leaves
  joined_on r [] = stays_in _ _ refl (among_left o c.reads _ there)
  joined_on r (head ∷ l) = stays_in _ _ refl there

  some_open : (reads : List Open) → IsAmong o reads → (length reads ≡ zero) → ⊥
  some_open [] among none = among
  some_open (p ∷ reads) among none = omega (arith, none)

  busy : busy_refusal c ≡ None → ⊥
  busy none =
      let idle : is_idle c ≡ true = idle_of (is_idle c) _ none in
      let all : length c.reads + length c.barriers + length c.line ≡ zero =
      eqb-true (length c.reads + length c.barriers + length c.line) zero (and_right (c.last - c.acked == 0) (length c.reads + length c.barriers + length c.line == 0) idle) in
      some_open c.reads there (omega (arith, all))

  range_over : (x y : Option RequestRefusal) → option_or x y ≡ None → y ≡ None
  range_over None y is = is
  range_over (Some cause) y is = absurd (cc)

  decided_on : (v : ℕ) (r : Request) (x : Option RequestRefusal) → refusal_here shape c r ≡ x → On (decided shape c v r x)
  decided_on v r (Some cause) is = same_client _
  decided_on v (request.Write batch) None is = joined_on _ c.line
  decided_on v (request.Read b) None is = joined_on _ c.line
  decided_on v request.Barrier None is = joined_on _ c.line
  decided_on v (request.Restart e) None is = same_client _
  decided_on v (request.Reassign e g) None is = absurd (busy (range_over (range_refusal (regions shape) (g ∷ [])) (busy_refusal c) is))

  requested_on : (v : ℕ) (r : Request) → On (requested_here shape c v r)
  unfolding requested_here
  requested_on v r = decided_on v r (refusal_here shape c r) refl

  -- ---- a claim

  acks_reads : (d : Serving) (us : List Unacked) → ((acks shape d us).client.reads ≡ d.reads) × ((acks shape d us).client.session ≡ d.session)
  unfolding acks
  acks_reads d [] = (refl, refl)
  acks_reads d (u ∷ us) =
      let rest = acks_reads (acked_one d us) us in
      either_way (all_claimed shape d.claims u.leader (d.acked + 1))
      (record { client = (acks shape (acked_one d us) us).client; lines = acked_lines d ++ (acks shape (acked_one d us) us).lines }) (record { client = d; lines = [] })
      (λ (t : Acked). (t.client.reads ≡ d.reads) × (t.client.session ≡ d.session)) rest (refl, refl)

  committed_on : (name : NodeName) (session front : ℕ) → On (committed_here shape c name session front)
  unfolding committed_here
  committed_on name session front =
      let same = acks_reads (claimed c name front) c.unacked in
      either_way (session == c.session) (acked_told (acks shape (claimed c name front) c.unacked)) (ignored (Serves c)) On
      (stays_in _ _ same.1 (subst (λ (l : List Open). IsAmong o l) (sym same.0) there)) (same_client _)

  -- ---- an answer

  module _ (name : NodeName) (a : Answer) (fair : name.replica ≡ i → answers a o ≡ true → (s : Strike) → worth shape c a ≡ Struck s → ⊥) where
    -- the end of p
    ended_on : (p : Open) (l : Line) → IsAmong p c.reads → (p ≡ o → On (read_ended c p l)) → On (read_ended c p l)
    ended_on p l among ends =
        by_bool (o.question.number == p.question.number) (On (read_ended c p l))
        (λ same. ends (one o p there among (sym (eqb-true o.question.number p.question.number same))))
        (λ apart. stays_in _ _ refl (among_filter-in (λ (x : Open). not (x.question.number == p.question.number)) c.reads o there (not_from_false (o.question.number == p.question.number) apart)))

    struck_open : (s : Strike) → (answers a o ≡ true → (name.replica == i) ≡ false) → On (ignored (Serves (record c { reads = struck_at a name.replica s c.reads })))
    struck_open s other =
        let now : Open = if answers a o then struck name.replica s o else o in
        inl record {
          serving = record c { reads = struck_at a name.replica s c.reads };
          is = refl;
          session = refl;
          read = now;
          among = among_map-in (λ (x : Open). if answers a x then struck name.replica s x else x) c.reads o there;
          question = either_way (answers a o) (struck name.replica s o) o (λ (x : Open). x.question ≡ o.question) refl refl;
          unstruck = way_with (answers a o) (struck name.replica s o) o (λ (x : Open). UnstruckAt i x.strikes) (λ hit. still_zero i name.replica s o.strikes (other hit) un) (λ _. un);
        }

    judged_on : (p : Open) → IsAmong p c.reads → answers a p ≡ true → (v : Verdict) → worth shape c a ≡ v → On (read_judged shape c name a p v)
    judged_on p among hit Stale is = same_client _
    judged_on p among hit Good is =
        ended_on p (line.Read p.question.event p.question.block a.bytes) among
        (λ same. inr record { bytes = a.bytes; among = inl (ap (λ (x : Open). line.Read x.question.event x.question.block a.bytes) (sym same)) })
    judged_on p among hit (Struck s) is =
        let l : Line = line.Fault p.question.event p.question.block (struck name.replica s p).strikes in
        way_with (all_struck (struck name.replica s p).strikes) (read_ended c p l) (ignored (Serves (record c { reads = struck_at a name.replica s c.reads }))) On
        (λ all. ended_on p l among (λ same.
        by_bool (name.replica == i) (On (read_ended c p l))
        (λ own. absurd (fair (eqb-true name.replica i own) (subst (λ (x : Open). answers a x ≡ true) same hit) s is))
        (λ other. absurd (true≢false (sym all ∙ not_all i (struck name.replica s p).strikes (still_zero i name.replica s p.strikes other (subst (λ (x : Open). UnstruckAt i x.strikes) (sym same) un)))))))
        (λ _. struck_open s (λ mine.
        by_bool (name.replica == i) ((name.replica == i) ≡ false)
        (λ own. absurd (fair (eqb-true name.replica i own) mine s is))
        (λ other. other)))

    read_on : (x : Option Open) → open_at a c.reads ≡ x → On (read_answered shape c name a x)
    read_on None is = same_client _
    read_on (Some p) is = let at = find_among (λ (x : Open). answers a x) p c.reads is in judged_on p at.0 at.1 (worth shape c a) refl

    submits_on : (l : List Taken) → On (submits volume c l)
    submits_on [] = same_client _
    submits_on (w ∷ behind) = leaves_on (with_batch volume c (batch_asked w.request)) behind (line.Submit w.event (c.last + 1) ∷ []) refl refl

    faulted_on : (line : Line) (l : List Taken) → On (head_faulted shape c line l)
    faulted_on line [] = same_client _
    faulted_on line (w ∷ behind) = leaves_on c behind (line ∷ []) refl refl

    known_on : (l : List Open) → On (head_known volume c a l)
    known_on [] = submits_on c.line
    known_on (p ∷ left) = stays_in _ _ refl there

    head_on : (x : Option Open) (v : Verdict) → (p : Open) → On (head_judged volume c name a p v)
    head_on x Stale p = same_client _
    head_on x Good p = known_on (closed_at p.question.number c.asked)
    head_on x (Struck s) p =
        let l : Line = line.Fault p.question.event p.question.block (struck name.replica s p).strikes in
        either_way (all_struck (struck name.replica s p).strikes) (head_faulted shape c l c.line) (ignored (Serves (record c { asked = struck_at a name.replica s c.asked }))) On
        (faulted_on l c.line) (stays_in _ _ refl there)

    head_answered_on : (x : Option Open) → On (head_answered volume c name a x)
    head_answered_on None = same_client _
    head_answered_on (Some p) = head_on None (worth shape c a) p

  -- where it counts, as it is fair then
  answered_on : (name : NodeName) (a : Answer) → IsFair shape c i o (Says name (message.Answer a)) → On (answered_here volume c name a)
  unfolding answered_here
  answered_on name a fair =
      way_with (not (counts shape c name a)) (ignored (Serves c))
      (if nat_lt a.read (2 ^ 32) then read_answered shape c name a (open_at a c.reads) else head_answered volume c name a (open_at a c.asked)) On (λ _. same_client _)
      (λ good. let fair_then = λ (own : name.replica ≡ i) (hit : answers a o ≡ true) (s : Strike) (is : worth shape c a ≡ Struck s). fair own (not-false (counts shape c name a) good) hit s is in
      either_way (nat_lt a.read (2 ^ 32)) (read_answered shape c name a (open_at a c.reads)) (head_answered volume c name a (open_at a c.asked)) On
      (read_on name a fair_then (open_at a c.reads) refl) (head_answered_on name a fair_then (open_at a c.asked)))

  -- ---- any step but a crash

  message_on : (name : NodeName) (m : Message) → IsFair shape c i o (Says name m) → On (told_serving volume c name m)
  message_on name (message.Committed m) fair = committed_on name m.session m.front
  message_on name (message.Answer m) fair = answered_on name m fair
  message_on name (message.Part m) fair = same_client _
  message_on name (message.Prepared m) fair = same_client _
  message_on name (message.Ask m) fair = same_client _
  message_on name (message.Gather m) fair = same_client _
  message_on name (message.Gathered m) fair = same_client _
  message_on name (message.Stage m) fair = same_client _
  message_on name (message.Staged m) fair = same_client _
  message_on name (message.Switch m) fair = same_client _
  message_on name (message.Switched m) fair = same_client _
  message_on name (message.Dump m) fair = same_client _
  message_on name (message.Dumped m) fair = same_client _

  told_on : (v : ℕ) (x : News) → is_crash x ≡ false → IsFair shape c i o x → On (told volume (Serves c) v x)
  unfolding told requested received
  told_on v (Asks r) calm fair = requested_on v r
  told_on v (Says name m) calm fair = message_on name m fair
  told_on v Crashes calm fair = absurd (true≢false calm)
  told_on v Silence calm fair = same_client _

-- The law: it stays open, or a line gives its block.
pub stays_open : (volume : Volume) (c : Serving) (i : ℕ) (o : Open) (v : ℕ) (x : News) → HaveOwnNumbers c.reads → IsAmong o c.reads → UnstruckAt i o.strikes → is_crash x ≡ false
    → IsFair volume.geometry c i o x → StaysOpen i o c.session (told volume (Serves c) v x).client ⊎ GivesBlock o (told volume (Serves c) v x).lines
stays_open volume c i o v x one there un calm fair = told_on volume c i o there un one v x calm fair

-- ---- an answer to the read itself

abbrev IsAnsweredBy : Shape → Serving → Open → NodeName → Told → Type 0
IsAnsweredBy shape c o name t = IsAskedOf shape c o name t.outs ⊎ GivesBlock o t.lines

module _ (volume : Volume) (c : Serving) (o : Open) (name : NodeName) (a : Answer) (there : IsAmong o c.reads) (one : HaveOwnNumbers c.reads) (hit : answers a o ≡ true)
    (fair : (s : Strike) → worth volume.geometry c a ≡ Struck s → ⊥) where
  abbrev By : Told → Type 0
  By t = IsAnsweredBy volume.geometry c o name t

  judged_by : (v : Verdict) → worth volume.geometry c a ≡ v → By (read_judged volume.geometry c name a o v)
  judged_by Stale is = inl (inl refl)
  judged_by Good is = inr record { bytes = a.bytes; among = inl refl }
  judged_by (Struck s) is = absurd (fair s is)

  found_by : (x : Option Open) → open_at a c.reads ≡ x → By (read_answered volume.geometry c name a x)
  found_by None none = absurd (true≢false (sym hit ∙ among_all (λ (p : Open). answers a p ≡ false) c.reads o there (none_found (λ p. answers a p) c.reads none)))
  found_by (Some p) is =
      let at = find_among (λ (x : Open). answers a x) p c.reads is in
      let number : p.question.number ≡ o.question.number =
      sym (eqb-true a.read p.question.number (and_left (a.read == p.question.number) (a.block == p.question.block) at.1)) ∙ eqb-true a.read o.question.number (and_left (a.read == o.question.number) (a.block == o.question.block) hit) in
      subst (λ (x : Open). By (read_answered volume.geometry c name a (Some x))) (sym (one o p there at.0 number)) (judged_by (worth volume.geometry c a) refl)

  counted_by : counts volume.geometry c name a ≡ true → a.read < 2 ^ 32 → By (answered_here volume c name a)
  unfolding answered_here
  counted_by good small =
      way_with (not (counts volume.geometry c name a)) (ignored (Serves c))
      (if nat_lt a.read (2 ^ 32) then read_answered volume.geometry c name a (open_at a c.reads) else head_answered volume c name a (open_at a c.asked)) By
      (λ off. absurd (true≢false (sym off ∙ not_from_true (counts volume.geometry c name a) good)))
      (λ _. way_with (nat_lt a.read (2 ^ 32)) (read_answered volume.geometry c name a (open_at a c.reads)) (head_answered volume c name a (open_at a c.asked)) By
      (λ _. found_by (open_at a c.reads) refl)
      (λ large. let high : 2 ^ 32 ≤ a.read = ltb-false a.read (2 ^ 32) large in absurd (omega (arith, high, small))))

-- The law: such an answer gives its block, or it is asked again.
pub answered_by : (volume : Volume) (c : Serving) (o : Open) (v : ℕ) (name : NodeName) (a : Answer) → HaveOwnNumbers c.reads → IsAmong o c.reads → o.question.number < 2 ^ 32
    → counts volume.geometry c name a ≡ true → a.read ≡ o.question.number → a.block ≡ o.question.block → IsFair volume.geometry c name.replica o (Says name (message.Answer a))
    → IsAskedOf volume.geometry c o name (told volume (Serves c) v (Says name (message.Answer a))).outs ⊎ GivesBlock o (told volume (Serves c) v (Says name (message.Answer a))).lines
unfolding told received
answered_by volume c o v name a one there small good number block fair =
    let hit : answers a o ≡ true = both_true (a.read == o.question.number) (a.block == o.question.block) (eq-eqb a.read o.question.number number) (eq-eqb a.block o.question.block block) in
    counted_by volume c o name a there one hit (λ s is. fair refl good hit s is) good (subst (λ (n : ℕ). n < 2 ^ 32) (sym number) small)
