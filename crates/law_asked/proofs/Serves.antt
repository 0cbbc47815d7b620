-- A step of a client that serves: it goes on with its session, and regions' numbers don't fall; what it opens stood in the waiting
-- line or is new; and each ask that it sends is of an open read or of a question of the head, with the present number.
use Rattle.std.proofs.Common.{◌≡◌, ◌∙◌, ◌⊎◌, inl, inr, ⊎_elim, ℕ, ◌+◌, ◌^◌, ◌<◌, ◌≤◌, ◌==◌, ◌&&◌, not, nat_lt, nat_le, Bool, true, false, if◌then◌else◌, List, [], ◌∷◌, ◌++◌, map, Option, None, Some, refl, sym, ap, subst, arith, le_refl}
use Rattle.std.specs.Prelude.{option_map, flat_map, slice_index}
use Rattle.std.specs.List.{AllByRecursion}
use Rattle.std.specs.Option.{option_or}
use Rattle.std.proofs.lemmas.Bool.{leb-false}
use Rattle.std.proofs.lemmas.List.{get_or-map}
use Rattle.std.proofs.lemmas.List.FromFn.{length-range_with_len, get_or-range_with_len}
use Rattle.salus_types.specs.Volume.{Shape, regions}
use Rattle.salus_types.specs.declared.names.NodeName.{NodeName}
use Rattle.salus_types.specs.declared.strike.Strike.{Strike}
use Rattle.salus_types.specs.declared.records.Record.{Record}
use Rattle.salus_message.specs.declared.small.Ask.{Ask}
use Rattle.salus_message.specs.declared.replies.Answer.{Answer}
use Rattle.salus_message.specs.declared.wire.Message.{Message}
use Rattle.salus_message.specs.declared.wire.Message.TheVariants as message
use Rattle.schedule_text.specs.declared.schedule.Volume.{Volume}
use Rattle.printed_lines.specs.declared.line.Line.{Line}
use Rattle.printed_lines.specs.declared.line.Line.TheVariants as line
use Rattle.printed_lines.specs.declared.line.RequestRefusal.{RequestRefusal}
use Rattle.printed_lines.specs.declared.line.RequestRefusal.TheVariants as refusal
use Rattle.salus_model.specs.declared.trace.Request.{Request}
use Rattle.salus_model.specs.declared.trace.Request.TheVariants as request
use Rattle.merkle_region.specs.Tree.{IsAmong}
use Rattle.merkle_region.proofs.Membership.{among_left, among_right, among_either}
use Rattle.volume_model.specs.Contents.{Batch, all_regions, region_of}
use Rattle.volume_model.specs.Parts.{touches, touched_by}
use Rattle.volume_model.specs.Groups.{group_of}
use Rattle.salus_model.specs.Hearing.{News, Asks, Says, Crashes, Silence}
use Rattle.salus_model.specs.Waiting.{range_refusal, Taken, left_of, Question, questions}
use Rattle.salus_model.specs.Answering.{Verdict, Stale, Good, Struck, is_fitting, all_struck}
use Rattle.client_rules.specs.State.{Open, Unacked, Serving, Letter, Client, Closed, Serves, Gathers, Fetches, Stages, Switches, Told, ignored, to_all}
use Rattle.client_rules.specs.Tables.{fresh, answers, open_at, closed_at, struck, struck_at, number_at, worth, ask_of, asks, line_of, read_question, read_questions, head_questions, all_claimed}
use Rattle.client_rules.specs.Submitting.{batch_asked, next_part, next_parts, part_letters, with_batch}
use Rattle.client_rules.specs.Serving.{busy_refusal, after_leaving, leaves, refusal_here, joined, fetches, accepted, decided, requested_here, read_ended, read_judged, read_answered, head_faulted, submits, head_known, head_judged, head_answered, answered_here, Acked, acked_one, acked_lines, acks, claimed, acked_told, committed_here, ticked_here}
use Rattle.client_rules.specs.Rules.{requested, told_serving, received, told}
use Rattle.list_lemmas.proofs.Each.{either_way, OfSome, all_both, all_map, all_each, all_then, flat_of_all}
use Rattle.list_lemmas.proofs.Members.{all_among, among_map, among_map-in, among_filter, among_flat_map, found_among}
use Rattle.law_lines.proofs.Ordered.{left-line, questions-split}
use Rattle.law_reads.specs.Reading.{IsOpenIn}

-- ---- what a client's asks are

-- the question of an open read, or one of the head's that waits
abbrev pub IsAskedIn : Serving → Question → Type 0
IsAskedIn d q = ((o : Open) × IsAmong o d.reads × (o.question ≡ q)) ⊎ ((o : Open) × IsAmong o d.asked × (o.question ≡ q))

-- of the session served, and with the present number of the block's region
pub record IsAskBy (shape : Shape) (d : Serving) (a : Ask) : Type 0 where
  pub q : Question
  pub asked : IsAskedIn d q
  pub is : a ≡ record { session = d.session; read = q.number; block = q.block; at = number_at d (region_of shape q.block) }

-- a client that doesn't serve asks nothing
abbrev pub IsOwnAsk : Shape → Client → Ask → Type 0
IsOwnAsk shape (Serves d) a = IsAskBy shape d a
IsOwnAsk shape other a = ⊥

-- a part is of the session served
abbrev pub IsOwnPart : Client → Record → Type 0
IsOwnPart (Serves d) rec = rec.header.session ≡ d.session
IsOwnPart other rec = ⊥

abbrev pub IsSentBy : Shape → Client → Message → Type 0
IsSentBy shape c (message.Ask a) = IsOwnAsk shape c a
IsSentBy shape c (message.Part m) = IsOwnPart c m.rec
IsSentBy shape c other = Unit {0}

-- so of the batches that aren't acknowledged
abbrev pub OwnParts : ℕ → List Unacked → Type 0
OwnParts e us = AllByRecursion (λ (u : Unacked). AllByRecursion (λ (rec : Record). rec.header.session ≡ e) u.parts) us

abbrev pub AllSentBy : Shape → Client → List Letter → Type 0
AllSentBy shape c letters = AllByRecursion (λ l. IsSentBy shape c l.message) letters

pub all_to_by : (shape : Shape) (c : Client) (names : List NodeName) (m : Message) → IsSentBy shape c m → AllSentBy shape c (to_all names m)
all_to_by shape c names m is = all_map (λ (l : Letter). IsSentBy shape c l.message) (λ name. record { to = name; message = m }) names (all_each (λ name. IsSentBy shape c m) names (λ name. is))

asks_by : (shape : Shape) (c d : Serving) (q : Question) → c.session ≡ d.session → c.numbers ≡ d.numbers → IsAskedIn d q → AllSentBy shape (Serves d) (asks shape c q)
asks_by shape c d q session numbers asked =
    all_to_by shape (Serves d) (group_of shape (region_of shape q.block)) (ask_of shape c q)
    (record {
      q = q;
      asked = asked;
      is = ap (λ (e : ℕ). record { session = e; read = q.number; block = q.block; at = slice_index c.numbers (region_of shape q.block) }) session
          ∙ ap (λ (ns : List ℕ). record { session = d.session; read = q.number; block = q.block; at = slice_index ns (region_of shape q.block) }) numbers;
    })

parts_by : (shape : Shape) (c : Client) (parts : List Record) → AllByRecursion (λ rec. IsOwnPart c rec) parts → AllSentBy shape c (part_letters shape parts)
parts_by shape c parts own =
    flat_of_all (λ (l : Letter). IsSentBy shape c l.message) (λ rec. to_all (group_of shape rec.header.region) (message.Part (record { rec = rec }))) parts
    (all_then (λ rec. IsOwnPart c rec) (λ rec. AllSentBy shape c (to_all (group_of shape rec.header.region) (message.Part (record { rec = rec }))))
    (λ rec is. all_to_by shape c (group_of shape rec.header.region) (message.Part (record { rec = rec })) is) parts own)

-- ---- what a step makes of it

-- a request is asked
abbrev pub IsAsking : News → Type 0
IsAsking (Asks r) = Unit {0}
IsAsking other = ⊥

-- a reassignment to session e is asked
abbrev pub IsReassigning : ℕ → News → Type 0
IsReassigning e (Asks (request.Reassign k g)) = e ≡ k
IsReassigning e other = ⊥

module _ (volume : Volume) (c : Serving) (v : ℕ) (x : News) where
  abbrev shape : Shape
  shape = volume.geometry

  -- the request stood in the waiting line, or it is new, of event v
  abbrev pub IsLined : Taken → Type 0
  IsLined r = IsAmong r c.line ⊎ (IsAsking x × (r.event ≡ v))

  -- the read was open, or it is one of these
  abbrev pub IsOpened : Open → Type 0
  IsOpened o = IsOpenIn c o ⊎ ((r : Taken) × IsLined r × IsAmong o.question (read_question r.event r.request))

  pub record Goes (d : Serving) : Type 0 where
    pub session : d.session ≡ c.session
    pub line : (r : Taken) → IsAmong r d.line → IsLined r
    pub reads : (o : Open) → IsAmong o d.reads → IsOpened o
    pub numbers : (g : ℕ) → g < regions shape → number_at c g ≤ c.last → number_at c g ≤ number_at d g
    pub unacked : OwnParts c.session c.unacked → OwnParts d.session d.unacked

  abbrev pub GoesOn : Client → Type 0
  GoesOn (Serves d) = Goes d
  GoesOn Closed = Unit {0}
  GoesOn (Fetches f) = IsReassigning f.session x × (f.region < regions shape)
  GoesOn (Gathers g) = ⊥
  GoesOn (Stages b) = ⊥
  GoesOn (Switches b) = ⊥

  pub record On (t : Told) : Type 0 where
    pub goes : GoesOn t.client
    pub sends : OwnParts c.session c.unacked → AllSentBy shape t.client t.outs

  old : (o : Open) → IsAmong o c.reads → IsOpened o
  old o among = inl (record { read = o; among = among; question = refl })

  -- its line and numbers are as they were
  same_goes : (d : Serving) → d.session ≡ c.session → d.line ≡ c.line → d.numbers ≡ c.numbers → ((o : Open) → IsAmong o d.reads → IsOpened o)
      → (OwnParts c.session c.unacked → OwnParts d.session d.unacked) → Goes d
  same_goes d session lines numbers reads unacked = record {
    session = session;
    line = λ r among. inl (subst (λ (l : List Taken). IsAmong r l) lines among);
    reads = reads;
    numbers = λ g inside low. subst (λ (ns : List ℕ). number_at c g ≤ slice_index ns g) (sym numbers) (le_refl (number_at c g));
    unacked = unacked;
  }

  same_on : (d : Serving) (lines : List Line) → d.session ≡ c.session → d.line ≡ c.line → d.numbers ≡ c.numbers → ((o : Open) → IsAmong o d.reads → IsOpened o)
      → (OwnParts c.session c.unacked → OwnParts d.session d.unacked) → On (record { client = Serves d; outs = []; lines = lines })
  same_on d lines session line numbers reads unacked = record { goes = same_goes d session line numbers reads unacked; sends = λ own. tt }

  same_client : (lines : List Line) → On (record { client = Serves c; outs = []; lines = lines })
  same_client lines = same_on c lines refl refl refl old (λ own. own)

  again_on : (name : NodeName) (o : Open) → IsAskedIn c o.question → On (record { client = Serves c; outs = to_all (name ∷ []) (ask_of shape c o.question); lines = [] })
  again_on name o asked = record {
    goes = same_goes c refl refl refl old (λ own. own);
    sends = λ own. all_to_by shape (Serves c) (name ∷ []) (ask_of shape c o.question) (record { q = o.question; asked = asked; is = refl });
  }

  -- ---- what leaves

  left_in : (rs : List Taken) (r : Taken) → IsAmong r (left_of rs) → IsAmong r rs
  left_in rs r among = subst (λ (l : List Taken). IsAmong r l) (left-line rs) (among_left r (left_of rs) (line_of rs) among)

  line_in : (rs : List Taken) (r : Taken) → IsAmong r (line_of rs) → IsAmong r rs
  line_in rs r among = subst (λ (l : List Taken). IsAmong r l) (left-line rs) (among_right r (left_of rs) (line_of rs) among)

  -- of a client with the same session and open reads, whose numbers haven't fallen
  pub record IsNext (next : Serving) : Type 0 where
    pub session : next.session ≡ c.session
    pub reads : next.reads ≡ c.reads
    pub numbers : (g : ℕ) → g < regions shape → number_at c g ≤ c.last → number_at c g ≤ number_at next g
    pub unacked : OwnParts c.session c.unacked → OwnParts next.session next.unacked

  module _ (next : Serving) (is : IsNext next) (requests : List Taken) (lined : (r : Taken) → IsAmong r requests → IsLined r) where
    reads_after : (o : Open) → IsAmong o (next.reads ++ map (fresh shape) (read_questions (left_of requests))) → IsOpened o
    reads_after o among =
        ⊎_elim (λ (there : IsAmong o next.reads). old o (subst (λ (l : List Open). IsAmong o l) is.reads there))
        (λ (new : IsAmong o (map (fresh shape) (read_questions (left_of requests)))).
        let q = among_map (fresh shape) o (read_questions (left_of requests)) new in
        let r = among_flat_map (λ (r : Taken). read_question r.event r.request) q.0 (left_of requests) q.1 in
        inr (r.0, lined r.0 (left_in requests r.0 r.1), subst (λ (x : Question). IsAmong x (read_question r.0.event r.0.request)) (sym (ap (λ (x : Open). x.question) q.2)) r.2))
        (among_either o next.reads (map (fresh shape) (read_questions (left_of requests))) among)

    abbrev d : Serving
    d = after_leaving shape next requests

    asked_after : (q : Question) → IsAmong q (questions shape requests) → IsAskedIn d q
    asked_after q among =
        ⊎_elim (λ (read : IsAmong q (read_questions (left_of requests))).
        inl (fresh shape q, among_right (fresh shape q) next.reads (map (fresh shape) (read_questions (left_of requests))) (among_map-in (fresh shape) (read_questions (left_of requests)) q read), refl))
        (λ (head : IsAmong q (head_questions shape (line_of requests))). inr (fresh shape q, among_map-in (fresh shape) (head_questions shape (line_of requests)) q head, refl))
        (among_either q (read_questions (left_of requests)) (head_questions shape (line_of requests)) (subst (λ (l : List Question). IsAmong q l) (questions-split shape requests) among))

    leaves_on : On (leaves shape next requests)
    unfolding leaves
    leaves_on = record {
      goes = record {
        session = is.session;
        line = λ r among. lined r (line_in requests r among);
        reads = reads_after;
        numbers = is.numbers;
        unacked = is.unacked;
      };
      sends = λ own. flat_of_all (λ (l : Letter). IsSentBy shape (leaves shape next requests).client l.message) (λ q. asks shape next q) (questions shape requests)
          (all_among (λ (q : Question). AllSentBy shape (leaves shape next requests).client (asks shape next q)) (questions shape requests)
          (λ q among. asks_by shape next d q refl refl (asked_after q among)));
    }

  itself : IsNext c
  itself = record { session = refl; reads = refl; numbers = λ g inside low. le_refl (number_at c g); unacked = λ own. own }

  -- ---- a request joins

  module _ (new : IsAsking x) where
    new_lined : (r : Taken) → r.event ≡ v → IsLined r
    new_lined r is = inr (new, is)

    joined_on : (r : Taken) → r.event ≡ v → (l : List Taken) → c.line ≡ l → On (joined shape c r l)
    joined_on r is [] empty = leaves_on c itself (r ∷ []) (λ y among. ⊎_elim (λ (same : y ≡ r). new_lined y (ap (λ (t : Taken). t.event) same ∙ is)) (λ (none : ⊥). absurd none) among)
    joined_on r is (head ∷ l) behind = record {
      goes = record {
        session = refl;
        line = λ y among.
            ⊎_elim (λ (there : IsAmong y (head ∷ l)). inl (subst (λ (k : List Taken). IsAmong y k) (sym behind) there))
            (λ (last : IsAmong y (r ∷ [])). ⊎_elim (λ (same : y ≡ r). new_lined y (ap (λ (t : Taken). t.event) same ∙ is)) (λ (none : ⊥). absurd none) last)
            (among_either y (head ∷ l) (r ∷ []) among);
        reads = old;
        numbers = λ g inside low. le_refl (number_at c g);
        unacked = λ own. own;
      };
      sends = λ own. tt;
    }

  -- ---- a claim

  -- acknowledgements change neither
  record IsAckedFrom (before after : Serving) : Type 0 where
    session : after.session ≡ before.session
    line : after.line ≡ before.line
    reads : after.reads ≡ before.reads
    numbers : after.numbers ≡ before.numbers

  acks_from : (d : Serving) (us : List Unacked) → IsAckedFrom d (acks shape d us).client
  unfolding acks
  acks_from d [] = record { session = refl; line = refl; reads = refl; numbers = refl }
  acks_from d (u ∷ us) =
      let next : IsAckedFrom (acked_one d us) (acks shape (acked_one d us) us).client = acks_from (acked_one d us) us in
      either_way (all_claimed shape d.claims u.leader (d.acked + 1))
      (record { client = (acks shape (acked_one d us) us).client; lines = acked_lines d ++ (acks shape (acked_one d us) us).lines }) (record { client = d; lines = [] })
      (λ (t : Acked). IsAckedFrom d t.client) (record { session = next.session; line = next.line; reads = next.reads; numbers = next.numbers }) (record { session = refl; line = refl; reads = refl; numbers = refl })

  acks_own : (e : ℕ) (d : Serving) (us : List Unacked) → OwnParts e us → OwnParts e d.unacked → OwnParts e (acks shape d us).client.unacked
  unfolding acks
  acks_own e d [] left own = own
  acks_own e d (u ∷ us) left own =
      either_way (all_claimed shape d.claims u.leader (d.acked + 1))
      (record { client = (acks shape (acked_one d us) us).client; lines = acked_lines d ++ (acks shape (acked_one d us) us).lines }) (record { client = d; lines = [] })
      (λ (t : Acked). OwnParts e t.client.unacked) (acks_own e (acked_one d us) us left.1 left.1) own

  committed_on : (name : NodeName) (session front : ℕ) → On (committed_here shape c name session front)
  unfolding committed_here
  committed_on name session front =
      let a : IsAckedFrom (claimed c name front) (acks shape (claimed c name front) c.unacked).client = acks_from (claimed c name front) c.unacked in
      either_way (session == c.session) (acked_told (acks shape (claimed c name front) c.unacked)) (ignored (Serves c)) On
      (same_on (acks shape (claimed c name front) c.unacked).client _ a.session a.line a.numbers (λ o among. old o (subst (λ (l : List Open). IsAmong o l) a.reads among))
      (λ own. subst (λ (e : ℕ). OwnParts e (acks shape (claimed c name front) c.unacked).client.unacked) (sym a.session) (acks_own c.session (claimed c name front) c.unacked own own)))
      (same_client [])

  -- ---- an answer

  module _ (name : NodeName) (a : Answer) where
    ended_on : (p : Open) (l : Line) → On (read_ended c p l)
    ended_on p l =
        same_on (record c { reads = closed_at p.question.number c.reads }) (l ∷ []) refl refl refl
        (λ o among. old o (among_filter (λ (x : Open). not (x.question.number == p.question.number)) o c.reads among).0) (λ own. own)

    struck_old : (s : Strike) (o : Open) → IsAmong o (struck_at a name.replica s c.reads) → IsOpened o
    struck_old s o among =
        let p = among_map (λ (x : Open). if answers a x then struck name.replica s x else x) o c.reads among in
        inl (record {
          read = p.0;
          among = p.1;
          question = either_way (answers a p.0) (struck name.replica s p.0) p.0 (λ (x : Open). p.0.question ≡ x.question) refl refl ∙ ap (λ (x : Open). x.question) (sym p.2);
        })

    judged_on : (p : Open) → IsAmong p c.reads → (w : Verdict) → On (read_judged shape c name a p w)
    judged_on p among Stale = again_on name p (inl (p, among, refl))
    judged_on p among Good = ended_on p (line.Read p.question.event p.question.block a.bytes)
    judged_on p among (Struck s) =
        let l : Line = line.Fault p.question.event p.question.block (struck name.replica s p).strikes in
        either_way (all_struck (struck name.replica s p).strikes) (read_ended c p l) (ignored (Serves (record c { reads = struck_at a name.replica s c.reads }))) On (ended_on p l)
        (same_on (record c { reads = struck_at a name.replica s c.reads }) [] refl refl refl (struck_old s) (λ own. own))

    read_on : (x : Option Open) → OfSome (λ (o : Open). IsAmong o c.reads × (answers a o ≡ true)) x → On (read_answered shape c name a x)
    read_on None found = same_client []
    read_on (Some p) found = judged_on p found.0 (worth shape c a)

    -- the head leaves the waiting line
    behind_lined : (w : Taken) (behind : List Taken) → c.line ≡ w ∷ behind → (r : Taken) → IsAmong r behind → IsLined r
    behind_lined w behind is r among = inl (subst (λ (l : List Taken). IsAmong r l) (sym is) (inr among))

    faulted_on : (l : Line) (requests : List Taken) → c.line ≡ requests → On (head_faulted shape c l requests)
    faulted_on l [] is = same_client []
    faulted_on l (w ∷ behind) is = let rest = leaves_on c itself behind (behind_lined w behind is) in record { goes = rest.goes; sends = rest.sends }

    number_after : (batch : Batch) (g : ℕ) → g < regions shape → number_at (with_batch volume c batch) g ≡ (if touches shape batch g then c.last + 1 else number_at c g)
    number_after batch g inside =
        get_or-map (λ r. if touches shape batch r then c.last + 1 else number_at c r) (all_regions shape) g 0 0 (rw (length-range_with_len 0 (regions shape)) inside)
        ∙ ap (λ r. if touches shape batch r then c.last + 1 else number_at c r) (get_or-range_with_len 0 (regions shape) g 0 inside ∙ omega arith)

    next_own : (batch : Batch) (g : ℕ) → (next_part volume c batch g).header.session ≡ c.session
    unfolding next_part
    next_own batch g = refl

    nexts_own : (batch : Batch) → AllByRecursion (λ (rec : Record). rec.header.session ≡ c.session) (next_parts volume c batch)
    nexts_own batch =
        all_map (λ (rec : Record). rec.header.session ≡ c.session) (λ g. next_part volume c batch g) (touched_by shape batch)
        (all_each (λ g. (next_part volume c batch g).header.session ≡ c.session) (touched_by shape batch) (λ g. next_own batch g))

    -- the parts that are sent with what leaves then
    submitted_by : (batch : Batch) (behind : List Taken)
        → AllSentBy shape (leaves shape (with_batch volume c batch) behind).client (part_letters shape (next_parts volume c batch))
    unfolding leaves
    submitted_by batch behind = parts_by shape (Serves (after_leaving shape (with_batch volume c batch) behind)) (next_parts volume c batch) (nexts_own batch)

    batch_next : (batch : Batch) → IsNext (with_batch volume c batch)
    batch_next batch = record {
      session = refl;
      reads = refl;
      numbers = λ g inside low.
          subst (λ (n : ℕ). number_at c g ≤ n) (sym (number_after batch g inside))
          (either_way (touches shape batch g) (c.last + 1) (number_at c g) (λ (n : ℕ). number_at c g ≤ n) (omega (arith, low)) (le_refl (number_at c g)));
      unacked = λ own. all_both (λ (u : Unacked). AllByRecursion (λ (rec : Record). rec.header.session ≡ c.session) u.parts) c.unacked _ own (nexts_own batch, tt);
    }

    submits_on : (requests : List Taken) → c.line ≡ requests → On (submits volume c requests)
    submits_on [] is = same_client []
    submits_on (w ∷ behind) is =
        let batch : Batch = batch_asked w.request in
        let next : Serving = with_batch volume c batch in
        let rest = leaves_on next (batch_next batch) behind (behind_lined w behind is) in
        record {
          goes = rest.goes;
          sends = λ own. all_both (λ (l : Letter). IsSentBy shape (leaves shape next behind).client l.message) (part_letters shape (next_parts volume c batch)) (leaves shape next behind).outs
              (submitted_by batch behind) (rest.sends own);
        }

    known_on : (left : List Open) → On (head_known volume c a left)
    known_on [] = submits_on c.line refl
    known_on (p ∷ left) = same_on _ [] refl refl refl old (λ own. own)

    head_on : (p : Open) → IsAmong p c.asked → (w : Verdict) → On (head_judged volume c name a p w)
    head_on p among Stale = again_on name p (inr (p, among, refl))
    head_on p among Good = known_on (closed_at p.question.number c.asked)
    head_on p among (Struck s) =
        let l : Line = line.Fault p.question.event p.question.block (struck name.replica s p).strikes in
        either_way (all_struck (struck name.replica s p).strikes) (head_faulted shape c l c.line) (ignored (Serves (record c { asked = struck_at a name.replica s c.asked }))) On
        (faulted_on l c.line refl) (same_on (record c { asked = struck_at a name.replica s c.asked }) [] refl refl refl old (λ own. own))

    head_answered_on : (x : Option Open) → OfSome (λ (o : Open). IsAmong o c.asked × (answers a o ≡ true)) x → On (head_answered volume c name a x)
    head_answered_on None found = same_client []
    head_answered_on (Some p) found = head_on p found.0 (worth shape c a)

    answered_on : On (answered_here volume c name a)
    unfolding answered_here
    answered_on =
        either_way (not ((a.session == c.session) && is_fitting shape name a)) (ignored (Serves c))
        (if nat_lt a.read (2 ^ 32) then read_answered shape c name a (open_at a c.reads) else head_answered volume c name a (open_at a c.asked)) On (same_client [])
        (either_way (nat_lt a.read (2 ^ 32)) (read_answered shape c name a (open_at a c.reads)) (head_answered volume c name a (open_at a c.asked)) On
        (read_on (open_at a c.reads) (found_among (λ (o : Open). answers a o) c.reads)) (head_answered_on (open_at a c.asked) (found_among (λ (o : Open). answers a o) c.asked)))

  message_on : (name : NodeName) (m : Message) → On (told_serving volume c name m)
  message_on name (message.Committed m) = committed_on name m.session m.front
  message_on name (message.Answer m) = answered_on name m
  message_on name other = same_client []

  -- ---- a tick

  ticked_on : OwnParts c.session c.unacked → AllSentBy shape (Serves c) (ticked_here shape c)
  unfolding ticked_here
  ticked_on own =
      all_both (λ (l : Letter). IsSentBy shape (Serves c) l.message) _ (flat_map (λ (o : Open). asks shape c o.question) c.reads)
      (all_both (λ (l : Letter). IsSentBy shape (Serves c) l.message) (part_letters shape (flat_map (λ (u : Unacked). u.parts) c.unacked)) (flat_map (λ (o : Open). asks shape c o.question) c.asked)
      (parts_by shape (Serves c) (flat_map (λ (u : Unacked). u.parts) c.unacked) (flat_of_all (λ (rec : Record). rec.header.session ≡ c.session) (λ (u : Unacked). u.parts) c.unacked own))
      (flat_of_all (λ (l : Letter). IsSentBy shape (Serves c) l.message) (λ (o : Open). asks shape c o.question) c.asked
      (all_among (λ (o : Open). AllSentBy shape (Serves c) (asks shape c o.question)) c.asked (λ o among. asks_by shape c c o.question refl refl (inr (o, among, refl))))))
      (flat_of_all (λ (l : Letter). IsSentBy shape (Serves c) l.message) (λ (o : Open). asks shape c o.question) c.reads
      (all_among (λ (o : Open). AllSentBy shape (Serves c) (asks shape c o.question)) c.reads (λ o among. asks_by shape c c o.question refl refl (inl (o, among, refl)))))

-- ---- a request

first_none : (a b : Option RequestRefusal) → option_or a b ≡ None → a ≡ None
first_none None b is = refl
first_none (Some cause) b is = is

found_none : (t : Bool) (g : ℕ) → option_map (λ n. refusal.Range n) (if t then Some g else None) ≡ None → t ≡ false
found_none true g is = absurd (cc)
found_none false g is = refl

-- a number that isn't refused is in the range
in_range : (bound g : ℕ) → range_refusal bound (g ∷ []) ≡ None → g < bound
in_range bound g is = leb-false bound g (found_none (nat_le bound g) g is)

module _ (volume : Volume) (c : Serving) (v : ℕ) (r : Request) where
  accepted_on : refusal_here volume.geometry c r ≡ None → On volume c v (Asks r) (accepted volume.geometry c v r)
  accepted_on taken = by r refl where
    by : (s : Request) → r ≡ s → On volume c v (Asks r) (accepted volume.geometry c v s)
    by (request.Write batch) is = joined_on volume c v (Asks r) tt (record { event = v; request = request.Write batch }) refl c.line refl
    by (request.Read b) is = joined_on volume c v (Asks r) tt (record { event = v; request = request.Read b }) refl c.line refl
    by request.Barrier is = joined_on volume c v (Asks r) tt (record { event = v; request = request.Barrier }) refl c.line refl
    by (request.Restart e) is = same_client volume c v (Asks r) []
    by (request.Reassign e g) is = record {
      goes = (
        subst (λ (s : Request). IsReassigning e (Asks s)) (sym is) refl,
        in_range (regions volume.geometry) g (first_none (range_refusal (regions volume.geometry) (g ∷ [])) (busy_refusal c) (ap (refusal_here volume.geometry c) (sym is) ∙ taken)),
      );
      sends = λ own. all_to_by volume.geometry (fetches volume.geometry c e g).client (group_of volume.geometry g) (message.Dump (record { session = c.session; region = g })) tt;
    }

  requested_on : On volume c v (Asks r) (requested_here volume.geometry c v r)
  unfolding requested_here
  requested_on = decided_on (refusal_here volume.geometry c r) refl where
    decided_on : (o : Option RequestRefusal) → refusal_here volume.geometry c r ≡ o → On volume c v (Asks r) (decided volume.geometry c v r o)
    decided_on (Some cause) is = same_client volume c v (Asks r) (line.Refused v cause ∷ [])
    decided_on None is = accepted_on is

-- Any step but a tick.
pub told_on : (volume : Volume) (c : Serving) (v : ℕ) (x : News) → On volume c v x (told volume (Serves c) v x)
unfolding told requested received
told_on volume c v (Asks r) = requested_on volume c v r
told_on volume c v (Says name m) = message_on volume c v (Says name m) name m
told_on volume c v Crashes = record { goes = tt; sends = λ own. tt }
told_on volume c v Silence = same_client volume c v Silence []

-- A tick.
pub ticks_on : (volume : Volume) (c : Serving) → OwnParts c.session c.unacked → AllSentBy volume.geometry (Serves c) (ticked_here volume.geometry c)
ticks_on volume c own = ticked_on volume c 0 Silence own
