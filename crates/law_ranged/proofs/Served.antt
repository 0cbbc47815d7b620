-- A serving client keeps to its bounds, and so do the letters that it sends.
use Rattle.std.proofs.Common.{◌≡◌, ◌∙◌, ℕ, zero, suc, ◌+◌, ◌*◌, ◌^◌, ◌<◌, ◌≤◌, Bool, true, false, cond, ◌==◌, ◌&&◌, not, nat_lt, nat_le, if◌then◌else◌, List, [], ◌∷◌, ◌++◌, map, length, Option, None, Some, inl, inr, refl, sym, ap, subst, arith}
use Rattle.std.specs.Prelude.{filter, find, flat_map, count_by}
use Rattle.std.specs.List.{AllByRecursion, range_with_len, list_any}
use Rattle.std.specs.Option.{option_or, option_map}
use Rattle.std.proofs.lemmas.Bool.{leb-false}
use Rattle.std.proofs.lemmas.List.FromFn.{length-range_with_len}
use Rattle.salus_types.specs.Volume.{Shape, regions, blocks, IsVolume}
use Rattle.salus_types.specs.declared.names.NodeName.{NodeName}
use Rattle.salus_types.specs.declared.records.Record.{Record}
use Rattle.salus_types.specs.declared.strike.Strike.{Strike}
use Rattle.salus_message.specs.declared.replies.Answer.{Answer}
use Rattle.salus_message.specs.declared.wire.Message.{Message}
use Rattle.salus_message.specs.declared.wire.Message.TheVariants as message
use Rattle.merkle_region.specs.Tree.{IsAmong}
use Rattle.schedule_text.specs.Limits.{IsOfVolume}
use Rattle.schedule_text.specs.declared.schedule.Volume.{Volume}
use Rattle.printed_lines.specs.declared.line.Line.{Line}
use Rattle.printed_lines.specs.declared.line.Line.TheVariants as line
use Rattle.printed_lines.specs.declared.line.RequestRefusal.{RequestRefusal}
use Rattle.printed_lines.specs.declared.line.RequestRefusal.TheVariants as refusal
use Rattle.salus_model.specs.declared.trace.Request.{Request}
use Rattle.salus_model.specs.declared.trace.Request.TheVariants as request
use Rattle.volume_model.specs.Contents.{Batch, region_of, all_regions}
use Rattle.volume_model.specs.Groups.{group_of}
use Rattle.volume_model.specs.Parts.{touches, touched_by, blocks_of, leader_of}
use Rattle.salus_model.specs.Waiting.{Taken, Question, is_write, left_of, writes_among, questions_from, questions_of, questions, range_refusal}
use Rattle.salus_model.specs.Answering.{Verdict, Stale, Good, Struck, all_struck, is_fitting}
use Rattle.client_rules.specs.State as state
use Rattle.client_rules.specs.State.{Open, Unacked, Letter, Told, ignored, only_lines, to_all}
use Rattle.client_rules.specs.Tables.{fresh, open_at, closed_at, answers, struck, struck_at, worth, ask_of, asks, line_of, read_question, read_questions, head_questions, all_claimed}
use Rattle.client_rules.specs.Submitting.{batch_asked, next_part, next_parts, part_letters, with_batch}
use Rattle.client_rules.specs.Serving.{after_leaving, leaves, refusal_here, joined, fetches, accepted, decided, requested_here, asked_again, read_ended, read_judged, read_answered, head_faulted, submits, head_known, head_judged, head_answered, answered_here, Acked, acked_one, acked_lines, acks, claimed, acked_told, committed_here, ticked_here}
use Rattle.client_rules.specs.Rules.{told_serving}
use Rattle.list_lemmas.proofs.Each.{either_way, all_both, all_filter, all_map, all_then, OfSome, found_of_all, flat_of_all, each_below}
use Rattle.list_lemmas.proofs.Members.{all_among, among_all, among_filter}
use Rattle.list_lemmas.proofs.Tests.{by_test}
use Rattle.law_lemmas.proofs.Regional.{in_region}
use Rattle.law_lines.proofs.Counting.{count-cons, count-append}
use Rattle.law_ranged.specs.Ranging.{IsSentWithin}
use Rattle.law_ranged.proofs.Sized.{at_index, few_pass, BatchSized, apply_sized, few_regions, few_blocks, each_region, group_within}
use Rattle.law_ranged.proofs.Recorded.{part_spelled, after_low}
use Rattle.law_ranged.proofs.Bounded.{RequestFits, JoinedFits, TakenFits, QuestionFits, OpenFits, PartWithin, UnackedFits, HeadWrites, ServingFits, ToldFits, serving_wider, to_all_within}

-- ---- the waiting line

head_writes : (shape : Shape) (rs : List Taken) → HeadWrites shape (line_of rs)
unfolding line_of
head_writes shape [] = tt
head_writes shape (r ∷ rs) =
    by_test (λ t. is_write r.request ≡ t → HeadWrites shape (if t then r ∷ rs else line_of rs)) (is_write r.request) (λ _ hit. hit) (λ _ miss. head_writes shape rs) refl

low_bit : (t : Bool) → cond {A = ℕ} t 1 0 ≤ 1
low_bit true = omega arith
low_bit false = omega arith

fewer_writes : (rs : List Taken) → writes_among (line_of rs) ≤ writes_among rs
unfolding line_of
fewer_writes [] = omega arith
fewer_writes (r ∷ rs) =
    by_test (λ t. writes_among (if t then r ∷ rs else line_of rs) ≤ writes_among (r ∷ rs)) (is_write r.request) (λ _. omega arith)
    (λ _. let rest = fewer_writes rs in let count = count-cons (λ x. is_write x.request) r rs in omega (arith, rest, count))

one_more : (rs : List Taken) (r : Taken) → writes_among (rs ++ r ∷ []) ≤ writes_among rs + 1
one_more rs r =
    let both = count-append (λ x. is_write x.request) rs (r ∷ []) in
    let one = count-cons (λ x. is_write x.request) r [] in
    let low = low_bit (is_write r.request) in
    omega (arith, both, one, low)

one_less : (w : Taken) (behind : List Taken) → is_write w.request ≡ true → writes_among (w ∷ behind) ≡ 1 + writes_among behind
one_less w behind writes = count-cons (λ x. is_write x.request) w behind ∙ ap (λ (t : Bool). cond {A = ℕ} t 1 0 + writes_among behind) writes

in_bound : (bound n : ℕ) (x : Option RequestRefusal) → option_or (range_refusal bound (n ∷ [])) x ≡ None → n < bound
in_bound bound n x none =
    by_test (λ t. nat_le bound n ≡ t → option_or (option_map (λ m. refusal.Range m) (cond t (Some n) None)) x ≡ None → n < bound) (nat_le bound n)
    (λ _ high is. absurd (cc)) (λ _ low is. leb-false bound n low) refl none

module _ (shape : Shape) (limits : IsVolume shape) where
  -- ---- questions

  numbered : (v j : ℕ) (bs : List ℕ) → v < 2 ^ 32 → j + length bs ≤ 2 ^ 20 → AllByRecursion (λ b. b < blocks shape) bs → AllByRecursion (QuestionFits shape) (questions_from v j bs)
  unfolding questions_from
  numbered v j [] low few all = tt
  numbered v j (b ∷ bs) low few all = ((omega (arith, low, few), all.0), numbered v (j + 1) bs low (omega (arith, few)) all.1)

  request_questions : (r : Taken) → TakenFits shape r → AllByRecursion (QuestionFits shape) (questions_of shape r.event r.request)
  request_questions r fits = by_request r.request fits.1 where
    by_request : (q : Request) → JoinedFits shape q → AllByRecursion (QuestionFits shape) (questions_of shape r.event q)
    by_request (request.Write batch) of =
        let test : ℕ → Bool = λ b. list_any (λ w. w.block == b) batch in
        let few = few_pass test (range_with_len 0 (blocks shape)) in
        let long = length-range_with_len 0 (blocks shape) in
        let many = few_blocks shape limits in
        numbered r.event 1 (blocks_of shape batch) fits.0 (omega (arith, few, long, many))
        (all_filter (λ b. b < blocks shape) test (range_with_len 0 (blocks shape)) (each_below (blocks shape) 0 (blocks shape) (omega arith)))
    by_request (request.Read b) of = (((let low = fits.0 in omega (arith, low)), of), tt)
    by_request request.Barrier of = tt
    by_request (request.Restart e) of = tt
    by_request (request.Reassign e g) of = tt

  all_questions : (rs : List Taken) → AllByRecursion (TakenFits shape) rs → AllByRecursion (QuestionFits shape) (questions shape rs)
  unfolding questions
  all_questions [] all = tt
  all_questions (r ∷ rs) all =
      let first = request_questions r all.0 in
      either_way (is_write r.request) (questions_of shape r.event r.request) (questions_of shape r.event r.request ++ questions shape rs) (λ qs. AllByRecursion (QuestionFits shape) qs) first
      (all_both (QuestionFits shape) (questions_of shape r.event r.request) (questions shape rs) first (all_questions rs all.1))

  line_fits : (rs : List Taken) → AllByRecursion (TakenFits shape) rs → AllByRecursion (TakenFits shape) (line_of rs)
  unfolding line_of
  line_fits [] all = tt
  line_fits (r ∷ rs) all = either_way (is_write r.request) (r ∷ rs) (line_of rs) (λ l. AllByRecursion (TakenFits shape) l) all (line_fits rs all.1)

  left_reads : (rs : List Taken) → AllByRecursion (TakenFits shape) rs → AllByRecursion (QuestionFits shape) (read_questions (left_of rs))
  unfolding left_of
  left_reads [] all = tt
  left_reads (r ∷ rs) all =
      either_way (is_write r.request) [] (r ∷ left_of rs) (λ l. AllByRecursion (QuestionFits shape) (read_questions l)) tt
      (all_both (QuestionFits shape) (read_question r.event r.request) (read_questions (left_of rs)) (by_request r.request all.0.1) (left_reads rs all.1)) where
        by_request : (q : Request) → JoinedFits shape q → AllByRecursion (QuestionFits shape) (read_question r.event q)
        by_request (request.Read b) of = (((let low = all.0.0 in omega (arith, low)), of), tt)
        by_request (request.Write batch) of = tt
        by_request request.Barrier of = tt
        by_request (request.Restart e) of = tt
        by_request (request.Reassign e g) of = tt

  head_asked : (rs : List Taken) → AllByRecursion (TakenFits shape) rs → AllByRecursion (QuestionFits shape) (head_questions shape rs)
  head_asked [] all = tt
  head_asked (r ∷ rs) all = request_questions r all.0

  all_fresh : (qs : List Question) → AllByRecursion (QuestionFits shape) qs → AllByRecursion (OpenFits shape) (map (fresh shape) qs)
  all_fresh qs all = all_map (OpenFits shape) (fresh shape) qs all

  -- ---- letters

  module _ (c : state.Serving) (session : c.session < 2 ^ 64) (numbers : AllByRecursion (λ n. n < 2 ^ 64) c.numbers) where
    ask_within : (names : List NodeName) (q : Question) → AllByRecursion (IsOfVolume shape) names → QuestionFits shape q → AllByRecursion (IsSentWithin shape) (to_all names (ask_of shape c q))
    ask_within names q of fits =
        let many = few_blocks shape limits in
        let low = fits.1 in
        to_all_within shape names (ask_of shape c q) of tt
        (session, (fits.0, (omega (arith, many, low), at_index (λ n. n < 2 ^ 64) c.numbers (region_of shape q.block) (omega arith) numbers)))

    asks_within : (qs : List Question) → AllByRecursion (QuestionFits shape) qs → AllByRecursion (IsSentWithin shape) (flat_map (λ q. asks shape c q) qs)
    asks_within qs all =
        flat_of_all (IsSentWithin shape) (λ q. asks shape c q) qs
        (all_then (QuestionFits shape) (λ q. AllByRecursion (IsSentWithin shape) (asks shape c q))
        (λ q fits. ask_within (group_of shape (region_of shape q.block)) q (group_within shape limits (region_of shape q.block) (in_region shape q.block fits.1)) fits) qs all)

    opens_within : (os : List Open) → AllByRecursion (OpenFits shape) os → AllByRecursion (IsSentWithin shape) (flat_map (λ o. asks shape c o.question) os)
    opens_within os all =
        flat_of_all (IsSentWithin shape) (λ o. asks shape c o.question) os
        (all_then (OpenFits shape) (λ o. AllByRecursion (IsSentWithin shape) (asks shape c o.question))
        (λ o fits. ask_within (group_of shape (region_of shape o.question.block)) o.question (group_within shape limits (region_of shape o.question.block) (in_region shape o.question.block fits.1)) fits) os all)

  parts_within : (parts : List Record) → AllByRecursion (PartWithin shape) parts → AllByRecursion (IsSentWithin shape) (part_letters shape parts)
  parts_within parts all =
      flat_of_all (IsSentWithin shape) (λ rec. to_all (group_of shape rec.header.region) (message.Part (record { rec = rec }))) parts
      (all_then (PartWithin shape) (λ rec. AllByRecursion (IsSentWithin shape) (to_all (group_of shape rec.header.region) (message.Part (record { rec = rec }))))
      (λ rec fits. to_all_within shape (group_of shape rec.header.region) (message.Part (record { rec = rec })) (group_within shape limits rec.header.region fits.1) fits.0.counts fits.0.widths) parts all)

  -- ---- the leaving rule

  leaves_fit : (b : ℕ) (c : state.Serving) (requests : List Taken) → ServingFits shape b (record c { line = requests }) → ToldFits shape b (leaves shape c requests)
  unfolding leaves
  leaves_fit b c requests f = record {
    client = (
      record {
        session = f.session;
        last = (let last = f.last in let fewer = fewer_writes requests in omega (arith, last, fewer));
        numbers = f.numbers;
        contents = f.contents;
        leader = f.leader;
        unacked = f.unacked;
        line = line_fits requests f.line;
        reads = all_both (OpenFits shape) c.reads (map (fresh shape) (read_questions (left_of requests))) f.reads (all_fresh (read_questions (left_of requests)) (left_reads requests f.line));
        asked = all_fresh (head_questions shape (line_of requests)) (head_asked (line_of requests) (line_fits requests f.line));
      },
      head_writes shape requests,
    );
    outs = asks_within c f.session f.numbers (questions shape requests) (all_questions requests f.line);
  }

  -- a client with another line
  lined : (b : ℕ) (c : state.Serving) (requests : List Taken) → ServingFits shape b c → c.last + writes_among requests < 2 ^ 63 + b → AllByRecursion (TakenFits shape) requests
      → ServingFits shape b (record c { line = requests })
  lined b c requests f last all = record {
    session = f.session;
    last = last;
    numbers = f.numbers;
    contents = f.contents;
    leader = f.leader;
    unacked = f.unacked;
    line = all;
    reads = f.reads;
    asked = f.asked;
  }

  module _ (b : ℕ) (small : b ≤ 2 ^ 33) (c : state.Serving) (f : ServingFits shape b c) (heads : HeadWrites shape c.line) where
    stays : (lines : List Line) → ToldFits shape b (only_lines (state.Serves c) lines)
    stays lines = record { client = (f, heads); outs = tt }

    -- ---- requests, of event v

    module _ (v : ℕ) (up : b ≤ v) (low : v < 2 ^ 32) where
      later : ToldFits shape (v + 1) (ignored (state.Serves c))
      later = record { client = (serving_wider shape b (v + 1) c (omega (arith, up)) f, heads); outs = tt }

      joined_fits : (r : Taken) (line : List Taken) → c.line ≡ line → TakenFits shape r → ToldFits shape (v + 1) (joined shape c r line)
      joined_fits r [] same fits =
          let last = f.last in
          let more = one_more [] r in
          leaves_fit (v + 1) c (r ∷ []) (lined (v + 1) c (r ∷ []) (serving_wider shape b (v + 1) c (omega (arith, up)) f) (omega (arith, up, last, more)) (fits, tt))
      joined_fits r (head ∷ line) same fits =
          let last = f.last in
          let more = one_more (head ∷ line) r in
          let count : writes_among c.line ≡ writes_among (head ∷ line) = ap writes_among same in
          record {
            client = (
              lined (v + 1) c ((head ∷ line) ++ r ∷ []) (serving_wider shape b (v + 1) c (omega (arith, up)) f) (omega (arith, up, last, more, count))
                  (all_both (TakenFits shape) (head ∷ line) (r ∷ []) (subst (λ (l : List Taken). AllByRecursion (TakenFits shape) l) same f.line) (fits, tt)),
              subst (λ (l : List Taken). HeadWrites shape l) same heads,
            );
            outs = tt;
          }

      accepted_fits : (r : Request) → RequestFits shape r → refusal_here shape c r ≡ None → ToldFits shape (v + 1) (accepted shape c v r)
      accepted_fits (request.Write batch) of free = joined_fits (record { event = v; request = request.Write batch }) c.line refl (low, of)
      accepted_fits (request.Read b) of free = joined_fits (record { event = v; request = request.Read b }) c.line refl (low, in_bound (blocks shape) b _ free)
      accepted_fits request.Barrier of free = joined_fits (record { event = v; request = request.Barrier }) c.line refl (low, tt)
      accepted_fits (request.Restart e) of free = later
      accepted_fits (request.Reassign e g) of free =
          let inside : g < regions shape = in_bound (regions shape) g _ free in
          let many = few_regions shape limits in
          let last = f.last in
          record {
            client = record { session = of; served = f.session; region = inside; last = omega (arith, up, last); contents = f.contents };
            outs = to_all_within shape (group_of shape g) (message.Dump (record { session = c.session; region = g })) (group_within shape limits g inside) tt (f.session, omega (arith, inside, many));
          }

      decided_fits : (r : Request) → RequestFits shape r → (o : Option RequestRefusal) → refusal_here shape c r ≡ o → ToldFits shape (v + 1) (decided shape c v r o)
      decided_fits r of (Some cause) is = record { client = later.client; outs = tt }
      decided_fits r of None is = accepted_fits r of is

      pub requested_fits : (r : Request) → RequestFits shape r → ToldFits shape (v + 1) (requested_here shape c v r)
      unfolding requested_here
      requested_fits r of = decided_fits r of (refusal_here shape c r) refl

    -- ---- claims

    acks_fit : (us : List Unacked) (d : state.Serving) → AllByRecursion (UnackedFits shape) us → ServingFits shape b d × HeadWrites shape d.line
        → ServingFits shape b (acks shape d us).client × HeadWrites shape (acks shape d us).client.line
    unfolding acks
    acks_fit [] d all of = of
    acks_fit (u ∷ us) d all of =
        let next : state.Serving = acked_one d us in
        either_way (all_claimed shape d.claims u.leader (d.acked + 1))
        (record { client = (acks shape next us).client; lines = acked_lines d ++ (acks shape next us).lines }) (record { client = d; lines = [] })
        (λ (a : Acked). ServingFits shape b a.client × HeadWrites shape a.client.line)
        (acks_fit us next all.1 (record { session = of.0.session; last = of.0.last; numbers = of.0.numbers; contents = of.0.contents; leader = of.0.leader; unacked = all.1; line = of.0.line; reads = of.0.reads; asked = of.0.asked }, of.1))
        of

    committed_fits : (name : NodeName) (session front : ℕ) → ToldFits shape b (committed_here shape c name session front)
    unfolding committed_here
    committed_fits name session front =
        either_way (session == c.session) (acked_told (acks shape (claimed c name front) c.unacked)) (ignored (state.Serves c)) (ToldFits shape b)
        (record {
          client = acks_fit c.unacked (claimed c name front) f.unacked
              (record { session = f.session; last = f.last; numbers = f.numbers; contents = f.contents; leader = f.leader; unacked = f.unacked; line = f.line; reads = f.reads; asked = f.asked }, heads);
          outs = tt;
        })
        (stays [])

    -- ---- answers

    again : (name : NodeName) (o : Open) → IsOfVolume shape name → OpenFits shape o → ToldFits shape b (asked_again shape c name o)
    again name o of one = record { client = (f, heads); outs = ask_within c f.session f.numbers (name ∷ []) o.question (of, tt) one }

    reads_left : (reads : List Open) → AllByRecursion (OpenFits shape) reads → ServingFits shape b (record c { reads = reads })
    reads_left reads all =
        record { session = f.session; last = f.last; numbers = f.numbers; contents = f.contents; leader = f.leader; unacked = f.unacked; line = f.line; reads = all; asked = f.asked }

    struck_fit : (a : Answer) (by : ℕ) (s : Strike) (os : List Open) → AllByRecursion (OpenFits shape) os → AllByRecursion (OpenFits shape) (struck_at a by s os)
    struck_fit a by s os all =
        all_map (OpenFits shape) (λ o. if answers a o then struck by s o else o) os
        (all_then (OpenFits shape) (λ o. OpenFits shape (if answers a o then struck by s o else o)) (λ o one. either_way (answers a o) (struck by s o) o (OpenFits shape) one one) os all)

    read_over : (o : Open) (l : Line) → ToldFits shape b (read_ended c o l)
    read_over o l = record { client = (reads_left (closed_at o.question.number c.reads) (all_filter (OpenFits shape) (λ p. not (p.question.number == o.question.number)) c.reads f.reads), heads); outs = tt }

    read_judged_fits : (name : NodeName) (a : Answer) (o : Open) (verdict : Verdict) → IsOfVolume shape name → OpenFits shape o → ToldFits shape b (read_judged shape c name a o verdict)
    read_judged_fits name a o Stale of one = again name o of one
    read_judged_fits name a o Good of one = read_over o (line.Read o.question.event o.question.block a.bytes)
    read_judged_fits name a o (Struck s) of one =
        either_way (all_struck (struck name.replica s o).strikes) (read_ended c o (line.Fault o.question.event o.question.block (struck name.replica s o).strikes))
        (ignored (state.Serves (record c { reads = struck_at a name.replica s c.reads }))) (ToldFits shape b)
        (read_over o (line.Fault o.question.event o.question.block (struck name.replica s o).strikes))
        (record { client = (reads_left (struck_at a name.replica s c.reads) (struck_fit a name.replica s c.reads f.reads), heads); outs = tt })

    read_fits : (name : NodeName) (a : Answer) → IsOfVolume shape name → (o : Option Open) → OfSome (OpenFits shape) o → ToldFits shape b (read_answered shape c name a o)
    read_fits name a of None none = stays []
    read_fits name a of (Some o) one = read_judged_fits name a o (worth shape c a) of one

    asked_left : (asked : List Open) (known : List Answer) → AllByRecursion (OpenFits shape) asked → ServingFits shape b (record c { asked = asked; known = known })
    asked_left asked known all =
        record { session = f.session; last = f.last; numbers = f.numbers; contents = f.contents; leader = f.leader; unacked = f.unacked; line = f.line; reads = f.reads; asked = all }

    behind_fits : (w : Taken) (behind : List Taken) → c.line ≡ w ∷ behind → ServingFits shape b (record c { line = behind })
    behind_fits w behind same =
        let last = f.last in
        let count : writes_among c.line ≡ writes_among (w ∷ behind) = ap writes_among same in
        let less = one_less w behind (subst (λ (l : List Taken). HeadWrites shape l) same heads) in
        lined b c behind f (omega (arith, last, count, less)) (subst (λ (l : List Taken). AllByRecursion (TakenFits shape) l) same f.line).1

    faulted_fits : (l : Line) (rs : List Taken) → c.line ≡ rs → ToldFits shape b (head_faulted shape c l rs)
    faulted_fits l [] same = stays []
    faulted_fits l (w ∷ behind) same =
        let rest = leaves_fit b c behind (behind_fits w behind same) in
        record { client = rest.client; outs = rest.outs }

  -- ---- the head becomes the next batch

  batch_fits : (r : Request) → is_write r ≡ true → JoinedFits shape r → (length (batch_asked r) ≤ 64) × BatchSized shape (batch_asked r)
  batch_fits (request.Write batch) is of = of
  batch_fits (request.Read b) is of = absurd (cc)
  batch_fits request.Barrier is of = absurd (cc)
  batch_fits (request.Restart e) is of = absurd (cc)
  batch_fits (request.Reassign e g) is of = absurd (cc)

module _ (volume : Volume) (limits : IsVolume volume.geometry) (b : ℕ) (small : b ≤ 2 ^ 33) (c : state.Serving) (f : ServingFits volume.geometry b c) (heads : HeadWrites volume.geometry c.line) where
  abbrev shape : Shape
  shape = volume.geometry

  module _ (w : Taken) (behind : List Taken) (same : c.line ≡ w ∷ behind) where
    abbrev batch : Batch
    batch = batch_asked w.request

    is_head : is_write w.request ≡ true
    is_head = subst (λ (l : List Taken). HeadWrites shape l) same heads

    asked_fits : (length batch ≤ 64) × BatchSized shape batch
    asked_fits = batch_fits shape limits w.request is_head (subst (λ (l : List Taken). AllByRecursion (TakenFits shape) l) same f.line).0.1

    count : writes_among c.line ≡ 1 + writes_among behind
    count = ap writes_among same ∙ one_less w behind is_head

    next_low : c.last + 1 < 2 ^ 64
    next_low = let last = f.last in let many = count in omega (arith, last, many, small)

    new_parts : AllByRecursion (PartWithin shape) (next_parts volume c batch)
    unfolding next_part
    new_parts =
        all_map (PartWithin shape) (λ g. next_part volume c batch g) (touched_by shape batch)
        (all_among (λ g. PartWithin shape (next_part volume c batch g)) (touched_by shape batch)
        (λ g among.
        let inside : g < regions shape = among_all (λ r. r < regions shape) (all_regions shape) g (among_filter (λ r. touches shape batch r) g (all_regions shape) among).0 (each_region shape limits) in
        (part_spelled volume limits c batch f.session next_low f.leader f.numbers asked_fits.0 asked_fits.1 g inside among, inside)))

    abbrev newest : Unacked
    newest = record { leader = leader_of shape batch; parts = next_parts volume c batch }

    then_fits : ServingFits shape b (record (with_batch volume c batch) { line = behind })
    then_fits =
        let last = f.last in
        let many = count in
        let few = few_regions shape limits in
        record {
          session = f.session;
          last = omega (arith, last, many);
          numbers = after_low volume limits c batch f.session next_low f.leader f.numbers asked_fits.0 asked_fits.1;
          contents = apply_sized shape batch c.contents asked_fits.1 f.contents;
          leader = at_index (λ n. n < 2 ^ 16) (touched_by shape batch) 0 (omega arith)
              (all_filter (λ r. r < 2 ^ 16) (λ r. touches shape batch r) (all_regions shape) (all_then (λ r. r < regions shape) (λ r. r < 2 ^ 16) (λ r low. omega (arith, low, few)) (all_regions shape) (each_region shape limits)));
          unacked = all_both (UnackedFits shape) c.unacked (newest ∷ []) f.unacked (new_parts, tt);
          line = (subst (λ (l : List Taken). AllByRecursion (TakenFits shape) l) same f.line).1;
          reads = f.reads;
          asked = f.asked;
        }

    submit_fits : ToldFits shape b (submits volume c (w ∷ behind))
    submit_fits =
        let rest = leaves_fit shape limits b (with_batch volume c batch) behind then_fits in record {
          client = rest.client;
          outs = all_both (IsSentWithin shape) (part_letters shape (next_parts volume c batch)) (leaves shape (with_batch volume c batch) behind).outs (parts_within shape limits (next_parts volume c batch) new_parts) rest.outs;
        }

  submits_fit : (rs : List Taken) → c.line ≡ rs → ToldFits shape b (submits volume c rs)
  submits_fit [] same = stays shape limits b small c f heads []
  submits_fit (w ∷ behind) same = submit_fits w behind same

  known_fits : (a : Answer) (os : List Open) → AllByRecursion (OpenFits shape) os → ToldFits shape b (head_known volume c a os)
  known_fits a [] all = submits_fit c.line refl
  known_fits a (o ∷ left) all = record { client = (asked_left shape limits b small c f heads (o ∷ left) (c.known ++ a ∷ []) all, heads); outs = tt }

  head_judged_fits : (name : NodeName) (a : Answer) (o : Open) (verdict : Verdict) → IsOfVolume shape name → OpenFits shape o → ToldFits shape b (head_judged volume c name a o verdict)
  head_judged_fits name a o Stale of one = again shape limits b small c f heads name o of one
  head_judged_fits name a o Good of one = known_fits a (closed_at o.question.number c.asked) (all_filter (OpenFits shape) (λ p. not (p.question.number == o.question.number)) c.asked f.asked)
  head_judged_fits name a o (Struck s) of one =
      either_way (all_struck (struck name.replica s o).strikes) (head_faulted shape c (line.Fault o.question.event o.question.block (struck name.replica s o).strikes) c.line)
      (ignored (state.Serves (record c { asked = struck_at a name.replica s c.asked }))) (ToldFits shape b)
      (faulted_fits shape limits b small c f heads (line.Fault o.question.event o.question.block (struck name.replica s o).strikes) c.line refl)
      (record { client = (asked_left shape limits b small c f heads (struck_at a name.replica s c.asked) c.known (struck_fit shape limits b small c f heads a name.replica s c.asked f.asked), heads); outs = tt })

  head_fits : (name : NodeName) (a : Answer) → IsOfVolume shape name → (o : Option Open) → OfSome (OpenFits shape) o → ToldFits shape b (head_answered volume c name a o)
  head_fits name a of None none = stays shape limits b small c f heads []
  head_fits name a of (Some o) one = head_judged_fits name a o (worth shape c a) of one

  answered_fits : (name : NodeName) (a : Answer) → IsOfVolume shape name → ToldFits shape b (answered_here volume c name a)
  unfolding answered_here
  answered_fits name a of =
      either_way (not ((a.session == c.session) && is_fitting shape name a)) (ignored (state.Serves c))
      (if nat_lt a.read (2 ^ 32) then read_answered shape c name a (open_at a c.reads) else head_answered volume c name a (open_at a c.asked)) (ToldFits shape b)
      (stays shape limits b small c f heads [])
      (either_way (nat_lt a.read (2 ^ 32)) (read_answered shape c name a (open_at a c.reads)) (head_answered volume c name a (open_at a c.asked)) (ToldFits shape b)
      (read_fits shape limits b small c f heads name a of (open_at a c.reads) (found_of_all (OpenFits shape) (λ o. answers a o) c.reads f.reads))
      (head_fits name a of (open_at a c.asked) (found_of_all (OpenFits shape) (λ o. answers a o) c.asked f.asked)))

  pub serving_told : (name : NodeName) (m : Message) → IsOfVolume shape name → ToldFits shape b (told_serving volume c name m)
  serving_told name (message.Committed m) of = committed_fits shape limits b small c f heads name m.session m.front
  serving_told name (message.Answer m) of = answered_fits name m of
  serving_told name other of = stays shape limits b small c f heads []

  -- ---- a tick

  pub serving_ticked : AllByRecursion (IsSentWithin shape) (ticked_here shape c)
  unfolding ticked_here
  serving_ticked =
      let parts : List Record = flat_map (λ u. u.parts) c.unacked in
      let head : List Letter = flat_map (λ o. asks shape c o.question) c.asked in
      let reads : List Letter = flat_map (λ o. asks shape c o.question) c.reads in
      all_both (IsSentWithin shape) (part_letters shape parts ++ head) reads
      (all_both (IsSentWithin shape) (part_letters shape parts) head (parts_within shape limits parts (flat_of_all (PartWithin shape) (λ u. u.parts) c.unacked f.unacked))
      (opens_within shape limits c f.session f.numbers c.asked f.asked))
      (opens_within shape limits c f.session f.numbers c.reads f.reads)
