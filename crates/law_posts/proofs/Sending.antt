-- What a serving client sends is tagged, and what it keeps.
use Rattle.std.proofs.Common.{◌≡◌, ◌⊎◌, ℕ, ◌+◌, ◌-◌, ◌^◌, ◌<◌, ◌≤◌, ◌∙◌, not, ◌&&◌, ◌==◌, nat_lt, if◌then◌else◌, List, [], ◌∷◌, ◌++◌, map, flat_map, length, get_or, Option, None, Some, inl, inr, refl, ap, sym, subst, arith, length-append}
use Rattle.std.specs.Prelude.{cond}
use Rattle.std.proofs.Math.Seq.{get_or-append_seam}
use Rattle.salus_types.specs.Volume.{Shape, regions}
use Rattle.salus_types.specs.declared.names.NodeName.{NodeName}
use Rattle.salus_types.specs.declared.records.Record.{Record}
use Rattle.salus_message.specs.declared.replies.Answer.{Answer}
use Rattle.salus_message.specs.declared.wire.Message.{Message}
use Rattle.salus_message.specs.declared.wire.Message.TheVariants as message
use Rattle.merkle_region.specs.Tree.{IsAmong}
use Rattle.merkle_region.proofs.Membership.{among_either, among_left, among_right}
use Rattle.schedule_text.specs.declared.schedule.Volume.{Volume}
use Rattle.schedule_text.specs.declared.schedule.Event.{Event}
use Rattle.schedule_text.specs.declared.schedule.Event.TheVariants as event
use Rattle.printed_lines.specs.declared.line.Line.{Line}
use Rattle.printed_lines.specs.declared.line.Line.TheVariants as line
use Rattle.printed_lines.specs.declared.line.RequestRefusal.{RequestRefusal}
use Rattle.salus_model.specs.declared.trace.Request.{Request}
use Rattle.salus_model.specs.declared.trace.Request.TheVariants as request
use Rattle.volume_model.specs.Contents.{Batch, region_of, all_regions}
use Rattle.volume_model.specs.Groups.{group_of}
use Rattle.volume_model.specs.Parts.{Session, touches, touched_by, leader_of}
use Rattle.salus_model.specs.Judge.{Judge, event_at, batch_of, last_number, judged, judged_all}
use Rattle.salus_model.specs.Waiting.{Taken, left_of, questions, is_barrier, Question}
use Rattle.salus_model.specs.Answering.{Verdict, Stale, Good, Struck, all_struck, is_fitting}
use Rattle.salus_model.specs.Forgery.{records_in}
use Rattle.client_rules.specs.State as state
use Rattle.client_rules.specs.State.{Open, Waiter, Unacked, Letter, Told, ignored, to_all}
use Rattle.client_rules.specs.Tables.{open_at, closed_at, struck, struck_at, worth, ask_of, asks, answered_of, waiter_line, all_claimed}
use Rattle.client_rules.specs.Submitting.{batch_asked, next_part, next_parts, part_letters, with_batch}
use Rattle.client_rules.specs.Serving.{after_leaving, leaves, refusal_here, joined, fetches, accepted, decided, requested_here, asked_again, read_ended, read_judged, read_answered, head_faulted, submits, head_known, head_judged, head_answered, answered_here, Acked, acked_one, acked_lines, acks, claimed, acked_told, committed_here, ticked_here}
use Rattle.client_rules.specs.Rules.{told_serving}
use Rattle.list_lemmas.proofs.Members.{among_map, among_flat_map, among_flat_map-in, among_filter, among_range, among_all}
use Rattle.list_lemmas.proofs.Tests.{by_test}
use Rattle.list_lemmas.proofs.Each.{all_both, all_map, all_each, all_flat}
use Rattle.law_lemmas.proofs.Settled.{IsBelow, IsSettled, now-known, going-settled}
use Rattle.law_lines.specs.Mirror.{MirrorsCounts}
use Rattle.law_lines.proofs.Parted.{part-is}
use Rattle.law_posts.proofs.Kept.{records_sent, parts_of, kept, EachTagged, HaveNone, none_to, IsTidy, TellsTagged, ArePlain, IsPlain, plain_keeps, plain_going, plain_tells, quiet_tells}

-- ---- lines and letters of the tables

module _ (shape : Shape) where
  none_asks : (c : state.Serving) (qs : List Question) → HaveNone (flat_map (λ q. asks shape c q) qs)
  none_asks c qs = all_flat (λ (l : Letter). records_in l.message ≡ []) (λ q. asks shape c q) qs (λ q. none_to _ (ask_of shape c q) refl)

  plain_answered : (c : state.Serving) (r : Taken) → ArePlain (answered_of c r)
  plain_answered c r = by_test (λ t. ArePlain (if t then line.Barrier r.event c.last ∷ [] else [])) (is_barrier r.request && _) (λ _. (tt, tt)) (λ _. tt)

  pub plain_leaves : (c : state.Serving) (requests : List Taken) → ArePlain (leaves shape c requests).lines
  unfolding leaves
  plain_leaves c requests = all_flat IsPlain (λ r. answered_of c r) (left_of requests) (λ r. plain_answered c r)

  none_leaves : (c : state.Serving) (requests : List Taken) → HaveNone (leaves shape c requests).outs
  unfolding leaves
  none_leaves c requests = none_asks c (questions shape requests)

  kept_leaves : (c : state.Serving) (requests : List Taken) → kept (leaves shape c requests).client ≡ parts_of c.unacked
  unfolding leaves
  kept_leaves c requests = refl

-- ---- claims

module _ (shape : Shape) (P : Record → Type 0) where
  abbrev Each : List Unacked → Type 0
  Each us = (rec : Record) → IsAmong rec (parts_of us) → P rec

  acks_keep : (us : List Unacked) (c : state.Serving) → Each us → Each c.unacked → Each (acks shape c us).client.unacked
  unfolding acks
  acks_keep [] c left each = each
  acks_keep (u ∷ us) c left each =
      let next : state.Serving = acked_one c us in
      let more : Each us = λ rec among. left rec (among_right rec u.parts (parts_of us) among) in
      by_test (λ t. Each (cond {A = Acked} t (record { client = (acks shape next us).client; lines = acked_lines c ++ (acks shape next us).lines }) (record { client = c; lines = [] })).client.unacked)
      (all_claimed shape c.claims u.leader (c.acked + 1))
      (λ _. acks_keep us next more more)
      (λ _. each)

plain_waiters : (ws : List Waiter) → ArePlain (map waiter_line ws)
plain_waiters ws = all_map IsPlain waiter_line ws (all_each (λ w. IsPlain (waiter_line w)) ws (λ w. tt))

acks_plain : (shape : Shape) (us : List Unacked) (c : state.Serving) → ArePlain (acks shape c us).lines
unfolding acks
acks_plain shape [] c = tt
acks_plain shape (u ∷ us) c =
    let next : state.Serving = acked_one c us in
    by_test (λ t. ArePlain (cond {A = Acked} t (record { client = (acks shape next us).client; lines = acked_lines c ++ (acks shape next us).lines }) (record { client = c; lines = [] })).lines)
    (all_claimed shape c.claims u.leader (c.acked + 1))
    (λ _. all_both IsPlain (acked_lines c) (acks shape next us).lines (tt, plain_waiters _) (acks_plain shape us next))
    (λ _. tt)

-- ---- a batch is submitted

batch_last : (list : List Batch) (batch : Batch) → get_or (list ++ batch ∷ []) (length list + 1 - 1) [] ≡ batch
batch_last list batch = let place : length list + 1 - 1 ≡ length list = omega arith in ap (λ i. get_or (list ++ batch ∷ []) i []) place ∙ get_or-append_seam list batch [] []

module _ (volume : Volume) (events : List Event) (judge : Judge) (c : state.Serving) (counts : MirrorsCounts volume.geometry judge c) (v s : ℕ) (batch : Batch)
    (asked : event_at events v ≡ Some (event.Write batch)) where
  abbrev more : Session
  more = record judge.now { list = judge.now.list ++ batch ∷ [] }

  abbrev after : Judge
  after = judged events judge (line.Submit v s)

  now_is : after.now ≡ more
  now_is = ap (λ l. record judge.now { list = judge.now.list ++ l }) (ap batch_of asked)

  pub next_tagged : EachTagged volume after (next_parts volume c batch)
  next_tagged rec among =
      let from = among_map (λ g. next_part volume c batch g) rec (touched_by volume.geometry batch) among in
      let g : ℕ = from.0 in
      let touched = among_filter (λ r. touches volume.geometry batch r) g (all_regions volume.geometry) from.1 in
      let inside : g < regions volume.geometry = (let below = (among_range (regions volume.geometry) 0 g touched.0).1 in omega (arith, below)) in
      let based = counts.based in
      let within = counts.within in
      let count : length (judge.now.list ++ batch ∷ []) ≡ length judge.now.list + 1 = length-append judge.now.list (batch ∷ []) in
      record {
        e = after.now.session;
        session = more;
        known = now-known after ∙ ap Some now_is;
        g = g;
        either = inl (record {
          s = last_number judge + 1;
          own = omega arith;
          within = omega arith;
          inside = inside;
          touched = ap (λ b. touches volume.geometry b g) (batch_last judge.now.list batch) ∙ touched.1;
          is = from.2 ∙ part-is volume judge c batch counts g inside;
        });
      }

-- ---- letters

-- a message to a node
abbrev pub letter_to : Message → NodeName → Letter
letter_to m name = record { to = name; message = m }

pub sent_either : (xs ys : List Letter) (rec : Record) → IsAmong rec (records_sent (xs ++ ys)) → IsAmong rec (records_sent xs) ⊎ IsAmong rec (records_sent ys)
sent_either [] ys rec among = inr among
sent_either (x ∷ xs) ys rec among = elim (among_either rec (records_in x.message) (records_sent (xs ++ ys)) among) [
  | inl here ↦ inl (among_left rec (records_in x.message) (records_sent xs) here)
  | inr later ↦ elim (sent_either xs ys rec later) [
    | inl front ↦ inl (among_right rec (records_in x.message) (records_sent xs) front)
    | inr back ↦ inr back
  ]
]

pub only_one : (rec one : Record) → IsAmong rec (one ∷ []) → rec ≡ one
only_one rec one (inl same) = same
only_one rec one (inr nothing) = absurd nothing

-- the letters of parts bring those parts
part_sent : (shape : Shape) (parts : List Record) (rec : Record) → IsAmong rec (records_sent (part_letters shape parts)) → IsAmong rec parts
part_sent shape parts rec among =
    let l = among_flat_map (λ (x : Letter). records_in x.message) rec (part_letters shape parts) among in
    let r = among_flat_map (λ (x : Record). to_all (group_of shape x.header.region) (message.Part (record { rec = x }))) l.0 parts l.1 in
    let n = among_map (letter_to (message.Part (record { rec = r.0 }))) l.0 (group_of shape r.0.header.region) r.2 in
    let here : IsAmong rec (r.0 ∷ []) = subst (λ (x : Letter). IsAmong rec (records_in x.message)) n.2 l.2 in
    subst (λ (x : Record). IsAmong x parts) (sym (only_one rec r.0 here)) r.1

no_record : (letters : List Letter) (rec : Record) → HaveNone letters → IsAmong rec (records_sent letters) → ⊥
no_record letters rec none among =
    let l = among_flat_map (λ (x : Letter). records_in x.message) rec letters among in
    let empty : records_in l.0.message ≡ [] = among_all (λ (x : Letter). records_in x.message ≡ []) letters l.0 l.1 none in
    absurd (subst (λ (rs : List Record). IsAmong rec rs) empty l.2)

-- ---- a step of a serving client

-- the session that a request asks to open is later than all that are known
abbrev pub OpensFor : Judge → ℕ → Request → Type 0
OpensFor judge bound (request.Restart e) = IsBelow judge e × (e ≤ bound)
OpensFor judge bound (request.Reassign e g) = IsBelow judge e × (e ≤ bound)
OpensFor judge bound other = Unit {0}

-- the write at the head is that of its event
abbrev pub HeadFits : List Event → List Taken → Type 0
HeadFits events [] = Unit {0}
HeadFits events (w ∷ behind) = event_at events w.event ≡ Some (event.Write (batch_asked w.request))

module _ (volume : Volume) (events : List Event) (judge : Judge) (top more : ℕ) (up : top ≤ more) (c : state.Serving) (tidy : IsTidy volume judge top (state.Serves c)) where
  abbrev shape : Shape
  shape = volume.geometry

  abbrev Tells : Told → Type 0
  Tells told = TellsTagged volume (judged_all events judge told.lines) more told

  goes_on : (d : state.Serving) (outs : List Letter) (lines : List Line) → d.unacked ≡ c.unacked → ArePlain lines → HaveNone outs
      → Tells (record { client = state.Serves d; outs = outs; lines = lines })
  goes_on d outs lines same plain none =
      quiet_tells volume events judge top more (state.Serves c) (record { client = state.Serves d; outs = outs; lines = lines }) up tidy plain tt
      (λ rec among. subst (λ (us : List Unacked). IsAmong rec (parts_of us)) same among) none

  stays : Tells (ignored (state.Serves c))
  stays = goes_on c [] [] refl tt tt

  leaves_tell : (requests : List Taken) → Tells (leaves shape c requests)
  unfolding leaves
  leaves_tell requests =
      goes_on (after_leaving shape c requests) (leaves shape c requests).outs (leaves shape c requests).lines refl (plain_leaves shape c requests) (none_leaves shape c requests)

  -- ---- requests

  joined_tells : (r : Taken) (line : List Taken) → Tells (joined shape c r line)
  joined_tells r [] = leaves_tell (r ∷ [])
  joined_tells r (head ∷ line) = goes_on (record c { line = (head ∷ line) ++ r ∷ [] }) [] [] refl tt tt

  accepted_tells : (v : ℕ) (r : Request) → OpensFor judge more r → Tells (accepted shape c v r)
  accepted_tells v (request.Write batch) o = joined_tells (record { event = v; request = request.Write batch }) c.line
  accepted_tells v (request.Read b) o = joined_tells (record { event = v; request = request.Read b }) c.line
  accepted_tells v request.Barrier o = joined_tells (record { event = v; request = request.Barrier }) c.line
  accepted_tells v (request.Restart e) o = stays
  accepted_tells v (request.Reassign e g) o =
      quiet_tells volume events judge top more (state.Serves c) (fetches shape c e g) up tidy tt o (λ rec among. absurd among)
      (none_to (group_of shape g) (message.Dump (record { session = c.session; region = g })) refl)

  decided_tells : (v : ℕ) (r : Request) (o : Option RequestRefusal) → OpensFor judge more r → Tells (decided shape c v r o)
  decided_tells v r (Some cause) opens = goes_on c [] (line.Refused v cause ∷ []) refl (tt, tt) tt
  decided_tells v r None opens = accepted_tells v r opens

  pub requested_tells : (v : ℕ) (r : Request) → OpensFor judge more r → Tells (requested_here shape c v r)
  unfolding requested_here
  requested_tells v r opens = decided_tells v r (refusal_here shape c r) opens

  -- ---- claims

  acked_tells : (name : NodeName) (front : ℕ) → Tells (acked_told (acks shape (claimed c name front) c.unacked))
  acked_tells name front =
      quiet_tells volume events judge top more (state.Serves c) (acked_told (acks shape (claimed c name front) c.unacked)) up tidy
      (acks_plain shape c.unacked (claimed c name front)) tt
      (acks_keep shape (λ rec. IsAmong rec (parts_of c.unacked)) c.unacked (claimed c name front) (λ rec among. among) (λ rec among. among)) tt

  committed_tells : (name : NodeName) (session front : ℕ) → Tells (committed_here shape c name session front)
  unfolding committed_here
  committed_tells name session front =
      by_test (λ t. Tells (if t then acked_told (acks shape (claimed c name front) c.unacked) else ignored (state.Serves c))) (session == c.session)
      (λ _. acked_tells name front) (λ _. stays)

  -- ---- answers

  again : (name : NodeName) (o : Open) → Tells (asked_again shape c name o)
  again name o = goes_on c (to_all (name ∷ []) (ask_of shape c o.question)) [] refl tt (none_to (name ∷ []) (ask_of shape c o.question) refl)

  read_judged_tells : (name : NodeName) (a : Answer) (o : Open) (verdict : Verdict) → Tells (read_judged shape c name a o verdict)
  read_judged_tells name a o Stale = again name o
  read_judged_tells name a o Good = goes_on (record c { reads = closed_at o.question.number c.reads }) [] (line.Read o.question.event o.question.block a.bytes ∷ []) refl (tt, tt) tt
  read_judged_tells name a o (Struck s) =
      by_test (λ t. Tells (if t then read_ended c o (line.Fault o.question.event o.question.block (struck name.replica s o).strikes)
      else ignored (state.Serves (record c { reads = struck_at a name.replica s c.reads })))) (all_struck (struck name.replica s o).strikes)
      (λ _. goes_on (record c { reads = closed_at o.question.number c.reads }) [] (line.Fault o.question.event o.question.block (struck name.replica s o).strikes ∷ []) refl (tt, tt) tt)
      (λ _. goes_on (record c { reads = struck_at a name.replica s c.reads }) [] [] refl tt tt)

  read_tells : (name : NodeName) (a : Answer) (o : Option Open) → Tells (read_answered shape c name a o)
  read_tells name a None = stays
  read_tells name a (Some o) = read_judged_tells name a o (worth shape c a)

  faulted_tells : (l : Line) (rs : List Taken) → IsPlain l → Tells (head_faulted shape c l rs)
  unfolding leaves
  faulted_tells l [] plain = stays
  faulted_tells l (w ∷ behind) plain =
      goes_on (after_leaving shape c behind) (leaves shape c behind).outs (l ∷ (leaves shape c behind).lines) refl (plain, plain_leaves shape c behind) (none_leaves shape c behind)

  -- ---- the head becomes the next batch

  module _ (counts : MirrorsCounts shape judge c) where
    module _ (w : Taken) (behind : List Taken) (asked : event_at events w.event ≡ Some (event.Write (batch_asked w.request))) where
      abbrev batch : Batch
      batch = batch_asked w.request

      abbrev l : Line
      l = line.Submit w.event (c.last + 1)

      abbrev next : Told
      next = leaves shape (with_batch volume c batch) behind

      abbrev then_judge : Judge
      then_judge = judged events judge l

      plain_then : ArePlain next.lines
      plain_then = plain_leaves shape (with_batch volume c batch) behind

      then_settled : IsSettled shape then_judge top
      unfolding judged_all
      then_settled = going-settled judge then_judge (plain_going events (l ∷ []) judge (tt, tt)) shape top tidy.settled

      parts_tagged : EachTagged volume (judged_all events then_judge next.lines) (next_parts volume c batch)
      parts_tagged = plain_keeps volume events then_judge top next.lines plain_then then_settled (next_parts volume c batch) (next_tagged volume events judge c counts w.event (c.last + 1) batch asked)

      old_tagged : EachTagged volume (judged_all events then_judge next.lines) (parts_of c.unacked)
      unfolding judged_all
      old_tagged = plain_keeps volume events judge top (l ∷ next.lines) (tt, plain_then) tidy.settled (parts_of c.unacked) tidy.keeps

      abbrev newest : Unacked
      newest = record { leader = leader_of shape batch; parts = next_parts volume c batch }

      all_tagged : EachTagged volume (judged_all events then_judge next.lines) (parts_of (c.unacked ++ newest ∷ []))
      all_tagged rec among =
          let u = among_flat_map (λ (x : Unacked). x.parts) rec (c.unacked ++ newest ∷ []) among in
          elim (among_either u.0 c.unacked (newest ∷ []) u.1) [
            | inl old ↦ old_tagged rec (among_flat_map-in (λ (x : Unacked). x.parts) u.0 rec c.unacked old u.2)
            | inr here ↦ elim here [
              | inl same ↦ parts_tagged rec (subst (λ (x : Unacked). IsAmong rec x.parts) same u.2)
              | inr nothing ↦ absurd nothing
            ]
          ]

      sent_tagged : EachTagged volume (judged_all events then_judge next.lines) (records_sent (part_letters shape (next_parts volume c batch) ++ next.outs))
      sent_tagged rec among = elim (sent_either (part_letters shape (next_parts volume c batch)) next.outs rec among) [
        | inl part ↦ parts_tagged rec (part_sent shape (next_parts volume c batch) rec part)
        | inr other ↦ absurd (no_record next.outs rec (none_leaves shape (with_batch volume c batch) behind) other)
      ]

      submit_tells : Tells (submits volume c (w ∷ behind))
      unfolding judged_all leaves
      submit_tells = plain_tells volume events judge top more (submits volume c (w ∷ behind)) up tidy.settled (tt, plain_then) tt all_tagged sent_tagged

    submits_tell : (rs : List Taken) → HeadFits events rs → Tells (submits volume c rs)
    submits_tell [] fits = stays
    submits_tell (w ∷ behind) fits = submit_tells w behind fits

    known_tells : (a : Answer) (rs : List Open) → HeadFits events c.line → Tells (head_known volume c a rs)
    known_tells a [] fits = submits_tell c.line fits
    known_tells a (o ∷ left) fits = goes_on (record c { asked = o ∷ left; known = c.known ++ a ∷ [] }) [] [] refl tt tt

    head_judged_tells : (name : NodeName) (a : Answer) (o : Open) (verdict : Verdict) → HeadFits events c.line → Tells (head_judged volume c name a o verdict)
    head_judged_tells name a o Stale fits = again name o
    head_judged_tells name a o Good fits = known_tells a (closed_at o.question.number c.asked) fits
    head_judged_tells name a o (Struck s) fits =
        by_test (λ t. Tells (if t then head_faulted shape c (line.Fault o.question.event o.question.block (struck name.replica s o).strikes) c.line
        else ignored (state.Serves (record c { asked = struck_at a name.replica s c.asked })))) (all_struck (struck name.replica s o).strikes)
        (λ _. faulted_tells (line.Fault o.question.event o.question.block (struck name.replica s o).strikes) c.line tt)
        (λ _. goes_on (record c { asked = struck_at a name.replica s c.asked }) [] [] refl tt tt)

    head_tells : (name : NodeName) (a : Answer) (o : Option Open) → HeadFits events c.line → Tells (head_answered volume c name a o)
    head_tells name a None fits = stays
    head_tells name a (Some o) fits = head_judged_tells name a o (worth shape c a) fits

    answered_tells : (name : NodeName) (a : Answer) → HeadFits events c.line → Tells (answered_here volume c name a)
    unfolding answered_here
    answered_tells name a fits =
        by_test (λ t. Tells (if t then ignored (state.Serves c)
        else if nat_lt a.read (2 ^ 32) then read_answered shape c name a (open_at a c.reads) else head_answered volume c name a (open_at a c.asked)))
        (not ((a.session == c.session) && is_fitting shape name a))
        (λ _. stays)
        (λ _. by_test (λ t. Tells (if t then read_answered shape c name a (open_at a c.reads) else head_answered volume c name a (open_at a c.asked))) (nat_lt a.read (2 ^ 32))
        (λ _. read_tells name a (open_at a c.reads))
        (λ _. head_tells name a (open_at a c.asked) fits))

    pub serving_tells : (name : NodeName) (m : Message) → HeadFits events c.line → Tells (told_serving volume c name m)
    serving_tells name (message.Committed d) fits = committed_tells name d.session d.front
    serving_tells name (message.Answer d) fits = answered_tells name d fits
    serving_tells name other fits = stays

-- ---- a tick

pub serving_ticks : (volume : Volume) (judge : Judge) (c : state.Serving) → EachTagged volume judge (parts_of c.unacked) → EachTagged volume judge (records_sent (ticked_here volume.geometry c))
unfolding ticked_here
serving_ticks volume judge c keeps rec among =
    let shape : Shape = volume.geometry in
    let none : (os : List Open) → HaveNone (flat_map (λ o. asks shape c o.question) os) =
    λ os. all_flat (λ (l : Letter). records_in l.message ≡ []) (λ o. asks shape c o.question) os (λ o. none_to (group_of shape (region_of shape o.question.block)) (ask_of shape c o.question) refl) in
    let parts : List Letter = part_letters shape (flat_map (λ u. u.parts) c.unacked) in
    let head : List Letter = flat_map (λ o. asks shape c o.question) c.asked in
    let reads : List Letter = flat_map (λ o. asks shape c o.question) c.reads in
    elim (sent_either (parts ++ head) reads rec among) [
      | inl front ↦ elim (sent_either parts head rec front) [
        | inl part ↦ keeps rec (part_sent shape (flat_map (λ u. u.parts) c.unacked) rec part)
        | inr asked ↦ absurd (no_record head rec (none c.asked) asked)
      ]
      | inr back ↦ absurd (no_record reads rec (none c.reads) back)
    ]
