-- A client goes on acknowledging as far as it may.
use Rattle.std.proofs.Common.{◌≡◌, ℕ, zero, suc, ◌+◌, ◌^◌, ◌<◌, ◌≤◌, ◌==◌, ◌&&◌, not, nat_lt, nat_le, Bool, false, if◌then◌else◌, List, [], ◌∷◌, ◌++◌, map, Option, None, Some, refl, sym, ap, subst, arith, eqb-true}
use Rattle.std.specs.Prelude.{filter}
use Rattle.std.specs.List.{list_all, AllByRecursion, range_with_len}
use Rattle.std.proofs.lemmas.Bool.{leb-true}
use Rattle.salus_types.specs.Volume.{Shape}
use Rattle.salus_types.specs.declared.names.NodeName.{NodeName}
use Rattle.salus_types.specs.declared.strike.Strike.{Strike}
use Rattle.salus_message.specs.declared.replies.Answer.{Answer}
use Rattle.salus_message.specs.declared.wire.Message.{Message}
use Rattle.salus_message.specs.declared.wire.Message.TheVariants as message
use Rattle.schedule_text.specs.declared.schedule.Volume.{Volume}
use Rattle.printed_lines.specs.declared.line.Line.{Line}
use Rattle.printed_lines.specs.declared.line.Line.TheVariants as line
use Rattle.printed_lines.specs.declared.line.RequestRefusal.{RequestRefusal}
use Rattle.salus_model.specs.declared.trace.Request.{Request}
use Rattle.salus_model.specs.declared.trace.Request.TheVariants as request
use Rattle.volume_model.specs.Groups.{same_node}
use Rattle.volume_model.specs.Parts.{leader_of}
use Rattle.salus_model.specs.Hearing.{News, Asks, Says, Crashes, Silence}
use Rattle.salus_model.specs.Waiting.{Taken}
use Rattle.salus_model.specs.Answering.{Verdict, Stale, Good, Struck, is_fitting, all_struck}
use Rattle.client_rules.specs.State.{Open, Claimed, Unacked, Serving, Client, Closed, Serves, Gathers, Fetches, Stages, Switches, Told, ignored}
use Rattle.client_rules.specs.Tables.{open_at, closed_at, struck, struck_at, worth, claim_of, with_claim, all_claimed}
use Rattle.client_rules.specs.Submitting.{batch_asked, next_parts, with_batch}
use Rattle.client_rules.specs.Serving.{leaves, refusal_here, joined, decided, requested_here, read_ended, read_struck, read_judged, read_answered, head_faulted, submits, head_known, head_judged, head_answered, answered_here, Acked, acked_one, acked_lines, acks, claimed, acked_told, committed_here}
use Rattle.client_rules.specs.Rules.{requested, told_serving, received, told}
use Rattle.list_lemmas.proofs.Each.{either_way, all_filter, all_then}
use Rattle.list_lemmas.proofs.Tests.{by_bool, way_with}
use Rattle.law_reads.proofs.Away.{IsAway}
use Rattle.law_claimed.specs.Acknowledging.{Stops, IsStopped, HearsWithin}
use Rattle.law_claimed.proofs.Begun.{away_told}

-- so where the client serves
abbrev pub NextStopped : Shape → Client → Type 0
NextStopped shape (Serves d) = IsStopped shape d
NextStopped shape Closed = Unit {0}
NextStopped shape (Gathers g) = Unit {0}
NextStopped shape (Fetches f) = Unit {0}
NextStopped shape (Stages b) = Unit {0}
NextStopped shape (Switches b) = Unit {0}

-- ---- claims

claim_below : (top : ℕ) (name : NodeName) (claims : List Claimed) → AllByRecursion (λ x. x.front ≤ top) claims → claim_of name claims ≤ top
unfolding claim_of
claim_below top name [] all = omega arith
claim_below top name (x ∷ claims) all = either_way (same_node x.name name) x.front (claim_of name claims) (λ (n : ℕ). n ≤ top) all.0 (claim_below top name claims all.1)

with_below : (top : ℕ) (name : NodeName) (front : ℕ) (claims : List Claimed) → front ≤ top → AllByRecursion (λ x. x.front ≤ top) claims → AllByRecursion (λ x. x.front ≤ top) (with_claim name front claims)
with_below top name front claims low all =
    either_way (nat_le front (claim_of name claims)) claims (record { name = name; front = front } ∷ filter (λ x. not (same_node x.name name)) claims) (AllByRecursion (λ x. x.front ≤ top)) all
    (low, all_filter (λ x. x.front ≤ top) (λ x. not (same_node x.name name)) claims all)

-- no replica claims a number above
none_claimed : (shape : Shape) (claims : List Claimed) (top leader : ℕ) → 0 < shape.replicas → AllByRecursion (λ x. x.front ≤ top) claims → all_claimed shape claims leader (top + 1) ≡ false
none_claimed shape claims top leader many all = by_count shape.replicas many where
  fails : (name : NodeName) → nat_le (top + 1) (claim_of name claims) ≡ false
  fails name =
      by_bool (nat_le (top + 1) (claim_of name claims)) (nat_le (top + 1) (claim_of name claims) ≡ false)
      (λ is. let up : top + 1 ≤ claim_of name claims = leb-true (top + 1) (claim_of name claims) is in let low : claim_of name claims ≤ top = claim_below top name claims all in absurd (omega (arith, up, low))) (λ isnt. isnt)

  by_count : (n : ℕ) → 0 < n → list_all (λ name. nat_le (top + 1) (claim_of name claims)) (map (λ (r : ℕ). record { region = leader; replica = r }) (range_with_len 0 n)) ≡ false
  by_count zero few = absurd (omega (arith, few))
  by_count (suc n) few = ap (λ (b : Bool). b && list_all (λ name. nat_le (top + 1) (claim_of name claims)) (map (λ (r : ℕ). record { region = leader; replica = r }) (range_with_len 1 n))) (fails (record { region = leader; replica = 0 }))

-- ---- a step of a serving client

module _ (volume : Volume) (many : 0 < volume.geometry.replicas) (c : Serving) (s : IsStopped volume.geometry c) (empties : c.unacked ≡ [] → c.last ≤ c.acked) where
  abbrev shape : Shape
  shape = volume.geometry

  abbrev On : Told → Type 0
  On t = NextStopped volume.geometry t.client

  leaves_on : (d : Serving) (requests : List Taken) → IsStopped shape d → On (leaves shape d requests)
  unfolding leaves
  leaves_on d requests is = record { stops = is.stops; below = is.below }

  joined_on : (r : Taken) (l : List Taken) → On (joined shape c r l)
  joined_on r [] = leaves_on c (r ∷ []) s
  joined_on r (head ∷ l) = record { stops = s.stops; below = s.below }

  decided_on : (v : ℕ) (q : Request) (x : Option RequestRefusal) → On (decided shape c v q x)
  decided_on v q (Some cause) = s
  decided_on v (request.Write batch) None = joined_on _ c.line
  decided_on v (request.Read b) None = joined_on _ c.line
  decided_on v request.Barrier None = joined_on _ c.line
  decided_on v (request.Restart e) None = s
  decided_on v (request.Reassign e g) None = tt

  -- ---- a claim

  acks_stop : (d : Serving) (us : List Unacked) → d.unacked ≡ us → Stops shape (acks shape d us).client.claims (acks shape d us).client.acked (acks shape d us).client.unacked
  unfolding acks
  acks_stop d [] is = subst (λ (l : List Unacked). Stops shape d.claims d.acked l) (sym is) tt
  acks_stop d (u ∷ us) is =
      way_with (all_claimed shape d.claims u.leader (d.acked + 1))
      (record { client = (acks shape (acked_one d us) us).client; lines = acked_lines d ++ (acks shape (acked_one d us) us).lines }) (record { client = d; lines = [] })
      (λ (t : Acked). Stops shape t.client.claims t.client.acked t.client.unacked) (λ _. acks_stop (acked_one d us) us refl)
      (λ stops. subst (λ (l : List Unacked). Stops shape d.claims d.acked l) (sym is) stops)

  record Same (d : Serving) (t : Acked) : Type 0 where
    claims : t.client.claims ≡ d.claims
    last : t.client.last ≡ d.last

  acks_same : (d : Serving) (us : List Unacked) → Same d (acks shape d us)
  unfolding acks
  acks_same d [] = record { claims = refl; last = refl }
  acks_same d (u ∷ us) =
      let rest = acks_same (acked_one d us) us in
      either_way (all_claimed shape d.claims u.leader (d.acked + 1))
      (record { client = (acks shape (acked_one d us) us).client; lines = acked_lines d ++ (acks shape (acked_one d us) us).lines }) (record { client = d; lines = [] }) (λ (t : Acked). Same d t)
      (record { claims = rest.claims; last = rest.last }) (record { claims = refl; last = refl })

  committed_on : (name : NodeName) (session front : ℕ) → (session ≡ c.session → front ≤ c.last) → On (committed_here shape c name session front)
  unfolding committed_here
  committed_on name session front low =
      let d : Serving = claimed c name front in
      let same = acks_same d c.unacked in
      way_with (session == c.session) (acked_told (acks shape d c.unacked)) (ignored (Serves c)) On
      (λ own. record {
        stops = acks_stop d c.unacked refl;
        below = subst (λ (n : ℕ). AllByRecursion (λ x. x.front ≤ n) (acks shape d c.unacked).client.claims) (sym same.last)
            (subst (λ (l : List Claimed). AllByRecursion (λ x. x.front ≤ c.last) l) (sym same.claims) (with_below c.last name front c.claims (low (eqb-true session c.session own)) s.below));
      })
      (λ _. s)

  -- ---- an answer

  -- a batch that is new isn't claimed
  with_batch_stops : (w : Taken) → IsStopped shape (with_batch volume c (batch_asked w.request))
  with_batch_stops w = record {
    stops = behind c.unacked refl;
    below = all_then (λ x. x.front ≤ c.last) (λ x. x.front ≤ c.last + 1) (λ x low. omega (arith, low)) c.claims s.below;
  } where
    new : Unacked
    new = record { leader = leader_of shape (batch_asked w.request); parts = next_parts volume c (batch_asked w.request) }

    behind : (us : List Unacked) → c.unacked ≡ us → Stops shape c.claims c.acked (c.unacked ++ new ∷ [])
    behind [] is =
        let all : c.last ≤ c.acked = empties is in
        subst (λ (l : List Unacked). Stops shape c.claims c.acked (l ++ new ∷ [])) (sym is)
        (none_claimed shape c.claims c.acked new.leader many (all_then (λ x. x.front ≤ c.last) (λ x. x.front ≤ c.acked) (λ x low. omega (arith, low, all)) c.claims s.below))
    behind (u ∷ us) is = subst (λ (l : List Unacked). Stops shape c.claims c.acked (l ++ new ∷ [])) (sym is) (subst (λ (l : List Unacked). Stops shape c.claims c.acked l) is s.stops)

  module _ (name : NodeName) (a : Answer) where
    submits_on : (l : List Taken) → On (submits volume c l)
    submits_on [] = s
    submits_on (w ∷ behind) = leaves_on (with_batch volume c (batch_asked w.request)) behind (with_batch_stops w)

    struck_on : (o : Open) (x : Strike) → On (read_struck c name a o x)
    struck_on o x =
        either_way (all_struck (struck name.replica x o).strikes) (read_ended c o (line.Fault o.question.event o.question.block (struck name.replica x o).strikes)) (ignored (Serves (record c { reads = struck_at a name.replica x c.reads }))) On
        (record { stops = s.stops; below = s.below }) (record { stops = s.stops; below = s.below })

    judged_on : (o : Open) (x : Verdict) → On (read_judged shape c name a o x)
    judged_on o Stale = s
    judged_on o Good = record { stops = s.stops; below = s.below }
    judged_on o (Struck x) = struck_on o x

    read_on : (x : Option Open) → On (read_answered shape c name a x)
    read_on None = s
    read_on (Some o) = judged_on o (worth shape c a)

    known_on : (l : List Open) → On (head_known volume c a l)
    known_on [] = submits_on c.line
    known_on (o ∷ left) = record { stops = s.stops; below = s.below }

    faulted_on : (l : Line) (rs : List Taken) → On (head_faulted shape c l rs)
    faulted_on l [] = s
    faulted_on l (w ∷ behind) = leaves_on c behind s

    head_on : (o : Open) (x : Verdict) → On (head_judged volume c name a o x)
    head_on o Stale = s
    head_on o Good = known_on (closed_at o.question.number c.asked)
    head_on o (Struck x) =
        let l : Line = line.Fault o.question.event o.question.block (struck name.replica x o).strikes in
        either_way (all_struck (struck name.replica x o).strikes) (head_faulted shape c l c.line) (ignored (Serves (record c { asked = struck_at a name.replica x c.asked }))) On
        (faulted_on l c.line) (record { stops = s.stops; below = s.below })

    head_answered_on : (x : Option Open) → On (head_answered volume c name a x)
    head_answered_on None = s
    head_answered_on (Some o) = head_on o (worth shape c a)

    answered_on : On (answered_here volume c name a)
    unfolding answered_here
    answered_on =
        either_way (not ((a.session == c.session) && is_fitting shape name a)) (ignored (Serves c))
        (if nat_lt a.read (2 ^ 32) then read_answered shape c name a (open_at a c.reads) else head_answered volume c name a (open_at a c.asked)) On s
        (either_way (nat_lt a.read (2 ^ 32)) (read_answered shape c name a (open_at a c.reads)) (head_answered volume c name a (open_at a c.asked)) On (read_on (open_at a c.reads)) (head_answered_on (open_at a c.asked)))

  message_on : (name : NodeName) (m : Message) → HearsWithin c.session c.last (Says name m) → On (told_serving volume c name m)
  message_on name (message.Committed m) within = committed_on name m.session m.front within
  message_on name (message.Answer m) within = answered_on name m
  message_on name (message.Part m) within = s
  message_on name (message.Prepared m) within = s
  message_on name (message.Ask m) within = s
  message_on name (message.Gather m) within = s
  message_on name (message.Gathered m) within = s
  message_on name (message.Stage m) within = s
  message_on name (message.Staged m) within = s
  message_on name (message.Switch m) within = s
  message_on name (message.Switched m) within = s
  message_on name (message.Dump m) within = s
  message_on name (message.Dumped m) within = s

  pub told_stops : (v : ℕ) (x : News) → HearsWithin c.session c.last x → NextStopped volume.geometry (told volume (Serves c) v x).client
  unfolding told requested received requested_here
  told_stops v (Asks q) within = decided_on v q (refusal_here shape c q)
  told_stops v (Says name m) within = message_on name m within
  told_stops v Crashes within = tt
  told_stops v Silence within = s

-- ---- any other client

away_stopped : (shape : Shape) (c : Client) → IsAway c → NextStopped shape c
away_stopped _ (Serves c) away = absurd away
away_stopped _ Closed away = tt
away_stopped _ (Gathers g) away = tt
away_stopped _ (Fetches f) away = tt
away_stopped _ (Stages b) away = tt
away_stopped _ (Switches b) away = tt

pub away_stops : (volume : Volume) (c : Client) → IsAway c → (v : ℕ) (x : News) → NextStopped volume.geometry (told volume c v x).client
away_stops volume c away v x =
    away_told volume (λ t. NextStopped volume.geometry t.client) (λ t off. away_stopped volume.geometry t.client off) c away (λ b is. record { stops = tt; below = tt }) v x
