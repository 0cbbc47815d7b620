-- Where no question of the head is asked, the head has none: it is submitted with its last answer.
use Rattle.std.proofs.Common.{◌≡◌, ◌∙◌, ℕ, ◌+◌, ◌^◌, ◌==◌, ◌&&◌, not, nat_lt, if◌then◌else◌, List, [], ◌∷◌, ◌++◌, map, Option, None, Some, refl, sym, ap}
use Rattle.salus_types.specs.Volume.{Shape}
use Rattle.salus_types.specs.declared.names.NodeName.{NodeName}
use Rattle.salus_types.specs.declared.strike.Strike.{Strike}
use Rattle.salus_message.specs.declared.replies.Answer.{Answer}
use Rattle.salus_message.specs.declared.wire.Message.{Message}
use Rattle.salus_message.specs.declared.wire.Message.TheVariants as message
use Rattle.schedule_text.specs.declared.schedule.Volume.{Volume}
use Rattle.printed_lines.specs.declared.line.Line.{Line}
use Rattle.printed_lines.specs.declared.line.Line.TheVariants as line
use Rattle.printed_lines.specs.declared.line.RequestRefusal.{RequestRefusal}
use Rattle.salus_model.specs.declared.trace.Request.{Request}
use Rattle.salus_model.specs.declared.trace.Request.TheVariants as request
use Rattle.salus_model.specs.Hearing.{News, Asks, Says, Crashes, Silence}
use Rattle.salus_model.specs.Waiting.{Taken}
use Rattle.salus_model.specs.Answering.{Verdict, Stale, Good, Struck, is_fitting, all_struck}
use Rattle.client_rules.specs.State.{Open, Unacked, Serving, Client, Closed, Serves, Gathers, Fetches, Stages, Switches, Told, ignored}
use Rattle.client_rules.specs.Tables.{fresh, line_of, head_questions, open_at, closed_at, struck, struck_at, worth, answers, all_claimed}
use Rattle.client_rules.specs.Submitting.{batch_asked, with_batch}
use Rattle.client_rules.specs.Serving.{leaves, refusal_here, joined, decided, requested_here, read_ended, read_struck, read_judged, read_answered, head_faulted, submits, head_known, head_judged, head_answered, answered_here, Acked, acked_one, acked_lines, acks, claimed, acked_told, committed_here}
use Rattle.client_rules.specs.Rules.{requested, told_serving, received, told}
use Rattle.list_lemmas.proofs.Each.{either_way}
use Rattle.law_complete.proofs.Asks.{HasNothing, begins_nothing}

-- so of a client
abbrev pub IsWaited : Shape → Client → Type 0
IsWaited shape (Serves d) = d.asked ≡ [] → head_questions shape d.line ≡ []
IsWaited shape Closed = Unit {0}
IsWaited shape (Gathers g) = Unit {0}
IsWaited shape (Fetches f) = Unit {0}
IsWaited shape (Stages b) = Unit {0}
IsWaited shape (Switches b) = Unit {0}

none_mapped : {A B : Type 0} (f : A → B) (xs : List A) → map f xs ≡ [] → xs ≡ []
none_mapped f [] is = refl
none_mapped f (x ∷ xs) is = absurd (cc)

module _ (volume : Volume) (c : Serving) (s : IsWaited volume.geometry (Serves c)) where
  abbrev shape : Shape
  shape = volume.geometry

  abbrev On : Told → Type 0
  On t = IsWaited volume.geometry t.client

  leaves_on : (d : Serving) (requests : List Taken) → On (leaves shape d requests)
  unfolding leaves
  leaves_on d requests none = none_mapped (fresh shape) (head_questions shape (line_of requests)) none

  -- ---- a request

  joined_on : (r : Taken) (l : List Taken) → c.line ≡ l → On (joined shape c r l)
  joined_on r [] is = leaves_on c (r ∷ [])
  joined_on r (head ∷ l) is = λ none. ap (head_questions shape) (sym is) ∙ s none

  decided_on : (v : ℕ) (q : Request) (x : Option RequestRefusal) → On (decided shape c v q x)
  decided_on v q (Some cause) = s
  decided_on v (request.Write batch) None = joined_on _ c.line refl
  decided_on v (request.Read b) None = joined_on _ c.line refl
  decided_on v request.Barrier None = joined_on _ c.line refl
  decided_on v (request.Restart e) None = s
  decided_on v (request.Reassign e g) None = tt

  -- ---- a claim

  record Same (d : Serving) (t : Acked) : Type 0 where
    asked : t.client.asked ≡ d.asked
    line : t.client.line ≡ d.line

  acks_same : (d : Serving) (us : List Unacked) → Same d (acks shape d us)
  unfolding acks
  acks_same d [] = record { asked = refl; line = refl }
  acks_same d (u ∷ us) =
      let rest = acks_same (acked_one d us) us in
      either_way (all_claimed shape d.claims u.leader (d.acked + 1))
      (record { client = (acks shape (acked_one d us) us).client; lines = acked_lines d ++ (acks shape (acked_one d us) us).lines }) (record { client = d; lines = [] }) (λ (t : Acked). Same d t)
      (record { asked = rest.asked; line = rest.line }) (record { asked = refl; line = refl })

  committed_on : (name : NodeName) (session front : ℕ) → On (committed_here shape c name session front)
  unfolding committed_here
  committed_on name session front =
      let same = acks_same (claimed c name front) c.unacked in
      either_way (session == c.session) (acked_told (acks shape (claimed c name front) c.unacked)) (ignored (Serves c)) On
      (λ none. ap (head_questions shape) same.line ∙ s (sym same.asked ∙ none)) s

  -- ---- an answer

  module _ (name : NodeName) (a : Answer) where
    submits_on : (l : List Taken) → On (submits volume c l)
    submits_on [] = s
    submits_on (w ∷ behind) = leaves_on (with_batch volume c (batch_asked w.request)) behind

    struck_on : (o : Open) (x : Strike) → On (read_struck c name a o x)
    struck_on o x =
        either_way (all_struck (struck name.replica x o).strikes) (read_ended c o (line.Fault o.question.event o.question.block (struck name.replica x o).strikes)) (ignored (Serves (record c { reads = struck_at a name.replica x c.reads }))) On
        s s

    judged_on : (o : Open) (x : Verdict) → On (read_judged shape c name a o x)
    judged_on o Stale = s
    judged_on o Good = s
    judged_on o (Struck x) = struck_on o x

    read_on : (x : Option Open) → On (read_answered shape c name a x)
    read_on None = s
    read_on (Some o) = judged_on o (worth shape c a)

    known_on : (l : List Open) → On (head_known volume c a l)
    known_on [] = submits_on c.line
    known_on (o ∷ left) = λ none. absurd (cc)

    faulted_on : (l : Line) (rs : List Taken) → On (head_faulted shape c l rs)
    faulted_on l [] = s
    faulted_on l (w ∷ behind) = leaves_on c behind

    head_on : (o : Open) (x : Verdict) → On (head_judged volume c name a o x)
    head_on o Stale = s
    head_on o Good = known_on (closed_at o.question.number c.asked)
    head_on o (Struck x) =
        let l : Line = line.Fault o.question.event o.question.block (struck name.replica x o).strikes in
        either_way (all_struck (struck name.replica x o).strikes) (head_faulted shape c l c.line) (ignored (Serves (record c { asked = struck_at a name.replica x c.asked }))) On
        (faulted_on l c.line) (λ none. s (none_mapped (λ (y : Open). if answers a y then struck name.replica x y else y) c.asked none))

    head_answered_on : (x : Option Open) → On (head_answered volume c name a x)
    head_answered_on None = s
    head_answered_on (Some o) = head_on o (worth shape c a)

    answered_on : On (answered_here volume c name a)
    unfolding answered_here
    answered_on =
        either_way (not ((a.session == c.session) && is_fitting shape name a)) (ignored (Serves c))
        (if nat_lt a.read (2 ^ 32) then read_answered shape c name a (open_at a c.reads) else head_answered volume c name a (open_at a c.asked)) On s
        (either_way (nat_lt a.read (2 ^ 32)) (read_answered shape c name a (open_at a c.reads)) (head_answered volume c name a (open_at a c.asked)) On (read_on (open_at a c.reads)) (head_answered_on (open_at a c.asked)))

  message_on : (name : NodeName) (m : Message) → On (told_serving volume c name m)
  message_on name (message.Committed m) = committed_on name m.session m.front
  message_on name (message.Answer m) = answered_on name m
  message_on name (message.Part m) = s
  message_on name (message.Prepared m) = s
  message_on name (message.Ask m) = s
  message_on name (message.Gather m) = s
  message_on name (message.Gathered m) = s
  message_on name (message.Stage m) = s
  message_on name (message.Staged m) = s
  message_on name (message.Switch m) = s
  message_on name (message.Switched m) = s
  message_on name (message.Dump m) = s
  message_on name (message.Dumped m) = s

  serving_waited : (v : ℕ) (x : News) → On (told volume (Serves c) v x)
  unfolding told requested received requested_here
  serving_waited v (Asks q) = decided_on v q (refusal_here shape c q)
  serving_waited v (Says name m) = message_on name m
  serving_waited v Crashes = tt
  serving_waited v Silence = s

-- ---- any client

nothing_waited : (space : Shape) (c : Client) → HasNothing c → IsWaited space c
nothing_waited space (Serves d) nothing = λ none. ap (head_questions space) nothing.0
nothing_waited space Closed nothing = tt
nothing_waited space (Gathers g) nothing = tt
nothing_waited space (Fetches f) nothing = tt
nothing_waited space (Stages b) nothing = tt
nothing_waited space (Switches b) nothing = tt

-- So after each step.
pub told_waited : (volume : Volume) (c : Client) (v : ℕ) (x : News) → IsWaited volume.geometry c → IsWaited volume.geometry (told volume c v x).client
told_waited volume (Serves c) v x was = serving_waited volume c was v x
told_waited volume Closed v x was = nothing_waited volume.geometry (told volume Closed v x).client (begins_nothing volume Closed tt v x)
told_waited volume (Gathers g) v x was = nothing_waited volume.geometry (told volume (Gathers g) v x).client (begins_nothing volume (Gathers g) tt v x)
told_waited volume (Fetches f) v x was = nothing_waited volume.geometry (told volume (Fetches f) v x).client (begins_nothing volume (Fetches f) tt v x)
told_waited volume (Stages b) v x was = nothing_waited volume.geometry (told volume (Stages b) v x).client (begins_nothing volume (Stages b) tt v x)
told_waited volume (Switches b) v x was = nothing_waited volume.geometry (told volume (Switches b) v x).client (begins_nothing volume (Switches b) tt v x)
