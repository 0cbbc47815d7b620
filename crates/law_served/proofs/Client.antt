-- What a step of the client does to the sessions that it opens: which switches it has sent, who has answered them, and which
-- bases it stages.
use Rattle.std.proofs.Common.{◌≡◌, ◌∙◌, ◌⊎◌, inl, inr, ℕ, ◌+◌, ◌^◌, ◌<◌, ◌≤◌, ◌==◌, ◌&&◌, not, nat_lt, true, if◌then◌else◌, List, [], ◌∷◌, ◌++◌, Option, None, Some, refl, sym, ap, subst, arith, eqb-true}
use Rattle.std.specs.Prelude.{filter, flat_map}
use Rattle.std.specs.List.{AllByRecursion, list_all}
use Rattle.std.proofs.lemmas.Bool.{false≢true}
use Rattle.salus_types.specs.Volume.{Shape, regions}
use Rattle.salus_types.specs.declared.names.NodeName.{NodeName}
use Rattle.salus_types.specs.declared.records.Header.{Header}
use Rattle.salus_types.specs.declared.records.Record.{Record}
use Rattle.salus_message.specs.declared.carried.Stage.{Stage}
use Rattle.salus_message.specs.declared.replies.Answer.{Answer}
use Rattle.salus_message.specs.declared.wire.Message.{Message}
use Rattle.salus_message.specs.declared.wire.Message.TheVariants as message
use Rattle.schedule_text.specs.declared.schedule.Volume.{Volume}
use Rattle.printed_lines.specs.declared.line.Line.{Line}
use Rattle.printed_lines.specs.declared.line.Line.TheVariants as line
use Rattle.printed_lines.specs.declared.line.RequestRefusal.{RequestRefusal}
use Rattle.merkle_region.specs.Tree.{IsAmong}
use Rattle.salus_model.specs.declared.trace.Request.{Request}
use Rattle.salus_model.specs.declared.trace.Request.TheVariants as request
use Rattle.volume_model.specs.Contents.{all_regions, region_of, region_root, blocks_in}
use Rattle.volume_model.specs.Groups.{same_node, group_of, all_nodes}
use Rattle.volume_model.specs.Recovering.{choice_of, recovered}
use Rattle.salus_model.specs.Hearing.{News, Asks, Says, Crashes, Silence}
use Rattle.salus_model.specs.Waiting.{Taken, Question, questions}
use Rattle.salus_model.specs.Answering.{Verdict, Stale, Good, Struck, is_fitting, all_struck}
use Rattle.salus_model.specs.Opening.{is_fetched}
use Rattle.client_rules.specs.State.{Open, Unacked, Serving, Gathering, Fetching, Beginning, Letter, Client, Closed, Serves, Gathers, Fetches, Stages, Switches, Told, ignored, to_all}
use Rattle.client_rules.specs.Tables.{closed_at, struck, struck_at, worth, all_claimed, open_at, ask_of, asks}
use Rattle.client_rules.specs.Submitting.{batch_asked, next_parts, part_letters, with_batch}
use Rattle.client_rules.specs.Serving.{Acked, refusal_here, fetches, after_leaving, leaves, joined, accepted, decided, requested_here, read_ended, read_judged, read_answered, submits, head_known, head_faulted, head_judged, head_answered, answered_here, acks, acked_one, acked_lines, claimed, acked_told, committed_here, ticked_here}
use Rattle.client_rules.specs.Opening.{has_answered, not_answered, with_name, all_answered, new_serving, base_record, stage_letters, staged_from, restarted, with_reply_of, joined_blocks, chosen, gathered_all, gathered_here, fetched_blocks, dumped_here, staged_by, staged_here, switched_by, switched_here}
use Rattle.client_rules.specs.Rules.{requested_away, requested, received, told, told_serving, told_gathering, told_fetching, told_staging, told_switching, ticked}
use Rattle.law_lines.specs.Ready.{SessionFits}
use Rattle.law_lemmas.proofs.Named.{one-node}
use Rattle.list_lemmas.proofs.Each.{either_way, all_both, all_filter, all_flat, all_map, all_each, all_then, flat_of_all}
use Rattle.list_lemmas.proofs.Members.{all_among, among_range, any_among, any_from}
use Rattle.list_lemmas.proofs.Tests.{by_test, way_with, and_left, and_right}
use Rattle.merkle_region.proofs.Membership.{among_either}

-- ---- what a client sends

-- a base that is staged for a session: its record, with no blocks or with those with which the session starts
pub record IsStageOf (volume : Volume) (e seq : ℕ) (contents : List (List ℕ)) (m : Stage) : Type 0 where
  pub g : ℕ
  pub inside : g < regions volume.geometry
  pub rec : m.base.rec ≡ base_record volume e seq contents g
  pub blocks : (m.base.blocks ≡ []) ⊎ (m.base.blocks ≡ blocks_in volume.geometry contents g)

abbrev pub IsStageIn : Volume → ℕ → ℕ → List (List ℕ) → Message → Type 0
IsStageIn volume e seq contents (message.Stage m) = IsStageOf volume e seq contents m
IsStageIn volume e seq contents other = ⊥

-- a client that is left as that stages the base, or switches to the session
abbrev pub StagedBy : Volume → Client → Stage → Type 0
StagedBy volume (Stages b) m = IsStageOf volume b.session b.seq b.contents m
StagedBy volume Closed m = ⊥
StagedBy volume (Serves c) m = ⊥
StagedBy volume (Gathers g) m = ⊥
StagedBy volume (Fetches f) m = ⊥
StagedBy volume (Switches b) m = ⊥

abbrev pub SwitchedBy : Client → ℕ → Type 0
SwitchedBy (Switches b) e = e ≡ b.session
SwitchedBy Closed e = ⊥
SwitchedBy (Serves c) e = ⊥
SwitchedBy (Gathers g) e = ⊥
SwitchedBy (Fetches f) e = ⊥
SwitchedBy (Stages b) e = ⊥

abbrev pub IsSentBy : Volume → Client → Message → Type 0
IsSentBy volume c (message.Stage m) = StagedBy volume c m
IsSentBy volume c (message.Switch m) = SwitchedBy c m.session
IsSentBy volume c other = Unit {0}

abbrev pub AllSentBy : Volume → Client → List Letter → Type 0
AllSentBy volume c letters = AllByRecursion (λ l. IsSentBy volume c l.message) letters

-- the bases that it keeps to send them again
abbrev pub KeepsBases : Volume → Client → Type 0
KeepsBases volume (Stages b) = AllByRecursion (λ l. IsStageIn volume b.session b.seq b.contents l.message) b.bases
KeepsBases volume Closed = Unit {0}
KeepsBases volume (Serves c) = Unit {0}
KeepsBases volume (Gathers g) = Unit {0}
KeepsBases volume (Fetches f) = Unit {0}
KeepsBases volume (Switches b) = Unit {0}

-- ---- sessions

-- a switch to that session may have been sent; no session above top was asked for
abbrev pub MaySwitch : ℕ → Client → ℕ → Type 0
MaySwitch top Closed e = e ≤ top
MaySwitch top (Serves c) e = e ≤ c.session
MaySwitch top (Gathers g) e = e < g.session
MaySwitch top (Fetches f) e = e < f.session
MaySwitch top (Stages b) e = e < b.session
MaySwitch top (Switches b) e = e ≤ b.session

-- a node of that session has it, if the client serves it, or the node has answered that it switched to it
abbrev pub HasReached : NodeName → ℕ → Client → Type 0
HasReached name s (Serves c) = c.session ≤ s
HasReached name s (Switches b) = has_answered name b.answered ≡ true → b.session ≤ s
HasReached name s Closed = Unit {0}
HasReached name s (Gathers g) = Unit {0}
HasReached name s (Fetches f) = Unit {0}
HasReached name s (Stages b) = Unit {0}

abbrev pub IsWithin : ℕ → Client → Type 0
IsWithin top Closed = Unit {0}
IsWithin top (Serves c) = c.session ≤ top
IsWithin top (Gathers g) = g.session ≤ top
IsWithin top (Fetches f) = f.session ≤ top
IsWithin top (Stages b) = b.session ≤ top
IsWithin top (Switches b) = b.session ≤ top

abbrev pub NotServing : Client → Type 0
NotServing (Serves d) = ⊥
NotServing Closed = Unit {0}
NotServing (Gathers g) = Unit {0}
NotServing (Fetches f) = Unit {0}
NotServing (Stages b) = Unit {0}
NotServing (Switches b) = Unit {0}

-- it serves the session that began, with no batch more
abbrev pub BegunBy : Beginning → Client → Type 0
BegunBy b (Serves d) = (d.session ≡ b.session) × (d.last ≡ b.seq)
BegunBy b Closed = Unit {0}
BegunBy b (Gathers g) = Unit {0}
BegunBy b (Fetches f) = Unit {0}
BegunBy b (Stages d) = Unit {0}
BegunBy b (Switches d) = Unit {0}

-- a client that serves has served before, or it has switched
abbrev pub Opens : Client → Client → Type 0
Opens (Serves c) d = Unit {0}
Opens (Switches b) d = BegunBy b d
Opens Closed d = NotServing d
Opens (Gathers g) d = NotServing d
Opens (Fetches f) d = NotServing d
Opens (Stages b) d = NotServing d

-- the news is that node's word that it switched to that session
abbrev pub SaysSwitched : NodeName → ℕ → News → Type 0
SaysSwitched name e (Says from (message.Switched m)) = (from ≡ name) × (m.session ≡ e)
SaysSwitched name e other = ⊥

-- what the news tell of blocks that the client fetches
abbrev pub BringsFetched : Volume → Client → News → Type 0
BringsFetched volume (Fetches f) (Says from (message.Dumped d)) =
    is_fetched volume.geometry f.served f.region (region_root volume.geometry f.contents f.region) from d ≡ true → f.region < regions volume.geometry → d.blocks ≡ blocks_in volume.geometry f.contents f.region
BringsFetched volume c other = Unit {0}

-- no session that is asked for was asked before
abbrev pub AsksNew : ℕ → News → Type 0
AsksNew top (Asks r) = SessionFits (top + 1) r
AsksNew top other = Unit {0}

-- ---- a step

pub record Tells (volume : Volume) (name : NodeName) (top more : ℕ) (x : News) (c : Client) (t : Told) : Type 0 where
  pub low : (e : ℕ) → MaySwitch top c e → MaySwitch more t.client e
  pub reached : (s : ℕ) → HasReached name s c → ((e : ℕ) → SaysSwitched name e x → e ≤ s) → HasReached name s t.client
  pub sends : AllSentBy volume t.client t.outs
  pub keeps : KeepsBases volume t.client
  pub opens : Opens c t.client

-- a client that doesn't serve has opened nothing
unserved_begun : (b : Beginning) (d : Client) → NotServing d → BegunBy b d
unserved_begun b (Serves d) off = absurd off
unserved_begun b Closed off = tt
unserved_begun b (Gathers g) off = tt
unserved_begun b (Fetches f) off = tt
unserved_begun b (Stages d) off = tt
unserved_begun b (Switches d) off = tt

unserved_opens : (c d : Client) → NotServing d → Opens c d
unserved_opens (Serves c) d off = tt
unserved_opens (Switches b) d off = unserved_begun b d off
unserved_opens Closed d off = off
unserved_opens (Gathers g) d off = off
unserved_opens (Fetches f) d off = off
unserved_opens (Stages b) d off = off

same_opens : (c : Client) → Opens c c
same_opens (Serves c) = tt
same_opens (Switches b) = tt
same_opens Closed = tt
same_opens (Gathers g) = tt
same_opens (Fetches f) = tt
same_opens (Stages b) = tt

all_to : (volume : Volume) (c : Client) (names : List NodeName) (m : Message) → IsSentBy volume c m → AllSentBy volume c (to_all names m)
all_to volume c names m is = all_map (λ (l : Letter). IsSentBy volume c l.message) (λ name. record { to = name; message = m }) names (all_each (λ name. IsSentBy volume c m) names (λ name. is))

stage_sent : (volume : Volume) (b : Beginning) (m : Message) → IsStageIn volume b.session b.seq b.contents m → IsSentBy volume (Stages b) m
stage_sent volume b (message.Stage m) is = is
stage_sent volume b (message.Part m) is = absurd is
stage_sent volume b (message.Prepared m) is = absurd is
stage_sent volume b (message.Committed m) is = absurd is
stage_sent volume b (message.Ask m) is = absurd is
stage_sent volume b (message.Answer m) is = absurd is
stage_sent volume b (message.Gather m) is = absurd is
stage_sent volume b (message.Gathered m) is = absurd is
stage_sent volume b (message.Staged m) is = absurd is
stage_sent volume b (message.Switch m) is = absurd is
stage_sent volume b (message.Switched m) is = absurd is
stage_sent volume b (message.Dump m) is = absurd is
stage_sent volume b (message.Dumped m) is = absurd is

-- who has answered, with one more
answered_more : (name from : NodeName) (names : List NodeName) → has_answered name (with_name from names) ≡ true → (from ≡ name) ⊎ (has_answered name names ≡ true)
answered_more name from names =
    by_test (λ t. has_answered name (if t then names else names ++ from ∷ []) ≡ true → (from ≡ name) ⊎ (has_answered name names ≡ true)) (has_answered from names)
    (λ _ is. inr is)
    (λ _ is. by (any_among (λ n. same_node n name) (names ++ from ∷ []) is))
  where
    by : (n : NodeName) × IsAmong n (names ++ from ∷ []) × (same_node n name ≡ true) → (from ≡ name) ⊎ (has_answered name names ≡ true)
    by found = elim (among_either found.0 names (from ∷ []) found.1) [
      | inl old ↦ inr (any_from (λ n. same_node n name) found.0 names old found.2)
      | inr (inl same) ↦ inl (sym same ∙ one-node found.0 name found.2)
      | inr (inr nothing) ↦ absurd nothing
    ]

module _ (volume : Volume) (name : NodeName) (inside : IsAmong name (all_nodes volume.geometry)) (top more : ℕ) (up : top ≤ more) where
  abbrev shape : Shape
  shape = volume.geometry

  abbrev T : News → Client → Told → Type 0
  T x c t = Tells volume name top more x c t

  wider : (c : Client) (e : ℕ) → MaySwitch top c e → MaySwitch more c e
  wider Closed e low = omega (arith, low, up)
  wider (Serves c) e low = low
  wider (Gathers g) e low = low
  wider (Fetches f) e low = low
  wider (Stages b) e low = low
  wider (Switches b) e low = low

  still : (x : News) (c : Client) (lines : List Line) → KeepsBases volume c → T x c (record { client = c; outs = []; lines = lines })
  still x c lines keeps = record { low = wider c; reached = λ s has heard. has; sends = tt; keeps = keeps; opens = same_opens c }

  -- ---- a client that serves

  module _ (x : News) (c : Serving) where
    -- it goes on
    goes_on : (d : Serving) (outs : List Letter) (lines : List Line) → d.session ≡ c.session → AllSentBy volume (Serves d) outs → T x (Serves c) (record { client = Serves d; outs = outs; lines = lines })
    goes_on d outs lines same sends = record {
      low = λ e low. omega (arith, low, same);
      reached = λ s has heard. omega (arith, has, same);
      sends = sends;
      keeps = tt;
      opens = tt;
    }

    asks_sent : (d e : Serving) (qs : List Question) → AllSentBy volume (Serves d) (flat_map (λ q. asks shape e q) qs)
    asks_sent d e qs = all_flat (λ (l : Letter). IsSentBy volume (Serves d) l.message) (λ q. asks shape e q) qs (λ q. all_to volume (Serves d) (group_of shape (region_of shape q.block)) (ask_of shape e q) tt)

    parts_sent : (d : Serving) (parts : List Record) → AllSentBy volume (Serves d) (part_letters shape parts)
    parts_sent d parts =
        all_flat (λ (l : Letter). IsSentBy volume (Serves d) l.message) (λ (rec : Record). to_all (group_of shape rec.header.region) (message.Part (record { rec = rec }))) parts
        (λ rec. all_to volume (Serves d) (group_of shape rec.header.region) (message.Part (record { rec = rec })) tt)

    leaves_tell : (d : Serving) (requests : List Taken) → d.session ≡ c.session → T x (Serves c) (leaves shape d requests)
    unfolding leaves
    leaves_tell d requests same =
        goes_on (after_leaving shape d requests) (leaves shape d requests).outs (leaves shape d requests).lines same (asks_sent (after_leaving shape d requests) d (questions shape requests))

    joined_tell : (r : Taken) (rs : List Taken) → T x (Serves c) (joined shape c r rs)
    joined_tell r [] = leaves_tell c (r ∷ []) refl
    joined_tell r (head ∷ rs) = goes_on _ [] [] refl tt

    accepted_tell : c.session ≤ top → (v : ℕ) (r : Request) → SessionFits (top + 1) r → T x (Serves c) (accepted shape c v r)
    accepted_tell within v (request.Write batch) fits = joined_tell (record { event = v; request = request.Write batch }) c.line
    accepted_tell within v (request.Read b) fits = joined_tell (record { event = v; request = request.Read b }) c.line
    accepted_tell within v request.Barrier fits = joined_tell (record { event = v; request = request.Barrier }) c.line
    accepted_tell within v (request.Restart e) fits = goes_on c [] [] refl tt
    accepted_tell within v (request.Reassign e g) fits = record {
      low = λ f low. omega (arith, low, within, fits);
      reached = λ s has heard. tt;
      sends = all_to volume (fetches shape c e g).client (group_of shape g) (message.Dump (record { session = c.session; region = g })) tt;
      keeps = tt;
      opens = tt;
    }

    requested_tell : c.session ≤ top → (v : ℕ) (r : Request) → SessionFits (top + 1) r → T x (Serves c) (requested_here shape c v r)
    unfolding requested_here
    requested_tell within v r fits = by (refusal_here shape c r) where
      by : (o : Option RequestRefusal) → T x (Serves c) (decided shape c v r o)
      by (Some cause) = goes_on c [] _ refl tt
      by None = accepted_tell within v r fits

    acks_session : (us : List Unacked) (d : Serving) → (acks shape d us).client.session ≡ d.session
    unfolding acks
    acks_session [] d = refl
    acks_session (u ∷ us) d =
        let next : Serving = acked_one d us in
        either_way (all_claimed shape d.claims u.leader (d.acked + 1))
        (record { client = (acks shape next us).client; lines = acked_lines d ++ (acks shape next us).lines }) (record { client = d; lines = [] })
        (λ (a : Acked). a.client.session ≡ d.session) (acks_session us next) refl

    committed_tell : (from : NodeName) (session front : ℕ) → T x (Serves c) (committed_here shape c from session front)
    unfolding committed_here
    committed_tell from session front =
        either_way (session == c.session) (acked_told (acks shape (claimed c from front) c.unacked)) (ignored (Serves c)) (T x (Serves c))
        (goes_on _ [] _ (acks_session c.unacked (claimed c from front)) tt) (goes_on c [] [] refl tt)

    read_tell : (from : NodeName) (a : Answer) (o : Open) (verdict : Verdict) → T x (Serves c) (read_judged shape c from a o verdict)
    read_tell from a o Stale = goes_on c _ [] refl (all_to volume (Serves c) (from ∷ []) (ask_of shape c o.question) tt)
    read_tell from a o Good = goes_on _ [] _ refl tt
    read_tell from a o (Struck s) =
        either_way (all_struck (struck from.replica s o).strikes) (read_ended c o (line.Fault o.question.event o.question.block (struck from.replica s o).strikes))
        (ignored (Serves (record c { reads = struck_at a from.replica s c.reads }))) (T x (Serves c)) (goes_on _ [] _ refl tt) (goes_on _ [] [] refl tt)

    read_answered_tell : (from : NodeName) (a : Answer) (o : Option Open) → T x (Serves c) (read_answered shape c from a o)
    read_answered_tell from a None = goes_on c [] [] refl tt
    read_answered_tell from a (Some o) = read_tell from a o (worth shape c a)

    faulted_tell : (l : Line) (rs : List Taken) → T x (Serves c) (head_faulted shape c l rs)
    faulted_tell l [] = goes_on c [] [] refl tt
    faulted_tell l (w ∷ behind) = let rest = leaves_tell c behind refl in record { low = rest.low; reached = rest.reached; sends = rest.sends; keeps = rest.keeps; opens = tt }

    submits_tell : (rs : List Taken) → T x (Serves c) (submits volume c rs)
    unfolding leaves
    submits_tell [] = goes_on c [] [] refl tt
    submits_tell (w ∷ behind) =
        let next : Serving = with_batch volume c (batch_asked w.request) in
        let rest = leaves_tell next behind refl in
        record {
          low = rest.low;
          reached = rest.reached;
          sends = all_both (λ (l : Letter). IsSentBy volume (leaves shape next behind).client l.message) (part_letters shape (next_parts volume c (batch_asked w.request))) (leaves shape next behind).outs
              (parts_sent (after_leaving shape next behind) (next_parts volume c (batch_asked w.request))) rest.sends;
          keeps = rest.keeps;
          opens = tt;
        }

    known_tell : (a : Answer) (left : List Open) → T x (Serves c) (head_known volume c a left)
    known_tell a [] = submits_tell c.line
    known_tell a (o ∷ left) = goes_on _ [] [] refl tt

    head_tell : (from : NodeName) (a : Answer) (o : Open) (verdict : Verdict) → T x (Serves c) (head_judged volume c from a o verdict)
    head_tell from a o Stale = goes_on c _ [] refl (all_to volume (Serves c) (from ∷ []) (ask_of shape c o.question) tt)
    head_tell from a o Good = known_tell a (closed_at o.question.number c.asked)
    head_tell from a o (Struck s) =
        either_way (all_struck (struck from.replica s o).strikes) (head_faulted shape c (line.Fault o.question.event o.question.block (struck from.replica s o).strikes) c.line)
        (ignored (Serves (record c { asked = struck_at a from.replica s c.asked }))) (T x (Serves c))
        (faulted_tell (line.Fault o.question.event o.question.block (struck from.replica s o).strikes) c.line) (goes_on _ [] [] refl tt)

    head_answered_tell : (from : NodeName) (a : Answer) (o : Option Open) → T x (Serves c) (head_answered volume c from a o)
    head_answered_tell from a None = goes_on c [] [] refl tt
    head_answered_tell from a (Some o) = head_tell from a o (worth shape c a)

    answered_tell : (from : NodeName) (a : Answer) → T x (Serves c) (answered_here volume c from a)
    unfolding answered_here
    answered_tell from a =
        either_way (not ((a.session == c.session) && is_fitting shape from a)) (ignored (Serves c))
        (if nat_lt a.read (2 ^ 32) then read_answered shape c from a (open_at a c.reads) else head_answered volume c from a (open_at a c.asked)) (T x (Serves c))
        (goes_on c [] [] refl tt)
        (either_way (nat_lt a.read (2 ^ 32)) (read_answered shape c from a (open_at a c.reads)) (head_answered volume c from a (open_at a c.asked)) (T x (Serves c))
        (read_answered_tell from a (open_at a c.reads)) (head_answered_tell from a (open_at a c.asked)))

    serving_tell : (from : NodeName) (m : Message) → T x (Serves c) (told_serving volume c from m)
    serving_tell from (message.Committed m) = committed_tell from m.session m.front
    serving_tell from (message.Answer m) = answered_tell from m
    serving_tell from other = goes_on c [] [] refl tt

  -- ---- a session is staged

  module _ (x : News) (c : Client) where
    stages_in : (e seq : ℕ) (contents : List (List ℕ)) (carried : ℕ → List (List ℕ)) → ((g : ℕ) → g < regions shape → (carried g ≡ []) ⊎ (carried g ≡ blocks_in shape contents g))
        → AllByRecursion (λ (l : Letter). IsStageIn volume e seq contents l.message) (stage_letters volume e seq contents carried)
    stages_in e seq contents carried each =
        flat_of_all (λ (l : Letter). IsStageIn volume e seq contents l.message)
        (λ g. to_all (group_of shape g) (message.Stage (record { base = record { rec = base_record volume e seq contents g; blocks = carried g } }))) (all_regions shape)
        (all_among (λ g. AllByRecursion (λ (l : Letter). IsStageIn volume e seq contents l.message) (to_all (group_of shape g) (message.Stage (record { base = record { rec = base_record volume e seq contents g; blocks = carried g } })))) (all_regions shape)
        (λ g among.
        let range = among_range (regions shape) 0 g among in
        let high : g < 0 + regions shape = range.1 in
        let within : g < regions shape = omega (arith, high) in
        all_map (λ (l : Letter). IsStageIn volume e seq contents l.message)
        (λ to. record { to = to; message = message.Stage (record { base = record { rec = base_record volume e seq contents g; blocks = carried g } }) }) (group_of shape g)
        (all_each (λ to. IsStageOf volume e seq contents (record { base = record { rec = base_record volume e seq contents g; blocks = carried g } })) (group_of shape g)
        (λ to. record { g = g; inside = within; rec = refl; blocks = each g within }))))

    staged_from_tell : (e from seq : ℕ) (contents : List (List ℕ)) (carried : ℕ → List (List ℕ)) → ((g : ℕ) → g < regions shape → (carried g ≡ []) ⊎ (carried g ≡ blocks_in shape contents g))
        → ((f : ℕ) → MaySwitch top c f → f < e) → Opens c (staged_from volume e from seq contents carried).client → T x c (staged_from volume e from seq contents carried)
    staged_from_tell e from seq contents carried each below opens =
        let all = stages_in e seq contents carried each in
        record {
          low = below;
          reached = λ s has heard. tt;
          sends = all_then (λ (l : Letter). IsStageIn volume e seq contents l.message) (λ (l : Letter). IsSentBy volume (staged_from volume e from seq contents carried).client l.message)
              (λ l is. stage_sent volume (record { session = e; seq = seq; contents = contents; bases = stage_letters volume e seq contents carried; answered = [] }) l.message is) (stage_letters volume e seq contents carried) all;
          keeps = all;
          opens = opens;
        }

  -- ---- gathering

  module _ (x : News) (g : Gathering) (within : g.session ≤ top) where
    same_session : (from : NodeName) (held : _) → (with_reply_of volume from held g).session ≡ g.session
    same_session from held = either_way (has_answered from g.answered) g _ (λ (h : Gathering). h.session ≡ g.session) refl refl

    chosen_tell : (h : Gathering) → h.session ≡ g.session → (o : Option Header) → T x (Gathers g) (chosen volume h o)
    chosen_tell h same None = record { low = λ e low. omega (arith, low, within, up, same); reached = λ s has heard. tt; sends = tt; keeps = tt; opens = tt }
    chosen_tell h same (Some header) =
        staged_from_tell x (Gathers g) h.session header.session header.seq (joined_blocks (recovered shape h.pool header)) (λ r. blocks_in shape (joined_blocks (recovered shape h.pool header)) r)
        (λ r inside. inr refl) (λ f low. omega (arith, low, same)) tt

    gathers_on : (h : Gathering) → h.session ≡ g.session → T x (Gathers g) (ignored (Gathers h))
    gathers_on h same = record { low = λ e low. omega (arith, low, same); reached = λ s has heard. tt; sends = tt; keeps = tt; opens = tt }

    gathered_tell : (from : NodeName) (m : Message) → T x (Gathers g) (told_gathering volume g from m)
    unfolding gathered_here
    gathered_tell from (message.Gathered m) =
        let next : Gathering = with_reply_of volume from m.held g in
        either_way (m.session == g.session) (gathered_all volume next) (ignored (Gathers g)) (T x (Gathers g))
        (either_way (all_answered shape next.answered) (chosen volume next (choice_of shape next.pool)) (ignored (Gathers next)) (T x (Gathers g))
        (chosen_tell next (same_session from m.held) (choice_of shape next.pool)) (gathers_on next (same_session from m.held)))
        (gathers_on g refl)
    gathered_tell from other = gathers_on g refl

  -- ---- fetching

  fetched_tell : (f : Fetching) (from : NodeName) (m : Message) → BringsFetched volume (Fetches f) (Says from m) → T (Says from m) (Fetches f) (told_fetching volume f from m)
  unfolding dumped_here
  fetched_tell f from (message.Dumped d) brings =
      let x : News = Says from (message.Dumped d) in
      way_with (is_fetched shape f.served f.region (region_root shape f.contents f.region) from d) (staged_from volume f.session f.served f.last f.contents (fetched_blocks f.region d.blocks)) (ignored (Fetches f)) (T x (Fetches f))
      (λ hit. staged_from_tell x (Fetches f) f.session f.served f.last f.contents (fetched_blocks f.region d.blocks)
      (λ g inside. way_with (g == f.region) d.blocks [] (λ l. (l ≡ []) ⊎ (l ≡ blocks_in shape f.contents g))
      (λ same. inr (brings hit (subst (λ (r : ℕ). r < regions shape) (eqb-true g f.region same) inside) ∙ ap (λ r. blocks_in shape f.contents r) (sym (eqb-true g f.region same)))) (λ other. inl refl))
      (λ e low. low) tt)
      (λ miss. still x (Fetches f) [] tt)
  fetched_tell f from other brings = still _ (Fetches f) [] tt

  -- ---- staging and switching

  module _ (x : News) (b : Beginning) where
    staging_tell : KeepsBases volume (Stages b) → (from : NodeName) (m : Message) → T x (Stages b) (told_staging shape b from m)
    unfolding staged_here
    staging_tell keeps from (message.Staged m) =
        let next : Beginning = record b { answered = with_name from b.answered } in
        let switches : Told = record { client = Switches (record next { answered = [] }); outs = to_all (all_nodes shape) (message.Switch (record { session = next.session })); lines = [] } in
        either_way (m.session == b.session) (staged_by shape next) (ignored (Stages b)) (T x (Stages b))
        (either_way (all_answered shape next.answered) switches (ignored (Stages next)) (T x (Stages b))
        (record {
          low = λ e low. omega (arith, low);
          reached = λ s has heard none. absurd (false≢true none);
          sends = all_to volume (Switches (record next { answered = [] })) (all_nodes shape) (message.Switch (record { session = next.session })) refl;
          keeps = tt;
          opens = tt;
        })
        (record { low = λ e low. low; reached = λ s has heard. tt; sends = tt; keeps = keeps; opens = tt }))
        (still x (Stages b) [] keeps)
    staging_tell keeps from other = still x (Stages b) [] keeps

  -- whoever is of the volume has answered, once all have
  one_of_all : (names : List NodeName) → all_answered shape names ≡ true → has_answered name names ≡ true
  one_of_all names all = by (all_nodes shape) inside all where
    by : (nodes : List NodeName) → IsAmong name nodes → list_all (λ n. has_answered n names) nodes ≡ true → has_answered name names ≡ true
    by [] among is = absurd among
    by (n ∷ nodes) (inl same) is = subst (λ (k : NodeName). has_answered k names ≡ true) (sym same) (and_left (has_answered n names) (list_all (λ n. has_answered n names) nodes) is)
    by (n ∷ nodes) (inr later) is = by nodes later (and_right (has_answered n names) (list_all (λ n. has_answered n names) nodes) is)

  switching_tell : (b : Beginning) (from : NodeName) (m : Message) → T (Says from m) (Switches b) (told_switching shape b from m)
  unfolding switched_here
  switching_tell b from (message.Switched m) =
      let x : News = Says from (message.Switched m) in
      let next : Beginning = record b { answered = with_name from b.answered } in
      way_with (m.session == b.session) (switched_by shape next) (ignored (Switches b)) (T x (Switches b))
      (λ here.
      let reach : (s : ℕ) → HasReached name s (Switches b) → ((e : ℕ) → SaysSwitched name e x → e ≤ s) → HasReached name s (Switches next) =
      λ s has heard is. elim (answered_more name from b.answered is) [
        | inl mine ↦ heard b.session (mine, eqb-true m.session b.session here)
        | inr old ↦ has old
      ] in
      way_with (all_answered shape next.answered)
      (record { client = Serves (new_serving shape next.session next.seq next.contents); outs = []; lines = line.Open next.session ∷ [] }) (ignored (Switches next)) (T x (Switches b))
      (λ all. record { low = λ e low. low; reached = λ s has heard. reach s has heard (one_of_all next.answered all); sends = tt; keeps = tt; opens = (refl, refl) })
      (λ some. record { low = λ e low. low; reached = reach; sends = tt; keeps = tt; opens = tt }))
      (λ other. still x (Switches b) [] tt)
  switching_tell b from other = still _ (Switches b) [] tt

  -- ---- any news

  past_top : (c : Client) → IsWithin top c → (e : ℕ) → MaySwitch top c e → e ≤ top
  past_top Closed within e low = low
  past_top (Serves c) within e low = omega (arith, low, within)
  past_top (Gathers g) within e low = omega (arith, low, within)
  past_top (Fetches f) within e low = omega (arith, low, within)
  past_top (Stages b) within e low = omega (arith, low, within)
  past_top (Switches b) within e low = omega (arith, low, within)

  away_tell : (x : News) (c : Client) → IsWithin top c → KeepsBases volume c → (v : ℕ) (r : Request) → SessionFits (top + 1) r → T x c (requested_away shape c v r)
  unfolding restarted
  away_tell x c within keeps v (request.Restart e) fits = record {
    low = λ f low. (let past : f ≤ top = past_top c within f low in omega (arith, past, fits));
    reached = λ s has heard. tt;
    sends = all_to volume (restarted shape e).client (all_nodes shape) (message.Gather (record { session = e })) tt;
    keeps = tt;
    opens = unserved_opens c (restarted shape e).client tt;
  }
  away_tell x c within keeps v (request.Write batch) fits = still x c _ keeps
  away_tell x c within keeps v (request.Read b) fits = still x c _ keeps
  away_tell x c within keeps v request.Barrier fits = still x c _ keeps
  away_tell x c within keeps v (request.Reassign e g) fits = still x c _ keeps

  asked_tell : (x : News) (c : Client) → IsWithin top c → KeepsBases volume c → (v : ℕ) (r : Request) → SessionFits (top + 1) r → T x c (requested volume c v r)
  unfolding requested
  asked_tell x (Serves c) within keeps v r fits = requested_tell x c within v r fits
  asked_tell x Closed within keeps v r fits = away_tell x Closed within keeps v r fits
  asked_tell x (Gathers g) within keeps v r fits = away_tell x (Gathers g) within keeps v r fits
  asked_tell x (Fetches f) within keeps v r fits = away_tell x (Fetches f) within keeps v r fits
  asked_tell x (Stages b) within keeps v r fits = away_tell x (Stages b) within keeps v r fits
  asked_tell x (Switches b) within keeps v r fits = away_tell x (Switches b) within keeps v r fits

  received_tell : (c : Client) → IsWithin top c → KeepsBases volume c → (from : NodeName) (m : Message) → BringsFetched volume c (Says from m) → T (Says from m) c (received volume c from m)
  unfolding received
  received_tell (Serves c) within keeps from m brings = serving_tell (Says from m) c from m
  received_tell Closed within keeps from m brings = still (Says from m) Closed [] tt
  received_tell (Gathers g) within keeps from m brings = gathered_tell (Says from m) g within from m
  received_tell (Fetches f) within keeps from m brings = fetched_tell f from m brings
  received_tell (Stages b) within keeps from m brings = staging_tell (Says from m) b keeps from m
  received_tell (Switches b) within keeps from m brings = switching_tell b from m

  -- So a step does.
  pub told_tells : (c : Client) → IsWithin top c → KeepsBases volume c → (v : ℕ) (x : News) → AsksNew top x → BringsFetched volume c x → T x c (told volume c v x)
  unfolding told
  told_tells c within keeps v (Asks r) new brings = asked_tell (Asks r) c within keeps v r new
  told_tells c within keeps v (Says from m) new brings = received_tell c within keeps from m brings
  told_tells c within keeps v Crashes new brings = record { low = λ e low. (let past : e ≤ top = past_top c within e low in omega (arith, past, up)); reached = λ s has heard. tt; sends = tt; keeps = tt; opens = unserved_opens c Closed tt }
  told_tells c within keeps v Silence new brings = still Silence c [] keeps

-- ---- a tick

pub ticked_sent : (volume : Volume) (c : Client) → KeepsBases volume c → AllSentBy volume c (ticked volume.geometry c)
unfolding ticked ticked_here
ticked_sent volume (Serves c) keeps =
    let shape : Shape = volume.geometry in
    let P : Letter → Type 0 = λ l. IsSentBy volume (Serves c) l.message in
    let open_asks : (os : List Open) → AllByRecursion P (flat_map (λ (o : Open). asks shape c o.question) os) =
    λ os. all_flat P (λ (o : Open). asks shape c o.question) os (λ o. all_to volume (Serves c) (group_of shape (region_of shape o.question.block)) (ask_of shape c o.question) tt) in
    let parts : List Record = flat_map (λ (u : Unacked). u.parts) c.unacked in
    all_both P _ (flat_map (λ (o : Open). asks shape c o.question) c.reads)
    (all_both P (part_letters shape parts) (flat_map (λ (o : Open). asks shape c o.question) c.asked)
    (all_flat P (λ (rec : Record). to_all (group_of shape rec.header.region) (message.Part (record { rec = rec }))) parts
    (λ rec. all_to volume (Serves c) (group_of shape rec.header.region) (message.Part (record { rec = rec })) tt)) (open_asks c.asked))
    (open_asks c.reads)
ticked_sent volume Closed keeps = tt
ticked_sent volume (Gathers g) keeps = all_to volume (Gathers g) (not_answered volume.geometry g.answered) (message.Gather (record { session = g.session })) tt
ticked_sent volume (Fetches f) keeps = all_to volume (Fetches f) (group_of volume.geometry f.region) (message.Dump (record { session = f.served; region = f.region })) tt
ticked_sent volume (Stages b) keeps =
    all_then (λ (l : Letter). IsStageIn volume b.session b.seq b.contents l.message) (λ (l : Letter). IsSentBy volume (Stages b) l.message) (λ l is. stage_sent volume b l.message is)
    (filter (λ (l : Letter). not (has_answered l.to b.answered)) b.bases)
    (all_filter (λ (l : Letter). IsStageIn volume b.session b.seq b.contents l.message) (λ (l : Letter). not (has_answered l.to b.answered)) b.bases keeps)
ticked_sent volume (Switches b) keeps = all_to volume (Switches b) (not_answered volume.geometry b.answered) (message.Switch (record { session = b.session })) refl
