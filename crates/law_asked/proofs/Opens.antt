-- A step of a client that doesn't serve: it asks nothing, and where it begins to serve no read is open and the waiting line is empty.
-- And sessions rise: each client that is after it is at a session at least as high.
use Rattle.std.proofs.Common.{◌≡◌, ℕ, ◌+◌, ◌≤◌, ◌==◌, not, List, [], ◌∷◌, Option, None, Some, refl, sym, subst, arith, le_trans, ◌<◌}
use Rattle.std.specs.Prelude.{filter}
use Rattle.std.specs.List.{AllByRecursion}
use Rattle.salus_types.specs.Volume.{Shape, regions}
use Rattle.salus_types.specs.declared.names.NodeName.{NodeName}
use Rattle.salus_types.specs.declared.records.Header.{Header}
use Rattle.salus_message.specs.declared.wire.Message.{Message}
use Rattle.salus_message.specs.declared.wire.Message.TheVariants as message
use Rattle.schedule_text.specs.declared.schedule.Volume.{Volume}
use Rattle.schedule_text.specs.declared.schedule.Event.{Event}
use Rattle.printed_lines.specs.declared.line.Line.{Line}
use Rattle.printed_lines.specs.declared.line.Line.TheVariants as line
use Rattle.salus_model.specs.declared.trace.Request.{Request}
use Rattle.salus_model.specs.declared.trace.Request.TheVariants as request
use Rattle.volume_model.specs.Contents.{all_regions, region_root, blocks_in}
use Rattle.volume_model.specs.Groups.{group_of, all_nodes}
use Rattle.volume_model.specs.Recovering.{recovered, choice_of}
use Rattle.salus_model.specs.Hearing.{News, Asks, Says, Crashes, Silence}
use Rattle.salus_model.specs.Opening.{is_fetched}
use Rattle.client_rules.specs.State.{Gathering, Fetching, Beginning, Letter, Client, Closed, Serves, Gathers, Fetches, Stages, Switches, Told, ignored, to_all}
use Rattle.client_rules.specs.Opening.{has_answered, not_answered, with_name, all_answered, new_serving, base_record, stage_letters, staged_from, restarted, with_reply_of, joined_blocks, chosen, gathered_all, gathered_here, fetched_blocks, dumped_here, staged_by, staged_here, switched_by, switched_here}
use Rattle.client_rules.specs.Rules.{requested_away, requested, told_gathering, told_fetching, told_staging, told_switching, received, told, ticked}
use Rattle.list_lemmas.proofs.Each.{either_way, all_map, all_each, all_flat, all_filter, all_then}
use Rattle.law_lines.specs.Ready.{AsksFit, session_after}
use Rattle.law_reads.proofs.Away.{IsAway}
use Rattle.law_asked.proofs.Serves.{IsSentBy, AllSentBy, OwnParts, all_to_by, ticks_on}

-- each ask that was sent is of a session below that; m bounds the sessions that were asked for
abbrev pub bound : ℕ → Client → ℕ
bound m (Serves c) = c.session + 1
bound m Closed = m
bound m (Gathers g) = g.session
bound m (Fetches f) = f.session
bound m (Stages b) = b.session
bound m (Switches b) = b.session

-- what a client keeps to send it again: parts of its session, bases, or the question for a region of the volume
abbrev pub IsStage : Message → Type 0
IsStage (message.Stage m) = Unit {0}
IsStage other = ⊥

abbrev pub KeepsOwn : Shape → Client → Type 0
KeepsOwn shape (Serves c) = OwnParts c.session c.unacked
KeepsOwn shape (Stages b) = AllByRecursion (λ l. IsStage l.message) b.bases
KeepsOwn shape (Fetches f) = f.region < regions shape
KeepsOwn shape other = Unit {0}

-- of a session, and of what a client is after a step that was away before
abbrev pub IsLater : (low m : ℕ) → Client → Type 0
IsLater low m (Serves d) = (low ≤ d.session) × (d.reads ≡ []) × (d.line ≡ [])
IsLater low m other = low ≤ bound m other

pub record Opens (shape : Shape) (low m : ℕ) (t : Told) : Type 0 where
  pub later : IsLater low m t.client
  pub asks : AllSentBy shape t.client t.outs
  pub keeps : KeepsOwn shape t.client

stage_by : (shape : Shape) (c : Client) (m : Message) → IsStage m → IsSentBy shape c m
stage_by shape c (message.Ask a) is = absurd is
stage_by shape c (message.Part m) is = absurd is
stage_by shape c other is = tt

stages_by : (shape : Shape) (c : Client) (letters : List Letter) → AllByRecursion (λ l. IsStage l.message) letters → AllSentBy shape c letters
stages_by shape c letters all = all_then (λ (l : Letter). IsStage l.message) (λ l. IsSentBy shape c l.message) (λ l is. stage_by shape c l.message is) letters all

module _ (volume : Volume) where
  abbrev shape : Shape
  shape = volume.geometry

  staged_letters : (e seq : ℕ) (contents : List (List ℕ)) (carried : ℕ → List (List ℕ)) → AllByRecursion (λ l. IsStage l.message) (stage_letters volume e seq contents carried)
  staged_letters e seq contents carried =
      all_flat (λ (l : Letter). IsStage l.message)
      (λ g. to_all (group_of shape g) (message.Stage (record { base = record { rec = base_record volume e seq contents g; blocks = carried g } }))) (all_regions shape)
      (λ g. all_map (λ (l : Letter). IsStage l.message) (λ name. record { to = name; message = message.Stage (record { base = record { rec = base_record volume e seq contents g; blocks = carried g } }) }) (group_of shape g)
      (all_each (λ name. Unit {0}) (group_of shape g) (λ name. tt)))

  module _ (low m : ℕ) where
    abbrev On : Told → Type 0
    On t = Opens shape low m t

    staged_on : (e from seq : ℕ) (contents : List (List ℕ)) (carried : ℕ → List (List ℕ)) → low ≤ e → On (staged_from volume e from seq contents carried)
    staged_on e from seq contents carried up = record {
      later = up;
      asks = stages_by shape (staged_from volume e from seq contents carried).client (stage_letters volume e seq contents carried) (staged_letters e seq contents carried);
      keeps = staged_letters e seq contents carried;
    }

    chosen_on : (g : Gathering) → low ≤ g.session → low ≤ m → (o : Option Header) → On (chosen volume g o)
    chosen_on g up under None = record { later = under; asks = tt; keeps = tt }
    chosen_on g up under (Some h) = staged_on g.session h.session h.seq (joined_blocks (recovered shape g.pool h)) (λ r. blocks_in shape (joined_blocks (recovered shape g.pool h)) r) up

    same_session : (name : NodeName) (g : Gathering) (held : _) → (with_reply_of volume name held g).session ≡ g.session
    same_session name g held = either_way (has_answered name g.answered) g _ (λ (x : Gathering). x.session ≡ g.session) refl refl

    gathering_on : (g : Gathering) → low ≤ g.session → low ≤ m → (name : NodeName) (x : Message) → On (told_gathering volume g name x)
    unfolding gathered_here
    gathering_on g up under name (message.Gathered x) =
        let next : Gathering = with_reply_of volume name x.held g in
        let still : low ≤ next.session = subst (λ (e : ℕ). low ≤ e) (sym (same_session name g x.held)) up in
        either_way (x.session == g.session) (gathered_all volume next) (ignored (Gathers g)) On
        (either_way (all_answered shape next.answered) (chosen volume next (choice_of shape next.pool)) (ignored (Gathers next)) On
        (chosen_on next still under (choice_of shape next.pool)) (record { later = still; asks = tt; keeps = tt }))
        (record { later = up; asks = tt; keeps = tt })
    gathering_on g up under name other = record { later = up; asks = tt; keeps = tt }

    fetching_on : (f : Fetching) → low ≤ f.session → f.region < regions shape → (name : NodeName) (x : Message) → On (told_fetching volume f name x)
    unfolding dumped_here
    fetching_on f up kept name (message.Dumped x) =
        either_way (is_fetched shape f.served f.region (region_root shape f.contents f.region) name x) (staged_from volume f.session f.served f.last f.contents (fetched_blocks f.region x.blocks)) (ignored (Fetches f)) On
        (staged_on f.session f.served f.last f.contents (fetched_blocks f.region x.blocks) up) (record { later = up; asks = tt; keeps = kept })
    fetching_on f up kept name other = record { later = up; asks = tt; keeps = kept }

    staging_on : (b : Beginning) → low ≤ b.session → KeepsOwn shape (Stages b) → (name : NodeName) (x : Message) → On (told_staging shape b name x)
    unfolding staged_here
    staging_on b up kept name (message.Staged x) =
        let next : Beginning = record b { answered = with_name name b.answered } in
        either_way (x.session == b.session) (staged_by shape next) (ignored (Stages b)) On
        (either_way (all_answered shape next.answered)
        (record { client = Switches (record next { answered = [] }); outs = to_all (all_nodes shape) (message.Switch (record { session = next.session })); lines = [] }) (ignored (Stages next)) On
        (record { later = up; asks = all_to_by shape (Switches (record next { answered = [] })) (all_nodes shape) (message.Switch (record { session = next.session })) tt; keeps = tt })
        (record { later = up; asks = tt; keeps = kept }))
        (record { later = up; asks = tt; keeps = kept })
    staging_on b up kept name other = record { later = up; asks = tt; keeps = kept }

    switching_on : (b : Beginning) → low ≤ b.session → (name : NodeName) (x : Message) → On (told_switching shape b name x)
    unfolding switched_here
    switching_on b up name (message.Switched x) =
        let next : Beginning = record b { answered = with_name name b.answered } in
        either_way (x.session == b.session) (switched_by shape next) (ignored (Switches b)) On
        (either_way (all_answered shape next.answered)
        (record { client = Serves (new_serving shape next.session next.seq next.contents); outs = []; lines = line.Open next.session ∷ [] }) (ignored (Switches next)) On
        (record { later = (up, refl, refl); asks = tt; keeps = tt }) (record { later = up; asks = tt; keeps = tt }))
        (record { later = up; asks = tt; keeps = tt })
    switching_on b up name other = record { later = up; asks = tt; keeps = tt }

    -- a message, or nothing
    received_on : (c : Client) → IsAway c → low ≤ bound m c → low ≤ m → KeepsOwn shape c → (name : NodeName) (x : Message) → On (received volume c name x)
    unfolding received
    received_on Closed away up under kept name x = record { later = up; asks = tt; keeps = tt }
    received_on (Gathers g) away up under kept name x = gathering_on g up under name x
    received_on (Fetches f) away up under kept name x = fetching_on f up kept name x
    received_on (Stages b) away up under kept name x = staging_on b up kept name x
    received_on (Switches b) away up under kept name x = switching_on b up name x
    received_on (Serves c) away up under kept name x = absurd away

    same_on : (c : Client) → IsAway c → low ≤ bound m c → KeepsOwn shape c → (lines : List Line) → On (record { client = c; outs = []; lines = lines })
    same_on Closed away up kept lines = record { later = up; asks = tt; keeps = tt }
    same_on (Gathers g) away up kept lines = record { later = up; asks = tt; keeps = tt }
    same_on (Fetches f) away up kept lines = record { later = up; asks = tt; keeps = kept }
    same_on (Stages b) away up kept lines = record { later = up; asks = tt; keeps = kept }
    same_on (Switches b) away up kept lines = record { later = up; asks = tt; keeps = tt }
    same_on (Serves c) away up kept lines = absurd away

  -- ---- a request

  restarted_on : (low m e : ℕ) → low ≤ e → Opens shape low m (restarted shape e)
  unfolding restarted
  restarted_on low m e up = record { later = up; asks = all_to_by shape (restarted shape e).client (all_nodes shape) (message.Gather (record { session = e })) tt; keeps = tt }

  bound_up : (low m more : ℕ) (c : Client) → m ≤ more → low ≤ bound m c → low ≤ bound more c
  bound_up low m more (Serves c) up under = under
  bound_up low m more Closed up under = le_trans under up
  bound_up low m more (Gathers g) up under = under
  bound_up low m more (Fetches f) up under = under
  bound_up low m more (Stages b) up under = under
  bound_up low m more (Switches b) up under = under

  module _ (events : List Event) (n m v low : ℕ) (c : Client) (away : IsAway c) (up : low ≤ bound m c) (under : low ≤ m) (kept : KeepsOwn shape c) where
    away_on : (r : Request) → AsksFit events n m v (Asks r) → Opens shape low (session_after m (Asks r)) (requested_away shape c v r)
    away_on (request.Restart e) fits = restarted_on low (e + 1) e (le_trans under fits.2)
    away_on (request.Write batch) fits = same_on low m c away up kept _
    away_on (request.Read b) fits = same_on low m c away up kept _
    away_on request.Barrier fits = same_on low m c away up kept _
    away_on (request.Reassign e g) fits = let first : m ≤ e = fits.2 in same_on low (e + 1) c away (bound_up low m (e + 1) c (omega (arith, first)) up) kept _

  asked_on : (events : List Event) (n m v low : ℕ) (c : Client) → IsAway c → low ≤ bound m c → low ≤ m → KeepsOwn shape c → (r : Request) → AsksFit events n m v (Asks r)
      → Opens shape low (session_after m (Asks r)) (requested volume c v r)
  unfolding requested
  asked_on events n m v low (Serves c) away up under kept r fits = absurd away
  asked_on events n m v low Closed away up under kept r fits = away_on events n m v low Closed away up under kept r fits
  asked_on events n m v low (Gathers g) away up under kept r fits = away_on events n m v low (Gathers g) away up under kept r fits
  asked_on events n m v low (Fetches f) away up under kept r fits = away_on events n m v low (Fetches f) away up under kept r fits
  asked_on events n m v low (Stages b) away up under kept r fits = away_on events n m v low (Stages b) away up under kept r fits
  asked_on events n m v low (Switches b) away up under kept r fits = away_on events n m v low (Switches b) away up under kept r fits

  -- Any step but a tick.
  pub opens_on : (events : List Event) (n m v low : ℕ) (c : Client) → IsAway c → low ≤ bound m c → low ≤ m → KeepsOwn shape c → (x : News) → AsksFit events n m v x
      → Opens shape low (session_after m x) (told volume c v x)
  unfolding told
  opens_on events n m v low c away up under kept (Asks r) fits = asked_on events n m v low c away up under kept r fits
  opens_on events n m v low c away up under kept (Says name x) fits = received_on low m c away up under kept name x
  opens_on events n m v low c away up under kept Crashes fits = record { later = under; asks = tt; keeps = tt }
  opens_on events n m v low c away up under kept Silence fits = same_on low m c away up kept []

  -- A tick.
  pub ticked_on : (c : Client) → KeepsOwn shape c → AllSentBy shape c (ticked shape c)
  unfolding ticked
  ticked_on (Serves c) kept = ticks_on volume c kept
  ticked_on Closed kept = tt
  ticked_on (Gathers g) kept = all_to_by shape (Gathers g) (not_answered shape g.answered) (message.Gather (record { session = g.session })) tt
  ticked_on (Fetches f) kept = all_to_by shape (Fetches f) (group_of shape f.region) (message.Dump (record { session = f.served; region = f.region })) tt
  ticked_on (Stages b) kept =
      stages_by shape (Stages b) (filter (λ (l : Letter). not (has_answered l.to b.answered)) b.bases) (all_filter (λ (l : Letter). IsStage l.message) (λ l. not (has_answered l.to b.answered)) b.bases kept)
  ticked_on (Switches b) kept = all_to_by shape (Switches b) (not_answered shape b.answered) (message.Switch (record { session = b.session })) tt
