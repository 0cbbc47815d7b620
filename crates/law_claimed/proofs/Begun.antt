-- A client that doesn't serve begins to serve without a batch.
use Rattle.std.proofs.Common.{◌≡◌, ℕ, ◌≤◌, ◌==◌, List, [], ◌∷◌, Option, None, Some, refl, sym, ◌∙◌, ap, subst}
use Rattle.std.specs.List.{AllByRecursion}
use Rattle.salus_types.specs.declared.names.NodeName.{NodeName}
use Rattle.salus_types.specs.declared.records.Header.{Header}
use Rattle.salus_message.specs.declared.wire.Message.{Message}
use Rattle.salus_message.specs.declared.wire.Message.TheVariants as message
use Rattle.schedule_text.specs.declared.schedule.Volume.{Volume}
use Rattle.schedule_text.specs.declared.schedule.Event.{Event}
use Rattle.printed_lines.specs.declared.line.Line.TheVariants as line
use Rattle.salus_model.specs.declared.trace.Request.{Request}
use Rattle.salus_model.specs.declared.trace.Request.TheVariants as request
use Rattle.volume_model.specs.Contents.{region_root}
use Rattle.volume_model.specs.Parts.{Session}
use Rattle.salus_model.specs.Judge.{Judge, Submitted, known_at, opened_as, judged_all}
use Rattle.volume_model.specs.Groups.{all_nodes}
use Rattle.volume_model.specs.Recovering.{choice_of}
use Rattle.salus_model.specs.Opening.{is_fetched}
use Rattle.salus_model.specs.Hearing.{News, Asks, Says, Crashes, Silence}
use Rattle.client_rules.specs.State.{Serving, Gathering, Fetching, Beginning, Client, Closed, Serves, Gathers, Fetches, Stages, Switches, Told, ignored, to_all}
use Rattle.client_rules.specs.Opening.{with_name, all_answered, new_serving, staged_from, restarted, with_reply_of, chosen, gathered_all, gathered_here, fetched_blocks, dumped_here, staged_by, staged_here, switched_by, switched_here}
use Rattle.client_rules.specs.Rules.{requested_away, requested, told_gathering, told_fetching, told_staging, told_switching, received, told}
use Rattle.list_lemmas.proofs.Each.{either_way}
use Rattle.law_reads.proofs.Away.{IsAway}
use Rattle.law_claimed.proofs.Tables.{IsWithin}

-- the session that it opens is known
abbrev pub KnowsNext : Judge → Client → Type 0
KnowsNext judge (Switches b) = (known : Session) × (known_at judge b.session ≡ Some known)
KnowsNext judge other = Unit {0}

-- it is switching to that session
abbrev pub IsSwitching : Client → ℕ → Type 0
IsSwitching (Switches b) e = e ≡ b.session
IsSwitching Closed e = ⊥
IsSwitching (Serves c) e = ⊥
IsSwitching (Gathers g) e = ⊥
IsSwitching (Fetches f) e = ⊥
IsSwitching (Stages b) e = ⊥

-- a session opens
abbrev pub opened : Volume → Beginning → Told
opened volume b = record { client = Serves (new_serving volume.geometry b.session b.seq b.contents); outs = []; lines = line.Open b.session ∷ [] }

-- What holds of each step after which the client doesn't serve, and of each that opens a session.
module _ (volume : Volume) (On : Told → Type 0) (off : (t : Told) → IsAway t.client → On t) where
  requested_on : (c : Client) → IsAway c → (v : ℕ) (r : Request) → On (requested_away volume.geometry c v r)
  unfolding restarted
  requested_on c away v (request.Restart e) = off _ tt
  requested_on c away v (request.Write batch) = off _ away
  requested_on c away v (request.Read b) = off _ away
  requested_on c away v request.Barrier = off _ away
  requested_on c away v (request.Reassign e g) = off _ away

  chosen_on : (g : Gathering) (o : Option Header) → On (chosen volume g o)
  chosen_on g None = off _ tt
  chosen_on g (Some h) = off _ tt

  gathered_on : (g : Gathering) → On (gathered_all volume g)
  gathered_on g = either_way (all_answered volume.geometry g.answered) (chosen volume g (choice_of volume.geometry g.pool)) (ignored (Gathers g)) On (chosen_on g (choice_of volume.geometry g.pool)) (off _ tt)

  staged_on : (b : Beginning) → On (staged_by volume.geometry b)
  staged_on b =
      either_way (all_answered volume.geometry b.answered)
      (record { client = Switches (record b { answered = [] }); outs = to_all (all_nodes volume.geometry) (message.Switch (record { session = b.session })); lines = [] }) (ignored (Stages b)) On (off _ tt) (off _ tt)

  switched_on : (b : Beginning) → On (opened volume b) → On (switched_by volume.geometry b)
  switched_on b opens =
      either_way (all_answered volume.geometry b.answered)
      (record { client = Serves (new_serving volume.geometry b.session b.seq b.contents); outs = []; lines = line.Open b.session ∷ [] }) (ignored (Switches b)) On opens (off _ tt)

  gathering_on : (x : Gathering) (name : NodeName) (m : Message) → On (told_gathering volume x name m)
  unfolding gathered_here
  gathering_on x name (message.Part m) = off _ tt
  gathering_on x name (message.Prepared m) = off _ tt
  gathering_on x name (message.Committed m) = off _ tt
  gathering_on x name (message.Ask m) = off _ tt
  gathering_on x name (message.Answer m) = off _ tt
  gathering_on x name (message.Gather m) = off _ tt
  gathering_on x name (message.Gathered m) = either_way (m.session == x.session) (gathered_all volume (with_reply_of volume name m.held x)) (ignored (Gathers x)) On (gathered_on (with_reply_of volume name m.held x)) (off _ tt)
  gathering_on x name (message.Stage m) = off _ tt
  gathering_on x name (message.Staged m) = off _ tt
  gathering_on x name (message.Switch m) = off _ tt
  gathering_on x name (message.Switched m) = off _ tt
  gathering_on x name (message.Dump m) = off _ tt
  gathering_on x name (message.Dumped m) = off _ tt

  fetching_on : (x : Fetching) (name : NodeName) (m : Message) → On (told_fetching volume x name m)
  unfolding dumped_here
  fetching_on x name (message.Part m) = off _ tt
  fetching_on x name (message.Prepared m) = off _ tt
  fetching_on x name (message.Committed m) = off _ tt
  fetching_on x name (message.Ask m) = off _ tt
  fetching_on x name (message.Answer m) = off _ tt
  fetching_on x name (message.Gather m) = off _ tt
  fetching_on x name (message.Gathered m) = off _ tt
  fetching_on x name (message.Stage m) = off _ tt
  fetching_on x name (message.Staged m) = off _ tt
  fetching_on x name (message.Switch m) = off _ tt
  fetching_on x name (message.Switched m) = off _ tt
  fetching_on x name (message.Dump m) = off _ tt
  fetching_on x name (message.Dumped m) = either_way (is_fetched volume.geometry x.served x.region (region_root volume.geometry x.contents x.region) name m) (staged_from volume x.session x.served x.last x.contents (fetched_blocks x.region m.blocks)) (ignored (Fetches x)) On (off _ tt) (off _ tt)

  staging_on : (x : Beginning) (name : NodeName) (m : Message) → On (told_staging volume.geometry x name m)
  unfolding staged_here
  staging_on x name (message.Part m) = off _ tt
  staging_on x name (message.Prepared m) = off _ tt
  staging_on x name (message.Committed m) = off _ tt
  staging_on x name (message.Ask m) = off _ tt
  staging_on x name (message.Answer m) = off _ tt
  staging_on x name (message.Gather m) = off _ tt
  staging_on x name (message.Gathered m) = off _ tt
  staging_on x name (message.Stage m) = off _ tt
  staging_on x name (message.Staged m) = either_way (m.session == x.session) (staged_by volume.geometry (record x { answered = with_name name x.answered })) (ignored (Stages x)) On (staged_on (record x { answered = with_name name x.answered })) (off _ tt)
  staging_on x name (message.Switch m) = off _ tt
  staging_on x name (message.Switched m) = off _ tt
  staging_on x name (message.Dump m) = off _ tt
  staging_on x name (message.Dumped m) = off _ tt

  switching_on : (x : Beginning) → ((b : Beginning) → b.session ≡ x.session → On (opened volume b)) → (name : NodeName) (m : Message) → On (told_switching volume.geometry x name m)
  unfolding switched_here
  switching_on x opens name (message.Part m) = off _ tt
  switching_on x opens name (message.Prepared m) = off _ tt
  switching_on x opens name (message.Committed m) = off _ tt
  switching_on x opens name (message.Ask m) = off _ tt
  switching_on x opens name (message.Answer m) = off _ tt
  switching_on x opens name (message.Gather m) = off _ tt
  switching_on x opens name (message.Gathered m) = off _ tt
  switching_on x opens name (message.Stage m) = off _ tt
  switching_on x opens name (message.Staged m) = off _ tt
  switching_on x opens name (message.Switch m) = off _ tt
  switching_on x opens name (message.Switched m) = either_way (m.session == x.session) (switched_by volume.geometry (record x { answered = with_name name x.answered })) (ignored (Switches x)) On (switched_on (record x { answered = with_name name x.answered }) (opens (record x { answered = with_name name x.answered }) refl)) (off _ tt)
  switching_on x opens name (message.Dump m) = off _ tt
  switching_on x opens name (message.Dumped m) = off _ tt

  pub away_told : (c : Client) → IsAway c → ((b : Beginning) → IsSwitching c b.session → On (opened volume b)) → (v : ℕ) (x : News) → On (told volume c v x)
  unfolding told requested received
  away_told (Serves c) away opens v x = absurd away
  away_told Closed away opens v (Asks r) = requested_on Closed tt v r
  away_told Closed away opens v (Says name m) = off _ tt
  away_told Closed away opens v Crashes = off _ tt
  away_told Closed away opens v Silence = off _ tt
  away_told (Gathers g) away opens v (Asks r) = requested_on (Gathers g) tt v r
  away_told (Gathers g) away opens v (Says name m) = gathering_on g name m
  away_told (Gathers g) away opens v Crashes = off _ tt
  away_told (Gathers g) away opens v Silence = off _ tt
  away_told (Fetches f) away opens v (Asks r) = requested_on (Fetches f) tt v r
  away_told (Fetches f) away opens v (Says name m) = fetching_on f name m
  away_told (Fetches f) away opens v Crashes = off _ tt
  away_told (Fetches f) away opens v Silence = off _ tt
  away_told (Stages b) away opens v (Asks r) = requested_on (Stages b) tt v r
  away_told (Stages b) away opens v (Says name m) = staging_on b name m
  away_told (Stages b) away opens v Crashes = off _ tt
  away_told (Stages b) away opens v Silence = off _ tt
  away_told (Switches b) away opens v (Asks r) = requested_on (Switches b) tt v r
  away_told (Switches b) away opens v (Says name m) = switching_on b opens name m
  away_told (Switches b) away opens v Crashes = off _ tt
  away_told (Switches b) away opens v Silence = off _ tt

-- ---- the batches then

away_within : (c : Client) → IsAway c → (batches : List Submitted) → IsWithin c batches
away_within (Serves c) away batches = absurd away
away_within Closed away batches = tt
away_within (Gathers g) away batches = tt
away_within (Fetches f) away batches = tt
away_within (Stages b) away batches = tt
away_within (Switches b) away batches = tt

module _ (volume : Volume) (events : List Event) (judge : Judge) where
  opened_known : (d : Serving) (o : Option Session) (known : Session) → o ≡ Some known → AllByRecursion (λ s. s.seq ≤ d.last) (opened_as judge d.session o).submits
  opened_known d o known is = subst (λ (o : Option Session). AllByRecursion (λ s. s.seq ≤ d.last) (opened_as judge d.session o).submits) (sym is) tt

  opened_within : (c : Client) → KnowsNext judge c → (b : Beginning) → IsSwitching c b.session → IsWithin (opened volume b).client (judged_all events judge (opened volume b).lines).submits
  unfolding judged_all
  opened_within (Switches x) knows b is =
      opened_known (new_serving volume.geometry b.session b.seq b.contents) (known_at judge b.session) knows.0 (ap (λ (e : ℕ). known_at judge e) is ∙ knows.1)
  opened_within (Serves c) knows b is = absurd is
  opened_within Closed knows b is = absurd is
  opened_within (Gathers g) knows b is = absurd is
  opened_within (Fetches f) knows b is = absurd is
  opened_within (Stages s) knows b is = absurd is

  pub away_moves : (c : Client) → IsAway c → KnowsNext judge c → (v : ℕ) (x : News) → IsWithin (told volume c v x).client (judged_all events judge (told volume c v x).lines).submits
  away_moves c away knows v x =
      away_told volume (λ t. IsWithin t.client (judged_all events judge t.lines).submits) (λ t off. away_within t.client off (judged_all events judge t.lines).submits) c away (opened_within c knows) v x
