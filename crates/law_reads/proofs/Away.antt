-- A client that doesn't serve opens no read: where it begins to serve, none is open.
use Rattle.std.proofs.Common.{◌≡◌, ℕ, ◌==◌, [], ◌∷◌, Option, None, Some, refl}
use Rattle.salus_types.specs.declared.names.NodeName.{NodeName}
use Rattle.salus_types.specs.declared.records.Header.{Header}
use Rattle.salus_message.specs.declared.wire.Message.{Message}
use Rattle.salus_message.specs.declared.wire.Message.TheVariants as message
use Rattle.schedule_text.specs.declared.schedule.Volume.{Volume}
use Rattle.printed_lines.specs.declared.line.Line.TheVariants as line
use Rattle.salus_model.specs.declared.trace.Request.{Request}
use Rattle.salus_model.specs.declared.trace.Request.TheVariants as request
use Rattle.volume_model.specs.Contents.{region_root}
use Rattle.volume_model.specs.Groups.{all_nodes}
use Rattle.volume_model.specs.Recovering.{choice_of}
use Rattle.salus_model.specs.Opening.{is_fetched}
use Rattle.salus_model.specs.Hearing.{News, Asks, Says, Crashes, Silence}
use Rattle.client_rules.specs.State.{Gathering, Fetching, Beginning, Client, Closed, Serves, Gathers, Fetches, Stages, Switches, Told, ignored, to_all}
use Rattle.client_rules.specs.Opening.{with_name, all_answered, new_serving, staged_from, restarted, with_reply_of, chosen, gathered_all, gathered_here, fetched_blocks, dumped_here, staged_by, staged_here, switched_by, switched_here}
use Rattle.client_rules.specs.Rules.{requested_away, requested, told_gathering, told_fetching, told_staging, told_switching, received, told}
use Rattle.list_lemmas.proofs.Each.{either_way}

-- no read is open
abbrev pub NoReads : Client → Type 0
NoReads (Serves c) = c.reads ≡ []
NoReads other = Unit {0}

abbrev pub IsAway : Client → Type 0
IsAway (Serves c) = ⊥
IsAway other = Unit {0}

module _ (volume : Volume) where
  abbrev On : Told → Type 0
  On t = NoReads t.client

  requested_on : (c : Client) → NoReads c → (v : ℕ) (r : Request) → On (requested_away volume.geometry c v r)
  unfolding restarted
  requested_on c none v (request.Restart e) = tt
  requested_on c none v (request.Write batch) = none
  requested_on c none v (request.Read b) = none
  requested_on c none v request.Barrier = none
  requested_on c none v (request.Reassign e g) = none

  chosen_on : (g : Gathering) (o : Option Header) → On (chosen volume g o)
  chosen_on g None = tt
  chosen_on g (Some h) = tt

  gathered_on : (g : Gathering) → On (gathered_all volume g)
  gathered_on g = either_way (all_answered volume.geometry g.answered) (chosen volume g (choice_of volume.geometry g.pool)) (ignored (Gathers g)) On (chosen_on g (choice_of volume.geometry g.pool)) tt

  staged_on : (b : Beginning) → On (staged_by volume.geometry b)
  staged_on b =
      either_way (all_answered volume.geometry b.answered)
      (record { client = Switches (record b { answered = [] }); outs = to_all (all_nodes volume.geometry) (message.Switch (record { session = b.session })); lines = [] }) (ignored (Stages b)) On tt tt

  switched_on : (b : Beginning) → On (switched_by volume.geometry b)
  switched_on b =
      either_way (all_answered volume.geometry b.answered)
      (record { client = Serves (new_serving volume.geometry b.session b.seq b.contents); outs = []; lines = line.Open b.session ∷ [] }) (ignored (Switches b)) On refl tt

  gathering_on : (x : Gathering) (name : NodeName) (m : Message) → On (told_gathering volume x name m)
  unfolding gathered_here
  gathering_on x name (message.Part m) = tt
  gathering_on x name (message.Prepared m) = tt
  gathering_on x name (message.Committed m) = tt
  gathering_on x name (message.Ask m) = tt
  gathering_on x name (message.Answer m) = tt
  gathering_on x name (message.Gather m) = tt
  gathering_on x name (message.Gathered m) = either_way (m.session == x.session) (gathered_all volume (with_reply_of volume name m.held x)) (ignored (Gathers x)) On (gathered_on (with_reply_of volume name m.held x)) tt
  gathering_on x name (message.Stage m) = tt
  gathering_on x name (message.Staged m) = tt
  gathering_on x name (message.Switch m) = tt
  gathering_on x name (message.Switched m) = tt
  gathering_on x name (message.Dump m) = tt
  gathering_on x name (message.Dumped m) = tt

  fetching_on : (x : Fetching) (name : NodeName) (m : Message) → On (told_fetching volume x name m)
  unfolding dumped_here
  fetching_on x name (message.Part m) = tt
  fetching_on x name (message.Prepared m) = tt
  fetching_on x name (message.Committed m) = tt
  fetching_on x name (message.Ask m) = tt
  fetching_on x name (message.Answer m) = tt
  fetching_on x name (message.Gather m) = tt
  fetching_on x name (message.Gathered m) = tt
  fetching_on x name (message.Stage m) = tt
  fetching_on x name (message.Staged m) = tt
  fetching_on x name (message.Switch m) = tt
  fetching_on x name (message.Switched m) = tt
  fetching_on x name (message.Dump m) = tt
  fetching_on x name (message.Dumped m) = either_way (is_fetched volume.geometry x.served x.region (region_root volume.geometry x.contents x.region) name m) (staged_from volume x.session x.served x.last x.contents (fetched_blocks x.region m.blocks)) (ignored (Fetches x)) On tt tt

  staging_on : (x : Beginning) (name : NodeName) (m : Message) → On (told_staging volume.geometry x name m)
  unfolding staged_here
  staging_on x name (message.Part m) = tt
  staging_on x name (message.Prepared m) = tt
  staging_on x name (message.Committed m) = tt
  staging_on x name (message.Ask m) = tt
  staging_on x name (message.Answer m) = tt
  staging_on x name (message.Gather m) = tt
  staging_on x name (message.Gathered m) = tt
  staging_on x name (message.Stage m) = tt
  staging_on x name (message.Staged m) = either_way (m.session == x.session) (staged_by volume.geometry (record x { answered = with_name name x.answered })) (ignored (Stages x)) On (staged_on (record x { answered = with_name name x.answered })) tt
  staging_on x name (message.Switch m) = tt
  staging_on x name (message.Switched m) = tt
  staging_on x name (message.Dump m) = tt
  staging_on x name (message.Dumped m) = tt

  switching_on : (x : Beginning) (name : NodeName) (m : Message) → On (told_switching volume.geometry x name m)
  unfolding switched_here
  switching_on x name (message.Part m) = tt
  switching_on x name (message.Prepared m) = tt
  switching_on x name (message.Committed m) = tt
  switching_on x name (message.Ask m) = tt
  switching_on x name (message.Answer m) = tt
  switching_on x name (message.Gather m) = tt
  switching_on x name (message.Gathered m) = tt
  switching_on x name (message.Stage m) = tt
  switching_on x name (message.Staged m) = tt
  switching_on x name (message.Switch m) = tt
  switching_on x name (message.Switched m) = either_way (m.session == x.session) (switched_by volume.geometry (record x { answered = with_name name x.answered })) (ignored (Switches x)) On (switched_on (record x { answered = with_name name x.answered })) tt
  switching_on x name (message.Dump m) = tt
  switching_on x name (message.Dumped m) = tt

  pub away_reads : (c : Client) → IsAway c → (v : ℕ) (x : News) → NoReads (told volume c v x).client
  unfolding told requested received
  away_reads (Serves c) away v x = absurd away
  away_reads Closed away v (Asks r) = requested_on Closed tt v r
  away_reads Closed away v (Says name m) = tt
  away_reads Closed away v Crashes = tt
  away_reads Closed away v Silence = tt
  away_reads (Gathers g) away v (Asks r) = requested_on (Gathers g) tt v r
  away_reads (Gathers g) away v (Says name m) = gathering_on g name m
  away_reads (Gathers g) away v Crashes = tt
  away_reads (Gathers g) away v Silence = tt
  away_reads (Fetches f) away v (Asks r) = requested_on (Fetches f) tt v r
  away_reads (Fetches f) away v (Says name m) = fetching_on f name m
  away_reads (Fetches f) away v Crashes = tt
  away_reads (Fetches f) away v Silence = tt
  away_reads (Stages b) away v (Asks r) = requested_on (Stages b) tt v r
  away_reads (Stages b) away v (Says name m) = staging_on b name m
  away_reads (Stages b) away v Crashes = tt
  away_reads (Stages b) away v Silence = tt
  away_reads (Switches b) away v (Asks r) = requested_on (Switches b) tt v r
  away_reads (Switches b) away v (Says name m) = switching_on b name m
  away_reads (Switches b) away v Crashes = tt
  away_reads (Switches b) away v Silence = tt
