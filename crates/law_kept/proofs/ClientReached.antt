-- A step of the client keeps what is reached: the abstract world matches after it, and what the client posts fits.
use Rattle.std.proofs.Common.{◌≡◌, ◌⊎◌, ℕ, zero, ◌-◌, ◌<◌, ◌≤◌, ◌∙◌, Bool, true, false, ◌&&◌, not, if◌then◌else◌, List, [], ◌∷◌, Option, Some, Result, Ok, Err, inl, inr, refl, ap, sym, subst, arith}
use Rattle.std.specs.List.{AllByRecursion}
use Rattle.std.proofs.lemmas.Bool.{cases_Bool, cond-true, cond-false, false≢true}
use Rattle.salus_types.specs.Volume.{Shape}
use Rattle.salus_types.specs.declared.names.NodeName.{NodeName}
use Rattle.salus_types.specs.declared.names.Sender.{Sender}
use Rattle.salus_types.specs.declared.names.Sender.TheVariants as sender
use Rattle.salus_types.specs.declared.records.Record.{Record}
use Rattle.salus_message.specs.declared.wire.Message.{Message}
use Rattle.salus_message.specs.declared.wire.Message.TheVariants as message
use Rattle.salus_message.specs.declared.wire.MessageError.{MessageError}
use Rattle.salus_message.specs.Reading.{message_at}
use Rattle.salus_message.specs.Ranges.{IsMessage, HasWidths}
use Rattle.salus_message.specs.Spelling.{message_bytes}
use Rattle.salus_message.proofs.MessageLaws.{message_again}
use Rattle.schedule_text.specs.declared.schedule.Volume.{Volume}
use Rattle.schedule_text.specs.declared.schedule.Event.{Event}
use Rattle.schedule_text.specs.Limits.{IsWithinLimits}
use Rattle.salus_model.specs.declared.trace.Request.TheVariants as request
use Rattle.salus_model.specs.declared.trace.Handed.{Handed}
use Rattle.salus_model.specs.declared.trace.Handed.TheVariants as handed
use Rattle.salus_model.specs.declared.trace.TraceStep.{TraceStep}
use Rattle.merkle_region.specs.Tree.{IsAmong}
use Rattle.merkle_region.proofs.Membership.{among_right}
use Rattle.holding_model.specs.Fitting.{has_content}
use Rattle.volume_model.specs.Parts.{Session}
use Rattle.volume_model.specs.Groups.{is_client, same_party}
use Rattle.salus_model.specs.Judge.{Judge, known_at}
use Rattle.salus_model.specs.Following.{Posted, posted_at, sent_by}
use Rattle.salus_model.specs.Guarding.{is_replacement, replaces}
use Rattle.salus_model.specs.Hearing.{News, Asks, Says, Crashes, Silence, Past, news_of, news_in, judge_of, opens, begins, refuses, asks_to_open, phase_of}
use Rattle.salus_model.specs.Complete.{session_asked}
use Rattle.salus_model.specs.Due.{past_of}
use Rattle.salus_model.specs.Forgery.{IsPartOf, IsBaseOf, IsTagged, records_of}
use Rattle.client_rules.specs.State as state
use Rattle.client_rules.specs.State.{Letter}
use Rattle.client_rules.specs.Rules.{told, ticked, is_tick, client_step, posted_letter}
use Rattle.run_rules.specs.Knowing.{KnownNode}
use Rattle.run_rules.specs.Serving.{IsClientStep}
use Rattle.list_lemmas.proofs.Members.{among_all, among_map}
use Rattle.list_lemmas.proofs.Lists.{among_between}
use Rattle.list_lemmas.proofs.Tests.{by_test, and_left, and_false}
use Rattle.law_lemmas.proofs.Numbered.{IsSized}
use Rattle.law_lemmas.proofs.Owned.{own_part, known-session}
use Rattle.law_history.specs.Handing.{records_posted, steps_in, PostsTagged}
use Rattle.law_handed.specs.Fitting.{IsSpelled}
use Rattle.law_ranged.specs.Ranging.{IsSentWithin}
use Rattle.law_lines.specs.Mirrors.{Holds}
use Rattle.law_prefix.specs.Numbers.{Mem, touches}
use Rattle.law_prefix.specs.Images.{IsPart}
use Rattle.law_prefix.specs.World as abstract
use Rattle.law_prefix.specs.World.{leader}
use Rattle.law_prefix.proofs.Growing.{split}
use Rattle.kept_model.specs.Nodes.{node_of, is_honest, volume_as}
use Rattle.kept_model.specs.Batches.{touching, list_of, start_of}
use Rattle.kept_model.specs.Images.{part_as}
use Rattle.kept_model.specs.Messages.{vote_as, claim_as, told_as, reply_as}
use Rattle.kept_model.specs.Phases.{asked_of, switched_in, switches_of}
use Rattle.kept_model.specs.Counting.{counts_as, fresh_as}
use Rattle.kept_model.specs.Matching.{IsAmongSent, AllAmongSent, Matches}
use Rattle.law_records.proofs.Own.{base_says, own-session, own-region, part-seq, part_is, touched_named, leader_named}
use Rattle.law_records.proofs.Content.{part-content}
use Rattle.law_records.proofs.Recovered.{mem_among, among_mem, sized_of}
use Rattle.law_phases.specs.Going.{GoesOn}
use Rattle.law_phases.specs.Letters.{HasNone, IsSwitchingTo, IsGatheringFor, IsOfClient, KeepsLetters}
use Rattle.law_phases.specs.Moving.{OpensAsked, IsMoved}
use Rattle.law_phases.specs.Opening.{AreCountable, IsBefore}
use Rattle.law_phases.specs.Ordered.{IsOrdered}
use Rattle.law_phases.proofs.Acking.{run_on}
use Rattle.law_phases.proofs.Countable.{lines_countable}
use Rattle.law_phases.proofs.Counts.{counts_then, fresh_then}
use Rattle.law_phases.proofs.Going.{client_on}
use Rattle.law_phases.proofs.Letters.{told_tell, ticked_tell}
use Rattle.law_phases.proofs.Moving.{asked_same, asked_new, switches_more, told_listed}
use Rattle.law_phases.proofs.Whole.{step_moved}
use Rattle.law_refined.specs.Bringing.{PartFits, StartFits, ClientFits, Onward}
use Rattle.law_refined.specs.Standing.{NodeStands}
use Rattle.law_refined.proofs.Onward.{part_onward, node_onward}
use Rattle.law_matched.specs.Silent.{AllStandTo, ClientPostsFit, IsReached}

-- ---- small facts

no_client : (name : NodeName) → sender.Client ≡ sender.Node name → ⊥
no_client name same = absurd (false≢true (sym (ap (λ (s : Sender). is_client s) same)))

asks_some : (x : News) → asks_to_open x ≡ true → (e : ℕ) × (session_asked x ≡ Some e)
asks_some (Asks (request.Restart e)) is = (e, refl)
asks_some (Asks (request.Reassign e g)) is = (e, refl)
asks_some (Asks (request.Write batch)) is = absurd (false≢true is)
asks_some (Asks (request.Read b)) is = absurd (false≢true is)
asks_some (Asks request.Barrier) is = absurd (false≢true is)
asks_some (Says name m) is = absurd (false≢true is)
asks_some Crashes is = absurd (false≢true is)
asks_some Silence is = absurd (false≢true is)

tick_silent : (posts : List Posted) (what : Handed) → is_tick what ≡ true → news_in posts what ≡ Silence
tick_silent posts handed.Tick is = refl
tick_silent posts (handed.Asked r) is = absurd (false≢true is)
tick_silent posts (handed.Deliver k) is = absurd (false≢true is)
tick_silent posts (handed.Stop k) is = absurd (false≢true is)
tick_silent posts (handed.Lie from bytes) is = absurd (false≢true is)
tick_silent posts handed.Crash is = absurd (false≢true is)
tick_silent posts handed.Replace is = absurd (false≢true is)
tick_silent posts handed.ClientCrash is = absurd (false≢true is)

silent_client : (volume : Volume) (c : state.Client) (v : ℕ) (x : News) → x ≡ Silence → (told volume c v x).client ≡ c
unfolding told
silent_client volume c v x silent = ap (λ (y : News). (told volume c v y).client) silent

held_ok : Message → Result Message MessageError → Message
held_ok d (Ok x) = x
held_ok d (Err e) = d

same_ok : (res : Result Message MessageError) (a d : Message) → res ≡ Ok a → res ≡ Ok d → a ≡ d
unfolding held_ok
same_ok res a d first second = ap (held_ok a) (sym first ∙ second)

-- the letters of a step, by what the client is left as
letters_of : (volume : Volume) (posts : List Posted) (c : state.Client) (t : TraceStep) → KeepsLetters c
    → AllByRecursion (λ (l : Letter). IsOfClient (client_step volume posts c t).client l.message) (client_step volume posts c t).outs
letters_of volume posts c t keeps =
    by_test (λ u. is_client t.party ≡ u → AllByRecursion Of (if u then (if is_tick t.handed then ticked volume.geometry c else answer.outs) else [])) (is_client t.party)
    (λ _ here. by_test (λ k. is_tick t.handed ≡ k → AllByRecursion Of (if k then ticked volume.geometry c else answer.outs)) (is_tick t.handed)
    (λ _ tick. subst (λ (d : state.Client). AllByRecursion (λ (l : Letter). IsOfClient d l.message) (ticked volume.geometry c)) (sym (silent_client volume c t.event (news_of posts t) (silent here tick))) (ticked_tell volume c keeps))
    (λ _ other. (told_tell volume c t.event (news_of posts t) keeps).sends) refl)
    (λ _ other. tt) refl
  where
    answer : state.Told
    answer = told volume c t.event (news_of posts t)

    Of : Letter → Type 0
    Of l = IsOfClient (told volume c t.event (news_of posts t)).client l.message

    silent : is_client t.party ≡ true → is_tick t.handed ≡ true → news_of posts t ≡ Silence
    silent here tick = ap (λ u. if u then news_in posts t.handed else Silence) here ∙ tick_silent posts t.handed tick

module _ (volume : Volume) (events : List Event) (limits : IsWithinLimits (record { volume = volume; events = events })) (posts : List Posted) (history : List Past) (known : NodeName → KnownNode) (sent : ℕ)
    (c : state.Client) (t : TraceStep) (party : t.party ≡ sender.Client) (r : IsReached volume.geometry events posts history known sent)
    (b : IsBefore volume events history t.event (news_of posts t) r.now) (by : IsClientStep volume posts c sent t) (keeps : KeepsLetters c) (ordered : IsOrdered history (past_of volume events posts history t))
    (count : sent_by (steps_in history) ≡ sent) (tags : PostsTagged volume events posts history (past_of volume events posts history t))
    (within : AllByRecursion (IsSentWithin volume.geometry) (client_step volume posts c t).outs) (n m : ℕ)
    (holds : Holds volume (past_of volume events posts history t ∷ history) (judge_of volume.geometry events (past_of volume events posts history t ∷ history)) n m (client_step volume posts c t).client) where
  abbrev shape : Shape
  shape = volume.geometry

  abbrev v : abstract.Volume
  v = volume_as shape events

  abbrev p : Past
  p = past_of volume events posts history t

  abbrev judge : Judge
  judge = judge_of shape events (p ∷ history)

  abbrev w : abstract.World
  w = r.now

  abbrev next : state.Client
  next = (client_step volume posts c t).client

  many : 0 < shape.replicas
  many = limits.volume.small_groups.0

  moved : IsMoved shape events history p w
  moved = step_moved volume events limits many history t w b.countable (news_of posts t) b

  countable : AreCountable shape events judge
  countable = lines_countable volume events limits p.lines (judge_of shape events history) b.legal b.countable

  on : Onward w.client moved.after.client
  on =
      let goes : GoesOn w.client moved.after.client = client_on shape events history p w.client moved.after.client r.matches.client moved.client refl b.legal b.countable countable in
      record { lists = goes.lists; starts = goes.starts; known = goes.known }

  -- ---- what is posted

  letter_at : (k : ℕ) (post : Posted) → posted_at posts k ≡ Some post → sent < k → k ≤ t.sent → (l : Letter) × IsAmong l (client_step volume posts c t).outs × (post ≡ posted_letter l)
  letter_at k post at low high =
      among_map posted_letter post (client_step volume posts c t).outs (subst (λ (ls : List Posted). IsAmong post ls) by.messages (among_between posts sent t.sent k post at low high))

  -- ---- the match

  stays : (name : NodeName) → replaces name p ≡ false
  stays name = ap (λ q. is_replacement t.handed && same_party q (sender.Node name)) party ∙ and_false (is_replacement t.handed)

  counts_now : (i : ℕ) → moved.after.counts i ≡ counts_as shape events (p ∷ history) i
  counts_now i = elim (cases_Bool (opens p)) [
    | inl opened ↦
        ap (λ (f : ℕ → Bool). f i) (moved.counts ∙ cond-true (opens p) w.fresh w.counts opened)
        ∙ (r.matches.fresh i ∙ (sym (cond-true (opens p) (fresh_as shape events history i) (counts_as shape events history i) opened) ∙ sym (counts_then shape events history p ordered i (stays (node_of shape i)))))
    | inr closed ↦
        ap (λ (f : ℕ → Bool). f i) (moved.counts ∙ cond-false (opens p) w.fresh w.counts closed)
        ∙ (r.matches.counts i ∙ (sym (cond-false (opens p) (fresh_as shape events history i) (counts_as shape events history i) closed) ∙ sym (counts_then shape events history p ordered i (stays (node_of shape i)))))
  ]

  fresh_now : (i : ℕ) → moved.after.fresh i ≡ fresh_as shape events (p ∷ history) i
  fresh_now i = elim (cases_Bool (begins p)) [
    | inl begun ↦
        ap (λ (f : ℕ → Bool). f i) (moved.fresh ∙ cond-true (begins p) v.honest w.fresh begun)
        ∙ (sym (cond-true (begins p) (is_honest shape events i) (fresh_as shape events history i) begun) ∙ sym (fresh_then shape events history p ordered i (stays (node_of shape i))))
    | inr unbegun ↦
        ap (λ (f : ℕ → Bool). f i) (moved.fresh ∙ cond-false (begins p) v.honest w.fresh unbegun)
        ∙ (r.matches.fresh i ∙ (sym (cond-false (begins p) (is_honest shape events i) (fresh_as shape events history i) unbegun) ∙ sym (fresh_then shape events history p ordered i (stays (node_of shape i)))))
  ]

  sent_still : (name : NodeName) (x : Message) → IsAmongSent shape w name x → IsAmongSent shape moved.after name x
  sent_still name (message.Prepared a) is = subst (λ l. Mem (vote_as shape name a) l) (sym moved.votes) is
  sent_still name (message.Committed a) is = (is.0, subst (λ l. Mem (claim_as shape name is.0 a) l) (sym moved.claims) is.1)
  sent_still name (message.Staged a) is = subst (λ l. Mem (told_as shape name a.session) l) (sym moved.staged) is
  sent_still name (message.Switched a) is = subst (λ l. Mem (told_as shape name a.session) l) (sym moved.switched) is
  sent_still name (message.Gathered a) is = subst (λ l. Mem (reply_as shape name a.session a.held) l) (sym moved.replies) is
  sent_still name (message.Part a) is = tt
  sent_still name (message.Ask a) is = tt
  sent_still name (message.Answer a) is = tt
  sent_still name (message.Gather a) is = tt
  sent_still name (message.Stage a) is = tt
  sent_still name (message.Switch a) is = tt
  sent_still name (message.Dump a) is = tt
  sent_still name (message.Dumped a) is = tt

  all_sent : AllAmongSent shape events posts t.sent moved.after
  all_sent k up high post at name from honest x read = elim (split k sent) [
    | inl old ↦ sent_still name x (r.matches.messages k up old post at name from honest x read)
    | inr new ↦ (let l = letter_at k post at new high in absurd (no_client name (sym (ap (λ (q : Posted). q.from) l.2) ∙ from)))
  ]

  matched : Matches shape events posts (p ∷ history) known t.sent moved.after
  matched = record {
    client = moved.client;
    images = λ i. ap (λ f. f i) moved.images ∙ r.matches.images i;
    counts = counts_now;
    fresh = fresh_now;
    messages = all_sent;
  }

  standing : AllStandTo shape v moved.after known
  standing name inside =
      subst (λ votes. NodeStands shape v name.region moved.after.client votes moved.after.claims (known name)) (sym moved.votes)
      (subst (λ claims. NodeStands shape v name.region moved.after.client w.votes claims (known name)) (sym moved.claims)
      (node_onward shape v name.region w.client moved.after.client w.votes w.claims on (known name) b.good.client.blank_known (r.stand name inside)))

  -- ---- what was posted before fits still

  switch_still : (e : ℕ) → Mem e w.client.switches → Mem e moved.after.client.switches
  switch_still e mem =
      let before : Mem e (switches_of shape history) = r.matches.client.switched_there e mem in
      moved.client.switched_back e (among_mem e (switches_of shape (p ∷ history))
      (subst (IsAmong e) (sym (switches_more shape p history (phase_of (p ∷ history)) refl)) (among_right e (switched_in shape (p ∷ history) (phase_of (p ∷ history))) (switches_of shape history) (mem_among e (switches_of shape history) before))))

  asked_rises : w.client.asked ≤ moved.after.client.asked
  asked_rises = elim (cases_Bool (begins p)) [
    | inl begun ↦
        let e = asks_some p.news (and_left (asks_to_open p.news) (not (refuses p)) begun) in
        let above : asked_of history < e.0 = ordered.later e.0 begun e.1 in
        let now : moved.after.client.asked ≡ e.0 = moved.client.asked ∙ asked_new p history e.0 begun e.1 in
        let was : w.client.asked ≡ asked_of history = r.matches.client.asked in
        omega (arith, above, now, was)
    | inr unbegun ↦
        let now : moved.after.client.asked ≡ asked_of history = moved.client.asked ∙ asked_same p history unbegun in
        let was : w.client.asked ≡ asked_of history = r.matches.client.asked in
        omega (arith, now, was)
  ]

  fits_still : (x : Message) → ClientFits w.client x → ClientFits moved.after.client x
  fits_still (message.Part a) fits = part_onward shape v zero w.client moved.after.client w.votes w.claims on a.rec fits
  fits_still (message.Stage a) fits = record {
    known = on.known a.base.rec.header.session fits.known;
    start = fits.start ∙ sym (on.starts a.base.rec.header.session fits.known);
    no_writes = fits.no_writes;
    no_run = fits.no_run;
    spelled = fits.spelled;
  }
  fits_still (message.Switch a) fits = switch_still a.session fits
  fits_still (message.Gather a) fits = (let low = fits.0 in let up = asked_rises in omega (arith, low, up), fits.1)
  fits_still (message.Prepared a) fits = tt
  fits_still (message.Committed a) fits = tt
  fits_still (message.Ask a) fits = tt
  fits_still (message.Answer a) fits = tt
  fits_still (message.Gathered a) fits = tt
  fits_still (message.Staged a) fits = tt
  fits_still (message.Switched a) fits = tt
  fits_still (message.Dump a) fits = tt
  fits_still (message.Dumped a) fits = tt

  -- ---- what is posted fits

  -- the session of a tagged record, as the abstract client has it
  module _ (rec : Record) (tagged : IsTagged shape volume.key judge rec) where
    abbrev session : Session
    session = tagged.session

    sized : IsSized shape session
    sized = sized_of shape session (countable.each session tagged.e tagged.known)

    number : rec.header.session ≡ tagged.e
    number = own-session shape volume.key session tagged.g rec tagged.either ∙ known-session judge tagged.e session tagged.known

    at : known_at judge rec.header.session ≡ Some session
    at = ap (known_at judge) number ∙ tagged.known

    listed : moved.after.client.lists rec.header.session ≡ touching shape session.list
    listed = moved.client.lists rec.header.session ∙ ap (list_of shape) at

    started : moved.after.client.starts rec.header.session ≡ session.base
    started = moved.client.starts rec.header.session ∙ ap start_of at

    known_now : Mem rec.header.session moved.after.client.known
    known_now = moved.client.known_back rec.header.session (inr (session, at))

    part_fits : has_content rec.writes rec.run ≡ true → IsSpelled rec → PartFits moved.after.client rec
    part_fits full spelled =
        let part : IsPartOf shape volume.key session tagged.g rec = own_part shape volume.key session sized tagged.g rec tagged.either full in
        let seq = part-seq shape volume.key session tagged.g rec part in
        let region : rec.header.region ≡ tagged.g = own-region shape volume.key session tagged.g rec tagged.either in
        record {
          known = known_now;
          counted = omega (arith, seq);
          is_part = subst (λ l. IsPart l (moved.after.client.starts rec.header.session) rec.header.region (part_as rec)) (sym listed)
              (subst (λ s. IsPart (touching shape session.list) s rec.header.region (part_as rec)) (sym started)
              (subst (λ g. IsPart (touching shape session.list) session.base g (part_as rec)) (sym region) (part_is shape volume.key session tagged.g sized rec part)));
          touched = λ g is. touched_named shape volume.key session tagged.g sized rec part g (subst (λ l. touches l (rec.header.seq - 1) g ≡ true) listed is);
          before = subst (λ l. (rec.header.seq - 1 ≤ moved.after.client.starts rec.header.session) ⊎ (rec.header.leader_before ≡ leader l (rec.header.seq - 1 - 1))) (sym listed)
              (subst (λ s. (rec.header.seq - 1 ≤ s) ⊎ (rec.header.leader_before ≡ leader (touching shape session.list) (rec.header.seq - 1 - 1))) (sym started)
              (leader_named shape volume.key session tagged.g sized rec part));
          spelled = spelled;
        }

    start_fits : HasNone rec → IsSpelled rec → StartFits moved.after.client rec
    start_fits none spelled = record { known = known_now; start = by_own tagged.either ∙ sym started; no_writes = none.0; no_run = none.1; spelled = spelled } where
      by_own : IsPartOf shape volume.key session tagged.g rec ⊎ IsBaseOf shape volume.key session tagged.g rec → rec.header.seq ≡ session.base
      by_own (inr base) = (base_says shape volume.key session tagged.g rec base).seq
      by_own (inl part) =
          let empty : has_content rec.writes rec.run ≡ false = ap (λ ws. has_content ws rec.run) none.0 ∙ ap (λ o. has_content [] o) none.1 in
          absurd (false≢true (sym empty ∙ part-content shape volume.key session tagged.g rec part))

  -- a client that switches to a session does so once every node has staged it
  switching : (e : ℕ) (d : state.Client) → Holds volume (p ∷ history) judge n m d → IsSwitchingTo e d → Mem e moved.after.client.switches
  switching e (state.Switches s) h is =
      let listed : Mem s.session (switches_of shape (p ∷ history)) = told_listed shape (p ∷ history) s.session h.mirrors.phase h.mirrors.staged in
      moved.client.switched_back e (subst (λ k. Mem k (switches_of shape (p ∷ history))) is listed)
  switching e state.Closed h is = absurd is
  switching e (state.Serves d) h is = absurd is
  switching e (state.Gathers d) h is = absurd is
  switching e (state.Fetches d) h is = absurd is
  switching e (state.Stages d) h is = absurd is

  -- it gathers for the session that was asked for last
  gathering : (e : ℕ) (d : state.Client) → Holds volume (p ∷ history) judge n m d → IsGatheringFor e d → e ≤ moved.after.client.asked
  gathering e (state.Gathers g) h is =
      let opening : asked_of (p ∷ history) ≡ g.session = subst (λ ph. OpensAsked ph (asked_of (p ∷ history))) h.mirrors.phase moved.opening in
      let now : moved.after.client.asked ≡ asked_of (p ∷ history) = moved.client.asked in
      omega (arith, opening, now, is)
  gathering e state.Closed h is = absurd is
  gathering e (state.Serves d) h is = absurd is
  gathering e (state.Fetches d) h is = absurd is
  gathering e (state.Stages d) h is = absurd is
  gathering e (state.Switches d) h is = absurd is

  new_fits : (k : ℕ) (l : Letter) → sent < k → k ≤ t.sent → posted_at posts k ≡ Some (posted_letter l) → IsOfClient next l.message → IsSentWithin shape l → ClientFits moved.after.client l.message
  new_fits k l low high at of sent_within = by_message l.message refl of sent_within.counts sent_within.widths where
    tagged_in : (rec : Record) → IsAmong rec (records_of (Ok l.message)) → IsTagged shape volume.key judge rec
    tagged_in rec among =
        tags k rec (subst (λ s. s < k) (sym count) low) high
        (subst (λ (o : Option Posted). IsAmong rec (records_posted o)) (sym at)
        (subst (λ (res : Result Message MessageError). IsAmong rec (records_of res)) (sym (message_again l.message sent_within.counts sent_within.widths)) among))

    by_message : (x : Message) → l.message ≡ x → IsOfClient next x → IsMessage x → HasWidths x → ClientFits moved.after.client x
    by_message (message.Part a) is of counts widths =
        part_fits a.rec (tagged_in a.rec (subst (λ (x : Message). IsAmong a.rec (records_of (Ok x))) (sym is) (inl refl))) of (record { counts = counts; widths = widths })
    by_message (message.Stage a) is of counts widths =
        start_fits a.base.rec (tagged_in a.base.rec (subst (λ (x : Message). IsAmong a.base.rec (records_of (Ok x))) (sym is) (inl refl))) of (record { counts = counts.its_record; widths = widths })
    by_message (message.Switch a) is of counts widths = switching a.session next holds of
    by_message (message.Gather a) is of counts widths = (gathering a.session next holds of, widths)
    by_message (message.Prepared a) is of counts widths = tt
    by_message (message.Committed a) is of counts widths = tt
    by_message (message.Ask a) is of counts widths = tt
    by_message (message.Answer a) is of counts widths = tt
    by_message (message.Gathered a) is of counts widths = tt
    by_message (message.Staged a) is of counts widths = tt
    by_message (message.Switched a) is of counts widths = tt
    by_message (message.Dump a) is of counts widths = tt
    by_message (message.Dumped a) is of counts widths = tt

  posts_fit : ClientPostsFit moved.after.client posts t.sent
  posts_fit k up high post at from x read = elim (split k sent) [
    | inl old ↦ fits_still x (r.clients k up old post at from x read)
    | inr new ↦
        let l = letter_at k post at new high in
        let inside : IsSentWithin shape l.0 = among_all (IsSentWithin shape) (client_step volume posts c t).outs l.0 l.1 within in
        let of : IsOfClient next l.0.message = among_all (λ (q : Letter). IsOfClient next q.message) (client_step volume posts c t).outs l.0 l.1 (letters_of volume posts c t keeps) in
        let here : posted_at posts k ≡ Some (posted_letter l.0) = at ∙ ap Some l.2 in
        let same : l.0.message ≡ x =
        same_ok (message_at (message_bytes l.0.message)) l.0.message x (message_again l.0.message inside.counts inside.widths) (sym (ap (λ (q : Posted). message_at q.bytes) l.2) ∙ read) in
        subst (ClientFits moved.after.client) same (new_fits k l.0 new high here of inside)
  ]

  -- what is reached before the step is reached after it
  pub client_reached : IsReached shape events posts (p ∷ history) known t.sent
  client_reached = record {
    start = r.start;
    now = moved.after;
    begun = r.begun;
    run = run_on v r.start w moved.after r.run moved.run;
    matches = matched;
    stand = standing;
    clients = posts_fit;
  }
