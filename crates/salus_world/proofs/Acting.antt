-- What each call of the world's parties gives of a course.
use Rattle.std.proofs.Common.{◌≡◌, ◌∙◌, inl, inr, ℕ, zero, suc, ◌+◌, ◌-◌, nat_lt, ◌^◌, ◌<◌, ◌≤◌, ◌==◌, Bool, true, false, not, ◌||◌, if◌then◌else◌, List, [], ◌∷◌, ◌++◌, map, length, reverse, slice_get, slice_set, Option, None, Some, refl, sym, ap, subst, append-nil, arith}
use Rattle.std.specs.Prelude.{is_some, option_map, flat_map}
use Rattle.salus_types.specs.Volume.{Shape}
use Rattle.salus_types.specs.declared.names.NodeName.{NodeName}
use Rattle.salus_types.specs.declared.names.Sender.{Sender}
use Rattle.salus_types.specs.declared.names.Sender.TheVariants as sender
use Rattle.salus_types.specs.declared.records.Held.{Held}
use Rattle.salus_types.specs.declared.records.Out.{Out}
use Rattle.schedule_text.specs.declared.schedule.Volume.{Volume}
use Rattle.schedule_text.specs.declared.schedule.Event.{Event}
use Rattle.schedule_text.specs.declared.schedule.Event.TheVariants as event
use Rattle.schedule_text.specs.Limits.{IsOfVolume, IsPartyOfVolume, IsWithin, IsEventWithin}
use Rattle.schedule_text.specs.Grammar.{pair_values}
use Rattle.salus_types.specs.declared.records.Write.{Write}
use Rattle.std.specs.List.{AllByRecursion}
use Rattle.printed_lines.specs.declared.line.Line.{Line}
use Rattle.holding_model.specs.Holding.{nothing_held}
use Rattle.salus_model.specs.declared.sending.Sent.{Sent}
use Rattle.salus_model.specs.declared.trace.Handed.{Handed}
use Rattle.salus_model.specs.declared.trace.Handed.TheVariants as handed
use Rattle.salus_model.specs.declared.trace.Request.{Request}
use Rattle.salus_model.specs.declared.trace.Request.TheVariants as request
use Rattle.salus_model.specs.declared.trace.TraceStep.{TraceStep}
use Rattle.salus_model.specs.Following.{Posted, posted, posts_of, posted_at, loads, hands, is_sent, goes_to_client, is_skipped, dropped_after, IsOneStep, AreStepsOf}
use Rattle.salus_model.specs.Hearing.{News, Asks, Crashes, Silence, news_from, news_of_post, news_of}
use Rattle.client_rules.specs.State.{Client}
use Rattle.client_rules.specs.Rules.{told, ticked, crashed, is_tick}
use Rattle.client_premises.specs.Premises.{IsApart}
use Rattle.replica_rules.specs.Rules.{Input, Receives}
use Rattle.posting.specs.Letters.{out_of_letter}
use Rattle.run_rules.specs.Knowing.{KnownNode, input_of_post, input_of, after_handed, LoadsRight}
use Rattle.merkle_region.specs.Tree.{IsAmong}
use Rattle.salus_model.specs.Complete.{is_stop}
use Rattle.run_course.specs.Course.{Course, sent_so_far}
use Rattle.unanimous_certificate.specs.Kept.{node_place}
use Rattle.law_ranged.proofs.Bounded.{ClientFits, RequestFits}
use Rattle.law_ranged.proofs.Opened.{NewsWithin}
use Rattle.client_asking.specs.declared.step.Step.{Step}
use Rattle.client_node.specs.declared.node.ClientNode.{ClientNode}
use Rattle.client_node.specs.Standing.{IsClient, IsAsked, shape_of, newest_of, IsTold}
use Rattle.disk_model.specs.declared.disk.Disk.{Ghosts}
use Rattle.disk_model.specs.declared.memory.MemDisk.{MemDisk}
use Rattle.disk_node.specs.declared.node.DiskNode.{DiskNode}
use Rattle.disk_node.specs.declared.outcome.Outcome.{Outcome}
use Rattle.disk_node.specs.Fitting.{held_in, IsCrashed, IsStopping, PassesOn}
use Rattle.run_steps.specs.Steps.{IsFront}
use Rattle.run_steps.specs.Waiting.{AreMarked}
use Rattle.run_steps.specs.Parties.{posts_by}
use Rattle.run_steps.proofs.Marking.{marks_still, marks_dropped}
use Rattle.run_steps.proofs.Sending.{heard, news_fit, asked_fit}
use Rattle.salus_world.specs.declared.world.World.{World}
use Rattle.salus_world.specs.Places.{ChangesAt, HasAnswered, HasStopped, HasCrashed, IsRenewed, IsNamed}
use Rattle.salus_world.specs.Growing.{new_messages, mark_of, marks_of}
use Rattle.salus_world.specs.Kept.{Origin, IsKept, HasStepped, HasDone, IsExact, PassesAt, AtNode, StopsOn, event_of}
use Rattle.salus_world.proofs.Mailing.{grown_posts, grown_marks, handed_marks}
use Rattle.salus_world.proofs.NodeSteps.{IsRight, right_input, right_stop, stopped_among, right_crash, right_replace, posted_index, posted_sent, node_kept}
use Rattle.salus_world.proofs.ClientSteps as told_by
use Rattle.salus_world.proofs.ClientSteps.{IsAnswer, StaysFit, client_kept, answer_told}
use Rattle.salus_world.proofs.Doing.{stepped_done, failing_done, index_sent, same_front, quiet_kept, next_kept}
use Rattle.run_steps.proofs.Fronts.{front_along, whole_front}
use Rattle.list_lemmas.proofs.Members.{among_all}
use Rattle.list_lemmas.proofs.Lists.{get_among}
use Rattle.std.proofs.lemmas.Option.{none-some, same_Some}
use Rattle.std.proofs.lemmas.Bool.{lt-ltb, ltb-true, false≢true}
use Rattle.list_lemmas.proofs.Tests.{by_bool}
use Rattle.run_steps.proofs.Eventing.{no_step}
use Rattle.std.proofs.lemmas.List.{length-map}
use Rattle.volume_model.specs.Groups.{is_client}
use Rattle.salus_model.specs.Judge.{event_at}

-- ---- a step of a node

-- the messages that it added, after the marks were set, and what stayed
pub record Posts {D : Type 0} {g : Ghosts D} {lane : _} (from : Sender) (outs : List Out) (mid : List Sent) (old new : World D g lane) : Type 0 where
  pub sent : new.sent.items ≡ mid ++ new_messages old.geometry from outs
  pub posts : posts_of mid ≡ posts_of old.sent.items
  pub lowest : new.lowest ≡ old.lowest
  pub geometry : new.geometry ≡ old.geometry

module _ {D : Type 0} {g : Ghosts D} {lane : _} (origin : Origin) (volume : Volume) (all : List Event) (b n : ℕ) (old new : World D g lane) (c : Course) (kept : IsKept origin volume all b n old c) where
  abbrev shape : Shape
  shape = volume.geometry

  module _ (from : Sender) (outs : List Out) (mid : List Sent) (added : Posts from outs mid old new) where
    grown : new.sent.items ≡ mid ++ new_messages shape from outs
    grown = added.sent ∙ ap (λ (s : Shape). mid ++ new_messages s from outs) kept.geometry

    pub posts_now : posts_of new.sent.items ≡ posts_of old.sent.items ++ posts_by shape from outs
    posts_now = grown_posts shape from outs mid new.sent.items grown ∙ ap (λ (l : List Posted). l ++ posts_by shape from outs) added.posts

    -- no message was handed over
    pub marks_same : (what : Handed) → mid ≡ old.sent.items → ((k : ℕ) → hands k what ≡ false) → (step : TraceStep) → step.handed ≡ what
        → AreMarked (step ∷ reverse c.trace) c.dropped new.lowest (marks_of new.sent.items)
    marks_same what same none step is =
        grown_marks shape from outs mid new.sent.items grown (step ∷ reverse c.trace) c.dropped new.lowest
        (subst (λ (k : ℕ). AreMarked (step ∷ reverse c.trace) c.dropped k (marks_of mid)) (sym added.lowest)
        (subst (λ (l : List Sent). AreMarked (step ∷ reverse c.trace) c.dropped old.lowest (marks_of l)) (sym same)
        (marks_still (reverse c.trace) c.dropped old.lowest (marks_of old.sent.items) kept.marked step (λ k. ap (λ (h : Handed). hands k h) is ∙ none k))))

    -- that of an index was
    pub marks_set : (what : Handed) (i : ℕ) → i < length old.sent.items → marks_of mid ≡ slice_set (marks_of old.sent.items) i true → ((k : ℕ) → hands k what ≡ (i + 1 == k))
        → (step : TraceStep) → step.handed ≡ what → AreMarked (step ∷ reverse c.trace) c.dropped new.lowest (marks_of new.sent.items)
    marks_set what i inside set hands_it step is =
        grown_marks shape from outs mid new.sent.items grown (step ∷ reverse c.trace) c.dropped new.lowest
        (subst (λ (k : ℕ). AreMarked (step ∷ reverse c.trace) c.dropped k (marks_of mid)) (sym added.lowest)
        (handed_marks (reverse c.trace) c.dropped old.lowest old.sent.items mid step i kept.marked set inside (λ k. ap (λ (h : Handed). hands k h) is ∙ hands_it k)))

  -- the message of an index, in all messages of the run
  pub input_at : (i : ℕ) (m : Posted) → slice_get (posts_of old.sent.items) i ≡ Some m → (posts : List Posted) → IsFront (posts_of old.sent.items) posts → input_of posts (handed.Deliver (i + 1)) ≡ Some (input_of_post m)
  input_at i m at posts front = ap (λ (o : Option Posted). option_map (λ p. input_of_post p) o) (posted_index (posts_of old.sent.items) posts i m front at)

  pub news_at : (i : ℕ) (m : Posted) → slice_get (posts_of old.sent.items) i ≡ Some m → (posts : List Posted) → IsFront (posts_of old.sent.items) posts → news_of_post (posted_at posts (i + 1)) ≡ news_from m.from m.bytes
  news_at i m at posts front = ap news_of_post (posted_index (posts_of old.sent.items) posts i m front at)

  -- ---- a step of a node

  module _ (name : NodeName) (of : IsOfVolume old.geometry name) (place : ℕ) (there : place ≡ node_place old.geometry name) where
    of_volume : IsOfVolume shape name
    of_volume = subst (λ (s : Shape). IsOfVolume s name) kept.geometry of

    changes : (How : DiskNode D g lane → DiskNode D g lane → Type 0) → ChangesAt place old.nodes.items new.nodes.items How → ChangesAt (node_place shape name) old.nodes.items new.nodes.items How
    changes How change = subst (λ (p : ℕ). ChangesAt p old.nodes.items new.nodes.items How) (there ∙ ap (λ (s : Shape). node_place s name) kept.geometry) change

    module _ (what : Handed) (outs : List Out) (mid : List Sent) (added : Posts (sender.Node name) outs mid old new) (client : new.client ≡ old.client) (lines : new.lines.items ≡ old.lines.items)
        (marked : (step : TraceStep) → step.handed ≡ what → AreMarked (step ∷ reverse c.trace) c.dropped new.lowest (marks_of new.sent.items)) where
      -- it has handled an input
      pub answered_kept : (input : Input) (outcome : Outcome) → outcome.outs ≡ outs → ChangesAt place old.nodes.items new.nodes.items (HasAnswered input outcome)
          → ((posts : List Posted) → IsFront (posts_of old.sent.items) posts → input_of posts what ≡ Some input)
          → ((posts : List Posted) (known : KnownNode) → LoadsRight shape name.region posts known what outcome.failed None) → false ≡ loads what
          → HasStepped origin volume all b n (sender.Node name) what old new c
      answered_kept input outcome same change given right stays =
          let changed = changes (HasAnswered input outcome) change in
          node_kept origin volume all b n old new c kept name of_volume what outcome.failed None outs (HasAnswered input outcome) changed stays
          (λ posts known front fits. subst (λ (l : List Out). IsRight shape name posts known what outcome.failed None l changed.is) same
          (right_input shape name posts known what input (given posts front) outcome changed.is (right posts known) (changed.how.answered shape name known fits)))
          (inr (λ unharmed. (changed.how.sure unharmed).1)) (λ unharmed. (changed.how.sure (unharmed (sym stays))).0)
          (posts_now (sender.Node name) outs mid added) (marked _ refl) client lines added.geometry

  -- ---- a step of the client

  abbrev small : b ≤ 2 ^ 33
  small = let few = kept.few in omega (arith, few)

  module _ (what : Handed) (outs : List Out) (said : List Line) (mid : List Sent) (added : Posts sender.Client outs mid old new) (nodes : new.nodes.items ≡ old.nodes.items) (lines : new.lines.items ≡ old.lines.items ++ said)
      (marked : (step : TraceStep) → step.handed ≡ what → AreMarked (step ∷ reverse c.trace) c.dropped new.lowest (marks_of new.sent.items))
      (shape_same : shape_of new.client ≡ shape_of old.client) (stays : false ≡ loads what) where
    abbrev step_now : TraceStep
    step_now = told_by.the_step origin volume all b b n old new c kept what outs said

    -- it was told something that is no request
    pub told_kept : (step : Step) → step.outs.items ≡ outs → step.lines.items ≡ said → (x : News) → ((posts : List Posted) → IsFront (posts_of old.sent.items) posts → news_of posts step_now ≡ x)
        → is_tick what ≡ false → NewsWithin volume kept.limits b kept.some small x
        → ((d : Client) → IsClient old.client volume d → IsApart volume d x → IsTold volume (told volume d n x) new.client step)
        → newest_of new.client ≡ newest_of old.client → HasStepped origin volume all b n sender.Client what old new c
    told_kept step same says x news no_tick within rules newest =
        client_kept origin volume all b b n old new c kept what outs said stays (omega arith) kept.few
        (λ posts front d is apart.
        subst (λ (o : List Out). IsAnswer volume posts step_now new.client o said d) same
        (subst (λ (l : List Line). IsAnswer volume posts step_now new.client step.outs.items l d) says
        (answer_told volume posts n what step_now.sent x new.client step d (news posts front) no_tick (rules d is (subst (λ (y : News). IsApart volume d y) (news posts front) apart)))))
        (λ posts front d f. news_fit volume kept.limits posts b kept.some small d step_now (subst (λ (y : News). NewsWithin volume kept.limits b kept.some small y) (sym (news posts front)) within) f)
        (posts_now sender.Client outs mid added) (marked step_now refl) nodes lines added.geometry shape_same
        (subst (λ (k : ℕ). k < b) (sym newest) kept.newest)

    -- it was told a message
    pub heard_kept : (step : Step) → step.outs.items ≡ outs → step.lines.items ≡ said → (from : Sender) (bytes : List ℕ) → IsPartyOfVolume old.geometry from
        → ((posts : List Posted) → IsFront (posts_of old.sent.items) posts → news_of posts step_now ≡ news_from from bytes) → is_tick what ≡ false
        → ((d : Client) → IsClient old.client volume d → IsApart volume d (news_from from bytes) → IsTold volume (told volume d n (news_from from bytes)) new.client step)
        → newest_of new.client ≡ newest_of old.client → HasStepped origin volume all b n sender.Client what old new c
    heard_kept step same says from bytes of news no_tick rules newest =
        told_kept step same says (news_from from bytes) news no_tick (heard volume kept.limits [] b kept.some small from bytes (subst (λ (s : Shape). IsPartyOfVolume s from) kept.geometry of)) rules newest

  -- it ticks: it sends again, and is as it was
  pub tick_kept : (outs : List Out) → (added : Posts sender.Client outs old.sent.items old new) → new.client ≡ old.client → new.nodes.items ≡ old.nodes.items → new.lines.items ≡ old.lines.items
      → ((d : Client) → IsClient old.client volume d → outs ≡ map out_of_letter (ticked shape d)) → HasStepped origin volume all b n sender.Client handed.Tick old new c
  unfolding told
  tick_kept outs added client nodes lines rules =
      client_kept origin volume all b b n old new c kept handed.Tick outs [] refl (omega arith) kept.few
      (λ posts front d is apart. (subst (λ (cl : ClientNode). IsClient cl volume d) (sym client) is, rules d is, refl))
      (λ posts front d f. news_fit volume kept.limits posts b kept.some small d (told_by.the_step origin volume all b b n old new c kept handed.Tick outs []) tt f)
      (posts_now sender.Client outs old.sent.items added) (marks_same sender.Client outs old.sent.items added handed.Tick refl (λ k. refl) _ refl) nodes (lines ∙ sym (append-nil old.lines.items)) added.geometry
      (ap shape_of client) (subst (λ (cl : ClientNode). newest_of cl < b) (sym client) kept.newest)

  -- it crashes
  pub client_crash_kept : new.sent.items ≡ old.sent.items → new.lowest ≡ old.lowest → new.geometry ≡ old.geometry → new.nodes.items ≡ old.nodes.items → new.lines.items ≡ old.lines.items
      → ((d : Client) → IsClient old.client volume d → IsClient new.client volume crashed.client) → shape_of new.client ≡ shape_of old.client → newest_of new.client ≡ newest_of old.client
      → HasStepped origin volume all b n sender.Client handed.ClientCrash old new c
  unfolding told
  client_crash_kept sent lowest geometry nodes lines rules shape_same newest =
      let added : Posts sender.Client [] old.sent.items old new = record { sent = sent ∙ sym (append-nil old.sent.items); posts = refl; lowest = lowest; geometry = geometry } in
      client_kept origin volume all b b n old new c kept handed.ClientCrash [] [] refl (omega arith) kept.few
      (λ posts front d is apart. (rules d is, refl, refl))
      (λ posts front d f. news_fit volume kept.limits posts b kept.some small d (told_by.the_step origin volume all b b n old new c kept handed.ClientCrash [] []) tt f)
      (posts_now sender.Client [] old.sent.items added) (marks_same sender.Client [] old.sent.items added handed.ClientCrash refl (λ k. refl) _ refl) nodes (lines ∙ sym (append-nil old.lines.items)) geometry
      shape_same (subst (λ (k : ℕ). k < b) (sym newest) kept.newest)

-- ---- a step of a node over a disk in memory

module _ {g : Ghosts MemDisk} {lane : _} (origin : Origin) (volume : Volume) (all : List Event) (b n : ℕ) (old new : World MemDisk g lane) (c : Course) (kept : IsKept origin volume all b n old c)
    (name : NodeName) (of : IsOfVolume old.geometry name) (place : ℕ) (there : place ≡ node_place old.geometry name) where
  abbrev here : Shape
  here = volume.geometry

  module _ (what : Handed) (outs : List Out) (mid : List Sent) (added : Posts (sender.Node name) outs mid old new) (client : new.client ≡ old.client) (lines : new.lines.items ≡ old.lines.items)
      (marked : (step : TraceStep) → step.handed ≡ what → AreMarked (step ∷ reverse c.trace) c.dropped new.lowest (marks_of new.sent.items)) where
    -- its disk stopped meanwhile
    pub stopped_kept : (input : Input) (outcome : Outcome) (calls keep fill : ℕ) → outcome.outs ≡ outs → ChangesAt place old.nodes.items new.nodes.items (HasStopped calls keep fill input outcome)
        → ((posts : List Posted) → IsFront (posts_of old.sent.items) posts → input_of posts what ≡ Some input)
        → ((posts : List Posted) (known : KnownNode) (held : Held) → IsAmong held (after_handed here name.region posts known what outcome.failed).contents → LoadsRight here name.region posts known what outcome.failed (Some held))
        → true ≡ loads what → is_stop what ≡ true → HasStepped origin volume all b n (sender.Node name) what old new c
    stopped_kept input outcome calls keep fill same change given right loading stops =
        let changed = changes origin volume all b n old new c kept name of place there (HasStopped calls keep fill input outcome) change in
        node_kept origin volume all b n old new c kept name (of_volume origin volume all b n old new c kept name of place there) what outcome.failed (Some (held_in changed.is)) outs (HasStopped calls keep fill input outcome) changed loading
        (λ posts known front fits.
        let s = changed.how.stopped here name known fits in
        subst (λ (l : List Out). IsRight here name posts known what outcome.failed (Some (held_in changed.is)) l changed.is) same
        (right_stop here name posts known what input (given posts front) outcome changed.is
        (right posts known (held_in changed.is) (stopped_among here name posts known what input (given posts front) outcome changed.is (held_in changed.is) s.loaded.among)) s))
        (inl stops) (λ unharmed. changed.how.unharmed)
        (posts_now origin volume all b n old new c kept (sender.Node name) outs mid added) (marked _ refl) client lines added.geometry

  module _ (sent : new.sent.items ≡ old.sent.items) (lowest : new.lowest ≡ old.lowest) (geometry : new.geometry ≡ old.geometry) (client : new.client ≡ old.client) (lines : new.lines.items ≡ old.lines.items) where
    none_posted : Posts (sender.Node name) [] old.sent.items old new
    none_posted = record { sent = sent ∙ sym (append-nil old.sent.items); posts = refl; lowest = lowest; geometry = geometry }

    pub crash_kept : (keep fill : ℕ) → ChangesAt place old.nodes.items new.nodes.items (HasCrashed keep fill) → HasStepped origin volume all b n (sender.Node name) handed.Crash old new c
    crash_kept keep fill change =
        let changed = changes origin volume all b n old new c kept name of place there (HasCrashed keep fill) change in
        node_kept origin volume all b n old new c kept name (of_volume origin volume all b n old new c kept name of place there) handed.Crash false (Some (held_in changed.is)) [] (HasCrashed keep fill) changed refl
        (λ posts known front fits. right_crash here name posts known changed.is (changed.how.reloaded here name known fits))
        (inr (λ unharmed. refl)) (λ unharmed. changed.how.unharmed)
        (posts_now origin volume all b n old new c kept (sender.Node name) [] old.sent.items none_posted) (marks_same origin volume all b n old new c kept (sender.Node name) [] old.sent.items none_posted handed.Crash refl (λ k. refl) _ refl) client lines geometry

    pub replace_kept : ChangesAt place old.nodes.items new.nodes.items IsRenewed → HasStepped origin volume all b n (sender.Node name) handed.Replace old new c
    replace_kept change =
        let changed = changes origin volume all b n old new c kept name of place there IsRenewed change in
        node_kept origin volume all b n old new c kept name (of_volume origin volume all b n old new c kept name of place there) handed.Replace false (Some nothing_held) [] IsRenewed changed refl
        (λ posts known front fits. right_replace here name posts known changed.is (changed.how.renewed here name known fits))
        (inr (λ unharmed. refl)) (λ unharmed. changed.how.unharmed)
        (posts_now origin volume all b n old new c kept (sender.Node name) [] old.sent.items none_posted) (marks_same origin volume all b n old new c kept (sender.Node name) [] old.sent.items none_posted handed.Replace refl (λ k. refl) _ refl) client lines geometry

-- ---- a request

asked_skips : (posts : List Posted) (k : ℕ) (r : Request) → is_skipped posts k (event_of r) ≡ false
asked_skips posts k (request.Write batch) = refl
asked_skips posts k (request.Read block) = refl
asked_skips posts k request.Barrier = refl
asked_skips posts k (request.Restart session) = refl
asked_skips posts k (request.Reassign session region) = refl

asked_drops : (k : ℕ) (dropped : List ℕ) (r : Request) → dropped_after k dropped (event_of r) ≡ dropped
asked_drops k dropped (request.Write batch) = refl
asked_drops k dropped (request.Read block) = refl
asked_drops k dropped request.Barrier = refl
asked_drops k dropped (request.Restart session) = refl
asked_drops k dropped (request.Reassign session region) = refl

asked_step : (posts : List Posted) (earlier : List TraceStep) (dropped : List ℕ) (n : ℕ) (r : Request) (steps : List TraceStep) → IsOneStep posts earlier n sender.Client (handed.Asked r) steps → AreStepsOf posts earlier dropped n (event_of r) steps
asked_step posts earlier dropped n (request.Write batch) steps one = one
asked_step posts earlier dropped n (request.Read block) steps one = one
asked_step posts earlier dropped n request.Barrier steps one = one
asked_step posts earlier dropped n (request.Restart session) steps one = one
asked_step posts earlier dropped n (request.Reassign session region) steps one = one

pub asked_exact : {g : Ghosts MemDisk} {lane : _} (r : Request) (old new : World MemDisk g lane) → IsExact (event_of r) old new
asked_exact (request.Write batch) old new = tt
asked_exact (request.Read block) old new = tt
asked_exact request.Barrier old new = tt
asked_exact (request.Restart session) old new = tt
asked_exact (request.Reassign session region) old new = tt

-- what a schedule in its limits asks of the client
pub asked_of : (shape : Shape) (r : Request) → IsEventWithin shape (event_of r) → IsAsked shape r
asked_of s (request.Write batch) within = (within.1.1, sized batch within.0) where
  sized : (batch : List Write) → AllByRecursion (IsWithin s) (flat_map pair_values batch) → AllByRecursion (λ w. length w.bytes ≡ s.block) batch
  sized [] all = tt
  sized (w ∷ batch) all = (all.1.0, sized batch all.1.1)
asked_of s (request.Read block) within = tt
asked_of s request.Barrier within = tt
asked_of s (request.Restart session) within = tt
asked_of s (request.Reassign session region) within = tt

asked_fits : (shape : Shape) (r : Request) → IsEventWithin shape (event_of r) → RequestFits shape r
asked_fits s (request.Write batch) within = asked_of s (request.Write batch) within
asked_fits s (request.Read block) within = tt
asked_fits s request.Barrier within = tt
asked_fits s (request.Restart session) within = within.0.0
asked_fits s (request.Reassign session region) within = within.0.0

pub asked_done : {D : Type 0} {g : Ghosts D} {lane : _} (origin : Origin) (volume : Volume) (all : List Event) (n : ℕ) (old new : World D g lane) (c : Course) (r : Request) (step : Step) → n < 2 ^ 32 → (kept : IsKept origin volume all n n old c) → IsEventWithin old.geometry (event_of r)
    → Posts sender.Client step.outs.items old.sent.items old new → new.nodes.items ≡ old.nodes.items → new.lines.items ≡ old.lines.items ++ step.lines.items
    → ((d : Client) → IsClient old.client volume d → IsTold volume (told volume d n (Asks r)) new.client step) → shape_of new.client ≡ shape_of old.client → newest_of new.client ≤ n
    → HasDone origin volume all n (event_of r) old new c
asked_done origin volume all n old new c r step low kept within added nodes lines rules shape_same newest =
    let outs : List Out = step.outs.items in
    let said : List Line = step.lines.items in
    let what : Handed = handed.Asked r in
    let step_now : TraceStep = told_by.the_step origin volume all n (n + 1) n old new c kept what outs said in
    let few = kept.few in
    let s : HasStepped origin volume all (n + 1) n sender.Client what old new c =
    client_kept origin volume all n (n + 1) n old new c kept what outs said refl (omega arith) (omega (arith, low))
    (λ posts front d is apart. answer_told volume posts n what step_now.sent (Asks r) new.client step d refl refl (rules d is))
    (λ posts front d f.
    asked_fit volume kept.limits posts n kept.some (omega (arith, few)) d step_now n r refl refl (omega arith) low (asked_fits volume.geometry r (subst (λ (s : Shape). IsEventWithin s (event_of r)) kept.geometry within)) f)
    (posts_now origin volume all n n old new c kept sender.Client outs old.sent.items added)
    (marks_same origin volume all n n old new c kept sender.Client outs old.sent.items added what refl (λ k. refl) step_now refl) nodes lines added.geometry shape_same (omega (arith, newest)) in
    stepped_done origin volume all (n + 1) n (event_of r) old new c sender.Client what kept.some (omega arith) low s (λ posts front. asked_skips posts (sent_so_far c) r)
    (λ posts front one. asked_step posts (reverse c.trace) c.dropped n r (s.step ∷ []) one) (asked_drops (sent_so_far c) c.dropped r)

-- ---- events of one step

pub node_same : (a b : NodeName) → sender.Node a ≡ sender.Node b → a ≡ b
node_same a b same = cc

module _ {D : Type 0} {g : Ghosts D} {lane : _} (origin : Origin) (volume : Volume) (all : List Event) (n : ℕ) (old new : World D g lane) (c : Course) (low : n < 2 ^ 32) (kept : IsKept origin volume all n n old c) where
  pub client_crash_done : new.sent.items ≡ old.sent.items → new.lowest ≡ old.lowest → new.geometry ≡ old.geometry → new.nodes.items ≡ old.nodes.items → new.lines.items ≡ old.lines.items
      → ((d : Client) → IsClient old.client volume d → IsClient new.client volume crashed.client) → shape_of new.client ≡ shape_of old.client → newest_of new.client ≡ newest_of old.client
      → HasDone origin volume all n event.ClientCrash old new c
  client_crash_done sent lowest geometry nodes lines rules shape_same newest =
      stepped_done origin volume all n n event.ClientCrash old new c sender.Client handed.ClientCrash kept.some (omega arith) low
      (client_crash_kept origin volume all n n old new c kept sent lowest geometry nodes lines rules shape_same newest) (λ posts front. refl) (λ posts front one. one) refl

  pub lie_done : (from to : Sender) (bytes : List ℕ) → HasStepped origin volume all n n to (handed.Lie from bytes) old new c → HasDone origin volume all n (event.Lie from to bytes) old new c
  lie_done from to bytes s = stepped_done origin volume all n n (event.Lie from to bytes) old new c to (handed.Lie from bytes) kept.some (omega arith) low s (λ posts front. refl) (λ posts front one. one) refl

  pub tick_done : (party : Sender) → HasStepped origin volume all n n party handed.Tick old new c → HasDone origin volume all n (event.Tick party) old new c
  tick_done party s = stepped_done origin volume all n n (event.Tick party) old new c party handed.Tick kept.some (omega arith) low s (λ posts front. refl) (λ posts front one. one) refl

  -- ---- by the number of a message

  module _ (message index : ℕ) (is : message ≡ index + 1) (inside : index < length old.sent.items) where
    is_there : is_sent (sent_so_far c) message ≡ true
    is_there = let count = kept.count in index_sent (sent_so_far c) message index is (omega (arith, inside, count))

    module _ (m : Posted) (at : slice_get (posts_of old.sent.items) index ≡ Some m) where
      known_at_number : (posts : List Posted) → IsFront (posts_of old.sent.items) posts → posted_at posts message ≡ Some m
      known_at_number posts front = ap (λ (k : ℕ). posted_at posts k) is ∙ posted_index (posts_of old.sent.items) posts index m front at

      pub delivered_done : HasStepped origin volume all n n m.to (handed.Deliver (index + 1)) old new c → HasDone origin volume all n (event.Deliver message) old new c
      delivered_done s =
          stepped_done origin volume all n n (event.Deliver message) old new c m.to (handed.Deliver (index + 1)) kept.some (omega arith) low s (λ posts front. ap not is_there)
          (λ posts front one. record {
            message = m;
            known = known_at_number posts (front_along (posts_of old.sent.items) (posts_of new.sent.items) posts s.more front);
            one = subst (λ (k : ℕ). IsOneStep posts (reverse c.trace) n m.to (handed.Deliver k) (s.step ∷ [])) (sym is) one;
          }) refl

      pub stop_done : (name : NodeName) (calls keep fill : ℕ) → m.to ≡ sender.Node name → HasStepped origin volume all n n (sender.Node name) (handed.Stop (index + 1)) old new c
          → HasDone origin volume all n (event.Stop message calls keep fill) old new c
      stop_done name calls keep fill to s =
          let known : (posts : List Posted) → IsFront (posts_of new.sent.items) posts → posted_at posts message ≡ Some m =
          λ posts front. known_at_number posts (front_along (posts_of old.sent.items) (posts_of new.sent.items) posts s.more front) in
          stepped_done origin volume all n n (event.Stop message calls keep fill) old new c (sender.Node name) (handed.Stop (index + 1)) kept.some (omega arith) low s
          (λ posts front.
          ap (λ (b : Bool). not b || goes_to_client (posted_at posts message)) is_there
          ∙ (ap goes_to_client (known posts front) ∙ ap is_client to))
          (λ posts front one. record {
            message = m;
            known = known posts front;
            one = subst (λ (p : Sender). IsOneStep posts (reverse c.trace) n p (handed.Stop message) (s.step ∷ [])) (sym to)
                (subst (λ (k : ℕ). IsOneStep posts (reverse c.trace) n (sender.Node name) (handed.Stop k) (s.step ∷ [])) (sym is) one);
          }) refl

      -- it would stop one to the client
      pub stop_skips : (calls keep fill : ℕ) → m.to ≡ sender.Client → new.sent.items ≡ old.sent.items → (posts : List Posted) → IsFront (posts_of new.sent.items) posts
          → is_skipped posts (sent_so_far c) (event.Stop message calls keep fill) ≡ true
      stop_skips calls keep fill to sent posts front =
          let known = known_at_number posts (subst (λ (l : List Sent). IsFront (posts_of l) posts) sent front) in
          ap (λ (b : Bool). not b || goes_to_client (posted_at posts message)) is_there ∙ (ap goes_to_client known ∙ ap is_client to)

    -- it is dropped
    pub drop_done : posts_of new.sent.items ≡ posts_of old.sent.items → marks_of new.sent.items ≡ slice_set (marks_of old.sent.items) index true → new.lowest ≡ old.lowest
        → new.nodes.items ≡ old.nodes.items → new.client ≡ old.client → new.lines.items ≡ old.lines.items → new.geometry ≡ old.geometry → HasDone origin volume all n (event.Drop message) old new c
    drop_done posts marks lowest nodes client lines geometry =
        let dropped : List ℕ = (index + 1) ∷ c.dropped in
        let long = length-map old.sent.items mark_of in
        let marked : AreMarked (reverse c.trace) dropped new.lowest (marks_of new.sent.items) =
        subst (λ (k : ℕ). AreMarked (reverse c.trace) dropped k (marks_of new.sent.items)) (sym lowest) (subst (λ (l : List Bool). AreMarked (reverse c.trace) dropped old.lowest l) (sym marks)
        (marks_dropped (reverse c.trace) c.dropped old.lowest (marks_of old.sent.items) kept.marked index (omega (arith, inside, long)))) in
        let course : Course = record { trace = c.trace; dropped = dropped; told = c.told; lines = c.lines } in
        record {
          course = course;
          more = same_front (posts_of old.sent.items) (posts_of new.sent.items) posts;
          event = λ later front. no_step later n (event.Drop message) c dropped (ap not is_there) refl
              (sym (ap (λ (b : Bool). if b then message ∷ c.dropped else c.dropped) is_there ∙ ap (λ (k : ℕ). k ∷ c.dropped) is));
          kept = next_kept origin volume all n n new course (quiet_kept origin volume all n n old new c dropped c.lines kept posts marked nodes client (lines ∙ kept.lines) geometry) kept.some (omega arith) (omega (arith, low));
        }

module _ {g : Ghosts MemDisk} {lane : _} (origin : Origin) (volume : Volume) (all : List Event) (n : ℕ) (old new : World MemDisk g lane) (c : Course) (low : n < 2 ^ 32) (kept : IsKept origin volume all n n old c) where
  module _ (name : NodeName) (of : IsOfVolume old.geometry name) (place : ℕ) (there : place ≡ node_place old.geometry name)
      (sent : new.sent.items ≡ old.sent.items) (lowest : new.lowest ≡ old.lowest) (geometry : new.geometry ≡ old.geometry) (client : new.client ≡ old.client) (lines : new.lines.items ≡ old.lines.items) where
    pub crash_done : (keep fill : ℕ) → ChangesAt place old.nodes.items new.nodes.items (HasCrashed keep fill) → HasDone origin volume all n (event.Crash name keep fill) old new c
    crash_done keep fill change =
        stepped_done origin volume all n n (event.Crash name keep fill) old new c (sender.Node name) handed.Crash kept.some (omega arith) low
        (crash_kept origin volume all n n old new c kept name of place there sent lowest geometry client lines keep fill change) (λ posts front. refl) (λ posts front one. one) refl

    pub replace_done : ChangesAt place old.nodes.items new.nodes.items IsRenewed → HasDone origin volume all n (event.Replace name) old new c
    replace_done change =
        stepped_done origin volume all n n (event.Replace name) old new c (sender.Node name) handed.Replace kept.some (omega arith) low
        (replace_kept origin volume all n n old new c kept name of place there sent lowest geometry client lines change) (λ posts front. refl) (λ posts front one. one) refl

    pub fail_done : (call : ℕ) → event_at all n ≡ Some (event.Fail name call) → ChangesAt place old.nodes.items new.nodes.items (IsNamed call) → HasDone origin volume all n (event.Fail name call) old new c
    fail_done call asked change =
        failing_done origin volume all n name call old new c low asked kept (of_volume origin volume all n n old new c kept name of place there)
        (changes origin volume all n n old new c kept name of place there (IsNamed call) change) sent lowest client lines geometry

-- ---- how a node became another one

pub exactly : {D : Type 0} {g : Ghosts D} {lane : _} (old new : List (DiskNode D g lane)) (place there : ℕ) (How Less : DiskNode D g lane → DiskNode D g lane → Type 0) → place ≡ there → ((was is : DiskNode D g lane) → How was is → Less was is)
    → ChangesAt place old new How → ChangesAt there old new Less
exactly old new place there How Less is less change =
    let changed = subst (λ (p : ℕ). ChangesAt p old new How) is change in
    record { was = changed.was; is = changed.is; there = changed.there; set = changed.set; how = less changed.was changed.is changed.how }

-- from a world with the same nodes
pub from_lower : {D : Type 0} {g : Ghosts D} {lane : _} (party : Sender) (input : Input) (was mid now : World D g lane) → mid.nodes.items ≡ was.nodes.items → mid.geometry ≡ was.geometry → PassesAt party input mid now → PassesAt party input was now
from_lower sender.Client input was mid now nodes geometry passes = passes ∙ nodes
from_lower {D = D} {g = g} {lane = lane} (sender.Node name) input was mid now nodes geometry passes =
    subst (λ (l : List (DiskNode D g lane)). ChangesAt (node_place was.geometry name) l now.nodes.items (PassesOn input)) nodes
    (subst (λ (s : Shape). ChangesAt (node_place s name) mid.nodes.items now.nodes.items (PassesOn input)) geometry passes)

-- a node has handled the input
pub passed_at : {D : Type 0} {g : Ghosts D} {lane : _} (old new : List (DiskNode D g lane)) (place there : ℕ) (input given : Input) (outcome : Outcome) → place ≡ there → input ≡ given → ChangesAt place old new (HasAnswered input outcome)
    → ChangesAt there old new (PassesOn given)
passed_at {D = D} {g = g} {lane = lane} old new place there input given outcome is same change =
    exactly old new place there (HasAnswered input outcome) (PassesOn given) is (λ was now how. subst (λ (i : Input). PassesOn {D = D} {g = g} {lane = lane} i was now) same how.passes) change

-- ---- the ends of a message

pub message_within : {D : Type 0} {g : Ghosts D} {lane : _} (origin : Origin) (volume : Volume) (all : List Event) (b n : ℕ) (w : World D g lane) (c : Course) → IsKept origin volume all b n w c → (index : ℕ) (m : Sent) → slice_get w.sent.items index ≡ Some m
    → IsPartyOfVolume w.geometry m.from × IsPartyOfVolume w.geometry m.to
message_within origin volume all b n w c kept index m at =
    let P : Shape → Posted → Type 0 = λ s p. IsPartyOfVolume s p.from × IsPartyOfVolume s p.to in
    let here : P volume.geometry (posted m) = among_all (P volume.geometry) (posts_of w.sent.items) (posted m) (get_among (posts_of w.sent.items) index (posted m) (posted_sent w.sent.items index m at)) kept.within in
    subst (λ (s : Shape). P s (posted m)) (sym kept.geometry) here

-- the same one, as it was posted
pub same_message : (sent : List Sent) (index : ℕ) (m : Sent) (p : Posted) → slice_get sent index ≡ Some m → slice_get (posts_of sent) index ≡ Some p → posted m ≡ p
same_message sent index m p at also = same_Some (posted m) p (sym (posted_sent sent index m at) ∙ also)

-- the message of an index, by its number
pub index_posted : (sent : List Sent) (index : ℕ) (m : Posted) → index < length sent → posted_at (posts_of sent) (index + 1) ≡ Some m → slice_get (posts_of sent) index ≡ Some m
index_posted sent index m inside at =
    let up : nat_lt 0 (index + 1) ≡ true = lt-ltb 0 (index + 1) (omega arith) in
    sym (ap (λ (b : Bool). if b then slice_get (posts_of sent) (index + 1 - 1) else None) up ∙ ap (λ (k : ℕ). slice_get (posts_of sent) k) (omega arith)) ∙ at

pub same_posted : (sent : List Sent) (message index : ℕ) (m p : Posted) → message ≡ index + 1 → slice_get (posts_of sent) index ≡ Some m → posted_at (posts_of sent) message ≡ Some p → m ≡ p
same_posted sent message index m p is there at =
    same_Some m p (sym (ap (λ (k : ℕ). posted_at (posts_of sent) k) is ∙ posted_index (posts_of sent) (posts_of sent) index m (whole_front (posts_of sent)) there) ∙ at)

-- no node stops on one to the client
pub client_stops : (sent : List Sent) (message index : ℕ) (m p : Posted) (name : NodeName) → message ≡ index + 1 → slice_get (posts_of sent) index ≡ Some m → m.to ≡ sender.Client
    → posted_at (posts_of sent) message ≡ Some p → p.to ≡ sender.Node name → ⊥
client_stops sent message index m p name is there to at also =
    let same : m ≡ p = same_posted sent message index m p is there at in
    let both : sender.Client ≡ sender.Node name = sym to ∙ (ap (λ (q : Posted). q.to) same ∙ also) in
    cc

-- ---- what a schedule in its limits gives

-- the same where the event is one of these
pub within_at : (shape : Shape) (e f : Event) → e ≡ f → IsEventWithin shape e → IsEventWithin shape f
within_at shape e f is within = subst (λ (x : Event). IsEventWithin shape x) is within

pub unsent : {D : Type 0} {g : Ghosts D} {lane : _} (origin : Origin) (volume : Volume) (all : List Event) (n : ℕ) (w : World D g lane) (c : Course) → IsKept origin volume all n n w c → (k : ℕ) → is_sent (length w.sent.items) k ≡ false → is_sent (sent_so_far c) k ≡ false
unsent origin volume all n w c kept k none = ap (λ (count : ℕ). is_sent count k) kept.count ∙ none

-- a message that isn't sent is none
pub none_sent : (sent : List Sent) (message : ℕ) (p : Posted) → is_sent (length sent) message ≡ false → posted_at (posts_of sent) message ≡ Some p → ⊥
none_sent sent message p none at =
    let long = length-map sent posted in
    not_there (posts_of sent) message p at (ap (λ (count : ℕ). is_sent count message) long ∙ none)
  where
    far : {A : Type 0} (xs : List A) (i : ℕ) (x : A) → slice_get xs i ≡ Some x → i < length xs
    far [] i x at = absurd (none-some x at)
    far (y ∷ xs) zero x at = omega arith
    far (y ∷ xs) (suc i) x at = let rest = far xs i x at in omega (arith, rest)

    not_there : (posts : List Posted) (k : ℕ) (p : Posted) → posted_at posts k ≡ Some p → is_sent (length posts) k ≡ false → ⊥
    not_there posts k p at none =
        by_bool (nat_lt 0 k) ⊥
        (λ e.
        let up : 0 < k = ltb-true 0 k e in
        let low = far posts (k - 1) p (sym (ap (λ (b : Bool). if b then slice_get posts (k - 1) else None) e) ∙ at) in
        let here : is_sent (length posts) k ≡ true = index_sent (length posts) k (k - 1) (omega (arith, up)) low in
        absurd (false≢true (sym none ∙ here)))
        (λ e. none-some p (sym (ap (λ (b : Bool). if b then slice_get posts (k - 1) else None) e) ∙ at))

-- the node has handled the message while its disk stopped
pub stopped_exact : {g : Ghosts MemDisk} {lane : _} (outcome : Outcome) (calls keep fill : ℕ) (input : Input) (p : Posted) → input ≡ input_of_post p → (old new : List (DiskNode MemDisk g lane)) (place there : ℕ) → place ≡ there
    → ChangesAt place old new (HasStopped calls keep fill input outcome) → ChangesAt there old new (StopsOn calls keep fill p)
stopped_exact outcome calls keep fill input p same old new place there is change =
    let changed = subst (λ (k : ℕ). ChangesAt k old new (HasStopped calls keep fill input outcome)) is change in
    record { was = changed.was; is = changed.is; there = changed.there; set = changed.set; how = (outcome, subst (λ (i : Input). IsStopping calls keep fill i outcome changed.was changed.is) same changed.how.exact) }
