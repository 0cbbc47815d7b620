-- In a quiet run each message of a node to a node, sent since it began its session, was posted, and was handed over in a later step,
-- as it was sent.
use Rattle.std.proofs.Common.{◌≡◌, ◌∙◌, inl, inr, ⊎_elim, ℕ, ◌+◌, ◌<◌, ◌≤◌, Bool, true, false, if◌then◌else◌, List, [], ◌∷◌, ◌++◌, Option, None, Some, refl, sym, ap, subst, arith, append_assoc, append-nil, eqb-true}
use Rattle.std.specs.Prelude.{IfSome, option_map, Ok}
use Rattle.std.specs.List.{AllByRecursion}
use Rattle.std.proofs.lemmas.Bool.{false≢true}
use Rattle.salus_types.specs.Volume.{Shape}
use Rattle.salus_types.specs.declared.names.NodeName.{NodeName}
use Rattle.salus_types.specs.declared.names.Sender.{Sender}
use Rattle.salus_types.specs.declared.names.Sender.TheVariants as sender
use Rattle.salus_message.specs.declared.wire.Message.{Message}
use Rattle.salus_message.specs.declared.wire.Message.TheVariants as message
use Rattle.salus_message.specs.Reading.{message_at}
use Rattle.salus_message.specs.Spelling.{message_bytes}
use Rattle.salus_message.proofs.MessageLaws.{message_again}
use Rattle.schedule_text.specs.Limits.{IsWithinLimits, IsOfVolume}
use Rattle.schedule_text.specs.declared.schedule.Volume.{Volume}
use Rattle.schedule_text.specs.declared.schedule.Event.{Event}
use Rattle.merkle_region.specs.Tree.{IsAmong, NoTwoCollide}
use Rattle.merkle_region.proofs.Membership.{among_either}
use Rattle.volume_model.specs.Groups.{is_client, same_party}
use Rattle.volume_model.specs.Parts.{Session}
use Rattle.salus_model.specs.declared.trace.TraceStep.{TraceStep}
use Rattle.salus_model.specs.declared.trace.Handed.{Handed}
use Rattle.salus_model.specs.declared.trace.Handed.TheVariants as handed
use Rattle.salus_model.specs.Judge.{Judge}
use Rattle.salus_model.specs.Following.{Posted, posted_at, sent_by, hands, Follows}
use Rattle.salus_model.specs.Forgery.{NoForgery}
use Rattle.salus_model.specs.Guarding.{is_lied_for}
use Rattle.salus_model.specs.Hearing.{Past, judge_of}
use Rattle.salus_model.specs.Due.{past_of, history_from}
use Rattle.salus_model.specs.Complete.{IsSound}
use Rattle.salus_model.specs.Quiet.{Quiet}
use Rattle.salus_model.specs.Seen.{strings_of, NoCollision}
use Rattle.client_rules.specs.State as state
use Rattle.client_rules.specs.Rules.{new_client}
use Rattle.replica_rules.specs.Rules.{Sending, Receives}
use Rattle.run_rules.specs.Calm.{Calm}
use Rattle.run_rules.specs.Knowing.{KnownNode, fresh, input_of_post, input_of, outs_to}
use Rattle.run_rules.specs.Run.{IsByRules, formatted_first}
use Rattle.run_rules.specs.Running.{addresses, known_of, AllSteps, formatted}
use Rattle.list_lemmas.proofs.Each.{all_split}
use Rattle.list_lemmas.proofs.Members.{among_all, any_among}
use Rattle.law_lemmas.proofs.Named.{node-itself}
use Rattle.law_lemmas.proofs.WellSent.{AreWellSent}
use Rattle.law_history.proofs.Steps.{steps_of_all}
use Rattle.law_reads.proofs.Events.{Of, hands_own}
use Rattle.law_reads.proofs.Underway as underway
use Rattle.law_reads.proofs.Underway.{between_from}
use Rattle.law_asked.proofs.Along as asked
use Rattle.law_asked.proofs.Run.{first_along, run_given}
use Rattle.law_claimed.specs.Handling.{outs_of_all}
use Rattle.law_complete.proofs.FaultsQuietly.{none_lied, quiet_sound}
use Rattle.law_complete.specs.Beginning.{input_at, inputs_in, node_after, HasBegun}
use Rattle.law_complete.proofs.Handing.{posted_within}
use Rattle.law_complete.proofs.Licensed.{claim_known}
use Rattle.law_complete.proofs.Sent.{IsCalmFor, posting, sent_past, WasSent, outs_sent, speaks_along, known_behind, steps_behind, calm_all}
use Rattle.law_complete.proofs.VotesWide.{vote_wide}
use Rattle.law_complete.proofs.SentWords.{IsWord, IsWordOrTo, outs_words}

-- ---- the number of messages sent

module _ (shape : Shape) (posts : List Posted) (name : NodeName) where
  past_behind : (xs ys : List TraceStep) (before : ℕ) → sent_past shape posts name before (xs ++ ys) ≡ sent_past shape posts name (sent_past shape posts name before xs) ys
  unfolding sent_past
  past_behind [] ys before = refl
  past_behind (x ∷ xs) ys before = past_behind xs ys x.sent

  past_rises : (xs ys earlier : List TraceStep) → AreWellSent posts earlier (xs ++ ys) → sent_by earlier ≤ sent_past shape posts name (sent_by earlier) xs
  unfolding sent_past AreWellSent
  past_rises [] ys earlier well = omega arith
  past_rises (x ∷ xs) ys earlier well =
      let more : sent_by earlier ≤ x.sent = well.0.more in
      let on : x.sent ≤ sent_past shape posts name x.sent xs = past_rises xs ys (x ∷ earlier) well.1 in
      omega (arith, more, on)

  -- what was handed over till a step was sent before it
  handed_low : (xs : List TraceStep) (t : TraceStep) (ys earlier : List TraceStep) → AreWellSent posts earlier (xs ++ t ∷ ys) → (u : TraceStep) → IsAmong u (xs ++ t ∷ []) → (k : ℕ) → hands k u.handed ≡ true
      → k ≤ sent_past shape posts name (sent_by earlier) xs
  unfolding sent_past AreWellSent
  handed_low [] t ys earlier well u (inl same) k hit = (well.0.before k (subst (λ (s : TraceStep). hands k s.handed ≡ true) same hit)).1
  handed_low [] t ys earlier well u (inr nothing) k hit = absurd nothing
  handed_low (x ∷ xs) t ys earlier well u (inl same) k hit =
      let low : k ≤ sent_by earlier = (well.0.before k (subst (λ (s : TraceStep). hands k s.handed ≡ true) same hit)).1 in
      let more : sent_by earlier ≤ x.sent = well.0.more in
      let on : x.sent ≤ sent_past shape posts name x.sent xs = past_rises xs (t ∷ ys) (x ∷ earlier) well.1 in
      omega (arith, low, more, on)
  handed_low (x ∷ xs) t ys earlier well u (inr later) k hit = handed_low xs t ys (x ∷ earlier) well.1 u later k hit

-- ---- what a step hands over

handed_input : (posts : List Posted) (k : ℕ) (post : Posted) → posted_at posts k ≡ Some post → (what : Handed) → hands k what ≡ true → input_of posts what ≡ Some (input_of_post post)
handed_input posts k post at (handed.Deliver j) hit = ap (λ (n : ℕ). option_map (λ m. input_of_post m) (posted_at posts n)) (eqb-true j k hit) ∙ ap (λ (o : Option Posted). option_map (λ m. input_of_post m) o) at
handed_input posts k post at (handed.Stop j) hit = ap (λ (n : ℕ). option_map (λ m. input_of_post m) (posted_at posts n)) (eqb-true j k hit) ∙ ap (λ (o : Option Posted). option_map (λ m. input_of_post m) o) at
handed_input posts k post at (handed.Asked r) hit = absurd (false≢true hit)
handed_input posts k post at (handed.Lie from bytes) hit = absurd (false≢true hit)
handed_input posts k post at handed.Tick hit = absurd (false≢true hit)
handed_input posts k post at handed.Crash hit = absurd (false≢true hit)
handed_input posts k post at handed.Replace hit = absurd (false≢true hit)
handed_input posts k post at handed.ClientCrash hit = absurd (false≢true hit)

-- ---- at the end of a run

module _ (volume : Volume) (events : List Event) (posts : List Posted) (trace : List TraceStep) (limits : IsWithinLimits (record { volume = volume; events = events })) (strings : List (List ℕ)) (none : NoTwoCollide strings)
    (unlied : is_lied_for events sender.Client ≡ false) (name : NodeName) (sound : IsSound events trace name)
    (right : AllSteps volume.geometry posts name (fresh volume.geometry name.region (formatted volume name)) 0 trace) where
  abbrev Along : List TraceStep → List Past → ℕ → ℕ → state.Client → KnownNode → Type 0
  Along done history n top c known = asked.IsAlong volume events posts trace limits strings none unlied name sound right done history n top c known

  abbrev GivenOf : List Past → ℕ → ℕ → state.Client → KnownNode → List TraceStep → List TraceStep → Type 0
  GivenOf history n m c known done rest = asked.AreGiven volume events posts trace limits strings none unlied name sound right history n m c known done rest

  pub record IsEnd (done : List TraceStep) (history : List Past) : Type 0 where
    pub n : ℕ
    pub top : ℕ
    pub c : state.Client
    pub known : KnownNode
    pub along : Along done history n top c known

  pub end_from : (steps done : List TraceStep) (history : List Past) (n top : ℕ) (c : state.Client) (known : KnownNode) → Along done history n top c known → GivenOf history n (top + 1) c known done steps
      → IsEnd (done ++ steps) (history_from volume events posts history steps)
  unfolding history_from
  end_from [] done history n top c known a given = subst (λ (l : List TraceStep). IsEnd l history) (sym (append-nil done)) (record { n = n; top = top; c = c; known = known; along = a })
  end_from (t ∷ steps) done history n top c known a given =
      subst (λ (l : List TraceStep). IsEnd l (history_from volume events posts (past_of volume events posts history t ∷ history) steps)) (append_assoc done (t ∷ []) steps)
      (end_from steps (done ++ t ∷ []) (past_of volume events posts history t ∷ history) _ _ _ _ (asked.along_then volume events posts trace limits strings none unlied name sound right done history n top c known a t steps given)
      (asked.given_then volume events posts trace limits strings none unlied name sound right done history n top c known a t steps given))

-- The node sent the message in a step since it began its session, and a step behind that one handed it over.
pub record IsCarried (volume : Volume) (posts : List Posted) (p q : NodeName) (trace : List TraceStep) (known : Session) (b : HasBegun volume posts known p trace) (m : Message) : Type 0 where
  pub done : List TraceStep
  pub t : TraceStep
  pub rest : List TraceStep
  pub whole : b.since ≡ done ++ t ∷ rest
  pub mine : addresses p t ≡ true
  pub sent : IsAmong (record { to = sender.Node q; message = m })
      (outs_to volume.geometry p.region posts (known_of volume.geometry posts p (fresh volume.geometry p.region (formatted volume p)) (b.first ++ done)) t.handed t.failed)
  pub u : TraceStep
  pub behind : IsAmong u rest
  pub bytes : List ℕ
  pub input : input_at posts q u ≡ Some (Receives (sender.Node p) bytes)
  pub reads : message_at bytes ≡ Ok m

module _ (volume : Volume) (events : List Event) (posts : List Posted) (trace : List TraceStep) (limits : IsWithinLimits (record { volume = volume; events = events })) (follows : Follows events posts trace)
    (apart : NoCollision volume events posts trace) (unforged : NoForgery volume events posts trace) (calm : Calm events trace) (by : IsByRules volume (formatted_first volume) posts trace) (quiet : Quiet events posts trace)
    (p q : NodeName) (inside : IsOfVolume volume.geometry p) (known : Session) (b : HasBegun volume posts known p trace) (m : Message)
    (among : IsAmong (record { to = sender.Node q; message = m }) (outs_of_all volume.geometry p.region (node_after volume posts p b.first) (inputs_in posts p b.since))) where
  abbrev shape : Shape
  shape = volume.geometry

  abbrev start : KnownNode
  start = fresh shape p.region (formatted volume p)

  abbrev history : List Past
  history = history_from volume events posts [] trace

  abbrev judge : Judge
  judge = judge_of shape events history

  abbrev strings : List (List ℕ)
  strings = strings_of shape history

  abbrev none : NoTwoCollide strings
  none = steps_of_all volume events posts trace apart

  abbrev unlied : is_lied_for events sender.Client ≡ false
  unlied = none_lied events quiet.events_quiet sender.Client

  abbrev sound : IsSound events trace p
  sound = quiet_sound events quiet.events_quiet posts trace follows p

  abbrev right : AllSteps shape posts p start 0 trace
  right = by.nodes p

  given : asked.AreGiven volume events posts trace limits strings none unlied p sound right [] 1 2 (new_client shape) start [] trace
  given = run_given volume events posts trace limits follows apart unforged by unlied p sound

  end : IsEnd volume events posts trace limits strings none unlied p sound right trace history
  end = end_from volume events posts trace limits strings none unlied p sound right trace [] [] 1 1 (new_client shape) start (first_along volume events posts trace limits strings none unlied p sound right) given

  -- ---- it is sent

  abbrev out : Sending
  out = record { to = sender.Node q; message = m }

  calm_both : AllByRecursion (IsCalmFor shape posts p) b.first × AllByRecursion (IsCalmFor shape posts p) b.since
  calm_both =
      all_split (IsCalmFor shape posts p) b.first b.since
      (subst (λ (l : List TraceStep). AllByRecursion (IsCalmFor shape posts p) l) b.whole (calm_all shape events posts trace p sound start right calm given.of))

  went : WasSent shape posts p (known_of shape posts p start b.first) (sent_past shape posts p 0 b.first) b.since out
  went =
      outs_sent shape posts p b.since (known_of shape posts p start b.first) (sent_past shape posts p 0 b.first) (speaks_along shape posts p b.first start refl calm_both.0)
      (steps_behind shape posts p b.first b.since start 0 (subst (λ (l : List TraceStep). AllSteps shape posts p start 0 l) b.whole right)) calm_both.1 out among

  abbrev front : List TraceStep
  front = b.first ++ went.done

  place : trace ≡ front ++ went.t ∷ went.rest
  place = b.whole ∙ (ap (λ (l : List TraceStep). b.first ++ l) went.whole ∙ sym (append_assoc b.first went.done (went.t ∷ went.rest)))

  sent_there : IsAmong out (outs_to shape p.region posts (known_of shape posts p start front) went.t.handed went.t.failed)
  sent_there = subst (λ (k : KnownNode). IsAmong out (outs_to shape p.region posts k went.t.handed went.t.failed)) (sym (known_behind shape posts p b.first went.done start)) went.sent

  -- ---- it is read as it was sent

  word : IsWord m
  word =
      ⊎_elim (λ (same : sender.Node q ≡ sender.Client). absurd (false≢true (ap is_client same))) (λ (is : IsWord m). is)
      (among_all IsWordOrTo (outs_to shape p.region posts (known_of shape posts p start front) went.t.handed went.t.failed) out sent_there (outs_words shape p.region posts (known_of shape posts p start front) went.t.handed went.t.failed))

  reads_back : (x : Message) → IsWord x → m ≡ x → message_at (message_bytes x) ≡ Ok x
  reads_back (message.Prepared v) is same =
      message_again (message.Prepared v) tt (vote_wide volume events posts trace p inside.0 right given.given front went.t went.rest place went.mine out sent_there v same)
  reads_back (message.Committed c) is same =
      message_again (message.Committed c) tt
      (claim_known volume events posts trace limits p inside.0 right given.given judge end.along.standing.settled.sized end.along.standing.reached.first end.along.letters front went.t went.rest place went.mine out sent_there c same).small
  reads_back (message.Part x) nothing same = absurd nothing
  reads_back (message.Ask x) nothing same = absurd nothing
  reads_back (message.Answer x) nothing same = absurd nothing
  reads_back (message.Gather x) nothing same = absurd nothing
  reads_back (message.Gathered x) nothing same = absurd nothing
  reads_back (message.Stage x) nothing same = absurd nothing
  reads_back (message.Staged x) nothing same = absurd nothing
  reads_back (message.Switch x) nothing same = absurd nothing
  reads_back (message.Switched x) nothing same = absurd nothing
  reads_back (message.Dump x) nothing same = absurd nothing
  reads_back (message.Dumped x) nothing same = absurd nothing

  -- ---- it is handed over

  abbrev post : Posted
  post = posting shape posts p out

  number : underway.IsBetween posts (sent_past shape posts p (sent_past shape posts p 0 b.first) went.done) went.t.sent post
  number = between_from posts (sent_past shape posts p (sent_past shape posts p 0 b.first) went.done) went.t.sent post went.posted

  above : sent_past shape posts p 0 front < number.k
  above = subst (λ (n : ℕ). n < number.k) (sym (past_behind shape posts p b.first went.done 0)) number.low

  counted : 0 < number.k
  counted = (let low = above in omega (arith, low))

  handing : (u : TraceStep) × IsAmong u trace × (hands number.k u.handed ≡ true)
  handing = any_among (λ (s : TraceStep). hands number.k s.handed) trace (quiet.all_handed number.k counted (posted_within posts number.k post counted number.at))

  abbrev step : TraceStep
  step = handing.0

  whole_then : trace ≡ (front ++ went.t ∷ []) ++ went.rest
  whole_then = place ∙ sym (append_assoc front (went.t ∷ []) went.rest)

  step_behind : IsAmong step went.rest
  step_behind =
      ⊎_elim (λ (early : IsAmong step (front ++ went.t ∷ [])).
      (let low : number.k ≤ sent_past shape posts p 0 front =
      handed_low shape posts p front went.t went.rest [] (subst (λ (l : List TraceStep). AreWellSent posts [] l) place given.well) step early number.k handing.2 in
      let up = above in absurd (omega (arith, low, up))))
      (λ (late : IsAmong step went.rest). late)
      (among_either step (front ++ went.t ∷ []) went.rest (subst (λ (l : List TraceStep). IsAmong step l) whole_then handing.1))

  party : step.party ≡ sender.Node q
  party =
      sym
      (subst (λ (o : Option Posted). IfSome o (λ x. x.to ≡ step.party)) number.at (hands_own events posts step (among_all (Of events posts) trace step handing.1 given.of) number.k handing.2))

  mine_to : addresses q step ≡ true
  mine_to = ap (λ (w : Sender). same_party w (sender.Node q)) party ∙ node-itself q

  input_there : input_at posts q step ≡ Some (Receives (sender.Node p) (message_bytes m))
  input_there = ap (λ (w : Bool). if w then input_of posts step.handed else None) mine_to ∙ handed_input posts number.k post number.at step.handed handing.2

  pub carried : IsCarried volume posts p q trace known b m
  carried = record {
    done = went.done;
    t = went.t;
    rest = went.rest;
    whole = went.whole;
    mine = went.mine;
    sent = sent_there;
    u = step;
    behind = step_behind;
    bytes = message_bytes m;
    input = input_there;
    reads = reads_back m word refl;
  }
