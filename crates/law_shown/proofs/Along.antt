-- Along the trace: each record that a step shows as held was handed to its node before, or is formatted.
use Rattle.std.proofs.Common.{◌≡◌, ◌∙◌, ◌⊎◌, inl, inr, ⊎_elim, ℕ, ◌<◌, ◌≤◌, Bool, true, List, [], ◌∷◌, ◌++◌, Option, None, Some, refl, sym, ap, subst, append_assoc}
use Rattle.std.specs.Prelude.{IfSome}
use Rattle.std.proofs.lemmas.Bool.{eq-eqb}
use Rattle.salus_types.specs.Volume.{Shape, regions, IsVolume}
use Rattle.salus_types.specs.declared.names.NodeName.{NodeName}
use Rattle.salus_types.specs.declared.names.Sender.{Sender}
use Rattle.salus_types.specs.declared.names.Sender.TheVariants as sender
use Rattle.salus_types.specs.declared.records.Record.{Record}
use Rattle.salus_types.specs.declared.records.Held.{Held}
use Rattle.salus_message.specs.declared.wire.Message.{Message}
use Rattle.salus_message.specs.declared.wire.Message.TheVariants as message
use Rattle.salus_message.specs.Spelling.{message_bytes}
use Rattle.salus_message.specs.Reading.{message_at}
use Rattle.merkle_region.specs.Tree.{IsAmong}
use Rattle.schedule_text.specs.declared.schedule.Volume.{Volume}
use Rattle.schedule_text.specs.declared.schedule.Event.{Event}
use Rattle.schedule_text.specs.Limits.{IsPartyOfVolume}
use Rattle.volume_model.specs.Groups.{same_node, same_party}
use Rattle.salus_model.specs.declared.trace.TraceStep.{TraceStep}
use Rattle.salus_model.specs.Following.{Posted, posted_at, sent_by, Follows}
use Rattle.salus_model.specs.Hearing.{Says, news_of_message, news_from, news_of_post}
use Rattle.salus_model.specs.Licences.{letters_to}
use Rattle.replica_rules.specs.Rules.{Sending}
use Rattle.run_rules.specs.Knowing.{KnownNode, fresh, outs_to}
use Rattle.run_rules.specs.Running.{posts_between, addresses, after, known_of, IsNodeStep, IsStepOf, AllSteps, NodesByRules, formatted}
use Rattle.list_lemmas.proofs.Lists.{among_between}
use Rattle.list_lemmas.proofs.Members.{among_map, among_all}
use Rattle.list_lemmas.proofs.Each.{all_both}
use Rattle.law_lemmas.proofs.WellSent.{IsWellSent, AreWellSent, well_sent}
use Rattle.law_history.specs.Showing.{records_shown}
use Rattle.law_history.specs.Handing.{WasHanded, IsFormatted, ShowsHanded, NodesShowHanded}
use Rattle.law_handed.specs.Bringing.{records_held, HasOrigin, TellsWhatWasHanded}
use Rattle.law_handed.specs.Fitting.{ShowsFitting}
use Rattle.law_handed.proofs.Origins.{gathered_was_handed}
use Rattle.law_handed.proofs.Ranged.{shown_fits}
use Rattle.law_shown.specs.Reading.{HandsSpelled, AllHandSpelled, AllAddressed}
use Rattle.law_shown.proofs.Rereading.{shown_again}
use Rattle.law_shown.proofs.Formatting.{formatted_fits}
use Rattle.law_shown.proofs.Bringing.{all_spelled, brought_in}

-- ---- lists

-- ---- a message between two counts

-- ---- a front part of a node's steps

unfoldable last_sent : ℕ → List TraceStep → ℕ
last_sent before [] = before
last_sent before (t ∷ steps) = last_sent t.sent steps

module _ (shape : Shape) (posts : List Posted) (name : NodeName) where
  front_steps : (known : KnownNode) (before : ℕ) (xs ys : List TraceStep) → AllSteps shape posts name known before (xs ++ ys) → AllSteps shape posts name known before xs
  unfolding AllSteps
  front_steps known before [] ys right = tt
  front_steps known before (t ∷ xs) ys right = (right.0, front_steps (after shape posts name known t) t.sent xs ys right.1)

  back_steps : (known : KnownNode) (before : ℕ) (xs ys : List TraceStep) → AllSteps shape posts name known before (xs ++ ys) → AllSteps shape posts name (known_of shape posts name known xs) (last_sent before xs) ys
  unfolding AllSteps known_of last_sent
  back_steps known before [] ys right = right
  back_steps known before (t ∷ xs) ys right = back_steps (after shape posts name known t) t.sent xs ys right.1

  first_step : (known : KnownNode) (before : ℕ) (t : TraceStep) (steps : List TraceStep) → AllSteps shape posts name known before (t ∷ steps) → addresses name t ≡ true → IsNodeStep shape posts name known before t
  unfolding AllSteps
  first_step known before t steps right own = subst (λ (b : Bool). IsStepOf b shape posts name known before t) own right.0

last_more : (before : ℕ) (xs : List TraceStep) (t : TraceStep) → last_sent before (xs ++ t ∷ []) ≡ t.sent
unfolding last_sent
last_more before [] t = refl
last_more before (x ∷ xs) t = last_more x.sent xs t

-- ---- what a step shows

module _ (volume : Volume) (posts : List Posted) (limits : IsVolume volume.geometry) where
  -- the steps before, in order and with the newest first
  record IsPast (done earlier : List TraceStep) : Type 0 where
    pub count : sent_by earlier ≡ last_sent 0 done
    pub inside : (x : TraceStep) → IsAmong x done → IsAmong x earlier
    pub given : AllHandSpelled posts done

  -- what is held has its origin in what was handed over
  origin : (name : NodeName) (t : TraceStep) (done earlier : List TraceStep) (rec : Record) → IsPast done earlier → name.region < regions volume.geometry
      → HasOrigin (formatted volume name) (letters_to posts name done) rec → WasHanded posts (sender.Node name) (t ∷ earlier) rec ⊎ IsFormatted volume rec
  origin name t done earlier rec past inside (inl (inl same)) = inr (record { g = name.region; is = record { inside = inside; is = same } })
  origin name t done earlier rec past inside (inl (inr nothing)) = absurd nothing
  origin name t done earlier rec past inside (inr (inl part)) =
      let was = brought_in posts name (record { from = sender.Client; message = message.Part (record { rec = rec }) }) rec refl (inl refl) done part in
      inl (record { step = was.step; among = inr (past.inside was.step was.among); addressed = was.addressed; hands_it = was.hands_it })
  origin name t done earlier rec past inside (inr (inr stage)) =
      let was = brought_in posts name (record { from = sender.Client; message = message.Stage (record { base = record { rec = rec; blocks = stage.0 } }) }) rec refl (inl refl) done stage.1 in
      inl (record { step = was.step; among = inr (past.inside was.step was.among); addressed = was.addressed; hands_it = was.hands_it })

  told_origin : (name : NodeName) (done : List TraceStep) (m : Message) (rec : Record) → TellsWhatWasHanded (formatted volume name) (letters_to posts name done) m
      → IsAmong rec (records_shown (Says name m)) → HasOrigin (formatted volume name) (letters_to posts name done) rec
  told_origin name done (message.Gathered m) rec tells among = among_all (HasOrigin (formatted volume name) (letters_to posts name done)) (records_held m.held) rec among tells
  told_origin name done (message.Part m) rec tells nothing = absurd nothing
  told_origin name done (message.Prepared m) rec tells nothing = absurd nothing
  told_origin name done (message.Committed m) rec tells nothing = absurd nothing
  told_origin name done (message.Ask m) rec tells nothing = absurd nothing
  told_origin name done (message.Answer m) rec tells nothing = absurd nothing
  told_origin name done (message.Gather m) rec tells nothing = absurd nothing
  told_origin name done (message.Stage m) rec tells nothing = absurd nothing
  told_origin name done (message.Staged m) rec tells nothing = absurd nothing
  told_origin name done (message.Switch m) rec tells nothing = absurd nothing
  told_origin name done (message.Switched m) rec tells nothing = absurd nothing
  told_origin name done (message.Dump m) rec tells nothing = absurd nothing
  told_origin name done (message.Dumped m) rec tells nothing = absurd nothing

  node_shows : (name : NodeName) (t : TraceStep) (done earlier steps : List TraceStep) → IsPast done earlier → t.party ≡ sender.Node name → name.region < regions volume.geometry
      → AllSteps volume.geometry posts name (fresh volume.geometry name.region (formatted volume name)) 0 (done ++ t ∷ steps)
      → (k : ℕ) (rec : Record) (m : Posted) → posted_at posts k ≡ Some m → sent_by earlier < k → k ≤ t.sent → IsAmong rec (records_shown (news_of_post (Some m)))
      → WasHanded posts (sender.Node name) (t ∷ earlier) rec ⊎ IsFormatted volume rec
  node_shows name t done earlier steps past party inside right k rec m at low high among =
      let shape : Shape = volume.geometry in
      let first : Held = formatted volume name in
      let known : KnownNode = known_of shape posts name (fresh shape name.region first) done in
      let outs : List Sending = outs_to shape name.region posts known t.handed t.failed in
      let front : AllSteps shape posts name (fresh shape name.region first) 0 done = front_steps shape posts name (fresh shape name.region first) 0 done (t ∷ steps) right in
      let own : addresses name t ≡ true = ap (λ (p : Sender). same_party p (sender.Node name)) party ∙ same_name name in
      let step : IsNodeStep shape posts name known (last_sent 0 done) t = first_step shape posts name known (last_sent 0 done) t steps (back_steps shape posts name (fresh shape name.region first) 0 done (t ∷ steps) right) own in
      let between : IsAmong m (posts_between posts (last_sent 0 done) t.sent) = among_between posts (last_sent 0 done) t.sent k m at (subst (λ (n : ℕ). n < k) past.count low) high in
      let from = among_map {A = Sending} {B = Posted} (λ out. record { from = sender.Node name; to = out.to; bytes = message_bytes out.message }) m outs (subst (λ (l : List Posted). IsAmong m l) step.messages between) in
      let out : Sending = from.0 in
      let tells : TellsWhatWasHanded first (letters_to posts name done) out.message =
      among_all (λ o. TellsWhatWasHanded first (letters_to posts name done) o.message) outs out from.1 (gathered_was_handed first shape posts name done front t.handed t.failed) in
      let fits : ShowsFitting shape out.message =
      among_all (λ o. ShowsFitting shape o.message) outs out from.1 (shown_fits shape posts name first done front (formatted_fits volume name limits inside) (all_spelled posts name done past.given) t.handed t.failed) in
      let read : IsAmong rec (records_shown (news_of_message name (message_at (message_bytes out.message)))) = subst (λ (p : Posted). IsAmong rec (records_shown (news_from p.from p.bytes))) from.2 among in
      let shown : IsAmong rec (records_shown (Says name out.message)) = subst (λ (l : List Record). IsAmong rec l) (shown_again name shape limits out.message fits) read in
      origin name t done earlier rec past inside (told_origin name done out.message rec tells shown)
    where
      same_name : (name : NodeName) → same_node name name ≡ true
      same_name name = rw (eq-eqb name.region name.region refl, eq-eqb name.replica name.replica refl) refl

  client_shows : (m : Posted) (rec : Record) (P : Type 0) → m.from ≡ sender.Client → IsAmong rec (records_shown (news_of_post (Some m))) → P
  client_shows m rec P from among = absurd (subst (λ (s : Sender). IsAmong rec (records_shown (news_from s m.bytes))) from among)

  step_shows : (party : Sender) (t : TraceStep) (done earlier steps : List TraceStep) → IsPast done earlier → t.party ≡ party → IsPartyOfVolume volume.geometry party
      → NodesByRules volume.geometry (formatted volume) posts (done ++ t ∷ steps) → IsWellSent posts earlier t
      → (k : ℕ) (rec : Record) (o : Option Posted) → posted_at posts k ≡ o → sent_by earlier < k → k ≤ t.sent → IsAmong rec (records_shown (news_of_post o))
      → WasHanded posts party (t ∷ earlier) rec ⊎ IsFormatted volume rec
  step_shows party t done earlier steps past same of right sent k rec None at low high nothing = absurd nothing
  step_shows sender.Client t done earlier steps past same of right sent k rec (Some m) at low high among =
      let own : m.from ≡ t.party = subst (λ (o : Option Posted). IfSome o (λ p. p.from ≡ t.party)) at (sent.own k low high) in
      client_shows m rec _ (own ∙ same) among
  step_shows (sender.Node name) t done earlier steps past same of right sent k rec (Some m) at low high among =
      node_shows name t done earlier steps past same of.0 (right name) k rec m at low high among

  shows : (t : TraceStep) (done earlier steps : List TraceStep) → IsPast done earlier → IsPartyOfVolume volume.geometry t.party
      → NodesByRules volume.geometry (formatted volume) posts (done ++ t ∷ steps) → IsWellSent posts earlier t → ShowsHanded volume posts earlier t
  shows t done earlier steps past of right sent = λ k rec low high among genuine. step_shows t.party t done earlier steps past refl of right sent k rec (posted_at posts k) refl low high among

  past_more : (t : TraceStep) (done earlier : List TraceStep) → HandsSpelled posts t.handed → IsPast done earlier → IsPast (done ++ t ∷ []) (t ∷ earlier)
  past_more t done earlier given past = record {
    count = sym (last_more 0 done t);
    inside = λ x at. inside_more x at;
    given = all_both (λ s. HandsSpelled posts s.handed) done (t ∷ []) past.given (given, tt);
  } where
    either : (x : TraceStep) (xs : List TraceStep) → IsAmong x (xs ++ t ∷ []) → (x ≡ t) ⊎ IsAmong x xs
    either x [] (inl e) = inl e
    either x [] (inr nothing) = absurd nothing
    either x (y ∷ xs) (inl e) = inr (inl e)
    either x (y ∷ xs) (inr at) = ⊎_elim (λ (e : x ≡ t). inl e) (λ (m : IsAmong x xs). inr (inr m)) (either x xs at)

    inside_more : (x : TraceStep) → IsAmong x (done ++ t ∷ []) → IsAmong x (t ∷ earlier)
    inside_more x at = ⊎_elim (λ (e : x ≡ t). inl e) (λ (m : IsAmong x done). inr (past.inside x m)) (either x done at)

  all_show : (steps done earlier : List TraceStep) → IsPast done earlier → AllHandSpelled posts steps → AllAddressed volume.geometry steps → AreWellSent posts earlier steps
      → NodesByRules volume.geometry (formatted volume) posts (done ++ steps) → NodesShowHanded volume posts earlier steps
  unfolding AreWellSent NodesShowHanded
  all_show [] done earlier past given of sent right = tt
  all_show (t ∷ steps) done earlier past given of sent right =
      let whole : (done ++ t ∷ []) ++ steps ≡ done ++ t ∷ steps = append_assoc done (t ∷ []) steps in (
        shows t done earlier steps past of.0 right sent.0,
        all_show steps (done ++ t ∷ []) (t ∷ earlier) (past_more t done earlier given.0 past) given.1 of.1 sent.1
            (subst (λ (l : List TraceStep). NodesByRules volume.geometry (formatted volume) posts l) (sym whole) right),
      )

  -- of steps that are all of a run, or a front part of it
  pub steps_show : (steps : List TraceStep) → AllHandSpelled posts steps → AllAddressed volume.geometry steps → AreWellSent posts [] steps
      → NodesByRules volume.geometry (formatted volume) posts steps → NodesShowHanded volume posts [] steps
  unfolding last_sent
  steps_show steps given of sent right = all_show steps [] [] (record { count = refl; inside = λ x nothing. absurd nothing; given = tt }) given of sent right

pub nodes_show : (volume : Volume) (events : List Event) (posts : List Posted) (trace : List TraceStep) → IsVolume volume.geometry → Follows events posts trace → AllHandSpelled posts trace
    → AllAddressed volume.geometry trace → NodesByRules volume.geometry (formatted volume) posts trace → NodesShowHanded volume posts [] trace
nodes_show volume events posts trace limits follows given of right = steps_show volume posts limits trace given of (well_sent posts events [] [] 1 trace follows) right
