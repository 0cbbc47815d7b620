-- Along the trace: each step addresses a party of the volume, what is handed over in the client's name brings records that
-- have a spelling, and each letter of the client keeps to the volume and to the message format.
use Rattle.std.proofs.Common.{◌≡◌, ◌∙◌, ◌⊎◌, inl, inr, ℕ, zero, suc, ◌+◌, ◌^◌, ◌<◌, ◌≤◌, Bool, true, false, ◌==◌, nat_le, if◌then◌else◌, List, [], ◌∷◌, ◌++◌, map, Option, None, Some, Result, Ok, Err, refl, sym, ap, subst, arith}
use Rattle.std.specs.Prelude.{IfSome}
use Rattle.std.specs.List.{AllByRecursion}
use Rattle.std.proofs.lemmas.Bool.{eq-eqb, leb-true, leb-false}
use Rattle.std.proofs.lemmas.Option.{same_Some}
use Rattle.salus_types.specs.Volume.{Shape, IsVolume}
use Rattle.salus_types.specs.declared.names.NodeName.{NodeName}
use Rattle.salus_types.specs.declared.names.Sender.{Sender}
use Rattle.salus_types.specs.declared.names.Sender.TheVariants as sender
use Rattle.salus_codec.specs.Spelling.{IsBytes}
use Rattle.salus_message.specs.declared.wire.Message.{Message}
use Rattle.salus_message.specs.declared.wire.Message.TheVariants as message
use Rattle.salus_message.specs.declared.wire.MessageError.{MessageError}
use Rattle.salus_message.specs.Ranges.{IsMessage, HasWidths}
use Rattle.salus_message.specs.Spelling.{message_bytes}
use Rattle.salus_message.specs.Reading.{message_at}
use Rattle.salus_message.proofs.MessageLaws.{message_again, is_found}
use Rattle.merkle_region.specs.Tree.{IsAmong}
use Rattle.schedule_text.specs.Limits.{IsOfVolume, IsPartyOfVolume, IsWithinLimits}
use Rattle.schedule_text.specs.declared.schedule.Event.{Event}
use Rattle.schedule_text.specs.declared.schedule.Volume.{Volume}
use Rattle.volume_model.specs.Groups.{is_client, same_node, same_party}
use Rattle.salus_model.specs.declared.trace.Handed.{Handed}
use Rattle.salus_model.specs.declared.trace.Handed.TheVariants as handed
use Rattle.salus_model.specs.declared.trace.TraceStep.{TraceStep}
use Rattle.salus_model.specs.Following.{Posted, posted_at, hands, sent_by, Follows}
use Rattle.salus_model.specs.Hearing.{News, Asks, Says, Crashes, Silence, news_of_message, news_from, news_of_post, news_in, news_of}
use Rattle.salus_model.specs.Licences.{letter_of, letter_in_post, letters_in}
use Rattle.client_rules.specs.State as state
use Rattle.client_rules.specs.State.{Letter, Told}
use Rattle.client_rules.specs.Rules.{new_client, is_tick, ticked, told, client_step, client_letters, posted_letter}
use Rattle.replica_rules.specs.Rules.{Sending}
use Rattle.run_rules.specs.Knowing.{KnownNode, fresh, outs_to, known_to}
use Rattle.run_rules.specs.Running.{posts_between, posted_by, addresses, after, AllSteps, NodesByRules, IsNodeStep, formatted}
use Rattle.run_rules.specs.Running as nodes
use Rattle.run_rules.specs.Serving.{ClientSteps, IsClientStep, ClientByRules}
use Rattle.run_rules.specs.Serving as serving
use Rattle.run_rules.specs.Run.{IsByRules, formatted_first}
use Rattle.list_lemmas.proofs.Each.{either_way, all_both}
use Rattle.list_lemmas.proofs.Members.{among_all, among_map}
use Rattle.list_lemmas.proofs.Tests.{by_bool}
use Rattle.law_lemmas.proofs.WellSent.{IsWellSent, AreWellSent, well_sent}
use Rattle.list_lemmas.proofs.Lists.{among_between}
use Rattle.law_handed.specs.Fitting.{IsSpelled, MessageGiven, FromGiven, LetterGiven}
use Rattle.law_shown.specs.Reading.{HandsSpelled, AllHandSpelled, AllAddressed}
use Rattle.law_ranged.specs.Ranging.{IsSentWithin, AllSentWithin}
use Rattle.law_ranged.proofs.Sized.{at_index, zero_sized, few_regions, each_region}
use Rattle.law_ranged.proofs.Bounded.{ClientFits, ToldFits, client_wider}
use Rattle.law_ranged.proofs.Opened.{NewsWithin, told_fits, ticked_fits, asked_fits, new_fits}
use Rattle.law_ranged.proofs.Nodal.{KnownLed, fresh_led, known_led, outs_within}
use Rattle.law_ranged.proofs.Scheduled.{IsReceiver, HandsWithin, bound_after, AllWithin, schedule_within}

-- ---- what is handed over is spelled

message_spelled : (m : Message) → IsMessage m → HasWidths m → MessageGiven IsSpelled IsSpelled m
message_spelled (message.Part m) counts widths = record { counts = counts; widths = widths }
message_spelled (message.Stage m) counts widths = record { counts = counts.its_record; widths = widths }
message_spelled (message.Prepared m) counts widths = tt
message_spelled (message.Committed m) counts widths = tt
message_spelled (message.Ask m) counts widths = tt
message_spelled (message.Answer m) counts widths = tt
message_spelled (message.Gather m) counts widths = tt
message_spelled (message.Gathered m) counts widths = tt
message_spelled (message.Staged m) counts widths = tt
message_spelled (message.Switch m) counts widths = tt
message_spelled (message.Switched m) counts widths = tt
message_spelled (message.Dump m) counts widths = tt
message_spelled (message.Dumped m) counts widths = tt

from_given : (from : Sender) (m : Message) → MessageGiven IsSpelled IsSpelled m → FromGiven IsSpelled IsSpelled from m
from_given sender.Client m given = given
from_given (sender.Node name) m given = tt

lie_spelled : (from : Sender) (bytes : List ℕ) (r : Result Message MessageError) → IsBytes bytes → message_at bytes ≡ r → AllByRecursion (LetterGiven IsSpelled IsSpelled) (letter_of from r)
lie_spelled from bytes (Ok m) fits same = let found = is_found bytes (Ok m) fits same in (from_given from m (message_spelled m found.1 found.2), tt)
lie_spelled from bytes (Err e) fits same = tt

node_spelled : (name : NodeName) (r : Result Message MessageError) → AllByRecursion (LetterGiven IsSpelled IsSpelled) (letter_of (sender.Node name) r)
node_spelled name (Ok m) = (tt, tt)
node_spelled name (Err e) = tt

sent_spelled : (m : Message) → IsMessage m → HasWidths m → AllByRecursion (LetterGiven IsSpelled IsSpelled) (letter_of sender.Client (message_at (message_bytes m)))
sent_spelled m counts widths =
    subst (λ (r : Result Message MessageError). AllByRecursion (LetterGiven IsSpelled IsSpelled) (letter_of sender.Client r)) (sym (message_again m counts widths)) (message_spelled m counts widths, tt)

low-or-high : (a b : ℕ) → (a ≤ b) ⊎ (b < a)
low-or-high a b = by_bool (nat_le a b) ((a ≤ b) ⊎ (b < a)) (λ e. inl (leb-true a b e)) (λ e. inr (leb-false a b e))

module _ (volume : Volume) (limits : IsVolume volume.geometry) (posts : List Posted) where
  abbrev shape : Shape
  shape = volume.geometry

  -- a message from and to parties of the volume; a record that the client brings in it has a spelling
  record PostFits (m : Posted) : Type 0 where
    pub from : IsPartyOfVolume shape m.from
    pub to : IsPartyOfVolume shape m.to
    pub given : AllByRecursion (LetterGiven IsSpelled IsSpelled) (letter_of m.from (message_at m.bytes))

  -- so are the first n messages
  abbrev PostsFit : ℕ → Type 0
  PostsFit n = (k : ℕ) → k ≤ n → IfSome (posted_at posts k) PostFits

  fitting : (n k : ℕ) (m : Posted) → PostsFit n → k ≤ n → posted_at posts k ≡ Some m → PostFits m
  fitting n k m fit low at = subst (λ (o : Option Posted). IfSome o PostFits) at (fit k low)

  -- ---- what is handed over

  module _ (earlier : List TraceStep) (fit : PostsFit (sent_by earlier)) where
    abbrev Before : Handed → Type 0
    Before what = (k : ℕ) → hands k what ≡ true → (0 < k) × (k ≤ sent_by earlier)

    of_number : (k : ℕ) (what : Handed) → Before what → hands k what ≡ true → (m : Posted) → posted_at posts k ≡ Some m → PostFits m
    of_number k what before hands_it m at = fitting (sent_by earlier) k m fit (before k hands_it).1 at

    receiver_of : (k : ℕ) (party : Sender) (what : Handed) → Before what → hands k what ≡ true → IsReceiver shape posts k party → IsPartyOfVolume shape party
    receiver_of k party what before hands_it r = subst (IsPartyOfVolume shape) (sym r.is) (of_number k what before hands_it r.message r.known).to

    party_within : (b v : ℕ) (party : Sender) (what : Handed) → HandsWithin shape posts b v party what → Before what → IsPartyOfVolume shape party
    party_within b v party (handed.Asked r) w before = subst (IsPartyOfVolume shape) (sym w.0) tt
    party_within b v party (handed.Deliver k) w before = receiver_of k party (handed.Deliver k) before (eq-eqb k k refl) w
    party_within b v party (handed.Stop k) w before = receiver_of k party (handed.Stop k) before (eq-eqb k k refl) w
    party_within b v party (handed.Lie from bytes) w before = w.1
    party_within b v party handed.Tick w before = w
    party_within b v party handed.Crash w before = w
    party_within b v party handed.Replace w before = w
    party_within b v party handed.ClientCrash w before = w

    post_given : (k : ℕ) (what : Handed) → Before what → hands k what ≡ true → (o : Option Posted) → posted_at posts k ≡ o → AllByRecursion (LetterGiven IsSpelled IsSpelled) (letter_in_post o)
    post_given k what before hands_it None at = tt
    post_given k what before hands_it (Some m) at = (of_number k what before hands_it m at).given

    handed_given : (b v : ℕ) (party : Sender) (what : Handed) → HandsWithin shape posts b v party what → Before what → HandsSpelled posts what
    handed_given b v party (handed.Deliver k) w before = post_given k (handed.Deliver k) before (eq-eqb k k refl) (posted_at posts k) refl
    handed_given b v party (handed.Stop k) w before = post_given k (handed.Stop k) before (eq-eqb k k refl) (posted_at posts k) refl
    handed_given b v party (handed.Lie from bytes) w before = lie_spelled from bytes (message_at bytes) (λ i. at_index (λ x. x < 256) bytes i (omega arith) w.2) refl
    handed_given b v party (handed.Asked r) w before = tt
    handed_given b v party handed.Tick w before = tt
    handed_given b v party handed.Crash w before = tt
    handed_given b v party handed.Replace w before = tt
    handed_given b v party handed.ClientCrash w before = tt

    -- ---- what the client is told

    module _ (b : ℕ) (some : 1 ≤ b) (small : b ≤ 2 ^ 33) where
      abbrev Heard : News → Type 0
      Heard x = NewsWithin volume limits b some small x

      decoded : (name : NodeName) (r : Result Message MessageError) → IsOfVolume shape name → Heard (news_of_message name r)
      decoded name (Ok m) of = of
      decoded name (Err e) of = tt

      sent_from : (from : Sender) (bytes : List ℕ) → IsPartyOfVolume shape from → Heard (news_from from bytes)
      sent_from sender.Client bytes of = tt
      sent_from (sender.Node name) bytes of = decoded name (message_at bytes) of

      posted_news : (k : ℕ) (what : Handed) → Before what → hands k what ≡ true → (o : Option Posted) → posted_at posts k ≡ o → Heard (news_of_post o)
      posted_news k what before hands_it None at = tt
      posted_news k what before hands_it (Some m) at = sent_from m.from m.bytes (of_number k what before hands_it m at).from

      module _ (c : state.Client) (f : ClientFits shape b c) (v : ℕ) where
        either_told : (client : Bool) (x : News) → Heard x → ToldFits shape b (told volume c v (if client then x else Silence))
        either_told true x heard = told_fits volume limits b some small c v x heard f
        either_told false x heard = told_fits volume limits b some small c v Silence tt f

        told_within : (party : Sender) (what : Handed) → HandsWithin shape posts b v party what → Before what → ToldFits shape (bound_after shape posts b v what) (told volume c v (if is_client party then news_in posts what else Silence))
        unfolding told
        told_within party (handed.Asked r) w before =
            subst (λ (p : Sender). ToldFits shape (v + 1) (told volume c v (if is_client p then Asks r else Silence))) (sym w.0) (asked_fits volume limits b some small v w.1 w.2 c r w.3 f)
        told_within party (handed.Deliver k) w before = either_told (is_client party) (news_of_post (posted_at posts k)) (posted_news k (handed.Deliver k) before (eq-eqb k k refl) (posted_at posts k) refl)
        told_within party (handed.Stop k) w before = either_told (is_client party) Silence tt
        told_within party (handed.Lie from bytes) w before = either_told (is_client party) (news_from from bytes) (sent_from from bytes w.0)
        told_within party handed.Tick w before = either_told (is_client party) Silence tt
        told_within party handed.Crash w before = either_told (is_client party) Silence tt
        told_within party handed.Replace w before = either_told (is_client party) Silence tt
        told_within party handed.ClientCrash w before = either_told (is_client party) Crashes tt

  -- ---- what a step sends

  bound_low : (b v : ℕ) (party : Sender) (what : Handed) → HandsWithin shape posts b v party what → 1 ≤ b → b ≤ 2 ^ 33 → (1 ≤ bound_after shape posts b v what) × (bound_after shape posts b v what ≤ 2 ^ 33)
  bound_low b v party (handed.Asked r) w some small = let low = w.2 in (omega arith, omega (arith, low))
  bound_low b v party (handed.Deliver k) w some small = (some, small)
  bound_low b v party (handed.Stop k) w some small = (some, small)
  bound_low b v party (handed.Lie from bytes) w some small = (some, small)
  bound_low b v party handed.Tick w some small = (some, small)
  bound_low b v party handed.Crash w some small = (some, small)
  bound_low b v party handed.Replace w some small = (some, small)
  bound_low b v party handed.ClientCrash w some small = (some, small)

  client_post : (outs : List Letter) (m : Posted) → AllByRecursion (IsSentWithin shape) outs → IsAmong m (map posted_letter outs) → PostFits m
  client_post outs m all among =
      let from = among_map posted_letter m outs among in
      let one : IsSentWithin shape from.0 = among_all (IsSentWithin shape) outs from.0 from.1 all in
      subst PostFits (sym from.2) (record { from = tt; to = one.to; given = sent_spelled from.0.message one.counts one.widths })

  node_post : (name : NodeName) (outs : List Sending) (m : Posted) → IsOfVolume shape name → AllByRecursion (λ out. IsPartyOfVolume shape out.to) outs → IsAmong m (posted_by (sender.Node name) outs) → PostFits m
  node_post name outs m of all among =
      let as_post : Sending → Posted = λ out. record { from = sender.Node name; to = out.to; bytes = message_bytes out.message } in
      let from = among_map as_post m outs among in
      subst PostFits (sym from.2) (record { from = of; to = among_all (λ out. IsPartyOfVolume shape out.to) outs from.0 from.1 all; given = node_spelled name (message_at (message_bytes from.0.message)) })

  same_name : (name : NodeName) → same_node name name ≡ true
  same_name name = rw (eq-eqb name.region name.region refl, eq-eqb name.replica name.replica refl) refl

  module _ (earlier : List TraceStep) (t : TraceStep) (known : NodeName → KnownNode) (led : (name : NodeName) → KnownLed shape limits (known name)) (c : state.Client)
      (outs : AllByRecursion (IsSentWithin shape) (client_step volume posts c t).outs) (own : (name : NodeName) → nodes.IsStepOf (addresses name t) shape posts name (known name) (sent_by earlier) t)
      (client : serving.IsStepOf (is_client t.party) volume posts c (sent_by earlier) t) where
    party_post : (party : Sender) → t.party ≡ party → IsPartyOfVolume shape party → (m : Posted) → IsAmong m (posts_between posts (sent_by earlier) t.sent) → PostFits m
    party_post sender.Client same of m among =
        let step : IsClientStep volume posts c (sent_by earlier) t = subst (λ (p : Sender). serving.IsStepOf (is_client p) volume posts c (sent_by earlier) t) same client in
        client_post (client_step volume posts c t).outs m outs (subst (λ (l : List Posted). IsAmong m l) step.messages among)
    party_post (sender.Node name) same of m among =
        let mine : addresses name t ≡ true = ap (λ (p : Sender). same_party p (sender.Node name)) same ∙ same_name name in
        let step : IsNodeStep shape posts name (known name) (sent_by earlier) t = subst (λ (b : Bool). nodes.IsStepOf b shape posts name (known name) (sent_by earlier) t) mine (own name) in
        node_post name (outs_to shape name.region posts (known name) t.handed t.failed) m of (outs_within shape limits name.region posts (known name) t.handed t.failed (led name)) (subst (λ (l : List Posted). IsAmong m l) step.messages among)

    more_posts : IsPartyOfVolume shape t.party → PostsFit (sent_by earlier) → PostsFit t.sent
    more_posts of fit k low = at_number (posted_at posts k) refl where
      at_number : (o : Option Posted) → posted_at posts k ≡ o → IfSome o PostFits
      at_number None at = tt
      at_number (Some m) at = elim (low-or-high k (sent_by earlier)) [
        | inl before ↦ fitting (sent_by earlier) k m fit before at
        | inr new ↦ party_post t.party refl of m (among_between posts (sent_by earlier) t.sent k m at new low)
      ]

  -- ---- along the trace

  next_led : (name : NodeName) (t : TraceStep) (known : KnownNode) → KnownLed shape limits known → KnownLed shape limits (after shape posts name known t)
  next_led name t known led =
      either_way (addresses name t) (known_to shape name.region posts known t.handed t.failed t.loaded) known (KnownLed shape limits) (known_led shape limits name.region posts known t.handed t.failed t.loaded led) led

  tick_bound : (b v : ℕ) (what : Handed) → is_tick what ≡ true → bound_after shape posts b v what ≡ b
  tick_bound b v handed.Tick is = refl
  tick_bound b v (handed.Asked r) is = absurd (cc)
  tick_bound b v (handed.Deliver k) is = absurd (cc)
  tick_bound b v (handed.Stop k) is = absurd (cc)
  tick_bound b v (handed.Lie from bytes) is = absurd (cc)
  tick_bound b v handed.Crash is = absurd (cc)
  tick_bound b v handed.Replace is = absurd (cc)
  tick_bound b v handed.ClientCrash is = absurd (cc)

  step_outs_within : (b : ℕ) (some : 1 ≤ b) (small : b ≤ 2 ^ 33) (c : state.Client) (t : TraceStep) → ClientFits shape b c → AllByRecursion (IsSentWithin shape) (told volume c t.event (news_of posts t)).outs
      → AllByRecursion (IsSentWithin shape) (client_step volume posts c t).outs
  step_outs_within b some small c t f outs =
      let given : List Letter = (told volume c t.event (news_of posts t)).outs in
      either_way (is_client t.party) (if is_tick t.handed then ticked shape c else given) [] (λ (l : List Letter). AllByRecursion (IsSentWithin shape) l)
      (either_way (is_tick t.handed) (ticked shape c) given (λ (l : List Letter). AllByRecursion (IsSentWithin shape) l) (ticked_fits volume limits b some small c f) outs) tt

  record Holds (c : state.Client) (steps : List TraceStep) : Type 0 where
    pub addressed : AllAddressed shape steps
    pub given : AllHandSpelled posts steps
    pub sent : AllByRecursion (IsSentWithin shape) (client_letters volume posts c steps)

  along : (steps earlier : List TraceStep) (b : ℕ) (known : NodeName → KnownNode) (c : state.Client) → 1 ≤ b → b ≤ 2 ^ 33 → AllWithin shape posts b steps → AreWellSent posts earlier steps
      → ((name : NodeName) → AllSteps shape posts name (known name) (sent_by earlier) steps) → ClientSteps volume posts c (sent_by earlier) steps
      → PostsFit (sent_by earlier) → ((name : NodeName) → KnownLed shape limits (known name)) → ClientFits shape b c → Holds c steps
  unfolding AllWithin AreWellSent AllSteps ClientSteps client_letters
  along [] earlier b known c some small within well right client fit led f = record { addressed = tt; given = tt; sent = tt }
  along (t ∷ steps) earlier b known c some small within well right client fit led f =
      let of : IsPartyOfVolume shape t.party = party_within earlier fit b t.event t.party t.handed within.0 well.0.before in
      let next : ℕ = bound_after shape posts b t.event t.handed in
      let answer : ToldFits shape next (told volume c t.event (news_of posts t)) = told_within earlier fit b some small c f t.event t.party t.handed within.0 well.0.before in
      let outs : AllByRecursion (IsSentWithin shape) (client_step volume posts c t).outs = step_outs_within b some small c t f answer.outs in
      let bounds = bound_low b t.event t.party t.handed within.0 some small in
      let rest : Holds (client_step volume posts c t).client steps =
      along steps (t ∷ earlier) next (λ name. after shape posts name (known name) t) (client_step volume posts c t).client bounds.0 bounds.1 within.1 well.1 (λ name. (right name).1) client.1
      (more_posts earlier t known led c outs (λ name. (right name).0) client.0 of fit) (λ name. next_led name t (known name) (led name)) answer.client in
      record {
        addressed = (of, rest.addressed);
        given = (handed_given earlier fit b t.event t.party t.handed within.0 well.0.before, rest.given);
        sent = all_both (IsSentWithin shape) (client_step volume posts c t).outs (client_letters volume posts (client_step volume posts c t).client steps) outs rest.sent;
      }

  no_posts : PostsFit 0
  no_posts k low = none k low where
    none : (k : ℕ) → k ≤ 0 → IfSome (posted_at posts k) PostFits
    none zero low = tt
    none (suc k) low = absurd (omega (arith, low))

  -- of steps that are all of a run, or a front part of it
  pub steps_within : (steps : List TraceStep) → AllWithin shape posts 1 steps → AreWellSent posts [] steps → NodesByRules shape (formatted volume) posts steps
      → ClientByRules volume (new_client shape) posts steps → AllAddressed shape steps × AllHandSpelled posts steps × AllSentWithin volume posts steps
  steps_within steps within well nodes client =
      let all = along steps [] 1 (λ name. fresh shape name.region (formatted volume name)) (new_client shape) (omega arith) (omega arith) within well nodes client no_posts
      (λ name. fresh_led shape limits name.region (formatted volume name)) (new_fits shape limits) in
      (all.addressed, all.given, all.sent)

pub runs_within : (volume : Volume) (events : List Event) (posts : List Posted) (trace : List TraceStep) → IsWithinLimits (record { volume = volume; events = events }) → Follows events posts trace
    → IsByRules volume (formatted_first volume) posts trace → AllAddressed volume.geometry trace × AllHandSpelled posts trace × AllSentWithin volume posts trace
runs_within volume events posts trace limits follows by =
    steps_within volume limits.volume posts trace (schedule_within volume.geometry posts events trace limits.few limits.events follows) (well_sent posts events [] [] 1 trace follows) by.nodes by.client
