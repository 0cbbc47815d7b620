-- What is sent by the rules goes to parties of the volume, so all of it is posted.
use Rattle.std.proofs.Common.{◌≡◌, ◌∙◌, ℕ, ◌+◌, ◌^◌, ◌<◌, ◌≤◌, Bool, true, false, ◌&&◌, nat_lt, if◌then◌else◌, List, [], ◌∷◌, map, Result, Ok, Err, refl, sym, ap, ap₂, subst}
use Rattle.std.specs.Prelude.{filter}
use Rattle.std.specs.List.{AllByRecursion}
use Rattle.std.proofs.lemmas.Bool.{ltb-true, lt-ltb, and_from}
use Rattle.salus_types.specs.Volume.{Shape, IsVolume, regions}
use Rattle.salus_types.specs.declared.names.NodeName.{NodeName}
use Rattle.salus_types.specs.declared.names.Sender.{Sender}
use Rattle.salus_types.specs.declared.names.Sender.TheVariants as sender
use Rattle.salus_types.specs.declared.records.Out.{Out}
use Rattle.salus_message.specs.declared.wire.Message.{Message}
use Rattle.salus_message.specs.declared.wire.MessageError.{MessageError}
use Rattle.salus_message.specs.Reading.{message_at}
use Rattle.schedule_text.specs.Limits.{IsOfVolume, IsPartyOfVolume}
use Rattle.schedule_text.specs.declared.schedule.Volume.{Volume}
use Rattle.salus_model.specs.declared.trace.Handed.{Handed}
use Rattle.salus_model.specs.declared.trace.Handed.TheVariants as handed
use Rattle.salus_model.specs.declared.trace.Request.{Request}
use Rattle.salus_model.specs.declared.trace.TraceStep.{TraceStep}
use Rattle.salus_model.specs.Following.{Posted}
use Rattle.salus_model.specs.Hearing.{News, Asks, news_of_message, news_from, news_of}
use Rattle.volume_model.specs.Groups.{is_client}
use Rattle.client_rules.specs.State.{Client, Letter}
use Rattle.client_rules.specs.Rules.{told, ticked, is_tick, client_step, posted_letter}
use Rattle.client_premises.proofs.Along.{next}
use Rattle.replica_rules.specs.Rules.{Sending, is_node}
use Rattle.posting.specs.Letters.{out_of_letter}
use Rattle.posting.specs.Sendings.{out_of_sending}
use Rattle.run_rules.specs.Knowing.{KnownNode, fresh, known_to, outs_to}
use Rattle.run_rules.specs.Running.{known_of, after, addresses, posted_by}
use Rattle.run_rules.specs.Run.{First}
use Rattle.list_lemmas.proofs.Each.{either_way, all_map, all_then}
use Rattle.list_lemmas.proofs.Tests.{way_with, and_left, and_right}
use Rattle.law_ranged.specs.Ranging.{IsSentWithin}
use Rattle.law_ranged.proofs.Bounded.{ClientFits, ToldFits, RequestFits}
use Rattle.law_ranged.proofs.Opened.{NewsWithin, told_fits, ticked_fits, asked_fits}
use Rattle.law_ranged.proofs.Nodal.{KnownLed, fresh_led, known_led, outs_within}
use Rattle.run_steps.specs.Steps.{known_at}
use Rattle.run_steps.specs.Parties.{is_party, post_of, posts_by}

-- ---- parties

module _ (shape : Shape) where
  pub party_is : (who : Sender) → IsPartyOfVolume shape who → is_party shape who ≡ true
  party_is sender.Client of = refl
  party_is (sender.Node name) of = and_from (nat_lt name.region (regions shape)) (nat_lt name.replica shape.replicas) (lt-ltb name.region (regions shape) of.0) (lt-ltb name.replica shape.replicas of.1)

  pub party_of : (who : Sender) → is_party shape who ≡ true → IsPartyOfVolume shape who
  party_of sender.Client is = tt
  party_of (sender.Node name) is =
      (ltb-true name.region (regions shape) (and_left (nat_lt name.region (regions shape)) (nat_lt name.replica shape.replicas) is), ltb-true name.replica shape.replicas (and_right (nat_lt name.region (regions shape)) (nat_lt name.replica shape.replicas) is))

  -- ---- posts

  filter_all : {A : Type 0} (test : A → Bool) (xs : List A) → AllByRecursion (λ x. test x ≡ true) xs → filter test xs ≡ xs
  filter_all test [] all = refl
  filter_all test (x ∷ xs) all = ap (λ (b : Bool). if b then x ∷ filter test xs else filter test xs) all.0 ∙ ap (λ l. x ∷ l) (filter_all test xs all.1)

  all_posted : {A : Type 0} (from : Sender) (out : A → Out) (post : A → Posted) → ((x : A) → post_of from (out x) ≡ post x) → (xs : List A) → AllByRecursion (λ x. is_party shape (out x).to ≡ true) xs
      → posts_by shape from (map out xs) ≡ map post xs
  all_posted {A = A} from out post same xs all =
      ap (λ (l : List Out). map (λ o. post_of from o) l) (filter_all (λ o. is_party shape o.to) (map out xs) (all_map (λ o. is_party shape o.to ≡ true) out xs all)) ∙ each xs
    where
      each : (xs : List A) → map (λ o. post_of from o) (map out xs) ≡ map post xs
      each [] = refl
      each (x ∷ xs) = ap₂ (λ (p : Posted) (l : List Posted). p ∷ l) (same x) (each xs)

  pub node_posts : (name : NodeName) (outs : List Out) (sendings : List Sending) → outs ≡ map out_of_sending sendings → AllByRecursion (λ s. IsPartyOfVolume shape s.to) sendings
      → posts_by shape (sender.Node name) outs ≡ posted_by (sender.Node name) sendings
  node_posts name outs sendings is all =
      ap (λ (l : List Out). posts_by shape (sender.Node name) l) is
      ∙ all_posted (sender.Node name) out_of_sending _ (λ s. refl) sendings (all_then (λ s. IsPartyOfVolume shape s.to) (λ s. is_party shape s.to ≡ true) (λ s of. party_is s.to of) sendings all)

  pub client_posts : (outs : List Out) (letters : List Letter) → outs ≡ map out_of_letter letters → AllByRecursion (IsSentWithin shape) letters → posts_by shape sender.Client outs ≡ map posted_letter letters
  client_posts outs letters is all =
      ap (λ (l : List Out). posts_by shape sender.Client l) is
      ∙ all_posted sender.Client out_of_letter posted_letter (λ l. refl) letters (all_then (IsSentWithin shape) (λ l. is_party shape (sender.Node l.to) ≡ true) (λ l of. party_is (sender.Node l.to) of.to) letters all)

  passed : {A : Type 0} (P : A → Type 0) (test : A → Bool) → ((x : A) → test x ≡ true → P x) → (xs : List A) → AllByRecursion P (filter test xs)
  passed P test f [] = tt
  passed P test f (x ∷ xs) = way_with (test x) (x ∷ filter test xs) (filter test xs) (λ l. AllByRecursion P l) (λ is. (f x is, passed P test f xs)) (λ fails. passed P test f xs)

  pub posts_within : (from : Sender) (outs : List Out) → IsPartyOfVolume shape from → AllByRecursion (λ m. IsPartyOfVolume shape m.from × IsPartyOfVolume shape m.to) (posts_by shape from outs)
  posts_within from outs of =
      all_map (λ m. IsPartyOfVolume shape m.from × IsPartyOfVolume shape m.to) (λ out. post_of from out) (filter (λ out. is_party shape out.to) outs)
      (passed (λ out. IsPartyOfVolume shape from × IsPartyOfVolume shape out.to) (λ out. is_party shape out.to) (λ out is. (of, party_of out.to is)) outs)

  pub posts_own : (from : Sender) (outs : List Out) → AllByRecursion (λ m. m.from ≡ from) (posts_by shape from outs)
  posts_own from outs = each (filter (λ out. is_party shape out.to) outs) where
    each : (outs : List Out) → AllByRecursion (λ m. m.from ≡ from) (map (λ out. post_of from out) outs)
    each [] = tt
    each (out ∷ outs) = (refl, each outs)

-- ---- the rules

module _ (volume : Volume) (limits : IsVolume volume.geometry) (posts : List Posted) where
  abbrev shape : Shape
  shape = volume.geometry

  led_after : (name : NodeName) (known : KnownNode) (steps : List TraceStep) → KnownLed shape limits known → KnownLed shape limits (known_of shape posts name known steps)
  unfolding known_of
  led_after name known [] led = led
  led_after name known (step ∷ steps) led =
      led_after name (after shape posts name known step) steps
      (either_way (addresses name step) (known_to shape name.region posts known step.handed step.failed step.loaded) known (KnownLed shape limits)
      (known_led shape limits name.region posts known step.handed step.failed step.loaded led) led)

  -- a node's messages
  pub node_within : (first : First) (trace : List TraceStep) (name : NodeName) (what : Handed) (failed : Bool)
      → AllByRecursion (λ s. IsPartyOfVolume shape s.to) (outs_to shape name.region posts (known_at first volume posts trace name) what failed)
  node_within first trace name what failed =
      outs_within shape limits name.region posts (known_at first volume posts trace name) what failed
      (led_after name (fresh shape name.region (first.held name)) trace (fresh_led shape limits name.region (first.held name)))

  -- the client's
  module _ (b : ℕ) (some : 1 ≤ b) (small : b ≤ 2 ^ 33) where
    pub heard : (from : Sender) (bytes : List ℕ) → IsPartyOfVolume shape from → NewsWithin volume limits b some small (news_from from bytes)
    heard sender.Client bytes of = tt
    heard (sender.Node name) bytes of = decoded (message_at bytes) where
      decoded : (r : Result Message MessageError) → NewsWithin volume limits b some small (news_of_message name r)
      decoded (Ok m) = of
      decoded (Err e) = tt

    outs_fit : (c : Client) (step : TraceStep) → ClientFits shape b c → AllByRecursion (IsSentWithin shape) (told volume c step.event (news_of posts step)).outs → AllByRecursion (IsSentWithin shape) (client_step volume posts c step).outs
    outs_fit c step f outs =
        let given : List Letter = (told volume c step.event (news_of posts step)).outs in
        either_way (is_client step.party) (if is_tick step.handed then ticked shape c else given) [] (λ (l : List Letter). AllByRecursion (IsSentWithin shape) l)
        (either_way (is_tick step.handed) (ticked shape c) given (λ (l : List Letter). AllByRecursion (IsSentWithin shape) l) (ticked_fits volume limits b some small c f) outs) tt

    pub news_fit : (c : Client) (step : TraceStep) → NewsWithin volume limits b some small (news_of posts step) → ClientFits shape b c
        → ClientFits shape b (next volume posts c step) × AllByRecursion (IsSentWithin shape) (client_step volume posts c step).outs
    news_fit c step within f =
        let answer : ToldFits shape b (told volume c step.event (news_of posts step)) = told_fits volume limits b some small c step.event (news_of posts step) within f in
        (answer.client, outs_fit c step f answer.outs)

    pub asked_fit : (c : Client) (step : TraceStep) (v : ℕ) (r : Request) → step.event ≡ v → news_of posts step ≡ Asks r → b ≤ v → v < 2 ^ 32 → RequestFits shape r → ClientFits shape b c
        → ClientFits shape (v + 1) (next volume posts c step) × AllByRecursion (IsSentWithin shape) (client_step volume posts c step).outs
    unfolding told
    asked_fit c step v r number news up low of f =
        let here : ToldFits shape (v + 1) (told volume c v (Asks r)) = asked_fits volume limits b some small v up low c r of f in
        let answer : ToldFits shape (v + 1) (told volume c step.event (news_of posts step)) =
        subst (λ (x : News). ToldFits shape (v + 1) (told volume c step.event x)) (sym news) (subst (λ (k : ℕ). ToldFits shape (v + 1) (told volume c k (Asks r))) (sym number) here) in
        (answer.client, outs_fit c step f answer.outs)
