-- What is owed to the client before a step of a server is owed after it: an ask that arrives is answered. And no other step
-- takes any of it away.
use Rattle.std.proofs.Common.{◌≡◌, ◌∙◌, ℕ, ◌||◌, ◌≤◌, Bool, true, false, if◌then◌else◌, List, [], ◌∷◌, Option, Some, Result, Ok, sym, ap, ap₂, subst}
use Rattle.std.specs.Prelude.{IfSome}
use Rattle.std.specs.Option.{option_map_or}
use Rattle.std.proofs.lemmas.Bool.{true≢false}
use Rattle.salus_types.specs.Volume.{Shape}
use Rattle.salus_types.specs.declared.names.NodeName.{NodeName}
use Rattle.salus_types.specs.declared.names.Sender.{Sender}
use Rattle.salus_types.specs.declared.names.Sender.TheVariants as sender
use Rattle.salus_message.specs.declared.wire.Message.{Message}
use Rattle.salus_message.specs.declared.wire.MessageError.{MessageError}
use Rattle.salus_message.specs.Ranges.{IsMessage, HasWidths}
use Rattle.salus_message.specs.Reading.{message_at}
use Rattle.salus_message.specs.Spelling.{message_bytes}
use Rattle.merkle_region.specs.Tree.{IsAmong}
use Rattle.volume_model.specs.Groups.{is_client, same_party}
use Rattle.salus_model.specs.declared.trace.TraceStep.{TraceStep}
use Rattle.salus_model.specs.Following.{Posted, posted_at, hands, sent_by}
use Rattle.client_rules.specs.State.{Client}
use Rattle.replica_rules.specs.Nodes.{NodeState}
use Rattle.replica_rules.specs.Rules.{Sending, Input, Receives, from_client, from_result, planned, handled}
use Rattle.run_rules.specs.Knowing.{KnownNode, input_of, outs_of, outs_to}
use Rattle.run_rules.specs.Running.{addresses, posts_between}
use Rattle.list_lemmas.proofs.Members.{among_map-in}
use Rattle.law_lemmas.proofs.Named.{node-itself}
use Rattle.law_reads.proofs.Relay.{UnderWay, Arrives, IsDone, IsAnswered, owed_step}
use Rattle.law_reads.proofs.Underway.{between_from, HandsSent, under_way}
use Rattle.law_reads.proofs.Served.{HandsOwn, IsSoundStep, handed_input}
use Rattle.law_complete.proofs.Awaiting as awaiting
use Rattle.law_complete.proofs.Awaiting.{Replies, Done, IsLetterOf, IsReplyOf, IsOwed}

-- a reply that the client waits for is sent to it
pub record IsAnsweredBy (shape : Shape) (c : Client) (name : NodeName) (state : NodeState) (m : Message) : Type 0 where
  pub reply : Message
  pub sent : IsAmong (record { to = sender.Client; message = reply }) (from_client shape name.region state m).outs
  pub again : message_at (message_bytes reply) ≡ Ok reply
  pub of : Replies shape c name reply

-- each ask of the client is answered
abbrev pub Answers : Shape → Client → NodeName → NodeState → Type 0
Answers shape c name state = (m : Message) → IsMessage m → HasWidths m → awaiting.Asks c name m → IsAnsweredBy shape c name state m

planned_is : (shape : Shape) (g : ℕ) (state : NodeState) (bytes : List ℕ) (m : Message) → message_at bytes ≡ Ok m → (handled shape g state (Receives sender.Client bytes)).outs ≡ (from_client shape g state m).outs
unfolding planned
planned_is shape g state bytes m reads = ap (λ (r : Result Message MessageError). (from_result shape g state sender.Client r).outs) reads

module _ (shape : Shape) (posts : List Posted) (name : NodeName) (c : Client) (known : KnownNode) (earlier : List TraceStep) (t : TraceStep) (sent : HandsSent (t ∷ earlier)) where
  not_client : sender.Client ≡ sender.Node name → ⊥
  not_client is = cc

  module _ (sound : IsSoundStep shape posts name known earlier t) (answers : Answers shape c name known.state) where
    outs_are : (input : Input) → input_of posts t.handed ≡ Some input → outs_to shape name.region posts known t.handed t.failed ≡ (handled shape name.region known.state input).outs
    outs_are input is =
        ap₂ (λ (o : Option Input) (f : Bool). option_map_or (λ i. outs_of shape name.region known i f) o []) is sound.calm
        ∙ ap (λ (s : Bool). if s || false then [] else (handled shape name.region known.state input).outs) sound.speaks

    answered_one : Arrives (IsLetterOf posts name (awaiting.Asks c name)) t → UnderWay (IsReplyOf posts name (Replies shape c name)) (t ∷ earlier)
    answered_one arrives =
        let one : IsLetterOf posts name (awaiting.Asks c name) arrives.k = arrives.is_one in
        let input : Input = Receives sender.Client one.bytes in
        let is : input_of posts t.handed ≡ Some input = handed_input posts t.handed arrives.k _ arrives.handed one.at in
        let by : IsAnsweredBy shape c name known.state one.m = answers one.m one.counts one.widths one.of in
        let out : Sending = record { to = sender.Client; message = by.reply } in
        let m : Posted = record { from = sender.Node name; to = sender.Client; bytes = message_bytes by.reply } in
        let outs : List Sending = outs_to shape name.region posts known t.handed t.failed in
        let among : IsAmong out outs = subst (λ (l : List Sending). IsAmong out l) (sym (outs_are input is ∙ planned_is shape name.region known.state one.bytes one.m one.reads)) by.sent in
        let there : IsAmong m (posts_between posts (sent_by earlier) t.sent) =
        subst (λ (l : List Posted). IsAmong m l) (sym sound.by.messages) (among_map-in (λ (o : Sending). record { from = sender.Node name; to = o.to; bytes = message_bytes o.message }) outs out among) in
        under_way posts (IsReplyOf posts name (Replies shape c name)) t earlier m sent (between_from posts (sent_by earlier) t.sent m there)
        (λ k at. record { m = by.reply; bytes = message_bytes by.reply; at = at; reads = by.again; of = by.of })

    pub node_owed : IsOwed shape posts c name earlier → IsOwed shape posts c name (t ∷ earlier)
    node_owed owed =
        owed_step (IsLetterOf posts name (awaiting.Asks c name)) (IsReplyOf posts name (Replies shape c name)) (Done c name) ⊥ (Done c name) ⊥ t earlier sound.by.more
        (record {
          done = λ done. IsDone done;
          kept = λ none. absurd none;
          asked = λ arrives. IsAnswered (answered_one arrives);
          answered = λ arrives. absurd (not_client (subst (λ (o : Option Posted). IfSome o (λ p. p.to ≡ t.party)) arrives.is_one.at (sound.own arrives.k arrives.handed) ∙ sound.party));
        }) owed

  not_here : HandsOwn posts t → (k : ℕ) (m : Posted) → posted_at posts k ≡ Some m → hands k t.handed ≡ true → m.to ≡ t.party
  not_here own k m at hit = subst (λ (p : Option Posted). IfSome p (λ q. q.to ≡ t.party)) at (own k hit)

  -- a step of another node
  pub other_owed : is_client t.party ≡ false → addresses name t ≡ false → HandsOwn posts t → sent_by earlier ≤ t.sent → IsOwed shape posts c name earlier → IsOwed shape posts c name (t ∷ earlier)
  other_owed other away own more owed =
      owed_step (IsLetterOf posts name (awaiting.Asks c name)) (IsReplyOf posts name (Replies shape c name)) (Done c name) ⊥ (Done c name) ⊥ t earlier more
      (record {
        done = λ done. IsDone done;
        kept = λ none. absurd none;
        asked = λ arrives. absurd (true≢false (sym (node-itself name) ∙ (ap (λ (w : Sender). same_party w (sender.Node name)) (not_here own arrives.k _ arrives.is_one.at arrives.handed) ∙ away)));
        answered = λ arrives. absurd (true≢false (ap is_client (not_here own arrives.k _ arrives.is_one.at arrives.handed) ∙ other));
      }) owed
