-- A step of a client that serves, or is closed, is one of the rules; and so is a whole step of any.
use Rattle.std.proofs.Common.{◌≡◌, ◌∙◌, ℕ, List, [], ◌++◌, map, refl, sym, ap, subst}
use Rattle.std.proofs.lemmas.List.{append-nil}
use Rattle.std.specs.Prelude.{Result, Ok, Err}
use Rattle.salus_types.specs.declared.names.NodeName.{NodeName}
use Rattle.salus_types.specs.declared.names.Sender.{Sender}
use Rattle.salus_types.specs.declared.names.Sender.TheVariants as sender
use Rattle.salus_types.specs.declared.records.Out.{Out}
use Rattle.salus_message.specs.declared.wire.Message.{Message}
use Rattle.salus_message.specs.declared.wire.MessageError.{MessageError}
use Rattle.salus_message.specs.Reading.{message_at}
use Rattle.schedule_text.specs.declared.schedule.Volume.{Volume}
use Rattle.salus_model.specs.declared.trace.Request.{Request}
use Rattle.salus_model.specs.Hearing.{Asks, news_of_message, news_from}
use Rattle.posting.specs.Letters.{out_of_letter}
use Rattle.client_rules.specs.State.{Serving, Client, Closed, Serves, Gathers, Fetches, Stages, Switches, Told, ignored}
use Rattle.client_rules.specs.Rules.{requested, received, told_serving, ticked, told}
use Rattle.client_rules.specs.Serving.{requested_here, ticked_here}
use Rattle.client_premises.specs.Premises.{IsApart, MessageIsApart, ServingIsApart}
use Rattle.client_asking.specs.declared.step.Step.{Step}
use Rattle.open_reads.specs.Telling.{Adds}
use Rattle.serving_client.specs.Kept.{KeptServing}
use Rattle.serving_client.specs.Standing.{Becomes, IsTold as IsServed, StandsFor}
use Rattle.client_node.specs.declared.phase.ClosedClient.{ClosedClient}
use Rattle.client_node.specs.declared.phase.Phase.{Phase}
use Rattle.client_node.specs.declared.phase.Phase.TheVariants as phase
use Rattle.client_node.specs.declared.node.ClientNode.{ClientNode}
use Rattle.client_node.specs.Phases.{IsClosed, Plays, Follows}
use Rattle.client_node.specs.Standing.{IsClient, IsTold}

-- ---- a client for which one that serves stands

pub by_serving : (volume : Volume) (kept : KeptServing) (P : Client → Type 0) → ((s : Serving) → StandsFor volume kept s → P (Serves s)) → (c : Client) → Becomes volume kept c → P c
by_serving volume kept P way (Serves s) stands = way s stands
by_serving volume kept P way Closed none = absurd none
by_serving volume kept P way (Gathers g) none = absurd none
by_serving volume kept P way (Fetches f) none = absurd none
by_serving volume kept P way (Stages b) none = absurd none
by_serving volume kept P way (Switches b) none = absurd none

-- and one that is closed
by_closed : (volume : Volume) (kept : ClosedClient) (P : Client → Type 0) → P Closed → (c : Client) → IsClosed volume kept c → P c
by_closed volume kept P way c is = subst P (sym is.closed) way

still_closed : (volume : Volume) (kept : ClosedClient) (c : Client) → IsClosed volume kept c → IsClosed volume kept Closed
still_closed volume kept c is = record { geometry = is.geometry; key = is.key; closed = refl }

-- ---- nothing happens

pub adds_nothing : (c : Client) (step : Step) → Adds step step (ignored c)
adds_nothing c step = record { outs = sym (append-nil step.outs.items); lines = sym (append-nil step.lines.items) }

pub ignores : (volume : Volume) (kept : Phase) (step : Step) (c : Client) → Plays volume kept c → Follows volume step step kept (ignored c)
ignores volume kept step c plays = record { client = plays; adds = adds_nothing c step }

pub serves_on : (volume : Volume) (kept : KeptServing) (step : Step) (s : Serving) → StandsFor volume kept s → IsServed volume step step kept (ignored (Serves s))
serves_on volume kept step s stands = record { becomes = stands; adds = adds_nothing (Serves s) step }

-- ---- a request

module _ (volume : Volume) (before after : Step) (v : ℕ) (r : Request) where
  pub asked_serving : (kept new : KeptServing) → ((s : Serving) → StandsFor volume kept s → IsServed volume before after new (requested_here volume.geometry s v r)) → (c : Client) → Becomes volume kept c
      → Follows volume before after (phase.Serving new) (requested volume c v r)
  unfolding requested
  asked_serving kept new tells =
      by_serving volume kept (λ c. Follows volume before after (phase.Serving new) (requested volume c v r)) (λ s stands. record { client = (tells s stands).becomes; adds = (tells s stands).adds })

-- ---- a message of a node

pub heard_serving : (volume : Volume) (before after : Step) (name : NodeName) (m : Message) (kept new : KeptServing)
    → ((s : Serving) → StandsFor volume kept s → ServingIsApart volume s m → IsServed volume before after new (told_serving volume s name m))
    → (c : Client) → Becomes volume kept c → MessageIsApart volume c name m → Follows volume before after (phase.Serving new) (received volume c name m)
unfolding received
heard_serving volume before after name m kept new tells =
    by_serving volume kept (λ c. MessageIsApart volume c name m → Follows volume before after (phase.Serving new) (received volume c name m))
    (λ s stands apart. record { client = (tells s stands apart).becomes; adds = (tells s stands apart).adds })

pub heard_closed : (volume : Volume) (step : Step) (name : NodeName) (m : Message) (kept : ClosedClient) (c : Client) → IsClosed volume kept c
    → Follows volume step step (phase.Closed kept) (received volume c name m)
unfolding received
heard_closed volume step name m kept c is =
    by_closed volume kept (λ d. Follows volume step step (phase.Closed kept) (received volume d name m)) (ignores volume (phase.Closed kept) step Closed (still_closed volume kept c is)) c is

-- bytes that decode are that message
pub heard_decoded : (volume : Volume) (before after : Step) (name : NodeName) (bytes : List ℕ) (m : Message) (kept new : Phase) → message_at bytes ≡ Ok m
    → ((c : Client) → Plays volume kept c → MessageIsApart volume c name m → Follows volume before after new (received volume c name m))
    → (c : Client) (v : ℕ) → Plays volume kept c → IsApart volume c (news_from (sender.Node name) bytes) → Follows volume before after new (told volume c v (news_from (sender.Node name) bytes))
unfolding told IsApart
heard_decoded volume before after name bytes m kept new decodes hears c v plays =
    subst (λ (r : Result Message MessageError). IsApart volume c (news_of_message name r) → Follows volume before after new (told volume c v (news_of_message name r))) (sym decodes) (hears c plays)

-- and others are ignored
pub heard_nothing : (volume : Volume) (step : Step) (name : NodeName) (bytes : List ℕ) (e : MessageError) (kept : Phase) → message_at bytes ≡ Err e
    → (c : Client) (v : ℕ) → Plays volume kept c → Follows volume step step kept (told volume c v (news_from (sender.Node name) bytes))
unfolding told
heard_nothing volume step name bytes e kept fails c v plays =
    subst (λ (r : Result Message MessageError). Follows volume step step kept (told volume c v (news_of_message name r))) (sym fails) (ignores volume kept step c plays)

-- ---- a tick

pub ticked_serving : (volume : Volume) (kept : KeptServing) (before after : List Out) → ((s : Serving) → StandsFor volume kept s → after ≡ before ++ map out_of_letter (ticked_here volume.geometry s))
    → (c : Client) → Becomes volume kept c → after ≡ before ++ map out_of_letter (ticked volume.geometry c)
unfolding ticked
ticked_serving volume kept before after sends = by_serving volume kept (λ c. after ≡ before ++ map out_of_letter (ticked volume.geometry c)) sends

pub ticked_closed : (volume : Volume) (kept : ClosedClient) (outs : List Out) (c : Client) → IsClosed volume kept c → outs ≡ outs ++ map out_of_letter (ticked volume.geometry c)
unfolding ticked
ticked_closed volume kept outs = by_closed volume kept (λ c. outs ≡ outs ++ map out_of_letter (ticked volume.geometry c)) (sym (append-nil outs))

-- ---- a whole step

-- what is added to an empty step is all of it
pub whole_step : (volume : Volume) (t : Told) (empty step : Step) (node : ClientNode) → empty.outs.items ≡ [] → empty.lines.items ≡ [] → Follows volume empty step node.phase t → IsTold volume t node step
whole_step volume t empty step node no_outs no_lines follows = record {
  client = follows.client;
  outs = follows.adds.outs ∙ ap (λ l. l ++ map out_of_letter t.outs) no_outs;
  lines = follows.adds.lines ∙ ap (λ l. l ++ t.lines) no_lines;
}

pub asked_step : (volume : Volume) (c : Client) (v : ℕ) (r : Request) (empty step : Step) (node : ClientNode) → empty.outs.items ≡ [] → empty.lines.items ≡ [] → Follows volume empty step node.phase (requested volume c v r)
    → IsTold volume (told volume c v (Asks r)) node step
unfolding told
asked_step volume c v r empty step node no_outs no_lines follows = whole_step volume (requested volume c v r) empty step node no_outs no_lines follows

-- the client doesn't hear what comes under its own name
pub own_name : (volume : Volume) (from : Sender) (bytes : List ℕ) (node : ClientNode) (step : Step) → step.outs.items ≡ [] → step.lines.items ≡ [] → from ≡ sender.Client
    → (c : Client) (v : ℕ) → IsClient node volume c → IsTold volume (told volume c v (news_from from bytes)) node step
unfolding told
own_name volume from bytes node step no_outs no_lines is c v plays =
    subst (λ (s : Sender). IsTold volume (told volume c v (news_from s bytes)) node step) (sym is) (record { client = plays; outs = no_outs; lines = no_lines })
