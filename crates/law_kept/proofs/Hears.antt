-- What the client hears of a node was posted by that node before, or is a lie in its name.
use Rattle.std.proofs.Common.{◌≡◌, ◌⊎◌, ◌∙◌, ℕ, ◌<◌, ◌≤◌, Bool, true, false, not, nat_lt, if◌then◌else◌, List, Option, None, Some, Result, Ok, Err, inl, inr, refl, ap, sym, subst, le_trans}
use Rattle.std.proofs.lemmas.Bool.{false≢true, ltb-true}
use Rattle.salus_types.specs.Volume.{Shape, regions, IsVolume}
use Rattle.salus_types.specs.declared.names.NodeName.{NodeName}
use Rattle.salus_types.specs.declared.names.Sender.{Sender}
use Rattle.salus_types.specs.declared.names.Sender.TheVariants as sender
use Rattle.salus_message.specs.declared.wire.Message.{Message}
use Rattle.salus_message.specs.declared.wire.MessageError.{MessageError}
use Rattle.salus_message.specs.Reading.{message_at}
use Rattle.schedule_text.specs.Limits.{IsOfVolume}
use Rattle.schedule_text.specs.declared.schedule.Event.{Event}
use Rattle.salus_model.specs.declared.trace.Handed.{Handed}
use Rattle.salus_model.specs.declared.trace.Handed.TheVariants as handed
use Rattle.salus_model.specs.declared.trace.TraceStep.{TraceStep}
use Rattle.salus_model.specs.Following.{Posted, posted_at}
use Rattle.salus_model.specs.Guarding.{is_lied_for}
use Rattle.salus_model.specs.Hearing.{News, Asks, Says, Crashes, Silence, news_of_message, news_from, news_of_post, news_in, news_of}
use Rattle.volume_model.specs.Groups.{is_client}
use Rattle.list_lemmas.proofs.Tests.{and_left, and_right}
use Rattle.law_prefix.specs.World as abstract
use Rattle.kept_model.specs.Nodes.{node_number, region_of_node, node_of, is_honest}
use Rattle.kept_model.specs.Matching.{AllAmongSent}
use Rattle.law_records.proofs.Recovered.{region-number}
use Rattle.law_matched.specs.Silent.{IsHandedRight}
use Rattle.law_matched.proofs.Numbering.{node_numbered}
use Rattle.law_phases.specs.Hearing.{IsHeardIn}

-- a node of the volume in whose name no lie is told
pub honest_node : (shape : Shape) → IsVolume shape → (events : List Event) (name : NodeName) → name.replica < shape.replicas → is_honest shape events (node_number shape name) ≡ true
    → IsOfVolume shape name × (is_lied_for events (sender.Node name) ≡ true → ⊥)
honest_node shape limits events name low honest =
    let r : ℕ = node_number shape name in
    let region : nat_lt (region_of_node shape r) (regions shape) ≡ true = and_left (nat_lt (region_of_node shape r) (regions shape)) (not (is_lied_for events (sender.Node (node_of shape r)))) honest in
    let inside : IsOfVolume shape name = (subst (λ g. g < regions shape) (region-number shape name low) (ltb-true (region_of_node shape r) (regions shape) region), low) in
    let told : not (is_lied_for events (sender.Node (node_of shape r))) ≡ true = and_right (nat_lt (region_of_node shape r) (regions shape)) (not (is_lied_for events (sender.Node (node_of shape r)))) honest in
    let own : not (is_lied_for events (sender.Node name)) ≡ true = subst (λ (n : NodeName). not (is_lied_for events (sender.Node n)) ≡ true) (node_numbered shape limits name inside) told in
    (inside, λ lied. false≢true (sym (ap not lied) ∙ own))

-- the message is one of the first that were sent, and the node's
pub record WasPosted (posts : List Posted) (sent : ℕ) (name : NodeName) (m : Message) : Type 0 where
  pub k : ℕ
  pub counted : 0 < k
  pub low : k ≤ sent
  pub post : Posted
  pub at : posted_at posts k ≡ Some post
  pub from : post.from ≡ sender.Node name
  pub reads : message_at post.bytes ≡ Ok m

abbrev pub IsHeardOf : List Event → List Posted → ℕ → News → Type 0
IsHeardOf events posts sent (Says name m) = (is_lied_for events (sender.Node name) ≡ true) ⊎ WasPosted posts sent name m
IsHeardOf events posts sent (Asks r) = Unit {0}
IsHeardOf events posts sent Crashes = Unit {0}
IsHeardOf events posts sent Silence = Unit {0}

pub heard_later : (events : List Event) (posts : List Posted) (sent more : ℕ) → sent ≤ more → (x : News) → IsHeardOf events posts sent x → IsHeardOf events posts more x
heard_later events posts sent more up (Says name m) (inl lied) = inl lied
heard_later events posts sent more up (Says name m) (inr was) =
    inr (record { k = was.k; counted = was.counted; low = le_trans was.low up; post = was.post; at = was.at; from = was.from; reads = was.reads })
heard_later events posts sent more up (Asks r) heard = tt
heard_later events posts sent more up Crashes heard = tt
heard_later events posts sent more up Silence heard = tt

-- the abstract world has it
pub heard_in : (shape : Shape) → IsVolume shape → (events : List Event) (posts : List Posted) (sent : ℕ) (w : abstract.World) → AllAmongSent shape events posts sent w
    → (x : News) → IsHeardOf events posts sent x → IsHeardIn shape events w x
heard_in shape limits events posts sent w all (Says name m) (inl lied) = λ low honest. absurd ((honest_node shape limits events name low honest).1 lied)
heard_in shape limits events posts sent w all (Says name m) (inr was) = λ low honest. all was.k was.counted was.low was.post was.at name was.from honest m was.reads
heard_in shape limits events posts sent w all (Asks r) heard = tt
heard_in shape limits events posts sent w all Crashes heard = tt
heard_in shape limits events posts sent w all Silence heard = tt

-- ---- what a step hands over

module _ (events : List Event) (posts : List Posted) (sent : ℕ) where
  read_heard : (name : NodeName) (r : Result Message MessageError) → ((m : Message) → r ≡ Ok m → (is_lied_for events (sender.Node name) ≡ true) ⊎ WasPosted posts sent name m)
      → IsHeardOf events posts sent (news_of_message name r)
  read_heard name (Ok m) heard = heard m refl
  read_heard name (Err e) heard = tt

  post_heard : (k : ℕ) → 0 < k → k ≤ sent → (o : Option Posted) → posted_at posts k ≡ o → IsHeardOf events posts sent (news_of_post o)
  post_heard k counted low None at = tt
  post_heard k counted low (Some post) at = by_sender post.from refl where
    by_sender : (from : Sender) → post.from ≡ from → IsHeardOf events posts sent (news_from from post.bytes)
    by_sender sender.Client is = tt
    by_sender (sender.Node name) is =
        read_heard name (message_at post.bytes) (λ m reads. inr (record { k = k; counted = counted; low = low; post = post; at = at; from = is; reads = reads }))

  lie_heard : (from : Sender) (bytes : List ℕ) → is_lied_for events from ≡ true → IsHeardOf events posts sent (news_from from bytes)
  lie_heard sender.Client bytes lied = tt
  lie_heard (sender.Node name) bytes lied = read_heard name (message_at bytes) (λ m reads. inl lied)

  handed_heard : (what : Handed) → IsHandedRight events sent what → IsHeardOf events posts sent (news_in posts what)
  handed_heard (handed.Deliver k) right = post_heard k right.0 right.1 (posted_at posts k) refl
  handed_heard (handed.Lie from bytes) right = lie_heard from bytes right
  handed_heard (handed.Stop k) right = tt
  handed_heard (handed.Asked r) right = tt
  handed_heard handed.Tick right = tt
  handed_heard handed.Crash right = tt
  handed_heard handed.Replace right = tt
  handed_heard handed.ClientCrash right = tt

  either_heard : (client : Bool) (x : News) → IsHeardOf events posts sent x → IsHeardOf events posts sent (if client then x else Silence)
  either_heard true x heard = heard
  either_heard false x heard = tt

  pub step_heard : (t : TraceStep) → IsHandedRight events sent t.handed → IsHeardOf events posts sent (news_of posts t)
  step_heard t right = either_heard (is_client t.party) (news_in posts t.handed) (handed_heard t.handed right)
