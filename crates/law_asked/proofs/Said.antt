-- What the client hears of a node was posted by it before, or is a lie in its name.
use Rattle.std.proofs.Common.{◌≡◌, ◌⊎◌, inl, inr, ℕ, ◌<◌, ◌≤◌, Bool, true, false, if◌then◌else◌, List, Option, None, Some, Result, Ok, Err, refl}
use Rattle.salus_types.specs.declared.names.NodeName.{NodeName}
use Rattle.salus_types.specs.declared.names.Sender.{Sender}
use Rattle.salus_types.specs.declared.names.Sender.TheVariants as sender
use Rattle.salus_message.specs.declared.wire.Message.{Message}
use Rattle.salus_message.specs.declared.wire.MessageError.{MessageError}
use Rattle.salus_message.specs.Reading.{message_at}
use Rattle.schedule_text.specs.declared.schedule.Event.{Event}
use Rattle.volume_model.specs.Groups.{is_client}
use Rattle.salus_model.specs.declared.trace.Handed.{Handed}
use Rattle.salus_model.specs.declared.trace.Handed.TheVariants as handed
use Rattle.salus_model.specs.declared.trace.TraceStep.{TraceStep}
use Rattle.salus_model.specs.Following.{Posted, posted_at}
use Rattle.salus_model.specs.Guarding.{is_lied_for}
use Rattle.salus_model.specs.Hearing.{News, Says, Silence, news_of_message, news_from, news_of_post, news_in, news_of}
use Rattle.law_asked.proofs.Kept.{IsHandedOver}

-- one of the first messages that were sent is that message of the node
pub record WasSaid (posts : List Posted) (sent : ℕ) (name : NodeName) (m : Message) : Type 0 where
  pub k : ℕ
  pub counted : 0 < k
  pub low : k ≤ sent
  pub post : Posted
  pub at : posted_at posts k ≡ Some post
  pub from : post.from ≡ sender.Node name
  pub reads : message_at post.bytes ≡ Ok m

module _ (events : List Event) (posts : List Posted) (sent : ℕ) where
  abbrev pub IsSaid : News → Type 0
  IsSaid (Says name m) = (is_lied_for events (sender.Node name) ≡ true) ⊎ WasSaid posts sent name m
  IsSaid other = Unit {0}

  read_said : (name : NodeName) (r : Result Message MessageError) → ((m : Message) → r ≡ Ok m → (is_lied_for events (sender.Node name) ≡ true) ⊎ WasSaid posts sent name m)
      → IsSaid (news_of_message name r)
  read_said name (Ok m) said = said m refl
  read_said name (Err e) said = tt

  sender_said : (k : ℕ) → 0 < k → k ≤ sent → (post : Posted) → posted_at posts k ≡ Some post → (from : Sender) → post.from ≡ from → IsSaid (news_from from post.bytes)
  sender_said k counted low post at sender.Client is = tt
  sender_said k counted low post at (sender.Node name) is =
      read_said name (message_at post.bytes) (λ m reads. inr (record { k = k; counted = counted; low = low; post = post; at = at; from = is; reads = reads }))

  post_said : (k : ℕ) → 0 < k → k ≤ sent → (o : Option Posted) → posted_at posts k ≡ o → IsSaid (news_of_post o)
  post_said k counted low None at = tt
  post_said k counted low (Some post) at = sender_said k counted low post at post.from refl

  lie_said : (from : Sender) (bytes : List ℕ) → is_lied_for events from ≡ true → IsSaid (news_from from bytes)
  lie_said sender.Client bytes lied = tt
  lie_said (sender.Node name) bytes lied = read_said name (message_at bytes) (λ m reads. inl lied)

  handed_said : (what : Handed) → IsHandedOver events sent what → IsSaid (news_in posts what)
  handed_said (handed.Deliver k) over = post_said k over.0 over.1 (posted_at posts k) refl
  handed_said (handed.Lie from bytes) over = lie_said from bytes over
  handed_said (handed.Stop k) over = tt
  handed_said (handed.Asked r) over = tt
  handed_said handed.Tick over = tt
  handed_said handed.Crash over = tt
  handed_said handed.Replace over = tt
  handed_said handed.ClientCrash over = tt

  either_said : (client : Bool) (x : News) → IsSaid x → IsSaid (if client then x else Silence)
  either_said true x said = said
  either_said false x said = tt

  pub step_said : (t : TraceStep) → IsHandedOver events sent t.handed → IsSaid (news_of posts t)
  step_said t over = either_said (is_client t.party) (news_in posts t.handed) (handed_said t.handed over)
