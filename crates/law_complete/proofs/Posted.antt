-- What is handed to a node where nobody lies: messages that were posted before.
use Rattle.std.proofs.Common.{◌≡◌, ◌∙◌, inl, inr, ℕ, ◌<◌, ◌≤◌, Bool, true, false, if◌then◌else◌, List, [], ◌∷◌, ◌++◌, Option, None, Some, refl, sym, ap, subst, le_trans, append-nil}
use Rattle.std.specs.Prelude.{option_map, Result, Ok, Err}
use Rattle.std.proofs.lemmas.Bool.{true≢false}
use Rattle.std.proofs.lemmas.Grind.{flat_map-append}
use Rattle.salus_types.specs.declared.names.NodeName.{NodeName}
use Rattle.salus_types.specs.declared.names.Sender.{Sender}
use Rattle.salus_types.specs.declared.names.Sender.TheVariants as sender
use Rattle.salus_message.specs.declared.wire.Message.{Message}
use Rattle.salus_message.specs.declared.wire.MessageError.{MessageError}
use Rattle.salus_message.specs.Reading.{message_at}
use Rattle.schedule_text.specs.declared.schedule.Event.{Event}
use Rattle.merkle_region.specs.Tree.{IsAmong}
use Rattle.merkle_region.proofs.Membership.{among_left, among_right, among_either}
use Rattle.volume_model.specs.Groups.{same_party}
use Rattle.salus_model.specs.declared.trace.Handed.{Handed}
use Rattle.salus_model.specs.declared.trace.Handed.TheVariants as handed
use Rattle.salus_model.specs.declared.trace.TraceStep.{TraceStep}
use Rattle.salus_model.specs.Following.{Posted, posted_at}
use Rattle.salus_model.specs.Guarding.{is_lied_for}
use Rattle.salus_model.specs.Licences.{Letter, letter_of, letter_in_post, letters_in, letters_to}
use Rattle.replica_rules.specs.Rules.{Input, Receives, Ticks}
use Rattle.run_rules.specs.Knowing.{input_of_post, input_of}
use Rattle.run_rules.specs.Running.{addresses}
use Rattle.law_asked.proofs.Kept.{IsHandedOver}
use Rattle.law_complete.specs.Beginning.{as_list, input_at, inputs_in}

-- one of the first messages that were sent is that letter
pub record WasPosted (posts : List Posted) (sent : ℕ) (l : Letter) : Type 0 where
  pub k : ℕ
  pub counted : 0 < k
  pub low : k ≤ sent
  pub post : Posted
  pub at : posted_at posts k ≡ Some post
  pub from : post.from ≡ l.from
  pub reads : message_at post.bytes ≡ Ok l.message

pub posted_later : (posts : List Posted) (sent more : ℕ) → sent ≤ more → (l : Letter) → WasPosted posts sent l → WasPosted posts more l
posted_later posts sent more up l was = record { k = was.k; counted = was.counted; low = le_trans was.low up; post = was.post; at = was.at; from = was.from; reads = was.reads }

-- each of these letters
abbrev pub WerePosted : List Posted → ℕ → List Letter → Type 0
WerePosted posts sent letters = (l : Letter) → IsAmong l letters → WasPosted posts sent l

pub both_posted : (posts : List Posted) (sent : ℕ) (xs ys : List Letter) → WerePosted posts sent xs → WerePosted posts sent ys → WerePosted posts sent (xs ++ ys)
both_posted posts sent xs ys front back l among = elim (among_either l xs ys among) [ inl one ↦ front l one | inr other ↦ back l other ]

-- ---- what a step hands over

module _ (events : List Event) (honest : (who : Sender) → is_lied_for events who ≡ false) (posts : List Posted) (sent : ℕ) where
  result_posted : (k : ℕ) → 0 < k → k ≤ sent → (post : Posted) → posted_at posts k ≡ Some post → (r : Result Message MessageError) → message_at post.bytes ≡ r → WerePosted posts sent (letter_of post.from r)
  result_posted k counted low post at (Ok m) reads l (inl same) =
      subst (WasPosted posts sent) (sym same) (record { k = k; counted = counted; low = low; post = post; at = at; from = refl; reads = reads })
  result_posted k counted low post at (Ok m) reads l (inr nothing) = absurd nothing
  result_posted k counted low post at (Err e) reads l nothing = absurd nothing

  post_posted : (k : ℕ) → 0 < k → k ≤ sent → (o : Option Posted) → posted_at posts k ≡ o → WerePosted posts sent (letter_in_post o)
  post_posted k counted low None at = λ l nothing. absurd nothing
  post_posted k counted low (Some post) at = result_posted k counted low post at (message_at post.bytes) refl

  pub handed_posted : (what : Handed) → IsHandedOver events sent what → WerePosted posts sent (letters_in posts what)
  handed_posted (handed.Deliver k) over = post_posted k over.0 over.1 (posted_at posts k) refl
  handed_posted (handed.Stop k) over = post_posted k over.0 over.1 (posted_at posts k) refl
  handed_posted (handed.Lie from bytes) over = absurd (true≢false (sym over ∙ honest from))
  handed_posted handed.Tick over = λ l nothing. absurd nothing
  handed_posted handed.Crash over = λ l nothing. absurd nothing
  handed_posted handed.Replace over = λ l nothing. absurd nothing
  handed_posted (handed.Asked r) over = λ l nothing. absurd nothing
  handed_posted handed.ClientCrash over = λ l nothing. absurd nothing

-- ---- inputs and letters

module _ (from : Sender) (bytes : List ℕ) (m : Message) (reads : message_at bytes ≡ Ok m) where
  abbrev letter : Letter
  letter = record { from = from; message = m }

  received : (other : Sender) (text : List ℕ) → Receives from bytes ≡ Receives other text → IsAmong letter (letter_of other (message_at text))
  received other text same = ap_letter same
    where
      letters_of_input : Input → List Letter
      letters_of_input (Receives who what) = letter_of who (message_at what)
      letters_of_input Ticks = []

      ap_letter : Receives from bytes ≡ Receives other text → IsAmong letter (letter_of other (message_at text))
      ap_letter same =
          subst (λ (l : List Letter). IsAmong letter l) (ap letters_of_input same)
          (subst (λ (r : Result Message MessageError). IsAmong letter (letter_of from r)) (sym reads) (inl refl))

  input_tick : Receives from bytes ≡ Ticks → ⊥
  input_tick same = cc

  post_letter : (o : Option Posted) → IsAmong (Receives from bytes) (as_list (option_map (λ p. input_of_post p) o)) → IsAmong letter (letter_in_post o)
  post_letter None nothing = absurd nothing
  post_letter (Some post) (inl same) = received post.from post.bytes same
  post_letter (Some post) (inr nothing) = absurd nothing

  handed_letter : (posts : List Posted) (what : Handed) → IsAmong (Receives from bytes) (as_list (input_of posts what)) → IsAmong letter (letters_in posts what)
  handed_letter posts (handed.Deliver k) among = post_letter (posted_at posts k) among
  handed_letter posts (handed.Stop k) among = post_letter (posted_at posts k) among
  handed_letter posts (handed.Lie who text) (inl same) = received who text same
  handed_letter posts (handed.Lie who text) (inr nothing) = absurd nothing
  handed_letter posts handed.Tick (inl same) = absurd (input_tick same)
  handed_letter posts handed.Tick (inr nothing) = absurd nothing
  handed_letter posts handed.Crash nothing = absurd nothing
  handed_letter posts handed.Replace nothing = absurd nothing
  handed_letter posts (handed.Asked r) nothing = absurd nothing
  handed_letter posts handed.ClientCrash nothing = absurd nothing

  own_letter : (own : Bool) (posts : List Posted) (what : Handed) → IsAmong (Receives from bytes) (as_list (if own then input_of posts what else None)) → IsAmong letter (if own then letters_in posts what else [])
  own_letter true posts what among = handed_letter posts what among
  own_letter false posts what nothing = absurd nothing

  -- an input that is handed to a node in these steps is a letter to it
  pub input_letter : (posts : List Posted) (name : NodeName) (steps : List TraceStep) → IsAmong (Receives from bytes) (inputs_in posts name steps) → IsAmong letter (letters_to posts name steps)
  unfolding inputs_in
  input_letter posts name [] nothing = absurd nothing
  input_letter posts name (t ∷ steps) among = elim (among_either (Receives from bytes) (as_list (input_at posts name t)) (inputs_in posts name steps) among) [
    | inl here ↦ among_left letter (if addresses name t then letters_in posts t.handed else []) (letters_to posts name steps) (own_letter (addresses name t) posts t.handed here)
    | inr later ↦ among_right letter (if addresses name t then letters_in posts t.handed else []) (letters_to posts name steps) (input_letter posts name steps later)
  ]

-- ---- the letters to a node

pub letters_apart : (posts : List Posted) (name : NodeName) (front back : List TraceStep) → letters_to posts name (front ++ back) ≡ letters_to posts name front ++ letters_to posts name back
letters_apart posts name front back = flat_map-append (λ (s : TraceStep). if same_party s.party (sender.Node name) then letters_in posts s.handed else []) front back

-- one step more
pub letters_more : (posts : List Posted) (name : NodeName) (done : List TraceStep) (t : TraceStep) → letters_to posts name (done ++ t ∷ []) ≡ letters_to posts name done ++ (if addresses name t then letters_in posts t.handed else [])
letters_more posts name done t = letters_apart posts name done (t ∷ []) ∙ ap (λ (l : List Letter). letters_to posts name done ++ l) (append-nil (if addresses name t then letters_in posts t.handed else []))
