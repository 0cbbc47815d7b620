-- Letters of a node's steps: what a letter of the client brings was handed over in one of the steps.
use Rattle.std.proofs.Common.{◌≡◌, ◌∙◌, ◌⊎◌, inl, inr, ⊎_elim, ℕ, ◌==◌, Bool, true, false, if◌then◌else◌, List, [], ◌∷◌, ◌++◌, Option, None, Some, Result, Ok, Err, refl, sym, ap, subst}
use Rattle.std.specs.Prelude.{IfSome}
use Rattle.std.specs.List.{AllByRecursion}
use Rattle.salus_types.specs.declared.names.NodeName.{NodeName}
use Rattle.salus_types.specs.declared.names.Sender.{Sender}
use Rattle.salus_types.specs.declared.names.Sender.TheVariants as sender
use Rattle.salus_types.specs.declared.records.Record.{Record}
use Rattle.salus_message.specs.declared.wire.Message.{Message}
use Rattle.salus_message.specs.declared.wire.MessageError.{MessageError}
use Rattle.salus_message.specs.Reading.{message_at}
use Rattle.merkle_region.specs.Tree.{IsAmong}
use Rattle.merkle_region.proofs.Membership.{among_either}
use Rattle.volume_model.specs.Groups.{same_party, is_client}
use Rattle.salus_model.specs.declared.trace.Handed.{Handed}
use Rattle.salus_model.specs.declared.trace.Handed.TheVariants as handed
use Rattle.salus_model.specs.declared.trace.TraceStep.{TraceStep}
use Rattle.salus_model.specs.Following.{Posted, posted_at}
use Rattle.salus_model.specs.Forgery.{records_in, records_of}
use Rattle.salus_model.specs.Licences.{Letter, letter_of, letter_in_post, letters_in, letters_to}
use Rattle.list_lemmas.proofs.Each.{all_both}
use Rattle.law_lemmas.proofs.Named.{one-node}
use Rattle.law_history.specs.Handing.{records_posted, records_handed, WasHanded}
use Rattle.law_handed.specs.Fitting.{IsSpelled, LetterGiven}
use Rattle.law_shown.specs.Reading.{AllHandSpelled}

-- ---- spelling

own_spelled : (own : Bool) (letters : List Letter) → AllByRecursion (LetterGiven IsSpelled IsSpelled) letters → AllByRecursion (LetterGiven IsSpelled IsSpelled) (if own then letters else [])
own_spelled true letters all = all
own_spelled false letters all = tt

pub all_spelled : (posts : List Posted) (name : NodeName) (steps : List TraceStep) → AllHandSpelled posts steps → AllByRecursion (LetterGiven IsSpelled IsSpelled) (letters_to posts name steps)
all_spelled posts name [] given = tt
all_spelled posts name (t ∷ steps) given =
    all_both (LetterGiven IsSpelled IsSpelled) (if same_party t.party (sender.Node name) then letters_in posts t.handed else []) (letters_to posts name steps)
    (own_spelled (same_party t.party (sender.Node name)) (letters_in posts t.handed) given.0) (all_spelled posts name steps given.1)

-- ---- what a letter brings

party_is : (p : Sender) (name : NodeName) → same_party p (sender.Node name) ≡ true → p ≡ sender.Node name
party_is sender.Client name e = absurd (cc)
party_is (sender.Node other) name e = ap (λ (n : NodeName). sender.Node n) (one-node other name e)

result_brings : (letter : Letter) (rec : Record) (from : Sender) (r : Result Message MessageError) → letter.from ≡ sender.Client → IsAmong rec (records_in letter.message)
    → IsAmong letter (letter_of from r) → IsAmong rec (if is_client from then records_of r else [])
result_brings letter rec sender.Client (Ok m) client among (inl e) = subst (λ (l : Letter). IsAmong rec (records_in l.message)) e among
result_brings letter rec (sender.Node name) (Ok m) client among (inl e) =
    let wrong : sender.Node name ≡ sender.Client = sym (ap (λ (l : Letter). l.from) e) ∙ client in absurd (cc)
result_brings letter rec from (Ok m) client among (inr nothing) = absurd nothing
result_brings letter rec from (Err e) client among nothing = absurd nothing

post_brings : (letter : Letter) (rec : Record) (o : Option Posted) → letter.from ≡ sender.Client → IsAmong rec (records_in letter.message)
    → IsAmong letter (letter_in_post o) → IsAmong rec (records_posted o)
post_brings letter rec None client among nothing = absurd nothing
post_brings letter rec (Some m) client among at = result_brings letter rec m.from (message_at m.bytes) client among at

lie_brings : (letter : Letter) (rec : Record) (from : Sender) (r : Result Message MessageError) → IsAmong rec (records_in letter.message) → IsAmong letter (letter_of from r) → IsAmong rec (records_of r)
lie_brings letter rec from (Ok m) among (inl e) = subst (λ (l : Letter). IsAmong rec (records_in l.message)) e among
lie_brings letter rec from (Ok m) among (inr nothing) = absurd nothing
lie_brings letter rec from (Err e) among nothing = absurd nothing

step_brings : (posts : List Posted) (letter : Letter) (rec : Record) (what : Handed) → letter.from ≡ sender.Client → IsAmong rec (records_in letter.message)
    → IsAmong letter (letters_in posts what) → IsAmong rec (records_handed posts what)
step_brings posts letter rec (handed.Deliver k) client among at = post_brings letter rec (posted_at posts k) client among at
step_brings posts letter rec (handed.Stop k) client among at = post_brings letter rec (posted_at posts k) client among at
step_brings posts letter rec (handed.Lie from bytes) client among at = lie_brings letter rec from (message_at bytes) among at
step_brings posts letter rec handed.Tick client among nothing = absurd nothing
step_brings posts letter rec handed.Crash client among nothing = absurd nothing
step_brings posts letter rec handed.Replace client among nothing = absurd nothing
step_brings posts letter rec (handed.Asked r) client among nothing = absurd nothing
step_brings posts letter rec handed.ClientCrash client among nothing = absurd nothing

module _ (posts : List Posted) (name : NodeName) (letter : Letter) (rec : Record) (client : letter.from ≡ sender.Client) (brings : IsAmong rec (records_in letter.message)) where
  abbrev Brought : List TraceStep → Type 0
  Brought steps = WasHanded posts (sender.Node name) steps rec

  later : (t : TraceStep) (steps : List TraceStep) → Brought steps → Brought (t ∷ steps)
  later t steps was = record { step = was.step; among = inr was.among; addressed = was.addressed; hands_it = was.hands_it }

  here : (own : Bool) (t : TraceStep) (steps : List TraceStep) → same_party t.party (sender.Node name) ≡ own → IsAmong letter (if own then letters_in posts t.handed else []) → Brought (t ∷ steps)
  here true t steps addressed at = record { step = t; among = inl refl; addressed = party_is t.party name addressed; hands_it = step_brings posts letter rec t.handed client brings at }
  here false t steps addressed nothing = absurd nothing

  pub brought_in : (steps : List TraceStep) → IsAmong letter (letters_to posts name steps) → Brought steps
  brought_in [] at = absurd at
  brought_in (t ∷ steps) at =
      ⊎_elim (λ (now : IsAmong letter (if same_party t.party (sender.Node name) then letters_in posts t.handed else [])). here (same_party t.party (sender.Node name)) t steps refl now)
      (λ (rest : IsAmong letter (letters_to posts name steps)). later t steps (brought_in steps rest))
      (among_either letter (if same_party t.party (sender.Node name) then letters_in posts t.handed else []) (letters_to posts name steps) at)
