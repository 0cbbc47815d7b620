-- What becomes of the questions of the write at the head of a client's waiting line.
use Rattle.std.specs.Prelude.{◌≡◌, ◌⊎◌, ◌≤◌, ◌^◌, true, List, []}
use Rattle.salus_types.specs.Volume.{Shape}
use Rattle.salus_types.specs.declared.strike.Strike.{Strike}
use Rattle.salus_message.specs.declared.wire.Message.TheVariants as message
use Rattle.merkle_region.specs.Tree.{IsAmong}
use Rattle.salus_model.specs.Hearing.{News, Says}
use Rattle.salus_model.specs.Answering.{Struck}
use Rattle.client_rules.specs.State.{Open, Serving, Letter, Client, Serves}
use Rattle.client_rules.specs.Tables.{answers, worth}
use Rattle.law_reads.specs.Reading.{counts, IsAskedOf, IsNew}

-- the questions of the head have numbers of their own, and there are none where no request waits
pub record AreOfHead (c : Serving) : Type 0 where
  pub high : (o : Open) → IsAmong o c.asked → 2 ^ 32 ≤ o.question.number
  pub waits : c.line ≡ [] → (o : Open) → IsAmong o c.asked → ⊥

-- where the news is an answer to the question that counts and isn't struck, its sender is asked again
abbrev pub IsAskedAgain : Shape → Serving → Open → News → List Letter → Type 0
IsAskedAgain shape c o (Says name (message.Answer a)) outs =
    counts shape c name a ≡ true → answers a o ≡ true → ((s : Strike) → worth shape c a ≡ Struck s → ⊥) → IsAskedOf shape c o name outs
IsAskedAgain shape c o other outs = Unit {0}

-- the question was asked before
pub record StaysAsked (shape : Shape) (c : Serving) (x : News) (o : Open) (outs : List Letter) : Type 0 where
  pub before : Open
  pub among : IsAmong before c.asked
  pub question : before.question ≡ o.question
  pub again : IsAskedAgain shape c o x outs

-- each question of the head that is asked then was asked before, or it is new and goes to each replica of its block's group
abbrev pub AsksHead : Shape → Serving → News → List Letter → Client → Type 0
AsksHead shape c x outs (Serves next) = (o : Open) → IsAmong o next.asked → StaysAsked shape c x o outs ⊎ IsNew shape next o outs
AsksHead shape c x outs other = Unit {0}
