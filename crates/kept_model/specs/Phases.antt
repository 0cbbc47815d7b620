-- The client as the lines and the news so far leave it, as the abstract model has it.
use Rattle.std.specs.Prelude.{◌≡◌, ◌⊎◌, ℕ, Bool, true, if◌then◌else◌, List, [], ◌∷◌, ◌++◌, Some, unwrap_or}
use Rattle.salus_types.specs.Volume.{Shape}
use Rattle.schedule_text.specs.declared.schedule.Event.{Event}
use Rattle.volume_model.specs.Parts.{Session}
use Rattle.salus_model.specs.Judge.{Judge, known_at}
use Rattle.salus_model.specs.Hearing.{Past, news_since, stages, judge_of, Phase, Serving, Closed, Gathering, Fetching, Staged, phase_of}
use Rattle.salus_model.specs.Opening.{all_staged}
use Rattle.salus_model.specs.Complete.{last_begun}
use Rattle.kept_model.specs.Batches.{list_at, start_at}
use Rattle.law_prefix.specs.Numbers.{Mem}
use Rattle.law_prefix.specs.World as abstract

-- the session that was asked for last, the first one where none was
abbrev pub asked_of : List Past → ℕ
asked_of history = unwrap_or (last_begun history) 1

-- A staged session is switched to as soon as every node has staged it.
abbrev pub phase_from : Bool → Phase → abstract.Phase
phase_from told Serving = abstract.Serving
phase_from told Closed = abstract.Closed
phase_from told (Gathering e) = abstract.Gathering
phase_from told (Fetching e g) = abstract.Fetching
phase_from told (Staged e) = if told then abstract.Switching else abstract.Staging

-- the session that is staged, if every node has told so since
abbrev pub switched_in : Shape → List Past → Phase → List ℕ
switched_in shape history (Staged e) = if all_staged shape e (news_since stages history) then e ∷ [] else []
switched_in shape history other = []

abbrev pub is_told : Shape → List Past → Phase → Bool
is_told shape history (Staged e) = all_staged shape e (news_since stages history)
is_told shape history other = true

abbrev pub phase_as : Shape → List Past → abstract.Phase
phase_as shape history = phase_from (is_told shape history (phase_of history)) (phase_of history)

-- the sessions of which Switch was sent: those that were so after some step
unfoldable pub switches_of : Shape → List Past → List ℕ
switches_of shape [] = []
switches_of shape (p ∷ history) = switched_in shape (p ∷ history) (phase_of (p ∷ history)) ++ switches_of shape history

-- session 0, that of a blank node, or one that the lines make known
abbrev pub IsKnown : Judge → ℕ → Type 0
IsKnown judge e = (e ≡ 0) ⊎ ((known : Session) × (known_at judge e ≡ Some known))

-- The abstract client is as the history says. Of the two lists of sessions only the members count.
pub record IsClientOf (shape : Shape) (events : List Event) (history : List Past) (c : abstract.Client) : Type 0 where
  pub lists : (e : ℕ) → c.lists e ≡ list_at shape (judge_of shape events history) e
  pub starts : (e : ℕ) → c.starts e ≡ start_at (judge_of shape events history) e
  pub known_there : (e : ℕ) → Mem e c.known → IsKnown (judge_of shape events history) e
  pub known_back : (e : ℕ) → IsKnown (judge_of shape events history) e → Mem e c.known
  pub served : c.served ≡ (judge_of shape events history).now.session
  pub acked : c.acked ≡ (judge_of shape events history).acked
  pub asked : c.asked ≡ asked_of history
  pub phase : c.phase ≡ phase_as shape history
  pub switched_there : (e : ℕ) → Mem e c.switches → Mem e (switches_of shape history)
  pub switched_back : (e : ℕ) → Mem e (switches_of shape history) → Mem e c.switches
