-- What nodes show was handed to them, and what the client posts is tagged: facts of every run, without premise.
use Rattle.std.specs.Prelude.{true, ◌≡◌, ◌⊎◌, ℕ, ◌<◌, ◌≤◌, if◌then◌else◌, List, [], ◌∷◌, map, Option, None, Some}
use Rattle.salus_types.specs.declared.names.Sender.{Sender}
use Rattle.salus_types.specs.declared.records.Record.{Record}
use Rattle.salus_message.specs.Reading.{message_at}
use Rattle.merkle_region.specs.Tree.{IsAmong}
use Rattle.schedule_text.specs.declared.schedule.Volume.{Volume}
use Rattle.schedule_text.specs.declared.schedule.Event.{Event}
use Rattle.salus_model.specs.declared.trace.Handed.{Handed}
use Rattle.salus_model.specs.declared.trace.Handed.TheVariants as handed
use Rattle.salus_model.specs.declared.trace.TraceStep.{TraceStep}
use Rattle.client_tag.specs.Tags.{is_genuine}
use Rattle.salus_model.specs.Judge.{first_session, judged_all}
use Rattle.salus_model.specs.Following.{Posted, posted_at, sent_by}
use Rattle.volume_model.specs.Groups.{is_client}
use Rattle.salus_model.specs.Hearing.{Past, news_of_post}
use Rattle.salus_model.specs.Due.{past_of}
use Rattle.salus_model.specs.Forgery.{IsBaseOf, IsTagged, records_of}
use Rattle.law_history.specs.Choosing.{ChoseRight}
use Rattle.law_history.specs.Showing.{records_shown}

-- the records of a message, if the client posted it
abbrev pub records_posted : Option Posted → List Record
records_posted None = []
records_posted (Some m) = if is_client m.from then records_of (message_at m.bytes) else []

-- the records that a step hands over: those of a message of the client, or of a lie
abbrev pub records_handed : List Posted → Handed → List Record
records_handed posts (handed.Deliver k) = records_posted (posted_at posts k)
records_handed posts (handed.Stop k) = records_posted (posted_at posts k)
records_handed posts (handed.Lie from bytes) = records_of (message_at bytes)
records_handed posts other = []

-- the record was handed to the party in one of these steps
pub record WasHanded (posts : List Posted) (party : Sender) (steps : List TraceStep) (rec : Record) : Type 0 where
  pub step : TraceStep
  pub among : IsAmong step steps
  pub addressed : step.party ≡ party
  pub hands_it : IsAmong rec (records_handed posts step.handed)

-- it is the base record of a formatted region
pub record IsFormatted (volume : Volume) (rec : Record) : Type 0 where
  pub g : ℕ
  pub is : IsBaseOf volume.geometry volume.key (first_session volume.geometry) g rec

-- each genuine record that the step's messages show as held was handed to the party before, or is formatted
abbrev pub ShowsHanded : Volume → List Posted → List TraceStep → TraceStep → Type 0
ShowsHanded volume posts earlier t =
    (k : ℕ) (rec : Record) → sent_by earlier < k → k ≤ t.sent → IsAmong rec (records_shown (news_of_post (posted_at posts k))) → is_genuine volume.key rec ≡ true
    → WasHanded posts t.party (t ∷ earlier) rec ⊎ IsFormatted volume rec

-- so it is at each of these steps
unfoldable pub NodesShowHanded : Volume → List Posted → List TraceStep → List TraceStep → Type 0
NodesShowHanded volume posts earlier [] = Unit {0}
NodesShowHanded volume posts earlier (t ∷ steps) = ShowsHanded volume posts earlier t × NodesShowHanded volume posts (t ∷ earlier) steps

abbrev pub steps_in : List Past → List TraceStep
steps_in history = map (λ p. p.step) history

-- each record that the client posts in the step is tagged by what its lines say
abbrev pub PostsTagged : Volume → List Event → List Posted → List Past → Past → Type 0
PostsTagged volume events posts history p =
    (k : ℕ) (rec : Record) → sent_by (steps_in history) < k → k ≤ p.step.sent → IsAmong rec (records_posted (posted_at posts k))
    → IsTagged volume.geometry volume.key (judged_all events p.before p.lines) rec

-- so it is at each of these steps, where each choice up to it was right
unfoldable pub ClientPostsTagged : Volume → List Event → List Posted → List Past → List TraceStep → Type 0
ClientPostsTagged volume events posts history [] = Unit {0}
ClientPostsTagged volume events posts history (t ∷ steps) =
    (ChoseRight volume (past_of volume events posts history t ∷ history) → PostsTagged volume events posts history (past_of volume events posts history t))
    × ClientPostsTagged volume events posts (past_of volume events posts history t ∷ history) steps
