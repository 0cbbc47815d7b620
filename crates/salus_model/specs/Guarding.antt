-- Which nodes count at a step, and the premise that each group always has one.
use Rattle.std.specs.Prelude.{◌≡◌, ℕ, Bool, true, false, ◌==◌, ◌&&◌, ◌||◌, not, List, [], ◌∷◌}
use Rattle.std.specs.List.{list_any, list_all}
use Rattle.salus_types.specs.Volume.{Shape}
use Rattle.salus_types.specs.declared.names.NodeName.{NodeName}
use Rattle.salus_types.specs.declared.names.Sender.{Sender}
use Rattle.salus_types.specs.declared.names.Sender.TheVariants as sender
use Rattle.schedule_text.specs.declared.schedule.Volume.{Volume}
use Rattle.schedule_text.specs.declared.schedule.Event.{Event}
use Rattle.schedule_text.specs.declared.schedule.Event.TheVariants as event
use Rattle.printed_lines.specs.declared.line.Line.{Line}
use Rattle.printed_lines.specs.declared.line.Line.TheVariants as line
use Rattle.salus_model.specs.declared.trace.Request.TheVariants as request
use Rattle.salus_model.specs.declared.trace.Handed.{Handed}
use Rattle.salus_model.specs.declared.trace.Handed.TheVariants as handed
use Rattle.salus_model.specs.declared.trace.TraceStep.{TraceStep}
use Rattle.volume_model.specs.Contents.{all_regions}
use Rattle.salus_model.specs.Following.{Posted}
use Rattle.salus_model.specs.Hearing.{News, Asks, Past, since, begins}
use Rattle.volume_model.specs.Groups.{same_node, same_party, group_of}
use Rattle.salus_model.specs.Due.{history_from}

-- a lie carries the party's name as sender
abbrev pub lies_for : Sender → Event → Bool
lies_for who (event.Lie from to bytes) = same_party from who
lies_for who other = false

abbrev pub is_lied_for : List Event → Sender → Bool
is_lied_for events who = list_any (λ e. lies_for who e) events

abbrev pub names_replaced : NodeName → Event → Bool
names_replaced name (event.Replace node) = same_node node name
names_replaced name other = false

-- a node is right where no lie carries its name, and no event replaces it
abbrev pub is_right : List Event → NodeName → Bool
is_right events name = not (is_lied_for events (sender.Node name)) && not (list_any (λ e. names_replaced name e) events)

-- ---- nodes that come back

abbrev pub is_replacement : Handed → Bool
is_replacement handed.Replace = true
is_replacement other = false

abbrev pub replaces : NodeName → Past → Bool
replaces name p = is_replacement p.step.handed && same_party p.step.party (sender.Node name)

-- the request asks to open that session
abbrev pub asks_session : ℕ → News → Bool
asks_session e (Asks (request.Restart session)) = session == e
asks_session e (Asks (request.Reassign session region)) = session == e
asks_session e other = false

-- a line opens a session that the client began to open in these steps
abbrev pub opens_begun : List Past → Line → Bool
opens_begun steps (line.Open e) = list_any (λ p. begins p && asks_session e p.news) steps
opens_begun steps other = false

-- in these steps a session was begun and opened
abbrev pub has_opened : List Past → Bool
has_opened steps = list_any (λ p. list_any (λ l. opens_begun steps l) p.lines) steps

-- A node counts if no lie of the schedule carries its name, and if a session was begun and opened since it was last replaced.
unfoldable pub counts : List Event → List Past → NodeName → Bool
counts events history name =
    not (is_lied_for events (sender.Node name))
    && (not (list_any (λ p. replaces name p) history) || has_opened (since (λ p. replaces name p) history))

-- each group has a node that counts
abbrev pub all_guarded : Shape → List Event → List Past → Bool
all_guarded shape events history = list_all (λ g. list_any (λ name. counts events history name) (group_of shape g)) (all_regions shape)

-- after each step, and before the first
unfoldable pub GuardedThroughout : Shape → List Event → List Past → Type 0
GuardedThroughout shape events [] = all_guarded shape events [] ≡ true
GuardedThroughout shape events (p ∷ history) = (all_guarded shape events (p ∷ history) ≡ true) × GuardedThroughout shape events history

-- no lie carries the client's name, and each group has a node that counts at every step
pub record Guarded (volume : Volume) (events : List Event) (posts : List Posted) (trace : List TraceStep) : Type 0 where
  pub client : is_lied_for events sender.Client ≡ false
  pub groups : GuardedThroughout volume.geometry events (history_from volume events posts [] trace)
