-- What the client hears of nodes in whose names no lie is told: the abstract world has each of their messages.
use Rattle.std.specs.Prelude.{◌≡◌, ◌<◌, true, List}
use Rattle.salus_types.specs.Volume.{Shape}
use Rattle.schedule_text.specs.declared.schedule.Event.{Event}
use Rattle.merkle_region.specs.Tree.{IsAmong}
use Rattle.salus_model.specs.Hearing.{News, Says}
use Rattle.law_prefix.specs.World as abstract
use Rattle.kept_model.specs.Nodes.{node_number, is_honest}
use Rattle.kept_model.specs.Matching.{IsAmongSent}

-- so of one piece of news, where it is a message of such a node of the volume
abbrev pub IsHeardIn : Shape → List Event → abstract.World → News → Type 0
IsHeardIn shape events w (Says name m) = name.replica < shape.replicas → is_honest shape events (node_number shape name) ≡ true → IsAmongSent shape w name m
IsHeardIn shape events w other = Unit {0}

abbrev pub AllHeardIn : Shape → List Event → abstract.World → List News → Type 0
AllHeardIn shape events w news = (x : News) → IsAmong x news → IsHeardIn shape events w x
