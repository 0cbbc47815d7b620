-- A node: what it holds, and its view and memory of the open session.
use Rattle.std.specs.Prelude.{ℕ, Bool, ◌==◌, ◌&&◌, if◌then◌else◌, List, [], ◌∷◌, length, filter, find, option_map, Option, None, Some}
use Rattle.salus_types.specs.Volume.{Shape}
use Rattle.salus_types.specs.declared.records.Record.{Record}
use Rattle.salus_types.specs.declared.records.Base.{Base}
use Rattle.salus_types.specs.declared.records.Held.{Held}
use Rattle.holding_model.specs.Fitting.{has_content, has_shape}
use Rattle.volume_model.specs.Recovering.{is_of}
use Rattle.replica_rules.specs.Views.{View, view_of_base, view_after, is_accepted, has_right_shape}
use Rattle.replica_rules.specs.Replicas.{Replica}
use Rattle.replica_rules.specs.Leading.{Leader, new_leader, noted_with}
use Rattle.holding_model.specs.Changing.{is_open_base}

-- Of the open session: its replica and its leader; the held parts that count, in the order held; the number with which
-- the session began, where the base at the load or switch tells it; and whether all its bases and parts that are held count.
pub record Memory : Type 0 where
  pub replica : Replica
  pub leader : Leader
  pub parts : List Record
  pub begun : Option ℕ
  pub whole : Bool

-- what is held, and what is in memory where the open session has a base that counts
pub record NodeState : Type 0 where
  pub held : Held
  pub memory : Option Memory

-- ---- a load from any file

-- a held base counts for a session in region g where it is of both, with a block for each place
abbrev pub stands_for : Shape → ℕ → ℕ → Base → Bool
stands_for shape g e base = is_of e g base.rec.header && has_shape shape base.blocks

-- of several the first counts
abbrev pub base_held : Shape → ℕ → ℕ → Held → Option Base
base_held shape g e held = find (λ base. stands_for shape g e base) held.bases

-- a held part of the open session counts where it goes on from the view
abbrev pub goes_on : Shape → ℕ → View → Record → Bool
goes_on shape g view rec = (rec.header.region == g) && has_right_shape shape g rec && (rec.header.previous == view.number) && is_accepted shape view rec

-- the view after the parts that count, and these
pub record Tried : Type 0 where
  pub view : View
  pub parts : List Record

abbrev pub counted : Record → Tried → Tried
counted rec tried = record tried { parts = rec ∷ tried.parts }

-- the parts are tried in the order held
unfoldable pub all_tried : Shape → ℕ → View → List Record → Tried
all_tried shape g view [] = record { view = view; parts = [] }
all_tried shape g view (rec ∷ parts) =
    if goes_on shape g view rec then counted rec (all_tried shape g (view_after shape view rec) parts) else all_tried shape g view parts

-- the held parts of the open session
abbrev pub open_parts : Held → List Record
open_parts held = filter (λ rec. rec.header.session == held.session) held.parts

-- an unfolded base tells with which number its session began
abbrev pub begun_with : Base → Option ℕ
begun_with base = if has_content base.rec.writes base.rec.run then None else Some base.rec.header.seq

-- the open session has one base, and as many parts as count
abbrev pub is_whole : Held → Tried → Bool
is_whole held tried = (length tried.parts == length (open_parts held)) && (length (filter (λ base. is_open_base held base) held.bases) == 1)

abbrev pub memory_with : ℕ → Held → Base → Tried → Memory
memory_with g held base tried = record {
  replica = record { session = held.session; view = tried.view; early = []; asks = [] };
  leader = new_leader base.rec.header.seq (noted_with g [] tried.parts);
  parts = tried.parts;
  begun = begun_with base;
  whole = is_whole held tried;
}

abbrev pub memory_of : Shape → ℕ → Held → Base → Memory
memory_of shape g held base = memory_with g held base (all_tried shape g (view_of_base base) (open_parts held))

-- session 0 has no view
abbrev pub open_base : Shape → ℕ → Held → Option Base
open_base shape g held = if held.session == 0 then None else base_held shape g held.session held

-- a node of region g that was just loaded, or has just switched
unfoldable pub loaded_as : Shape → ℕ → Held → NodeState
loaded_as shape g held = record { held = held; memory = option_map (λ base. memory_of shape g held base) (open_base shape g held) }
