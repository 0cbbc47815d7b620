-- The replica of a region in a session: parts are applied in order, early ones and asks are kept until their number comes.
use Rattle.std.specs.Prelude.{ℕ, zero, suc, Bool, not, ◌==◌, ◌&&◌, nat_lt, nat_le, if◌then◌else◌, List, [], ◌∷◌, ◌++◌, length, map, filter, find, Option, None, Some}
use Rattle.std.specs.Option.{option_map_or}
use Rattle.std.specs.List.{list_any}
use Rattle.salus_types.specs.Volume.{Shape}
use Rattle.salus_types.specs.declared.records.Record.{Record}
use Rattle.salus_message.specs.declared.small.Ask.{Ask}
use Rattle.salus_message.specs.declared.replies.Answer.{Answer}
use Rattle.merkle_region.specs.Tree.{block_at, path_from}
use Rattle.volume_model.specs.Contents.{region_of, place_of}
use Rattle.replica_rules.specs.Views.{View, view_after, view_root, is_accepted, has_right_shape}

-- A replica. Of one previous number at most one part is kept; they stand in the order of arrival. Of one read number at
-- most one ask is kept; they stand by rising read numbers.
pub record Replica : Type 0 where
  pub session : ℕ
  pub view : View
  pub early : List Record
  pub asks : List Ask

abbrev pub with_view : Replica → View → Replica
with_view r view = record r { view = view }

-- ---- a part

-- Of another session or region, or of a wrong shape; at most the view's number; kept until its turn; no room for it;
-- another root than it names; applied.
pub data PartAnswer : Type 0 where
  Foreign : PartAnswer
  Known : PartAnswer
  Early : PartAnswer
  Full : PartAnswer
  Differs : List ℕ → List ℕ → PartAnswer
  Next : PartAnswer

pub record PartTaken : Type 0 where
  pub replica : Replica
  pub answer : PartAnswer

abbrev pub left_as : Replica → PartAnswer → PartTaken
left_as r answer = record { replica = r; answer = answer }

-- of the replica's session and region g, and of the right shape
abbrev pub is_for : Shape → ℕ → Replica → Record → Bool
is_for shape g r rec = (rec.header.session == r.session) && (rec.header.region == g) && has_right_shape shape g rec

-- a kept part goes on from that number
abbrev pub has_early : List Record → ℕ → Bool
has_early early number = list_any (λ rec. rec.header.previous == number) early

-- at most 16 are kept, and the first to come stays
abbrev pub kept_early : Replica → Record → PartTaken
kept_early r rec =
    if has_early r.early rec.header.previous then left_as r Early
    else if nat_lt (length r.early) 16 then left_as (record r { early = r.early ++ rec ∷ [] }) Early
    else left_as r Full

-- a part whose previous number is the view's
abbrev pub tried : Shape → Replica → Record → PartTaken
tried shape r rec =
    if is_accepted shape r.view rec
    then left_as (with_view r (view_after shape r.view rec)) Next
    else left_as r (Differs rec.header.root (view_root shape (view_after shape r.view rec)))

unfoldable pub take_part : Shape → ℕ → Replica → Record → PartTaken
take_part shape g r rec =
    if not (is_for shape g r rec) then left_as r Foreign
    else if nat_le rec.header.seq r.view.number then left_as r Known
    else if rec.header.previous == r.view.number then tried shape r rec
    else kept_early r rec

-- ---- the kept parts in their turn

pub record KeptTaken : Type 0 where
  pub replica : Replica
  pub part : Option Record

-- the kept part that goes on from the view
abbrev pub next_kept : Replica → Option Record
next_kept r = find (λ rec. rec.header.previous == r.view.number) r.early

-- no part is kept for the view's number any more
abbrev pub without_kept : Replica → Replica
without_kept r = record r { early = filter (λ rec. not (rec.header.previous == r.view.number)) r.early }

-- it is taken out, and applied where its root is right
abbrev pub take_out : Shape → Replica → Record → KeptTaken
take_out shape r rec =
    if is_accepted shape r.view rec
    then record { replica = with_view (without_kept r) (view_after shape r.view rec); part = Some rec }
    else record { replica = without_kept r; part = None }

unfoldable pub take_kept : Shape → Replica → KeptTaken
take_kept shape r = option_map_or (λ rec. take_out shape r rec) (next_kept r) (record { replica = r; part = None })

-- the replica after some parts, and these parts in the order applied
pub record Applied : Type 0 where
  pub replica : Replica
  pub parts : List Record

abbrev pub no_more : Replica → Applied
no_more r = record { replica = r; parts = [] }

-- that part was applied before them
abbrev pub after_part : Record → Applied → Applied
after_part rec applied = record applied { parts = rec ∷ applied.parts }

-- at most so many kept parts, each taken as long as there is one
unfoldable pub kept_in_turn : Shape → ℕ → Replica → Applied
kept_in_turn shape zero r = no_more r
kept_in_turn shape (suc n) r =
    option_map_or (λ rec. after_part rec (kept_in_turn shape n (take_kept shape r).replica)) (take_kept shape r).part (no_more (take_kept shape r).replica)

-- all of them: each turn takes one out
abbrev pub all_kept_in_turn : Shape → Replica → Applied
all_kept_in_turn shape r = kept_in_turn shape (length r.early) r

-- ---- asks

-- the block as of the view, with its path
abbrev pub answer_to : Shape → View → Ask → Answer
answer_to shape view ask = record {
  session = ask.session;
  read = ask.read;
  block = ask.block;
  at = view.number;
  bytes = block_at view.blocks (place_of shape ask.block);
  path = path_from shape.height view.blocks (place_of shape ask.block);
}

-- by rising read numbers, the newest of each
unfoldable pub with_ask : List Ask → Ask → List Ask
with_ask [] ask = ask ∷ []
with_ask (other ∷ asks) ask =
    if nat_lt ask.read other.read then ask ∷ other ∷ asks
    else if ask.read == other.read then ask ∷ asks
    else other ∷ with_ask asks ask

pub record AskTaken : Type 0 where
  pub replica : Replica
  pub answer : Option Answer

-- of the replica's session, and of a block of region g
abbrev pub is_asked_here : Shape → ℕ → Replica → Ask → Bool
is_asked_here shape g r ask = (ask.session == r.session) && (region_of shape ask.block == g)

-- the view has reached the number as of which it asks
abbrev pub is_due : View → Ask → Bool
is_due view ask = nat_le ask.at view.number

unfoldable pub take_ask : Shape → ℕ → Replica → Ask → AskTaken
take_ask shape g r ask =
    if not (is_asked_here shape g r ask) then record { replica = r; answer = None }
    else if is_due r.view ask then record { replica = r; answer = Some (answer_to shape r.view ask) }
    else record { replica = record r { asks = with_ask r.asks ask }; answer = None }

-- the answers to the kept asks that are due, by rising read numbers
abbrev pub due_answers : Shape → Replica → List Answer
due_answers shape r = map (λ ask. answer_to shape r.view ask) (filter (λ ask. is_due r.view ask) r.asks)

abbrev pub without_due : Replica → Replica
without_due r = record r { asks = filter (λ ask. not (is_due r.view ask)) r.asks }
