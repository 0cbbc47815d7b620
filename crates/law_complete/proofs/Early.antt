-- A node that counts and speaks keeps at most fifteen parts until their turn: what it has is all that was acknowledged, and at
-- most sixteen batches are behind that.
use Rattle.std.proofs.Common.{◌≡◌, ◌∙◌, inl, inr, ⊎_elim, ℕ, ◌+◌, ◌-◌, ◌<◌, ◌≤◌, ◌==◌, not, nat_le, nat_lt, Bool, true, false, if◌then◌else◌, List, [], ◌∷◌, ◌++◌, length, take, Option, Some, refl, sym, ap, subst, arith}
use Rattle.std.specs.List.{AllByRecursion}
use Rattle.std.proofs.lemmas.Bool.{cases_lt, lt-ltb}
use Rattle.std.proofs.lemmas.List.{length-take}
use Rattle.salus_types.specs.Volume.{Shape}
use Rattle.salus_types.specs.declared.names.NodeName.{NodeName}
use Rattle.salus_types.specs.declared.records.Record.{Record}
use Rattle.salus_types.specs.declared.records.Held.{Held}
use Rattle.merkle_region.specs.Tree.{IsAmong, NoTwoCollide}
use Rattle.schedule_text.specs.Limits.{IsOfVolume, IsWithinLimits}
use Rattle.schedule_text.specs.declared.schedule.Event.{Event}
use Rattle.schedule_text.specs.declared.schedule.Volume.{Volume}
use Rattle.salus_model.specs.Following.{Posted}
use Rattle.salus_model.specs.Guarding.{counts}
use Rattle.salus_model.specs.Hearing.{Past}
use Rattle.client_rules.specs.State as state
use Rattle.replica_rules.specs.Views.{view_after, view_root, is_accepted}
use Rattle.replica_rules.specs.Replicas.{Replica, with_view, Foreign, Known, Early, Full, Differs, Next, PartTaken, left_as, is_for, has_early, kept_early, tried, take_part}
use Rattle.replica_rules.specs.Nodes.{Memory}
use Rattle.run_rules.specs.Knowing.{KnownNode}
use Rattle.run_rules.specs.Rooms.{is_full, has_no_room}
use Rattle.list_lemmas.proofs.Each.{either_way, all_then, all_zip}
use Rattle.list_lemmas.proofs.Tests.{not_both, way_with}
use Rattle.law_prefix.specs.Numbers.{Mem, number}
use Rattle.law_prefix.specs.Images.{IsPart, reach}
use Rattle.law_prefix.specs.World.{World}
use Rattle.law_prefix.specs.Good.{Good, ImageGood, IsUnopened, Covered}
use Rattle.law_prefix.proofs.Counting.{number_more}
use Rattle.kept_model.specs.Images.{part_as, parts_as, open_place, image_of}
use Rattle.kept_model.specs.Nodes.{node_number, region_of_node, volume_as}
use Rattle.law_refined.specs.Standing.{WhereSome, EarlyFits, MemoryStands, IsSingle, NodeStands}
use Rattle.law_refined.proofs.Opens.{opened_reach}
use Rattle.law_matched.proofs.Numbering.{region_numbered}
use Rattle.law_kept.proofs.Along.{IsAlong}
use Rattle.law_covered.proofs.Reached.{good_there, counts_there, image_there}
use Rattle.law_complete.proofs.Apart.{AreApart}
use Rattle.law_complete.proofs.Counting.{IsNear, few}

none_there : (early : List Record) → AllByRecursion (λ rec. ⊥) early → length early ≤ 15
none_there [] all = omega arith
none_there (rec ∷ early) all = absurd all.0

-- a replica that keeps fewer than sixteen has room
pub room_left : (shape : Shape) (g : ℕ) (rec : Record) (m : Memory) → length m.replica.early ≤ 15 → has_no_room shape g rec m ≡ false
unfolding take_part
room_left shape g rec m most =
    let r : Replica = m.replica in
    let P : PartTaken → Type 0 = λ t. is_full t.answer ≡ false in
    let next : Replica = with_view r (view_after shape r.view rec) in
    let more : Replica = record r { early = r.early ++ rec ∷ [] } in
    either_way (not (is_for shape g r rec)) (left_as r Foreign) (if nat_le rec.header.seq r.view.number then left_as r Known else (if rec.header.previous == r.view.number then tried shape r rec else kept_early r rec)) P refl
    (either_way (nat_le rec.header.seq r.view.number) (left_as r Known) (if rec.header.previous == r.view.number then tried shape r rec else kept_early r rec) P refl
    (either_way (rec.header.previous == r.view.number) (tried shape r rec) (kept_early r rec) P
    (either_way (is_accepted shape r.view rec) (left_as next Next) (left_as r (Differs rec.header.root (view_root shape (view_after shape r.view rec)))) P refl refl)
    (either_way (has_early r.early rec.header.previous) (left_as r Early) (if nat_lt (length r.early) 16 then left_as more Early else left_as r Full) P refl
    (way_with (nat_lt (length r.early) 16) (left_as more Early) (left_as r Full) P (λ _. refl)
    (λ full. absurd (not_both (nat_lt (length r.early) 16) (lt-ltb (length r.early) 16 (omega (arith, most))) full))))))

module _ (volume : Volume) (events : List Event) (posts : List Posted) (limits : IsWithinLimits (record { volume = volume; events = events })) (strings : List (List ℕ)) (none : NoTwoCollide strings) (history : List Past) (n top : ℕ)
    (c : state.Client) (known : NodeName → KnownNode) (sent : ℕ) (a : IsAlong volume events posts limits strings none history n top c known sent) (name : NodeName) (inside : IsOfVolume volume.geometry name)
    (counting : counts events history name ≡ true) (speaks : (known name).silent ≡ false) (m : Memory) (there : (known name).state.memory ≡ Some m) where
  abbrev shape : Shape
  shape = volume.geometry

  abbrev w : World
  w = a.reached.now

  abbrev held : Held
  held = (known name).state.held

  abbrev r : ℕ
  r = node_number volume.geometry name

  -- the region's number after so many batches of the node's session
  abbrev N : ℕ → ℕ
  N x = number (w.client.lists held.session) (w.client.starts held.session) x name.region

  stands : NodeStands shape (volume_as shape events) name.region w.client w.votes w.claims (known name)
  stands = a.reached.stand name inside

  mine : MemoryStands shape (volume_as shape events) name.region w.client w.votes w.claims held m
  mine = subst (λ (o : Option Memory). WhereSome (MemoryStands shape (volume_as shape events) name.region w.client w.votes w.claims held) o) there stands.state.memory

  among : IsAmong held (known name).contents
  among =
      let single : (known name).contents ≡ held ∷ [] = subst (λ (b : Bool). IsSingle b held (known name).contents) speaks stands.single in
      subst (λ (l : List Held). IsAmong held l) (sym single) (inl refl)

  good : Good (volume_as shape events) w
  good = good_there shape limits.volume events posts history known sent a.reached

  image : Mem (image_of held) (w.images r)
  image = image_there shape limits.volume events posts history known sent a.reached name inside held among

  counts_now : w.counts r ≡ true
  counts_now = counts_there shape limits.volume events posts history known sent a.reached name inside counting

  here : ImageGood w.client (region_of_node shape r) (image_of held)
  here = good.nodes r (image_of held) image

  covered : Covered w.client (region_of_node shape r) (image_of held) w.client.acked
  covered = good.acked.all r counts_now (image_of held) image

  -- an early part is one of a batch of the node's session
  part_there : (rec : Record) → EarlyFits shape name.region w.client held.session rec → IsPart (w.client.lists held.session) (w.client.starts held.session) name.region (part_as rec)
  part_there rec early =
      subst (λ (e : ℕ). IsPart (w.client.lists e) (w.client.starts e) name.region (part_as rec)) early.session
      (subst (λ (g : ℕ). IsPart (w.client.lists rec.header.session) (w.client.starts rec.header.session) g (part_as rec)) early.region early.fits.is_part)

  -- a session that wasn't opened has no batch of its own
  unopened_few : w.client.served < held.session → length m.replica.early ≤ 15
  unopened_few up =
      let none_yet : IsUnopened w.client held.session = good.client.unopened held.session here.known up in
      none_there m.replica.early
      (all_then (EarlyFits shape name.region w.client held.session) (λ rec. ⊥)
      (λ rec early.
      let part : IsPart (w.client.lists held.session) (w.client.starts held.session) name.region (part_as rec) = part_there rec early in
      let low : w.client.starts held.session ≤ rec.header.seq - 1 = part.after_start in
      let high : rec.header.seq - 1 < length (w.client.lists held.session) = part.submitted in
      let long : length (w.client.lists held.session) ≡ length (take (w.client.starts held.session) (w.client.lists w.client.served)) = ap length none_yet.taken in
      let short = length-take (w.client.starts held.session) (w.client.lists w.client.served) in
      omega (arith, low, high, long, short)) m.replica.early mine.early)

  module _ (same : held.session ≡ w.client.served) (reached : number (w.client.lists w.client.served) (w.client.starts w.client.served) w.client.acked (region_of_node shape r) ≤ reach (open_place held) (parts_as held.parts)) where
    -- the view has what the region needs of the acknowledged batches
    view_covers : N w.client.acked ≤ m.replica.view.number
    view_covers =
        subst (λ (x : ℕ). N w.client.acked ≤ x) (opened_reach shape name.region w.client held m.replica.view mine.opened)
        (subst (λ (g : ℕ). number (w.client.lists held.session) (w.client.starts held.session) w.client.acked g ≤ reach (open_place held) (parts_as held.parts)) (region_numbered shape limits.volume name inside)
        (subst (λ (e : ℕ). number (w.client.lists e) (w.client.starts e) w.client.acked (region_of_node shape r) ≤ reach (open_place held) (parts_as held.parts)) (sym same) reached))

    window : length (w.client.lists held.session) ≤ w.client.acked + 16
    window = subst (λ (e : ℕ). length (w.client.lists e) ≤ w.client.acked + 16) (sym same) good.client.window

    abbrev IsBehind : Record → Type 0
    IsBehind rec = EarlyFits shape name.region w.client held.session rec × (m.replica.view.number < rec.header.previous)

    previous_is : (rec : Record) → IsBehind rec → rec.header.previous ≡ N (rec.header.seq - 1)
    previous_is rec behind = (part_there rec behind.0).links

    near : (rec : Record) → IsBehind rec → IsNear w.client.acked rec
    near rec behind = record { above = above; within = let high : rec.header.seq - 1 < length (w.client.lists held.session) = (part_there rec behind.0).submitted in let most : length (w.client.lists held.session) ≤ w.client.acked + 16 = window in omega (arith, high, most) } where
      above : w.client.acked < rec.header.seq - 1
      above = elim (cases_lt w.client.acked (rec.header.seq - 1)) [
        | inl up ↦ up
        | inr low ↦
            let fewer : N (rec.header.seq - 1) ≤ N w.client.acked = number_more (w.client.lists held.session) (w.client.starts held.session) (rec.header.seq - 1) w.client.acked name.region low in
            let has : N w.client.acked ≤ m.replica.view.number = view_covers in
            let over : m.replica.view.number < rec.header.previous = behind.1 in
            let is : rec.header.previous ≡ N (rec.header.seq - 1) = previous_is rec behind in
            absurd (omega (arith, fewer, has, over, is))
      ]

    served_few : AreApart m.replica.early → AllByRecursion (λ rec. m.replica.view.number < rec.header.previous) m.replica.early → length m.replica.early ≤ 15
    served_few apart over =
        few w.client.acked IsBehind near (λ x y p q one. previous_is x p ∙ (ap N one ∙ sym (previous_is y q))) m.replica.early apart
        (all_zip (EarlyFits shape name.region w.client held.session) (λ rec. m.replica.view.number < rec.header.previous) m.replica.early mine.early over)

  -- so where each early part goes on from above the view, and no two from one number
  pub few_early : AreApart m.replica.early → AllByRecursion (λ rec. m.replica.view.number < rec.header.previous) m.replica.early → length m.replica.early ≤ 15
  few_early apart over = ⊎_elim (λ (up : w.client.served < held.session). unopened_few up)
      (λ (on : (held.session ≡ w.client.served) × (number (w.client.lists w.client.served) (w.client.starts w.client.served) w.client.acked (region_of_node shape r) ≤ reach (open_place held) (parts_as held.parts))). served_few on.0 on.1 apart over) covered
