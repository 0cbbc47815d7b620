-- Each step of a node is a run of the abstract world.
use Rattle.std.proofs.Common.{◌≡◌, ◌∙◌, inl, ℕ, zero, ◌==◌, Bool, true, false, if◌then◌else◌, List, [], ◌∷◌, map, Option, None, Some, refl, sym, ap, subst, arith}
use Rattle.std.specs.Option.{option_map_or}
use Rattle.std.specs.List.{AllByRecursion}
use Rattle.salus_types.specs.Volume.{Shape, IsVolume}
use Rattle.salus_types.specs.declared.names.NodeName.{NodeName}
use Rattle.salus_types.specs.declared.records.Record.{Record}
use Rattle.salus_types.specs.declared.records.Held.{Held}
use Rattle.merkle_region.specs.Tree.{IsAmong}
use Rattle.volume_model.specs.Groups.{group_of}
use Rattle.holding_model.specs.Holding.{nothing_held}
use Rattle.holding_model.specs.Changing.{Change, changed, after_changes, contents_through}
use Rattle.salus_model.specs.declared.trace.Handed.{Handed}
use Rattle.salus_model.specs.declared.trace.Handed.TheVariants as handed
use Rattle.salus_model.specs.Following.{Posted}
use Rattle.replica_rules.specs.Nodes.{Memory, NodeState, loaded_as}
use Rattle.replica_rules.specs.Rules.{Sending, Plan, Input, planned, Handled, handled}
use Rattle.replica_rules.proofs.Agreeing.{AllHeld, PlansRight, planned_right}
use Rattle.run_rules.specs.Knowing.{KnownNode, fresh, after_input, outs_of, input_of, after_handed, outs_to, reloaded, known_to, IsLoadOf, LoadsRight}
use Rattle.list_lemmas.proofs.Each.{OfSome}
use Rattle.list_lemmas.proofs.Members.{among_all, all_among}
use Rattle.law_prefix.specs.Numbers.{Mem}
use Rattle.law_prefix.specs.Images.{Image}
use Rattle.law_prefix.specs.World.{Client, Vote, Claim, World, Volume, Guarded}
use Rattle.law_prefix.specs.Steps.{IsBlank}
use Rattle.kept_model.specs.Nodes.{node_number, node_of}
use Rattle.kept_model.specs.Images.{image_of}
use Rattle.law_refined.specs.Bringing.{InputFits, HandedFits}
use Rattle.law_refined.specs.Standing.{WhereSome, HeldStands, MemoryStands, StateStands, NodeStands}
use Rattle.law_refined.specs.Stepping.{Moves, Refines, StaysIn}
use Rattle.law_refined.proofs.Turning.{Reaches}
use Rattle.law_refined.proofs.Planning.{load_stands, PlanStands, planned_stands}
use Rattle.law_refined.proofs.Spelled.{all_read}
use Rattle.law_refined.proofs.Sending.{all_still, here_now, moves_none, moves_both, images_twice, images_same, ImagesTo, images_moves, changes_to, contents_to, load_to, Sent, send_all}

abbrev images_now : List Held → List Image
images_now contents = map (λ (held : Held). image_of held) contents

-- ---- a node that was just loaded

pub loaded_stands : (shape : Shape) (v : Volume) (g : ℕ) (c : Client) (votes : List Vote) (claims : List Claim) (held : Held) → HeldStands shape g c held → NodeStands shape v g c votes claims (fresh shape g held)
unfolding loaded_as
loaded_stands shape v g c votes claims held holds = record { state = load_stands shape v g c votes claims held holds; each = (holds, tt); single = refl }

-- a node that was replaced holds nothing, and its image is blank
pub nothing_stands : (shape : Shape) (g : ℕ) (c : Client) → HeldStands shape g c nothing_held
nothing_stands shape g c = record { bases = tt; few = λ e. omega arith; open_is = inl (refl, refl) }

pub nothing_blank : IsBlank (image_of nothing_held)
nothing_blank = record { session = refl; base = refl; parts = refl; later = refl }

module _ (shape : Shape) (limits : IsVolume shape) (v : Volume) (name : NodeName) (numbered : (r : ℕ) → v.honest r ≡ true → IsAmong (node_of shape r) (group_of shape (v.region r)))
    (place : v.region (node_number shape name) ≡ name.region) (w : World) (guarded : Guarded v w.counts) (blank : Mem zero w.client.known) where
  abbrev r : ℕ
  r = node_number shape name

  abbrev Stands : KnownNode → Type 0
  Stands known = NodeStands shape v name.region w.client w.votes w.claims known

  -- there is a run, and the node stands as it did to the client, the votes and the claims before it
  pub record NodeRefines (known : KnownNode) (outs : List Sending) : Type 0 where
    pub refines : Refines shape v name (node_number shape name) (images_now known.contents) outs w
    pub stands : Stands known

  none_refines : (known : KnownNode) → w.images r ≡ images_now known.contents → Stands known → NodeRefines known []
  none_refines known same stands = record {
    refines = record { after = w; to = record { moves = moves_none v w guarded; images = images_same w.images r (images_now known.contents) same; sent = tt } };
    stands = stands;
  }

  -- a run of changes alone
  images_refine : (now : List Image) → ImagesTo v r now w → Refines shape v name (node_number shape name) now [] w
  images_refine now to = record { after = record w { images = to.images }; to = record { moves = images_moves v r now w to; images = to.are; sent = tt } }

  -- ---- a handling

  reaches_here : (held : Held) (changes : List Change) → Reaches shape v name.region w.client w.votes w.claims held changes → Reaches shape v (v.region r) w.client w.votes w.claims held changes
  reaches_here held changes reaches = subst (λ g. Reaches shape v g w.client w.votes w.claims held changes) (sym place) reaches

  all_through : (held : Held) (changes : List Change) → HeldStands shape name.region w.client held → Reaches shape v name.region w.client w.votes w.claims held changes
      → AllByRecursion (HeldStands shape name.region w.client) (contents_through shape held changes)
  unfolding Reaches contents_through
  all_through held [] holds reaches = (holds, tt)
  all_through held (change ∷ changes) holds reaches = (holds, all_through (changed shape held change) changes reaches.1 reaches.2)

  parts_held : (held : Held) (o : Option Memory) → WhereSome (MemoryStands shape v name.region w.client w.votes w.claims held) o → OfSome (λ m. AllHeld held m.parts) o
  parts_held held None is = tt
  parts_held held (Some m) is = all_among (λ rec. IsAmong rec held.parts) m.parts (λ rec at. subst (λ (l : List Record). IsAmong rec l) is.parts at)

  spoken_refines : (state : NodeState) (input : Input) → StateStands shape v name.region w.client w.votes w.claims state → w.images r ≡ image_of state.held ∷ [] → InputFits shape v w.client w.votes w.claims input
      → let h : Handled = handled shape name.region state input in NodeRefines (record { state = h.node; silent = false; contents = h.node.held ∷ [] }) h.outs
  spoken_refines state input stands same fits =
      let plan : Plan = planned shape name.region state input in
      let good : PlanStands shape v name.region w.client w.votes w.claims state.held plan = planned_stands shape v name.region w.client w.votes w.claims numbered state stands.holds stands.memory input fits in
      let now : Held = after_changes shape state.held plan.changes in
      let right : PlansRight shape state.held plan = planned_right shape name.region state (parts_held state.held state.memory stands.memory) input in
      let to : ImagesTo v r (image_of now ∷ []) w = changes_to v r shape state.held plan.changes w guarded same (reaches_here state.held plan.changes good.reaches) in
      let x : World = record w { images = to.images } in
      let here : to.images r ≡ image_of now ∷ [] = to.are r ∙ here_now w.images r (image_of now ∷ []) in
      let sent : Sent shape v name.region name plan.outs x = send_all shape v name.region name now plan.outs x guarded blank here good.holds right.stand good.outs in
      record {
        refines = record {
          after = sent.after;
          to = record {
            moves = moves_both v w x sent.after (images_moves v r (image_of now ∷ []) w to) sent.moves;
            images = λ q. ap (λ k. k q) sent.images ∙ to.are q;
            sent = all_read shape limits name.region w.client v w.votes w.claims now good.holds name sent.after plan.outs right.stand good.outs sent.sent;
          };
        };
        stands = record { state = record { holds = good.holds; memory = good.memory }; each = (good.holds, tt); single = refl };
      }

  input_refines : (state : NodeState) (silent : Bool) (contents : List Held) (input : Input) (failed : Bool) → let known : KnownNode = record { state = state; silent = silent; contents = contents } in
      Stands known → w.images r ≡ images_now contents → InputFits shape v w.client w.votes w.claims input → NodeRefines (after_input shape name.region known input failed) (outs_of shape name.region known input failed)
  input_refines state true contents input failed stands same fits = none_refines (record { state = state; silent = true; contents = contents }) same stands
  input_refines state false contents input true stands same fits =
      let plan : Plan = planned shape name.region state input in
      let good : PlanStands shape v name.region w.client w.votes w.claims state.held plan = planned_stands shape v name.region w.client w.votes w.claims numbered state stands.state.holds stands.state.memory input fits in
      let one : w.images r ≡ image_of state.held ∷ [] = same ∙ ap (λ l. images_now l) stands.single in
      let to : ImagesTo v r (images_now (contents_through shape state.held plan.changes)) w = contents_to v r shape [] state.held plan.changes w guarded one (reaches_here state.held plan.changes good.reaches) in
      record {
        refines = images_refine (images_now (contents_through shape state.held plan.changes)) to;
        stands = record { state = stands.state; each = all_through state.held plan.changes stands.state.holds good.reaches; single = tt };
      }
  input_refines state false contents input false stands same fits = spoken_refines state input stands.state (same ∙ ap (λ l. images_now l) stands.single) fits

  handed_refines : (known : KnownNode) (failed : Bool) (o : Option Input) → Stands known → w.images r ≡ images_now known.contents → HandedFits shape v w.client w.votes w.claims o
      → NodeRefines (option_map_or (λ input. after_input shape name.region known input failed) o known) (option_map_or (λ input. outs_of shape name.region known input failed) o [])
  handed_refines known failed None stands same fits = none_refines known same stands
  handed_refines known failed (Some input) stands same fits = input_refines known.state known.silent known.contents input failed stands same fits

  -- ---- a load

  loaded_refines : (known : KnownNode) (outs : List Sending) (held : Held) → NodeRefines known outs → IsAmong held known.contents → NodeRefines (fresh shape name.region held) outs
  unfolding loaded_as
  loaded_refines known outs held before among =
      let first : Refines shape v name (node_number shape name) (images_now known.contents) outs w = before.refines in
      let x : World = first.after in
      let moves : Moves v w x = first.to.moves in
      let still : Guarded v x.counts = subst (λ k. Guarded v k) (sym moves.counts) guarded in
      let here : x.images r ≡ images_now known.contents = first.to.images r ∙ here_now w.images r (images_now known.contents) in
      let to : ImagesTo v r (image_of held ∷ []) x = load_to v r shape held known.contents x still here among in
      let y : World = record x { images = to.images } in
      let next : Moves v x y = images_moves v r (image_of held ∷ []) x to in
      record {
        refines = record {
          after = y;
          to = record {
            moves = moves_both v w x y moves next;
            images = λ q. to.are q ∙ ap (λ l. if q == r then image_of held ∷ [] else l) (first.to.images q) ∙ images_twice w.images r (images_now known.contents) (image_of held ∷ []) q;
            sent = all_still shape v name.region name outs x y next first.to.sent;
          };
        };
        stands = loaded_stands shape v name.region w.client w.votes w.claims held (among_all (HeldStands shape name.region w.client) known.contents held among before.stands.each);
      }

  load_refines : (known : KnownNode) (outs : List Sending) (contents : List Held) (loaded : Option Held) → NodeRefines known outs → IsLoadOf contents loaded → contents ≡ known.contents → NodeRefines (reloaded shape name.region known loaded) outs
  load_refines known outs contents None before load same = absurd load
  load_refines known outs contents (Some held) before load same = loaded_refines known outs held before (subst (λ (l : List Held). IsAmong held l) same load)

  none_loaded : (known : KnownNode) (outs : List Sending) (loaded : Option Held) → loaded ≡ None → NodeRefines known outs → NodeRefines (reloaded shape name.region known loaded) outs
  none_loaded known outs loaded none before = subst (λ (o : Option Held). NodeRefines (reloaded shape name.region known o) outs) (sym none) before

  -- Whatever is handed to the node, but that it is replaced: its step is a run.
  pub step_refines : (posts : List Posted) (known : KnownNode) (what : Handed) (failed : Bool) (loaded : Option Held) → StaysIn what → LoadsRight shape name.region posts known what failed loaded → Stands known
      → w.images r ≡ images_now known.contents → HandedFits shape v w.client w.votes w.claims (input_of posts what)
      → NodeRefines (known_to shape name.region posts known what failed loaded) (outs_to shape name.region posts known what failed)
  step_refines posts known (handed.Deliver k) failed loaded stays right stands same fits =
      none_loaded (after_handed shape name.region posts known (handed.Deliver k) failed) (outs_to shape name.region posts known (handed.Deliver k) failed) loaded right (handed_refines known failed (input_of posts (handed.Deliver k)) stands same fits)
  step_refines posts known (handed.Lie from bytes) failed loaded stays right stands same fits =
      none_loaded (after_handed shape name.region posts known (handed.Lie from bytes) failed) (outs_to shape name.region posts known (handed.Lie from bytes) failed) loaded right (handed_refines known failed (input_of posts (handed.Lie from bytes)) stands same fits)
  step_refines posts known handed.Tick failed loaded stays right stands same fits =
      none_loaded (after_handed shape name.region posts known handed.Tick failed) (outs_to shape name.region posts known handed.Tick failed) loaded right (handed_refines known failed (input_of posts handed.Tick) stands same fits)
  step_refines posts known (handed.Stop k) failed loaded stays right stands same fits =
      load_refines (after_handed shape name.region posts known (handed.Stop k) failed) (outs_to shape name.region posts known (handed.Stop k) failed) (after_handed shape name.region posts known (handed.Stop k) failed).contents loaded
      (handed_refines known failed (input_of posts (handed.Stop k)) stands same fits) right refl
  step_refines posts known handed.Crash failed loaded stays right stands same fits = load_refines known [] known.contents loaded (none_refines known same stands) right.1 refl
  step_refines posts known handed.Replace failed loaded stays right stands same fits = absurd stays
  step_refines posts known (handed.Asked q) failed loaded stays right stands same fits = none_loaded known [] loaded right.1 (none_refines known same stands)
  step_refines posts known handed.ClientCrash failed loaded stays right stands same fits = none_loaded known [] loaded right.1 (none_refines known same stands)
