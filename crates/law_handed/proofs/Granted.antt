-- The licence of each message along a run.
use Rattle.std.proofs.Common.{◌≡◌, ◌∙◌, inl, inr, ℕ, ◌==◌, ◌&&◌, nat_lt, Bool, true, false, if◌then◌else◌, List, [], ◌∷◌, ◌++◌, length, Option, None, Some, bytes_eq, refl, sym, ap, subst}
use Rattle.std.specs.Prelude.{option_map, Result, Ok, Err}
use Rattle.std.specs.Option.{option_map_or}
use Rattle.std.specs.List.{AllByRecursion}
use Rattle.salus_types.specs.Volume.{Shape}
use Rattle.salus_types.specs.declared.names.NodeName.{NodeName}
use Rattle.salus_types.specs.declared.names.Sender.{Sender}
use Rattle.salus_types.specs.declared.names.Sender.TheVariants as sender
use Rattle.salus_types.specs.declared.records.Record.{Record}
use Rattle.salus_types.specs.declared.records.Base.{Base}
use Rattle.salus_types.specs.declared.records.Held.{Held}
use Rattle.salus_message.specs.declared.wire.Message.{Message}
use Rattle.salus_message.specs.declared.wire.Message.TheVariants as message
use Rattle.salus_message.specs.declared.wire.MessageError.{MessageError}
use Rattle.salus_message.specs.Reading.{message_at}
use Rattle.merkle_region.specs.Tree.{root_of, IsAmong}
use Rattle.holding_model.specs.Fitting.{has_shape}
use Rattle.holding_model.specs.Changing.{SwitchesTo, changed, after_changes}
use Rattle.salus_model.specs.declared.trace.Handed.{Handed}
use Rattle.salus_model.specs.declared.trace.Handed.TheVariants as handed
use Rattle.salus_model.specs.declared.trace.TraceStep.{TraceStep}
use Rattle.salus_model.specs.Following.{Posted, posted_at}
use Rattle.salus_model.specs.Licences.{Letter, letter_of, letter_in_post, letters_in, letters_to, IsLicensed}
use Rattle.replica_rules.specs.Views.{view_root}
use Rattle.replica_rules.specs.Nodes.{Memory, NodeState, base_held, loaded_as}
use Rattle.replica_rules.specs.Rules.{Sending, Turn, Plan, plan_of, ignored, told_client, in_session, by_part, by_ask, is_carried, by_gather, says_staged, staged, staged_again, staged_whole, staged_from, staged_anew, is_staged_here, by_stage, same_record, says_switched, switched, by_switch, by_dump, by_vote, by_claim, by_tick, from_client, is_node, from_node, from_result, Input, Receives, Ticks, planned}
use Rattle.run_rules.specs.Knowing.{KnownNode, fresh, after_input, outs_of, input_of_post, input_of, after_handed, outs_to, known_to}
use Rattle.run_rules.specs.Running.{addresses, after, known_of, AllSteps}
use Rattle.list_lemmas.proofs.Each.{either_way, all_then, OfSome, some_way, any_way, all_zip}
use Rattle.merkle_region.proofs.Membership.{among_left, among_right}
use Rattle.list_lemmas.proofs.Members.{among_all, all_among}
use Rattle.law_handed.specs.Fitting.{PartFits}
use Rattle.law_handed.specs.Licensing.{moments_of, IsBacked, IsFormattedBase}
use Rattle.law_handed.proofs.Shaping.{switched_of}
use Rattle.law_handed.proofs.Ranged.{fresh_fits, own_fits}
use Rattle.law_handed.proofs.Soundly.{HasItsRoot}
use Rattle.law_handed.proofs.Agreed.{AllRooted, KnownRooted, switched_rooted, fresh_rooted, own_rooted}
use Rattle.law_handed.proofs.Licensed.{Came, Named, Counted, HeldNamed, KnownNamed, came_closed, all_given, IsBackedApart, messages_backed}
use Rattle.law_handed.proofs.Claimed.{MemoryBacked, IsGranted, AllGranted, TurnBacked, PlanBacked, part_backed, ask_backed, dump_backed, vote_backed, claim_backed, tick_backed, loaded_backed}

module _ (shape : Shape) (letters : List Letter) (moments : List Held) (formatted : Record) (Begun : Type 0) (g : ℕ) where
  abbrev Backing : Memory → Type 0
  Backing m = MemoryBacked shape letters moments formatted Begun g m

  abbrev FitsCame : Held → Type 0
  FitsCame held = HeldNamed letters formatted Begun shape held

  -- where it began so, each base has its record's root
  abbrev Rooted : Held → Type 0
  Rooted held = Begun → AllRooted shape held

  abbrev Within : List Held → Type 0
  Within contents = AllByRecursion (λ held. IsAmong held moments) contents

  -- what was read is one of the letters
  abbrev pub ResultAmong : Sender → Result Message MessageError → Type 0
  ResultAmong from (Ok m) = IsAmong (record { from = from; message = m }) letters
  ResultAmong from (Err e) = Unit {0}

  abbrev pub InputAmong : Input → Type 0
  InputAmong (Receives from bytes) = ResultAmong from (message_at bytes)
  InputAmong Ticks = Unit {0}

  module _ (node : NodeState) (there : OfSome Backing node.memory) (fits : FitsCame node.held) (rooted : Rooted node.held) where
    abbrev Backed : Plan → Type 0
    Backed plan = PlanBacked shape letters moments formatted Begun g node plan

    nothing : Backed (ignored node)
    nothing = record { memory = λ at. there; outs = tt }

    in_session_backed : (rule : Memory → Turn) → ((m : Memory) → Backing m → TurnBacked shape letters moments formatted Begun g (rule m)) → Backed (in_session node rule)
    in_session_backed rule each =
        some_way Backing Backed (λ m. plan_of (rule m)) (ignored node) node.memory there (λ m back. record { memory = λ at. (each m back).memory; outs = (each m back).outs }) nothing

    gather_backed : (e : ℕ) → Backed (by_gather node e)
    unfolding by_gather
    gather_backed e = either_way (is_carried node.held) (told_client node (message.Gathered (record { session = e; held = node.held }))) (ignored node) Backed (record { memory = λ at. there; outs = (tt, tt) }) nothing

    anew_backed : (base : Base) → Backed (staged_anew shape node base)
    anew_backed base =
        either_way (length base.blocks == 0) (option_map_or (λ m. staged_from shape node base.rec m) node.memory (ignored node)) (staged_whole shape node base) Backed
        (any_way Backed (λ m. staged_from shape node base.rec m) (ignored node) node.memory
        (λ m. either_way (bytes_eq (view_root shape m.replica.view) base.rec.header.root) (staged node base.rec m.replica.view.blocks) (ignored node) Backed (record { memory = λ at. there; outs = (tt, tt) }) nothing) nothing)
        (either_way (has_shape shape base.blocks && bytes_eq (root_of shape.height base.blocks) base.rec.header.root) (staged node base.rec base.blocks) (ignored node) Backed (record { memory = λ at. there; outs = (tt, tt) }) nothing)

    stage_backed : (base : Base) → Backed (by_stage shape g node base)
    unfolding by_stage
    stage_backed base =
        either_way (is_staged_here g node base.rec.header) (option_map_or (λ old. staged_again node base.rec old) (base_held shape g base.rec.header.session node.held) (staged_anew shape node base)) (ignored node) Backed
        (any_way Backed (λ old. staged_again node base.rec old) (staged_anew shape node base) (base_held shape g base.rec.header.session node.held)
        (λ old. either_way (same_record old.rec base.rec) (says_staged node base.rec.header.session) (ignored node) Backed (record { memory = λ at. there; outs = (tt, tt) }) nothing) (anew_backed base)) nothing

    switched_backed : (e : ℕ) → Backed (switched shape g node e)
    unfolding after_changes
    switched_backed e = record {
      memory = λ at. loaded_backed shape letters moments formatted Begun g (changed shape node.held (SwitchesTo e))
          (switched_of shape (Came letters) (Named letters formatted Begun shape) (Counted letters formatted Begun shape) (came_closed letters formatted Begun shape) node.held e fits)
          (λ begun. switched_rooted shape node.held e (rooted begun)) at;
      outs = (tt, tt);
    }

    switch_backed : (e : ℕ) → Backed (by_switch shape g node e)
    unfolding by_switch
    switch_backed e =
        either_way (e == node.held.session) (says_switched node e) (if nat_lt node.held.session e then option_map_or (λ base. switched shape g node e) (base_held shape g e node.held) (ignored node) else ignored node) Backed
        (record { memory = λ at. there; outs = (tt, tt) })
        (either_way (nat_lt node.held.session e) (option_map_or (λ base. switched shape g node e) (base_held shape g e node.held) (ignored node)) (ignored node) Backed
        (any_way Backed (λ base. switched shape g node e) (ignored node) (base_held shape g e node.held) (λ base. switched_backed e) nothing) nothing)

    client_backed : (m : Message) → IsAmong (record { from = sender.Client; message = m }) letters → Backed (from_client shape g node m)
    client_backed (message.Part m) at = in_session_backed (by_part shape g m.rec) (λ k back. part_backed shape letters moments formatted Begun g m.rec k back at)
    client_backed (message.Ask m) at = in_session_backed (by_ask shape g m) (λ k back. ask_backed shape letters moments formatted Begun g m k back)
    client_backed (message.Dump m) at = in_session_backed (by_dump g m) (λ k back. dump_backed shape letters moments formatted Begun g m k back)
    client_backed (message.Gather m) at = gather_backed m.session
    client_backed (message.Stage m) at = stage_backed m.base
    client_backed (message.Switch m) at = switch_backed m.session
    client_backed (message.Prepared m) at = nothing
    client_backed (message.Committed m) at = nothing
    client_backed (message.Answer m) at = nothing
    client_backed (message.Gathered m) at = nothing
    client_backed (message.Staged m) at = nothing
    client_backed (message.Switched m) at = nothing
    client_backed (message.Dumped m) at = nothing

    node_backed : (name : NodeName) (m : Message) → IsAmong (record { from = sender.Node name; message = m }) letters → Backed (from_node shape node name m)
    node_backed name (message.Prepared m) at = in_session_backed (by_vote shape name m) (λ k back. vote_backed shape letters moments formatted Begun g name m k back at)
    node_backed name (message.Committed m) at = in_session_backed (by_claim shape name m) (λ k back. claim_backed shape letters moments formatted Begun g name m k back at)
    node_backed name (message.Part m) at = nothing
    node_backed name (message.Ask m) at = nothing
    node_backed name (message.Answer m) at = nothing
    node_backed name (message.Gather m) at = nothing
    node_backed name (message.Gathered m) at = nothing
    node_backed name (message.Stage m) at = nothing
    node_backed name (message.Staged m) at = nothing
    node_backed name (message.Switch m) at = nothing
    node_backed name (message.Switched m) at = nothing
    node_backed name (message.Dump m) at = nothing
    node_backed name (message.Dumped m) at = nothing

    result_backed : (from : Sender) (r : Result Message MessageError) → ResultAmong from r → Backed (from_result shape g node from r)
    result_backed sender.Client (Ok m) at = client_backed m at
    result_backed (sender.Node name) (Ok m) at = either_way (is_node shape name) (from_node shape node name m) (ignored node) Backed (node_backed name m at) nothing
    result_backed from (Err e) at = nothing

    planned_backed : (input : Input) → InputAmong input → Backed (planned shape g node input)
    unfolding planned
    planned_backed (Receives from bytes) at = result_backed from (message_at bytes) at
    planned_backed Ticks at = in_session_backed (by_tick shape) (λ k back. tick_backed shape letters moments formatted Begun g k back)

  -- ---- a node

  input_kept : (state : NodeState) (silent : Bool) (contents : List Held) (input : Input) (failed : Bool) → let known : KnownNode = record { state = state; silent = silent; contents = contents } in
      OfSome Backing state.memory → FitsCame state.held → Rooted state.held → InputAmong input → Within (after_input shape g known input failed).contents → OfSome Backing (after_input shape g known input failed).state.memory
  input_kept state true contents input failed there fits rooted at within = there
  input_kept state false contents input true there fits rooted at within = there
  input_kept state false contents input false there fits rooted at within = (planned_backed state there fits rooted input at).memory within.0

  input_granted : (state : NodeState) (silent : Bool) (contents : List Held) (input : Input) (failed : Bool) → OfSome Backing state.memory → FitsCame state.held → Rooted state.held → InputAmong input
      → AllGranted shape letters moments formatted Begun g (outs_of shape g (record { state = state; silent = silent; contents = contents }) input failed)
  input_granted state true contents input failed there fits rooted at = tt
  input_granted state false contents input true there fits rooted at = tt
  input_granted state false contents input false there fits rooted at = (planned_backed state there fits rooted input at).outs

  handed_kept : (known : KnownNode) (failed : Bool) (o : Option Input) → OfSome Backing known.state.memory → FitsCame known.state.held → Rooted known.state.held → OfSome InputAmong o
      → Within (option_map_or (λ input. after_input shape g known input failed) o known).contents → OfSome Backing (option_map_or (λ input. after_input shape g known input failed) o known).state.memory
  handed_kept known failed None there fits rooted at within = there
  handed_kept known failed (Some input) there fits rooted at within = input_kept known.state known.silent known.contents input failed there fits rooted at within

  handed_granted : (known : KnownNode) (failed : Bool) (o : Option Input) → OfSome Backing known.state.memory → FitsCame known.state.held → Rooted known.state.held → OfSome InputAmong o
      → AllGranted shape letters moments formatted Begun g (option_map_or (λ input. outs_of shape g known input failed) o [])
  handed_granted known failed None there fits rooted at = tt
  handed_granted known failed (Some input) there fits rooted at = input_granted known.state known.silent known.contents input failed there fits rooted at

  fresh_kept : (held : Held) → FitsCame (fresh shape g held).state.held → Rooted (fresh shape g held).state.held → Within (fresh shape g held).contents → OfSome Backing (fresh shape g held).state.memory
  unfolding loaded_as
  fresh_kept held fits rooted within = loaded_backed shape letters moments formatted Begun g held fits rooted within.0

  step_kept : (posts : List Posted) (known : KnownNode) (what : Handed) (failed : Bool) (loaded : Option Held) → OfSome Backing known.state.memory → FitsCame known.state.held → Rooted known.state.held
      → OfSome InputAmong (input_of posts what) → FitsCame (known_to shape g posts known what failed loaded).state.held → Rooted (known_to shape g posts known what failed loaded).state.held
      → Within (known_to shape g posts known what failed loaded).contents → OfSome Backing (known_to shape g posts known what failed loaded).state.memory
  step_kept posts known what failed None there fits rooted at now now_rooted within = handed_kept known failed (input_of posts what) there fits rooted at within
  step_kept posts known what failed (Some held) there fits rooted at now now_rooted within = fresh_kept held now now_rooted within

  -- ---- the letters

  result_among : (from : Sender) (r : Result Message MessageError) → ((l : Letter) → IsAmong l (letter_of from r) → IsAmong l letters) → ResultAmong from r
  result_among from (Ok m) inside = inside (record { from = from; message = m }) (inl refl)
  result_among from (Err e) inside = tt

  post_among : (o : Option Posted) → ((l : Letter) → IsAmong l (letter_in_post o) → IsAmong l letters) → OfSome InputAmong (option_map (λ m. input_of_post m) o)
  post_among None inside = tt
  post_among (Some m) inside = result_among m.from (message_at m.bytes) inside

  input_among : (posts : List Posted) (what : Handed) → ((l : Letter) → IsAmong l (letters_in posts what) → IsAmong l letters) → OfSome InputAmong (input_of posts what)
  input_among posts (handed.Deliver k) inside = post_among (posted_at posts k) inside
  input_among posts (handed.Stop k) inside = post_among (posted_at posts k) inside
  input_among posts (handed.Lie from bytes) inside = result_among from (message_at bytes) inside
  input_among posts handed.Tick inside = tt
  input_among posts handed.Crash inside = tt
  input_among posts handed.Replace inside = tt
  input_among posts (handed.Asked r) inside = tt
  input_among posts handed.ClientCrash inside = tt

-- ---- along a run

module _ (shape : Shape) (letters : List Letter) (moments : List Held) (formatted : Record) (Begun : Type 0) (posts : List Posted) (name : NodeName) where
  -- what is in memory, what is held, and the roots of the bases
  pub record KnownBacked (known : KnownNode) : Type 0 where
    pub memory : OfSome (MemoryBacked shape letters moments formatted Begun name.region) known.state.memory
    pub fits : KnownNamed letters formatted Begun shape known
    pub rooted : Begun → KnownRooted shape known

  contents_first : (known : KnownNode) (steps : List TraceStep) (held : Held) → IsAmong held known.contents → IsAmong held (moments_of shape posts name known steps)
  unfolding moments_of
  contents_first known [] held at = inr at
  contents_first known (step ∷ steps) held at = inr (among_left held known.contents (moments_of shape posts name (after shape posts name known step) steps) at)

  abbrev after_own : Bool → KnownNode → TraceStep → KnownNode
  after_own own known step = if own then known_to shape name.region posts known step.handed step.failed step.loaded else known

  own_kept : (own : Bool) (known : KnownNode) (step : TraceStep) → KnownBacked known → ((l : Letter) → IsAmong l (if own then letters_in posts step.handed else []) → IsAmong l letters)
      → KnownNamed letters formatted Begun shape (after_own own known step) → (Begun → KnownRooted shape (after_own own known step)) → AllByRecursion (λ held. IsAmong held moments) (after_own own known step).contents
      → OfSome (MemoryBacked shape letters moments formatted Begun name.region) (after_own own known step).state.memory
  own_kept true known step back inside now rooted within =
      step_kept shape letters moments formatted Begun name.region posts known step.handed step.failed step.loaded back.memory back.fits.held (λ begun. (back.rooted begun).held)
      (input_among shape letters moments formatted Begun name.region posts step.handed inside) now.held (λ begun. (rooted begun).held) within
  own_kept false known step back inside now rooted within = back.memory

  kept_along : (known : KnownNode) (before : ℕ) (steps : List TraceStep) → AllSteps shape posts name known before steps → ((l : Letter) → IsAmong l (letters_to posts name steps) → IsAmong l letters)
      → ((held : Held) → IsAmong held (moments_of shape posts name known steps) → IsAmong held moments) → KnownBacked known → KnownBacked (known_of shape posts name known steps)
  unfolding AllSteps known_of moments_of
  kept_along known before [] right inside within back = back
  kept_along known before (step ∷ steps) right inside within back =
      let own : Bool = addresses name step in
      let new : List Letter = if own then letters_in posts step.handed else [] in
      let now : KnownNode = after shape posts name known step in
      let first : (l : Letter) → IsAmong l new → IsAmong l letters = λ l at. inside l (among_left l new (letters_to posts name steps) at) in
      let fits : KnownNamed letters formatted Begun shape now =
      own_fits shape (Came letters) (Named letters formatted Begun shape) (Counted letters formatted Begun shape) (came_closed letters formatted Begun shape) posts name own known before step right.0 back.fits
      (all_given letters formatted Begun shape new first) in
      let rooted : Begun → KnownRooted shape now = λ begun. own_rooted shape posts name own known before step right.0 (back.rooted begun) in
      let later : (held : Held) → IsAmong held (moments_of shape posts name now steps) → IsAmong held moments = λ held at. within held (inr (among_right held known.contents (moments_of shape posts name now steps) at)) in
      let memory = own_kept own known step back first fits rooted (all_among (λ held. IsAmong held moments) now.contents (λ held at. later held (contents_first now steps held at))) in
      kept_along now step.sent steps right.1 (λ l at. inside l (among_right l new (letters_to posts name steps) at)) later (record { memory = memory; fits = fits; rooted = rooted })

-- what is held last is one of the moments
held_last : (shape : Shape) (posts : List Posted) (name : NodeName) (known : KnownNode) (steps : List TraceStep) → IsAmong (known_of shape posts name known steps).state.held (moments_of shape posts name known steps)
unfolding known_of moments_of
held_last shape posts name known [] = inl refl
held_last shape posts name known (step ∷ steps) =
    inr (among_right (known_of shape posts name (after shape posts name known step) steps).state.held known.contents (moments_of shape posts name (after shape posts name known step) steps)
    (held_last shape posts name (after shape posts name known step) steps))

-- ---- the law

-- the licence of each message, and of blocks where the node began with no base but the formatted one
abbrev pub IsLicensedWhere : Type 0 → Shape → List Letter → Record → List Held → ((Held → Type 0) → Type 0) → ℕ → Message → Type 0
IsLicensedWhere Begun shape letters formatted held everywhere g (message.Answer m) = Begun → IsLicensed shape letters formatted held everywhere g (message.Answer m)
IsLicensedWhere Begun shape letters formatted held everywhere g (message.Dumped m) = Begun → IsLicensed shape letters formatted held everywhere g (message.Dumped m)
IsLicensedWhere Begun shape letters formatted held everywhere g other = IsLicensed shape letters formatted held everywhere g other

module _ (shape : Shape) (letters : List Letter) (formatted : Record) (Begun : Type 0) (before : Held) (moments : List Held) (last : IsAmong before moments) (everywhere : (Held → Type 0) → Type 0) (g : ℕ) where
  abbrev Licence : Message → Type 0
  Licence m = IsLicensedWhere Begun shape letters formatted moments everywhere g m

  backed_whole : (m : Message) → IsBackedApart shape letters formatted (before ∷ []) everywhere g m → IsGranted shape letters moments formatted Begun g m → Licence m
  backed_whole (message.Prepared m) apart granted = apart
  backed_whole (message.Staged m) apart granted = apart
  backed_whole (message.Switched m) apart granted = apart
  backed_whole (message.Committed m) apart granted = granted
  backed_whole (message.Answer m) apart granted = granted
  backed_whole (message.Dumped m) apart granted = granted
  backed_whole (message.Gathered m) (inl same) granted = subst (λ (held : Held). IsAmong held moments) (sym same) last
  backed_whole (message.Gathered m) (inr nothing) granted = absurd nothing
  backed_whole (message.Part m) apart granted = granted
  backed_whole (message.Ask m) apart granted = granted
  backed_whole (message.Gather m) apart granted = granted
  backed_whole (message.Stage m) apart granted = granted
  backed_whole (message.Switch m) apart granted = granted
  backed_whole (message.Dump m) apart granted = granted

  -- all of them, where it began so; and else all but those of blocks
  licence_whole : Begun → (m : Message) → Licence m → IsLicensed shape letters formatted moments everywhere g m
  licence_whole begun (message.Answer m) licence = licence begun
  licence_whole begun (message.Dumped m) licence = licence begun
  licence_whole begun (message.Prepared m) licence = licence
  licence_whole begun (message.Staged m) licence = licence
  licence_whole begun (message.Switched m) licence = licence
  licence_whole begun (message.Committed m) licence = licence
  licence_whole begun (message.Gathered m) licence = licence
  licence_whole begun (message.Part m) licence = licence
  licence_whole begun (message.Ask m) licence = licence
  licence_whole begun (message.Gather m) licence = licence
  licence_whole begun (message.Stage m) licence = licence
  licence_whole begun (message.Switch m) licence = licence
  licence_whole begun (message.Dump m) licence = licence

  licence_apart : (m : Message) → Licence m → IsBacked shape letters formatted moments everywhere g m
  licence_apart (message.Answer m) licence = tt
  licence_apart (message.Dumped m) licence = tt
  licence_apart (message.Prepared m) licence = licence
  licence_apart (message.Staged m) licence = licence
  licence_apart (message.Switched m) licence = licence
  licence_apart (message.Committed m) licence = licence
  licence_apart (message.Gathered m) licence = licence
  licence_apart (message.Part m) licence = licence
  licence_apart (message.Ask m) licence = licence
  licence_apart (message.Gather m) licence = licence
  licence_apart (message.Stage m) licence = licence
  licence_apart (message.Switch m) licence = licence
  licence_apart (message.Dump m) licence = licence

module _ (shape : Shape) (posts : List Posted) (name : NodeName) (first : Held) (steps : List TraceStep) (right : AllSteps shape posts name (fresh shape name.region first) 0 steps) (none : first.parts ≡ [])
    (formatted : Record) (what : Handed) (failed : Bool) where
  abbrev start : KnownNode
  start = fresh shape name.region first

  abbrev known : KnownNode
  known = known_of shape posts name start steps

  abbrev letters : List Letter
  letters = letters_to posts name steps ++ letters_in posts what

  abbrev moments : List Held
  moments = moments_of shape posts name start steps

  abbrev Begun : Type 0
  Begun = AllByRecursion (IsFormattedBase shape formatted) first.bases

  abbrev everywhere : (Held → Type 0) → Type 0
  everywhere P = AllByRecursion P (after_handed shape name.region posts known what failed).contents

  abbrev outs : List Sending
  outs = outs_to shape name.region posts known what failed

  first_named : HeldNamed letters formatted Begun shape first
  first_named = record {
    bases = all_among _ first.bases (λ base at. record {
      given = λ begun. inl (among_all (IsFormattedBase shape formatted) first.bases base at begun).is;
      whole = λ begun. (among_all (IsFormattedBase shape formatted) first.bases base at begun).count;
    });
    parts = subst (λ (l : List Record). AllByRecursion (PartFits shape (Came letters)) l) (sym none) tt;
  }

  first_rooted : Begun → AllRooted shape first
  first_rooted begun = all_then (IsFormattedBase shape formatted) (HasItsRoot shape) (λ base of. of.root ∙ sym (ap (λ (rec : Record). rec.header.root) of.is)) first.bases begun

  inside : (l : Letter) → IsAmong l (letters_to posts name steps) → IsAmong l letters
  inside l at = among_left l (letters_to posts name steps) (letters_in posts what) at

  first_backed : KnownBacked shape letters moments formatted Begun posts name start
  first_backed =
      let fits = fresh_fits shape (Came letters) (Named letters formatted Begun shape) (Counted letters formatted Begun shape) (came_closed letters formatted Begun shape) name.region first first_named in
      let rooted : Begun → KnownRooted shape start = λ begun. fresh_rooted shape name.region first (first_rooted begun) in
      record {
        memory = fresh_kept shape letters moments formatted Begun name.region first fits.held (λ begun. (rooted begun).held)
            (all_among (λ held. IsAmong held moments) start.contents (λ held at. contents_first shape letters moments formatted Begun posts name start steps held at));
        fits = fits;
        rooted = rooted;
      }

  -- After any steps: what a node sends in the next step has its licence, by what was handed to it up to that step, by what
  -- it held at each moment before, and by the contents that its disk may mean then.
  all_licensed : AllByRecursion (λ out. IsLicensedWhere Begun shape letters formatted moments everywhere name.region out.message) outs
  all_licensed =
      let kept : KnownBacked shape letters moments formatted Begun posts name known = kept_along shape letters moments formatted Begun posts name start 0 steps right inside (λ h at. at) first_backed in
      let granted : AllGranted shape letters moments formatted Begun name.region outs =
      handed_granted shape letters moments formatted Begun name.region known failed (input_of posts what) kept.memory kept.fits.held (λ begun. (kept.rooted begun).held)
      (input_among shape letters moments formatted Begun name.region posts what (λ l at. among_right l (letters_to posts name steps) (letters_in posts what) at)) in
      all_then (λ out. IsBackedApart shape letters formatted (known.state.held ∷ []) everywhere name.region out.message × IsGranted shape letters moments formatted Begun name.region out.message)
      (λ out. IsLicensedWhere Begun shape letters formatted moments everywhere name.region out.message)
      (λ out both. backed_whole shape letters formatted Begun known.state.held moments (held_last shape posts name start steps) everywhere name.region out.message both.0 both.1) outs
      (all_zip (λ out. IsBackedApart shape letters formatted (known.state.held ∷ []) everywhere name.region out.message) (λ out. IsGranted shape letters moments formatted Begun name.region out.message) outs
      (messages_backed shape posts name first steps right formatted Begun what failed first_named) granted)

  -- The law: each message has its licence, where the node began with no base but the formatted one; and of those that carry
  -- no blocks each has it, whatever bases it began with.
  pub messages_licensed : Begun → AllByRecursion (λ out. IsLicensed shape letters formatted moments everywhere name.region out.message) outs
  messages_licensed begun =
      all_then (λ out. IsLicensedWhere Begun shape letters formatted moments everywhere name.region out.message) (λ out. IsLicensed shape letters formatted moments everywhere name.region out.message)
      (λ out licence. licence_whole shape letters formatted Begun known.state.held moments (held_last shape posts name start steps) everywhere name.region begun out.message licence) outs all_licensed

  pub messages_backed_anyhow : AllByRecursion (λ out. IsBacked shape letters formatted moments everywhere name.region out.message) outs
  messages_backed_anyhow =
      all_then (λ out. IsLicensedWhere Begun shape letters formatted moments everywhere name.region out.message) (λ out. IsBacked shape letters formatted moments everywhere name.region out.message)
      (λ out licence. licence_apart shape letters formatted Begun known.state.held moments (held_last shape posts name start steps) everywhere name.region out.message licence) outs all_licensed
