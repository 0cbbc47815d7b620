-- A node's step keeps the blocks of its bases right: a base that is staged has those that came with it, or the view's, which
-- have the root that its record names; and a fold goes on from the base by the parts of the session.
use Rattle.std.proofs.Common.{◌≡◌, ◌∙◌, ◌⊎◌, inl, ⊎_elim, ℕ, ◌+◌, ◌-◌, ◌<◌, ◌≤◌, ◌==◌, ◌&&◌, nat_le, nat_lt, Bool, true, false, if◌then◌else◌, List, [], ◌∷◌, ◌++◌, length, map, Option, None, Some, Result, Ok, Err, refl, sym, ap, subst, arith}
use Rattle.std.specs.Prelude.{filter, option_map, bytes_eq}
use Rattle.std.specs.Option.{option_map_or}
use Rattle.std.specs.List.{AllByRecursion}
use Rattle.std.proofs.lemmas.Option.{same_Some}
use Rattle.std.proofs.lemmas.Slice.Eq.{bytes_eq-Decides}
use Rattle.salus_types.specs.Volume.{Shape, regions}
use Rattle.salus_types.specs.declared.records.Record.{Record}
use Rattle.salus_types.specs.declared.records.Base.{Base}
use Rattle.salus_types.specs.declared.records.Held.{Held}
use Rattle.merkle_region.specs.Tree.{root_of, IsAmong, NoTwoCollide}
use Rattle.merkle_region.proofs.Membership.{among_either}
use Rattle.holding_model.specs.Fitting.{blocks_after, blocks_written, has_shape}
use Rattle.holding_model.specs.Changing.{Change, AddsPart, AddsBase, SwitchesTo, FoldsTo, is_folded, is_open_base, base_after_all, folded, changed, after_changes, contents_through}
use Rattle.volume_model.specs.Contents.{blocks_in, apply}
use Rattle.volume_model.specs.Parts.{Session, contents_after, number_of, batch_at, writes_in, part_of}
use Rattle.salus_model.specs.Judge.{Judge, known_at}
use Rattle.replica_rules.specs.Views.{View, view_of_base, view_after, view_root}
use Rattle.list_lemmas.proofs.Members.{among_all, all_among, among_map, among_filter}
use Rattle.list_lemmas.proofs.SameRoots.{same_roots}
use Rattle.law_lemmas.proofs.Numbered.{IsSized, IsNumbered, numbered, contents_after-more, length-contents_after}
use Rattle.law_lemmas.proofs.Regional.{part_written, length-blocks_in}
use Rattle.law_lemmas.proofs.Settled.{EachKnown}
use Rattle.law_history.proofs.Chosen.{HasContents}
use Rattle.law_records.proofs.Own.{SaysPart, part_says}
use Rattle.law_refined.proofs.Listed.{filter_alike}
use Rattle.law_refined.proofs.Chains.{GoesOn, goes_parts, chain_sessions, chain_split, up_to, after_stands}
use Rattle.law_matched.proofs.Sound.{IsOwnBase, IsOwnPart}
use Rattle.std.proofs.lemmas.Bool.{eqb-true, eq-eqb, false≢true}
use Rattle.salus_types.specs.declared.names.NodeName.{NodeName}
use Rattle.salus_types.specs.declared.names.Sender.{Sender}
use Rattle.salus_types.specs.declared.names.Sender.TheVariants as sender
use Rattle.salus_message.specs.declared.small.Prepared.{Prepared}
use Rattle.salus_message.specs.declared.small.Committed.{Committed}
use Rattle.salus_message.specs.declared.small.Ask.{Ask}
use Rattle.salus_message.specs.declared.small.Dump.{Dump}
use Rattle.salus_message.specs.declared.wire.Message.{Message}
use Rattle.salus_message.specs.declared.wire.Message.TheVariants as message
use Rattle.salus_message.specs.declared.wire.MessageError.{MessageError}
use Rattle.salus_message.specs.Reading.{message_at}
use Rattle.schedule_text.specs.Limits.{IsOfVolume, IsWithinLimits}
use Rattle.schedule_text.specs.declared.schedule.Volume.{Volume}
use Rattle.schedule_text.specs.declared.schedule.Event.{Event}
use Rattle.volume_model.specs.Groups.{is_client, group_of}
use Rattle.holding_model.specs.Holding.{nothing_held}
use Rattle.salus_model.specs.declared.trace.Handed.{Handed}
use Rattle.salus_model.specs.declared.trace.Handed.TheVariants as handed
use Rattle.salus_model.specs.declared.trace.TraceStep.{TraceStep}
use Rattle.salus_model.specs.Following.{Posted, posted_at}
use Rattle.salus_model.specs.Guarding.{is_lied_for}
use Rattle.salus_model.specs.Hearing.{Past, judge_of}
use Rattle.salus_model.specs.Seen.{known_strings}
use Rattle.replica_rules.specs.Replicas.{Replica, PartAnswer, Foreign, Known, Early, Full, Differs, Next, take_part, after_part, all_kept_in_turn}
use Rattle.replica_rules.specs.Voting.{with_vote, with_claim}
use Rattle.replica_rules.specs.Nodes.{Memory, NodeState, base_held, loaded_as}
use Rattle.replica_rules.specs.Rules.{Turn, Plan, quiet, plan_of, ignored, told_client, in_session, same_record, then_claims, part_answered, by_part, by_ask, dumped, by_dump, with_leader, by_vote, fold_number, folds, after_fold, then_fold, by_claim, by_tick, is_carried, by_gather, says_staged, staged, staged_again, staged_whole, staged_from, staged_anew, is_staged_here, by_stage, says_switched, switched, by_switch, from_client, from_node, is_node, from_result, Input, Receives, Ticks, planned, Handled, handled}
use Rattle.replica_rules.proofs.Keeping.{OfHeld, OfInput, planned_of, contents_through_of}
use Rattle.run_rules.specs.Knowing.{KnownNode, speaking, silenced, after_handling, after_input, input_of_post, input_of, after_handed, reloaded, known_to, IsLoadOf, LoadsRight}
use Rattle.run_rules.specs.Running.{IsNodeStep}
use Rattle.list_lemmas.proofs.Each.{either_way, any_way, all_map, all_each, all_then, all_filter, OfSome}
use Rattle.list_lemmas.proofs.Tests.{and_right, way_with}
use Rattle.law_lemmas.proofs.Owned.{IsTold, told, known_among}
use Rattle.law_history.proofs.Seeing.{has_contents}
use Rattle.law_history.specs.Handing.{records_posted}
use Rattle.salus_model.specs.Forgery.{IsTagged, IsPartOf, records_of}
use Rattle.law_handed.proofs.Origins.{Stands}
use Rattle.law_prefix.specs.World.{Client, Vote, Claim, World, Volume as AbstractVolume}
use Rattle.kept_model.specs.Nodes.{node_of, volume_as}
use Rattle.law_refined.specs.Bringing.{InputFits, HandedFits}
use Rattle.law_refined.specs.Standing.{WhereSome, Chain, Opened, HeldStands, MemoryStands, StateStands, NodeStands}
use Rattle.law_refined.proofs.Opens.{opened_among, opened_session, opened_stands}
use Rattle.law_refined.proofs.Turning.{Reaches}
use Rattle.law_refined.proofs.Planning.{PlanStands, planned_stands}
use Rattle.law_matched.specs.Silent.{IsReached, IsHandedRight}
use Rattle.law_matched.proofs.Numbering.{all_numbered}
use Rattle.law_matched.proofs.Matched.{handed_fits}
use Rattle.law_kept.proofs.Saying.{Owns, PostedOwn, input_good}
use Rattle.law_kept.proofs.SaidSound.{own_base, own_part, known_here, own_here}
use Rattle.law_covered.proofs.Right.{IsRightBase, HasRight, HoldsRight, StagesRight}

module _ (shape : Shape) (key : List ℕ) (judge : Judge) (sized : EachKnown judge (IsSized shape)) (g : ℕ) (inside : g < regions shape) (c : Client) where
  -- the view has the region's blocks of a known session
  pub record IsRightView (e : ℕ) (view : View) : Type 0 where
    pub known : Session
    pub at : known_at judge e ≡ Some known
    pub above : known.base ≤ view.number
    pub within : view.number ≤ length known.list
    pub blocks : view.blocks ≡ blocks_in shape (contents_after known view.number) g

  -- the blocks after a part
  moved : (known : Session) (s : IsSized shape known) (blocks : List (List ℕ)) (x : ℕ) → known.base < x → x ≤ length known.list → blocks ≡ blocks_in shape (contents_after known (number_of shape known (x - 1) g)) g
      → blocks_after shape blocks (part_of shape key known x g) ≡ blocks_in shape (contents_after known x) g
  unfolding part_of
  moved known s blocks x above within right =
      let before : x - 1 + 1 ≡ x = omega arith in
      let last : IsNumbered shape known s g (x - 1) = numbered shape known s g (x - 1) inside (omega arith) (omega arith) in
      let next : contents_after known x ≡ apply (contents_after known (x - 1)) (batch_at known x) =
      ap (contents_after known) (sym before) ∙ (contents_after-more shape known s (x - 1) (omega arith) ∙ ap (λ i. apply (contents_after known (x - 1)) (batch_at known i)) before) in
      ap (λ b. blocks_written b (writes_in shape (batch_at known x) g)) (right ∙ last.blocks)
      ∙ (part_written shape (contents_after known (x - 1)) (length-contents_after shape known s (x - 1)) (batch_at known x) g inside ∙ ap (λ k. blocks_in shape k g) (sym next))

  part_right : (e : ℕ) (view : View) (rec : Record) → IsRightView e view → GoesOn shape g view rec → IsOwnPart shape key judge g e rec → IsRightView e (view_after shape view rec)
  part_right e view rec right on own =
      let known : Session = own.known in
      let same : right.known ≡ known = same_Some right.known known (sym right.at ∙ own.at) in
      let part : IsPartOf shape key known g rec = own.own in
      let says : SaysPart shape key known g rec part.s = part_says shape key known g rec part in
      let above : known.base < part.s = part.own in
      let within : part.s ≤ length known.list = part.within in
      let seq : rec.header.seq ≡ part.s = says.seq in
      let number : view.number ≡ number_of shape known (part.s - 1) g = sym on.starts ∙ says.previous in
      let before : view.blocks ≡ blocks_in shape (contents_after known (number_of shape known (part.s - 1) g)) g =
      right.blocks ∙ ap (λ (k : Session). blocks_in shape (contents_after k view.number) g) same ∙ ap (λ n. blocks_in shape (contents_after known n) g) number in
      let after : blocks_after shape view.blocks rec ≡ blocks_in shape (contents_after known part.s) g =
      ap (λ r. blocks_after shape view.blocks r) part.is ∙ moved known (sized known e own.at) view.blocks part.s above within before in
      record {
        known = known;
        at = own.at;
        above = omega (arith, above, seq);
        within = omega (arith, within, seq);
        blocks = after ∙ ap (λ n. blocks_in shape (contents_after known n) g) (sym seq);
      }

  pub chain_right : (e : ℕ) (view : View) (parts : List Record) (now : View) → IsRightView e view → Chain shape g c e view parts now → AllByRecursion (IsOwnPart shape key judge g e) parts → IsRightView e now
  unfolding Chain
  chain_right e view [] now right chain own = subst (λ (v : View). IsRightView e v) chain right
  chain_right e view (rec ∷ parts) now right chain own =
      chain_right e (view_after shape view rec) parts now (part_right e view rec right (goes_parts shape g view rec chain.0.goes) own.0) chain.1 own.1

  -- a base with its own record begins a view
  pub base_right : (base : Base) → IsRightBase shape judge g base → IsOwnBase shape key judge g base → IsRightView base.rec.header.session (view_of_base base)
  base_right base right own =
      let known : Session = own.known in
      let same : right.known ≡ known = same_Some right.known known (sym right.at ∙ own.at) in
      let header : IsTold shape known g base.rec.header = told shape key known (sized known base.rec.header.session own.at) g base.rec own.own in
      record {
        known = known;
        at = own.at;
        above = header.above;
        within = header.within;
        blocks = right.blocks ∙ ap (λ (k : Session). blocks_in shape (contents_after k base.rec.header.seq) g) same;
      }

  -- a base that is added has to be right
  abbrev pub RightAdded : Change → Type 0
  RightAdded (AddsPart rec) = Unit {0}
  RightAdded (AddsBase base) = IsRightBase shape judge g base
  RightAdded (SwitchesTo e) = Unit {0}
  RightAdded (FoldsTo n) = Unit {0}

  -- ---- what is held

  module _ (held : Held) (holds : HeldStands shape g c held) (owns : OfHeld (λ rec. IsTagged shape key judge rec) held) (right : HasRight shape judge g held) where
    own_parts : AllByRecursion (IsOwnPart shape key judge g held.session) held.parts
    own_parts = all_among (IsOwnPart shape key judge g held.session) held.parts (λ rec among. own_part shape key judge g c held holds owns rec among)

    open_right : (view : View) (o : Opened shape g c held view) → IsAmong o.base held.bases → IsRightView held.session (view_of_base o.base)
    open_right view o among =
        subst (λ e. IsRightView e (view_of_base o.base)) (opened_session shape g c held view o) (base_right o.base (right o.base among) (own_base shape key judge g c held holds owns o.base among))

    -- the view
    pub view_right : (view : View) (o : Opened shape g c held view) → IsAmong o.base held.bases → IsRightView held.session view
    view_right view o among = chain_right held.session (view_of_base o.base) held.parts view (open_right view o among) o.chain own_parts

    only_base : (b base : Base) → IsAmong b (base ∷ []) → b ≡ base
    only_base b base among = ⊎_elim (λ same. same) (λ none. absurd none) among

    -- the base after the parts that are folded
    after_right : (n : ℕ) (view : View) (o : Opened shape g c held view) → IsAmong o.base held.bases → IsRightBase shape judge g (base_after_all shape o.base (filter (λ rec. is_folded held n rec) held.parts))
    after_right n view o among =
        let e : ℕ = held.session in
        let low : List Record = up_to shape g c e n held.parts in
        let sessions : AllByRecursion (λ rec. rec.header.session ≡ e) held.parts = chain_sessions shape g c e (view_of_base o.base) held.parts view o.chain in
        let same : filter (λ rec. is_folded held n rec) held.parts ≡ low =
        filter_alike (λ rec. is_folded held n rec) (λ rec. nat_le rec.header.seq n) held.parts
        (all_then (λ rec. rec.header.session ≡ e) (λ rec. is_folded held n rec ≡ nat_le rec.header.seq n) (λ rec is. ap (λ b. b && nat_le rec.header.seq n) (eq-eqb rec.header.session e is)) held.parts sessions) in
        let next : Base = base_after_all shape o.base low in
        let split = chain_split shape g c e n o.base held.parts view o.chain in
        let after = after_stands shape g c e o.base low (view_of_base next) (opened_session shape g c held view o) (opened_stands shape g c held view holds o) split.0 in
        let now : IsRightView e (view_of_base next) =
        chain_right e (view_of_base o.base) low (view_of_base next) (open_right view o among) split.0 (all_filter (IsOwnPart shape key judge g e) (λ rec. nat_le rec.header.seq n) held.parts own_parts) in
        subst (λ (l : List Record). IsRightBase shape judge g (base_after_all shape o.base l)) (sym same)
        (record { known = now.known; at = subst (λ x. known_at judge x ≡ Some now.known) (sym after.1) now.at; within = now.within; blocks = now.blocks })

    fold_right : (n : ℕ) (gone : List Record) → filter (λ rec. is_folded held n rec) held.parts ≡ gone → HasRight shape judge g (folded shape held n gone)
    fold_right n [] none = right
    fold_right n (first ∷ rest) some = λ base among.
        ⊎_elim
        (λ (open_one : IsAmong base (map (λ b. base_after_all shape b (filter (λ rec. is_folded held n rec) held.parts)) (filter (λ b. is_open_base held b) held.bases))).
        let made = among_map (λ b. base_after_all shape b (filter (λ rec. is_folded held n rec) held.parts)) base (filter (λ b. is_open_base held b) held.bases) open_one in
        let there = among_filter (λ b. is_open_base held b) made.0 held.bases made.1 in
        ⊎_elim
        (λ (closed : (held.session ≡ 0) × (held.parts ≡ [])). absurd (no_first first rest (sym some ∙ ap (λ (l : List Record). filter (λ rec. is_folded held n rec) l) closed.1)))
        (λ (open_view : (0 < held.session) × (view : View) × Opened shape g c held view).
        let o : Opened shape g c held open_view.1 = open_view.2 in
        let is : made.0 ≡ o.base = only_base made.0 o.base (subst (λ (l : List Base). IsAmong made.0 l) o.only made.1) in
        let mine : IsAmong o.base held.bases = subst (λ (b : Base). IsAmong b held.bases) is there.0 in
        subst (λ (b : Base). IsRightBase shape judge g b) (sym (made.2 ∙ ap (λ b. base_after_all shape b (filter (λ rec. is_folded held n rec) held.parts)) is)) (after_right n open_view.1 o mine))
        holds.open_is)
        (λ (later : IsAmong base (filter (λ b. nat_lt held.session b.rec.header.session) held.bases)). right base (among_filter (λ b. nat_lt held.session b.rec.header.session) base held.bases later).0)
        (among_either base (map (λ b. base_after_all shape b (filter (λ rec. is_folded held n rec) held.parts)) (filter (λ b. is_open_base held b) held.bases)) (filter (λ b. nat_lt held.session b.rec.header.session) held.bases) among)
      where
        no_first : (x : Record) (xs : List Record) → x ∷ xs ≡ [] → ⊥
        no_first x xs same = let long : length (x ∷ xs) ≡ 0 = ap (λ (l : List Record). length l) same in omega arith

    pub change_right : (change : Change) → RightAdded change → HasRight shape judge g (changed shape held change)
    unfolding changed
    change_right (AddsPart rec) added = right
    change_right (AddsBase new) added = λ base among. ⊎_elim (λ (old : IsAmong base held.bases). right base old)
        (λ (last : IsAmong base (new ∷ [])). subst (λ (b : Base). IsRightBase shape judge g b) (sym (only_base base new last)) added) (among_either base held.bases (new ∷ []) among)
    change_right (SwitchesTo e) added = λ base among. right base (among_filter (λ b. nat_le e b.rec.header.session) base held.bases among).0
    change_right (FoldsTo n) added = fold_right n (filter (λ rec. is_folded held n rec) held.parts) refl

  -- ---- a base that is staged without blocks

  module _ (strings : List (List ℕ)) (none : NoTwoCollide strings) (has : (known : Session) (e : ℕ) → known_at judge e ≡ Some known → HasContents shape strings known) where
    -- blocks of a known session that have the root that a record of a known session names
    pub staged_right : (e : ℕ) (view : View) (rec : Record) → IsRightView e view → IsOwnBase shape key judge g (record { rec = rec; blocks = view.blocks }) → view_root shape view ≡ rec.header.root
        → IsRightBase shape judge g (record { rec = rec; blocks = view.blocks })
    staged_right e view rec right own root =
        let known : Session = own.known in
        let header : IsTold shape known g rec.header = told shape key known (sized known rec.header.session own.at) g rec own.own in
        let mine : List (List ℕ) = blocks_in shape (contents_after right.known view.number) g in
        let named : List (List ℕ) = blocks_in shape (contents_after known rec.header.seq) g in
        let roots : root_of shape.height mine ≡ root_of shape.height named = ap (λ b. root_of shape.height b) (sym right.blocks) ∙ root ∙ header.root in
        let same : mine ≡ named =
        same_roots strings none shape.height mine named (length-blocks_in shape (contents_after right.known view.number) g (length-contents_after shape right.known (sized right.known e right.at) view.number) inside)
        (length-blocks_in shape (contents_after known rec.header.seq) g (length-contents_after shape known (sized known rec.header.session own.at) rec.header.seq) inside)
        (λ x m. has right.known e right.at view.number g x right.within inside m) (λ x m. has known rec.header.session own.at rec.header.seq g x header.within inside m) roots in
        record { known = known; at = own.at; within = header.within; blocks = right.blocks ∙ same }

  -- ---- a plan

  module _ (v : AbstractVolume) (votes : List Vote) (claims : List Claim) where
    -- through all changes
    pub right_through : (held : Held) (changes : List Change) → HeldStands shape g c held → Reaches shape v g c votes claims held changes → AllByRecursion (OfHeld (λ rec. IsTagged shape key judge rec)) (contents_through shape held changes)
        → AllByRecursion RightAdded changes → HasRight shape judge g held → AllByRecursion (HasRight shape judge g) (contents_through shape held changes) × HasRight shape judge g (after_changes shape held changes)
    unfolding Reaches contents_through after_changes
    right_through held [] holds reaches of added right = ((right, tt), right)
    right_through held (change ∷ changes) holds reaches of added right =
        let rest = right_through (changed shape held change) changes reaches.1 reaches.2 of.1 added.1 (change_right held holds of.0 right change added.0) in
        ((right, rest.0), rest.1)

    -- what a base brings that the client staged
    abbrev pub BringsRight : Base → Type 0
    BringsRight base = ((base.blocks ≡ []) ⊎ IsRightBase shape judge base.rec.header.region base) × IsTagged shape key judge base.rec

    abbrev pub LetterRight : Sender → Message → Type 0
    LetterRight sender.Client (message.Stage m) = BringsRight m.base
    LetterRight from other = Unit {0}

    abbrev pub ResultRight : Sender → Result Message MessageError → Type 0
    ResultRight from (Ok m) = LetterRight from m
    ResultRight from (Err e) = Unit {0}

    abbrev pub InputRight : Input → Type 0
    InputRight (Receives from bytes) = ResultRight from (message_at bytes)
    InputRight Ticks = Unit {0}

    module _ (strings : List (List ℕ)) (none : NoTwoCollide strings) (has : (known : Session) (e : ℕ) → known_at judge e ≡ Some known → HasContents shape strings known) (node : NodeState) (stands : StateStands shape v g c votes claims node)
        (owns : OfHeld (λ rec. IsTagged shape key judge rec) node.held) (right : HasRight shape judge g node.held) where
      abbrev Good : List Change → Type 0
      Good changes = AllByRecursion RightAdded changes

      abbrev GoodPlan : Plan → Type 0
      GoodPlan plan = Good plan.changes

      abbrev GoodTurn : Turn → Type 0
      GoodTurn turn = Good turn.changes

      answered_added : (m : Memory) (rec : Record) (r : Replica) (answer : PartAnswer) → GoodTurn (part_answered shape g m rec r answer)
      answered_added m rec r Next = all_map RightAdded (λ k. AddsPart k) (after_part rec (all_kept_in_turn shape r)).parts (all_each (λ k. Unit {0}) (after_part rec (all_kept_in_turn shape r)).parts (λ k. tt))
      answered_added m rec r Known = tt
      answered_added m rec r Early = tt
      answered_added m rec r Foreign = tt
      answered_added m rec r Full = tt
      answered_added m rec r (Differs root got) = tt

      part_added : (rec : Record) (m : Memory) → GoodTurn (by_part shape g rec m)
      unfolding by_part
      part_added rec m = answered_added m rec (take_part shape g m.replica rec).replica (take_part shape g m.replica rec).answer

      ask_added : (ask : Ask) (m : Memory) → GoodTurn (by_ask shape g ask m)
      unfolding by_ask
      ask_added ask m = tt

      dump_added : (dump : Dump) (m : Memory) → GoodTurn (by_dump g dump m)
      unfolding by_dump
      dump_added dump m = either_way ((dump.session == m.replica.session) && (dump.region == g)) (dumped g m) (quiet m) GoodTurn tt tt

      vote_added : (name : NodeName) (vote : Prepared) (m : Memory) → GoodTurn (by_vote shape name vote m)
      unfolding by_vote
      vote_added name vote m =
          either_way ((vote.session == m.replica.session) && (vote.region == name.region)) (then_claims shape (quiet (with_leader m (record m.leader { votes = with_vote m.leader.votes name vote.seq vote.root })))) (quiet m) GoodTurn tt tt

      claim_added : (name : NodeName) (claim : Committed) (m : Memory) → GoodTurn (by_claim shape name claim m)
      unfolding by_claim
      claim_added name claim m =
          let turn : Turn = then_claims shape (quiet (with_leader m (record m.leader { claims = with_claim m.leader.claims name claim.front }))) in
          let n : ℕ = fold_number shape turn.memory in
          either_way (claim.session == m.replica.session) (then_fold shape turn) (quiet m) GoodTurn
          (either_way (folds shape turn.memory) (record { memory = after_fold turn.memory n; outs = turn.outs; changes = turn.changes ++ FoldsTo n ∷ [] }) turn GoodTurn (tt, tt) tt) tt

      in_session_added : (rule : Memory → Turn) → ((m : Memory) → GoodTurn (rule m)) → GoodPlan (in_session node rule)
      in_session_added rule each = any_way GoodPlan (λ m. plan_of (rule m)) (ignored node) node.memory each tt

      gather_added : (e : ℕ) → GoodPlan (by_gather node e)
      unfolding by_gather
      gather_added e = either_way (is_carried node.held) (told_client node (message.Gathered (record { session = e; held = node.held }))) (ignored node) GoodPlan tt tt

      switch_added : (e : ℕ) → GoodPlan (by_switch shape g node e)
      unfolding by_switch
      switch_added e =
          either_way (e == node.held.session) (says_switched node e) (if nat_lt node.held.session e then option_map_or (λ base. switched shape g node e) (base_held shape g e node.held) (ignored node) else ignored node) GoodPlan tt
          (either_way (nat_lt node.held.session e) (option_map_or (λ base. switched shape g node e) (base_held shape g e node.held) (ignored node)) (ignored node) GoodPlan
          (any_way GoodPlan (λ base. switched shape g node e) (ignored node) (base_held shape g e node.held) (λ base. (tt, tt)) tt) tt)

      tick_added : (m : Memory) → GoodTurn (by_tick shape m)
      unfolding by_tick
      tick_added m = tt

      module _ (base : Base) (brings : BringsRight base) (region : base.rec.header.region ≡ g) where
        whole_added : (length base.blocks == 0) ≡ false → GoodPlan (staged_whole shape node base)
        whole_added some =
            either_way (has_shape shape base.blocks && bytes_eq (root_of shape.height base.blocks) base.rec.header.root) (staged node base.rec base.blocks) (ignored node) GoodPlan
            (⊎_elim (λ (empty : base.blocks ≡ []). absurd (no_false (sym (ap (λ (l : List (List ℕ)). length l == 0) empty) ∙ some)))
            (λ (there : IsRightBase shape judge base.rec.header.region base).
            let mine : IsRightBase shape judge g base = subst (λ r. IsRightBase shape judge r base) region there in
            (record { known = mine.known; at = mine.at; within = mine.within; blocks = mine.blocks }, tt)) brings.0) tt
          where
            no_false : true ≡ false → ⊥
            no_false e = cc

        view_added : (o : Option Memory) → WhereSome (MemoryStands shape v g c votes claims node.held) o → GoodPlan (option_map_or (λ m. staged_from shape node base.rec m) o (ignored node))
        view_added None there = tt
        view_added (Some m) there =
            way_with (bytes_eq (view_root shape m.replica.view) base.rec.header.root) (staged node base.rec m.replica.view.blocks) (ignored node) GoodPlan
            (λ pass.
            let o : Opened shape g c node.held m.replica.view = there.opened in
            let view : IsRightView node.held.session m.replica.view = view_right node.held stands.holds owns right m.replica.view o (opened_among shape g c node.held m.replica.view o).0 in
            let own : IsOwnBase shape key judge g (record { rec = base.rec; blocks = m.replica.view.blocks }) = record {
              known = brings.1.session;
              at = known_here shape key judge g c node.held stands.holds owns base.rec brings.1;
              own = own_here shape key judge g c node.held stands.holds owns base.rec brings.1 region;
            } in
            (staged_right strings none has node.held.session m.replica.view base.rec view own ((bytes_eq-Decides (view_root shape m.replica.view) base.rec.header.root).0 pass), tt))
            (λ differs. tt)

        anew_added : GoodPlan (staged_anew shape node base)
        anew_added = way_with (length base.blocks == 0) (option_map_or (λ m. staged_from shape node base.rec m) node.memory (ignored node)) (staged_whole shape node base) GoodPlan (λ empty. view_added node.memory stands.memory) whole_added

      stage_added : (base : Base) → BringsRight base → GoodPlan (by_stage shape g node base)
      unfolding by_stage
      stage_added base brings =
          way_with (is_staged_here g node base.rec.header) (option_map_or (λ held. staged_again node base.rec held) (base_held shape g base.rec.header.session node.held) (staged_anew shape node base)) (ignored node) GoodPlan
          (λ here. any_way GoodPlan (λ held. staged_again node base.rec held) (staged_anew shape node base) (base_held shape g base.rec.header.session node.held)
          (λ old. either_way (same_record old.rec base.rec) (says_staged node base.rec.header.session) (ignored node) GoodPlan tt tt)
          (anew_added base brings (eqb-true base.rec.header.region g (and_right (nat_lt node.held.session base.rec.header.session) (base.rec.header.region == g) here)))) (λ elsewhere. tt)

      client_added : (m : Message) → LetterRight sender.Client m → GoodPlan (from_client shape g node m)
      client_added (message.Part m) brings = in_session_added (by_part shape g m.rec) (part_added m.rec)
      client_added (message.Ask m) brings = in_session_added (by_ask shape g m) (ask_added m)
      client_added (message.Dump m) brings = in_session_added (by_dump g m) (dump_added m)
      client_added (message.Gather m) brings = gather_added m.session
      client_added (message.Stage m) brings = stage_added m.base brings
      client_added (message.Switch m) brings = switch_added m.session
      client_added (message.Prepared m) brings = tt
      client_added (message.Committed m) brings = tt
      client_added (message.Answer m) brings = tt
      client_added (message.Gathered m) brings = tt
      client_added (message.Staged m) brings = tt
      client_added (message.Switched m) brings = tt
      client_added (message.Dumped m) brings = tt

      node_added : (name : NodeName) (m : Message) → GoodPlan (from_node shape node name m)
      node_added name (message.Prepared m) = in_session_added (by_vote shape name m) (vote_added name m)
      node_added name (message.Committed m) = in_session_added (by_claim shape name m) (claim_added name m)
      node_added name (message.Part m) = tt
      node_added name (message.Ask m) = tt
      node_added name (message.Answer m) = tt
      node_added name (message.Gather m) = tt
      node_added name (message.Gathered m) = tt
      node_added name (message.Stage m) = tt
      node_added name (message.Staged m) = tt
      node_added name (message.Switch m) = tt
      node_added name (message.Switched m) = tt
      node_added name (message.Dump m) = tt
      node_added name (message.Dumped m) = tt

      result_added : (from : Sender) (r : Result Message MessageError) → ResultRight from r → GoodPlan (from_result shape g node from r)
      result_added sender.Client (Ok m) brings = client_added m brings
      result_added (sender.Node name) (Ok m) brings = either_way (is_node shape name) (from_node shape node name m) (ignored node) GoodPlan (node_added name m) tt
      result_added from (Err e) brings = tt

      -- each base that a handling adds is right
      pub planned_added : (input : Input) → InputRight input → GoodPlan (planned shape g node input)
      unfolding planned
      planned_added (Receives from bytes) brings = result_added from (message_at bytes) brings
      planned_added Ticks brings = in_session_added (by_tick shape) tick_added

    -- ---- a node

    module _ (strings : List (List ℕ)) (none : NoTwoCollide strings) (has : (known : Session) (e : ℕ) → known_at judge e ≡ Some known → HasContents shape strings known)
        (numbered : (r : ℕ) → v.honest r ≡ true → IsAmong (node_of shape r) (group_of shape (v.region r))) where
      abbrev Right : KnownNode → Type 0
      Right known = HoldsRight shape judge g known

      abbrev Tagged : Record → Type 0
      Tagged rec = IsTagged shape key judge rec

      one_right : (state : NodeState) (silent : Bool) → HasRight shape judge g state.held → Right (record { state = state; silent = silent; contents = state.held ∷ [] })
      one_right state silent right = record { held = right; each = λ held at. ⊎_elim (λ (same : held ≡ state.held). subst (λ (h : Held). HasRight shape judge g h) (sym same) right) (λ nothing. absurd nothing) at }

      input_right : (known : KnownNode) (input : Input) (failed : Bool) → NodeStands shape v g c votes claims known → Stands Tagged known → OfInput Tagged input → InputFits shape v c votes claims input → InputRight input → Right known
          → Right (after_input shape g known input failed)
      input_right known input failed stands owns of fits brings right =
          let state : NodeState = known.state in
          let h : Handled = handled shape g state input in
          let plan : PlanStands shape v g c votes claims state.held (planned shape g state input) = planned_stands shape v g c votes claims numbered state stands.state.holds stands.state.memory input fits in
          let through = right_through state.held h.changes stands.state.holds plan.reaches (contents_through_of Tagged shape state.held h.changes owns.held (planned_of Tagged shape g state input owns.kept of).changes)
          (planned_added strings none has state stands.state owns.held right.held input brings) right.held in
          either_way known.silent known (after_handling shape state h failed) Right right
          (either_way failed (silenced shape state h.changes) (speaking h.node) Right
          (record { held = right.held; each = λ held at. among_all (HasRight shape judge g) (contents_through shape state.held h.changes) held at through.0 }) (one_right h.node false through.1))

      handed_right : (known : KnownNode) (failed : Bool) (o : Option Input) → NodeStands shape v g c votes claims known → Stands Tagged known → OfSome (OfInput Tagged) o → HandedFits shape v c votes claims o → OfSome InputRight o → Right known
          → Right (option_map_or (λ input. after_input shape g known input failed) o known)
      handed_right known failed None stands owns of fits brings right = right
      handed_right known failed (Some input) stands owns of fits brings right = input_right known input failed stands owns of fits brings right

      reload_right : (known : KnownNode) (loaded : Option Held) → Right known → OfSome (HasRight shape judge g) loaded → Right (reloaded shape g known loaded)
      unfolding loaded_as
      reload_right known None right of = right
      reload_right known (Some held) right of = one_right (loaded_as shape g held) false of

      of_load : (known : KnownNode) (loaded : Option Held) → IsLoadOf known.contents loaded → Right known → OfSome (HasRight shape judge g) loaded
      of_load known None load right = absurd load
      of_load known (Some held) load right = right.each held load

      none_load : (loaded : Option Held) → loaded ≡ None → OfSome (HasRight shape judge g) loaded
      none_load loaded same = subst (λ (o : Option Held). OfSome (HasRight shape judge g) o) (sym same) tt

      blank_right : HasRight shape judge g nothing_held
      blank_right base among = absurd among

      loaded_right : (posts : List Posted) (known : KnownNode) (what : Handed) (failed : Bool) (loaded : Option Held) → LoadsRight shape g posts known what failed loaded → Right known → Right (after_handed shape g posts known what failed)
          → OfSome (HasRight shape judge g) loaded
      loaded_right posts known (handed.Deliver k) failed loaded loads right mid = none_load loaded loads
      loaded_right posts known (handed.Lie from bytes) failed loaded loads right mid = none_load loaded loads
      loaded_right posts known handed.Tick failed loaded loads right mid = none_load loaded loads
      loaded_right posts known (handed.Stop k) failed loaded loads right mid = of_load (after_handed shape g posts known (handed.Stop k) failed) loaded loads mid
      loaded_right posts known handed.Crash failed loaded loads right mid = of_load known loaded loads.1 right
      loaded_right posts known handed.Replace failed loaded loads right mid = subst (λ (o : Option Held). OfSome (HasRight shape judge g) o) (sym loads.1) blank_right
      loaded_right posts known (handed.Asked r) failed loaded loads right mid = none_load loaded loads.1
      loaded_right posts known handed.ClientCrash failed loaded loads right mid = none_load loaded loads.1

      pub step_right : (posts : List Posted) (known : KnownNode) (what : Handed) (failed : Bool) (loaded : Option Held) → LoadsRight shape g posts known what failed loaded → NodeStands shape v g c votes claims known → Stands Tagged known
          → OfSome (OfInput Tagged) (input_of posts what) → HandedFits shape v c votes claims (input_of posts what) → OfSome InputRight (input_of posts what) → Right known → Right (known_to shape g posts known what failed loaded)
      step_right posts known what failed loaded loads stands owns of fits brings right =
          let mid : Right (after_handed shape g posts known what failed) = handed_right known failed (input_of posts what) stands owns of fits brings right in
          reload_right (after_handed shape g posts known what failed) loaded mid (loaded_right posts known what failed loaded loads right mid)

-- ---- a step of the run

module _ (volume : Volume) (events : List Event) (posts : List Posted) (limits : IsWithinLimits (record { volume = volume; events = events })) (unlied : is_lied_for events sender.Client ≡ false) (history : List Past)
    (known : NodeName → KnownNode) (sent : ℕ) (reached : IsReached volume.geometry events posts history known sent) (sized : EachKnown (judge_of volume.geometry events history) (IsSized volume.geometry))
    (own : PostedOwn volume events posts (judge_of volume.geometry events history) sent) (stages : StagesRight volume.geometry posts (judge_of volume.geometry events history) sent) where
  abbrev shape : Shape
  shape = volume.geometry

  abbrev judge : Judge
  judge = judge_of volume.geometry events history

  module _ (name : NodeName) (inside : IsOfVolume volume.geometry name) where
    abbrev Brought : Sender → Result Message MessageError → Type 0
    Brought from r = ResultRight shape volume.key judge sized name.region inside.0 reached.now.client (volume_as shape events) reached.now.votes reached.now.claims from r

    client_brings : (k : ℕ) → (0 < k) × (k ≤ sent) → (post : Posted) → posted_at posts k ≡ Some post → post.from ≡ sender.Client → (m : Message) → message_at post.bytes ≡ Ok m → Brought sender.Client (Ok m)
    client_brings k before post at from (message.Stage m) read = (
      stages k before.0 before.1 post at from m read,
      own k before.0 before.1 m.base.rec
          (subst (λ (o : Option Posted). IsAmong m.base.rec (records_posted o)) (sym at)
          (subst (λ (who : Sender). IsAmong m.base.rec (if is_client who then records_of (message_at post.bytes) else [])) (sym from) (subst (λ (r : Result Message MessageError). IsAmong m.base.rec (records_of r)) (sym read) (inl refl)))),
    )
    client_brings k before post at from (message.Part m) read = tt
    client_brings k before post at from (message.Ask m) read = tt
    client_brings k before post at from (message.Gather m) read = tt
    client_brings k before post at from (message.Switch m) read = tt
    client_brings k before post at from (message.Dump m) read = tt
    client_brings k before post at from (message.Prepared m) read = tt
    client_brings k before post at from (message.Committed m) read = tt
    client_brings k before post at from (message.Answer m) read = tt
    client_brings k before post at from (message.Gathered m) read = tt
    client_brings k before post at from (message.Staged m) read = tt
    client_brings k before post at from (message.Switched m) read = tt
    client_brings k before post at from (message.Dumped m) read = tt

    post_brings : (k : ℕ) → (0 < k) × (k ≤ sent) → (post : Posted) → posted_at posts k ≡ Some post → (from : Sender) → post.from ≡ from → (r : Result Message MessageError) → message_at post.bytes ≡ r → Brought from r
    post_brings k before post at sender.Client from (Ok m) read = client_brings k before post at from m read
    post_brings k before post at (sender.Node other) from (Ok m) read = tt
    post_brings k before post at who from (Err e) read = tt

    lie_brings : (from : Sender) → is_lied_for events from ≡ true → (r : Result Message MessageError) → Brought from r
    lie_brings sender.Client lied r = absurd (false≢true (sym unlied ∙ lied))
    lie_brings (sender.Node other) lied (Ok m) = tt
    lie_brings (sender.Node other) lied (Err e) = tt

    abbrev InputBrings : Input → Type 0
    InputBrings input = InputRight shape volume.key judge sized name.region inside.0 reached.now.client (volume_as shape events) reached.now.votes reached.now.claims input

    option_brings : (k : ℕ) → (0 < k) × (k ≤ sent) → (o : Option Posted) → posted_at posts k ≡ o → OfSome InputBrings (option_map (λ m. input_of_post m) o)
    option_brings k before None at = tt
    option_brings k before (Some post) at = post_brings k before post at post.from refl (message_at post.bytes) refl

    handed_brings : (what : Handed) → IsHandedRight events sent what → OfSome InputBrings (input_of posts what)
    handed_brings (handed.Deliver k) right = option_brings k right (posted_at posts k) refl
    handed_brings (handed.Stop k) right = option_brings k right (posted_at posts k) refl
    handed_brings (handed.Lie from bytes) right = lie_brings from right (message_at bytes)
    handed_brings handed.Tick right = tt
    handed_brings handed.Crash right = tt
    handed_brings handed.Replace right = tt
    handed_brings (handed.Asked r) right = tt
    handed_brings handed.ClientCrash right = tt

    -- A step of the node keeps the blocks of its bases right.
    right_step : (strings : List (List ℕ)) → NoTwoCollide strings → ((x : List ℕ) → IsAmong x (known_strings shape judge) → IsAmong x strings) → (t : TraceStep) → IsNodeStep shape posts name (known name) sent t → IsHandedRight events sent t.handed
        → Owns volume events posts judge (known name) → HoldsRight shape judge name.region (known name) → HoldsRight shape judge name.region (known_to shape name.region posts (known name) t.handed t.failed t.loaded)
    right_step strings none within t step right owns holds =
        let w : World = reached.now in
        let has : (k : Session) (e : ℕ) → known_at judge e ≡ Some k → HasContents shape strings k = λ k e at s g x low region among. within x (has_contents shape judge k (known_among judge e k at) s g x low region among) in
        step_right shape volume.key judge sized name.region inside.0 w.client (volume_as shape events) w.votes w.claims strings none has (all_numbered shape limits.volume events) posts (known name) t.handed t.failed t.loaded step.loads
        (reached.stand name inside) owns (input_good volume events posts judge sent unlied own t.handed right) (handed_fits shape limits.volume events unlied posts sent w reached.matches.messages reached.clients t.handed right)
        (handed_brings t.handed right) holds

-- the same with the step's party
pub right_next : (volume : Volume) (events : List Event) (posts : List Posted) (limits : IsWithinLimits (record { volume = volume; events = events })) (unlied : is_lied_for events sender.Client ≡ false)
    (strings : List (List ℕ)) (none : NoTwoCollide strings) (history : List Past) (sized : EachKnown (judge_of volume.geometry events history) (IsSized volume.geometry)) (known : NodeName → KnownNode) (sent : ℕ)
    (reached : IsReached volume.geometry events posts history known sent)
    (name : NodeName) → IsOfVolume volume.geometry name → (t : TraceStep) → t.party ≡ sender.Node name → IsNodeStep volume.geometry posts name (known name) sent t → IsHandedRight events sent t.handed
    → Owns volume events posts (judge_of volume.geometry events history) (known name) → PostedOwn volume events posts (judge_of volume.geometry events history) sent
    → ((y : List ℕ) → IsAmong y (known_strings volume.geometry (judge_of volume.geometry events history)) → IsAmong y strings)
    → StagesRight volume.geometry posts (judge_of volume.geometry events history) sent → HoldsRight volume.geometry (judge_of volume.geometry events history) name.region (known name)
    → HoldsRight volume.geometry (judge_of volume.geometry events history) name.region (known_to volume.geometry name.region posts (known name) t.handed t.failed t.loaded)
right_next volume events posts limits unlied strings none history sized known sent reached name inside t party step handed owns posted seen stages right =
    right_step volume events posts limits unlied history known sent reached sized posted stages name inside strings none seen t step handed owns right
