-- In a quiet run a server answers whatever a client that opens a session asks it, if its view has its region's blocks where
-- the session starts from what is served.
use Rattle.std.proofs.Common.{◌≡◌, ◌⊎◌, ◌∙◌, inl, ⊎_elim, ℕ, ◌+◌, ◌^◌, ◌<◌, ◌≤◌, ◌==◌, ◌&&◌, Bool, true, false, if◌then◌else◌, List, [], Option, Some, refl, ap, sym, subst, arith, eq-eqb, eqb-true, pow_mono}
use Rattle.std.specs.Prelude.{length, bytes_eq}
use Rattle.std.specs.Option.{option_map_or}
use Rattle.std.specs.List.{AllByRecursion, list_all}
use Rattle.std.proofs.lemmas.Bool.{true≢false}
use Rattle.std.proofs.lemmas.Nat.{pow_pos}
use Rattle.std.proofs.lemmas.Slice.Eq.{bytes_eq-Decides}
use Rattle.salus_types.specs.Volume.{Shape, IsVolume, regions, region_blocks}
use Rattle.salus_types.specs.declared.names.NodeName.{NodeName}
use Rattle.salus_types.specs.declared.names.Sender.TheVariants as sender
use Rattle.salus_types.specs.declared.records.Base.{Base}
use Rattle.client_tag.specs.Ranges.{AreBlocks}
use Rattle.salus_message.specs.declared.carried.Dumped.{Dumped}
use Rattle.salus_message.specs.declared.small.Dump.{Dump}
use Rattle.salus_message.specs.declared.wire.Message.{Message}
use Rattle.salus_message.specs.declared.wire.Message.TheVariants as message
use Rattle.salus_message.specs.Ranges.{HasWidths}
use Rattle.salus_message.proofs.MessageLaws.{message_again}
use Rattle.merkle_region.specs.Tree.{root_of, IsAmong, NoTwoCollide}
use Rattle.schedule_text.specs.Limits.{IsOfVolume, IsWithinLimits}
use Rattle.schedule_text.specs.declared.schedule.Volume.{Volume}
use Rattle.schedule_text.specs.declared.schedule.Event.{Event}
use Rattle.holding_model.specs.Fitting.{has_shape}
use Rattle.volume_model.specs.Contents.{blocks_in, region_root}
use Rattle.salus_model.specs.Following.{Posted}
use Rattle.salus_model.specs.Hearing.{Past, judge_of}
use Rattle.salus_model.specs.Judge.{Judge}
use Rattle.salus_model.specs.Quiet.{is_quiet}
use Rattle.client_rules.specs.State as state
use Rattle.client_rules.specs.State.{Beginning}
use Rattle.client_rules.specs.Opening.{base_record, stage_letters, fetched_blocks}
use Rattle.replica_rules.specs.Views.{view_root}
use Rattle.replica_rules.specs.Nodes.{Memory, NodeState}
use Rattle.replica_rules.specs.Rules.{Sending, plan_of, ignored, quiet, in_session, dumped, by_dump}
use Rattle.run_rules.specs.Knowing.{KnownNode}
use Rattle.list_lemmas.proofs.Tests.{way_with, and_left, and_right}
use Rattle.law_lines.specs.Mirrors.{Mirrors, IsYoung}
use Rattle.law_prefix.specs.Numbers.{Mem}
use Rattle.kept_model.specs.Phases.{switches_of}
use Rattle.law_records.proofs.Counted.{both_true}
use Rattle.law_shown.proofs.Rereading.{all_long, sized_blocks}
use Rattle.law_kept.proofs.Along.{IsAlong}
use Rattle.law_covered.proofs.Right.{HasRight}
use Rattle.law_complete.proofs.OpeningKnown.{EachPlain}
use Rattle.law_complete.proofs.NodeOwes.{IsAnsweredBy, Answers}
use Rattle.law_complete.proofs.OpeningQuietly.{IsUnreplaced}
use Rattle.law_complete.proofs.Standing.{SaysBase, base_says, stage_to, gather_answered, switch_answered, region_whole, stage_answered}

-- ---- what a session that is staged started from

-- the bases of one region have its blocks, all others none
pub record IsFetched (volume : Volume) (b : Beginning) : Type 0 where
  pub region : ℕ
  pub blocks : List (List ℕ)
  pub bases : b.bases ≡ stage_letters volume b.session b.seq b.contents (fetched_blocks region blocks)
  pub shaped : has_shape volume.geometry blocks ≡ true
  pub root : root_of volume.geometry.height blocks ≡ region_root volume.geometry b.contents region

-- or every base has the blocks of its region
abbrev pub IsLaid : Volume → Beginning → Type 0
IsLaid volume b = (b.bases ≡ stage_letters volume b.session b.seq b.contents (λ r. blocks_in volume.geometry b.contents r)) ⊎ IsFetched volume b

abbrev pub Laid : Volume → state.Client → Type 0
Laid volume (state.Stages b) = IsLaid volume b
Laid volume (state.Gathers g) = Unit {0}
Laid volume (state.Fetches f) = Unit {0}
Laid volume (state.Switches b) = Unit {0}
Laid volume state.Closed = Unit {0}
Laid volume (state.Serves c) = Unit {0}

-- a session that is staged wasn't switched to
abbrev pub Unswitched : Shape → List Past → state.Client → Type 0
Unswitched shape history (state.Stages b) = Mem b.session (switches_of shape history) → ⊥
Unswitched shape history (state.Gathers g) = Unit {0}
Unswitched shape history (state.Fetches f) = Unit {0}
Unswitched shape history (state.Switches b) = Unit {0}
Unswitched shape history state.Closed = Unit {0}
Unswitched shape history (state.Serves c) = Unit {0}

-- a region whose blocks are fetched is one of the volume
abbrev pub Ranged : Shape → state.Client → Type 0
Ranged shape (state.Fetches f) = f.region < regions shape
Ranged shape (state.Stages b) = Unit {0}
Ranged shape (state.Gathers g) = Unit {0}
Ranged shape (state.Switches b) = Unit {0}
Ranged shape state.Closed = Unit {0}
Ranged shape (state.Serves c) = Unit {0}

-- ---- what a server's view has

-- the server has that session in memory, and its view has blocks with the region's root
pub record ShowsRegion (shape : Shape) (served : ℕ) (contents : List (List ℕ)) (g : ℕ) (node : NodeState) : Type 0 where
  pub m : Memory
  pub there : node.memory ≡ Some m
  pub session : m.replica.session ≡ served
  pub shaped : has_shape shape m.replica.view.blocks ≡ true
  pub root : view_root shape m.replica.view ≡ region_root shape contents g
  pub low : m.replica.view.number < 2 ^ 64

-- so it does where its region's blocks are fetched, and where a base without blocks is staged at it
abbrev pub Shows : Volume → state.Client → NodeName → NodeState → Type 0
Shows volume (state.Fetches f) name node = ShowsRegion volume.geometry f.served f.contents name.region node
Shows volume (state.Stages b) name node =
    (base : Base) → IsAmong (record { to = name; message = message.Stage (record { base = base }) }) b.bases → base.blocks ≡ [] → (served : ℕ) × ShowsRegion volume.geometry served b.contents name.region node
Shows volume (state.Gathers g) name node = Unit {0}
Shows volume (state.Switches b) name node = Unit {0}
Shows volume state.Closed name node = Unit {0}
Shows volume (state.Serves c) name node = Unit {0}

-- ---- blocks

shape_long : (shape : Shape) (blocks : List (List ℕ)) → has_shape shape blocks ≡ true → length blocks ≡ region_blocks shape
unfolding has_shape
shape_long shape blocks shaped = eqb-true (length blocks) (region_blocks shape) (and_left (length blocks == region_blocks shape) (list_all (λ x. length x == shape.block) blocks) shaped)

-- a region has blocks
pub some_blocks : (shape : Shape) (blocks : List (List ℕ)) → has_shape shape blocks ≡ true → (length blocks == 0) ≡ true → ⊥
some_blocks shape blocks shaped none =
    let long : length blocks ≡ region_blocks shape = shape_long shape blocks shaped in
    let many : 0 < region_blocks shape = pow_pos shape.height in
    let empty : length blocks ≡ 0 = eqb-true (length blocks) 0 none in
    omega (arith, long, many, empty)

-- they have a spelling
blocks_spelled : (shape : Shape) → IsVolume shape → (blocks : List (List ℕ)) → has_shape shape blocks ≡ true → AreBlocks blocks
unfolding has_shape
blocks_spelled shape limits blocks shaped =
    let few : 2 ^ shape.height ≤ 2 ^ 10 = pow_mono limits.low in
    let long : length blocks ≡ region_blocks shape = shape_long shape blocks shaped in
    sized_blocks shape limits blocks (omega (arith, few, long))
    (all_long shape.block blocks (and_right (length blocks == region_blocks shape) (list_all (λ x. length x == shape.block) blocks) shaped))

module _ (volume : Volume) (events : List Event) (posts : List Posted) (limits : IsWithinLimits (record { volume = volume; events = events })) (strings : List (List ℕ)) (none : NoTwoCollide strings)
    (quiet_run : list_all is_quiet events ≡ true) (history : List Past) (n top : ℕ) (c : state.Client) (known : NodeName → KnownNode) (sent : ℕ)
    (a : IsAlong volume events posts limits strings none history n top c known sent) (unreplaced : AllByRecursion IsUnreplaced history)
    (name : NodeName) (inside : IsOfVolume volume.geometry name) (speaks : (known name).silent ≡ false)
    (plain : EachPlain volume.geometry events (judge_of volume.geometry events history)) (right : HasRight volume.geometry (judge_of volume.geometry events history) name.region (known name).state.held) where
  abbrev shape : Shape
  shape = volume.geometry

  abbrev judge : Judge
  judge = judge_of volume.geometry events history

  abbrev node : NodeState
  node = (known name).state

  -- ---- the blocks of the region

  abbrev out_of : Memory → Sending
  out_of m = record { to = sender.Client; message = message.Dumped (record { session = m.replica.session; region = name.region; at = m.replica.view.number; blocks = m.replica.view.blocks }) }

  dump_sent : (m : Memory) (d : Dump) → node.memory ≡ Some m → d.session ≡ m.replica.session → d.region ≡ name.region → IsAmong (out_of m) (in_session node (by_dump name.region d)).outs
  unfolding by_dump
  dump_sent m d there session region =
      subst (λ (o : Option Memory). IsAmong (out_of m) (option_map_or (λ k. plan_of (by_dump name.region d k)) o (ignored node)).outs) (sym there)
      (way_with ((d.session == m.replica.session) && (d.region == name.region)) (dumped name.region m) (quiet m) (λ turn. IsAmong (out_of m) (plan_of turn).outs) (λ is. inl refl)
      (λ isnt. absurd (true≢false (sym (both_true (d.session == m.replica.session) (d.region == name.region) (eq-eqb d.session m.replica.session session) (eq-eqb d.region name.region region)) ∙ isnt))))

  dump_answered : (f : state.Fetching) → name.region ≡ f.region → HasWidths (message.Dump (record { session = f.served; region = f.region })) → ShowsRegion shape f.served f.contents name.region node
      → IsAnsweredBy shape (state.Fetches f) name node (message.Dump (record { session = f.served; region = f.region }))
  dump_answered f region widths shows =
      let m : Memory = shows.m in
      let d : Dumped = record { session = m.replica.session; region = name.region; at = m.replica.view.number; blocks = m.replica.view.blocks } in
      let root : List ℕ = region_root shape f.contents f.region in
      let same : root_of shape.height m.replica.view.blocks ≡ root = shows.root ∙ ap (λ (g : ℕ). region_root shape f.contents g) region in
      record {
        reply = message.Dumped d;
        sent = dump_sent m (record { session = f.served; region = f.region }) shows.there (sym shows.session) (sym region);
        again = message_again (message.Dumped d) (shaped_spelled m.replica.view.blocks shows.shaped)
            (subst (λ (e : ℕ). e < 2 ^ 64) (sym shows.session) widths.0, subst (λ (g : ℕ). g < 2 ^ 16) (sym region) widths.1, shows.low);
        of = (
          d,
          refl,
          both_true _ (bytes_eq (root_of shape.height m.replica.view.blocks) root)
              (both_true _ (has_shape shape m.replica.view.blocks)
              (both_true _ (name.region == f.region) (both_true (m.replica.session == f.served) (name.region == f.region) (eq-eqb m.replica.session f.served shows.session) (eq-eqb name.region f.region region)) (eq-eqb name.region f.region region))
              shows.shaped)
              ((bytes_eq-Decides (root_of shape.height m.replica.view.blocks) root).1 same),
        );
      }
    where
      shaped_spelled : (blocks : List (List ℕ)) → has_shape shape blocks ≡ true → AreBlocks blocks
      shaped_spelled blocks shaped = blocks_spelled shape limits.volume blocks shaped

  -- ---- a base

  abbrev Answered : Beginning → Message → Type 0
  Answered b m = IsAnsweredBy shape (state.Stages b) name node m

  stage_on : (b : Beginning) → c ≡ state.Stages b → IsLaid volume b → (Mem b.session (switches_of shape history) → ⊥) → Shows volume (state.Stages b) name node
      → (m : Message) → HasWidths m → IsAmong (record { to = name; message = m }) b.bases → Answered b m
  stage_on b is laid unswitched shows m widths among = ⊎_elim
      (λ (whole : b.bases ≡ stage_letters volume b.session b.seq b.contents (λ r. blocks_in shape b.contents r)).
      let blocks : List (List ℕ) = blocks_in shape b.contents name.region in
      let here : m ≡ message.Stage _ = (stage_to volume b.session b.seq b.contents (λ r. blocks_in shape b.contents r) name m (subst (λ l. IsAmong (record { to = name; message = m }) l) whole among)).is in
      let good = region_whole volume events posts limits strings none quiet_run history n top c known sent a unreplaced name inside speaks plain right b mirrors young unswitched in
      subst (Answered b) (sym here)
      (stage_answered volume events posts limits strings none quiet_run history n top c known sent a unreplaced name inside speaks plain right b mirrors young unswitched blocks
      (λ empty. absurd (some_blocks shape blocks good.0 empty)) (λ some. good) (subst HasWidths here widths).header_typed.session_width))
      (λ (fetched : IsFetched volume b). by fetched (name.region == fetched.region) refl) laid
    where
      mirrors : Mirrors volume history judge n (state.Stages b)
      mirrors = subst (λ (k : state.Client). Mirrors volume history judge n k) is a.holds.mirrors

      young : judge.now.session < b.session
      young = (subst (λ (k : state.Client). IsYoung judge (top + 1) k) is a.holds.young).0

      says : SaysBase volume b.session b.seq b.contents name.region
      says = base_says volume b.session b.seq b.contents name.region

      by : (fetched : IsFetched volume b) (own : Bool) → (name.region == fetched.region) ≡ own → Answered b m
      by fetched true same =
          let region : name.region ≡ fetched.region = eqb-true name.region fetched.region same in
          let blocks : List (List ℕ) = fetched.blocks in
          let there : m ≡ message.Stage _ = (stage_to volume b.session b.seq b.contents (fetched_blocks fetched.region fetched.blocks) name m (subst (λ l. IsAmong (record { to = name; message = m }) l) fetched.bases among)).is in
          let here : m ≡ message.Stage (record { base = record { rec = base_record volume b.session b.seq b.contents name.region; blocks = blocks } }) = there ∙ ap (λ (t : Bool). message.Stage (record { base = record { rec = base_record volume b.session b.seq b.contents name.region; blocks = if t then fetched.blocks else [] } })) same in
          subst (Answered b) (sym here)
          (stage_answered volume events posts limits strings none quiet_run history n top c known sent a unreplaced name inside speaks plain right b mirrors young unswitched blocks
          (λ empty. absurd (some_blocks shape blocks fetched.shaped empty))
          (λ some. (fetched.shaped, fetched.root ∙ (ap (λ (g : ℕ). region_root shape b.contents g) (sym region) ∙ sym says.root))) (subst HasWidths here widths).header_typed.session_width)
      by fetched false other =
          let there : m ≡ message.Stage _ = (stage_to volume b.session b.seq b.contents (fetched_blocks fetched.region fetched.blocks) name m (subst (λ l. IsAmong (record { to = name; message = m }) l) fetched.bases among)).is in
          let here : m ≡ message.Stage (record { base = record { rec = base_record volume b.session b.seq b.contents name.region; blocks = [] } }) = there ∙ ap (λ (t : Bool). message.Stage (record { base = record { rec = base_record volume b.session b.seq b.contents name.region; blocks = if t then fetched.blocks else [] } })) other in
          let view = shows (record { rec = base_record volume b.session b.seq b.contents name.region; blocks = [] }) (subst (λ (k : Message). IsAmong (record { to = name; message = k }) b.bases) here among) refl in
          subst (Answered b) (sym here)
          (stage_answered volume events posts limits strings none quiet_run history n top c known sent a unreplaced name inside speaks plain right b mirrors young unswitched []
          (λ empty. (view.1.m, view.1.there, view.1.root ∙ sym says.root)) (λ some. absurd (true≢false some)) (subst HasWidths here widths).header_typed.session_width)

  -- ---- any phase

  pub answers : Laid volume c → Unswitched shape history c → Shows volume c name node → Answers shape c name node
  answers laid unswitched shows = by c refl where
    by : (d : state.Client) → c ≡ d → Answers shape d name node
    by (state.Gathers g) is m counts widths asks =
        subst (IsAnsweredBy shape (state.Gathers g) name node) (sym asks)
        (gather_answered volume events posts limits strings none quiet_run history n top c known sent a unreplaced name inside speaks plain right g (subst HasWidths asks widths))
    by (state.Switches b) is m counts widths asks =
        subst (IsAnsweredBy shape (state.Switches b) name node) (sym asks)
        (switch_answered volume events posts limits strings none quiet_run history n top c known sent a unreplaced name inside speaks plain right b (subst (λ (k : state.Client). Mirrors volume history judge n k) is a.holds.mirrors) (subst HasWidths asks widths))
    by (state.Fetches f) is m counts widths asks =
        subst (IsAnsweredBy shape (state.Fetches f) name node) (sym asks.1)
        (dump_answered f asks.0 (subst HasWidths asks.1 widths) (subst (λ (k : state.Client). Shows volume k name node) is shows))
    by (state.Stages b) is m counts widths asks =
        stage_on b is (subst (Laid volume) is laid) (subst (Unswitched shape history) is unswitched) (subst (λ (k : state.Client). Shows volume k name node) is shows) m widths asks
    by state.Closed is m counts widths asks = absurd asks
    by (state.Serves s) is m counts widths asks = absurd asks
