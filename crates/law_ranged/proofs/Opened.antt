-- A client that opens a session keeps to its bounds, and so do the letters that it sends.
use Rattle.std.proofs.Common.{◌≡◌, ◌∙◌, ℕ, zero, suc, ◌+◌, ◌^◌, ◌<◌, ◌≤◌, Bool, true, false, ◌==◌, ◌&&◌, not, nat_lt, nat_le, if◌then◌else◌, List, [], ◌∷◌, ◌++◌, map, take, drop, replicate, length, bytes_eq, Option, None, Some, refl, arith, eqb-true}
use Rattle.std.specs.Prelude.{filter, find, flat_map}
use Rattle.std.specs.List.{AllByRecursion, list_all}
use Rattle.std.proofs.lemmas.Bool.{leb-true}
use Rattle.std.proofs.lemmas.List.{length-replicate}
use Rattle.salus_types.specs.Volume.{Shape, regions, region_blocks, IsVolume}
use Rattle.salus_types.specs.declared.names.NodeName.{NodeName}
use Rattle.salus_types.specs.declared.records.PlaceWrite.{PlaceWrite}
use Rattle.salus_types.specs.declared.records.Trim.{Trim}
use Rattle.salus_types.specs.declared.records.Header.{Header}
use Rattle.salus_types.specs.declared.records.Record.{Record}
use Rattle.salus_types.specs.declared.records.Base.{Base}
use Rattle.salus_types.specs.declared.records.Held.{Held}
use Rattle.salus_message.specs.declared.carried.Gathered.{Gathered}
use Rattle.salus_message.specs.declared.carried.Dumped.{Dumped}
use Rattle.salus_message.specs.declared.wire.Message.{Message}
use Rattle.salus_message.specs.declared.wire.Message.TheVariants as message
use Rattle.merkle_region.specs.Tree.{root_of}
use Rattle.client_tag.specs.Ranges.{AreBlocks}
use Rattle.client_tag.specs.Tags.{is_genuine}
use Rattle.schedule_text.specs.Limits.{IsOfVolume}
use Rattle.schedule_text.specs.declared.schedule.Volume.{Volume}
use Rattle.printed_lines.specs.declared.line.Line.{Line}
use Rattle.printed_lines.specs.declared.line.Line.TheVariants as line
use Rattle.printed_lines.specs.declared.line.RequestRefusal.TheVariants as refusal
use Rattle.holding_model.specs.Fitting.{ascends_from, writes_fit, run_fits, record_fits, blocks_written, blocks_zeroed, blocks_after, has_shape}
use Rattle.volume_model.specs.Contents.{all_regions, region_root, blocks_in}
use Rattle.volume_model.specs.Groups.{group_of, all_nodes}
use Rattle.volume_model.specs.Recovering.{header_fits, record_counts, base_counts, Pool, End, is_of, base_end, is_link, linked, chain_ends, ends_of, blocks_up_to, picks, choices_of, has_top, recovered, choice_of}
use Rattle.salus_model.specs.declared.trace.Request.{Request}
use Rattle.salus_model.specs.declared.trace.Request.TheVariants as request
use Rattle.salus_model.specs.Hearing.{News, Asks, Says, Crashes, Silence}
use Rattle.salus_model.specs.Opening.{headers_in, is_fetched}
use Rattle.client_rules.specs.State as state
use Rattle.client_rules.specs.State.{Letter, Told, ignored, only_lines, to_all}
use Rattle.client_rules.specs.Opening.{has_answered, with_name, all_answered, not_answered, new_serving, base_record, stage_letters, staged_from, restarted, with_held, with_reply_of, joined_blocks, chosen, gathered_all, gathered_here, fetched_blocks, dumped_here, staged_by, staged_here, switched_by, switched_here}
use Rattle.client_rules.specs.Rules.{new_client, requested_away, requested, told_gathering, told_fetching, told_staging, told_switching, received, ticked, told}
use Rattle.list_lemmas.proofs.Each.{either_way, all_both, all_filter, all_map, all_each, all_then, OfSome, found_of_all, all_pass, flat_of_all, each_replicate}
use Rattle.list_lemmas.proofs.Members.{among_all}
use Rattle.list_lemmas.proofs.Tests.{and_left, and_right, way_with}
use Rattle.law_history.proofs.Chosen.{choice_among}
use Rattle.law_shown.proofs.Rereading.{all_long, sized_blocks}
use Rattle.law_ranged.specs.Ranging.{IsSentWithin}
use Rattle.law_ranged.proofs.Sized.{each_take, each_drop, each_set, Sized, few_places, few_regions, each_region, zero_sized, region_spelled, group_within, nodes_within}
use Rattle.law_ranged.proofs.Recorded.{base_spelled}
use Rattle.law_ranged.proofs.Bounded.{RequestFits, BaseSized, PartFitting, HeaderLow, PoolFits, BeginningFits, FetchingFits, ClientFits, ToldFits, client_wider, to_all_within}
use Rattle.law_ranged.proofs.Served.{requested_fits, serving_told, serving_ticked}

-- ---- what counts of a reply

module _ (shape : Shape) where
  low_header : (h : Header) → header_fits shape h ≡ true → h.seq ≤ 2 ^ 63
  unfolding header_fits
  low_header h fits = leb-true h.seq (2 ^ 63) (and_right _ (nat_le h.seq (2 ^ 63)) fits)

  shaped_long : (blocks : List (List ℕ)) → has_shape shape blocks ≡ true → (length blocks ≡ region_blocks shape) × Sized shape blocks
  unfolding has_shape
  shaped_long blocks shaped = (
    eqb-true (length blocks) (region_blocks shape) (and_left (length blocks == region_blocks shape) (list_all (λ x. length x == shape.block) blocks) shaped),
    all_long shape.block blocks (and_right (length blocks == region_blocks shape) (list_all (λ x. length x == shape.block) blocks) shaped),
  )

  module _ (key : List ℕ) where
    counted_header : (rec : Record) → record_counts shape key rec ≡ true → rec.header.seq ≤ 2 ^ 63
    counted_header rec counts =
        low_header rec.header (and_right (is_genuine key rec) (header_fits shape rec.header) (and_left (is_genuine key rec && header_fits shape rec.header) (record_fits shape rec) counts))

    counted_part : (rec : Record) → record_counts shape key rec ≡ true → record_fits shape rec ≡ true
    counted_part rec counts = and_right (is_genuine key rec && header_fits shape rec.header) (record_fits shape rec) counts

    counted_base : (base : Base) → base_counts shape key base ≡ true → (record_counts shape key base.rec ≡ true) × Sized shape base.blocks
    counted_base base counts =
        let front = and_left (record_counts shape key base.rec && has_shape shape base.blocks) (bytes_eq (root_of shape.height base.blocks) base.rec.header.root) counts in
        (and_left (record_counts shape key base.rec) (has_shape shape base.blocks) front, (shaped_long base.blocks (and_right (record_counts shape key base.rec) (has_shape shape base.blocks) front)).1)

    pool_fits : (held : Held) (pool : Pool) → PoolFits shape pool → PoolFits shape (with_held shape key held pool)
    pool_fits held pool f =
        let bases : List Base = filter (λ base. base_counts shape key base) held.bases in
        let parts : List Record = filter (λ rec. record_counts shape key rec) held.parts in
        let base_pass : AllByRecursion (λ base. base_counts shape key base ≡ true) bases = all_pass (λ base. base_counts shape key base) held.bases in
        let part_pass : AllByRecursion (λ rec. record_counts shape key rec ≡ true) parts = all_pass (λ rec. record_counts shape key rec) held.parts in
        record {
          bases = all_both (BaseSized shape) pool.bases bases f.bases (all_then (λ base. base_counts shape key base ≡ true) (BaseSized shape) (λ base counts. (counted_base base counts).1) bases base_pass);
          parts = all_both (PartFitting shape) pool.parts parts f.parts (all_then (λ rec. record_counts shape key rec ≡ true) (PartFitting shape) counted_part parts part_pass);
          headers = all_both (HeaderLow shape) pool.headers (headers_in shape key held) f.headers
              (all_both (HeaderLow shape) (map (λ base. base.rec.header) bases) (map (λ rec. rec.header) parts)
              (all_map (HeaderLow shape) (λ base. base.rec.header) bases
              (all_then (λ base. base_counts shape key base ≡ true) (λ base. HeaderLow shape base.rec.header) (λ base counts. counted_header base.rec (counted_base base counts).0) bases base_pass))
              (all_map (HeaderLow shape) (λ rec. rec.header) parts (all_then (λ rec. record_counts shape key rec ≡ true) (λ rec. HeaderLow shape rec.header) counted_header parts part_pass)));
        }

  -- ---- what is recovered

  written_sized : (writes : List PlaceWrite) (blocks : List (List ℕ)) → list_all (λ w. nat_lt w.place (region_blocks shape) && (length w.bytes == shape.block)) writes ≡ true → Sized shape blocks
      → Sized shape (blocks_written blocks writes)
  unfolding blocks_written
  written_sized [] blocks fit all = all
  written_sized (w ∷ writes) blocks fit all =
      let first : (nat_lt w.place (region_blocks shape) && (length w.bytes == shape.block)) ≡ true = and_left _ (list_all (λ v. nat_lt v.place (region_blocks shape) && (length v.bytes == shape.block)) writes) fit in
      let long : length w.bytes ≡ shape.block = eqb-true (length w.bytes) shape.block (and_right (nat_lt w.place (region_blocks shape)) (length w.bytes == shape.block) first) in
      written_sized writes _ (and_right (nat_lt w.place (region_blocks shape) && (length w.bytes == shape.block)) _ fit) (each_set (λ x. length x ≡ shape.block) blocks w.place w.bytes all long)

  zeroed_sized : (o : Option Trim) (blocks : List (List ℕ)) → Sized shape blocks → Sized shape (blocks_zeroed shape blocks o)
  zeroed_sized None blocks all = all
  zeroed_sized (Some t) blocks all =
      let P : List ℕ → Type 0 = λ x. length x ≡ shape.block in
      all_both P (take t.place blocks ++ replicate (2 ^ t.log) (replicate shape.block 0)) (drop (t.place + 2 ^ t.log) blocks)
      (all_both P (take t.place blocks) (replicate (2 ^ t.log) (replicate shape.block 0)) (each_take P t.place blocks all)
      (each_replicate P (2 ^ t.log) (replicate shape.block 0) (length-replicate shape.block 0)))
      (each_drop P (t.place + 2 ^ t.log) blocks all)

  after_sized : (blocks : List (List ℕ)) (rec : Record) → Sized shape blocks → record_fits shape rec ≡ true → Sized shape (blocks_after shape blocks rec)
  unfolding record_fits
  after_sized blocks rec all fits =
      let writes : writes_fit shape rec.writes ≡ true = and_left (writes_fit shape rec.writes) (run_fits shape rec.run) fits in
      zeroed_sized rec.run (blocks_written blocks rec.writes) (written_sized rec.writes blocks (and_right (ascends_from 0 (map (λ w. w.place) rec.writes)) _ writes) all)

  abbrev EndSized : End → Type 0
  EndSized end = Sized shape end.blocks

  linked_sized : (parts : List Record) (end : End) → AllByRecursion (PartFitting shape) parts → EndSized end → AllByRecursion EndSized (linked shape parts end)
  linked_sized parts end all sized =
      let some : List Record = filter (λ rec. is_link shape end rec) parts in
      let next : Record → End = λ rec. record { at = rec.header.seq; blocks = blocks_after shape end.blocks rec } in
      all_map EndSized next some (all_then (PartFitting shape) (λ rec. EndSized (next rec)) (λ rec fits. after_sized end.blocks rec sized fits) some (all_filter (PartFitting shape) (λ rec. is_link shape end rec) parts all))

  chains_sized : (bases : List Base) (parts : List Record) (n : ℕ) → AllByRecursion (BaseSized shape) bases → AllByRecursion (PartFitting shape) parts → AllByRecursion EndSized (chain_ends shape bases parts n)
  unfolding chain_ends
  chains_sized bases parts zero of all = all_map EndSized base_end bases of
  chains_sized bases parts (suc n) of all =
      let before : List End = chain_ends shape bases parts n in
      all_both EndSized (map base_end bases) (flat_map (λ end. linked shape parts end) before) (all_map EndSized base_end bases of)
      (flat_of_all EndSized (λ end. linked shape parts end) before
      (all_then EndSized (λ end. AllByRecursion EndSized (linked shape parts end)) (λ end sized. linked_sized parts end all sized) before (chains_sized bases parts n of all)))

  -- the blocks of each region
  abbrev EachSized : List (List (List ℕ)) → Type 0
  EachSized regions = AllByRecursion (Sized shape) regions

  picks_sized : (choices : List (List (List (List ℕ)))) → AllByRecursion EachSized choices → AllByRecursion EachSized (picks choices)
  unfolding picks
  picks_sized [] all = (tt, tt)
  picks_sized (xs ∷ others) all =
      let rest : AllByRecursion EachSized (picks others) = picks_sized others all.1 in
      flat_of_all EachSized (λ x. map (λ more. x ∷ more) (picks others)) xs
      (all_then (Sized shape) (λ x. AllByRecursion EachSized (map (λ more. x ∷ more) (picks others)))
      (λ x sized. all_map EachSized (λ more. x ∷ more) (picks others) (all_then EachSized (λ more. EachSized (x ∷ more)) (λ more each. (sized, each)) (picks others) rest)) xs all.0)

  module _ (pool : Pool) (f : PoolFits shape pool) where
    up_to_sized : (e g x : ℕ) → EachSized (blocks_up_to shape pool e g x)
    unfolding ends_of
    up_to_sized e g x =
        let bases : List Base = filter (λ base. is_of e g base.rec.header) pool.bases in
        let parts : List Record = filter (λ rec. is_of e g rec.header) pool.parts in
        let ends : AllByRecursion EndSized (ends_of shape pool e g) =
        chains_sized bases parts (length pool.parts) (all_filter (BaseSized shape) (λ base. is_of e g base.rec.header) pool.bases f.bases) (all_filter (PartFitting shape) (λ rec. is_of e g rec.header) pool.parts f.parts) in
        let some : List End = filter (λ end. end.at == x) (ends_of shape pool e g) in
        all_map (Sized shape) (λ end. end.blocks) some (all_filter EndSized (λ end. end.at == x) (ends_of shape pool e g) ends)

    recovered_sized : (h : Header) → OfSome EachSized (recovered shape pool h)
    unfolding recovered
    recovered_sized h =
        found_of_all EachSized (λ pick. has_top shape h pick) (picks (choices_of shape pool h))
        (picks_sized (choices_of shape pool h)
        (all_map EachSized (λ g. blocks_up_to shape pool h.session g _) (all_regions shape) (all_each _ (all_regions shape) (λ g. up_to_sized h.session g _))))

    joined_sized : (o : Option (List (List (List ℕ)))) → OfSome EachSized o → Sized shape (joined_blocks o)
    joined_sized None none = tt
    joined_sized (Some regions) each = flat_of_all (λ x. length x ≡ shape.block) (λ blocks. blocks) regions each

    choice_low : (o : Option Header) → choice_of shape pool ≡ o → OfSome (HeaderLow shape) o
    choice_low None is = tt
    choice_low (Some h) is = among_all (HeaderLow shape) pool.headers h (choice_among shape pool h is).0 f.headers

-- the client of a formatted volume
pub new_fits : (shape : Shape) → IsVolume shape → ClientFits shape 1 (new_client shape)
new_fits shape limits = (
  record {
    session = omega arith;
    last = omega arith;
    numbers = all_map (λ n. n < 2 ^ 64) (λ g. 0) (all_regions shape) (all_each (λ g. 0 < 2 ^ 64) (all_regions shape) (λ g. omega arith));
    contents = zero_sized shape limits;
    leader = omega arith;
    unacked = tt;
    line = tt;
    reads = tt;
    asked = tt;
  },
  tt,
)

-- ---- the phases

module _ (volume : Volume) (limits : IsVolume volume.geometry) (b : ℕ) (some : 1 ≤ b) (small : b ≤ 2 ^ 33) where
  abbrev shape : Shape
  shape = volume.geometry

  abbrev Fits : Told → Type 0
  Fits answer = ToldFits shape b answer

  quiet : (c : state.Client) (lines : List Line) → ClientFits shape b c → Fits (only_lines c lines)
  quiet c lines f = record { client = f; outs = tt }

  -- ---- a session is staged

  staged_fits : (e from seq : ℕ) (contents : List (List ℕ)) (carried : ℕ → List (List ℕ)) → e < 2 ^ 64 → seq < 2 ^ 63 + b → Sized shape contents → ((g : ℕ) → AreBlocks (carried g))
      → Fits (staged_from volume e from seq contents carried)
  staged_fits e from seq contents carried session low sized blocks =
      let letters : AllByRecursion (IsSentWithin shape) (stage_letters volume e seq contents carried) =
      flat_of_all (IsSentWithin shape) (λ g. to_all (group_of shape g) (message.Stage (record { base = record { rec = base_record volume e seq contents g; blocks = carried g } }))) (all_regions shape)
      (all_then (λ g. g < regions shape) (λ g. AllByRecursion (IsSentWithin shape) (to_all (group_of shape g) (message.Stage (record { base = record { rec = base_record volume e seq contents g; blocks = carried g } }))))
      (λ g inside.
      let spelled = base_spelled volume limits e seq contents g session (omega (arith, low, small)) inside in
      to_all_within shape (group_of shape g) (message.Stage (record { base = record { rec = base_record volume e seq contents g; blocks = carried g } })) (group_within shape limits g inside)
      (record { its_record = spelled.counts; its_blocks = blocks g }) spelled.widths) (all_regions shape) (each_region shape limits)) in
      record { client = record { session = session; seq = low; contents = sized; bases = letters }; outs = letters }

  -- ---- gathering

  chosen_fits : (g : state.Gathering) → ClientFits shape b (state.Gathers g) → (o : Option Header) → OfSome (HeaderLow shape) o → Fits (chosen volume g o)
  chosen_fits g f None none = quiet state.Closed (line.Lost g.session ∷ []) tt
  chosen_fits g f (Some h) low =
      let contents : List (List ℕ) = joined_blocks (recovered shape g.pool h) in
      let sized : Sized shape contents = joined_sized shape g.pool f.1 (recovered shape g.pool h) (recovered_sized shape g.pool f.1 h) in
      staged_fits g.session h.session h.seq contents (λ r. blocks_in shape contents r) f.0 (omega (arith, low, some)) sized (λ r. region_spelled shape limits contents r sized)

  all_fits : (g : state.Gathering) → ClientFits shape b (state.Gathers g) → Fits (gathered_all volume g)
  all_fits g f =
      either_way (all_answered shape g.answered) (chosen volume g (choice_of shape g.pool)) (ignored (state.Gathers g)) Fits
      (chosen_fits g f (choice_of shape g.pool) (choice_low shape g.pool f.1 (choice_of shape g.pool) refl)) (quiet (state.Gathers g) [] f)

  reply_fits : (g : state.Gathering) (name : NodeName) (held : Held) → ClientFits shape b (state.Gathers g) → ClientFits shape b (state.Gathers (with_reply_of volume name held g))
  reply_fits g name held f =
      either_way (has_answered name g.answered) g (record g { answered = g.answered ++ name ∷ []; pool = with_held shape volume.key held g.pool }) (λ (x : state.Gathering). ClientFits shape b (state.Gathers x)) f
      (f.0, pool_fits shape volume.key held g.pool f.1)

  gathering_told : (g : state.Gathering) (name : NodeName) (m : Message) → ClientFits shape b (state.Gathers g) → Fits (told_gathering volume g name m)
  unfolding gathered_here
  gathering_told g name (message.Gathered m) f =
      either_way (m.session == g.session) (gathered_all volume (with_reply_of volume name m.held g)) (ignored (state.Gathers g)) Fits
      (all_fits (with_reply_of volume name m.held g) (reply_fits g name m.held f)) (quiet (state.Gathers g) [] f)
  gathering_told g name other f = quiet (state.Gathers g) [] f

  -- ---- fetching

  fetched_spelled : (f : state.Fetching) (name : NodeName) (m : Dumped) → is_fetched shape f.served f.region (region_root shape f.contents f.region) name m ≡ true
      → (g : ℕ) → AreBlocks (fetched_blocks f.region m.blocks g)
  fetched_spelled f name m pass g =
      let root : List ℕ = region_root shape f.contents f.region in
      let front = and_left _ (bytes_eq (root_of shape.height m.blocks) root) pass in
      let shaped : has_shape shape m.blocks ≡ true = and_right _ (has_shape shape m.blocks) front in
      let long = shaped_long shape m.blocks shaped in
      let count = long.0 in
      let few : region_blocks shape ≤ 1024 = few_places shape limits in
      either_way (g == f.region) m.blocks [] (λ l. AreBlocks l) (sized_blocks shape limits m.blocks (omega (arith, count, few)) long.1) (sized_blocks shape limits [] (omega arith) tt)

  fetching_told : (f : state.Fetching) (name : NodeName) (m : Message) → FetchingFits shape b f → Fits (told_fetching volume f name m)
  unfolding dumped_here
  fetching_told f name (message.Dumped m) fits =
      way_with (is_fetched shape f.served f.region (region_root shape f.contents f.region) name m) (staged_from volume f.session f.served f.last f.contents (fetched_blocks f.region m.blocks)) (ignored (state.Fetches f)) Fits
      (λ pass. staged_fits f.session f.served f.last f.contents (fetched_blocks f.region m.blocks) fits.session fits.last fits.contents (fetched_spelled f name m pass)) (λ fail. quiet (state.Fetches f) [] fits)
  fetching_told f name other fits = quiet (state.Fetches f) [] fits

  -- ---- staging and switching

  switch_letters : (names : List NodeName) (e : ℕ) → AllByRecursion (IsOfVolume shape) names → e < 2 ^ 64 → AllByRecursion (IsSentWithin shape) (to_all names (message.Switch (record { session = e })))
  switch_letters names e of low = to_all_within shape names (message.Switch (record { session = e })) of tt low

  begun : (g : state.Beginning) (answered : List NodeName) → BeginningFits shape b g → BeginningFits shape b (record g { answered = answered })
  begun g answered f = record { session = f.session; seq = f.seq; contents = f.contents; bases = f.bases }

  staged_by_fits : (g : state.Beginning) → BeginningFits shape b g → Fits (staged_by shape g)
  staged_by_fits g f =
      either_way (all_answered shape g.answered)
      (record { client = state.Switches (record g { answered = [] }); outs = to_all (all_nodes shape) (message.Switch (record { session = g.session })); lines = [] }) (ignored (state.Stages g)) Fits
      (record { client = begun g [] f; outs = switch_letters (all_nodes shape) g.session (nodes_within shape limits) f.session }) (quiet (state.Stages g) [] f)

  staging_told : (g : state.Beginning) (name : NodeName) (m : Message) → BeginningFits shape b g → Fits (told_staging shape g name m)
  unfolding staged_here
  staging_told g name (message.Staged m) f =
      either_way (m.session == g.session) (staged_by shape (record g { answered = with_name name g.answered })) (ignored (state.Stages g)) Fits
      (staged_by_fits (record g { answered = with_name name g.answered }) (begun g (with_name name g.answered) f)) (quiet (state.Stages g) [] f)
  staging_told g name other f = quiet (state.Stages g) [] f

  opened_fits : (g : state.Beginning) → BeginningFits shape b g → ClientFits shape b (state.Serves (new_serving shape g.session g.seq g.contents))
  opened_fits g f =
      let low = f.seq in (
        record {
          session = f.session;
          last = omega (arith, low);
          numbers = all_map (λ n. n < 2 ^ 64) (λ r. g.seq) (all_regions shape) (all_each (λ r. g.seq < 2 ^ 64) (all_regions shape) (λ r. omega (arith, low, small)));
          contents = f.contents;
          leader = omega arith;
          unacked = tt;
          line = tt;
          reads = tt;
          asked = tt;
        },
        tt,
      )

  switched_by_fits : (g : state.Beginning) → BeginningFits shape b g → Fits (switched_by shape g)
  switched_by_fits g f =
      either_way (all_answered shape g.answered) (record { client = state.Serves (new_serving shape g.session g.seq g.contents); outs = []; lines = line.Open g.session ∷ [] }) (ignored (state.Switches g)) Fits
      (record { client = opened_fits g f; outs = tt }) (quiet (state.Switches g) [] f)

  switching_told : (g : state.Beginning) (name : NodeName) (m : Message) → BeginningFits shape b g → Fits (told_switching shape g name m)
  unfolding switched_here
  switching_told g name (message.Switched m) f =
      either_way (m.session == g.session) (switched_by shape (record g { answered = with_name name g.answered })) (ignored (state.Switches g)) Fits
      (switched_by_fits (record g { answered = with_name name g.answered }) (begun g (with_name name g.answered) f)) (quiet (state.Switches g) [] f)
  switching_told g name other f = quiet (state.Switches g) [] f

  -- ---- any message, and any tick

  said_fits : (c : state.Client) (name : NodeName) (m : Message) → IsOfVolume shape name → ClientFits shape b c → Fits (received volume c name m)
  unfolding received
  said_fits (state.Serves c) name m of f = serving_told volume limits b small c f.0 f.1 name m of
  said_fits state.Closed name m of f = quiet state.Closed [] f
  said_fits (state.Gathers g) name m of f = gathering_told g name m f
  said_fits (state.Fetches g) name m of f = fetching_told g name m f
  said_fits (state.Stages g) name m of f = staging_told g name m f
  said_fits (state.Switches g) name m of f = switching_told g name m f

  -- news that is no request, and whose sender is of the volume
  abbrev pub NewsWithin : News → Type 0
  NewsWithin (Asks r) = ⊥
  NewsWithin (Says name m) = IsOfVolume shape name
  NewsWithin other = Unit {0}

  pub told_fits : (c : state.Client) (v : ℕ) (x : News) → NewsWithin x → ClientFits shape b c → Fits (told volume c v x)
  unfolding told
  told_fits c v (Asks r) none f = absurd none
  told_fits c v (Says name m) of f = said_fits c name m of f
  told_fits c v Crashes of f = quiet state.Closed [] tt
  told_fits c v Silence of f = quiet c [] f

  pub ticked_fits : (c : state.Client) → ClientFits shape b c → AllByRecursion (IsSentWithin shape) (ticked shape c)
  unfolding ticked
  ticked_fits (state.Serves c) f = serving_ticked volume limits b small c f.0 f.1
  ticked_fits state.Closed f = tt
  ticked_fits (state.Gathers g) f =
      to_all_within shape (not_answered shape g.answered) (message.Gather (record { session = g.session })) (all_filter (IsOfVolume shape) (λ name. not (has_answered name g.answered)) (all_nodes shape) (nodes_within shape limits)) tt f.0
  ticked_fits (state.Fetches g) f =
      let inside = f.region in let many = few_regions shape limits in
      to_all_within shape (group_of shape g.region) (message.Dump (record { session = g.served; region = g.region })) (group_within shape limits g.region f.region) tt (f.served, omega (arith, inside, many))
  ticked_fits (state.Stages g) f = all_filter (IsSentWithin shape) (λ l. not (has_answered l.to g.answered)) g.bases f.bases
  ticked_fits (state.Switches g) f =
      switch_letters (not_answered shape g.answered) g.session (all_filter (IsOfVolume shape) (λ name. not (has_answered name g.answered)) (all_nodes shape) (nodes_within shape limits)) f.session

  -- ---- a request, of event v

  module _ (v : ℕ) (up : b ≤ v) (low : v < 2 ^ 32) where
    away_fits : (c : state.Client) (r : Request) → RequestFits shape r → ClientFits shape b c → ToldFits shape (v + 1) (requested_away shape c v r)
    unfolding restarted
    away_fits c (request.Restart e) of f = record {
      client = (of, record { bases = tt; parts = tt; headers = tt });
      outs = to_all_within shape (all_nodes shape) (message.Gather (record { session = e })) (nodes_within shape limits) tt of;
    }
    away_fits c (request.Write batch) of f = record { client = client_wider shape b (v + 1) c (omega (arith, up)) f; outs = tt }
    away_fits c (request.Read n) of f = record { client = client_wider shape b (v + 1) c (omega (arith, up)) f; outs = tt }
    away_fits c request.Barrier of f = record { client = client_wider shape b (v + 1) c (omega (arith, up)) f; outs = tt }
    away_fits c (request.Reassign e g) of f = record { client = client_wider shape b (v + 1) c (omega (arith, up)) f; outs = tt }

    pub asked_fits : (c : state.Client) (r : Request) → RequestFits shape r → ClientFits shape b c → ToldFits shape (v + 1) (requested volume c v r)
    unfolding requested
    asked_fits (state.Serves c) r of f = requested_fits shape limits b small c f.0 f.1 v up low r of
    asked_fits state.Closed r of f = away_fits state.Closed r of f
    asked_fits (state.Gathers g) r of f = away_fits (state.Gathers g) r of f
    asked_fits (state.Fetches g) r of f = away_fits (state.Fetches g) r of f
    asked_fits (state.Stages g) r of f = away_fits (state.Stages g) r of f
    asked_fits (state.Switches g) r of f = away_fits (state.Switches g) r of f
