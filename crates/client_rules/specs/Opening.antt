-- The rules of a client that opens a session.
use Rattle.std.specs.Prelude.{ℕ, Bool, ◌==◌, not, if◌then◌else◌, List, [], ◌∷◌, ◌++◌, map, replicate, filter, flat_map, Option, None, Some}
use Rattle.std.specs.List.{list_any, list_all}
use Rattle.salus_types.specs.Volume.{Shape, regions}
use Rattle.salus_types.specs.declared.names.NodeName.{NodeName}
use Rattle.salus_types.specs.declared.records.Header.{Header}
use Rattle.salus_types.specs.declared.records.Record.{Record}
use Rattle.salus_types.specs.declared.records.Held.{Held}
use Rattle.salus_message.specs.declared.carried.Gathered.{Gathered}
use Rattle.salus_message.specs.declared.carried.Dumped.{Dumped}
use Rattle.salus_message.specs.declared.wire.Message.TheVariants as message
use Rattle.schedule_text.specs.declared.schedule.Volume.{Volume}
use Rattle.printed_lines.specs.declared.line.Line.TheVariants as line
use Rattle.volume_model.specs.Contents.{all_regions, region_root, volume_top, blocks_in}
use Rattle.client_tag.specs.Tags.{sealed}
use Rattle.volume_model.specs.Groups.{same_node, group_of, all_nodes}
use Rattle.volume_model.specs.Recovering.{Pool, record_counts, base_counts, recovered, choice_of}
use Rattle.salus_model.specs.Opening.{headers_in, is_fetched}
use Rattle.client_rules.specs.State.{Serving, Gathering, Fetching, Beginning, Letter, Closed, Serves, Gathers, Fetches, Stages, Switches, Told, ignored, to_all}

-- ---- who has answered

abbrev pub has_answered : NodeName → List NodeName → Bool
has_answered name names = list_any (λ n. same_node n name) names

-- each node once
abbrev pub with_name : NodeName → List NodeName → List NodeName
with_name name names = if has_answered name names then names else names ++ name ∷ []

abbrev pub all_answered : Shape → List NodeName → Bool
all_answered shape names = list_all (λ name. has_answered name names) (all_nodes shape)

abbrev pub not_answered : Shape → List NodeName → List NodeName
not_answered shape names = filter (λ name. not (has_answered name names)) (all_nodes shape)

-- ---- a session begins

-- the client that serves a session from its first moment
abbrev pub new_serving : Shape → ℕ → ℕ → List (List ℕ) → Serving
new_serving shape e seq contents = record {
  session = e;
  base = seq;
  last = seq;
  acked = seq;
  numbers = map (λ g. seq) (all_regions shape);
  contents = contents;
  leader = 0;
  unacked = [];
  claims = [];
  barriers = [];
  line = [];
  reads = [];
  asked = [];
  known = [];
}

abbrev pub base_header : Shape → ℕ → ℕ → List (List ℕ) → ℕ → Header
base_header shape e seq contents g = record {
  version = 1;
  session = e;
  seq = seq;
  region = g;
  previous = 0;
  leader_before = 0;
  fronts = replicate (regions shape) seq;
  touched = all_regions shape;
  root = region_root shape contents g;
  top = volume_top shape contents;
}

-- the record with which the session starts in a region
unfoldable pub base_record : Volume → ℕ → ℕ → List (List ℕ) → ℕ → Record
base_record volume e seq contents g =
    sealed volume.key (record { header = base_header volume.geometry e seq contents g; writes = []; run = None; tag = replicate 32 0 })

-- to every replica of each region its base, with the blocks that are carried there
abbrev pub stage_letters : Volume → ℕ → ℕ → List (List ℕ) → (ℕ → List (List ℕ)) → List Letter
stage_letters volume e seq contents carried =
    flat_map (λ g. to_all (group_of volume.geometry g) (message.Stage (record { base = record { rec = base_record volume e seq contents g; blocks = carried g } })))
    (all_regions volume.geometry)

-- session e is staged from the first batches of another
abbrev pub staged_from : Volume → ℕ → ℕ → ℕ → List (List ℕ) → (ℕ → List (List ℕ)) → Told
staged_from volume e from seq contents carried = record {
  client = Stages (record { session = e; seq = seq; contents = contents; bases = stage_letters volume e seq contents carried; answered = [] });
  outs = stage_letters volume e seq contents carried;
  lines = line.Stage e from seq ∷ [];
}

-- ---- a restart

abbrev pub no_pool : Pool
no_pool = record { bases = []; parts = []; headers = [] }

-- all that was held is dropped, and every node is asked for what it holds
unfoldable pub restarted : Shape → ℕ → Told
restarted shape e = record {
  client = Gathers (record { session = e; answered = []; pool = no_pool });
  outs = to_all (all_nodes shape) (message.Gather (record { session = e }));
  lines = [];
}

-- what counts of a reply enters the pool
abbrev pub with_held : Shape → List ℕ → Held → Pool → Pool
with_held shape key held pool = record {
  bases = pool.bases ++ filter (λ base. base_counts shape key base) held.bases;
  parts = pool.parts ++ filter (λ rec. record_counts shape key rec) held.parts;
  headers = pool.headers ++ headers_in shape key held;
}

-- each node's first reply counts
abbrev pub with_reply_of : Volume → NodeName → Held → Gathering → Gathering
with_reply_of volume name held g =
    if has_answered name g.answered then g
    else record g { answered = g.answered ++ name ∷ []; pool = with_held volume.geometry volume.key held g.pool }

-- all blocks of a choice
abbrev pub joined_blocks : Option (List (List (List ℕ))) → List (List ℕ)
joined_blocks None = []
joined_blocks (Some regions) = flat_map (λ blocks. blocks) regions

abbrev pub chosen : Volume → Gathering → Option Header → Told
chosen volume g None = record { client = Closed; outs = []; lines = line.Lost g.session ∷ [] }
chosen volume g (Some h) =
    let contents : List (List ℕ) = joined_blocks (recovered volume.geometry g.pool h) in
    staged_from volume g.session h.session h.seq contents (λ r. blocks_in volume.geometry contents r)

-- once all replies are in, the choice is made
abbrev pub gathered_all : Volume → Gathering → Told
gathered_all volume g =
    if all_answered volume.geometry g.answered then chosen volume g (choice_of volume.geometry g.pool) else ignored (Gathers g)

unfoldable pub gathered_here : Volume → Gathering → NodeName → Gathered → Told
gathered_here volume g name m =
    if m.session == g.session then gathered_all volume (with_reply_of volume name m.held g) else ignored (Gathers g)

-- ---- a reassignment

-- to the region's replicas the fetched blocks, to all others none
abbrev pub fetched_blocks : ℕ → List (List ℕ) → ℕ → List (List ℕ)
fetched_blocks g blocks r = if r == g then blocks else []

unfoldable pub dumped_here : Volume → Fetching → NodeName → Dumped → Told
dumped_here volume f name m =
    if is_fetched volume.geometry f.served f.region (region_root volume.geometry f.contents f.region) name m
    then staged_from volume f.session f.served f.last f.contents (fetched_blocks f.region m.blocks)
    else ignored (Fetches f)

-- ---- staging and switching

abbrev pub staged_by : Shape → Beginning → Told
staged_by shape b =
    if all_answered shape b.answered
    then record { client = Switches (record b { answered = [] }); outs = to_all (all_nodes shape) (message.Switch (record { session = b.session })); lines = [] }
    else ignored (Stages b)

unfoldable pub staged_here : Shape → Beginning → NodeName → ℕ → Told
staged_here shape b name session =
    if session == b.session then staged_by shape (record b { answered = with_name name b.answered }) else ignored (Stages b)

abbrev pub switched_by : Shape → Beginning → Told
switched_by shape b =
    if all_answered shape b.answered
    then record { client = Serves (new_serving shape b.session b.seq b.contents); outs = []; lines = line.Open b.session ∷ [] }
    else ignored (Switches b)

unfoldable pub switched_here : Shape → Beginning → NodeName → ℕ → Told
switched_here shape b name session =
    if session == b.session then switched_by shape (record b { answered = with_name name b.answered }) else ignored (Switches b)
