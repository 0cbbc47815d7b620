-- The client that opens a session, message by message.
use Rattle.std.proofs.Common.{◌≡◌, ◌∙◌, ℕ, ◌≤◌, Bool, true, false, if◌then◌else◌, List, [], ◌∷◌, ◌++◌, length, map, refl, sym, ap, ap₂, subst, append-nil}
use Rattle.std.proofs.lemmas.List.FromFn.{length-map-range_with_len}
use Rattle.salus_types.specs.Volume.{Shape, regions, blocks}
use Rattle.salus_types.specs.declared.names.NodeName.{NodeName}
use Rattle.salus_types.specs.declared.records.Out.{Out}
use Rattle.salus_message.specs.declared.carried.Gathered.{Gathered}
use Rattle.salus_message.specs.declared.carried.Dumped.{Dumped}
use Rattle.salus_message.specs.declared.small.Staged.{Staged}
use Rattle.salus_message.specs.declared.small.Switched.{Switched}
use Rattle.salus_message.specs.declared.wire.Message.TheVariants as message
use Rattle.schedule_text.specs.declared.schedule.Volume.{Volume}
use Rattle.posting.specs.Letters.{out_of_letter}
use Rattle.printed_lines.specs.declared.line.Line.TheVariants as line
use Rattle.volume_model.specs.Contents.{region_root, roots_of}
use Rattle.salus_model.specs.Opening.{is_fetched}
use Rattle.client_rules.specs.Opening.{dumped_here, fetched_blocks, gathered_here, new_serving, not_answered, restarted, staged_from, staged_here, switched_here}
use Rattle.client_rules.specs.Serving.{fetches}
use Rattle.volume_model.specs.Groups.{group_of, all_nodes}
use Rattle.client_rules.specs.State as state
use Rattle.client_rules.specs.State.{Client, Told, ignored, to_all}
use Rattle.client_rules.specs.Rules.{received, ticked}
use Rattle.client_asking.specs.declared.step.Step.{Step}
use Rattle.session_opening.specs.declared.gathering.Gathering.{Gathering}
use Rattle.session_opening.specs.declared.fetching.Fetching.{Fetching}
use Rattle.session_opening.specs.declared.fetching.Served.{Served}
use Rattle.session_opening.specs.declared.beginning.Beginning.{Beginning}
use Rattle.session_opening.specs.Basing.{AreBases, IsLoaded}
use Rattle.session_opening.specs.Gathered.{starts_gathering, GathersAs, IsGathering, Waits}
use Rattle.session_opening.specs.Fetched.{FetchesAs, IsServed}
use Rattle.session_opening.specs.Begun.{AwaitsMore, BeginsAt, IsBegun, IsOpened, IsStaged, IsStagedOn, StagesAs, Stays, SwitchesAs}
use Rattle.session_opening.specs.declared.phase.Phase.{Phase}
use Rattle.session_opening.specs.declared.phase.Phase.TheVariants as phase
use Rattle.session_opening.specs.declared.opening.Outcome.{Outcome}
use Rattle.session_opening.specs.declared.opening.Outcome.TheVariants as outcome
use Rattle.session_opening.specs.Kept.{begins_in, gathers_in, KeptOpening}
use Rattle.session_opening.specs.Standing.{shape_of, IsAt, IsUpTo, StandsFor}
use Rattle.session_opening.specs.Telling.{BeginsWith, Follows, IsTold, OpensBy}
use Rattle.session_opening.proofs.Tabled.{none_answered}

-- ---- nothing comes of it

module _ (volume : Volume) (step : Step) (kept : KeptOpening) where
  quiet : (c : Client) → StandsFor volume kept c → IsTold volume step step (outcome.Opens kept) (ignored c)
  quiet c stands = record { becomes = stands; adds = record { outs = sym (append-nil step.outs.items); lines = sym (append-nil step.lines.items) } }

  pub stray : (c : Client) (told : Told) → StandsFor volume kept c → told ≡ ignored c → IsTold volume step step (outcome.Opens kept) told
  stray c told stands is = subst (λ t. IsTold volume step step (outcome.Opens kept) t) (sym is) (quiet c stands)

pub stays_open : (kept : KeptOpening) → Follows kept (outcome.Opens kept)
stays_open kept = record { shape = refl; key = refl; up_to = λ most h. h }

-- ---- a message that isn't waited for

module _ (volume : Volume) (p : Phase) (name : NodeName) where
  pub stray_gathered : (c : Client) (m : Gathered) → IsAt p c → ((g : state.Gathering) → IsAt p (state.Gathers g) → ⊥) → received volume c name (message.Gathered m) ≡ ignored c
  unfolding received
  stray_gathered (state.Gathers g) m at not = absurd (not g at)
  stray_gathered state.Closed m at not = refl
  stray_gathered (state.Serves s) m at not = refl
  stray_gathered (state.Fetches f) m at not = refl
  stray_gathered (state.Stages b) m at not = refl
  stray_gathered (state.Switches b) m at not = refl

  pub stray_dumped : (c : Client) (m : Dumped) → IsAt p c → ((f : state.Fetching) → IsAt p (state.Fetches f) → ⊥) → received volume c name (message.Dumped m) ≡ ignored c
  unfolding received
  stray_dumped (state.Fetches f) m at not = absurd (not f at)
  stray_dumped state.Closed m at not = refl
  stray_dumped (state.Serves s) m at not = refl
  stray_dumped (state.Gathers g) m at not = refl
  stray_dumped (state.Stages b) m at not = refl
  stray_dumped (state.Switches b) m at not = refl

  pub stray_staged : (c : Client) (m : Staged) → IsAt p c → ((b : state.Beginning) → IsAt p (state.Stages b) → ⊥) → received volume c name (message.Staged m) ≡ ignored c
  unfolding received
  stray_staged (state.Stages b) m at not = absurd (not b at)
  stray_staged state.Closed m at not = refl
  stray_staged (state.Serves s) m at not = refl
  stray_staged (state.Gathers g) m at not = refl
  stray_staged (state.Fetches f) m at not = refl
  stray_staged (state.Switches b) m at not = refl

  pub stray_switched : (c : Client) (m : Switched) → IsAt p c → ((b : state.Beginning) → IsAt p (state.Switches b) → ⊥) → received volume c name (message.Switched m) ≡ ignored c
  unfolding received
  stray_switched (state.Switches b) m at not = absurd (not b at)
  stray_switched state.Closed m at not = refl
  stray_switched (state.Serves s) m at not = refl
  stray_switched (state.Gathers g) m at not = refl
  stray_switched (state.Fetches f) m at not = refl
  stray_switched (state.Stages b) m at not = refl

-- ---- a session begins

pub begun_here : (shape : Shape) (b : Beginning) → IsBegun shape b → IsBegun (begins_in b) b
begun_here shape b is = subst (λ s. IsBegun s b) (sym is.shape_is) is

pub roots_count : (shape : Shape) (contents roots : List (List ℕ)) → roots ≡ roots_of shape contents → length roots ≡ regions shape
roots_count shape contents roots are = ap length are ∙ length-map-range_with_len (λ g. region_root shape contents g) 0 (regions shape)

module _ (shape : Shape) (key : List ℕ) (b : Beginning) (is : IsBegun shape b) where
  abbrev kept_begun : KeptOpening
  kept_begun = record { key = key; phase = phase.Begins b }

  pub begun_told : (volume : Volume) (before after : Step) (told : Told) → volume.geometry ≡ shape → volume.key ≡ key → IsStaged before after b told → IsTold volume before after (outcome.Opens kept_begun) told
  begun_told volume before after told shape_is key_is staged = record {
    becomes = record { geometry = shape_is ∙ sym is.shape_is; key = key_is; at = staged.stands };
    adds = staged.adds;
  }

  pub begun_with : (n : ℕ) → b.seq ≡ n → BeginsWith shape key n (outcome.Opens kept_begun)
  begun_with n seq = (is.shape_is, refl, λ most few. subst (λ k. k ≤ most) (sym seq) few)

  pub begun_follows : (before : KeptOpening) → before.key ≡ key → shape_of before ≡ shape → ((most : ℕ) → IsUpTo most before → b.seq ≤ most) → Follows before (outcome.Opens kept_begun)
  begun_follows before key_is shape_is few = record { shape = is.shape_is ∙ sym shape_is; key = sym key_is; up_to = few }

pub with_follows : (before : KeptOpening) (n : ℕ) (made : Outcome) → ((most : ℕ) → IsUpTo most before → n ≤ most) → BeginsWith (shape_of before) before.key n made → Follows before made
with_follows before n (outcome.Opens kept) few begun = record { shape = begun.0; key = begun.1; up_to = λ most up. begun.2 most (few most up) }
with_follows before n (outcome.Closes key) few begun = absurd begun
with_follows before n (outcome.Serves served key) few begun = absurd begun

-- ---- a reply

module _ (volume : Volume) (key : List ℕ) (g after : Gathering) (shape_is : volume.geometry ≡ gathers_in g) (key_is : volume.key ≡ key) (is : IsGathering (gathers_in g) after) (step : Step) (told : Told) where
  pub waits_told : Waits after told → IsTold volume step step (outcome.Opens (record { key = key; phase = phase.Gathers after })) told
  waits_told waits =
      stray volume step (record { key = key; phase = phase.Gathers after }) (state.Gathers waits.next) told
      (record { geometry = shape_is ∙ sym is.shape_is; key = key_is; at = waits.stands }) waits.is

pub waits_follow : (key : List ℕ) (g after : Gathering) → IsGathering (gathers_in g) after → Follows (record { key = key; phase = phase.Gathers g }) (outcome.Opens (record { key = key; phase = phase.Gathers after }))
waits_follow key g after is = record { shape = is.shape_is; key = refl; up_to = λ most up. up }

pub lost_told : (volume : Volume) (key : List ℕ) (e : ℕ) (before after : Step) (told : Told) → volume.key ≡ key → told ≡ record { client = state.Closed; outs = []; lines = line.Lost e ∷ [] }
    → after.outs.items ≡ before.outs.items → after.lines.items ≡ before.lines.items ++ line.Lost e ∷ [] → IsTold volume before after (outcome.Closes key) told
lost_told volume key e before after told key_is is outs lines =
    subst (λ t. IsTold volume before after (outcome.Closes key) t) (sym is) (record { becomes = (refl, key_is); adds = record { outs = outs ∙ sym (append-nil before.outs.items); lines = lines } })

-- ---- a region's blocks

module _ (volume : Volume) (key : List ℕ) (kept : Fetching) (f : state.Fetching) (shape_is : volume.geometry ≡ kept.geometry) (key_is : volume.key ≡ key) (stands : FetchesAs kept f) (name : NodeName) (m : Dumped) where
  abbrev test : Bool
  test = is_fetched kept.geometry f.served f.region (region_root kept.geometry f.contents f.region) name m

  dumped_by : (t : Bool) → test ≡ t
      → dumped_here volume f name m ≡ (if t then staged_from volume f.session f.served f.last f.contents (fetched_blocks f.region m.blocks) else ignored (state.Fetches f))
  unfolding dumped_here
  dumped_by t is =
      ap (λ s. if is_fetched s f.served f.region (region_root s f.contents f.region) name m then staged_from volume f.session f.served f.last f.contents (fetched_blocks f.region m.blocks) else ignored (state.Fetches f)) shape_is
      ∙ ap (λ (u : Bool). if u then staged_from volume f.session f.served f.last f.contents (fetched_blocks f.region m.blocks) else ignored (state.Fetches f)) is

  pub not_fetched : (step : Step) → test ≡ false → IsTold volume step step (outcome.Opens (record { key = key; phase = phase.Fetches kept })) (dumped_here volume f name m)
  not_fetched step is = stray volume step (record { key = key; phase = phase.Fetches kept }) (state.Fetches f) (dumped_here volume f name m) (record { geometry = shape_is; key = key_is; at = stands }) (dumped_by false is)

  pub fetched_told : (before after : Step) (made : Outcome) → test ≡ true
      → IsTold volume before after made (staged_from volume f.session f.served f.last f.contents (fetched_blocks f.region m.blocks)) → IsTold volume before after made (dumped_here volume f name m)
  fetched_told before after made is told = subst (λ t. IsTold volume before after made t) (sym (dumped_by true is)) told

-- what is staged of the fetched blocks, by the client's names
pub by_fetching : (volume : Volume) (kept : Fetching) (f : state.Fetching) → FetchesAs kept f → (fetched : List (List ℕ))
    → staged_from volume kept.session kept.served.session kept.served.number f.contents (fetched_blocks kept.region fetched) ≡ staged_from volume f.session f.served f.last f.contents (fetched_blocks f.region fetched)
by_fetching volume kept f stands fetched =
    ap₂ (λ e from. staged_from volume e from kept.served.number f.contents (fetched_blocks kept.region fetched)) stands.session stands.served
    ∙ ap₂ (λ n g. staged_from volume f.session f.served n f.contents (fetched_blocks g fetched)) stands.last stands.region

-- ---- staging and switching

module _ (volume : Volume) (key : List ℕ) (before after : Beginning) (shape_is : volume.geometry ≡ begins_in before) (key_is : volume.key ≡ key) (stays : Stays before after) where
  abbrev opened : KeptOpening
  opened = record { key = key; phase = phase.Begins after }

  stands_after : (c : Client) → BeginsAt after c → StandsFor volume opened c
  stands_after c at = record { geometry = shape_is ∙ sym stays.shape; key = key_is; at = at }

  pub staged_told : (step now : Step) (told : Told) → now.lines.items ≡ step.lines.items → IsStagedOn step.outs.items now.outs.items after told → IsTold volume step now (outcome.Opens opened) told
  staged_told step now told same staged = record {
    becomes = stands_after told.client staged.stands;
    adds = record { outs = staged.outs; lines = same ∙ sym (append-nil step.lines.items) ∙ ap (λ l. step.lines.items ++ l) (sym staged.lines) };
  }

  pub still_told : (step now : Step) (c : Client) (told : Told) → told ≡ ignored c → BeginsAt after c → now.outs.items ≡ step.outs.items → now.lines.items ≡ step.lines.items → IsTold volume step now (outcome.Opens opened) told
  still_told step now c told is at outs lines =
      subst (λ t. IsTold volume step now (outcome.Opens opened) t) (sym is)
      (record { becomes = stands_after c at; adds = record { outs = outs ∙ sym (append-nil step.outs.items); lines = lines ∙ sym (append-nil step.lines.items) } })

  pub awaits_told : (step : Step) (told : Told) → AwaitsMore after told → IsTold volume step step (outcome.Opens opened) told
  awaits_told step told awaits = still_told step step (state.Switches awaits.now) told awaits.is awaits.stands refl refl

  pub opened_told : (step now : Step) (told : Told) → IsOpened after told → now.outs.items ≡ step.outs.items → now.lines.items ≡ step.lines.items ++ line.Open after.session ∷ []
      → IsTold volume step now (outcome.Serves (record { session = after.session; number = after.seq; roots = after.roots }) key) told
  opened_told step now told is outs lines =
      let now_shape : volume.geometry ≡ begins_in after = shape_is ∙ sym stays.shape in
      subst (λ t. IsTold volume step now (outcome.Serves (record { session = after.session; number = after.seq; roots = after.roots }) key) t) (sym is.is)
      (record {
        becomes = (
          record {
            contents = is.now.contents;
            roots = is.begins.roots ∙ ap (λ s. roots_of s is.now.contents) (sym now_shape);
            long = is.begins.long ∙ ap blocks (sym now_shape);
            is = ap state.Serves (ap (λ s. new_serving s is.now.session is.now.seq is.now.contents) (sym now_shape)
                ∙ ap₂ (λ e n. new_serving volume.geometry e n is.now.contents) (sym is.begins.session) (sym is.begins.seq));
          },
          key_is,
        );
        adds = record { outs = outs ∙ sym (append-nil step.outs.items); lines = lines ∙ ap (λ e. step.lines.items ++ line.Open e ∷ []) is.begins.session };
      })

pub begins_follow : (key : List ℕ) (before after : Beginning) → Stays before after → Follows (record { key = key; phase = phase.Begins before }) (outcome.Opens (record { key = key; phase = phase.Begins after }))
begins_follow key before after stays = record { shape = stays.shape; key = refl; up_to = λ most few. subst (λ n. n ≤ most) (sym stays.seq) few }

pub begins_stay : (before after : Beginning) → IsBegun (begins_in before) before → Stays before after → IsBegun (begins_in after) after
begins_stay before after is stays = record {
  shape_is = refl;
  roots = ap length stays.roots ∙ is.roots ∙ ap regions (sym stays.shape);
  records = subst (λ s. AreBases s after.records) (sym stays.shape) (subst (λ rs. AreBases (begins_in before) rs) (sym stays.records) is.records);
  loaded = subst (λ s. IsLoaded s after.carried) (sym stays.shape) (subst (λ l. IsLoaded (begins_in before) l) (sym stays.carried) is.loaded);
}

pub serves_follow : (key : List ℕ) (before after : Beginning) → IsBegun (begins_in before) before → Stays before after
    → Follows (record { key = key; phase = phase.Begins before }) (outcome.Serves (record { session = after.session; number = after.seq; roots = after.roots }) key)
serves_follow key before after is stays = record { roots = ap length stays.roots ∙ is.roots; key_is = refl; up_to = λ most few. subst (λ n. n ≤ most) (sym stays.seq) few }

-- ---- by the client's phase

module _ (volume : Volume) (name : NodeName) where
  pub as_gathered : (P : Told → Type 0) (kept : Gathering) (c : Client) (m : Gathered) → IsAt (phase.Gathers kept) c → ((g : state.Gathering) → c ≡ state.Gathers g → GathersAs kept g → P (gathered_here volume g name m)) → P (received volume c name (message.Gathered m))
  unfolding received
  as_gathered P kept (state.Gathers g) m at each = each g refl at
  as_gathered P kept state.Closed m at each = absurd at
  as_gathered P kept (state.Serves s) m at each = absurd at
  as_gathered P kept (state.Fetches f) m at each = absurd at
  as_gathered P kept (state.Stages b) m at each = absurd at
  as_gathered P kept (state.Switches b) m at each = absurd at

  pub as_fetched : (P : Told → Type 0) (kept : Fetching) (c : Client) (m : Dumped) → IsAt (phase.Fetches kept) c → ((f : state.Fetching) → FetchesAs kept f → P (dumped_here volume f name m)) → P (received volume c name (message.Dumped m))
  unfolding received
  as_fetched P kept (state.Fetches f) m at each = each f at
  as_fetched P kept state.Closed m at each = absurd at
  as_fetched P kept (state.Serves s) m at each = absurd at
  as_fetched P kept (state.Gathers g) m at each = absurd at
  as_fetched P kept (state.Stages b) m at each = absurd at
  as_fetched P kept (state.Switches b) m at each = absurd at

  pub as_staged : (P : Told → Type 0) (kept : Beginning) (c : Client) (m : Staged) → IsAt (phase.Begins kept) c → ((s : state.Beginning) → StagesAs kept s → P (staged_here volume.geometry s name m.session))
      → ((s : state.Beginning) → SwitchesAs kept s → P (ignored (state.Switches s))) → P (received volume c name (message.Staged m))
  unfolding received
  as_staged P kept (state.Stages s) m at each other = each s at
  as_staged P kept (state.Switches s) m at each other = other s at
  as_staged P kept state.Closed m at each other = absurd at
  as_staged P kept (state.Serves s) m at each other = absurd at
  as_staged P kept (state.Gathers g) m at each other = absurd at
  as_staged P kept (state.Fetches f) m at each other = absurd at

  pub as_switched : (P : Told → Type 0) (kept : Beginning) (c : Client) (m : Switched) → IsAt (phase.Begins kept) c → ((s : state.Beginning) → SwitchesAs kept s → P (switched_here volume.geometry s name m.session))
      → ((s : state.Beginning) → StagesAs kept s → P (ignored (state.Stages s))) → P (received volume c name (message.Switched m))
  unfolding received
  as_switched P kept (state.Switches s) m at each other = each s at
  as_switched P kept (state.Stages s) m at each other = other s at
  as_switched P kept state.Closed m at each other = absurd at
  as_switched P kept (state.Serves s) m at each other = absurd at
  as_switched P kept (state.Gathers g) m at each other = absurd at
  as_switched P kept (state.Fetches f) m at each other = absurd at

-- ---- the first moment

pub restarted_told : (volume : Volume) (shape : Shape) (key : List ℕ) (e : ℕ) (g : Gathering) (before after : Step) → volume.geometry ≡ shape → volume.key ≡ key → IsGathering shape g → GathersAs g (starts_gathering e)
    → after.outs.items ≡ before.outs.items ++ map out_of_letter (to_all (not_answered (gathers_in g) []) (message.Gather (record { session = e }))) → after.lines.items ≡ before.lines.items
    → OpensBy volume before after (record { key = key; phase = phase.Gathers g }) (restarted shape e)
unfolding restarted
restarted_told volume shape key e g before after shape_is key_is is stands outs lines = record {
  stands = record { geometry = shape_is ∙ sym is.shape_is; key = key_is; at = stands };
  adds = record {
    outs = outs ∙ ap (λ names. before.outs.items ++ map out_of_letter (to_all names (message.Gather (record { session = e })))) (none_answered (gathers_in g) ∙ ap all_nodes is.shape_is);
    lines = lines ∙ sym (append-nil before.lines.items);
  };
}

pub gathers_here : (shape : Shape) (g : Gathering) → IsGathering shape g → IsGathering (gathers_in g) g
gathers_here shape g is = subst (λ s. IsGathering s g) (sym is.shape_is) is

pub reassigned_told : (volume : Volume) (shape : Shape) (key : List ℕ) (e g : ℕ) (served : Served) (c : state.Serving) (before after : Step) → volume.geometry ≡ shape → volume.key ≡ key → IsServed shape served c
    → after.outs.items ≡ before.outs.items ++ map out_of_letter (to_all (group_of shape g) (message.Dump (record { session = served.session; region = g }))) → after.lines.items ≡ before.lines.items
    → OpensBy volume before after (record { key = key; phase = phase.Fetches (record { geometry = shape; session = e; region = g; served = served }) }) (fetches shape c e g)
reassigned_told volume shape key e g served c before after shape_is key_is is outs lines = record {
  stands = record {
    geometry = shape_is;
    key = key_is;
    at = record { session = refl; region = refl; served = is.session; last = is.last; roots = is.roots; long = is.long };
  };
  adds = record {
    outs = outs ∙ ap (λ s. before.outs.items ++ map out_of_letter (to_all (group_of shape g) (message.Dump (record { session = s; region = g })))) is.session;
    lines = lines ∙ sym (append-nil before.lines.items);
  };
}

-- ---- a tick

pub ticks_gathering : (shape : Shape) (kept : Gathering) (c : Client) (outs new : List Out) → shape ≡ gathers_in kept → IsAt (phase.Gathers kept) c
    → ((g : state.Gathering) → GathersAs kept g → new ≡ outs ++ map out_of_letter (to_all (not_answered (gathers_in kept) g.answered) (message.Gather (record { session = g.session })))) → new ≡ outs ++ map out_of_letter (ticked shape c)
unfolding ticked
ticks_gathering shape kept (state.Gathers g) outs new is at sent = sent g at ∙ ap (λ s. outs ++ map out_of_letter (to_all (not_answered s g.answered) (message.Gather (record { session = g.session })))) (sym is)
ticks_gathering shape kept state.Closed outs new is at sent = absurd at
ticks_gathering shape kept (state.Serves s) outs new is at sent = absurd at
ticks_gathering shape kept (state.Fetches f) outs new is at sent = absurd at
ticks_gathering shape kept (state.Stages b) outs new is at sent = absurd at
ticks_gathering shape kept (state.Switches b) outs new is at sent = absurd at

pub ticks_fetching : (shape : Shape) (kept : Fetching) (c : Client) (outs new : List Out) → shape ≡ kept.geometry → IsAt (phase.Fetches kept) c
    → new ≡ outs ++ map out_of_letter (to_all (group_of kept.geometry kept.region) (message.Dump (record { session = kept.served.session; region = kept.region }))) → new ≡ outs ++ map out_of_letter (ticked shape c)
unfolding ticked
ticks_fetching shape kept (state.Fetches f) outs new is at sent =
    sent ∙ ap₂ (λ e g. outs ++ map out_of_letter (to_all (group_of kept.geometry g) (message.Dump (record { session = e; region = g })))) at.served at.region
    ∙ ap (λ s. outs ++ map out_of_letter (to_all (group_of s f.region) (message.Dump (record { session = f.served; region = f.region })))) (sym is)
ticks_fetching shape kept state.Closed outs new is at sent = absurd at
ticks_fetching shape kept (state.Serves s) outs new is at sent = absurd at
ticks_fetching shape kept (state.Gathers g) outs new is at sent = absurd at
ticks_fetching shape kept (state.Stages b) outs new is at sent = absurd at
ticks_fetching shape kept (state.Switches b) outs new is at sent = absurd at
