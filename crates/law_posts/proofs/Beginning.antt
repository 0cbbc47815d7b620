-- What a client that opens a session sends is tagged, and what it keeps.
use Rattle.std.proofs.Common.{◌≡◌, ℕ, zero, suc, ◌<◌, ◌≤◌, ◌∙◌, Bool, not, ◌==◌, if◌then◌else◌, List, [], ◌∷◌, ◌++◌, take, length, Option, None, Some, inl, inr, refl, ap, sym, subst, arith}
use Rattle.std.specs.Prelude.{cond, find, filter}
use Rattle.std.proofs.lemmas.Bool.{eq-eqb}
use Rattle.std.proofs.lemmas.Option.{same_Some}
use Rattle.salus_types.specs.Volume.{Shape, regions}
use Rattle.salus_types.specs.declared.names.NodeName.{NodeName}
use Rattle.salus_types.specs.declared.records.Header.{Header}
use Rattle.salus_types.specs.declared.records.Held.{Held}
use Rattle.salus_types.specs.declared.records.Record.{Record}
use Rattle.salus_message.specs.declared.carried.Gathered.{Gathered}
use Rattle.salus_message.specs.declared.carried.Dumped.{Dumped}
use Rattle.salus_message.specs.declared.wire.Message.{Message}
use Rattle.salus_message.specs.declared.wire.Message.TheVariants as message
use Rattle.merkle_region.specs.Tree.{IsAmong}
use Rattle.schedule_text.specs.declared.schedule.Volume.{Volume}
use Rattle.schedule_text.specs.declared.schedule.Event.{Event}
use Rattle.schedule_text.specs.declared.schedule.Event.TheVariants as event
use Rattle.printed_lines.specs.declared.line.Line.{Line}
use Rattle.printed_lines.specs.declared.line.Line.TheVariants as line
use Rattle.printed_lines.specs.declared.line.RequestRefusal.TheVariants as refusal
use Rattle.salus_model.specs.declared.trace.Request.{Request}
use Rattle.salus_model.specs.declared.trace.Request.TheVariants as request
use Rattle.volume_model.specs.Contents.{all_regions, region_root, blocks_in}
use Rattle.volume_model.specs.Groups.{group_of, all_nodes}
use Rattle.volume_model.specs.Parts.{Session}
use Rattle.volume_model.specs.Recovering.{recovered, choice_of}
use Rattle.salus_model.specs.Judge.{Judge, known_at, begun_from, judged, judged_all, IsPrefixOf}
use Rattle.salus_model.specs.Hearing.{News, Asks, Says, Crashes, Silence}
use Rattle.salus_model.specs.Opening.{is_fetched}
use Rattle.salus_model.specs.Forgery.{records_in}
use Rattle.client_rules.specs.State as state
use Rattle.client_rules.specs.State.{Letter, Told, ignored, only_lines, to_all}
use Rattle.client_rules.specs.Opening.{has_answered, with_name, all_answered, not_answered, new_serving, base_record, stage_letters, staged_from, restarted, with_held, with_reply_of, joined_blocks, chosen, gathered_all, gathered_here, fetched_blocks, dumped_here, staged_by, staged_here, switched_by, switched_here}
use Rattle.client_rules.specs.Rules.{requested_away, requested, told_gathering, told_fetching, told_staging, told_switching, received, ticked, told}
use Rattle.list_lemmas.proofs.Members.{among_map, among_flat_map, among_flat_map-in, among_filter, among_range}
use Rattle.list_lemmas.proofs.Tests.{by_test, unequal_up}
use Rattle.law_lemmas.proofs.Settled.{IsBelow, IsSettled, now-known, not_known, stage-settled, open-settled, settled-wider}
use Rattle.law_lines.specs.Mirror.{MirrorsCounts}
use Rattle.law_lines.specs.Mirrors.{MirrorsKnown}
use Rattle.law_lines.proofs.Parted.{base-is}
use Rattle.law_posts.proofs.Kept.{records_sent, kept, EachTagged, HaveNone, none_sent, none_to, OpensNew, IsTidy, TellsTagged, BegunFits, ArePlain, quiet_tells}
use Rattle.law_posts.proofs.Sending.{OpensFor, HeadFits, letter_to, only_one, requested_tells, serving_tells, serving_ticks}

length-take-low : {A : Type 0} (s : ℕ) (xs : List A) → length (take s xs) ≤ length xs
length-take-low zero xs = omega arith
length-take-low (suc s) [] = omega arith
length-take-low (suc s) (x ∷ xs) = let rest = length-take-low s xs in omega (arith, rest)

module _ (volume : Volume) (events : List Event) (judge : Judge) (top more : ℕ) (up : top ≤ more) where
  abbrev shape : Shape
  shape = volume.geometry

  abbrev Tells : Told → Type 0
  Tells told = TellsTagged volume (judged_all events judge told.lines) more told

  -- where the session that begins is known
  abbrev Row : Told → Type 0
  Row told = BegunFits (judged_all events judge told.lines) told.client → Tells told

  opens_wider : (c : state.Client) → OpensNew judge top c → OpensNew judge more c
  opens_wider state.Closed opens = tt
  opens_wider (state.Serves c) opens = tt
  opens_wider (state.Gathers g) opens = let low = opens.1 in (opens.0, omega (arith, up, low))
  opens_wider (state.Fetches f) opens = let low = opens.1 in (opens.0, omega (arith, up, low))
  opens_wider (state.Stages b) opens = tt
  opens_wider (state.Switches b) opens = tt

  module _ (c : state.Client) (tidy : IsTidy volume judge top c) where
    stays : (lines : List Line) → ArePlain lines → Tells (only_lines c lines)
    stays lines plain = quiet_tells volume events judge top more c (only_lines c lines) up tidy plain (opens_wider c tidy.opens) (λ rec among. among) tt

    closes : (lines : List Line) → ArePlain lines → Tells (only_lines state.Closed lines)
    closes lines plain = quiet_tells volume events judge top more c (only_lines state.Closed lines) up tidy plain tt (λ rec among. absurd among) tt

    restarts : (e : ℕ) → IsBelow judge e × (e ≤ more) → Tells (restarted shape e)
    unfolding restarted
    restarts e o =
        quiet_tells volume events judge top more c (restarted shape e) up tidy tt o (λ rec among. absurd among)
        (none_to (all_nodes shape) (message.Gather (record { session = e })) refl)

    away_tells : (v : ℕ) (r : Request) → OpensFor judge more r → Tells (requested_away shape c v r)
    away_tells v (request.Restart e) o = restarts e o
    away_tells v (request.Write batch) o = stays (line.Refused v refusal.Closed ∷ []) (tt, tt)
    away_tells v (request.Read b) o = stays (line.Refused v refusal.Closed ∷ []) (tt, tt)
    away_tells v request.Barrier o = stays (line.Refused v refusal.Closed ∷ []) (tt, tt)
    away_tells v (request.Reassign e g) o = stays (line.Refused v refusal.Closed ∷ []) (tt, tt)

  -- ---- a session is staged

  module _ (e f s : ℕ) (contents : List (List ℕ)) (carried : ℕ → List (List ℕ)) where
    abbrev after : Judge
    after = judged events judge (line.Stage e f s)

    abbrev begins : state.Beginning
    begins = record { session = e; seq = s; contents = contents; bases = stage_letters volume e s contents carried; answered = [] }

    bases_tagged : MirrorsKnown after begins → EachTagged volume after (records_sent (stage_letters volume e s contents carried))
    bases_tagged k rec among =
        let l = among_flat_map (λ (x : Letter). records_in x.message) rec (stage_letters volume e s contents carried) among in
        let g = among_flat_map (λ (r : ℕ). to_all (group_of shape r) (message.Stage (record { base = record { rec = base_record volume e s contents r; blocks = carried r } }))) l.0 (all_regions shape) l.1 in
        let n = among_map (letter_to (message.Stage (record { base = record { rec = base_record volume e s contents g.0; blocks = carried g.0 } }))) l.0 (group_of shape g.0) g.2 in
        let here : IsAmong rec (base_record volume e s contents g.0 ∷ []) = subst (λ (x : Letter). IsAmong rec (records_in x.message)) n.2 l.2 in
        let inside : g.0 < regions shape = (let below = (among_range (regions shape) 0 g.0 g.1).1 in omega (arith, below)) in
        record {
          e = e;
          session = k.known;
          known = k.at;
          g = g.0;
          either = inr (record { inside = inside; is = only_one rec (base_record volume e s contents g.0) here ∙ base-is volume after begins k g.0 });
        }

    abbrev others_then : Option Session → Judge
    others_then o = record judge { others = begun_from judge e s o; staged = Some e }

    abbrev begun : Session → Session
    begun from = record { session = e; base = s; origin = from.origin; list = take s from.list }

    -- the new session is known by its number
    new_known : (from : Session) → IsBelow judge e → known_at judge f ≡ Some from → known_at after e ≡ Some (begun from)
    new_known from below at =
        let low : judge.now.session < e = below.known judge.now judge.now.session (now-known judge) in
        ap (λ o. known_at (others_then o) e) at
        ∙ (ap (λ t. cond t (Some judge.now) (cond (e == e) (Some (begun from)) (find (λ x. x.session == e) judge.others))) (unequal_up judge.now.session e low)
        ∙ ap (λ t. cond t (Some (begun from)) (find (λ x. x.session == e) judge.others)) (eq-eqb e e refl))

    staged_settled : IsBelow judge e → e ≤ top → IsSettled shape judge top → MirrorsKnown after begins → (o : Option Session) → known_at judge f ≡ o → IsSettled shape after more
    staged_settled below low settled k None at =
        let old : known_at judge e ≡ Some k.known = sym (ap (λ o. known_at (others_then o) e) at) ∙ k.at in
        let less : e < e = below.known k.known e old in
        absurd (omega (arith, less))
    staged_settled below low settled k (Some from) at =
        let same : begun from ≡ k.known = same_Some (begun from) k.known (sym (new_known from below at) ∙ k.at) in
        let count : length (take s from.list) ≡ s = ap (λ (x : Session). length x.list) same ∙ k.count in
        let short = length-take-low s from.list in
        let legal : IsPrefixOf (event.Restart e ∷ []) judge e f s = record {
          event = 1;
          asked = inl refl;
          fresh = not_known judge e (known_at judge e) refl below;
          from = from;
          known = at;
          within = omega (arith, count, short);
        } in
        stage-settled (event.Restart e ∷ []) judge e f s legal shape more (omega (arith, low, up)) (settled-wider shape judge top more up settled)

    staged_tells : IsBelow judge e × (e ≤ top) → IsSettled shape judge top → Row (staged_from volume e f s contents carried)
    unfolding judged_all
    staged_tells opens settled k = record {
      tidy = record {
        settled = staged_settled opens.0 opens.1 settled k (known_at judge f) refl;
        opens = tt;
        keeps = bases_tagged k;
      };
      sends = bases_tagged k;
    }

  -- ---- gathering

  chosen_tells : (g : state.Gathering) → IsTidy volume judge top (state.Gathers g) → (o : Option Header) → Row (chosen volume g o)
  chosen_tells g tidy None k = closes (state.Gathers g) tidy (line.Lost g.session ∷ []) (tt, tt)
  chosen_tells g tidy (Some h) k =
      staged_tells g.session h.session h.seq (joined_blocks (recovered shape g.pool h)) (λ r. blocks_in shape (joined_blocks (recovered shape g.pool h)) r) tidy.opens tidy.settled k

  all_tells : (g : state.Gathering) → IsTidy volume judge top (state.Gathers g) → Row (gathered_all volume g)
  all_tells g tidy =
      by_test (λ t. Row (if t then chosen volume g (choice_of shape g.pool) else ignored (state.Gathers g))) (all_answered shape g.answered)
      (λ _. chosen_tells g tidy (choice_of shape g.pool))
      (λ _ k. stays (state.Gathers g) tidy [] tt)

  session_kept : (g : state.Gathering) (name : NodeName) (held : Held) → (with_reply_of volume name held g).session ≡ g.session
  session_kept g name held =
      by_test (λ t. (if t then g else record g { answered = g.answered ++ name ∷ []; pool = with_held shape volume.key held g.pool }).session ≡ g.session) (has_answered name g.answered) (λ _. refl) (λ _. refl)

  tidy_reply : (g : state.Gathering) (name : NodeName) (held : Held) → IsTidy volume judge top (state.Gathers g) → IsTidy volume judge top (state.Gathers (with_reply_of volume name held g))
  tidy_reply g name held tidy = record {
    settled = tidy.settled;
    opens = subst (λ e. IsBelow judge e × (e ≤ top)) (sym (session_kept g name held)) tidy.opens;
    keeps = λ rec among. absurd among;
  }

  gathered_tells : (g : state.Gathering) → IsTidy volume judge top (state.Gathers g) → (name : NodeName) (m : Gathered) → Row (gathered_here volume g name m)
  unfolding gathered_here
  gathered_tells g tidy name m =
      by_test (λ t. Row (if t then gathered_all volume (with_reply_of volume name m.held g) else ignored (state.Gathers g))) (m.session == g.session)
      (λ _. all_tells (with_reply_of volume name m.held g) (tidy_reply g name m.held tidy))
      (λ _ k. stays (state.Gathers g) tidy [] tt)

  gathering_tells : (g : state.Gathering) → IsTidy volume judge top (state.Gathers g) → (name : NodeName) (m : Message) → Row (told_gathering volume g name m)
  gathering_tells g tidy name (message.Gathered m) = gathered_tells g tidy name m
  gathering_tells g tidy name other = λ k. stays (state.Gathers g) tidy [] tt

  -- ---- fetching

  dumped_tells : (f : state.Fetching) → IsTidy volume judge top (state.Fetches f) → (name : NodeName) (m : Dumped) → Row (dumped_here volume f name m)
  unfolding dumped_here
  dumped_tells f tidy name m =
      by_test (λ t. Row (if t then staged_from volume f.session f.served f.last f.contents (fetched_blocks f.region m.blocks) else ignored (state.Fetches f)))
      (is_fetched shape f.served f.region (region_root shape f.contents f.region) name m)
      (λ _. staged_tells f.session f.served f.last f.contents (fetched_blocks f.region m.blocks) tidy.opens tidy.settled)
      (λ _ k. stays (state.Fetches f) tidy [] tt)

  fetching_tells : (f : state.Fetching) → IsTidy volume judge top (state.Fetches f) → (name : NodeName) (m : Message) → Row (told_fetching volume f name m)
  fetching_tells f tidy name (message.Dumped m) = dumped_tells f tidy name m
  fetching_tells f tidy name other = λ k. stays (state.Fetches f) tidy [] tt

  -- ---- staging

  goes_on : (b d : state.Beginning) → IsTidy volume judge top (state.Stages b) → d.bases ≡ b.bases → Tells (ignored (state.Stages d))
  goes_on b d tidy same =
      quiet_tells volume events judge top more (state.Stages b) (ignored (state.Stages d)) up tidy tt tt
      (λ rec among. subst (λ (ls : List Letter). IsAmong rec (records_sent ls)) same among) tt

  staged_by_tells : (b d : state.Beginning) → IsTidy volume judge top (state.Stages b) → d.bases ≡ b.bases → Tells (staged_by shape d)
  staged_by_tells b d tidy same =
      by_test (λ t. Tells (if t then record { client = state.Switches (record d { answered = [] }); outs = to_all (all_nodes shape) (message.Switch (record { session = d.session })); lines = [] }
      else ignored (state.Stages d))) (all_answered shape d.answered)
      (λ _. quiet_tells volume events judge top more (state.Stages b)
      (record { client = state.Switches (record d { answered = [] }); outs = to_all (all_nodes shape) (message.Switch (record { session = d.session })); lines = [] })
      up tidy tt tt (λ rec among. absurd among) (none_to (all_nodes shape) (message.Switch (record { session = d.session })) refl))
      (λ _. goes_on b d tidy same)

  staging_tells : (b : state.Beginning) → IsTidy volume judge top (state.Stages b) → (name : NodeName) (session : ℕ) → Tells (staged_here shape b name session)
  unfolding staged_here
  staging_tells b tidy name session =
      by_test (λ t. Tells (if t then staged_by shape (record b { answered = with_name name b.answered }) else ignored (state.Stages b))) (session == b.session)
      (λ _. staged_by_tells b (record b { answered = with_name name b.answered }) tidy refl)
      (λ _. goes_on b b tidy refl)

  told_staging_tells : (b : state.Beginning) → IsTidy volume judge top (state.Stages b) → (name : NodeName) (m : Message) → Tells (told_staging shape b name m)
  told_staging_tells b tidy name (message.Staged m) = staging_tells b tidy name m.session
  told_staging_tells b tidy name other = goes_on b b tidy refl

  -- ---- switching

  opened_tells : (b : state.Beginning) → IsSettled shape judge top → b.session ≤ top
      → Tells (record { client = state.Serves (new_serving shape b.session b.seq b.contents); outs = []; lines = line.Open b.session ∷ [] })
  unfolding judged_all
  opened_tells b settled low = record {
    tidy = record {
      settled = open-settled judge b.session shape more (omega (arith, low, up)) (settled-wider shape judge top more up settled);
      opens = tt;
      keeps = λ rec among. absurd among;
    };
    sends = λ rec among. absurd among;
  }

  switched_by_tells : (b d : state.Beginning) → IsTidy volume judge top (state.Switches b) → d.session ≤ top → Tells (switched_by shape d)
  switched_by_tells b d tidy low =
      by_test (λ t. Tells (if t then record { client = state.Serves (new_serving shape d.session d.seq d.contents); outs = []; lines = line.Open d.session ∷ [] } else ignored (state.Switches d)))
      (all_answered shape d.answered)
      (λ _. opened_tells d tidy.settled low)
      (λ _. quiet_tells volume events judge top more (state.Switches b) (ignored (state.Switches d)) up tidy tt tt (λ rec among. among) tt)

  switching_tells : (b : state.Beginning) → IsTidy volume judge top (state.Switches b) → b.session ≤ top → (name : NodeName) (session : ℕ) → Tells (switched_here shape b name session)
  unfolding switched_here
  switching_tells b tidy low name session =
      by_test (λ t. Tells (if t then switched_by shape (record b { answered = with_name name b.answered }) else ignored (state.Switches b))) (session == b.session)
      (λ _. switched_by_tells b (record b { answered = with_name name b.answered }) tidy low)
      (λ _. stays (state.Switches b) tidy [] tt)

  told_switching_tells : (b : state.Beginning) → IsTidy volume judge top (state.Switches b) → b.session ≤ top → (name : NodeName) (m : Message) → Tells (told_switching shape b name m)
  told_switching_tells b tidy low name (message.Switched m) = switching_tells b tidy low name m.session
  told_switching_tells b tidy low name other = stays (state.Switches b) tidy [] tt

  -- ---- any step

  -- what the law of lines gives of a client before the step
  abbrev pub ClientFits : state.Client → Type 0
  ClientFits state.Closed = Unit {0}
  ClientFits (state.Serves c) = MirrorsCounts shape judge c × HeadFits events c.line
  ClientFits (state.Gathers g) = Unit {0}
  ClientFits (state.Fetches f) = Unit {0}
  ClientFits (state.Stages b) = Unit {0}
  ClientFits (state.Switches b) = b.session ≤ top

  abbrev pub NewsFits : News → Type 0
  NewsFits (Asks r) = OpensFor judge more r
  NewsFits other = Unit {0}

  asked_tells : (c : state.Client) → IsTidy volume judge top c → (v : ℕ) (r : Request) → OpensFor judge more r → Tells (requested volume c v r)
  unfolding requested
  asked_tells (state.Serves c) tidy v r o = requested_tells volume events judge top more up c tidy v r o
  asked_tells state.Closed tidy v r o = away_tells state.Closed tidy v r o
  asked_tells (state.Gathers g) tidy v r o = away_tells (state.Gathers g) tidy v r o
  asked_tells (state.Fetches f) tidy v r o = away_tells (state.Fetches f) tidy v r o
  asked_tells (state.Stages b) tidy v r o = away_tells (state.Stages b) tidy v r o
  asked_tells (state.Switches b) tidy v r o = away_tells (state.Switches b) tidy v r o

  said_tells : (c : state.Client) → IsTidy volume judge top c → ClientFits c → (name : NodeName) (m : Message) → Row (received volume c name m)
  unfolding received
  said_tells (state.Serves c) tidy fits name m = λ k. serving_tells volume events judge top more up c tidy fits.0 name m fits.1
  said_tells state.Closed tidy fits name m = λ k. stays state.Closed tidy [] tt
  said_tells (state.Gathers g) tidy fits name m = gathering_tells g tidy name m
  said_tells (state.Fetches f) tidy fits name m = fetching_tells f tidy name m
  said_tells (state.Stages b) tidy fits name m = λ k. told_staging_tells b tidy name m
  said_tells (state.Switches b) tidy fits name m = λ k. told_switching_tells b tidy fits name m

  pub step_tells : (c : state.Client) → IsTidy volume judge top c → ClientFits c → (v : ℕ) (x : News) → NewsFits x → Row (told volume c v x)
  unfolding told
  step_tells c tidy fits v (Asks r) new = λ k. asked_tells c tidy v r new
  step_tells c tidy fits v (Says name m) new = said_tells c tidy fits name m
  step_tells c tidy fits v Crashes new = λ k. closes c tidy [] tt
  step_tells c tidy fits v Silence new = λ k. stays c tidy [] tt

-- ---- a tick

none_tagged : (volume : Volume) (judge : Judge) (letters : List Letter) → HaveNone letters → EachTagged volume judge (records_sent letters)
none_tagged volume judge letters none rec among = absurd (subst (λ (l : List Record). IsAmong rec l) (none_sent letters none) among)

pub tick_tells : (volume : Volume) (judge : Judge) (c : state.Client) → EachTagged volume judge (kept c) → EachTagged volume judge (records_sent (ticked volume.geometry c))
unfolding ticked
tick_tells volume judge state.Closed keeps = λ rec among. absurd among
tick_tells volume judge (state.Serves c) keeps = serving_ticks volume judge c keeps
tick_tells volume judge (state.Gathers g) keeps =
    none_tagged volume judge (ticked volume.geometry (state.Gathers g)) (none_to (not_answered volume.geometry g.answered) (message.Gather (record { session = g.session })) refl)
tick_tells volume judge (state.Fetches f) keeps =
    none_tagged volume judge (ticked volume.geometry (state.Fetches f)) (none_to (group_of volume.geometry f.region) (message.Dump (record { session = f.served; region = f.region })) refl)
tick_tells volume judge (state.Stages b) keeps = λ rec among.
    let test : Letter → Bool = λ l. not (has_answered l.to b.answered) in
    let l = among_flat_map (λ (x : Letter). records_in x.message) rec (filter test b.bases) among in
    keeps rec (among_flat_map-in (λ (x : Letter). records_in x.message) l.0 rec b.bases (among_filter test l.0 b.bases l.1).0 l.2)
tick_tells volume judge (state.Switches b) keeps =
    none_tagged volume judge (ticked volume.geometry (state.Switches b)) (none_to (not_answered volume.geometry b.answered) (message.Switch (record { session = b.session })) refl)
