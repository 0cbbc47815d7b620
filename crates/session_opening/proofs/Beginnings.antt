-- A session that begins: its bases are on their way, and the nodes stage it and switch to it.
use Rattle.std.proofs.Common.{◌≡◌, ◌∙◌, ℕ, zero, suc, ◌+◌, ◌<◌, Bool, true, false, ◌==◌, not, if◌then◌else◌, List, [], ◌∷◌, ◌++◌, map, take, length, replicate, get_or, refl, sym, ap, ap₂, subst, append_assoc, append-nil}
use Rattle.std.specs.Prelude.{filter}
use Rattle.std.specs.List.{AllByRecursion}
use Rattle.std.proofs.lemmas.Bool.{eq-eqb}
use Rattle.std.proofs.lemmas.List.{map-append, take_more}
use Rattle.std.proofs.lemmas.List.Elements.{filter-append, All-get_or, recursion_from_All}
use Rattle.std.proofs.lemmas.Grind.{flat_map-append}
use Rattle.salus_types.specs.Volume.{Shape, regions, blocks, nodes}
use Rattle.salus_types.specs.declared.names.NodeName.{NodeName}
use Rattle.salus_types.specs.declared.names.Sender.TheVariants as sender
use Rattle.salus_types.specs.declared.records.Out.{Out}
use Rattle.salus_types.specs.declared.records.Record.{Record}
use Rattle.salus_message.specs.declared.wire.Message.TheVariants as message
use Rattle.salus_message.specs.Spelling.{message_bytes}
use Rattle.schedule_text.specs.Limits.{IsOfVolume}
use Rattle.schedule_text.specs.declared.schedule.Volume.{Volume}
use Rattle.printed_lines.specs.declared.line.Line.TheVariants as line
use Rattle.volume_model.specs.Contents.{all_regions, roots_of}
use Rattle.volume_model.specs.Groups.{group_of, all_nodes}
use Rattle.posting.specs.Posting.{bytes_to}
use Rattle.posting.specs.Letters.{out_of_letter}
use Rattle.volume_restart.specs.declared.restart.Phase.TheVariants as phase
use Rattle.volume_restart.specs.Answers.{all_said, has_said, nobody, place_of, with_said}
use Rattle.volume_restart.specs.Restarting.{Restarting, answered, in_phase, nothing_gathered, shape_of}
use Rattle.list_lemmas.proofs.Each.{all_map, all_then, flat_of_all}
use Rattle.list_lemmas.proofs.Tests.{way_with}
use Rattle.client_rules.specs.State.{Beginning as AnyBeginning, Client, Letter, Closed, Gathers, Fetches, Stages, Switches, Serves, Told, ignored, to_all}
use Rattle.client_rules.specs.Opening.{all_answered, has_answered, new_serving, staged_by, staged_from, staged_here, stage_letters, switched_by, switched_here, with_name}
use Rattle.client_rules.specs.Rules.{ticked}
use Rattle.client_asking.specs.declared.step.Step.{Step}
use Rattle.session_opening.specs.declared.carried.Carried.{Carried}
use Rattle.session_opening.specs.declared.beginning.Beginning.{Beginning}
use Rattle.session_opening.specs.Answered.{IsSaid, is_waited_for}
use Rattle.session_opening.specs.Basing.{all_letters, base_by, base_letters, carried_by, letters_of, AreBases, IsBaseOf, IsLoaded}
use Rattle.session_opening.specs.Begun.{AwaitsMore, BeginsAs, BeginsAt, IsBegun, IsOpened, IsStaged, IsStagedOn, StagesAs, SwitchesAs}
use Rattle.session_opening.proofs.Nodes.{filter_same_on, filter_whole, group_within}
use Rattle.session_opening.proofs.Tabled.{all_said_is, nobody_said, said_more, waited_all, waited_in, waits_as}
use Rattle.session_opening.proofs.Based.{letters_are, letters_to, same_letters}

-- ---- letters on their way

pub base_posted : (bytes : List ℕ) (shape : Shape) (test : NodeName → Bool) (rec : Record) (contents : List (List ℕ))
    → bytes ≡ message_bytes (message.Stage (record { base = record { rec = rec; blocks = contents } }))
    → map (λ n. bytes_to bytes (sender.Node n)) (filter test (group_of shape rec.header.region)) ≡ map out_of_letter (filter (λ (l : Letter). test l.to) (base_letters shape rec contents))
base_posted bytes shape test rec contents are =
    letters_are bytes (message.Stage (record { base = record { rec = rec; blocks = contents } })) (filter test (group_of shape rec.header.region)) are
    ∙ ap (map out_of_letter) (sym (letters_to test (group_of shape rec.header.region) (message.Stage (record { base = record { rec = rec; blocks = contents } }))))

module _ (shape : Shape) (load : Carried) (test : Letter → Bool) where
  pub bases_more : (before more : List Record) (rec : Record) (outs now new : List Out) → more ≡ before ++ rec ∷ []
      → now ≡ outs ++ map out_of_letter (filter test (all_letters shape load before)) → new ≡ now ++ map out_of_letter (filter test (letters_of shape load rec))
      → new ≡ outs ++ map out_of_letter (filter test (all_letters shape load more))
  bases_more before more rec outs now new are is one =
      let grown : filter test (all_letters shape load more) ≡ filter test (all_letters shape load before) ++ filter test (letters_of shape load rec) =
      ap (λ l. filter test (all_letters shape load l)) are
      ∙ ap (filter test) (flat_map-append (λ r. letters_of shape load r) before (rec ∷ []) ∙ ap (λ l. all_letters shape load before ++ l) (append-nil (letters_of shape load rec)))
      ∙ filter-append test (all_letters shape load before) (letters_of shape load rec) in
      one ∙ ap (λ l. l ++ map out_of_letter (filter test (letters_of shape load rec))) is
      ∙ append_assoc outs (map out_of_letter (filter test (all_letters shape load before))) (map out_of_letter (filter test (letters_of shape load rec)))
      ∙ ap (λ l. outs ++ l) (sym (ap (map out_of_letter) grown ∙ map-append out_of_letter (filter test (all_letters shape load before)) (filter test (letters_of shape load rec))))

pub base_at : (shape : Shape) (records : List Record) (i : ℕ) (rec : Record) → AreBases shape records → i < length records → rec ≡ get_or records i rec → IsBaseOf shape rec
base_at shape records i rec bases within is = subst (IsBaseOf shape) (sym is) (All-get_or (IsBaseOf shape) records i rec within bases)

pub taken_more : (records : List Record) (i : ℕ) (rec : Record) → i < length records → rec ≡ get_or records i rec → take (i + 1) records ≡ take i records ++ rec ∷ []
taken_more records i rec within is = take_more records i rec within ∙ ap (λ x. take i records ++ x ∷ []) (sym is)

-- ---- nobody has answered yet

not_there : (n i : ℕ) → get_or (replicate n false) i false ≡ false
not_there zero i = refl
not_there (suc n) zero = refl
not_there (suc n) (suc i) = not_there n i

module _ (r : Restarting) (shape : Shape) (none : r.answers ≡ nobody shape) where
  unsaid : (n : NodeName) → has_said r.answers n ≡ false
  unsaid n = ap (λ t. has_said t n) none ∙ not_there (nodes shape) (place_of shape n)

  pub all_wait_to_stage : r.phase ≡ phase.Staging → (n : NodeName) → is_waited_for r n ≡ true
  all_wait_to_stage is n = waited_in r n phase.Staging is ∙ ap not (unsaid n)

  pub all_wait_to_switch : r.phase ≡ phase.Switching → (n : NodeName) → is_waited_for r n ≡ true
  all_wait_to_switch is n = waited_in r n phase.Switching is ∙ ap not (unsaid n)

-- ---- the session is staged

module _ (volume : Volume) (from : ℕ) (contents : List (List ℕ)) (load : Carried) (kept : Beginning) (geometry : volume.geometry ≡ shape_of kept.progress)
    (roots : kept.roots ≡ roots_of (shape_of kept.progress) contents) (long : length contents ≡ blocks (shape_of kept.progress)) (carried : kept.carried ≡ load)
    (records : kept.records ≡ map (base_by (shape_of kept.progress) volume.key kept.session kept.seq kept.roots) (all_regions (shape_of kept.progress)))
    (staging : kept.progress.phase ≡ phase.Staging) (nobody_yet : kept.progress.answers ≡ nobody (shape_of kept.progress)) where
  abbrev letters : List Letter
  letters = stage_letters volume kept.session kept.seq contents (carried_by volume.geometry load)

  the_letters : letters ≡ all_letters (shape_of kept.progress) kept.carried kept.records
  the_letters =
      sym (same_letters volume kept.session kept.seq contents load)
      ∙ ap (λ s. all_letters s load (map (base_by s volume.key kept.session kept.seq (roots_of s contents)) (all_regions s))) geometry
      ∙ ap (λ rs. all_letters (shape_of kept.progress) load (map (base_by (shape_of kept.progress) volume.key kept.session kept.seq rs) (all_regions (shape_of kept.progress)))) (sym roots)
      ∙ ap₂ (λ l rs. all_letters (shape_of kept.progress) l rs) (sym carried) (sym records)

  pub staged_first : (before after : Step)
      → after.outs.items ≡ before.outs.items ++ map out_of_letter (filter (λ l. is_waited_for kept.progress l.to) (all_letters (shape_of kept.progress) kept.carried kept.records))
      → after.lines.items ≡ before.lines.items ++ line.Stage kept.session from kept.seq ∷ []
      → IsStaged before after kept (staged_from volume kept.session from kept.seq contents (carried_by volume.geometry load))
  staged_first before after outs lines = record {
    stands = record {
      begins = record { session = refl; seq = refl; roots = roots; long = long };
      phase = staging;
      bases = the_letters;
      answered = subst (λ t. IsSaid t []) (sym nobody_yet) (nobody_said (shape_of kept.progress));
    };
    adds = record {
      outs = outs ∙ ap (λ l. before.outs.items ++ map out_of_letter l)
          (filter_whole (λ (l : Letter). is_waited_for kept.progress l.to) (all_letters (shape_of kept.progress) kept.carried kept.records)
          (λ l. all_wait_to_stage kept.progress (shape_of kept.progress) nobody_yet staging l.to) ∙ sym the_letters);
      lines = lines;
    };
  }

-- by what the calls give
module _ (geometry : Shape) (key : List ℕ) (session from seq : ℕ) (roots : List (List ℕ)) (load : Carried) (old now : Restarting) (is_old : old ≡ nothing_gathered geometry session)
    (is_now : now ≡ in_phase phase.Staging old) (records : List Record) (are : records ≡ map (base_by geometry key session seq roots) (all_regions geometry)) where
  abbrev made : Beginning
  made = record { session = session; seq = seq; roots = roots; records = records; carried = load; progress = now }

  started : now ≡ in_phase phase.Staging (nothing_gathered geometry session)
  started = is_now ∙ ap (in_phase phase.Staging) is_old

  pub now_shape : shape_of now ≡ geometry
  now_shape = ap shape_of started

  pub made_begun : length roots ≡ regions geometry → AreBases geometry records → IsLoaded geometry load → IsBegun geometry made
  made_begun count bases loaded = record { shape_is = now_shape; roots = count; records = bases; loaded = loaded }

  pub made_told : (before after : Step)
      → after.outs.items ≡ before.outs.items ++ map out_of_letter (filter (λ l. is_waited_for now l.to) (all_letters (shape_of now) load records))
      → after.lines.items ≡ before.lines.items ++ line.Stage session from seq ∷ []
      → (volume : Volume) (contents : List (List ℕ)) → volume.geometry ≡ geometry → volume.key ≡ key → roots ≡ roots_of geometry contents → length contents ≡ blocks geometry
      → IsStaged before after made (staged_from volume session from seq contents (carried_by geometry load))
  made_told before after outs lines volume contents shape_is key_is rooted long =
      subst (λ s. IsStaged before after made (staged_from volume session from seq contents (carried_by s load))) shape_is
      (staged_first volume from contents load made (shape_is ∙ sym now_shape) (rooted ∙ ap (λ s. roots_of s contents) (sym now_shape)) (long ∙ ap blocks (sym now_shape)) refl
      (are ∙ ap₂ (λ s k. map (base_by s k session seq roots) (all_regions s)) (sym now_shape) (sym key_is)) (ap (λ (x : Restarting). x.phase) started)
      (ap (λ (x : Restarting). x.answers) started ∙ ap nobody (sym now_shape)) before after outs lines)

-- ---- a node has staged it

-- the same, but that the nodes are as far as this
abbrev pub with_progress : Beginning → Restarting → Beginning
with_progress kept r = record kept { progress = r }

-- the node is noted
abbrev noted : Restarting → NodeName → Restarting
noted r name = record { session = r.session; phase = r.phase; answers = with_said r.answers name; pool = r.pool }

module _ (kept : Beginning) (s : AnyBeginning) (name : NodeName) (of : IsOfVolume (shape_of kept.progress) name) where
  abbrev r : Restarting
  r = kept.progress

  abbrev shape : Shape
  shape = shape_of kept.progress

  module _ (said : IsSaid r.answers s.answered) where
    more_said : IsSaid (with_said r.answers name) (with_name name s.answered)
    more_said = said_more r.answers name of s.answered said

    all_there : all_said (with_said r.answers name) ≡ all_answered shape (with_name name s.answered)
    all_there = all_said_is (with_said r.answers name) (with_name name s.answered) more_said

  module _ (stands : StagesAs kept s) where
    same_session : (kept.session == s.session) ≡ true
    same_session = eq-eqb kept.session s.session stands.begins.session

    told_by : (t : Bool) → all_said (with_said r.answers name) ≡ t
        → staged_here shape s name kept.session
        ≡ (if t then record { client = Switches (record s { answered = [] }); outs = to_all (all_nodes shape) (message.Switch (record { session = s.session })); lines = [] }
        else ignored (Stages (record s { answered = with_name name s.answered })))
    unfolding staged_here
    told_by t is =
        ap (λ (u : Bool). if u then staged_by shape (record s { answered = with_name name s.answered }) else ignored (Stages s)) same_session
        ∙ ap (λ (u : Bool). if u then record { client = Switches (record s { answered = [] }); outs = to_all (all_nodes shape) (message.Switch (record { session = s.session })); lines = [] }
        else ignored (Stages (record s { answered = with_name name s.answered }))) (sym (all_there stands.answered) ∙ is)

    begins_with : (p : Restarting) → shape_of p ≡ shape → (names : List NodeName) → BeginsAs (with_progress kept p) (record s { answered = names })
    begins_with p same names = record {
      session = stands.begins.session;
      seq = stands.begins.seq;
      roots = stands.begins.roots ∙ ap (λ sh. roots_of sh s.contents) (sym same);
      long = stands.begins.long ∙ ap blocks (sym same);
    }

    pub staged_last : (outs new : List Out) → (answered phase.Switching r name).phase ≡ phase.Switching
        → new ≡ outs ++ map out_of_letter (to_all (filter (is_waited_for (answered phase.Switching r name)) (all_nodes (shape_of (answered phase.Switching r name)))) (message.Switch (record { session = kept.session })))
        → IsStagedOn outs new (with_progress kept (answered phase.Switching r name)) (staged_here shape s name kept.session)
    staged_last outs new =
        way_with (all_said (with_said r.answers name)) (in_phase phase.Switching r) (noted r name)
        (λ p. p.phase ≡ phase.Switching → new ≡ outs ++ map out_of_letter (to_all (filter (is_waited_for p) (all_nodes (shape_of p))) (message.Switch (record { session = kept.session })))
        → IsStagedOn outs new (with_progress kept p) (staged_here shape s name kept.session))
        (λ all switching is. subst (λ (t : Told). IsStagedOn outs new (with_progress kept (in_phase phase.Switching r)) t) (sym (told_by true all)) (record {
          stands = record { begins = begins_with (in_phase phase.Switching r) refl []; phase = refl; answered = nobody_said shape };
          outs = is ∙ ap₂ (λ names e. outs ++ map out_of_letter (to_all names (message.Switch (record { session = e }))))
              (filter_whole (is_waited_for (in_phase phase.Switching r)) (all_nodes shape) (all_wait_to_switch (in_phase phase.Switching r) shape refl refl)) stands.begins.session;
          lines = refl;
        }))
        (λ some switching. absurd (let no : phase.Staging ≡ phase.Switching = sym stands.phase ∙ switching in cc))

    pub last_on : (outs new : List Out) (now : Restarting) → now ≡ answered phase.Switching r name → now.phase ≡ phase.Switching
        → new ≡ outs ++ map out_of_letter (to_all (filter (is_waited_for now) (all_nodes (shape_of now))) (message.Switch (record { session = kept.session })))
        → IsStagedOn outs new (with_progress kept now) (staged_here shape s name kept.session)
    last_on outs new now is =
        subst (λ p. p.phase ≡ phase.Switching → new ≡ outs ++ map out_of_letter (to_all (filter (is_waited_for p) (all_nodes (shape_of p))) (message.Switch (record { session = kept.session })))
        → IsStagedOn outs new (with_progress kept p) (staged_here shape s name kept.session)) (sym is) (staged_last outs new)

    pub staged_more : (outs : List Out) → ((answered phase.Switching r name).phase ≡ phase.Switching → ⊥)
        → IsStagedOn outs outs (with_progress kept (answered phase.Switching r name)) (staged_here shape s name kept.session)
    staged_more outs =
        way_with (all_said (with_said r.answers name)) (in_phase phase.Switching r) (noted r name)
        (λ p. (p.phase ≡ phase.Switching → ⊥) → IsStagedOn outs outs (with_progress kept p) (staged_here shape s name kept.session))
        (λ all not_switching. absurd (not_switching refl))
        (λ some not_switching. subst (λ (t : Told). IsStagedOn outs outs (with_progress kept (noted r name)) t) (sym (told_by false some)) (record {
          stands = record {
            begins = begins_with (noted r name) refl (with_name name s.answered);
            phase = stands.phase;
            bases = stands.bases;
            answered = more_said stands.answered;
          };
          outs = sym (append-nil outs);
          lines = refl;
        }))

    pub more_on : (outs : List Out) (now : Restarting) → now ≡ answered phase.Switching r name → (now.phase ≡ phase.Switching → ⊥)
        → IsStagedOn outs outs (with_progress kept now) (staged_here shape s name kept.session)
    more_on outs now is =
        subst (λ p. (p.phase ≡ phase.Switching → ⊥) → IsStagedOn outs outs (with_progress kept p) (staged_here shape s name kept.session)) (sym is) (staged_more outs)

    pub unstaged : (outs : List Out) (session : ℕ) → (session == kept.session) ≡ false → IsStagedOn outs outs kept (staged_here shape s name session)
    unfolding staged_here
    unstaged outs session differ =
        let other : (session == s.session) ≡ false = ap (λ e. session == e) (sym stands.begins.session) ∙ differ in
        let is : staged_here shape s name session ≡ ignored (Stages s) = ap (λ (u : Bool). if u then staged_by shape (record s { answered = with_name name s.answered }) else ignored (Stages s)) other in
        subst (λ (t : Told). IsStagedOn outs outs kept t) (sym is) (record { stands = stands; outs = sym (append-nil outs); lines = refl })

  -- ---- a node has switched to it

  module _ (stands : SwitchesAs kept s) where
    same_opened : (kept.session == s.session) ≡ true
    same_opened = eq-eqb kept.session s.session stands.begins.session

    switched_told : (t : Bool) → all_said (with_said r.answers name) ≡ t
        → switched_here shape s name kept.session
        ≡ (if t then record { client = Serves (new_serving shape s.session s.seq s.contents); outs = []; lines = line.Open s.session ∷ [] }
        else ignored (Switches (record s { answered = with_name name s.answered })))
    unfolding switched_here
    switched_told t is =
        ap (λ (u : Bool). if u then switched_by shape (record s { answered = with_name name s.answered }) else ignored (Switches s)) same_opened
        ∙ ap (λ (u : Bool). if u then record { client = Serves (new_serving shape s.session s.seq s.contents); outs = []; lines = line.Open s.session ∷ [] }
        else ignored (Switches (record s { answered = with_name name s.answered }))) (sym (all_there stands.answered) ∙ is)

    opens_with : (p : Restarting) → shape_of p ≡ shape → (names : List NodeName) → BeginsAs (with_progress kept p) (record s { answered = names })
    opens_with p same names = record {
      session = stands.begins.session;
      seq = stands.begins.seq;
      roots = stands.begins.roots ∙ ap (λ sh. roots_of sh s.contents) (sym same);
      long = stands.begins.long ∙ ap blocks (sym same);
    }

    pub switched_last : (answered phase.Done r name).phase ≡ phase.Done → IsOpened (with_progress kept (answered phase.Done r name)) (switched_here shape s name kept.session)
    switched_last =
        way_with (all_said (with_said r.answers name)) (in_phase phase.Done r) (noted r name)
        (λ p. p.phase ≡ phase.Done → IsOpened (with_progress kept p) (switched_here shape s name kept.session))
        (λ all done. record { now = record s { answered = [] }; begins = opens_with (in_phase phase.Done r) refl []; is = switched_told true all })
        (λ some done. absurd (let no : phase.Switching ≡ phase.Done = sym stands.phase ∙ done in cc))

    pub switched_more : ((answered phase.Done r name).phase ≡ phase.Done → ⊥) → AwaitsMore (with_progress kept (answered phase.Done r name)) (switched_here shape s name kept.session)
    switched_more =
        way_with (all_said (with_said r.answers name)) (in_phase phase.Done r) (noted r name)
        (λ p. (p.phase ≡ phase.Done → ⊥) → AwaitsMore (with_progress kept p) (switched_here shape s name kept.session))
        (λ all not_done. absurd (not_done refl))
        (λ some not_done. record {
          now = record s { answered = with_name name s.answered };
          stands = record { begins = opens_with (noted r name) refl (with_name name s.answered); phase = stands.phase; answered = more_said stands.answered };
          is = switched_told false some;
        })

    pub done_on : (now : Restarting) → now ≡ answered phase.Done r name → now.phase ≡ phase.Done → IsOpened (with_progress kept now) (switched_here shape s name kept.session)
    done_on now is = subst (λ p. p.phase ≡ phase.Done → IsOpened (with_progress kept p) (switched_here shape s name kept.session)) (sym is) switched_last

    pub awaits_on : (now : Restarting) → now ≡ answered phase.Done r name → (now.phase ≡ phase.Done → ⊥) → AwaitsMore (with_progress kept now) (switched_here shape s name kept.session)
    awaits_on now is = subst (λ p. (p.phase ≡ phase.Done → ⊥) → AwaitsMore (with_progress kept p) (switched_here shape s name kept.session)) (sym is) switched_more

    pub unswitched : (session : ℕ) → (session == kept.session) ≡ false → AwaitsMore kept (switched_here shape s name session)
    unfolding switched_here
    unswitched session differ =
        let other : (session == s.session) ≡ false = ap (λ e. session == e) (sym stands.begins.session) ∙ differ in
        record { now = s; stands = stands; is = ap (λ (u : Bool). if u then switched_by shape (record s { answered = with_name name s.answered }) else ignored (Switches s)) other }

-- ---- a tick

letters_within : (shape : Shape) (load : Carried) (records : List Record) → AreBases shape records → AllByRecursion (λ (l : Letter). IsOfVolume shape l.to) (all_letters shape load records)
letters_within shape load records bases =
    flat_of_all (λ (l : Letter). IsOfVolume shape l.to) (λ rec. letters_of shape load rec) records
    (all_then (IsBaseOf shape) (λ rec. AllByRecursion (λ (l : Letter). IsOfVolume shape l.to) (letters_of shape load rec))
    (λ rec is. all_map (λ (l : Letter). IsOfVolume shape l.to) (λ name. record { to = name; message = message.Stage (record { base = record { rec = rec; blocks = carried_by shape load rec.header.region } }) })
    (group_of shape rec.header.region) (group_within shape rec.header.region is.within)) records (recursion_from_All (IsBaseOf shape) records bases))

module _ (kept : Beginning) (begun : IsBegun (shape_of kept.progress) kept) (outs new : List Out) where
  abbrev sh : Shape
  sh = shape_of kept.progress

  pub bases_again : (c : Client) → BeginsAt kept c → kept.progress.phase ≡ phase.Staging
      → new ≡ outs ++ map out_of_letter (filter (λ l. is_waited_for kept.progress l.to) (all_letters sh kept.carried kept.records)) → new ≡ outs ++ map out_of_letter (ticked sh c)
  unfolding ticked
  bases_again (Stages s) at is sent =
      sent ∙ ap (λ l. outs ++ map out_of_letter l)
      (filter_same_on (λ (l : Letter). IsOfVolume sh l.to) (λ l. is_waited_for kept.progress l.to) (λ l. not (has_answered l.to s.answered)) (all_letters sh kept.carried kept.records)
      (letters_within sh kept.carried kept.records begun.records) (λ l of. waits_as kept.progress s.answered at.answered (λ n. waited_in kept.progress n phase.Staging is) l.to of)
      ∙ ap (filter (λ l. not (has_answered l.to s.answered))) (sym at.bases))
  bases_again (Switches s) at is sent = absurd (let no : phase.Staging ≡ phase.Switching = sym is ∙ at.phase in cc)
  bases_again Closed at is sent = absurd at
  bases_again (Serves s) at is sent = absurd at
  bases_again (Gathers g) at is sent = absurd at
  bases_again (Fetches f) at is sent = absurd at

  pub switch_again : (c : Client) → BeginsAt kept c → kept.progress.phase ≡ phase.Switching
      → new ≡ outs ++ map out_of_letter (to_all (filter (is_waited_for kept.progress) (all_nodes sh)) (message.Switch (record { session = kept.session }))) → new ≡ outs ++ map out_of_letter (ticked sh c)
  unfolding ticked
  switch_again (Switches s) at is sent =
      sent ∙ ap₂ (λ names e. outs ++ map out_of_letter (to_all names (message.Switch (record { session = e }))))
      (waited_all kept.progress s.answered at.answered (λ n. waited_in kept.progress n phase.Switching is)) at.begins.session
  switch_again (Stages s) at is sent = absurd (let no : phase.Switching ≡ phase.Staging = sym is ∙ at.phase in cc)
  switch_again Closed at is sent = absurd at
  switch_again (Serves s) at is sent = absurd at
  switch_again (Gathers g) at is sent = absurd at
  switch_again (Fetches f) at is sent = absurd at

  pub no_gathering : (c : Client) → BeginsAt kept c → kept.progress.phase ≡ phase.Gathering → ⊥
  no_gathering (Switches s) at is = let no : phase.Gathering ≡ phase.Switching = sym is ∙ at.phase in cc
  no_gathering (Stages s) at is = let no : phase.Gathering ≡ phase.Staging = sym is ∙ at.phase in cc
  no_gathering Closed at is = at
  no_gathering (Serves s) at is = at
  no_gathering (Gathers g) at is = at
  no_gathering (Fetches f) at is = at

  pub not_done : (c : Client) → BeginsAt kept c → kept.progress.phase ≡ phase.Done → ⊥
  not_done (Switches s) at is = let no : phase.Done ≡ phase.Switching = sym is ∙ at.phase in cc
  not_done (Stages s) at is = let no : phase.Done ≡ phase.Staging = sym is ∙ at.phase in cc
  not_done Closed at is = at
  not_done (Serves s) at is = at
  not_done (Gathers g) at is = at
  not_done (Fetches f) at is = at
