-- The law of room: of a sound server where each group always has a node that counts, and of quiet runs.
use Rattle.std.proofs.Common.{◌≡◌, ◌∙◌, inl, inr, ℕ, ◌-◌, ◌<◌, ◌≤◌, ◌&&◌, ◌||◌, not, nat_lt, Bool, true, false, if◌then◌else◌, List, [], ◌∷◌, ◌++◌, reverse, length, Option, None, Some, refl, sym, ap, ap₂, subst, arith, append_assoc}
use Rattle.std.specs.Prelude.{slice_get, IfSome}
use Rattle.std.specs.Option.{option_map_or}
use Rattle.std.specs.List.{AllByRecursion, list_any}
use Rattle.std.proofs.lemmas.Bool.{ltb-true, true≢false}
use Rattle.std.proofs.lemmas.List.{reverse-append, reverse-reverse}
use Rattle.std.proofs.lemmas.Option.{slice_get_within, none-some}
use Rattle.salus_types.specs.Volume.{Shape}
use Rattle.salus_types.specs.declared.names.NodeName.{NodeName}
use Rattle.salus_types.specs.declared.names.Sender.{Sender}
use Rattle.salus_types.specs.declared.names.Sender.TheVariants as sender
use Rattle.salus_types.specs.declared.records.Record.{Record}
use Rattle.merkle_region.specs.Tree.{IsAmong}
use Rattle.schedule_text.specs.Limits.{IsOfVolume, IsPartyOfVolume, IsWithinLimits}
use Rattle.schedule_text.specs.declared.schedule.Event.{Event}
use Rattle.schedule_text.specs.declared.schedule.Volume.{Volume}
use Rattle.volume_model.specs.Groups.{same_party}
use Rattle.salus_model.specs.declared.trace.Handed.{Handed}
use Rattle.salus_model.specs.declared.trace.Handed.TheVariants as handed
use Rattle.salus_model.specs.declared.trace.TraceStep.{TraceStep}
use Rattle.salus_model.specs.Complete.{AllTaken, IsSound, Rooms, is_between, was_taken}
use Rattle.salus_model.specs.Due.{past_of, history_from}
use Rattle.salus_model.specs.Following.{Follows, Posted, hands, posted_at, was_handed}
use Rattle.salus_model.specs.Forgery.{NoForgery}
use Rattle.salus_model.specs.Guarding.{is_lied_for, names_replaced, is_replacement, replaces, has_opened, counts, Guarded}
use Rattle.salus_model.specs.Hearing.{Past, since}
use Rattle.salus_model.specs.Quiet.{Quiet}
use Rattle.salus_model.specs.Seen.{strings_of, NoCollision}
use Rattle.replica_rules.specs.Nodes.{Memory}
use Rattle.replica_rules.specs.Rules.{Input}
use Rattle.run_rules.specs.Calm.{Calm}
use Rattle.run_rules.specs.Knowing.{KnownNode, fresh, input_of}
use Rattle.run_rules.specs.Rooms.{part_in, has_no_room, refuses_for_room, fills, fills_by, finds_no_room, rooms_of}
use Rattle.run_rules.specs.Run.{IsByRules, formatted_first}
use Rattle.run_rules.specs.Running.{known_of, formatted}
use Rattle.list_lemmas.proofs.Each.{any_way, all_split, all_then}
use Rattle.list_lemmas.proofs.Members.{among_all, any_among}
use Rattle.list_lemmas.proofs.Tests.{by_bool, or_true}
use Rattle.merkle_region.proofs.Membership.{among_right}
use Rattle.law_lemmas.proofs.Named.{one-node}
use Rattle.law_history.proofs.Steps.{steps_of_all}
use Rattle.law_reads.proofs.Events.{OfHanded, Of, of_events}
use Rattle.law_reads.proofs.Relay.{both_false}
use Rattle.law_ranged.proofs.Along.{runs_within}
use Rattle.law_asked.proofs.Run.{first_along, run_given}
use Rattle.law_served.proofs.Fronts.{AtFront, fronts}
use Rattle.law_complete.proofs.OpeningQuietly.{quiet_guarded, quiet_sound}
use Rattle.law_complete.specs.Room.{AlwaysHasRoom}
use Rattle.law_complete.proofs.Apart.{AreApart, KeepsApart, loaded_apart, known_apart}
use Rattle.law_complete.proofs.Early.{room_left, few_early}
use Rattle.law_complete.proofs.Fronts.{End, ends}

-- ---- a right node counts

not_true : (a b : Bool) → (not a && not b) ≡ true → (a ≡ false) × (b ≡ false)
not_true true b is = absurd (true≢false (sym is))
not_true false true is = absurd (true≢false (sym is))
not_true false false is = (refl, refl)

module _ (events : List Event) (posts : List Posted) (name : NodeName) (kept : list_any (λ e. names_replaced name e) events ≡ false) where
  abbrev StaysHere : Past → Type 0
  StaysHere p = replaces name p ≡ false

  stays_by : (party : Sender) (what : Handed) → OfHanded events posts party what → (is_replacement what && same_party party (sender.Node name)) ≡ false
  stays_by party handed.Replace of =
      by_bool (same_party party (sender.Node name)) (same_party party (sender.Node name) ≡ false)
      (λ hit.
      let mine : same_party (sender.Node of.0) (sender.Node name) ≡ true = ap (λ (p : Sender). same_party p (sender.Node name)) (sym of.1) ∙ hit in
      let one : of.0 ≡ name = one-node of.0 name mine in
      absurd (true≢false (sym (subst (λ (n : NodeName). list_any (λ e. names_replaced n e) events ≡ true) one of.2) ∙ kept)))
      (λ miss. miss)
  stays_by party (handed.Asked r) of = refl
  stays_by party (handed.Deliver k) of = refl
  stays_by party (handed.Stop k) of = refl
  stays_by party (handed.Lie from bytes) of = refl
  stays_by party handed.Tick of = refl
  stays_by party handed.Crash of = refl
  stays_by party handed.ClientCrash of = refl

  all_stay : (volume : Volume) (steps : List TraceStep) (history : List Past) → AllByRecursion StaysHere history → AllByRecursion (Of events posts) steps → AllByRecursion StaysHere (history_from volume events posts history steps)
  unfolding history_from
  all_stay volume [] history all of = all
  all_stay volume (t ∷ steps) history all of = all_stay volume steps (past_of volume events posts history t ∷ history) (stays_by t.party t.handed of.0, all) of.1

  none_replaces : (history : List Past) → AllByRecursion StaysHere history → list_any (λ p. replaces name p) history ≡ false
  none_replaces [] all = refl
  none_replaces (p ∷ history) all = both_false (replaces name p) (list_any (λ q. replaces name q) history) all.0 (none_replaces history all.1)

  counts_right : (history : List Past) → AllByRecursion StaysHere history → is_lied_for events (sender.Node name) ≡ false → counts events history name ≡ true
  unfolding counts
  counts_right history all honest = ap₂ (λ (a b : Bool). not a && (not b || has_opened (since (λ p. replaces name p) history))) honest (none_replaces history all)

-- ---- a sound node, where each group always has one that counts

module _ (volume : Volume) (events : List Event) (posts : List Posted) (trace : List TraceStep) (limits : IsWithinLimits (record { volume = volume; events = events })) (follows : Follows events posts trace)
    (apart : NoCollision volume events posts trace) (unforged : NoForgery volume events posts trace) (calm : Calm events trace) (by : IsByRules volume (formatted_first volume) posts trace) (guarded : Guarded volume events posts trace) where
  abbrev shape : Shape
  shape = volume.geometry

  module _ (name : NodeName) (inside : IsOfVolume volume.geometry name) (sound : IsSound events trace name) (done rest : List TraceStep) (whole : trace ≡ done ++ rest) where
    abbrev start : KnownNode
    start = fresh volume.geometry name.region (formatted volume name)

    abbrev known : KnownNode
    known = known_of volume.geometry posts name start done

    front : AtFront volume events posts name done
    front =
        let strings : List (List ℕ) = strings_of volume.geometry (history_from volume events posts [] trace) in
        let none = steps_of_all volume events posts trace apart in
        let right = by.nodes name in
        fronts volume events posts trace limits strings none guarded.client name sound right inside (first_along volume events posts trace limits strings none guarded.client name sound right)
        (run_given volume events posts trace limits follows apart unforged by guarded.client name sound) calm done rest whole

    last : End volume events posts trace limits follows apart unforged by guarded done
    last = ends volume events posts trace limits follows apart unforged by guarded done rest whole

    counting : counts events (history_from volume events posts [] done) name ≡ true
    counting =
        let honest = not_true (is_lied_for events (sender.Node name)) (list_any (λ e. names_replaced name e) events) sound.right in
        let of : AllByRecursion (Of events posts) trace = of_events events posts events (λ e among. among) [] [] 1 trace follows in
        counts_right events posts name honest.1 (history_from volume events posts [] done)
        (all_stay events posts name honest.1 volume done [] tt (all_split (Of events posts) done rest (subst (λ (l : List TraceStep). AllByRecursion (Of events posts) l) whole of)).0) honest.0

    there : known.state.memory ≡ Some front.stands.m
    there = front.stands.there

    apart_now : AreApart front.stands.m.replica.early
    apart_now = subst (λ (o : Option Memory). KeepsApart o) there (known_apart volume.geometry posts name done start (loaded_apart volume.geometry name.region (formatted volume name)))

    room : (rec : Record) → known.silent ≡ false → has_no_room volume.geometry name.region rec front.stands.m ≡ false
    room rec speaks =
        let m : Memory = front.stands.m in
        room_left volume.geometry name.region rec m
        (few_early volume events posts limits _ _ (history_from volume events posts [] done) last.n last.top last.c last.known last.sent last.along name inside counting (ap (λ (k : KnownNode). k.silent) (last.same name) ∙ speaks) m
        (ap (λ (k : KnownNode). k.state.memory) (last.same name) ∙ there) apart_now
        (all_then _ (λ (rec : Record). m.replica.view.number < rec.header.previous) (λ rec both. both.1) m.replica.early front.stands.turn.early))

    refuses_none : (rec : Record) → refuses_for_room volume.geometry name.region known rec ≡ false
    refuses_none rec =
        by_bool known.silent (refuses_for_room volume.geometry name.region known rec ≡ false)
        (λ silent. ap (λ (b : Bool). not b && option_map_or (λ m. has_no_room volume.geometry name.region rec m) known.state.memory false) silent)
        (λ speaks. ap (λ (b : Bool). not b && option_map_or (λ m. has_no_room volume.geometry name.region rec m) known.state.memory false) speaks
        ∙ (ap (λ (o : Option Memory). option_map_or (λ m. has_no_room volume.geometry name.region rec m) o false) there ∙ room rec speaks))

    -- the node has room for what comes next
    room_here : (what : Handed) → finds_no_room volume.geometry posts (formatted volume) (reverse done) (sender.Node name) what ≡ false
    room_here what =
        subst (λ (l : List TraceStep). fills_by volume.geometry posts name.region (known_of volume.geometry posts name start l) what ≡ false) (sym (reverse-reverse done))
        (any_way (λ (b : Bool). b ≡ false) (λ (input : Input). fills volume.geometry name.region known input) false (input_of posts what)
        (λ input. any_way (λ (b : Bool). b ≡ false) (λ (rec : Record). refuses_for_room volume.geometry name.region known rec) false (part_in input) refuses_none refl) refl)

  -- the steps address parties of the volume
  inside_of : (name : NodeName) (done rest : List TraceStep) (t : TraceStep) → trace ≡ done ++ t ∷ rest → t.party ≡ sender.Node name → IsOfVolume volume.geometry name
  inside_of name done rest t whole is =
      let all = (runs_within volume events posts trace limits follows by).0 in
      let party : IsPartyOfVolume volume.geometry t.party =
      among_all (λ (u : TraceStep). IsPartyOfVolume volume.geometry u.party) trace t (subst (λ (l : List TraceStep). IsAmong t l) (sym whole) (among_right t done (t ∷ rest) (inl refl))) all in
      subst (λ (p : Sender). IsPartyOfVolume volume.geometry p) is party

  always_room : (name : NodeName) → IsSound events trace name → AlwaysHasRoom volume posts trace name
  always_room name sound done rest t whole is =
      subst (λ (p : Sender). finds_no_room volume.geometry posts (formatted volume) (reverse done) p t.handed ≡ false) (sym is)
      (room_here name (inside_of name done rest t whole is) sound done (t ∷ rest) whole t.handed)

-- THE LAW, where each group always has a node that counts.
pub guarded_room : (volume : Volume) (events : List Event) (posts : List Posted) (trace : List TraceStep) → IsWithinLimits (record { volume = volume; events = events })
    → Follows events posts trace → NoCollision volume events posts trace → NoForgery volume events posts trace → Calm events trace → IsByRules volume (formatted_first volume) posts trace
    → Guarded volume events posts trace → (name : NodeName) → IsSound events trace name → AlwaysHasRoom volume posts trace name
guarded_room volume events posts trace limits follows apart unforged calm by guarded name sound = always_room volume events posts trace limits follows apart unforged calm by guarded name sound

-- ---- what was handed over was taken, where there was always room

-- these steps, with that one among them
record Parted (t : TraceStep) (steps : List TraceStep) : Type 0 where
  done : List TraceStep
  rest : List TraceStep
  whole : steps ≡ done ++ t ∷ rest

parted : (t : TraceStep) (steps : List TraceStep) → IsAmong t steps → Parted t steps
parted t [] among = absurd among
parted t (u ∷ steps) (inl same) = record { done = []; rest = steps; whole = ap (λ (x : TraceStep). x ∷ steps) (sym same) }
parted t (u ∷ steps) (inr later) = let more : Parted t steps = parted t steps later in record { done = u ∷ more.done; rest = more.rest; whole = ap (λ (l : List TraceStep). u ∷ l) more.whole }

module _ (is_full : Rooms) (k : ℕ) where
  taken_later : (later earlier : List TraceStep) → was_taken is_full earlier k ≡ true → was_taken is_full (later ++ earlier) k ≡ true
  unfolding was_taken
  taken_later [] earlier taken = taken
  taken_later (t ∷ later) earlier taken =
      ap (λ (b : Bool). (hands k t.handed && not (is_full (later ++ earlier) t)) || b) (taken_later later earlier taken) ∙ or_true (hands k t.handed && not (is_full (later ++ earlier) t))

  taken_now : (earlier : List TraceStep) (t : TraceStep) → hands k t.handed ≡ true → is_full earlier t ≡ false → was_taken is_full (t ∷ earlier) k ≡ true
  unfolding was_taken
  taken_now earlier t hit room = ap₂ (λ (a b : Bool). (a && not b) || was_taken is_full earlier k) hit room

  turned : (done rest : List TraceStep) (t : TraceStep) → reverse (done ++ t ∷ rest) ≡ reverse rest ++ t ∷ reverse done
  turned done rest t =
      reverse-append done (t ∷ rest) ∙ (ap (λ (l : List TraceStep). l ++ reverse done) (reverse-append (t ∷ []) rest) ∙ append_assoc (reverse rest) (t ∷ []) (reverse done))

  taken_of : (steps : List TraceStep) → was_handed steps k ≡ true → ((done rest : List TraceStep) (t : TraceStep) → steps ≡ done ++ t ∷ rest → is_full (reverse done) t ≡ false) → was_taken is_full (reverse steps) k ≡ true
  taken_of steps handed room =
      let at = any_among (λ (step : TraceStep). hands k step.handed) steps handed in
      let way : Parted at.0 steps = parted at.0 steps at.1 in
      subst (λ (l : List TraceStep). was_taken is_full l k ≡ true) (sym (ap (λ (l : List TraceStep). reverse l) way.whole ∙ turned way.done way.rest at.0))
      (taken_later (reverse way.rest) (at.0 ∷ reverse way.done) (taken_now (reverse way.done) at.0 at.2 (room way.done way.rest at.0 way.whole)))

-- ---- quiet runs

module _ (volume : Volume) (events : List Event) (posts : List Posted) (trace : List TraceStep) (limits : IsWithinLimits (record { volume = volume; events = events })) (follows : Follows events posts trace)
    (apart : NoCollision volume events posts trace) (unforged : NoForgery volume events posts trace) (calm : Calm events trace) (by : IsByRules volume (formatted_first volume) posts trace) (quiet : Quiet events posts trace) where
  guarded_too : Guarded volume events posts trace
  guarded_too = quiet_guarded events quiet.events_quiet volume limits.volume.small_groups.0 posts trace follows

  quiet_room : (done rest : List TraceStep) (t : TraceStep) → trace ≡ done ++ t ∷ rest → rooms_of volume.geometry posts (formatted volume) (reverse done) t ≡ false
  quiet_room done rest t whole = by_party t.party refl where
    by_party : (who : Sender) → t.party ≡ who → finds_no_room volume.geometry posts (formatted volume) (reverse done) t.party t.handed ≡ false
    by_party sender.Client is = ap (λ (p : Sender). finds_no_room volume.geometry posts (formatted volume) (reverse done) p t.handed) is
    by_party (sender.Node name) is =
        guarded_room volume events posts trace limits follows apart unforged calm by guarded_too name (quiet_sound events quiet.events_quiet posts trace follows name) done rest t whole is

  -- a message that was posted has a number
  posted_within : (k : ℕ) (m : Posted) → posted_at posts k ≡ Some m → (0 < k) × (k ≤ length posts)
  posted_within k m at =
      by_bool (nat_lt 0 k) ((0 < k) × (k ≤ length posts))
      (λ hit.
      let some : 0 < k = ltb-true 0 k hit in
      let within : k - 1 < length posts = slice_get_within posts (k - 1) m (sym (ap (λ (b : Bool). if b then slice_get posts (k - 1) else None) hit) ∙ at) in
      (some, omega (arith, some, within)))
      (λ miss. absurd (none-some m (sym (ap (λ (b : Bool). if b then slice_get posts (k - 1) else None) miss) ∙ at)))

  all_taken : (name : NodeName) → AllTaken posts (rooms_of volume.geometry posts (formatted volume)) trace name
  all_taken name k = by_post (posted_at posts k) refl where
    by_post : (o : Option Posted) → posted_at posts k ≡ o → IfSome o (λ m. is_between name m ≡ true → was_taken (rooms_of volume.geometry posts (formatted volume)) (reverse trace) k ≡ true)
    by_post None at = tt
    by_post (Some m) at = λ between. (let number = posted_within k m at in taken_of (rooms_of volume.geometry posts (formatted volume)) k trace (quiet.all_handed k number.0 number.1) quiet_room)

-- THE LAW, of quiet runs.
pub quiet_all_taken : (volume : Volume) (events : List Event) (posts : List Posted) (trace : List TraceStep) → IsWithinLimits (record { volume = volume; events = events })
    → Follows events posts trace → NoCollision volume events posts trace → NoForgery volume events posts trace → Calm events trace → IsByRules volume (formatted_first volume) posts trace
    → Quiet events posts trace → (name : NodeName) → AllTaken posts (rooms_of volume.geometry posts (formatted volume)) trace name
quiet_all_taken volume events posts trace limits follows apart unforged calm by quiet name = all_taken volume events posts trace limits follows apart unforged calm by quiet name

-- so of each node of the volume
pub quiet_taken : (volume : Volume) (events : List Event) (posts : List Posted) (trace : List TraceStep) → IsWithinLimits (record { volume = volume; events = events })
    → Follows events posts trace → NoCollision volume events posts trace → NoForgery volume events posts trace → Calm events trace → IsByRules volume (formatted_first volume) posts trace
    → Quiet events posts trace → (name : NodeName) → IsOfVolume volume.geometry name → AllTaken posts (rooms_of volume.geometry posts (formatted volume)) trace name
quiet_taken volume events posts trace limits follows apart unforged calm by quiet name inside = quiet_all_taken volume events posts trace limits follows apart unforged calm by quiet name
