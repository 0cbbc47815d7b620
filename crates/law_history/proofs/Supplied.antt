-- What a node shows the client was tagged before: it was handed to the node, by the client or by a lie, or is formatted.
use Rattle.std.proofs.Common.{◌≡◌, ℕ, ◌<◌, ◌≤◌, Bool, true, false, if◌then◌else◌, List, [], ◌∷◌, Result, Ok, Err, inl, inr, refl, ap, sym, subst, arith}
use Rattle.std.specs.List.{AllByRecursion}
use Rattle.std.proofs.lemmas.Bool.{cases_lt, eq-eqb}
use Rattle.salus_types.specs.declared.names.NodeName.{NodeName}
use Rattle.salus_types.specs.declared.names.Sender.{Sender}
use Rattle.salus_types.specs.declared.names.Sender.TheVariants as sender
use Rattle.salus_types.specs.declared.records.Record.{Record}
use Rattle.salus_message.specs.declared.wire.Message.{Message}
use Rattle.salus_message.specs.declared.wire.Message.TheVariants as message
use Rattle.salus_message.specs.declared.wire.MessageError.{MessageError}
use Rattle.salus_message.specs.Reading.{message_at}
use Rattle.merkle_region.specs.Tree.{IsAmong, NoTwoCollide}
use Rattle.schedule_text.specs.declared.schedule.Volume.{Volume}
use Rattle.schedule_text.specs.declared.schedule.Event.{Event}
use Rattle.salus_model.specs.declared.trace.Handed.{Handed}
use Rattle.salus_model.specs.declared.trace.Handed.TheVariants as handed
use Rattle.salus_model.specs.declared.trace.TraceStep.{TraceStep}
use Rattle.salus_model.specs.Judge.{Judge, start_judge, first_session, judged_all}
use Rattle.salus_model.specs.Following.{Posted, posted_at, sent_by, hands}
use Rattle.volume_model.specs.Groups.{is_client}
use Rattle.salus_model.specs.Hearing.{News, Silence, Past, news_of_message, news_from, news_of_post, news_in}
use Rattle.salus_model.specs.Due.{past_of, pasts_from}
use Rattle.salus_model.specs.Forgery.{IsUnforged, records_of, records_told}
use Rattle.list_lemmas.proofs.Members.{among_all}
use Rattle.law_lemmas.proofs.Growing.{tagged-grows}
use Rattle.law_lemmas.proofs.Settled.{now-known, start_settled}
use Rattle.law_lemmas.proofs.WellSent.{IsWellSent, AreWellSent}
use Rattle.law_history.specs.Showing.{records_shown}
use Rattle.law_history.specs.Choosing.{ChoseRight}
use Rattle.law_history.specs.Handing.{records_posted, records_handed, IsFormatted, ShowsHanded, NodesShowHanded, steps_in, PostsTagged, ClientPostsTagged}
use Rattle.law_history.proofs.Standing.{IsReached}
use Rattle.law_history.proofs.Shown.{ShowsTagged}
use Rattle.law_history.proofs.Runs.{AllTagged, judge_at}

-- ---- what the client hears of a lie

shown_message : (name : NodeName) (r : Result Message MessageError) (rec : Record) → IsAmong rec (records_shown (news_of_message name r)) → IsAmong rec (records_of r)
shown_message name (Ok (message.Gathered m)) rec among = among
shown_message name (Ok other) rec among = absurd among
shown_message name (Err e) rec among = absurd among

shown_lie : (from : Sender) (bytes : List ℕ) (rec : Record) → IsAmong rec (records_shown (news_from from bytes)) → IsAmong rec (records_of (message_at bytes))
shown_lie sender.Client bytes rec among = absurd among
shown_lie (sender.Node name) bytes rec among = shown_message name (message_at bytes) rec among

module _ (volume : Volume) (events : List Event) (strings : List (List ℕ)) (none : NoTwoCollide strings) (posts : List Posted) where
  -- the genuine records that a lie brings in the step were tagged before it
  abbrev LiesTagged : Past → Type 0
  LiesTagged p = (rec : Record) → IsAmong rec (records_told p.step.handed) → IsUnforged volume p.before rec

  -- what is known of a step, and of those before it
  pub record IsTold (history : List Past) (p : Past) : Type 0 where
    pub shows : ShowsHanded volume posts (steps_in history) p.step
    pub tags : ChoseRight volume (p ∷ history) → PostsTagged volume events posts history p
    pub lies : LiesTagged p
    pub sent : IsWellSent posts (steps_in history) p.step

  unfoldable pub AreTold : List Past → Type 0
  AreTold [] = Unit {0}
  AreTold (p ∷ history) = IsTold history p × AreTold history

  -- a step of the history, with those before it
  pub record IsPlace (history : List Past) (q : Past) : Type 0 where
    pub rest : List Past
    pub told : IsTold rest q
    pub others : AreTold rest
    pub among : IsAmong q history
    pub within : (x : Past) → IsAmong x rest → IsAmong x history
    pub chose : ChoseRight volume history → ChoseRight volume (q ∷ rest)

  chose_rest : (p : Past) (history : List Past) → ChoseRight volume (p ∷ history) → ChoseRight volume history
  unfolding ChoseRight
  chose_rest p history chose = chose.1

  place_behind : (p : Past) (history : List Past) (q : Past) → IsPlace history q → IsPlace (p ∷ history) q
  place_behind p history q at = record { rest = at.rest; told = at.told; others = at.others; among = inr at.among; within = λ x m. inr (at.within x m); chose = λ c. at.chose (chose_rest p history c) }

  place_of_step : (history : List Past) → AreTold history → (u : TraceStep) → IsAmong u (steps_in history) → (q : Past) × IsPlace history q × (u ≡ q.step)
  unfolding AreTold
  place_of_step [] told u m = absurd m
  place_of_step (p ∷ history) told u (inl e) =
      (p, record { rest = history; told = told.0; others = told.1; among = inl refl; within = λ x m. inr m; chose = λ c. c }, e)
  place_of_step (p ∷ history) told u (inr m) = let at = place_of_step history told.1 u m in (at.0, place_behind p history at.0 at.1, at.2)

  told_here : (p : Past) (history : List Past) → IsTold history p → AreTold history → AreTold (p ∷ history)
  unfolding AreTold
  told_here p history told others = (told, others)

  -- the step that sent a message
  pub record IsSentBy (history : List Past) (k : ℕ) : Type 0 where
    pub q : Past
    pub at : IsPlace history q
    pub low : sent_by (steps_in at.rest) < k
    pub high : k ≤ q.step.sent

  sent_at : (history : List Past) → AreTold history → (k : ℕ) → 0 < k → k ≤ sent_by (steps_in history) → IsSentBy history k
  unfolding AreTold place_behind
  sent_at [] told k positive within = absurd (omega arith)
  sent_at (p ∷ history) told k positive within = elim (cases_lt (sent_by (steps_in history)) k) [
    | inl above ↦ record {
      q = p;
      at = record { rest = history; told = told.0; others = told.1; among = inl refl; within = λ x m. inr m; chose = λ c. c };
      low = above;
      high = within;
    }
    | inr below ↦
        let from = sent_at history told.1 k positive below in
        record { q = from.q; at = place_behind p history from.q from.at; low = from.low; high = from.high }
  ]

  -- ---- what was handed to a party

  module _ (history : List Past) where
    place_within : (part : List Past) (q : Past) → IsPlace part q → ((x : Past) → IsAmong x part → IsAmong x history)
        → (ChoseRight volume history → ChoseRight volume part) → IsPlace history q
    place_within part q at inside chose = record { rest = at.rest; told = at.told; others = at.others; among = inside q at.among; within = λ x m. inside x (at.within x m); chose = λ c. at.chose (chose c) }

  module _ (history : List Past) (judge : Judge) (reached : IsReached volume events strings history judge) where
    tagged_posted : (rest : List Past) → AreTold rest → ChoseRight volume rest → ((x : Past) → IsAmong x rest → IsAmong x history) → (k : ℕ) → 0 < k → k ≤ sent_by (steps_in rest)
        → (rec : Record) → IsAmong rec (records_posted (posted_at posts k)) → IsUnforged volume judge rec
    tagged_posted rest told chose within k positive low rec among = λ genuine.
        let from = sent_at rest told k positive low in
        let past = reached.each from.q (within from.q from.at.among) in
        tagged-grows volume.geometry volume.key (judged_all events from.q.before from.q.lines) judge rec past.sized_after past.after
        (from.at.told.tags (from.at.chose chose) k rec from.low from.high among)

    tagged_handed : (q : Past) → IsPlace history q → (what : Handed) → q.step.handed ≡ what → (rec : Record) → IsAmong rec (records_handed posts what) → IsUnforged volume judge rec
    tagged_handed q at (handed.Asked r) is rec among = absurd among
    tagged_handed q at (handed.Deliver k) is rec among =
        let before = at.told.sent.before k (subst (λ w. hands k w ≡ true) (sym is) (eq-eqb k k refl)) in
        tagged_posted at.rest at.others (chose_rest q at.rest (at.chose reached.chose)) at.within k before.0 before.1 rec among
    tagged_handed q at (handed.Stop k) is rec among =
        let before = at.told.sent.before k (subst (λ w. hands k w ≡ true) (sym is) (eq-eqb k k refl)) in
        tagged_posted at.rest at.others (chose_rest q at.rest (at.chose reached.chose)) at.within k before.0 before.1 rec among
    tagged_handed q at (handed.Lie from bytes) is rec among = λ genuine.
        let past = reached.each q at.among in
        tagged-grows volume.geometry volume.key q.before judge rec past.sized_before past.before
        (at.told.lies rec (subst (λ w. IsAmong rec (records_told w)) (sym is) among) genuine)
    tagged_handed q at handed.Tick is rec among = absurd among
    tagged_handed q at handed.Crash is rec among = absurd among
    tagged_handed q at handed.Replace is rec among = absurd among
    tagged_handed q at handed.ClientCrash is rec among = absurd among

    tagged_formatted : (rec : Record) → IsFormatted volume rec → IsUnforged volume judge rec
    tagged_formatted rec formatted = λ genuine.
        let start : Judge = start_judge volume.geometry in
        tagged-grows volume.geometry volume.key start judge rec (start_settled volume.geometry).sized reached.first
        (record { e = 1; session = first_session volume.geometry; known = now-known start; g = formatted.g; either = inr formatted.is })

    -- what a message shows
    tagged_shown : AreTold history → (k : ℕ) → 0 < k → k ≤ sent_by (steps_in history) → (rec : Record) → IsAmong rec (records_shown (news_of_post (posted_at posts k)))
        → IsUnforged volume judge rec
    tagged_shown told k positive low rec among = λ genuine.
        let from = sent_at history told k positive low in
        elim (from.at.told.shows k rec from.low from.high among genuine) [
          | inl was ↦
              let rest : List Past = from.at.rest in
              let here = place_of_step (from.q ∷ rest) (told_here from.q rest from.at.told from.at.others) was.step was.among in
              tagged_handed here.0 (place_within history (from.q ∷ rest) here.0 here.1 (λ x m. elim m [
                | inl e ↦ subst (λ y. IsAmong y history) (sym e) from.at.among
                | inr later ↦ from.at.within x later
              ]) from.at.chose) was.step.handed (ap (λ u. u.handed) (sym here.2)) rec was.hands_it genuine
          | inr formatted ↦ tagged_formatted rec formatted genuine
        ]

    -- what the news of a step shows
    tagged_news : AreTold history → (t : TraceStep) → IsWellSent posts (steps_in history) t → ((rec : Record) → IsAmong rec (records_told t.handed) → IsUnforged volume judge rec)
        → (what : Handed) → t.handed ≡ what → (rec : Record) → IsAmong rec (records_shown (news_in posts what)) → IsUnforged volume judge rec
    tagged_news told t sent lies (handed.Asked r) is rec among = absurd among
    tagged_news told t sent lies (handed.Deliver k) is rec among =
        let before = sent.before k (subst (λ w. hands k w ≡ true) (sym is) (eq-eqb k k refl)) in
        tagged_shown told k before.0 before.1 rec among
    tagged_news told t sent lies (handed.Stop k) is rec among = absurd among
    tagged_news told t sent lies (handed.Lie from bytes) is rec among =
        lies rec (subst (λ w. IsAmong rec (records_told w)) (sym is) (shown_lie from bytes rec among))
    tagged_news told t sent lies handed.Tick is rec among = absurd among
    tagged_news told t sent lies handed.Crash is rec among = absurd among
    tagged_news told t sent lies handed.Replace is rec among = absurd among
    tagged_news told t sent lies handed.ClientCrash is rec among = absurd among

    tagged_if : (t : Bool) (news : News) → ((rec : Record) → IsAmong rec (records_shown news) → IsUnforged volume judge rec)
        → (rec : Record) → IsAmong rec (records_shown (if t then news else Silence)) → IsUnforged volume judge rec
    tagged_if true news tagged rec among = tagged rec among
    tagged_if false news tagged rec among = absurd among

  -- ---- along the trace

  shows_step : (history : List Past) (t : TraceStep) → AreTold history → IsWellSent posts (steps_in history) t → LiesTagged (past_of volume events posts history t)
      → IsReached volume events strings history (judge_at volume events strings none posts history) → ShowsTagged volume events strings none posts (past_of volume events posts history t)
  shows_step history t told sent lies reached =
      let judge : Judge = judge_at volume events strings none posts history in
      tagged_if history judge reached (is_client t.party) (news_in posts t.handed)
      (λ rec among. tagged_news history judge reached told t sent lies t.handed refl rec among)

  pub supplied_from : (steps : List TraceStep) (history : List Past) → AreTold history → AreWellSent posts (steps_in history) steps
      → NodesShowHanded volume posts (steps_in history) steps → ClientPostsTagged volume events posts history steps
      → AllByRecursion (λ p. AllByRecursion (λ rec. IsUnforged volume p.before rec) (records_told p.step.handed)) (pasts_from volume events posts history steps)
      → AllTagged volume events strings none posts history steps
  unfolding AreTold AreWellSent NodesShowHanded ClientPostsTagged pasts_from
  supplied_from [] history told sent shows tags lies = tt
  supplied_from (t ∷ steps) history told sent shows tags lies =
      let p : Past = past_of volume events posts history t in
      let lie : LiesTagged p = λ rec among. among_all (λ r. IsUnforged volume p.before r) (records_told p.step.handed) rec among lies.0 in (
        shows_step history t told sent.0 lie,
        supplied_from steps (p ∷ history) (record { shows = shows.0; tags = tags.0; lies = lie; sent = sent.0 }, told) sent.1 shows.1 tags.1 lies.1,
      )

  pub told_nothing : AreTold []
  unfolding AreTold
  told_nothing = tt
