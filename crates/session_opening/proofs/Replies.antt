-- What comes of a node's reply, by the rules.
use Rattle.std.proofs.Common.{◌≡◌, ◌∙◌, ℕ, Bool, true, false, ◌==◌, ◌&&◌, not, cond, if◌then◌else◌, List, [], ◌∷◌, ◌++◌, Option, None, Some, refl, sym, ap, ap₂, subst}
use Rattle.std.specs.Prelude.{option_map, IfSome}
use Rattle.std.proofs.lemmas.Bool.{eq-eqb, eqb-true}
use Rattle.std.proofs.lemmas.Option.{same_Some}
use Rattle.salus_types.specs.Volume.{Shape}
use Rattle.salus_types.specs.declared.names.NodeName.{NodeName}
use Rattle.salus_types.specs.declared.records.Header.{Header}
use Rattle.salus_message.specs.declared.carried.Gathered.{Gathered}
use Rattle.salus_message.specs.Ranges.{IsHeld}
use Rattle.schedule_text.specs.Limits.{IsOfVolume}
use Rattle.schedule_text.specs.declared.schedule.Volume.{Volume}
use Rattle.printed_lines.specs.declared.line.Line.TheVariants as line
use Rattle.volume_model.specs.Contents.{blocks_in}
use Rattle.volume_model.specs.Recovering.{Pool, choice_of}
use Rattle.restart_pool.specs.Kept.{Kept}
use Rattle.list_lemmas.proofs.Tests.{way_with}
use Rattle.volume_restart.specs.declared.choice.Choice.{Choice}
use Rattle.volume_restart.specs.declared.restart.Phase.TheVariants as phase
use Rattle.volume_restart.specs.Answers.{all_said, has_said, with_said}
use Rattle.volume_restart.specs.Restarting.{Restarting, counts_reply, kept_by, nothing_gathered, reply_taken, shape_of, with_reply_in}
use Rattle.volume_restart.specs.Choosing.{ChoosesRight, IsChoice, choice_of_header}
use Rattle.volume_restart.specs.Choosing.{chosen as chosen_by}
use Rattle.client_rules.specs.State.{Gathering as AnyGathering, Closed, Gathers, ignored}
use Rattle.client_rules.specs.Opening.{all_answered, chosen, gathered_all, gathered_here, has_answered, staged_from, with_held, with_reply_of}
use Rattle.client_premises.specs.Premises.{PoolIsApart, ReplyIsApart}
use Rattle.session_opening.specs.Answered.{IsSaid}
use Rattle.session_opening.specs.declared.gathering.Gathering.{Gathering}
use Rattle.session_opening.specs.declared.gathering.Turn.TheVariants as turn
use Rattle.session_opening.specs.Gathered.{starts_gathering, GathersAs, IsCounted, IsGathering, IsTurn, IsWhole, Waits}
use Rattle.session_opening.proofs.Tabled.{all_said_is, new_name, nobody_said, said_more}
use Rattle.session_opening.proofs.Counting.{choice_long, choice_low, choice_rooted, choice_sized, held_counted}

-- ---- what is kept after it

module _ (kept : Gathering) (key : List ℕ) (name : NodeName) (m : Gathered) where
  abbrev pub r : Restarting
  r = kept.restart

  abbrev pub after : Gathering
  after = record { session = kept.session; restart = with_reply_in r.phase key r name m }

  taken : r.phase ≡ phase.Gathering → with_reply_in r.phase key r name m ≡ reply_taken key r name m
  taken is = ap (λ p. with_reply_in p key r name m) is

  pub still_gathering : (shape : Shape) → IsGathering shape kept → IsHeld m.held → IsGathering shape after
  still_gathering shape is held =
      subst (λ (x : Restarting). IsGathering shape (record { session = kept.session; restart = x })) (sym (taken is.phase))
      (way_with (counts_reply r name m) (record { session = r.session; phase = r.phase; answers = with_said r.answers name; pool = with_held (shape_of r) key m.held r.pool }) r
      (λ x. IsGathering shape (record { session = kept.session; restart = x }))
      (λ counts. record {
        shape_is = is.shape_is;
        session = is.session;
        phase = is.phase;
        counted = subst (λ s. IsCounted shape (with_held s key m.held r.pool)) (sym is.shape_is) (held_counted shape key m.held r.pool held is.counted);
      })
      (λ no_count. is))

  module _ (volume : Volume) (g : AnyGathering) (is : IsGathering (shape_of r) kept) (geometry : volume.geometry ≡ shape_of r) (same_key : volume.key ≡ key) (of : IsOfVolume (shape_of r) name)
      (stands : GathersAs kept g) (same : m.session ≡ kept.session) where
    abbrev pub next : AnyGathering
    next = with_reply_of volume name m.held g

    said_same : has_said r.answers name ≡ has_answered name g.answered
    said_same = stands.answered.same name of

    stands_by : (t : Bool) → has_said r.answers name ≡ t
        → GathersAs (record { session = kept.session; restart = cond (not t) (record { session = r.session; phase = r.phase; answers = with_said r.answers name; pool = with_held (shape_of r) key m.held r.pool }) r })
        (cond t g (record g { answered = g.answered ++ name ∷ []; pool = with_held volume.geometry volume.key m.held g.pool }))
    stands_by true is_said = stands
    stands_by false is_said = record {
      session = stands.session;
      answered = subst (λ names. IsSaid (with_said r.answers name) names) (new_name name g.answered (sym said_same ∙ is_said)) (said_more r.answers name of g.answered stands.answered);
      pool = ap (λ p. with_held (shape_of r) key m.held p) stands.pool ∙ ap₂ (λ s k. with_held s k m.held g.pool) (sym geometry) (sym same_key);
    }

    counts : counts_reply r name m ≡ not (has_said r.answers name)
    counts = ap (λ t. t && not (has_said r.answers name)) (eq-eqb m.session r.session (same ∙ sym is.session))

    pub stands_after : GathersAs after next
    stands_after =
        let by_said = stands_by (has_said r.answers name) refl in
        let by_answered = subst (λ t. GathersAs (record { session = kept.session; restart = cond (not (has_said r.answers name)) (record { session = r.session; phase = r.phase; answers = with_said r.answers name; pool = with_held (shape_of r) key m.held r.pool }) r })
        (cond t g (record g { answered = g.answered ++ name ∷ []; pool = with_held volume.geometry volume.key m.held g.pool }))) said_same by_said in
        let by_test = subst (λ t. GathersAs (record { session = kept.session; restart = cond t (record { session = r.session; phase = r.phase; answers = with_said r.answers name; pool = with_held (shape_of r) key m.held r.pool }) r }) next) (sym counts) by_answered in
        subst (λ (x : Restarting). GathersAs (record { session = kept.session; restart = x }) next) (sym (taken is.phase)) by_test

    here : (m.session == g.session) ≡ true
    here = eq-eqb m.session g.session (same ∙ stands.session)

    told_all : gathered_here volume g name m ≡ gathered_all volume next
    unfolding gathered_here
    told_all = ap (λ (t : Bool). if t then gathered_all volume (with_reply_of volume name m.held g) else ignored (Gathers g)) here

    shape_after : shape_of (with_reply_in r.phase key r name m) ≡ shape_of r
    shape_after =
        ap shape_of (taken is.phase)
        ∙ way_with (counts_reply r name m) (record { session = r.session; phase = r.phase; answers = with_said r.answers name; pool = with_held (shape_of r) key m.held r.pool }) r (λ x. shape_of x ≡ shape_of r) (λ c. refl) (λ c. refl)

    all_in : all_said (with_reply_in r.phase key r name m).answers ≡ all_answered volume.geometry next.answered
    all_in = all_said_is (with_reply_in r.phase key r name m).answers next.answered stands_after.answered ∙ ap (λ s. all_answered s next.answered) (shape_after ∙ sym geometry)

    pub some_out : all_said (with_reply_in r.phase key r name m).answers ≡ false → Waits after (gathered_here volume g name m)
    some_out out = record {
      next = next;
      stands = stands_after;
      is = told_all ∙ ap (λ (t : Bool). if t then chosen volume next (choice_of volume.geometry next.pool) else ignored (Gathers next)) (sym all_in ∙ out);
    }

    module _ (all : all_said (with_reply_in r.phase key r name m).answers ≡ true) where
      answered_all : all_answered volume.geometry next.answered ≡ true
      answered_all = sym all_in ∙ all

      told_chosen : gathered_here volume g name m ≡ chosen volume next (choice_of volume.geometry next.pool)
      told_chosen = told_all ∙ ap (λ (t : Bool). if t then chosen volume next (choice_of volume.geometry next.pool) else ignored (Gathers next)) answered_all

      abbrev of_next : Kept
      of_next = record { shape = volume.geometry; held = next.pool }

      same_kept : kept_by (with_reply_in r.phase key r name m) ≡ of_next
      same_kept = ap₂ (λ (s : Shape) (p : Pool). record { shape = s; held = p }) (shape_after ∙ sym geometry) stands_after.pool

      right : (found : Option Choice) → ChoosesRight (kept_by (with_reply_in r.phase key r name m)) (found ≡ chosen_by (kept_by (with_reply_in r.phase key r name m))) → ReplyIsApart volume g name m
          → found ≡ option_map (choice_of_header of_next) (choice_of volume.geometry next.pool)
      right found exact apart =
          let pool : PoolIsApart volume.geometry next.pool = apart (same ∙ stands.session) answered_all in
          subst (λ k. ChoosesRight k (found ≡ chosen_by k)) same_kept exact pool.named pool.hashed

      chose_by : (choice : Choice) (o : Option Header) → Some choice ≡ option_map (choice_of_header of_next) o
          → chosen volume next o ≡ staged_from volume next.session choice.session choice.number choice.contents (λ x. blocks_in volume.geometry choice.contents x)
      chose_by choice None is = absurd (cc)
      chose_by choice (Some h) is =
          subst (λ (c : Choice). chosen volume next (Some h) ≡ staged_from volume next.session c.session c.number c.contents (λ x. blocks_in volume.geometry c.contents x))
          (same_Some (choice_of_header of_next h) choice (sym is)) refl

      pub chose : (choice : Choice) → ChoosesRight (kept_by (with_reply_in r.phase key r name m)) (Some choice ≡ chosen_by (kept_by (with_reply_in r.phase key r name m))) → ReplyIsApart volume g name m
          → IsTurn volume after (turn.Chose choice) (gathered_here volume g name m)
      chose choice exact apart =
          told_chosen ∙ chose_by choice (choice_of volume.geometry next.pool) (right (Some choice) exact apart)
          ∙ ap (λ e. staged_from volume e choice.session choice.number choice.contents (λ x. blocks_in volume.geometry choice.contents x)) (sym stands_after.session)

      lost_by : (o : Option Header) → None ≡ option_map (choice_of_header of_next) o → chosen volume next o ≡ record { client = Closed; outs = []; lines = line.Lost next.session ∷ [] }
      lost_by None is = refl
      lost_by (Some h) is = absurd (cc)

      pub lost : ChoosesRight (kept_by (with_reply_in r.phase key r name m)) (None ≡ chosen_by (kept_by (with_reply_in r.phase key r name m))) → ReplyIsApart volume g name m
          → IsTurn volume after turn.Lost (gathered_here volume g name m)
      lost exact apart =
          told_chosen ∙ lost_by (choice_of volume.geometry next.pool) (right None exact apart)
          ∙ ap (λ e. record { client = Closed; outs = []; lines = line.Lost e ∷ [] }) (sym stands_after.session)

  -- a reply of another session
  pub other_session : (volume : Volume) (g : AnyGathering) → GathersAs kept g → (m.session == g.session) ≡ false → Waits kept (gathered_here volume g name m)
  unfolding gathered_here
  other_session volume g stands differ = record {
    next = g;
    stands = stands;
    is = ap (λ (t : Bool). if t then gathered_all volume (with_reply_of volume name m.held g) else ignored (Gathers g)) differ;
  }

-- ---- by what the calls give

module _ (kept : Gathering) (key : List ℕ) (name : NodeName) (m : Gathered) (now : Restarting) (made : now ≡ with_reply_in kept.restart.phase key kept.restart name m)
    (is : IsGathering (shape_of kept.restart) kept) where
  abbrev here_now : Gathering
  here_now = record { session = kept.session; restart = now }

  pub kept_on : IsHeld m.held → IsGathering (shape_of kept.restart) here_now
  kept_on held = subst (λ (x : Restarting). IsGathering (shape_of kept.restart) (record { session = kept.session; restart = x })) (sym made) (still_gathering kept key name m (shape_of kept.restart) is held)

  module _ (of : IsOfVolume (shape_of kept.restart) name) (same : (m.session == kept.session) ≡ true) (volume : Volume) (g : AnyGathering) (geometry : volume.geometry ≡ shape_of kept.restart)
      (same_key : volume.key ≡ key) (stands : GathersAs kept g) where
    session_same : m.session ≡ kept.session
    session_same = eqb-true m.session kept.session same

    pub waits_on : all_said now.answers ≡ false → IsTurn volume here_now turn.Waits (gathered_here volume g name m)
    waits_on out =
        subst (λ (x : Restarting). all_said x.answers ≡ false → Waits (record { session = kept.session; restart = x }) (gathered_here volume g name m)) (sym made)
        (some_out kept key name m volume g is geometry same_key of stands session_same) out

    module _ (apart : ReplyIsApart volume g name m) (found : Option Choice) (all : all_said now.answers ≡ true) (exact : ChoosesRight (kept_by now) (found ≡ chosen_by (kept_by now))) where
      pub chose_on : (choice : Choice) → found ≡ Some choice → IsTurn volume here_now (turn.Chose choice) (gathered_here volume g name m)
      chose_on choice some =
          subst (λ (x : Restarting). all_said x.answers ≡ true → ChoosesRight (kept_by x) (Some choice ≡ chosen_by (kept_by x)) → IsTurn volume (record { session = kept.session; restart = x }) (turn.Chose choice) (gathered_here volume g name m)) (sym made)
          (λ every right. chose kept key name m volume g is geometry same_key of stands session_same every choice right apart) all
          (subst (λ o. ChoosesRight (kept_by now) (o ≡ chosen_by (kept_by now))) some exact)

      pub lost_on : found ≡ None → IsTurn volume here_now turn.Lost (gathered_here volume g name m)
      lost_on none =
          subst (λ (x : Restarting). all_said x.answers ≡ true → ChoosesRight (kept_by x) (None ≡ chosen_by (kept_by x)) → IsTurn volume (record { session = kept.session; restart = x }) turn.Lost (gathered_here volume g name m)) (sym made)
          (λ every right. lost kept key name m volume g is geometry same_key of stands session_same every right apart) all
          (subst (λ o. ChoosesRight (kept_by now) (o ≡ chosen_by (kept_by now))) none exact)

  pub whole_on : IsHeld m.held → (found : Option Choice) → IfSome found (IsChoice (kept_by now)) → (choice : Choice) → found ≡ Some choice → IsWhole (shape_of kept.restart) (turn.Chose choice)
  whole_on held found sound choice some =
      let gathering = kept_on held in
      let chosen_is : IsChoice (kept_by now) choice = subst (λ o. IfSome o (IsChoice (kept_by now))) some sound in
      let counted : IsCounted (shape_of now) now.pool = subst (λ sh. IsCounted sh now.pool) (sym gathering.shape_is) gathering.counted in
      subst (λ sh. IsWhole sh (turn.Chose choice)) gathering.shape_is
      (choice_long (kept_by now) counted choice chosen_is, choice_sized (kept_by now) counted choice chosen_is, choice_low (kept_by now) counted choice chosen_is, choice_rooted (kept_by now) counted choice chosen_is)

-- ---- the first moment

module _ (shape : Shape) (e : ℕ) (made : Restarting) (is : made ≡ nothing_gathered shape e) where
  pub fresh_kept : IsGathering shape (record { session = e; restart = made })
  fresh_kept =
      subst (λ (x : Restarting). IsGathering shape (record { session = e; restart = x })) (sym is)
      (record { shape_is = refl; session = refl; phase = refl; counted = record { bases = tt; parts = tt; headers = tt } })

  pub fresh_stands : GathersAs (record { session = e; restart = made }) (starts_gathering e)
  fresh_stands =
      subst (λ (x : Restarting). GathersAs (record { session = e; restart = x }) (starts_gathering e)) (sym is)
      (record { session = refl; answered = nobody_said shape; pool = refl })
