-- What holds of the history at each step, and that a step keeps it.
use Rattle.std.proofs.Common.{◌≡◌, ℕ, ◌∙◌, Bool, true, false, if◌then◌else◌, List, [], ◌∷◌, ◌++◌, Some, inl, inr, refl, ap, sym, subst, append-nil}
use Rattle.std.specs.Prelude.{fold}
use Rattle.std.proofs.lemmas.Bool.{cond-true, cond-false}
use Rattle.salus_types.specs.Volume.{Shape}
use Rattle.merkle_region.specs.Tree.{IsAmong}
use Rattle.schedule_text.specs.declared.schedule.Volume.{Volume}
use Rattle.schedule_text.specs.declared.schedule.Event.{Event}
use Rattle.salus_model.specs.Judge.{Judge, start_judge, judged_all, AlongLines, IsLegalLine, IsKeptLine, known_at}
use Rattle.salus_model.specs.Hearing.{News, Asks, Says, Crashes, Silence, Past, judge_of, since, opens, refuses, phase_of, phase_by_news, phase_by_line}
use Rattle.salus_model.specs.Waiting.{Taken, joining, taken_in, all_taken}
use Rattle.law_lemmas.proofs.Growing.{extended, Grows, going-grows, tagged-grows, grows_on, extended-nothing}
use Rattle.law_lemmas.proofs.Numbered.{IsSized}
use Rattle.law_lemmas.proofs.Settled.{EachKnown, IsSettled, going-settled}
use Rattle.law_lemmas.proofs.Quiet.{IsQuiet}
use Rattle.law_history.proofs.Fairly.{AreFair, IsKept, fair-kept, fair-going, fair-legal, fair-keeps, fair-phase, fair-opens}
use Rattle.law_history.proofs.Joined.{AreGood}
use Rattle.law_history.specs.Choosing.{ChoosesRightThen, ChoseRight}
use Rattle.law_history.proofs.Heard.{IsHeard}
use Rattle.law_history.proofs.Phases.{PhaseFits, going-phase}

pub heard-grows : (volume : Volume) (before after : Judge) (strings : List (List ℕ)) (news : News) (top : ℕ) → IsSettled volume.geometry before top → Grows before after
    → IsHeard volume before strings news → IsHeard volume after strings news
heard-grows volume before after strings news top settled grows heard = record {
  tagged = λ rec among genuine. tagged-grows volume.geometry volume.key before after rec settled.sized grows (heard.tagged rec among genuine);
  seen = heard.seen;
}

module _ (volume : Volume) (events : List Event) (strings : List (List ℕ)) where
  abbrev shape : Shape
  shape = volume.geometry

  -- what was known at a step of the past is known still
  pub record IsPast (judge : Judge) (q : Past) : Type 0 where
    pub before : Grows q.before judge
    pub sized_before : EachKnown q.before (IsSized shape)
    pub after : Grows (judged_all events q.before q.lines) judge
    pub sized_after : EachKnown (judged_all events q.before q.lines) (IsSized shape)

  pub record IsReached (history : List Past) (judge : Judge) : Type 0 where
    pub first : Grows (start_judge shape) judge
    pub each : (q : Past) → IsAmong q history → IsPast judge q
    pub chose : ChoseRight volume history

  pub grows_still : (a b : Judge) → a ≡ b → Grows a b
  grows_still a b same = λ known e at. ([], subst (λ j. known_at j e ≡ Some (extended known [])) same (at ∙ ap Some (sym (extended-nothing known))))

  pub reached_more : (p : Past) (history : List Past) (after : Judge) (top more : ℕ) → IsSettled shape p.before top → IsSettled shape after more
      → judged_all events p.before p.lines ≡ after → Grows p.before after → IsReached history p.before → ChoosesRightThen volume history p → IsReached (p ∷ history) after
  unfolding ChoseRight
  reached_more p history after top more old new whole grows reached right = record {
    first = grows_on (start_judge shape) p.before after reached.first grows;
    each = λ q among. elim among [
      | inl e ↦ subst (IsPast after) (sym e) (record {
        before = grows;
        sized_before = old.sized;
        after = grows_still (judged_all events p.before p.lines) after whole;
        sized_after = subst (λ j. EachKnown j (IsSized shape)) (sym whole) new.sized;
      })
      | inr m ↦
          let was = reached.each q m in
          record {
            before = grows_on q.before p.before after was.before grows;
            sized_before = was.sized_before;
            after = grows_on (judged_all events q.before q.lines) p.before after was.after grows;
            sized_after = was.sized_after;
          }
    ];
    chose = (right, reached.chose);
  }

  -- the news of a step is heard, and what is chosen then is right
  pub record IsNoticed (history : List Past) (p : Past) : Type 0 where
    pub heard : IsHeard volume p.before strings p.news
    pub right : ChoosesRightThen volume history p

  -- n bounds the events so far, and top the sessions asked for
  pub record IsStanding (n top : ℕ) (history : List Past) (judge : Judge) : Type 0 where
    pub is : judge_of shape events history ≡ judge
    pub settled : IsSettled shape judge top
    pub phase : PhaseFits events judge top (phase_of history)
    pub good : AreGood shape events n (all_taken (since opens history))
    pub kept : IsKept (all_taken (since opens history)) n judge
    pub heard : (p : Past) → IsAmong p history → IsHeard volume judge strings p.news
    pub reached : IsReached history judge

  -- ---- a step more

  no_more : (p : Past) → IsQuiet p.news → taken_in p ≡ []
  no_more p quiet = quiet_taken p.news quiet (refuses p) where
    quiet_taken : (news : News) → IsQuiet news → (t : Bool) → (if t then [] else joining p.step.event news) ≡ []
    quiet_taken (Asks r) none t = absurd none
    quiet_taken (Says name x) none true = refl
    quiet_taken (Says name x) none false = refl
    quiet_taken Crashes none true = refl
    quiet_taken Crashes none false = refl
    quiet_taken Silence none true = refl
    quiet_taken Silence none false = refl

  pub taken_more : (p : Past) (history : List Past) → opens p ≡ false → all_taken (since opens (p ∷ history)) ≡ all_taken (since opens history) ++ taken_in p
  unfolding all_taken since
  taken_more p history e = ap all_taken (cond-false (opens p) [] (p ∷ since opens history) e)

  pub taken_none : (p : Past) (history : List Past) → opens p ≡ true → all_taken (since opens (p ∷ history)) ≡ []
  unfolding all_taken since
  taken_none p history e = ap all_taken (cond-true (opens p) [] (p ∷ since opens history) e)

  pub taken_quiet : (p : Past) (history : List Past) → opens p ≡ false → IsQuiet p.news → all_taken (since opens (p ∷ history)) ≡ all_taken (since opens history)
  taken_quiet p history e quiet = taken_more p history e ∙ (ap (λ l. all_taken (since opens history) ++ l) (no_more p quiet) ∙ append-nil (all_taken (since opens history)))

  pub phase_more : (p : Past) (history : List Past) → phase_of (p ∷ history) ≡ fold phase_by_line (phase_by_news (refuses p) p.news (phase_of history)) p.lines
  unfolding phase_of
  phase_more p history = refl

  pub heard_more : (p : Past) (history : List Past) (after : Judge) (top : ℕ) → IsSettled shape p.before top → Grows p.before after
      → ((q : Past) → IsAmong q history → IsHeard volume p.before strings q.news) → IsHeard volume p.before strings p.news
      → (q : Past) → IsAmong q (p ∷ history) → IsHeard volume after strings q.news
  heard_more p history after top settled grows old new = λ q among. elim among [
    | inl e ↦ subst (λ x. IsHeard volume after strings x.news) (sym e) (heard-grows volume p.before after strings p.news top settled grows new)
    | inr m ↦ heard-grows volume p.before after strings q.news top settled grows (old q m)
  ]

  -- the lines are legal, and the history stands with them
  pub record IsStepped (K : Type 0) (n top : ℕ) (p : Past) (history : List Past) : Type 0 where
    pub legal : AlongLines (IsLegalLine shape events) events p.before p.lines
    pub keeps : K → AlongLines IsKeptLine events p.before p.lines
    pub standing : IsStanding n top (p ∷ history) (judged_all events p.before p.lines)

  -- fair lines: what is taken with the step and the phase after its news are given
  pub stepped_fair : (K : Type 0) (n m top more : ℕ) (p : Past) (history : List Past) → IsStanding n top history p.before → IsNoticed history p
      → (all : List Taken) → AreFair shape events all m p.before p.lines
      → all_taken (since opens (p ∷ history)) ≡ all → AreGood shape events m all → IsKept all m p.before → IsSettled shape p.before more
      → PhaseFits events p.before more (phase_by_news (refuses p) p.news (phase_of history)) → IsStepped K m more p history
  stepped_fair K n m top more p history standing heard all fair same good kept settled phase =
      let going = fair-going shape events all m p.lines p.before fair in
      let after : Judge = judged_all events p.before p.lines in
      record {
        legal = fair-legal shape events all m p.lines p.before fair;
        keeps = λ k. fair-keeps shape events all m p.lines p.before fair;
        standing = record {
          is = refl;
          settled = going-settled p.before after going shape more settled;
          phase = subst (PhaseFits events after more)
              (sym (phase_more p history ∙ fair-phase shape events all m p.lines p.before (phase_by_news (refuses p) p.news (phase_of history)) fair))
              (going-phase p.before after going events more (phase_by_news (refuses p) p.news (phase_of history)) phase);
          good = subst (AreGood shape events m) (sym same) good;
          kept = subst (λ l. IsKept l m after) (sym same) (fair-kept shape events all m p.lines p.before fair kept);
          heard = heard_more p history after more settled (going-grows p.before after going) standing.heard heard.heard;
          reached = reached_more p history after more more settled (going-settled p.before after going shape more settled) refl (going-grows p.before after going) standing.reached heard.right;
        };
      }

  quiet_phase : (top : ℕ) (p : Past) (history : List Past) → IsQuiet p.news → PhaseFits events p.before top (phase_of history)
      → PhaseFits events p.before top (phase_by_news (refuses p) p.news (phase_of history))
  quiet_phase top p history quiet fits = fits_after p.news quiet where
    fits_after : (news : News) → IsQuiet news → PhaseFits events p.before top (phase_by_news (refuses p) news (phase_of history))
    fits_after (Asks r) none = absurd none
    fits_after (Says name x) none = fits
    fits_after Crashes none = tt
    fits_after Silence none = fits

  pub stepped_quiet : (K : Type 0) (n top : ℕ) (p : Past) (history : List Past) → IsStanding n top history p.before → IsNoticed history p → IsQuiet p.news
      → AreFair shape events (all_taken (since opens history)) n p.before p.lines → IsStepped K n top p history
  stepped_quiet K n top p history standing heard quiet fair =
      stepped_fair K n n top top p history standing heard (all_taken (since opens history)) fair
      (taken_quiet p history (fair-opens shape events (all_taken (since opens history)) n p.lines p.before fair) quiet)
      standing.good standing.kept standing.settled (quiet_phase top p history quiet standing.phase)
