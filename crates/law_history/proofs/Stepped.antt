-- A step of the client is legal and keeps what holds of the history.
use Rattle.std.proofs.Common.{◌≡◌, ℕ, ◌+◌, ◌<◌, ◌≤◌, ◌∙◌, Bool, true, false, if◌then◌else◌, List, [], ◌∷◌, ◌++◌, Option, None, Some, inl, inr, refl, ap, sym, subst, arith, append-nil}
use Rattle.std.specs.Prelude.{fold}
use Rattle.std.specs.List.{list_any}
use Rattle.std.proofs.lemmas.Bool.{cond_both, true≢false}
use Rattle.salus_types.specs.Volume.{Shape}
use Rattle.merkle_region.proofs.Membership.{among_either}
use Rattle.schedule_text.specs.declared.schedule.Volume.{Volume}
use Rattle.schedule_text.specs.declared.schedule.Event.{Event}
use Rattle.printed_lines.specs.declared.line.RequestRefusal.{RequestRefusal}
use Rattle.salus_model.specs.declared.trace.Request.{Request}
use Rattle.salus_model.specs.declared.trace.Request.TheVariants as request
use Rattle.salus_model.specs.Judge.{Judge, event_at, is_among, judged_all, AlongLines, IsLegalLine, IsKeptLine}
use Rattle.salus_model.specs.Hearing.{Asks, Past, since, opens, refuses, Phase, phase_of, phase_by_news, phase_by_request, phase_by_line, is_open_line, is_refused_line}
use Rattle.salus_model.specs.Waiting.{Taken, joins, joining, taken_in, all_taken, unended, live, refusal_of}
use Rattle.salus_model.specs.Due.{due_request}
use Rattle.law_lemmas.proofs.Settled.{IsSettled, not_opened, stage-grows, stage-settled, staged_after, opened_after, open-grows, open-settled, open-latest, open-answered, open-acked, settled-wider, below-wider}
use Rattle.law_lemmas.proofs.Quiet.{IsQuiet}
use Rattle.law_history.proofs.Fairly.{IsRequested, AreFair, IsKept, fair-opens}
use Rattle.law_history.proofs.Joined.{AreGood, good_none, good_push, good_wider}
use Rattle.law_history.proofs.Asked.{asked_event, requested, request-fair}
use Rattle.law_history.proofs.Heard.{IsHeard}
use Rattle.law_history.proofs.Rows.{IsStageRow, IsOpenRow, IsLostRow, IsRow}
use Rattle.law_history.proofs.Standing.{IsNoticed, IsStanding, IsStepped, stepped_quiet, stepped_fair, taken_more, taken_none, taken_quiet, phase_more, heard_more, reached_more, grows_still}
use Rattle.law_history.proofs.Phases.{PhaseFits, phase-wider}

module _ (volume : Volume) (events : List Event) (strings : List (List ℕ)) where
  abbrev shape : Shape
  shape = volume.geometry

  -- ---- a message of a node

  stepped_stage : (K : Type 0) (n top : ℕ) (p : Past) (history : List Past) → IsStanding volume events strings n top history p.before → IsNoticed volume events strings history p → IsQuiet p.news
      → IsStageRow K events p.before top p.lines → IsStepped volume events strings K n top p history
  unfolding AlongLines judged_all
  stepped_stage K n top p history standing heard quiet row =
      let after : Judge = staged_after events p.before row.e row.f row.s row.legal in
      let whole : judged_all events p.before p.lines ≡ after = ap (judged_all events p.before) row.is in
      let settled = stage-settled events p.before row.e row.f row.s row.legal shape top row.opening.within standing.settled in
      let same = taken_quiet volume events strings p history (ap (list_any is_open_line) row.is) quiet in
      record {
        legal = subst (AlongLines (IsLegalLine shape events) events p.before) (sym row.is) (row.legal, tt);
        keeps = λ k. subst (AlongLines IsKeptLine events p.before) (sym row.is) (row.keeps k, tt);
        standing = subst (IsStanding volume events strings n top (p ∷ history)) (sym whole) (record {
          is = whole;
          settled = settled;
          phase = subst (PhaseFits events after top)
              (sym (phase_more volume events strings p history ∙ ap (fold phase_by_line (phase_by_news (refuses p) p.news (phase_of history))) row.is))
              (record { last = refl; once = not_opened p.before row.e row.opening.below; within = row.opening.within });
          good = subst (AreGood shape events n) (sym same) standing.good;
          kept = subst (λ l. IsKept l n after) (sym same) (record { late = standing.kept.late; low = standing.kept.low; answered = standing.kept.answered; acked = standing.kept.acked });
          heard = heard_more volume events strings p history after top standing.settled (stage-grows events p.before row.e row.f row.s row.legal) standing.heard heard.heard;
          reached = reached_more volume events strings p history after top top standing.settled settled whole (stage-grows events p.before row.e row.f row.s row.legal) standing.reached heard.right;
        });
      }

  stepped_open : (K : Type 0) (n top : ℕ) (p : Past) (history : List Past) → IsStanding volume events strings n top history p.before → IsNoticed volume events strings history p
      → IsOpenRow p.before top p.lines → IsStepped volume events strings K n top p history
  unfolding AlongLines judged_all
  stepped_open K n top p history standing heard row =
      let after : Judge = opened_after p.before row.e in
      let whole : judged_all events p.before p.lines ≡ after = ap (judged_all events p.before) row.is in
      let same = taken_none volume events strings p history (ap (list_any is_open_line) row.is) in
      record {
        legal = subst (AlongLines (IsLegalLine shape events) events p.before) (sym row.is) (row.legal, tt);
        keeps = λ k. subst (AlongLines IsKeptLine events p.before) (sym row.is) (tt, tt);
        standing = subst (IsStanding volume events strings n top (p ∷ history)) (sym whole) (record {
          is = whole;
          settled = open-settled p.before row.e shape top row.within standing.settled;
          phase = subst (PhaseFits events after top)
              (sym (phase_more volume events strings p history ∙ ap (fold phase_by_line (phase_by_news (refuses p) p.news (phase_of history))) row.is)) tt;
          good = subst (AreGood shape events n) (sym same) (good_none shape events n);
          kept = subst (λ l. IsKept l n after) (sym same) (record {
            late = λ r among. absurd among;
            low = subst (λ v. v < n) (sym (open-latest p.before row.e)) standing.kept.low;
            acked = open-acked p.before row.e shape standing.settled.sized standing.kept.acked;
            answered = λ v among. standing.kept.answered v (subst (λ l. is_among v l ≡ true) (open-answered p.before row.e) among);
          });
          heard = heard_more volume events strings p history after top standing.settled (open-grows p.before row.e) standing.heard heard.heard;
          reached = reached_more volume events strings p history after top top standing.settled (open-settled p.before row.e shape top row.within standing.settled) whole (open-grows p.before row.e) standing.reached heard.right;
        });
      }

  stepped_lost : (K : Type 0) (n top : ℕ) (p : Past) (history : List Past) → IsStanding volume events strings n top history p.before → IsNoticed volume events strings history p → IsQuiet p.news
      → IsLostRow p.lines → IsStepped volume events strings K n top p history
  unfolding AlongLines judged_all
  stepped_lost K n top p history standing heard quiet row =
      let whole : judged_all events p.before p.lines ≡ p.before = ap (judged_all events p.before) row.is in
      let same = taken_quiet volume events strings p history (ap (list_any is_open_line) row.is) quiet in
      record {
        legal = subst (AlongLines (IsLegalLine shape events) events p.before) (sym row.is) (tt, tt);
        keeps = λ k. subst (AlongLines IsKeptLine events p.before) (sym row.is) (tt, tt);
        standing = subst (IsStanding volume events strings n top (p ∷ history)) (sym whole) (record {
          is = whole;
          settled = standing.settled;
          phase = subst (PhaseFits events p.before top)
              (sym (phase_more volume events strings p history ∙ ap (fold phase_by_line (phase_by_news (refuses p) p.news (phase_of history))) row.is)) tt;
          good = subst (AreGood shape events n) (sym same) standing.good;
          kept = subst (λ l. IsKept l n p.before) (sym same) standing.kept;
          heard = λ q among. elim among [ inl e ↦ subst (λ x. IsHeard volume p.before strings x.news) (sym e) heard.heard | inr m ↦ standing.heard q m ];
          reached = reached_more volume events strings p history p.before top top standing.settled standing.settled whole (grows_still volume events strings p.before p.before refl) standing.reached heard.right;
        });
      }

  pub stepped_row : (K : Type 0) (n top : ℕ) (p : Past) (history : List Past) → IsStanding volume events strings n top history p.before → IsNoticed volume events strings history p → IsQuiet p.news
      → IsRow K shape events (all_taken (since opens history)) n top p.before p.lines → IsStepped volume events strings K n top p history
  stepped_row K n top p history standing heard quiet (inl fair) = stepped_quiet volume events strings K n top p history standing heard quiet fair
  stepped_row K n top p history standing heard quiet (inr (inl row)) = stepped_stage K n top p history standing heard quiet row
  stepped_row K n top p history standing heard quiet (inr (inr (inl row))) = stepped_open K n top p history standing heard row
  stepped_row K n top p history standing heard quiet (inr (inr (inr row))) = stepped_lost K n top p history standing heard quiet row

  -- ---- a request

  -- a session that is asked for rises
  abbrev pub IsRising : ℕ → ℕ → Request → Type 0
  IsRising top more (request.Restart e) = (top < e) × (more ≡ e)
  IsRising top more (request.Reassign e g) = (top < e) × (more ≡ e)
  IsRising top more (request.Write batch) = more ≡ top
  IsRising top more (request.Read b) = more ≡ top
  IsRising top more request.Barrier = more ≡ top

  pub rising : (top more : ℕ) (r : Request) → IsRising top more r → top ≤ more
  rising top more (request.Restart e) rises = let above = rises.0 in let same = rises.1 in omega arith
  rising top more (request.Reassign e g) rises = let above = rises.0 in let same = rises.1 in omega arith
  rising top more (request.Write batch) rises = omega arith
  rising top more (request.Read b) rises = omega arith
  rising top more request.Barrier rises = omega arith

  new_phase : (n top more : ℕ) (judge : Judge) (phase : Phase) (r : Request) → IsRising top more r → event_at events n ≡ Some (asked_event r) → IsSettled shape judge top
      → PhaseFits events judge more phase → PhaseFits events judge more (phase_by_request r phase)
  new_phase n top more judge phase (request.Restart e) rises asked settled fits =
      let above = rises.0 in
      let same = rises.1 in
      record { event = n; asked = inl asked; below = below-wider judge (top + 1) e (omega arith) settled.below; within = omega arith }
  new_phase n top more judge phase (request.Reassign e g) rises asked settled fits =
      let above = rises.0 in
      let same = rises.1 in
      record { event = n; asked = inr (g, asked); below = below-wider judge (top + 1) e (omega arith) settled.below; within = omega arith }
  new_phase n top more judge phase (request.Write batch) rises asked settled fits = fits
  new_phase n top more judge phase (request.Read b) rises asked settled fits = fits
  new_phase n top more judge phase request.Barrier rises asked settled fits = fits

  asked_phase : (n top more : ℕ) (judge : Judge) (phase : Phase) (r : Request) (t : Bool) → IsRising top more r → event_at events n ≡ Some (asked_event r) → IsSettled shape judge top
      → PhaseFits events judge top phase → PhaseFits events judge more (phase_by_news t (Asks r) phase)
  asked_phase n top more judge phase r true rises asked settled fits = phase-wider events judge top more phase (rising top more r rises) fits
  asked_phase n top more judge phase r false rises asked settled fits =
      new_phase n top more judge phase r rises asked settled (phase-wider events judge top more phase (rising top more r rises) fits)

  -- the requests with one more, unless it is refused
  pub record IsTaking (n : ℕ) (judge : Judge) (all more : List Taken) : Type 0 where
    pub good : AreGood shape events (n + 1) more
    pub kept : IsKept more (n + 1) judge

  kept_on : (n : ℕ) (judge : Judge) (all : List Taken) → IsKept all n judge → IsKept all (n + 1) judge
  kept_on n judge all kept =
      let low = kept.low in
      record { late = kept.late; low = omega arith; answered = λ v among. (let below = kept.answered v among in omega arith); acked = kept.acked }

  taking_none : (n : ℕ) (judge : Judge) (all : List Taken) → AreGood shape events n all → IsKept all n judge → IsTaking n judge all (all ++ [])
  taking_none n judge all good kept =
      subst (IsTaking n judge all) (sym (append-nil all))
      (record { good = good_wider shape events n (n + 1) all (omega arith) good; kept = kept_on n judge all kept })

  taking_one : (n : ℕ) (judge : Judge) (all : List Taken) (r : Request) → 0 < n → AreGood shape events n all → IsKept all n judge → IsRequested shape events n r
      → IsTaking n judge all (all ++ record { event = n; request = r } ∷ [])
  taking_one n judge all r positive good kept asked =
      let low = kept.low in
      record {
        good = good_push shape events n all (record { event = n; request = r }) good positive refl asked;
        kept = record {
          late = λ x among write waits. elim (among_either x all (record { event = n; request = r } ∷ []) among) [
            | inl old ↦ kept.late x old write waits
            | inr (inl e) ↦ subst (λ v. judge.latest < v) (sym (ap (λ y. y.event) e)) kept.low
            | inr (inr m) ↦ absurd m
          ];
          low = omega arith;
          answered = (kept_on n judge all kept).answered;
          acked = kept.acked;
        };
      }

  taking_joining : (n : ℕ) (judge : Judge) (all : List Taken) (r : Request) → 0 < n → AreGood shape events n all → IsKept all n judge → (joins r ≡ true → IsRequested shape events n r)
      → IsTaking n judge all (all ++ joining n (Asks r))
  taking_joining n judge all r positive good kept asked =
      cond_both {A = List Taken} (joins r) (record { event = n; request = r } ∷ []) [] (λ l. IsTaking n judge all (all ++ l))
      (λ t. taking_one n judge all r positive good kept (asked t))
      (λ t. taking_none n judge all good kept)

  taking : (n : ℕ) (judge : Judge) (all : List Taken) (r : Request) (t : Bool) → 0 < n → AreGood shape events n all → IsKept all n judge
      → (t ≡ false → joins r ≡ true → IsRequested shape events n r) → IsTaking n judge all (all ++ (if t then [] else joining n (Asks r)))
  taking n judge all r true positive good kept asked = taking_none n judge all good kept
  taking n judge all r false positive good kept asked = taking_joining n judge all r positive good kept (asked refl)

  not_refused : (judge : Judge) (requests : List Taken) (n : ℕ) (r : Request) (o : Option RequestRefusal) → list_any is_refused_line (due_request events judge requests n r o) ≡ false → o ≡ None
  not_refused judge requests n r None e = refl
  not_refused judge requests n r (Some cause) e = absurd (true≢false e)

  pub stepped_asked : (K : Type 0) (n top more : ℕ) (p : Past) (history : List Past) → 0 < n → IsStanding volume events strings n top history p.before → IsNoticed volume events strings history p
      → (r : Request) → p.news ≡ Asks r → p.step.event ≡ n → event_at events n ≡ Some (asked_event r) → IsRising top more r
      → p.lines ≡ due_request events p.before (live history p.before) n r (refusal_of shape (phase_of history) p.before (live history p.before) r)
      → IsStepped volume events strings K (n + 1) more p history
  unfolding live
  stepped_asked K n top more p history positive standing heard r news number asked rises is =
      let old : List Taken = all_taken (since opens history) in
      let refused = refusal_of shape (phase_of history) p.before (unended p.before (all_taken (since opens history))) r in
      let take : List Taken = if refuses p then [] else joining n (Asks r) in
      let taken : taken_in p ≡ take =
      ap (λ v. if refuses p then [] else joining v p.news) number ∙ ap (λ x. if refuses p then [] else joining n x) news in
      let got = taking n p.before old r (refuses p) positive standing.good standing.kept
      (λ t joined. requested shape events (phase_of history) p.before (unended p.before old) n r asked joined
      (not_refused p.before (unended p.before old) n r refused (sym (ap (list_any is_refused_line) is) ∙ t))) in
      let fair : AreFair shape events (old ++ take) (n + 1) p.before p.lines =
      subst (AreFair shape events (old ++ take) (n + 1) p.before) (sym is)
      (request-fair shape events n positive p.before (old ++ take) old standing.good standing.kept.answered (phase_of history) r asked refused refl) in
      stepped_fair volume events strings K n (n + 1) top more p history standing heard (old ++ take) fair
      (taken_more volume events strings p history (fair-opens shape events (old ++ take) (n + 1) p.lines p.before fair) ∙ ap (λ l. old ++ l) taken)
      got.good got.kept (settled-wider shape p.before top more (rising top more r rises) standing.settled)
      (subst (λ x. PhaseFits events p.before more (phase_by_news (refuses p) x (phase_of history))) (sym news)
      (asked_phase n top more p.before (phase_of history) r (refuses p) rises asked standing.settled standing.phase))
