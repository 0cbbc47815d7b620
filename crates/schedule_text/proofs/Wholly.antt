-- What is read of a text is what the text means, and the first wrong line that is found is that of the text.
use Rattle.std.proofs.Common.{◌≡◌, ◌⊎◌, ℕ, ◌+◌, ◌<◌, ◌≤◌, ltb, eqb, List, [], ◌∷◌, ◌++◌, length, refl, sym, ap, subst, ◌∙◌, arith, inl, inr}
use Rattle.std.specs.Prelude.{Option, None, Some, Result, Ok, Err, codes}
use Rattle.std.specs.Str.{bytes_eq}
use Rattle.std.specs.List.{AllZip}
use Rattle.std.proofs.lemmas.Bool.{ltb-true, ltb-false, lt-ltb, le-ltb, eq-eqb}
use Rattle.std.proofs.lemmas.Option.{same_Some, none-some}
use Rattle.std.proofs.lemmas.Slice.Eq.{bytes_eq-Decides}
use Rattle.salus_types.specs.Volume.{Shape, IsVolume}
use Rattle.text_words.specs.Grammar.{IsLines, IsWords}
use Rattle.text_words.specs.Reading.{front, past, lines_left, words_of, number_of, key_of}
use Rattle.text_words.proofs.Settled.{Settles, chosen, pick_true, pick_false, none_from}
use Rattle.text_words.proofs.Numerals.{number-settles}
use Rattle.text_words.proofs.Hexed.{key-sound, key-only}
use Rattle.text_words.proofs.Rows.{lines-sound, lines-only}
use Rattle.text_words.proofs.Worded.{words-sound, words-only}
use Rattle.schedule_text.specs.declared.error.Cause.{Cause}
use Rattle.schedule_text.specs.declared.error.Cause.TheVariants as cause
use Rattle.schedule_text.specs.declared.error.ScheduleError.{ScheduleError}
use Rattle.schedule_text.specs.declared.schedule.Volume.{Volume}
use Rattle.schedule_text.specs.declared.schedule.Event.{Event}
use Rattle.schedule_text.specs.declared.schedule.Schedule.{Schedule}
use Rattle.schedule_text.specs.Reading.{is_volume, shape_of, shape_from, keyed, volume_words, volume_of, after, at_line, numbered_event, latest_after, after_events, events_from, after_volume, schedule_of}
use Rattle.schedule_text.specs.Grammar.{IsVolumeLine, IsEventLine, IsSchedule, IsWrongVolume, IsWrongLine, IsWrongEvent, IsWrongLater, IsFirstWrong, sessions_of, session_of, RisesFrom, latest_session}
use Rattle.schedule_text.proofs.Decided.{ok-err, same_ok, same_err}
use Rattle.schedule_text.proofs.Shaped.{volume-test, volume-tested}
use Rattle.schedule_text.proofs.Ranged.{IsBreak, events-sound, events-only, break-sound, numbered-only, rises-parts, latest-more}
use Rattle.schedule_text.proofs.Excluded.{wrong-read}

-- ---- the volume

-- what a volume was read of
record IsShaped (a b c d : Option ℕ) (s : Shape) : Type 0 where
  is_a : a ≡ Some s.regions_log
  is_b : b ≡ Some s.height
  is_c : c ≡ Some s.block
  is_d : d ≡ Some s.replicas
  within : IsVolume s

shaped-parts : (a b c d : Option ℕ) (s : Shape) → shape_from a b c d ≡ Some s → IsShaped a b c d s
unfolding shape_of
shaped-parts None b c d s h = absurd (none-some s h)
shaped-parts (Some a) None c d s h = absurd (none-some s h)
shaped-parts (Some a) (Some b) None d s h = absurd (none-some s h)
shaped-parts (Some a) (Some b) (Some c) None s h = absurd (none-some s h)
shaped-parts (Some a) (Some b) (Some c) (Some d) s h =
    elim (chosen (is_volume (record { regions_log = a; height = b; block = c; replicas = d })) _ _ _ h) [
      | inl w ↦
          let is = same_Some _ _ w.1 in
          record {
            is_a = ap (λ (x : Shape). Some x.regions_log) is;
            is_b = ap (λ (x : Shape). Some x.height) is;
            is_c = ap (λ (x : Shape). Some x.block) is;
            is_d = ap (λ (x : Shape). Some x.replicas) is;
            within = subst IsVolume is (volume-tested _ w.0);
          }
      | inr w ↦ absurd (none-some s w.1)
    ]

shaped-only : (s : Shape) → IsVolume s → shape_of s.regions_log s.height s.block s.replicas ≡ Some s
unfolding shape_of
shaped-only s w = pick_true _ _ _ (volume-test s w)

keyed-parts : (o : Option Shape) (p : Option (List ℕ)) (v : Volume) → keyed o p ≡ Some v → (o ≡ Some v.geometry) × (p ≡ Some v.key)
keyed-parts None p v h = absurd (none-some v h)
keyed-parts (Some s) None v h = absurd (none-some v h)
keyed-parts (Some s) (Some key) v h = let is = same_Some _ _ h in (ap (λ (x : Volume). Some x.geometry) is, ap (λ (x : Volume). Some x.key) is)

words-volume : (line : List ℕ) (words : List (List ℕ)) (v : Volume) → IsWords line words → volume_words words ≡ Some v → IsVolumeLine line v
words-volume line [] v are h = absurd (none-some v h)
words-volume line (name ∷ []) v are h = absurd (none-some v h)
words-volume line (name ∷ a ∷ []) v are h = absurd (none-some v h)
words-volume line (name ∷ a ∷ b ∷ []) v are h = absurd (none-some v h)
words-volume line (name ∷ a ∷ b ∷ c ∷ []) v are h = absurd (none-some v h)
words-volume line (name ∷ a ∷ b ∷ c ∷ d ∷ []) v are h = absurd (none-some v h)
words-volume line (name ∷ a ∷ b ∷ c ∷ d ∷ key ∷ []) v are h = elim (chosen (bytes_eq name (codes "volume")) _ _ _ h) [
  | inl w ↦
      let p = keyed-parts (shape_from (number_of a) (number_of b) (number_of c) (number_of d)) (key_of key) v w.1 in
      let s = shaped-parts (number_of a) (number_of b) (number_of c) (number_of d) v.geometry p.0 in
      let k = key-sound key v.key p.1 in
      record {
        regions_log = a;
        height = b;
        block = c;
        replicas = d;
        key = key;
        words = subst (λ n. IsWords line (n ∷ a ∷ b ∷ c ∷ d ∷ key ∷ [])) ((bytes_eq-Decides name (codes "volume")).0 w.0) are;
        is_regions_log = (number-settles a).sound v.geometry.regions_log s.is_a;
        is_height = (number-settles b).sound v.geometry.height s.is_b;
        is_block = (number-settles c).sound v.geometry.block s.is_c;
        is_replicas = (number-settles d).sound v.geometry.replicas s.is_d;
        within = s.within;
        is_key = k.0;
        short_key = k.1;
      }
  | inr w ↦ absurd (none-some v w.1)
]
words-volume line (name ∷ a ∷ b ∷ c ∷ d ∷ key ∷ other ∷ words) v are h = absurd (none-some v h)

volume-sound : (line : List ℕ) (v : Volume) → volume_of line ≡ Some v → IsVolumeLine line v
unfolding volume_of
volume-sound line v h = elim (chosen (eqb (length (words_of line)) 6) _ _ _ h) [
  | inl w ↦ words-volume line (words_of line) v (words-sound line) w.1
  | inr w ↦ absurd (none-some v w.1)
]

volume-only : (line : List ℕ) (v : Volume) → IsVolumeLine line v → volume_of line ≡ Some v
unfolding volume_of
volume-only line v w =
    let is = words-only line (codes "volume") (w.regions_log ∷ w.height ∷ w.block ∷ w.replicas ∷ w.key ∷ []) w.words in
    pick_true (eqb (length (words_of line)) 6) _ _ (eq-eqb (length (words_of line)) 6 (ap length is))
    ∙ (ap volume_words is
    ∙ (ap (λ o. keyed (shape_from o (number_of w.height) (number_of w.block) (number_of w.replicas)) (key_of w.key)) ((number-settles w.regions_log).only v.geometry.regions_log w.is_regions_log)
    ∙ (ap (λ o. keyed (shape_from (Some v.geometry.regions_log) o (number_of w.block) (number_of w.replicas)) (key_of w.key)) ((number-settles w.height).only v.geometry.height w.is_height)
    ∙ (ap (λ o. keyed (shape_from (Some v.geometry.regions_log) (Some v.geometry.height) o (number_of w.replicas)) (key_of w.key)) ((number-settles w.block).only v.geometry.block w.is_block)
    ∙ (ap (λ o. keyed (shape_from (Some v.geometry.regions_log) (Some v.geometry.height) (Some v.geometry.block) o) (key_of w.key)) ((number-settles w.replicas).only v.geometry.replicas w.is_replicas)
    ∙ (ap (λ o. keyed o (key_of w.key)) (shaped-only v.geometry w.within)
    ∙ ap (keyed (Some v.geometry)) (key-only w.key v.key w.is_key w.short_key)))))))

volume-settles : (line : List ℕ) → Settles (volume_of line) (IsVolumeLine line)
volume-settles line = record { sound = volume-sound line; only = volume-only line }

-- ---- the first wrong line is found

numbered-break : (shape : Shape) (latest number before : ℕ) (line : List ℕ) (wrong : ScheduleError) → number ≡ before + 2 → wrong.line ≡ number
    → IsWrongEvent shape before latest line wrong.cause → numbered_event shape latest number line ≡ Err wrong
numbered-break shape latest number before line wrong is at w = by w.wrong
  where
    as_wrong : (c : Cause) → c ≡ wrong.cause → ◌≡◌ {A = Result Event ScheduleError} (Err (record { line = number; cause = c })) (Err wrong)
    as_wrong c e = ap (λ d. Err (record { line = number; cause = d })) e ∙ ap (λ n. Err (record { line = n; cause = wrong.cause })) (sym at)

    by : ((before ≡ 65536) × (wrong.cause ≡ cause.Long)) ⊎ ((before < 65536) × IsWrongLine shape latest line w.name w.words wrong.cause)
        → numbered_event shape latest number line ≡ Err wrong
    by (inl v) = let last = v.0 in ap (at_line number) (pick_true (ltb 65537 number) _ _ (lt-ltb 65537 number (omega (arith, last, is)))) ∙ as_wrong cause.Long (sym v.1)
    by (inr v) =
        let few = v.0 in
        ap (at_line number) (pick_false (ltb 65537 number) _ _ (le-ltb 65537 number (omega (arith, few, is))) ∙ wrong-read shape latest line w.name w.words wrong.cause w.are_words v.1)
        ∙ as_wrong wrong.cause refl

break-only : (shape : Shape) (latest before number : ℕ) (right : List (List ℕ)) (line : List ℕ) (others : List (List ℕ)) (events : List Event) (wrong : ScheduleError)
    → number ≡ before + 2 → AllZip (IsEventLine shape) right events → before + length events ≤ 65536 → RisesFrom latest (sessions_of events)
    → IsWrongEvent shape (before + length events) (latest_session latest (sessions_of events)) line wrong.cause → wrong.line ≡ before + length events + 2
    → events_from shape latest number (right ++ line ∷ others) ≡ Err wrong
unfolding events_from
break-only shape latest before number [] line others [] wrong is are few rising w at =
    let none : before + length {A = Event} [] ≡ before = omega arith in
    ap (λ r. after r (λ e. after_events (e ∷ []) (events_from shape (latest_after latest e) (number + 1) others)))
    (numbered-break shape latest number before line wrong is (omega (arith, at, is)) (subst (λ n. IsWrongEvent shape n latest line wrong.cause) none w))
break-only shape latest before number [] line others (e ∷ events) wrong is are few rising w at = absurd are
break-only shape latest before number (l ∷ right) line others [] wrong is are few rising w at = absurd are
break-only shape latest before number (l ∷ right) line others (e ∷ events) wrong is are few rising w at =
    let parts = rises-parts latest (session_of e) (sessions_of events) rising in
    let one : before + length (e ∷ events) ≡ before + 1 + length events = omega arith in
    let next_is : number + 1 ≡ before + 1 + 2 = omega (arith, is) in
    ap (λ r. after r (λ f. after_events (f ∷ []) (events_from shape (latest_after latest f) (number + 1) (right ++ line ∷ others))))
    (numbered-only shape latest number l e are.0 parts.0 (omega (arith, is, few)))
    ∙ ap (after_events (e ∷ [])) (break-only shape (latest_after latest e) (before + 1) (number + 1) right line others events wrong next_is are.1 (omega (arith, few)) parts.1
    (subst (λ n. IsWrongEvent shape n (latest_session (latest_after latest e) (sessions_of events)) line wrong.cause) one
    (subst (λ n. IsWrongEvent shape (before + length (e ∷ events)) n line wrong.cause) (sym (latest-more latest (session_of e) (sessions_of events))) w))
    (omega (arith, at)))

-- ---- a schedule

with-ok : (v : Volume) (r : Result (List Event) ScheduleError) (s : Schedule) → after r (λ events. Ok (record { volume = v; events = events })) ≡ Ok s
    → (v ≡ s.volume) × (r ≡ Ok s.events)
with-ok v (Ok events) s h = let is = same_ok {E = ScheduleError} _ s h in (ap (λ (x : Schedule). x.volume) is, ap (λ (x : Schedule). Ok x.events) is)
with-ok v (Err wrong) s h = absurd (ok-err s wrong (sym h))

with-err : (v : Volume) (r : Result (List Event) ScheduleError) (wrong : ScheduleError)
    → ◌≡◌ {A = Result Schedule ScheduleError} (after r (λ events. Ok (record { volume = v; events = events }))) (Err wrong) → r ≡ Err wrong
with-err v (Ok events) wrong h = absurd (ok-err {X = Schedule} _ wrong h)
with-err v (Err w) wrong h = ap Err (same_err {X = Schedule} w wrong h)

after-ok : (o : Option Volume) (lines : List (List ℕ)) (s : Schedule) → after_volume o lines ≡ Ok s
    → (o ≡ Some s.volume) × (events_from s.volume.geometry 1 2 lines ≡ Ok s.events)
after-ok None lines s h = absurd (ok-err s _ (sym h))
after-ok (Some v) lines s h =
    let p = with-ok v (events_from v.geometry 1 2 lines) s h in
    (ap Some p.0, subst (λ (u : Volume). events_from u.geometry 1 2 lines ≡ Ok s.events) p.0 p.1)

pub schedule-sound : (text : List ℕ) (s : Schedule) → schedule_of text ≡ Ok s → IsSchedule text s
unfolding schedule_of
schedule-sound text s h = elim (chosen (ltb 67108864 (length text)) _ _ _ h) [
  | inl w ↦ absurd (ok-err s _ (sym w.1))
  | inr w ↦
      let p = after-ok (volume_of (front 10 text)) (lines_left (past 10 text)) s w.1 in
      let events = events-sound s.volume.geometry 1 2 (lines_left (past 10 text)) s.events (omega arith) p.1 in
      let few = events.1 in
      record {
        first = front 10 text;
        others = lines_left (past 10 text);
        short = ltb-false 67108864 (length text) w.0;
        lines = lines-sound text;
        volume = (volume-settles (front 10 text)).sound s.volume p.0;
        events = events.0;
        few = omega (arith, few);
        rising = events.2;
      }
]

heads : (first front : List ℕ) (others lines : List (List ℕ)) → first ∷ others ≡ front ∷ lines → (first ≡ front) × (others ≡ lines)
heads first front others lines h = (cc, cc)

pub schedule-only : (text : List ℕ) (s : Schedule) → IsSchedule text s → schedule_of text ≡ Ok s
unfolding schedule_of
schedule-only text s w =
    let p = heads _ _ _ _ (lines-only text (w.first ∷ w.others) w.lines) in
    let few = w.few in
    pick_false (ltb 67108864 (length text)) _ _ (le-ltb 67108864 (length text) w.short)
    ∙ (ap (λ l. after_volume (volume_of l) (lines_left (past 10 text))) (sym p.0)
    ∙ (ap (λ ls. after_volume (volume_of w.first) ls) (sym p.1)
    ∙ (ap (λ o. after_volume o w.others) ((volume-settles w.first).only s.volume w.volume)
    ∙ ap (λ r. after r (λ events. Ok (record { volume = s.volume; events = events }))) (events-only s.volume.geometry 1 2 w.others s.events w.events (omega (arith, few)) w.rising))))

-- ---- the first wrong line

later_wrong : (text : List ℕ) (v : Volume) (wrong : ScheduleError) → volume_of (front 10 text) ≡ Some v → IsBreak v.geometry 1 0 (lines_left (past 10 text)) wrong
    → IsWrongLater text wrong.line wrong.cause
later_wrong text v wrong is w =
    let few = w.few in
    let is_at = w.is_at in
    let none : 0 + length w.events ≡ length w.events = omega arith in
    record {
      first = front 10 text;
      right = w.right;
      wrong = w.line;
      others = w.others;
      volume = v;
      before = w.events;
      lines = subst (λ ls. IsLines text (front 10 text ∷ ls)) w.split (lines-sound text);
      is_volume = (volume-settles (front 10 text)).sound v is;
      are_events = w.are_events;
      few = omega (arith, few);
      rising = w.rising;
      is_wrong = subst (λ n. IsWrongEvent v.geometry n (latest_session 1 (sessions_of w.events)) w.line wrong.cause) none w.is_wrong;
      is_number = omega (arith, is_at);
    }

-- what the text's length leaves open
abbrev IsWrongShort : List ℕ → ScheduleError → Type 0
IsWrongShort text wrong = ((wrong.line ≡ 1) × (wrong.cause ≡ cause.Volume) × IsWrongVolume text) ⊎ IsWrongLater text wrong.line wrong.cause

line_wrong : (text : List ℕ) (wrong : ScheduleError) (o : Option Volume) → volume_of (front 10 text) ≡ o → after_volume o (lines_left (past 10 text)) ≡ Err wrong → IsWrongShort text wrong
line_wrong text wrong None is h =
    let e = same_err {X = Schedule} _ wrong h in
    inl (
      sym (ap (λ (w : ScheduleError). w.line) e),
      sym (ap (λ (w : ScheduleError). w.cause) e),
      record {
        first = front 10 text;
        others = lines_left (past 10 text);
        lines = lines-sound text;
        wrong = λ v w. none-some v (sym is ∙ (volume-settles (front 10 text)).only v w);
      },
    )
line_wrong text wrong (Some v) is h =
    inr (later_wrong text v wrong is (break-sound v.geometry 1 0 2 (lines_left (past 10 text)) wrong refl (omega arith) (with-err v _ wrong h)))

pub wrong-sound : (text : List ℕ) (wrong : ScheduleError) → schedule_of text ≡ Err wrong → IsFirstWrong text wrong
unfolding schedule_of
wrong-sound text wrong h = elim (chosen (ltb 67108864 (length text)) _ _ _ h) [
  | inl w ↦
      let e = same_err {X = Schedule} _ wrong w.1 in
      inl (sym (ap (λ (x : ScheduleError). x.line) e), sym (ap (λ (x : ScheduleError). x.cause) e), ltb-true 67108864 (length text) w.0)
  | inr w ↦
      let short = ltb-false 67108864 (length text) w.0 in
      elim (line_wrong text wrong (volume_of (front 10 text)) refl w.1) [
        | inl v ↦ inr (inl (short, v.0, v.1, v.2))
        | inr v ↦ inr (inr (short, v))
      ]
]

same_wrong : (wrong : ScheduleError) (n : ℕ) (c : Cause) → wrong.line ≡ n → wrong.cause ≡ c → ◌≡◌ {A = Result Schedule ScheduleError} (Err (record { line = n; cause = c })) (Err wrong)
same_wrong wrong n c is why = ap (λ m. Err (record { line = m; cause = c })) (sym is) ∙ ap (λ d. Err (record { line = wrong.line; cause = d })) (sym why)

volume_wrong : (text : List ℕ) (wrong : ScheduleError) → wrong.line ≡ 1 → wrong.cause ≡ cause.Volume → IsWrongVolume text
    → after_volume (volume_of (front 10 text)) (lines_left (past 10 text)) ≡ Err wrong
volume_wrong text wrong is why w =
    let p = heads _ _ _ _ (lines-only text (w.first ∷ w.others) w.lines) in
    ap (λ l. after_volume (volume_of l) (lines_left (past 10 text))) (sym p.0)
    ∙ (ap (λ o. after_volume o (lines_left (past 10 text))) (none_from (volume_of w.first) (λ v e. w.wrong v ((volume-settles w.first).sound v e)))
    ∙ same_wrong wrong 1 cause.Volume is why)

event_wrong : (text : List ℕ) (wrong : ScheduleError) → IsWrongLater text wrong.line wrong.cause → after_volume (volume_of (front 10 text)) (lines_left (past 10 text)) ≡ Err wrong
event_wrong text wrong w =
    let p = heads _ _ _ _ (lines-only text (w.first ∷ (w.right ++ w.wrong ∷ w.others)) w.lines) in
    let few = w.few in
    let is_number = w.is_number in
    let none : length w.before ≡ 0 + length w.before = omega arith in
    ap (λ l. after_volume (volume_of l) (lines_left (past 10 text))) (sym p.0)
    ∙ (ap (λ ls. after_volume (volume_of w.first) ls) (sym p.1)
    ∙ (ap (λ o. after_volume o (w.right ++ w.wrong ∷ w.others)) ((volume-settles w.first).only w.volume w.is_volume)
    ∙ ap (λ r. after r (λ events. Ok (record { volume = w.volume; events = events })))
    (break-only w.volume.geometry 1 0 2 w.right w.wrong w.others w.before wrong refl w.are_events (omega (arith, few)) w.rising
    (subst (λ n. IsWrongEvent w.volume.geometry n (latest_session 1 (sessions_of w.before)) w.wrong wrong.cause) none w.is_wrong) (omega (arith, is_number)))))

pub wrong-only : (text : List ℕ) (wrong : ScheduleError) → IsFirstWrong text wrong → schedule_of text ≡ Err wrong
unfolding schedule_of
wrong-only text wrong (inl w) = pick_true (ltb 67108864 (length text)) _ _ (lt-ltb 67108864 (length text) w.2) ∙ same_wrong wrong 0 cause.Long w.0 w.1
wrong-only text wrong (inr (inl w)) = pick_false (ltb 67108864 (length text)) _ _ (le-ltb 67108864 (length text) w.0) ∙ volume_wrong text wrong w.1 w.2 w.3
wrong-only text wrong (inr (inr w)) = pick_false (ltb 67108864 (length text)) _ _ (le-ltb 67108864 (length text) w.0) ∙ event_wrong text wrong w.1

-- ---- what follows for every text

-- no text has two meanings
pub one_schedule : (text : List ℕ) (s other : Schedule) → IsSchedule text s → IsSchedule text other → other ≡ s
one_schedule text s other w v = same_ok {E = ScheduleError} other s (sym (schedule-only text other v) ∙ schedule-only text s w)

-- a text with a first wrong line is no schedule's
pub wrong-none : (text : List ℕ) (wrong : ScheduleError) (s : Schedule) → IsFirstWrong text wrong → IsSchedule text s → ⊥
wrong-none text wrong s w v = ok-err s wrong (sym (schedule-only text s v) ∙ wrong-only text wrong w)
