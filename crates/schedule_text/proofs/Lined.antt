-- A line is read as the event that it spells, or gives the cause.
use Rattle.std.proofs.Common.{lit≤, ◌≡◌, ◌⊎◌, ℕ, ◌<◌, ◌≤◌, Bool, true, false, cond, ltb, List, [], ◌∷◌, length, refl, sym, ap, subst, ◌∙◌, arith, inl, inr}
use Rattle.std.specs.Prelude.{Option, None, Some, Result, Ok, Err, codes}
use Rattle.std.specs.Str.{bytes_eq}
use Rattle.std.specs.List.{AllZip}
use Rattle.std.proofs.lemmas.Bool.{ltb-true, ltb-false, lt-ltb, le-ltb}
use Rattle.std.proofs.lemmas.Option.{none-some}
use Rattle.std.proofs.lemmas.Slice.Eq.{bytes_eq-Decides}
use Rattle.salus_types.specs.Volume.{Shape}
use Rattle.text_words.specs.Grammar.{IsWords}
use Rattle.text_words.specs.Reading.{front, words_of}
use Rattle.text_words.proofs.Settled.{pick_true, pick_false, chosen}
use Rattle.text_words.proofs.Worded.{words-sound, words-only, words_front}
use Rattle.schedule_text.specs.declared.error.Cause.{Cause}
use Rattle.schedule_text.specs.declared.error.Cause.TheVariants as cause
use Rattle.schedule_text.specs.declared.keyword.Keyword.{Keyword}
use Rattle.schedule_text.specs.declared.keyword.Keyword.TheVariants as keyword
use Rattle.schedule_text.specs.declared.schedule.Event.{Event}
use Rattle.schedule_text.specs.declared.schedule.Event.TheVariants as event
use Rattle.schedule_text.specs.Reading.{keyword_of, known_event, words_event, excess_cause, line_event, is_above, ordered, next_event}
use Rattle.schedule_text.specs.Grammar.{Value, Spells, Kind, spelling, first_word, values, HasFewBlocks, IsEventLine, session_of, AreKinds, IsForm, IsWrongLine}
use Rattle.schedule_text.proofs.Decided.{ok-err, same_ok, same_err}
use Rattle.schedule_text.proofs.Keyed.{keyword-sound, keyword-spelled}
use Rattle.schedule_text.proofs.Behind.{IsWrongHere}
use Rattle.schedule_text.proofs.Paired.{spelled-length}
use Rattle.schedule_text.proofs.Meant.{event-reads, event-only}

-- ---- the first word

nameless : (name : List ℕ) (words : List (List ℕ)) → keyword_of name ≡ None → IsForm name words → ⊥
nameless name words none form = none-some form.first (sym none ∙ (ap keyword_of form.named ∙ keyword-spelled form.first))

not_writing : (name : List ℕ) → keyword_of name ≡ None → name ≡ codes "write" → ⊥
not_writing name none is = none-some keyword.Write (sym none ∙ (ap keyword_of is ∙ keyword-spelled keyword.Write))

known-sound : (shape : Shape) (name : List ℕ) (o : Option Keyword) (words : List (List ℕ)) (e : Event) → keyword_of name ≡ o → known_event shape o words ≡ Ok e
    → (name ≡ spelling (first_word e)) × AllZip (Spells shape) (values e) words × HasFewBlocks e
known-sound shape name None words e is h = absurd (ok-err e cause.Word (sym h))
known-sound shape name (Some k) words e is h =
    let p = (event-reads shape k words).sound e h in
    (keyword-sound name k is ∙ ap spelling (sym p.0), p.1, p.2)

known-wrong : (shape : Shape) (name : List ℕ) (o : Option Keyword) (words : List (List ℕ)) (c : Cause) → keyword_of name ≡ o → known_event shape o words ≡ Err c
    → IsWrongHere shape name words c
known-wrong shape name None words c is h =
    inr (inr (inl (sym (same_err {X = Event} _ _ h), λ long. not_writing name is long.0, λ empty. not_writing name is empty.0, nameless name words is)))
known-wrong shape name (Some k) words c is h =
    subst (λ n. IsWrongHere shape n words c) (sym (keyword-sound name k is)) ((event-reads shape k words).wrong c h)

-- ---- a line of too many words

-- what words of another event than a write are, is at most four
few_kinds : (k : Keyword) (kinds : List Kind) → AreKinds k kinds → (k ≡ keyword.Write) ⊎ (length kinds ≤ 4)
few_kinds keyword.Write kinds w = inl refl
few_kinds keyword.Read kinds w = inr (rw w (lit≤ tt))
few_kinds keyword.Barrier kinds w = inr (rw w (lit≤ tt))
few_kinds keyword.Deliver kinds w = inr (rw w (lit≤ tt))
few_kinds keyword.Settle kinds w = inr (rw w (lit≤ tt))
few_kinds keyword.Drop kinds w = inr (rw w (lit≤ tt))
few_kinds keyword.Lie kinds w = inr (rw w (lit≤ tt))
few_kinds keyword.Stop kinds w = inr (rw w (lit≤ tt))
few_kinds keyword.Crash kinds w = inr (rw w (lit≤ tt))
few_kinds keyword.Fail kinds w = inr (rw w (lit≤ tt))
few_kinds keyword.Replace kinds w = inr (rw w (lit≤ tt))
few_kinds keyword.ClientCrash kinds w = inr (rw w (lit≤ tt))
few_kinds keyword.Restart kinds w = inr (rw w (lit≤ tt))
few_kinds keyword.Reassign kinds w = inr (rw w (lit≤ tt))
few_kinds keyword.Tick kinds w = inr (rw w (lit≤ tt))

excess-formless : (name : List ℕ) (words : List (List ℕ)) → 128 < length words → (name ≡ codes "write" → ⊥) → IsForm name words → ⊥
excess-formless name words many other form = elim (few_kinds form.first form.kinds form.are_kinds) [
  | inl e ↦ other (form.named ∙ ap spelling e)
  | inr few ↦ let as_many = form.as_many in omega (arith, as_many, few, many)
]

excess-wrong : (shape : Shape) (name : List ℕ) (words : List (List ℕ)) (c : Cause) (t : Bool) → 128 < length words → bytes_eq name (codes "write") ≡ t
    → c ≡ cond t cause.Long cause.Word → IsWrongHere shape name words c
excess-wrong shape name words c true many is why = inl (why, ((bytes_eq-Decides name (codes "write")).0 is, many))
excess-wrong shape name words c false many is why =
    let other : name ≡ codes "write" → ⊥ = λ e. let eq = (bytes_eq-Decides name (codes "write")).1 e in let both : true ≡ false = sym eq ∙ is in absurd (cc) in
    inr (inr (inl (why, λ long. other long.0, λ empty. other empty.0, excess-formless name words many other)))

-- as many words as values
same_length : (shape : Shape) (vs : List Value) (words : List (List ℕ)) → AllZip (Spells shape) vs words → length words ≡ length vs
same_length shape [] [] w = refl
same_length shape [] (a ∷ words) w = absurd w
same_length shape (v ∷ vs) [] w = absurd w
same_length shape (v ∷ vs) (a ∷ words) w = let e = same_length shape vs words w.1 in omega (arith, e)

short : (shape : Shape) (vs : List Value) (words : List (List ℕ)) → AllZip (Spells shape) vs words → length vs ≤ 4 → length words ≤ 128
short shape vs words w few = let e = same_length shape vs words w in omega (arith, e, few)

-- an event has few words
few_words : (shape : Shape) (e : Event) (words : List (List ℕ)) → AllZip (Spells shape) (values e) words → HasFewBlocks e → length words ≤ 128
few_words shape (event.Write ws) words w few = let long = spelled-length shape ws words w in let most = few.1 in omega (arith, long, most)
few_words shape (event.Read n) words w few = short shape (values (event.Read n)) words w (lit≤ tt)
few_words shape event.Barrier words w few = short shape (values event.Barrier) words w (lit≤ tt)
few_words shape (event.Deliver n) words w few = short shape (values (event.Deliver n)) words w (lit≤ tt)
few_words shape (event.Settle n) words w few = short shape (values (event.Settle n)) words w (lit≤ tt)
few_words shape (event.Drop n) words w few = short shape (values (event.Drop n)) words w (lit≤ tt)
few_words shape (event.Lie a b x) words w few = short shape (values (event.Lie a b x)) words w (lit≤ tt)
few_words shape (event.Stop m n k f) words w few = short shape (values (event.Stop m n k f)) words w (lit≤ tt)
few_words shape (event.Crash n k f) words w few = short shape (values (event.Crash n k f)) words w (lit≤ tt)
few_words shape (event.Fail n m) words w few = short shape (values (event.Fail n m)) words w (lit≤ tt)
few_words shape (event.Replace n) words w few = short shape (values (event.Replace n)) words w (lit≤ tt)
few_words shape event.ClientCrash words w few = short shape (values event.ClientCrash) words w (lit≤ tt)
few_words shape (event.Restart n) words w few = short shape (values (event.Restart n)) words w (lit≤ tt)
few_words shape (event.Reassign n m) words w few = short shape (values (event.Reassign n m)) words w (lit≤ tt)
few_words shape (event.Tick p) words w few = short shape (values (event.Tick p)) words w (lit≤ tt)

-- ---- the whole line

words-split : (line : List ℕ) → (name : List ℕ) × (words : List (List ℕ)) × (words_of line ≡ name ∷ words) × (name ≡ front 32 line)
words-split line = let p = words_front line in (front 32 line, p.0, p.1, refl)

pub line-sound : (shape : Shape) (line : List ℕ) (e : Event) → line_event shape line ≡ Ok e → IsEventLine shape line e
unfolding line_event
line-sound shape line e h = elim (chosen (ltb 129 (length (words_of line))) _ _ _ h) [
  | inl w ↦ absurd (ok-err e (excess_cause line) (sym w.1))
  | inr w ↦
      let s = words-split line in
      let p = known-sound shape s.0 (keyword_of s.0) s.1 e refl (subst (λ ws. words_event shape ws ≡ Ok e) s.2 w.1) in
      record {
        rest = s.1;
        words = subst (λ n. IsWords line (n ∷ s.1)) p.0 (subst (IsWords line) s.2 (words-sound line));
        spelled = p.1;
        few_blocks = p.2;
      }
]

pub line-only : (shape : Shape) (line : List ℕ) (e : Event) → IsEventLine shape line e → line_event shape line ≡ Ok e
unfolding line_event
line-only shape line e w =
    let is = words-only line (spelling (first_word e)) w.rest w.words in
    let few = few_words shape e w.rest w.spelled w.few_blocks in
    let as_many : length (words_of line) ≡ length (spelling (first_word e) ∷ w.rest) = ap length is in
    pick_false (ltb 129 (length (words_of line))) _ _ (le-ltb 129 _ (omega (arith, as_many, few)))
    ∙ (ap (words_event shape) is ∙ (ap (λ o. known_event shape o w.rest) (keyword-spelled (first_word e)) ∙ event-only shape e w.rest w.spelled w.few_blocks))

pub line-wrong : (shape : Shape) (line : List ℕ) (c : Cause) → line_event shape line ≡ Err c
    → (name : List ℕ) × (words : List (List ℕ)) × IsWords line (name ∷ words) × IsWrongHere shape name words c
unfolding line_event
line-wrong shape line c h =
    let s = words-split line in
    let are = subst (IsWords line) s.2 (words-sound line) in
    elim (chosen (ltb 129 (length (words_of line))) _ _ _ h) [
      | inl w ↦
          let many = ltb-true 129 (length (words_of line)) w.0 in
          let as_many : length (words_of line) ≡ length (s.0 ∷ s.1) = ap length s.2 in (
            s.0,
            s.1,
            are,
            excess-wrong shape s.0 s.1 c (bytes_eq s.0 (codes "write")) (omega (arith, many, as_many)) refl
                (sym (same_err {X = Event} _ _ w.1) ∙ ap (λ n. cond (bytes_eq n (codes "write")) cause.Long cause.Word) (sym s.3)),
          )
      | inr w ↦ (s.0, s.1, are, known-wrong shape s.0 (keyword_of s.0) s.1 c refl (subst (λ ws. words_event shape ws ≡ Err c) s.2 w.1))
    ]

-- ---- the order of sessions

-- the session that an event asks to open, if it does, is above that one
abbrev pub IsNext : ℕ → Option ℕ → Type 0
IsNext latest None = Unit {0}
IsNext latest (Some session) = latest < session

above-true : (latest : ℕ) (o : Option ℕ) → is_above latest o ≡ true → IsNext latest o
above-true latest None h = tt
above-true latest (Some session) h = ltb-true latest session h

above-only : (latest : ℕ) (o : Option ℕ) → IsNext latest o → is_above latest o ≡ true
above-only latest None w = refl
above-only latest (Some session) w = lt-ltb latest session w

above-false : (latest : ℕ) (o : Option ℕ) → is_above latest o ≡ false → (session : ℕ) × (o ≡ Some session) × (session ≤ latest)
above-false latest None h = absurd (cc)
above-false latest (Some session) h = (session, refl, ltb-false latest session h)

ordered-ok : (latest : ℕ) (r : Result Event Cause) (e : Event) → ordered latest r ≡ Ok e → (r ≡ Ok e) × IsNext latest (session_of e)
ordered-ok latest (Err c) e h = absurd (ok-err e c (sym h))
ordered-ok latest (Ok f) e h = elim (chosen (is_above latest (session_of f)) _ _ _ h) [
  | inl w ↦
      let is = same_ok {E = Cause} f e w.1 in
      (ap Ok is, subst (λ g. IsNext latest (session_of g)) is (above-true latest (session_of f) w.0))
  | inr w ↦ absurd (ok-err e cause.Order (sym w.1))
]

ordered-err : (latest : ℕ) (r : Result Event Cause) (c : Cause) → ordered latest r ≡ Err c
    → (r ≡ Err c) ⊎ ((c ≡ cause.Order) × ((e : Event) × (r ≡ Ok e) × (is_above latest (session_of e) ≡ false)))
ordered-err latest (Err d) c h = inl h
ordered-err latest (Ok f) c h = elim (chosen (is_above latest (session_of f)) _ _ _ h) [
  | inl w ↦ absurd (ok-err f c w.1)
  | inr w ↦ inr (sym (same_err {X = Event} _ _ w.1), (f, refl, w.0))
]

pub next-sound : (shape : Shape) (latest : ℕ) (line : List ℕ) (e : Event) → next_event shape latest line ≡ Ok e → IsEventLine shape line e × IsNext latest (session_of e)
unfolding next_event
next-sound shape latest line e h = let p = ordered-ok latest (line_event shape line) e h in (line-sound shape line e p.0, p.1)

pub next-only : (shape : Shape) (latest : ℕ) (line : List ℕ) (e : Event) → IsEventLine shape line e → IsNext latest (session_of e) → next_event shape latest line ≡ Ok e
unfolding next_event
next-only shape latest line e w above = ap (ordered latest) (line-only shape line e w) ∙ pick_true _ _ _ (above-only latest (session_of e) above)

here-wrong : (shape : Shape) (latest : ℕ) (line name : List ℕ) (words : List (List ℕ)) (c : Cause) → IsWrongHere shape name words c → IsWrongLine shape latest line name words c
here-wrong shape latest line name words c (inl w) = inl w
here-wrong shape latest line name words c (inr (inl w)) = inr (inl w)
here-wrong shape latest line name words c (inr (inr (inl w))) = inr (inr (inl w))
here-wrong shape latest line name words c (inr (inr (inr w))) = inr (inr (inr (inl w)))

pub next-wrong : (shape : Shape) (latest : ℕ) (line : List ℕ) (c : Cause) → next_event shape latest line ≡ Err c
    → (name : List ℕ) × (words : List (List ℕ)) × IsWords line (name ∷ words) × IsWrongLine shape latest line name words c
unfolding next_event
next-wrong shape latest line c h = elim (ordered-err latest (line_event shape line) c h) [
  | inl w ↦ let p = line-wrong shape line c w in (p.0, p.1, p.2, here-wrong shape latest line p.0 p.1 c p.3)
  | inr w ↦
      let e = w.1.0 in
      let is = line-sound shape line e w.1.1 in
      let late = above-false latest (session_of e) w.1.2 in
      (spelling (first_word e), is.rest, is.words, inr (inr (inr (inr (w.0, record { e = e; is_event = is; session = late.0; asks = late.1; late = late.2 })))))
]
