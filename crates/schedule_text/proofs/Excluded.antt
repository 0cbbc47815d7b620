-- A line is wrong for one cause alone, and then it is no event.
use Rattle.std.proofs.Common.{◌≡◌, ◌⊎◌, ℕ, ◌≤◌, false, ltb, List, [], ◌∷◌, length, map, refl, sym, ap, subst, ◌∙◌, arith, inl, inr}
use Rattle.std.specs.Prelude.{Option, Some, Result, Ok, Err, codes}
use Rattle.std.specs.List.{AllZip, flat_map}
use Rattle.std.proofs.lemmas.Bool.{lt-ltb, le-ltb}
use Rattle.std.proofs.lemmas.Slice.Eq.{bytes_eq-Decides}
use Rattle.salus_types.specs.Volume.{Shape}
use Rattle.salus_types.specs.declared.records.Write.{Write}
use Rattle.text_words.specs.Grammar.{IsWords, IsBlock}
use Rattle.text_words.specs.Reading.{front, words_of}
use Rattle.text_words.proofs.Settled.{pick_true, pick_false}
use Rattle.text_words.proofs.Worded.{words-only, words_front}
use Rattle.schedule_text.specs.declared.error.Cause.{Cause}
use Rattle.schedule_text.specs.declared.error.Cause.TheVariants as cause
use Rattle.schedule_text.specs.declared.keyword.Keyword.{Keyword}
use Rattle.schedule_text.specs.declared.keyword.Keyword.TheVariants as keyword
use Rattle.schedule_text.specs.declared.schedule.Event.{Event}
use Rattle.schedule_text.specs.declared.schedule.Event.TheVariants as event
use Rattle.schedule_text.specs.Reading.{keyword_of, words_event, event_of, write_of, line_event, is_above, ordered, next_event}
use Rattle.schedule_text.specs.Grammar.{Value, Number, Count, Node, Party, Block, Bytes, Fill, Spells, Kind, ANumber, ACount, ANode, AParty, ABlock, SomeBytes, AFill, spelling, first_word, values, pair_values, session_of, IsNone, IsWrongBlock, IsWrongWord, IsRightWord, IsFirstWrongWord, pair_kinds, AreKinds, IsForm, IsLongWrite, IsEmptyWrite, HasWrongWord, IsWrongLine}
use Rattle.schedule_text.proofs.Keyed.{same_keyword}
use Rattle.schedule_text.proofs.Behind.{IsWrongHere}
use Rattle.schedule_text.proofs.Paired.{kinds-length}
use Rattle.schedule_text.proofs.Lined.{line-sound, line-only, line-wrong}

-- ---- the kinds of an event's words

abbrev kind_of : Value → Kind
kind_of (Number n) = ANumber
kind_of (Count n) = ACount
kind_of (Node name) = ANode
kind_of (Party who) = AParty
kind_of (Block bytes) = ABlock
kind_of (Bytes bytes) = SomeBytes
kind_of (Fill b) = AFill

abbrev kinds_of : List Value → List Kind
kinds_of vs = map kind_of vs

pairs_kinds : (ws : List Write) → kinds_of (flat_map pair_values ws) ≡ pair_kinds (length ws)
pairs_kinds [] = refl
pairs_kinds (w ∷ ws) = ap (λ ks. ANumber ∷ ABlock ∷ ks) (pairs_kinds ws)

kinds-are : (e : Event) → AreKinds (first_word e) (kinds_of (values e))
kinds-are (event.Write ws) = (length ws, pairs_kinds ws)
kinds-are (event.Read n) = refl
kinds-are event.Barrier = refl
kinds-are (event.Deliver n) = refl
kinds-are (event.Settle n) = refl
kinds-are (event.Drop n) = refl
kinds-are (event.Lie a b x) = refl
kinds-are (event.Stop m n k f) = refl
kinds-are (event.Crash n k f) = refl
kinds-are (event.Fail n m) = refl
kinds-are (event.Replace n) = refl
kinds-are event.ClientCrash = refl
kinds-are (event.Restart n) = refl
kinds-are (event.Reassign n m) = refl
kinds-are (event.Tick p) = refl

same_pairs : (n m : ℕ) → length (pair_kinds n) ≡ length (pair_kinds m) → n ≡ m
same_pairs n m h = let a = kinds-length n in let b = kinds-length m in omega (arith, a, b, h)

same_kinds : (k : Keyword) (ks ls : List Kind) → AreKinds k ks → AreKinds k ls → length ks ≡ length ls → ks ≡ ls
same_kinds keyword.Write ks ls v w h =
    v.1 ∙ (ap pair_kinds (same_pairs v.0 w.0 (sym (ap length v.1) ∙ (h ∙ ap length w.1))) ∙ sym w.1)
same_kinds keyword.Read ks ls v w h = v ∙ sym w
same_kinds keyword.Barrier ks ls v w h = v ∙ sym w
same_kinds keyword.Deliver ks ls v w h = v ∙ sym w
same_kinds keyword.Settle ks ls v w h = v ∙ sym w
same_kinds keyword.Drop ks ls v w h = v ∙ sym w
same_kinds keyword.Lie ks ls v w h = v ∙ sym w
same_kinds keyword.Stop ks ls v w h = v ∙ sym w
same_kinds keyword.Crash ks ls v w h = v ∙ sym w
same_kinds keyword.Fail ks ls v w h = v ∙ sym w
same_kinds keyword.Replace ks ls v w h = v ∙ sym w
same_kinds keyword.ClientCrash ks ls v w h = v ∙ sym w
same_kinds keyword.Restart ks ls v w h = v ∙ sym w
same_kinds keyword.Reassign ks ls v w h = v ∙ sym w
same_kinds keyword.Tick ks ls v w h = v ∙ sym w

as_many : (shape : Shape) (vs : List Value) (words : List (List ℕ)) → AllZip (Spells shape) vs words → length (kinds_of vs) ≡ length words
as_many shape [] [] w = refl
as_many shape [] (a ∷ words) w = absurd w
as_many shape (v ∷ vs) [] w = absurd w
as_many shape (v ∷ vs) (a ∷ words) w = let e = as_many shape vs words w.1 in omega (arith, e)

-- the form of an event's words
abbrev event-form : (shape : Shape) (e : Event) (name : List ℕ) (words : List (List ℕ)) → name ≡ spelling (first_word e) → AllZip (Spells shape) (values e) words → IsForm name words
event-form shape e name words is w =
    record { first = first_word e; kinds = kinds_of (values e); named = is; are_kinds = kinds-are e; as_many = as_many shape (values e) words w }

-- two forms of the same words have the same kinds
one_form : (name : List ℕ) (words : List (List ℕ)) (f g : IsForm name words) → f.kinds ≡ g.kinds
one_form name words f g =
    let same = same_keyword f.first g.first (sym f.named ∙ g.named) in
    same_kinds g.first f.kinds g.kinds (subst (λ k. AreKinds k f.kinds) same f.are_kinds) g.are_kinds (f.as_many ∙ sym g.as_many)

-- ---- a wrong word

one-block : (size : ℕ) (word : List ℕ) (c d : Cause) → IsWrongBlock size word c → IsWrongBlock size word d → c ≡ d
one-block size word c d (inl v) (inl w) = v.0 ∙ sym w.0
one-block size word c d (inl v) (inr w) = absurd (v.2 w.2.0 w.2.1)
one-block size word c d (inr v) (inl w) = absurd (w.2 v.2.0 v.2.1)
one-block size word c d (inr v) (inr w) = v.0 ∙ sym w.0

one-cause : (shape : Shape) (kind : Kind) (word : List ℕ) (c d : Cause) → IsWrongWord shape kind word c → IsWrongWord shape kind word d → c ≡ d
one-cause shape ANumber word c d v w = v.0 ∙ sym w.0
one-cause shape ACount word c d v w = v.0 ∙ sym w.0
one-cause shape ANode word c d v w = v.0 ∙ sym w.0
one-cause shape AParty word c d v w = v.0 ∙ sym w.0
one-cause shape ABlock word c d v w = one-block shape.block word c d v w
one-cause shape SomeBytes word c d v w = v.0 ∙ sym w.0
one-cause shape AFill word c d v w = v.0 ∙ sym w.0

block-not : (size : ℕ) (word : List ℕ) (c : Cause) → IsWrongBlock size word c → IsNone (IsBlock size word)
block-not size word c (inl v) = v.1
block-not size word c (inr v) = v.1

wrong-right : (shape : Shape) (kind : Kind) (word : List ℕ) (c : Cause) → IsWrongWord shape kind word c → IsRightWord shape kind word → ⊥
wrong-right shape ANumber word c v w = v.1 w.0 w.1
wrong-right shape ACount word c v w = v.1 w.0 w.1
wrong-right shape ANode word c v w = v.1 w.0 w.1
wrong-right shape AParty word c v w = v.1 w.0 w.1
wrong-right shape ABlock word c v w = block-not shape.block word c v w.0 w.1
wrong-right shape SomeBytes word c v w = v.1 w.0 w.1
wrong-right shape AFill word c v w = v.1 w.0 w.1

spells-right : (shape : Shape) (v : Value) (word : List ℕ) → Spells shape v word → IsRightWord shape (kind_of v) word
spells-right shape (Number n) word w = (n, w)
spells-right shape (Count n) word w = (n, w)
spells-right shape (Node name) word w = (name, w)
spells-right shape (Party who) word w = (who, w)
spells-right shape (Block bytes) word w = (bytes, w)
spells-right shape (Bytes bytes) word w = (bytes, w)
spells-right shape (Fill b) word w = (b, w)

first-cause : (shape : Shape) (kinds : List Kind) (words : List (List ℕ)) (c d : Cause) → IsFirstWrongWord shape kinds words c → IsFirstWrongWord shape kinds words d → c ≡ d
first-cause shape [] words c d v w = absurd v
first-cause shape (k ∷ kinds) [] c d v w = absurd v
first-cause shape (k ∷ kinds) (a ∷ words) c d (inl v) (inl w) = one-cause shape k a c d v w
first-cause shape (k ∷ kinds) (a ∷ words) c d (inl v) (inr w) = absurd (wrong-right shape k a c v w.0)
first-cause shape (k ∷ kinds) (a ∷ words) c d (inr v) (inl w) = absurd (wrong-right shape k a d w v.0)
first-cause shape (k ∷ kinds) (a ∷ words) c d (inr v) (inr w) = first-cause shape kinds words c d v.1 w.1

never-wrong : (shape : Shape) (vs : List Value) (words : List (List ℕ)) (c : Cause) → AllZip (Spells shape) vs words → IsFirstWrongWord shape (kinds_of vs) words c → ⊥
never-wrong shape [] [] c v w = w
never-wrong shape [] (a ∷ words) c v w = v
never-wrong shape (x ∷ vs) [] c v w = v
never-wrong shape (x ∷ vs) (a ∷ words) c v (inl w) = wrong-right shape (kind_of x) a c w (spells-right shape x a v.0)
never-wrong shape (x ∷ vs) (a ∷ words) c v (inr w) = never-wrong shape vs words c v.1 w.1

-- ---- a line's words are wrong for one cause

-- but for too many words and for none, which are read as such
abbrev IsPlain : Shape → List ℕ → List (List ℕ) → Cause → Type 0
IsPlain shape name words why =
    ((why ≡ cause.Word) × ¬ IsLongWrite name words × ¬ IsEmptyWrite name words × ¬ IsForm name words)
    ⊎ (¬ IsLongWrite name words × ¬ IsEmptyWrite name words × HasWrongWord shape name words why)

plain-not : (shape : Shape) (name : List ℕ) (words : List (List ℕ)) (c : Cause) (e : Event) → IsPlain shape name words c
    → name ≡ spelling (first_word e) → AllZip (Spells shape) (values e) words → ⊥
plain-not shape name words c e (inl w) is spelled = w.3 (event-form shape e name words is spelled)
plain-not shape name words c e (inr w) is spelled =
    let form = event-form shape e name words is spelled in
    let bad = w.2 in
    never-wrong shape (values e) words c spelled (subst (λ ks. IsFirstWrongWord shape ks words c) (one_form name words bad.form form) bad.wrong)

plain-one : (shape : Shape) (name : List ℕ) (words : List (List ℕ)) (c d : Cause) → IsPlain shape name words c → IsWrongHere shape name words d → d ≡ c
plain-one shape name words c d (inl w) (inl v) = absurd (w.1 v.1)
plain-one shape name words c d (inr w) (inl v) = absurd (w.0 v.1)
plain-one shape name words c d (inl w) (inr (inl v)) = absurd (w.2 v.1)
plain-one shape name words c d (inr w) (inr (inl v)) = absurd (w.1 v.1)
plain-one shape name words c d (inl w) (inr (inr (inl v))) = v.0 ∙ sym w.0
plain-one shape name words c d (inr w) (inr (inr (inl v))) = let bad = w.2 in absurd (v.3 bad.form)
plain-one shape name words c d (inl w) (inr (inr (inr v))) = let bad = v.2 in absurd (w.3 bad.form)
plain-one shape name words c d (inr w) (inr (inr (inr v))) =
    let bad = w.2 in
    let good = v.2 in
    first-cause shape bad.form.kinds words d c (subst (λ ks. IsFirstWrongWord shape ks words d) (one_form name words good.form bad.form) good.wrong) bad.wrong

same_words : (line name other : List ℕ) (words others : List (List ℕ)) → IsWords line (name ∷ words) → IsWords line (other ∷ others) → (name ≡ other) × (words ≡ others)
same_words line name other words others v w =
    let e : name ∷ words ≡ other ∷ others = sym (words-only line name words v) ∙ words-only line other others w in (cc, cc)

plain-read : (shape : Shape) (line name : List ℕ) (words : List (List ℕ)) (c : Cause) (r : Result Event Cause) → line_event shape line ≡ r → IsWords line (name ∷ words)
    → IsPlain shape name words c → r ≡ Err c
plain-read shape line name words c (Ok e) is are w =
    let at = line-sound shape line e is in
    let same = same_words line name (spelling (first_word e)) words at.rest are at.words in
    absurd (plain-not shape name words c e w same.0 (subst (λ ws. AllZip (Spells shape) (values e) ws) (sym same.1) at.spelled))
plain-read shape line name words c (Err d) is are w =
    let at = line-wrong shape line d is in
    let same = same_words line name at.0 words at.1 are at.2 in
    ap Err (plain-one shape name words c d w (subst (λ n. IsWrongHere shape n words d) (sym same.0) (subst (λ ws. IsWrongHere shape at.0 ws d) (sym same.1) at.3)))

-- ---- every cause is read

name_front : (line name : List ℕ) (words : List (List ℕ)) → IsWords line (name ∷ words) → front 32 line ≡ name
name_front line name words w =
    let p = words_front line in
    let e : front 32 line ∷ p.0 ≡ name ∷ words = sym p.1 ∙ words-only line name words w in cc

long-read : (shape : Shape) (line name : List ℕ) (words : List (List ℕ)) → IsWords line (name ∷ words) → IsLongWrite name words → line_event shape line ≡ Err cause.Long
unfolding line_event
long-read shape line name words are w =
    let many = w.1 in
    let count : length (words_of line) ≡ length (name ∷ words) = ap length (words-only line name words are) in
    pick_true (ltb 129 (length (words_of line))) _ _ (lt-ltb 129 _ (omega (arith, count, many)))
    ∙ ap Err (pick_true _ _ _ ((bytes_eq-Decides (front 32 line) (codes "write")).1 (name_front line name words are ∙ w.0)))

empty-line : (shape : Shape) → words_event shape (codes "write" ∷ []) ≡ Err cause.Empty
unfolding keyword_of event_of write_of
empty-line shape = refl

empty-read : (shape : Shape) (line name : List ℕ) (words : List (List ℕ)) → IsWords line (name ∷ words) → IsEmptyWrite name words → line_event shape line ≡ Err cause.Empty
unfolding line_event
empty-read shape line name words are w =
    let is : words_of line ≡ codes "write" ∷ [] = words-only line name words are ∙ (ap (λ n. n ∷ words) w.0 ∙ ap (λ ws. codes "write" ∷ ws) w.1) in
    let count : length (words_of line) ≡ 1 = ap length is in
    pick_false (ltb 129 (length (words_of line))) _ _ (le-ltb 129 _ (omega (arith, count))) ∙ (ap (words_event shape) is ∙ empty-line shape)

late : (latest session : ℕ) (o : Option ℕ) → o ≡ Some session → session ≤ latest → is_above latest o ≡ false
late latest session o is not_above = ap (is_above latest) is ∙ le-ltb latest session not_above

pub wrong-read : (shape : Shape) (latest : ℕ) (line name : List ℕ) (words : List (List ℕ)) (c : Cause) → IsWords line (name ∷ words) → IsWrongLine shape latest line name words c
    → next_event shape latest line ≡ Err c
unfolding next_event
wrong-read shape latest line name words c are (inl w) = ap (ordered latest) (long-read shape line name words are w.1) ∙ ap Err (sym w.0)
wrong-read shape latest line name words c are (inr (inl w)) = ap (ordered latest) (empty-read shape line name words are w.1) ∙ ap Err (sym w.0)
wrong-read shape latest line name words c are (inr (inr (inl w))) = ap (ordered latest) (plain-read shape line name words c (line_event shape line) refl are (inl w))
wrong-read shape latest line name words c are (inr (inr (inr (inl w)))) = ap (ordered latest) (plain-read shape line name words c (line_event shape line) refl are (inr w))
wrong-read shape latest line name words c are (inr (inr (inr (inr w)))) =
    let at = w.1 in
    ap (ordered latest) (line-only shape line at.e at.is_event)
    ∙ (pick_false _ _ _ (late latest at.session (session_of at.e) at.asks at.late) ∙ ap Err (sym w.0))
