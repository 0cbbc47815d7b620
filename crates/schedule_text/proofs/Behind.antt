-- The words behind a first word are read as the event that they spell, or the first that is wrong gives the cause.
use Rattle.std.proofs.Common.{◌≡◌, ◌⊎◌, ℕ, List, [], ◌∷◌, length, refl, sym, ap, subst, ◌∙◌, arith, inl, inr}
use Rattle.std.specs.Prelude.{Result, Ok, Err}
use Rattle.std.specs.List.{AllZip}
use Rattle.salus_types.specs.Volume.{Shape}
use Rattle.schedule_text.specs.declared.error.Cause.{Cause}
use Rattle.schedule_text.specs.declared.error.Cause.TheVariants as cause
use Rattle.schedule_text.specs.declared.keyword.Keyword.{Keyword}
use Rattle.schedule_text.specs.declared.keyword.Keyword.TheVariants as keyword
use Rattle.schedule_text.specs.declared.schedule.Event.{Event}
use Rattle.schedule_text.specs.declared.schedule.Event.TheVariants as event
use Rattle.schedule_text.specs.Reading.{after, bare, one_number, replace_of, tick_of, fail_of, reassign_of, lie_of, crash_of, stop_of}
use Rattle.schedule_text.specs.Grammar.{Number, Spells, Kind, ANumber, ACount, ANode, AParty, SomeBytes, AFill, spelling, first_word, values, HasFewBlocks, AreKinds, IsFirstWrongWord, IsForm, IsLongWrite, IsEmptyWrite, HasWrongWord}
use Rattle.schedule_text.proofs.Decided.{Decides, ok-err, same_ok, same_err, next_word, nothing_more}
use Rattle.schedule_text.proofs.Parties.{number-decides, count-decides, node-decides, party-decides, fill-decides, bytes-decides}
use Rattle.schedule_text.proofs.Keyed.{same_keyword}

-- the event is that of the first word and the words behind it
abbrev pub IsOf : Shape → Keyword → List (List ℕ) → Event → Type 0
IsOf shape k words e = (first_word e ≡ k) × AllZip (Spells shape) (values e) words × HasFewBlocks e

-- what is found is so, and where nothing is found there is that cause
pub record Reads (r : Result Event Cause) (R : Event → Type 0) (W : Cause → Type 0) : Type 0 where
  pub sound : (e : Event) → r ≡ Ok e → R e
  pub wrong : (c : Cause) → r ≡ Err c → W c

-- another number of words, or one that is wrong
abbrev pub Behind : Shape → List Kind → List (List ℕ) → Cause → Type 0
Behind shape kinds words c = ((c ≡ cause.Word) × (length kinds ≡ length words → ⊥)) ⊎ ((length kinds ≡ length words) × IsFirstWrongWord shape kinds words c)

pub reads_from : (r : Result Event Cause) (R S : Event → Type 0) (W V : Cause → Type 0) → Decides r R W → ((e : Event) → R e → S e) → ((c : Cause) → W c → V c) → Reads r S V
reads_from r R S W V d f g = record { sound = λ e h. f e (d.sound e h); wrong = λ c h. g c (d.wrong c h) }

-- another number of words
miscounted : (shape : Shape) (kinds : List Kind) (words : List (List ℕ)) (R : Event → Type 0) → (length kinds ≡ length words → ⊥) → Reads (Err cause.Word) R (Behind shape kinds words)
miscounted shape kinds words R other = record {
  sound = λ e h. absurd (ok-err e cause.Word (sym h));
  wrong = λ c h. inl (sym (same_err {X = Event} cause.Word c h), other);
}

pub bare-reads : (shape : Shape) (k : Keyword) (e : Event) (words : List (List ℕ)) → IsOf shape k [] e → Reads (bare e words) (IsOf shape k words) (Behind shape [] words)
bare-reads shape k e [] is = record { sound = λ f h. subst (IsOf shape k []) (same_ok {E = Cause} e f h) is; wrong = λ c h. absurd (ok-err e c h) }
bare-reads shape k e (word ∷ words) is = miscounted shape [] (word ∷ words) (IsOf shape k (word ∷ words)) (λ e. absurd (omega (arith, e)))

pub number-reads : (shape : Shape) (k : Keyword) (make : ℕ → Event) (words : List (List ℕ))
    → ((n : ℕ) → AllZip (Spells shape) (Number n ∷ []) words → IsOf shape k words (make n))
    → Reads (after (one_number words) (λ n. Ok (make n))) (IsOf shape k words) (Behind shape (ANumber ∷ []) words)
number-reads shape k make [] is = miscounted shape (ANumber ∷ []) [] (IsOf shape k []) (λ e. absurd (omega (arith, e)))
number-reads shape k make (a ∷ []) is =
    reads_from _ _ (IsOf shape k (a ∷ [])) _ (Behind shape (ANumber ∷ []) (a ∷ []))
    (next_word _ _ _ _ _ _ (number-decides a) (λ n. nothing_more (make n)))
    (λ e w. subst (IsOf shape k (a ∷ [])) w.2 (is w.0 (w.1, tt)))
    (λ c w. inr (refl, w))
number-reads shape k make (a ∷ b ∷ words) is = miscounted shape (ANumber ∷ []) (a ∷ b ∷ words) (IsOf shape k (a ∷ b ∷ words)) (λ e. absurd (omega (arith, e)))

pub replace-reads : (shape : Shape) (words : List (List ℕ)) → Reads (replace_of shape words) (IsOf shape keyword.Replace words) (Behind shape (ANode ∷ []) words)
replace-reads shape [] = miscounted shape (ANode ∷ []) [] (IsOf shape keyword.Replace []) (λ e. absurd (omega (arith, e)))
replace-reads shape (a ∷ []) =
    reads_from _ _ (IsOf shape keyword.Replace (a ∷ [])) _ (Behind shape (ANode ∷ []) (a ∷ []))
    (next_word _ _ _ _ _ _ (node-decides shape a) (λ n. nothing_more (event.Replace n)))
    (λ e w. subst (IsOf shape keyword.Replace (a ∷ [])) w.2 (refl, (w.1, tt), tt))
    (λ c w. inr (refl, w))
replace-reads shape (a ∷ b ∷ words) = miscounted shape (ANode ∷ []) (a ∷ b ∷ words) (IsOf shape keyword.Replace (a ∷ b ∷ words)) (λ e. absurd (omega (arith, e)))

pub tick-reads : (shape : Shape) (words : List (List ℕ)) → Reads (tick_of shape words) (IsOf shape keyword.Tick words) (Behind shape (AParty ∷ []) words)
tick-reads shape [] = miscounted shape (AParty ∷ []) [] (IsOf shape keyword.Tick []) (λ e. absurd (omega (arith, e)))
tick-reads shape (a ∷ []) =
    reads_from _ _ (IsOf shape keyword.Tick (a ∷ [])) _ (Behind shape (AParty ∷ []) (a ∷ []))
    (next_word _ _ _ _ _ _ (party-decides shape a) (λ n. nothing_more (event.Tick n)))
    (λ e w. subst (IsOf shape keyword.Tick (a ∷ [])) w.2 (refl, (w.1, tt), tt))
    (λ c w. inr (refl, w))
tick-reads shape (a ∷ b ∷ words) = miscounted shape (AParty ∷ []) (a ∷ b ∷ words) (IsOf shape keyword.Tick (a ∷ b ∷ words)) (λ e. absurd (omega (arith, e)))

pub fail-reads : (shape : Shape) (words : List (List ℕ)) → Reads (fail_of shape words) (IsOf shape keyword.Fail words) (Behind shape (ANode ∷ ACount ∷ []) words)
fail-reads shape [] = miscounted shape (ANode ∷ ACount ∷ []) [] (IsOf shape keyword.Fail []) (λ e. absurd (omega (arith, e)))
fail-reads shape (a ∷ []) = miscounted shape (ANode ∷ ACount ∷ []) (a ∷ []) (IsOf shape keyword.Fail (a ∷ [])) (λ e. absurd (omega (arith, e)))
fail-reads shape (a ∷ b ∷ []) =
    reads_from _ _ (IsOf shape keyword.Fail (a ∷ b ∷ [])) _ (Behind shape (ANode ∷ ACount ∷ []) (a ∷ b ∷ []))
    (next_word _ _ _ _ _ _ (node-decides shape a) (λ n. next_word _ _ _ _ _ _ (count-decides b) (λ m. nothing_more (event.Fail n m))))
    (λ e w. subst (IsOf shape keyword.Fail (a ∷ b ∷ [])) w.2.2 (refl, (w.1, (w.2.1, tt)), tt))
    (λ c w. inr (refl, w))
fail-reads shape (a ∷ b ∷ d ∷ words) = miscounted shape (ANode ∷ ACount ∷ []) (a ∷ b ∷ d ∷ words) (IsOf shape keyword.Fail (a ∷ b ∷ d ∷ words)) (λ e. absurd (omega (arith, e)))

pub reassign-reads : (shape : Shape) (words : List (List ℕ)) → Reads (reassign_of words) (IsOf shape keyword.Reassign words) (Behind shape (ANumber ∷ ANumber ∷ []) words)
reassign-reads shape [] = miscounted shape (ANumber ∷ ANumber ∷ []) [] (IsOf shape keyword.Reassign []) (λ e. absurd (omega (arith, e)))
reassign-reads shape (a ∷ []) = miscounted shape (ANumber ∷ ANumber ∷ []) (a ∷ []) (IsOf shape keyword.Reassign (a ∷ [])) (λ e. absurd (omega (arith, e)))
reassign-reads shape (a ∷ b ∷ []) =
    reads_from _ _ (IsOf shape keyword.Reassign (a ∷ b ∷ [])) _ (Behind shape (ANumber ∷ ANumber ∷ []) (a ∷ b ∷ []))
    (next_word _ _ _ _ _ _ (number-decides a) (λ n. next_word _ _ _ _ _ _ (number-decides b) (λ m. nothing_more (event.Reassign n m))))
    (λ e w. subst (IsOf shape keyword.Reassign (a ∷ b ∷ [])) w.2.2 (refl, (w.1, (w.2.1, tt)), tt))
    (λ c w. inr (refl, w))
reassign-reads shape (a ∷ b ∷ d ∷ words) = miscounted shape (ANumber ∷ ANumber ∷ []) (a ∷ b ∷ d ∷ words) (IsOf shape keyword.Reassign (a ∷ b ∷ d ∷ words)) (λ e. absurd (omega (arith, e)))

pub lie-reads : (shape : Shape) (words : List (List ℕ)) → Reads (lie_of shape words) (IsOf shape keyword.Lie words) (Behind shape (AParty ∷ AParty ∷ SomeBytes ∷ []) words)
lie-reads shape [] = miscounted shape (AParty ∷ AParty ∷ SomeBytes ∷ []) [] (IsOf shape keyword.Lie []) (λ e. absurd (omega (arith, e)))
lie-reads shape (a ∷ []) = miscounted shape (AParty ∷ AParty ∷ SomeBytes ∷ []) (a ∷ []) (IsOf shape keyword.Lie (a ∷ [])) (λ e. absurd (omega (arith, e)))
lie-reads shape (a ∷ b ∷ []) = miscounted shape (AParty ∷ AParty ∷ SomeBytes ∷ []) (a ∷ b ∷ []) (IsOf shape keyword.Lie (a ∷ b ∷ [])) (λ e. absurd (omega (arith, e)))
lie-reads shape (a ∷ b ∷ d ∷ []) =
    reads_from _ _ (IsOf shape keyword.Lie (a ∷ b ∷ d ∷ [])) _ (Behind shape (AParty ∷ AParty ∷ SomeBytes ∷ []) (a ∷ b ∷ d ∷ []))
    (next_word _ _ _ _ _ _ (party-decides shape a) (λ n. next_word _ _ _ _ _ _ (party-decides shape b) (λ m. next_word _ _ _ _ _ _ (bytes-decides d) (λ x. nothing_more (event.Lie n m x)))))
    (λ e w. subst (IsOf shape keyword.Lie (a ∷ b ∷ d ∷ [])) w.2.2.2 (refl, (w.1, (w.2.1, (w.2.2.1, tt))), tt))
    (λ c w. inr (refl, w))
lie-reads shape (a ∷ b ∷ d ∷ f ∷ words) = miscounted shape (AParty ∷ AParty ∷ SomeBytes ∷ []) (a ∷ b ∷ d ∷ f ∷ words) (IsOf shape keyword.Lie (a ∷ b ∷ d ∷ f ∷ words)) (λ e. absurd (omega (arith, e)))

pub crash-reads : (shape : Shape) (words : List (List ℕ)) → Reads (crash_of shape words) (IsOf shape keyword.Crash words) (Behind shape (ANode ∷ ANumber ∷ AFill ∷ []) words)
crash-reads shape [] = miscounted shape (ANode ∷ ANumber ∷ AFill ∷ []) [] (IsOf shape keyword.Crash []) (λ e. absurd (omega (arith, e)))
crash-reads shape (a ∷ []) = miscounted shape (ANode ∷ ANumber ∷ AFill ∷ []) (a ∷ []) (IsOf shape keyword.Crash (a ∷ [])) (λ e. absurd (omega (arith, e)))
crash-reads shape (a ∷ b ∷ []) = miscounted shape (ANode ∷ ANumber ∷ AFill ∷ []) (a ∷ b ∷ []) (IsOf shape keyword.Crash (a ∷ b ∷ [])) (λ e. absurd (omega (arith, e)))
crash-reads shape (a ∷ b ∷ d ∷ []) =
    reads_from _ _ (IsOf shape keyword.Crash (a ∷ b ∷ d ∷ [])) _ (Behind shape (ANode ∷ ANumber ∷ AFill ∷ []) (a ∷ b ∷ d ∷ []))
    (next_word _ _ _ _ _ _ (node-decides shape a) (λ n. next_word _ _ _ _ _ _ (number-decides b) (λ m. next_word _ _ _ _ _ _ (fill-decides d) (λ x. nothing_more (event.Crash n m x)))))
    (λ e w. subst (IsOf shape keyword.Crash (a ∷ b ∷ d ∷ [])) w.2.2.2 (refl, (w.1, (w.2.1, (w.2.2.1, tt))), tt))
    (λ c w. inr (refl, w))
crash-reads shape (a ∷ b ∷ d ∷ f ∷ words) = miscounted shape (ANode ∷ ANumber ∷ AFill ∷ []) (a ∷ b ∷ d ∷ f ∷ words) (IsOf shape keyword.Crash (a ∷ b ∷ d ∷ f ∷ words)) (λ e. absurd (omega (arith, e)))

pub stop-reads : (shape : Shape) (words : List (List ℕ)) → Reads (stop_of words) (IsOf shape keyword.Stop words) (Behind shape (ANumber ∷ ANumber ∷ ANumber ∷ AFill ∷ []) words)
stop-reads shape [] = miscounted shape (ANumber ∷ ANumber ∷ ANumber ∷ AFill ∷ []) [] (IsOf shape keyword.Stop []) (λ e. absurd (omega (arith, e)))
stop-reads shape (a ∷ []) = miscounted shape (ANumber ∷ ANumber ∷ ANumber ∷ AFill ∷ []) (a ∷ []) (IsOf shape keyword.Stop (a ∷ [])) (λ e. absurd (omega (arith, e)))
stop-reads shape (a ∷ b ∷ []) = miscounted shape (ANumber ∷ ANumber ∷ ANumber ∷ AFill ∷ []) (a ∷ b ∷ []) (IsOf shape keyword.Stop (a ∷ b ∷ [])) (λ e. absurd (omega (arith, e)))
stop-reads shape (a ∷ b ∷ d ∷ []) = miscounted shape (ANumber ∷ ANumber ∷ ANumber ∷ AFill ∷ []) (a ∷ b ∷ d ∷ []) (IsOf shape keyword.Stop (a ∷ b ∷ d ∷ [])) (λ e. absurd (omega (arith, e)))
stop-reads shape (a ∷ b ∷ d ∷ f ∷ []) =
    reads_from _ _ (IsOf shape keyword.Stop (a ∷ b ∷ d ∷ f ∷ [])) _ (Behind shape (ANumber ∷ ANumber ∷ ANumber ∷ AFill ∷ []) (a ∷ b ∷ d ∷ f ∷ []))
    (next_word _ _ _ _ _ _ (number-decides a) (λ n. next_word _ _ _ _ _ _ (number-decides b) (λ m. next_word _ _ _ _ _ _ (number-decides d)
    (λ x. next_word _ _ _ _ _ _ (fill-decides f) (λ y. nothing_more (event.Stop n m x y))))))
    (λ e w. subst (IsOf shape keyword.Stop (a ∷ b ∷ d ∷ f ∷ [])) w.2.2.2.2 (refl, (w.1, (w.2.1, (w.2.2.1, (w.2.2.2.1, tt)))), tt))
    (λ c w. inr (refl, w))
stop-reads shape (a ∷ b ∷ d ∷ f ∷ g ∷ words) = miscounted shape (ANumber ∷ ANumber ∷ ANumber ∷ AFill ∷ []) (a ∷ b ∷ d ∷ f ∷ g ∷ words) (IsOf shape keyword.Stop (a ∷ b ∷ d ∷ f ∷ g ∷ words)) (λ e. absurd (omega (arith, e)))

-- ---- in terms of what a line's words are

-- why words are no event, but for the order of sessions
abbrev pub IsWrongHere : Shape → List ℕ → List (List ℕ) → Cause → Type 0
IsWrongHere shape name words why =
    ((why ≡ cause.Long) × IsLongWrite name words)
    ⊎ ((why ≡ cause.Empty) × IsEmptyWrite name words)
    ⊎ ((why ≡ cause.Word) × ¬ IsLongWrite name words × ¬ IsEmptyWrite name words × ¬ IsForm name words)
    ⊎ (¬ IsLongWrite name words × ¬ IsEmptyWrite name words × HasWrongWord shape name words why)

-- the kinds of a first word are those alone
pub record IsKindOf (k : Keyword) (kinds : List Kind) : Type 0 where
  pub are : AreKinds k kinds
  pub alone : (others : List Kind) → AreKinds k others → others ≡ kinds
  pub no_write : k ≡ keyword.Write → ⊥

formless : (k : Keyword) (kinds : List Kind) (words : List (List ℕ)) → IsKindOf k kinds → (length kinds ≡ length words → ⊥) → IsForm (spelling k) words → ⊥
formless k kinds words of other form =
    let same = same_keyword k form.first form.named in
    let are = subst (λ f. AreKinds f form.kinds) (sym same) form.are_kinds in
    other (ap length (sym (of.alone form.kinds are)) ∙ form.as_many)

pub wrong-here : (shape : Shape) (k : Keyword) (kinds : List Kind) (words : List (List ℕ)) (why : Cause) → IsKindOf k kinds → Behind shape kinds words why
    → IsWrongHere shape (spelling k) words why
wrong-here shape k kinds words why of (inl w) =
    inr (inr (inl (w.0, λ long. of.no_write (same_keyword k keyword.Write long.0), λ empty. of.no_write (same_keyword k keyword.Write empty.0), formless k kinds words of w.1)))
wrong-here shape k kinds words why of (inr w) =
    inr (inr (inr (
      λ long. of.no_write (same_keyword k keyword.Write long.0),
      λ empty. of.no_write (same_keyword k keyword.Write empty.0),
      record { form = record { first = k; kinds = kinds; named = refl; are_kinds = of.are; as_many = w.0 }; wrong = w.1 },
    )))
