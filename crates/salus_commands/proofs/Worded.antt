-- A list of one word or of three, and every other.
use Rattle.std.proofs.Common.{◌≡◌, ◌∙◌, ℕ, ◌<◌, ◌≤◌, List, [], ◌∷◌, length, get_or, map, ap, ap₂, sym, arith, refl}
use Rattle.std.specs.Prelude.{Option, None}
use Rattle.salus_commands.specs.declared.words.Command.{Command}
use Rattle.text_words.specs.Reading.{number_of}
use Rattle.salus_commands.specs.Spelling.{lone, numbered, command_of}

pub one_word : {A : Type 0} (f : A → List ℕ) (xs : List A) (x : A) → 1 ≤ length xs → length xs < 2 → x ≡ get_or xs 0 x → map f xs ≡ f x ∷ []
one_word f [] x least most is = absurd (omega arith)
one_word f (y ∷ []) x least most is = ap (λ z. f z ∷ []) (sym is)
one_word f (y ∷ z ∷ xs) x least most is = absurd (omega arith)

pub three_words : {A : Type 0} (f : A → List ℕ) (xs : List A) (x y z : A) → 3 ≤ length xs → length xs < 4 → x ≡ get_or xs 0 x → y ≡ get_or xs 1 y → z ≡ get_or xs 2 z
    → map f xs ≡ f x ∷ f y ∷ f z ∷ []
three_words f [] x y z least most first second third = absurd (omega arith)
three_words f (a ∷ []) x y z least most first second third = absurd (omega arith)
three_words f (a ∷ b ∷ []) x y z least most first second third = absurd (omega arith)
three_words f (a ∷ b ∷ c ∷ []) x y z least most first second third =
    ap (λ w. f w ∷ f b ∷ f c ∷ []) (sym first) ∙ (ap (λ w. f x ∷ f w ∷ f c ∷ []) (sym second) ∙ ap (λ w. f x ∷ f y ∷ f w ∷ []) (sym third))
three_words f (a ∷ b ∷ c ∷ d ∷ xs) x y z least most first second third = absurd (omega arith)

pub one_read : {A : Type 0} (f : A → List ℕ) (xs : List A) (x : A) (name : List ℕ) (read : Option Command) → 1 ≤ length xs → length xs < 2 → x ≡ get_or xs 0 x
    → read ≡ lone name → name ≡ f x → read ≡ command_of (map f xs)
unfolding command_of
one_read f xs x name read least most is reads named = reads ∙ (ap lone named ∙ sym (ap command_of (one_word f xs x least most is)))

pub three_read : {A : Type 0} (f : A → List ℕ) (xs : List A) (x y z : A) (name : List ℕ) (seed rounds : Option ℕ) (read : Option Command)
    → 3 ≤ length xs → length xs < 4 → x ≡ get_or xs 0 x → y ≡ get_or xs 1 y → z ≡ get_or xs 2 z
    → read ≡ numbered name seed rounds → name ≡ f x → seed ≡ number_of (f y) → rounds ≡ number_of (f z) → read ≡ command_of (map f xs)
unfolding command_of
three_read f xs x y z name seed rounds read least most first second third reads named is_seed is_rounds =
    reads
    ∙ (ap (λ (n : List ℕ). numbered n seed rounds) named
    ∙ (ap₂ (λ (a b : Option ℕ). numbered (f x) a b) is_seed is_rounds ∙ sym (ap command_of (three_words f xs x y z least most first second third))))

-- no command has as many words as other lists
pub other_words : {A : Type 0} (f : A → List ℕ) (xs : List A) → (length xs ≡ 1 → ⊥) → (length xs ≡ 3 → ⊥) → command_of (map f xs) ≡ None
unfolding command_of
other_words f [] one three = refl
other_words f (a ∷ []) one three = absurd (one (omega arith))
other_words f (a ∷ b ∷ []) one three = refl
other_words f (a ∷ b ∷ c ∷ []) one three = absurd (three (omega arith))
other_words f (a ∷ b ∷ c ∷ d ∷ xs) one three = refl
