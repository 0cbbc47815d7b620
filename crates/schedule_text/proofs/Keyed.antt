-- The first word of an event's line is read as it is written.
use Rattle.std.proofs.Common.{◌≡◌, ℕ, List, cond, refl, sym, ap, ◌∙◌, inl, inr}
use Rattle.std.specs.Prelude.{Option, Some}
use Rattle.std.specs.Str.{bytes_eq}
use Rattle.std.proofs.lemmas.Option.{same_Some, none-some}
use Rattle.std.proofs.lemmas.Slice.Eq.{bytes_eq-Decides}
use Rattle.text_words.proofs.Settled.{chosen}
use Rattle.schedule_text.specs.declared.keyword.Keyword.{Keyword}
use Rattle.schedule_text.specs.declared.keyword.Keyword.TheVariants as keyword
use Rattle.schedule_text.specs.Reading.{outage_keyword, message_keyword, keyword_of}
use Rattle.schedule_text.specs.Grammar.{spelling}

-- the word is that first word's, or the others are looked through
one_of : (word : List ℕ) (k f : Keyword) (others : Option Keyword) → cond (bytes_eq word (spelling f)) (Some f) others ≡ Some k
    → (others ≡ Some k → word ≡ spelling k) → word ≡ spelling k
one_of word k f others h rest = elim (chosen (bytes_eq word (spelling f)) _ _ _ h) [
  | inl w ↦ (bytes_eq-Decides word (spelling f)).0 w.0 ∙ ap spelling (same_Some f k w.1)
  | inr w ↦ rest w.1
]

outage-sound : (word : List ℕ) (k : Keyword) → outage_keyword word ≡ Some k → word ≡ spelling k
unfolding outage_keyword
outage-sound word k h =
    one_of word k keyword.Crash _ h (λ h. one_of word k keyword.Fail _ h (λ h. one_of word k keyword.Replace _ h (λ h. one_of word k keyword.ClientCrash _ h
    (λ h. one_of word k keyword.Tick _ h (λ h. absurd (none-some k h))))))

message-sound : (word : List ℕ) (k : Keyword) → message_keyword word ≡ Some k → word ≡ spelling k
unfolding message_keyword
message-sound word k h =
    one_of word k keyword.Deliver _ h (λ h. one_of word k keyword.Settle _ h (λ h. one_of word k keyword.Drop _ h (λ h. one_of word k keyword.Lie _ h
    (λ h. one_of word k keyword.Stop _ h (λ h. outage-sound word k h)))))

pub keyword-sound : (word : List ℕ) (k : Keyword) → keyword_of word ≡ Some k → word ≡ spelling k
unfolding keyword_of
keyword-sound word k h =
    one_of word k keyword.Write _ h (λ h. one_of word k keyword.Read _ h (λ h. one_of word k keyword.Barrier _ h (λ h. one_of word k keyword.Restart _ h
    (λ h. one_of word k keyword.Reassign _ h (λ h. message-sound word k h)))))

pub keyword-spelled : (k : Keyword) → keyword_of (spelling k) ≡ Some k
unfolding keyword_of message_keyword outage_keyword
keyword-spelled keyword.Write = refl
keyword-spelled keyword.Read = refl
keyword-spelled keyword.Barrier = refl
keyword-spelled keyword.Deliver = refl
keyword-spelled keyword.Settle = refl
keyword-spelled keyword.Drop = refl
keyword-spelled keyword.Lie = refl
keyword-spelled keyword.Stop = refl
keyword-spelled keyword.Crash = refl
keyword-spelled keyword.Fail = refl
keyword-spelled keyword.Replace = refl
keyword-spelled keyword.ClientCrash = refl
keyword-spelled keyword.Restart = refl
keyword-spelled keyword.Reassign = refl
keyword-spelled keyword.Tick = refl

-- no two first words are written alike
pub same_keyword : (k l : Keyword) → spelling k ≡ spelling l → k ≡ l
same_keyword k l h = same_Some k l (sym (keyword-spelled k) ∙ (ap keyword_of h ∙ keyword-spelled l))
