-- What a reader gives is what the word spells, and nothing that it spells is left out.
use Rattle.std.proofs.Common.{◌≡◌, ◌↔◌, ℕ, Bool, true, List, refl, sym, ap, subst, ◌∙◌}
use Rattle.std.specs.Prelude.{Option, None, Some, Result, Ok, Err, IfOk, IfSome, IsTrue, is_some}
use Rattle.text_words.specs.Grammar.{IsHex}
use Rattle.text_words.specs.Reading.{hex_of, is_hex}
use Rattle.text_words.proofs.Settled.{Settles}
use Rattle.text_words.proofs.Hexed.{hex-settles}

at-found : {X : Type 0} (o : Option X) (R : X → Type 0) → Settles o R → IfSome o R
at-found None R s = tt
at-found (Some x) R s = s.sound x refl

pub some-found : {X : Type 0} (o r : Option X) (R : X → Type 0) → r ≡ o → Settles o R → IfSome r R
some-found o r R e s = subst (λ p. IfSome p R) (sym e) (at-found o R s)

pub some-only : {X : Type 0} (o r : Option X) (R : X → Type 0) → r ≡ o → Settles o R → (x : X) → R x → r ≡ Some x
some-only o r R e s x w = e ∙ s.only x w

pub ok-found : {X E : Type 0} (o : Option X) (r : Result (Option X) E) (R : X → Type 0) → IfOk r (λ p. p ≡ o) → Settles o R → IfOk r (λ p. IfSome p R)
ok-found o (Ok p) R e s = some-found o p R e s
ok-found o (Err c) R e s = tt

pub ok-only : {X E : Type 0} (o : Option X) (r : Result (Option X) E) (R : X → Type 0) → IfOk r (λ p. p ≡ o) → Settles o R → IfOk r (λ p. (x : X) → R x → p ≡ Some x)
ok-only o (Ok p) R e s = λ x w. e ∙ s.only x w
ok-only o (Err c) R e s = tt

-- ---- whether a word is hexadecimal

some-test : {X : Type 0} (o : Option X) (R : X → Type 0) → Settles o R → is_some o ≡ true → (x : X) × R x
some-test None R s h = absurd (cc)
some-test (Some x) R s h = (x, s.sound x refl)

pub hex-spelled : (word : List ℕ) (t : Bool) → t ≡ is_hex word → IsTrue t ↔ ((bytes : List ℕ) × IsHex word bytes)
hex-spelled word t e = (
  λ h. some-test (hex_of word) (IsHex word) (hex-settles word) (sym e ∙ h),
  λ w. e ∙ ap is_some ((hex-settles word).only w.0 w.1),
)
