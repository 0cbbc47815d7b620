-- A reading that finds exactly what a relation says, or a cause.
use Rattle.std.proofs.Common.{◌≡◌, ◌⊎◌, refl, sym, ap, ◌∙◌, inl, inr}
use Rattle.std.specs.Prelude.{Option, None, Some, Result, Ok, Err}
use Rattle.std.specs.Option.{ok_or}
use Rattle.text_words.proofs.Settled.{Settles}
use Rattle.schedule_text.specs.declared.error.Cause.{Cause}
use Rattle.schedule_text.specs.Reading.{after}
use Rattle.schedule_text.specs.Grammar.{IsNone}

-- what is found is so, what is so is found, and where nothing is found there is that cause
pub record Decides {X : Type 0} (r : Result X Cause) (R : X → Type 0) (W : Cause → Type 0) : Type 0 where
  pub sound : (x : X) → r ≡ Ok x → R x
  pub only : (x : X) → R x → r ≡ Ok x
  pub wrong : (c : Cause) → r ≡ Err c → W c

pub ok-err : {X E : Type 0} (x : X) (c : E) → ◌≡◌ {A = Result X E} (Ok x) (Err c) → ⊥
ok-err x c h = cc

pub same_ok : {X E : Type 0} (x y : X) → ◌≡◌ {A = Result X E} (Ok x) (Ok y) → x ≡ y
same_ok x y h = cc

pub same_err : {X E : Type 0} (c d : E) → ◌≡◌ {A = Result X E} (Err c) (Err d) → c ≡ d
same_err c d h = cc

ok-some : {X : Type 0} (o : Option X) (why : Cause) (x : X) → ok_or o why ≡ Ok x → o ≡ Some x
ok-some None why x h = absurd (ok-err x why (sym h))
ok-some {X = X} (Some y) why x h = ap Some (same_ok {E = Cause} y x h)

err-none : {X : Type 0} (o : Option X) (why c : Cause) → ok_or o why ≡ Err c → (c ≡ why) × (o ≡ None)
err-none {X = X} None why c h = (sym (same_err {X = X} why c h), refl)
err-none (Some y) why c h = absurd (ok-err y c h)

none-not : {X : Type 0} (o : Option X) (x : X) → o ≡ None → o ≡ Some x → ⊥
none-not o x h g = let e : None ≡ Some x = sym h ∙ g in absurd (cc)

-- where an optional value is read, there is one cause
pub settled : {X : Type 0} (o : Option X) (R : X → Type 0) (why : Cause) → Settles o R → Decides (ok_or o why) R (λ c. (c ≡ why) × IsNone R)
settled o R why s = record {
  sound = λ x h. s.sound x (ok-some o why x h);
  only = λ x w. ap (λ p. ok_or p why) (s.only x w);
  wrong = λ c h. let p = err-none o why c h in (p.0, λ x w. none-not o x p.1 (s.only x w));
}

-- what was read before the next one, and what the next one gives
pub after-ok : {X Y : Type 0} (r : Result X Cause) (next : X → Result Y Cause) (y : Y) → after r next ≡ Ok y → (x : X) × (r ≡ Ok x) × (next x ≡ Ok y)
after-ok (Ok x) next y h = (x, refl, h)
after-ok (Err c) next y h = absurd (ok-err y c (sym h))

pub after-err : {X Y : Type 0} (r : Result X Cause) (next : X → Result Y Cause) (c : Cause) → after r next ≡ Err c
    → (r ≡ Err c) ⊎ ((x : X) × (r ≡ Ok x) × (next x ≡ Err c))
after-err (Ok x) next c h = inr (x, refl, h)
after-err {Y = Y} (Err d) next c h = inl (ap Err (same_err {X = Y} d c h))

-- one word after another: the first that is wrong gives the cause
pub next_word : {X Y : Type 0} (r : Result X Cause) (next : X → Result Y Cause) (R : X → Type 0) (S : X → Y → Type 0) (W V : Cause → Type 0)
    → Decides r R W → ((x : X) → Decides (next x) (S x) V)
    → Decides (after r next) (λ y. (x : X) × R x × S x y) (λ c. W c ⊎ (((x : X) × R x) × V c))
next_word r next R S W V first more = record {
  sound = λ y h. let p = after-ok r next y h in (p.0, first.sound p.0 p.1, (more p.0).sound y p.2);
  only = λ y w. ap (λ s. after s next) (first.only w.0 w.1) ∙ (more w.0).only y w.2;
  wrong = λ c h. elim (after-err r next c h) [
    | inl e ↦ inl (first.wrong c e)
    | inr e ↦ inr ((e.0, first.sound e.0 e.1), (more e.0).wrong c e.2)
  ];
}

-- nothing is left to read
pub nothing_more : {X : Type 0} (x : X) → Decides (Ok x) (λ y. x ≡ y) (λ c. ⊥)
nothing_more x = record { sound = λ y h. same_ok {E = Cause} x y h; only = λ y w. ap Ok w; wrong = λ c h. ok-err x c h }
