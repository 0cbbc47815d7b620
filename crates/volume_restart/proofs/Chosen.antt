-- The choice of the definition, which looks at the headers in the order of arrival, is that of a search from the greatest downwards.
use Rattle.std.proofs.Common.{◌≡◌, ℕ, zero, suc, ◌∙◌, Bool, true, false, ◌&&◌, cond, List, [], ◌∷◌, take, Some, None, Option, inl, inr, refl, sym, ap, subst}
use Rattle.std.specs.Prelude.{fold, slice_get, option_map, is_some}
use Rattle.std.proofs.lemmas.Bool.{and_from, and_left, and_right, and_parts, cond-true, cond-false, cases_Bool, false≢true}
use Rattle.std.proofs.lemmas.Option.{none-some, same_Some}
use Rattle.salus_types.specs.Volume.{Shape}
use Rattle.salus_types.specs.declared.records.Header.{Header}
use Rattle.merkle_region.specs.Tree.{IsAmong, NoTwoCollide}
use Rattle.volume_model.specs.Recovering.{Pool, is_above, better_of, is_recoverable, recovered, choice_of}
use Rattle.client_rules.specs.Opening.{joined_blocks}
use Rattle.restart_pool.specs.Kept.{Kept}
use Rattle.restart_pool.specs.Assembled.{contents_by, contents_of, pool_strings, session_strings}
use Rattle.restart_pool.specs.declared.assemble.Contents.{Contents}
use Rattle.merkle_region.proofs.Membership.{none-within}
use Rattle.volume_restart.specs.Choosing.{choice_of_header, chosen, is_below, roots_by, IsFirstLike, IsNext, NoneLike}
use Rattle.volume_restart.specs.declared.choice.Choice.{Choice}
use Rattle.volume_restart.proofs.Ordering.{alike, above-like, above-by, like-sym}
use Rattle.list_lemmas.proofs.Members.{among_flat_map-in}

module _ (shape : Shape) (pool : Pool) where
  abbrev better : Option Header → Header → Option Header
  better = better_of shape pool

  -- the header isn't recoverable
  abbrev pub IsLost : Header → Type 0
  IsLost h = is_recoverable shape pool h ≡ false

  -- none of these is better
  pub none-better : (best : Option Header) (hs : List Header) → ((h : Header) → IsAmong h hs → is_above h best ≡ true → IsLost h) → fold better best hs ≡ best
  none-better best [] none = refl
  none-better best (h ∷ hs) none =
      let worse : (is_above h best && is_recoverable shape pool h) ≡ false = elim (cases_Bool (is_above h best)) [
        | inl up ↦ and_right (is_above h best) (is_recoverable shape pool h) (none h (inl refl) up)
        | inr down ↦ and_left (is_above h best) (is_recoverable shape pool h) down
      ] in
      ap (λ b. fold better b hs) (cond-false (is_above h best && is_recoverable shape pool h) (Some h) best worse) ∙ none-better best hs (λ x m. none x (inr m))

  next_below : (best : Option Header) (h header : Header) (t : Bool) → (is_above h best && is_recoverable shape pool h) ≡ t → is_above header best ≡ true
      → (is_above header (Some h) ≡ false → IsLost h) → is_above header (cond t (Some h) best) ≡ true
  next_below best h header false is up lost = up
  next_below best h header true is up lost = elim (cases_Bool (is_above header (Some h))) [
    | inl above ↦ above
    | inr not ↦ absurd (false≢true (sym (lost not) ∙ (and_parts (is_above h best) (is_recoverable shape pool h) is).1))
  ]

  -- what is recoverable stands at this place; nothing above it is, nor anything before it that isn't below it
  pub choice-at : (best : Option Header) (hs : List Header) (place : ℕ) (header : Header) → slice_get hs place ≡ Some header → is_recoverable shape pool header ≡ true
      → ((h : Header) → IsAmong h hs → is_above h (Some header) ≡ true → IsLost h) → ((h : Header) → IsAmong h (take place hs) → is_above header (Some h) ≡ false → IsLost h)
      → is_above header best ≡ true → fold better best hs ≡ Some header
  choice-at best [] place header found good higher earlier up = absurd (none-some header found)
  choice-at best (h ∷ hs) zero header found good higher earlier up =
      let same : h ≡ header = same_Some h header found in
      let both : (is_above h best && is_recoverable shape pool h) ≡ true =
      subst (λ (w : Header). (is_above w best && is_recoverable shape pool w) ≡ true) (sym same) (and_from (is_above header best) (is_recoverable shape pool header) up good) in
      ap (λ b. fold better b hs) (cond-true (is_above h best && is_recoverable shape pool h) (Some h) best both ∙ ap Some same)
      ∙ none-better (Some header) hs (λ x m above. higher x (inr m) above)
  choice-at best (h ∷ hs) (suc place) header found good higher earlier up =
      choice-at (better best h) hs place header found good (λ x m. higher x (inr m)) (λ x m. earlier x (inr m))
      (next_below best h header (is_above h best && is_recoverable shape pool h) refl up (earlier h (inl refl)))

-- ---- by contents

is_none : {A B : Type 0} (f : A → B) (o : Option A) → option_map f o ≡ None → is_some o ≡ false
is_none f None e = refl
is_none f (Some x) e = absurd (none-some (f x) (sym e))

some_is : {A B : Type 0} (f : A → B) (o : Option A) (y : B) → Some y ≡ option_map f o → is_some o ≡ true
some_is f None y e = absurd (none-some y (sym e))
some_is f (Some x) y e = refl

all_of : {A : Type 0} (xs : List A) (i : ℕ) (x : A) → IsAmong x (take i xs) → IsAmong x xs
all_of [] zero x m = absurd m
all_of [] (suc i) x m = absurd m
all_of (y ∷ xs) zero x m = absurd m
all_of (y ∷ xs) (suc i) x (inl e) = inl e
all_of (y ∷ xs) (suc i) x (inr m) = inr (all_of xs i x m)

-- no strings of a session's chains collide
pub apart : (kept : Kept) (h : Header) → IsAmong h kept.held.headers → NoTwoCollide (pool_strings kept.shape kept.held) → NoTwoCollide (session_strings kept.shape kept.held h.session)
apart kept h m none =
    none-within (session_strings kept.shape kept.held h.session) (pool_strings kept.shape kept.held)
    (λ x k. among_flat_map-in (λ (g : Header). session_strings kept.shape kept.held g.session) h x kept.held.headers m k) none

-- a header's choice with these contents
abbrev pub with_contents : Header → Contents → Choice
with_contents h found = record { session = h.session; number = h.seq; roots = found.roots; contents = found.blocks }

module _ (kept : Kept) where
  pub lost : (h : Header) → contents_of kept h ≡ None → is_recoverable kept.shape kept.held h ≡ false
  lost h e = is_none (contents_by kept.shape) (recovered kept.shape kept.held h) e

  -- the choice made by a header whose contents are there is that of the definition
  by_contents : (h : Header) (r : Option (List (List (List ℕ)))) (choice : Choice)
      → Some choice ≡ option_map (with_contents h) (option_map (contents_by kept.shape) r)
      → (is_some r ≡ true) × (choice ≡ record { session = h.session; number = h.seq; roots = roots_by kept.shape r; contents = joined_blocks r })
  by_contents h None choice e = absurd (none-some choice (sym e))
  by_contents h (Some pick) choice e = (refl, same_Some choice _ e)

  -- all that isn't below what was tried is lost
  abbrev pub AllTried : Option Header → Type 0
  AllTried tried = (h : Header) → IsAmong h kept.held.headers → is_below h tried ≡ false → contents_of kept h ≡ None

  pub nothing-tried : AllTried None
  nothing-tried = λ h m e. absurd (false≢true (sym e))

  module _ (tried : Option Header) (n : Header) (next : IsNext kept.held.headers tried (Some n)) (so_far : AllTried tried) where
    higher_lost : (h : Header) → IsAmong h kept.held.headers → is_above h (Some n) ≡ true → contents_of kept h ≡ None
    higher_lost h m up = elim (cases_Bool (is_below h tried)) [
      | inl below ↦ absurd (false≢true (sym (next.2 h m below) ∙ up))
      | inr not ↦ so_far h m not
    ]

    pub tried-more : NoneLike kept n → AllTried (Some n)
    tried-more none h m not = elim (cases_Bool (is_above h (Some n))) [
      | inl up ↦ higher_lost h m up
      | inr down ↦ none h m (alike h n down not)
    ]

    module _ (choice : Choice) (first : IsFirstLike kept n choice) where
      lower : (x : Header) → is_above first.header (Some x) ≡ false → is_above n (Some x) ≡ false
      lower x not = elim (cases_Bool (is_above n (Some x))) [
        | inl up ↦ absurd (false≢true (sym not ∙ above-by n first.header x (like-sym first.header n first.same) up))
        | inr down ↦ down
      ]

      before : (x : Header) → IsAmong x (take first.place kept.held.headers) → is_above first.header (Some x) ≡ false → is_recoverable kept.shape kept.held x ≡ false
      before x m not = elim (cases_Bool (is_above x (Some n))) [
        | inl up ↦ lost x (higher_lost x (all_of kept.held.headers first.place x m) up)
        | inr down ↦ lost x (first.earlier x m (alike x n down (lower x not)))
      ]

      pub first-chosen : Some choice ≡ chosen kept
      unfolding choice_of
      first-chosen =
          let h = first.header in
          let by = by_contents h (recovered kept.shape kept.held h) choice first.is in
          let is : choice_of kept.shape kept.held ≡ Some h = choice-at kept.shape kept.held None kept.held.headers first.place h first.found by.0
          (λ x m up. lost x (higher_lost x m (above-like h n x first.same up))) before refl in
          ap Some by.1 ∙ sym (ap (option_map (choice_of_header kept)) is)

  pub none-chosen : (tried : Option Header) → IsNext kept.held.headers tried None → AllTried tried → None ≡ chosen kept
  unfolding choice_of
  none-chosen tried next so_far =
      let is : choice_of kept.shape kept.held ≡ None = none-better kept.shape kept.held None kept.held.headers (λ h m up. lost h (so_far h m (next h m))) in
      sym (ap (option_map (choice_of_header kept)) is)
