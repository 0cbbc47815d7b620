-- The messages that were sent so far are the first of the run's.
use Rattle.std.proofs.Common.{◌≡◌, ◌∙◌, ℕ, zero, suc, ◌+◌, ◌-◌, ◌<◌, ◌≤◌, nat_lt, Bool, if◌then◌else◌, List, [], ◌∷◌, ◌++◌, map, length, take, drop, slice_get, None, Some, Option, refl, sym, ap, subst, append_assoc, length-append, arith}
use Rattle.std.specs.Prelude.{IfSome}
use Rattle.std.specs.List.{AllByRecursion}
use Rattle.std.proofs.lemmas.Bool.{ltb-true}
use Rattle.std.proofs.lemmas.List.{take_at, drop_at}
use Rattle.salus_types.specs.declared.names.Sender.{Sender}
use Rattle.salus_model.specs.declared.trace.TraceStep.{TraceStep}
use Rattle.salus_model.specs.Following.{Posted, posted_at, AddsOwn}
use Rattle.run_rules.specs.Running.{posts_between}
use Rattle.list_lemmas.proofs.Tests.{by_bool}
use Rattle.list_lemmas.proofs.Lists.{among_between}
use Rattle.list_lemmas.proofs.Members.{among_all}
use Rattle.merkle_region.specs.Tree.{IsAmong}
use Rattle.run_steps.specs.Steps.{IsFront}

pub whole_front : (posts : List Posted) → IsFront posts posts
whole_front posts = record { more = []; whole = sym (append_nil posts) } where
  append_nil : (l : List Posted) → l ++ [] ≡ l
  append_nil [] = refl
  append_nil (x ∷ l) = ap (λ (r : List Posted). x ∷ r) (append_nil l)

-- those of before are too
pub front_before : (sent new posts : List Posted) → IsFront (sent ++ new) posts → IsFront sent posts
front_before sent new posts front = record { more = new ++ front.more; whole = front.whole ∙ append_assoc sent new front.more }

pub front_longer : (sent posts : List Posted) → IsFront sent posts → length sent ≤ length posts
front_longer sent posts front =
    let long : length posts ≡ length (sent ++ front.more) = ap length front.whole in
    let both = length-append sent front.more in
    omega (arith, long, both)

get_front : {A : Type 0} (xs ys : List A) (i : ℕ) → i < length xs → slice_get (xs ++ ys) i ≡ slice_get xs i
get_front [] ys i inside = absurd (omega arith)
get_front (x ∷ xs) ys zero inside = refl
get_front (x ∷ xs) ys (suc i) inside = get_front xs ys i (omega arith)

-- a message that was sent is that of the run
pub posted_front : (sent posts : List Posted) (k : ℕ) → IsFront sent posts → k ≤ length sent → posted_at posts k ≡ posted_at sent k
posted_front sent posts k front low =
    let at : (l : List Posted) → Bool → Option Posted = λ l b. if b then slice_get l (k - 1) else None in
    by_bool (nat_lt 0 k) (posted_at posts k ≡ posted_at sent k)
    (λ e.
    let up : 0 < k = ltb-true 0 k e in
    ap (at posts) e ∙ (ap (λ (l : List Posted). slice_get l (k - 1)) front.whole ∙ (get_front sent front.more (k - 1) (omega (arith, up, low)) ∙ sym (ap (at sent) e))))
    (λ e. ap (at posts) e ∙ sym (ap (at sent) e))

-- the messages between two counts are the new ones
pub between_new : (sent new posts : List Posted) (now : ℕ) → IsFront (sent ++ new) posts → now ≡ length (sent ++ new) → posts_between posts (length sent) now ≡ new
between_new sent new posts now front count =
    let rest : drop (length sent) posts ≡ new ++ front.more =
    ap (λ (l : List Posted). drop (length sent) l) (front.whole ∙ append_assoc sent new front.more) ∙ drop_at sent (new ++ front.more) (length sent) refl in
    let both = length-append sent new in
    let long : now - length sent ≡ length new = omega (arith, count, both) in
    ap (λ (l : List Posted). take (now - length sent) l) rest ∙ take_at new front.more (now - length sent) (sym long)

-- and they have their sender
pub own_new : (sent new posts : List Posted) (party : Sender) (step : TraceStep) → IsFront (sent ++ new) posts → step.sent ≡ length (sent ++ new) → step.party ≡ party
    → AllByRecursion (λ m. m.from ≡ party) new → AddsOwn posts (length sent) step
own_new sent new posts party step front count addressed all k low high = of_number (posted_at posts k) refl where
  of_number : (o : Option Posted) → posted_at posts k ≡ o → IfSome o (λ m. m.from ≡ step.party)
  of_number None at = tt
  of_number (Some m) at =
      let among : IsAmong m (posts_between posts (length sent) step.sent) = among_between posts (length sent) step.sent k m at low high in
      let here : IsAmong m new = subst (IsAmong m) (between_new sent new posts step.sent front count) among in
      among_all (λ p. p.from ≡ party) new m here all ∙ sym addressed

pub front_along : (a b posts : List Posted) → IsFront a b → IsFront b posts → IsFront a posts
front_along a b posts first second = record { more = first.more ++ second.more; whole = second.whole ∙ (ap (λ (l : List Posted). l ++ second.more) first.whole ∙ append_assoc a first.more second.more) }
