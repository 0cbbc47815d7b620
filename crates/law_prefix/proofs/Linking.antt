-- Parts that link from a place: how far they reach, one part more, and the chain to each of the region's numbers.
use Rattle.std.proofs.Common.{◌≡◌, ℕ, suc, ◌≤◌, ◌<◌, List, [], ◌∷◌, ◌++◌, length, refl, sym, ap, ◌∙◌, arith, le_refl, subst, ⊎_elim, eq-or-lt_of_le, lt_of_not-le, length-append}
use Rattle.law_prefix.specs.Numbers.{Mem, number}
use Rattle.law_prefix.specs.Images.{Part, IsPart, IsLinked, reach, HasChain}
use Rattle.law_prefix.proofs.Counting.{number_more, number_bound, number_touched, number_front, touches_front}

-- a part that links from a place is past it
pub part_past : (bs : List (List ℕ)) (n g at : ℕ) (p : Part) → IsPart bs n g p → p.previous ≡ at → at ≤ p.before
part_past bs n g at p is e =
    let h : number bs n p.before g ≤ p.before = number_bound bs n p.before g is.after_start in
    let l : p.previous ≡ number bs n p.before g = is.links in
    omega arith

pub reach_above : (bs : List (List ℕ)) (n g at : ℕ) (ps : List Part) → IsLinked bs n g at ps → at ≤ reach at ps
unfolding IsLinked reach
reach_above bs n g at [] linked = le_refl at
reach_above bs n g at (p ∷ ps) linked =
    let h : at ≤ p.before = part_past bs n g at p linked.0 linked.1 in
    let k : suc p.before ≤ reach (suc p.before) ps = reach_above bs n g (suc p.before) ps linked.2 in
    omega arith

pub reach_within : (bs : List (List ℕ)) (n g at : ℕ) (ps : List Part) → IsLinked bs n g at ps → at ≤ length bs → reach at ps ≤ length bs
unfolding IsLinked reach
reach_within bs n g at [] linked h = h
reach_within bs n g at (p ∷ ps) linked h = reach_within bs n g (suc p.before) ps linked.2 linked.0.submitted

-- a part that is held is reached
pub reach_held : (bs : List (List ℕ)) (n g at : ℕ) (ps : List Part) (p : Part) → IsLinked bs n g at ps → Mem p ps → suc p.before ≤ reach at ps
unfolding IsLinked reach
reach_held bs n g at [] p linked held = absurd held
reach_held bs n g at (q ∷ ps) p linked held =
    ⊎_elim
    (λ (e : p ≡ q). subst (λ x. suc x.before ≤ reach (suc q.before) ps) (sym e) (reach_above bs n g (suc q.before) ps linked.2))
    (λ (m : Mem p ps). reach_held bs n g (suc q.before) ps p linked.2 m)
    held

pub reach_added : (at : ℕ) (ps : List Part) (p : Part) → reach at (ps ++ p ∷ []) ≡ suc p.before
unfolding reach
reach_added at [] p = refl
reach_added at (q ∷ ps) p = reach_added (suc q.before) ps p

pub linked_added : (bs : List (List ℕ)) (n g at : ℕ) (ps : List Part) (p : Part) → IsLinked bs n g at ps → IsPart bs n g p → p.previous ≡ reach at ps
    → IsLinked bs n g at (ps ++ p ∷ [])
unfolding IsLinked reach
linked_added bs n g at [] p linked is e = (is, e, tt)
linked_added bs n g at (q ∷ ps) p linked is e = (linked.0, linked.1, linked_added bs n g (suc q.before) ps p linked.2 is e)

-- batches that were submitted later change nothing
pub part_front : (bs more : List (List ℕ)) (n g : ℕ) (p : Part) → IsPart bs n g p → IsPart (bs ++ more) n g p
part_front bs more n g p is =
    let within : p.before < length bs = is.submitted in
    let room : p.before ≤ length bs = omega arith in
    record {
      after_start = is.after_start;
      submitted = grind (arith, length-append {A = List ℕ} bs more);
      touched = touches_front bs more p.before g within ∙ is.touched;
      links = is.links ∙ sym (number_front bs more n p.before g room);
    }

pub linked_front : (bs more : List (List ℕ)) (n g at : ℕ) (ps : List Part) → IsLinked bs n g at ps → IsLinked (bs ++ more) n g at ps
unfolding IsLinked
linked_front bs more n g at [] linked = tt
linked_front bs more n g at (p ∷ ps) linked = (part_front bs more n g p linked.0, linked.1, linked_front bs more n g (suc p.before) ps linked.2)

-- a region's number between the base and what is reached has a chain
pub chain_to : (bs : List (List ℕ)) (n g at x : ℕ) (ps : List Part) → IsLinked bs n g at ps
    → at ≤ number bs n x g → number bs n x g ≤ reach at ps → HasChain at ps (number bs n x g)
unfolding IsLinked reach
chain_to bs n g at x [] linked low high = record { front = []; rest = []; joined = refl; ends = omega arith }
chain_to bs n g at x (p ∷ ps) linked low high =
    ⊎_elim
    (λ (e : at ≡ number bs n x g). record { front = []; rest = p ∷ ps; joined = refl; ends = e })
    (λ (l : at < number bs n x g).
    let past : suc p.before ≤ number bs n x g = passed l in
    let c : HasChain (suc p.before) ps (number bs n x g) = chain_to bs n g (suc p.before) x ps linked.2 past high in
    record { front = p ∷ c.front; rest = c.rest; joined = ap (λ l. p ∷ l) c.joined; ends = c.ends })
    (eq-or-lt_of_le low)
  where
    -- x is not at or before the batch in front of the part: its number would be that of `at`
    passed : at < number bs n x g → suc p.before ≤ number bs n x g
    passed l =
        let after : p.before < x = lt_of_not-le (λ (h : x ≤ p.before).
        let m : number bs n x g ≤ number bs n p.before g = number_more bs n x p.before g h in
        let e : p.previous ≡ number bs n p.before g = linked.0.links in
        let f : p.previous ≡ at = linked.1 in omega arith) in
        let t : number bs n (suc p.before) g ≡ suc p.before = number_touched bs n p.before g linked.0.after_start linked.0.touched in
        let m : number bs n (suc p.before) g ≤ number bs n x g = number_more bs n (suc p.before) x g after in
        omega arith
