-- The ends of the chains of a session in a region: each base's, and each one part further.
use Rattle.std.proofs.Common.{◌≡◌, ℕ, zero, suc, ◌+◌, ◌-◌, ◌<◌, ◌≤◌, Bool, true, false, ◌==◌, nat_lt, nat_le, cond, List, [], ◌∷◌, length, map, bytes_eq, inl, inr, refl, sym, subst, arith}
use Rattle.std.specs.Prelude.{flat_map, filter}
use Rattle.std.proofs.lemmas.Bool.{eqb-true, false≢true, ltb-true}
use Rattle.salus_types.specs.Volume.{Shape}
use Rattle.salus_types.specs.declared.records.Record.{Record}
use Rattle.salus_types.specs.declared.records.Base.{Base}
use Rattle.merkle_region.specs.Tree.{root_of, IsAmong}
use Rattle.merkle_region.proofs.Membership.{among_left, among_right, among_either}
use Rattle.holding_model.specs.Fitting.{has_content, blocks_after}
use Rattle.volume_model.specs.Recovering.{End, base_end, is_link, linked, chain_ends}
use Rattle.restart_pool.specs.Following.{ends, end_after}
use Rattle.list_lemmas.proofs.Members.{among_filter, among_filter-in, among_map, among_map-in, among_flat_map, among_flat_map-in}
use Rattle.list_lemmas.proofs.Tests.{and_four}

module _ (shape : Shape) (bases : List Base) (parts : List Record) where
  abbrev upto : ℕ → List End
  upto n = chain_ends shape bases parts n

  -- one part further
  pub further : (n : ℕ) (end : End) (rec : Record) → IsAmong end (upto n) → IsAmong rec parts → is_link shape end rec ≡ true → IsAmong (end_after shape end rec) (upto (suc n))
  unfolding chain_ends
  further n end rec m p links =
      among_right (end_after shape end rec) (map base_end bases) (flat_map (λ e. linked shape parts e) (upto n))
      (among_flat_map-in (λ e. linked shape parts e) end (end_after shape end rec) (upto n) m
      (among_map-in (end_after shape end) (filter (λ r. is_link shape end r) parts) rec (among_filter-in (λ r. is_link shape end r) parts rec p links)))

  pub from_base : (n : ℕ) (base : Base) → IsAmong base bases → IsAmong (base_end base) (upto n)
  unfolding chain_ends
  from_base zero base m = among_map-in base_end bases base m
  from_base (suc n) base m = among_left (base_end base) (map base_end bases) (flat_map (λ e. linked shape parts e) (upto n)) (among_map-in base_end bases base m)

  -- how a chain comes about
  pub data HowEnds (n : ℕ) (end : End) : Type 0 where
    AtBase : (base : Base) → IsAmong base bases → end ≡ base_end base → HowEnds n end
    ByLink : (before : End) (rec : Record) → IsAmong before (upto n) → IsAmong rec parts → is_link shape before rec ≡ true → end ≡ end_after shape before rec → HowEnds n end

  at_base : (n : ℕ) (end : End) → IsAmong end (map base_end bases) → HowEnds n end
  at_base n end m = let from = among_map base_end end bases m in AtBase from.0 from.1 from.2

  pub how_ends : (n : ℕ) (end : End) → IsAmong end (upto (suc n)) → HowEnds n end
  unfolding chain_ends
  how_ends n end m = elim (among_either end (map base_end bases) (flat_map (λ e. linked shape parts e) (upto n)) m) [
    | inl here ↦ at_base n end here
    | inr more ↦
        let from = among_flat_map (λ e. linked shape parts e) end (upto n) more in
        let by = among_map (end_after shape from.0) end (filter (λ rec. is_link shape from.0 rec) parts) from.2 in
        let good = among_filter (λ rec. is_link shape from.0 rec) by.0 parts by.1 in
        ByLink from.0 by.0 from.1 good.0 good.1 by.2
  ]

  one_more : (n : ℕ) (end : End) → ((e : End) → IsAmong e (upto n) → IsAmong e (upto (suc n))) → HowEnds n end → IsAmong end (upto (suc (suc n)))
  one_more n end rest (AtBase base m is) = subst (λ e. IsAmong e (upto (suc (suc n)))) (sym is) (from_base (suc (suc n)) base m)
  one_more n end rest (ByLink before rec m p links is) = subst (λ e. IsAmong e (upto (suc (suc n)))) (sym is) (further (suc n) before rec (rest before m) p links)

  pub one_round_more : (n : ℕ) (end : End) → IsAmong end (upto n) → IsAmong end (upto (suc n))
  unfolding chain_ends
  one_round_more zero end m = among_left end (map base_end bases) (flat_map (λ e. linked shape parts e) (upto zero)) m
  one_round_more (suc n) end m = one_more n end (one_round_more n) (how_ends n end m)

  rounds_more : (k n m : ℕ) → m ≡ k + n → (end : End) → IsAmong end (upto n) → IsAmong end (upto m)
  rounds_more zero n m is end among = subst (λ i. IsAmong end (upto i)) (let e : n ≡ m = omega arith in e) among
  rounds_more (suc k) n m is end among =
      let next : suc (k + n) ≡ m = omega arith in
      subst (λ i. IsAmong end (upto i)) next (one_round_more (k + n) end (rounds_more k n (k + n) refl end among))

  pub more_rounds : (n m : ℕ) (end : End) → n ≤ m → IsAmong end (upto n) → IsAmong end (upto m)
  more_rounds n m end few among = rounds_more (m - n) n m (omega arith) end among

-- how many parts are numbered at most x
unfoldable pub count_to : ℕ → List Record → ℕ
count_to x [] = 0
count_to x (rec ∷ recs) = cond (nat_le rec.header.seq x) (suc (count_to x recs)) (count_to x recs)

one_le : (t : Bool) (c n : ℕ) → c ≤ n → cond t (suc c) c ≤ suc n
one_le true c n h = omega arith
one_le false c n h = omega arith

pub count-few : (x : ℕ) (recs : List Record) → count_to x recs ≤ length recs
unfolding count_to
count-few x [] = omega arith
count-few x (rec ∷ recs) =
    let rest = count-few x recs in
    let here : cond (nat_le rec.header.seq x) (suc (count_to x recs)) (count_to x recs) ≤ suc (length recs) = one_le (nat_le rec.header.seq x) (count_to x recs) (length recs) rest in
    omega (arith, here)

two_le : (s t : Bool) (c d : ℕ) → (s ≡ true → t ≡ true) → c ≤ d → cond s (suc c) c ≤ cond t (suc d) d
two_le true true c d h le = omega arith
two_le true false c d h le = absurd (false≢true (h refl))
two_le false true c d h le = omega arith
two_le false false c d h le = le

le_more : (n x y : ℕ) → x ≤ y → nat_le n x ≡ true → nat_le n y ≡ true
le_more n x y le h = grind arith

pub count-more : (x y : ℕ) (recs : List Record) → x ≤ y → count_to x recs ≤ count_to y recs
unfolding count_to
count-more x y [] le = omega arith
count-more x y (rec ∷ recs) le =
    two_le (nat_le rec.header.seq x) (nat_le rec.header.seq y) (count_to x recs) (count_to y recs) (le_more rec.header.seq x y le) (count-more x y recs le)

two_lt : (s t : Bool) (c d : ℕ) → s ≡ false → t ≡ true → c ≤ d → cond s (suc c) c < cond t (suc d) d
two_lt true t c d h k le = absurd (false≢true (sym h))
two_lt false true c d h k le = omega arith
two_lt false false c d h k le = absurd (false≢true k)

both_lt : (s t : Bool) (c d : ℕ) → (s ≡ true → t ≡ true) → c < d → cond s (suc c) c < cond t (suc d) d
both_lt true true c d h lt = omega arith
both_lt true false c d h lt = absurd (false≢true (h refl))
both_lt false true c d h lt = omega arith
both_lt false false c d h lt = lt

beyond : (n x : ℕ) → x < n → nat_le n x ≡ false
beyond n x lt = grind arith

itself : (n : ℕ) → nat_le n n ≡ true
itself n = grind arith

pub count-less : (x : ℕ) (rec : Record) (recs : List Record) → x < rec.header.seq → IsAmong rec recs → count_to x recs < count_to rec.header.seq recs
unfolding count_to
count-less x rec [] lt m = absurd m
count-less x rec (r ∷ recs) lt (inl e) =
    two_lt (nat_le r.header.seq x) (nat_le r.header.seq rec.header.seq) (count_to x recs) (count_to rec.header.seq recs)
    (beyond r.header.seq x (subst (λ (w : Record). x < w.header.seq) e lt)) (subst (λ (w : Record). nat_le w.header.seq rec.header.seq ≡ true) e (itself rec.header.seq))
    (count-more x rec.header.seq recs (omega arith))
count-less x rec (r ∷ recs) lt (inr m) =
    both_lt (nat_le r.header.seq x) (nat_le r.header.seq rec.header.seq) (count_to x recs) (count_to rec.header.seq recs)
    (le_more r.header.seq x rec.header.seq (omega arith)) (count-less x rec recs lt m)

-- ---- a chain has no more parts than there are, since their numbers rise along it

module _ (shape : Shape) (bases : List Base) (parts : List Record) where
  counted_by : (n : ℕ) (end : End) → ((e : End) → IsAmong e (chain_ends shape bases parts n) → IsAmong e (chain_ends shape bases parts (count_to e.at parts)))
      → HowEnds shape bases parts n end → IsAmong end (chain_ends shape bases parts (count_to end.at parts))
  counted_by n end rest (AtBase base m is) =
      subst (λ (e : End). IsAmong e (chain_ends shape bases parts (count_to e.at parts))) (sym is) (from_base shape bases parts (count_to base.rec.header.seq parts) base m)
  counted_by n end rest (ByLink before rec m p links is) =
      let says = and_four (rec.header.previous == before.at) (nat_lt rec.header.previous rec.header.seq) (has_content rec.writes rec.run)
      (bytes_eq (root_of shape.height (blocks_after shape before.blocks rec)) rec.header.root) links in
      let from : rec.header.previous ≡ before.at = eqb-true rec.header.previous before.at says.0 in
      let rises : before.at < rec.header.seq = subst (λ x. x < rec.header.seq) from (ltb-true rec.header.previous rec.header.seq says.1) in
      let next = further shape bases parts (count_to before.at parts) before rec (rest before m) p links in
      subst (λ (e : End). IsAmong e (chain_ends shape bases parts (count_to e.at parts))) (sym is)
      (more_rounds shape bases parts (suc (count_to before.at parts)) (count_to rec.header.seq parts) (end_after shape before rec) (count-less before.at rec parts rises p) next)

  counted_base : (end : End) → IsAmong end (chain_ends shape bases parts zero) → IsAmong end (chain_ends shape bases parts (count_to end.at parts))
  unfolding chain_ends
  counted_base end m =
      let from = among_map base_end end bases m in
      subst (λ (e : End). IsAmong e (chain_ends shape bases parts (count_to e.at parts))) (sym from.2)
      (from_base shape bases parts (count_to from.0.rec.header.seq parts) from.0 from.1)

  pub counted : (n : ℕ) (end : End) → IsAmong end (chain_ends shape bases parts n) → IsAmong end (chain_ends shape bases parts (count_to end.at parts))
  counted zero end m = counted_base end m
  counted (suc n) end m = counted_by n end (counted n) (how_ends shape bases parts n end m)

  pub in_all : (n k : ℕ) (end : End) → length parts ≤ k → IsAmong end (chain_ends shape bases parts n) → IsAmong end (chain_ends shape bases parts k)
  in_all n k end few m =
      let count = count-few end.at parts in
      more_rounds shape bases parts (count_to end.at parts) k end (omega (arith, count)) (counted n end m)
