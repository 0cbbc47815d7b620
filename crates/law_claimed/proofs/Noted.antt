-- The noted headers of a leader: they stand by rising numbers, and what has a place keeps it or gives it to a greater one.
use Rattle.std.proofs.Common.{◌≡◌, ◌∙◌, ◌⊎◌, inl, inr, ⊎_elim, ℕ, ◌%◌, ◌<◌, ◌≤◌, ◌==◌, ◌&&◌, not, nat_lt, nat_le, Bool, true, if◌then◌else◌, List, [], ◌∷◌, refl, sym, subst, arith, eqb-true}
use Rattle.std.specs.Prelude.{filter}
use Rattle.std.specs.List.{AllByRecursion}
use Rattle.std.proofs.lemmas.Bool.{true≢false, eq-eqb, ltb-true, ltb-false, leb-true, leb-false, not_from_false}
use Rattle.salus_types.specs.declared.records.Header.{Header}
use Rattle.salus_types.specs.declared.records.Record.{Record}
use Rattle.merkle_region.specs.Tree.{IsAmong}
use Rattle.replica_rules.specs.Views.{led_by}
use Rattle.replica_rules.specs.Voting.{share_place}
use Rattle.replica_rules.specs.Leading.{put_header, is_passed, with_header, with_led, noted_with, front_after}
use Rattle.list_lemmas.proofs.Each.{either_way}
use Rattle.list_lemmas.proofs.Members.{any_among, any_from, among_filter, among_filter-in}
use Rattle.list_lemmas.proofs.Tests.{by_bool, by_test, way_with, and_left, and_right}
use Rattle.law_answers.proofs.Asks.{both_true}
use Rattle.law_claimed.specs.Leading.{Rises, HasNoted, IsNotedOf}

-- ---- rising numbers

pub rises_low : (low lower : ℕ) (headers : List Header) → lower ≤ low → Rises low headers → Rises lower headers
unfolding Rises
rises_low low lower [] under rises = tt
rises_low low lower (h ∷ headers) under rises = let up : low ≤ h.seq = rises.0 in (omega (arith, under, up), rises.1)

pub rises_filter : (test : Header → Bool) (low : ℕ) (headers : List Header) → Rises low headers → Rises low (filter test headers)
unfolding Rises
rises_filter test low [] rises = tt
rises_filter test low (h ∷ headers) rises =
    let rest : Rises h.seq (filter test headers) = rises_filter test h.seq headers rises.1 in
    either_way (test h) (h ∷ filter test headers) (filter test headers) (Rises low) (rises.0, rest) (rises_low h.seq low (filter test headers) rises.0 rest)

rises_put : (low : ℕ) (noted : List Header) (h : Header) → low ≤ h.seq → Rises low noted → Rises low (put_header noted h)
unfolding Rises put_header
rises_put low [] h up rises = (up, tt)
rises_put low (other ∷ noted) h up rises =
    way_with (nat_lt h.seq other.seq) (h ∷ other ∷ noted) (other ∷ put_header noted h) (Rises low)
    (λ before. let less : h.seq < other.seq = ltb-true h.seq other.seq before in (up, (omega (arith, less), rises.1)))
    (λ behind. (rises.0, rises_put other.seq noted h (ltb-false h.seq other.seq behind) rises.1))

-- where each is past a front, they rise from there
pub rises_past : (low front : ℕ) (headers : List Header) → Rises low headers → AllByRecursion (λ h. front < h.seq) headers → Rises front headers
unfolding Rises
rises_past low front [] rises past = tt
rises_past low front (h ∷ headers) rises past = let over : front < h.seq = past.0 in (omega (arith, over), rises.1)

-- ---- the front after some

-- it is the last one's number, if there is one
pub front_last : (front : ℕ) (headers : List Header) → (front_after front headers ≡ front) ⊎ ((h : Header) × IsAmong h headers × (front_after front headers ≡ h.seq))
unfolding front_after
front_last front [] = inl refl
front_last front (h ∷ headers) =
    inr (⊎_elim (λ (same : front_after h.seq headers ≡ h.seq). (h, inl refl, same))
    (λ (later : (x : Header) × IsAmong x headers × (front_after h.seq headers ≡ x.seq)). (later.0, inr later.1, later.2)) (front_last h.seq headers))

-- no number is above it
pub front_over : (front : ℕ) (headers : List Header) → Rises front headers → (front ≤ front_after front headers) × AllByRecursion (λ h. h.seq ≤ front_after front headers) headers
unfolding Rises front_after
front_over front [] rises = (omega arith, tt)
front_over front (h ∷ headers) rises =
    let rest = front_over h.seq headers rises.1 in
    let more : h.seq ≤ front_after h.seq headers = rest.0 in
    let first : front ≤ h.seq = rises.0 in
    (omega (arith, more, first), (more, rest.1))

-- ---- places

put_new : (noted : List Header) (h : Header) → IsAmong h (put_header noted h)
unfolding put_header
put_new [] h = inl refl
put_new (other ∷ noted) h = either_way (nat_lt h.seq other.seq) (h ∷ other ∷ noted) (other ∷ put_header noted h) (IsAmong h) (inl refl) (inr (put_new noted h))

put_old : (noted : List Header) (h x : Header) → IsAmong x noted → IsAmong x (put_header noted h)
unfolding put_header
put_old [] h x among = absurd among
put_old (other ∷ noted) h x among =
    either_way (nat_lt h.seq other.seq) (h ∷ other ∷ noted) (other ∷ put_header noted h) (IsAmong x) (inr among)
    (⊎_elim (λ (is : x ≡ other). inl is) (λ (more : IsAmong x noted). inr (put_old noted h x more)) among)

put_was : (noted : List Header) (h x : Header) → IsAmong x (put_header noted h) → (x ≡ h) ⊎ IsAmong x noted
unfolding put_header
put_was [] h x (inl is) = inl is
put_was [] h x (inr none) = absurd none
put_was (other ∷ noted) h x among =
    by_test (λ (b : Bool). IsAmong x (if b then h ∷ other ∷ noted else other ∷ put_header noted h) → (x ≡ h) ⊎ IsAmong x (other ∷ noted)) (nat_lt h.seq other.seq)
    (λ _ there. there)
    (λ _ there. ⊎_elim (λ (is : x ≡ other). inr (inl is))
    (λ (more : IsAmong x (put_header noted h)). ⊎_elim (λ (new : x ≡ h). inl new) (λ (old : IsAmong x noted). inr (inr old)) (put_was noted h x more)) there) among

shares : (a b : ℕ) → share_place a b ≡ true → a % 16 ≡ b % 16
shares a b is = eqb-true (a % 16) (b % 16) is

pub share_from : (a b : ℕ) → a % 16 ≡ b % 16 → share_place a b ≡ true
share_from a b is = eq-eqb (a % 16) (b % 16) is

-- a header is noted, and none has its place that is lower
module _ (noted : List Header) (h : Header) where
  abbrev others : List Header
  others = filter (λ other. not (share_place other.seq h.seq)) noted

  pub rises_with : Rises 0 noted → Rises 0 (with_header noted h)
  rises_with rises =
      either_way (is_passed noted h) noted (put_header others h) (Rises 0) rises
      (rises_put 0 others h (omega arith) (rises_filter (λ other. not (share_place other.seq h.seq)) 0 noted rises))

  pub noted_new : HasNoted h.seq (with_header noted h)
  noted_new =
      way_with (is_passed noted h) noted (put_header others h) (HasNoted h.seq)
      (λ passed.
      let found = any_among (λ other. share_place other.seq h.seq && nat_le h.seq other.seq) noted passed in
      record {
        h = found.0;
        among = found.1;
        place = and_left (share_place found.0.seq h.seq) (nat_le h.seq found.0.seq) found.2;
        high = leb-true h.seq found.0.seq (and_right (share_place found.0.seq h.seq) (nat_le h.seq found.0.seq) found.2);
      })
      (λ _. record { h = h; among = put_new others h; place = share_from h.seq h.seq refl; high = omega arith })

  pub noted_old : (s : ℕ) → HasNoted s noted → HasNoted s (with_header noted h)
  noted_old s has =
      way_with (is_passed noted h) noted (put_header others h) (HasNoted s) (λ _. has)
      (λ unpassed.
      by_bool (share_place has.h.seq h.seq) (HasNoted s (put_header others h))
      (λ same.
      let high : s ≤ has.h.seq = has.high in
      let less : has.h.seq < h.seq =
      by_bool (nat_le h.seq has.h.seq) (has.h.seq < h.seq)
      (λ le. absurd (true≢false (sym (any_from (λ other. share_place other.seq h.seq && nat_le h.seq other.seq) has.h noted has.among (both_true (share_place has.h.seq h.seq) (nat_le h.seq has.h.seq) same le)) ∙ unpassed)))
      (λ gt. leb-false h.seq has.h.seq gt) in
      record {
        h = h;
        among = put_new others h;
        place = share_from h.seq s (sym (shares has.h.seq h.seq same) ∙ shares has.h.seq s has.place);
        high = omega (arith, high, less);
      })
      (λ apart. record {
        h = has.h;
        among = put_old others h has.h (among_filter-in (λ other. not (share_place other.seq h.seq)) noted has.h has.among (not_from_false (share_place has.h.seq h.seq) apart));
        place = has.place;
        high = has.high;
      }))

  pub noted_was : (x : Header) → IsAmong x (with_header noted h) → (x ≡ h) ⊎ IsAmong x noted
  noted_was x among =
      by_test (λ (b : Bool). IsAmong x (if b then noted else put_header others h) → (x ≡ h) ⊎ IsAmong x noted) (is_passed noted h) (λ _ there. inr there)
      (λ _ there. ⊎_elim (λ (new : x ≡ h). inl new) (λ (old : IsAmong x others). inr (among_filter (λ other. not (share_place other.seq h.seq)) x noted old).0) (put_was others h x there)) among

-- ---- parts

module _ (g : ℕ) where
  pub rises_parts : (noted : List Header) (parts : List Record) → Rises 0 noted → Rises 0 (noted_with g noted parts)
  rises_parts noted [] rises = rises
  rises_parts noted (rec ∷ parts) rises =
      rises_parts (with_led g noted rec) parts (either_way (led_by rec.header == g) (with_header noted rec.header) noted (Rises 0) (rises_with noted rec.header rises) rises)

  pub parts_old : (s : ℕ) (noted : List Header) (parts : List Record) → HasNoted s noted → HasNoted s (noted_with g noted parts)
  parts_old s noted [] has = has
  parts_old s noted (rec ∷ parts) has =
      parts_old s (with_led g noted rec) parts (either_way (led_by rec.header == g) (with_header noted rec.header) noted (HasNoted s) (noted_old noted rec.header s has) has)

  -- none but theirs is new
  pub parts_were : (IsPart : Record → Type 0) (noted : List Header) (parts : List Record) → AllByRecursion IsPart parts → (h : Header) → IsAmong h (noted_with g noted parts) → IsNotedOf IsPart noted h
  parts_were IsPart noted [] all h among = inl among
  parts_were IsPart noted (rec ∷ parts) all h among =
      ⊎_elim (λ (was : IsAmong h (with_led g noted rec)).
      by_test (λ (b : Bool). IsAmong h (if b then with_header noted rec.header else noted) → IsNotedOf IsPart noted h) (led_by rec.header == g)
      (λ _ there. ⊎_elim (λ (new : h ≡ rec.header). inr (rec, all.0, new)) (λ (old : IsAmong h noted). inl old) (noted_was noted rec.header h there)) (λ _ there. inl there) was)
      (λ (new : (r : Record) × IsPart r × (h ≡ r.header)). inr new) (parts_were IsPart (with_led g noted rec) parts all.1 h among)

  -- each of them that the region leads
  pub parts_new : (noted : List Header) (parts : List Record) (rec : Record) → IsAmong rec parts → led_by rec.header ≡ g → HasNoted rec.header.seq (noted_with g noted parts)
  parts_new noted [] rec among led = absurd among
  parts_new noted (other ∷ parts) rec (inl is) led =
      parts_old rec.header.seq (with_led g noted other) parts
      (subst (λ (r : Record). HasNoted rec.header.seq (with_led g noted r)) is
      (way_with (led_by rec.header == g) (with_header noted rec.header) noted (HasNoted rec.header.seq) (λ _. noted_new noted rec.header)
      (λ off. absurd (true≢false (sym (eq-eqb (led_by rec.header) g led) ∙ off)))))
  parts_new noted (other ∷ parts) rec (inr more) led = parts_new (with_led g noted other) parts rec more led
