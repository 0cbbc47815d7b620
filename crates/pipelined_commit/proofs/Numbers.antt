-- Noted numbers rise, each in a place of its own, so there are at most 16.
use Rattle.std.proofs.Common.{◌≡◌, ◌∙◌, ℕ, suc, ◌%◌, ◌<◌, ◌≤◌, ◌==◌, Bool, true, false, not, if◌then◌else◌, nat_eq, nat_lt, List, [], ◌∷◌, ◌++◌, map, length, take, drop, get_or, refl, sym, ap, arith}
use Rattle.std.specs.Prelude.{filter, insert}
use Rattle.std.specs.List.{AllByRecursion, IsDistinct, list_any}
use Rattle.std.proofs.Math.Seq.{take-suc, drop-cons}
use Rattle.std.proofs.Common.{append_assoc}
use Rattle.std.proofs.lemmas.Bool.{not-true, eqb-true, eq-eqb, ltb-true, ltb-false}
use Rattle.std.proofs.lemmas.Nat.{mod_below}
use Rattle.std.proofs.lemmas.List.{length-map}
use Rattle.std.proofs.lemmas.Map.Steps.{length-le_from_distinct_below}
use Rattle.replica_rules.specs.Voting.{share_place}
use Rattle.pipelined_commit.specs.Noting.{Noted, IsNoted, has_passed, without_place, put_note, with_note}
use Rattle.list_lemmas.proofs.Each.{all_filter, all_map, all_then, all_pass, all_zip}
use Rattle.list_lemmas.proofs.Tests.{way_with, same_test}
use Rattle.list_lemmas.proofs.Members.{among_all, any_among}

-- ---- places

share_sym : (x y : ℕ) → share_place x y ≡ share_place y x
share_sym x y =
    same_test (share_place x y) (share_place y x)
    (λ e. eq-eqb (y % 16) (x % 16) (sym (eqb-true (x % 16) (y % 16) e)))
    (λ e. eq-eqb (x % 16) (y % 16) (sym (eqb-true (y % 16) (x % 16) e)))

share_same : (x y : ℕ) → x ≡ y → share_place x y ≡ true
share_same x y same = eq-eqb (x % 16) (y % 16) (ap (λ n. n % 16) same)

-- numbers that share no place are two
not_one : (x y : ℕ) → share_place x y ≡ false → x ≡ y → ⊥
not_one x y apart same = let both : true ≡ false = sym (share_same x y same) ∙ apart in absurd (cc)

-- none of them has the number's place
abbrev pub Apart : ℕ → List Noted → Type 0
Apart x notes = AllByRecursion (λ o. share_place o.seq x ≡ false) notes

pub without_place-apart : (notes : List Noted) (x : ℕ) → Apart x (without_place notes x)
without_place-apart notes x =
    all_then (λ o. not (share_place o.seq x) ≡ true) (λ o. share_place o.seq x ≡ false) (λ o e. not-true (share_place o.seq x) e) (without_place notes x)
    (all_pass (λ (o : Noted). not (share_place o.seq x)) notes)

-- ---- rising

abbrev behind : Noted → Noted → Type 0
behind n o = (n.seq < o.seq) × (share_place n.seq o.seq ≡ false)

pub IsNoted-filter : (test : Noted → Bool) (notes : List Noted) → IsNoted notes → IsNoted (filter test notes)
unfolding IsNoted
IsNoted-filter test [] noted = tt
IsNoted-filter test (n ∷ notes) noted =
    let rest : IsNoted (filter test notes) = IsNoted-filter test notes noted.1 in
    let after : AllByRecursion (behind n) (filter test notes) = all_filter (behind n) test notes noted.0 in
    way_with (test n) (n ∷ filter test notes) (filter test notes) (λ l. IsNoted l) (λ pass. (after, rest)) (λ fail. rest)

all_put : (P : Noted → Type 0) (notes : List Noted) (n : Noted) → AllByRecursion P notes → P n → AllByRecursion P (put_note notes n)
unfolding put_note
all_put P [] n all here = (here, tt)
all_put P (o ∷ notes) n all here =
    way_with (nat_lt n.seq o.seq) (n ∷ o ∷ notes) (o ∷ put_note notes n) (λ l. AllByRecursion P l)
    (λ pass. (here, all)) (λ fail. (all.0, all_put P notes n all.1 here))

pub IsNoted-put : (notes : List Noted) (n : Noted) → IsNoted notes → Apart n.seq notes → IsNoted (put_note notes n)
unfolding IsNoted put_note
IsNoted-put [] n noted apart = (tt, tt)
IsNoted-put (o ∷ notes) n noted apart =
    way_with (nat_lt n.seq o.seq) (n ∷ o ∷ notes) (o ∷ put_note notes n) (λ l. IsNoted l)
    (λ pass.
    let less : n.seq < o.seq = ltb-true n.seq o.seq pass in
    let here : behind n o = (less, share_sym n.seq o.seq ∙ apart.0) in
    let later : AllByRecursion (behind n) notes =
    all_then (λ p. behind o p × (share_place p.seq n.seq ≡ false)) (behind n)
    (λ p both. let more : o.seq < p.seq = both.0.0 in (omega arith, share_sym n.seq p.seq ∙ both.1)) notes
    (all_zip (behind o) (λ p. share_place p.seq n.seq ≡ false) notes noted.0 apart.1) in
    ((here, later), noted))
    (λ fail.
    let least : o.seq ≤ n.seq = ltb-false n.seq o.seq fail in
    let other : o.seq ≡ n.seq → ⊥ = not_one o.seq n.seq apart.0 in
    let here : behind o n = (omega arith, apart.0) in
    (all_put (behind o) notes n noted.0 here, IsNoted-put notes n noted.1 apart.1))

pub IsNoted-with : (notes : List Noted) (n : Noted) → IsNoted notes → IsNoted (with_note notes n)
IsNoted-with notes n noted =
    way_with (has_passed notes n.seq) notes (put_note (without_place notes n.seq) n) (λ l. IsNoted l) (λ pass. noted)
    (λ fail. IsNoted-put (without_place notes n.seq) n (IsNoted-filter (λ o. not (share_place o.seq n.seq)) notes noted) (without_place-apart notes n.seq))

-- ---- at most 16

place_of_note : Noted → ℕ
place_of_note n = n.seq % 16

distinct_places : (notes : List Noted) → IsNoted notes → IsDistinct nat_eq (map (λ (n : Noted). n.seq % 16) notes)
unfolding IsNoted IsDistinct
distinct_places [] noted = tt
distinct_places (n ∷ notes) noted =
    (all_map (λ y. (n.seq % 16 == y) ≡ false) (λ (o : Noted). o.seq % 16) notes (all_then (behind n) (λ o. (n.seq % 16 == o.seq % 16) ≡ false) (λ o both. both.1) notes noted.0), distinct_places notes noted.1)

all_below : (q : ℕ) (xs : List ℕ) → AllByRecursion (λ y. y < 16) xs → list_any (λ y. q == y) xs ≡ true → q < 16
all_below q xs all found =
    let at = any_among (λ y. q == y) xs found in
    let same : q ≡ at.0 = eqb-true q at.0 at.2 in
    let below : at.0 < 16 = among_all (λ y. y < 16) xs at.0 at.1 all in
    omega arith

-- where a place is free there are fewer than 16
pub few_noted : (notes : List Noted) (x : ℕ) → IsNoted notes → Apart x notes → length notes < 16
unfolding IsDistinct
few_noted notes x noted apart =
    let places : List ℕ = map (λ (n : Noted). n.seq % 16) notes in
    let free : AllByRecursion (λ y. (x % 16 == y) ≡ false) places =
    all_map (λ y. (x % 16 == y) ≡ false) (λ (o : Noted). o.seq % 16) notes
    (all_then (λ o. share_place o.seq x ≡ false) (λ o. (x % 16 == o.seq % 16) ≡ false) (λ o e. share_sym x o.seq ∙ e) notes apart) in
    let short : AllByRecursion (λ y. y < 16) places = all_map (λ y. y < 16) (λ (o : Noted). o.seq % 16) notes (each_below notes) in
    let most : length (x % 16 ∷ places) ≤ 16 =
    length-le_from_distinct_below (x % 16 ∷ places) 16 (free, distinct_places notes noted)
    (λ q found. all_below q (x % 16 ∷ places) (mod_below x 16 (omega arith), short) found) in
    let same : length places ≡ length notes = length-map notes (λ (n : Noted). n.seq % 16) in
    omega arith
  where
    each_below : (notes : List Noted) → AllByRecursion (λ o. o.seq % 16 < 16) notes
    each_below [] = tt
    each_below (n ∷ notes) = (mod_below n.seq 16 (omega arith), each_below notes)

-- ---- where a note goes

-- the place that a loop looks for is behind those that it has passed
abbrev pub PutsBehind : List Noted → ℕ → ℕ → Type 0
PutsBehind notes x i = (note : Noted) → note.seq ≡ x → take i notes ++ put_note (drop i notes) note ≡ put_note notes note

pub puts_at_start : (notes : List Noted) (x : ℕ) → PutsBehind notes x 0
puts_at_start notes x note is = refl

put_before : (o : Noted) (rest : List Noted) (note : Noted) → nat_lt note.seq o.seq ≡ true → put_note (o ∷ rest) note ≡ note ∷ o ∷ rest
unfolding put_note
put_before o rest note less = ap (λ b. if b then note ∷ o ∷ rest else o ∷ put_note rest note) less

put_after : (o : Noted) (rest : List Noted) (note : Noted) → nat_lt note.seq o.seq ≡ false → put_note (o ∷ rest) note ≡ o ∷ put_note rest note
unfolding put_note
put_after o rest note more = ap (λ b. if b then note ∷ o ∷ rest else o ∷ put_note rest note) more

put_last : (note : Noted) → put_note [] note ≡ note ∷ []
unfolding put_note
put_last note = refl

pub puts_here : (notes : List Noted) (x i : ℕ) (o : Noted) → i < length notes → o ≡ get_or notes i o → nat_lt x o.seq ≡ true → PutsBehind notes x i
    → (note : Noted) → note.seq ≡ x → insert notes i note ≡ put_note notes note
puts_here notes x i o there read less behind note is =
    let rest : drop i notes ≡ o ∷ drop (suc i) notes = drop-cons notes i o there ∙ ap (λ y. y ∷ drop (suc i) notes) (sym read) in
    let below : nat_lt note.seq o.seq ≡ true = ap (λ y. nat_lt y o.seq) is ∙ less in
    ap (λ l. take i notes ++ l) (ap (λ l. note ∷ l) rest ∙ sym (put_before o (drop (suc i) notes) note below) ∙ ap (λ l. put_note l note) (sym rest)) ∙ behind note is

pub puts_further : (notes : List Noted) (x i : ℕ) (o : Noted) → i < length notes → o ≡ get_or notes i o → nat_lt x o.seq ≡ false → PutsBehind notes x i
    → PutsBehind notes x (suc i)
puts_further notes x i o there read more behind note is =
    let rest : drop i notes ≡ o ∷ drop (suc i) notes = drop-cons notes i o there ∙ ap (λ y. y ∷ drop (suc i) notes) (sym read) in
    let front : take (suc i) notes ≡ take i notes ++ o ∷ [] = take-suc notes i o there ∙ ap (λ y. take i notes ++ y ∷ []) (sym read) in
    let above : nat_lt note.seq o.seq ≡ false = ap (λ y. nat_lt y o.seq) is ∙ more in
    ap (λ l. l ++ put_note (drop (suc i) notes) note) front
    ∙ append_assoc (take i notes) (o ∷ []) (put_note (drop (suc i) notes) note)
    ∙ ap (λ l. take i notes ++ l) (sym (put_after o (drop (suc i) notes) note above) ∙ ap (λ l. put_note l note) (sym rest))
    ∙ behind note is

pub puts_at_end : (notes : List Noted) (x : ℕ) → PutsBehind notes x (length notes) → (note : Noted) → note.seq ≡ x → insert notes (length notes) note ≡ put_note notes note
puts_at_end notes x behind note is =
    let none : drop (length notes) notes ≡ [] = none_left notes in
    ap (λ l. take (length notes) notes ++ note ∷ l) none
    ∙ ap (λ l. take (length notes) notes ++ l) (sym (put_last note) ∙ ap (λ l. put_note l note) (sym none))
    ∙ behind note is
  where
    none_left : (notes : List Noted) → drop (length notes) notes ≡ []
    none_left [] = refl
    none_left (n ∷ notes) = none_left notes
