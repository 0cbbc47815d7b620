-- Asks by rising read numbers.
use Rattle.std.proofs.Common.{◌≡◌, ◌∙◌, ℕ, zero, suc, ◌+◌, ◌<◌, ◌≤◌, ◌==◌, Bool, true, false, not, cond, if◌then◌else◌, nat_lt, nat_le, List, [], ◌∷◌, length, get_or, refl, sym, ap, subst, arith}
use Rattle.std.specs.Prelude.{filter, insert, slice_get, slice_set}
use Rattle.std.specs.Option.{option_map_or}
use Rattle.std.specs.List.{AllByRecursion, position_or_len}
use Rattle.std.specs.List.Sorted.{IsNonDecreasingBy, IsPartitionPoint}
use Rattle.std.proofs.lemmas.List.Sums.{position_or_len_is}
use Rattle.std.proofs.lemmas.Bool.{lt-ltb, le-ltb, le-leb, lt-leb, ltb-true, ltb-false, leb-true, leb-false, eqb-true, eqb-false, eq-eqb, ne_eqb}
use Rattle.salus_message.specs.declared.small.Ask.{Ask}
use Rattle.replica_rules.specs.Replicas.{with_ask}
use Rattle.region_replica.specs.Keeping.{IsRising}
use Rattle.list_lemmas.proofs.Each.{all_filter, all_then}
use Rattle.list_lemmas.proofs.Tests.{by_bool, way_with}

-- ---- places

all_at : (P : Ask → Type 0) (asks : List Ask) (k : ℕ) (d : Ask) → AllByRecursion P asks → k < length asks → P (get_or asks k d)
all_at P [] k d all less = absurd (omega arith)
all_at P (ask ∷ asks) zero d all less = all.0
all_at P (ask ∷ asks) (suc k) d all less = all_at P asks k d all.1 (omega arith)

pub rising-places : (asks : List Ask) → IsRising asks → IsNonDecreasingBy (λ (a : Ask). a.read) asks
unfolding IsRising
rising-places [] rising i j d le less = absurd (omega arith)
rising-places (ask ∷ asks) rising zero zero d le less = omega arith
rising-places (ask ∷ asks) rising zero (suc j) d le less =
    let above : ask.read < (get_or asks j d).read = all_at (λ (other : Ask). ask.read < other.read) asks j d rising.0 (omega arith) in
    omega arith
rising-places (ask ∷ asks) rising (suc i) zero d le less = absurd (omega arith)
rising-places (ask ∷ asks) rising (suc i) (suc j) d le less = rising-places asks rising.1 i j d (omega arith) (omega arith)

-- the first ask of at least that read number
abbrev pub place_in : List Ask → ℕ → ℕ
place_in asks read = position_or_len (λ (a : Ask). nat_le read a.read) asks

-- ---- an ask is kept

here_first : (o : Ask) (asks : List Ask) (read : ℕ) → nat_le read o.read ≡ true → place_in (o ∷ asks) read ≡ 0
here_first o asks read pass = ap (λ b. cond (not b) (1 + place_in asks read) 0) pass

later_first : (o : Ask) (asks : List Ask) (read : ℕ) → nat_le read o.read ≡ false → place_in (o ∷ asks) read ≡ suc (place_in asks read)
later_first o asks read fail =
    let next : 1 + place_in asks read ≡ suc (place_in asks read) = omega arith in
    ap (λ b. cond (not b) (1 + place_in asks read) 0) fail ∙ next

before : (o : Ask) (asks : List Ask) (ask : Ask) → ask.read < o.read → with_ask (o ∷ asks) ask ≡ ask ∷ o ∷ asks
unfolding with_ask
before o asks ask less = ap (λ b. if b then ask ∷ o ∷ asks else if ask.read == o.read then ask ∷ asks else o ∷ with_ask asks ask) (lt-ltb ask.read o.read less)

in_place : (o : Ask) (asks : List Ask) (ask : Ask) → ask.read ≡ o.read → with_ask (o ∷ asks) ask ≡ ask ∷ asks
unfolding with_ask
in_place o asks ask same =
    ap (λ b. if b then ask ∷ o ∷ asks else if ask.read == o.read then ask ∷ asks else o ∷ with_ask asks ask) (le-ltb ask.read o.read (omega arith))
    ∙ ap (λ b. if b then ask ∷ asks else o ∷ with_ask asks ask) (eq-eqb ask.read o.read same)

behind : (o : Ask) (asks : List Ask) (ask : Ask) → o.read < ask.read → with_ask (o ∷ asks) ask ≡ o ∷ with_ask asks ask
unfolding with_ask
behind o asks ask more =
    ap (λ b. if b then ask ∷ o ∷ asks else if ask.read == o.read then ask ∷ asks else o ∷ with_ask asks ask) (le-ltb ask.read o.read (omega arith))
    ∙ ap (λ b. if b then ask ∷ asks else o ∷ with_ask asks ask) (ne_eqb ask.read o.read (omega arith))

last : (ask : Ask) → with_ask [] ask ≡ ask ∷ []
unfolding with_ask
last ask = refl

-- the ask at that place has that read number
abbrev pub is_read_at : List Ask → ℕ → ℕ → Bool
is_read_at asks place read = option_map_or (λ (a : Ask). a.read == read) (slice_get asks place) false

pub read_within : (asks : List Ask) (place read : ℕ) → is_read_at asks place read ≡ true → place < length asks
read_within [] place read is = cc
read_within (o ∷ asks) zero read is = omega arith
read_within (o ∷ asks) (suc place) read is = let rest : place < length asks = read_within asks place read is in omega arith

-- it takes the place of one of its read number
pub replaces : (asks : List Ask) (ask : Ask) → is_read_at asks (place_in asks ask.read) ask.read ≡ true → slice_set asks (place_in asks ask.read) ask ≡ with_ask asks ask
replaces [] ask is = cc
replaces (o ∷ asks) ask is =
    by_bool (nat_le ask.read o.read) (slice_set (o ∷ asks) (place_in (o ∷ asks) ask.read) ask ≡ with_ask (o ∷ asks) ask)
    (λ pass.
    let at : place_in (o ∷ asks) ask.read ≡ 0 = here_first o asks ask.read pass in
    let equal : (o.read == ask.read) ≡ true = subst (λ k. is_read_at (o ∷ asks) k ask.read ≡ true) at is in
    ap (λ k. slice_set (o ∷ asks) k ask) at ∙ sym (in_place o asks ask (sym (eqb-true o.read ask.read equal))))
    (λ fail.
    let at : place_in (o ∷ asks) ask.read ≡ suc (place_in asks ask.read) = later_first o asks ask.read fail in
    ap (λ k. slice_set (o ∷ asks) k ask) at
    ∙ ap (λ l. o ∷ l) (replaces asks ask (subst (λ k. is_read_at (o ∷ asks) k ask.read ≡ true) at is))
    ∙ sym (behind o asks ask (leb-false ask.read o.read fail)))

-- or it stands before the first of a greater one
pub stands : (asks : List Ask) (ask : Ask) → is_read_at asks (place_in asks ask.read) ask.read ≡ false → insert asks (place_in asks ask.read) ask ≡ with_ask asks ask
stands [] ask other = sym (last ask)
stands (o ∷ asks) ask other =
    by_bool (nat_le ask.read o.read) (insert (o ∷ asks) (place_in (o ∷ asks) ask.read) ask ≡ with_ask (o ∷ asks) ask)
    (λ pass.
    let at : place_in (o ∷ asks) ask.read ≡ 0 = here_first o asks ask.read pass in
    let least : ask.read ≤ o.read = leb-true ask.read o.read pass in
    let apart : o.read ≡ ask.read → ⊥ = eqb-false o.read ask.read (subst (λ k. is_read_at (o ∷ asks) k ask.read ≡ false) at other) in
    ap (λ k. insert (o ∷ asks) k ask) at ∙ sym (before o asks ask (omega arith)))
    (λ fail.
    let at : place_in (o ∷ asks) ask.read ≡ suc (place_in asks ask.read) = later_first o asks ask.read fail in
    ap (λ k. insert (o ∷ asks) k ask) at
    ∙ ap (λ l. o ∷ l) (stands asks ask (subst (λ k. is_read_at (o ∷ asks) k ask.read ≡ false) at other))
    ∙ sym (behind o asks ask (leb-false ask.read o.read fail)))

all_with : (P : Ask → Type 0) (asks : List Ask) (ask : Ask) → AllByRecursion P asks → P ask → AllByRecursion P (with_ask asks ask)
unfolding with_ask
all_with P [] ask all here = (here, tt)
all_with P (o ∷ asks) ask all here =
    way_with (nat_lt ask.read o.read) (ask ∷ o ∷ asks) (if ask.read == o.read then ask ∷ asks else o ∷ with_ask asks ask) (λ l. AllByRecursion P l)
    (λ less. (here, all))
    (λ more. way_with (ask.read == o.read) (ask ∷ asks) (o ∷ with_ask asks ask) (λ l. AllByRecursion P l)
    (λ same. (here, all.1)) (λ apart. (all.0, all_with P asks ask all.1 here)))

pub IsRising-with : (asks : List Ask) (ask : Ask) → IsRising asks → IsRising (with_ask asks ask)
unfolding IsRising with_ask
IsRising-with [] ask rising = (tt, tt)
IsRising-with (o ∷ asks) ask rising =
    way_with (nat_lt ask.read o.read) (ask ∷ o ∷ asks) (if ask.read == o.read then ask ∷ asks else o ∷ with_ask asks ask) (λ l. IsRising l)
    (λ less.
    let under : ask.read < o.read = ltb-true ask.read o.read less in
    let later : AllByRecursion (λ (other : Ask). ask.read < other.read) asks =
    all_then (λ (other : Ask). o.read < other.read) (λ other. ask.read < other.read) (λ other above. omega arith) asks rising.0 in
    ((under, later), rising))
    (λ more. way_with (ask.read == o.read) (ask ∷ asks) (o ∷ with_ask asks ask) (λ l. IsRising l)
    (λ same.
    let equal : ask.read ≡ o.read = eqb-true ask.read o.read same in
    let later : AllByRecursion (λ (other : Ask). ask.read < other.read) asks =
    all_then (λ (other : Ask). o.read < other.read) (λ other. ask.read < other.read) (λ other above. omega arith) asks rising.0 in
    (later, rising.1))
    (λ apart.
    let least : o.read ≤ ask.read = ltb-false ask.read o.read more in
    let differs : ask.read ≡ o.read → ⊥ = eqb-false ask.read o.read apart in
    let above : o.read < ask.read = omega arith in
    (all_with (λ (other : Ask). o.read < other.read) asks ask rising.0 above, IsRising-with asks ask rising.1)))

-- ---- an ask is taken out

pub IsRising-filter : (test : Ask → Bool) (asks : List Ask) → IsRising asks → IsRising (filter test asks)
unfolding IsRising
IsRising-filter test [] rising = tt
IsRising-filter test (o ∷ asks) rising =
    let rest : IsRising (filter test asks) = IsRising-filter test asks rising.1 in
    let later : AllByRecursion (λ (other : Ask). o.read < other.read) (filter test asks) = all_filter (λ (other : Ask). o.read < other.read) test asks rising.0 in
    way_with (test o) (o ∷ filter test asks) (filter test asks) (λ l. IsRising l) (λ pass. (later, rest)) (λ fail. rest)

no_ask : Ask
no_ask = record { session = 0; read = 0; block = 0; at = 0 }

-- a search by halves finds it
pub point-place : (asks : List Ask) (read i : ℕ) → i ≤ length asks → IsPartitionPoint (λ (a : Ask). nat_lt a.read read ≡ true) (λ (a : Ask). nat_lt a.read read ≡ false) asks i → i ≡ place_in asks read
point-place asks read i le point =
    sym (position_or_len_is (λ (a : Ask). nat_le read a.read) asks i no_ask le
    (λ k less.
    let under : (get_or asks k no_ask).read < read = ltb-true (get_or asks k no_ask).read read (point.0 k no_ask (omega arith) less) in
    lt-leb read (get_or asks k no_ask).read under)
    (λ less.
    let least : read ≤ (get_or asks i no_ask).read = ltb-false (get_or asks i no_ask).read read (point.1 i no_ask (omega arith) less) in
    le-leb read (get_or asks i no_ask).read least))

-- what the program does with the ask, by what it has read
module _ (asks now slice : List Ask) (ask : Ask) (place : ℕ) (found : Bool) (same : asks ≡ now) (all : slice ≡ asks) (at : place ≡ place_in now ask.read) (is : found ≡ is_read_at slice place ask.read) where
  reads : found ≡ is_read_at now (place_in now ask.read) ask.read
  reads = is ∙ ap (λ l. is_read_at l place ask.read) (all ∙ same) ∙ ap (λ k. is_read_at now k ask.read) at

  pub set-kept : found ≡ true → slice_set asks place ask ≡ with_ask now ask
  set-kept hit = ap (λ l. slice_set l place ask) same ∙ ap (λ k. slice_set now k ask) at ∙ replaces now ask (sym reads ∙ hit)

  pub insert-kept : found ≡ false → insert asks place ask ≡ with_ask now ask
  insert-kept miss = ap (λ l. insert l place ask) same ∙ ap (λ k. insert now k ask) at ∙ stands now ask (sym reads ∙ miss)

  pub set-within : found ≡ true → place < length asks
  set-within hit = read_within asks place ask.read (ap (λ l. is_read_at l place ask.read) (sym all) ∙ sym is ∙ hit)
