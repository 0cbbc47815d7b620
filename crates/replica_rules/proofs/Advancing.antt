-- What `advance` gives, as long as it gives one, are the certified headers in order.
use Rattle.std.proofs.Common.{◌≡◌, ◌∙◌, ℕ, ◌<◌, ◌≤◌, ◌&&◌, nat_lt, Bool, true, false, if◌then◌else◌, List, [], ◌∷◌, Option, None, Some, refl, sym, ap, arith}
use Rattle.std.specs.Prelude.{filter, find}
use Rattle.std.proofs.lemmas.Bool.{ltb-true, ltb-false}
use Rattle.salus_types.specs.Volume.{Shape}
use Rattle.salus_types.specs.declared.records.Header.{Header}
use Rattle.replica_rules.specs.Voting.{is_unanimous}
use Rattle.replica_rules.specs.Leading.{Leader, is_after_claimed, is_certified, advance, all_certified}
use Rattle.list_lemmas.proofs.Tests.{by_bool, and_left}

abbrev pub first_of : {A : Type 0} → List A → Option A
first_of [] = None
first_of (x ∷ xs) = Some x

pub find-first : {A : Type 0} (test : A → Bool) (xs : List A) → find test xs ≡ first_of (filter test xs)
find-first test [] = refl
find-first test (x ∷ xs) = elim (test x) as (λ b. (if b then Some x else find test xs) ≡ first_of (if b then x ∷ filter test xs else filter test xs)) [
  | true ↦ refl
  | false ↦ find-first test xs
]

-- the first of them is what it gives
pub advance-first : (shape : Shape) (leader : Leader) → advance shape leader ≡ first_of (all_certified shape leader)
advance-first shape leader = find-first (λ h. is_certified shape leader h) leader.noted

-- the numbers rise
unfoldable pub Ascends : ℕ → List Header → Type 0
Ascends low [] = Unit {0}
Ascends low (h ∷ headers) = (low < h.seq) × Ascends h.seq headers

-- past a front, and as a test says that doesn't look at the front
abbrev pub past : (Header → Bool) → (Header → Bool) → ℕ → List Header → List Header
past a b front headers = filter (λ h. nat_lt front h.seq && a h && b h) headers

module _ (a b : Header → Bool) where
  -- behind a header the lower front makes no difference
  same_behind : (front next low : ℕ) (headers : List Header) → front ≤ low → next ≤ low → Ascends low headers → past a b next headers ≡ past a b front headers
  unfolding Ascends
  same_behind front next low [] less more rises = refl
  same_behind front next low (h ∷ headers) less more rises =
      let over : low < h.seq = rises.0 in
      let front_less : front ≤ h.seq = omega arith in
      let next_less : next ≤ h.seq = omega arith in
      let rest : past a b next headers ≡ past a b front headers = same_behind front next h.seq headers front_less next_less rises.1 in
      let on : (x : ℕ) → x ≤ low → nat_lt x h.seq ≡ true = λ (x : ℕ) (at : x ≤ low). by_bool (nat_lt x h.seq) (nat_lt x h.seq ≡ true) (λ e. e) (λ e. let under : h.seq ≤ x = ltb-false x h.seq e in absurd (omega arith)) in
      ap (λ v. if v && a h && b h then h ∷ past a b next headers else past a b next headers) (on next more)
      ∙ ap (λ l. if a h && b h then h ∷ l else l) rest
      ∙ sym (ap (λ v. if v && a h && b h then h ∷ past a b front headers else past a b front headers) (on front less))

  -- at the front of its first one, the others are left
  rest_past : (front low : ℕ) (headers : List Header) (h : Header) (rest : List Header) → Ascends low headers → past a b front headers ≡ h ∷ rest → (past a b h.seq headers ≡ rest) × (low < h.seq)
  unfolding Ascends
  rest_past front low [] h rest rises is = cc
  rest_past front low (x ∷ headers) h rest rises is =
      let t : Bool = nat_lt front x.seq && a x && b x in
      by_bool (nat_lt front x.seq && a x && b x) ((past a b h.seq (x ∷ headers) ≡ rest) × (low < h.seq))
      (λ pass.
      let whole : x ∷ past a b front headers ≡ h ∷ rest = sym (ap (λ v. if v then x ∷ past a b front headers else past a b front headers) pass) ∙ is in
      let same : x ≡ h = cc in
      let others : past a b front headers ≡ rest = cc in
      let seqs : x.seq ≡ h.seq = ap (λ (y : Header). y.seq) same in
      let up : front < x.seq = ltb-true front x.seq (and_left (nat_lt front x.seq) (a x) (and_left (nat_lt front x.seq && a x) (b x) pass)) in
      let over : low < x.seq = rises.0 in
      let off : nat_lt h.seq x.seq ≡ false = by_bool (nat_lt h.seq x.seq) (nat_lt h.seq x.seq ≡ false) (λ e. let less : h.seq < x.seq = ltb-true h.seq x.seq e in absurd (omega arith)) (λ e. e) in
      let front_at : front ≤ x.seq = omega arith in
      let next_at : h.seq ≤ x.seq = omega arith in
      let far : low < h.seq = omega arith in
      (ap (λ v. if v && a x && b x then x ∷ past a b h.seq headers else past a b h.seq headers) off ∙ same_behind front h.seq x.seq headers front_at next_at rises.1 ∙ others, far))
      (λ fail.
      let whole : past a b front headers ≡ h ∷ rest = sym (ap (λ v. if v then x ∷ past a b front headers else past a b front headers) fail) ∙ is in
      let later : (past a b h.seq headers ≡ rest) × (x.seq < h.seq) = rest_past front x.seq headers h rest rises.1 whole in
      let more : x.seq < h.seq = later.1 in
      let over : low < x.seq = rises.0 in
      let off : nat_lt h.seq x.seq ≡ false = by_bool (nat_lt h.seq x.seq) (nat_lt h.seq x.seq ≡ false) (λ e. let less : h.seq < x.seq = ltb-true h.seq x.seq e in absurd (omega arith)) (λ e. e) in
      let far : low < h.seq = omega arith in
      (ap (λ v. if v && a x && b x then x ∷ past a b h.seq headers else past a b h.seq headers) off ∙ later.0, far))

-- the loop's step: once the front is the first one's number, the others are what is left
pub advance-rest : (shape : Shape) (leader : Leader) (low : ℕ) (h : Header) (rest : List Header) → Ascends low leader.noted → all_certified shape leader ≡ h ∷ rest
    → all_certified shape (record leader { front = h.seq }) ≡ rest
unfolding is_certified
advance-rest shape leader low h rest rises is =
    (rest_past (λ x. is_unanimous shape leader.votes x.seq x.touched) (λ x. is_after_claimed shape leader x) leader.front low leader.noted h rest rises is).0
