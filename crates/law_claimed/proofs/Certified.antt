-- Where the leaders know all, every batch is claimed by each replica of its leader: one after the other.
use Rattle.std.proofs.Common.{◌≡◌, ◌∙◌, ◌⊎◌, ⊎_elim, ℕ, suc, ◌+◌, ◌-◌, ◌%◌, ◌<◌, ◌≤◌, ◌==◌, ◌&&◌, ◌||◌, nat_lt, nat_le, Bool, true, false, if◌then◌else◌, List, [], ◌∷◌, length, map, Option, None, Some, refl, sym, ap, subst, arith, eqb-true}
use Rattle.std.specs.List.{list_all, AllByRecursion, range_with_len}
use Rattle.std.proofs.lemmas.Bool.{true≢false, eq-eqb, lt-ltb, le-leb, leb-true, leb-false, ltb-true}
use Rattle.std.proofs.lemmas.Slice.Eq.{bytes_eq-Decides}
use Rattle.salus_types.specs.Volume.{Shape}
use Rattle.salus_types.specs.declared.names.NodeName.{NodeName}
use Rattle.salus_types.specs.declared.records.Header.{Header}
use Rattle.merkle_region.specs.Tree.{IsAmong}
use Rattle.volume_model.specs.Contents.{region_root}
use Rattle.volume_model.specs.Groups.{group_of}
use Rattle.volume_model.specs.Parts.{Session, contents_after, batch_at, leader_of, leader_before, touched_by, part_header}
use Rattle.replica_rules.specs.Voting.{Vote, share_place, root_in, is_root, all_one, is_unanimous_in, is_unanimous, all_claim}
use Rattle.replica_rules.specs.Leading.{Leader, is_certified}
use Rattle.list_lemmas.proofs.Each.{all_map}
use Rattle.list_lemmas.proofs.Members.{all_among, among_all, among_map}
use Rattle.list_lemmas.proofs.Tests.{by_bool, or_true}
use Rattle.law_answers.proofs.Asks.{both_true}
use Rattle.law_claimed.specs.Leading.{HasNoted, IsVoteFrom}
use Rattle.law_claimed.specs.Knowing.{IsOwnBatch, Leads, IsRightVote, IsHeaderOf, KnowsAll, IsClaimedBy}
use Rattle.law_claimed.proofs.Claiming.{all_claimed}

-- ---- small facts

-- within 16, a place has one number
one_place : (s x : ℕ) → share_place x s ≡ true → s ≤ x → x < s + 16 → x ≡ s
one_place s x same low high = let place : x % 16 ≡ s % 16 = eqb-true (x % 16) (s % 16) same in omega (arith, place, low, high)

pub each_passes : {A : Type 0} (test : A → Bool) (xs : List A) → AllByRecursion (λ x. test x ≡ true) xs → list_all test xs ≡ true
each_passes test [] all = refl
each_passes test (x ∷ xs) all = both_true (test x) (list_all test xs) all.0 (each_passes test xs all.1)

same_roots : (root : List ℕ) (roots : List (Option (List ℕ))) → AllByRecursion (λ o. o ≡ Some root) roots → list_all (λ other. is_root root other) roots ≡ true
same_roots root [] all = refl
same_roots root (o ∷ roots) all =
    both_true (is_root root o) (list_all (λ other. is_root root other) roots) (ap (λ (o : Option (List ℕ)). is_root root o) all.0 ∙ (bytes_eq-Decides root root).1 refl) (same_roots root roots all.1)

all_one_root : (root : List ℕ) (roots : List (Option (List ℕ))) → AllByRecursion (λ o. o ≡ Some root) roots → all_one roots ≡ true
all_one_root root [] all = refl
all_one_root root (o ∷ roots) all = ap (λ (o : Option (List ℕ)). all_one (o ∷ roots)) all.0 ∙ same_roots root roots all.1

of_group : (shape : Shape) (g : ℕ) (name : NodeName) → IsAmong name (group_of shape g) → name.region ≡ g
of_group shape g name among =
    let r = among_map (λ (r : ℕ). record { region = g; replica = r }) name (range_with_len 0 shape.replicas) among in ap (λ (n : NodeName). n.region) r.2

-- ---- one leader

module _ (shape : Shape) (known : Session) (front : NodeName → ℕ) (name : NodeName) (k : KnowsAll shape known front name) (t s : ℕ) (after : s ≡ suc t) (own : IsOwnBatch known s)
    (leads : Leads shape known s name) (near : length known.list < s + 16) (before : (t ≡ known.base) ⊎ IsClaimedBy shape known front t) where
  abbrev l : Leader
  l = k.leader

  -- its header is noted itself
  noted : HasNoted s l.noted
  noted = k.noted s own leads

  header : IsHeaderOf shape known noted.h
  header = k.headers noted.h noted.among

  number : noted.h.seq ≡ s
  number = let top : noted.h.seq ≤ length known.list = header.own.within in one_place s noted.h.seq noted.place noted.high (omega (arith, top, near))

  is_header : noted.h ≡ part_header shape known s header.g
  is_header = header.is ∙ ap (λ (x : ℕ). part_header shape known x header.g) number

  -- a vote in its place is one for it
  rooted : (other : NodeName) (o : Option Vote) → IsRightVote shape known other s o → IsVoteFrom s o → root_in s o ≡ Some (region_root shape (contents_after known s) other.region)
  rooted other None right has = absurd has
  rooted other (Some vote) right has =
      let top : vote.seq ≤ length known.list = right.own.within in
      let same : vote.seq ≡ s = one_place s vote.seq right.place has (omega (arith, top, near)) in
      ap (λ (b : Bool). if b then Some vote.root else None) (eq-eqb vote.seq s same) ∙ ap (λ (r : List ℕ). Some r) (right.root ∙ ap (λ (x : ℕ). region_root shape (contents_after known x) other.region) same)

  unanimous_in : (g : ℕ) → IsAmong g (touched_by shape (batch_at known s)) → is_unanimous_in shape l.votes s g ≡ true
  unanimous_in g touched =
      let root : List ℕ = region_root shape (contents_after known s) g in
      all_one_root root (map (λ other. root_in s (l.votes other s)) (group_of shape g))
      (all_map (λ (o : Option (List ℕ)). o ≡ Some root) (λ (other : NodeName). root_in s (l.votes other s)) (group_of shape g)
      (all_among (λ (other : NodeName). root_in s (l.votes other s) ≡ Some root) (group_of shape g)
      (λ other among. rooted other (l.votes other s) (k.votes other s) (k.voted s own leads g touched other among)
      ∙ ap (λ (g : ℕ). Some (region_root shape (contents_after known s) g)) (of_group shape g other among))))

  unanimous : is_unanimous shape l.votes s (touched_by shape (batch_at known s)) ≡ true
  unanimous =
      each_passes (λ g. is_unanimous_in shape l.votes s g) (touched_by shape (batch_at known s))
      (all_among (λ g. is_unanimous_in shape l.votes s g ≡ true) (touched_by shape (batch_at known s)) (λ g touched. unanimous_in g touched))

  -- the batch before is the base, or it is claimed
  after_claimed : (nat_lt known.base t ≡ true → IsClaimedBy shape known front t) → (all_claim shape l.claims (leader_before shape known s) t || (t == l.base)) ≡ true
  after_claimed claimed =
      by_bool (t == known.base) ((all_claim shape l.claims (leader_before shape known s) t || (t == l.base)) ≡ true)
      (λ first. ap (λ (b : ℕ). all_claim shape l.claims (leader_before shape known s) t || (t == b)) k.base ∙ (ap (λ (w : Bool). all_claim shape l.claims (leader_before shape known s) t || w) first ∙ or_true _))
      (λ later.
      let low : known.base < s = own.above in
      let high : s ≤ length known.list = own.within in
      let apart : known.base < t =
      by_bool (nat_le t known.base) (known.base < t) (λ le. let under : t ≤ known.base = leb-true t known.base le in absurd (true≢false (sym (eq-eqb t known.base (omega (arith, under, low, after))) ∙ later)))
      (λ gt. leb-false t known.base gt) in
      let own_t : IsOwnBatch known t = record { above = apart; within = omega (arith, high, after) } in
      let back : s - 1 ≡ t = omega (arith, after) in
      let leader : leader_before shape known s ≡ leader_of shape (batch_at known t) =
      ap (λ (x : ℕ). if x == known.base then 0 else leader_of shape (batch_at known x)) back ∙ ap (λ (w : Bool). if w then 0 else leader_of shape (batch_at known t)) later in
      let all : all_claim shape l.claims (leader_of shape (batch_at known t)) t ≡ true =
      each_passes (λ other. nat_le t (l.claims other)) (group_of shape (leader_of shape (batch_at known t)))
      (all_among (λ (other : NodeName). nat_le t (l.claims other) ≡ true) (group_of shape (leader_of shape (batch_at known t)))
      (λ other among.
      let up : t ≤ front other = claimed (lt-ltb known.base t apart) other among in
      le-leb t (l.claims other)
      (⊎_elim (λ (heard : front other ≤ l.claims other). omega (arith, up, heard)) (λ (none : front other ≤ known.base). absurd (omega (arith, up, none, apart))) (k.heard t own_t other among)))) in
      ap (λ (g : ℕ). all_claim shape l.claims g t || (t == l.base)) leader ∙ ap (λ (w : Bool). w || (t == l.base)) all)

  claimed_before : nat_lt known.base t ≡ true → IsClaimedBy shape known front t
  claimed_before up =
      ⊎_elim (λ (first : t ≡ known.base). absurd (over first)) (λ (claimed : IsClaimedBy shape known front t). claimed) before
    where
      none_under : (n : ℕ) → nat_lt n n ≡ false
      none_under n = by_bool (nat_lt n n) (nat_lt n n ≡ false) (λ e. let less : n < n = ltb-true n n e in absurd (omega (arith, less))) (λ e. e)

      over : t ≡ known.base → ⊥
      over first = true≢false (sym up ∙ (ap (λ (x : ℕ). nat_lt known.base x) first ∙ none_under known.base))

  certified : nat_lt l.front s ≡ true → is_certified shape l (part_header shape known s header.g) ≡ true
  unfolding is_certified
  certified past =
      let back : s - 1 ≡ t = omega (arith, after) in
      both_true (nat_lt l.front s && is_unanimous shape l.votes s (touched_by shape (batch_at known s))) (all_claim shape l.claims (leader_before shape known s) (s - 1) || (s - 1 == l.base))
      (both_true (nat_lt l.front s) (is_unanimous shape l.votes s (touched_by shape (batch_at known s))) past unanimous)
      (ap (λ (x : ℕ). all_claim shape l.claims (leader_before shape known s) x || (x == l.base)) back ∙ after_claimed claimed_before)

  pub one_front : s ≤ front name
  one_front =
      by_bool (nat_le s l.front) (s ≤ front name)
      (λ reached. subst (λ (n : ℕ). s ≤ n) k.front_is (leb-true s l.front reached))
      (λ below.
      let past : nat_lt l.front s ≡ true = lt-ltb l.front s (leb-false s l.front below) in
      absurd (true≢false (sym (subst (λ (h : Header). is_certified shape l h ≡ true) (sym is_header) (certified past)) ∙ among_all (λ h. is_certified shape l h ≡ false) l.noted noted.h noted.among k.settled.none)))

-- ---- all of them

-- The law: each own batch is claimed by every replica of its leader.
pub all_claim_all : (shape : Shape) (known : Session) (front : NodeName → ℕ) → ((s : ℕ) → IsOwnBatch known s → (name : NodeName) → Leads shape known s name → KnowsAll shape known front name)
    → (s : ℕ) → IsOwnBatch known s → IsClaimedBy shape known front s
all_claim_all shape known front knows s own name leads =
    all_claimed front (Leads shape known) known.base (length known.list)
    (λ t x after low within before other its.
    let mine : IsOwnBatch known x = record { above = omega (arith, low, after); within = within } in
    let k : KnowsAll shape known front other = knows x mine other its in
    by_bool (nat_le (x + 16) (length known.list)) (x ≤ front other)
    (λ far. k.window x mine its (leb-true (x + 16) (length known.list) far))
    (λ near. one_front shape known front other k t x after mine its (leb-false (x + 16) (length known.list) near) before))
    s own.above own.within name leads
