-- A write at one place of a table, seen as what the table says of a node.
use Rattle.std.proofs.Common.{◌≡◌, ◌∙◌, ℕ, zero, suc, ◌+◌, ◌*◌, ◌%◌, ◌<◌, ◌≤◌, ◌==◌, Bool, true, false, ◌&&◌, if◌then◌else◌, nat_lt, List, length, replicate, set, get_or, Option, None, Some, refl, sym, ap, subst, [], ◌∷◌, arith, get_or-set_same, get_or-set_other}
use Rattle.std.proofs.lemmas.Bool.{and_parts, and_from, eqb-true, eq-eqb, eqb-false, ltb-true, ltb-false, lt-ltb, false_from_ne_true}
use Rattle.std.proofs.lemmas.Nat.{same_from_place, mul-add-lt, mod_below}
use Rattle.std.proofs.lemmas.List.{get_or-replicate, get_or_past, length-replicate}
use Rattle.salus_types.specs.Volume.{Shape, regions, nodes}
use Rattle.salus_types.specs.declared.names.NodeName.{NodeName}
use Rattle.volume_model.specs.Groups.{same_node}
use Rattle.replica_rules.specs.Voting.{Vote, no_votes, share_place, is_above_vote, with_vote, greater, with_claim}
use Rattle.unanimous_certificate.specs.Kept.{KeptVotes, KeptClaims, node_place, vote_place, votes_in, claims_in}
use Rattle.list_lemmas.proofs.Tests.{by_bool, same_test}

pub same_function : {A B : Type 0} (f g : A → B) → ((x : A) → f x ≡ g x) → f ≡ g
same_function f g h = λ i x. h x i

-- ---- places

pub node_place-below : (shape : Shape) (name : NodeName) → name.region < regions shape → name.replica < shape.replicas → node_place shape name < nodes shape
node_place-below shape name region replica =
    let below : node_place shape name < shape.replicas * regions shape = mul-add-lt name.region shape.replicas name.replica (regions shape) region replica in
    omega arith

pub vote_place-below : (shape : Shape) (name : NodeName) (x : ℕ) → name.region < regions shape → name.replica < shape.replicas → vote_place shape name x < nodes shape * 16
vote_place-below shape name x region replica =
    let below : node_place shape name < nodes shape = node_place-below shape name region replica in
    let short : x % 16 < 16 = mod_below x 16 (omega arith) in
    omega arith

node_place-same : (shape : Shape) (a b : NodeName) → a.replica < shape.replicas → b.replica < shape.replicas → (node_place shape a == node_place shape b) ≡ same_node a b
node_place-same shape a b a_in b_in =
    same_test (node_place shape a == node_place shape b) (same_node a b)
    (λ e.
    let both : (a.region ≡ b.region) × (a.replica ≡ b.replica) = same_from_place a.region a.replica b.region b.replica shape.replicas a_in b_in (eqb-true (node_place shape a) (node_place shape b) e) in
    and_from (a.region == b.region) (a.replica == b.replica) (eq-eqb a.region b.region both.0) (eq-eqb a.replica b.replica both.1))
    (λ e.
    let both : ((a.region == b.region) ≡ true) × ((a.replica == b.replica) ≡ true) = and_parts (a.region == b.region) (a.replica == b.replica) e in
    let r : a.region ≡ b.region = eqb-true a.region b.region both.0 in
    let p : a.replica ≡ b.replica = eqb-true a.replica b.replica both.1 in
    eq-eqb (node_place shape a) (node_place shape b) (ap (λ v. v * shape.replicas + a.replica) r ∙ ap (λ v. b.region * shape.replicas + v) p))

vote_place-same : (shape : Shape) (a b : NodeName) (x y : ℕ) → a.replica < shape.replicas → b.replica < shape.replicas
    → (vote_place shape a x == vote_place shape b y) ≡ (same_node a b && share_place x y)
vote_place-same shape a b x y a_in b_in =
    let short_x : x % 16 < 16 = mod_below x 16 (omega arith) in
    let short_y : y % 16 < 16 = mod_below y 16 (omega arith) in
    same_test (vote_place shape a x == vote_place shape b y) (same_node a b && share_place x y)
    (λ e.
    let both : (node_place shape a ≡ node_place shape b) × (x % 16 ≡ y % 16) =
    same_from_place (node_place shape a) (x % 16) (node_place shape b) (y % 16) 16 short_x short_y (eqb-true (vote_place shape a x) (vote_place shape b y) e) in
    and_from (same_node a b) (share_place x y) (sym (node_place-same shape a b a_in b_in) ∙ eq-eqb (node_place shape a) (node_place shape b) both.0) (eq-eqb (x % 16) (y % 16) both.1))
    (λ e.
    let both : (same_node a b ≡ true) × (share_place x y ≡ true) = and_parts (same_node a b) (share_place x y) e in
    let n : node_place shape a ≡ node_place shape b = eqb-true (node_place shape a) (node_place shape b) (node_place-same shape a b a_in b_in ∙ both.0) in
    let s : x % 16 ≡ y % 16 = eqb-true (x % 16) (y % 16) both.1 in
    eq-eqb (vote_place shape a x) (vote_place shape b y) (ap (λ v. v * 16 + x % 16) n ∙ ap (λ v. node_place shape b * 16 + v) s))

-- ---- a write

-- what is read after a write that comes where a test says so
read_written : {X : Type 0} (xs : List X) (p q : ℕ) (b : Bool) (v d : X) → p < length xs
    → get_or (if b then set xs p v else xs) q d ≡ (if (q == p) && b then v else get_or xs q d)
read_written xs p q true v d there =
    by_bool (q == p) (get_or (set xs p v) q d ≡ (if (q == p) && true then v else get_or xs q d))
    (λ e. ap (λ k. get_or (set xs p v) k d) (eqb-true q p e) ∙ get_or-set_same xs p v d there ∙ sym (ap (λ t. if t && true then v else get_or xs q d) e))
    (λ e. get_or-set_other xs p q v d (eqb-false q p e) ∙ sym (ap (λ t. if t && true then v else get_or xs q d) e))
read_written xs p q false v d there =
    by_bool (q == p) (get_or xs q d ≡ (if (q == p) && false then v else get_or xs q d))
    (λ e. sym (ap (λ t. if t && false then v else get_or xs q d) e))
    (λ e. sym (ap (λ t. if t && false then v else get_or xs q d) e))

-- a name that is no replica's is another one
other_node : (shape : Shape) (other name : NodeName) → name.replica < shape.replicas → nat_lt other.replica shape.replicas ≡ false → same_node other name ≡ false
other_node shape other name name_in out =
    false_from_ne_true (same_node other name) (λ e.
    let same : other.replica ≡ name.replica = eqb-true other.replica name.replica (and_parts (other.region == name.region) (other.replica == name.replica) e).1 in
    let far : shape.replicas ≤ other.replica = ltb-false other.replica shape.replicas out in
    absurd (omega arith))

-- ---- votes

abbrev pub voted : ℕ → List ℕ → Option Vote
voted seq root = Some (record { seq = seq; root = root })

abbrev pub kept_in : Shape → List (Option Vote) → KeptVotes
kept_in shape places = record { shape = shape; places = places }

one_vote : (shape : Shape) (places : List (Option Vote)) (name : NodeName) (seq : ℕ) (root : List ℕ) → name.replica < shape.replicas → vote_place shape name seq < length places
    → (other : NodeName) (x : ℕ)
    → votes_in (kept_in shape (if is_above_vote seq (get_or places (vote_place shape name seq) None) then set places (vote_place shape name seq) (voted seq root) else places)) other x
    ≡ with_vote (votes_in (kept_in shape places)) name seq root other x
unfolding votes_in
one_vote shape places name seq root name_in there other x =
    let p = vote_place shape name seq in
    let q = vote_place shape other x in
    let above : Bool = is_above_vote seq (get_or places p None) in
    let after : List (Option Vote) = if above then set places p (voted seq root) else places in
    let t : Bool = same_node other name && share_place x seq in
    by_bool (nat_lt other.replica shape.replicas)
    (votes_in (kept_in shape after) other x ≡ with_vote (votes_in (kept_in shape places)) name seq root other x)
    (λ e.
    let inside : other.replica < shape.replicas = ltb-true other.replica shape.replicas e in
    let same : (q == p) ≡ t = vote_place-same shape other name x seq inside name_in in
    let reads : votes_in (kept_in shape places) other x ≡ get_or places q None = ap (λ b. if b then get_or places q None else None) e in
    let written : votes_in (kept_in shape after) other x ≡ (if (q == p) && above then voted seq root else get_or places q None) =
    ap (λ b. if b then get_or after q None else None) e ∙ read_written places p q above (voted seq root) None there in
    let there_same : (if (q == p) && above then voted seq root else get_or places q None) ≡ (if (q == p) && is_above_vote seq (get_or places q None) then voted seq root else get_or places q None) =
    by_bool (q == p)
    ((if (q == p) && above then voted seq root else get_or places q None) ≡ (if (q == p) && is_above_vote seq (get_or places q None) then voted seq root else get_or places q None))
    (λ is. ap (λ k. if (q == p) && is_above_vote seq (get_or places k None) then voted seq root else get_or places q None) (sym (eqb-true q p is)))
    (λ is. ap (λ b. if b && above then voted seq root else get_or places q None) is
    ∙ sym (ap (λ b. if b && is_above_vote seq (get_or places q None) then voted seq root else get_or places q None) is)) in
    written ∙ there_same
    ∙ ap (λ b. if b && is_above_vote seq (get_or places q None) then voted seq root else get_or places q None) same
    ∙ sym (ap (λ o. if t && is_above_vote seq o then voted seq root else o) reads))
    (λ e.
    let none : (places : List (Option Vote)) → votes_in (kept_in shape places) other x ≡ None = λ places. ap (λ b. if b then get_or places q None else None) e in
    let not_it : same_node other name ≡ false = other_node shape other name name_in e in
    none after ∙ sym (ap (λ b. if b && share_place x seq && is_above_vote seq (votes_in (kept_in shape places) other x) then voted seq root else votes_in (kept_in shape places) other x) not_it ∙ none places))

-- what is kept after a vote
pub votes_taken : (shape : Shape) (places : List (Option Vote)) (name : NodeName) (seq : ℕ) (root : List ℕ) → name.replica < shape.replicas → vote_place shape name seq < length places
    → votes_in (kept_in shape (if is_above_vote seq (get_or places (vote_place shape name seq) None) then set places (vote_place shape name seq) (voted seq root) else places))
    ≡ with_vote (votes_in (kept_in shape places)) name seq root
votes_taken shape places name seq root name_in there =
    same_function _ _ (λ other. same_function _ _ (λ x. one_vote shape places name seq root name_in there other x))

none_at : (n i : ℕ) → get_or (replicate {A = Option Vote} n None) i None ≡ None
none_at n i = by_bool (nat_lt i n) (get_or (replicate {A = Option Vote} n None) i None ≡ None)
    (λ e. get_or-replicate n i None None (ltb-true i n e))
    (λ e. get_or_past (replicate {A = Option Vote} n None) i None (let far : n ≤ i = ltb-false i n e in omega (arith, length-replicate {A = Option Vote} n None)))

pub votes_none : (shape : Shape) (n : ℕ) → votes_in (kept_in shape (replicate n None)) ≡ no_votes
unfolding votes_in
votes_none shape n =
    same_function _ _ (λ name. same_function _ _ (λ x.
    by_bool (nat_lt name.replica shape.replicas) (votes_in (kept_in shape (replicate n None)) name x ≡ None)
    (λ e. ap (λ b. if b then get_or (replicate {A = Option Vote} n None) (vote_place shape name x) None else None) e ∙ none_at n (vote_place shape name x))
    (λ e. ap (λ b. if b then get_or (replicate {A = Option Vote} n None) (vote_place shape name x) None else None) e)))

pub votes_at : (kept : KeptVotes) (name : NodeName) (x : ℕ) → name.replica < kept.shape.replicas → votes_in kept name x ≡ get_or kept.places (vote_place kept.shape name x) None
unfolding votes_in
votes_at kept name x inside = ap (λ b. if b then get_or kept.places (vote_place kept.shape name x) None else None) (lt-ltb name.replica kept.shape.replicas inside)

-- ---- claims

abbrev pub claimed_in : Shape → ℕ → List ℕ → KeptClaims
claimed_in shape base fronts = record { shape = shape; base = base; fronts = fronts }

pub claims_at : (kept : KeptClaims) (name : NodeName) → name.replica < kept.shape.replicas → claims_in kept name ≡ get_or kept.fronts (node_place kept.shape name) kept.base
unfolding claims_in
claims_at kept name inside = ap (λ b. if b then get_or kept.fronts (node_place kept.shape name) kept.base else kept.base) (lt-ltb name.replica kept.shape.replicas inside)

one_claim : (shape : Shape) (base : ℕ) (fronts : List ℕ) (name : NodeName) (front : ℕ) → name.replica < shape.replicas → node_place shape name < length fronts
    → (other : NodeName)
    → claims_in (claimed_in shape base (set fronts (node_place shape name) (greater (get_or fronts (node_place shape name) base) front))) other
    ≡ with_claim (claims_in (claimed_in shape base fronts)) name front other
unfolding claims_in
one_claim shape base fronts name front name_in there other =
    let p = node_place shape name in
    let q = node_place shape other in
    let v : ℕ = greater (get_or fronts p base) front in
    by_bool (nat_lt other.replica shape.replicas)
    (claims_in (claimed_in shape base (set fronts p v)) other ≡ with_claim (claims_in (claimed_in shape base fronts)) name front other)
    (λ e.
    let inside : other.replica < shape.replicas = ltb-true other.replica shape.replicas e in
    let same : (q == p) ≡ same_node other name = node_place-same shape other name inside name_in in
    let reads : claims_in (claimed_in shape base fronts) other ≡ get_or fronts q base = ap (λ b. if b then get_or fronts q base else base) e in
    let now : claims_in (claimed_in shape base (set fronts p v)) other ≡ get_or (set fronts p v) q base = ap (λ b. if b then get_or (set fronts p v) q base else base) e in
    let written : get_or (set fronts p v) q base ≡ (if q == p then greater (get_or fronts q base) front else get_or fronts q base) =
    by_bool (q == p) (get_or (set fronts p v) q base ≡ (if q == p then greater (get_or fronts q base) front else get_or fronts q base))
    (λ is. ap (λ k. get_or (set fronts p v) k base) (eqb-true q p is) ∙ get_or-set_same fronts p v base there
    ∙ ap (λ k. greater (get_or fronts k base) front) (sym (eqb-true q p is))
    ∙ sym (ap (λ b. if b then greater (get_or fronts q base) front else get_or fronts q base) is))
    (λ is. get_or-set_other fronts p q v base (eqb-false q p is) ∙ sym (ap (λ b. if b then greater (get_or fronts q base) front else get_or fronts q base) is)) in
    now ∙ written ∙ ap (λ b. if b then greater (get_or fronts q base) front else get_or fronts q base) same
    ∙ sym (ap (λ o. if same_node other name then greater o front else o) reads))
    (λ e.
    let start : (fronts : List ℕ) → claims_in (claimed_in shape base fronts) other ≡ base = λ fronts. ap (λ b. if b then get_or fronts q base else base) e in
    let not_it : same_node other name ≡ false = other_node shape other name name_in e in
    start (set fronts p v)
    ∙ sym (ap (λ b. if b then greater (claims_in (claimed_in shape base fronts) other) front else claims_in (claimed_in shape base fronts) other) not_it ∙ start fronts))

-- what is claimed after a claim
pub claims_taken : (shape : Shape) (base : ℕ) (fronts : List ℕ) (name : NodeName) (front : ℕ) → name.replica < shape.replicas → node_place shape name < length fronts
    → claims_in (claimed_in shape base (set fronts (node_place shape name) (greater (get_or fronts (node_place shape name) base) front)))
    ≡ with_claim (claims_in (claimed_in shape base fronts)) name front
claims_taken shape base fronts name front name_in there = same_function _ _ (λ other. one_claim shape base fronts name front name_in there other)

base_at : (n i base : ℕ) → get_or (replicate n base) i base ≡ base
base_at n i base = by_bool (nat_lt i n) (get_or (replicate n base) i base ≡ base)
    (λ e. get_or-replicate n i base base (ltb-true i n e))
    (λ e. get_or_past (replicate n base) i base (let far : n ≤ i = ltb-false i n e in omega (arith, length-replicate n base)))

pub claims_start : (shape : Shape) (base n : ℕ) → claims_in (claimed_in shape base (replicate n base)) ≡ (λ (name : NodeName). base)
unfolding claims_in
claims_start shape base n =
    same_function _ _ (λ name.
    by_bool (nat_lt name.replica shape.replicas) (claims_in (claimed_in shape base (replicate n base)) name ≡ base)
    (λ e. ap (λ b. if b then get_or (replicate n base) (node_place shape name) base else base) e ∙ base_at n (node_place shape name) base)
    (λ e. ap (λ b. if b then get_or (replicate n base) (node_place shape name) base else base) e))

-- ---- a step of the program

-- A vote was taken where its place is found, and its number is above what stands there.
pub vote_step : (kept now : KeptVotes) → kept ≡ now → (name : NodeName) (seq : ℕ) (root : List ℕ) → length kept.places ≡ nodes kept.shape * 16
    → name.region < regions now.shape → name.replica < now.shape.replicas → (p : ℕ) → p ≡ vote_place kept.shape name seq → (above : Bool) → above ≡ is_above_vote seq (get_or kept.places p None)
    → votes_in (kept_in kept.shape (if above then set kept.places p (voted seq root) else kept.places)) ≡ with_vote (votes_in now) name seq root
vote_step kept now same name seq root long region replica p at above is =
    let region_in : name.region < regions kept.shape = subst (λ (k : KeptVotes). name.region < regions k.shape) (sym same) region in
    let replica_in : name.replica < kept.shape.replicas = subst (λ (k : KeptVotes). name.replica < k.shape.replicas) (sym same) replica in
    let below : vote_place kept.shape name seq < nodes kept.shape * 16 = vote_place-below kept.shape name seq region_in replica_in in
    let there : vote_place kept.shape name seq < length kept.places = subst (λ n. vote_place kept.shape name seq < n) (sym long) below in
    ap (λ q. votes_in (kept_in kept.shape (if above then set kept.places q (voted seq root) else kept.places))) at
    ∙ ap (λ b. votes_in (kept_in kept.shape (if b then set kept.places (vote_place kept.shape name seq) (voted seq root) else kept.places))) (is ∙ ap (λ q. is_above_vote seq (get_or kept.places q None)) at)
    ∙ votes_taken kept.shape kept.places name seq root replica_in there
    ∙ ap (λ k. with_vote (votes_in k) name seq root) same

-- the place of a node's vote
pub vote_there : (kept now : KeptVotes) → kept ≡ now → (name : NodeName) (seq : ℕ) → length kept.places ≡ nodes kept.shape * 16
    → name.region < regions now.shape → name.replica < now.shape.replicas → (p : ℕ) → p ≡ vote_place kept.shape name seq → p < length kept.places
vote_there kept now same name seq long region replica p at =
    let region_in : name.region < regions kept.shape = subst (λ (k : KeptVotes). name.region < regions k.shape) (sym same) region in
    let replica_in : name.replica < kept.shape.replicas = subst (λ (k : KeptVotes). name.replica < k.shape.replicas) (sym same) replica in
    let below : vote_place kept.shape name seq < nodes kept.shape * 16 = vote_place-below kept.shape name seq region_in replica_in in
    omega arith

-- A claim was taken where its place is found.
pub claim_step : (kept now : KeptClaims) → kept ≡ now → (name : NodeName) (front : ℕ) → length kept.fronts ≡ nodes kept.shape
    → name.region < regions now.shape → name.replica < now.shape.replicas → (p x v : ℕ) → p ≡ node_place kept.shape name → x ≡ get_or kept.fronts p x → v ≡ greater x front
    → claims_in (claimed_in kept.shape kept.base (set kept.fronts p v)) ≡ with_claim (claims_in now) name front
claim_step kept now same name front long region replica p x v at read is =
    let region_in : name.region < regions kept.shape = subst (λ (k : KeptClaims). name.region < regions k.shape) (sym same) region in
    let replica_in : name.replica < kept.shape.replicas = subst (λ (k : KeptClaims). name.replica < k.shape.replicas) (sym same) replica in
    let below : node_place kept.shape name < nodes kept.shape = node_place-below kept.shape name region_in replica_in in
    let there : node_place kept.shape name < length kept.fronts = subst (λ n. node_place kept.shape name < n) (sym long) below in
    let inside : p < length kept.fronts = subst (λ n. n < length kept.fronts) (sym at) there in
    let old : x ≡ get_or kept.fronts (node_place kept.shape name) kept.base = read ∙ get_or_default kept.fronts p x kept.base inside ∙ ap (λ q. get_or kept.fronts q kept.base) at in
    ap (λ q. claims_in (claimed_in kept.shape kept.base (set kept.fronts q v))) at
    ∙ ap (λ y. claims_in (claimed_in kept.shape kept.base (set kept.fronts (node_place kept.shape name) y))) (is ∙ ap (λ y. greater y front) old)
    ∙ claims_taken kept.shape kept.base kept.fronts name front replica_in there
    ∙ ap (λ k. with_claim (claims_in k) name front) same
  where
    get_or_default : (xs : List ℕ) (i d e : ℕ) → i < length xs → get_or xs i d ≡ get_or xs i e
    get_or_default [] i d e there = absurd (omega arith)
    get_or_default (y ∷ xs) zero d e there = refl
    get_or_default (y ∷ xs) (suc i) d e there = get_or_default xs i d e (omega arith)
