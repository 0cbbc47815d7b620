-- What the nodes have claimed, in the window's table and in the rules'.
use Rattle.std.proofs.Common.{◌≡◌, ℕ, ◌<◌, ◌≤◌, ◌∙◌, Bool, true, false, not, cond, ◌&&◌, ◌==◌, nat_le, if◌then◌else◌, List, [], ◌∷◌, refl, ap, ap₂, sym, subst, arith, eqb-true, eq-eqb, le-leb, leb-true, leb-false}
use Rattle.std.specs.Prelude.{filter}
use Rattle.std.specs.List.{list_all}
use Rattle.std.proofs.lemmas.Bool.{lt-leb}
use Rattle.salus_types.specs.Volume.{Shape}
use Rattle.salus_types.specs.declared.names.NodeName.{NodeName}
use Rattle.volume_model.specs.Groups.{same_node, group_of}
use Rattle.replica_rules.specs.Voting.{Claims, greater, all_claim}
use Rattle.replica_rules.specs.Voting.{with_claim as kept_with_claim}
use Rattle.client_rules.specs.State.{Claimed}
use Rattle.client_rules.specs.Tables.{claim_of, with_claim, all_claimed}

by_test : (P : Bool → Type 0) (test : Bool) → (test ≡ true → P true) → (test ≡ false → P false) → P test
by_test P true hit miss = hit refl
by_test P false hit miss = miss refl

both_true : (a b : Bool) → (a && b) ≡ true → (a ≡ true) × (b ≡ true)
both_true true b h = (refl, h)
both_true false b h = absurd (cc)

one_node : (a b : NodeName) → same_node a b ≡ true → a ≡ b
one_node a b same =
    let s = both_true (a.region == b.region) (a.replica == b.replica) same in
    let regions : a.region ≡ b.region = eqb-true a.region b.region s.0 in
    let replicas : a.replica ≡ b.replica = eqb-true a.replica b.replica s.1 in
    λ i. record { region = regions i; replica = replicas i }

node_itself : (a : NodeName) → same_node a a ≡ true
node_itself a = ap₂ (λ x y. x && y) (eq-eqb a.region a.region refl) (eq-eqb a.replica a.replica refl)

-- a node's entries are taken out: another's claim is as before
other_step : (t : Bool) (name other : NodeName) (c : Claimed) (kept claims : List Claimed) → same_node name other ≡ false → same_node c.name name ≡ t
    → claim_of other kept ≡ claim_of other claims → claim_of other (cond (not t) (c ∷ kept) kept) ≡ claim_of other (c ∷ claims)
unfolding claim_of
other_step true name other c kept claims apart is rest =
    let same : c.name ≡ name = one_node c.name name is in rest ∙ sym (ap (λ t. if t then c.front else claim_of other claims) (ap (λ x. same_node x other) same ∙ apart))
other_step false name other c kept claims apart is rest = ap (λ n. if same_node c.name other then c.front else n) rest

claim_other : (name other : NodeName) (claims : List Claimed) → same_node name other ≡ false → claim_of other (filter (λ c. not (same_node c.name name)) claims) ≡ claim_of other claims
claim_other name other [] apart = refl
claim_other name other (c ∷ claims) apart =
    other_step (same_node c.name name) name other c (filter (λ x. not (same_node x.name name)) claims) claims apart refl (claim_other name other claims apart)

greater_old : (claim front : ℕ) → front ≤ claim → claim ≡ greater claim front
greater_old claim front less = by_test (λ t. claim ≡ (if t then front else claim)) (nat_le claim front) (λ up. let more : claim ≤ front = leb-true claim front up in omega arith) (λ _. refl)

greater_new : (claim front : ℕ) → claim < front → front ≡ greater claim front
greater_new claim front less = sym (ap (λ t. if t then front else claim) (le-leb claim front (omega arith)))

-- the claim of a node is the greater of two, and that of any other stays
module _ (node : NodeName) (front : ℕ) (claims : List Claimed) where
  abbrev after : List Claimed
  after = with_claim node front claims

  at_node : claim_of node after ≡ greater (claim_of node claims) front
  unfolding claim_of
  at_node =
      by_test
      (λ t. claim_of node (if t then claims else record { name = node; front = front } ∷ filter (λ c. not (same_node c.name node)) claims) ≡ greater (claim_of node claims) front)
      (nat_le front (claim_of node claims))
      (λ old. greater_old (claim_of node claims) front (leb-true front (claim_of node claims) old))
      (λ new.
      ap (λ t. if t then front else claim_of node (filter (λ c. not (same_node c.name node)) claims)) (node_itself node)
      ∙ greater_new (claim_of node claims) front (leb-false front (claim_of node claims) new))

  at_other : (name : NodeName) → same_node node name ≡ false → claim_of name after ≡ claim_of name claims
  unfolding claim_of
  at_other name apart =
      by_test
      (λ t. claim_of name (if t then claims else record { name = node; front = front } ∷ filter (λ c. not (same_node c.name node)) claims) ≡ claim_of name claims)
      (nat_le front (claim_of node claims)) (λ _. refl)
      (λ _. ap (λ t. if t then front else claim_of name (filter (λ c. not (same_node c.name node)) claims)) apart ∙ claim_other node name claims apart)

greater_both : (base claim front : ℕ) → greater (greater base claim) front ≡ greater base (greater claim front)
greater_both base claim front = grind arith

-- the tables agree after a claim, where they did before it
pub claims_agree : (node : NodeName) (front base : ℕ) (kept : Claims) (claims : List Claimed) → ((name : NodeName) → kept name ≡ greater base (claim_of name claims))
    → (name : NodeName) → kept_with_claim kept node front name ≡ greater base (claim_of name (with_claim node front claims))
claims_agree node front base kept claims agree name =
    by_test (λ t. (if t then greater (kept name) front else kept name) ≡ greater base (claim_of name (with_claim node front claims))) (same_node name node)
    (λ here.
    let same : name ≡ node = one_node name node here in
    ap (λ n. greater n front) (agree name) ∙ greater_both base (claim_of name claims) front
    ∙ ap (greater base) (sym (subst (λ n. claim_of n (with_claim node front claims) ≡ greater (claim_of n claims) front) (sym same) (at_node node front claims))))
    (λ there.
    agree name
    ∙ ap (greater base) (sym (at_other node front claims name
    (by_test (λ t. same_node node name ≡ t → t ≡ false) (same_node node name)
    (λ _ back. let same : node ≡ name = one_node node name back in absurd (let hit : same_node name node ≡ true = subst (λ n. same_node n node ≡ true) same (node_itself node) in cc))
    (λ _ _. refl) refl))))

-- a number past the base is claimed in both or in neither
past_base : (base s claim : ℕ) → base < s → nat_le s (greater base claim) ≡ nat_le s claim
past_base base s claim less =
    by_test (λ t. nat_le s (if t then claim else base) ≡ nat_le s claim) (nat_le base claim) (λ _. refl)
    (λ above. let low : claim < base = leb-false base claim above in lt-leb s base less ∙ sym (lt-leb s claim (omega arith)))

pub all_agree : (shape : Shape) (base leader s : ℕ) (kept : Claims) (claims : List Claimed) → base < s → ((name : NodeName) → kept name ≡ greater base (claim_of name claims))
    → all_claim shape kept leader s ≡ all_claimed shape claims leader s
all_agree shape base leader s kept claims less agree =
    λ i. list_all (λ name. (ap (nat_le s) (agree name) ∙ past_base base s (claim_of name claims) less) i) (group_of shape leader)

-- where nobody has claimed anything, every claim is the base
pub above_none : (base : ℕ) (name : NodeName) → base ≡ greater base (claim_of name [])
unfolding claim_of
above_none base name = greater_old base 0 (omega arith)
