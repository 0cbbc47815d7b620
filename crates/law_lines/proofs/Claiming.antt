-- The table of claims holds what the nodes have claimed.
use Rattle.std.proofs.Common.{◌≡◌, ℕ, ◌<◌, ◌≤◌, Bool, true, false, not, cond, ◌&&◌, ◌||◌, ◌==◌, ◌∙◌, nat_le, if◌then◌else◌, List, [], ◌∷◌, refl, ap, ap₂, sym, subst, arith, le-leb, leb-true, leb-false}
use Rattle.std.specs.Prelude.{filter}
use Rattle.std.specs.List.{list_any}
use Rattle.std.proofs.lemmas.Bool.{or_left, or_right}
use Rattle.salus_types.specs.declared.names.NodeName.{NodeName}
use Rattle.salus_message.specs.declared.small.Committed.{Committed}
use Rattle.salus_message.specs.declared.wire.Message.TheVariants as message
use Rattle.salus_model.specs.Hearing.{News, Says}
use Rattle.volume_model.specs.Groups.{same_node}
use Rattle.salus_model.specs.Due.{is_claim}
use Rattle.client_rules.specs.State.{Claimed}
use Rattle.client_rules.specs.Tables.{claim_of, with_claim}
use Rattle.list_lemmas.proofs.Tests.{by_test, and_true, same_test, by_either}
use Rattle.law_lemmas.proofs.Named.{one-node}

-- a node's entries are taken out: another's claim is as before
other-step : (t : Bool) (name other : NodeName) (c : Claimed) (kept claims : List Claimed) → same_node name other ≡ false → same_node c.name name ≡ t
    → claim_of other kept ≡ claim_of other claims → claim_of other (cond (not t) (c ∷ kept) kept) ≡ claim_of other (c ∷ claims)
unfolding claim_of
other-step true name other c kept claims apart is rest =
    let same : c.name ≡ name = one-node c.name name is in rest ∙ sym (ap (λ t. if t then c.front else claim_of other claims) (ap (λ x. same_node x other) same ∙ apart))
other-step false name other c kept claims apart is rest = ap (λ n. if same_node c.name other then c.front else n) rest

claim-other : (name other : NodeName) (claims : List Claimed) → same_node name other ≡ false → claim_of other (filter (λ c. not (same_node c.name name)) claims) ≡ claim_of other claims
claim-other name other [] apart = refl
claim-other name other (c ∷ claims) apart =
    other-step (same_node c.name name) name other c (filter (λ x. not (same_node x.name name)) claims) claims apart refl (claim-other name other claims apart)

-- the greater of two claims
covered : (s front old : ℕ) → front ≤ old → nat_le s old ≡ (nat_le s front || nat_le s old)
covered s front old less =
    same_test (nat_le s old) (nat_le s front || nat_le s old) (or_right (nat_le s front) (nat_le s old))
    (λ h. by_either (nat_le s front) (nat_le s old) (nat_le s old ≡ true) h (λ l. let b = leb-true s front l in le-leb s old (omega (arith, b, less))) (λ r. r))

raised : (s front old : ℕ) → old < front → nat_le s front ≡ (nat_le s front || nat_le s old)
raised s front old less =
    same_test (nat_le s front) (nat_le s front || nat_le s old) (or_left (nat_le s front) (nat_le s old))
    (λ h. by_either (nat_le s front) (nat_le s old) (nat_le s front ≡ true) h (λ l. l) (λ r. let b = leb-true s old r in le-leb s front (omega (arith, b, less))))

-- after a claim
pub claim-with : (name other : NodeName) (front s : ℕ) (claims : List Claimed)
    → nat_le s (claim_of other (with_claim name front claims)) ≡ ((same_node name other && nat_le s front) || nat_le s (claim_of other claims))
unfolding claim_of
claim-with name other front s claims =
    by_test (λ t. nat_le front (claim_of name claims) ≡ t
    → nat_le s (claim_of other (if t then claims else record { name = name; front = front } ∷ filter (λ c. not (same_node c.name name)) claims))
    ≡ ((same_node name other && nat_le s front) || nat_le s (claim_of other claims)))
    (nat_le front (claim_of name claims))
    (λ _ low. by_test (λ u. same_node name other ≡ u → nat_le s (claim_of other claims) ≡ ((u && nat_le s front) || nat_le s (claim_of other claims))) (same_node name other)
    (λ _ same. covered s front (claim_of other claims) (subst (λ x. front ≤ claim_of x claims) (one-node name other same) (leb-true front (claim_of name claims) low)))
    (λ _ _. refl) refl)
    (λ _ high. by_test (λ u. same_node name other ≡ u
    → nat_le s (if u then front else claim_of other (filter (λ c. not (same_node c.name name)) claims)) ≡ ((u && nat_le s front) || nat_le s (claim_of other claims))) (same_node name other)
    (λ _ same. raised s front (claim_of other claims) (subst (λ x. claim_of x claims < front) (one-node name other same) (leb-false front (claim_of name claims) high)))
    (λ _ apart. ap (nat_le s) (claim-other name other claims apart)) refl) refl

-- the table with the claim holds what the news with it say
pub claims-with : (session : ℕ) (name : NodeName) (m : Committed) (claims : List Claimed) (news : List News) → (m.session == session) ≡ true
    → ((other : NodeName) (s : ℕ) → 0 < s → nat_le s (claim_of other claims) ≡ list_any (λ x. is_claim session s other x) news)
    → (other : NodeName) (s : ℕ) → 0 < s
    → nat_le s (claim_of other (with_claim name m.front claims)) ≡ list_any (λ x. is_claim session s other x) (Says name (message.Committed m) ∷ news)
claims-with session name m claims news this before other s up =
    claim-with name other m.front s claims
    ∙ ap₂ (λ x y. x || y) (ap (λ t. t && nat_le s m.front) (sym (ap (λ t. same_node name other && t) this ∙ and_true (same_node name other)))) (before other s up)
