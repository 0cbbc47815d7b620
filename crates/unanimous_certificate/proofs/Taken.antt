-- What is kept was taken: votes and claims come from nowhere else, and a claim never falls.
use Rattle.std.proofs.Common.{◌≡◌, ◌∙◌, ℕ, ◌≤◌, true, ◌&&◌, if◌then◌else◌, nat_le, List, [], ◌∷◌, None, Some, refl, sym, ap, inl, inr, ◌⊎◌, ⊎_elim, arith}
use Rattle.std.proofs.lemmas.Bool.{leb-true}
use Rattle.std.specs.Prelude.{fold}
use Rattle.salus_types.specs.declared.names.NodeName.{NodeName}
use Rattle.merkle_region.specs.Tree.{IsAmong}
use Rattle.volume_model.specs.Groups.{same_node}
use Rattle.replica_rules.specs.Voting.{Vote, Votes, no_votes, share_place, is_above_vote, with_vote, Claims, greater, with_claim}
use Rattle.list_lemmas.proofs.Tests.{by_bool, way_with, and_left}

-- ---- one step

-- a kept vote was kept before, or is the one taken
pub kept_or_taken : (votes : Votes) (name : NodeName) (seq : ℕ) (root : List ℕ) (other : NodeName) (x : ℕ) (vote : Vote) → with_vote votes name seq root other x ≡ Some vote
    → (votes other x ≡ Some vote) ⊎ ((same_node other name ≡ true) × (vote ≡ record { seq = seq; root = root }))
kept_or_taken votes name seq root other x vote is =
    by_bool (same_node other name && share_place x seq && is_above_vote seq (votes other x)) ((votes other x ≡ Some vote) ⊎ ((same_node other name ≡ true) × (vote ≡ record { seq = seq; root = root })))
    (λ pass.
    let new : Some (record { seq = seq; root = root }) ≡ Some vote = sym (ap (λ b. if b then Some (record { seq = seq; root = root }) else votes other x) pass) ∙ is in
    let named : same_node other name ≡ true = and_left (same_node other name) (share_place x seq) (and_left (same_node other name && share_place x seq) (is_above_vote seq (votes other x)) pass) in
    inr (named, sym (cc)))
    (λ fail. inl (sym (ap (λ b. if b then Some (record { seq = seq; root = root }) else votes other x) fail) ∙ is))

greater_left : (a b : ℕ) → a ≤ greater a b
greater_left a b = way_with (nat_le a b) b a (λ m. a ≤ m) (λ pass. leb-true a b pass) (λ fail. omega arith)

-- a claim never falls
pub claims_rise : (claims : Claims) (name : NodeName) (front : ℕ) (other : NodeName) → claims other ≤ with_claim claims name front other
claims_rise claims name front other = way_with (same_node other name) (greater (claims other) front) (claims other) (λ m. claims other ≤ m) (λ pass. greater_left (claims other) front) (λ fail. omega arith)

-- a claim was there before, or is the one taken
pub claimed_or_taken : (claims : Claims) (name : NodeName) (front : ℕ) (other : NodeName)
    → (with_claim claims name front other ≡ claims other) ⊎ ((same_node other name ≡ true) × (with_claim claims name front other ≡ front))
claimed_or_taken claims name front other =
    by_bool (same_node other name) ((with_claim claims name front other ≡ claims other) ⊎ ((same_node other name ≡ true) × (with_claim claims name front other ≡ front)))
    (λ pass.
    let here : with_claim claims name front other ≡ greater (claims other) front = ap (λ b. if b then greater (claims other) front else claims other) pass in
    by_bool (nat_le (claims other) front) ((with_claim claims name front other ≡ claims other) ⊎ ((same_node other name ≡ true) × (with_claim claims name front other ≡ front)))
    (λ less. inr (pass, here ∙ ap (λ b. if b then front else claims other) less))
    (λ more. inl (here ∙ ap (λ b. if b then front else claims other) more)))
    (λ fail. inl (ap (λ b. if b then greater (claims other) front else claims other) fail))

-- ---- many steps

-- a vote as it was taken, of that node
pub record VoteTaken : Type 0 where
  pub name : NodeName
  pub seq : ℕ
  pub root : List ℕ

-- the votes that are kept after these were taken, in their order
abbrev pub after_votes : Votes → List VoteTaken → Votes
after_votes votes taken = fold (λ v t. with_vote v t.name t.seq t.root) votes taken

-- it is the node's vote that was taken
abbrev pub IsOf : NodeName → Vote → VoteTaken → Type 0
IsOf name vote t = (same_node name t.name ≡ true) × (t.seq ≡ vote.seq) × (t.root ≡ vote.root)

-- a vote that is kept was kept at first, or it is among those taken
pub votes_were_taken : (votes : Votes) (taken : List VoteTaken) (name : NodeName) (x : ℕ) (vote : Vote) → after_votes votes taken name x ≡ Some vote
    → (votes name x ≡ Some vote) ⊎ ((t : VoteTaken) × IsAmong t taken × IsOf name vote t)
votes_were_taken votes [] name x vote is = inl is
votes_were_taken votes (t ∷ taken) name x vote is =
    ⊎_elim
    (λ before.
    ⊎_elim (λ first. inl first)
    (λ (here : (same_node name t.name ≡ true) × (vote ≡ record { seq = t.seq; root = t.root })).
    inr (t, inl refl, (here.0, sym (ap (λ (v : Vote). v.seq) here.1), sym (ap (λ (v : Vote). v.root) here.1))))
    (kept_or_taken votes t.name t.seq t.root name x vote before))
    (λ later. inr (later.0, inr later.1, later.2))
    (votes_were_taken (with_vote votes t.name t.seq t.root) taken name x vote is)

-- so from none on, every kept vote was taken
pub kept_were_taken : (taken : List VoteTaken) (name : NodeName) (x : ℕ) (vote : Vote) → after_votes no_votes taken name x ≡ Some vote → (t : VoteTaken) × IsAmong t taken × IsOf name vote t
kept_were_taken taken name x vote is =
    ⊎_elim (λ none. let never : None ≡ Some vote = none in absurd (cc)) (λ found. found) (votes_were_taken no_votes taken name x vote is)

pub record ClaimTaken : Type 0 where
  pub name : NodeName
  pub front : ℕ

abbrev pub after_claims : Claims → List ClaimTaken → Claims
after_claims claims taken = fold (λ c t. with_claim c t.name t.front) claims taken

-- a node's claim is its first one, or it is among those taken
pub claims_were_taken : (claims : Claims) (taken : List ClaimTaken) (name : NodeName)
    → (after_claims claims taken name ≡ claims name) ⊎ ((t : ClaimTaken) × IsAmong t taken × (same_node name t.name ≡ true) × (t.front ≡ after_claims claims taken name))
claims_were_taken claims [] name = inl refl
claims_were_taken claims (t ∷ taken) name =
    ⊎_elim
    (λ (same : after_claims (with_claim claims t.name t.front) taken name ≡ with_claim claims t.name t.front name).
    ⊎_elim (λ (first : with_claim claims t.name t.front name ≡ claims name). inl (same ∙ first))
    (λ (here : (same_node name t.name ≡ true) × (with_claim claims t.name t.front name ≡ t.front)). inr (t, inl refl, here.0, sym (same ∙ here.1)))
    (claimed_or_taken claims t.name t.front name))
    (λ later. inr (later.0, inr later.1, later.2, later.3))
    (claims_were_taken (with_claim claims t.name t.front) taken name)

-- and it is at least the first one
pub claims_only_rise : (claims : Claims) (taken : List ClaimTaken) (name : NodeName) → claims name ≤ after_claims claims taken name
claims_only_rise claims [] name = omega arith
claims_only_rise claims (t ∷ taken) name =
    let once : claims name ≤ with_claim claims t.name t.front name = claims_rise claims t.name t.front name in
    let more : with_claim claims t.name t.front name ≤ after_claims (with_claim claims t.name t.front) taken name = claims_only_rise (with_claim claims t.name t.front) taken name in
    omega arith
