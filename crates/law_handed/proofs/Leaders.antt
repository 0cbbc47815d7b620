-- What stands in a leader's memory was handed over: its votes, its claims, the parts that it notes; and its base is held at
-- some moment. So each batch that it certifies has its licence.
use Rattle.std.proofs.Common.{◌≡◌, ◌∙◌, ◌⊎◌, inl, inr, ⊎_elim, ℕ, ◌-◌, ◌<◌, ◌≤◌, ◌==◌, ◌&&◌, not, nat_lt, nat_le, Bool, true, false, if◌then◌else◌, List, [], ◌∷◌, map, Option, None, Some, refl, sym, ap, subst, arith}
use Rattle.std.specs.Prelude.{filter}
use Rattle.std.specs.List.{AllByRecursion, list_all}
use Rattle.std.proofs.lemmas.Bool.{eqb-true, ltb-true, leb-true, or_cases}
use Rattle.std.proofs.lemmas.Option.{none-some, same_Some}
use Rattle.std.proofs.lemmas.Slice.Eq.{bytes_eq-Decides}
use Rattle.salus_types.specs.Volume.{Shape}
use Rattle.salus_types.specs.declared.names.NodeName.{NodeName}
use Rattle.salus_types.specs.declared.names.Sender.TheVariants as sender
use Rattle.salus_types.specs.declared.records.Header.{Header}
use Rattle.salus_types.specs.declared.records.Record.{Record}
use Rattle.salus_types.specs.declared.records.Base.{Base}
use Rattle.salus_types.specs.declared.records.Held.{Held}
use Rattle.salus_message.specs.declared.small.Prepared.{Prepared}
use Rattle.salus_message.specs.declared.small.Committed.{Committed}
use Rattle.salus_message.specs.declared.wire.Message.TheVariants as message
use Rattle.merkle_region.specs.Tree.{IsAmong}
use Rattle.volume_model.specs.Groups.{same_node, group_of}
use Rattle.salus_model.specs.Licences.{Letter, WasHanded, HasVoted, IsUnanimous, HasClaimed, IsAfter, IsCertified}
use Rattle.replica_rules.specs.Views.{led_by}
use Rattle.replica_rules.specs.Voting.{Vote, Votes, Claims, share_place, is_above_vote, with_vote, root_in, is_root, all_one, is_unanimous_in, is_unanimous, greater, with_claim, all_claim}
use Rattle.replica_rules.specs.Leading.{Leader, new_leader, put_header, is_passed, with_header, with_led, noted_with, is_after_claimed, is_certified, all_certified, front_after}
use Rattle.list_lemmas.proofs.Each.{either_way, all_filter, all_then, OfSome, all_pass, all_zip}
use Rattle.list_lemmas.proofs.Tests.{and_left, and_right, way_with}
use Rattle.law_handed.proofs.Licensed.{Came}

pub node_same : (a b : NodeName) → same_node a b ≡ true → a ≡ b
node_same a b e =
    let region : a.region ≡ b.region = eqb-true a.region b.region (and_left (a.region == b.region) (a.replica == b.replica) e) in
    let replica : a.replica ≡ b.replica = eqb-true a.replica b.replica (and_right (a.region == b.region) (a.replica == b.replica) e) in
    ap (λ (g : ℕ). record { region = g; replica = a.replica }) region ∙ ap (λ (r : ℕ). record { region = b.region; replica = r }) replica

module _ (shape : Shape) (letters : List Letter) (moments : List Held) where
  -- a header of a part of the session that the client handed over
  abbrev pub Noted : ℕ → Header → Type 0
  Noted e h = (rec : Record) × Came letters rec × (rec.header.session ≡ e) × (rec.header ≡ h)

  -- a base of that session and number was held at some moment
  abbrev pub Began : ℕ → ℕ → Type 0
  Began e x = (now : Held) × IsAmong now moments × (base : Base) × IsAmong base now.bases × (base.rec.header.session ≡ e) × (base.rec.header.seq ≡ x)

  abbrev pub Certified : ℕ → ℕ → Type 0
  Certified e x = IsCertified shape letters moments e x

  abbrev pub VotesCame : ℕ → Votes → Type 0
  VotesCame e votes = (name : NodeName) (x : ℕ) → OfSome (λ v. HasVoted letters e v.seq v.root name) (votes name x)

  abbrev pub ClaimsCame : ℕ → ℕ → Claims → Type 0
  ClaimsCame e base claims = (name : NodeName) → (claims name ≡ base) ⊎ HasClaimed letters e (claims name) name

  pub record LeaderBacked (e : ℕ) (leader : Leader) : Type 0 where
    pub base : Began e leader.base
    pub low : leader.base ≤ leader.front
    pub front : (leader.front ≡ leader.base) ⊎ Certified e leader.front
    pub noted : AllByRecursion (Noted e) leader.noted
    pub votes : VotesCame e leader.votes
    pub claims : ClaimsCame e leader.base leader.claims

  -- ---- votes

  picked : (b : Bool) (v : Vote) (x : ℕ) (root : List ℕ) → (b ≡ true → v.seq ≡ x) → (if b then Some v.root else None) ≡ Some root → (v.seq ≡ x) × (v.root ≡ root)
  picked true v x root f e = (f refl, same_Some v.root root e)
  picked false v x root f e = absurd (none-some root e)

  voted : (e x : ℕ) (root : List ℕ) (name : NodeName) (o : Option Vote) → OfSome (λ v. HasVoted letters e v.seq v.root name) o → root_in x o ≡ Some root → HasVoted letters e x root name
  voted e x root name None has at = absurd (none-some root at)
  voted e x root name (Some v) has at =
      let is = picked (v.seq == x) v x root (λ pass. eqb-true v.seq x pass) at in
      subst (λ (r : List ℕ). HasVoted letters e x r name) is.1 (subst (λ (n : ℕ). HasVoted letters e n v.root name) is.0 has)

  same_root : (root : List ℕ) (o : Option (List ℕ)) → is_root root o ≡ true → o ≡ Some root
  same_root root None e = absurd (cc)
  same_root root (Some other) e = ap Some (sym ((bytes_eq-Decides root other).0 e))

  module _ (e x : ℕ) (votes : Votes) (came : VotesCame e votes) where
    rest_voted : (root : List ℕ) (names : List NodeName) → list_all (λ other. is_root root other) (map (λ name. root_in x (votes name x)) names) ≡ true → AllByRecursion (λ name. HasVoted letters e x root name) names
    rest_voted root [] all = tt
    rest_voted root (name ∷ names) all = (
      voted e x root name (votes name x) (came name x) (same_root root (root_in x (votes name x)) (and_left (is_root root (root_in x (votes name x))) _ all)),
      rest_voted root names (and_right (is_root root (root_in x (votes name x))) _ all),
    )

    first_voted : (name : NodeName) (names : List NodeName) (o : Option (List ℕ)) → root_in x (votes name x) ≡ o → all_one (o ∷ map (λ n. root_in x (votes n x)) names) ≡ true
        → (root : List ℕ) × AllByRecursion (λ n. HasVoted letters e x root n) (name ∷ names)
    first_voted name names None at one = absurd (cc)
    first_voted name names (Some root) at one = (root, (voted e x root name (votes name x) (came name x) at, rest_voted root names one))

    group_voted : (names : List NodeName) → all_one (map (λ name. root_in x (votes name x)) names) ≡ true → (root : List ℕ) × AllByRecursion (λ name. HasVoted letters e x root name) names
    group_voted [] one = ([], tt)
    group_voted (name ∷ names) one = first_voted name names (root_in x (votes name x)) refl one

    all_voted : (touched : List ℕ) → list_all (λ g. is_unanimous_in shape votes x g) touched ≡ true → AllByRecursion (λ g. IsUnanimous shape letters e x g) touched
    all_voted [] all = tt
    all_voted (g ∷ touched) all = (
      group_voted (group_of shape g) (and_left (is_unanimous_in shape votes x g) (list_all (λ r. is_unanimous_in shape votes x r) touched) all),
      all_voted touched (and_right (is_unanimous_in shape votes x g) (list_all (λ r. is_unanimous_in shape votes x r) touched) all),
    )

  -- ---- claims

  all_claimed : (e x base : ℕ) (claims : Claims) → ClaimsCame e base claims → (names : List NodeName) → list_all (λ name. nat_le x (claims name)) names ≡ true
      → AllByRecursion (λ name. HasClaimed letters e x name) names ⊎ (x ≤ base)
  all_claimed e x base claims came [] all = inl tt
  all_claimed e x base claims came (name ∷ names) all =
      let high : x ≤ claims name = leb-true x (claims name) (and_left (nat_le x (claims name)) (list_all (λ n. nat_le x (claims n)) names) all) in
      ⊎_elim (λ (same : claims name ≡ base). let low : x ≤ base = omega arith in inr low)
      (λ (has : HasClaimed letters e (claims name) name).
      let over : x ≤ has.0 = omega (arith, has.1) in
      ⊎_elim (λ (rest : AllByRecursion (λ n. HasClaimed letters e x n) names). inl ((has.0, over, has.2), rest)) (λ (low : x ≤ base). inr low)
      (all_claimed e x base claims came names (and_right (nat_le x (claims name)) (list_all (λ n. nat_le x (claims n)) names) all)))
      (came name)

  began_at : (e x y : ℕ) → x ≡ y → Began e x → Began e y
  began_at e x y same began = subst (λ (n : ℕ). Began e n) same began

  after_is : (h : Header) (leader : Leader) → LeaderBacked h.session leader → leader.front < h.seq → is_after_claimed shape leader h ≡ true → IsAfter shape letters moments h
  after_is h leader back above pass =
      let low : leader.base ≤ leader.front = back.low in
      ⊎_elim (λ (all : all_claim shape leader.claims h.leader_before (h.seq - 1) ≡ true).
      ⊎_elim (λ (claimed : AllByRecursion (λ name. HasClaimed letters h.session (h.seq - 1) name) (group_of shape h.leader_before)). inl claimed)
      (λ (under : h.seq - 1 ≤ leader.base). let same : leader.base ≡ h.seq - 1 = omega arith in inr (began_at h.session leader.base (h.seq - 1) same back.base))
      (all_claimed h.session (h.seq - 1) leader.base leader.claims back.claims (group_of shape h.leader_before) all))
      (λ (same : (h.seq - 1 == leader.base) ≡ true). inr (began_at h.session leader.base (h.seq - 1) (sym (eqb-true (h.seq - 1) leader.base same)) back.base))
      (or_cases (all_claim shape leader.claims h.leader_before (h.seq - 1)) (h.seq - 1 == leader.base) pass)

  -- ---- a certified batch

  certified_part : (rec : Record) (leader : Leader) → Came letters rec → LeaderBacked rec.header.session leader → is_certified shape leader rec.header ≡ true
      → (leader.front < rec.header.seq) × Certified rec.header.session rec.header.seq
  unfolding is_certified
  certified_part rec leader came back pass =
      let h : Header = rec.header in
      let both : (nat_lt leader.front h.seq && is_unanimous shape leader.votes h.seq h.touched) ≡ true = and_left _ (is_after_claimed shape leader h) pass in
      let above : leader.front < h.seq = ltb-true leader.front h.seq (and_left (nat_lt leader.front h.seq) (is_unanimous shape leader.votes h.seq h.touched) both) in (
        above,
        record {
          rec = rec;
          came = came;
          session = refl;
          seq = refl;
          votes = all_voted h.session h.seq leader.votes back.votes h.touched (and_right (nat_lt leader.front h.seq) (is_unanimous shape leader.votes h.seq h.touched) both);
          after = after_is h leader back above (and_right (nat_lt leader.front h.seq && is_unanimous shape leader.votes h.seq h.touched) (is_after_claimed shape leader h) pass);
        },
      )

  abbrev pub IsNext : ℕ → Leader → Header → Type 0
  IsNext e leader h = (leader.front < h.seq) × Certified e h.seq

  certified_header : (e : ℕ) (leader : Leader) → LeaderBacked e leader → (h : Header) → Noted e h → is_certified shape leader h ≡ true → IsNext e leader h
  certified_header e leader back h noted pass =
      let rec : Record = noted.0 in
      let is = certified_part rec leader noted.1 (subst (λ (s : ℕ). LeaderBacked s leader) (sym noted.2) back) (subst (λ (k : Header). is_certified shape leader k ≡ true) (sym noted.3) pass) in
      let seq : rec.header.seq ≡ h.seq = ap (λ (k : Header). k.seq) noted.3 in
      (subst (λ (n : ℕ). leader.front < n) seq is.0, subst (λ (n : ℕ). Certified e n) seq (subst (λ (s : ℕ). Certified s rec.header.seq) noted.2 is.1))

  pub all_next : (e : ℕ) (leader : Leader) → LeaderBacked e leader → AllByRecursion (IsNext e leader) (all_certified shape leader)
  all_next e leader back =
      all_then (λ h. Noted e h × (is_certified shape leader h ≡ true)) (IsNext e leader) (λ h both. certified_header e leader back h both.0 both.1) (all_certified shape leader)
      (all_zip (Noted e) (λ h. is_certified shape leader h ≡ true) (all_certified shape leader) (all_filter (Noted e) (λ h. is_certified shape leader h) leader.noted back.noted)
      (all_pass (λ h. is_certified shape leader h) leader.noted))

  -- ---- the front

  abbrev FrontIs : ℕ → ℕ → ℕ → Type 0
  FrontIs e base x = (base ≤ x) × ((x ≡ base) ⊎ Certified e x)

  front_is : (e base : ℕ) (front : ℕ) (headers : List Header) → FrontIs e base front → AllByRecursion (λ h. FrontIs e base h.seq) headers → FrontIs e base (front_after front headers)
  unfolding front_after
  front_is e base front [] is all = is
  front_is e base front (h ∷ headers) is all = front_is e base h.seq headers all.0 all.1

  pub front_moved : (e : ℕ) (leader : Leader) → LeaderBacked e leader → LeaderBacked e (record leader { front = front_after leader.front (all_certified shape leader) })
  front_moved e leader back =
      let low : leader.base ≤ leader.front = back.low in
      let is : FrontIs e leader.base (front_after leader.front (all_certified shape leader)) = front_is e leader.base leader.front (all_certified shape leader) (back.low, back.front)
      (all_then (IsNext e leader) (λ h. FrontIs e leader.base h.seq) (λ h next. (under leader.base leader.front h.seq low next.0, inr next.1)) (all_certified shape leader) (all_next e leader back)) in
      record { base = back.base; low = is.0; front = is.1; noted = back.noted; votes = back.votes; claims = back.claims }
    where
      under : (a b c : ℕ) → a ≤ b → b < c → a ≤ c
      under a b c low above = omega arith

  -- ---- a vote and a claim more

  abbrev VoteOf : Prepared → ℕ → ℕ → NodeName → Type 0
  VoteOf vote s g n = WasHanded letters (sender.Node n) (message.Prepared (record { session = s; seq = vote.seq; region = g; root = vote.root }))

  vote_mine : (e : ℕ) (name : NodeName) (vote : Prepared) → WasHanded letters (sender.Node name) (message.Prepared vote) → vote.session ≡ e → vote.region ≡ name.region
      → (other : NodeName) → other ≡ name → HasVoted letters e vote.seq vote.root other
  vote_mine e name vote handed session region other same =
      let here : VoteOf vote vote.session vote.region name = handed in
      let its : VoteOf vote e name.region name = subst (λ (g : ℕ). VoteOf vote e g name) region (subst (λ (s : ℕ). VoteOf vote s vote.region name) session here) in
      subst (λ (n : NodeName). VoteOf vote e n.region n) (sym same) its

  pub vote_more : (e : ℕ) (leader : Leader) (name : NodeName) (vote : Prepared) → LeaderBacked e leader → WasHanded letters (sender.Node name) (message.Prepared vote) → vote.session ≡ e → vote.region ≡ name.region
      → LeaderBacked e (record leader { votes = with_vote leader.votes name vote.seq vote.root })
  vote_more e leader name vote back handed session region = record {
    base = back.base;
    low = back.low;
    front = back.front;
    noted = back.noted;
    votes = λ other x. way_with {A = Option Vote} (same_node other name && share_place x vote.seq && is_above_vote vote.seq (leader.votes other x)) (Some (record { seq = vote.seq; root = vote.root })) (leader.votes other x)
        (OfSome (λ v. HasVoted letters e v.seq v.root other))
        (λ pass. vote_mine e name vote handed session region other (node_same other name (and_left (same_node other name) (share_place x vote.seq) (and_left (same_node other name && share_place x vote.seq) (is_above_vote vote.seq (leader.votes other x)) pass))))
        (λ fail. back.votes other x);
    claims = back.claims;
  }

  abbrev IsClaim : ℕ → ℕ → NodeName → ℕ → Type 0
  IsClaim e base other x = (x ≡ base) ⊎ HasClaimed letters e x other

  claim_mine : (e base : ℕ) (name : NodeName) (claim : Committed) → WasHanded letters (sender.Node name) (message.Committed claim) → claim.session ≡ e → (other : NodeName) → other ≡ name → IsClaim e base other claim.front
  claim_mine e base name claim handed session other same =
      let here : WasHanded letters (sender.Node name) (message.Committed (record { session = e; front = claim.front })) = subst (λ (s : ℕ). WasHanded letters (sender.Node name) (message.Committed (record { session = s; front = claim.front }))) session handed in
      inr (claim.front, omega arith, subst (λ (n : NodeName). WasHanded letters (sender.Node n) (message.Committed (record { session = e; front = claim.front }))) (sym same) here)

  pub claim_more : (e : ℕ) (leader : Leader) (name : NodeName) (claim : Committed) → LeaderBacked e leader → WasHanded letters (sender.Node name) (message.Committed claim) → claim.session ≡ e
      → LeaderBacked e (record leader { claims = with_claim leader.claims name claim.front })
  claim_more e leader name claim back handed session = record {
    base = back.base;
    low = back.low;
    front = back.front;
    noted = back.noted;
    votes = back.votes;
    claims = λ other. way_with (same_node other name) (greater (leader.claims other) claim.front) (leader.claims other) (IsClaim e leader.base other)
        (λ pass. either_way (nat_le (leader.claims other) claim.front) claim.front (leader.claims other) (IsClaim e leader.base other) (claim_mine e leader.base name claim handed session other (node_same other name pass)) (back.claims other))
        (λ fail. back.claims other);
  }

  -- ---- headers noted

  put_noted : (e : ℕ) (noted : List Header) (h : Header) → AllByRecursion (Noted e) noted → Noted e h → AllByRecursion (Noted e) (put_header noted h)
  unfolding put_header
  put_noted e [] h all one = (one, tt)
  put_noted e (other ∷ noted) h all one =
      either_way (nat_lt h.seq other.seq) (h ∷ other ∷ noted) (other ∷ put_header noted h) (λ l. AllByRecursion (Noted e) l) (one, all) (all.0, put_noted e noted h all.1 one)

  pub noted_more : (e g : ℕ) (noted : List Header) (parts : List Record) → AllByRecursion (Noted e) noted → AllByRecursion (λ rec. Came letters rec × (rec.header.session ≡ e)) parts → AllByRecursion (Noted e) (noted_with g noted parts)
  noted_more e g noted [] all kept = all
  noted_more e g noted (rec ∷ parts) all kept =
      noted_more e g (with_led g noted rec) parts
      (either_way (led_by rec.header == g) (with_header noted rec.header) noted (λ l. AllByRecursion (Noted e) l)
      (either_way (is_passed noted rec.header) noted (put_header (filter (λ other. not (share_place other.seq rec.header.seq)) noted) rec.header) (λ l. AllByRecursion (Noted e) l) all
      (put_noted e (filter (λ other. not (share_place other.seq rec.header.seq)) noted) rec.header (all_filter (Noted e) (λ other. not (share_place other.seq rec.header.seq)) noted all) (rec, kept.0.0, kept.0.1, refl))) all) kept.1

  -- a load's leader
  pub leader_begun : (e x g : ℕ) (parts : List Record) → Began e x → AllByRecursion (λ rec. Came letters rec × (rec.header.session ≡ e)) parts → LeaderBacked e (new_leader x (noted_with g [] parts))
  leader_begun e x g parts began kept = record { base = began; low = same_le x; front = inl refl; noted = noted_more e g [] parts tt kept; votes = λ name y. tt; claims = λ name. inl refl } where
    same_le : (n : ℕ) → n ≤ n
    same_le n = omega arith
