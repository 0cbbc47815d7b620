-- A leader's votes and claims were sent; so each batch that it certifies is one that the honest nodes of its regions voted
-- for, behind a batch that is claimed.
use Rattle.std.proofs.Common.{◌≡◌, ◌⊎◌, inl, inr, ⊎_elim, ℕ, ◌-◌, ◌≤◌, ◌==◌, ◌&&◌, not, nat_lt, nat_le, Bool, true, false, if◌then◌else◌, List, [], ◌∷◌, map, Option, None, Some, refl, sym, ap, subst, arith, le_trans}
use Rattle.std.specs.Prelude.{filter}
use Rattle.std.specs.List.{AllByRecursion, list_all}
use Rattle.std.proofs.lemmas.Bool.{eqb-true, leb-true, or_cases}
use Rattle.std.proofs.lemmas.Option.{none-some}
use Rattle.std.proofs.lemmas.Slice.Eq.{bytes_eq-Decides}
use Rattle.salus_types.specs.Volume.{Shape}
use Rattle.salus_types.specs.declared.names.NodeName.{NodeName}
use Rattle.salus_types.specs.declared.records.Header.{Header}
use Rattle.salus_types.specs.declared.records.Record.{Record}
use Rattle.merkle_region.specs.Tree.{IsAmong}
use Rattle.volume_model.specs.Groups.{same_node, group_of}
use Rattle.replica_rules.specs.Views.{led_by}
use Rattle.replica_rules.specs.Voting.{Vote as KeptVote, share_place, is_above_vote, with_vote, root_in, is_root, all_one, is_unanimous_in, is_unanimous, greater, with_claim, all_claim}
use Rattle.replica_rules.specs.Leading.{Leader, new_leader, put_header, is_passed, with_header, with_led, noted_with, is_after_claimed, is_certified, all_certified, front_after}
use Rattle.list_lemmas.proofs.Each.{either_way, all_filter, all_then, all_pass, all_zip}
use Rattle.list_lemmas.proofs.Members.{among_all}
use Rattle.list_lemmas.proofs.Tests.{and_left, and_right, way_with}
use Rattle.law_handed.proofs.Leaders.{node_same}
use Rattle.law_prefix.specs.World.{Client, Vote, Claim, Volume, leader}
use Rattle.law_prefix.specs.Steps.{AllClaim, Voted, IsBatch}
use Rattle.law_prefix.proofs.Tables.{claimed_less}
use Rattle.kept_model.specs.Nodes.{node_of}
use Rattle.law_refined.specs.Bringing.{PartFits, VotedFor, ClaimedFor}
use Rattle.law_refined.specs.Standing.{WhereSome, Certain, NotedFits, LeaderStands}

pub part_batch : (c : Client) (rec : Record) → PartFits c rec → IsBatch c rec.header.session (rec.header.seq - 1)
part_batch c rec fits = record { known = fits.known; after_start = fits.is_part.after_start; submitted = fits.is_part.submitted }

picked : (b : Bool) (vote : KeptVote) (x : ℕ) (root : List ℕ) → (b ≡ true → vote.seq ≡ x) → (if b then Some vote.root else None) ≡ Some root → vote.seq ≡ x
picked true vote x root f e = f refl
picked false vote x root f e = absurd (none-some root e)

same_root : (root : List ℕ) (o : Option (List ℕ)) → is_root root o ≡ true → o ≡ Some root
same_root root None e = absurd (cc)
same_root root (Some other) e = ap Some (sym ((bytes_eq-Decides root other).0 e))

module _ (shape : Shape) (v : Volume) (c : Client) (votes : List Vote) (claims : List Claim) where
  abbrev pub Sure : ℕ → ℕ → ℕ → Type 0
  Sure e place x = Certain v c votes claims e place x

  abbrev pub Stands : ℕ → ℕ → Leader → Type 0
  Stands e place l = LeaderStands shape v c votes claims e place l

  abbrev HasVoted : ℕ → ℕ → NodeName → Type 0
  HasVoted e x name = VotedFor shape v votes e x name

  abbrev HasClaimed : ℕ → ℕ → NodeName → Type 0
  HasClaimed e x name = ClaimedFor shape v claims e x name

  -- ---- a base further on

  pub sure_more : (e place more x : ℕ) → place ≤ more → Sure e place x → Sure e more x
  sure_more e place more x up sure = record {
    counted = sure.counted;
    small = sure.small;
    batch = sure.batch;
    voted = sure.voted;
    in_order = ⊎_elim (λ (low : x - 1 ≤ place). inl (le_trans low up)) (λ (all : AllClaim v claims (leader (c.lists e) (x - 1 - 1)) e (x - 1)). inr all) sure.in_order;
  }

  pub leader_more : (e place more : ℕ) (l : Leader) → place ≤ more → Stands e place l → Stands e more l
  leader_more e place more l up stands = record {
    low = le_trans stands.low up;
    start = le_trans stands.start up;
    front = ⊎_elim (λ (same : l.front ≡ l.base). inl same) (λ (sure : Sure e place l.front). inr (sure_more e place more l.front up sure)) stands.front;
    noted = stands.noted;
    voted = stands.voted;
    claimed = stands.claimed;
  }

  -- ---- votes

  voted_at : (e x : ℕ) (name : NodeName) (o : Option KeptVote) (root : List ℕ) → WhereSome (λ vote. HasVoted e vote.seq name) o → root_in x o ≡ Some root → HasVoted e x name
  voted_at e x name None root has at = absurd (none-some root at)
  voted_at e x name (Some vote) root has at = subst (λ (n : ℕ). HasVoted e n name) (picked (vote.seq == x) vote x root (λ pass. eqb-true vote.seq x pass) at) has

  module _ (e place : ℕ) (l : Leader) (stands : Stands e place l) (x : ℕ) where
    rest_voted : (root : List ℕ) (names : List NodeName) → list_all (λ other. is_root root other) (map (λ name. root_in x (l.votes name x)) names) ≡ true → AllByRecursion (HasVoted e x) names
    rest_voted root [] all = tt
    rest_voted root (name ∷ names) all = (
      voted_at e x name (l.votes name x) root (stands.voted name x) (same_root root (root_in x (l.votes name x)) (and_left (is_root root (root_in x (l.votes name x))) _ all)),
      rest_voted root names (and_right (is_root root (root_in x (l.votes name x))) _ all),
    )

    first_voted : (name : NodeName) (names : List NodeName) (o : Option (List ℕ)) → root_in x (l.votes name x) ≡ o → all_one (o ∷ map (λ n. root_in x (l.votes n x)) names) ≡ true
        → AllByRecursion (HasVoted e x) (name ∷ names)
    first_voted name names None at one = absurd (cc)
    first_voted name names (Some root) at one = (voted_at e x name (l.votes name x) root (stands.voted name x) at, rest_voted root names one)

    group_voted : (names : List NodeName) → all_one (map (λ name. root_in x (l.votes name x)) names) ≡ true → AllByRecursion (HasVoted e x) names
    group_voted [] one = tt
    group_voted (name ∷ names) one = first_voted name names (root_in x (l.votes name x)) refl one

    all_voted : (touched : List ℕ) → list_all (λ g. is_unanimous_in shape l.votes x g) touched ≡ true → AllByRecursion (λ g. AllByRecursion (HasVoted e x) (group_of shape g)) touched
    all_voted [] all = tt
    all_voted (g ∷ touched) all = (
      group_voted (group_of shape g) (and_left (is_unanimous_in shape l.votes x g) (list_all (λ r. is_unanimous_in shape l.votes x r) touched) all),
      all_voted touched (and_right (is_unanimous_in shape l.votes x g) (list_all (λ r. is_unanimous_in shape l.votes x r) touched) all),
    )

    -- ---- claims

    all_claimed : (names : List NodeName) → list_all (λ name. nat_le x (l.claims name)) names ≡ true → AllByRecursion (HasClaimed e x) names ⊎ (x ≤ l.base)
    all_claimed [] all = inl tt
    all_claimed (name ∷ names) all =
        let high : x ≤ l.claims name = leb-true x (l.claims name) (and_left (nat_le x (l.claims name)) (list_all (λ n. nat_le x (l.claims n)) names) all) in
        ⊎_elim (λ (same : l.claims name ≡ l.base). let low : x ≤ l.base = omega arith in inr low)
        (λ (has : HasClaimed e (l.claims name) name).
        let mine : HasClaimed e x name = λ r honest is. claimed_less claims r e x (l.claims name) high (has r honest is) in
        ⊎_elim (λ (rest : AllByRecursion (HasClaimed e x) names). inl (mine, rest)) (λ (low : x ≤ l.base). inr low)
        (all_claimed names (and_right (nat_le x (l.claims name)) (list_all (λ n. nat_le x (l.claims n)) names) all)))
        (stands.claimed name)

  -- each honest node stands in its region's group
  module _ (numbered : (r : ℕ) → v.honest r ≡ true → IsAmong (node_of shape r) (group_of shape (v.region r))) where
    claimed_by : (e x g : ℕ) → AllByRecursion (HasClaimed e x) (group_of shape g) → AllClaim v claims g e x
    claimed_by e x g all r honest place =
        among_all (HasClaimed e x) (group_of shape g) (node_of shape r) (subst (λ (n : ℕ). IsAmong (node_of shape r) (group_of shape n)) place (numbered r honest)) all r honest refl

    voted_by : (e x : ℕ) (touched : List ℕ) → AllByRecursion (λ g. AllByRecursion (HasVoted e x) (group_of shape g)) touched → (r : ℕ) → v.honest r ≡ true → IsAmong (v.region r) touched → Voted votes r e (x - 1)
    voted_by e x touched all r honest among =
        among_all (HasVoted e x) (group_of shape (v.region r)) (node_of shape r) (numbered r honest) (among_all (λ g. AllByRecursion (HasVoted e x) (group_of shape g)) touched (v.region r) among all) r honest refl

    -- ---- a certified batch

    in_order_of : (rec : Record) (place : ℕ) (l : Leader) → PartFits c rec → Stands rec.header.session place l → is_after_claimed shape l rec.header ≡ true
        → (rec.header.seq - 1 ≤ place) ⊎ AllClaim v claims (leader (c.lists rec.header.session) (rec.header.seq - 1 - 1)) rec.header.session (rec.header.seq - 1)
    in_order_of rec place l fits stands pass =
        let e : ℕ = rec.header.session in
        let x : ℕ = rec.header.seq - 1 in
        let low : l.base ≤ place = stands.low in
        let start : c.starts e ≤ place = stands.start in
        ⊎_elim (λ (first : x ≤ c.starts e). inl (le_trans first start))
        (λ (named : rec.header.leader_before ≡ leader (c.lists e) (x - 1)).
        ⊎_elim (λ (all : all_claim shape l.claims rec.header.leader_before x ≡ true).
        ⊎_elim (λ (claimed : AllByRecursion (HasClaimed e x) (group_of shape rec.header.leader_before)).
        inr (subst (λ (g : ℕ). AllClaim v claims g e x) named (claimed_by e x rec.header.leader_before claimed)))
        (λ (under : x ≤ l.base). inl (le_trans under low))
        (all_claimed e place l stands x (group_of shape rec.header.leader_before) all))
        (λ (same : (x == l.base) ≡ true). let is : x ≡ l.base = eqb-true x l.base same in inl (let under : x ≤ place = omega arith in under))
        (or_cases (all_claim shape l.claims rec.header.leader_before x) (x == l.base) pass))
        fits.before

    certified_part : (rec : Record) (place : ℕ) (l : Leader) → PartFits c rec → Stands rec.header.session place l → is_certified shape l rec.header ≡ true → Sure rec.header.session place rec.header.seq
    unfolding is_certified
    certified_part rec place l fits stands pass =
        let h : Header = rec.header in
        let both : (nat_lt l.front h.seq && is_unanimous shape l.votes h.seq h.touched) ≡ true = and_left (nat_lt l.front h.seq && is_unanimous shape l.votes h.seq h.touched) (is_after_claimed shape l h) pass in
        let voted = all_voted h.session place l stands h.seq h.touched (and_right (nat_lt l.front h.seq) (is_unanimous shape l.votes h.seq h.touched) both) in
        record {
          counted = fits.counted;
          small = fits.spelled.widths.header_typed.seq_width;
          batch = part_batch c rec fits;
          voted = λ r honest touched. voted_by h.session h.seq h.touched voted r honest (fits.touched (v.region r) touched);
          in_order = in_order_of rec place l fits stands (and_right (nat_lt l.front h.seq && is_unanimous shape l.votes h.seq h.touched) (is_after_claimed shape l h) pass);
        }

    certified_header : (e place : ℕ) (l : Leader) → Stands e place l → (h : Header) → NotedFits c e h → is_certified shape l h ≡ true → Sure e place h.seq
    certified_header e place l stands h noted pass =
        let rec : Record = noted.0 in
        let its : Stands rec.header.session place l = subst (λ (s : ℕ). Stands s place l) (sym noted.2) stands in
        let sure : Sure rec.header.session place rec.header.seq = certified_part rec place l noted.1 its (subst (λ (k : Header). is_certified shape l k ≡ true) (sym noted.3) pass) in
        subst (λ (k : Header). Sure e place k.seq) noted.3 (subst (λ (s : ℕ). Sure s place rec.header.seq) noted.2 sure)

    pub all_sure : (e place : ℕ) (l : Leader) → Stands e place l → AllByRecursion (λ h. Sure e place h.seq) (all_certified shape l)
    all_sure e place l stands =
        all_then (λ h. NotedFits c e h × (is_certified shape l h ≡ true)) (λ h. Sure e place h.seq) (λ h both. certified_header e place l stands h both.0 both.1) (all_certified shape l)
        (all_zip (NotedFits c e) (λ h. is_certified shape l h ≡ true) (all_certified shape l) (all_filter (NotedFits c e) (λ h. is_certified shape l h) l.noted stands.noted) (all_pass (λ h. is_certified shape l h) l.noted))

    -- ---- the front

    front_is : (e place base front : ℕ) (headers : List Header) → (front ≡ base) ⊎ Sure e place front → AllByRecursion (λ h. Sure e place h.seq) headers → (front_after front headers ≡ base) ⊎ Sure e place (front_after front headers)
    unfolding front_after
    front_is e place base front [] is all = is
    front_is e place base front (h ∷ headers) is all = front_is e place base h.seq headers (inr all.0) all.1

    pub front_moved : (e place : ℕ) (l : Leader) → Stands e place l → Stands e place (record l { front = front_after l.front (all_certified shape l) })
    front_moved e place l stands = record {
      low = stands.low;
      start = stands.start;
      front = front_is e place l.base l.front (all_certified shape l) stands.front (all_sure e place l stands);
      noted = stands.noted;
      voted = stands.voted;
      claimed = stands.claimed;
    }

  -- ---- a vote and a claim more

  pub vote_more : (e place : ℕ) (l : Leader) (name : NodeName) (x : ℕ) (root : List ℕ) → Stands e place l → HasVoted e x name → Stands e place (record l { votes = with_vote l.votes name x root })
  vote_more e place l name x root stands has = record {
    low = stands.low;
    start = stands.start;
    front = stands.front;
    noted = stands.noted;
    voted = λ other y. way_with {A = Option KeptVote} (same_node other name && share_place y x && is_above_vote x (l.votes other y)) (Some (record { seq = x; root = root })) (l.votes other y)
        (WhereSome (λ vote. HasVoted e vote.seq other))
        (λ pass. subst (λ (n : NodeName). HasVoted e x n)
        (sym (node_same other name (and_left (same_node other name) (share_place y x) (and_left (same_node other name && share_place y x) (is_above_vote x (l.votes other y)) pass)))) has)
        (λ fail. stands.voted other y);
    claimed = stands.claimed;
  }

  pub claim_more : (e place : ℕ) (l : Leader) (name : NodeName) (x : ℕ) → Stands e place l → HasClaimed e x name → Stands e place (record l { claims = with_claim l.claims name x })
  claim_more e place l name x stands has = record {
    low = stands.low;
    start = stands.start;
    front = stands.front;
    noted = stands.noted;
    voted = stands.voted;
    claimed = λ other. way_with (same_node other name) (greater (l.claims other) x) (l.claims other) (λ y. (y ≡ l.base) ⊎ HasClaimed e y other)
        (λ pass. either_way (nat_le (l.claims other) x) x (l.claims other) (λ y. (y ≡ l.base) ⊎ HasClaimed e y other) (inr (subst (λ (n : NodeName). HasClaimed e x n) (sym (node_same other name pass)) has)) (stands.claimed other))
        (λ fail. stands.claimed other);
  }

  -- ---- headers noted

  put_noted : (e : ℕ) (noted : List Header) (h : Header) → AllByRecursion (NotedFits c e) noted → NotedFits c e h → AllByRecursion (NotedFits c e) (put_header noted h)
  unfolding put_header
  put_noted e [] h all one = (one, tt)
  put_noted e (other ∷ noted) h all one =
      either_way (nat_lt h.seq other.seq) (h ∷ other ∷ noted) (other ∷ put_header noted h) (λ l. AllByRecursion (NotedFits c e) l) (one, all) (all.0, put_noted e noted h all.1 one)

  noted_all : (e g : ℕ) (noted : List Header) (parts : List Record) → AllByRecursion (NotedFits c e) noted → AllByRecursion (λ rec. PartFits c rec × (rec.header.session ≡ e)) parts
      → AllByRecursion (NotedFits c e) (noted_with g noted parts)
  noted_all e g noted [] all kept = all
  noted_all e g noted (rec ∷ parts) all kept =
      noted_all e g (with_led g noted rec) parts
      (either_way (led_by rec.header == g) (with_header noted rec.header) noted (λ l. AllByRecursion (NotedFits c e) l)
      (either_way (is_passed noted rec.header) noted (put_header (filter (λ other. not (share_place other.seq rec.header.seq)) noted) rec.header) (λ l. AllByRecursion (NotedFits c e) l) all
      (put_noted e (filter (λ other. not (share_place other.seq rec.header.seq)) noted) rec.header (all_filter (NotedFits c e) (λ other. not (share_place other.seq rec.header.seq)) noted all) (rec, kept.0.0, kept.0.1, refl))) all) kept.1

  pub noted_more : (e place g : ℕ) (l : Leader) (parts : List Record) → Stands e place l → AllByRecursion (λ rec. PartFits c rec × (rec.header.session ≡ e)) parts
      → Stands e place (record l { noted = noted_with g l.noted parts })
  noted_more e place g l parts stands kept = record {
    low = stands.low;
    start = stands.start;
    front = stands.front;
    noted = noted_all e g l.noted parts stands.noted kept;
    voted = stands.voted;
    claimed = stands.claimed;
  }

  -- a load's leader
  pub leader_begun : (e place x g : ℕ) (parts : List Record) → x ≤ place → c.starts e ≤ place → AllByRecursion (λ rec. PartFits c rec × (rec.header.session ≡ e)) parts → Stands e place (new_leader x (noted_with g [] parts))
  leader_begun e place x g parts low start kept = record {
    low = low;
    start = start;
    front = inl refl;
    noted = noted_all e g [] parts tt kept;
    voted = λ name y. tt;
    claimed = λ name. inl refl;
  }
