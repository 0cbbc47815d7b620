-- What is noted of headers goes by the same steps as the headers.
use Rattle.std.proofs.Common.{◌≡◌, ◌∙◌, ℕ, ◌==◌, Bool, true, false, not, ◌&&◌, ◌||◌, if◌then◌else◌, nat_lt, nat_le, List, [], ◌∷◌, map, Option, Some, refl, sym, ap, subst}
use Rattle.std.specs.Prelude.{filter, find}
use Rattle.std.specs.Option.{option_map}
use Rattle.std.specs.List.{list_any}
use Rattle.salus_types.specs.Volume.{Shape}
use Rattle.salus_types.specs.declared.records.Header.{Header}
use Rattle.std.proofs.lemmas.Bool.{eq-eqb}
use Rattle.replica_rules.specs.Views.{led_by}
use Rattle.replica_rules.specs.Voting.{Votes, Claims, share_place}
use Rattle.replica_rules.specs.Leading.{Leader, put_header, is_passed, with_header, is_certified, advance}
use Rattle.unanimous_certificate.specs.Kept.{votes_in, claims_in}
use Rattle.pipelined_commit.specs.Noting.{Noted, noted_of, without_place, put_note, with_note, may_claim}
use Rattle.pipelined_commit.specs.Standing.{KeptLeader, StandsFor, Follows}

any_noted : (test : Noted → Bool) (hs : List Header) → list_any test (map noted_of hs) ≡ list_any (λ h. test (noted_of h)) hs
any_noted test [] = refl
any_noted test (h ∷ hs) = ap (λ b. test (noted_of h) || b) (any_noted test hs)

filter_noted : (test : Noted → Bool) (hs : List Header) → map noted_of (filter (λ h. test (noted_of h)) hs) ≡ filter test (map noted_of hs)
filter_noted test [] = refl
filter_noted test (h ∷ hs) =
    elim (test (noted_of h)) as (λ b. map noted_of (if b then h ∷ filter (λ x. test (noted_of x)) hs else filter (λ x. test (noted_of x)) hs) ≡ (if b then noted_of h ∷ filter test (map noted_of hs) else filter test (map noted_of hs))) [
      | true ↦ ap (λ l. noted_of h ∷ l) (filter_noted test hs)
      | false ↦ filter_noted test hs
    ]

put_noted : (hs : List Header) (h : Header) → map noted_of (put_header hs h) ≡ put_note (map noted_of hs) (noted_of h)
unfolding put_header put_note
put_noted [] h = refl
put_noted (o ∷ hs) h =
    elim (nat_lt h.seq o.seq) as (λ b. map noted_of (if b then h ∷ o ∷ hs else o ∷ put_header hs h) ≡ (if b then noted_of h ∷ noted_of o ∷ map noted_of hs else noted_of o ∷ put_note (map noted_of hs) (noted_of h))) [
      | true ↦ refl
      | false ↦ ap (λ l. noted_of o ∷ l) (put_noted hs h)
    ]

-- a header is noted as its note is
pub with_noted : (hs : List Header) (h : Header) → map noted_of (with_header hs h) ≡ with_note (map noted_of hs) (noted_of h)
with_noted hs h =
    let others : List Header = filter (λ other. not (share_place other.seq h.seq)) hs in
    let as_notes : List Noted = put_note (without_place (map noted_of hs) h.seq) (noted_of h) in
    let put : map noted_of (put_header others h) ≡ as_notes =
    put_noted others h ∙ ap (λ l. put_note l (noted_of h)) (filter_noted (λ n. not (share_place n.seq h.seq)) hs) in
    let choice : map noted_of (if is_passed hs h then hs else put_header others h) ≡ (if is_passed hs h then map noted_of hs else as_notes) =
    elim (is_passed hs h) as (λ b. map noted_of (if b then hs else put_header others h) ≡ (if b then map noted_of hs else as_notes)) [ true ↦ refl | false ↦ put ] in
    choice ∙ ap (λ b. if b then map noted_of hs else as_notes) (sym (any_noted (λ n. share_place n.seq h.seq && nat_le h.seq n.seq) hs))

find_noted : (test : Noted → Bool) (hs : List Header) → option_map (λ (n : Noted). n.seq) (find test (map noted_of hs)) ≡ option_map (λ (h : Header). h.seq) (find (λ h. test (noted_of h)) hs)
find_noted test [] = refl
find_noted test (h ∷ hs) =
    elim (test (noted_of h)) as (λ b. option_map (λ (n : Noted). n.seq) (if b then Some (noted_of h) else find test (map noted_of hs)) ≡ option_map (λ (x : Header). x.seq) (if b then Some h else find (λ x. test (noted_of x)) hs)) [
      | true ↦ refl
      | false ↦ find_noted test hs
    ]

-- the first number that may be claimed
abbrev pub first_number : Shape → ℕ → ℕ → Votes → Claims → List Noted → Option ℕ
first_number shape base front votes claims notes = option_map (λ (n : Noted). n.seq) (find (λ n. may_claim shape base front votes claims n) notes)

-- is that of the rules
pub first_is_advance : (kept : KeptLeader) (leader : Leader) → StandsFor kept leader
    → first_number kept.shape kept.base kept.front (votes_in kept.votes) (claims_in kept.claims) kept.noted ≡ option_map (λ (h : Header). h.seq) (advance kept.shape leader)
unfolding is_certified
first_is_advance kept leader stands =
    ap (λ x. first_number kept.shape x kept.front (votes_in kept.votes) (claims_in kept.claims) kept.noted) stands.base
    ∙ ap (λ x. first_number kept.shape leader.base x (votes_in kept.votes) (claims_in kept.claims) kept.noted) stands.front
    ∙ ap (λ x. first_number kept.shape leader.base leader.front x (claims_in kept.claims) kept.noted) stands.votes
    ∙ ap (λ x. first_number kept.shape leader.base leader.front leader.votes x kept.noted) stands.claims
    ∙ ap (λ x. first_number kept.shape leader.base leader.front leader.votes leader.claims x) stands.noted
    ∙ find_noted (λ n. may_claim kept.shape leader.base leader.front leader.votes leader.claims n) leader.noted

-- a header was held
pub holds : (kept now : KeptLeader) → kept ≡ now → (h : Header) (notes : List Noted) → led_by h ≡ kept.region → notes ≡ with_note kept.noted (noted_of h)
    → Follows (λ leader. record leader { noted = (if led_by h == now.region then with_header leader.noted h else leader.noted) }) now (record kept { noted = notes })
holds kept now same h notes led noted = λ leader stands.
    let test : (led_by h == now.region) ≡ true = eq-eqb (led_by h) now.region (led ∙ ap (λ (k : KeptLeader). k.region) same) in
    let before : kept.noted ≡ map noted_of leader.noted = ap (λ (k : KeptLeader). k.noted) same ∙ stands.noted in
    record {
      base = ap (λ (k : KeptLeader). k.base) same ∙ stands.base;
      front = ap (λ (k : KeptLeader). k.front) same ∙ stands.front;
      noted =
          noted ∙ ap (λ l. with_note l (noted_of h)) before ∙ sym (with_noted leader.noted h)
          ∙ sym (ap (λ b. map noted_of (if b then with_header leader.noted h else leader.noted)) test);
      votes = ap (λ (k : KeptLeader). votes_in k.votes) same ∙ stands.votes;
      claims = ap (λ (k : KeptLeader). claims_in k.claims) same ∙ stands.claims;
    }

-- what the program finds is what the rules give
pub given_is : (kept now : KeptLeader) → kept ≡ now → (notes : List Noted) → notes ≡ kept.noted → (given : Option ℕ)
    → given ≡ first_number kept.shape kept.base kept.front (votes_in kept.votes) (claims_in kept.claims) notes
    → (leader : Leader) → StandsFor now leader → given ≡ option_map (λ (h : Header). h.seq) (advance now.shape leader)
given_is kept now same notes all given is leader stands =
    let stands_too : StandsFor kept leader = subst (λ k. StandsFor k leader) (sym same) stands in
    is ∙ ap (λ l. first_number kept.shape kept.base kept.front (votes_in kept.votes) (claims_in kept.claims) l) all ∙ first_is_advance kept leader stands_too
    ∙ ap (λ (k : KeptLeader). option_map (λ (h : Header). h.seq) (advance k.shape leader)) same

-- ---- every leader of the program stands for one of the rules

abbrev header_with : Noted → Header
header_with n = record {
  version = 0;
  session = 0;
  seq = n.seq;
  region = 0;
  previous = 0;
  leader_before = n.leader_before;
  fronts = [];
  touched = n.touched;
  root = [];
  top = [];
}

noted_again : (notes : List Noted) → notes ≡ map noted_of (map header_with notes)
noted_again [] = refl
noted_again (n ∷ notes) = ap (λ l. n ∷ l) (noted_again notes)

pub StandsFor-some : (kept : KeptLeader) → (leader : Leader) × StandsFor kept leader
StandsFor-some kept = (
  record { base = kept.base; front = kept.front; noted = map header_with kept.noted; votes = votes_in kept.votes; claims = claims_in kept.claims },
  record { base = refl; front = refl; noted = noted_again kept.noted; votes = refl; claims = refl },
)
