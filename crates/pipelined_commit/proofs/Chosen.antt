-- What `advance` gives, and what it leaves.
use Rattle.std.proofs.Common.{◌≡◌, ◌∙◌, ℕ, ◌<◌, ◌≤◌, ◌+◌, ◌^◌, ◌==◌, Bool, true, false, ◌&&◌, if◌then◌else◌, nat_lt, nat_le, List, [], ◌∷◌, map, length, Option, None, Some, ⊎_elim, refl, sym, ap, subst, arith}
use Rattle.std.specs.Prelude.{find, flat_map, ◌++◌}
use Rattle.std.specs.Option.{option_map, IfSome, IsSomeAnd, MatchOption}
use Rattle.std.specs.List.{AllByRecursion, list_all, list_any}
use Rattle.std.proofs.Math.Nat.{pow-le-pow_right}
use Rattle.std.proofs.lemmas.Bool.{true≢false, ltb-true, ltb-false, lt-ltb, le-ltb, leb-true, and_parts, and_from}
use Rattle.salus_types.specs.Volume.{Shape, regions}
use Rattle.salus_types.specs.declared.records.Header.{Header}
use Rattle.merkle_region.specs.Tree.{IsAmong}
use Rattle.holding_model.specs.Fitting.{ascends_from}
use Rattle.replica_rules.specs.Views.{header_is_right}
use Rattle.replica_rules.specs.Voting.{Votes, Claims, share_place, is_unanimous}
use Rattle.replica_rules.specs.Leading.{Leader, is_after_claimed, is_certified, advance, all_certified, front_after}
use Rattle.replica_rules.proofs.Advancing.{first_of, advance-first, Ascends, advance-rest}
use Rattle.pipelined_commit.specs.Noting.{Noted, noted_of, IsNoted}
use Rattle.pipelined_commit.specs.Standing.{KeptLeader, StandsFor, MayBeClaimed, IsClaimable, IsFirst}
use Rattle.list_lemmas.proofs.Each.{all_then, OfSome}
use Rattle.list_lemmas.proofs.Tests.{by_bool, way_with}
use Rattle.list_lemmas.proofs.Members.{found_among, among_all, among_map-in}

-- ---- what it gives was certified

certified_parts : (shape : Shape) (leader : Leader) (h : Header) → IsAmong h leader.noted → is_certified shape leader h ≡ true → MayBeClaimed shape leader h
unfolding is_certified
certified_parts shape leader h among pass =
    let outer = and_parts (nat_lt leader.front h.seq && is_unanimous shape leader.votes h.seq h.touched) (is_after_claimed shape leader h) pass in
    let inner = and_parts (nat_lt leader.front h.seq) (is_unanimous shape leader.votes h.seq h.touched) outer.0 in
    record { noted = among; past = ltb-true leader.front h.seq inner.0; unanimous = inner.1; after = outer.1 }

certified_from : (shape : Shape) (leader : Leader) (h : Header) → MayBeClaimed shape leader h → is_certified shape leader h ≡ true
unfolding is_certified
certified_from shape leader h may =
    and_from (nat_lt leader.front h.seq && is_unanimous shape leader.votes h.seq h.touched) (is_after_claimed shape leader h)
    (and_from (nat_lt leader.front h.seq) (is_unanimous shape leader.votes h.seq h.touched) (lt-ltb leader.front h.seq may.past) may.unanimous) may.after

-- what `advance` gives may be claimed
pub advance-claimable : (shape : Shape) (leader : Leader) (h : Header) → advance shape leader ≡ Some h → MayBeClaimed shape leader h
advance-claimable shape leader h is =
    let found : IsAmong h leader.noted × (is_certified shape leader h ≡ true) = subst (λ o. OfSome (λ x. IsAmong x leader.noted × (is_certified shape leader x ≡ true)) o) is (found_among (λ x. is_certified shape leader x) leader.noted) in
    certified_parts shape leader h found.0 found.1

pub given_claimable : (shape : Shape) (leader : Leader) (given : Option ℕ) → given ≡ option_map (λ (h : Header). h.seq) (advance shape leader) → IfSome given (IsClaimable shape leader)
given_claimable shape leader given is = subst (λ o. IfSome o (IsClaimable shape leader)) (sym is) (by_option (advance shape leader) refl) where
  by_option : (o : Option Header) → advance shape leader ≡ o → IfSome (option_map (λ (h : Header). h.seq) o) (IsClaimable shape leader)
  by_option None are = tt
  by_option (Some h) are = (h, advance-claimable shape leader h are, refl)

-- where a header passes the test, the first that does has at most its number
first_least : (test : Header → Bool) (hs : List Header) (h : Header) → IsNoted (map noted_of hs) → IsAmong h hs → test h ≡ true
    → IsSomeAnd (option_map (λ (x : Header). x.seq) (find test hs)) (λ s. s ≤ h.seq)
unfolding IsNoted
first_least test [] h noted among pass = absurd among
first_least test (x ∷ hs) h noted among pass =
    way_with (test x) (Some x) (find test hs) (λ o. IsSomeAnd (option_map (λ (y : Header). y.seq) o) (λ s. s ≤ h.seq))
    (λ here.
    ⊎_elim
    (λ (same : h ≡ x). let at : h.seq ≡ x.seq = ap (λ (y : Header). y.seq) same in let most : x.seq ≤ h.seq = omega arith in most)
    (λ (more : IsAmong h hs).
    let behind : (x.seq < h.seq) × (share_place x.seq h.seq ≡ false) =
    among_all (λ (o : Noted). (x.seq < o.seq) × (share_place x.seq o.seq ≡ false)) (map noted_of hs) (noted_of h) (among_map-in noted_of hs h more) noted.0 in
    let most : x.seq ≤ h.seq = omega (arith, behind.0) in
    most)
    among)
    (λ fail.
    ⊎_elim
    (λ (same : h ≡ x). absurd (true≢false (sym pass ∙ ap test same ∙ fail)))
    (λ (more : IsAmong h hs). first_least test hs h noted.1 more pass)
    among)

-- of those that may be claimed `advance` gives the least
pub given_least : (kept now : KeptLeader) → kept ≡ now → IsNoted kept.noted → (given : Option ℕ) (leader : Leader) (h : Header) → StandsFor now leader
    → given ≡ option_map (λ (x : Header). x.seq) (advance now.shape leader) → MayBeClaimed now.shape leader h → IsSomeAnd given (λ s. s ≤ h.seq)
given_least kept now same noted given leader h stands is may =
    let rising : IsNoted (map noted_of leader.noted) = subst (λ l. IsNoted l) (ap (λ (k : KeptLeader). k.noted) same ∙ stands.noted) noted in
    subst (λ o. IsSomeAnd o (λ s. s ≤ h.seq)) (sym is)
    (first_least (λ x. is_certified now.shape leader x) leader.noted h rising may.noted (certified_from now.shape leader h may))

-- ---- what it leaves

ascends : (low : ℕ) (hs : List Header) → AllByRecursion (λ (o : Noted). low < o.seq) (map noted_of hs) → IsNoted (map noted_of hs) → Ascends low hs
unfolding Ascends IsNoted
ascends low [] all noted = tt
ascends low (h ∷ hs) all noted = (all.0, ascends h.seq hs (all_then (λ (o : Noted). (h.seq < o.seq) × (share_place h.seq o.seq ≡ false)) (λ o. h.seq < o.seq) (λ o both. both.0) (map noted_of hs) noted.0) noted.1)

abbrev leader_with : ℕ → ℕ → List Header → Votes → Claims → Leader
leader_with base front hs votes claims = record { base = base; front = front; noted = hs; votes = votes; claims = claims }

-- a header numbered 0 is never certified
zero_out : (shape : Shape) (base front : ℕ) (x : Header) (hs : List Header) (votes : Votes) (claims : Claims) → x.seq ≤ 0
    → all_certified shape (leader_with base front (x ∷ hs) votes claims) ≡ all_certified shape (leader_with base front hs votes claims)
unfolding is_certified
zero_out shape base front x hs votes claims low =
    let leader = leader_with base front (x ∷ hs) votes claims in
    let out : nat_lt front x.seq ≡ false = le-ltb front x.seq (omega arith) in
    ap (λ b. if b && is_unanimous shape votes x.seq x.touched && is_after_claimed shape leader x then x ∷ all_certified shape (leader_with base front hs votes claims) else all_certified shape (leader_with base front hs votes claims)) out

rest_certified : (shape : Shape) (base front : ℕ) (hs : List Header) (votes : Votes) (claims : Claims) (h : Header) (rest : List Header) → IsNoted (map noted_of hs)
    → all_certified shape (leader_with base front hs votes claims) ≡ h ∷ rest → all_certified shape (leader_with base h.seq hs votes claims) ≡ rest
unfolding IsNoted Ascends
rest_certified shape base front [] votes claims h rest noted is = cc
rest_certified shape base front (x ∷ hs) votes claims h rest noted is =
    let later : AllByRecursion (λ (o : Noted). x.seq < o.seq) (map noted_of hs) =
    all_then (λ (o : Noted). (x.seq < o.seq) × (share_place x.seq o.seq ≡ false)) (λ o. x.seq < o.seq) (λ o both. both.0) (map noted_of hs) noted.0 in
    by_bool (nat_lt 0 x.seq) (all_certified shape (leader_with base h.seq (x ∷ hs) votes claims) ≡ rest)
    (λ pass. advance-rest shape (leader_with base front (x ∷ hs) votes claims) 0 h rest (ltb-true 0 x.seq pass, ascends x.seq hs later noted.1) is)
    (λ fail.
    let low : x.seq ≤ 0 = ltb-false 0 x.seq fail in
    let up : AllByRecursion (λ (o : Noted). 0 < o.seq) (map noted_of hs) = all_then (λ (o : Noted). x.seq < o.seq) (λ o. 0 < o.seq) (λ o less. omega arith) (map noted_of hs) later in
    zero_out shape base h.seq x hs votes claims low
    ∙ advance-rest shape (leader_with base front hs votes claims) 0 h rest (ascends 0 hs up noted.1) (sym (zero_out shape base front x hs votes claims low) ∙ is))

-- a loop that advances until nothing is given goes through all that are certified
pub advance-steps : (kept : KeptLeader) (leader : Leader) → StandsFor kept leader → IsNoted kept.noted → (given : Option ℕ) → given ≡ option_map (λ (h : Header). h.seq) (advance kept.shape leader)
    → MatchOption given (all_certified kept.shape leader ≡ []) (IsFirst kept.shape leader)
advance-steps kept leader stands noted given is =
    subst (λ o. MatchOption o (all_certified kept.shape leader ≡ []) (IsFirst kept.shape leader))
    (sym (is ∙ ap (λ o. option_map (λ (h : Header). h.seq) o) (advance-first kept.shape leader)))
    (by_list (all_certified kept.shape leader) refl)
  where
    by_list : (cs : List Header) → all_certified kept.shape leader ≡ cs
        → MatchOption (option_map (λ (h : Header). h.seq) (first_of cs)) (all_certified kept.shape leader ≡ []) (IsFirst kept.shape leader)
    by_list [] are = are
    by_list (h ∷ rest) are = record {
      header = h;
      rest = rest;
      certified = are;
      number = refl;
      left = rest_certified kept.shape leader.base leader.front leader.noted leader.votes leader.claims h rest (subst (λ l. IsNoted l) stands.noted noted) are;
    }

-- so what the program gives goes through them
pub given_steps : (kept now : KeptLeader) → kept ≡ now → IsNoted kept.noted → (given : Option ℕ) (leader : Leader) → StandsFor now leader
    → given ≡ option_map (λ (h : Header). h.seq) (advance now.shape leader) → MatchOption given (all_certified now.shape leader ≡ []) (IsFirst now.shape leader)
given_steps kept now same noted given leader stands is = advance-steps now leader stands (subst (λ (k : KeptLeader). IsNoted k.noted) same noted) given is

-- The loop's step: what goes out for all that are certified is what goes out for the first, then for the others.
pub first-flat_map : {X : Type 0} (f : ℕ → List X) (shape : Shape) (leader : Leader) (s : ℕ) → IsFirst shape leader s
    → flat_map (λ (h : Header). f h.seq) (all_certified shape leader) ≡ f s ++ flat_map (λ (h : Header). f h.seq) (all_certified shape (record leader { front = s }))
first-flat_map f shape leader s first =
    ap (λ l. flat_map (λ (h : Header). f h.seq) l) first.certified
    ∙ ap (λ n. f n ++ flat_map (λ (h : Header). f h.seq) first.rest) first.number
    ∙ ap (λ l. f s ++ flat_map (λ (h : Header). f h.seq) l) (sym first.left)

-- and the front after all is the one after the others
pub first-front_after : (shape : Shape) (leader : Leader) (s : ℕ) → IsFirst shape leader s
    → front_after leader.front (all_certified shape leader) ≡ front_after s (all_certified shape (record leader { front = s }))
unfolding front_after
first-front_after shape leader s first =
    ap (λ l. front_after leader.front l) first.certified ∙ ap (λ n. front_after n first.rest) first.number ∙ ap (λ l. front_after s l) (sym first.left)

pub none-front_after : (shape : Shape) (leader : Leader) → all_certified shape leader ≡ [] → front_after leader.front (all_certified shape leader) ≡ leader.front
unfolding front_after
none-front_after shape leader none = ap (λ l. front_after leader.front l) none

-- ---- a header of the right shape touches at most 16 regions

long : (low bound : ℕ) (xs : List ℕ) → low ≤ bound → ascends_from low xs ≡ true → list_all (λ x. nat_lt x bound) xs ≡ true → low + length xs ≤ bound
unfolding ascends_from
long low bound [] low_in up within = omega arith
long low bound (x ∷ xs) low_in up within =
    let both = and_parts (nat_le low x) (ascends_from (x + 1) xs) up in
    let all = and_parts (nat_lt x bound) (list_all (λ y. nat_lt y bound) xs) within in
    let above : low ≤ x = leb-true low x both.0 in
    let below : x < bound = ltb-true x bound all.0 in
    let more : (x + 1) + length xs ≤ bound = long (x + 1) bound xs (omega arith) both.1 all.1 in
    omega arith

pub touches_few : (shape : Shape) (g : ℕ) (h : Header) → shape.regions_log ≤ 4 → header_is_right shape g h ≡ true → length h.touched ≤ 16
touches_few shape g h few right =
    let ascending : Bool = ascends_from 0 h.touched in
    let within : Bool = list_all (λ r. nat_lt r (regions shape)) h.touched in
    let here : Bool = list_any (λ r. r == g) h.touched in
    let counted : Bool = length h.fronts == regions shape in
    let last = and_parts (counted && (ascending && within && here) && nat_lt h.leader_before (regions shape)) (nat_lt h.previous h.seq) right in
    let third = and_parts (counted && (ascending && within && here)) (nat_lt h.leader_before (regions shape)) last.0 in
    let second = and_parts counted (ascending && within && here) third.0 in
    let touches = and_parts (ascending && within) here second.1 in
    let first = and_parts ascending within touches.0 in
    let most : 0 + length h.touched ≤ regions shape = long 0 (regions shape) h.touched (omega arith) first.0 first.1 in
    let regions_few : 2 ^ shape.regions_log ≤ 2 ^ 4 = pow-le-pow_right (omega arith) few in
    omega arith
