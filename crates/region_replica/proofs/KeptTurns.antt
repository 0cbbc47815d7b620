-- What `take_kept` of the rules gives and leaves, and a loop that calls it.
use Rattle.std.proofs.Common.{◌≡◌, ◌∙◌, ℕ, zero, suc, ◌<◌, Bool, true, false, not, ◌||◌, if◌then◌else◌, List, [], ◌∷◌, ◌++◌, length, Option, None, Some, ⊎_elim, refl, sym, ap, subst, arith, append_assoc}
use Rattle.std.specs.Prelude.{find}
use Rattle.std.specs.Option.{option_map_or}
use Rattle.std.specs.List.{AllByRecursion}
use Rattle.std.proofs.lemmas.Bool.{or_parts, eqb-true, eq-eqb, true≢false}
use Rattle.salus_types.specs.Volume.{Shape}
use Rattle.salus_types.specs.declared.records.Record.{Record}
use Rattle.merkle_region.specs.Tree.{IsAmong}
use Rattle.holding_model.specs.Fitting.{record_fits}
use Rattle.replica_rules.specs.Views.{View, view_after, is_accepted}
use Rattle.replica_rules.specs.Replicas.{Replica, KeptTaken, next_kept, without_kept, take_out, take_kept, with_view, has_early, Applied, no_more, after_part, kept_in_turn, all_kept_in_turn}
use Rattle.region_replica.specs.Keeping.{IsApart, IsKept}
use Rattle.region_replica.specs.Serving.{Serving, IsFor, KeepsItsOwn, now_as}
use Rattle.region_replica.specs.Leading.{LeadTo}
use Rattle.region_replica.specs.Turning.{IsUp, IsTurn, IsNoTurn, IsKeptTaken}
use Rattle.region_replica.proofs.Apart.{goes_on, others, none-others}
use Rattle.region_replica.proofs.PartTelling.{own-shape, shape-fits, shape-rises}
use Rattle.list_lemmas.proofs.Each.{OfSome, all_filter}
use Rattle.list_lemmas.proofs.Tests.{by_bool}
use Rattle.list_lemmas.proofs.Members.{among_all, found_among}

-- ---- the one that goes on from a number

count_others : (number : ℕ) (parts : List Record) (rec : Record) → IsApart parts → find (goes_on number) parts ≡ Some rec → suc (length (others number parts)) ≡ length parts
unfolding IsApart
count_others number [] rec apart found = cc
count_others number (o ∷ parts) rec apart found =
    by_bool (goes_on number o) (suc (length (others number (o ∷ parts))) ≡ length (o ∷ parts))
    (λ pass.
    let at : o.header.previous ≡ number = eqb-true o.header.previous number pass in
    let none : has_early parts number ≡ false = subst (λ n. has_early parts n ≡ false) at apart.0 in
    ap (λ b. suc (length (if not b then o ∷ others number parts else others number parts))) pass ∙ ap (λ l. suc (length l)) (none-others number parts none))
    (λ fail.
    let later : find (goes_on number) parts ≡ Some rec = sym (ap (λ b. if b then Some o else find (goes_on number) parts) fail) ∙ found in
    ap (λ b. suc (length (if not b then o ∷ others number parts else others number parts))) fail ∙ ap (λ n. suc n) (count_others number parts rec apart.1 later))

none_among : (number : ℕ) (parts : List Record) (rec : Record) → has_early parts number ≡ false → IsAmong rec parts → rec.header.previous ≡ number → ⊥
none_among number [] rec none among at = among
none_among number (o ∷ parts) rec none among at =
    let both = or_parts (goes_on number o) (has_early parts number) none in
    ⊎_elim
    (λ (same : rec ≡ o). true≢false (sym (eq-eqb o.header.previous number (sym (ap (λ (x : Record). x.header.previous) same) ∙ at)) ∙ both.0))
    (λ (more : IsAmong rec parts). none_among number parts rec both.1 more at)
    among

not_found : (number : ℕ) (parts : List Record) → find (goes_on number) parts ≡ None → has_early parts number ≡ false
not_found number [] none = refl
not_found number (o ∷ parts) none =
    by_bool (goes_on number o) (has_early (o ∷ parts) number ≡ false)
    (λ pass. let found : Some o ≡ None = sym (ap (λ b. if b then Some o else find (goes_on number) parts) pass) ∙ none in cc)
    (λ fail.
    ap (λ b. b || has_early parts number) fail
    ∙ not_found number parts (sym (ap (λ b. if b then Some o else find (goes_on number) parts) fail) ∙ none))

one_only : (number : ℕ) (parts : List Record) (a b : Record) → IsApart parts → find (goes_on number) parts ≡ Some a → IsAmong b parts → b.header.previous ≡ number → b ≡ a
unfolding IsApart
one_only number [] a b apart found among at = absurd among
one_only number (o ∷ parts) a b apart found among at =
    by_bool (goes_on number o) (b ≡ a)
    (λ pass.
    let here : Some o ≡ Some a = sym (ap (λ t. if t then Some o else find (goes_on number) parts) pass) ∙ found in
    let first : o ≡ a = cc in
    let on : o.header.previous ≡ number = eqb-true o.header.previous number pass in
    ⊎_elim (λ (same : b ≡ o). same ∙ first)
    (λ (more : IsAmong b parts). absurd (none_among number parts b (subst (λ n. has_early parts n ≡ false) on apart.0) more at)) among)
    (λ fail.
    ⊎_elim
    (λ (same : b ≡ o). absurd (true≢false (sym (eq-eqb o.header.previous number (sym (ap (λ (x : Record). x.header.previous) same) ∙ at)) ∙ fail)))
    (λ (more : IsAmong b parts). one_only number parts a b apart.1 (sym (ap (λ t. if t then Some o else find (goes_on number) parts) fail) ∙ found) more at)
    among)

-- ---- the three ways of `take_kept`

abbrev gives : Replica → Option Record → KeptTaken
gives r part = record { replica = r; part = part }

module _ (s : Serving) where
  abbrev r : Replica
  r = s.replica

  kept-none : next_kept r ≡ None → take_kept s.shape r ≡ gives r None
  unfolding take_kept
  kept-none none = ap (λ o. option_map_or (λ rec. take_out s.shape r rec) o (gives r None)) none

  kept-some : (rec : Record) → next_kept r ≡ Some rec → take_kept s.shape r ≡ take_out s.shape r rec
  unfolding take_kept
  kept-some rec found = ap (λ o. option_map_or (λ rec. take_out s.shape r rec) o (gives r None)) found

  abbrev moved : Record → Replica
  moved rec = with_view (without_kept r) (view_after s.shape r.view rec)

  kept-right : (rec : Record) → next_kept r ≡ Some rec → is_accepted s.shape r.view rec ≡ true → take_kept s.shape r ≡ gives (moved rec) (Some rec)
  kept-right rec found right = kept-some rec found ∙ ap (λ b. if b then gives (moved rec) (Some rec) else gives (without_kept r) None) right

  kept-wrong : (rec : Record) → next_kept r ≡ Some rec → is_accepted s.shape r.view rec ≡ false → take_kept s.shape r ≡ gives (without_kept r) None
  kept-wrong rec found wrong = kept-some rec found ∙ ap (λ b. if b then gives (moved rec) (Some rec) else gives (without_kept r) None) wrong

  -- ---- turns

  turn-some : (n : ℕ) (left : Replica) (rec : Record) → take_kept s.shape r ≡ gives left (Some rec) → kept_in_turn s.shape (suc n) r ≡ after_part rec (kept_in_turn s.shape n left)
  unfolding kept_in_turn
  turn-some n left rec is = ap (λ (t : KeptTaken). option_map_or (λ x. after_part x (kept_in_turn s.shape n t.replica)) t.part (no_more t.replica)) is

  turn-none : (n : ℕ) (left : Replica) → take_kept s.shape r ≡ gives left None → (n ≡ 0 → r ≡ left) → kept_in_turn s.shape n r ≡ no_more left
  unfolding kept_in_turn
  turn-none zero left is same = ap (λ x. no_more x) (same refl)
  turn-none (suc n) left is same = ap (λ (t : KeptTaken). option_map_or (λ x. after_part x (kept_in_turn s.shape n t.replica)) t.part (no_more t.replica)) is

  found-up : (rec : Record) → KeepsItsOwn s → next_kept r ≡ Some rec → is_accepted s.shape r.view rec ≡ true → IsUp s rec
  found-up rec own found right =
      let there = subst (λ o. OfSome (λ x. IsAmong x r.early × (goes_on r.view.number x ≡ true)) o) found (found_among (goes_on r.view.number) r.early) in
      record { kept = there.0; own = among_all (IsFor s) r.early rec there.0 own; next = eqb-true rec.header.previous r.view.number there.1; accepted = right }

  pub taken-none : next_kept r ≡ None → IsKeptTaken s s None
  unfolding LeadTo
  taken-none none = record {
    part = sym (ap (λ (t : KeptTaken). t.part) (kept-none none));
    state = sym (ap (λ (t : KeptTaken). now_as s t.replica) (kept-none none));
    turn = record {
      none = λ rec up. none_among r.view.number r.early rec (not_found r.view.number r.early none) up.kept up.next;
      last = turn-none (length r.early) r (kept-none none) (λ e. refl);
    };
    applied = refl;
    rises = omega arith;
  }

  pub taken-right : (rec : Record) → IsKept r.early → KeepsItsOwn s → next_kept r ≡ Some rec → is_accepted s.shape r.view rec ≡ true → IsKeptTaken s (now_as s (moved rec)) (Some rec)
  unfolding LeadTo
  taken-right rec kept own found right =
      let up : IsUp s rec = found-up rec own found right in
      let count : suc (length (others r.view.number r.early)) ≡ length r.early = count_others r.view.number r.early rec kept.apart found in
      let rising : rec.header.previous < rec.header.seq = shape-rises s.shape s.region rec (own-shape s rec up.own) in
      let at : rec.header.previous ≡ r.view.number = up.next in
      let above : r.view.number < rec.header.seq = omega arith in
      record {
        part = sym (ap (λ (t : KeptTaken). t.part) (kept-right rec found right));
        state = sym (ap (λ (t : KeptTaken). now_as s t.replica) (kept-right rec found right));
        turn = record {
          up = up;
          first = ap (λ n. kept_in_turn s.shape n r) (sym count) ∙ turn-some (length (others r.view.number r.early)) (moved rec) rec (kept-right rec found right);
          fewer = omega arith;
        };
        applied = (at, above, right, refl);
        rises = omega arith;
      }

  pub taken-wrong : (rec : Record) → IsKept r.early → next_kept r ≡ Some rec → is_accepted s.shape r.view rec ≡ false → IsKeptTaken s (now_as s (without_kept r)) None
  unfolding LeadTo
  taken-wrong rec kept found wrong =
      let count : suc (length (others r.view.number r.early)) ≡ length r.early = count_others r.view.number r.early rec kept.apart found in
      record {
        part = sym (ap (λ (t : KeptTaken). t.part) (kept-wrong rec found wrong));
        state = sym (ap (λ (t : KeptTaken). now_as s t.replica) (kept-wrong rec found wrong));
        turn = record {
          none = λ other up.
              let same : other ≡ rec = one_only r.view.number r.early rec other kept.apart found up.kept up.next in
              true≢false (sym up.accepted ∙ ap (λ x. is_accepted s.shape r.view x) same ∙ wrong);
          last = turn-none (length r.early) (without_kept r) (kept-wrong rec found wrong) (λ none. absurd (omega arith));
        };
        applied = refl;
        rises = omega arith;
      }

-- ---- as the program has it

module _ (kept now : Serving) (same : kept ≡ now) (number : ℕ) (at : number ≡ kept.replica.view.number) (apart : IsKept kept.replica.early) (own : KeepsItsOwn kept) where
  next_is : (o : Option Record) → o ≡ find (goes_on number) kept.replica.early → next_kept kept.replica ≡ o
  next_is o found = ap (λ n. find (goes_on n) kept.replica.early) (sym at) ∙ sym found

  pub take-none : None ≡ find (goes_on number) kept.replica.early → IsKeptTaken now now None
  take-none found = subst (λ (s : Serving). IsKeptTaken s s None) same (taken-none kept (next_is None found))

  pub take-right : (rec : Record) (part : Option Record) (view : View) (early : List Record) → Some rec ≡ find (goes_on number) kept.replica.early → part ≡ find (goes_on number) kept.replica.early
      → true ≡ is_accepted kept.shape kept.replica.view rec → view ≡ view_after kept.shape kept.replica.view rec → early ≡ others number kept.replica.early
      → IsKeptTaken now (now_as kept (record kept.replica { view = view; early = early })) part
  take-right rec part view early found given right after left =
      let made : IsKeptTaken kept (now_as kept (moved kept rec)) (Some rec) = taken-right kept rec apart own (next_is (Some rec) found) (sym right) in
      let early_is : early ≡ others kept.replica.view.number kept.replica.early = left ∙ ap (λ n. others n kept.replica.early) at in
      subst (λ (s : Serving). IsKeptTaken s (now_as kept (record kept.replica { view = view; early = early })) part) same
      (subst (λ o. IsKeptTaken kept (now_as kept (record kept.replica { view = view; early = early })) o) (found ∙ sym given)
      (subst (λ v. IsKeptTaken kept (now_as kept (record kept.replica { view = v; early = early })) (Some rec)) (sym after)
      (subst (λ l. IsKeptTaken kept (now_as kept (record kept.replica { view = view_after kept.shape kept.replica.view rec; early = l })) (Some rec)) (sym early_is) made)))

  pub take-wrong : (rec : Record) (view : View) (early : List Record) → Some rec ≡ find (goes_on number) kept.replica.early → false ≡ is_accepted kept.shape kept.replica.view rec
      → view ≡ kept.replica.view → early ≡ others number kept.replica.early → IsKeptTaken now (now_as kept (record kept.replica { view = view; early = early })) None
  take-wrong rec view early found wrong after left =
      let made : IsKeptTaken kept (now_as kept (without_kept kept.replica)) None = taken-wrong kept rec apart (next_is (Some rec) found) (sym wrong) in
      let early_is : early ≡ others kept.replica.view.number kept.replica.early = left ∙ ap (λ n. others n kept.replica.early) at in
      subst (λ (s : Serving). IsKeptTaken s (now_as kept (record kept.replica { view = view; early = early })) None) same
      (subst (λ v. IsKeptTaken kept (now_as kept (record kept.replica { view = v; early = early })) None) (sym after)
      (subst (λ l. IsKeptTaken kept (now_as kept (record kept.replica { early = l })) None) (sym early_is) made))

  -- by what was found when it was tried
  module _ (seen : Shape) (shown : seen ≡ kept.shape) (rec : Record) (found : Some rec ≡ find (goes_on number) kept.replica.early) (view : View) (early : List Record) (accepted : Bool)
      (tested : accepted ≡ is_accepted seen kept.replica.view rec) (after : view ≡ (if accepted then view_after seen kept.replica.view rec else kept.replica.view)) (left : early ≡ others number kept.replica.early) where
    pub take-accepted : (part : Option Record) → accepted ≡ true → part ≡ find (goes_on number) kept.replica.early → IsKeptTaken now (now_as kept (record kept.replica { view = view; early = early })) part
    take-accepted part on given =
        take-right rec part view early found given (sym on ∙ tested ∙ ap (λ shape. is_accepted shape kept.replica.view rec) shown)
        (after ∙ ap (λ b. if b then view_after seen kept.replica.view rec else kept.replica.view) on ∙ ap (λ shape. view_after shape kept.replica.view rec) shown) left

    pub take-refused : accepted ≡ false → IsKeptTaken now (now_as kept (record kept.replica { view = view; early = early })) None
    take-refused off =
        take-wrong rec view early found (sym off ∙ tested ∙ ap (λ shape. is_accepted shape kept.replica.view rec) shown)
        (after ∙ ap (λ b. if b then view_after seen kept.replica.view rec else kept.replica.view) off) left

  -- the part that is tried is its own
  pub found-own : (rec : Record) → Some rec ≡ find (goes_on number) kept.replica.early → IsFor kept rec
  found-own rec found =
      let there = subst (λ o. OfSome (λ x. IsAmong x kept.replica.early × (goes_on number x ≡ true)) o) (sym found) (found_among (goes_on number) kept.replica.early) in
      among_all (IsFor kept) kept.replica.early rec there.0 own

  pub kept-fits : (seen : Shape) → seen ≡ kept.shape → (rec : Record) → Some rec ≡ find (goes_on number) kept.replica.early → record_fits seen rec ≡ true
  kept-fits seen shown rec found = subst (λ shape. record_fits shape rec ≡ true) (sym shown) (shape-fits kept.shape kept.region rec (own-shape kept rec (found-own rec found)))

  -- and so are those that are left
  pub others-own : (view : View) (early : List Record) → early ≡ others number kept.replica.early → KeepsItsOwn (now_as kept (record kept.replica { view = view; early = early }))
  others-own view early left = subst (λ l. AllByRecursion (IsFor kept) l) (sym left) (all_filter (IsFor kept) (λ rec. not (goes_on number rec)) kept.replica.early own)

-- ---- a loop that takes kept parts until there is none

-- these parts came before
abbrev pub after_parts : List Record → Applied → Applied
after_parts parts applied = record applied { parts = parts ++ applied.parts }

pub turn-more : (whole : Applied) (parts : List Record) (before after : Serving) (rec : Record) → whole ≡ after_parts parts (all_kept_in_turn before.shape before.replica) → IsTurn before after rec
    → whole ≡ after_parts (parts ++ rec ∷ []) (all_kept_in_turn after.shape after.replica)
turn-more whole parts before after rec is turn =
    let rest : Applied = all_kept_in_turn after.shape after.replica in
    is ∙ ap (λ (a : Applied). after_parts parts a) turn.first ∙ ap (λ l. record rest { parts = l }) (sym (append_assoc parts (rec ∷ []) rest.parts))

pub turn-all : (whole : Applied) (parts : List Record) (before after : Serving) → whole ≡ after_parts parts (all_kept_in_turn before.shape before.replica) → IsNoTurn before after
    → whole ≡ record { replica = after.replica; parts = parts }
turn-all whole parts before after is none =
    is ∙ ap (λ (a : Applied). after_parts parts a) none.last ∙ ap (λ l. record { replica = after.replica; parts = l }) (append-nil parts)
  where
    append-nil : (l : List Record) → l ++ [] ≡ l
    append-nil [] = refl
    append-nil (x ∷ l) = ap (λ k. x ∷ k) (append-nil l)
