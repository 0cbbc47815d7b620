-- Early parts are taken in their turn, as long as each goes on from the one before.
use Rattle.std.proofs.Common.{◌≡◌, ◌∙◌, inl, inr, ⊎_elim, ℕ, zero, suc, ◌<◌, ◌≤◌, ◌==◌, not, nat_le, Bool, true, false, if◌then◌else◌, List, [], ◌∷◌, length, Option, None, Some, refl, sym, ap, subst, arith, eqb-true}
use Rattle.std.specs.Prelude.{filter, find}
use Rattle.std.specs.Option.{option_map_or}
use Rattle.std.specs.List.{AllByRecursion}
use Rattle.std.proofs.lemmas.Bool.{leb-true, leb-false, true≢false, eq-eqb, not_from_false, not_from_true}
use Rattle.salus_types.specs.Volume.{Shape}
use Rattle.salus_types.specs.declared.records.Record.{Record}
use Rattle.merkle_region.specs.Tree.{IsAmong}
use Rattle.replica_rules.specs.Views.{View, view_after, is_accepted}
use Rattle.replica_rules.specs.Replicas.{Replica, with_view, has_early, KeptTaken, next_kept, without_kept, take_out, take_kept, no_more, after_part, kept_in_turn, all_kept_in_turn}
use Rattle.list_lemmas.proofs.Each.{either_way}
use Rattle.list_lemmas.proofs.Members.{among_all, all_among, among_filter, among_filter-in, find_among, any_among, any_from}
use Rattle.list_lemmas.proofs.Tests.{by_bool, way_with}
use Rattle.law_answers.specs.Turning.{IsChain, IsInTurn, HasCome, GoesOn}

pub none_found : {A : Type 0} (test : A → Bool) (xs : List A) → find test xs ≡ None → AllByRecursion (λ x. test x ≡ false) xs
none_found test [] is = tt
none_found test (x ∷ xs) is =
    by_bool (test x) (AllByRecursion (λ y. test y ≡ false) (x ∷ xs))
    (λ hit. absurd (some_none x (sym (ap (λ t. if t then Some x else find test xs) hit) ∙ is)))
    (λ miss. (miss, none_found test xs (sym (ap (λ t. if t then Some x else find test xs) miss) ∙ is)))
  where
    some_none : {A : Type 0} (y : A) → Some y ≡ None → ⊥
    some_none y is = cc

fewer_left : {A : Type 0} (test : A → Bool) (xs : List A) → length (filter test xs) ≤ length xs
fewer_left test [] = omega arith
fewer_left test (x ∷ xs) =
    let rest : length (filter test xs) ≤ length xs = fewer_left test xs in
    either_way (test x) (x ∷ filter test xs) (filter test xs) (λ l. length l ≤ suc (length xs)) (omega (arith, rest)) (omega (arith, rest))

-- where one of them fails, fewer are left
fewer : {A : Type 0} (test : A → Bool) (xs : List A) (x : A) → IsAmong x xs → test x ≡ false → length (filter test xs) < length xs
fewer test [] x among fails = absurd among
fewer test (y ∷ xs) x among fails =
    way_with (test y) (y ∷ filter test xs) (filter test xs) (λ l. length l < suc (length xs))
    (λ hit. ⊎_elim (λ (is : x ≡ y). absurd (true≢false (sym hit ∙ (sym (ap test is) ∙ fails))))
    (λ (in_rest : IsAmong x xs). let less : length (filter test xs) < length xs = fewer test xs x in_rest fails in omega (arith, less)) among)
    (λ miss. let rest : length (filter test xs) ≤ length xs = fewer_left test xs in omega (arith, rest))

module _ (shape : Shape) (IsPart : Record → Type 0) (IsView : View → Type 0) (chain : IsChain shape IsPart IsView) where
  abbrev pub InTurn : Replica → Type 0
  InTurn r = IsInTurn IsPart IsView r

  abbrev pub On : Replica → Replica → Type 0
  On before after = GoesOn IsPart before after

  pub on_same : (r : Replica) → On r r
  on_same r = record { session = refl; rises = omega arith; come = λ rec part come. come }

  pub on_on : (a b c : Replica) → On a b → On b c → On a c
  on_on a b c x y = record {
    session = y.session ∙ x.session;
    rises = let up = x.rises in let more = y.rises in omega (arith, up, more);
    come = λ rec part come. y.come rec part (x.come rec part come);
  }

  -- between two turns an early part may go on from the view
  pub record IsBetween (r : Replica) : Type 0 where
    pub view : IsView r.view
    pub early : AllByRecursion (λ rec. IsPart rec × (r.view.number ≤ rec.header.previous)) r.early

  -- ---- one turn

  data Turned (r : Replica) (t : KeptTaken) : Type 0 where
    Ends : t.part ≡ None → InTurn t.replica → On r t.replica → Turned r t
    Takes : (rec : Record) → t.part ≡ Some rec → IsBetween t.replica → On r t.replica → length t.replica.early < length r.early → Turned r t

  module _ (r : Replica) (b : IsBetween r) where
    ends : next_kept r ≡ None → InTurn r
    ends none = record {
      view = b.view;
      early = all_among (λ rec. IsPart rec × (r.view.number < rec.header.previous)) r.early (λ rec among.
          let of = among_all (λ (e : Record). IsPart e × (r.view.number ≤ e.header.previous)) r.early rec among b.early in
          let low : r.view.number ≤ rec.header.previous = of.1 in
          let other : (rec.header.previous == r.view.number) ≡ false = among_all (λ (e : Record). (e.header.previous == r.view.number) ≡ false) r.early rec among (none_found (λ (e : Record). e.header.previous == r.view.number) r.early none) in (
            of.0,
            by_bool (nat_le rec.header.previous r.view.number) (r.view.number < rec.header.previous)
                (λ le. let high : rec.header.previous ≤ r.view.number = leb-true rec.header.previous r.view.number le in absurd (true≢false (sym (eq-eqb rec.header.previous r.view.number (omega arith)) ∙ other)))
                (λ gt. leb-false rec.header.previous r.view.number gt),
          ));
    }

    module _ (rec : Record) (among : IsAmong rec r.early) (goes : (rec.header.previous == r.view.number) ≡ true) where
      abbrev left : Replica
      left = with_view (without_kept r) (view_after shape r.view rec)

      part : IsPart rec
      part = (among_all (λ (e : Record). IsPart e × (r.view.number ≤ e.header.previous)) r.early rec among b.early).0

      is : rec.header.previous ≡ r.view.number
      is = eqb-true rec.header.previous r.view.number goes

      come_left : (other : Record) → IsPart other → HasCome other r → HasCome other left
      come_left other mine come =
          let up : rec.header.previous < rec.header.seq = chain.rises rec part in
          let at : rec.header.previous ≡ r.view.number = is in
          ⊎_elim (λ (known : other.header.seq ≤ r.view.number). inl (omega (arith, known, up, at)))
          (λ (kept : has_early r.early other.header.previous ≡ true).
          by_bool (other.header.previous == r.view.number) (HasCome other left)
          (λ same. let one : other.header.seq ≡ rec.header.seq = chain.one other rec mine part (eqb-true other.header.previous r.view.number same ∙ sym is) in inl (omega (arith, one)))
          (λ apart.
          let e = any_among (λ (e : Record). e.header.previous == other.header.previous) r.early kept in
          let eq : e.0.header.previous ≡ other.header.previous = eqb-true e.0.header.previous other.header.previous e.2 in
          inr (any_from (λ (e : Record). e.header.previous == other.header.previous) e.0 (without_kept r).early
          (among_filter-in (λ (e : Record). not (e.header.previous == r.view.number)) r.early e.0 e.1 (not_from_false (e.0.header.previous == r.view.number) (ap (λ (n : ℕ). n == r.view.number) eq ∙ apart))) e.2))) come

      between_left : IsBetween left
      between_left = record {
        view = chain.after r.view rec b.view part is;
        early = all_among (λ (e : Record). IsPart e × (rec.header.seq ≤ e.header.previous)) (without_kept r).early (λ e inside.
            let split = among_filter (λ (e : Record). not (e.header.previous == r.view.number)) e r.early inside in
            let of = among_all (λ (e : Record). IsPart e × (r.view.number ≤ e.header.previous)) r.early e split.0 b.early in
            let low : r.view.number ≤ e.header.previous = of.1 in
            let at : rec.header.previous ≡ r.view.number = is in (
              of.0,
              by_bool (nat_le e.header.previous r.view.number) (rec.header.seq ≤ e.header.previous)
                  (λ le. let high : e.header.previous ≤ r.view.number = leb-true e.header.previous r.view.number le in
                  absurd (true≢false (sym split.1 ∙ not_from_true (e.header.previous == r.view.number) (eq-eqb e.header.previous r.view.number (omega arith)))))
                  (λ gt. let more : r.view.number < e.header.previous = leb-false e.header.previous r.view.number gt in chain.apart rec e part of.0 (omega (arith, more, at))),
            ));
      }

      takes_out : Turned r (take_out shape r rec)
      takes_out =
          way_with (is_accepted shape r.view rec) (record { replica = left; part = Some rec }) (record { replica = without_kept r; part = None }) (Turned r)
          (λ _. Takes rec refl between_left (record {
            session = refl;
            rises = let up : rec.header.previous < rec.header.seq = chain.rises rec part in let at : rec.header.previous ≡ r.view.number = is in omega (arith, up, at);
            come = come_left;
          }) (fewer (λ (e : Record). not (e.header.previous == r.view.number)) r.early rec among (not_from_true (rec.header.previous == r.view.number) goes)))
          (λ refused. absurd (true≢false (sym (chain.accepts r.view rec b.view part is) ∙ refused)))

    by_next : (o : Option Record) → next_kept r ≡ o → Turned r (option_map_or (λ rec. take_out shape r rec) o (record { replica = r; part = None }))
    by_next None none = Ends refl (ends none) (on_same r)
    by_next (Some rec) found = let there = find_among (λ (e : Record). e.header.previous == r.view.number) rec r.early found in takes_out rec there.0 there.1

    turned : Turned r (take_kept shape r)
    unfolding take_kept
    turned = by_next (next_kept r) refl

  -- ---- all turns

  pub record IsDone (r after : Replica) : Type 0 where
    pub turn : InTurn after
    pub on : On r after

  none_early : (r : Replica) → IsBetween r → length r.early ≤ zero → InTurn r
  none_early r b few = record { view = b.view; early = of r.early few } where
    of : (early : List Record) → length early ≤ zero → AllByRecursion (λ rec. IsPart rec × (r.view.number < rec.header.previous)) early
    of [] few = tt
    of (rec ∷ early) few = absurd (omega (arith, few))

  turns_done : (n : ℕ) (r : Replica) → IsBetween r → length r.early ≤ n → IsDone r (kept_in_turn shape n r).replica
  unfolding kept_in_turn
  turns_done zero r b few = record { turn = none_early r b few; on = on_same r }
  turns_done (suc n) r b few =
      let t : KeptTaken = take_kept shape r in
      elim (turned r b) [
        | Ends none turn on ↦ subst (λ (o : Option Record). IsDone r (option_map_or (λ rec. after_part rec (kept_in_turn shape n t.replica)) o (no_more t.replica)).replica) (sym none) (record { turn = turn; on = on })
        | Takes rec some between on less ↦ subst (λ (o : Option Record). IsDone r (option_map_or (λ rec. after_part rec (kept_in_turn shape n t.replica)) o (no_more t.replica)).replica) (sym some)
            (let more = turns_done n t.replica between (omega (arith, less, few)) in record { turn = more.turn; on = on_on r t.replica _ on more.on })
      ]

  pub all_done : (r : Replica) → IsBetween r → IsDone r (all_kept_in_turn shape r).replica
  all_done r b = turns_done (length r.early) r b (omega arith)
