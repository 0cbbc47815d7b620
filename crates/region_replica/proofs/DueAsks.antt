-- The kept asks that are due, and a loop that answers them.
use Rattle.std.proofs.Common.{◌≡◌, ◌∙◌, ℕ, suc, ◌<◌, ◌≤◌, ◌==◌, Bool, true, false, not, if◌then◌else◌, nat_le, List, [], ◌∷◌, ◌++◌, map, length, Option, None, Some, ⊎_elim, refl, sym, ap, subst, arith, append_assoc}
use Rattle.std.specs.Prelude.{filter, find}
use Rattle.std.specs.List.{AllByRecursion}
use Rattle.std.proofs.lemmas.Bool.{leb-true, le-leb, lt-leb, ne_eqb, eq-eqb, true≢false}
use Rattle.salus_message.specs.declared.small.Ask.{Ask}
use Rattle.salus_message.specs.declared.replies.Answer.{Answer}
use Rattle.merkle_region.specs.Tree.{IsAmong}
use Rattle.replica_rules.specs.Replicas.{Replica, AskTaken, answer_to, is_asked_here, is_due, take_ask, with_ask, due_answers}
use Rattle.region_replica.specs.Keeping.{IsRising}
use Rattle.region_replica.specs.Serving.{Serving, now_as}
use Rattle.region_replica.specs.Asking.{IsAskTaken, IsDueAsk, without_ask, IsFirstDue, IsNoneDue}
use Rattle.list_lemmas.proofs.Each.{OfSome}
use Rattle.list_lemmas.proofs.Tests.{by_bool}
use Rattle.list_lemmas.proofs.Members.{among_all, found_among}

-- ---- the first that passes a test

abbrev left : List Ask → Ask → List Ask
left asks ask = filter (λ other. not (other.read == ask.read)) asks

above_left : (asks : List Ask) (ask : Ask) → AllByRecursion (λ (o : Ask). ask.read < o.read) asks → left asks ask ≡ asks
above_left [] ask all = refl
above_left (o ∷ asks) ask all =
    let above : ask.read < o.read = all.0 in
    ap (λ b. if not b then o ∷ left asks ask else left asks ask) (ne_eqb o.read ask.read (omega arith)) ∙ ap (λ l. o ∷ l) (above_left asks ask all.1)

-- it comes first of all that pass, those that don't pass stay, and one is taken out
pub record IsSplit (test : Ask → Bool) (asks : List Ask) (ask : Ask) : Type 0 where
  pub first : filter test asks ≡ ask ∷ filter test (left asks ask)
  pub waiting : filter (λ o. not (test o)) (left asks ask) ≡ filter (λ o. not (test o)) asks
  pub fewer : length (left asks ask) < length asks

split_here : (test : Ask → Bool) (o : Ask) (asks : List Ask) → AllByRecursion (λ (other : Ask). o.read < other.read) asks → test o ≡ true → IsSplit test (o ∷ asks) o
split_here test o asks above pass =
    let same : left (o ∷ asks) o ≡ asks = ap (λ b. if not b then o ∷ left asks o else left asks o) (eq-eqb o.read o.read refl) ∙ above_left asks o above in
    let count : length (left (o ∷ asks) o) ≡ length asks = ap length same in
    record {
      first = ap (λ b. if b then o ∷ filter test asks else filter test asks) pass ∙ ap (λ l. o ∷ filter test l) (sym same);
      waiting = ap (λ l. filter (λ x. not (test x)) l) same ∙ sym (ap (λ b. if not b then o ∷ filter (λ x. not (test x)) asks else filter (λ x. not (test x)) asks) pass);
      fewer = omega arith;
    }

split_later : (test : Ask → Bool) (o : Ask) (asks : List Ask) (ask : Ask) → o.read < ask.read → test o ≡ false → IsSplit test asks ask → IsSplit test (o ∷ asks) ask
split_later test o asks ask less fail split =
    let kept : left (o ∷ asks) ask ≡ o ∷ left asks ask = ap (λ b. if not b then o ∷ left asks ask else left asks ask) (ne_eqb o.read ask.read (omega arith)) in
    let count : length (left (o ∷ asks) ask) ≡ suc (length (left asks ask)) = ap length kept in
    let under : length (left asks ask) < length asks = split.fewer in
    record {
      first = ap (λ b. if b then o ∷ filter test asks else filter test asks) fail
          ∙ split.first
          ∙ sym (ap (λ l. ask ∷ filter test l) kept ∙ ap (λ b. ask ∷ (if b then o ∷ filter test (left asks ask) else filter test (left asks ask))) fail);
      waiting = ap (λ l. filter (λ x. not (test x)) l) kept
          ∙ ap (λ b. if not b then o ∷ filter (λ x. not (test x)) (left asks ask) else filter (λ x. not (test x)) (left asks ask)) fail
          ∙ ap (λ l. o ∷ l) split.waiting
          ∙ sym (ap (λ b. if not b then o ∷ filter (λ x. not (test x)) asks else filter (λ x. not (test x)) asks) fail);
      fewer = omega arith;
    }

module _ (test : Ask → Bool) where
  found_later : (o : Ask) (asks : List Ask) (ask : Ask) → test o ≡ false → find test (o ∷ asks) ≡ Some ask → find test asks ≡ Some ask
  found_later o asks ask fail found = sym (ap (λ b. if b then Some o else find test asks) fail) ∙ found

  found_here : (o : Ask) (asks : List Ask) (ask : Ask) → test o ≡ true → find test (o ∷ asks) ≡ Some ask → o ≡ ask
  found_here o asks ask pass found = let here : Some o ≡ Some ask = sym (ap (λ b. if b then Some o else find test asks) pass) ∙ found in cc

  is_among : (asks : List Ask) (ask : Ask) → find test asks ≡ Some ask → IsAmong ask asks × (test ask ≡ true)
  is_among asks ask found = subst (λ o. OfSome (λ x. IsAmong x asks × (test x ≡ true)) o) found (found_among test asks)

  splits : (asks : List Ask) (ask : Ask) → IsRising asks → find test asks ≡ Some ask → IsSplit test asks ask
  unfolding IsRising
  splits [] ask rising found = cc
  splits (o ∷ asks) ask rising found =
      by_bool (test o) (IsSplit test (o ∷ asks) ask)
      (λ pass. subst (λ x. IsSplit test (o ∷ asks) x) (found_here o asks ask pass found) (split_here test o asks rising.0 pass))
      (λ fail.
      let later : find test asks ≡ Some ask = found_later o asks ask fail found in
      let above : o.read < ask.read = among_all (λ (x : Ask). o.read < x.read) asks ask (is_among asks ask later).0 rising.0 in
      split_later test o asks ask above fail (splits asks ask rising.1 later))

  least_found : (asks : List Ask) (ask other : Ask) → IsRising asks → find test asks ≡ Some ask → IsAmong other asks → test other ≡ true → ask.read ≤ other.read
  unfolding IsRising
  least_found [] ask other rising found among pass = absurd among
  least_found (o ∷ asks) ask other rising found among pass =
      by_bool (test o) (ask.read ≤ other.read)
      (λ here.
      let at : o.read ≡ ask.read = ap (λ (x : Ask). x.read) (found_here o asks ask here found) in
      ⊎_elim
      (λ (same : other ≡ o). let equal : other.read ≡ o.read = ap (λ (x : Ask). x.read) same in let least : ask.read ≤ other.read = omega arith in least)
      (λ (more : IsAmong other asks). let above : o.read < other.read = among_all (λ (x : Ask). o.read < x.read) asks other more rising.0 in let least : ask.read ≤ other.read = omega arith in least)
      among)
      (λ fail.
      ⊎_elim (λ (same : other ≡ o). absurd (true≢false (sym pass ∙ ap test same ∙ fail)))
      (λ (more : IsAmong other asks). least_found asks ask other rising.1 (found_later o asks ask fail found) more pass)
      among)

  none_pass : (asks : List Ask) → find test asks ≡ None → (filter test asks ≡ []) × (filter (λ o. not (test o)) asks ≡ asks)
  none_pass [] none = (refl, refl)
  none_pass (o ∷ asks) none =
      by_bool (test o) ((filter test (o ∷ asks) ≡ []) × (filter (λ x. not (test x)) (o ∷ asks) ≡ o ∷ asks))
      (λ pass. let found : Some o ≡ None = sym (ap (λ b. if b then Some o else find test asks) pass) ∙ none in cc)
      (λ fail.
      let rest = none_pass asks (sym (ap (λ b. if b then Some o else find test asks) fail) ∙ none) in (
        ap (λ b. if b then o ∷ filter test asks else filter test asks) fail ∙ rest.0,
        ap (λ b. if not b then o ∷ filter (λ x. not (test x)) asks else filter (λ x. not (test x)) asks) fail ∙ ap (λ l. o ∷ l) rest.1,
      ))

  none_passes : (asks : List Ask) (ask : Ask) → find test asks ≡ None → IsAmong ask asks → test ask ≡ true → ⊥
  none_passes [] ask none among pass = among
  none_passes (o ∷ asks) ask none among pass =
      by_bool (test o) ⊥
      (λ here. let found : Some o ≡ None = sym (ap (λ b. if b then Some o else find test asks) here) ∙ none in cc)
      (λ fail. ⊎_elim (λ (same : ask ≡ o). true≢false (sym pass ∙ ap test same ∙ fail))
      (λ (more : IsAmong ask asks). none_passes asks ask (sym (ap (λ b. if b then Some o else find test asks) fail) ∙ none) more pass) among)

-- ---- as the program has it

module _ (kept now : Serving) (same : kept ≡ now) (number : ℕ) (at : number ≡ kept.replica.view.number) where
  found_by : (o : Option Ask) → o ≡ find (λ (ask : Ask). nat_le ask.at number) kept.replica.asks → find (λ ask. is_due kept.replica.view ask) kept.replica.asks ≡ o
  found_by o found = ap (λ n. find (λ (ask : Ask). nat_le ask.at n) kept.replica.asks) (sym at) ∙ sym found

  pub none-due : None ≡ find (λ (ask : Ask). nat_le ask.at number) kept.replica.asks → IsNoneDue now now
  none-due found =
      let none = found_by None found in
      let rest = none_pass (λ ask. is_due kept.replica.view ask) kept.replica.asks none in
      subst (λ (s : Serving). IsNoneDue s s) same (record {
        none = λ ask due. none_passes (λ ask. is_due kept.replica.view ask) kept.replica.asks ask none due.kept (le-leb ask.at kept.replica.view.number due.reached);
        state = refl;
        last = ap (λ l. map (λ ask. answer_to kept.shape kept.replica.view ask) l) rest.0;
        waiting = ap (λ l. record kept.replica { asks = l }) rest.1;
      })

  pub first-due : (ask : Ask) (answer : Answer) (asks : List Ask) → IsRising kept.replica.asks → Some ask ≡ find (λ (ask : Ask). nat_le ask.at number) kept.replica.asks
      → answer ≡ answer_to kept.shape kept.replica.view ask → asks ≡ filter (λ (other : Ask). not (other.read == ask.read)) kept.replica.asks
      → IsFirstDue now (now_as kept (record kept.replica { asks = asks })) answer
  first-due ask answer asks rising found given rest =
      let test : Ask → Bool = λ (a : Ask). is_due kept.replica.view a in
      let first = found_by (Some ask) found in
      let split : IsSplit test kept.replica.asks ask = splits test kept.replica.asks ask rising first in
      let there = is_among test kept.replica.asks ask first in
      let due : IsDueAsk kept ask = record { kept = there.0; reached = leb-true ask.at kept.replica.view.number there.1 } in
      let made : IsFirstDue kept (now_as kept (without_ask kept.replica ask)) (answer_to kept.shape kept.replica.view ask) = record {
        ask = ask;
        due = due;
        least = λ other is. least_found test kept.replica.asks ask other rising first is.kept (le-leb other.at kept.replica.view.number is.reached);
        answer = refl;
        state = refl;
        first = ap (λ l. map (λ a. answer_to kept.shape kept.replica.view a) l) split.first;
        waiting = ap (λ l. record kept.replica { asks = l }) split.waiting;
        fewer = split.fewer;
      } in
      subst (λ (s : Serving). IsFirstDue s (now_as kept (record kept.replica { asks = asks })) answer) same
      (subst (λ a. IsFirstDue kept (now_as kept (record kept.replica { asks = asks })) a) (sym given)
      (subst (λ l. IsFirstDue kept (now_as kept (record kept.replica { asks = l })) (answer_to kept.shape kept.replica.view ask)) (sym rest) made))

-- ---- an ask is taken

module _ (kept now : Serving) (same : kept ≡ now) (ask : Ask) (here : Bool) (is : here ≡ is_asked_here kept.shape kept.region kept.replica ask) where
  abbrev r : Replica
  r = kept.replica

  abbrev ways : Bool → Bool → AskTaken
  ways own reached =
      if not own then record { replica = r; answer = None }
      else if reached then record { replica = r; answer = Some (answer_to kept.shape r.view ask) }
      else record { replica = record r { asks = with_ask r.asks ask }; answer = None }

  taken_by : take_ask kept.shape kept.region r ask ≡ ways here (is_due r.view ask)
  unfolding take_ask
  taken_by = ap (λ b. ways b (is_due r.view ask)) (sym is)

  pub ask-foreign : here ≡ false → IsAskTaken now ask now None
  ask-foreign off =
      let taken = taken_by ∙ ap (λ b. ways b (is_due r.view ask)) off in
      subst (λ (s : Serving). IsAskTaken s ask s None) same (record {
        answer = sym (ap (λ (t : AskTaken). t.answer) taken);
        state = sym (ap (λ (t : AskTaken). now_as kept t.replica) taken);
        at_once = ((λ none. absurd (true≢false (sym none))), λ both. absurd (true≢false (sym both.0 ∙ sym is ∙ off)));
      })

  pub ask-answered : here ≡ true → ask.at ≤ r.view.number → (answer : Answer) → answer ≡ answer_to kept.shape r.view ask → IsAskTaken now ask now (Some answer)
  ask-answered own reached answer given =
      let taken = taken_by ∙ ap (λ b. ways b (is_due r.view ask)) own ∙ ap (λ b. ways true b) (le-leb ask.at r.view.number reached) in
      subst (λ (s : Serving). IsAskTaken s ask s (Some answer)) same (record {
        answer = ap (λ a. Some a) given ∙ sym (ap (λ (t : AskTaken). t.answer) taken);
        state = sym (ap (λ (t : AskTaken). now_as kept t.replica) taken);
        at_once = ((λ some. (sym is ∙ own, reached)), λ both. refl);
      })

  pub ask-kept : here ≡ true → r.view.number < ask.at → (asks : List Ask) → asks ≡ with_ask r.asks ask → IsAskTaken now ask (now_as kept (record r { asks = asks })) None
  ask-kept own early asks rest =
      let taken = taken_by ∙ ap (λ b. ways b (is_due r.view ask)) own ∙ ap (λ b. ways true b) (lt-leb ask.at r.view.number early) in
      let made : IsAskTaken kept ask (now_as kept (record r { asks = with_ask r.asks ask })) None = record {
        answer = sym (ap (λ (t : AskTaken). t.answer) taken);
        state = sym (ap (λ (t : AskTaken). now_as kept t.replica) taken);
        at_once = ((λ none. absurd (true≢false (sym none))), λ both. let low : ask.at ≤ r.view.number = both.1 in absurd (omega arith));
      } in
      subst (λ (s : Serving). IsAskTaken s ask (now_as kept (record r { asks = asks })) None) same
      (subst (λ l. IsAskTaken kept ask (now_as kept (record r { asks = l })) None) (sym rest) made)

-- ---- a loop that asks for answers until there is none

pub due-more : (all outs : List Answer) (before after : Serving) (answer : Answer) → all ≡ outs ++ due_answers before.shape before.replica → IsFirstDue before after answer
    → all ≡ (outs ++ answer ∷ []) ++ due_answers after.shape after.replica
due-more all outs before after answer is due =
    is ∙ ap (λ l. outs ++ l) due.first ∙ sym (append_assoc outs (answer ∷ []) (due_answers after.shape after.replica))

pub due-all : (all outs : List Answer) (before after : Serving) → all ≡ outs ++ due_answers before.shape before.replica → IsNoneDue before after → all ≡ outs
due-all all outs before after is none = is ∙ ap (λ l. outs ++ l) none.last ∙ append-nil outs
  where
    append-nil : (l : List Answer) → l ++ [] ≡ l
    append-nil [] = refl
    append-nil (x ∷ l) = ap (λ k. x ∷ k) (append-nil l)
