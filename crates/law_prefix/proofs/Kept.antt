-- The whole run: what the world keeps, and what follows at each choice.
use Rattle.std.proofs.Common.{◌≡◌, ℕ, zero, ◌≤◌, ◌<◌, true, List, [], length, ◌⊎◌, refl, sym, ap, ◌∙◌, arith, le_refl, le_of_eq, eq-or-lt_of_le, zero-le, subst, ⊎_elim, inl, inr}
use Rattle.law_prefix.specs.Numbers.{Mem, touches, last, number}
use Rattle.law_prefix.specs.Images.{Image, IsLinked, reach}
use Rattle.law_prefix.specs.World.{Phase, Serving, Gathering, Fetching, Staging, Switching, Claim, Reply, World, Volume, Guarded, leader}
use Rattle.law_prefix.specs.Good.{IsUnopened, ImageGood, Settled, AllCover, Good}
use Rattle.law_prefix.specs.Steps.{AllReplied, IsChoice, Kept, SomeRecoverable}
use Rattle.law_prefix.specs.Run.{IsStart, Step, changed, voted, claimed, told_staged, told_switched, replied, replaced, crashed, submitted, acked, asked, chosen, fetched, switching, opened, Run, begun, further, AllCovered}
use Rattle.law_prefix.proofs.Counting.{number_start}
use Rattle.law_prefix.proofs.Linking.{reach_above}
use Rattle.law_prefix.proofs.Taken.{length_taken}
use Rattle.law_prefix.proofs.Changing.{good_after, settled_less, place_settled}
use Rattle.law_prefix.proofs.Messages.{good_voted, good_claimed, good_staged, good_switched, good_replied, good_replaced}
use Rattle.law_prefix.proofs.Serving.{good_crashed, good_submitted, good_acked}
use Rattle.law_prefix.proofs.Asking.{good_asked, good_switching, good_opened}
use Rattle.law_prefix.proofs.Choosing.{recovers}
use Rattle.law_prefix.proofs.Staging.{kept, good_chosen, fetched_kept}

pub good_step : (v : Volume) (w x : World) → Step v w x → Good v w → Guarded v w.counts → Good v x
good_step v w x (changed u after comes) good guarded = good_after v u good after comes
good_step v w x (voted u t votes) good guarded = good_voted v u good t votes
good_step v w x (claimed u t licence) good guarded = good_claimed v u good guarded t licence
good_step v w x (told_staged u t tells) good guarded = good_staged v u good t tells
good_step v w x (told_switched u t tells) good guarded = good_switched v u good t tells
good_step v w x (replied u t replies) good guarded = good_replied v u good t replies
good_step v w x (replaced u images counts fresh how) good guarded = good_replaced v u good images counts fresh how
good_step v w x (crashed u) good guarded = good_crashed v u good
good_step v w x (submitted u lists submits) good guarded = good_submitted v u good lists submits
good_step v w x (acked u acks) good guarded = good_acked v u good guarded acks
good_step v w x (asked u e phase asks) good guarded = good_asked v u good e phase asks
good_step v w x (chosen u pool f s lists starts gathering all choice stages) good guarded =
    good_chosen v u good f s lists starts stages (kept v u good pool f s choice guarded gathering all)
good_step v w x (fetched u lists starts fetching stages) good guarded =
    good_chosen v u good u.client.served (length (u.client.lists u.client.served)) lists starts stages (fetched_kept v u good fetching)
good_step v w x (switching u staging told) good guarded = good_switching v u good staging told
good_step v w x (opened u at told) good guarded = good_opened v u good at told

module _ (v : Volume) (w : World) (start : IsStart v w) where
  -- what a node of the formatted world holds
  abbrev first : Image
  first = record { session = 1; base = zero; parts = []; later = [] }

  first_good : (g : ℕ) → ImageGood w.client g first
  unfolding IsLinked last
  first_good g = record {
    known = rw start.known (inl refl);
    start = rw start.starts (le_refl zero);
    within = zero-le;
    is_number = rw (start.starts 1) refl;
    linked = tt;
    later = λ f h. absurd h;
    origin = λ up. let s : w.client.served ≡ 1 = start.served in absurd (omega arith);
    low = λ s. zero-le;
  }

  first_settled : (x : ℕ) → x ≡ zero → Settled v w.client w.images w.counts x
  unfolding last reach
  first_settled x e = record {
    within = rw e zero-le;
    all = λ r k i m. inr (ap (λ (j : Image). j.session) (start.images r i m) ∙ sym start.served, rw (e, start.starts w.client.served) zero-le);
  }

  known_first : (e : ℕ) → Mem e w.client.known → e ≤ 1
  known_first e m = ⊎_elim {B = (e ≡ zero) ⊎ ⊥} (λ (h : e ≡ 1). omega arith) (λ h. ⊎_elim (λ (z : e ≡ zero). omega arith) (λ (b : ⊥). absurd b) h) (rw start.known at m)

  good_start : Good v w
  unfolding touches leader
  good_start = record {
    client = record {
      blank_known = rw start.known (inr (inl refl));
      blank_start = start.starts zero;
      served_up = rw start.served (le_refl 1);
      served_known = rw (start.known, start.served) (inl refl);
      start_acked = rw (start.starts w.client.served) zero-le;
      acked_within = rw start.acked zero-le;
      window = rw (start.lists w.client.served) zero-le;
      known_asked = λ f m. rw start.asked (known_first f m);
      starts_within = λ f m. rw (start.starts f) zero-le;
      serving = λ p. start.asked ∙ sym start.served;
      early = λ p. absurd (not_serving w.client.phase start.phase p);
      late = λ p. absurd (not_late w.client.phase start.phase p);
      fetching = λ p. start.acked ∙ sym (ap length (start.lists w.client.served));
      unopened = λ f m up. let low : f ≤ 1 = known_first f m in let s : w.client.served ≡ 1 = start.served in absurd (omega arith);
      switches_known = λ f m. absurd (rw start.switches at m);
      inside = λ e i. rw (start.lists e) start.some_region;
      led = λ e i h. let s : length (w.client.lists e) ≡ 0 = ap length (start.lists e) in absurd (omega arith);
    };
    nodes = λ r i m. subst (λ j. ImageGood w.client (v.region r) j) (sym (start.images r i m)) (first_good (v.region r));
    fresh_honest = λ r k. sym (start.fresh r) ∙ k;
    counts_fresh = λ r k. start.fresh r ∙ sym (start.counts r) ∙ k;
    above = λ r k i m. let e : i.session ≡ 1 = ap (λ (j : Image). j.session) (start.images r i m) in let s : w.client.served ≡ 1 = start.served in omega arith;
    bases = λ f m r k i n. absurd (rw start.switches at m);
    acked = first_settled w.client.acked start.acked;
    votes = λ t m. absurd (rw start.votes at m);
    claims = λ t m. absurd (rw start.claims at m);
    staged = λ t m. absurd (rw start.staged at m);
    switched = λ t m. absurd (rw start.switched at m);
    replies = λ t m. absurd (rw start.replies at m);
  }
    where
      not_serving : (p : Phase) → p ≡ Serving → (p ≡ Gathering) ⊎ (p ≡ Fetching) → ⊥
      not_serving p s h = grind arith

      not_late : (p : Phase) → p ≡ Serving → (p ≡ Staging) ⊎ (p ≡ Switching) → ⊥
      not_late p s h = grind arith

pub good_run : (v : Volume) (w x : World) → Run v w x → IsStart v w → Good v x × Guarded v x.counts
good_run v w x (begun u guarded) start = (good_start v u start, guarded)
good_run v w x (further u y z run step guarded) start =
    let before : Good v y × Guarded v y.counts = good_run v u y run start in
    (good_step v y z step before.0 before.1, guarded)

-- the laws
pub run_kept : (v : Volume) (w x : World) → IsStart v w → Run v w x → x.client.phase ≡ Gathering → (pool : List Reply) → AllReplied v x pool
    → (f s : ℕ) → IsChoice v x pool f s → Kept x.client f s
run_kept v w x start run gathering pool all f s choice =
    let g : Good v x × Guarded v x.counts = good_run v w x run start in
    kept v x g.0 pool f s choice g.1 gathering all

pub run_recovers : (v : Volume) (w x : World) → IsStart v w → Run v w x → x.client.phase ≡ Gathering → (pool : List Reply) → AllReplied v x pool → SomeRecoverable v x pool
run_recovers v w x start run gathering pool all =
    let g : Good v x × Guarded v x.counts = good_run v w x run start in
    let r = recovers v x g.0 g.1 gathering pool all in
    record { session = r.session; number = r.number; is = r.is }

-- the same in the words of any session
module _ (v : Volume) (w : World) (good : Good v w) where
  settled_covers : (x : ℕ) → Settled v w.client w.images w.counts x → AllCover v w w.client.served x
  settled_covers x s r k i m =
      ⊎_elim (λ (l : w.client.served < i.session). inl l)
      (λ (h : (i.session ≡ w.client.served) × (number (w.client.lists w.client.served) (w.client.starts w.client.served) x (v.region r) ≤ reach i.base i.parts)). inr (inl h))
      (s.all r k i m)

  past_covers : (e x : ℕ) → e < w.client.served → AllCover v w e x
  past_covers e x l r k i m = let a : w.client.served ≤ i.session = good.above r k i m in inl (omega arith)

  -- a session that was switched to and never opened
  start_covers : (f : ℕ) → Mem f w.client.switches → AllCover v w f (w.client.starts f)
  start_covers f told r k i m =
      let n : ImageGood w.client (v.region r) i = good.nodes r i m in
      let e : number (w.client.lists f) (w.client.starts f) (w.client.starts f) (v.region r) ≡ w.client.starts f = number_start (w.client.lists f) (w.client.starts f) (v.region r) in
      ⊎_elim (λ (h : Mem f i.later). inr (inr (h, le_of_eq e)))
      (λ (h : f ≤ i.session). ⊎_elim
      (λ (s : f ≡ i.session).
      let a : i.base ≤ reach i.base i.parts = reach_above (w.client.lists i.session) (w.client.starts i.session) (v.region r) i.base i.parts n.linked in
      let b : w.client.starts f ≤ i.base = subst (λ x. w.client.starts x ≤ i.base) (sym s) n.start in
      inr (inl (sym s, omega arith)))
      (λ (l : f < i.session). inl l) (eq-or-lt_of_le h))
      (good.bases f told r k i m)

  pub claims_covered : (t : Claim) → Mem t w.claims → (w.counts t.node ≡ true) ⊎ (t.counted ≡ true) → AllCover v w t.session t.front
  claims_covered t sent counted =
      ⊎_elim
      (λ (s : t.session ≡ w.client.served). subst (λ e. AllCover v w e t.front) (sym s) (settled_covers t.front ((good.claims t sent).settled counted s)))
      (λ (l : t.session < w.client.served). past_covers t.session t.front l)
      (eq-or-lt_of_le (good.claims t sent).old)

  pub acks_covered : (x : ℕ) → x ≤ w.client.acked → AllCover v w w.client.served x
  acks_covered x l = settled_covers x (settled_less v w.client w.images w.counts x w.client.acked l good.acked)

  pub places_covered : (r : ℕ) → w.counts r ≡ true → (i : Image) → Mem i (w.images r) → AllCover v w i.session i.base
  places_covered r k i m =
      let n : ImageGood w.client (v.region r) i = good.nodes r i m in
      ⊎_elim
      (λ (s : w.client.served ≡ i.session). subst (λ e. AllCover v w e i.base) s (settled_covers i.base (place_settled v w good r i m (sym s))))
      (λ (l : w.client.served < i.session).
      let u : IsUnopened w.client i.session = good.client.unopened i.session n.known l in
      let short : length (w.client.lists i.session) ≤ w.client.starts i.session = rw u.taken (length_taken (w.client.starts i.session) (w.client.lists w.client.served)) in
      let a : w.client.starts i.session ≤ i.base = n.start in
      let b : i.base ≤ length (w.client.lists i.session) = n.within in
      let e : i.base ≡ w.client.starts i.session = omega arith in
      subst (λ x. AllCover v w i.session x) (sym e) (start_covers i.session (n.origin l)))
      (eq-or-lt_of_le (good.above r k i m))

-- what holds in every state of such a run
pub run_covers : (v : Volume) (w x : World) → IsStart v w → Run v w x → AllCovered v x
run_covers v w x start run =
    let g : Good v x = (good_run v w x run start).0 in
    record {
      claims = claims_covered v x g;
      acks = acks_covered v x g;
      places = places_covered v x g;
      bases = g.bases;
    }
