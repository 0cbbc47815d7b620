-- The choice is kept; and a session is staged from it.
use Rattle.std.proofs.Common.{◌≡◌, ℕ, zero, ◌≤◌, ◌<◌, min, List, [], take, take-take, ◌⊎◌, length, length-take, append-nil, refl, sym, ap, ◌∙◌, arith, le_refl, subst, ⊎_elim, inl, inr}
use Rattle.law_prefix.specs.Numbers.{Mem}
use Rattle.law_prefix.specs.World.{Gathering, Fetching, Staging, Client, Volume, Reply, World, Guarded}
use Rattle.law_prefix.specs.Good.{IsUnopened, Good}
use Rattle.law_prefix.specs.Steps.{Stages, AllReplied, IsChoice, Kept}
use Rattle.law_prefix.specs.Run.{staged_client}
use Rattle.law_prefix.proofs.Serving.{Continues, good_client, staged_same, switched_same, replies_idle}
use Rattle.law_prefix.proofs.Taken.{length_taken}
use Rattle.law_prefix.proofs.Choosing.{Recovers, recovers}

-- the choice is a prefix of the list served last, with every acknowledged batch
module _ (v : Volume) (w : World) (good : Good v w) (pool : List Reply) (f s : ℕ) (choice : IsChoice v w pool f s) where
  kept_later : w.client.served < f → Kept w.client f s
  kept_later later =
      let u : IsUnopened w.client f = good.client.unopened f choice.known later in
      let a : w.client.starts f ≤ s = choice.above in
      let b : s ≤ length (w.client.lists f) = choice.within in
      let d : length (w.client.lists f) ≤ w.client.starts f = rw u.taken (length_taken (w.client.starts f) (w.client.lists w.client.served)) in
      let same : s ≡ w.client.starts f = omega arith in
      let e : w.client.acked ≤ w.client.starts f = u.kept in
      let g : w.client.starts f ≤ length (w.client.lists w.client.served) = u.within in
      record {
        prefix = rw (u.taken, same) (take-take (w.client.starts f) (w.client.starts f) (w.client.lists w.client.served) (le_refl (w.client.starts f)));
        within = omega arith;
        acked = omega arith;
      }

  kept_served : f ≡ w.client.served → w.client.acked ≤ s → Kept w.client f s
  kept_served here enough = record {
    prefix = ap (λ e. take s (w.client.lists e)) here;
    within = subst (λ e. s ≤ length (w.client.lists e)) here choice.within;
    acked = enough;
  }

  pub kept : Guarded v w.counts → w.client.phase ≡ Gathering → AllReplied v w pool → Kept w.client f s
  kept guarded gathering replied =
      let r : Recovers v w good guarded gathering pool replied = recovers v w good guarded gathering pool replied in
      by_greatest r.session r.number r.enough (choice.greatest r.session r.number r.is)
    where
      by_greatest : (e x : ℕ) → (w.client.served < e) ⊎ (e ≡ w.client.served) × (w.client.acked ≤ x) → (e < f) ⊎ (e ≡ f) × (x ≤ s) → Kept w.client f s
      by_greatest e x enough greatest =
          ⊎_elim
          (λ (l : w.client.served < e).
          ⊎_elim (λ (h : e < f). kept_later (omega arith)) (λ (h : (e ≡ f) × (x ≤ s)). let i : e ≡ f = h.0 in kept_later (omega arith)) greatest)
          (λ (k : (e ≡ w.client.served) × (w.client.acked ≤ x)).
          let a : e ≡ w.client.served = k.0 in
          let b : w.client.acked ≤ x = k.1 in
          ⊎_elim (λ (h : e < f). kept_later (omega arith)) (λ (h : (e ≡ f) × (x ≤ s)). let i : x ≤ s = h.1 in kept_served (sym h.0 ∙ a) (omega arith)) greatest)
          enough

module _ (v : Volume) (w : World) (good : Good v w) (f s : ℕ) (lists : ℕ → List (List ℕ)) (starts : ℕ → ℕ)
    (stages : Stages v w.client (staged_client w.client lists starts) f s) (keeps : Kept w.client f s) where
  after : Client
  after = staged_client w.client lists starts

  served_low : w.client.served < w.client.asked
  served_low = good.client.early stages.early w.client.served good.client.served_known

  served_same : (lists w.client.served ≡ w.client.lists w.client.served) × (starts w.client.served ≡ w.client.starts w.client.served)
  served_same = stages.others w.client.served good.client.served_known

  cont : Continues w.client after
  unfolding after
  cont = record {
    lists = λ e m. ([], (stages.others e m).0 ∙ sym (append-nil (w.client.lists e)));
    starts = λ e m. (stages.others e m).1;
    known = λ e m. inr m;
    switches = λ e m. m;
  }

  new_unopened : IsUnopened after w.client.asked
  unfolding after
  new_unopened = record {
    taken = rw (stages.start, served_same.0) (stages.list ∙ keeps.prefix);
    kept = rw stages.start keeps.acked;
    within = rw (stages.start, served_same.0) keeps.within;
  }

  old_unopened : (e : ℕ) → Mem e w.client.known → w.client.served < e → IsUnopened after e
  unfolding after
  old_unopened e m up =
      let u : IsUnopened w.client e = good.client.unopened e m up in
      let o : (lists e ≡ w.client.lists e) × (starts e ≡ w.client.starts e) = stages.others e m in
      record {
        taken = rw (o.0, o.1, served_same.0) u.taken;
        kept = rw o.1 u.kept;
        within = rw (o.1, served_same.0) u.within;
      }

  new_starts : starts w.client.asked ≤ length (lists w.client.asked)
  new_starts =
      let a : length (take s (w.client.lists f)) ≡ min s (length (w.client.lists f)) = length-take s (w.client.lists f) in
      let b : s ≤ length (w.client.lists f) = stages.within in
      rw (stages.start, stages.list) (omega arith)

  pub good_chosen : Good v (record w { client = staged_client w.client lists starts })
  unfolding after
  good_chosen =
      good_client v w good after w.fresh cont refl
      (record {
        blank_known = inr good.client.blank_known;
        blank_start = (stages.others zero good.client.blank_known).1 ∙ good.client.blank_start;
        served_up = good.client.served_up;
        served_known = inr good.client.served_known;
        start_acked = rw served_same.1 good.client.start_acked;
        acked_within = rw served_same.0 good.client.acked_within;
        window = rw served_same.0 good.client.window;
        known_asked = λ e m. ⊎_elim (λ (h : e ≡ w.client.asked). omega arith) (λ (h : Mem e w.client.known). good.client.known_asked e h) m;
        starts_within = λ e m. ⊎_elim (λ (h : e ≡ w.client.asked). subst (λ x. starts x ≤ length (lists x)) (sym h) new_starts)
            (λ (h : Mem e w.client.known). rw ((stages.others e h).0, (stages.others e h).1) (good.client.starts_within e h)) m;
        serving = λ p. absurd (cc);
        early = λ p. ⊎_elim {A = Staging ≡ Gathering} {B = Staging ≡ Fetching} (λ e. absurd (cc)) (λ e. absurd (cc)) p;
        late = λ p. (inl refl, served_low);
        fetching = λ p. absurd (cc);
        unopened = λ e m up. ⊎_elim (λ (h : e ≡ w.client.asked). subst (λ x. IsUnopened after x) (sym h) new_unopened)
            (λ (h : Mem e w.client.known). old_unopened e h up) m;
        switches_known = λ e m. inr (good.client.switches_known e m);
        inside = stages.inside;
        led = stages.led;
      })
      (le_refl w.client.acked) good.acked good.bases good.fresh_honest good.counts_fresh
      (staged_same v w good after refl) (switched_same v w good after refl)
      (replies_idle v w good after (le_refl w.client.asked) (λ p. cc))

-- a reassignment keeps the whole list
pub fetched_kept : (v : Volume) (w : World) → Good v w → w.client.phase ≡ Fetching → Kept w.client w.client.served (length (w.client.lists w.client.served))
fetched_kept v w good fetching = record {
  prefix = refl;
  within = le_refl (length (w.client.lists w.client.served));
  acked = good.client.acked_within;
}
