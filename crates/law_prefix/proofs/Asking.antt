-- A restart or reassignment is asked; Switch is sent; the session opens.
use Rattle.std.proofs.Common.{◌≡◌, ℕ, ◌≤◌, ◌<◌, true, [], ◌∷◌, ◌⊎◌, length, append-nil, refl, sym, arith, le_refl, subst, ⊎_elim, inl, inr}
use Rattle.law_prefix.specs.Numbers.{Mem, number}
use Rattle.law_prefix.specs.Images.{Image, reach}
use Rattle.law_prefix.specs.World.{Phase, Serving, Gathering, Fetching, Staging, Switching, Client, Volume, World}
use Rattle.law_prefix.specs.Good.{IsUnopened, ImageGood, HasBase, Settled, BasesHeld, Good}
use Rattle.law_prefix.specs.Steps.{Asks, HasTold}
use Rattle.law_prefix.proofs.Counting.{number_start}
use Rattle.law_prefix.proofs.Linking.{reach_above}
use Rattle.law_prefix.proofs.Serving.{good_client, same_continues, staged_same, switched_same, replies_idle}
use Rattle.law_prefix.proofs.Taken.{length_taken}

module _ (v : Volume) (w : World) (good : Good v w) where
  pub good_asked : (e : ℕ) (phase : Phase) → Asks w.client e phase → Good v (record w { client = record w.client { asked = e; phase = phase }; fresh = v.honest })
  good_asked e phase asks =
      let up : w.client.asked < e = asks.later in
      let served : w.client.served ≤ w.client.asked = good.client.known_asked w.client.served good.client.served_known in
      good_client v w good (record w.client { asked = e; phase = phase }) v.honest
      (same_continues w.client (record w.client { asked = e; phase = phase }) (λ x. refl) (λ x. refl) refl refl) refl
      (record {
        blank_known = good.client.blank_known;
        blank_start = good.client.blank_start;
        served_up = good.client.served_up;
        served_known = good.client.served_known;
        start_acked = good.client.start_acked;
        acked_within = good.client.acked_within;
        window = good.client.window;
        known_asked = λ f m. let a : f ≤ w.client.asked = good.client.known_asked f m in omega arith;
        starts_within = good.client.starts_within;
        serving = λ p. absurd (⊎_elim (λ (q : phase ≡ Gathering). serving_not_gathering phase p q) (λ (q : (phase ≡ Fetching) × (w.client.acked ≡ length (w.client.lists w.client.served))). serving_not_fetching phase p q.0) asks.how);
        early = λ p f m. let a : f ≤ w.client.asked = good.client.known_asked f m in omega arith;
        late = λ p. absurd (not_late phase asks.how p);
        fetching = λ p. ⊎_elim (λ (q : phase ≡ Gathering). absurd (gathering_not_fetching phase q p))
            (λ (q : (phase ≡ Fetching) × (w.client.acked ≡ length (w.client.lists w.client.served))). q.1) asks.how;
        unopened = λ f m up. let u : IsUnopened w.client f = good.client.unopened f m up in record { taken = u.taken; kept = u.kept; within = u.within };
        switches_known = good.client.switches_known;
        inside = good.client.inside;
        led = good.client.led;
      })
      (le_refl w.client.acked) good.acked good.bases (λ r k. k) (λ r k. good.fresh_honest r (good.counts_fresh r k))
      (λ t m. let old : t.session ≤ w.client.asked = (good.staged t m).old in record { old = omega arith; held = λ k s i n. absurd (omega arith) })
      (λ t m. let old : t.session ≤ w.client.asked = (good.switched t m).old in record { old = omega arith; held = λ k s i n. absurd (omega arith) })
      (λ t m. let old : t.session ≤ w.client.asked = (good.replies t m).old in record { old = omega arith; held = λ p s k. absurd (omega arith) })
    where
      serving_not_gathering : (phase : Phase) → phase ≡ Serving → phase ≡ Gathering → ⊥
      serving_not_gathering phase p q = cc

      serving_not_fetching : (phase : Phase) → phase ≡ Serving → phase ≡ Fetching → ⊥
      serving_not_fetching phase p q = cc

      gathering_not_fetching : (phase : Phase) → phase ≡ Gathering → phase ≡ Fetching → ⊥
      gathering_not_fetching phase p q = cc

      not_late : (phase : Phase) → (phase ≡ Gathering) ⊎ (phase ≡ Fetching) × (w.client.acked ≡ length (w.client.lists w.client.served))
          → (phase ≡ Staging) ⊎ (phase ≡ Switching) → ⊥
      not_late phase how late = grind arith

  -- every honest node has told Staged since the session was staged
  pub good_switching : w.client.phase ≡ Staging → ((r : ℕ) → v.honest r ≡ true → HasTold w.staged r w.client.asked)
      → Good v (record w { client = record w.client { phase = Switching; switches = w.client.asked ∷ w.client.switches } })
  good_switching staging told =
      let late : Mem w.client.asked w.client.known × (w.client.served < w.client.asked) = good.client.late (inl staging) in
      good_client v w good (record w.client { phase = Switching; switches = w.client.asked ∷ w.client.switches }) w.fresh
      (record { lists = λ e m. ([], sym (append-nil (w.client.lists e))); starts = λ e m. refl; known = λ e m. m; switches = λ e m. inr m }) refl
      (record {
        blank_known = good.client.blank_known;
        blank_start = good.client.blank_start;
        served_up = good.client.served_up;
        served_known = good.client.served_known;
        start_acked = good.client.start_acked;
        acked_within = good.client.acked_within;
        window = good.client.window;
        known_asked = good.client.known_asked;
        starts_within = good.client.starts_within;
        serving = λ p. absurd (cc);
        early = λ p. ⊎_elim {A = Switching ≡ Gathering} {B = Switching ≡ Fetching} (λ e. absurd (cc)) (λ e. absurd (cc)) p;
        late = λ p. late;
        fetching = λ p. absurd (cc);
        unopened = λ f m up. let u : IsUnopened w.client f = good.client.unopened f m up in record { taken = u.taken; kept = u.kept; within = u.within };
        switches_known = λ f m. ⊎_elim (λ (e : f ≡ w.client.asked). subst (λ x. Mem x w.client.known) (sym e) late.0) (λ (n : Mem f w.client.switches). good.client.switches_known f n) m;
        inside = good.client.inside;
        led = good.client.led;
      })
      (le_refl w.client.acked) good.acked bases good.fresh_honest good.counts_fresh
      (staged_same v w good (record w.client { phase = Switching; switches = w.client.asked ∷ w.client.switches }) refl)
      (switched_same v w good (record w.client { phase = Switching; switches = w.client.asked ∷ w.client.switches }) refl)
      (replies_idle v w good (record w.client { phase = Switching; switches = w.client.asked ∷ w.client.switches }) (le_refl w.client.asked) (λ p. cc))
    where
      staged_base : (r : ℕ) → w.counts r ≡ true → (i : Image) → Mem i (w.images r) → HasBase i w.client.asked
      staged_base r k i m =
          let f : w.fresh r ≡ true = good.counts_fresh r k in
          let t : HasTold w.staged r w.client.asked = told r (good.fresh_honest r f) in
          (good.staged t.told t.sent).held (subst (λ n. w.fresh n ≡ true) (sym t.node) f) t.session i (subst (λ n. Mem i (w.images n)) (sym t.node) m)

      bases : BasesHeld (record w.client { phase = Switching; switches = w.client.asked ∷ w.client.switches }) w.images w.counts
      bases f m r k i n =
          ⊎_elim (λ (e : f ≡ w.client.asked). subst (λ x. HasBase i x) (sym e) (staged_base r k i n))
          (λ (s : Mem f w.client.switches). good.bases f s r k i n) m

-- every honest node has told Switched: the session opens
module _ (v : Volume) (w : World) (good : Good v w) (switching : w.client.phase ≡ Switching)
    (told : (r : ℕ) → v.honest r ≡ true → HasTold w.switched r w.client.asked) where
  abbrev opened : Client
  opened = record w.client { served = w.client.asked; acked = w.client.starts w.client.asked; phase = Serving }

  staged : Mem w.client.asked w.client.known × (w.client.served < w.client.asked)
  staged = good.client.late (inr switching)

  -- nothing was submitted in it
  short : length (w.client.lists w.client.asked) ≤ w.client.starts w.client.asked
  short =
      let u : IsUnopened w.client w.client.asked = good.client.unopened w.client.asked staged.0 staged.1 in
      rw u.taken (length_taken (w.client.starts w.client.asked) (w.client.lists w.client.served))

  switched_up : (r : ℕ) → w.fresh r ≡ true → (i : Image) → Mem i (w.images r) → w.client.asked ≤ i.session
  switched_up r f i m =
      let t : HasTold w.switched r w.client.asked = told r (good.fresh_honest r f) in
      (good.switched t.told t.sent).held (subst (λ n. w.fresh n ≡ true) (sym t.node) f) t.session i (subst (λ n. Mem i (w.images n)) (sym t.node) m)

  known_low : (r : ℕ) (i : Image) → Mem i (w.images r) → i.session ≤ w.client.asked
  known_low r i m = good.client.known_asked i.session (good.nodes r i m).known

  -- a base of the session stands at its start
  place : (r : ℕ) (i : Image) → Mem i (w.images r) → i.session ≡ w.client.asked → i.base ≡ w.client.starts w.client.asked
  place r i m s =
      let n : ImageGood w.client (v.region r) i = good.nodes r i m in
      let a : w.client.starts w.client.asked ≤ i.base = subst (λ e. w.client.starts e ≤ i.base) s n.start in
      let b : i.base ≤ length (w.client.lists w.client.asked) = subst (λ e. i.base ≤ length (w.client.lists e)) s n.within in
      let d : length (w.client.lists w.client.asked) ≤ w.client.starts w.client.asked = short in
      omega arith

  start_settled : Settled v opened w.images w.fresh (w.client.starts w.client.asked)
  start_settled = record {
    within = good.client.starts_within w.client.asked staged.0;
    all = λ r f i m.
        let up : w.client.asked ≤ i.session = switched_up r f i m in
        let low : i.session ≤ w.client.asked = known_low r i m in
        let s : i.session ≡ w.client.asked = omega arith in
        let n : ImageGood w.client (v.region r) i = good.nodes r i m in
        let at : i.base ≡ w.client.starts w.client.asked = place r i m s in
        let start : number (w.client.lists w.client.asked) (w.client.starts w.client.asked) (w.client.starts w.client.asked) (v.region r) ≡ w.client.starts w.client.asked =
        number_start (w.client.lists w.client.asked) (w.client.starts w.client.asked) (v.region r) in
        let reached : i.base ≤ reach i.base i.parts = reach_above (w.client.lists i.session) (w.client.starts i.session) (v.region r) i.base i.parts n.linked in
        inr (s, omega arith);
  }

  pub good_opened : Good v (record w { client = opened; counts = w.fresh })
  good_opened =
      let up : w.client.served < w.client.asked = staged.1 in
      let long : w.client.starts w.client.asked ≤ length (w.client.lists w.client.asked) = good.client.starts_within w.client.asked staged.0 in
      let low : length (w.client.lists w.client.asked) ≤ w.client.starts w.client.asked = short in
      record {
        client = record {
          blank_known = good.client.blank_known;
          blank_start = good.client.blank_start;
          served_up = omega arith;
          served_known = staged.0;
          start_acked = le_refl (w.client.starts w.client.asked);
          acked_within = long;
          window = omega arith;
          known_asked = good.client.known_asked;
          starts_within = good.client.starts_within;
          serving = λ p. refl;
          early = λ p. ⊎_elim {A = Serving ≡ Gathering} {B = Serving ≡ Fetching} (λ e. absurd (cc)) (λ e. absurd (cc)) p;
          late = λ p. ⊎_elim {A = Serving ≡ Staging} {B = Serving ≡ Switching} (λ e. absurd (cc)) (λ e. absurd (cc)) p;
          fetching = λ p. absurd (cc);
          unopened = λ f m above. let a : f ≤ w.client.asked = good.client.known_asked f m in absurd (omega arith);
          switches_known = good.client.switches_known;
          inside = good.client.inside;
          led = good.client.led;
        };
        nodes = λ r i m.
            let n : ImageGood w.client (v.region r) i = good.nodes r i m in
            let a : i.session ≤ w.client.asked = known_low r i m in
            record {
              known = n.known;
              start = n.start;
              within = n.within;
              is_number = n.is_number;
              linked = n.linked;
              later = n.later;
              origin = λ above. absurd (omega arith);
              low = λ s. let at : i.base ≡ w.client.starts w.client.asked = place r i m s in omega arith;
            };
        fresh_honest = good.fresh_honest;
        counts_fresh = λ r k. k;
        above = switched_up;
        bases = λ f m r k i n.
            let a : f ≤ w.client.asked = good.client.known_asked f (good.client.switches_known f m) in
            let b : w.client.asked ≤ i.session = switched_up r k i n in
            inr (omega arith);
        acked = start_settled;
        votes = λ t m. let old : t.session ≤ w.client.served = (good.votes t m).old in record { old = omega arith; held = λ k s i n. absurd (omega arith) };
        claims = λ t m. let old : t.session ≤ w.client.served = (good.claims t m).old in record { old = omega arith; settled = λ k s. absurd (omega arith) };
        staged = λ t m. record { old = (good.staged t m).old; held = (good.staged t m).held };
        switched = λ t m. record { old = (good.switched t m).old; held = (good.switched t m).held };
        replies = λ t m. record { old = (good.replies t m).old; held = λ p s k. absurd (cc) };
      }
