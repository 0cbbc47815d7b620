-- There is always a choice, and it is a prefix of the last list with every acknowledged batch.
use Rattle.std.proofs.Common.{◌≡◌, ℕ, zero, suc, ◌≤◌, ◌<◌, true, List, [], ◌∷◌, ◌++◌, ◌⊎◌, length, refl, sym, ap, ◌∙◌, arith, le_refl, subst, ⊎_elim, inl, inr, eq-or-lt_of_le}
use Rattle.law_prefix.specs.Numbers.{Mem, number}
use Rattle.law_prefix.specs.Images.{Part, Image, IsLinked, reach, HasChain}
use Rattle.law_prefix.specs.World.{Gathering, Volume, Reply, World, Guarded, leader}
use Rattle.law_prefix.specs.Good.{IsUnopened, ImageGood, HeldGood, Good}
use Rattle.law_prefix.specs.Steps.{HoldsChain, IsRecoverable, HasReplied, AllReplied}
use Rattle.law_prefix.proofs.Counting.{number_start, number_more, number_touched}
use Rattle.law_prefix.proofs.Linking.{chain_to}
use Rattle.law_prefix.proofs.Taken.{length_taken}
use Rattle.law_prefix.proofs.Growing.{split}

-- what ends a chain is its base or one of its parts
chain_end : (at y : ℕ) (front rest : List Part) → reach at front ≡ y → (at ≡ y) ⊎ (p : Part) × Mem p (front ++ rest) × (suc p.before ≡ y)
unfolding reach
chain_end at y [] rest e = inl e
chain_end at y (p ∷ front) rest e =
    ⊎_elim (λ (h : suc p.before ≡ y). inr (p, inl refl, h))
    (λ (h : (q : Part) × Mem q (front ++ rest) × (suc q.before ≡ y)). inr (h.0, inr h.1, h.2))
    (chain_end (suc p.before) y front rest e)

chain_header : (i : Image) (e y : ℕ) → i.session ≡ e → HasChain i.base i.parts y → (i.base ≡ y) ⊎ (p : Part) × Mem p i.parts × (suc p.before ≡ y)
chain_header i e y s chain = rw chain.joined (chain_end i.base y chain.front chain.rest chain.ends)

-- the reply of a node that counts, of region g
pub record Picked (v : Volume) (w : World) (pool : List Reply) (g : ℕ) (t : Reply) : Type 0 where
  pub sent : Mem t pool
  pub session : t.session ≡ w.client.asked
  pub region : v.region t.node ≡ g
  pub held : HeldGood w.client g t.held

module _ (v : Volume) (w : World) (good : Good v w) (guarded : Guarded v w.counts) (gathering : w.client.phase ≡ Gathering) (pool : List Reply) (replied : AllReplied v w pool) where
  pick_in : (g : ℕ) → g < v.regions → (t : Reply) × Picked v w pool g t
  pick_in g inside =
      let r : (r : ℕ) × (v.region r ≡ g) × (w.counts r ≡ true) = guarded g inside in
      let t : HasReplied w pool r.0 = replied.all r.0 (good.fresh_honest r.0 (good.counts_fresh r.0 r.2)) in
      let place : v.region t.reply.node ≡ g = ap v.region t.node ∙ r.1 in (
        t.reply,
        record {
          sent = t.sent;
          session = t.session;
          region = place;
          held = subst (λ x. HeldGood w.client x t.reply.held) place
              ((good.replies t.reply (replied.sent t.reply t.sent)).held gathering t.session (subst (λ n. w.counts n ≡ true) (sym t.node) r.2));
        },
      )

  no_reply : Reply
  no_reply = record { node = zero; session = zero; held = record { session = zero; base = zero; parts = []; later = [] } }

  picked : (g : ℕ) → (t : Reply) × (g < v.regions → Picked v w pool g t)
  picked g =
      ⊎_elim (λ (l : v.regions ≤ g). (no_reply, λ inside. absurd (omega arith)))
      (λ (l : g < v.regions). let p : (t : Reply) × Picked v w pool g t = pick_in g l in (p.0, λ inside. p.1))
      (split v.regions g)

  pick : ℕ → Reply
  pick g = (picked g).0

  pick_is : (g : ℕ) → g < v.regions → Picked v w pool g (pick g)
  unfolding pick
  pick_is g inside = (picked g).1 inside

  -- the greatest session among the replies picked
  record Greatest (k : ℕ) : Type 0 where
    top : ℕ
    over : (g : ℕ) → g < k → (pick g).held.session ≤ top
    served : w.client.served ≤ top
    reason : (top ≡ w.client.served) ⊎ (g : ℕ) × (g < k) × ((pick g).held.session ≡ top)

  greatest : (k : ℕ) → Greatest k
  greatest zero = record { top = w.client.served; over = λ g l. absurd (omega arith); served = le_refl w.client.served; reason = inl refl }
  greatest (suc k) =
      let low : Greatest k = greatest k in
      let at_most : (g : ℕ) → g < suc k → (g ≡ k) ⊎ (g < k) = λ g l. grind arith in
      ⊎_elim
      (λ (h : (pick k).held.session ≤ low.top). record {
        top = low.top;
        over = λ g l. ⊎_elim (λ (e : g ≡ k). subst (λ x. (pick x).held.session ≤ low.top) (sym e) h) (λ (m : g < k). low.over g m) (at_most g l);
        served = low.served;
        reason = ⊎_elim (λ (e : low.top ≡ w.client.served). inl e)
            (λ (e : (g : ℕ) × (g < k) × ((pick g).held.session ≡ low.top)). let m : e.0 < k = e.1 in inr (e.0, omega arith, e.2)) low.reason;
      })
      (λ (h : low.top < (pick k).held.session). record {
        top = (pick k).held.session;
        over = λ g l. ⊎_elim (λ (e : g ≡ k). subst (λ x. (pick x).held.session ≤ (pick k).held.session) (sym e) (le_refl (pick k).held.session))
            (λ (m : g < k). let u : (pick g).held.session ≤ low.top = low.over g m in omega arith) (at_most g l);
        served = let u : w.client.served ≤ low.top = low.served in omega arith;
        reason = inr (k, omega arith, refl);
      })
      (split (pick k).held.session low.top)

  -- ---- all are in the session served last

  module _ (same : (g : ℕ) → g < v.regions → (pick g).held.session ≡ w.client.served) where
    chain_served : (g : ℕ) → g < v.regions → HasChain (pick g).held.base (pick g).held.parts (number (w.client.lists w.client.served) (w.client.starts w.client.served) w.client.acked g)
    chain_served g inside =
        let p : Picked v w pool g (pick g) = pick_is g inside in
        let i : Image = (pick g).held in
        let n : ImageGood w.client g i = p.held.image in
        let s : i.session ≡ w.client.served = same g inside in
        let base : number (w.client.lists w.client.served) (w.client.starts w.client.served) i.base g ≡ i.base =
        subst (λ e. number (w.client.lists e) (w.client.starts e) i.base g ≡ i.base) s n.is_number in
        let low : i.base ≤ w.client.acked = n.low s in
        let more : number (w.client.lists w.client.served) (w.client.starts w.client.served) i.base g ≤ number (w.client.lists w.client.served) (w.client.starts w.client.served) w.client.acked g =
        number_more (w.client.lists w.client.served) (w.client.starts w.client.served) i.base w.client.acked g low in
        let linked : IsLinked (w.client.lists w.client.served) (w.client.starts w.client.served) g i.base i.parts =
        subst (λ e. IsLinked (w.client.lists e) (w.client.starts e) g i.base i.parts) s n.linked in
        ⊎_elim (λ (l : w.client.served < i.session). absurd (omega arith))
        (λ (h : (i.session ≡ w.client.served) × (number (w.client.lists w.client.served) (w.client.starts w.client.served) w.client.acked g ≤ reach i.base i.parts)).
        chain_to (w.client.lists w.client.served) (w.client.starts w.client.served) g i.base w.client.acked i.parts linked (omega arith) h.1)
        p.held.covered

    -- the region whose record is the header: the leader of the last acknowledged batch, or any where there is none
    header_served : (g : ℕ) → g < v.regions → number (w.client.lists w.client.served) (w.client.starts w.client.served) w.client.acked g ≡ w.client.acked
        → IsRecoverable v w pool w.client.served w.client.acked
    header_served g inside is =
        let chain : HasChain (pick g).held.base (pick g).held.parts w.client.acked = subst (λ y. HasChain (pick g).held.base (pick g).held.parts y) is (chain_served g inside) in
        record {
          reply = pick g;
          sent = (pick_is g inside).sent;
          session = (pick_is g inside).session;
          header = inl (same g inside, chain_header (pick g).held w.client.served w.client.acked (same g inside) chain);
          chains = λ h l. record {
            reply = pick h;
            sent = (pick_is h l).sent;
            session = (pick_is h l).session;
            region = (pick_is h l).region;
            chain = inl (same h l, chain_served h l);
          };
        }

    recoverable_served : IsRecoverable v w pool w.client.served w.client.acked
    recoverable_served =
        ⊎_elim
        (λ (e : w.client.starts w.client.served ≡ w.client.acked).
        let g : ℕ = leader (w.client.lists w.client.served) zero in
        let s : number (w.client.lists w.client.served) (w.client.starts w.client.served) (w.client.starts w.client.served) g ≡ w.client.starts w.client.served =
        number_start (w.client.lists w.client.served) (w.client.starts w.client.served) g in
        header_served g (good.client.inside w.client.served zero)
        (subst (λ x. number (w.client.lists w.client.served) (w.client.starts w.client.served) x g ≡ x) e s))
        (λ (l : w.client.starts w.client.served < w.client.acked). by_batch w.client.acked refl l)
        (eq-or-lt_of_le good.client.start_acked)
      where
        by_batch : (x : ℕ) → w.client.acked ≡ x → w.client.starts w.client.served < w.client.acked → IsRecoverable v w pool w.client.served w.client.acked
        by_batch zero e l = absurd (omega arith)
        by_batch (suc x) e l =
            let within : w.client.acked ≤ length (w.client.lists w.client.served) = good.client.acked_within in
            let there : x < length (w.client.lists w.client.served) = omega arith in
            let start : w.client.starts w.client.served ≤ x = omega arith in
            let g : ℕ = leader (w.client.lists w.client.served) x in
            let s : number (w.client.lists w.client.served) (w.client.starts w.client.served) (suc x) g ≡ suc x =
            number_touched (w.client.lists w.client.served) (w.client.starts w.client.served) x g start (good.client.led w.client.served x there) in
            header_served g (good.client.inside w.client.served x)
            (subst (λ y. number (w.client.lists w.client.served) (w.client.starts w.client.served) y g ≡ y) (sym e) s)

  -- ---- one is in a later session: it was switched to, so every node that counts has its base

  module _ (f : ℕ) (later : w.client.served < f) (over : (g : ℕ) → g < v.regions → (pick g).held.session ≤ f)
      (g : ℕ) (inside : g < v.regions) (here : (pick g).held.session ≡ f) where
    told : Mem f w.client.switches
    told =
        let n : ImageGood w.client g (pick g).held = (pick_is g inside).held.image in
        let up : w.client.served < (pick g).held.session = subst (λ e. w.client.served < e) (sym here) later in
        subst (λ e. Mem e w.client.switches) here (n.origin up)

    base_at_start : (h : ℕ) → h < v.regions → (pick h).held.session ≡ f → (pick h).held.base ≡ w.client.starts f
    base_at_start h l s =
        let n : ImageGood w.client h (pick h).held = (pick_is h l).held.image in
        let u : IsUnopened w.client f = good.client.unopened f (good.client.switches_known f told) later in
        let a : w.client.starts f ≤ (pick h).held.base = subst (λ e. w.client.starts e ≤ (pick h).held.base) s n.start in
        let b : (pick h).held.base ≤ length (w.client.lists f) = subst (λ e. (pick h).held.base ≤ length (w.client.lists e)) s n.within in
        let d : length (w.client.lists f) ≤ w.client.starts f = rw u.taken (length_taken (w.client.starts f) (w.client.lists w.client.served)) in
        omega arith

    chain_later : (h : ℕ) → h < v.regions → HoldsChain w.client (pick h).held f (w.client.starts f)
    unfolding reach
    chain_later h l =
        let in_it : (pick h).held.session ≡ f → HoldsChain w.client (pick h).held f (w.client.starts f) = λ s.
        inl (s, record { front = []; rest = (pick h).held.parts; joined = refl; ends = base_at_start h l s }) in
        ⊎_elim (λ (m : Mem f (pick h).held.later). inr (m, refl))
        (λ (m : f ≤ (pick h).held.session). let o : (pick h).held.session ≤ f = over h l in in_it (omega arith))
        ((pick_is h l).held.bases f told)

    recoverable_later : IsRecoverable v w pool f (w.client.starts f)
    recoverable_later = record {
      reply = pick g;
      sent = (pick_is g inside).sent;
      session = (pick_is g inside).session;
      header = inl (here, inl (base_at_start g inside here));
      chains = λ h l. record {
        reply = pick h;
        sent = (pick_is h l).sent;
        session = (pick_is h l).session;
        region = (pick_is h l).region;
        chain = subst (λ y. HoldsChain w.client (pick h).held f y) (sym (number_start (w.client.lists f) (w.client.starts f) h)) (chain_later h l);
      };
    }

  -- there is a choice, of the session served last with every acknowledged batch, or of a later session
  pub record Recovers : Type 0 where
    pub session : ℕ
    pub number : ℕ
    pub is : IsRecoverable v w pool session number
    pub enough : (w.client.served < session) ⊎ (session ≡ w.client.served) × (w.client.acked ≤ number)

  pub recovers : Recovers
  recovers =
      let top : Greatest v.regions = greatest v.regions in
      ⊎_elim
      (λ (e : w.client.served ≡ top.top). record {
        session = w.client.served;
        number = w.client.acked;
        is = recoverable_served (λ g l.
            let a : (pick g).held.session ≤ top.top = top.over g l in
            let b : w.client.served ≤ (pick g).held.session = (pick_is g l).held.above in
            omega arith);
        enough = inr (refl, le_refl w.client.acked);
      })
      (λ (l : w.client.served < top.top).
      ⊎_elim (λ (e : top.top ≡ w.client.served). absurd (omega arith))
      (λ (h : (g : ℕ) × (g < v.regions) × ((pick g).held.session ≡ top.top)). record {
        session = top.top;
        number = w.client.starts top.top;
        is = recoverable_later top.top l top.over h.0 h.1 h.2;
        enough = inl l;
      })
      top.reason)
      (eq-or-lt_of_le top.served)
