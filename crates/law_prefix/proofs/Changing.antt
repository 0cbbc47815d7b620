-- A step of one or more nodes that changes what their disks hold.
use Rattle.std.proofs.Common.{◌≡◌, ℕ, suc, ◌≤◌, ◌<◌, Bool, true, List, ◌⊎◌, length, sym, ◌∙◌, arith, le_trans, subst, ⊎_elim, inl, inr, eq-or-lt_of_le}
use Rattle.law_prefix.specs.Numbers.{Mem, number}
use Rattle.law_prefix.specs.Images.{Image, reach}
use Rattle.law_prefix.specs.World.{Client, Volume, Claim, Vote, Told, World, Guarded}
use Rattle.law_prefix.specs.Good.{NodesGood, Covered, Settled, Above, BasesHeld, VoteGood, ClaimGood, StagedGood, SwitchedGood, Good}
use Rattle.law_prefix.specs.Steps.{Comes, Claimed, AllClaim}
use Rattle.law_prefix.proofs.Counting.{number_more}
use Rattle.law_prefix.proofs.Growing.{Grows, grown, still_good}

-- what is covered stays covered
pub covered_grown : (c : Client) (g x : ℕ) (i j : Image) → Grows i j → Covered c g i x → Covered c g j x
covered_grown c g x i j grows covered =
    ⊎_elim
    (λ (l : c.served < i.session). let u : i.session ≤ j.session = grows.up in inl (omega arith))
    (λ (h : (i.session ≡ c.served) × (number (c.lists c.served) (c.starts c.served) x g ≤ reach i.base i.parts)).
    ⊎_elim
    (λ (e : i.session ≡ j.session).
    let m : reach i.base i.parts ≤ reach j.base j.parts = grows.more e in
    let l : number (c.lists c.served) (c.starts c.served) x g ≤ reach i.base i.parts = h.1 in
    inr (sym e ∙ h.0, le_trans l m))
    (λ (l : i.session < j.session). let e : i.session ≡ c.served = h.0 in inl (omega arith))
    (eq-or-lt_of_le grows.up))
    covered

-- fewer batches are covered too
pub covered_less : (c : Client) (g x y : ℕ) (i : Image) → x ≤ y → Covered c g i y → Covered c g i x
covered_less c g x y i low covered =
    ⊎_elim (λ (l : c.served < i.session). inl l)
    (λ (h : (i.session ≡ c.served) × (number (c.lists c.served) (c.starts c.served) y g ≤ reach i.base i.parts)).
    let m : number (c.lists c.served) (c.starts c.served) x g ≤ number (c.lists c.served) (c.starts c.served) y g = number_more (c.lists c.served) (c.starts c.served) x y g low in
    inr (h.0, le_trans m h.1))
    covered

pub settled_less : (v : Volume) (c : Client) (images : ℕ → List Image) (counts : ℕ → Bool) (x y : ℕ) → x ≤ y → Settled v c images counts y → Settled v c images counts x
settled_less v c images counts x y low settled =
    let w : y ≤ length (c.lists c.served) = settled.within in
    record { within = omega arith; all = λ r k i m. covered_less c (v.region r) x y i low (settled.all r k i m) }

-- what every honest replica of a region claims is settled
pub claimed_settled : (v : Volume) (w : World) → Good v w → Guarded v w.counts → (g x : ℕ) → g < v.regions → AllClaim v w.claims g w.client.served x
    → Settled v w.client w.images w.counts x
claimed_settled v w good guarded g x inside all =
    let r : (r : ℕ) × (v.region r ≡ g) × (w.counts r ≡ true) = guarded g inside in
    let here : Claimed w.claims r.0 w.client.served x = all r.0 (good.fresh_honest r.0 (good.counts_fresh r.0 r.2)) r.1 in
    settled_less v w.client w.images w.counts x here.claim.front here.front
    ((good.claims here.claim here.sent).settled (inl (subst (λ n. w.counts n ≡ true) (sym here.node) r.2)) here.session)

-- the place of each base of the session served is settled: it is at most the acknowledged front
pub place_settled : (v : Volume) (w : World) → Good v w → (r : ℕ) (i : Image) → Mem i (w.images r) → i.session ≡ w.client.served
    → Settled v w.client w.images w.counts i.base
place_settled v w good r i m s = settled_less v w.client w.images w.counts i.base w.client.acked ((good.nodes r i m).low s) good.acked

module _ (v : Volume) (w : World) (good : Good v w) (after : ℕ → List Image)
    (comes : (r : ℕ) (j : Image) → Mem j (after r) → Comes w.client (v.region r) (w.images r) j) where
  grew : (r : ℕ) (j : Image) (m : Mem j (after r)) → Grows (comes r j m).from j
  grew r j m =
      let k : Comes w.client (v.region r) (w.images r) j = comes r j m in
      grown v w.client (v.region r) k.from j good.client (good.nodes r k.from k.was) k.how

  nodes_after : NodesGood v w.client after
  nodes_after r j m =
      let k : Comes w.client (v.region r) (w.images r) j = comes r j m in
      still_good v w.client (v.region r) k.from j good.client (good.nodes r k.from k.was) k.how

  settled_after : (x : ℕ) → Settled v w.client w.images w.counts x → Settled v w.client after w.counts x
  settled_after x settled = record {
    within = settled.within;
    all = λ r k j m. covered_grown w.client (v.region r) x (comes r j m).from j (grew r j m) (settled.all r k (comes r j m).from (comes r j m).was);
  }

  above_after : Above w.client after w.counts
  above_after r k j m =
      let a : w.client.served ≤ (comes r j m).from.session = good.above r k (comes r j m).from (comes r j m).was in
      le_trans a (grew r j m).up

  bases_after : BasesHeld w.client after w.counts
  bases_after f s r k j m = (grew r j m).bases f (good.bases f s r k (comes r j m).from (comes r j m).was)

  votes_after : (t : Vote) → Mem t w.votes → VoteGood w.client after w.counts t
  votes_after t sent = record {
    old = (good.votes t sent).old;
    held = λ k s j m. reached t j (grew t.node j m) ((good.votes t sent).held k s (comes t.node j m).from (comes t.node j m).was)
        (above_from k j m);
  }
    where
      above_from : w.counts t.node ≡ true → (j : Image) (m : Mem j (after t.node)) → w.client.served ≤ (comes t.node j m).from.session
      above_from k j m = good.above t.node k (comes t.node j m).from (comes t.node j m).was

      reached : (t : Vote) (j : Image) {i : Image} → Grows i j → (w.client.served < i.session) ⊎ (suc t.before ≤ reach i.base i.parts)
          → w.client.served ≤ i.session → (w.client.served < j.session) ⊎ (suc t.before ≤ reach j.base j.parts)
      reached t j {i} grows held low =
          let up : i.session ≤ j.session = grows.up in
          ⊎_elim (λ (l : w.client.served < i.session). inl (omega arith))
          (λ (h : suc t.before ≤ reach i.base i.parts).
          ⊎_elim (λ (e : i.session ≡ j.session). inr (le_trans h (grows.more e))) (λ (l : i.session < j.session). inl (omega arith)) (eq-or-lt_of_le up))
          held

  claims_after : (t : Claim) → Mem t w.claims → ClaimGood v w.client after w.counts t
  claims_after t sent = record { old = (good.claims t sent).old; settled = λ k s. settled_after t.front ((good.claims t sent).settled k s) }

  staged_after : (t : Told) → Mem t w.staged → StagedGood w.client after w.fresh t
  staged_after t sent = record {
    old = (good.staged t sent).old;
    held = λ k s j m. (grew t.node j m).bases w.client.asked ((good.staged t sent).held k s (comes t.node j m).from (comes t.node j m).was);
  }

  switched_after : (t : Told) → Mem t w.switched → SwitchedGood w.client after w.fresh t
  switched_after t sent = record {
    old = (good.switched t sent).old;
    held = λ k s j m.
        let a : w.client.asked ≤ (comes t.node j m).from.session = (good.switched t sent).held k s (comes t.node j m).from (comes t.node j m).was in
        le_trans a (grew t.node j m).up;
  }

  pub good_after : Good v (record w { images = after })
  good_after = record {
    client = good.client;
    nodes = nodes_after;
    fresh_honest = good.fresh_honest;
    counts_fresh = good.counts_fresh;
    above = above_after;
    bases = bases_after;
    acked = settled_after w.client.acked good.acked;
    votes = votes_after;
    claims = claims_after;
    staged = staged_after;
    switched = switched_after;
    replies = good.replies;
  }
