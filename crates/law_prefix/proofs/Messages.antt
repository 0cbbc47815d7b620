-- A node that counts, or not, sends a message: a vote, a claim, Staged, Switched, a reply. A node is replaced.
use Rattle.std.proofs.Common.{◌≡◌, ℕ, zero, suc, ◌-◌, ◌≤◌, ◌<◌, Bool, true, false, List, ◌∷◌, ◌⊎◌, length, refl, sym, ◌∙◌, arith, le_trans, subst, ⊎_elim, inl, inr, eq-or-lt_of_le}
use Rattle.law_prefix.specs.Numbers.{Mem, touches, number}
use Rattle.law_prefix.specs.Images.{Part, Image, IsLinked, reach}
use Rattle.law_prefix.specs.World.{Client, Volume, Claim, Vote, Told, Reply, World, Guarded, leader}
use Rattle.law_prefix.specs.Good.{ImageGood, NodesGood, ClientGood, Covered, Settled, VoteGood, ClaimGood, StagedGood, SwitchedGood, ReplyGood, Good}
use Rattle.law_prefix.specs.Steps.{AllClaim, Voted, IsBatch, Votes, Commits, IsFolded, Licence, TellsStaged, TellsSwitched, Replies, IsBlank, Replaces}
use Rattle.law_prefix.proofs.Counting.{number_untouched, number_touched, number_start}
use Rattle.law_prefix.proofs.Linking.{reach_held, reach_above}
use Rattle.law_prefix.proofs.Changing.{settled_less, claimed_settled, place_settled}
use Rattle.law_prefix.proofs.Growing.{split}
use Rattle.law_prefix.proofs.Taken.{length_taken}

-- a batch is one of a session that was opened
pub batch_opened : (v : Volume) (c : Client) → ClientGood v c → (e before : ℕ) → IsBatch c e before → e ≤ c.served
batch_opened v c client e before batch =
    ⊎_elim (λ (l : e ≤ c.served). l)
    (λ (l : c.served < e).
    let u = client.unopened e batch.known l in
    let short : length (c.lists e) ≤ c.starts e = rw u.taken (length_taken (c.starts e) (c.lists c.served)) in
    let a : c.starts e ≤ before = batch.after_start in
    let b : before < length (c.lists e) = batch.submitted in
    absurd (omega arith))
    (split e c.served)

blank_good : (v : Volume) (c : Client) → ClientGood v c → (g : ℕ) (i : Image) → IsBlank i → ImageGood c g i
unfolding IsLinked
blank_good v c client g i blank =
    let up : zero < c.served = client.served_up in
    let s : i.session ≡ zero = blank.session in
    let b : i.base ≡ zero = blank.base in
    let z : c.starts zero ≡ zero = client.blank_start in
    let n : number (c.lists zero) zero zero g ≡ zero = number_start (c.lists zero) zero g in
    record {
      known = rw s client.blank_known;
      start = rw (s, z) (omega arith);
      within = rw b (omega arith);
      is_number = rw (s, b, z) n;
      linked = rw blank.parts tt;
      later = λ f h. absurd (rw blank.later at h);
      origin = λ above. absurd (omega arith);
      low = λ e. absurd (omega arith);
    }

module _ (v : Volume) (w : World) (good : Good v w) where
  pub good_voted : (t : Vote) → Votes v w t → Good v (record w { votes = t ∷ w.votes })
  good_voted t votes = record {
    client = good.client;
    nodes = good.nodes;
    fresh_honest = good.fresh_honest;
    counts_fresh = good.counts_fresh;
    above = good.above;
    bases = good.bases;
    acked = good.acked;
    votes = λ u sent. ⊎_elim (λ (e : u ≡ t). subst (λ x. VoteGood w.client w.images w.counts x) (sym e) here) (λ (m : Mem u w.votes). good.votes u m) sent;
    claims = good.claims;
    staged = good.staged;
    switched = good.switched;
    replies = good.replies;
  }
    where
      holds : (i : Image) → Mem i (w.images t.node) → i.session ≡ w.client.served → ((p : Part) × Mem p i.parts × (p.before ≡ t.before)) ⊎ (suc t.before ≤ i.base)
          → suc t.before ≤ reach i.base i.parts
      holds i m s =
          let ok : ImageGood w.client (v.region t.node) i = good.nodes t.node i m in
          ⊎_elim
          (λ (p : (p : Part) × Mem p i.parts × (p.before ≡ t.before)).
          subst (λ b. suc b ≤ reach i.base i.parts) p.2
          (reach_held (w.client.lists i.session) (w.client.starts i.session) (v.region t.node) i.base i.parts p.0 ok.linked p.1))
          (λ (l : suc t.before ≤ i.base). le_trans l (reach_above (w.client.lists i.session) (w.client.starts i.session) (v.region t.node) i.base i.parts ok.linked))

      here : VoteGood w.client w.images w.counts t
      here = record {
        old = batch_opened v w.client good.client t.session t.before votes.batch;
        held = λ k s i m. inr (holds i m ((votes.held i m).0 ∙ s) (votes.held i m).1);
      }

  module _ (guarded : Guarded v w.counts) (t : Claim) (licence : Licence v w t) where
    before_settled : w.counts t.node ≡ true → t.session ≡ w.client.served → (before : ℕ) → Commits v w licence.held t.session before
        → Settled v w.client w.images w.counts before
    before_settled k s before commits =
        ⊎_elim
        (λ (l : before ≤ licence.held.base).
        settled_less v w.client w.images w.counts before licence.held.base l (place_settled v w good t.node licence.held licence.was (licence.session ∙ s)))
        (λ (all : AllClaim v w.claims (leader (w.client.lists t.session) (before - 1)) t.session before).
        claimed_settled v w good guarded (leader (w.client.lists t.session) (before - 1)) before (good.client.inside t.session (before - 1))
        (subst (λ e. AllClaim v w.claims (leader (w.client.lists t.session) (before - 1)) e before) s all))
        commits.in_order

    -- the heart: a batch that the leader commits is covered
    committed_covered : (before : ℕ) → Commits v w licence.held t.session before → t.session ≡ w.client.served → Settled v w.client w.images w.counts before
        → (r : ℕ) → w.counts r ≡ true → (i : Image) → Mem i (w.images r)
        → (b : Bool) → touches (w.client.lists w.client.served) before (v.region r) ≡ b
        → Covered w.client (v.region r) i (suc before)
    committed_covered before commits s settled r k i m true touched =
        let asked : touches (w.client.lists t.session) before (v.region r) ≡ true = subst (λ e. touches (w.client.lists e) before (v.region r) ≡ true) (sym s) touched in
        let voted : Voted w.votes r t.session before = commits.votes r (good.fresh_honest r (good.counts_fresh r k)) asked in
        let counts : w.counts voted.vote.node ≡ true = subst (λ n. w.counts n ≡ true) (sym voted.node) k in
        let here : Mem i (w.images voted.vote.node) = subst (λ n. Mem i (w.images n)) (sym voted.node) m in
        let start : w.client.starts w.client.served ≤ before = subst (λ e. w.client.starts e ≤ before) s commits.batch.after_start in
        let is : number (w.client.lists w.client.served) (w.client.starts w.client.served) (suc before) (v.region r) ≡ suc before =
        number_touched (w.client.lists w.client.served) (w.client.starts w.client.served) before (v.region r) start touched in
        ⊎_elim (λ (l : w.client.served < i.session). inl l)
        (λ (h : suc voted.vote.before ≤ reach i.base i.parts).
        ⊎_elim (λ (e : w.client.served ≡ i.session). let same : voted.vote.before ≡ before = voted.same in inr (sym e, omega arith))
        (λ (l : w.client.served < i.session). inl l) (eq-or-lt_of_le (good.above r k i m)))
        ((good.votes voted.vote voted.sent).held counts (voted.session ∙ s) i here)
    committed_covered before commits s settled r k i m false untouched =
        let e : number (w.client.lists w.client.served) (w.client.starts w.client.served) (suc before) (v.region r) ≡ number (w.client.lists w.client.served) (w.client.starts w.client.served) before (v.region r) =
        number_untouched (w.client.lists w.client.served) (w.client.starts w.client.served) before (v.region r) untouched in
        rw e (settled.all r k i m)

    committed_settled : w.counts t.node ≡ true → t.session ≡ w.client.served → (before : ℕ) → Commits v w licence.held t.session before
        → Settled v w.client w.images w.counts (suc before)
    committed_settled k s before commits =
        let settled : Settled v w.client w.images w.counts before = before_settled k s before commits in
        record {
          within = subst (λ e. before < length (w.client.lists e)) s commits.batch.submitted;
          all = λ r c i m. committed_covered before commits s settled r c i m (touches (w.client.lists w.client.served) before (v.region r)) refl;
        }

    claim_good : ClaimGood v w.client w.images w.counts t
    claim_good = record {
      old = ⊎_elim
          (λ (h : (before : ℕ) × (t.front ≡ suc before) × Commits v w licence.held t.session before).
          batch_opened v w.client good.client t.session h.0 h.2.batch)
          (λ (h : IsFolded w.client licence.held t.session t.front). batch_opened v w.client good.client t.session (t.front - 1) h.batch)
          licence.how;
      settled = λ o s. let k : w.counts t.node ≡ true = ⊎_elim (λ (a : w.counts t.node ≡ true). a) (λ (a : t.counted ≡ true). sym licence.counted ∙ a) o in ⊎_elim
          (λ (h : (before : ℕ) × (t.front ≡ suc before) × Commits v w licence.held t.session before).
          subst (λ x. Settled v w.client w.images w.counts x) (sym h.1) (committed_settled k s h.0 h.2))
          (λ (h : IsFolded w.client licence.held t.session t.front).
          settled_less v w.client w.images w.counts t.front licence.held.base h.number (place_settled v w good t.node licence.held licence.was (licence.session ∙ s)))
          licence.how;
    }

    pub good_claimed : Good v (record w { claims = t ∷ w.claims })
    good_claimed = record {
      client = good.client;
      nodes = good.nodes;
      fresh_honest = good.fresh_honest;
      counts_fresh = good.counts_fresh;
      above = good.above;
      bases = good.bases;
      acked = good.acked;
      votes = good.votes;
      claims = λ u sent. ⊎_elim (λ (e : u ≡ t). subst (λ x. ClaimGood v w.client w.images w.counts x) (sym e) claim_good) (λ (m : Mem u w.claims). good.claims u m) sent;
      staged = good.staged;
      switched = good.switched;
      replies = good.replies;
    }

  pub good_staged : (t : Told) → TellsStaged w t → Good v (record w { staged = t ∷ w.staged })
  good_staged t tells = record {
    client = good.client;
    nodes = good.nodes;
    fresh_honest = good.fresh_honest;
    counts_fresh = good.counts_fresh;
    above = good.above;
    bases = good.bases;
    acked = good.acked;
    votes = good.votes;
    claims = good.claims;
    staged = λ u sent. ⊎_elim (λ (e : u ≡ t). subst (λ x. StagedGood w.client w.images w.fresh x) (sym e) here) (λ (m : Mem u w.staged). good.staged u m) sent;
    switched = good.switched;
    replies = good.replies;
  }
    where
      here : StagedGood w.client w.images w.fresh t
      here = record {
        old = good.client.known_asked t.session tells.known;
        held = λ k s i m. inl (subst (λ e. Mem e i.later) s (tells.held i m));
      }

  pub good_switched : (t : Told) → TellsSwitched w t → Good v (record w { switched = t ∷ w.switched })
  good_switched t tells = record {
    client = good.client;
    nodes = good.nodes;
    fresh_honest = good.fresh_honest;
    counts_fresh = good.counts_fresh;
    above = good.above;
    bases = good.bases;
    acked = good.acked;
    votes = good.votes;
    claims = good.claims;
    staged = good.staged;
    switched = λ u sent. ⊎_elim (λ (e : u ≡ t). subst (λ x. SwitchedGood w.client w.images w.fresh x) (sym e) here) (λ (m : Mem u w.switched). good.switched u m) sent;
    replies = good.replies;
  }
    where
      here : SwitchedGood w.client w.images w.fresh t
      here = record {
        old = good.client.known_asked t.session tells.known;
        held = λ k s i m. let e : i.session ≡ t.session = tells.held i m in omega arith;
      }

  pub good_replied : (t : Reply) → Replies w t → Good v (record w { replies = t ∷ w.replies })
  good_replied t replies = record {
    client = good.client;
    nodes = good.nodes;
    fresh_honest = good.fresh_honest;
    counts_fresh = good.counts_fresh;
    above = good.above;
    bases = good.bases;
    acked = good.acked;
    votes = good.votes;
    claims = good.claims;
    staged = good.staged;
    switched = good.switched;
    replies = λ u sent. ⊎_elim (λ (e : u ≡ t). subst (λ x. ReplyGood v w.client w.counts x) (sym e) here) (λ (m : Mem u w.replies). good.replies u m) sent;
  }
    where
      here : ReplyGood v w.client w.counts t
      here = record {
        old = replies.asked;
        held = λ p s k. record {
          image = good.nodes t.node t.held replies.held;
          above = good.above t.node k t.held replies.held;
          covered = good.acked.all t.node k t.held replies.held;
          bases = λ f m. good.bases f m t.node k t.held replies.held;
        };
      }

  pub good_replaced : (images : ℕ → List Image) (counts fresh : ℕ → Bool) → Replaces w images counts fresh
      → Good v (record w { images = images; counts = counts; fresh = fresh })
  good_replaced images counts fresh how = record {
    client = good.client;
    nodes = nodes;
    fresh_honest = λ r k. good.fresh_honest r (how.freshness r k).0;
    counts_fresh = how.counts_fresh;
    above = λ r k i m. good.above r (how.counting r k).0 i (was r k i m);
    bases = λ f s r k i m. good.bases f s r (how.counting r k).0 i (was r k i m);
    acked = settled w.client.acked good.acked;
    votes = λ t m. record {
      old = (good.votes t m).old;
      held = λ k s i n. (good.votes t m).held (how.counting t.node k).0 s i (was t.node k i n);
    };
    claims = λ t m. record { old = (good.claims t m).old; settled = λ o s. settled t.front ((good.claims t m).settled (was_counting t o) s) };
    staged = λ t m. record { old = (good.staged t m).old; held = λ k s i n. (good.staged t m).held (how.freshness t.node k).0 s i (fresh_was t.node k i n) };
    switched = λ t m. record { old = (good.switched t m).old; held = λ k s i n. (good.switched t m).held (how.freshness t.node k).0 s i (fresh_was t.node k i n) };
    replies = λ t m. record { old = (good.replies t m).old; held = λ p s k. (good.replies t m).held p s (how.counting t.node k).0 };
  }
    where
      was_counting : (t : Claim) → (counts t.node ≡ true) ⊎ (t.counted ≡ true) → (w.counts t.node ≡ true) ⊎ (t.counted ≡ true)
      was_counting t o = ⊎_elim (λ (k : counts t.node ≡ true). inl (how.counting t.node k).0) (λ (k : t.counted ≡ true). inr k) o

      was : (r : ℕ) → counts r ≡ true → (i : Image) → Mem i (images r) → Mem i (w.images r)
      was r k i m = subst (λ l. Mem i l) (how.counting r k).1 m

      fresh_was : (r : ℕ) → fresh r ≡ true → (i : Image) → Mem i (images r) → Mem i (w.images r)
      fresh_was r k i m = subst (λ l. Mem i l) (how.freshness r k).1 m

      settled : (x : ℕ) → Settled v w.client w.images w.counts x → Settled v w.client images counts x
      settled x s = record { within = s.within; all = λ r k i m. s.all r (how.counting r k).0 i (was r k i m) }

      nodes : NodesGood v w.client images
      nodes r i m = ⊎_elim (λ (b : Mem i (w.images r)). good.nodes r i b) (λ (b : IsBlank i). blank_good v w.client good.client (v.region r) i b) (how.nodes r i m)
