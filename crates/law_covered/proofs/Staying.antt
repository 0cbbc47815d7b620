-- A claim that is settled stays so along a run: the run is one of the world, too, in which the claim was sent besides.
use Rattle.std.proofs.Common.{◌≡◌, ◌⊎◌, ◌-◌, ℕ, suc, ◌≤◌, List, [], ◌∷◌, ◌++◌, inl, inr, refl, sym, subst, ⊎_elim}
use Rattle.law_prefix.specs.Numbers.{Mem, number}
use Rattle.law_prefix.specs.Images.{Image}
use Rattle.law_prefix.specs.World.{Claim, Reply, World, Volume, Guarded, leader}
use Rattle.law_prefix.specs.Good.{ClaimGood, Good}
use Rattle.law_prefix.specs.Steps.{Claimed, AllClaim, Commits, IsFolded, Licence, Offers, IsRecoverable, HasReplied, AllReplied, IsChoice}
use Rattle.law_prefix.specs.Run.{Step, changed, voted, claimed, told_staged, told_switched, replied, replaced, crashed, submitted, acked, asked, chosen, fetched, switching, opened, Run, begun, further}
use Rattle.law_prefix.proofs.Kept.{good_step}

-- ---- one claim more

mem_front : {A : Type 0} (u t : A) (us : List A) → Mem u us → Mem u (us ++ t ∷ [])
mem_front u t [] at = absurd at
mem_front u t (x ∷ us) (inl same) = inl same
mem_front u t (x ∷ us) (inr later) = inr (mem_front u t us later)

mem_last : {A : Type 0} (t : A) (us : List A) → Mem t (us ++ t ∷ [])
mem_last t [] = inl refl
mem_last t (x ∷ us) = inr (mem_last t us)

mem_parted : {A : Type 0} (u t : A) (us : List A) → Mem u (us ++ t ∷ []) → Mem u us ⊎ (u ≡ t)
mem_parted u t [] at = ⊎_elim (λ (same : u ≡ t). inr same) (λ none. absurd none) at
mem_parted u t (x ∷ us) (inl same) = inl (inl same)
mem_parted u t (x ∷ us) (inr later) = ⊎_elim (λ (in_front : Mem u us). inl (inr in_front)) (λ (same : u ≡ t). inr same) (mem_parted u t us later)

module _ (v : Volume) (t : Claim) where
  abbrev with_claim : World → World
  with_claim w = record w { claims = w.claims ++ t ∷ [] }

  claimed_more : (claims : List Claim) (r e x : ℕ) → Claimed claims r e x → Claimed (claims ++ t ∷ []) r e x
  claimed_more claims r e x one = record { claim = one.claim; sent = mem_front one.claim t claims one.sent; node = one.node; session = one.session; front = one.front }

  all_more : (claims : List Claim) (g e x : ℕ) → AllClaim v claims g e x → AllClaim v (claims ++ t ∷ []) g e x
  all_more claims g e x all r honest place = claimed_more claims r e x (all r honest place)

  commits_more : (w : World) (held : Image) (e before : ℕ) → Commits v w held e before → Commits v (with_claim w) held e before
  commits_more w held e before how = record {
    batch = how.batch;
    votes = how.votes;
    in_order = ⊎_elim (λ (low : before ≤ held.base). inl low) (λ (all : AllClaim v w.claims (leader (w.client.lists e) (before - 1)) e before).
        inr (all_more w.claims (leader (w.client.lists e) (before - 1)) e before all)) how.in_order;
  }

  licence_more : (w : World) (u : Claim) → Licence v w u → Licence v (with_claim w) u
  licence_more w u l = record {
    held = l.held;
    was = l.was;
    session = l.session;
    counted = l.counted;
    how = ⊎_elim (λ (fresh_one : (before : ℕ) × (u.front ≡ suc before) × Commits v w l.held u.session before).
        inl (fresh_one.0, fresh_one.1, commits_more w l.held u.session fresh_one.0 fresh_one.2))
        (λ (folded : IsFolded w.client l.held u.session u.front). inr folded) l.how;
  }

  offers_less : (w : World) (pool : List Reply) (g e y : ℕ) → Offers v (with_claim w) pool g e y → Offers v w pool g e y
  offers_less w pool g e y o = record { reply = o.reply; sent = o.sent; session = o.session; region = o.region; chain = o.chain }

  recoverable_less : (w : World) (pool : List Reply) (e x : ℕ) → IsRecoverable v (with_claim w) pool e x → IsRecoverable v w pool e x
  recoverable_less w pool e x is = record {
    reply = is.reply;
    sent = is.sent;
    session = is.session;
    header = is.header;
    chains = λ g inside. offers_less w pool g e (number (w.client.lists e) (w.client.starts e) x g) (is.chains g inside);
  }

  choice_more : (w : World) (pool : List Reply) (f s : ℕ) → IsChoice v w pool f s → IsChoice v (with_claim w) pool f s
  choice_more w pool f s is = record { known = is.known; above = is.above; within = is.within; greatest = λ e x one. is.greatest e x (recoverable_less w pool e x one) }

  replied_more : (w : World) (pool : List Reply) → AllReplied v w pool → AllReplied v (with_claim w) pool
  replied_more w pool all = record {
    sent = all.sent;
    all = λ r honest. (let one : HasReplied w pool r = all.all r honest in record { reply = one.reply; sent = one.sent; node = one.node; session = one.session });
  }

  step_more : (w x : World) → Step v w x → Step v (with_claim w) (with_claim x)
  step_more w x (changed u after comes) = changed (with_claim u) after comes
  step_more w x (voted u vote votes) = voted (with_claim u) vote (record { batch = votes.batch; held = votes.held })
  step_more w x (claimed u claim licence) = claimed (with_claim u) claim (licence_more u claim licence)
  step_more w x (told_staged u told tells) = told_staged (with_claim u) told (record { known = tells.known; held = tells.held })
  step_more w x (told_switched u told tells) = told_switched (with_claim u) told (record { known = tells.known; held = tells.held })
  step_more w x (replied u reply replies) = replied (with_claim u) reply (record { asked = replies.asked; held = replies.held })
  step_more w x (replaced u images counts fresh how) =
      replaced (with_claim u) images counts fresh (record { counting = how.counting; freshness = how.freshness; counts_fresh = how.counts_fresh; nodes = how.nodes })
  step_more w x (crashed u) = crashed (with_claim u)
  step_more w x (submitted u lists submits) = submitted (with_claim u) lists submits
  step_more w x (acked u acks) =
      acked (with_claim u) (record {
        serving = acks.serving;
        there = acks.there;
        claimed = all_more u.claims (leader (u.client.lists u.client.served) u.client.acked) u.client.served (suc u.client.acked) acks.claimed;
      })
  step_more w x (asked u e phase asks) = asked (with_claim u) e phase asks
  step_more w x (chosen u pool f s lists starts gathering all choice stages) =
      chosen (with_claim u) pool f s lists starts gathering (replied_more u pool all) (choice_more u pool f s choice) stages
  step_more w x (fetched u lists starts fetching stages) = fetched (with_claim u) lists starts fetching stages
  step_more w x (switching u staging told) = switching (with_claim u) staging told
  step_more w x (opened u at told) = opened (with_claim u) at told

  run_more : (w x : World) → Run v w x → Run v (with_claim w) (with_claim x)
  run_more w x (begun u guarded) = begun (with_claim u) guarded
  run_more w x (further u y z run step guarded) = further (with_claim u) (with_claim y) (with_claim z) (run_more u y run) (step_more y z step) guarded

  -- ---- what is good stays good

  good_on : (w x : World) → Run v w x → Good v w → Good v x × Guarded v x.counts
  good_on w x (begun u guarded) good = (good, guarded)
  good_on w x (further u y z run step guarded) good =
      let before : Good v y × Guarded v y.counts = good_on u y run good in
      (good_step v y z step before.0 before.1, guarded)

  good_more : (w : World) → Good v w → ClaimGood v w.client w.images w.counts t → Good v (with_claim w)
  good_more w good one = record {
    client = good.client;
    nodes = good.nodes;
    fresh_honest = good.fresh_honest;
    counts_fresh = good.counts_fresh;
    above = good.above;
    bases = good.bases;
    acked = good.acked;
    votes = good.votes;
    claims = λ u at. ⊎_elim (λ (old : Mem u w.claims). good.claims u old) (λ (same : u ≡ t). subst (ClaimGood v w.client w.images w.counts) (sym same) one) (mem_parted u t w.claims at);
    staged = good.staged;
    switched = good.switched;
    replies = good.replies;
  }

  pub claim_stays : (w x : World) → Run v w x → Good v w → ClaimGood v w.client w.images w.counts t → ClaimGood v x.client x.images x.counts t
  claim_stays w x run good one = (good_on (with_claim w) (with_claim x) (run_more w x run) (good_more w good one)).0.claims t (mem_last t x.claims)
