-- What a node changes and sends is a run of the abstract world.
use Rattle.std.proofs.Common.{◌≡◌, ◌∙◌, ◌⊎◌, inl, inr, ⊎_elim, ℕ, zero, suc, ◌-◌, ◌<◌, ◌≤◌, ◌==◌, true, false, if◌then◌else◌, List, [], ◌∷◌, ◌++◌, map, refl, sym, ap, subst, arith, append_assoc}
use Rattle.std.specs.List.{AllByRecursion}
use Rattle.std.proofs.lemmas.Bool.{eqb-true, eq-eqb}
use Rattle.salus_types.specs.Volume.{Shape}
use Rattle.salus_types.specs.declared.names.NodeName.{NodeName}
use Rattle.salus_types.specs.declared.records.Record.{Record}
use Rattle.salus_types.specs.declared.records.Held.{Held}
use Rattle.salus_message.specs.declared.wire.Message.{Message}
use Rattle.salus_message.specs.declared.wire.Message.TheVariants as message
use Rattle.merkle_region.specs.Tree.{IsAmong}
use Rattle.holding_model.specs.Changing.{Change, changed, after_changes, contents_through}
use Rattle.replica_rules.specs.Views.{View, view_of_base}
use Rattle.replica_rules.specs.Rules.{Sending}
use Rattle.replica_rules.proofs.Agreeing.{IsHeldVote, AllVotes}
use Rattle.list_lemmas.proofs.Each.{all_then}
use Rattle.list_lemmas.proofs.Members.{among_all}
use Rattle.list_lemmas.proofs.Tests.{by_bool, way_with}
use Rattle.law_prefix.specs.Numbers.{Mem}
use Rattle.law_prefix.specs.Images.{Image}
use Rattle.law_prefix.specs.World.{Client, Vote, Claim, Told, Reply, World, Volume, Guarded, leader}
use Rattle.law_prefix.specs.Steps.{Claimed, AllClaim, Voted, IsBatch, Comes, Changes, HoldsBatch, Votes, Commits, IsFolded, Licence, TellsStaged, TellsSwitched, Replies}
use Rattle.law_prefix.specs.Run.{Step, changed as image_changed, voted, claimed, told_staged, told_switched, replied, Run, begun, further}
use Rattle.kept_model.specs.Nodes.{node_number}
use Rattle.kept_model.specs.Images.{part_as, open_place, image_of}
use Rattle.kept_model.specs.Messages.{vote_as, claim_as, told_as, reply_as}
use Rattle.kept_model.specs.Matching.{IsAmongSent}
use Rattle.law_refined.specs.Bringing.{PartFits, StartFits}
use Rattle.law_refined.specs.Standing.{BaseStands, Opened, HeldStands, Certain}
use Rattle.law_refined.specs.Stepping.{with_images, Moves, IsReadAmongSent}
use Rattle.law_refined.proofs.Listed.{mem_among, mem_map, mem_right, mem_split}
use Rattle.law_refined.proofs.Chains.{chain_sessions, chain_fits}
use Rattle.law_refined.proofs.Opens.{opened_session, opened_stands}
use Rattle.law_refined.proofs.Leads.{part_batch}
use Rattle.law_refined.proofs.Turning.{Reaches, OutFits, AllFit}

-- ---- runs

pub run_both : (v : Volume) (w x y : World) → Run v w x → Run v x y → Run v w y
run_both v w x y first (begun z guarded) = first
run_both v w x y first (further a b z more step guarded) = further w b z (run_both v w a b first more) step guarded

pub moves_none : (v : Volume) (w : World) → Guarded v w.counts → Moves v w w
moves_none v w guarded = record {
  run = begun w guarded;
  client = refl;
  counts = refl;
  fresh = refl;
  votes = λ t at. at;
  claims = λ t at. at;
  staged = λ t at. at;
  switched = λ t at. at;
  replies = λ t at. at;
}

pub moves_both : (v : Volume) (w x y : World) → Moves v w x → Moves v x y → Moves v w y
moves_both v w x y a b = record {
  run = run_both v w x y a.run b.run;
  client = b.client ∙ a.client;
  counts = b.counts ∙ a.counts;
  fresh = b.fresh ∙ a.fresh;
  votes = λ t at. b.votes t (a.votes t at);
  claims = λ t at. b.claims t (a.claims t at);
  staged = λ t at. b.staged t (a.staged t at);
  switched = λ t at. b.switched t (a.switched t at);
  replies = λ t at. b.replies t (a.replies t at);
}

moves_one : (v : Volume) (w x : World) → Guarded v w.counts → Step v w x → x.client ≡ w.client → x.counts ≡ w.counts → x.fresh ≡ w.fresh
    → ((t : Vote) → Mem t w.votes → Mem t x.votes) → ((t : Claim) → Mem t w.claims → Mem t x.claims) → ((t : Told) → Mem t w.staged → Mem t x.staged)
    → ((t : Told) → Mem t w.switched → Mem t x.switched) → ((t : Reply) → Mem t w.replies → Mem t x.replies) → Moves v w x
moves_one v w x guarded step client counts fresh votes claims staged switched replies = record {
  run = further w w x (begun w guarded) step (subst (λ k. Guarded v k) (sym counts) guarded);
  client = client;
  counts = counts;
  fresh = fresh;
  votes = votes;
  claims = claims;
  staged = staged;
  switched = switched;
  replies = replies;
}

-- ---- images

pub here_now : (images : ℕ → List Image) (r : ℕ) (now : List Image) → with_images images r now r ≡ now
here_now images r now = ap (λ b. if b then now else images r) (eq-eqb r r refl)

pub images_twice : (images : ℕ → List Image) (r : ℕ) (now later : List Image) (q : ℕ) → with_images (with_images images r now) r later q ≡ with_images images r later q
images_twice images r now later q = elim (q == r) as (λ b. (if b then later else (if b then now else images q)) ≡ (if b then later else images q)) [
  | true ↦ refl
  | false ↦ refl
]

-- where they are these already
pub images_same : (images : ℕ → List Image) (r : ℕ) (now : List Image) → images r ≡ now → (q : ℕ) → images q ≡ with_images images r now q
images_same images r now same q =
    by_bool (q == r) (images q ≡ with_images images r now q)
    (λ here. ap (λ k. images k) (eqb-true q r here) ∙ same ∙ ap (λ b. if b then now else images q) (sym here))
    (λ other. ap (λ b. if b then now else images q) (sym other))

-- A run after which node r has these images, and all else is as it was.
pub record ImagesTo (v : Volume) (r : ℕ) (now : List Image) (w : World) : Type 0 where
  pub images : ℕ → List Image
  pub run : Run v w (record w { images = images })
  pub are : (q : ℕ) → images q ≡ with_images w.images r now q

pub images_moves : (v : Volume) (r : ℕ) (now : List Image) (w : World) (to : ImagesTo v r now w) → Moves v w (record w { images = to.images })
images_moves v r now w to = record {
  run = to.run;
  client = refl;
  counts = refl;
  fresh = refl;
  votes = λ t at. at;
  claims = λ t at. at;
  staged = λ t at. at;
  switched = λ t at. at;
  replies = λ t at. at;
}

module _ (v : Volume) (r : ℕ) where
  -- each of the images is one that was there, after a change
  pub images_one : (now : List Image) (w : World) → Guarded v w.counts → ((j : Image) → Mem j now → Comes w.client (v.region r) (w.images r) j) → ImagesTo v r now w
  images_one now w guarded comes =
      let after : ℕ → List Image = with_images w.images r now in
      let each : (q : ℕ) (j : Image) → Mem j (after q) → Comes w.client (v.region q) (w.images q) j = λ q j at.
      (way_with (q == r) now (w.images q) (λ l. Mem j l → Comes w.client (v.region q) (w.images q) j)
      (λ here at. subst (λ k. Comes w.client (v.region k) (w.images k) j) (sym (eqb-true q r here)) (comes j at))
      (λ other at. record { from = j; was = at; how = inl refl })) at in
      record { images = after; run = further w w (record w { images = after }) (begun w guarded) (image_changed w after each) guarded; are = λ q. refl }

  images_then : (now later : List Image) (w : World) (first : ImagesTo v r now w) → ImagesTo v r later (record w { images = first.images }) → ImagesTo v r later w
  images_then now later w first next = record {
    images = next.images;
    run = run_both v w (record w { images = first.images }) (record w { images = next.images }) first.run next.run;
    are = λ q. next.are q ∙ ap (λ l. if q == r then later else l) (first.are q) ∙ images_twice w.images r now later q;
  }

  images_still : (w : World) → Guarded v w.counts → (now : List Image) → w.images r ≡ now → ImagesTo v r now w
  images_still w guarded now same = images_one now w guarded (λ j at. record { from = j; was = subst (λ l. Mem j l) (sym same) at; how = inl refl })

  module _ (shape : Shape) where
    -- the changes of a handling, one after the other
    pub changes_to : (held : Held) (changes : List Change) (w : World) → Guarded v w.counts → w.images r ≡ image_of held ∷ [] → Reaches shape v (v.region r) w.client w.votes w.claims held changes
        → ImagesTo v r (image_of (after_changes shape held changes) ∷ []) w
    unfolding Reaches after_changes
    changes_to held [] w guarded same reaches = images_still w guarded (image_of held ∷ []) same
    changes_to held (change ∷ changes) w guarded same reaches =
        let next : Held = changed shape held change in
        let first : ImagesTo v r (image_of next ∷ []) w =
        images_one (image_of next ∷ []) w guarded (λ j at. ⊎_elim (λ (is : j ≡ image_of next). record {
          from = image_of held;
          was = subst (λ l. Mem (image_of held) l) (sym same) (inl refl);
          how = subst (λ k. Changes w.client (v.region r) (image_of held) k) (sym is) reaches.0;
        }) (λ none. absurd none) at) in
        let x : World = record w { images = first.images } in
        images_then (image_of next ∷ []) (image_of (after_changes shape next changes) ∷ []) w first
        (changes_to next changes x guarded (first.are r ∙ here_now w.images r (image_of next ∷ [])) reaches.2)

    -- the images of what a handling may leave, where some of its changes stand
    pub contents_to : (seen : List Image) (held : Held) (changes : List Change) (w : World) → Guarded v w.counts → w.images r ≡ seen ++ image_of held ∷ []
        → Reaches shape v (v.region r) w.client w.votes w.claims held changes → ImagesTo v r (seen ++ map (λ (h : Held). image_of h) (contents_through shape held changes)) w
    unfolding Reaches contents_through
    contents_to seen held [] w guarded same reaches = images_still w guarded (seen ++ image_of held ∷ []) same
    contents_to seen held (change ∷ changes) w guarded same reaches =
        let next : Held = changed shape held change in
        let more : List Image = seen ++ image_of held ∷ [] in
        let now : List Image = more ++ image_of next ∷ [] in
        let first : ImagesTo v r now w = images_one now w guarded (λ j at.
        ⊎_elim (λ (old : Mem j more). record { from = j; was = subst (λ l. Mem j l) (sym same) old; how = inl refl })
        (λ (new : Mem j (image_of next ∷ [])). ⊎_elim (λ (is : j ≡ image_of next). record {
          from = image_of held;
          was = subst (λ l. Mem (image_of held) l) (sym same) (mem_right (image_of held) seen (image_of held ∷ []) (inl refl));
          how = subst (λ k. Changes w.client (v.region r) (image_of held) k) (sym is) reaches.0;
        }) (λ none. absurd none) new)
        (mem_split j more (image_of next ∷ []) at)) in
        let x : World = record w { images = first.images } in
        let rest : ImagesTo v r (more ++ map (λ (h : Held). image_of h) (contents_through shape next changes)) x =
        contents_to more next changes x guarded (first.are r ∙ here_now w.images r now) reaches.2 in
        images_then now (seen ++ image_of held ∷ map (λ (h : Held). image_of h) (contents_through shape next changes)) w first
        (subst (λ l. ImagesTo v r l x) (append_assoc seen (image_of held ∷ []) (map (λ (h : Held). image_of h) (contents_through shape next changes))) rest)

    -- a load of one of the contents
    pub load_to : (held : Held) (contents : List Held) (w : World) → Guarded v w.counts → w.images r ≡ map (λ (h : Held). image_of h) contents → IsAmong held contents → ImagesTo v r (image_of held ∷ []) w
    load_to held contents w guarded same among =
        images_one (image_of held ∷ []) w guarded (λ j at. ⊎_elim (λ (is : j ≡ image_of held). record {
          from = image_of held;
          was = subst (λ l. Mem (image_of held) l) (sym same) (mem_map (λ (h : Held). image_of h) held contents (mem_among held contents among));
          how = inl is;
        }) (λ none. absurd none) at)

-- ---- messages

-- votes and claims that were sent before are still there
pub sure_wider : (v : Volume) (c : Client) (votes more : List Vote) (claims wider : List Claim) (e place x : ℕ) → ((t : Vote) → Mem t votes → Mem t more) → ((t : Claim) → Mem t claims → Mem t wider)
    → Certain v c votes claims e place x → Certain v c more wider e place x
sure_wider v c votes more claims wider e place x vote claim sure = record {
  counted = sure.counted;
  small = sure.small;
  batch = sure.batch;
  voted = λ r honest touched. let t : Voted votes r e (x - 1) = sure.voted r honest touched in record { vote = t.vote; sent = vote t.vote t.sent; node = t.node; session = t.session; same = t.same };
  in_order = ⊎_elim (λ (low : x - 1 ≤ place). inl low)
      (λ (all : AllClaim v claims (leader (c.lists e) (x - 1 - 1)) e (x - 1)).
      inr (λ r honest place. let t : Claimed claims r e (x - 1) = all r honest place in record { claim = t.claim; sent = claim t.claim t.sent; node = t.node; session = t.session; front = t.front })) sure.in_order;
}

module _ (shape : Shape) (v : Volume) (g : ℕ) where
  fits_wider : (c : Client) (votes more : List Vote) (claims wider : List Claim) (now : Held) → ((t : Vote) → Mem t votes → Mem t more) → ((t : Claim) → Mem t claims → Mem t wider) → (m : Message)
      → OutFits shape v g c votes claims now m → OutFits shape v g c more wider now m
  fits_wider c votes more claims wider now vote claim (message.Committed m) fits = (
    fits.0,
    ⊎_elim (λ (sure : Certain v c votes claims now.session (open_place now) m.front). inl (sure_wider v c votes more claims wider now.session (open_place now) m.front vote claim sure))
        (λ (folded : (m.front ≤ open_place now) × IsBatch c now.session (m.front - 1)). inr folded) fits.1,
  )
  fits_wider c votes more claims wider now vote claim (message.Prepared m) fits = tt
  fits_wider c votes more claims wider now vote claim (message.Staged m) fits = fits
  fits_wider c votes more claims wider now vote claim (message.Switched m) fits = fits
  fits_wider c votes more claims wider now vote claim (message.Gathered m) fits = fits
  fits_wider c votes more claims wider now vote claim (message.Part m) fits = tt
  fits_wider c votes more claims wider now vote claim (message.Ask m) fits = tt
  fits_wider c votes more claims wider now vote claim (message.Answer m) fits = tt
  fits_wider c votes more claims wider now vote claim (message.Gather m) fits = tt
  fits_wider c votes more claims wider now vote claim (message.Stage m) fits = tt
  fits_wider c votes more claims wider now vote claim (message.Switch m) fits = tt
  fits_wider c votes more claims wider now vote claim (message.Dump m) fits = tt
  fits_wider c votes more claims wider now vote claim (message.Dumped m) fits = tt

  -- a part that is held is the client's, of the open session
  pub part_held : (c : Client) (now : Held) → HeldStands shape g c now → (rec : Record) → IsAmong rec now.parts → PartFits c rec × (rec.header.session ≡ now.session)
  part_held c now holds rec among =
      ⊎_elim (λ (closed : (now.session ≡ 0) × (now.parts ≡ [])). absurd (subst (λ (l : List Record). IsAmong rec l) closed.1 among))
      (λ (open_view : (0 < now.session) × (view : View) × Opened shape g c now view).
      let o : Opened shape g c now open_view.1 = open_view.2 in (
        among_all (PartFits c) now.parts rec among (chain_fits shape g c now.session (view_of_base o.base) now.parts open_view.1 o.chain),
        among_all (λ k. k.header.session ≡ now.session) now.parts rec among (chain_sessions shape g c now.session (view_of_base o.base) now.parts open_view.1 o.chain),
      )) holds.open_is

  -- the open session is known
  pub session_known : (c : Client) (now : Held) → Mem zero c.known → HeldStands shape g c now → Mem now.session c.known
  session_known c now blank holds =
      ⊎_elim (λ (closed : (now.session ≡ 0) × (now.parts ≡ [])). subst (λ e. Mem e c.known) (sym closed.0) blank)
      (λ (open_view : (0 < now.session) × (view : View) × Opened shape g c now view).
      let o : Opened shape g c now open_view.1 = open_view.2 in
      let stands : BaseStands shape g c now.session o.base = opened_stands shape g c now open_view.1 holds o in
      let known : Mem o.base.rec.header.session c.known =
      ⊎_elim (λ (start : StartFits c o.base.rec). start.known) (λ (part : (o.base.rec.header.session ≡ now.session) × PartFits c o.base.rec). part.1.known) stands.fits in
      subst (λ e. Mem e c.known) (opened_session shape g c now open_view.1 o) known) holds.open_is

  -- A run that sends a message; images stay as they are.
  pub record Sent (name : NodeName) (outs : List Sending) (w : World) : Type 0 where
    pub after : World
    pub moves : Moves v w after
    pub images : after.images ≡ w.images
    pub sent : AllByRecursion (λ out. IsAmongSent shape after name out.message) outs

  record SentOne (name : NodeName) (m : Message) (w : World) : Type 0 where
    pub after : World
    pub moves : Moves v w after
    pub images : after.images ≡ w.images
    pub sent : IsAmongSent shape after name m

  pub still_sent : (name : NodeName) (m : Message) (w x : World) → Moves v w x → IsAmongSent shape w name m → IsAmongSent shape x name m
  still_sent name (message.Prepared m) w x moves at = moves.votes (vote_as shape name m) at
  still_sent name (message.Committed m) w x moves at = (at.0, moves.claims (claim_as shape name at.0 m) at.1)
  still_sent name (message.Staged m) w x moves at = moves.staged (told_as shape name m.session) at
  still_sent name (message.Switched m) w x moves at = moves.switched (told_as shape name m.session) at
  still_sent name (message.Gathered m) w x moves at = moves.replies (reply_as shape name m.session m.held) at
  still_sent name (message.Part m) w x moves at = tt
  still_sent name (message.Ask m) w x moves at = tt
  still_sent name (message.Answer m) w x moves at = tt
  still_sent name (message.Gather m) w x moves at = tt
  still_sent name (message.Stage m) w x moves at = tt
  still_sent name (message.Switch m) w x moves at = tt
  still_sent name (message.Dump m) w x moves at = tt
  still_sent name (message.Dumped m) w x moves at = tt

  pub all_still : (name : NodeName) (outs : List Sending) (w x : World) → Moves v w x → AllByRecursion (λ out. IsReadAmongSent shape w name out.message) outs → AllByRecursion (λ out. IsReadAmongSent shape x name out.message) outs
  all_still name outs w x moves all =
      all_then (λ out. IsReadAmongSent shape w name out.message) (λ out. IsReadAmongSent shape x name out.message) (λ out sent read is. still_sent name read w x moves (sent read is)) outs all

  module _ (name : NodeName) (now : Held) (w : World) (guarded : Guarded v w.counts) (blank : Mem zero w.client.known) (images : w.images (node_number shape name) ≡ image_of now ∷ [])
      (holds : HeldStands shape g w.client now) where
    r : ℕ
    r = node_number shape name

    -- each image is that of what is held
    each_image : (P : Image → Type 0) → P (image_of now) → (i : Image) → Mem i (w.images (node_number shape name)) → P i
    each_image P p i at = ⊎_elim (λ (is : i ≡ image_of now). subst P (sym is) p) (λ none. absurd none) (subst (λ l. Mem i l) images at)

    there : Mem (image_of now) (w.images (node_number shape name))
    there = subst (λ l. Mem (image_of now) l) (sym images) (inl refl)

    none_sent : (m : Message) → IsAmongSent shape w name m → SentOne name m w
    none_sent m at = record { after = w; moves = moves_none v w guarded; images = refl; sent = at }

    send_one : (m : Message) → IsHeldVote now m → OutFits shape v g w.client w.votes w.claims now m → SentOne name m w
    send_one (message.Prepared m) vote fits =
        let rec : Record = vote.0 in
        let held : PartFits w.client rec × (rec.header.session ≡ now.session) = part_held w.client now holds rec vote.1 in
        let t : Vote = vote_as shape name m in
        let seq : rec.header.seq - 1 ≡ m.seq - 1 = ap (λ x. x - 1) vote.3 in
        let batch : IsBatch w.client m.session (m.seq - 1) =
        subst (λ e. IsBatch w.client e (m.seq - 1)) vote.2 (subst (λ x. IsBatch w.client rec.header.session x) seq (part_batch w.client rec held.0)) in
        let votes : Votes v w t = record {
          batch = batch;
          held = each_image (λ i. HoldsBatch i m.session (m.seq - 1)) (sym held.1 ∙ vote.2, inl (part_as rec, mem_map (λ k. part_as k) rec now.parts (mem_among rec now.parts vote.1), seq));
        } in
        let x : World = record w { votes = t ∷ w.votes } in
        record {
          after = x;
          moves = moves_one v w x guarded (voted w t votes) refl refl refl (λ u at. inr at) (λ u at. at) (λ u at. at) (λ u at. at) (λ u at. at);
          images = refl;
          sent = inl refl;
        }
    send_one (message.Committed m) vote fits =
        let t : Claim = claim_as shape name (w.counts (node_number shape name)) m in
        let same : now.session ≡ m.session = sym fits.0 in
        let how : ((before : ℕ) × (m.front ≡ suc before) × Commits v w (image_of now) m.session before) ⊎ IsFolded w.client (image_of now) m.session m.front =
        ⊎_elim (λ (sure : Certain v w.client w.votes w.claims now.session (open_place now) m.front).
        let its : Certain v w.client w.votes w.claims m.session (open_place now) m.front = subst (λ e. Certain v w.client w.votes w.claims e (open_place now) m.front) same sure in
        let counted : 0 < m.front = its.counted in
        inl (m.front - 1, omega arith, record { batch = its.batch; votes = its.voted; in_order = its.in_order }))
        (λ (folded : (m.front ≤ open_place now) × IsBatch w.client now.session (m.front - 1)). inr (record { number = folded.0; batch = subst (λ e. IsBatch w.client e (m.front - 1)) same folded.1 })) fits.1 in
        let licence : Licence v w t = record { held = image_of now; was = there; session = same; counted = refl; how = how } in
        let x : World = record w { claims = t ∷ w.claims } in
        record {
          after = x;
          moves = moves_one v w x guarded (claimed w t licence) refl refl refl (λ u at. at) (λ u at. inr at) (λ u at. at) (λ u at. at) (λ u at. at);
          images = refl;
          sent = (w.counts (node_number shape name), inl refl);
        }
    send_one (message.Staged m) vote fits =
        let t : Told = told_as shape name m.session in
        let tells : TellsStaged w t = record { known = fits.1; held = each_image (λ i. Mem m.session i.later) fits.0 } in
        let x : World = record w { staged = t ∷ w.staged } in
        record {
          after = x;
          moves = moves_one v w x guarded (told_staged w t tells) refl refl refl (λ u at. at) (λ u at. at) (λ u at. inr at) (λ u at. at) (λ u at. at);
          images = refl;
          sent = inl refl;
        }
    send_one (message.Switched m) vote fits =
        let t : Told = told_as shape name m.session in
        let tells : TellsSwitched w t = record { known = subst (λ e. Mem e w.client.known) fits (session_known w.client now blank holds); held = each_image (λ i. i.session ≡ m.session) fits } in
        let x : World = record w { switched = t ∷ w.switched } in
        record {
          after = x;
          moves = moves_one v w x guarded (told_switched w t tells) refl refl refl (λ u at. at) (λ u at. at) (λ u at. at) (λ u at. inr at) (λ u at. at);
          images = refl;
          sent = inl refl;
        }
    send_one (message.Gathered m) vote fits =
        let t : Reply = reply_as shape name m.session m.held in
        let tells : Replies w t = record { asked = fits.1; held = subst (λ (h : Held). Mem (image_of h) (w.images (node_number shape name))) (sym fits.0) there } in
        let x : World = record w { replies = t ∷ w.replies } in
        record {
          after = x;
          moves = moves_one v w x guarded (replied w t tells) refl refl refl (λ u at. at) (λ u at. at) (λ u at. at) (λ u at. at) (λ u at. inr at);
          images = refl;
          sent = inl refl;
        }
    send_one (message.Part m) vote fits = none_sent (message.Part m) tt
    send_one (message.Ask m) vote fits = none_sent (message.Ask m) tt
    send_one (message.Answer m) vote fits = none_sent (message.Answer m) tt
    send_one (message.Gather m) vote fits = none_sent (message.Gather m) tt
    send_one (message.Stage m) vote fits = none_sent (message.Stage m) tt
    send_one (message.Switch m) vote fits = none_sent (message.Switch m) tt
    send_one (message.Dump m) vote fits = none_sent (message.Dump m) tt
    send_one (message.Dumped m) vote fits = none_sent (message.Dumped m) tt

  -- all of them, in their order
  pub send_all : (name : NodeName) (now : Held) (outs : List Sending) (w : World) → Guarded v w.counts → Mem zero w.client.known → w.images (node_number shape name) ≡ image_of now ∷ []
      → HeldStands shape g w.client now → AllVotes now outs → AllFit shape v g w.client w.votes w.claims now outs → Sent name outs w
  send_all name now [] w guarded blank images holds votes fit = record { after = w; moves = moves_none v w guarded; images = refl; sent = tt }
  send_all name now (out ∷ outs) w guarded blank images holds votes fit =
      let one : SentOne name out.message w = send_one name now w guarded blank images holds out.message votes.0 fit.0 in
      let x : World = one.after in
      let moves : Moves v w x = one.moves in
      let back : w.client ≡ x.client = sym moves.client in
      let wider : AllFit shape v g w.client x.votes x.claims now outs =
      all_then (λ o. OutFits shape v g w.client w.votes w.claims now o.message) (λ o. OutFits shape v g w.client x.votes x.claims now o.message)
      (λ o fits. fits_wider w.client w.votes x.votes w.claims x.claims now moves.votes moves.claims o.message fits) outs fit.1 in
      let rest : Sent name outs x =
      send_all name now outs x (subst (λ k. Guarded v k) (sym moves.counts) guarded) (subst (λ c. Mem zero c.known) back blank) (ap (λ k. k (node_number shape name)) one.images ∙ images)
      (subst (λ c. HeldStands shape g c now) back holds) votes.1 (subst (λ c. AllFit shape v g c x.votes x.claims now outs) back wider) in
      record {
        after = rest.after;
        moves = moves_both v w x rest.after moves rest.moves;
        images = rest.images ∙ one.images;
        sent = (still_sent name out.message x rest.after rest.moves one.sent, rest.sent);
      }
