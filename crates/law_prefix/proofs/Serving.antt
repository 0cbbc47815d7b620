-- The client's steps while one session is served last: submit, ack, a crash, a restart asked, Switch sent.
use Rattle.std.proofs.Common.{◌≡◌, ℕ, suc, ◌+◌, ◌≤◌, ◌<◌, Bool, true, List, [], ◌∷◌, ◌++◌, length, length-append, append-nil, refl, sym, ap, ◌∙◌, arith, le_refl, le_trans, ⊎_elim, inl, inr}
use Rattle.law_prefix.specs.Numbers.{Mem, number}
use Rattle.law_prefix.specs.Images.{Image, reach}
use Rattle.law_prefix.specs.World.{Closed, Serving, Gathering, Fetching, Staging, Switching, Client, Volume, Told, Reply, World, Guarded, leader}
use Rattle.law_prefix.specs.Good.{IsUnopened, ImageGood, ClientGood, Settled, BasesHeld, StagedGood, SwitchedGood, ReplyGood, Good}
use Rattle.law_prefix.specs.Steps.{Submits, Acks}
use Rattle.law_prefix.proofs.Counting.{number_front}
use Rattle.law_prefix.proofs.Linking.{linked_front}
use Rattle.law_prefix.proofs.Changing.{claimed_settled}

-- what was known stays, and lists only grow
pub record Continues (c d : Client) : Type 0 where
  pub lists : (e : ℕ) → Mem e c.known → (more : List (List ℕ)) × (d.lists e ≡ c.lists e ++ more)
  pub starts : (e : ℕ) → Mem e c.known → d.starts e ≡ c.starts e
  pub known : (e : ℕ) → Mem e c.known → Mem e d.known
  pub switches : (e : ℕ) → Mem e c.switches → Mem e d.switches

pub image_to : (c d : Client) (g : ℕ) (i : Image) → Continues c d → ImageGood c g i → (d.served < i.session → Mem i.session d.switches)
    → (i.session ≡ d.served → i.base ≤ d.acked) → ImageGood d g i
image_to c d g i cont good origin low =
    let l = cont.lists i.session good.known in
    let s : d.starts i.session ≡ c.starts i.session = cont.starts i.session good.known in
    record {
      known = cont.known i.session good.known;
      start = rw s good.start;
      within = rw l.1 (let a : length (c.lists i.session ++ l.0) ≡ length (c.lists i.session) + length l.0 = length-append (c.lists i.session) l.0 in
          let b : i.base ≤ length (c.lists i.session) = good.within in omega arith);
      is_number = rw (l.1, s) (number_front (c.lists i.session) l.0 (c.starts i.session) i.base g good.within ∙ good.is_number);
      linked = rw (l.1, s) (linked_front (c.lists i.session) l.0 (c.starts i.session) g i.base i.parts good.linked);
      later = λ f h. cont.known f (good.later f h);
      origin = origin;
      low = low;
    }

pub settled_to : (v : Volume) (c d : Client) (images : ℕ → List Image) (counts : ℕ → Bool) (x : ℕ) → Continues c d → Mem c.served c.known → d.served ≡ c.served
    → Settled v c images counts x → Settled v d images counts x
settled_to v c d images counts x cont known same settled =
    let l = cont.lists c.served known in
    let s : d.starts c.served ≡ c.starts c.served = cont.starts c.served known in
    let w : x ≤ length (c.lists c.served) = settled.within in
    record {
      within = rw (same, l.1) (let a : length (c.lists c.served ++ l.0) ≡ length (c.lists c.served) + length l.0 = length-append (c.lists c.served) l.0 in omega arith);
      all = λ r k i m. ⊎_elim (λ (h : c.served < i.session). inl (rw same h))
          (λ (h : (i.session ≡ c.served) × (number (c.lists c.served) (c.starts c.served) x (v.region r) ≤ reach i.base i.parts)).
          inr (h.0 ∙ sym same, rw (same, l.1, s, number_front (c.lists c.served) l.0 (c.starts c.served) x (v.region r) w) h.1))
          (settled.all r k i m);
    }

-- A step of the client after which the same session is the one served last.
module _ (v : Volume) (w : World) (good : Good v w) (d : Client) (fresh : ℕ → Bool) (cont : Continues w.client d) (same : d.served ≡ w.client.served) where
  pub good_client : ClientGood v d → w.client.acked ≤ d.acked → Settled v w.client w.images w.counts d.acked → BasesHeld d w.images w.counts
      → ((r : ℕ) → fresh r ≡ true → v.honest r ≡ true) → ((r : ℕ) → w.counts r ≡ true → fresh r ≡ true)
      → ((t : Told) → Mem t w.staged → StagedGood d w.images fresh t) → ((t : Told) → Mem t w.switched → SwitchedGood d w.images fresh t)
      → ((t : Reply) → Mem t w.replies → ReplyGood v d w.counts t)
      → Good v (record w { client = d; fresh = fresh })
  good_client client more settled bases fresh_honest counts_fresh staged switched replies = record {
    client = client;
    nodes = λ r i m.
        let n : ImageGood w.client (v.region r) i = good.nodes r i m in
        image_to w.client d (v.region r) i cont n
        (λ up. cont.switches i.session (n.origin (rw same at up)))
        (λ s. le_trans (n.low (s ∙ same)) more);
    fresh_honest = fresh_honest;
    counts_fresh = counts_fresh;
    above = λ r k i m. rw same (good.above r k i m);
    bases = bases;
    acked = to d.acked settled;
    votes = λ t m. record { old = rw same (good.votes t m).old; held = λ k s i n. rw same ((good.votes t m).held k (s ∙ same) i n) };
    claims = λ t m. record { old = rw same (good.claims t m).old; settled = λ k s. to t.front ((good.claims t m).settled k (s ∙ same)) };
    staged = staged;
    switched = switched;
    replies = replies;
  }
    where
      to : (x : ℕ) → Settled v w.client w.images w.counts x → Settled v d w.images w.counts x
      to x s = settled_to v w.client d w.images w.counts x cont good.client.served_known same s

-- the same lists, starts, known sessions and switches
pub same_continues : (c d : Client) → ((e : ℕ) → d.lists e ≡ c.lists e) → ((e : ℕ) → d.starts e ≡ c.starts e) → d.known ≡ c.known → d.switches ≡ c.switches → Continues c d
same_continues c d lists starts known switches = record {
  lists = λ e m. ([], lists e ∙ sym (append-nil (c.lists e)));
  starts = λ e m. starts e;
  known = λ e m. rw known m;
  switches = λ e m. rw switches m;
}

module _ (v : Volume) (w : World) (good : Good v w) where
  pub staged_same : (d : Client) → d.asked ≡ w.client.asked → (t : Told) → Mem t w.staged → StagedGood d w.images w.fresh t
  staged_same d e t m = record { old = rw e (good.staged t m).old; held = λ k s i n. rw e ((good.staged t m).held k (s ∙ e) i n) }

  pub switched_same : (d : Client) → d.asked ≡ w.client.asked → (t : Told) → Mem t w.switched → SwitchedGood d w.images w.fresh t
  switched_same d e t m = record { old = rw e (good.switched t m).old; held = λ k s i n. rw e ((good.switched t m).held k (s ∙ e) i n) }

  pub replies_idle : (d : Client) → w.client.asked ≤ d.asked → (d.phase ≡ Gathering → ⊥) → (t : Reply) → Mem t w.replies → ReplyGood v d w.counts t
  replies_idle d up idle t m =
      let old : t.session ≤ w.client.asked = (good.replies t m).old in
      record { old = le_trans old up; held = λ p s k. absurd (idle p) }

  -- while the client serves, no later session is known
  none_later : w.client.phase ≡ Serving → (f : ℕ) → Mem f w.client.known → w.client.served < f → ⊥
  none_later p f m up =
      let a : f ≤ w.client.asked = good.client.known_asked f m in
      let b : w.client.asked ≡ w.client.served = good.client.serving p in
      omega arith

  pub good_crashed : Good v (record w { client = record w.client { phase = Closed } })
  good_crashed =
      good_client v w good (record w.client { phase = Closed }) w.fresh
      (same_continues w.client (record w.client { phase = Closed }) (λ e. refl) (λ e. refl) refl refl) refl
      (record {
        blank_known = good.client.blank_known;
        blank_start = good.client.blank_start;
        served_up = good.client.served_up;
        served_known = good.client.served_known;
        start_acked = good.client.start_acked;
        acked_within = good.client.acked_within;
        window = good.client.window;
        known_asked = good.client.known_asked;
        starts_within = good.client.starts_within;
        serving = λ p. absurd (cc);
        early = λ p. ⊎_elim {A = Closed ≡ Gathering} {B = Closed ≡ Fetching} (λ e. absurd (cc)) (λ e. absurd (cc)) p;
        late = λ p. ⊎_elim {A = Closed ≡ Staging} {B = Closed ≡ Switching} (λ e. absurd (cc)) (λ e. absurd (cc)) p;
        fetching = λ p. absurd (cc);
        unopened = λ f m up. let u : IsUnopened w.client f = good.client.unopened f m up in record { taken = u.taken; kept = u.kept; within = u.within };
        switches_known = good.client.switches_known;
        inside = good.client.inside;
        led = good.client.led;
      })
      (le_refl w.client.acked) good.acked good.bases good.fresh_honest good.counts_fresh
      (staged_same (record w.client { phase = Closed }) refl) (switched_same (record w.client { phase = Closed }) refl)
      (replies_idle (record w.client { phase = Closed }) (le_refl w.client.asked) (λ p. cc))

  pub good_acked : Guarded v w.counts → Acks v w → Good v (record w { client = record w.client { acked = suc w.client.acked } })
  good_acked guarded acks =
      let room : w.client.acked < length (w.client.lists w.client.served) = acks.there in
      let window : length (w.client.lists w.client.served) ≤ w.client.acked + 16 = good.client.window in
      let start : w.client.starts w.client.served ≤ w.client.acked = good.client.start_acked in
      good_client v w good (record w.client { acked = suc w.client.acked }) w.fresh
      (same_continues w.client (record w.client { acked = suc w.client.acked }) (λ e. refl) (λ e. refl) refl refl) refl
      (record {
        blank_known = good.client.blank_known;
        blank_start = good.client.blank_start;
        served_up = good.client.served_up;
        served_known = good.client.served_known;
        start_acked = omega arith;
        acked_within = room;
        window = omega arith;
        known_asked = good.client.known_asked;
        starts_within = good.client.starts_within;
        serving = good.client.serving;
        early = good.client.early;
        late = good.client.late;
        fetching = λ p. let s : w.client.phase ≡ Serving = acks.serving in absurd (cc);
        unopened = λ f m up. absurd (none_later acks.serving f m up);
        switches_known = good.client.switches_known;
        inside = good.client.inside;
        led = good.client.led;
      })
      (omega arith)
      (claimed_settled v w good guarded (leader (w.client.lists w.client.served) w.client.acked) (suc w.client.acked) (good.client.inside w.client.served w.client.acked) acks.claimed)
      good.bases good.fresh_honest good.counts_fresh
      (staged_same (record w.client { acked = suc w.client.acked }) refl) (switched_same (record w.client { acked = suc w.client.acked }) refl)
      (replies_idle (record w.client { acked = suc w.client.acked }) (le_refl w.client.asked) (λ p. let s : w.client.phase ≡ Serving = acks.serving in cc))

  pub good_submitted : (lists : ℕ → List (List ℕ)) → Submits v w.client (record w.client { lists = lists }) → Good v (record w { client = record w.client { lists = lists } })
  good_submitted lists submits =
      let here : lists w.client.served ≡ w.client.lists w.client.served ++ submits.batch ∷ [] = submits.here in
      let long : length (lists w.client.served) ≡ length (w.client.lists w.client.served) + 1 =
      ap length here ∙ length-append (w.client.lists w.client.served) (submits.batch ∷ []) in
      let room : length (w.client.lists w.client.served) < w.client.acked + 16 = submits.room in
      let within : w.client.acked ≤ length (w.client.lists w.client.served) = good.client.acked_within in
      good_client v w good (record w.client { lists = lists }) w.fresh cont refl
      (record {
        blank_known = good.client.blank_known;
        blank_start = good.client.blank_start;
        served_up = good.client.served_up;
        served_known = good.client.served_known;
        start_acked = good.client.start_acked;
        acked_within = omega arith;
        window = omega arith;
        known_asked = good.client.known_asked;
        starts_within = λ f m. longer f (good.client.starts_within f m);
        serving = good.client.serving;
        early = good.client.early;
        late = good.client.late;
        fetching = λ p. let s : w.client.phase ≡ Serving = submits.serving in absurd (cc);
        unopened = λ f m up. absurd (none_later submits.serving f m up);
        switches_known = good.client.switches_known;
        inside = submits.inside;
        led = submits.led;
      })
      (le_refl w.client.acked) good.acked good.bases good.fresh_honest good.counts_fresh
      (staged_same (record w.client { lists = lists }) refl) (switched_same (record w.client { lists = lists }) refl)
      (replies_idle (record w.client { lists = lists }) (le_refl w.client.asked) (λ p. let s : w.client.phase ≡ Serving = submits.serving in cc))
    where
      more_of : (e : ℕ) → (more : List (List ℕ)) × (lists e ≡ w.client.lists e ++ more)
      more_of e = ⊎_elim (λ (s : lists e ≡ w.client.lists e). ([], s ∙ sym (append-nil (w.client.lists e))))
          (λ (h : (e ≡ w.client.served) × (lists e ≡ w.client.lists e ++ submits.batch ∷ [])). (submits.batch ∷ [], h.1)) (submits.others e)

      cont : Continues w.client (record w.client { lists = lists })
      cont = record { lists = λ e m. more_of e; starts = λ e m. refl; known = λ e m. m; switches = λ e m. m }

      longer : (f : ℕ) → w.client.starts f ≤ length (w.client.lists f) → w.client.starts f ≤ length (lists f)
      longer f h =
          let a : length (w.client.lists f ++ (more_of f).0) ≡ length (w.client.lists f) + length (more_of f).0 = length-append (w.client.lists f) (more_of f).0 in
          rw (more_of f).1 (omega arith)
