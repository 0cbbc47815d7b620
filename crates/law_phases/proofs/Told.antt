-- What the client heard of honest nodes, as what the abstract world was told.
use Rattle.std.proofs.Common.{◌≡◌, ◌⊎◌, ℕ, ◌+◌, ◌*◌, ◌/◌, ◌%◌, ◌<◌, ◌∙◌, Bool, true, ◌==◌, ◌&&◌, not, nat_lt, nat_le, List, [], ◌∷◌, ◌++◌, map, inl, inr, refl, ap, sym, subst, arith, ltb-true, leb-true, eqb-true}
use Rattle.std.specs.Prelude.{filter}
use Rattle.std.specs.List.{list_any, list_all, range_with_len}
use Rattle.std.proofs.lemmas.Bool.{and_parts, cond_both, false≢true, lt-ltb}
use Rattle.std.proofs.lemmas.Nat.{div-mul-add, pow_pos}
use native.Mathlib.Nat.{mod-lt, div-add-mod'}
use Rattle.salus_types.specs.Volume.{Shape, regions}
use Rattle.salus_types.specs.declared.names.NodeName.{NodeName}
use Rattle.salus_types.specs.declared.names.Sender.TheVariants as sender
use Rattle.salus_message.specs.declared.wire.Message.TheVariants as message
use Rattle.salus_message.specs.declared.carried.Gathered.{Gathered}
use Rattle.schedule_text.specs.declared.schedule.Event.{Event}
use Rattle.merkle_region.specs.Tree.{IsAmong}
use Rattle.merkle_region.proofs.Membership.{among_either}
use Rattle.volume_model.specs.Contents.{Batch, all_regions}
use Rattle.volume_model.specs.Parts.{leader_of}
use Rattle.volume_model.specs.Groups.{same_node, group_of, all_nodes}
use Rattle.salus_model.specs.Guarding.{is_lied_for}
use Rattle.salus_model.specs.Hearing.{News, Asks, Says, Crashes, Silence, Past, since, news_since}
use Rattle.salus_model.specs.Opening.{Reply, has_replied, reply_in, with_reply, replies_to, all_replied, says_staged, says_switched, all_staged, has_switched, all_switched}
use Rattle.salus_model.specs.Due.{is_claim, all_claim}
use Rattle.list_lemmas.proofs.Members.{any_among, among_map, among_map-in, among_filter, among_filter-in, among_flat_map-in, among_range-in}
use Rattle.list_lemmas.proofs.Tests.{and_left, and_right, by_either}
use Rattle.law_lemmas.proofs.Named.{one-node}
use Rattle.law_history.proofs.Heard.{among_since}
use Rattle.law_prefix.specs.Numbers.{Mem}
use Rattle.law_prefix.specs.World as abstract
use Rattle.law_prefix.specs.Steps.{Claimed, AllClaim, HasTold, AllReplied}
use Rattle.kept_model.specs.Nodes.{node_number, region_of_node, node_of, is_honest, volume_as}
use Rattle.kept_model.specs.Messages.{claim_as, told_as, reply_as}
use Rattle.law_records.proofs.Counted.{both_true}
use Rattle.law_records.proofs.Recovered.{mem_among, among_mem}
use Rattle.law_phases.specs.Hearing.{IsHeardIn, AllHeardIn}

-- ---- nodes

pub all_at : {A : Type 0} (test : A → Bool) (xs : List A) (x : A) → list_all test xs ≡ true → IsAmong x xs → test x ≡ true
all_at test [] x all m = absurd m
all_at test (y ∷ xs) x all (inl e) = ap test e ∙ and_left (test y) (list_all test xs) all
all_at test (y ∷ xs) x all (inr m) = all_at test xs x (and_right (test y) (list_all test xs) all) m

module _ (shape : Shape) (many : 0 < shape.replicas) where
  pub number-node : (r : ℕ) → node_number shape (node_of shape r) ≡ r
  number-node r = div-add-mod' r shape.replicas

  pub replica-inside : (r : ℕ) → r % shape.replicas < shape.replicas
  replica-inside r = mod-lt r many

  -- node 0 is of region 0
  pub first-region : region_of_node shape 0 < regions shape
  first-region =
      let whole : 0 ≡ 0 * shape.replicas + 0 = omega arith in
      let zero_is : 0 / shape.replicas ≡ 0 = ap (λ n. n / shape.replicas) whole ∙ div-mul-add 0 shape.replicas 0 many in
      subst (λ g. g < regions shape) (sym zero_is) (pow_pos shape.regions_log)

  pub group-among : (r : ℕ) → IsAmong (node_of shape r) (group_of shape (region_of_node shape r))
  group-among r =
      let low = replica-inside r in
      among_map-in (λ i. record { region = r / shape.replicas; replica = i }) (range_with_len 0 shape.replicas) (r % shape.replicas)
      (among_range-in shape.replicas 0 (r % shape.replicas) (omega arith) (omega (arith, low)))

  pub nodes-among : (r : ℕ) → region_of_node shape r < regions shape → IsAmong (node_of shape r) (all_nodes shape)
  nodes-among r inside =
      among_flat_map-in (λ g. group_of shape g) (region_of_node shape r) (node_of shape r) (all_regions shape)
      (among_range-in (regions shape) 0 (region_of_node shape r) (omega arith) (omega (arith, inside))) (group-among r)

  pub honest-inside : (events : List Event) (r : ℕ) → is_honest shape events r ≡ true → region_of_node shape r < regions shape
  honest-inside events r honest =
      ltb-true (region_of_node shape r) (regions shape)
      (and_left (nat_lt (region_of_node shape r) (regions shape)) (not (is_lied_for events (sender.Node (node_of shape r)))) honest)

  module _ (events : List Event) (w : abstract.World) where
    abbrev v : abstract.Volume
    v = volume_as shape events

    honest-name : (r : ℕ) (name : NodeName) → name ≡ node_of shape r → is_honest shape events r ≡ true → is_honest shape events (node_number shape name) ≡ true
    honest-name r name is honest = ap (λ n. is_honest shape events (node_number shape n)) is ∙ (ap (is_honest shape events) (number-node r) ∙ honest)

    low-name : (r : ℕ) (name : NodeName) → name ≡ node_of shape r → name.replica < shape.replicas
    low-name r name is = subst (λ (n : NodeName). n.replica < shape.replicas) (sym is) (replica-inside r)

    -- ---- what was heard since some step

    pub heard_since : (history : List Past) (x : News) (test : Past → Bool) → ((p : Past) → IsAmong p history → IsHeardIn shape events w p.news) → IsHeardIn shape events w x
        → AllHeardIn shape events w (x ∷ news_since test history)
    heard_since history x test old new y (inl e) = subst (IsHeardIn shape events w) (sym e) new
    heard_since history x test old new y (inr m) =
        let from = among_map (λ (p : Past). p.news) y (since test history) m in
        subst (IsHeardIn shape events w) (sym from.2) (old from.0 (among_since test history from.0 from.1))

    -- ---- claims

    claim_in : (session s r : ℕ) (x : News) → is_honest shape events r ≡ true → is_claim session s (node_of shape r) x ≡ true → IsHeardIn shape events w x → Claimed w.claims r session s
    claim_in session s r (Says by (message.Committed m)) honest claims heard =
        let parts = and_parts (same_node by (node_of shape r) && (m.session == session)) (nat_le s m.front) claims in
        let first = and_parts (same_node by (node_of shape r)) (m.session == session) parts.0 in
        let is : by ≡ node_of shape r = one-node by (node_of shape r) first.0 in
        let told = heard (low-name r by is) (honest-name r by is honest) in
        record {
          claim = claim_as shape by told.0 m;
          sent = told.1;
          node = ap (node_number shape) is ∙ number-node r;
          session = eqb-true m.session session first.1;
          front = leb-true s m.front parts.1;
        }
    claim_in session s r (Says by other) honest claims heard = absurd (false≢true claims)
    claim_in session s r (Asks request) honest claims heard = absurd (false≢true claims)
    claim_in session s r Crashes honest claims heard = absurd (false≢true claims)
    claim_in session s r Silence honest claims heard = absurd (false≢true claims)

    pub claims_heard : (news : List News) → AllHeardIn shape events w news → (session s : ℕ) (batch : Batch) → all_claim shape session s batch news ≡ true
        → AllClaim v w.claims (leader_of shape batch) session s
    claims_heard news heard session s batch all r honest region =
        let here : IsAmong (node_of shape r) (group_of shape (leader_of shape batch)) = subst (λ g. IsAmong (node_of shape r) (group_of shape g)) region (group-among r) in
        let one = any_among (λ x. is_claim session s (node_of shape r) x) news
        (all_at (λ name. list_any (λ x. is_claim session s name x) news) (group_of shape (leader_of shape batch)) (node_of shape r) all here) in
        claim_in session s r one.0 honest one.2 (heard one.0 one.1)

    -- ---- staged and switched

    staged_in : (e r : ℕ) (x : News) → is_honest shape events r ≡ true → says_staged e (node_of shape r) x ≡ true → IsHeardIn shape events w x → HasTold w.staged r e
    staged_in e r (Says by (message.Staged m)) honest says heard =
        let parts = and_parts (same_node by (node_of shape r)) (m.session == e) says in
        let is : by ≡ node_of shape r = one-node by (node_of shape r) parts.0 in
        record {
          told = told_as shape by m.session;
          sent = heard (low-name r by is) (honest-name r by is honest);
          node = ap (node_number shape) is ∙ number-node r;
          session = eqb-true m.session e parts.1;
        }
    staged_in e r (Says by other) honest says heard = absurd (false≢true says)
    staged_in e r (Asks request) honest says heard = absurd (false≢true says)
    staged_in e r Crashes honest says heard = absurd (false≢true says)
    staged_in e r Silence honest says heard = absurd (false≢true says)

    pub staged_heard : (news : List News) → AllHeardIn shape events w news → (e : ℕ) → all_staged shape e news ≡ true → (r : ℕ) → is_honest shape events r ≡ true → HasTold w.staged r e
    unfolding all_staged
    staged_heard news heard e all r honest =
        let one = any_among (λ x. says_staged e (node_of shape r) x) news
        (all_at (λ name. list_any (λ x. says_staged e name x) news) (all_nodes shape) (node_of shape r) all (nodes-among r (honest-inside events r honest))) in
        staged_in e r one.0 honest one.2 (heard one.0 one.1)

    switched_in : (e r : ℕ) (x : News) → is_honest shape events r ≡ true → says_switched e (node_of shape r) x ≡ true → IsHeardIn shape events w x → HasTold w.switched r e
    switched_in e r (Says by (message.Switched m)) honest says heard =
        let parts = and_parts (same_node by (node_of shape r)) (m.session == e) says in
        let is : by ≡ node_of shape r = one-node by (node_of shape r) parts.0 in
        record {
          told = told_as shape by m.session;
          sent = heard (low-name r by is) (honest-name r by is honest);
          node = ap (node_number shape) is ∙ number-node r;
          session = eqb-true m.session e parts.1;
        }
    switched_in e r (Says by other) honest says heard = absurd (false≢true says)
    switched_in e r (Asks request) honest says heard = absurd (false≢true says)
    switched_in e r Crashes honest says heard = absurd (false≢true says)
    switched_in e r Silence honest says heard = absurd (false≢true says)

    switched_from : (news : List News) → AllHeardIn shape events w news → (e r : ℕ) → is_honest shape events r ≡ true → has_switched shape e news (node_of shape r) ≡ true → HasTold w.switched r e
    unfolding has_switched
    switched_from [] heard e r honest has = absurd (false≢true has)
    switched_from (x ∷ earlier) heard e r honest has =
        by_either (says_switched e (node_of shape r) x && all_staged shape e earlier) (has_switched shape e earlier (node_of shape r)) (HasTold w.switched r e) has
        (λ here. switched_in e r x honest (and_left (says_switched e (node_of shape r) x) (all_staged shape e earlier) here) (heard x (inl refl)))
        (λ before. switched_from earlier (λ y m. heard y (inr m)) e r honest before)

    pub switched_heard : (news : List News) → AllHeardIn shape events w news → (e : ℕ) → all_switched shape e news ≡ true → (r : ℕ) → is_honest shape events r ≡ true → HasTold w.switched r e
    switched_heard news heard e all r honest =
        switched_from news heard e r honest
        (all_at (λ name. has_switched shape e news name) (all_nodes shape) (node_of shape r) all (nodes-among r (honest-inside events r honest)))

    -- ---- replies

    -- what a reply tells
    pub record IsReplied (e : ℕ) (news : List News) (r : Reply) : Type 0 where
      pub told : Gathered
      pub among : IsAmong (Says r.name (message.Gathered told)) news
      pub held : r.held ≡ told.held
      pub session : told.session ≡ e

    replied_one : (e : ℕ) (x : News) (r : Reply) → IsAmong r (reply_in e x) → IsReplied e (x ∷ []) r
    replied_one e (Says name (message.Gathered m)) r among =
        cond_both {A = List Reply} (m.session == e) (record { name = name; held = m.held } ∷ []) [] (λ l. IsAmong r l → IsReplied e (Says name (message.Gathered m) ∷ []) r)
        (λ t some. elim some [
          | inl is ↦ subst (IsReplied e (Says name (message.Gathered m) ∷ [])) (sym is) (record { told = m; among = inl refl; held = refl; session = eqb-true m.session e t })
          | inr none ↦ absurd none
        ])
        (λ t none. absurd none) among
    replied_one e (Says name other) r among = absurd among
    replied_one e (Asks request) r among = absurd among
    replied_one e Crashes r among = absurd among
    replied_one e Silence r among = absurd among

    replied_with : (replies rs : List Reply) (r : Reply) → IsAmong r (with_reply replies rs) → IsAmong r replies ⊎ IsAmong r rs
    replied_with replies [] r m = inl m
    replied_with replies (x ∷ rs) r m =
        cond_both {A = List Reply} (has_replied x.name replies) replies (replies ++ x ∷ []) (λ l. IsAmong r l → IsAmong r replies ⊎ IsAmong r (x ∷ rs))
        (λ t old. inl old)
        (λ t more. elim (among_either r replies (x ∷ []) more) [ inl old ↦ inl old | inr (inl e) ↦ inr (inl e) | inr (inr none) ↦ absurd none ]) m

    pub replied_in : (e : ℕ) (news : List News) (r : Reply) → IsAmong r (replies_to e news) → IsReplied e news r
    unfolding replies_to
    replied_in e [] r m = absurd m
    replied_in e (x ∷ earlier) r m = elim (replied_with (replies_to e earlier) (reply_in e x) r m) [
      | inl old ↦ let from = replied_in e earlier r old in record { told = from.told; among = inr from.among; held = from.held; session = from.session }
      | inr new ↦
          let from = replied_one e x r new in
          record {
            told = from.told;
            among = elim from.among [ inl same ↦ inl same | inr none ↦ absurd none ];
            held = from.held;
            session = from.session;
          }
    ]

    -- the replies of honest nodes of the volume
    abbrev pub is_kept : Reply → Bool
    is_kept r = nat_lt r.name.replica shape.replicas && is_honest shape events (node_number shape r.name)

    abbrev pub pool_as : ℕ → List Reply → List abstract.Reply
    pool_as e replies = map (λ r. reply_as shape r.name e r.held) (filter is_kept replies)

    -- a reply of the abstract pool
    pub record IsPooled (e : ℕ) (replies : List Reply) (t : abstract.Reply) : Type 0 where
      pub reply : Reply
      pub among : IsAmong reply replies
      pub low : reply.name.replica < shape.replicas
      pub honest : is_honest shape events (node_number shape reply.name) ≡ true
      pub is : t ≡ reply_as shape reply.name e reply.held

    pub pooled : (e : ℕ) (replies : List Reply) (t : abstract.Reply) → Mem t (pool_as e replies) → IsPooled e replies t
    pooled e replies t m =
        let from = among_map (λ (r : Reply). reply_as shape r.name e r.held) t (filter is_kept replies) (mem_among t (pool_as e replies) m) in
        let kept = among_filter is_kept from.0 replies from.1 in
        let both = and_parts (nat_lt from.0.name.replica shape.replicas) (is_honest shape events (node_number shape from.0.name)) kept.1 in
        record { reply = from.0; among = kept.0; low = ltb-true from.0.name.replica shape.replicas both.0; honest = both.1; is = from.2 }

    pool_sent : (e : ℕ) (news : List News) → AllHeardIn shape events w news → (t : abstract.Reply) → Mem t (pool_as e (replies_to e news)) → Mem t w.replies
    pool_sent e news heard t m =
        let from : IsPooled e (replies_to e news) t = pooled e (replies_to e news) t m in
        let told : IsReplied e news from.reply = replied_in e news from.reply from.among in
        let sent : Mem (reply_as shape from.reply.name told.told.session told.told.held) w.replies =
        heard (Says from.reply.name (message.Gathered told.told)) told.among from.low from.honest in
        subst (λ x. Mem x w.replies)
        (ap (λ k. reply_as shape from.reply.name k told.told.held) told.session ∙ (ap (λ h. reply_as shape from.reply.name e h) (sym told.held) ∙ sym from.is)) sent

    pub replies_heard : (e : ℕ) (news : List News) → AllHeardIn shape events w news → w.client.asked ≡ e → all_replied shape (replies_to e news) ≡ true
        → AllReplied v w (pool_as e (replies_to e news))
    replies_heard e news heard asked all = record {
      sent = pool_sent e news heard;
      all = λ r honest.
          let one = any_among (λ (x : Reply). same_node x.name (node_of shape r)) (replies_to e news)
          (all_at (λ name. has_replied name (replies_to e news)) (all_nodes shape) (node_of shape r) all (nodes-among r (honest-inside events r honest))) in
          let is : one.0.name ≡ node_of shape r = one-node one.0.name (node_of shape r) one.2 in
          let low : nat_lt one.0.name.replica shape.replicas ≡ true = lt-ltb one.0.name.replica shape.replicas (low-name r one.0.name is) in
          let kept : is_kept one.0 ≡ true = both_true (nat_lt one.0.name.replica shape.replicas) (is_honest shape events (node_number shape one.0.name)) low (honest-name r one.0.name is honest) in
          record {
            reply = reply_as shape one.0.name e one.0.held;
            sent = among_mem (reply_as shape one.0.name e one.0.held) (pool_as e (replies_to e news))
                (among_map-in (λ (x : Reply). reply_as shape x.name e x.held) (filter is_kept (replies_to e news)) one.0 (among_filter-in is_kept (replies_to e news) one.0 one.1 kept));
            node = ap (node_number shape) is ∙ number-node r;
            session = sym asked;
          };
    }
