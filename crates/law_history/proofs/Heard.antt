-- What counts of the replies to a gathering is tagged, and the strings of the bases are seen.
use Rattle.std.proofs.Common.{◌≡◌, ◌⊎◌, ℕ, Bool, true, ◌==◌, List, [], ◌∷◌, ◌++◌, map, length, inl, inr, refl, ap, sym, subst}
use Rattle.std.specs.Prelude.{filter, flat_map}
use Rattle.std.proofs.lemmas.Bool.{and_parts, eqb-true, cond_both, cond-true}
use Rattle.std.proofs.lemmas.Slice.Eq.{bytes_eq-Decides}
use Rattle.salus_types.specs.Volume.{Shape, region_blocks}
use Rattle.salus_types.specs.declared.names.NodeName.{NodeName}
use Rattle.salus_types.specs.declared.records.Header.{Header}
use Rattle.salus_types.specs.declared.records.Record.{Record}
use Rattle.salus_types.specs.declared.records.Base.{Base}
use Rattle.merkle_region.specs.Tree.{root_of, tree_strings, IsAmong}
use Rattle.merkle_region.proofs.Membership.{among_left, among_right, among_either}
use Rattle.salus_message.specs.declared.carried.Gathered.{Gathered}
use Rattle.salus_message.specs.declared.wire.Message.TheVariants as message
use Rattle.schedule_text.specs.declared.schedule.Volume.{Volume}
use Rattle.salus_model.specs.Judge.{Judge}
use Rattle.salus_model.specs.Hearing.{News, Says, Past, since}
use Rattle.holding_model.specs.Fitting.{has_shape}
use Rattle.volume_model.specs.Recovering.{record_counts, base_counts}
use Rattle.salus_model.specs.Opening.{Reply, has_replied, reply_in, with_reply, replies_to, headers_in, pool_of}
use Rattle.salus_model.specs.Seen.{blocks_strings}
use Rattle.salus_model.specs.Forgery.{IsTagged, IsUnforged}
use Rattle.list_lemmas.proofs.Members.{among_filter, among_map, among_map-in, among_flat_map, among_flat_map-in}
use Rattle.law_history.specs.Showing.{records_shown}
use Rattle.salus_model.specs.Seen.{news_strings}
use Rattle.law_history.proofs.Chosen.{IsSeenBase, IsTaggedHeader, IsTaggedPool}

pub among_since : (test : Past → Bool) (history : List Past) (p : Past) → IsAmong p (since test history) → IsAmong p history
unfolding since
among_since test [] p m = m
among_since test (x ∷ history) p m =
    cond_both {A = List Past} (test x) [] (x ∷ since test history) (λ l. IsAmong p l → IsAmong p (x ∷ history))
    (λ t none. absurd none)
    (λ t some. elim some [ inl e ↦ inl e | inr rest ↦ inr (among_since test history p rest) ]) m

-- ---- replies

-- a reply is of news
pub record IsReplyOf (news : List News) (r : Reply) : Type 0 where
  pub name : NodeName
  pub told : Gathered
  pub among : IsAmong (Says name (message.Gathered told)) news
  pub held : r.held ≡ told.held

one_reply : (e : ℕ) (news : News) (r : Reply) → IsAmong r (reply_in e news) → IsReplyOf (news ∷ []) r
one_reply e (Says name (message.Gathered m)) r among =
    cond_both {A = List Reply} (m.session == e) (record { name = name; held = m.held } ∷ []) [] (λ l. IsAmong r l → IsReplyOf (Says name (message.Gathered m) ∷ []) r)
    (λ t some. elim some [
      | inl is ↦ record { name = name; told = m; among = inl refl; held = ap (λ x. x.held) is }
      | inr none ↦ absurd none
    ])
    (λ t none. absurd none) among
one_reply e other r among = absurd among

with_among : (replies rs : List Reply) (r : Reply) → IsAmong r (with_reply replies rs) → IsAmong r replies ⊎ IsAmong r rs
with_among replies [] r m = inl m
with_among replies (x ∷ rs) r m =
    cond_both {A = List Reply} (has_replied x.name replies) replies (replies ++ x ∷ []) (λ l. IsAmong r l → IsAmong r replies ⊎ IsAmong r (x ∷ rs))
    (λ t old. inl old)
    (λ t more. elim (among_either r replies (x ∷ []) more) [ inl old ↦ inl old | inr (inl e) ↦ inr (inl e) | inr (inr none) ↦ absurd none ]) m

pub reply_of : (e : ℕ) (news : List News) (r : Reply) → IsAmong r (replies_to e news) → IsReplyOf news r
unfolding replies_to
reply_of e [] r m = absurd m
reply_of e (x ∷ earlier) r m = elim (with_among (replies_to e earlier) (reply_in e x) r m) [
  | inl old ↦ let from = reply_of e earlier r old in record { name = from.name; told = from.told; among = inr from.among; held = from.held }
  | inr new ↦
      let from = one_reply e x r new in
      record {
        name = from.name;
        told = from.told;
        among = elim from.among [ inl e ↦ inl e | inr none ↦ absurd none ];
        held = from.held;
      }
]

-- ---- what counts of them

module _ (volume : Volume) (judge : Judge) (strings : List (List ℕ)) where
  -- the records that the news shows are tagged if they are genuine, and its strings are seen
  pub record IsHeard (news : News) : Type 0 where
    pub tagged : (rec : Record) → IsAmong rec (records_shown news) → IsUnforged volume judge rec
    pub seen : (x : List ℕ) → IsAmong x (news_strings volume.geometry news) → IsAmong x strings

  abbrev shape : Shape
  shape = volume.geometry

  base_of_told : (name : NodeName) (told : Gathered) → IsHeard (Says name (message.Gathered told)) → (base : Base) → IsAmong base told.held.bases
      → base_counts shape volume.key base ≡ true → IsSeenBase shape volume.key judge strings base
  unfolding has_shape
  base_of_told name told heard base among counts =
      let parts = and_parts _ _ counts in
      let front = and_parts (record_counts shape volume.key base.rec) (has_shape shape base.blocks) parts.0 in
      let genuine = and_parts _ _ (and_parts _ _ front.0).0 in
      let fits : has_shape shape base.blocks ≡ true = front.1 in
      record {
        tagged = heard.tagged base.rec (among_left base.rec (map (λ b. b.rec) told.held.bases) told.held.parts (among_map-in (λ (b : Base). b.rec) told.held.bases base among)) genuine.0;
        long = eqb-true (length base.blocks) (region_blocks shape) (and_parts (length base.blocks == region_blocks shape) _ fits).0;
        root = (bytes_eq-Decides (root_of shape.height base.blocks) base.rec.header.root).0 parts.1;
        seen = λ x m. heard.seen x
            (among_flat_map-in (λ (b : Base). blocks_strings shape b.blocks) base x told.held.bases among
            (subst (IsAmong x) (sym (cond-true (has_shape shape base.blocks) (tree_strings shape.height base.blocks) [] fits)) m));
      }

  part_of_told : (name : NodeName) (told : Gathered) → IsHeard (Says name (message.Gathered told)) → (rec : Record) → IsAmong rec told.held.parts
      → record_counts shape volume.key rec ≡ true → IsTagged shape volume.key judge rec
  part_of_told name told heard rec among counts =
      let genuine = and_parts _ _ (and_parts _ _ counts).0 in
      heard.tagged rec (among_right rec (map (λ b. b.rec) told.held.bases) told.held.parts among) genuine.0

  module _ (e : ℕ) (news : List News) (heard : (x : News) → IsAmong x news → IsHeard x) where
    base_held : (r : Reply) → IsAmong r (replies_to e news) → (base : Base) → IsAmong base r.held.bases → base_counts shape volume.key base ≡ true
        → IsSeenBase shape volume.key judge strings base
    base_held r m base among counts =
        let from = reply_of e news r m in
        base_of_told from.name from.told (heard (Says from.name (message.Gathered from.told)) from.among) base (subst (λ h. IsAmong base h.bases) from.held among) counts

    part_held : (r : Reply) → IsAmong r (replies_to e news) → (rec : Record) → IsAmong rec r.held.parts → record_counts shape volume.key rec ≡ true
        → IsTagged shape volume.key judge rec
    part_held r m rec among counts =
        let from = reply_of e news r m in
        part_of_told from.name from.told (heard (Says from.name (message.Gathered from.told)) from.among) rec (subst (λ h. IsAmong rec h.parts) from.held among) counts

    header_held : (r : Reply) → IsAmong r (replies_to e news) → (h : Header) → IsAmong h (headers_in shape volume.key r.held) → IsTaggedHeader shape volume.key judge h
    header_held r m h among =
        elim (among_either h (map (λ (base : Base). base.rec.header) (filter (λ base. base_counts shape volume.key base) r.held.bases)) _ among) [
          | inl base ↦
              let from = among_map (λ (b : Base). b.rec.header) h (filter (λ b. base_counts shape volume.key b) r.held.bases) base in
              let kept = among_filter (λ b. base_counts shape volume.key b) from.0 r.held.bases from.1 in
              record { rec = from.0.rec; tagged = (base_held r m from.0 kept.0 kept.1).tagged; is = from.2 }
          | inr part ↦
              let from = among_map (λ (rec : Record). rec.header) h (filter (λ rec. record_counts shape volume.key rec) r.held.parts) part in
              let kept = among_filter (λ rec. record_counts shape volume.key rec) from.0 r.held.parts from.1 in
              record { rec = from.0; tagged = part_held r m from.0 kept.0 kept.1; is = from.2 }
        ]

    pub pool_tagged : IsTaggedPool shape volume.key judge strings (pool_of shape volume.key (replies_to e news))
    unfolding pool_of
    pool_tagged = record {
      bases = λ base among.
          let kept = among_filter (λ b. base_counts shape volume.key b) base (flat_map (λ (r : Reply). r.held.bases) (replies_to e news)) among in
          let from = among_flat_map (λ (r : Reply). r.held.bases) base (replies_to e news) kept.0 in
          base_held from.0 from.1 base from.2 kept.1;
      parts = λ rec among.
          let kept = among_filter (λ r. record_counts shape volume.key r) rec (flat_map (λ (r : Reply). r.held.parts) (replies_to e news)) among in
          let from = among_flat_map (λ (r : Reply). r.held.parts) rec (replies_to e news) kept.0 in
          part_held from.0 from.1 rec from.2 kept.1;
      headers = λ h among.
          let from = among_flat_map (λ (r : Reply). headers_in shape volume.key r.held) h (replies_to e news) among in
          header_held from.0 from.1 h from.2;
    }
