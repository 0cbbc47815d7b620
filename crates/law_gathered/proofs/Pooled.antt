-- A pool of tagged records is apart: two records of one session, number and region are one, and the strings of its chains are
-- those of contents of known sessions.
use Rattle.std.proofs.Common.{◌≡◌, ℕ, ◌<◌, ◌∙◌, true, ◌==◌, List, length, Some, inl, inr, refl, ap, sym, subst, arith}
use Rattle.std.specs.Prelude.{filter}
use Rattle.std.proofs.lemmas.Bool.{and_from, eq-eqb}
use Rattle.salus_types.specs.Volume.{Shape, regions}
use Rattle.salus_types.specs.declared.records.Header.{Header}
use Rattle.salus_types.specs.declared.records.Record.{Record}
use Rattle.merkle_region.specs.Tree.{IsAmong, NoTwoCollide, tree_strings}
use Rattle.merkle_region.proofs.Membership.{none-within}
use Rattle.volume_model.specs.Contents.{all_regions}
use Rattle.volume_model.specs.Parts.{Session, part_of, base_of}
use Rattle.volume_model.specs.Recovering.{Pool, End, is_of, ends_of}
use Rattle.restart_pool.specs.Assembled.{IsKeptRecord, NoTwoShare, region_chain_strings, session_strings, pool_strings}
use Rattle.salus_model.specs.Judge.{Judge, known_at}
use Rattle.salus_model.specs.Forgery.{IsTagged}
use Rattle.client_premises.specs.Premises.{PoolIsApart}
use Rattle.list_lemmas.proofs.Members.{among_filter, among_flat_map, among_range}
use Rattle.law_lemmas.proofs.Settled.{EachKnown}
use Rattle.law_lemmas.proofs.Numbered.{IsSized}
use Rattle.law_lemmas.proofs.Owned.{IsOwn, IsTold, told, own_of, known-session}
use Rattle.law_history.proofs.Chained.{IsRightEnd, right_ends}
use Rattle.law_history.proofs.Chosen.{HasContents, IsTaggedHeader, IsTaggedPool}

-- ---- records of one session and region

module _ (shape : Shape) (key : List ℕ) (known : Session) (g : ℕ) where
  part_number : (s : ℕ) → (part_of shape key known s g).header.seq ≡ s
  unfolding part_of
  part_number s = refl

  base_number : (base_of shape key known g).header.seq ≡ known.base
  unfolding base_of
  base_number = refl

  -- with one number they are one
  one_own : (a b : Record) → IsOwn shape key known g a → IsOwn shape key known g b → a.header.seq ≡ b.header.seq → a ≡ b
  one_own a b (inl x) (inl y) same =
      let left : a.header.seq ≡ x.s = ap (λ (r : Record). r.header.seq) x.is ∙ part_number x.s in
      let right : b.header.seq ≡ y.s = ap (λ (r : Record). r.header.seq) y.is ∙ part_number y.s in
      let number : x.s ≡ y.s = sym left ∙ (same ∙ right) in
      x.is ∙ (ap (λ s. part_of shape key known s g) number ∙ sym y.is)
  one_own a b (inl x) (inr y) same =
      let left : a.header.seq ≡ x.s = ap (λ (r : Record). r.header.seq) x.is ∙ part_number x.s in
      let right : b.header.seq ≡ known.base = ap (λ (r : Record). r.header.seq) y.is ∙ base_number in
      let number : x.s ≡ known.base = sym left ∙ (same ∙ right) in
      let own = x.own in
      absurd (omega (arith, number, own))
  one_own a b (inr x) (inl y) same =
      let left : a.header.seq ≡ known.base = ap (λ (r : Record). r.header.seq) x.is ∙ base_number in
      let right : b.header.seq ≡ y.s = ap (λ (r : Record). r.header.seq) y.is ∙ part_number y.s in
      let number : known.base ≡ y.s = sym left ∙ (same ∙ right) in
      let own = y.own in
      absurd (omega (arith, number, own))
  one_own a b (inr x) (inr y) same = x.is ∙ sym y.is

-- ---- the pool

module _ (shape : Shape) (key : List ℕ) (judge : Judge) (strings : List (List ℕ)) (none : NoTwoCollide strings)
    (sized : EachKnown judge (IsSized shape)) (contents : EachKnown judge (HasContents shape strings))
    (pool : Pool) (tagged : IsTaggedPool shape key judge strings pool) where
  kept_tagged : (rec : Record) → IsKeptRecord pool rec → IsTagged shape key judge rec
  kept_tagged rec (inl part) = tagged.parts rec part
  kept_tagged rec (inr base) = subst (IsTagged shape key judge) (sym base.2) (tagged.bases base.0 base.1).tagged

  two_tagged : (a b : Record) → (x : IsTagged shape key judge a) → IsTagged shape key judge b → a.header.session ≡ b.header.session → a.header.seq ≡ b.header.seq → a.header.region ≡ b.header.region → a ≡ b
  two_tagged a b x y session number region =
      let says : IsTold shape x.session x.g a.header = told shape key x.session (sized x.session x.e x.known) x.g a x.either in
      let same_session : b.header.session ≡ x.e = sym session ∙ (says.session ∙ known-session judge x.e x.session x.known) in
      let same_region : b.header.region ≡ x.g = sym region ∙ says.region in
      let of : is_of x.e x.g b.header ≡ true =
      and_from (b.header.session == x.e) (b.header.region == x.g) (eq-eqb b.header.session x.e same_session) (eq-eqb b.header.region x.g same_region) in
      one_own shape key x.session x.g a b x.either (own_of shape key judge x.session x.e x.g b x.known (sized x.session x.e x.known) sized of y) number

  pool_named : NoTwoShare pool
  pool_named a b x y session number region = two_tagged a b (kept_tagged a x) (kept_tagged b y) session number region

  -- the blocks at a chain's end are those of the session's contents then
  end_right : (e g : ℕ) (known : Session) → known_at judge e ≡ Some known → g < regions shape → (end : End) → IsAmong end (ends_of shape pool e g) → IsRightEnd shape known g end
  unfolding ends_of
  end_right e g known at inside end m =
      right_ends shape key known (sized known e at) g inside strings none (λ s x within among. contents known e at s g x within inside among)
      (filter (λ base. is_of e g base.rec.header) pool.bases) (filter (λ rec. is_of e g rec.header) pool.parts)
      (λ base among.
      let kept = among_filter (λ b. is_of e g b.rec.header) base pool.bases among in
      let good = tagged.bases base kept.0 in
      record { own = own_of shape key judge known e g base.rec at (sized known e at) sized kept.1 good.tagged; long = good.long; root = good.root; seen = good.seen })
      (λ rec among.
      let kept = among_filter (λ r. is_of e g r.header) rec pool.parts among in
      own_of shape key judge known e g rec at (sized known e at) sized kept.1 (tagged.parts rec kept.0))
      (length pool.parts) end m

  -- the session of a header is known
  header_at : (h : Header) → IsTaggedHeader shape key judge h → (known : Session) × (known_at judge h.session ≡ Some known)
  header_at h from =
      let x = from.tagged in
      let says : IsTold shape x.session x.g h = subst (IsTold shape x.session x.g) (sym from.is) (told shape key x.session (sized x.session x.e x.known) x.g from.rec x.either) in
      let number : x.e ≡ h.session = sym (known-session judge x.e x.session x.known) ∙ sym says.session in
      (x.session, subst (λ e. known_at judge e ≡ Some x.session) number x.known)

  chain_seen : (e g : ℕ) (known : Session) → known_at judge e ≡ Some known → g < regions shape → (x : List ℕ) → IsAmong x (region_chain_strings shape pool e g) → IsAmong x strings
  chain_seen e g known at inside x m =
      let from = among_flat_map (λ (end : End). tree_strings shape.height end.blocks) x (ends_of shape pool e g) m in
      let right = end_right e g known at inside from.0 from.1 in
      contents known e at from.0.at g x right.within inside (subst (λ blocks. IsAmong x (tree_strings shape.height blocks)) right.blocks from.2)

  string_seen : (x : List ℕ) → IsAmong x (pool_strings shape pool) → IsAmong x strings
  string_seen x m =
      let header = among_flat_map (λ (h : Header). session_strings shape pool h.session) x pool.headers m in
      let region = among_flat_map (λ g. region_chain_strings shape pool header.0.session g) x (all_regions shape) header.2 in
      let range = among_range (regions shape) 0 region.0 region.1 in
      let known = header_at header.0 (tagged.headers header.0 header.1) in
      chain_seen header.0.session region.0 known.0 known.1 (omega arith) x region.2

  pub pool_apart : PoolIsApart shape pool
  pool_apart = record { named = pool_named; hashed = none-within (pool_strings shape pool) strings string_seen none }
