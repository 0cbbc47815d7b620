-- What stands behind a vote stays through a fold, where the open session has one base and its held parts rise from it.
use Rattle.std.proofs.Common.{◌≡◌, ◌∙◌, inl, inr, ⊎_elim, ℕ, ◌<◌, ◌≤◌, ◌==◌, ◌&&◌, not, nat_le, nat_lt, Bool, true, false, if◌then◌else◌, List, [], ◌∷◌, map, refl, sym, ap, subst, arith}
use Rattle.std.specs.Prelude.{filter}
use Rattle.std.specs.List.{AllByRecursion}
use Rattle.std.proofs.lemmas.Bool.{eqb-true, eqb-false, ltb-false}
use Rattle.salus_types.specs.Volume.{Shape}
use Rattle.salus_types.specs.declared.records.Record.{Record}
use Rattle.salus_types.specs.declared.records.Base.{Base}
use Rattle.salus_types.specs.declared.records.Held.{Held}
use Rattle.salus_message.specs.declared.small.Prepared.{Prepared}
use Rattle.salus_message.specs.declared.wire.Message.TheVariants as message
use Rattle.merkle_region.specs.Tree.{IsAmong}
use Rattle.holding_model.specs.Fitting.{has_content}
use Rattle.salus_model.specs.Licences.{HoldsPart, HoldsStill}
use Rattle.holding_model.specs.Changing.{FoldsTo, is_folded, is_open_base, base_after, base_after_all, folded, changed}
use Rattle.replica_rules.specs.Nodes.{open_parts}
use Rattle.merkle_region.proofs.Membership.{among_left, among_right}
use Rattle.list_lemmas.proofs.Members.{among_all, among_map-in, among_filter-in}
use Rattle.list_lemmas.proofs.Tests.{by_bool, and_left}
use Rattle.list_lemmas.proofs.Each.{all_pass, either_way}
use Rattle.law_handed.proofs.Staying.{base_session, gone_session}

-- the numbers rise from that one on, and each part has content
unfoldable pub Rises : ℕ → List Record → Type 0
Rises low [] = Unit {0}
Rises low (rec ∷ parts) = (low < rec.header.seq) × (has_content rec.writes rec.run ≡ true) × Rises rec.header.seq parts

-- the open session has one base, and its held parts rise from it
pub record Foldable (held : Held) : Type 0 where
  pub base : Base
  pub only : filter (λ b. is_open_base held b) held.bases ≡ base ∷ []
  pub rises : Rises base.rec.header.seq (open_parts held)

rises_filter : (test : Record → Bool) (low lower : ℕ) (parts : List Record) → lower ≤ low → Rises low parts → Rises lower (filter test parts)
unfolding Rises
rises_filter test low lower [] less rises = tt
rises_filter test low lower (rec ∷ parts) less rises =
    let over : low < rec.header.seq = rises.0 in
    let under : lower < rec.header.seq = omega arith in
    let most : lower ≤ rec.header.seq = omega arith in
    let same : rec.header.seq ≤ rec.header.seq = omega arith in
    either_way (test rec) (rec ∷ filter test parts) (filter test parts) (λ l. Rises lower l) (under, rises.1, rises_filter test rec.header.seq rec.header.seq parts same rises.2) (rises_filter test rec.header.seq lower parts most rises.2)

-- two tests, one after the other
pub filter_both : (a b : Record → Bool) (parts : List Record) → filter (λ rec. a rec && b rec) parts ≡ filter b (filter a parts)
filter_both a b [] = refl
filter_both a b (rec ∷ parts) =
    let rest : filter (λ r. a r && b r) parts ≡ filter b (filter a parts) = filter_both a b parts in
    elim (a rec) as (λ v. (if v && b rec then rec ∷ filter (λ r. a r && b r) parts else filter (λ r. a r && b r) parts) ≡ filter b (if v then rec ∷ filter a parts else filter a parts)) [
      | true ↦ elim (b rec) as (λ w. (if w then rec ∷ filter (λ r. a r && b r) parts else filter (λ r. a r && b r) parts) ≡ (if w then rec ∷ filter b (filter a parts) else filter b (filter a parts))) [
        | true ↦ ap (λ (l : List Record). rec ∷ l) rest
        | false ↦ rest
      ]
      | false ↦ rest
    ]

module _ (shape : Shape) where
  last_at_least : (base : Base) (parts : List Record) → Rises base.rec.header.seq parts → base.rec.header.seq ≤ (base_after_all shape base parts).rec.header.seq
  unfolding Rises base_after_all
  last_at_least base [] rises = omega arith
  last_at_least base (rec ∷ parts) rises =
      let over : base.rec.header.seq < rec.header.seq = rises.0 in
      let more : rec.header.seq ≤ (base_after_all shape (base_after shape base rec) parts).rec.header.seq = last_at_least (base_after shape base rec) parts rises.2 in
      omega arith

  last_above : (base : Base) (parts : List Record) → Rises base.rec.header.seq parts → AllByRecursion (λ rec. rec.header.seq ≤ (base_after_all shape base parts).rec.header.seq) parts
  unfolding Rises base_after_all
  last_above base [] rises = tt
  last_above base (rec ∷ parts) rises = (last_at_least (base_after shape base rec) parts rises.2, last_above (base_after shape base rec) parts rises.2)

  content_stays : (base : Base) (parts : List Record) → has_content base.rec.writes base.rec.run ≡ true → Rises base.rec.header.seq parts
      → has_content (base_after_all shape base parts).rec.writes (base_after_all shape base parts).rec.run ≡ true
  unfolding Rises base_after_all
  content_stays base [] content rises = content
  content_stays base (rec ∷ parts) content rises = content_stays (base_after shape base rec) parts rises.1 rises.2

  last_content : (base : Base) (rec : Record) (parts : List Record) → Rises base.rec.header.seq (rec ∷ parts)
      → has_content (base_after_all shape base (rec ∷ parts)).rec.writes (base_after_all shape base (rec ∷ parts)).rec.run ≡ true
  unfolding Rises base_after_all
  last_content base rec parts rises = content_stays (base_after shape base rec) parts rises.1 rises.2

  gone_rises : (held : Held) (n : ℕ) (f : Foldable held) → Rises f.base.rec.header.seq (filter (λ rec. is_folded held n rec) held.parts)
  gone_rises held n f =
      let same : f.base.rec.header.seq ≤ f.base.rec.header.seq = omega arith in
      subst (λ (l : List Record). Rises f.base.rec.header.seq l) (sym (filter_both (λ rec. rec.header.session == held.session) (λ rec. nat_le rec.header.seq n) held.parts))
      (rises_filter (λ rec. nat_le rec.header.seq n) f.base.rec.header.seq f.base.rec.header.seq (open_parts held) same f.rises)

  -- a vote's session is the open one, a later one, or past
  vote_fold : (m : Prepared) (held : Held) (n : ℕ) (gone : List Record) → filter (λ rec. is_folded held n rec) held.parts ≡ gone → Foldable held
      → HoldsStill (message.Prepared m) held → HoldsStill (message.Prepared m) (folded shape held n gone)
  vote_fold m held n [] is f still = still
  vote_fold m held n (first ∷ rest) is f still =
      let gone : List Record = filter (λ r. is_folded held n r) held.parts in
      let here : List Base = filter (λ b. is_open_base held b) held.bases in
      let later : List Base = filter (λ b. nat_lt held.session b.rec.header.session) held.bases in
      let now : Held = folded shape held n (first ∷ rest) in
      let base : Base = f.base in
      let next : Base = base_after_all shape base gone in
      let rises : Rises base.rec.header.seq gone = gone_rises held n f in
      let mine : IsAmong base here = subst (λ (l : List Base). IsAmong base l) (sym f.only) (inl refl) in
      let next_held : IsAmong next now.bases = among_left next (map (λ b. base_after_all shape b gone) here) later (among_map-in (λ b. base_after_all shape b gone) here base mine) in
      let is_open : base.rec.header.session ≡ held.session = eqb-true base.rec.header.session held.session (among_all (λ b. is_open_base held b ≡ true) here base mine (all_pass (λ b. is_open_base held b) held.bases)) in
      let next_open : next.rec.header.session ≡ held.session = base_session shape held.session base gone is_open (gone_session shape held n) in
      let content : has_content next.rec.writes next.rec.run ≡ true =
      subst (λ (l : List Record). has_content (base_after_all shape base l).rec.writes (base_after_all shape base l).rec.run ≡ true) (sym is)
      (last_content base first rest (subst (λ (l : List Record). Rises base.rec.header.seq l) is rises)) in
      ⊎_elim (λ (less : m.session < held.session). inl less)
      (λ (old : (rec : Record) × (rec.header.session ≡ m.session) × (rec.header.seq ≡ m.seq) × (rec.header.root ≡ m.root) × HoldsPart held m rec).
      let rec : Record = old.0 in
      let is_of : rec.header.session ≡ m.session = old.1 in
      let is_at : rec.header.seq ≡ m.seq = old.2 in
      ⊎_elim (λ (among : IsAmong rec held.parts).
      by_bool (is_folded held n rec) (HoldsStill (message.Prepared m) now)
      (λ pass.
      let among_gone : IsAmong rec gone = among_filter-in (λ r. is_folded held n r) held.parts rec among pass in
      let under : rec.header.seq ≤ next.rec.header.seq = among_all (λ r. r.header.seq ≤ next.rec.header.seq) gone rec among_gone (last_above base gone rises) in
      let ours : rec.header.session ≡ held.session = eqb-true rec.header.session held.session (and_left (rec.header.session == held.session) (nat_le rec.header.seq n) pass) in
      let far : m.seq ≤ next.rec.header.seq = omega arith in
      inr (rec, is_of, is_at, old.3, record { either = inr (next, next_held, next_open ∙ sym ours ∙ is_of, far, content) }))
      (λ fail. inr (rec, is_of, is_at, old.3, record { either = inl (among_filter-in (λ r. not (is_folded held n r)) held.parts rec among (ap not fail)) })))
      (λ (other : (b : Base) × IsAmong b held.bases × (b.rec.header.session ≡ m.session) × (m.seq ≤ b.rec.header.seq) × (has_content b.rec.writes b.rec.run ≡ true)).
      let b : Base = other.0 in
      by_bool (is_open_base held b) (HoldsStill (message.Prepared m) now)
      (λ pass.
      let one : b ≡ base = only_one b base (subst (λ (l : List Base). IsAmong b l) f.only (among_filter-in (λ c. is_open_base held c) held.bases b other.1 pass)) in
      let ours : b.rec.header.session ≡ held.session = eqb-true b.rec.header.session held.session pass in
      let same : b.rec.header.seq ≡ base.rec.header.seq = ap (λ (c : Base). c.rec.header.seq) one in
      let reach : base.rec.header.seq ≤ next.rec.header.seq = last_at_least base gone rises in
      let before : m.seq ≤ b.rec.header.seq = other.3 in
      let far : m.seq ≤ next.rec.header.seq = omega arith in
      inr (rec, is_of, is_at, old.3, record { either = inr (next, next_held, next_open ∙ sym ours ∙ other.2, far, content) }))
      (λ fail. by_bool (nat_lt held.session b.rec.header.session) (HoldsStill (message.Prepared m) now)
      (λ above. inr (rec, is_of, is_at, old.3, record { either = inr (b, among_right b (map (λ c. base_after_all shape c gone) here) later (among_filter-in (λ c. nat_lt held.session c.rec.header.session) held.bases b other.1 above), other.2, other.3, other.4) }))
      (λ under.
      let differ : b.rec.header.session ≡ held.session → ⊥ = eqb-false b.rec.header.session held.session fail in
      let most : b.rec.header.session ≤ held.session = ltb-false held.session b.rec.header.session under in
      let its : b.rec.header.session ≡ m.session = other.2 in
      let less : m.session < held.session = omega (arith, differ) in inl less)))
      old.4.either) still where
        only_one : (b base : Base) → IsAmong b (base ∷ []) → b ≡ base
        only_one b base among = ⊎_elim (λ same. same) (λ none. absurd none) among

  pub vote_through_fold : (m : Prepared) (held : Held) (n : ℕ) → Foldable held → HoldsStill (message.Prepared m) held → HoldsStill (message.Prepared m) (changed shape held (FoldsTo n))
  unfolding changed
  vote_through_fold m held n f still = vote_fold m held n (filter (λ rec. is_folded held n rec) held.parts) refl f still
