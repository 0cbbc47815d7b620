-- Parts that lead from one view to another: their sessions, how far they reach, what a load makes of them, and a fold.
use Rattle.std.proofs.Common.{◌≡◌, ◌∙◌, inr, ℕ, suc, ◌-◌, ◌<◌, ◌≤◌, ◌==◌, ◌&&◌, nat_le, nat_lt, true, false, if◌then◌else◌, List, [], ◌∷◌, ◌++◌, refl, sym, ap, subst, arith}
use Rattle.std.specs.Prelude.{filter}
use Rattle.std.specs.List.{AllByRecursion}
use Rattle.std.proofs.lemmas.Bool.{eqb-true, eq-eqb, leb-true, leb-false, lt-ltb, lt-leb, le-ltb, cond-true, cond-false}
use Rattle.std.proofs.lemmas.Slice.Eq.{bytes_eq-Decides}
use Rattle.salus_types.specs.Volume.{Shape}
use Rattle.salus_types.specs.declared.records.Record.{Record}
use Rattle.salus_types.specs.declared.records.Base.{Base}
use Rattle.holding_model.specs.Fitting.{record_fits, has_shape}
use Rattle.holding_model.specs.Changing.{base_after, base_after_all}
use Rattle.volume_model.specs.Recovering.{is_of}
use Rattle.replica_rules.specs.Views.{View, view_of_base, view_after, view_root, is_accepted, has_right_shape}
use Rattle.replica_rules.specs.Nodes.{goes_on, Tried, counted, all_tried}
use Rattle.list_lemmas.proofs.Tests.{by_bool, and_left, and_right}
use Rattle.law_handed.proofs.Blocks.{after_shaped}
use Rattle.law_handed.proofs.Whole.{ours_shape}
use Rattle.law_prefix.specs.Images.{reach, folded_place, folded_parts}
use Rattle.law_prefix.specs.World.{Client}
use Rattle.kept_model.specs.Images.{part_as, parts_as}
use Rattle.law_refined.specs.Bringing.{PartFits}
use Rattle.law_refined.specs.Standing.{BaseStands, Chain}
use Rattle.law_refined.proofs.Listed.{and_both}

-- what it means that a part goes on from a view
pub record GoesOn (shape : Shape) (g : ℕ) (view : View) (rec : Record) : Type 0 where
  pub region : rec.header.region ≡ g
  pub shaped : has_right_shape shape g rec ≡ true
  pub starts : rec.header.previous ≡ view.number
  pub accepted : is_accepted shape view rec ≡ true
  pub over : view.number < rec.header.seq
  pub inside : record_fits shape rec ≡ true

inside_of : (shape : Shape) (g : ℕ) (rec : Record) → has_right_shape shape g rec ≡ true → record_fits shape rec ≡ true
unfolding has_right_shape
inside_of shape g rec right = and_right _ (record_fits shape rec) right

pub goes_parts : (shape : Shape) (g : ℕ) (view : View) (rec : Record) → goes_on shape g view rec ≡ true → GoesOn shape g view rec
goes_parts shape g view rec on =
    let three : ((rec.header.region == g) && has_right_shape shape g rec && (rec.header.previous == view.number)) ≡ true =
    and_left ((rec.header.region == g) && has_right_shape shape g rec && (rec.header.previous == view.number)) (is_accepted shape view rec) on in
    let two : ((rec.header.region == g) && has_right_shape shape g rec) ≡ true = and_left ((rec.header.region == g) && has_right_shape shape g rec) (rec.header.previous == view.number) three in
    let right : has_right_shape shape g rec ≡ true = and_right (rec.header.region == g) (has_right_shape shape g rec) two in
    let starts : rec.header.previous ≡ view.number = eqb-true rec.header.previous view.number (and_right ((rec.header.region == g) && has_right_shape shape g rec) (rec.header.previous == view.number) three) in
    let above : rec.header.previous < rec.header.seq = (ours_shape shape g rec right).1 in
    record {
      region = eqb-true rec.header.region g (and_left (rec.header.region == g) (has_right_shape shape g rec) two);
      shaped = right;
      starts = starts;
      accepted = and_right ((rec.header.region == g) && has_right_shape shape g rec && (rec.header.previous == view.number)) (is_accepted shape view rec) on;
      over = omega arith;
      inside = inside_of shape g rec right;
    }

pub goes_from : (shape : Shape) (g : ℕ) (view : View) (rec : Record) → rec.header.region ≡ g → has_right_shape shape g rec ≡ true → rec.header.previous ≡ view.number
    → is_accepted shape view rec ≡ true → goes_on shape g view rec ≡ true
goes_from shape g view rec region right starts accepted =
    and_both ((rec.header.region == g) && has_right_shape shape g rec && (rec.header.previous == view.number)) (is_accepted shape view rec)
    (and_both ((rec.header.region == g) && has_right_shape shape g rec) (rec.header.previous == view.number)
    (and_both (rec.header.region == g) (has_right_shape shape g rec) (eq-eqb rec.header.region g region) right) (eq-eqb rec.header.previous view.number starts)) accepted

pub counted_up : (n : ℕ) → 0 < n → suc (n - 1) ≡ n
counted_up n up = omega arith

module _ (shape : Shape) (g : ℕ) (c : Client) (e : ℕ) where
  pub chain_both : (view : View) (xs ys : List Record) (middle now : View) → Chain shape g c e view xs middle → Chain shape g c e middle ys now → Chain shape g c e view (xs ++ ys) now
  unfolding Chain
  chain_both view [] ys middle now front back = subst (λ (v : View). Chain shape g c e v ys now) (sym front) back
  chain_both view (x ∷ xs) ys middle now front back = (front.0, chain_both (view_after shape view x) xs ys middle now front.1 back)

  pub chain_sessions : (view : View) (parts : List Record) (now : View) → Chain shape g c e view parts now → AllByRecursion (λ rec. rec.header.session ≡ e) parts
  unfolding Chain
  chain_sessions view [] now chain = tt
  chain_sessions view (rec ∷ parts) now chain = (chain.0.session, chain_sessions (view_after shape view rec) parts now chain.1)

  pub chain_fits : (view : View) (parts : List Record) (now : View) → Chain shape g c e view parts now → AllByRecursion (PartFits c) parts
  unfolding Chain
  chain_fits view [] now chain = tt
  chain_fits view (rec ∷ parts) now chain = (chain.0.fits, chain_fits (view_after shape view rec) parts now chain.1)

  -- the parts of an image reach the view's number
  pub chain_reach : (view : View) (parts : List Record) (now : View) → Chain shape g c e view parts now → reach view.number (parts_as parts) ≡ now.number
  unfolding Chain reach
  chain_reach view [] now chain = ap (λ (v : View). v.number) chain
  chain_reach view (rec ∷ parts) now chain =
      ap (λ n. reach n (parts_as parts)) (counted_up rec.header.seq chain.0.fits.counted) ∙ chain_reach (view_after shape view rec) parts now chain.1

  pub chain_up : (view : View) (parts : List Record) (now : View) → Chain shape g c e view parts now → view.number ≤ now.number
  unfolding Chain
  chain_up view [] now chain = let same : view.number ≡ now.number = ap (λ (v : View). v.number) chain in omega arith
  chain_up view (rec ∷ parts) now chain =
      let over : view.number < rec.header.seq = (goes_parts shape g view rec chain.0.goes).over in
      let rest : rec.header.seq ≤ now.number = chain_up (view_after shape view rec) parts now chain.1 in
      omega arith

  pub chain_shaped : (view : View) (parts : List Record) (now : View) → has_shape shape view.blocks ≡ true → Chain shape g c e view parts now → has_shape shape now.blocks ≡ true
  unfolding Chain
  chain_shaped view [] now shaped chain = subst (λ (v : View). has_shape shape v.blocks ≡ true) chain shaped
  chain_shaped view (rec ∷ parts) now shaped chain =
      chain_shaped (view_after shape view rec) parts now (after_shaped shape view.blocks rec shaped (goes_parts shape g view rec chain.0.goes).inside chain.0.fits.spelled.counts.no_run) chain.1

  -- a load counts them all
  pub chain_tried : (view : View) (parts : List Record) (now : View) → Chain shape g c e view parts now → all_tried shape g view parts ≡ record { view = now; parts = parts }
  unfolding Chain all_tried
  chain_tried view [] now chain = ap (λ (v : View). record { view = v; parts = [] }) chain
  chain_tried view (rec ∷ parts) now chain =
      ap (λ b. if b then counted rec (all_tried shape g (view_after shape view rec) parts) else all_tried shape g view parts) chain.0.goes
      ∙ ap (λ (t : Tried). counted rec t) (chain_tried (view_after shape view rec) parts now chain.1)

  -- ---- a fold

  module _ (n : ℕ) where
    abbrev pub up_to : List Record → List Record
    up_to parts = filter (λ rec. nat_le rec.header.seq n) parts

    abbrev pub above_it : List Record → List Record
    above_it parts = filter (λ rec. nat_lt n rec.header.seq) parts

    -- above the number nothing is at most it
    none_under : (view : View) (parts : List Record) (now : View) → n ≤ view.number → Chain shape g c e view parts now → (up_to parts ≡ []) × (above_it parts ≡ parts)
    unfolding Chain
    none_under view [] now less chain = (refl, refl)
    none_under view (rec ∷ parts) now less chain =
        let over : view.number < rec.header.seq = (goes_parts shape g view rec chain.0.goes).over in
        let next : n ≤ rec.header.seq = omega arith in
        let strict : n < rec.header.seq = omega arith in
        let rest : (up_to parts ≡ []) × (above_it parts ≡ parts) = none_under (view_after shape view rec) parts now next chain.1 in
        let low : nat_le rec.header.seq n ≡ false = lt-leb rec.header.seq n strict in
        let high : nat_lt n rec.header.seq ≡ true = lt-ltb n rec.header.seq strict in (
          ap (λ b. if b then rec ∷ up_to parts else up_to parts) low ∙ rest.0,
          ap (λ b. if b then rec ∷ above_it parts else above_it parts) high ∙ ap (λ l. rec ∷ l) rest.1,
        )

    -- the parts up to the number lead to the base after them, and the others from there on
    abbrev pub Split : Base → List Record → List Record → View → Type 0
    Split base front back now =
        Chain shape g c e (view_of_base base) front (view_of_base (base_after_all shape base front)) × Chain shape g c e (view_of_base (base_after_all shape base front)) back now

    pub chain_split : (base : Base) (parts : List Record) (now : View) → Chain shape g c e (view_of_base base) parts now → Split base (up_to parts) (above_it parts) now
    unfolding Chain base_after_all
    chain_split base [] now chain = (refl, chain)
    chain_split base (rec ∷ parts) now chain =
        by_bool (nat_le rec.header.seq n) (Split base (up_to (rec ∷ parts)) (above_it (rec ∷ parts)) now)
        (λ low.
        let under : rec.header.seq ≤ n = leb-true rec.header.seq n low in
        let not_above : nat_lt n rec.header.seq ≡ false = le-ltb n rec.header.seq under in
        let first : rec ∷ up_to parts ≡ up_to (rec ∷ parts) = ap (λ b. if b then rec ∷ up_to parts else up_to parts) (sym low) in
        let left : above_it parts ≡ above_it (rec ∷ parts) = ap (λ b. if b then rec ∷ above_it parts else above_it parts) (sym not_above) in
        let rest : Split (base_after shape base rec) (up_to parts) (above_it parts) now = chain_split (base_after shape base rec) parts now chain.1 in
        let here : Split base (rec ∷ up_to parts) (above_it parts) now = ((chain.0, rest.0), rest.1) in
        subst (λ (l : List Record). Split base (up_to (rec ∷ parts)) l now) left (subst (λ (l : List Record). Split base l (above_it parts) now) first here))
        (λ high.
        let over : n < rec.header.seq = leb-false rec.header.seq n high in
        let most : n ≤ rec.header.seq = omega arith in
        let rest : (up_to parts ≡ []) × (above_it parts ≡ parts) = none_under (view_after shape (view_of_base base) rec) parts now most chain.1 in
        let is_above : nat_lt n rec.header.seq ≡ true = lt-ltb n rec.header.seq over in
        let none : [] ≡ up_to (rec ∷ parts) = sym rest.0 ∙ ap (λ b. if b then rec ∷ up_to parts else up_to parts) (sym high) in
        let all : rec ∷ parts ≡ above_it (rec ∷ parts) = ap (λ l. rec ∷ l) (sym rest.1) ∙ ap (λ b. if b then rec ∷ above_it parts else above_it parts) (sym is_above) in
        let here : Split base [] (rec ∷ parts) now = (refl, chain) in
        subst (λ (l : List Record). Split base (up_to (rec ∷ parts)) l now) all (subst (λ (l : List Record). Split base l (rec ∷ parts) now) none here))

    -- the images of both
    pub folded_same : (base : Base) (parts : List Record) → AllByRecursion (PartFits c) parts
        → (folded_place n base.rec.header.seq (parts_as parts) ≡ (base_after_all shape base (up_to parts)).rec.header.seq) × (folded_parts n (parts_as parts) ≡ parts_as (above_it parts))
    unfolding folded_place folded_parts base_after_all
    folded_same base [] fits = (refl, refl)
    folded_same base (rec ∷ parts) fits =
        let same : suc (rec.header.seq - 1) ≡ rec.header.seq = counted_up rec.header.seq fits.0.counted in
        by_bool (nat_le rec.header.seq n)
        ((folded_place n base.rec.header.seq (parts_as (rec ∷ parts)) ≡ (base_after_all shape base (up_to (rec ∷ parts))).rec.header.seq) × (folded_parts n (parts_as (rec ∷ parts)) ≡ parts_as (above_it (rec ∷ parts))))
        (λ low.
        let under : rec.header.seq ≤ n = leb-true rec.header.seq n low in
        let not_above : nat_lt n rec.header.seq ≡ false = le-ltb n rec.header.seq under in
        let test : nat_le (suc (rec.header.seq - 1)) n ≡ true = ap (λ x. nat_le x n) same ∙ low in
        let rest = folded_same (base_after shape base rec) parts fits.1 in (
          cond-true (nat_le (suc (rec.header.seq - 1)) n) (folded_place n (suc (rec.header.seq - 1)) (parts_as parts)) (folded_place n base.rec.header.seq (parts_as parts)) test
              ∙ ap (λ x. folded_place n x (parts_as parts)) same ∙ rest.0
              ∙ ap (λ b. (base_after_all shape base (if b then rec ∷ up_to parts else up_to parts)).rec.header.seq) (sym low),
          cond-true (nat_le (suc (rec.header.seq - 1)) n) (folded_parts n (parts_as parts)) (part_as rec ∷ folded_parts n (parts_as parts)) test ∙ rest.1
              ∙ ap (λ b. parts_as (if b then rec ∷ above_it parts else above_it parts)) (sym not_above),
        ))
        (λ high.
        let over : n < rec.header.seq = leb-false rec.header.seq n high in
        let is_above : nat_lt n rec.header.seq ≡ true = lt-ltb n rec.header.seq over in
        let test : nat_le (suc (rec.header.seq - 1)) n ≡ false = ap (λ x. nat_le x n) same ∙ high in
        let rest = folded_same base parts fits.1 in (
          cond-false (nat_le (suc (rec.header.seq - 1)) n) (folded_place n (suc (rec.header.seq - 1)) (parts_as parts)) (folded_place n base.rec.header.seq (parts_as parts)) test ∙ rest.0
              ∙ ap (λ b. (base_after_all shape base (if b then rec ∷ up_to parts else up_to parts)).rec.header.seq) (sym high),
          cond-false (nat_le (suc (rec.header.seq - 1)) n) (folded_parts n (parts_as parts)) (part_as rec ∷ folded_parts n (parts_as parts)) test ∙ ap (λ l. part_as rec ∷ l) rest.1
              ∙ ap (λ b. parts_as (if b then rec ∷ above_it parts else above_it parts)) (sym is_above),
        ))

  -- the base after parts that lead on from it stands, and its number is no less
  pub after_stands : (base : Base) (parts : List Record) (now : View) → base.rec.header.session ≡ e → BaseStands shape g c e base → Chain shape g c e (view_of_base base) parts now
      → (BaseStands shape g c e (base_after_all shape base parts)) × ((base_after_all shape base parts).rec.header.session ≡ e) × (base.rec.header.seq ≤ (base_after_all shape base parts).rec.header.seq)
  unfolding Chain base_after_all
  after_stands base [] now same stands chain = (stands, same, omega arith)
  after_stands base (rec ∷ parts) now same stands chain =
      let on : GoesOn shape g (view_of_base base) rec = goes_parts shape g (view_of_base base) rec chain.0.goes in
      let over : base.rec.header.seq < rec.header.seq = on.over in
      let its : rec.header.session ≡ e = chain.0.session in
      let shaped : has_shape shape base.blocks ≡ true = and_right (is_of base.rec.header.session g base.rec.header) (has_shape shape base.blocks) stands.stands in
      let next : Base = base_after shape base rec in
      let next_stands : BaseStands shape g c e next = record {
        not_past = omega arith;
        stands = and_both (is_of rec.header.session g rec.header) (has_shape shape next.blocks)
            (and_both (rec.header.session == rec.header.session) (rec.header.region == g) (eq-eqb rec.header.session rec.header.session refl) (eq-eqb rec.header.region g on.region))
            (after_shaped shape base.blocks rec shaped on.inside chain.0.fits.spelled.counts.no_run);
        root = (bytes_eq-Decides (view_root shape (view_after shape (view_of_base base) rec)) rec.header.root).0 on.accepted;
        inside = on.inside;
        fits = inr (its, chain.0.fits);
      } in
      let rest = after_stands next parts now its next_stands chain.1 in
      let more : rec.header.seq ≤ (base_after_all shape next parts).rec.header.seq = rest.2 in
      (rest.0, rest.1, omega arith)
