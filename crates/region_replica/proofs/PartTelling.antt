-- What `take_part` of the rules answers, and where.
use Rattle.std.proofs.Common.{◌≡◌, ◌≢◌, ◌∙◌, ℕ, ◌<◌, ◌≤◌, ◌==◌, ◌&&◌, true, false, not, if◌then◌else◌, nat_le, nat_lt, List, [], ◌∷◌, ◌++◌, length, inl, inr, ⊎_elim, refl, sym, ap, subst, arith}
use Rattle.std.proofs.lemmas.Bool.{and_parts, leb-true, leb-false, le-leb, lt-leb, ltb-true, ltb-false, lt-ltb, le-ltb, eqb-true, eqb-false, eq-eqb, ne_eqb, true≢false}
use Rattle.std.proofs.lemmas.Slice.Eq.{bytes_eq-Decides}
use Rattle.salus_types.specs.Volume.{Shape, regions}
use Rattle.salus_types.specs.declared.records.Record.{Record}
use Rattle.holding_model.specs.Fitting.{has_content, record_fits}
use Rattle.replica_rules.specs.Views.{view_after, view_root, is_accepted, header_is_right, touches_here, has_right_shape}
use Rattle.replica_rules.specs.Replicas.{Replica, PartTaken, take_part, tried, kept_early, left_as, with_view, has_early, is_for, Foreign as IsForeign, Known as IsKnown, Early as IsEarly, Full as IsFull, Differs as RootDiffers, Next as IsApplied}
use Rattle.region_replica.specs.Serving.{Serving, IsFor, KeepsItsOwn, now_as}
use Rattle.region_replica.specs.Leading.{LeadTo}
use Rattle.region_replica.specs.Answering.{told_as, applied_by, IsNext, IsAhead, Tells, IsTaken}
use Rattle.region_replica.specs.declared.answer.PartAnswer.{PartAnswer}
use Rattle.region_replica.specs.declared.answer.PartAnswer.TheVariants.{Foreign, Known, Early, Full, Differs, Next}
use Rattle.list_lemmas.proofs.Each.{all_both}
use Rattle.list_lemmas.proofs.Tests.{by_bool}

-- ---- a part that is for the replica

pub own-shape : (s : Serving) (rec : Record) → IsFor s rec → has_right_shape s.shape s.region rec ≡ true
own-shape s rec own = (and_parts ((rec.header.session == s.replica.session) && (rec.header.region == s.region)) (has_right_shape s.shape s.region rec) own).1

pub shape-fits : (shape : Shape) (g : ℕ) (rec : Record) → has_right_shape shape g rec ≡ true → record_fits shape rec ≡ true
unfolding has_right_shape
shape-fits shape g rec right = (and_parts (header_is_right shape g rec.header && has_content rec.writes rec.run) (record_fits shape rec) right).1

pub shape-rises : (shape : Shape) (g : ℕ) (rec : Record) → has_right_shape shape g rec ≡ true → rec.header.previous < rec.header.seq
unfolding has_right_shape
shape-rises shape g rec right =
    let both = and_parts (header_is_right shape g rec.header && has_content rec.writes rec.run) (record_fits shape rec) right in
    let header = and_parts (header_is_right shape g rec.header) (has_content rec.writes rec.run) both.0 in
    let last = and_parts ((length rec.header.fronts == regions shape) && touches_here shape g rec.header.touched && nat_lt rec.header.leader_before (regions shape)) (nat_lt rec.header.previous rec.header.seq) header.0 in
    ltb-true rec.header.previous rec.header.seq last.1

-- ---- the four ways of `take_part`

module _ (s : Serving) (rec : Record) where
  abbrev r : Replica
  r = s.replica

  abbrev taken : PartTaken
  taken = take_part s.shape s.region r rec

  pub taken-foreign : is_for s.shape s.region r rec ≡ false → taken ≡ left_as r IsForeign
  unfolding take_part
  taken-foreign other =
      ap (λ b. if not b then left_as r IsForeign else if nat_le rec.header.seq r.view.number then left_as r IsKnown else if rec.header.previous == r.view.number then tried s.shape r rec else kept_early r rec) other

  own_way : IsFor s rec → taken ≡ (if nat_le rec.header.seq r.view.number then left_as r IsKnown else if rec.header.previous == r.view.number then tried s.shape r rec else kept_early r rec)
  unfolding take_part
  own_way own =
      ap (λ b. if not b then left_as r IsForeign else if nat_le rec.header.seq r.view.number then left_as r IsKnown else if rec.header.previous == r.view.number then tried s.shape r rec else kept_early r rec) own

  pub taken-known : IsFor s rec → rec.header.seq ≤ r.view.number → taken ≡ left_as r IsKnown
  taken-known own low =
      own_way own ∙ ap (λ b. if b then left_as r IsKnown else if rec.header.previous == r.view.number then tried s.shape r rec else kept_early r rec) (le-leb rec.header.seq r.view.number low)

  new_way : IsFor s rec → r.view.number < rec.header.seq → taken ≡ (if rec.header.previous == r.view.number then tried s.shape r rec else kept_early r rec)
  new_way own above =
      own_way own ∙ ap (λ b. if b then left_as r IsKnown else if rec.header.previous == r.view.number then tried s.shape r rec else kept_early r rec) (lt-leb rec.header.seq r.view.number above)

  pub taken-next : IsNext s rec → taken ≡ tried s.shape r rec
  taken-next next = new_way next.own next.above ∙ ap (λ b. if b then tried s.shape r rec else kept_early r rec) (eq-eqb rec.header.previous r.view.number next.next)

  pub taken-ahead : IsAhead s rec → taken ≡ kept_early r rec
  taken-ahead ahead = new_way ahead.own ahead.above ∙ ap (λ b. if b then tried s.shape r rec else kept_early r rec) (ne_eqb rec.header.previous r.view.number ahead.later)

  pub tried-accepted : is_accepted s.shape r.view rec ≡ true → tried s.shape r rec ≡ left_as (with_view r (view_after s.shape r.view rec)) IsApplied
  tried-accepted yes' =
      ap (λ b. if b then left_as (with_view r (view_after s.shape r.view rec)) IsApplied else left_as r (RootDiffers rec.header.root (view_root s.shape (view_after s.shape r.view rec)))) yes'

  pub tried-refused : is_accepted s.shape r.view rec ≡ false → tried s.shape r rec ≡ left_as r (RootDiffers rec.header.root (view_root s.shape (view_after s.shape r.view rec)))
  tried-refused no' =
      ap (λ b. if b then left_as (with_view r (view_after s.shape r.view rec)) IsApplied else left_as r (RootDiffers rec.header.root (view_root s.shape (view_after s.shape r.view rec)))) no'

  abbrev with_it : Replica
  with_it = record r { early = r.early ++ rec ∷ [] }

  pub kept-already : has_early r.early rec.header.previous ≡ true → kept_early r rec ≡ left_as r IsEarly
  kept-already there = ap (λ b. if b then left_as r IsEarly else if nat_lt (length r.early) 16 then left_as with_it IsEarly else left_as r IsFull) there

  pub kept-anew : has_early r.early rec.header.previous ≡ false → length r.early < 16 → kept_early r rec ≡ left_as with_it IsEarly
  kept-anew alone room =
      ap (λ b. if b then left_as r IsEarly else if nat_lt (length r.early) 16 then left_as with_it IsEarly else left_as r IsFull) alone
      ∙ ap (λ b. if b then left_as with_it IsEarly else left_as r IsFull) (lt-ltb (length r.early) 16 room)

  pub kept-not : has_early r.early rec.header.previous ≡ false → 16 ≤ length r.early → kept_early r rec ≡ left_as r IsFull
  kept-not alone full =
      ap (λ b. if b then left_as r IsEarly else if nat_lt (length r.early) 16 then left_as with_it IsEarly else left_as r IsFull) alone
      ∙ ap (λ b. if b then left_as with_it IsEarly else left_as r IsFull) (le-ltb (length r.early) 16 full)

  -- whatever holds of all of them holds of what is taken
  pub by-way : (P : PartTaken → Type 0)
      → (is_for s.shape s.region r rec ≡ false → P (left_as r IsForeign))
      → (IsFor s rec → rec.header.seq ≤ r.view.number → P (left_as r IsKnown))
      → (IsNext s rec → is_accepted s.shape r.view rec ≡ true → P (left_as (with_view r (view_after s.shape r.view rec)) IsApplied))
      → (IsNext s rec → is_accepted s.shape r.view rec ≡ false → P (left_as r (RootDiffers rec.header.root (view_root s.shape (view_after s.shape r.view rec)))))
      → (IsAhead s rec → has_early r.early rec.header.previous ≡ true → P (left_as r IsEarly))
      → (IsAhead s rec → has_early r.early rec.header.previous ≡ false → length r.early < 16 → P (left_as with_it IsEarly))
      → (IsAhead s rec → has_early r.early rec.header.previous ≡ false → 16 ≤ length r.early → P (left_as r IsFull))
      → P taken
  by-way P foreign known next differs already anew full =
      by_bool (is_for s.shape s.region r rec) (P taken)
      (λ own. by_bool (nat_le rec.header.seq r.view.number) (P taken)
      (λ low. let least : rec.header.seq ≤ r.view.number = leb-true rec.header.seq r.view.number low in subst P (sym (taken-known own least)) (known own least))
      (λ high.
      let above : r.view.number < rec.header.seq = leb-false rec.header.seq r.view.number high in
      by_bool (rec.header.previous == r.view.number) (P taken)
      (λ here.
      let is : IsNext s rec = record { own = own; above = above; next = eqb-true rec.header.previous r.view.number here } in
      by_bool (is_accepted s.shape r.view rec) (P taken)
      (λ right. subst P (sym (taken-next is ∙ tried-accepted right)) (next is right))
      (λ wrong. subst P (sym (taken-next is ∙ tried-refused wrong)) (differs is wrong)))
      (λ there.
      let is : IsAhead s rec = record { own = own; above = above; later = eqb-false rec.header.previous r.view.number there } in
      by_bool (has_early r.early rec.header.previous) (P taken)
      (λ kept. subst P (sym (taken-ahead is ∙ kept-already kept)) (already is kept))
      (λ alone. by_bool (nat_lt (length r.early) 16) (P taken)
      (λ room. let less : length r.early < 16 = ltb-true (length r.early) 16 room in subst P (sym (taken-ahead is ∙ kept-anew alone less)) (anew is alone less))
      (λ none. let more : 16 ≤ length r.early = ltb-false (length r.early) 16 none in subst P (sym (taken-ahead is ∙ kept-not alone more)) (full is alone more))))))
      (λ other. subst P (sym (taken-foreign other)) (foreign other))

  differs_too : is_accepted s.shape r.view rec ≡ false → rec.header.root ≢ view_root s.shape (view_after s.shape r.view rec)
  differs_too wrong same =
      let right : is_accepted s.shape r.view rec ≡ true = (bytes_eq-Decides (view_root s.shape (view_after s.shape r.view rec)) rec.header.root).1 (sym same) in
      true≢false (sym right ∙ wrong)

  pub told-rightly : Tells s rec (told_as taken.answer rec)
  told-rightly =
      by-way (λ t. Tells s rec (told_as t.answer rec)) (λ other. other) (λ own low. (own, low)) (λ is right. (is, right, refl))
      (λ is wrong. (is, refl, refl, differs_too wrong)) (λ is kept. (is, inl kept)) (λ is alone room. (is, inr room)) (λ is alone full. (is, alone, full))

  -- a part that is applied leads to the new view
  pub applied-leads : LeadTo s.shape r.view (applied_by (told_as taken.answer rec)) taken.replica.view
  unfolding LeadTo
  applied-leads =
      by-way (λ t. LeadTo s.shape r.view (applied_by (told_as t.answer rec)) t.replica.view) (λ other. refl) (λ own low. refl) (λ is right. (is.next, is.above, right, refl))
      (λ is wrong. refl) (λ is kept. refl) (λ is alone room. refl) (λ is alone full. refl)

  pub number-rises : r.view.number ≤ taken.replica.view.number
  number-rises =
      by-way (λ t. r.view.number ≤ t.replica.view.number) (λ other. omega arith) (λ own low. omega arith) (λ is right. let above : r.view.number < rec.header.seq = is.above in omega arith)
      (λ is wrong. omega arith) (λ is kept. omega arith) (λ is alone room. omega arith) (λ is alone full. omega arith)

  -- what is kept is its own
  pub own-kept : KeepsItsOwn s → KeepsItsOwn (now_as s taken.replica)
  own-kept own =
      by-way (λ t. KeepsItsOwn (now_as s t.replica)) (λ other. own) (λ mine low. own) (λ is right. own) (λ is wrong. own) (λ is kept. own)
      (λ is alone room. all_both (IsFor s) r.early (rec ∷ []) own (is.own, tt)) (λ is alone full. own)

  -- no other answer is told rightly
  pub told-only : (other : PartAnswer) → Tells s rec other → told_as taken.answer rec ≡ other
  told-only Foreign is = ap (λ (t : PartTaken). told_as t.answer rec) (taken-foreign is)
  told-only Known is = ap (λ (t : PartTaken). told_as t.answer rec) (taken-known is.0 is.1)
  told-only Early is =
      by_bool (has_early r.early rec.header.previous) (told_as taken.answer rec ≡ Early)
      (λ kept. ap (λ (t : PartTaken). told_as t.answer rec) (taken-ahead is.0 ∙ kept-already kept))
      (λ alone. ⊎_elim (λ (kept : has_early r.early rec.header.previous ≡ true). absurd (true≢false (sym kept ∙ alone)))
      (λ (room : length r.early < 16). ap (λ (t : PartTaken). told_as t.answer rec) (taken-ahead is.0 ∙ kept-anew alone room)) is.1)
  told-only Full is = ap (λ (t : PartTaken). told_as t.answer rec) (taken-ahead is.0 ∙ kept-not is.1 is.2)
  told-only (Differs held got) is =
      let root : List ℕ = view_root s.shape (view_after s.shape r.view rec) in
      by_bool (is_accepted s.shape r.view rec) (told_as taken.answer rec ≡ Differs held got)
      (λ right. absurd (is.3 (is.1 ∙ sym ((bytes_eq-Decides root rec.header.root).0 right) ∙ sym is.2)))
      (λ wrong. ap (λ (t : PartTaken). told_as t.answer rec) (taken-next is.0 ∙ tried-refused wrong) ∙ ap (λ x. Differs x root) (sym is.1) ∙ ap (λ x. Differs held x) (sym is.2))
  told-only (Next given) is = ap (λ (t : PartTaken). told_as t.answer rec) (taken-next is.0 ∙ tried-accepted is.1) ∙ ap (λ x. Next x) (sym is.2)

-- so what is taken by the rules is taken
pub IsTaken-by_rules : (before after : Serving) (rec : Record) (given : PartAnswer) → given ≡ told_as (take_part before.shape before.region before.replica rec).answer rec
    → after ≡ now_as before (take_part before.shape before.region before.replica rec).replica → IsTaken before rec after given
IsTaken-by_rules before after rec given answer state = record {
  answer = answer;
  state = state;
  told = subst (λ a. Tells before rec a) (sym answer) (told-rightly before rec);
  only = λ other is. answer ∙ told-only before rec other is;
  applied = subst (λ a. LeadTo before.shape before.replica.view (applied_by a) after.replica.view) (sym answer)
      (subst (λ (s : Serving). LeadTo before.shape before.replica.view (applied_by (told_as (take_part before.shape before.region before.replica rec).answer rec)) s.replica.view) (sym state) (applied-leads before rec));
  rises = subst (λ (s : Serving). before.replica.view.number ≤ s.replica.view.number) (sym state) (number-rises before rec);
}
