-- Where all that a node holds of its open session counts, the session has one base, and the held parts lead from it to the view.
use Rattle.std.proofs.Common.{◌≡◌, ◌∙◌, ℕ, zero, suc, ◌<◌, ◌≤◌, ◌==◌, not, nat_le, nat_lt, Bool, true, false, if◌then◌else◌, List, [], ◌∷◌, ◌++◌, length, Option, None, Some, refl, sym, ap, subst, arith}
use Rattle.std.specs.Prelude.{filter}
use Rattle.std.specs.Option.{option_map_or}
use Rattle.std.specs.List.{AllByRecursion}
use Rattle.std.proofs.lemmas.Bool.{eqb-true, ltb-true, ltb-false, leb-true, leb-false}
use Rattle.salus_types.specs.Volume.{Shape}
use Rattle.salus_types.specs.declared.records.Record.{Record}
use Rattle.salus_types.specs.declared.records.Base.{Base}
use Rattle.merkle_region.specs.Tree.{IsAmong}
use Rattle.holding_model.specs.Fitting.{has_content, record_fits}
use Rattle.replica_rules.specs.Views.{View, view_of_base, view_after, is_accepted, header_is_right, has_right_shape}
use Rattle.replica_rules.specs.Replicas.{Replica, with_view, KeptTaken, next_kept, without_kept, take_out, take_kept, Applied, no_more, after_part, kept_in_turn}
use Rattle.holding_model.specs.Changing.{base_after, base_after_all}
use Rattle.replica_rules.specs.Nodes.{goes_on, Tried, counted, all_tried}
use Rattle.list_lemmas.proofs.Each.{all_filter, some_way}
use Rattle.list_lemmas.proofs.Members.{among_all, found_among}
use Rattle.list_lemmas.proofs.Tests.{by_bool, way_with, and_left, and_right}
use Rattle.law_handed.proofs.Folding.{Rises}

-- a part goes on from a view: its number is above the view's, it has content, and the blocks after it have its root
pub record LeadsOn (shape : Shape) (view : View) (rec : Record) : Type 0 where
  pub over : view.number < rec.header.seq
  pub content : has_content rec.writes rec.run ≡ true
  pub accepted : is_accepted shape view rec ≡ true

-- these parts, each in its turn, lead from one view to the other
unfoldable pub Leads : Shape → View → List Record → View → Type 0
Leads shape view [] now = view ≡ now
Leads shape view (rec ∷ parts) now = LeadsOn shape view rec × Leads shape (view_after shape view rec) parts now

-- of that session, with content, and its number above the previous one
pub record IsOurs (s : ℕ) (rec : Record) : Type 0 where
  pub session : rec.header.session ≡ s
  pub content : has_content rec.writes rec.run ≡ true
  pub above : rec.header.previous < rec.header.seq

-- the next view is that after a part of the session which goes on from the one before
pub record GoesTo (shape : Shape) (s : ℕ) (view : View) (rec : Record) (now : View) : Type 0 where
  pub session : rec.header.session ≡ s
  pub on : LeadsOn shape view rec
  pub is : now ≡ view_after shape view rec

pub leads_rises : (shape : Shape) (view : View) (parts : List Record) (now : View) → Leads shape view parts now → Rises view.number parts
unfolding Rises Leads
leads_rises shape view [] now leads = tt
leads_rises shape view (rec ∷ parts) now leads = (leads.0.over, leads.0.content, leads_rises shape (view_after shape view rec) parts now leads.1)

pub leads_both : (shape : Shape) (view : View) (xs ys : List Record) (middle now : View) → Leads shape view xs middle → Leads shape middle ys now → Leads shape view (xs ++ ys) now
unfolding Leads
leads_both shape view [] ys middle now front back = subst (λ (v : View). Leads shape v ys now) (sym front) back
leads_both shape view (x ∷ xs) ys middle now front back = (front.0, leads_both shape (view_after shape view x) xs ys middle now front.1 back)

pub ours_shape : (shape : Shape) (g : ℕ) (rec : Record) → has_right_shape shape g rec ≡ true → (has_content rec.writes rec.run ≡ true) × (rec.header.previous < rec.header.seq)
unfolding has_right_shape
ours_shape shape g rec right =
    let most : _ ≡ true = and_left _ (record_fits shape rec) right in
    let header : header_is_right shape g rec.header ≡ true = and_left _ (has_content rec.writes rec.run) most in
    (and_right (header_is_right shape g rec.header) _ most, ltb-true rec.header.previous rec.header.seq (and_right _ (nat_lt rec.header.previous rec.header.seq) header))

-- ---- the kept parts in their turn

pub record AppliedFrom (shape : Shape) (s : ℕ) (view : View) (applied : Applied) : Type 0 where
  pub kept : AllByRecursion (IsOurs s) applied.replica.early
  pub session : applied.replica.session ≡ s
  pub ours : AllByRecursion (λ rec. rec.header.session ≡ s) applied.parts
  pub leads : Leads shape view applied.parts applied.replica.view

abbrev pub NextView : Shape → ℕ → View → Option Record → View → Type 0
NextView shape s view None now = now ≡ view
NextView shape s view (Some rec) now = GoesTo shape s view rec now

pub record KeptFrom (shape : Shape) (s : ℕ) (view : View) (taken : KeptTaken) : Type 0 where
  pub kept : AllByRecursion (IsOurs s) taken.replica.early
  pub session : taken.replica.session ≡ s
  pub now : NextView shape s view taken.part taken.replica.view

module _ (shape : Shape) (s : ℕ) where
  take_kept_from : (r : Replica) → AllByRecursion (IsOurs s) r.early → r.session ≡ s → KeptFrom shape s r.view (take_kept shape r)
  unfolding take_kept
  take_kept_from r kept same =
      let less : AllByRecursion (IsOurs s) (without_kept r).early = all_filter (IsOurs s) (λ rec. not (rec.header.previous == r.view.number)) r.early kept in
      some_way (λ rec. IsAmong rec r.early × ((rec.header.previous == r.view.number) ≡ true)) (KeptFrom shape s r.view) (λ rec. take_out shape r rec) (record { replica = r; part = None }) (next_kept r)
      (found_among (λ rec. rec.header.previous == r.view.number) r.early)
      (λ rec found.
      let mine : IsOurs s rec = among_all (IsOurs s) r.early rec found.0 kept in
      let starts : rec.header.previous ≡ r.view.number = eqb-true rec.header.previous r.view.number found.1 in
      let above : rec.header.previous < rec.header.seq = mine.above in
      let over : r.view.number < rec.header.seq = omega arith in
      way_with (is_accepted shape r.view rec) (record { replica = with_view (without_kept r) (view_after shape r.view rec); part = Some rec }) (record { replica = without_kept r; part = None }) (KeptFrom shape s r.view)
      (λ accepted. record { kept = less; session = same; now = record { session = mine.session; on = record { over = over; content = mine.content; accepted = accepted }; is = refl } })
      (λ differs. record { kept = less; session = same; now = refl }))
      (record { kept = kept; session = same; now = refl })

  one_more : (view : View) (taken : KeptTaken) (more : Applied) → KeptFrom shape s view taken → AppliedFrom shape s taken.replica.view more
      → AppliedFrom shape s view (option_map_or (λ rec. after_part rec more) taken.part (no_more taken.replica))
  unfolding Leads
  one_more view taken more from rest = of_part taken.part from.now where
    of_part : (o : Option Record) → NextView shape s view o taken.replica.view → AppliedFrom shape s view (option_map_or (λ rec. after_part rec more) o (no_more taken.replica))
    of_part None is = record { kept = from.kept; session = from.session; ours = tt; leads = sym is }
    of_part (Some rec) to = record {
      kept = rest.kept;
      session = rest.session;
      ours = (to.session, rest.ours);
      leads = (to.on, subst (λ (v : View). Leads shape v more.parts more.replica.view) to.is rest.leads);
    }

  pub kept_in_turn_from : (n : ℕ) (r : Replica) → AllByRecursion (IsOurs s) r.early → r.session ≡ s → AppliedFrom shape s r.view (kept_in_turn shape n r)
  unfolding kept_in_turn Leads
  kept_in_turn_from zero r kept same = record { kept = kept; session = same; ours = tt; leads = refl }
  kept_in_turn_from (suc n) r kept same =
      let from : KeptFrom shape s r.view (take_kept shape r) = take_kept_from r kept same in
      one_more r.view (take_kept shape r) (kept_in_turn shape n (take_kept shape r).replica) from (kept_in_turn_from n (take_kept shape r).replica from.kept from.session)

-- ---- a load

pub record TriedFrom (shape : Shape) (view : View) (parts : List Record) (t : Tried) : Type 0 where
  pub leads : Leads shape view t.parts t.view
  pub few : length t.parts ≤ length parts
  pub all : length t.parts ≡ length parts → t.parts ≡ parts

pub all_tried_from : (shape : Shape) (g : ℕ) (view : View) (parts : List Record) → TriedFrom shape view parts (all_tried shape g view parts)
unfolding all_tried Leads
all_tried_from shape g view [] = record { leads = refl; few = omega arith; all = λ same. refl }
all_tried_from shape g view (rec ∷ parts) =
    let rest : TriedFrom shape view parts (all_tried shape g view parts) = all_tried_from shape g view parts in
    let more : TriedFrom shape (view_after shape view rec) parts (all_tried shape g (view_after shape view rec) parts) = all_tried_from shape g (view_after shape view rec) parts in
    way_with (goes_on shape g view rec) (counted rec (all_tried shape g (view_after shape view rec) parts)) (all_tried shape g view parts) (TriedFrom shape view (rec ∷ parts))
    (λ on.
    let three : _ ≡ true = and_left _ (is_accepted shape view rec) on in
    let two : _ ≡ true = and_left _ (rec.header.previous == view.number) three in
    let right : (has_content rec.writes rec.run ≡ true) × (rec.header.previous < rec.header.seq) = ours_shape shape g rec (and_right _ (has_right_shape shape g rec) two) in
    let starts : rec.header.previous ≡ view.number = eqb-true rec.header.previous view.number (and_right _ (rec.header.previous == view.number) three) in
    let above : rec.header.previous < rec.header.seq = right.1 in
    let over : view.number < rec.header.seq = omega arith in
    let fewer : length (all_tried shape g (view_after shape view rec) parts).parts ≤ length parts = more.few in
    record {
      leads = (record { over = over; content = right.0; accepted = and_right _ (is_accepted shape view rec) on }, more.leads);
      few = omega arith;
      all = λ same. ap (λ (l : List Record). rec ∷ l) (more.all (let e : length (rec ∷ (all_tried shape g (view_after shape view rec) parts).parts) ≡ length (rec ∷ parts) = same in omega arith));
    })
    (λ off.
    let fewer : length (all_tried shape g view parts).parts ≤ length parts = rest.few in
    record { leads = rest.leads; few = omega arith; all = λ same. absurd (let e : length (all_tried shape g view parts).parts ≡ length (rec ∷ parts) = same in omega arith) })

-- ---- a fold

-- above the number nothing is at most it
none_under : (n low : ℕ) (parts : List Record) → n ≤ low → Rises low parts → (filter (λ rec. nat_le rec.header.seq n) parts ≡ []) × (filter (λ rec. nat_lt n rec.header.seq) parts ≡ parts)
unfolding Rises
none_under n low [] less rises = (refl, refl)
none_under n low (rec ∷ parts) less rises =
    let over : low < rec.header.seq = rises.0 in
    let next : n ≤ rec.header.seq = omega arith in
    let rest : (filter (λ r. nat_le r.header.seq n) parts ≡ []) × (filter (λ r. nat_lt n r.header.seq) parts ≡ parts) = none_under n rec.header.seq parts next rises.2 in (
      way_with (nat_le rec.header.seq n) (rec ∷ filter (λ r. nat_le r.header.seq n) parts) (filter (λ r. nat_le r.header.seq n) parts) (λ l. l ≡ [])
          (λ low_enough. let under : rec.header.seq ≤ n = leb-true rec.header.seq n low_enough in absurd (omega arith)) (λ high. rest.0),
      way_with (nat_lt n rec.header.seq) (rec ∷ filter (λ r. nat_lt n r.header.seq) parts) (filter (λ r. nat_lt n r.header.seq) parts) (λ l. l ≡ rec ∷ parts)
          (λ high. ap (λ (l : List Record). rec ∷ l) rest.1) (λ low_enough. let under : rec.header.seq ≤ n = ltb-false n rec.header.seq low_enough in absurd (omega arith)),
    )

module _ (shape : Shape) (n : ℕ) where
  abbrev pub up_to : List Record → List Record
  up_to parts = filter (λ rec. nat_le rec.header.seq n) parts

  abbrev pub above_it : List Record → List Record
  above_it parts = filter (λ rec. nat_lt n rec.header.seq) parts

  -- the parts up to the number lead to the base after them, and the others from there on
  abbrev pub Split : Base → List Record → List Record → View → Type 0
  Split base front back now = Leads shape (view_of_base base) front (view_of_base (base_after_all shape base front)) × Leads shape (view_of_base (base_after_all shape base front)) back now

  pub split : (base : Base) (parts : List Record) (now : View) → Leads shape (view_of_base base) parts now → Split base (up_to parts) (above_it parts) now
  unfolding Leads base_after_all
  split base [] now leads = (refl, leads)
  split base (rec ∷ parts) now leads =
      by_bool (nat_le rec.header.seq n) (Split base (up_to (rec ∷ parts)) (above_it (rec ∷ parts)) now)
      (λ low_enough.
      let under : rec.header.seq ≤ n = leb-true rec.header.seq n low_enough in
      let not_above : nat_lt n rec.header.seq ≡ false = by_bool (nat_lt n rec.header.seq) (nat_lt n rec.header.seq ≡ false) (λ high. let over : n < rec.header.seq = ltb-true n rec.header.seq high in absurd (omega arith)) (λ e. e) in
      let first : rec ∷ up_to parts ≡ up_to (rec ∷ parts) = ap (λ (b : Bool). if b then rec ∷ up_to parts else up_to parts) (sym low_enough) in
      let left : above_it parts ≡ above_it (rec ∷ parts) = ap (λ (b : Bool). if b then rec ∷ above_it parts else above_it parts) (sym not_above) in
      let rest : Split (base_after shape base rec) (up_to parts) (above_it parts) now = split (base_after shape base rec) parts now leads.1 in
      let here : Split base (rec ∷ up_to parts) (above_it parts) now = ((leads.0, rest.0), rest.1) in
      subst (λ (l : List Record). Split base (up_to (rec ∷ parts)) l now) left (subst (λ (l : List Record). Split base l (above_it parts) now) first here))
      (λ high.
      let over : n < rec.header.seq = leb-false rec.header.seq n high in
      let most : n ≤ rec.header.seq = omega arith in
      let rest : (up_to parts ≡ []) × (above_it parts ≡ parts) = none_under n rec.header.seq parts most (leads_rises shape (view_after shape (view_of_base base) rec) parts now leads.1) in
      let is_above : nat_lt n rec.header.seq ≡ true = by_bool (nat_lt n rec.header.seq) (nat_lt n rec.header.seq ≡ true) (λ e. e) (λ low_enough. let under : rec.header.seq ≤ n = ltb-false n rec.header.seq low_enough in absurd (omega arith)) in
      let none : [] ≡ up_to (rec ∷ parts) = sym rest.0 ∙ ap (λ (b : Bool). if b then rec ∷ up_to parts else up_to parts) (sym high) in
      let all : rec ∷ parts ≡ above_it (rec ∷ parts) = ap (λ (l : List Record). rec ∷ l) (sym rest.1) ∙ ap (λ (b : Bool). if b then rec ∷ above_it parts else above_it parts) (sym is_above) in
      let here : Split base [] (rec ∷ parts) now = (refl, leads) in
      subst (λ (l : List Record). Split base (up_to (rec ∷ parts)) l now) all (subst (λ (l : List Record). Split base l (rec ∷ parts) now) none here))
