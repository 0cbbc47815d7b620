-- Each handling, load and switch keeps it so.
use Rattle.std.proofs.Common.{◌≡◌, ◌∙◌, inl, ⊎_elim, ℕ, ◌<◌, ◌≤◌, ◌==◌, ◌&&◌, not, nat_le, nat_lt, Bool, true, false, if◌then◌else◌, List, [], ◌∷◌, ◌++◌, length, map, refl, sym, ap, subst, arith, append_assoc}
use Rattle.std.specs.Prelude.{filter}
use Rattle.std.specs.List.{AllByRecursion}
use Rattle.std.proofs.lemmas.List.{append-nil}
use Rattle.std.proofs.lemmas.Bool.{eqb-true, eq-eqb, ltb-true, ltb-false, leb-true, leb-false}
use Rattle.salus_types.specs.Volume.{Shape}
use Rattle.salus_types.specs.declared.records.Record.{Record}
use Rattle.salus_types.specs.declared.records.Base.{Base}
use Rattle.salus_types.specs.declared.records.Held.{Held}
use Rattle.merkle_region.specs.Tree.{IsAmong}
use Rattle.replica_rules.specs.Views.{View, view_of_base}
use Rattle.replica_rules.specs.Replicas.{Applied}
use Rattle.holding_model.specs.Changing.{AddsPart, FoldsTo, is_folded, is_open_base, base_after_all, folded, changed, after_changes}
use Rattle.replica_rules.specs.Nodes.{Memory, open_parts}
use Rattle.replica_rules.specs.Rules.{stored, after_fold}
use Rattle.list_lemmas.proofs.Each.{all_then, all_pass}
use Rattle.list_lemmas.proofs.Members.{among_all}
use Rattle.list_lemmas.proofs.Tests.{by_bool}
use Rattle.law_handed.proofs.Staying.{base_session, gone_session}
use Rattle.law_handed.proofs.Folding.{Foldable, filter_both}
use Rattle.law_handed.proofs.Whole.{Leads, IsOurs, leads_rises, leads_both, AppliedFrom, above_it, Split, split}

-- the one base, and the parts that lead from it to that view
pub record IsWhole (shape : Shape) (held : Held) (view : View) : Type 0 where
  pub base : Base
  pub only : filter (λ b. is_open_base held b) held.bases ≡ base ∷ []
  pub leads : Leads shape (view_of_base base) (open_parts held) view

pub record Sane (shape : Shape) (held : Held) (m : Memory) : Type 0 where
  pub session : m.replica.session ≡ held.session
  pub early : AllByRecursion (IsOurs held.session) m.replica.early
  pub whole : m.whole ≡ true → IsWhole shape held m.replica.view

pub foldable_of : (shape : Shape) (held : Held) (view : View) → IsWhole shape held view → Foldable held
foldable_of shape held view w = record { base = w.base; only = w.only; rises = leads_rises shape (view_of_base w.base) (open_parts held) view w.leads }

-- ---- lists

pub filter_append : {A : Type 0} (t : A → Bool) (xs ys : List A) → filter t (xs ++ ys) ≡ filter t xs ++ filter t ys
filter_append t [] ys = refl
filter_append t (x ∷ xs) ys = elim (t x) as (λ b. (if b then x ∷ filter t (xs ++ ys) else filter t (xs ++ ys)) ≡ (if b then x ∷ filter t xs else filter t xs) ++ filter t ys) [
  | true ↦ ap (λ l. x ∷ l) (filter_append t xs ys)
  | false ↦ filter_append t xs ys
]

filter_all : {A : Type 0} (t : A → Bool) (xs : List A) → AllByRecursion (λ x. t x ≡ true) xs → filter t xs ≡ xs
filter_all t [] all = refl
filter_all t (x ∷ xs) all = ap (λ b. if b then x ∷ filter t xs else filter t xs) all.0 ∙ ap (λ l. x ∷ l) (filter_all t xs all.1)

filter_none : {A : Type 0} (t : A → Bool) (xs : List A) → AllByRecursion (λ x. t x ≡ false) xs → filter t xs ≡ []
filter_none t [] all = refl
filter_none t (x ∷ xs) all = ap (λ b. if b then x ∷ filter t xs else filter t xs) all.0 ∙ filter_none t xs all.1

pub single : {A : Type 0} (xs : List A) (x : A) → length xs ≡ 1 → IsAmong x xs → xs ≡ x ∷ []
single [] x one among = absurd among
single (y ∷ []) x one among = ⊎_elim (λ same. ap (λ z. z ∷ []) (sym same)) (λ none. absurd none) among
single (y ∷ z ∷ xs) x one among = absurd (omega arith)

-- what passes the first test and isn't of both passes the first and the opposite of the second
filter_rest : {A : Type 0} (a b c : A → Bool) → ((x : A) → c x ≡ not (b x)) → (xs : List A) → filter a (filter (λ x. not (a x && b x)) xs) ≡ filter c (filter a xs)
filter_rest a b c opposite [] = refl
filter_rest a b c opposite (x ∷ xs) =
    let rest : filter a (filter (λ y. not (a y && b y)) xs) ≡ filter c (filter a xs) = filter_rest a b c opposite xs in
    by_bool (a x) (filter a (filter (λ y. not (a y && b y)) (x ∷ xs)) ≡ filter c (filter a (x ∷ xs)))
    (λ yes_a. by_bool (b x) (filter a (filter (λ y. not (a y && b y)) (x ∷ xs)) ≡ filter c (filter a (x ∷ xs)))
    (λ yes_b.
    let gone : not (a x && b x) ≡ false = ap (λ v. not (v && b x)) yes_a ∙ ap not yes_b in
    let off : c x ≡ false = opposite x ∙ ap not yes_b in
    ap (λ v. filter a (if v then x ∷ filter (λ y. not (a y && b y)) xs else filter (λ y. not (a y && b y)) xs)) gone ∙ rest
    ∙ sym (ap (λ v. filter c (if v then x ∷ filter a xs else filter a xs)) yes_a ∙ ap (λ v. if v then x ∷ filter c (filter a xs) else filter c (filter a xs)) off))
    (λ no_b.
    let stays : not (a x && b x) ≡ true = ap (λ v. not (v && b x)) yes_a ∙ ap not no_b in
    let on : c x ≡ true = opposite x ∙ ap not no_b in
    ap (λ v. filter a (if v then x ∷ filter (λ y. not (a y && b y)) xs else filter (λ y. not (a y && b y)) xs)) stays
    ∙ ap (λ v. if v then x ∷ filter a (filter (λ y. not (a y && b y)) xs) else filter a (filter (λ y. not (a y && b y)) xs)) yes_a ∙ ap (λ l. x ∷ l) rest
    ∙ sym (ap (λ v. filter c (if v then x ∷ filter a xs else filter a xs)) yes_a ∙ ap (λ v. if v then x ∷ filter c (filter a xs) else filter c (filter a xs)) on)))
    (λ no_a.
    let stays : not (a x && b x) ≡ true = ap (λ v. not (v && b x)) no_a in
    ap (λ v. filter a (if v then x ∷ filter (λ y. not (a y && b y)) xs else filter (λ y. not (a y && b y)) xs)) stays
    ∙ ap (λ v. if v then x ∷ filter a (filter (λ y. not (a y && b y)) xs) else filter a (filter (λ y. not (a y && b y)) xs)) no_a ∙ rest
    ∙ sym (ap (λ v. filter c (if v then x ∷ filter a xs else filter a xs)) no_a))

lt_not_le : (n x : ℕ) → nat_lt n x ≡ not (nat_le x n)
lt_not_le n x = by_bool (nat_le x n) (nat_lt n x ≡ not (nat_le x n))
    (λ low. let under : x ≤ n = leb-true x n low in by_bool (nat_lt n x) (nat_lt n x ≡ not (nat_le x n)) (λ high. let over : n < x = ltb-true n x high in absurd (omega arith)) (λ e. e ∙ sym (ap not low)))
    (λ high. let over : n < x = leb-false x n high in by_bool (nat_lt n x) (nat_lt n x ≡ not (nat_le x n)) (λ e. e ∙ sym (ap not high)) (λ e. let under : x ≤ n = ltb-false n x e in absurd (omega arith)))

module _ (shape : Shape) where
  -- ---- parts are added

  with_parts : Held → List Record → Held
  with_parts held parts = record { session = held.session; bases = held.bases; parts = held.parts ++ parts }

  added_held : (held : Held) (parts : List Record) → after_changes shape held (map (λ rec. AddsPart rec) parts) ≡ with_parts held parts
  unfolding after_changes changed with_parts
  added_held held [] = ap (λ l. record { session = held.session; bases = held.bases; parts = l }) (sym (append-nil held.parts))
  added_held held (rec ∷ parts) = added_held (changed shape held (AddsPart rec)) parts ∙ ap (λ l. record { session = held.session; bases = held.bases; parts = l }) (append_assoc held.parts (rec ∷ []) parts)

  whole_with : (held : Held) (view : View) (parts : List Record) (now : View) → AllByRecursion (λ rec. rec.header.session ≡ held.session) parts → Leads shape view parts now
      → IsWhole shape held view → IsWhole shape (with_parts held parts) now
  unfolding with_parts
  whole_with held view parts now ours leads w =
      let t : Record → Bool = λ rec. rec.header.session == held.session in
      let same : open_parts (with_parts held parts) ≡ open_parts held ++ parts =
      filter_append t held.parts parts ∙ ap (λ l. open_parts held ++ l) (filter_all t parts (all_then (λ rec. rec.header.session ≡ held.session) (λ rec. t rec ≡ true) (λ rec e. eq-eqb rec.header.session held.session e) parts ours)) in
      record {
        base = w.base;
        only = w.only;
        leads = subst (λ (l : List Record). Leads shape (view_of_base w.base) l now) (sym same) (leads_both shape (view_of_base w.base) (open_parts held) parts view now w.leads leads);
      }

  pub stored_sane : (g : ℕ) (held : Held) (m : Memory) (applied : Applied) → Sane shape held m → AppliedFrom shape held.session m.replica.view applied
      → Sane shape (after_changes shape held (map (λ rec. AddsPart rec) applied.parts)) (stored shape g m applied).memory
  unfolding with_parts
  stored_sane g held m applied sane from =
      subst (λ (h : Held). Sane shape h (stored shape g m applied).memory) (sym (added_held held applied.parts))
      (record { session = from.session; early = from.kept; whole = λ w. whole_with held m.replica.view applied.parts applied.replica.view from.ours from.leads (sane.whole w) })

  -- ---- a fold

  -- the parts that are folded lead to the base after them
  folded_split : (held : Held) (n : ℕ) (view : View) (w : IsWhole shape held view)
      → Split shape n w.base (filter (λ rec. is_folded held n rec) held.parts) (above_it shape n (open_parts held)) view
  folded_split held n view w =
      subst (λ (l : List Record). Split shape n w.base l (above_it shape n (open_parts held)) view) (sym (filter_both (λ rec. rec.header.session == held.session) (λ rec. nat_le rec.header.seq n) held.parts))
      (split shape n w.base (open_parts held) view w.leads)

  pub gone_leads : (held : Held) (n : ℕ) (view : View) (w : IsWhole shape held view) → let gone : List Record = filter (λ rec. is_folded held n rec) held.parts in
      Leads shape (view_of_base w.base) gone (view_of_base (base_after_all shape w.base gone))
  gone_leads held n view w = (folded_split held n view w).0

  fold_whole : (held : Held) (n : ℕ) (view : View) (gone : List Record) → IsWhole shape held view → IsWhole shape (folded shape held n gone) view
  fold_whole held n view [] w = w
  fold_whole held n view (first ∷ rest) w =
      let base : Base = w.base in
      let t : Base → Bool = λ b. is_open_base held b in
      let gone : List Record = filter (λ rec. is_folded held n rec) held.parts in
      let now : Held = folded shape held n (first ∷ rest) in
      let next : Base = base_after_all shape base gone in
      let fold_of : Base → Base = λ b. base_after_all shape b gone in
      let later : List Base = filter (λ b. nat_lt held.session b.rec.header.session) held.bases in
      let mine : IsAmong base (filter t held.bases) = subst (λ (l : List Base). IsAmong base l) (sym w.only) (inl refl) in
      let is_open : base.rec.header.session ≡ held.session = eqb-true base.rec.header.session held.session (among_all (λ b. t b ≡ true) (filter t held.bases) base mine (all_pass t held.bases)) in
      let next_open : next.rec.header.session ≡ held.session = base_session shape held.session base gone is_open (gone_session shape held n) in
      let none_later : filter t later ≡ [] = filter_none t later (all_then (λ b. nat_lt held.session b.rec.header.session ≡ true) (λ b. t b ≡ false)
      (λ b up. let over : held.session < b.rec.header.session = ltb-true held.session b.rec.header.session up in
      by_bool (t b) (t b ≡ false) (λ yes_open. let same : b.rec.header.session ≡ held.session = eqb-true b.rec.header.session held.session yes_open in absurd (omega arith)) (λ e. e))
      later (all_pass (λ b. nat_lt held.session b.rec.header.session) held.bases)) in
      let only_next : filter t now.bases ≡ next ∷ [] =
      filter_append t (map fold_of (filter t held.bases)) later ∙ ap (λ l. filter t (map fold_of (filter t held.bases)) ++ l) none_later ∙ append-nil (filter t (map fold_of (filter t held.bases)))
      ∙ ap (λ l. filter t (map fold_of l)) w.only ∙ ap (λ v. if v then next ∷ [] else []) (eq-eqb next.rec.header.session held.session next_open) in
      let left : open_parts now ≡ above_it shape n (open_parts held) =
      filter_rest (λ rec. rec.header.session == held.session) (λ rec. nat_le rec.header.seq n) (λ rec. nat_lt n rec.header.seq) (λ rec. lt_not_le n rec.header.seq) held.parts in
      record { base = next; only = only_next; leads = subst (λ (l : List Record). Leads shape (view_of_base next) l view) (sym left) (folded_split held n view w).1 }

  fold_session : (held : Held) (n : ℕ) (gone : List Record) → (folded shape held n gone).session ≡ held.session
  fold_session held n [] = refl
  fold_session held n (rec ∷ gone) = refl

  pub fold_sane : (held : Held) (n : ℕ) (m : Memory) → Sane shape held m → Sane shape (changed shape held (FoldsTo n)) (after_fold m n)
  unfolding changed
  fold_sane held n m sane =
      let gone : List Record = filter (λ rec. is_folded held n rec) held.parts in
      let same : held.session ≡ (folded shape held n gone).session = sym (fold_session held n gone) in
      record {
        session = sane.session ∙ same;
        early = subst (λ (s : ℕ). AllByRecursion (IsOurs s) m.replica.early) same sane.early;
        whole = λ w. fold_whole held n m.replica.view gone (sane.whole w);
      }
