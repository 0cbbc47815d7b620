-- The parts of a session that are tried one after another, and the session that is opened with them.
use Rattle.std.proofs.Common.{◌≡◌, ◌∙◌, ℕ, ◌+◌, ◌<◌, ◌≤◌, ◌==◌, ◌&&◌, Bool, true, false, if◌then◌else◌, nat_le, List, [], ◌∷◌, ◌++◌, drop, length, get_or, All, Option, None, Some, Result, IfOk, refl, sym, ap, subst, append-nil, append_assoc, arith}
use Rattle.std.specs.Prelude.{filter, find, option_map}
use Rattle.std.specs.List.{AllByRecursion}
use Rattle.std.proofs.lemmas.Bool.{eqb-true, le-leb, and_parts, true≢false}
use Rattle.std.proofs.lemmas.List.{at_drop_more, at_drop_all}
use Rattle.std.proofs.lemmas.List.Elements.{All-from_recursion}
use Rattle.salus_types.specs.Volume.{Shape, regions}
use Rattle.salus_types.specs.declared.memory.NoMemory.{NoMemory}
use Rattle.salus_types.specs.declared.records.Record.{Record}
use Rattle.salus_types.specs.declared.records.Base.{Base}
use Rattle.salus_types.specs.declared.records.Held.{Held}
use Rattle.holding_model.specs.Fitting.{has_shape, record_fits}
use Rattle.holding_model.specs.Changing.{SwitchesTo, changed}
use Rattle.volume_model.specs.Recovering.{is_of}
use Rattle.replica_rules.specs.Views.{View, view_after, view_of_base, is_accepted, has_right_shape}
use Rattle.replica_rules.specs.Leading.{new_leader, noted_with}
use Rattle.replica_rules.specs.Nodes.{Memory, Tried, counted, all_tried, goes_on, stands_for, begun_with, memory_of, loaded_as}
use Rattle.region_view.specs.Kept.{KeptView}
use Rattle.region_replica.specs.Serving.{Serving}
use Rattle.region_replica.proofs.PartTelling.{shape-fits}
use Rattle.pipelined_commit.specs.Standing.{KeptLeader, StandsFor as LeaderStands, Follows}
use Rattle.open_session.specs.Kept.{KeptSession, kept_of}
use Rattle.open_session.specs.Standing.{IsOpened}
use Rattle.open_session.specs.Opening.{open_base_of, parts_of, is_whole_of, opened_at, follows, IsTried, IsTriedAll, IsTriedNext}
use Rattle.open_session.proofs.Noting.{touches-few}
use Rattle.list_lemmas.proofs.Each.{all_then}
use Rattle.list_lemmas.proofs.Tests.{by_bool}

-- ---- one part

shifted : (s r sh p acc : Bool) → (s && (((r && sh) && p) && acc)) ≡ ((((s && r) && sh) && p) && acc)
shifted true r sh p acc = refl
shifted false r sh p acc = refl

-- what is tested before it is applied
abbrev pub can : ℕ → ℕ → KeptView → Record → Bool
can g e seen rec = (rec.header.session == e) && (rec.header.region == g) && has_right_shape seen.shape g rec && (rec.header.previous == seen.view.number)

follows_is : (g e : ℕ) (seen : KeptView) (rec : Record) (b : Bool) → can g e seen rec ≡ b → follows g e seen rec ≡ (b && is_accepted seen.shape seen.view rec)
follows_is g e seen rec b is =
    shifted (rec.header.session == e) (rec.header.region == g) (has_right_shape seen.shape g rec) (rec.header.previous == seen.view.number) (is_accepted seen.shape seen.view rec)
    ∙ ap (λ b. b && is_accepted seen.shape seen.view rec) is

-- as the program tests it
pub can_is : (g e number : ℕ) (shape : Shape) (seen : KeptView) (rec : Record) (b : Bool) → shape ≡ seen.shape → number ≡ seen.view.number
    → b ≡ ((rec.header.session == e) && (rec.header.region == g) && has_right_shape shape g rec && (rec.header.previous == number)) → can g e seen rec ≡ b
can_is g e number shape seen rec b at number_is is =
    sym (is ∙ ap (λ (sh : Shape). (rec.header.session == e) && (rec.header.region == g) && has_right_shape sh g rec && (rec.header.previous == number)) at
    ∙ ap (λ n. (rec.header.session == e) && (rec.header.region == g) && has_right_shape seen.shape g rec && (rec.header.previous == n)) number_is)

pub tried-not : (g e : ℕ) (seen next : KeptView) (rec : Record) → can g e seen rec ≡ false → next ≡ seen → IsTried g e seen rec next false
tried-not g e seen next rec is same = record { told = sym (follows_is g e seen rec false is); view = ap (λ (k : KeptView). k.view) same }

pub tried-accepted : (g e : ℕ) (seen next : KeptView) (rec : Record) → can g e seen rec ≡ true → is_accepted seen.shape seen.view rec ≡ true
    → next ≡ record seen { view = view_after seen.shape seen.view rec } → IsTried g e seen rec next true
tried-accepted g e seen next rec is right after = record { told = sym (follows_is g e seen rec true is ∙ right); view = ap (λ (k : KeptView). k.view) after }

pub tried-refused : (g e : ℕ) (seen next : KeptView) (rec : Record) → can g e seen rec ≡ true → is_accepted seen.shape seen.view rec ≡ false → next ≡ seen → IsTried g e seen rec next false
tried-refused g e seen next rec is wrong same = record { told = sym (follows_is g e seen rec true is ∙ wrong); view = ap (λ (k : KeptView). k.view) same }

pub can-fits : (g e : ℕ) (seen : KeptView) (rec : Record) → can g e seen rec ≡ true → record_fits seen.shape rec ≡ true
can-fits g e seen rec is =
    let last = and_parts ((rec.header.session == e) && (rec.header.region == g) && has_right_shape seen.shape g rec) (rec.header.previous == seen.view.number) is in
    let third = and_parts ((rec.header.session == e) && (rec.header.region == g)) (has_right_shape seen.shape g rec) last.0 in
    shape-fits seen.shape g rec third.1

-- ---- all of them

abbrev pub before_parts : List Record → Tried → Tried
before_parts parts tried = record tried { parts = parts ++ tried.parts }

abbrev one_way : Shape → ℕ → ℕ → View → Record → List Record → Bool → Tried
one_way shape g e view x rest b = if b then counted x (all_tried shape g (view_after shape view x) (parts_of e rest)) else all_tried shape g view (parts_of e rest)

tried_one : (shape : Shape) (g e : ℕ) (view : View) (x : Record) (rest : List Record) → all_tried shape g view (parts_of e (x ∷ rest)) ≡ one_way shape g e view x rest ((x.header.session == e) && goes_on shape g view x)
unfolding all_tried
tried_one shape g e view x rest =
    by_bool (x.header.session == e) (all_tried shape g view (parts_of e (x ∷ rest)) ≡ one_way shape g e view x rest ((x.header.session == e) && goes_on shape g view x))
    (λ here. ap (λ b. all_tried shape g view (if b then x ∷ parts_of e rest else parts_of e rest)) here
    ∙ sym (ap (λ b. one_way shape g e view x rest (b && goes_on shape g view x)) here))
    (λ other. ap (λ b. all_tried shape g view (if b then x ∷ parts_of e rest else parts_of e rest)) other
    ∙ sym (ap (λ b. one_way shape g e view x rest (b && goes_on shape g view x)) other))

pub tried-start : (g e : ℕ) (seen : KeptView) (parts tried : List Record) → tried ≡ [] → all_tried seen.shape g seen.view (parts_of e parts) ≡ before_parts tried (all_tried seen.shape g seen.view (parts_of e (drop 0 parts)))
tried-start g e seen parts tried none = sym (ap (λ l. before_parts l (all_tried seen.shape g seen.view (parts_of e parts))) none)

module _ (g e : ℕ) (whole : Tried) (seen next : KeptView) (ps parts : List Record) (i : ℕ) (x : Record) where
  step_is : i < length parts → x ≡ get_or parts i x → whole ≡ before_parts ps (all_tried seen.shape g seen.view (parts_of e (drop i parts))) → (b : Bool) → b ≡ follows g e seen x
      → whole ≡ before_parts ps (one_way seen.shape g e seen.view x (drop (i + 1) parts) b)
  step_is within is all b told =
      all ∙ ap (λ t. before_parts ps t)
      (at_drop_more (λ l. all_tried seen.shape g seen.view (parts_of e l)) parts i x within
      ∙ ap (λ y. all_tried seen.shape g seen.view (parts_of e (y ∷ drop (i + 1) parts))) (sym is)
      ∙ tried_one seen.shape g e seen.view x (drop (i + 1) parts)
      ∙ ap (λ b. one_way seen.shape g e seen.view x (drop (i + 1) parts) b) (sym told))

  pub tried-more : i < length parts → x ≡ get_or parts i x → whole ≡ before_parts ps (all_tried seen.shape g seen.view (parts_of e (drop i parts))) → IsTried g e seen x next true → next.shape ≡ seen.shape
      → (new : List Record) → new ≡ ps ++ x ∷ [] → whole ≡ before_parts new (all_tried next.shape g next.view (parts_of e (drop (i + 1) parts)))
  tried-more within is all tried at new grown =
      let rest : Tried = all_tried seen.shape g (view_after seen.shape seen.view x) (parts_of e (drop (i + 1) parts)) in
      step_is within is all true tried.told
      ∙ ap (λ l. record rest { parts = l }) (sym (append_assoc ps (x ∷ []) rest.parts))
      ∙ ap (λ l. before_parts l rest) (sym grown)
      ∙ sym (ap (λ sh. before_parts new (all_tried sh g next.view (parts_of e (drop (i + 1) parts)))) at ∙ ap (λ v. before_parts new (all_tried seen.shape g v (parts_of e (drop (i + 1) parts)))) tried.view)

  pub tried-on : i < length parts → x ≡ get_or parts i x → whole ≡ before_parts ps (all_tried seen.shape g seen.view (parts_of e (drop i parts))) → IsTried g e seen x next false → next.shape ≡ seen.shape
      → whole ≡ before_parts ps (all_tried next.shape g next.view (parts_of e (drop (i + 1) parts)))
  tried-on within is all tried at =
      step_is within is all false tried.told
      ∙ sym (ap (λ sh. before_parts ps (all_tried sh g next.view (parts_of e (drop (i + 1) parts)))) at ∙ ap (λ v. before_parts ps (all_tried seen.shape g v (parts_of e (drop (i + 1) parts)))) tried.view)

  pub tried-next : i < length parts → x ≡ get_or parts i x → whole ≡ before_parts ps (all_tried seen.shape g seen.view (parts_of e (drop i parts))) → next.shape ≡ seen.shape
      → (new : List Record) → IsTriedNext g e seen x next ps new → whole ≡ before_parts new (all_tried next.shape g next.view (parts_of e (drop (i + 1) parts)))
  tried-next within is all at new step = by_way step.applied step.tried step.parts
    where
      by_way : (b : Bool) → IsTried g e seen x next b → new ≡ (if b then ps ++ x ∷ [] else ps) → whole ≡ before_parts new (all_tried next.shape g next.view (parts_of e (drop (i + 1) parts)))
      by_way true tried grown = tried-more within is all tried at new grown
      by_way false tried grown =
          tried-on within is all tried at ∙ ap (λ l. before_parts l (all_tried next.shape g next.view (parts_of e (drop (i + 1) parts)))) (sym grown)

tried_none : (shape : Shape) (g e : ℕ) (view : View) (ps : List Record) → before_parts ps (all_tried shape g view (parts_of e [])) ≡ record { view = view; parts = ps }
unfolding all_tried
tried_none shape g e view ps = ap (λ l. record { view = view; parts = l }) (append-nil ps)

pub tried-end : (g e : ℕ) (before seen : KeptView) (ps parts : List Record) (i : ℕ) → length parts ≤ i
    → all_tried before.shape g before.view (parts_of e parts) ≡ before_parts ps (all_tried seen.shape g seen.view (parts_of e (drop i parts))) → IsTriedAll g e before parts seen ps
tried-end g e before seen ps parts i end all =
    record { all = all ∙ at_drop_all (λ l. before_parts ps (all_tried seen.shape g seen.view (parts_of e l))) parts i end ∙ tried_none seen.shape g e seen.view ps }

-- ---- each has the right shape

right_each : (shape : Shape) (g : ℕ) (view : View) (parts : List Record) → AllByRecursion (λ rec. has_right_shape shape g rec ≡ true) (all_tried shape g view parts).parts
unfolding all_tried
right_each shape g view [] = tt
right_each shape g view (x ∷ parts) =
    by_bool (goes_on shape g view x) (AllByRecursion (λ rec. has_right_shape shape g rec ≡ true) (if goes_on shape g view x then counted x (all_tried shape g (view_after shape view x) parts) else all_tried shape g view parts).parts)
    (λ on.
    let last = and_parts ((x.header.region == g) && has_right_shape shape g x && (x.header.previous == view.number)) (is_accepted shape view x) on in
    let third = and_parts ((x.header.region == g) && has_right_shape shape g x) (x.header.previous == view.number) last.0 in
    let second = and_parts (x.header.region == g) (has_right_shape shape g x) third.0 in
    subst (λ b. AllByRecursion (λ rec. has_right_shape shape g rec ≡ true) (if b then counted x (all_tried shape g (view_after shape view x) parts) else all_tried shape g view parts).parts) (sym on)
    (second.1, right_each shape g (view_after shape view x) parts))
    (λ off. subst (λ b. AllByRecursion (λ rec. has_right_shape shape g rec ≡ true) (if b then counted x (all_tried shape g (view_after shape view x) parts) else all_tried shape g view parts).parts) (sym off)
    (right_each shape g view parts))

pub tried-few : (g e count : ℕ) (shape : Shape) (before after : KeptView) (parts tried : List Record) → before.shape ≡ shape → count ≡ regions shape → count ≤ 16 → IsTriedAll g e before parts after tried
    → All (λ (rec : Record). length rec.header.touched ≤ 16) tried
tried-few g e count shape before after parts tried at is few all =
    let here : regions before.shape ≤ 16 = subst (λ n. n ≤ 16) (is ∙ ap (λ (sh : Shape). regions sh) (sym at)) few in
    let each = right_each before.shape g before.view (parts_of e parts) in
    let these = subst (λ l. AllByRecursion (λ rec. has_right_shape before.shape g rec ≡ true) l) (ap (λ (t : Tried). t.parts) all.all) each in
    All-from_recursion (λ (rec : Record). length rec.header.touched ≤ 16) tried (all_then (λ rec. has_right_shape before.shape g rec ≡ true) (λ (rec : Record). length rec.header.touched ≤ 16) (λ rec right. touches-few before.shape g rec here right) tried these)

-- ---- the session that begins

pub begun-stands : (shape : Shape) (g e : ℕ) (held : Held) (base : Base) (before seen : KeptView) (first leader : KeptLeader) (tried : List Record) (serving : Serving) (begun : Option ℕ) (whole : Bool)
    → before ≡ record { shape = shape; view = view_of_base base } → IsTriedAll g e before held.parts seen tried
    → first.region ≡ g → LeaderStands first (new_leader base.rec.header.seq []) → Follows (λ l. record l { noted = noted_with first.region l.noted tried }) first leader
    → serving ≡ record { shape = shape; region = g; replica = record { session = e; view = seen.view; early = []; asks = [] } }
    → begun ≡ (memory_of shape g (opened_at held e) base).begun → whole ≡ is_whole_of e (length tried) held.bases held.parts
    → IsOpened shape g (Some (kept_of serving leader tried begun whole)) (Some (memory_of shape g (opened_at held e) base))
begun-stands shape g e held base before seen first leader tried serving begun whole start all here stands noted made begun_is whole_is =
    let tried_are : all_tried shape g (view_of_base base) (parts_of e held.parts) ≡ record { view = seen.view; parts = tried } =
    sym (ap (λ (k : KeptView). all_tried k.shape g k.view (parts_of e held.parts)) start) ∙ all.all in
    let parts : tried ≡ (all_tried shape g (view_of_base base) (parts_of e held.parts)).parts = sym (ap (λ (t : Tried). t.parts) tried_are) in
    let view : seen.view ≡ (all_tried shape g (view_of_base base) (parts_of e held.parts)).view = sym (ap (λ (t : Tried). t.view) tried_are) in (
      ap (λ (s : Serving). s.shape) made,
      ap (λ (s : Serving). s.region) made,
      record {
        replica = ap (λ (s : Serving). s.replica) made ∙ ap (λ v. record { session = e; view = v; early = []; asks = [] }) view;
        leader = subst (λ l. LeaderStands leader (new_leader base.rec.header.seq l)) (ap (λ k. noted_with k [] tried) here ∙ ap (λ l. noted_with g [] l) parts) (noted (new_leader base.rec.header.seq []) stands);
        parts = parts;
        begun = begun_is;
        whole = whole_is ∙ ap (λ l. is_whole_of e (length l) held.bases held.parts) parts;
      },
    )

-- ---- from what is held

pub opened-none : (shape : Shape) (g e : ℕ) (held : Held) → None ≡ open_base_of shape g e held.bases → IsOpened shape g None (loaded_as shape g (opened_at held e)).memory
unfolding loaded_as
opened-none shape g e held none = subst (λ o. IsOpened shape g None (option_map (λ base. memory_of shape g (opened_at held e) base) o)) none tt

pub opened-some : (shape : Shape) (g e : ℕ) (held : Held) (base : Base) (kept : KeptSession) → Some base ≡ open_base_of shape g e held.bases
    → IsOpened shape g (Some kept) (Some (memory_of shape g (opened_at held e) base)) → IsOpened shape g (Some kept) (loaded_as shape g (opened_at held e)).memory
unfolding loaded_as
opened-some shape g e held base kept some opened = subst (λ o. IsOpened shape g (Some kept) (option_map (λ base. memory_of shape g (opened_at held e) base) o)) some opened

pub base-stands : (shape : Shape) (g e : ℕ) (bases : List Base) (base : Base) → Some base ≡ open_base_of shape g e bases → has_shape shape base.blocks ≡ true
base-stands shape g e bases base some =
    by_bool (e == 0) (has_shape shape base.blocks ≡ true)
    (λ zero. let none : Some base ≡ None = some ∙ ap (λ b. if b then None else find (λ b. stands_for shape g e b) bases) zero in cc)
    (λ more. found_stands bases (sym (some ∙ ap (λ b. if b then None else find (λ b. stands_for shape g e b) bases) more)))
  where
    found_stands : (bs : List Base) → find (λ b. stands_for shape g e b) bs ≡ Some base → has_shape shape base.blocks ≡ true
    found_stands [] found = cc
    found_stands (b ∷ bs) found =
        by_bool (stands_for shape g e b) (has_shape shape base.blocks ≡ true)
        (λ pass.
        let here : Some b ≡ Some base = sym (ap (λ t. if t then Some b else find (λ b. stands_for shape g e b) bs) pass) ∙ found in
        let same : b ≡ base = cc in
        subst (λ (x : Base). has_shape shape x.blocks ≡ true) same (and_parts (is_of e g b.rec.header) (has_shape shape b.blocks) pass).1)
        (λ fail. found_stands bs (sym (ap (λ t. if t then Some b else find (λ b. stands_for shape g e b) bs) fail) ∙ found))

-- ---- at a load, and at a switch

module _ {A : Type 0} (p q : A → Bool) (within : (x : A) → p x ≡ true → q x ≡ true) where
  filter_twice : (xs : List A) → filter p (filter q xs) ≡ filter p xs
  filter_twice [] = refl
  filter_twice (x ∷ xs) =
      by_bool (q x) (filter p (filter q (x ∷ xs)) ≡ filter p (x ∷ xs))
      (λ pass. ap (λ b. filter p (if b then x ∷ filter q xs else filter q xs)) pass ∙ ap (λ l. if p x then x ∷ l else l) (filter_twice xs))
      (λ fail. ap (λ b. filter p (if b then x ∷ filter q xs else filter q xs)) fail ∙ filter_twice xs
      ∙ sym (by_bool (p x) (filter p (x ∷ xs) ≡ filter p xs) (λ yes. absurd (true≢false (sym (within x yes) ∙ fail))) (λ no. ap (λ b. if b then x ∷ filter p xs else filter p xs) no)))

  find_within : (xs : List A) → find p (filter q xs) ≡ find p xs
  find_within [] = refl
  find_within (x ∷ xs) =
      by_bool (q x) (find p (filter q (x ∷ xs)) ≡ find p (x ∷ xs))
      (λ pass. ap (λ b. find p (if b then x ∷ filter q xs else filter q xs)) pass ∙ ap (λ o. if p x then Some x else o) (find_within xs))
      (λ fail. ap (λ b. find p (if b then x ∷ filter q xs else filter q xs)) fail ∙ find_within xs
      ∙ sym (by_bool (p x) (find p (x ∷ xs) ≡ find p xs) (λ yes. absurd (true≢false (sym (within x yes) ∙ fail))) (λ no. ap (λ b. if b then Some x else find p xs) no)))

at_least : (e n : ℕ) → (n == e) ≡ true → nat_le e n ≡ true
at_least e n is = let same : n ≡ e = eqb-true n e is in le-leb e n (omega arith)

-- the memory, of the parts of the session and the number of its bases
abbrev memory_by : Shape → ℕ → ℕ → List Record → ℕ → Base → Memory
memory_by shape g e parts bases base = record {
  replica = record { session = e; view = (all_tried shape g (view_of_base base) parts).view; early = []; asks = [] };
  leader = new_leader base.rec.header.seq (noted_with g [] (all_tried shape g (view_of_base base) parts).parts);
  parts = (all_tried shape g (view_of_base base) parts).parts;
  begun = begun_with base;
  whole = (length (all_tried shape g (view_of_base base) parts).parts == length parts) && (bases == 1);
}

pub switched-same : (shape : Shape) (g e : ℕ) (held : Held) → (loaded_as shape g (changed shape held (SwitchesTo e))).memory ≡ (loaded_as shape g (opened_at held e)).memory
unfolding loaded_as changed
switched-same shape g e held =
    let bases : List Base = filter (λ base. nat_le e base.rec.header.session) held.bases in
    let parts : List Record = filter (λ rec. nat_le e rec.header.session) held.parts in
    let parts_are : parts_of e parts ≡ parts_of e held.parts = filter_twice (λ (rec : Record). rec.header.session == e) (λ rec. nat_le e rec.header.session) (λ rec is. at_least e rec.header.session is) held.parts in
    let open_are : filter (λ (base : Base). base.rec.header.session == e) bases ≡ filter (λ base. base.rec.header.session == e) held.bases =
    filter_twice (λ (base : Base). base.rec.header.session == e) (λ base. nat_le e base.rec.header.session) (λ base is. at_least e base.rec.header.session is) held.bases in
    let found : find (λ (base : Base). stands_for shape g e base) bases ≡ find (λ base. stands_for shape g e base) held.bases =
    find_within (λ (base : Base). stands_for shape g e base) (λ base. nat_le e base.rec.header.session)
    (λ base is. at_least e base.rec.header.session (and_parts (base.rec.header.session == e) (base.rec.header.region == g) (and_parts (is_of e g base.rec.header) (has_shape shape base.blocks) is).0).0) held.bases in
    ap (λ o. option_map (λ base. memory_by shape g e (parts_of e parts) (length (filter (λ (base : Base). base.rec.header.session == e) bases)) base) (if e == 0 then None else o)) found
    ∙ ap (λ l. option_map (λ base. memory_by shape g e l (length (filter (λ (base : Base). base.rec.header.session == e) bases)) base) (if e == 0 then None else find (λ base. stands_for shape g e base) held.bases)) parts_are
    ∙ ap (λ l. option_map (λ base. memory_by shape g e (parts_of e held.parts) (length l) base) (if e == 0 then None else find (λ base. stands_for shape g e base) held.bases)) open_are

pub opens-loaded : (shape : Shape) (g e : ℕ) (held : Held) (result : Result (Option KeptSession) NoMemory) → e ≡ held.session
    → IfOk result (λ o. IsOpened shape g o (loaded_as shape g (opened_at held e)).memory) → IfOk result (λ o. IsOpened shape g o (loaded_as shape g held).memory)
opens-loaded shape g e held result is opened = subst (λ n. IfOk result (λ o. IsOpened shape g o (loaded_as shape g (record held { session = n })).memory)) is opened

pub opens-switched : (shape : Shape) (g e : ℕ) (held : Held) (result : Result (Option KeptSession) NoMemory)
    → IfOk result (λ o. IsOpened shape g o (loaded_as shape g (opened_at held e)).memory) → IfOk result (λ o. IsOpened shape g o (loaded_as shape g (changed shape held (SwitchesTo e))).memory)
opens-switched shape g e held result opened = subst (λ m. IfOk result (λ o. IsOpened shape g o m)) (sym (switched-same shape g e held)) opened
