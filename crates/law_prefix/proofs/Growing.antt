-- What a change of an image keeps.
use Rattle.std.proofs.Common.{◌≡◌, ℕ, suc, ◌+◌, ◌≤◌, ◌<◌, max, nat_lt, List, [], ◌∷◌, ◌++◌, ◌⊎◌, length, refl, sym, ◌∙◌, arith, le_refl, subst, ⊎_elim, inl, inr}
use Rattle.std.proofs.lemmas.Bool.{cond_both, ltb-false}
use Rattle.law_prefix.specs.Numbers.{Mem}
use Rattle.law_prefix.specs.Images.{Image, IsLinked, reach, folded_place, folded_parts}
use Rattle.law_prefix.specs.World.{Client, Volume}
use Rattle.law_prefix.specs.Good.{ImageGood, ClientGood, HasBase}
use Rattle.law_prefix.specs.Steps.{above, AddsPart, AddsBase, Switches, Folds, Changes}
use Rattle.law_prefix.proofs.Counting.{number_start}
use Rattle.law_prefix.proofs.Linking.{reach_within, reach_held, reach_added, linked_added, part_past}
use Rattle.law_prefix.proofs.Folding.{FoldsWell, folds_well}

-- the image is as far as the other, or further
pub record Grows (i j : Image) : Type 0 where
  pub up : i.session ≤ j.session
  pub more : i.session ≡ j.session → reach i.base i.parts ≤ reach j.base j.parts
  pub bases : (f : ℕ) → HasBase i f → HasBase j f

pub kept_above : (e f : ℕ) (fs : List ℕ) → e < f → Mem f fs → Mem f (above e fs)
unfolding above
kept_above e f [] up held = held
kept_above e f (h ∷ fs) up held =
    cond_both {A = List ℕ} (nat_lt e h) (h ∷ above e fs) (above e fs) (λ l. Mem f l)
    (λ t. ⊎_elim (λ (s : f ≡ h). inl s) (λ (m : Mem f fs). inr (kept_above e f fs up m)) held)
    (λ t. ⊎_elim (λ (s : f ≡ h). let low : h ≤ e = ltb-false e h t in absurd (omega arith)) (λ (m : Mem f fs). kept_above e f fs up m) held)

pub from_above : (e f : ℕ) (fs : List ℕ) → Mem f (above e fs) → Mem f fs
unfolding above
from_above e f [] held = held
from_above e f (h ∷ fs) held =
    cond_both {A = List ℕ} (nat_lt e h) (h ∷ above e fs) (above e fs) (λ l. Mem f l → Mem f (h ∷ fs))
    (λ t m. ⊎_elim (λ (s : f ≡ h). inl s) (λ (k : Mem f (above e fs)). inr (from_above e f fs k)) m)
    (λ t m. inr (from_above e f fs m)) held

pub split : (a b : ℕ) → (a ≤ b) ⊎ (b < a)
split a b = grind arith

grows_same : (i : Image) → Grows i i
grows_same i = record { up = le_refl i.session; more = λ s. le_refl (reach i.base i.parts); bases = λ f h. h }

module _ (v : Volume) (c : Client) (client : ClientGood v c) (g : ℕ) (i j : Image) (good : ImageGood c g i) where
  grows_part : AddsPart c g i j → Grows i j
  grows_part how =
      let past : how.added.previous ≤ how.added.before = part_past (c.lists i.session) (c.starts i.session) g how.added.previous how.added how.is_part refl in
      let e : reach i.base (i.parts ++ how.added ∷ []) ≡ suc how.added.before = reach_added i.base i.parts how.added in
      let n : how.added.previous ≡ reach i.base i.parts = how.next in
      record {
        up = omega arith;
        more = λ s. rw (how.same_base, how.more_parts) (omega arith);
        bases = λ f h. rw (how.same_session, how.same_later) h;
      }

  good_part : AddsPart c g i j → ImageGood c g j
  good_part how = record {
    known = rw how.same_session good.known;
    start = rw (how.same_session, how.same_base) good.start;
    within = rw (how.same_session, how.same_base) good.within;
    is_number = rw (how.same_session, how.same_base) good.is_number;
    linked = rw (how.same_session, how.same_base, how.more_parts)
        (linked_added (c.lists i.session) (c.starts i.session) g i.base i.parts how.added good.linked how.is_part how.next);
    later = λ f h. good.later f (rw how.same_later at h);
    origin = λ up. rw how.same_session (good.origin (rw how.same_session at up));
    low = λ s. rw how.same_base (good.low (sym how.same_session ∙ s));
  }

  grows_base : AddsBase c i j → Grows i j
  grows_base how = record {
    up = omega arith;
    more = λ s. rw (how.same_base, how.same_parts) (le_refl (reach i.base i.parts));
    bases = λ f h. rw (how.same_session, how.more_later) (⊎_elim (λ (m : Mem f i.later). inl (inr m)) (λ (l : f ≤ i.session). inr l) h);
  }

  good_base : AddsBase c i j → ImageGood c g j
  good_base how = record {
    known = rw how.same_session good.known;
    start = rw (how.same_session, how.same_base) good.start;
    within = rw (how.same_session, how.same_base) good.within;
    is_number = rw (how.same_session, how.same_base) good.is_number;
    linked = rw (how.same_session, how.same_base, how.same_parts) good.linked;
    later = λ f h. later_base how f (rw how.more_later at h);
    origin = λ up. rw how.same_session (good.origin (rw how.same_session at up));
    low = λ s. rw how.same_base (good.low (sym how.same_session ∙ s));
  }
    where
      later_base : (how : AddsBase c i j) (f : ℕ) → Mem f (how.added ∷ i.later) → Mem f c.known
      later_base how f h = ⊎_elim (λ (e : f ≡ how.added). rw e how.is_known) (λ (m : Mem f i.later). good.later f m) h

  grows_switch : Switches c i j → Grows i j
  grows_switch how =
      let up : i.session < j.session = how.up in
      record {
        up = omega arith;
        more = λ s. absurd (omega arith);
        bases = λ f h. ⊎_elim (λ (m : Mem f i.later). by_order f m) (λ (l : f ≤ i.session). inr (omega arith)) h;
      }
    where
      by_order : (f : ℕ) → Mem f i.later → HasBase j f
      by_order f m = ⊎_elim (λ (l : f ≤ j.session). inr l)
          (λ (l : j.session < f). inl (rw how.later (kept_above j.session f i.later l m))) (split f j.session)

  good_switch : Switches c i j → ImageGood c g j
  unfolding IsLinked
  good_switch how =
      let known : Mem j.session c.known = good.later j.session how.staged in
      record {
        known = known;
        start = rw how.base (le_refl (c.starts j.session));
        within = rw how.base (client.starts_within j.session known);
        is_number = rw how.base (number_start (c.lists j.session) (c.starts j.session) g);
        linked = rw how.parts tt;
        later = λ f h. good.later f (from_above j.session f i.later (rw how.later at h));
        origin = λ up. how.told;
        low = λ s. rw (how.base, s) client.start_acked;
      }

  module _ (how : Folds i j) where
    well : FoldsWell (c.lists i.session) (c.starts i.session) g how.to i.base i.parts (folded_place how.to i.base i.parts) (folded_parts how.to i.parts)
    well = folds_well (c.lists i.session) (c.starts i.session) g how.to i.base i.parts good.is_number good.linked

    grows_fold : Grows i j
    grows_fold = record {
      up = omega arith;
      more = λ s. rw (how.base, how.parts, well.reached) (le_refl (reach i.base i.parts));
      bases = λ f h. rw (how.same_session, how.same_later) h;
    }

    -- a fold leaves the last sixteen batches alone
    fold_room : how.to + 16 ≤ length (c.lists i.session)
    fold_room =
        let a : suc how.newest.before ≤ reach i.base i.parts = reach_held (c.lists i.session) (c.starts i.session) g i.base i.parts how.newest good.linked how.newest_held in
        let b : reach i.base i.parts ≤ length (c.lists i.session) = reach_within (c.lists i.session) (c.starts i.session) g i.base i.parts good.linked good.within in
        let d : how.to + 16 ≤ suc how.newest.before = how.room in
        omega arith

    pub fold_place_low : j.base ≤ max i.base how.to
    fold_place_low = rw how.base well.low

    good_fold : ImageGood c g j
    good_fold =
        let low : j.base ≤ max i.base how.to = fold_place_low in
        let room : how.to + 16 ≤ length (c.lists i.session) = fold_room in
        let within : i.base ≤ length (c.lists i.session) = good.within in
        let start : c.starts i.session ≤ i.base = good.start in
        let above : i.base ≤ folded_place how.to i.base i.parts = well.above in
        record {
          known = rw how.same_session good.known;
          start = rw (how.same_session, how.base) (omega arith);
          within = rw how.same_session (omega arith);
          is_number = rw (how.same_session, how.base) well.is_number;
          linked = rw (how.same_session, how.base, how.parts) well.linked;
          later = λ f h. good.later f (rw how.same_later at h);
          origin = λ up. rw how.same_session (good.origin (rw how.same_session at up));
          low = λ s. fold_acked (sym how.same_session ∙ s);
        }
      where
        fold_acked : i.session ≡ c.served → j.base ≤ c.acked
        fold_acked s =
            let low : j.base ≤ max i.base how.to = fold_place_low in
            let here : i.base ≤ c.acked = good.low s in
            let room : how.to + 16 ≤ length (c.lists c.served) = rw s at fold_room in
            let window : length (c.lists c.served) ≤ c.acked + 16 = client.window in
            omega arith

-- each change
each : (c : Client) (g : ℕ) (i j : Image) (P : Image → Type 0) → P i → (AddsPart c g i j → P j) → (AddsBase c i j → P j)
    → (Switches c i j → P j) → (Folds i j → P j) → Changes c g i j → P j
each c g i j P same part base switch fold how =
    ⊎_elim {B = AddsPart c g i j ⊎ AddsBase c i j ⊎ Switches c i j ⊎ Folds i j} (λ (e : j ≡ i). subst P (sym e) same)
    (⊎_elim {B = AddsBase c i j ⊎ Switches c i j ⊎ Folds i j} part
    (⊎_elim {B = Switches c i j ⊎ Folds i j} base (⊎_elim switch fold))) how

pub grown : (v : Volume) (c : Client) (g : ℕ) (i j : Image) → ClientGood v c → ImageGood c g i → Changes c g i j → Grows i j
grown v c g i j client good how =
    each c g i j (λ x. Grows i x) (grows_same i) (grows_part v c client g i j good) (grows_base v c client g i j good) (grows_switch v c client g i j good)
    (grows_fold v c client g i j good) how

pub still_good : (v : Volume) (c : Client) (g : ℕ) (i j : Image) → ClientGood v c → ImageGood c g i → Changes c g i j → ImageGood c g j
still_good v c g i j client good how =
    each c g i j (λ x. ImageGood c g x) good (good_part v c client g i j good) (good_base v c client g i j good) (good_switch v c client g i j good)
    (good_fold v c client g i j good) how
