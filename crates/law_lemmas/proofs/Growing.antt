-- Sessions that are known stay known, and what they have tagged stays tagged.
use Rattle.std.proofs.Common.{◌≡◌, ◌⊎◌, ℕ, ◌+◌, ◌-◌, ◌<◌, ◌≤◌, ◌∙◌, Bool, true, false, ◌==◌, if◌then◌else◌, cond, List, [], ◌++◌, map, length, get_or, take, drop, replicate, Option, None, Some, inl, inr, refl, ap, sym, arith, append-nil, append_assoc, length-append}
use Rattle.std.specs.Prelude.{find}
use Rattle.std.proofs.lemmas.Option.{same_Some}
use Rattle.std.proofs.lemmas.List.{take-append-le, get_or_append_left}
use Rattle.salus_types.specs.Volume.{Shape, regions}
use Rattle.salus_types.specs.declared.records.Record.{Record}
use Rattle.volume_model.specs.Contents.{Batch, all_regions, fold_batches, region_root, volume_top}
use Rattle.client_tag.specs.Tags.{sealed}
use Rattle.volume_model.specs.Parts.{Session, touches, touched_by, leader_of, writes_in, last_touch, part_of, base_of}
use Rattle.salus_model.specs.Judge.{Judge, known_at}
use Rattle.salus_model.specs.Forgery.{IsTagged}
use Rattle.law_lemmas.proofs.Numbered.{IsSized}
use Rattle.law_lemmas.proofs.Owned.{IsOwn}

-- ---- a session with more batches

abbrev pub extended : Session → List Batch → Session
extended known more = record known { list = known.list ++ more }

-- the session goes on, and the others are as they were
pub record IsGoing (before after : Judge) : Type 0 where
  pub more : List Batch
  pub now : after.now ≡ extended before.now more
  pub others : after.others ≡ before.others
  pub staged : after.staged ≡ before.staged
  pub opened : after.opened ≡ before.opened

pub going_still : (before after : Judge) → after.now ≡ before.now → after.others ≡ before.others → after.staged ≡ before.staged → after.opened ≡ before.opened → IsGoing before after
going_still before after now others staged opened =
    record { more = []; now = now ∙ ap (λ l. record before.now { list = l }) (sym (append-nil before.now.list)); others = others; staged = staged; opened = opened }

pub going_on : (a b c : Judge) → IsGoing a b → IsGoing b c → IsGoing a c
going_on a b c first second = record {
  more = first.more ++ second.more;
  now = second.now
      ∙ (ap (λ k. extended k second.more) first.now
      ∙ ap (λ l. record a.now { list = l }) (append_assoc a.now.list first.more second.more));
  others = second.others ∙ first.others;
  staged = second.staged ∙ first.staged;
  opened = second.opened ∙ first.opened;
}

-- ---- records

module _ (shape : Shape) (key : List ℕ) (known : Session) where
  -- a part as a function of the two front parts of the list and the two batches
  part_from : ℕ → ℕ → List Batch → List Batch → Batch → Batch → Record
  part_from s g front before batch batch_before =
      sealed key (record {
        header = record {
          version = 1;
          session = known.session;
          seq = s;
          region = g;
          previous = last_touch shape g known.base (known.base + 1) (drop known.base before);
          leader_before = if s - 1 == known.base then 0 else leader_of shape batch_before;
          fronts = map (λ r. last_touch shape r known.base (known.base + 1) (drop known.base front)) (all_regions shape);
          touched = touched_by shape batch;
          root = region_root shape (fold_batches known.origin front) g;
          top = volume_top shape (fold_batches known.origin front);
        };
        writes = writes_in shape batch g;
        run = None;
        tag = replicate 32 0;
      })

  part_is : (s g : ℕ) (list : List Batch)
      → part_of shape key (record known { list = list }) s g ≡ part_from s g (take s list) (take (s - 1) list) (get_or list (s - 1) []) (get_or list (s - 1 - 1) [])
  unfolding part_of part_from
  part_is s g list = refl

  part_same : (s g : ℕ) (more : List Batch) → 0 < s → s ≤ length known.list → part_of shape key known s g ≡ part_of shape key (extended known more) s g
  part_same s g more positive within =
      part_is s g known.list
      ∙ (ap (λ front. part_from s g front (take (s - 1) known.list) (get_or known.list (s - 1) []) (get_or known.list (s - 1 - 1) [])) (sym (take-append-le s known.list more within))
      ∙ (ap (λ before. part_from s g (take s (known.list ++ more)) before (get_or known.list (s - 1) []) (get_or known.list (s - 1 - 1) [])) (sym (take-append-le (s - 1) known.list more (omega arith)))
      ∙ (ap (λ batch. part_from s g (take s (known.list ++ more)) (take (s - 1) (known.list ++ more)) batch (get_or known.list (s - 1 - 1) [])) (sym (get_or_append_left known.list more [] (s - 1) (omega arith)))
      ∙ (ap (λ batch. part_from s g (take s (known.list ++ more)) (take (s - 1) (known.list ++ more)) (get_or (known.list ++ more) (s - 1) []) batch) (sym (get_or_append_left known.list more [] (s - 1 - 1) (omega arith)))
      ∙ sym (part_is s g (known.list ++ more))))))

  base_same : (g : ℕ) (more : List Batch) → known.base ≤ length known.list → base_of shape key known g ≡ base_of shape key (extended known more) g
  unfolding base_of
  base_same g more within =
      ap (λ front. sealed key (record {
        header = record {
          version = 1;
          session = known.session;
          seq = known.base;
          region = g;
          previous = 0;
          leader_before = 0;
          fronts = replicate (regions shape) known.base;
          touched = all_regions shape;
          root = region_root shape (fold_batches known.origin front) g;
          top = volume_top shape (fold_batches known.origin front);
        };
        writes = [];
        run = None;
        tag = replicate 32 0;
      })) (sym (take-append-le known.base known.list more within))

  pub own_extended : (g : ℕ) (rec : Record) (more : List Batch) → known.base ≤ length known.list → IsOwn shape key known g rec → IsOwn shape key (extended known more) g rec
  own_extended g rec more begun (inl part) =
      let own = part.own in
      let within = part.within in
      let batch : get_or (known.list ++ more) (part.s - 1) [] ≡ get_or known.list (part.s - 1) [] = get_or_append_left known.list more [] (part.s - 1) (omega arith) in
      inl (record {
        s = part.s;
        own = part.own;
        within = rw (length-append known.list more) (omega arith);
        inside = part.inside;
        touched = ap (λ b. touches shape b g) batch ∙ part.touched;
        is = part.is ∙ part_same part.s g more (omega arith) part.within;
      })
  own_extended g rec more begun (inr base) = inr (record { inside = base.inside; is = base.is ∙ base_same g more begun })

-- ---- sessions

-- each known session stays known, maybe with more batches
abbrev pub Grows : Judge → Judge → Type 0
Grows before after = (known : Session) (e : ℕ) → known_at before e ≡ Some known → (more : List Batch) × (known_at after e ≡ Some (extended known more))

-- each known session was known before, or it is that one
abbrev pub Comes : Judge → Judge → (ℕ → Session → Type 0) → Type 0
Comes before after New = (known : Session) (e : ℕ) → known_at after e ≡ Some known
    → ((old : Session) × (more : List Batch) × (known_at before e ≡ Some old) × (known ≡ extended old more)) ⊎ New e known

pub extended-nothing : (known : Session) → extended known [] ≡ known
extended-nothing known = ap (λ l. record known { list = l }) (append-nil known.list)

module _ (now known : Session) (more : List Batch) (others : Option Session) where
  grows_tested : (t : Bool) → cond t (Some now) others ≡ Some known → (added : List Batch) × (cond t (Some (extended now more)) others ≡ Some (extended known added))
  grows_tested true at = (more, ap (λ k. Some (extended k more)) (same_Some now known at))
  grows_tested false at = ([], at ∙ ap Some (sym (extended-nothing known)))

  comes_tested : (t : Bool) → cond t (Some (extended now more)) others ≡ Some known → (old : Session) × (added : List Batch) × (cond t (Some now) others ≡ Some old) × (known ≡ extended old added)
  comes_tested true at = (now, more, refl, sym (same_Some (extended now more) known at))
  comes_tested false at = (known, [], at, sym (extended-nothing known))

module _ (before after : Judge) (going : IsGoing before after) where
  at_after : (e : ℕ) → known_at after e ≡ cond (before.now.session == e) (Some (extended before.now going.more)) (find (λ k. k.session == e) before.others)
  at_after e =
      ap (λ k. cond (k.session == e) (Some k) (find (λ x. x.session == e) after.others)) going.now
      ∙ ap (λ others. cond (before.now.session == e) (Some (extended before.now going.more)) (find (λ x. x.session == e) others)) going.others

  pub going-grows : Grows before after
  going-grows = λ known e at.
      let found = grows_tested before.now known going.more (find (λ k. k.session == e) before.others) (before.now.session == e) at in
      (found.0, at_after e ∙ found.1)

  pub going-comes : Comes before after (λ e known. ⊥)
  going-comes = λ known e at. inl (comes_tested before.now known going.more (find (λ k. k.session == e) before.others) (before.now.session == e) (sym (at_after e) ∙ at))

pub grows_on : (a b c : Judge) → Grows a b → Grows b c → Grows a c
grows_on a b c first second = λ known e at.
    let one = first known e at in
    let two = second (extended known one.0) e one.1 in
    (one.0 ++ two.0, two.1 ∙ ap (λ l. Some (record known { list = l })) (append_assoc known.list one.0 two.0))

pub tagged-grows : (shape : Shape) (key : List ℕ) (before after : Judge) (rec : Record)
    → ((known : Session) (e : ℕ) → known_at before e ≡ Some known → IsSized shape known) → Grows before after → IsTagged shape key before rec → IsTagged shape key after rec
tagged-grows shape key before after rec sized grows tagged =
    let found = grows tagged.session tagged.e tagged.known in
    record {
      e = tagged.e;
      session = extended tagged.session found.0;
      known = found.1;
      g = tagged.g;
      either = own_extended shape key tagged.session tagged.g rec found.0 (sized tagged.session tagged.e tagged.known).begun tagged.either;
    }

pub sized-extended : (shape : Shape) (known : Session) (more : List Batch) → IsSized shape known → IsSized shape (extended known more)
sized-extended shape known more sized = let begun = sized.begun in record { long = sized.long; begun = rw (length-append known.list more) (omega arith) }
