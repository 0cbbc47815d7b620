-- What is held when a session is opened can be folded where all of it counts.
use Rattle.std.proofs.Common.{◌≡◌, ◌∙◌, ℕ, ◌≤◌, ◌==◌, Bool, true, false, if◌then◌else◌, List, [], ◌∷◌, length, Option, None, Some, ⊎_elim, sym, ap, subst, arith}
use Rattle.std.specs.Prelude.{filter, option_map}
use Rattle.std.specs.List.{AllByRecursion}
use Rattle.std.proofs.lemmas.Bool.{eqb-true, eq-eqb}
use Rattle.std.proofs.lemmas.Option.{none-some, same_Some}
use Rattle.salus_types.specs.Volume.{Shape}
use Rattle.salus_types.specs.declared.records.Record.{Record}
use Rattle.salus_types.specs.declared.records.Base.{Base}
use Rattle.salus_types.specs.declared.records.Held.{Held}
use Rattle.merkle_region.specs.Tree.{IsAmong}
use Rattle.holding_model.specs.Fitting.{has_shape}
use Rattle.holding_model.specs.Changing.{is_open_base}
use Rattle.datanode_checkpoint.specs.Folds.{open_bases}
use Rattle.replica_rules.specs.Views.{View, view_of_base, view_after, is_accepted, has_right_shape}
use Rattle.replica_rules.specs.Nodes.{stands_for, base_held, goes_on, Tried, counted, all_tried, open_parts, memory_of, open_base, loaded_as}
use Rattle.list_lemmas.proofs.Each.{OfSome, all_then}
use Rattle.list_lemmas.proofs.Members.{among_filter-in, found_among}
use Rattle.list_lemmas.proofs.Tests.{way_with, and_left, and_right}
use Rattle.open_session.specs.Kept.{KeptSession}
use Rattle.replica_node.specs.Standing.{StandsIn}
use Rattle.replica_node.specs.Serving.{AreSized, WritesSized, FoldsWell, FoldsIn}
use Rattle.replica_node.proofs.Holding.{all_of_filter, shape_sized, right_sized}

single : {A : Type 0} (xs : List A) (x : A) → length xs ≡ 1 → IsAmong x xs → xs ≡ x ∷ []
single [] x one among = absurd among
single (y ∷ []) x one among = ⊎_elim (λ same. ap (λ z. z ∷ []) (sym same)) (λ none. absurd none) among
single (y ∷ z ∷ xs) x one among = absurd (omega arith)

-- no more count than were tried, and if all count, all are of the right shape
record AreTried (shape : Shape) (g : ℕ) (parts : List Record) (t : Tried) : Type 0 where
  pub few : length t.parts ≤ length parts
  pub all : length t.parts ≡ length parts → AllByRecursion (λ rec. has_right_shape shape g rec ≡ true) parts

tried_right : (shape : Shape) (g : ℕ) (view : View) (parts : List Record) → AreTried shape g parts (all_tried shape g view parts)
unfolding all_tried
tried_right shape g view [] = record { few = omega arith; all = λ same. tt }
tried_right shape g view (rec ∷ parts) =
    let rest : AreTried shape g parts (all_tried shape g view parts) = tried_right shape g view parts in
    let more : AreTried shape g parts (all_tried shape g (view_after shape view rec) parts) = tried_right shape g (view_after shape view rec) parts in
    way_with (goes_on shape g view rec) (counted rec (all_tried shape g (view_after shape view rec) parts)) (all_tried shape g view parts) (AreTried shape g (rec ∷ parts))
    (λ on.
    let three : _ ≡ true = and_left _ (is_accepted shape view rec) on in
    let two : _ ≡ true = and_left _ (rec.header.previous == view.number) three in
    let fewer : length (all_tried shape g (view_after shape view rec) parts).parts ≤ length parts = more.few in
    record {
      few = omega arith;
      all = λ same. (and_right _ (has_right_shape shape g rec) two, more.all (let e : length (rec ∷ (all_tried shape g (view_after shape view rec) parts).parts) ≡ length (rec ∷ parts) = same in omega arith));
    })
    (λ off.
    let fewer : length (all_tried shape g view parts).parts ≤ length parts = rest.few in
    record { few = omega arith; all = λ same. absurd (let e : length (all_tried shape g view parts).parts ≡ length (rec ∷ parts) = same in omega arith) })

module _ (shape : Shape) (g : ℕ) (held : Held) where
  base_folds : (base : Base) → IsAmong base held.bases → stands_for shape g held.session base ≡ true → (memory_of shape g held base).whole ≡ true → FoldsWell shape.block held
  base_folds base among stands whole =
      let t : Tried = all_tried shape g (view_of_base base) (open_parts held) in
      let count : Bool = length t.parts == length (open_parts held) in
      let alone : Bool = length (filter (λ b. is_open_base held b) held.bases) == 1 in
      let one : length (open_bases held) ≡ 1 = eqb-true (length (open_bases held)) 1 (and_right count alone whole) in
      let all : length t.parts ≡ length (open_parts held) = eqb-true (length t.parts) (length (open_parts held)) (and_left count alone whole) in
      let ours : is_open_base held base ≡ true = and_left _ (base.rec.header.region == g) (and_left _ (has_shape shape base.blocks) stands) in
      let only : open_bases held ≡ base ∷ [] = single (open_bases held) base one (among_filter-in (λ b. is_open_base held b) held.bases base among ours) in
      let sized : AreSized shape.block base.blocks = shape_sized shape base.blocks (and_right _ (has_shape shape base.blocks) stands) in
      record {
        one = one;
        bases = subst (λ (l : List Base). AllByRecursion (λ b. AreSized shape.block b.blocks) l) (sym only) (sized, tt);
        parts = all_then (λ rec. (rec.header.session == held.session) ≡ true → WritesSized shape.block rec) (λ rec. rec.header.session ≡ held.session → WritesSized shape.block rec)
            (λ rec f same. f (eq-eqb rec.header.session held.session same)) held.parts
            (all_of_filter (λ rec. WritesSized shape.block rec) (λ rec. rec.header.session == held.session) held.parts
            (all_then (λ rec. has_right_shape shape g rec ≡ true) (λ rec. WritesSized shape.block rec) (λ rec right. right_sized shape g rec right) (open_parts held) ((tried_right shape g (view_of_base base) (open_parts held)).all all)));
      }

  stands_folds : (opened : Option KeptSession) (o : Option Base) → OfSome (λ base. IsAmong base held.bases × (stands_for shape g held.session base ≡ true)) o
      → StandsIn opened (option_map (λ base. memory_of shape g held base) o) → FoldsIn shape held opened
  stands_folds None o of stands = λ kept is. absurd (none-some kept is)
  stands_folds (Some kept) None of stands = absurd stands
  stands_folds (Some kept) (Some base) of stands = λ other is whole. base_folds base of.0 of.1 (sym stands.whole ∙ ap (λ (k : KeptSession). k.whole) (same_Some kept other is) ∙ whole)

  found_open : (none : Bool) → OfSome (λ base. IsAmong base held.bases × (stands_for shape g held.session base ≡ true)) (if none then None else base_held shape g held.session held)
  found_open true = tt
  found_open false = found_among (λ base. stands_for shape g held.session base) held.bases

  -- a session that stands for the memory after a load
  pub opened_folds : (opened : Option KeptSession) → StandsIn opened (loaded_as shape g held).memory → FoldsIn shape held opened
  unfolding loaded_as
  opened_folds opened stands = stands_folds opened (open_base shape g held) (found_open (held.session == 0)) stands
