-- What the program makes of a part is what the rules make of it.
use Rattle.std.proofs.Common.{◌≡◌, ◌⊎◌, ◌∙◌, ℕ, ◌<◌, ◌≤◌, ◌==◌, ◌&&◌, Bool, true, false, List, [], ◌∷◌, ◌++◌, Result, Ok, Err, ⊎_elim, sym, ap, subst, arith}
use Rattle.std.specs.Prelude.{IfOk, OnErr}
use Rattle.std.specs.List.{AllByRecursion}
use Rattle.salus_types.specs.Volume.{Shape}
use Rattle.salus_types.specs.declared.memory.NoMemory.{NoMemory}
use Rattle.salus_types.specs.declared.records.Record.{Record}
use Rattle.holding_model.specs.Fitting.{record_fits}
use Rattle.replica_rules.specs.Views.{View, has_right_shape}
use Rattle.replica_rules.specs.Replicas.{Replica, PartTaken, tried, kept_early, with_view}
use Rattle.region_view.specs.Kept.{KeptView}
use Rattle.region_replica.specs.Serving.{Serving, IsFor, KeepsItsOwn, now_as}
use Rattle.region_replica.specs.Answering.{told_as, IsNext, IsAhead, IsTaken}
use Rattle.region_replica.specs.declared.answer.PartAnswer.{PartAnswer}
use Rattle.region_replica.specs.declared.answer.PartAnswer.TheVariants.{Foreign, Known}
use Rattle.region_replica.proofs.PartTelling.{own-shape, shape-fits, taken-foreign, taken-known, taken-next, taken-ahead, IsTaken-by_rules}
use Rattle.list_lemmas.proofs.Each.{all_both}

module _ (kept now : Serving) (same : kept ≡ now) (rec : Record) (here : Bool)
    (is : here ≡ ((rec.header.session == kept.replica.session) && (rec.header.region == kept.region) && has_right_shape kept.shape kept.region rec)) where
  abbrev r : Replica
  r = kept.replica

  pub part-foreign : here ≡ false → IsTaken now rec now Foreign
  part-foreign off =
      let taken = taken-foreign kept rec (sym is ∙ off) in
      subst (λ (s : Serving). IsTaken s rec s Foreign) same
      (IsTaken-by_rules kept kept rec Foreign (sym (ap (λ (t : PartTaken). told_as t.answer rec) taken)) (sym (ap (λ (t : PartTaken). now_as kept t.replica) taken)))

  module _ (on : here ≡ true) where
    pub part-own : IsFor kept rec
    part-own = sym is ∙ on

    pub part-fits : (seen : Shape) → seen ≡ kept.shape → record_fits seen rec ≡ true
    part-fits seen at = subst (λ shape. record_fits shape rec ≡ true) (sym at) (shape-fits kept.shape kept.region rec (own-shape kept rec part-own))

    module _ (number : ℕ) (at : number ≡ r.view.number) where
      pub part-known : rec.header.seq ≤ number → IsTaken now rec now Known
      part-known low =
          let taken = taken-known kept rec part-own (omega arith) in
          subst (λ (s : Serving). IsTaken s rec s Known) same
          (IsTaken-by_rules kept kept rec Known (sym (ap (λ (t : PartTaken). told_as t.answer rec) taken)) (sym (ap (λ (t : PartTaken). now_as kept t.replica) taken)))

      module _ (above : number < rec.header.seq) where
        new_above : r.view.number < rec.header.seq
        new_above = omega arith

        module _ (next : rec.header.previous ≡ number) (seen : Shape) (view : View) (shown : seen ≡ kept.shape) where
          is_next : IsNext kept rec
          is_next = record { own = part-own; above = new_above; next = next ∙ at }

          pub part-next : (result : Result PartAnswer NoMemory) → IfOk result (λ answer. answer ≡ told_as (tried seen r rec).answer rec) → IfOk result (λ _. (tried seen r rec).replica ≡ with_view r view)
              → IfOk result (IsTaken now rec (now_as kept (with_view r view)))
          part-next (Err e) answer state = tt
          part-next (Ok given) answer state =
              let taken = taken-next kept rec is_next in
              let told : given ≡ told_as (tried kept.shape r rec).answer rec = answer ∙ ap (λ shape. told_as (tried shape r rec).answer rec) shown in
              let left : with_view r view ≡ (tried kept.shape r rec).replica = sym state ∙ ap (λ shape. (tried shape r rec).replica) shown in
              subst (λ (s : Serving). IsTaken s rec (now_as kept (with_view r view)) given) same
              (IsTaken-by_rules kept (now_as kept (with_view r view)) rec given (told ∙ sym (ap (λ (t : PartTaken). told_as t.answer rec) taken))
              (ap (λ x. now_as kept x) left ∙ sym (ap (λ (t : PartTaken). now_as kept t.replica) taken)))

        module _ (later : rec.header.previous ≡ number → ⊥) (early : List Record) where
          is_ahead : IsAhead kept rec
          is_ahead = record { own = part-own; above = new_above; later = λ e. later (e ∙ sym at) }

          pub part-ahead : (result : Result PartAnswer NoMemory) → IfOk result (λ answer. answer ≡ told_as (kept_early r rec).answer rec) → IfOk result (λ _. (kept_early r rec).replica ≡ record r { early = early })
              → IfOk result (IsTaken now rec (now_as kept (record r { early = early })))
          part-ahead (Err e) answer state = tt
          part-ahead (Ok given) answer state =
              let taken = taken-ahead kept rec is_ahead in
              subst (λ (s : Serving). IsTaken s rec (now_as kept (record r { early = early })) given) same
              (IsTaken-by_rules kept (now_as kept (record r { early = early })) rec given (answer ∙ sym (ap (λ (t : PartTaken). told_as t.answer rec) taken))
              (ap (λ x. now_as kept x) (sym state) ∙ sym (ap (λ (t : PartTaken). now_as kept t.replica) taken)))

    -- what is kept is its own
    pub early-own : KeepsItsOwn kept → (early : List Record) → (early ≡ r.early) ⊎ (early ≡ r.early ++ rec ∷ []) → KeepsItsOwn (now_as kept (record r { early = early }))
    early-own own early way =
        ⊎_elim (λ (e : early ≡ r.early). subst (λ l. AllByRecursion (IsFor kept) l) (sym e) own)
        (λ (e : early ≡ r.early ++ rec ∷ []). subst (λ l. AllByRecursion (IsFor kept) l) (sym e) (all_both (IsFor kept) r.early (rec ∷ []) own (part-own, tt))) way

-- where nothing is changed but the view or what is kept, and that isn't, nothing is
pub view-unchanged : (kept now : Serving) → kept ≡ now → (seen old : KeptView) → old.view ≡ kept.replica.view → (result : Result PartAnswer NoMemory) → OnErr result (seen ≡ old)
    → OnErr result (now_as kept (with_view kept.replica seen.view) ≡ now)
view-unchanged kept now same seen old at (Ok given) unchanged = tt
view-unchanged kept now same seen old at (Err e) unchanged = ap (λ v. now_as kept (with_view kept.replica v)) (ap (λ (k : KeptView). k.view) unchanged ∙ at) ∙ same

pub early-unchanged : (kept now : Serving) → kept ≡ now → (early : List Record) → (result : Result PartAnswer NoMemory) → OnErr result (early ≡ kept.replica.early)
    → OnErr result (now_as kept (record kept.replica { early = early }) ≡ now)
early-unchanged kept now same early (Ok given) unchanged = tt
early-unchanged kept now same early (Err e) unchanged = ap (λ l. now_as kept (record kept.replica { early = l })) unchanged ∙ same
