-- Refusals: what they look at, and that there is room where none applies.
use Rattle.std.proofs.Common.{◌≡◌, ◌∙◌, ℕ, ◌+◌, ◌<◌, ◌≤◌, nat_le, Bool, true, false, if◌then◌else◌, List, [], ◌∷◌, map, length, Option, None, Some, refl, sym, ap, subst, arith, leb-false}
use Rattle.std.specs.Prelude.{find, IfNone}
use Rattle.std.specs.List.{AllByRecursion}
use Rattle.std.specs.Option.{option_or, option_map}
use Rattle.std.proofs.lemmas.Bool.{true≢false}
use Rattle.std.proofs.lemmas.List.Elements.{All-from_recursion}
use Rattle.list_lemmas.proofs.Tests.{by_bool}
use Rattle.salus_types.specs.Volume.{Shape, blocks, regions}
use Rattle.salus_types.specs.declared.records.Write.{Write}
use Rattle.printed_lines.specs.declared.line.RequestRefusal.{RequestRefusal}
use Rattle.printed_lines.specs.declared.line.RequestRefusal.TheVariants as refusal
use Rattle.salus_model.specs.declared.trace.Request.{Request}
use Rattle.salus_model.specs.declared.trace.Request.TheVariants as request
use Rattle.salus_model.specs.Waiting.{full_refusal, range_refusal}
use Rattle.volume_model.specs.Contents.{Batch}
use Rattle.client_rules.specs.State.{Serving}
use Rattle.client_rules.specs.Serving.{refusal_here}
use Rattle.client_window.specs.Window.{IsWriteOf}
use Rattle.serving_client.specs.declared.inside.Core.{Core}
use Rattle.serving_client.specs.Kept.{IsSized, IsWithin}
use Rattle.serving_client.specs.Keeping.{HasPlace}

-- a client that has what refusals look at
abbrev pub looked_at : Core → Serving
looked_at k = record {
  session = 0;
  base = 0;
  last = k.pipeline.window.last;
  acked = k.pipeline.window.acked;
  numbers = [];
  contents = [];
  leader = 0;
  unacked = [];
  claims = [];
  barriers = k.pipeline.window.barriers;
  line = k.line;
  reads = k.reads.asked;
  asked = [];
  known = [];
}

none_of_some : {A : Type 0} (x : A) (P : Type 0) → Some x ≡ None → P
none_of_some x P is = cc

neither : {A : Type 0} (a b : Option A) → option_or a b ≡ None → (a ≡ None) × (b ≡ None)
neither None b is = (refl, is)
neither (Some x) b is = none_of_some x _ is

not_full : (limit count : ℕ) → full_refusal limit count ≡ None → count < limit
not_full limit count is = by_bool (nat_le limit count) (count < limit)
    (λ full. none_of_some (refusal.Full limit) _ (sym (ap (λ t. if t then Some (refusal.Full limit) else None) full) ∙ is))
    (λ free. leb-false limit count free)

none_outside : (bound : ℕ) (ns : List ℕ) → range_refusal bound ns ≡ None → AllByRecursion (λ n. n < bound) ns
none_outside bound [] is = tt
none_outside bound (n ∷ ns) is = by_bool (nat_le bound n) (AllByRecursion (λ m. m < bound) (n ∷ ns))
    (λ outside. none_of_some (refusal.Range n) _ (sym (ap (λ t. option_map (λ m. refusal.Range m) (if t then Some n else find (λ m. nat_le bound m) ns)) outside) ∙ is))
    (λ inside. (leb-false bound n inside, none_outside bound ns (sym (ap (λ t. option_map (λ m. refusal.Range m) (if t then Some n else find (λ m. nat_le bound m) ns)) inside) ∙ is)))

both_hold : (shape : Shape) (batch : Batch) → AllByRecursion (λ n. n < blocks shape) (map (λ (w : Write). w.block) batch) → AllByRecursion (λ (w : Write). length w.bytes ≡ shape.block) batch
    → AllByRecursion (IsWriteOf shape) batch
both_hold shape [] within long = tt
both_hold shape (w ∷ batch) within long = (record { within = within.0; long = long.0 }, both_hold shape batch within.1 long.1)

not_that : (P : Type 0) → false ≡ true → P
not_that P is = cc

-- where no cause applies
pub none_refuses : (k : Core) (r : Request) → IsSized k.pipeline.window.shape r → refusal_here k.pipeline.window.shape (looked_at k) r ≡ None → HasPlace k r
none_refuses k (request.Write batch) sized none =
    let free = neither _ _ none in
    record {
      accepted = (sized.0, All-from_recursion (IsWriteOf k.pipeline.window.shape) batch (both_hold k.pipeline.window.shape batch (none_outside (blocks k.pipeline.window.shape) (map (λ (w : Write). w.block) batch) free.0) sized.1));
      reads = λ is. not_that _ is;
      barriers = λ is. not_that _ is;
      batches = λ is. not_full 16 _ free.1;
    }
none_refuses k (request.Read b) sized none =
    let free = neither _ _ none in
    record {
      accepted = (none_outside (blocks k.pipeline.window.shape) (b ∷ []) free.0).0;
      reads = λ is. not_full 64 _ free.1;
      barriers = λ is. not_that _ is;
      batches = λ is. not_that _ is;
    }
none_refuses k request.Barrier sized none = record { accepted = tt; reads = λ is. not_that _ is; barriers = λ is. not_full 64 _ none; batches = λ is. not_that _ is }
none_refuses k (request.Restart e) sized none = none_of_some refusal.Open _ none
none_refuses k (request.Reassign e g) sized none = absurd sized

pub none_fits : (k : Core) (r : Request) (o : Option RequestRefusal) → o ≡ refusal_here k.pipeline.window.shape (looked_at k) r → IfNone o (IsSized k.pipeline.window.shape r → HasPlace k r)
none_fits k r None is = λ sized. none_refuses k r sized (sym is)
none_fits k r (Some cause) is = tt

-- and a reassignment is of a region of the volume
none_within : (k : Core) (r : Request) → refusal_here k.pipeline.window.shape (looked_at k) r ≡ None → IsWithin k.pipeline.window.shape r
none_within k (request.Write batch) none = tt
none_within k (request.Read b) none = tt
none_within k request.Barrier none = tt
none_within k (request.Restart e) none = tt
none_within k (request.Reassign e g) none = (none_outside (regions k.pipeline.window.shape) (g ∷ []) (neither _ _ none).0).0

pub none_is_within : (k : Core) (r : Request) (o : Option RequestRefusal) → o ≡ refusal_here k.pipeline.window.shape (looked_at k) r → IfNone o (IsWithin k.pipeline.window.shape r)
none_is_within k r None is = none_within k r (sym is)
none_is_within k r (Some cause) is = tt
