-- The walk over the parts of a number, from the last place to the first.
use Rattle.std.proofs.Common.{◌≡◌, ◌≢◌, ℕ, zero, suc, ◌<◌, ◌≤◌, ◌∙◌, List, [], ◌∷◌, length, map, slice_index, Option, None, Some, inl, inr, refl, ap, subst, sym, arith}
use Rattle.std.specs.Prelude.{IfSome, slice_get, option_copied}
use Rattle.std.specs.Borrow.{Bor}
use Rattle.std.proofs.lemmas.List.{length-map}
use Rattle.std.proofs.lemmas.Bool.{cases_order}
use Rattle.std.proofs.lemmas.Option.{slice_get_within, none-some, same_Some}
use Rattle.salus_types.specs.declared.records.Record.{Record}
use Rattle.merkle_region.specs.Tree.{IsAmong}
use Rattle.restart_pool.specs.declared.chain.Way.{Way}
use Rattle.restart_pool.specs.Latest.{IsLatest}
use Rattle.restart_pool.specs.Following.{Chains, AreLengthened, AddsOne, AddsLonger, IsTried, IsCovered, later_of}
use Rattle.restart_pool.proofs.Ends.{none-follows}
use Rattle.restart_pool.proofs.Lengthening.{lengthened-none, lengthened-more, covered-more}
use Rattle.list_lemmas.proofs.Lists.{get_among}

-- all places from here on were passed
abbrev pub below : Option ℕ → ℕ
below None = 0
below (Some i) = suc i

-- the number of the part at this place
abbrev pub IsHere : List Record → ℕ → ℕ → Type 0
IsHere parts at i = (i < length parts) × ((rec : Record) → slice_get parts i ≡ Some rec → rec.header.seq ≡ at)

pub record IsWalked (c : Chains) (way : Way) (old now : List Way) (next : Option ℕ) (tried : Option Record) : Type 0 where
  pub lengthened : AreLengthened c way old now
  pub covered : (j : ℕ) (rec : Record) → below next ≤ j → slice_get c.parts j ≡ Some rec → rec.header.seq ≡ way.at → IsCovered c way now rec
  pub tried_so_far : IsTried c way now tried
  pub here : IfSome next (IsHere c.parts way.at)

-- ---- places and parts

pub number-at : (parts : List Record) (j : ℕ) (rec : Record) → slice_get parts j ≡ Some rec → slice_index (map (λ (r : Record). r.header.seq) parts) j ≡ rec.header.seq
number-at [] j rec e = absurd (none-some rec e)
number-at (r ∷ parts) zero rec e = ap (λ (w : Record). w.header.seq) (same_Some r rec e)
number-at (r ∷ parts) (suc j) rec e = number-at parts j rec e

pub among-get : (parts : List Record) (rec : Record) → IsAmong rec parts → (j : ℕ) × (slice_get parts j ≡ Some rec)
among-get [] rec m = absurd m
among-get (r ∷ parts) rec (inl e) = (zero, ap Some (sym e))
among-get (r ∷ parts) rec (inr m) = let rest = among-get parts rec m in (suc rest.0, rest.1)

pub among-got : {A : Type 0} (xs : List A) (i : ℕ) (found : Option (Bor A)) → option_copied found ≡ slice_get xs i → IfSome found (λ x. IsAmong x.now xs)
among-got xs i None e = tt
among-got xs i (Some x) e = get_among xs i x.now (sym e)

module _ (c : Chains) (way : Way) where
  abbrev numbers : List ℕ
  numbers = map (λ (r : Record). r.header.seq) c.parts

  -- no place from this one up to n has the number
  pub none-between : (n k : ℕ) (next : Option ℕ) → IsLatest numbers n k next → (j : ℕ) → below next ≤ j → j < n → slice_index numbers j ≢ k
  none-between n k None latest j le lt = latest j lt
  none-between n k (Some i) latest j le lt = latest.2 j le lt

  here_at : (n k : ℕ) (next : Option ℕ) → n ≤ length c.parts → k ≡ way.at → IsLatest numbers n k next → IfSome next (IsHere c.parts way.at)
  here_at n k None few is latest = tt
  here_at n k (Some i) few is latest =
      (omega (arith, few, latest.0), λ rec e. sym (number-at c.parts i rec e) ∙ (latest.1 ∙ is))

  pub walk-start : (old : List Way) (next : Option ℕ) → IsLatest numbers (length c.parts) way.at next → IsWalked c way old old next None
  walk-start old next latest = record {
    lengthened = lengthened-none c way old;
    covered = λ j rec le e here. absurd (none-between (length c.parts) way.at next latest j le (slice_get_within c.parts j rec e) (number-at c.parts j rec e ∙ here));
    tried_so_far = tt;
    here = here_at (length c.parts) way.at next (omega arith) refl latest;
  }

  module _ (old now new : List Way) (place : ℕ) (tried after : Option Record) (next : Option ℕ) (rec : Record)
      (walked : IsWalked c way old now (Some place) tried) (get : slice_get c.parts place ≡ Some rec) (adds : AddsOne c way rec now new after)
      (latest : IsLatest numbers place (slice_index numbers place) next) where
    number_here : slice_index numbers place ≡ way.at
    number_here = number-at c.parts place rec get ∙ walked.here.1 rec get

    covered_next : (j : ℕ) (r : Record) → below next ≤ j → slice_get c.parts j ≡ Some r → r.header.seq ≡ way.at → IsCovered c way new r
    covered_next j r le e here = elim (cases_order j place) [
      | inl same ↦ subst (IsCovered c way new) (same_Some rec r (sym get ∙ (ap (slice_get c.parts) (sym same) ∙ e))) adds.covers
      | inr (inl less) ↦ absurd (none-between place (slice_index numbers place) next latest j le less (number-at c.parts j r e ∙ (here ∙ sym number_here)))
      | inr (inr more) ↦ covered-more c way r now new adds.lengthened (walked.covered j r more e here)
    ]

    pub walk-on : IsWalked c way old new next after
    walk-on = record {
      lengthened = lengthened-more c way old now new walked.lengthened adds.lengthened;
      covered = covered_next;
      tried_so_far = adds.tried_so_far;
      here = here_at place (slice_index numbers place) next (omega (arith, walked.here.0)) number_here latest;
    }

  pub walk-begin : (index : List ℕ) (old : List Way) (next : Option ℕ) → index ≡ numbers → IsLatest index (length index) way.at next → IsWalked c way old old next None
  walk-begin index old next is latest =
      walk-start old next
      (subst (λ n. IsLatest numbers n way.at next) (length-map c.parts (λ (r : Record). r.header.seq)) (subst (λ ns. IsLatest ns (length ns) way.at next) is latest))

  got : (parts : List Record) (i : ℕ) → i < length parts → (rec : Record) × (slice_get parts i ≡ Some rec)
  got [] i lt = absurd (omega arith)
  got (r ∷ parts) zero lt = (r, refl)
  got (r ∷ parts) (suc i) lt = got parts i (omega arith)

  walk_next : (index : List ℕ) (old now new : List Way) (place : ℕ) (tried after : Option Record) (next : Option ℕ) → index ≡ numbers
      → IsWalked c way old now (Some place) tried → ((rec : Record) → slice_get c.parts place ≡ Some rec → AddsOne c way rec now new after)
      → IsLatest index place (slice_index index place) next → IsWalked c way old new next after
  walk_next index old now new place tried after next is walked adds latest =
      let here = got c.parts place walked.here.0 in
      walk-on old now new place tried after next here.0 walked here.1 (adds here.0 here.1) (subst (λ ns. IsLatest ns place (slice_index ns place) next) is latest)

  pub walk-next : (index : List ℕ) (old now new : List Way) (before : Option ℕ) (place : ℕ) (tried after : Option Record) (next : Option ℕ) → index ≡ numbers
      → IsWalked c way old now before tried → before ≡ Some place → ((rec : Record) → slice_get c.parts place ≡ Some rec → AddsOne c way rec now new after)
      → IsLatest index place (slice_index index place) next → IsWalked c way old new next after
  walk-next index old now new before place tried after next is walked at adds latest =
      walk_next index old now new place tried after next is (subst (λ b. IsWalked c way old now b tried) at walked) adds latest

  pub walk-end : (old new : List Way) (tried : Option Record) → IsWalked c way old new None tried → AddsLonger c way old new
  walk-end old new tried walked = record {
    lengthened = walked.lengthened;
    covers = λ none starts. none-follows c way.at (later_of c way) starts
        (λ rec m is here. let found = among-get c.parts rec m in walked.covered found.0 rec (omega arith) found.1 here is none);
  }

  pub walk-done : (old new : List Way) (tried : Option Record) (next : Option ℕ) → next ≡ None → IsWalked c way old new next tried → AddsLonger c way old new
  walk-done old new tried next none walked = walk-end old new tried (subst (λ b. IsWalked c way old new b tried) none walked)

latest_below : (numbers : List ℕ) (place k : ℕ) (next : Option ℕ) → IsLatest numbers place k next → below next < suc place
latest_below numbers place k None latest = omega arith
latest_below numbers place k (Some i) latest = omega (arith, latest.0)

-- the place falls from one step to the next
pub walk-falls : (numbers : List ℕ) (place k : ℕ) (next before : Option ℕ) → IsLatest numbers place k next → before ≡ Some place → below next < below before
walk-falls numbers place k next before latest is = subst (λ b. below next < below b) (sym is) (latest_below numbers place k next latest)
