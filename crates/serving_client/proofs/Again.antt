-- Questions that are asked again.
use Rattle.std.proofs.Common.{◌≡◌, ◌∙◌, ℕ, ◌+◌, ◌<◌, List, [], ◌∷◌, ◌++◌, map, length, take, get_or, ◌≤◌, Some, refl, sym, ap, subst, arith, append_assoc, append-nil, take_all}
use Rattle.std.specs.Prelude.{flat_map, slice_get}
use Rattle.std.specs.List.{AllByRecursion}
use Rattle.std.proofs.lemmas.List.{length-map, map-append, take_more}
use Rattle.std.proofs.lemmas.List.Elements.{All-from_recursion}
use Rattle.std.proofs.lemmas.Grind.{flat_map-append}
use Rattle.std.proofs.lemmas.Option.{same_Some, slice_get-get_or}
use Rattle.list_lemmas.proofs.Each.{all_map}
use Rattle.law_lemmas.proofs.Regional.{in_region}
use Rattle.salus_types.specs.Volume.{Shape, blocks, regions}
use Rattle.salus_types.specs.declared.records.Out.{Out}
use Rattle.volume_model.specs.Contents.{region_of}
use Rattle.salus_model.specs.Waiting.{Question}
use Rattle.posting.specs.Letters.{out_of_letter}
use Rattle.client_rules.specs.State.{Letter, Open, Serving}
use Rattle.client_rules.specs.Tables.{asks}
use Rattle.verified_read.specs.Table.{questions_in}
use Rattle.client_asking.specs.Lining.{AreWithin}

is_at : (qs : List Question) (i : ℕ) (q : Question) → i < length qs → slice_get qs i ≡ Some q → get_or qs i q ≡ q
is_at qs i q within is = same_Some (get_or qs i q) q (sym (slice_get-get_or qs i q within) ∙ is)

-- it is for a block of the volume
pub asked_inside : (shape : Shape) (asked : List Open) (i : ℕ) (q : Question) → AreWithin shape asked → i < length (questions_in asked) → slice_get (questions_in asked) i ≡ Some q
    → region_of shape q.block < regions shape
asked_inside shape asked i q inside within is =
    in_region shape q.block
    (subst (λ (x : Question). x.block < blocks shape) (is_at (questions_in asked) i q within is)
    (All-from_recursion (λ (x : Question). x.block < blocks shape) (questions_in asked) (all_map (λ (x : Question). x.block < blocks shape) (λ (o : Open). o.question) asked inside) i q within))

pub again_more : (shape : Shape) (c : Serving) (qs : List Question) (i : ℕ) (q : Question) (first before after : List Out) → i < length qs → slice_get qs i ≡ Some q
    → before ≡ first ++ map out_of_letter (flat_map (λ x. asks shape c x) (take i qs)) → after ≡ before ++ map out_of_letter (asks shape c q)
    → after ≡ first ++ map out_of_letter (flat_map (λ x. asks shape c x) (take (i + 1) qs))
again_more shape c qs i q first before after within is was now =
    let more : take (i + 1) qs ≡ take i qs ++ q ∷ [] = take_more qs i q within ∙ ap (λ x. take i qs ++ x ∷ []) (is_at qs i q within is) in
    now ∙ ap (λ l. l ++ map out_of_letter (asks shape c q)) was
    ∙ append_assoc first (map out_of_letter (flat_map (λ x. asks shape c x) (take i qs))) (map out_of_letter (asks shape c q))
    ∙ ap (λ l. first ++ l)
    (sym
    (ap (λ l. map out_of_letter (flat_map (λ x. asks shape c x) l)) more
    ∙ ap (map out_of_letter) (flat_map-append (λ x. asks shape c x) (take i qs) (q ∷ []) ∙ ap (λ l. flat_map (λ x. asks shape c x) (take i qs) ++ l) (append-nil (asks shape c q)))
    ∙ map-append out_of_letter (flat_map (λ x. asks shape c x) (take i qs)) (asks shape c q)))

-- the questions of the table, in its order
pub asked_all : (shape : Shape) (c : Serving) (asked : List Open) → flat_map (λ x. asks shape c x) (questions_in asked) ≡ flat_map (λ (o : Open). asks shape c o.question) asked
asked_all shape c [] = refl
asked_all shape c (o ∷ asked) = ap (λ l. asks shape c o.question ++ l) (asked_all shape c asked)

pub again_all : (shape : Shape) (c : Serving) (asked : List Open) (i : ℕ) (first after : List Out) → length asked ≤ i → after ≡ first ++ map out_of_letter (flat_map (λ x. asks shape c x) (take i (questions_in asked)))
    → after ≡ first ++ map out_of_letter (flat_map (λ (o : Open). asks shape c o.question) asked)
again_all shape c asked i first after whole was =
    let count = length-map asked (λ (o : Open). o.question) in
    was ∙ ap (λ l. first ++ map out_of_letter l) (ap (flat_map (λ x. asks shape c x)) (take_all i (questions_in asked) (omega (arith, count, whole))) ∙ asked_all shape c asked)
