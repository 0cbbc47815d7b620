-- Parts that are sealed, and that are sent, one batch after another.
use Rattle.std.proofs.Common.{◌≡◌, ◌∙◌, ℕ, zero, suc, ◌+◌, ◌≤◌, List, [], ◌∷◌, ◌++◌, map, take, drop, length, Some, refl, sym, ap, subst, arith, append_assoc}
use Rattle.std.specs.Prelude.{All, flat_map, slice_get}
use Rattle.std.proofs.lemmas.List.{map-append}
use Rattle.std.proofs.lemmas.Grind.{flat_map-append}
use Rattle.salus_types.specs.declared.records.Out.{Out}
use Rattle.std.proofs.lemmas.List.Elements.{All-append, All-drop, All-map, All-same, All-tail, All-take, All-weaker}
use Rattle.std.proofs.lemmas.List.FromFn.{length-map-range_with_len}
use Rattle.salus_types.specs.Volume.{Shape, regions}
use Rattle.salus_types.specs.declared.names.Sender.TheVariants as sender
use Rattle.salus_types.specs.declared.records.Record.{Record}
use Rattle.salus_message.specs.declared.wire.Message.TheVariants as message
use Rattle.salus_message.specs.Spelling.{message_bytes}
use Rattle.client_tag.specs.Ranges.{IsRecord}
use Rattle.client_tag.specs.Tags.{sealed}
use Rattle.volume_model.specs.Contents.{region_root, roots_of}
use Rattle.volume_model.specs.Groups.{group_of}
use Rattle.client_rules.specs.State.{Serving, Unacked}
use Rattle.client_rules.specs.Submitting.{part_letters}
use Rattle.posting.specs.Posting.{bytes_to}
use Rattle.posting.specs.Letters.{out_of_letter}
use Rattle.client_pipeline.specs.Pipeline.{KeptPipeline, all_parts, letters_of}
use Rattle.client_pipeline.specs.Standing.{StandsFor}

map_map : {X Y Z : Type 0} (f : Y → Z) (g : X → Y) (xs : List X) → map f (map g xs) ≡ map (λ x. f (g x)) xs
map_map f g [] = refl
map_map f g (x ∷ xs) = ap (λ l. f (g x) ∷ l) (map_map f g xs)

-- a part's letters, from its bytes
pub letters_are : (bytes : List ℕ) (shape : Shape) (part : Record) → bytes ≡ message_bytes (message.Part (record { rec = part }))
    → map (λ name. bytes_to bytes (sender.Node name)) (group_of shape part.header.region) ≡ map out_of_letter (letters_of shape part)
letters_are bytes shape part are =
    ap (λ b. map (λ name. bytes_to b (sender.Node name)) (group_of shape part.header.region)) are
    ∙ sym (map_map out_of_letter (λ name. record { to = name; message = message.Part (record { rec = part }) }) (group_of shape part.header.region))

-- ---- seals

sealed_record : (key : List ℕ) (rec : Record) → IsRecord rec → IsRecord (sealed key rec)
sealed_record key rec is = record { its_header = is.its_header; few_writes = is.few_writes; small_writes = is.small_writes; no_run = is.no_run }

pub sealed_records : (key : List ℕ) (parts now : List Record) (i : ℕ) → now ≡ map (sealed key) (take i parts) ++ drop i parts → All IsRecord parts → All IsRecord now
sealed_records key parts now i are records =
    All-same IsRecord now (map (sealed key) (take i parts) ++ drop i parts) are
    (All-append IsRecord (map (sealed key) (take i parts)) (drop i parts)
    (All-map IsRecord (sealed key) (take i parts) (All-weaker IsRecord (λ rec. IsRecord (sealed key rec)) (sealed_record key) (take i parts) (All-take IsRecord i parts records)))
    (All-drop IsRecord i parts records))

pub sealed_all : (key : List ℕ) (parts now : List Record) → now ≡ map (sealed key) parts → All IsRecord parts → All IsRecord now
sealed_all key parts now are records =
    All-same IsRecord now (map (sealed key) parts) are
    (All-map IsRecord (sealed key) parts (All-weaker IsRecord (λ rec. IsRecord (sealed key rec)) (sealed_record key) parts records))

-- ---- batches

behind : {X : Type 0} (P : X → Type 0) (xs ys : List X) → All P (xs ++ ys) → All P ys
behind P [] ys all = all
behind P (x ∷ xs) ys all = behind P xs ys (All-tail P x (xs ++ ys) all)

pub all_behind : {X : Type 0} (P : X → Type 0) (xs ys zs : List X) → xs ++ ys ≡ zs → All P zs → All P ys
all_behind P xs ys zs are each = behind P xs ys (subst (All P) (sym are) each)

pub parts_of : (us : List Unacked) → all_parts (map (λ (u : Unacked). u.parts) us) ≡ flat_map (λ (u : Unacked). u.parts) us
parts_of [] = refl
parts_of (u ∷ us) = ap (λ l. u.parts ++ l) (parts_of us)

-- ---- roots

take_suc : {X : Type 0} (ws : List X) (k : ℕ) (x : X) → slice_get ws k ≡ Some x → take (suc k) ws ≡ take k ws ++ x ∷ []
take_suc [] zero x is = absurd (cc)
take_suc [] (suc k) x is = absurd (cc)
take_suc (w ∷ ws) zero x is = ap (λ y. y ∷ []) (let same : w ≡ x = cc in same)
take_suc (w ∷ ws) (suc k) x is = ap (λ l. w ∷ l) (take_suc ws k x is)

pub take_more : {X : Type 0} (ws : List X) (k : ℕ) (x : X) → slice_get ws k ≡ Some x → take (k + 1) ws ≡ take k ws ++ x ∷ []
take_more ws k x is = ap (λ n. take n ws) (let same : k + 1 ≡ suc k = omega arith in same) ∙ take_suc ws k x is

take_long : {X : Type 0} (ws : List X) (n : ℕ) → length ws ≤ n → take n ws ≡ ws
take_long [] zero few = refl
take_long [] (suc n) few = refl
take_long (w ∷ ws) zero few = absurd (omega arith)
take_long (w ∷ ws) (suc n) few = ap (λ l. w ∷ l) (take_long ws n (omega arith))

pub all_roots : (shape : Shape) (contents roots made : List (List ℕ)) (n : ℕ) → regions shape ≤ n → made ≡ take n roots → roots ≡ roots_of shape contents → made ≡ roots_of shape contents
all_roots shape contents roots made n far are same =
    are ∙ ap (take n) same
    ∙ take_long (roots_of shape contents) n (let long : length (roots_of shape contents) ≡ regions shape = length-map-range_with_len (λ g. region_root shape contents g) 0 (regions shape) in omega arith)

-- ---- all batches in two slices

module _ (before now : KeptPipeline) (same : before ≡ now) (s : Serving) (stands : StandsFor now s) (shape : Shape) (is_shape : shape ≡ before.window.shape) (older newer : List (List Record)) (are : older ++ newer ≡ before.parts) where
  here : StandsFor before s
  here = subst (λ k. StandsFor k s) (sym same) stands

  pub sent_twice : (outs first second : List Out) → first ≡ outs ++ map out_of_letter (part_letters shape (all_parts older)) → second ≡ first ++ map out_of_letter (part_letters shape (all_parts newer))
      → second ≡ outs ++ map out_of_letter (part_letters now.window.shape (flat_map (λ (u : Unacked). u.parts) s.unacked))
  sent_twice outs first second one two =
      let joined : all_parts older ++ all_parts newer ≡ flat_map (λ (u : Unacked). u.parts) s.unacked =
      sym (flat_map-append (λ batch. batch) older newer) ∙ ap all_parts are ∙ ap all_parts here.parts ∙ parts_of s.unacked in
      let letters : map out_of_letter (part_letters shape (all_parts older)) ++ map out_of_letter (part_letters shape (all_parts newer))
      ≡ map out_of_letter (part_letters shape (flat_map (λ (u : Unacked). u.parts) s.unacked)) =
      sym (map-append out_of_letter (part_letters shape (all_parts older)) (part_letters shape (all_parts newer)))
      ∙ ap (λ l. map out_of_letter l) (sym (flat_map-append (λ rec. letters_of shape rec) (all_parts older) (all_parts newer)))
      ∙ ap (λ l. map out_of_letter (part_letters shape l)) joined in
      two ∙ ap (λ l. l ++ map out_of_letter (part_letters shape (all_parts newer))) one
      ∙ append_assoc outs (map out_of_letter (part_letters shape (all_parts older))) (map out_of_letter (part_letters shape (all_parts newer)))
      ∙ ap (λ l. outs ++ l) letters
      ∙ ap (λ sh. outs ++ map out_of_letter (part_letters sh (flat_map (λ (u : Unacked). u.parts) s.unacked))) (is_shape ∙ ap (λ (k : KeptPipeline). k.window.shape) same)
