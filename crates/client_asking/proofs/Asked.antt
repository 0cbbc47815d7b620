-- A question that goes to every replica of its group.
use Rattle.std.proofs.Common.{◌≡◌, ◌∙◌, ℕ, List, [], ◌∷◌, ◌++◌, map, refl, sym, ap, subst}
use Rattle.salus_types.specs.Volume.{Shape}
use Rattle.salus_types.specs.declared.records.Out.{Out}
use Rattle.salus_types.specs.declared.names.Sender.TheVariants as sender
use Rattle.salus_message.specs.declared.wire.Message.{Message}
use Rattle.volume_model.specs.Contents.{region_of}
use Rattle.volume_model.specs.Groups.{group_of}
use Rattle.salus_model.specs.Waiting.{Question}
use Rattle.client_rules.specs.State.{Serving}
use Rattle.client_rules.specs.Tables.{ask_of, asks}
use Rattle.posting.specs.Posting.{out_to}
use Rattle.posting.specs.Letters.{out_of_letter}

pub map_map : {X Y Z : Type 0} (f : Y → Z) (g : X → Y) (xs : List X) → map f (map g xs) ≡ map (λ x. f (g x)) xs
map_map f g [] = refl
map_map f g (x ∷ xs) = ap (λ l. f (g x) ∷ l) (map_map f g xs)

pub asked_group : (shape : Shape) (c : Serving) (q : Question) (g : ℕ) (m : Message) (before after : List Out) → g ≡ region_of shape q.block → m ≡ ask_of shape c q
    → after ≡ before ++ map (λ name. out_to (sender.Node name) m) (group_of shape g) → after ≡ before ++ map out_of_letter (asks shape c q)
asked_group shape c q g m before after there is posted =
    posted ∙ ap (λ m'. before ++ map (λ name. out_to (sender.Node name) m') (group_of shape g)) is
    ∙ ap (λ r. before ++ map (λ name. out_to (sender.Node name) (ask_of shape c q)) (group_of shape r)) there
    ∙ ap (λ l. before ++ l) (sym (map_map out_of_letter (λ name. record { to = name; message = ask_of shape c q }) (group_of shape (region_of shape q.block))))
