-- What is read from the left is the command of the words, and there is no other.
use Rattle.std.proofs.Common.{◌≡◌, ◌∙◌, ℕ, true, leb, List, [], ◌∷◌, refl, ap, ap₂, subst, inl, inr}
use Rattle.std.specs.Prelude.{Option, None, Some, codes}
use Rattle.std.specs.Str.{bytes_eq}
use Rattle.std.proofs.lemmas.Bool.{and_parts, and_from, leb-true, le-leb}
use Rattle.std.proofs.lemmas.Slice.Eq.{bytes_eq-Decides}
use Rattle.text_words.specs.Reading.{number_of}
use Rattle.text_words.proofs.Settled.{Settles, chosen, pick_true}
use Rattle.text_words.proofs.Numerals.{number-settles}
use Rattle.salus_commands.specs.declared.words.Command.{Command}
use Rattle.salus_commands.specs.declared.words.Command.TheVariants as command
use Rattle.salus_commands.specs.Words.{IsSeeded, IsCommand}
use Rattle.salus_commands.specs.Spelling.{are_rounds, seeded, numbered, lone, command_of}

pub same_command : (a b : Command) → ◌≡◌ {A = Option Command} (Some a) (Some b) → a ≡ b
same_command a b h = cc

pub none_some : (c : Command) → ◌≡◌ {A = Option Command} None (Some c) → ⊥
none_some c h = absurd (cc)

-- ---- what is read is so

seeded_words : (name first second : List ℕ) (word : List ℕ) (seed rounds : ℕ) → name ≡ word → number_of first ≡ Some seed → number_of second ≡ Some rounds → are_rounds rounds ≡ true
    → IsSeeded (name ∷ first ∷ second ∷ []) word seed rounds
seeded_words name first second word seed rounds named is_seed is_rounds few =
    let parts = and_parts (leb 1 rounds) _ few in
    record {
      first = first;
      second = second;
      are = ap (λ (n : List ℕ). n ∷ first ∷ second ∷ []) named;
      is_seed = (number-settles first).sound seed is_seed;
      is_rounds = record {
        number = (number-settles second).sound rounds is_rounds;
        some = leb-true 1 rounds parts.0;
        few = leb-true rounds 10000 parts.1;
      };
    }

seeded-sound : (name first second : List ℕ) (seed rounds : ℕ) (c : Command) → number_of first ≡ Some seed → number_of second ≡ Some rounds → are_rounds rounds ≡ true
    → seeded name seed rounds ≡ Some c → IsCommand (name ∷ first ∷ second ∷ []) c
seeded-sound name first second seed rounds c is_seed is_rounds few h = elim (chosen (bytes_eq name (codes "generate")) _ _ _ h) [
  | inl w ↦
      subst (IsCommand (name ∷ first ∷ second ∷ [])) (same_command _ c w.1)
      (seeded_words name first second (codes "generate") seed rounds ((bytes_eq-Decides name (codes "generate")).0 w.0) is_seed is_rounds few)
  | inr v ↦
      elim (chosen (bytes_eq name (codes "trial")) _ _ _ v.1) [
        | inl w ↦
            subst (IsCommand (name ∷ first ∷ second ∷ [])) (same_command _ c w.1)
            (seeded_words name first second (codes "trial") seed rounds ((bytes_eq-Decides name (codes "trial")).0 w.0) is_seed is_rounds few)
        | inr w ↦ absurd (none_some c w.1)
      ]
]

numbered-sound : (name first second : List ℕ) (seed rounds : Option ℕ) (c : Command) → number_of first ≡ seed → number_of second ≡ rounds
    → numbered name seed rounds ≡ Some c → IsCommand (name ∷ first ∷ second ∷ []) c
numbered-sound name first second None rounds c is_seed is_rounds h = absurd (none_some c h)
numbered-sound name first second (Some seed) None c is_seed is_rounds h = absurd (none_some c h)
numbered-sound name first second (Some seed) (Some rounds) c is_seed is_rounds h = elim (chosen (are_rounds rounds) _ _ _ h) [
  | inl w ↦ seeded-sound name first second seed rounds c is_seed is_rounds w.0 w.1
  | inr w ↦ absurd (none_some c w.1)
]

lone-sound : (name : List ℕ) (c : Command) → lone name ≡ Some c → IsCommand (name ∷ []) c
lone-sound name c h = elim (chosen (bytes_eq name (codes "replay")) _ _ _ h) [
  | inl w ↦ subst (IsCommand (name ∷ [])) (same_command _ c w.1) (ap (λ (n : List ℕ). n ∷ []) ((bytes_eq-Decides name (codes "replay")).0 w.0))
  | inr w ↦ absurd (none_some c w.1)
]

command-sound : (words : List (List ℕ)) (c : Command) → command_of words ≡ Some c → IsCommand words c
unfolding command_of
command-sound [] c h = absurd (none_some c h)
command-sound (name ∷ []) c h = lone-sound name c h
command-sound (name ∷ first ∷ []) c h = absurd (none_some c h)
command-sound (name ∷ first ∷ second ∷ []) c h = numbered-sound name first second (number_of first) (number_of second) c refl refl h
command-sound (name ∷ first ∷ second ∷ other ∷ words) c h = absurd (none_some c h)

-- ---- and all of it is read

numbered-only : (words : List (List ℕ)) (name : List ℕ) (seed rounds : ℕ) → (w : IsSeeded words name seed rounds)
    → command_of words ≡ seeded name seed rounds
unfolding command_of
numbered-only words name seed rounds w =
    let few = and_from (leb 1 rounds) _ (le-leb 1 rounds w.is_rounds.some) (le-leb rounds 10000 w.is_rounds.few) in
    ap command_of w.are
    ∙ (ap₂ (λ (a b : Option ℕ). numbered name a b) ((number-settles w.first).only seed w.is_seed) ((number-settles w.second).only rounds w.is_rounds.number)
    ∙ pick_true (are_rounds rounds) _ _ few)

command-only : (words : List (List ℕ)) (c : Command) → IsCommand words c → command_of words ≡ Some c
unfolding command_of
command-only words command.Replay w = ap command_of w
command-only words (command.Generate seed rounds) w = numbered-only words (codes "generate") seed rounds w
command-only words (command.Trial seed rounds) w = numbered-only words (codes "trial") seed rounds w

pub command-settles : (words : List (List ℕ)) → Settles (command_of words) (IsCommand words)
command-settles words = record { sound = command-sound words; only = command-only words }
