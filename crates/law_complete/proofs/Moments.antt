-- Each record that a node has held at any moment was handed to it, or held at first.
use Rattle.std.proofs.Common.{◌≡◌, ◌∙◌, inl, inr, ⊎_elim, ℕ, if◌then◌else◌, List, [], ◌∷◌, ◌++◌, ap, subst, append_assoc, append-nil}
use Rattle.std.specs.List.{AllByRecursion}
use Rattle.salus_types.specs.Volume.{Shape}
use Rattle.salus_types.specs.declared.names.NodeName.{NodeName}
use Rattle.salus_types.specs.declared.records.Record.{Record}
use Rattle.salus_types.specs.declared.records.Held.{Held}
use Rattle.merkle_region.proofs.Membership.{among_left}
use Rattle.salus_model.specs.declared.trace.TraceStep.{TraceStep}
use Rattle.salus_model.specs.Following.{Posted}
use Rattle.salus_model.specs.Licences.{Letter, letters_in, letters_to}
use Rattle.replica_rules.specs.Nodes.{loaded_as}
use Rattle.replica_rules.proofs.Keeping.{OfHeld, fresh_of}
use Rattle.run_rules.specs.Knowing.{KnownNode, fresh}
use Rattle.run_rules.specs.Running.{addresses, after, known_of, AllSteps}
use Rattle.list_lemmas.proofs.Each.{all_both, all_then}
use Rattle.law_handed.specs.Bringing.{HasOrigin}
use Rattle.law_handed.specs.Licensing.{moments_of}
use Rattle.law_handed.proofs.Origins.{Stands, stands_along}

module _ (first : Held) (shape : Shape) (posts : List Posted) (name : NodeName) where
  more_letters : (letters more : List Letter) (rec : Record) → HasOrigin first letters rec → HasOrigin first (letters ++ more) rec
  more_letters letters more rec origin =
      ⊎_elim (λ old. inl old) (λ brought. inr (⊎_elim (λ part. inl (among_left _ letters more part)) (λ base. inr (base.0, among_left _ letters more base.1)) brought)) origin

  pub held_more : (letters more : List Letter) (held : Held) → OfHeld (HasOrigin first letters) held → OfHeld (HasOrigin first (letters ++ more)) held
  held_more letters more held of = record {
    bases = all_then (λ base. HasOrigin first letters base.rec) (λ base. HasOrigin first (letters ++ more) base.rec) (λ base o. more_letters letters more base.rec o) held.bases of.bases;
    parts = all_then (HasOrigin first letters) (HasOrigin first (letters ++ more)) (more_letters letters more) held.parts of.parts;
  }

  here_more : (letters more : List Letter) (known : KnownNode) → Stands (HasOrigin first letters) known → AllByRecursion (OfHeld (HasOrigin first (letters ++ more))) (known.state.held ∷ known.contents)
  here_more letters more known s = (held_more letters more known.state.held s.held, all_then (OfHeld (HasOrigin first letters)) (OfHeld (HasOrigin first (letters ++ more))) (held_more letters more) known.contents s.each)

  step_stands : (letters : List Letter) (known : KnownNode) (before : ℕ) (t : TraceStep) (steps : List TraceStep) → AllSteps shape posts name known before (t ∷ steps) → Stands (HasOrigin first letters) known
      → Stands (HasOrigin first (letters ++ letters_to posts name (t ∷ []))) (after shape posts name known t)
  unfolding AllSteps known_of
  step_stands letters known before t steps right s = stands_along first shape posts name letters known before (t ∷ []) (right.0, tt) s

  pub moments_origin : (letters : List Letter) (known : KnownNode) (before : ℕ) (steps : List TraceStep) → AllSteps shape posts name known before steps → Stands (HasOrigin first letters) known
      → AllByRecursion (OfHeld (HasOrigin first (letters ++ letters_to posts name steps))) (moments_of shape posts name known steps)
  unfolding AllSteps moments_of
  moments_origin letters known before [] right s = here_more letters [] known s
  moments_origin letters known before (t ∷ steps) right s =
      let new : List Letter = if addresses name t then letters_in posts t.handed else [] in
      let next : KnownNode = after shape posts name known t in
      let same : (letters ++ letters_to posts name (t ∷ [])) ++ letters_to posts name steps ≡ letters ++ letters_to posts name (t ∷ steps) =
      append_assoc letters (letters_to posts name (t ∷ [])) (letters_to posts name steps) ∙ ap (λ (l : List Letter). letters ++ (l ++ letters_to posts name steps)) (append-nil new) in
      all_both (OfHeld (HasOrigin first (letters ++ letters_to posts name (t ∷ steps)))) (known.state.held ∷ known.contents) (moments_of shape posts name next steps)
      (here_more letters (letters_to posts name (t ∷ steps)) known s)
      (subst (λ (l : List Letter). AllByRecursion (OfHeld (HasOrigin first l)) (moments_of shape posts name next steps)) same
      (moments_origin (letters ++ letters_to posts name (t ∷ [])) next t.sent steps right.1 (step_stands letters known before t steps right s)))

-- at first
pub fresh_stands : (first : Held) (shape : Shape) (g : ℕ) → OfHeld (HasOrigin first []) first → Stands (HasOrigin first []) (fresh shape g first)
unfolding loaded_as
fresh_stands first shape g of = record { held = of; kept = fresh_of (HasOrigin first []) shape g first; each = (of, tt) }
