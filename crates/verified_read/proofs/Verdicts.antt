-- When a verdict comes, and what the rules then say.
use Rattle.std.proofs.Common.{◌≡◌, ◌≢◌, ◌⊎◌, ◌↔◌, ◌∙◌, ℕ, ◌<◌, ◌≤◌, ◌==◌, ◌&&◌, nat_lt, Bool, true, false, if◌then◌else◌, List, [], length, Option, Some, None, IsSome, is_some, refl, sym, ap, subst, true≢false, arith, inl, inr, lt-ltb, le-ltb}
use Rattle.std.proofs.lemmas.Bool.{cases_Bool, and_parts, and_from, cond-true, cond-false, cond_both, eqb-true, eq-eqb, false_from_ne_true}
use Rattle.std.proofs.lemmas.Slice.Eq.{bytes_eq-Decides}
use Rattle.std.specs.Option.{option_map}
use Rattle.std.specs.Str.{bytes_eq}
use Rattle.salus_hash.specs.Hash.{leaf}
use Rattle.salus_types.specs.Volume.{Shape}
use Rattle.salus_types.specs.declared.names.NodeName.{NodeName}
use Rattle.salus_types.specs.declared.strike.Strike.TheVariants as strike
use Rattle.merkle_region.specs.Tree.{climb, verified, Verifies}
use Rattle.salus_message.specs.declared.replies.Answer.{Answer}
use Rattle.volume_model.specs.Contents.{region_of, place_of}
use Rattle.salus_model.specs.Answering.{Verdict, Stale, Good, Struck, verdict_at, verdict_present, is_fitting}
use Rattle.client_rules.specs.State.{Open}
use Rattle.client_rules.specs.Tables.{open_at}
use Rattle.verified_read.specs.declared.verdict.Standing.{Standing}
use Rattle.verified_read.specs.declared.verdict.Standing.TheVariants as standing
use Rattle.verified_read.specs.declared.verdict.Verdict.{Verdict as Said}
use Rattle.verified_read.specs.declared.verdict.Verdict.TheVariants as said
use Rattle.verified_read.specs.Table.{Table}
use Rattle.verified_read.specs.Judging.{worth_in, said_of, standing_of, AnswersOne, IsPresent, reached, IsClimbed, IsSaid, Stands}

found : {A B : Type 0} (x : Option A) (y : B) → IsSome x → option_map (λ _. y) x ≡ Some y
found None y some = absurd (true≢false (sym some))
found (Some x) y some = refl

missing : {A B : Type 0} (x : Option A) (y : B) → (IsSome x → ⊥) → option_map (λ _. y) x ≡ None
missing None y none = refl
missing (Some x) y none = absurd (none refl)

module _ (t : Table) (name : NodeName) (a : Answer) where
  -- ---- an answer to one of the questions

  pub fits : AnswersOne t name a → is_fitting t.shape name a ≡ true
  fits one = and_from _ _ (and_from _ _ (eq-eqb _ _ one.group) (eq-eqb _ _ one.block)) (eq-eqb _ _ one.path)

  pub one_from : is_fitting t.shape name a ≡ true → IsSome (open_at a t.asked) → AnswersOne t name a
  one_from fit asked =
      let parts = and_parts _ _ fit in
      let front = and_parts _ _ parts.0 in
      record { asked = asked; group = eqb-true _ _ front.0; block = eqb-true _ _ front.1; path = eqb-true _ _ parts.1 }

  module _ (number : ℕ) (root : List ℕ) where
    worth_one : AnswersOne t name a → worth_in t name a number root ≡ Some (verdict_at t.shape root number a)
    worth_one one = cond-true _ _ _ (fits one) ∙ found (open_at a t.asked) _ one.asked

    worth_none : (AnswersOne t name a → ⊥) → worth_in t name a number root ≡ None
    worth_none none =
        cond_both (is_fitting t.shape name a) _ _ (λ r. r ≡ None) (λ fit. missing (open_at a t.asked) _ (λ asked. none (one_from fit asked))) (λ _. refl)

-- ---- its worth

module _ (shape : Shape) (number : ℕ) (root : List ℕ) (a : Answer) where
  pub verdict-stale : a.at < number → verdict_at shape root number a ≡ Stale
  verdict-stale less = cond-true _ _ _ (lt-ltb a.at number less)

  pub verdict-past : number < a.at → verdict_at shape root number a ≡ Struck (strike.Past a.at number)
  verdict-past more = cond-false _ _ _ (le-ltb a.at number (omega arith)) ∙ cond-true _ _ _ (lt-ltb number a.at more)

  verdict-now : a.at ≡ number → verdict_at shape root number a ≡ verdict_present shape root a
  verdict-now same = cond-false _ _ _ (le-ltb a.at number (omega arith)) ∙ cond-false _ _ _ (le-ltb number a.at (omega arith))

  -- its path is climbed
  pub verdict-good : a.at ≡ number → Verifies root shape.height (place_of shape a.block) a.bytes a.path → verdict_at shape root number a ≡ Good
  verdict-good same verifies =
      verdict-now same
      ∙ cond-true _ _ _ (and_from (length a.path == shape.height) (bytes_eq (climb (place_of shape a.block) (leaf a.bytes) a.path) root) (eq-eqb _ _ verifies.levels) ((bytes_eq-Decides _ _).1 verifies.climbs))

  pub verdict-bad : a.at ≡ number → climb (place_of shape a.block) (leaf a.bytes) a.path ≢ root
      → verdict_at shape root number a ≡ Struck (strike.Bad root (climb (place_of shape a.block) (leaf a.bytes) a.path))
  verdict-bad same differs =
      let got : List ℕ = climb (place_of shape a.block) (leaf a.bytes) a.path in
      let fails : verified root shape.height (place_of shape a.block) a.bytes a.path ≡ false =
      false_from_ne_true _ (λ e. differs ((bytes_eq-Decides got root).0 (and_parts (length a.path == shape.height) (bytes_eq got root) e).1)) in
      verdict-now same ∙ cond-false _ _ _ fails

-- ---- what is said

present : (a : Answer) (root got : List ℕ) (b : Bool) → standing_of a (Some (if b then Good else Struck (strike.Bad root got))) ≡ standing.Present
present a root got true = refl
present a root got false = refl

module _ (t : Table) (name : NodeName) (a : Answer) (number : ℕ) where
  -- by the rules, before its path is climbed
  pub stands-by_rules : (s : Standing) → Stands t name a number s → (root : List ℕ) → s ≡ standing_of a (worth_in t name a number root)
  stands-by_rules standing.Unknown none root = sym (ap (standing_of a) (worth_none t name a number root none))
  stands-by_rules (standing.Past at) stands root =
      ap standing.Past stands.2 ∙ sym (ap (standing_of a) (worth_one t name a number root stands.0 ∙ ap Some (verdict-past t.shape number root a stands.1)))
  stands-by_rules (standing.Stale at) stands root =
      ap standing.Stale stands.2 ∙ sym (ap (standing_of a) (worth_one t name a number root stands.0 ∙ ap Some (verdict-stale t.shape number root a stands.1)))
  stands-by_rules standing.Present stands root =
      sym (ap (standing_of a) (worth_one t name a number root stands.0 ∙ ap Some (verdict-now t.shape number root a stands.1)) ∙ present a root (reached t a) (verified root t.shape.height (place_of t.shape a.block) a.bytes a.path))

  pub stands-exact : (s v : Standing) → Stands t name a number s → (s ≡ v) ↔ Stands t name a number v
  stands-exact s v p = (λ e. subst (Stands t name a number) e p, λ q. stands-by_rules s p [] ∙ sym (stands-by_rules v q []))

  module _ (root : List ℕ) where
    pub said-by_rules : (v : Said) → IsSaid t name a number root v → v ≡ said_of a (worth_in t name a number root)
    said-by_rules said.Unknown none = sym (ap (said_of a) (worth_none t name a number root none))
    said-by_rules (said.Past at) p =
        ap said.Past p.2 ∙ sym (ap (said_of a) (worth_one t name a number root p.0 ∙ ap Some (verdict-past t.shape number root a p.1)))
    said-by_rules (said.Stale at) p =
        ap said.Stale p.2 ∙ sym (ap (said_of a) (worth_one t name a number root p.0 ∙ ap Some (verdict-stale t.shape number root a p.1)))
    said-by_rules said.Block p =
        sym (ap (said_of a) (worth_one t name a number root p.0.0 ∙ ap Some (verdict-good t.shape number root a p.0.1 p.1)))
    said-by_rules (said.Bad held got) p =
        (λ j. said.Bad (p.2 j) (p.3 j)) ∙ sym (ap (said_of a) (worth_one t name a number root p.0.0 ∙ ap Some (verdict-bad t.shape number root a p.0.1 p.1)))

    pub said-exact : (v w : Said) → IsSaid t name a number root v → (v ≡ w) ↔ IsSaid t name a number root w
    said-exact v w p = (λ e. subst (IsSaid t name a number root) e p, λ q. said-by_rules v p ∙ sym (said-by_rules w q))
