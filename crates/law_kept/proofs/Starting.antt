-- Before all steps: a formatted world matches, and holds what is carried along the run.
use Rattle.std.proofs.Common.{◌≡◌, ◌∙◌, ℕ, zero, Bool, true, false, ◌==◌, ◌&&◌, not, nat_lt, if◌then◌else◌, List, [], ◌∷◌, None, Some, inl, inr, refl, ap, sym, subst, arith, le_refl, eqb-true}
use Rattle.std.proofs.lemmas.Bool.{false≢true}
use Rattle.std.proofs.lemmas.Option.{none-some}
use Rattle.std.proofs.lemmas.Nat.{pow_pos}
use Rattle.salus_types.specs.Volume.{Shape, regions}
use Rattle.salus_types.specs.declared.names.NodeName.{NodeName}
use Rattle.salus_types.specs.declared.names.Sender.TheVariants as sender
use Rattle.merkle_region.specs.Tree.{NoTwoCollide}
use Rattle.schedule_text.specs.Limits.{IsOfVolume, IsWithinLimits}
use Rattle.schedule_text.specs.declared.schedule.Volume.{Volume}
use Rattle.schedule_text.specs.declared.schedule.Event.{Event}
use Rattle.volume_model.specs.Parts.{Session, base_of}
use Rattle.salus_model.specs.Judge.{known_at, first_session, start_judge}
use Rattle.salus_model.specs.Following.{Posted}
use Rattle.salus_model.specs.Forgery.{IsTagged}
use Rattle.salus_model.specs.Guarding.{is_lied_for, counts, all_guarded}
use Rattle.salus_model.specs.Hearing.{since, phase_of}
use Rattle.salus_model.specs.Waiting.{all_taken}
use Rattle.salus_model.specs.Complete.{last_begun}
use Rattle.client_rules.specs.Rules.{new_client}
use Rattle.replica_rules.specs.Nodes.{loaded_as}
use Rattle.replica_rules.proofs.Keeping.{OfHeld, fresh_of}
use Rattle.run_rules.specs.Knowing.{KnownNode, fresh}
use Rattle.run_rules.specs.Running.{formatted}
use Rattle.list_lemmas.proofs.Tests.{by_test}
use Rattle.law_lemmas.proofs.Settled.{start_settled}
use Rattle.law_lines.proofs.Starting.{start_holds}
use Rattle.law_lines.proofs.Whole.{AllScripted}
use Rattle.law_history.specs.Choosing.{ChoseRight}
use Rattle.law_history.proofs.Joined.{good_none}
use Rattle.law_history.proofs.Standing.{grows_still}
use Rattle.law_prefix.specs.Numbers.{Mem}
use Rattle.law_prefix.specs.Images.{Image}
use Rattle.law_prefix.specs.World as abstract
use Rattle.law_prefix.specs.World.{World, Guarded}
use Rattle.law_prefix.specs.Run.{IsStart, begun}
use Rattle.kept_model.specs.Batches.{list_of, start_of}
use Rattle.kept_model.specs.Counting.{counts_as, fresh_as}
use Rattle.kept_model.specs.Images.{image_of}
use Rattle.kept_model.specs.Matching.{images_as}
use Rattle.kept_model.specs.Nodes.{region_of_node, node_of, is_honest, volume_as}
use Rattle.kept_model.specs.Phases.{switches_of, IsKnown, IsClientOf}
use Rattle.law_refined.proofs.Formatted.{formatted_stands}
use Rattle.law_refined.proofs.Refining.{loaded_stands}
use Rattle.law_matched.specs.Silent.{IsReached}
use Rattle.law_matched.proofs.Reaching.{guarded_as}
use Rattle.law_phases.proofs.Countable.{start_countable}
use Rattle.law_phases.proofs.Rooms.{new_roomy}
use Rattle.law_kept.proofs.Saying.{Owns}
use Rattle.law_kept.proofs.Along.{IsAlong}

and_true : (b : Bool) → b ≡ (b && true)
and_true true = refl
and_true false = refl

-- session 1 alone is known
first_known : (shape : Shape) (e : ℕ) (known : Session) → known_at (start_judge shape) e ≡ Some known → e ≡ 1
first_known shape e known at = by (1 == e) refl at where
  by : (b : Bool) → (1 == e) ≡ b → (if b then Some (first_session shape) else None) ≡ Some known → e ≡ 1
  by true is found = sym (eqb-true 1 e is)
  by false is found = absurd (none-some known found)

module _ (volume : Volume) (events : List Event) (posts : List Posted) (limits : IsWithinLimits (record { volume = volume; events = events })) where
  abbrev shape : Shape
  shape = volume.geometry

  abbrev v : abstract.Volume
  v = volume_as shape events

  -- what each node holds at first
  abbrev pub known_first : NodeName → KnownNode
  known_first name = fresh shape name.region (formatted volume name)

  abbrev first_client : abstract.Client
  first_client = record { lists = λ e. []; starts = λ e. zero; known = 1 ∷ zero ∷ []; served = 1; acked = zero; asked = 1; phase = abstract.Serving; switches = [] }

  abbrev first_world : World
  first_world = record {
    client = first_client;
    images = λ r. images_as shape known_first r;
    counts = is_honest shape events;
    fresh = is_honest shape events;
    votes = [];
    claims = [];
    staged = [];
    switched = [];
    replies = [];
  }

  abbrev first_image : Image
  first_image = record { session = 1; base = zero; parts = []; later = [] }

  image_first : (name : NodeName) → image_of (formatted volume name) ≡ first_image
  unfolding base_of
  image_first name = refl

  images_first : (r : ℕ) (i : Image) → Mem i (first_world.images r) → i ≡ first_image
  unfolding loaded_as
  images_first r i (inl same) = same ∙ image_first (node_of shape r)
  images_first r i (inr none) = absurd none

  start : IsStart v first_world
  start = record {
    some_region = pow_pos shape.regions_log;
    lists = λ e. refl;
    starts = λ e. refl;
    known = refl;
    served = refl;
    acked = refl;
    asked = refl;
    phase = refl;
    switches = refl;
    images = images_first;
    counts = λ r. refl;
    fresh = λ r. refl;
    votes = refl;
    claims = refl;
    staged = refl;
    switched = refl;
    replies = refl;
  }

  counts_first : (r : ℕ) → is_honest shape events r ≡ counts_as shape events [] r
  unfolding counts
  counts_first r = ap (λ b. nat_lt (region_of_node shape r) (regions shape) && b) (and_true (not (is_lied_for events (sender.Node (node_of shape r)))))

  fresh_first : (r : ℕ) → is_honest shape events r ≡ fresh_as shape events [] r
  unfolding since
  fresh_first r = ap (λ b. nat_lt (region_of_node shape r) (regions shape) && b) (and_true (not (is_lied_for events (sender.Node (node_of shape r)))))

  known_there : (e : ℕ) → Mem e (1 ∷ zero ∷ []) → IsKnown (start_judge shape) e
  known_there e (inl one) = inr (first_session shape, subst (λ k. known_at (start_judge shape) k ≡ Some (first_session shape)) (sym one) refl)
  known_there e (inr (inl none)) = inl none
  known_there e (inr (inr none)) = absurd none

  known_back : (e : ℕ) → IsKnown (start_judge shape) e → Mem e (1 ∷ zero ∷ [])
  known_back e (inl none) = inr (inl none)
  known_back e (inr known) = inl (first_known shape e known.0 known.1)

  client_first : IsClientOf shape events [] first_client
  unfolding switches_of phase_of last_begun
  client_first = record {
    lists = λ e. by_test (λ b. [] ≡ list_of shape (if b then Some (first_session shape) else None)) (1 == e) (λ _. refl) (λ _. refl);
    starts = λ e. by_test (λ b. zero ≡ start_of (if b then Some (first_session shape) else None)) (1 == e) (λ _. refl) (λ _. refl);
    known_there = known_there;
    known_back = known_back;
    served = refl;
    acked = refl;
    asked = refl;
    phase = refl;
    switched_there = λ e m. absurd m;
    switched_back = λ e m. absurd m;
  }

  -- a formatted world matches
  pub first_reached : all_guarded shape events [] ≡ true → IsReached shape events posts [] known_first 0
  first_reached guarded =
      let all : Guarded v (counts_as shape events []) = guarded_as shape limits.volume events [] guarded in
      record {
        start = first_world;
        now = first_world;
        begun = start;
        run = begun first_world (λ g inside. (let one = all g inside in (one.0, one.1, counts_first one.0 ∙ one.2)));
        matches = record {
          client = client_first;
          images = λ r. refl;
          counts = counts_first;
          fresh = fresh_first;
          messages = λ k counted low m at name from honest x reads. absurd (omega (arith, counted, low));
        };
        stand = λ name inside. loaded_stands shape v name.region first_client [] [] (formatted volume name) (formatted_stands volume name first_client limits.volume inside.0 (inl refl) refl);
        clients = λ k counted low m at from x reads. absurd (omega (arith, counted, low));
      }

  first_owns : (name : NodeName) → IsOfVolume shape name → Owns volume events posts (start_judge shape) (known_first name)
  unfolding loaded_as
  first_owns name inside =
      let tagged : IsTagged shape volume.key (start_judge shape) (base_of shape volume.key (first_session shape) name.region) =
      record { e = 1; session = first_session shape; known = refl; g = name.region; either = inr (record { inside = inside.0; is = refl }) } in
      let of : OfHeld (λ rec. IsTagged shape volume.key (start_judge shape) rec) (formatted volume name) = record { bases = (tagged, tt); parts = tt } in
      record { held = of; kept = fresh_of (λ rec. IsTagged shape volume.key (start_judge shape) rec) shape name.region (formatted volume name); each = (of, tt) }

  pub first_along : (strings : List (List ℕ)) (none : NoTwoCollide strings) → all_guarded shape events [] ≡ true
      → IsAlong volume events posts limits strings none [] 1 1 (new_client shape) known_first 0
  unfolding all_taken since phase_of last_begun ChoseRight AllScripted
  first_along strings none guarded = record {
    standing = record {
      is = refl;
      settled = start_settled shape;
      phase = tt;
      good = good_none shape events 1;
      kept = record { late = λ r among. absurd among; low = omega arith; answered = λ v among. absurd (false≢true among); acked = omega arith };
      heard = λ q among. absurd among;
      reached = record { first = grows_still volume events strings (start_judge shape) (start_judge shape) refl; each = λ q among. absurd among; chose = tt };
    };
    holds = start_holds volume;
    some = omega arith;
    small = omega arith;
    script = tt;
    countable = start_countable volume events limits;
    opening = tt;
    asked = le_refl 1;
    roomy = new_roomy shape;
    letters = tt;
    fronts = record { each = λ known f at above. absurd (let one = first_known shape f known at in omega (arith, one, above)) };
    heard = λ p among. absurd among;
    apart = λ q among. absurd among;
    low = λ q e among. absurd among;
    posted = λ k counted low rec among. absurd (omega (arith, counted, low));
    owns = first_owns;
    said = λ k counted low post at name inside from honest x reads. absurd (omega (arith, counted, low));
    count = refl;
    reached = first_reached guarded;
  }
