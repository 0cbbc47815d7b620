-- Reads beside lies, of a run by the rules in which the sound server serves.
use Rattle.std.proofs.Common.{◌≡◌, ℕ, ◌+◌, ◌<◌, true, false, List, [], ◌∷◌, ◌++◌, sym, ap, subst, arith}
use Rattle.std.specs.List.{list_any, range_with_len}
use Rattle.salus_types.specs.Volume.{Shape, IsVolume}
use Rattle.salus_types.specs.declared.names.NodeName.{NodeName}
use Rattle.salus_types.specs.declared.names.Sender.TheVariants as sender
use Rattle.salus_types.specs.declared.records.Held.{Held}
use Rattle.schedule_text.specs.declared.schedule.Volume.{Volume}
use Rattle.schedule_text.specs.declared.schedule.Event.{Event}
use Rattle.merkle_region.specs.Tree.{IsAmong}
use Rattle.volume_model.specs.Contents.{region_of}
use Rattle.volume_model.specs.Groups.{same_node, group_of}
use Rattle.salus_model.specs.declared.trace.TraceStep.{TraceStep}
use Rattle.salus_model.specs.Following.{Posted}
use Rattle.salus_model.specs.Guarding.{is_lied_for}
use Rattle.salus_model.specs.Hearing.{Past}
use Rattle.salus_model.specs.Complete.{Rooms, IsSound, ReadsBesideLies}
use Rattle.client_rules.specs.State as state
use Rattle.client_rules.specs.Rules.{new_client}
use Rattle.run_rules.specs.Knowing.{KnownNode, fresh}
use Rattle.list_lemmas.proofs.Members.{any_among, among_map, among_range}
use Rattle.law_lemmas.proofs.Named.{one-node}
use Rattle.law_lines.proofs.Openings.{HasNodes}
use Rattle.law_reads.specs.Serving.{IsServing, SoundServe}
use Rattle.law_reads.proofs.Ended.{AreGiven, reads_end}
use Rattle.law_reads.proofs.Given.{AreByRules, are_given}

-- a replica of a group has its region, and one of the volume's replica numbers
in_group : (shape : Shape) (g : ℕ) (name : NodeName) → IsAmong name (group_of shape g) → (g ≡ name.region) × (name.replica < shape.replicas)
in_group shape g name among =
    let r = among_map (λ (r : ℕ). record { region = g; replica = r }) name (range_with_len 0 shape.replicas) among in
    let inside = among_range shape.replicas 0 r.0 r.1 in
    let high : r.0 < 0 + shape.replicas = inside.1 in
    let is : name.replica ≡ r.0 = ap (λ (n : NodeName). n.replica) r.2 in
    (sym (ap (λ (n : NodeName). n.region) r.2), omega (arith, high, is))

group_has : (name : NodeName) (names : List NodeName) → list_any (same_node name) names ≡ true → IsAmong name names
group_has name names is =
    let found = any_among (same_node name) names is in subst (λ (n : NodeName). IsAmong n names) (sym (one-node name found.0 found.2)) found.1

module _ (volume : Volume) (events : List Event) (posts : List Posted) (nodes : HasNodes volume.geometry) (fits : IsVolume volume.geometry) where
  abbrev shape : Shape
  shape = volume.geometry

  module _ (name : NodeName) (v b : ℕ) (region : region_of volume.geometry b ≡ name.region) (group : IsAmong name (group_of volume.geometry (region_of volume.geometry b)))
      (replica : name.replica < volume.geometry.replicas) where
    -- what is given of a run is given of its front
    given_front : (done rest : List TraceStep) (history : List Past) (n m : ℕ) (c : state.Client) (known : KnownNode) (earlier : List TraceStep)
        → AreGiven volume events posts nodes fits name v b region group replica history n m c known earlier (done ++ rest) → AreGiven volume events posts nodes fits name v b region group replica history n m c known earlier done
    unfolding AreGiven
    given_front [] rest history n m c known earlier given = tt
    given_front (t ∷ done) rest history n m c known earlier given = (given.0, given_front done rest _ _ _ _ _ (t ∷ earlier) given.1)

  -- Reads beside lies, where each sound server serves.
  pub read_beside : (is_full : Rooms) (trace : List TraceStep) (first : NodeName → Held)
      → ((name : NodeName) (v b : ℕ) (region : region_of volume.geometry b ≡ name.region) (group : IsAmong name (group_of volume.geometry (region_of volume.geometry b)))
      (replica : name.replica < volume.geometry.replicas) (sound : IsSound events trace name)
      → AreByRules volume events posts trace nodes fits name v b region group replica sound [] 1 2 (new_client shape) (fresh shape name.region (first name)) [] trace)
      → (is_lied_for events sender.Client ≡ false → SoundServe volume events posts is_full trace first) → ReadsBesideLies volume events posts is_full trace
  read_beside is_full trace first rules serving unlied done rest whole v b name in_it sound taken was =
      let group : IsAmong name (group_of volume.geometry (region_of volume.geometry b)) = group_has name (group_of volume.geometry (region_of volume.geometry b)) in_it in
      let of = in_group volume.geometry (region_of volume.geometry b) name group in
      let s : IsServing volume posts is_full trace first name = serving unlied name sound in
      let given =
      are_given volume events posts trace nodes fits name v b of.0 group of.1 sound trace [] 1 2 (new_client shape) (fresh shape name.region (first name)) [] (rules name v b of.0 group of.1 sound) (s.serves v b of.0) in
      reads_end volume events posts nodes fits name v b of.0 group of.1 is_full done taken (first name)
      (given_front name v b of.0 group of.1 done rest [] 1 2 (new_client shape) (fresh shape name.region (first name)) []
      (subst (λ (l : List TraceStep). AreGiven volume events posts nodes fits name v b of.0 group of.1 [] 1 2 (new_client shape) (fresh shape name.region (first name)) [] l) whole given))
      (s.drained done rest whole taken v b of.0) was
