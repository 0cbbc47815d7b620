-- The abstract world that is reached, as one node sees it: it counts there, no lie carries its name, and its contents are images there.
use Rattle.std.proofs.Common.{◌≡◌, ◌∙◌, ℕ, true, nat_lt, List, map, ap, sym, subst}
use Rattle.std.proofs.lemmas.Bool.{lt-ltb}
use Rattle.salus_types.specs.Volume.{Shape, regions, IsVolume}
use Rattle.salus_types.specs.declared.names.NodeName.{NodeName}
use Rattle.salus_types.specs.declared.records.Held.{Held}
use Rattle.merkle_region.specs.Tree.{IsAmong}
use Rattle.schedule_text.specs.Limits.{IsOfVolume}
use Rattle.schedule_text.specs.declared.schedule.Event.{Event}
use Rattle.salus_model.specs.Following.{Posted}
use Rattle.salus_model.specs.Guarding.{counts}
use Rattle.salus_model.specs.Hearing.{Past}
use Rattle.run_rules.specs.Knowing.{KnownNode}
use Rattle.law_prefix.specs.Numbers.{Mem}
use Rattle.law_prefix.specs.Good.{Good}
use Rattle.law_prefix.proofs.Kept.{good_run}
use Rattle.kept_model.specs.Images.{image_of}
use Rattle.kept_model.specs.Nodes.{node_number, region_of_node, node_of, is_honest, volume_as}
use Rattle.law_records.proofs.Counted.{both_true}
use Rattle.law_records.proofs.Recovered.{among_mem}
use Rattle.law_refined.proofs.Listed.{mem_map}
use Rattle.law_matched.specs.Silent.{IsReached}
use Rattle.law_matched.proofs.Numbering.{region_numbered, node_numbered}

module _ (shape : Shape) (limits : IsVolume shape) (events : List Event) (posts : List Posted) (history : List Past) (known : NodeName → KnownNode) (sent : ℕ)
    (reached : IsReached shape events posts history known sent) where
  pub good_there : Good (volume_as shape events) reached.now
  good_there = (good_run (volume_as shape events) reached.start reached.now reached.run reached.begun).0

  module _ (name : NodeName) (inside : IsOfVolume shape name) where
    pub counts_there : counts events history name ≡ true → reached.now.counts (node_number shape name) ≡ true
    counts_there counting =
        let r : ℕ = node_number shape name in
        reached.matches.counts r
        ∙ both_true (nat_lt (region_of_node shape r) (regions shape)) (counts events history (node_of shape r))
        (ap (λ (g : ℕ). nat_lt g (regions shape)) (region_numbered shape limits name inside) ∙ lt-ltb name.region (regions shape) inside.0)
        (ap (λ (m : NodeName). counts events history m) (node_numbered shape limits name inside) ∙ counting)

    pub honest_there : counts events history name ≡ true → is_honest shape events (node_number shape name) ≡ true
    honest_there counting = good_there.fresh_honest (node_number shape name) (good_there.counts_fresh (node_number shape name) (counts_there counting))

    pub image_there : (held : Held) → IsAmong held (known name).contents → Mem (image_of held) (reached.now.images (node_number shape name))
    image_there held among =
        subst (Mem (image_of held))
        (sym (reached.matches.images (node_number shape name) ∙ ap (λ (m : NodeName). map (λ (h : Held). image_of h) (known m).contents) (node_numbered shape limits name inside)))
        (mem_map (λ (h : Held). image_of h) held (known name).contents (among_mem held (known name).contents among))
