use Rattle.std.proofs.Common.{◌≡◌, ◌∙◌, ◌+◌, ◌++◌, ◌∷◌, ◌<◌, ℕ, true, is_some, List, [], length, slice_get, Some, IsTrue, refl, sym, ap, subst, arith}
use Rattle.std.proofs.lemmas.List.{length_push}
use Rattle.std.proofs.lemmas.Option.{none-some}
use Rattle.salus_types.specs.Volume.{regions, nodes}
use Rattle.salus_types.specs.declared.names.NodeName.{NodeName}
use Rattle.disk_model.specs.Disk.{Now}
use Rattle.disk_node.specs.declared.node.DiskNode.{DiskNode}
use Rattle.run_rules.specs.Knowing.{fresh}
use Rattle.disk_node.specs.Fitting.{held_in}
use Rattle.salus_world.specs.Places.{name_at, AllThere, AllUnharmed, AreFormatted}
use Rattle.salus_world.proofs.Seats.{none_formatted, formatted_more, unharmed_more, region_at}
use Rattle.salus_world.proofs.Refused.{refused_as, fits_there}
use Rattle.salus_world.proofs.Splitting.{AreSplit, none_taken, one_taken, taken_at, taken_of, taken_inside, all_taken, all_each}
use Rattle.salus_world.proofs.formatting.format_nodes.Goals as goal

pub nodes-init : goal.nodes-init
nodes-init g c =
    let none = c.new-made.ensures.items in
    record {
      made = subst (λ (l : List (DiskNode _ _ _)). AreFormatted c.args.geometry c.args.key.now (length l) l) (sym none) (none_formatted c.args.geometry c.args.key.now);
      split = subst (λ (k : ℕ). AreSplit c.args.disks.items c.reverse.new.self.items k) (sym (ap length none)) (none_taken c.args.disks.items c.reverse.new.self.items c.reverse.ensures.items);
      sure = λ all place node at. absurd (none-some node (subst (λ (l : List (DiskNode _ _ _)). slice_get l place ≡ Some node) none at));
    }

pub nodes-preserved : goal.nodes-preserved
nodes-preserved g c =
    let made = c.nodes.made.items in
    let node = c.in-Ok.node in
    let last = c.in-Some.ensures.items in
    let split = c.nodes.invariant.split in
    let grown = c.in-Ok-push.ensures.items in
    let name = c.name_at-name.ensures ∙ ap (λ (k : ℕ). name_at c.args.geometry k) (c.len.ensures ∙ c.nodes.made.ok.0) in
    record {
      made = subst (λ (l : List (DiskNode _ _ _)). AreFormatted c.args.geometry c.args.key.now (length l) l) (sym grown)
          (subst (λ (k : ℕ). AreFormatted c.args.geometry c.args.key.now k (made ++ node ∷ [])) (sym (length_push made node))
          (formatted_more c.args.geometry c.args.key.now (length made) made node c.name_at-name.result c.nodes.invariant.made name (record { fits = c.in-Ok.ensures.fits; holds = c.in-Ok.ensures.formatted })));
      split = subst (λ (k : ℕ). AreSplit c.args.disks.items c.pop.new.self.items k) (sym (ap length grown ∙ length_push made node)) (one_taken c.args.disks.items c.nodes.left.items c.pop.new.self.items (length made) c.in-Some.disk split last);
      sure = λ all. subst (λ (l : List (DiskNode _ _ _)). AllUnharmed l) (sym grown) (unharmed_more made node (c.nodes.invariant.sure all)
          (c.in-Ok.ensures.sure (taken_of c.args.disks.items c.nodes.left.items c.pop.new.self.items (length made) c.in-Some.disk split last (λ (disk : _). IsTrue (g.D.Disk.is_sure disk)) all)));
    }

pub format-requires-clause-region : goal.format-requires-clause-region
format-requires-clause-region g c =
    let inside = taken_inside c.args.disks.items c.nodes.left.items c.pop.new.self.items (length c.nodes.made.items) c.in-Some.disk c.nodes.invariant.split c.in-Some.ensures.items in
    let below : c.len.result < nodes c.args.geometry = subst (λ (k : ℕ). k < nodes c.args.geometry) (sym (c.len.ensures ∙ c.nodes.made.ok.0)) (subst (λ (k : ℕ). length c.nodes.made.items < k) c.requires.count inside) in
    subst (λ (n : NodeName). n.region < regions c.args.geometry) (sym c.name_at-name.ensures) (region_at c.args.geometry c.len.result (omega (arith, c.requires.limits.small_groups)) below)

pub format-requires-clause-empty : goal.format-requires-clause-empty
format-requires-clause-empty g c =
    taken_of c.args.disks.items c.nodes.left.items c.pop.new.self.items (length c.nodes.made.items) c.in-Some.disk c.nodes.invariant.split c.in-Some.ensures.items (λ (disk : _). Now (g.D.Disk.history disk) (λ now. now.seen ≡ [])) c.requires.empty

pub returns-in-Err-clause-refused : goal.returns-in-Err-clause-refused
returns-in-Err-clause-refused g c =
    let made = c.nodes.made.items in
    let are = c.nodes.invariant.made in
    let there : AllThere made = all_each (λ (node : DiskNode _ _ _). is_some node.node ≡ true) made
    (λ place node at. fits_there c.args.geometry (name_at c.args.geometry place) (fresh c.args.geometry (name_at c.args.geometry place).region (held_in node)) node (are.each place node at).fits) in
    let refused = c.in-Err.refused in
    refused_as g.D.Disk.history g.D.Disk.faults g.D.Disk.is_sure c.args.disks.items (length made) c.in-Some.disk refused.disk refused.error c.refuse.result
    (taken_at c.args.disks.items c.nodes.left.items c.pop.new.self.items (length made) c.in-Some.disk c.nodes.invariant.split c.in-Some.ensures.items)
    (c.refuse.ensures there) c.in-Err.ensures.cause c.in-Err.ensures.only c.in-Err.ensures.sure
