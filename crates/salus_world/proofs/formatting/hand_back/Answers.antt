use Rattle.std.proofs.Common.{◌≡◌, ◌∙◌, ◌+◌, ◌∷◌, ◌++◌, ℕ, true, is_some, [], List, length, slice_get, Some, sym, ap, subst}
use Rattle.std.proofs.lemmas.List.{length_push}
use Rattle.list_lemmas.proofs.Each.{all_split}
use Rattle.disk_node.specs.declared.node.DiskNode.{DiskNode}
use Rattle.replica_node.specs.declared.node.ReplicaNode.{ReplicaNode}
use Rattle.salus_world.specs.Places.{AllThere}
use Rattle.salus_world.proofs.Mailing.{taken_front, all_given}
use Rattle.salus_world.proofs.Refused.{no_disk}
use Rattle.salus_world.proofs.Splitting.{get_between}
use Rattle.salus_world.proofs.formatting.hand_back.Goals as goal

pub nodes-preserved-in-Continue-1 : goal.nodes-preserved-in-Continue-1
nodes-preserved-in-Continue-1 g c = λ all.
    let node = c.in-Some.node in
    let front = (all_split (λ (n : DiskNode _ _ _). is_some n.node ≡ true) c.nodes.yielded (node ∷ []) all).0 in
    ap length c.in_ok-push-in-Some-into_disk.ensures.items ∙ length_push c.nodes.disks.items c.in-Some-into_disk.disk ∙ (ap (λ (k : ℕ). k + 1) (c.nodes.invariant front) ∙ sym (length_push c.nodes.yielded node))

pub nodes-preserved : goal.nodes-preserved
nodes-preserved g c = λ all.
    let node = c.in-Some.node in
    let here = (all_split (λ (n : DiskNode _ _ _). is_some n.node ≡ true) c.nodes.yielded (node ∷ []) all).1.0 in
    absurd (no_disk (λ (n : ReplicaNode _ _ _). n.checkpoint.store.log.disk.disk) node.node c.into_disk.result c.into_disk.ensures c.in-None-into_disk.is here)

pub returns : goal.returns
returns g c = λ all.
    let none = (rw c.in-None.is at c.next.ensures.steps).0 in
    let left : length c.nodes.node-iterator.rest.items ≡ 0 = sym c.nodes.node-iterator.rest.ok.0 ∙ none in
    let given : c.nodes.yielded ≡ c.args.nodes.items = all_given _ _ _ (taken_front _ _ _ c.nodes.yielded_by) left ∙ c.into_iter-node-iterator.ensures.into_iter_gives.0 in
    let long : length c.nodes.disks.items ≡ length c.args.nodes.items = c.nodes.invariant (subst (λ (l : List (DiskNode _ _ _)). AllThere l) (sym given) all) ∙ ap length given in
    let items = c.in_ok-append.ensures.items ∙ ap (λ (l : List _). l ++ c.reverse.new.self.items) c.in_ok-push.ensures.items in
    subst (λ (l : List _). slice_get l (length c.args.nodes.items) ≡ Some c.args.disk) (sym items) (get_between c.nodes.disks.items c.reverse.new.self.items c.args.disk (length c.args.nodes.items) long)
