use Rattle.std.proofs.Common.{◌≡◌, ◌≤◌, ◌∙◌, List, ℕ, length, map, ap, sym, subst}
use Rattle.std.specs.Prelude.{All}
use Rattle.salus_types.specs.Volume.{regions}
use Rattle.salus_types.specs.declared.records.Header.{Header}
use Rattle.client_tag.specs.Ranges.{IsRecord, IsBetween}
use Rattle.client_tag.specs.Tags.{sealed}
use Rattle.client_rules.specs.Submitting.{with_batch}
use Rattle.client_window.specs.Window.{KeptWindow}
use Rattle.client_window.specs.Untagged.{roots_with, untagged_parts}
use Rattle.client_window.specs.Standing.{StandsFor}
use Rattle.client_window.specs.Parting.{topped}
use Rattle.client_window.proofs.Stepped.{put_back}
use Rattle.client_window.proofs.Rooted.{touched_within}
use Rattle.client_window.proofs.Joined.{roots_made, top_made, parts_made, after_is, after_window, are_records, parts_sealed, stands_with}
use Rattle.client_window.proofs.window.Window.submit.Goals as goal

pub put_roots-requires : goal.put_roots-requires
put_roots-requires c = record {
  touched = touched_within c.args.self.now.shape c.args.batch.now c.as_slice.result.now (length c.self.inside.tops)
      (c.as_slice.ensures ∙ ap (λ (h : Header). h.touched) c.in_ok-shared.ensures)
      (c.self.invariant.rooted ∙ ap (λ (w : KeptWindow). regions w.shape) c.self.view_is);
}

pub invariant_of-self-2 : goal.invariant_of-self-2
invariant_of-self-2 c =
    let roots = roots_made _ _ c.self.view_is c.self.invariant c.args.batch.now c.args.roots.now c.in_ok-shared.shared c.in_ok-shared.ensures c.as_slice.result.now c.as_slice-2.result.now c.put_roots.new.tops c.as_slice.ensures c.as_slice-2.ensures c.put_roots.ensures in
    after_window _ _ c.self.view_is c.self.invariant c.args.batch.now c.args.roots.now c.in_ok-shared.shared c.in_ok-shared.ensures c.put_roots.new.tops c.leader_of-leader.result c.push_back.new.self.items roots
    c.leader_of-leader.ensures c.in_ok-push_back.ensures.items c.requires.room

pub returns-clause-parts : goal.returns-clause-parts
returns-clause-parts c =
    let roots = roots_made _ _ c.self.view_is c.self.invariant c.args.batch.now c.args.roots.now c.in_ok-shared.shared c.in_ok-shared.ensures c.as_slice.result.now c.as_slice-2.result.now c.put_roots.new.tops c.as_slice.ensures c.as_slice-2.ensures c.put_roots.ensures in
    let top = top_made _ _ c.self.view_is c.self.invariant c.args.batch.now c.args.roots.now c.in_ok-shared.shared c.in_ok-shared.ensures c.put_roots.new.tops c.top.result roots c.top.ensures in
    let made : c.from_vec.result ≡ untagged_parts c.args.self.now c.args.batch.now c.args.roots.now =
    c.from_vec.ensures
    ∙ put_back (topped c.top.result) c.as_mut_slice.result.now c.put_top.new.parts c.in_ok-parts.parts.items c.in_ok-parts.parts.len c.put_top.ensures c.as_mut_slice.ensures.len
    ∙ parts_made _ _ c.self.view_is c.self.invariant c.args.batch.now c.args.roots.now c.in_ok-shared.shared c.in_ok-shared.ensures c.as_mut_slice.result.now c.top.result c.requires.roots top
    (c.as_mut_slice.ensures.value ∙ c.in_ok-parts.ensures) in
    made

pub returns-clause-records : goal.returns-clause-records
returns-clause-records c =
    let roots = roots_made _ _ c.self.view_is c.self.invariant c.args.batch.now c.args.roots.now c.in_ok-shared.shared c.in_ok-shared.ensures c.as_slice.result.now c.as_slice-2.result.now c.put_roots.new.tops c.as_slice.ensures c.as_slice-2.ensures c.put_roots.ensures in
    let top = top_made _ _ c.self.view_is c.self.invariant c.args.batch.now c.args.roots.now c.in_ok-shared.shared c.in_ok-shared.ensures c.put_roots.new.tops c.top.result roots c.top.ensures in
    let made : c.from_vec.result ≡ untagged_parts c.args.self.now c.args.batch.now c.args.roots.now =
    c.from_vec.ensures
    ∙ put_back (topped c.top.result) c.as_mut_slice.result.now c.put_top.new.parts c.in_ok-parts.parts.items c.in_ok-parts.parts.len c.put_top.ensures c.as_mut_slice.ensures.len
    ∙ parts_made _ _ c.self.view_is c.self.invariant c.args.batch.now c.args.roots.now c.in_ok-shared.shared c.in_ok-shared.ensures c.as_mut_slice.result.now c.top.result c.requires.roots top
    (c.as_mut_slice.ensures.value ∙ c.in_ok-parts.ensures) in
    subst (All IsRecord) (sym made) (are_records c.args.self.now c.args.batch.now c.args.roots.now
    (subst (λ (w : KeptWindow). regions w.shape ≤ 16) c.self.view_is (subst (λ n. n ≤ 16) c.regions.ensures.value c.regions.ensures.bound))
    (subst (λ (w : KeptWindow). IsBetween 1 4096 w.shape.block) c.self.view_is (subst (IsBetween 1 4096) c.block_size.ensures.value c.block_size.ensures.bound))
    c.requires.few c.requires.writes)

pub returns-clause-sealed : goal.returns-clause-sealed
returns-clause-sealed c = λ volume s geometry stands are.
    let roots = roots_made _ _ c.self.view_is c.self.invariant c.args.batch.now c.args.roots.now c.in_ok-shared.shared c.in_ok-shared.ensures c.as_slice.result.now c.as_slice-2.result.now c.put_roots.new.tops c.as_slice.ensures c.as_slice-2.ensures c.put_roots.ensures in
    let top = top_made _ _ c.self.view_is c.self.invariant c.args.batch.now c.args.roots.now c.in_ok-shared.shared c.in_ok-shared.ensures c.put_roots.new.tops c.top.result roots c.top.ensures in
    let made : c.from_vec.result ≡ untagged_parts c.args.self.now c.args.batch.now c.args.roots.now =
    c.from_vec.ensures
    ∙ put_back (topped c.top.result) c.as_mut_slice.result.now c.put_top.new.parts c.in_ok-parts.parts.items c.in_ok-parts.parts.len c.put_top.ensures c.as_mut_slice.ensures.len
    ∙ parts_made _ _ c.self.view_is c.self.invariant c.args.batch.now c.args.roots.now c.in_ok-shared.shared c.in_ok-shared.ensures c.as_mut_slice.result.now c.top.result c.requires.roots top
    (c.as_mut_slice.ensures.value ∙ c.in_ok-parts.ensures) in
    ap (map (sealed volume.key)) made ∙ parts_sealed c.args.self.now s c.args.batch.now c.args.roots.now stands are volume geometry

pub returns-clause-stands : goal.returns-clause-stands
returns-clause-stands c = λ volume s geometry stands are.
    let roots = roots_made _ _ c.self.view_is c.self.invariant c.args.batch.now c.args.roots.now c.in_ok-shared.shared c.in_ok-shared.ensures c.as_slice.result.now c.as_slice-2.result.now c.put_roots.new.tops c.as_slice.ensures c.as_slice-2.ensures c.put_roots.ensures in
    subst (λ (w : KeptWindow). StandsFor w (with_batch volume s c.args.batch.now))
    (sym (after_is _ _ c.self.view_is c.self.invariant c.args.batch.now c.args.roots.now c.in_ok-shared.shared c.in_ok-shared.ensures c.put_roots.new.tops c.leader_of-leader.result c.push_back.new.self.items roots
    c.leader_of-leader.ensures c.in_ok-push_back.ensures.items))
    (stands_with c.args.self.now s c.args.batch.now c.args.roots.now stands are volume geometry)
