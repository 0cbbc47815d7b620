use Rattle.std.proofs.Common.{◌∙◌, ◌≤◌, All, List, length, ap, sym, subst}
use Rattle.salus_types.specs.declared.records.Record.{Record}
use Rattle.salus_types.specs.declared.records.Base.{Base}
use Rattle.replica_rules.specs.Leading.{noted_with}
use Rattle.region_view.specs.Kept.{KeptView}
use Rattle.pipelined_commit.specs.Standing.{Follows}
use Rattle.open_session.specs.Opening.{IsTriedAll, is_whole_of}
use Rattle.open_session.proofs.Trying.{tried-few, begun-stands}
use Rattle.open_session.proofs.session.Session.begin.Goals as goal

pub hold_all-requires : goal.hold_all-requires
hold_all-requires c =
    subst (λ (l : List Record). All (λ (rec : Record). length rec.header.touched ≤ 16) l) (sym c.as_slice-2.ensures.value)
    (tried-few c.args.name.region c.args.session c.regions-regions.result c.args.geometry.now c.in_ok-view.view c.try_all.new.view c.as_slice.result.now c.in_ok-parts.parts.items (ap (λ (k : KeptView). k.shape) c.in_ok-view.ensures)
    c.regions-regions.ensures.value c.regions-regions.ensures.bound c.in_ok-parts.ensures.tried)

pub returns : goal.returns
returns c =
    begun-stands c.args.geometry.now c.args.name.region c.args.session c.args.held.now c.args.base.now c.in_ok-view.view c.try_all.new.view c.in_ok-leader.leader c.hold_all.new.leader c.in_ok-parts.parts.items c.new-3.result
    c.begun_with.result c.is_whole-whole.result c.in_ok-view.ensures
    (subst (λ (l : List Record). IsTriedAll c.args.name.region c.args.session c.in_ok-view.view l c.try_all.new.view c.in_ok-parts.parts.items) c.as_slice.ensures c.in_ok-parts.ensures.tried)
    c.in_ok-leader.ensures.region c.in_ok-leader.ensures.stands
    (subst (λ (l : List Record). Follows (λ x. record x { noted = noted_with c.in_ok-leader.leader.region x.noted l }) c.in_ok-leader.leader c.hold_all.new.leader) c.as_slice-2.ensures.value c.hold_all.ensures.noted)
    c.new-3.ensures c.begun_with.ensures
    (c.is_whole-whole.ensures ∙ ap (λ (l : List Record). is_whole_of c.args.session (length l) c.as_slice-4.result.now c.as_slice-5.result.now) c.as_slice-3.ensures.value
    ∙ ap (λ (l : List Base). is_whole_of c.args.session (length c.in_ok-parts.parts.items) l c.as_slice-5.result.now) c.as_slice-4.ensures
    ∙ ap (λ (l : List Record). is_whole_of c.args.session (length c.in_ok-parts.parts.items) c.args.held.now.bases l) c.as_slice-5.ensures)
