use Rattle.std.proofs.Common.{◌∙◌, List, ap}
use Rattle.salus_types.specs.declared.records.Base.{Base}
use Rattle.open_session.specs.Opening.{open_base_of}
use Rattle.open_session.proofs.Trying.{base-stands, opened-none, opened-some}
use Rattle.open_session.proofs.session.Session.opened.Goals as goal

pub begin-requires : goal.begin-requires
begin-requires c = base-stands c.args.geometry.now c.args.name.region c.args.session c.as_slice.result.now c.in-Some.base.now c.in-Some.ensures

pub returns-in-None : goal.returns-in-None
returns-in-None c =
    opened-none c.args.geometry.now c.args.name.region c.args.session c.args.held.now
    (c.in-None.ensures ∙ ap (λ (l : List Base). open_base_of c.args.geometry.now c.args.name.region c.args.session l) c.as_slice.ensures)

pub returns-in_ok-begun-in-Some : goal.returns-in_ok-begun-in-Some
returns-in_ok-begun-in-Some c =
    opened-some c.args.geometry.now c.args.name.region c.args.session c.args.held.now c.in-Some.base.now c.in_ok-begun-in-Some.begun
    (c.in-Some.ensures ∙ ap (λ (l : List Base). open_base_of c.args.geometry.now c.args.name.region c.args.session l) c.as_slice.ensures) c.in_ok-begun-in-Some.ensures
