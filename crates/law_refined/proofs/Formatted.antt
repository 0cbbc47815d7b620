-- What a formatted node holds stands.
use Rattle.std.proofs.Common.{◌≡◌, inl, inr, ◌<◌, ◌≤◌, ◌==◌, List, [], ◌∷◌, length, refl, sym, arith}
use Rattle.std.proofs.lemmas.Bool.{eq-eqb}
use Rattle.salus_types.specs.Volume.{Shape, regions, IsVolume}
use Rattle.salus_types.specs.declared.names.NodeName.{NodeName}
use Rattle.salus_types.specs.declared.records.Base.{Base}
use Rattle.salus_types.specs.declared.records.Held.{Held}
use Rattle.schedule_text.specs.declared.schedule.Volume.{Volume}
use Rattle.holding_model.specs.Fitting.{has_shape}
use Rattle.volume_model.specs.Recovering.{is_of}
use Rattle.volume_model.specs.Parts.{base_of, whole_base}
use Rattle.replica_rules.specs.Views.{view_of_base}
use Rattle.run_rules.specs.Running.{new_session, formatted}
use Rattle.list_lemmas.proofs.Each.{either_way}
use Rattle.law_shown.proofs.Formatting.{formatted_fits}
use Rattle.law_prefix.specs.Numbers.{Mem}
use Rattle.law_prefix.specs.World.{Client}
use Rattle.law_refined.specs.Bringing.{StartFits}
use Rattle.law_refined.specs.Standing.{Chain, Opened, HeldStands}
use Rattle.law_refined.proofs.Listed.{and_both}
use Rattle.law_refined.proofs.Planning.{start_inside}

pub formatted_stands : (volume : Volume) (name : NodeName) (c : Client) → IsVolume volume.geometry → name.region < regions volume.geometry → Mem 1 c.known → c.starts 1 ≡ 0
    → HeldStands volume.geometry name.region c (formatted volume name)
unfolding base_of Chain
formatted_stands volume name c limits inside known start =
    let shape : Shape = volume.geometry in
    let held : Held = formatted volume name in
    let base : Base = whole_base shape volume.key (new_session shape) name.region in
    let fits = formatted_fits volume name limits inside in
    let first : StartFits c base.rec = record { known = known; start = sym start; no_writes = refl; no_run = refl; spelled = fits.bases.0.given } in
    let opened : Opened shape name.region c held (view_of_base base) = record { base = base; only = refl; chain = refl } in
    record {
      bases = (
        record {
          not_past = omega arith;
          stands = and_both (is_of 1 name.region base.rec.header) (has_shape shape base.blocks) (and_both (1 == 1) (name.region == name.region) refl (eq-eqb name.region name.region refl)) fits.bases.0.whole;
          root = refl;
          inside = start_inside shape c base.rec first;
          fits = inl first;
        },
        tt,
      );
      few = λ e. either_way (1 == e) (base ∷ []) [] (λ (l : List Base). length l ≤ 1) (omega arith) (omega arith);
      open_is = inr (omega arith, view_of_base base, opened);
    }
