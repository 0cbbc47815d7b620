use Rattle.std.proofs.Common.{◌≡◌, ◌∙◌, ◌+◌, ◌^◌, ◌≤◌, sym, ap, ap₂, arith}
use Rattle.pruned_volume.specs.Trees.{KeptTrees}
use Rattle.serving_client.proofs.Rooms.{kept_empty}
use Rattle.serving_client.proofs.client.ServingClient.new.Goals as goal

pub invariant_of-result : goal.invariant_of-result
invariant_of-result c =
    kept_empty (record { pipeline = c.in_ok-new.field-0; trees = c.in_ok-new-2.field-0; line = c.new-3.result; reads = c.new-4.result; asked = c.new-5.result; newest = c.args.newest }) c.new-3.ensures
    (ap₂ (λ s a. record { shape = s; asked = a }) (c.new-4.ensures.shape ∙ sym c.in_ok-new.ensures.begins.shape_is) c.new-4.ensures.asked)
    (ap₂ (λ s a. record { shape = s; asked = a }) (c.new-5.ensures.shape ∙ sym c.in_ok-new.ensures.begins.shape_is) c.new-5.ensures.asked)
    (ap (λ (t : KeptTrees). t.shape) c.in_ok-new-2.ensures.value ∙ sym c.in_ok-new.ensures.begins.shape_is) c.requires.newest (omega (arith, c.in_ok-new.ensures.begins.last_is, c.requires.base))

pub returns-clause-stands : goal.returns-clause-stands
returns-clause-stands c = λ volume contents geometry key full roots. record {
  volume_is = record { geometry = geometry ∙ sym c.in_ok-new.ensures.begins.shape_is; key = key ∙ sym c.in_ok-new.ensures.key };
  pipeline = c.in_ok-new.ensures.stands contents roots;
  agrees = c.in_ok-new-2.ensures.agrees contents full roots;
  line = c.new-3.ensures;
  reads = c.new-4.ensures.asked;
  asked = c.new-5.ensures.asked;
}
