use Rattle.std.proofs.Common.{◌∙◌, ℕ, ap, replicate}
use Rattle.schedule_generator.specs.Generator.{drawn_bytes}
use Rattle.schedule_generator.proofs.generating.drawn_bytes.Goals as goal

pub returns : goal.returns
unfolding drawn_bytes
returns c =
    c.from_vec.ensures
    ∙ (c.in_ok-vec.ensures.items_if_clones_equal (λ y same. same) ∙ ap (λ (b : ℕ). replicate 256 b) c.drawn_byte-byte.ensures)
