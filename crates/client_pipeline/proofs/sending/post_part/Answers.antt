use Rattle.std.proofs.Common.{◌≡◌, ◌∙◌, ◌++◌, subst}
use Rattle.std.specs.Prelude.{OnOk}
use Rattle.client_pipeline.proofs.Posted.{letters_are}
use Rattle.client_pipeline.proofs.sending.post_part.Goals as goal

pub returns : goal.returns
returns c =
    subst (λ l. OnOk c.post_bytes_to_group.result (c.post_bytes_to_group.new.outs.items ≡ c.args.outs.now.items ++ l))
    (letters_are c.as_slice.result.now c.args.geometry.now c.args.part.now (c.as_slice.ensures.value ∙ c.in_ok-bytes.ensures)) c.post_bytes_to_group.ensures
