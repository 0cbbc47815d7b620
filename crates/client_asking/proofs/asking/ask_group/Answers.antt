use Rattle.std.proofs.Common.{◌≡◌, ◌∙◌, ◌++◌, ◌/◌, map, ap, subst}
use Rattle.salus_types.specs.Volume.{region_blocks}
use Rattle.salus_types.specs.declared.names.Sender.TheVariants as sender
use Rattle.salus_message.specs.declared.wire.Message.TheVariants as message
use Rattle.volume_model.specs.Contents.{region_of}
use Rattle.volume_model.specs.Groups.{group_of}
use Rattle.posting.specs.Posting.{out_to}
use Rattle.client_asking.proofs.Asked.{asked_group}
use Rattle.client_asking.proofs.asking.ask_group.Goals as goal

pub returns : goal.returns
returns c = λ client stands.
    let same : c.question.inside.block ≡ c.args.question.now.block = cc in
    let there : c.question.inside.block / c.region_blocks.result ≡ region_of c.args.pipeline.now.window.shape c.args.question.now.block =
    ap (λ b. b / c.region_blocks.result) same ∙ ap (λ n. c.args.question.now.block / n) (c.region_blocks.ensures.value ∙ ap region_blocks c.geometry-geometry.ensures) in
    asked_group c.args.pipeline.now.window.shape client c.args.question.now (c.question.inside.block / c.region_blocks.result) (message.Ask c.ask_of.result) c.args.outs.now.items c.post_to_group.new.outs.items
    there (c.ask_of.ensures client stands)
    (subst (λ shape. c.post_to_group.new.outs.items ≡ c.args.outs.now.items ++ map (λ name. out_to (sender.Node name) (message.Ask c.ask_of.result)) (group_of shape (c.question.inside.block / c.region_blocks.result))) c.geometry-geometry.ensures c.in_ok-post_to_group.ensures)
