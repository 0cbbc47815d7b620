use Rattle.std.proofs.Common.{◌∙◌, ◌++◌, List, map, sym, ap, subst, rules}
use Rattle.std.specs.Prelude.{filter}
use Rattle.salus_types.specs.declared.records.Record.{Record}
use Rattle.volume_model.specs.Contents.{all_regions}
use Rattle.posting.specs.Letters.{out_of_letter}
use Rattle.volume_restart.specs.Restarting.{shape_of}
use Rattle.session_opening.specs.Answered.{is_waited_for}
use Rattle.session_opening.specs.Basing.{all_letters, base_by, AreBases, IsLoaded}
use Rattle.session_opening.proofs.Beginnings.{made_begun, made_told, now_shape}
use Rattle.session_opening.proofs.beginning.stage.Goals as goal

pub post_bases-requires-clause-records : goal.post_bases-requires-clause-records
post_bases-requires-clause-records c =
    let plan = c.args.plan in
    let are = c.in_ok-records.ensures.value ∙ ap (λ rs. map (base_by c.args.geometry c.args.key.now plan.session plan.seq rs) (all_regions c.args.geometry)) c.as_slice.ensures in
    subst (λ s. AreBases s c.as_slice-2.result.now)
    (sym (now_shape c.args.geometry c.args.key.now plan.session plan.from plan.seq plan.roots plan.carried c.in_ok-progress.progress c.begin_staging.new.self c.in_ok-progress.ensures c.begin_staging.ensures c.in_ok-records.records are))
    (subst (λ rs. AreBases c.args.geometry rs) (sym c.as_slice-2.ensures) c.in_ok-records.ensures.spelled)

pub post_bases-requires-clause-loaded : goal.post_bases-requires-clause-loaded
post_bases-requires-clause-loaded c =
    let plan = c.args.plan in
    let are = c.in_ok-records.ensures.value ∙ ap (λ rs. map (base_by c.args.geometry c.args.key.now plan.session plan.seq rs) (all_regions c.args.geometry)) c.as_slice.ensures in
    subst (λ s. IsLoaded s plan.carried)
    (sym (now_shape c.args.geometry c.args.key.now plan.session plan.from plan.seq plan.roots plan.carried c.in_ok-progress.progress c.begin_staging.new.self c.in_ok-progress.ensures c.begin_staging.ensures c.in_ok-records.records are))
    c.requires.loaded

pub returns-clause-kept : goal.returns-clause-kept
returns-clause-kept c =
    let plan = c.args.plan in
    let are = c.in_ok-records.ensures.value ∙ ap (λ rs. map (base_by c.args.geometry c.args.key.now plan.session plan.seq rs) (all_regions c.args.geometry)) c.as_slice.ensures in
    made_begun c.args.geometry c.args.key.now plan.session plan.from plan.seq plan.roots plan.carried c.in_ok-progress.progress c.begin_staging.new.self c.in_ok-progress.ensures c.begin_staging.ensures c.in_ok-records.records are
    c.requires.roots c.in_ok-records.ensures.spelled c.requires.loaded

pub returns-clause-told : goal.returns-clause-told
returns-clause-told c =
    let plan = c.args.plan in
    let are = c.in_ok-records.ensures.value ∙ ap (λ rs. map (base_by c.args.geometry c.args.key.now plan.session plan.seq rs) (all_regions c.args.geometry)) c.as_slice.ensures in
    made_told c.args.geometry c.args.key.now plan.session plan.from plan.seq plan.roots plan.carried c.in_ok-progress.progress c.begin_staging.new.self c.in_ok-progress.ensures c.begin_staging.ensures c.in_ok-records.records are _ _
    (c.in_ok-post_bases.ensures
    ∙ ap (λ (rs : List Record). c.args.step.now.outs.items ++ map out_of_letter (filter (λ l. is_waited_for c.begin_staging.new.self l.to) (all_letters (shape_of c.begin_staging.new.self) plan.carried rs))) c.as_slice-2.ensures)
    (search rules)
