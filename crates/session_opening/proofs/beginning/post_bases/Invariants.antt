use Rattle.std.proofs.Common.{◌≡◌, ◌++◌, map, take}
use Rattle.std.specs.Prelude.{filter}
use Rattle.posting.specs.Letters.{out_of_letter}
use Rattle.volume_restart.specs.Restarting.{shape_of}
use Rattle.session_opening.specs.Answered.{is_waited_for}
use Rattle.session_opening.specs.Basing.{all_letters}
use Rattle.session_opening.proofs.beginning.post_bases.Given as goal

abbrev pub invariant-records : goal.invariant-records
invariant-records l =
    l.outs.items ≡ l.fn.outs.items ++ map out_of_letter (filter (λ e. is_waited_for l.progress e.to) (all_letters (shape_of l.progress) l.carried (take l.rec-index l.records)))
