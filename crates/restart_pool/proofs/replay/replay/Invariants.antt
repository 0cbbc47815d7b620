use Rattle.std.proofs.Common.{◌≡◌, drop}
use Rattle.volume_model.specs.Recovering.{base_end}
use Rattle.restart_pool.specs.Following.{along, follow}
use Rattle.restart_pool.proofs.replay.replay.Given as goal

abbrev pub invariant-links : goal.invariant-links
invariant-links l =
    (l.tree.height ≡ l.geometry.height)
    × (follow l.geometry (record { at = l.at; blocks = l.tree.blocks }) (along l.parts (drop l.place-index l.later)) ≡ follow l.geometry (base_end l.base) (along l.parts l.later))
