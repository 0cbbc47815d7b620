use Rattle.std.proofs.Common.{◌∙◌, ap, refl, sym, subst}
use Rattle.std.specs.Prelude.{option_map, IfSome}
use Rattle.restart_pool.specs.Assembled.{IsRecovered}
use Rattle.volume_restart.proofs.Chosen.{apart, with_contents}
use Rattle.volume_restart.proofs.choice.choice_by.Goals as goal

pub returns-in-Some-clause-sound : goal.returns-in-Some-clause-sound
returns-in-Some-clause-sound c = record {
  header = c.args.header.now;
  among = c.requires;
  session = refl;
  number = refl;
  contents = subst (λ o. IfSome o (IsRecovered c.args.pool.now c.args.header.now)) c.in-Some.is c.in_ok-contents.ensures.sound;
}

pub returns-in-Some-clause-exact : goal.returns-in-Some-clause-exact
returns-in-Some-clause-exact c = λ single none.
    let same = c.in_ok-contents.ensures.exact single (apart c.args.pool.now c.args.header.now c.requires none) in
    ap (option_map (with_contents c.args.header.now)) (sym c.in-Some.is ∙ same)

pub returns-in-None-clause-exact : goal.returns-in-None-clause-exact
returns-in-None-clause-exact c = λ single none.
    let same = c.in_ok-contents.ensures.exact single (apart c.args.pool.now c.args.header.now c.requires none) in
    ap (option_map (with_contents c.args.header.now)) (sym c.in-None.is ∙ same)
