use Rattle.std.proofs.Common.{◌∙◌, refl, ap}
use Rattle.salus_types.specs.declared.strike.Strike.TheVariants as strike
use Rattle.volume_model.specs.Contents.{region_of, region_root}
use Rattle.client_rules.specs.Tables.{struck_at}
use Rattle.verified_read.proofs.CallerLemmas.{verdict-stale, verdict-past}
use Rattle.head_blocks.proofs.weighing.weigh.Goals as goal

pub returns-in-Stale-clause-weighed : goal.returns-in-Stale-clause-weighed
returns-in-Stale-clause-weighed c =
    let said = (c.judge.ensures.stale c.in-Stale.at).0 c.in-Stale.is in
    record {
      judged = record {
        one = said.0;
        worth = λ contents agrees.
            verdict-stale c.args.trees.now.shape c.args.number (region_root c.args.trees.now.shape contents (region_of c.args.trees.now.shape c.args.answer.now.block)) c.args.answer.now said.1;
      };
      same = record { trees = refl; asked = c.in-Stale.ensures.asked };
    }

pub returns-in-Past-clause-weighed : goal.returns-in-Past-clause-weighed
returns-in-Past-clause-weighed c =
    let said = (c.judge.ensures.past c.in-Past.at).0 c.in-Past.is in
    record {
      strike = strike.Past c.args.answer.now.at c.args.number;
      judged = record {
        one = said.0;
        worth = λ contents agrees.
            verdict-past c.args.trees.now.shape c.args.number (region_root c.args.trees.now.shape contents (region_of c.args.trees.now.shape c.args.answer.now.block)) c.args.answer.now said.1;
      };
      trees = refl;
      asked = c.in-Past.ensures.asked ∙ ap (λ at. struck_at c.args.answer.now c.args.from.replica (strike.Past at c.args.number) c.args.asked.now.asked) said.2;
    }
