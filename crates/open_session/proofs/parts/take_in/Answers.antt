use Rattle.std.proofs.Common.{◌≡◌, ◌∙◌, ◌++◌, [], if◌then◌else◌, List, OnOk, ap, sym, subst}
use Rattle.std.specs.List.{list_any}
use Rattle.salus_types.specs.declared.records.Record.{Record}
use Rattle.replica_rules.specs.Rules.{same_record}
use Rattle.region_replica.specs.declared.answer.PartAnswer.{PartAnswer}
use Rattle.region_replica.specs.Answering.{IsTaken}
use Rattle.open_session.specs.declared.ballot.Ballot.{Ballot}
use Rattle.open_session.specs.Voting.{ballots}
use Rattle.open_session.proofs.Staying.{stays-then}
use Rattle.open_session.proofs.Adding.{part-stays, next-taken, stored-turned, stored-news, known-turned, answer-other, IsOtherTold}
use Rattle.open_session.proofs.parts.take_in.Goals as goal

pub add_all-requires-clause-first : goal.add_all-requires-clause-first
add_all-requires-clause-first c =
    next-taken c.args.replica.now c.take_part.new.self c.args.rec c.in-Next.rec c.requires.rec c.requires.records
    (subst (λ (a : PartAnswer). IsTaken c.args.replica.now c.args.rec c.take_part.new.self a) c.in-Next.is c.in_ok-rec.ensures.taken)

pub add_all-requires-clause-records : goal.add_all-requires-clause-records
add_all-requires-clause-records c =
    let stays = part-stays c.args.replica.now c.take_part.new.self c.args.rec c.in_ok-rec.field-0 c.requires.rec c.in_ok-rec.ensures.taken in
    stays.records c.requires.records

pub returns-in-Next-clause-stays : goal.returns-in-Next-clause-stays
returns-in-Next-clause-stays c =
    stays-then c.args.replica.now c.take_part.new.self c.add_all.new.replica (part-stays c.args.replica.now c.take_part.new.self c.args.rec c.in_ok-rec.field-0 c.requires.rec c.in_ok-rec.ensures.taken) c.add_all.ensures.stays

pub returns-in-Next-clause-turn : goal.returns-in-Next-clause-turn
returns-in-Next-clause-turn c = λ begun whole.
    stored-turned c.args.geometry.now c.args.replica.now c.take_part.new.self c.add_all.new.replica c.args.rec c.in-Next.rec c.args.leader.now c.add_all.new.leader c.args.parts.now.items c.add_all.new.parts.items
    c.args.outs.now.items c.add_all.new.outs.items begun whole c.add_all.result c.requires.shape c.requires.region c.requires.outs
    (subst (λ (a : PartAnswer). IsTaken c.args.replica.now c.args.rec c.take_part.new.self a) c.in-Next.is c.in_ok-rec.ensures.taken) c.add_all.ensures.stays c.add_all.ensures.stored

pub returns-in-Next-clause-newest : goal.returns-in-Next-clause-newest
returns-in-Next-clause-newest c =
    stored-news c.args.replica.now c.take_part.new.self c.add_all.new.replica c.in-Next.rec c.args.leader.now c.add_all.new.leader c.args.parts.now.items c.add_all.new.parts.items c.args.outs.now.items c.add_all.new.outs.items
    c.add_all.result (part-stays c.args.replica.now c.take_part.new.self c.args.rec c.in_ok-rec.field-0 c.requires.rec c.in_ok-rec.ensures.taken) c.add_all.ensures.stored

pub returns-in-Known-clause-stays : goal.returns-in-Known-clause-stays
returns-in-Known-clause-stays c = part-stays c.args.replica.now c.take_part.new.self c.args.rec c.in_ok-rec.field-0 c.requires.rec c.in_ok-rec.ensures.taken

pub returns-in-Known-clause-turn : goal.returns-in-Known-clause-turn
returns-in-Known-clause-turn c = λ begun whole.
    known-turned c.args.geometry.now c.args.replica.now c.take_part.new.self c.args.rec c.args.leader.now c.args.parts.now.items c.args.outs.now.items c.vote_again.new.outs.items c.is_held-held.result begun whole c.vote_again.result
    c.requires.shape (subst (λ (a : PartAnswer). IsTaken c.args.replica.now c.args.rec c.take_part.new.self a) c.in-Known.is c.in_ok-rec.ensures.taken)
    (c.is_held-held.ensures ∙ ap (λ (l : List Record). list_any (λ x. same_record x c.args.rec) l) c.as_slice.ensures.value) c.requires.outs c.vote_again.ensures.none
    (subst (λ (b : Ballot). OnOk c.vote_again.result (c.vote_again.new.outs.items ≡ c.args.outs.now.items ++ (if c.is_held-held.result then ballots c.args.geometry.now b else []))) c.of-ballot.ensures c.vote_again.ensures.outs)

pub returns-in-Foreign-clause-stays : goal.returns-in-Foreign-clause-stays
returns-in-Foreign-clause-stays c = part-stays c.args.replica.now c.take_part.new.self c.args.rec c.in_ok-rec.field-0 c.requires.rec c.in_ok-rec.ensures.taken

pub returns-in-Foreign-clause-turn : goal.returns-in-Foreign-clause-turn
returns-in-Foreign-clause-turn c = λ begun whole.
    answer-other c.args.geometry.now c.args.replica.now c.take_part.new.self c.args.rec c.in_ok-rec.field-0 c.args.leader.now c.args.parts.now.items c.args.outs.now.items begun whole c.requires.shape c.in_ok-rec.ensures.taken
    (subst (λ a. IsOtherTold a) (sym c.in-Foreign.is) tt) c.requires.outs

pub returns-in-Early-clause-stays : goal.returns-in-Early-clause-stays
returns-in-Early-clause-stays c = part-stays c.args.replica.now c.take_part.new.self c.args.rec c.in_ok-rec.field-0 c.requires.rec c.in_ok-rec.ensures.taken

pub returns-in-Early-clause-turn : goal.returns-in-Early-clause-turn
returns-in-Early-clause-turn c = λ begun whole.
    answer-other c.args.geometry.now c.args.replica.now c.take_part.new.self c.args.rec c.in_ok-rec.field-0 c.args.leader.now c.args.parts.now.items c.args.outs.now.items begun whole c.requires.shape c.in_ok-rec.ensures.taken
    (subst (λ a. IsOtherTold a) (sym c.in-Early.is) tt) c.requires.outs

pub returns-in-Full-clause-stays : goal.returns-in-Full-clause-stays
returns-in-Full-clause-stays c = part-stays c.args.replica.now c.take_part.new.self c.args.rec c.in_ok-rec.field-0 c.requires.rec c.in_ok-rec.ensures.taken

pub returns-in-Full-clause-turn : goal.returns-in-Full-clause-turn
returns-in-Full-clause-turn c = λ begun whole.
    answer-other c.args.geometry.now c.args.replica.now c.take_part.new.self c.args.rec c.in_ok-rec.field-0 c.args.leader.now c.args.parts.now.items c.args.outs.now.items begun whole c.requires.shape c.in_ok-rec.ensures.taken
    (subst (λ a. IsOtherTold a) (sym c.in-Full.is) tt) c.requires.outs

pub returns-in-Differs-clause-stays : goal.returns-in-Differs-clause-stays
returns-in-Differs-clause-stays c = part-stays c.args.replica.now c.take_part.new.self c.args.rec c.in_ok-rec.field-0 c.requires.rec c.in_ok-rec.ensures.taken

pub returns-in-Differs-clause-turn : goal.returns-in-Differs-clause-turn
returns-in-Differs-clause-turn c = λ begun whole.
    answer-other c.args.geometry.now c.args.replica.now c.take_part.new.self c.args.rec c.in_ok-rec.field-0 c.args.leader.now c.args.parts.now.items c.args.outs.now.items begun whole c.requires.shape c.in_ok-rec.ensures.taken
    (subst (λ a. IsOtherTold a) (sym c.in-Differs.is) tt) c.requires.outs
