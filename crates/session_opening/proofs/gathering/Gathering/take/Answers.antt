use Rattle.std.proofs.Common.{◌≡◌, ◌∙◌, ◌==◌, true, false, sym, ap, rules}
use Rattle.session_opening.proofs.Replies.{chose_on, kept_on, lost_on, other_session, waits_on, whole_on}
use Rattle.session_opening.proofs.gathering.Gathering.take.Goals as goal

pub returns-then-not-is_ours-clause-told : goal.returns-then-not-is_ours-clause-told
returns-then-not-is_ours-clause-told c = λ volume g geometry key stands apart.
    let other : c.is_ours.result ≡ false = search rules in
    other_session c.args.self.now c.args.key.now c.args.from c.args.reply.now volume g stands (ap (λ e. c.args.reply.now.session == e) (sym stands.session) ∙ sym c.is_ours.ensures ∙ other)

pub returns-then-not-all_in-clause-kept : goal.returns-then-not-all_in-clause-kept
returns-then-not-all_in-clause-kept c = kept_on c.args.self.now c.args.key.now c.args.from c.args.reply.now c.gathered.new.self c.in_ok-gathered.ensures c.requires.kept c.requires.in_format

pub returns-then-not-all_in-clause-told : goal.returns-then-not-all_in-clause-told
returns-then-not-all_in-clause-told c = λ volume g geometry key stands apart.
    let ours : c.is_ours.result ≡ true = search rules in
    let out : c.all_in.result ≡ false = search rules in
    waits_on c.args.self.now c.args.key.now c.args.from c.args.reply.now c.gathered.new.self c.in_ok-gathered.ensures c.requires.kept c.requires.from (sym c.is_ours.ensures ∙ ours) volume g geometry key stands (sym c.all_in.ensures ∙ out)

pub returns-in-Some-clause-kept : goal.returns-in-Some-clause-kept
returns-in-Some-clause-kept c = kept_on c.args.self.now c.args.key.now c.args.from c.args.reply.now c.gathered.new.self c.in_ok-gathered.ensures c.requires.kept c.requires.in_format

pub returns-in-Some-clause-whole : goal.returns-in-Some-clause-whole
returns-in-Some-clause-whole c =
    whole_on c.args.self.now c.args.key.now c.args.from c.args.reply.now c.gathered.new.self c.in_ok-gathered.ensures c.requires.kept c.requires.in_format _ c.in_ok-choice.ensures.sound c.in-Some.choice c.in-Some.is

pub returns-in-Some-clause-told : goal.returns-in-Some-clause-told
returns-in-Some-clause-told c = λ volume g geometry key stands apart.
    let ours : c.is_ours.result ≡ true = search rules in
    let all : c.all_in.result ≡ true = search rules in
    chose_on c.args.self.now c.args.key.now c.args.from c.args.reply.now c.gathered.new.self c.in_ok-gathered.ensures c.requires.kept c.requires.from (sym c.is_ours.ensures ∙ ours) volume g geometry key stands apart _
    (sym c.all_in.ensures ∙ all) c.in_ok-choice.ensures.exact c.in-Some.choice c.in-Some.is

pub returns-in-None-clause-kept : goal.returns-in-None-clause-kept
returns-in-None-clause-kept c = kept_on c.args.self.now c.args.key.now c.args.from c.args.reply.now c.gathered.new.self c.in_ok-gathered.ensures c.requires.kept c.requires.in_format

pub returns-in-None-clause-told : goal.returns-in-None-clause-told
returns-in-None-clause-told c = λ volume g geometry key stands apart.
    let ours : c.is_ours.result ≡ true = search rules in
    let all : c.all_in.result ≡ true = search rules in
    lost_on c.args.self.now c.args.key.now c.args.from c.args.reply.now c.gathered.new.self c.in_ok-gathered.ensures c.requires.kept c.requires.from (sym c.is_ours.ensures ∙ ours) volume g geometry key stands apart _
    (sym c.all_in.ensures ∙ all) c.in_ok-choice.ensures.exact c.in-None.is
