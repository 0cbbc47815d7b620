use Rattle.std.proofs.Common.{◌∙◌, sym, ap, arith, string_bytes}
use Rattle.text_words.specs.Reading.{number_of}
use Rattle.salus_commands.proofs.Worded.{one_read, three_read, other_words}
use Rattle.salus_commands.proofs.words.spelled.Goals as goal

pub returns-in-len1 : goal.returns-in-len1
returns-in-len1 c =
    one_read (λ w. string_bytes w) c.args.words.now c.name-item.result _ c.lone.result c.in-len1.len_at_least c.in-len1.len_below c.name-item.is c.lone.ensures
    c.as_bytes.ensures.value

pub returns-in-len3 : goal.returns-in-len3
returns-in-len3 c =
    three_read (λ w. string_bytes w) c.args.words.now c.name-item-then-words-lt4.result c.seed-item.result c.rounds-item.result _ _ _ c.numbered.result
    c.in-len3.len_at_least c.in-len3.len_below c.name-item-then-words-lt4.is c.seed-item.is c.rounds-item.is c.numbered.ensures c.as_bytes-in-len3.ensures.value
    (c.number_of.ensures.exact ∙ ap number_of c.as_bytes-in-len3-2.ensures.value) (c.number_of-in-len3.ensures.exact ∙ ap number_of c.as_bytes-in-len3-3.ensures.value)

pub returns-in_default : goal.returns-in_default
returns-in_default c = sym (other_words (λ w. string_bytes w) c.args.words.now (λ one. omega arith) (λ three. omega arith))

pub returns-in_default-2 : goal.returns-in_default-2
returns-in_default-2 c = sym (other_words (λ w. string_bytes w) c.args.words.now (λ one. omega arith) (λ three. omega arith))

pub returns-in_default-3 : goal.returns-in_default-3
returns-in_default-3 c = sym (other_words (λ w. string_bytes w) c.args.words.now (λ one. omega arith) (λ three. omega arith))
