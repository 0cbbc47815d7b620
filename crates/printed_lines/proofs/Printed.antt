-- Lines as they stand in the output, computed by the checker.
use Rattle.std.proofs.Common.{◌≡◌, [], ◌∷◌, ◌++◌, Some, codes, refl}
use Rattle.std.specs.Fmt.{digits}
use Rattle.salus_types.specs.declared.strike.Strike.TheVariants as strike
use Rattle.printed_lines.specs.declared.line.Line.TheVariants as line
use Rattle.printed_lines.specs.declared.line.RequestRefusal.TheVariants as refusal
use Rattle.text_words.specs.Writing.{hex_text, block_text}
use Rattle.printed_lines.specs.LineText.{strike_text, replica_text, cause_text, words_text, line_text, text_of}

pub two_lines : text_of (line.Submit 1 1 ∷ line.Read 3 0 (7 ∷ []) ∷ []) ≡ codes "submit 1 1" ++ 10 ∷ codes "read 3 0 *07" ++ 10 ∷ []
unfolding line_text words_text block_text digits
two_lines = refl

pub mixed_block : line_text (line.Read 12 4095 (171 ∷ 0 ∷ 15 ∷ [])) ≡ codes "read 12 4095 ab000f" ++ 10 ∷ []
unfolding line_text words_text block_text hex_text digits
mixed_block = refl

pub struck_twice : line_text (line.Fault 3 0 (Some (strike.Bad (1 ∷ 2 ∷ []) (255 ∷ [])) ∷ Some (strike.Past 9 8) ∷ [])) ≡ codes "fault 3 0 0102:ff past:9:8" ++ 10 ∷ []
unfolding line_text words_text replica_text strike_text hex_text digits
struck_twice = refl

pub outside : text_of (line.Refused 1 (refusal.Range 1) ∷ line.Skip 2 1 ∷ []) ≡ codes "refused 1 range 1" ++ 10 ∷ codes "skip 2 1" ++ 10 ∷ []
unfolding line_text words_text cause_text digits
outside = refl

pub acknowledged : line_text (line.Ack 12) ≡ codes "ack 12" ++ 10 ∷ []
unfolding line_text words_text digits
acknowledged = refl

pub barrier_passed : line_text (line.Barrier 7 12) ≡ codes "barrier 7 12" ++ 10 ∷ []
unfolding line_text words_text digits
barrier_passed = refl

pub session_staged : line_text (line.Stage 3 2 12) ≡ codes "stage 3 from 2 12" ++ 10 ∷ []
unfolding line_text words_text digits
session_staged = refl

pub session_opened : line_text (line.Open 3) ≡ codes "open 3" ++ 10 ∷ []
unfolding line_text words_text digits
session_opened = refl

pub session_lost : line_text (line.Lost 4) ≡ codes "lost 4" ++ 10 ∷ []
unfolding line_text words_text digits
session_lost = refl

pub refused_by_the_closed : line_text (line.Refused 8 refusal.Closed) ≡ codes "refused 8 closed" ++ 10 ∷ []
unfolding line_text words_text cause_text digits
refused_by_the_closed = refl

pub refused_by_the_serving : line_text (line.Refused 9 refusal.Open) ≡ codes "refused 9 open" ++ 10 ∷ []
unfolding line_text words_text cause_text digits
refused_by_the_serving = refl

pub refused_as_full : line_text (line.Refused 17 (refusal.Full 16)) ≡ codes "refused 17 full 16" ++ 10 ∷ []
unfolding line_text words_text cause_text digits
refused_as_full = refl

pub refused_in_flight : line_text (line.Refused 10 (refusal.Inflight 12 11 2)) ≡ codes "refused 10 inflight 12 11 2" ++ 10 ∷ []
unfolding line_text words_text cause_text digits
refused_in_flight = refl
