-- A worked run, computed by the checker: a write that waits behind a lie ends with a fault, and then a read leaves.
use Rattle.std.proofs.Common.{◌≡◌, [], ◌∷◌, refl}
use Rattle.std.specs.Prelude.{Some}
use Rattle.sha2.specs.Sha256.{sha256, first_words, schedule, rounds, compress, hash_after, digest_bytes}
use Rattle.salus_types.specs.declared.strike.Strike.TheVariants as strike
use Rattle.printed_lines.specs.declared.line.Line.TheVariants as line
use Rattle.salus_codec.specs.Reading.{bytes_at, u8_at, u16_at, u32_at, u64_at}
use Rattle.salus_codec.specs.Formats.{times}
use Rattle.salus_message.specs.Reading.{message_at, asked_at, ask_at, path_at, answer_at}
use Rattle.merkle_region.specs.Tree.{root_of, climb}
use Rattle.volume_model.specs.Contents.{apply, fold_batches}
use Rattle.volume_model.specs.Parts.{bytes_left, last_touch}
use Rattle.salus_model.specs.Judge.{judged_all, front_from}
use Rattle.salus_model.specs.Hearing.{since, phase_of}
use Rattle.salus_model.specs.Waiting.{left_of, all_taken, live, questions_from, questions}
use Rattle.salus_model.specs.Answering.{present_root, is_known, first_strike}
use Rattle.salus_model.specs.Due.{of_event, acks_due, due_news, past_event, sent_after, pasts_from, lines_from, lines_due}
use Rattle.salus_model.proofs.LiedRun.{small_volume, run_events, run_posts, run_trace}

pub lines-lied_write : lines_due small_volume run_events run_posts run_trace
    ≡ line.Fault 1 0 (Some (strike.Bad (150 ∷ 162 ∷ 150 ∷ 210 ∷ 36 ∷ 242 ∷ 133 ∷ 198 ∷ 123 ∷ 238 ∷ 147 ∷ 195 ∷ 15 ∷ 138 ∷ 48 ∷ 145 ∷ 87 ∷ 240 ∷ 218 ∷ 163 ∷ 93 ∷ 197 ∷ 184 ∷ 126 ∷ 65 ∷ 11 ∷ 120 ∷ 99 ∷ 10 ∷ 9 ∷ 207 ∷ 199 ∷ []) (200 ∷ 116 ∷ 121 ∷ 205 ∷ 101 ∷ 110 ∷ 126 ∷ 58 ∷ 214 ∷ 189 ∷ 141 ∷ 180 ∷ 2 ∷ 232 ∷ 2 ∷ 125 ∷ 244 ∷ 84 ∷ 178 ∷ 176 ∷ 196 ∷ 47 ∷ 242 ∷ 158 ∷ 9 ∷ 52 ∷ 88 ∷ 190 ∷ 185 ∷ 138 ∷ 35 ∷ 212 ∷ [])) ∷ []) ∷ line.Read 2 0 (0 ∷ []) ∷ []
unfolding left_of of_event lines_from pasts_from past_event sent_after due_news acks_due is_known first_strike present_root questions questions_from live all_taken phase_of since judged_all front_from last_touch bytes_left apply fold_batches root_of climb message_at asked_at ask_at path_at answer_at times bytes_at u8_at u16_at u32_at u64_at sha256 first_words schedule rounds compress hash_after digest_bytes
lines-lied_write = refl
