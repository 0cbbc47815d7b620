-- A quiet worked run is complete, computed by the checker: two writes, a barrier, a reassignment that opens, and a read.
use Rattle.std.proofs.Common.{◌≡◌, ℕ, Bool, true, false, List, [], ◌∷◌, refl}
use Rattle.std.specs.Prelude.{Some, take}
use Rattle.std.specs.List.{list_all}
use Rattle.sha2.specs.Sha256.{sha256, first_words, schedule, rounds, compress, hash_after, digest_bytes}
use Rattle.salus_codec.specs.Reading.{bytes_at, u8_at, u16_at, u32_at, u64_at}
use Rattle.salus_codec.specs.Formats.{times}
use Rattle.salus_codec.specs.Spelling.{be1, be2, be4, be8}
use Rattle.client_tag.specs.Reading.{batch_at, before_at, numbers_at, regions_at, after_at, header_at, write_at, writes_at, record_at, blocks_at, base_at}
use Rattle.salus_message.specs.Reading.{message_at, prepared_at, committed_at, asked_at, ask_at, path_at, answer_at, bases_at, records_at, gathered_at, dump_at, dumped_at}
use Rattle.merkle_region.specs.Tree.{root_of, climb}
use Rattle.merkle_volume.specs.Top.{top_of}
use Rattle.volume_model.specs.Contents.{apply, fold_batches}
use Rattle.volume_model.specs.Parts.{bytes_left, last_touch}
use Rattle.salus_model.specs.Judge.{judged_all, front_from, is_among}
use Rattle.salus_model.specs.Hearing.{since, phase_of, Past, judge_of}
use Rattle.salus_model.specs.Waiting.{left_of, all_taken, live, questions_from, questions}
use Rattle.salus_model.specs.Answering.{present_root, is_known, first_strike}
use Rattle.holding_model.specs.Fitting.{has_shape}
use Rattle.salus_model.specs.Opening.{replies_to, pool_of, all_staged, has_switched}
use Rattle.salus_model.specs.Due.{acks_due, due_news, history_from}
use Rattle.salus_model.specs.Complete.{crashes, accepted, last_begun, was_acknowledged, is_done}
use Rattle.salus_model.proofs.FetchRun.{volume_here, events_here, posts_here, trace_here}

abbrev all_done : List Past → Bool
all_done history = list_all (λ r. is_done volume_here.geometry events_here history r.event r.request) (accepted history)

pub done-fetched : all_done (history_from volume_here events_here posts_here [] trace_here) ≡ true
unfolding was_acknowledged last_begun history_from left_of due_news acks_due is_known first_strike present_root questions questions_from live all_taken phase_of since judged_all front_from last_touch bytes_left apply fold_batches top_of root_of climb message_at prepared_at committed_at asked_at ask_at path_at answer_at bases_at records_at gathered_at dump_at dumped_at batch_at before_at numbers_at regions_at after_at header_at write_at writes_at record_at blocks_at base_at be1 be2 be4 be8 bytes_at u8_at u16_at u32_at u64_at times sha256 first_words schedule rounds compress hash_after digest_bytes has_shape replies_to pool_of all_staged has_switched
done-fetched = refl

pub opened-fetched : last_begun (since crashes (history_from volume_here events_here posts_here [] trace_here)) ≡ Some 3
unfolding was_acknowledged last_begun history_from left_of due_news acks_due is_known first_strike present_root questions questions_from live all_taken phase_of since judged_all front_from last_touch bytes_left apply fold_batches top_of root_of climb message_at prepared_at committed_at asked_at ask_at path_at answer_at bases_at records_at gathered_at dump_at dumped_at batch_at before_at numbers_at regions_at after_at header_at write_at writes_at record_at blocks_at base_at be1 be2 be4 be8 bytes_at u8_at u16_at u32_at u64_at times sha256 first_words schedule rounds compress hash_after digest_bytes has_shape replies_to pool_of all_staged has_switched
opened-fetched = refl

-- one step earlier the read has no block yet
pub undone-fetched : all_done (history_from volume_here events_here posts_here [] (take 35 trace_here)) ≡ false
unfolding was_acknowledged last_begun history_from left_of due_news acks_due is_known first_strike present_root questions questions_from live all_taken phase_of since judged_all front_from last_touch bytes_left apply fold_batches top_of root_of climb message_at prepared_at committed_at asked_at ask_at path_at answer_at bases_at records_at gathered_at dump_at dumped_at batch_at before_at numbers_at regions_at after_at header_at write_at writes_at record_at blocks_at base_at be1 be2 be4 be8 bytes_at u8_at u16_at u32_at u64_at times sha256 first_words schedule rounds compress hash_after digest_bytes has_shape replies_to pool_of all_staged has_switched
undone-fetched = refl
