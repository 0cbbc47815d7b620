-- A worked run, computed by the checker: the client's rules over four regions, two writes and a barrier.
use Rattle.std.proofs.Common.{map, ◌≡◌, refl}
use Rattle.std.specs.Prelude.{filter, flat_map}
use Rattle.sha2.specs.Sha256.{sha256, first_words, schedule, rounds, compress, hash_after, digest_bytes}
use Rattle.salus_codec.specs.Spelling.{be1, be2, be4, be8}
use Rattle.salus_codec.specs.Reading.{bytes_at, u8_at, u16_at, u32_at, u64_at}
use Rattle.salus_codec.specs.Formats.{times}
use Rattle.client_tag.specs.Spelling.{batch_bytes, before_bytes, numbers_bytes, regions_bytes, after_bytes, header_bytes, write_bytes, writes_bytes, payload_bytes, record_bytes, blocks_bytes, base_bytes}
use Rattle.client_tag.specs.Reading.{batch_at, before_at, numbers_at, regions_at, after_at, header_at, write_at, writes_at, record_at, blocks_at, base_at}
use Rattle.salus_message.specs.Reading.{message_at, prepared_at, committed_at, asked_at, ask_at, path_at, answer_at, bases_at, records_at, gathered_at, dump_at, dumped_at}
use Rattle.merkle_region.specs.Tree.{root_of, climb}
use Rattle.volume_model.specs.Contents.{apply, fold_batches}
use Rattle.merkle_volume.specs.Top.{top_of}
use Rattle.salus_hash.specs.Hmac.{hmac}
use Rattle.client_tag.specs.Tags.{is_genuine}
use Rattle.volume_model.specs.Parts.{bytes_left, last_touch}
use Rattle.salus_model.specs.Judge.{judged_all, front_from}
use Rattle.volume_model.specs.Groups.{is_client}
use Rattle.salus_model.specs.Hearing.{since, phase_of}
use Rattle.salus_model.specs.Waiting.{left_of, all_taken, live, questions_from, questions}
use Rattle.salus_model.specs.Answering.{present_root, is_known, first_strike}
use Rattle.holding_model.specs.Fitting.{ascends_from, record_fits, blocks_written, has_shape}
use Rattle.volume_model.specs.Recovering.{header_fits, chain_ends, ends_of, picks, recovered, choice_of}
use Rattle.salus_model.specs.Opening.{replies_to, pool_of, all_staged, has_switched}
use Rattle.salus_model.specs.Due.{of_event, acks_due, due_news, past_event, sent_after, pasts_from, lines_from, lines_due}
use Rattle.salus_message.specs.Spelling.{prepared_bytes, committed_bytes, asked_bytes, ask_bytes, path_bytes, answer_bytes, bases_bytes, records_bytes, gathered_bytes, dump_bytes, dumped_bytes}
use Rattle.client_rules.specs.Tables.{struck_from, line_of, claim_of}
use Rattle.client_rules.specs.Submitting.{next_part}
use Rattle.client_rules.specs.Serving.{leaves, requested_here, answered_here, acks, committed_here, ticked_here}
use Rattle.client_rules.specs.Opening.{base_record, restarted, gathered_here, dumped_here, staged_here, switched_here}
use Rattle.client_rules.specs.Rules.{new_client, requested, received, ticked, told, client_lines, client_letters, posted_letter}
use Rattle.salus_model.proofs.BarrierRun.{volume_here, events_here, posts_here, trace_here}

-- the client's rules send exactly the messages of the client in this run
pub letters-barrier : map posted_letter (client_letters volume_here posts_here (new_client volume_here.geometry) trace_here) ≡ filter (λ m. is_client m.from) posts_here
unfolding left_of of_event lines_from pasts_from past_event sent_after due_news acks_due is_known first_strike present_root questions questions_from live all_taken phase_of since judged_all front_from last_touch bytes_left apply fold_batches top_of root_of climb message_at prepared_at committed_at asked_at ask_at path_at answer_at bases_at records_at gathered_at dump_at dumped_at batch_at before_at numbers_at regions_at after_at header_at write_at writes_at record_at blocks_at base_at batch_bytes before_bytes numbers_bytes regions_bytes after_bytes header_bytes write_bytes writes_bytes payload_bytes be1 be2 be4 be8 times bytes_at u8_at u16_at u32_at u64_at ascends_from record_fits blocks_written has_shape header_fits chain_ends ends_of picks recovered choice_of replies_to pool_of all_staged has_switched is_genuine hmac sha256 first_words schedule rounds compress hash_after digest_bytes line_of claim_of next_part leaves requested_here answered_here acks committed_here ticked_here base_record restarted gathered_here dumped_here staged_here switched_here requested received ticked told client_lines client_letters struck_from prepared_bytes committed_bytes asked_bytes ask_bytes path_bytes answer_bytes bases_bytes records_bytes gathered_bytes dump_bytes dumped_bytes record_bytes blocks_bytes base_bytes
letters-barrier = refl

-- and give its lines
pub told-barrier : flat_map (λ ls. ls) (client_lines volume_here posts_here (new_client volume_here.geometry) trace_here) ≡ lines_due volume_here events_here posts_here trace_here
unfolding left_of of_event lines_from pasts_from past_event sent_after due_news acks_due is_known first_strike present_root questions questions_from live all_taken phase_of since judged_all front_from last_touch bytes_left apply fold_batches top_of root_of climb message_at prepared_at committed_at asked_at ask_at path_at answer_at bases_at records_at gathered_at dump_at dumped_at batch_at before_at numbers_at regions_at after_at header_at write_at writes_at record_at blocks_at base_at batch_bytes before_bytes numbers_bytes regions_bytes after_bytes header_bytes write_bytes writes_bytes payload_bytes be1 be2 be4 be8 times bytes_at u8_at u16_at u32_at u64_at ascends_from record_fits blocks_written has_shape header_fits chain_ends ends_of picks recovered choice_of replies_to pool_of all_staged has_switched is_genuine hmac sha256 first_words schedule rounds compress hash_after digest_bytes line_of claim_of next_part leaves requested_here answered_here acks committed_here ticked_here base_record restarted gathered_here dumped_here staged_here switched_here requested received ticked told client_lines client_letters struck_from prepared_bytes committed_bytes asked_bytes ask_bytes path_bytes answer_bytes bases_bytes records_bytes gathered_bytes dump_bytes dumped_bytes record_bytes blocks_bytes base_bytes
told-barrier = refl
