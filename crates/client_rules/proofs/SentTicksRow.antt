-- Ticks in each phase, on one region with two servers.
use Rattle.std.proofs.Common.{map, ◌≡◌, List, [], ◌∷◌, false, refl}
use Rattle.std.specs.Prelude.{None, filter, flat_map}
use Rattle.sha2.specs.Sha256.{sha256, first_words, schedule, rounds, compress, hash_after, digest_bytes}
use Rattle.salus_types.specs.declared.names.Sender.TheVariants as sender
use Rattle.schedule_text.specs.declared.schedule.Volume.{Volume}
use Rattle.schedule_text.specs.declared.schedule.Event.{Event}
use Rattle.schedule_text.specs.declared.schedule.Event.TheVariants as event
use Rattle.salus_model.specs.declared.trace.Request.TheVariants as request
use Rattle.salus_model.specs.declared.trace.Handed.TheVariants as handed
use Rattle.salus_model.specs.declared.trace.TraceStep.{TraceStep}
use Rattle.salus_codec.specs.Spelling.{be1, be2, be4, be8}
use Rattle.salus_codec.specs.Reading.{bytes_at, u8_at, u16_at, u32_at, u64_at}
use Rattle.salus_codec.specs.Formats.{times}
use Rattle.client_tag.specs.Spelling.{batch_bytes, before_bytes, numbers_bytes, regions_bytes, after_bytes, header_bytes, write_bytes, writes_bytes, payload_bytes, record_bytes, blocks_bytes, base_bytes}
use Rattle.client_tag.specs.Reading.{batch_at, before_at, numbers_at, regions_at, after_at, header_at, write_at, writes_at, record_at, blocks_at, base_at}
use Rattle.salus_message.specs.Reading.{message_at, prepared_at, committed_at, asked_at, ask_at, path_at, answer_at, bases_at, records_at, gathered_at, dump_at, dumped_at}
use Rattle.merkle_region.specs.Tree.{root_of, climb}
use Rattle.volume_model.specs.Contents.{apply, fold_batches}
use Rattle.merkle_volume.specs.Top.{top_of}
use Rattle.salus_hash.specs.Hmac.{hmac}
use Rattle.client_tag.specs.Tags.{is_genuine}
use Rattle.volume_model.specs.Parts.{bytes_left, last_touch}
use Rattle.salus_model.specs.Judge.{judged_all, front_from}
use Rattle.salus_model.specs.Following.{Posted}
use Rattle.volume_model.specs.Groups.{is_client}
use Rattle.salus_model.specs.Hearing.{since, phase_of}
use Rattle.salus_model.specs.Waiting.{left_of, all_taken, live, questions_from, questions}
use Rattle.salus_model.specs.Answering.{present_root, is_known, first_strike}
use Rattle.holding_model.specs.Fitting.{ascends_from, record_fits, blocks_written, has_shape}
use Rattle.volume_model.specs.Recovering.{header_fits, chain_ends, ends_of, picks, recovered, choice_of}
use Rattle.salus_model.specs.Opening.{replies_to, pool_of, all_staged, has_switched}
use Rattle.salus_model.specs.Due.{of_event, acks_due, due_news, past_event, sent_after, pasts_from, lines_from, lines_due}
use Rattle.salus_message.specs.Spelling.{prepared_bytes, committed_bytes, asked_bytes, ask_bytes, path_bytes, answer_bytes, bases_bytes, records_bytes, gathered_bytes, dump_bytes, dumped_bytes}
use Rattle.client_rules.specs.Tables.{struck_from, line_of, claim_of}
use Rattle.client_rules.specs.Submitting.{next_part}
use Rattle.client_rules.specs.Serving.{leaves, requested_here, answered_here, acks, committed_here, ticked_here}
use Rattle.client_rules.specs.Opening.{base_record, restarted, gathered_here, dumped_here, staged_here, switched_here}
use Rattle.client_rules.specs.Rules.{new_client, requested, received, ticked, told, client_lines, client_letters, posted_letter}

abbrev volume_here : Volume
volume_here = record { geometry = record { regions_log = 0; height = 0; block = 1; replicas = 2 }; key = 107 ∷ [] }

abbrev events_here : List Event
events_here =
    event.Write (record { block = 0; bytes = 7 ∷ [] } ∷ [])
    ∷ event.Read 0
    ∷ event.Barrier
    ∷ event.Write (record { block = 0; bytes = 8 ∷ [] } ∷ [])
    ∷ event.Tick (sender.Client)
    ∷ event.Settle 6
    ∷ event.Tick (sender.Client)
    ∷ event.Settle 12
    ∷ event.Tick (sender.Client)
    ∷ event.ClientCrash
    ∷ event.Tick (sender.Client)
    ∷ event.Read 0
    ∷ event.Restart 2
    ∷ event.Settle 3
    ∷ event.Tick (sender.Client)
    ∷ event.Restart 3
    ∷ event.Settle 30
    ∷ event.Tick (sender.Client)
    ∷ event.Settle 40
    ∷ event.Tick (sender.Client)
    ∷ event.Settle 40
    ∷ event.Read 0
    ∷ event.Tick (sender.Client)
    ∷ event.Settle 100 ∷ []

abbrev posts_here : List Posted
posts_here =
    record { from = sender.Client; to = sender.Node (record { region = 0; replica = 0 }); bytes = 4 ∷ 0 ∷ 0 ∷ 0 ∷ 0 ∷ 0 ∷ 0 ∷ 0 ∷ 1 ∷ 0 ∷ 0 ∷ 0 ∷ 1 ∷ 0 ∷ 0 ∷ 0 ∷ 1 ∷ 0 ∷ 0 ∷ 0 ∷ 0 ∷ 0 ∷ 0 ∷ 0 ∷ 0 ∷ 0 ∷ 0 ∷ 0 ∷ 0 ∷ [] }
    ∷ record { from = sender.Client; to = sender.Node (record { region = 0; replica = 1 }); bytes = 4 ∷ 0 ∷ 0 ∷ 0 ∷ 0 ∷ 0 ∷ 0 ∷ 0 ∷ 1 ∷ 0 ∷ 0 ∷ 0 ∷ 1 ∷ 0 ∷ 0 ∷ 0 ∷ 1 ∷ 0 ∷ 0 ∷ 0 ∷ 0 ∷ 0 ∷ 0 ∷ 0 ∷ 0 ∷ 0 ∷ 0 ∷ 0 ∷ 0 ∷ [] }
    ∷ record { from = sender.Client; to = sender.Node (record { region = 0; replica = 0 }); bytes = 4 ∷ 0 ∷ 0 ∷ 0 ∷ 0 ∷ 0 ∷ 0 ∷ 0 ∷ 1 ∷ 0 ∷ 0 ∷ 0 ∷ 1 ∷ 0 ∷ 0 ∷ 0 ∷ 1 ∷ 0 ∷ 0 ∷ 0 ∷ 0 ∷ 0 ∷ 0 ∷ 0 ∷ 0 ∷ 0 ∷ 0 ∷ 0 ∷ 0 ∷ [] }
    ∷ record { from = sender.Client; to = sender.Node (record { region = 0; replica = 1 }); bytes = 4 ∷ 0 ∷ 0 ∷ 0 ∷ 0 ∷ 0 ∷ 0 ∷ 0 ∷ 1 ∷ 0 ∷ 0 ∷ 0 ∷ 1 ∷ 0 ∷ 0 ∷ 0 ∷ 1 ∷ 0 ∷ 0 ∷ 0 ∷ 0 ∷ 0 ∷ 0 ∷ 0 ∷ 0 ∷ 0 ∷ 0 ∷ 0 ∷ 0 ∷ [] }
    ∷ record { from = sender.Node (record { region = 0; replica = 0 }); to = sender.Client; bytes = 5 ∷ 0 ∷ 0 ∷ 0 ∷ 0 ∷ 0 ∷ 0 ∷ 0 ∷ 1 ∷ 0 ∷ 0 ∷ 0 ∷ 1 ∷ 0 ∷ 0 ∷ 0 ∷ 1 ∷ 0 ∷ 0 ∷ 0 ∷ 0 ∷ 0 ∷ 0 ∷ 0 ∷ 0 ∷ 0 ∷ 0 ∷ 0 ∷ 0 ∷ 0 ∷ 1 ∷ 0 ∷ 0 ∷ [] }
    ∷ record { from = sender.Node (record { region = 0; replica = 1 }); to = sender.Client; bytes = 5 ∷ 0 ∷ 0 ∷ 0 ∷ 0 ∷ 0 ∷ 0 ∷ 0 ∷ 1 ∷ 0 ∷ 0 ∷ 0 ∷ 1 ∷ 0 ∷ 0 ∷ 0 ∷ 1 ∷ 0 ∷ 0 ∷ 0 ∷ 0 ∷ 0 ∷ 0 ∷ 0 ∷ 0 ∷ 0 ∷ 0 ∷ 0 ∷ 0 ∷ 0 ∷ 1 ∷ 0 ∷ 0 ∷ [] }
    ∷ record { from = sender.Node (record { region = 0; replica = 0 }); to = sender.Client; bytes = 5 ∷ 0 ∷ 0 ∷ 0 ∷ 0 ∷ 0 ∷ 0 ∷ 0 ∷ 1 ∷ 0 ∷ 0 ∷ 0 ∷ 1 ∷ 0 ∷ 0 ∷ 0 ∷ 1 ∷ 0 ∷ 0 ∷ 0 ∷ 0 ∷ 0 ∷ 0 ∷ 0 ∷ 0 ∷ 0 ∷ 0 ∷ 0 ∷ 0 ∷ 0 ∷ 1 ∷ 0 ∷ 0 ∷ [] }
    ∷ record { from = sender.Node (record { region = 0; replica = 1 }); to = sender.Client; bytes = 5 ∷ 0 ∷ 0 ∷ 0 ∷ 0 ∷ 0 ∷ 0 ∷ 0 ∷ 1 ∷ 0 ∷ 0 ∷ 0 ∷ 1 ∷ 0 ∷ 0 ∷ 0 ∷ 1 ∷ 0 ∷ 0 ∷ 0 ∷ 0 ∷ 0 ∷ 0 ∷ 0 ∷ 0 ∷ 0 ∷ 0 ∷ 0 ∷ 0 ∷ 0 ∷ 1 ∷ 0 ∷ 0 ∷ [] }
    ∷ record { from = sender.Client; to = sender.Node (record { region = 0; replica = 0 }); bytes = 1 ∷ 1 ∷ 0 ∷ 0 ∷ 0 ∷ 0 ∷ 0 ∷ 0 ∷ 0 ∷ 1 ∷ 0 ∷ 0 ∷ 0 ∷ 0 ∷ 0 ∷ 0 ∷ 0 ∷ 1 ∷ 0 ∷ 0 ∷ 0 ∷ 0 ∷ 0 ∷ 0 ∷ 0 ∷ 0 ∷ 0 ∷ 0 ∷ 0 ∷ 0 ∷ 1 ∷ 0 ∷ 0 ∷ 0 ∷ 0 ∷ 0 ∷ 0 ∷ 0 ∷ 1 ∷ 1 ∷ 0 ∷ 0 ∷ 46 ∷ 205 ∷ 138 ∷ 107 ∷ 125 ∷ 40 ∷ 69 ∷ 84 ∷ 102 ∷ 89 ∷ 173 ∷ 76 ∷ 244 ∷ 67 ∷ 83 ∷ 60 ∷ 249 ∷ 33 ∷ 177 ∷ 157 ∷ 200 ∷ 31 ∷ 168 ∷ 57 ∷ 52 ∷ 232 ∷ 56 ∷ 33 ∷ 180 ∷ 223 ∷ 220 ∷ 183 ∷ 46 ∷ 205 ∷ 138 ∷ 107 ∷ 125 ∷ 40 ∷ 69 ∷ 84 ∷ 102 ∷ 89 ∷ 173 ∷ 76 ∷ 244 ∷ 67 ∷ 83 ∷ 60 ∷ 249 ∷ 33 ∷ 177 ∷ 157 ∷ 200 ∷ 31 ∷ 168 ∷ 57 ∷ 52 ∷ 232 ∷ 56 ∷ 33 ∷ 180 ∷ 223 ∷ 220 ∷ 183 ∷ 1 ∷ 0 ∷ 0 ∷ 0 ∷ 1 ∷ 7 ∷ 76 ∷ 98 ∷ 174 ∷ 64 ∷ 104 ∷ 249 ∷ 90 ∷ 49 ∷ 210 ∷ 1 ∷ 9 ∷ 184 ∷ 16 ∷ 153 ∷ 0 ∷ 240 ∷ 212 ∷ 241 ∷ 234 ∷ 99 ∷ 234 ∷ 237 ∷ 26 ∷ 211 ∷ 54 ∷ 237 ∷ 157 ∷ 127 ∷ 211 ∷ 216 ∷ 184 ∷ 232 ∷ [] }
    ∷ record { from = sender.Client; to = sender.Node (record { region = 0; replica = 1 }); bytes = 1 ∷ 1 ∷ 0 ∷ 0 ∷ 0 ∷ 0 ∷ 0 ∷ 0 ∷ 0 ∷ 1 ∷ 0 ∷ 0 ∷ 0 ∷ 0 ∷ 0 ∷ 0 ∷ 0 ∷ 1 ∷ 0 ∷ 0 ∷ 0 ∷ 0 ∷ 0 ∷ 0 ∷ 0 ∷ 0 ∷ 0 ∷ 0 ∷ 0 ∷ 0 ∷ 1 ∷ 0 ∷ 0 ∷ 0 ∷ 0 ∷ 0 ∷ 0 ∷ 0 ∷ 1 ∷ 1 ∷ 0 ∷ 0 ∷ 46 ∷ 205 ∷ 138 ∷ 107 ∷ 125 ∷ 40 ∷ 69 ∷ 84 ∷ 102 ∷ 89 ∷ 173 ∷ 76 ∷ 244 ∷ 67 ∷ 83 ∷ 60 ∷ 249 ∷ 33 ∷ 177 ∷ 157 ∷ 200 ∷ 31 ∷ 168 ∷ 57 ∷ 52 ∷ 232 ∷ 56 ∷ 33 ∷ 180 ∷ 223 ∷ 220 ∷ 183 ∷ 46 ∷ 205 ∷ 138 ∷ 107 ∷ 125 ∷ 40 ∷ 69 ∷ 84 ∷ 102 ∷ 89 ∷ 173 ∷ 76 ∷ 244 ∷ 67 ∷ 83 ∷ 60 ∷ 249 ∷ 33 ∷ 177 ∷ 157 ∷ 200 ∷ 31 ∷ 168 ∷ 57 ∷ 52 ∷ 232 ∷ 56 ∷ 33 ∷ 180 ∷ 223 ∷ 220 ∷ 183 ∷ 1 ∷ 0 ∷ 0 ∷ 0 ∷ 1 ∷ 7 ∷ 76 ∷ 98 ∷ 174 ∷ 64 ∷ 104 ∷ 249 ∷ 90 ∷ 49 ∷ 210 ∷ 1 ∷ 9 ∷ 184 ∷ 16 ∷ 153 ∷ 0 ∷ 240 ∷ 212 ∷ 241 ∷ 234 ∷ 99 ∷ 234 ∷ 237 ∷ 26 ∷ 211 ∷ 54 ∷ 237 ∷ 157 ∷ 127 ∷ 211 ∷ 216 ∷ 184 ∷ 232 ∷ [] }
    ∷ record { from = sender.Client; to = sender.Node (record { region = 0; replica = 0 }); bytes = 4 ∷ 0 ∷ 0 ∷ 0 ∷ 0 ∷ 0 ∷ 0 ∷ 0 ∷ 1 ∷ 0 ∷ 0 ∷ 0 ∷ 0 ∷ 0 ∷ 0 ∷ 0 ∷ 2 ∷ 0 ∷ 0 ∷ 0 ∷ 0 ∷ 0 ∷ 0 ∷ 0 ∷ 0 ∷ 0 ∷ 0 ∷ 0 ∷ 1 ∷ [] }
    ∷ record { from = sender.Client; to = sender.Node (record { region = 0; replica = 1 }); bytes = 4 ∷ 0 ∷ 0 ∷ 0 ∷ 0 ∷ 0 ∷ 0 ∷ 0 ∷ 1 ∷ 0 ∷ 0 ∷ 0 ∷ 0 ∷ 0 ∷ 0 ∷ 0 ∷ 2 ∷ 0 ∷ 0 ∷ 0 ∷ 0 ∷ 0 ∷ 0 ∷ 0 ∷ 0 ∷ 0 ∷ 0 ∷ 0 ∷ 1 ∷ [] }
    ∷ record { from = sender.Client; to = sender.Node (record { region = 0; replica = 0 }); bytes = 4 ∷ 0 ∷ 0 ∷ 0 ∷ 0 ∷ 0 ∷ 0 ∷ 0 ∷ 1 ∷ 0 ∷ 0 ∷ 0 ∷ 1 ∷ 0 ∷ 0 ∷ 0 ∷ 4 ∷ 0 ∷ 0 ∷ 0 ∷ 0 ∷ 0 ∷ 0 ∷ 0 ∷ 0 ∷ 0 ∷ 0 ∷ 0 ∷ 1 ∷ [] }
    ∷ record { from = sender.Client; to = sender.Node (record { region = 0; replica = 1 }); bytes = 4 ∷ 0 ∷ 0 ∷ 0 ∷ 0 ∷ 0 ∷ 0 ∷ 0 ∷ 1 ∷ 0 ∷ 0 ∷ 0 ∷ 1 ∷ 0 ∷ 0 ∷ 0 ∷ 4 ∷ 0 ∷ 0 ∷ 0 ∷ 0 ∷ 0 ∷ 0 ∷ 0 ∷ 0 ∷ 0 ∷ 0 ∷ 0 ∷ 1 ∷ [] }
    ∷ record { from = sender.Client; to = sender.Node (record { region = 0; replica = 0 }); bytes = 1 ∷ 1 ∷ 0 ∷ 0 ∷ 0 ∷ 0 ∷ 0 ∷ 0 ∷ 0 ∷ 1 ∷ 0 ∷ 0 ∷ 0 ∷ 0 ∷ 0 ∷ 0 ∷ 0 ∷ 1 ∷ 0 ∷ 0 ∷ 0 ∷ 0 ∷ 0 ∷ 0 ∷ 0 ∷ 0 ∷ 0 ∷ 0 ∷ 0 ∷ 0 ∷ 1 ∷ 0 ∷ 0 ∷ 0 ∷ 0 ∷ 0 ∷ 0 ∷ 0 ∷ 1 ∷ 1 ∷ 0 ∷ 0 ∷ 46 ∷ 205 ∷ 138 ∷ 107 ∷ 125 ∷ 40 ∷ 69 ∷ 84 ∷ 102 ∷ 89 ∷ 173 ∷ 76 ∷ 244 ∷ 67 ∷ 83 ∷ 60 ∷ 249 ∷ 33 ∷ 177 ∷ 157 ∷ 200 ∷ 31 ∷ 168 ∷ 57 ∷ 52 ∷ 232 ∷ 56 ∷ 33 ∷ 180 ∷ 223 ∷ 220 ∷ 183 ∷ 46 ∷ 205 ∷ 138 ∷ 107 ∷ 125 ∷ 40 ∷ 69 ∷ 84 ∷ 102 ∷ 89 ∷ 173 ∷ 76 ∷ 244 ∷ 67 ∷ 83 ∷ 60 ∷ 249 ∷ 33 ∷ 177 ∷ 157 ∷ 200 ∷ 31 ∷ 168 ∷ 57 ∷ 52 ∷ 232 ∷ 56 ∷ 33 ∷ 180 ∷ 223 ∷ 220 ∷ 183 ∷ 1 ∷ 0 ∷ 0 ∷ 0 ∷ 1 ∷ 7 ∷ 76 ∷ 98 ∷ 174 ∷ 64 ∷ 104 ∷ 249 ∷ 90 ∷ 49 ∷ 210 ∷ 1 ∷ 9 ∷ 184 ∷ 16 ∷ 153 ∷ 0 ∷ 240 ∷ 212 ∷ 241 ∷ 234 ∷ 99 ∷ 234 ∷ 237 ∷ 26 ∷ 211 ∷ 54 ∷ 237 ∷ 157 ∷ 127 ∷ 211 ∷ 216 ∷ 184 ∷ 232 ∷ [] }
    ∷ record { from = sender.Client; to = sender.Node (record { region = 0; replica = 1 }); bytes = 1 ∷ 1 ∷ 0 ∷ 0 ∷ 0 ∷ 0 ∷ 0 ∷ 0 ∷ 0 ∷ 1 ∷ 0 ∷ 0 ∷ 0 ∷ 0 ∷ 0 ∷ 0 ∷ 0 ∷ 1 ∷ 0 ∷ 0 ∷ 0 ∷ 0 ∷ 0 ∷ 0 ∷ 0 ∷ 0 ∷ 0 ∷ 0 ∷ 0 ∷ 0 ∷ 1 ∷ 0 ∷ 0 ∷ 0 ∷ 0 ∷ 0 ∷ 0 ∷ 0 ∷ 1 ∷ 1 ∷ 0 ∷ 0 ∷ 46 ∷ 205 ∷ 138 ∷ 107 ∷ 125 ∷ 40 ∷ 69 ∷ 84 ∷ 102 ∷ 89 ∷ 173 ∷ 76 ∷ 244 ∷ 67 ∷ 83 ∷ 60 ∷ 249 ∷ 33 ∷ 177 ∷ 157 ∷ 200 ∷ 31 ∷ 168 ∷ 57 ∷ 52 ∷ 232 ∷ 56 ∷ 33 ∷ 180 ∷ 223 ∷ 220 ∷ 183 ∷ 46 ∷ 205 ∷ 138 ∷ 107 ∷ 125 ∷ 40 ∷ 69 ∷ 84 ∷ 102 ∷ 89 ∷ 173 ∷ 76 ∷ 244 ∷ 67 ∷ 83 ∷ 60 ∷ 249 ∷ 33 ∷ 177 ∷ 157 ∷ 200 ∷ 31 ∷ 168 ∷ 57 ∷ 52 ∷ 232 ∷ 56 ∷ 33 ∷ 180 ∷ 223 ∷ 220 ∷ 183 ∷ 1 ∷ 0 ∷ 0 ∷ 0 ∷ 1 ∷ 7 ∷ 76 ∷ 98 ∷ 174 ∷ 64 ∷ 104 ∷ 249 ∷ 90 ∷ 49 ∷ 210 ∷ 1 ∷ 9 ∷ 184 ∷ 16 ∷ 153 ∷ 0 ∷ 240 ∷ 212 ∷ 241 ∷ 234 ∷ 99 ∷ 234 ∷ 237 ∷ 26 ∷ 211 ∷ 54 ∷ 237 ∷ 157 ∷ 127 ∷ 211 ∷ 216 ∷ 184 ∷ 232 ∷ [] }
    ∷ record { from = sender.Client; to = sender.Node (record { region = 0; replica = 0 }); bytes = 4 ∷ 0 ∷ 0 ∷ 0 ∷ 0 ∷ 0 ∷ 0 ∷ 0 ∷ 1 ∷ 0 ∷ 0 ∷ 0 ∷ 1 ∷ 0 ∷ 0 ∷ 0 ∷ 4 ∷ 0 ∷ 0 ∷ 0 ∷ 0 ∷ 0 ∷ 0 ∷ 0 ∷ 0 ∷ 0 ∷ 0 ∷ 0 ∷ 1 ∷ [] }
    ∷ record { from = sender.Client; to = sender.Node (record { region = 0; replica = 1 }); bytes = 4 ∷ 0 ∷ 0 ∷ 0 ∷ 0 ∷ 0 ∷ 0 ∷ 0 ∷ 1 ∷ 0 ∷ 0 ∷ 0 ∷ 1 ∷ 0 ∷ 0 ∷ 0 ∷ 4 ∷ 0 ∷ 0 ∷ 0 ∷ 0 ∷ 0 ∷ 0 ∷ 0 ∷ 0 ∷ 0 ∷ 0 ∷ 0 ∷ 1 ∷ [] }
    ∷ record { from = sender.Client; to = sender.Node (record { region = 0; replica = 0 }); bytes = 4 ∷ 0 ∷ 0 ∷ 0 ∷ 0 ∷ 0 ∷ 0 ∷ 0 ∷ 1 ∷ 0 ∷ 0 ∷ 0 ∷ 0 ∷ 0 ∷ 0 ∷ 0 ∷ 2 ∷ 0 ∷ 0 ∷ 0 ∷ 0 ∷ 0 ∷ 0 ∷ 0 ∷ 0 ∷ 0 ∷ 0 ∷ 0 ∷ 1 ∷ [] }
    ∷ record { from = sender.Client; to = sender.Node (record { region = 0; replica = 1 }); bytes = 4 ∷ 0 ∷ 0 ∷ 0 ∷ 0 ∷ 0 ∷ 0 ∷ 0 ∷ 1 ∷ 0 ∷ 0 ∷ 0 ∷ 0 ∷ 0 ∷ 0 ∷ 0 ∷ 2 ∷ 0 ∷ 0 ∷ 0 ∷ 0 ∷ 0 ∷ 0 ∷ 0 ∷ 0 ∷ 0 ∷ 0 ∷ 0 ∷ 1 ∷ [] }
    ∷ record { from = sender.Node (record { region = 0; replica = 0 }); to = sender.Node (record { region = 0; replica = 0 }); bytes = 2 ∷ 0 ∷ 0 ∷ 0 ∷ 0 ∷ 0 ∷ 0 ∷ 0 ∷ 1 ∷ 0 ∷ 0 ∷ 0 ∷ 0 ∷ 0 ∷ 0 ∷ 0 ∷ 1 ∷ 0 ∷ 0 ∷ 46 ∷ 205 ∷ 138 ∷ 107 ∷ 125 ∷ 40 ∷ 69 ∷ 84 ∷ 102 ∷ 89 ∷ 173 ∷ 76 ∷ 244 ∷ 67 ∷ 83 ∷ 60 ∷ 249 ∷ 33 ∷ 177 ∷ 157 ∷ 200 ∷ 31 ∷ 168 ∷ 57 ∷ 52 ∷ 232 ∷ 56 ∷ 33 ∷ 180 ∷ 223 ∷ 220 ∷ 183 ∷ [] }
    ∷ record { from = sender.Node (record { region = 0; replica = 0 }); to = sender.Node (record { region = 0; replica = 1 }); bytes = 2 ∷ 0 ∷ 0 ∷ 0 ∷ 0 ∷ 0 ∷ 0 ∷ 0 ∷ 1 ∷ 0 ∷ 0 ∷ 0 ∷ 0 ∷ 0 ∷ 0 ∷ 0 ∷ 1 ∷ 0 ∷ 0 ∷ 46 ∷ 205 ∷ 138 ∷ 107 ∷ 125 ∷ 40 ∷ 69 ∷ 84 ∷ 102 ∷ 89 ∷ 173 ∷ 76 ∷ 244 ∷ 67 ∷ 83 ∷ 60 ∷ 249 ∷ 33 ∷ 177 ∷ 157 ∷ 200 ∷ 31 ∷ 168 ∷ 57 ∷ 52 ∷ 232 ∷ 56 ∷ 33 ∷ 180 ∷ 223 ∷ 220 ∷ 183 ∷ [] }
    ∷ record { from = sender.Node (record { region = 0; replica = 1 }); to = sender.Node (record { region = 0; replica = 0 }); bytes = 2 ∷ 0 ∷ 0 ∷ 0 ∷ 0 ∷ 0 ∷ 0 ∷ 0 ∷ 1 ∷ 0 ∷ 0 ∷ 0 ∷ 0 ∷ 0 ∷ 0 ∷ 0 ∷ 1 ∷ 0 ∷ 0 ∷ 46 ∷ 205 ∷ 138 ∷ 107 ∷ 125 ∷ 40 ∷ 69 ∷ 84 ∷ 102 ∷ 89 ∷ 173 ∷ 76 ∷ 244 ∷ 67 ∷ 83 ∷ 60 ∷ 249 ∷ 33 ∷ 177 ∷ 157 ∷ 200 ∷ 31 ∷ 168 ∷ 57 ∷ 52 ∷ 232 ∷ 56 ∷ 33 ∷ 180 ∷ 223 ∷ 220 ∷ 183 ∷ [] }
    ∷ record { from = sender.Node (record { region = 0; replica = 1 }); to = sender.Node (record { region = 0; replica = 1 }); bytes = 2 ∷ 0 ∷ 0 ∷ 0 ∷ 0 ∷ 0 ∷ 0 ∷ 0 ∷ 1 ∷ 0 ∷ 0 ∷ 0 ∷ 0 ∷ 0 ∷ 0 ∷ 0 ∷ 1 ∷ 0 ∷ 0 ∷ 46 ∷ 205 ∷ 138 ∷ 107 ∷ 125 ∷ 40 ∷ 69 ∷ 84 ∷ 102 ∷ 89 ∷ 173 ∷ 76 ∷ 244 ∷ 67 ∷ 83 ∷ 60 ∷ 249 ∷ 33 ∷ 177 ∷ 157 ∷ 200 ∷ 31 ∷ 168 ∷ 57 ∷ 52 ∷ 232 ∷ 56 ∷ 33 ∷ 180 ∷ 223 ∷ 220 ∷ 183 ∷ [] }
    ∷ record { from = sender.Node (record { region = 0; replica = 0 }); to = sender.Client; bytes = 5 ∷ 0 ∷ 0 ∷ 0 ∷ 0 ∷ 0 ∷ 0 ∷ 0 ∷ 1 ∷ 0 ∷ 0 ∷ 0 ∷ 0 ∷ 0 ∷ 0 ∷ 0 ∷ 2 ∷ 0 ∷ 0 ∷ 0 ∷ 0 ∷ 0 ∷ 0 ∷ 0 ∷ 0 ∷ 0 ∷ 0 ∷ 0 ∷ 1 ∷ 0 ∷ 1 ∷ 7 ∷ 0 ∷ [] }
    ∷ record { from = sender.Node (record { region = 0; replica = 1 }); to = sender.Client; bytes = 5 ∷ 0 ∷ 0 ∷ 0 ∷ 0 ∷ 0 ∷ 0 ∷ 0 ∷ 1 ∷ 0 ∷ 0 ∷ 0 ∷ 0 ∷ 0 ∷ 0 ∷ 0 ∷ 2 ∷ 0 ∷ 0 ∷ 0 ∷ 0 ∷ 0 ∷ 0 ∷ 0 ∷ 0 ∷ 0 ∷ 0 ∷ 0 ∷ 1 ∷ 0 ∷ 1 ∷ 7 ∷ 0 ∷ [] }
    ∷ record { from = sender.Node (record { region = 0; replica = 0 }); to = sender.Client; bytes = 5 ∷ 0 ∷ 0 ∷ 0 ∷ 0 ∷ 0 ∷ 0 ∷ 0 ∷ 1 ∷ 0 ∷ 0 ∷ 0 ∷ 1 ∷ 0 ∷ 0 ∷ 0 ∷ 4 ∷ 0 ∷ 0 ∷ 0 ∷ 0 ∷ 0 ∷ 0 ∷ 0 ∷ 0 ∷ 0 ∷ 0 ∷ 0 ∷ 1 ∷ 0 ∷ 1 ∷ 7 ∷ 0 ∷ [] }
    ∷ record { from = sender.Node (record { region = 0; replica = 1 }); to = sender.Client; bytes = 5 ∷ 0 ∷ 0 ∷ 0 ∷ 0 ∷ 0 ∷ 0 ∷ 0 ∷ 1 ∷ 0 ∷ 0 ∷ 0 ∷ 1 ∷ 0 ∷ 0 ∷ 0 ∷ 4 ∷ 0 ∷ 0 ∷ 0 ∷ 0 ∷ 0 ∷ 0 ∷ 0 ∷ 0 ∷ 0 ∷ 0 ∷ 0 ∷ 1 ∷ 0 ∷ 1 ∷ 7 ∷ 0 ∷ [] }
    ∷ record { from = sender.Node (record { region = 0; replica = 0 }); to = sender.Node (record { region = 0; replica = 0 }); bytes = 2 ∷ 0 ∷ 0 ∷ 0 ∷ 0 ∷ 0 ∷ 0 ∷ 0 ∷ 1 ∷ 0 ∷ 0 ∷ 0 ∷ 0 ∷ 0 ∷ 0 ∷ 0 ∷ 1 ∷ 0 ∷ 0 ∷ 46 ∷ 205 ∷ 138 ∷ 107 ∷ 125 ∷ 40 ∷ 69 ∷ 84 ∷ 102 ∷ 89 ∷ 173 ∷ 76 ∷ 244 ∷ 67 ∷ 83 ∷ 60 ∷ 249 ∷ 33 ∷ 177 ∷ 157 ∷ 200 ∷ 31 ∷ 168 ∷ 57 ∷ 52 ∷ 232 ∷ 56 ∷ 33 ∷ 180 ∷ 223 ∷ 220 ∷ 183 ∷ [] }
    ∷ record { from = sender.Node (record { region = 0; replica = 0 }); to = sender.Node (record { region = 0; replica = 1 }); bytes = 2 ∷ 0 ∷ 0 ∷ 0 ∷ 0 ∷ 0 ∷ 0 ∷ 0 ∷ 1 ∷ 0 ∷ 0 ∷ 0 ∷ 0 ∷ 0 ∷ 0 ∷ 0 ∷ 1 ∷ 0 ∷ 0 ∷ 46 ∷ 205 ∷ 138 ∷ 107 ∷ 125 ∷ 40 ∷ 69 ∷ 84 ∷ 102 ∷ 89 ∷ 173 ∷ 76 ∷ 244 ∷ 67 ∷ 83 ∷ 60 ∷ 249 ∷ 33 ∷ 177 ∷ 157 ∷ 200 ∷ 31 ∷ 168 ∷ 57 ∷ 52 ∷ 232 ∷ 56 ∷ 33 ∷ 180 ∷ 223 ∷ 220 ∷ 183 ∷ [] }
    ∷ record { from = sender.Node (record { region = 0; replica = 1 }); to = sender.Node (record { region = 0; replica = 0 }); bytes = 2 ∷ 0 ∷ 0 ∷ 0 ∷ 0 ∷ 0 ∷ 0 ∷ 0 ∷ 1 ∷ 0 ∷ 0 ∷ 0 ∷ 0 ∷ 0 ∷ 0 ∷ 0 ∷ 1 ∷ 0 ∷ 0 ∷ 46 ∷ 205 ∷ 138 ∷ 107 ∷ 125 ∷ 40 ∷ 69 ∷ 84 ∷ 102 ∷ 89 ∷ 173 ∷ 76 ∷ 244 ∷ 67 ∷ 83 ∷ 60 ∷ 249 ∷ 33 ∷ 177 ∷ 157 ∷ 200 ∷ 31 ∷ 168 ∷ 57 ∷ 52 ∷ 232 ∷ 56 ∷ 33 ∷ 180 ∷ 223 ∷ 220 ∷ 183 ∷ [] }
    ∷ record { from = sender.Node (record { region = 0; replica = 1 }); to = sender.Node (record { region = 0; replica = 1 }); bytes = 2 ∷ 0 ∷ 0 ∷ 0 ∷ 0 ∷ 0 ∷ 0 ∷ 0 ∷ 1 ∷ 0 ∷ 0 ∷ 0 ∷ 0 ∷ 0 ∷ 0 ∷ 0 ∷ 1 ∷ 0 ∷ 0 ∷ 46 ∷ 205 ∷ 138 ∷ 107 ∷ 125 ∷ 40 ∷ 69 ∷ 84 ∷ 102 ∷ 89 ∷ 173 ∷ 76 ∷ 244 ∷ 67 ∷ 83 ∷ 60 ∷ 249 ∷ 33 ∷ 177 ∷ 157 ∷ 200 ∷ 31 ∷ 168 ∷ 57 ∷ 52 ∷ 232 ∷ 56 ∷ 33 ∷ 180 ∷ 223 ∷ 220 ∷ 183 ∷ [] }
    ∷ record { from = sender.Node (record { region = 0; replica = 0 }); to = sender.Client; bytes = 5 ∷ 0 ∷ 0 ∷ 0 ∷ 0 ∷ 0 ∷ 0 ∷ 0 ∷ 1 ∷ 0 ∷ 0 ∷ 0 ∷ 1 ∷ 0 ∷ 0 ∷ 0 ∷ 4 ∷ 0 ∷ 0 ∷ 0 ∷ 0 ∷ 0 ∷ 0 ∷ 0 ∷ 0 ∷ 0 ∷ 0 ∷ 0 ∷ 1 ∷ 0 ∷ 1 ∷ 7 ∷ 0 ∷ [] }
    ∷ record { from = sender.Node (record { region = 0; replica = 1 }); to = sender.Client; bytes = 5 ∷ 0 ∷ 0 ∷ 0 ∷ 0 ∷ 0 ∷ 0 ∷ 0 ∷ 1 ∷ 0 ∷ 0 ∷ 0 ∷ 1 ∷ 0 ∷ 0 ∷ 0 ∷ 4 ∷ 0 ∷ 0 ∷ 0 ∷ 0 ∷ 0 ∷ 0 ∷ 0 ∷ 0 ∷ 0 ∷ 0 ∷ 0 ∷ 1 ∷ 0 ∷ 1 ∷ 7 ∷ 0 ∷ [] }
    ∷ record { from = sender.Client; to = sender.Node (record { region = 0; replica = 0 }); bytes = 1 ∷ 1 ∷ 0 ∷ 0 ∷ 0 ∷ 0 ∷ 0 ∷ 0 ∷ 0 ∷ 1 ∷ 0 ∷ 0 ∷ 0 ∷ 0 ∷ 0 ∷ 0 ∷ 0 ∷ 1 ∷ 0 ∷ 0 ∷ 0 ∷ 0 ∷ 0 ∷ 0 ∷ 0 ∷ 0 ∷ 0 ∷ 0 ∷ 0 ∷ 0 ∷ 1 ∷ 0 ∷ 0 ∷ 0 ∷ 0 ∷ 0 ∷ 0 ∷ 0 ∷ 1 ∷ 1 ∷ 0 ∷ 0 ∷ 46 ∷ 205 ∷ 138 ∷ 107 ∷ 125 ∷ 40 ∷ 69 ∷ 84 ∷ 102 ∷ 89 ∷ 173 ∷ 76 ∷ 244 ∷ 67 ∷ 83 ∷ 60 ∷ 249 ∷ 33 ∷ 177 ∷ 157 ∷ 200 ∷ 31 ∷ 168 ∷ 57 ∷ 52 ∷ 232 ∷ 56 ∷ 33 ∷ 180 ∷ 223 ∷ 220 ∷ 183 ∷ 46 ∷ 205 ∷ 138 ∷ 107 ∷ 125 ∷ 40 ∷ 69 ∷ 84 ∷ 102 ∷ 89 ∷ 173 ∷ 76 ∷ 244 ∷ 67 ∷ 83 ∷ 60 ∷ 249 ∷ 33 ∷ 177 ∷ 157 ∷ 200 ∷ 31 ∷ 168 ∷ 57 ∷ 52 ∷ 232 ∷ 56 ∷ 33 ∷ 180 ∷ 223 ∷ 220 ∷ 183 ∷ 1 ∷ 0 ∷ 0 ∷ 0 ∷ 1 ∷ 7 ∷ 76 ∷ 98 ∷ 174 ∷ 64 ∷ 104 ∷ 249 ∷ 90 ∷ 49 ∷ 210 ∷ 1 ∷ 9 ∷ 184 ∷ 16 ∷ 153 ∷ 0 ∷ 240 ∷ 212 ∷ 241 ∷ 234 ∷ 99 ∷ 234 ∷ 237 ∷ 26 ∷ 211 ∷ 54 ∷ 237 ∷ 157 ∷ 127 ∷ 211 ∷ 216 ∷ 184 ∷ 232 ∷ [] }
    ∷ record { from = sender.Client; to = sender.Node (record { region = 0; replica = 1 }); bytes = 1 ∷ 1 ∷ 0 ∷ 0 ∷ 0 ∷ 0 ∷ 0 ∷ 0 ∷ 0 ∷ 1 ∷ 0 ∷ 0 ∷ 0 ∷ 0 ∷ 0 ∷ 0 ∷ 0 ∷ 1 ∷ 0 ∷ 0 ∷ 0 ∷ 0 ∷ 0 ∷ 0 ∷ 0 ∷ 0 ∷ 0 ∷ 0 ∷ 0 ∷ 0 ∷ 1 ∷ 0 ∷ 0 ∷ 0 ∷ 0 ∷ 0 ∷ 0 ∷ 0 ∷ 1 ∷ 1 ∷ 0 ∷ 0 ∷ 46 ∷ 205 ∷ 138 ∷ 107 ∷ 125 ∷ 40 ∷ 69 ∷ 84 ∷ 102 ∷ 89 ∷ 173 ∷ 76 ∷ 244 ∷ 67 ∷ 83 ∷ 60 ∷ 249 ∷ 33 ∷ 177 ∷ 157 ∷ 200 ∷ 31 ∷ 168 ∷ 57 ∷ 52 ∷ 232 ∷ 56 ∷ 33 ∷ 180 ∷ 223 ∷ 220 ∷ 183 ∷ 46 ∷ 205 ∷ 138 ∷ 107 ∷ 125 ∷ 40 ∷ 69 ∷ 84 ∷ 102 ∷ 89 ∷ 173 ∷ 76 ∷ 244 ∷ 67 ∷ 83 ∷ 60 ∷ 249 ∷ 33 ∷ 177 ∷ 157 ∷ 200 ∷ 31 ∷ 168 ∷ 57 ∷ 52 ∷ 232 ∷ 56 ∷ 33 ∷ 180 ∷ 223 ∷ 220 ∷ 183 ∷ 1 ∷ 0 ∷ 0 ∷ 0 ∷ 1 ∷ 7 ∷ 76 ∷ 98 ∷ 174 ∷ 64 ∷ 104 ∷ 249 ∷ 90 ∷ 49 ∷ 210 ∷ 1 ∷ 9 ∷ 184 ∷ 16 ∷ 153 ∷ 0 ∷ 240 ∷ 212 ∷ 241 ∷ 234 ∷ 99 ∷ 234 ∷ 237 ∷ 26 ∷ 211 ∷ 54 ∷ 237 ∷ 157 ∷ 127 ∷ 211 ∷ 216 ∷ 184 ∷ 232 ∷ [] }
    ∷ record { from = sender.Client; to = sender.Node (record { region = 0; replica = 0 }); bytes = 4 ∷ 0 ∷ 0 ∷ 0 ∷ 0 ∷ 0 ∷ 0 ∷ 0 ∷ 1 ∷ 0 ∷ 0 ∷ 0 ∷ 1 ∷ 0 ∷ 0 ∷ 0 ∷ 4 ∷ 0 ∷ 0 ∷ 0 ∷ 0 ∷ 0 ∷ 0 ∷ 0 ∷ 0 ∷ 0 ∷ 0 ∷ 0 ∷ 1 ∷ [] }
    ∷ record { from = sender.Client; to = sender.Node (record { region = 0; replica = 1 }); bytes = 4 ∷ 0 ∷ 0 ∷ 0 ∷ 0 ∷ 0 ∷ 0 ∷ 0 ∷ 1 ∷ 0 ∷ 0 ∷ 0 ∷ 1 ∷ 0 ∷ 0 ∷ 0 ∷ 4 ∷ 0 ∷ 0 ∷ 0 ∷ 0 ∷ 0 ∷ 0 ∷ 0 ∷ 0 ∷ 0 ∷ 0 ∷ 0 ∷ 1 ∷ [] }
    ∷ record { from = sender.Client; to = sender.Node (record { region = 0; replica = 0 }); bytes = 4 ∷ 0 ∷ 0 ∷ 0 ∷ 0 ∷ 0 ∷ 0 ∷ 0 ∷ 1 ∷ 0 ∷ 0 ∷ 0 ∷ 0 ∷ 0 ∷ 0 ∷ 0 ∷ 2 ∷ 0 ∷ 0 ∷ 0 ∷ 0 ∷ 0 ∷ 0 ∷ 0 ∷ 0 ∷ 0 ∷ 0 ∷ 0 ∷ 1 ∷ [] }
    ∷ record { from = sender.Client; to = sender.Node (record { region = 0; replica = 1 }); bytes = 4 ∷ 0 ∷ 0 ∷ 0 ∷ 0 ∷ 0 ∷ 0 ∷ 0 ∷ 1 ∷ 0 ∷ 0 ∷ 0 ∷ 0 ∷ 0 ∷ 0 ∷ 0 ∷ 2 ∷ 0 ∷ 0 ∷ 0 ∷ 0 ∷ 0 ∷ 0 ∷ 0 ∷ 0 ∷ 0 ∷ 0 ∷ 0 ∷ 1 ∷ [] }
    ∷ record { from = sender.Client; to = sender.Node (record { region = 0; replica = 0 }); bytes = 6 ∷ 0 ∷ 0 ∷ 0 ∷ 0 ∷ 0 ∷ 0 ∷ 0 ∷ 2 ∷ [] }
    ∷ record { from = sender.Client; to = sender.Node (record { region = 0; replica = 1 }); bytes = 6 ∷ 0 ∷ 0 ∷ 0 ∷ 0 ∷ 0 ∷ 0 ∷ 0 ∷ 2 ∷ [] }
    ∷ record { from = sender.Node (record { region = 0; replica = 0 }); to = sender.Client; bytes = 5 ∷ 0 ∷ 0 ∷ 0 ∷ 0 ∷ 0 ∷ 0 ∷ 0 ∷ 1 ∷ 0 ∷ 0 ∷ 0 ∷ 0 ∷ 0 ∷ 0 ∷ 0 ∷ 2 ∷ 0 ∷ 0 ∷ 0 ∷ 0 ∷ 0 ∷ 0 ∷ 0 ∷ 0 ∷ 0 ∷ 0 ∷ 0 ∷ 1 ∷ 0 ∷ 1 ∷ 7 ∷ 0 ∷ [] }
    ∷ record { from = sender.Node (record { region = 0; replica = 1 }); to = sender.Client; bytes = 5 ∷ 0 ∷ 0 ∷ 0 ∷ 0 ∷ 0 ∷ 0 ∷ 0 ∷ 1 ∷ 0 ∷ 0 ∷ 0 ∷ 0 ∷ 0 ∷ 0 ∷ 0 ∷ 2 ∷ 0 ∷ 0 ∷ 0 ∷ 0 ∷ 0 ∷ 0 ∷ 0 ∷ 0 ∷ 0 ∷ 0 ∷ 0 ∷ 1 ∷ 0 ∷ 1 ∷ 7 ∷ 0 ∷ [] }
    ∷ record { from = sender.Client; to = sender.Node (record { region = 0; replica = 0 }); bytes = 6 ∷ 0 ∷ 0 ∷ 0 ∷ 0 ∷ 0 ∷ 0 ∷ 0 ∷ 2 ∷ [] }
    ∷ record { from = sender.Client; to = sender.Node (record { region = 0; replica = 1 }); bytes = 6 ∷ 0 ∷ 0 ∷ 0 ∷ 0 ∷ 0 ∷ 0 ∷ 0 ∷ 2 ∷ [] }
    ∷ record { from = sender.Client; to = sender.Node (record { region = 0; replica = 0 }); bytes = 6 ∷ 0 ∷ 0 ∷ 0 ∷ 0 ∷ 0 ∷ 0 ∷ 0 ∷ 3 ∷ [] }
    ∷ record { from = sender.Client; to = sender.Node (record { region = 0; replica = 1 }); bytes = 6 ∷ 0 ∷ 0 ∷ 0 ∷ 0 ∷ 0 ∷ 0 ∷ 0 ∷ 3 ∷ [] }
    ∷ record { from = sender.Node (record { region = 0; replica = 0 }); to = sender.Client; bytes = 3 ∷ 0 ∷ 0 ∷ 0 ∷ 0 ∷ 0 ∷ 0 ∷ 0 ∷ 1 ∷ 0 ∷ 0 ∷ 0 ∷ 0 ∷ 0 ∷ 0 ∷ 0 ∷ 1 ∷ [] }
    ∷ record { from = sender.Node (record { region = 0; replica = 0 }); to = sender.Node (record { region = 0; replica = 0 }); bytes = 3 ∷ 0 ∷ 0 ∷ 0 ∷ 0 ∷ 0 ∷ 0 ∷ 0 ∷ 1 ∷ 0 ∷ 0 ∷ 0 ∷ 0 ∷ 0 ∷ 0 ∷ 0 ∷ 1 ∷ [] }
    ∷ record { from = sender.Node (record { region = 0; replica = 0 }); to = sender.Node (record { region = 0; replica = 1 }); bytes = 3 ∷ 0 ∷ 0 ∷ 0 ∷ 0 ∷ 0 ∷ 0 ∷ 0 ∷ 1 ∷ 0 ∷ 0 ∷ 0 ∷ 0 ∷ 0 ∷ 0 ∷ 0 ∷ 1 ∷ [] }
    ∷ record { from = sender.Node (record { region = 0; replica = 1 }); to = sender.Client; bytes = 3 ∷ 0 ∷ 0 ∷ 0 ∷ 0 ∷ 0 ∷ 0 ∷ 0 ∷ 1 ∷ 0 ∷ 0 ∷ 0 ∷ 0 ∷ 0 ∷ 0 ∷ 0 ∷ 1 ∷ [] }
    ∷ record { from = sender.Node (record { region = 0; replica = 1 }); to = sender.Node (record { region = 0; replica = 0 }); bytes = 3 ∷ 0 ∷ 0 ∷ 0 ∷ 0 ∷ 0 ∷ 0 ∷ 0 ∷ 1 ∷ 0 ∷ 0 ∷ 0 ∷ 0 ∷ 0 ∷ 0 ∷ 0 ∷ 1 ∷ [] }
    ∷ record { from = sender.Node (record { region = 0; replica = 1 }); to = sender.Node (record { region = 0; replica = 1 }); bytes = 3 ∷ 0 ∷ 0 ∷ 0 ∷ 0 ∷ 0 ∷ 0 ∷ 0 ∷ 1 ∷ 0 ∷ 0 ∷ 0 ∷ 0 ∷ 0 ∷ 0 ∷ 0 ∷ 1 ∷ [] }
    ∷ record { from = sender.Node (record { region = 0; replica = 0 }); to = sender.Node (record { region = 0; replica = 0 }); bytes = 2 ∷ 0 ∷ 0 ∷ 0 ∷ 0 ∷ 0 ∷ 0 ∷ 0 ∷ 1 ∷ 0 ∷ 0 ∷ 0 ∷ 0 ∷ 0 ∷ 0 ∷ 0 ∷ 1 ∷ 0 ∷ 0 ∷ 46 ∷ 205 ∷ 138 ∷ 107 ∷ 125 ∷ 40 ∷ 69 ∷ 84 ∷ 102 ∷ 89 ∷ 173 ∷ 76 ∷ 244 ∷ 67 ∷ 83 ∷ 60 ∷ 249 ∷ 33 ∷ 177 ∷ 157 ∷ 200 ∷ 31 ∷ 168 ∷ 57 ∷ 52 ∷ 232 ∷ 56 ∷ 33 ∷ 180 ∷ 223 ∷ 220 ∷ 183 ∷ [] }
    ∷ record { from = sender.Node (record { region = 0; replica = 0 }); to = sender.Node (record { region = 0; replica = 1 }); bytes = 2 ∷ 0 ∷ 0 ∷ 0 ∷ 0 ∷ 0 ∷ 0 ∷ 0 ∷ 1 ∷ 0 ∷ 0 ∷ 0 ∷ 0 ∷ 0 ∷ 0 ∷ 0 ∷ 1 ∷ 0 ∷ 0 ∷ 46 ∷ 205 ∷ 138 ∷ 107 ∷ 125 ∷ 40 ∷ 69 ∷ 84 ∷ 102 ∷ 89 ∷ 173 ∷ 76 ∷ 244 ∷ 67 ∷ 83 ∷ 60 ∷ 249 ∷ 33 ∷ 177 ∷ 157 ∷ 200 ∷ 31 ∷ 168 ∷ 57 ∷ 52 ∷ 232 ∷ 56 ∷ 33 ∷ 180 ∷ 223 ∷ 220 ∷ 183 ∷ [] }
    ∷ record { from = sender.Node (record { region = 0; replica = 1 }); to = sender.Node (record { region = 0; replica = 0 }); bytes = 2 ∷ 0 ∷ 0 ∷ 0 ∷ 0 ∷ 0 ∷ 0 ∷ 0 ∷ 1 ∷ 0 ∷ 0 ∷ 0 ∷ 0 ∷ 0 ∷ 0 ∷ 0 ∷ 1 ∷ 0 ∷ 0 ∷ 46 ∷ 205 ∷ 138 ∷ 107 ∷ 125 ∷ 40 ∷ 69 ∷ 84 ∷ 102 ∷ 89 ∷ 173 ∷ 76 ∷ 244 ∷ 67 ∷ 83 ∷ 60 ∷ 249 ∷ 33 ∷ 177 ∷ 157 ∷ 200 ∷ 31 ∷ 168 ∷ 57 ∷ 52 ∷ 232 ∷ 56 ∷ 33 ∷ 180 ∷ 223 ∷ 220 ∷ 183 ∷ [] }
    ∷ record { from = sender.Node (record { region = 0; replica = 1 }); to = sender.Node (record { region = 0; replica = 1 }); bytes = 2 ∷ 0 ∷ 0 ∷ 0 ∷ 0 ∷ 0 ∷ 0 ∷ 0 ∷ 1 ∷ 0 ∷ 0 ∷ 0 ∷ 0 ∷ 0 ∷ 0 ∷ 0 ∷ 1 ∷ 0 ∷ 0 ∷ 46 ∷ 205 ∷ 138 ∷ 107 ∷ 125 ∷ 40 ∷ 69 ∷ 84 ∷ 102 ∷ 89 ∷ 173 ∷ 76 ∷ 244 ∷ 67 ∷ 83 ∷ 60 ∷ 249 ∷ 33 ∷ 177 ∷ 157 ∷ 200 ∷ 31 ∷ 168 ∷ 57 ∷ 52 ∷ 232 ∷ 56 ∷ 33 ∷ 180 ∷ 223 ∷ 220 ∷ 183 ∷ [] }
    ∷ record { from = sender.Node (record { region = 0; replica = 0 }); to = sender.Client; bytes = 5 ∷ 0 ∷ 0 ∷ 0 ∷ 0 ∷ 0 ∷ 0 ∷ 0 ∷ 1 ∷ 0 ∷ 0 ∷ 0 ∷ 1 ∷ 0 ∷ 0 ∷ 0 ∷ 4 ∷ 0 ∷ 0 ∷ 0 ∷ 0 ∷ 0 ∷ 0 ∷ 0 ∷ 0 ∷ 0 ∷ 0 ∷ 0 ∷ 1 ∷ 0 ∷ 1 ∷ 7 ∷ 0 ∷ [] }
    ∷ record { from = sender.Node (record { region = 0; replica = 1 }); to = sender.Client; bytes = 5 ∷ 0 ∷ 0 ∷ 0 ∷ 0 ∷ 0 ∷ 0 ∷ 0 ∷ 1 ∷ 0 ∷ 0 ∷ 0 ∷ 1 ∷ 0 ∷ 0 ∷ 0 ∷ 4 ∷ 0 ∷ 0 ∷ 0 ∷ 0 ∷ 0 ∷ 0 ∷ 0 ∷ 0 ∷ 0 ∷ 0 ∷ 0 ∷ 1 ∷ 0 ∷ 1 ∷ 7 ∷ 0 ∷ [] }
    ∷ record { from = sender.Node (record { region = 0; replica = 0 }); to = sender.Client; bytes = 5 ∷ 0 ∷ 0 ∷ 0 ∷ 0 ∷ 0 ∷ 0 ∷ 0 ∷ 1 ∷ 0 ∷ 0 ∷ 0 ∷ 0 ∷ 0 ∷ 0 ∷ 0 ∷ 2 ∷ 0 ∷ 0 ∷ 0 ∷ 0 ∷ 0 ∷ 0 ∷ 0 ∷ 0 ∷ 0 ∷ 0 ∷ 0 ∷ 1 ∷ 0 ∷ 1 ∷ 7 ∷ 0 ∷ [] }
    ∷ record { from = sender.Node (record { region = 0; replica = 1 }); to = sender.Client; bytes = 5 ∷ 0 ∷ 0 ∷ 0 ∷ 0 ∷ 0 ∷ 0 ∷ 0 ∷ 1 ∷ 0 ∷ 0 ∷ 0 ∷ 0 ∷ 0 ∷ 0 ∷ 0 ∷ 2 ∷ 0 ∷ 0 ∷ 0 ∷ 0 ∷ 0 ∷ 0 ∷ 0 ∷ 0 ∷ 0 ∷ 0 ∷ 0 ∷ 1 ∷ 0 ∷ 1 ∷ 7 ∷ 0 ∷ [] }
    ∷ record { from = sender.Node (record { region = 0; replica = 0 }); to = sender.Client; bytes = 7 ∷ 0 ∷ 0 ∷ 0 ∷ 0 ∷ 0 ∷ 0 ∷ 0 ∷ 2 ∷ 0 ∷ 0 ∷ 0 ∷ 0 ∷ 0 ∷ 0 ∷ 0 ∷ 1 ∷ 0 ∷ 0 ∷ 0 ∷ 1 ∷ 1 ∷ 0 ∷ 0 ∷ 0 ∷ 0 ∷ 0 ∷ 0 ∷ 0 ∷ 1 ∷ 0 ∷ 0 ∷ 0 ∷ 0 ∷ 0 ∷ 0 ∷ 0 ∷ 0 ∷ 0 ∷ 0 ∷ 0 ∷ 0 ∷ 0 ∷ 0 ∷ 0 ∷ 0 ∷ 0 ∷ 0 ∷ 0 ∷ 0 ∷ 1 ∷ 0 ∷ 0 ∷ 0 ∷ 0 ∷ 0 ∷ 0 ∷ 0 ∷ 0 ∷ 1 ∷ 0 ∷ 0 ∷ 150 ∷ 162 ∷ 150 ∷ 210 ∷ 36 ∷ 242 ∷ 133 ∷ 198 ∷ 123 ∷ 238 ∷ 147 ∷ 195 ∷ 15 ∷ 138 ∷ 48 ∷ 145 ∷ 87 ∷ 240 ∷ 218 ∷ 163 ∷ 93 ∷ 197 ∷ 184 ∷ 126 ∷ 65 ∷ 11 ∷ 120 ∷ 99 ∷ 10 ∷ 9 ∷ 207 ∷ 199 ∷ 150 ∷ 162 ∷ 150 ∷ 210 ∷ 36 ∷ 242 ∷ 133 ∷ 198 ∷ 123 ∷ 238 ∷ 147 ∷ 195 ∷ 15 ∷ 138 ∷ 48 ∷ 145 ∷ 87 ∷ 240 ∷ 218 ∷ 163 ∷ 93 ∷ 197 ∷ 184 ∷ 126 ∷ 65 ∷ 11 ∷ 120 ∷ 99 ∷ 10 ∷ 9 ∷ 207 ∷ 199 ∷ 0 ∷ 140 ∷ 119 ∷ 171 ∷ 248 ∷ 71 ∷ 181 ∷ 155 ∷ 64 ∷ 158 ∷ 94 ∷ 69 ∷ 184 ∷ 124 ∷ 206 ∷ 178 ∷ 133 ∷ 80 ∷ 56 ∷ 10 ∷ 98 ∷ 244 ∷ 239 ∷ 213 ∷ 92 ∷ 75 ∷ 226 ∷ 86 ∷ 26 ∷ 19 ∷ 146 ∷ 55 ∷ 48 ∷ 0 ∷ 0 ∷ 0 ∷ 1 ∷ 0 ∷ 1 ∷ 0 ∷ 0 ∷ 0 ∷ 0 ∷ 1 ∷ 1 ∷ 0 ∷ 0 ∷ 0 ∷ 0 ∷ 0 ∷ 0 ∷ 0 ∷ 1 ∷ 0 ∷ 0 ∷ 0 ∷ 0 ∷ 0 ∷ 0 ∷ 0 ∷ 1 ∷ 0 ∷ 0 ∷ 0 ∷ 0 ∷ 0 ∷ 0 ∷ 0 ∷ 0 ∷ 0 ∷ 0 ∷ 0 ∷ 0 ∷ 1 ∷ 0 ∷ 0 ∷ 0 ∷ 0 ∷ 0 ∷ 0 ∷ 0 ∷ 1 ∷ 1 ∷ 0 ∷ 0 ∷ 46 ∷ 205 ∷ 138 ∷ 107 ∷ 125 ∷ 40 ∷ 69 ∷ 84 ∷ 102 ∷ 89 ∷ 173 ∷ 76 ∷ 244 ∷ 67 ∷ 83 ∷ 60 ∷ 249 ∷ 33 ∷ 177 ∷ 157 ∷ 200 ∷ 31 ∷ 168 ∷ 57 ∷ 52 ∷ 232 ∷ 56 ∷ 33 ∷ 180 ∷ 223 ∷ 220 ∷ 183 ∷ 46 ∷ 205 ∷ 138 ∷ 107 ∷ 125 ∷ 40 ∷ 69 ∷ 84 ∷ 102 ∷ 89 ∷ 173 ∷ 76 ∷ 244 ∷ 67 ∷ 83 ∷ 60 ∷ 249 ∷ 33 ∷ 177 ∷ 157 ∷ 200 ∷ 31 ∷ 168 ∷ 57 ∷ 52 ∷ 232 ∷ 56 ∷ 33 ∷ 180 ∷ 223 ∷ 220 ∷ 183 ∷ 1 ∷ 0 ∷ 0 ∷ 0 ∷ 1 ∷ 7 ∷ 76 ∷ 98 ∷ 174 ∷ 64 ∷ 104 ∷ 249 ∷ 90 ∷ 49 ∷ 210 ∷ 1 ∷ 9 ∷ 184 ∷ 16 ∷ 153 ∷ 0 ∷ 240 ∷ 212 ∷ 241 ∷ 234 ∷ 99 ∷ 234 ∷ 237 ∷ 26 ∷ 211 ∷ 54 ∷ 237 ∷ 157 ∷ 127 ∷ 211 ∷ 216 ∷ 184 ∷ 232 ∷ [] }
    ∷ record { from = sender.Node (record { region = 0; replica = 1 }); to = sender.Client; bytes = 7 ∷ 0 ∷ 0 ∷ 0 ∷ 0 ∷ 0 ∷ 0 ∷ 0 ∷ 2 ∷ 0 ∷ 0 ∷ 0 ∷ 0 ∷ 0 ∷ 0 ∷ 0 ∷ 1 ∷ 0 ∷ 0 ∷ 0 ∷ 1 ∷ 1 ∷ 0 ∷ 0 ∷ 0 ∷ 0 ∷ 0 ∷ 0 ∷ 0 ∷ 1 ∷ 0 ∷ 0 ∷ 0 ∷ 0 ∷ 0 ∷ 0 ∷ 0 ∷ 0 ∷ 0 ∷ 0 ∷ 0 ∷ 0 ∷ 0 ∷ 0 ∷ 0 ∷ 0 ∷ 0 ∷ 0 ∷ 0 ∷ 0 ∷ 1 ∷ 0 ∷ 0 ∷ 0 ∷ 0 ∷ 0 ∷ 0 ∷ 0 ∷ 0 ∷ 1 ∷ 0 ∷ 0 ∷ 150 ∷ 162 ∷ 150 ∷ 210 ∷ 36 ∷ 242 ∷ 133 ∷ 198 ∷ 123 ∷ 238 ∷ 147 ∷ 195 ∷ 15 ∷ 138 ∷ 48 ∷ 145 ∷ 87 ∷ 240 ∷ 218 ∷ 163 ∷ 93 ∷ 197 ∷ 184 ∷ 126 ∷ 65 ∷ 11 ∷ 120 ∷ 99 ∷ 10 ∷ 9 ∷ 207 ∷ 199 ∷ 150 ∷ 162 ∷ 150 ∷ 210 ∷ 36 ∷ 242 ∷ 133 ∷ 198 ∷ 123 ∷ 238 ∷ 147 ∷ 195 ∷ 15 ∷ 138 ∷ 48 ∷ 145 ∷ 87 ∷ 240 ∷ 218 ∷ 163 ∷ 93 ∷ 197 ∷ 184 ∷ 126 ∷ 65 ∷ 11 ∷ 120 ∷ 99 ∷ 10 ∷ 9 ∷ 207 ∷ 199 ∷ 0 ∷ 140 ∷ 119 ∷ 171 ∷ 248 ∷ 71 ∷ 181 ∷ 155 ∷ 64 ∷ 158 ∷ 94 ∷ 69 ∷ 184 ∷ 124 ∷ 206 ∷ 178 ∷ 133 ∷ 80 ∷ 56 ∷ 10 ∷ 98 ∷ 244 ∷ 239 ∷ 213 ∷ 92 ∷ 75 ∷ 226 ∷ 86 ∷ 26 ∷ 19 ∷ 146 ∷ 55 ∷ 48 ∷ 0 ∷ 0 ∷ 0 ∷ 1 ∷ 0 ∷ 1 ∷ 0 ∷ 0 ∷ 0 ∷ 0 ∷ 1 ∷ 1 ∷ 0 ∷ 0 ∷ 0 ∷ 0 ∷ 0 ∷ 0 ∷ 0 ∷ 1 ∷ 0 ∷ 0 ∷ 0 ∷ 0 ∷ 0 ∷ 0 ∷ 0 ∷ 1 ∷ 0 ∷ 0 ∷ 0 ∷ 0 ∷ 0 ∷ 0 ∷ 0 ∷ 0 ∷ 0 ∷ 0 ∷ 0 ∷ 0 ∷ 1 ∷ 0 ∷ 0 ∷ 0 ∷ 0 ∷ 0 ∷ 0 ∷ 0 ∷ 1 ∷ 1 ∷ 0 ∷ 0 ∷ 46 ∷ 205 ∷ 138 ∷ 107 ∷ 125 ∷ 40 ∷ 69 ∷ 84 ∷ 102 ∷ 89 ∷ 173 ∷ 76 ∷ 244 ∷ 67 ∷ 83 ∷ 60 ∷ 249 ∷ 33 ∷ 177 ∷ 157 ∷ 200 ∷ 31 ∷ 168 ∷ 57 ∷ 52 ∷ 232 ∷ 56 ∷ 33 ∷ 180 ∷ 223 ∷ 220 ∷ 183 ∷ 46 ∷ 205 ∷ 138 ∷ 107 ∷ 125 ∷ 40 ∷ 69 ∷ 84 ∷ 102 ∷ 89 ∷ 173 ∷ 76 ∷ 244 ∷ 67 ∷ 83 ∷ 60 ∷ 249 ∷ 33 ∷ 177 ∷ 157 ∷ 200 ∷ 31 ∷ 168 ∷ 57 ∷ 52 ∷ 232 ∷ 56 ∷ 33 ∷ 180 ∷ 223 ∷ 220 ∷ 183 ∷ 1 ∷ 0 ∷ 0 ∷ 0 ∷ 1 ∷ 7 ∷ 76 ∷ 98 ∷ 174 ∷ 64 ∷ 104 ∷ 249 ∷ 90 ∷ 49 ∷ 210 ∷ 1 ∷ 9 ∷ 184 ∷ 16 ∷ 153 ∷ 0 ∷ 240 ∷ 212 ∷ 241 ∷ 234 ∷ 99 ∷ 234 ∷ 237 ∷ 26 ∷ 211 ∷ 54 ∷ 237 ∷ 157 ∷ 127 ∷ 211 ∷ 216 ∷ 184 ∷ 232 ∷ [] }
    ∷ record { from = sender.Node (record { region = 0; replica = 0 }); to = sender.Client; bytes = 7 ∷ 0 ∷ 0 ∷ 0 ∷ 0 ∷ 0 ∷ 0 ∷ 0 ∷ 2 ∷ 0 ∷ 0 ∷ 0 ∷ 0 ∷ 0 ∷ 0 ∷ 0 ∷ 1 ∷ 0 ∷ 0 ∷ 0 ∷ 1 ∷ 1 ∷ 0 ∷ 0 ∷ 0 ∷ 0 ∷ 0 ∷ 0 ∷ 0 ∷ 1 ∷ 0 ∷ 0 ∷ 0 ∷ 0 ∷ 0 ∷ 0 ∷ 0 ∷ 0 ∷ 0 ∷ 0 ∷ 0 ∷ 0 ∷ 0 ∷ 0 ∷ 0 ∷ 0 ∷ 0 ∷ 0 ∷ 0 ∷ 0 ∷ 1 ∷ 0 ∷ 0 ∷ 0 ∷ 0 ∷ 0 ∷ 0 ∷ 0 ∷ 0 ∷ 1 ∷ 0 ∷ 0 ∷ 150 ∷ 162 ∷ 150 ∷ 210 ∷ 36 ∷ 242 ∷ 133 ∷ 198 ∷ 123 ∷ 238 ∷ 147 ∷ 195 ∷ 15 ∷ 138 ∷ 48 ∷ 145 ∷ 87 ∷ 240 ∷ 218 ∷ 163 ∷ 93 ∷ 197 ∷ 184 ∷ 126 ∷ 65 ∷ 11 ∷ 120 ∷ 99 ∷ 10 ∷ 9 ∷ 207 ∷ 199 ∷ 150 ∷ 162 ∷ 150 ∷ 210 ∷ 36 ∷ 242 ∷ 133 ∷ 198 ∷ 123 ∷ 238 ∷ 147 ∷ 195 ∷ 15 ∷ 138 ∷ 48 ∷ 145 ∷ 87 ∷ 240 ∷ 218 ∷ 163 ∷ 93 ∷ 197 ∷ 184 ∷ 126 ∷ 65 ∷ 11 ∷ 120 ∷ 99 ∷ 10 ∷ 9 ∷ 207 ∷ 199 ∷ 0 ∷ 140 ∷ 119 ∷ 171 ∷ 248 ∷ 71 ∷ 181 ∷ 155 ∷ 64 ∷ 158 ∷ 94 ∷ 69 ∷ 184 ∷ 124 ∷ 206 ∷ 178 ∷ 133 ∷ 80 ∷ 56 ∷ 10 ∷ 98 ∷ 244 ∷ 239 ∷ 213 ∷ 92 ∷ 75 ∷ 226 ∷ 86 ∷ 26 ∷ 19 ∷ 146 ∷ 55 ∷ 48 ∷ 0 ∷ 0 ∷ 0 ∷ 1 ∷ 0 ∷ 1 ∷ 0 ∷ 0 ∷ 0 ∷ 0 ∷ 1 ∷ 1 ∷ 0 ∷ 0 ∷ 0 ∷ 0 ∷ 0 ∷ 0 ∷ 0 ∷ 1 ∷ 0 ∷ 0 ∷ 0 ∷ 0 ∷ 0 ∷ 0 ∷ 0 ∷ 1 ∷ 0 ∷ 0 ∷ 0 ∷ 0 ∷ 0 ∷ 0 ∷ 0 ∷ 0 ∷ 0 ∷ 0 ∷ 0 ∷ 0 ∷ 1 ∷ 0 ∷ 0 ∷ 0 ∷ 0 ∷ 0 ∷ 0 ∷ 0 ∷ 1 ∷ 1 ∷ 0 ∷ 0 ∷ 46 ∷ 205 ∷ 138 ∷ 107 ∷ 125 ∷ 40 ∷ 69 ∷ 84 ∷ 102 ∷ 89 ∷ 173 ∷ 76 ∷ 244 ∷ 67 ∷ 83 ∷ 60 ∷ 249 ∷ 33 ∷ 177 ∷ 157 ∷ 200 ∷ 31 ∷ 168 ∷ 57 ∷ 52 ∷ 232 ∷ 56 ∷ 33 ∷ 180 ∷ 223 ∷ 220 ∷ 183 ∷ 46 ∷ 205 ∷ 138 ∷ 107 ∷ 125 ∷ 40 ∷ 69 ∷ 84 ∷ 102 ∷ 89 ∷ 173 ∷ 76 ∷ 244 ∷ 67 ∷ 83 ∷ 60 ∷ 249 ∷ 33 ∷ 177 ∷ 157 ∷ 200 ∷ 31 ∷ 168 ∷ 57 ∷ 52 ∷ 232 ∷ 56 ∷ 33 ∷ 180 ∷ 223 ∷ 220 ∷ 183 ∷ 1 ∷ 0 ∷ 0 ∷ 0 ∷ 1 ∷ 7 ∷ 76 ∷ 98 ∷ 174 ∷ 64 ∷ 104 ∷ 249 ∷ 90 ∷ 49 ∷ 210 ∷ 1 ∷ 9 ∷ 184 ∷ 16 ∷ 153 ∷ 0 ∷ 240 ∷ 212 ∷ 241 ∷ 234 ∷ 99 ∷ 234 ∷ 237 ∷ 26 ∷ 211 ∷ 54 ∷ 237 ∷ 157 ∷ 127 ∷ 211 ∷ 216 ∷ 184 ∷ 232 ∷ [] }
    ∷ record { from = sender.Node (record { region = 0; replica = 1 }); to = sender.Client; bytes = 7 ∷ 0 ∷ 0 ∷ 0 ∷ 0 ∷ 0 ∷ 0 ∷ 0 ∷ 2 ∷ 0 ∷ 0 ∷ 0 ∷ 0 ∷ 0 ∷ 0 ∷ 0 ∷ 1 ∷ 0 ∷ 0 ∷ 0 ∷ 1 ∷ 1 ∷ 0 ∷ 0 ∷ 0 ∷ 0 ∷ 0 ∷ 0 ∷ 0 ∷ 1 ∷ 0 ∷ 0 ∷ 0 ∷ 0 ∷ 0 ∷ 0 ∷ 0 ∷ 0 ∷ 0 ∷ 0 ∷ 0 ∷ 0 ∷ 0 ∷ 0 ∷ 0 ∷ 0 ∷ 0 ∷ 0 ∷ 0 ∷ 0 ∷ 1 ∷ 0 ∷ 0 ∷ 0 ∷ 0 ∷ 0 ∷ 0 ∷ 0 ∷ 0 ∷ 1 ∷ 0 ∷ 0 ∷ 150 ∷ 162 ∷ 150 ∷ 210 ∷ 36 ∷ 242 ∷ 133 ∷ 198 ∷ 123 ∷ 238 ∷ 147 ∷ 195 ∷ 15 ∷ 138 ∷ 48 ∷ 145 ∷ 87 ∷ 240 ∷ 218 ∷ 163 ∷ 93 ∷ 197 ∷ 184 ∷ 126 ∷ 65 ∷ 11 ∷ 120 ∷ 99 ∷ 10 ∷ 9 ∷ 207 ∷ 199 ∷ 150 ∷ 162 ∷ 150 ∷ 210 ∷ 36 ∷ 242 ∷ 133 ∷ 198 ∷ 123 ∷ 238 ∷ 147 ∷ 195 ∷ 15 ∷ 138 ∷ 48 ∷ 145 ∷ 87 ∷ 240 ∷ 218 ∷ 163 ∷ 93 ∷ 197 ∷ 184 ∷ 126 ∷ 65 ∷ 11 ∷ 120 ∷ 99 ∷ 10 ∷ 9 ∷ 207 ∷ 199 ∷ 0 ∷ 140 ∷ 119 ∷ 171 ∷ 248 ∷ 71 ∷ 181 ∷ 155 ∷ 64 ∷ 158 ∷ 94 ∷ 69 ∷ 184 ∷ 124 ∷ 206 ∷ 178 ∷ 133 ∷ 80 ∷ 56 ∷ 10 ∷ 98 ∷ 244 ∷ 239 ∷ 213 ∷ 92 ∷ 75 ∷ 226 ∷ 86 ∷ 26 ∷ 19 ∷ 146 ∷ 55 ∷ 48 ∷ 0 ∷ 0 ∷ 0 ∷ 1 ∷ 0 ∷ 1 ∷ 0 ∷ 0 ∷ 0 ∷ 0 ∷ 1 ∷ 1 ∷ 0 ∷ 0 ∷ 0 ∷ 0 ∷ 0 ∷ 0 ∷ 0 ∷ 1 ∷ 0 ∷ 0 ∷ 0 ∷ 0 ∷ 0 ∷ 0 ∷ 0 ∷ 1 ∷ 0 ∷ 0 ∷ 0 ∷ 0 ∷ 0 ∷ 0 ∷ 0 ∷ 0 ∷ 0 ∷ 0 ∷ 0 ∷ 0 ∷ 1 ∷ 0 ∷ 0 ∷ 0 ∷ 0 ∷ 0 ∷ 0 ∷ 0 ∷ 1 ∷ 1 ∷ 0 ∷ 0 ∷ 46 ∷ 205 ∷ 138 ∷ 107 ∷ 125 ∷ 40 ∷ 69 ∷ 84 ∷ 102 ∷ 89 ∷ 173 ∷ 76 ∷ 244 ∷ 67 ∷ 83 ∷ 60 ∷ 249 ∷ 33 ∷ 177 ∷ 157 ∷ 200 ∷ 31 ∷ 168 ∷ 57 ∷ 52 ∷ 232 ∷ 56 ∷ 33 ∷ 180 ∷ 223 ∷ 220 ∷ 183 ∷ 46 ∷ 205 ∷ 138 ∷ 107 ∷ 125 ∷ 40 ∷ 69 ∷ 84 ∷ 102 ∷ 89 ∷ 173 ∷ 76 ∷ 244 ∷ 67 ∷ 83 ∷ 60 ∷ 249 ∷ 33 ∷ 177 ∷ 157 ∷ 200 ∷ 31 ∷ 168 ∷ 57 ∷ 52 ∷ 232 ∷ 56 ∷ 33 ∷ 180 ∷ 223 ∷ 220 ∷ 183 ∷ 1 ∷ 0 ∷ 0 ∷ 0 ∷ 1 ∷ 7 ∷ 76 ∷ 98 ∷ 174 ∷ 64 ∷ 104 ∷ 249 ∷ 90 ∷ 49 ∷ 210 ∷ 1 ∷ 9 ∷ 184 ∷ 16 ∷ 153 ∷ 0 ∷ 240 ∷ 212 ∷ 241 ∷ 234 ∷ 99 ∷ 234 ∷ 237 ∷ 26 ∷ 211 ∷ 54 ∷ 237 ∷ 157 ∷ 127 ∷ 211 ∷ 216 ∷ 184 ∷ 232 ∷ [] }
    ∷ record { from = sender.Node (record { region = 0; replica = 0 }); to = sender.Client; bytes = 7 ∷ 0 ∷ 0 ∷ 0 ∷ 0 ∷ 0 ∷ 0 ∷ 0 ∷ 3 ∷ 0 ∷ 0 ∷ 0 ∷ 0 ∷ 0 ∷ 0 ∷ 0 ∷ 1 ∷ 0 ∷ 0 ∷ 0 ∷ 1 ∷ 1 ∷ 0 ∷ 0 ∷ 0 ∷ 0 ∷ 0 ∷ 0 ∷ 0 ∷ 1 ∷ 0 ∷ 0 ∷ 0 ∷ 0 ∷ 0 ∷ 0 ∷ 0 ∷ 0 ∷ 0 ∷ 0 ∷ 0 ∷ 0 ∷ 0 ∷ 0 ∷ 0 ∷ 0 ∷ 0 ∷ 0 ∷ 0 ∷ 0 ∷ 1 ∷ 0 ∷ 0 ∷ 0 ∷ 0 ∷ 0 ∷ 0 ∷ 0 ∷ 0 ∷ 1 ∷ 0 ∷ 0 ∷ 150 ∷ 162 ∷ 150 ∷ 210 ∷ 36 ∷ 242 ∷ 133 ∷ 198 ∷ 123 ∷ 238 ∷ 147 ∷ 195 ∷ 15 ∷ 138 ∷ 48 ∷ 145 ∷ 87 ∷ 240 ∷ 218 ∷ 163 ∷ 93 ∷ 197 ∷ 184 ∷ 126 ∷ 65 ∷ 11 ∷ 120 ∷ 99 ∷ 10 ∷ 9 ∷ 207 ∷ 199 ∷ 150 ∷ 162 ∷ 150 ∷ 210 ∷ 36 ∷ 242 ∷ 133 ∷ 198 ∷ 123 ∷ 238 ∷ 147 ∷ 195 ∷ 15 ∷ 138 ∷ 48 ∷ 145 ∷ 87 ∷ 240 ∷ 218 ∷ 163 ∷ 93 ∷ 197 ∷ 184 ∷ 126 ∷ 65 ∷ 11 ∷ 120 ∷ 99 ∷ 10 ∷ 9 ∷ 207 ∷ 199 ∷ 0 ∷ 140 ∷ 119 ∷ 171 ∷ 248 ∷ 71 ∷ 181 ∷ 155 ∷ 64 ∷ 158 ∷ 94 ∷ 69 ∷ 184 ∷ 124 ∷ 206 ∷ 178 ∷ 133 ∷ 80 ∷ 56 ∷ 10 ∷ 98 ∷ 244 ∷ 239 ∷ 213 ∷ 92 ∷ 75 ∷ 226 ∷ 86 ∷ 26 ∷ 19 ∷ 146 ∷ 55 ∷ 48 ∷ 0 ∷ 0 ∷ 0 ∷ 1 ∷ 0 ∷ 1 ∷ 0 ∷ 0 ∷ 0 ∷ 0 ∷ 1 ∷ 1 ∷ 0 ∷ 0 ∷ 0 ∷ 0 ∷ 0 ∷ 0 ∷ 0 ∷ 1 ∷ 0 ∷ 0 ∷ 0 ∷ 0 ∷ 0 ∷ 0 ∷ 0 ∷ 1 ∷ 0 ∷ 0 ∷ 0 ∷ 0 ∷ 0 ∷ 0 ∷ 0 ∷ 0 ∷ 0 ∷ 0 ∷ 0 ∷ 0 ∷ 1 ∷ 0 ∷ 0 ∷ 0 ∷ 0 ∷ 0 ∷ 0 ∷ 0 ∷ 1 ∷ 1 ∷ 0 ∷ 0 ∷ 46 ∷ 205 ∷ 138 ∷ 107 ∷ 125 ∷ 40 ∷ 69 ∷ 84 ∷ 102 ∷ 89 ∷ 173 ∷ 76 ∷ 244 ∷ 67 ∷ 83 ∷ 60 ∷ 249 ∷ 33 ∷ 177 ∷ 157 ∷ 200 ∷ 31 ∷ 168 ∷ 57 ∷ 52 ∷ 232 ∷ 56 ∷ 33 ∷ 180 ∷ 223 ∷ 220 ∷ 183 ∷ 46 ∷ 205 ∷ 138 ∷ 107 ∷ 125 ∷ 40 ∷ 69 ∷ 84 ∷ 102 ∷ 89 ∷ 173 ∷ 76 ∷ 244 ∷ 67 ∷ 83 ∷ 60 ∷ 249 ∷ 33 ∷ 177 ∷ 157 ∷ 200 ∷ 31 ∷ 168 ∷ 57 ∷ 52 ∷ 232 ∷ 56 ∷ 33 ∷ 180 ∷ 223 ∷ 220 ∷ 183 ∷ 1 ∷ 0 ∷ 0 ∷ 0 ∷ 1 ∷ 7 ∷ 76 ∷ 98 ∷ 174 ∷ 64 ∷ 104 ∷ 249 ∷ 90 ∷ 49 ∷ 210 ∷ 1 ∷ 9 ∷ 184 ∷ 16 ∷ 153 ∷ 0 ∷ 240 ∷ 212 ∷ 241 ∷ 234 ∷ 99 ∷ 234 ∷ 237 ∷ 26 ∷ 211 ∷ 54 ∷ 237 ∷ 157 ∷ 127 ∷ 211 ∷ 216 ∷ 184 ∷ 232 ∷ [] }
    ∷ record { from = sender.Node (record { region = 0; replica = 1 }); to = sender.Client; bytes = 7 ∷ 0 ∷ 0 ∷ 0 ∷ 0 ∷ 0 ∷ 0 ∷ 0 ∷ 3 ∷ 0 ∷ 0 ∷ 0 ∷ 0 ∷ 0 ∷ 0 ∷ 0 ∷ 1 ∷ 0 ∷ 0 ∷ 0 ∷ 1 ∷ 1 ∷ 0 ∷ 0 ∷ 0 ∷ 0 ∷ 0 ∷ 0 ∷ 0 ∷ 1 ∷ 0 ∷ 0 ∷ 0 ∷ 0 ∷ 0 ∷ 0 ∷ 0 ∷ 0 ∷ 0 ∷ 0 ∷ 0 ∷ 0 ∷ 0 ∷ 0 ∷ 0 ∷ 0 ∷ 0 ∷ 0 ∷ 0 ∷ 0 ∷ 1 ∷ 0 ∷ 0 ∷ 0 ∷ 0 ∷ 0 ∷ 0 ∷ 0 ∷ 0 ∷ 1 ∷ 0 ∷ 0 ∷ 150 ∷ 162 ∷ 150 ∷ 210 ∷ 36 ∷ 242 ∷ 133 ∷ 198 ∷ 123 ∷ 238 ∷ 147 ∷ 195 ∷ 15 ∷ 138 ∷ 48 ∷ 145 ∷ 87 ∷ 240 ∷ 218 ∷ 163 ∷ 93 ∷ 197 ∷ 184 ∷ 126 ∷ 65 ∷ 11 ∷ 120 ∷ 99 ∷ 10 ∷ 9 ∷ 207 ∷ 199 ∷ 150 ∷ 162 ∷ 150 ∷ 210 ∷ 36 ∷ 242 ∷ 133 ∷ 198 ∷ 123 ∷ 238 ∷ 147 ∷ 195 ∷ 15 ∷ 138 ∷ 48 ∷ 145 ∷ 87 ∷ 240 ∷ 218 ∷ 163 ∷ 93 ∷ 197 ∷ 184 ∷ 126 ∷ 65 ∷ 11 ∷ 120 ∷ 99 ∷ 10 ∷ 9 ∷ 207 ∷ 199 ∷ 0 ∷ 140 ∷ 119 ∷ 171 ∷ 248 ∷ 71 ∷ 181 ∷ 155 ∷ 64 ∷ 158 ∷ 94 ∷ 69 ∷ 184 ∷ 124 ∷ 206 ∷ 178 ∷ 133 ∷ 80 ∷ 56 ∷ 10 ∷ 98 ∷ 244 ∷ 239 ∷ 213 ∷ 92 ∷ 75 ∷ 226 ∷ 86 ∷ 26 ∷ 19 ∷ 146 ∷ 55 ∷ 48 ∷ 0 ∷ 0 ∷ 0 ∷ 1 ∷ 0 ∷ 1 ∷ 0 ∷ 0 ∷ 0 ∷ 0 ∷ 1 ∷ 1 ∷ 0 ∷ 0 ∷ 0 ∷ 0 ∷ 0 ∷ 0 ∷ 0 ∷ 1 ∷ 0 ∷ 0 ∷ 0 ∷ 0 ∷ 0 ∷ 0 ∷ 0 ∷ 1 ∷ 0 ∷ 0 ∷ 0 ∷ 0 ∷ 0 ∷ 0 ∷ 0 ∷ 0 ∷ 0 ∷ 0 ∷ 0 ∷ 0 ∷ 1 ∷ 0 ∷ 0 ∷ 0 ∷ 0 ∷ 0 ∷ 0 ∷ 0 ∷ 1 ∷ 1 ∷ 0 ∷ 0 ∷ 46 ∷ 205 ∷ 138 ∷ 107 ∷ 125 ∷ 40 ∷ 69 ∷ 84 ∷ 102 ∷ 89 ∷ 173 ∷ 76 ∷ 244 ∷ 67 ∷ 83 ∷ 60 ∷ 249 ∷ 33 ∷ 177 ∷ 157 ∷ 200 ∷ 31 ∷ 168 ∷ 57 ∷ 52 ∷ 232 ∷ 56 ∷ 33 ∷ 180 ∷ 223 ∷ 220 ∷ 183 ∷ 46 ∷ 205 ∷ 138 ∷ 107 ∷ 125 ∷ 40 ∷ 69 ∷ 84 ∷ 102 ∷ 89 ∷ 173 ∷ 76 ∷ 244 ∷ 67 ∷ 83 ∷ 60 ∷ 249 ∷ 33 ∷ 177 ∷ 157 ∷ 200 ∷ 31 ∷ 168 ∷ 57 ∷ 52 ∷ 232 ∷ 56 ∷ 33 ∷ 180 ∷ 223 ∷ 220 ∷ 183 ∷ 1 ∷ 0 ∷ 0 ∷ 0 ∷ 1 ∷ 7 ∷ 76 ∷ 98 ∷ 174 ∷ 64 ∷ 104 ∷ 249 ∷ 90 ∷ 49 ∷ 210 ∷ 1 ∷ 9 ∷ 184 ∷ 16 ∷ 153 ∷ 0 ∷ 240 ∷ 212 ∷ 241 ∷ 234 ∷ 99 ∷ 234 ∷ 237 ∷ 26 ∷ 211 ∷ 54 ∷ 237 ∷ 157 ∷ 127 ∷ 211 ∷ 216 ∷ 184 ∷ 232 ∷ [] }
    ∷ record { from = sender.Client; to = sender.Node (record { region = 0; replica = 0 }); bytes = 6 ∷ 0 ∷ 0 ∷ 0 ∷ 0 ∷ 0 ∷ 0 ∷ 0 ∷ 3 ∷ [] }
    ∷ record { from = sender.Client; to = sender.Node (record { region = 0; replica = 1 }); bytes = 6 ∷ 0 ∷ 0 ∷ 0 ∷ 0 ∷ 0 ∷ 0 ∷ 0 ∷ 3 ∷ [] }
    ∷ record { from = sender.Client; to = sender.Node (record { region = 0; replica = 0 }); bytes = 8 ∷ 1 ∷ 0 ∷ 0 ∷ 0 ∷ 0 ∷ 0 ∷ 0 ∷ 0 ∷ 3 ∷ 0 ∷ 0 ∷ 0 ∷ 0 ∷ 0 ∷ 0 ∷ 0 ∷ 1 ∷ 0 ∷ 0 ∷ 0 ∷ 0 ∷ 0 ∷ 0 ∷ 0 ∷ 0 ∷ 0 ∷ 0 ∷ 0 ∷ 0 ∷ 1 ∷ 0 ∷ 0 ∷ 0 ∷ 0 ∷ 0 ∷ 0 ∷ 0 ∷ 1 ∷ 1 ∷ 0 ∷ 0 ∷ 46 ∷ 205 ∷ 138 ∷ 107 ∷ 125 ∷ 40 ∷ 69 ∷ 84 ∷ 102 ∷ 89 ∷ 173 ∷ 76 ∷ 244 ∷ 67 ∷ 83 ∷ 60 ∷ 249 ∷ 33 ∷ 177 ∷ 157 ∷ 200 ∷ 31 ∷ 168 ∷ 57 ∷ 52 ∷ 232 ∷ 56 ∷ 33 ∷ 180 ∷ 223 ∷ 220 ∷ 183 ∷ 46 ∷ 205 ∷ 138 ∷ 107 ∷ 125 ∷ 40 ∷ 69 ∷ 84 ∷ 102 ∷ 89 ∷ 173 ∷ 76 ∷ 244 ∷ 67 ∷ 83 ∷ 60 ∷ 249 ∷ 33 ∷ 177 ∷ 157 ∷ 200 ∷ 31 ∷ 168 ∷ 57 ∷ 52 ∷ 232 ∷ 56 ∷ 33 ∷ 180 ∷ 223 ∷ 220 ∷ 183 ∷ 0 ∷ 158 ∷ 50 ∷ 72 ∷ 124 ∷ 64 ∷ 196 ∷ 231 ∷ 252 ∷ 241 ∷ 215 ∷ 228 ∷ 251 ∷ 0 ∷ 129 ∷ 120 ∷ 199 ∷ 253 ∷ 222 ∷ 15 ∷ 15 ∷ 1 ∷ 170 ∷ 102 ∷ 137 ∷ 194 ∷ 10 ∷ 169 ∷ 148 ∷ 145 ∷ 81 ∷ 139 ∷ 37 ∷ 0 ∷ 0 ∷ 0 ∷ 1 ∷ 0 ∷ 1 ∷ 7 ∷ [] }
    ∷ record { from = sender.Client; to = sender.Node (record { region = 0; replica = 1 }); bytes = 8 ∷ 1 ∷ 0 ∷ 0 ∷ 0 ∷ 0 ∷ 0 ∷ 0 ∷ 0 ∷ 3 ∷ 0 ∷ 0 ∷ 0 ∷ 0 ∷ 0 ∷ 0 ∷ 0 ∷ 1 ∷ 0 ∷ 0 ∷ 0 ∷ 0 ∷ 0 ∷ 0 ∷ 0 ∷ 0 ∷ 0 ∷ 0 ∷ 0 ∷ 0 ∷ 1 ∷ 0 ∷ 0 ∷ 0 ∷ 0 ∷ 0 ∷ 0 ∷ 0 ∷ 1 ∷ 1 ∷ 0 ∷ 0 ∷ 46 ∷ 205 ∷ 138 ∷ 107 ∷ 125 ∷ 40 ∷ 69 ∷ 84 ∷ 102 ∷ 89 ∷ 173 ∷ 76 ∷ 244 ∷ 67 ∷ 83 ∷ 60 ∷ 249 ∷ 33 ∷ 177 ∷ 157 ∷ 200 ∷ 31 ∷ 168 ∷ 57 ∷ 52 ∷ 232 ∷ 56 ∷ 33 ∷ 180 ∷ 223 ∷ 220 ∷ 183 ∷ 46 ∷ 205 ∷ 138 ∷ 107 ∷ 125 ∷ 40 ∷ 69 ∷ 84 ∷ 102 ∷ 89 ∷ 173 ∷ 76 ∷ 244 ∷ 67 ∷ 83 ∷ 60 ∷ 249 ∷ 33 ∷ 177 ∷ 157 ∷ 200 ∷ 31 ∷ 168 ∷ 57 ∷ 52 ∷ 232 ∷ 56 ∷ 33 ∷ 180 ∷ 223 ∷ 220 ∷ 183 ∷ 0 ∷ 158 ∷ 50 ∷ 72 ∷ 124 ∷ 64 ∷ 196 ∷ 231 ∷ 252 ∷ 241 ∷ 215 ∷ 228 ∷ 251 ∷ 0 ∷ 129 ∷ 120 ∷ 199 ∷ 253 ∷ 222 ∷ 15 ∷ 15 ∷ 1 ∷ 170 ∷ 102 ∷ 137 ∷ 194 ∷ 10 ∷ 169 ∷ 148 ∷ 145 ∷ 81 ∷ 139 ∷ 37 ∷ 0 ∷ 0 ∷ 0 ∷ 1 ∷ 0 ∷ 1 ∷ 7 ∷ [] }
    ∷ record { from = sender.Node (record { region = 0; replica = 0 }); to = sender.Client; bytes = 7 ∷ 0 ∷ 0 ∷ 0 ∷ 0 ∷ 0 ∷ 0 ∷ 0 ∷ 3 ∷ 0 ∷ 0 ∷ 0 ∷ 0 ∷ 0 ∷ 0 ∷ 0 ∷ 1 ∷ 0 ∷ 0 ∷ 0 ∷ 1 ∷ 1 ∷ 0 ∷ 0 ∷ 0 ∷ 0 ∷ 0 ∷ 0 ∷ 0 ∷ 1 ∷ 0 ∷ 0 ∷ 0 ∷ 0 ∷ 0 ∷ 0 ∷ 0 ∷ 0 ∷ 0 ∷ 0 ∷ 0 ∷ 0 ∷ 0 ∷ 0 ∷ 0 ∷ 0 ∷ 0 ∷ 0 ∷ 0 ∷ 0 ∷ 1 ∷ 0 ∷ 0 ∷ 0 ∷ 0 ∷ 0 ∷ 0 ∷ 0 ∷ 0 ∷ 1 ∷ 0 ∷ 0 ∷ 150 ∷ 162 ∷ 150 ∷ 210 ∷ 36 ∷ 242 ∷ 133 ∷ 198 ∷ 123 ∷ 238 ∷ 147 ∷ 195 ∷ 15 ∷ 138 ∷ 48 ∷ 145 ∷ 87 ∷ 240 ∷ 218 ∷ 163 ∷ 93 ∷ 197 ∷ 184 ∷ 126 ∷ 65 ∷ 11 ∷ 120 ∷ 99 ∷ 10 ∷ 9 ∷ 207 ∷ 199 ∷ 150 ∷ 162 ∷ 150 ∷ 210 ∷ 36 ∷ 242 ∷ 133 ∷ 198 ∷ 123 ∷ 238 ∷ 147 ∷ 195 ∷ 15 ∷ 138 ∷ 48 ∷ 145 ∷ 87 ∷ 240 ∷ 218 ∷ 163 ∷ 93 ∷ 197 ∷ 184 ∷ 126 ∷ 65 ∷ 11 ∷ 120 ∷ 99 ∷ 10 ∷ 9 ∷ 207 ∷ 199 ∷ 0 ∷ 140 ∷ 119 ∷ 171 ∷ 248 ∷ 71 ∷ 181 ∷ 155 ∷ 64 ∷ 158 ∷ 94 ∷ 69 ∷ 184 ∷ 124 ∷ 206 ∷ 178 ∷ 133 ∷ 80 ∷ 56 ∷ 10 ∷ 98 ∷ 244 ∷ 239 ∷ 213 ∷ 92 ∷ 75 ∷ 226 ∷ 86 ∷ 26 ∷ 19 ∷ 146 ∷ 55 ∷ 48 ∷ 0 ∷ 0 ∷ 0 ∷ 1 ∷ 0 ∷ 1 ∷ 0 ∷ 0 ∷ 0 ∷ 0 ∷ 1 ∷ 1 ∷ 0 ∷ 0 ∷ 0 ∷ 0 ∷ 0 ∷ 0 ∷ 0 ∷ 1 ∷ 0 ∷ 0 ∷ 0 ∷ 0 ∷ 0 ∷ 0 ∷ 0 ∷ 1 ∷ 0 ∷ 0 ∷ 0 ∷ 0 ∷ 0 ∷ 0 ∷ 0 ∷ 0 ∷ 0 ∷ 0 ∷ 0 ∷ 0 ∷ 1 ∷ 0 ∷ 0 ∷ 0 ∷ 0 ∷ 0 ∷ 0 ∷ 0 ∷ 1 ∷ 1 ∷ 0 ∷ 0 ∷ 46 ∷ 205 ∷ 138 ∷ 107 ∷ 125 ∷ 40 ∷ 69 ∷ 84 ∷ 102 ∷ 89 ∷ 173 ∷ 76 ∷ 244 ∷ 67 ∷ 83 ∷ 60 ∷ 249 ∷ 33 ∷ 177 ∷ 157 ∷ 200 ∷ 31 ∷ 168 ∷ 57 ∷ 52 ∷ 232 ∷ 56 ∷ 33 ∷ 180 ∷ 223 ∷ 220 ∷ 183 ∷ 46 ∷ 205 ∷ 138 ∷ 107 ∷ 125 ∷ 40 ∷ 69 ∷ 84 ∷ 102 ∷ 89 ∷ 173 ∷ 76 ∷ 244 ∷ 67 ∷ 83 ∷ 60 ∷ 249 ∷ 33 ∷ 177 ∷ 157 ∷ 200 ∷ 31 ∷ 168 ∷ 57 ∷ 52 ∷ 232 ∷ 56 ∷ 33 ∷ 180 ∷ 223 ∷ 220 ∷ 183 ∷ 1 ∷ 0 ∷ 0 ∷ 0 ∷ 1 ∷ 7 ∷ 76 ∷ 98 ∷ 174 ∷ 64 ∷ 104 ∷ 249 ∷ 90 ∷ 49 ∷ 210 ∷ 1 ∷ 9 ∷ 184 ∷ 16 ∷ 153 ∷ 0 ∷ 240 ∷ 212 ∷ 241 ∷ 234 ∷ 99 ∷ 234 ∷ 237 ∷ 26 ∷ 211 ∷ 54 ∷ 237 ∷ 157 ∷ 127 ∷ 211 ∷ 216 ∷ 184 ∷ 232 ∷ [] }
    ∷ record { from = sender.Node (record { region = 0; replica = 1 }); to = sender.Client; bytes = 7 ∷ 0 ∷ 0 ∷ 0 ∷ 0 ∷ 0 ∷ 0 ∷ 0 ∷ 3 ∷ 0 ∷ 0 ∷ 0 ∷ 0 ∷ 0 ∷ 0 ∷ 0 ∷ 1 ∷ 0 ∷ 0 ∷ 0 ∷ 1 ∷ 1 ∷ 0 ∷ 0 ∷ 0 ∷ 0 ∷ 0 ∷ 0 ∷ 0 ∷ 1 ∷ 0 ∷ 0 ∷ 0 ∷ 0 ∷ 0 ∷ 0 ∷ 0 ∷ 0 ∷ 0 ∷ 0 ∷ 0 ∷ 0 ∷ 0 ∷ 0 ∷ 0 ∷ 0 ∷ 0 ∷ 0 ∷ 0 ∷ 0 ∷ 1 ∷ 0 ∷ 0 ∷ 0 ∷ 0 ∷ 0 ∷ 0 ∷ 0 ∷ 0 ∷ 1 ∷ 0 ∷ 0 ∷ 150 ∷ 162 ∷ 150 ∷ 210 ∷ 36 ∷ 242 ∷ 133 ∷ 198 ∷ 123 ∷ 238 ∷ 147 ∷ 195 ∷ 15 ∷ 138 ∷ 48 ∷ 145 ∷ 87 ∷ 240 ∷ 218 ∷ 163 ∷ 93 ∷ 197 ∷ 184 ∷ 126 ∷ 65 ∷ 11 ∷ 120 ∷ 99 ∷ 10 ∷ 9 ∷ 207 ∷ 199 ∷ 150 ∷ 162 ∷ 150 ∷ 210 ∷ 36 ∷ 242 ∷ 133 ∷ 198 ∷ 123 ∷ 238 ∷ 147 ∷ 195 ∷ 15 ∷ 138 ∷ 48 ∷ 145 ∷ 87 ∷ 240 ∷ 218 ∷ 163 ∷ 93 ∷ 197 ∷ 184 ∷ 126 ∷ 65 ∷ 11 ∷ 120 ∷ 99 ∷ 10 ∷ 9 ∷ 207 ∷ 199 ∷ 0 ∷ 140 ∷ 119 ∷ 171 ∷ 248 ∷ 71 ∷ 181 ∷ 155 ∷ 64 ∷ 158 ∷ 94 ∷ 69 ∷ 184 ∷ 124 ∷ 206 ∷ 178 ∷ 133 ∷ 80 ∷ 56 ∷ 10 ∷ 98 ∷ 244 ∷ 239 ∷ 213 ∷ 92 ∷ 75 ∷ 226 ∷ 86 ∷ 26 ∷ 19 ∷ 146 ∷ 55 ∷ 48 ∷ 0 ∷ 0 ∷ 0 ∷ 1 ∷ 0 ∷ 1 ∷ 0 ∷ 0 ∷ 0 ∷ 0 ∷ 1 ∷ 1 ∷ 0 ∷ 0 ∷ 0 ∷ 0 ∷ 0 ∷ 0 ∷ 0 ∷ 1 ∷ 0 ∷ 0 ∷ 0 ∷ 0 ∷ 0 ∷ 0 ∷ 0 ∷ 1 ∷ 0 ∷ 0 ∷ 0 ∷ 0 ∷ 0 ∷ 0 ∷ 0 ∷ 0 ∷ 0 ∷ 0 ∷ 0 ∷ 0 ∷ 1 ∷ 0 ∷ 0 ∷ 0 ∷ 0 ∷ 0 ∷ 0 ∷ 0 ∷ 1 ∷ 1 ∷ 0 ∷ 0 ∷ 46 ∷ 205 ∷ 138 ∷ 107 ∷ 125 ∷ 40 ∷ 69 ∷ 84 ∷ 102 ∷ 89 ∷ 173 ∷ 76 ∷ 244 ∷ 67 ∷ 83 ∷ 60 ∷ 249 ∷ 33 ∷ 177 ∷ 157 ∷ 200 ∷ 31 ∷ 168 ∷ 57 ∷ 52 ∷ 232 ∷ 56 ∷ 33 ∷ 180 ∷ 223 ∷ 220 ∷ 183 ∷ 46 ∷ 205 ∷ 138 ∷ 107 ∷ 125 ∷ 40 ∷ 69 ∷ 84 ∷ 102 ∷ 89 ∷ 173 ∷ 76 ∷ 244 ∷ 67 ∷ 83 ∷ 60 ∷ 249 ∷ 33 ∷ 177 ∷ 157 ∷ 200 ∷ 31 ∷ 168 ∷ 57 ∷ 52 ∷ 232 ∷ 56 ∷ 33 ∷ 180 ∷ 223 ∷ 220 ∷ 183 ∷ 1 ∷ 0 ∷ 0 ∷ 0 ∷ 1 ∷ 7 ∷ 76 ∷ 98 ∷ 174 ∷ 64 ∷ 104 ∷ 249 ∷ 90 ∷ 49 ∷ 210 ∷ 1 ∷ 9 ∷ 184 ∷ 16 ∷ 153 ∷ 0 ∷ 240 ∷ 212 ∷ 241 ∷ 234 ∷ 99 ∷ 234 ∷ 237 ∷ 26 ∷ 211 ∷ 54 ∷ 237 ∷ 157 ∷ 127 ∷ 211 ∷ 216 ∷ 184 ∷ 232 ∷ [] }
    ∷ record { from = sender.Node (record { region = 0; replica = 0 }); to = sender.Client; bytes = 9 ∷ 0 ∷ 0 ∷ 0 ∷ 0 ∷ 0 ∷ 0 ∷ 0 ∷ 3 ∷ [] }
    ∷ record { from = sender.Node (record { region = 0; replica = 1 }); to = sender.Client; bytes = 9 ∷ 0 ∷ 0 ∷ 0 ∷ 0 ∷ 0 ∷ 0 ∷ 0 ∷ 3 ∷ [] }
    ∷ record { from = sender.Client; to = sender.Node (record { region = 0; replica = 0 }); bytes = 10 ∷ 0 ∷ 0 ∷ 0 ∷ 0 ∷ 0 ∷ 0 ∷ 0 ∷ 3 ∷ [] }
    ∷ record { from = sender.Client; to = sender.Node (record { region = 0; replica = 1 }); bytes = 10 ∷ 0 ∷ 0 ∷ 0 ∷ 0 ∷ 0 ∷ 0 ∷ 0 ∷ 3 ∷ [] }
    ∷ record { from = sender.Node (record { region = 0; replica = 0 }); to = sender.Client; bytes = 11 ∷ 0 ∷ 0 ∷ 0 ∷ 0 ∷ 0 ∷ 0 ∷ 0 ∷ 3 ∷ [] }
    ∷ record { from = sender.Node (record { region = 0; replica = 1 }); to = sender.Client; bytes = 11 ∷ 0 ∷ 0 ∷ 0 ∷ 0 ∷ 0 ∷ 0 ∷ 0 ∷ 3 ∷ [] }
    ∷ record { from = sender.Client; to = sender.Node (record { region = 0; replica = 0 }); bytes = 4 ∷ 0 ∷ 0 ∷ 0 ∷ 0 ∷ 0 ∷ 0 ∷ 0 ∷ 3 ∷ 0 ∷ 0 ∷ 0 ∷ 0 ∷ 0 ∷ 0 ∷ 0 ∷ 22 ∷ 0 ∷ 0 ∷ 0 ∷ 0 ∷ 0 ∷ 0 ∷ 0 ∷ 0 ∷ 0 ∷ 0 ∷ 0 ∷ 1 ∷ [] }
    ∷ record { from = sender.Client; to = sender.Node (record { region = 0; replica = 1 }); bytes = 4 ∷ 0 ∷ 0 ∷ 0 ∷ 0 ∷ 0 ∷ 0 ∷ 0 ∷ 3 ∷ 0 ∷ 0 ∷ 0 ∷ 0 ∷ 0 ∷ 0 ∷ 0 ∷ 22 ∷ 0 ∷ 0 ∷ 0 ∷ 0 ∷ 0 ∷ 0 ∷ 0 ∷ 0 ∷ 0 ∷ 0 ∷ 0 ∷ 1 ∷ [] }
    ∷ record { from = sender.Client; to = sender.Node (record { region = 0; replica = 0 }); bytes = 4 ∷ 0 ∷ 0 ∷ 0 ∷ 0 ∷ 0 ∷ 0 ∷ 0 ∷ 3 ∷ 0 ∷ 0 ∷ 0 ∷ 0 ∷ 0 ∷ 0 ∷ 0 ∷ 22 ∷ 0 ∷ 0 ∷ 0 ∷ 0 ∷ 0 ∷ 0 ∷ 0 ∷ 0 ∷ 0 ∷ 0 ∷ 0 ∷ 1 ∷ [] }
    ∷ record { from = sender.Client; to = sender.Node (record { region = 0; replica = 1 }); bytes = 4 ∷ 0 ∷ 0 ∷ 0 ∷ 0 ∷ 0 ∷ 0 ∷ 0 ∷ 3 ∷ 0 ∷ 0 ∷ 0 ∷ 0 ∷ 0 ∷ 0 ∷ 0 ∷ 22 ∷ 0 ∷ 0 ∷ 0 ∷ 0 ∷ 0 ∷ 0 ∷ 0 ∷ 0 ∷ 0 ∷ 0 ∷ 0 ∷ 1 ∷ [] }
    ∷ record { from = sender.Node (record { region = 0; replica = 0 }); to = sender.Client; bytes = 5 ∷ 0 ∷ 0 ∷ 0 ∷ 0 ∷ 0 ∷ 0 ∷ 0 ∷ 3 ∷ 0 ∷ 0 ∷ 0 ∷ 0 ∷ 0 ∷ 0 ∷ 0 ∷ 22 ∷ 0 ∷ 0 ∷ 0 ∷ 0 ∷ 0 ∷ 0 ∷ 0 ∷ 0 ∷ 0 ∷ 0 ∷ 0 ∷ 1 ∷ 0 ∷ 1 ∷ 7 ∷ 0 ∷ [] }
    ∷ record { from = sender.Node (record { region = 0; replica = 1 }); to = sender.Client; bytes = 5 ∷ 0 ∷ 0 ∷ 0 ∷ 0 ∷ 0 ∷ 0 ∷ 0 ∷ 3 ∷ 0 ∷ 0 ∷ 0 ∷ 0 ∷ 0 ∷ 0 ∷ 0 ∷ 22 ∷ 0 ∷ 0 ∷ 0 ∷ 0 ∷ 0 ∷ 0 ∷ 0 ∷ 0 ∷ 0 ∷ 0 ∷ 0 ∷ 1 ∷ 0 ∷ 1 ∷ 7 ∷ 0 ∷ [] }
    ∷ record { from = sender.Node (record { region = 0; replica = 0 }); to = sender.Client; bytes = 5 ∷ 0 ∷ 0 ∷ 0 ∷ 0 ∷ 0 ∷ 0 ∷ 0 ∷ 3 ∷ 0 ∷ 0 ∷ 0 ∷ 0 ∷ 0 ∷ 0 ∷ 0 ∷ 22 ∷ 0 ∷ 0 ∷ 0 ∷ 0 ∷ 0 ∷ 0 ∷ 0 ∷ 0 ∷ 0 ∷ 0 ∷ 0 ∷ 1 ∷ 0 ∷ 1 ∷ 7 ∷ 0 ∷ [] }
    ∷ record { from = sender.Node (record { region = 0; replica = 1 }); to = sender.Client; bytes = 5 ∷ 0 ∷ 0 ∷ 0 ∷ 0 ∷ 0 ∷ 0 ∷ 0 ∷ 3 ∷ 0 ∷ 0 ∷ 0 ∷ 0 ∷ 0 ∷ 0 ∷ 0 ∷ 22 ∷ 0 ∷ 0 ∷ 0 ∷ 0 ∷ 0 ∷ 0 ∷ 0 ∷ 0 ∷ 0 ∷ 0 ∷ 0 ∷ 1 ∷ 0 ∷ 1 ∷ 7 ∷ 0 ∷ [] }
    ∷ []

abbrev trace_here : List TraceStep
trace_here =
    record { event = 1; party = sender.Client; handed = handed.Asked (request.Write (record { block = 0; bytes = 7 ∷ [] } ∷ [])); sent = 2; failed = false; loaded = None }
    ∷ record { event = 2; party = sender.Client; handed = handed.Asked (request.Read 0); sent = 2; failed = false; loaded = None }
    ∷ record { event = 3; party = sender.Client; handed = handed.Asked (request.Barrier); sent = 2; failed = false; loaded = None }
    ∷ record { event = 4; party = sender.Client; handed = handed.Asked (request.Write (record { block = 0; bytes = 8 ∷ [] } ∷ [])); sent = 2; failed = false; loaded = None }
    ∷ record { event = 5; party = sender.Client; handed = handed.Tick; sent = 4; failed = false; loaded = None }
    ∷ record { event = 6; party = sender.Node (record { region = 0; replica = 0 }); handed = handed.Deliver 1; sent = 5; failed = false; loaded = None }
    ∷ record { event = 6; party = sender.Node (record { region = 0; replica = 1 }); handed = handed.Deliver 2; sent = 6; failed = false; loaded = None }
    ∷ record { event = 6; party = sender.Node (record { region = 0; replica = 0 }); handed = handed.Deliver 3; sent = 7; failed = false; loaded = None }
    ∷ record { event = 6; party = sender.Node (record { region = 0; replica = 1 }); handed = handed.Deliver 4; sent = 8; failed = false; loaded = None }
    ∷ record { event = 6; party = sender.Client; handed = handed.Deliver 5; sent = 14; failed = false; loaded = None }
    ∷ record { event = 6; party = sender.Client; handed = handed.Deliver 6; sent = 14; failed = false; loaded = None }
    ∷ record { event = 7; party = sender.Client; handed = handed.Tick; sent = 20; failed = false; loaded = None }
    ∷ record { event = 8; party = sender.Client; handed = handed.Deliver 7; sent = 20; failed = false; loaded = None }
    ∷ record { event = 8; party = sender.Client; handed = handed.Deliver 8; sent = 20; failed = false; loaded = None }
    ∷ record { event = 8; party = sender.Node (record { region = 0; replica = 0 }); handed = handed.Deliver 9; sent = 22; failed = false; loaded = None }
    ∷ record { event = 8; party = sender.Node (record { region = 0; replica = 1 }); handed = handed.Deliver 10; sent = 24; failed = false; loaded = None }
    ∷ record { event = 8; party = sender.Node (record { region = 0; replica = 0 }); handed = handed.Deliver 11; sent = 25; failed = false; loaded = None }
    ∷ record { event = 8; party = sender.Node (record { region = 0; replica = 1 }); handed = handed.Deliver 12; sent = 26; failed = false; loaded = None }
    ∷ record { event = 8; party = sender.Node (record { region = 0; replica = 0 }); handed = handed.Deliver 13; sent = 27; failed = false; loaded = None }
    ∷ record { event = 8; party = sender.Node (record { region = 0; replica = 1 }); handed = handed.Deliver 14; sent = 28; failed = false; loaded = None }
    ∷ record { event = 8; party = sender.Node (record { region = 0; replica = 0 }); handed = handed.Deliver 15; sent = 30; failed = false; loaded = None }
    ∷ record { event = 8; party = sender.Node (record { region = 0; replica = 1 }); handed = handed.Deliver 16; sent = 32; failed = false; loaded = None }
    ∷ record { event = 8; party = sender.Node (record { region = 0; replica = 0 }); handed = handed.Deliver 17; sent = 33; failed = false; loaded = None }
    ∷ record { event = 8; party = sender.Node (record { region = 0; replica = 1 }); handed = handed.Deliver 18; sent = 34; failed = false; loaded = None }
    ∷ record { event = 9; party = sender.Client; handed = handed.Tick; sent = 40; failed = false; loaded = None }
    ∷ record { event = 10; party = sender.Client; handed = handed.ClientCrash; sent = 40; failed = false; loaded = None }
    ∷ record { event = 11; party = sender.Client; handed = handed.Tick; sent = 40; failed = false; loaded = None }
    ∷ record { event = 12; party = sender.Client; handed = handed.Asked (request.Read 0); sent = 40; failed = false; loaded = None }
    ∷ record { event = 13; party = sender.Client; handed = handed.Asked (request.Restart 2); sent = 42; failed = false; loaded = None }
    ∷ record { event = 14; party = sender.Node (record { region = 0; replica = 0 }); handed = handed.Deliver 19; sent = 43; failed = false; loaded = None }
    ∷ record { event = 14; party = sender.Node (record { region = 0; replica = 1 }); handed = handed.Deliver 20; sent = 44; failed = false; loaded = None }
    ∷ record { event = 14; party = sender.Node (record { region = 0; replica = 0 }); handed = handed.Deliver 21; sent = 44; failed = false; loaded = None }
    ∷ record { event = 15; party = sender.Client; handed = handed.Tick; sent = 46; failed = false; loaded = None }
    ∷ record { event = 16; party = sender.Client; handed = handed.Asked (request.Restart 3); sent = 48; failed = false; loaded = None }
    ∷ record { event = 17; party = sender.Node (record { region = 0; replica = 1 }); handed = handed.Deliver 22; sent = 48; failed = false; loaded = None }
    ∷ record { event = 17; party = sender.Node (record { region = 0; replica = 0 }); handed = handed.Deliver 23; sent = 51; failed = false; loaded = None }
    ∷ record { event = 17; party = sender.Node (record { region = 0; replica = 1 }); handed = handed.Deliver 24; sent = 54; failed = false; loaded = None }
    ∷ record { event = 17; party = sender.Client; handed = handed.Deliver 25; sent = 54; failed = false; loaded = None }
    ∷ record { event = 17; party = sender.Client; handed = handed.Deliver 26; sent = 54; failed = false; loaded = None }
    ∷ record { event = 17; party = sender.Client; handed = handed.Deliver 27; sent = 54; failed = false; loaded = None }
    ∷ record { event = 17; party = sender.Client; handed = handed.Deliver 28; sent = 54; failed = false; loaded = None }
    ∷ record { event = 17; party = sender.Node (record { region = 0; replica = 0 }); handed = handed.Deliver 29; sent = 54; failed = false; loaded = None }
    ∷ record { event = 17; party = sender.Node (record { region = 0; replica = 1 }); handed = handed.Deliver 30; sent = 54; failed = false; loaded = None }
    ∷ record { event = 17; party = sender.Node (record { region = 0; replica = 0 }); handed = handed.Deliver 31; sent = 54; failed = false; loaded = None }
    ∷ record { event = 17; party = sender.Node (record { region = 0; replica = 1 }); handed = handed.Deliver 32; sent = 54; failed = false; loaded = None }
    ∷ record { event = 17; party = sender.Client; handed = handed.Deliver 33; sent = 54; failed = false; loaded = None }
    ∷ record { event = 17; party = sender.Client; handed = handed.Deliver 34; sent = 54; failed = false; loaded = None }
    ∷ record { event = 17; party = sender.Node (record { region = 0; replica = 0 }); handed = handed.Deliver 35; sent = 56; failed = false; loaded = None }
    ∷ record { event = 17; party = sender.Node (record { region = 0; replica = 1 }); handed = handed.Deliver 36; sent = 58; failed = false; loaded = None }
    ∷ record { event = 17; party = sender.Node (record { region = 0; replica = 0 }); handed = handed.Deliver 37; sent = 59; failed = false; loaded = None }
    ∷ record { event = 17; party = sender.Node (record { region = 0; replica = 1 }); handed = handed.Deliver 38; sent = 60; failed = false; loaded = None }
    ∷ record { event = 17; party = sender.Node (record { region = 0; replica = 0 }); handed = handed.Deliver 39; sent = 61; failed = false; loaded = None }
    ∷ record { event = 17; party = sender.Node (record { region = 0; replica = 1 }); handed = handed.Deliver 40; sent = 62; failed = false; loaded = None }
    ∷ record { event = 17; party = sender.Node (record { region = 0; replica = 0 }); handed = handed.Deliver 41; sent = 63; failed = false; loaded = None }
    ∷ record { event = 17; party = sender.Node (record { region = 0; replica = 1 }); handed = handed.Deliver 42; sent = 64; failed = false; loaded = None }
    ∷ record { event = 17; party = sender.Client; handed = handed.Deliver 43; sent = 64; failed = false; loaded = None }
    ∷ record { event = 17; party = sender.Client; handed = handed.Deliver 44; sent = 64; failed = false; loaded = None }
    ∷ record { event = 17; party = sender.Node (record { region = 0; replica = 0 }); handed = handed.Deliver 45; sent = 65; failed = false; loaded = None }
    ∷ record { event = 17; party = sender.Node (record { region = 0; replica = 1 }); handed = handed.Deliver 46; sent = 66; failed = false; loaded = None }
    ∷ record { event = 17; party = sender.Node (record { region = 0; replica = 0 }); handed = handed.Deliver 47; sent = 67; failed = false; loaded = None }
    ∷ record { event = 17; party = sender.Node (record { region = 0; replica = 1 }); handed = handed.Deliver 48; sent = 68; failed = false; loaded = None }
    ∷ record { event = 17; party = sender.Client; handed = handed.Deliver 49; sent = 68; failed = false; loaded = None }
    ∷ record { event = 17; party = sender.Node (record { region = 0; replica = 0 }); handed = handed.Deliver 50; sent = 68; failed = false; loaded = None }
    ∷ record { event = 17; party = sender.Node (record { region = 0; replica = 1 }); handed = handed.Deliver 51; sent = 68; failed = false; loaded = None }
    ∷ record { event = 18; party = sender.Client; handed = handed.Tick; sent = 70; failed = false; loaded = None }
    ∷ record { event = 19; party = sender.Client; handed = handed.Deliver 52; sent = 70; failed = false; loaded = None }
    ∷ record { event = 19; party = sender.Node (record { region = 0; replica = 0 }); handed = handed.Deliver 53; sent = 70; failed = false; loaded = None }
    ∷ record { event = 19; party = sender.Node (record { region = 0; replica = 1 }); handed = handed.Deliver 54; sent = 70; failed = false; loaded = None }
    ∷ record { event = 19; party = sender.Node (record { region = 0; replica = 0 }); handed = handed.Deliver 55; sent = 70; failed = false; loaded = None }
    ∷ record { event = 19; party = sender.Node (record { region = 0; replica = 1 }); handed = handed.Deliver 56; sent = 70; failed = false; loaded = None }
    ∷ record { event = 19; party = sender.Node (record { region = 0; replica = 0 }); handed = handed.Deliver 57; sent = 70; failed = false; loaded = None }
    ∷ record { event = 19; party = sender.Node (record { region = 0; replica = 1 }); handed = handed.Deliver 58; sent = 70; failed = false; loaded = None }
    ∷ record { event = 19; party = sender.Client; handed = handed.Deliver 59; sent = 70; failed = false; loaded = None }
    ∷ record { event = 19; party = sender.Client; handed = handed.Deliver 60; sent = 70; failed = false; loaded = None }
    ∷ record { event = 19; party = sender.Client; handed = handed.Deliver 61; sent = 70; failed = false; loaded = None }
    ∷ record { event = 19; party = sender.Client; handed = handed.Deliver 62; sent = 70; failed = false; loaded = None }
    ∷ record { event = 19; party = sender.Client; handed = handed.Deliver 63; sent = 70; failed = false; loaded = None }
    ∷ record { event = 19; party = sender.Client; handed = handed.Deliver 64; sent = 70; failed = false; loaded = None }
    ∷ record { event = 19; party = sender.Client; handed = handed.Deliver 65; sent = 70; failed = false; loaded = None }
    ∷ record { event = 19; party = sender.Client; handed = handed.Deliver 66; sent = 70; failed = false; loaded = None }
    ∷ record { event = 19; party = sender.Client; handed = handed.Deliver 67; sent = 70; failed = false; loaded = None }
    ∷ record { event = 19; party = sender.Client; handed = handed.Deliver 68; sent = 72; failed = false; loaded = None }
    ∷ record { event = 19; party = sender.Node (record { region = 0; replica = 0 }); handed = handed.Deliver 69; sent = 73; failed = false; loaded = None }
    ∷ record { event = 19; party = sender.Node (record { region = 0; replica = 1 }); handed = handed.Deliver 70; sent = 74; failed = false; loaded = None }
    ∷ record { event = 19; party = sender.Node (record { region = 0; replica = 0 }); handed = handed.Deliver 71; sent = 75; failed = false; loaded = None }
    ∷ record { event = 19; party = sender.Node (record { region = 0; replica = 1 }); handed = handed.Deliver 72; sent = 76; failed = false; loaded = None }
    ∷ record { event = 19; party = sender.Client; handed = handed.Deliver 73; sent = 76; failed = false; loaded = None }
    ∷ record { event = 19; party = sender.Client; handed = handed.Deliver 74; sent = 76; failed = false; loaded = None }
    ∷ record { event = 19; party = sender.Client; handed = handed.Deliver 75; sent = 76; failed = false; loaded = None }
    ∷ record { event = 19; party = sender.Client; handed = handed.Deliver 76; sent = 78; failed = false; loaded = None }
    ∷ record { event = 19; party = sender.Node (record { region = 0; replica = 0 }); handed = handed.Deliver 77; sent = 79; failed = false; loaded = None }
    ∷ record { event = 19; party = sender.Node (record { region = 0; replica = 1 }); handed = handed.Deliver 78; sent = 80; failed = false; loaded = None }
    ∷ record { event = 19; party = sender.Client; handed = handed.Deliver 79; sent = 80; failed = false; loaded = None }
    ∷ record { event = 19; party = sender.Client; handed = handed.Deliver 80; sent = 80; failed = false; loaded = None }
    ∷ record { event = 20; party = sender.Client; handed = handed.Tick; sent = 80; failed = false; loaded = None }
    ∷ record { event = 22; party = sender.Client; handed = handed.Asked (request.Read 0); sent = 82; failed = false; loaded = None }
    ∷ record { event = 23; party = sender.Client; handed = handed.Tick; sent = 84; failed = false; loaded = None }
    ∷ record { event = 24; party = sender.Node (record { region = 0; replica = 0 }); handed = handed.Deliver 81; sent = 85; failed = false; loaded = None }
    ∷ record { event = 24; party = sender.Node (record { region = 0; replica = 1 }); handed = handed.Deliver 82; sent = 86; failed = false; loaded = None }
    ∷ record { event = 24; party = sender.Node (record { region = 0; replica = 0 }); handed = handed.Deliver 83; sent = 87; failed = false; loaded = None }
    ∷ record { event = 24; party = sender.Node (record { region = 0; replica = 1 }); handed = handed.Deliver 84; sent = 88; failed = false; loaded = None }
    ∷ record { event = 24; party = sender.Client; handed = handed.Deliver 85; sent = 88; failed = false; loaded = None }
    ∷ record { event = 24; party = sender.Client; handed = handed.Deliver 86; sent = 88; failed = false; loaded = None }
    ∷ record { event = 24; party = sender.Client; handed = handed.Deliver 87; sent = 88; failed = false; loaded = None }
    ∷ record { event = 24; party = sender.Client; handed = handed.Deliver 88; sent = 88; failed = false; loaded = None }
    ∷ []

-- the client's rules send exactly the messages of the client in this run
pub letters-ticks : map posted_letter (client_letters volume_here posts_here (new_client volume_here.geometry) trace_here) ≡ filter (λ m. is_client m.from) posts_here
unfolding left_of of_event lines_from pasts_from past_event sent_after due_news acks_due is_known first_strike present_root questions questions_from live all_taken phase_of since judged_all front_from last_touch bytes_left apply fold_batches top_of root_of climb message_at prepared_at committed_at asked_at ask_at path_at answer_at bases_at records_at gathered_at dump_at dumped_at batch_at before_at numbers_at regions_at after_at header_at write_at writes_at record_at blocks_at base_at batch_bytes before_bytes numbers_bytes regions_bytes after_bytes header_bytes write_bytes writes_bytes payload_bytes be1 be2 be4 be8 times bytes_at u8_at u16_at u32_at u64_at ascends_from record_fits blocks_written has_shape header_fits chain_ends ends_of picks recovered choice_of replies_to pool_of all_staged has_switched is_genuine hmac sha256 first_words schedule rounds compress hash_after digest_bytes line_of claim_of next_part leaves requested_here answered_here acks committed_here ticked_here base_record restarted gathered_here dumped_here staged_here switched_here requested received ticked told client_lines client_letters struck_from prepared_bytes committed_bytes asked_bytes ask_bytes path_bytes answer_bytes bases_bytes records_bytes gathered_bytes dump_bytes dumped_bytes record_bytes blocks_bytes base_bytes
letters-ticks = refl

-- and give its lines
pub told-ticks : flat_map (λ ls. ls) (client_lines volume_here posts_here (new_client volume_here.geometry) trace_here) ≡ lines_due volume_here events_here posts_here trace_here
unfolding left_of of_event lines_from pasts_from past_event sent_after due_news acks_due is_known first_strike present_root questions questions_from live all_taken phase_of since judged_all front_from last_touch bytes_left apply fold_batches top_of root_of climb message_at prepared_at committed_at asked_at ask_at path_at answer_at bases_at records_at gathered_at dump_at dumped_at batch_at before_at numbers_at regions_at after_at header_at write_at writes_at record_at blocks_at base_at batch_bytes before_bytes numbers_bytes regions_bytes after_bytes header_bytes write_bytes writes_bytes payload_bytes be1 be2 be4 be8 times bytes_at u8_at u16_at u32_at u64_at ascends_from record_fits blocks_written has_shape header_fits chain_ends ends_of picks recovered choice_of replies_to pool_of all_staged has_switched is_genuine hmac sha256 first_words schedule rounds compress hash_after digest_bytes line_of claim_of next_part leaves requested_here answered_here acks committed_here ticked_here base_record restarted gathered_here dumped_here staged_here switched_here requested received ticked told client_lines client_letters struck_from prepared_bytes committed_bytes asked_bytes ask_bytes path_bytes answer_bytes bases_bytes records_bytes gathered_bytes dump_bytes dumped_bytes record_bytes blocks_bytes base_bytes
told-ticks = refl
