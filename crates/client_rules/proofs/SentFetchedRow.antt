-- A reassignment with ticks while it fetches, stages and switches.
use Rattle.std.proofs.Common.{map, ◌≡◌, List, [], ◌∷◌, false, refl}
use Rattle.std.specs.Prelude.{None, filter, flat_map}
use Rattle.sha2.specs.Sha256.{sha256, first_words, schedule, rounds, compress, hash_after, digest_bytes}
use Rattle.salus_types.specs.declared.names.Sender.TheVariants as sender
use Rattle.schedule_text.specs.declared.schedule.Volume.{Volume}
use Rattle.schedule_text.specs.declared.schedule.Event.{Event}
use Rattle.schedule_text.specs.declared.schedule.Event.TheVariants as event
use Rattle.salus_model.specs.declared.trace.Request.TheVariants as request
use Rattle.salus_model.specs.declared.trace.Handed.TheVariants as handed
use Rattle.salus_model.specs.declared.trace.TraceStep.{TraceStep}
use Rattle.salus_codec.specs.Spelling.{be1, be2, be4, be8}
use Rattle.salus_codec.specs.Reading.{bytes_at, u8_at, u16_at, u32_at, u64_at}
use Rattle.salus_codec.specs.Formats.{times}
use Rattle.client_tag.specs.Spelling.{batch_bytes, before_bytes, numbers_bytes, regions_bytes, after_bytes, header_bytes, write_bytes, writes_bytes, payload_bytes, record_bytes, blocks_bytes, base_bytes}
use Rattle.client_tag.specs.Reading.{batch_at, before_at, numbers_at, regions_at, after_at, header_at, write_at, writes_at, record_at, blocks_at, base_at}
use Rattle.salus_message.specs.Reading.{message_at, prepared_at, committed_at, asked_at, ask_at, path_at, answer_at, bases_at, records_at, gathered_at, dump_at, dumped_at}
use Rattle.merkle_region.specs.Tree.{root_of, climb}
use Rattle.volume_model.specs.Contents.{apply, fold_batches}
use Rattle.merkle_volume.specs.Top.{top_of}
use Rattle.salus_hash.specs.Hmac.{hmac}
use Rattle.client_tag.specs.Tags.{is_genuine}
use Rattle.volume_model.specs.Parts.{bytes_left, last_touch}
use Rattle.salus_model.specs.Judge.{judged_all, front_from}
use Rattle.salus_model.specs.Following.{Posted}
use Rattle.volume_model.specs.Groups.{is_client}
use Rattle.salus_model.specs.Hearing.{since, phase_of}
use Rattle.salus_model.specs.Waiting.{left_of, all_taken, live, questions_from, questions}
use Rattle.salus_model.specs.Answering.{present_root, is_known, first_strike}
use Rattle.holding_model.specs.Fitting.{ascends_from, record_fits, blocks_written, has_shape}
use Rattle.volume_model.specs.Recovering.{header_fits, chain_ends, ends_of, picks, recovered, choice_of}
use Rattle.salus_model.specs.Opening.{replies_to, pool_of, all_staged, has_switched}
use Rattle.salus_model.specs.Due.{of_event, acks_due, due_news, past_event, sent_after, pasts_from, lines_from, lines_due}
use Rattle.salus_message.specs.Spelling.{prepared_bytes, committed_bytes, asked_bytes, ask_bytes, path_bytes, answer_bytes, bases_bytes, records_bytes, gathered_bytes, dump_bytes, dumped_bytes}
use Rattle.client_rules.specs.Tables.{struck_from, line_of, claim_of}
use Rattle.client_rules.specs.Submitting.{next_part}
use Rattle.client_rules.specs.Serving.{leaves, requested_here, answered_here, acks, committed_here, ticked_here}
use Rattle.client_rules.specs.Opening.{base_record, restarted, gathered_here, dumped_here, staged_here, switched_here}
use Rattle.client_rules.specs.Rules.{new_client, requested, received, ticked, told, client_lines, client_letters, posted_letter}

abbrev volume_here : Volume
volume_here = record { geometry = record { regions_log = 1; height = 0; block = 1; replicas = 1 }; key = 107 ∷ [] }

abbrev events_here : List Event
events_here =
    event.Read 2
    ∷ event.Reassign 2 2
    ∷ event.Read 1
    ∷ event.Reassign 3 0
    ∷ event.Settle 10
    ∷ event.Reassign 4 1
    ∷ event.Tick (sender.Client)
    ∷ event.Settle 1
    ∷ event.Settle 1
    ∷ event.Tick (sender.Client)
    ∷ event.Settle 1
    ∷ event.Settle 1
    ∷ event.Settle 1
    ∷ event.Tick (sender.Client)
    ∷ event.Settle 20
    ∷ event.Write (record { block = 0; bytes = 1 ∷ [] } ∷ record { block = 1; bytes = 2 ∷ [] } ∷ record { block = 0; bytes = 3 ∷ [] } ∷ [])
    ∷ event.Settle 30
    ∷ event.Barrier
    ∷ event.Settle 10 ∷ []

abbrev posts_here : List Posted
posts_here =
    record { from = sender.Client; to = sender.Node (record { region = 1; replica = 0 }); bytes = 4 ∷ 0 ∷ 0 ∷ 0 ∷ 0 ∷ 0 ∷ 0 ∷ 0 ∷ 1 ∷ 0 ∷ 0 ∷ 0 ∷ 0 ∷ 0 ∷ 0 ∷ 0 ∷ 3 ∷ 0 ∷ 0 ∷ 0 ∷ 1 ∷ 0 ∷ 0 ∷ 0 ∷ 0 ∷ 0 ∷ 0 ∷ 0 ∷ 0 ∷ [] }
    ∷ record { from = sender.Node (record { region = 1; replica = 0 }); to = sender.Client; bytes = 5 ∷ 0 ∷ 0 ∷ 0 ∷ 0 ∷ 0 ∷ 0 ∷ 0 ∷ 1 ∷ 0 ∷ 0 ∷ 0 ∷ 0 ∷ 0 ∷ 0 ∷ 0 ∷ 3 ∷ 0 ∷ 0 ∷ 0 ∷ 1 ∷ 0 ∷ 0 ∷ 0 ∷ 0 ∷ 0 ∷ 0 ∷ 0 ∷ 0 ∷ 0 ∷ 1 ∷ 0 ∷ 0 ∷ [] }
    ∷ record { from = sender.Client; to = sender.Node (record { region = 1; replica = 0 }); bytes = 12 ∷ 0 ∷ 0 ∷ 0 ∷ 0 ∷ 0 ∷ 0 ∷ 0 ∷ 1 ∷ 0 ∷ 1 ∷ [] }
    ∷ record { from = sender.Client; to = sender.Node (record { region = 1; replica = 0 }); bytes = 12 ∷ 0 ∷ 0 ∷ 0 ∷ 0 ∷ 0 ∷ 0 ∷ 0 ∷ 1 ∷ 0 ∷ 1 ∷ [] }
    ∷ record { from = sender.Node (record { region = 1; replica = 0 }); to = sender.Client; bytes = 13 ∷ 0 ∷ 0 ∷ 0 ∷ 0 ∷ 0 ∷ 0 ∷ 0 ∷ 1 ∷ 0 ∷ 1 ∷ 0 ∷ 0 ∷ 0 ∷ 0 ∷ 0 ∷ 0 ∷ 0 ∷ 0 ∷ 0 ∷ 0 ∷ 0 ∷ 1 ∷ 0 ∷ 1 ∷ 0 ∷ [] }
    ∷ record { from = sender.Node (record { region = 1; replica = 0 }); to = sender.Client; bytes = 13 ∷ 0 ∷ 0 ∷ 0 ∷ 0 ∷ 0 ∷ 0 ∷ 0 ∷ 1 ∷ 0 ∷ 1 ∷ 0 ∷ 0 ∷ 0 ∷ 0 ∷ 0 ∷ 0 ∷ 0 ∷ 0 ∷ 0 ∷ 0 ∷ 0 ∷ 1 ∷ 0 ∷ 1 ∷ 0 ∷ [] }
    ∷ record { from = sender.Client; to = sender.Node (record { region = 1; replica = 0 }); bytes = 12 ∷ 0 ∷ 0 ∷ 0 ∷ 0 ∷ 0 ∷ 0 ∷ 0 ∷ 1 ∷ 0 ∷ 1 ∷ [] }
    ∷ record { from = sender.Client; to = sender.Node (record { region = 0; replica = 0 }); bytes = 8 ∷ 1 ∷ 0 ∷ 0 ∷ 0 ∷ 0 ∷ 0 ∷ 0 ∷ 0 ∷ 4 ∷ 0 ∷ 0 ∷ 0 ∷ 0 ∷ 0 ∷ 0 ∷ 0 ∷ 0 ∷ 0 ∷ 0 ∷ 0 ∷ 0 ∷ 0 ∷ 0 ∷ 0 ∷ 0 ∷ 0 ∷ 0 ∷ 0 ∷ 0 ∷ 2 ∷ 0 ∷ 0 ∷ 0 ∷ 0 ∷ 0 ∷ 0 ∷ 0 ∷ 0 ∷ 0 ∷ 0 ∷ 0 ∷ 0 ∷ 0 ∷ 0 ∷ 0 ∷ 0 ∷ 2 ∷ 0 ∷ 0 ∷ 0 ∷ 1 ∷ 150 ∷ 162 ∷ 150 ∷ 210 ∷ 36 ∷ 242 ∷ 133 ∷ 198 ∷ 123 ∷ 238 ∷ 147 ∷ 195 ∷ 15 ∷ 138 ∷ 48 ∷ 145 ∷ 87 ∷ 240 ∷ 218 ∷ 163 ∷ 93 ∷ 197 ∷ 184 ∷ 126 ∷ 65 ∷ 11 ∷ 120 ∷ 99 ∷ 10 ∷ 9 ∷ 207 ∷ 199 ∷ 204 ∷ 58 ∷ 89 ∷ 131 ∷ 233 ∷ 10 ∷ 146 ∷ 110 ∷ 183 ∷ 23 ∷ 83 ∷ 67 ∷ 85 ∷ 240 ∷ 141 ∷ 186 ∷ 186 ∷ 150 ∷ 64 ∷ 52 ∷ 186 ∷ 82 ∷ 30 ∷ 138 ∷ 181 ∷ 238 ∷ 68 ∷ 177 ∷ 110 ∷ 254 ∷ 52 ∷ 139 ∷ 0 ∷ 47 ∷ 77 ∷ 150 ∷ 172 ∷ 154 ∷ 155 ∷ 19 ∷ 96 ∷ 187 ∷ 134 ∷ 191 ∷ 2 ∷ 243 ∷ 102 ∷ 159 ∷ 251 ∷ 71 ∷ 138 ∷ 97 ∷ 89 ∷ 238 ∷ 143 ∷ 53 ∷ 14 ∷ 96 ∷ 35 ∷ 146 ∷ 107 ∷ 200 ∷ 184 ∷ 144 ∷ 221 ∷ 0 ∷ 0 ∷ 0 ∷ 0 ∷ 0 ∷ 0 ∷ [] }
    ∷ record { from = sender.Client; to = sender.Node (record { region = 1; replica = 0 }); bytes = 8 ∷ 1 ∷ 0 ∷ 0 ∷ 0 ∷ 0 ∷ 0 ∷ 0 ∷ 0 ∷ 4 ∷ 0 ∷ 0 ∷ 0 ∷ 0 ∷ 0 ∷ 0 ∷ 0 ∷ 0 ∷ 0 ∷ 1 ∷ 0 ∷ 0 ∷ 0 ∷ 0 ∷ 0 ∷ 0 ∷ 0 ∷ 0 ∷ 0 ∷ 0 ∷ 2 ∷ 0 ∷ 0 ∷ 0 ∷ 0 ∷ 0 ∷ 0 ∷ 0 ∷ 0 ∷ 0 ∷ 0 ∷ 0 ∷ 0 ∷ 0 ∷ 0 ∷ 0 ∷ 0 ∷ 2 ∷ 0 ∷ 0 ∷ 0 ∷ 1 ∷ 150 ∷ 162 ∷ 150 ∷ 210 ∷ 36 ∷ 242 ∷ 133 ∷ 198 ∷ 123 ∷ 238 ∷ 147 ∷ 195 ∷ 15 ∷ 138 ∷ 48 ∷ 145 ∷ 87 ∷ 240 ∷ 218 ∷ 163 ∷ 93 ∷ 197 ∷ 184 ∷ 126 ∷ 65 ∷ 11 ∷ 120 ∷ 99 ∷ 10 ∷ 9 ∷ 207 ∷ 199 ∷ 204 ∷ 58 ∷ 89 ∷ 131 ∷ 233 ∷ 10 ∷ 146 ∷ 110 ∷ 183 ∷ 23 ∷ 83 ∷ 67 ∷ 85 ∷ 240 ∷ 141 ∷ 186 ∷ 186 ∷ 150 ∷ 64 ∷ 52 ∷ 186 ∷ 82 ∷ 30 ∷ 138 ∷ 181 ∷ 238 ∷ 68 ∷ 177 ∷ 110 ∷ 254 ∷ 52 ∷ 139 ∷ 0 ∷ 37 ∷ 191 ∷ 65 ∷ 168 ∷ 160 ∷ 8 ∷ 130 ∷ 179 ∷ 244 ∷ 226 ∷ 240 ∷ 153 ∷ 208 ∷ 9 ∷ 16 ∷ 177 ∷ 226 ∷ 241 ∷ 75 ∷ 95 ∷ 73 ∷ 97 ∷ 125 ∷ 135 ∷ 88 ∷ 244 ∷ 213 ∷ 154 ∷ 17 ∷ 104 ∷ 135 ∷ 207 ∷ 0 ∷ 0 ∷ 0 ∷ 1 ∷ 0 ∷ 1 ∷ 0 ∷ [] }
    ∷ record { from = sender.Node (record { region = 1; replica = 0 }); to = sender.Client; bytes = 13 ∷ 0 ∷ 0 ∷ 0 ∷ 0 ∷ 0 ∷ 0 ∷ 0 ∷ 1 ∷ 0 ∷ 1 ∷ 0 ∷ 0 ∷ 0 ∷ 0 ∷ 0 ∷ 0 ∷ 0 ∷ 0 ∷ 0 ∷ 0 ∷ 0 ∷ 1 ∷ 0 ∷ 1 ∷ 0 ∷ [] }
    ∷ record { from = sender.Client; to = sender.Node (record { region = 0; replica = 0 }); bytes = 8 ∷ 1 ∷ 0 ∷ 0 ∷ 0 ∷ 0 ∷ 0 ∷ 0 ∷ 0 ∷ 4 ∷ 0 ∷ 0 ∷ 0 ∷ 0 ∷ 0 ∷ 0 ∷ 0 ∷ 0 ∷ 0 ∷ 0 ∷ 0 ∷ 0 ∷ 0 ∷ 0 ∷ 0 ∷ 0 ∷ 0 ∷ 0 ∷ 0 ∷ 0 ∷ 2 ∷ 0 ∷ 0 ∷ 0 ∷ 0 ∷ 0 ∷ 0 ∷ 0 ∷ 0 ∷ 0 ∷ 0 ∷ 0 ∷ 0 ∷ 0 ∷ 0 ∷ 0 ∷ 0 ∷ 2 ∷ 0 ∷ 0 ∷ 0 ∷ 1 ∷ 150 ∷ 162 ∷ 150 ∷ 210 ∷ 36 ∷ 242 ∷ 133 ∷ 198 ∷ 123 ∷ 238 ∷ 147 ∷ 195 ∷ 15 ∷ 138 ∷ 48 ∷ 145 ∷ 87 ∷ 240 ∷ 218 ∷ 163 ∷ 93 ∷ 197 ∷ 184 ∷ 126 ∷ 65 ∷ 11 ∷ 120 ∷ 99 ∷ 10 ∷ 9 ∷ 207 ∷ 199 ∷ 204 ∷ 58 ∷ 89 ∷ 131 ∷ 233 ∷ 10 ∷ 146 ∷ 110 ∷ 183 ∷ 23 ∷ 83 ∷ 67 ∷ 85 ∷ 240 ∷ 141 ∷ 186 ∷ 186 ∷ 150 ∷ 64 ∷ 52 ∷ 186 ∷ 82 ∷ 30 ∷ 138 ∷ 181 ∷ 238 ∷ 68 ∷ 177 ∷ 110 ∷ 254 ∷ 52 ∷ 139 ∷ 0 ∷ 47 ∷ 77 ∷ 150 ∷ 172 ∷ 154 ∷ 155 ∷ 19 ∷ 96 ∷ 187 ∷ 134 ∷ 191 ∷ 2 ∷ 243 ∷ 102 ∷ 159 ∷ 251 ∷ 71 ∷ 138 ∷ 97 ∷ 89 ∷ 238 ∷ 143 ∷ 53 ∷ 14 ∷ 96 ∷ 35 ∷ 146 ∷ 107 ∷ 200 ∷ 184 ∷ 144 ∷ 221 ∷ 0 ∷ 0 ∷ 0 ∷ 0 ∷ 0 ∷ 0 ∷ [] }
    ∷ record { from = sender.Client; to = sender.Node (record { region = 1; replica = 0 }); bytes = 8 ∷ 1 ∷ 0 ∷ 0 ∷ 0 ∷ 0 ∷ 0 ∷ 0 ∷ 0 ∷ 4 ∷ 0 ∷ 0 ∷ 0 ∷ 0 ∷ 0 ∷ 0 ∷ 0 ∷ 0 ∷ 0 ∷ 1 ∷ 0 ∷ 0 ∷ 0 ∷ 0 ∷ 0 ∷ 0 ∷ 0 ∷ 0 ∷ 0 ∷ 0 ∷ 2 ∷ 0 ∷ 0 ∷ 0 ∷ 0 ∷ 0 ∷ 0 ∷ 0 ∷ 0 ∷ 0 ∷ 0 ∷ 0 ∷ 0 ∷ 0 ∷ 0 ∷ 0 ∷ 0 ∷ 2 ∷ 0 ∷ 0 ∷ 0 ∷ 1 ∷ 150 ∷ 162 ∷ 150 ∷ 210 ∷ 36 ∷ 242 ∷ 133 ∷ 198 ∷ 123 ∷ 238 ∷ 147 ∷ 195 ∷ 15 ∷ 138 ∷ 48 ∷ 145 ∷ 87 ∷ 240 ∷ 218 ∷ 163 ∷ 93 ∷ 197 ∷ 184 ∷ 126 ∷ 65 ∷ 11 ∷ 120 ∷ 99 ∷ 10 ∷ 9 ∷ 207 ∷ 199 ∷ 204 ∷ 58 ∷ 89 ∷ 131 ∷ 233 ∷ 10 ∷ 146 ∷ 110 ∷ 183 ∷ 23 ∷ 83 ∷ 67 ∷ 85 ∷ 240 ∷ 141 ∷ 186 ∷ 186 ∷ 150 ∷ 64 ∷ 52 ∷ 186 ∷ 82 ∷ 30 ∷ 138 ∷ 181 ∷ 238 ∷ 68 ∷ 177 ∷ 110 ∷ 254 ∷ 52 ∷ 139 ∷ 0 ∷ 37 ∷ 191 ∷ 65 ∷ 168 ∷ 160 ∷ 8 ∷ 130 ∷ 179 ∷ 244 ∷ 226 ∷ 240 ∷ 153 ∷ 208 ∷ 9 ∷ 16 ∷ 177 ∷ 226 ∷ 241 ∷ 75 ∷ 95 ∷ 73 ∷ 97 ∷ 125 ∷ 135 ∷ 88 ∷ 244 ∷ 213 ∷ 154 ∷ 17 ∷ 104 ∷ 135 ∷ 207 ∷ 0 ∷ 0 ∷ 0 ∷ 1 ∷ 0 ∷ 1 ∷ 0 ∷ [] }
    ∷ record { from = sender.Node (record { region = 0; replica = 0 }); to = sender.Client; bytes = 9 ∷ 0 ∷ 0 ∷ 0 ∷ 0 ∷ 0 ∷ 0 ∷ 0 ∷ 4 ∷ [] }
    ∷ record { from = sender.Node (record { region = 1; replica = 0 }); to = sender.Client; bytes = 9 ∷ 0 ∷ 0 ∷ 0 ∷ 0 ∷ 0 ∷ 0 ∷ 0 ∷ 4 ∷ [] }
    ∷ record { from = sender.Node (record { region = 0; replica = 0 }); to = sender.Client; bytes = 9 ∷ 0 ∷ 0 ∷ 0 ∷ 0 ∷ 0 ∷ 0 ∷ 0 ∷ 4 ∷ [] }
    ∷ record { from = sender.Node (record { region = 1; replica = 0 }); to = sender.Client; bytes = 9 ∷ 0 ∷ 0 ∷ 0 ∷ 0 ∷ 0 ∷ 0 ∷ 0 ∷ 4 ∷ [] }
    ∷ record { from = sender.Client; to = sender.Node (record { region = 0; replica = 0 }); bytes = 10 ∷ 0 ∷ 0 ∷ 0 ∷ 0 ∷ 0 ∷ 0 ∷ 0 ∷ 4 ∷ [] }
    ∷ record { from = sender.Client; to = sender.Node (record { region = 1; replica = 0 }); bytes = 10 ∷ 0 ∷ 0 ∷ 0 ∷ 0 ∷ 0 ∷ 0 ∷ 0 ∷ 4 ∷ [] }
    ∷ record { from = sender.Node (record { region = 0; replica = 0 }); to = sender.Client; bytes = 11 ∷ 0 ∷ 0 ∷ 0 ∷ 0 ∷ 0 ∷ 0 ∷ 0 ∷ 4 ∷ [] }
    ∷ record { from = sender.Node (record { region = 1; replica = 0 }); to = sender.Client; bytes = 11 ∷ 0 ∷ 0 ∷ 0 ∷ 0 ∷ 0 ∷ 0 ∷ 0 ∷ 4 ∷ [] }
    ∷ record { from = sender.Client; to = sender.Node (record { region = 0; replica = 0 }); bytes = 4 ∷ 0 ∷ 0 ∷ 0 ∷ 0 ∷ 0 ∷ 0 ∷ 0 ∷ 4 ∷ 0 ∷ 0 ∷ 0 ∷ 1 ∷ 0 ∷ 0 ∷ 0 ∷ 16 ∷ 0 ∷ 0 ∷ 0 ∷ 0 ∷ 0 ∷ 0 ∷ 0 ∷ 0 ∷ 0 ∷ 0 ∷ 0 ∷ 0 ∷ [] }
    ∷ record { from = sender.Client; to = sender.Node (record { region = 1; replica = 0 }); bytes = 4 ∷ 0 ∷ 0 ∷ 0 ∷ 0 ∷ 0 ∷ 0 ∷ 0 ∷ 4 ∷ 0 ∷ 0 ∷ 0 ∷ 2 ∷ 0 ∷ 0 ∷ 0 ∷ 16 ∷ 0 ∷ 0 ∷ 0 ∷ 1 ∷ 0 ∷ 0 ∷ 0 ∷ 0 ∷ 0 ∷ 0 ∷ 0 ∷ 0 ∷ [] }
    ∷ record { from = sender.Node (record { region = 0; replica = 0 }); to = sender.Client; bytes = 5 ∷ 0 ∷ 0 ∷ 0 ∷ 0 ∷ 0 ∷ 0 ∷ 0 ∷ 4 ∷ 0 ∷ 0 ∷ 0 ∷ 1 ∷ 0 ∷ 0 ∷ 0 ∷ 16 ∷ 0 ∷ 0 ∷ 0 ∷ 0 ∷ 0 ∷ 0 ∷ 0 ∷ 0 ∷ 0 ∷ 0 ∷ 0 ∷ 0 ∷ 0 ∷ 1 ∷ 0 ∷ 0 ∷ [] }
    ∷ record { from = sender.Node (record { region = 1; replica = 0 }); to = sender.Client; bytes = 5 ∷ 0 ∷ 0 ∷ 0 ∷ 0 ∷ 0 ∷ 0 ∷ 0 ∷ 4 ∷ 0 ∷ 0 ∷ 0 ∷ 2 ∷ 0 ∷ 0 ∷ 0 ∷ 16 ∷ 0 ∷ 0 ∷ 0 ∷ 1 ∷ 0 ∷ 0 ∷ 0 ∷ 0 ∷ 0 ∷ 0 ∷ 0 ∷ 0 ∷ 0 ∷ 1 ∷ 0 ∷ 0 ∷ [] }
    ∷ record { from = sender.Client; to = sender.Node (record { region = 0; replica = 0 }); bytes = 1 ∷ 1 ∷ 0 ∷ 0 ∷ 0 ∷ 0 ∷ 0 ∷ 0 ∷ 0 ∷ 4 ∷ 0 ∷ 0 ∷ 0 ∷ 0 ∷ 0 ∷ 0 ∷ 0 ∷ 1 ∷ 0 ∷ 0 ∷ 0 ∷ 0 ∷ 0 ∷ 0 ∷ 0 ∷ 0 ∷ 0 ∷ 0 ∷ 0 ∷ 0 ∷ 2 ∷ 0 ∷ 0 ∷ 0 ∷ 0 ∷ 0 ∷ 0 ∷ 0 ∷ 1 ∷ 0 ∷ 0 ∷ 0 ∷ 0 ∷ 0 ∷ 0 ∷ 0 ∷ 1 ∷ 2 ∷ 0 ∷ 0 ∷ 0 ∷ 1 ∷ 88 ∷ 60 ∷ 125 ∷ 251 ∷ 123 ∷ 48 ∷ 85 ∷ 217 ∷ 148 ∷ 101 ∷ 84 ∷ 64 ∷ 50 ∷ 165 ∷ 113 ∷ 225 ∷ 10 ∷ 19 ∷ 75 ∷ 27 ∷ 111 ∷ 118 ∷ 148 ∷ 34 ∷ 187 ∷ 183 ∷ 31 ∷ 215 ∷ 250 ∷ 22 ∷ 122 ∷ 93 ∷ 239 ∷ 75 ∷ 36 ∷ 219 ∷ 134 ∷ 54 ∷ 54 ∷ 104 ∷ 153 ∷ 196 ∷ 168 ∷ 245 ∷ 75 ∷ 115 ∷ 6 ∷ 140 ∷ 10 ∷ 109 ∷ 173 ∷ 189 ∷ 179 ∷ 109 ∷ 50 ∷ 144 ∷ 222 ∷ 119 ∷ 49 ∷ 2 ∷ 180 ∷ 130 ∷ 234 ∷ 242 ∷ 1 ∷ 0 ∷ 0 ∷ 0 ∷ 1 ∷ 3 ∷ 71 ∷ 23 ∷ 97 ∷ 137 ∷ 43 ∷ 200 ∷ 17 ∷ 32 ∷ 108 ∷ 38 ∷ 212 ∷ 201 ∷ 148 ∷ 88 ∷ 106 ∷ 196 ∷ 171 ∷ 124 ∷ 41 ∷ 234 ∷ 250 ∷ 148 ∷ 105 ∷ 110 ∷ 153 ∷ 84 ∷ 87 ∷ 43 ∷ 221 ∷ 96 ∷ 60 ∷ 22 ∷ [] }
    ∷ record { from = sender.Client; to = sender.Node (record { region = 1; replica = 0 }); bytes = 1 ∷ 1 ∷ 0 ∷ 0 ∷ 0 ∷ 0 ∷ 0 ∷ 0 ∷ 0 ∷ 4 ∷ 0 ∷ 0 ∷ 0 ∷ 0 ∷ 0 ∷ 0 ∷ 0 ∷ 1 ∷ 0 ∷ 1 ∷ 0 ∷ 0 ∷ 0 ∷ 0 ∷ 0 ∷ 0 ∷ 0 ∷ 0 ∷ 0 ∷ 0 ∷ 2 ∷ 0 ∷ 0 ∷ 0 ∷ 0 ∷ 0 ∷ 0 ∷ 0 ∷ 1 ∷ 0 ∷ 0 ∷ 0 ∷ 0 ∷ 0 ∷ 0 ∷ 0 ∷ 1 ∷ 2 ∷ 0 ∷ 0 ∷ 0 ∷ 1 ∷ 252 ∷ 240 ∷ 166 ∷ 199 ∷ 0 ∷ 221 ∷ 19 ∷ 226 ∷ 116 ∷ 182 ∷ 251 ∷ 168 ∷ 222 ∷ 234 ∷ 141 ∷ 217 ∷ 178 ∷ 110 ∷ 78 ∷ 237 ∷ 222 ∷ 52 ∷ 149 ∷ 113 ∷ 124 ∷ 172 ∷ 132 ∷ 8 ∷ 201 ∷ 197 ∷ 23 ∷ 127 ∷ 239 ∷ 75 ∷ 36 ∷ 219 ∷ 134 ∷ 54 ∷ 54 ∷ 104 ∷ 153 ∷ 196 ∷ 168 ∷ 245 ∷ 75 ∷ 115 ∷ 6 ∷ 140 ∷ 10 ∷ 109 ∷ 173 ∷ 189 ∷ 179 ∷ 109 ∷ 50 ∷ 144 ∷ 222 ∷ 119 ∷ 49 ∷ 2 ∷ 180 ∷ 130 ∷ 234 ∷ 242 ∷ 1 ∷ 0 ∷ 0 ∷ 0 ∷ 1 ∷ 2 ∷ 74 ∷ 94 ∷ 35 ∷ 117 ∷ 59 ∷ 173 ∷ 170 ∷ 57 ∷ 66 ∷ 185 ∷ 35 ∷ 191 ∷ 137 ∷ 30 ∷ 67 ∷ 159 ∷ 177 ∷ 234 ∷ 204 ∷ 3 ∷ 65 ∷ 3 ∷ 13 ∷ 96 ∷ 202 ∷ 19 ∷ 81 ∷ 160 ∷ 61 ∷ 241 ∷ 93 ∷ 130 ∷ [] }
    ∷ record { from = sender.Node (record { region = 0; replica = 0 }); to = sender.Node (record { region = 0; replica = 0 }); bytes = 2 ∷ 0 ∷ 0 ∷ 0 ∷ 0 ∷ 0 ∷ 0 ∷ 0 ∷ 4 ∷ 0 ∷ 0 ∷ 0 ∷ 0 ∷ 0 ∷ 0 ∷ 0 ∷ 1 ∷ 0 ∷ 0 ∷ 88 ∷ 60 ∷ 125 ∷ 251 ∷ 123 ∷ 48 ∷ 85 ∷ 217 ∷ 148 ∷ 101 ∷ 84 ∷ 64 ∷ 50 ∷ 165 ∷ 113 ∷ 225 ∷ 10 ∷ 19 ∷ 75 ∷ 27 ∷ 111 ∷ 118 ∷ 148 ∷ 34 ∷ 187 ∷ 183 ∷ 31 ∷ 215 ∷ 250 ∷ 22 ∷ 122 ∷ 93 ∷ [] }
    ∷ record { from = sender.Node (record { region = 1; replica = 0 }); to = sender.Node (record { region = 0; replica = 0 }); bytes = 2 ∷ 0 ∷ 0 ∷ 0 ∷ 0 ∷ 0 ∷ 0 ∷ 0 ∷ 4 ∷ 0 ∷ 0 ∷ 0 ∷ 0 ∷ 0 ∷ 0 ∷ 0 ∷ 1 ∷ 0 ∷ 1 ∷ 252 ∷ 240 ∷ 166 ∷ 199 ∷ 0 ∷ 221 ∷ 19 ∷ 226 ∷ 116 ∷ 182 ∷ 251 ∷ 168 ∷ 222 ∷ 234 ∷ 141 ∷ 217 ∷ 178 ∷ 110 ∷ 78 ∷ 237 ∷ 222 ∷ 52 ∷ 149 ∷ 113 ∷ 124 ∷ 172 ∷ 132 ∷ 8 ∷ 201 ∷ 197 ∷ 23 ∷ 127 ∷ [] }
    ∷ record { from = sender.Node (record { region = 0; replica = 0 }); to = sender.Client; bytes = 3 ∷ 0 ∷ 0 ∷ 0 ∷ 0 ∷ 0 ∷ 0 ∷ 0 ∷ 4 ∷ 0 ∷ 0 ∷ 0 ∷ 0 ∷ 0 ∷ 0 ∷ 0 ∷ 1 ∷ [] }
    ∷ record { from = sender.Node (record { region = 0; replica = 0 }); to = sender.Node (record { region = 0; replica = 0 }); bytes = 3 ∷ 0 ∷ 0 ∷ 0 ∷ 0 ∷ 0 ∷ 0 ∷ 0 ∷ 4 ∷ 0 ∷ 0 ∷ 0 ∷ 0 ∷ 0 ∷ 0 ∷ 0 ∷ 1 ∷ [] }
    ∷ record { from = sender.Node (record { region = 0; replica = 0 }); to = sender.Node (record { region = 1; replica = 0 }); bytes = 3 ∷ 0 ∷ 0 ∷ 0 ∷ 0 ∷ 0 ∷ 0 ∷ 0 ∷ 4 ∷ 0 ∷ 0 ∷ 0 ∷ 0 ∷ 0 ∷ 0 ∷ 0 ∷ 1 ∷ [] }
    ∷ []

abbrev trace_here : List TraceStep
trace_here =
    record { event = 1; party = sender.Client; handed = handed.Asked (request.Read 2); sent = 0; failed = false; loaded = None }
    ∷ record { event = 2; party = sender.Client; handed = handed.Asked (request.Reassign 2 2); sent = 0; failed = false; loaded = None }
    ∷ record { event = 3; party = sender.Client; handed = handed.Asked (request.Read 1); sent = 1; failed = false; loaded = None }
    ∷ record { event = 4; party = sender.Client; handed = handed.Asked (request.Reassign 3 0); sent = 1; failed = false; loaded = None }
    ∷ record { event = 5; party = sender.Node (record { region = 1; replica = 0 }); handed = handed.Deliver 1; sent = 2; failed = false; loaded = None }
    ∷ record { event = 5; party = sender.Client; handed = handed.Deliver 2; sent = 2; failed = false; loaded = None }
    ∷ record { event = 6; party = sender.Client; handed = handed.Asked (request.Reassign 4 1); sent = 3; failed = false; loaded = None }
    ∷ record { event = 7; party = sender.Client; handed = handed.Tick; sent = 4; failed = false; loaded = None }
    ∷ record { event = 8; party = sender.Node (record { region = 1; replica = 0 }); handed = handed.Deliver 3; sent = 5; failed = false; loaded = None }
    ∷ record { event = 9; party = sender.Node (record { region = 1; replica = 0 }); handed = handed.Deliver 4; sent = 6; failed = false; loaded = None }
    ∷ record { event = 10; party = sender.Client; handed = handed.Tick; sent = 7; failed = false; loaded = None }
    ∷ record { event = 11; party = sender.Client; handed = handed.Deliver 5; sent = 9; failed = false; loaded = None }
    ∷ record { event = 12; party = sender.Client; handed = handed.Deliver 6; sent = 9; failed = false; loaded = None }
    ∷ record { event = 13; party = sender.Node (record { region = 1; replica = 0 }); handed = handed.Deliver 7; sent = 10; failed = false; loaded = None }
    ∷ record { event = 14; party = sender.Client; handed = handed.Tick; sent = 12; failed = false; loaded = None }
    ∷ record { event = 15; party = sender.Node (record { region = 0; replica = 0 }); handed = handed.Deliver 8; sent = 13; failed = false; loaded = None }
    ∷ record { event = 15; party = sender.Node (record { region = 1; replica = 0 }); handed = handed.Deliver 9; sent = 14; failed = false; loaded = None }
    ∷ record { event = 15; party = sender.Client; handed = handed.Deliver 10; sent = 14; failed = false; loaded = None }
    ∷ record { event = 15; party = sender.Node (record { region = 0; replica = 0 }); handed = handed.Deliver 11; sent = 15; failed = false; loaded = None }
    ∷ record { event = 15; party = sender.Node (record { region = 1; replica = 0 }); handed = handed.Deliver 12; sent = 16; failed = false; loaded = None }
    ∷ record { event = 15; party = sender.Client; handed = handed.Deliver 13; sent = 16; failed = false; loaded = None }
    ∷ record { event = 15; party = sender.Client; handed = handed.Deliver 14; sent = 18; failed = false; loaded = None }
    ∷ record { event = 15; party = sender.Client; handed = handed.Deliver 15; sent = 18; failed = false; loaded = None }
    ∷ record { event = 15; party = sender.Client; handed = handed.Deliver 16; sent = 18; failed = false; loaded = None }
    ∷ record { event = 15; party = sender.Node (record { region = 0; replica = 0 }); handed = handed.Deliver 17; sent = 19; failed = false; loaded = None }
    ∷ record { event = 15; party = sender.Node (record { region = 1; replica = 0 }); handed = handed.Deliver 18; sent = 20; failed = false; loaded = None }
    ∷ record { event = 15; party = sender.Client; handed = handed.Deliver 19; sent = 20; failed = false; loaded = None }
    ∷ record { event = 15; party = sender.Client; handed = handed.Deliver 20; sent = 20; failed = false; loaded = None }
    ∷ record { event = 16; party = sender.Client; handed = handed.Asked (request.Write (record { block = 0; bytes = 1 ∷ [] } ∷ record { block = 1; bytes = 2 ∷ [] } ∷ record { block = 0; bytes = 3 ∷ [] } ∷ [])); sent = 22; failed = false; loaded = None }
    ∷ record { event = 17; party = sender.Node (record { region = 0; replica = 0 }); handed = handed.Deliver 21; sent = 23; failed = false; loaded = None }
    ∷ record { event = 17; party = sender.Node (record { region = 1; replica = 0 }); handed = handed.Deliver 22; sent = 24; failed = false; loaded = None }
    ∷ record { event = 17; party = sender.Client; handed = handed.Deliver 23; sent = 24; failed = false; loaded = None }
    ∷ record { event = 17; party = sender.Client; handed = handed.Deliver 24; sent = 26; failed = false; loaded = None }
    ∷ record { event = 17; party = sender.Node (record { region = 0; replica = 0 }); handed = handed.Deliver 25; sent = 27; failed = false; loaded = None }
    ∷ record { event = 17; party = sender.Node (record { region = 1; replica = 0 }); handed = handed.Deliver 26; sent = 28; failed = false; loaded = None }
    ∷ record { event = 17; party = sender.Node (record { region = 0; replica = 0 }); handed = handed.Deliver 27; sent = 28; failed = false; loaded = None }
    ∷ record { event = 17; party = sender.Node (record { region = 0; replica = 0 }); handed = handed.Deliver 28; sent = 31; failed = false; loaded = None }
    ∷ record { event = 17; party = sender.Client; handed = handed.Deliver 29; sent = 31; failed = false; loaded = None }
    ∷ record { event = 17; party = sender.Node (record { region = 0; replica = 0 }); handed = handed.Deliver 30; sent = 31; failed = false; loaded = None }
    ∷ record { event = 17; party = sender.Node (record { region = 1; replica = 0 }); handed = handed.Deliver 31; sent = 31; failed = false; loaded = None }
    ∷ record { event = 18; party = sender.Client; handed = handed.Asked (request.Barrier); sent = 31; failed = false; loaded = None }
    ∷ []

-- the client's rules send exactly the messages of the client in this run
pub letters-fetch2 : map posted_letter (client_letters volume_here posts_here (new_client volume_here.geometry) trace_here) ≡ filter (λ m. is_client m.from) posts_here
unfolding left_of of_event lines_from pasts_from past_event sent_after due_news acks_due is_known first_strike present_root questions questions_from live all_taken phase_of since judged_all front_from last_touch bytes_left apply fold_batches top_of root_of climb message_at prepared_at committed_at asked_at ask_at path_at answer_at bases_at records_at gathered_at dump_at dumped_at batch_at before_at numbers_at regions_at after_at header_at write_at writes_at record_at blocks_at base_at batch_bytes before_bytes numbers_bytes regions_bytes after_bytes header_bytes write_bytes writes_bytes payload_bytes be1 be2 be4 be8 times bytes_at u8_at u16_at u32_at u64_at ascends_from record_fits blocks_written has_shape header_fits chain_ends ends_of picks recovered choice_of replies_to pool_of all_staged has_switched is_genuine hmac sha256 first_words schedule rounds compress hash_after digest_bytes line_of claim_of next_part leaves requested_here answered_here acks committed_here ticked_here base_record restarted gathered_here dumped_here staged_here switched_here requested received ticked told client_lines client_letters struck_from prepared_bytes committed_bytes asked_bytes ask_bytes path_bytes answer_bytes bases_bytes records_bytes gathered_bytes dump_bytes dumped_bytes record_bytes blocks_bytes base_bytes
letters-fetch2 = refl

-- and give its lines
pub told-fetch2 : flat_map (λ ls. ls) (client_lines volume_here posts_here (new_client volume_here.geometry) trace_here) ≡ lines_due volume_here events_here posts_here trace_here
unfolding left_of of_event lines_from pasts_from past_event sent_after due_news acks_due is_known first_strike present_root questions questions_from live all_taken phase_of since judged_all front_from last_touch bytes_left apply fold_batches top_of root_of climb message_at prepared_at committed_at asked_at ask_at path_at answer_at bases_at records_at gathered_at dump_at dumped_at batch_at before_at numbers_at regions_at after_at header_at write_at writes_at record_at blocks_at base_at batch_bytes before_bytes numbers_bytes regions_bytes after_bytes header_bytes write_bytes writes_bytes payload_bytes be1 be2 be4 be8 times bytes_at u8_at u16_at u32_at u64_at ascends_from record_fits blocks_written has_shape header_fits chain_ends ends_of picks recovered choice_of replies_to pool_of all_staged has_switched is_genuine hmac sha256 first_words schedule rounds compress hash_after digest_bytes line_of claim_of next_part leaves requested_here answered_here acks committed_here ticked_here base_record restarted gathered_here dumped_here staged_here switched_here requested received ticked told client_lines client_letters struck_from prepared_bytes committed_bytes asked_bytes ask_bytes path_bytes answer_bytes bases_bytes records_bytes gathered_bytes dump_bytes dumped_bytes record_bytes blocks_bytes base_bytes
told-fetch2 = refl
