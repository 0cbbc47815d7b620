-- Stale, past and bad answers to reads and to the head, on two servers of two blocks.
use Rattle.std.proofs.Common.{map, ◌≡◌, List, [], ◌∷◌, false, refl}
use Rattle.std.specs.Prelude.{None, filter, flat_map}
use Rattle.sha2.specs.Sha256.{sha256, first_words, schedule, rounds, compress, hash_after, digest_bytes}
use Rattle.salus_types.specs.declared.names.Sender.TheVariants as sender
use Rattle.schedule_text.specs.declared.schedule.Volume.{Volume}
use Rattle.schedule_text.specs.declared.schedule.Event.{Event}
use Rattle.schedule_text.specs.declared.schedule.Event.TheVariants as event
use Rattle.salus_model.specs.declared.trace.Request.TheVariants as request
use Rattle.salus_model.specs.declared.trace.Handed.TheVariants as handed
use Rattle.salus_model.specs.declared.trace.TraceStep.{TraceStep}
use Rattle.salus_codec.specs.Spelling.{be1, be2, be4, be8}
use Rattle.salus_codec.specs.Reading.{bytes_at, u8_at, u16_at, u32_at, u64_at}
use Rattle.salus_codec.specs.Formats.{times}
use Rattle.client_tag.specs.Spelling.{batch_bytes, before_bytes, numbers_bytes, regions_bytes, after_bytes, header_bytes, write_bytes, writes_bytes, payload_bytes, record_bytes, blocks_bytes, base_bytes}
use Rattle.client_tag.specs.Reading.{batch_at, before_at, numbers_at, regions_at, after_at, header_at, write_at, writes_at, record_at, blocks_at, base_at}
use Rattle.salus_message.specs.Reading.{message_at, prepared_at, committed_at, asked_at, ask_at, path_at, answer_at, bases_at, records_at, gathered_at, dump_at, dumped_at}
use Rattle.merkle_region.specs.Tree.{root_of, climb}
use Rattle.volume_model.specs.Contents.{apply, fold_batches}
use Rattle.merkle_volume.specs.Top.{top_of}
use Rattle.salus_hash.specs.Hmac.{hmac}
use Rattle.client_tag.specs.Tags.{is_genuine}
use Rattle.volume_model.specs.Parts.{bytes_left, last_touch}
use Rattle.salus_model.specs.Judge.{judged_all, front_from}
use Rattle.salus_model.specs.Following.{Posted}
use Rattle.volume_model.specs.Groups.{is_client}
use Rattle.salus_model.specs.Hearing.{since, phase_of}
use Rattle.salus_model.specs.Waiting.{left_of, all_taken, live, questions_from, questions}
use Rattle.salus_model.specs.Answering.{present_root, is_known, first_strike}
use Rattle.holding_model.specs.Fitting.{ascends_from, record_fits, blocks_written, has_shape}
use Rattle.volume_model.specs.Recovering.{header_fits, chain_ends, ends_of, picks, recovered, choice_of}
use Rattle.salus_model.specs.Opening.{replies_to, pool_of, all_staged, has_switched}
use Rattle.salus_model.specs.Due.{of_event, acks_due, due_news, past_event, sent_after, pasts_from, lines_from, lines_due}
use Rattle.salus_message.specs.Spelling.{prepared_bytes, committed_bytes, asked_bytes, ask_bytes, path_bytes, answer_bytes, bases_bytes, records_bytes, gathered_bytes, dump_bytes, dumped_bytes}
use Rattle.client_rules.specs.Tables.{struck_from, line_of, claim_of}
use Rattle.client_rules.specs.Submitting.{next_part}
use Rattle.client_rules.specs.Serving.{leaves, requested_here, answered_here, acks, committed_here, ticked_here}
use Rattle.client_rules.specs.Opening.{base_record, restarted, gathered_here, dumped_here, staged_here, switched_here}
use Rattle.client_rules.specs.Rules.{new_client, requested, received, ticked, told, client_lines, client_letters, posted_letter}

abbrev volume_here : Volume
volume_here = record { geometry = record { regions_log = 0; height = 1; block = 1; replicas = 2 }; key = 107 ∷ [] }

abbrev events_here : List Event
events_here =
    event.Write (record { block = 0; bytes = 5 ∷ [] } ∷ record { block = 1; bytes = 6 ∷ [] } ∷ [])
    ∷ event.Lie (sender.Node (record { region = 0; replica = 0 })) (sender.Client) (5 ∷ 0 ∷ 0 ∷ 0 ∷ 0 ∷ 0 ∷ 0 ∷ 0 ∷ 1 ∷ 0 ∷ 0 ∷ 0 ∷ 1 ∷ 0 ∷ 0 ∷ 0 ∷ 1 ∷ 0 ∷ 0 ∷ 0 ∷ 0 ∷ 0 ∷ 0 ∷ 0 ∷ 0 ∷ 0 ∷ 0 ∷ 0 ∷ 9 ∷ 0 ∷ 1 ∷ 0 ∷ 1 ∷ 150 ∷ 162 ∷ 150 ∷ 210 ∷ 36 ∷ 242 ∷ 133 ∷ 198 ∷ 123 ∷ 238 ∷ 147 ∷ 195 ∷ 15 ∷ 138 ∷ 48 ∷ 145 ∷ 87 ∷ 240 ∷ 218 ∷ 163 ∷ 93 ∷ 197 ∷ 184 ∷ 126 ∷ 65 ∷ 11 ∷ 120 ∷ 99 ∷ 10 ∷ 9 ∷ 207 ∷ 199 ∷ [])
    ∷ event.Lie (sender.Node (record { region = 0; replica = 1 })) (sender.Client) (5 ∷ 0 ∷ 0 ∷ 0 ∷ 0 ∷ 0 ∷ 0 ∷ 0 ∷ 1 ∷ 0 ∷ 0 ∷ 0 ∷ 1 ∷ 0 ∷ 0 ∷ 0 ∷ 1 ∷ 0 ∷ 0 ∷ 0 ∷ 0 ∷ 0 ∷ 0 ∷ 0 ∷ 0 ∷ 0 ∷ 0 ∷ 0 ∷ 9 ∷ 0 ∷ 1 ∷ 0 ∷ 1 ∷ 150 ∷ 162 ∷ 150 ∷ 210 ∷ 36 ∷ 242 ∷ 133 ∷ 198 ∷ 123 ∷ 238 ∷ 147 ∷ 195 ∷ 15 ∷ 138 ∷ 48 ∷ 145 ∷ 87 ∷ 240 ∷ 218 ∷ 163 ∷ 93 ∷ 197 ∷ 184 ∷ 126 ∷ 65 ∷ 11 ∷ 120 ∷ 99 ∷ 10 ∷ 9 ∷ 207 ∷ 199 ∷ [])
    ∷ event.Write (record { block = 1; bytes = 6 ∷ [] } ∷ record { block = 0; bytes = 5 ∷ [] } ∷ [])
    ∷ event.Settle 24
    ∷ event.Read 1
    ∷ event.Read 0
    ∷ event.Lie (sender.Node (record { region = 0; replica = 0 })) (sender.Client) (5 ∷ 0 ∷ 0 ∷ 0 ∷ 0 ∷ 0 ∷ 0 ∷ 0 ∷ 1 ∷ 0 ∷ 0 ∷ 0 ∷ 0 ∷ 0 ∷ 0 ∷ 0 ∷ 6 ∷ 0 ∷ 0 ∷ 0 ∷ 1 ∷ 0 ∷ 0 ∷ 0 ∷ 0 ∷ 0 ∷ 0 ∷ 0 ∷ 0 ∷ 0 ∷ 1 ∷ 6 ∷ 1 ∷ 150 ∷ 162 ∷ 150 ∷ 210 ∷ 36 ∷ 242 ∷ 133 ∷ 198 ∷ 123 ∷ 238 ∷ 147 ∷ 195 ∷ 15 ∷ 138 ∷ 48 ∷ 145 ∷ 87 ∷ 240 ∷ 218 ∷ 163 ∷ 93 ∷ 197 ∷ 184 ∷ 126 ∷ 65 ∷ 11 ∷ 120 ∷ 99 ∷ 10 ∷ 9 ∷ 207 ∷ 199 ∷ [])
    ∷ event.Lie (sender.Node (record { region = 0; replica = 1 })) (sender.Client) (5 ∷ 0 ∷ 0 ∷ 0 ∷ 0 ∷ 0 ∷ 0 ∷ 0 ∷ 1 ∷ 0 ∷ 0 ∷ 0 ∷ 0 ∷ 0 ∷ 0 ∷ 0 ∷ 6 ∷ 0 ∷ 0 ∷ 0 ∷ 1 ∷ 0 ∷ 0 ∷ 0 ∷ 0 ∷ 0 ∷ 0 ∷ 0 ∷ 7 ∷ 0 ∷ 1 ∷ 6 ∷ 1 ∷ 150 ∷ 162 ∷ 150 ∷ 210 ∷ 36 ∷ 242 ∷ 133 ∷ 198 ∷ 123 ∷ 238 ∷ 147 ∷ 195 ∷ 15 ∷ 138 ∷ 48 ∷ 145 ∷ 87 ∷ 240 ∷ 218 ∷ 163 ∷ 93 ∷ 197 ∷ 184 ∷ 126 ∷ 65 ∷ 11 ∷ 120 ∷ 99 ∷ 10 ∷ 9 ∷ 207 ∷ 199 ∷ [])
    ∷ event.Lie (sender.Node (record { region = 0; replica = 1 })) (sender.Client) (5 ∷ 0 ∷ 0 ∷ 0 ∷ 0 ∷ 0 ∷ 0 ∷ 0 ∷ 1 ∷ 0 ∷ 0 ∷ 0 ∷ 0 ∷ 0 ∷ 0 ∷ 0 ∷ 6 ∷ 0 ∷ 0 ∷ 0 ∷ 1 ∷ 0 ∷ 0 ∷ 0 ∷ 0 ∷ 0 ∷ 0 ∷ 0 ∷ 1 ∷ 0 ∷ 1 ∷ 6 ∷ 1 ∷ 150 ∷ 162 ∷ 150 ∷ 210 ∷ 36 ∷ 242 ∷ 133 ∷ 198 ∷ 123 ∷ 238 ∷ 147 ∷ 195 ∷ 15 ∷ 138 ∷ 48 ∷ 145 ∷ 87 ∷ 240 ∷ 218 ∷ 163 ∷ 93 ∷ 197 ∷ 184 ∷ 126 ∷ 65 ∷ 11 ∷ 120 ∷ 99 ∷ 10 ∷ 9 ∷ 207 ∷ 199 ∷ [])
    ∷ event.Lie (sender.Node (record { region = 0; replica = 0 })) (sender.Client) (5 ∷ 0 ∷ 0 ∷ 0 ∷ 0 ∷ 0 ∷ 0 ∷ 0 ∷ 1 ∷ 0 ∷ 0 ∷ 0 ∷ 0 ∷ 0 ∷ 0 ∷ 0 ∷ 6 ∷ 0 ∷ 0 ∷ 0 ∷ 1 ∷ 0 ∷ 0 ∷ 0 ∷ 0 ∷ 0 ∷ 0 ∷ 0 ∷ 1 ∷ 0 ∷ 1 ∷ 6 ∷ 1 ∷ 150 ∷ 162 ∷ 150 ∷ 210 ∷ 36 ∷ 242 ∷ 133 ∷ 198 ∷ 123 ∷ 238 ∷ 147 ∷ 195 ∷ 15 ∷ 138 ∷ 48 ∷ 145 ∷ 87 ∷ 240 ∷ 218 ∷ 163 ∷ 93 ∷ 197 ∷ 184 ∷ 126 ∷ 65 ∷ 11 ∷ 120 ∷ 99 ∷ 10 ∷ 9 ∷ 207 ∷ 199 ∷ [])
    ∷ event.Lie (sender.Node (record { region = 0; replica = 0 })) (sender.Client) (5 ∷ 0 ∷ 0 ∷ 0 ∷ 0 ∷ 0 ∷ 0 ∷ 0 ∷ 1 ∷ 0 ∷ 0 ∷ 0 ∷ 0 ∷ 0 ∷ 0 ∷ 0 ∷ 6 ∷ 0 ∷ 0 ∷ 0 ∷ 0 ∷ 0 ∷ 0 ∷ 0 ∷ 0 ∷ 0 ∷ 0 ∷ 0 ∷ 1 ∷ 0 ∷ 1 ∷ 6 ∷ 1 ∷ 150 ∷ 162 ∷ 150 ∷ 210 ∷ 36 ∷ 242 ∷ 133 ∷ 198 ∷ 123 ∷ 238 ∷ 147 ∷ 195 ∷ 15 ∷ 138 ∷ 48 ∷ 145 ∷ 87 ∷ 240 ∷ 218 ∷ 163 ∷ 93 ∷ 197 ∷ 184 ∷ 126 ∷ 65 ∷ 11 ∷ 120 ∷ 99 ∷ 10 ∷ 9 ∷ 207 ∷ 199 ∷ [])
    ∷ event.Tick (sender.Client)
    ∷ event.Write (record { block = 0; bytes = 9 ∷ [] } ∷ [])
    ∷ event.Lie (sender.Node (record { region = 0; replica = 1 })) (sender.Client) (5 ∷ 0 ∷ 0 ∷ 0 ∷ 0 ∷ 0 ∷ 0 ∷ 0 ∷ 1 ∷ 0 ∷ 0 ∷ 0 ∷ 1 ∷ 0 ∷ 0 ∷ 0 ∷ 13 ∷ 0 ∷ 0 ∷ 0 ∷ 0 ∷ 0 ∷ 0 ∷ 0 ∷ 0 ∷ 0 ∷ 0 ∷ 0 ∷ 0 ∷ 0 ∷ 1 ∷ 0 ∷ 1 ∷ 150 ∷ 162 ∷ 150 ∷ 210 ∷ 36 ∷ 242 ∷ 133 ∷ 198 ∷ 123 ∷ 238 ∷ 147 ∷ 195 ∷ 15 ∷ 138 ∷ 48 ∷ 145 ∷ 87 ∷ 240 ∷ 218 ∷ 163 ∷ 93 ∷ 197 ∷ 184 ∷ 126 ∷ 65 ∷ 11 ∷ 120 ∷ 99 ∷ 10 ∷ 9 ∷ 207 ∷ 199 ∷ [])
    ∷ event.Barrier
    ∷ event.Reassign 2 0
    ∷ event.Settle 60
    ∷ event.Read 0
    ∷ event.ClientCrash
    ∷ event.Read 1 ∷ []

abbrev posts_here : List Posted
posts_here =
    record { from = sender.Client; to = sender.Node (record { region = 0; replica = 0 }); bytes = 4 ∷ 0 ∷ 0 ∷ 0 ∷ 0 ∷ 0 ∷ 0 ∷ 0 ∷ 1 ∷ 0 ∷ 0 ∷ 0 ∷ 1 ∷ 0 ∷ 0 ∷ 0 ∷ 1 ∷ 0 ∷ 0 ∷ 0 ∷ 0 ∷ 0 ∷ 0 ∷ 0 ∷ 0 ∷ 0 ∷ 0 ∷ 0 ∷ 0 ∷ [] }
    ∷ record { from = sender.Client; to = sender.Node (record { region = 0; replica = 1 }); bytes = 4 ∷ 0 ∷ 0 ∷ 0 ∷ 0 ∷ 0 ∷ 0 ∷ 0 ∷ 1 ∷ 0 ∷ 0 ∷ 0 ∷ 1 ∷ 0 ∷ 0 ∷ 0 ∷ 1 ∷ 0 ∷ 0 ∷ 0 ∷ 0 ∷ 0 ∷ 0 ∷ 0 ∷ 0 ∷ 0 ∷ 0 ∷ 0 ∷ 0 ∷ [] }
    ∷ record { from = sender.Client; to = sender.Node (record { region = 0; replica = 0 }); bytes = 4 ∷ 0 ∷ 0 ∷ 0 ∷ 0 ∷ 0 ∷ 0 ∷ 0 ∷ 1 ∷ 0 ∷ 0 ∷ 0 ∷ 2 ∷ 0 ∷ 0 ∷ 0 ∷ 1 ∷ 0 ∷ 0 ∷ 0 ∷ 1 ∷ 0 ∷ 0 ∷ 0 ∷ 0 ∷ 0 ∷ 0 ∷ 0 ∷ 0 ∷ [] }
    ∷ record { from = sender.Client; to = sender.Node (record { region = 0; replica = 1 }); bytes = 4 ∷ 0 ∷ 0 ∷ 0 ∷ 0 ∷ 0 ∷ 0 ∷ 0 ∷ 1 ∷ 0 ∷ 0 ∷ 0 ∷ 2 ∷ 0 ∷ 0 ∷ 0 ∷ 1 ∷ 0 ∷ 0 ∷ 0 ∷ 1 ∷ 0 ∷ 0 ∷ 0 ∷ 0 ∷ 0 ∷ 0 ∷ 0 ∷ 0 ∷ [] }
    ∷ record { from = sender.Client; to = sender.Node (record { region = 0; replica = 0 }); bytes = 4 ∷ 0 ∷ 0 ∷ 0 ∷ 0 ∷ 0 ∷ 0 ∷ 0 ∷ 1 ∷ 0 ∷ 0 ∷ 0 ∷ 1 ∷ 0 ∷ 0 ∷ 0 ∷ 4 ∷ 0 ∷ 0 ∷ 0 ∷ 0 ∷ 0 ∷ 0 ∷ 0 ∷ 0 ∷ 0 ∷ 0 ∷ 0 ∷ 0 ∷ [] }
    ∷ record { from = sender.Client; to = sender.Node (record { region = 0; replica = 1 }); bytes = 4 ∷ 0 ∷ 0 ∷ 0 ∷ 0 ∷ 0 ∷ 0 ∷ 0 ∷ 1 ∷ 0 ∷ 0 ∷ 0 ∷ 1 ∷ 0 ∷ 0 ∷ 0 ∷ 4 ∷ 0 ∷ 0 ∷ 0 ∷ 0 ∷ 0 ∷ 0 ∷ 0 ∷ 0 ∷ 0 ∷ 0 ∷ 0 ∷ 0 ∷ [] }
    ∷ record { from = sender.Client; to = sender.Node (record { region = 0; replica = 0 }); bytes = 4 ∷ 0 ∷ 0 ∷ 0 ∷ 0 ∷ 0 ∷ 0 ∷ 0 ∷ 1 ∷ 0 ∷ 0 ∷ 0 ∷ 2 ∷ 0 ∷ 0 ∷ 0 ∷ 4 ∷ 0 ∷ 0 ∷ 0 ∷ 1 ∷ 0 ∷ 0 ∷ 0 ∷ 0 ∷ 0 ∷ 0 ∷ 0 ∷ 0 ∷ [] }
    ∷ record { from = sender.Client; to = sender.Node (record { region = 0; replica = 1 }); bytes = 4 ∷ 0 ∷ 0 ∷ 0 ∷ 0 ∷ 0 ∷ 0 ∷ 0 ∷ 1 ∷ 0 ∷ 0 ∷ 0 ∷ 2 ∷ 0 ∷ 0 ∷ 0 ∷ 4 ∷ 0 ∷ 0 ∷ 0 ∷ 1 ∷ 0 ∷ 0 ∷ 0 ∷ 0 ∷ 0 ∷ 0 ∷ 0 ∷ 0 ∷ [] }
    ∷ record { from = sender.Node (record { region = 0; replica = 0 }); to = sender.Client; bytes = 5 ∷ 0 ∷ 0 ∷ 0 ∷ 0 ∷ 0 ∷ 0 ∷ 0 ∷ 1 ∷ 0 ∷ 0 ∷ 0 ∷ 1 ∷ 0 ∷ 0 ∷ 0 ∷ 1 ∷ 0 ∷ 0 ∷ 0 ∷ 0 ∷ 0 ∷ 0 ∷ 0 ∷ 0 ∷ 0 ∷ 0 ∷ 0 ∷ 0 ∷ 0 ∷ 1 ∷ 0 ∷ 1 ∷ 150 ∷ 162 ∷ 150 ∷ 210 ∷ 36 ∷ 242 ∷ 133 ∷ 198 ∷ 123 ∷ 238 ∷ 147 ∷ 195 ∷ 15 ∷ 138 ∷ 48 ∷ 145 ∷ 87 ∷ 240 ∷ 218 ∷ 163 ∷ 93 ∷ 197 ∷ 184 ∷ 126 ∷ 65 ∷ 11 ∷ 120 ∷ 99 ∷ 10 ∷ 9 ∷ 207 ∷ 199 ∷ [] }
    ∷ record { from = sender.Node (record { region = 0; replica = 1 }); to = sender.Client; bytes = 5 ∷ 0 ∷ 0 ∷ 0 ∷ 0 ∷ 0 ∷ 0 ∷ 0 ∷ 1 ∷ 0 ∷ 0 ∷ 0 ∷ 1 ∷ 0 ∷ 0 ∷ 0 ∷ 1 ∷ 0 ∷ 0 ∷ 0 ∷ 0 ∷ 0 ∷ 0 ∷ 0 ∷ 0 ∷ 0 ∷ 0 ∷ 0 ∷ 0 ∷ 0 ∷ 1 ∷ 0 ∷ 1 ∷ 150 ∷ 162 ∷ 150 ∷ 210 ∷ 36 ∷ 242 ∷ 133 ∷ 198 ∷ 123 ∷ 238 ∷ 147 ∷ 195 ∷ 15 ∷ 138 ∷ 48 ∷ 145 ∷ 87 ∷ 240 ∷ 218 ∷ 163 ∷ 93 ∷ 197 ∷ 184 ∷ 126 ∷ 65 ∷ 11 ∷ 120 ∷ 99 ∷ 10 ∷ 9 ∷ 207 ∷ 199 ∷ [] }
    ∷ record { from = sender.Node (record { region = 0; replica = 0 }); to = sender.Client; bytes = 5 ∷ 0 ∷ 0 ∷ 0 ∷ 0 ∷ 0 ∷ 0 ∷ 0 ∷ 1 ∷ 0 ∷ 0 ∷ 0 ∷ 2 ∷ 0 ∷ 0 ∷ 0 ∷ 1 ∷ 0 ∷ 0 ∷ 0 ∷ 1 ∷ 0 ∷ 0 ∷ 0 ∷ 0 ∷ 0 ∷ 0 ∷ 0 ∷ 0 ∷ 0 ∷ 1 ∷ 0 ∷ 1 ∷ 150 ∷ 162 ∷ 150 ∷ 210 ∷ 36 ∷ 242 ∷ 133 ∷ 198 ∷ 123 ∷ 238 ∷ 147 ∷ 195 ∷ 15 ∷ 138 ∷ 48 ∷ 145 ∷ 87 ∷ 240 ∷ 218 ∷ 163 ∷ 93 ∷ 197 ∷ 184 ∷ 126 ∷ 65 ∷ 11 ∷ 120 ∷ 99 ∷ 10 ∷ 9 ∷ 207 ∷ 199 ∷ [] }
    ∷ record { from = sender.Node (record { region = 0; replica = 1 }); to = sender.Client; bytes = 5 ∷ 0 ∷ 0 ∷ 0 ∷ 0 ∷ 0 ∷ 0 ∷ 0 ∷ 1 ∷ 0 ∷ 0 ∷ 0 ∷ 2 ∷ 0 ∷ 0 ∷ 0 ∷ 1 ∷ 0 ∷ 0 ∷ 0 ∷ 1 ∷ 0 ∷ 0 ∷ 0 ∷ 0 ∷ 0 ∷ 0 ∷ 0 ∷ 0 ∷ 0 ∷ 1 ∷ 0 ∷ 1 ∷ 150 ∷ 162 ∷ 150 ∷ 210 ∷ 36 ∷ 242 ∷ 133 ∷ 198 ∷ 123 ∷ 238 ∷ 147 ∷ 195 ∷ 15 ∷ 138 ∷ 48 ∷ 145 ∷ 87 ∷ 240 ∷ 218 ∷ 163 ∷ 93 ∷ 197 ∷ 184 ∷ 126 ∷ 65 ∷ 11 ∷ 120 ∷ 99 ∷ 10 ∷ 9 ∷ 207 ∷ 199 ∷ [] }
    ∷ record { from = sender.Node (record { region = 0; replica = 0 }); to = sender.Client; bytes = 5 ∷ 0 ∷ 0 ∷ 0 ∷ 0 ∷ 0 ∷ 0 ∷ 0 ∷ 1 ∷ 0 ∷ 0 ∷ 0 ∷ 1 ∷ 0 ∷ 0 ∷ 0 ∷ 4 ∷ 0 ∷ 0 ∷ 0 ∷ 0 ∷ 0 ∷ 0 ∷ 0 ∷ 0 ∷ 0 ∷ 0 ∷ 0 ∷ 0 ∷ 0 ∷ 1 ∷ 0 ∷ 1 ∷ 150 ∷ 162 ∷ 150 ∷ 210 ∷ 36 ∷ 242 ∷ 133 ∷ 198 ∷ 123 ∷ 238 ∷ 147 ∷ 195 ∷ 15 ∷ 138 ∷ 48 ∷ 145 ∷ 87 ∷ 240 ∷ 218 ∷ 163 ∷ 93 ∷ 197 ∷ 184 ∷ 126 ∷ 65 ∷ 11 ∷ 120 ∷ 99 ∷ 10 ∷ 9 ∷ 207 ∷ 199 ∷ [] }
    ∷ record { from = sender.Node (record { region = 0; replica = 1 }); to = sender.Client; bytes = 5 ∷ 0 ∷ 0 ∷ 0 ∷ 0 ∷ 0 ∷ 0 ∷ 0 ∷ 1 ∷ 0 ∷ 0 ∷ 0 ∷ 1 ∷ 0 ∷ 0 ∷ 0 ∷ 4 ∷ 0 ∷ 0 ∷ 0 ∷ 0 ∷ 0 ∷ 0 ∷ 0 ∷ 0 ∷ 0 ∷ 0 ∷ 0 ∷ 0 ∷ 0 ∷ 1 ∷ 0 ∷ 1 ∷ 150 ∷ 162 ∷ 150 ∷ 210 ∷ 36 ∷ 242 ∷ 133 ∷ 198 ∷ 123 ∷ 238 ∷ 147 ∷ 195 ∷ 15 ∷ 138 ∷ 48 ∷ 145 ∷ 87 ∷ 240 ∷ 218 ∷ 163 ∷ 93 ∷ 197 ∷ 184 ∷ 126 ∷ 65 ∷ 11 ∷ 120 ∷ 99 ∷ 10 ∷ 9 ∷ 207 ∷ 199 ∷ [] }
    ∷ record { from = sender.Node (record { region = 0; replica = 0 }); to = sender.Client; bytes = 5 ∷ 0 ∷ 0 ∷ 0 ∷ 0 ∷ 0 ∷ 0 ∷ 0 ∷ 1 ∷ 0 ∷ 0 ∷ 0 ∷ 2 ∷ 0 ∷ 0 ∷ 0 ∷ 4 ∷ 0 ∷ 0 ∷ 0 ∷ 1 ∷ 0 ∷ 0 ∷ 0 ∷ 0 ∷ 0 ∷ 0 ∷ 0 ∷ 0 ∷ 0 ∷ 1 ∷ 0 ∷ 1 ∷ 150 ∷ 162 ∷ 150 ∷ 210 ∷ 36 ∷ 242 ∷ 133 ∷ 198 ∷ 123 ∷ 238 ∷ 147 ∷ 195 ∷ 15 ∷ 138 ∷ 48 ∷ 145 ∷ 87 ∷ 240 ∷ 218 ∷ 163 ∷ 93 ∷ 197 ∷ 184 ∷ 126 ∷ 65 ∷ 11 ∷ 120 ∷ 99 ∷ 10 ∷ 9 ∷ 207 ∷ 199 ∷ [] }
    ∷ record { from = sender.Node (record { region = 0; replica = 1 }); to = sender.Client; bytes = 5 ∷ 0 ∷ 0 ∷ 0 ∷ 0 ∷ 0 ∷ 0 ∷ 0 ∷ 1 ∷ 0 ∷ 0 ∷ 0 ∷ 2 ∷ 0 ∷ 0 ∷ 0 ∷ 4 ∷ 0 ∷ 0 ∷ 0 ∷ 1 ∷ 0 ∷ 0 ∷ 0 ∷ 0 ∷ 0 ∷ 0 ∷ 0 ∷ 0 ∷ 0 ∷ 1 ∷ 0 ∷ 1 ∷ 150 ∷ 162 ∷ 150 ∷ 210 ∷ 36 ∷ 242 ∷ 133 ∷ 198 ∷ 123 ∷ 238 ∷ 147 ∷ 195 ∷ 15 ∷ 138 ∷ 48 ∷ 145 ∷ 87 ∷ 240 ∷ 218 ∷ 163 ∷ 93 ∷ 197 ∷ 184 ∷ 126 ∷ 65 ∷ 11 ∷ 120 ∷ 99 ∷ 10 ∷ 9 ∷ 207 ∷ 199 ∷ [] }
    ∷ record { from = sender.Client; to = sender.Node (record { region = 0; replica = 0 }); bytes = 1 ∷ 1 ∷ 0 ∷ 0 ∷ 0 ∷ 0 ∷ 0 ∷ 0 ∷ 0 ∷ 1 ∷ 0 ∷ 0 ∷ 0 ∷ 0 ∷ 0 ∷ 0 ∷ 0 ∷ 1 ∷ 0 ∷ 0 ∷ 0 ∷ 0 ∷ 0 ∷ 0 ∷ 0 ∷ 0 ∷ 0 ∷ 0 ∷ 0 ∷ 0 ∷ 1 ∷ 0 ∷ 0 ∷ 0 ∷ 0 ∷ 0 ∷ 0 ∷ 0 ∷ 1 ∷ 1 ∷ 0 ∷ 0 ∷ 144 ∷ 238 ∷ 178 ∷ 196 ∷ 160 ∷ 78 ∷ 195 ∷ 62 ∷ 228 ∷ 221 ∷ 38 ∷ 119 ∷ 89 ∷ 51 ∷ 49 ∷ 145 ∷ 14 ∷ 66 ∷ 3 ∷ 219 ∷ 79 ∷ 204 ∷ 18 ∷ 10 ∷ 108 ∷ 219 ∷ 149 ∷ 177 ∷ 60 ∷ 254 ∷ 131 ∷ 240 ∷ 144 ∷ 238 ∷ 178 ∷ 196 ∷ 160 ∷ 78 ∷ 195 ∷ 62 ∷ 228 ∷ 221 ∷ 38 ∷ 119 ∷ 89 ∷ 51 ∷ 49 ∷ 145 ∷ 14 ∷ 66 ∷ 3 ∷ 219 ∷ 79 ∷ 204 ∷ 18 ∷ 10 ∷ 108 ∷ 219 ∷ 149 ∷ 177 ∷ 60 ∷ 254 ∷ 131 ∷ 240 ∷ 2 ∷ 0 ∷ 0 ∷ 0 ∷ 1 ∷ 5 ∷ 0 ∷ 1 ∷ 0 ∷ 1 ∷ 6 ∷ 190 ∷ 41 ∷ 99 ∷ 218 ∷ 213 ∷ 230 ∷ 167 ∷ 115 ∷ 157 ∷ 3 ∷ 48 ∷ 233 ∷ 135 ∷ 20 ∷ 103 ∷ 31 ∷ 252 ∷ 166 ∷ 52 ∷ 226 ∷ 115 ∷ 28 ∷ 64 ∷ 20 ∷ 253 ∷ 172 ∷ 139 ∷ 6 ∷ 163 ∷ 213 ∷ 51 ∷ 238 ∷ [] }
    ∷ record { from = sender.Client; to = sender.Node (record { region = 0; replica = 1 }); bytes = 1 ∷ 1 ∷ 0 ∷ 0 ∷ 0 ∷ 0 ∷ 0 ∷ 0 ∷ 0 ∷ 1 ∷ 0 ∷ 0 ∷ 0 ∷ 0 ∷ 0 ∷ 0 ∷ 0 ∷ 1 ∷ 0 ∷ 0 ∷ 0 ∷ 0 ∷ 0 ∷ 0 ∷ 0 ∷ 0 ∷ 0 ∷ 0 ∷ 0 ∷ 0 ∷ 1 ∷ 0 ∷ 0 ∷ 0 ∷ 0 ∷ 0 ∷ 0 ∷ 0 ∷ 1 ∷ 1 ∷ 0 ∷ 0 ∷ 144 ∷ 238 ∷ 178 ∷ 196 ∷ 160 ∷ 78 ∷ 195 ∷ 62 ∷ 228 ∷ 221 ∷ 38 ∷ 119 ∷ 89 ∷ 51 ∷ 49 ∷ 145 ∷ 14 ∷ 66 ∷ 3 ∷ 219 ∷ 79 ∷ 204 ∷ 18 ∷ 10 ∷ 108 ∷ 219 ∷ 149 ∷ 177 ∷ 60 ∷ 254 ∷ 131 ∷ 240 ∷ 144 ∷ 238 ∷ 178 ∷ 196 ∷ 160 ∷ 78 ∷ 195 ∷ 62 ∷ 228 ∷ 221 ∷ 38 ∷ 119 ∷ 89 ∷ 51 ∷ 49 ∷ 145 ∷ 14 ∷ 66 ∷ 3 ∷ 219 ∷ 79 ∷ 204 ∷ 18 ∷ 10 ∷ 108 ∷ 219 ∷ 149 ∷ 177 ∷ 60 ∷ 254 ∷ 131 ∷ 240 ∷ 2 ∷ 0 ∷ 0 ∷ 0 ∷ 1 ∷ 5 ∷ 0 ∷ 1 ∷ 0 ∷ 1 ∷ 6 ∷ 190 ∷ 41 ∷ 99 ∷ 218 ∷ 213 ∷ 230 ∷ 167 ∷ 115 ∷ 157 ∷ 3 ∷ 48 ∷ 233 ∷ 135 ∷ 20 ∷ 103 ∷ 31 ∷ 252 ∷ 166 ∷ 52 ∷ 226 ∷ 115 ∷ 28 ∷ 64 ∷ 20 ∷ 253 ∷ 172 ∷ 139 ∷ 6 ∷ 163 ∷ 213 ∷ 51 ∷ 238 ∷ [] }
    ∷ record { from = sender.Node (record { region = 0; replica = 0 }); to = sender.Node (record { region = 0; replica = 0 }); bytes = 2 ∷ 0 ∷ 0 ∷ 0 ∷ 0 ∷ 0 ∷ 0 ∷ 0 ∷ 1 ∷ 0 ∷ 0 ∷ 0 ∷ 0 ∷ 0 ∷ 0 ∷ 0 ∷ 1 ∷ 0 ∷ 0 ∷ 144 ∷ 238 ∷ 178 ∷ 196 ∷ 160 ∷ 78 ∷ 195 ∷ 62 ∷ 228 ∷ 221 ∷ 38 ∷ 119 ∷ 89 ∷ 51 ∷ 49 ∷ 145 ∷ 14 ∷ 66 ∷ 3 ∷ 219 ∷ 79 ∷ 204 ∷ 18 ∷ 10 ∷ 108 ∷ 219 ∷ 149 ∷ 177 ∷ 60 ∷ 254 ∷ 131 ∷ 240 ∷ [] }
    ∷ record { from = sender.Node (record { region = 0; replica = 0 }); to = sender.Node (record { region = 0; replica = 1 }); bytes = 2 ∷ 0 ∷ 0 ∷ 0 ∷ 0 ∷ 0 ∷ 0 ∷ 0 ∷ 1 ∷ 0 ∷ 0 ∷ 0 ∷ 0 ∷ 0 ∷ 0 ∷ 0 ∷ 1 ∷ 0 ∷ 0 ∷ 144 ∷ 238 ∷ 178 ∷ 196 ∷ 160 ∷ 78 ∷ 195 ∷ 62 ∷ 228 ∷ 221 ∷ 38 ∷ 119 ∷ 89 ∷ 51 ∷ 49 ∷ 145 ∷ 14 ∷ 66 ∷ 3 ∷ 219 ∷ 79 ∷ 204 ∷ 18 ∷ 10 ∷ 108 ∷ 219 ∷ 149 ∷ 177 ∷ 60 ∷ 254 ∷ 131 ∷ 240 ∷ [] }
    ∷ record { from = sender.Node (record { region = 0; replica = 1 }); to = sender.Node (record { region = 0; replica = 0 }); bytes = 2 ∷ 0 ∷ 0 ∷ 0 ∷ 0 ∷ 0 ∷ 0 ∷ 0 ∷ 1 ∷ 0 ∷ 0 ∷ 0 ∷ 0 ∷ 0 ∷ 0 ∷ 0 ∷ 1 ∷ 0 ∷ 0 ∷ 144 ∷ 238 ∷ 178 ∷ 196 ∷ 160 ∷ 78 ∷ 195 ∷ 62 ∷ 228 ∷ 221 ∷ 38 ∷ 119 ∷ 89 ∷ 51 ∷ 49 ∷ 145 ∷ 14 ∷ 66 ∷ 3 ∷ 219 ∷ 79 ∷ 204 ∷ 18 ∷ 10 ∷ 108 ∷ 219 ∷ 149 ∷ 177 ∷ 60 ∷ 254 ∷ 131 ∷ 240 ∷ [] }
    ∷ record { from = sender.Node (record { region = 0; replica = 1 }); to = sender.Node (record { region = 0; replica = 1 }); bytes = 2 ∷ 0 ∷ 0 ∷ 0 ∷ 0 ∷ 0 ∷ 0 ∷ 0 ∷ 1 ∷ 0 ∷ 0 ∷ 0 ∷ 0 ∷ 0 ∷ 0 ∷ 0 ∷ 1 ∷ 0 ∷ 0 ∷ 144 ∷ 238 ∷ 178 ∷ 196 ∷ 160 ∷ 78 ∷ 195 ∷ 62 ∷ 228 ∷ 221 ∷ 38 ∷ 119 ∷ 89 ∷ 51 ∷ 49 ∷ 145 ∷ 14 ∷ 66 ∷ 3 ∷ 219 ∷ 79 ∷ 204 ∷ 18 ∷ 10 ∷ 108 ∷ 219 ∷ 149 ∷ 177 ∷ 60 ∷ 254 ∷ 131 ∷ 240 ∷ [] }
    ∷ record { from = sender.Node (record { region = 0; replica = 0 }); to = sender.Client; bytes = 3 ∷ 0 ∷ 0 ∷ 0 ∷ 0 ∷ 0 ∷ 0 ∷ 0 ∷ 1 ∷ 0 ∷ 0 ∷ 0 ∷ 0 ∷ 0 ∷ 0 ∷ 0 ∷ 1 ∷ [] }
    ∷ record { from = sender.Node (record { region = 0; replica = 0 }); to = sender.Node (record { region = 0; replica = 0 }); bytes = 3 ∷ 0 ∷ 0 ∷ 0 ∷ 0 ∷ 0 ∷ 0 ∷ 0 ∷ 1 ∷ 0 ∷ 0 ∷ 0 ∷ 0 ∷ 0 ∷ 0 ∷ 0 ∷ 1 ∷ [] }
    ∷ record { from = sender.Node (record { region = 0; replica = 0 }); to = sender.Node (record { region = 0; replica = 1 }); bytes = 3 ∷ 0 ∷ 0 ∷ 0 ∷ 0 ∷ 0 ∷ 0 ∷ 0 ∷ 1 ∷ 0 ∷ 0 ∷ 0 ∷ 0 ∷ 0 ∷ 0 ∷ 0 ∷ 1 ∷ [] }
    ∷ record { from = sender.Node (record { region = 0; replica = 1 }); to = sender.Client; bytes = 3 ∷ 0 ∷ 0 ∷ 0 ∷ 0 ∷ 0 ∷ 0 ∷ 0 ∷ 1 ∷ 0 ∷ 0 ∷ 0 ∷ 0 ∷ 0 ∷ 0 ∷ 0 ∷ 1 ∷ [] }
    ∷ record { from = sender.Node (record { region = 0; replica = 1 }); to = sender.Node (record { region = 0; replica = 0 }); bytes = 3 ∷ 0 ∷ 0 ∷ 0 ∷ 0 ∷ 0 ∷ 0 ∷ 0 ∷ 1 ∷ 0 ∷ 0 ∷ 0 ∷ 0 ∷ 0 ∷ 0 ∷ 0 ∷ 1 ∷ [] }
    ∷ record { from = sender.Node (record { region = 0; replica = 1 }); to = sender.Node (record { region = 0; replica = 1 }); bytes = 3 ∷ 0 ∷ 0 ∷ 0 ∷ 0 ∷ 0 ∷ 0 ∷ 0 ∷ 1 ∷ 0 ∷ 0 ∷ 0 ∷ 0 ∷ 0 ∷ 0 ∷ 0 ∷ 1 ∷ [] }
    ∷ record { from = sender.Client; to = sender.Node (record { region = 0; replica = 0 }); bytes = 4 ∷ 0 ∷ 0 ∷ 0 ∷ 0 ∷ 0 ∷ 0 ∷ 0 ∷ 1 ∷ 0 ∷ 0 ∷ 0 ∷ 0 ∷ 0 ∷ 0 ∷ 0 ∷ 6 ∷ 0 ∷ 0 ∷ 0 ∷ 1 ∷ 0 ∷ 0 ∷ 0 ∷ 0 ∷ 0 ∷ 0 ∷ 0 ∷ 1 ∷ [] }
    ∷ record { from = sender.Client; to = sender.Node (record { region = 0; replica = 1 }); bytes = 4 ∷ 0 ∷ 0 ∷ 0 ∷ 0 ∷ 0 ∷ 0 ∷ 0 ∷ 1 ∷ 0 ∷ 0 ∷ 0 ∷ 0 ∷ 0 ∷ 0 ∷ 0 ∷ 6 ∷ 0 ∷ 0 ∷ 0 ∷ 1 ∷ 0 ∷ 0 ∷ 0 ∷ 0 ∷ 0 ∷ 0 ∷ 0 ∷ 1 ∷ [] }
    ∷ record { from = sender.Client; to = sender.Node (record { region = 0; replica = 0 }); bytes = 4 ∷ 0 ∷ 0 ∷ 0 ∷ 0 ∷ 0 ∷ 0 ∷ 0 ∷ 1 ∷ 0 ∷ 0 ∷ 0 ∷ 0 ∷ 0 ∷ 0 ∷ 0 ∷ 7 ∷ 0 ∷ 0 ∷ 0 ∷ 0 ∷ 0 ∷ 0 ∷ 0 ∷ 0 ∷ 0 ∷ 0 ∷ 0 ∷ 1 ∷ [] }
    ∷ record { from = sender.Client; to = sender.Node (record { region = 0; replica = 1 }); bytes = 4 ∷ 0 ∷ 0 ∷ 0 ∷ 0 ∷ 0 ∷ 0 ∷ 0 ∷ 1 ∷ 0 ∷ 0 ∷ 0 ∷ 0 ∷ 0 ∷ 0 ∷ 0 ∷ 7 ∷ 0 ∷ 0 ∷ 0 ∷ 0 ∷ 0 ∷ 0 ∷ 0 ∷ 0 ∷ 0 ∷ 0 ∷ 0 ∷ 1 ∷ [] }
    ∷ record { from = sender.Client; to = sender.Node (record { region = 0; replica = 0 }); bytes = 4 ∷ 0 ∷ 0 ∷ 0 ∷ 0 ∷ 0 ∷ 0 ∷ 0 ∷ 1 ∷ 0 ∷ 0 ∷ 0 ∷ 0 ∷ 0 ∷ 0 ∷ 0 ∷ 6 ∷ 0 ∷ 0 ∷ 0 ∷ 1 ∷ 0 ∷ 0 ∷ 0 ∷ 0 ∷ 0 ∷ 0 ∷ 0 ∷ 1 ∷ [] }
    ∷ record { from = sender.Client; to = sender.Node (record { region = 0; replica = 0 }); bytes = 1 ∷ 1 ∷ 0 ∷ 0 ∷ 0 ∷ 0 ∷ 0 ∷ 0 ∷ 0 ∷ 1 ∷ 0 ∷ 0 ∷ 0 ∷ 0 ∷ 0 ∷ 0 ∷ 0 ∷ 1 ∷ 0 ∷ 0 ∷ 0 ∷ 0 ∷ 0 ∷ 0 ∷ 0 ∷ 0 ∷ 0 ∷ 0 ∷ 0 ∷ 0 ∷ 1 ∷ 0 ∷ 0 ∷ 0 ∷ 0 ∷ 0 ∷ 0 ∷ 0 ∷ 1 ∷ 1 ∷ 0 ∷ 0 ∷ 144 ∷ 238 ∷ 178 ∷ 196 ∷ 160 ∷ 78 ∷ 195 ∷ 62 ∷ 228 ∷ 221 ∷ 38 ∷ 119 ∷ 89 ∷ 51 ∷ 49 ∷ 145 ∷ 14 ∷ 66 ∷ 3 ∷ 219 ∷ 79 ∷ 204 ∷ 18 ∷ 10 ∷ 108 ∷ 219 ∷ 149 ∷ 177 ∷ 60 ∷ 254 ∷ 131 ∷ 240 ∷ 144 ∷ 238 ∷ 178 ∷ 196 ∷ 160 ∷ 78 ∷ 195 ∷ 62 ∷ 228 ∷ 221 ∷ 38 ∷ 119 ∷ 89 ∷ 51 ∷ 49 ∷ 145 ∷ 14 ∷ 66 ∷ 3 ∷ 219 ∷ 79 ∷ 204 ∷ 18 ∷ 10 ∷ 108 ∷ 219 ∷ 149 ∷ 177 ∷ 60 ∷ 254 ∷ 131 ∷ 240 ∷ 2 ∷ 0 ∷ 0 ∷ 0 ∷ 1 ∷ 5 ∷ 0 ∷ 1 ∷ 0 ∷ 1 ∷ 6 ∷ 190 ∷ 41 ∷ 99 ∷ 218 ∷ 213 ∷ 230 ∷ 167 ∷ 115 ∷ 157 ∷ 3 ∷ 48 ∷ 233 ∷ 135 ∷ 20 ∷ 103 ∷ 31 ∷ 252 ∷ 166 ∷ 52 ∷ 226 ∷ 115 ∷ 28 ∷ 64 ∷ 20 ∷ 253 ∷ 172 ∷ 139 ∷ 6 ∷ 163 ∷ 213 ∷ 51 ∷ 238 ∷ [] }
    ∷ record { from = sender.Client; to = sender.Node (record { region = 0; replica = 1 }); bytes = 1 ∷ 1 ∷ 0 ∷ 0 ∷ 0 ∷ 0 ∷ 0 ∷ 0 ∷ 0 ∷ 1 ∷ 0 ∷ 0 ∷ 0 ∷ 0 ∷ 0 ∷ 0 ∷ 0 ∷ 1 ∷ 0 ∷ 0 ∷ 0 ∷ 0 ∷ 0 ∷ 0 ∷ 0 ∷ 0 ∷ 0 ∷ 0 ∷ 0 ∷ 0 ∷ 1 ∷ 0 ∷ 0 ∷ 0 ∷ 0 ∷ 0 ∷ 0 ∷ 0 ∷ 1 ∷ 1 ∷ 0 ∷ 0 ∷ 144 ∷ 238 ∷ 178 ∷ 196 ∷ 160 ∷ 78 ∷ 195 ∷ 62 ∷ 228 ∷ 221 ∷ 38 ∷ 119 ∷ 89 ∷ 51 ∷ 49 ∷ 145 ∷ 14 ∷ 66 ∷ 3 ∷ 219 ∷ 79 ∷ 204 ∷ 18 ∷ 10 ∷ 108 ∷ 219 ∷ 149 ∷ 177 ∷ 60 ∷ 254 ∷ 131 ∷ 240 ∷ 144 ∷ 238 ∷ 178 ∷ 196 ∷ 160 ∷ 78 ∷ 195 ∷ 62 ∷ 228 ∷ 221 ∷ 38 ∷ 119 ∷ 89 ∷ 51 ∷ 49 ∷ 145 ∷ 14 ∷ 66 ∷ 3 ∷ 219 ∷ 79 ∷ 204 ∷ 18 ∷ 10 ∷ 108 ∷ 219 ∷ 149 ∷ 177 ∷ 60 ∷ 254 ∷ 131 ∷ 240 ∷ 2 ∷ 0 ∷ 0 ∷ 0 ∷ 1 ∷ 5 ∷ 0 ∷ 1 ∷ 0 ∷ 1 ∷ 6 ∷ 190 ∷ 41 ∷ 99 ∷ 218 ∷ 213 ∷ 230 ∷ 167 ∷ 115 ∷ 157 ∷ 3 ∷ 48 ∷ 233 ∷ 135 ∷ 20 ∷ 103 ∷ 31 ∷ 252 ∷ 166 ∷ 52 ∷ 226 ∷ 115 ∷ 28 ∷ 64 ∷ 20 ∷ 253 ∷ 172 ∷ 139 ∷ 6 ∷ 163 ∷ 213 ∷ 51 ∷ 238 ∷ [] }
    ∷ record { from = sender.Client; to = sender.Node (record { region = 0; replica = 0 }); bytes = 4 ∷ 0 ∷ 0 ∷ 0 ∷ 0 ∷ 0 ∷ 0 ∷ 0 ∷ 1 ∷ 0 ∷ 0 ∷ 0 ∷ 0 ∷ 0 ∷ 0 ∷ 0 ∷ 7 ∷ 0 ∷ 0 ∷ 0 ∷ 0 ∷ 0 ∷ 0 ∷ 0 ∷ 0 ∷ 0 ∷ 0 ∷ 0 ∷ 1 ∷ [] }
    ∷ record { from = sender.Client; to = sender.Node (record { region = 0; replica = 1 }); bytes = 4 ∷ 0 ∷ 0 ∷ 0 ∷ 0 ∷ 0 ∷ 0 ∷ 0 ∷ 1 ∷ 0 ∷ 0 ∷ 0 ∷ 0 ∷ 0 ∷ 0 ∷ 0 ∷ 7 ∷ 0 ∷ 0 ∷ 0 ∷ 0 ∷ 0 ∷ 0 ∷ 0 ∷ 0 ∷ 0 ∷ 0 ∷ 0 ∷ 1 ∷ [] }
    ∷ record { from = sender.Client; to = sender.Node (record { region = 0; replica = 0 }); bytes = 4 ∷ 0 ∷ 0 ∷ 0 ∷ 0 ∷ 0 ∷ 0 ∷ 0 ∷ 1 ∷ 0 ∷ 0 ∷ 0 ∷ 1 ∷ 0 ∷ 0 ∷ 0 ∷ 14 ∷ 0 ∷ 0 ∷ 0 ∷ 0 ∷ 0 ∷ 0 ∷ 0 ∷ 0 ∷ 0 ∷ 0 ∷ 0 ∷ 1 ∷ [] }
    ∷ record { from = sender.Client; to = sender.Node (record { region = 0; replica = 1 }); bytes = 4 ∷ 0 ∷ 0 ∷ 0 ∷ 0 ∷ 0 ∷ 0 ∷ 0 ∷ 1 ∷ 0 ∷ 0 ∷ 0 ∷ 1 ∷ 0 ∷ 0 ∷ 0 ∷ 14 ∷ 0 ∷ 0 ∷ 0 ∷ 0 ∷ 0 ∷ 0 ∷ 0 ∷ 0 ∷ 0 ∷ 0 ∷ 0 ∷ 1 ∷ [] }
    ∷ record { from = sender.Node (record { region = 0; replica = 0 }); to = sender.Client; bytes = 5 ∷ 0 ∷ 0 ∷ 0 ∷ 0 ∷ 0 ∷ 0 ∷ 0 ∷ 1 ∷ 0 ∷ 0 ∷ 0 ∷ 0 ∷ 0 ∷ 0 ∷ 0 ∷ 6 ∷ 0 ∷ 0 ∷ 0 ∷ 1 ∷ 0 ∷ 0 ∷ 0 ∷ 0 ∷ 0 ∷ 0 ∷ 0 ∷ 1 ∷ 0 ∷ 1 ∷ 6 ∷ 1 ∷ 159 ∷ 26 ∷ 250 ∷ 77 ∷ 193 ∷ 36 ∷ 203 ∷ 167 ∷ 49 ∷ 52 ∷ 232 ∷ 47 ∷ 245 ∷ 15 ∷ 23 ∷ 200 ∷ 247 ∷ 22 ∷ 66 ∷ 87 ∷ 199 ∷ 159 ∷ 237 ∷ 154 ∷ 19 ∷ 245 ∷ 148 ∷ 58 ∷ 106 ∷ 203 ∷ 142 ∷ 61 ∷ [] }
    ∷ record { from = sender.Node (record { region = 0; replica = 1 }); to = sender.Client; bytes = 5 ∷ 0 ∷ 0 ∷ 0 ∷ 0 ∷ 0 ∷ 0 ∷ 0 ∷ 1 ∷ 0 ∷ 0 ∷ 0 ∷ 0 ∷ 0 ∷ 0 ∷ 0 ∷ 6 ∷ 0 ∷ 0 ∷ 0 ∷ 1 ∷ 0 ∷ 0 ∷ 0 ∷ 0 ∷ 0 ∷ 0 ∷ 0 ∷ 1 ∷ 0 ∷ 1 ∷ 6 ∷ 1 ∷ 159 ∷ 26 ∷ 250 ∷ 77 ∷ 193 ∷ 36 ∷ 203 ∷ 167 ∷ 49 ∷ 52 ∷ 232 ∷ 47 ∷ 245 ∷ 15 ∷ 23 ∷ 200 ∷ 247 ∷ 22 ∷ 66 ∷ 87 ∷ 199 ∷ 159 ∷ 237 ∷ 154 ∷ 19 ∷ 245 ∷ 148 ∷ 58 ∷ 106 ∷ 203 ∷ 142 ∷ 61 ∷ [] }
    ∷ record { from = sender.Node (record { region = 0; replica = 0 }); to = sender.Client; bytes = 5 ∷ 0 ∷ 0 ∷ 0 ∷ 0 ∷ 0 ∷ 0 ∷ 0 ∷ 1 ∷ 0 ∷ 0 ∷ 0 ∷ 0 ∷ 0 ∷ 0 ∷ 0 ∷ 7 ∷ 0 ∷ 0 ∷ 0 ∷ 0 ∷ 0 ∷ 0 ∷ 0 ∷ 0 ∷ 0 ∷ 0 ∷ 0 ∷ 1 ∷ 0 ∷ 1 ∷ 5 ∷ 1 ∷ 64 ∷ 216 ∷ 129 ∷ 39 ∷ 212 ∷ 211 ∷ 26 ∷ 56 ∷ 145 ∷ 244 ∷ 21 ∷ 152 ∷ 238 ∷ 237 ∷ 65 ∷ 23 ∷ 78 ∷ 91 ∷ 200 ∷ 155 ∷ 30 ∷ 185 ∷ 187 ∷ 214 ∷ 106 ∷ 140 ∷ 191 ∷ 192 ∷ 153 ∷ 86 ∷ 163 ∷ 253 ∷ [] }
    ∷ record { from = sender.Node (record { region = 0; replica = 1 }); to = sender.Client; bytes = 5 ∷ 0 ∷ 0 ∷ 0 ∷ 0 ∷ 0 ∷ 0 ∷ 0 ∷ 1 ∷ 0 ∷ 0 ∷ 0 ∷ 0 ∷ 0 ∷ 0 ∷ 0 ∷ 7 ∷ 0 ∷ 0 ∷ 0 ∷ 0 ∷ 0 ∷ 0 ∷ 0 ∷ 0 ∷ 0 ∷ 0 ∷ 0 ∷ 1 ∷ 0 ∷ 1 ∷ 5 ∷ 1 ∷ 64 ∷ 216 ∷ 129 ∷ 39 ∷ 212 ∷ 211 ∷ 26 ∷ 56 ∷ 145 ∷ 244 ∷ 21 ∷ 152 ∷ 238 ∷ 237 ∷ 65 ∷ 23 ∷ 78 ∷ 91 ∷ 200 ∷ 155 ∷ 30 ∷ 185 ∷ 187 ∷ 214 ∷ 106 ∷ 140 ∷ 191 ∷ 192 ∷ 153 ∷ 86 ∷ 163 ∷ 253 ∷ [] }
    ∷ record { from = sender.Node (record { region = 0; replica = 0 }); to = sender.Client; bytes = 5 ∷ 0 ∷ 0 ∷ 0 ∷ 0 ∷ 0 ∷ 0 ∷ 0 ∷ 1 ∷ 0 ∷ 0 ∷ 0 ∷ 0 ∷ 0 ∷ 0 ∷ 0 ∷ 6 ∷ 0 ∷ 0 ∷ 0 ∷ 1 ∷ 0 ∷ 0 ∷ 0 ∷ 0 ∷ 0 ∷ 0 ∷ 0 ∷ 1 ∷ 0 ∷ 1 ∷ 6 ∷ 1 ∷ 159 ∷ 26 ∷ 250 ∷ 77 ∷ 193 ∷ 36 ∷ 203 ∷ 167 ∷ 49 ∷ 52 ∷ 232 ∷ 47 ∷ 245 ∷ 15 ∷ 23 ∷ 200 ∷ 247 ∷ 22 ∷ 66 ∷ 87 ∷ 199 ∷ 159 ∷ 237 ∷ 154 ∷ 19 ∷ 245 ∷ 148 ∷ 58 ∷ 106 ∷ 203 ∷ 142 ∷ 61 ∷ [] }
    ∷ record { from = sender.Node (record { region = 0; replica = 0 }); to = sender.Node (record { region = 0; replica = 0 }); bytes = 2 ∷ 0 ∷ 0 ∷ 0 ∷ 0 ∷ 0 ∷ 0 ∷ 0 ∷ 1 ∷ 0 ∷ 0 ∷ 0 ∷ 0 ∷ 0 ∷ 0 ∷ 0 ∷ 1 ∷ 0 ∷ 0 ∷ 144 ∷ 238 ∷ 178 ∷ 196 ∷ 160 ∷ 78 ∷ 195 ∷ 62 ∷ 228 ∷ 221 ∷ 38 ∷ 119 ∷ 89 ∷ 51 ∷ 49 ∷ 145 ∷ 14 ∷ 66 ∷ 3 ∷ 219 ∷ 79 ∷ 204 ∷ 18 ∷ 10 ∷ 108 ∷ 219 ∷ 149 ∷ 177 ∷ 60 ∷ 254 ∷ 131 ∷ 240 ∷ [] }
    ∷ record { from = sender.Node (record { region = 0; replica = 0 }); to = sender.Node (record { region = 0; replica = 1 }); bytes = 2 ∷ 0 ∷ 0 ∷ 0 ∷ 0 ∷ 0 ∷ 0 ∷ 0 ∷ 1 ∷ 0 ∷ 0 ∷ 0 ∷ 0 ∷ 0 ∷ 0 ∷ 0 ∷ 1 ∷ 0 ∷ 0 ∷ 144 ∷ 238 ∷ 178 ∷ 196 ∷ 160 ∷ 78 ∷ 195 ∷ 62 ∷ 228 ∷ 221 ∷ 38 ∷ 119 ∷ 89 ∷ 51 ∷ 49 ∷ 145 ∷ 14 ∷ 66 ∷ 3 ∷ 219 ∷ 79 ∷ 204 ∷ 18 ∷ 10 ∷ 108 ∷ 219 ∷ 149 ∷ 177 ∷ 60 ∷ 254 ∷ 131 ∷ 240 ∷ [] }
    ∷ record { from = sender.Node (record { region = 0; replica = 1 }); to = sender.Node (record { region = 0; replica = 0 }); bytes = 2 ∷ 0 ∷ 0 ∷ 0 ∷ 0 ∷ 0 ∷ 0 ∷ 0 ∷ 1 ∷ 0 ∷ 0 ∷ 0 ∷ 0 ∷ 0 ∷ 0 ∷ 0 ∷ 1 ∷ 0 ∷ 0 ∷ 144 ∷ 238 ∷ 178 ∷ 196 ∷ 160 ∷ 78 ∷ 195 ∷ 62 ∷ 228 ∷ 221 ∷ 38 ∷ 119 ∷ 89 ∷ 51 ∷ 49 ∷ 145 ∷ 14 ∷ 66 ∷ 3 ∷ 219 ∷ 79 ∷ 204 ∷ 18 ∷ 10 ∷ 108 ∷ 219 ∷ 149 ∷ 177 ∷ 60 ∷ 254 ∷ 131 ∷ 240 ∷ [] }
    ∷ record { from = sender.Node (record { region = 0; replica = 1 }); to = sender.Node (record { region = 0; replica = 1 }); bytes = 2 ∷ 0 ∷ 0 ∷ 0 ∷ 0 ∷ 0 ∷ 0 ∷ 0 ∷ 1 ∷ 0 ∷ 0 ∷ 0 ∷ 0 ∷ 0 ∷ 0 ∷ 0 ∷ 1 ∷ 0 ∷ 0 ∷ 144 ∷ 238 ∷ 178 ∷ 196 ∷ 160 ∷ 78 ∷ 195 ∷ 62 ∷ 228 ∷ 221 ∷ 38 ∷ 119 ∷ 89 ∷ 51 ∷ 49 ∷ 145 ∷ 14 ∷ 66 ∷ 3 ∷ 219 ∷ 79 ∷ 204 ∷ 18 ∷ 10 ∷ 108 ∷ 219 ∷ 149 ∷ 177 ∷ 60 ∷ 254 ∷ 131 ∷ 240 ∷ [] }
    ∷ record { from = sender.Node (record { region = 0; replica = 0 }); to = sender.Client; bytes = 5 ∷ 0 ∷ 0 ∷ 0 ∷ 0 ∷ 0 ∷ 0 ∷ 0 ∷ 1 ∷ 0 ∷ 0 ∷ 0 ∷ 0 ∷ 0 ∷ 0 ∷ 0 ∷ 7 ∷ 0 ∷ 0 ∷ 0 ∷ 0 ∷ 0 ∷ 0 ∷ 0 ∷ 0 ∷ 0 ∷ 0 ∷ 0 ∷ 1 ∷ 0 ∷ 1 ∷ 5 ∷ 1 ∷ 64 ∷ 216 ∷ 129 ∷ 39 ∷ 212 ∷ 211 ∷ 26 ∷ 56 ∷ 145 ∷ 244 ∷ 21 ∷ 152 ∷ 238 ∷ 237 ∷ 65 ∷ 23 ∷ 78 ∷ 91 ∷ 200 ∷ 155 ∷ 30 ∷ 185 ∷ 187 ∷ 214 ∷ 106 ∷ 140 ∷ 191 ∷ 192 ∷ 153 ∷ 86 ∷ 163 ∷ 253 ∷ [] }
    ∷ record { from = sender.Node (record { region = 0; replica = 1 }); to = sender.Client; bytes = 5 ∷ 0 ∷ 0 ∷ 0 ∷ 0 ∷ 0 ∷ 0 ∷ 0 ∷ 1 ∷ 0 ∷ 0 ∷ 0 ∷ 0 ∷ 0 ∷ 0 ∷ 0 ∷ 7 ∷ 0 ∷ 0 ∷ 0 ∷ 0 ∷ 0 ∷ 0 ∷ 0 ∷ 0 ∷ 0 ∷ 0 ∷ 0 ∷ 1 ∷ 0 ∷ 1 ∷ 5 ∷ 1 ∷ 64 ∷ 216 ∷ 129 ∷ 39 ∷ 212 ∷ 211 ∷ 26 ∷ 56 ∷ 145 ∷ 244 ∷ 21 ∷ 152 ∷ 238 ∷ 237 ∷ 65 ∷ 23 ∷ 78 ∷ 91 ∷ 200 ∷ 155 ∷ 30 ∷ 185 ∷ 187 ∷ 214 ∷ 106 ∷ 140 ∷ 191 ∷ 192 ∷ 153 ∷ 86 ∷ 163 ∷ 253 ∷ [] }
    ∷ record { from = sender.Node (record { region = 0; replica = 0 }); to = sender.Client; bytes = 5 ∷ 0 ∷ 0 ∷ 0 ∷ 0 ∷ 0 ∷ 0 ∷ 0 ∷ 1 ∷ 0 ∷ 0 ∷ 0 ∷ 1 ∷ 0 ∷ 0 ∷ 0 ∷ 14 ∷ 0 ∷ 0 ∷ 0 ∷ 0 ∷ 0 ∷ 0 ∷ 0 ∷ 0 ∷ 0 ∷ 0 ∷ 0 ∷ 1 ∷ 0 ∷ 1 ∷ 5 ∷ 1 ∷ 64 ∷ 216 ∷ 129 ∷ 39 ∷ 212 ∷ 211 ∷ 26 ∷ 56 ∷ 145 ∷ 244 ∷ 21 ∷ 152 ∷ 238 ∷ 237 ∷ 65 ∷ 23 ∷ 78 ∷ 91 ∷ 200 ∷ 155 ∷ 30 ∷ 185 ∷ 187 ∷ 214 ∷ 106 ∷ 140 ∷ 191 ∷ 192 ∷ 153 ∷ 86 ∷ 163 ∷ 253 ∷ [] }
    ∷ record { from = sender.Node (record { region = 0; replica = 1 }); to = sender.Client; bytes = 5 ∷ 0 ∷ 0 ∷ 0 ∷ 0 ∷ 0 ∷ 0 ∷ 0 ∷ 1 ∷ 0 ∷ 0 ∷ 0 ∷ 1 ∷ 0 ∷ 0 ∷ 0 ∷ 14 ∷ 0 ∷ 0 ∷ 0 ∷ 0 ∷ 0 ∷ 0 ∷ 0 ∷ 0 ∷ 0 ∷ 0 ∷ 0 ∷ 1 ∷ 0 ∷ 1 ∷ 5 ∷ 1 ∷ 64 ∷ 216 ∷ 129 ∷ 39 ∷ 212 ∷ 211 ∷ 26 ∷ 56 ∷ 145 ∷ 244 ∷ 21 ∷ 152 ∷ 238 ∷ 237 ∷ 65 ∷ 23 ∷ 78 ∷ 91 ∷ 200 ∷ 155 ∷ 30 ∷ 185 ∷ 187 ∷ 214 ∷ 106 ∷ 140 ∷ 191 ∷ 192 ∷ 153 ∷ 86 ∷ 163 ∷ 253 ∷ [] }
    ∷ record { from = sender.Client; to = sender.Node (record { region = 0; replica = 0 }); bytes = 1 ∷ 1 ∷ 0 ∷ 0 ∷ 0 ∷ 0 ∷ 0 ∷ 0 ∷ 0 ∷ 1 ∷ 0 ∷ 0 ∷ 0 ∷ 0 ∷ 0 ∷ 0 ∷ 0 ∷ 2 ∷ 0 ∷ 0 ∷ 0 ∷ 0 ∷ 0 ∷ 0 ∷ 0 ∷ 0 ∷ 0 ∷ 1 ∷ 0 ∷ 0 ∷ 1 ∷ 0 ∷ 0 ∷ 0 ∷ 0 ∷ 0 ∷ 0 ∷ 0 ∷ 2 ∷ 1 ∷ 0 ∷ 0 ∷ 141 ∷ 117 ∷ 23 ∷ 204 ∷ 36 ∷ 207 ∷ 80 ∷ 153 ∷ 86 ∷ 15 ∷ 224 ∷ 99 ∷ 99 ∷ 171 ∷ 121 ∷ 238 ∷ 139 ∷ 99 ∷ 70 ∷ 128 ∷ 10 ∷ 113 ∷ 181 ∷ 151 ∷ 153 ∷ 162 ∷ 96 ∷ 76 ∷ 201 ∷ 230 ∷ 47 ∷ 85 ∷ 141 ∷ 117 ∷ 23 ∷ 204 ∷ 36 ∷ 207 ∷ 80 ∷ 153 ∷ 86 ∷ 15 ∷ 224 ∷ 99 ∷ 99 ∷ 171 ∷ 121 ∷ 238 ∷ 139 ∷ 99 ∷ 70 ∷ 128 ∷ 10 ∷ 113 ∷ 181 ∷ 151 ∷ 153 ∷ 162 ∷ 96 ∷ 76 ∷ 201 ∷ 230 ∷ 47 ∷ 85 ∷ 1 ∷ 0 ∷ 0 ∷ 0 ∷ 1 ∷ 9 ∷ 72 ∷ 255 ∷ 29 ∷ 7 ∷ 152 ∷ 150 ∷ 127 ∷ 113 ∷ 132 ∷ 114 ∷ 11 ∷ 17 ∷ 222 ∷ 121 ∷ 8 ∷ 150 ∷ 68 ∷ 108 ∷ 162 ∷ 117 ∷ 250 ∷ 11 ∷ 240 ∷ 162 ∷ 75 ∷ 40 ∷ 75 ∷ 84 ∷ 212 ∷ 146 ∷ 147 ∷ 35 ∷ [] }
    ∷ record { from = sender.Client; to = sender.Node (record { region = 0; replica = 1 }); bytes = 1 ∷ 1 ∷ 0 ∷ 0 ∷ 0 ∷ 0 ∷ 0 ∷ 0 ∷ 0 ∷ 1 ∷ 0 ∷ 0 ∷ 0 ∷ 0 ∷ 0 ∷ 0 ∷ 0 ∷ 2 ∷ 0 ∷ 0 ∷ 0 ∷ 0 ∷ 0 ∷ 0 ∷ 0 ∷ 0 ∷ 0 ∷ 1 ∷ 0 ∷ 0 ∷ 1 ∷ 0 ∷ 0 ∷ 0 ∷ 0 ∷ 0 ∷ 0 ∷ 0 ∷ 2 ∷ 1 ∷ 0 ∷ 0 ∷ 141 ∷ 117 ∷ 23 ∷ 204 ∷ 36 ∷ 207 ∷ 80 ∷ 153 ∷ 86 ∷ 15 ∷ 224 ∷ 99 ∷ 99 ∷ 171 ∷ 121 ∷ 238 ∷ 139 ∷ 99 ∷ 70 ∷ 128 ∷ 10 ∷ 113 ∷ 181 ∷ 151 ∷ 153 ∷ 162 ∷ 96 ∷ 76 ∷ 201 ∷ 230 ∷ 47 ∷ 85 ∷ 141 ∷ 117 ∷ 23 ∷ 204 ∷ 36 ∷ 207 ∷ 80 ∷ 153 ∷ 86 ∷ 15 ∷ 224 ∷ 99 ∷ 99 ∷ 171 ∷ 121 ∷ 238 ∷ 139 ∷ 99 ∷ 70 ∷ 128 ∷ 10 ∷ 113 ∷ 181 ∷ 151 ∷ 153 ∷ 162 ∷ 96 ∷ 76 ∷ 201 ∷ 230 ∷ 47 ∷ 85 ∷ 1 ∷ 0 ∷ 0 ∷ 0 ∷ 1 ∷ 9 ∷ 72 ∷ 255 ∷ 29 ∷ 7 ∷ 152 ∷ 150 ∷ 127 ∷ 113 ∷ 132 ∷ 114 ∷ 11 ∷ 17 ∷ 222 ∷ 121 ∷ 8 ∷ 150 ∷ 68 ∷ 108 ∷ 162 ∷ 117 ∷ 250 ∷ 11 ∷ 240 ∷ 162 ∷ 75 ∷ 40 ∷ 75 ∷ 84 ∷ 212 ∷ 146 ∷ 147 ∷ 35 ∷ [] }
    ∷ record { from = sender.Node (record { region = 0; replica = 0 }); to = sender.Node (record { region = 0; replica = 0 }); bytes = 2 ∷ 0 ∷ 0 ∷ 0 ∷ 0 ∷ 0 ∷ 0 ∷ 0 ∷ 1 ∷ 0 ∷ 0 ∷ 0 ∷ 0 ∷ 0 ∷ 0 ∷ 0 ∷ 2 ∷ 0 ∷ 0 ∷ 141 ∷ 117 ∷ 23 ∷ 204 ∷ 36 ∷ 207 ∷ 80 ∷ 153 ∷ 86 ∷ 15 ∷ 224 ∷ 99 ∷ 99 ∷ 171 ∷ 121 ∷ 238 ∷ 139 ∷ 99 ∷ 70 ∷ 128 ∷ 10 ∷ 113 ∷ 181 ∷ 151 ∷ 153 ∷ 162 ∷ 96 ∷ 76 ∷ 201 ∷ 230 ∷ 47 ∷ 85 ∷ [] }
    ∷ record { from = sender.Node (record { region = 0; replica = 0 }); to = sender.Node (record { region = 0; replica = 1 }); bytes = 2 ∷ 0 ∷ 0 ∷ 0 ∷ 0 ∷ 0 ∷ 0 ∷ 0 ∷ 1 ∷ 0 ∷ 0 ∷ 0 ∷ 0 ∷ 0 ∷ 0 ∷ 0 ∷ 2 ∷ 0 ∷ 0 ∷ 141 ∷ 117 ∷ 23 ∷ 204 ∷ 36 ∷ 207 ∷ 80 ∷ 153 ∷ 86 ∷ 15 ∷ 224 ∷ 99 ∷ 99 ∷ 171 ∷ 121 ∷ 238 ∷ 139 ∷ 99 ∷ 70 ∷ 128 ∷ 10 ∷ 113 ∷ 181 ∷ 151 ∷ 153 ∷ 162 ∷ 96 ∷ 76 ∷ 201 ∷ 230 ∷ 47 ∷ 85 ∷ [] }
    ∷ record { from = sender.Node (record { region = 0; replica = 1 }); to = sender.Node (record { region = 0; replica = 0 }); bytes = 2 ∷ 0 ∷ 0 ∷ 0 ∷ 0 ∷ 0 ∷ 0 ∷ 0 ∷ 1 ∷ 0 ∷ 0 ∷ 0 ∷ 0 ∷ 0 ∷ 0 ∷ 0 ∷ 2 ∷ 0 ∷ 0 ∷ 141 ∷ 117 ∷ 23 ∷ 204 ∷ 36 ∷ 207 ∷ 80 ∷ 153 ∷ 86 ∷ 15 ∷ 224 ∷ 99 ∷ 99 ∷ 171 ∷ 121 ∷ 238 ∷ 139 ∷ 99 ∷ 70 ∷ 128 ∷ 10 ∷ 113 ∷ 181 ∷ 151 ∷ 153 ∷ 162 ∷ 96 ∷ 76 ∷ 201 ∷ 230 ∷ 47 ∷ 85 ∷ [] }
    ∷ record { from = sender.Node (record { region = 0; replica = 1 }); to = sender.Node (record { region = 0; replica = 1 }); bytes = 2 ∷ 0 ∷ 0 ∷ 0 ∷ 0 ∷ 0 ∷ 0 ∷ 0 ∷ 1 ∷ 0 ∷ 0 ∷ 0 ∷ 0 ∷ 0 ∷ 0 ∷ 0 ∷ 2 ∷ 0 ∷ 0 ∷ 141 ∷ 117 ∷ 23 ∷ 204 ∷ 36 ∷ 207 ∷ 80 ∷ 153 ∷ 86 ∷ 15 ∷ 224 ∷ 99 ∷ 99 ∷ 171 ∷ 121 ∷ 238 ∷ 139 ∷ 99 ∷ 70 ∷ 128 ∷ 10 ∷ 113 ∷ 181 ∷ 151 ∷ 153 ∷ 162 ∷ 96 ∷ 76 ∷ 201 ∷ 230 ∷ 47 ∷ 85 ∷ [] }
    ∷ record { from = sender.Node (record { region = 0; replica = 0 }); to = sender.Client; bytes = 3 ∷ 0 ∷ 0 ∷ 0 ∷ 0 ∷ 0 ∷ 0 ∷ 0 ∷ 1 ∷ 0 ∷ 0 ∷ 0 ∷ 0 ∷ 0 ∷ 0 ∷ 0 ∷ 2 ∷ [] }
    ∷ record { from = sender.Node (record { region = 0; replica = 0 }); to = sender.Node (record { region = 0; replica = 0 }); bytes = 3 ∷ 0 ∷ 0 ∷ 0 ∷ 0 ∷ 0 ∷ 0 ∷ 0 ∷ 1 ∷ 0 ∷ 0 ∷ 0 ∷ 0 ∷ 0 ∷ 0 ∷ 0 ∷ 2 ∷ [] }
    ∷ record { from = sender.Node (record { region = 0; replica = 0 }); to = sender.Node (record { region = 0; replica = 1 }); bytes = 3 ∷ 0 ∷ 0 ∷ 0 ∷ 0 ∷ 0 ∷ 0 ∷ 0 ∷ 1 ∷ 0 ∷ 0 ∷ 0 ∷ 0 ∷ 0 ∷ 0 ∷ 0 ∷ 2 ∷ [] }
    ∷ record { from = sender.Node (record { region = 0; replica = 1 }); to = sender.Client; bytes = 3 ∷ 0 ∷ 0 ∷ 0 ∷ 0 ∷ 0 ∷ 0 ∷ 0 ∷ 1 ∷ 0 ∷ 0 ∷ 0 ∷ 0 ∷ 0 ∷ 0 ∷ 0 ∷ 2 ∷ [] }
    ∷ record { from = sender.Node (record { region = 0; replica = 1 }); to = sender.Node (record { region = 0; replica = 0 }); bytes = 3 ∷ 0 ∷ 0 ∷ 0 ∷ 0 ∷ 0 ∷ 0 ∷ 0 ∷ 1 ∷ 0 ∷ 0 ∷ 0 ∷ 0 ∷ 0 ∷ 0 ∷ 0 ∷ 2 ∷ [] }
    ∷ record { from = sender.Node (record { region = 0; replica = 1 }); to = sender.Node (record { region = 0; replica = 1 }); bytes = 3 ∷ 0 ∷ 0 ∷ 0 ∷ 0 ∷ 0 ∷ 0 ∷ 0 ∷ 1 ∷ 0 ∷ 0 ∷ 0 ∷ 0 ∷ 0 ∷ 0 ∷ 0 ∷ 2 ∷ [] }
    ∷ record { from = sender.Client; to = sender.Node (record { region = 0; replica = 0 }); bytes = 4 ∷ 0 ∷ 0 ∷ 0 ∷ 0 ∷ 0 ∷ 0 ∷ 0 ∷ 1 ∷ 0 ∷ 0 ∷ 0 ∷ 0 ∷ 0 ∷ 0 ∷ 0 ∷ 19 ∷ 0 ∷ 0 ∷ 0 ∷ 0 ∷ 0 ∷ 0 ∷ 0 ∷ 0 ∷ 0 ∷ 0 ∷ 0 ∷ 2 ∷ [] }
    ∷ record { from = sender.Client; to = sender.Node (record { region = 0; replica = 1 }); bytes = 4 ∷ 0 ∷ 0 ∷ 0 ∷ 0 ∷ 0 ∷ 0 ∷ 0 ∷ 1 ∷ 0 ∷ 0 ∷ 0 ∷ 0 ∷ 0 ∷ 0 ∷ 0 ∷ 19 ∷ 0 ∷ 0 ∷ 0 ∷ 0 ∷ 0 ∷ 0 ∷ 0 ∷ 0 ∷ 0 ∷ 0 ∷ 0 ∷ 2 ∷ [] }
    ∷ []

abbrev trace_here : List TraceStep
trace_here =
    record { event = 1; party = sender.Client; handed = handed.Asked (request.Write (record { block = 0; bytes = 5 ∷ [] } ∷ record { block = 1; bytes = 6 ∷ [] } ∷ [])); sent = 4; failed = false; loaded = None }
    ∷ record { event = 2; party = sender.Client; handed = handed.Lie (sender.Node (record { region = 0; replica = 0 })) (5 ∷ 0 ∷ 0 ∷ 0 ∷ 0 ∷ 0 ∷ 0 ∷ 0 ∷ 1 ∷ 0 ∷ 0 ∷ 0 ∷ 1 ∷ 0 ∷ 0 ∷ 0 ∷ 1 ∷ 0 ∷ 0 ∷ 0 ∷ 0 ∷ 0 ∷ 0 ∷ 0 ∷ 0 ∷ 0 ∷ 0 ∷ 0 ∷ 9 ∷ 0 ∷ 1 ∷ 0 ∷ 1 ∷ 150 ∷ 162 ∷ 150 ∷ 210 ∷ 36 ∷ 242 ∷ 133 ∷ 198 ∷ 123 ∷ 238 ∷ 147 ∷ 195 ∷ 15 ∷ 138 ∷ 48 ∷ 145 ∷ 87 ∷ 240 ∷ 218 ∷ 163 ∷ 93 ∷ 197 ∷ 184 ∷ 126 ∷ 65 ∷ 11 ∷ 120 ∷ 99 ∷ 10 ∷ 9 ∷ 207 ∷ 199 ∷ []); sent = 4; failed = false; loaded = None }
    ∷ record { event = 3; party = sender.Client; handed = handed.Lie (sender.Node (record { region = 0; replica = 1 })) (5 ∷ 0 ∷ 0 ∷ 0 ∷ 0 ∷ 0 ∷ 0 ∷ 0 ∷ 1 ∷ 0 ∷ 0 ∷ 0 ∷ 1 ∷ 0 ∷ 0 ∷ 0 ∷ 1 ∷ 0 ∷ 0 ∷ 0 ∷ 0 ∷ 0 ∷ 0 ∷ 0 ∷ 0 ∷ 0 ∷ 0 ∷ 0 ∷ 9 ∷ 0 ∷ 1 ∷ 0 ∷ 1 ∷ 150 ∷ 162 ∷ 150 ∷ 210 ∷ 36 ∷ 242 ∷ 133 ∷ 198 ∷ 123 ∷ 238 ∷ 147 ∷ 195 ∷ 15 ∷ 138 ∷ 48 ∷ 145 ∷ 87 ∷ 240 ∷ 218 ∷ 163 ∷ 93 ∷ 197 ∷ 184 ∷ 126 ∷ 65 ∷ 11 ∷ 120 ∷ 99 ∷ 10 ∷ 9 ∷ 207 ∷ 199 ∷ []); sent = 4; failed = false; loaded = None }
    ∷ record { event = 4; party = sender.Client; handed = handed.Asked (request.Write (record { block = 1; bytes = 6 ∷ [] } ∷ record { block = 0; bytes = 5 ∷ [] } ∷ [])); sent = 8; failed = false; loaded = None }
    ∷ record { event = 5; party = sender.Node (record { region = 0; replica = 0 }); handed = handed.Deliver 1; sent = 9; failed = false; loaded = None }
    ∷ record { event = 5; party = sender.Node (record { region = 0; replica = 1 }); handed = handed.Deliver 2; sent = 10; failed = false; loaded = None }
    ∷ record { event = 5; party = sender.Node (record { region = 0; replica = 0 }); handed = handed.Deliver 3; sent = 11; failed = false; loaded = None }
    ∷ record { event = 5; party = sender.Node (record { region = 0; replica = 1 }); handed = handed.Deliver 4; sent = 12; failed = false; loaded = None }
    ∷ record { event = 5; party = sender.Node (record { region = 0; replica = 0 }); handed = handed.Deliver 5; sent = 13; failed = false; loaded = None }
    ∷ record { event = 5; party = sender.Node (record { region = 0; replica = 1 }); handed = handed.Deliver 6; sent = 14; failed = false; loaded = None }
    ∷ record { event = 5; party = sender.Node (record { region = 0; replica = 0 }); handed = handed.Deliver 7; sent = 15; failed = false; loaded = None }
    ∷ record { event = 5; party = sender.Node (record { region = 0; replica = 1 }); handed = handed.Deliver 8; sent = 16; failed = false; loaded = None }
    ∷ record { event = 5; party = sender.Client; handed = handed.Deliver 9; sent = 16; failed = false; loaded = None }
    ∷ record { event = 5; party = sender.Client; handed = handed.Deliver 10; sent = 16; failed = false; loaded = None }
    ∷ record { event = 5; party = sender.Client; handed = handed.Deliver 11; sent = 16; failed = false; loaded = None }
    ∷ record { event = 5; party = sender.Client; handed = handed.Deliver 12; sent = 16; failed = false; loaded = None }
    ∷ record { event = 5; party = sender.Client; handed = handed.Deliver 13; sent = 16; failed = false; loaded = None }
    ∷ record { event = 5; party = sender.Client; handed = handed.Deliver 14; sent = 16; failed = false; loaded = None }
    ∷ record { event = 5; party = sender.Client; handed = handed.Deliver 15; sent = 18; failed = false; loaded = None }
    ∷ record { event = 5; party = sender.Client; handed = handed.Deliver 16; sent = 18; failed = false; loaded = None }
    ∷ record { event = 5; party = sender.Node (record { region = 0; replica = 0 }); handed = handed.Deliver 17; sent = 20; failed = false; loaded = None }
    ∷ record { event = 5; party = sender.Node (record { region = 0; replica = 1 }); handed = handed.Deliver 18; sent = 22; failed = false; loaded = None }
    ∷ record { event = 5; party = sender.Node (record { region = 0; replica = 0 }); handed = handed.Deliver 19; sent = 22; failed = false; loaded = None }
    ∷ record { event = 5; party = sender.Node (record { region = 0; replica = 1 }); handed = handed.Deliver 20; sent = 22; failed = false; loaded = None }
    ∷ record { event = 5; party = sender.Node (record { region = 0; replica = 0 }); handed = handed.Deliver 21; sent = 25; failed = false; loaded = None }
    ∷ record { event = 5; party = sender.Node (record { region = 0; replica = 1 }); handed = handed.Deliver 22; sent = 28; failed = false; loaded = None }
    ∷ record { event = 5; party = sender.Client; handed = handed.Deliver 23; sent = 28; failed = false; loaded = None }
    ∷ record { event = 5; party = sender.Node (record { region = 0; replica = 0 }); handed = handed.Deliver 24; sent = 28; failed = false; loaded = None }
    ∷ record { event = 6; party = sender.Client; handed = handed.Asked (request.Read 1); sent = 30; failed = false; loaded = None }
    ∷ record { event = 7; party = sender.Client; handed = handed.Asked (request.Read 0); sent = 32; failed = false; loaded = None }
    ∷ record { event = 8; party = sender.Client; handed = handed.Lie (sender.Node (record { region = 0; replica = 0 })) (5 ∷ 0 ∷ 0 ∷ 0 ∷ 0 ∷ 0 ∷ 0 ∷ 0 ∷ 1 ∷ 0 ∷ 0 ∷ 0 ∷ 0 ∷ 0 ∷ 0 ∷ 0 ∷ 6 ∷ 0 ∷ 0 ∷ 0 ∷ 1 ∷ 0 ∷ 0 ∷ 0 ∷ 0 ∷ 0 ∷ 0 ∷ 0 ∷ 0 ∷ 0 ∷ 1 ∷ 6 ∷ 1 ∷ 150 ∷ 162 ∷ 150 ∷ 210 ∷ 36 ∷ 242 ∷ 133 ∷ 198 ∷ 123 ∷ 238 ∷ 147 ∷ 195 ∷ 15 ∷ 138 ∷ 48 ∷ 145 ∷ 87 ∷ 240 ∷ 218 ∷ 163 ∷ 93 ∷ 197 ∷ 184 ∷ 126 ∷ 65 ∷ 11 ∷ 120 ∷ 99 ∷ 10 ∷ 9 ∷ 207 ∷ 199 ∷ []); sent = 33; failed = false; loaded = None }
    ∷ record { event = 9; party = sender.Client; handed = handed.Lie (sender.Node (record { region = 0; replica = 1 })) (5 ∷ 0 ∷ 0 ∷ 0 ∷ 0 ∷ 0 ∷ 0 ∷ 0 ∷ 1 ∷ 0 ∷ 0 ∷ 0 ∷ 0 ∷ 0 ∷ 0 ∷ 0 ∷ 6 ∷ 0 ∷ 0 ∷ 0 ∷ 1 ∷ 0 ∷ 0 ∷ 0 ∷ 0 ∷ 0 ∷ 0 ∷ 0 ∷ 7 ∷ 0 ∷ 1 ∷ 6 ∷ 1 ∷ 150 ∷ 162 ∷ 150 ∷ 210 ∷ 36 ∷ 242 ∷ 133 ∷ 198 ∷ 123 ∷ 238 ∷ 147 ∷ 195 ∷ 15 ∷ 138 ∷ 48 ∷ 145 ∷ 87 ∷ 240 ∷ 218 ∷ 163 ∷ 93 ∷ 197 ∷ 184 ∷ 126 ∷ 65 ∷ 11 ∷ 120 ∷ 99 ∷ 10 ∷ 9 ∷ 207 ∷ 199 ∷ []); sent = 33; failed = false; loaded = None }
    ∷ record { event = 10; party = sender.Client; handed = handed.Lie (sender.Node (record { region = 0; replica = 1 })) (5 ∷ 0 ∷ 0 ∷ 0 ∷ 0 ∷ 0 ∷ 0 ∷ 0 ∷ 1 ∷ 0 ∷ 0 ∷ 0 ∷ 0 ∷ 0 ∷ 0 ∷ 0 ∷ 6 ∷ 0 ∷ 0 ∷ 0 ∷ 1 ∷ 0 ∷ 0 ∷ 0 ∷ 0 ∷ 0 ∷ 0 ∷ 0 ∷ 1 ∷ 0 ∷ 1 ∷ 6 ∷ 1 ∷ 150 ∷ 162 ∷ 150 ∷ 210 ∷ 36 ∷ 242 ∷ 133 ∷ 198 ∷ 123 ∷ 238 ∷ 147 ∷ 195 ∷ 15 ∷ 138 ∷ 48 ∷ 145 ∷ 87 ∷ 240 ∷ 218 ∷ 163 ∷ 93 ∷ 197 ∷ 184 ∷ 126 ∷ 65 ∷ 11 ∷ 120 ∷ 99 ∷ 10 ∷ 9 ∷ 207 ∷ 199 ∷ []); sent = 33; failed = false; loaded = None }
    ∷ record { event = 11; party = sender.Client; handed = handed.Lie (sender.Node (record { region = 0; replica = 0 })) (5 ∷ 0 ∷ 0 ∷ 0 ∷ 0 ∷ 0 ∷ 0 ∷ 0 ∷ 1 ∷ 0 ∷ 0 ∷ 0 ∷ 0 ∷ 0 ∷ 0 ∷ 0 ∷ 6 ∷ 0 ∷ 0 ∷ 0 ∷ 1 ∷ 0 ∷ 0 ∷ 0 ∷ 0 ∷ 0 ∷ 0 ∷ 0 ∷ 1 ∷ 0 ∷ 1 ∷ 6 ∷ 1 ∷ 150 ∷ 162 ∷ 150 ∷ 210 ∷ 36 ∷ 242 ∷ 133 ∷ 198 ∷ 123 ∷ 238 ∷ 147 ∷ 195 ∷ 15 ∷ 138 ∷ 48 ∷ 145 ∷ 87 ∷ 240 ∷ 218 ∷ 163 ∷ 93 ∷ 197 ∷ 184 ∷ 126 ∷ 65 ∷ 11 ∷ 120 ∷ 99 ∷ 10 ∷ 9 ∷ 207 ∷ 199 ∷ []); sent = 33; failed = false; loaded = None }
    ∷ record { event = 12; party = sender.Client; handed = handed.Lie (sender.Node (record { region = 0; replica = 0 })) (5 ∷ 0 ∷ 0 ∷ 0 ∷ 0 ∷ 0 ∷ 0 ∷ 0 ∷ 1 ∷ 0 ∷ 0 ∷ 0 ∷ 0 ∷ 0 ∷ 0 ∷ 0 ∷ 6 ∷ 0 ∷ 0 ∷ 0 ∷ 0 ∷ 0 ∷ 0 ∷ 0 ∷ 0 ∷ 0 ∷ 0 ∷ 0 ∷ 1 ∷ 0 ∷ 1 ∷ 6 ∷ 1 ∷ 150 ∷ 162 ∷ 150 ∷ 210 ∷ 36 ∷ 242 ∷ 133 ∷ 198 ∷ 123 ∷ 238 ∷ 147 ∷ 195 ∷ 15 ∷ 138 ∷ 48 ∷ 145 ∷ 87 ∷ 240 ∷ 218 ∷ 163 ∷ 93 ∷ 197 ∷ 184 ∷ 126 ∷ 65 ∷ 11 ∷ 120 ∷ 99 ∷ 10 ∷ 9 ∷ 207 ∷ 199 ∷ []); sent = 33; failed = false; loaded = None }
    ∷ record { event = 13; party = sender.Client; handed = handed.Tick; sent = 37; failed = false; loaded = None }
    ∷ record { event = 14; party = sender.Client; handed = handed.Asked (request.Write (record { block = 0; bytes = 9 ∷ [] } ∷ [])); sent = 39; failed = false; loaded = None }
    ∷ record { event = 15; party = sender.Client; handed = handed.Lie (sender.Node (record { region = 0; replica = 1 })) (5 ∷ 0 ∷ 0 ∷ 0 ∷ 0 ∷ 0 ∷ 0 ∷ 0 ∷ 1 ∷ 0 ∷ 0 ∷ 0 ∷ 1 ∷ 0 ∷ 0 ∷ 0 ∷ 13 ∷ 0 ∷ 0 ∷ 0 ∷ 0 ∷ 0 ∷ 0 ∷ 0 ∷ 0 ∷ 0 ∷ 0 ∷ 0 ∷ 0 ∷ 0 ∷ 1 ∷ 0 ∷ 1 ∷ 150 ∷ 162 ∷ 150 ∷ 210 ∷ 36 ∷ 242 ∷ 133 ∷ 198 ∷ 123 ∷ 238 ∷ 147 ∷ 195 ∷ 15 ∷ 138 ∷ 48 ∷ 145 ∷ 87 ∷ 240 ∷ 218 ∷ 163 ∷ 93 ∷ 197 ∷ 184 ∷ 126 ∷ 65 ∷ 11 ∷ 120 ∷ 99 ∷ 10 ∷ 9 ∷ 207 ∷ 199 ∷ []); sent = 39; failed = false; loaded = None }
    ∷ record { event = 16; party = sender.Client; handed = handed.Asked (request.Barrier); sent = 39; failed = false; loaded = None }
    ∷ record { event = 17; party = sender.Client; handed = handed.Asked (request.Reassign 2 0); sent = 39; failed = false; loaded = None }
    ∷ record { event = 18; party = sender.Node (record { region = 0; replica = 1 }); handed = handed.Deliver 25; sent = 39; failed = false; loaded = None }
    ∷ record { event = 18; party = sender.Client; handed = handed.Deliver 26; sent = 39; failed = false; loaded = None }
    ∷ record { event = 18; party = sender.Node (record { region = 0; replica = 0 }); handed = handed.Deliver 27; sent = 39; failed = false; loaded = None }
    ∷ record { event = 18; party = sender.Node (record { region = 0; replica = 1 }); handed = handed.Deliver 28; sent = 39; failed = false; loaded = None }
    ∷ record { event = 18; party = sender.Node (record { region = 0; replica = 0 }); handed = handed.Deliver 29; sent = 40; failed = false; loaded = None }
    ∷ record { event = 18; party = sender.Node (record { region = 0; replica = 1 }); handed = handed.Deliver 30; sent = 41; failed = false; loaded = None }
    ∷ record { event = 18; party = sender.Node (record { region = 0; replica = 0 }); handed = handed.Deliver 31; sent = 42; failed = false; loaded = None }
    ∷ record { event = 18; party = sender.Node (record { region = 0; replica = 1 }); handed = handed.Deliver 32; sent = 43; failed = false; loaded = None }
    ∷ record { event = 18; party = sender.Node (record { region = 0; replica = 0 }); handed = handed.Deliver 33; sent = 44; failed = false; loaded = None }
    ∷ record { event = 18; party = sender.Node (record { region = 0; replica = 0 }); handed = handed.Deliver 34; sent = 46; failed = false; loaded = None }
    ∷ record { event = 18; party = sender.Node (record { region = 0; replica = 1 }); handed = handed.Deliver 35; sent = 48; failed = false; loaded = None }
    ∷ record { event = 18; party = sender.Node (record { region = 0; replica = 0 }); handed = handed.Deliver 36; sent = 49; failed = false; loaded = None }
    ∷ record { event = 18; party = sender.Node (record { region = 0; replica = 1 }); handed = handed.Deliver 37; sent = 50; failed = false; loaded = None }
    ∷ record { event = 18; party = sender.Node (record { region = 0; replica = 0 }); handed = handed.Deliver 38; sent = 51; failed = false; loaded = None }
    ∷ record { event = 18; party = sender.Node (record { region = 0; replica = 1 }); handed = handed.Deliver 39; sent = 52; failed = false; loaded = None }
    ∷ record { event = 18; party = sender.Client; handed = handed.Deliver 40; sent = 52; failed = false; loaded = None }
    ∷ record { event = 18; party = sender.Client; handed = handed.Deliver 41; sent = 52; failed = false; loaded = None }
    ∷ record { event = 18; party = sender.Client; handed = handed.Deliver 42; sent = 52; failed = false; loaded = None }
    ∷ record { event = 18; party = sender.Client; handed = handed.Deliver 43; sent = 52; failed = false; loaded = None }
    ∷ record { event = 18; party = sender.Client; handed = handed.Deliver 44; sent = 52; failed = false; loaded = None }
    ∷ record { event = 18; party = sender.Node (record { region = 0; replica = 0 }); handed = handed.Deliver 45; sent = 52; failed = false; loaded = None }
    ∷ record { event = 18; party = sender.Node (record { region = 0; replica = 1 }); handed = handed.Deliver 46; sent = 52; failed = false; loaded = None }
    ∷ record { event = 18; party = sender.Node (record { region = 0; replica = 0 }); handed = handed.Deliver 47; sent = 52; failed = false; loaded = None }
    ∷ record { event = 18; party = sender.Node (record { region = 0; replica = 1 }); handed = handed.Deliver 48; sent = 52; failed = false; loaded = None }
    ∷ record { event = 18; party = sender.Client; handed = handed.Deliver 49; sent = 52; failed = false; loaded = None }
    ∷ record { event = 18; party = sender.Client; handed = handed.Deliver 50; sent = 52; failed = false; loaded = None }
    ∷ record { event = 18; party = sender.Client; handed = handed.Deliver 51; sent = 54; failed = false; loaded = None }
    ∷ record { event = 18; party = sender.Client; handed = handed.Deliver 52; sent = 54; failed = false; loaded = None }
    ∷ record { event = 18; party = sender.Node (record { region = 0; replica = 0 }); handed = handed.Deliver 53; sent = 56; failed = false; loaded = None }
    ∷ record { event = 18; party = sender.Node (record { region = 0; replica = 1 }); handed = handed.Deliver 54; sent = 58; failed = false; loaded = None }
    ∷ record { event = 18; party = sender.Node (record { region = 0; replica = 0 }); handed = handed.Deliver 55; sent = 58; failed = false; loaded = None }
    ∷ record { event = 18; party = sender.Node (record { region = 0; replica = 1 }); handed = handed.Deliver 56; sent = 58; failed = false; loaded = None }
    ∷ record { event = 18; party = sender.Node (record { region = 0; replica = 0 }); handed = handed.Deliver 57; sent = 61; failed = false; loaded = None }
    ∷ record { event = 18; party = sender.Node (record { region = 0; replica = 1 }); handed = handed.Deliver 58; sent = 64; failed = false; loaded = None }
    ∷ record { event = 18; party = sender.Client; handed = handed.Deliver 59; sent = 64; failed = false; loaded = None }
    ∷ record { event = 18; party = sender.Node (record { region = 0; replica = 0 }); handed = handed.Deliver 60; sent = 64; failed = false; loaded = None }
    ∷ record { event = 18; party = sender.Node (record { region = 0; replica = 1 }); handed = handed.Deliver 61; sent = 64; failed = false; loaded = None }
    ∷ record { event = 18; party = sender.Client; handed = handed.Deliver 62; sent = 64; failed = false; loaded = None }
    ∷ record { event = 18; party = sender.Node (record { region = 0; replica = 0 }); handed = handed.Deliver 63; sent = 64; failed = false; loaded = None }
    ∷ record { event = 18; party = sender.Node (record { region = 0; replica = 1 }); handed = handed.Deliver 64; sent = 64; failed = false; loaded = None }
    ∷ record { event = 19; party = sender.Client; handed = handed.Asked (request.Read 0); sent = 66; failed = false; loaded = None }
    ∷ record { event = 20; party = sender.Client; handed = handed.ClientCrash; sent = 66; failed = false; loaded = None }
    ∷ record { event = 21; party = sender.Client; handed = handed.Asked (request.Read 1); sent = 66; failed = false; loaded = None }
    ∷ []

-- the client's rules send exactly the messages of the client in this run
pub letters-lies : map posted_letter (client_letters volume_here posts_here (new_client volume_here.geometry) trace_here) ≡ filter (λ m. is_client m.from) posts_here
unfolding left_of of_event lines_from pasts_from past_event sent_after due_news acks_due is_known first_strike present_root questions questions_from live all_taken phase_of since judged_all front_from last_touch bytes_left apply fold_batches top_of root_of climb message_at prepared_at committed_at asked_at ask_at path_at answer_at bases_at records_at gathered_at dump_at dumped_at batch_at before_at numbers_at regions_at after_at header_at write_at writes_at record_at blocks_at base_at batch_bytes before_bytes numbers_bytes regions_bytes after_bytes header_bytes write_bytes writes_bytes payload_bytes be1 be2 be4 be8 times bytes_at u8_at u16_at u32_at u64_at ascends_from record_fits blocks_written has_shape header_fits chain_ends ends_of picks recovered choice_of replies_to pool_of all_staged has_switched is_genuine hmac sha256 first_words schedule rounds compress hash_after digest_bytes line_of claim_of next_part leaves requested_here answered_here acks committed_here ticked_here base_record restarted gathered_here dumped_here staged_here switched_here requested received ticked told client_lines client_letters struck_from prepared_bytes committed_bytes asked_bytes ask_bytes path_bytes answer_bytes bases_bytes records_bytes gathered_bytes dump_bytes dumped_bytes record_bytes blocks_bytes base_bytes
letters-lies = refl

-- and give its lines
pub told-lies : flat_map (λ ls. ls) (client_lines volume_here posts_here (new_client volume_here.geometry) trace_here) ≡ lines_due volume_here events_here posts_here trace_here
unfolding left_of of_event lines_from pasts_from past_event sent_after due_news acks_due is_known first_strike present_root questions questions_from live all_taken phase_of since judged_all front_from last_touch bytes_left apply fold_batches top_of root_of climb message_at prepared_at committed_at asked_at ask_at path_at answer_at bases_at records_at gathered_at dump_at dumped_at batch_at before_at numbers_at regions_at after_at header_at write_at writes_at record_at blocks_at base_at batch_bytes before_bytes numbers_bytes regions_bytes after_bytes header_bytes write_bytes writes_bytes payload_bytes be1 be2 be4 be8 times bytes_at u8_at u16_at u32_at u64_at ascends_from record_fits blocks_written has_shape header_fits chain_ends ends_of picks recovered choice_of replies_to pool_of all_staged has_switched is_genuine hmac sha256 first_words schedule rounds compress hash_after digest_bytes line_of claim_of next_part leaves requested_here answered_here acks committed_here ticked_here base_record restarted gathered_here dumped_here staged_here switched_here requested received ticked told client_lines client_letters struck_from prepared_bytes committed_bytes asked_bytes ask_bytes path_bytes answer_bytes bases_bytes records_bytes gathered_bytes dump_bytes dumped_bytes record_bytes blocks_bytes base_bytes
told-lies = refl
