-- A worked fold, computed by the checker: after 24 parts a claim folds the first 8 into the base.
use Rattle.std.proofs.Common.{◌≡◌, [], ◌∷◌, true, refl}
use Rattle.std.specs.Prelude.{None, Some, map, option_map}
use Rattle.std.specs.List.{range_with_len}
use Rattle.sha2.specs.Sha256.{sha256, first_words, schedule, rounds, compress, hash_after, digest_bytes}
use Rattle.salus_types.specs.declared.names.Sender.TheVariants as sender
use Rattle.salus_types.specs.declared.records.Held.{Held}
use Rattle.salus_message.specs.declared.wire.Message.TheVariants as message
use Rattle.merkle_region.specs.Tree.{root_of}
use Rattle.holding_model.specs.Fitting.{ascends_from, record_fits, blocks_written, has_shape}
use Rattle.replica_rules.specs.Views.{has_right_shape}
use Rattle.replica_rules.specs.Voting.{least_of, greatest_of}
use Rattle.replica_rules.specs.Leading.{put_header, is_certified, front_after}
use Rattle.holding_model.specs.Changing.{FoldsTo, base_after_all, changed, after_changes}
use Rattle.replica_rules.specs.Nodes.{all_tried, loaded_as}
use Rattle.replica_rules.specs.Rules.{Handled, by_claim}
use Rattle.replica_rules.proofs.WorkedParts.{small, the_node, of_byte, part, base, hears, loaded}

abbrev full : Held
full = record { session = 1; bases = base 1 0 0 ∷ []; parts = map part (range_with_len 1 24) }

abbrev fold_step : Handled
fold_step = hears (loaded_as small 0 full) (sender.Node the_node) (message.Committed (record { session = 1; front = 20 }))

pub fold-change : fold_step.changes ≡ FoldsTo 8 ∷ []
unfolding has_right_shape record_fits ascends_from blocks_written loaded_as all_tried has_shape after_changes changed base_after_all least_of greatest_of put_header is_certified front_after by_claim root_of sha256 first_words schedule rounds compress hash_after digest_bytes
fold-change = refl

-- the base is part 8 with its blocks, and 16 parts are left
pub fold-held : fold_step.node.held ≡ record { session = 1; bases = record { rec = part 8; blocks = of_byte 8 } ∷ []; parts = map part (range_with_len 9 16) }
unfolding has_right_shape record_fits ascends_from blocks_written loaded_as all_tried has_shape after_changes changed base_after_all least_of greatest_of put_header is_certified front_after by_claim root_of sha256 first_words schedule rounds compress hash_after digest_bytes
fold-held = refl

-- a load of that goes on from 8, up to 24, and no longer knows with which number the session began
pub fold-loaded : option_map loaded (loaded_as small 0 fold_step.node.held).memory
    ≡ Some (record { number = 24; front = 8; parts = map part (range_with_len 9 16); whole = true; begun = None })
unfolding has_right_shape record_fits ascends_from blocks_written loaded_as all_tried has_shape after_changes changed base_after_all least_of greatest_of put_header is_certified front_after by_claim root_of sha256 first_words schedule rounds compress hash_after digest_bytes
fold-loaded = refl
