-- Lines as they are printed, computed.
use Rattle.std.proofs.Common.{◌≡◌, [], ◌∷◌, ◌++◌, codes, refl}
use Rattle.std.specs.Fmt.{digits}
use Rattle.salus_types.specs.declared.names.Sender.TheVariants as sender
use Rattle.text_words.specs.Writing.{hex_text, block_text}
use Rattle.schedule_text.specs.declared.schedule.Event.TheVariants as event
use Rattle.schedule_text.specs.Printing.{event_text, volume_text, printed}

two_blocks : event_text (event.Write (record { block = 9; bytes = 7 ∷ 7 ∷ 7 ∷ [] } ∷ record { block = 10; bytes = 171 ∷ 0 ∷ 15 ∷ [] } ∷ [])) ≡ codes "write 9 *07 10 ab000f"
unfolding event_text hex_text block_text digits
two_blocks = refl

no_bytes : event_text (event.Lie (sender.Node (record { region = 1; replica = 2 })) sender.Client []) ≡ codes "lie 1.2 client -"
unfolding event_text digits
no_bytes = refl

stopped : event_text (event.Stop 12 3 0 255) ≡ codes "stop 12 3 0 ff"
unfolding event_text digits
stopped = refl

short_schedule : printed (record {
  volume = record { geometry = record { regions_log = 0; height = 4; block = 64; replicas = 3 }; key = 1 ∷ 255 ∷ [] };
  events = event.Barrier ∷ event.Fail (record { region = 0; replica = 2 }) 5 ∷ [];
}) ≡ codes "volume 0 4 64 3 01ff" ++ 10 ∷ codes "barrier" ++ 10 ∷ codes "fail 0.2 5" ++ 10 ∷ []
unfolding printed volume_text event_text hex_text digits
short_schedule = refl
