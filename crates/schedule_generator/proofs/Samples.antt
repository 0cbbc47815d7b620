-- The schedule of the seed 0 and one round, computed.
use Rattle.std.proofs.Common.{◌≡◌, ◌++◌, ◌∷◌, [], refl}
use Rattle.std.specs.Prelude.{codes}
use Rattle.std.specs.Fmt.{digits}
use Rattle.text_words.specs.Writing.{hex_text, block_text}
use Rattle.schedule_text.specs.Printing.{event_text, volume_text, printed}
use Rattle.schedule_generator.specs.Generator.{next_state, state_of, drawn_bytes, round_events, generated_events, generated}

first-state : state_of 0 1 ≡ 1442695040888963407
unfolding next_state state_of
first-state = refl

first-text : printed (generated 0 1) ≡ codes "volume 4 8 256 3 6b\nwrite 3519 *01\nsettle 1000\nread 3519\nsettle 1000\nbarrier\n"
unfolding digits hex_text block_text event_text volume_text printed next_state state_of drawn_bytes round_events generated_events
first-text = refl
