-- Which schedule is generated of a seed and a number of rounds.
use Rattle.std.specs.Prelude.{ℕ, ◌+◌, ◌*◌, ◌/◌, ◌%◌, ◌^◌, List, [], ◌∷◌, ◌++◌, replicate, zero, suc}
use Rattle.std.specs.List.{flat_map, range_with_len}
use Rattle.salus_types.specs.declared.records.Write.{Write}
use Rattle.schedule_text.specs.declared.schedule.Volume.{Volume}
use Rattle.schedule_text.specs.declared.schedule.Event.{Event}
use Rattle.schedule_text.specs.declared.schedule.Event.TheVariants as event
use Rattle.schedule_text.specs.declared.schedule.Schedule.{Schedule}

-- ---- what is drawn

-- the linear congruential generator modulo 2 ^ 64 that Knuth gives for MMIX
unfoldable pub next_state : ℕ → ℕ
next_state state = (state * 6364136223846793005 + 1442695040888963407) % 2 ^ 64

-- the state of a round, counted from 1; the seed is that of round 0
unfoldable pub state_of : ℕ → ℕ → ℕ
state_of seed zero = seed
state_of seed (suc round) = next_state (state_of seed round)

-- a block of the volume: 12 bits of the state, from bit 33 on
abbrev pub drawn_block : ℕ → ℕ
drawn_block state = (state / 2 ^ 33) % 4096

-- a byte: 8 bits of the state, from bit 50 on
abbrev pub drawn_byte : ℕ → ℕ
drawn_byte state = (state / 2 ^ 50) % 256

-- ---- the schedule

-- 16 regions of 256 blocks of 256 bytes, three replicas for each, and the key of the byte 6b
abbrev pub generated_volume : Volume
generated_volume = record { geometry = record { regions_log = 4; height = 8; block = 256; replicas = 3 }; key = 107 ∷ [] }

-- a block of the drawn byte throughout
unfoldable pub drawn_bytes : ℕ → List ℕ
drawn_bytes state = replicate 256 (drawn_byte state)

-- the drawn block gets these bytes
abbrev pub drawn_write : ℕ → List Write
drawn_write state = record { block = drawn_block state; bytes = drawn_bytes state } ∷ []

-- a block is written and read, and the messages are delivered after each
unfoldable pub round_events : ℕ → List Event
round_events state = event.Write (drawn_write state) ∷ event.Settle 1000 ∷ event.Read (drawn_block state) ∷ event.Settle 1000 ∷ []

-- the rounds from 1 on, and a barrier
unfoldable pub generated_events : ℕ → ℕ → List Event
generated_events seed rounds = flat_map (λ round. round_events (state_of seed round)) (range_with_len 1 rounds) ++ event.Barrier ∷ []

abbrev pub generated : ℕ → ℕ → Schedule
generated seed rounds = record { volume = generated_volume; events = generated_events seed rounds }
