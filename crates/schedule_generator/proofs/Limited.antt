-- What is generated keeps to the limits of the schedule language.
use Rattle.std.proofs.Common.{lit<, ◌≡◌, ◌∙◌, ℕ, zero, suc, ◌+◌, ◌*◌, ◌^◌, ◌/◌, ◌%◌, ◌<◌, ◌≤◌, List, [], ◌∷◌, ◌++◌, length, replicate, refl, sym, ap, subst, arith, append-nil, length-append}
use Rattle.std.specs.Fmt.{digits}
use Rattle.std.specs.Prelude.{codes, decimal, slice_index, option_to_list, Option, None}
use Rattle.std.specs.List.{AllByRecursion, flat_map, range_with_len}
use Rattle.std.proofs.lemmas.Fmt.{length-decimal-le}
use Rattle.std.proofs.lemmas.List.{length-replicate}
use Rattle.std.proofs.lemmas.List.FromFn.{length-range_with_len}
use Rattle.text_words.specs.Writing.{pair_text, hex_text, block_text, is_uniform}
use Rattle.schedule_text.specs.declared.schedule.Event.{Event}
use Rattle.schedule_text.specs.declared.schedule.Event.TheVariants as event
use Rattle.schedule_text.specs.Grammar.{values, session_of, sessions_of, RisesFrom}
use Rattle.schedule_text.specs.Limits.{IsEventWithin, IsWithinLimits}
use Rattle.schedule_text.specs.Printing.{event_text, event_line, volume_text, printed, HasSize, HasBytes}
use Rattle.list_lemmas.proofs.Each.{either_way, all_both, all_then, all_flat, each_replicate}
use Rattle.schedule_generator.specs.Generator.{state_of, drawn_block, drawn_byte, drawn_bytes, drawn_write, round_events, generated_volume, generated_events, generated}

-- ---- lengths

length-hex : (bytes : List ℕ) → length (hex_text bytes) ≡ 2 * length bytes
unfolding hex_text
length-hex [] = refl
length-hex (b ∷ bytes) = let rest = length-hex bytes in omega (arith, rest)

length-block : (bytes : List ℕ) → length (block_text bytes) ≤ 2 * length bytes + 3
unfolding block_text
length-block bytes =
    let hex = length-hex bytes in
    either_way (is_uniform bytes) (42 ∷ pair_text (slice_index bytes 0)) (hex_text bytes) (λ l. length l ≤ 2 * length bytes + 3) (omega arith) (omega (arith, hex))

length-small : (n : ℕ) → n < 4096 → length (decimal n) ≤ 4
length-small n small =
    let ten : 4096 < 10 ^ 4 = lit< tt in
    let wide : 4096 < 2 ^ 64 = lit< tt in
    length-decimal-le 4 n (omega arith) (omega (arith, small, ten)) (omega (arith, small, wide))

-- ---- an event

-- the event keeps to the limits, has a short line, and opens no session
record IsShort (e : Event) : Type 0 where
  within : IsEventWithin generated_volume.geometry e
  sizes : AllByRecursion HasSize (values e)
  line : length (event_line e) ≤ 600
  closed : session_of e ≡ None

small_fits : (n : ℕ) → n < 4096 → n < 2 ^ 64
small_fits n small = let wide : 4096 < 2 ^ 64 = lit< tt in omega (arith, small, wide)

block_small : (state : ℕ) → drawn_block state < 4096
block_small state = omega arith

byte_small : (state : ℕ) → drawn_byte state < 256
byte_small state = omega arith

write-line : (b : ℕ) (bytes : List ℕ) → b < 4096 → length bytes ≡ 256 → length (event_line (event.Write (record { block = b; bytes = bytes } ∷ []))) ≤ 600
unfolding event_text
write-line b bytes small whole =
    let number = length-small b small in
    let block = length-block bytes in
    simp length-append (omega (arith, number, block, whole))

length-drawn : (state : ℕ) → length (drawn_bytes state) ≡ 256
unfolding drawn_bytes
length-drawn state = length-replicate 256 (drawn_byte state)

drawn-bytes : (state : ℕ) → AllByRecursion (λ b. b < 256) (drawn_bytes state)
unfolding drawn_bytes
drawn-bytes state = each_replicate (λ b. b < 256) 256 (drawn_byte state) (byte_small state)

write-short : (state : ℕ) → IsShort (event.Write (drawn_write state))
write-short state =
    let small = block_small state in
    let whole = length-drawn state in
    record {
      within = ((small_fits _ small, (whole, tt)), (omega arith, omega arith));
      sizes = (small_fits _ small, (drawn-bytes state, tt));
      line = write-line (drawn_block state) (drawn_bytes state) small whole;
      closed = refl;
    }

read-line : (b : ℕ) → b < 4096 → length (event_line (event.Read b)) ≤ 600
unfolding event_text
read-line b small = let number = length-small b small in simp length-append (omega (arith, number))

read-short : (state : ℕ) → IsShort (event.Read (drawn_block state))
read-short state =
    let small = block_small state in
    record {
      within = ((small_fits _ small, tt), tt);
      sizes = (small_fits _ small, tt);
      line = read-line (drawn_block state) small;
      closed = refl;
    }

settle-line : length (event_line (event.Settle 1000)) ≤ 600
unfolding event_text
settle-line = let number = length-small 1000 (lit< tt) in simp length-append (omega (arith, number))

settle-short : IsShort (event.Settle 1000)
settle-short = record {
  within = ((lit< tt, tt), tt);
  sizes = (lit< tt, tt);
  line = settle-line;
  closed = refl;
}

barrier-line : length (event_line event.Barrier) ≤ 600
unfolding event_text
barrier-line = omega arith

barrier-short : IsShort event.Barrier
barrier-short = record { within = (tt, tt); sizes = tt; line = barrier-line; closed = refl }

round-short : (state : ℕ) → AllByRecursion IsShort (round_events state)
unfolding round_events
round-short state = (write-short state, (settle-short, (read-short state, (settle-short, tt))))

events-short : (seed rounds : ℕ) → AllByRecursion IsShort (generated_events seed rounds)
unfolding generated_events
events-short seed rounds =
    all_both IsShort (flat_map (λ round. round_events (state_of seed round)) (range_with_len 1 rounds)) (event.Barrier ∷ [])
    (all_flat IsShort (λ round. round_events (state_of seed round)) (range_with_len 1 rounds) (λ round. round-short (state_of seed round))) (barrier-short, tt)

-- ---- all of them

length-round : (state : ℕ) → length (round_events state) ≡ 4
unfolding round_events
length-round state = refl

length-rounds : (f : ℕ → List Event) → ((n : ℕ) → length (f n) ≡ 4) → (ns : List ℕ) → length (flat_map f ns) ≡ 4 * length ns
length-rounds f four [] = refl
length-rounds f four (n ∷ ns) =
    let first = four n in
    let rest = length-rounds f four ns in
    length-append (f n) (flat_map f ns) ∙ omega (arith, first, rest)

pub length-events : (seed rounds : ℕ) → length (generated_events seed rounds) ≡ 4 * rounds + 1
unfolding generated_events
length-events seed rounds =
    let many = length-rounds (λ round. round_events (state_of seed round)) (λ round. length-round (state_of seed round)) (range_with_len 1 rounds) in
    let range = length-range_with_len 1 rounds in
    length-append (flat_map (λ round. round_events (state_of seed round)) (range_with_len 1 rounds)) (event.Barrier ∷ []) ∙ omega (arith, many, range)

none_open : (events : List Event) → AllByRecursion IsShort events → sessions_of events ≡ []
none_open [] all = refl
none_open (e ∷ events) all = ap (λ (s : Option ℕ). option_to_list s ++ sessions_of events) all.0.closed ∙ none_open events all.1

lines_short : (events : List Event) → AllByRecursion IsShort events → length (flat_map event_line events) ≤ 600 * length events
lines_short [] all = omega arith
lines_short (e ∷ events) all =
    let first = all.0.line in
    let rest = lines_short events all.1 in
    let both = length-append (event_line e) (flat_map event_line events) in
    omega (arith, first, rest, both)

pub closed : (seed rounds : ℕ) → sessions_of (generated_events seed rounds) ≡ []
closed seed rounds = none_open (generated_events seed rounds) (events-short seed rounds)

pub limited : (seed rounds : ℕ) → rounds ≤ 10000 → IsWithinLimits (generated seed rounds)
limited seed rounds few =
    let count = length-events seed rounds in
    record {
      volume = record {
        few_regions = omega arith;
        low = omega arith;
        small_blocks = (omega arith, omega arith);
        small_groups = (omega arith, omega arith);
        small = omega arith;
      };
      key = omega arith;
      short_key = omega arith;
      events = all_then IsShort (IsEventWithin generated_volume.geometry) (λ e s. s.within) (generated_events seed rounds) (events-short seed rounds);
      few = omega (arith, count, few);
      rising = subst (RisesFrom 1) (sym (closed seed rounds)) tt;
    }

pub has_bytes : (seed rounds : ℕ) → HasBytes (generated seed rounds)
has_bytes seed rounds = record {
  key = (omega arith, tt);
  events = all_then IsShort (λ e. AllByRecursion HasSize (values e)) (λ e s. s.sizes) (generated_events seed rounds) (events-short seed rounds);
}

length-first : length (volume_text generated_volume) ≤ 600
unfolding volume_text hex_text digits
length-first = omega arith

pub text_short : (seed rounds : ℕ) → rounds ≤ 10000 → length (printed (generated seed rounds)) ≤ 67108864
unfolding printed
text_short seed rounds few =
    let first = length-first in
    let count = length-events seed rounds in
    let lines = lines_short (generated_events seed rounds) (events-short seed rounds) in
    simp length-append (omega (arith, first, count, lines, few))
