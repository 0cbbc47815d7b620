-- What an answer that gives the meaning of a text says by the rules.
use Rattle.std.proofs.Common.{◌≡◌, inl, inr, ℕ, ◌<◌, List, [], ◌∷◌, sym, subst, arith}
use Rattle.std.specs.Prelude.{Result, Ok, Err, IfOk, IfErr}
use Rattle.std.specs.List.{AllByRecursion, AllZip}
use Rattle.salus_types.specs.Outcome.{Gives}
use Rattle.salus_types.specs.Volume.{Shape}
use Rattle.salus_types.specs.declared.names.Sender.{Sender}
use Rattle.salus_types.specs.declared.names.Sender.TheVariants as sender
use Rattle.text_words.specs.Grammar.{IsHexDigit, IsPair, IsPairs, IsLieBytes}
use Rattle.text_words.proofs.Hexed.{block_length}
use Rattle.schedule_text.specs.declared.error.ScheduleError.{ScheduleError}
use Rattle.schedule_text.specs.declared.error.ParseError.{ParseError}
use Rattle.schedule_text.specs.declared.error.ParseError.TheVariants as error
use Rattle.schedule_text.specs.declared.schedule.Event.{Event}
use Rattle.schedule_text.specs.declared.schedule.Schedule.{Schedule}
use Rattle.schedule_text.specs.Grammar.{Value, Number, Count, Node, Party, Block, Bytes, Fill, Spells, IsParty, values, IsEventLine, IsSchedule, IsFirstWrong}
use Rattle.schedule_text.specs.Limits.{IsPartyOfVolume, IsWithin, IsEventWithin, IsWithinLimits}
use Rattle.schedule_text.specs.Outcome.{text_fault, RefusesText}
use Rattle.schedule_text.specs.Reading.{schedule_of}
use Rattle.schedule_text.proofs.Wholly.{schedule-sound, schedule-only, wrong-sound, wrong-only, one_schedule, wrong-none}

-- ---- the limits of what is read

party_within : (shape : Shape) (word : List ℕ) (who : Sender) → IsParty shape word who → IsPartyOfVolume shape who
party_within shape word sender.Client w = tt
party_within shape word (sender.Node name) w = (w.in_volume, w.in_group)

digit_small : (c x : ℕ) → IsHexDigit c x → x < 16
digit_small c x (inl low) = let small = low.0 in omega (arith, small)
digit_small c x (inr high) = high.1

pair_byte : (first second b : ℕ) → IsPair first second b → b < 256
pair_byte first second b w =
    let high = digit_small first w.high w.is_high in
    let low = digit_small second w.low w.is_low in
    let value = w.value in
    omega (arith, high, low, value)

pairs_bytes : (word bytes : List ℕ) → IsPairs word bytes → AllByRecursion (λ b. b < 256) bytes
pairs_bytes [] [] w = tt
pairs_bytes [] (b ∷ bytes) w = absurd w
pairs_bytes (first ∷ []) bytes w = absurd w
pairs_bytes (first ∷ second ∷ word) [] w = absurd w
pairs_bytes (first ∷ second ∷ word) (b ∷ bytes) w = (pair_byte first second b w.0, pairs_bytes word bytes w.1)

lie_bytes : (word bytes : List ℕ) → IsLieBytes word bytes → AllByRecursion (λ b. b < 256) bytes
lie_bytes word bytes (inl hex) = pairs_bytes word bytes hex.pairs
lie_bytes word bytes (inr dash) = subst (AllByRecursion (λ b. b < 256)) (sym dash.empty) tt

value_within : (shape : Shape) (v : Value) (word : List ℕ) → Spells shape v word → IsWithin shape v
value_within shape (Number n) word w = w.fits
value_within shape (Count n) word w = w.some
value_within shape (Node name) word w = (w.in_volume, w.in_group)
value_within shape (Party who) word w = party_within shape word who w
value_within shape (Block bytes) word w = block_length shape.block word bytes w
value_within shape (Bytes bytes) word w = lie_bytes word bytes w
value_within shape (Fill b) word w = tt

values_within : (shape : Shape) (vs : List Value) (words : List (List ℕ)) → AllZip (Spells shape) vs words → AllByRecursion (IsWithin shape) vs
values_within shape [] [] w = tt
values_within shape [] (a ∷ words) w = absurd w
values_within shape (v ∷ vs) [] w = absurd w
values_within shape (v ∷ vs) (a ∷ words) w = (value_within shape v a w.0, values_within shape vs words w.1)

events_within : (shape : Shape) (lines : List (List ℕ)) (events : List Event) → AllZip (IsEventLine shape) lines events → AllByRecursion (IsEventWithin shape) events
events_within shape [] [] w = tt
events_within shape [] (e ∷ events) w = absurd w
events_within shape (line ∷ lines) [] w = absurd w
events_within shape (line ∷ lines) (e ∷ events) w =
    let is = w.0 in
    ((values_within shape (values e) is.rest is.spelled, is.few_blocks), events_within shape lines events w.1)

within_limits : (text : List ℕ) (s : Schedule) → IsSchedule text s → IsWithinLimits s
within_limits text s w =
    let volume = w.volume in
    record {
      volume = volume.within;
      key = volume.is_key.some;
      short_key = volume.short_key;
      events = events_within s.volume.geometry w.others s.events w.events;
      few = w.few;
      rising = w.rising;
    }

-- ---- the answers

pub told-found : (text : List ℕ) (r : Result Schedule ParseError) → Gives Ok text_fault r (schedule_of text) → IfOk r (IsSchedule text)
told-found text (Ok s) h = schedule-sound text s h
told-found text (Err e) h = tt

pub told-one : (text : List ℕ) (r : Result Schedule ParseError) → Gives Ok text_fault r (schedule_of text) → IfOk r (λ s. (other : Schedule) → IsSchedule text other → other ≡ s)
told-one text (Ok s) h = λ other w. one_schedule text s other (schedule-sound text s h) w
told-one text (Err e) h = tt

pub told-only : (text : List ℕ) (r : Result Schedule ParseError) → Gives Ok text_fault r (schedule_of text) → (s : Schedule) → IsSchedule text s → Gives Ok text_fault r (Ok s)
told-only text r h s w = subst (Gives Ok text_fault r) (schedule-only text s w) h

pub told-refused : (text : List ℕ) (r : Result Schedule ParseError) → Gives Ok text_fault r (schedule_of text) → IfErr r (RefusesText text)
told-refused text (Ok s) h = tt
told-refused text (Err (error.Refused wrong)) h = (wrong-sound text wrong h, λ s w. wrong-none text wrong s (wrong-sound text wrong h) w)
told-refused text (Err error.NoMemory) h = tt

pub told-first : (text : List ℕ) (r : Result Schedule ParseError) → Gives Ok text_fault r (schedule_of text) → (wrong : ScheduleError) → IsFirstWrong text wrong → Gives Ok text_fault r (Err wrong)
told-first text r h wrong w = subst (Gives Ok text_fault r) (wrong-only text wrong w) h

pub told-limits : (text : List ℕ) (r : Result Schedule ParseError) → Gives Ok text_fault r (schedule_of text) → IfOk r IsWithinLimits
told-limits text (Ok s) h = within_limits text s (schedule-sound text s h)
told-limits text (Err e) h = tt
