-- The words behind a known first word are read as the event that they spell, or give the cause.
use Rattle.std.proofs.Common.{◌≡◌, ℕ, List, [], ◌∷◌, refl, ap, ◌∙◌}
use Rattle.std.specs.Prelude.{Ok}
use Rattle.std.specs.List.{AllZip}
use Rattle.salus_types.specs.Volume.{Shape}
use Rattle.schedule_text.specs.declared.keyword.Keyword.{Keyword}
use Rattle.schedule_text.specs.declared.keyword.Keyword.TheVariants as keyword
use Rattle.schedule_text.specs.declared.schedule.Event.{Event}
use Rattle.schedule_text.specs.declared.schedule.Event.TheVariants as event
use Rattle.schedule_text.specs.Reading.{after, one_number, event_of, number_word, party_word, count_word, fill_word, bytes_word}
use Rattle.schedule_text.specs.Grammar.{Spells, Kind, ANumber, ACount, ANode, AParty, SomeBytes, AFill, spelling, first_word, values, HasFewBlocks}
use Rattle.schedule_text.proofs.Parties.{number-decides, count-decides, node-decides, party-decides, fill-decides, bytes-decides}
use Rattle.schedule_text.proofs.Behind.{IsOf, Reads, Behind, IsWrongHere, IsKindOf, wrong-here, bare-reads, number-reads, replace-reads, tick-reads, fail-reads, reassign-reads, lie-reads, crash-reads, stop-reads}
use Rattle.schedule_text.proofs.Paired.{write-reads, write-only}

here : (shape : Shape) (k : Keyword) (kinds : List Kind) (words : List (List ℕ)) → IsKindOf k kinds
    → Reads (event_of shape k words) (IsOf shape k words) (Behind shape kinds words)
    → Reads (event_of shape k words) (IsOf shape k words) (IsWrongHere shape (spelling k) words)
here shape k kinds words of r = record { sound = r.sound; wrong = λ c h. wrong-here shape k kinds words c of (r.wrong c h) }

read-of : IsKindOf keyword.Read (ANumber ∷ [])
read-of = record { are = refl; alone = λ o h. h; no_write = λ e. absurd (cc) }

barrier-of : IsKindOf keyword.Barrier []
barrier-of = record { are = refl; alone = λ o h. h; no_write = λ e. absurd (cc) }

deliver-of : IsKindOf keyword.Deliver (ANumber ∷ [])
deliver-of = record { are = refl; alone = λ o h. h; no_write = λ e. absurd (cc) }

settle-of : IsKindOf keyword.Settle (ANumber ∷ [])
settle-of = record { are = refl; alone = λ o h. h; no_write = λ e. absurd (cc) }

drop-of : IsKindOf keyword.Drop (ANumber ∷ [])
drop-of = record { are = refl; alone = λ o h. h; no_write = λ e. absurd (cc) }

lie-of : IsKindOf keyword.Lie (AParty ∷ AParty ∷ SomeBytes ∷ [])
lie-of = record { are = refl; alone = λ o h. h; no_write = λ e. absurd (cc) }

stop-of : IsKindOf keyword.Stop (ANumber ∷ ANumber ∷ ANumber ∷ AFill ∷ [])
stop-of = record { are = refl; alone = λ o h. h; no_write = λ e. absurd (cc) }

crash-of : IsKindOf keyword.Crash (ANode ∷ ANumber ∷ AFill ∷ [])
crash-of = record { are = refl; alone = λ o h. h; no_write = λ e. absurd (cc) }

fail-of : IsKindOf keyword.Fail (ANode ∷ ACount ∷ [])
fail-of = record { are = refl; alone = λ o h. h; no_write = λ e. absurd (cc) }

replace-of : IsKindOf keyword.Replace (ANode ∷ [])
replace-of = record { are = refl; alone = λ o h. h; no_write = λ e. absurd (cc) }

client_crash-of : IsKindOf keyword.ClientCrash []
client_crash-of = record { are = refl; alone = λ o h. h; no_write = λ e. absurd (cc) }

restart-of : IsKindOf keyword.Restart (ANumber ∷ [])
restart-of = record { are = refl; alone = λ o h. h; no_write = λ e. absurd (cc) }

reassign-of : IsKindOf keyword.Reassign (ANumber ∷ ANumber ∷ [])
reassign-of = record { are = refl; alone = λ o h. h; no_write = λ e. absurd (cc) }

tick-of : IsKindOf keyword.Tick (AParty ∷ [])
tick-of = record { are = refl; alone = λ o h. h; no_write = λ e. absurd (cc) }

pub event-reads : (shape : Shape) (k : Keyword) (words : List (List ℕ)) → Reads (event_of shape k words) (IsOf shape k words) (IsWrongHere shape (spelling k) words)
unfolding event_of
event-reads shape keyword.Write words = write-reads shape words
event-reads shape keyword.Read words = here shape keyword.Read _ words read-of (number-reads shape keyword.Read event.Read words (λ n w. (refl, w, tt)))
event-reads shape keyword.Barrier words = here shape keyword.Barrier _ words barrier-of (bare-reads shape keyword.Barrier event.Barrier words (refl, tt, tt))
event-reads shape keyword.Deliver words = here shape keyword.Deliver _ words deliver-of (number-reads shape keyword.Deliver event.Deliver words (λ n w. (refl, w, tt)))
event-reads shape keyword.Settle words = here shape keyword.Settle _ words settle-of (number-reads shape keyword.Settle event.Settle words (λ n w. (refl, w, tt)))
event-reads shape keyword.Drop words = here shape keyword.Drop _ words drop-of (number-reads shape keyword.Drop event.Drop words (λ n w. (refl, w, tt)))
event-reads shape keyword.Lie words = here shape keyword.Lie _ words lie-of (lie-reads shape words)
event-reads shape keyword.Stop words = here shape keyword.Stop _ words stop-of (stop-reads shape words)
event-reads shape keyword.Crash words = here shape keyword.Crash _ words crash-of (crash-reads shape words)
event-reads shape keyword.Fail words = here shape keyword.Fail _ words fail-of (fail-reads shape words)
event-reads shape keyword.Replace words = here shape keyword.Replace _ words replace-of (replace-reads shape words)
event-reads shape keyword.ClientCrash words = here shape keyword.ClientCrash _ words client_crash-of (bare-reads shape keyword.ClientCrash event.ClientCrash words (refl, tt, tt))
event-reads shape keyword.Restart words = here shape keyword.Restart _ words restart-of (number-reads shape keyword.Restart event.Restart words (λ n w. (refl, w, tt)))
event-reads shape keyword.Reassign words = here shape keyword.Reassign _ words reassign-of (reassign-reads shape words)
event-reads shape keyword.Tick words = here shape keyword.Tick _ words tick-of (tick-reads shape words)

-- ---- what is spelled so is read

one-only : (shape : Shape) (make : ℕ → Event) (n : ℕ) (words : List (List ℕ)) → AllZip (Spells shape) (values (event.Read n)) words → after (one_number words) (λ m. Ok (make m)) ≡ Ok (make n)
one-only shape make n [] w = absurd w
one-only shape make n (a ∷ []) w = ap (λ r. after r (λ m. Ok (make m))) ((number-decides a).only n w.0)
one-only shape make n (a ∷ b ∷ words) w = absurd (w.1)

pub event-only : (shape : Shape) (e : Event) (words : List (List ℕ)) → AllZip (Spells shape) (values e) words → HasFewBlocks e → event_of shape (first_word e) words ≡ Ok e
unfolding event_of
event-only shape (event.Write ws) words w few = write-only shape ws words w few.0 few.1
event-only shape (event.Read n) words w few = one-only shape event.Read n words w
event-only shape event.Barrier [] w few = refl
event-only shape event.Barrier (a ∷ words) w few = absurd w
event-only shape (event.Deliver n) words w few = one-only shape event.Deliver n words w
event-only shape (event.Settle n) words w few = one-only shape event.Settle n words w
event-only shape (event.Drop n) words w few = one-only shape event.Drop n words w
event-only shape (event.Lie p q x) [] w few = absurd w
event-only shape (event.Lie p q x) (a ∷ []) w few = absurd (w.1)
event-only shape (event.Lie p q x) (a ∷ b ∷ []) w few = absurd (w.1.1)
event-only shape (event.Lie p q x) (a ∷ b ∷ d ∷ []) w few =
    ap (λ r. after r (λ m. after (party_word shape b) (λ n. after (bytes_word d) (λ y. Ok (event.Lie m n y))))) ((party-decides shape a).only p w.0)
    ∙ (ap (λ r. after r (λ n. after (bytes_word d) (λ y. Ok (event.Lie p n y)))) ((party-decides shape b).only q w.1.0)
    ∙ ap (λ r. after r (λ y. Ok (event.Lie p q y))) ((bytes-decides d).only x w.1.1.0))
event-only shape (event.Lie p q x) (a ∷ b ∷ d ∷ f ∷ words) w few = absurd (w.1.1.1)
event-only shape (event.Stop p q x y) [] w few = absurd w
event-only shape (event.Stop p q x y) (a ∷ []) w few = absurd (w.1)
event-only shape (event.Stop p q x y) (a ∷ b ∷ []) w few = absurd (w.1.1)
event-only shape (event.Stop p q x y) (a ∷ b ∷ d ∷ []) w few = absurd (w.1.1.1)
event-only shape (event.Stop p q x y) (a ∷ b ∷ d ∷ f ∷ []) w few =
    ap (λ r. after r (λ m. after (number_word b) (λ n. after (number_word d) (λ k. after (fill_word f) (λ z. Ok (event.Stop m n k z)))))) ((number-decides a).only p w.0)
    ∙ (ap (λ r. after r (λ n. after (number_word d) (λ k. after (fill_word f) (λ z. Ok (event.Stop p n k z))))) ((number-decides b).only q w.1.0)
    ∙ (ap (λ r. after r (λ k. after (fill_word f) (λ z. Ok (event.Stop p q k z)))) ((number-decides d).only x w.1.1.0)
    ∙ ap (λ r. after r (λ z. Ok (event.Stop p q x z))) ((fill-decides f).only y w.1.1.1.0)))
event-only shape (event.Stop p q x y) (a ∷ b ∷ d ∷ f ∷ g ∷ words) w few = absurd (w.1.1.1.1)
event-only shape (event.Crash p q x) [] w few = absurd w
event-only shape (event.Crash p q x) (a ∷ []) w few = absurd (w.1)
event-only shape (event.Crash p q x) (a ∷ b ∷ []) w few = absurd (w.1.1)
event-only shape (event.Crash p q x) (a ∷ b ∷ d ∷ []) w few =
    ap (λ r. after r (λ m. after (number_word b) (λ n. after (fill_word d) (λ y. Ok (event.Crash m n y))))) ((node-decides shape a).only p w.0)
    ∙ (ap (λ r. after r (λ n. after (fill_word d) (λ y. Ok (event.Crash p n y)))) ((number-decides b).only q w.1.0)
    ∙ ap (λ r. after r (λ y. Ok (event.Crash p q y))) ((fill-decides d).only x w.1.1.0))
event-only shape (event.Crash p q x) (a ∷ b ∷ d ∷ f ∷ words) w few = absurd (w.1.1.1)
event-only shape (event.Fail p q) [] w few = absurd w
event-only shape (event.Fail p q) (a ∷ []) w few = absurd (w.1)
event-only shape (event.Fail p q) (a ∷ b ∷ []) w few =
    ap (λ r. after r (λ m. after (count_word b) (λ n. Ok (event.Fail m n)))) ((node-decides shape a).only p w.0)
    ∙ ap (λ r. after r (λ n. Ok (event.Fail p n))) ((count-decides b).only q w.1.0)
event-only shape (event.Fail p q) (a ∷ b ∷ d ∷ words) w few = absurd (w.1.1)
event-only shape (event.Replace p) [] w few = absurd w
event-only shape (event.Replace p) (a ∷ []) w few = ap (λ r. after r (λ m. Ok (event.Replace m))) ((node-decides shape a).only p w.0)
event-only shape (event.Replace p) (a ∷ b ∷ words) w few = absurd (w.1)
event-only shape event.ClientCrash [] w few = refl
event-only shape event.ClientCrash (a ∷ words) w few = absurd w
event-only shape (event.Restart n) words w few = one-only shape event.Restart n words w
event-only shape (event.Reassign p q) [] w few = absurd w
event-only shape (event.Reassign p q) (a ∷ []) w few = absurd (w.1)
event-only shape (event.Reassign p q) (a ∷ b ∷ []) w few =
    ap (λ r. after r (λ m. after (number_word b) (λ n. Ok (event.Reassign m n)))) ((number-decides a).only p w.0)
    ∙ ap (λ r. after r (λ n. Ok (event.Reassign p n))) ((number-decides b).only q w.1.0)
event-only shape (event.Reassign p q) (a ∷ b ∷ d ∷ words) w few = absurd (w.1.1)
event-only shape (event.Tick p) [] w few = absurd w
event-only shape (event.Tick p) (a ∷ []) w few = ap (λ r. after r (λ m. Ok (event.Tick m))) ((party-decides shape a).only p w.0)
event-only shape (event.Tick p) (a ∷ b ∷ words) w few = absurd (w.1)
