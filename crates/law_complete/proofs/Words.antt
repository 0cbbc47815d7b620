-- A claim of a node is read as it was sent.
use Rattle.std.proofs.Common.{◌≡◌, ◌∙◌, ℕ, ◌^◌, ◌<◌, ◌==◌, Bool, true, false, if◌then◌else◌, List, length, refl, sym, subst}
use Rattle.std.specs.Prelude.{Ok, Err}
use Rattle.salus_types.specs.declared.records.Record.{Record}
use Rattle.salus_types.specs.declared.records.Base.{Base}
use Rattle.salus_codec.specs.Spelling.{be8}
use Rattle.salus_codec.specs.Reading.{Field, ◌>>=◌, u64_at}
use Rattle.client_tag.specs.Spelling.{record_bytes, base_bytes}
use Rattle.client_tag.specs.Reading.{record_at, base_at}
use Rattle.salus_message.specs.declared.small.Prepared.{Prepared}
use Rattle.salus_message.specs.declared.small.Committed.{Committed}
use Rattle.salus_message.specs.declared.small.Ask.{Ask}
use Rattle.salus_message.specs.declared.small.Dump.{Dump}
use Rattle.salus_message.specs.declared.replies.Answer.{Answer}
use Rattle.salus_message.specs.declared.carried.Dumped.{Dumped}
use Rattle.salus_message.specs.declared.carried.Gathered.{Gathered}
use Rattle.salus_message.specs.declared.wire.Message.{Message}
use Rattle.salus_message.specs.declared.wire.Message.TheVariants as message
use Rattle.salus_message.specs.declared.wire.MessageError.TheVariants as refusal
use Rattle.salus_message.specs.Spelling.{prepared_bytes, ask_bytes, answer_bytes, gathered_bytes, dump_bytes, dumped_bytes, message_bytes}
use Rattle.salus_message.specs.Reading.{prepared_at, ask_at, answer_at, gathered_at, dump_at, dumped_at, whole, message_at}
use Rattle.salus_message.proofs.MessageLaws.{message_again}
use Rattle.schedule_text.proofs.Decided.{same_ok, ok-err}

-- the message is no claim
abbrev IsOther : Message → Type 0
IsOther (message.Committed m) = ⊥
IsOther other = Unit {0}

done_is : {A : Type 0} (f : A → Message) → ((a : A) → IsOther (f a)) → (x : A × List ℕ) (b : Bool) (read : Message) → (if b then Ok (f x.0) else Err refusal.Trailing) ≡ Ok read → IsOther read
done_is f each x true read is = subst IsOther (same_ok (f x.0) read is) (each x.0)
done_is f each x false read is = absurd (ok-err read refusal.Trailing (sym is))

field_is : {A : Type 0} (f : A → Message) → ((a : A) → IsOther (f a)) → (r : Field A) (read : Message) → whole (r >>= λ a. Ok (f a.0, a.1)) ≡ Ok read → IsOther read
field_is f each (Ok x) read is = done_is f each x (length x.1 == 0) read is
field_is f each (Err e) read is = absurd (ok-err read _ (sym is))

pub claim_read : (m : Message) → ((x : Committed) → m ≡ message.Committed x → (x.session < 2 ^ 64) × (x.front < 2 ^ 64)) → (c : Committed) → message_at (message_bytes m) ≡ Ok (message.Committed c) → m ≡ message.Committed c
unfolding message_at
claim_read (message.Committed x) small c is = same_ok (message.Committed x) (message.Committed c) (sym (message_again (message.Committed x) tt (small x refl)) ∙ is)
claim_read (message.Prepared m) small c is = absurd (field_is (λ (y : Prepared). message.Prepared y) (λ y. tt) (prepared_at (prepared_bytes m)) (message.Committed c) is)
claim_read (message.Gathered m) small c is = absurd (field_is (λ (y : Gathered). message.Gathered y) (λ y. tt) (gathered_at (gathered_bytes m)) (message.Committed c) is)
claim_read (message.Staged m) small c is = absurd (field_is (λ (y : ℕ). message.Staged (record { session = y })) (λ y. tt) (u64_at (be8 m.session)) (message.Committed c) is)
claim_read (message.Switched m) small c is = absurd (field_is (λ (y : ℕ). message.Switched (record { session = y })) (λ y. tt) (u64_at (be8 m.session)) (message.Committed c) is)
claim_read (message.Answer m) small c is = absurd (field_is (λ (y : Answer). message.Answer y) (λ y. tt) (answer_at (answer_bytes m)) (message.Committed c) is)
claim_read (message.Part m) small c is = absurd (field_is (λ (y : Record). message.Part (record { rec = y })) (λ y. tt) (record_at (record_bytes m.rec)) (message.Committed c) is)
claim_read (message.Ask m) small c is = absurd (field_is (λ (y : Ask). message.Ask y) (λ y. tt) (ask_at (ask_bytes m)) (message.Committed c) is)
claim_read (message.Gather m) small c is = absurd (field_is (λ (y : ℕ). message.Gather (record { session = y })) (λ y. tt) (u64_at (be8 m.session)) (message.Committed c) is)
claim_read (message.Stage m) small c is = absurd (field_is (λ (y : Base). message.Stage (record { base = y })) (λ y. tt) (base_at (base_bytes m.base)) (message.Committed c) is)
claim_read (message.Switch m) small c is = absurd (field_is (λ (y : ℕ). message.Switch (record { session = y })) (λ y. tt) (u64_at (be8 m.session)) (message.Committed c) is)
claim_read (message.Dump m) small c is = absurd (field_is (λ (y : Dump). message.Dump y) (λ y. tt) (dump_at (dump_bytes m)) (message.Committed c) is)
claim_read (message.Dumped m) small c is = absurd (field_is (λ (y : Dumped). message.Dumped y) (λ y. tt) (dumped_at (dumped_bytes m)) (message.Committed c) is)
