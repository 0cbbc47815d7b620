-- A vote of a node is read as it was sent.
use Rattle.std.proofs.Common.{◌≡◌, ◌∙◌, ℕ, ◌==◌, Bool, true, false, if◌then◌else◌, List, length, refl, sym, subst}
use Rattle.std.specs.Prelude.{Ok, Err}
use Rattle.salus_types.specs.declared.records.Record.{Record}
use Rattle.salus_types.specs.declared.records.Base.{Base}
use Rattle.salus_codec.specs.Spelling.{be8}
use Rattle.salus_codec.specs.Reading.{Field, ◌>>=◌, u64_at}
use Rattle.client_tag.specs.Spelling.{record_bytes, base_bytes}
use Rattle.client_tag.specs.Reading.{record_at, base_at}
use Rattle.salus_message.specs.declared.small.Prepared.{Prepared}
use Rattle.salus_message.specs.declared.small.Committed.{Committed}
use Rattle.salus_message.specs.declared.small.Ask.{Ask}
use Rattle.salus_message.specs.declared.small.Dump.{Dump}
use Rattle.salus_message.specs.declared.replies.Answer.{Answer}
use Rattle.salus_message.specs.declared.carried.Dumped.{Dumped}
use Rattle.salus_message.specs.declared.carried.Gathered.{Gathered}
use Rattle.salus_message.specs.declared.wire.Message.{Message}
use Rattle.salus_message.specs.declared.wire.Message.TheVariants as message
use Rattle.salus_message.specs.declared.wire.MessageError.TheVariants as refusal
use Rattle.salus_message.specs.Ranges.{PreparedWidths}
use Rattle.salus_message.specs.Spelling.{committed_bytes, ask_bytes, answer_bytes, gathered_bytes, dump_bytes, dumped_bytes, message_bytes}
use Rattle.salus_message.specs.Reading.{committed_at, ask_at, answer_at, gathered_at, dump_at, dumped_at, whole, message_at}
use Rattle.salus_message.proofs.MessageLaws.{message_again}
use Rattle.schedule_text.proofs.Decided.{same_ok, ok-err}

-- the message is no vote
abbrev IsOther : Message → Type 0
IsOther (message.Prepared m) = ⊥
IsOther other = Unit {0}

done_is : {A : Type 0} (f : A → Message) → ((a : A) → IsOther (f a)) → (x : A × List ℕ) (b : Bool) (read : Message) → (if b then Ok (f x.0) else Err refusal.Trailing) ≡ Ok read → IsOther read
done_is f each x true read is = subst IsOther (same_ok (f x.0) read is) (each x.0)
done_is f each x false read is = absurd (ok-err read refusal.Trailing (sym is))

field_is : {A : Type 0} (f : A → Message) → ((a : A) → IsOther (f a)) → (r : Field A) (read : Message) → whole (r >>= λ a. Ok (f a.0, a.1)) ≡ Ok read → IsOther read
field_is f each (Ok x) read is = done_is f each x (length x.1 == 0) read is
field_is f each (Err e) read is = absurd (ok-err read _ (sym is))

pub vote_read : (m : Message) → ((x : Prepared) → m ≡ message.Prepared x → PreparedWidths x) → (v : Prepared) → message_at (message_bytes m) ≡ Ok (message.Prepared v) → m ≡ message.Prepared v
unfolding message_at
vote_read (message.Prepared x) small v is = same_ok (message.Prepared x) (message.Prepared v) (sym (message_again (message.Prepared x) tt (small x refl)) ∙ is)
vote_read (message.Committed m) small v is = absurd (field_is (λ (y : Committed). message.Committed y) (λ y. tt) (committed_at (committed_bytes m)) (message.Prepared v) is)
vote_read (message.Gathered m) small v is = absurd (field_is (λ (y : Gathered). message.Gathered y) (λ y. tt) (gathered_at (gathered_bytes m)) (message.Prepared v) is)
vote_read (message.Staged m) small v is = absurd (field_is (λ (y : ℕ). message.Staged (record { session = y })) (λ y. tt) (u64_at (be8 m.session)) (message.Prepared v) is)
vote_read (message.Switched m) small v is = absurd (field_is (λ (y : ℕ). message.Switched (record { session = y })) (λ y. tt) (u64_at (be8 m.session)) (message.Prepared v) is)
vote_read (message.Answer m) small v is = absurd (field_is (λ (y : Answer). message.Answer y) (λ y. tt) (answer_at (answer_bytes m)) (message.Prepared v) is)
vote_read (message.Part m) small v is = absurd (field_is (λ (y : Record). message.Part (record { rec = y })) (λ y. tt) (record_at (record_bytes m.rec)) (message.Prepared v) is)
vote_read (message.Ask m) small v is = absurd (field_is (λ (y : Ask). message.Ask y) (λ y. tt) (ask_at (ask_bytes m)) (message.Prepared v) is)
vote_read (message.Gather m) small v is = absurd (field_is (λ (y : ℕ). message.Gather (record { session = y })) (λ y. tt) (u64_at (be8 m.session)) (message.Prepared v) is)
vote_read (message.Stage m) small v is = absurd (field_is (λ (y : Base). message.Stage (record { base = y })) (λ y. tt) (base_at (base_bytes m.base)) (message.Prepared v) is)
vote_read (message.Switch m) small v is = absurd (field_is (λ (y : ℕ). message.Switch (record { session = y })) (λ y. tt) (u64_at (be8 m.session)) (message.Prepared v) is)
vote_read (message.Dump m) small v is = absurd (field_is (λ (y : Dump). message.Dump y) (λ y. tt) (dump_at (dump_bytes m)) (message.Prepared v) is)
vote_read (message.Dumped m) small v is = absurd (field_is (λ (y : Dumped). message.Dumped y) (λ y. tt) (dumped_at (dumped_bytes m)) (message.Prepared v) is)
