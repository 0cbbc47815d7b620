-- Each message has one spelling.
use Rattle.std.proofs.Common.{◌≡◌, ℕ, zero, suc, ◌-◌, ◌^◌, ◌<◌, ◌≤◌, Bool, true, false, cond, List, [], ◌∷◌, ◌++◌, length, Option, Some, None, Result, Ok, Err, refl, sym, ap, subst, ◌∙◌, append-nil, arith}
use Rattle.std.specs.Prelude.{IfOk, ◌==◌, slice_get}
use Rattle.std.specs.List.{AllByRecursion}
use Rattle.std.proofs.lemmas.Bool.{eqb-true}
use Rattle.std.proofs.lemmas.List.{nil_from_length}
use Rattle.std.proofs.lemmas.List.Elements.{All-from_recursion, recursion_from_All}
use Rattle.salus_codec.specs.Spelling.{IsBytes}
use Rattle.salus_types.specs.Outcome.{Gives}
use Rattle.salus_codec.specs.Reading.{Field}
use Rattle.salus_codec.specs.Formats.{made}
use Rattle.salus_codec.proofs.Formats.{IsFormat, is_bytes, is_u8, is_u16, is_u32, is_u64, is_both, is_made, is_within, is_sized, is_counted, bind_ok, ok_is}
use Rattle.client_tag.specs.Ranges.{IsRecord, IsBase, AreBlocks, IsTyped}
use Rattle.client_tag.proofs.RecordLaws.{FitsRecord, is_record, is_blocks, FitsBase, is_base}
use Rattle.salus_message.specs.declared.small.Ask.{Ask}
use Rattle.salus_message.specs.declared.replies.Answer.{Answer}
use Rattle.salus_message.specs.declared.carried.Gathered.{Gathered}
use Rattle.salus_message.specs.declared.carried.Dumped.{Dumped}
use Rattle.salus_message.specs.declared.kinds.Kind.{Kind}
use Rattle.salus_message.specs.declared.kinds.Kind.TheVariants as kind
use Rattle.salus_message.specs.declared.wire.Message.{Message}
use Rattle.salus_message.specs.declared.wire.Message.TheVariants as message
use Rattle.salus_message.specs.declared.wire.MessageError.{MessageError}
use Rattle.salus_message.specs.declared.wire.MessageError.TheVariants as refusal
use Rattle.salus_message.specs.Kinds.{all_kinds, byte_of, kind_at, kind_of}
use Rattle.salus_message.specs.Spelling.{prepared_bytes, committed_bytes, asked_bytes, ask_bytes, path_bytes, answer_bytes, bases_bytes, records_bytes, gathered_bytes, dump_bytes, dumped_bytes, fields_bytes, message_bytes}
use Rattle.salus_message.specs.Ranges.{IsAnswer, IsHeld, IsMessage, PreparedWidths, CommittedWidths, AskedWidths, AnswerWidths, GatheredWidths, DumpWidths, DumpedWidths, HasWidths}
use Rattle.salus_message.specs.Reading.{prepared_at, committed_at, asked_at, ask_at, path_at, answer_at, bases_at, records_at, gathered_at, dump_at, dumped_at, fields_at, whole, of_kind, message_at, message_fault}

-- ---- the fields of each kind

is_prepared : IsFormat prepared_bytes PreparedWidths prepared_at
unfolding prepared_bytes prepared_at
is_prepared = is_made (is_both is_u64 (is_both is_u64 (is_both is_u16 (is_bytes 32)))) _ (λ m. (m.session, (m.seq, (m.region, m.root)))) prepared_bytes PreparedWidths (λ a f. (refl, f)) (λ m f. (refl, f, refl))

is_committed : IsFormat committed_bytes CommittedWidths committed_at
unfolding committed_bytes committed_at
is_committed = is_made (is_both is_u64 is_u64) _ (λ m. (m.session, m.front)) committed_bytes CommittedWidths (λ a f. (refl, f)) (λ m f. (refl, f, refl))

is_asked : IsFormat (λ (x : ℕ × (ℕ × (ℕ × ℕ))). asked_bytes x.0 x.1.0 x.1.1.0 x.1.1.1) (λ x. AskedWidths x.0 x.1.0 x.1.1.0 x.1.1.1) asked_at
unfolding asked_bytes asked_at
is_asked = is_both is_u64 (is_both is_u64 (is_both is_u32 is_u64))

abbrev AskWidths : Ask → Type 0
AskWidths m = AskedWidths m.session m.read m.block m.at

is_ask : IsFormat ask_bytes AskWidths ask_at
unfolding ask_bytes ask_at
is_ask = is_made is_asked _ (λ m. (m.session, (m.read, (m.block, m.at)))) ask_bytes AskWidths (λ a f. (refl, f)) (λ m f. (refl, f, refl))

is_path : IsFormat path_bytes (λ x. ((length x < 2 ^ 8) × (0 ≤ length x) × (length x ≤ 12)) × AllByRecursion (λ digest. length digest ≡ 32) x) path_at
unfolding path_bytes path_at
is_path = is_counted (is_within 0 12 is_u8) (is_bytes 32)

record FitsAnswer (m : Answer) : Type 0 where
  pub counts : IsAnswer m
  pub widths : AnswerWidths m

is_answer : IsFormat answer_bytes FitsAnswer answer_at
unfolding answer_bytes answer_at
is_answer =
    is_made (is_both is_asked (is_both (is_sized (is_within 1 4096 is_u16)) is_path)) _ (λ m. ((m.session, (m.read, (m.block, m.at))), (m.bytes, m.path))) answer_bytes FitsAnswer
    (λ a f. (refl, record { counts = record { small_block = (f.1.0.1, f.1.0.2); short_path = f.1.1.0.2 }; widths = (f.0, f.1.1.1) }))
    (λ m f. (
      refl,
      (f.widths.0, ((omega (arith, f.counts.small_block.1), f.counts.small_block.0, f.counts.small_block.1), ((omega (arith, f.counts.short_path), omega arith, f.counts.short_path), f.widths.1))),
      refl,
    ))

is_bases : IsFormat bases_bytes (λ x. ((length x < 2 ^ 32) × (0 ≤ length x) × (length x ≤ 1048576)) × AllByRecursion FitsBase x) bases_at
unfolding bases_bytes bases_at
is_bases = is_counted (is_within 0 1048576 is_u32) is_base

is_records : IsFormat records_bytes (λ x. ((length x < 2 ^ 32) × (0 ≤ length x) × (length x ≤ 1048576)) × AllByRecursion FitsRecord x) records_at
unfolding records_bytes records_at
is_records = is_counted (is_within 0 1048576 is_u32) is_record

-- what holds of each, for what follows from it
weaker : {A : Type 0} (P Q : A → Type 0) → ((x : A) → P x → Q x) → (xs : List A) → AllByRecursion P xs → AllByRecursion Q xs
weaker P Q f [] h = tt
weaker P Q f (x ∷ xs) h = (f x h.0, weaker P Q f xs h.1)

joint : {A : Type 0} (P Q R : A → Type 0) → ((x : A) → P x → Q x → R x) → (xs : List A) → AllByRecursion P xs → AllByRecursion Q xs → AllByRecursion R xs
joint P Q R f [] h k = tt
joint P Q R f (x ∷ xs) h k = (f x h.0 k.0, joint P Q R f xs h.1 k.1)

record FitsGathered (m : Gathered) : Type 0 where
  pub counts : IsHeld m.held
  pub widths : GatheredWidths m

is_gathered : IsFormat gathered_bytes FitsGathered gathered_at
unfolding gathered_bytes gathered_at
is_gathered =
    is_made (is_both is_u64 (is_both is_u64 (is_both is_bases is_records))) _ (λ m. (m.session, (m.held.session, (m.held.bases, m.held.parts)))) gathered_bytes FitsGathered
    (λ a f. (
      refl,
      record {
        counts = record {
          few_bases = f.1.1.0.0.2;
          its_bases = All-from_recursion IsBase a.1.1.0 (weaker FitsBase IsBase (λ x h. h.counts) a.1.1.0 f.1.1.0.1);
          few_parts = f.1.1.1.0.2;
          its_parts = All-from_recursion IsRecord a.1.1.1 (weaker FitsRecord IsRecord (λ x h. h.counts) a.1.1.1 f.1.1.1.1);
        };
        widths = (f.0, f.1.0, weaker FitsBase (λ x. IsTyped x.rec) (λ x h. h.widths) a.1.1.0 f.1.1.0.1, weaker FitsRecord IsTyped (λ x h. h.widths) a.1.1.1 f.1.1.1.1);
      },
    ))
    (λ m f. (
      refl,
      (
        f.widths.0,
        (
          f.widths.1,
          (
            (
              (omega (arith, f.counts.few_bases), omega arith, f.counts.few_bases),
              joint IsBase (λ x. IsTyped x.rec) FitsBase (λ x h k. record { counts = h; widths = k }) m.held.bases (recursion_from_All IsBase m.held.bases f.counts.its_bases) f.widths.2,
            ),
            (
              (omega (arith, f.counts.few_parts), omega arith, f.counts.few_parts),
              joint IsRecord IsTyped FitsRecord (λ x h k. record { counts = h; widths = k }) m.held.parts (recursion_from_All IsRecord m.held.parts f.counts.its_parts) f.widths.3,
            ),
          ),
        ),
      ),
      refl,
    ))

is_dump : IsFormat dump_bytes DumpWidths dump_at
unfolding dump_bytes dump_at
is_dump = is_made (is_both is_u64 is_u16) _ (λ m. (m.session, m.region)) dump_bytes DumpWidths (λ a f. (refl, f)) (λ m f. (refl, f, refl))

record FitsDumped (m : Dumped) : Type 0 where
  pub counts : AreBlocks m.blocks
  pub widths : DumpedWidths m

is_dumped : IsFormat dumped_bytes FitsDumped dumped_at
unfolding dumped_bytes dumped_at
is_dumped =
    is_made (is_both is_u64 (is_both is_u16 (is_both is_u64 is_blocks))) _ (λ m. (m.session, (m.region, (m.at, m.blocks)))) dumped_bytes FitsDumped
    (λ a f. (refl, record { counts = f.1.1.1; widths = (f.0, f.1.0, f.1.1.0) }))
    (λ m f. (refl, (f.widths.0, (f.widths.1, (f.widths.2, f.counts))), refl))

-- ---- the kind

record IsRead (k : Kind) (bytes : List ℕ) (x : Message × List ℕ) : Type 0 where
  pub its_kind : k ≡ kind_of x.0
  pub parts : bytes ≡ fields_bytes x.0 ++ x.1
  pub counts : IsMessage x.0
  pub widths : HasWidths x.0

-- a message made of fields that were read
read_as : {A : Type 0} {f : A → List ℕ} {F : A → Type 0} {r : List ℕ → Field A} (k : Kind) (value : A → Message) → IsFormat f F r
    → ((a : A) (bytes rest : List ℕ) → bytes ≡ f a ++ rest → F a → IsRead k bytes (value a, rest)) → (bytes : List ℕ) (x : Message × List ℕ) → IsBytes bytes → made value r bytes ≡ Ok x → IsRead k bytes x
read_as {A} {f} {F} {r} k value p then bytes x fits e =
    let a = bind_ok (r bytes) (λ a. Ok (value a.0, a.1)) x e in
    let t = p.takes bytes a.0.0 a.0.1 fits a.1 in
    subst (λ (y : Message × List ℕ). IsRead k bytes y) (ok_is (value a.0.0, a.0.1) x a.2) (then a.0.0 bytes a.0.1 t.0 t.1)

fields_take : (k : Kind) (bytes : List ℕ) (x : Message × List ℕ) → IsBytes bytes → fields_at k bytes ≡ Ok x → IsRead k bytes x
fields_take kind.Part bytes x fits e = read_as kind.Part (λ m. message.Part (record { rec = m })) is_record (λ a b r p f. record { its_kind = refl; parts = p; counts = f.counts; widths = f.widths }) bytes x fits e
fields_take kind.Prepared bytes x fits e = read_as kind.Prepared message.Prepared is_prepared (λ a b r p f. record { its_kind = refl; parts = p; counts = tt; widths = f }) bytes x fits e
fields_take kind.Committed bytes x fits e = read_as kind.Committed message.Committed is_committed (λ a b r p f. record { its_kind = refl; parts = p; counts = tt; widths = f }) bytes x fits e
fields_take kind.Ask bytes x fits e = read_as kind.Ask message.Ask is_ask (λ a b r p f. record { its_kind = refl; parts = p; counts = tt; widths = f }) bytes x fits e
fields_take kind.Answer bytes x fits e = read_as kind.Answer message.Answer is_answer (λ a b r p f. record { its_kind = refl; parts = p; counts = f.counts; widths = f.widths }) bytes x fits e
fields_take kind.Gather bytes x fits e = read_as kind.Gather (λ n. message.Gather (record { session = n })) is_u64 (λ a b r p f. record { its_kind = refl; parts = p; counts = tt; widths = f }) bytes x fits e
fields_take kind.Gathered bytes x fits e = read_as kind.Gathered message.Gathered is_gathered (λ a b r p f. record { its_kind = refl; parts = p; counts = f.counts; widths = f.widths }) bytes x fits e
fields_take kind.Stage bytes x fits e = read_as kind.Stage (λ m. message.Stage (record { base = m })) is_base (λ a b r p f. record { its_kind = refl; parts = p; counts = f.counts; widths = f.widths }) bytes x fits e
fields_take kind.Staged bytes x fits e = read_as kind.Staged (λ n. message.Staged (record { session = n })) is_u64 (λ a b r p f. record { its_kind = refl; parts = p; counts = tt; widths = f }) bytes x fits e
fields_take kind.Switch bytes x fits e = read_as kind.Switch (λ n. message.Switch (record { session = n })) is_u64 (λ a b r p f. record { its_kind = refl; parts = p; counts = tt; widths = f }) bytes x fits e
fields_take kind.Switched bytes x fits e = read_as kind.Switched (λ n. message.Switched (record { session = n })) is_u64 (λ a b r p f. record { its_kind = refl; parts = p; counts = tt; widths = f }) bytes x fits e
fields_take kind.Dump bytes x fits e = read_as kind.Dump message.Dump is_dump (λ a b r p f. record { its_kind = refl; parts = p; counts = tt; widths = f }) bytes x fits e
fields_take kind.Dumped bytes x fits e = read_as kind.Dumped message.Dumped is_dumped (λ a b r p f. record { its_kind = refl; parts = p; counts = f.counts; widths = f.widths }) bytes x fits e

-- fields that are spelled are read
read_of : {A : Type 0} {f : A → List ℕ} {F : A → Type 0} {r : List ℕ → Field A} (value : A → Message) → IsFormat f F r → (a : A) → F a → made value r (f a) ≡ Ok (value a, [])
read_of {A} {f} {F} {r} value p a fits = ap (made value r) (sym (append-nil (f a))) ∙ rw (p.again a [] fits) refl

fields_again : (m : Message) → IsMessage m → HasWidths m → fields_at (kind_of m) (fields_bytes m) ≡ Ok (m, [])
fields_again (message.Part m) i w = read_of (λ x. message.Part (record { rec = x })) is_record m.rec (record { counts = i; widths = w })
fields_again (message.Prepared m) i w = read_of message.Prepared is_prepared m w
fields_again (message.Committed m) i w = read_of message.Committed is_committed m w
fields_again (message.Ask m) i w = read_of message.Ask is_ask m w
fields_again (message.Answer m) i w = read_of message.Answer is_answer m (record { counts = i; widths = w })
fields_again (message.Gather m) i w = read_of (λ x. message.Gather (record { session = x })) is_u64 m.session w
fields_again (message.Gathered m) i w = read_of message.Gathered is_gathered m (record { counts = i; widths = w })
fields_again (message.Stage m) i w = read_of (λ x. message.Stage (record { base = x })) is_base m.base (record { counts = i; widths = w })
fields_again (message.Staged m) i w = read_of (λ x. message.Staged (record { session = x })) is_u64 m.session w
fields_again (message.Switch m) i w = read_of (λ x. message.Switch (record { session = x })) is_u64 m.session w
fields_again (message.Switched m) i w = read_of (λ x. message.Switched (record { session = x })) is_u64 m.session w
fields_again (message.Dump m) i w = read_of message.Dump is_dump m w
fields_again (message.Dumped m) i w = read_of message.Dumped is_dumped m (record { counts = i; widths = w })

kind_again : (k : Kind) → kind_at (byte_of k) ≡ Some k
kind_again kind.Part = refl
kind_again kind.Prepared = refl
kind_again kind.Committed = refl
kind_again kind.Ask = refl
kind_again kind.Answer = refl
kind_again kind.Gather = refl
kind_again kind.Gathered = refl
kind_again kind.Stage = refl
kind_again kind.Staged = refl
kind_again kind.Switch = refl
kind_again kind.Switched = refl
kind_again kind.Dump = refl
kind_again kind.Dumped = refl

some_is : (j k : Kind) → ◌≡◌ {A = Option Kind} (Some j) (Some k) → j ≡ k
some_is j k e = cc

byte_is : (n : ℕ) (k : Kind) → kind_at n ≡ Some k → n ≡ byte_of k
byte_is zero k e = absurd cc
byte_is (suc zero) k e = ap byte_of (some_is kind.Part k e)
byte_is (suc (suc zero)) k e = ap byte_of (some_is kind.Prepared k e)
byte_is (suc (suc (suc zero))) k e = ap byte_of (some_is kind.Committed k e)
byte_is (suc (suc (suc (suc zero)))) k e = ap byte_of (some_is kind.Ask k e)
byte_is (suc (suc (suc (suc (suc zero))))) k e = ap byte_of (some_is kind.Answer k e)
byte_is (suc (suc (suc (suc (suc (suc zero)))))) k e = ap byte_of (some_is kind.Gather k e)
byte_is (suc (suc (suc (suc (suc (suc (suc zero))))))) k e = ap byte_of (some_is kind.Gathered k e)
byte_is (suc (suc (suc (suc (suc (suc (suc (suc zero)))))))) k e = ap byte_of (some_is kind.Stage k e)
byte_is (suc (suc (suc (suc (suc (suc (suc (suc (suc zero))))))))) k e = ap byte_of (some_is kind.Staged k e)
byte_is (suc (suc (suc (suc (suc (suc (suc (suc (suc (suc zero)))))))))) k e = ap byte_of (some_is kind.Switch k e)
byte_is (suc (suc (suc (suc (suc (suc (suc (suc (suc (suc (suc zero))))))))))) k e = ap byte_of (some_is kind.Switched k e)
byte_is (suc (suc (suc (suc (suc (suc (suc (suc (suc (suc (suc (suc zero)))))))))))) k e = ap byte_of (some_is kind.Dump k e)
byte_is (suc (suc (suc (suc (suc (suc (suc (suc (suc (suc (suc (suc (suc zero))))))))))))) k e = ap byte_of (some_is kind.Dumped k e)
byte_is (suc (suc (suc (suc (suc (suc (suc (suc (suc (suc (suc (suc (suc (suc n)))))))))))))) k e = absurd cc

pub kind_at_is : (n : ℕ) → (n ≡ 0 → ⊥) → slice_get all_kinds (n - 1) ≡ kind_at n
kind_at_is zero h = absurd (h refl)
kind_at_is (suc n) h = let e : suc n - 1 ≡ n = omega arith in ap (slice_get all_kinds) e

-- ---- the whole

done_whole : (x : Message × List ℕ) (b : Bool) (m : Message) → cond b (Ok x.0) (Err refusal.Trailing) ≡ Ok m → (b ≡ true) × (x.0 ≡ m)
done_whole x true m e = (refl, cc)
done_whole x false m e = absurd cc

record IsWhole (k : Kind) (bytes : List ℕ) (m : Message) : Type 0 where
  pub its_kind : k ≡ kind_of m
  pub parts : bytes ≡ fields_bytes m
  pub counts : IsMessage m
  pub widths : HasWidths m

whole_takes : (k : Kind) (bytes : List ℕ) (m : Message) (r : Field Message) → IsBytes bytes → r ≡ fields_at k bytes → whole r ≡ Ok m → IsWhole k bytes m
whole_takes k bytes m (Ok x) fits is e =
    let d = done_whole x (length x.1 == 0) m e in
    let t = fields_take k bytes x fits (sym is) in
    let nothing : x.1 ≡ [] = nil_from_length x.1 (eqb-true _ _ d.0) in
    subst (λ (y : Message). IsWhole k bytes y) d.1
    (record { its_kind = t.its_kind; parts = t.parts ∙ ap (λ (l : List ℕ). fields_bytes x.0 ++ l) nothing ∙ append-nil (fields_bytes x.0); counts = t.counts; widths = t.widths })
whole_takes k bytes m (Err f) fits is e = absurd cc

record IsSpelled (bytes : List ℕ) (m : Message) : Type 0 where
  pub text : bytes ≡ message_bytes m
  pub counts : IsMessage m
  pub widths : HasWidths m

kind_takes : (byte : ℕ) (bytes : List ℕ) (m : Message) (o : Option Kind) → IsBytes bytes → kind_at byte ≡ o → of_kind o bytes ≡ Ok m → IsSpelled (byte ∷ bytes) m
kind_takes byte bytes m None fits is e = absurd cc
kind_takes byte bytes m (Some k) fits is e =
    let t = whole_takes k bytes m (fields_at k bytes) fits refl e in
    let b : byte ≡ byte_of (kind_of m) = byte_is byte k is ∙ ap byte_of t.its_kind in
    record { text = ap (λ (n : ℕ). n ∷ bytes) b ∙ ap (λ (l : List ℕ). byte_of (kind_of m) ∷ l) t.parts; counts = t.counts; widths = t.widths }

message_takes : (bytes : List ℕ) (m : Message) → IsBytes bytes → message_at bytes ≡ Ok m → IsSpelled bytes m
unfolding message_at
message_takes [] m fits e = absurd cc
message_takes (byte ∷ bytes) m fits e = kind_takes byte bytes m (kind_at byte) (λ i. fits (suc i)) refl e

pub message_again : (m : Message) → IsMessage m → HasWidths m → message_at (message_bytes m) ≡ Ok m
unfolding message_at
message_again m i w = rw (kind_again (kind_of m), fields_again m i w) refl

pub is_found : (bytes : List ℕ) (r : Result Message MessageError) → IsBytes bytes → Gives Ok message_fault r (message_at bytes) → IfOk r (λ m. (bytes ≡ message_bytes m) × IsMessage m × HasWidths m)
is_found bytes (Ok m) fits given = let t = message_takes bytes m fits given in (t.text, t.counts, t.widths)
is_found bytes (Err e) fits given = tt
