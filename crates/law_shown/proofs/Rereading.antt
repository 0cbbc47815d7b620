-- A message that tells all that is held reads with the same bases and parts; no other message reads as one.
use Rattle.std.proofs.Common.{◌≡◌, ◌∙◌, ℕ, zero, suc, ◌^◌, ◌<◌, ◌≤◌, ◌==◌, nat_le, Bool, true, false, if◌then◌else◌, List, [], ◌∷◌, ◌++◌, length, Result, Ok, Err, refl, sym, ap, subst, arith, append-nil}
use Rattle.std.specs.Prelude.{◌/◌}
use Rattle.std.specs.List.{AllByRecursion, list_all}
use Rattle.std.proofs.lemmas.Bool.{eqb-true, leb-true}
use Rattle.std.proofs.lemmas.List.Elements.{All-from_recursion}
use Rattle.std.proofs.Math.Pow.{pow_mono}
use native.Mathlib.Nat.{mod-lt}
use Rattle.byteorder.specs.Endian.{big_bytes, big_number}
use Rattle.byteorder.specs.Numbers.{length-bytes_high_first}
use Rattle.salus_types.specs.Volume.{Shape, region_blocks, IsVolume}
use Rattle.salus_types.specs.declared.names.NodeName.{NodeName}
use Rattle.salus_types.specs.declared.records.Record.{Record}
use Rattle.salus_types.specs.declared.records.Base.{Base}
use Rattle.salus_types.specs.declared.records.Held.{Held}
use Rattle.salus_codec.specs.Spelling.{IsBytes, be8}
use Rattle.salus_codec.specs.Reading.{Field, ◌>>=◌, u64_at}
use Rattle.salus_codec.proofs.Formats.{is_bytes, is_u64}
use Rattle.client_tag.specs.Ranges.{IsRecord, IsTyped, IsBetween, IsBase, AreBlocks}
use Rattle.client_tag.specs.Spelling.{size_of, record_bytes, base_bytes}
use Rattle.client_tag.specs.Reading.{record_at, base_at}
use Rattle.salus_message.specs.declared.small.Prepared.{Prepared}
use Rattle.salus_message.specs.declared.small.Committed.{Committed}
use Rattle.salus_message.specs.declared.small.Ask.{Ask}
use Rattle.salus_message.specs.declared.small.Dump.{Dump}
use Rattle.salus_message.specs.declared.replies.Answer.{Answer}
use Rattle.salus_message.specs.declared.carried.Dumped.{Dumped}
use Rattle.salus_message.specs.declared.carried.Gathered.{Gathered}
use Rattle.salus_message.specs.declared.wire.Message.{Message}
use Rattle.salus_message.specs.declared.wire.Message.TheVariants as message
use Rattle.salus_message.specs.declared.wire.MessageError.{MessageError}
use Rattle.salus_message.specs.declared.wire.MessageError.TheVariants as refusal
use Rattle.salus_message.specs.Ranges.{IsHeld}
use Rattle.salus_message.specs.Spelling.{prepared_bytes, committed_bytes, ask_bytes, answer_bytes, bases_bytes, records_bytes, gathered_bytes, dump_bytes, dumped_bytes, message_bytes}
use Rattle.salus_message.specs.Reading.{prepared_at, committed_at, ask_at, answer_at, dump_at, dumped_at, whole, message_at}
use Rattle.salus_message.specs.Kinds.{byte_of, kind_of}
use Rattle.salus_message.proofs.MessageLaws.{message_again}
use Rattle.salus_model.specs.Hearing.{Says, news_of_message}
use Rattle.holding_model.specs.Fitting.{has_shape}
use Rattle.replica_rules.specs.Rules.{is_carried}
use Rattle.list_lemmas.proofs.Each.{all_then}
use Rattle.list_lemmas.proofs.Tests.{and_left, and_right}
use Rattle.law_history.specs.Showing.{records_shown}
use Rattle.law_handed.specs.Fitting.{IsSpelled, PartFits, BaseFits, HeldFits, IsShaped, IsShownWhole, ShowsFitting}

-- ---- a number out of its width is spelled as one that is in it

high_bytes : (k n : ℕ) → IsBytes (big_bytes k n)
high_bytes zero n i = omega arith
high_bytes (suc zero) n zero = mod-lt n (omega arith)
high_bytes (suc (suc k)) n zero = mod-lt (n / 256 ^ suc k) (omega arith)
high_bytes (suc k) n (suc i) = high_bytes k n i

pub record SameNumber (n : ℕ) : Type 0 where
  pub x : ℕ
  pub same : be8 n ≡ be8 x
  pub small : x < 2 ^ 64

long_number : (n : ℕ) → length (be8 n) ≡ 8
unfolding be8
long_number n = length-bytes_high_first 8 n

number_bytes : (n : ℕ) → IsBytes (be8 n)
unfolding be8
number_bytes n = high_bytes 8 n

same_number : (n : ℕ) → SameNumber n
unfolding u64_at
same_number n =
    let bytes : IsBytes (be8 n ++ []) = subst IsBytes (sym (append-nil (be8 n))) (number_bytes n) in
    let read : u64_at (be8 n ++ []) ≡ Ok (big_number 8 (be8 n), []) = rw ((is_bytes 8).again (be8 n) [] (long_number n)) refl in
    let t = is_u64.takes (be8 n ++ []) (big_number 8 (be8 n)) [] bytes read in
    record { x = big_number 8 (be8 n); same = sym (append-nil (be8 n)) ∙ (t.0 ∙ append-nil (be8 (big_number 8 (be8 n)))); small = t.1 }

-- ---- all that is held

abbrev renumbered : ℕ → ℕ → Gathered → Gathered
renumbered x y m = record { session = x; held = record { session = y; bases = m.held.bases; parts = m.held.parts } }

same_text : (m : Gathered) (x y : ℕ) → be8 m.session ≡ be8 x → be8 m.held.session ≡ be8 y → gathered_bytes m ≡ gathered_bytes (renumbered x y m)
unfolding gathered_bytes
same_text m x y first second =
    ap (λ (l : List ℕ). l ++ (be8 m.held.session ++ (bases_bytes m.held.bases ++ records_bytes m.held.parts))) first
    ∙ ap (λ (l : List ℕ). be8 x ++ (l ++ (bases_bytes m.held.bases ++ records_bytes m.held.parts))) second

pub all_long : (n : ℕ) (blocks : List (List ℕ)) → list_all (λ x. length x == n) blocks ≡ true → AllByRecursion (λ x. length x ≡ n) blocks
all_long n [] all = tt
all_long n (x ∷ blocks) all = (eqb-true (length x) n (and_left (length x == n) (list_all (λ y. length y == n) blocks) all), all_long n blocks (and_right (length x == n) (list_all (λ y. length y == n) blocks) all))

one_size : (n : ℕ) (blocks : List (List ℕ)) → AllByRecursion (λ x. length x ≡ n) blocks → AllByRecursion (λ x. length x ≡ size_of blocks) blocks
one_size n [] all = tt
one_size n (x ∷ blocks) all = all_then (λ y. length y ≡ n) (λ y. length y ≡ length x) (λ y same. same ∙ sym all.0) (x ∷ blocks) all

module _ (shape : Shape) (volume : IsVolume shape) where
  -- few blocks of the volume's length have a spelling
  pub sized_blocks : (blocks : List (List ℕ)) → length blocks ≤ 4096 → AllByRecursion (λ x. length x ≡ shape.block) blocks → AreBlocks blocks
  sized_blocks blocks few all = record {
    few_blocks = few;
    one_size = All-from_recursion (λ x. length x ≡ size_of blocks) blocks (one_size shape.block blocks all);
    small_blocks = All-from_recursion (λ x. IsBetween 1 4096 (length x)) blocks
        (all_then (λ x. length x ≡ shape.block) (λ x. IsBetween 1 4096 (length x)) (λ x same. subst (IsBetween 1 4096) (sym same) volume.small_blocks) blocks all);
  }

  are_blocks : (blocks : List (List ℕ)) → has_shape shape blocks ≡ true → AreBlocks blocks
  unfolding has_shape
  are_blocks blocks shaped =
      let long : length blocks ≡ region_blocks shape = eqb-true (length blocks) (region_blocks shape) (and_left (length blocks == region_blocks shape) (list_all (λ x. length x == shape.block) blocks) shaped) in
      let few : 2 ^ shape.height ≤ 2 ^ 10 = pow_mono volume.low in
      sized_blocks blocks (omega arith) (all_long shape.block blocks (and_right (length blocks == region_blocks shape) (list_all (λ x. length x == shape.block) blocks) shaped))

  is_held : (held : Held) → HeldFits shape IsSpelled IsSpelled (IsShaped shape) held → is_carried held ≡ true → IsHeld held
  is_held held fits carried = record {
    few_bases = leb-true (length held.bases) 1048576 (and_left (nat_le (length held.bases) 1048576) (nat_le (length held.parts) 1048576) carried);
    its_bases = All-from_recursion IsBase held.bases (all_then (BaseFits IsSpelled (IsShaped shape)) IsBase (λ base f. record { its_record = f.given.counts; its_blocks = are_blocks base.blocks f.whole }) held.bases fits.bases);
    few_parts = leb-true (length held.parts) 1048576 (and_right (nat_le (length held.bases) 1048576) (nat_le (length held.parts) 1048576) carried);
    its_parts = All-from_recursion IsRecord held.parts (all_then (PartFits shape IsSpelled) IsRecord (λ rec f. f.given.counts) held.parts fits.parts);
  }

  gathered_again : (m : Gathered) → IsShownWhole shape m.held → (x : ℕ) × (y : ℕ) × (message_at (message_bytes (message.Gathered m)) ≡ Ok (message.Gathered (renumbered x y m)))
  gathered_again m shown =
      let a : SameNumber m.session = same_number m.session in
      let b : SameNumber m.held.session = same_number m.held.session in
      let other : Gathered = renumbered a.x b.x m in
      let again : message_at (message_bytes (message.Gathered other)) ≡ Ok (message.Gathered other) = message_again (message.Gathered other)
      (is_held other.held (record { bases = shown.fits.bases; parts = shown.fits.parts }) shown.carried)
      (a.small, b.small, all_then (BaseFits IsSpelled (IsShaped shape)) (λ base. IsTyped base.rec) (λ base f. f.given.widths) m.held.bases shown.fits.bases, all_then (PartFits shape IsSpelled) IsTyped (λ rec f. f.given.widths) m.held.parts shown.fits.parts) in
      (a.x, b.x, ap (λ (l : List ℕ). message_at (byte_of (kind_of (message.Gathered m)) ∷ l)) (same_text m a.x b.x a.same b.same) ∙ again)

-- ---- the other messages

module _ (name : NodeName) where
  done_shows : {A : Type 0} (f : A → Message) → ((x : A) → records_shown (Says name (f x)) ≡ []) → (x : A × List ℕ) (b : Bool)
      → records_shown (news_of_message name (if b then Ok (f x.0) else Err refusal.Trailing)) ≡ []
  done_shows f none x true = none x.0
  done_shows f none x false = refl

  field_shows : {A : Type 0} (f : A → Message) → ((x : A) → records_shown (Says name (f x)) ≡ []) → (r : Field A)
      → records_shown (news_of_message name (whole (r >>= λ a. Ok (f a.0, a.1)))) ≡ []
  field_shows f none (Ok x) = done_shows f none x (length x.1 == 0)
  field_shows f none (Err e) = refl

  -- what is read of a message shows no more than the message itself
  pub shown_again : (shape : Shape) → IsVolume shape → (m : Message) → ShowsFitting shape m → records_shown (news_of_message name (message_at (message_bytes m))) ≡ records_shown (Says name m)
  unfolding message_at
  shown_again shape volume (message.Gathered m) fits = let again = gathered_again shape volume m fits in ap (λ (r : Result Message MessageError). records_shown (news_of_message name r)) again.2
  shown_again shape volume (message.Part m) fits = field_shows (λ (x : Record). message.Part (record { rec = x })) (λ x. refl) (record_at (record_bytes m.rec))
  shown_again shape volume (message.Prepared m) fits = field_shows (λ (x : Prepared). message.Prepared x) (λ x. refl) (prepared_at (prepared_bytes m))
  shown_again shape volume (message.Committed m) fits = field_shows (λ (x : Committed). message.Committed x) (λ x. refl) (committed_at (committed_bytes m))
  shown_again shape volume (message.Ask m) fits = field_shows (λ (x : Ask). message.Ask x) (λ x. refl) (ask_at (ask_bytes m))
  shown_again shape volume (message.Answer m) fits = field_shows (λ (x : Answer). message.Answer x) (λ x. refl) (answer_at (answer_bytes m))
  shown_again shape volume (message.Gather m) fits = field_shows (λ (x : ℕ). message.Gather (record { session = x })) (λ x. refl) (u64_at (be8 m.session))
  shown_again shape volume (message.Stage m) fits = field_shows (λ (x : Base). message.Stage (record { base = x })) (λ x. refl) (base_at (base_bytes m.base))
  shown_again shape volume (message.Staged m) fits = field_shows (λ (x : ℕ). message.Staged (record { session = x })) (λ x. refl) (u64_at (be8 m.session))
  shown_again shape volume (message.Switch m) fits = field_shows (λ (x : ℕ). message.Switch (record { session = x })) (λ x. refl) (u64_at (be8 m.session))
  shown_again shape volume (message.Switched m) fits = field_shows (λ (x : ℕ). message.Switched (record { session = x })) (λ x. refl) (u64_at (be8 m.session))
  shown_again shape volume (message.Dump m) fits = field_shows (λ (x : Dump). message.Dump x) (λ x. refl) (dump_at (dump_bytes m))
  shown_again shape volume (message.Dumped m) fits = field_shows (λ (x : Dumped). message.Dumped x) (λ x. refl) (dumped_at (dumped_bytes m))
