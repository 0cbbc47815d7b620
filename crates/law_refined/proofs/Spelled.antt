-- What is read of a message that a node sends is the message; so it is among those sent as the message is.
use Rattle.std.proofs.Common.{◌≡◌, ◌∙◌, ⊎_elim, ℕ, ◌-◌, ◌^◌, ◌<◌, ◌≤◌, ◌==◌, nat_le, Bool, true, false, if◌then◌else◌, List, [], ◌∷◌, length, Option, None, Some, Ok, Err, sym, subst, arith}
use Rattle.std.specs.Prelude.{find}
use Rattle.std.specs.Option.{option_map_or}
use Rattle.std.specs.List.{AllByRecursion, list_all}
use Rattle.std.proofs.lemmas.Bool.{eqb-true, leb-true}
use Rattle.std.proofs.lemmas.List.Elements.{All-from_recursion}
use Rattle.std.proofs.Math.Pow.{pow_mono}
use Rattle.salus_types.specs.Volume.{Shape, region_blocks, IsVolume}
use Rattle.salus_types.specs.declared.names.NodeName.{NodeName}
use Rattle.salus_types.specs.declared.records.Record.{Record}
use Rattle.salus_types.specs.declared.records.Base.{Base}
use Rattle.salus_types.specs.declared.records.Held.{Held}
use Rattle.salus_codec.specs.Spelling.{be8}
use Rattle.salus_codec.specs.Reading.{Field, ◌>>=◌, u64_at}
use Rattle.client_tag.specs.Ranges.{IsRecord, IsTyped, IsBase, AreBlocks}
use Rattle.client_tag.specs.Spelling.{record_bytes, base_bytes}
use Rattle.client_tag.specs.Reading.{record_at, base_at}
use Rattle.salus_message.specs.declared.small.Ask.{Ask}
use Rattle.salus_message.specs.declared.small.Dump.{Dump}
use Rattle.salus_message.specs.declared.replies.Answer.{Answer}
use Rattle.salus_message.specs.declared.carried.Dumped.{Dumped}
use Rattle.salus_message.specs.declared.wire.Message.{Message}
use Rattle.salus_message.specs.declared.wire.Message.TheVariants as message
use Rattle.salus_message.specs.declared.wire.MessageError.TheVariants as refusal
use Rattle.salus_message.specs.Ranges.{IsHeld, IsMessage, HasWidths}
use Rattle.salus_message.specs.Spelling.{ask_bytes, answer_bytes, dump_bytes, dumped_bytes}
use Rattle.salus_message.specs.Reading.{ask_at, answer_at, dump_at, dumped_at, whole, message_at}
use Rattle.salus_message.proofs.MessageLaws.{message_again}
use Rattle.schedule_text.proofs.Decided.{same_ok, ok-err}
use Rattle.merkle_region.specs.Tree.{IsAmong}
use Rattle.volume_model.specs.Recovering.{is_of}
use Rattle.holding_model.specs.Fitting.{has_shape}
use Rattle.holding_model.specs.Changing.{is_open_base}
use Rattle.replica_rules.specs.Views.{View, view_of_base}
use Rattle.replica_rules.specs.Rules.{Sending, is_carried}
use Rattle.replica_rules.proofs.Agreeing.{IsHeldVote, AllVotes}
use Rattle.list_lemmas.proofs.Each.{all_then, OfSome}
use Rattle.list_lemmas.proofs.Members.{among_all, found_among}
use Rattle.list_lemmas.proofs.Tests.{and_left, and_right}
use Rattle.law_handed.specs.Fitting.{IsSpelled}
use Rattle.law_shown.proofs.Rereading.{all_long, sized_blocks}
use Rattle.law_prefix.specs.World.{Client, Vote, Claim, World, Volume}
use Rattle.law_prefix.specs.Steps.{IsBatch}
use Rattle.kept_model.specs.Images.{open_place}
use Rattle.kept_model.specs.Matching.{IsAmongSent}
use Rattle.law_refined.specs.Bringing.{PartFits, StartFits}
use Rattle.law_refined.specs.Standing.{BaseStands, Opened, HeldStands, Certain}
use Rattle.law_refined.specs.Stepping.{IsReadAmongSent}
use Rattle.law_refined.proofs.Chains.{chain_fits}
use Rattle.law_refined.proofs.Opens.{opened_session, opened_stands}
use Rattle.law_refined.proofs.Turning.{OutFits, AllFit}

-- ---- messages of which only the kind counts

done_is : {A : Type 0} (f : A → Message) (P : Message → Type 0) → ((a : A) → P (f a)) → (x : A × List ℕ) (b : Bool) (read : Message) → (if b then Ok (f x.0) else Err refusal.Trailing) ≡ Ok read → P read
done_is f P each x true read is = subst P (same_ok (f x.0) read is) (each x.0)
done_is f P each x false read is = absurd (ok-err read refusal.Trailing (sym is))

pub field_is : {A : Type 0} (f : A → Message) (P : Message → Type 0) → ((a : A) → P (f a)) → (r : Field A) (read : Message) → whole (r >>= λ a. Ok (f a.0, a.1)) ≡ Ok read → P read
field_is f P each (Ok x) read is = done_is f P each x (length x.1 == 0) read is
field_is f P each (Err e) read is = absurd (ok-err read _ (sym is))

module _ (shape : Shape) (limits : IsVolume shape) (g : ℕ) (c : Client) where
  -- ---- what is held

  are_blocks : (blocks : List (List ℕ)) → has_shape shape blocks ≡ true → AreBlocks blocks
  unfolding has_shape
  are_blocks blocks shaped =
      let long : length blocks ≡ region_blocks shape = eqb-true (length blocks) (region_blocks shape) (and_left (length blocks == region_blocks shape) (list_all (λ x. length x == shape.block) blocks) shaped) in
      let few : 2 ^ shape.height ≤ 2 ^ 10 = pow_mono limits.low in
      sized_blocks shape limits blocks (omega arith) (all_long shape.block blocks (and_right (length blocks == region_blocks shape) (list_all (λ x. length x == shape.block) blocks) shaped))

  base_spelled : (e : ℕ) (base : Base) → BaseStands shape g c e base → IsSpelled base.rec
  base_spelled e base stands = ⊎_elim (λ (start : StartFits c base.rec). start.spelled) (λ (part : (base.rec.header.session ≡ e) × PartFits c base.rec). part.1.spelled) stands.fits

  pub parts_spelled : (held : Held) → HeldStands shape g c held → AllByRecursion IsSpelled held.parts
  parts_spelled held holds =
      ⊎_elim (λ (closed : (held.session ≡ 0) × (held.parts ≡ [])). subst (λ (l : List Record). AllByRecursion IsSpelled l) (sym closed.1) tt)
      (λ (open_view : (0 < held.session) × (view : View) × Opened shape g c held view).
      let o : Opened shape g c held open_view.1 = open_view.2 in
      all_then (PartFits c) IsSpelled (λ rec fits. fits.spelled) held.parts (chain_fits shape g c held.session (view_of_base o.base) held.parts open_view.1 o.chain)) holds.open_is

  pub bases_spelled : (held : Held) → HeldStands shape g c held → AllByRecursion (λ (base : Base). IsSpelled base.rec) held.bases
  bases_spelled held holds = all_then (BaseStands shape g c held.session) (λ (base : Base). IsSpelled base.rec) (base_spelled held.session) held.bases holds.bases

  pub is_held : (held : Held) → HeldStands shape g c held → is_carried held ≡ true → IsHeld held
  is_held held holds carried = record {
    few_bases = leb-true (length held.bases) 1048576 (and_left (nat_le (length held.bases) 1048576) (nat_le (length held.parts) 1048576) carried);
    its_bases = All-from_recursion IsBase held.bases (all_then (BaseStands shape g c held.session) IsBase (λ base stands. record {
      its_record = (base_spelled held.session base stands).counts;
      its_blocks = are_blocks base.blocks (and_right (is_of base.rec.header.session g base.rec.header) (has_shape shape base.blocks) stands.stands);
    }) held.bases holds.bases);
    few_parts = leb-true (length held.parts) 1048576 (and_right (nat_le (length held.bases) 1048576) (nat_le (length held.parts) 1048576) carried);
    its_parts = All-from_recursion IsRecord held.parts (all_then IsSpelled IsRecord (λ rec spelled. spelled.counts) held.parts (parts_spelled held holds));
  }

  pub session_small : (held : Held) → HeldStands shape g c held → held.session < 2 ^ 64
  session_small held holds =
      ⊎_elim (λ (closed : (held.session ≡ 0) × (held.parts ≡ [])). let none : held.session ≡ 0 = closed.0 in omega arith)
      (λ (open_view : (0 < held.session) × (view : View) × Opened shape g c held view).
      let o : Opened shape g c held open_view.1 = open_view.2 in
      subst (λ x. x < 2 ^ 64) (opened_session shape g c held open_view.1 o) (base_spelled held.session o.base (opened_stands shape g c held open_view.1 holds o)).widths.header_typed.session_width) holds.open_is

  place_small : (held : Held) → HeldStands shape g c held → open_place held < 2 ^ 64
  place_small held holds = of_base (find (λ base. is_open_base held base) held.bases) (found_among (λ base. is_open_base held base) held.bases) where
    of_base : (o : Option Base) → OfSome (λ base. IsAmong base held.bases × (is_open_base held base ≡ true)) o → option_map_or (λ (base : Base). base.rec.header.seq) o 0 < 2 ^ 64
    of_base None found = omega arith
    of_base (Some base) found = (among_all (λ (b : Base). IsSpelled b.rec) held.bases base found.0 (bases_spelled held holds)).widths.header_typed.seq_width

  -- ---- a message

  module _ (v : Volume) (votes : List Vote) (claims : List Claim) (now : Held) (holds : HeldStands shape g c now) (name : NodeName) (w : World) where
    abbrev Sent : Message → Type 0
    Sent m = IsAmongSent shape w name m

    read_again : (m : Message) → IsMessage m → HasWidths m → Sent m → IsReadAmongSent shape w name m
    read_again m counts widths sent read is = subst Sent (same_ok m read (sym (message_again m counts widths) ∙ is)) sent

    pub read_sent : (m : Message) → IsHeldVote now m → OutFits shape v g c votes claims now m → Sent m → IsReadAmongSent shape w name m
    unfolding message_at
    read_sent (message.Prepared m) vote fits sent =
        let spelled : IsSpelled vote.0 = among_all IsSpelled now.parts vote.0 vote.1 (parts_spelled now holds) in
        read_again (message.Prepared m) tt (
          subst (λ x. x < 2 ^ 64) vote.2 spelled.widths.header_typed.session_width,
          (
            subst (λ x. x < 2 ^ 64) vote.3 spelled.widths.header_typed.seq_width,
            (subst (λ x. x < 2 ^ 16) vote.4 spelled.widths.header_typed.region_width, subst (λ (l : List ℕ). length l ≡ 32) vote.5 spelled.widths.header_typed.root_width),
          ),
        ) sent
    read_sent (message.Committed m) vote fits sent =
        let place : open_place now < 2 ^ 64 = place_small now holds in
        let front : m.front < 2 ^ 64 =
        ⊎_elim (λ (sure : Certain v c votes claims now.session (open_place now) m.front). sure.small)
        (λ (folded : (m.front ≤ open_place now) × IsBatch c now.session (m.front - 1)). let low : m.front ≤ open_place now = folded.0 in omega arith) fits.1 in
        read_again (message.Committed m) tt (subst (λ x. x < 2 ^ 64) (sym fits.0) (session_small now holds), front) sent
    read_sent (message.Staged m) vote fits sent = read_again (message.Staged m) tt fits.2 sent
    read_sent (message.Switched m) vote fits sent = read_again (message.Switched m) tt (subst (λ x. x < 2 ^ 64) fits (session_small now holds)) sent
    read_sent (message.Gathered m) vote fits sent =
        let same : now ≡ m.held = sym fits.0 in
        read_again (message.Gathered m) (subst (λ (h : Held). IsHeld h) same (is_held now holds (subst (λ (h : Held). is_carried h ≡ true) fits.0 fits.3))) (
          fits.2,
          subst (λ (h : Held). h.session < 2 ^ 64) same (session_small now holds),
          subst (λ (h : Held). AllByRecursion (λ (base : Base). IsTyped base.rec) h.bases) same (all_then (λ (base : Base). IsSpelled base.rec) (λ (base : Base). IsTyped base.rec) (λ base spelled. spelled.widths) now.bases (bases_spelled now holds)),
          subst (λ (h : Held). AllByRecursion IsTyped h.parts) same (all_then IsSpelled IsTyped (λ rec spelled. spelled.widths) now.parts (parts_spelled now holds)),
        ) sent
    read_sent (message.Part m) vote fits sent = λ read is. field_is (λ (x : Record). message.Part (record { rec = x })) Sent (λ x. tt) (record_at (record_bytes m.rec)) read is
    read_sent (message.Ask m) vote fits sent = λ read is. field_is (λ (x : Ask). message.Ask x) Sent (λ x. tt) (ask_at (ask_bytes m)) read is
    read_sent (message.Answer m) vote fits sent = λ read is. field_is (λ (x : Answer). message.Answer x) Sent (λ x. tt) (answer_at (answer_bytes m)) read is
    read_sent (message.Gather m) vote fits sent = λ read is. field_is (λ (x : ℕ). message.Gather (record { session = x })) Sent (λ x. tt) (u64_at (be8 m.session)) read is
    read_sent (message.Stage m) vote fits sent = λ read is. field_is (λ (x : Base). message.Stage (record { base = x })) Sent (λ x. tt) (base_at (base_bytes m.base)) read is
    read_sent (message.Switch m) vote fits sent = λ read is. field_is (λ (x : ℕ). message.Switch (record { session = x })) Sent (λ x. tt) (u64_at (be8 m.session)) read is
    read_sent (message.Dump m) vote fits sent = λ read is. field_is (λ (x : Dump). message.Dump x) Sent (λ x. tt) (dump_at (dump_bytes m)) read is
    read_sent (message.Dumped m) vote fits sent = λ read is. field_is (λ (x : Dumped). message.Dumped x) Sent (λ x. tt) (dumped_at (dumped_bytes m)) read is

    pub all_read : (outs : List Sending) → AllVotes now outs → AllFit shape v g c votes claims now outs → AllByRecursion (λ out. Sent out.message) outs → AllByRecursion (λ out. IsReadAmongSent shape w name out.message) outs
    all_read [] votes fit sent = tt
    all_read (out ∷ outs) votes fit sent = (read_sent out.message votes.0 fit.0 sent.0, all_read outs votes.1 fit.1 sent.1)
