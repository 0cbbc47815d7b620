-- Each answer that a sound node has posted leads to the root of a record that the client has tagged.
use Rattle.std.proofs.Common.{◌≡◌, ◌∙◌, inl, inr, ℕ, ◌<◌, ◌≤◌, ◌==◌, Bool, true, false, if◌then◌else◌, List, [], length, Option, None, Some, refl, sym, subst}
use Rattle.std.specs.Prelude.{Result, Ok, Err}
use Rattle.std.specs.List.{AllByRecursion}
use Rattle.std.proofs.lemmas.Bool.{true≢false}
use Rattle.salus_types.specs.Volume.{Shape, IsVolume}
use Rattle.salus_types.specs.declared.names.NodeName.{NodeName}
use Rattle.salus_types.specs.declared.names.Sender.{Sender}
use Rattle.salus_types.specs.declared.names.Sender.TheVariants as sender
use Rattle.salus_types.specs.declared.records.Record.{Record}
use Rattle.salus_types.specs.declared.records.Base.{Base}
use Rattle.salus_types.specs.declared.records.Held.{Held}
use Rattle.salus_codec.specs.Spelling.{be8}
use Rattle.salus_codec.specs.Reading.{Field, ◌>>=◌, u64_at}
use Rattle.client_tag.specs.Spelling.{record_bytes, base_bytes}
use Rattle.client_tag.specs.Reading.{record_at, base_at}
use Rattle.salus_message.specs.declared.small.Prepared.{Prepared}
use Rattle.salus_message.specs.declared.small.Committed.{Committed}
use Rattle.salus_message.specs.declared.small.Ask.{Ask}
use Rattle.salus_message.specs.declared.small.Dump.{Dump}
use Rattle.salus_message.specs.declared.replies.Answer.{Answer}
use Rattle.salus_message.specs.declared.carried.Dumped.{Dumped}
use Rattle.salus_message.specs.declared.carried.Gathered.{Gathered}
use Rattle.salus_message.specs.declared.wire.Message.{Message}
use Rattle.salus_message.specs.declared.wire.Message.TheVariants as message
use Rattle.salus_message.specs.declared.wire.MessageError.{MessageError}
use Rattle.salus_message.specs.declared.wire.MessageError.TheVariants as refusal
use Rattle.salus_message.specs.Spelling.{prepared_bytes, committed_bytes, ask_bytes, gathered_bytes, dump_bytes, dumped_bytes, message_bytes}
use Rattle.salus_message.specs.Reading.{prepared_at, committed_at, ask_at, gathered_at, dump_at, dumped_at, whole, message_at}
use Rattle.schedule_text.proofs.Decided.{same_ok, ok-err}
use Rattle.schedule_text.specs.declared.schedule.Event.{Event}
use Rattle.schedule_text.specs.declared.schedule.Volume.{Volume}
use Rattle.merkle_region.specs.Tree.{IsAmong, Verifies}
use Rattle.volume_model.specs.Contents.{place_of}
use Rattle.volume_model.specs.Groups.{is_client}
use Rattle.salus_model.specs.declared.trace.Handed.{Handed}
use Rattle.salus_model.specs.declared.trace.Handed.TheVariants as handed
use Rattle.salus_model.specs.Following.{Posted, posted_at}
use Rattle.salus_model.specs.Guarding.{is_lied_for}
use Rattle.salus_model.specs.Judge.{Judge}
use Rattle.salus_model.specs.Forgery.{IsTagged, records_in, records_of}
use Rattle.salus_model.specs.Licences.{Letter, letter_of, letter_in_post, letters_in, WasHanded, IsNamedRoot, IsRooted, IsLicensed}
use Rattle.replica_rules.specs.Views.{View}
use Rattle.replica_rules.specs.Nodes.{Memory}
use Rattle.list_lemmas.proofs.Each.{all_then}
use Rattle.list_lemmas.proofs.Members.{among_all}
use Rattle.law_lemmas.proofs.Growing.{Grows, tagged-grows}
use Rattle.law_lemmas.proofs.Numbered.{IsSized}
use Rattle.law_lemmas.proofs.Settled.{EachKnown}
use Rattle.law_history.specs.Handing.{records_posted}
use Rattle.law_reads.specs.Serving.{AreSmall}
use Rattle.law_reads.proofs.Readable.{IsReadable, answer_again}
use Rattle.law_asked.proofs.Handled.{IsAnswerTo, AnswersFor}
use Rattle.law_asked.proofs.Kept.{IsHandedOver}
use Rattle.law_asked.proofs.Present.{IsRootedIn}

-- ---- an answer is read as it was sent

-- the message is no answer
abbrev IsOther : Message → Type 0
IsOther (message.Answer a) = ⊥
IsOther other = Unit {0}

done_is : {A : Type 0} (f : A → Message) → ((a : A) → IsOther (f a)) → (x : A × List ℕ) (b : Bool) (read : Message) → (if b then Ok (f x.0) else Err refusal.Trailing) ≡ Ok read → IsOther read
done_is f each x true read is = subst IsOther (same_ok (f x.0) read is) (each x.0)
done_is f each x false read is = absurd (ok-err read refusal.Trailing (sym is))

field_is : {A : Type 0} (f : A → Message) → ((a : A) → IsOther (f a)) → (r : Field A) (read : Message) → whole (r >>= λ a. Ok (f a.0, a.1)) ≡ Ok read → IsOther read
field_is f each (Ok x) read is = done_is f each x (length x.1 == 0) read is
field_is f each (Err e) read is = absurd (ok-err read _ (sym is))

module _ (shape : Shape) (limits : IsVolume shape) (P : Ask → Type 0) (small : (ask : Ask) → P ask → AreSmall ask.session ask.read ask.block) (memory : Option Memory)
    (readable : (m : Memory) → memory ≡ Some m → IsReadable shape m.replica.view) where
  answer_read : (x : Answer) → IsAnswerTo shape P memory x → message_at (message_bytes (message.Answer x)) ≡ Ok (message.Answer x)
  answer_read x to =
      let view : View = to.m.replica.view in
      subst (λ (y : Answer). message_at (message_bytes (message.Answer y)) ≡ Ok (message.Answer y)) (sym to.is) (answer_again shape limits view (readable to.m to.there) to.ask (small to.ask to.asked))

  pub sent_answer : (m : Message) → AnswersFor shape P memory m → (a : Answer) → message_at (message_bytes m) ≡ Ok (message.Answer a) → m ≡ message.Answer a
  unfolding message_at
  sent_answer (message.Answer x) to a is = same_ok (message.Answer x) (message.Answer a) (sym (answer_read x to) ∙ is)
  sent_answer (message.Prepared m) to a is = absurd (field_is (λ (y : Prepared). message.Prepared y) (λ y. tt) (prepared_at (prepared_bytes m)) (message.Answer a) is)
  sent_answer (message.Committed m) to a is = absurd (field_is (λ (y : Committed). message.Committed y) (λ y. tt) (committed_at (committed_bytes m)) (message.Answer a) is)
  sent_answer (message.Gathered m) to a is = absurd (field_is (λ (y : Gathered). message.Gathered y) (λ y. tt) (gathered_at (gathered_bytes m)) (message.Answer a) is)
  sent_answer (message.Staged m) to a is = absurd (field_is (λ (y : ℕ). message.Staged (record { session = y })) (λ y. tt) (u64_at (be8 m.session)) (message.Answer a) is)
  sent_answer (message.Switched m) to a is = absurd (field_is (λ (y : ℕ). message.Switched (record { session = y })) (λ y. tt) (u64_at (be8 m.session)) (message.Answer a) is)
  sent_answer (message.Part m) to a is = absurd (field_is (λ (y : Record). message.Part (record { rec = y })) (λ y. tt) (record_at (record_bytes m.rec)) (message.Answer a) is)
  sent_answer (message.Ask m) to a is = absurd (field_is (λ (y : Ask). message.Ask y) (λ y. tt) (ask_at (ask_bytes m)) (message.Answer a) is)
  sent_answer (message.Gather m) to a is = absurd (field_is (λ (y : ℕ). message.Gather (record { session = y })) (λ y. tt) (u64_at (be8 m.session)) (message.Answer a) is)
  sent_answer (message.Stage m) to a is = absurd (field_is (λ (y : Base). message.Stage (record { base = y })) (λ y. tt) (base_at (base_bytes m.base)) (message.Answer a) is)
  sent_answer (message.Switch m) to a is = absurd (field_is (λ (y : ℕ). message.Switch (record { session = y })) (λ y. tt) (u64_at (be8 m.session)) (message.Answer a) is)
  sent_answer (message.Dump m) to a is = absurd (field_is (λ (y : Dump). message.Dump y) (λ y. tt) (dump_at (dump_bytes m)) (message.Answer a) is)
  sent_answer (message.Dumped m) to a is = absurd (field_is (λ (y : Dumped). message.Dumped y) (λ y. tt) (dumped_at (dumped_bytes m)) (message.Answer a) is)

-- ---- what the client handed over was tagged

module _ (volume : Volume) (posts : List Posted) where
  abbrev shape : Shape
  shape = volume.geometry

  abbrev pub Tagged : Judge → Record → Type 0
  Tagged judge rec = IsTagged volume.geometry volume.key judge rec

  -- each record that the client posted, in the first messages that were sent
  abbrev pub PostedOwn : Judge → ℕ → Type 0
  PostedOwn judge sent = (k : ℕ) → 0 < k → k ≤ sent → (rec : Record) → IsAmong rec (records_posted (posted_at posts k)) → Tagged judge rec

  abbrev pub IsOwn : Judge → Letter → Type 0
  IsOwn judge l = l.from ≡ sender.Client → (rec : Record) → IsAmong rec (records_in l.message) → Tagged judge rec

  abbrev pub AreOwn : Judge → List Letter → Type 0
  AreOwn judge letters = AllByRecursion (IsOwn judge) letters

  -- in the first messages that were sent, each answer of that node
  abbrev pub AnswersRooted : NodeName → Judge → ℕ → Type 0
  AnswersRooted name judge sent =
      (k : ℕ) → 0 < k → k ≤ sent → (post : Posted) → posted_at posts k ≡ Some post → post.from ≡ sender.Node name → (a : Answer) → message_at post.bytes ≡ Ok (message.Answer a)
      → IsRootedIn volume.geometry volume.key judge name.region a

  -- ---- more is known

  module _ (before after : Judge) (sized : EachKnown before (IsSized volume.geometry)) (grows : Grows before after) where
    more : (rec : Record) → Tagged before rec → Tagged after rec
    more rec tagged = tagged-grows volume.geometry volume.key before after rec sized grows tagged

    pub posted_more : (sent : ℕ) → PostedOwn before sent → PostedOwn after sent
    posted_more sent own = λ k counted low rec among. more rec (own k counted low rec among)

    pub own_more : (letters : List Letter) → AreOwn before letters → AreOwn after letters
    own_more letters own = all_then (IsOwn before) (IsOwn after) (λ l is from rec among. more rec (is from rec among)) letters own

    pub rooted_more : (g : ℕ) (a : Answer) → IsRootedIn volume.geometry volume.key before g a → IsRootedIn volume.geometry volume.key after g a
    rooted_more g a rooted = record { rec = rooted.rec; tagged = more rooted.rec rooted.tagged; session = rooted.session; region = rooted.region; number = rooted.number; leads = rooted.leads }

  -- ---- what is handed over

  module _ (judge : Judge) (events : List Event) (sent : ℕ) (client : is_lied_for events sender.Client ≡ false) (own : PostedOwn judge sent) where
    -- of the client, if it is
    sender_own : (from : Sender) (r : Result Message MessageError) → ((rec : Record) → IsAmong rec (if is_client from then records_of r else []) → Tagged judge rec) → AreOwn judge (letter_of from r)
    sender_own sender.Client (Ok m) good = ((λ is rec among. good rec among), tt)
    sender_own (sender.Node name) (Ok m) good = ((λ is rec among. absurd (not_client name is)), tt) where
      not_client : (name : NodeName) → sender.Node name ≡ sender.Client → ⊥
      not_client name is = cc
    sender_own from (Err e) good = tt

    post_own : (o : Option Posted) → ((rec : Record) → IsAmong rec (records_posted o) → Tagged judge rec) → AreOwn judge (letter_in_post o)
    post_own None good = tt
    post_own (Some m) good = sender_own m.from (message_at m.bytes) good

    lie_own : (from : Sender) (bytes : List ℕ) → is_lied_for events from ≡ true → AreOwn judge (letter_of from (message_at bytes))
    lie_own sender.Client bytes lied = absurd (true≢false (sym lied ∙ client))
    lie_own (sender.Node name) bytes lied = sender_own (sender.Node name) (message_at bytes) (λ rec none. absurd none)

    pub handed_own : (what : Handed) → IsHandedOver events sent what → AreOwn judge (letters_in posts what)
    handed_own (handed.Deliver k) over = post_own (posted_at posts k) (own k over.0 over.1)
    handed_own (handed.Stop k) over = post_own (posted_at posts k) (own k over.0 over.1)
    handed_own (handed.Lie from bytes) over = lie_own from bytes over
    handed_own handed.Tick over = tt
    handed_own handed.Crash over = tt
    handed_own handed.Replace over = tt
    handed_own (handed.Asked r) over = tt
    handed_own handed.ClientCrash over = tt

  -- ---- a licence

  letter_tagged : (judge : Judge) (letters : List Letter) → AreOwn judge letters → (m : Message) → WasHanded letters sender.Client m → (rec : Record) → IsAmong rec (records_in m) → Tagged judge rec
  letter_tagged judge letters own m was rec among = among_all (IsOwn judge) letters (record { from = sender.Client; message = m }) was own refl rec among

  pub answer_licence : (letters : List Letter) (formatted : Record) (held : List Held) (everywhere : (Held → Type 0) → Type 0) (g : ℕ) (m : Message) (a : Answer) → m ≡ message.Answer a
      → IsLicensed volume.geometry letters formatted held everywhere g m → IsRooted volume.geometry letters formatted g a
  answer_licence letters formatted held everywhere g m a is licence = subst (λ (y : Message). IsLicensed volume.geometry letters formatted held everywhere g y) is licence

  -- what a node answers leads to such a record
  pub licensed_rooted : (judge : Judge) (letters : List Letter) (formatted : Record) (g : ℕ) (a : Answer) → AreOwn judge letters → Tagged judge formatted → IsRooted volume.geometry letters formatted g a
      → IsRootedIn volume.geometry volume.key judge g a
  licensed_rooted judge letters formatted g a own first rooted =
      let named : IsNamedRoot letters formatted a.session g a.at rooted.0 = rooted.1 in
      let rec : Record = named.0 in
      record {
        rec = rec;
        tagged = elim named.5 [
          | inl same ↦ subst (λ (r : Record). Tagged judge r) (sym same) first
          | inr (inl part) ↦ letter_tagged judge letters own (message.Part (record { rec = rec })) part rec (inl refl)
          | inr (inr stage) ↦ letter_tagged judge letters own (message.Stage (record { base = record { rec = rec; blocks = stage.0 } })) stage.1 rec (inl refl)
        ];
        session = named.1;
        region = named.2;
        number = named.3;
        leads = subst (λ (root : List ℕ). Verifies root volume.geometry.height (place_of volume.geometry a.block) a.bytes a.path) (sym named.4) rooted.2;
      }
