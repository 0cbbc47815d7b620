-- What the client posts fits what is known: parts are tagged, bases have the records and blocks of their sessions, and no
-- switch is to a session above those that it may have sent one for.
use Rattle.std.proofs.Common.{◌≡◌, ◌∙◌, inl, inr, ℕ, ◌^◌, ◌<◌, ◌≤◌, ◌==◌, true, List, [], length, Some, bytes_eq, refl, sym, ap, subst, arith, eqb-true}
use Rattle.std.specs.Prelude.{Ok}
use Rattle.std.proofs.lemmas.Bool.{cond-true}
use Rattle.std.proofs.lemmas.List.{take_all}
use Rattle.std.proofs.lemmas.Slice.Eq.{bytes_eq-Decides}
use Rattle.salus_types.specs.Volume.{Shape, regions, region_blocks}
use Rattle.salus_types.specs.declared.names.NodeName.{NodeName}
use Rattle.salus_types.specs.declared.names.Sender.TheVariants as sender
use Rattle.salus_types.specs.declared.records.Record.{Record}
use Rattle.salus_message.specs.declared.carried.Stage.{Stage}
use Rattle.salus_message.specs.declared.carried.Dumped.{Dumped}
use Rattle.salus_message.specs.declared.wire.Message.{Message}
use Rattle.salus_message.specs.declared.wire.Message.TheVariants as message
use Rattle.salus_message.specs.Reading.{message_at}
use Rattle.salus_message.specs.Ranges.{HasWidths}
use Rattle.schedule_text.specs.declared.schedule.Volume.{Volume}
use Rattle.merkle_region.specs.Tree.{root_of, tree_strings, IsAmong, NoTwoCollide}
use Rattle.holding_model.specs.Fitting.{has_shape}
use Rattle.volume_model.specs.Contents.{blocks_in, region_root, fold_batches}
use Rattle.volume_model.specs.Parts.{Session, contents_after, base_of}
use Rattle.salus_model.specs.Judge.{Judge, known_at, last_number}
use Rattle.salus_model.specs.Following.{Posted, posted_at}
use Rattle.salus_model.specs.Forgery.{IsTagged}
use Rattle.salus_model.specs.Hearing.{Past}
use Rattle.salus_model.specs.Opening.{is_fetched}
use Rattle.salus_model.specs.Seen.{known_strings, message_strings}
use Rattle.client_rules.specs.State.{Fetching, Beginning, Client, Closed, Serves, Gathers, Fetches, Stages, Switches}
use Rattle.list_lemmas.proofs.SameRoots.{same_roots}
use Rattle.list_lemmas.proofs.Tests.{and_left, and_right}
use Rattle.law_lemmas.proofs.Growing.{Grows, tagged-grows}
use Rattle.law_lemmas.proofs.Numbered.{IsSized, length-contents_after}
use Rattle.law_lemmas.proofs.Owned.{known_among}
use Rattle.law_lemmas.proofs.Regional.{length-blocks_in}
use Rattle.law_lemmas.proofs.Settled.{EachKnown, now-known}
use Rattle.law_lines.specs.Mirrors.{MirrorsKnown, MirrorsFetching}
use Rattle.law_lines.proofs.Parted.{base-is}
use Rattle.law_history.proofs.Seeing.{has_contents}
use Rattle.law_served.proofs.Bases.{IsBrought, brought_more}
use Rattle.law_served.proofs.Client.{IsStageOf, StagedBy, SwitchedBy, IsSentBy, MaySwitch}

abbrev pub PostFits : Shape → List ℕ → Judge → ℕ → Client → Message → Type 0
PostFits shape key judge top c (message.Part m) = IsTagged shape key judge m.rec
PostFits shape key judge top c (message.Stage m) = IsBrought shape key judge m.base
PostFits shape key judge top c (message.Switch m) = MaySwitch top c m.session × (m.session < 2 ^ 64)
PostFits shape key judge top c other = Unit {0}

-- so each message of the client, of the first that were sent
abbrev pub AllPostsFit : Shape → List ℕ → List Posted → Judge → ℕ → Client → ℕ → Type 0
AllPostsFit shape key posts judge top c sent =
    (k : ℕ) → 0 < k → k ≤ sent → (post : Posted) → posted_at posts k ≡ Some post → post.from ≡ sender.Client → (x : Message) → message_at post.bytes ≡ Ok x → PostFits shape key judge top c x

-- more is known, and the client goes on
pub fits_on : (shape : Shape) (key : List ℕ) (before after : Judge) → EachKnown before (IsSized shape) → Grows before after → (top more : ℕ) (c d : Client) → ((e : ℕ) → MaySwitch top c e → MaySwitch more d e)
    → (x : Message) → PostFits shape key before top c x → PostFits shape key after more d x
fits_on shape key before after sized grows top more c d low (message.Part m) fits = tagged-grows shape key before after m.rec sized grows fits
fits_on shape key before after sized grows top more c d low (message.Stage m) fits = brought_more shape key before after sized grows m.base fits
fits_on shape key before after sized grows top more c d low (message.Switch m) fits = (low m.session fits.0, fits.1)
fits_on shape key before after sized grows top more c d low (message.Prepared m) fits = tt
fits_on shape key before after sized grows top more c d low (message.Committed m) fits = tt
fits_on shape key before after sized grows top more c d low (message.Ask m) fits = tt
fits_on shape key before after sized grows top more c d low (message.Answer m) fits = tt
fits_on shape key before after sized grows top more c d low (message.Gather m) fits = tt
fits_on shape key before after sized grows top more c d low (message.Gathered m) fits = tt
fits_on shape key before after sized grows top more c d low (message.Staged m) fits = tt
fits_on shape key before after sized grows top more c d low (message.Switched m) fits = tt
fits_on shape key before after sized grows top more c d low (message.Dump m) fits = tt
fits_on shape key before after sized grows top more c d low (message.Dumped m) fits = tt

-- ---- what it sends now

base-session : (shape : Shape) (key : List ℕ) (known : Session) (g : ℕ) → (base_of shape key known g).header.session ≡ known.session
unfolding base_of
base-session shape key known g = refl

base-number : (shape : Shape) (key : List ℕ) (known : Session) (g : ℕ) → (base_of shape key known g).header.seq ≡ known.base
unfolding base_of
base-number shape key known g = refl

module _ (volume : Volume) (judge : Judge) where
  abbrev shape : Shape
  shape = volume.geometry

  stage_brought : (b : Beginning) → MirrorsKnown judge b → (m : Stage) → IsStageOf volume b.session b.seq b.contents m → IsBrought shape volume.key judge m.base
  stage_brought b k m is =
      let own : m.base.rec ≡ base_of shape volume.key k.known is.g = is.rec ∙ base-is volume judge b k is.g in
      let session : m.base.rec.header.session ≡ b.session = ap (λ (r : Record). r.header.session) own ∙ (base-session shape volume.key k.known is.g ∙ k.session) in
      let seq : m.base.rec.header.seq ≡ k.known.base = ap (λ (r : Record). r.header.seq) own ∙ base-number shape volume.key k.known is.g in
      let base : k.known.base ≡ b.seq = k.base in
      let count : length k.known.list ≡ b.seq = k.count in
      let whole : b.contents ≡ contents_after k.known m.base.rec.header.seq =
      k.contents ∙ ap (fold_batches k.known.origin) (sym (take_all m.base.rec.header.seq k.known.list (omega (arith, seq, base, count)))) in
      record {
        g = is.g;
        known = k.known;
        at = ap (known_at judge) session ∙ k.at;
        own = inr (record { inside = is.inside; is = own });
        blocks = elim is.blocks [
          | inl none ↦ inl none
          | inr same ↦ inr (same ∙ ap (λ (c : List (List ℕ)). blocks_in shape c is.g) whole)
        ];
      }

  -- the session that begins, of a client that stages
  abbrev pub BeginsKnown : Client → Type 0
  BeginsKnown (Stages b) = MirrorsKnown judge b
  BeginsKnown Closed = Unit {0}
  BeginsKnown (Serves c) = Unit {0}
  BeginsKnown (Gathers g) = Unit {0}
  BeginsKnown (Fetches f) = Unit {0}
  BeginsKnown (Switches b) = Unit {0}

  staged_fits : (top : ℕ) (c : Client) → BeginsKnown c → (m : Stage) → StagedBy volume c m → IsBrought shape volume.key judge m.base
  staged_fits top (Stages b) begun m sent = stage_brought b begun m sent
  staged_fits top Closed begun m sent = absurd sent
  staged_fits top (Serves c) begun m sent = absurd sent
  staged_fits top (Gathers g) begun m sent = absurd sent
  staged_fits top (Fetches f) begun m sent = absurd sent
  staged_fits top (Switches b) begun m sent = absurd sent

  switched_fits : (top : ℕ) (c : Client) (e : ℕ) → SwitchedBy c e → MaySwitch top c e
  switched_fits top (Switches b) e sent = let same : e ≡ b.session = sent in omega (arith, same)
  switched_fits top Closed e sent = absurd sent
  switched_fits top (Serves c) e sent = absurd sent
  switched_fits top (Gathers g) e sent = absurd sent
  switched_fits top (Fetches f) e sent = absurd sent
  switched_fits top (Stages b) e sent = absurd sent

  pub letter_fits : (top : ℕ) (c : Client) → BeginsKnown c → (x : Message) → IsSentBy volume c x → HasWidths x → ((rec : Record) → x ≡ message.Part (record { rec = rec }) → IsTagged shape volume.key judge rec)
      → PostFits shape volume.key judge top c x
  letter_fits top c begun (message.Part m) sent wide tagged = tagged m.rec refl
  letter_fits top c begun (message.Stage m) sent wide tagged = staged_fits top c begun m sent
  letter_fits top c begun (message.Switch m) sent wide tagged = (switched_fits top c m.session sent, wide)
  letter_fits top c begun (message.Prepared m) sent wide tagged = tt
  letter_fits top c begun (message.Committed m) sent wide tagged = tt
  letter_fits top c begun (message.Ask m) sent wide tagged = tt
  letter_fits top c begun (message.Answer m) sent wide tagged = tt
  letter_fits top c begun (message.Gather m) sent wide tagged = tt
  letter_fits top c begun (message.Gathered m) sent wide tagged = tt
  letter_fits top c begun (message.Staged m) sent wide tagged = tt
  letter_fits top c begun (message.Switched m) sent wide tagged = tt
  letter_fits top c begun (message.Dump m) sent wide tagged = tt
  letter_fits top c begun (message.Dumped m) sent wide tagged = tt

  -- ---- blocks that are fetched

  -- they are those of the array, since their root is
  pub fetched_same : (strings : List (List ℕ)) → NoTwoCollide strings → EachKnown judge (IsSized shape) → (history : List Past) (f : Fetching) (name : NodeName) (d : Dumped) → MirrorsFetching history judge f
      → ((x : List ℕ) → IsAmong x (known_strings shape judge) → IsAmong x strings) → ((x : List ℕ) → IsAmong x (message_strings shape (message.Dumped d)) → IsAmong x strings)
      → is_fetched shape f.served f.region (region_root shape f.contents f.region) name d ≡ true → f.region < regions shape → d.blocks ≡ blocks_in shape f.contents f.region
  unfolding has_shape
  fetched_same strings none sized history f name d mirrors known_seen seen is inside =
      let front = and_left _ (bytes_eq (root_of shape.height d.blocks) (region_root shape f.contents f.region)) is in
      let same_root : bytes_eq (root_of shape.height d.blocks) (region_root shape f.contents f.region) ≡ true = and_right _ (bytes_eq (root_of shape.height d.blocks) (region_root shape f.contents f.region)) is in
      let shaped : has_shape shape d.blocks ≡ true = and_right _ (has_shape shape d.blocks) front in
      let long : length d.blocks ≡ region_blocks shape = eqb-true (length d.blocks) (region_blocks shape) (and_left (length d.blocks == region_blocks shape) _ shaped) in
      let root : root_of shape.height d.blocks ≡ region_root shape f.contents f.region = (bytes_eq-Decides (root_of shape.height d.blocks) (region_root shape f.contents f.region)).0 same_root in
      let whole : contents_after judge.now (last_number judge) ≡ f.contents =
      ap (fold_batches judge.now.origin) (take_all (last_number judge) judge.now.list (omega arith)) ∙ sym mirrors.contents in
      let here : blocks_in shape (contents_after judge.now (last_number judge)) f.region ≡ blocks_in shape f.contents f.region = ap (λ c. blocks_in shape c f.region) whole in
      same_roots strings none shape.height d.blocks (blocks_in shape (contents_after judge.now (last_number judge)) f.region) long
      (length-blocks_in shape (contents_after judge.now (last_number judge)) f.region (length-contents_after shape judge.now (sized judge.now judge.now.session (now-known judge)) (last_number judge)) inside)
      (λ x among. seen x (subst (IsAmong x) (sym (cond-true (has_shape shape d.blocks) (tree_strings shape.height d.blocks) [] shaped)) among))
      (λ x among. known_seen x (has_contents shape judge judge.now (known_among judge judge.now.session judge.now (now-known judge)) (last_number judge) f.region x (omega arith) inside among))
      (root ∙ ap (root_of shape.height) (sym here)) ∙ here
