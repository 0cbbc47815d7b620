-- What stands behind a claim of a node that was handed the client's own records alone: the session has a batch of that number.
use Rattle.std.proofs.Common.{◌≡◌, ◌∙◌, ◌⊎◌, inl, inr, ℕ, ◌^◌, ◌<◌, ◌≤◌, List, length, Some, refl, sym, subst, arith, length-append}
use Rattle.std.specs.List.{AllByRecursion}
use Rattle.salus_types.specs.Volume.{Shape}
use Rattle.salus_types.specs.declared.names.Sender.TheVariants as sender
use Rattle.salus_types.specs.declared.records.Record.{Record}
use Rattle.salus_types.specs.declared.records.Held.{Held}
use Rattle.salus_message.specs.declared.wire.Message.TheVariants as message
use Rattle.schedule_text.specs.declared.schedule.Volume.{Volume}
use Rattle.merkle_region.specs.Tree.{IsAmong}
use Rattle.volume_model.specs.Parts.{Session}
use Rattle.salus_model.specs.Judge.{Judge, known_at}
use Rattle.salus_model.specs.Following.{Posted}
use Rattle.salus_model.specs.Forgery.{IsTagged}
use Rattle.salus_model.specs.Licences.{Letter, WasHanded, IsCertified, IsFolded}
use Rattle.replica_rules.proofs.Keeping.{OfHeld}
use Rattle.list_lemmas.proofs.Members.{among_all}
use Rattle.law_lemmas.proofs.Growing.{Grows, extended}
use Rattle.law_lemmas.proofs.Numbered.{IsSized}
use Rattle.law_lemmas.proofs.Owned.{IsTold, told, known-session}
use Rattle.law_lemmas.proofs.Settled.{EachKnown}
use Rattle.law_handed.specs.Bringing.{HasOrigin, records_held}
use Rattle.law_handed.specs.Fitting.{IsSpelled, LetterGiven}
use Rattle.law_asked.proofs.Rooted.{IsOwn, AreOwn}

-- the session is known, and has a batch of that number or a later one; both numbers have their widths
pub record IsKnownUpTo (judge : Judge) (session front : ℕ) : Type 0 where
  pub known : Session
  pub at : known_at judge session ≡ Some known
  pub within : front ≤ length known.list
  pub small : (session < 2 ^ 64) × (front < 2 ^ 64)

pub up_to_more : (before after : Judge) → Grows before after → (session front : ℕ) → IsKnownUpTo before session front → IsKnownUpTo after session front
up_to_more before after grows session front k =
    let more = grows k.known session k.at in
    let within : front ≤ length k.known.list = k.within in
    record { known = extended k.known more.0; at = more.1; within = rw (length-append k.known.list more.0) (omega (arith, within)); small = k.small }

-- ---- by a record

module _ (volume : Volume) (posts : List Posted) (judge : Judge) (sized : EachKnown judge (IsSized volume.geometry)) where
  abbrev shape : Shape
  shape = volume.geometry

  abbrev IsGood : Record → Type 0
  IsGood rec = IsTagged shape volume.key judge rec × IsSpelled rec

  record_up_to : (rec : Record) → IsGood rec → (session front : ℕ) → rec.header.session ≡ session → rec.header.seq ≡ front → IsKnownUpTo judge session front
  record_up_to rec good session front of at =
      let tagged : IsTagged shape volume.key judge rec = good.0 in
      let says : IsTold shape tagged.session tagged.g rec.header = told shape volume.key tagged.session (sized tagged.session tagged.e tagged.known) tagged.g rec tagged.either in
      let number : tagged.e ≡ session = sym (known-session judge tagged.e tagged.session tagged.known) ∙ (sym says.session ∙ of) in
      record {
        known = tagged.session;
        at = subst (λ (e : ℕ). known_at judge e ≡ Some tagged.session) number tagged.known;
        within = subst (λ (x : ℕ). x ≤ length tagged.session.list) at says.within;
        small = (subst (λ (x : ℕ). x < 2 ^ 64) of good.1.widths.header_typed.session_width, subst (λ (x : ℕ). x < 2 ^ 64) at good.1.widths.header_typed.seq_width);
      }

  module _ (letters : List Letter) (own : AreOwn volume posts judge letters) (given : AllByRecursion (LetterGiven IsSpelled IsSpelled) letters) (held : Held)
      (firsts : (rec : Record) → IsAmong rec (records_held held) → IsGood rec) where
    part_good : (rec : Record) → WasHanded letters sender.Client (message.Part (record { rec = rec })) → IsGood rec
    part_good rec came = (
      among_all (IsOwn volume posts judge) letters (record { from = sender.Client; message = message.Part (record { rec = rec }) }) came own refl rec (inl refl),
      among_all (LetterGiven IsSpelled IsSpelled) letters (record { from = sender.Client; message = message.Part (record { rec = rec }) }) came given,
    )

    stage_good : (rec : Record) (blocks : List (List ℕ)) → WasHanded letters sender.Client (message.Stage (record { base = record { rec = rec; blocks = blocks } })) → IsGood rec
    stage_good rec blocks came = (
      among_all (IsOwn volume posts judge) letters (record { from = sender.Client; message = message.Stage (record { base = record { rec = rec; blocks = blocks } }) }) came own refl rec (inl refl),
      among_all (LetterGiven IsSpelled IsSpelled) letters (record { from = sender.Client; message = message.Stage (record { base = record { rec = rec; blocks = blocks } }) }) came given,
    )

    origin_good : (rec : Record) → HasOrigin held letters rec → IsGood rec
    origin_good rec (inl old) = firsts rec old
    origin_good rec (inr (inl part)) = part_good rec part
    origin_good rec (inr (inr stage)) = stage_good rec stage.0 stage.1

    -- what its licence says of a claim
    pub claim_up_to : (moments : List Held) → AllByRecursion (OfHeld (HasOrigin held letters)) moments → (session front : ℕ) → IsCertified shape letters moments session front ⊎ IsFolded moments session front
        → IsKnownUpTo judge session front
    claim_up_to moments each session front (inl certified) = record_up_to certified.rec (part_good certified.rec certified.came) session front certified.session certified.seq
    claim_up_to moments each session front (inr folded) =
        let of : OfHeld (HasOrigin held letters) folded.0 = among_all (OfHeld (HasOrigin held letters)) moments folded.0 folded.1 each in
        let origin : HasOrigin held letters folded.2.rec = among_all (λ base. HasOrigin held letters base.rec) folded.0.bases folded.2 folded.3 of.bases in
        record_up_to folded.2.rec (origin_good folded.2.rec origin) session front folded.4 folded.5
