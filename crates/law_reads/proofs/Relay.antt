-- What is owed is done, kept by the server, or under way: as long as each arrival passes it on. Nothing is owed to one
-- side for ever: once every message was handed over, it is done or kept.
use Rattle.std.proofs.lemmas.Bool.{true≢false}
use Rattle.std.proofs.Common.{◌≡◌, ◌⊎◌, inl, inr, ℕ, ◌≤◌, Bool, true, false, ◌||◌, List, ◌∷◌, refl, sym, ◌∙◌, arith}
use Rattle.salus_model.specs.declared.trace.TraceStep.{TraceStep}
use Rattle.salus_model.specs.Following.{hands, was_handed, sent_by}

-- a message of that kind was sent, and no step has handed it over
pub record UnderWay (Kind : ℕ → Type 0) (earlier : List TraceStep) : Type 0 where
  pub k : ℕ
  pub sent : k ≤ sent_by earlier
  pub is_one : Kind k
  pub waits : was_handed earlier k ≡ false

-- the step hands over one of that kind
pub record Arrives (Kind : ℕ → Type 0) (step : TraceStep) : Type 0 where
  pub k : ℕ
  pub is_one : Kind k
  pub handed : hands k step.handed ≡ true

pub both_false : (a b : Bool) → a ≡ false → b ≡ false → (a || b) ≡ false
both_false false b is waits = waits
both_false true b is waits = absurd (true≢false is)

stays_by : (Kind : ℕ → Type 0) (step : TraceStep) (earlier : List TraceStep) → sent_by earlier ≤ step.sent → (way : UnderWay Kind earlier)
    → (now : Bool) → hands way.k step.handed ≡ now → UnderWay Kind (step ∷ earlier) ⊎ Arrives Kind step
stays_by Kind step earlier more way true is = inr record { k = way.k; is_one = way.is_one; handed = is }
stays_by Kind step earlier more way false is =
    let low : way.k ≤ sent_by earlier = way.sent in
    inl record { k = way.k; sent = omega (arith, low, more); is_one = way.is_one; waits = both_false _ _ is way.waits }

-- in each step it stays under way, or it arrives
pub way_step : (Kind : ℕ → Type 0) (step : TraceStep) (earlier : List TraceStep) → sent_by earlier ≤ step.sent → UnderWay Kind earlier
    → UnderWay Kind (step ∷ earlier) ⊎ Arrives Kind step
way_step Kind step earlier more way = stays_by Kind step earlier more way (hands way.k step.handed) refl

-- it is done, the server keeps it, its request is under way, or the reply is
pub data Owed (Asks Replies : ℕ → Type 0) (Done Kept : Type 0) (earlier : List TraceStep) : Type 0 where
  IsDone : Done → Owed Asks Replies Done Kept earlier
  IsKept : Kept → Owed Asks Replies Done Kept earlier
  IsAsked : UnderWay Asks earlier → Owed Asks Replies Done Kept earlier
  IsAnswered : UnderWay Replies earlier → Owed Asks Replies Done Kept earlier

-- Done and kept before a step, and after it.
module _ (Asks Replies : ℕ → Type 0) (Done Kept DoneThen KeptThen : Type 0) (step : TraceStep) (earlier : List TraceStep) where
  -- what each rule has to say of one step
  pub record Relays : Type 0 where
    pub done : Done → Owed Asks Replies DoneThen KeptThen (step ∷ earlier)
    pub kept : Kept → Owed Asks Replies DoneThen KeptThen (step ∷ earlier)
    pub asked : Arrives Asks step → Owed Asks Replies DoneThen KeptThen (step ∷ earlier)
    pub answered : Arrives Replies step → Owed Asks Replies DoneThen KeptThen (step ∷ earlier)

  asked_on : Relays → UnderWay Asks (step ∷ earlier) ⊎ Arrives Asks step → Owed Asks Replies DoneThen KeptThen (step ∷ earlier)
  asked_on relays (inl way) = IsAsked way
  asked_on relays (inr arrives) = relays.asked arrives

  answered_on : Relays → UnderWay Replies (step ∷ earlier) ⊎ Arrives Replies step → Owed Asks Replies DoneThen KeptThen (step ∷ earlier)
  answered_on relays (inl way) = IsAnswered way
  answered_on relays (inr arrives) = relays.answered arrives

  pub owed_step : sent_by earlier ≤ step.sent → Relays → Owed Asks Replies Done Kept earlier → Owed Asks Replies DoneThen KeptThen (step ∷ earlier)
  owed_step more relays (IsDone done) = relays.done done
  owed_step more relays (IsKept kept) = relays.kept kept
  owed_step more relays (IsAsked way) = asked_on relays (way_step Asks step earlier more way)
  owed_step more relays (IsAnswered way) = answered_on relays (way_step Replies step earlier more way)

not_both : {b : Bool} → b ≡ true → b ≡ false → ⊥
not_both is isnt = true≢false (sym is ∙ isnt)

none_waits : (Kind : ℕ → Type 0) (earlier : List TraceStep) → ((k : ℕ) → Kind k → k ≤ sent_by earlier → was_handed earlier k ≡ true)
    → UnderWay Kind earlier → ⊥
none_waits Kind earlier all way = not_both (all way.k way.is_one way.sent) way.waits

-- once all of both kinds were handed over, it is done or kept
pub owed_end : (Asks Replies : ℕ → Type 0) (Done Kept : Type 0) (earlier : List TraceStep)
    → ((k : ℕ) → Asks k → k ≤ sent_by earlier → was_handed earlier k ≡ true)
    → ((k : ℕ) → Replies k → k ≤ sent_by earlier → was_handed earlier k ≡ true)
    → Owed Asks Replies Done Kept earlier → Done ⊎ Kept
owed_end Asks Replies Done Kept earlier all_asks all_replies (IsDone done) = inl done
owed_end Asks Replies Done Kept earlier all_asks all_replies (IsKept kept) = inr kept
owed_end Asks Replies Done Kept earlier all_asks all_replies (IsAsked way) = absurd (none_waits Asks earlier all_asks way)
owed_end Asks Replies Done Kept earlier all_asks all_replies (IsAnswered way) = absurd (none_waits Replies earlier all_replies way)
