-- Batches that are acknowledged in order.
use Rattle.std.proofs.Common.{◌≡◌, ℕ, ◌+◌, ◌-◌, ◌<◌, ◌≤◌, ◌∙◌, Bool, true, false, if◌then◌else◌, List, [], ◌∷◌, ◌++◌, map, length, drop, Option, Some, None, refl, ap, sym, subst, arith}
use Rattle.std.specs.Prelude.{slice_get}
use Rattle.salus_types.specs.Volume.{Shape}
use Rattle.replica_rules.specs.Voting.{all_claim}
use Rattle.unanimous_certificate.specs.Kept.{claims_in}
use Rattle.client_rules.specs.State.{Serving, Unacked}
use Rattle.client_rules.specs.Tables.{all_claimed}
use Rattle.client_rules.specs.Serving.{Acked, acks, acked_one, acked_lines}
use Rattle.client_window.specs.Window.{KeptWindow, IsWindow}
use Rattle.client_window.specs.Standing.{StandsFor}
use Rattle.client_window.specs.Answering.{NoAck, IsFirstAck}
use Rattle.client_window.proofs.Claiming.{all_agree}

abbrev leads : List Unacked → List ℕ
leads us = map (λ (u : Unacked). u.leader) us

-- what is acknowledged from the first on, by whether it is
abbrev step : Shape → Serving → List Unacked → Bool → Acked
step shape c left claimed =
    if claimed
    then record { client = (acks shape (acked_one c left) left).client; lines = acked_lines c ++ (acks shape (acked_one c left) left).lines }
    else record { client = c; lines = [] }

none_left : (shape : Shape) (c : Serving) (us : List Unacked) → slice_get (leads us) 0 ≡ None → acks shape c us ≡ record { client = c; lines = [] }
unfolding acks
none_left shape c [] none = refl
none_left shape c (u ∷ us) none = absurd (cc)

none_claimed : (shape : Shape) (c : Serving) (us : List Unacked) (leader : ℕ) → slice_get (leads us) 0 ≡ Some leader → all_claimed shape c.claims leader (c.acked + 1) ≡ false
    → acks shape c us ≡ record { client = c; lines = [] }
unfolding acks
none_claimed shape c [] leader is missing = absurd (cc)
none_claimed shape c (u ∷ us) leader is missing =
    let same : u.leader ≡ leader = cc in
    ap (step shape c us) (ap (λ l. all_claimed shape c.claims l (c.acked + 1)) same ∙ missing)

first_claimed : (shape : Shape) (c : Serving) (us : List Unacked) (leader : ℕ) → c.unacked ≡ us → slice_get (leads us) 0 ≡ Some leader → all_claimed shape c.claims leader (c.acked + 1) ≡ true
    → IsFirstAck shape c (c.acked + 1)
unfolding acks
first_claimed shape c [] leader are is claimed = absurd (cc)
first_claimed shape c (u ∷ us) leader are is claimed =
    let same : u.leader ≡ leader = cc in
    let now : all_claimed shape c.claims u.leader (c.acked + 1) ≡ true = ap (λ l. all_claimed shape c.claims l (c.acked + 1)) same ∙ claimed in
    record {
      first = u;
      left = us;
      unacked = are;
      number = refl;
      claimed = now;
      client = ap (λ l. (acks shape c l).client) are ∙ ap (λ t. (step shape c us t).client) now;
      lines = ap (λ l. (acks shape c l).lines) are ∙ ap (λ t. (step shape c us t).lines) now;
    }

-- a window's table of claims says what the rules' does of the next number
agrees : (w : KeptWindow) → IsWindow w → (c : Serving) → StandsFor w c → (leader : ℕ)
    → all_claim w.claims.shape (claims_in w.claims) leader (w.acked + 1) ≡ all_claimed w.shape c.claims leader (c.acked + 1)
agrees w is c stands leader =
    let low : c.base < c.acked + 1 = omega (arith, is.based, stands.base, stands.acked) in
    ap (λ shape. all_claim shape (claims_in w.claims) leader (w.acked + 1)) is.claims_shape
    ∙ ap (λ n. all_claim w.shape (claims_in w.claims) leader (n + 1)) stands.acked
    ∙ all_agree w.shape c.base leader (c.acked + 1) (claims_in w.claims) c.claims low stands.claims

module _ (w now : KeptWindow) (same : w ≡ now) (is : IsWindow w) (c : Serving) (stands : StandsFor now c) where
  here : StandsFor w c
  here = subst (λ k. StandsFor k c) (sym same) stands

  pub no_batch : slice_get w.leaders 0 ≡ None → NoAck now.shape c
  no_batch none = none_left now.shape c c.unacked (ap (λ l. slice_get l 0) (sym here.leaders) ∙ none)

  pub no_ack : (leader : ℕ) → slice_get w.leaders 0 ≡ Some leader → all_claim w.claims.shape (claims_in w.claims) leader (w.acked + 1) ≡ false → NoAck now.shape c
  no_ack leader first missing =
      subst (λ (k : KeptWindow). NoAck k.shape c) same
      (none_claimed w.shape c c.unacked leader (ap (λ l. slice_get l 0) (sym here.leaders) ∙ first) (sym (agrees w is c here leader) ∙ missing))

  pub first_ack : (leader : ℕ) → slice_get w.leaders 0 ≡ Some leader → all_claim w.claims.shape (claims_in w.claims) leader (w.acked + 1) ≡ true → IsFirstAck now.shape c (w.acked + 1)
  first_ack leader first claimed =
      subst (λ (k : KeptWindow). IsFirstAck k.shape c (w.acked + 1)) same
      (subst (λ n. IsFirstAck w.shape c (n + 1)) (sym here.acked)
      (first_claimed w.shape c c.unacked leader refl (ap (λ l. slice_get l 0) (sym here.leaders) ∙ first) (sym (agrees w is c here leader) ∙ claimed)))
