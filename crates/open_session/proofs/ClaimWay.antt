-- A loop that claims until nothing more can be claimed.
use Rattle.std.proofs.Common.{◌≡◌, ◌∙◌, ℕ, List, [], ◌++◌, sym, ap, subst, append_assoc, append-nil}
use Rattle.std.specs.Prelude.{flat_map}
use Rattle.salus_types.specs.Volume.{Shape}
use Rattle.salus_types.specs.declared.records.Out.{Out}
use Rattle.salus_types.specs.declared.records.Header.{Header}
use Rattle.replica_rules.specs.Leading.{Leader, all_certified, front_after}
use Rattle.pipelined_commit.specs.Standing.{KeptLeader, StandsFor, IsFirst}
use Rattle.pipelined_commit.proofs.Chosen.{first-flat_map, first-front_after, none-front_after}
use Rattle.open_session.specs.Claiming.{claims_out, with_front, all_claims, IsOnTheWay}

module _ (shape : Shape) (e : ℕ) (leader : Leader) (before outs : List Out) where
  pub way-begins : (now : KeptLeader) → StandsFor now leader → IsOnTheWay shape e leader outs outs now
  way-begins now stands =
      let same : with_front now.front leader ≡ leader = ap (λ n. with_front n leader) stands.front in
      record {
        stands = subst (λ l. StandsFor now l) (sym same) stands;
        front = ap (λ n. front_after n (all_certified shape (with_front n leader))) stands.front;
        sent = ap (λ l. outs ++ all_claims shape e l) same;
      }

  module _ (now : KeptLeader) (way : IsOnTheWay shape e leader before outs now) where
    abbrev here : Leader
    here = with_front now.front leader

    pub way-more : (s : ℕ) (next : KeptLeader) (sent : List Out) → IsFirst shape here s → next.front ≡ s → StandsFor next (with_front s here) → sent ≡ outs ++ claims_out shape e s
        → IsOnTheWay shape e leader before sent next
    way-more s next sent first at stands is =
        let same : with_front next.front leader ≡ with_front s leader = ap (λ n. with_front n leader) at in
        record {
          stands = subst (λ l. StandsFor next l) (sym same) stands;
          front = ap (λ n. front_after n (all_certified shape (with_front n leader))) at ∙ sym (first-front_after shape here s first) ∙ way.front;
          sent = ap (λ l. l ++ all_claims shape e (with_front next.front leader)) is ∙ ap (λ n. (outs ++ claims_out shape e s) ++ all_claims shape e (with_front n leader)) at
              ∙ append_assoc outs (claims_out shape e s) (all_claims shape e (with_front s leader))
              ∙ ap (λ l. outs ++ l) (sym (first-flat_map (λ n. claims_out shape e n) shape here s first))
              ∙ way.sent;
        }

    pub way-front : all_certified shape here ≡ [] → now.front ≡ front_after leader.front (all_certified shape leader)
    way-front none = sym (none-front_after shape here none) ∙ way.front

    pub way-stands : all_certified shape here ≡ [] → StandsFor now (with_front (front_after leader.front (all_certified shape leader)) leader)
    way-stands none = subst (λ n. StandsFor now (with_front n leader)) (way-front none) way.stands

    pub way-sent : all_certified shape here ≡ [] → outs ≡ before ++ all_claims shape e leader
    way-sent none =
        sym (append-nil outs) ∙ ap (λ l. outs ++ flat_map (λ (h : Header). claims_out shape e h.seq) l) (sym none) ∙ way.sent
