-- The choice of a restart is the abstract greatest, and there is one where something is recoverable.
use Rattle.std.proofs.Common.{◌≡◌, ℕ, ◌<◌, ◌≤◌, ◌∙◌, true, List, ◌++◌, length, Some, is_some, inr, ap, sym, subst, arith}
use Rattle.std.specs.Prelude.{flat_map}
use Rattle.salus_types.specs.Volume.{Shape}
use Rattle.salus_types.specs.declared.records.Header.{Header}
use Rattle.schedule_text.specs.declared.schedule.Event.{Event}
use Rattle.schedule_text.specs.declared.schedule.Volume.{Volume}
use Rattle.merkle_region.proofs.Membership.{among_left, among_right}
use Rattle.volume_model.specs.Parts.{Session}
use Rattle.volume_model.specs.Recovering.{Pool, choice_of}
use Rattle.salus_model.specs.Judge.{Judge, known_at}
use Rattle.salus_model.specs.Hearing.{News}
use Rattle.salus_model.specs.Opening.{Reply, replies_to, pool_of}
use Rattle.salus_model.specs.Seen.{known_strings, news_strings}
use Rattle.list_lemmas.proofs.Members.{among_flat_map-in}
use Rattle.law_lemmas.proofs.Settled.{EachKnown}
use Rattle.law_lemmas.proofs.Numbered.{IsSized}
use Rattle.law_lemmas.proofs.Owned.{known_among, known-session}
use Rattle.law_history.proofs.Chosen.{IsTaggedPool, HasContents, IsRightChoice, choice_right}
use Rattle.law_history.proofs.Seeing.{has_contents}
use Rattle.law_history.proofs.Heard.{pool_tagged}
use Rattle.law_prefix.specs.Numbers.{Mem}
use Rattle.law_prefix.specs.World as model
use Rattle.law_prefix.specs.Steps.{IsChoice, IsRecoverable}
use Rattle.kept_model.specs.Batches.{list_of, start_of}
use Rattle.kept_model.specs.Nodes.{volume_as}
use Rattle.law_records.specs.Replying.{IsOfSound, IsTold, KnowsSame}
use Rattle.law_records.proofs.Numbers.{length-touching}
use Rattle.law_records.proofs.Recovered.{sized_of, choice_above, some_choice}

module _ (volume : Volume) (events : List Event) (judge : Judge) (news : List News) (e : ℕ) (told : IsTold volume judge news) where
  abbrev shape : Shape
  shape = volume.geometry

  abbrev strings : List (List ℕ)
  strings = known_strings shape judge ++ flat_map (news_strings shape) news

  abbrev replies : List Reply
  replies = replies_to e news

  abbrev pool : Pool
  pool = pool_of shape volume.key replies

  all_sized : EachKnown judge (IsSized shape)
  all_sized = λ known k at. sized_of shape known (told.sessions known k at)

  all_contents : EachKnown judge (HasContents shape strings)
  all_contents = λ known k at s g x within inside m.
      among_left x (known_strings shape judge) (flat_map (news_strings shape) news) (has_contents shape judge known (known_among judge k known at) s g x within inside m)

  tagged : IsTaggedPool shape volume.key judge strings pool
  tagged =
      pool_tagged volume judge strings e news (λ x m. record {
        tagged = told.tagged x m;
        seen = λ y n. among_right y (known_strings shape judge) (flat_map (news_strings shape) news) (among_flat_map-in (news_strings shape) x y news m n);
      })

  module _ (w : model.World) (all : List model.Reply) (same : KnowsSame shape judge w.client)
      (sound : (t : model.Reply) → Mem t all → IsOfSound shape volume.key judge replies e t) where
    pub is_choice : (h : Header) → choice_of shape pool ≡ Some h → IsChoice (volume_as shape events) w all h.session h.seq
    is_choice h choice =
        let right : IsRightChoice shape volume.key judge strings told.apart all_sized all_contents pool tagged h =
        choice_right shape volume.key judge strings told.apart all_sized all_contents pool tagged h choice in
        let known : Session = right.known in
        let at : known_at judge h.session ≡ Some known = right.of.at in
        let positive : 0 < known.session = (told.sessions known h.session at).positive in
        let number : known.session ≡ h.session = known-session judge h.session known at in
        let above : known.base ≤ h.seq = right.of.above in
        let within : h.seq ≤ length known.list = right.of.within in
        let some : 0 < h.session = omega (arith, positive, number) in
        record {
          known = same.known h.session (inr (known, at));
          above = subst (λ n. n ≤ h.seq) (sym (same.starts h.session ∙ ap start_of at)) above;
          within = subst (λ n. h.seq ≤ n) (sym (ap length (same.lists h.session ∙ ap (list_of shape) at) ∙ length-touching shape known.list)) within;
          greatest = λ f s is.
              choice_above shape volume.key judge strings told.apart told.sessions all_contents replies tagged events w same.lists same.starts e all sound f s h some choice is;
        }

    pub is_found : (f s : ℕ) → 0 < f → IsRecoverable (volume_as shape events) w all f s → is_some (choice_of shape pool) ≡ true
    is_found f s some is =
        some_choice shape volume.key judge strings told.apart told.sessions all_contents replies tagged events w same.lists same.starts e all sound f s some is
