-- A claim of a node that counted when it sent it is settled from then on.
use Rattle.std.proofs.Common.{◌≡◌, ◌⊎◌, ◌∙◌, ℕ, ◌<◌, ◌≤◌, Bool, true, false, ◌==◌, ◌&&◌, if◌then◌else◌, List, ◌∷◌, map, length, Some, inl, inr, refl, ap, sym, subst}
use Rattle.std.proofs.lemmas.Bool.{cases_Bool, cond-true, cond-false, eq-eqb}
use Rattle.std.proofs.lemmas.Option.{none-some, same_Some}
use Rattle.salus_types.specs.Volume.{Shape}
use Rattle.salus_types.specs.declared.names.NodeName.{NodeName}
use Rattle.salus_types.specs.declared.names.Sender.{Sender}
use Rattle.salus_types.specs.declared.names.Sender.TheVariants as sender
use Rattle.salus_types.specs.declared.records.Held.{Held}
use Rattle.salus_message.specs.declared.small.Committed.{Committed}
use Rattle.salus_message.specs.declared.wire.Message.TheVariants as message
use Rattle.merkle_region.specs.Tree.{NoTwoCollide}
use Rattle.schedule_text.specs.Limits.{IsOfVolume, IsPartyOfVolume, IsWithinLimits}
use Rattle.schedule_text.specs.declared.schedule.Volume.{Volume}
use Rattle.schedule_text.specs.declared.schedule.Event.{Event}
use Rattle.salus_model.specs.declared.trace.Request.TheVariants as request
use Rattle.salus_model.specs.declared.trace.Handed.{Handed}
use Rattle.salus_model.specs.declared.trace.Handed.TheVariants as handed
use Rattle.salus_model.specs.declared.trace.TraceStep.{TraceStep}
use Rattle.volume_model.specs.Groups.{same_node, same_party}
use Rattle.salus_model.specs.Complete.{session_asked}
use Rattle.salus_model.specs.Due.{past_of}
use Rattle.salus_model.specs.Following.{Posted}
use Rattle.salus_model.specs.Guarding.{counts, is_lied_for, is_replacement, replaces}
use Rattle.salus_model.specs.Hearing.{News, Asks, Says, Crashes, Silence, Past, news_of, opens}
use Rattle.client_rules.specs.State as state
use Rattle.client_rules.specs.Rules.{client_step}
use Rattle.run_rules.specs.Knowing.{KnownNode, known_to}
use Rattle.run_rules.specs.Running.{addresses, after, IsNodeStep, IsStepOf}
use Rattle.list_lemmas.proofs.Tests.{and_false}
use Rattle.law_lines.specs.Ready.{event_after}
use Rattle.law_posts.proofs.Along.{top_after}
use Rattle.law_prefix.specs.Numbers.{Mem, number}
use Rattle.law_prefix.specs.Images.{Image, reach}
use Rattle.law_prefix.specs.World as abstract
use Rattle.law_prefix.specs.Good.{Covered, Settled, ClaimGood, Good}
use Rattle.kept_model.specs.Counting.{counts_as, fresh_as}
use Rattle.kept_model.specs.Images.{image_of}
use Rattle.kept_model.specs.Matching.{Matches}
use Rattle.kept_model.specs.Messages.{claim_as}
use Rattle.kept_model.specs.Nodes.{node_of, volume_as}
use Rattle.kept_model.specs.Phases.{asked_of}
use Rattle.law_records.proofs.Counted.{both_true}
use Rattle.law_refined.specs.Stepping.{StaysIn}
use Rattle.law_matched.specs.Silent.{silent_past, known_after, StepMatches}
use Rattle.law_matched.proofs.Matched.{step_matches, replaced_matches, stays_kept}
use Rattle.law_matched.proofs.Reaching.{past_same, guarded_as}
use Rattle.law_phases.specs.Moving.{IsMoved}
use Rattle.law_phases.specs.Opening.{AsksLater, IsBefore}
use Rattle.law_phases.specs.Ordered.{IsOrdered}
use Rattle.law_phases.proofs.Counts.{counts_then}
use Rattle.law_phases.proofs.Lines.{opens_last}
use Rattle.law_phases.proofs.Whole.{step_moved}
use Rattle.law_kept.proofs.Along.{IsAlong, IsGiven, before, good_now}
use Rattle.law_kept.proofs.Next.{along_then}
use Rattle.law_covered.specs.Claiming.{IsSaid, CountedThen}
use Rattle.law_covered.proofs.Reached.{good_there, counts_there, honest_there}
use Rattle.law_covered.proofs.Staying.{claim_stays}

-- ---- two abstract worlds that tell of the same

module _ (v : abstract.Volume) (c d : abstract.Client) (images as_well : ℕ → List Image) (counting fewer : ℕ → Bool) (served : c.served ≡ d.served) (lists : (e : ℕ) → d.lists e ≡ c.lists e)
    (starts : (e : ℕ) → d.starts e ≡ c.starts e) (same : (r : ℕ) → as_well r ≡ images r) (less : (r : ℕ) → fewer r ≡ true → counting r ≡ true) where
  covered_as_well : (g : ℕ) (i : Image) (x : ℕ) → Covered c g i x → Covered d g i x
  covered_as_well g i x covered =
      subst (λ (n : ℕ). (d.served < i.session) ⊎ (i.session ≡ d.served) × (number (d.lists d.served) n x g ≤ reach i.base i.parts)) (sym (starts d.served))
      (subst (λ (l : List (List ℕ)). (d.served < i.session) ⊎ (i.session ≡ d.served) × (number l (c.starts d.served) x g ≤ reach i.base i.parts)) (sym (lists d.served))
      (subst (λ (e : ℕ). (e < i.session) ⊎ (i.session ≡ e) × (number (c.lists e) (c.starts e) x g ≤ reach i.base i.parts)) served covered))

  settled_as_well : (x : ℕ) → Settled v c images counting x → Settled v d as_well fewer x
  settled_as_well x settled = record {
    within = subst (λ (l : List (List ℕ)). x ≤ length l) (ap c.lists served ∙ sym (lists d.served)) settled.within;
    all = λ r counts_too i there. covered_as_well (v.region r) i x (settled.all r (less r counts_too) i (subst (λ (l : List Image). Mem i l) (same r) there));
  }

  good_as_well : (t : abstract.Claim) → t.counted ≡ true → ClaimGood v c images counting t → ClaimGood v d as_well fewer t
  good_as_well t counted good = record {
    old = subst (λ (e : ℕ). t.session ≤ e) served good.old;
    settled = λ either is. settled_as_well t.front (good.settled (inr counted) (is ∙ sym served));
  }

-- ---- news

asked_later : (asked : ℕ) (x : News) → AsksLater asked x → (e : ℕ) → session_asked x ≡ Some e → asked < e
asked_later asked (Asks (request.Restart f)) later e is = subst (λ k. asked < k) (same_Some f e is) later
asked_later asked (Asks (request.Reassign f g)) later e is = subst (λ k. asked < k) (same_Some f e is) later
asked_later asked (Asks (request.Write batch)) later e is = absurd (none-some e is)
asked_later asked (Asks (request.Read b)) later e is = absurd (none-some e is)
asked_later asked (Asks request.Barrier) later e is = absurd (none-some e is)
asked_later asked (Says name m) later e is = absurd (none-some e is)
asked_later asked Crashes later e is = absurd (none-some e is)
asked_later asked Silence later e is = absurd (none-some e is)

module _ (volume : Volume) (events : List Event) (posts : List Posted) (limits : IsWithinLimits (record { volume = volume; events = events })) (strings : List (List ℕ)) (none : NoTwoCollide strings)
    (unlied : is_lied_for events sender.Client ≡ false) where
  abbrev shape : Shape
  shape = volume.geometry

  abbrev v : abstract.Volume
  v = volume_as volume.geometry events

  abbrev IsGoodIn : abstract.World → abstract.Claim → Type 0
  IsGoodIn w t = ClaimGood (volume_as volume.geometry events) w.client w.images w.counts t

  -- each claim of a node that counted when it sent it is settled in that world
  abbrev pub AreSettled : List Past → abstract.World → Type 0
  AreSettled history w =
      (k : ℕ) (name : NodeName) (claim : Committed) → IsOfVolume volume.geometry name → IsSaid posts k (sender.Node name) (message.Committed claim) → CountedThen events name k history
      → ClaimGood (volume_as volume.geometry events) w.client w.images w.counts (claim_as volume.geometry name true claim)

  -- both match the same run
  both_match : (history : List Past) (known : NodeName → KnownNode) (sent : ℕ) (w x : abstract.World) → Matches shape events posts history known sent w → Matches shape events posts history known sent x
      → (t : abstract.Claim) → t.counted ≡ true → IsGoodIn w t → IsGoodIn x t
  both_match history known sent w x one other t counted good =
      good_as_well v w.client x.client w.images x.images w.counts x.counts (one.client.served ∙ sym other.client.served) (λ e. other.client.lists e ∙ sym (one.client.lists e))
      (λ e. other.client.starts e ∙ sym (one.client.starts e)) (λ r. other.images r ∙ sym (one.images r)) (λ r too. one.counts r ∙ (sym (other.counts r) ∙ too)) t counted good

  module _ (history : List Past) (n top : ℕ) (c : state.Client) (known : NodeName → KnownNode) (sent : ℕ) (a : IsAlong volume events posts limits strings none history n top c known sent) (t : TraceStep)
      (given : IsGiven volume events posts limits strings none history n top c known sent t) where
    abbrev p : Past
    p = past_of volume events posts history t

    abbrev known_then : NodeName → KnownNode
    known_then name = after volume.geometry posts name (known name) t

    abbrev next : IsAlong volume events posts limits strings none (p ∷ history) (event_after n t.event (news_of posts t)) (top_after top (news_of posts t)) (client_step volume posts c t).client known_then t.sent
    next = along_then volume events posts limits strings none unlied history n top c known sent a t given

    abbrev w : abstract.World
    w = a.reached.now

    abbrev x : abstract.World
    x = next.reached.now

    good : Good v w × abstract.Guarded v w.counts
    good = good_now volume events posts limits strings none history n top c known sent a t given

    -- ---- a step of a node

    module _ (name : NodeName) (is : t.party ≡ sender.Node name) where
      inside : IsOfVolume shape name
      inside = subst (λ (s : Sender). IsPartyOfVolume volume.geometry s) is given.addressed

      own : IsNodeStep shape posts name (known name) sent t
      own =
          let self : same_node name name ≡ true = both_true (name.region == name.region) (name.replica == name.replica) (eq-eqb name.region name.region refl) (eq-eqb name.replica name.replica refl) in
          let mine : addresses name t ≡ true = ap (λ (s : Sender). same_party s (sender.Node name)) is ∙ self in
          subst (λ (yes : Bool). IsStepOf yes shape posts name (known name) sent t) mine (given.nodes name)

      abbrev silent : Past
      silent = silent_past volume.geometry events history t

      same : p ≡ silent
      same = past_same volume events posts history t name is

      abbrev Matching : Type 0
      Matching = StepMatches shape events posts (silent ∷ history) (known_after shape posts known t) t.sent w

      stays : StaysIn t.handed → Matching
      stays in_place =
          step_matches shape limits.volume events unlied posts history known sent w a.reached.matches a.reached.stand good.1 a.reached.clients good.0.client.blank_known name inside t is own in_place
          (stays_kept t.handed in_place) given.handed

      gone : t.handed ≡ handed.Replace → Matching
      gone replace =
          replaced_matches shape limits.volume events unlied posts history known sent w a.reached.matches a.reached.stand good.1 a.reached.clients good.0.client.blank_known name inside t is own replace
          (λ q at. good.0.counts_fresh q at)
          (subst (λ q. abstract.Guarded v (counts_as shape events (q ∷ history))) same (guarded_as shape limits.volume events (p ∷ history) given.guarded))

      by_handed : (what : Handed) → t.handed ≡ what → Matching
      by_handed (handed.Deliver k) now = stays (subst StaysIn (sym now) tt)
      by_handed (handed.Stop k) now = stays (subst StaysIn (sym now) tt)
      by_handed (handed.Lie from bytes) now = stays (subst StaysIn (sym now) tt)
      by_handed handed.Tick now = stays (subst StaysIn (sym now) tt)
      by_handed handed.Crash now = stays (subst StaysIn (sym now) tt)
      by_handed handed.Replace now = gone now
      by_handed (handed.Asked r) now = stays (subst StaysIn (sym now) tt)
      by_handed handed.ClientCrash now = stays (subst StaysIn (sym now) tt)

      node_stays : (claim : abstract.Claim) → claim.counted ≡ true → IsGoodIn w claim → IsGoodIn x claim
      node_stays claim counted here =
          let one : Matching = by_handed t.handed refl in
          both_match (p ∷ history) known_then t.sent one.after x (subst (λ q. Matches shape events posts (q ∷ history) (known_after shape posts known t) t.sent one.after) (sym same) one.matches)
          next.reached.matches claim counted (claim_stays v claim w one.after one.run good.0 here)

    -- ---- a step of the client

    b : IsBefore volume events history t.event (news_of posts t) w
    b = before volume events posts limits strings none history n top c known sent a t given

    many : 0 < volume.geometry.replicas
    many = limits.volume.small_groups.0

    ordered : IsOrdered history p
    ordered = record {
      apart = next.apart;
      low = a.low;
      later = λ e begun asked. asked_later (asked_of history) p.news b.later e asked;
      last = opens_last volume events limits many history t w (news_of posts t) b;
    }

    module _ (is : t.party ≡ sender.Client) where
      moved : IsMoved shape events history p w
      moved = step_moved volume events limits many history t w a.countable (news_of posts t) b

      unreplaced : (name : NodeName) → replaces name p ≡ false
      unreplaced name = ap (λ (s : Sender). is_replacement t.handed && same_party s (sender.Node name)) is ∙ and_false (is_replacement t.handed)

      counts_now : (i : ℕ) → moved.after.counts i ≡ counts_as shape events (p ∷ history) i
      counts_now i = elim (cases_Bool (opens p)) [
        | inl opened ↦
            ap (λ (f : ℕ → Bool). f i) (moved.counts ∙ cond-true (opens p) w.fresh w.counts opened)
            ∙ (a.reached.matches.fresh i
            ∙ (sym (cond-true (opens p) (fresh_as shape events history i) (counts_as shape events history i) opened) ∙ sym (counts_then shape events history p ordered i (unreplaced (node_of shape i)))))
        | inr closed ↦
            ap (λ (f : ℕ → Bool). f i) (moved.counts ∙ cond-false (opens p) w.fresh w.counts closed)
            ∙ (a.reached.matches.counts i
            ∙ (sym (cond-false (opens p) (fresh_as shape events history i) (counts_as shape events history i) closed) ∙ sym (counts_then shape events history p ordered i (unreplaced (node_of shape i)))))
      ]

      known_same : (name : NodeName) → known_then name ≡ known name
      known_same name = ap (λ (s : Sender). if same_party s (sender.Node name) then known_to shape name.region posts (known name) t.handed t.failed t.loaded else known name) is

      images_same : (i : ℕ) → x.images i ≡ moved.after.images i
      images_same i =
          next.reached.matches.images i ∙ (ap (λ (k : KnownNode). map (λ (held : Held). image_of held) k.contents) (known_same (node_of shape i)) ∙ (sym (a.reached.matches.images i) ∙ ap (λ (f : ℕ → List Image). f i) (sym moved.images)))

      client_stays : (claim : abstract.Claim) → claim.counted ≡ true → IsGoodIn w claim → IsGoodIn x claim
      client_stays claim counted here =
          good_as_well v moved.after.client x.client moved.after.images x.images moved.after.counts x.counts (moved.client.served ∙ sym next.reached.matches.client.served)
          (λ e. next.reached.matches.client.lists e ∙ sym (moved.client.lists e)) (λ e. next.reached.matches.client.starts e ∙ sym (moved.client.starts e)) images_same
          (λ i too. counts_now i ∙ (sym (next.reached.matches.counts i) ∙ too)) claim counted (claim_stays v claim w moved.after moved.run good.0 here)

    -- ---- any step

    one_stays : (who : Sender) → t.party ≡ who → (claim : abstract.Claim) → claim.counted ≡ true → IsGoodIn w claim → IsGoodIn x claim
    one_stays sender.Client is claim counted here = client_stays is claim counted here
    one_stays (sender.Node name) is claim counted here = node_stays name is claim counted here

    -- a claim that was sent in the step
    new_settled : (k : ℕ) (name : NodeName) (claim : Committed) → IsOfVolume shape name → IsSaid posts k (sender.Node name) (message.Committed claim) → k ≤ t.sent
        → counts events (p ∷ history) name ≡ true → IsGoodIn x (claim_as shape name true claim)
    new_settled k name claim inside said low counting =
        let honest = honest_there shape limits.volume events posts (p ∷ history) known_then t.sent next.reached name inside counting in
        let there : (counted : Bool) × Mem (claim_as shape name counted claim) x.claims = next.reached.matches.messages k said.counted low said.post said.at name said.from_is honest (message.Committed claim) said.reads in
        let one : IsGoodIn x (claim_as shape name there.0 claim) =
        (good_there shape limits.volume events posts (p ∷ history) known_then t.sent next.reached).claims (claim_as shape name there.0 claim) there.1 in
        record { old = one.old; settled = λ either is. one.settled (inl (counts_there shape limits.volume events posts (p ∷ history) known_then t.sent next.reached name inside counting)) is }

    pub settled_then : AreSettled history w → AreSettled (p ∷ history) (along_then volume events posts limits strings none unlied history n top c known sent a t given).reached.now
    unfolding CountedThen
    settled_then all k name claim valid said (inl now) = new_settled k name claim valid said now.1 now.2
    settled_then all k name claim valid said (inr earlier) = one_stays t.party refl (claim_as shape name true claim) refl (all k name claim valid said earlier)
